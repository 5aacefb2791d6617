use Rattle.std.proofs.Common.{arith, sym, ◌≡◌, ◌∙◌, [], ◌∷◌, ◌++◌}
use Rattle.std.proofs.lemmas.Grind.{common_steps}
use Rattle.mu_graph.proofs.PassLemmas.{one_marked, one_left}
use Rattle.mu_graph.proofs.derivations.pass.Goals as goal

pub loop-key-preserved-in-Continue-1 : goal.loop-key-preserved-in-Continue-1
loop-key-preserved-in-Continue-1 g c =
    let marked = g.C.Set.KeySet.marked in
    one_marked (g.C.Inferences.ways c.args.causes.now) (marked c.args.marks.now) (marked c.loop-key.marks) (marked c.add.new.self) c.loop-key.yielded c.loop-key.left.items c.in-Some.key c.loop-key.invariant (sym c.is_ready.ensures ∙ c.if-is_ready.true) c.in_ok-add.ensures

pub loop-key-preserved : goal.loop-key-preserved
loop-key-preserved g c =
    let marked = g.C.Set.KeySet.marked in
    let h = one_left (g.C.Inferences.ways c.args.causes.now) (marked c.args.marks.now) (marked c.loop-key.marks) c.loop-key.yielded c.loop-key.left.items c.in-Some.key c.loop-key.invariant (sym c.is_ready.ensures ∙ c.if-is_ready.false) in
    let e : c.push.new.self.items ≡ c.loop-key.left.items ++ c.in-Some.key ∷ [] = grind (arith, common_steps) in
    rw e h
