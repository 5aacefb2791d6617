use Rattle.std.proofs.Common.{arith, ◌≡◌, length, inr}
use Rattle.std.proofs.lemmas.Grind.{common_steps}
use Rattle.mu_graph.proofs.DerivationLemmas.{reached_start}
use Rattle.mu_graph.proofs.PassLemmas.{all_marked}
use Rattle.mu_graph.proofs.derivations.reached.Goals as goal

pub loop-marks-init : goal.loop-marks-init
loop-marks-init g c = record {
  sound = reached_start (g.C.Set.KeySet.marked c.args.marks) (g.C.Inferences.ways c.args.causes.now);
  stay = λ n h. h;
  covers = λ n s. inr s;
}

pub loop-marks-preserved : goal.loop-marks-preserved
loop-marks-preserved g c =
    let p = c.in_ok-pending.ensures in
    let i = c.loop-marks.invariant in record {
      sound = p.sound (g.C.Set.KeySet.marked c.args.marks) i.sound;
      stay = λ n h. p.stay n (i.stay n h);
      covers = λ n s. p.covers n (i.covers n s);
    }

pub returns-then-len-before : goal.returns-then-len-before
returns-then-len-before g c =
    let p = c.in_ok-pending.ensures in
    let i = c.loop-marks.invariant in
    let start = g.C.Set.KeySet.marked c.args.marks in
    let ways = g.C.Inferences.ways c.args.causes.now in
    let same : length c.in_ok-pending.pending.items ≡ length c.loop-marks.pending.items = grind (arith, common_steps) in
    λ n. (
      p.sound start i.sound n,
      all_marked ways start (g.C.Set.KeySet.marked c.pass.new.marks) c.in_ok-pending.pending.items
          (λ k h. p.stay k (i.stay k h))
          (λ k way s. p.covers k (i.covers k (c.requires k way s)))
          (p.quiet same) n,
    )
