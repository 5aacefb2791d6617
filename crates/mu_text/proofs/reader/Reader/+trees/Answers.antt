use Rattle.std.proofs.Common.{rules, ◌≡◌, ◌≤◌, [], length, ◌-◌, ◌∙◌, arith, refl}
use Rattle.mu_tree.specs.Names.{IsName}
use Rattle.mu_grammar.specs.declared.symbol.Mark.TheVariants.{Not}
use Rattle.mu_grammar.specs.declared.way.Beginning.TheVariants as begins
use Rattle.mu_grammar.specs.declared.way.Opening.TheVariants as opens
use Rattle.mu_grammar.specs.declared.way.Ending.TheVariants as ends
use Rattle.mu_grammar.specs.Lexemes.{first_sort, first_bytes}
use Rattle.mu_grammar.specs.Ops.{constant_of}
use Rattle.mu_grammar.specs.Machine.{beginning_of, opening_of, ending_of, want, named, binding, given}
use Rattle.mu_text.specs.Reads.{Stops}
use Rattle.mu_text.proofs.Steps.{by_head, by_brace, err_var, err_colon, err_dot, err_brace, err_close, err_arguments, err_argument, binder_reads, name_alone, with_arguments, negation_goes, operation_grows, in_parens, more_arguments, last_argument, argument_unended, kept_constant, kept_not, after_shorter}
use Rattle.mu_text.proofs.reader.Reader.+trees.Goals as goal

pub arguments-returns-in_err-tree-clause-reads : goal.arguments-returns-in_err-tree-clause-reads
arguments-returns-in_err-tree-clause-reads t c = λ x.
    let h : Stops (λ k. want (c.args.nesting - 1) 0 (given c.args.head x [] c.args.nesting c.args.least k)) c.args.self.now c.tree.new.self c.in_err-tree.field-0.0 =
    err_argument c.args.head x c.args.nesting c.args.least c.args.self.now c.loop-args.self c.tree.new.self c.loop-args.args c.in_err-tree.field-0.0 (c.loop-args.invariant.gives x) c.in_err-tree.ensures.reads.0 in
    search rules

pub arguments-loop-args-preserved : goal.arguments-loop-args-preserved
arguments-loop-args-preserved t c =
    let r = c.in_ok-tree.ensures.reads in
    let e : ending_of c.args.head (first_sort c.tree.new.self) ≡ ends.GoesOn = cc in
    record {
      shorter = grind (arith, rules);
      gives = λ x. more_arguments c.args.head x c.args.nesting c.args.least c.args.self.now c.loop-args.self c.tree.new.self c.skip.new.self c.loop-args.args c.in_ok-args.args c.in_ok-tree.tree
          (c.loop-args.invariant.gives x) r.0 c.in_ok-args.ensures e c.skip.ensures;
    }

pub arguments-returns-in-Closes-clause-reads : goal.arguments-returns-in-Closes-clause-reads
arguments-returns-in-Closes-clause-reads t c = λ x.
    let r = c.in_ok-tree.ensures.reads in
    let e : ending_of c.args.head (first_sort c.tree.new.self) ≡ ends.Closes = cc in
    last_argument c.args.head x c.args.nesting c.args.least c.args.self.now c.loop-args.self c.tree.new.self c.skip-in-Closes.new.self c.loop-args.args c.in_ok-args.args c.in_ok-tree.tree
    (c.loop-args.invariant.gives x) r.0 c.in_ok-args.ensures e c.skip-in-Closes.ensures

pub arguments-returns-in-Nothing-clause-reads : goal.arguments-returns-in-Nothing-clause-reads
arguments-returns-in-Nothing-clause-reads t c = λ x.
    let r = c.in_ok-tree.ensures.reads in
    let e : ending_of c.args.head (first_sort c.tree.new.self) ≡ ends.Nothing = cc in
    argument_unended c.args.head x c.args.nesting c.args.least c.args.self.now c.loop-args.self c.tree.new.self c.loop-args.args c.in_ok-tree.tree (c.loop-args.invariant.gives x) r.0 r.1 e

pub binder-returns-in_err-var-clause-reads : goal.binder-returns-in_err-var-clause-reads
binder-returns-in_err-var-clause-reads t c = λ x f.
    let h : Stops (binding c.args.head x c.args.nesting c.args.least) c.args.self.now c.var.new.self c.in_err-var.field-0.0 =
    err_var c.args.head x c.args.nesting c.args.least c.args.self.now c.var.new.self c.in_err-var.field-0.0 c.in_err-var.ensures.reads in
    search rules

pub binder-returns-in_err-expect-clause-reads : goal.binder-returns-in_err-expect-clause-reads
binder-returns-in_err-expect-clause-reads t c = λ x f.
    let v = c.in_ok-var.ensures.reads in
    let h : Stops (binding c.args.head x c.args.nesting c.args.least) c.args.self.now c.expect.new.self c.in_err-expect.field-0.0 =
    err_colon c.args.head x v.0 c.args.nesting c.args.least c.args.self.now c.var.new.self c.expect.new.self c.in_err-expect.field-0.0 v.1 c.in_err-expect.ensures.expects in
    search rules

pub binder-returns-in_err-expect-2-clause-reads : goal.binder-returns-in_err-expect-2-clause-reads
binder-returns-in_err-expect-2-clause-reads t c = λ x f.
    let v = c.in_ok-var.ensures.reads in
    let d = c.in_ok-dom.ensures.reads in
    let h : Stops (binding c.args.head x c.args.nesting c.args.least) c.args.self.now c.expect-2.new.self c.in_err-expect-2.field-0.0 =
    err_dot c.args.head x v.0 c.args.nesting c.args.least c.args.self.now c.var.new.self c.expect.new.self c.tree.new.self c.expect-2.new.self c.in_ok-dom.dom c.in_err-expect-2.field-0.0 v.1
    c.in_ok-expect.ensures.expects d.0 d.1 c.in_err-expect-2.ensures.expects in
    search rules

pub binder-returns-in_err-expect-3-clause-reads : goal.binder-returns-in_err-expect-3-clause-reads
binder-returns-in_err-expect-3-clause-reads t c = λ x f.
    let v = c.in_ok-var.ensures.reads in
    let d = c.in_ok-dom.ensures.reads in
    let b = c.in_ok-body.ensures.reads in
    let h : Stops (binding c.args.head x c.args.nesting c.args.least) c.args.self.now c.expect-3.new.self c.in_err-expect-3.field-0.0 =
    err_brace c.args.head x v.0 c.args.nesting c.args.least c.args.self.now c.var.new.self c.expect.new.self c.tree.new.self c.expect-2.new.self c.tree-2.new.self c.expect-3.new.self
    c.in_ok-dom.dom c.in_ok-body.body c.in_err-expect-3.field-0.0 v.1 c.in_ok-expect.ensures.expects d.0 c.in_ok-expect-2.ensures.expects b.0 b.1 c.in_err-expect-3.ensures.expects in
    search rules

pub binder-returns-clause-reads : goal.binder-returns-clause-reads
binder-returns-clause-reads t c = λ x f.
    let v = c.in_ok-var.ensures.reads in
    let d = c.in_ok-dom.ensures.reads in
    let b = c.in_ok-body.ensures.reads in
    binder_reads c.args.head x v.0 c.args.name c.in_ok-var.var c.args.nesting c.args.least c.args.self.now c.var.new.self c.expect.new.self c.tree.new.self c.expect-2.new.self c.tree-2.new.self c.expect-3.new.self
    c.in_ok-dom.dom c.in_ok-body.body c.in_ok-operand.operand v.1 c.in_ok-expect.ensures.expects d.0 c.in_ok-expect-2.ensures.expects b.0 c.in_ok-expect-3.ensures.expects f v.2 c.in_ok-operand.ensures

pub named-returns-in_err-args-in-Arguments-clause-reads : goal.named-returns-in_err-args-in-Arguments-clause-reads
named-returns-in_err-args-in-Arguments-clause-reads t c = λ x f.
    let e : opening_of c.args.head (first_sort c.args.self.now) ≡ opens.Arguments = cc in
    let h : Stops (named c.args.head x c.args.nesting c.args.least) c.args.self.now c.arguments.new.self c.in_err-args-in-Arguments.field-0.0 =
    err_arguments c.args.head x c.args.nesting c.args.least c.args.self.now c.skip.new.self c.arguments.new.self c.in_err-args-in-Arguments.field-0.0 (omega arith) e c.skip.ensures (c.in_err-args-in-Arguments.ensures.reads x) in
    search rules

pub named-returns-in-Nothing-clause-reads : goal.named-returns-in-Nothing-clause-reads
named-returns-in-Nothing-clause-reads t c = λ x f.
    let e : opening_of c.args.head (first_sort c.args.self.now) ≡ opens.Nothing = cc in
    name_alone c.args.head x c.args.name c.args.nesting c.args.least c.args.self.now c.leaf.result e f c.leaf.ensures

pub named-returns-in_ok-operand-in-Arguments-clause-reads : goal.named-returns-in_ok-operand-in-Arguments-clause-reads
named-returns-in_ok-operand-in-Arguments-clause-reads t c = λ x f.
    let e : opening_of c.args.head (first_sort c.args.self.now) ≡ opens.Arguments = cc in
    with_arguments c.args.head x c.args.name c.args.nesting c.args.least c.args.self.now c.skip.new.self c.arguments.new.self c.in_ok-args-in-Arguments.args c.in_ok-operand-in-Arguments.operand
    (omega arith) e c.skip.ensures (c.in_ok-args-in-Arguments.ensures.reads x) f c.in_ok-operand-in-Arguments.ensures

pub named-returns-else-nesting-eq0-2-clause-shorter : goal.named-returns-else-nesting-eq0-2-clause-shorter
named-returns-else-nesting-eq0-2-clause-shorter t c =
    let i : length c.skip-in-Binder.new.self ≤ length c.args.self.now = after_shorter c.args.self.now c.skip-in-Binder.new.self c.skip-in-Binder.ensures in
    omega (arith, c.binder.ensures.shorter, i)

pub named-returns-else-nesting-eq0-2-clause-reads : goal.named-returns-else-nesting-eq0-2-clause-reads
named-returns-else-nesting-eq0-2-clause-reads t c = λ x f.
    let e : opening_of c.args.head (first_sort c.args.self.now) ≡ opens.Binder = cc in
    by_brace c.args.head x c.args.nesting c.args.least c.args.self.now c.skip-in-Binder.new.self c.binder.new.self c.binder.result (omega arith) e c.skip-in-Binder.ensures (c.binder.ensures.reads x f)

pub negation-returns-clause-reads : goal.negation-returns-clause-reads
negation-returns-clause-reads t c =
    let r = c.in_ok-tree.ensures.reads in
    let n : c.in_ok-name.name ≡ constant_of Not = c.in_ok-name.ensures.kept (rw c.constant.ensures kept_not) ∙ c.constant.ensures in
    negation_goes c.args.nesting c.args.least c.args.self.now c.skip.new.self c.tree.new.self c.in_ok-tree.tree c.in_ok-operand.operand c.in_ok-name.name
    (omega arith) (omega arith) c.requires.first c.skip.ensures r.0 r.1 n c.in_ok-operand.ensures

pub operand-returns-in_ok-name-in-Head-clause-reads : goal.operand-returns-in_ok-name-in-Head-clause-reads
operand-returns-in_ok-name-in-Head-clause-reads t c =
    let e : beginning_of (first_sort c.args.self.now) ≡ begins.Head c.in-Head.head = cc in
    let f : IsName (first_bytes c.args.self.now) → c.in_ok-name-in-Head.name ≡ first_bytes c.args.self.now =
    λ k. c.in_ok-name-in-Head.ensures.kept (rw c.bytes.ensures k) ∙ c.bytes.ensures in
    by_head c.args.nesting c.args.least c.in-Head.head (first_bytes c.args.self.now) c.args.self.now c.skip.new.self c.named.new.self c.named.result e refl c.skip.ensures
    (c.named.ensures.reads (first_bytes c.args.self.now) f)

pub operation-returns-clause-grows : goal.operation-returns-clause-grows
operation-returns-clause-grows t c = λ w s.
    let r = c.in_ok-right.ensures.reads in
    let f : IsName (constant_of c.args.op.mark) → c.in_ok-name.name ≡ constant_of c.args.op.mark = λ k. c.in_ok-name.ensures.kept (rw c.constant.ensures k) ∙ c.constant.ensures in
    operation_grows c.args.nesting c.args.least c.args.op c.args.self.now c.skip.new.self c.tree.new.self w c.in_ok-right.right c.in_ok-operand.operand c.args.left c.in_ok-name.name
    c.requires.operator c.requires.low c.requires.left (omega arith) s c.skip.ensures r.0 r.1 f (kept_constant c.args.op.mark) c.in_ok-operand.ensures

pub paren-returns-in_err-expect-clause-reads : goal.paren-returns-in_err-expect-clause-reads
paren-returns-in_err-expect-clause-reads t c =
    let r = c.in_ok-inside.ensures.reads in
    let h : Stops (want c.args.nesting c.args.least) c.args.self.now c.expect.new.self c.in_err-expect.field-0.0 =
    err_close c.args.nesting c.args.least c.args.self.now c.skip.new.self c.tree.new.self c.expect.new.self c.in_ok-inside.inside c.in_err-expect.field-0.0 (omega arith) c.requires.first c.skip.ensures r.0 r.1 c.in_err-expect.ensures.expects in
    search rules

pub paren-returns-clause-reads : goal.paren-returns-clause-reads
paren-returns-clause-reads t c =
    let r = c.in_ok-inside.ensures.reads in
    in_parens c.args.nesting c.args.least c.args.self.now c.skip.new.self c.tree.new.self c.expect.new.self c.in_ok-inside.inside c.atom.result (omega arith) c.requires.first c.skip.ensures r.0 c.in_ok-expect.ensures.expects c.atom.ensures
