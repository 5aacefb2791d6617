use Rattle.std.proofs.Common.{◌≡◌, ap, sym, ◌∙◌}
use Rattle.mu_decl.specs.Opening.{shift_under}
use Rattle.mu_decl.specs.Instantiating.{instantiated}
use Rattle.mu_decl.proofs.InStep.{shift-none}
use Rattle.mu_decl.proofs.pairing.shifted_parts.Goals as goal

pub returns-then-by-eq0 : goal.returns-then-by-eq0
returns-then-by-eq0 c given =
    let none : shift_under c.args.by 0 (instantiated given c.args.argument.now) ≡ instantiated given c.args.argument.now = ap (λ n. shift_under n 0 (instantiated given c.args.argument.now)) c.if-by-eq0.true ∙ shift-none (instantiated given c.args.argument.now) in
    ((λ y. none ∙ y), (λ s. sym none ∙ s))
