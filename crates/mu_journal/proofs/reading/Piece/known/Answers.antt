use Rattle.std.proofs.Common.{◌≡◌, ◌∙◌, ◌+◌, ◌-◌, List, ℕ, ap, sym, subst, arith, take, drop, length}
use Rattle.std.proofs.lemmas.List.{drop-take, length-take-le}
use Rattle.mu_journal.specs.Gates.{IsKnown}
use Rattle.mu_journal.proofs.Shown.{known_part}
use Rattle.mu_journal.proofs.reading.Piece.known.Goals as goal

pub returns-in-Some-clause-known : goal.returns-in-Some-clause-known
returns-in-Some-clause-known c content known =
    let from : ℕ = c.args.self.now.from in
    let count : ℕ = c.args.self.now.count in
    let skipped : ℕ = c.in-Some.skipped in
    let items : List ℕ = c.args.self.now.bytes.items in
    let lies = c.in-Some.ensures in
    let long : length (take count items) ≡ count = length-take-le count items c.args.self.now.within in
    let whole : count ≡ skipped + (count - skipped) = omega arith in
    let same : drop skipped (take count items) ≡ take (count - skipped) (drop skipped c.deref.result.now) =
    ap (λ n. drop skipped (take n items)) whole ∙ drop-take skipped (count - skipped) items ∙ ap (λ (l : List ℕ). take (count - skipped) (drop skipped l)) (sym c.deref.ensures.value) in
    subst (IsKnown content c.args.at) same (known_part content (take count items) from skipped c.args.at known (omega (arith, lies.0, lies.1)) (omega (arith, long)))
