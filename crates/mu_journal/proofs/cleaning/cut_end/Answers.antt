use Rattle.std.proofs.Common.{◌≡◌, ◌∙◌, ◌+◌, List, ℕ, Option, Some, option_map, ap, arith}
use Rattle.std.proofs.lemmas.Result.{on_ok_weaker}
use Rattle.mu_outside.specs.Disks.{Disk, at_rest, shortened, settled}
use Rattle.mu_journal.specs.Formats.{opened}
use Rattle.mu_journal.proofs.Moments.{with_one}
use Rattle.mu_journal.proofs.Repairs.{up_to_gate, cut_opens}
use Rattle.mu_journal.proofs.cleaning.cut_end.Goals as goal

pub returns-clause-done : goal.returns-clause-done
returns-clause-done g c = on_ok_weaker c.cut_through.result
    (λ done bytes records gate is len parsed end.
    done ∙ ap (λ (d : Option Disk). option_map settled (option_map (shortened (c.args.at + 1)) d)) is ∙ ap (λ (l : List ℕ). Some (at_rest l)) (up_to_gate bytes records c.args.at parsed gate end))
    c.cut_through.ensures.disk

pub returns-clause-any_moment : goal.returns-clause-any_moment
returns-clause-any_moment g c bytes records gate is len parsed end =
    with_one g.O.Outside.observed g.O.Outside.moment c.args.out.now c.cut_through.new.out (λ image. opened image ≡ opened bytes) _ (shortened (c.args.at + 1) (at_rest bytes))
    c.cut_through.ensures.within (ap (λ (d : Option Disk). option_map (shortened (c.args.at + 1)) d) is) (cut_opens bytes records c.args.at parsed gate end (omega (arith, len)))
