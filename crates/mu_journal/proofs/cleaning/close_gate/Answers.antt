use Rattle.std.proofs.Common.{◌≡◌, ◌∷◌, ◌++◌, [], Option, option_map, ap}
use Rattle.mu_outside.specs.Disks.{Disk, at_rest, wrote}
use Rattle.mu_journal.specs.Formats.{head, blocks, opened}
use Rattle.mu_journal.proofs.Moments.{look_none, with_one}
use Rattle.mu_journal.proofs.Repairs.{close_opens, short_opens}
use Rattle.mu_journal.proofs.cleaning.close_gate.Goals as goal

pub returns-then-gate-eq0-clause-any_moment : goal.returns-then-gate-eq0-clause-any_moment
returns-then-gate-eq0-clause-any_moment g c bytes records is parsed end =
    let looks = look_none g.O.Outside.observed g.O.Outside.moment g.met.O.Outside.earlier g.met.O.Outside.only_now c.args.out.now in
    with_one g.O.Outside.observed g.O.Outside.moment c.args.out.now c.args.out.now (λ image. opened image ≡ opened bytes) _ (at_rest ((head ++ blocks records) ++ c.args.gate ∷ []))
    looks.within is (short_opens bytes records c.args.at c.args.gate parsed end)

pub returns-clause-any_moment : goal.returns-clause-any_moment
returns-clause-any_moment g c bytes records is parsed end =
    with_one g.O.Outside.observed g.O.Outside.moment c.args.out.now c.write_through.new.out (λ image. opened image ≡ opened bytes) _ (wrote c.args.at (0 ∷ []) (at_rest ((head ++ blocks records) ++ c.args.gate ∷ [])))
    c.write_through.ensures.within (ap (λ (d : Option Disk). option_map (wrote c.args.at (0 ∷ [])) d) is) (close_opens bytes records c.args.at parsed c.args.gate end)
