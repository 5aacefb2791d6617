use Rattle.std.proofs.Common.{◌≡◌, [], Option, option_map, ap, refl}
use Rattle.mu_outside.specs.Disks.{Disk, at_rest, wrote}
use Rattle.mu_journal.specs.Formats.{closed, opened}
use Rattle.mu_journal.proofs.Moments.{with_one}
use Rattle.mu_journal.proofs.Repairs.{head_opens}
use Rattle.mu_journal.proofs.cleaning.open_new.Goals as goal

pub returns-clause-any_moment : goal.returns-clause-any_moment
returns-clause-any_moment g c bytes is le =
    with_one g.O.Outside.observed g.O.Outside.moment c.args.out.now c.write_through.new.out (λ image. opened image ≡ opened bytes) _ (wrote 0 (closed []) (at_rest bytes))
    c.write_through.ensures.within (ap (λ (d : Option Disk). option_map (wrote 0 (closed [])) d) is) (λ image at. head_opens bytes (closed []) image le refl at)
