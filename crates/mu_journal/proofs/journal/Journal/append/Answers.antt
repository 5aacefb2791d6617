use Rattle.std.proofs.Common.{◌∙◌, ◌+◌, ◌∷◌, ◌++◌, [], ap, sym, subst, arith, length, Option, option_map}
use Rattle.mu_outside.specs.Disks.{Disk, at_rest, wrote, settled}
use Rattle.mu_journal.specs.Formats.{closed, open_gate}
use Rattle.mu_journal.specs.Settled.{SettledAt}
use Rattle.mu_journal.proofs.Added.{staged_moments, added_moments, added_disk, settled_added, again, length-framed}
use Rattle.mu_journal.proofs.journal.Journal.append.Goals as goal

pub returns-in_err-write_through-clause-any_moment : goal.returns-in_err-write_through-clause-any_moment
returns-in_err-write_through-clause-any_moment g c disk records is s =
    let there = subst (SettledAt disk records) (sym c.self.view_is) s in
    staged_moments g.O.Outside.observed g.O.Outside.moment c.args.out.now c.write_through.new.out records c.args.frame.now c.piece-piece.result.now c.self.inside.gate disk is there c.write_through.ensures.within

pub returns-in_err-write_through-2-clause-any_moment : goal.returns-in_err-write_through-2-clause-any_moment
returns-in_err-write_through-2-clause-any_moment g c disk records is s =
    let there = subst (SettledAt disk records) (sym c.self.view_is) s in
    added_moments g.O.Outside.observed g.O.Outside.moment c.args.out.now c.write_through.new.out records c.args.frame.now c.piece-piece.result.now c.self.inside.gate disk is there c.write_through.ensures.within
    c.piece-piece.ensures.value c.piece-piece.ensures.valid c.in_ok-write_through.ensures.disk c.write_through-2.new.out c.write_through-2.ensures.within

pub returns-clause-any_moment : goal.returns-clause-any_moment
returns-clause-any_moment g c disk records is s =
    let there = subst (SettledAt disk records) (sym c.self.view_is) s in
    added_moments g.O.Outside.observed g.O.Outside.moment c.args.out.now c.write_through.new.out records c.args.frame.now c.piece-piece.result.now c.self.inside.gate disk is there c.write_through.ensures.within
    c.piece-piece.ensures.value c.piece-piece.ensures.valid c.in_ok-write_through.ensures.disk c.write_through-2.new.out c.write_through-2.ensures.within

pub returns-clause-acknowledged : goal.returns-clause-acknowledged
returns-clause-acknowledged g c disk records is s =
    let one = c.args.frame.now in
    let at = c.self.inside.gate in
    let there = subst (SettledAt disk records) (sym c.self.view_is) s in
    let size = ap length c.piece-piece.ensures.value ∙ length-framed one in (
      at_rest (closed (records ++ one ∷ [])),
      added_disk g.O.Outside.observed g.O.Outside.moment c.args.out.now c.write_through.new.out records one c.piece-piece.result.now at disk is there c.write_through.ensures.within
          c.piece-piece.ensures.value c.piece-piece.ensures.valid c.in_ok-write_through.ensures.disk _ c.in_ok-write_through-2.ensures.disk,
      settled_added records one at disk there _ (omega (arith, size)) c.piece-piece.ensures.valid,
    )

pub returns-clause-again : goal.returns-clause-again
returns-clause-again g c =
    let at = c.self.inside.gate in
    let piece = c.piece-piece.result.now in
    again (g.O.Outside.observed c.args.out.now).disk (g.O.Outside.observed c.write_through-2.new.out).disk c.args.frame.now c.args.self _
    (λ none. c.in_ok-write_through-2.ensures.disk
    ∙ ap (λ (d : Option Disk). option_map settled (option_map (wrote at (open_gate ∷ [])) d)) (c.in_ok-write_through.ensures.disk ∙ ap (λ (d : Option Disk). option_map settled (option_map (wrote (at + 1) piece) d)) none))
    (returns-clause-acknowledged g c) c.requires.settled
