use Rattle.std.proofs.Common.{◌≡◌, ◌∙◌, ◌+◌, ◌∷◌, ◌++◌, [], List, ℕ, length, ap, sym, subst, arith, Err, IsErrOf, length-append}
use Rattle.mu_journal.specs.declared.fault.StartFault.{StartFault}
use Rattle.mu_journal.specs.declared.fault.StartFault.TheVariants as fault
use Rattle.mu_journal.specs.Formats.{Torn}
use Rattle.mu_journal.specs.Gates.{IsParsed}
use Rattle.mu_journal.proofs.Moments.{look_on}
use Rattle.mu_journal.proofs.Repairs.{parsed_broken, parsed_record}
use Rattle.mu_journal.proofs.Shown.{same_content}
use Rattle.mu_journal.proofs.opening.read_records.Goals as goal

torn_same : {T : Type 0} {m k n : ℕ} → k ≡ m → IsErrOf {T = T} {E = StartFault} (Err (fault.Torn k)) (fault.Torn n) → m ≡ n
torn_same e is = let same : _ ≡ _ = is in cc

pub returns-in-Broken-clause-torn : goal.returns-in-Broken-clause-torn
returns-in-Broken-clause-torn g c n is bytes known len =
    let i = c.loop-records.invariant in
    let parsed = i.parsed bytes known len in
    let there = same_content (g.O.Outside.observed c.args.out.now) (g.O.Outside.observed c.loop-records.out) bytes i.looks.disk known in
    let gate = c.in_ok-gate.ensures.gate bytes there parsed.there len in
    let same : 1 + length c.loop-records.records ≡ n = torn_same i.number is in
    parsed_broken bytes c.loop-records.records c.loop-records.at parsed c.in_ok-gate.gate gate c.in-Broken.is ∙ ap (λ (k : ℕ). Torn k) same

pub loop-records-preserved : goal.loop-records-preserved
loop-records-preserved g c =
    let i = c.loop-records.invariant in
    let size : ℕ = c.in-Record.size in
    let bounds = c.in_ok-gate.ensures.within size c.in-Record.is in
    let pushed : c.add.new.self ≡ c.loop-records.records ++ c.in_ok-row.row ∷ [] = c.in_ok-add.ensures.ok in
    let more : length c.add.new.self ≡ length c.loop-records.records + 1 = omega (arith, ap length pushed, length-append c.loop-records.records (c.in_ok-row.row ∷ [])) in
    let looked = look_on g.O.Outside.observed g.O.Outside.moment c.args.out.now c.loop-records.out c.look.new.out i.looks c.look.ensures.looks in
    record {
      looks = look_on g.O.Outside.observed g.O.Outside.moment c.args.out.now c.look.new.out c.read_record.new.out looked c.read_record.ensures.looks;
      known = λ bytes known.
          let there = same_content (g.O.Outside.observed c.args.out.now) (g.O.Outside.observed c.loop-records.out) bytes i.looks.disk known in
          c.in_ok-gate.ensures.known bytes there;
      parsed = λ bytes known len.
          let was = i.parsed bytes known len in
          let there = same_content (g.O.Outside.observed c.args.out.now) (g.O.Outside.observed c.loop-records.out) bytes i.looks.disk known in
          let here = same_content (g.O.Outside.observed c.args.out.now) (g.O.Outside.observed c.look.new.out) bytes looked.disk known in
          let gate = c.in_ok-gate.ensures.gate bytes there was.there len in
          let row = c.in_ok-row.ensures.read bytes here (omega (arith, bounds.2, len)) in
          let next = parsed_record bytes c.loop-records.records c.loop-records.at was c.in_ok-gate.gate size c.in_ok-row.row gate c.in-Record.is c.in_ok-row.ensures.size row bounds.0 bounds.1 (omega (arith, bounds.2, len)) in
          subst (λ (l : List (List ℕ)). IsParsed bytes l (c.loop-records.at + (5 + size))) (sym pushed) next;
      number = omega (arith, i.number, more);
      small = omega (arith, i.small);
      within = omega (arith, bounds.2);
    }
