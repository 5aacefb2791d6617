use Rattle.std.proofs.Common.{arith, ◌∙◌, sym, ap, map, List, ℕ, ◌++◌, [], ◌∷◌, append_assoc}
use Rattle.std.specs.List.{flat_map}
use Rattle.std.specs.Map.Iter.{deref_pair}
use Rattle.std.proofs.lemmas.List.{map-append}
use Rattle.mu_machine.specs.Pages.{proof_line}
use Rattle.mu_machine.proofs.PageLemmas.{lines_more}
use Rattle.mu_machine.proofs.pages.add_checked.Goals as goal

pub loop-entry-preserved : goal.loop-entry-preserved
loop-entry-preserved c =
    let e = c.args.store.now in
    let r = c.args.checker.now.rule in
    let entry = deref_pair c.in-Some.entry in
    let told = map deref_pair c.loop-entry.yielded in
    let first = c.args.page.now.items in
    record {
      page =
          c.in_ok-add_proof.ensures.line
          ∙ ap (λ (name : List ℕ). c.loop-entry.page.items ++ proof_line e name entry) c.loop-entry.invariant.rule
          ∙ ap (λ (text : List ℕ). text ++ proof_line e r entry) c.loop-entry.invariant.page
          ∙ append_assoc first (flat_map (proof_line e r) told) (proof_line e r entry)
          ∙ ap (λ (text : List ℕ). first ++ text) (sym (lines_more e r told entry))
          ∙ ap (λ entries. first ++ flat_map (proof_line e r) entries) (sym (map-append deref_pair c.loop-entry.yielded (c.in-Some.entry ∷ [])));
      checker = c.in_ok-add_proof.ensures.kept;
      rule = c.in_ok-add_proof.ensures.rule ∙ c.loop-entry.invariant.rule;
      work = omega arith;
    }
