-- The canonical text of what a line holds by reads back.
use Rattle.std.proofs.Common.{◌≡◌, ℕ, List, [], ◌∷◌, ◌++◌, Option, Some, None, map, refl, ap, sym, subst, append-nil}
use Rattle.std.specs.Prelude.{codes}
use Rattle.std.specs.Option.{option_map, option_map_or}
use Rattle.mu_tree.specs.declared.trees.Tree.{Tree}
use Rattle.mu_tree.specs.declared.why.Ref.{Ref}
use Rattle.mu_tree.specs.declared.why.Given.{Given}
use Rattle.mu_tree.specs.declared.why.Why.TheVariants as why
use Rattle.mu_grammar.specs.declared.symbol.Word.TheVariants.{Plain, Meta}
use Rattle.mu_grammar.specs.declared.symbol.Mark.TheVariants.{Becomes}
use Rattle.mu_grammar.specs.Lexemes.{Lexeme, word, mark}
use Rattle.mu_grammar.specs.Writings.{tree_of}
use Rattle.mu_grammar.specs.Excesses.{excess_of, no_excess, in_each, one_tree}
use Rattle.mu_grammar.specs.Limits.{no_trees}
use Rattle.mu_grammar.specs.SimpleParts.{PlainName}
use Rattle.mu_grammar.specs.Groups.{Behind, Optional, Parameters}
use Rattle.mu_grammar.specs.Blocks.{SomeTrees}
use Rattle.mu_grammar.specs.References.{SomeReferences}
use Rattle.mu_grammar.specs.Reasons.{IsAbstraction, SomeAbstractions, given_of, trees_in_abstraction, Reason, by_rule, by_hypothesis, by_definition, by_same, Led, IsReason, why_of, trees_in_reason}
use Rattle.mu_print.specs.Canonical.{tree_text}
use Rattle.mu_print.specs.Texts.{between, surrounded, reference_text, abstraction_text, via_text, reason_text}
use Rattle.mu_print.specs.Laws.{ReasonsReadBack}
use Rattle.mu_print.proofs.Scan.{word_run}
use Rattle.mu_print.proofs.Again.{Lexed, KeepsStop, lexed_then, lexed_after, keeps_stop-append, keeps_stop-surrounded, Readable, readable_parts, Printed, Reprints, reads_back}
use Rattle.mu_print.proofs.GroupsBack.{itself, reprints_plain, reprints_separated, reprints_behind, reprints_enclosed, reprints_any, reprints_optional}
use Rattle.mu_print.proofs.Separators.{semicolon, becomes, open_bracket, close_bracket, rule_word, via_word, from_word, with_word, hyp_word, def_word, on_word, same_word}
use Rattle.mu_print.proofs.TreesBack.{reprints_tree}
use Rattle.mu_print.proofs.NamesBack.{reprints_name, reprints_plain_name, reprints_place, reprints_vars, reprints_reference, reprints_references}
use Rattle.mu_print.proofs.BlocksBack.{reprints_some_trees}

-- the parameters of an abstraction, with their brackets
abbrev parameters_text : List (List ℕ) → List ℕ
parameters_text names = surrounded (codes "[") (codes ", ") (codes "]") names

reprints_parameters : Reprints Parameters no_trees itself parameters_text
reprints_parameters = reprints_any (reprints_enclosed open_bracket close_bracket (λ r. (refl, refl)) reprints_vars) (λ ts g. g.2) parameters_text refl (λ x xs ts l. l)

reprints_abstraction : Reprints IsAbstraction trees_in_abstraction given_of abstraction_text
unfolding abstraction_text
reprints_abstraction = record {
  reprint = λ ts x readable g none.
      let first = readable_parts (word Meta x.meta ∷ []) (g.0 ++ (mark Becomes ∷ g.1)) ts g.2 readable in
      let parts = readable_parts g.0 (mark Becomes ∷ g.1) _ refl first.1 in
      let behind = (readable_parts (mark Becomes ∷ []) g.1 _ refl parts.1).1 in
      let p = reprints_parameters.reprint g.0 x.params parts.0 g.3 refl in
      let q = reprints_tree.reprint g.1 x.body behind g.4 none in
      let meta : Lexed (codes "?" ++ x.meta) (word Meta x.meta ∷ []) = record { lexes = λ r s. word_run Meta x.meta r first.0.sound.0 s; right = (tt, tt); within = first.0.within } in
      let params = keeps_stop-surrounded (codes "[") (codes ", ") (codes "]") x.params (λ r. (refl, refl)) in
      record {
        value = record { meta = x.meta; params = p.value; body = q.value };
        spelled = word Meta x.meta ∷ (p.spelled ++ (mark Becomes ∷ q.spelled));
        lexed = lexed_then meta (keeps_stop-append (parameters_text x.params) (codes " := " ++ tree_text (tree_of x.body)) params (λ r s. (refl, refl))) (lexed_then p.lexed (λ r s. (refl, refl)) (lexed_after becomes q.lexed));
        spells = (p.spelled, q.spelled, refl, p.spells, q.spells);
        limits = q.limits;
        means = cc (p.means, q.means);
      };
}

reprints_abstractions : Reprints SomeAbstractions (in_each trees_in_abstraction) (map given_of) (λ given. between (codes "; ") (map abstraction_text given))
reprints_abstractions = reprints_separated reprints_abstraction semicolon (λ r. (refl, refl))

no_via : (via : Option (List ℕ)) → excess_of (option_map_or no_trees via []) ≡ no_excess
no_via None = refl
no_via (Some name) = refl

same_via : (via : Option (List ℕ)) → option_map itself via ≡ via
same_via None = refl
same_via (Some name) = refl

reprints_via : Reprints (Optional (Behind (codes "via") PlainName)) no_trees itself via_text
reprints_via = reprints_plain no_via same_via (reprints_optional (reprints_behind via_word reprints_plain_name))

abbrev from_text : List Ref → List ℕ
from_text refs = surrounded (codes " from ") (codes ", ") [] (map reference_text refs)

abbrev with_text : List Given → List ℕ
with_text inst = surrounded (codes " with ") (codes "; ") [] (map abstraction_text inst)

abbrev terms_text : List Tree → List ℕ
terms_text terms = surrounded (codes " with ") (codes ", ") [] (map tree_text terms)

-- nothing behind the last item
last : (before items : List ℕ) (ts : List Lexeme) → Lexed (before ++ items) ts → Lexed (before ++ (items ++ [])) ts
last before items ts l = subst (λ (text : List ℕ). Lexed (before ++ text) ts) (sym (append-nil items)) l

reprints_from : Reprints (Led (codes "from") SomeReferences) no_trees itself from_text
reprints_from = reprints_any (reprints_behind from_word reprints_references) (λ ts g. g.4) from_text refl (λ x xs ts l. last (codes " from ") _ ts l)

reprints_with : Reprints (Led (codes "with") SomeAbstractions) (in_each trees_in_abstraction) (map given_of) with_text
reprints_with = reprints_any (reprints_behind with_word reprints_abstractions) (λ ts g. g.4) with_text refl (λ x xs ts l. last (codes " with ") _ ts l)

reprints_terms : Reprints (Led (codes "with") SomeTrees) (in_each one_tree) (map tree_of) terms_text
reprints_terms = reprints_any (reprints_behind with_word reprints_some_trees) (λ ts g. g.4) terms_text refl (λ x xs ts l. last (codes " with ") _ ts l)

from_stops : (refs : List Ref) → KeepsStop (from_text refs)
from_stops refs = keeps_stop-surrounded (codes " from ") (codes ", ") [] (map reference_text refs) (λ r. (refl, refl))

with_stops : (inst : List Given) → KeepsStop (with_text inst)
with_stops inst = keeps_stop-surrounded (codes " with ") (codes "; ") [] (map abstraction_text inst) (λ r. (refl, refl))

terms_stop : (terms : List Tree) → KeepsStop (terms_text terms)
terms_stop terms = keeps_stop-surrounded (codes " with ") (codes ", ") [] (map tree_text terms) (λ r. (refl, refl))

via_stops : (via : Option (List ℕ)) → KeepsStop (via_text via)
via_stops None r s = s
via_stops (Some name) r s = (refl, refl)

printed_reason : (ts : List Lexeme) (x : Reason) → Readable ts → IsReason ts x → excess_of (trees_in_reason x) ≡ no_excess → Printed IsReason trees_in_reason why_of (why_of x) (reason_text (why_of x))
unfolding reason_text
printed_reason ts (by_rule name via refs inst) readable g none =
    let parts = readable_parts g.0 (g.1 ++ (g.2 ++ (g.3 ++ g.4))) ts g.5 readable in
    let named = readable_parts g.1 (g.2 ++ (g.3 ++ g.4)) _ refl parts.1 in
    let translated = readable_parts g.2 (g.3 ++ g.4) _ refl named.1 in
    let cited = readable_parts g.3 g.4 _ refl translated.1 in
    let n = reprints_name.reprint g.1 name named.0 g.7 refl in
    let v = reprints_via.reprint g.2 via translated.0 g.8 refl in
    let f = reprints_from.reprint g.3 refs cited.0 g.9 refl in
    let w = reprints_with.reprint g.4 inst cited.1 g.10 none in
    let given = map given_of inst in
    let cited_stop = keeps_stop-append (from_text refs) (with_text given) (from_stops refs) (with_stops given) in
    let all_stop = keeps_stop-append (via_text via) (from_text refs ++ with_text given) (via_stops via) cited_stop in
    record {
      value = by_rule n.value v.value f.value w.value;
      spelled = word Plain (codes "rule") ∷ (n.spelled ++ (v.spelled ++ (f.spelled ++ w.spelled)));
      lexed = lexed_after rule_word (lexed_then n.lexed all_stop (lexed_then v.lexed cited_stop (lexed_then f.lexed (with_stops given) w.lexed)));
      spells = (word Plain (codes "rule") ∷ [], n.spelled, v.spelled, f.spelled, w.spelled, refl, (word Plain (codes "rule"), refl, refl), n.spells, v.spells, f.spells, w.spells);
      limits = w.limits;
      means = cc (n.means, v.means, f.means, w.means);
    }
printed_reason ts (by_hypothesis n terms refs) readable g none =
    let parts = readable_parts g.0 (g.1 ++ (g.2 ++ g.3)) ts g.4 readable in
    let placed = readable_parts g.1 (g.2 ++ g.3) _ refl parts.1 in
    let cited = readable_parts g.2 g.3 _ refl placed.1 in
    let p = reprints_place.reprint g.1 n placed.0 g.6 refl in
    let t = reprints_terms.reprint g.2 terms cited.0 g.7 none in
    let f = reprints_from.reprint g.3 refs cited.1 g.8 refl in
    let trees = map tree_of terms in
    record {
      value = by_hypothesis p.value t.value f.value;
      spelled = word Plain (codes "hyp") ∷ (p.spelled ++ (t.spelled ++ f.spelled));
      lexed = lexed_after hyp_word (lexed_then p.lexed (keeps_stop-append (terms_text trees) (from_text refs) (terms_stop trees) (from_stops refs)) (lexed_then t.lexed (from_stops refs) f.lexed));
      spells = (word Plain (codes "hyp") ∷ [], p.spelled, t.spelled, f.spelled, refl, (word Plain (codes "hyp"), refl, refl), p.spells, t.spells, f.spells);
      limits = t.limits;
      means = cc (p.means, t.means, f.means);
    }
printed_reason ts (by_definition constant on) readable g none =
    let parts = readable_parts g.0 (g.1 ++ (g.2 ++ g.3)) ts g.4 readable in
    let named = readable_parts g.1 (g.2 ++ g.3) _ refl parts.1 in
    let n = reprints_name.reprint g.1 constant named.0 g.6 refl in
    let o = reprints_reference.reprint g.3 on (readable_parts g.2 g.3 _ refl named.1).1 g.8 refl in
    record {
      value = by_definition n.value o.value;
      spelled = word Plain (codes "def") ∷ (n.spelled ++ (word Plain (codes "on") ∷ o.spelled));
      lexed = lexed_after def_word (lexed_then n.lexed (λ r s. (refl, refl)) (lexed_after on_word o.lexed));
      spells = (word Plain (codes "def") ∷ [], n.spelled, word Plain (codes "on") ∷ [], o.spelled, refl, (word Plain (codes "def"), refl, refl), n.spells, (word Plain (codes "on"), refl, refl), o.spells);
      limits = refl;
      means = cc (n.means, o.means);
    }
printed_reason ts (by_same on) readable g none =
    let p = (reprints_behind same_word reprints_reference).reprint ts on readable g refl in
    record { value = by_same p.value; spelled = p.spelled; lexed = p.lexed; spells = p.spells; limits = refl; means = ap why.Same p.means }

pub reprints_reason : Reprints IsReason trees_in_reason why_of reason_text
reprints_reason = record { reprint = printed_reason }

-- each reason that some text reads as is what its canonical text reads as
pub reasons_read_back : ReasonsReadBack
unfolding ReasonsReadBack
reasons_read_back = reads_back IsReason trees_in_reason why_of reason_text reprints_reason
