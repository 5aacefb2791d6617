-- The canonical text of the head of an operation or a function reads back.
use Rattle.std.proofs.Common.{◌≡◌, ℕ, Bool, true, false, List, [], ◌++◌, Option, Some, None, map, refl, ap, ◌∙◌}
use Rattle.std.specs.Prelude.{codes}
use Rattle.std.specs.Option.{option_map, option_map_or}
use Rattle.mu_tree.specs.declared.claim.TypedVar.{TypedVar}
use Rattle.mu_tree.specs.declared.head.OpHead.{OpHead}
use Rattle.mu_grammar.specs.Lexemes.{Lexeme}
use Rattle.mu_grammar.specs.Excesses.{excess_of, no_excess, in_each}
use Rattle.mu_grammar.specs.Limits.{no_trees}
use Rattle.mu_grammar.specs.Blocks.{TypedWriting, typed_of, trees_in_typed}
use Rattle.mu_grammar.specs.Heads.{IsInputs, IsStates, IsResult, IsRest, IsHead, head_of, trees_in_head, trees_in_rest}
use Rattle.mu_grammar.proofs.Together.{none_together, none_of_both}
use Rattle.mu_print.specs.Texts.{between, variable_text, inputs_text, states_text, result_text, head_text}
use Rattle.mu_print.specs.Laws.{HeadsReadBack}
use Rattle.mu_print.proofs.Again.{KeepsStop, lexed_then, keeps_stop-append, Readable, readable_parts, Printed, Reprints, reads_back}
use Rattle.mu_print.proofs.GroupsBack.{itself, reprints_behind, reprints_enclosed, reprints_any, reprints_optional}
use Rattle.mu_print.proofs.Separators.{open_paren, close_paren, old_word, new_word, result_word}
use Rattle.mu_print.proofs.NamesBack.{reprints_plain_name, reprints_var}
use Rattle.mu_print.proofs.BlocksBack.{variables_text, reprints_typed, reprints_some_typed}

reprints_inputs : Reprints IsInputs (in_each trees_in_typed) (map typed_of) inputs_text
unfolding between
reprints_inputs = reprints_enclosed open_paren close_paren (λ r. (refl, refl)) (reprints_any reprints_some_typed (λ ts g. g) variables_text refl (λ x xs ts l. l))

reprints_result : Reprints IsResult trees_in_typed typed_of (λ v. codes " result " ++ variable_text v)
reprints_result = reprints_behind result_word reprints_typed

-- both states, behind their words
abbrev both_text : List ℕ × List ℕ → List ℕ
both_text states = (codes " old " ++ states.0) ++ (codes " new " ++ states.1)

reprints_states : Reprints IsStates no_trees itself both_text
reprints_states = record {
  reprint = λ ts x readable g none.
      let parts = readable_parts g.0 g.1 ts g.2 readable in
      let p = (reprints_behind old_word reprints_var).reprint g.0 x.0 parts.0 g.3 refl in
      let q = (reprints_behind new_word reprints_var).reprint g.1 x.1 parts.1 g.4 refl in
      record {
        value = (p.value, q.value);
        spelled = p.spelled ++ q.spelled;
        lexed = lexed_then p.lexed (λ r s. (refl, refl)) q.lexed;
        spells = (p.spelled, q.spelled, refl, p.spells, q.spells);
        limits = refl;
        means = ap (λ old. (old, q.value)) p.means ∙ ap (λ new. (x.0, new)) q.means;
      };
}

-- what follows the inputs: the states and the result
abbrev Rest : Type 0
Rest = Option (List ℕ × List ℕ) × Option TypedWriting

abbrev rest_of : Rest → Option (List ℕ × List ℕ) × Option TypedVar
rest_of x = (x.0, option_map typed_of x.1)

abbrev IsRestOf : Bool → List Lexeme → Rest → Type 0
IsRestOf op ts x = IsRest op ts x.0 x.1

abbrev rest_text : Option (List ℕ × List ℕ) × Option TypedVar → List ℕ
rest_text y = states_text y.0 ++ result_text y.1

result_stops : (result : Option TypedVar) → KeepsStop (result_text result)
result_stops None r s = s
result_stops (Some v) r s = (refl, refl)

states_stop : (states : Option (List ℕ × List ℕ)) → KeepsStop (states_text states)
states_stop None r s = s
states_stop (Some states) r s = (refl, refl)

printed_rest : (op : Bool) (ts : List Lexeme) (states : Option (List ℕ × List ℕ)) (result : Option TypedWriting) → Readable ts → IsRest op ts states result → excess_of (option_map_or trees_in_typed result []) ≡ no_excess
    → Printed (IsRestOf op) trees_in_rest rest_of (states, option_map typed_of result) (rest_text (states, option_map typed_of result))
printed_rest true ts (Some states) result readable g none =
    let parts = readable_parts g.0 g.1 ts g.2 readable in
    let p = reprints_states.reprint g.0 states parts.0 g.3 refl in
    let q = (reprints_optional reprints_result).reprint g.1 result parts.1 g.4 none in
    record {
      value = (Some p.value, q.value);
      spelled = p.spelled ++ q.spelled;
      lexed = lexed_then p.lexed (result_stops (option_map typed_of result)) q.lexed;
      spells = (p.spelled, q.spelled, refl, p.spells, q.spells);
      limits = q.limits;
      means = cc (p.means, q.means);
    }
printed_rest true ts None result readable g none = absurd g
printed_rest false ts None (Some result) readable g none =
    let p = reprints_result.reprint ts result readable g none in
    record { value = (None, Some p.value); spelled = p.spelled; lexed = p.lexed; spells = p.spells; limits = p.limits; means = cc p.means }
printed_rest false ts None None readable g none = absurd g
printed_rest false ts (Some states) result readable g none = absurd g

-- a head of its parts
abbrev headed : List ℕ → List TypedVar → Option (List ℕ × List ℕ) × Option TypedVar → List ℕ × OpHead
headed name inputs rest = (name, record { inputs = inputs; states = rest.0; result = rest.1 })

reprints_head : (op : Bool) → Reprints (IsHead op) trees_in_head head_of (λ x. head_text x.0 x.1)
unfolding head_text
reprints_head op = record {
  reprint = λ ts x readable g none.
      let parts = readable_parts g.0 (g.1 ++ g.2) ts g.3 readable in
      let behind = readable_parts g.1 g.2 _ refl parts.1 in
      let n = none_together (in_each trees_in_typed x.inputs) (option_map_or trees_in_typed x.result []) none in
      let p = reprints_plain_name.reprint g.0 x.name parts.0 g.4 refl in
      let q = reprints_inputs.reprint g.1 x.inputs behind.0 g.5 n.0 in
      let w = printed_rest op g.2 x.states x.result behind.1 g.6 n.1 in
      let result = option_map typed_of x.result in
      let stop = keeps_stop-append (states_text x.states) (result_text result) (states_stop x.states) (result_stops result) in
      record {
        value = record { name = p.value; inputs = q.value; states = w.value.0; result = w.value.1 };
        spelled = p.spelled ++ (q.spelled ++ w.spelled);
        lexed = lexed_then p.lexed (λ r s. (refl, refl)) (lexed_then q.lexed stop w.lexed);
        spells = (p.spelled, q.spelled, w.spelled, refl, p.spells, q.spells, w.spells);
        limits = none_of_both (in_each trees_in_typed q.value) (option_map_or trees_in_typed w.value.1 []) q.limits w.limits;
        means = ap (λ name. headed name (map typed_of q.value) (rest_of w.value)) p.means
            ∙ (ap (λ inputs. headed x.name inputs (rest_of w.value)) q.means ∙ ap (headed x.name (map typed_of x.inputs)) w.means);
      };
}

-- each head that some text reads as is what its canonical text reads as
pub heads_read_back : HeadsReadBack
unfolding HeadsReadBack
heads_read_back op = reads_back (IsHead op) trees_in_head head_of (λ x. head_text x.0 x.1) (reprints_head op)
