-- The canonical text of a claim reads back.
use Rattle.std.proofs.Common.{◌≡◌, ℕ, List, [], ◌∷◌, ◌++◌, map, refl, ap, sym, subst, append_assoc}
use Rattle.std.specs.Prelude.{codes}
use Rattle.mu_tree.specs.declared.claim.Hyp.TheVariants as hyp
use Rattle.mu_grammar.specs.declared.symbol.Mark.TheVariants.{Semicolon, Turnstile, OpenBrace, CloseBrace}
use Rattle.mu_grammar.specs.Lexemes.{Lexeme, mark}
use Rattle.mu_grammar.specs.Parts.{Separated}
use Rattle.mu_grammar.specs.Writings.{Writing, tree_of}
use Rattle.mu_grammar.specs.Trees.{OneTree}
use Rattle.mu_grammar.specs.Blocks.{trees_in_block}
use Rattle.mu_grammar.specs.Claims.{Hypothesis, plain, sequent, IsHypothesis, Claims, IsClaim, hyp_of, claim_of, trees_in_hypothesis, trees_in_claim}
use Rattle.mu_grammar.specs.Excesses.{excess_of, no_excess, in_each, one_tree}
use Rattle.mu_grammar.proofs.Together.{none_together, none_of_both}
use Rattle.mu_print.specs.Canonical.{tree_text}
use Rattle.mu_print.specs.Texts.{between, hypothesis_text, claim_text}
use Rattle.mu_print.specs.Laws.{ClaimsReadBack}
use Rattle.mu_print.proofs.Again.{Lexed, lexed_fixed, lexed_then, lexed_after, Readable, readable_parts, Printed, Reprints, reads_back}
use Rattle.mu_print.proofs.GroupsBack.{reprints_separated}
use Rattle.mu_print.proofs.Separators.{semicolon, turnstile, open_brace, close_brace}
use Rattle.mu_print.proofs.TreesBack.{reprints_tree}
use Rattle.mu_print.proofs.BlocksBack.{reprints_block}

printed_hypothesis : (ts : List Lexeme) (h : Hypothesis) → Readable ts → IsHypothesis ts h → excess_of (trees_in_hypothesis h) ≡ no_excess → Printed IsHypothesis trees_in_hypothesis hyp_of (hyp_of h) (hypothesis_text (hyp_of h))
unfolding hypothesis_text
printed_hypothesis ts (plain w) readable g none =
    let p = reprints_tree.reprint ts w readable g none in
    record { value = plain p.value; spelled = p.spelled; lexed = p.lexed; spells = p.spells; limits = p.limits; means = ap hyp.Plain p.means }
printed_hypothesis ts (sequent x upshot) readable g none =
    let a = g.0 in
    let b = g.1 in
    let inner = (readable_parts (mark OpenBrace ∷ []) (a ++ (mark Turnstile ∷ (b ++ (mark CloseBrace ∷ [])))) ts g.2 readable).1 in
    let parts = readable_parts a (mark Turnstile ∷ (b ++ (mark CloseBrace ∷ []))) _ refl inner in
    let behind = (readable_parts (mark Turnstile ∷ []) (b ++ (mark CloseBrace ∷ [])) _ refl parts.1).1 in
    let n = none_together (trees_in_block x) (upshot ∷ []) none in
    let p = reprints_block.reprint a x parts.0 g.3 n.0 in
    let q = reprints_tree.reprint b upshot (readable_parts b (mark CloseBrace ∷ []) _ refl behind).0 g.4 n.1 in
    record {
      value = sequent p.value q.value;
      spelled = mark OpenBrace ∷ (p.spelled ++ (mark Turnstile ∷ (q.spelled ++ (mark CloseBrace ∷ []))));
      lexed = lexed_after open_brace (lexed_then p.lexed (λ r s. (refl, refl)) (lexed_after turnstile (lexed_then q.lexed (λ r s. (refl, refl)) (lexed_fixed close_brace))));
      spells = (p.spelled, q.spelled, refl, p.spells, q.spells);
      limits = none_of_both (trees_in_block p.value) (q.value ∷ []) p.limits q.limits;
      means = cc (p.means, q.means);
    }

reprints_hypothesis : Reprints IsHypothesis trees_in_hypothesis hyp_of hypothesis_text
reprints_hypothesis = record { reprint = printed_hypothesis }

reprints_hypotheses : Reprints (Separated Semicolon IsHypothesis) (in_each trees_in_hypothesis) (map hyp_of) (λ ys. between (codes "; ") (map hypothesis_text ys))
reprints_hypotheses = reprints_separated reprints_hypothesis semicolon (λ r. (refl, refl))

with_hypotheses : (a b : List Lexeme) (hs : List Hypothesis) (w : Writing) → Separated Semicolon IsHypothesis a hs → OneTree b w → Claims (a ++ (mark Turnstile ∷ b)) hs w
with_hypotheses a b [] w g t = absurd g
with_hypotheses a b (h ∷ hs) w g t = (a, b, refl, g, t)

printed_claim : (ts : List Lexeme) (hs : List Hypothesis) (w : Writing) → Readable ts → Claims ts hs w → excess_of (in_each trees_in_hypothesis hs) ≡ no_excess → excess_of (one_tree w) ≡ no_excess
    → Printed IsClaim trees_in_claim claim_of (claim_of (record { hyps = hs; conclusion = w })) (claim_text (claim_of (record { hyps = hs; conclusion = w })))
unfolding claim_text
printed_claim ts [] w readable g none_before none =
    let p = reprints_tree.reprint ts w readable g none in
    record { value = record { hyps = []; conclusion = p.value }; spelled = p.spelled; lexed = p.lexed; spells = p.spells; limits = p.limits; means = ap (λ t. record { hyps = []; conclusion = t }) p.means }
printed_claim ts (h ∷ hs) w readable g none_before none =
    let parts = readable_parts g.0 (mark Turnstile ∷ g.1) ts g.2 readable in
    let behind = (readable_parts (mark Turnstile ∷ []) g.1 (mark Turnstile ∷ g.1) refl parts.1).1 in
    let p = reprints_hypotheses.reprint g.0 (h ∷ hs) parts.0 g.3 none_before in
    let q = reprints_tree.reprint g.1 w behind g.4 none in
    let before : List ℕ = between (codes "; ") (map hypothesis_text (map hyp_of (h ∷ hs))) in
    let spelled : List Lexeme = p.spelled ++ (mark Turnstile ∷ q.spelled) in
    let lexed : Lexed (before ++ (codes " |- " ++ tree_text (tree_of w))) spelled = lexed_then p.lexed (λ r s. (refl, refl)) (lexed_after turnstile q.lexed) in
    record {
      value = record { hyps = p.value; conclusion = q.value };
      spelled = spelled;
      lexed = subst (λ (text : List ℕ). Lexed text spelled) (sym (append_assoc before (codes " |- ") (tree_text (tree_of w)))) lexed;
      spells = with_hypotheses p.spelled q.spelled p.value q.value p.spells q.spells;
      limits = none_of_both (in_each trees_in_hypothesis p.value) (one_tree q.value) p.limits q.limits;
      means = cc (p.means, q.means);
    }

pub reprints_claim : Reprints IsClaim trees_in_claim claim_of claim_text
reprints_claim = record {
  reprint = λ ts x readable g none.
      let parts = none_together (in_each trees_in_hypothesis x.hyps) (one_tree x.conclusion) none in
      printed_claim ts x.hyps x.conclusion readable g parts.0 parts.1;
}

-- each claim that some text reads as is what its canonical text reads as
pub claims_read_back : ClaimsReadBack
unfolding ClaimsReadBack
claims_read_back = reads_back IsClaim trees_in_claim claim_of claim_text reprints_claim
