-- Values with one canonical text are equal, since each reads back and a text reads as one value.
use Rattle.std.proofs.Common.{◌≡◌, ℕ, ◌∙◌, List, ap, sym, subst}
use Rattle.std.specs.Prelude.{Ok}
use Rattle.mu_grammar.specs.Lexemes.{Lexeme, items_of}
use Rattle.mu_grammar.specs.Parts.{End}
use Rattle.mu_grammar.specs.Writings.{Writing, tree_of}
use Rattle.mu_grammar.specs.Excesses.{one_tree}
use Rattle.mu_grammar.specs.Trees.{OneTree, read_tree}
use Rattle.mu_grammar.specs.Claims.{IsClaim, claim_of, trees_in_claim, read_claim}
use Rattle.mu_grammar.specs.Reasons.{IsReason, why_of, trees_in_reason, read_reason}
use Rattle.mu_grammar.specs.Texts.{IsOfLanguage, ReadsText}
use Rattle.mu_text.proofs.Complete.{Follows}
use Rattle.mu_text.proofs.Exact.{Exact-before}
use Rattle.mu_text.proofs.Whole.{only_value}
use Rattle.mu_text.proofs.Trees.{Exact-tree}
use Rattle.mu_text.proofs.Claims.{NoClaim, Exact-claim}
use Rattle.mu_text.proofs.Reasons.{NoReason, reason_ends, Exact-reason}
use Rattle.mu_print.specs.Canonical.{tree_text}
use Rattle.mu_print.specs.Texts.{claim_text, reason_text}
use Rattle.mu_print.specs.Laws.{TreesReadBack, ClaimsReadBack, ReasonsReadBack}
use Rattle.mu_print.proofs.TreesBack.{trees_read_back}
use Rattle.mu_print.proofs.ClaimsBack.{claims_read_back}
use Rattle.mu_print.proofs.ReasonsBack.{reasons_read_back}
use Rattle.mu_command.specs.OneText.{TellsApart, TextsTellApart}

-- no tokens spell two values
abbrev Only : {A : Type 0} → (List Lexeme → A → Type 0) → Type 0
Only {A} G = (ts : List Lexeme) (v w : A) → G ts v → G ts w → v ≡ w

-- a text reads as one value
one_value : {A B : Type 0} (G : List Lexeme → A → Type 0) (trees : A → List Writing) (meant : A → B) → Only G
    → (line : List ℕ) (y z : B) → ReadsText G trees meant line (Ok y) → ReadsText G trees meant line (Ok z) → y ≡ z
one_value G trees meant only line y z g h = g.4 ∙ (ap meant (only (items_of line) g.0 h.0 g.1 h.1) ∙ sym h.4)

apart : {A B : Type 0} (G : List Lexeme → A → Type 0) (trees : A → List Writing) (meant : A → B) (text : B → List ℕ) → Only G
    → ((y : B) → IsOfLanguage G trees meant y → ReadsText G trees meant (text y) (Ok y)) → TellsApart G trees meant text
apart G trees meant text only back y z g h same = one_value G trees meant only (text z) y z (subst (λ line. ReadsText G trees meant line (Ok y)) same (back y g)) (back z h)

pub texts_tell_apart : TextsTellApart
unfolding TreesReadBack ClaimsReadBack ReasonsReadBack
texts_tell_apart = record {
  trees = apart OneTree one_tree tree_of tree_text (only_value read_tree OneTree (Exact-before read_tree OneTree Follows End (λ rest e. subst Follows (sym e) tt) Exact-tree)) trees_read_back;
  claims = apart IsClaim trees_in_claim claim_of claim_text (only_value read_claim IsClaim (Exact-before read_claim IsClaim NoClaim End (λ rest e. subst NoClaim (sym e) (tt, tt)) Exact-claim)) claims_read_back;
  reasons = apart IsReason trees_in_reason why_of reason_text (only_value read_reason IsReason (Exact-before read_reason IsReason NoReason End (λ rest e. subst NoReason (sym e) reason_ends) Exact-reason)) reasons_read_back;
}
