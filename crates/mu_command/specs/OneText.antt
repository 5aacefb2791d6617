-- No two values of a language have one canonical text.
use Rattle.std.specs.Prelude.{◌≡◌, ℕ, List}
use Rattle.mu_grammar.specs.Lexemes.{Lexeme}
use Rattle.mu_grammar.specs.Writings.{Writing, tree_of}
use Rattle.mu_grammar.specs.Excesses.{one_tree}
use Rattle.mu_grammar.specs.Trees.{OneTree}
use Rattle.mu_grammar.specs.Claims.{IsClaim, claim_of, trees_in_claim}
use Rattle.mu_grammar.specs.Reasons.{IsReason, why_of, trees_in_reason}
use Rattle.mu_grammar.specs.Texts.{IsOfLanguage}
use Rattle.mu_print.specs.Canonical.{tree_text}
use Rattle.mu_print.specs.Texts.{claim_text, reason_text}

-- values of the language with one text are equal
abbrev pub TellsApart : {A B : Type 0} → (List Lexeme → A → Type 0) → (A → List Writing) → (A → B) → (B → List ℕ) → Type 0
TellsApart {A} {B} G trees meant text = (y z : B) → IsOfLanguage G trees meant y → IsOfLanguage G trees meant z → text y ≡ text z → y ≡ z

-- so are trees, claims and reasons
pub record TextsTellApart : Type 0 where
  pub trees : TellsApart OneTree one_tree tree_of tree_text
  pub claims : TellsApart IsClaim trees_in_claim claim_of claim_text
  pub reasons : TellsApart IsReason trees_in_reason why_of reason_text
