-- What canonical text keeps: it reads back, and it has no parentheses that could be left out.
use Rattle.std.specs.Prelude.{◌≡◌, ℕ, Bool, List, ◌∷◌, ◌++◌, Ok}
use Rattle.mu_tree.specs.declared.trees.Tree.{Tree}
use Rattle.mu_tree.specs.declared.claim.Claim.{Claim}
use Rattle.mu_tree.specs.declared.claim.TypedVar.{TypedVar}
use Rattle.mu_tree.specs.declared.head.OpHead.{OpHead}
use Rattle.mu_tree.specs.declared.why.Why.{Why}
use Rattle.mu_grammar.specs.declared.symbol.Mark.TheVariants.{Open, Close}
use Rattle.mu_grammar.specs.Lexemes.{Lexeme, mark}
use Rattle.mu_grammar.specs.Writings.{Writing, tokens, tree_of, IsTree}
use Rattle.mu_grammar.specs.Excesses.{one_tree}
use Rattle.mu_grammar.specs.Trees.{OneTree}
use Rattle.mu_grammar.specs.Claims.{IsClaim, claim_of, trees_in_claim}
use Rattle.mu_grammar.specs.Blocks.{IsBlock, block_of, trees_in_block}
use Rattle.mu_grammar.specs.Heads.{IsHead, head_of, trees_in_head}
use Rattle.mu_grammar.specs.Reasons.{IsReason, why_of, trees_in_reason}
use Rattle.mu_grammar.specs.Texts.{IsOfLanguage, ReadsText}
use Rattle.mu_print.specs.Canonical.{canonical, tree_text}
use Rattle.mu_print.specs.Texts.{block_text, claim_text, head_text, reason_text}

-- each tree that some text reads as is what its canonical text reads as
unfoldable pub TreesReadBack : Type 0
TreesReadBack = (tree : Tree) → IsOfLanguage OneTree one_tree tree_of tree → ReadsText OneTree one_tree tree_of (tree_text tree) (Ok tree)

-- each claim that some text reads as is what its canonical text reads as
unfoldable pub ClaimsReadBack : Type 0
ClaimsReadBack = (claim : Claim) → IsOfLanguage IsClaim trees_in_claim claim_of claim → ReadsText IsClaim trees_in_claim claim_of (claim_text claim) (Ok claim)

-- each reason that some text reads as is what its canonical text reads as
unfoldable pub ReasonsReadBack : Type 0
ReasonsReadBack = (why : Why) → IsOfLanguage IsReason trees_in_reason why_of why → ReadsText IsReason trees_in_reason why_of (reason_text why) (Ok why)

-- what some text reads as that a sequent or a block begins with is what its canonical text reads as
unfoldable pub BlocksReadBack : Type 0
BlocksReadBack =
    (x : List TypedVar × List Tree) → IsOfLanguage IsBlock trees_in_block block_of x → ReadsText IsBlock trees_in_block block_of (block_text x.0 x.1) (Ok x)

-- each head of an operation, and each of a function, that some text reads as is what its canonical text reads as
unfoldable pub HeadsReadBack : Type 0
HeadsReadBack =
    (op : Bool) (x : List ℕ × OpHead) → IsOfLanguage (IsHead op) trees_in_head head_of x → ReadsText (IsHead op) trees_in_head head_of (head_text x.0 x.1) (Ok x)

-- where any opening parenthesis of a tree's canonical writing and any closing one behind it are left out, the tokens are no writing of the tree
unfoldable pub ParenthesesAreNeeded : Type 0
ParenthesesAreNeeded =
    (tree : Tree) (before inside behind : List Lexeme) → tokens (canonical tree) ≡ before ++ (mark Open ∷ (inside ++ (mark Close ∷ behind)))
    → (n : ℕ) (w : Writing) → IsTree n (before ++ (inside ++ behind)) w → tree_of w ≡ tree → ⊥
