-- Claims: how they are spelled, and what reads them.
use Rattle.std.specs.Prelude.{◌≡◌, Bool, ◌||◌, List, [], ◌∷◌, ◌++◌, map}
use Rattle.mu_tree.specs.declared.claim.Hyp.{Hyp}
use Rattle.mu_tree.specs.declared.claim.Hyp.TheVariants as hyp
use Rattle.mu_tree.specs.declared.claim.Claim.{Claim}
use Rattle.mu_grammar.specs.declared.symbol.Mark.TheVariants.{OpenBrace, CloseBrace, Semicolon, Turnstile}
use Rattle.mu_grammar.specs.Lexemes.{Lexeme, mark}
use Rattle.mu_grammar.specs.Marks.{is_mark}
use Rattle.mu_grammar.specs.Parts.{Out, chain, either, given_back, mapped, Separated, StandsEach, read_more}
use Rattle.mu_grammar.specs.SimpleParts.{read_mark}
use Rattle.mu_grammar.specs.Groups.{enclosed}
use Rattle.mu_grammar.specs.Writings.{Writing, tree_of}
use Rattle.mu_grammar.specs.Trees.{OneTree, read_tree}
use Rattle.mu_grammar.specs.Blocks.{BlockWriting, IsBlock, block_of, trees_in_block, StandsBlock, read_block}
use Rattle.mu_grammar.specs.Excesses.{in_each, StandsTree}

-- a hypothesis as it is written: a tree, or a sequent with its variables and premises, and its upshot
pub data Hypothesis : Type 0 where
  plain : Writing → Hypothesis
  sequent : BlockWriting → Writing → Hypothesis

-- a claim as it is written
pub record Sentence : Type 0 where
  pub hyps : List Hypothesis
  pub conclusion : Writing

-- a tree; or in braces what a sequent begins with, a turnstile and a tree
abbrev pub IsHypothesis : List Lexeme → Hypothesis → Type 0
IsHypothesis ts (plain w) = OneTree ts w
IsHypothesis ts (sequent x upshot) = (a b : List Lexeme) × (ts ≡ mark OpenBrace ∷ (a ++ (mark Turnstile ∷ (b ++ (mark CloseBrace ∷ []))))) × IsBlock a x × OneTree b upshot

-- a conclusion alone; or hypotheses with semicolons between them, a turnstile, and the conclusion
abbrev pub Claims : List Lexeme → List Hypothesis → Writing → Type 0
Claims ts [] conclusion = OneTree ts conclusion
Claims ts (h ∷ hs) conclusion = (a b : List Lexeme) × (ts ≡ a ++ (mark Turnstile ∷ b)) × Separated Semicolon IsHypothesis a (h ∷ hs) × OneTree b conclusion

-- a claim
abbrev pub IsClaim : List Lexeme → Sentence → Type 0
IsClaim ts x = Claims ts x.hyps x.conclusion

-- the hypothesis that is meant
abbrev pub hyp_of : Hypothesis → Hyp
hyp_of (plain w) = hyp.Plain (tree_of w)
hyp_of (sequent x upshot) = hyp.Sequent (block_of x).0 (block_of x).1 (tree_of upshot)

-- the claim that is meant
abbrev pub claim_of : Sentence → Claim
claim_of x = record { hyps = map hyp_of x.hyps; conclusion = tree_of x.conclusion }

-- the trees in a hypothesis
abbrev pub trees_in_hypothesis : Hypothesis → List Writing
trees_in_hypothesis (plain w) = w ∷ []
trees_in_hypothesis (sequent x upshot) = trees_in_block x ++ (upshot ∷ [])

-- the trees in a claim
abbrev pub trees_in_claim : Sentence → List Writing
trees_in_claim x = in_each trees_in_hypothesis x.hyps ++ (x.conclusion ∷ [])

-- a hypothesis of the same sort, whose variables and trees stand for the spelled ones
abbrev pub StandsHypothesis : Hypothesis → Hyp → Type 0
StandsHypothesis (plain w) (hyp.Plain tree) = StandsTree w tree
StandsHypothesis (sequent x upshot) (hyp.Sequent vars premises tree) = StandsBlock x (vars, premises) × StandsTree upshot tree
StandsHypothesis _ _ = ⊥

-- a claim whose trees stand for the spelled ones
abbrev pub StandsClaim : Sentence → Claim → Type 0
StandsClaim x claim = StandsEach StandsHypothesis x.hyps claim.hyps × StandsTree x.conclusion claim.conclusion

-- whether a claim goes on with the token behind its first tree
abbrev pub goes_on : Lexeme → Bool
goes_on T = is_mark Semicolon T || is_mark Turnstile T

-- the claim with these hypotheses
abbrev pub concluding : List Hypothesis → Writing → Sentence
concluding hs conclusion = record { hyps = hs; conclusion = conclusion }

-- reads the turnstile, the upshot of a sequent and the brace behind it
unfoldable pub read_upshot : List Lexeme → Out Writing
read_upshot ts = enclosed Turnstile CloseBrace read_tree ts

-- reads a sequent
unfoldable pub read_sequent : List Lexeme → Out Hypothesis
read_sequent ts = chain (read_mark OpenBrace) (λ _. chain read_block (λ x. mapped (sequent x) read_upshot)) ts

-- reads a hypothesis
unfoldable pub read_hypothesis : List Lexeme → Out Hypothesis
read_hypothesis ts = either (is_mark OpenBrace) read_sequent (mapped plain read_tree) ts

-- reads the hypotheses behind the first one
abbrev pub read_hypotheses : Hypothesis → List Lexeme → Out (List Hypothesis)
read_hypotheses h ts = mapped (λ hs. h ∷ hs) (read_more Semicolon read_hypothesis) ts

-- reads what follows the first hypothesis
abbrev pub read_concluded : Hypothesis → List Lexeme → Out Sentence
read_concluded h ts = chain (read_hypotheses h) (λ hs. chain (read_mark Turnstile) (λ _. mapped (concluding hs) read_tree)) ts

-- reads what follows the first hypothesis; a tree is the conclusion where nothing does
abbrev pub read_after : Hypothesis → List Lexeme → Out Sentence
read_after (plain w) ts = either goes_on (read_concluded (plain w)) (given_back (concluding [] w)) ts
read_after (sequent x upshot) ts = read_concluded (sequent x upshot) ts

-- reads a claim
unfoldable pub read_claim : List Lexeme → Out Sentence
read_claim ts = chain read_hypothesis read_after ts
