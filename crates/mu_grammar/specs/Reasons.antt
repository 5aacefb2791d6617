-- What a line of a proof holds by: how it is spelled, and what reads it.
use Rattle.std.specs.Prelude.{◌≡◌, ℕ, List, [], ◌∷◌, ◌++◌, Option, codes, map}
use Rattle.mu_tree.specs.declared.why.Ref.{Ref}
use Rattle.mu_tree.specs.declared.why.Given.{Given}
use Rattle.mu_tree.specs.declared.why.Why.{Why}
use Rattle.mu_tree.specs.declared.why.Why.TheVariants as why
use Rattle.mu_grammar.specs.declared.symbol.Word.TheVariants.{Meta}
use Rattle.mu_grammar.specs.declared.symbol.Mark.TheVariants.{Semicolon, Becomes}
use Rattle.mu_grammar.specs.Lexemes.{Lexeme, word, mark}
use Rattle.mu_grammar.specs.Parts.{Out, chain, either, mapped, Separated, StandsEach, separated}
use Rattle.mu_grammar.specs.SimpleParts.{AnyName, PlainName, PlaceNumber, GivenWord, StandsName, is_word, read_meta, read_mark, read_word, read_name, read_plain_name, read_place}
use Rattle.mu_grammar.specs.Writings.{Writing, tree_of}
use Rattle.mu_grammar.specs.Trees.{OneTree, read_tree}
use Rattle.mu_grammar.specs.References.{IsReference, SomeReferences, StandsReference, read_reference, read_references}
use Rattle.mu_grammar.specs.Groups.{Any, any, Behind, behind, both, Optional, StandsOptional, Parameters, perhaps, read_parameters}
use Rattle.mu_grammar.specs.Blocks.{SomeTrees, read_trees}
use Rattle.mu_grammar.specs.Excesses.{in_each, one_tree, StandsTree}

-- what stands for a metavariable, as it is written
pub record AbstractionWriting : Type 0 where
  pub meta : List ℕ
  pub params : List (List ℕ)
  pub body : Writing

-- a metavariable, its parameters in brackets where there are any, `:=` and a tree
abbrev pub IsAbstraction : List Lexeme → AbstractionWriting → Type 0
IsAbstraction ts x = (a b : List Lexeme) × (ts ≡ word Meta x.meta ∷ (a ++ (mark Becomes ∷ b))) × Parameters a x.params × OneTree b x.body

-- abstractions with semicolons between them, at least one
abbrev pub SomeAbstractions : List Lexeme → List AbstractionWriting → Type 0
SomeAbstractions ts xs = Separated Semicolon IsAbstraction ts xs

-- the abstraction that is meant
abbrev pub given_of : AbstractionWriting → Given
given_of x = record { meta = x.meta; params = x.params; body = tree_of x.body }

-- the trees in an abstraction
abbrev pub trees_in_abstraction : AbstractionWriting → List Writing
trees_in_abstraction x = x.body ∷ []

-- an abstraction whose names and tree stand for the spelled ones
abbrev pub StandsAbstraction : AbstractionWriting → Given → Type 0
StandsAbstraction x given = StandsName x.meta given.meta × StandsEach StandsName x.params given.params × StandsTree x.body given.body

-- what a line holds by, as it is written: a rule, perhaps translated by a morphism, with references and abstractions; a hypothesis with terms and references; a definition and a reference; or a reference alone
pub data Reason : Type 0 where
  by_rule : List ℕ → Option (List ℕ) → List Ref → List AbstractionWriting → Reason
  by_hypothesis : ℕ → List Writing → List Ref → Reason
  by_definition : List ℕ → Ref → Reason
  by_same : Ref → Reason

-- the word and behind it the items; no token where there are none
abbrev pub Led : {A : Type 0} → List ℕ → (List Lexeme → List A → Type 0) → List Lexeme → List A → Type 0
Led text G ts xs = Any (Behind text G) ts xs

-- `rule`, its name, and a morphism, references and abstractions where there are any; `hyp`, a place, and trees and references where there are any; `def`, a name, `on` and a reference; or `same` and a reference
abbrev pub IsReason : List Lexeme → Reason → Type 0
IsReason ts (by_rule name via refs inst) =
    (a b c d e : List Lexeme) × (ts ≡ a ++ (b ++ (c ++ (d ++ e)))) × GivenWord (codes "rule") a tt × AnyName b name × Optional (Behind (codes "via") PlainName) c via × Led (codes "from") SomeReferences d refs × Led (codes "with") SomeAbstractions e inst
IsReason ts (by_hypothesis n terms refs) =
    (a b c d : List Lexeme) × (ts ≡ a ++ (b ++ (c ++ d))) × GivenWord (codes "hyp") a tt × PlaceNumber b n × Led (codes "with") SomeTrees c terms × Led (codes "from") SomeReferences d refs
IsReason ts (by_definition constant on) =
    (a b c d : List Lexeme) × (ts ≡ a ++ (b ++ (c ++ d))) × GivenWord (codes "def") a tt × AnyName b constant × GivenWord (codes "on") c tt × IsReference d on
IsReason ts (by_same on) = Behind (codes "same") IsReference ts on

-- what is meant
abbrev pub why_of : Reason → Why
why_of (by_rule name via refs inst) = why.Rule name via refs (map given_of inst)
why_of (by_hypothesis n terms refs) = why.Hypothesis n (map tree_of terms) refs
why_of (by_definition constant on) = why.Definition constant on
why_of (by_same on) = why.Same on

-- the trees in it
abbrev pub trees_in_reason : Reason → List Writing
trees_in_reason (by_rule name via refs inst) = in_each trees_in_abstraction inst
trees_in_reason (by_hypothesis n terms refs) = in_each one_tree terms
trees_in_reason (by_definition constant on) = []
trees_in_reason (by_same on) = []

-- references and abstractions that stand for the spelled ones
abbrev pub StandsCited : List Ref × List AbstractionWriting → List Ref × List Given → Type 0
StandsCited x kept = StandsEach StandsReference x.0 kept.0 × StandsEach StandsAbstraction x.1 kept.1

-- the trees in references and abstractions
abbrev pub trees_in_cited : List Ref × List AbstractionWriting → List Writing
trees_in_cited x = in_each trees_in_abstraction x.1

-- a reason of the same sort, whose names, numbers, references, abstractions and trees stand for the spelled ones
abbrev pub StandsReason : Reason → Why → Type 0
StandsReason (by_rule name via refs inst) (why.Rule rule morphism kept given) =
    StandsName name rule × StandsOptional StandsName via morphism × StandsEach StandsReference refs kept × StandsEach StandsAbstraction inst given
StandsReason (by_hypothesis n terms refs) (why.Hypothesis number trees kept) = (number ≡ n) × StandsEach StandsTree terms trees × StandsEach StandsReference refs kept
StandsReason (by_definition constant on) (why.Definition name reference) = StandsName constant name × StandsReference on reference
StandsReason (by_same on) (why.Same reference) = StandsReference on reference
StandsReason _ _ = ⊥

-- an abstraction of its parts
abbrev pub abstracting : List ℕ → List (List ℕ) → Writing → AbstractionWriting
abstracting meta params body = record { meta = meta; params = params; body = body }

-- reads an abstraction
unfoldable pub read_abstraction : List Lexeme → Out AbstractionWriting
read_abstraction ts = chain read_meta (λ meta. chain read_parameters (λ params. chain (read_mark Becomes) (λ _. mapped (abstracting meta params) read_tree))) ts

-- reads abstractions with semicolons between them
unfoldable pub read_abstractions : List Lexeme → Out (List AbstractionWriting)
read_abstractions ts = separated Semicolon read_abstraction ts

-- reads the items behind the word, where it stands
abbrev pub led : {A : Type 0} → List ℕ → (List Lexeme → Out (List A)) → List Lexeme → Out (List A)
led text p ts = any (is_word text) (behind text p) ts

-- reads the references of a reason
unfoldable pub read_from : List Lexeme → Out (List Ref)
read_from ts = led (codes "from") read_references ts

-- reads the abstractions of a reason
unfoldable pub read_with : List Lexeme → Out (List AbstractionWriting)
read_with ts = led (codes "with") read_abstractions ts

-- reads the morphism that translates a rule, where there is one
unfoldable pub read_via : List Lexeme → Out (Option (List ℕ))
read_via ts = perhaps (codes "via") read_plain_name ts

-- reads the terms of a hypothesis
unfoldable pub read_terms : List Lexeme → Out (List Writing)
read_terms ts = led (codes "with") read_trees ts

-- a rule, perhaps translated, with what follows
abbrev pub citing : List ℕ → Option (List ℕ) → List Ref × List AbstractionWriting → Reason
citing name via cited = by_rule name via cited.0 cited.1

-- reads the references and the abstractions of a rule
unfoldable pub read_cited : List Lexeme → Out (List Ref × List AbstractionWriting)
read_cited ts = chain read_from (λ refs. mapped (both refs) read_with) ts

-- reads `rule` and what follows it
unfoldable pub read_by_rule : List Lexeme → Out Reason
read_by_rule ts = chain (read_word (codes "rule")) (λ _. chain read_name (λ name. chain read_via (λ via. mapped (citing name via) read_cited))) ts

-- reads `hyp` and what follows it
unfoldable pub read_by_hypothesis : List Lexeme → Out Reason
read_by_hypothesis ts = chain (read_word (codes "hyp")) (λ _. chain read_place (λ n. chain read_terms (λ terms. mapped (by_hypothesis n terms) read_from))) ts

-- reads `def` and what follows it
unfoldable pub read_by_definition : List Lexeme → Out Reason
read_by_definition ts = chain (read_word (codes "def")) (λ _. chain read_name (λ constant. chain (read_word (codes "on")) (λ _. mapped (by_definition constant) read_reference))) ts

-- reads `same` and what follows it
unfoldable pub read_by_same : List Lexeme → Out Reason
read_by_same ts = chain (read_word (codes "same")) (λ _. mapped by_same read_reference) ts

-- reads what a line holds by
unfoldable pub read_reason : List Lexeme → Out Reason
read_reason ts = either (is_word (codes "rule")) read_by_rule (either (is_word (codes "hyp")) read_by_hypothesis (either (is_word (codes "def")) read_by_definition read_by_same)) ts
