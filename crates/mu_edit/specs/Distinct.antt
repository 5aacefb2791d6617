-- Which names of a command stand twice where each may stand once.
use Rattle.std.specs.Prelude.{ℕ, List, [], ◌∷◌, ◌++◌, map, codes, Option, None}
use Rattle.std.specs.Option.{option_map, option_or}
use Rattle.mu_tree.specs.declared.claim.Claim.{Claim}
use Rattle.mu_tree.specs.declared.claim.Hyp.{Hyp}
use Rattle.mu_tree.specs.declared.claim.Hyp.TheVariants.{Plain, Sequent}
use Rattle.mu_tree.specs.declared.claim.TypedVar.{TypedVar}
use Rattle.mu_tree.specs.declared.refusal.Refusal.{Refusal}
use Rattle.mu_tree.specs.declared.refusal.Refusal.TheVariants.{Taken}
use Rattle.mu_tree.specs.declared.why.Given.{Given}
use Rattle.mu_tree.specs.declared.why.Why.{Why}
use Rattle.mu_tree.specs.declared.why.Why.TheVariants as why
use Rattle.mu_proof.specs.declared.items.Item.{Item}
use Rattle.mu_proof.specs.declared.items.Item.TheOpen.{Item-F, Line, Block}
use Rattle.mu_proof.specs.declared.items.Item.TheFolds.{fold-Item}
use Rattle.mu_edit.specs.Repeats.{repeated}

-- the first name that an earlier one of the list equals
abbrev pub repeated_name : List (List ℕ) → Option Refusal
repeated_name names = option_map Taken (repeated names)

-- the first variable that an earlier one of the list equals
abbrev pub repeated_variable : List TypedVar → Option Refusal
repeated_variable vars = repeated_name (map (λ v. v.name) vars)

-- the first repeated variable of a hypothesis
abbrev pub repeated_in_hypothesis : Hyp → Option Refusal
repeated_in_hypothesis (Plain tree) = None
repeated_in_hypothesis (Sequent vars premises upshot) = repeated_variable vars

-- the first of some hypotheses that repeats a variable
abbrev pub repeated_in_hypotheses : List Hyp → Option Refusal
repeated_in_hypotheses [] = None
repeated_in_hypotheses (h ∷ hs) = option_or (repeated_in_hypothesis h) (repeated_in_hypotheses hs)

-- the first repeated variable of a claim, sequent by sequent
unfoldable pub repeated_in_claim : Claim → Option Refusal
repeated_in_claim claim = repeated_in_hypotheses claim.hyps

-- the repeated variable at the top of an item: of those that a box brings in
abbrev pub repeated_step : Item-F (Option Refusal) → Option Refusal
repeated_step (Line label tree why) = None
repeated_step (Block label vars assumptions inner) = repeated_variable vars

-- the first variable that an item brings in twice
abbrev pub repeated_in_item : Item → Option Refusal
repeated_in_item = fold-Item (Option Refusal) repeated_step

-- a metavariable as it is written
abbrev pub written_meta : List ℕ → List ℕ
written_meta meta = codes "?" ++ meta

-- the first abstraction that repeats a parameter
abbrev pub repeated_parameter : List Given → Option Refusal
repeated_parameter [] = None
repeated_parameter (given ∷ inst) = option_or (repeated_name given.params) (repeated_parameter inst)

-- the first repeated metavariable of an instantiation, and else its first repeated parameter
abbrev pub repeated_in_instantiation : List Given → Option Refusal
repeated_in_instantiation inst = option_or (option_map (λ meta. Taken (written_meta meta)) (repeated (map (λ given. given.meta) inst))) (repeated_parameter inst)

-- what a justification repeats
unfoldable pub repeated_in_reason : Why → Option Refusal
repeated_in_reason (why.Rule rule via refs inst) = repeated_in_instantiation inst
repeated_in_reason (why.Hypothesis n terms refs) = None
repeated_in_reason (why.Definition constant on) = None
repeated_in_reason (why.Same on) = None
