-- What the program keeps of some rules, and what it tells by it.
use Rattle.std.specs.Prelude.{◌≡◌, ℕ, Bool, false, if◌then◌else◌, List, [], map, Option, Some, None}
use Rattle.std.specs.Option.{option_map_or, option_map}
use Rattle.std.specs.List.{filter}
use Rattle.std.specs.FinMap as finite
use Rattle.mu_tree.specs.Maps.{MapOf}
use Rattle.mu_graph.specs.Derivations.{Stands}
use Rattle.mu_decl.specs.declared.declaration.Statement.{Statement}
use Rattle.mu_proof.specs.declared.citations.Cited.{Cited}
use Rattle.mu_proof.specs.declared.citations.Cited.TheVariants.{Rule, Morphism}
use Rattle.mu_flat.specs.Entries.{Entries}
use Rattle.mu_status.specs.Statuses.{rule_ways, is_established, status_of}
use Rattle.mu_status.specs.declared.books.Standing.{Standing}
use Rattle.mu_status.specs.declared.statuses.RuleStatus.{RuleStatus}
use Rattle.mu_status.specs.declared.statuses.RuleStatus.TheVariants.{Established}

-- what is kept of a rule with this statement: the ways to it, and its status if no derivation has it
pub record Knows (e : Entries) (rule : List ℕ) (s : Statement) (known : Standing) : Type 0 where
  pub kept : known.ways ≡ rule_ways e rule s
  pub otherwise : is_established e rule ≡ false → known.otherwise ≡ status_of e rule s

-- something is kept of a name exactly where it has a statement, and is that of a rule with it
abbrev pub KnownAs : Entries → List ℕ → Option Statement → Option Standing → Type 0
KnownAs e rule None None = Unit {0}
KnownAs e rule None (Some known) = ⊥
KnownAs e rule (Some s) None = ⊥
KnownAs e rule (Some s) (Some known) = Knows e rule s known

-- something is kept of a name exactly where there is a rule of that name, and is that of this rule
abbrev pub KnownAt : Entries → List ℕ → Option Standing → Type 0
KnownAt e rule found = KnownAs e rule (finite.get e.rules rule) found

-- the rules among the members are known, and no others
pub record IsBook (e : Entries) (members : List Cited) (rules : MapOf Standing) : Type 0 where
  pub known : (rule : List ℕ) → Stands (Rule rule) members → KnownAt e rule (finite.get rules rule)
  pub only : (rule : List ℕ) (found : Standing) → finite.get rules rule ≡ Some found → Stands (Rule rule) members

-- the ways to a member, by what is kept of rules
abbrev pub kept_ways : MapOf Standing → Cited → List (List Cited)
kept_ways rules (Rule rule) = option_map_or (λ known. known.ways) (finite.get rules rule) []
kept_ways rules (Morphism morphism) = []

-- those of the names that are rules
abbrev pub starts_of : Entries → List (List ℕ) → List Cited
starts_of e names = map Rule (filter (finite.contains_key e.rules) names)

-- the status that is told of a name of which this is kept, if anything is: whether it is marked says whether some derivation has it
abbrev pub told_status : Bool → Option Standing → Option RuleStatus
told_status marked found = option_map (λ known. if marked then Established else known.otherwise) found
