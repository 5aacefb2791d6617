-- What may be cited where an item stands.
use Rattle.std.specs.Prelude.{◌≡◌, take, length, ℕ, zero, suc, Bool, List, [], ◌∷◌, ◌++◌, map, nat_eq, Option, Some, None, slice_get, find}
use Rattle.std.specs.Option.{is_some}
use Rattle.std.specs.Cmp.Lexicographic.{pointwise}
use Rattle.mu_tree.specs.declared.trees.Tree.{Tree}
use Rattle.mu_tree.specs.declared.claim.TypedVar.{TypedVar}
use Rattle.mu_tree.specs.declared.claim.Claim.{Claim}
use Rattle.mu_tree.specs.declared.why.Ref.{Ref}
use Rattle.mu_tree.specs.declared.why.Ref.TheVariants as reference
use Rattle.mu_decl.specs.Claims.{names_of}
use Rattle.mu_check.specs.declared.fact.Fact.{Fact}
use Rattle.mu_check.specs.declared.environments.KnownItem.{KnownItem}
use Rattle.mu_check.specs.declared.environments.KnownBlock.{KnownBlock}
use Rattle.mu_check.specs.declared.environments.Environment.{Environment}
use Rattle.mu_check.specs.declared.environments.Extent.{Extent}
use Rattle.mu_check.specs.Labels.{item_of}
use Rattle.mu_check.specs.Facts.{hypothesis_fact, assumptions_of}

-- the k-th, counted from 1
abbrev pub nth : {A : Type 0} → List A → ℕ → Option A
nth xs zero = None
nth xs (suc k) = slice_get xs k

-- the enclosing block of a label
abbrev pub block_of : List KnownBlock → List ℕ → Option KnownBlock
block_of blocks l = find (λ b. pointwise nat_eq b.label l) blocks

-- the k-th assumption of a block that is there
abbrev pub assumed : Option KnownBlock → ℕ → Option Fact
assumed None k = None
assumed (Some b) k = nth b.assumptions k

-- what a reference gives, nothing where it may not be cited
abbrev pub gives : Environment → Ref → Option Fact
gives env (reference.Item l) = item_of env.items l
gives env (reference.Assumption b k) = assumed (block_of env.blocks b) k
gives env (reference.Hypothesis n) = nth env.hyps n

-- whether a reference may be cited
abbrev pub is_accessible : Environment → Ref → Bool
is_accessible env x = is_some (gives env x)

-- before the first item of a proof, by hypotheses
abbrev pub starting : List Fact → Environment
starting hyps = record { scope = []; hyps = hyps; blocks = []; items = [] }

-- before the first item of a proof: the hypotheses of its claim
abbrev pub start : Claim → Environment
start claim = starting (map hypothesis_fact claim.hyps)

-- after an item that gives this
abbrev pub with_item : List ℕ → Fact → Environment → Environment
with_item l f env = record { scope = env.scope; hyps = env.hyps; blocks = env.blocks; items = env.items ++ record { label = l; gives = f } ∷ [] }

-- before the first item in a block
abbrev pub within : List ℕ → List TypedVar → List Tree → Environment → Environment
within l vars trees env = record { scope = env.scope ++ names_of vars; hyps = env.hyps; blocks = env.blocks ++ record { label = l; assumptions = assumptions_of env.scope vars trees } ∷ []; items = env.items }

-- how many variables, blocks and items there are
abbrev pub extent_of : Environment → Extent
extent_of env = record { scope = length env.scope; blocks = length env.blocks; items = length env.items }

-- back where there was this much
abbrev pub left : Extent → Environment → Environment
left extent env = record { scope = take extent.scope env.scope; hyps = env.hyps; blocks = take extent.blocks env.blocks; items = take extent.items env.items }

-- nothing has gone, and only items have come
pub record Keeps (env later : Environment) : Type 0 where
  pub scope : later.scope ≡ env.scope
  pub hyps : later.hyps ≡ env.hyps
  pub blocks : later.blocks ≡ env.blocks
  pub more : List KnownItem
  pub items : later.items ≡ env.items ++ more
