-- The theory that is always there, and its constants.
use Rattle.std.specs.Prelude.{◌≡◌, ℕ, Bool, false, List, [], ◌∷◌, Some, cond, codes}
use Rattle.std.specs.Bool.{nat_eq}
use Rattle.std.specs.List.{fold, list_any}
use Rattle.std.specs.Cmp.Lexicographic.{pointwise}
use Rattle.std.specs.FinMap as finite
use Rattle.mu_tree.specs.Maps.{MapOf}
use Rattle.mu_tree.specs.declared.claim.Kind.{Kind}
use Rattle.mu_tree.specs.declared.claim.Kind.TheVariants.{E, T}
use Rattle.mu_tree.specs.declared.claim.Shape.TheVariants as shape
use Rattle.mu_decl.specs.Contexts.{base}
use Rattle.mu_decl.specs.declared.declaration.ConstDecl.{ConstDecl}

-- the name is that of the base theory
abbrev pub is_base : List ℕ → Bool
is_base name = pointwise nat_eq name base

-- a constant of the base theory with arguments of these kinds
abbrev pub plain : List Kind → Kind → ConstDecl
plain kinds result = record { theory = base; shape = shape.Plain kinds; result = result }

-- a binder of the base theory, whose body is an element
abbrev pub binder : Kind → ConstDecl
binder result = record { theory = base; shape = shape.Binder E; result = result }

-- the constants of the base theory
abbrev pub base_constants : List (List ℕ × ConstDecl)
base_constants =
    (codes "and", plain (E ∷ E ∷ []) E) ∷ (codes "bool", plain [] T) ∷ (codes "eq", plain (E ∷ E ∷ []) E) ∷ (codes "exists", binder E) ∷ (codes "false", plain [] E)
    ∷ (codes "forall", binder E) ∷ (codes "iff", plain (E ∷ E ∷ []) E) ∷ (codes "imp", plain (E ∷ E ∷ []) E) ∷ (codes "not", plain (E ∷ []) E)
    ∷ (codes "or", plain (E ∷ E ∷ []) E) ∷ (codes "sub", binder T) ∷ (codes "true", plain [] E) ∷ (codes "typing", plain (E ∷ T ∷ []) E) ∷ []

-- whether the name is that of a constant of the base theory
abbrev pub is_base_constant : List ℕ → Bool
is_base_constant name = list_any (λ entry. pointwise nat_eq entry.0 name) base_constants

-- the constants of the base theory, by name
abbrev pub base_table : MapOf ConstDecl
base_table = fold (λ table entry. finite.insert table entry.0 entry.1) finite.empty base_constants

-- the stored constants and those of the base theory, each of which stands in place of a stored one of its name
unfoldable pub with_base : MapOf ConstDecl → MapOf ConstDecl
with_base stored = fold (λ table entry. finite.insert table entry.0 entry.1) stored base_constants

-- the law: at the name of a constant of the base theory is this one, and at every other name what is stored there
unfoldable pub BaseIsFirst : Type 0
BaseIsFirst = (stored : MapOf ConstDecl) (name : List ℕ) → finite.get (with_base stored) name ≡ cond (is_base_constant name) (finite.get base_table name) (finite.get stored name)

-- no stored constant has the name of one of the base theory, nor stands in it
abbrev pub IsApart : MapOf ConstDecl → Type 0
IsApart stored = (name : List ℕ) (declared : ConstDecl) → finite.get stored name ≡ Some declared → (is_base_constant name ≡ false) × (is_base declared.theory ≡ false)
