-- What a store stands for, and what it keeps.
use Rattle.std.specs.Prelude.{◌≡◌, ℕ, List}
use Rattle.mu_defs.specs.Base.{base_table}
use Rattle.mu_defs.specs.Owned.{IsUnused}
use Rattle.mu_flat.specs.Entries.{Entries, IsValid}
use Rattle.mu_flat.specs.declared.stores.Store.TheInside.{Inside}

-- the entries that a store's fields hold
abbrev pub entries_of : Inside → Entries
entries_of inside = record { units = inside.units; constants = inside.constants; definitions = inside.definitions; rules = inside.rules; proofs = inside.proofs }

-- at every moment a store is valid and has the base theory
pub record IsKept (inside : Inside) : Type 0 where
  pub valid : IsValid (entries_of inside)
  pub base : inside.base ≡ base_table

-- no constant and no rule stands in the unit
pub record IsEmptyUnit (e : Entries) (unit : List ℕ) : Type 0 where
  pub constants : IsUnused (λ declared. declared.theory) e.constants unit
  pub rules : IsUnused (λ statement. statement.theory) e.rules unit
