-- The names of the constants that stand in a unit, where those of the base theory stand beside the stored ones.
use Rattle.std.proofs.Common.{◌≡◌, inl, inr, sym, ap, ◌∙◌, ℕ, Bool, true, false, List, Some}
use Rattle.std.specs.Prelude.{is_some}
use Rattle.std.specs.Bool.{nat_eq}
use Rattle.std.specs.Cmp.Lexicographic.{pointwise, bytes_decides}
use Rattle.std.specs.FinMap as finite
use Rattle.std.specs.Option.{option_map_or}
use Rattle.std.proofs.lemmas.Bool.{false≢true, cases_Bool}
use Rattle.mu_tree.specs.Maps.{MapOf}
use Rattle.mu_decl.specs.Contexts.{base}
use Rattle.mu_decl.specs.declared.declaration.ConstDecl.{ConstDecl}
use Rattle.mu_defs.specs.Base.{is_base, is_base_constant, base_table, with_base, IsApart}
use Rattle.mu_defs.specs.Owned.{names_in, passes_at}
use Rattle.mu_defs.proofs.BaseLemmas.{is_some-base_table, in_base, get-at_base, get-at_other}
use Rattle.mu_defs.proofs.OwnedLemmas.{none_passes, names_in_all, names_in_same}

-- a constant whose name is none of the base theory is not there
not_there : (name : List ℕ) (declared : ConstDecl) → is_base_constant name ≡ false → finite.get base_table name ≡ Some declared → ⊥
not_there name declared other is = false≢true (sym other ∙ sym (is_some-base_table name) ∙ ap is_some is)

module _ (stored : MapOf ConstDecl) (is_apart : IsApart stored) (unit : List ℕ) where
  abbrev stands : ConstDecl → Bool
  stands declared = pointwise nat_eq declared.theory unit

  abbrev stands_at : MapOf ConstDecl → List ℕ → Bool
  stands_at constants name = passes_at stands constants name

  same_at : (values others : MapOf ConstDecl) (name : List ℕ) → finite.get values name ≡ finite.get others name → stands_at values name ≡ stands_at others name
  same_at values others name same = ap (λ found. option_map_or stands found false) same

  -- in the base theory stand its constants alone
  in_base_alone : unit ≡ base → (name : List ℕ) → stands_at (with_base stored) name ≡ stands_at base_table name
  in_base_alone is name = elim (cases_Bool (is_base_constant name)) [
    | inl of_base ↦ same_at (with_base stored) base_table name (get-at_base stored name of_base)
    | inr other ↦
        same_at (with_base stored) stored name (get-at_other stored name other)
        ∙ none_passes stands stored name (λ declared at. ap (pointwise nat_eq declared.theory) is ∙ (is_apart name declared at).1)
        ∙ sym (none_passes stands base_table name (λ declared at. absurd (not_there name declared other at)))
  ]

  -- in another unit only stored ones
  stored_alone : is_base unit ≡ false → (name : List ℕ) → stands_at (with_base stored) name ≡ stands_at stored name
  stored_alone other_unit name = elim (cases_Bool (is_base_constant name)) [
    | inl of_base ↦
        same_at (with_base stored) base_table name (get-at_base stored name of_base)
        ∙ none_passes stands base_table name (λ declared at. elsewhere declared.theory (in_base name declared at))
        ∙ sym (none_passes stands stored name (λ declared at. absurd (false≢true (sym (is_apart name declared at).0 ∙ of_base))))
    | inr other ↦ same_at (with_base stored) stored name (get-at_other stored name other)
  ]
    where
      elsewhere : (theory : List ℕ) → theory ≡ base → pointwise nat_eq theory unit ≡ false
      elsewhere theory at = elim (cases_Bool (pointwise nat_eq theory unit)) [
        | inl e ↦ absurd (false≢true (sym other_unit ∙ (bytes_decides unit base).1 (sym ((bytes_decides theory unit).0 e) ∙ at)))
        | inr f ↦ f
      ]

  -- the names of the constants of the base theory
  pub names_in_base : is_base unit ≡ true → names_in (λ declared. pointwise nat_eq declared.theory unit) (finite.entries (with_base stored)) ≡ finite.keys base_table
  names_in_base is =
      let at : unit ≡ base = (bytes_decides unit base).0 is in
      names_in_same stands (with_base stored) base_table (in_base_alone at)
      ∙ names_in_all stands base_table (λ name declared found. (bytes_decides declared.theory unit).1 (in_base name declared found ∙ sym at))

  -- the names of the stored constants of another unit
  pub names_in_other : is_base unit ≡ false → names_in (λ declared. pointwise nat_eq declared.theory unit) (finite.entries (with_base stored)) ≡ names_in (λ declared. pointwise nat_eq declared.theory unit) (finite.entries stored)
  names_in_other other = names_in_same stands (with_base stored) stored (stored_alone other)
