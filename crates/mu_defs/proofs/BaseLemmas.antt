-- Looking up constants where those of the base theory stand beside the stored ones.
use Rattle.std.proofs.Common.{◌≡◌, refl, sym, ap, ◌∙◌, ℕ, true, false, cond, List, Option, Some, None}
use Rattle.std.specs.Prelude.{is_some}
use Rattle.std.specs.FinMap as finite
use Rattle.std.specs.Option.{option_or}
use Rattle.std.proofs.lemmas.Bool.{false≢true, cond-true, cond-false}
use Rattle.mu_tree.specs.Maps.{MapOf}
use Rattle.mu_decl.specs.declared.declaration.ConstDecl.{ConstDecl}
use Rattle.mu_decl.specs.Contexts.{base}
use Rattle.mu_defs.specs.Base.{base_constants, is_base_constant, base_table, with_base, BaseIsFirst}
use Rattle.mu_defs.proofs.PutEntries.{get-with_entries, is_some-entries, entries_hold}

either_or : {A : Type 0} (base stored : Option A) → cond (is_some base) base stored ≡ option_or base stored
either_or None stored = refl
either_or (Some b) stored = refl

-- of two of which one alone may be there either may come first
either_order : {A : Type 0} (base stored : Option A) → (is_some base ≡ true → stored ≡ None) → option_or base stored ≡ option_or stored base
either_order None None alone = refl
either_order None (Some s) alone = refl
either_order (Some b) stored alone = ap (λ found. option_or found (Some b)) (sym (alone refl))

-- the law of looking up
pub base_is_first : BaseIsFirst
unfolding BaseIsFirst with_base
base_is_first stored name = get-with_entries stored finite.empty base_constants name

-- the base theory has constants of its names, and no others
pub is_some-base_table : (name : List ℕ) → is_some (finite.get base_table name) ≡ is_base_constant name
is_some-base_table name = is_some-entries base_constants name

-- all of which stand in it
pub in_base : (name : List ℕ) (declared : ConstDecl) → finite.get base_table name ≡ Some declared → declared.theory ≡ base
in_base name declared is = entries_hold (λ (each : ConstDecl). each.theory ≡ base) base_constants (refl, (refl, (refl, (refl, (refl, (refl, (refl, (refl, (refl, (refl, (refl, (refl, (refl, tt))))))))))))) name declared is

module _ (stored : MapOf ConstDecl) (name : List ℕ) where
  -- at a name of the base theory is its constant
  pub get-at_base : is_base_constant name ≡ true → finite.get (with_base stored) name ≡ finite.get base_table name
  unfolding BaseIsFirst
  get-at_base is = base_is_first stored name ∙ cond-true (is_base_constant name) (finite.get base_table name) (finite.get stored name) is

  -- and at every other one what is stored
  pub get-at_other : is_base_constant name ≡ false → finite.get (with_base stored) name ≡ finite.get stored name
  unfolding BaseIsFirst
  get-at_other is = base_is_first stored name ∙ cond-false (is_base_constant name) (finite.get base_table name) (finite.get stored name) is

  -- so that the base theory is looked up first
  pub base_before : finite.get (with_base stored) name ≡ option_or (finite.get base_table name) (finite.get stored name)
  unfolding BaseIsFirst
  base_before =
      base_is_first stored name
      ∙ ap (λ is. cond is (finite.get base_table name) (finite.get stored name)) (sym (is_some-base_table name))
      ∙ either_or (finite.get base_table name) (finite.get stored name)

  -- or last, where no stored constant has a name of the base theory
  pub base_after : ((declared : ConstDecl) → finite.get stored name ≡ Some declared → is_base_constant name ≡ false) → finite.get (with_base stored) name ≡ option_or (finite.get stored name) (finite.get base_table name)
  base_after other =
      base_before ∙ either_order (finite.get base_table name) (finite.get stored name) (λ some. none (sym (is_some-base_table name) ∙ some) (finite.get stored name) refl)
    where
      none : is_base_constant name ≡ true → (found : Option ConstDecl) → finite.get stored name ≡ found → finite.get stored name ≡ None
      none is None at = at
      none is (Some declared) at = absurd (false≢true (sym (other declared at) ∙ is))
