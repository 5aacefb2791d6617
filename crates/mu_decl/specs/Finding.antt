-- Values with names in a list, and a table of places by which the first value of a name is found.
use Rattle.std.specs.Prelude.{◌≡◌, ◌<◌, ℕ, Bool, cond, List, length, nat_eq, slice_get, Option, Some, None}
use Rattle.std.specs.Option.{is_some}
use Rattle.std.specs.List.{position_or_len}
use Rattle.std.specs.Cmp.Lexicographic.{pointwise}
use Rattle.std.specs.FinMap as finite
use Rattle.mu_tree.specs.Maps.{MapOf}

module _ {A : Type 0} (name : A → List ℕ) where
  -- whether a value has a name
  abbrev pub is_called : List ℕ → A → Bool
  is_called n x = pointwise nat_eq (name x) n

  -- where the first value of a name stands, the number of values where there is none
  abbrev pub first_place : List A → List ℕ → ℕ
  first_place xs n = position_or_len (is_called n) xs

  -- a value that may be there, if it has a name
  abbrev pub if_called : List ℕ → Option A → Option A
  if_called n None = None
  if_called n (Some x) = cond (is_called n x) (Some x) None

  -- the value of a name that stands at a place that may be known
  abbrev pub placed : List A → List ℕ → Option ℕ → Option A
  placed xs n None = None
  placed xs n (Some k) = if_called n (slice_get xs k)

  -- the places, with that of the next value, unless a value of its name has one
  abbrev pub with_place : List A → List ℕ → MapOf ℕ → MapOf ℕ
  with_place xs n places = cond (is_some (placed xs n (finite.get places n))) places (finite.insert places n (length xs))

  -- the first value of each name is found at its place; what places say of other names doesn't count
  pub record Finds (places : MapOf ℕ) (xs : List A) : Type 0 where
    pub place : (n : List ℕ) → first_place xs n < length xs → finite.get places n ≡ Some (first_place xs n)
