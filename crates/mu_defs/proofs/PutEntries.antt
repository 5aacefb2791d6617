-- Maps into which entries are put one after another.
use Rattle.std.proofs.Common.{◌≡◌, inl, inr, refl, sym, ap, ◌∙◌, ℕ, Bool, true, false, cond, List, [], ◌∷◌, Some}
use Rattle.std.specs.Prelude.{◌||◌, is_some}
use Rattle.std.specs.Bool.{nat_eq}
use Rattle.std.specs.Cmp.Lexicographic.{slice_cmp, pointwise, bytes_decides}
use Rattle.std.specs.FinMap as finite
use Rattle.std.specs.List.{AllByRecursion, fold, list_any}
use Rattle.std.specs.Ordering.{nat_cmp}
use Rattle.std.proofs.lemmas.Bool.{false≢true, cases_Bool, cond-true, cond-false}
use Rattle.mu_tree.specs.Maps.{MapOf}
use Rattle.mu_tree.proofs.MapLemmas.{same_name, get-insert_here, get-insert_other, inserted}

-- a test of two different names tells them apart
pub apart : (a b : List ℕ) → (a ≡ b → ⊥) → pointwise nat_eq a b ≡ false
apart a b n = elim (cases_Bool (pointwise nat_eq a b)) [ inl e ↦ absurd (n ((bytes_decides a b).0 e)) | inr f ↦ f ]

-- what is found among the later entries, or else at the first one, or else in the map
found_so : {A : Type 0} (here later : Bool) (among at_first first before : A) → (later ≡ false → among ≡ at_first) → first ≡ cond here at_first before → cond later among first ≡ cond (here || later) among before
found_so true true among at_first first before none is = refl
found_so false true among at_first first before none is = refl
found_so true false among at_first first before none is = is ∙ sym (none refl)
found_so false false among at_first first before none is = is

or_moved : (here later there : Bool) → (later || (here || there)) ≡ ((here || later) || there)
or_moved true true there = refl
or_moved true false there = refl
or_moved false true there = refl
or_moved false false there = refl

or_none : (a : Bool) → (a || false) ≡ a
or_none true = refl
or_none false = refl

module _ {V : Type 0} where
  -- the map with these entries, the last one of a name in place of those before
  abbrev pub with_entries : MapOf V → List (List ℕ × V) → MapOf V
  with_entries table entries = fold (λ so_far entry. finite.insert so_far entry.0 entry.1) table entries

  -- whether an entry has the name
  abbrev pub is_named : List (List ℕ × V) → List ℕ → Bool
  is_named entries name = list_any (λ entry. pointwise nat_eq entry.0 name) entries

  one_entry : (table other : MapOf V) (entry : List ℕ × V) (name : List ℕ) → finite.get (finite.insert table entry.0 entry.1) name ≡ cond (pointwise nat_eq entry.0 name) (finite.get (finite.insert other entry.0 entry.1) name) (finite.get table name)
  one_entry table other entry name = elim (same_name entry.0 name) [
    | inl e ↦
        ap (finite.get (finite.insert table entry.0 entry.1)) (sym e) ∙ get-insert_here table entry.0 entry.1
        ∙ sym (ap (finite.get (finite.insert other entry.0 entry.1)) (sym e) ∙ get-insert_here other entry.0 entry.1)
        ∙ sym (cond-true (pointwise nat_eq entry.0 name) (finite.get (finite.insert other entry.0 entry.1) name) (finite.get table name) ((bytes_decides entry.0 name).1 e))
    | inr n ↦
        get-insert_other table entry.0 entry.1 name n
        ∙ sym (cond-false (pointwise nat_eq entry.0 name) (finite.get (finite.insert other entry.0 entry.1) name) (finite.get table name) (apart entry.0 name n))
  ]

  -- at the name of an entry is what the entries have there, and at every other name what was there
  pub get-with_entries : (table other : MapOf V) (entries : List (List ℕ × V)) (name : List ℕ) → finite.get (with_entries table entries) name ≡ cond (is_named entries name) (finite.get (with_entries other entries) name) (finite.get table name)
  get-with_entries table other [] name = refl
  get-with_entries table other (entry ∷ entries) name =
      let next : MapOf V = finite.insert table entry.0 entry.1 in
      let alone : MapOf V = finite.insert other entry.0 entry.1 in
      get-with_entries next alone entries name
      ∙ found_so (pointwise nat_eq entry.0 name) (is_named entries name) (finite.get (with_entries alone entries) name) (finite.get alone name) (finite.get next name) (finite.get table name)
      (λ none. get-with_entries alone alone entries name ∙ cond-false (is_named entries name) (finite.get (with_entries alone entries) name) (finite.get alone name) none) (one_entry table other entry name)

  is_some-one : (table : MapOf V) (entry : List ℕ × V) (name : List ℕ) → is_some (finite.get (finite.insert table entry.0 entry.1) name) ≡ (pointwise nat_eq entry.0 name || is_some (finite.get table name))
  is_some-one table entry name = elim (same_name entry.0 name) [
    | inl e ↦
        ap is_some (ap (finite.get (finite.insert table entry.0 entry.1)) (sym e) ∙ get-insert_here table entry.0 entry.1)
        ∙ sym (ap (λ same. same || is_some (finite.get table name)) ((bytes_decides entry.0 name).1 e))
    | inr n ↦ ap is_some (get-insert_other table entry.0 entry.1 name n) ∙ sym (ap (λ same. same || is_some (finite.get table name)) (apart entry.0 name n))
  ]

  is_some-with_entries : (table : MapOf V) (entries : List (List ℕ × V)) (name : List ℕ) → is_some (finite.get (with_entries table entries) name) ≡ (is_named entries name || is_some (finite.get table name))
  is_some-with_entries table [] name = refl
  is_some-with_entries table (entry ∷ entries) name =
      is_some-with_entries (finite.insert table entry.0 entry.1) entries name
      ∙ ap (λ there. is_named entries name || there) (is_some-one table entry name)
      ∙ or_moved (pointwise nat_eq entry.0 name) (is_named entries name) (is_some (finite.get table name))

  -- the entries alone have something at their names alone
  pub is_some-entries : (entries : List (List ℕ × V)) (name : List ℕ) → is_some (finite.get (with_entries finite.empty entries) name) ≡ is_named entries name
  is_some-entries entries name =
      is_some-with_entries finite.empty entries name
      ∙ ap (λ found. is_named entries name || is_some found) (finite.get-empty (slice_cmp nat_cmp) name)
      ∙ or_none (is_named entries name)

  holds : (P : V → Type 0) (table : MapOf V) (entries : List (List ℕ × V)) → AllByRecursion (λ entry. P entry.1) entries → ((name : List ℕ) (value : V) → finite.get table name ≡ Some value → P value)
      → (name : List ℕ) (value : V) → finite.get (with_entries table entries) name ≡ Some value → P value
  holds P table [] all there = there
  holds P table (entry ∷ entries) all there = holds P (finite.insert table entry.0 entry.1) entries all.1 (inserted table entry.0 entry.1 (λ _ value. P value) all.0 there)

  -- what holds of each entry holds of what is found
  pub entries_hold : (P : V → Type 0) (entries : List (List ℕ × V)) → AllByRecursion (λ entry. P entry.1) entries → (name : List ℕ) (value : V) → finite.get (with_entries finite.empty entries) name ≡ Some value → P value
  entries_hold P entries all = holds P finite.empty entries all (λ name value is. absurd (false≢true (ap is_some (sym (finite.get-empty (slice_cmp nat_cmp) name) ∙ is))))
