-- Fronts of texts.
use Rattle.std.proofs.Common.{◌≡◌, ◌≢◌, ◌∙◌, ℕ, ◌+◌, arith, Bool, true, false, List, [], ◌∷◌, ◌++◌, length, take, drop, Option, Some, None, refl, ap, sym, subst, append_assoc, append-nil, Bor}
use Rattle.std.specs.Prelude.{MatchOption, ◌==◌, if◌then◌else◌}
use Rattle.std.specs.Bool.{nat_eq}
use Rattle.std.specs.List.{list_all, starts_with}
use Rattle.std.specs.Str.{bytes_eq}
use Rattle.std.specs.Cmp.Lexicographic.{pointwise}
use Rattle.std.proofs.lemmas.List.{append_cancel_left}
use Rattle.std.proofs.lemmas.Bool.{and_parts}
use Rattle.std.proofs.lemmas.Bool.Decides.{Decides-eqb}
use Rattle.std.proofs.lemmas.Slice.Eq.{bytes_eq-Decides, starts_is, strip_prefix_is}
use Rattle.mu_tables.specs.Words.{IsBehind, lengthened, number_of, some_begins}

-- what std's call answers is what is left
pub stripped : (text front : List ℕ) (r : Option (Bor (List ℕ)))
    → MatchOption r (pointwise nat_eq (take (length front) text) front ≡ false) (λ x. (pointwise nat_eq (take (length front) text) front ≡ true) × (x.now ≡ drop (length front) text) × (length x.now + length front ≡ length text))
    → IsBehind text front r
stripped text front None h = strip_prefix_is Decides-eqb text front None h
stripped text front (Some x) h = strip_prefix_is Decides-eqb text front (Some x) h

-- what is left behind two fronts
pub behind_both : (text front word rest : List ℕ) (r : Option (Bor (List ℕ))) → text ≡ front ++ rest → IsBehind rest word r → IsBehind text (front ++ word) r
behind_both text front word rest None e h = λ more i. h more (append_cancel_left front rest (word ++ more) (sym e ∙ (i ∙ append_assoc front word more)))
behind_both text front word rest (Some x) e h = e ∙ (ap (λ l. front ++ l) h ∙ sym (append_assoc front word x.now))

-- the first front is none, so the longer one is none
pub behind_none : (text front word : List ℕ) → IsBehind text front None → IsBehind text (front ++ word) None
behind_none text front word h = λ more i. h (word ++ more) (i ∙ append_assoc front word more)

is_false : (b : Bool) → (b ≡ true → ⊥) → b ≡ false
is_false true h = absurd (h refl)
is_false false h = refl

-- the text is its front where nothing is left
pub is_whole : (text front rest : List ℕ) → text ≡ front ++ rest → (length rest == 0) ≡ bytes_eq text front
is_whole text front [] e = sym ((bytes_eq-Decides text front).1 (e ∙ append-nil front))
is_whole text front (x ∷ xs) e =
    is_false (length (x ∷ xs) == 0) (λ i. let none : length (x ∷ xs) ≡ 0 = (Decides-eqb (length (x ∷ xs)) 0).0 i in absurd (omega arith))
    ∙ sym (is_false (bytes_eq text front) (λ i. longer (append_cancel_left front (x ∷ xs) [] (sym e ∙ ((bytes_eq-Decides text front).0 i ∙ sym (append-nil front))))))
  where
    longer : x ∷ xs ≡ [] → ⊥
    longer e = cc

-- a text that doesn't begin so is not the front itself
pub is_not_whole : (text front : List ℕ) → IsBehind text front None → bytes_eq text front ≡ false
is_not_whole text front h = is_false (bytes_eq text front) (λ i. h [] ((bytes_eq-Decides text front).0 i ∙ sym (append-nil front)))

-- where a blank is left first, the text begins with the longer front
pub begins : (text front word rest : List ℕ) → text ≡ (front ++ word) ++ 32 ∷ rest → starts_with nat_eq text (lengthened front word) ≡ true
begins text front word rest e =
    (starts_is Decides-eqb text (lengthened front word) (starts_with nat_eq text (lengthened front word)) refl).1 rest (e ∙ sym (append_assoc (front ++ word) (32 ∷ []) rest))

-- a text that begins with the longer front has a blank behind the shorter one
pub blank_behind : (text front word : List ℕ) → starts_with nat_eq text (lengthened front word) ≡ true → text ≡ (front ++ word) ++ 32 ∷ drop (length (lengthened front word)) text
blank_behind text front word e =
    (starts_is Decides-eqb text (lengthened front word) (starts_with nat_eq text (lengthened front word)) refl).0 e
    ∙ append_assoc (front ++ word) (32 ∷ []) (drop (length (lengthened front word)) text)

-- where it doesn't begin with the front, it doesn't with the longer one
pub begins_none : (text front word : List ℕ) → IsBehind text (front ++ word) None → starts_with nat_eq text (lengthened front word) ≡ false
begins_none text front word h = is_false (starts_with nat_eq text (lengthened front word)) (λ i. h (32 ∷ drop (length (lengthened front word)) text) (blank_behind text front word i))

-- where no blank is left first, it doesn't either
pub begins_other : (text front word rest : List ℕ) → text ≡ (front ++ word) ++ rest → ((more : List ℕ) → rest ≢ 32 ∷ more) → starts_with nat_eq text (lengthened front word) ≡ false
begins_other text front word rest e h =
    is_false (starts_with nat_eq text (lengthened front word)) (λ i. h (drop (length (lengthened front word)) text) (append_cancel_left (front ++ word) rest (32 ∷ drop (length (lengthened front word)) text) (sym e ∙ blank_behind text front word i)))

-- what a test says of each row it says of a text that is found, with its number
pub found_holds : (test : List ℕ → ℕ → Bool) (rows : List (List ℕ × ℕ)) (text : List ℕ) (n : ℕ) → list_all (λ row. test row.0 row.1) rows ≡ true → number_of text rows ≡ Some n → test text n ≡ true
found_holds test [] text n all e = cc
found_holds test (row ∷ rows) text n all e =
    let parts = and_parts (test row.0 row.1) (list_all (λ row. test row.0 row.1) rows) all in
    at parts.0 (found_holds test rows text n parts.1) (bytes_eq row.0 text) refl e
  where
    at : test row.0 row.1 ≡ true → (number_of text rows ≡ Some n → test text n ≡ true) → (same : Bool) → bytes_eq row.0 text ≡ same → (if same then Some row.1 else number_of text rows) ≡ Some n → test text n ≡ true
    at own later true i j =
        let same : row.0 ≡ text = (bytes_eq-Decides row.0 text).0 i in
        let number : row.1 ≡ n = cc in
        subst (λ t. test t n ≡ true) same (subst (λ m. test row.0 m ≡ true) number own)
    at own later false i j = later j

front_of_text : (text front more : List ℕ) → text ≡ front ++ more → starts_with nat_eq text front ≡ true
front_of_text text front more e = (starts_is Decides-eqb text front (starts_with nat_eq text front) refl).1 more e

-- where a text is found, some row begins with each front of it
pub begins_where_found : (front more : List ℕ) (n : ℕ) (rows : List (List ℕ × ℕ)) → number_of (front ++ more) rows ≡ Some n → some_begins front rows ≡ true
begins_where_found front more n [] e = cc
begins_where_found front more n (row ∷ rows) e = at (begins_where_found front more n rows) (bytes_eq row.0 (front ++ more)) refl e
  where
    later : some_begins front rows ≡ true → (begun : Bool) → (if begun then true else some_begins front rows) ≡ true
    later h true = refl
    later h false = h

    at : (number_of (front ++ more) rows ≡ Some n → some_begins front rows ≡ true) → (same : Bool) → bytes_eq row.0 (front ++ more) ≡ same → (if same then Some row.1 else number_of (front ++ more) rows) ≡ Some n
        → some_begins front (row ∷ rows) ≡ true
    at below true i j = ap (λ begun. if begun then true else some_begins front rows) (front_of_text row.0 front more ((bytes_eq-Decides row.0 (front ++ more)).0 i))
    at below false i j = later (below j) (starts_with nat_eq row.0 front)

-- some text of the rows has this front
abbrev pub IsFront : List ℕ → List (List ℕ × ℕ) → Type 0
IsFront front rows = (more : List ℕ) × (n : ℕ) × (number_of (front ++ more) rows ≡ Some n)

-- where some row begins with a front, a text that has it is found
pub found_where_begins : (front : List ℕ) (rows : List (List ℕ × ℕ)) → some_begins front rows ≡ true → IsFront front rows
found_where_begins front [] e = cc
found_where_begins front (row ∷ rows) e = at (found_where_begins front rows) (starts_with nat_eq row.0 front) refl e
  where
    found_first : (more : List ℕ) → row.0 ≡ front ++ more → number_of (front ++ more) (row ∷ rows) ≡ Some row.1
    found_first more i = ap (λ same. if same then Some row.1 else number_of (front ++ more) rows) ((bytes_eq-Decides row.0 (front ++ more)).1 i)

    later : (more : List ℕ) (n : ℕ) → number_of (front ++ more) rows ≡ Some n → (same : Bool) → bytes_eq row.0 (front ++ more) ≡ same → IsFront front (row ∷ rows)
    later more n i true j = (more, row.1, ap (λ same. if same then Some row.1 else number_of (front ++ more) rows) j)
    later more n i false j = (more, n, ap (λ same. if same then Some row.1 else number_of (front ++ more) rows) j ∙ i)

    at : (some_begins front rows ≡ true → IsFront front rows) → (begun : Bool) → starts_with nat_eq row.0 front ≡ begun → (if begun then true else some_begins front rows) ≡ true → IsFront front (row ∷ rows)
    at below true i j =
        let more = drop (length front) row.0 in
        (more, row.1, found_first more ((starts_is Decides-eqb row.0 front (starts_with nat_eq row.0 front) refl).0 i))
    at below false i j = let found = below j in later found.0 found.1 found.2 (bytes_eq row.0 (front ++ found.0)) refl
