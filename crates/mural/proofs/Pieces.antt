-- The lines of an input that goes on.
use Rattle.std.proofs.Common.{◌≡◌, inl, inr, ◌+◌, ◌-◌, ◌≤◌, ◌<◌, ℕ, Bool, true, false, cond, List, [], ◌∷◌, ◌++◌, length, take, refl, sym, ◌∙◌, ap, arith, append_assoc, length-append}
use Rattle.std.specs.Prelude.{slice_index_or}
use Rattle.std.specs.List.{onto_first}
use Rattle.std.proofs.Math.Seq.{take-append_seam, take-append-add, take-length, get_or-append_seam}
use Rattle.std.proofs.lemmas.Bool.{cases_Bool}
use Rattle.std.proofs.lemmas.Bool.Decides.{leb_tells}
use Rattle.std.proofs.lemmas.List.{append-nil, take_more}
use Rattle.std.proofs.lemmas.List.Splits.{length-slice_split}
use Rattle.mural.specs.Lines.{is_line_feed, pieces, whole_lines, unfinished, last_line, lines, due_lines, most_input}

-- all parts but the last, and the last
abbrev front : List (List ℕ) → List (List ℕ)
front parts = take (length parts - 1) parts

abbrev end : List (List ℕ) → List ℕ
end parts = slice_index_or parts (length parts - 1) []

-- the byte put at the end of the last part
onto_last : ℕ → List (List ℕ) → List (List ℕ)
onto_last byte [] = (byte ∷ []) ∷ []
onto_last byte (part ∷ []) = (part ++ byte ∷ []) ∷ []
onto_last byte (part ∷ next ∷ parts) = part ∷ onto_last byte (next ∷ parts)

some_piece : (bytes : List ℕ) → 0 < length (pieces bytes)
some_piece bytes = omega (arith, length-slice_split is_line_feed bytes)

onto_first-append : (byte : ℕ) (parts more : List (List ℕ)) → 0 < length parts → onto_first byte (parts ++ more) ≡ onto_first byte parts ++ more
onto_first-append byte [] more some = absurd (omega arith)
onto_first-append byte (part ∷ parts) more some = refl

onto_first_last : (first last : ℕ) (parts : List (List ℕ)) → 0 < length parts → onto_first first (onto_last last parts) ≡ onto_last last (onto_first first parts)
unfolding onto_last
onto_first_last first last [] some = absurd (omega arith)
onto_first_last first last (part ∷ []) some = refl
onto_first_last first last (part ∷ next ∷ parts) some = refl

onto_last_cons : (byte : ℕ) (part : List ℕ) (parts : List (List ℕ)) → 0 < length parts → onto_last byte (part ∷ parts) ≡ part ∷ onto_last byte parts
unfolding onto_last
onto_last_cons byte part [] some = absurd (omega arith)
onto_last_cons byte part (next ∷ parts) some = refl

pieces_feed : (bytes : List ℕ) (byte : ℕ) → is_line_feed byte ≡ true → pieces (bytes ++ byte ∷ []) ≡ pieces bytes ++ [] ∷ []
pieces_feed [] byte is = ap (λ (b : Bool). cond b ([] ∷ [] ∷ []) (onto_first byte ([] ∷ []))) is
pieces_feed (first ∷ bytes) byte is =
    elim (is_line_feed first) as (λ b. cond b ([] ∷ pieces (bytes ++ byte ∷ [])) (onto_first first (pieces (bytes ++ byte ∷ []))) ≡ cond b ([] ∷ pieces bytes) (onto_first first (pieces bytes)) ++ [] ∷ []) [
      | true ↦ ap (λ (l : List (List ℕ)). [] ∷ l) (pieces_feed bytes byte is)
      | false ↦ ap (onto_first first) (pieces_feed bytes byte is) ∙ onto_first-append first (pieces bytes) ([] ∷ []) (some_piece bytes)
    ]

pieces_byte : (bytes : List ℕ) (byte : ℕ) → is_line_feed byte ≡ false → pieces (bytes ++ byte ∷ []) ≡ onto_last byte (pieces bytes)
unfolding onto_last
pieces_byte [] byte is = ap (λ (b : Bool). cond b ([] ∷ [] ∷ []) (onto_first byte ([] ∷ []))) is
pieces_byte (first ∷ bytes) byte is =
    elim (is_line_feed first) as (λ b. cond b ([] ∷ pieces (bytes ++ byte ∷ [])) (onto_first first (pieces (bytes ++ byte ∷ []))) ≡ onto_last byte (cond b ([] ∷ pieces bytes) (onto_first first (pieces bytes)))) [
      | true ↦ ap (λ (l : List (List ℕ)). [] ∷ l) (pieces_byte bytes byte is) ∙ sym (onto_last_cons byte [] (pieces bytes) (some_piece bytes))
      | false ↦ ap (onto_first first) (pieces_byte bytes byte is) ∙ onto_first_last first byte (pieces bytes) (some_piece bytes)
    ]

-- a last part is put on, or made longer
front_push : (parts : List (List ℕ)) (part : List ℕ) → front (parts ++ part ∷ []) ≡ parts
front_push parts part =
    let e : length (parts ++ part ∷ []) - 1 ≡ length parts = omega (arith, length-append parts (part ∷ [])) in
    ap (λ n. take n (parts ++ part ∷ [])) e ∙ take-append_seam parts (part ∷ [])

end_push : (parts : List (List ℕ)) (part : List ℕ) → end (parts ++ part ∷ []) ≡ part
end_push parts part =
    let e : length (parts ++ part ∷ []) - 1 ≡ length parts = omega (arith, length-append parts (part ∷ [])) in
    ap (λ n. slice_index_or (parts ++ part ∷ []) n []) e ∙ get_or-append_seam parts part [] []

front_and_end : (parts : List (List ℕ)) → 0 < length parts → front parts ++ end parts ∷ [] ≡ parts
front_and_end parts some =
    let e : (length parts - 1) + 1 ≡ length parts = omega (arith, some) in
    sym (take_more parts (length parts - 1) [] (omega (arith, some))) ∙ ap (λ n. take n parts) e ∙ take-length parts

onto_last_push : (byte : ℕ) (parts : List (List ℕ)) (part : List ℕ) → onto_last byte (parts ++ part ∷ []) ≡ parts ++ (part ++ byte ∷ []) ∷ []
unfolding onto_last
onto_last_push byte [] part = refl
onto_last_push byte (first ∷ parts) part =
    onto_last_cons byte first (parts ++ part ∷ []) (omega (arith, length-append parts (part ∷ []))) ∙ ap (λ (l : List (List ℕ)). first ∷ l) (onto_last_push byte parts part)

pieces_longer : (bytes : List ℕ) (byte : ℕ) → is_line_feed byte ≡ false → pieces (bytes ++ byte ∷ []) ≡ whole_lines bytes ++ (unfinished bytes ++ byte ∷ []) ∷ []
pieces_longer bytes byte is =
    pieces_byte bytes byte is ∙ ap (onto_last byte) (sym (front_and_end (pieces bytes) (some_piece bytes))) ∙ onto_last_push byte (whole_lines bytes) (unfinished bytes)

-- a line feed ends the line
pub whole_lines_feed : (bytes : List ℕ) (byte : ℕ) → is_line_feed byte ≡ true → whole_lines (bytes ++ byte ∷ []) ≡ whole_lines bytes ++ unfinished bytes ∷ []
whole_lines_feed bytes byte is = ap front (pieces_feed bytes byte is) ∙ front_push (pieces bytes) [] ∙ sym (front_and_end (pieces bytes) (some_piece bytes))

pub unfinished_feed : (bytes : List ℕ) (byte : ℕ) → is_line_feed byte ≡ true → unfinished (bytes ++ byte ∷ []) ≡ []
unfinished_feed bytes byte is = ap end (pieces_feed bytes byte is) ∙ end_push (pieces bytes) []

-- another byte goes on with it
pub whole_lines_byte : (bytes : List ℕ) (byte : ℕ) → is_line_feed byte ≡ false → whole_lines (bytes ++ byte ∷ []) ≡ whole_lines bytes
whole_lines_byte bytes byte is = ap front (pieces_longer bytes byte is) ∙ front_push (whole_lines bytes) (unfinished bytes ++ byte ∷ [])

pub unfinished_byte : (bytes : List ℕ) (byte : ℕ) → is_line_feed byte ≡ false → unfinished (bytes ++ byte ∷ []) ≡ unfinished bytes ++ byte ∷ []
unfinished_byte bytes byte is = ap end (pieces_longer bytes byte is) ∙ end_push (whole_lines bytes) (unfinished bytes ++ byte ∷ [])

one_byte : (bytes : List ℕ) (byte : ℕ) → (rest : List (List ℕ)) × (whole_lines (bytes ++ byte ∷ []) ≡ whole_lines bytes ++ rest)
one_byte bytes byte = elim (cases_Bool (is_line_feed byte)) [
  | inl is ↦ (unfinished bytes ∷ [], whole_lines_feed bytes byte is)
  | inr not ↦ ([], whole_lines_byte bytes byte not ∙ sym (append-nil (whole_lines bytes)))
]

-- whole lines stay as they are
pub whole_lines-append : (bytes more : List ℕ) → (rest : List (List ℕ)) × (whole_lines (bytes ++ more) ≡ whole_lines bytes ++ rest)
whole_lines-append bytes [] = ([], ap whole_lines (append-nil bytes) ∙ sym (append-nil (whole_lines bytes)))
whole_lines-append bytes (byte ∷ more) =
    let first = one_byte bytes byte in
    let then = whole_lines-append (bytes ++ byte ∷ []) more in (
      first.0 ++ then.0,
      ap whole_lines (sym (append_assoc bytes (byte ∷ []) more)) ∙ then.1 ∙ ap (λ (l : List (List ℕ)). l ++ then.0) first.1 ∙ append_assoc (whole_lines bytes) first.0 then.0,
    )

-- the lines that are due of an input begin with those of its first bytes
pub due_short : (input : List ℕ) → length input ≤ most_input → due_lines input ≡ lines input
due_short input le = elim (leb_tells (length input) most_input) [
  | inl t ↦ ap (λ (b : Bool). cond b (lines input) (whole_lines (take most_input input))) t.0
  | inr f ↦ absurd (omega (arith, f.1, le))
]

pub due_long : (input : List ℕ) → most_input < length input → due_lines input ≡ whole_lines (take most_input input)
due_long input lt = elim (leb_tells (length input) most_input) [
  | inl t ↦ absurd (omega (arith, t.1, lt))
  | inr f ↦ ap (λ (b : Bool). cond b (lines input) (whole_lines (take most_input input))) f.0
]

pub due_first : (bytes rest : List ℕ) → length bytes ≤ most_input → (more : List (List ℕ)) × (due_lines (bytes ++ rest) ≡ whole_lines bytes ++ more)
due_first bytes rest le = elim (leb_tells (length (bytes ++ rest)) most_input) [
  | inl t ↦
      let then = whole_lines-append bytes rest in (
        then.0 ++ last_line (unfinished (bytes ++ rest)),
        due_short (bytes ++ rest) t.1 ∙ ap (λ (l : List (List ℕ)). l ++ last_line (unfinished (bytes ++ rest))) then.1 ∙ append_assoc (whole_lines bytes) then.0 _,
      )
  | inr f ↦
      let some = take (most_input - length bytes) rest in
      let then = whole_lines-append bytes some in
      let e : most_input ≡ length bytes + (most_input - length bytes) = omega (arith, le) in
      (then.0, due_long (bytes ++ rest) f.1 ∙ ap whole_lines (ap (λ n. take n (bytes ++ rest)) e ∙ take-append-add bytes rest (most_input - length bytes)) ∙ then.1)
]

-- exactly the bytes that are read were taken, and others follow
pub due_full : (bytes rest : List ℕ) → length bytes ≡ most_input → 0 < length rest → due_lines (bytes ++ rest) ≡ whole_lines bytes
due_full bytes rest is more =
    due_long (bytes ++ rest) (omega (arith, is, more, length-append bytes rest))
    ∙ ap whole_lines (ap (λ n. take n (bytes ++ rest)) (sym is) ∙ take-append_seam bytes rest)
