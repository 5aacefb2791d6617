-- The tokens of a line without their places, and how each is spelled.
use Rattle.std.proofs.Common.{◌≡◌, ℕ, zero, suc, ◌+◌, ◌-◌, ◌≤◌, min, Bool, true, false, cond, List, [], ◌∷◌, ◌++◌, length, take, drop, map, refl, ap, sym, ◌∙◌, subst, append_assoc, length-append, arith}
use Rattle.std.specs.Prelude.{if◌then◌else◌, nat_le, ◌&&◌, ◌==◌}
use Rattle.std.specs.List.{list_all, prefix_len, AllByRecursion}
use Rattle.std.proofs.lemmas.Bool.{and_parts, and_from, cond_both, eqb-true}
use Rattle.std.proofs.lemmas.Bool.Decides.{nat_tests}
use Rattle.std.proofs.Math.Seq.{drop-append_seam, take_all}
use Rattle.std.proofs.lemmas.List.{length-take}
use Rattle.mu_tree.specs.Names.{is_letter, is_digit, is_name_byte, is_segment}
use Rattle.mu_grammar.specs.declared.token.Token.{Token}
use Rattle.mu_grammar.specs.declared.token.TokenSort.{TokenSort}
use Rattle.mu_grammar.specs.declared.token.TokenSort.TheVariants.{Name, Meta, Place, Symbol, Wrong}
use Rattle.mu_grammar.specs.Reading.{is_blank, starts_positive, text_of}
use Rattle.mu_grammar.specs.Tokens.{starts_letter, run_length, dots, name_sort, is_arrow, is_pair, is_single, first_token, tokens_from, tokens}
use Rattle.mu_grammar.specs.SimpleParts.{is_number}
use Rattle.mu_grammar.proofs.Runs.{letter_is_name_byte, is_rest, is_rest-take_run, run_length-longest, run_length-le}

-- a token without its place: its sort and its bytes
abbrev pub Bare : Type 0
Bare = TokenSort × List ℕ

-- a token of a line
abbrev pub bare : List ℕ → Token → Bare
bare line token = (token.sort, text_of line token)

-- the token that begins with a byte and has so many of those that follow
abbrev pub cut : ℕ → List ℕ → TokenSort × ℕ → Bare
cut byte bytes first = (first.0, byte ∷ take first.1 bytes)

-- the tokens of a text behind that many bytes of a token
abbrev pub bares_from : ℕ → List ℕ → List Bare
bares_from skip [] = []
bares_from (suc skip) (byte ∷ bytes) = bares_from skip bytes
bares_from zero (byte ∷ bytes) = if is_blank byte then bares_from 0 bytes else (cut byte bytes (first_token byte bytes) ∷ bares_from (first_token byte bytes).1 bytes)

bare_at : (front : List ℕ) (byte : ℕ) (bytes : List ℕ) (first : TokenSort × ℕ) → bare (front ++ (byte ∷ bytes)) (record { sort = first.0; from = length front; to = length front + 1 + first.1 }) ≡ cut byte bytes first
bare_at front byte bytes first =
    let size : length front + 1 + first.1 - length front ≡ suc first.1 = omega arith in
    ap (λ (text : List ℕ). (first.0, text)) (ap (λ n. take n (drop (length front) (front ++ (byte ∷ bytes)))) size ∙ ap (take (suc first.1)) (drop-append_seam front (byte ∷ bytes)))

next_bare : (byte : ℕ) (bytes front : List ℕ) (skip : ℕ) → map (bare ((front ++ (byte ∷ [])) ++ bytes)) (tokens_from skip (length (front ++ (byte ∷ []))) bytes) ≡ bares_from skip bytes
    → map (bare (front ++ (byte ∷ bytes))) (tokens_from skip (length front + 1) bytes) ≡ bares_from skip bytes
next_bare byte bytes front skip e =
    ap (λ l. map (bare l) (tokens_from skip (length front + 1) bytes)) (sym (append_assoc front (byte ∷ []) bytes))
    ∙ (ap (λ i. map (bare ((front ++ (byte ∷ [])) ++ bytes)) (tokens_from skip i bytes)) (sym (length-append front (byte ∷ []))) ∙ e)

bares : (bytes front : List ℕ) (skip : ℕ) → map (bare (front ++ bytes)) (tokens_from skip (length front) bytes) ≡ bares_from skip bytes
bares [] front skip = refl
bares (byte ∷ bytes) front (suc skip) = next_bare byte bytes front skip (bares bytes (front ++ (byte ∷ [])) skip)
bares (byte ∷ bytes) front zero = here byte bytes front (is_blank byte) refl (λ k. next_bare byte bytes front k (bares bytes (front ++ (byte ∷ [])) k))
  where
    here : (byte : ℕ) (bytes front : List ℕ) (blank : Bool) → is_blank byte ≡ blank → ((k : ℕ) → map (bare (front ++ (byte ∷ bytes))) (tokens_from k (length front + 1) bytes) ≡ bares_from k bytes)
        → map (bare (front ++ (byte ∷ bytes))) (tokens_from 0 (length front) (byte ∷ bytes)) ≡ bares_from 0 (byte ∷ bytes)
    here byte bytes front true e next = rw e (next 0)
    here byte bytes front false e next =
        rw e (ap (λ x. x ∷ map (bare (front ++ (byte ∷ bytes))) (tokens_from (first_token byte bytes).1 (length front + 1) bytes)) (bare_at front byte bytes (first_token byte bytes))
        ∙ ap (λ l. cut byte bytes (first_token byte bytes) ∷ l) (next (first_token byte bytes).1))

-- the tokens of a line without their places
pub bares_of : (line : List ℕ) → map (bare line) (tokens line) ≡ bares_from 0 line
bares_of line = bares line [] 0

-- how the bytes of each sort are spelled
abbrev pub Spelled : TokenSort → List ℕ → Type 0
Spelled s [] = ⊥
Spelled Name (byte ∷ bytes) = (is_letter byte ≡ true) × (run_length bytes ≡ length bytes) × (dots bytes ≤ 2)
Spelled Meta (byte ∷ bytes) = (byte ≡ 63) × (is_segment bytes ≡ true)
Spelled Place (byte ∷ bytes) = (byte ≡ 35) × (is_number bytes ≡ true)
Spelled Symbol (byte ∷ bytes) = length bytes ≤ 2
Spelled Wrong (byte ∷ bytes) = Unit {0}

run_whole : (bytes : List ℕ) → run_length (take (run_length bytes) bytes) ≡ length (take (run_length bytes) bytes)
run_whole bytes =
    let text = take (run_length bytes) bytes in
    let rest : is_rest (take (length text) text) ≡ true = ap is_rest (take_all (length text) text (omega arith)) ∙ is_rest-take_run bytes in
    let least : length text ≤ run_length text = run_length-longest (length text) text (omega arith) rest in
    let most : run_length text ≤ length text = run_length-le text in
    omega arith

prefix_passes : (test : ℕ → Bool) (k : ℕ) (text : List ℕ) → k ≤ prefix_len test text → list_all test (take k text) ≡ true
prefix_passes test zero text h = refl
prefix_passes test (suc k) [] h = refl
prefix_passes test (suc k) (byte ∷ bytes) h = by (test byte) refl (λ i. prefix_passes test k bytes i)
  where
    by : (b : Bool) → test byte ≡ b → (k ≤ prefix_len test bytes → list_all test (take k bytes) ≡ true) → (test byte && list_all test (take k bytes)) ≡ true
    by true e next =
        let size : prefix_len test (byte ∷ bytes) ≡ 1 + prefix_len test bytes = ap (λ b. cond b (1 + prefix_len test bytes) 0) e in
        and_from (test byte) _ e (next (omega arith))
    by false e next =
        let size : prefix_len test (byte ∷ bytes) ≡ 0 = ap (λ b. cond b (1 + prefix_len test bytes) 0) e in
        absurd (omega arith)

-- the bytes that a first token has are spelled as its sort says
abbrev CutIsSpelled : ℕ → List ℕ → TokenSort × ℕ → Type 0
CutIsSpelled byte bytes first = Spelled first.0 (byte ∷ take first.1 bytes)

name_cut : (byte : ℕ) (bytes : List ℕ) → is_letter byte ≡ true → CutIsSpelled byte bytes (name_sort (dots (take (run_length bytes) bytes)), run_length bytes)
name_cut byte bytes letter = by (nat_le (dots (take (run_length bytes) bytes)) 2) refl
  where
    by : (b : Bool) → nat_le (dots (take (run_length bytes) bytes)) 2 ≡ b → CutIsSpelled byte bytes ((if b then Name else Wrong), run_length bytes)
    by true e = (letter, run_whole bytes, grind (arith, nat_tests))
    by false e = tt

segment_cut : (bytes : List ℕ) → starts_letter bytes ≡ true → is_segment (take (prefix_len is_name_byte bytes) bytes) ≡ true
segment_cut [] e = let no : false ≡ true = e in cc
segment_cut (byte ∷ bytes) e =
    let size : prefix_len is_name_byte (byte ∷ bytes) ≡ suc (prefix_len is_name_byte bytes) = ap (λ b. cond b (1 + prefix_len is_name_byte bytes) 0) (letter_is_name_byte byte e) ∙ omega arith in
    ap (λ k. is_segment (take k (byte ∷ bytes))) size ∙ and_from (is_letter byte) _ e (prefix_passes is_name_byte (prefix_len is_name_byte bytes) bytes (omega arith))

positive_is_digit : (byte : ℕ) → (nat_le 49 byte && nat_le byte 57) ≡ true → is_digit byte ≡ true
positive_is_digit byte e = grind (arith, nat_tests)

number_cut : (bytes : List ℕ) → starts_positive bytes ≡ true → is_number (take (min 9 (prefix_len is_digit bytes)) bytes) ≡ true
number_cut [] e = let no : false ≡ true = e in cc
number_cut (byte ∷ bytes) e =
    let k = min 9 (prefix_len is_digit (byte ∷ bytes)) in
    let size : prefix_len is_digit (byte ∷ bytes) ≡ 1 + prefix_len is_digit bytes = ap (λ b. cond b (1 + prefix_len is_digit bytes) 0) (positive_is_digit byte e) in
    let some : k ≡ suc (k - 1) = omega arith in
    let all : list_all is_digit (take k (byte ∷ bytes)) ≡ true = prefix_passes is_digit k (byte ∷ bytes) (omega arith) in
    let starts : starts_positive (take k (byte ∷ bytes)) ≡ true = ap (λ n. starts_positive (take n (byte ∷ bytes))) some ∙ e in
    let within : length (take k (byte ∷ bytes)) ≤ 9 = few k (byte ∷ bytes) (omega arith) in
    and_from (starts_positive (take k (byte ∷ bytes)) && list_all is_digit (take k (byte ∷ bytes))) _ (and_from _ _ starts all) (grind (arith, nat_tests))
  where
    few : (n : ℕ) (text : List ℕ) → n ≤ 9 → length (take n text) ≤ 9
    few n text h = omega (arith, length-take n text)

first_spelled : (byte : ℕ) (bytes : List ℕ) → CutIsSpelled byte bytes (first_token byte bytes)
unfolding first_token
first_spelled byte bytes =
    cond_both (is_letter byte) _ _ (CutIsSpelled byte bytes) (name_cut byte bytes)
    (λ _. cond_both (byte == 63 && starts_letter bytes) _ _ (CutIsSpelled byte bytes)
    (λ e. let parts = and_parts (byte == 63) (starts_letter bytes) e in (eqb-true _ _ parts.0, segment_cut bytes parts.1))
    (λ _. cond_both (byte == 35 && starts_positive bytes) _ _ (CutIsSpelled byte bytes)
    (λ e. let parts = and_parts (byte == 35) (starts_positive bytes) e in (eqb-true _ _ parts.0, number_cut bytes parts.1))
    (λ _. cond_both (is_arrow byte bytes) _ _ (CutIsSpelled byte bytes) (λ e. omega (arith, length-take 2 bytes))
    (λ _. cond_both (is_pair byte bytes) _ _ (CutIsSpelled byte bytes) (λ e. omega (arith, length-take 1 bytes))
    (λ _. cond_both (is_single byte) (Symbol, 0) (Wrong, 0) (CutIsSpelled byte bytes) (λ e. omega arith) (λ _. tt))))))

-- a token is spelled as its sort says
abbrev pub IsSpelled : Bare → Type 0
IsSpelled x = Spelled x.0 x.1

each_spelled : (bytes : List ℕ) (skip : ℕ) → AllByRecursion IsSpelled (bares_from skip bytes)
each_spelled [] skip = tt
each_spelled (byte ∷ bytes) (suc skip) = each_spelled bytes skip
each_spelled (byte ∷ bytes) zero =
    cond_both (is_blank byte) (bares_from 0 bytes) (cut byte bytes (first_token byte bytes) ∷ bares_from (first_token byte bytes).1 bytes) (AllByRecursion IsSpelled)
    (λ _. each_spelled bytes 0) (λ _. (first_spelled byte bytes, each_spelled bytes (first_token byte bytes).1))

-- each token of a line is spelled as its sort says
pub line_spelled : (line : List ℕ) → AllByRecursion IsSpelled (map (bare line) (tokens line))
line_spelled line = subst (AllByRecursion IsSpelled) (sym (bares_of line)) (each_spelled line 0)
