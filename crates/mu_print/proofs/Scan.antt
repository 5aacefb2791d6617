-- The tokens of a text without their places, and those of a writing's text.
use Rattle.std.proofs.Common.{◌≡◌, ℕ, zero, suc, ◌+◌, ◌-◌, ◌≤◌, min, cond, List, [], ◌∷◌, ◌++◌, length, take, drop, map, Bool, true, false, ◌&&◌, ◌||◌, Some, refl, ap, sym, ◌∙◌, append_assoc, append-nil, length-append, arith}
use Rattle.std.specs.Prelude.{if◌then◌else◌, nat_le, ◌==◌}
use Rattle.std.specs.List.{prefix_len}
use Rattle.std.proofs.lemmas.Bool.Decides.{nat_tests}
use Rattle.mu_tree.specs.Names.{is_letter, is_digit, is_name_byte}
use Rattle.mu_grammar.specs.declared.token.TokenSort.{TokenSort}
use Rattle.mu_grammar.specs.declared.token.TokenSort.TheVariants as token
use Rattle.mu_grammar.specs.Reading.{is_blank, starts_positive, text_of as bytes_at}
use Rattle.mu_grammar.specs.Tokens.{starts_letter, starts_with, run_length, dots, first_token, tokens_from}
use Rattle.mu_grammar.specs.declared.ops.Op.{Op}
use Rattle.mu_grammar.specs.declared.symbol.Word.{Word}
use Rattle.mu_grammar.specs.declared.symbol.Word.TheVariants.{Plain, Dotted, True, Meta, Place}
use Rattle.mu_grammar.specs.declared.symbol.Mark.TheVariants.{And, Or, Not, Iff, Imp, Eq, Colon, Open, Close, OpenBrace, CloseBrace, Comma, Dot, Bar}
use Rattle.mu_grammar.specs.Lexemes.{Lexeme, word, mark, item, items_of, item_of, sort_in, word_in}
use Rattle.mu_grammar.specs.Ops.{binary}
use Rattle.mu_grammar.specs.Spellings.{word_text, lexeme_text}
use Rattle.mu_grammar.specs.Writings.{Writing, Writings, leaf, apply, bind, paren, neg, bin, one, more, opener, closer, tokens, tokens_of}
use Rattle.mu_grammar.proofs.Together.{neither}
use Rattle.mu_print.specs.Canonical.{text_of, texts_of}
use Rattle.mu_print.specs.Sound.{SoundName, SoundMeta, SoundPlace, Sound, Sounds, SoundsAll}

-- a token by its bytes and its sort
abbrev pub piece : List ℕ → TokenSort → Lexeme
piece text s = item_of (sort_in text s) (word_in text s)

-- the tokens of a text, behind that many bytes of a token
abbrev pub scan : ℕ → List ℕ → List Lexeme
scan skip [] = []
scan (suc skip) (byte ∷ bytes) = scan skip bytes
scan zero (byte ∷ bytes) = if is_blank byte then scan 0 bytes else (let first = first_token byte bytes in piece (byte ∷ take first.1 bytes) first.0 ∷ scan first.1 bytes)

-- what follows goes on with no word, and with no bar
abbrev pub Stop : List ℕ → Type 0
Stop [] = Unit {0}
Stop (byte ∷ bytes) = ((is_name_byte byte || byte == 45) ≡ false) × ((byte == 46 && starts_letter bytes) ≡ false)

pub take_front : {A : Type 0} (xs ys : List A) → take (length xs) (xs ++ ys) ≡ xs
take_front [] ys = refl
take_front (x ∷ xs) ys = ap (λ l. x ∷ l) (take_front xs ys)

pub drop_front : {A : Type 0} (xs ys : List A) → drop (length xs) (xs ++ ys) ≡ ys
drop_front [] ys = refl
drop_front (x ∷ xs) ys = drop_front xs ys

pub scan_skip : (xs ys : List ℕ) → scan (length xs) (xs ++ ys) ≡ scan 0 ys
scan_skip [] ys = refl
scan_skip (x ∷ xs) ys = scan_skip xs ys

le_yes : (a b : ℕ) → a ≤ b → nat_le a b ≡ true
le_yes a b h = grind (arith, nat_tests)

no_blank : (byte : ℕ) → is_letter byte ≡ true → is_blank byte ≡ false
no_blank byte e = grind (arith, nat_tests)

no_equals : (byte : ℕ) → is_letter byte ≡ true → (byte == 61) ≡ false
no_equals byte e = grind (arith, nat_tests)

no_digit : (byte : ℕ) → is_name_byte byte ≡ false → is_digit byte ≡ false
no_digit byte e = grind (arith, nat_tests)

no_name_byte : (byte : ℕ) (r : List ℕ) → Stop (byte ∷ r) → is_name_byte byte ≡ false
no_name_byte byte r s = (neither (is_name_byte byte) (byte == 45) s.0).0

no_dash : (r : List ℕ) → Stop r → starts_with 45 r ≡ false
no_dash [] s = refl
no_dash (byte ∷ r) s = (neither (is_name_byte byte) (byte == 45) s.0).1

pub run_stop : (r : List ℕ) → Stop r → run_length r ≡ 0
run_stop [] s = refl
run_stop (byte ∷ r) s = rw (no_name_byte byte r s, s.1) refl

front_stop : (r : List ℕ) → Stop r → prefix_len is_name_byte r ≡ 0
front_stop [] s = refl
front_stop (byte ∷ r) s = rw (no_name_byte byte r s) refl

digits_stop : (r : List ℕ) → Stop r → prefix_len is_digit r ≡ 0
digits_stop [] s = refl
digits_stop (byte ∷ r) s = rw (no_digit byte (no_name_byte byte r s)) refl

chosen : (b : Bool) (n m : ℕ) → (if b then suc n else 0) ≡ suc m → (b ≡ true) × (n ≡ m)
chosen true n m e = (refl, (let i : n ≡ m = omega arith in i))
chosen false n m e = absurd (omega arith)

prefix_step : (b : Bool) (n m : ℕ) → cond b (1 + n) 0 ≡ suc m → (b ≡ true) × (n ≡ m)
prefix_step true n m e = (refl, (let i : n ≡ m = omega arith in i))
prefix_step false n m e = absurd (omega arith)

or_none : (a : Bool) → (a || false) ≡ true → a ≡ true
or_none true e = refl
or_none false e = e

and_none : (a : Bool) → (a && false) ≡ false
and_none true = refl
and_none false = refl

run_app : (x r : List ℕ) → run_length x ≡ length x → Stop r → run_length (x ++ r) ≡ length x
run_app [] r e s = run_stop r s
run_app (b ∷ []) r e s =
    let c : ((is_name_byte b || (b == 46 && false)) ≡ true) × (0 ≡ 0) = chosen (is_name_byte b || (b == 46 && false)) 0 0 e in
    let w : is_name_byte b ≡ true = or_none (is_name_byte b) (ap (λ v. is_name_byte b || v) (sym (and_none (b == 46))) ∙ c.0) in
    rw (w, run_stop r s) refl
run_app (b ∷ d ∷ x) r e s =
    let c : ((is_name_byte b || (b == 46 && is_letter d)) ≡ true) × (run_length (d ∷ x) ≡ length (d ∷ x)) = chosen (is_name_byte b || (b == 46 && is_letter d)) (run_length (d ∷ x)) (length (d ∷ x)) e in
    ap (λ v. if v then suc (run_length ((d ∷ x) ++ r)) else 0) c.0 ∙ ap suc (run_app (d ∷ x) r c.1 s)

prefix_app : (p : ℕ → Bool) (x r : List ℕ) → prefix_len p x ≡ length x → prefix_len p r ≡ 0 → prefix_len p (x ++ r) ≡ length x
prefix_app p [] r e s = s
prefix_app p (b ∷ x) r e s =
    let c : (p b ≡ true) × (prefix_len p x ≡ length x) = prefix_step (p b) (prefix_len p x) (length x) e in
    let i : prefix_len p (x ++ r) ≡ length x = prefix_app p x r c.1 s in
    ap (λ v. cond v (1 + prefix_len p (x ++ r)) 0) c.0 ∙ (let j : 1 + prefix_len p (x ++ r) ≡ suc (length x) = omega arith in j)

letter_is_name_byte : (byte : ℕ) → is_letter byte ≡ true → is_name_byte byte ≡ true
letter_is_name_byte byte e = grind (arith, nat_tests)

first_name : (b : ℕ) (bs r : List ℕ) → is_letter b ≡ true → run_length bs ≡ length bs → dots bs ≤ 2 → Stop r → first_token b (bs ++ r) ≡ (token.Name, length bs)
unfolding first_token
first_name b bs r l e d s = rw (l, run_app bs r e s, take_front bs r, le_yes (dots bs) 2 d) refl

first_meta : (c : ℕ) (x r : List ℕ) → is_letter c ≡ true → prefix_len is_name_byte x ≡ length x → Stop r → first_token 63 ((c ∷ x) ++ r) ≡ (token.Meta, length (c ∷ x))
unfolding first_token
first_meta c x r l e s =
    let n : prefix_len is_name_byte ((c ∷ x) ++ r) ≡ length (c ∷ x) =
    ap (λ v. cond v (1 + prefix_len is_name_byte (x ++ r)) 0) (letter_is_name_byte c l) ∙ (let i = prefix_app is_name_byte x r e (front_stop r s) in let j : 1 + prefix_len is_name_byte (x ++ r) ≡ suc (length x) = omega arith in j) in
    ap (λ v. if v then (token.Meta, prefix_len is_name_byte ((c ∷ x) ++ r)) else (token.Wrong, 0)) l ∙ ap (λ n. (token.Meta, n)) n

first_digits : (bytes : List ℕ) → starts_positive bytes ≡ true → first_token 35 bytes ≡ (token.Place, min 9 (prefix_len is_digit bytes))
unfolding first_token
first_digits bytes e = ap (λ v. if v then (token.Place, min 9 (prefix_len is_digit bytes)) else (token.Wrong, 0)) e

positive_app : (x r : List ℕ) → starts_positive x ≡ true → starts_positive (x ++ r) ≡ true
positive_app [] r e = cc
positive_app (b ∷ x) r e = e

first_place : (x r : List ℕ) → SoundPlace x → Stop r → first_token 35 (x ++ r) ≡ (token.Place, length x)
first_place x r (positive, digits, few) s =
    let n : prefix_len is_digit (x ++ r) ≡ length x = prefix_app is_digit x r digits (digits_stop r s) in
    let m : min 9 (prefix_len is_digit (x ++ r)) ≡ length x = grind arith in
    first_digits (x ++ r) (positive_app x r positive) ∙ ap (λ k. (token.Place, k)) m

name_run : (w : Word) (x r : List ℕ) → SoundName w x → Stop r → scan 0 (x ++ r) ≡ word w x ∷ scan 0 r
name_run w [] r h t = absurd h
name_run w (b ∷ bs) r h t =
    let e : first_token b (bs ++ r) ≡ (token.Name, length bs) = first_name b bs r h.0 h.1 h.2 t in
    ap (λ v. if v then scan 0 (bs ++ r) else (piece (b ∷ take (first_token b (bs ++ r)).1 (bs ++ r)) (first_token b (bs ++ r)).0 ∷ scan (first_token b (bs ++ r)).1 (bs ++ r))) (no_blank b h.0)
    ∙ (ap (λ t. piece (b ∷ take t.1 (bs ++ r)) t.0 ∷ scan t.1 (bs ++ r)) e
    ∙ (ap (λ y. piece (b ∷ y) token.Name ∷ scan (length bs) (bs ++ r)) (take_front bs r)
    ∙ (ap (λ u. item_of u (b ∷ bs) ∷ scan (length bs) (bs ++ r)) h.3 ∙ ap (λ l. word w (b ∷ bs) ∷ l) (scan_skip bs r))))

meta_run : (x r : List ℕ) → SoundMeta x → Stop r → scan 0 (63 ∷ (x ++ r)) ≡ word Meta x ∷ scan 0 r
meta_run [] r h t = absurd h
meta_run (c ∷ x) r h t =
    let e : first_token 63 ((c ∷ x) ++ r) ≡ (token.Meta, length (c ∷ x)) = first_meta c x r h.0 h.1 t in
    ap (λ t. piece (63 ∷ take t.1 ((c ∷ x) ++ r)) t.0 ∷ scan t.1 ((c ∷ x) ++ r)) e
    ∙ (ap (λ y. word Meta y ∷ scan (length (c ∷ x)) ((c ∷ x) ++ r)) (take_front (c ∷ x) r) ∙ ap (λ l. word Meta (c ∷ x) ∷ l) (scan_skip (c ∷ x) r))

place_run : (x r : List ℕ) → SoundPlace x → Stop r → scan 0 (35 ∷ (x ++ r)) ≡ word Place x ∷ scan 0 r
place_run x r h t =
    ap (λ t. piece (35 ∷ take t.1 (x ++ r)) t.0 ∷ scan t.1 (x ++ r)) (first_place x r h t)
    ∙ (ap (λ y. word Place y ∷ scan (length x) (x ++ r)) (take_front x r) ∙ ap (λ l. word Place x ∷ l) (scan_skip x r))

-- a word that is sound is read back
pub word_run : (w : Word) (x r : List ℕ) → Sound w x → Stop r → scan 0 (word_text w x ++ r) ≡ word w x ∷ scan 0 r
word_run Meta x r h t = meta_run x r h t
word_run Place x r h t = place_run x r h t
word_run Plain x r h t = name_run Plain x r h t
word_run Dotted x r h t = name_run Dotted x r h t
word_run True x r h t = name_run True x r h t

opener_run : (w : Word) (r : List ℕ) → scan 0 (lexeme_text (opener w) ++ r) ≡ opener w ∷ scan 0 r
unfolding first_token
opener_run Meta r = refl
opener_run Place r = refl
opener_run Plain r = refl
opener_run Dotted r = refl
opener_run True r = refl

closer_run : (w : Word) (r : List ℕ) → scan 0 (lexeme_text (closer w) ++ r) ≡ closer w ∷ scan 0 r
unfolding first_token
closer_run Meta r = refl
closer_run Place r = refl
closer_run Plain r = refl
closer_run Dotted r = refl
closer_run True r = refl

opener_stop : (w : Word) (r : List ℕ) → Stop (lexeme_text (opener w) ++ r)
opener_stop Meta r = (refl, refl)
opener_stop Place r = (refl, refl)
opener_stop Plain r = (refl, refl)
opener_stop Dotted r = (refl, refl)
opener_stop True r = (refl, refl)

closer_stop : (w : Word) (r : List ℕ) → Stop (lexeme_text (closer w) ++ r)
closer_stop Meta r = (refl, refl)
closer_stop Place r = (refl, refl)
closer_stop Plain r = (refl, refl)
closer_stop Dotted r = (refl, refl)
closer_stop True r = (refl, refl)

open_brace_run : (r : List ℕ) → scan 0 (123 ∷ r) ≡ mark OpenBrace ∷ scan 0 r
unfolding first_token
open_brace_run r = refl

close_brace_run : (r : List ℕ) → scan 0 (125 ∷ r) ≡ mark CloseBrace ∷ scan 0 r
unfolding first_token
close_brace_run r = refl

open_run : (r : List ℕ) → scan 0 (40 ∷ r) ≡ mark Open ∷ scan 0 r
unfolding first_token
open_run r = refl

close_run : (r : List ℕ) → scan 0 (41 ∷ r) ≡ mark Close ∷ scan 0 r
unfolding first_token
close_run r = refl

pub comma_run : (r : List ℕ) → scan 0 (44 ∷ 32 ∷ r) ≡ mark Comma ∷ scan 0 r
unfolding first_token
comma_run r = refl

dot_run : (r : List ℕ) → scan 0 (46 ∷ 32 ∷ r) ≡ mark Dot ∷ scan 0 r
unfolding first_token
dot_run r = refl

not_run : (r : List ℕ) → scan 0 (110 ∷ 111 ∷ 116 ∷ 32 ∷ r) ≡ mark Not ∷ scan 0 r
unfolding first_token
not_run r = refl

pub colon_run : (r : List ℕ) → starts_with 61 r ≡ false → scan 0 (58 ∷ r) ≡ mark Colon ∷ scan 0 r
unfolding first_token
colon_run r e = rw e refl

pub bar_run : (r : List ℕ) → Stop r → scan 0 (124 ∷ r) ≡ mark Bar ∷ scan 0 r
unfolding first_token
bar_run r s = rw (no_dash r s) refl

operator_run : (item : Lexeme) (o : Op) (r : List ℕ) → binary item ≡ Some o → scan 0 (32 ∷ (lexeme_text item ++ (32 ∷ r))) ≡ item ∷ scan 0 r
unfolding first_token
operator_run (mark Iff) o r e = refl
operator_run (mark Imp) o r e = refl
operator_run (mark Or) o r e = refl
operator_run (mark And) o r e = refl
operator_run (mark Eq) o r e = refl
operator_run (mark Colon) o r e = refl
operator_run (word w x) o r e = cc
operator_run (mark _) o r e = cc

word_starts : (w : Word) (x r : List ℕ) → Sound w x → starts_with 61 (word_text w x ++ r) ≡ false
word_starts Meta x r h = refl
word_starts Place x r h = refl
word_starts Plain [] r h = absurd h
word_starts Plain (b ∷ x) r h = no_equals b h.0
word_starts Dotted [] r h = absurd h
word_starts Dotted (b ∷ x) r h = no_equals b h.0
word_starts True [] r h = absurd h
word_starts True (b ∷ x) r h = no_equals b h.0

-- no text begins with an equals sign
pub starts : (w : Writing) (r : List ℕ) → Sounds w → starts_with 61 (text_of w ++ r) ≡ false
starts (leaf w x) r h = word_starts w x r h
starts (apply w x ws) r h = ap (starts_with 61) (append_assoc (word_text w x) (lexeme_text (opener w) ++ (texts_of ws ++ lexeme_text (closer w))) r) ∙ word_starts w x _ h.0
starts (bind w x v d b) r h = ap (starts_with 61) (append_assoc (word_text w x) (123 ∷ (v ++ (58 ∷ (text_of d ++ (46 ∷ 32 ∷ (text_of b ++ (125 ∷ []))))))) r) ∙ word_starts w x _ h.0
starts (paren w) r h = refl
starts (neg w) r h = refl
starts (bin item o a b) r h = ap (starts_with 61) (append_assoc (text_of a) (32 ∷ (lexeme_text item ++ (32 ∷ text_of b))) r) ∙ starts a _ h.1

mutual
  -- the tokens of a writing's text are the writing's
  pub scans : (w : Writing) (r : List ℕ) → Sounds w → Stop r → scan 0 (text_of w ++ r) ≡ tokens w ++ scan 0 r
  scans (leaf w x) r h t = word_run w x r h t
  scans (apply w x ws) r h t =
      let inner : List ℕ = texts_of ws ++ lexeme_text (closer w) in
      ap (scan 0) (append_assoc (word_text w x) (lexeme_text (opener w) ++ inner) r ∙ ap (λ l. word_text w x ++ l) (append_assoc (lexeme_text (opener w)) inner r))
      ∙ (word_run w x (lexeme_text (opener w) ++ (inner ++ r)) h.0 (opener_stop w (inner ++ r))
      ∙ ap (λ l. word w x ∷ l) (opener_run w (inner ++ r)
      ∙ ap (λ l. opener w ∷ l) (ap (scan 0) (append_assoc (texts_of ws) (lexeme_text (closer w)) r)
      ∙ (scans_all ws (lexeme_text (closer w) ++ r) h.1 (closer_stop w r)
      ∙ (ap (λ l. tokens_of ws ++ l) (closer_run w r) ∙ sym (append_assoc (tokens_of ws) (closer w ∷ []) (scan 0 r)))))))
  scans (bind w x v d b) r h t =
      let end : List ℕ = text_of b ++ (125 ∷ []) in
      let rest : List ℕ = text_of d ++ (46 ∷ 32 ∷ end) in
      ap (scan 0) (append_assoc (word_text w x) (123 ∷ (v ++ (58 ∷ rest))) r)
      ∙ (word_run w x (123 ∷ ((v ++ (58 ∷ rest)) ++ r)) h.0 (refl, refl)
      ∙ ap (λ l. word w x ∷ l) (open_brace_run ((v ++ (58 ∷ rest)) ++ r)
      ∙ ap (λ l. mark OpenBrace ∷ l) (ap (scan 0) (append_assoc v (58 ∷ rest) r)
      ∙ (word_run Plain v (58 ∷ (rest ++ r)) h.1 (refl, refl)
      ∙ ap (λ l. word Plain v ∷ l) (colon_run (rest ++ r) (ap (starts_with 61) (append_assoc (text_of d) (46 ∷ 32 ∷ end) r) ∙ starts d (46 ∷ 32 ∷ (end ++ r)) h.2)
      ∙ ap (λ l. mark Colon ∷ l) (ap (scan 0) (append_assoc (text_of d) (46 ∷ 32 ∷ end) r)
      ∙ (scans d (46 ∷ 32 ∷ (end ++ r)) h.2 (refl, refl)
      ∙ (ap (λ l. tokens d ++ l) (dot_run (end ++ r) ∙ ap (λ l. mark Dot ∷ l) (ap (scan 0) (append_assoc (text_of b) (125 ∷ []) r)
      ∙ (scans b (125 ∷ r) h.3 (refl, refl) ∙ (ap (λ l. tokens b ++ l) (close_brace_run r) ∙ sym (append_assoc (tokens b) (mark CloseBrace ∷ []) (scan 0 r))))))
      ∙ sym (append_assoc (tokens d) (mark Dot ∷ (tokens b ++ (mark CloseBrace ∷ []))) (scan 0 r))))))))))
  scans (paren w) r h t =
      open_run ((text_of w ++ (41 ∷ [])) ++ r) ∙ ap (λ l. mark Open ∷ l) (ap (scan 0) (append_assoc (text_of w) (41 ∷ []) r)
      ∙ (scans w (41 ∷ r) h (refl, refl) ∙ (ap (λ l. tokens w ++ l) (close_run r) ∙ sym (append_assoc (tokens w) (mark Close ∷ []) (scan 0 r)))))
  scans (neg w) r h t = not_run (text_of w ++ r) ∙ ap (λ l. mark Not ∷ l) (scans w r h t)
  scans (bin item o a b) r h t =
      ap (scan 0) (append_assoc (text_of a) (32 ∷ (lexeme_text item ++ (32 ∷ text_of b))) r ∙ ap (λ l. text_of a ++ (32 ∷ l)) (append_assoc (lexeme_text item) (32 ∷ text_of b) r))
      ∙ (scans a (32 ∷ (lexeme_text item ++ (32 ∷ (text_of b ++ r)))) h.1 (refl, refl)
      ∙ (ap (λ l. tokens a ++ l) (operator_run item o (text_of b ++ r) h.0 ∙ ap (λ l. item ∷ l) (scans b r h.2 t))
      ∙ sym (append_assoc (tokens a) (item ∷ tokens b) (scan 0 r))))

  pub scans_all : (ws : Writings) (r : List ℕ) → SoundsAll ws → Stop r → scan 0 (texts_of ws ++ r) ≡ tokens_of ws ++ scan 0 r
  scans_all (one w) r h t = scans w r h t
  scans_all (more w ws) r h t =
      ap (scan 0) (append_assoc (text_of w) (44 ∷ 32 ∷ texts_of ws) r)
      ∙ (scans w (44 ∷ 32 ∷ (texts_of ws ++ r)) h.0 (refl, refl)
      ∙ (ap (λ l. tokens w ++ l) (comma_run (texts_of ws ++ r) ∙ ap (λ l. mark Comma ∷ l) (scans_all ws r h.1 t)) ∙ sym (append_assoc (tokens w) (mark Comma ∷ tokens_of ws) (scan 0 r))))

-- a token in its line
item_at : (front : List ℕ) (b n : ℕ) (bs : List ℕ) (s : TokenSort) → item (front ++ (b ∷ bs)) (record { sort = s; from = length front; to = length front + 1 + n }) ≡ piece (b ∷ take n bs) s
unfolding item
item_at front b n bs s =
    let d : length front + 1 + n - length front ≡ suc n = omega arith in
    let e : bytes_at (front ++ (b ∷ bs)) (record { sort = s; from = length front; to = length front + 1 + n }) ≡ b ∷ take n bs =
    ap (λ k. take k (drop (length front) (front ++ (b ∷ bs)))) d ∙ ap (take (suc n)) (drop_front front (b ∷ bs)) in
    ap (λ text. piece text s) e

-- one byte later
one_later : (b : ℕ) (bs front : List ℕ) (k : ℕ) → map (item ((front ++ (b ∷ [])) ++ bs)) (tokens_from k (length (front ++ (b ∷ []))) bs) ≡ scan k bs → map (item (front ++ (b ∷ bs))) (tokens_from k (length front + 1) bs) ≡ scan k bs
one_later b bs front k e =
    ap (λ l. map (item l) (tokens_from k (length front + 1) bs)) (sym (append_assoc front (b ∷ []) bs))
    ∙ (ap (λ i. map (item ((front ++ (b ∷ [])) ++ bs)) (tokens_from k i bs)) (sym (length-append front (b ∷ []))) ∙ e)

token_first : (b : ℕ) (bs front : List ℕ) (blank : Bool) → is_blank b ≡ blank → ((k : ℕ) → map (item (front ++ (b ∷ bs))) (tokens_from k (length front + 1) bs) ≡ scan k bs) → map (item (front ++ (b ∷ bs))) (tokens_from 0 (length front) (b ∷ bs)) ≡ scan 0 (b ∷ bs)
token_first b bs front true e later = rw e (later 0)
token_first b bs front false e later =
    rw e (ap (λ x. x ∷ map (item (front ++ (b ∷ bs))) (tokens_from (first_token b bs).1 (length front + 1) bs)) (item_at front b (first_token b bs).1 bs (first_token b bs).0)
    ∙ ap (λ l. piece (b ∷ take (first_token b bs).1 bs) (first_token b bs).0 ∷ l) (later (first_token b bs).1))

-- the tokens of what is left of a line, at their places, are those without places
scan_from : (bs front : List ℕ) (k : ℕ) → map (item (front ++ bs)) (tokens_from k (length front) bs) ≡ scan k bs
scan_from [] front k = refl
scan_from (b ∷ bs) front (suc k) = one_later b bs front k (scan_from bs (front ++ (b ∷ [])) k)
scan_from (b ∷ bs) front zero = token_first b bs front (is_blank b) refl (λ k. one_later b bs front k (scan_from bs (front ++ (b ∷ [])) k))

pub items_scan : (line : List ℕ) → items_of line ≡ scan 0 line
items_scan line = scan_from line [] 0

-- the text of a writing whose words are sound has the writing's tokens
pub items-text_of : (w : Writing) → Sounds w → items_of (text_of w) ≡ tokens w
items-text_of w h = items_scan (text_of w) ∙ (ap (scan 0) (sym (append-nil (text_of w))) ∙ (scans w [] h tt ∙ append-nil (tokens w)))
