-- What is printed of a spelled value lexes to tokens that spell a value with the same meaning.
use Rattle.std.proofs.Common.{◌≡◌, ℕ, List, [], ◌∷◌, ◌++◌, refl, ap, sym, ◌∙◌, subst, append_assoc, append-nil}
use Rattle.std.specs.Prelude.{codes, Ok}
use Rattle.mu_grammar.specs.Lexemes.{Lexeme, items_of}
use Rattle.mu_grammar.specs.Writings.{Writing}
use Rattle.mu_grammar.specs.Excesses.{excess_of, no_excess}
use Rattle.mu_grammar.specs.Limits.{WithinToken, WithinTokens}
use Rattle.mu_grammar.specs.Texts.{IsOfLanguage, ReadsText}
use Rattle.mu_grammar.proofs.Together.{all_parts, all_together}
use Rattle.mu_grammar.proofs.Within.{line_kept}
use Rattle.mu_print.specs.Sound.{SoundLexeme, SoundLexemes, RightLexeme, RightLexemes}
use Rattle.mu_print.specs.Texts.{surrounded}
use Rattle.mu_print.proofs.Scan.{scan, Stop, items_scan}
use Rattle.mu_print.proofs.Lines.{line_sound, line_short}

-- no word goes on with the text
abbrev pub Stops : List ℕ → Type 0
Stops text = (r : List ℕ) → Stop (text ++ r)

-- no word goes on with the text, where none goes on behind it
abbrev pub KeepsStop : List ℕ → Type 0
KeepsStop text = (r : List ℕ) → Stop r → Stop (text ++ r)

-- the text has these tokens where no word goes on behind it; each fits something, and its names are within the limit
pub record Lexed (text : List ℕ) (spelled : List Lexeme) : Type 0 where
  pub lexes : (r : List ℕ) → Stop r → scan 0 (text ++ r) ≡ spelled ++ scan 0 r
  pub right : RightLexemes spelled
  pub within : WithinTokens spelled

-- the same, whatever is behind the text
pub record Fixed (text : List ℕ) (spelled : List Lexeme) : Type 0 where
  pub lexes : (r : List ℕ) → scan 0 (text ++ r) ≡ spelled ++ scan 0 r
  pub right : RightLexemes spelled
  pub within : WithinTokens spelled

pub lexed_nothing : Lexed [] []
lexed_nothing = record { lexes = λ r s. refl; right = tt; within = tt }

pub lexed_fixed : {a : List ℕ} {ts : List Lexeme} → Fixed a ts → Lexed a ts
lexed_fixed p = record { lexes = λ r s. p.lexes r; right = p.right; within = p.within }

-- one text behind another
pub lexed_then : {a b : List ℕ} {ts us : List Lexeme} → Lexed a ts → KeepsStop b → Lexed b us → Lexed (a ++ b) (ts ++ us)
lexed_then {a} {b} {ts} {us} p stop q = record {
  lexes = λ r s. ap (scan 0) (append_assoc a b r) ∙ (p.lexes (b ++ r) (stop r s) ∙ (ap (λ l. ts ++ l) (q.lexes r s) ∙ sym (append_assoc ts us (scan 0 r))));
  right = all_together RightLexeme ts us p.right q.right;
  within = all_together WithinToken ts us p.within q.within;
}

pub lexed_after : {a b : List ℕ} {ts us : List Lexeme} → Fixed a ts → Lexed b us → Lexed (a ++ b) (ts ++ us)
lexed_after {a} {b} {ts} {us} p q = record {
  lexes = λ r s. ap (scan 0) (append_assoc a b r) ∙ (p.lexes (b ++ r) ∙ (ap (λ l. ts ++ l) (q.lexes r s) ∙ sym (append_assoc ts us (scan 0 r))));
  right = all_together RightLexeme ts us p.right q.right;
  within = all_together WithinToken ts us p.within q.within;
}

-- a blank on either side is no token
pub lexed_behind_blank : {a : List ℕ} {ts : List Lexeme} → Lexed a ts → Lexed (codes " " ++ a) ts
lexed_behind_blank p = record { lexes = λ r s. p.lexes r s; right = p.right; within = p.within }

pub lexed_before_blank : {a : List ℕ} {ts : List Lexeme} → Lexed a ts → Lexed (a ++ codes " ") ts
lexed_before_blank {a} p = record { lexes = λ r s. ap (scan 0) (append_assoc a (codes " ") r) ∙ p.lexes (codes " " ++ r) (refl, refl); right = p.right; within = p.within }

pub lexed_end : {a : List ℕ} {ts : List Lexeme} → Lexed a ts → Lexed (a ++ []) ts
lexed_end {a} {ts} p = subst (λ (text : List ℕ). Lexed text ts) (sym (append-nil a)) p

pub stops_first : (a b : List ℕ) → Stops a → Stops (a ++ b)
stops_first a b stop r = subst Stop (sym (append_assoc a b r)) (stop (b ++ r))

pub keeps_stop-append : (a b : List ℕ) → KeepsStop a → KeepsStop b → KeepsStop (a ++ b)
keeps_stop-append a b h i r s = subst Stop (sym (append_assoc a b r)) (h (b ++ r) (i r s))

pub keeps_stop-surrounded : (before separator after : List ℕ) (texts : List (List ℕ)) → Stops before → KeepsStop (surrounded before separator after texts)
keeps_stop-surrounded before separator after [] stop r s = s
keeps_stop-surrounded before separator after (text ∷ texts) stop r s = stops_first before _ stop r

-- each word is read back from its bytes, and the names are within the limit
pub record Readable (ts : List Lexeme) : Type 0 where
  pub sound : SoundLexemes ts
  pub within : WithinTokens ts

-- so are the parts of such tokens
pub readable_parts : (a b ts : List Lexeme) → ts ≡ a ++ b → Readable ts → Readable a × Readable b
readable_parts a b ts e r =
    let s = all_parts SoundLexeme a b (subst SoundLexemes e r.sound) in
    let w = all_parts WithinToken a b (subst WithinTokens e r.within) in
    (record { sound = s.0; within = w.0 }, record { sound = s.1; within = w.1 })

-- what was printed: its tokens spell a value that means y, and neither its names nor its trees pass a limit
pub record Printed {A B : Type 0} (G : List Lexeme → A → Type 0) (trees : A → List Writing) (meant : A → B) (y : B) (text : List ℕ) : Type 0 where
  pub value : A
  pub spelled : List Lexeme
  pub lexed : Lexed text spelled
  pub spells : G spelled value
  pub limits : excess_of (trees value) ≡ no_excess
  pub means : meant value ≡ y

-- whatever is spelled by sound words and within the limits is printed so
pub record Reprints {A B : Type 0} (G : List Lexeme → A → Type 0) (trees : A → List Writing) (meant : A → B) (text : B → List ℕ) : Type 0 where
  pub reprint : (ts : List Lexeme) (x : A) → Readable ts → G ts x → excess_of (trees x) ≡ no_excess → Printed G trees meant (meant x) (text (meant x))

module _ {A B : Type 0} (G : List Lexeme → A → Type 0) (trees : A → List Writing) (meant : A → B) (text : B → List ℕ) where
  reads_printed : (x : A) → Printed G trees meant (meant x) (text (meant x)) → ReadsText G trees meant (text (meant x)) (Ok (meant x))
  reads_printed x p =
      let line = text (meant x) in
      let tokens : p.spelled ≡ items_of line = sym (items_scan line ∙ (ap (scan 0) (sym (append-nil line)) ∙ (p.lexed.lexes [] tt ∙ append-nil p.spelled))) in (
        p.value,
        subst (λ (ts : List Lexeme). G ts p.value) tokens p.spells,
        line_short line (subst RightLexemes tokens p.lexed.right) (subst WithinTokens tokens p.lexed.within),
        p.limits,
        sym p.means,
      )

  -- what some text reads as is what its printed text reads as
  pub reads_back : Reprints G trees meant text → (y : B) → IsOfLanguage G trees meant y → ReadsText G trees meant (text y) (Ok y)
  reads_back again y (line, (x, g, short, none, is)) =
      let readable : Readable (items_of line) = record { sound = line_sound line; within = line_kept line short } in
      subst (λ (z : B). ReadsText G trees meant (text z) (Ok z)) (sym is) (reads_printed x (again.reprint (items_of line) x readable g none))
