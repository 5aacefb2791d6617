-- What is made of parts that read back reads back: items with marks between them, a part behind a word or between marks, and one that may be left out.
use Rattle.std.proofs.Common.{◌≡◌, ℕ, List, [], ◌∷◌, ◌++◌, Option, Some, None, map, refl, ap, sym, ◌∙◌, subst}
use Rattle.std.specs.List.{flat_map}
use Rattle.std.specs.Option.{option_map, option_map_or}
use Rattle.mu_grammar.specs.declared.symbol.Word.TheVariants.{Plain}
use Rattle.mu_grammar.specs.declared.symbol.Mark.{Mark}
use Rattle.mu_grammar.specs.Lexemes.{Lexeme, word, mark}
use Rattle.mu_grammar.specs.Parts.{More, Separated}
use Rattle.mu_grammar.specs.Groups.{Any, Behind, Enclosed, Optional}
use Rattle.mu_grammar.specs.Writings.{Writing}
use Rattle.mu_grammar.specs.Excesses.{excess_of, no_excess, in_each}
use Rattle.mu_grammar.specs.Limits.{no_trees}
use Rattle.mu_grammar.proofs.Together.{none_together, none_of_both}
use Rattle.mu_print.specs.Texts.{behind, between}
use Rattle.mu_print.proofs.Again.{Stops, KeepsStop, Lexed, Fixed, lexed_nothing, lexed_then, lexed_after, lexed_fixed, stops_first, Readable, readable_parts, Printed, Reprints}

module _ {A B : Type 0} {G : List Lexeme → A → Type 0} {trees : A → List Writing} {meant : A → B} {text : B → List ℕ} (again : Reprints G trees meant text) {sign : Mark} {separator : List ℕ}
    (fixed : Fixed separator (mark sign ∷ [])) (stops : Stops separator) where
  -- the items behind the first
  abbrev rest_text : List B → List ℕ
  rest_text ys = flat_map (behind separator) (map text ys)

  rest_stops : (ys : List B) → KeepsStop (rest_text ys)
  rest_stops [] r s = s
  rest_stops (y ∷ ys) r s = stops_first (separator ++ text y) (rest_text ys) (stops_first separator (text y) stops) r

  printed_more : (ts : List Lexeme) (xs : List A) → Readable ts → More sign G ts xs → excess_of (in_each trees xs) ≡ no_excess → Printed (More sign G) (in_each trees) (map meant) (map meant xs) (rest_text (map meant xs))
  printed_more ts [] readable g none = record { value = []; spelled = []; lexed = lexed_nothing; spells = refl; limits = refl; means = refl }
  printed_more ts (x ∷ xs) readable g none =
      let parts = readable_parts g.0 g.1 (g.0 ++ g.1) refl (readable_parts (mark sign ∷ []) (g.0 ++ g.1) ts g.2 readable).1 in
      let n = none_together (trees x) (in_each trees xs) none in
      let p = again.reprint g.0 x parts.0 g.3 n.0 in
      let q = printed_more g.1 xs parts.1 g.4 n.1 in
      record {
        value = p.value ∷ q.value;
        spelled = mark sign ∷ (p.spelled ++ q.spelled);
        lexed = lexed_then (lexed_after fixed p.lexed) (rest_stops (map meant xs)) q.lexed;
        spells = (p.spelled, q.spelled, refl, p.spells, q.spells);
        limits = none_of_both (trees p.value) (in_each trees q.value) p.limits q.limits;
        means = ap (λ z. z ∷ map meant q.value) p.means ∙ ap (λ zs. meant x ∷ zs) q.means;
      }

  printed_separated : (ts : List Lexeme) (xs : List A) → Readable ts → Separated sign G ts xs → excess_of (in_each trees xs) ≡ no_excess
      → Printed (Separated sign G) (in_each trees) (map meant) (map meant xs) (between separator (map text (map meant xs)))
  unfolding between
  printed_separated ts [] readable g none = absurd g
  printed_separated ts (x ∷ xs) readable g none =
      let parts = readable_parts g.0 g.1 ts g.2 readable in
      let n = none_together (trees x) (in_each trees xs) none in
      let p = again.reprint g.0 x parts.0 g.3 n.0 in
      let q = printed_more g.1 xs parts.1 g.4 n.1 in
      record {
        value = p.value ∷ q.value;
        spelled = p.spelled ++ q.spelled;
        lexed = lexed_then p.lexed (rest_stops (map meant xs)) q.lexed;
        spells = (p.spelled, q.spelled, refl, p.spells, q.spells);
        limits = none_of_both (trees p.value) (in_each trees q.value) p.limits q.limits;
        means = ap (λ z. z ∷ map meant q.value) p.means ∙ ap (λ zs. meant x ∷ zs) q.means;
      }

  -- items with the mark between them
  pub reprints_separated : Reprints (Separated sign G) (in_each trees) (map meant) (λ ys. between separator (map text ys))
  reprints_separated = record { reprint = printed_separated }

-- a part behind a word
pub reprints_behind : {A B : Type 0} {G : List Lexeme → A → Type 0} {trees : A → List Writing} {meant : A → B} {text : B → List ℕ} {led_by before : List ℕ}
    → Fixed before (word Plain led_by ∷ []) → Reprints G trees meant text → Reprints (Behind led_by G) trees meant (λ y. before ++ text y)
reprints_behind {led_by} fixed again = record {
  reprint = λ ts x readable g none.
      let p = again.reprint g.1 x (readable_parts g.0 g.1 ts g.2 readable).1 g.4 none in
      record {
        value = p.value;
        spelled = word Plain led_by ∷ p.spelled;
        lexed = lexed_after fixed p.lexed;
        spells = (word Plain led_by ∷ [], p.spelled, refl, (word Plain led_by, refl, refl), p.spells);
        limits = p.limits;
        means = p.means;
      };
}

-- a part between two marks
pub reprints_enclosed : {A B : Type 0} {G : List Lexeme → A → Type 0} {trees : A → List Writing} {meant : A → B} {text : B → List ℕ} {left right : Mark} {before after : List ℕ}
    → Fixed before (mark left ∷ []) → Fixed after (mark right ∷ []) → Stops after → Reprints G trees meant text → Reprints (Enclosed left right G) trees meant (λ y. before ++ (text y ++ after))
reprints_enclosed {left} {right} opens closes stops again = record {
  reprint = λ ts x readable g none.
      let inner = (readable_parts (mark left ∷ []) (g.0 ++ (mark right ∷ [])) ts g.1 readable).1 in
      let p = again.reprint g.0 x (readable_parts g.0 (mark right ∷ []) (g.0 ++ (mark right ∷ [])) refl inner).0 g.2 none in
      record {
        value = p.value;
        spelled = mark left ∷ (p.spelled ++ (mark right ∷ []));
        lexed = lexed_after opens (lexed_then p.lexed (λ r s. stops r) (lexed_fixed closes));
        spells = (p.spelled, refl, p.spells);
        limits = p.limits;
        means = p.means;
      };
}

-- no spelling has no items
abbrev pub HasItems : {A : Type 0} → (List Lexeme → List A → Type 0) → Type 0
HasItems G = (ts : List Lexeme) → G ts [] → ⊥

any_of : {A : Type 0} (G : List Lexeme → List A → Type 0) → HasItems G → (ts : List Lexeme) (xs : List A) → G ts xs → Any G ts xs
any_of G some ts [] g = absurd (some ts g)
any_of G some ts (x ∷ xs) g = g

module _ {A B : Type 0} {G : List Lexeme → List A → Type 0} {trees : List A → List Writing} {meant : List A → B} {text : B → List ℕ} (again : Reprints G trees meant text) (some : HasItems G) (whole : B → List ℕ)
    (nothing : whole (meant []) ≡ []) (same : (x : A) (xs : List A) (ts : List Lexeme) → Lexed (text (meant (x ∷ xs))) ts → Lexed (whole (meant (x ∷ xs))) ts) where
  printed_any : (ts : List Lexeme) (xs : List A) → Readable ts → Any G ts xs → excess_of (trees xs) ≡ no_excess → Printed (Any G) trees meant (meant xs) (whole (meant xs))
  printed_any ts [] readable g none =
      record { value = []; spelled = []; lexed = subst (λ (l : List ℕ). Lexed l []) (sym nothing) lexed_nothing; spells = refl; limits = none; means = refl }
  printed_any ts (x ∷ xs) readable g none =
      let p = again.reprint ts (x ∷ xs) readable g none in
      record { value = p.value; spelled = p.spelled; lexed = same x xs p.spelled p.lexed; spells = any_of G some p.spelled p.value p.spells; limits = p.limits; means = p.means }

  -- items where there are any
  pub reprints_any : Reprints (Any G) trees meant whole
  reprints_any = record { reprint = printed_any }

module _ {A B : Type 0} {G : List Lexeme → A → Type 0} {trees : A → List Writing} {meant : A → B} {text : B → List ℕ} (again : Reprints G trees meant text) where
  printed_optional : (ts : List Lexeme) (x : Option A) → Readable ts → Optional G ts x → excess_of (option_map_or trees x []) ≡ no_excess
      → Printed (Optional G) (λ v. option_map_or trees v []) (option_map meant) (option_map meant x) (option_map_or text (option_map meant x) [])
  printed_optional ts None readable g none = record { value = None; spelled = []; lexed = lexed_nothing; spells = refl; limits = refl; means = refl }
  printed_optional ts (Some x) readable g none =
      let p = again.reprint ts x readable g none in
      record { value = Some p.value; spelled = p.spelled; lexed = p.lexed; spells = p.spells; limits = p.limits; means = ap (λ v. Some v) p.means }

  -- a part, or nothing
  pub reprints_optional : Reprints (Optional G) (λ v. option_map_or trees v []) (option_map meant) (λ y. option_map_or text y [])
  reprints_optional = record { reprint = printed_optional }

-- the value is what is meant
abbrev pub itself : {A : Type 0} → A → A
itself x = x

-- a part without trees whose value is what is meant
pub reprints_plain : {A : Type 0} {G : List Lexeme → A → Type 0} {trees : A → List Writing} {meant : A → A} {text : A → List ℕ}
    → ((x : A) → excess_of (trees x) ≡ no_excess) → ((x : A) → meant x ≡ x) → Reprints G trees meant text → Reprints G no_trees itself text
reprints_plain {text} none same again = record {
  reprint = λ ts x readable g _.
      let p = again.reprint ts x readable g (none x) in
      record { value = p.value; spelled = p.spelled; lexed = subst (λ y. Lexed (text y) p.spelled) (same x) p.lexed; spells = p.spells; limits = refl; means = sym (same p.value) ∙ (p.means ∙ same x) };
}

-- the same text, given in another way
pub reprints_text : {A B : Type 0} {G : List Lexeme → A → Type 0} {trees : A → List Writing} {meant : A → B} {text other : B → List ℕ} → ((y : B) → text y ≡ other y) → Reprints G trees meant text → Reprints G trees meant other
reprints_text same again = record {
  reprint = λ ts x readable g none.
      let p = again.reprint ts x readable g none in
      record { value = p.value; spelled = p.spelled; lexed = subst (λ (l : List ℕ). Lexed l p.spelled) (same _) p.lexed; spells = p.spells; limits = p.limits; means = p.means };
}
