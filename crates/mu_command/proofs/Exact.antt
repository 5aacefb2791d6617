-- Commands are read exactly.
use Rattle.std.proofs.Common.{◌≡◌, Bool, true, false, List, [], ◌∷◌, ◌++◌, refl, ap, sym, ◌∙◌, subst, append-nil}
use Rattle.std.specs.Prelude.{codes, ◌&&◌, ◌||◌}
use Rattle.std.proofs.lemmas.Bool.{and_parts}
use Rattle.mu_grammar.specs.declared.symbol.Mark.{Mark}
use Rattle.mu_grammar.specs.declared.symbol.Mark.TheVariants.{And, Eq}
use Rattle.mu_grammar.specs.Lexemes.{Lexeme, mark}
use Rattle.mu_grammar.specs.Parts.{Nothing, End, given_back, Then, chain}
use Rattle.mu_grammar.specs.Rows.{Values, SpellsRow}
use Rattle.mu_grammar.specs.SimpleParts.{is_word, AnyName, read_name}
use Rattle.mu_grammar.specs.Groups.{Optional}
use Rattle.mu_text.proofs.Exact.{Exact, Exact-same, Exact-chain, Exact-pure}
use Rattle.mu_text.proofs.Simple.{Any as Anything, Exact-mark, Exact-name, Exact-plain_name, Exact-word}
use Rattle.mu_text.proofs.Choice.{Fails}
use Rattle.mu_text.proofs.Complete.{Follows}
use Rattle.mu_text.proofs.Trees.{Exact-tree}
use Rattle.mu_text.proofs.Claims.{NoClaim, Exact-claim}
use Rattle.mu_text.proofs.Reasons.{NoReason, reason_ends, Exact-reason}
use Rattle.mu_text.proofs.Blocks.{NoBlock, block_ends, Exact-block}
use Rattle.mu_text.proofs.Groups.{NoOpen, Exact-formals, Exact-perhaps}
use Rattle.mu_text.proofs.Declarations.{Exact-declaration}
use Rattle.mu_text.proofs.Rows as rows
use Rattle.mu_command.specs.declared.forms.Form.{Form}
use Rattle.mu_command.specs.declared.forms.Form.TheVariants.{Theory}
use Rattle.mu_command.specs.Words.{read_words}
use Rattle.mu_command.specs.Forms.{named, is_front, FormWords, read_form}
use Rattle.mu_command.proofs.Words.{SomeWords, Exact-words}
use Rattle.mu_command.proofs.FormTable.{begins_at_form, has_form, form_ends, to_form_words, from_form_words}
use Rattle.mu_command.specs.declared.parts.Part.{Part}
use Rattle.mu_command.specs.declared.parts.Part.TheVariants as part
use Rattle.mu_command.specs.Parts.{Value, IsBefore, SpellsPart, keyword_text, read_before, read_part}
use Rattle.mu_command.specs.Rows.{row}
use Rattle.mu_command.specs.Grammar.{Spelled, Written, Spells, read_parts, read_command}

pub Exact-form : Exact read_form FormWords Anything
unfolding read_form
Exact-form =
    Exact-same (read_words named is_front []) (SomeWords named []) FormWords Anything to_form_words from_form_words
    (Exact-words named is_front begins_at_form has_form form_ends [] (codes "theory", Theory, refl))

-- whether the token is the word `before`
abbrev is_before_word : Lexeme → Bool
is_before_word = is_word (codes "before")

abbrev pub NoBefore : List Lexeme → Type 0
NoBefore rest = Anything rest × Fails is_before_word rest

exact_before : Exact read_before (Optional IsBefore) NoBefore
unfolding read_before
exact_before = Exact-perhaps (codes "before") read_name AnyName Anything Exact-name

-- what may follow a part
abbrev pub Stops : Part → List Lexeme → Type 0
Stops part.Formals ts = NoOpen ts
Stops part.Before ts = NoBefore ts
Stops part.Tree ts = Follows ts
Stops part.Claim ts = NoClaim ts
Stops part.Reason ts = NoReason ts
Stops part.Block ts = NoBlock ts
Stops _ ts = Anything ts

exact_part : (each : Part) → Exact (read_part each) (SpellsPart each) (Stops each)
exact_part part.Name = Exact-name
exact_part part.Plain = Exact-plain_name
exact_part (part.Word keyword) = Exact-word (keyword_text keyword)
exact_part (part.Sign m) = Exact-mark m
exact_part part.Declaration = Exact-declaration
exact_part part.Formals = Exact-formals
exact_part part.Before = exact_before
exact_part part.Tree = Exact-tree
exact_part part.Claim = Exact-claim
exact_part part.Reason = Exact-reason
exact_part part.Block = Exact-block

-- a mark comes first
abbrev begins_marked : List Part → Bool
begins_marked (part.Sign m ∷ parts) = true
begins_marked _ = false

-- an equals sign comes first
abbrev begins_equated : List Part → Bool
begins_equated (part.Sign Eq ∷ parts) = true
begins_equated _ = false

-- no part is left
abbrev is_last : List Part → Bool
is_last [] = true
is_last (each ∷ parts) = false

-- the part may stand before these
abbrev goes_before : Part → List Part → Bool
goes_before part.Formals parts = begins_equated parts
goes_before part.Before parts = begins_marked parts || is_last parts
goes_before part.Tree parts = is_last parts
goes_before part.Claim parts = is_last parts
goes_before part.Reason parts = is_last parts
goes_before part.Block parts = is_last parts
goes_before _ parts = true

-- each part may stand before those behind it
abbrev pub are_in_order : List Part → Bool
are_in_order [] = true
are_in_order (each ∷ parts) = goes_before each parts && are_in_order parts

Follow : Part → List Part → Type 0
Follow each parts = (ts : List Lexeme) (v : Values Value parts) → SpellsRow Value SpellsPart parts ts v → Stops each ts

-- nothing follows
none_follows : (each : Part) (parts : List Part) → Stops each [] → is_last parts ≡ true → Follow each parts
unfolding Follow
none_follows each [] stops last = λ ts v g. subst (Stops each) (sym g) stops
none_follows each (next ∷ parts) stops last = cc

unmarked : (m : Mark) → is_before_word (mark m) ≡ false
unmarked And = refl
unmarked _ = refl

mark_follows : (parts : List Part) → begins_marked parts ≡ true → Follow part.Before parts
unfolding Follow
mark_follows [] marked = cc
mark_follows (part.Sign m ∷ parts) marked = λ ts v g. subst NoBefore (sym (g.2 ∙ ap (λ l. l ++ g.1) g.3)) (tt, unmarked m)
mark_follows (_ ∷ parts) marked = cc

equated_follows : (parts : List Part) → begins_equated parts ≡ true → Follow part.Formals parts
unfolding Follow
equated_follows [] equated = cc
equated_follows (part.Sign Eq ∷ parts) equated = λ ts v g. subst NoOpen (sym (g.2 ∙ ap (λ l. l ++ g.1) g.3)) refl
equated_follows (part.Sign _ ∷ parts) equated = cc
equated_follows (_ ∷ parts) equated = cc

before_follows : (parts : List Part) → (begins_marked parts || is_last parts) ≡ true → Follow part.Before parts
before_follows [] goes = none_follows part.Before [] (tt, tt) refl
before_follows (each ∷ parts) goes = mark_follows (each ∷ parts) (or_none _ goes)
  where
    or_none : (b : Bool) → (b || false) ≡ true → b ≡ true
    or_none true e = refl
    or_none false e = e

follow : (each : Part) (parts : List Part) → goes_before each parts ≡ true → Follow each parts
unfolding Follow
follow part.Formals parts goes = equated_follows parts goes
follow part.Before parts goes = before_follows parts goes
follow part.Tree parts goes = none_follows part.Tree parts tt goes
follow part.Claim parts goes = none_follows part.Claim parts (tt, tt) goes
follow part.Reason parts goes = none_follows part.Reason parts reason_ends goes
follow part.Block parts goes = none_follows part.Block parts block_ends goes
follow _ parts goes = λ ts v g. tt

linked : (parts : List Part) → are_in_order parts ≡ true → rows.Linked Value read_part SpellsPart Stops parts
unfolding Follow
linked [] ordered = tt
linked (each ∷ parts) ordered = let both = and_parts (goes_before each parts) (are_in_order parts) ordered in (follow each parts both.0, linked parts both.1)

-- so are the parts of each form
forms_in_order : (form : Form) → are_in_order (row form) ≡ true
forms_in_order Theory = refl
forms_in_order _ = refl

abbrev pub SpellsParts : (form : Form) → List Lexeme → Spelled form → Type 0
SpellsParts form ts v = SpellsRow Value SpellsPart (row form) ts v

exact_parts : (form : Form) → Exact (read_parts form) (SpellsParts form) End
unfolding read_parts
exact_parts form = rows.Exact-row Value read_part SpellsPart Stops exact_part (row form) (linked (row form) (forms_in_order form))

abbrev Behind : (form : Form) → List Lexeme → Written → Type 0
Behind form = Then (SpellsParts form) (λ v. Nothing (form, v))

exact_behind : (form : Form) → Exact (chain (read_parts form) (λ v. given_back (form, v))) (Behind form) End
exact_behind form =
    Exact-chain (read_parts form) (λ v. given_back (form, v)) (SpellsParts form) (λ v. Nothing (form, v)) End End (exact_parts form) (λ v. Exact-pure (form, v) End) (λ v b w rest g e. both_empty b rest g.0 e)
  where
    both_empty : (a b : List Lexeme) → a ≡ [] → b ≡ [] → a ++ b ≡ []
    both_empty a b e i = rw (e, i) refl

to_written : (ts : List Lexeme) (w : Written) → Then FormWords Behind ts w → Spells ts w
to_written ts w g =
    let rest = g.5 in
    let same : g.2 ≡ rest.1 = rest.3 ∙ (ap (λ l. rest.1 ++ l) rest.5.0 ∙ append-nil rest.1) in
    subst (Spells ts) (sym rest.5.1) (g.1, g.2, g.3, g.4, subst (λ (l : List Lexeme). SpellsParts g.0 l rest.0) (sym same) rest.4)

from_written : (ts : List Lexeme) (w : Written) → Spells ts w → Then FormWords Behind ts w
from_written ts w g = (w.0, g.0, g.1, g.2, g.3, (w.1, g.1, [], sym (append-nil g.1), g.4, (refl, refl)))

pub Exact-command : Exact read_command Spells End
unfolding read_command
Exact-command =
    Exact-same read_command (Then FormWords Behind) Spells End to_written from_written
    (Exact-chain read_form (λ form. chain (read_parts form) (λ v. given_back (form, v))) FormWords Behind Anything End Exact-form exact_behind (λ form b w rest g e. tt))
