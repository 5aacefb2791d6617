-- What stands between the parts of a text lexes alike whatever is behind it.
use Rattle.std.proofs.Common.{ℕ, List, [], ◌∷◌, ◌++◌, ◌≡◌, refl}
use Rattle.std.specs.Prelude.{codes}
use Rattle.mu_tree.specs.Names.{IsName}
use Rattle.mu_grammar.specs.declared.symbol.Word.TheVariants.{Plain}
use Rattle.mu_grammar.specs.declared.symbol.Mark.{Mark}
use Rattle.mu_grammar.specs.declared.symbol.Mark.TheVariants.{Comma, Semicolon, Turnstile, Becomes, Arrow, Open, Close, OpenBracket, CloseBracket, OpenBrace, CloseBrace}
use Rattle.mu_grammar.specs.Tokens.{first_token}
use Rattle.mu_grammar.specs.Lexemes.{word, mark}
use Rattle.mu_print.specs.Sound.{RightLexeme}
use Rattle.mu_print.proofs.Scan.{scan}
use Rattle.mu_print.proofs.Again.{Fixed}

fixed_mark : (text : List ℕ) (sign : Mark) → RightLexeme (mark sign) → ((r : List ℕ) → scan 0 (text ++ r) ≡ mark sign ∷ scan 0 r) → Fixed text (mark sign ∷ [])
fixed_mark text sign right lexes = record { lexes = lexes; right = (right, tt); within = (tt, tt) }

pub fixed_word : (text led_by : List ℕ) → IsName led_by → ((r : List ℕ) → scan 0 (text ++ r) ≡ word Plain led_by ∷ scan 0 r) → Fixed text (word Plain led_by ∷ [])
fixed_word text led_by name lexes = record { lexes = lexes; right = (tt, tt); within = (name, tt) }

pub comma : Fixed (codes ", ") (mark Comma ∷ [])
unfolding first_token
comma = fixed_mark (codes ", ") Comma tt (λ r. refl)

pub semicolon : Fixed (codes "; ") (mark Semicolon ∷ [])
unfolding first_token
semicolon = fixed_mark (codes "; ") Semicolon tt (λ r. refl)

pub turnstile : Fixed (codes " |- ") (mark Turnstile ∷ [])
unfolding first_token
turnstile = fixed_mark (codes " |- ") Turnstile tt (λ r. refl)

pub becomes : Fixed (codes " := ") (mark Becomes ∷ [])
unfolding first_token
becomes = fixed_mark (codes " := ") Becomes tt (λ r. refl)

pub arrow : Fixed (codes " -> ") (mark Arrow ∷ [])
unfolding first_token
arrow = fixed_mark (codes " -> ") Arrow tt (λ r. refl)

pub open_paren : Fixed (codes "(") (mark Open ∷ [])
unfolding first_token
open_paren = fixed_mark (codes "(") Open tt (λ r. refl)

pub close_paren : Fixed (codes ")") (mark Close ∷ [])
unfolding first_token
close_paren = fixed_mark (codes ")") Close tt (λ r. refl)

pub open_bracket : Fixed (codes "[") (mark OpenBracket ∷ [])
unfolding first_token
open_bracket = fixed_mark (codes "[") OpenBracket tt (λ r. refl)

pub close_bracket : Fixed (codes "]") (mark CloseBracket ∷ [])
unfolding first_token
close_bracket = fixed_mark (codes "]") CloseBracket tt (λ r. refl)

pub open_brace : Fixed (codes "{") (mark OpenBrace ∷ [])
unfolding first_token
open_brace = fixed_mark (codes "{") OpenBrace tt (λ r. refl)

pub close_brace : Fixed (codes "}") (mark CloseBrace ∷ [])
unfolding first_token
close_brace = fixed_mark (codes "}") CloseBrace tt (λ r. refl)

pub rule_word : Fixed (codes "rule ") (word Plain (codes "rule") ∷ [])
unfolding first_token
rule_word = fixed_word (codes "rule ") (codes "rule") (record { spelled = refl; short = refl }) (λ r. refl)

pub via_word : Fixed (codes " via ") (word Plain (codes "via") ∷ [])
unfolding first_token
via_word = fixed_word (codes " via ") (codes "via") (record { spelled = refl; short = refl }) (λ r. refl)

pub from_word : Fixed (codes " from ") (word Plain (codes "from") ∷ [])
unfolding first_token
from_word = fixed_word (codes " from ") (codes "from") (record { spelled = refl; short = refl }) (λ r. refl)

pub with_word : Fixed (codes " with ") (word Plain (codes "with") ∷ [])
unfolding first_token
with_word = fixed_word (codes " with ") (codes "with") (record { spelled = refl; short = refl }) (λ r. refl)

pub hyp_word : Fixed (codes "hyp ") (word Plain (codes "hyp") ∷ [])
unfolding first_token
hyp_word = fixed_word (codes "hyp ") (codes "hyp") (record { spelled = refl; short = refl }) (λ r. refl)

pub def_word : Fixed (codes "def ") (word Plain (codes "def") ∷ [])
unfolding first_token
def_word = fixed_word (codes "def ") (codes "def") (record { spelled = refl; short = refl }) (λ r. refl)

pub on_word : Fixed (codes " on ") (word Plain (codes "on") ∷ [])
unfolding first_token
on_word = fixed_word (codes " on ") (codes "on") (record { spelled = refl; short = refl }) (λ r. refl)

pub same_word : Fixed (codes "same ") (word Plain (codes "same") ∷ [])
unfolding first_token
same_word = fixed_word (codes "same ") (codes "same") (record { spelled = refl; short = refl }) (λ r. refl)

pub old_word : Fixed (codes " old ") (word Plain (codes "old") ∷ [])
unfolding first_token
old_word = fixed_word (codes " old ") (codes "old") (record { spelled = refl; short = refl }) (λ r. refl)

pub new_word : Fixed (codes " new ") (word Plain (codes "new") ∷ [])
unfolding first_token
new_word = fixed_word (codes " new ") (codes "new") (record { spelled = refl; short = refl }) (λ r. refl)

pub result_word : Fixed (codes " result ") (word Plain (codes "result") ∷ [])
unfolding first_token
result_word = fixed_word (codes " result ") (codes "result") (record { spelled = refl; short = refl }) (λ r. refl)
