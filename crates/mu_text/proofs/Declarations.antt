-- Declarations of constants are read exactly.
use Rattle.std.proofs.Common.{◌≡◌, ℕ, List, [], ◌∷◌, ◌++◌, inl, inr, refl, ap, sym, ◌∙◌, subst}
use Rattle.mu_tree.specs.declared.claim.Kind.{Kind}
use Rattle.mu_tree.specs.declared.claim.Shape.{Shape}
use Rattle.mu_tree.specs.declared.claim.Shape.TheVariants as shape
use Rattle.mu_grammar.specs.declared.declared.DeclaredConstant.{DeclaredConstant}
use Rattle.mu_grammar.specs.declared.symbol.Mark.TheVariants.{OpenBrace, CloseBrace, Arrow}
use Rattle.mu_grammar.specs.Lexemes.{Lexeme, mark}
use Rattle.mu_grammar.specs.Marks.{is_mark}
use Rattle.mu_grammar.specs.Parts.{Then, chain, Made, mapped, Or}
use Rattle.mu_grammar.specs.SimpleParts.{PlainName, GivenMark, OneKind, read_plain_name, read_mark, read_kind}
use Rattle.mu_grammar.specs.Groups.{Enclosed, enclosed, ArgumentKinds, read_argument_kinds}
use Rattle.mu_grammar.specs.Declarations.{IsShape, IsDeclaration, declaring, read_shape, read_declaration}
use Rattle.mu_text.proofs.Choice.{Fails, Exact-either}
use Rattle.mu_text.proofs.Exact.{Exact, Exact-same, Exact-chain, Exact-mapped, Exact-before}
use Rattle.mu_text.proofs.Groups.{NoOpen, Exact-enclosed, enclosed_passes, Exact-argument_kinds}
use Rattle.mu_text.proofs.Simple.{Any, Exact-plain_name, Exact-mark, Exact-kind}

-- no way of use begins here
abbrev pub NoShape : List Lexeme → Type 0
NoShape rest = NoOpen rest × Fails (is_mark OpenBrace) rest

abbrev Binding : List Lexeme → Shape → Type 0
Binding = Made shape.Binder (Enclosed OpenBrace CloseBrace OneKind)

abbrev Applying : List Lexeme → Shape → Type 0
Applying = Made shape.Plain ArgumentKinds

exact_body : Exact (enclosed OpenBrace CloseBrace read_kind) (Enclosed OpenBrace CloseBrace OneKind) Any
exact_body = Exact-enclosed OpenBrace CloseBrace read_kind OneKind Any Exact-kind (λ rest. tt)

to_shape : (ts : List Lexeme) (s : Shape) → Or Binding Applying ts s → IsShape ts s
to_shape ts s (inl g) = subst (IsShape ts) (sym g.2) g.1
to_shape ts s (inr g) = subst (IsShape ts) (sym g.2) g.1

from_shape : (ts : List Lexeme) (s : Shape) → IsShape ts s → Or Binding Applying ts s
from_shape ts (shape.Plain kinds) g = inr (kinds, g, refl)
from_shape ts (shape.Binder kind) g = inl (kind, g, refl)

arguments_fail : (ts : List Lexeme) (kinds : List Kind) (rest : List Lexeme) → ArgumentKinds ts kinds → NoShape rest → Fails (is_mark OpenBrace) (ts ++ rest)
arguments_fail ts [] rest g s = subst (λ (l : List Lexeme). Fails (is_mark OpenBrace) (l ++ rest)) (sym g) s.1
arguments_fail ts (kind ∷ kinds) rest g s = subst (λ (l : List Lexeme). Fails (is_mark OpenBrace) (l ++ rest)) (sym g.1) refl

pub Exact-shape : Exact read_shape IsShape NoShape
unfolding read_shape
Exact-shape =
    Exact-same read_shape (Or Binding Applying) IsShape NoShape to_shape from_shape
    (Exact-either (is_mark OpenBrace) (mapped shape.Binder (enclosed OpenBrace CloseBrace read_kind)) (mapped shape.Plain read_argument_kinds) Binding Applying NoShape
    (Exact-before (mapped shape.Binder (enclosed OpenBrace CloseBrace read_kind)) Binding Any NoShape (λ rest s. tt) (Exact-mapped shape.Binder (enclosed OpenBrace CloseBrace read_kind) (Enclosed OpenBrace CloseBrace OneKind) Any exact_body))
    (Exact-before (mapped shape.Plain read_argument_kinds) Applying NoOpen NoShape (λ rest s. s.0) (Exact-mapped shape.Plain read_argument_kinds ArgumentKinds NoOpen Exact-argument_kinds))
    (λ ts s g. enclosed_passes OpenBrace CloseBrace read_kind OneKind Any Exact-kind (λ rest. tt) ts g.0 g.1)
    (λ ts s rest g r. arguments_fail ts g.0 rest g.1 r))

abbrev Result : List ℕ → Shape → List Lexeme → DeclaredConstant → Type 0
Result name s = Then (GivenMark Arrow) (λ _. Made (declaring name s) OneKind)

abbrev Behind : List ℕ → List Lexeme → DeclaredConstant → Type 0
Behind name = Then IsShape (Result name)

exact_result : (name : List ℕ) (s : Shape) → Exact (chain (read_mark Arrow) (λ _. mapped (declaring name s) read_kind)) (Result name s) Any
exact_result name s =
    Exact-chain (read_mark Arrow) (λ _. mapped (declaring name s) read_kind) (GivenMark Arrow) (λ _. Made (declaring name s) OneKind) Any Any (Exact-mark Arrow)
    (λ u. Exact-mapped (declaring name s) read_kind OneKind Any Exact-kind) (λ u b y rest g r. tt)

result_is : (name : List ℕ) (s : Shape) (ts : List Lexeme) (d : DeclaredConstant) → Result name s ts d → (c : List Lexeme) × (k : Kind) × (ts ≡ mark Arrow ∷ c) × OneKind c k × (d ≡ declaring name s k)
result_is name s ts d g = (g.2, g.5.0, g.3 ∙ ap (λ l. l ++ g.2) g.4, g.5.1, g.5.2)

link_result : (name : List ℕ) (s : Shape) (ts : List Lexeme) (d : DeclaredConstant) (rest : List Lexeme) → Result name s ts d → Any rest → NoShape (ts ++ rest)
link_result name s ts d rest g r = subst (λ (l : List Lexeme). NoShape (l ++ rest)) (sym (result_is name s ts d g).2) (refl, refl)

exact_behind : (name : List ℕ) → Exact (chain read_shape (λ s. chain (read_mark Arrow) (λ _. mapped (declaring name s) read_kind))) (Behind name) Any
exact_behind name =
    Exact-chain read_shape (λ s. chain (read_mark Arrow) (λ _. mapped (declaring name s) read_kind)) IsShape (Result name) NoShape Any Exact-shape (exact_result name) (link_result name)

to_declaration : (ts : List Lexeme) (d : DeclaredConstant) → Then PlainName Behind ts d → IsDeclaration ts d
to_declaration ts d g =
    let s = g.5 in
    let r = result_is g.0 s.0 s.2 d s.5 in
    subst (IsDeclaration ts) (sym r.4) (g.1, s.1, r.0, g.3 ∙ ap (λ l. g.1 ++ l) (s.3 ∙ ap (λ l. s.1 ++ l) r.2), g.4, s.4, r.3)

from_declaration : (ts : List Lexeme) (d : DeclaredConstant) → IsDeclaration ts d → Then PlainName Behind ts d
from_declaration ts d g = (d.name, g.0, g.1 ++ (mark Arrow ∷ g.2), g.3, g.4, (d.shape, g.1, mark Arrow ∷ g.2, refl, g.5, (tt, mark Arrow ∷ [], g.2, refl, refl, (d.result, g.6, refl))))

pub Exact-declaration : Exact read_declaration IsDeclaration Any
unfolding read_declaration
Exact-declaration =
    Exact-same read_declaration (Then PlainName Behind) IsDeclaration Any to_declaration from_declaration
    (Exact-chain read_plain_name (λ name. chain read_shape (λ s. chain (read_mark Arrow) (λ _. mapped (declaring name s) read_kind))) PlainName Behind Any Any Exact-plain_name exact_behind (λ name b d rest g r. tt))
