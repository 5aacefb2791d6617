-- Declarations of constants: how they are spelled, and what reads them.
use Rattle.std.specs.Prelude.{◌≡◌, ℕ, List, ◌∷◌, ◌++◌}
use Rattle.mu_tree.specs.declared.claim.Kind.{Kind}
use Rattle.mu_tree.specs.declared.claim.Shape.{Shape}
use Rattle.mu_tree.specs.declared.claim.Shape.TheVariants as shape
use Rattle.mu_grammar.specs.declared.declared.DeclaredConstant.{DeclaredConstant}
use Rattle.mu_grammar.specs.declared.symbol.Mark.TheVariants.{OpenBrace, CloseBrace, Arrow}
use Rattle.mu_grammar.specs.Lexemes.{Lexeme, mark}
use Rattle.mu_grammar.specs.Marks.{is_mark}
use Rattle.mu_grammar.specs.Parts.{Out, chain, either, mapped}
use Rattle.mu_grammar.specs.SimpleParts.{PlainName, OneKind, StandsName, read_plain_name, read_mark, read_kind}
use Rattle.mu_grammar.specs.Groups.{Enclosed, enclosed, ArgumentKinds, read_argument_kinds}

-- how a constant is used: the kinds of its arguments in parentheses, where there are any; or the kind of a binder's body in braces
abbrev pub IsShape : List Lexeme → Shape → Type 0
IsShape ts (shape.Plain kinds) = ArgumentKinds ts kinds
IsShape ts (shape.Binder kind) = Enclosed OpenBrace CloseBrace OneKind ts kind

-- a name of one segment, how the constant is used, `->` and the kind of what it makes
abbrev pub IsDeclaration : List Lexeme → DeclaredConstant → Type 0
IsDeclaration ts d = (a b c : List Lexeme) × (ts ≡ a ++ (b ++ (mark Arrow ∷ c))) × PlainName a d.name × IsShape b d.shape × OneKind c d.result

-- what is kept of a declaration: another name only where the name is past its limit
abbrev pub StandsDeclaration : DeclaredConstant → DeclaredConstant → Type 0
StandsDeclaration d kept = StandsName d.name kept.name × (kept.shape ≡ d.shape) × (kept.result ≡ d.result)

-- a declaration of its parts
abbrev pub declaring : List ℕ → Shape → Kind → DeclaredConstant
declaring name shape result = record { name = name; shape = shape; result = result }

-- reads how a constant is used
unfoldable pub read_shape : List Lexeme → Out Shape
read_shape ts = either (is_mark OpenBrace) (mapped shape.Binder (enclosed OpenBrace CloseBrace read_kind)) (mapped shape.Plain read_argument_kinds) ts

-- reads a declaration
unfoldable pub read_declaration : List Lexeme → Out DeclaredConstant
read_declaration ts = chain read_plain_name (λ name. chain read_shape (λ shape. chain (read_mark Arrow) (λ _. mapped (declaring name shape) read_kind))) ts
