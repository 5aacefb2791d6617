-- What is printed of a declaration, and of the formal parameters of a definition, reads back.
use Rattle.std.proofs.Common.{ℕ, List, [], ◌∷◌, ◌++◌, map, refl, ap, ◌∙◌, arith}
use Rattle.std.specs.Prelude.{codes}
use Rattle.mu_tree.specs.declared.claim.Kind.{Kind}
use Rattle.mu_tree.specs.declared.claim.Kind.TheVariants as kind
use Rattle.mu_tree.specs.declared.claim.Shape.{Shape}
use Rattle.mu_tree.specs.declared.claim.Shape.TheVariants as shape
use Rattle.mu_grammar.specs.declared.symbol.Word.TheVariants.{Plain}
use Rattle.mu_grammar.specs.declared.symbol.Mark.TheVariants.{Arrow, OpenBrace, CloseBrace}
use Rattle.mu_grammar.specs.Lexemes.{Lexeme, word, mark}
use Rattle.mu_grammar.specs.SimpleParts.{OneKind, SomeKinds}
use Rattle.mu_grammar.specs.Groups.{Enclosed, Formals, ArgumentKinds}
use Rattle.mu_grammar.specs.Declarations.{IsShape, IsDeclaration, declaring}
use Rattle.mu_grammar.specs.Limits.{no_trees}
use Rattle.mu_print.specs.Texts.{between, surrounded, kind_text, shape_text, declaration_text, formals_text}
use Rattle.mu_print.proofs.Scan.{word_run}
use Rattle.mu_print.proofs.Again.{Lexed, KeepsStop, lexed_then, lexed_after, keeps_stop-append, keeps_stop-surrounded, Readable, readable_parts, Printed, Reprints}
use Rattle.mu_print.proofs.GroupsBack.{itself, reprints_plain, reprints_separated, reprints_enclosed, reprints_any}
use Rattle.mu_print.proofs.Separators.{comma, arrow, open_paren, close_paren, open_brace, close_brace}
use Rattle.mu_print.proofs.NamesBack.{reprints_plain_name, reprints_vars, no_trees_in, map_itself}

pub reprints_formals : Reprints Formals no_trees itself formals_text
reprints_formals = reprints_any (reprints_enclosed open_paren close_paren (λ r. (refl, refl)) reprints_vars) (λ ts g. g.2) formals_text refl (λ x xs ts l. l)

element : Lexed (codes "e") (word Plain (codes "e") ∷ [])
element = record { lexes = λ r s. word_run Plain (codes "e") r (refl, refl, omega arith, refl) s; right = (tt, tt); within = (record { spelled = refl; short = refl }, tt) }

type : Lexed (codes "t") (word Plain (codes "t") ∷ [])
type = record { lexes = λ r s. word_run Plain (codes "t") r (refl, refl, omega arith, refl) s; right = (tt, tt); within = (record { spelled = refl; short = refl }, tt) }

printed_kind : (k : Kind) → Printed OneKind no_trees itself k (kind_text k)
printed_kind kind.E = record { value = kind.E; spelled = word Plain (codes "e") ∷ []; lexed = element; spells = (word Plain (codes "e"), refl, refl); limits = refl; means = refl }
printed_kind kind.T = record { value = kind.T; spelled = word Plain (codes "t") ∷ []; lexed = type; spells = (word Plain (codes "t"), refl, refl); limits = refl; means = refl }

reprints_kind : Reprints OneKind no_trees itself kind_text
reprints_kind = record { reprint = λ ts k readable g none. printed_kind k }

reprints_kinds : Reprints SomeKinds no_trees itself (λ kinds. between (codes ", ") (map kind_text kinds))
reprints_kinds = reprints_plain no_trees_in map_itself (reprints_separated reprints_kind comma (λ r. (refl, refl)))

-- the kinds of arguments, in parentheses
abbrev arguments_text : List Kind → List ℕ
arguments_text kinds = surrounded (codes "(") (codes ", ") (codes ")") (map kind_text kinds)

reprints_arguments : Reprints ArgumentKinds no_trees itself arguments_text
reprints_arguments = reprints_any (reprints_enclosed open_paren close_paren (λ r. (refl, refl)) reprints_kinds) (λ ts g. g.2) arguments_text refl (λ x xs ts l. l)

reprints_body : Reprints (Enclosed OpenBrace CloseBrace OneKind) no_trees itself (λ k. codes "{" ++ (kind_text k ++ codes "}"))
reprints_body = reprints_enclosed open_brace close_brace (λ r. (refl, refl)) reprints_kind

printed_shape : (ts : List Lexeme) (x : Shape) → Readable ts → IsShape ts x → Printed IsShape no_trees itself x (shape_text x)
printed_shape ts (shape.Plain kinds) readable g =
    let p = reprints_arguments.reprint ts kinds readable g refl in
    record { value = shape.Plain p.value; spelled = p.spelled; lexed = p.lexed; spells = p.spells; limits = refl; means = ap shape.Plain p.means }
printed_shape ts (shape.Binder body) readable g =
    let p = reprints_body.reprint ts body readable g refl in
    record { value = shape.Binder p.value; spelled = p.spelled; lexed = p.lexed; spells = p.spells; limits = refl; means = ap shape.Binder p.means }

shape_stops : (x : Shape) → KeepsStop (shape_text x)
shape_stops (shape.Plain kinds) = keeps_stop-surrounded (codes "(") (codes ", ") (codes ")") (map kind_text kinds) (λ r. (refl, refl))
shape_stops (shape.Binder body) = λ r s. (refl, refl)

pub reprints_declaration : Reprints IsDeclaration no_trees itself (λ d. declaration_text d.name d.shape d.result)
unfolding declaration_text
reprints_declaration = record {
  reprint = λ ts x readable g none.
      let parts = readable_parts g.0 (g.1 ++ (mark Arrow ∷ g.2)) ts g.3 readable in
      let used = readable_parts g.1 (mark Arrow ∷ g.2) _ refl parts.1 in
      let p = reprints_plain_name.reprint g.0 x.name parts.0 g.4 refl in
      let q = printed_shape g.1 x.shape used.0 g.5 in
      let k = printed_kind x.result in
      let stop = keeps_stop-append (shape_text x.shape) (codes " -> " ++ kind_text x.result) (shape_stops x.shape) (λ r s. (refl, refl)) in
      record {
        value = record { name = p.value; shape = q.value; result = k.value };
        spelled = p.spelled ++ (q.spelled ++ (mark Arrow ∷ k.spelled));
        lexed = lexed_then p.lexed stop (lexed_then q.lexed (λ r s. (refl, refl)) (lexed_after arrow k.lexed));
        spells = (p.spelled, q.spelled, k.spelled, refl, p.spells, q.spells, k.spells);
        limits = refl;
        means = ap (λ name. declaring name q.value k.value) p.means ∙ (ap (λ used. declaring x.name used k.value) q.means ∙ ap (declaring x.name x.shape) k.means);
      };
}
