-- The canonical text of typed variables, and of what a sequent or a box begins with, reads back.
use Rattle.std.proofs.Common.{ℕ, List, [], ◌∷◌, ◌++◌, map, refl, ap, ◌∙◌, append_assoc}
use Rattle.std.specs.Prelude.{codes}
use Rattle.mu_tree.specs.declared.claim.TypedVar.{TypedVar}
use Rattle.mu_tree.specs.declared.trees.Tree.{Tree}
use Rattle.mu_grammar.specs.declared.symbol.Word.TheVariants.{Plain}
use Rattle.mu_grammar.specs.declared.symbol.Mark.TheVariants.{Bar, Colon}
use Rattle.mu_grammar.specs.Lexemes.{word, mark}
use Rattle.mu_grammar.specs.Writings.{tree_of}
use Rattle.mu_grammar.specs.Excesses.{in_each, one_tree}
use Rattle.mu_grammar.specs.Groups.{Any}
use Rattle.mu_grammar.specs.Blocks.{IsTyped, SomeTyped, SomeTrees, IsBlock, typed_of, block_of, trees_in_typed, trees_in_block}
use Rattle.mu_grammar.proofs.Together.{none_together, none_of_both}
use Rattle.mu_print.specs.Canonical.{tree_text}
use Rattle.mu_print.specs.Texts.{between, surrounded, variable_text, block_text}
use Rattle.mu_print.specs.Laws.{BlocksReadBack}
use Rattle.mu_print.proofs.Scan.{scan, word_run, colon_run, bar_run}
use Rattle.mu_print.proofs.Again.{Lexed, lexed_then, lexed_behind_blank, lexed_before_blank, lexed_end, keeps_stop-surrounded, readable_parts, Reprints, reads_back}
use Rattle.mu_print.proofs.GroupsBack.{reprints_separated, reprints_any}
use Rattle.mu_print.proofs.Separators.{comma}
use Rattle.mu_print.proofs.TreesBack.{reprints_tree, tree_starts}

pub reprints_typed : Reprints IsTyped trees_in_typed typed_of variable_text
unfolding variable_text
reprints_typed = record {
  reprint = λ ts x readable g none.
      let first = readable_parts (word Plain x.name ∷ []) (mark Colon ∷ g.0) ts g.1 readable in
      let behind = (readable_parts (mark Colon ∷ []) g.0 (mark Colon ∷ g.0) refl first.1).1 in
      let p = reprints_tree.reprint g.0 x.type behind g.2 none in
      let type : List ℕ = tree_text (tree_of x.type) in
      record {
        value = record { name = x.name; type = p.value };
        spelled = word Plain x.name ∷ mark Colon ∷ p.spelled;
        lexed = record {
          lexes = λ r s.
              ap (scan 0) (append_assoc x.name (codes ":" ++ type) r)
              ∙ (word_run Plain x.name (codes ":" ++ (type ++ r)) first.0.sound.0 (refl, refl)
              ∙ ap (λ l. word Plain x.name ∷ l) (colon_run (type ++ r) (tree_starts g.0 x.type behind g.2 r) ∙ ap (λ l. mark Colon ∷ l) (p.lexed.lexes r s)));
          right = (tt, (tt, p.lexed.right));
          within = (first.0.within.0, (tt, p.lexed.within));
        };
        spells = (p.spelled, refl, p.spells);
        limits = p.limits;
        means = ap (λ t. record { name = x.name; ty = t }) p.means;
      };
}

-- typed variables with commas between them
abbrev pub variables_text : List TypedVar → List ℕ
variables_text vars = between (codes ", ") (map variable_text vars)

-- trees with commas between them
abbrev pub trees_text : List Tree → List ℕ
trees_text trees = between (codes ", ") (map tree_text trees)

pub reprints_some_typed : Reprints SomeTyped (in_each trees_in_typed) (map typed_of) variables_text
reprints_some_typed = reprints_separated reprints_typed comma (λ r. (refl, refl))

pub reprints_some_trees : Reprints SomeTrees (in_each one_tree) (map tree_of) trees_text
reprints_some_trees = reprints_separated reprints_tree comma (λ r. (refl, refl))

-- the variables that a block begins with
abbrev vars_text : List TypedVar → List ℕ
vars_text vars = surrounded [] (codes ", ") (codes " ") (map variable_text vars)

reprints_block_vars : Reprints (Any SomeTyped) (in_each trees_in_typed) (map typed_of) vars_text
reprints_block_vars = reprints_any reprints_some_typed (λ ts g. g) vars_text refl (λ x xs ts l. lexed_before_blank l)

-- the assumptions that a block ends with
abbrev assumptions_text : List Tree → List ℕ
assumptions_text trees = surrounded (codes " ") (codes ", ") [] (map tree_text trees)

reprints_block_trees : Reprints (Any SomeTrees) (in_each one_tree) (map tree_of) assumptions_text
reprints_block_trees = reprints_any reprints_some_trees (λ ts g. g) assumptions_text refl (λ x xs ts l. lexed_behind_blank (lexed_end l))

bar : Lexed (codes "|") (mark Bar ∷ [])
bar = record { lexes = bar_run; right = (tt, tt); within = (tt, tt) }

pub reprints_block : Reprints IsBlock trees_in_block block_of (λ x. block_text x.0 x.1)
unfolding block_text
reprints_block = record {
  reprint = λ ts x readable g none.
      let parts = readable_parts g.0 (mark Bar ∷ g.1) ts g.2 readable in
      let behind = (readable_parts (mark Bar ∷ []) g.1 (mark Bar ∷ g.1) refl parts.1).1 in
      let n = none_together (in_each trees_in_typed x.vars) (in_each one_tree x.assumptions) none in
      let p = reprints_block_vars.reprint g.0 x.vars parts.0 g.3 n.0 in
      let q = reprints_block_trees.reprint g.1 x.assumptions behind g.4 n.1 in
      let stop = keeps_stop-surrounded (codes " ") (codes ", ") [] (map tree_text (map tree_of x.assumptions)) (λ r. (refl, refl)) in
      record {
        value = record { vars = p.value; assumptions = q.value };
        spelled = p.spelled ++ (mark Bar ∷ q.spelled);
        lexed = lexed_then p.lexed (λ r s. (refl, refl)) (lexed_then bar stop q.lexed);
        spells = (p.spelled, q.spelled, refl, p.spells, q.spells);
        limits = none_of_both (in_each trees_in_typed p.value) (in_each one_tree q.value) p.limits q.limits;
        means = cc (p.means, q.means);
      };
}

-- what some text reads as that a sequent or a block begins with is what its canonical text reads as
pub blocks_read_back : BlocksReadBack
unfolding BlocksReadBack
blocks_read_back = reads_back IsBlock trees_in_block block_of (λ x. block_text x.0 x.1) reprints_block
