-- The canonical text of a tree reads back.
use Rattle.std.proofs.Common.{◌≡◌, ℕ, ◌≤◌, false, List, ◌++◌, ap, sym, ◌∙◌, subst, arith}
use Rattle.std.specs.Prelude.{nat_lt, ◌||◌}
use Rattle.std.proofs.lemmas.Bool.Decides.{nat_tests}
use Rattle.mu_tree.specs.Trees.{depth}
use Rattle.mu_grammar.specs.Lexemes.{Lexeme}
use Rattle.mu_grammar.specs.Tokens.{starts_with}
use Rattle.mu_grammar.specs.Writings.{Writing, tokens, tree_of, nodes, deep}
use Rattle.mu_grammar.specs.Trees.{OneTree}
use Rattle.mu_grammar.specs.Limits.{WithinTokens}
use Rattle.mu_grammar.specs.Excesses.{is_deep, excess_of, no_excess, one_tree}
use Rattle.mu_grammar.proofs.Measures.{size-tree, depth-tree}
use Rattle.mu_grammar.proofs.Together.{neither, same_excess}
use Rattle.mu_print.specs.Canonical.{canonical, tree_text}
use Rattle.mu_print.specs.Laws.{TreesReadBack}
use Rattle.mu_print.specs.Sound.{SoundLexemes, Sounds}
use Rattle.mu_print.proofs.Scan.{starts, scans}
use Rattle.mu_print.proofs.Canon.{tree-canonical, nodes-canonical, deep-canonical, canonical_is_tree}
use Rattle.mu_print.proofs.Words.{sounds_canonical, within_canonical, right_tokens}
use Rattle.mu_print.proofs.Again.{Readable, Reprints, reads_back}

not_deep : (w : Writing) → excess_of (one_tree w) ≡ no_excess → deep w ≤ 200
not_deep w e = let far : is_deep w ≡ false = (neither (is_deep w) false (ap (λ x. x.depth) e)).0 in grind (arith, nat_tests)

same_nodes : (w : Writing) → nodes (canonical (tree_of w)) ≡ nodes w
same_nodes w = nodes-canonical (tree_of w) ∙ size-tree w

same_deep : (w : Writing) → deep (canonical (tree_of w)) ≡ deep w
same_deep w = deep-canonical (tree_of w) ∙ depth-tree w

same_limits : (w : Writing) → excess_of (one_tree (canonical (tree_of w))) ≡ excess_of (one_tree w)
same_limits w =
    same_excess (excess_of (one_tree (canonical (tree_of w)))) (excess_of (one_tree w))
    (ap (λ n. nat_lt 4096 n || false) (same_nodes w)) (ap (λ n. nat_lt 200 n || false) (same_deep w))

sound_canonical : (ts : List Lexeme) (w : Writing) → Readable ts → OneTree ts w → Sounds (canonical (tree_of w))
sound_canonical ts w readable g = sounds_canonical 400 w g.0 (subst SoundLexemes (sym g.1) readable.sound)

-- a tree is printed as its canonical writing
pub reprints_tree : Reprints OneTree one_tree tree_of tree_text
unfolding tree_text
reprints_tree = record {
  reprint = λ ts w readable g none.
      let t = tree_of w in
      let shallow : deep w ≤ 200 = not_deep w none in
      let counts : depth (tree_of w) ≡ deep w = depth-tree w in
      let is : OneTree (tokens (canonical (tree_of w))) (canonical (tree_of w)) = canonical_is_tree (tree_of w) (omega arith) in
      record {
        value = canonical t;
        spelled = tokens (canonical t);
        lexed = record {
          lexes = λ r s. scans (canonical t) r (sound_canonical ts w readable g) s;
          right = right_tokens 400 (canonical t) is.0;
          within = within_canonical 400 w g.0 (subst WithinTokens (sym g.1) readable.within);
        };
        spells = is;
        limits = same_limits w ∙ none;
        means = tree-canonical t;
      };
}

-- the text of a tree does not begin with an equals sign
pub tree_starts : (ts : List Lexeme) (w : Writing) → Readable ts → OneTree ts w → (r : List ℕ) → starts_with 61 (tree_text (tree_of w) ++ r) ≡ false
unfolding tree_text
tree_starts ts w readable g r = starts (canonical (tree_of w)) r (sound_canonical ts w readable g)

-- each tree that some text reads as is what its canonical text reads as
pub trees_read_back : TreesReadBack
unfolding TreesReadBack
trees_read_back = reads_back OneTree one_tree tree_of tree_text reprints_tree
