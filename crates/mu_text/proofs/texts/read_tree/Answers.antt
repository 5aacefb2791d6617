use Rattle.std.proofs.Common.{rules, ◌≡◌, subst, sym}
use Rattle.mu_grammar.specs.Lexemes.{items_of}
use Rattle.mu_grammar.specs.Parts.{End}
use Rattle.mu_grammar.specs.Writings.{tree_of}
use Rattle.mu_grammar.specs.Trees.{OneTree, read_tree}
use Rattle.mu_grammar.specs.Excesses.{one_tree, StandsTree}
use Rattle.mu_grammar.specs.Texts.{ReadsText}
use Rattle.mu_text.proofs.Limits.{tree-meant}
use Rattle.mu_text.proofs.Lines.{reads_text}
use Rattle.mu_text.proofs.Trees.{Exact-tree}
use Rattle.mu_text.proofs.Complete.{Follows}
use Rattle.mu_text.proofs.Exact.{Exact-before}
use Rattle.mu_text.proofs.texts.read_tree.Goals as goal

pub returns : goal.returns
returns c =
    let same : c.new-reader.result ≡ items_of c.args.text.now = search rules in
    subst (ReadsText OneTree one_tree tree_of c.args.text.now) (sym c.answer.ensures)
    (reads_text OneTree one_tree StandsTree tree_of tree-meant read_tree (Exact-before read_tree OneTree Follows End (λ rest e. subst Follows (sym e) tt) Exact-tree)
    c.args.text.now c.new-reader.result c.tree-read.result c.tree-read.new.reader c.none-excess.result c.tree-read.new.excess c.len.result same c.none-excess.ensures c.tree-read.ensures c.len.ensures)
