use Rattle.std.proofs.Common.{rules, ◌≡◌, subst, sym}
use Rattle.mu_grammar.specs.Lexemes.{items_of}
use Rattle.mu_grammar.specs.Parts.{End}
use Rattle.mu_grammar.specs.Blocks.{IsBlock, StandsBlock, block_of, trees_in_block, read_block}
use Rattle.mu_grammar.specs.Texts.{ReadsText}
use Rattle.mu_text.proofs.Limits.{block-meant}
use Rattle.mu_text.proofs.Lines.{reads_text}
use Rattle.mu_text.proofs.Blocks.{NoBlock, Exact-block, block_ends}
use Rattle.mu_text.proofs.Exact.{Exact-before}
use Rattle.mu_text.proofs.texts.read_box.Goals as goal

pub returns : goal.returns
returns c =
    let same : c.new-reader.result ≡ items_of c.args.text.now = search rules in
    subst (ReadsText IsBlock trees_in_block block_of c.args.text.now) (sym c.answer.ensures)
    (reads_text IsBlock trees_in_block StandsBlock block_of block-meant read_block (Exact-before read_block IsBlock NoBlock End (λ rest e. subst NoBlock (sym e) block_ends) Exact-block)
    c.args.text.now c.new-reader.result c.block-read.result c.block-read.new.reader c.none-excess.result c.block-read.new.excess c.len.result same c.none-excess.ensures c.block-read.ensures c.len.ensures)
