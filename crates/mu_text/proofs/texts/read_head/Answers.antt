use Rattle.std.proofs.Common.{rules, ◌≡◌, subst, sym}
use Rattle.mu_grammar.specs.Lexemes.{items_of}
use Rattle.mu_grammar.specs.Parts.{End}
use Rattle.mu_grammar.specs.Heads.{IsHead, StandsHead, head_of, trees_in_head, read_head}
use Rattle.mu_grammar.specs.Texts.{ReadsText}
use Rattle.mu_text.proofs.Limits.{head-meant}
use Rattle.mu_text.proofs.Lines.{reads_text}
use Rattle.mu_text.proofs.Heads.{NoHead, Exact-head, head_ends}
use Rattle.mu_text.proofs.Exact.{Exact-before}
use Rattle.mu_text.proofs.texts.read_head.Goals as goal

pub returns : goal.returns
returns c =
    let same : c.new-reader.result ≡ items_of c.args.text.now = search rules in
    let op = c.args.op in
    subst (ReadsText (IsHead op) trees_in_head head_of c.args.text.now) (sym c.answer.ensures)
    (reads_text (IsHead op) trees_in_head StandsHead head_of (head-meant op) (read_head op) (Exact-before (read_head op) (IsHead op) NoHead End (λ rest e. subst NoHead (sym e) head_ends) (Exact-head op))
    c.args.text.now c.new-reader.result c.head-read.result c.head-read.new.reader c.none-excess.result c.head-read.new.excess c.len.result same c.none-excess.ensures c.head-read.ensures c.len.ensures)
