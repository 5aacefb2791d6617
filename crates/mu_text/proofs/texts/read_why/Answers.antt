use Rattle.std.proofs.Common.{rules, ◌≡◌, subst, sym}
use Rattle.mu_grammar.specs.Lexemes.{items_of}
use Rattle.mu_grammar.specs.Parts.{End}
use Rattle.mu_grammar.specs.Reasons.{IsReason, StandsReason, why_of, trees_in_reason, read_reason}
use Rattle.mu_grammar.specs.Texts.{ReadsText}
use Rattle.mu_text.proofs.Limits.{reason-meant}
use Rattle.mu_text.proofs.Lines.{reads_text}
use Rattle.mu_text.proofs.Reasons.{NoReason, Exact-reason, reason_ends}
use Rattle.mu_text.proofs.Exact.{Exact-before}
use Rattle.mu_text.proofs.texts.read_why.Goals as goal

pub returns : goal.returns
returns c =
    let same : c.new-reader.result ≡ items_of c.args.text.now = search rules in
    subst (ReadsText IsReason trees_in_reason why_of c.args.text.now) (sym c.answer.ensures)
    (reads_text IsReason trees_in_reason StandsReason why_of reason-meant read_reason (Exact-before read_reason IsReason NoReason End (λ rest e. subst NoReason (sym e) reason_ends) Exact-reason)
    c.args.text.now c.new-reader.result c.reason-read.result c.reason-read.new.reader c.none-excess.result c.reason-read.new.excess c.len.result same c.none-excess.ensures c.reason-read.ensures c.len.ensures)
