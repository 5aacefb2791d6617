use Rattle.std.proofs.Common.{rules, ◌≡◌, subst, sym}
use Rattle.mu_grammar.specs.Lexemes.{items_of}
use Rattle.mu_grammar.specs.Parts.{End}
use Rattle.mu_grammar.specs.Claims.{IsClaim, StandsClaim, claim_of, trees_in_claim, read_claim}
use Rattle.mu_grammar.specs.Texts.{ReadsText}
use Rattle.mu_text.proofs.Limits.{claim-meant}
use Rattle.mu_text.proofs.Lines.{reads_text}
use Rattle.mu_text.proofs.Claims.{Exact-claim, NoClaim, claim_ends}
use Rattle.mu_text.proofs.Exact.{Exact-before}
use Rattle.mu_text.proofs.texts.read_claim.Goals as goal

pub returns : goal.returns
returns c =
    let same : c.new-reader.result ≡ items_of c.args.text.now = search rules in
    subst (ReadsText IsClaim trees_in_claim claim_of c.args.text.now) (sym c.answer.ensures)
    (reads_text IsClaim trees_in_claim StandsClaim claim_of claim-meant read_claim (Exact-before read_claim IsClaim NoClaim End (λ rest e. subst NoClaim (sym e) claim_ends) Exact-claim)
    c.args.text.now c.new-reader.result c.claim-read.result c.claim-read.new.reader c.none-excess.result c.claim-read.new.excess c.len.result same c.none-excess.ensures c.claim-read.ensures c.len.ensures)
