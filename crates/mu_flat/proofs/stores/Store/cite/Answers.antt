use Rattle.std.proofs.Common.{◌≡◌, subst, Some, None}
use Rattle.std.specs.Prelude.{IfErr, OnOk}
use Rattle.mu_tree.specs.declared.refusal.Refusal.{Refusal}
use Rattle.mu_flat.specs.Edits.{cite_refusal}
use Rattle.mu_flat.specs.Entries.{Entries}
use Rattle.mu_flat.specs.declared.edits.EditFault.TheVariants.{Refused}
use Rattle.mu_flat.proofs.CiteKeeping.{cited_kept}
use Rattle.mu_flat.proofs.stores.Store.cite.Goals as goal

pub invariant_of-self : goal.invariant_of-self
invariant_of-self c = cited_kept c.self.inside c.self.invariant c.args.rule.now c.args.proof.now c.args.label.now c.args.why c.cite.new.self c.cite.result c.cite.ensures.ok c.cite.ensures.new c.cite.ensures.err

pub returns-clause-ok : goal.returns-clause-ok
returns-clause-ok c = subst (λ (e : Entries). OnOk c.cite.result (cite_refusal e.proofs c.args.rule.now c.args.proof.now c.args.label.now c.args.why ≡ None)) c.self.view_is c.cite.ensures.ok

pub returns-clause-fault : goal.returns-clause-fault
returns-clause-fault c =
    subst (λ (e : Entries). IfErr c.cite.result (λ fault. (refusal : Refusal) → fault ≡ Refused refusal → cite_refusal e.proofs c.args.rule.now c.args.proof.now c.args.label.now c.args.why ≡ Some refusal)) c.self.view_is c.cite.ensures.fault
