use Rattle.std.proofs.Common.{◌≡◌, ◌∙◌, sym, ap, subst, Some, None}
use Rattle.std.specs.Option.{option_map}
use Rattle.mu_graph.specs.Circles.{GainsAt, IsAcyclic}
use Rattle.mu_proof.specs.Citations.{cited_by}
use Rattle.mu_proof.specs.declared.citations.Cited.TheVariants.{Rule}
use Rattle.mu_flat.specs.Circles.{first_circle}
use Rattle.mu_tree.specs.declared.refusal.Refusal.TheVariants.{Circle}
use Rattle.mu_flat.specs.CiterTables.{HasAllCiters}
use Rattle.mu_flat.specs.Edits.{line_refusal, circle_refusal}
use Rattle.mu_flat.specs.ProofTables.{ProofsOf, leads}
use Rattle.mu_flat.proofs.ProofKeeping.{permitted}
use Rattle.mu_flat.proofs.proof_tables.ProofTable.permit_reason.Goals as goal

pub first_circle-requires-clause-acyclic : goal.first_circle-requires-clause-acyclic
first_circle-requires-clause-acyclic c = subst (λ (proofs : ProofsOf). IsAcyclic (leads proofs)) c.self.view_is c.self.invariant.proofs.acyclic

pub first_circle-requires-clause-citers : goal.first_circle-requires-clause-citers
first_circle-requires-clause-citers c = subst (λ (proofs : ProofsOf). HasAllCiters c.self.inside.citers proofs) c.self.view_is c.self.invariant.citers

pub returns-in-Some-clause-fault : goal.returns-in-Some-clause-fault
returns-in-Some-clause-fault c refusal is proof label there =
    let same : Circle c.into_bytes.result ≡ refusal = cc in
    subst (λ (proofs : ProofsOf). circle_refusal proofs c.args.rule.now proof label c.args.why.now ≡ Some refusal) c.self.view_is
    (permitted c.self.inside c.self.invariant c.args.rule.now proof label c.args.why.now (subst (λ (proofs : ProofsOf). line_refusal proofs c.args.rule.now proof label ≡ None) (sym c.self.view_is) there) c.in_ok-name.field-0
    (subst (λ (proofs : ProofsOf). (after : ProofsOf) → GainsAt (leads proofs) (leads after) (Rule c.args.rule.now) (cited_by (Some c.args.why.now)) → c.in_ok-name.field-0 ≡ first_circle after) (sym c.self.view_is) c.in_ok-name.ensures)
    ∙ ap (option_map Circle) c.in-Some.is ∙ ap (λ name. Some (Circle name)) (sym c.into_bytes.ensures) ∙ ap Some same)

pub returns-in-None-clause-ok : goal.returns-in-None-clause-ok
returns-in-None-clause-ok c proof label there =
    subst (λ (proofs : ProofsOf). circle_refusal proofs c.args.rule.now proof label c.args.why.now ≡ None) c.self.view_is
    (permitted c.self.inside c.self.invariant c.args.rule.now proof label c.args.why.now (subst (λ (proofs : ProofsOf). line_refusal proofs c.args.rule.now proof label ≡ None) (sym c.self.view_is) there) c.in_ok-name.field-0
    (subst (λ (proofs : ProofsOf). (after : ProofsOf) → GainsAt (leads proofs) (leads after) (Rule c.args.rule.now) (cited_by (Some c.args.why.now)) → c.in_ok-name.field-0 ≡ first_circle after) (sym c.self.view_is) c.in_ok-name.ensures)
    ∙ ap (option_map Circle) c.in-None.is)
