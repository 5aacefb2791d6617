-- The proofs of rules, and which rules lead to which by what their proofs cite.
use Rattle.std.specs.Prelude.{◌+◌, nat_eq, if◌then◌else◌, ℕ, Bool, false, List, [], ◌∷◌, Option, Some, None}
use Rattle.std.specs.Option.{option_map_or}
use Rattle.std.specs.List.{flat_map}
use Rattle.std.specs.FinMap as finite
use Rattle.mu_tree.specs.Maps.{MapOf}
use Rattle.mu_tree.specs.declared.why.Why.{Why}
use Rattle.mu_graph.specs.Derivations.{Stands}
use Rattle.mu_graph.specs.Names.{led_by, linked, leads_linked}
use Rattle.mu_proof.specs.declared.items.Item.{Item}
use Rattle.mu_proof.specs.declared.alteration.Alteration.TheVariants as alteration
use Rattle.mu_proof.specs.Edits.{altered}
use Rattle.mu_proof.specs.Proofs.{is_line_label}
use Rattle.mu_flat.specs.ProofEdits.{made}
use Rattle.mu_flat.specs.declared.proof_edits.ProofEdit.{ProofEdit}
use Rattle.mu_proof.specs.Citations.{cites}
use Rattle.mu_proof.specs.declared.citations.Cited.{Cited}
use Rattle.mu_proof.specs.declared.citations.Cited.TheVariants.{Rule, Morphism}

-- proofs by the name of their rule and their own
abbrev pub ProofsOf : Type 0
ProofsOf = MapOf (MapOf (List Item))

-- the proofs of a rule, none of a name without proofs
abbrev pub proofs_of : ProofsOf → List ℕ → MapOf (List Item)
proofs_of proofs rule = option_map_or (λ found. found) (finite.get proofs rule) finite.empty

-- the proof of a rule that has this name
abbrev pub proof_at : ProofsOf → List ℕ → List ℕ → Option (List Item)
proof_at proofs rule proof = finite.get (proofs_of proofs rule) proof

-- the proofs with these items as that of a rule and a name
abbrev pub with_proof : ProofsOf → List ℕ → List ℕ → List Item → ProofsOf
with_proof proofs rule proof items = finite.insert proofs rule (finite.insert (proofs_of proofs rule) proof items)

-- whether the proof that was found has a line of this label
abbrev pub has_line_at : List ℕ → Option (List Item) → Bool
has_line_at label None = false
has_line_at label (Some items) = is_line_label items label

-- the proofs with the items of the proof that was found changed, and as they were where none was
abbrev pub with_change_in : ProofsOf → List ℕ → List ℕ → (List Item → List Item) → Option (List Item) → ProofsOf
with_change_in proofs rule proof change None = proofs
with_change_in proofs rule proof change (Some items) = with_proof proofs rule proof (change items)

-- the proofs with the items of one of them changed
abbrev pub with_change_at : ProofsOf → List ℕ → List ℕ → (List Item → List Item) → ProofsOf
with_change_at proofs rule proof change = with_change_in proofs rule proof change (proof_at proofs rule proof)

-- the proofs with an edit of one of them made
abbrev pub with_edit_at : ProofsOf → List ℕ → List ℕ → ProofEdit → ProofsOf
with_edit_at proofs rule proof edit = with_change_at proofs rule proof (made edit)

-- the proofs with another reason of a line
abbrev pub with_reason_at : ProofsOf → List ℕ → List ℕ → List ℕ → Option Why → ProofsOf
with_reason_at proofs rule proof label why = with_change_at proofs rule proof (λ items. altered items label (alteration.Why why))

-- the proofs with these as those of a rule, which is a name without proofs where there are none
abbrev pub with_own : ProofsOf → List ℕ → MapOf (List Item) → ProofsOf
with_own proofs rule own = if nat_eq (finite.len own) 0 then finite.remove proofs rule else finite.insert proofs rule own

-- the proofs without one of a rule
abbrev pub without_proof : ProofsOf → List ℕ → List ℕ → ProofsOf
without_proof proofs rule proof = with_own proofs rule (finite.remove (proofs_of proofs rule) proof)

-- how many proofs the rules of some entries have
abbrev pub count_in : List (List ℕ × MapOf (List Item)) → ℕ
count_in [] = 0
count_in (entry ∷ entries) = finite.len entry.1 + count_in entries

-- how many proofs there are
abbrev pub count_proofs : ProofsOf → ℕ
count_proofs proofs = count_in (finite.entries proofs)

-- what some proofs cite
abbrev pub cited_in : MapOf (List Item) → List Cited
cited_in proofs = flat_map (λ entry. cites entry.1) (finite.entries proofs)

-- What a rule leads to is what its stored proofs cite, whether the rule is there or not. A morphism leads to nothing, as none is stored.
abbrev pub leads : ProofsOf → Cited → List Cited
leads proofs (Rule rule) = led_by cited_in proofs rule
leads proofs (Morphism morphism) = []

-- all that anything leads to
abbrev pub led_to : ProofsOf → List Cited
led_to proofs = linked cited_in proofs

-- the law: what a member leads to is among them
pub leads_within : (proofs : ProofsOf) (from to : Cited) → Stands to (leads proofs from) → Stands to (led_to proofs)
leads_within proofs (Rule rule) to s = leads_linked cited_in proofs rule to s
leads_within proofs (Morphism morphism) to s = absurd s
