use Rattle.std.proofs.Common.{◌≡◌, ◌∙◌, ℕ, List, None, sym, ap, subst}
use Rattle.std.specs.FinMap as finite
use Rattle.mu_tree.specs.Maps.{MapOf, NamesOf}
use Rattle.mu_tree.specs.declared.claim.Definition.{Definition}
use Rattle.mu_defs.specs.DefinitionTables.{first_constant, IsKept}
use Rattle.mu_defs.specs.Indexes.{with_all}
use Rattle.mu_defs.specs.Uses.{used_by}
use Rattle.mu_defs.proofs.DefinitionLemmas.{kept_more, kept_put}
use Rattle.mu_defs.proofs.IndexLemmas.{keeps_all}
use Rattle.mu_defs.proofs.Settled.{settled}
use Rattle.mu_defs.proofs.definition_table.DefinitionTable.put.Goals as goal

pub invariant_of-self-2 : goal.invariant_of-self-2
invariant_of-self-2 c =
    let after = with_all c.self.inside.users (used_by c.args.definition) c.args.name in
    let users : c.add_all.new.self ≡ after =
    c.in_ok-add_all.ensures.ok ∙ ap (λ (names : List (List ℕ)). with_all c.self.inside.users names c.args.name) (c.as_slice.ensures.value ∙ c.in_ok-used.ensures.value) in
    subst (λ (all : MapOf NamesOf). IsKept (record { by_name = c.put.new.self; users = all })) (sym users)
    (settled (λ (definitions : MapOf Definition). IsKept (record { by_name = definitions; users = after })) c.self.inside.by_name (finite.insert c.self.inside.by_name c.args.name c.args.definition) c.put.new.self
    c.put.result c.put.ensures.ok c.put.ensures.err
    (kept_more c.self.inside c.self.invariant after (keeps_all c.self.inside.users (used_by c.args.definition) c.args.name))
    (kept_put c.self.inside c.self.invariant c.args.name c.args.definition (subst (λ (definitions : MapOf Definition). first_constant (finite.insert definitions c.args.name c.args.definition) ≡ None) (sym c.self.view_is) c.requires)))
