use Rattle.std.proofs.Common.{◌≡◌, ◌++◌, [], ◌∷◌, ap, subst, sym, ◌∙◌}
use Rattle.mu_decl.specs.Finding.{with_place, Finds}
use Rattle.mu_decl.specs.Scopes.{itself}
use Rattle.mu_decl.proofs.Finding.{still_finds, finds_more}
use Rattle.mu_decl.proofs.scopes.Variables.push.Goals as goal

pub invariant_of-self-in_err-push : goal.invariant_of-self-in_err-push
invariant_of-self-in_err-push c =
    let placed : c.place_next.new.places ≡ with_place itself c.self.inside.names c.args.name c.self.inside.places = c.in_ok-place_next.ensures.ok ∙ ap (λ xs. with_place itself xs c.args.name c.self.inside.places) c.items.ensures in
    subst (Finds itself c.place_next.new.places) (sym c.in_err-push.ensures.err) (subst (λ places. Finds itself places c.self.inside.names) (sym placed) (still_finds itself c.self.inside.places c.self.inside.names c.self.invariant c.args.name))

pub invariant_of-self-2 : goal.invariant_of-self-2
invariant_of-self-2 c =
    let placed : c.place_next.new.places ≡ with_place itself c.self.inside.names c.args.name c.self.inside.places = c.in_ok-place_next.ensures.ok ∙ ap (λ xs. with_place itself xs c.args.name c.self.inside.places) c.items.ensures in
    subst (Finds itself c.place_next.new.places) (sym c.in_ok-push.ensures.ok) (subst (λ places. Finds itself places (c.self.inside.names ++ c.args.name ∷ [])) (sym placed) (finds_more itself c.self.inside.places c.self.inside.names c.self.invariant c.args.name))
