use Rattle.std.proofs.Common.{◌≡◌, ◌++◌, [], ◌∷◌, ap, subst, sym, ◌∙◌}
use Rattle.mu_decl.specs.Finding.{with_place, Finds}
use Rattle.mu_decl.proofs.Finding.{still_finds, finds_more}
use Rattle.mu_check.specs.Labels.{label_of}
use Rattle.mu_check.proofs.labels.KnownItems.push.Goals as goal

pub invariant_of-self-in_err-push : goal.invariant_of-self-in_err-push
invariant_of-self-in_err-push c =
    let placed : c.place_next.new.places ≡ with_place label_of c.self.inside.items c.args.item.label c.self.inside.places = c.in_ok-place_next.ensures.ok ∙ ap (λ xs. with_place label_of xs c.args.item.label c.self.inside.places) c.items.ensures in
    subst (Finds label_of c.place_next.new.places) (sym c.in_err-push.ensures.err) (subst (λ places. Finds label_of places c.self.inside.items) (sym placed) (still_finds label_of c.self.inside.places c.self.inside.items c.self.invariant c.args.item.label))

pub invariant_of-self-2 : goal.invariant_of-self-2
invariant_of-self-2 c =
    let placed : c.place_next.new.places ≡ with_place label_of c.self.inside.items c.args.item.label c.self.inside.places = c.in_ok-place_next.ensures.ok ∙ ap (λ xs. with_place label_of xs c.args.item.label c.self.inside.places) c.items.ensures in
    subst (Finds label_of c.place_next.new.places) (sym c.in_ok-push.ensures.ok) (subst (λ places. Finds label_of places (c.self.inside.items ++ c.args.item ∷ [])) (sym placed) (finds_more label_of c.self.inside.places c.self.inside.items c.self.invariant c.args.item))
