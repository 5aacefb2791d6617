use Rattle.std.proofs.Common.{refl, ◌≡◌, ◌∙◌, sym, ap, subst, Some, None, MutBor}
use Rattle.std.specs.Prelude.{Option, IsSome, OnSome}
use Rattle.std.specs.Option.{option_copied_mut}
use Rattle.std.specs.FinMap as map
use Rattle.mu_tree.proofs.TableLemmas.{get_name, one_put}
use Rattle.mu_tree.proofs.table.Table.get_mut.Goals as goal

on_some : {V : Type 0} (r : Option (MutBor V)) (o : Option V) (P : Type 0) → option_copied_mut r ≡ o → (IsSome o → P) → OnSome r P
on_some None o P is f = tt
on_some (Some x) o P is f = f (subst IsSome is refl)

pub returns : goal.returns
returns g c = (
  (
    refl,
    (λ w. on_some c.get_mut.result _ _ c.get_mut.ensures.value (λ there.
        one_put c.self.inside.entries (c.get_mut.follows.lender w) c.args.name.now w ((c.get_mut.follows.holds w).3 there)
        ∙ ap (λ m. map.insert m c.args.name.now w) c.self.view_is)),
    ap (λ entries. map.from_entries entries.entries) c.get_mut.follows.holds-at-none ∙ c.self.view_is,
  ),
  record {
    writes_back = tt;
    value = c.get_mut.ensures.value ∙ sym (get_name c.self.inside.entries.entries c.args.name.now) ∙ ap (λ m. map.get m c.args.name.now) c.self.view_is;
  },
)
