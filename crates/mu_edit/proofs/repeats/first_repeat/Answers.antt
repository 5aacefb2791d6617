use Rattle.std.proofs.Common.{◌≡◌, false, [], ◌∷◌, ◌++◌, map, ap, sym, ◌∙◌}
use Rattle.std.specs.Prelude.{is_some}
use Rattle.std.specs.Ordering.{nat_cmp}
use Rattle.std.specs.Cmp.Lexicographic.{slice_cmp}
use Rattle.std.specs.FinMap as finite
use Rattle.mu_tree.specs.Names.{is_among}
use Rattle.mu_edit.specs.Repeats.{repeated_behind}
use Rattle.mu_edit.proofs.RepeatLemmas.{from_start, goes_on, set_more}
use Rattle.mu_edit.proofs.repeats.first_repeat.Goals as goal

pub loop-item-init : goal.loop-item-init
loop-item-init g c = ([], (λ q. ap (λ m. finite.contains_key m q) c.new-before.ensures ∙ ap is_some (finite.get-empty (slice_cmp nat_cmp) q)), from_start (map g.T.Named.name c.args.items.now))

pub loop-item-preserved : goal.loop-item-preserved
loop-item-preserved g c =
    let inv = c.loop-item.invariant in
    let name = c.name-name.result.now in
    let fresh : is_among inv.0 name ≡ false = sym (inv.1 name) ∙ (sym c.has.ensures ∙ c.if-has.false) in (
      inv.0 ++ name ∷ [],
      (λ q. ap (λ m. finite.contains_key m q) c.in_ok-add.ensures.ok ∙ (set_more c.loop-item.before inv.0 c.in_ok-copy.field-0 inv.1 q ∙ ap (λ n. is_among (inv.0 ++ n ∷ []) q) c.in_ok-copy.ensures)),
      inv.2 ∙ (ap (λ items. repeated_behind inv.0 (map g.T.Named.name items)) c.in-Some.ensures ∙ goes_on inv.0 (map g.T.Named.name c.in-Some.others.now) (g.T.Named.name c.in-Some.item.now) name (sym c.name-name.ensures) fresh),
    )
