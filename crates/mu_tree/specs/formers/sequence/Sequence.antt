-- How a list holds its items, so that a type may hold a list of its own values.
use mathlib.Core.Path.{◌≡◌, refl, sym}
use mathlib.Core.List.{List, []}
use mathlib.Core.Former.{Former, this, list, via, children}
use base.Stored.{code_map}
use denote.RattleType.{RattleType}
use denote.HoleLaws.{Alike}
use denote.HolePlaces.{Recodes, struct_places, laid}
use denote.Hole.Carrier.{listed, list-listed}
use denote.Hole.Fix.{over}
use denote.Param.Weighed.{Weighed, w_list}
use denote.Model.Placed.{view_places}
use Rattle.std.specs.formers.vec.Vec as vec
use Rattle.std.specs.declared.alloc.Global.{Global}
use Rattle.std.specs.contracts.alloc.Global as global
use Rattle.std.specs.contracts.impls.GlobalAllocator.TheImpl.{ghosts}
use Rattle.mu_tree.specs.declared.sequence.Sequence.TheInside.{Inside}
use Rattle.mu_tree.specs.declared.sequence.Sequence.TheView.{view, invariant}
use Rattle.mu_tree.specs.contracts.sequence.Sequence as sequence
use Rattle.mu_tree.specs.contracts.sequence.Sequence.TheInside as inside

-- a list of items is their list and nothing else
abbrev pub the_former : Former {0} → Former {0}
the_former item = list item

-- it weighs what its heaviest item does
abbrev pub the_weighed : {item : Former {0}} → Weighed item → Weighed (the_former item)
the_weighed weighed = w_list weighed

-- a list without items needs no item
pub the_empty : List ⊥
the_empty = []

-- its items, in order
abbrev pub the_items : (X : Type 0) → List X → List X
the_items X xs = xs

pub the_items_listed : (X : Type 0) (xs : List X) → listed _ (children (the_former this) X xs) ≡ the_items X xs
the_items_listed X xs = list-listed X xs

-- the fields: a `Vec` alone
abbrev held : Former {0}
held = via (vec.the_former this Global) Inside (λ X fields. fields.items) (λ X xs. record { items = xs }) (λ X fields. refl) (λ X xs. refl)

module _ (From To : RattleType) (f : From.Denot → To.Denot) where
  -- lists of alike items are laid out alike
  pub the_places : Alike From To f → Alike (sequence.the_row From) (sequence.the_row To) ((the_former this).map From.Denot To.Denot f)
  the_places alike = view_places held (list this) view (λ X Y k u. refl) (λ X u. refl) From.Denot To.Denot f (sequence.the_row From).coded (sequence.the_row To).coded
      (invariant From.Denot) (invariant To.Denot) (λ u p q. refl) (λ u p q. refl) (λ u e. tt) (λ u e. tt)
      (over (inside.the_row From)) (over (inside.the_row To))
      (struct_places (inside.the_type From) (inside.the_type To) (vec.mapped f, tt) _ (λ d. refl) refl (laid _ _ _ (vec.the_places global.the_row ghosts From To f alike), tt))

  -- and have the codes of their items
  pub the_codes_placed : Recodes From To f → Recodes (sequence.the_row From) (sequence.the_row To) ((the_former this).map From.Denot To.Denot f)
  the_codes_placed same xs = sym (code_map From.coded.code To.coded.code f (λ x. sym (same x)) xs)
