-- What the item of a label gives is found by its place.
use Rattle.std.proofs.Common.{◌≡◌, ap, ℕ, List}
use Rattle.std.specs.Option.{option_map}
use Rattle.std.specs.FinMap as finite
use Rattle.mu_tree.specs.Maps.{MapOf}
use Rattle.mu_decl.specs.Finding.{placed, Finds}
use Rattle.mu_decl.proofs.Finding.{found}
use Rattle.mu_check.specs.declared.environments.KnownItem.{KnownItem}
use Rattle.mu_check.specs.Labels.{label_of, item_of}

pub found_item : (places : MapOf ℕ) (items : List KnownItem) → Finds label_of places items → (l : List ℕ) → option_map (λ (i : KnownItem). i.gives) (placed label_of items l (finite.get places l)) ≡ item_of items l
found_item places items finds l = ap (option_map (λ (i : KnownItem). i.gives)) (found label_of places items finds l)
