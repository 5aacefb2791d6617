-- Items by their labels.
use Rattle.std.specs.Prelude.{ℕ, List, Option}
use Rattle.std.specs.Option.{option_map}
use Rattle.std.specs.List.{find}
use Rattle.mu_decl.specs.Finding.{is_called}
use Rattle.mu_check.specs.declared.fact.Fact.{Fact}
use Rattle.mu_check.specs.declared.environments.KnownItem.{KnownItem}

-- an item's label
abbrev pub label_of : KnownItem → List ℕ
label_of i = i.label

-- what the item of a label gives
abbrev pub item_of : List KnownItem → List ℕ → Option Fact
item_of items l = option_map (λ i. i.gives) (find (is_called label_of l) items)
