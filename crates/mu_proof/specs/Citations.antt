-- What a proof cites.
use Rattle.std.specs.Prelude.{ℕ, Bool, false, nat_eq, List, [], ◌∷◌, Option, Some, None}
use Rattle.std.specs.List.{flat_map}
use Rattle.std.specs.Cmp.Lexicographic.{pointwise}
use Rattle.mu_tree.specs.declared.why.Why.{Why}
use Rattle.mu_tree.specs.declared.why.Why.TheVariants as why
use Rattle.mu_proof.specs.declared.items.Item.{Item}
use Rattle.mu_proof.specs.declared.items.Item.TheOpen.{Item-F, Line, Block}
use Rattle.mu_proof.specs.declared.items.Item.TheFolds.{fold-Item}
use Rattle.mu_proof.specs.declared.citations.Cited.{Cited}
use Rattle.mu_proof.specs.declared.citations.Cited.TheVariants as cited

-- whether what is cited is the rule of this name
abbrev pub is_rule : List ℕ → Cited → Bool
is_rule name (cited.Rule x) = pointwise nat_eq x name
is_rule name (cited.Morphism m) = false

-- whether what is cited is the morphism of this name
abbrev pub is_morphism : List ℕ → Cited → Bool
is_morphism name (cited.Rule x) = false
is_morphism name (cited.Morphism m) = pointwise nat_eq m name

-- the morphism that translates a rule, where one does
abbrev pub morphism_cited : Option (List ℕ) → List Cited
morphism_cited None = []
morphism_cited (Some m) = cited.Morphism m ∷ []

-- what a justification cites
abbrev pub cited_by : Option Why → List Cited
cited_by None = []
cited_by (Some (why.Rule x via refs given)) = cited.Rule x ∷ morphism_cited via
cited_by (Some (why.Hypothesis n terms refs)) = []
cited_by (Some (why.Definition c on)) = []
cited_by (Some (why.Same on)) = []

-- what one item cites, with what the items in it cite
abbrev pub cites_step : Item-F (List Cited) → List Cited
cites_step (Line l t why) = cited_by why
cites_step (Block l vars trees inner) = flat_map (λ each. each) inner

-- what an item cites
unfoldable pub item_cites : Item → List Cited
item_cites = fold-Item (List Cited) cites_step

-- what some items cite, in their order, each as often as it is cited
abbrev pub cites : List Item → List Cited
cites items = flat_map item_cites items
