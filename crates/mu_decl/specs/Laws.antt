-- What a reader can trust of nameless trees: laws above their definitions.
use Rattle.std.specs.Prelude.{ℕ, ◌≡◌, ◌+◌, Bool, true, false, ◌&&◌, cond, nat_eq, nat_lt, List, [], ◌∷◌, ◌++◌, map, length}
use Rattle.std.specs.List.{AllByRecursion, list_all, flat_map}
use Rattle.std.specs.Cmp.Lexicographic.{pointwise}
use Rattle.mu_tree.specs.Names.{is_among}
use Rattle.mu_tree.specs.Trees.{occurrences, joined}
use Rattle.mu_tree.specs.declared.trees.Tree.{Tree}
use Rattle.mu_tree.specs.declared.trees.Tree.TheOpen.{Tree-F, App, Meta, Bind}
use Rattle.mu_tree.specs.declared.trees.Tree.TheFolds.{fold-Tree}
use Rattle.mu_tree.specs.declared.trees.Tree.TheVariants as tree
use Rattle.mu_decl.specs.declared.bare.Bare.{Bare}
use Rattle.mu_decl.specs.declared.bare.Bare.TheOpen as layer
use Rattle.mu_decl.specs.declared.bare.Bare.TheFolds.{fold-Bare}
use Rattle.mu_decl.specs.declared.bare.Bare.TheVariants as bare
use Rattle.mu_decl.specs.declared.instantiating.Abstraction.{Abstraction}
use Rattle.mu_decl.specs.Nameless.{nameless}
use Rattle.mu_decl.specs.Opening.{shift, opened}
use Rattle.mu_tree.specs.Maps.{MapOf}
use Rattle.mu_decl.specs.declared.unfolding.DeltaRule.{DeltaRule}
use Rattle.mu_decl.specs.Instantiating.{instantiated}
use Rattle.mu_decl.specs.Unfolding.{unfolded}
use Rattle.mu_decl.specs.Translating.{translated}

-- a name in a tree where v is renamed to w, under inner binders of some names, which may bind v again
abbrev pub renamed_name : List ℕ → List ℕ → List (List ℕ) → List ℕ → List ℕ
renamed_name v w inner n = cond (is_among inner n) n (cond (pointwise nat_eq v n) w n)

-- a variable is a name without arguments
abbrev pub renamed_application : List ℕ → List ℕ → List (List ℕ) → List ℕ → List Tree → Tree
renamed_application v w inner n [] = tree.App (renamed_name v w inner n) []
renamed_application v w inner n (part ∷ parts) = tree.App n (part ∷ parts)

-- one node, with what each part is under the binders where it stands
abbrev pub renamed_step : List ℕ → List ℕ → Tree-F (List (List ℕ) → Tree) → List (List ℕ) → Tree
renamed_step v w (App n parts) = λ inner. renamed_application v w inner n (map (λ part. part inner) parts)
renamed_step v w (Meta m parts) = λ inner. tree.Meta m (map (λ part. part inner) parts)
renamed_step v w (Bind b u domain body) = λ inner. tree.Bind b u (domain inner) (body (inner ++ u ∷ []))

-- the free variable v of a tree renamed to w, under inner binders of some names
unfoldable pub renamed : List ℕ → List ℕ → List (List ℕ) → Tree → Tree
renamed v w inner t = fold-Tree (List (List ℕ) → Tree) (renamed_step v w) t inner

-- the names of bound variables do not count: a bound variable renamed to a name that does not occur leaves the nameless tree
unfoldable pub RenamingIsFree : Type 0
RenamingIsFree = (scope bound : List (List ℕ)) (b v w : List ℕ) (domain body : Tree) → is_among (occurrences body) w ≡ false → nameless scope bound (tree.Bind b w domain (renamed v w [] body)) ≡ nameless scope bound (tree.Bind b v domain body)

-- all of some tests hold
abbrev pub every : List Bool → Bool
every = list_all (λ b. b)

-- one node, by what holds of each part under one binder more
abbrev pub closed_step : layer.Bare-F (ℕ → Bool) → ℕ → Bool
closed_step (layer.Var x) = λ n. true
closed_step (layer.Index i) = λ n. nat_lt i n
closed_step (layer.App f arguments) = λ n. every (map (λ argument. argument n) arguments)
closed_step (layer.Meta m arguments) = λ n. every (map (λ argument. argument n) arguments)
closed_step (layer.Bind b domain body) = λ n. domain n && body (n + 1)

-- whether all loose indices of a tree are below n
unfoldable pub closed : ℕ → Bare → Bool
closed n t = fold-Bare (ℕ → Bool) closed_step t n

-- what is entered under some bound names has no loose indices but those of these names
unfoldable pub EnteredIsClosed : Type 0
EnteredIsClosed = (scope bound : List (List ℕ)) (t : Tree) → closed (length bound) (nameless scope bound t) ≡ true

-- opening undoes closing: a tree that is entered under bound names, opened by the variables of these names, is the tree entered with the names in scope
unfoldable pub OpeningEnters : Type 0
OpeningEnters = (scope names : List (List ℕ)) (t : Tree) → opened (map bare.Var names) (nameless scope names t) ≡ nameless (scope ++ names) [] t

-- a tree that is put under binders refers to none of them: whatever their variables become, it stays as it was
unfoldable pub ShiftedIsUntouched : Type 0
ShiftedIsUntouched = (by : List Bare) (t : Bare) → opened by (shift (length by) t) ≡ t

-- a node's own free variable, and those of its parts
abbrev pub variables_step : layer.Bare-F (List (List ℕ)) → List (List ℕ)
variables_step (layer.Var x) = x ∷ []
variables_step (layer.Index i) = []
variables_step (layer.App f rest) = joined rest
variables_step (layer.Meta m rest) = joined rest
variables_step (layer.Bind b domain body) = domain ++ body

-- the free variables of a tree, by their names, from left to right
unfoldable pub variables : Bare → List (List ℕ)
variables = fold-Bare (List (List ℕ)) variables_step

-- a free variable of an instance is one of the tree or of an inserted body
unfoldable pub VariablesStay : Type 0
VariablesStay = (given : List Abstraction) (t : Bare) (x : List ℕ) → is_among (variables (instantiated given t)) x ≡ true → is_among (variables t ++ flat_map (λ a. variables a.body) given) x ≡ true

-- no body has loose indices but its parameters
abbrev pub AreClosed : List Abstraction → Type 0
AreClosed given = AllByRecursion (λ a. closed a.count a.body ≡ true) given

-- an inserted body refers to no binder of the tree: what has no loose indices from n on has none after an instantiation
unfoldable pub InstancesAreClosed : Type 0
InstancesAreClosed = (given : List Abstraction) → AreClosed given → (n : ℕ) (t : Bare) → closed n t ≡ true → closed n (instantiated given t) ≡ true

-- no capture: binders opened before or after an instantiation give the same, whatever their variables become
unfoldable pub NothingIsCaptured : Type 0
NothingIsCaptured = (given : List Abstraction) → AreClosed given → (by : List Bare) (t : Bare) → instantiated given (opened by t) ≡ opened (map (instantiated given) by) (instantiated given t)

-- binders opened before or after a definition is unfolded give the same, where the definition has no loose indices but its parameters
unfoldable pub UnfoldingOpens : Type 0
UnfoldingOpens = (u : DeltaRule) → closed u.count u.body ≡ true → (by : List Bare) (t : Bare) → unfolded u (opened by t) ≡ opened (map (unfolded u) by) (unfolded u t)

-- binders opened before or after a translation give the same
unfoldable pub TranslationOpens : Type 0
TranslationOpens = (names : MapOf (List ℕ)) (by : List Bare) (t : Bare) → translated names (opened by t) ≡ opened (map (translated names) by) (translated names t)

-- an abstraction with its body translated
abbrev pub translated_body : MapOf (List ℕ) → Abstraction → Abstraction
translated_body names a = record a { body = translated names a.body }

-- an instance translated is the translation instantiated by the translated abstractions
unfoldable pub TranslationInstantiates : Type 0
TranslationInstantiates = (names : MapOf (List ℕ)) (given : List Abstraction) (t : Bare) → translated names (instantiated given t) ≡ instantiated (map (translated_body names) given) (translated names t)
