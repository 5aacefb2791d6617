-- Which trees are well formed, and where metavariables occur in them.
use Rattle.std.specs.Prelude.{ℕ, Bool, true, false, cond, ◌&&◌, List, [], ◌∷◌, ◌++◌, reverse, length, nat_eq, Option, Some, None, find, slice_get}
use Rattle.std.specs.Option.{option_map, unwrap_or}
use Rattle.std.specs.List.{list_all}
use Rattle.std.specs.Cmp.Lexicographic.{pointwise}
use Rattle.std.specs.FinMap as finite
use Rattle.mu_tree.specs.Names.{is_among}
use Rattle.mu_tree.specs.declared.trees.Tree.{Tree}
use Rattle.mu_tree.specs.declared.trees.Tree.TheOpen.{Tree-F, App, Meta, Bind}
use Rattle.mu_tree.specs.declared.trees.Tree.TheFolds.{fold-Tree}
use Rattle.mu_tree.specs.declared.claim.Kind.{Kind}
use Rattle.mu_tree.specs.declared.claim.Kind.TheVariants.{E, T}
use Rattle.mu_tree.specs.declared.claim.Shape.{Shape}
use Rattle.mu_tree.specs.declared.claim.Shape.TheVariants.{Plain, Binder}
use Rattle.mu_decl.specs.declared.declaration.ConstDecl.{ConstDecl}
use Rattle.mu_decl.specs.declared.formation.Scoped.{Scoped}
use Rattle.mu_decl.specs.declared.occurring.Occurrence.{Occurrence}
use Rattle.mu_decl.specs.Contexts.{World}

-- whether two kinds are one
abbrev pub same_kind : Kind → Kind → Bool
same_kind E E = true
same_kind T T = true
same_kind E T = false
same_kind T E = false

-- the kind of a variable: the innermost of its name, which stands last
unfoldable pub kind_in : List Scoped → List ℕ → Option Kind
kind_in scope n = option_map (λ s. s.kind) (find (λ s. pointwise nat_eq s.name n) (reverse scope))

-- a variable that stands for elements
abbrev pub expression : List ℕ → Scoped
expression n = record { name = n; kind = E }

-- a name as a variable where it is one, and else as a constant
abbrev pub named : Option Kind → Kind → Bool → Bool
named (Some found) kind otherwise = same_kind found kind
named None kind otherwise = otherwise

-- the shape of a constant that is there, seen, and has this result
abbrev pub shape_for : List (List ℕ) → Kind → Option ConstDecl → Option Shape
shape_for seen kind None = None
shape_for seen kind (Some d) = cond (is_among seen d.theory && same_kind d.result kind) (Some d.shape) None

-- whether a part is well formed, by the variables in scope and the kind that its place wants
abbrev pub Judged : Type 0
Judged = List Scoped → Kind → Bool

-- whether arguments fit where a constant of this shape is applied
abbrev pub takes : List Scoped → Option Shape → List Judged → Bool
takes scope None arguments = false
takes scope (Some (Plain kinds)) arguments = pointwise (λ kind argument. argument scope kind) kinds arguments
takes scope (Some (Binder kind)) arguments = false

-- whether a domain and a body fit where a constant of this shape binds v
abbrev pub binds : List Scoped → Option Shape → List ℕ → Judged → Judged → Bool
binds scope None v domain body = false
binds scope (Some (Plain kinds)) v domain body = false
binds scope (Some (Binder kind)) v domain body = domain scope T && body (scope ++ expression v ∷ []) kind

-- one node: a name without arguments is a variable where there is one of the name, and else a constant as any other
abbrev pub formed_step : World → List (List ℕ) → Tree-F Judged → Judged
formed_step w seen (App n []) = λ scope kind. named (kind_in scope n) kind (takes scope (shape_for seen kind (finite.get w.constants n)) [])
formed_step w seen (App n (argument ∷ arguments)) = λ scope kind. takes scope (shape_for seen kind (finite.get w.constants n)) (argument ∷ arguments)
formed_step w seen (Meta m arguments) = λ scope kind. list_all (λ argument. argument scope E) arguments
formed_step w seen (Bind b v domain body) = λ scope kind. binds scope (shape_for seen kind (finite.get w.constants b)) v domain body

-- whether a tree is a well-formed expression of this kind where these units are seen, with these variables in scope
unfoldable pub is_formed : World → List (List ℕ) → List Scoped → Kind → Tree → Bool
is_formed w seen scope kind t = fold-Tree Judged (formed_step w seen) t scope kind

-- the kinds that are wanted of the arguments of a constant, by its shape
abbrev pub kinds_of : Shape → List Kind
kinds_of (Plain kinds) = kinds
kinds_of (Binder kind) = []

-- the kind that is wanted of the body under a binder, by its shape
abbrev pub body_of : Shape → Kind
body_of (Plain kinds) = E
body_of (Binder kind) = kind

-- the kinds that are wanted of the arguments of a constant, none where it isn't declared
abbrev pub argument_kinds : Option ConstDecl → List Kind
argument_kinds None = []
argument_kinds (Some d) = kinds_of d.shape

-- the kind that is wanted of the body under a binder, elements where it isn't declared
abbrev pub body_kind : Option ConstDecl → Kind
body_kind None = E
body_kind (Some d) = body_of d.shape

-- the kind that is wanted of an argument by its place
abbrev pub kind_at : List Kind → ℕ → Kind
kind_at kinds i = unwrap_or (slice_get kinds i) E

-- what stands in some arguments, each at the kind that is wanted of it, and as elements beyond these kinds
abbrev pub spread : List Kind → List (Kind → List Occurrence) → List Occurrence
spread kinds [] = []
spread [] (argument ∷ arguments) = argument E ++ spread [] arguments
spread (kind ∷ kinds) (argument ∷ arguments) = argument kind ++ spread kinds arguments

-- one node's metavariable, and those of its parts
abbrev pub occurrence_step : World → Tree-F (Kind → List Occurrence) → Kind → List Occurrence
occurrence_step w (App n arguments) = λ kind. spread (argument_kinds (finite.get w.constants n)) arguments
occurrence_step w (Meta m arguments) = λ kind. record { meta = m; count = length arguments; kind = kind } ∷ spread [] arguments
occurrence_step w (Bind b v domain body) = λ kind. domain T ++ body (body_kind (finite.get w.constants b))

-- the metavariables of a tree from left to right, each with its number of arguments and the kind that its place wants
unfoldable pub occurrences : World → Tree → Kind → List Occurrence
occurrences w = fold-Tree (Kind → List Occurrence) (occurrence_step w)

-- whether arguments are well formed where a constant of this shape is applied
abbrev pub application_formed : World → List (List ℕ) → List Scoped → Option Shape → List Tree → Bool
application_formed w seen scope None arguments = false
application_formed w seen scope (Some (Plain kinds)) arguments = pointwise (is_formed w seen scope) kinds arguments
application_formed w seen scope (Some (Binder kind)) arguments = false

-- whether a domain and a body are well formed where a constant of this shape binds v
abbrev pub binder_formed : World → List (List ℕ) → List Scoped → Option Shape → List ℕ → Tree → Tree → Bool
binder_formed w seen scope None v domain body = false
binder_formed w seen scope (Some (Plain kinds)) v domain body = false
binder_formed w seen scope (Some (Binder kind)) v domain body = is_formed w seen scope T domain && is_formed w seen (scope ++ expression v ∷ []) kind body
