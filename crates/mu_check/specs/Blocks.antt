-- Why a block may not be entered: the first test that it fails before its items are looked at.
use Rattle.std.specs.Prelude.{ℕ, Bool, not, ◌&&◌, List, ◌++◌, map, Option, None}
use Rattle.std.specs.List.{list_all, list_any, flat_map}
use Rattle.mu_tree.specs.Names.{is_among}
use Rattle.mu_tree.specs.declared.trees.Tree.{Tree}
use Rattle.mu_tree.specs.declared.claim.Kind.TheVariants.{E}
use Rattle.mu_tree.specs.declared.claim.TypedVar.{TypedVar}
use Rattle.mu_decl.specs.Contexts.{World}
use Rattle.mu_decl.specs.Formation.{is_formed, expression}
use Rattle.mu_decl.specs.Claims.{scope_of, types_formed, type_occurrences, all_occurrences}
use Rattle.mu_check.specs.declared.cause.Cause.{Cause}
use Rattle.mu_check.specs.declared.cause.Cause.TheVariants.{ShadowedVariable, IllFormedBox, ForeignMeta}
use Rattle.mu_check.specs.declared.allowed.Allowed.{Allowed}
use Rattle.mu_check.specs.Metas.{are_known}
use Rattle.mu_check.specs.Causes.{test}

-- whether a variable has the name of one in scope
abbrev pub shadows : List (List ℕ) → TypedVar → Bool
shadows scope v = is_among scope v.name

-- whether the types are well formed, each in the scope of the variables before it, and the assumptions in that of all
abbrev pub block_formed : World → Allowed → List (List ℕ) → List TypedVar → List Tree → Bool
block_formed w allowed scope vars trees = types_formed w allowed.seen (map expression scope) vars && list_all (is_formed w allowed.seen (map expression scope ++ scope_of vars) E) trees

-- a block: it shadows nothing, it is well formed, and its metavariables are those of the proof's claim
abbrev pub block_cause : World → Allowed → List (List ℕ) → List TypedVar → List Tree → Option Cause
block_cause w allowed scope vars trees =
    test (not (list_any (shadows scope) vars)) ShadowedVariable
    (test (block_formed w allowed scope vars trees) IllFormedBox
    (test (are_known allowed.metas (flat_map (type_occurrences w) vars ++ all_occurrences w trees)) ForeignMeta
    None))
