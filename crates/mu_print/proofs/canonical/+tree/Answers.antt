use Rattle.std.proofs.Common.{◌≡◌, ◌++◌, [], ◌∷◌, map, rules}
use Rattle.mu_tree.specs.declared.trees.Tree.TheVariants as tree
use Rattle.mu_print.specs.Canonical.{tree_text}
use Rattle.mu_print.specs.Texts.{surrounded}
use Rattle.mu_print.proofs.PrintingTrees.{text-call}
use Rattle.mu_print.proofs.canonical.+tree.Goals as goal
use Rattle.mu_print.proofs.canonical.+tree.Goals.{application-in_default-via-then-arguments-lt1, application-in_default-via-else-arguments-lt1+else-arguments-lt2+else-arguments-lt3}

pub application-returns-in_default : goal.application-returns-in_default
application-returns-in_default t c =
    let e : tree_text (tree.App c.args.name.now c.args.arguments.now) ≡ c.args.name.now ++ surrounded (40 ∷ []) (44 ∷ 32 ∷ []) (41 ∷ []) (map tree_text c.args.arguments.now) =
    elim c.in_default.branch [
      | application-in_default-via-then-arguments-lt1 w ↦ text-call c.args.name.now c.args.arguments.now (search rules) (search rules)
      | application-in_default-via-else-arguments-lt1+else-arguments-lt2+else-arguments-lt3 w ↦ text-call c.args.name.now c.args.arguments.now (search rules) (search rules)
    ] in
    search rules
