-- What may be cited stays so until a block is left.
use Rattle.std.proofs.Common.{◌≡◌, ℕ, List, [], ◌∷◌, ◌++◌, take, length, ap, refl, sym, ◌∙◌}
use Rattle.std.specs.Prelude.{Option, Some, None}
use Rattle.std.proofs.lemmas.List.{append_assoc, append-nil}
use Rattle.std.proofs.Math.Seq.{take-append_seam}
use Rattle.mu_tree.specs.declared.trees.Tree.{Tree}
use Rattle.mu_tree.specs.declared.claim.TypedVar.{TypedVar}
use Rattle.mu_decl.specs.Claims.{names_of}
use Rattle.mu_check.specs.declared.fact.Fact.{Fact}
use Rattle.mu_check.specs.declared.environments.Environment.{Environment}
use Rattle.mu_check.specs.Facts.{closed}
use Rattle.mu_check.specs.Environments.{with_item, within, extent_of, left, Keeps}
use Rattle.mu_check.specs.Verdicts.{with_block}

env_same : (a b : Environment) → a.scope ≡ b.scope → a.hyps ≡ b.hyps → a.blocks ≡ b.blocks → a.items ≡ b.items → a ≡ b
env_same a b s h x i = λ j. record { scope = s j; hyps = h j; blocks = x j; items = i j }

-- going back to where a block was entered
pub left_back : (l : List ℕ) (vars : List TypedVar) (trees : List Tree) (env later : Environment) → Keeps (within l vars trees env) later → left (extent_of env) later ≡ env
left_back l vars trees env later k =
    let scope : take (length env.scope) later.scope ≡ env.scope = ap (take (length env.scope)) k.scope ∙ take-append_seam env.scope (names_of vars) in
    let blocks : take (length env.blocks) later.blocks ≡ env.blocks = ap (take (length env.blocks)) k.blocks ∙ take-append_seam env.blocks _ in
    let items : take (length env.items) later.items ≡ env.items = ap (take (length env.items)) k.items ∙ take-append_seam env.items k.more in
    env_same (left (extent_of env) later) env scope k.hyps blocks items

pub keeps_item : (l : List ℕ) (f : Fact) (env : Environment) → Keeps env (with_item l f env)
keeps_item l f env = record { scope = refl; hyps = refl; blocks = refl; more = record { label = l; gives = f } ∷ []; items = refl }

pub keeps_all : (env : Environment) → Keeps env env
keeps_all env = record { scope = refl; hyps = refl; blocks = refl; more = []; items = sym (append-nil env.items) }

pub keeps_block : (l : List ℕ) (vars : List TypedVar) (trees : List Tree) (o : Option Tree) (env : Environment) → Keeps env (with_block l vars trees o env)
keeps_block l vars trees None env = keeps_all env
keeps_block l vars trees (Some t) env = keeps_item l (closed env.scope vars trees t) env

pub keeps_more : (a b c : Environment) → Keeps a b → Keeps b c → Keeps a c
keeps_more a b c p q = record {
  scope = q.scope ∙ p.scope;
  hyps = q.hyps ∙ p.hyps;
  blocks = q.blocks ∙ p.blocks;
  more = p.more ++ q.more;
  items = q.items ∙ ap (λ x. x ++ q.more) p.items ∙ append_assoc a.items p.more q.more;
}
