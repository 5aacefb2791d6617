-- Where the names of the tokens are within the limit and no tree passes one, what was read is what is meant.
use Rattle.std.proofs.Common.{◌≡◌, ℕ, ◌-◌, Bool, true, false, List, [], ◌∷◌, ◌++◌, Option, Some, None, map, refl, ap, sym, ◌∙◌, subst}
use Rattle.std.specs.Prelude.{codes, ◌&&◌}
use Rattle.std.specs.List.{AllByRecursion, list_all}
use Rattle.std.specs.Option.{option_map, option_map_or}
use Rattle.std.proofs.lemmas.Bool.{and_parts}
use Rattle.mu_tree.specs.Names.{is_name, is_short, IsName}
use Rattle.mu_tree.specs.declared.claim.Hyp.{Hyp}
use Rattle.mu_tree.specs.declared.claim.Hyp.TheVariants as hyp
use Rattle.mu_tree.specs.declared.claim.Claim.{Claim}
use Rattle.mu_tree.specs.declared.claim.TypedVar.{TypedVar}
use Rattle.mu_tree.specs.declared.why.Ref.{Ref}
use Rattle.mu_tree.specs.declared.why.Ref.TheVariants as ref
use Rattle.mu_tree.specs.declared.why.Given.{Given}
use Rattle.mu_tree.specs.declared.why.Why.TheVariants as why
use Rattle.mu_grammar.specs.declared.symbol.Word.{Word}
use Rattle.mu_grammar.specs.declared.symbol.Word.TheVariants.{Plain, Dotted, True, Meta, Place}
use Rattle.mu_grammar.specs.declared.symbol.Mark.{Mark}
use Rattle.mu_grammar.specs.declared.symbol.Mark.TheVariants.{And, Or, Not, Comma, Semicolon, OpenBracket, CloseBracket, Open, Close, CloseBrace, Dot, Becomes, Bar, Turnstile, Arrow}
use Rattle.mu_grammar.specs.Lexemes.{Lexeme, word, mark}
use Rattle.mu_grammar.specs.Parts.{More, Separated, StandsEach}
use Rattle.mu_grammar.specs.SimpleParts.{plain_name_of, name_of, var_of, meta_of, PlainName, AnyName, VarName, SomeVars, StandsName}
use Rattle.mu_grammar.specs.Groups.{Any, Behind, Bracketed, Enclosed, Optional, StandsOptional, Formals}
use Rattle.mu_grammar.specs.Writings.{Writing, Writings, leaf, apply, bind, paren, neg, bin, one, more, tokens, tokens_of, closer, is_head, Fits, FitsAll, Short, ShortAll, tree_of}
use Rattle.mu_grammar.specs.Trees.{OneTree}
use Rattle.mu_grammar.specs.References.{IsReference, SomeReferences, StandsReference}
use Rattle.mu_grammar.specs.Blocks.{TypedWriting, IsTyped, SomeTyped, IsBlock, StandsTyped, StandsBlock, typed_of, block_of, trees_in_typed, trees_in_block}
use Rattle.mu_grammar.specs.Claims.{Hypothesis, plain, sequent, IsHypothesis, Claims, IsClaim, StandsHypothesis, StandsClaim, hyp_of, claim_of, trees_in_hypothesis, trees_in_claim}
use Rattle.mu_grammar.specs.Reasons.{AbstractionWriting, IsAbstraction, StandsAbstraction, given_of, trees_in_abstraction, by_rule, by_hypothesis, by_definition, by_same, Led, IsReason, StandsReason, why_of, trees_in_reason}
use Rattle.mu_grammar.specs.Heads.{IsStates, IsResult, IsRest, IsHead, StandsStates, StandsHead, head_of, trees_in_result, trees_in_head}
use Rattle.mu_grammar.specs.Declarations.{IsDeclaration, StandsDeclaration}
use Rattle.mu_grammar.specs.Excesses.{excess_of, no_excess, in_each, one_tree, StandsTree}
use Rattle.mu_grammar.specs.Limits.{is_within, WithinToken, WithinTokens, KeepsNames, IsMeant, no_trees}
use Rattle.mu_text.proofs.Complete.{binder_head}
use Rattle.mu_text.proofs.Excesses.{all_parts, none_together, tree_kept}

and_within : IsName (codes "and")
and_within = record { spelled = refl; short = refl }

or_within : IsName (codes "or")
or_within = record { spelled = refl; short = refl }

not_within : IsName (codes "not")
not_within = record { spelled = refl; short = refl }

move : (name text : List ℕ) → Some name ≡ Some text → IsName name → IsName text
move name text e h = let i : name ≡ text = cc in subst IsName i h

plain_within : (T : Lexeme) (text : List ℕ) → plain_name_of T ≡ Some text → WithinToken T → IsName text
plain_within (word Plain name) text e h = move name text e h
plain_within (word True name) text e h = move name text e h
plain_within (word _ name) text e h = cc
plain_within (mark And) text e h = move (codes "and") text e and_within
plain_within (mark Or) text e h = move (codes "or") text e or_within
plain_within (mark Not) text e h = move (codes "not") text e not_within
plain_within (mark _) text e h = cc

name_within : (T : Lexeme) (text : List ℕ) → name_of T ≡ Some text → WithinToken T → IsName text
name_within (word Dotted name) text e h = move name text e h
name_within (word Plain name) text e h = plain_within (word Plain name) text e h
name_within (word True name) text e h = plain_within (word True name) text e h
name_within (word _ name) text e h = cc
name_within (mark m) text e h = plain_within (mark m) text e h

meta_within : (T : Lexeme) (text : List ℕ) → meta_of T ≡ Some text → WithinToken T → IsName text
meta_within (word Meta name) text e h = move name text e h
meta_within (word _ name) text e h = cc
meta_within (mark m) text e h = cc

short_name : (text : List ℕ) → (is_name text && is_short text) ≡ true → IsName text
short_name text e = let parts = and_parts (is_name text) (is_short text) e in record { spelled = parts.0; short = parts.1 }

token_within : (T : Lexeme) → is_within T ≡ true → WithinToken T
token_within (word Place text) e = tt
token_within (word Plain text) e = short_name text e
token_within (word Dotted text) e = short_name text e
token_within (word True text) e = short_name text e
token_within (word Meta text) e = short_name text e
token_within (mark m) e = tt

-- where each token passes the test, each is within the limit
pub tokens_within : (ts : List Lexeme) → list_all is_within ts ≡ true → WithinTokens ts
tokens_within [] e = tt
tokens_within (T ∷ ts) e = let parts = and_parts (is_within T) (list_all is_within ts) e in (token_within T parts.0, tokens_within ts parts.1)

at : {ts us : List Lexeme} → ts ≡ us → WithinTokens ts → WithinTokens us
at e h = subst WithinTokens e h

pub plain_name-keeps : KeepsNames PlainName IsName
plain_name-keeps ts text h g = plain_within g.0 text g.2 (at g.1 h).0

pub name-keeps : KeepsNames AnyName IsName
name-keeps ts text h g = name_within g.0 text g.2 (at g.1 h).0

var_within : (T : Lexeme) (text : List ℕ) → var_of T ≡ Some text → WithinToken T → IsName text
var_within (word Plain name) text e h = move name text e h
var_within (word _ name) text e h = cc
var_within (mark m) text e h = cc

pub var-keeps : KeepsNames VarName IsName
var-keeps ts text h g = var_within g.0 text g.2 (at g.1 h).0

head_within : (head : Word) (name : List ℕ) → is_head head ≡ true → WithinToken (word head name) → IsName name
head_within Place name e h = cc
head_within _ name e h = h

mutual
  short_tree : (w : Writing) (n : ℕ) → Fits n w → WithinTokens (tokens w) → Short w
  short_tree (leaf head name) n f h = head_within head name f h.0
  short_tree (apply head name ws) n f h = (head_within head name f.0 h.0, short_trees ws (n - 1) f.2 (all_parts WithinToken (tokens_of ws) (closer head ∷ []) h.1.1).0)
  short_tree (bind head name v d b) n f h =
      let dom = all_parts WithinToken (tokens d) (mark Dot ∷ (tokens b ++ mark CloseBrace ∷ [])) h.1.1.1.1 in
      (head_within head name (binder_head head f.0) h.0, h.1.1.0, short_tree d (n - 1) f.2 dom.0, short_tree b (n - 1) f.3 (all_parts WithinToken (tokens b) (mark CloseBrace ∷ []) dom.1.1).0)
  short_tree (paren w) n f h = short_tree w (n - 1) f.1 (all_parts WithinToken (tokens w) (mark Close ∷ []) h.1).0
  short_tree (neg w) n f h = short_tree w (n - 1) f.2 h.1
  short_tree (bin item o a b) n f h =
      let parts = all_parts WithinToken (tokens a) (item ∷ tokens b) h in
      (short_tree a n f.2 parts.0, short_tree b (n - o.opens) f.5 parts.1.1)

  short_trees : (ws : Writings) (n : ℕ) → FitsAll n ws → WithinTokens (tokens_of ws) → ShortAll ws
  short_trees (one w) n f h = short_tree w n f h
  short_trees (more w ws) n f h =
      let parts = all_parts WithinToken (tokens w) (mark Comma ∷ tokens_of ws) h in
      (short_tree w n f.0 parts.0, short_trees ws n f.1 parts.1.1)

pub tree-keeps : KeepsNames OneTree Short
tree-keeps ts w h g = short_tree w 400 g.0 (at (sym g.1) h)

pub tree-meant : IsMeant OneTree one_tree StandsTree tree_of
tree-meant ts w t h g e s = s (tree_kept w (tree-keeps ts w h g) e)

module _ {A B : Type 0} (G : List Lexeme → A → Type 0) (P : A → Type 0) (S : A → B → Type 0) (meant : A → B)
    (each : (ts : List Lexeme) (x : A) (y : B) → WithinTokens ts → G ts x → P x → S x y → y ≡ meant x) (sign : Mark) where
  more_meant : (ts : List Lexeme) (xs : List A) (ys : List B) → WithinTokens ts → More sign G ts xs → AllByRecursion P xs → StandsEach S xs ys → ys ≡ map meant xs
  more_meant ts [] [] h g p s = refl
  more_meant ts [] (y ∷ ys) h g p s = absurd s
  more_meant ts (x ∷ xs) [] h g p s = absurd s
  more_meant ts (x ∷ xs) (y ∷ ys) h g p s =
      let parts = all_parts WithinToken g.0 g.1 (at g.2 h).1 in
      ap (λ z. z ∷ ys) (each g.0 x y parts.0 g.3 p.0 s.0) ∙ ap (λ zs. meant x ∷ zs) (more_meant g.1 xs ys parts.1 g.4 p.1 s.1)

  separated_meant : (ts : List Lexeme) (xs : List A) (ys : List B) → WithinTokens ts → Separated sign G ts xs → AllByRecursion P xs → StandsEach S xs ys → ys ≡ map meant xs
  separated_meant ts [] ys h g p s = absurd g
  separated_meant ts (x ∷ xs) [] h g p s = absurd s
  separated_meant ts (x ∷ xs) (y ∷ ys) h g p s =
      let parts = all_parts WithinToken g.0 g.1 (at g.2 h) in
      ap (λ z. z ∷ ys) (each g.0 x y parts.0 g.3 p.0 s.0) ∙ ap (λ zs. meant x ∷ zs) (more_meant g.1 xs ys parts.1 g.4 p.1 s.1)

-- items of which there may be none
any_meant : {A B : Type 0} (H : List Lexeme → List A → Type 0) (P : A → Type 0) (S : A → B → Type 0) (meant : A → B)
    → ((ts : List Lexeme) (xs : List A) (ys : List B) → WithinTokens ts → H ts xs → AllByRecursion P xs → StandsEach S xs ys → ys ≡ map meant xs)
    → (ts : List Lexeme) (xs : List A) (ys : List B) → WithinTokens ts → Any H ts xs → AllByRecursion P xs → StandsEach S xs ys → ys ≡ map meant xs
any_meant H P S meant whole ts [] [] h g p s = refl
any_meant H P S meant whole ts [] (y ∷ ys) h g p s = absurd s
any_meant H P S meant whole ts (x ∷ xs) ys h g p s = whole ts (x ∷ xs) ys h g p s

module _ {A B : Type 0} (G : List Lexeme → A → Type 0) (P : A → Type 0) (S : A → B → Type 0) (meant : A → B)
    (each : (ts : List Lexeme) (x : A) (y : B) → WithinTokens ts → G ts x → P x → S x y → y ≡ meant x) (sign : Mark) where
  some_meant : (ts : List Lexeme) (xs : List A) (ys : List B) → WithinTokens ts → Any (Separated sign G) ts xs → AllByRecursion P xs → StandsEach S xs ys → ys ≡ map meant xs
  some_meant = any_meant (Separated sign G) P S meant (separated_meant G P S meant each sign)

  led_meant : (text : List ℕ) (ts : List Lexeme) (xs : List A) (ys : List B) → WithinTokens ts → Led text (Separated sign G) ts xs → AllByRecursion P xs → StandsEach S xs ys → ys ≡ map meant xs
  led_meant text =
      any_meant (Behind text (Separated sign G)) P S meant
      (λ ts xs ys h g p s. separated_meant G P S meant each sign g.1 xs ys (all_parts WithinToken g.0 g.1 (at g.2 h)).1 g.4 p s)

module _ {A B : Type 0} (G : List Lexeme → A → Type 0) (trees : A → List Writing) (S : A → B → Type 0) (meant : A → B) (means : IsMeant G trees S meant) where
  pub behind-meant : (text : List ℕ) → IsMeant (Behind text G) trees S meant
  behind-meant text ts x y h g e s = means g.1 x y (all_parts WithinToken g.0 g.1 (at g.2 h)).1 g.4 e s

  pub optional-meant : IsMeant (Optional G) (λ o. option_map_or trees o []) (StandsOptional S) (option_map meant)
  optional-meant ts (Some x) (Some y) h g e s = ap (λ z. Some z) (means ts x y h g e s)
  optional-meant ts None None h g e s = refl
  optional-meant ts _ _ h g e s = absurd s

-- no tree passes a limit in any of the values
each_none : {A : Type 0} (trees : A → List Writing) (xs : List A) → excess_of (in_each trees xs) ≡ no_excess → AllByRecursion (λ x. excess_of (trees x) ≡ no_excess) xs
each_none trees [] e = tt
each_none trees (x ∷ xs) e = let parts = none_together (trees x) (in_each trees xs) e in (parts.0, each_none trees xs parts.1)

-- nothing is asked of each value
abbrev Nothing : {A : Type 0} → A → Type 0
Nothing x = Unit {0}

no_more : {A : Type 0} (xs : List A) → AllByRecursion Nothing xs
no_more [] = tt
no_more (x ∷ xs) = (tt, no_more xs)

map_same : {A : Type 0} (xs : List A) → map (λ x. x) xs ≡ xs
map_same [] = refl
map_same (x ∷ xs) = ap (λ l. x ∷ l) (map_same xs)

pub plain_name-meant : IsMeant PlainName no_trees StandsName (λ text. text)
plain_name-meant ts text name h g e s = s (plain_name-keeps ts text h g)

pub var-meant : IsMeant VarName no_trees StandsName (λ text. text)
var-meant ts text name h g e s = s (var-keeps ts text h g)

reference_meant : (ts : List Lexeme) (r kept : Ref) → WithinTokens ts → IsReference ts r → Nothing r → StandsReference r kept → kept ≡ r
reference_meant ts (ref.Item label) (ref.Item kept) h g p s = ap ref.Item (s (plain_name-keeps ts label h g))
reference_meant ts (ref.Assumption label n) (ref.Assumption kept number) h g p s =
    let front = (all_parts WithinToken g.0 g.1 (at g.2 h)).0 in
    ap (λ l. ref.Assumption l number) (s.0 (plain_name-keeps g.0 label front g.3)) ∙ ap (ref.Assumption label) s.1
reference_meant ts (ref.Hypothesis n) (ref.Hypothesis number) h g p s = ap ref.Hypothesis s
reference_meant ts (ref.Item label) _ h g p s = absurd s
reference_meant ts (ref.Assumption label n) _ h g p s = absurd s
reference_meant ts (ref.Hypothesis n) _ h g p s = absurd s

pub typed-meant : IsMeant IsTyped trees_in_typed StandsTyped typed_of
typed-meant ts x v h g e s =
    let k = at g.1 h in
    ap (λ n. record { name = n; ty = v.ty }) (s.0 k.0) ∙ ap (λ t. record { name = x.name; ty = t }) (tree-meant g.0 x.type v.ty k.1.1 g.2 e s.1)

typed_vars_meant : (ts : List Lexeme) (xs : List TypedWriting) (vs : List TypedVar) → WithinTokens ts → Any SomeTyped ts xs → excess_of (in_each trees_in_typed xs) ≡ no_excess → StandsEach StandsTyped xs vs → vs ≡ map typed_of xs
typed_vars_meant ts xs vs h g e s =
    some_meant IsTyped (λ x. excess_of (trees_in_typed x) ≡ no_excess) StandsTyped typed_of typed-meant Comma ts xs vs h g (each_none trees_in_typed xs e) s

pub block-meant : IsMeant IsBlock trees_in_block StandsBlock block_of
block-meant ts x y h g e s =
    let parts = all_parts WithinToken g.0 (mark Bar ∷ g.1) (at g.2 h) in
    let none = none_together (in_each trees_in_typed x.vars) (in_each one_tree x.assumptions) e in
    ap (λ vars. (vars, y.1)) (typed_vars_meant g.0 x.vars y.0 parts.0 g.3 none.0 s.0)
    ∙ ap (λ trees. (map typed_of x.vars, trees))
    (some_meant OneTree (λ w. excess_of (one_tree w) ≡ no_excess) StandsTree tree_of tree-meant Comma g.1 x.assumptions y.1 parts.1.1 g.4 (each_none one_tree x.assumptions none.1) s.1)

hypothesis_meant : (ts : List Lexeme) (h : Hypothesis) (y : Hyp) → WithinTokens ts → IsHypothesis ts h → excess_of (trees_in_hypothesis h) ≡ no_excess → StandsHypothesis h y → y ≡ hyp_of h
hypothesis_meant ts (plain w) (hyp.Plain tree) h g e s = ap hyp.Plain (tree-meant ts w tree h g e s)
hypothesis_meant ts (plain w) _ h g e s = absurd s
hypothesis_meant ts (sequent x w) (hyp.Sequent vars premises upshot) h g e s =
    let parts = all_parts WithinToken g.0 (mark Turnstile ∷ (g.1 ++ (mark CloseBrace ∷ []))) (at g.2 h).1 in
    let behind = all_parts WithinToken g.1 (mark CloseBrace ∷ []) parts.1.1 in
    let none = none_together (trees_in_block x) (one_tree w) e in
    ap (λ k. hyp.Sequent k.0 k.1 upshot) (block-meant g.0 x (vars, premises) parts.0 g.3 none.0 s.0)
    ∙ ap (hyp.Sequent (block_of x).0 (block_of x).1) (tree-meant g.1 w upshot behind.0 g.4 none.1 s.1)
hypothesis_meant ts (sequent x w) _ h g e s = absurd s

claims_meant : (ts : List Lexeme) (hs : List Hypothesis) (w : Writing) (y : Claim) → WithinTokens ts → Claims ts hs w → excess_of (in_each trees_in_hypothesis hs) ≡ no_excess → excess_of (one_tree w) ≡ no_excess
    → StandsEach StandsHypothesis hs y.hyps → StandsTree w y.conclusion → (y.hyps ≡ map hyp_of hs) × (y.conclusion ≡ tree_of w)
claims_meant ts [] w y h g e i s t = (none y.hyps s, tree-meant ts w y.conclusion h g i t)
  where
    none : (ys : List Hyp) → StandsEach StandsHypothesis [] ys → ys ≡ []
    none [] s = refl
    none (z ∷ zs) s = absurd s
claims_meant ts (x ∷ xs) w y h g e i s t =
    let parts = all_parts WithinToken g.0 (mark Turnstile ∷ g.1) (at g.2 h) in (
      separated_meant IsHypothesis (λ x. excess_of (trees_in_hypothesis x) ≡ no_excess) StandsHypothesis hyp_of hypothesis_meant Semicolon g.0 (x ∷ xs) y.hyps parts.0 g.3 (each_none trees_in_hypothesis (x ∷ xs) e) s,
      tree-meant g.1 w y.conclusion parts.1.1 g.4 i t,
    )

pub claim-meant : IsMeant IsClaim trees_in_claim StandsClaim claim_of
claim-meant ts x y h g e s =
    let none = none_together (in_each trees_in_hypothesis x.hyps) (one_tree x.conclusion) e in
    let parts = claims_meant ts x.hyps x.conclusion y h g none.0 none.1 s.0 s.1 in
    ap (λ hs. record { hyps = hs; conclusion = y.conclusion }) parts.0 ∙ ap (λ t. record { hyps = map hyp_of x.hyps; conclusion = t }) parts.1

parameter_meant : (ts : List Lexeme) (text name : List ℕ) → WithinTokens ts → VarName ts text → Nothing text → StandsName text name → name ≡ text
parameter_meant ts text name h g p s = s (var-keeps ts text h g)

bracketed_vars_meant : (left right : Mark) (ts : List Lexeme) (xs ys : List (List ℕ)) → WithinTokens ts → Bracketed left right SomeVars ts xs → StandsEach StandsName xs ys → ys ≡ xs
bracketed_vars_meant left right ts xs ys h g s =
    any_meant (Enclosed left right SomeVars) Nothing StandsName (λ x. x)
    (λ us names kept k f p t.
    separated_meant VarName Nothing StandsName (λ x. x) parameter_meant Comma f.0 names kept (all_parts WithinToken f.0 (mark right ∷ []) (at f.1 k).1).0 f.2 p t)
    ts xs ys h g (no_more xs) s
    ∙ map_same xs

pub formals-meant : IsMeant Formals no_trees (StandsEach StandsName) (λ names. names)
formals-meant ts xs ys h g e s = bracketed_vars_meant Open Close ts xs ys h g s

abstraction_meant : (ts : List Lexeme) (x : AbstractionWriting) (y : Given) → WithinTokens ts → IsAbstraction ts x → excess_of (trees_in_abstraction x) ≡ no_excess → StandsAbstraction x y → y ≡ given_of x
abstraction_meant ts x y h g e s =
    let k = at g.2 h in
    let parts = all_parts WithinToken g.0 (mark Becomes ∷ g.1) k.1 in
    ap (λ m. record { meta = m; params = y.params; body = y.body }) (s.0 k.0)
    ∙ (ap (λ ps. record { meta = x.meta; params = ps; body = y.body }) (bracketed_vars_meant OpenBracket CloseBracket g.0 x.params y.params parts.0 g.3 s.1)
    ∙ ap (λ t. record { meta = x.meta; params = x.params; body = t }) (tree-meant g.1 x.body y.body parts.1.1 g.4 e s.2))

references_meant : (ts : List Lexeme) (refs kept : List Ref) → WithinTokens ts → Led (codes "from") SomeReferences ts refs → StandsEach StandsReference refs kept → kept ≡ refs
references_meant ts refs kept h g s = led_meant IsReference Nothing StandsReference (λ r. r) reference_meant Comma (codes "from") ts refs kept h g (no_more refs) s ∙ map_same refs

morphism_meant : (ts : List Lexeme) (via kept : Option (List ℕ)) → WithinTokens ts → Optional (Behind (codes "via") PlainName) ts via → StandsOptional StandsName via kept → kept ≡ via
morphism_meant ts via kept h g s =
    optional-meant (Behind (codes "via") PlainName) no_trees StandsName (λ text. text) (behind-meant PlainName no_trees StandsName (λ text. text) plain_name-meant (codes "via")) ts via kept h g (none via) s ∙ same via
  where
    none : (o : Option (List ℕ)) → excess_of (option_map_or no_trees o []) ≡ no_excess
    none None = refl
    none (Some text) = refl

    same : (o : Option (List ℕ)) → option_map (λ text. text) o ≡ o
    same None = refl
    same (Some text) = refl

pub reason-meant : IsMeant IsReason trees_in_reason StandsReason why_of
reason-meant ts (by_rule name via refs inst) (why.Rule rule morphism kept given) h g e s =
    let first = all_parts WithinToken g.0 (g.1 ++ (g.2 ++ (g.3 ++ g.4))) (at g.5 h) in
    let second = all_parts WithinToken g.1 (g.2 ++ (g.3 ++ g.4)) first.1 in
    let third = all_parts WithinToken g.2 (g.3 ++ g.4) second.1 in
    let fourth = all_parts WithinToken g.3 g.4 third.1 in
    ap (λ n. why.Rule n morphism kept given) (s.0 (name-keeps g.1 name second.0 g.7))
    ∙ (ap (λ m. why.Rule name m kept given) (morphism_meant g.2 via morphism third.0 g.8 s.1)
    ∙ (ap (λ r. why.Rule name via r given) (references_meant g.3 refs kept fourth.0 g.9 s.2)
    ∙ ap (why.Rule name via refs)
    (led_meant IsAbstraction (λ x. excess_of (trees_in_abstraction x) ≡ no_excess) StandsAbstraction given_of abstraction_meant Semicolon (codes "with") g.4 inst given fourth.1 g.10 (each_none trees_in_abstraction inst e) s.3)))
reason-meant ts (by_hypothesis n terms refs) (why.Hypothesis number trees kept) h g e s =
    let first = all_parts WithinToken g.0 (g.1 ++ (g.2 ++ g.3)) (at g.4 h) in
    let second = all_parts WithinToken g.1 (g.2 ++ g.3) first.1 in
    let third = all_parts WithinToken g.2 g.3 second.1 in
    ap (λ k. why.Hypothesis k trees kept) s.0
    ∙ (ap (λ ws. why.Hypothesis n ws kept)
    (led_meant OneTree (λ w. excess_of (one_tree w) ≡ no_excess) StandsTree tree_of tree-meant Comma (codes "with") g.2 terms trees third.0 g.7 (each_none one_tree terms e) s.1)
    ∙ ap (why.Hypothesis n (map tree_of terms)) (references_meant g.3 refs kept third.1 g.8 s.2))
reason-meant ts (by_definition constant on) (why.Definition name reference) h g e s =
    let first = all_parts WithinToken g.0 (g.1 ++ (g.2 ++ g.3)) (at g.4 h) in
    let second = all_parts WithinToken g.1 (g.2 ++ g.3) first.1 in
    let third = all_parts WithinToken g.2 g.3 second.1 in
    ap (λ c. why.Definition c reference) (s.0 (name-keeps g.1 constant second.0 g.6)) ∙ ap (why.Definition constant) (reference_meant g.3 on reference third.1 g.8 tt s.1)
reason-meant ts (by_same on) (why.Same reference) h g e s = ap why.Same (reference_meant g.1 on reference (all_parts WithinToken g.0 g.1 (at g.2 h)).1 g.4 tt s)
reason-meant ts (by_rule name via refs inst) _ h g e s = absurd s
reason-meant ts (by_hypothesis n terms refs) _ h g e s = absurd s
reason-meant ts (by_definition constant on) _ h g e s = absurd s
reason-meant ts (by_same on) _ h g e s = absurd s

result_meant : (ts : List Lexeme) (result : Option TypedWriting) (kept : Option TypedVar) → WithinTokens ts → Optional IsResult ts result → excess_of (trees_in_result result) ≡ no_excess → StandsOptional StandsTyped result kept
    → kept ≡ option_map typed_of result
result_meant = optional-meant IsResult trees_in_typed StandsTyped typed_of (behind-meant IsTyped trees_in_typed StandsTyped typed_of typed-meant (codes "result"))

states_meant : (ts : List Lexeme) (states kept : List ℕ × List ℕ) → WithinTokens ts → IsStates ts states → StandsStates states kept → kept ≡ states
states_meant ts states kept h g s =
    let parts = all_parts WithinToken g.0 g.1 (at g.2 h) in
    let means = behind-meant VarName no_trees StandsName (λ text. text) var-meant in
    ap (λ old. (old, kept.1)) (means (codes "old") g.0 states.0 kept.0 parts.0 g.3 refl s.0) ∙ ap (λ new. (states.0, new)) (means (codes "new") g.1 states.1 kept.1 parts.1 g.4 refl s.1)

rest_meant : (op : Bool) (ts : List Lexeme) (states kept : Option (List ℕ × List ℕ)) (result : Option TypedWriting) (given : Option TypedVar) → WithinTokens ts → IsRest op ts states result → excess_of (trees_in_result result) ≡ no_excess
    → StandsOptional StandsStates states kept → StandsOptional StandsTyped result given → (kept ≡ states) × (given ≡ option_map typed_of result)
rest_meant true ts (Some states) (Some kept) result given h g e s t =
    let parts = all_parts WithinToken g.0 g.1 (at g.2 h) in
    (ap (λ k. Some k) (states_meant g.0 states kept parts.0 g.3 s), result_meant g.1 result given parts.1 g.4 e t)
rest_meant true ts (Some states) None result given h g e s t = absurd s
rest_meant true ts None kept result given h g e s t = absurd g
rest_meant false ts None None (Some result) given h g e s t = (refl, result_meant ts (Some result) given h g e t)
rest_meant false ts None (Some kept) (Some result) given h g e s t = absurd s
rest_meant false ts None kept None given h g e s t = absurd g
rest_meant false ts (Some states) kept result given h g e s t = absurd g

pub head-meant : (op : Bool) → IsMeant (IsHead op) trees_in_head StandsHead head_of
head-meant op ts x y h g e s =
    let first = all_parts WithinToken g.0 (g.1 ++ g.2) (at g.3 h) in
    let second = all_parts WithinToken g.1 g.2 first.1 in
    let inside = all_parts WithinToken g.5.0 (mark Close ∷ []) (at g.5.1 second.0).1 in
    let none = none_together (in_each trees_in_typed x.inputs) (trees_in_result x.result) e in
    let rest = rest_meant op g.2 x.states y.1.states x.result y.1.result second.1 g.6 none.1 s.2 s.3 in
    ap (λ n. (n, y.1)) (s.0 (plain_name-keeps g.0 x.name first.0 g.4))
    ∙ (ap (λ vars. (x.name, record { inputs = vars; states = y.1.states; result = y.1.result })) (typed_vars_meant g.5.0 x.inputs y.1.inputs inside.0 g.5.2 none.0 s.1)
    ∙ (ap (λ states. (x.name, record { inputs = map typed_of x.inputs; states = states; result = y.1.result })) rest.0
    ∙ ap (λ result. (x.name, record { inputs = map typed_of x.inputs; states = x.states; result = result })) rest.1))

pub declaration-meant : IsMeant IsDeclaration no_trees StandsDeclaration (λ d. d)
declaration-meant ts d y h g e s =
    let parts = all_parts WithinToken g.0 (g.1 ++ (mark Arrow ∷ g.2)) (at g.3 h) in
    ap (λ n. record { name = n; shape = y.shape; result = y.result }) (s.0 (plain_name-keeps g.0 d.name parts.0 g.4))
    ∙ (ap (λ k. record { name = d.name; shape = k; result = y.result }) s.1 ∙ ap (λ k. record { name = d.name; shape = d.shape; result = k }) s.2)
