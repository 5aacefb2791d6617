-- No opening parenthesis of a canonical writing can be left out.
use Rattle.std.proofs.Common.{◌≡◌, ℕ, ◌+◌, ◌-◌, ◌≤◌, Bool, true, false, List, [], ◌∷◌, ◌++◌, Option, Some, None, map, refl, ap, sym, ◌∙◌, subst, arith}
use Rattle.std.specs.Prelude.{if◌then◌else◌, nat_le}
use Rattle.std.proofs.lemmas.Bool.Decides.{nat_tests}
use Rattle.mu_tree.specs.declared.trees.Tree.{Tree}
use Rattle.mu_tree.specs.declared.trees.Tree.TheVariants as tree
use Rattle.mu_grammar.specs.declared.ops.Op.{Op}
use Rattle.mu_grammar.specs.declared.symbol.Word.{Word}
use Rattle.mu_grammar.specs.declared.symbol.Word.TheVariants.{Plain, Dotted, True, Meta, Place}
use Rattle.mu_grammar.specs.declared.symbol.Mark.TheVariants.{And, Or, Not, Iff, Imp, Eq, Colon, Open, Close, CloseBrace, Comma, Dot}
use Rattle.mu_grammar.specs.Lexemes.{Lexeme, word, mark, name_word}
use Rattle.mu_grammar.specs.Ops.{binary, constant_of, is_negation, operator_named, prefix_level, atom_level}
use Rattle.mu_grammar.specs.Writings.{Writing, Writings, leaf, apply, bind, paren, neg, bin, one, more, level, opener, closer, tokens, tokens_of, made, tree_of, trees_of, Fits, FitsAll}
use Rattle.mu_print.specs.Canonical.{at_least, together, headed, with_one, with_two, applied, canonical}
use Rattle.mu_print.specs.Laws.{ParenthesesAreNeeded}
use Rattle.mu_print.proofs.Canon.{Row, rows_of, canonical-app, canonical-meta, canonical-bind, name_case}
use Rattle.mu_print.proofs.Words.{named_of, canonical-bin, canonical-neg}

-- a word costs two, an opening parenthesis one, and any other mark nothing: so an operator with three pairs of parentheses costs no more than its constant with arguments
abbrev cost_of : Lexeme → ℕ
cost_of (word s x) = 2
cost_of (mark Open) = 1
cost_of (mark m) = 0

abbrev cost : List Lexeme → ℕ
cost [] = 0
cost (item ∷ items) = cost_of item + cost items

cost-append : (xs ys : List Lexeme) → cost (xs ++ ys) ≡ cost xs + cost ys
cost-append [] ys = omega arith
cost-append (x ∷ xs) ys = let i : cost (xs ++ ys) ≡ cost xs + cost ys = cost-append xs ys in omega arith

abbrev price : Writing → ℕ
price w = cost (tokens w)

abbrev prices : Writings → ℕ
prices ws = cost (tokens_of ws)

-- the prices of some writings together
abbrev total : List Writing → ℕ
total [] = 0
total (w ∷ ws) = price w + total ws

price-apply : (s : Word) (x : List ℕ) (ws : Writings) → price (apply s x ws) ≡ 2 + (cost_of (opener s) + (prices ws + (cost_of (closer s) + 0)))
price-apply s x ws = ap (λ n. 2 + (cost_of (opener s) + n)) (cost-append (tokens_of ws) (closer s ∷ []))

closer_free : (s : Word) → cost_of (closer s) ≡ 0
closer_free Meta = refl
closer_free Place = refl
closer_free Plain = refl
closer_free Dotted = refl
closer_free True = refl

price-bind : (s : Word) (x v : List ℕ) (d b : Writing) → price (bind s x v d b) ≡ price d + price b + 4
price-bind s x v d b =
    let i : cost (tokens d ++ (mark Dot ∷ (tokens b ++ mark CloseBrace ∷ []))) ≡ price d + (0 + cost (tokens b ++ mark CloseBrace ∷ [])) = cost-append (tokens d) (mark Dot ∷ (tokens b ++ mark CloseBrace ∷ [])) in
    let j : cost (tokens b ++ mark CloseBrace ∷ []) ≡ price b + 0 = cost-append (tokens b) (mark CloseBrace ∷ []) in
    omega arith

price-paren : (w : Writing) → price (paren w) ≡ price w + 1
price-paren w = let i : cost (tokens w ++ mark Close ∷ []) ≡ price w + 0 = cost-append (tokens w) (mark Close ∷ []) in omega arith

price-neg : (w : Writing) → price (neg w) ≡ price w
price-neg w = omega arith

price-bin : (item : Lexeme) (o : Op) (a b : Writing) → price (bin item o a b) ≡ price a + (cost_of item + price b)
price-bin item o a b = cost-append (tokens a) (item ∷ tokens b)

prices-more : (w : Writing) (ws : Writings) → prices (more w ws) ≡ price w + prices ws
prices-more w ws = let i : cost (tokens w ++ (mark Comma ∷ tokens_of ws)) ≡ price w + (0 + prices ws) = cost-append (tokens w) (mark Comma ∷ tokens_of ws) in omega arith

prices-together : (w : Writing) (ws : List Writing) → prices (together w ws) ≡ price w + total ws
prices-together w [] = omega arith
prices-together w (v ∷ vs) = prices-more w (together v vs) ∙ (let i : prices (together v vs) ≡ price v + total vs = prices-together v vs in omega arith)

-- parentheses cost at most one
at_least_costs : (least : ℕ) (w : Writing) → price (at_least least w) ≤ price w + 1
at_least_costs least w = by (nat_le least (level w))
  where
    by : (b : Bool) → price (if b then w else paren w) ≤ price w + 1
    by true = omega arith
    by false = let i : price (paren w) ≡ price w + 1 = price-paren w in omega arith

-- and nothing where the level is enough
at_least_bare : (least : ℕ) (w : Writing) → least ≤ level w → at_least least w ≡ w
at_least_bare least w h = let e : nat_le least (level w) ≡ true = grind (arith, nat_tests) in ap (λ b. if b then w else paren w) e

-- the price of a writing of enough level, where another is known to be it
via : (c d : Writing) → c ≡ d → (least p : ℕ) → least ≤ level d → price d ≤ p → price (at_least least c) ≤ p
via c d e least p h i = subst (λ (v : Writing). price (at_least least v) ≤ p) (sym e) (let f : price (at_least least d) ≡ price d = ap (λ v. price v) (at_least_bare least d h) in omega arith)

opener_name : (x : List ℕ) → cost_of (opener (name_word x)) ≡ 1
opener_name x = name_case x (λ s. cost_of (opener s) ≡ 1) refl refl refl

price-headed : (s : Word) (x : List ℕ) (w : Writing) (ws : List Writing) → price (apply s x (together w ws)) ≡ 2 + cost_of (opener s) + (price w + total ws)
price-headed s x w ws =
    let i = price-apply s x (together w ws) in
    let j = prices-together w ws in
    let k = closer_free s in
    omega arith

operator_free : (item : Lexeme) (o : Op) → binary item ≡ Some o → cost_of item ≡ 0
operator_free (mark Iff) o e = refl
operator_free (mark Imp) o e = refl
operator_free (mark Or) o e = refl
operator_free (mark And) o e = refl
operator_free (mark Eq) o e = refl
operator_free (mark Colon) o e = refl
operator_free (word s x) o e = cc
operator_free (mark _) o e = cc

-- the mark of an operator costs nothing
operator_free_of : (item : Lexeme) (o : Op) → binary item ≡ Some o → cost_of (mark o.mark) ≡ 0
operator_free_of item o e = let row : Row (constant_of o.mark) o = rows_of (constant_of o.mark) o (named_of item o e) in operator_free (mark o.mark) o row.is_row

named_costs : (x : List ℕ) (w : Writing) (ws : List Writing) (least : ℕ) → least ≤ atom_level → price (at_least least (apply (name_word x) x (together w ws))) ≤ 3 + (price w + total ws)
named_costs x w ws least h =
    let i = price-headed (name_word x) x w ws in
    let j = opener_name x in
    via (apply (name_word x) x (together w ws)) (apply (name_word x) x (together w ws)) refl least (3 + (price w + total ws)) h (omega arith)

one_costs : (x : List ℕ) (a : Writing) (b : Bool) (least : ℕ) → least ≤ atom_level → price (at_least least (with_one x a b)) ≤ 3 + (price a + 0)
one_costs x a true least h =
    let i = at_least_costs least (neg (at_least prefix_level a)) in
    let j = at_least_costs prefix_level a in
    let k = price-neg (at_least prefix_level a) in
    omega arith
one_costs x a false least h = named_costs x a [] least h

two_costs : (x : List ℕ) (a b : Writing) (r : Option Op) → ((o : Op) → r ≡ Some o → Row x o) → (least : ℕ) → least ≤ atom_level → price (at_least least (with_two x a b r)) ≤ 3 + (price a + (price b + 0))
two_costs x a b None f least h = named_costs x a (b ∷ []) least h
two_costs x a b (Some o) f least h =
    let row : Row x o = f o refl in
    let e : cost_of (mark o.mark) ≡ 0 = operator_free (mark o.mark) o row.is_row in
    let i = at_least_costs least (bin (mark o.mark) o (at_least o.left a) (at_least o.right b)) in
    let j = price-bin (mark o.mark) o (at_least o.left a) (at_least o.right b) in
    let k = at_least_costs o.left a in
    let l = at_least_costs o.right b in
    omega arith

applied_costs : (x : List ℕ) (ws : List Writing) (least : ℕ) → least ≤ atom_level → price (at_least least (applied x ws)) ≤ 3 + total ws
applied_costs x [] least h = via (leaf (name_word x) x) (leaf (name_word x) x) refl least (3 + 0) h (omega arith)
applied_costs x (a ∷ []) least h = one_costs x a (is_negation x) least h
applied_costs x (a ∷ b ∷ []) least h = two_costs x a b (operator_named x) (rows_of x) least h
applied_costs x (a ∷ b ∷ c ∷ ws) least h = named_costs x a (b ∷ c ∷ ws) least h

headed_costs : (s : Word) (x : List ℕ) (ws : List Writing) (least : ℕ) → least ≤ atom_level → price (at_least least (headed s x ws)) ≤ 2 + cost_of (opener s) + total ws
headed_costs s x [] least h = via (leaf s x) (leaf s x) refl least (2 + cost_of (opener s) + 0) h (omega arith)
headed_costs s x (w ∷ ws) least h =
    let i = price-headed s x w ws in
    via (apply s x (together w ws)) (apply s x (together w ws)) refl least (2 + cost_of (opener s) + (price w + total ws)) h (omega arith)

at_writing : (least p q : ℕ) (c d : Writing) → c ≡ d → price (at_least least d) ≤ p → p ≤ q → price (at_least least c) ≤ q
at_writing least p q c d e h i = subst (λ (v : Writing). price (at_least least v) ≤ q) (sym e) (omega arith)

leaf_costs : (s : Word) (x : List ℕ) (least : ℕ) → least ≤ atom_level → price (at_least least (canonical (made s x []))) ≤ 2
leaf_costs Meta x least h = via (canonical (tree.Meta x [])) (leaf Meta x) (canonical-meta x []) least 2 h (omega arith)
leaf_costs Plain x least h = via (canonical (tree.App x [])) (leaf (name_word x) x) (canonical-app x []) least 2 h (omega arith)
leaf_costs Dotted x least h = via (canonical (tree.App x [])) (leaf (name_word x) x) (canonical-app x []) least 2 h (omega arith)
leaf_costs True x least h = via (canonical (tree.App x [])) (leaf (name_word x) x) (canonical-app x []) least 2 h (omega arith)
leaf_costs Place x least h = via (canonical (tree.App x [])) (leaf (name_word x) x) (canonical-app x []) least 2 h (omega arith)

made_costs : (s : Word) (x : List ℕ) (ts : List Tree) (least q : ℕ) → least ≤ atom_level → 2 + cost_of (opener s) + total (map canonical ts) ≤ q → price (at_least least (canonical (made s x ts))) ≤ q
made_costs Meta x ts least q h i = at_writing least (2 + 0 + total (map canonical ts)) q (canonical (tree.Meta x ts)) (headed Meta x (map canonical ts)) (canonical-meta x ts) (headed_costs Meta x (map canonical ts) least h) i
made_costs Plain x ts least q h i = at_writing least (3 + total (map canonical ts)) q (canonical (tree.App x ts)) (applied x (map canonical ts)) (canonical-app x ts) (applied_costs x (map canonical ts) least h) (omega arith)
made_costs Dotted x ts least q h i = at_writing least (3 + total (map canonical ts)) q (canonical (tree.App x ts)) (applied x (map canonical ts)) (canonical-app x ts) (applied_costs x (map canonical ts) least h) (omega arith)
made_costs True x ts least q h i = at_writing least (3 + total (map canonical ts)) q (canonical (tree.App x ts)) (applied x (map canonical ts)) (canonical-app x ts) (applied_costs x (map canonical ts) least h) (omega arith)
made_costs Place x ts least q h i = at_writing least (3 + total (map canonical ts)) q (canonical (tree.App x ts)) (applied x (map canonical ts)) (canonical-app x ts) (applied_costs x (map canonical ts) least h) (omega arith)

-- a price where level 0 is wanted is the price
at_zero : (w : Writing) → price (at_least 0 w) ≡ price w
at_zero w = ap (λ v. price v) (at_least_bare 0 w (omega arith))

-- no writing of a tree costs less than the canonical one, where a level is wanted that it has
mutual
  pub cheapest : (n : ℕ) (w : Writing) → Fits n w → (least : ℕ) → least ≤ level w → price (at_least least (canonical (tree_of w))) ≤ price w
  cheapest n (leaf s x) g least h = leaf_costs s x least h
  cheapest n (apply s x ws) g least h =
      let i = cheapest_all (n - 1) ws g.2 in
      let e = price-apply s x ws in
      let k = closer_free s in
      made_costs s x (trees_of ws) least (price (apply s x ws)) h (omega arith)
  cheapest n (bind s x v d b) g least h =
      let i = cheapest (n - 1) d g.2 0 (omega arith) in
      let j = cheapest (n - 1) b g.3 0 (omega arith) in
      let zd = at_zero (canonical (tree_of d)) in
      let zb = at_zero (canonical (tree_of b)) in
      let e = price-bind s x v d b in
      let f = price-bind (name_word x) x v (canonical (tree_of d)) (canonical (tree_of b)) in
      via (canonical (tree.Bind x v (tree_of d) (tree_of b))) (bind (name_word x) x v (canonical (tree_of d)) (canonical (tree_of b))) (canonical-bind x v (tree_of d) (tree_of b)) least (price (bind s x v d b)) h (omega arith)
  cheapest n (paren w) g least h =
      let i = cheapest (n - 1) w g.1 0 (omega arith) in
      let z = at_zero (canonical (tree_of w)) in
      let e = price-paren w in
      let j = at_least_costs least (canonical (tree_of w)) in
      omega arith
  cheapest n (neg w) g least h =
      let i = cheapest (n - 1) w g.2 prefix_level g.1 in
      let e = price-neg w in
      let f = price-neg (at_least prefix_level (canonical (tree_of w))) in
      via (canonical (tree.App (constant_of Not) (tree_of w ∷ []))) (neg (at_least prefix_level (canonical (tree_of w)))) (canonical-neg (tree_of w)) least (price (neg w)) h (omega arith)
  cheapest n (bin item o a b) g least h =
      let i = cheapest n a g.2 o.left g.1 in
      let j = cheapest (n - o.opens) b g.5 o.right g.4 in
      let k = operator_free item o g.0 in
      let l = operator_free_of item o g.0 in
      let e = price-bin item o a b in
      let f = price-bin (mark o.mark) o (at_least o.left (canonical (tree_of a))) (at_least o.right (canonical (tree_of b))) in
      via (canonical (tree.App (constant_of o.mark) (tree_of a ∷ tree_of b ∷ []))) (bin (mark o.mark) o (at_least o.left (canonical (tree_of a))) (at_least o.right (canonical (tree_of b)))) (canonical-bin item o (tree_of a) (tree_of b) g.0) least
      (price (bin item o a b)) h (omega arith)

  cheapest_all : (n : ℕ) (ws : Writings) → FitsAll n ws → total (map canonical (trees_of ws)) ≤ prices ws
  cheapest_all n (one w) g = let i = cheapest n w g 0 (omega arith) in let z = at_zero (canonical (tree_of w)) in omega arith
  cheapest_all n (more w ws) g =
      let i = cheapest n w g.0 0 (omega arith) in
      let z = at_zero (canonical (tree_of w)) in
      let j = cheapest_all n ws g.1 in
      let e = prices-more w ws in
      omega arith

-- without an opening parenthesis and a closing one the tokens cost one less
one_less : (before inside behind : List Lexeme) → cost (before ++ (mark Open ∷ (inside ++ (mark Close ∷ behind)))) ≡ cost (before ++ (inside ++ behind)) + 1
one_less before inside behind =
    let a = cost-append before (mark Open ∷ (inside ++ (mark Close ∷ behind))) in
    let b = cost-append inside (mark Close ∷ behind) in
    let c = cost-append before (inside ++ behind) in
    let d = cost-append inside behind in
    omega arith

pub parentheses_are_needed : ParenthesesAreNeeded
unfolding ParenthesesAreNeeded
parentheses_are_needed t before inside behind e n w (fits, spelled) same =
    let i : price (at_least 0 (canonical (tree_of w))) ≤ price w = cheapest n w fits 0 (omega arith) in
    let z : price (at_least 0 (canonical (tree_of w))) ≡ price (canonical (tree_of w)) = at_zero (canonical (tree_of w)) in
    let s : price (canonical (tree_of w)) ≡ price (canonical t) = ap (λ u. price (canonical u)) same in
    let c : price (canonical t) ≡ cost (before ++ (mark Open ∷ (inside ++ (mark Close ∷ behind)))) = ap cost e in
    let d : price w ≡ cost (before ++ (inside ++ behind)) = ap cost spelled in
    let o = one_less before inside behind in
    omega arith
