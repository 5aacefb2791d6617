-- The ways that are kept, and what is established by them.
use Rattle.std.proofs.Common.{◌≡◌, refl, sym, ap, subst, ◌∙◌, ℕ, Bool, true, false, List, [], ◌∷◌, ◌++◌, map, Some, None, IsTrue, ◌↔◌, inl, inr}
use Rattle.std.specs.Prelude.{Option, is_some, cond}
use Rattle.std.specs.Option.{option_map_or, option_map}
use Rattle.std.specs.List.{filter}
use Rattle.std.specs.FinMap as finite
use Rattle.std.proofs.lemmas.List.{map-append}
use Rattle.std.proofs.lemmas.List.Elements.{filter-append}
use Rattle.std.specs.Ordering.{nat_cmp}
use Rattle.std.specs.Cmp.Lexicographic.{slice_cmp}
use Rattle.mu_tree.specs.Maps.{MapOf}
use Rattle.mu_tree.proofs.MapLemmas.{same_name, get-insert_here, get-insert_other}
use Rattle.mu_graph.specs.Derivations.{Stands, AllStand, IsReached}
use Rattle.mu_graph.specs.KeySets.{IsBlank}
use Rattle.mu_graph.specs.Walks.{IsLedTo, LeadsTo}
use Rattle.mu_graph.proofs.DerivationLemmas.{stands_front, stands_back, stands_either, stands_one, stands_map, stands_filter, all_flat_map}
use Rattle.mu_tree.proofs.TableLemmas.{no_entries}
use Rattle.mu_graph.proofs.EntryLemmas.{found_entry}
use Rattle.mu_graph.proofs.Decided.{derivable_decides, derived_locally, reached_from_none}
use Rattle.mu_proof.specs.declared.items.Item.{Item}
use Rattle.mu_proof.specs.Citations.{cites}
use Rattle.mu_proof.specs.declared.citations.Cited.{Cited}
use Rattle.mu_proof.specs.declared.citations.Cited.TheVariants.{Rule, Morphism}
use Rattle.mu_flat.specs.ProofTables.{ProofsOf, proofs_of, cited_in, leads}
use Rattle.mu_flat.specs.Entries.{Entries}
use Rattle.mu_decl.specs.declared.declaration.Statement.{Statement}
use Rattle.mu_status.specs.declared.books.Standing.{Standing}
use Rattle.mu_status.specs.Books.{kept_ways, starts_of, told_status, Knows, KnownAs, KnownAt, IsBook}
use Rattle.mu_status.specs.Statuses.{ways, rule_ways, is_established, status_of, status_at, checks, proof_ways, way_by}
use Rattle.mu_status.proofs.Standing.{ways_found, rules_cover, status_told}

-- a rule without proofs has no entries of proofs
pub none_stored : (proofs : ProofsOf) (rule : List ℕ) → finite.get proofs rule ≡ None → finite.entries (proofs_of proofs rule) ≡ []
none_stored proofs rule is = ap (λ (found : Option (MapOf (List Item))). finite.entries (option_map_or (λ each. each) found finite.empty)) is ∙ no_entries

module _ (e : Entries) where
  -- ---- the book grows
  pub book_begins : (rules : MapOf Standing) → rules ≡ finite.empty → IsBook e [] rules
  book_begins rules is = record {
    known = λ rule s. absurd s;
    only = λ rule found at.
        let none : None ≡ Some found = sym (finite.get-empty (slice_cmp nat_cmp) rule) ∙ ap (λ (m : MapOf Standing). finite.get m rule) (sym is) ∙ at in
        absurd (cc none);
  }

  same_rule : {a b : List ℕ} → Rule a ≡ Rule b → a ≡ b
  same_rule same = cc

  module _ (members : List Cited) (rules : MapOf Standing) (book : IsBook e members rules) where
    -- what is kept of a member is right once it is known of a rule that is added
    known_more : (rule : List ℕ) (after : MapOf Standing) → KnownAt e rule (finite.get after rule) → ((q : List ℕ) → (rule ≡ q → ⊥) → finite.get after q ≡ finite.get rules q)
        → (q : List ℕ) → Stands (Rule q) (members ++ Rule rule ∷ []) → KnownAt e q (finite.get after q)
    known_more rule after here others q s = elim (same_name rule q) [
      | inl same ↦ subst (λ each. KnownAt e each (finite.get after each)) same here
      | inr other ↦ subst (KnownAt e q) (sym (others q other)) (book.known q (elim (stands_either (Rule q) members (Rule rule ∷ []) s) [
        | inl before ↦ before
        | inr last ↦ absurd (other (same_rule (stands_one (Rule q) (Rule rule) last)))
      ]))
    ]

    pub book_adds : (rule : List ℕ) (s : Statement) (known : Standing) → finite.get e.rules rule ≡ Some s → Knows e rule s known → IsBook e (members ++ Rule rule ∷ []) (finite.insert rules rule known)
    book_adds rule s known is knows = record {
      known = known_more rule (finite.insert rules rule known)
          (subst (KnownAt e rule) (sym (get-insert_here rules rule known)) (subst (λ stated. KnownAs e rule stated (Some known)) (sym is) knows))
          (λ q other. get-insert_other rules rule known q other);
      only = λ q found at. elim (same_name rule q) [
        | inl same ↦ stands_back (Rule q) members (Rule rule ∷ []) (inl (ap Rule same))
        | inr other ↦ stands_front (Rule q) members (Rule rule ∷ []) (book.only q found (sym (get-insert_other rules rule known q other) ∙ at))
      ];
    }

    -- nothing is kept of a name without a rule
    pub book_lacks : (rule : List ℕ) → finite.get e.rules rule ≡ None → KnownAt e rule (finite.get rules rule)
    book_lacks rule is = at (finite.get rules rule) refl
      where
        at : (found : Option Standing) → finite.get rules rule ≡ found → KnownAt e rule (finite.get rules rule)
        at None none = subst (KnownAt e rule) (sym none) (subst (λ stated. KnownAs e rule stated None) (sym is) tt)
        at (Some found) there = book.known rule (book.only rule found there)

    pub book_misses : (rule : List ℕ) → finite.get e.rules rule ≡ None → IsBook e (members ++ Rule rule ∷ []) rules
    book_misses rule is = record {
      known = known_more rule rules (book_lacks rule is) (λ q other. refl);
      only = λ q found at. stands_front (Rule q) members (Rule rule ∷ []) (book.only q found at);
    }

    pub book_skips : (morphism : List ℕ) → IsBook e (members ++ Morphism morphism ∷ []) rules
    book_skips morphism = record {
      known = λ q s. book.known q (elim (stands_either (Rule q) members (Morphism morphism ∷ []) s) [
        | inl before ↦ before
        | inr last ↦ let differ : Morphism morphism ≡ Rule q = stands_one (Rule q) (Morphism morphism) last in absurd (cc differ)
      ]);
      only = λ q found at. stands_front (Rule q) members (Morphism morphism ∷ []) (book.only q found at);
    }

    -- ---- what it says
    kept_found : (q : List ℕ) (way : List Cited) → Stands way (kept_ways rules (Rule q)) → Stands (Rule q) members
    kept_found q way s = at (finite.get rules q) refl s
      where
        at : (found : Option Standing) → finite.get rules q ≡ found → Stands way (option_map_or (λ known. known.ways) found []) → Stands (Rule q) members
        at None is t = absurd t
        at (Some found) is t = book.only q found is

    -- a member of derivations with a way that is kept is a member of the book
    pub book_covers : (n : Cited) (way : List Cited) → Stands way (kept_ways rules n) → Stands n members
    book_covers (Rule q) way s = kept_found q way s
    book_covers (Morphism m) way s = absurd s

    known_ways : (q : List ℕ) (stated : Option Statement) (found : Option Standing) → KnownAs e q stated found → option_map_or (λ known. known.ways) found [] ≡ option_map_or (rule_ways e q) stated []
    known_ways q None None knows = refl
    known_ways q None (Some found) knows = absurd knows
    known_ways q (Some s) None knows = absurd knows
    known_ways q (Some s) (Some found) knows = knows.kept

    same_ways : (n : Cited) → Stands n members → kept_ways rules n ≡ ways e n
    same_ways (Rule q) s = known_ways q (finite.get e.rules q) (finite.get rules q) (book.known q s)
    same_ways (Morphism m) s = refl

  -- ---- derivations
  cited_among : (proof : List ℕ) (items : List Item) (found : Option (MapOf (List Item))) → finite.get (option_map_or (λ each. each) found finite.empty) proof ≡ Some items → AllStand (cites items) (option_map_or cited_in found [])
  cited_among proof items None is = let none : None ≡ Some items = sym (finite.get-empty (slice_cmp nat_cmp) proof) ∙ is in absurd (cc none)
  cited_among proof items (Some proofs) is = all_flat_map (λ (entry : List ℕ × List Item). cites entry.1) (proof, items) (finite.entries proofs) (found_entry proofs proof items is)

  -- the members of a way are among what the member leads to
  ways_within : (n : Cited) (way : List Cited) → Stands way (ways e n) → AllStand way (leads e.proofs n)
  ways_within (Rule q) way s = elim (ways_found e q way s).2.1 [
    | inl (holds, none) ↦ subst (λ each. AllStand each (leads e.proofs (Rule q))) none tt
    | inr (wants, (items, ((proof, at), right), same)) ↦ subst (λ each. AllStand each (leads e.proofs (Rule q))) same (cited_among proof items (finite.get e.proofs q) at)
  ]
  ways_within (Morphism m) way s = absurd s

  -- what one of the starts reaches is reached from them
  led_from_one : (starts : List Cited) (n : Cited) → Stands n starts → (k : Cited) → IsLedTo (leads e.proofs) (n ∷ []) k → IsLedTo (leads e.proofs) starts k
  led_from_one starts n at k (inl here) = inl (subst (λ j. Stands j starts) (stands_one k n here) at)
  led_from_one starts n at k (inr (a, s, far)) = inr (n, at, subst (λ j. LeadsTo (leads e.proofs) j k) (sym (stands_one a n s)) far)

  module _ (starts order : List Cited) (rules : MapOf Standing) (start marked : Cited → Bool) (reach : (n : Cited) → Stands n order ↔ IsLedTo (leads e.proofs) starts n)
      (book : IsBook e order rules) (blank : IsBlank start) (reached : (n : Cited) → IsTrue (marked n) ↔ IsReached start (kept_ways rules) n) where
    -- what is reached by the ways that are kept of all that the starts lead to is, of the starts, what is established
    pub book_decides : (rule : List ℕ) → Stands (Rule rule) starts → marked (Rule rule) ≡ is_established e rule
    book_decides rule at =
        let told = derivable_decides (ways e) (map Rule (finite.keys e.rules)) (rules_cover e) (Rule rule) in
        let local = derived_locally (ways e) (kept_ways rules) (leads e.proofs) (Rule rule) ways_within
        (λ n led. same_ways order rules book n ((reach n).1 (led_from_one starts (Rule rule) at n led)))
        (λ n way s. subst (Stands way) (same_ways order rules book n (book_covers order rules book n way s)) s) in
        let kept = reached_from_none (kept_ways rules) start blank (Rule rule) in
        same_test (marked (Rule rule)) (is_established e rule)
        (λ yes. told.1 (local.1 (kept.0 ((reached (Rule rule)).0 yes))))
        (λ yes. (reached (Rule rule)).1 (kept.1 (local.0 (told.0 yes))))
      where
        same_test : (a b : Bool) → (a ≡ true → b ≡ true) → (b ≡ true → a ≡ true) → a ≡ b
        same_test true b there back = sym (there refl)
        same_test false true there back = back refl
        same_test false false there back = refl

    -- the status that is told of a name that is a start if it is a rule
    pub book_tells : (rule : List ℕ) → ((s : Statement) → finite.get e.rules rule ≡ Some s → Stands (Rule rule) starts) → told_status (marked (Rule rule)) (finite.get rules rule) ≡ status_at e rule
    book_tells rule starts_there = at (finite.get e.rules rule) refl
      where
        told_none : (found : Option Standing) → KnownAs e rule None found → told_status (marked (Rule rule)) found ≡ None
        told_none None knows = refl
        told_none (Some found) knows = absurd knows

        told_some : (s : Statement) → finite.get e.rules rule ≡ Some s → marked (Rule rule) ≡ is_established e rule → (found : Option Standing) → KnownAs e rule (Some s) found → told_status (marked (Rule rule)) found ≡ Some (status_of e rule s)
        told_some s is decided None knows = absurd knows
        told_some s is decided (Some found) knows = ap Some (status_told e rule s is (marked (Rule rule)) found decided knows)

        at : (stated : Option Statement) → finite.get e.rules rule ≡ stated → told_status (marked (Rule rule)) (finite.get rules rule) ≡ status_at e rule
        at None is =
            told_none (finite.get rules rule) (subst (λ stated. KnownAs e rule stated (finite.get rules rule)) is (book_lacks order rules book rule is))
            ∙ sym (ap (option_map (status_of e rule)) is)
        at (Some s) is =
            let stands = starts_there s is in
            told_some s is (book_decides rule stands) (finite.get rules rule)
            (subst (λ stated. KnownAs e rule stated (finite.get rules rule)) is (book.known rule ((reach (Rule rule)).1 (inl stands))))
            ∙ sym (ap (option_map (status_of e rule)) is)

  -- a name that is a rule is a start
  pub rule_starts : (names : List (List ℕ)) (rule : List ℕ) → Stands rule names → (s : Statement) → finite.get e.rules rule ≡ Some s → Stands (Rule rule) (starts_of e names)
  rule_starts names rule stands s is =
      stands_map Rule rule (filter (finite.contains_key e.rules) names) (stands_filter (finite.contains_key e.rules) rule names stands (ap is_some is))

-- one proof more gives its way, where it checks
pub ways_more : (e : Entries) (rule : List ℕ) (entries : List (List ℕ × List Item)) (entry : List ℕ × List Item) → proof_ways e rule (entries ++ entry ∷ []) ≡ proof_ways e rule entries ++ way_by e rule entry.1
ways_more e rule entries entry =
    let passes = checks e rule in
    let way = λ (each : List ℕ × List Item). cites each.1 in
    ap (map way) (filter-append passes entries (entry ∷ [])) ∙ map-append way (filter passes entries) (filter passes (entry ∷ [])) ∙ ap (λ rest. map way (filter passes entries) ++ rest) (one (passes entry))
  where
    one : (b : Bool) → map (λ (each : List ℕ × List Item). cites each.1) (cond b (entry ∷ []) []) ≡ cond b (cites entry.1 ∷ []) []
    one true = refl
    one false = refl

-- two functions that agree at each member of a list map it to the same
pub map_same : {N M : Type 0} (f g : N → M) (ns : List N) → ((n : N) → Stands n ns → f n ≡ g n) → map f ns ≡ map g ns
map_same f g [] same = refl
map_same f g (n ∷ ns) same = ap (λ m. m ∷ map f ns) (same n (inl refl)) ∙ ap (λ ms. g n ∷ ms) (map_same f g ns (λ k s. same k (inr s)))
