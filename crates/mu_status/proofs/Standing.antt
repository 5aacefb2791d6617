-- Derivations are those by the ways, and the status that is computed is the one that fits.
use Rattle.std.proofs.Common.{◌≡◌, refl, sym, ap, subst, ◌∙◌, ℕ, Bool, true, false, cond, List, [], ◌∷◌, map, Some, None, IsTrue, ◌↔◌, inl, inr}
use Rattle.std.specs.Prelude.{◌⊎◌, ◌||◌, not, Option, is_none}
use Rattle.std.specs.Option.{option_map_or}
use Rattle.std.specs.List.{AllByRecursion, filter, list_any}
use Rattle.std.specs.FinMap as finite
use Rattle.std.proofs.lemmas.Bool.{false≢true, false_from_ne_true, cases_Bool, cond-true, cond-false}
use Rattle.mu_graph.specs.Derivations.{Stands, AllStand, StandsInSome, MayFollow}
use Rattle.mu_graph.proofs.DerivationLemmas.{stands_map, stands_from, stands_one, stands_filter, filter_stands, any_some, some_any, stands_in_some_by}
use Rattle.mu_graph.proofs.EntryLemmas.{entry_found, found_entry, kept_stands}
use Rattle.mu_graph.proofs.Decided.{derivable_decides, derived_least}
use Rattle.mu_decl.specs.declared.declaration.Statement.{Statement}
use Rattle.mu_proof.specs.declared.items.Item.{Item}
use Rattle.mu_proof.specs.Citations.{cites}
use Rattle.mu_check.specs.Verdicts.{verdict}
use Rattle.mu_check.specs.declared.cause.Fault.{Fault}
use Rattle.mu_proof.specs.declared.citations.Cited.{Cited}
use Rattle.mu_proof.specs.declared.citations.Cited.TheVariants.{Rule, Morphism}
use Rattle.mu_flat.specs.ProofTables.{proofs_of, proof_at}
use Rattle.mu_flat.specs.Entries.{Entries, world_of}
use Rattle.mu_status.specs.Derivations.{is_well_formed, HasProof, HasCheckedProof, MemberMayFollow, IsEstablished, HoldsByRules}
use Rattle.mu_status.specs.Statuses.{SomeChecks, HasStatus, checks, formed_ways, rule_ways, ways, is_established, status_by_proofs, status_of, StatusesAreExact}
use Rattle.mu_status.specs.Books.{Knows}
use Rattle.mu_status.specs.declared.books.Standing.{Standing}
use Rattle.mu_status.specs.declared.statuses.RuleStatus.{RuleStatus}
use Rattle.mu_status.specs.declared.statuses.RuleStatus.TheVariants.{IllFormed, Established, Complete, Incomplete, Unproved}

none_from : (verdict : Option Fault) → is_none verdict ≡ true → verdict ≡ None
none_from None h = refl
none_from (Some fault) h = absurd (false≢true h)

-- a list of which no member passes keeps none, and keeps some where one does
none_kept : {X Y : Type 0} (p : X → Bool) (f : X → Y) (xs : List X) → map f (filter p xs) ≡ [] → list_any p xs ≡ false
none_kept p f [] none = refl
none_kept p f (x ∷ xs) none = elim (p x) as (λ b. map f (cond b (x ∷ filter p xs) (filter p xs)) ≡ [] → (b || list_any p xs) ≡ false) [ true ↦ λ h. absurd (cc h) | false ↦ λ h. none_kept p f xs h ] none

some_kept : {X Y : Type 0} (p : X → Bool) (f : X → Y) (xs : List X) → (map f (filter p xs) ≡ [] → ⊥) → list_any p xs ≡ true
some_kept p f [] some = absurd (some refl)
some_kept p f (x ∷ xs) some = elim (p x) as (λ b. (map f (cond b (x ∷ filter p xs) (filter p xs)) ≡ [] → ⊥) → (b || list_any p xs) ≡ true) [ true ↦ λ _. refl | false ↦ λ h. some_kept p f xs h ] some

module _ (e : Entries) (rule : List ℕ) where
  -- ---- the proofs of a rule
  -- a stored proof is an entry that checks where it does
  abbrev entries : List (List ℕ × List Item)
  entries = finite.entries (proofs_of e.proofs rule)

  abbrev cites_of : List ℕ × List Item → List Cited
  cites_of entry = cites entry.1

  abbrev by_proofs : List (List Cited)
  by_proofs = map cites_of (filter (checks e rule) entries)

  stored : (proof : List ℕ) (items : List Item) → proof_at e.proofs rule proof ≡ Some items → Stands (proof, items) (finite.entries (proofs_of e.proofs rule))
  stored proof items at = found_entry (proofs_of e.proofs rule) proof items at

  entry_proof : (entry : List ℕ × List Item) → Stands entry (finite.entries (proofs_of e.proofs rule)) → HasProof e rule entry.1
  entry_proof entry s = (entry.0, entry_found (proofs_of e.proofs rule) entry.0 entry.1 s)

  checked : (proof : List ℕ) (items : List Item) → verdict (world_of e) rule items ≡ None → checks e rule (proof, items) ≡ true
  checked proof items right = ap is_none right

  -- some stored proof checks where the test of any passes, and only there
  pub some_checks_decides : IsTrue (list_any (checks e rule) (finite.entries (proofs_of e.proofs rule))) ↔ SomeChecks e rule
  some_checks_decides = (
    λ h. let found = any_some (checks e rule) (finite.entries (proofs_of e.proofs rule)) h in (found.0.1, (entry_proof found.0 found.1, none_from (verdict (world_of e) rule found.0.1) found.2)),
    λ (items, ((proof, at), right)). some_any (checks e rule) (finite.entries (proofs_of e.proofs rule)) (proof, items) (stored proof items at) (checked proof items right),
  )

  -- ---- the ways to a rule
  module _ (s : Statement) where
    -- the list is a way to the rule: it has no member for an axiom, and is what a checked proof cites for another rule
    abbrev pub IsWay : List Cited → Type 0
    IsWay way = (is_well_formed e s ≡ true) × (((s.is_axiom ≡ true) × ([] ≡ way)) ⊎ ((s.is_axiom ≡ false) × ((items : List Item) × HasCheckedProof e rule items × (cites items ≡ way))))

    axiom_ways : is_well_formed e s ≡ true → s.is_axiom ≡ true → rule_ways e rule s ≡ [] ∷ []
    axiom_ways formed holds = cond-true (is_well_formed e s) (cond s.is_axiom ([] ∷ []) by_proofs) [] formed ∙ cond-true s.is_axiom ([] ∷ []) by_proofs holds

    pub proof_ways : is_well_formed e s ≡ true → s.is_axiom ≡ false → rule_ways e rule s ≡ by_proofs
    proof_ways formed wants = cond-true (is_well_formed e s) (cond s.is_axiom ([] ∷ []) by_proofs) [] formed ∙ cond-false s.is_axiom ([] ∷ []) by_proofs wants

    pub way_stands : (way : List Cited) → IsWay way → Stands way (rule_ways e rule s)
    way_stands way (formed, inl (holds, none)) = subst (Stands way) (sym (axiom_ways formed holds)) (inl none)
    way_stands way (formed, inr (wants, (items, ((proof, at), right), same))) =
        subst (Stands way) (sym (proof_ways formed wants))
        (subst (λ each. Stands each by_proofs) same (stands_map cites_of (proof, items) (filter (checks e rule) entries) (stands_filter (checks e rule) (proof, items) entries (stored proof items at) (checked proof items right))))

    pub stands_way : (way : List Cited) → Stands way (rule_ways e rule s) → IsWay way
    stands_way way stands = elim (cases_Bool (is_well_formed e s)) [
      | inr ill ↦ absurd (subst (Stands way) (cond-false (is_well_formed e s) (cond s.is_axiom ([] ∷ []) by_proofs) [] ill) stands)
      | inl formed ↦ (
        formed,
        elim (cases_Bool s.is_axiom) [
          | inl holds ↦ inl (holds, stands_one way [] (subst (Stands way) (axiom_ways formed holds) stands))
          | inr wants ↦
              let found = stands_from cites_of way (filter (checks e rule) entries) (subst (Stands way) (proof_ways formed wants) stands) in
              let kept = filter_stands (checks e rule) found.0 entries found.1 in
              inr (wants, (found.0.1, (entry_proof found.0 kept.0, none_from (verdict (world_of e) rule found.0.1) kept.1), found.2))
        ],
      )
    ]

  -- the ways to the rule of a name are those with its statement
  pub found_ways : (s : Statement) → finite.get e.rules rule ≡ Some s → ways e (Rule rule) ≡ rule_ways e rule s
  found_ways s is = ap (λ found. option_map_or (rule_ways e rule) found []) is

  -- where there is a way there is a rule
  pub ways_found : (way : List Cited) → Stands way (ways e (Rule rule)) → (s : Statement) × (finite.get e.rules rule ≡ Some s) × IsWay s way
  ways_found way stands = at (finite.get e.rules rule) refl stands
    where
      at : (found : Option Statement) → finite.get e.rules rule ≡ found → Stands way (option_map_or (rule_ways e rule) found []) → (s : Statement) × (finite.get e.rules rule ≡ Some s) × IsWay s way
      at None is t = absurd t
      at (Some s) is t = (s, is, stands_way s way t)

module _ (e : Entries) where
  -- ---- derivations
  may_way : (n : Cited) (before : List Cited) → MemberMayFollow e n before → MayFollow (ways e) n before
  may_way (Rule rule) before (s, is, (formed, inl holds)) =
      ([], subst (Stands []) (sym (found_ways e rule s is)) (way_stands e rule s [] (formed, inl (holds, refl))), tt)
  may_way (Rule rule) before (s, is, (formed, inr (wants, (items, right, all)))) =
      (cites items, subst (Stands (cites items)) (sym (found_ways e rule s is)) (way_stands e rule s (cites items) (formed, inr (wants, (items, right, refl)))), all)
  may_way (Morphism morphism) before may = absurd may

  way_may : (n : Cited) (before : List Cited) → MayFollow (ways e) n before → MemberMayFollow e n before
  way_may (Rule rule) before (way, stands, all) =
      let found = ways_found e rule way stands in (
        found.0,
        found.1,
        (
          found.2.0,
          elim found.2.1 [
            | inl (holds, none) ↦ inl holds
            | inr (wants, (items, right, same)) ↦ inr (wants, (items, right, subst (λ each. AllStand each before) (sym same) all))
          ],
        ),
      )
  way_may (Morphism morphism) before (way, stands, all) = absurd stands

  -- derivations in a store are those by its ways
  pub derived_by_ways : (n : Cited) → StandsInSome (MemberMayFollow e) n ↔ StandsInSome (MayFollow (ways e)) n
  derived_by_ways n = (
    stands_in_some_by (MemberMayFollow e) (MayFollow (ways e)) may_way n,
    stands_in_some_by (MayFollow (ways e)) (MemberMayFollow e) way_may n,
  )

  -- a member with a way is a rule that is there
  pub rules_cover : (n : Cited) (way : List Cited) → Stands way (ways e n) → Stands n (map Rule (finite.keys e.rules))
  rules_cover (Rule rule) way stands = let found = ways_found e rule way stands in stands_map Rule rule (finite.keys e.rules) (kept_stands e.rules rule found.0 found.1)
  rules_cover (Morphism morphism) way stands = absurd stands

  -- the test tells what is established
  pub established_decides : (rule : List ℕ) → IsTrue (is_established e rule) ↔ IsEstablished e rule
  established_decides rule =
      let told = derivable_decides (ways e) (map Rule (finite.keys e.rules)) rules_cover (Rule rule) in
      let derived = derived_by_ways (Rule rule) in
      (λ yes. derived.1 (told.0 yes), λ est. told.1 (derived.0 est))

  -- an established rule rests on axioms alone
  pub rests_on : (P : Cited → Type 0) → HoldsByRules e P → (rule : List ℕ) → IsEstablished e rule → P (Rule rule)
  rests_on P holds_by rule est = derived_least (ways e) P closed (Rule rule) ((derived_by_ways (Rule rule)).0 est)
    where
      closed : (n : Cited) (way : List Cited) → Stands way (ways e n) → AllByRecursion P way → P n
      closed (Rule q) way stands all =
          let found = ways_found e q way stands in
          elim found.2.1 [
            | inl (holds, none) ↦ holds_by.of_axiom q found.0 found.1 found.2.0 holds
            | inr (wants, (items, right, same)) ↦ holds_by.of_proof q found.0 items found.1 found.2.0 wants right (subst (AllByRecursion P) (sym same) all)
          ]
      closed (Morphism m) way stands all = absurd stands

  -- ---- statuses
  module _ (rule : List ℕ) where
    fits_by_proofs : (s : Statement) → is_well_formed e s ≡ true → (IsEstablished e rule → ⊥) → (listed : List (List ℕ × List Item)) → entries e rule ≡ listed → HasStatus e rule s (status_by_proofs e rule listed)
    fits_by_proofs s formed not_est [] is = (formed, not_est, λ some. no_entry some.0 some.1.0, λ some. no_entry some.0 some.1)
      where
        no_entry : (items : List Item) → HasProof e rule items → ⊥
        no_entry items (proof, at) = subst (Stands (proof, items)) is (found_entry (proofs_of e.proofs rule) proof items at)
    fits_by_proofs s formed not_est (entry ∷ listed) is =
        elim (list_any (checks e rule) (entry ∷ listed)) as (λ b. list_any (checks e rule) (entry ∷ listed) ≡ b → HasStatus e rule s (cond b Complete Incomplete)) [
          | true ↦ λ yes. (formed, not_est, (some_checks_decides e rule).0 (ap (list_any (checks e rule)) is ∙ yes))
          | false ↦ λ no. (
            formed,
            not_est,
            λ some. false≢true (sym no ∙ ap (list_any (checks e rule)) (sym is) ∙ (some_checks_decides e rule).1 some),
            (entry.1, (entry.0, entry_found (proofs_of e.proofs rule) entry.0 entry.1 (subst (Stands entry) (sym is) (inl refl)))),
          )
        ] refl

    pub fits : (s : Statement) → HasStatus e rule s (status_of e rule s)
    fits s =
        elim (is_well_formed e s) as (λ b. is_well_formed e s ≡ b → HasStatus e rule s (cond b (cond (is_established e rule) Established (status_by_proofs e rule (entries e rule))) IllFormed)) [
          | false ↦ λ ill. ill
          | true ↦ λ formed. elim (is_established e rule) as (λ b. is_established e rule ≡ b → HasStatus e rule s (cond b Established (status_by_proofs e rule (entries e rule)))) [
            | true ↦ λ est. (formed, (established_decides rule).0 est)
            | false ↦ λ no. fits_by_proofs s formed (λ est. false≢true (sym no ∙ (established_decides rule).1 est)) (entries e rule) refl
          ] refl
        ] refl

    complete_where : (listed : List (List ℕ × List Item)) → list_any (checks e rule) listed ≡ true → status_by_proofs e rule listed ≡ Complete
    complete_where [] some = absurd (false≢true some)
    complete_where (entry ∷ listed) some = cond-true (list_any (checks e rule) (entry ∷ listed)) Complete Incomplete some

    incomplete_where : (entry : List ℕ × List Item) (listed : List (List ℕ × List Item)) → Stands entry listed → list_any (checks e rule) listed ≡ false → status_by_proofs e rule listed ≡ Incomplete
    incomplete_where entry [] stands none = absurd stands
    incomplete_where entry (other ∷ listed) stands none = cond-false (list_any (checks e rule) (other ∷ listed)) Complete Incomplete none

    unproved_where : (listed : List (List ℕ × List Item)) → ((entry : List ℕ × List Item) → Stands entry listed → ⊥) → status_by_proofs e rule listed ≡ Unproved
    unproved_where [] none = refl
    unproved_where (entry ∷ listed) none = absurd (none entry (inl refl))

    -- the status of a well-formed rule without a derivation is that by its proofs
    pub status_without : (s : Statement) → is_well_formed e s ≡ true → is_established e rule ≡ false → status_of e rule s ≡ status_by_proofs e rule (entries e rule)
    status_without s formed underived =
        cond-true (is_well_formed e s) (cond (is_established e rule) Established (status_by_proofs e rule (entries e rule))) IllFormed formed
        ∙ cond-false (is_established e rule) Established (status_by_proofs e rule (entries e rule)) underived

    by_proofs_where : (s : Statement) → is_well_formed e s ≡ true → (IsEstablished e rule → ⊥) → status_of e rule s ≡ status_by_proofs e rule (entries e rule)
    by_proofs_where s formed not_est = status_without s formed (false_from_ne_true (is_established e rule) (λ yes. not_est ((established_decides rule).0 yes)))

    none_checks : (SomeChecks e rule → ⊥) → list_any (checks e rule) (entries e rule) ≡ false
    none_checks none = false_from_ne_true (list_any (checks e rule) (entries e rule)) (λ some. none ((some_checks_decides e rule).0 some))

    -- a status that fits is the one that is computed
    pub fitting : (s : Statement) (status : RuleStatus) → HasStatus e rule s status → status_of e rule s ≡ status
    fitting s IllFormed ill = cond-false (is_well_formed e s) (cond (is_established e rule) Established (status_by_proofs e rule (entries e rule))) IllFormed ill
    fitting s Established (formed, est) =
        cond-true (is_well_formed e s) (cond (is_established e rule) Established (status_by_proofs e rule (entries e rule))) IllFormed formed
        ∙ cond-true (is_established e rule) Established (status_by_proofs e rule (entries e rule)) ((established_decides rule).1 est)
    fitting s Complete (formed, not_est, some) = by_proofs_where s formed not_est ∙ complete_where (entries e rule) ((some_checks_decides e rule).1 some)
    fitting s Incomplete (formed, not_est, none, (items, (proof, at))) = by_proofs_where s formed not_est ∙ incomplete_where (proof, items) (entries e rule) (stored e rule proof items at) (none_checks none)
    fitting s Unproved (formed, not_est, none, no_proof) = by_proofs_where s formed not_est ∙ unproved_where (entries e rule) (λ entry stands. no_proof (entry.1, entry_proof e rule entry stands))

  -- ---- ways and proofs that check
  -- the ways to a well-formed rule
  pub own_ways : (rule : List ℕ) (s : Statement) → finite.get e.rules rule ≡ Some s → is_well_formed e s ≡ true → ways e (Rule rule) ≡ formed_ways e rule s
  own_ways rule s is formed = found_ways e rule s is ∙ cond-true (is_well_formed e s) (formed_ways e rule s) [] formed

  -- a well-formed axiom is established
  axiom_established : (rule : List ℕ) (s : Statement) → finite.get e.rules rule ≡ Some s → is_well_formed e s ≡ true → s.is_axiom ≡ true → is_established e rule ≡ true
  axiom_established rule s is formed holds = (established_decides rule).1 (Rule rule ∷ [], ((s, is, (formed, inl holds)), tt), inl refl)

  -- a well-formed rule without a derivation has a way exactly where one of its proofs checks
  pub ways_known : (rule : List ℕ) (s : Statement) → finite.get e.rules rule ≡ Some s → is_well_formed e s ≡ true → is_established e rule ≡ false
      → (own : List (List Cited)) (empty : Bool) → own ≡ formed_ways e rule s → IsTrue empty ↔ (own ≡ []) → not empty ≡ list_any (checks e rule) (entries e rule)
  ways_known rule s is formed underived own empty known told = elim (cases_Bool s.is_axiom) [
    | inl holds ↦ absurd (false≢true (sym underived ∙ axiom_established rule s is formed holds))
    | inr wants ↦ go empty told (known ∙ cond-false s.is_axiom ([] ∷ []) kept wants)
  ]
    where
      kept : List (List Cited)
      kept = map (λ entry. cites entry.1) (filter (checks e rule) (entries e rule))

      go : (b : Bool) → IsTrue b ↔ (own ≡ []) → own ≡ kept → not b ≡ list_any (checks e rule) (entries e rule)
      go true both same = sym (none_kept (checks e rule) (λ entry. cites entry.1) (entries e rule) (sym same ∙ both.0 refl))
      go false both same = sym (some_kept (checks e rule) (λ entry. cites entry.1) (entries e rule) (λ none. false≢true (both.1 (same ∙ none))))

  -- ---- what is kept of a rule
  -- an established rule is well formed
  established_formed : (rule : List ℕ) (s : Statement) → finite.get e.rules rule ≡ Some s → IsEstablished e rule → is_well_formed e s ≡ true
  established_formed rule s is est = rests_on IsFormed record {
    of_axiom = λ q stated at formed holds. all_formed q stated at formed;
    of_proof = λ q stated items at formed wants right all. all_formed q stated at formed;
  } rule est s is
    where
      IsFormed : Cited → Type 0
      IsFormed (Rule q) = (stated : Statement) → finite.get e.rules q ≡ Some stated → is_well_formed e stated ≡ true
      IsFormed (Morphism m) = Unit {0}

      all_formed : (q : List ℕ) (stated : Statement) → finite.get e.rules q ≡ Some stated → is_well_formed e stated ≡ true → IsFormed (Rule q)
      all_formed q stated at formed other there = subst (λ each. is_well_formed e each ≡ true) (one_statement (sym at ∙ there)) formed
        where
          one_statement : {x y : Statement} → Some x ≡ Some y → x ≡ y
          one_statement same = cc

  -- what is kept of a well-formed rule
  pub knows_formed : (rule : List ℕ) (s : Statement) (known : Standing) (empty : Bool) → finite.get e.rules rule ≡ Some s → is_well_formed e s ≡ true → known.ways ≡ formed_ways e rule s → IsTrue empty ↔ (known.ways ≡ [])
      → (not empty ≡ list_any (checks e rule) (entries e rule) → known.otherwise ≡ status_by_proofs e rule (entries e rule)) → Knows e rule s known
  knows_formed rule s known empty is formed kept none told = record {
    kept = kept ∙ sym (cond-true (is_well_formed e s) (formed_ways e rule s) [] formed);
    otherwise = λ underived. told (ways_known rule s is formed underived known.ways empty kept none) ∙ sym (status_without rule s formed underived);
  }

  -- the status of a rule of which this is kept, where it is decided whether some derivation has it
  pub status_told : (rule : List ℕ) (s : Statement) → finite.get e.rules rule ≡ Some s → (marked : Bool) (known : Standing) → marked ≡ is_established e rule → Knows e rule s known → cond marked Established known.otherwise ≡ status_of e rule s
  status_told rule s is true known decided knows =
      let est = (established_decides rule).0 (sym decided) in
      sym (fitting rule s Established (established_formed rule s is est, est))
  status_told rule s is false known decided knows = knows.otherwise (sym decided)

-- the law
pub statuses_are_exact : StatusesAreExact
unfolding StatusesAreExact
statuses_are_exact = record {
  fits = λ e rule s _. fits e rule s;
  one = λ e rule s a b has_a has_b. sym (fitting e rule s a has_a) ∙ fitting e rule s b has_b;
  rests = λ e test holds rule est. rests_on e (λ member. test member ≡ true) holds rule est;
}
