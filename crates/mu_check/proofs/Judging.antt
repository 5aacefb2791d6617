-- The verdict decides the judgement: a line has no cause exactly where it is right, and so a block and a proof.
use Rattle.std.proofs.Common.{arith, ◌≡◌, ◌+◌, refl, sym, ap, subst, ◌∙◌, ℕ, suc, Bool, true, false, ◌&&◌, List, [], ◌∷◌, ◌++◌, map, length}
use Rattle.std.specs.Prelude.{not, ◌||◌, ◌↔◌, Option, Some, None, Result, Ok, Err, IfOk}
use Rattle.std.specs.Bool.{nat_eq}
use Rattle.std.specs.Option.{option_or, is_some}
use Rattle.std.specs.List.{AllByRecursion, AllZip, Contains, list_all, list_any, flat_map}
use Rattle.std.specs.Cmp.Lexicographic.{pointwise}
use Rattle.std.specs.FinMap as finite
use Rattle.std.proofs.lemmas.List.{length-append, length-map, map-append}
use Rattle.std.proofs.lemmas.Map.Views.{Contains-from_any}
use Rattle.std.proofs.lemmas.Bool.{and_parts, and_from, both_ways, false_from_ne_true, eqb-true, eq-eqb}
use Rattle.std.proofs.lemmas.List.Folds.{list_all-append}
use Rattle.std.proofs.lemmas.Slice.Zip.{AllZip-long}
use Rattle.mu_tree.specs.Names.{is_among}
use Rattle.mu_tree.specs.declared.trees.Tree.{Tree}
use Rattle.mu_tree.specs.declared.claim.Kind.TheVariants.{E}
use Rattle.mu_tree.specs.declared.claim.TypedVar.{TypedVar}
use Rattle.mu_tree.specs.declared.claim.Definition.{Definition}
use Rattle.mu_tree.specs.declared.why.Ref.{Ref}
use Rattle.mu_tree.specs.declared.why.Ref.TheVariants as reference
use Rattle.mu_tree.specs.declared.why.Given.{Given}
use Rattle.mu_tree.specs.declared.why.Why.{Why}
use Rattle.mu_tree.specs.declared.why.Why.TheVariants as why
use Rattle.mu_decl.specs.Contexts.{World}
use Rattle.mu_decl.specs.Claims.{names_of, scope_of, types_formed, same_occurrence, claim_occurrences, all_occurrences, type_occurrences}
use Rattle.mu_decl.specs.Formation.{is_formed, occurrences, expression}
use Rattle.mu_decl.specs.Nameless.{nameless}
use Rattle.mu_decl.specs.Unfolding.{unfolded, delta_of}
use Rattle.mu_decl.specs.declared.bare.Bare.{Bare}
use Rattle.mu_decl.specs.declared.declaration.ConstDecl.{ConstDecl}
use Rattle.mu_decl.specs.declared.declaration.Statement.{Statement}
use Rattle.mu_decl.specs.declared.occurring.Occurrence.{Occurrence}
use Rattle.mu_decl.proofs.SameOccurrences.{occurrence_is, occurrence_itself}
use Rattle.mu_proof.specs.declared.items.Item.{Item}
use Rattle.mu_proof.specs.declared.items.Item.TheVariants as item
use Rattle.mu_proof.specs.Proofs.{root}
use Rattle.mu_check.specs.contracts.fact.Fact as row
use Rattle.mu_check.specs.declared.cause.Cause.{Cause}
use Rattle.mu_check.specs.declared.cause.Cause.TheVariants as cause
use Rattle.mu_check.specs.declared.cause.Fault.{Fault}
use Rattle.mu_check.specs.declared.allowed.Allowed.{Allowed}
use Rattle.mu_check.specs.declared.fact.Fact.{Fact}
use Rattle.mu_check.specs.declared.fact.Fact.TheVariants as fact
use Rattle.mu_check.specs.declared.environments.Environment.{Environment}
use Rattle.mu_check.specs.Same.{equal_facts}
use Rattle.mu_check.specs.Facts.{plain_fact, hypothesis_fact}
use Rattle.mu_check.specs.Environments.{gives, is_accessible}
use Rattle.mu_check.specs.Instances.{are_distinct, expressions, metas_of, has_meta, fits, fits_at, is_instance}
use Rattle.mu_check.specs.Metas.{are_known, is_known, first_of}
use Rattle.mu_check.specs.Hypotheses.{term_typings, wanted, opened_fact, gives_this, hypothesis_cause}
use Rattle.mu_check.specs.Definitions.{definition_formed, definition_cause, defined_cause, unfolding_cause}
use Rattle.mu_check.specs.Blocks.{shadows, block_formed, block_cause}
use Rattle.mu_check.specs.Causes.{test, is_fact, rule_cause, same_cause}
use Rattle.mu_check.specs.Justifications.{refs_of, why_cause, justified_cause, line_cause}
use Rattle.mu_check.specs.Verdicts.{labelled, checked, in_order, ends, ending_cause, root_cause, allowed_by, verdict_by, verdict}
use Rattle.mu_check.specs.Places.{Place, outermost, inside, scope_at, EndsWith, IsAt, in_block, in_proof, MayCite, HasDistinctLabels}
use Rattle.mu_check.specs.Judgements.{AreKnown, IsElement, Fits, IsInstance, instance, HoldsBy, by_rule, by_hypothesis, by_sequent, by_definition, by_repeating, IsRightLine, IsRightBlock, IsRight, VerdictsAreExact}
use Rattle.mu_check.proofs.CheckedEquations.{line-fault, ending}
use Rattle.mu_check.proofs.SameLemmas.{equal_same, equal_self}
use Rattle.mu_check.proofs.Counting.{neither, distinct_names, names_distinct, passes_contained, among_contained, contained_among}
use Rattle.mu_check.proofs.Endings.{ends_with_last, last_of_ending}
use Rattle.mu_proof.proofs.ItemInduction.{item_ind}
use Rattle.mu_check.specs.Tests.{environment_at}
use Rattle.mu_check.proofs.Citing.{found_cited, cited_found}
use Rattle.mu_check.proofs.Walking.{none_at, labels_once, or_none, all_pass, block_none, block_passes, next_outermost, next_inside}

-- ---- tests
tested : (b : Bool) (c : Cause) (later : Option Cause) → test b c later ≡ None → (b ≡ true) × (later ≡ None)
tested true c later e = (refl, e)
tested false c later e = absurd (cc)

passed : (b : Bool) (c : Cause) (later : Option Cause) → b ≡ true → later ≡ None → test b c later ≡ None
passed b c later e h = ap (λ t. test t c later) e ∙ h

negated : (b : Bool) → not b ≡ true → b ≡ false
negated true e = absurd (cc)
negated false e = refl

no_elements : {A : Type 0} (xs : List A) → length xs ≡ 0 → xs ≡ []
no_elements [] e = refl
no_elements (x ∷ xs) e = absurd (omega arith)

facts_same : (f g : Fact) → equal_facts f g ≡ true → f ≡ g
facts_same = equal_same row.the_row.coded

fact_itself : (f g : Fact) → f ≡ g → equal_facts f g ≡ true
fact_itself = equal_self row.the_row.coded

is_that : (o : Option Fact) (f : Fact) → is_fact o f ≡ true → o ≡ Some f
is_that None f e = absurd (cc)
is_that (Some g) f e = ap Some (facts_same g f e)

that_is : (o : Option Fact) (f : Fact) → o ≡ Some f → is_fact o f ≡ true
that_is o f e = ap (λ p. is_fact p f) e ∙ fact_itself f f refl

many_typings : (before terms types : List Bare) → length terms ≡ length types → length (term_typings before terms types) ≡ length types
many_typings before [] [] e = refl
many_typings before [] (type ∷ types) e = absurd (omega arith)
many_typings before (t ∷ terms) [] e = absurd (omega arith)
many_typings before (t ∷ terms) (type ∷ types) e = ap suc (many_typings (before ++ t ∷ []) terms types (omega arith))

many_wanted : (terms types premises : List Bare) → length terms ≡ length types → length (wanted terms types premises) ≡ length types + length premises
many_wanted terms types premises e = omega (arith, length-append (term_typings [] terms types) (map (opened_fact terms) premises), many_typings [] terms types e, length-map premises (opened_fact terms))

module _ {A B : Type 0} (t : A → B → Bool) (R : A → B → Type 0) where
  zipped : ((x : A) (y : B) → t x y ≡ true → R x y) → (xs : List A) (ys : List B) → pointwise t xs ys ≡ true → AllZip R xs ys
  zipped told [] [] e = tt
  zipped told [] (y ∷ ys) e = absurd (cc)
  zipped told (x ∷ xs) [] e = absurd (cc)
  zipped told (x ∷ xs) (y ∷ ys) e = (told x y ((and_parts (t x y) (pointwise t xs ys) e).0), zipped told xs ys ((and_parts (t x y) (pointwise t xs ys) e).1))

  unzipped : ((x : A) (y : B) → R x y → t x y ≡ true) → (xs : List A) (ys : List B) → AllZip R xs ys → pointwise t xs ys ≡ true
  unzipped tells [] [] e = refl
  unzipped tells [] (y ∷ ys) e = absurd e
  unzipped tells (x ∷ xs) [] e = absurd e
  unzipped tells (x ∷ xs) (y ∷ ys) (h, e) = and_from (t x y) (pointwise t xs ys) (tells x y h) (unzipped tells xs ys e)

  zipped_left : (p : A → Bool) → ((x : A) (y : B) → R x y → p x ≡ true) → (xs : List A) (ys : List B) → AllZip R xs ys → list_all p xs ≡ true
  zipped_left p tells [] ys e = refl
  zipped_left p tells (x ∷ xs) [] e = absurd e
  zipped_left p tells (x ∷ xs) (y ∷ ys) (h, e) = and_from (p x) (list_all p xs) (tells x y h) (zipped_left p tells xs ys e)

module _ {A : Type 0} (t : A → Bool) (P : A → Type 0) where
  all_told : ((x : A) → t x ≡ true → P x) → (xs : List A) → list_all t xs ≡ true → AllByRecursion P xs
  all_told told [] e = tt
  all_told told (x ∷ xs) e = let parts = and_parts (t x) (list_all t xs) e in (told x parts.0, all_told told xs parts.1)

  all_tested : ((x : A) → P x → t x ≡ true) → (xs : List A) → AllByRecursion P xs → list_all t xs ≡ true
  all_tested tells [] all = refl
  all_tested tells (x ∷ xs) (h, all) = and_from _ _ (tells x h) (all_tested tells xs all)

-- ---- metavariables
module _ (w : World) (s : Statement) where
  all_known : (found : List Occurrence) → are_known (claim_occurrences w s.claim) found ≡ true → AreKnown w s found
  all_known = all_told (is_known (claim_occurrences w s.claim)) (Contains (claim_occurrences w s.claim)) (λ o e. Contains-from_any {eq = same_occurrence} occurrence_is o (claim_occurrences w s.claim) e)

  known_all : (found : List Occurrence) → AreKnown w s found → are_known (claim_occurrences w s.claim) found ≡ true
  known_all = all_tested (is_known (claim_occurrences w s.claim)) (Contains (claim_occurrences w s.claim)) (λ o. passes_contained (same_occurrence o) o (occurrence_itself o) (claim_occurrences w s.claim))

  known_apart : (front back : List Occurrence) → are_known (claim_occurrences w s.claim) (front ++ back) ≡ true → (are_known (claim_occurrences w s.claim) front ≡ true) × (are_known (claim_occurrences w s.claim) back ≡ true)
  known_apart front back e = and_parts (are_known (claim_occurrences w s.claim) front) (are_known (claim_occurrences w s.claim) back) (sym (list_all-append (is_known (claim_occurrences w s.claim)) front back) ∙ e)

  known_together : (front back : List Occurrence) → are_known (claim_occurrences w s.claim) front ≡ true → are_known (claim_occurrences w s.claim) back ≡ true → are_known (claim_occurrences w s.claim) (front ++ back) ≡ true
  known_together front back e h = list_all-append (is_known (claim_occurrences w s.claim)) front back ∙ and_from _ _ e h

-- ---- one line, where what is found is what may be cited
module _ (w : World) (s : Statement) (place : Place) where
  abbrev here : Environment
  here = environment_at s place

  abbrev Found : Type 0
  Found = (x : Ref) (f : Fact) → MayCite s place x f → gives here x ≡ Some f

  cited : (x : Ref) (f : Fact) → gives here x ≡ Some f → MayCite s place x f
  cited = found_cited s place

  found_accessible : (x : Ref) (f : Fact) → gives here x ≡ Some f → is_accessible here x ≡ true
  found_accessible x f e = ap is_some e

  -- terms
  elements : (ts : List Tree) → list_all (is_formed w (w.seen s.theory) (map expression (scope_at place)) E) ts ≡ true → are_known (claim_occurrences w s.claim) (all_occurrences w ts) ≡ true → AllByRecursion (IsElement w s place) ts
  elements [] e h = tt
  elements (t ∷ ts) e h =
      let formed = and_parts (is_formed w (w.seen s.theory) (map expression (scope_at place)) E t) (list_all (is_formed w (w.seen s.theory) (map expression (scope_at place)) E) ts) e in
      let known = known_apart w s (occurrences w t E) (all_occurrences w ts) h in
      (record { formed = formed.0; known = all_known w s (occurrences w t E) known.0 }, elements ts formed.1 known.1)

  elements_formed : (ts : List Tree) → AllByRecursion (IsElement w s place) ts → list_all (is_formed w (w.seen s.theory) (map expression (scope_at place)) E) ts ≡ true
  elements_formed [] all = refl
  elements_formed (t ∷ ts) (e, all) = and_from _ _ e.formed (elements_formed ts all)

  elements_known : (ts : List Tree) → AllByRecursion (IsElement w s place) ts → are_known (claim_occurrences w s.claim) (all_occurrences w ts) ≡ true
  elements_known [] all = refl
  elements_known (t ∷ ts) (e, all) = known_together w s (occurrences w t E) (all_occurrences w ts) (known_all w s (occurrences w t E) e.known) (elements_known ts all)

  -- instances
  fits_told : (all : List Occurrence) (g : Given) (o : Option Occurrence) → first_of all g.meta ≡ o → fits_at w (allowed_by w s) (scope_at place) g o ≡ true → Fits w s place all g
  fits_told all g None e h = absurd (cc)
  fits_told all g (Some o) e h =
      let known = and_parts (nat_eq o.count (length g.params) && are_distinct g.params && is_formed w (w.seen s.theory) (expressions (scope_at place) g.params) o.kind g.body) (are_known (claim_occurrences w s.claim) (occurrences w g.body o.kind)) h in
      let formed = and_parts (nat_eq o.count (length g.params) && are_distinct g.params) (is_formed w (w.seen s.theory) (expressions (scope_at place) g.params) o.kind g.body) known.0 in
      let distinct = and_parts (nat_eq o.count (length g.params)) (are_distinct g.params) formed.0 in
      record {
        first = o;
        there = e;
        many = eqb-true o.count (length g.params) distinct.0;
        distinct = distinct_names g.params distinct.1;
        formed = formed.1;
        known = all_known w s (occurrences w g.body o.kind) known.1;
      }

  fits_tested : (all : List Occurrence) (g : Given) → Fits w s place all g → fits w (allowed_by w s) (scope_at place) all g ≡ true
  fits_tested all g f =
      ap (fits_at w (allowed_by w s) (scope_at place) g) f.there
      ∙ and_from _ _ (and_from _ _ (and_from _ _ (eq-eqb f.first.count (length g.params) f.many) (names_distinct g.params f.distinct)) f.formed) (known_all w s (occurrences w g.body f.first.kind) f.known)

  instance_told : (all : List Occurrence) (given : List Given) → is_instance w (allowed_by w s) (scope_at place) all given ≡ true → IsInstance w s place all given
  instance_told all given h =
      let whole = and_parts (list_all (fits w (allowed_by w s) (scope_at place) all) given && are_distinct (metas_of given)) (list_all (has_meta (metas_of given)) all) h in
      let once = and_parts (list_all (fits w (allowed_by w s) (scope_at place) all) given) (are_distinct (metas_of given)) whole.0 in
      record {
        fits = all_told (fits w (allowed_by w s) (scope_at place) all) (Fits w s place all) (λ g t. fits_told all g (first_of all g.meta) refl t) given once.0;
        once = distinct_names (metas_of given) once.1;
        whole = all_told (has_meta (metas_of given)) (λ o. Contains (metas_of given) o.meta) (λ o. among_contained (metas_of given) o.meta) all whole.1;
      }

  instance_tested : (all : List Occurrence) (given : List Given) → IsInstance w s place all given → is_instance w (allowed_by w s) (scope_at place) all given ≡ true
  instance_tested all given i =
      and_from _ _
      (and_from _ _ (all_tested (fits w (allowed_by w s) (scope_at place) all) (Fits w s place all) (fits_tested all) given i.fits) (names_distinct (metas_of given) i.once))
      (all_tested (has_meta (metas_of given)) (λ o. Contains (metas_of given) o.meta) (λ o. contained_among (metas_of given) o.meta) all i.whole)

  -- ---- what no test refuses holds
  rule_holds : (t : Tree) (x : List ℕ) (refs : List Ref) (given : List Given) (o : Option Statement) → finite.get w.rules x ≡ o → rule_cause w (allowed_by w s) here t refs given o ≡ None → HoldsBy w s place t (why.Rule x None refs given)
  rule_holds t x refs given None e h = absurd (cc)
  rule_holds t x refs given (Some by) e h =
      let seen = tested (is_among (w.seen s.theory) by.theory) cause.NotVisible _ h in
      let counted = tested (nat_eq (length refs) (length by.claim.hyps)) cause.WrongCount _ seen.1 in
      let fit = tested (is_instance w (allowed_by w s) (scope_at place) (claim_occurrences w by.claim) given) cause.IllFormedInstance _ counted.1 in
      let met = tested (pointwise (λ y k. is_fact (gives here y) (instance w s place given (hypothesis_fact k))) refs by.claim.hyps) cause.HypothesisDiffers _ fit.1 in
      let concluded = tested (equal_facts (plain_fact (scope_at place) t) (instance w s place given (plain_fact [] by.claim.conclusion))) cause.ConclusionDiffers None met.1 in
      by_rule x refs given by e (among_contained (w.seen s.theory) by.theory seen.0) (instance_told (claim_occurrences w by.claim) given fit.0)
      (zipped (λ y k. is_fact (gives here y) (instance w s place given (hypothesis_fact k))) (λ y k. MayCite s place y (instance w s place given (hypothesis_fact k))) (λ y k m. cited y (instance w s place given (hypothesis_fact k)) (is_that (gives here y) (instance w s place given (hypothesis_fact k)) m)) refs by.claim.hyps met.0)
      (facts_same (plain_fact (scope_at place) t) (instance w s place given (plain_fact [] by.claim.conclusion)) concluded.0)

  plain_holds : (t : Tree) (n : ℕ) (terms : List Tree) (refs : List Ref) (h : Bare) → terms ≡ [] → refs ≡ [] → MayCite s place (reference.Hypothesis n) (fact.Plain h) → plain_fact (scope_at place) t ≡ fact.Plain h → HoldsBy w s place t (why.Hypothesis n terms refs)
  plain_holds t n terms refs h e k m same = subst (λ ts. HoldsBy w s place t (why.Hypothesis n ts refs)) (sym e) (subst (λ xs. HoldsBy w s place t (why.Hypothesis n [] xs)) (sym k) (by_hypothesis n h m same))

  hypothesis_holds : (t : Tree) (n : ℕ) (terms : List Tree) (refs : List Ref) (o : Option Fact) → gives here (reference.Hypothesis n) ≡ o → hypothesis_cause w (allowed_by w s) here t terms refs o ≡ None → HoldsBy w s place t (why.Hypothesis n terms refs)
  hypothesis_holds t n terms refs None e h = absurd (cc)
  hypothesis_holds t n terms refs (Some (fact.Plain b)) e h =
      let counted = tested (nat_eq (length terms) 0 && nat_eq (length refs) 0) cause.WrongCount _ h in
      let same = tested (equal_facts (plain_fact (scope_at place) t) (fact.Plain b)) cause.ConclusionDiffers None counted.1 in
      plain_holds t n terms refs b
      (no_elements terms (eqb-true (length terms) 0 ((and_parts _ (nat_eq (length refs) 0) counted.0).0)))
      (no_elements refs (eqb-true (length refs) 0 ((and_parts (nat_eq (length terms) 0) _ counted.0).1)))
      (cited (reference.Hypothesis n) (fact.Plain b) e)
      (facts_same (plain_fact (scope_at place) t) (fact.Plain b) same.0)
  hypothesis_holds t n terms refs (Some (fact.Sequent types premises upshot)) e h =
      let counted = tested (nat_eq (length terms) (length types) && nat_eq (length refs) (length types + length premises)) cause.WrongCount _ h in
      let formed = tested (list_all (is_formed w (w.seen s.theory) (map expression (scope_at place)) E) terms && are_known (claim_occurrences w s.claim) (all_occurrences w terms)) cause.IllFormedInstance _ counted.1 in
      let met = tested (pointwise (gives_this here) refs (wanted (map (nameless (scope_at place) []) terms) types premises)) cause.HypothesisDiffers _ formed.1 in
      let same = tested (equal_facts (plain_fact (scope_at place) t) (opened_fact (map (nameless (scope_at place) []) terms) upshot)) cause.ConclusionDiffers None met.1 in
      by_sequent n terms refs types premises upshot
      (cited (reference.Hypothesis n) (fact.Sequent types premises upshot) e)
      (eqb-true (length terms) (length types) ((and_parts _ (nat_eq (length refs) (length types + length premises)) counted.0).0))
      (elements terms ((and_parts _ (are_known (claim_occurrences w s.claim) (all_occurrences w terms)) formed.0).0) ((and_parts (list_all (is_formed w (w.seen s.theory) (map expression (scope_at place)) E) terms) _ formed.0).1))
      (zipped (gives_this here) (MayCite s place) (λ y f m. cited y f (is_that (gives here y) f m)) refs (wanted (map (nameless (scope_at place) []) terms) types premises) met.0)
      (facts_same (plain_fact (scope_at place) t) (opened_fact (map (nameless (scope_at place) []) terms) upshot) same.0)

  plain_same : (a b : Bare) → fact.Plain a ≡ fact.Plain b → a ≡ b
  plain_same a b e = cc

  unfolding_holds : (t : Tree) (c : List ℕ) (on : Ref) (d : Definition) (k : ConstDecl) (o : Option Fact) → finite.get w.definitions c ≡ Some d → finite.get w.constants c ≡ Some k → is_among (w.seen s.theory) k.theory ≡ true → definition_formed w k d ≡ true → gives here on ≡ o → is_some o ≡ true → unfolding_cause here t (delta_of c d) o ≡ None → HoldsBy w s place t (why.Definition c on)
  unfolding_holds t c on d k None ed ek seen formed e there h = absurd (cc)
  unfolding_holds t c on d k (Some (fact.Sequent types premises upshot)) ed ek seen formed e there h = absurd (cc)
  unfolding_holds t c on d k (Some (fact.Plain b)) ed ek seen formed e there h =
      let same = tested (equal_facts (fact.Plain (unfolded (delta_of c d) (nameless (scope_at place) [] t))) (fact.Plain (unfolded (delta_of c d) b))) cause.ConclusionDiffers None h in
      by_definition c on d k b ed ek (among_contained (w.seen s.theory) k.theory seen) formed (cited on (fact.Plain b) e) (plain_same _ _ (facts_same (fact.Plain (unfolded (delta_of c d) (nameless (scope_at place) [] t))) (fact.Plain (unfolded (delta_of c d) b)) same.0))

  defined_holds : (t : Tree) (c : List ℕ) (on : Ref) (d : Definition) (o : Option ConstDecl) → finite.get w.definitions c ≡ Some d → finite.get w.constants c ≡ o → is_accessible here on ≡ true → defined_cause w (allowed_by w s) here t c (gives here on) d o ≡ None → HoldsBy w s place t (why.Definition c on)
  defined_holds t c on d None ed ek there h = absurd (cc)
  defined_holds t c on d (Some k) ed ek there h =
      let seen = tested (is_among (w.seen s.theory) k.theory) cause.NotVisible _ h in
      let formed = tested (definition_formed w k d) cause.IllFormedDefinition _ seen.1 in
      unfolding_holds t c on d k (gives here on) ed ek seen.0 formed.0 refl there formed.1

  definition_holds : (t : Tree) (c : List ℕ) (on : Ref) (o : Option Definition) → finite.get w.definitions c ≡ o → is_accessible here on ≡ true → definition_cause w (allowed_by w s) here t c (gives here on) o ≡ None → HoldsBy w s place t (why.Definition c on)
  definition_holds t c on None e there h = absurd (cc)
  definition_holds t c on (Some d) e there h = defined_holds t c on d (finite.get w.constants c) e refl there h

  same_holds : (t : Tree) (on : Ref) (o : Option Fact) → gives here on ≡ o → is_some o ≡ true → same_cause here t o ≡ None → HoldsBy w s place t (why.Same on)
  same_holds t on None e there h = absurd (cc)
  same_holds t on (Some (fact.Sequent types premises upshot)) e there h = absurd (cc)
  same_holds t on (Some (fact.Plain b)) e there h =
      let same = tested (equal_facts (plain_fact (scope_at place) t) (fact.Plain b)) cause.ConclusionDiffers None h in
      by_repeating on (cited on (plain_fact (scope_at place) t) (e ∙ ap Some (sym (facts_same (plain_fact (scope_at place) t) (fact.Plain b) same.0))))

  reason_holds : (t : Tree) (y : Why) → list_all (is_accessible here) (refs_of y) ≡ true → why_cause w (allowed_by w s) here t y ≡ None → HoldsBy w s place t y
  reason_holds t (why.Rule x None refs given) there h = rule_holds t x refs given (finite.get w.rules x) refl h
  reason_holds t (why.Rule x (Some m) refs given) there h = absurd (cc)
  reason_holds t (why.Hypothesis n terms refs) there h = hypothesis_holds t n terms refs (gives here (reference.Hypothesis n)) refl h
  reason_holds t (why.Definition c on) there h = definition_holds t c on (finite.get w.definitions c) refl ((and_parts (is_accessible here on) true there).0) h
  reason_holds t (why.Same on) there h = same_holds t on (gives here on) refl ((and_parts (is_accessible here on) true there).0) h

  right_line : (t : Tree) (y : Option Why) → line_cause w (allowed_by w s) here t y ≡ None → IsRightLine w s place t y
  right_line t None h = absurd (cc)
  right_line t (Some y) h =
      let formed = tested (is_formed w (w.seen s.theory) (map expression (scope_at place)) E t) cause.IllFormedLine _ h in
      let known = tested (are_known (claim_occurrences w s.claim) (occurrences w t E)) cause.ForeignMeta _ formed.1 in
      let there = tested (list_all (is_accessible here) (refs_of y)) cause.NotAccessible _ known.1 in
      record { element = record { formed = formed.0; known = all_known w s (occurrences w t E) known.0 }; reason = y; given = refl; holds = reason_holds t y there.0 there.1 }

  -- ---- what holds no test refuses
  module _ (found : Found) where
    accessible : (x : Ref) (f : Fact) → MayCite s place x f → is_accessible here x ≡ true
    accessible x f m = found_accessible x f (found x f m)

    -- where every reference may be cited, what is left is the justification's own tests
    justified : (t : Tree) (y : Why) → list_all (is_accessible here) (refs_of y) ≡ true → why_cause w (allowed_by w s) here t y ≡ None → justified_cause w (allowed_by w s) here t y ≡ None
    justified t y there own = passed (list_all (is_accessible here) (refs_of y)) cause.NotAccessible (why_cause w (allowed_by w s) here t y) there own

    alone : (x : Ref) (f : Fact) → MayCite s place x f → list_all (is_accessible here) (x ∷ []) ≡ true
    alone x f m = and_from (is_accessible here x) true (accessible x f m) refl

    none_by : (t : Tree) (y : Why) → HoldsBy w s place t y → justified_cause w (allowed_by w s) here t y ≡ None
    none_by t y (by_rule x refs given by e seen fit met concluded) =
        justified t (why.Rule x None refs given)
        (zipped_left (λ z k. is_fact (gives here z) (instance w s place given (hypothesis_fact k))) (λ z k. MayCite s place z (instance w s place given (hypothesis_fact k))) (is_accessible here) (λ z k m. accessible z (instance w s place given (hypothesis_fact k)) m) refs by.claim.hyps met)
        (ap (λ o. rule_cause w (allowed_by w s) here t refs given o) e
        ∙ passed (is_among (w.seen s.theory) by.theory) cause.NotVisible _ (contained_among (w.seen s.theory) by.theory seen)
        (passed (nat_eq (length refs) (length by.claim.hyps)) cause.WrongCount _ (eq-eqb (length refs) (length by.claim.hyps) (sym (AllZip-long (λ z k. MayCite s place z (instance w s place given (hypothesis_fact k))) refs by.claim.hyps met)))
        (passed (is_instance w (allowed_by w s) (scope_at place) (claim_occurrences w by.claim) given) cause.IllFormedInstance _ (instance_tested (claim_occurrences w by.claim) given fit)
        (passed (pointwise (λ z k. is_fact (gives here z) (instance w s place given (hypothesis_fact k))) refs by.claim.hyps) cause.HypothesisDiffers _
        (unzipped (λ z k. is_fact (gives here z) (instance w s place given (hypothesis_fact k))) (λ z k. MayCite s place z (instance w s place given (hypothesis_fact k))) (λ z k m. that_is (gives here z) (instance w s place given (hypothesis_fact k)) (found z (instance w s place given (hypothesis_fact k)) m)) refs by.claim.hyps met)
        (passed (equal_facts (plain_fact (scope_at place) t) (instance w s place given (plain_fact [] by.claim.conclusion))) cause.ConclusionDiffers None (fact_itself (plain_fact (scope_at place) t) (instance w s place given (plain_fact [] by.claim.conclusion)) concluded) refl)))))
    none_by t y (by_hypothesis n h m same) =
        justified t (why.Hypothesis n [] []) refl
        (ap (λ o. hypothesis_cause w (allowed_by w s) here t [] [] o) (found (reference.Hypothesis n) (fact.Plain h) m)
        ∙ passed (equal_facts (plain_fact (scope_at place) t) (fact.Plain h)) cause.ConclusionDiffers None (fact_itself (plain_fact (scope_at place) t) (fact.Plain h) same) refl)
    none_by t y (by_sequent n terms refs types premises upshot m many formed met same) =
        justified t (why.Hypothesis n terms refs)
        (zipped_left (gives_this here) (MayCite s place) (is_accessible here) accessible refs (wanted (map (nameless (scope_at place) []) terms) types premises) met)
        (ap (λ o. hypothesis_cause w (allowed_by w s) here t terms refs o) (found (reference.Hypothesis n) (fact.Sequent types premises upshot) m)
        ∙ passed (nat_eq (length terms) (length types) && nat_eq (length refs) (length types + length premises)) cause.WrongCount _
        (and_from (nat_eq (length terms) (length types)) _ (eq-eqb (length terms) (length types) many) (eq-eqb (length refs) (length types + length premises) (sym (AllZip-long (MayCite s place) refs (wanted (map (nameless (scope_at place) []) terms) types premises) met) ∙ many_wanted (map (nameless (scope_at place) []) terms) types premises (length-map terms (nameless (scope_at place) []) ∙ many))))
        (passed (list_all (is_formed w (w.seen s.theory) (map expression (scope_at place)) E) terms && are_known (claim_occurrences w s.claim) (all_occurrences w terms)) cause.IllFormedInstance _
        (and_from _ _ (elements_formed terms formed) (elements_known terms formed))
        (passed (pointwise (gives_this here) refs (wanted (map (nameless (scope_at place) []) terms) types premises)) cause.HypothesisDiffers _
        (unzipped (gives_this here) (MayCite s place) (λ z f c. that_is (gives here z) f (found z f c)) refs (wanted (map (nameless (scope_at place) []) terms) types premises) met)
        (passed (equal_facts (plain_fact (scope_at place) t) (opened_fact (map (nameless (scope_at place) []) terms) upshot)) cause.ConclusionDiffers None (fact_itself (plain_fact (scope_at place) t) (opened_fact (map (nameless (scope_at place) []) terms) upshot) same) refl))))
    none_by t y (by_definition c on d k given ed ek seen formed m same) =
        justified t (why.Definition c on) (alone on (fact.Plain given) m)
        (ap (λ o. definition_cause w (allowed_by w s) here t c (gives here on) o) ed
        ∙ ap (λ o. defined_cause w (allowed_by w s) here t c (gives here on) d o) ek
        ∙ passed (is_among (w.seen s.theory) k.theory) cause.NotVisible _ (contained_among (w.seen s.theory) k.theory seen)
        (passed (definition_formed w k d) cause.IllFormedDefinition _ formed
        (ap (λ o. unfolding_cause here t (delta_of c d) o) (found on (fact.Plain given) m)
        ∙ passed (equal_facts (fact.Plain (unfolded (delta_of c d) (nameless (scope_at place) [] t))) (fact.Plain (unfolded (delta_of c d) given))) cause.ConclusionDiffers None (fact_itself _ _ (ap fact.Plain same)) refl)))
    none_by t y (by_repeating on m) =
        justified t (why.Same on) (alone on (plain_fact (scope_at place) t) m)
        (ap (λ o. same_cause here t o) (found on (plain_fact (scope_at place) t) m)
        ∙ passed (equal_facts (plain_fact (scope_at place) t) (plain_fact (scope_at place) t)) cause.ConclusionDiffers None (fact_itself (plain_fact (scope_at place) t) (plain_fact (scope_at place) t) refl) refl)

    none_right : (t : Tree) (y : Option Why) → IsRightLine w s place t y → line_cause w (allowed_by w s) here t y ≡ None
    none_right t y right =
        ap (λ o. line_cause w (allowed_by w s) here t o) right.given
        ∙ passed (is_formed w (w.seen s.theory) (map expression (scope_at place)) E t) cause.IllFormedLine _ right.element.formed
        (passed (are_known (claim_occurrences w s.claim) (occurrences w t E)) cause.ForeignMeta _ (known_all w s (occurrences w t E) right.element.known) (none_by t right.reason right.holds))

-- ---- blocks and the whole proof
unlabelled : (l : List ℕ) (o : Option Cause) → labelled l o ≡ None → o ≡ None
unlabelled l None e = refl
unlabelled l (Some c) e = absurd (cc)

ends_with : (o : Option Tree) → ending_cause o ≡ None → (t : Tree) × (o ≡ Some t)
ends_with None e = absurd (cc)
ends_with (Some t) e = (t, refl)

module _ (w : World) (s : Statement) where
  unshadowed : (scope : List (List ℕ)) (vars : List TypedVar) → list_any (shadows scope) vars ≡ false → AllByRecursion (λ v. Contains scope v.name → ⊥) vars
  unshadowed scope [] e = tt
  unshadowed scope (v ∷ vars) e =
      let none = neither (is_among scope v.name) (list_any (shadows scope) vars) e in
      ((λ c. both_ways (is_among scope v.name) none.0 (contained_among scope v.name c)), unshadowed scope vars none.1)

  none_shadows : (scope : List (List ℕ)) (vars : List TypedVar) → AllByRecursion (λ v. Contains scope v.name → ⊥) vars → list_any (shadows scope) vars ≡ false
  none_shadows scope [] all = refl
  none_shadows scope (v ∷ vars) (h, all) = ap (λ b. b || list_any (shadows scope) vars) (false_from_ne_true (is_among scope v.name) (λ e. h (among_contained scope v.name e))) ∙ none_shadows scope vars all

  right_block : (place : Place) (l : List ℕ) (vars : List TypedVar) (trees : List Tree) (items : List Item) → (checked w (allowed_by w s) (item.Block l vars trees items)).fault (environment_at s place) ≡ None → IsRightBlock w s place l vars trees items
  right_block place l vars trees items e =
      let passes = block_passes w (allowed_by w s) s place l vars trees items e in
      let fresh = tested (not (list_any (shadows (scope_at place)) vars)) cause.ShadowedVariable _ (unlabelled l (block_cause w (allowed_by w s) (scope_at place) vars trees) passes.0) in
      let formed = tested (block_formed w (allowed_by w s) (scope_at place) vars trees) cause.IllFormedBox _ fresh.1 in
      let parts = and_parts (types_formed w (w.seen s.theory) (map expression (scope_at place)) vars) (list_all (is_formed w (w.seen s.theory) (map expression (scope_at place) ++ scope_of vars) E) trees) formed.0 in
      let foreign = tested (are_known (claim_occurrences w s.claim) (flat_map (type_occurrences w) vars ++ all_occurrences w trees)) cause.ForeignMeta None formed.1 in
      let known = known_apart w s (flat_map (type_occurrences w) vars) (all_occurrences w trees) foreign.0 in
      let last = ends_with (ends (map (checked w (allowed_by w s)) items)) (unlabelled l _ passes.2) in
      record {
        fresh = unshadowed (scope_at place) vars (negated _ fresh.0);
        types = parts.0;
        known = all_known w s (flat_map (type_occurrences w) vars) known.0;
        assumptions = elements w s (inside place l vars trees []) trees (subst (λ scope. list_all (is_formed w (w.seen s.theory) scope E) trees ≡ true) (sym (map-append expression (scope_at place) (names_of vars))) parts.1) known.1;
        last = last.0;
        ends = ends_with_last items last.0 (sym (ending w (allowed_by w s) items) ∙ last.1);
      }

  own_none : (place : Place) (l : List ℕ) (vars : List TypedVar) (trees : List Tree) (items : List Item) → IsRightBlock w s place l vars trees items → labelled l (block_cause w (allowed_by w s) (scope_at place) vars trees) ≡ None
  own_none place l vars trees items right =
      let formed : list_all (is_formed w (w.seen s.theory) (map expression (scope_at place) ++ scope_of vars) E) trees ≡ true = subst (λ scope. list_all (is_formed w (w.seen s.theory) scope E) trees ≡ true) (map-append expression (scope_at place) (names_of vars)) (elements_formed w s (inside place l vars trees []) trees right.assumptions) in
      ap (labelled l)
      (passed (not (list_any (shadows (scope_at place)) vars)) cause.ShadowedVariable _ (ap not (none_shadows (scope_at place) vars right.fresh))
      (passed (block_formed w (allowed_by w s) (scope_at place) vars trees) cause.IllFormedBox _ (and_from _ _ right.types formed)
      (passed (are_known (claim_occurrences w s.claim) (flat_map (type_occurrences w) vars ++ all_occurrences w trees)) cause.ForeignMeta None
      (known_together w s (flat_map (type_occurrences w) vars) (all_occurrences w trees) (known_all w s (flat_map (type_occurrences w) vars) right.known) (elements_known w s (inside place l vars trees []) trees right.assumptions))
      refl)))

  ending_none : (l : List ℕ) (items : List Item) (t : Tree) → EndsWith items t → labelled l (ending_cause (ends (map (checked w (allowed_by w s)) items))) ≡ None
  ending_none l items t e = ap (λ o. labelled l (ending_cause o)) (ending w (allowed_by w s) items ∙ last_of_ending items t e)

  root_right : (o : Option Tree) (t : Tree) → root_cause t o ≡ None → (u : Tree) × (o ≡ Some u) × (plain_fact [] u ≡ plain_fact [] t)
  root_right None t e = absurd (cc)
  root_right (Some u) t e = (u, refl, facts_same (plain_fact [] u) (plain_fact [] t) (tested (equal_facts (plain_fact [] u) (plain_fact [] t)) cause.ConclusionDiffers None e).0)

  root_none : (o : Option Tree) (t u : Tree) → o ≡ Some u → plain_fact [] u ≡ plain_fact [] t → root_cause t o ≡ None
  root_none o t u e same = ap (root_cause t) e ∙ passed (equal_facts (plain_fact [] u) (plain_fact [] t)) cause.ConclusionDiffers None (fact_itself (plain_fact [] u) (plain_fact [] t) same) refl

module _ (w : World) (r : List ℕ) (proof : List Item) where
  right_by : (o : Option Statement) → finite.get w.rules r ≡ o → verdict_by w proof o ≡ None → IsRight w r proof
  right_by None e h = absurd (cc)
  right_by (Some s) e h =
      let parts = or_none (in_order (map (checked w (allowed_by w s)) proof) (environment_at s (outermost []))) _ h in
      let none : (place : Place) (i : Item) → IsAt proof place i → (checked w (allowed_by w s) i).fault (environment_at s place) ≡ None = none_at w (allowed_by w s) s proof parts.0 in
      let last = root_right w s (ends (map (checked w (allowed_by w s)) proof)) s.claim.conclusion (unlabelled _ _ parts.1) in
      record {
        rule = s;
        there = e;
        lines = λ place l t y at. right_line w s place t y (unlabelled l _ (sym (line-fault w (allowed_by w s) l t y (environment_at s place)) ∙ none place (item.Line l t y) at));
        blocks = λ place l vars trees items at. right_block w s place l vars trees items (none place (item.Block l vars trees items) at);
        last = last.0;
        ends = ends_with_last proof last.0 (sym (ending w (allowed_by w s) proof) ∙ last.1);
        concludes = last.2;
      }

  module _ (apart : HasDistinctLabels proof) (right : IsRight w r proof) where
    abbrev allowed : Allowed
    allowed = allowed_by w right.rule

    abbrev Passes : Item → Type 0
    Passes i = (place : Place) → IsAt proof place i → (checked w allowed i).fault (environment_at right.rule place) ≡ None

    found_at : (place : Place) (i : Item) → IsAt proof place i → Found w right.rule place
    found_at place i at = cited_found right.rule place (labels_once proof apart place i at)

    line_passes : (l : List ℕ) (t : Tree) (y : Option Why) → Passes (item.Line l t y)
    line_passes l t y place at = line-fault w allowed l t y (environment_at right.rule place) ∙ ap (labelled l) (none_right w right.rule place (found_at place (item.Line l t y) at) t y (right.lines place l t y at))

    inner_passes : (place : Place) (l : List ℕ) (vars : List TypedVar) (trees : List Tree) (items : List Item) → AllByRecursion Passes items → IsAt proof place (item.Block l vars trees items) → in_order (map (checked w allowed) items) (environment_at right.rule (inside place l vars trees [])) ≡ None
    inner_passes place l vars trees items all at =
        all_pass w allowed right.rule (inside place l vars trees) (next_inside w allowed right.rule place l vars trees) items Passes
        (λ front i later e fine. fine (inside place l vars trees front) (in_block place l vars trees front i later (subst (λ xs. IsAt proof place (item.Block l vars trees xs)) e at)))
        [] items refl all

    block_fine : (l : List ℕ) (vars : List TypedVar) (trees : List Tree) (items : List Item) → AllByRecursion Passes items → Passes (item.Block l vars trees items)
    block_fine l vars trees items all place at =
        let own = right.blocks place l vars trees items at in
        block_none w allowed right.rule place l vars trees items (own_none w right.rule place l vars trees items own) (inner_passes place l vars trees items all at) (ending_none w right.rule l items own.last own.ends)

    item_passes : (i : Item) → Passes i
    item_passes = item_ind Passes line_passes block_fine

    each_passes : (items : List Item) → AllByRecursion Passes items
    each_passes [] = tt
    each_passes (i ∷ items) = (item_passes i, each_passes items)

    all_in_order : in_order (map (checked w allowed) proof) (environment_at right.rule (outermost [])) ≡ None
    all_in_order =
        all_pass w allowed right.rule outermost (next_outermost w allowed right.rule) proof Passes
        (λ front i later e fine. fine (outermost front) (in_proof front i later e))
        [] proof refl (each_passes proof)

    none_found : verdict w r proof ≡ None
    none_found =
        ap (verdict_by w proof) right.there
        ∙ ap (λ o. option_or o (labelled root (root_cause right.rule.claim.conclusion (ends (map (checked w allowed) proof))))) all_in_order
        ∙ ap (labelled root) (root_none w right.rule (ends (map (checked w allowed) proof)) right.rule.claim.conclusion right.last (ending w allowed proof ∙ last_of_ending proof right.last right.ends) right.concludes)

pub verdicts_are_exact : VerdictsAreExact
unfolding VerdictsAreExact
verdicts_are_exact w r proof = (right_by w r proof (finite.get w.rules r) refl, none_found w r proof)

-- so what is found in a proof is none exactly where it is right
pub found_right : {X : Type 0} (w : World) (r : List ℕ) (items proof : List Item) → items ≡ proof → HasDistinctLabels proof → (result : Result (Option Fault) X) → IfOk result (λ found. found ≡ verdict w r items) → IfOk result (λ found. (found ≡ None) ↔ IsRight w r proof)
found_right w r items proof same apart (Err x) is = tt
found_right w r items proof same apart (Ok found) is =
    let e : found ≡ verdict w r proof = is ∙ ap (verdict w r) same in
    (λ none. right_by w r proof (finite.get w.rules r) refl (sym e ∙ none), λ right. e ∙ none_found w r proof apart right)
