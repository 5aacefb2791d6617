-- What tests tell, and what follows where they refuse nothing.
use Rattle.std.proofs.Common.{leb-false, ◌≡◌, ◌<◌, refl, sym, ap, ◌∙◌, ℕ, Bool, true, false, List, Some, None}
use Rattle.std.specs.Prelude.{◌||◌, if◌then◌else◌, not, nat_le, Option, Result, Ok, Err, OnOk, IfErr}
use Rattle.std.specs.Result.{IsErr, IsErrAnd}
use Rattle.std.specs.Option.{option_map, option_or}
use Rattle.std.proofs.lemmas.Bool.{false≢true}
use Rattle.mu_tree.specs.Maps.{MapOf}
use Rattle.mu_tree.specs.declared.refusal.CountWord.{CountWord}
use Rattle.mu_tree.specs.declared.refusal.Refusal.{Refusal}
use Rattle.mu_tree.specs.declared.refusal.Refusal.TheVariants.{Circle, TooMany}
use Rattle.mu_tree.specs.declared.why.Why.{Why}
use Rattle.mu_defs.specs.Owned.{is_used, IsUnused}
use Rattle.mu_defs.specs.declared.fault.CircleFault.{CircleFault}
use Rattle.mu_defs.specs.declared.fault.CircleFault.TheVariants as circle
use Rattle.mu_defs.proofs.OwnedLemmas.{unused_exact}
use Rattle.mu_flat.specs.Edits.{circle_refusal, line_refusal}
use Rattle.mu_flat.specs.Entries.{Entries}
use Rattle.mu_flat.specs.ProofTables.{ProofsOf}
use Rattle.mu_flat.specs.Stores.{IsEmptyUnit}
use Rattle.mu_flat.specs.declared.edits.EditFault.{EditFault}
use Rattle.mu_flat.specs.declared.edits.EditFault.TheVariants as fault
use Rattle.mu_edit.specs.Changes.{Tests, TellsCircle, Does, unknown_unless, taken_where, builtin_where, not_empty_where, too_many, holds_something}

-- ---- tests that refuse nothing
pub first : (a b : Option Refusal) → option_or a b ≡ None → a ≡ None
first None b is = refl
first (Some refused) b is = cc

pub second : (a b : Option Refusal) → option_or a b ≡ None → b ≡ None
second None b is = is
second (Some refused) b is = cc

pub is_there : (there : Bool) (name : List ℕ) → unknown_unless there name ≡ None → there ≡ true
is_there true name is = refl
is_there false name is = cc

pub is_new : (there : Bool) (name : List ℕ) → taken_where there name ≡ None → there ≡ false
is_new true name is = cc
is_new false name is = refl

pub is_own : (base : Bool) (name : List ℕ) → builtin_where base name ≡ None → base ≡ false
is_own true name is = cc
is_own false name is = refl

pub is_bare : (held : Bool) (name : List ℕ) → not_empty_where held name ≡ None → held ≡ false
is_bare true name is = cc
is_bare false name is = refl

pub either_own : (stored base : Bool) → (stored || base) ≡ true → base ≡ false → stored ≡ true
either_own true base is own = refl
either_own false base is own = absurd (false≢true (sym own ∙ is))

pub no_circle : (found : Option (List ℕ)) → option_map Circle found ≡ None → found ≡ None
no_circle None is = refl
no_circle (Some name) is = cc

pub is_room : (word : CountWord) (most count : ℕ) → too_many word most count ≡ None → count < most
is_room word most count is = go (nat_le most count) refl is
  where
    go : (b : Bool) → nat_le most count ≡ b → (if b then Some (TooMany word) else None) ≡ None → count < most
    go true e free = cc
    go false e free = leb-false most count e

-- nothing stands in a unit of which no test tells that something does
pub unused : {V : Type 0} (owner : V → List ℕ) (values : MapOf V) (unit : List ℕ) → is_used owner values unit ≡ false → IsUnused owner values unit
unused owner values unit none = (unused_exact owner values unit (is_used owner values unit) refl).0 (ap not none)

pub neither : (a b : Bool) → (a || b) ≡ false → (a ≡ false) × (b ≡ false)
neither true b e = cc
neither false b e = (refl, e)

-- nor does anything where no test of both tells that something does
pub empty_unit : (e : Entries) (unit : List ℕ) → holds_something e unit ≡ false → IsEmptyUnit e unit
empty_unit e unit none = let bare = neither _ _ none in record { constants = unused (λ declared. declared.theory) e.constants unit bare.0; rules = unused (λ statement. statement.theory) e.rules unit bare.1 }

-- ---- circles
pub tells : (first_one : Option (List ℕ)) (found : Result (Unit {0}) CircleFault) → OnOk found (first_one ≡ None) → IfErr found (λ blame. (name : List ℕ) → blame ≡ circle.Circle name → first_one ≡ Some name) → TellsCircle first_one found
tells first_one (Ok done) ok err = ok
tells first_one (Err (circle.Circle name)) ok err = err name refl
tells first_one (Err circle.NoMemory) ok err = tt

-- where a test of circles refuses nothing, there is none
pub free_of : (first_one : Option (List ℕ)) (result : Result (Unit {0}) EditFault) → Tests (option_map Circle first_one) result → OnOk result (first_one ≡ None)
free_of first_one (Ok done) is = no_circle first_one is
free_of first_one (Err blame) is = tt

-- ---- one test after another
pub last_test : (reason : Option Refusal) (result : Result (Unit {0}) EditFault) → Tests reason result → Tests (option_or reason None) result
last_test None result is = is
last_test (Some refused) result is = is

pub next_test : (passed reason : Option Refusal) (result : Result (Unit {0}) EditFault) → passed ≡ None → Tests reason result → Tests (option_or passed reason) result
next_test None reason result none is = is
next_test (Some refused) reason result none is = cc

-- a reason is cited to a line that is there where that closes no circle
pub cite_tested : (proofs : ProofsOf) (rule proof label : List ℕ) (why : Why) (result : Result (Unit {0}) EditFault) → line_refusal proofs rule proof label ≡ None
    → OnOk result ((p l : List ℕ) → line_refusal proofs rule p l ≡ None → circle_refusal proofs rule p l why ≡ None)
    → IfErr result (λ blame. (refused : Refusal) → blame ≡ fault.Refused refused → (p l : List ℕ) → line_refusal proofs rule p l ≡ None → circle_refusal proofs rule p l why ≡ Some refused)
    → Tests (circle_refusal proofs rule proof label why) result
cite_tested proofs rule proof label why (Ok done) there ok err = ok proof label there
cite_tested proofs rule proof label why (Err (fault.Refused refused)) there ok err = err refused refl proof label there
cite_tested proofs rule proof label why (Err fault.NoMemory) there ok err = tt

-- where two tests refuse nothing, what comes after them counts
pub tested_so : (a b last : Option Refusal) (result : Result (Unit {0}) EditFault) → a ≡ None → b ≡ None → Tests last result → Tests (option_or a (option_or b (option_or last None))) result
tested_so a b last result first_none none is = next_test a _ result first_none (next_test b _ result none (last_test last result is))

pub done_so : (e new after : Entries) (a b last : Option Refusal) (result : Result (Unit {0}) EditFault) → a ≡ None → b ≡ None → Does e new last after result → Does e new (option_or a (option_or b (option_or last None))) after result
done_so e new after None None None (Ok done) first_none none is = is
done_so e new after None None (Some r) (Ok done) first_none none is = is
done_so e new after None None None (Err (fault.Refused refused)) first_none none is = is
done_so e new after None None (Some r) (Err (fault.Refused refused)) first_none none is = is
done_so e new after None None last (Err fault.NoMemory) first_none none is = is
done_so e new after (Some r) b last result first_none none is = cc
done_so e new after None (Some r) last result first_none none is = cc

-- what holds of each fault that is given on holds of the result that has it
pub err_given : {T E : Type 0} (r : Result T E) (P : E → Type 0) (Q : Result T E → Type 0) → IsErr r × IsErrAnd r P → ((y : E) → P y → Q (Err y)) → Q r
err_given (Ok x) P Q given f = absurd (false≢true given.0)
err_given (Err y) P Q given f = f y given.1

-- a fault of a test is one of the change
pub blame_so : (e after : Entries) (reason : Option Refusal) (y blame : EditFault) → y ≡ blame → ((refused : Refusal) → blame ≡ fault.Refused refused → reason ≡ Some refused) → Does e e reason after (Err y)
blame_so e after reason (fault.Refused refused) blame same tested = (tested refused (sym same), refl)
blame_so e after reason fault.NoMemory blame same tested = refl

-- and one of what tells of a test
pub tested_blame : (reason : Option Refusal) (y blame : EditFault) → y ≡ blame → ((refused : Refusal) → blame ≡ fault.Refused refused → reason ≡ Some refused) → Tests reason (Err y)
tested_blame reason (fault.Refused refused) blame same tested = tested refused (sym same)
tested_blame reason fault.NoMemory blame same tested = tt
