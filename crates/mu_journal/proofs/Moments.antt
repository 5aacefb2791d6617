-- The moments of calls, put together one call after another.
use Rattle.std.proofs.Common.{◌≡◌, ◌≤◌, ℕ, List, refl, sym, ◌∙◌, subst, arith, Option, Some}
use Rattle.mu_outside.specs.Disks.{Disk, IsImage, Imaged}
use Rattle.mu_outside.specs.Outsides.{Observed, Passes, Quietly, KeepsButDisk}
use Rattle.mu_outside.specs.Leaves.{Leaves}
use Rattle.mu_outside.proofs.LeavesLemmas.{at_start, one_call, then_on, widened}
use Rattle.mu_journal.specs.Opening.{Looks, Within, With}

module _ {D : Type 0} (observed : D → Observed) (moment : D → ℕ → List ℕ → List ℕ → Type 0) where
  -- one call
  pub within_one : (old new : D) (most : Option Disk) → KeepsButDisk (observed old) (observed new) → (observed old).disk_faults ≤ (observed new).disk_faults
      → Passes (observed old).clock (observed new).clock (moment old) (moment new) → Quietly most (observed old).told (moment new (observed old).clock) → Within observed moment old new most
  within_one old new most rest later time inside = record { rest = rest; moments = one_call observed moment old new _ time inside; later = later }

  -- one run of calls, and another after it
  pub within_on : (old mid new : D) (most next : Option Disk) → Within observed moment old mid most → Within observed moment mid new next → next ≡ most → Within observed moment old new most
  within_on old mid new most next first second same = record {
    rest = record {
      left = second.rest.left ∙ first.rest.left;
      told = second.rest.told ∙ first.rest.told;
      attached = second.rest.attached ∙ first.rest.attached;
      read_faults = second.rest.read_faults ∙ first.rest.read_faults;
      tell_faults = second.rest.tell_faults ∙ first.rest.tell_faults;
    };
    moments = then_on observed moment old mid new _ _ _ first.moments second.moments (λ image told p. p)
        (λ image told p. (subst (λ (d : Option Disk). Imaged d image) same p.0, sym first.rest.told ∙ p.1));
    later = omega (arith, first.later, second.later);
  }

  pub look_one : (old new : D) → (observed new).disk ≡ (observed old).disk → KeepsButDisk (observed old) (observed new) → (observed old).disk_faults ≤ (observed new).disk_faults
      → Passes (observed old).clock (observed new).clock (moment old) (moment new) → Quietly (observed old).disk (observed old).told (moment new (observed old).clock) → Looks observed moment old new
  look_one old new disk rest later time inside = record { disk = disk; within = within_one old new (observed old).disk rest later time inside }

  pub look_on : (old mid new : D) → Looks observed moment old mid → Looks observed moment mid new → Looks observed moment old new
  look_on old mid new first second = record { disk = second.disk ∙ first.disk; within = within_on old mid new (observed old).disk (observed mid).disk first.within second.within first.disk }

  -- what is so of each image that a crash may leave is so at each moment
  pub with_one : (old new : D) (P : List ℕ → Type 0) (most : Option Disk) (disk : Disk) → Within observed moment old new most → most ≡ Some disk
      → ((image : List ℕ) → IsImage disk image → P image) → Leaves observed moment old new (With P (observed old).told)
  with_one old new P most disk within is images =
      widened observed moment old new _ _ within.moments (λ image told p. (images image (subst (λ (d : Option Disk). Imaged d image) is p.0), p.1))

  pub with_on : (old mid new : D) (P : List ℕ → Type 0) → Leaves observed moment old mid (With P (observed old).told) → (observed mid).told ≡ (observed old).told
      → Leaves observed moment mid new (With P (observed mid).told) → Leaves observed moment old new (With P (observed old).told)
  with_on old mid new P first same second = then_on observed moment old mid new _ _ _ first second (λ image told p. p) (λ image told p. (p.0, sym same ∙ p.1))

  -- no call yet
  module _ (earlier : (out : D) (time later : ℕ) (image told : List ℕ) → time ≤ later → later ≤ (observed out).clock → moment out later image told → moment out time image told)
      (only_now : (out : D) (image told : List ℕ) → moment out (observed out).clock image told → Imaged (observed out).disk image × ((observed out).told ≡ Some told)) where
    pub look_none : (old : D) → Looks observed moment old old
    look_none old = record {
      disk = refl;
      within = record {
        rest = record { left = refl; told = refl; attached = refl; read_faults = refl; tell_faults = refl };
        moments = at_start observed moment earlier old _ (λ image told at. only_now old image told at);
        later = omega arith;
      };
    }
