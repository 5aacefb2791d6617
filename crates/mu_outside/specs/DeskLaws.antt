-- What holds of each desk, whatever calls were made of it.
use Rattle.std.proofs.Common.{◌≡◌, inl, inr, ⊎_elim, ◌+◌, ◌-◌, ◌≤◌, ◌<◌, min, max, ℕ, zero, suc, List, [], ◌∷◌, ◌++◌, length, get_or, take, drop, refl, sym, ◌∙◌, ap, subst, arith, Some, length-append}
use Rattle.std.proofs.lemmas.List.{append-nil, length-take, length-drop, get_or-take, get_or-drop, get_or_append_left, get_or-append_right}
use Rattle.std.proofs.lemmas.Bool.{cases_lt}
use Rattle.mu_outside.specs.Disks.{Disk, IsImage, Imaged, at_rest, wrote, shortened, patched}
use Rattle.mu_outside.specs.Scenes.{Scene, start, step, played, disk_after, disk_amid}
use Rattle.mu_outside.specs.Moments.{Here, During, AnyTime, Since}
use Rattle.mu_outside.specs.Desks.{DeskState, known_by, moment_of}
use Rattle.mu_outside.specs.declared.calls.Call.{Call}
use Rattle.mu_outside.specs.declared.calls.Call.TheVariants.{Silent, Told, Wrote, WriteFailed, Cut, CutFailed, Synced}

-- a write leaves each byte out of its range
same_after_write : (old : List ℕ) (at : ℕ) (bytes : List ℕ) (k : ℕ) → at ≤ length old → ((at ≤ k) × (k < at + length bytes) → ⊥) → get_or (patched old at bytes) k 0 ≡ get_or old k 0
same_after_write old at bytes k le not = ⊎_elim
    (λ (below : k < at). get_or_append_left (take at old ++ bytes) (drop (at + length bytes) old) 0 k (omega (arith, below, length-append (take at old) bytes, length-take at old))
    ∙ get_or_append_left (take at old) bytes 0 k (omega (arith, below, length-take at old))
    ∙ get_or-take at old k 0 below)
    (λ (above : at ≤ k).
    let past : at + length bytes ≤ k = ⊎_elim (λ (lt : k < at + length bytes). absurd (not (above, lt))) (λ ge. ge) (cases_lt k (at + length bytes)) in
    let front : length (take at old ++ bytes) ≡ at + length bytes = omega (arith, length-append (take at old) bytes, length-take at old, le) in
    get_or-append_right (take at old ++ bytes) (drop (at + length bytes) old) (at + length bytes) k 0 front past
    ∙ get_or-drop (at + length bytes) old (k - (at + length bytes)) 0
    ∙ ap (λ n. get_or old n 0) (omega (arith, past)))
    (cases_lt k at)

-- a write ends where it did, or past its last byte
pub length-patched : (old : List ℕ) (at : ℕ) (bytes : List ℕ) → at ≤ length old → length (patched old at bytes) ≡ max (length old) (at + length bytes)
length-patched old at bytes le = omega (arith, length-append (take at old ++ bytes) (drop (at + length bytes) old), length-append (take at old) bytes, length-take at old, length-drop (at + length bytes) old, le)

-- what a crash may leave before a call it may leave in its midst
pub amid_before : (disk : Disk) (call : Call) (image : List ℕ) → IsImage disk image → IsImage (disk_amid disk call) image
amid_before disk Silent image is = is
amid_before disk (Told piece) image is = is
amid_before disk (Wrote at bytes) image is = record { no_shorter = is.no_shorter; no_longer = omega (arith, is.no_longer); outside = λ k lt not. is.outside k lt (λ within. not (inr within)) }
amid_before disk (WriteFailed from past) image is = record { no_shorter = is.no_shorter; no_longer = omega (arith, is.no_longer); outside = λ k lt not. is.outside k lt (λ within. not (inr within)) }
amid_before disk (Cut at) image is = record { no_shorter = omega (arith, is.no_shorter); no_longer = is.no_longer; outside = λ k lt not. is.outside k lt (λ within. not (inr within)) }
amid_before disk (CutFailed at) image is = record { no_shorter = omega (arith, is.no_shorter); no_longer = is.no_longer; outside = λ k lt not. is.outside k lt (λ within. not (inr within)) }
amid_before disk Synced image is = is

-- what a read gives after a write is among what a crash may leave
honest_write : (disk : Disk) (at : ℕ) (bytes : List ℕ) → at ≤ length disk.content → IsImage disk disk.content → IsImage (wrote at bytes disk) (patched disk.content at bytes)
honest_write disk at bytes le is = record {
  no_shorter = omega (arith, length-patched disk.content at bytes le, is.no_shorter);
  no_longer = omega (arith, length-patched disk.content at bytes le, is.no_longer);
  outside = λ k lt not.
      let apart : (at ≤ k) × (k < at + length bytes) → ⊥ = λ h. not (inl h) in
      let within : k < length disk.content = ⊎_elim (λ (near : k < length disk.content). near)
      (λ (ge : length disk.content ≤ k). absurd (apart (omega (arith, ge, le), omega (arith, ge, lt, length-patched disk.content at bytes le))))
      (cases_lt k (length disk.content)) in
      same_after_write disk.content at bytes k le apart ∙ is.outside k within (λ h. not (inr h));
}

-- the same after a cut
honest_cut : (disk : Disk) (at : ℕ) → IsImage disk disk.content → IsImage (shortened at disk) (take at disk.content)
honest_cut disk at is = record {
  no_shorter = omega (arith, length-take at disk.content, is.no_shorter);
  no_longer = omega (arith, length-take at disk.content, is.no_longer);
  outside = λ k lt not.
      let near : k < at = omega (arith, length-take at disk.content, lt) in
      let far : k < length disk.content = omega (arith, length-take at disk.content, lt) in
      get_or-take at disk.content k 0 near ∙ is.outside k far (λ h. not (inr h));
}

-- the same of a disk at rest
pub rest_is_image : (content : List ℕ) → IsImage (at_rest content) content
rest_is_image content = record { no_shorter = omega arith; no_longer = omega arith; outside = λ k lt not. refl }

-- and after each call
honest_after : (disk : Disk) (call : Call) → IsImage disk disk.content → IsImage (disk_after disk call) (disk_after disk call).content
honest_after disk Silent is = is
honest_after disk (Told piece) is = is
honest_after disk (Wrote at bytes) is = honest_write disk (min at (length disk.content)) bytes (omega arith) is
honest_after disk (WriteFailed from past) is = amid_before disk (WriteFailed from past) disk.content is
honest_after disk (Cut at) is = honest_cut disk at is
honest_after disk (CutFailed at) is = amid_before disk (CutFailed at) disk.content is
honest_after disk Synced is = rest_is_image disk.content

-- and after any calls
pub honest_played : (scene : Scene) (calls : List Call) → IsImage scene.disk scene.disk.content → IsImage (played scene calls).disk (played scene calls).disk.content
honest_played scene [] is = is
honest_played scene (call ∷ calls) is = honest_played (step scene call) calls (honest_after scene.disk call is)

-- a moment between two calls is one inside the second
pub here_during : (scene : Scene) (call : Call) (image told : List ℕ) → Here scene image told → During scene call image told
here_during scene call image told here = (amid_before scene.disk call image here.0, (0, omega arith, here.1 ∙ sym (append-nil scene.told)))

-- the moments after some of the calls are among all
from_start : (scene : Scene) (calls : List Call) (image told : List ℕ) (time : ℕ) → Since scene calls time image told → AnyTime scene calls image told
from_start scene calls image told zero at = at
from_start scene [] image told (suc time) at = absurd at
from_start scene (call ∷ calls) image told (suc time) at = inr (from_start (step scene call) calls image told time at)

-- the moments since a later time are among those since an earlier one
pub since_earlier : (scene : Scene) (calls : List Call) (time later : ℕ) (image told : List ℕ) → time ≤ later → Since scene calls later image told → Since scene calls time image told
since_earlier scene calls zero later image told le at = from_start scene calls image told later at
since_earlier scene calls (suc time) zero image told le at = absurd (let none : ⊥ = omega arith in none)
since_earlier scene [] (suc time) (suc later) image told le at = absurd at
since_earlier scene (call ∷ calls) (suc time) (suc later) image told le at = since_earlier (step scene call) calls time later image told (omega arith) at

-- the moments after the first calls are those of the rest
pub at_end : (scene : Scene) (calls more : List Call) (image told : List ℕ) → Since scene (calls ++ more) (length calls) image told → AnyTime (played scene calls) more image told
at_end scene [] more image told at = at
at_end scene (call ∷ calls) more image told at = at_end (step scene call) calls more image told at

pub from_end : (scene : Scene) (calls more : List Call) (image told : List ℕ) → AnyTime (played scene calls) more image told → Since scene (calls ++ more) (length calls) image told
from_end scene [] more image told at = at
from_end scene (call ∷ calls) more image told at = from_end (step scene call) calls more image told at

same_calls : (scene : Scene) (calls : List Call) (image told : List ℕ) → Since scene calls (length calls) image told → Since scene (calls ++ []) (length calls) image told
same_calls scene calls image told at = subst (λ (l : List Call). Since scene l (length calls) image told) (sym (append-nil calls)) at

-- what a read gives is among what a crash may leave
pub desk_honest : (desk : DeskState) (disk : Disk) → (known_by desk).disk ≡ Some disk → IsImage disk disk.content
desk_honest desk disk is =
    let same : (played (start desk.first) desk.calls).disk ≡ disk = cc in
    subst (λ (d : Disk). IsImage d d.content) same (honest_played (start desk.first) desk.calls (rest_is_image desk.first))

-- at the end of the calls a crash leaves what the disk may leave, with the bytes printed so far
pub desk_only_now : (desk : DeskState) (image told : List ℕ) → moment_of desk (length desk.calls) image told → Imaged (known_by desk).disk image × ((known_by desk).told ≡ Some told)
desk_only_now desk image told at =
    let here : Here (played (start desk.first) desk.calls) image told = at_end (start desk.first) desk.calls [] image told (same_calls (start desk.first) desk.calls image told at) in
    (here.0, ap (λ (bytes : List ℕ). Some bytes) (sym here.1))

-- and each of these
pub desk_counts_now : (desk : DeskState) (image told : List ℕ) → Imaged (known_by desk).disk image → (known_by desk).told ≡ Some told → moment_of desk (length desk.calls) image told
desk_counts_now desk image told is_image is_told =
    subst (λ (l : List Call). Since (start desk.first) l (length desk.calls) image told) (append-nil desk.calls) (from_end (start desk.first) desk.calls [] image told (is_image, cc))

-- the moments since a later time are among those since an earlier one
pub desk_earlier : (desk : DeskState) (time later : ℕ) (image told : List ℕ) → time ≤ later → later ≤ length desk.calls → moment_of desk later image told → moment_of desk time image told
desk_earlier desk time later image told le within at = since_earlier (start desk.first) desk.calls time later image told le at
