-- What a call of a desk does, in the words of the outside.
use Rattle.std.proofs.Common.{◌≡◌, ◌∙◌, ◌⊎◌, inl, inr, ⊎_elim, ◌+◌, ◌≤◌, min, ℕ, zero, suc, List, [], ◌∷◌, ◌++◌, length, take, Some, Result, Ok, Err, OnOk, OnErr, IsErr, MatchResult, refl, sym, ap, subst, arith, length-append}
use Rattle.std.proofs.lemmas.List.{append-nil, take_all, ext_get_or}
use Rattle.mu_outside.specs.Disks.{Disk, IsImage, StaysWithin, at_rest, wrote}
use Rattle.mu_outside.specs.Outsides.{Passes, Quietly, Telling, Tells, count_of, KeepsButInput, KeepsButTold, KeepsButName, KeepsButDisk}
use Rattle.mu_outside.specs.Scenes.{Scene, start, step, played, piece_of, disk_after, disk_amid, half_written}
use Rattle.mu_outside.specs.Moments.{Here, During, AnyTime, Since}
use Rattle.mu_outside.specs.DeskLaws.{here_during, since_earlier, at_end, from_end, amid_before, desk_honest}
use Rattle.mu_outside.specs.Desks.{DeskState, scene_of, content_of, known_by, moment_of, with_disk_call, with_taken, with_told, with_attached, FailsDisk, FailsTake, FailsTell}
use Rattle.mu_outside.specs.declared.calls.Call.{Call}
use Rattle.mu_outside.specs.declared.calls.Call.TheVariants.{Silent, Told, Wrote, WriteFailed, Cut, CutFailed, Synced}
use Rattle.mu_outside.specs.declared.outsides.Failed.{Failed}
use Rattle.mu_outside.proofs.SceneLemmas.{played_push}

-- one more call was noted, or none was
pub record Notes (old new : DeskState) (call : Call) : Type 0 where
  pub first : new.first ≡ old.first
  pub calls : (new.calls ≡ old.calls ++ call ∷ []) ⊎ (new.calls ≡ old.calls)

-- a moment of more calls is one of these, or one since their end
any_splits : (scene : Scene) (calls : List Call) (call : Call) (image told : List ℕ) → AnyTime scene (calls ++ call ∷ []) image told → AnyTime scene calls image told ⊎ AnyTime (played scene calls) (call ∷ []) image told
any_splits scene [] call image told at = inr at
any_splits scene (one ∷ calls) call image told (inl during) = inl (inl during)
any_splits scene (one ∷ calls) call image told (inr later) = ⊎_elim (λ h. inl (inr h)) (λ h. inr h) (any_splits (step scene one) calls call image told later)

any_keeps : (scene : Scene) (calls : List Call) (call : Call) (image told : List ℕ) → AnyTime scene calls image told → AnyTime scene (calls ++ call ∷ []) image told
any_keeps scene [] call image told at = inl (here_during scene call image told at)
any_keeps scene (one ∷ calls) call image told (inl during) = inl during
any_keeps scene (one ∷ calls) call image told (inr later) = inr (any_keeps (step scene one) calls call image told later)

splits : (scene : Scene) (calls : List Call) (call : Call) (time : ℕ) (image told : List ℕ) → time ≤ length calls → Since scene (calls ++ call ∷ []) time image told → Since scene calls time image told ⊎ AnyTime (played scene calls) (call ∷ []) image told
splits scene calls call zero image told le at = any_splits scene calls call image told at
splits scene [] call (suc time) image told le at = absurd (omega arith)
splits scene (one ∷ calls) call (suc time) image told le at = splits (step scene one) calls call time image told (omega arith) at

keeps : (scene : Scene) (calls : List Call) (call : Call) (time : ℕ) (image told : List ℕ) → time ≤ length calls → Since scene calls time image told → Since scene (calls ++ call ∷ []) time image told
keeps scene calls call zero image told le at = any_keeps scene calls call image told at
keeps scene [] call (suc time) image told le at = absurd at
keeps scene (one ∷ calls) call (suc time) image told le at = keeps (step scene one) calls call time image told (omega arith) at

passes_push : (scene : Scene) (calls now : List Call) (call : Call) → now ≡ calls ++ call ∷ [] → Passes (length calls) (length now) (Since scene calls) (Since scene now)
passes_push scene calls now call is = subst (λ (l : List Call). Passes (length calls) (length l) (Since scene calls) (Since scene l)) (sym is) record {
  later = omega (arith, length-append calls (call ∷ []));
  splits = λ time image told le at. ⊎_elim (λ was. inl was) (λ new. inr (from_end scene calls (call ∷ []) image told new)) (splits scene calls call time image told le at);
  keeps = λ time image told le at. keeps scene calls call time image told le at;
  own = λ time image told le at. since_earlier scene (calls ++ call ∷ []) time (length calls) image told le at;
}

passes_same : (scene : Scene) (calls now : List Call) → now ≡ calls → Passes (length calls) (length now) (Since scene calls) (Since scene now)
passes_same scene calls now is = subst (λ (l : List Call). Passes (length calls) (length l) (Since scene calls) (Since scene l)) (sym is) record {
  later = omega arith;
  splits = λ time image told le at. inl at;
  keeps = λ time image told le at. at;
  own = λ time image told le at. since_earlier scene calls time (length calls) image told le at;
}

-- the time goes on
pub passes : (old new : DeskState) (call : Call) → Notes old new call → Passes (length old.calls) (length new.calls) (moment_of old) (moment_of new)
passes old new call notes =
    subst (λ (first : List ℕ). Passes (length old.calls) (length new.calls) (moment_of old) (Since (start first) new.calls)) (sym notes.first)
    (⊎_elim (λ is. passes_push (start old.first) old.calls new.calls call is) (λ is. passes_same (start old.first) old.calls new.calls is) notes.calls)

honest_scene : (desk : DeskState) → IsImage (scene_of desk).disk (scene_of desk).disk.content
honest_scene desk = desk_honest desk (scene_of desk).disk refl

-- of a disk at rest a crash leaves what a read gives
only_rest : (content image : List ℕ) → IsImage (at_rest content) image → image ≡ content
only_rest content image is = ext_get_or 0 image content (omega (arith, is.no_shorter, is.no_longer)) (λ k lt. is.outside k lt (λ none. none))

-- what a crash may leave after a call it may leave in its midst
amid_after : (disk : Disk) (call : Call) (image : List ℕ) → IsImage disk disk.content → IsImage (disk_after disk call) image → IsImage (disk_amid disk call) image
amid_after disk Silent image honest is = is
amid_after disk (Told piece) image honest is = is
amid_after disk (Wrote at bytes) image honest is = is
amid_after disk (WriteFailed from past) image honest is = is
amid_after disk (Cut at) image honest is = is
amid_after disk (CutFailed at) image honest is = is
amid_after disk Synced image honest is = subst (IsImage disk) (sym (only_rest disk.content image is)) honest

take_nil : (n : ℕ) → take n (let l : List ℕ = [] in l) ≡ []
take_nil zero = refl
take_nil (suc n) = refl

-- the scene after a call that was noted, or not
scene_push : (old new : DeskState) (call : Call) → new.first ≡ old.first → new.calls ≡ old.calls ++ call ∷ [] → scene_of new ≡ step (scene_of old) call
scene_push old new call first calls =
    ap (λ (f : List ℕ). played (start f) new.calls) first ∙ ap (λ (l : List Call). played (start old.first) l) calls ∙ played_push (start old.first) old.calls call

scene_same : (old new : DeskState) → new.first ≡ old.first → new.calls ≡ old.calls → scene_of new ≡ scene_of old
scene_same old new first calls = ap (λ (f : List ℕ). played (start f) new.calls) first ∙ ap (λ (l : List Call). played (start old.first) l) calls

module _ (old new : DeskState) (call : Call) (notes : Notes old new call) (silent : piece_of call ≡ []) where
  -- a call that prints nothing keeps the printed bytes
  pub same_told : (scene_of new).told ≡ (scene_of old).told
  same_told = ⊎_elim
      (λ is. ap (λ (s : Scene). s.told) (scene_push old new call notes.first is) ∙ ap (λ (l : List ℕ). (scene_of old).told ++ l) silent ∙ append-nil (scene_of old).told)
      (λ is. ap (λ (s : Scene). s.told) (scene_same old new notes.first is))
      notes.calls

  moved : (image told : List ℕ) → moment_of new (length old.calls) image told → Since (start old.first) new.calls (length old.calls) image told
  moved image told at = subst (λ (f : List ℕ). Since (start f) new.calls (length old.calls) image told) notes.first at

  module _ (most : Disk) (covers : (image : List ℕ) → IsImage (disk_amid (scene_of old).disk call) image → IsImage most image) where
    during : (image told : List ℕ) → During (scene_of old) call image told → IsImage most image × (Some (scene_of old).told ≡ Some told)
    during image told d =
        let none : take d.1.0 (piece_of call) ≡ [] = ap (λ (l : List ℕ). take d.1.0 l) silent ∙ take_nil d.1.0 in
        (covers image d.0, ap (λ (l : List ℕ). Some l) (sym (d.1.2 ∙ ap (λ (l : List ℕ). (scene_of old).told ++ l) none ∙ append-nil (scene_of old).told)))

    after : (image told : List ℕ) → Here (step (scene_of old) call) image told → IsImage most image × (Some (scene_of old).told ≡ Some told)
    after image told h = (
      covers image (amid_after (scene_of old).disk call image (honest_scene old) h.0),
      ap (λ (l : List ℕ). Some l) (sym (h.1 ∙ ap (λ (l : List ℕ). (scene_of old).told ++ l) silent ∙ append-nil (scene_of old).told)),
    )

    -- each of its moments leaves what the widest disk may
    pub quietly : Quietly (Some most) (Some (scene_of old).told) (moment_of new (length old.calls))
    quietly image told at = ⊎_elim
        (λ (is : new.calls ≡ old.calls ++ call ∷ []).
        ⊎_elim (during image told) (after image told)
        (at_end (start old.first) old.calls (call ∷ []) image told (subst (λ (l : List Call). Since (start old.first) l (length old.calls) image told) is (moved image told at))))
        (λ (is : new.calls ≡ old.calls).
        during image told (here_during (scene_of old) call image told
        (at_end (start old.first) old.calls [] image told
        (subst (λ (l : List Call). Since (start old.first) l (length old.calls) image told) (is ∙ sym (append-nil old.calls)) (moved image told at)))))
        notes.calls

    -- and so does the disk after it
    pub within : StaysWithin most (scene_of new).disk
    within = record {
      images = λ image is. ⊎_elim
          (λ noted. covers image (amid_after (scene_of old).disk call image (honest_scene old) (subst (λ (s : Scene). IsImage s.disk image) (scene_push old new call notes.first noted) is)))
          (λ same. covers image (amid_before (scene_of old).disk call image (subst (λ (s : Scene). IsImage s.disk image) (scene_same old new notes.first same) is)))
          notes.calls;
      honest = honest_scene new;
    }

-- a call is noted, or not, as the new state says
pub taken_notes : (count : ℕ) (old new : DeskState) → new ≡ with_taken count old → Notes old new Silent
taken_notes count old new is = record { first = ap (λ (d : DeskState). d.first) is; calls = inl (ap (λ (d : DeskState). d.calls) is) }

pub take_fails_notes : (old new : DeskState) → FailsTake old new → Notes old new Silent
take_fails_notes old new (inl listed) = record { first = ap (λ (d : DeskState). d.first) listed.1; calls = inl (ap (λ (d : DeskState). d.calls) listed.1) }
take_fails_notes old new (inr starved) = record { first = ap (λ (d : DeskState). d.first) starved; calls = inr (ap (λ (d : DeskState). d.calls) starved) }

pub told_notes : (piece : List ℕ) (old new : DeskState) → new ≡ with_told piece old → Notes old new (Told piece)
told_notes piece old new is = record { first = ap (λ (d : DeskState). d.first) is; calls = inl (ap (λ (d : DeskState). d.calls) is) }

pub tell_fails_notes : (old new : DeskState) → FailsTell old new → Notes old new Silent
tell_fails_notes old new (inl listed) = record { first = ap (λ (d : DeskState). d.first) listed.1; calls = inl (ap (λ (d : DeskState). d.calls) listed.1) }
tell_fails_notes old new (inr starved) = record { first = ap (λ (d : DeskState). d.first) starved; calls = inr (ap (λ (d : DeskState). d.calls) starved) }

pub attached_notes : (old new : DeskState) → new ≡ with_attached old → Notes old new Silent
attached_notes old new is = record { first = ap (λ (d : DeskState). d.first) is; calls = inl (ap (λ (d : DeskState). d.calls) is) }

pub done_notes : (call : Call) (old new : DeskState) → new ≡ with_disk_call call old → Notes old new call
done_notes call old new is = record { first = ap (λ (d : DeskState). d.first) is; calls = inl (ap (λ (d : DeskState). d.calls) is) }

pub fails_notes : (call : Call) (old new : DeskState) → FailsDisk call old new → Notes old new call
fails_notes call old new (inl listed) = record { first = ap (λ (d : DeskState). d.first) listed.1; calls = inl (ap (λ (d : DeskState). d.calls) listed.1) }
fails_notes call old new (inr starved) = record { first = ap (λ (d : DeskState). d.first) starved; calls = inr (ap (λ (d : DeskState). d.calls) starved) }

-- a call that does nothing keeps the scene
pub same_scene : (old new : DeskState) → Notes old new Silent → scene_of new ≡ scene_of old
same_scene old new notes = ⊎_elim
    (λ is. scene_push old new Silent notes.first is ∙ ap (λ (l : List ℕ). let s : Scene = record { disk = (scene_of old).disk; told = l } in s) (append-nil (scene_of old).told))
    (λ is. scene_same old new notes.first is)
    notes.calls

pub same_disk : (old new : DeskState) → Notes old new Silent → Some (scene_of new).disk ≡ Some (scene_of old).disk
same_disk old new notes = ap (λ (s : Scene). Some s.disk) (same_scene old new notes)

pub same_content : (old new : DeskState) → Notes old new Silent → content_of new ≡ content_of old
same_content old new notes = ap (λ (s : Scene). s.disk.content) (same_scene old new notes)

-- what each call keeps
pub taken_keeps : (count : ℕ) (old new : DeskState) → new ≡ with_taken count old → KeepsButInput (known_by old) (known_by new)
taken_keeps count old new is =
    let same = same_scene old new (taken_notes count old new is) in
    record { told = ap (λ (s : Scene). Some s.told) same; disk = ap (λ (s : Scene). Some s.disk) same; attached = ap (λ (d : DeskState). d.attached) is; tell_faults = ap (λ (d : DeskState). d.tell_faults) is; disk_faults = ap (λ (d : DeskState). d.disk_faults) is }

pub take_fails_keeps : (old new : DeskState) → FailsTake old new → KeepsButInput (known_by old) (known_by new)
take_fails_keeps old new fails =
    let same = same_scene old new (take_fails_notes old new fails) in ⊎_elim
    (λ listed. record { told = ap (λ (s : Scene). Some s.told) same; disk = ap (λ (s : Scene). Some s.disk) same; attached = ap (λ (d : DeskState). d.attached) listed.1; tell_faults = ap (λ (d : DeskState). d.tell_faults) listed.1; disk_faults = ap (λ (d : DeskState). d.disk_faults) listed.1 })
    (λ starved. record { told = ap (λ (s : Scene). Some s.told) same; disk = ap (λ (s : Scene). Some s.disk) same; attached = ap (λ (d : DeskState). d.attached) starved; tell_faults = ap (λ (d : DeskState). d.tell_faults) starved; disk_faults = ap (λ (d : DeskState). d.disk_faults) starved })
    fails

pub told_keeps : (piece : List ℕ) (old new : DeskState) → new ≡ with_told piece old → KeepsButTold (known_by old) (known_by new)
told_keeps piece old new is =
    let notes = told_notes piece old new is in
    let calls : new.calls ≡ old.calls ++ Told piece ∷ [] = ap (λ (d : DeskState). d.calls) is in
    record { left = ap (λ (d : DeskState). Some d.left) is; disk = ap (λ (s : Scene). Some s.disk) (scene_push old new (Told piece) notes.first calls); attached = ap (λ (d : DeskState). d.attached) is; read_faults = ap (λ (d : DeskState). d.read_faults) is; disk_faults = ap (λ (d : DeskState). d.disk_faults) is }

pub tell_fails_keeps : (old new : DeskState) → FailsTell old new → KeepsButTold (known_by old) (known_by new)
tell_fails_keeps old new fails =
    let same = same_disk old new (tell_fails_notes old new fails) in ⊎_elim
    (λ listed. record { left = ap (λ (d : DeskState). Some d.left) listed.1; disk = same; attached = ap (λ (d : DeskState). d.attached) listed.1; read_faults = ap (λ (d : DeskState). d.read_faults) listed.1; disk_faults = ap (λ (d : DeskState). d.disk_faults) listed.1 })
    (λ starved. record { left = ap (λ (d : DeskState). Some d.left) starved; disk = same; attached = ap (λ (d : DeskState). d.attached) starved; read_faults = ap (λ (d : DeskState). d.read_faults) starved; disk_faults = ap (λ (d : DeskState). d.disk_faults) starved })
    fails

pub attached_keeps : (old new : DeskState) → new ≡ with_attached old → KeepsButName (known_by old) (known_by new)
attached_keeps old new is =
    let same = same_scene old new (attached_notes old new is) in
    record { left = ap (λ (d : DeskState). Some d.left) is; told = ap (λ (s : Scene). Some s.told) same; disk = ap (λ (s : Scene). Some s.disk) same; read_faults = ap (λ (d : DeskState). d.read_faults) is; tell_faults = ap (λ (d : DeskState). d.tell_faults) is }

pub done_keeps : (call : Call) (old new : DeskState) → piece_of call ≡ [] → new ≡ with_disk_call call old → KeepsButDisk (known_by old) (known_by new)
done_keeps call old new silent is =
    record { left = ap (λ (d : DeskState). Some d.left) is; told = ap (λ (l : List ℕ). Some l) (same_told old new call (done_notes call old new is) silent); attached = ap (λ (d : DeskState). d.attached) is; read_faults = ap (λ (d : DeskState). d.read_faults) is; tell_faults = ap (λ (d : DeskState). d.tell_faults) is }

pub fails_keeps : (call : Call) (old new : DeskState) → piece_of call ≡ [] → FailsDisk call old new → KeepsButDisk (known_by old) (known_by new)
fails_keeps call old new silent fails =
    let told = same_told old new call (fails_notes call old new fails) silent in ⊎_elim
    (λ listed. record { left = ap (λ (d : DeskState). Some d.left) listed.1; told = ap (λ (l : List ℕ). Some l) told; attached = ap (λ (d : DeskState). d.attached) listed.1; read_faults = ap (λ (d : DeskState). d.read_faults) listed.1; tell_faults = ap (λ (d : DeskState). d.tell_faults) listed.1 })
    (λ starved. record { left = ap (λ (d : DeskState). Some d.left) starved; told = ap (λ (l : List ℕ). Some l) told; attached = ap (λ (d : DeskState). d.attached) starved; read_faults = ap (λ (d : DeskState). d.read_faults) starved; tell_faults = ap (λ (d : DeskState). d.tell_faults) starved })
    fails

pub name_fails_keeps : (old new : DeskState) → FailsDisk Silent old new → KeepsButName (known_by old) (known_by new)
name_fails_keeps old new fails =
    let keeps = fails_keeps Silent old new refl fails in
    record { left = keeps.left; told = keeps.told; disk = same_disk old new (fails_notes Silent old new fails); read_faults = keeps.read_faults; tell_faults = keeps.tell_faults }

-- each moment of a call that prints a piece has some first bytes of it printed
pub telling : (piece : List ℕ) (old new : DeskState) → new ≡ with_told piece old → Telling (Some (scene_of old).disk) (Some (scene_of old).told) (take (length piece) piece) (moment_of new (length old.calls))
telling piece old new is =
    let e : (new.first ≡ old.first) × (new.calls ≡ old.calls ++ Told piece ∷ []) = (ap (λ (d : DeskState). d.first) is, ap (λ (d : DeskState). d.calls) is) in
    λ image told at.
    let here = at_end (start old.first) old.calls (Told piece ∷ []) image told
    (subst (λ (l : List Call). Since (start old.first) l (length old.calls) image told) e.1
    (subst (λ (f : List ℕ). Since (start f) new.calls (length old.calls) image told) e.0 at)) in
    let whole : take (length piece) piece ≡ piece = take_all (length piece) piece (omega arith) in
    ⊎_elim
    (λ (d : During (scene_of old) (Told piece) image told). (
      d.0,
      (
        d.1.0,
        omega (arith, d.1.1, ap length whole),
        ap (λ (l : List ℕ). Some ((scene_of old).told ++ take d.1.0 l)) whole ∙ ap (λ (l : List ℕ). Some l) (sym d.1.2),
      ),
    ))
    (λ (h : Here (step (scene_of old) (Told piece)) image told). (
      h.0,
      (
        length piece,
        omega (arith, ap length whole),
        ap (λ (l : List ℕ). Some ((scene_of old).told ++ take (length piece) l)) whole ∙ ap (λ (l : List ℕ). Some ((scene_of old).told ++ l)) whole ∙ ap (λ (l : List ℕ). Some l) (sym h.1),
      ),
    ))
    here

-- what a `tell` printed
pub told_output : (piece : List ℕ) (old new : DeskState) → new ≡ with_told piece old → Some (scene_of new).told ≡ Some ((scene_of old).told ++ take (length piece) piece)
told_output piece old new is =
    let notes = told_notes piece old new is in
    ap (λ (s : Scene). Some s.told) (scene_push old new (Told piece) notes.first (ap (λ (d : DeskState). d.calls) is))
    ∙ ap (λ (l : List ℕ). Some ((scene_of old).told ++ l)) (sym (take_all (length piece) piece (omega arith)))

-- a `tell` that failed printed nothing
pub tell_fails_output : (piece : List ℕ) (old new : DeskState) (result : Result ℕ Failed) → IsErr result → FailsTell old new → Tells (Some (scene_of old).told) (Some (scene_of new).told) result piece
tell_fails_output piece old new (Ok count) err fails = absurd (let none : ⊥ = cc in none)
tell_fails_output piece old new (Err e) err fails = ap (λ (s : Scene). Some s.told) (same_scene old new (tell_fails_notes old new fails))

pub tell_fails_inside : (piece : List ℕ) (old new : DeskState) (result : Result ℕ Failed) → IsErr result → FailsTell old new
    → Telling (Some (scene_of old).disk) (Some (scene_of old).told) (take (count_of result) piece) (moment_of new (length old.calls))
tell_fails_inside piece old new (Ok count) err fails = absurd (let none : ⊥ = cc in none)
tell_fails_inside piece old new (Err e) err fails = λ image told at.
    let here = quietly old new Silent (tell_fails_notes old new fails) refl (scene_of old).disk (λ one is. is) image told at in
    (here.0, (0, omega arith, ap (λ (l : List ℕ). Some l) (append-nil (scene_of old).told) ∙ here.1))

-- what a crash may leave in the midst of a write, or of one that failed
pub half_within : (at : ℕ) (bytes : List ℕ) (disk : Disk) (image : List ℕ) → IsImage (half_written at (at + length bytes) disk) image → IsImage (wrote at bytes disk) image
half_within at bytes disk image is = record { no_shorter = is.no_shorter; no_longer = is.no_longer; outside = is.outside }

pub wrote_within : (at : ℕ) (bytes : List ℕ) (disk : Disk) → at ≤ length disk.content → (image : List ℕ) → IsImage (wrote (min at (length disk.content)) bytes disk) image → IsImage (wrote at bytes disk) image
wrote_within at bytes disk place image is = subst (λ (n : ℕ). IsImage (wrote n bytes disk) image) (omega (arith, place)) is

-- one of two facts, by the result
pub either : {T E A B C : Type 0} (result : Result T E) → OnOk result A → OnErr result B → (A → C) → (B → C) → C
either (Ok x) ok err done failed = done ok
either (Err e) ok err done failed = failed err

pub matched : {T E A B P Q : Type 0} (result : Result T E) → OnOk result A → OnErr result B → (A → P) → (B → Q) → MatchResult result (λ _. P) (λ _. Q)
matched (Ok x) ok err done failed = done ok
matched (Err e) ok err done failed = failed err

-- what a call that did its work did to the disk
pub done_disk : (call : Call) (old new : DeskState) → new ≡ with_disk_call call old → Some (scene_of new).disk ≡ Some (disk_after (scene_of old).disk call)
done_disk call old new is =
    let notes = done_notes call old new is in
    ap (λ (s : Scene). Some s.disk) (scene_push old new call notes.first (ap (λ (d : DeskState). d.calls) is))
