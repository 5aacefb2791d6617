-- What a crash inside a call may leave.
use Rattle.std.proofs.Common.{◌≡◌, ◌∙◌, inl, ◌+◌, ◌-◌, ◌≤◌, ◌<◌, ℕ, suc, Bool, Option, List, ◌∷◌, ◌++◌, length, get_or, slice_get, take, drop, Some, sym, ap, subst, arith, option_map, IfSome}
use Rattle.std.proofs.lemmas.List.{length-take, take_all}
use Rattle.std.proofs.lemmas.Option.{slice_get_within, get_or_from_slice_get}
use Rattle.std.proofs.Math.Seq.{split_at}
use Rattle.mu_outside.specs.Disks.{IsImage}
use Rattle.mu_outside.specs.Scenes.{Scene, start, played, piece_of, printed_by, disk_amid}
use Rattle.mu_outside.specs.Moments.{Since}
use Rattle.mu_outside.specs.Images.{IsFilled, IsInside, scene_before, disk_inside}
use Rattle.mu_outside.specs.DeskLaws.{from_end, amid_before, honest_played, rest_is_image}
use Rattle.mu_outside.specs.declared.calls.Call.{Call}
use Rattle.mu_outside.proofs.SceneLemmas.{played_more, told_by_calls}

-- the ends of a disk in the midst of a call are in order
pub ends_in_order : (first : List ℕ) (calls : List Call) (call : Call) → (disk_amid (played (start first) calls).disk call).low ≤ (disk_amid (played (start first) calls).disk call).high
ends_in_order first calls call =
    let scene : Scene = played (start first) calls in
    let is : IsImage (disk_amid scene.disk call) scene.disk.content = amid_before scene.disk call scene.disk.content (honest_played (start first) calls (rest_is_image first)) in
    omega (arith, is.no_shorter, is.no_longer)

-- what a crash inside a call may leave is of a moment since its start
pub inside_since : (first : List ℕ) (calls : List Call) (number : ℕ) (image told : List ℕ) → IsInside first calls number image told → Since (start first) calls (number - 1) image told
inside_since first calls number image told is =
    let before : ℕ = number - 1 in
    let call : Call = is.0 in
    let lt : before < length calls = slice_get_within calls before call is.1 in
    let at : get_or calls before call ≡ call = get_or_from_slice_get calls before call call is.1 in
    let whole : calls ≡ take before calls ++ call ∷ drop (suc before) calls = split_at calls before call lt ∙ ap (λ (one : Call). take before calls ++ one ∷ drop (suc before) calls) at in
    let long : length (take before calls) ≡ before = omega (arith, length-take before calls, lt) in
    let there : Since (start first) (take before calls ++ call ∷ drop (suc before) calls) (length (take before calls)) image told =
    from_end (start first) (take before calls) (call ∷ drop (suc before) calls) image told (inl is.2) in
    subst (λ (n : ℕ). Since (start first) calls n image told) long (subst (λ (l : List Call). Since (start first) l (length (take before calls)) image told) (sym whole) there)

-- the scene in the midst of a call, with all that it prints
abbrev pub entered : List ℕ → List Call → ℕ → Call → Scene
entered first calls number call = record {
  disk = disk_amid (scene_before first calls number).disk call;
  told = (scene_before first calls number).told ++ piece_of call;
}

-- all that an image tells
pub record Shows (first : List ℕ) (calls : List Call) (number fill : ℕ) (long : Bool) (image told : List ℕ) : Type 0 where
  pub inside : IsInside first calls number image told
  pub filled : IfSome (disk_inside first calls number) (λ disk. IsFilled fill long disk image)
  pub printed : told ≡ printed_by (take number calls)
  pub moment : Since (start first) calls (number - 1) image told

printed_inside : (first : List ℕ) (calls : List Call) (number : ℕ) (call : Call) → 0 < number → slice_get calls (number - 1) ≡ Some call
    → (scene_before first calls number).told ++ piece_of call ≡ printed_by (take number calls)
printed_inside first calls number call positive at =
    let lt : number - 1 < length calls = slice_get_within calls (number - 1) call at in
    let all : (number - 1) + 1 ≡ number = omega (arith, positive) in
    sym (ap (λ (s : Scene). s.told) (played_more (start first) calls (number - 1) call lt (sym (get_or_from_slice_get calls (number - 1) call call at))))
    ∙ ap (λ (n : ℕ). (played (start first) (take n calls)).told) all
    ∙ told_by_calls first (take number calls)

pub shows : (first : List ℕ) (calls : List Call) (number fill : ℕ) (long : Bool) (call : Call) (scene : Scene) (image told : List ℕ)
    → 0 < number → slice_get calls (number - 1) ≡ Some call → scene ≡ entered first calls number call → IsFilled fill long scene.disk image → told ≡ scene.told
    → Shows first calls number fill long image told
shows first calls number fill long call scene image told positive at is filled told_is =
    let here : IsFilled fill long (disk_amid (scene_before first calls number).disk call) image = subst (λ (s : Scene). IsFilled fill long s.disk image) is filled in
    let printed : told ≡ (scene_before first calls number).told ++ piece_of call = told_is ∙ ap (λ (s : Scene). s.told) is in
    let inside : IsInside first calls number image told =
    (call, at, (here.is_image, (length (piece_of call), omega arith, printed ∙ ap (λ (l : List ℕ). (scene_before first calls number).told ++ l) (sym (take_all (length (piece_of call)) (piece_of call) (omega arith)))))) in
    record {
      inside = inside;
      filled = subst (λ (found : Option Call). IfSome (option_map (λ (one : Call). disk_amid (scene_before first calls number).disk one) found) (λ disk. IsFilled fill long disk image)) (sym at) here;
      printed = printed ∙ printed_inside first calls number call positive at;
      moment = inside_since first calls number image told inside;
    }
