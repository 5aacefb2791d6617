-- Steps: what a plan leads to, and that a step leaves a sound store.
use Rattle.std.proofs.Common.{◌≡◌, ◌∙◌, false, nat_le, ℕ, List, Some, None, refl, sym, ap, subst}
use Rattle.std.specs.Prelude.{if◌then◌else◌, Option, Result, Ok, Err, IfOk, OnErr}
use Rattle.std.specs.Option.{option_or, unwrap_or}
use Rattle.mu_tree.specs.declared.refusal.Refusal.{Refusal}
use Rattle.mu_tree.specs.declared.refusal.Refusal.TheVariants.{JournalFull}
use Rattle.mu_flat.specs.Entries.{Entries}
use Rattle.mu_command.specs.Canonical.{command_text}
use Rattle.mu_command.specs.declared.command.Command.{Command}
use Rattle.mu_command.specs.Language.{IsCommand}
use Rattle.mu_edit.specs.Changes.{refusal, changed}
use Rattle.mu_machine.specs.Queries.{queried}
use Rattle.mu_machine.specs.Sound.{IsSound}
use Rattle.mu_machine.specs.Steps.{IsRoomFor, Outcome, full_refusal, keep, made_or_refused, outcome, record_length, step, step_by}
use Rattle.mu_machine.specs.declared.replies.Reply.{Reply}
use Rattle.mu_machine.specs.declared.replies.Reply.TheVariants.{Changed, Refused}
use Rattle.mu_machine.proofs.SoundChanges.{changed_sound}

or_none : (why : Option Refusal) → option_or why None ≡ why
or_none None = refl
or_none (Some refused) = refl

-- a query is answered, and the store stays
pub answers_query : (e : Entries) (room : ℕ) (c : Command) (reply : Reply) → Some reply ≡ queried e c → step e room c ≡ keep e reply
unfolding step
answers_query e room c reply is = ap (step_by e room c) (sym is)

-- what a change for which there is room leads to
pub steps_by : (e : Entries) (room : ℕ) (c : Command) (line : List ℕ) (why : Option Refusal) → IsRoomFor e room c line → refusal e c ≡ why → step e room c ≡ made_or_refused e c line why
unfolding step
steps_by e room c line why there is =
    ap (step_by e room c) there.change
    ∙ ap (outcome e c) (ap (λ first. option_or first (full_refusal room (command_text c))) is ∙ ap (option_or why) (ap (full_refusal room) (sym there.line_is) ∙ there.fits) ∙ or_none why)
    ∙ told_so why
  where
    told_so : (why : Option Refusal) → outcome e c why ≡ made_or_refused e c line why
    told_so None = ap (λ text. record { entries = changed e c; reply = Changed text }) (sym there.line_is)
    told_so (Some refused) = refl

-- a change for which there is no room is refused, if only for that
pub has_no_room : (e : Entries) (room : ℕ) (c : Command) (why : Option Refusal) (refused : Refusal) → queried e c ≡ None → full_refusal room (command_text c) ≡ Some JournalFull → refusal e c ≡ why → option_or why (Some JournalFull) ≡ Some refused → step e room c ≡ keep e (Refused refused)
unfolding step
has_no_room e room c why refused none full is first =
    ap (step_by e room c) none
    ∙ ap (outcome e c) (ap (λ one. option_or one (full_refusal room (command_text c))) is ∙ ap (option_or why) full ∙ first)

-- a text whose record passes the room
pub too_long : (room : ℕ) (line : List ℕ) → nat_le (record_length line) room ≡ false → full_refusal room line ≡ Some JournalFull
too_long room line past = ap (λ b. if b then None else Some JournalFull) past

-- the first reason, of which the want of room is the last
pub or_full : (why : Option Refusal) (refused : Refusal) → refused ≡ unwrap_or why JournalFull → option_or why (Some JournalFull) ≡ Some refused
or_full None refused is = ap (λ (one : Refusal). Some one) (sym is)
or_full (Some why) refused is = ap (λ (one : Refusal). Some one) (sym is)

module _ (e : Entries) (sound : IsSound e) where
  by_refusal : (c : Command) → IsCommand c → (store room : Option Refusal) → refusal e c ≡ store → IsSound (outcome e c (option_or store room)).entries
  by_refusal c language (Some refused) room is = sound
  by_refusal c language None (Some refused) is = sound
  by_refusal c language None None is = changed_sound e c language is sound

  stepped_by : (room : ℕ) (c : Command) → IsCommand c → (reply : Option Reply) → IsSound (step_by e room c reply).entries
  stepped_by room c language (Some reply) = sound
  stepped_by room c language None = by_refusal c language _ _ refl

  -- a step leaves a sound store
  pub step_sound : (room : ℕ) (c : Command) → IsCommand c → IsSound (step e room c).entries
  unfolding step
  step_sound room c language = stepped_by room c language (queried e c)

-- what is carried out where there is room is the step
pub is_step : (e : Entries) (room : ℕ) (c : Command) (line : List ℕ) → IsRoomFor e room c line → (next : Outcome) → made_or_refused e c line (refusal e c) ≡ next → step e room c ≡ next
is_step e room c line there next is = steps_by e room c line _ there refl ∙ is

pub carried_step : {E : Type 0} (e new : Entries) (room : ℕ) (c : Command) (line : List ℕ) → IsRoomFor e room c line
    → (result : Result Reply E) → IfOk result (λ reply. made_or_refused e c line (refusal e c) ≡ record { entries = new; reply = reply })
    → IfOk result (λ reply. step e room c ≡ record { entries = new; reply = reply })
carried_step e new room c line there (Ok reply) done = is_step e room c line there _ done
carried_step e new room c line there (Err error) done = tt

-- a change that is carried out leaves a sound store, and so does one that is not
pub carried_sound : {E : Type 0} (e new : Entries) (room : ℕ) (c : Command) (line : List ℕ) → IsCommand c → IsSound e → IsRoomFor e room c line
    → (result : Result Reply E) → IfOk result (λ reply. made_or_refused e c line (refusal e c) ≡ record { entries = new; reply = reply }) → OnErr result (new ≡ e) → IsSound new
carried_sound e new room c line language sound there (Ok reply) done kept = subst IsSound (ap (λ (next : Outcome). next.entries) (is_step e room c line there _ done)) (step_sound e sound room c language)
carried_sound e new room c line language sound there (Err error) done kept = subst IsSound (sym kept) sound
