-- How a run over an input ends.
use Rattle.std.proofs.Common.{◌≡◌, inl, inr, ◌≤◌, ◌<◌, ℕ, Bool, true, false, List, [], ◌∷◌, ◌++◌, length, take, drop, refl, sym, ◌∙◌, ap, subst, Option, Some, arith, append_assoc, take-append-drop, length-append}
use Rattle.std.proofs.lemmas.List.{append-nil, take-take}
use Rattle.std.specs.Io.KnownBytes.{prepend_known, IsAtEnd}
use Rattle.mu_outside.specs.Outsides.{Observed, Rose}
use Rattle.mural.specs.Lines.{whole_lines, lines, due_lines, most_input}
use Rattle.mu_flat.specs.Entries.{Entries, initial}
use Rattle.mural.specs.Replies.{replies, some_refused, replies_to}
use Rattle.mural.specs.Interpreter.{Served, TellsFront}
use Rattle.mural.specs.Runs.{Ended, HasRisen, IsComplete, IsDone, of_stop, of_refused}
use Rattle.mural.specs.declared.interpreter.Stop.{Stop}
use Rattle.mural.specs.declared.interpreter.Stop.TheVariants as stop
use Rattle.mural.specs.declared.status.Status.{Status}
use Rattle.mural.specs.declared.status.Status.TheVariants.{AllAccepted, SomeRefused, Usage, ReadFault, TellFault, NoMemory, InputTooLong}
use Rattle.mural.proofs.Known.{prepend_twice, whole_input, nothing_left}
use Rattle.mural.proofs.Pieces.{due_first, due_full, due_short}
use Rattle.mural.proofs.Serving.{front_of}

-- a call that tells nothing
pub served_on : (start told0 told1 : Option (List ℕ)) (bytes : List ℕ) (entries : Entries) (line : List ℕ) (refused : Bool) → Served start bytes entries line refused told0 → told1 ≡ told0 → Served start bytes entries line refused told1
served_on start told0 told1 bytes entries line refused served same = record {
  entries_are = served.entries_are;
  line_is = served.line_is;
  refused_is = served.refused_is;
  told_is = same ∙ served.told_is;
}

-- a part of what a call took
pub taken_part : (left0 left1 left2 : Option (List ℕ)) (bytes buf : List ℕ) (n due : ℕ) → left0 ≡ prepend_known bytes left1 → left1 ≡ prepend_known (take n buf) left2 → due ≤ n
    → left0 ≡ prepend_known (bytes ++ take due buf) (prepend_known (drop due (take n buf)) left2)
taken_part left0 left1 left2 bytes buf n due before now le =
    let some : take due (take n buf) ≡ take due buf = take-take due n buf le in
    let cut : take n buf ≡ take due buf ++ drop due (take n buf) = sym (take-append-drop due (take n buf)) ∙ ap (λ (l : List ℕ). l ++ drop due (take n buf)) some in
    before ∙ ap (prepend_known bytes) (now ∙ ap (λ (l : List ℕ). prepend_known l left2) cut) ∙ prepend_twice bytes (take due buf ++ drop due (take n buf)) left2
    ∙ ap (λ (l : List ℕ). prepend_known l left2) (sym (append_assoc bytes (take due buf) (drop due (take n buf))))
    ∙ sym (prepend_twice (bytes ++ take due buf) (drop due (take n buf)) left2)

-- what is told of the whole lines so far is told of the lines that are due
pub stop_front : (start told left0 left1 : Option (List ℕ)) (bytes input : List ℕ) → left0 ≡ prepend_known bytes left1 → left0 ≡ Some input → length bytes ≤ most_input → TellsFront start (whole_lines bytes) told
    → TellsFront start (due_lines input) told
stop_front start told left0 left1 bytes input before is le front =
    let all = whole_input left0 left1 bytes input before is in
    let due = due_first bytes all.0 le in
    front_of start told (whole_lines bytes) due.0 (due_lines input) (ap due_lines all.1 ∙ due.1) front

-- more bytes came than are read
pub input_too_long : (left0 left2 : Option (List ℕ)) (bytes extra input : List ℕ) → left0 ≡ prepend_known bytes (prepend_known extra left2) → left0 ≡ Some input → length bytes ≡ most_input → 0 < length extra
    → (most_input < length input) × (whole_lines bytes ≡ due_lines input)
input_too_long left0 left2 bytes extra input before is full some =
    let all = whole_input left0 (prepend_known extra left2) bytes input before is in
    let more = whole_input (prepend_known extra left2) left2 extra all.0 refl all.2 in
    let rest : 0 < length all.0 = omega (arith, some, ap length more.1, length-append extra more.0) in
    (omega (arith, full, rest, ap length all.1, length-append bytes all.0), sym (ap due_lines all.1 ∙ due_full bytes all.0 full rest))

-- the input is at its end
pub input_ends : (left0 left1 left2 : Option (List ℕ)) (bytes buf input : List ℕ) (n : ℕ) → left0 ≡ prepend_known bytes left1 → left0 ≡ Some input → IsAtEnd left1 → left1 ≡ prepend_known (take n buf) left2
    → (input ≡ bytes) × (left2 ≡ Some [])
input_ends left0 left1 left2 bytes buf input n before is end now =
    let all = whole_input left0 left1 bytes input before is in
    let none : all.0 ≡ [] = nothing_left left1 all.0 end all.2 in
    let more = whole_input left1 left2 (take n buf) all.0 now all.2 in
    let nothing_more : more.0 ≡ [] = no_bytes more.0 (omega (arith, ap length none, ap length more.1, length-append (take n buf) more.0)) in
    (all.1 ∙ ap (λ (l : List ℕ). bytes ++ l) none ∙ append-nil bytes, more.2 ∙ ap (λ (l : List ℕ). Some l) nothing_more)
  where
    no_bytes : (l : List ℕ) → length l ≡ 0 → l ≡ []
    no_bytes [] e = refl
    no_bytes (b ∷ l) e = absurd (omega arith)

-- the lines of an input that is not too long are due
pub all_due : (input bytes : List ℕ) → input ≡ bytes → length bytes ≤ most_input → replies initial (lines bytes) ≡ replies_to input
all_due input bytes same le = ap (replies initial) (sym (ap due_lines same ∙ due_short bytes le))

pub ended_stop : (input : List ℕ) (start : Option (List ℕ)) (now : Observed) (why : Stop) (status : Status) → status ≡ of_stop why → TellsFront start (due_lines input) now.told → Ended input start now status
ended_stop input start now stop.TellFault status is front = subst (Ended input start now) (sym is) front
ended_stop input start now stop.NoMemory status is front = subst (Ended input start now) (sym is) front

pub ended_done : (input : List ℕ) (start : Option (List ℕ)) (now : Observed) (refused : Bool) (status : Status) → status ≡ of_refused refused → IsDone input start now → refused ≡ some_refused (replies_to input) → Ended input start now status
ended_done input start now true status is done some = subst (Ended input start now) (sym is) (done, sym some)
ended_done input start now false status is done some = subst (Ended input start now) (sym is) (done, sym some)

-- where no call failed, the input alone says how a run ends
pub complete : (input : List ℕ) (old now : Observed) (status : Status) → (status ≡ Usage → ⊥) → Ended input old.told now status → HasRisen old now status
    → (Rose old.read_faults now.read_faults → ⊥) → (Rose old.tell_faults now.tell_faults → ⊥) → IsComplete input status
complete input old now AllAccepted used ended risen read tell = record { short = λ le. inl refl; long = λ lt. absurd (omega (arith, ended.0.within, lt)) }
complete input old now SomeRefused used ended risen read tell = record { short = λ le. inr (inl refl); long = λ lt. absurd (omega (arith, ended.0.within, lt)) }
complete input old now Usage used ended risen read tell = absurd (used refl)
complete input old now ReadFault used ended risen read tell = absurd (read risen)
complete input old now TellFault used ended risen read tell = absurd (tell risen)
complete input old now NoMemory used ended risen read tell = record { short = λ le. inr (inr refl); long = λ lt. inr refl }
complete input old now InputTooLong used ended risen read tell = record { short = λ le. absurd (omega (arith, ended.0, le)); long = λ lt. inl refl }

pub front_due : (start told : Option (List ℕ)) (input bytes : List ℕ) → input ≡ bytes → length bytes ≤ most_input → TellsFront start (lines bytes) told → TellsFront start (due_lines input) told
front_due start told input bytes same le front = subst (λ (l : List (List ℕ)). TellsFront start l told) (sym (ap due_lines same ∙ due_short bytes le)) front
