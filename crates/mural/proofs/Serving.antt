-- Lines answered after lines.
use Rattle.std.proofs.Common.{◌≡◌, inl, inr, ◌+◌, ◌≤◌, ◌<◌, ℕ, Bool, true, false, List, [], ◌∷◌, ◌++◌, length, take, drop, refl, sym, ◌∙◌, ap, subst, Option, arith, append_assoc, take-append-drop, length-append}
use Rattle.std.specs.Prelude.{slice_index_or, ◌||◌, nat_lt, Result, Ok, Err, OnOk, OnErr}
use Rattle.std.proofs.lemmas.Bool.{cond-true, lt-ltb}
use Rattle.std.proofs.lemmas.Bool.Decides.{leb_tells}
use Rattle.std.proofs.lemmas.Grind.{flat_map-append}
use Rattle.std.proofs.lemmas.List.{append-nil, take_all, take_more, length-take, length-take-le, take-append-le}
use Rattle.std.proofs.lemmas.List.Folds.{list_any-append}
use Rattle.std.specs.Io.KnownBytes.{append_known}
use Rattle.mural.specs.Lines.{is_line_feed, whole_lines, unfinished, last_line, lines}
use Rattle.mu_flat.specs.Entries.{Entries, initial}
use Rattle.mu_tree.specs.declared.refusal.Refusal.TheVariants.{LineTooLong}
use Rattle.mu_command.specs.Canonical.{longest_text}
use Rattle.mu_command.specs.Lines.{line_read}
use Rattle.mural.specs.Answers.{Answer, read_out, answer}
use Rattle.mural.specs.Replies.{replies, entries_after, told_for, told_bytes, refuses, some_refused}
use Rattle.mural.specs.Interpreter.{Served, IsFront, TellsFront, kept_length}
use Rattle.mu_machine.specs.declared.replies.Reply.{Reply}
use Rattle.mural.proofs.Known.{append_twice}
use Rattle.mural.proofs.Pieces.{whole_lines_feed, unfinished_feed, whole_lines_byte, unfinished_byte, whole_lines-append}

replies-append : (entries : Entries) (xs ys : List (List ℕ)) → replies entries (xs ++ ys) ≡ replies entries xs ++ replies (entries_after entries xs) ys
replies-append entries [] ys = refl
replies-append entries (x ∷ xs) ys = ap (λ (l : List (Option Reply)). (answer entries x).reply ∷ l) (replies-append (answer entries x).entries xs ys)

entries_after-append : (entries : Entries) (xs ys : List (List ℕ)) → entries_after entries (xs ++ ys) ≡ entries_after (entries_after entries xs) ys
entries_after-append entries [] ys = refl
entries_after-append entries (x ∷ xs) ys = entries_after-append (answer entries x).entries xs ys

told_bytes-append : (xs ys : List (Option Reply)) → told_bytes (xs ++ ys) ≡ told_bytes xs ++ told_bytes ys
told_bytes-append = flat_map-append told_for

too_long : (entries : Entries) (line : List ℕ) → longest_text < length line → answer entries line ≡ read_out entries (Err LineTooLong)
unfolding answer line_read
too_long entries line lt = ap (read_out entries) (cond-true (nat_lt longest_text (length line)) (Err LineTooLong) _ (lt-ltb longest_text (length line) lt))

-- a line that is too long is answered by its first bytes alone
pub answer_kept : (entries : Entries) (line : List ℕ) → answer entries (take kept_length line) ≡ answer entries line
answer_kept entries line = elim (leb_tells (length line) longest_text) [
  | inl t ↦ ap (answer entries) (take_all kept_length line (omega (arith, t.1)))
  | inr f ↦
      let long : longest_text < length (take kept_length line) = omega (arith, f.1, length-take-le kept_length line (omega (arith, f.1))) in
      too_long entries (take kept_length line) long ∙ sym (too_long entries line f.1)
]

-- the first bytes of a reply after those of the replies before it
pub front_more : (start told0 told1 : Option (List ℕ)) (xs ys : List (List ℕ)) (front : List ℕ) → told0 ≡ append_known start (told_bytes (replies initial xs)) → told1 ≡ append_known told0 front
    → IsFront front (told_bytes (replies (entries_after initial xs) ys)) → TellsFront start (xs ++ ys) told1
front_more start told0 told1 xs ys front so_far more is =
    let done = told_bytes (replies initial xs) in (
      done ++ front,
      more ∙ ap (λ (k : Option (List ℕ)). append_known k front) so_far ∙ append_twice start done front,
      (is.0, append_assoc done front is.0 ∙ ap (λ (l : List ℕ). done ++ l) is.1 ∙ sym (told_bytes-append (replies initial xs) (replies (entries_after initial xs) ys)) ∙ ap told_bytes (sym (replies-append initial xs ys))),
    )

-- what is told of some lines is told of these and others
pub front_longer : (start told : Option (List ℕ)) (xs ys : List (List ℕ)) → TellsFront start xs told → TellsFront start (xs ++ ys) told
front_longer start told xs ys is =
    let others = told_bytes (replies (entries_after initial xs) ys) in (
      is.0,
      is.1,
      (
        is.2.0 ++ others,
        sym (append_assoc is.0 is.2.0 others) ∙ ap (λ (l : List ℕ). l ++ others) is.2.1
            ∙ sym (told_bytes-append (replies initial xs) (replies (entries_after initial xs) ys)) ∙ ap told_bytes (sym (replies-append initial xs ys)),
      ),
    )

-- all of the replies to some lines
pub front_all : (start told : Option (List ℕ)) (xs : List (List ℕ)) → told ≡ append_known start (told_bytes (replies initial xs)) → TellsFront start xs told
front_all start told xs is = (told_bytes (replies initial xs), is, ([], append-nil (told_bytes (replies initial xs))))

kept_short : (line : List ℕ) → length (take kept_length line) ≤ longest_text → length line ≤ longest_text
kept_short line le = elim (leb_tells (length line) longest_text) [
  | inl t ↦ t.1
  | inr f ↦ absurd (omega (arith, f.1, le, length-take-le kept_length line (omega (arith, f.1))))
]

kept_long : (line : List ℕ) → longest_text < length (take kept_length line) → kept_length ≤ length line
kept_long line lt = elim (leb_tells kept_length (length line)) [
  | inl t ↦ t.1
  | inr f ↦ absurd (omega (arith, f.1, lt, ap length (take_all kept_length line (omega (arith, f.1)))))
]

kept_nothing : (line : List ℕ) → take kept_length line ≡ [] → line ≡ []
kept_nothing [] is = refl
kept_nothing (byte ∷ line) is = absurd (omega (arith, ap length is, length-take kept_length (byte ∷ line)))

kept_some : (line : List ℕ) → 0 < length (take kept_length line) → 0 < length line
kept_some [] some = some
kept_some (byte ∷ line) some = omega arith

last_line_is : (line : List ℕ) → 0 < length line → last_line line ≡ line ∷ []
last_line_is [] some = absurd (omega arith)
last_line_is (byte ∷ line) some = refl

or_false : (b : Bool) → (b || false) ≡ b
or_false true = refl
or_false false = refl

module _ (start : Option (List ℕ)) (bytes : List ℕ) (entries : Entries) (line : List ℕ) (refused : Bool) (told : Option (List ℕ)) (served : Served start bytes entries line refused told) where
  abbrev kept : Answer
  kept = answer entries line

  answer_is : kept ≡ answer (entries_after initial (whole_lines bytes)) (unfinished bytes)
  answer_is = ap (answer entries) served.line_is ∙ answer_kept entries (unfinished bytes) ∙ ap (λ (e : Entries). answer e (unfinished bytes)) served.entries_are

  abbrev last : Answer
  last = answer (entries_after initial (whole_lines bytes)) (unfinished bytes)

  more : replies initial (whole_lines bytes ++ unfinished bytes ∷ []) ≡ replies initial (whole_lines bytes) ++ last.reply ∷ []
  more = replies-append initial (whole_lines bytes) (unfinished bytes ∷ [])

  -- the line in hand is answered
  pub entries_one : (new : Entries) → new ≡ kept.entries → new ≡ entries_after initial (whole_lines bytes ++ unfinished bytes ∷ [])
  entries_one new is = is ∙ ap (λ (a : Answer). a.entries) answer_is ∙ sym (entries_after-append initial (whole_lines bytes) (unfinished bytes ∷ []))

  pub refused_one : (new : Bool) → new ≡ (refused || refuses kept.reply) → new ≡ some_refused (replies initial (whole_lines bytes ++ unfinished bytes ∷ []))
  refused_one new is =
      is ∙ ap (λ (b : Bool). b || refuses kept.reply) served.refused_is ∙ ap (λ (a : Answer). some_refused (replies initial (whole_lines bytes)) || refuses a.reply) answer_is
      ∙ ap (λ (b : Bool). some_refused (replies initial (whole_lines bytes)) || b) (sym (or_false (refuses last.reply)))
      ∙ sym (list_any-append refuses (replies initial (whole_lines bytes)) (last.reply ∷ [])) ∙ ap some_refused (sym more)

  pub told_one : (new : Option (List ℕ)) → new ≡ append_known told (told_for kept.reply) → new ≡ append_known start (told_bytes (replies initial (whole_lines bytes ++ unfinished bytes ∷ [])))
  told_one new is =
      is ∙ ap (λ (k : Option (List ℕ)). append_known k (told_for kept.reply)) served.told_is ∙ append_twice start (told_bytes (replies initial (whole_lines bytes))) (told_for kept.reply)
      ∙ ap (λ (a : Answer). append_known start (told_bytes (replies initial (whole_lines bytes)) ++ told_for a.reply)) answer_is
      ∙ ap (λ (l : List ℕ). append_known start (told_bytes (replies initial (whole_lines bytes)) ++ l)) (sym (append-nil (told_for last.reply)))
      ∙ ap (append_known start) (sym (told_bytes-append (replies initial (whole_lines bytes)) (last.reply ∷ [])) ∙ ap told_bytes (sym more))

  pub front_one : (new : Option (List ℕ)) (n : ℕ) → new ≡ append_known told (take n (told_for kept.reply)) → TellsFront start (whole_lines bytes ++ unfinished bytes ∷ []) new
  front_one new n is =
      front_more start told new (whole_lines bytes) (unfinished bytes ∷ []) (take n (told_for kept.reply)) served.told_is is
      (drop n (told_for kept.reply), take-append-drop n (told_for kept.reply) ∙ ap (λ (a : Answer). told_for a.reply) answer_is ∙ sym (append-nil (told_for last.reply)))

  -- a line feed comes
  pub served_feed : (byte : ℕ) (new : Entries) (rest : List ℕ) (now : Bool) (tells : Option (List ℕ)) → is_line_feed byte ≡ true → new ≡ kept.entries → rest ≡ []
      → now ≡ (refused || refuses kept.reply) → tells ≡ append_known told (told_for kept.reply) → Served start (bytes ++ byte ∷ []) new rest now tells
  served_feed byte new rest now tells is entries_is rest_is refused_is told_is =
      let whole = sym (whole_lines_feed bytes byte is) in
      record {
        entries_are = entries_one new entries_is ∙ ap (entries_after initial) whole;
        line_is = rest_is ∙ ap (take kept_length) (sym (unfinished_feed bytes byte is));
        refused_is = refused_one now refused_is ∙ ap (λ (l : List (List ℕ)). some_refused (replies initial l)) whole;
        told_is = told_one tells told_is ∙ ap (λ (l : List (List ℕ)). append_known start (told_bytes (replies initial l))) whole;
      }

  pub front_feed : (byte n : ℕ) (tells : Option (List ℕ)) → is_line_feed byte ≡ true → tells ≡ append_known told (take n (told_for kept.reply)) → TellsFront start (whole_lines (bytes ++ byte ∷ [])) tells
  front_feed byte n tells is told_is = subst (λ (l : List (List ℕ)). TellsFront start l tells) (sym (whole_lines_feed bytes byte is)) (front_one tells n told_is)

  -- another byte comes
  pub served_byte : (byte : ℕ) (new : Entries) (rest : List ℕ) (now : Bool) (tells : Option (List ℕ)) → is_line_feed byte ≡ false → new ≡ entries
      → rest ≡ take kept_length (unfinished bytes ++ byte ∷ []) → now ≡ refused → tells ≡ told → Served start (bytes ++ byte ∷ []) new rest now tells
  served_byte byte new rest now tells not entries_is rest_is refused_is told_is =
      let whole = sym (whole_lines_byte bytes byte not) in
      record {
        entries_are = entries_is ∙ served.entries_are ∙ ap (entries_after initial) whole;
        line_is = rest_is ∙ ap (take kept_length) (sym (unfinished_byte bytes byte not));
        refused_is = refused_is ∙ served.refused_is ∙ ap (λ (l : List (List ℕ)). some_refused (replies initial l)) whole;
        told_is = told_is ∙ served.told_is ∙ ap (λ (l : List (List ℕ)). append_known start (told_bytes (replies initial l))) whole;
      }

  -- the line in hand has room for a byte, or is too long already
  pub line_room : (byte : ℕ) → length line ≤ longest_text → line ++ byte ∷ [] ≡ take kept_length (unfinished bytes ++ byte ∷ [])
  line_room byte le =
      let short : length (unfinished bytes) ≤ longest_text = kept_short (unfinished bytes) (subst (λ (l : List ℕ). length l ≤ longest_text) served.line_is le) in
      ap (λ (l : List ℕ). l ++ byte ∷ []) (served.line_is ∙ take_all kept_length (unfinished bytes) (omega (arith, short)))
      ∙ sym (take_all kept_length (unfinished bytes ++ byte ∷ []) (omega (arith, short, length-append (unfinished bytes) (byte ∷ []))))

  pub line_full : (byte : ℕ) → longest_text < length line → line ≡ take kept_length (unfinished bytes ++ byte ∷ [])
  line_full byte lt =
      let long : kept_length ≤ length (unfinished bytes) = kept_long (unfinished bytes) (subst (λ (l : List ℕ). longest_text < length l) served.line_is lt) in
      served.line_is ∙ sym (take-append-le kept_length (unfinished bytes) (byte ∷ []) long)

  -- nothing more comes
  last_nothing : line ≡ [] → unfinished bytes ≡ []
  last_nothing is = kept_nothing (unfinished bytes) (sym served.line_is ∙ is)

  all_lines : line ≡ [] → whole_lines bytes ≡ lines bytes
  all_lines is = sym (append-nil (whole_lines bytes)) ∙ ap (λ (l : List ℕ). whole_lines bytes ++ last_line l) (sym (last_nothing is))

  one_more : 0 < length line → whole_lines bytes ++ unfinished bytes ∷ [] ≡ lines bytes
  one_more some = ap (λ (l : List (List ℕ)). whole_lines bytes ++ l) (sym (last_line_is (unfinished bytes) (kept_some (unfinished bytes) (subst (λ (l : List ℕ). 0 < length l) served.line_is some))))

  pub told_nothing : line ≡ [] → (tells : Option (List ℕ)) → tells ≡ told → tells ≡ append_known start (told_bytes (replies initial (lines bytes)))
  told_nothing is tells told_is = told_is ∙ served.told_is ∙ ap (λ (l : List (List ℕ)). append_known start (told_bytes (replies initial l))) (all_lines is)

  pub refused_nothing : line ≡ [] → refused ≡ some_refused (replies initial (lines bytes))
  refused_nothing is = served.refused_is ∙ ap (λ (l : List (List ℕ)). some_refused (replies initial l)) (all_lines is)

  pub told_last : 0 < length line → (tells : Option (List ℕ)) → tells ≡ append_known told (told_for kept.reply) → tells ≡ append_known start (told_bytes (replies initial (lines bytes)))
  told_last some tells is = told_one tells is ∙ ap (λ (l : List (List ℕ)). append_known start (told_bytes (replies initial l))) (one_more some)

  pub refused_last : 0 < length line → (now : Bool) → now ≡ (refused || refuses kept.reply) → now ≡ some_refused (replies initial (lines bytes))
  refused_last some now is = refused_one now is ∙ ap (λ (l : List (List ℕ)). some_refused (replies initial l)) (one_more some)

  pub front_last : 0 < length line → (tells : Option (List ℕ)) (n : ℕ) → tells ≡ append_known told (take n (told_for kept.reply)) → TellsFront start (lines bytes) tells
  front_last some tells n is = subst (λ (l : List (List ℕ)). TellsFront start l tells) (one_more some) (front_one tells n is)

-- what holds at an error
pub on_err : {T E P : Type 0} (result : Result T E) → P → OnErr result P
on_err (Ok x) p = tt
on_err (Err e) p = p

pub on_err_map : {T E P Q : Type 0} (result : Result T E) → (P → Q) → OnErr result P → OnErr result Q
on_err_map (Ok x) f p = tt
on_err_map (Err e) f p = f p

-- what holds at an answer
pub on_ok_map : {T E P Q : Type 0} (result : Result T E) → (P → Q) → OnOk result P → OnOk result Q
on_ok_map (Ok x) f p = f p
on_ok_map (Err e) f p = tt

-- lines that begin as some do
pub front_of : (start told : Option (List ℕ)) (xs ys all : List (List ℕ)) → all ≡ xs ++ ys → TellsFront start xs told → TellsFront start all told
front_of start told xs ys all is front = subst (λ (l : List (List ℕ)). TellsFront start l told) (sym is) (front_longer start told xs ys front)

pub nothing_there : (line : List ℕ) → length line ≡ 0 → line ≡ []
nothing_there [] is = refl
nothing_there (byte ∷ line) is = absurd (omega arith)

-- a front of the replies to some lines, where others follow in the same bytes
pub front_part : (start told : Option (List ℕ)) (first bytes : List ℕ) (i : ℕ) → i < length bytes → TellsFront start (whole_lines ((first ++ take i bytes) ++ slice_index_or bytes i 0 ∷ [])) told
    → TellsFront start (whole_lines (first ++ bytes)) told
front_part start told first bytes i lt front =
    let some = (first ++ take i bytes) ++ slice_index_or bytes i 0 ∷ [] in
    let rest = drop (i + 1) bytes in
    let all : first ++ bytes ≡ some ++ rest =
    ap (λ (l : List ℕ). first ++ l) (sym (take-append-drop (i + 1) bytes) ∙ ap (λ (l : List ℕ). l ++ rest) (take_more bytes i 0 lt))
    ∙ sym (append_assoc first (take i bytes ++ slice_index_or bytes i 0 ∷ []) rest)
    ∙ ap (λ (l : List ℕ). l ++ rest) (sym (append_assoc first (take i bytes) (slice_index_or bytes i 0 ∷ []))) in
    let more = whole_lines-append some rest in
    front_of start told (whole_lines some) more.0 (whole_lines (first ++ bytes)) (ap whole_lines all ∙ more.1) front
