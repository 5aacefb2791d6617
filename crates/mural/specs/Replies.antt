-- The replies to the lines of an input.
use Rattle.std.specs.Prelude.{ℕ, Bool, false, List, [], ◌∷◌, Option, Some, None}
use Rattle.std.specs.List.{flat_map, list_any}
use Rattle.mu_flat.specs.Entries.{Entries, initial}
use Rattle.mural.specs.Answers.{answer}
use Rattle.mural.specs.Lines.{due_lines}
use Rattle.mural.specs.Wording.{told_as, is_refusal}
use Rattle.mu_machine.specs.declared.replies.Reply.{Reply}

-- the replies to lines, one after another: none to a quiet one
abbrev pub replies : Entries → List (List ℕ) → List (Option Reply)
replies entries [] = []
replies entries (line ∷ lines) = (answer entries line).reply ∷ replies (answer entries line).entries lines

-- the store after these lines
abbrev pub entries_after : Entries → List (List ℕ) → Entries
entries_after entries [] = entries
entries_after entries (line ∷ lines) = entries_after (answer entries line).entries lines

-- the bytes that tell a reply, if there is one
abbrev pub told_for : Option Reply → List ℕ
told_for None = []
told_for (Some reply) = told_as reply

-- the bytes that tell replies
abbrev pub told_bytes : List (Option Reply) → List ℕ
told_bytes = flat_map told_for

-- whether a reply, if there is one, is a refusal
abbrev pub refuses : Option Reply → Bool
refuses None = false
refuses (Some reply) = is_refusal reply

-- whether some reply is a refusal
abbrev pub some_refused : List (Option Reply) → Bool
some_refused = list_any refuses

-- the replies that are due to an input, from an empty store on
abbrev pub replies_to : List ℕ → List (Option Reply)
replies_to input = replies initial (due_lines input)
