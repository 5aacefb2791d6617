-- The bytes that tell a reply.
use Rattle.std.specs.Prelude.{ℕ, Bool, true, false, ◌++◌, List, [], ◌∷◌, codes}
use Rattle.std.specs.Fmt.{decimal}
use Rattle.mu_tree.specs.declared.refusal.Refusal.{Refusal}
use Rattle.mu_tree.specs.declared.refusal.Refusal.TheVariants.{LineTooLong, Syntax, Limit, Unknown, Taken, Builtin, NotEmpty, Circle, NoMatch, Undetermined, TooMany, JournalFull}
use Rattle.mu_tree.specs.declared.refusal.LimitWord.{LimitWord}
use Rattle.mu_tree.specs.declared.refusal.LimitWord.TheVariants as limit
use Rattle.mu_tree.specs.declared.refusal.CountWord.{CountWord}
use Rattle.mu_tree.specs.declared.refusal.CountWord.TheVariants as count
use Rattle.mu_machine.specs.declared.replies.Reply.{Reply}
use Rattle.mu_machine.specs.declared.replies.Reply.TheVariants.{Changed, Page, Refused}

-- the word for what there would be too many of
abbrev pub count_word : CountWord → List ℕ
count_word count.Theories = codes "theories"
count_word count.Specs = codes "specs"
count_word count.Reifications = codes "reifications"
count_word count.Morphisms = codes "morphisms"
count_word count.Constants = codes "constants"
count_word count.Rules = codes "rules"
count_word count.Proofs = codes "proofs"
count_word count.Boxes = codes "boxes"
count_word count.Items = codes "items"
count_word count.Text = codes "text"

-- the word for a limit that is passed
abbrev pub limit_word : LimitWord → List ℕ
limit_word limit.Name = codes "name"
limit_word limit.Nodes = codes "nodes"
limit_word limit.Depth = codes "depth"
limit_word limit.Text = codes "text"

-- the word for a refusal
abbrev pub refusal_word : Refusal → List ℕ
refusal_word LineTooLong = codes "line-too-long"
refusal_word (Syntax column) = codes "syntax"
refusal_word (Limit word) = codes "limit"
refusal_word (Unknown detail) = codes "unknown"
refusal_word (Taken detail) = codes "taken"
refusal_word (Builtin detail) = codes "builtin"
refusal_word (NotEmpty detail) = codes "not-empty"
refusal_word (Circle detail) = codes "circle"
refusal_word NoMatch = codes "no-match"
refusal_word (Undetermined meta) = codes "undetermined"
refusal_word (TooMany word) = codes "too-many"
refusal_word JournalFull = codes "journal-full"

-- what a refusal is about, behind a blank, where it is about something
abbrev pub refusal_detail : Refusal → List ℕ
refusal_detail LineTooLong = []
refusal_detail (Syntax column) = codes " " ++ decimal column
refusal_detail (Limit word) = codes " " ++ limit_word word
refusal_detail (Unknown detail) = codes " " ++ detail
refusal_detail (Taken detail) = codes " " ++ detail
refusal_detail (Builtin detail) = codes " " ++ detail
refusal_detail (NotEmpty detail) = codes " " ++ detail
refusal_detail (Circle detail) = codes " " ++ detail
refusal_detail NoMatch = []
refusal_detail (Undetermined meta) = codes " ?" ++ meta
refusal_detail (TooMany word) = codes " " ++ count_word word
refusal_detail JournalFull = []

-- the words of a refusal
abbrev pub refusal_words : Refusal → List ℕ
refusal_words refused = refusal_word refused ++ refusal_detail refused

-- the bytes that tell a reply
abbrev pub told_as : Reply → List ℕ
told_as (Changed line) = codes "ok" ++ 10 ∷ []
told_as (Page text) = text
told_as (Refused refused) = codes "refused " ++ refusal_words refused ++ 10 ∷ []

-- whether a reply is a refusal
abbrev pub is_refusal : Reply → Bool
is_refusal (Changed line) = false
is_refusal (Page text) = false
is_refusal (Refused refused) = true
