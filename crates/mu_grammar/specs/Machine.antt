-- How tokens are read from left to right: what has been read waits on a stack. The grammar itself stands in Writings.
use Rattle.std.specs.Prelude.{ℕ, ◌-◌, List, [], ◌∷◌, Option, Some, None, ◌&&◌, if◌then◌else◌, nat_le}
use Rattle.mu_grammar.specs.declared.ops.Op.{Op}
use Rattle.mu_grammar.specs.declared.symbol.Word.{Word}
use Rattle.mu_grammar.specs.declared.symbol.Word.TheVariants.{Plain, Meta, Place}
use Rattle.mu_grammar.specs.declared.symbol.Mark.TheVariants.{Not, Open, Close, OpenBracket, CloseBracket, OpenBrace, CloseBrace, Comma, Colon, Dot}
use Rattle.mu_grammar.specs.declared.symbol.Sort.{Sort}
use Rattle.mu_grammar.specs.declared.symbol.Sort.TheVariants as sort
use Rattle.mu_grammar.specs.declared.way.Beginning.{Beginning}
use Rattle.mu_grammar.specs.declared.way.Beginning.TheVariants as begins
use Rattle.mu_grammar.specs.declared.way.Opening.{Opening}
use Rattle.mu_grammar.specs.declared.way.Opening.TheVariants as opens
use Rattle.mu_grammar.specs.declared.way.Ending.{Ending}
use Rattle.mu_grammar.specs.declared.way.Ending.TheVariants as ends
use Rattle.mu_grammar.specs.Lexemes.{Lexeme, word, mark, sort_of, bytes_of}
use Rattle.mu_grammar.specs.Ops.{binary, prefix_level}
use Rattle.mu_grammar.specs.Parts.{Out, found, stopped}
use Rattle.mu_grammar.specs.Writings.{Writing, Writings, leaf, apply, bind, paren, neg, bin, one, more, level}

-- what a tree that is wanted begins with, by its first token
abbrev pub beginning_of : Option Sort → Beginning
beginning_of (Some (sort.Word Place)) = begins.Nothing
beginning_of (Some (sort.Word head)) = begins.Head head
beginning_of (Some (sort.Mark Open)) = begins.Paren
beginning_of (Some (sort.Mark Not)) = begins.Negation
beginning_of _ = begins.Nothing

-- what follows the head of a tree, by the next token
abbrev pub opening_of : Word → Option Sort → Opening
opening_of Place _ = opens.Nothing
opening_of Meta (Some (sort.Mark OpenBracket)) = opens.Arguments
opening_of Meta _ = opens.Nothing
opening_of _ (Some (sort.Mark Open)) = opens.Arguments
opening_of _ (Some (sort.Mark OpenBrace)) = opens.Binder
opening_of _ _ = opens.Nothing

-- what follows an argument of a head, by the next token
abbrev pub ending_of : Word → Option Sort → Ending
ending_of _ (Some (sort.Mark Comma)) = ends.GoesOn
ending_of Meta (Some (sort.Mark CloseBracket)) = ends.Closes
ending_of Meta _ = ends.Nothing
ending_of _ (Some (sort.Mark Close)) = ends.Closes
ending_of _ _ = ends.Nothing

-- the same of a token
abbrev pub beginning : Lexeme → Beginning
beginning item = beginning_of (Some (sort_of item))

abbrev pub opening : Word → Lexeme → Opening
opening head item = opening_of head (Some (sort_of item))

abbrev pub ending : Word → Lexeme → Ending
ending head item = ending_of head (Some (sort_of item))

-- what waits for the tree that is being read; n and m are what holds where the frame was pushed:
-- how many levels may still open, and the least level that is wanted
pub data Stack : Type 0 where
  top : Stack
  right : Lexeme → Op → Writing → ℕ → ℕ → Stack → Stack
  negated : ℕ → ℕ → Stack → Stack
  inside : ℕ → ℕ → Stack → Stack
  given : Word → List ℕ → List Writing → ℕ → ℕ → Stack → Stack
  domain : Word → List ℕ → List ℕ → ℕ → ℕ → Stack → Stack
  body : Word → List ℕ → List ℕ → Writing → ℕ → ℕ → Stack → Stack

-- the arguments before, the last one first, and the last arguments
abbrev pub fill : List Writing → Writings → Writings
fill [] ws = ws
fill (v ∷ vs) ws = fill vs (more v ws)

-- a tree is wanted; a head is read, and may go on; the brace of a binder is read; so is its variable; or a tree is read.
-- n levels may still open, and m is the least level that is wanted
pub data Mode : Type 0 where
  want : ℕ → ℕ → Stack → Mode
  named : Word → List ℕ → ℕ → ℕ → Stack → Mode
  binding : Word → List ℕ → ℕ → ℕ → Stack → Mode
  typing : Word → List ℕ → List ℕ → ℕ → ℕ → Stack → Mode
  have : ℕ → ℕ → Writing → Stack → Mode

-- what a token does: it is read; it goes on with nothing, and the writing is done; or it fits nothing
pub data Next : Type 0 where
  go : Mode → Next
  done : Writing → Next
  stop : Next

-- some levels open, if they may
abbrev pub open_levels : ℕ → ℕ → Mode → Next
open_levels i n mode = if nat_le i n then go mode else stop

-- an operator after w, or what holds otherwise
abbrev pub after : ℕ → ℕ → Writing → Stack → Lexeme → Next → Option Op → Next
after n m w k item other None = other
after n m w k item other (Some o) =
    if nat_le m o.level && nat_le o.left (level w) then open_levels o.opens n (want (n - o.opens) o.right (right item o w n m k)) else other

-- behind a tree in parentheses
abbrev pub close_inside : ℕ → ℕ → Writing → Stack → Lexeme → Next
close_inside n m w k (mark Close) = go (have n m (paren w) k)
close_inside n m w k _ = stop

-- behind an argument
abbrev pub close_given : Word → List ℕ → List Writing → ℕ → ℕ → Writing → Stack → Ending → Next
close_given head name vs n m w k ends.Closes = go (have n m (apply head name (fill vs (one w))) k)
close_given head name vs n m w k ends.GoesOn = go (want (n - 1) 0 (given head name (w ∷ vs) n m k))
close_given head name vs n m w k ends.Nothing = stop

-- behind the domain of a binder
abbrev pub close_domain : Word → List ℕ → List ℕ → ℕ → ℕ → Writing → Stack → Lexeme → Next
close_domain head name v n m w k (mark Dot) = go (want (n - 1) 0 (body head name v w n m k))
close_domain head name v n m w k _ = stop

-- behind the body of a binder
abbrev pub close_body : Word → List ℕ → List ℕ → Writing → ℕ → ℕ → Writing → Stack → Lexeme → Next
close_body head name v d n m w k (mark CloseBrace) = go (have n m (bind head name v d w) k)
close_body head name v d n m w k _ = stop

-- the token continues w nowhere, so w is handed to what waits for it
abbrev pub close : Stack → Writing → Lexeme → Next
close top w item = done w
close (right sign o a n m k) w item = after n m (bin sign o a w) k item (close k (bin sign o a w) item) (binary item)
close (negated n m k) w item = after n m (neg w) k item (close k (neg w) item) (binary item)
close (inside n m k) w item = close_inside n m w k item
close (given head name vs n m k) w item = close_given head name vs n m w k (ending head item)
close (domain head name v n m k) w item = close_domain head name v n m w k item
close (body head name v d n m k) w item = close_body head name v d n m w k item

-- behind a tree
abbrev pub after_tree : ℕ → ℕ → Writing → Stack → Lexeme → Next
after_tree n m w k item = after n m w k item (close k w item) (binary item)

-- a tree is wanted
abbrev pub begin : ℕ → ℕ → Stack → List ℕ → Beginning → Next
begin n m k name (begins.Head head) = go (named head name n m k)
begin n m k name begins.Paren = open_levels 1 n (want (n - 1) 0 (inside n m k))
begin n m k name begins.Negation = if nat_le m prefix_level then open_levels 1 n (want (n - 1) prefix_level (negated n m k)) else stop
begin n m k name begins.Nothing = stop

-- behind a head
abbrev pub after_name : Word → List ℕ → ℕ → ℕ → Stack → Lexeme → Opening → Next
after_name head name n m k item opens.Arguments = open_levels 1 n (want (n - 1) 0 (given head name [] n m k))
after_name head name n m k item opens.Binder = open_levels 1 n (binding head name n m k)
after_name head name n m k item opens.Nothing = after_tree n m (leaf head name) k item

-- behind the brace of a binder
abbrev pub bound : Word → List ℕ → ℕ → ℕ → Stack → Lexeme → Next
bound head name n m k (word Plain v) = go (typing head name v n m k)
bound head name n m k _ = stop

-- behind the variable of a binder
abbrev pub typed : Word → List ℕ → List ℕ → ℕ → ℕ → Stack → Lexeme → Next
typed head name v n m k (mark Colon) = go (want (n - 1) 0 (domain head name v n m k))
typed head name v n m k _ = stop

-- one token is taken in some mode
abbrev pub step : Mode → Lexeme → Next
step (want n m k) item = begin n m k (bytes_of item) (beginning item)
step (named head name n m k) item = after_name head name n m k item (opening head item)
step (binding head name n m k) item = bound head name n m k item
step (typing head name v n m k) item = typed head name v n m k item
step (have n m w k) item = after_tree n m w k item

-- the tokens end, and w is handed to what waits for it
abbrev pub finish : Stack → Writing → Option Writing
finish top w = Some w
finish (right sign o a n m k) w = finish k (bin sign o a w)
finish (negated n m k) w = finish k (neg w)
finish _ w = None

-- what reading gives then
abbrev pub ended : Option Writing → Out Writing
ended (Some w) = found w []
ended None = stopped []

-- the tokens end in some mode
abbrev pub at_end : Mode → Out Writing
at_end (want n m k) = stopped []
at_end (named head name n m k) = ended (finish k (leaf head name))
at_end (binding head name n m k) = stopped []
at_end (typing head name v n m k) = stopped []
at_end (have n m w k) = ended (finish k w)

-- all tokens are taken, from some mode on
abbrev pub run : Mode → List Lexeme → Out Writing
run mode [] = at_end mode
run mode (item ∷ rest) = elim (step mode item) [ go next ↦ run next rest | done w ↦ found w (item ∷ rest) | stop ↦ stopped (item ∷ rest) ]
