-- The bytes of a journal, and what any bytes open to.
use Rattle.std.specs.Prelude.{◌+◌, ◌^◌, ◌≤◌, ℕ, zero, suc, Bool, true, false, not, ◌&&◌, ◌||◌, ◌==◌, nat_eq, leb, if◌then◌else◌, List, [], ◌∷◌, ◌++◌, length, take, drop}
use Rattle.std.specs.Int.{to_be_bytes, from_be_bytes, w32}
use Rattle.std.specs.List.{starts_with}

-- "MURALJ1" and a line feed, with which each journal begins
abbrev pub head : List ℕ
head = 77 ∷ 85 ∷ 82 ∷ 65 ∷ 76 ∷ 74 ∷ 49 ∷ 10 ∷ []

-- the gate before a record that counts; each other byte is a closed gate, and 0 is what is written for one
abbrev pub open_gate : ℕ
open_gate = 165

-- the length that the first four bytes say, the highest byte first
abbrev pub said_length : List ℕ → ℕ
said_length bytes = from_be_bytes w32 (take 4 bytes)

-- These bytes begin with a whole record: four bytes that say its length, which is 1 to 2^24, so many bytes, and a gate.
abbrev pub is_whole : List ℕ → Bool
is_whole bytes = leb 4 (length bytes) && (leb 1 (said_length bytes) && (leb (said_length bytes) (2 ^ 24) && leb (said_length bytes + 5) (length bytes)))

-- no byte
abbrev pub is_empty : List ℕ → Bool
is_empty [] = true
is_empty (byte ∷ bytes) = false

-- what bytes open to: a journal that holds these records, no journal, or one whose record of this number is torn
pub data Opened : Type 0 where
  Holding : List (List ℕ) → Opened
  Foreign : Opened
  Torn : ℕ → Opened

-- the same with one record more before the others
abbrev pub after_one : List ℕ → Opened → Opened
after_one one (Holding more) = Holding (one ∷ more)
after_one one Foreign = Foreign
after_one one (Torn number) = Torn number

-- The journal ends at this gate, before these bytes: it is closed, or no byte follows it.
abbrev pub ends_at : ℕ → List ℕ → Bool
ends_at gate bytes = not (gate == open_gate) || is_empty bytes

-- What the bytes from a gate on open to, with the number of the next record. The first argument is above their length.
abbrev pub open_from : ℕ → ℕ → List ℕ → Opened
open_from zero number bytes = Holding []
open_from (suc fuel) number [] = Holding []
open_from (suc fuel) number (gate ∷ rest) =
    if ends_at gate rest then Holding []
    else (if is_whole rest
    then after_one (take (said_length rest) (drop 4 rest)) (open_from fuel (number + 1) (drop (4 + said_length rest) rest))
    else Torn number)

-- What any bytes open to. Those of at most nine are a journal whose making was cut short.
unfoldable pub opened : List ℕ → Opened
opened bytes =
    if leb (length bytes) 9 then Holding []
    else (if starts_with nat_eq bytes head then open_from (length bytes) 1 (drop 8 bytes) else Foreign)

-- records, each behind an open gate
abbrev pub blocks : List (List ℕ) → List ℕ
blocks [] = []
blocks (one ∷ more) = open_gate ∷ to_be_bytes w32 (length one) ++ one ++ blocks more

-- a journal of these records, whose last gate is closed
abbrev pub closed : List (List ℕ) → List ℕ
closed records = head ++ blocks records ++ 0 ∷ []

-- a record has 1 to 2^24 bytes
pub record IsRecord (one : List ℕ) : Type 0 where
  pub some : 1 ≤ length one
  pub most : length one ≤ 2 ^ 24

-- each of them is one
abbrev pub AllRecords : List (List ℕ) → Type 0
AllRecords [] = Unit {0}
AllRecords (one ∷ more) = IsRecord one × AllRecords more
