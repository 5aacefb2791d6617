-- The number that at most nine digits spell stays below ten to the ninth.
use Rattle.std.proofs.Common.{◌≡◌, ℕ, zero, suc, ◌+◌, ◌-◌, ◌*◌, ◌≤◌, true, ◌&&◌, List, ◌∷◌, length, subst, arith}
use Rattle.std.specs.Prelude.{nat_le}
use Rattle.std.specs.List.{list_all}
use Rattle.std.proofs.lemmas.Bool.{and_parts}
use Rattle.std.proofs.lemmas.Bool.Decides.{nat_tests}
use Rattle.mu_tree.specs.Names.{is_digit}
use Rattle.mu_grammar.specs.Reading.{starts_positive}
use Rattle.mu_grammar.specs.SimpleParts.{is_number}

-- the number with this many nines behind it
abbrev pub filled : ℕ → ℕ → ℕ
filled value zero = value
filled value (suc more) = filled (value * 10 + 9) more

filled_more : (more a b : ℕ) → a ≤ b → filled a more ≤ filled b more
filled_more zero a b h = h
filled_more (suc more) a b h = filled_more more (a * 10 + 9) (b * 10 + 9) (omega arith)

filled_longer : (more value : ℕ) → filled value more ≤ filled value (suc more)
filled_longer more value = filled_more more value (value * 10 + 9) (omega arith)

filled_within : (more value : ℕ) → value ≤ filled value more
filled_within zero value = omega arith
filled_within (suc more) value = let step : value * 10 + 9 ≤ filled (value * 10 + 9) more = filled_within more (value * 10 + 9) in omega arith

filled_up : (count more : ℕ) → filled 0 more ≤ filled 0 (count + more)
filled_up zero more = subst (λ (n : ℕ). filled 0 more ≤ filled 0 n) (let e : more ≡ 0 + more = omega arith in e) (omega arith)
filled_up (suc count) more =
    let before : filled 0 more ≤ filled 0 (count + more) = filled_up count more in
    let longer : filled 0 (count + more) ≤ filled 0 (suc (count + more)) = filled_longer (count + more) 0 in
    subst (λ (n : ℕ). filled 0 more ≤ filled 0 n) (let e : suc (count + more) ≡ suc count + more = omega arith in e) (omega arith)

-- nine digits at most have room
pub filled_nine : (more : ℕ) → more ≤ 9 → filled 0 more ≤ 999999999
filled_nine more h =
    let up : filled 0 more ≤ filled 0 ((9 - more) + more) = filled_up (9 - more) more in
    let nine : (9 - more) + more ≡ 9 = omega arith in
    subst (λ (n : ℕ). filled 0 more ≤ filled 0 n) nine up

-- what is left of the digits, and the room for them
pub record Room (value : ℕ) (rest : List ℕ) : Type 0 where
  pub digits : list_all is_digit rest ≡ true
  pub room : filled value (length rest) ≤ 999999999

pub room_first : (text : List ℕ) → is_number text ≡ true → Room 0 text
room_first text h =
    let parts = and_parts (starts_positive text && list_all is_digit text) (nat_le (length text) 9) h in
    let front = and_parts (starts_positive text) (list_all is_digit text) parts.0 in
    record { digits = front.1; room = filled_nine (length text) (grind (arith, nat_tests)) }

-- the first byte is a digit, and there is room for it
pub record Next (value digit : ℕ) (rest : List ℕ) : Type 0 where
  pub least : 48 ≤ digit
  pub most : digit ≤ 57
  pub within : value * 10 + (digit - 48) ≤ 999999999
  pub room : Room (value * 10 + (digit - 48)) rest

pub room_next : (value digit : ℕ) (rest : List ℕ) → Room value (digit ∷ rest) → Next value digit rest
room_next value digit rest r =
    let parts = and_parts (is_digit digit) (list_all is_digit rest) r.digits in
    let bounds = and_parts (nat_le 48 digit) (nat_le digit 57) parts.0 in
    let least : 48 ≤ digit = grind (arith, nat_tests) in
    let most : digit ≤ 57 = grind (arith, nat_tests) in
    let more : filled (value * 10 + (digit - 48)) (length rest) ≤ filled (value * 10 + 9) (length rest) = filled_more (length rest) (value * 10 + (digit - 48)) (value * 10 + 9) (omega arith) in
    let here : value * 10 + (digit - 48) ≤ filled (value * 10 + (digit - 48)) (length rest) = filled_within (length rest) (value * 10 + (digit - 48)) in
    let all : filled (value * 10 + 9) (length rest) ≤ 999999999 = r.room in
    record { least = least; most = most; within = omega arith; room = record { digits = parts.1; room = omega arith } }
