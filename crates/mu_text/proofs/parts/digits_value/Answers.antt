use Rattle.std.proofs.Common.{◌≡◌, ℕ, List, ◌∷◌, refl, ap, sym, ◌∙◌, subst, arith}
use Rattle.mu_grammar.specs.SimpleParts.{number_from}
use Rattle.mu_grammar.proofs.Digits.{Room, Next, room_first, room_next}
use Rattle.mu_text.proofs.parts.digits_value.Goals as goal

next_of : (value digit : ℕ) (rest tail : List ℕ) → rest ≡ digit ∷ tail → Room value rest → Next value digit tail
next_of value digit rest tail e room = room_next value digit tail (subst (λ (l : List ℕ). Room value l) e room)

pub loop-digit-init : goal.loop-digit-init
loop-digit-init c = record { same = refl; room = room_first c.args.text.now c.requires }

pub overflow_mul-value : goal.overflow_mul-value
overflow_mul-value c =
    let next : Next c.loop-digit.value c.in-Some.digit c.in-Some.tail.now = next_of c.loop-digit.value c.in-Some.digit c.loop-digit.rest.now c.in-Some.tail.now c.in-Some.ensures c.loop-digit.invariant.room in
    omega arith

pub overflow_add-value : goal.overflow_add-value
overflow_add-value c =
    let next : Next c.loop-digit.value c.in-Some.digit c.in-Some.tail.now = next_of c.loop-digit.value c.in-Some.digit c.loop-digit.rest.now c.in-Some.tail.now c.in-Some.ensures c.loop-digit.invariant.room in
    omega arith

pub loop-digit-preserved : goal.loop-digit-preserved
loop-digit-preserved c =
    let next = next_of c.loop-digit.value c.in-Some.digit c.loop-digit.rest.now c.in-Some.tail.now c.in-Some.ensures c.loop-digit.invariant.room in
    rw c.from.ensures (record { same = sym (ap (number_from c.loop-digit.value) c.in-Some.ensures) ∙ c.loop-digit.invariant.same; room = next.room })
