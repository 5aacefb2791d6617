-- Copying bytes to the front of a buffer.
use Rattle.std.proofs.Common.{◌≡◌, ◌∙◌, ◌-◌, ◌<◌, min, ℕ, List, ◌++◌, length, take, drop, Ok, Some, ap, sym, arith, length-append, take-append-drop}
use Rattle.std.proofs.lemmas.List.{take_at, length-take, length-drop, nil_from_length}
use Rattle.mu_outside.specs.Outsides.{Takes, Reads}
use Rattle.mu_outside.specs.declared.outsides.Failed.{Failed}

-- as many first bytes as there is room for are taken
pub takes_first : (left later buf filled : List ℕ) (count : ℕ) → count ≡ min (length left) (length buf) → filled ≡ take count left ++ drop count buf
    → later ≡ drop count left → 0 < length buf → Takes {E = Failed} (Some left) (Some later) (Ok count) filled
takes_first left later buf filled count count_is filled_is later_is room =
    let long : length (take count left) ≡ count = omega (arith, length-take count left, count_is) in
    let taken : take count filled ≡ take count left = ap (take count) filled_is ∙ take_at (take count left) (drop count buf) count long in
    let whole : take count filled ++ later ≡ left = ap (λ bytes. bytes ++ later) taken ∙ ap (λ bytes. take count left ++ bytes) later_is ∙ take-append-drop count left in (
      omega (arith, long, ap length filled_is, length-append (take count left) (drop count buf)),
      ap (λ (bytes : List ℕ). Some bytes) (sym whole),
      λ none. nil_from_length left (omega (arith, none, count_is, room)),
    )

-- as many bytes from a place on as there is room for are copied
pub reads_first : (content buf filled : List ℕ) (at count : ℕ) → count ≡ min (length content - at) (length buf) → filled ≡ take count (drop at content) ++ drop count buf
    → 0 < length buf → Reads {E = Failed} (Some content) at (Ok count) filled
reads_first content buf filled at count count_is filled_is room =
    let long : length (take count (drop at content)) ≡ count = omega (arith, length-take count (drop at content), length-drop at content, count_is) in (
      sym (ap (take count) filled_is ∙ take_at (take count (drop at content)) (drop count buf) count long),
      omega (arith, count_is),
      λ none. omega (arith, none, count_is, room),
    )
