-- Bytes that are known of an outside, one call after another.
use Rattle.std.proofs.Common.{◌≡◌, ◌+◌, ℕ, List, [], ◌++◌, take, drop, refl, sym, ◌∙◌, ap, Option, None, Some, arith, append_assoc, take-append-drop}
use Rattle.std.proofs.lemmas.List.{append-nil, take-take, drop-take}
use Rattle.std.specs.Io.KnownBytes.{append_known, prepend_known, IsAtEnd}
use Rattle.mu_outside.specs.Outsides.{Observed, KeepsButTold}

pub append_twice : (known : Option (List ℕ)) (xs ys : List ℕ) → append_known (append_known known xs) ys ≡ append_known known (xs ++ ys)
append_twice None xs ys = refl
append_twice (Some bytes) xs ys = ap (λ (l : List ℕ). Some l) (append_assoc bytes xs ys)

pub prepend_twice : (xs ys : List ℕ) (known : Option (List ℕ)) → prepend_known xs (prepend_known ys known) ≡ prepend_known (xs ++ ys) known
prepend_twice xs ys None = refl
prepend_twice xs ys (Some bytes) = ap (λ (l : List ℕ). Some l) (sym (append_assoc xs ys bytes))

pub append_none : (known : Option (List ℕ)) → append_known known [] ≡ known
append_none None = refl
append_none (Some bytes) = ap (λ (l : List ℕ). Some l) (append-nil bytes)

pub prepend_none : (known : Option (List ℕ)) → prepend_known [] known ≡ known
prepend_none None = refl
prepend_none (Some bytes) = refl

take_add : (xs : List ℕ) (at n : ℕ) → take at xs ++ take n (drop at xs) ≡ take (at + n) xs
take_add xs at n =
    ap (λ (l : List ℕ). l ++ take n (drop at xs)) (sym (take-take at (at + n) xs (omega arith)))
    ∙ ap (λ (l : List ℕ). take at (take (at + n) xs) ++ l) (sym (drop-take at n xs))
    ∙ take-append-drop at (take (at + n) xs)

-- some more bytes are told, after some
pub told_more : (told0 told1 told2 : Option (List ℕ)) (bytes piece : List ℕ) (at n : ℕ) → piece ≡ drop at bytes → told1 ≡ append_known told0 (take at bytes)
    → told2 ≡ append_known told1 (take n piece) → told2 ≡ append_known told0 (take (at + n) bytes)
told_more told0 told1 told2 bytes piece at n is so_far more =
    more ∙ ap (λ (l : List ℕ). append_known told1 (take n l)) is ∙ ap (λ (k : Option (List ℕ)). append_known k (take n (drop at bytes))) so_far
    ∙ append_twice told0 _ _ ∙ ap (λ (l : List ℕ). append_known told0 l) (take_add bytes at n)

pub keeps_on : (old mid new : Observed) → KeepsButTold old mid → KeepsButTold mid new → KeepsButTold old new
keeps_on old mid new a b = record {
  left = b.left ∙ a.left;
  disk = b.disk ∙ a.disk;
  attached = b.attached ∙ a.attached;
  read_faults = b.read_faults ∙ a.read_faults;
  disk_faults = b.disk_faults ∙ a.disk_faults;
}

-- the whole input, from what was taken of it
pub whole_input : (left0 left1 : Option (List ℕ)) (bytes input : List ℕ) → left0 ≡ prepend_known bytes left1 → left0 ≡ Some input → (rest : List ℕ) × (input ≡ bytes ++ rest) × (left1 ≡ Some rest)
whole_input left0 None bytes input e f = absurd (cc)
whole_input left0 (Some rest) bytes input e f = (rest, cc, refl)

-- nothing is left at the end
pub nothing_left : (known : Option (List ℕ)) (rest : List ℕ) → IsAtEnd known → known ≡ Some rest → rest ≡ []
nothing_left None rest at e = absurd (cc)
nothing_left (Some xs) rest at e = let same : xs ≡ rest = cc in sym same ∙ at
