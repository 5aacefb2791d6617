-- The longest front of a text that passes a test, byte by byte.
use Rattle.std.proofs.Common.{◌≡◌, ℕ, zero, suc, ◌+◌, ◌≤◌, Bool, true, cond, List, [], ◌∷◌, length, take, refl, ap, ◌∙◌, arith, inl, inr}
use Rattle.std.specs.List.{list_all, prefix_len}
use Rattle.std.proofs.lemmas.Bool.{cases_Bool, and_parts, and_from}

pub prefix_len-yes : (test : ℕ → Bool) (byte : ℕ) (bytes : List ℕ) → test byte ≡ true → prefix_len test (byte ∷ bytes) ≡ suc (prefix_len test bytes)
prefix_len-yes test byte bytes e = ap (λ b. cond b (1 + prefix_len test bytes) 0) e ∙ (let o : 1 + prefix_len test bytes ≡ suc (prefix_len test bytes) = omega arith in o)

pub list_all-take_prefix : (test : ℕ → Bool) (text : List ℕ) → list_all test (take (prefix_len test text) text) ≡ true
list_all-take_prefix test [] = refl
list_all-take_prefix test (byte ∷ bytes) =
    elim (cases_Bool (test byte)) [
      | inl e ↦ rw (prefix_len-yes test byte bytes e) (and_from _ _ e (list_all-take_prefix test bytes))
      | inr e ↦ let none : prefix_len test (byte ∷ bytes) ≡ 0 = ap (λ b. cond b (1 + prefix_len test bytes) 0) e in rw none refl
    ]

pub prefix_len-longest : (test : ℕ → Bool) (m : ℕ) (text : List ℕ) → m ≤ length text → list_all test (take m text) ≡ true → m ≤ prefix_len test text
prefix_len-longest test zero text within passes = omega arith
prefix_len-longest test (suc m) [] within passes = absurd (omega arith)
prefix_len-longest test (suc m) (byte ∷ bytes) within passes =
    let parts = and_parts (test byte) (list_all test (take m bytes)) passes in
    let shorter : m ≤ prefix_len test bytes = prefix_len-longest test m bytes (omega arith) parts.1 in
    rw (prefix_len-yes test byte bytes parts.0) (omega arith)

pub list_all-take_shorter : (test : ℕ → Bool) (m : ℕ) (text : List ℕ) → m ≤ prefix_len test text → list_all test (take m text) ≡ true
list_all-take_shorter test zero text h = refl
list_all-take_shorter test (suc m) [] h = refl
list_all-take_shorter test (suc m) (byte ∷ bytes) h =
    elim (cases_Bool (test byte)) [
      | inl e ↦ and_from _ _ e (list_all-take_shorter test m bytes (let longer = prefix_len-yes test byte bytes e in omega arith))
      | inr e ↦ let none : prefix_len test (byte ∷ bytes) ≡ 0 = ap (λ b. cond b (1 + prefix_len test bytes) 0) e in absurd (omega arith)
    ]
