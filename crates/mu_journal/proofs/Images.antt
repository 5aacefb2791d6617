-- What a crash leaves of a write or a cut.
use Rattle.std.proofs.Common.{◌≡◌, ⊎_elim, ◌+◌, ◌≤◌, ◌<◌, ℕ, List, [], ◌∷◌, ◌++◌, length, get_or, take, drop, sym, ◌∙◌, ap, arith, take-append-drop}
use Rattle.std.proofs.lemmas.List.{length-take, length-drop, length-take-le, get_or-take, get_or-drop, ext_get_or, drop_more}
use Rattle.mu_outside.specs.Disks.{IsImage, at_rest, wrote, shortened}

-- a write past the end leaves what was there in each image
pub torn_past : (content bytes image : List ℕ) → IsImage (wrote (length content) bytes (at_rest content)) image → image ≡ content ++ drop (length content) image
torn_past content bytes image is =
    let same : take (length content) image ≡ content =
    ext_get_or 0 (take (length content) image) content (length-take-le (length content) image is.no_shorter) (λ k lt.
    let near : k < length content = omega (arith, lt, length-take (length content) image) in
    get_or-take (length content) image k 0 near ∙ is.outside k (omega (arith, near, is.no_shorter)) (λ touched. ⊎_elim (λ (t : (length content ≤ k) × (k < length content + length bytes)). absurd (omega (arith, t.0, near))) (λ none. none) touched)) in
    sym (take-append-drop (length content) image) ∙ ap (λ (l : List ℕ). l ++ drop (length content) image) same

-- a write of one byte within leaves all others
pub torn_byte : (content : List ℕ) (at byte : ℕ) (image : List ℕ) → at < length content → IsImage (wrote at (byte ∷ []) (at_rest content)) image → image ≡ take at content ++ get_or image at 0 ∷ drop (at + 1) content
torn_byte content at byte image lt is =
    let long : length image ≡ length content = omega (arith, is.no_shorter, is.no_longer, lt) in
    let front : take at image ≡ take at content =
    ext_get_or 0 (take at image) (take at content) (omega (arith, length-take at image, length-take at content, long)) (λ k less.
    let near : k < at = omega (arith, less, length-take at image) in
    get_or-take at image k 0 near ∙ is.outside k (omega (arith, near, lt, long)) (λ touched. ⊎_elim (λ (t : (at ≤ k) × (k < at + 1)). absurd (omega (arith, t.0, near))) (λ none. none) touched) ∙ sym (get_or-take at content k 0 near)) in
    let back : drop (at + 1) image ≡ drop (at + 1) content =
    ext_get_or 0 (drop (at + 1) image) (drop (at + 1) content) (omega (arith, length-drop (at + 1) image, length-drop (at + 1) content, long)) (λ k less.
    let within : at + 1 + k < length image = omega (arith, less, length-drop (at + 1) image) in
    get_or-drop (at + 1) image k 0 ∙ is.outside (at + 1 + k) within (λ touched. ⊎_elim (λ (t : (at ≤ at + 1 + k) × (at + 1 + k < at + 1)). absurd (omega (arith, t.1))) (λ none. none) touched) ∙ sym (get_or-drop (at + 1) content k 0)) in
    sym (take-append-drop at image) ∙ ap (λ (l : List ℕ). l ++ drop at image) front
    ∙ ap (λ (l : List ℕ). take at content ++ l) (drop_more image at 0 (omega (arith, lt, long)) ∙ ap (λ (l : List ℕ). get_or image at 0 ∷ l) back)

-- a cut leaves what stands before it in each image
pub torn_cut : (content : List ℕ) (at : ℕ) (image : List ℕ) → at ≤ length content → IsImage (shortened at (at_rest content)) image → image ≡ take at content ++ drop at image
torn_cut content at image le is =
    let long : at ≤ length image = omega (arith, is.no_shorter, le) in
    let same : take at image ≡ take at content =
    ext_get_or 0 (take at image) (take at content) (omega (arith, length-take at image, length-take at content, long, le)) (λ k lt.
    let near : k < at = omega (arith, lt, length-take at image) in
    get_or-take at image k 0 near ∙ is.outside k (omega (arith, near, long)) (λ touched. ⊎_elim (λ (t : (at ≤ k) × (k < length content)). absurd (omega (arith, t.0, near))) (λ none. none) touched) ∙ sym (get_or-take at content k 0 near)) in
    sym (take-append-drop at image) ∙ ap (λ (l : List ℕ). l ++ drop at image) same

-- a disk at rest leaves its content and nothing else
pub only_rest : (content image : List ℕ) → IsImage (at_rest content) image → image ≡ content
only_rest content image is = ext_get_or 0 image content (omega (arith, is.no_shorter, is.no_longer)) (λ k lt. is.outside k lt (λ none. none))
