-- What calls lead to, when one more is made.
use Rattle.std.proofs.Common.{◌≡◌, ◌∙◌, ◌+◌, ◌<◌, ℕ, List, [], ◌∷◌, ◌++◌, length, get_or, take, refl, sym, ap, append_assoc}
use Rattle.std.proofs.lemmas.List.{append-nil, take_more}
use Rattle.mu_outside.specs.Scenes.{Scene, start, step, played, piece_of, printed_by}
use Rattle.mu_outside.specs.declared.calls.Call.{Call}

-- one more call is made after the others
pub played_push : (scene : Scene) (calls : List Call) (call : Call) → played scene (calls ++ call ∷ []) ≡ step (played scene calls) call
played_push scene [] call = refl
played_push scene (first ∷ calls) call = played_push (step scene first) calls call

told_played : (scene : Scene) (calls : List Call) → (played scene calls).told ≡ scene.told ++ printed_by calls
told_played scene [] = sym (append-nil scene.told)
told_played scene (call ∷ calls) = told_played (step scene call) calls ∙ append_assoc scene.told (piece_of call) (printed_by calls)

-- the printed bytes are those of all calls
pub told_by_calls : (first : List ℕ) (calls : List Call) → (played (start first) calls).told ≡ printed_by calls
told_by_calls first calls = told_played (start first) calls

-- the first calls, and one more of them
pub played_more : (scene : Scene) (calls : List Call) (index : ℕ) (call : Call) → index < length calls → call ≡ get_or calls index call → played scene (take (index + 1) calls) ≡ step (played scene (take index calls)) call
played_more scene calls index call lt is =
    ap (played scene) (take_more calls index call lt ∙ ap (λ (one : Call). take index calls ++ one ∷ []) (sym is)) ∙ played_push scene (take index calls) call
