-- The moments that lie in the calls of a desk, at each of which a crash may come.
use Rattle.std.specs.Prelude.{◌≡◌, ◌⊎◌, ◌≤◌, ℕ, zero, suc, List, [], ◌∷◌, ◌++◌, length, take}
use Rattle.mu_outside.specs.Disks.{IsImage}
use Rattle.mu_outside.specs.Scenes.{Scene, piece_of, disk_amid, step}
use Rattle.mu_outside.specs.declared.calls.Call.{Call}

-- between two calls a crash leaves this image, with these bytes printed
abbrev pub Here : Scene → List ℕ → List ℕ → Type 0
Here scene image told = IsImage scene.disk image × (told ≡ scene.told)

-- inside a call a crash leaves this image, with these bytes printed: the first ones of what the call prints
abbrev pub During : Scene → Call → List ℕ → List ℕ → Type 0
During scene call image told =
    IsImage (disk_amid scene.disk call) image × ((count : ℕ) × (count ≤ length (piece_of call)) × (told ≡ scene.told ++ take count (piece_of call)))

-- at some moment inside these calls, or after them
abbrev pub AnyTime : Scene → List Call → List ℕ → List ℕ → Type 0
AnyTime scene [] image told = Here scene image told
AnyTime scene (call ∷ calls) image told = During scene call image told ⊎ AnyTime (step scene call) calls image told

-- at some moment after so many of these calls
abbrev pub Since : Scene → List Call → ℕ → List ℕ → List ℕ → Type 0
Since scene calls zero image told = AnyTime scene calls image told
Since scene [] (suc time) image told = ⊥
Since scene (call ∷ calls) (suc time) image told = Since (step scene call) calls time image told
