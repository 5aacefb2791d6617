-- Edits that are done or fail.
use Rattle.std.proofs.Common.{◌≡◌, sym, subst}
use Rattle.std.specs.Prelude.{Result, Ok, Err, OnOk, OnErr}

-- what holds of the old value and of the one that is wanted holds after an edit that fails or not
pub settled : {X T E : Type 0} (P : X → Type 0) (old wanted new : X) (result : Result T E) → OnOk result (new ≡ wanted) → OnErr result (new ≡ old) → P old → P wanted → P new
settled P old wanted new (Ok x) ok err before after = subst P (sym ok) after
settled P old wanted new (Err x) ok err before after = subst P (sym err) before
