-- Values of a table that are changed in their place.
use Rattle.std.proofs.Common.{◌≡◌, sym, ap, ◌∙◌, ℕ, List, Some, None}
use Rattle.std.specs.Prelude.{Option, OnSome}
use Rattle.std.specs.FinMap as finite
use Rattle.mu_tree.specs.Maps.{MapOf}
use Rattle.mu_tree.proofs.MapLemmas.{insert_got}

-- a value that is left as it was leaves the table as it was
pub left_alone : {V : Type 0} (table after : MapOf V) (name : List ℕ) (found value : V) → Some found ≡ finite.get table name → after ≡ finite.insert table name value → value ≡ found → after ≡ table
left_alone table after name found value there is same = is ∙ ap (finite.insert table name) same ∙ insert_got table name found (sym there)

-- what holds where something is lent holds where it is
pub where_lent : {X P : Type 0} (lent : Option X) (x : X) → lent ≡ Some x → OnSome lent P → P
where_lent None x is holds = absurd (cc)
where_lent (Some y) x is holds = holds
