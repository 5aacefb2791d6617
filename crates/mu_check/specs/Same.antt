-- Equality of values as a test.
use Rattle.std.specs.Prelude.{Bool, true, false, ◌&&◌, nat_eq}
use base.Stored.{Gv, gnil, gnum, gcons, Coded}
use Rattle.mu_check.specs.contracts.fact.Fact as fact
use Rattle.mu_check.specs.declared.fact.Fact.{Fact}

-- whether two codes are equal
abbrev pub same_code : Gv → Gv → Bool
same_code gnil gnil = true
same_code (gnum a) (gnum b) = nat_eq a b
same_code (gcons a b) (gcons c d) = same_code a c && same_code b d
same_code a b = false

-- whether two values are equal, by their codes, of which each value has one of its own
unfoldable pub equal : {A : Type 0} → Coded A → A → A → Bool
equal c x y = same_code (c.code x) (c.code y)

-- whether two facts are equal
abbrev pub equal_facts : Fact → Fact → Bool
equal_facts = equal fact.the_row.coded
