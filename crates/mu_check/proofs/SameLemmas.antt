-- The test of equality is exact.
use Rattle.std.proofs.Common.{◌≡◌, Bool, true, false, ◌&&◌, ap, refl, sym, ◌∙◌, IsTrue, ◌↔◌, rules, tests}
use base.Stored.{Gv, gnil, gnum, gcons, Coded}
use Rattle.mu_check.specs.Same.{same_code, equal, equal_facts}
use Rattle.mu_check.specs.contracts.fact.Fact as fact
use Rattle.mu_check.specs.declared.fact.Fact.{Fact}

code_self : (a : Gv) → same_code a a ≡ true
code_self gnil = refl
code_self (gnum a) = search (rules, tests)
code_self (gcons a b) = cc (code_self a, code_self b)

both_left : (a b : Bool) → (a && b) ≡ true → a ≡ true
both_left true b e = refl
both_left false b e = e

both_right : (a b : Bool) → (a && b) ≡ true → b ≡ true
both_right true b e = e
both_right false b e = absurd (cc)

code_same : (a b : Gv) → same_code a b ≡ true → a ≡ b
code_same gnil gnil e = refl
code_same gnil (gnum b) e = absurd (cc)
code_same gnil (gcons b c) e = absurd (cc)
code_same (gnum a) gnil e = absurd (cc)
code_same (gnum a) (gnum b) e = ap gnum (search (rules, tests))
code_same (gnum a) (gcons b c) e = absurd (cc)
code_same (gcons a b) gnil e = absurd (cc)
code_same (gcons a b) (gnum c) e = absurd (cc)
code_same (gcons a b) (gcons c d) e =
    let l : a ≡ c = code_same a c (both_left (same_code a c) (same_code b d) e) in
    let r : b ≡ d = code_same b d (both_right (same_code a c) (same_code b d) e) in
    cc (l, r)

pub equal_same : {A : Type 0} (c : Coded A) (x y : A) → equal c x y ≡ true → x ≡ y
unfolding equal
equal_same c x y e = c.inj x y (code_same (c.code x) (c.code y) e)

pub equal_self : {A : Type 0} (c : Coded A) (x y : A) → x ≡ y → equal c x y ≡ true
unfolding equal
equal_self c x y e = ap (λ z. same_code (c.code x) (c.code z)) (sym e) ∙ code_self (c.code x)

told : (r e : Bool) (P : Type 0) → (r ≡ true → P) → (P → r ≡ true) → (e ≡ true → P) → (P → e ≡ true) → r ≡ e
told true true P a b c d = refl
told false false P a b c d = refl
told true false P a b c d = sym (d (a refl))
told false true P a b c d = b (c refl)

-- a test that tells whether two facts are equal is the test of equality
pub equal_from : (r : Bool) (a b : Fact) → (IsTrue r ↔ (a ≡ b)) → r ≡ equal_facts a b
equal_from r a b h = told r (equal_facts a b) (a ≡ b) h.0 h.1 (equal_same fact.the_row.coded a b) (equal_self fact.the_row.coded a b)

-- the same with the two sides exchanged
pub equal_back : (r : Bool) (a b : Fact) → (IsTrue r ↔ (b ≡ a)) → r ≡ equal_facts a b
equal_back r a b h = equal_from r a b ((λ t. sym (h.0 t)), (λ e. h.1 (sym e)))
