-- a `BTreeMap` by name, seen as a finite map
use Rattle.std.proofs.Common.{arith, ◌≡◌, refl, sym, ◌∙◌, ap, cond, List, [], ◌∷◌, ℕ, Some, None, length}
use Rattle.std.specs.Prelude.{map}
use Rattle.std.specs.Ordering.{nat_cmp, eq_by_cmp}
use Rattle.std.specs.declared.cmp.Ordering.TheVariants.{Less}
use Rattle.std.specs.Cmp.{eq_by_cmp_equiv}
use Rattle.std.specs.Cmp.Lexicographic.{slice_cmp, nat_list_cmp_total}
use Rattle.std.specs.Map.{lookup, keys_of}
use Rattle.std.specs.BTreeMap.{BTreeMap, is_at, UpdatesBy, keys}
use Rattle.std.specs.List.{AllByRecursion}
use Rattle.std.specs.List.Sorted.{IsStrictlySortedBy}
use Rattle.std.proofs.lemmas.Map.Lookups.{exact_bytes}
use Rattle.std.specs.FinMap.Entries.{by_order, put}
use Rattle.std.specs.FinMap.{len, entries, entries-insert, len-entries, len-empty, empty, get, insert, remove, find, from_entries, same_map, get-from_entries, get-insert, get-remove}

find_name : {V : Type 0} (es : List (List ℕ × V)) (q : List ℕ) → find (slice_cmp nat_cmp) q es ≡ lookup (is_at (slice_cmp nat_cmp q)) es
find_name [] q = refl
find_name (e ∷ es) q = ap (cond (is_at (slice_cmp nat_cmp q) e.0) (Some e.1)) (find_name es q)

-- what the map that the entries make has at a name
pub get_name : {V : Type 0} (es : List (List ℕ × V)) (q : List ℕ) → get (from_entries {R = slice_cmp nat_cmp} es) q ≡ lookup (is_at (slice_cmp nat_cmp q)) es
get_name es q = get-from_entries nat_list_cmp_total es q ∙ find_name es q

-- entries that differ at one name make maps that differ there
pub one_put : {V : Type 0} (m n : BTreeMap (List ℕ) V) (s : List ℕ) (v : V) → UpdatesBy (slice_cmp nat_cmp) (slice_cmp nat_cmp s) m n (Some v)
    → from_entries {R = slice_cmp nat_cmp} n.entries ≡ insert (from_entries m.entries) s v
one_put m n s v h = same_map nat_list_cmp_total exact_bytes _ _ (λ q.
    get_name n.entries q ∙ h.0 q ∙ ap (λ b. cond b (Some v) (lookup (is_at (slice_cmp nat_cmp q)) m.entries)) ((eq_by_cmp_equiv nat_list_cmp_total).symm s q)
    ∙ sym (get-insert nat_list_cmp_total (from_entries m.entries) s v q ∙ ap (cond (eq_by_cmp (slice_cmp nat_cmp) q s) (Some v)) (get_name m.entries q)))

pub one_taken : {V : Type 0} (m n : BTreeMap (List ℕ) V) (s : List ℕ) → UpdatesBy (slice_cmp nat_cmp) (slice_cmp nat_cmp s) m n None
    → from_entries {R = slice_cmp nat_cmp} n.entries ≡ remove (from_entries m.entries) s
one_taken m n s h = same_map nat_list_cmp_total exact_bytes _ _ (λ q.
    get_name n.entries q ∙ h.0 q ∙ ap (λ b. cond b None (lookup (is_at (slice_cmp nat_cmp q)) m.entries)) ((eq_by_cmp_equiv nat_list_cmp_total).symm s q)
    ∙ sym (get-remove nat_list_cmp_total (from_entries m.entries) s q ∙ ap (cond (eq_by_cmp (slice_cmp nat_cmp) q s) None) (get_name m.entries q)))

put_first : {V : Type 0} (k : List ℕ) (v : V) (es : List (List ℕ × V)) → AllByRecursion (λ y. slice_cmp nat_cmp k y ≡ Less) (keys_of es) → put (slice_cmp nat_cmp) k v es ≡ (k, v) ∷ es
put_first k v [] h = refl
put_first k v (e ∷ es) h = ap (λ o. by_order o ((k, v) ∷ e ∷ es) ((e.0, v) ∷ es) (e ∷ put (slice_cmp nat_cmp) k v es)) h.0

no_length : {A : Type 0} (es : List A) → length es ≡ 0 → es ≡ []
no_length [] e = refl
no_length (x ∷ es) e = absurd (omega arith)

-- the empty map has no entries
pub no_entries : {V : Type 0} → entries (empty {X = V} {R = slice_cmp nat_cmp}) ≡ []
no_entries {V} = no_length _ (sym (len-entries empty) ∙ len-empty (slice_cmp nat_cmp) V)

-- entries in order are those of the map that they make
pub entries_in_order : {V : Type 0} (es : List (List ℕ × V)) → IsStrictlySortedBy (slice_cmp nat_cmp) (keys_of es) → entries (from_entries {R = slice_cmp nat_cmp} es) ≡ es
unfolding IsStrictlySortedBy
entries_in_order [] h = no_entries
entries_in_order (e ∷ es) h =
    entries-insert nat_list_cmp_total (from_entries es) e.0 e.1
    ∙ ap (put (slice_cmp nat_cmp) e.0 e.1) (entries_in_order es h.1)
    ∙ put_first e.0 e.1 es h.0

-- the keys in the order of the map
pub names_in_order : {V : Type 0} (m : BTreeMap (List ℕ) V) → IsStrictlySortedBy (slice_cmp nat_cmp) (keys m) → map (λ e. e.0) (entries (from_entries {R = slice_cmp nat_cmp} m.entries)) ≡ keys m
names_in_order m h = ap (map (λ e. e.0)) (entries_in_order m.entries h)

-- a map has as many names as the entries that it is made of
pub len_in_order : {V : Type 0} (es : List (List ℕ × V)) → IsStrictlySortedBy (slice_cmp nat_cmp) (keys_of es) → length es ≡ len (from_entries {R = slice_cmp nat_cmp} es)
len_in_order es h = sym (len-entries (from_entries es) ∙ ap length (entries_in_order es h))
