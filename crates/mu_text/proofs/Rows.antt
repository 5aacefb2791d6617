-- Rows of parts are read exactly, where no part could take what begins the next.
use Rattle.std.proofs.Common.{◌≡◌, List, [], ◌∷◌, ◌++◌, refl, ap, sym, ◌∙◌, subst, append-nil}
use Rattle.mu_grammar.specs.Lexemes.{Lexeme}
use Rattle.mu_grammar.specs.Parts.{Out, found, ◌>>=◌, Read, Nothing, given_back, End, Then, chain}
use Rattle.mu_grammar.specs.Rows.{Values, SpellsRow, read_row, StandsRow, Makes}
use Rattle.mu_text.proofs.Exact.{Exact, Exact-same, Exact-chain, Exact-pure}

module _ {Part : Type 0} (Value : Part → Type 0) (read : (part : Part) → List Lexeme → Out (Value part)) (Spells : (part : Part) → List Lexeme → Value part → Type 0) (Stops : Part → List Lexeme → Type 0) where
  -- what follows each part lets it stop there
  abbrev pub Linked : List Part → Type 0
  Linked [] = Unit {0}
  Linked (part ∷ parts) = ((ts : List Lexeme) (v : Values Value parts) → SpellsRow Value Spells parts ts v → Stops part ts) × Linked parts

  abbrev Joined : (part : Part) (parts : List Part) → List Lexeme → Values Value (part ∷ parts) → Type 0
  Joined part parts = Then (Spells part) (λ x. Then (SpellsRow Value Spells parts) (λ xs. Nothing (x, xs)))

  to_row : (part : Part) (parts : List Part) (ts : List Lexeme) (v : Values Value (part ∷ parts)) → Joined part parts ts v → SpellsRow Value Spells (part ∷ parts) ts v
  to_row part parts ts v g =
      let rest = g.5 in
      let same : g.2 ≡ rest.1 = rest.3 ∙ (ap (λ l. rest.1 ++ l) rest.5.0 ∙ append-nil rest.1) in
      let P : Values Value (part ∷ parts) → Type 0 = λ u. SpellsRow Value Spells (part ∷ parts) ts u in
      subst P (sym rest.5.1) (g.1, g.2, g.3, g.4, subst (λ (l : List Lexeme). SpellsRow Value Spells parts l rest.0) (sym same) rest.4)

  from_row : (part : Part) (parts : List Part) (ts : List Lexeme) (v : Values Value (part ∷ parts)) → SpellsRow Value Spells (part ∷ parts) ts v → Joined part parts ts v
  from_row part parts ts v g = (v.0, g.0, g.1, g.2, g.3, (v.1, g.1, [], sym (append-nil g.1), g.4, (refl, refl)))

  both_empty : (a b : List Lexeme) → a ≡ [] → b ≡ [] → a ++ b ≡ []
  both_empty a b e i = rw (e, i) refl

  link_part : (part : Part) (parts : List Part) → ((ts : List Lexeme) (v : Values Value parts) → SpellsRow Value Spells parts ts v → Stops part ts)
      → (x : Value part) (b : List Lexeme) (v : Values Value (part ∷ parts)) (rest : List Lexeme) → Then (SpellsRow Value Spells parts) (λ xs. Nothing (x, xs)) b v → rest ≡ [] → Stops part (b ++ rest)
  link_part part parts linked x b v rest g e =
      let same : b ++ rest ≡ g.1 = ap (λ r. b ++ r) e ∙ (append-nil b ∙ (g.3 ∙ (ap (λ r. g.1 ++ r) g.5.0 ∙ append-nil g.1))) in
      subst (λ (l : List Lexeme). Stops part l) (sym same) (linked g.1 g.0 g.4)

  module _ (exact : (part : Part) → Exact (read part) (Spells part) (Stops part)) where
    pub Exact-row : (parts : List Part) → Linked parts → Exact (read_row Value read parts) (SpellsRow Value Spells parts) End
    unfolding read_row
    Exact-row [] linked =
        Exact-same (read_row Value read []) (Nothing tt) (SpellsRow Value Spells []) End (λ ts x g. g.0) (λ ts x g. (g, refl)) (Exact-pure tt End)
    Exact-row (part ∷ parts) linked =
        Exact-same (read_row Value read (part ∷ parts)) (Joined part parts) (SpellsRow Value Spells (part ∷ parts)) End (to_row part parts) (from_row part parts)
        (Exact-chain (read part) (λ x. chain (read_row Value read parts) (λ xs. given_back (x, xs))) (Spells part) (λ x. Then (SpellsRow Value Spells parts) (λ xs. Nothing (x, xs))) (Stops part) End
        (exact part)
        (λ x. Exact-chain (read_row Value read parts) (λ xs. given_back (x, xs)) (SpellsRow Value Spells parts) (λ xs. Nothing (x, xs)) End End (Exact-row parts linked.1) (λ xs. Exact-pure (x, xs) End)
        (λ xs b v rest g e. both_empty b rest g.0 e))
        (link_part part parts linked.0))

module _ {Part : Type 0} (Value Kept : Part → Type 0) (read : (part : Part) → List Lexeme → Out (Value part)) (Stands : (part : Part) → Value part → Kept part → Type 0) where
  -- the end of a row
  pub row_end : (ts : List Lexeme) → Read (StandsRow Value Kept Stands []) (read_row Value read [] ts) tt ts
  unfolding read_row
  row_end ts = record { value = tt; is = refl; stands = tt }

  -- one part, and then the rest of the row
  pub row_next : (part : Part) (parts : List Part) (ts mid rest : List Lexeme) (y : Kept part) (k : Values Kept parts) → Read (Stands part) (read part ts) y mid
      → Read (StandsRow Value Kept Stands parts) (read_row Value read parts mid) k rest → Read (StandsRow Value Kept Stands (part ∷ parts)) (read_row Value read (part ∷ parts) ts) (y, k) rest
  unfolding read_row
  row_next part parts ts mid rest y k first next = record {
    value = (first.value, next.value);
    is =
        ap (λ out. out >>= (λ x l. read_row Value read parts l >>= (λ xs left. found (x, xs) left))) first.is
        ∙ ap (λ out. out >>= (λ xs left. found (first.value, xs) left)) next.is;
    stands = (first.stands, next.stands);
  }

  -- what is made of a whole row
  pub row_made : {X : Type 0} (parts : List Part) (make : Values Kept parts → X) (ts rest : List Lexeme) (k : Values Kept parts) (x : X) → Read (StandsRow Value Kept Stands parts) (read_row Value read parts ts) k rest → x ≡ make k
      → Read (Makes Value Kept Stands parts make) (read_row Value read parts ts) x rest
  row_made parts make ts rest k x row e = record { value = row.value; is = row.is; stands = (k, row.stands, e) }
