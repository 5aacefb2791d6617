-- A tree is read exactly.
use Rattle.std.proofs.Common.{◌≡◌, ◌≤◌, List, [], ◌∷◌, ◌++◌, Some, refl, ap, sym, ◌∙◌, arith}
use Rattle.std.specs.Prelude.{Result, Ok, Err}
use Rattle.mu_grammar.specs.declared.symbol.Word.TheVariants.{Plain}
use Rattle.mu_grammar.specs.declared.symbol.Mark.TheVariants.{Semicolon}
use Rattle.mu_grammar.specs.declared.ops.Op.{Op}
use Rattle.mu_grammar.specs.declared.fault.PartFault.{PartFault}
use Rattle.mu_grammar.specs.declared.fault.PartFault.TheVariants.{Mismatch, NoMemory}
use Rattle.mu_text.specs.declared.operand.Operand.{Operand}
use Rattle.mu_grammar.specs.Lexemes.{Lexeme, word}
use Rattle.mu_grammar.specs.Marks.{is_mark}
use Rattle.mu_grammar.specs.Ops.{binary}
use Rattle.mu_grammar.specs.Parts.{Out, found, stopped, Gives}
use Rattle.mu_grammar.specs.Writings.{Writing, level}
use Rattle.mu_grammar.specs.Machine.{top, want, have, done, run}
use Rattle.mu_text.specs.Reads.{ReadsTree, Goes, Ends, Stands}
use Rattle.mu_grammar.specs.Trees.{OneTree, read_tree}
use Rattle.mu_text.proofs.Complete.{MayFollow, Follows, Shape, shape, follows-more, reads}
use Rattle.mu_text.proofs.Viable.{Answers, some, start, start_good, run_good, run_next}
use Rattle.mu_text.proofs.Steps.{not_offered}
use Rattle.mu_text.proofs.Exact.{Exact, Answered}
use Rattle.mu_text.proofs.Choice.{Fails}

-- no tree goes on, nor a list between semicolons
abbrev pub NoSemicolon : List Lexeme → Type 0
NoSemicolon rest = Follows rest × Fails (is_mark Semicolon) rest

stays_at : (w : Writing) (rest : List Lexeme) → Ends 0 (level w) rest → run (have 400 0 w top) rest ≡ found w rest
stays_at w [] s = refl
stays_at w (T ∷ r) s = run_next (have 400 0 w top) T r (done w) (not_offered 400 0 w top T (done w) (binary T) s)

-- an operator takes what stands before it at some level
no_operator : (w : Writing) (T : Lexeme) → MayFollow 0 T → (p : Op) → binary T ≡ Some p → 0 ≤ p.level → p.left ≤ level w → ⊥
no_operator w T f p e h i =
    let s : Shape p = shape T p e in
    let z : p.left ≤ 0 = f.operator p e in
    let l : 1 ≤ p.level = s.least in
    let k : p.level ≤ p.left = s.low in
    absurd (omega arith)

stays : (w : Writing) (rest : List Lexeme) → Follows rest → run (have 400 0 w top) rest ≡ found w rest
stays w [] s = refl
stays w (T ∷ r) s = run_next (have 400 0 w top) T r (done w) (not_offered 400 0 w top T (done w) (binary T) (no_operator w T s))

full_tree : (ts : List Lexeme) (w : Writing) (rest : List Lexeme) → OneTree ts w → Follows rest → run (start 400) (ts ++ rest) ≡ found w rest
full_tree ts w rest g s =
    ap (λ l. run (start 400) (l ++ rest)) (sym g.1)
    ∙ (reads w 400 0 top rest g.0 (omega arith) (follows-more 0 (level w) rest (omega arith) s) ∙ stays w rest s)

answered : (ts : List Lexeme) (out : Out Writing) → Answers 400 (start 400) [] ts out → Answered (run (start 400)) OneTree ts out
answered ts (found w rest) a = (a.1, a.2, (a.0, a.3), a.4)
answered ts (stopped rest) a = (a.0, a.1, a.2, a.3)

pub Exact-tree : Exact read_tree OneTree Follows
unfolding read_tree
Exact-tree = record {
  full = full_tree;
  answers = λ ts. answered ts (run (start 400) ts) (run_good ts 400 (start 400) (start_good 400));
  sample = word Plain (97 ∷ []) ∷ [];
  sample_value = some;
  sample_ok = (refl, refl);
}

-- what a call of the reader gives, where nothing waits for the tree
pub gives_tree : (old new : List Lexeme) (result : Result Operand PartFault) → ReadsTree 400 0 old result new → Gives Stands (read_tree old) result new
unfolding read_tree
gives_tree old new (Ok o) h =
    let w : Goes (want 400 0) (have 400 0) old new o = h.0 in
    let l : level w.writing ≡ o.level = w.stands.level_is in
    let s : Ends 0 (level w.writing) new = rw l h.1 in
    record { value = w.writing; is = w.goes top ∙ stays_at w.writing new s; stands = w.stands }
gives_tree old new (Err Mismatch) h = h.0 top
gives_tree old new (Err NoMemory) h = tt

-- the same where none is read
pub stops_tree : {B : Type 0} (S : Writing → B → Type 0) (old new : List Lexeme) (e : PartFault) → ReadsTree 400 0 old (Err e) new → Gives S (read_tree old) (Err e) new
unfolding read_tree
stops_tree S old new Mismatch h = h.0 top
stops_tree S old new NoMemory h = tt
