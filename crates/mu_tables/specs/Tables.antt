-- The words of the language.
use Rattle.std.specs.Prelude.{ℕ, List, [], ◌∷◌, codes}
use Rattle.mu_tables.specs.declared.ops.Side.{Side}
use Rattle.mu_tables.specs.declared.ops.Side.TheVariants.{Neither, Left, Right, Prefix}
use Rattle.mu_tables.specs.Operators.{Written}

-- the words that each form begins with, and its number
abbrev pub the_forms : List (List ℕ × ℕ)
the_forms =
    (codes "alter box", 15)
    ∷ (codes "alter const", 5)
    ∷ (codes "alter line", 14)
    ∷ (codes "alter rule", 10)
    ∷ (codes "axiom", 8)
    ∷ (codes "box", 13)
    ∷ (codes "cite", 17)
    ∷ (codes "const", 4)
    ∷ (codes "define", 6)
    ∷ (codes "drop const", 20)
    ∷ (codes "drop item", 23)
    ∷ (codes "drop proof", 22)
    ∷ (codes "drop rule", 21)
    ∷ (codes "drop unit", 19)
    ∷ (codes "line", 12)
    ∷ (codes "move", 16)
    ∷ (codes "parent", 2)
    ∷ (codes "proof", 11)
    ∷ (codes "rule", 9)
    ∷ (codes "show proof", 27)
    ∷ (codes "show rule", 26)
    ∷ (codes "show unit", 25)
    ∷ (codes "status", 24)
    ∷ (codes "theory", 1)
    ∷ (codes "undefine", 7)
    ∷ (codes "unjustify", 18)
    ∷ (codes "unparent", 3)
    ∷ []

-- the word of each refusal, and its code
abbrev pub the_refusals : List (List ℕ × ℕ)
the_refusals =
    (codes "builtin", 6)
    ∷ (codes "circle", 8)
    ∷ (codes "journal-full", 12)
    ∷ (codes "limit", 3)
    ∷ (codes "line-too-long", 1)
    ∷ (codes "no-match", 9)
    ∷ (codes "not-empty", 7)
    ∷ (codes "syntax", 2)
    ∷ (codes "taken", 5)
    ∷ (codes "too-many", 11)
    ∷ (codes "undetermined", 10)
    ∷ (codes "unknown", 4)
    ∷ []

-- a row of the table of operators
abbrev row : List ℕ → List ℕ → ℕ → Side → Written
row text constant level side = record { text = text; constant = constant; level = level; side = side }

-- the operators
abbrev pub the_operators : List Written
the_operators =
    row (codes ":") (codes "typing") 6 Neither
    ∷ row (codes "<=>") (codes "iff") 1 Neither
    ∷ row (codes "=") (codes "eq") 6 Neither
    ∷ row (codes "=>") (codes "imp") 2 Right
    ∷ row (codes "and") (codes "and") 4 Left
    ∷ row (codes "not") (codes "not") 5 Prefix
    ∷ row (codes "or") (codes "or") 3 Left
    ∷ []
