-- Comparing a pattern with a tree in step.
use Rattle.std.specs.Prelude.{◌≡◌, IsTrue, List, map}
use Rattle.mu_decl.specs.declared.bare.Bare.{Bare}
use Rattle.mu_decl.specs.declared.instantiating.Abstraction.{Abstraction}
use Rattle.mu_decl.specs.declared.pairing.Reading.{Reading}
use Rattle.mu_decl.specs.declared.pairing.Reading.TheVariants.{Instantiated, Opened}
use Rattle.mu_decl.specs.declared.pairing.Pair.{Pair}
use Rattle.mu_decl.specs.declared.pairing.Rest.{Rest}
use Rattle.mu_decl.specs.declared.pairing.Rest.TheVariants.{Known, One, Lowered, All, Both}
use Rattle.mu_decl.specs.Opening.{open_under}
use Rattle.mu_decl.specs.Instantiating.{instantiated}

-- a part of a pattern as it is read: its metavariables replaced, or opened, under some binders, by arguments whose metavariables are replaced
abbrev pub read : List Abstraction → Reading → Bare → Bare
read given Instantiated t = instantiated given t
read given (Opened arguments depth) t = open_under (map (instantiated given) arguments.now) depth t

-- the tree of a pair is its pattern as it is read
abbrev pub Agree : List Abstraction → Pair → Type 0
Agree given pair = read given pair.reading pair.pattern.now ≡ pair.tree.now

-- what is left to compare is as it should be
abbrev pub Fits : List Abstraction → Rest → Type 0
Fits given (Known answer) = IsTrue answer
Fits given (One pair) = Agree given pair
Fits given (Lowered argument outer) = instantiated given argument.now ≡ outer
Fits given (All reading patterns trees) = map (read given reading) patterns.now ≡ trees.now
Fits given (Both domain body) = Agree given domain × Agree given body
