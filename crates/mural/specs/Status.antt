-- The exit status of the program.
use Rattle.std.specs.Prelude.{ℕ}
use Rattle.mural.specs.declared.status.Status.{Status}
use Rattle.mural.specs.declared.status.Status.TheVariants.{AllAccepted, SomeRefused, Usage, ReadFault, TellFault, NoMemory, InputTooLong}

-- the exit status of the program
abbrev pub code_of : Status → ℕ
code_of AllAccepted = 0
code_of SomeRefused = 1
code_of Usage = 2
code_of ReadFault = 3
code_of TellFault = 4
code_of NoMemory = 6
code_of InputTooLong = 9
