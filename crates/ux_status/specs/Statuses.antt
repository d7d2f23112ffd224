-- The exit status of each ending, and the line that tells it. Public: the crate's public contracts
-- speak of it.
use Rattle.std.specs.Prelude.{ℕ, List, [], ◌∷◌, codes}
use Rattle.ux_reasons.specs.Reasons.{joined, reason_of, refusal}
use Rattle.ux_status.specs.declared.status.Status.{Status}
use Rattle.ux_status.specs.declared.status.Status.TheVariants.{Done, Usage, Absent, Refused, ReadFault, WriteFault, TooLarge, NoMemory}

-- the exit status
abbrev pub number_of : Status → ℕ
number_of Done = 0
number_of Usage = 1
number_of (Absent name) = 2
number_of (Refused file reason) = 3
number_of (ReadFault name) = 4
number_of WriteFault = 5
number_of (TooLarge file) = 6
number_of NoMemory = 7

-- the line of an ending, which a run that is done has not
abbrev pub line_of : Status → List ℕ
line_of Done = []
line_of Usage = joined (codes "usage: unitex COMMAND ARGUMENTS\n" ∷ [])
line_of (Absent name) = joined (codes "absent: " ∷ name ∷ codes "\n" ∷ [])
line_of (Refused file reason) = refusal file (reason_of reason)
line_of (ReadFault name) = joined (codes "read fault: " ∷ name ∷ codes "\n" ∷ [])
line_of WriteFault = joined (codes "write fault\n" ∷ [])
line_of (TooLarge file) = joined (codes "too large: " ∷ file ∷ codes "\n" ∷ [])
line_of NoMemory = joined (codes "no memory\n" ∷ [])
