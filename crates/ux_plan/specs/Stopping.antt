-- What stops a plan by the files alone: no count of faults tells it, and memory never runs out. This
-- file carries the crate's public meaning.
use Rattle.std.specs.Prelude.{◌≡◌, ◌⊎◌, ℕ, ◌<◌, List, length, Some, None}
use Rattle.ux_base.specs.Outside.{Files, file_named, MAX}
use Rattle.ux_plan.specs.declared.stop.Stop.{Stop}
use Rattle.ux_plan.specs.declared.stop.Stop.TheVariants.{Absent, ReadFault, TooLarge, Refused, NoMemory}
use Rattle.ux_plan.specs.Plans.{Format, HasFile, Plan, Reads, gives, reads, tests}

-- the file is longer than any may be, or larger than its reader takes
abbrev pub IsOverlong : {R V : Type 0} → Format R V → List ℕ → Files → Type 0
IsOverlong format name files =
    ((file : List ℕ) × (file_named name files ≡ Some file) × (MAX < length file))
    ⊎ ((file : List ℕ) × HasFile (Some files) name file × format.IsTooLarge file)

-- why the file of this name isn't accepted: none has the name, it is too long, or it is refused
abbrev pub StoppedFile : {R V : Type 0} → Format R V → List ℕ → Files → Stop R → Type 0
StoppedFile format name files (Absent named) = (named ≡ name) × (file_named name files ≡ None)
StoppedFile format name files (ReadFault named) = ⊥
StoppedFile format name files (TooLarge named) = (named ≡ name) × IsOverlong format name files
StoppedFile format name files (Refused named reason) =
    (named ≡ name) × ((file : List ℕ) × HasFile (Some files) name file × format.Refuses file reason)
StoppedFile format name files NoMemory = ⊥

-- the first file in the order of the plan that isn't accepted, or the first test that fails
unfoldable pub Stopped : {R A : Type 0} → Plan R A → Files → Stop R → Type 0
Stopped (gives a) files stop = ⊥
Stopped (reads {V} name format rest) files stop =
    StoppedFile format name files stop
    ⊎ ((v : V) × Reads format name (Some files) v × Stopped (rest v) files stop)
Stopped (tests Holds Stops rest) files stop = Stops stop ⊎ (Holds × Stopped rest files stop)
