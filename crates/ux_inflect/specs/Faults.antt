-- The faults of places at which words end. Inner: the crate's own functions alone speak of it.
use Rattle.std.specs.Prelude.{◌≡◌, ℕ, List, [], Some, None, ◌⊎◌, slice_get}
use Rattle.ux_net.specs.declared.net_graph.NetGraph.{NetGraph}
use Rattle.ux_inflect.specs.declared.codes.CodeState.{CodeState}
use Rattle.ux_inflect.specs.declared.codes.CodeState.TheVariants.{Nothing, AtColon, InCode, Broken}
use Rattle.ux_inflect.specs.declared.config.Config.{Config}
use Rattle.ux_inflect.specs.declared.refusing.Fault.{Fault}
use Rattle.ux_inflect.specs.declared.refusing.Fault.TheVariants.{Stuck, Miscoded}
use Rattle.ux_inflect.specs.declared.stroke.Detail.{Detail}
use Rattle.ux_inflect.specs.Places.{Place, place_of}
use Rattle.ux_inflect.specs.Searches.{Walk}
use Rattle.ux_inflect.specs.Strokes.{Cursor}

-- an output read so far has no codes
abbrev pub IsUncodedAt : CodeState → Type 0
IsUncodedAt Nothing = ⊥
IsUncodedAt InCode = ⊥
IsUncodedAt AtColon = Unit {0}
IsUncodedAt Broken = Unit {0}

-- nothing is on the left of the cursor
abbrev pub IsFormlessAt : Place → Type 0
IsFormlessAt place = (cursor : Cursor) × (place.cursor ≡ Some cursor) × (cursor.left ≡ [])

abbrev pub IsFaultAt : Fault → Place → Type 0
IsFaultAt Stuck place = place.cursor ≡ None
IsFaultAt Miscoded place = IsUncodedAt place.codes ⊎ IsFormlessAt place

-- a word ends at the place, and has the fault
pub record HasFault (fault : Fault) (place : Place) : Type 0 where
  pub over : place.frames ≡ []
  pub is : IsFaultAt fault place

-- the configuration of the number has it
pub record IsFaultyAt (fault : Fault) (configs : List Config) (n : ℕ) : Type 0 where
  pub config : Config
  pub found : slice_get configs n ≡ Some config
  pub has : HasFault fault (place_of config)

-- a walk that reads the text ends at a place that has it
pub record IsFaulty (detail : Detail) (net : List NetGraph) (start : Place) (fault : Fault)
    (text : List ℕ) : Type 0 where
  pub place : Place
  pub walk : Walk detail net start text place
  pub has : HasFault fault place
