-- Where every call is of a graph that is there, no graph is missing.
use Rattle.std.proofs.Common.{List}
use Rattle.std.specs.Prelude.{slice_get}
use Rattle.std.proofs.lemmas.Option.{get_or_from_slice_get, slice_get_within}
use Rattle.ux_boxes.specs.Boxes.{Drawn}
use Rattle.ux_boxes.specs.Refusing.{AreWhole, calls_in}
use Rattle.ux_compile.specs.Refusing.{Refuses}
use Rattle.ux_boxes.specs.declared.error.NetError.{NetError}
use Rattle.ux_boxes.specs.declared.error.NetError.TheVariants.{MissingGraph, BadMask, ContextClose, NegativeRecursion, EmptyLoop, LeftRecursion, NoMemory}
use Rattle.ux_alphabet.specs.Letters.{Letters}
use Rattle.ux_grammars.specs.Reading.{IsPlaced}

pub none_missing : (letters : Letters) (graphs : List Drawn) (error : NetError) →
    AreWhole graphs → Refuses letters graphs error → IsPlaced error
none_missing letters graphs (MissingGraph name) whole r =
    absurd (r.missing (whole r.n name (
      r.k,
      slice_get_within (calls_in (slice_get graphs r.n)) r.k name r.called,
      get_or_from_slice_get (calls_in (slice_get graphs r.n)) r.k name name r.called,
    )))
none_missing letters graphs (BadMask name node place) whole r = tt
none_missing letters graphs (ContextClose name node) whole r = tt
none_missing letters graphs (NegativeRecursion name) whole r = tt
none_missing letters graphs (EmptyLoop name node) whole r = tt
none_missing letters graphs (LeftRecursion name node) whole r = tt
none_missing letters graphs NoMemory whole r = tt
