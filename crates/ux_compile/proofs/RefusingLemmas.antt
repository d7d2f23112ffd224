-- What is compiled isn't refused.
use Rattle.std.proofs.Common.{◌≡◌, List, refl}
use Rattle.std.specs.Prelude.{slice_get}
use Rattle.std.proofs.lemmas.Option.{slice_get_within, get_or_from_slice_get}
use Rattle.ux_alphabet.specs.Letters.{Letters}
use Rattle.ux_boxes.specs.declared.error.NetError.{NetError}
use Rattle.ux_boxes.specs.declared.error.NetError.TheVariants.{MissingGraph, BadMask, ContextClose, NegativeRecursion, EmptyLoop, LeftRecursion, NoMemory}
use Rattle.ux_boxes.specs.Refusing.{calls_in}
use Rattle.ux_boxes.specs.Boxes.{Drawn}
use Rattle.ux_boxes.specs.MaskTexts.{HaveMasks}
use Rattle.ux_compile.specs.Refusing.{IsCompilable, Refuses}
use Rattle.ux_boxes.proofs.MaskTextsLemmas.{HasBadText, none_bad, no_box_bad}
use Rattle.ux_boxes.proofs.RefusingLemmas.{good_none}

-- a list of graphs that can be compiled is refused only when it is out of memory
pub compilable_not_refused : (alphabet : Letters) (graphs : List Drawn) (error : NetError) →
    IsCompilable alphabet graphs → Refuses alphabet graphs error → error ≡ NoMemory
compilable_not_refused alphabet graphs (MissingGraph name) c r =
    absurd (r.missing (c.whole r.n name (
      r.k,
      slice_get_within (calls_in (slice_get graphs r.n)) r.k name r.called,
      get_or_from_slice_get (calls_in (slice_get graphs r.n)) r.k name name r.called,
    )))
compilable_not_refused alphabet graphs (BadMask name node place) c r =
    absurd (good_none HaveMasks HasBadText none_bad no_box_bad graphs c.masked r.1.0 node r.1.2.here)
compilable_not_refused alphabet graphs (ContextClose name node) c r =
    absurd (c.contexts.closed r.2.0 node r.2.2.here)
compilable_not_refused alphabet graphs (NegativeRecursion name) c r =
    absurd (c.contexts.no_recursion r.3.0 r.3.2.here)
compilable_not_refused alphabet graphs (EmptyLoop name node) c r =
    absurd (c.admissible.no_empty_loop r.3.0 node r.3.2.here)
compilable_not_refused alphabet graphs (LeftRecursion name node) c r =
    absurd (c.admissible.no_left_recursion r.4.0 node r.4.2.here)
compilable_not_refused alphabet graphs NoMemory c r = refl
