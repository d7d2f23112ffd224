use Rattle.std.proofs.Common.{take}
use Rattle.ux_tokens.specs.Numbers.{texts_in}
use Rattle.ux_cmd_inflect.specs.Classes.{AreClassed}
use Rattle.ux_cmd_inflect.proofs.classes.classes_of.Given as goal

-- the lemmas so far have their classes
abbrev pub invariant-loop-stem : goal.invariant-loop-stem
invariant-loop-stem l =
    AreClassed (take l.stem-index l.stems) (texts_in l.names) l.numbers.items
