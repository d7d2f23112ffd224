use Rattle.std.proofs.Common.{◌≡◌, take}
use Rattle.ux_tokens.specs.Numbers.{texts_in}
use Rattle.ux_boxes.specs.Boxes.{names_of}
use Rattle.ux_boxes.specs.Refusing.{drawn}
use Rattle.ux_boxes.proofs.missing.names_of.Given as goal

-- the names so far
abbrev pub invariant-loop-name : goal.invariant-loop-name
invariant-loop-name l = texts_in l.names ≡ names_of (drawn (take l.name-index l.graphs))
