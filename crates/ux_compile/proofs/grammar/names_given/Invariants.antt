use Rattle.std.proofs.Common.{◌≡◌, map, string_bytes, take}
use Rattle.ux_boxes.specs.Boxes.{names_of}
use Rattle.ux_boxes.specs.Refusing.{drawn}
use Rattle.ux_compile.proofs.grammar.names_given.Given as goal

-- the names so far are copied
abbrev pub invariant-loop-name : goal.invariant-loop-name
invariant-loop-name l =
    map string_bytes l.names.items ≡ names_of (drawn (take l.name-index l.graphs))
