use Rattle.std.proofs.Common.{◌≡◌, map, take}
use Rattle.ux_command_line.proofs.names.Names.of.Given as goal

-- the names so far
abbrev pub invariant-loop-name : goal.invariant-loop-name
invariant-loop-name l = l.files.items ≡ map (λ name. name.now) (take l.name-index l.names)
