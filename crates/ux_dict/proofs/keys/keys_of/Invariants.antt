use Rattle.std.proofs.Common.{◌≡◌, map, take}
use Rattle.ux_dict.specs.Keys.{key_of}
use Rattle.ux_dict.proofs.keys.keys_of.Given as goal

-- the keys of the entries so far
abbrev pub invariant-loop-entry : goal.invariant-loop-entry
invariant-loop-entry l = l.keys.items ≡ map key_of (take l.entry-index l.entries)
