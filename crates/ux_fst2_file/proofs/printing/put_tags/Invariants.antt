use Rattle.std.proofs.Common.{◌≡◌, ◌++◌, take, flat_map, string_bytes}
use Rattle.ux_fst2_file.specs.Printed.{ended}
use Rattle.ux_fst2_file.proofs.printing.put_tags.Given as goal

abbrev pub invariant-loop-tag : goal.invariant-loop-tag
invariant-loop-tag l =
    string_bytes l.text ≡ string_bytes l.fn.text ++ flat_map ended (take l.tag-index l.tags)
