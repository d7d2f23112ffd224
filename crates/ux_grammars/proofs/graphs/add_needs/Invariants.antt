use Rattle.std.proofs.Common.{◌≡◌, fold, map, string_bytes}
use Rattle.ux_base.specs.Distinct.{with_text}
use Rattle.ux_grammars.proofs.graphs.add_needs.Given as goal

-- the names so far were added
abbrev pub invariant-loop-name : goal.invariant-loop-name
invariant-loop-name l =
    l.names.keys ≡ fold with_text l.fn.names.keys (map string_bytes l.yielded)
