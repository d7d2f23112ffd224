use Rattle.std.specs.Prelude.{string_bytes}
use Rattle.std.specs.Str.{chars}
use Rattle.ux_dict.proofs.RunLemmas.{GoOnBut}
use Rattle.ux_dict.proofs.continuing.gone_on_by_runs.Given as goal

-- the parts go on with the characters so far, but for the run
abbrev pub invariant-loop-c : goal.invariant-loop-c
invariant-loop-c l =
    GoOnBut l.alphabet l.letters l.yielded (chars (string_bytes l.run)) l.parts l.next.items
