use Rattle.std.proofs.Common.{◌↔◌, take}
use Rattle.std.specs.Prelude.{Contains}
use Rattle.ux_inflect.specs.declared.outcomes.Line.{Line}
use Rattle.ux_inflect.specs.Outcomes.{IsLineOfSome}
use Rattle.ux_inflect.proofs.outcomes.lines_of.Given as goal

-- the lines of the configurations so far are there
abbrev pub invariant-loop-config : goal.invariant-loop-config
invariant-loop-config l = (line : Line) → Contains l.lines.keys line
    ↔ IsLineOfSome l.stem (take l.config-index l.configs) line
