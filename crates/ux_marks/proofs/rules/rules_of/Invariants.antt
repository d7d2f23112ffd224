use Rattle.std.specs.Prelude.{◌↔◌, Contains}
use Rattle.ux_digraph.specs.declared.closing.Rule.{Rule}
use Rattle.ux_net.specs.Nets.{states_of}
use Rattle.ux_marks.specs.Meeting.{IsRuleBelow}
use Rattle.ux_marks.proofs.rules.rules_of.Given as goal

-- the rules of the states so far are there
abbrev pub invariant-loop-state : goal.invariant-loop-state
invariant-loop-state l =
    (rule : Rule) → Contains l.rules.items rule ↔ IsRuleBelow (states_of l.net 1) l.state rule
