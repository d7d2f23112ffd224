use Rattle.ux_admission.specs.Gains.{Gains, SoBelow, SoAt}
use Rattle.ux_state_places.specs.Meeting.{IsRuleOf}
use Rattle.ux_state_places.proofs.meeting.push_rules.Given as goal

-- the links so far have their rules
abbrev pub invariant-loop-link : goal.invariant-loop-link
invariant-loop-link l = Gains l.fn.rules.items l.rules.items
    (SoBelow l.link-index (SoAt l.links IsRuleOf))
