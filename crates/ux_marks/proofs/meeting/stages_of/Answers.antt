use Rattle.std.proofs.Common.{arith, List, subst, sym}
use Rattle.std.proofs.lemmas.Result.{IfOk-weaker}
use Rattle.ux_digraph.specs.declared.closing.Rule.{Rule}
use Rattle.ux_net.specs.Nets.{states_of}
use Rattle.ux_marks.specs.Meeting.{AreRulesOf}
use Rattle.ux_marks.proofs.MeetingLemmas.{rules_inside, tells_stages}
use Rattle.ux_marks.proofs.meeting.stages_of.Goals as goal

pub closure-requires : goal.closure-requires
closure-requires c =
    let states = states_of c.args.net.now 1 in
    let some = c.states.ensures.some in
    let count = c.states.ensures.count in
    record {
      inside = rules_inside states c.deref.result.now
          (subst (λ (rs : List Rule). AreRulesOf states rs) (sym c.deref.ensures.value)
          c.in_ok-rules.ensures) _ (omega (arith, some, count)) (omega (arith, count));
    }

pub returns : goal.returns
returns c =
    let states = states_of c.args.net.now 1 in
    IfOk-weaker c.closure.result _ _ (λ found marked.
    tells_stages states c.deref.result.now
    (subst (λ (rs : List Rule). AreRulesOf states rs) (sym c.deref.ensures.value)
    c.in_ok-rules.ensures) found.items marked) c.closure.ensures.marks
