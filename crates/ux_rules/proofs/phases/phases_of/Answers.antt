use Rattle.std.proofs.Common.{arith, ◌≡◌, ◌*◌, List, subst, sym}
use Rattle.std.proofs.lemmas.Grind.{common_steps}
use Rattle.std.proofs.lemmas.Result.{IfOk-weaker}
use Rattle.ux_digraph.specs.declared.closing.Rule.{Rule}
use Rattle.ux_rules.specs.Phases.{AreRulesOf}
use Rattle.ux_rules.proofs.PhaseLemmas.{found_phases}
use Rattle.ux_rules.proofs.RulesLemmas.{rules_inside}
use Rattle.ux_rules.proofs.phases.phases_of.Goals as goal

pub closure-requires : goal.closure-requires
closure-requires c =
    let size : c.in_ok-size.size ≡ c.args.places * 9 = grind (arith, common_steps) in
    record {
      inside = rules_inside c.args.places c.in_ok-size.size c.args.steps.now c.deref.result.now
          c.requires.inside
          (subst (λ (rs : List Rule). AreRulesOf c.args.steps.now rs) (sym c.deref.ensures.value)
          c.in_ok-rules.ensures) size;
    }

pub returns : goal.returns
returns c =
    IfOk-weaker c.closure.result _ _ (λ found marked.
    found_phases c.args.steps.now c.deref.result.now
    (subst (λ (rs : List Rule). AreRulesOf c.args.steps.now rs) (sym c.deref.ensures.value)
    c.in_ok-rules.ensures) found.items marked) c.closure.ensures.marks
