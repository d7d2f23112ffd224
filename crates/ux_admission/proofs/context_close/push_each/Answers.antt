use Rattle.std.proofs.Common.{arith, ◌≡◌, refl, get_or, length}
use Rattle.ux_admission.specs.BadContexts.{rule_to}
use Rattle.ux_admission.proofs.GainsLemmas.{gains_next, gains_one, gains_done}
use Rattle.ux_admission.proofs.WaysExact.{gains_elements}
use Rattle.ux_admission.proofs.context_close.push_each.Goals as goal

pub loop-source-preserved : goal.loop-source-preserved
loop-source-preserved c =
    let sources = c.args.sources.now in
    let premise = c.args.premise in
    let k = c.loop-source.source-index in
    gains_next c.args.rules.now.items c.loop-source.rules.items c.push.new.self.items k
    (λ j r. rule_to (get_or sources j 0) premise ≡ r) c.loop-source.invariant
    (gains_one c.loop-source.rules.items c.push.new.self.items
    (rule_to (get_or sources k 0) premise) (λ r. rule_to (get_or sources k 0) premise ≡ r)
    c.in_ok-push.ensures.items refl (λ r e. e))

pub returns : goal.returns
returns c =
    let sources = c.args.sources.now in
    gains_elements c.args.rules.now.items c.loop-source.rules.items sources 0
    (λ a r. rule_to a c.args.premise ≡ r)
    (gains_done c.args.rules.now.items c.loop-source.rules.items c.loop-source.source-index
    (length sources) (λ j r. rule_to (get_or sources j 0) c.args.premise ≡ r)
    (omega arith) (omega arith) c.loop-source.invariant)
