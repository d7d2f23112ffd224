use Rattle.ux_admission.proofs.WayLemmas.{gains_call, gains_context}
use Rattle.ux_admission.proofs.ways.push_line.Goals as goal

pub returns-in-Some : goal.returns-in-Some
returns-in-Some c = λ graphs are from to exact.
    gains_call c.args.ways.now.items c.push-in-Some.new.self.items c.args.step c.args.line.now
    graphs from to c.args.offsets.now are c.requires.fit c.in-Some.graph
    c.in_ok-push-2.ensures.items c.in-Some.ensures.some

pub returns-in_ok-push_context : goal.returns-in_ok-push_context
returns-in_ok-push_context c = λ graphs are from to exact.
    gains_context c.args.ways.now.items c.push_context.new.ways.items c.args.step
    c.args.line.now graphs from to c.args.closers.now (c.is_opening.ensures.0 c.if-is_opening.true)
    exact c.in_ok-push_context.ensures
