use Rattle.std.proofs.Common.{◌≡◌, ◌∙◌, ◌++◌, ◌∷◌, [], List, ap, max, arith}
use Rattle.std.proofs.lemmas.Grind.{common_steps}
use Rattle.std.proofs.lemmas.Result.{err_from_is_err_and}
use Rattle.ux_dawg.specs.declared.state.Edge.{Edge}
use Rattle.ux_dawg.specs.Flat.{state_of}
use Rattle.ux_image_reader.specs.Layout.{final_number}
use Rattle.ux_image_reader.proofs.StatesLemmas.{memory_stops, states_more, states_stop}
use Rattle.ux_image_reader.proofs.states.read_states.Goals as goal

pub returns-in_err-code-clause-err : goal.returns-in_err-code-clause-err
returns-in_err-code-clause-err c =
    let p = err_from_is_err_and c.from_residual.result c.from_residual.ensures.1 in
    rw (p.1, p.2) (states_stop c.args.count c.args.lists c.loop-number.number c.loop-number.used
    c.args.cursor.now c.loop-number.cursor c.loop-number.states c.loop-number.invariant.0
    c.loop-number.invariant.1 c.in_err-code.field-0.0 (omega arith) c.in_err-code.ensures.err)

pub returns-in_err-push-clause-err : goal.returns-in_err-push-clause-err
returns-in_err-push-clause-err c =
    let failed = c.from_residual-in_err-push in
    let p = err_from_is_err_and failed.result failed.ensures.1 in
    rw (p.1, p.2) (memory_stops c.args.count c.args.lists c.loop-number.number c.loop-number.used
    c.args.cursor.now c.loop-number.cursor c.loop-number.states c.loop-number.invariant.0
    c.loop-number.invariant.1 (omega arith))

pub loop-number-preserved : goal.loop-number-preserved
loop-number-preserved c =
    let code = c.in_ok-code.code in
    let edges = c.read_state.new.edges.items in
    let higher : c.max-used.result ≡ max c.loop-number.used (final_number code) =
    grind (arith, common_steps) in
    states_more c.args.count c.args.lists c.loop-number.number c.loop-number.used c.args.cursor.now
    c.loop-number.cursor c.loop-number.states c.loop-number.invariant.0
    c.loop-number.invariant.1 c.read_state.new.cursor (state_of code edges) c.push.new.self
    c.max-used.result c.in_ok-code.ensures.ok c.in_ok-code.ensures.passed
    (c.in_ok-push.ensures.ok ∙ ap (λ (l : List Edge). c.loop-number.states ++ state_of code l ∷ [])
    c.as_slice.ensures.value) higher
