use Rattle.std.proofs.Common.{arith}
use Rattle.ux_dawg.proofs.NumberLemmas.{on, out, at_end, told_forms}
use Rattle.ux_dawg.proofs.dawg.Dawg.number_of.Goals as goal

pub loop-letter-preserved : goal.loop-letter-preserved
loop-letter-preserved c =
    on c.args.self.now c.args.letters.now c.loop-letter.state c.loop-letter.letter-index
    c.loop-letter.invariant c.letter-item.result c.step.result c.loop-letter-test.true
    c.letter-item.is c.step.ensures c.in_ok-state.field-0 c.in_ok-state.was

pub returns-in_err-state-clause-path : goal.returns-in_err-state-clause-path
returns-in_err-state-clause-path c =
    out c.args.self.now c.args.letters.now c.loop-letter.state c.loop-letter.letter-index
    c.loop-letter.invariant c.letter-item.result c.step.result c.loop-letter-test.true
    c.letter-item.is c.step.ensures c.in_err-state.was c.from_residual.result
    c.from_residual.ensures

pub returns-in_err-state-clause-form : goal.returns-in_err-state-clause-form
returns-in_err-state-clause-form c =
    told_forms c.args.self.now c.args.letters.now c.from_residual.result
    (returns-in_err-state-clause-path c)

pub returns-clause-path : goal.returns-clause-path
returns-clause-path c =
    at_end c.args.self.now c.args.letters.now c.loop-letter.state c.loop-letter.letter-index
    c.loop-letter.invariant (omega arith) c.final_of.result c.final_of.ensures

pub returns-clause-form : goal.returns-clause-form
returns-clause-form c =
    told_forms c.args.self.now c.args.letters.now c.final_of.result (returns-clause-path c)
