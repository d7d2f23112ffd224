use Rattle.std.proofs.lemmas.Bool.{both_ways}
use Rattle.ux_sentence.proofs.PassageLemmas.{passes_known, passes_none}
use Rattle.ux_sentence.proofs.passage.pass.Goals as goal

pub returns-then-not-has : goal.returns-then-not-has
returns-then-not-has c =
    passes_none c.args.states.now.keys c.args.step
    (λ h. both_ways c.has.result c.if-not-has.true (c.has.ensures.1 h))

pub returns : goal.returns
returns c =
    passes_known c.args.states.now.keys c.put.new.states.keys c.args.step
    (c.has.ensures.0 c.if-not-has.false) c.in_ok-put.ensures
