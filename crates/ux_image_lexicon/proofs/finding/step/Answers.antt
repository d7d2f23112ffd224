use Rattle.ux_image_lexicon.proofs.FindLemmas.{step_within}
use Rattle.ux_image_lexicon.proofs.finding.step.Goals as goal

pub returns-clause-within : goal.returns-clause-within
returns-clause-within c =
    step_within c.args.states.now c.requires.automaton.fit c.args.number c.args.letter
    c.requires.within c.step.result c.step.ensures
