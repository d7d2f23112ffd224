use Rattle.std.proofs.Common.{rules}
use Rattle.std.proofs.lemmas.Result.{IfOk-weaker}
use Rattle.ux_lexicon.proofs.ReachedLemmas.{reached-List}
use Rattle.ux_lexicon.proofs.reached.Reached.ending.Goals as goal

pub returns-in-List-clause-found : goal.returns-in-List-clause-found
returns-in-List-clause-found c =
    IfOk-weaker c.ending.result _ _ (λ found fits content leads.
    fits c.args.alphabet.now content c.args.text.now (search (rules, reached-List)))
    c.ending.ensures.found

pub returns-in-List-clause-sound : goal.returns-in-List-clause-sound
returns-in-List-clause-sound c =
    IfOk-weaker c.ending.result _ _ (λ found sound content leads.
    sound c.args.alphabet.now content c.args.text.now (search (rules, reached-List)))
    c.ending.ensures.sound
