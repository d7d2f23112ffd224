use Rattle.std.proofs.lemmas.Result.{IfOk-weaker}
use Rattle.ux_dict.proofs.list_lexicon.ListLexicon.fitting.Goals as goal

pub returns-clause-sound : goal.returns-clause-sound
returns-clause-sound c =
    IfOk-weaker c.ending.result _ _
    (λ found sound. sound c.args.alphabet.now c.args.self.now c.args.text.now c.in_ok-reached.ensures)
    c.ending.ensures.sound
