use Rattle.std.proofs.Common.{[]}
use Rattle.std.proofs.lemmas.Result.{IfOk-weaker}
use Rattle.ux_image_lexicon.proofs.lexicon.ImageLexicon.reached.Goals as goal

pub returns : goal.returns
returns c =
    IfOk-weaker c.go_on.result _ _
    (λ next goes. goes c.args.self.now [] (c.in_ok-start.ensures c.args.alphabet.now)) c.go_on.ensures
