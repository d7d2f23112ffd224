use Rattle.std.proofs.lemmas.Result.{IfOk-weaker}
use Rattle.ux_dict.proofs.CandidateLemmas.{AreCandidates-chosen}
use Rattle.ux_dict.proofs.candidates.fitting_letters.Goals as goal

pub returns : goal.returns
returns c =
    IfOk-weaker c.chosen_letters.result _ _
    (λ found chosen. AreCandidates-chosen c.args.alphabet.now c.args.letters.now found.items
    c.args.c c.requires chosen) c.chosen_letters.ensures
