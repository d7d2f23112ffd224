use Rattle.std.proofs.Common.{sym}
use Rattle.std.proofs.lemmas.Bool.{ltb-true, lt-ltb}
use Rattle.ux_image_reader.proofs.EdgesLemmas.{above_last}
use Rattle.ux_image_reader.proofs.states.is_above.Goals as goal

pub returns-in-Some : goal.returns-in-Some
returns-in-Some c =
    let tells = above_last c.args.before.now c.in-Some.edge.now c.args.letter
    (sym c.in-Some.ensures.value) in
    (λ less. tells.0 (ltb-true _ _ less), λ above. lt-ltb _ _ (tells.1 above))
