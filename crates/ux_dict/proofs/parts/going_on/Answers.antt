use Rattle.ux_dict.proofs.NearLemmas.{IsSifted-narrowed}
use Rattle.ux_dict.proofs.PartLemmas.{next_rises}
use Rattle.ux_dict.proofs.parts.going_on.Goals as goal

pub returns : goal.returns
returns c front is =
    let few = c.narrowed-few.result in
    let narrow = c.narrowed-few.ensures front is in
    let sift = c.sifted.ensures (next_rises front few c.args.more.now narrow.is) narrow.is.keyed in
    IsSifted-narrowed front c.args.more.now c.args.part.now few c.sifted.result is narrow sift
