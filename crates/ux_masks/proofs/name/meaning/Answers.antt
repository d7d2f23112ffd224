use Rattle.ux_masks.proofs.MeaningLemmas.{cut_behind}
use Rattle.ux_masks.proofs.name.meaning.Goals as goal

pub range_from-rest-requires : goal.range_from-rest-requires
range_from-rest-requires c =
    λ _. cut_behind c.loop-place.protected c.as_bytes.result.now c.loop-place.rest.now
    c.in-Some.place c.as_bytes.ensures.value c.as_bytes.ensures.utf8 c.in-Some.ensures
