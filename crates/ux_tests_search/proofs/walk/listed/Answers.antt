use Rattle.ux_walk.specs.Settings.{masked_setting}
use Rattle.ux_walk.proofs.ContextsLemmas.{none_told}
use Rattle.ux_tests_search.proofs.walk.listed.Goals as goal

pub walk-requires-clause-told : goal.walk-requires-clause-told
walk-requires-clause-told c = none_told (masked_setting c.args.masked.now)
    (c.is_plain.ensures.0 c.if-is_plain.true)
