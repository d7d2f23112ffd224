use Rattle.ux_walk.proofs.ContextsLemmas.{none_told}
use Rattle.ux_locate.specs.Finding.{setting_in}
use Rattle.ux_locate.proofs.by_start.hits_by_walker.Goals as goal

pub hits_by_ends-requires-clause-told : goal.hits_by_ends-requires-clause-told
hits_by_ends-requires-clause-told c = none_told (setting_in c.args.search.now) c.requires.plain
