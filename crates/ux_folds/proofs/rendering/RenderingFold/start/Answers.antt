use Rattle.ux_folds.proofs.RenderingLemmas.{fold_grows, fold_starts, if_both, if_on}
use Rattle.ux_folds.proofs.TablesLemmas.{grown_then}
use Rattle.ux_folds.proofs.rendering.RenderingFold.start.Goals as goal

pub returns-clause-grows : goal.returns-clause-grows
returns-clause-grows c =
    let names = c.args.self.now.names.now in
    let first = c.in_ok-variables.ensures c.requires.ready in
    if_on c.number.result _ _ (λ number placed. fold_grows c.args.self.now c.number.new.self
    (grown_then names c.args.self.now.tables c.nothing.new.self c.number.new.self first.0
    (placed names first.0.tables).0)) c.number.ensures.tables

pub returns-clause-means : goal.returns-clause-means
returns-clause-means c =
    let first = c.in_ok-variables.ensures c.requires.ready in
    if_both c.number.result _ _ _ (λ number placed stands. fold_starts c.args.self.now
    c.nothing.new.self c.number.new.self c.args.start c.in_ok-variables.variables number
    c.requires.inside first.0 first.1 placed stands) c.number.ensures.tables
    c.number.ensures.stands
