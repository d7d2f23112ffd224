use Rattle.ux_folds.proofs.TablesLemmas.{taken}
use Rattle.ux_folds.proofs.tables.Tables.take.Goals as goal

pub returns : goal.returns
returns c = λ names. taken c.args.self.now c.push_taken.new.self c.args.text.now c.args.mode
    c.args.kept c.args.from c.args.to c.begin_after-begin.result c.in_ok-taken.taken
    c.first_after.result c.requires.here c.requires.some c.requires.within
    c.in_ok-taken.ensures.pushed c.in_ok-taken.ensures.utf8 c.begin_after-begin.ensures
    c.first_after.ensures.span c.first_after.ensures.below names
