use Rattle.ux_folds.proofs.PuttingLemmas.{puts}
use Rattle.ux_folds.proofs.tables.Tables.put.Goals as goal

pub returns : goal.returns
returns c = λ tokens names utf8. puts c.args.self.now c.push_bytes.new.self c.collect.new.self
    c.args.kept c.args.put.now c.in_ok-text.text c.in_ok-variables.variables c.in_ok-text.ensures
    c.in_ok-variables.ensures utf8 tokens names
