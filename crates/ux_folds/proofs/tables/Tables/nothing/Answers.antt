use Rattle.std.proofs.Common.{refl}
use Rattle.ux_folds.proofs.VariablesLemmas.{naming_all, naming_first, naming_more}
use Rattle.ux_folds.proofs.tables.Tables.nothing.Goals as goal

pub loop-name-init : goal.loop-name-init
loop-name-init c = naming_first c.args.self.now c.args.names.now

pub loop-name-preserved : goal.loop-name-preserved
loop-name-preserved c = naming_more c.args.self.now c.loop-name.self
    (record c.loop-name.self { variables = c.push.new.self }) c.args.names.now c.loop-name.number
    c.in_ok-number.number c.loop-name._name-index c.nothing_known.result c.loop-name-test.true
    c.nothing_known.ensures refl refl c.in_ok-number.ensures c.loop-name.invariant

pub returns : goal.returns
returns c = naming_all c.args.self.now c.loop-name.self c.args.names.now c.loop-name.number
    c.loop-name._name-index c.loop-name-test.false c.loop-name.invariant
