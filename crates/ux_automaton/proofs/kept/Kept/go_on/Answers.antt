use Rattle.std.proofs.Common.{refl}
use Rattle.ux_automaton.specs.Kept.{store_of}
use Rattle.ux_walk.specs.Settings.{masked_setting}
use Rattle.ux_automaton.proofs.FrontIndexLemmas.{indexes_kept}
use Rattle.ux_automaton.proofs.StepLemmas.{step_is}
use Rattle.ux_automaton.proofs.kept.Kept.go_on.Goals as goal

pub returns-clause-step : goal.returns-clause-step
returns-clause-step c = step_is (masked_setting c.args.masked.now) c.requires.table.belongs
    (store_of c.closed.new.self.fronts) (store_of c.onward.new.self.fronts) c.args.front c.args.at
    c.is_space-is_spaced.result c.is_space-is_spaced.ensures.space c.in_ok-closed.ensures.right.sound
    c.in_ok-onward.ensures.grows c.in_ok-closed.closed c.in_ok-closed.ensures.closed
    c.in_ok-onward.onward c.in_ok-onward.ensures.onward _ refl refl refl refl
    (store_of c.args.self.now.fronts) c.requires.right.sound c.in_ok-closed.ensures.grows
    c.requires.there

pub onward-requires-clause-fronts : goal.onward-requires-clause-fronts
onward-requires-clause-fronts c = indexes_kept c.args.masked.now
    (store_of c.args.self.now.fronts) (store_of c.closed.new.self.fronts) c.args.front_indexes.now
    c.requires.right.sound c.in_ok-closed.ensures.grows c.requires.fronts
