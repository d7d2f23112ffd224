use Rattle.ux_automaton.specs.Kept.{store_of}
use Rattle.ux_walk.specs.Settings.{masked_setting}
use Rattle.ux_automaton.proofs.StepLemmas.{singly_onward}
use Rattle.ux_automaton.proofs.kept.Kept.onward_singly.Goals as goal

pub returns-clause-onward : goal.returns-clause-onward
returns-clause-onward c = singly_onward (masked_setting c.args.masked.now) c.requires.table.belongs
    (store_of c.transition.new.self.fronts) (store_of c.args.self.now.fronts) c.args.front
    c.args.number c.args.at c.args.kind _ c.requires.right.sound c.in_ok-over_token.ensures.grows
    c.requires.there c.in_ok-over_token.ensures.transition c.requires.numbered c.requires.singly
    c.new.ensures.items
