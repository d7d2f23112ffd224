use Rattle.ux_automaton.specs.Kept.{store_of}
use Rattle.ux_automaton.proofs.Results.{if_ok}
use Rattle.ux_automaton.proofs.StoreLemmas.{has_stand, spelled}
use Rattle.ux_automaton.proofs.fronts.Fronts.stands.Goals as goal

pub returns-clause-stands : goal.returns-clause-stands
returns-clause-stands c = if_ok c.spell.result _ _ (λ stands is stand.
    spelled (store_of c.args.self.now) c.requires.sound c.args.front c.requires.there stands.items is
    stand) c.spell.ensures

pub returns-clause-there : goal.returns-clause-there
returns-clause-there c = if_ok c.spell.result _ _ (λ stands is stand inside.
    has_stand (store_of c.args.self.now) c.requires.sound c.args.front stand
    ((spelled (store_of c.args.self.now) c.requires.sound c.args.front c.requires.there stands.items is
    stand).0 inside)) c.spell.ensures
