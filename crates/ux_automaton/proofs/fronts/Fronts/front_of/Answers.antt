use Rattle.std.proofs.Common.{get_or}
use Rattle.std.proofs.lemmas.List.Elements.{Contains-get_or}
use Rattle.ux_closure.specs.declared.stand.Stand.{Stand}
use Rattle.ux_automaton.specs.Kept.{store_of}
use Rattle.ux_automaton.proofs.AddingLemmas.{item_at}
use Rattle.ux_automaton.proofs.BuildingLemmas.{built_next, built_stands, built_there}
use Rattle.ux_automaton.proofs.fronts.Fronts.front_of.Goals as goal

pub loop-stand-preserved : goal.loop-stand-preserved
loop-stand-preserved c =
    let none : Stand = record {
      here = record { graph = 0; state = 0 };
      back = 0;
    } in
    let i = c.loop-stand.stand-index in
    let inside = c.loop-stand-test.true in
    let item = get_or c.args.stands.now i none in record {
      stacks = c.loop-stand.invariant.stacks;
      built = built_next (store_of c.args.self.now) c.args.stands.now i item inside
          (item_at c.args.stands.now i none inside)
          (c.requires.stands item (Contains-get_or c.args.stands.now i none inside))
          c.loop-stand.self.fronts.links.keys c.cons.new.self.links.keys c.loop-stand.front
          c.in_ok-front.front c.loop-stand.invariant.built c.in_ok-front.ensures;
    }

pub returns-clause-there : goal.returns-clause-there
returns-clause-there c = built_there (store_of c.args.self.now) c.args.stands.now
    c.loop-stand.stand-index c.loop-stand-test.false c.loop-stand.self.fronts.links.keys
    c.loop-stand.front c.loop-stand.invariant.built

pub returns-clause-stands : goal.returns-clause-stands
returns-clause-stands c = built_stands (store_of c.args.self.now) c.args.stands.now
    c.loop-stand.stand-index c.loop-stand-test.false c.loop-stand.self.fronts.links.keys
    c.loop-stand.front c.loop-stand.invariant.built
