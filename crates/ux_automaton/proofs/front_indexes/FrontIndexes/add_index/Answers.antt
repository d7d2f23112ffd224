use Rattle.std.proofs.Common.{refl}
use Rattle.std.specs.Prelude.{Contains}
use Rattle.ux_automaton.specs.Fronts.{HasStand}
use Rattle.ux_automaton.specs.Kept.{store_of}
use Rattle.ux_automaton.proofs.FrontIndexLemmas.{index_by, one_index}
use Rattle.ux_automaton.proofs.front_indexes.FrontIndexes.add_index.Goals as goal

pub of-requires : goal.of-requires
of-requires c = c.requires.indexed.ready c.in-Some.words c.in-Some.is

pub returns : goal.returns
returns c =
    let store = store_of c.args.fronts.now in
    let all = one_index c.args.masked.now store c.args.self.now (record c.args.self.now {
      indexes = c.put_at.new.map;
    }) c.args.front c.in_ok-index.index c.requires.there
    (index_by c.args.masked.now (Contains c.args.stands.now) (HasStand store c.args.front)
    c.requires.stands c.in_ok-index.index c.in_ok-index.ensures) refl c.put_at.ensures
    c.requires.indexed in
    record { ready = all.ready; indexes = all.indexes }
