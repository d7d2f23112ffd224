use Rattle.std.proofs.Common.{List, ◌↔◌, subst, sym}
use Rattle.std.specs.Prelude.{Contains}
use Rattle.ux_closure.specs.declared.stand.Stand.{Stand}
use Rattle.ux_automaton.specs.Fronts.{HasStand}
use Rattle.ux_automaton.specs.Kept.{store_of}
use Rattle.ux_automaton.proofs.FrontIndexLemmas.{all_likely}
use Rattle.ux_automaton.proofs.front_indexes.FrontIndexes.likely.Goals as goal

pub returns-in-Some-clause-likely : goal.returns-in-Some-clause-likely
returns-in-Some-clause-likely c = λ text numbered. c.likely.ensures c.args.masked.now text
    (store_of c.args.fronts.now) c.args.front
    (c.requires.indexed.indexes c.args.front c.in-Some.index.now c.in-Some.ensures).1 numbered

pub meet-requires-clause-stands : goal.meet-requires-clause-stands
meet-requires-clause-stands c = λ stand. subst (λ (l : List Stand). Contains l stand
    ↔ HasStand (store_of c.args.fronts.now) c.args.front stand) (sym c.as_slice.ensures.value)
    (c.in_ok-stands.ensures.stands stand)

pub returns-clause-likely : goal.returns-clause-likely
returns-clause-likely c = λ text numbered. all_likely c.args.masked.now text
    (HasStand (store_of c.args.fronts.now) c.args.front) c.in_ok-stands.stands.items
    c.in_ok-stands.ensures.stands
