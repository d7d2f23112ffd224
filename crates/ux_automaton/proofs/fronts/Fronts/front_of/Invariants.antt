use Rattle.std.proofs.Common.{◌≡◌, take}
use Rattle.ux_automaton.specs.Kept.{store_of}
use Rattle.ux_automaton.proofs.BuildingLemmas.{IsBuilt}
use Rattle.ux_automaton.proofs.fronts.Fronts.front_of.Given as goal

-- the stands so far are a front
abbrev pub invariant-loop-stand : goal.invariant-loop-stand
invariant-loop-stand l = record {
  stacks : l.self.stacks ≡ l.fn.self.stacks;
  built : IsBuilt (store_of l.fn.self) (take l.stand-index l.stands) l.self.fronts.links.keys
      l.front;
}
