use Rattle.std.proofs.Common.{◌≡◌, take}
use Rattle.std.specs.List.{AllZip, flat_map}
use Rattle.ux_net.specs.Whole.{whole_states_of}
use Rattle.ux_fst2.specs.Files.{IsStateBy, IsPrintedBy, tags_of_state}
use Rattle.ux_fst2.specs.Inner.{with_texts}
use Rattle.ux_fst2.proofs.printing.states_of.Given as goal

-- the states so far, and their tags
abbrev pub invariant-loop-state : goal.invariant-loop-state
invariant-loop-state l = record {
  tags : l.tags.keys
      ≡ with_texts l.fn.tags.keys
      (flat_map tags_of_state (take l.state (whole_states_of l.net l.graph)));
  states : AllZip (IsStateBy (IsPrintedBy l.tags.keys)) l.told.items
      (take l.state (whole_states_of l.net l.graph));
}
