use Rattle.std.proofs.Common.{List, ℕ, ◌∙◌, subst, sym}
use Rattle.std.specs.Prelude.{◌↔◌, Contains}
use Rattle.ux_state_places.specs.Arrivals.{IsTargetOf}
use Rattle.ux_state_places.proofs.raw.place_of.Goals as goal

pub returns : goal.returns
returns c = record {
  quiet = c.new-2.ensures ∙ c.new.ensures.items;
  lines = c.new-3.ensures ∙ c.in_ok-one_line.ensures;
  targets = λ q. subst (λ (targets : List ℕ). Contains targets q ↔
      IsTargetOf c.args.states.now c.args.ways.now.kinds.items c.args.ways.now.arrivals.keys
      c.args.arrival q) (sym c.new-4.ensures) (c.in_ok-targets_of.ensures q);
}
