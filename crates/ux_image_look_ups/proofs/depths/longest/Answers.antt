use Rattle.std.proofs.Common.{◌≡◌, ◌<◌, List, ℕ, get_or, length, subst, sym, ap, ◌∙◌, arith}
use Rattle.std.specs.Prelude.{All}
use Rattle.ux_dawg.specs.Building.{bare}
use Rattle.ux_dawg.specs.declared.state.Edge.{Edge}
use Rattle.ux_dawg.proofs.FlatLemmas.{read_state}
use Rattle.ux_image_look_ups.specs.Longest.{deepest}
use Rattle.ux_image_look_ups.proofs.LongestLemmas.{depths_each, depths_low, edges_low}
use Rattle.ux_image_look_ups.proofs.depths.longest.Goals as goal

pub depth_behind-depth-requires-clause-within : goal.depth_behind-depth-requires-clause-within
depth_behind-depth-requires-clause-within c =
    let long : c.loop-number.number ≡ length c.deref.result.now =
    sym c.loop-number.invariant.many ∙ ap (length {A = ℕ}) (sym c.deref.ensures.value) in
    let states = c.args.states.now in
    let n = c.loop-number.number in
    let inside : n < length states = omega arith in
    subst (λ k. All (λ (e : Edge). e.target < k) c.edges.result.now) long
    (edges_low states c.requires.automaton.fit c.requires.forms n (get_or states n bare) inside
    (read_state states n inside) c.edges.result.now c.edges.ensures)

pub loop-number-preserved : goal.loop-number-preserved
loop-number-preserved c =
    let states = c.args.states.now in
    let n = c.loop-number.number in
    let depths = c.loop-number.depths.items in
    let inside : n < length states = omega arith in
    let depth = c.depth_behind-depth.result in
    let is : depth ≡ deepest depths (get_or states n bare).edges =
    c.depth_behind-depth.ensures
    ∙ ap (λ (l : List ℕ). deepest l c.edges.result.now) c.deref.ensures.value
    ∙ ap (deepest depths) c.edges.ensures in
    let old = c.loop-number.invariant in
    let pushed = c.in_ok-push.ensures.items in
    record {
      many = let many = old.many in let long = c.in_ok-push.ensures.len in omega arith;
      each = depths_each states c.requires.automaton.fit c.requires.forms depths
          c.push.new.self.items depth n inside old.many pushed old.each old.low is;
      low = depths_low states c.requires.automaton.fit c.requires.forms depths
          c.push.new.self.items depth n inside old.many pushed old.each old.low is;
    }
