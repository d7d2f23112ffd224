use Rattle.std.proofs.Common.{arith, rules, ◌≡◌, ◌+◌, ◌-◌, ◌<◌, ◌∙◌, List, ℕ, ap, min, length, subst, sym, get_or}
use Rattle.std.proofs.lemmas.List.{get_or_read}
use Rattle.ux_dawg.specs.Building.{bare}
use Rattle.ux_dawg.proofs.FlatLemmas.{read_state, state_stands}
use Rattle.ux_dawg.specs.declared.state.Edge.{Edge}
use Rattle.ux_image_lists.specs.Depths.{AreDepths, AreLowered}
use Rattle.ux_image_lists.specs.declared.shortest.TheConstants.{UNREACHED}
use Rattle.ux_image_lists.proofs.DepthLemmas.{depths_more, refill, targets_within}
use Rattle.ux_image_lists.proofs.shortest.depths_of.Goals as goal

pub lower_targets-requires : goal.lower_targets-requires
lower_targets-requires c =
    let states = c.args.states.now in
    let number = c.len-root.result - 1 - c.loop-done.done in
    let within : number < length states = omega arith in
    targets_within states c.requires.states number (get_or states number bare)
    c.edges.result.now c.deref_mut.result.now within (read_state states number within)
    c.edges.ensures
    (ap (length {A = ℕ}) c.deref_mut.ensures.value ∙ c.loop-done.invariant.long)

pub loop-done-preserved : goal.loop-done-preserved
loop-done-preserved c =
    let states = c.args.states.now in
    let old = c.loop-done.depths.items in
    let number = c.len-root.result - 1 - c.loop-done.done in
    let s = get_or states number bare in
    let long = c.loop-done.invariant.long in
    let less : number < length states = omega arith in
    let stands = state_stands states number less in
    let read = get_or_read old number c.index.result.now (omega (arith, less, long))
    c.index.ensures 0 in
    let depth : c.saturating_add-depth.result ≡ min (get_or old number 0 + 1) UNREACHED =
    c.saturating_add-depth.ensures ∙ ap (λ n. min (n + 1) UNREACHED) read in
    let lowered = subst (λ (l : List Edge).
    AreLowered l c.saturating_add-depth.result old c.lower_targets.new.depths)
    c.edges.ensures
    (subst (λ (l : List ℕ). AreLowered c.edges.result.now c.saturating_add-depth.result l
    c.lower_targets.new.depths) c.deref_mut.ensures.value c.lower_targets.ensures) in
    let all : c.loop-done.depths.len ≡ length old = search rules in
    subst (AreDepths states (c.len-root.result - 1) (c.loop-done.done + 1))
    (sym (refill c.loop-done.depths.len c.lower_targets.new.depths old lowered.long all))
    (depths_more states c.requires.states (c.len-root.result - 1) c.loop-done.done number
    c.saturating_add-depth.result s old c.lower_targets.new.depths c.loop-done.invariant
    (omega arith) (omega arith) stands depth lowered)

pub returns : goal.returns
returns c =
    let states = c.args.states.now in
    let all : c.loop-done.done ≡ length states = omega arith in
    subst (λ n. AreDepths states (n - 1) (length states) c.loop-done.depths.items) c.len-root.ensures
    (subst (λ n. AreDepths states (c.len-root.result - 1) n c.loop-done.depths.items) all
    c.loop-done.invariant)
