use Rattle.std.proofs.Common.{arith, ◌≡◌, ◌++◌, ◌∷◌, ◌∙◌, List, [], Contains, sym, ap, subst, append-nil, length}
use Rattle.std.specs.Prelude.{None}
use Rattle.std.proofs.lemmas.Grind.{common_steps}
use Rattle.std.proofs.lemmas.List.Elements.{Contains-append_left, Contains-push}
use Rattle.ux_net.specs.declared.state.State.{State}
use Rattle.ux_flatten.specs.declared.pending.Pending.{Pending}
use Rattle.ux_flatten.specs.Copies.{copy}
use Rattle.ux_flatten.specs.Making.{has_word, states_left}
use Rattle.ux_flatten.proofs.MakingLaw.{copy_step, left_falls, root_to_make, stack_to_make}
use Rattle.ux_flatten.proofs.copying.flat_states.Goals as goal

pub loop-copy-init : goal.loop-copy-init
loop-copy-init c =
    let source = c.args.source.now in
    let root : Pending = record { graph = 1; depth = c.args.depth; first = 0; back = None } in
    let stack : c.push.new.self.items ≡ root ∷ [] =
    c.in_ok-push.ensures.items
    ∙ ap (λ (l : List Pending). l ++ root ∷ []) c.new-pending.ensures.items in
    record {
      whole = ap (λ (l : List State). l ++ states_left source c.push.new.self.items)
          c.new-states.ensures.items
          ∙ ap (λ (l : List Pending). states_left source l) stack;
      to_make = λ made there. root_to_make source c.args.depth c.requires.some c.requires.few made
          (subst (λ (l : List Pending). Contains l made) stack there);
    }

pub loop-copy-preserved : goal.loop-copy-preserved
loop-copy-preserved c =
    let source = c.args.source.now in
    let made = c.in-Some.copy in
    let rest : List Pending = c.pop.new.self.items in
    let before = c.in-Some.ensures.items in
    let those = c.loop-copy.invariant.to_make in
    let is = those made (subst (λ (l : List Pending). Contains l made) (sym before)
    (Contains-push rest made)) in
    let grown = c.in_ok-push_copy.ensures in
    record {
      whole = copy_step source c.args.depth c.requires.inside c.requires.sizes made
          c.loop-copy.states.items c.push_copy.new.states.items
          (copy source.graphs.items (has_word source) c.args.depth 1 0 None) rest
          c.push_copy.new.pending.items is
          (subst (λ (l : List Pending). c.loop-copy.states.items ++ states_left source l
          ≡ copy source.graphs.items (has_word source) c.args.depth 1 0 None) before
          c.loop-copy.invariant.whole) grown.states grown.pending;
      to_make = stack_to_make source c.args.depth c.requires.inside c.requires.sizes made rest
          c.push_copy.new.pending.items is
          (λ q there. those q (subst (λ (l : List Pending). Contains l q) (sym before)
          (Contains-append_left rest (made ∷ []) q there))) grown.pending;
    }

pub loop-copy-smaller : goal.loop-copy-smaller
loop-copy-smaller c =
    let source = c.args.source.now in
    let made = c.in-Some.copy in
    let rest : List Pending = c.pop.new.self.items in
    let before = c.in-Some.ensures.items in
    let is = c.loop-copy.invariant.to_make made (subst (λ (l : List Pending). Contains l made)
    (sym before) (Contains-push rest made)) in
    let falls = left_falls source c.args.depth c.requires.inside c.requires.sizes made rest
    c.push_copy.new.pending.items is c.in_ok-push_copy.ensures.pending in
    let same : length (states_left source c.loop-copy.pending.items)
    ≡ length (states_left source (rest ++ made ∷ [])) =
    ap (λ (l : List Pending). length (states_left source l)) before in
    omega (arith, falls, same)

pub returns : goal.returns
returns c =
    let source = c.args.source.now in
    let states = c.loop-copy.states.items in
    let none : c.loop-copy.pending.items ≡ [] = grind (arith, common_steps) in
    sym (append-nil states)
    ∙ (ap (λ (l : List Pending). states ++ states_left source l) (sym none)
    ∙ c.loop-copy.invariant.whole)
