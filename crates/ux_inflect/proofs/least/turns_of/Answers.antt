use Rattle.std.proofs.Common.{arith, ◌≡◌, ◌∙◌, ℕ, List, ap, get_or, subst, sym}
use Rattle.std.specs.Prelude.{Contains}
use Rattle.ux_base.proofs.Lists.{nothing_in}
use Rattle.ux_digraph.specs.Components.{AreComponents}
use Rattle.ux_digraph.specs.Paths.{IsInside}
use Rattle.ux_subsets.specs.Rows.{row_at}
use Rattle.ux_inflect.specs.Ways.{ends_rows, lists_in, lists_of}
use Rattle.ux_inflect.proofs.TurnsLemmas.{ends_inside, length_ends, length_lists, turn_more, turns_are}
use Rattle.ux_inflect.proofs.least.turns_of.Goals as goal

pub components-requires : goal.components-requires
components-requires c = record {
  inside = subst IsInside (sym (c.deref.ensures.value ∙ c.in_ok-rows.ensures))
      (ends_inside (lists_of c.args.links.now) c.requires);
}

pub loop-node-init : goal.loop-node-init
loop-node-init c = (
  c.in_ok-turns.ensures.len,
  λ k x. (
    λ h. absurd (nothing_in (subst (λ (row : List ℕ). Contains row x)
        (c.in_ok-turns.ensures.empty k) h)),
    λ h. absurd (omega (arith, h.0)),
  ),
)

pub loop-node-preserved : goal.loop-node-preserved
loop-node-preserved c =
    let numbers = c.in_ok-numbers.numbers.items in
    let is : c.number_of.result ≡ get_or numbers c.loop-node.node 0 = c.number_of.ensures
    ∙ ap (λ (l : List ℕ). get_or l c.loop-node.node 0) c.deref-in-loop-node.ensures.value in (
      c.in_ok-put.ensures.len ∙ c.loop-node.invariant.0,
      λ k x. turn_more c.loop-node.node c.number_of.result k x (λ y. get_or numbers y 0)
          (row_at c.loop-node.turns.items k) (row_at c.put.new.rows.items k) is
          (c.in_ok-put.ensures.put k x) (c.loop-node.invariant.1 k x),
    )

pub put-requires : goal.put-requires
put-requires c =
    let rows = ends_rows (lists_of c.args.links.now) in
    let numbers = c.in_ok-numbers.numbers.items in
    let components = subst (λ (rows : List (List ℕ)). AreComponents rows numbers)
    (c.deref.ensures.value ∙ c.in_ok-rows.ensures) c.in_ok-numbers.ensures in
    let is : c.number_of.result ≡ get_or numbers c.loop-node.node 0 = c.number_of.ensures
    ∙ ap (λ (l : List ℕ). get_or l c.loop-node.node 0) c.deref-in-loop-node.ensures.value in
    let ends = length_ends (lists_of c.args.links.now) c.requires in
    let len = length_lists c.args.links.now in
    let turns = c.loop-node.invariant.0 in
    let below = components.below c.loop-node.node (omega (arith, ends, len, c.loop-node-test.true)) in
    omega (arith, is, ends, len, turns, below)

pub returns : goal.returns
returns c =
    let links = c.args.links.now in
    turns_are (lists_of links) c.requires c.in_ok-numbers.numbers.items
    (subst (λ (rows : List (List ℕ)). AreComponents rows c.in_ok-numbers.numbers.items)
    (c.deref.ensures.value ∙ c.in_ok-rows.ensures) c.in_ok-numbers.ensures)
    (lists_in c.loop-node.turns.items)
    (λ k x. (
      λ h.
          let b = (c.loop-node.invariant.1 k x).0 h in
          let len = length_lists links in
          let auto = c.loop-node.auto.node-end in
          ((let l = b.0 in omega (arith, l, len, auto)), b.1),
      λ h.
          let len = length_lists links in
          (c.loop-node.invariant.1 k x).1
          ((let l = h.0 in omega (arith, l, len, c.loop-node-test.false)), h.1),
    ))
