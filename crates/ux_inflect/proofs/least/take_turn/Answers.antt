use Rattle.std.proofs.Common.{arith, ◌≡◌, ◌∙◌, ℕ, ◌+◌, List, [], ap, get_or, refl, subst, sym, take}
use Rattle.std.specs.Prelude.{Bool, Option}
use Rattle.std.proofs.lemmas.List.{get_or_default}
use Rattle.ux_digraph.specs.Rules.{is_marked_at}
use Rattle.ux_inflect.specs.declared.exploring.Link.{Link}
use Rattle.ux_inflect.specs.Ways.{if_wanted_text, least_in, lists_of, IsTaken}
use Rattle.ux_inflect.proofs.TurnsLemmas.{taken_next, taken_none}
use Rattle.ux_inflect.proofs.least.take_turn.Goals as goal

pub loop-node-init : goal.loop-node-init
loop-node-init c = taken_none (lists_of c.args.links.now) c.args.wanted.now c.args.nodes.now
    c.args.best.now.items c.requires

pub loop-node-preserved : goal.loop-node-preserved
loop-node-preserved c =
    let links = lists_of c.args.links.now in
    let wanted = c.args.wanted.now in
    let nodes = c.args.nodes.now in
    let i = c.loop-node.node-index in
    let node = get_or nodes i 0 in
    let best = c.loop-node.best.items in
    let is : c.in_ok-text.text ≡ least_in best (if_wanted_text (is_marked_at wanted node))
    (get_or links node []) = c.in_ok-text.ensures
    ∙ (ap (λ (b : List (Option (List ℕ))). least_in b (if_wanted_text c.is_marked.result)
    c.row_of.result.now) c.deref.ensures.value
    ∙ (ap (λ (b : Bool). least_in best (if_wanted_text b) c.row_of.result.now) c.is_marked.ensures
    ∙ ap (λ (row : List Link). least_in best (if_wanted_text (is_marked_at wanted node)) row)
    c.row_of.ensures)) in
    subst (λ (new : List (Option (List ℕ))). IsTaken links wanted (take (i + 1) nodes)
    c.args.best.now.items new) (sym c.keep.ensures)
    (taken_next links wanted nodes c.args.best.now.items c.requires i best c.loop-node.invariant
    c.loop-node-test.true node refl c.in_ok-text.text is)

pub keep-requires : goal.keep-requires
keep-requires c =
    let node = get_or c.args.nodes.now c.loop-node.node-index 0 in
    let within = c.requires.inside node (
      c.loop-node.node-index,
      c.loop-node-test.true,
      get_or_default c.args.nodes.now c.loop-node.node-index node 0 c.loop-node-test.true,
    ) in
    let len = c.loop-node.invariant.len in
    omega (arith, within, len)
