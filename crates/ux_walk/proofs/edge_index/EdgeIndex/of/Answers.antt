use Rattle.std.proofs.Common.{◌+◌, ℕ, List, get_or, subst, sym}
use Rattle.std.proofs.lemmas.Option.{slice_get-get_or}
use Rattle.ux_walk.proofs.EdgeIndexLemmas.{AreIndexedBefore, indexed_all, indexed_literal, indexed_other}
use Rattle.ux_walk.proofs.edge_index.EdgeIndex.of.Goals as goal

pub loop-place-preserved-then-not-is_literal : goal.loop-place-preserved-then-not-is_literal
loop-place-preserved-then-not-is_literal c = λ texts ready.
    let edges = c.args.edges.now in
    let place = c.loop-place.place in
    let default = c.index-edges-place.result in
    subst (λ (l : List ℕ). AreIndexedBefore c.args.alphabet.now texts edges (place + 1)
    c.loop-place.fittings.items l) (sym c.in_ok-push.ensures.items)
    (indexed_other c.args.alphabet.now texts edges place (get_or edges place default)
    (slice_get-get_or edges place default c.loop-place-test.true) c.loop-place.fittings.items
    c.loop-place.others.items
    (λ literal. let yes = c.is_literal.ensures.1 literal in let no = c.if-not-is_literal.true in cc)
    (c.loop-place.invariant texts ready))

pub loop-place-preserved : goal.loop-place-preserved
loop-place-preserved c = λ texts ready.
    let edges = c.args.edges.now in
    let place = c.loop-place.place in
    let default = c.index-edges-place.result in
    indexed_literal c.args.alphabet.now texts edges place (get_or edges place default)
    (slice_get-get_or edges place default c.loop-place-test.true) c.loop-place.fittings.items
    c.add_fittings.new.fittings.items c.loop-place.others.items
    (c.is_literal.ensures.0 c.if-not-is_literal.false)
    (c.in_ok-add_fittings.ensures texts ready) (c.loop-place.invariant texts ready)

pub returns : goal.returns
returns c texts ready =
    indexed_all c.args.alphabet.now texts c.args.edges.now c.loop-place.place
    c.loop-place.fittings.items (record {
      fittings = c.sort.new.fittings;
      others =
          c.loop-place.others;
    })
    c.loop-place-test.false (c.loop-place.invariant texts ready) c.sort.ensures.same
    c.sort.ensures.ordered
