use Rattle.std.proofs.Common.{◌∙◌}
use Rattle.ux_walk.proofs.AppendLemmas.{extends_same, more_put, all_put}
use Rattle.ux_walk.proofs.lists.Lists.append.Goals as goal

pub loop-item-init : goal.loop-item-init
loop-item-init g c = λ xs below named. (extends_same c.args.self.now.links.keys, below, named)

pub loop-item-preserved : goal.loop-item-preserved
loop-item-preserved g c = λ xs below named.
    more_put c.args.self.now.links.keys c.loop-item.self.links.keys c.cons.new.self.links.keys
    c.as_slice-item-items.result.now xs c.loop-item.item-index c.item-item.result
    c.loop-item.number c.in_ok-number.number c.loop-item-test.true c.item-item.is
    (c.loop-item.invariant xs below named) c.in_ok-number.ensures

pub returns : goal.returns
returns g c = λ below xs ys named later.
    all_put c.args.self.now.links.keys c.loop-item.self.links.keys
    c.as_slice-item-items.result.now xs ys c.loop-item.item-index c.loop-item.number
    c.loop-item-test.false
    (c.as_slice-item-items.ensures.value ∙ c.in_ok-items.ensures ys below later)
    (c.loop-item.invariant xs below named)
