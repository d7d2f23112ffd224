use Rattle.std.proofs.Common.{List, subst}
use Rattle.std.proofs.lemmas.List.{take_all}
use Rattle.ux_folds.specs.Lists.{IsMore}
use Rattle.ux_folds.proofs.ListsLemmas.{more_none, more_taken}
use Rattle.ux_folds.proofs.lists.Lists.extend.Goals as goal

pub loop-item-init : goal.loop-item-init
loop-item-init g c = more_none c.args.self.now.links.keys c.args.front

pub loop-item-preserved : goal.loop-item-preserved
loop-item-preserved g c =
    more_taken c.args.self.now.links.keys c.loop-item.self.links.keys c.push.new.self.links.keys
    c.args.items.now c.loop-item.item-index c.item-item.result c.args.front c.loop-item.number
    c.in_ok-number.number c.loop-item-test.true c.item-item.is c.loop-item.invariant
    c.in_ok-number.ensures

pub returns : goal.returns
returns g c =
    subst (λ (l : List _). IsMore c.args.self.now.links.keys c.loop-item.self.links.keys
    c.args.front l c.loop-item.number) (take_all c.loop-item.item-index c.args.items.now
    c.loop-item-test.false) c.loop-item.invariant
