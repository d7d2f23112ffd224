use Rattle.std.proofs.Common.{List, get_or, subst}
use Rattle.ux_walk.specs.declared.config.Return.{Return}
use Rattle.ux_walk.specs.Joins.{Joins, OfBoth}
use Rattle.ux_walk.proofs.Collecting.{item_at, none_in, seen_all}
use Rattle.ux_walk.proofs.JoinsLemmas.{joins_none, joins_return, listed_kept, listed_return}
use Rattle.std.proofs.lemmas.List.Elements.{Contains-get_or}
use Rattle.ux_walk.proofs.joining.join_all.Goals as goal

abbrev nobody : Return
nobody = record { visit = 0; here = record { graph = 0; state = 0 }; events = 0 }

pub loop-waiting-init : goal.loop-waiting-init
loop-waiting-init c = λ listed. joins_none _ c.args.events.now.links.keys c.args.configs.now.keys
    listed.below (λ w f p. none_in w p.0)

pub loop-waiting-preserved : goal.loop-waiting-preserved
loop-waiting-preserved c = λ listed.
    let all = c.args.returns.now in
    let derived = c.args.derived.now in
    let index = c.loop-waiting.waiting-index in
    let inside = c.loop-waiting-test.true in
    let item = get_or all index nobody in
    let links = c.args.events.now.links.keys in
    let now = c.loop-waiting.invariant listed in
    joins_return links c.loop-waiting.events.links.keys c.join_each.new.events.links.keys
    c.args.configs.now.keys c.loop-waiting.configs.keys c.join_each.new.configs.keys all derived
    index item inside (item_at all index nobody inside) now
    (c.in_ok-join_each.ensures (listed_return c.loop-waiting.events.links.keys all derived
    item (Contains-get_or all index nobody inside) (listed_kept links
    c.loop-waiting.events.links.keys all derived now.events now.below listed)))

pub returns : goal.returns
returns c = λ listed. subst (λ (l : List Return). Joins (OfBoth l c.args.derived.now)
    c.args.events.now.links.keys c.loop-waiting.events.links.keys c.args.configs.now.keys
    c.loop-waiting.configs.keys)
    (seen_all c.args.returns.now c.loop-waiting.waiting-index c.loop-waiting-test.false)
    (c.loop-waiting.invariant listed)
