use Rattle.std.proofs.Common.{◌≡◌, List, get_or, subst, [], ◌∷◌}
use Rattle.std.specs.Prelude.{Contains}
use Rattle.ux_walk.specs.declared.config.Found.{Found}
use Rattle.ux_walk.specs.Joins.{Joins}
use Rattle.ux_walk.proofs.Collecting.{item_at, none_in, seen_all}
use Rattle.ux_walk.proofs.JoinsLemmas.{joins_found, joins_none, listed_found, listed_kept}
use Rattle.std.proofs.lemmas.List.Elements.{Contains-get_or}
use Rattle.ux_walk.proofs.joining.join_each.Goals as goal

abbrev nothing : Found
nothing = record { end = 0; events = 0 }

pub loop-found-init : goal.loop-found-init
loop-found-init c = λ listed. joins_none _ c.args.events.now.links.keys c.args.configs.now.keys
    listed.below (λ w f p. none_in f p.1)

pub loop-found-preserved : goal.loop-found-preserved
loop-found-preserved c = λ listed.
    let all = c.args.derived.now in
    let index = c.loop-found.found-index in
    let inside = c.loop-found-test.true in
    let item = get_or all index nothing in
    let links = c.args.events.now.links.keys in
    let now = c.loop-found.invariant listed in
    joins_found links c.loop-found.events.links.keys c.join.new.events.links.keys
    c.args.configs.now.keys c.loop-found.configs.keys c.join.new.configs.keys c.args.waiting all
    index item inside (item_at all index nothing inside) now
    (c.in_ok-join.ensures (listed_found c.loop-found.events.links.keys (c.args.waiting ∷ []) all
    item (Contains-get_or all index nothing inside) (listed_kept links
    c.loop-found.events.links.keys (c.args.waiting ∷ []) all now.events now.below listed)))

pub returns : goal.returns
returns c = λ listed. subst (λ (l : List Found). Joins (λ w f.
    (w ≡ c.args.waiting) × Contains l f) c.args.events.now.links.keys
    c.loop-found.events.links.keys c.args.configs.now.keys c.loop-found.configs.keys)
    (seen_all c.args.derived.now c.loop-found.found-index c.loop-found-test.false)
    (c.loop-found.invariant listed)
