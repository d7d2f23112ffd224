use Rattle.std.proofs.Common.{◌≡◌, ◌-◌, ap, refl, set, get_or, rules}
use Rattle.ux_subsets.specs.declared.automaton.Link.{Link}
use Rattle.ux_subsets.specs.Paths.{link, back}
use Rattle.ux_subsets.proofs.SpellingLemmas.{same_link}
use Rattle.ux_subsets.proofs.TurningLemmas.{changed_more}
use Rattle.ux_subsets.proofs.automaton.turn_each.Goals as goal

pub loop-place-preserved : goal.loop-place-preserved
loop-place-preserved c =
    let d : Link = link 0 0 0 in
    let now = c.loop-place.links in
    let i = c.loop-place.place in
    let last = c.args.last in
    let from : c.saturating_sub.result ≡ last - (get_or now i d).to = search rules in
    let to : c.saturating_sub-in-loop-place.result ≡ last - (get_or now i d).from = search rules in
    changed_more (back last) c.args.links.now now _ i d c.loop-place-test.true c.loop-place.invariant
    (ap (λ (l : Link). set now i l) (same_link _ _ _ _ _ _ from to refl))
