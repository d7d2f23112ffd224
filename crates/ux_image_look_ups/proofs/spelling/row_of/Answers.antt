use Rattle.std.proofs.Common.{rules, ◌≡◌, ℕ, List, get_or, length, subst, sym, ◌∙◌}
use Rattle.std.specs.Vec.Iter.{into_iter_items, into_iter_len}
use Rattle.std.proofs.lemmas.Iterator.Adapters.{YieldsList-from_vec}
use Rattle.std.proofs.lemmas.Iterator.Consumers.{YieldsList-end}
use Rattle.std.proofs.lemmas.List.{map-id}
use Rattle.ux_dawg.specs.Building.{bare}
use Rattle.ux_dawg.specs.declared.state.Edge.{Edge}
use Rattle.ux_image_look_ups.specs.Spelling.{Spells, TellsRow}
use Rattle.ux_image_look_ups.specs.declared.spelling.Link.{Link}
use Rattle.ux_image_look_ups.proofs.SpellingLemmas.{states-more}
use Rattle.ux_image_look_ups.proofs.spelling.row_of.Goals as goal

pub loop-state-preserved : goal.loop-state-preserved
loop-state-preserved c =
    let taken = c.args.taken.now in
    let behind = c.args.behind.now in
    states-more (λ s links. Spells taken behind (get_or c.args.states.now s bare).edges links)
    c.loop-state.yielded c.in-Some.state c.loop-state.row c.put_links.new.row
    c.loop-state.invariant
    (subst (λ (l : List Link). Spells taken behind
    (get_or c.args.states.now c.in-Some.state bare).edges l) (sym c.in_ok-put_links.ensures.here)
    (subst (λ (l : List Edge). Spells taken behind l c.in_ok-links_from.field-0.items)
    c.edges.ensures c.in_ok-links_from.ensures))
    c.in_ok-put_links.ensures.others

pub returns : goal.returns
returns c =
    let states = c.in_ok-state-items.state-items.items in
    let here : into_iter_items c.into_iter-state-iterator.result ≡ states = search rules in
    let long : into_iter_len c.into_iter-state-iterator.result ≡ length states = search rules in
    let end = YieldsList-end (YieldsList-from_vec states here long) c.loop-state.yielded
    c.loop-state.state-iterator c.loop-state.yielded_by c.next.result c.next.new.self c.in-None.is
    c.next.ensures.steps in
    subst (λ (l : List ℕ). TellsRow c.args.states.now c.args.taken.now c.args.behind.now l
    c.loop-state.row) (sym (map-id c.loop-state.yielded) ∙ end.0 ∙ c.in_ok-state-items.ensures)
    c.loop-state.invariant
