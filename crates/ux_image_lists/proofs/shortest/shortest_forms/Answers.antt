use Rattle.std.proofs.Common.{arith, rules, ◌≡◌, ◌+◌, ◌<◌, ◌∙◌, List, ℕ, ap, get_or, length, subst, sym}
use Rattle.std.proofs.lemmas.List.{get_or_read}
use Rattle.ux_dawg.specs.Building.{bare}
use Rattle.ux_dawg.proofs.FlatLemmas.{read_state, state_stands}
use Rattle.ux_image_lists.specs.Depths.{lowered_at, AreLeast}
use Rattle.ux_image_lists.proofs.DepthLemmas.{refill}
use Rattle.ux_image_lists.proofs.ShortestLemmas.{least_more, list_within, shortest_are, some_within}
use Rattle.ux_image_lists.proofs.shortest.shortest_forms.Goals as goal

pub lower_list-requires : goal.lower_list-requires
lower_list-requires c =
    let states = c.args.states.now in
    let number = c.loop-number.number in
    let less : number < length states = omega arith in
    some_within c.code.result c.args.lists (length c.deref_mut.result.now)
    (λ list code. list_within c.args.lists states c.requires.accepted number list
    (get_or states number bare) less (read_state states number less)
    (sym c.code.ensures ∙ code))
    (ap (length {A = ℕ}) c.deref_mut.ensures.value ∙ c.loop-number.invariant.long)

pub loop-number-preserved : goal.loop-number-preserved
loop-number-preserved c =
    let states = c.args.states.now in
    let depths = c.in_ok-depths.depths.items in
    let old = c.loop-number.shortest.items in
    let new = c.lower_list.new.shortest in
    let number = c.loop-number.number in
    let s = get_or states number bare in
    let less : number < length states = omega arith in
    let stands = state_stands states number less in
    let long = c.in_ok-depths.ensures.long in
    let read = get_or_read depths number c.index.result.now (omega (arith, less, long))
    c.index.ensures 0 in
    let is = c.lower_list.ensures
    ∙ ap (λ code. lowered_at c.deref_mut.result.now code c.index.result.now) c.code.ensures
    ∙ ap (λ (l : List ℕ). lowered_at l s.code c.index.result.now) c.deref_mut.ensures.value
    ∙ ap (λ n. lowered_at old s.code n) read in
    let more = least_more states depths number c.args.lists s old new c.loop-number.invariant stands
    (λ list code. list_within c.args.lists states c.requires.accepted number list s less
    (read_state states number less) code) is in
    let all : c.loop-number.shortest.len ≡ length old = search rules in
    subst (AreLeast states depths (number + 1) c.args.lists)
    (sym (refill c.loop-number.shortest.len new old
    (more.long ∙ sym c.loop-number.invariant.long) all)) more

pub returns : goal.returns
returns c =
    let states = c.args.states.now in
    let all : c.loop-number.number ≡ length states = omega arith in
    shortest_are states c.args.lists c.in_ok-depths.depths.items c.loop-number.shortest.items
    c.requires.accepted c.requires.automaton.fit c.requires.automaton.few c.in_ok-depths.ensures
    (subst (λ n. AreLeast states c.in_ok-depths.depths.items n c.args.lists
    c.loop-number.shortest.items) all c.loop-number.invariant)
