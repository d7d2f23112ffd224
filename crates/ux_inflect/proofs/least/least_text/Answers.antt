use Rattle.std.proofs.Common.{arith, ◌∙◌, ℕ, List, [], ap, get_or, subst, sym, None}
use Rattle.std.specs.Prelude.{Option}
use Rattle.ux_inflect.specs.Ways.{lists_in, lists_of, AreReady, IsBest, IsTaken}
use Rattle.ux_inflect.proofs.TurnsLemmas.{all_turns, length_lists, next_turn, ready_turn}
use Rattle.ux_inflect.proofs.least.least_text.Goals as goal

pub loop-turn-init : goal.loop-turn-init
loop-turn-init c = (c.in_ok-best.ensures, λ j u less at. absurd (omega (arith, less)))

pub loop-turn-preserved : goal.loop-turn-preserved
loop-turn-preserved c =
    let links = lists_of c.args.links.now in
    let turns = lists_in c.in_ok-turns.turns.items in
    let row = c.row_of.ensures
    ∙ ap (λ (l : List _). get_or (lists_in l) c.loop-turn.turn []) c.deref.ensures.value in
    let taken = subst (λ (nodes : List ℕ). IsTaken links c.args.wanted.now nodes
    c.loop-turn.best.items c.take_turn.new.best.items) row c.in_ok-take_turn.ensures in (
      taken.len ∙ c.loop-turn.invariant.0,
      next_turn links c.args.wanted.now turns c.loop-turn.turn c.loop-turn.best.items
          c.take_turn.new.best.items taken c.loop-turn.invariant.1,
    )

pub take_turn-requires : goal.take_turn-requires
take_turn-requires c =
    let links = lists_of c.args.links.now in
    let turns = lists_in c.in_ok-turns.turns.items in
    let row = c.row_of.ensures
    ∙ ap (λ (l : List _). get_or (lists_in l) c.loop-turn.turn []) c.deref.ensures.value in
    subst (λ (nodes : List ℕ). AreReady links c.args.wanted.now nodes c.loop-turn.best.items) (sym row)
    (ready_turn links c.args.wanted.now turns c.in_ok-turns.ensures c.loop-turn.turn
    c.loop-turn.best.items
    (let len = length_lists c.args.links.now in
    let l = c.loop-turn.invariant.0 in omega (arith, len, l))
    c.loop-turn.invariant.1)

pub returns : goal.returns
returns c =
    let links = lists_of c.args.links.now in
    let best = c.loop-turn.best.items in
    let len = length_lists c.args.links.now in
    subst (λ (text : Option (List ℕ)). IsBest links c.args.wanted.now 0 text)
    (sym (c.in_ok-text.ensures
    ∙ ap (λ (b : List (Option (List ℕ))). get_or b 0 None) c.deref-2.ensures.value))
    (all_turns links c.args.wanted.now (lists_in c.in_ok-turns.turns.items) c.in_ok-turns.ensures
    c.loop-turn.turn best (omega (arith, len, c.loop-turn-test.false))
    (let some = c.requires.some in omega (arith, len, some)) c.loop-turn.invariant.1)
