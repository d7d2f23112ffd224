use Rattle.std.proofs.Common.{◌∙◌, ℕ, ◌<◌, List, Bool, ap, length, subst, sym}
use Rattle.std.specs.List.{list_any}
use Rattle.ux_digraph.specs.Paths.{IsInside}
use Rattle.ux_digraph.specs.Rules.{is_marked_at}
use Rattle.ux_net.specs.Nets.{states_of}
use Rattle.ux_inflect.specs.Cyclic.{state_rows}
use Rattle.ux_inflect.specs.Endings.{AreRanksOf}
use Rattle.ux_inflect.specs.Surveys.{IsSurvey}
use Rattle.ux_inflect.proofs.EndingLemmas.{unreached, recursive, looping, ending_graph}
use Rattle.ux_inflect.proofs.RowsLemmas.{inner_inside}
use Rattle.ux_inflect.proofs.classes.ranks_of.Goals as goal

pub returns-then-not-is_marked : goal.returns-then-not-is_marked
returns-then-not-is_marked c =
    let net = c.args.net.now in
    let g = c.args.graph in
    let calls = c.args.calls.now in
    let found = ap (λ (m : List Bool). is_marked_at m g) (sym c.deref.ensures.value)
    ∙ (sym c.is_marked.ensures ∙ c.if-not-is_marked.true) in
    let u = unreached net g calls.reached.items calls.cyclic.items calls.ranks.items c.requires.calls c.requires.to found in (
      subst (λ (ranks : List ℕ). AreRanksOf net g ranks)
          (sym (c.new-then-not-is_marked.ensures ∙ c.new.ensures.items)) u.0,
      u.1,
    )

pub returns-then-is_marked : goal.returns-then-is_marked
returns-then-is_marked c =
    let net = c.args.net.now in
    let g = c.args.graph in
    let calls = c.args.calls.now in
    let found = ap (λ (m : List Bool). is_marked_at m g) (sym c.deref.ensures.value)
    ∙ (sym c.is_marked.ensures ∙ c.if-not-is_marked.false) in
    let again = ap (λ (m : List Bool). is_marked_at m g) (sym c.deref-2.ensures.value)
    ∙ (sym c.is_marked-2.ensures ∙ c.if-is_marked.true) in
    recursive net g calls.reached.items calls.cyclic.items calls.ranks.items c.requires.calls c.requires.to found again

pub search_from-requires-clause-inside : goal.search_from-requires-clause-inside
search_from-requires-clause-inside c =
    subst IsInside (sym (c.deref-3.ensures.value ∙ c.in_ok-rows.ensures.rows))
    (inner_inside (state_rows (states_of c.args.net.now c.args.graph)))

pub search_from-requires-clause-start : goal.search_from-requires-clause-start
search_from-requires-clause-start c =
    subst (λ (rows : List (List ℕ)). 0 < length rows) (sym c.deref-3.ensures.value)
    c.in_ok-rows.ensures.some

pub returns-then-is_any : goal.returns-then-is_any
returns-then-is_any c =
    let net = c.args.net.now in
    let g = c.args.graph in
    let calls = c.args.calls.now in
    let found = ap (λ (m : List Bool). is_marked_at m g) (sym c.deref.ensures.value)
    ∙ (sym c.is_marked.ensures ∙ c.if-not-is_marked.false) in
    let states = subst (λ (rows : List (List ℕ)). IsSurvey rows 0 c.in_ok-states.states)
    (c.deref-3.ensures.value ∙ c.in_ok-rows.ensures.rows) c.in_ok-states.ensures in
    let s = c.in_ok-states.states in
    let any = ap (λ (m : List Bool). list_any (λ (mark : Bool). mark) m) (sym c.deref-4.ensures.value)
    ∙ (sym c.is_any.ensures ∙ c.if-is_any.true) in
    looping net g calls.reached.items calls.cyclic.items calls.ranks.items c.requires.calls c.requires.to
    s.reached.items s.cyclic.items s.ranks.items states found any

pub returns : goal.returns
returns c =
    let net = c.args.net.now in
    let g = c.args.graph in
    let calls = c.args.calls.now in
    let again = ap (λ (m : List Bool). is_marked_at m g) (sym c.deref-2.ensures.value)
    ∙ (sym c.is_marked-2.ensures ∙ c.if-is_marked.false) in
    let states = subst (λ (rows : List (List ℕ)). IsSurvey rows 0 c.in_ok-states.states)
    (c.deref-3.ensures.value ∙ c.in_ok-rows.ensures.rows) c.in_ok-states.ensures in
    let s = c.in_ok-states.states in
    let any = ap (λ (m : List Bool). list_any (λ (mark : Bool). mark) m) (sym c.deref-4.ensures.value)
    ∙ (sym c.is_any.ensures ∙ c.if-is_any.false) in
    let e = ending_graph net g calls.reached.items calls.cyclic.items calls.ranks.items c.requires.calls c.requires.to
    s.reached.items s.cyclic.items s.ranks.items states again any in
    (subst (λ (ranks : List ℕ). AreRanksOf net g ranks) (sym c.new-2.ensures) e.0, e.1)
