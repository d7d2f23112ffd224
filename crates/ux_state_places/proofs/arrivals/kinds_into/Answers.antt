use Rattle.std.proofs.Common.{arith, ◌≡◌, ◌∙◌, ◌⊎◌, ◌↔◌, inl, inr, List, [], length, refl, subst}
use Rattle.std.specs.Prelude.{Contains, slice_get, Some}
use Rattle.std.proofs.lemmas.Option.{slice_get_read}
use Rattle.ux_base.proofs.Lists.{nothing_in}
use Rattle.ux_net.specs.declared.state.Edge.{Edge}
use Rattle.ux_state_places.specs.Arriving.{kinds_at, IsLedInto, IsOfOne}
use Rattle.ux_state_places.proofs.ArrivingLemmas.{below_next, below_done}
use Rattle.ux_state_places.proofs.arrivals.kinds_into.Goals as goal

pub put_kinds-requires : goal.put_kinds-requires
put_kinds-requires c =
    let at : slice_get c.args.states.now c.loop-state.state-index ≡ Some c.state-item.result =
    slice_get_read c.args.states.now (length c.args.states.now) c.loop-state.state-index
    c.state-item.result refl c.loop-state-test.true c.state-item.is in
    let len = c.loop-state.invariant.len in
    record {
      inside = λ edge h.
          let inside = c.requires.inside c.loop-state.state-index c.state-item.result edge at
          (subst (λ (es : List Edge). Contains es edge) c.as_slice.ensures h) in
          omega (arith, inside, len);
    }

pub loop-state-preserved : goal.loop-state-preserved
loop-state-preserved c =
    let at : slice_get c.args.states.now c.loop-state.state-index ≡ Some c.state-item.result =
    slice_get_read c.args.states.now (length c.args.states.now) c.loop-state.state-index
    c.state-item.result refl c.loop-state-test.true c.state-item.is in
    record {
      len = c.in_ok-put_kinds.ensures.len ∙ c.loop-state.invariant.len;
      kinds = λ n kind. below_next c.args.states.now
          (λ state. IsOfOne state.edges (IsLedInto n kind)) (Contains (kinds_at [] n) kind)
          (Contains (kinds_at c.loop-state.rows.items n) kind)
          (Contains (kinds_at c.put_kinds.new.rows.items n) kind) c.loop-state.state-index
          c.state-item.result at (c.loop-state.invariant.kinds n kind)
          (subst (λ (es : List Edge). Contains (kinds_at c.put_kinds.new.rows.items n) kind ↔
          (Contains (kinds_at c.loop-state.rows.items n) kind ⊎ IsOfOne es (IsLedInto n kind)))
          c.as_slice.ensures (c.in_ok-put_kinds.ensures.kinds n kind));
    }

pub returns-clause-kinds : goal.returns-clause-kinds
returns-clause-kinds c = λ n kind.
    let all = below_done c.args.states.now (λ state. IsOfOne state.edges (IsLedInto n kind))
    (Contains (kinds_at [] n) kind) (Contains (kinds_at c.loop-state.rows.items n) kind)
    c.loop-state.state-index c.loop-state-test.false (c.loop-state.invariant.kinds n kind) in (
      λ h. elim (all.0 h) [
        | inl none ↦ absurd (nothing_in {x = kind} none)
        | inr so ↦ so
      ],
      λ so. all.1 (inr so),
    )
