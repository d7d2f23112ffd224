use Rattle.std.proofs.Common.{◌∙◌, List, inl, inr, sym, subst}
use Rattle.std.specs.Prelude.{Contains}
use Rattle.std.proofs.lemmas.Option.{same_Some, none-some}
use Rattle.ux_net.specs.declared.state.Edge.{Edge}
use Rattle.ux_base.proofs.FirstsLemmas.{Contains-from_place}
use Rattle.ux_chart.specs.Places.{Follows}
use Rattle.ux_chart.proofs.following.follow_place.Goals as goal

pub follow-requires-clause-inside : goal.follow-requires-clause-inside
follow-requires-clause-inside g c =
    let (state, found, is) = c.requires.edges in (
      state,
      found,
      subst (λ (xs : List Edge). Contains xs c.in-Some.edge.now) (sym is)
          (Contains-from_place c.args.edges.now c.args.place c.in-Some.edge.now (sym c.in-Some.ensures)),
    )

pub follow-requires-clause-known : goal.follow-requires-clause-known
follow-requires-clause-known g c =
    let (state, found, is) = c.requires.edges in
    c.requires.known c.args.graph c.args.from.state state c.in-Some.edge.now found
    (subst (λ (xs : List Edge). Contains xs c.in-Some.edge.now) (sym is)
    (Contains-from_place c.args.edges.now c.args.place c.in-Some.edge.now (sym c.in-Some.ensures)))

pub returns-in-Some : goal.returns-in-Some
returns-in-Some g c = λ w. (
  λ h. elim ((c.in_ok-follow-in-Some.ensures w).0 h) [
    | inl old ↦ inl old
    | inr follows ↦ inr (c.in-Some.edge.now, sym c.in-Some.ensures, follows)
  ],
  λ h. (c.in_ok-follow-in-Some.ensures w).1 (elim h [
    | inl old ↦ inl old
    | inr (edge, there, follows) ↦ inr (subst
        (λ (e : Edge). Follows (g.B.Basis.input c.args.basis.now) c.args.net.now
        c.args.parts.now.levels c.args.graph c.args.from e w)
        (same_Some edge c.in-Some.edge.now (sym there ∙ sym c.in-Some.ensures)) follows)
  ]),
)

pub returns-in-None : goal.returns-in-None
returns-in-None g c = λ w. (
  λ h. inl h,
  λ h. elim h [
    | inl old ↦ old
    | inr (edge, there, follows) ↦ absurd (none-some edge (c.in-None.ensures ∙ there))
  ],
)
