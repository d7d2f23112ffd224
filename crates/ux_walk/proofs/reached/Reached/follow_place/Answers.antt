use Rattle.std.proofs.Common.{[], ◌∙◌, sym, subst}
use Rattle.std.proofs.lemmas.Option.{same_Some, none-some}
use Rattle.ux_net.specs.declared.state.Edge.{Edge}
use Rattle.ux_walk.specs.Courses.{IsOver}
use Rattle.ux_walk.proofs.Results.{on_ok}
use Rattle.ux_walk.proofs.Adding.{adds_of, nothing_of}
use Rattle.ux_base.proofs.FirstsLemmas.{Contains-from_place}
use Rattle.ux_mask_table.proofs.KnownLabels.{edge_known}
use Rattle.ux_walk.proofs.reached.Reached.follow_place.Goals as goal

pub follow-requires-clause-known : goal.follow-requires-clause-known
follow-requires-clause-known g c =
    edge_known c.args.masked.now c.args.edges.now c.in-Some.edge.now c.requires.known
    (Contains-from_place c.args.edges.now c.args.place c.in-Some.edge.now (sym c.in-Some.ensures))

pub follow-requires-clause-asked : goal.follow-requires-clause-asked
follow-requires-clause-asked g c = c.requires.asked c.in-Some.edge.now
    (Contains-from_place c.args.edges.now c.args.place c.in-Some.edge.now (sym c.in-Some.ensures))

pub returns-in-Some : goal.returns-in-Some
returns-in-Some g c = on_ok c.follow.result _ _ (λ adds v before sound spells.
    adds_of v _ _ c.args.self.now c.follow.new.self (adds v before sound spells) (λ w. (
      λ over. (c.in-Some.edge.now, sym c.in-Some.ensures, over),
      λ at. subst (λ (e : Edge). IsOver c.args.masked.now.alphabet.now c.args.masked.now.text.now
          c.args.masked.now.applied.now (g.C.Contexts.applies c.args.contexts.now)
          c.args.config.here [] c.args.config.at before e w)
          (same_Some at.0 c.in-Some.edge.now (sym at.1 ∙ sym c.in-Some.ensures)) at.2,
    ))) c.follow.ensures

pub returns-in-None : goal.returns-in-None
returns-in-None g c = λ v before sound spells.
    nothing_of v _ c.args.self.now sound (λ w at. none-some at.0 (c.in-None.ensures ∙ at.1))
