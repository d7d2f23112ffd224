use Rattle.std.proofs.Common.{List, ◌++◌, ◌∷◌, [], ◌∙◌, subst, sym, ap}
use Rattle.std.specs.Prelude.{All}
use Rattle.std.proofs.lemmas.List.Elements.{All-push}
use Rattle.ux_image_reader.specs.declared.visit.Frame.{Frame}
use Rattle.ux_image_reader.specs.Visiting.{below, left_at_end, IsFrame}
use Rattle.ux_image_reader.proofs.VisitingLemmas.{goes_down, is_left}
use Rattle.ux_image_reader.proofs.visit.leave_next.Goals as goal

pub loop-behind-preserved : goal.loop-behind-preserved
loop-behind-preserved c =
    let states = c.args.states.now in
    let to = c.in-Some.ensures in
    let pushed = c.in_ok-push.ensures.items in
    let old = c.loop-behind.stack.items in (
      to.into_frame,
      subst (λ (l : List Frame). All (IsFrame states) l) (sym pushed)
          (All-push (IsFrame states) old c.in-Some.behind c.loop-behind.invariant.1
          to.behind_frame),
      c.loop-behind.invariant.2
          ∙ goes_down states c.args.left old c.loop-behind.frame c.in-Some.behind c.in-Some.below to
          ∙ ap (λ (l : List Frame). left_at_end states (l ++ c.in-Some.below ∷ [])
          (below c.args.left)) (sym pushed),
    )

pub returns : goal.returns
returns c = record {
  on = c.loop-behind.invariant.2 ∙ is_left c.args.states.now c.args.left c.loop-behind.stack.items
      c.loop-behind.frame c.in_default.ensures;
  frames = c.loop-behind.invariant.1;
}
