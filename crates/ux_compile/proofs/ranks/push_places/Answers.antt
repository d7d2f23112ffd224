use Rattle.std.proofs.Common.{[], ◌∷◌, ◌++◌, ◌∙◌, ap, cond}
use Rattle.ux_admission.specs.Admission.{place_rank, is_place_free}
use Rattle.ux_compile.specs.Construct.{has_state, at_place}
use Rattle.ux_compile.specs.Ranks.{above}
use Rattle.ux_base.proofs.JoinedLists.{adds_list}
use Rattle.ux_compile.proofs.ranks.push_places.Goals as goal

pub loop-place-preserved : goal.loop-place-preserved
loop-place-preserved c =
    let ranks = c.args.admission.now.ranks.items in
    let free = c.args.admission.now.free.items in
    let has = has_state c.args.places.now c.loop-place.place in
    record {
      ranked = adds_list
          (at_place c.args.places.now (λ a. above (place_rank ranks c.args.graph a)))
          c.args.state_ranks.now.items c.loop-place.state_ranks.items
          c.push_place.new.state_ranks.items c.loop-place.place
          c.loop-place.invariant.ranked
          (c.in_ok-push_place.ensures.ranks
          ∙ ap (λ rank. c.loop-place.state_ranks.items ++ cond has (above rank ∷ []) [])
          c.place_rank.ensures.rank);
      marked = adds_list (at_place c.args.places.now (is_place_free free c.args.graph))
          c.args.state_frees.now.items c.loop-place.state_frees.items
          c.push_place.new.state_frees.items c.loop-place.place
          c.loop-place.invariant.marked
          (c.in_ok-push_place.ensures.free
          ∙ ap (λ mark. c.loop-place.state_frees.items ++ cond has (mark ∷ []) [])
          c.is_place_free.ensures);
    }
