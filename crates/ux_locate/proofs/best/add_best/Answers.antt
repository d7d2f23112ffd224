use Rattle.std.proofs.Common.{arith, ◌≡◌, List, [], ◌∷◌, ◌++◌, ap, inl, inr, subst, sym, ◌∙◌}
use Rattle.std.specs.Prelude.{Contains, Some, slice_get}
use Rattle.std.proofs.lemmas.Option.{slice_get_cases}
use Rattle.ux_base.proofs.FirstsLemmas.{Contains-from_place}
use Rattle.ux_outputs.specs.declared.hit.Hit.{Hit}
use Rattle.ux_locate.specs.Keeping.{AreBest, last_of}
use Rattle.ux_locate.proofs.BestLemmas.{best_anew, best_even, best_more, best_stays, seen_more}
use Rattle.ux_locate.proofs.best.add_best.Goals as goal

pub returns-in-Less : goal.returns-in-Less
returns-in-Less c seen are =
    let best = c.args.best.now.items in
    let hit = c.args.hit in
    let worse = c.in-Less.ensures in
    let place = subst (λ (l : List Hit). slice_get l 0 ≡ Some worse.0) c.as_slice.ensures.value
    worse.1 in
    best_stays c.args.policy last_of (Contains seen) (Contains (seen ++ hit ∷ [])) hit
    (seen_more seen hit) best are worse.0 (Contains-from_place best 0 worse.0 place) worse.2

pub returns-in_ok-push-in-Equal : goal.returns-in_ok-push-in-Equal
returns-in_ok-push-in-Equal c seen are =
    let best = c.args.best.now.items in
    let hit = c.args.hit in
    let even = c.in-Equal.ensures in
    let more = λ (l : List Hit). AreBest c.args.policy last_of (Contains (seen ++ hit ∷ [])) l in
    subst more (sym c.in_ok-push-in-Equal.ensures.items) (elim ((slice_get_cases best 0).1) [
      | inl (y, lt, e, same) ↦
          let rank = even y (subst (λ (l : List Hit). slice_get l 0 ≡ Some y)
          (sym c.as_slice.ensures.value) e) in
          best_even c.args.policy last_of (Contains seen) (Contains (seen ++ hit ∷ [])) hit
          (seen_more seen hit) best are y (Contains-from_place best 0 y e) rank.0 rank.1
      | inr (past, none) ↦
          best_more c.args.policy last_of (Contains seen) (Contains (seen ++ hit ∷ [])) hit
          (seen_more seen hit) best are (λ y in'. absurd (omega (arith, past, in'.1)))
    ])

pub returns-in_ok-push-in-Greater : goal.returns-in_ok-push-in-Greater
returns-in_ok-push-in-Greater c seen are =
    let best = c.args.best.now.items in
    let hit = c.args.hit in
    let better = c.in-Greater.ensures in
    let place = subst (λ (l : List Hit). slice_get l 0 ≡ Some better.0) c.as_slice.ensures.value
    better.1 in
    let only = c.in_ok-push-in-Greater.ensures.items
    ∙ ap (λ (l : List Hit). l ++ hit ∷ []) c.clear.ensures.items in
    subst (λ (l : List Hit). AreBest c.args.policy last_of (Contains (seen ++ hit ∷ [])) l)
    (sym only) (best_anew c.args.policy last_of (Contains seen) (Contains (seen ++ hit ∷ [])) hit
    (seen_more seen hit) best are better.0 (Contains-from_place best 0 better.0 place) better.2)
