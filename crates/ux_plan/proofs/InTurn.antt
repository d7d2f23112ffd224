-- A list of plans, each carried out after the one before it.
use Rattle.std.proofs.Common.{List, [], ◌∷◌, ◌++◌, Option, refl}
use Rattle.std.specs.List.{AllZip}
use Rattle.ux_base.specs.Outside.{Files, Seen, IsLater}
use Rattle.ux_plan.specs.declared.stop.Stop.{Stop}
use Rattle.ux_plan.specs.Plans.{Comes, Halts, Plan, all, gives, then}
use Rattle.ux_plan.proofs.PlanLaws.{earlier, gives_then, stops_first, stops_then}

module _ {R V N : Type 0} (plan : N → Plan R V) where
  -- what is read after the first
  abbrev rest : List N → V → Plan R (List V)
  rest others v = then (all plan others) (λ values. gives (v ∷ values))

  -- each plan comes to its value, so all come to the list
  pub all_come : (told : Option Files) (names : List N) (values : List V) →
      AllZip (λ name v. Comes (plan name) told v) names values →
      Comes (all plan names) told values
  unfolding all Comes
  all_come told [] [] each = refl
  all_come told [] (v ∷ values) each = absurd each
  all_come told (one ∷ others) [] each = absurd each
  all_come told (one ∷ others) (v ∷ values) each =
      gives_then (rest others) (plan one) told v (v ∷ values) each.0
      (gives_then (λ more. gives (v ∷ more)) (all plan others) told values (v ∷ values)
      (all_come told others values each.1) refl)

  -- after plans that came to their values, what stops the next stops the whole
  pub all_halt : (before later : List N) (next : N) (values : List V) (old new : Seen)
      (stop : Stop R) → AllZip (λ name v. Comes (plan name) old.files v) before values →
      Halts (plan next) old new stop → Halts (all plan (before ++ next ∷ later)) old new stop
  unfolding all
  all_halt [] later next values old new stop each stops =
      stops_first (rest later) (plan next) old new stop stops
  all_halt (one ∷ before) later next [] old new stop each stops = absurd each
  all_halt (one ∷ before) later next (v ∷ values) old new stop each stops =
      stops_then (rest (before ++ next ∷ later)) (plan one) v old new stop each.0
      (stops_first (λ more. gives (v ∷ more)) (all plan (before ++ next ∷ later)) old new stop
      (all_halt before later next values old new stop each.1 stops))

  -- the same where the folder is later
  pub all_halt_later : (before others : List N) (next : N) (values : List V) (old mid new : Seen)
      (stop : Stop R) → IsLater old mid →
      AllZip (λ name v. Comes (plan name) old.files v) before values →
      Halts (plan next) mid new stop → Halts (all plan (before ++ next ∷ others)) old new stop
  all_halt_later before others next values old mid new stop later each stops =
      all_halt before others next values old new stop each
      (earlier (plan next) old mid new stop later stops)
