-- Plans at small values: what stops them by their files, and a list of plans.
use Rattle.std.proofs.Common.{arith, ◌≡◌, ℕ, List, [], ◌∷◌, None, codes, inl, inr, refl}
use Rattle.std.specs.Prelude.{⊤}
use Rattle.ux_base.specs.Outside.{Files}
use Rattle.ux_plan.specs.declared.stop.Stop.{Stop}
use Rattle.ux_plan.specs.declared.stop.Stop.TheVariants.{Absent, TooLarge}
use Rattle.ux_plan.specs.Plans.{Comes, Plan, all, bytes_format, gives, reads, tests}
use Rattle.ux_plan.specs.Stopping.{Stopped}

-- the plan that reads the file `a`, and then tests that it has no bytes
abbrev read_empty : Plan ⊤ (List ℕ)
read_empty =
    reads (codes "a") bytes_format (λ bytes.
    tests (bytes ≡ []) (λ stop. (stop ≡ TooLarge (codes "a")) × (bytes ≡ [] → ⊥)) (gives bytes))

-- without the file it is stopped there
absent_stops : Stopped read_empty [] (Absent (codes "a"))
unfolding Stopped
absent_stops = inl (refl, refl)

-- with bytes in it, by the test, which may tell any stop
test_stops : Stopped read_empty ((codes "a", 97 ∷ []) ∷ []) (TooLarge (codes "a"))
unfolding Stopped
test_stops = inr (
  97 ∷ [],
  record {
    file = 97 ∷ [];
    has = record { bytes = refl; short = omega arith };
    is = refl;
  },
  inl (refl, λ is. cc),
)

-- two plans, one after the other
two_come : Comes (all {R = ⊤} (λ (n : ℕ). gives n) (1 ∷ 2 ∷ [])) None (1 ∷ 2 ∷ [])
unfolding all Comes
two_come = refl
