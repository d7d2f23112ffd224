-- The steps by which code carries out a plan.
use Rattle.std.proofs.Common.{inl, inr, ℕ, List, Option, refl}
use Rattle.ux_base.specs.Outside.{Files, Seen, IsLater}
use Rattle.ux_plan.specs.declared.stop.Stop.{Stop}
use Rattle.ux_plan.specs.declared.stop.Stop.TheVariants.{NoMemory}
use Rattle.ux_plan.specs.Plans.{Comes, Format, Halts, Plan, Reads, StopsFile, StopsTest, gives, reads, tests, then}
use Rattle.ux_plan.proofs.PlanLaws.{gives_then, memory, stops_after, stops_first, stops_second}

pub comes_gives : (R : Type 0) {A : Type 0} (a : A) (told : Option Files) →
    Comes {R = R} (gives a) told a
unfolding Comes
comes_gives R a told = refl

module _ {R A : Type 0} where
  pub comes_read : {V : Type 0} (format : Format R V) (name : List ℕ) (rest : V → Plan R A)
      (told : Option Files) (v : V) (a : A) → Reads format name told v → Comes (rest v) told a →
      Comes (reads name format rest) told a
  unfolding Comes
  comes_read format name rest told v a has later = (v, has, later)

  pub comes_test : (Holds : Type 0) (Stops : Stop R → Type 0) (rest : Plan R A)
      (told : Option Files) (a : A) → Holds → Comes rest told a →
      Comes (tests Holds Stops rest) told a
  unfolding Comes
  comes_test Holds Stops rest told a holds later = (holds, later)

  pub comes_then : {B : Type 0} (plan : Plan R A) (rest : A → Plan R B) (told : Option Files) (a : A)
      (b : B) → Comes plan told a → Comes (rest a) told b → Comes (then plan rest) told b
  unfolding Comes
  comes_then plan rest told a b first second = gives_then rest plan told a b first second

  pub halts_memory : (plan : Plan R A) (old new : Seen) → Halts plan old new NoMemory
  unfolding Halts
  halts_memory plan old new = memory plan old new

  pub halts_at : {V : Type 0} (format : Format R V) (name : List ℕ) (rest : V → Plan R A)
      (old new : Seen) (stop : Stop R) → StopsFile format name old new stop →
      Halts (reads name format rest) old new stop
  unfolding Halts
  halts_at format name rest old new stop stops = inl stops

  pub halts_later : {V : Type 0} (format : Format R V) (name : List ℕ) (rest : V → Plan R A)
      (old mid new : Seen) (stop : Stop R) (v : V) → Reads format name old.files v →
      IsLater old mid → Halts (rest v) mid new stop → Halts (reads name format rest) old new stop
  unfolding Halts
  halts_later format name rest old mid new stop v has later stops =
      stops_after format name rest old mid new stop v has later stops

  pub halts_test : (Holds : Type 0) (Stops : Stop R → Type 0) (rest : Plan R A)
      (old new : Seen) (stop : Stop R) → StopsTest Stops stop →
      Halts (tests Holds Stops rest) old new stop
  unfolding Halts
  halts_test Holds Stops rest old new stop stops = inl stops

  pub halts_tested : (Holds : Type 0) (Stops : Stop R → Type 0) (rest : Plan R A)
      (old new : Seen) (stop : Stop R) → Holds → Halts rest old new stop →
      Halts (tests Holds Stops rest) old new stop
  unfolding Halts
  halts_tested Holds Stops rest old new stop holds stops = inr (holds, stops)

  pub halts_first : {B : Type 0} (plan : Plan R A) (rest : A → Plan R B) (old new : Seen)
      (stop : Stop R) → Halts plan old new stop → Halts (then plan rest) old new stop
  unfolding Halts
  halts_first plan rest old new stop stops = stops_first rest plan old new stop stops

  pub halts_second : {B : Type 0} (plan : Plan R A) (rest : A → Plan R B) (old mid new : Seen)
      (stop : Stop R) (a : A) → Comes plan old.files a → IsLater old mid →
      Halts (rest a) mid new stop → Halts (then plan rest) old new stop
  unfolding Comes Halts
  halts_second plan rest old mid new stop a first later stops =
      stops_second rest plan a old mid new stop first later stops

pub ruleset plan_steps = (comes_gives, comes_read, comes_test, comes_then, halts_memory, halts_at, halts_later, halts_test, halts_tested, halts_first, halts_second)
