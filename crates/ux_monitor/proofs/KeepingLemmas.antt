-- What satisfies under one name of the same lists is left under the other.
use Rattle.std.proofs.Common.{arith, ◌≡◌, ℕ, ◌<◌, ◌^◌, List, [], ◌∷◌, ◌++◌, ◌↔◌, Option, None, Some, refl, sym, ◌∙◌, ap, subst}
use Rattle.std.specs.Prelude.{Contains, IfSome, IfNone, IsTrue, slice_get}
use Rattle.std.proofs.lemmas.Option.{get_or_from_slice_get, slice_get_within}
use Rattle.std.proofs.lemmas.List.Elements.{Contains-get_or}
use Rattle.ux_subsets.specs.declared.automaton.Link.{Link}
use Rattle.ux_subsets.specs.Paths.{IsLeft}
use Rattle.ux_subsets.specs.Machines.{Grows, StandsFor}
use Rattle.ux_subsets.proofs.InterningLemmas.{interned}
use Rattle.ux_monitor.specs.declared.rule.Step.{Step}
use Rattle.ux_monitor.specs.declared.watching.Seen.{Seen}
use Rattle.ux_monitor.specs.Rules.{PassesAt, SatisfiesBy}
use Rattle.ux_monitor.specs.Monitors.{Monitored, WatchesBy, kind_at, watched}
use Rattle.ux_monitor.specs.Owing.{TellsWell}
use Rattle.ux_monitor.specs.Remembering.{BeginsAs, KeepsNumbers, LeadsTo}
use Rattle.ux_monitor.specs.Naming.{StandsBeside, Watching, name_of}
use Rattle.ux_monitor.proofs.NamingLemmas.{same_name}
use Rattle.ux_monitor.proofs.NumbersLemmas.{watches_same}
use Rattle.ux_monitor.proofs.PassingLemmas.{watches_advanced}
use Rattle.ux_monitor.proofs.WatchingLemmas.{accepts_iff, watches_first}
use Rattle.ux_monitor.proofs.WordsLemmas.{both_ways}

pub left_same : (S T : List ℕ → Type 0) → ((w : List ℕ) → S w ↔ T w) → (last : ℕ) (links : List Link) (last' : ℕ) (links' : List Link) →
    IsLeft S last links last' links' → IsLeft T last links last' links'
left_same S T same last links last' links' l = record {
  some = l.some;
  exact = λ w. (
    λ h. let x = (l.exact w).0 h in (x.0, (same w).0 x.1),
    λ h. (l.exact w).1 (h.0, (same w).1 h.1),
  );
  once = l.once;
  apart = l.apart;
  apart_before = l.apart_before;
  on_path = l.on_path;
  ascending = l.ascending;
}

pub some_left : {A : Type 0} (answer : Option A) (P Q : A → Type 0) → ((x : A) → P x → Q x) → IfSome answer P → IfSome answer Q
some_left None P Q tells h = tt
some_left (Some x) P Q tells h = tells x h

pub none_left : {A : Type 0} (answer : Option A) (P Q : Type 0) → (P → Q) → IfNone answer P → IfNone answer Q
none_left None P Q tells h = tells h
none_left (Some x) P Q tells h = tt

abbrev pub watching : Monitored → (table : List (List ℕ)) → List Seen → Watching
watching over table states = record { over = over; table = table; states = states }

abbrev pub SatisfiesOf : Watching → List ℕ → Type 0
SatisfiesOf watch = SatisfiesBy watch.over.rule watch.table

-- what is seen more keeps the meaning of the numbers
pub beside_grows : (over : Monitored) (table : List (List ℕ)) (old new : List Seen) →
    KeepsNumbers old new → Grows (StandsBeside (watching over table old))
    (StandsBeside (watching over table new)) (SatisfiesOf (watching over table old))
    (SatisfiesOf (watching over table new))
beside_grows over table old new kept =
    let grows = interned (WatchesBy over.rule table) (SatisfiesBy over.rule table) old new kept in
    record {
      kept = λ q w s. record { state = λ lt. grows.kept q w (s.state lt); name = s.name };
      only = λ q u w s t. record {
        state = λ lt. grows.only q u w (s.state lt) (t.state lt);
        name = t.name;
      };
      meant = grows.meant;
    }

-- what a number stands for, below those that stand for the name
pub beside_state : (watch : Watching) (number : ℕ) (list : List ℕ) → number < 2 ^ 64 →
    StandsFor (WatchesBy watch.over.rule watch.table) watch.states number list →
    StandsBeside watch number list
beside_state watch number list small stands = record {
  state = λ lt. stands;
  name = λ past. absurd (omega (arith, small, past));
}

-- a watch is over the same rule and kinds after a pass
pub over_same : (old new : Watching) → Grows (StandsBeside old) (StandsBeside new)
    (SatisfiesOf old) (SatisfiesOf new) → old.over ≡ new.over
over_same old new grows =
    let named : StandsBeside old (2 ^ 64) (name_of old.over) = record {
      state = λ lt. absurd (omega (arith, lt));
      name = λ past. refl;
    } in
    let after = grows.kept (2 ^ 64) (name_of old.over) named in
    same_name old.over new.over (after.name (omega arith))

-- the monitor begins
pub begins : (over : Monitored) (table : List (List ℕ)) (seen : Seen) →
    BeginsAs over.rule.steps seen → WatchesBy over.rule table seen []
begins over table seen b =
    let rule = over.rule in
    watches_same rule.steps rule.ends (PassesAt table) b.0 seen b.2 []
    (watches_first rule.steps rule.ends (PassesAt table) b.0 b.1)

-- and goes on by a reading that passes just these tests
pub goes_on : (over : Monitored) (table : List (List ℕ)) (reading : ℕ) (tests : List ℕ) →
    kind_at table reading ≡ tests → (seen later : Seen) →
    LeadsTo over.rule.steps over.rule.ends tests seen later → (before : List ℕ) →
    WatchesBy over.rule table seen before →
    WatchesBy over.rule table later (before ++ reading ∷ [])
goes_on over table reading tests is seen later leads before w =
    let rule = over.rule in
    let passes = PassesAt table in
    let tells : (t : ℕ) → Contains tests t ↔ passes t reading = λ t. (
      λ h. subst (λ (xs : List ℕ). Contains xs t) (sym is) h,
      λ h. subst (λ (xs : List ℕ). Contains xs t) is h,
    ) in
    watches_same rule.steps rule.ends passes leads.0 later leads.2 (before ++ reading ∷ [])
    (watches_advanced rule.steps rule.ends passes tests reading tells seen leads.0 before w leads.1)

-- what is seen tells whether the list satisfies
pub tells_satisfied : (over : Monitored) (table : List (List ℕ)) (seen : Seen) →
    TellsWell over.rule.steps over.rule.ends seen → (list : List ℕ) →
    WatchesBy over.rule table seen list → IsTrue seen.is_accepted ↔ SatisfiesBy over.rule table list
tells_satisfied over table seen tells list w =
    let rule = over.rule in
    both_ways tells (accepts_iff rule.steps rule.ends (PassesAt table) seen list w)

pub at_in : (states : List Seen) (number : ℕ) (seen : Seen) → slice_get states number ≡ Some seen →
    Contains states seen
at_in states number seen at =
    subst (λ (s : Seen). Contains states s) (get_or_from_slice_get states number seen seen at)
    (Contains-get_or states number seen (slice_get_within states number seen at))

pub watched_same : (m : Monitored) (steps : List Step) (ends : List ℕ) (kinds : List (List ℕ)) →
    steps ≡ m.rule.steps → ends ≡ m.rule.ends → kinds ≡ m.kinds → watched steps ends kinds ≡ m
watched_same m steps ends kinds same_steps same_ends same_kinds =
    ap (λ (x : List Step). watched x ends kinds) same_steps
    ∙ ap (λ (x : List ℕ). watched m.rule.steps x kinds) same_ends
    ∙ ap (λ (x : List (List ℕ)). watched m.rule.steps m.rule.ends x) same_kinds
