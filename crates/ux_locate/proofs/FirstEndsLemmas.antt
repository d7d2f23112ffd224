-- Of the ends that a policy asks for, it keeps those that it would keep of all ends.
use Rattle.std.proofs.Common.{arith, ◌≡◌, ◌↔◌, ℕ, ◌<◌, ◌≤◌, List, [], ◌∷◌, get_or, length, subst, inl, inr}
use Rattle.std.specs.Prelude.{Contains}
use Rattle.std.specs.List.Sorted.{IsStrictlyIncreasing}
use Rattle.std.proofs.lemmas.Bool.Decides.{leb_tells}
use Rattle.std.proofs.lemmas.List.Elements.{Contains-get_or, Contains-push, Contains-push_cases}
use Rattle.ux_base.specs.declared.settings.Policy.{Policy}
use Rattle.ux_base.specs.declared.settings.Policy.TheVariants.{Shortest, Longest, All}
use Rattle.ux_base.proofs.OrderedLists.{Contains-nil}
use Rattle.ux_outputs.specs.declared.event.Event.{Event}
use Rattle.ux_walk.specs.Ends.{AreEnds}
use Rattle.ux_walk.specs.Settings.{Derives, Setting}
use Rattle.ux_walker.specs.FirstEnds.{IsEnd, IsFirstEnd}
use Rattle.ux_locate.specs.Finding.{AreEndsFor, EndsAt, IsFirstAfter}
use Rattle.ux_locate.specs.Keeping.{AreBest}
use Rattle.ux_locate.proofs.BestLemmas.{best_same}
use Rattle.ux_locate.proofs.EndsLemmas.{at, no_later}

module _ (setting : Setting) (start : ℕ) where
  -- the shortest hit up to the first end is the shortest of all
  best_of_first : (ends best : List ℕ) → IsFirstEnd setting start ends →
      AreBest Shortest (λ end. end) (Contains ends) best →
      AreBest Shortest (λ end. end) (EndsAt setting start) best
  best_of_first ends best first bests = record {
    exactly = λ e. (
      λ c. (first.exactly e).0 ((bests.exactly e).0 c).0,
      λ (is, least). (bests.exactly e).1 (
        (first.exactly e).1 (is, least),
        λ other there. least other ((first.exactly other).0 there).0,
      ),
    );
    some = λ e is. let one = first.some e is in bests.some one.0 one.1;
  }

  pub best_of_asked : (policy : Policy) (ends best : List ℕ) → AreEndsFor policy setting start ends →
      AreBest policy (λ end. end) (Contains ends) best →
      AreBest policy (λ end. end) (EndsAt setting start) best
  best_of_asked Shortest ends best are bests = best_of_first ends best are bests
  best_of_asked Longest ends best are bests =
      best_same Longest (λ (end : ℕ). end) (Contains ends) (EndsAt setting start) are.exactly best bests
  best_of_asked All ends best are bests =
      best_same All (λ (end : ℕ). end) (Contains ends) (EndsAt setting start) are.exactly best bests

  -- what is asked for are ends
  pub asked_later : (policy : Policy) (ends : List ℕ) → AreEndsFor policy setting start ends →
      (e : ℕ) → Contains ends e → start < e
  asked_later Shortest ends are e there = ((are.exactly e).0 there).0.0
  asked_later Longest ends are e there = ((are.exactly e).0 there).0
  asked_later All ends are e there = ((are.exactly e).0 there).0

  -- without a first end there is none
  pub first_none : IsFirstEnd setting start [] → AreEnds setting start []
  first_none first = record {
    exactly = λ e. (
      λ none. absurd (Contains-nil e none),
      λ is. absurd (let one = first.some e is in Contains-nil one.0 one.1),
    );
    ascending = first.ascending;
  }

  -- the first of the positions to which something is derived
  pub first_of_all : (all : List ℕ) → ((end : ℕ) → Contains all end
      ↔ ((events : List Event) × Derives setting start end events)) → (ends : List ℕ) →
      IsFirstAfter all start ends → IsFirstEnd setting start ends
  first_of_all all exactly ends first = record {
    exactly = λ e. (
      λ c.
          let is = (first.exactly e).0 c in (
            ends_at e is.0 is.1,
            λ other end. is.2 other (derived other end) end.0,
          ),
      λ (is, least). (first.exactly e).1 (
        derived e is,
        is.0,
        λ other there later. least other (ends_at other there later),
      ),
    );
    some = λ e is. first.some e (derived e is) is.0;
    ascending = first.ascending;
  }
    where
      ends_at : (e : ℕ) → Contains all e → start < e → IsEnd setting start e
      ends_at e there later = let d = (exactly e).0 there in (later, d.0, d.1)

      derived : (e : ℕ) → IsEnd setting start e → Contains all e
      derived e (later, events, derives) = (exactly e).1 (events, derives)

module _ (positions : List ℕ) (increasing : IsStrictlyIncreasing positions) (start i : ℕ)
    (before : (k : ℕ) → k < i → get_or positions k 0 ≤ start) where
  -- one that is after the start stands at the place or behind it
  stands_on : (e : ℕ) (c : Contains positions e) → start < e → i ≤ c.0
  stands_on e c later = elim (leb_tells i c.0) [
    | inl on ↦ on.1
    | inr lt ↦
        let is = at positions increasing e c in
        let low = before c.0 lt.1 in
        absurd (omega (arith, is, low, later))
  ]

  -- what stands at the place
  abbrev first : ℕ
  first = get_or positions i 0

  -- the first that is after the start, as those before it aren't
  pub first_found : i < length positions → start < get_or positions i 0 →
      IsFirstAfter positions start (get_or positions i 0 ∷ [])
  first_found within later = record {
    exactly = λ e. (
      λ c. subst (λ (n : ℕ). Contains positions n × (start < n)
          × ((other : ℕ) → Contains positions other → start < other → n ≤ other)) (alone e c)
          (here, later, least),
      λ (there, high, low).
          let le = low first here later in
          let ge = least e there high in
          let same : first ≡ e = omega (arith, le, ge) in
          subst (Contains (first ∷ [])) same (Contains-push [] first),
    );
    some = λ e there high. (first, Contains-push [] first);
    ascending = λ k lt. absurd (omega (arith, lt));
  }
    where
      here : Contains positions first
      here = Contains-get_or positions i 0 within

      least : (other : ℕ) → Contains positions other → start < other → first ≤ other
      least other there high =
          let le = no_later positions increasing i there.0 (stands_on other there high) there.1 in
          let is = at positions increasing other there in
          omega (arith, le, is)

      alone : (e : ℕ) → Contains (first ∷ []) e → first ≡ e
      alone e c = elim (Contains-push_cases [] first e c) [
        | inl none ↦ absurd (Contains-nil e none)
        | inr same ↦ same
      ]

  -- none is
  pub first_missing : length positions ≤ i → IsFirstAfter positions start []
  first_missing past = record {
    exactly = λ e. (
      λ c. absurd (Contains-nil e c),
      λ (there, high, low). absurd (let on = stands_on e there high in omega (arith, on, past, there.1)),
    );
    some = λ e there high. absurd (let on = stands_on e there high in omega (arith, on, past, there.1));
    ascending = λ k lt. absurd (omega (arith, lt));
  }
