-- Landings, end by end.
use Rattle.std.proofs.Common.{◌≡◌, ◌↔◌, ◌<◌, ◌≤◌, ◌+◌, ℕ, List, [], ◌∷◌, ◌++◌, inl, inr, refl, sym, subst, length, take, get_or}
use Rattle.std.specs.Prelude.{Contains}
use Rattle.std.proofs.lemmas.List.{take_all}
use Rattle.ux_closure.specs.declared.stand.Stand.{Stand}
use Rattle.ux_automaton.specs.declared.step.Landing.{Landing}
use Rattle.ux_automaton.specs.declared.target.Target.{Target}
use Rattle.ux_automaton.specs.Fronts.{Store}
use Rattle.ux_automaton.specs.Kept.{Grows, IsSound}
use Rattle.ux_automaton.specs.Landings.{AreLandings, IsFrontAt}
use Rattle.ux_automaton.proofs.AddingLemmas.{pushed, seen_next}
use Rattle.ux_automaton.proofs.CacheLemmas.{back, through}
use Rattle.ux_automaton.proofs.StoreLemmas.{front_kept, has_kept}

-- a landing for each of these ends, and no other
pub record AreLanded (store : Store) (targets : List Target) (ends : List ℕ)
    (landings : List Landing) : Type 0 where
  pub each : (landing : Landing) → Contains landings landing →
      Contains ends landing.at × IsFrontAt store targets landing.at landing.front
  pub all : (end : ℕ) → Contains ends end →
      (landing : Landing) × Contains landings landing × (landing.at ≡ end)

module _ (targets : List Target) (ends : List ℕ) (i : ℕ) where
  pub landed_next : (end : ℕ) → i < length ends → end ≡ get_or ends i end → (now new : Store) →
      IsSound now → Grows now new → (landings more : List Landing) (front : ℕ) →
      IsFrontAt new targets end front →
      more ≡ landings ++ record { at = end; front = front } ∷ [] →
      AreLanded now targets (take i ends) landings →
      AreLanded new targets (take (i + 1) ends) more
  landed_next end lt is now new sound grows landings more front this push landed = record {
    each = λ landing inside.
        elim ((pushed landings more (record { at = end; front = front }) push landing).0 inside) [
          | inl before ↦
              let b = landed.each landing before in
              ((seen_next ends i end lt is landing.at).1 (inl b.0), grown landing.at landing.front b.1)
          | inr e ↦ subst (λ (l : Landing). Contains (take (i + 1) ends) l.at
              × IsFrontAt new targets l.at l.front) (sym e)
              ((seen_next ends i end lt is end).1 (inr refl), this)
        ];
    all = λ other inside. elim ((seen_next ends i end lt is other).0 inside) [
      | inl before ↦
          let a = landed.all other before in
          (a.0, (pushed landings more (record { at = end; front = front }) push a.0).1 (inl a.1), a.2)
      | inr e ↦ (
        record { at = end; front = front },
        (pushed landings more (record { at = end; front = front }) push
            (record { at = end; front = front })).1 (inr refl),
        sym e,
      )
    ];
  }
    where
      grown : (at f : ℕ) → IsFrontAt now targets at f → IsFrontAt new targets at f
      grown at f is_there = record {
        there = front_kept now new sound grows f is_there.there;
        stands = λ s. through (back (has_kept now new sound grows f is_there.there s))
            (is_there.stands s);
      }

  pub landed_all : length ends ≤ i → (store : Store) (after : ℕ) (landings : List Landing) →
      AreLanded store targets (take i ends) landings →
      ((end : ℕ) → Contains ends end ↔ ((after < end) × (stand : Stand)
      × Contains targets (record { at = end; stand = stand }))) →
      AreLandings store targets after landings
  landed_all past store after landings landed exact = record {
    each = λ landing inside. (((end_of landing inside).0), (landed.each landing inside).1);
    real = λ landing inside.
        let e = end_of landing inside in (e.1, e.2);
    all = λ target inside far. landed.all target.at
        (subst (λ (l : List ℕ). Contains l target.at) (sym (take_all i ends past))
        ((exact target.at).1 (far, target.stand, inside)));
  }
    where
      end_of : (landing : Landing) → Contains landings landing →
          (after < landing.at) × (stand : Stand)
          × Contains targets (record { at = landing.at; stand = stand })
      end_of landing inside = (exact landing.at).0
          (subst (λ (l : List ℕ). Contains l landing.at) (take_all i ends past)
          (landed.each landing inside).0)
