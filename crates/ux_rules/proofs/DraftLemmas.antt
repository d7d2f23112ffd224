-- A draft stays drawn as places and steps are added.
use Rattle.std.proofs.Common.{arith, ◌≡◌, ◌≢◌, ℕ, ◌+◌, ◌<◌, List, [], ◌∷◌, ◌++◌, cond, nat_eq, sym, ◌∙◌, inl, inr, subst, length}
use Rattle.std.proofs.lemmas.List.Elements.{Contains-push_cases}
use Rattle.ux_grf.specs.declared.graph.Graph.{Graph}
use Rattle.ux_rules.specs.declared.step.Sign.{Sign}
use Rattle.ux_rules.specs.declared.step.Step.{Step}
use Rattle.ux_rules.specs.Drafts.{step_at, Spot, Fits, IsDrawn}

-- the spots with one more
abbrev pub with_spot : (ℕ → Spot) → (place : ℕ) → Spot → ℕ → Spot
with_spot spot place at k = cond (nat_eq k place) at (spot k)

pub spot_here : (spot : ℕ → Spot) (place : ℕ) (at : Spot) → with_spot spot place at place ≡ at
spot_here spot place at = grind arith

pub spot_other : (spot : ℕ → Spot) (place : ℕ) (at : Spot) (k : ℕ) → k ≢ place →
    with_spot spot place at k ≡ spot k
spot_other spot place at k other = grind arith

pub spot_below : (spot : ℕ → Spot) (place : ℕ) (at : Spot) (k : ℕ) → k < place →
    with_spot spot place at k ≡ spot k
spot_below spot place at k below =
    spot_other spot place at k (λ (e : k ≡ place). absurd (omega (arith, e, below)))

module _ (graph : Graph) (places : ℕ) (steps : List Step) (spot : ℕ → Spot)
    (drawn : IsDrawn graph places steps spot) (from to : ℕ) (sign : Sign) where
  -- a step between places that are there
  pub drawn_link : from < places → to < places → Fits graph (spot from) sign (spot to) →
      IsDrawn graph places (steps ++ step_at from to sign ∷ []) spot
  drawn_link is_from is_to fits = record {
    room = drawn.room;
    first = drawn.first;
    second = drawn.second;
    from = λ s here. elim (Contains-push_cases steps (step_at from to sign) s here) [
      | inl old ↦ drawn.from s old
      | inr e ↦ subst (λ (x : Step). x.from < places) e is_from
    ];
    to = λ s here. elim (Contains-push_cases steps (step_at from to sign) s here) [
      | inl old ↦ drawn.to s old
      | inr e ↦ subst (λ (x : Step). x.to < places) e is_to
    ];
    fits = λ s here. elim (Contains-push_cases steps (step_at from to sign) s here) [
      | inl old ↦ drawn.fits s old
      | inr e ↦ subst (λ (x : Step). Fits graph (spot x.from) x.sign (spot x.to)) e fits
    ];
  }

module _ (graph : Graph) (places : ℕ) (steps : List Step) (spot : ℕ → Spot)
    (drawn : IsDrawn graph places steps spot) where
  -- one place more
  pub drawn_place : (at : Spot) → IsDrawn graph (places + 1) steps (with_spot spot places at)
  drawn_place at = record {
    room = let room = drawn.room in omega (arith, room);
    first = λ node inside. spot_below spot places at node
        (let room = drawn.room in omega (arith, room, inside)) ∙ drawn.first node inside;
    second = λ node inside. spot_below spot places at (length graph.boxes + node)
        (let room = drawn.room in omega (arith, room, inside)) ∙ drawn.second node inside;
    from = λ s here. let below = drawn.from s here in omega (arith, below);
    to = λ s here. let below = drawn.to s here in omega (arith, below);
    fits = λ s here.
        subst (λ (x : Spot). Fits graph x s.sign (with_spot spot places at s.to))
        (sym (spot_below spot places at s.from (drawn.from s here)))
        (subst (λ (x : Spot). Fits graph (spot s.from) s.sign x)
        (sym (spot_below spot places at s.to (drawn.to s here))) (drawn.fits s here));
  }

  -- one place more, with a step that leads to it
  pub drawn_lead : (from : ℕ) (sign : Sign) (at : Spot) → from < places →
      Fits graph (spot from) sign at →
      IsDrawn graph (places + 1) (steps ++ step_at from places sign ∷ []) (with_spot spot places at)
  drawn_lead from sign at is_from fits =
      drawn_link graph (places + 1) steps (with_spot spot places at) (drawn_place at) from places
      sign (omega (arith, is_from)) (omega arith)
      (subst (λ (x : Spot). Fits graph x sign (with_spot spot places at places))
      (sym (spot_below spot places at from is_from))
      (subst (λ (x : Spot). Fits graph (spot from) sign x) (sym (spot_here spot places at)) fits))
