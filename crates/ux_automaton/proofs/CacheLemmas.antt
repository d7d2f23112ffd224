-- What is kept stays right as the store grows.
use Rattle.std.proofs.Common.{◌≡◌, ℕ, ◌+◌, ◌∷◌, ◌⊎◌, ◌↔◌, inl, inr, sym, subst, refl, Bool}
use Rattle.ux_outputs.specs.Rendering.{skip}
use Rattle.ux_tokens.specs.declared.kind.Kind.{Kind}
use Rattle.ux_walk.specs.Leads.{LeadsFrom, Stack}
use Rattle.ux_walk.specs.Settings.{Setting}
use Rattle.ux_automaton.specs.declared.closed.Closed.{Closed}
use Rattle.ux_automaton.specs.declared.kept.Kept.{Kept}
use Rattle.ux_automaton.specs.declared.transitions.Transition.{Transition}
use Rattle.ux_automaton.specs.Caches.{HasValue, IsBarred, IsClosed, TakeSingly, IsTransition}
use Rattle.ux_automaton.specs.Fronts.{Keeps, Store, HoldsIn}
use Rattle.ux_automaton.specs.Kept.{AreRight, Grows, HasClosed, HasTransition, IsFirst, IsSound, store_of}
use Rattle.ux_automaton.specs.Targets.{GoesOver, IsOver}
use Rattle.ux_automaton.proofs.OverLemmas.{goes_by, leads_by, over_by}
use Rattle.ux_automaton.proofs.StoreLemmas.{front_kept, holds_kept}

module _ (setting : Setting) (A B : Stack → Type 0)
    (same : (stack : Stack) → A stack ↔ B stack) where
  pub over_same : (p k : ℕ) (stack : Stack) → IsOver setting A p k stack ↔ IsOver setting B p k stack
  over_same p k stack = (
    over_by setting A B (λ s. (same s).0) p k stack,
    over_by setting B A (λ s. (same s).1) p k stack,
  )

  pub goes_same : (p end : ℕ) → GoesOver setting A p end ↔ GoesOver setting B p end
  goes_same p end = (
    goes_by setting A B (λ s. (same s).0) p end,
    goes_by setting B A (λ s. (same s).1) p end,
  )

  pub leads_same : (p end : ℕ) → LeadsFrom setting A p end ↔ LeadsFrom setting B p end
  leads_same p end = (
    leads_by setting A B (λ s. (same s).0) p end,
    leads_by setting B A (λ s. (same s).1) p end,
  )

  pub singly_by : (place : ℕ) → TakeSingly setting B place → TakeSingly setting A place
  singly_by place (inl alone) = inl alone
  singly_by place (inr none) = inr (λ f fs edge mask there. none f fs edge mask ((same (f ∷ fs)).0 there))

pub through : {A B C : Type 0} → (A ↔ B) → (B ↔ C) → (A ↔ C)
through f g = (λ a. g.0 (f.0 a), λ c. f.1 (g.1 c))

pub back : {A B : Type 0} → (A ↔ B) → (B ↔ A)
back f = (f.1, f.0)

pub either : {A B C : Type 0} → (B ↔ C) → (A ⊎ B) ↔ (A ⊎ C)
either f = (
  λ h. elim h [ inl a ↦ inl a | inr b ↦ inr (f.0 b) ],
  λ h. elim h [ inl a ↦ inl a | inr c ↦ inr (f.1 c) ],
)

module _ (setting : Setting) (old new : Store) (sound : IsSound old) (grows : Grows old new) where
  pub closed_kept : (front : ℕ) (is_spaced : Bool) (closed : Closed) →
      IsClosed setting old front is_spaced closed → IsClosed setting new front is_spaced closed
  closed_kept front is_spaced closed right =
      let within = holds_kept old new sound grows closed.front right.there in record {
        front_there = front_kept old new sound grows front right.front_there;
        there = front_kept old new sound grows closed.front right.there;
        space_there = front_kept old new sound grows closed.over_space right.space_there;
        leads = λ p tells end.
            through (back (leads_same setting (HoldsIn old front) (HoldsIn new front)
            (holds_kept old new sound grows front right.front_there) p end))
            (through (right.leads p tells end)
            (either (goes_same setting (HoldsIn old closed.front) (HoldsIn new closed.front) within
            p end)));
        over_space = λ p spaced space stack.
            through (back (holds_kept old new sound grows closed.over_space right.space_there stack))
            (through (right.over_space p spaced space stack)
            (over_same setting (HoldsIn old closed.front) (HoldsIn new closed.front) within p (p + 1)
            stack));
        no_space = right.no_space;
        masks = λ none f fs edge mask there.
            right.masks none f fs edge mask ((within (f ∷ fs)).1 there);
        tokens = λ none f fs edge there. right.tokens none f fs edge ((within (f ∷ fs)).1 there);
      }

  pub transition_kept : (transition : Transition) → IsTransition setting old transition →
      IsTransition setting new transition
  transition_kept transition right =
      let within = holds_kept old new sound grows transition.front right.front_there in record {
        front_there = front_kept old new sound grows transition.front right.front_there;
        next_there = front_kept old new sound grows transition.next right.next_there;
        leads = λ p numbered singly stack.
            through (back (holds_kept old new sound grows transition.next right.next_there stack))
            (through (right.leads p numbered (singly_by setting (HoldsIn old transition.front)
            (HoldsIn new transition.front) within (skip setting.tokens p) singly) stack)
            (over_same setting (HoldsIn old transition.front) (HoldsIn new transition.front) within p
            (skip setting.tokens p + 1) stack));
      }

  pub first_kept : (front : ℕ) → IsFirst old front → IsFirst new front
  first_kept front first = record {
    there = front_kept old new sound grows front first.there;
    main = λ stack. through (back (holds_kept old new sound grows front first.there stack))
        (first.main stack);
  }

-- all stays right as the store grows
pub right_kept : (setting : Setting) (old new : Kept) → AreRight setting old →
    Grows (store_of old.fronts) (store_of new.fronts) → new.first ≡ old.first →
    new.closures ≡ old.closures → new.transitions ≡ old.transitions → new.barred ≡ old.barred →
    AreRight setting new
right_kept setting old new right grows first closures transitions barred =
    let s = right.sound in record {
      sound = grows.sound;
      first = subst (λ n. IsFirst (store_of new.fronts) n) (sym first)
          (first_kept setting (store_of old.fronts) (store_of new.fronts) s grows old.first right.first);
      closures = λ is_spaced front closed has.
          closed_kept setting (store_of old.fronts) (store_of new.fronts) s grows front is_spaced closed
          (right.closures is_spaced front closed
          (subst (λ c. HasClosed c is_spaced front closed) closures has));
      transitions = λ transition has.
          transition_kept setting (store_of old.fronts) (store_of new.fronts) s grows transition
          (right.transitions transition
          (subst (λ t. HasTransition t transition) transitions has));
      barred = λ number kind has.
          right.barred number kind (subst (λ b. HasValue b.items number kind) barred has);
    }

-- one more closed front
pub closed_put : (setting : Setting) (old new : Kept) → AreRight setting old →
    new.fronts ≡ old.fronts → new.first ≡ old.first → new.transitions ≡ old.transitions →
    new.barred ≡ old.barred → (front : ℕ) (is_spaced : Bool) (closed : Closed) →
    IsClosed setting (store_of old.fronts) front is_spaced closed →
    ((spaced : Bool) (f : ℕ) (c : Closed) → HasClosed new.closures spaced f c →
    ((spaced ≡ is_spaced) × (f ≡ front) × (c ≡ closed)) ⊎ HasClosed old.closures spaced f c) →
    AreRight setting new
closed_put setting old new right fronts first transitions barred front is_spaced closed this put =
    record {
      sound = subst (λ f. IsSound (store_of f)) (sym fronts) right.sound;
      first = subst (λ n. IsFirst (store_of new.fronts) n) (sym first)
          (subst (λ f. IsFirst (store_of f) old.first) (sym fronts) right.first);
      closures = λ spaced f c has. subst (λ s. IsClosed setting (store_of s) f spaced c) (sym fronts)
          (go spaced f c (put spaced f c has));
      transitions = λ transition has.
          subst (λ s. IsTransition setting (store_of s) transition) (sym fronts)
          (right.transitions transition
          (subst (λ t. HasTransition t transition) transitions has));
      barred = λ number kind has.
          right.barred number kind (subst (λ b. HasValue b.items number kind) barred has);
    }
  where
    go : (spaced : Bool) (f : ℕ) (c : Closed) →
        ((spaced ≡ is_spaced) × (f ≡ front) × (c ≡ closed)) ⊎ HasClosed old.closures spaced f c →
        IsClosed setting (store_of old.fronts) f spaced c
    go spaced f c (inl (b, n, e)) =
        subst (λ x. IsClosed setting (store_of old.fronts) f spaced x) (sym e)
        (subst (λ x. IsClosed setting (store_of old.fronts) x spaced closed) (sym n)
        (subst (λ x. IsClosed setting (store_of old.fronts) front x closed) (sym b) this))
    go spaced f c (inr has) = right.closures spaced f c has

-- one more transition
pub transition_put : (setting : Setting) (old new : Kept) → AreRight setting old →
    new.fronts ≡ old.fronts → new.first ≡ old.first → new.closures ≡ old.closures →
    new.barred ≡ old.barred → (transition : Transition) →
    IsTransition setting (store_of old.fronts) transition →
    ((t : Transition) → HasTransition new.transitions t →
    (t ≡ transition) ⊎ HasTransition old.transitions t) →
    AreRight setting new
transition_put setting old new right fronts first closures barred transition this put = record {
  sound = subst (λ f. IsSound (store_of f)) (sym fronts) right.sound;
  first = subst (λ n. IsFirst (store_of new.fronts) n) (sym first)
      (subst (λ f. IsFirst (store_of f) old.first) (sym fronts) right.first);
  closures = λ spaced f c has. subst (λ s. IsClosed setting (store_of s) f spaced c) (sym fronts)
      (right.closures spaced f c (subst (λ x. HasClosed x spaced f c) closures has));
  transitions = λ t has. subst (λ s. IsTransition setting (store_of s) t) (sym fronts)
      (elim (put t has) [
        | inl e ↦ subst (IsTransition setting (store_of old.fronts)) (sym e) this
        | inr before ↦ right.transitions t before
      ]);
  barred = λ number kind has.
      right.barred number kind (subst (λ b. HasValue b.items number kind) barred has);
}

-- one more token with which nothing begins
pub barred_put : (setting : Setting) (old new : Kept) → AreRight setting old →
    new.fronts ≡ old.fronts → new.first ≡ old.first → new.closures ≡ old.closures →
    new.transitions ≡ old.transitions → (number : ℕ) (kind : Kind) → IsBarred setting number kind →
    ((n : ℕ) (k : Kind) → HasValue new.barred.items n k →
    ((n ≡ number) × (k ≡ kind)) ⊎ HasValue old.barred.items n k) → AreRight setting new
barred_put setting old new right fronts first closures transitions number kind this put = record {
  sound = subst (λ f. IsSound (store_of f)) (sym fronts) right.sound;
  first = subst (λ n. IsFirst (store_of new.fronts) n) (sym first)
      (subst (λ f. IsFirst (store_of f) old.first) (sym fronts) right.first);
  closures = λ spaced f c has. subst (λ s. IsClosed setting (store_of s) f spaced c) (sym fronts)
      (right.closures spaced f c (subst (λ x. HasClosed x spaced f c) closures has));
  transitions = λ t has. subst (λ s. IsTransition setting (store_of s) t) (sym fronts)
      (right.transitions t (subst (λ x. HasTransition x t) transitions has));
  barred = λ n k has. elim (put n k has) [
    | inl is ↦ subst (λ x. IsBarred setting x k) (sym is.0)
        (subst (IsBarred setting number) (sym is.1) this)
    | inr before ↦ right.barred n k before
  ];
}

-- what contracts see stays, as the store grows
pub keeps_grown : (setting : Setting) (old new : Store) → IsSound old → Grows old new →
    Keeps (record { setting = setting; store = old }) (record { setting = setting; store = new })
keeps_grown setting old new sound grows = record {
  setting = refl;
  fronts = front_kept old new sound grows;
  stacks = holds_kept old new sound grows;
}
