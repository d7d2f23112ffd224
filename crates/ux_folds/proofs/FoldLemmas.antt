-- Folds over events one after another.
use Rattle.std.proofs.Common.{◌≡◌, ℕ, List, [], ◌∷◌, ◌++◌, refl, sym, subst, ◌∙◌}
use Rattle.std.specs.Prelude.{Option, Some, None}
use Rattle.ux_outputs.specs.declared.event.Event.{Event}
use Rattle.ux_folds.specs.Folding.{Next, Folds}

module _ (next : Next) where
  -- what is dropped stays dropped
  pub folds_none : (es : List Event) → Folds next es None None
  folds_none [] = refl
  folds_none (e ∷ es) = refl

  pub folds_from_none : (es : List Event) (r : Option ℕ) → Folds next es None r → r ≡ None
  folds_from_none [] r h = h
  folds_from_none (e ∷ es) r h = h

  -- events, and then others
  pub folds_append : (es fs : List Event) (s m r : Option ℕ) → Folds next es s m →
      Folds next fs m r → Folds next (es ++ fs) s r
  folds_append [] fs s m r h k = subst (λ (o : Option ℕ). Folds next fs o r) h k
  folds_append (e ∷ es) fs None m r h k =
      folds_from_none fs r (subst (λ (o : Option ℕ). Folds next fs o r) h k)
  folds_append (e ∷ es) fs (Some s) m r h k = (h.0, h.1, folds_append es fs h.0 m r h.2 k)

  -- events have one result, where each event has
  pub folds_one : ((s : ℕ) (e : Event) (r t : Option ℕ) → next s e r → next s e t → r ≡ t) →
      (es : List Event) (s r t : Option ℕ) → Folds next es s r → Folds next es s t → r ≡ t
  folds_one one [] s r t h k = h ∙ sym k
  folds_one one (e ∷ es) None r t h k = h ∙ sym k
  folds_one one (e ∷ es) (Some s) r t h k = folds_one one es k.0 r t
      (subst (λ (o : Option ℕ). Folds next es o r) (one s e h.0 k.0 h.1 k.1) h.2) k.2

-- what was told of events stays told
pub folds_grow : (old new : Next) →
    ((s : ℕ) (e : Event) (r : Option ℕ) → old s e r → new s e r) →
    (es : List Event) (s r : Option ℕ) → Folds old es s r → Folds new es s r
folds_grow old new more [] s r h = h
folds_grow old new more (e ∷ es) None r h = h
folds_grow old new more (e ∷ es) (Some s) r h =
    (h.0, more s e h.0 h.1, folds_grow old new more es h.0 r h.2)
