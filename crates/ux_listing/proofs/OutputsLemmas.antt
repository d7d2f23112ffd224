-- The events of an output, folded piece by piece.
use Rattle.std.proofs.Common.{◌≡◌, ℕ, zero, suc, ◌+◌, ◌<◌, ◌≤◌, List, [], ◌∷◌, ◌++◌, refl, sym, ap, subst, ◌∙◌, length, take, drop, get_or}
use Rattle.std.specs.Prelude.{Option, Some, None}
use Rattle.std.proofs.lemmas.List.{take_more, take_all}
use Rattle.ux_grf.specs.declared.item.Piece.{Piece}
use Rattle.ux_outputs.specs.declared.event.Event.{Event}
use Rattle.ux_folds.specs.Folding.{Next, Folds}
use Rattle.ux_folds.proofs.FoldLemmas.{folds_append, folds_grow, folds_none}
use Rattle.ux_walk.specs.Courses.{put_event, put_events}
use Rattle.ux_listing.proofs.FollowsLemmas.{Tells}

events_push : (pieces : List Piece) (piece : Piece) →
    put_events (pieces ++ piece ∷ []) ≡ put_events pieces ++ put_event piece ∷ []
events_push [] piece = refl
events_push (p ∷ pieces) piece =
    ap (λ (l : List Event). put_event p ∷ l) (events_push pieces piece)

events_split : (pieces : List Piece) (i : ℕ) →
    put_events pieces ≡ put_events (take i pieces) ++ put_events (drop i pieces)
events_split [] zero = refl
events_split [] (suc i) = refl
events_split (p ∷ pieces) zero = refl
events_split (p ∷ pieces) (suc i) =
    ap (λ (l : List Event). put_event p ∷ l) (events_split pieces i)

module _ (state : ℕ) (pieces : List Piece) where
  -- the events of the first so many pieces lead to this
  abbrev pub FoldsTo : Next → ℕ → Option ℕ → Type 0
  FoldsTo next i r = Folds next (put_events (take i pieces)) (Some state) r

  -- one piece more
  pub folds_piece : (next now : Next) → Tells next now → (i s : ℕ) (piece : Piece) (r : Option ℕ) →
      i < length pieces → piece ≡ get_or pieces i piece → FoldsTo next i (Some s) →
      now s (put_event piece) r → FoldsTo now (i + 1) r
  folds_piece next now tells i s piece r lt is before told =
      let more : take (i + 1) pieces ≡ take i pieces ++ piece ∷ [] = take_more pieces i piece lt
      ∙ ap (λ (x : Piece). take i pieces ++ x ∷ []) (sym is) in
      subst (λ (l : List Event). Folds now l (Some state) r)
      (sym (ap (λ (l : List Piece). put_events l) more ∙ events_push (take i pieces) piece))
      (folds_append now (put_events (take i pieces)) (put_event piece ∷ []) (Some state) (Some s) r
      (folds_grow next now tells (put_events (take i pieces)) (Some state) (Some s) before)
      (r, told, refl))

  -- what is dropped stays dropped
  pub folds_out : (next : Next) (i : ℕ) → FoldsTo next i None →
      Folds next (put_events pieces) (Some state) None
  folds_out next i before = subst (λ (l : List Event). Folds next l (Some state) None)
      (sym (events_split pieces i))
      (folds_append next (put_events (take i pieces)) (put_events (drop i pieces)) (Some state) None
      None before (folds_none next (put_events (drop i pieces))))

  -- all pieces
  pub folds_pieces : (next : Next) (i : ℕ) (r : Option ℕ) → length pieces ≤ i → FoldsTo next i r →
      Folds next (put_events pieces) (Some state) r
  folds_pieces next i r past before =
      subst (λ (l : List Piece). Folds next (put_events l) (Some state) r) (take_all i pieces past)
      before
