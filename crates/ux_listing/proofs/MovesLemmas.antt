-- How a label that applies in a way makes its moves, and which edges make none.
use Rattle.std.proofs.Common.{◌≡◌, ℕ, List, [], ◌∷◌, inl, inr, refl, sym, ap, subst, ◌∙◌}
use Rattle.std.specs.Prelude.{Option, Some, None, slice_get, Contains, IsSomeAnd}
use Rattle.std.proofs.lemmas.Option.{same_Some}
use Rattle.ux_tokens.specs.Tokens.{Token}
use Rattle.ux_net.specs.declared.label.Label.{Label}
use Rattle.ux_net.specs.declared.label.Label.TheVariants.{CaseFolded, CaseExact, Call}
use Rattle.ux_net.specs.declared.state.Edge.{Edge}
use Rattle.ux_outputs.specs.declared.event.Event.{Event}
use Rattle.ux_outputs.specs.declared.event.Event.TheVariants.{Take}
use Rattle.ux_outputs.specs.Rendering.{skip}
use Rattle.ux_folds.specs.Folding.{Next}
use Rattle.ux_meaning.specs.Texts.{FoldsTo}
use Rattle.ux_walk.specs.declared.matching.LabelMatch.{LabelMatch}
use Rattle.ux_walk.specs.declared.matching.LabelMatch.TheVariants as how
use Rattle.ux_walk.specs.Contexts.{Applying}
use Rattle.ux_walk.specs.Courses.{passing}
use Rattle.ux_walk.specs.LabelMatches.{IsLabelMatch, TakesUpTo}
use Rattle.ux_walk.specs.LookUps.{AreEnough, Refuses}
use Rattle.ux_walk.specs.Settings.{Setting}
use Rattle.ux_listing.specs.declared.config.Config.{Config}
use Rattle.ux_listing.specs.declared.config.Mark.{Mark}
use Rattle.ux_listing.specs.declared.config.Item.{Item}
use Rattle.ux_listing.specs.Moves.{Move, goes, calls, Only, Behind, CrossesSome, CrossesSomeAt}
use Rattle.ux_listing.specs.Walking.{Follows}
use Rattle.ux_listing.proofs.SetsLemmas.{in_place, place_of}
use Rattle.ux_listing.proofs.FollowsLemmas.{follows_as}

-- what is so of the one move is so of it
pub only_so : (P : Move → List Event → Type 0) (one : Move) (own : List Event) (move : Move)
    (events : List Event) → Only one own move events → P one own → P move events
only_so P one own move events is so =
    subst (λ (m : Move). P m events) (sym is.0) (subst (λ (l : List Event). P one l) (sym is.1) so)

module _ (setting : Setting) (applies : Applying) (g : ℕ) (label : Label) (target p : ℕ) where
  -- the moves of a label that applies in a way
  abbrev pub Matched : LabelMatch → Move → List Event → Type 0
  Matched (how.Takes end) move events = Only (goes target end) (Take p end ∷ []) move events
  Matched (how.Spans ends) move events = (k : ℕ) × Contains ends.items k
      × Only (goes target k) (Take p k ∷ []) move events
  Matched how.Stays move events = Only (goes target p) (passing label) move events
  Matched (how.Calls h) move events = Only (calls h target) [] move events
  Matched how.Opens move events = (b : ℕ) × applies.contexts g label target p b
      × Only (goes b p) [] move events
  Matched how.Closed move events = ⊥

  abbrev Makes : Move → List Event → Type 0
  Makes = Behind setting applies g label target p

  abbrev IsMatch : LabelMatch → Type 0
  IsMatch r = IsLabelMatch setting.alphabet setting.tokens setting.tables label p r

  -- they are moves of the label
  matched_forth : (r : LabelMatch) → IsMatch r → (move : Move) (events : List Event) →
      Matched r move events → Makes move events
  matched_forth (how.Takes end) m move events t =
      only_so Makes (goes target end) (Take p end ∷ []) move events t
      (inl ((m.takes end).0 refl, refl, refl))
  matched_forth (how.Spans ends) m move events t =
      only_so Makes (goes target t.0) (Take p t.0 ∷ []) move events t.2
      (inl ((m.takes t.0).0 t.1, refl, refl))
  matched_forth how.Stays m move events t =
      only_so Makes (goes target p) (passing label) move events t
      (inr (inl (m.stays.0 refl, refl, refl, refl)))
  matched_forth (how.Calls h) m move events t =
      only_so Makes (calls h target) [] move events t ((m.calls h).0 refl, refl, refl)
  matched_forth how.Opens m move events t =
      only_so Makes (goes t.0 p) [] move events t.2
      (inr (inr (m.opens.0 refl, t.1, refl, refl)))
  matched_forth how.Closed m move events t = absurd t

  of_takes : (r : LabelMatch) (k : ℕ) → TakesUpTo r k → Matched r (goes target k) (Take p k ∷ [])
  of_takes (how.Takes end) k t =
      (ap (λ (n : ℕ). goes target n) t, ap (λ (n : ℕ). Take p n ∷ []) t)
  of_takes (how.Spans ends) k t = (k, t, (refl, refl))
  of_takes other k t = absurd t

  -- and the label makes no others
  matched_back : (r : LabelMatch) → IsMatch r → (move : Move) (events : List Event) →
      Makes move events → Matched r move events
  matched_back r m (goes b k) events (inl (t, b_is, is)) =
      subst (λ (n : ℕ). Matched r (goes n k) events) (sym b_is)
      (subst (λ (l : List Event). Matched r (goes target k) l) (sym is)
      (of_takes r k ((m.takes k).1 t)))
  matched_back r m (goes b k) events (inr (inl (s, b_is, k_is, is))) =
      subst (λ (n : ℕ). Matched r (goes n k) events) (sym b_is)
      (subst (λ (n : ℕ). Matched r (goes target n) events) (sym k_is)
      (subst (λ (l : List Event). Matched r (goes target p) l) (sym is)
      (subst (λ (x : LabelMatch). Matched x (goes target p) (passing label)) (sym (m.stays.1 s))
      (refl, refl))))
  matched_back r m (goes b k) events (inr (inr (o, applied, k_is, is))) =
      subst (λ (n : ℕ). Matched r (goes b n) events) (sym k_is)
      (subst (λ (l : List Event). Matched r (goes b p) l) (sym is)
      (subst (λ (x : LabelMatch). Matched x (goes b p) []) (sym (m.opens.1 o))
      (b, applied, (refl, refl))))
  matched_back r m (calls h b) events (l, b_is, is) =
      subst (λ (n : ℕ). Matched r (calls h n) events) (sym b_is)
      (subst (λ (es : List Event). Matched r (calls h target) es) (sym is)
      (subst (λ (x : LabelMatch). Matched x (calls h target) []) (sym ((m.calls h).1 l))
      (refl, refl)))

  -- so the moves of the label were followed
  pub follows_matched : (next : Next) (Marked : Mark → Type 0) (c : Config) (old new : List Item)
      (r : LabelMatch) → IsMatch r → Follows next Marked c (Matched r) old new →
      Follows next Marked c Makes old new
  follows_matched next Marked c old new r m f =
      follows_as Marked c next (Matched r) Makes old new (matched_forth r m) (matched_back r m) f

  -- a label that doesn't apply makes none
  pub closed_makes : (r : LabelMatch) → IsMatch r → r ≡ how.Closed → (move : Move)
      (events : List Event) → Makes move events → ⊥
  closed_makes r m is move events makes =
      subst (λ (x : LabelMatch). Matched x move events) is (matched_back r m move events makes)

module _ (setting : Setting) (applies : Applying) (g : ℕ) (p : ℕ) where
  -- a label that refuses the token's text makes no move
  refused : (label : Label) (target : ℕ) (token : Token) →
      slice_get setting.tokens (skip setting.tokens p) ≡ Some token →
      Refuses setting.alphabet label token.text → (move : Move) (own : List Event) →
      Behind setting applies g label target p move own → ⊥
  refused (CaseFolded entry) target token at refuses (goes b k) own (inl (t, b_is, is)) =
      refuses.1 (subst (λ (x : Token). FoldsTo setting.alphabet entry x)
      (same_Some t.1.0 token (sym t.1.1 ∙ at)) t.1.2.1)
  refused (CaseFolded entry) target token at refuses (goes b k) own (inr (inl (s, b_is, k_is, is))) = s
  refused (CaseFolded entry) target token at refuses (goes b k) own (inr (inr (o, applied, k_is, is))) =
      let mark = o.1 in cc
  refused (CaseFolded entry) target token at refuses (calls h b) own (l, b_is, is) =
      let no : CaseFolded entry ≡ Call h = l in cc
  refused (CaseExact exact) target token at refuses (goes b k) own (inl (t, b_is, is)) =
      refuses.1 (subst (λ (x : Token). x.text ≡ exact)
      (same_Some t.1.0 token (sym t.1.1 ∙ at)) t.1.2.1)
  refused (CaseExact exact) target token at refuses (goes b k) own (inr (inl (s, b_is, k_is, is))) = s
  refused (CaseExact exact) target token at refuses (goes b k) own (inr (inr (o, applied, k_is, is))) =
      let mark = o.1 in cc
  refused (CaseExact exact) target token at refuses (calls h b) own (l, b_is, is) =
      let no : CaseExact exact ≡ Call h = l in cc
  refused other target token at refuses move own b = absurd refuses.0

  module _ (edges : List Edge) (places : List ℕ) where
    -- the edges at places that are enough are all that make moves
    pub places_some : (move : Move) (events : List Event) →
        CrossesSomeAt setting applies g edges places p move events →
        CrossesSome setting applies g edges p move events
    places_some move events t = (t.2.0, in_place edges t.0 t.2.0 t.2.1, t.2.2)

    pub some_places : (token : Token) →
        slice_get setting.tokens (skip setting.tokens p) ≡ Some token →
        AreEnough setting.alphabet token.text edges places → (move : Move) (events : List Event) →
        CrossesSome setting applies g edges p move events →
        CrossesSomeAt setting applies g edges places p move events
    some_places token at enough move events t =
        let q = place_of edges t.0 t.1 in
        elim (enough q.0 t.0 q.2) [
          | inl listed ↦ (q.0, listed, (t.0, q.2, t.2))
          | inr refuses ↦ absurd
              (refused t.0.label t.0.target token at refuses move t.2.0 t.2.1)
        ]

    pub follows_places : (next : Next) (Marked : Mark → Type 0) (c : Config) (old new : List Item)
        (position : ℕ) → position ≡ skip setting.tokens p →
        IsSomeAnd (slice_get setting.tokens position)
        (λ token. AreEnough setting.alphabet token.text edges places) →
        Follows next Marked c (CrossesSomeAt setting applies g edges places p) old new →
        Follows next Marked c (CrossesSome setting applies g edges p) old new
    follows_places next Marked c old new position is enough f =
        go (slice_get setting.tokens position) refl enough
      where
        go : (o : Option Token) → slice_get setting.tokens position ≡ o →
            IsSomeAnd o (λ token. AreEnough setting.alphabet token.text edges places) →
            Follows next Marked c (CrossesSome setting applies g edges p) old new
        go None there enough = absurd enough
        go (Some token) there enough =
            follows_as Marked c next (CrossesSomeAt setting applies g edges places p)
            (CrossesSome setting applies g edges p) old new places_some
            (some_places token (ap (slice_get setting.tokens) (sym is) ∙ there) enough) f
