-- What is held stays where a state is finished, begun or put into the register.
use Rattle.std.proofs.Common.{◌≡◌, ℕ, ◌∙◌, List, [], ◌∷◌, ◌++◌, ◌⊎◌, ◌↔◌, inl, inr, refl, sym, ap, subst, length}
use Rattle.std.specs.Prelude.{Some, None, slice_get, Contains}
use Rattle.std.proofs.lemmas.Option.{same_Some, none-some}
use Rattle.std.proofs.lemmas.List.Elements.{Contains-append_left, Contains-push_cases, Contains-push}
use Rattle.ux_dawg.specs.declared.state.State.{State}
use Rattle.ux_dawg.specs.declared.state.Edge.{Edge}
use Rattle.ux_dawg.specs.declared.pending.Frame.{Frame}
use Rattle.ux_dawg.specs.Paths.{edge, Right, IsFit}
use Rattle.ux_dawg.specs.Building.{Held, letters, bare, with_edge}
use Rattle.ux_dawg.proofs.PathLemmas.{is_some_of, in_front, behind, right_stays, right_back}

no_right : (states : List State) (w : List ℕ) (c : ℕ) → Right states bare w c → ⊥
no_right states [] c h = none-some c h
no_right states (a ∷ w) c h = none-some (edge a h.0) (is_some_of [] (edge a h.0) h.2).1

-- a new state holds nothing
pub held_open : (states : List State) (fs : List Frame) (top : State) (a : ℕ) (w : List ℕ) (c : ℕ) →
    Held states (fs ++ record { state = top; letter = a } ∷ []) bare w c ↔ Held states fs top w c
held_open states [] top a [] c = (λ h. h, λ h. h)
held_open states [] top a (b ∷ w) c = (
  λ h. elim h [ inl r ↦ r | inr n ↦ absurd (no_right states w c n.1) ],
  λ h. inl h,
)
held_open states (f ∷ fs) top a [] c = (λ h. h, λ h. h)
held_open states (f ∷ fs) top a (b ∷ w) c = let r = held_open states fs top a w c in (
  λ h. elim h [ inl x ↦ inl x | inr p ↦ inr (p.0, r.0 p.1) ],
  λ h. elim h [ inl x ↦ inl x | inr p ↦ inr (p.0, r.1 p.1) ],
)

-- a finished state is held by a step
pub held_close : (states : List State) (fs : List Frame) (f : Frame) (top : State) (i : ℕ) → slice_get states i ≡ Some top → (w : List ℕ) (c : ℕ) →
    Held states fs (with_edge f.state f.letter i) w c ↔ Held states (fs ++ f ∷ []) top w c
held_close states [] f top i at [] c = (λ h. h, λ h. h)
held_close states [] f top i at (b ∷ w) c = (
  λ h. elim (Contains-push_cases f.state.edges (edge f.letter i) (edge b h.0) h.2) [
    | inl old ↦ inl (h.0, h.1, old, h.3, h.4)
    | inr new ↦
        let number : i ≡ h.0 = ap (λ (e : Edge). e.target) new in
        let same : h.1 ≡ top = same_Some h.1 top (sym h.3 ∙ (ap (slice_get states) (sym number) ∙ at)) in
        inr (ap (λ (e : Edge). e.letter) new, subst (λ (s : State). Right states s w c) same h.4)
  ],
  λ h. elim h [
    | inl r ↦ (r.0, r.1, Contains-append_left f.state.edges (edge f.letter i ∷ []) (edge b r.0) r.2, r.3, r.4)
    | inr p ↦ (i, top, subst (λ x. Contains (f.state.edges ++ edge f.letter i ∷ []) (edge x i)) p.0 (Contains-push f.state.edges (edge f.letter i)), at, p.1)
  ],
)
held_close states (g ∷ fs) f top i at [] c = (λ h. h, λ h. h)
held_close states (g ∷ fs) f top i at (b ∷ w) c = let r = held_close states fs f top i at w c in (
  λ h. elim h [ inl x ↦ inl x | inr p ↦ inr (p.0, r.0 p.1) ],
  λ h. elim h [ inl x ↦ inl x | inr p ↦ inr (p.0, r.1 p.1) ],
)

-- a code at the deepest state is one more form
pub held_code : (states : List State) (fs : List Frame) (top : State) (code : ℕ) → top.code ≡ None → (w : List ℕ) (c : ℕ) →
    Held states fs (record { code = Some code; edges = top.edges }) w c ↔ (Held states fs top w c ⊎ ((w ≡ letters fs) × (c ≡ code)))
held_code states [] top code free [] c = (
  λ h. inr (refl, sym (same_Some code c h)),
  λ h. elim h [ inl old ↦ absurd (none-some c (sym free ∙ old)) | inr new ↦ ap Some (sym new.1) ],
)
held_code states [] top code free (b ∷ w) c = (
  λ h. inl h,
  λ h. elim h [ inl old ↦ old | inr new ↦ absurd (let e = new.0 in cc) ],
)
held_code states (f ∷ fs) top code free [] c = (
  λ h. inl h,
  λ h. elim h [ inl old ↦ old | inr new ↦ absurd (let e = new.0 in cc) ],
)
held_code states (f ∷ fs) top code free (b ∷ w) c = let r = held_code states fs top code free w c in (
  λ h. elim h [
    | inl x ↦ inl (inl x)
    | inr p ↦ elim (r.0 p.1) [
      | inl old ↦ inl (inr (p.0, old))
      | inr new ↦ inr (let head = p.0 in let tail = new.0 in cc, new.1)
    ]
  ],
  λ h. elim h [
    | inl old ↦ elim old [ inl x ↦ inl x | inr p ↦ inr (p.0, r.1 (inl p.1)) ]
    | inr new ↦ inr (let e = new.0 in cc, r.1 (inr (let e = new.0 in cc, new.1)))
  ],
)

module _ (old new : List State)
    (stay : (i : ℕ) (s : State) → slice_get old i ≡ Some s → slice_get new i ≡ Some s)
    (fit : (i : ℕ) (s : State) → slice_get old i ≡ Some s → IsFit i s) where
  pub held_stays : (fs : List Frame) (top : State) → ((f : Frame) → Contains fs f → IsFit (length old) f.state) → IsFit (length old) top → (w : List ℕ) (c : ℕ) →
      Held new fs top w c ↔ Held old fs top w c
  held_stays [] top fits top_fits w c = (right_back old new stay fit top top_fits w c, right_stays old new stay fit top w c)
  held_stays (f ∷ fs) top fits top_fits [] c = (λ h. h, λ h. h)
  held_stays (f ∷ fs) top fits top_fits (b ∷ w) c =
      let r = held_stays fs top (λ g has. fits g (behind f fs g has)) top_fits w c in (
        λ h. elim h [
          | inl x ↦ inl (right_back old new stay fit f.state (fits f (in_front f fs)) (b ∷ w) c x)
          | inr p ↦ inr (p.0, r.0 p.1)
        ],
        λ h. elim h [
          | inl x ↦ inl (right_stays old new stay fit f.state (b ∷ w) c x)
          | inr p ↦ inr (p.0, r.1 p.1)
        ],
      )
