-- States with the same paths are one, and each state is reached.
use Rattle.std.proofs.Common.{arith, ◌≡◌, ℕ, zero, suc, ◌<◌, ◌+◌, ◌≤◌, ◌∙◌, List, [], ◌∷◌, ◌++◌, ◌↔◌, inl, inr, refl, sym, ap, subst, length}
use Rattle.std.specs.Prelude.{Option, Some, None, slice_get, Contains}
use Rattle.std.proofs.lemmas.Option.{same_Some, none-some, slice_get_within}
use Rattle.ux_dawg.specs.declared.state.State.{State}
use Rattle.ux_dawg.specs.declared.state.Edge.{Edge}
use Rattle.ux_dawg.specs.Register.{AreOnce}
use Rattle.ux_dawg.specs.Paths.{edge, Right, IsPath, Leads, AreAscending, IsFit, IsAlive, HavePaths}
use Rattle.std.proofs.Math.Nat.{eq-or-lt_of_le}
use Rattle.ux_dawg.proofs.PathLemmas.{got, is_some_of, of_cons, in_front, behind}

-- a letter has one step
pub one_edge : (es : List Edge) → AreAscending es → (d e : Edge) → Contains es d → Contains es e → d.letter ≡ e.letter → d ≡ e
one_edge [] up d e has too same = absurd (none-some d (is_some_of [] d has).1)
one_edge (x ∷ es) up d e has too same = elim (of_cons x es d has) [
  | inl first ↦ elim (of_cons x es e too) [
    | inl second ↦ sym first ∙ second
    | inr later ↦ absurd (let l = up.0 e later in let f = ap (λ (y : Edge). y.letter) first in omega (arith, l, f, same))
  ]
  | inr after ↦ elim (of_cons x es e too) [
    | inl second ↦ absurd (let l = up.0 d after in let f = ap (λ (y : Edge). y.letter) second in omega (arith, l, f, same))
    | inr later ↦ one_edge es up.1 d e after later same
  ]
]

-- ascending steps are told by which they are
pub same_edges : (xs ys : List Edge) → AreAscending xs → AreAscending ys → ((e : Edge) → Contains xs e → Contains ys e) → ((e : Edge) → Contains ys e → Contains xs e) → xs ≡ ys
same_edges [] [] ups downs to back = refl
same_edges [] (y ∷ ys) ups downs to back = absurd (none-some y (is_some_of [] y (back y (in_front y ys))).1)
same_edges (x ∷ xs) [] ups downs to back = absurd (none-some x (is_some_of [] x (to x (in_front x xs))).1)
same_edges (x ∷ xs) (y ∷ ys) ups downs to back =
    let heads : x ≡ y = elim (of_cons y ys x (to x (in_front x xs))) [
      | inl same ↦ sym same
      | inr later ↦ elim (of_cons x xs y (back y (in_front y ys))) [
        | inl same ↦ same
        | inr after ↦ absurd (let a = downs.0 x later in let b = ups.0 y after in omega (arith, a, b))
      ]
    ] in
    let letter = ap (λ (e : Edge). e.letter) heads in
    let tails = same_edges xs ys ups.1 downs.1
    (λ e has. elim (of_cons y ys e (to e (behind x xs e has))) [
      | inl same ↦ absurd (let a = ups.0 e has in let b = ap (λ (d : Edge). d.letter) same in omega (arith, a, b, letter))
      | inr later ↦ later
    ])
    (λ e has. elim (of_cons x xs e (back e (behind y ys e has))) [
      | inl same ↦ absurd (let a = downs.0 e has in let b = ap (λ (d : Edge). d.letter) same in omega (arith, a, b, letter))
      | inr later ↦ later
    ]) in
    ap (λ (z : Edge). z ∷ xs) heads ∙ ap (λ (zs : List Edge). y ∷ zs) tails

pub same_code : (o p : Option ℕ) → ((c : ℕ) → (o ≡ Some c) ↔ (p ≡ Some c)) → o ≡ p
same_code None None same = refl
same_code None (Some y) same = absurd (none-some y ((same y).1 refl))
same_code (Some x) p same = sym ((same x).0 refl)

module _ (states : List State) (fit : (i : ℕ) (s : State) → slice_get states i ≡ Some s → IsFit i s)
    (alive : (i : ℕ) (s : State) → slice_get states i ≡ Some s → IsAlive s) where
  has_path : (n i : ℕ) → i < n → (s : State) → slice_get states i ≡ Some s → (w : List ℕ) × (c : ℕ) × Right states s w c
  has_path zero i less s at = absurd (omega (arith, less))
  has_path (suc n) i less s at = elim (alive i s at) [
    | inl code ↦ ([], code.0, code.1)
    | inr e ↦
        let low = (fit i s at).within e.0 e.1 in
        let in' = slice_get_within states i s at in
        let t = got states e.0.target (omega (arith, low, in')) in
        let rest = has_path n e.0.target (omega (arith, low, less)) t.0 t.1 in
        (e.0.letter ∷ rest.0, rest.1, (e.0.target, t.0, e.1, t.1, rest.2))
  ]

  pub have_paths : HavePaths states
  have_paths i less =
      let s = got states i less in let p = has_path (suc i) i (omega arith) s.0 s.1 in
      (p.0, p.1, (s.0, s.1, p.2))

  module _ (once : AreOnce states) where
    -- each step of one is a step of the other
    half : (i j : ℕ) (s t : State) → slice_get states i ≡ Some s → slice_get states j ≡ Some t →
        ((w : List ℕ) (c : ℕ) → Right states s w c ↔ Right states t w c) →
        ((k l : ℕ) (x y : State) → k < i → l < j → slice_get states k ≡ Some x → slice_get states l ≡ Some y → ((w : List ℕ) (c : ℕ) → Right states x w c ↔ Right states y w c) → x ≡ y) →
        (e : Edge) → Contains s.edges e → Contains t.edges e
    half i j s t at there same below e has =
        let low = (fit i s at).within e has in
        let in' = slice_get_within states i s at in
        let x = got states e.target (omega (arith, low, in')) in
        let p = has_path (suc e.target) e.target (omega arith) x.0 x.1 in
        let q = (same (e.letter ∷ p.0) p.1).0 (e.target, x.0, has, x.1, p.2) in
        let low' = (fit j t there).within (edge e.letter q.0) q.2 in
        let states_same : x.0 ≡ q.1 = below e.target q.0 x.0 q.1 low low' x.1 q.3 (λ w c. (
          λ h. let r = (same (e.letter ∷ w) c).0 (e.target, x.0, has, x.1, h) in
              let one = one_edge t.edges (fit j t there).ascending (edge e.letter r.0) (edge e.letter q.0) r.2 q.2 refl in
              let one' : r.0 ≡ q.0 = ap (λ (d : Edge). d.target) one in
              let is : r.1 ≡ q.1 = same_Some r.1 q.1 (sym r.3 ∙ (ap (slice_get states) one' ∙ q.3)) in
              subst (λ (z : State). Right states z w c) is r.4,
          λ h. let r = (same (e.letter ∷ w) c).1 (q.0, q.1, q.2, q.3, h) in
              let one = one_edge s.edges (fit i s at).ascending (edge e.letter r.0) e r.2 has refl in
              let one' : r.0 ≡ e.target = ap (λ (d : Edge). d.target) one in
              let is : r.1 ≡ x.0 = same_Some r.1 x.0 (sym r.3 ∙ (ap (slice_get states) one' ∙ x.1)) in
              subst (λ (z : State). Right states z w c) is r.4,
        )) in
        let numbers : q.0 ≡ e.target = once q.0 e.target q.1 q.3 (x.1 ∙ ap Some states_same) in
        subst (λ n. Contains t.edges (edge e.letter n)) numbers q.2

    same_states : (n i j : ℕ) → i < n → (s t : State) → slice_get states i ≡ Some s → slice_get states j ≡ Some t →
        ((w : List ℕ) (c : ℕ) → Right states s w c ↔ Right states t w c) → s ≡ t
    same_states zero i j less s t at there same = absurd (omega (arith, less))
    same_states (suc n) i j less s t at there same =
        let codes = same_code s.code t.code (λ c. same [] c) in
        let edges = same_edges s.edges t.edges (fit i s at).ascending (fit j t there).ascending
        (half i j s t at there same (λ k l x y k< l< ax ay h. same_states n k l (omega (arith, less, k<)) x y ax ay h))
        (half j i t s there at (λ w c. ((same w c).1, (same w c).0)) (λ k l x y k< l< ax ay h. sym (same_states n l k (omega (arith, less, l<)) y x ay ax (λ w c. ((h w c).1, (h w c).0))))) in
        λ z. record { code = codes z; edges = edges z }

    pub apart : (i j : ℕ) → i < length states → j < length states →
        ((w : List ℕ) (c : ℕ) → IsPath states i w c ↔ IsPath states j w c) → i ≡ j
    apart i j low high same =
        let s = got states i low in let t = got states j high in
        let is = same_states (suc i) i j (omega arith) s.0 t.0 s.1 t.1 (λ w c. (
          λ h. let q = (same w c).0 (s.0, s.1, h) in subst (λ (z : State). Right states z w c) (same_Some q.0 t.0 (sym q.1 ∙ t.1)) q.2,
          λ h. let q = (same w c).1 (t.0, t.1, h) in subst (λ (z : State). Right states z w c) (same_Some q.0 s.0 (sym q.1 ∙ s.1)) q.2,
        )) in
        once i j s.0 s.1 (t.1 ∙ ap Some (sym is))

leads_more : (states : List State) (u : List ℕ) (i j k a : ℕ) (s : State) → Leads states i u j → slice_get states j ≡ Some s → Contains s.edges (edge a k) → Leads states i (u ++ a ∷ []) k
leads_more states [] i j k a s h at has = (k, s, subst (λ n. slice_get states n ≡ Some s) (sym h) at, has, refl)
leads_more states (b ∷ u) i j k a s h at has = (h.0, h.1, h.2, h.3, leads_more states u h.0 j k a s h.4 at has)

-- where each state but the last has a step to it from a higher one, each is reached from the last
pub reached : (states : List State) (root : ℕ) → length states ≡ suc root →
    ((i : ℕ) (s : State) → slice_get states i ≡ Some s → IsFit i s) →
    ((i : ℕ) → i < root → (j a : ℕ) × (s : State) × (slice_get states j ≡ Some s) × Contains s.edges (edge a i)) →
    (n i : ℕ) → root ≤ i + n → i < length states → (u : List ℕ) × Leads states root u i
reached states root last fit used zero i far less = ([], let e : root ≡ i = omega (arith, last, far, less) in e)
reached states root last fit used (suc n) i far less = elim (eq-or-lt_of_le {n = i} {m = root} (omega (arith, last, less))) [
  | inl same ↦ ([], sym same)
  | inr low ↦
      let p = used i low in
      let up = (fit p.0 p.2 p.3).within (edge p.1 i) p.4 in
      let in' = slice_get_within states p.0 p.2 p.3 in
      let r = reached states root last fit used n p.0 (omega (arith, far, up)) in' in
      (r.0 ++ p.1 ∷ [], leads_more states r.0 root p.0 i p.1 p.2 r.1 p.3 p.4)
]
