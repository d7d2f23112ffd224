-- Arcs in the order of the positions from which they lead, and where those of each position begin.
use Rattle.std.proofs.Common.{arith, ◌≡◌, ℕ, zero, suc, ◌+◌, ◌-◌, ◌<◌, ◌≤◌, List, [], ◌∷◌, ◌++◌, inl, inr, refl, sym, ◌∙◌, ap, subst, length, get_or, take, drop, length-drop}
use Rattle.std.specs.Prelude.{Contains, slice_range}
use Rattle.std.proofs.lemmas.List.{get_or_default, get_or_past}
use Rattle.std.proofs.lemmas.List.Elements.{Contains-append_left, Contains-push, Contains-push_cases}
use Rattle.ux_base.proofs.Lists.{less_or, nothing_in}
use Rattle.ux_tfst_locate.specs.declared.lattice.Arc.{Arc}
use Rattle.ux_tfst_locate.specs.declared.lattice.Place.{Place}
use Rattle.ux_tfst_locate.specs.declared.lattice.SentenceLink.{SentenceLink}
use Rattle.ux_tfst_locate.specs.Lattices.{AreArcs, AreStarts, HaveArcs, IsArcOf, from_at, start_at}

-- a place in the front of a list is below its length, and in the list
within_take : {X : Type 0} (k : ℕ) (xs : List X) (n : ℕ) → n < length (take k xs) →
    (n < k) × (n < length xs)
within_take zero xs n h = absurd (omega (arith, h))
within_take (suc k) [] n h = absurd (omega (arith, h))
within_take (suc k) (x ∷ xs) zero h = (omega arith, omega arith)
within_take (suc k) (x ∷ xs) (suc n) h =
    let r = within_take k xs n (omega (arith, h)) in
    (omega (arith, r.0), omega (arith, r.1))

-- and such a place is in the front
take_within : {X : Type 0} (k : ℕ) (xs : List X) (n : ℕ) → n < k → n < length xs →
    n < length (take k xs)
take_within zero xs n low inside = absurd (omega (arith, low))
take_within (suc k) [] n low inside = absurd (omega (arith, inside))
take_within (suc k) (x ∷ xs) zero low inside = omega arith
take_within (suc k) (x ∷ xs) (suc n) low inside =
    let r = take_within k xs n (omega (arith, low)) (omega (arith, inside)) in
    omega (arith, r)

-- what stands at a place of the front stands there in the list
take_get : {X : Type 0} (k : ℕ) (xs : List X) (n : ℕ) (d : X) → n < k →
    get_or (take k xs) n d ≡ get_or xs n d
take_get zero xs n d low = absurd (omega (arith, low))
take_get (suc k) [] n d low = refl
take_get (suc k) (x ∷ xs) zero d low = refl
take_get (suc k) (x ∷ xs) (suc n) d low = take_get k xs n d (omega (arith, low))

-- and behind so many
drop_get : {X : Type 0} (k : ℕ) (xs : List X) (n : ℕ) (d : X) →
    get_or (drop k xs) n d ≡ get_or xs (k + n) d
drop_get zero xs n d = let e : n ≡ 0 + n = omega arith in ap (λ m. get_or xs m d) e
drop_get (suc k) [] n d = refl
drop_get (suc k) (x ∷ xs) n d =
    let e : suc (k + n) ≡ suc k + n = omega arith in
    drop_get k xs n d ∙ ap (λ m. get_or (x ∷ xs) m d) e

abbrev none : Arc
none = record { from = 0; to = 0; reading = 0 }

-- no link has an arc yet
pub arcs_none : (places : List Place) (arcs : List Arc) → arcs ≡ [] → AreArcs places [] arcs
arcs_none places arcs empty = subst (AreArcs places []) (sym empty) (record {
  each = λ arc has. absurd (nothing_in has);
  all = λ link has. absurd (nothing_in has);
})

-- one more link has its arc
pub arcs_more : (places : List Place) (links : List SentenceLink) (link : SentenceLink)
    (arcs new : List Arc) (arc : Arc) → new ≡ arcs ++ arc ∷ [] → IsArcOf places link arc.from arc →
    AreArcs places links arcs → AreArcs places (links ++ link ∷ []) new
arcs_more places links link arcs new arc put is have =
    subst (AreArcs places (links ++ link ∷ [])) (sym put) (record {
      each = λ one has. elim (Contains-push_cases arcs arc one has) [
        | inl before ↦
            let told = have.each one before in
            (told.0, Contains-append_left links (link ∷ []) told.0 told.1, told.2)
        | inr same ↦ (
          link,
          Contains-push links link,
          subst (λ (a : Arc). IsArcOf places link a.from a) same is,
        )
      ];
      all = λ one has. elim (Contains-push_cases links link one has) [
        | inl before ↦
            let told = have.all one before in
            (told.0, Contains-append_left arcs (arc ∷ []) told.0 told.1, told.2)
        | inr same ↦ (
          arc,
          Contains-push arcs arc,
          subst (λ (l : SentenceLink). IsArcOf places l arc.from arc) same is,
        )
      ];
    })

-- the same arcs in another order
pub arcs_moved : (places : List Place) (links : List SentenceLink) (arcs new : List Arc) →
    ((arc : Arc) → Contains arcs arc → Contains new arc) →
    ((arc : Arc) → Contains new arc → Contains arcs arc) →
    AreArcs places links arcs → AreArcs places links new
arcs_moved places links arcs new forth back have = record {
  each = λ arc has. have.each arc (back arc has);
  all = λ link has.
      let told = have.all link has in
      (told.0, forth told.0 told.1, told.2);
}

module _ (arcs : List Arc) (n : ℕ) where
  -- the first n arcs are in order
  abbrev pub AreInOrderTo : Type 0
  AreInOrderTo = (i j : ℕ) → i ≤ j → j < n → from_at arcs i ≤ from_at arcs j

-- a place is put as the start of each position up to one
pub record IsStartedTo (old : List ℕ) (position place : ℕ) (new : List ℕ) : Type 0 where
  pub longer : length old ≤ length new
  pub same : (i : ℕ) → i < length old → start_at new i ≡ start_at old i
  pub put : (i : ℕ) → length old ≤ i → i < length new → (start_at new i ≡ place) × (i ≤ position)

module _ (arcs : List Arc) (starts : List ℕ) (told : AreStarts arcs starts) where
  -- what stands in the row of a position leads from it
  pub in_row : (i : ℕ) (arc : Arc) →
      Contains (slice_range arcs (start_at starts i) (start_at starts (i + 1))) arc →
      Contains arcs arc × (arc.from ≡ i)
  in_row i arc (n, inside, is) =
      let s = start_at starts i in
      let e = start_at starts (i + 1) in
      let w = within_take (e - s) (drop s arcs) n inside in
      let long = length-drop s arcs in
      let below : s + n < length arcs = omega (arith, w.1, long) in
      let before : s + n < e = omega (arith, w.0) in
      let here : get_or arcs (s + n) arc ≡ arc =
      sym (drop_get s arcs n arc) ∙ (sym (take_get (e - s) (drop s arcs) n arc w.0) ∙ is) in
      let from : from_at arcs (s + n) ≡ arc.from =
      ap (λ (a : Arc). a.from) (get_or_default arcs (s + n) none arc below ∙ here) in
      elim (less_or (i + 1) (length starts)) [
        | inl l ↦
            let low = (told.each i (omega (arith, l)) (s + n) below).0 (omega arith) in
            let high = told.each (i + 1) l (s + n) below in
            let up : from_at arcs (s + n) < i + 1 = elim (less_or (from_at arcs (s + n)) (i + 1)) [
              | inl less ↦ less
              | inr m ↦ let ge = high.1 m in absurd (omega (arith, ge, before))
            ] in
            ((s + n, below, here), omega (arith, from, low, up))
        | inr m ↦
            let zero_end = get_or_past starts (i + 1) 0 m in
            absurd (omega (arith, zero_end, before))
      ]

  -- and an arc stands in the row of the position from which it leads
  pub at_row : (arc : Arc) → Contains arcs arc →
      Contains (slice_range arcs (start_at starts arc.from) (start_at starts (arc.from + 1))) arc
  at_row arc (k, inside, is) =
      let i = arc.from in
      let s = start_at starts i in
      let e = start_at starts (i + 1) in
      let from : from_at arcs k ≡ i =
      ap (λ (a : Arc). a.from) (get_or_default arcs k none arc inside ∙ is) in
      let past = told.past k inside in
      let low : s ≤ k = (told.each i (omega (arith, past, from)) k inside).1 (omega (arith, from)) in
      let high = told.each (i + 1) (omega (arith, past, from)) k inside in
      let up : k < e = elim (less_or k e) [
        | inl l ↦ l
        | inr m ↦ let ge = high.0 m in absurd (omega (arith, ge, from))
      ] in
      let long = length-drop s arcs in
      let there : s + (k - s) ≡ k = omega (arith, low) in (
        k - s,
        take_within (e - s) (drop s arcs) (k - s) (omega (arith, low, up))
            (omega (arith, low, inside, long)),
        take_get (e - s) (drop s arcs) (k - s) arc (omega (arith, low, up))
            ∙ (drop_get s arcs (k - s) arc ∙ (ap (λ m. get_or arcs m arc) there ∙ is)),
      )

  -- so rows have the arcs of the links
  pub have_arcs : (places : List Place) (links : List SentenceLink) → AreArcs places links arcs →
      HaveArcs places links (λ i. slice_range arcs (start_at starts i) (start_at starts (i + 1)))
  have_arcs places links are = record {
    each = λ i arc has.
        let in_it = in_row i arc has in
        let of = are.each arc in_it.0 in
        (of.0, of.1, subst (λ n. IsArcOf places of.0 n arc) in_it.1 of.2);
    all = λ link has.
        let of = are.all link has in
        (of.0.from, of.0, at_row of.0 of.1, of.2);
  }
