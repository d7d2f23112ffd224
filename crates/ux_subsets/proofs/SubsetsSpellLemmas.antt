-- What an automaton of subsets spells.
use Rattle.std.proofs.Common.{arith, ◌≡◌, ◌≢◌, ℕ, ◌<◌, ◌≤◌, ◌↔◌, ◌⊎◌, inl, inr, List, [], ◌∷◌, ◌++◌, refl, sym, subst, ◌∙◌, append_assoc}
use Rattle.std.specs.Prelude.{Contains, nat_lt, Bool, true, false}
use Rattle.ux_subsets.specs.declared.automaton.Link.{Link}
use Rattle.ux_subsets.specs.Paths.{link, IsPath, readings_of, IsAscending}
use Rattle.ux_subsets.specs.Machines.{AreSubsets}
use Rattle.ux_subsets.proofs.SpellingLemmas.{Reads, climbs, spells_iff, same_link}

pub below_or_last : (k last : ℕ) → k ≤ last → (k < last) ⊎ (k ≡ last)
below_or_last k last le = by (nat_lt k last) refl
  where
    by : (b : Bool) → nat_lt k last ≡ b → (k < last) ⊎ (k ≡ last)
    by true e = inl (grind arith)
    by false e = inr (grind arith)

module _ {Q : Type 0} (Stands : Q → List ℕ → Type 0) (Satisfies : List ℕ → Type 0) (last : ℕ) (links : List Link) (up : IsAscending last links)
    (At : ℕ → ℕ → Type 0) (seen : ℕ → Q) (last' : ℕ) (links' : List Link)
    (are : AreSubsets Stands Satisfies last links At seen last' links') where
  pub up' : IsAscending last' links'
  up' = record { ascends = are.ascending; within = are.within }

  -- the set of n spells the list, and with what came before it satisfies
  pub record Holds (n : ℕ) (before readings : List ℕ) : Type 0 where
    pub state : ℕ
    pub at : At n state
    pub reads : Reads links state last readings
    pub satisfies : Satisfies (before ++ readings)

  joined : (before readings : List ℕ) (r : ℕ) → (before ++ r ∷ []) ++ readings ≡ before ++ r ∷ readings
  joined before readings r = rw append_assoc refl

  -- a state below the last spells to the last what its set spells, and what satisfies
  pub spells_on : (readings before : List ℕ) (n : ℕ) → Stands (seen n) before → n < last' → Reads links' n last' readings → Holds n before readings
  spells_on [] before n stands lt h = absurd (omega arith)
  spells_on (r ∷ readings) before n stands lt h = elim (below_or_last h.0 last' (are.within (link n h.0 r) h.1)) [
    | inl below ↦
        let g = are.goes n h.0 r below h.1 in
        let rest = spells_on readings (before ++ r ∷ []) h.0 (are.sees n h.0 r below h.1 before stands) below h.2 in
        let enters = ((g rest.state).0 rest.at).1 in
        record {
          state = enters.0;
          at = enters.1;
          reads = (rest.state, enters.2, rest.reads);
          satisfies = subst Satisfies (joined before readings r) rest.satisfies;
        }
    | inr is ↦ over readings (subst (λ (t : ℕ). Reads links' t last' readings) is h.2) (subst (λ (t : ℕ). Contains links' (link n t r)) is h.1)
  ]
    where
      over : (rest : List ℕ) → Reads links' last' last' rest → Contains links' (link n last' r) → Holds n before (r ∷ rest)
      over [] e l = let o = (are.over n r lt before stands).0 l in
          record { state = o.0.0; at = o.0.1; reads = (last, o.0.2, refl); satisfies = o.1 }
      over (x ∷ rest) e l = let gone = are.from_inside (link last' e.0 x) e.1 in absurd (omega (arith, gone))

  pub spelled_on : (readings before : List ℕ) (n : ℕ) → Stands (seen n) before → n < last' → (s : ℕ) → At n s → Reads links s last readings →
      Satisfies (before ++ readings) → s < last → Reads links' n last' readings
  spelled_on [] before n stands lt s at h satisfies inside = absurd (omega (arith, h))
  spelled_on (r ∷ readings) before n stands lt s at h satisfies inside = elim (below_or_last h.0 last (up.within (link s h.0 r) h.1)) [
    | inl below ↦
        let different : h.0 ≢ last = λ e. omega (arith, e, below) in
        let k = are.going n r h.0 lt different (s, at, h.1) in
        let g = are.goes n k.0 r k.1 k.2 in (
          k.0,
          k.2,
          spelled_on readings (before ++ r ∷ []) k.0 (are.sees n k.0 r k.1 k.2 before stands) k.1 h.0 ((g h.0).1 (different, (s, at, h.1))) h.2
              (subst Satisfies (sym (joined before readings r)) satisfies) below,
        )
    | inr is ↦ over readings (subst (λ (t : ℕ). Reads links t last readings) is h.2) (subst (λ (t : ℕ). Contains links (link s t r)) is h.1) satisfies
  ]
    where
      over : (rest : List ℕ) → Reads links last last rest → Contains links (link s last r) → Satisfies (before ++ r ∷ rest) →
          Reads links' n last' (r ∷ rest)
      over [] e l a = (last', (are.over n r lt before stands).1 ((s, at, l), a), refl)
      over (x ∷ rest) e l a =
          let rises = up.ascends (link last e.0 x) e.1 in
          let ends = up.within (link last e.0 x) e.1 in absurd (omega (arith, rises, ends))

  below : (l : Link) → Contains links' l → (b : ℕ) → b < last' → (readings : List ℕ) → Reads links' l.to b readings → l.to < last'
  below l at b lt readings h = let c = climbs links' last' up' readings l.to b h in omega (arith, c)

  -- one list leads to one state below the last
  pub reached_once : (readings : List ℕ) (n a b : ℕ) → a < last' → b < last' → Reads links' n a readings → Reads links' n b readings → a ≡ b
  reached_once [] n a b lt lt' h k = sym h ∙ k
  reached_once (r ∷ readings) n a b lt lt' h k =
      let e = are.once n h.0 k.0 r (below (link n h.0 r) h.1 a lt readings h.2) (below (link n k.0 r) k.1 b lt' readings k.2) h.1 k.1 in
      reached_once readings k.0 a b lt lt' (subst (λ (t : ℕ). Reads links' t a readings) e h.2) k.2

  ends_at_last : (q : List Link) (a : ℕ) → a ≡ last' → IsPath links' a last' q → readings_of q ≡ []
  ends_at_last [] a e h = refl
  ends_at_last (l ∷ q) a e h = let gone = are.from_inside l h.0 in let from = h.1 in absurd (omega (arith, gone, from, e))

  nothing_read : (q : List Link) (a b : ℕ) → readings_of q ≡ [] → IsPath links' a b q → a ≡ b
  nothing_read [] a b e h = h
  nothing_read (l ∷ q) a b e h = cc

  one_target : (l m : Link) (p q : List Link) (n : ℕ) → IsPath links' n last' (l ∷ p) → IsPath links' n last' (m ∷ q) →
      l.reading ≡ m.reading → readings_of p ≡ readings_of q → l.to ≡ m.to
  one_target l m p q n h k same rest = elim (below_or_last l.to last' (are.within l h.0)) [
    | inl lt ↦ elim (below_or_last m.to last' (are.within m k.0)) [
      | inl lt' ↦ are.once n l.to m.to l.reading lt lt'
          (subst (λ (a : ℕ). Contains links' (link a l.to l.reading)) h.1 h.0)
          (subst (λ (r : ℕ). Contains links' (link n m.to r)) (sym same) (subst (λ (a : ℕ). Contains links' (link a m.to m.reading)) k.1 k.0))
      | inr e ↦ nothing_read p l.to last' (rest ∙ ends_at_last q m.to e k.2) h.2 ∙ sym e
    ]
    | inr e ↦ e ∙ sym (nothing_read q m.to last' (sym rest ∙ ends_at_last p l.to e h.2) k.2)
  ]

  -- a path to the last state is told by its readings
  pub path_once : (p q : List Link) (n : ℕ) → IsPath links' n last' p → IsPath links' n last' q → readings_of p ≡ readings_of q → p ≡ q
  path_once [] [] n h k e = refl
  path_once [] (l ∷ q) n h k e = cc
  path_once (l ∷ p) [] n h k e = cc
  path_once (l ∷ p) (m ∷ q) n h k e =
      let same : l.reading ≡ m.reading = cc in
      let rest : readings_of p ≡ readings_of q = cc in
      let to = one_target l m p q n h k same rest in
      let from : l.from ≡ m.from = h.1 ∙ sym k.1 in
      let one : l ≡ m = same_link l.from m.from l.to m.to l.reading m.reading from to same in
      let others = path_once p q m.to (subst (λ (t : ℕ). IsPath links' t last' p) to h.2) k.2 rest in
      cc

  pub exact : 0 < last → 0 < last' → (readings : List ℕ) →
      Reads links' 0 last' readings ↔ (Reads links 0 last readings × Satisfies readings)
  exact some some' readings = (
    λ h. let o = spells_on readings [] 0 are.fresh some' h in
        (subst (λ (s : ℕ). Reads links s last readings) ((are.first o.state).0 o.at) o.reads, o.satisfies),
    λ h. spelled_on readings [] 0 are.fresh some' 0 ((are.first 0).1 refl) h.0 h.1 some,
  )

  pub reached_by : (n : ℕ) → n < last' → (readings : List ℕ) × Reads links' 0 n readings
  reached_by n lt = let r = are.reached n lt in (r.0, (spells_iff links' r.0 0 n).0 r.1)
