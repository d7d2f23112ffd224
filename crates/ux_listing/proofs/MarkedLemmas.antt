-- Marks are added back from marked items, number by number.
use Rattle.std.proofs.Common.{arith, ◌≡◌, ℕ, ◌+◌, ◌<◌, ◌≤◌, List, inl, inr, sym, ap, subst, ◌∙◌, length, take, get_or}
use Rattle.std.specs.Prelude.{Some, None, slice_get, Contains}
use Rattle.std.proofs.lemmas.Option.{same_Some, slice_get_within, slice_get-get_or}
use Rattle.ux_listing.specs.declared.config.Item.{Item}
use Rattle.ux_listing.specs.declared.config.Item.TheVariants.{Ends}
use Rattle.ux_listing.specs.Marking.{AreClosed, AreEndsMarked, end_of}
use Rattle.ux_listing.specs.Sets.{Keeps}
use Rattle.ux_listing.proofs.ReachingLemmas.{last_or_before}
use Rattle.ux_listing.proofs.SetsLemmas.{place_of, still, taken_all, taken_cases, taken_none, was_at}

-- more numbers keep the ends marked
pub ends_kept : (seen : List Item) (Wanted : ℕ → Type 0) (start : ℕ) (old new : List ℕ) →
    ((n : ℕ) → Contains old n → Contains new n) → AreEndsMarked seen Wanted start old →
    AreEndsMarked seen Wanted start new
ends_kept seen Wanted start old new more marked e n want at = more n (marked e n want at)

module _ (seen : List Item) (ends : List ℕ) (start : ℕ) where
  -- the first so many ends are marked
  abbrev pub FirstEnds : ℕ → List ℕ → Type 0
  FirstEnds i numbers = AreEndsMarked seen (Contains (take i ends)) start numbers

  pub ends_none : (numbers : List ℕ) → FirstEnds 0 numbers
  ends_none numbers e n want at = absurd (taken_none ends want)

  pub ends_more : (i end : ℕ) → i < length ends → end ≡ get_or ends i end → (old new : List ℕ) →
      ((n : ℕ) → Contains old n → Contains new n) →
      ((n : ℕ) → slice_get seen n ≡ Some (Ends (end_of 1 start end)) → Contains new n) →
      FirstEnds i old → FirstEnds (i + 1) new
  ends_more i end lt is old new more has before e n want at = elim (taken_cases ends i end e lt is want) [
    | inl o ↦ more n (before e n o at)
    | inr same ↦ has n (subst (λ (k : ℕ). slice_get seen n ≡ Some (Ends (end_of 1 start k))) same at)
  ]

  pub ends_all : (i : ℕ) (numbers : List ℕ) → length ends ≤ i → FirstEnds i numbers →
      AreEndsMarked seen (Contains ends) start numbers
  ends_all i numbers past before =
      subst (λ (l : List ℕ). AreEndsMarked seen (Contains l) start numbers)
      (taken_all ends i past) before

module _ (told : (item origin : ℕ) → Type 0) where
  -- that from which one of the first so many comes is marked
  abbrev pub IsClosedUpTo : ℕ → List ℕ → Type 0
  IsClosedUpTo n numbers = (k item origin : ℕ) → k < n → slice_get numbers k ≡ Some item →
      told item origin → Contains numbers origin

  pub closed_begins : (numbers : List ℕ) → IsClosedUpTo 0 numbers
  closed_begins numbers k item origin below = absurd (omega (arith, below))

  -- one more was gone back from
  pub closed_on : (old new : List ℕ) (n item : ℕ) → slice_get old n ≡ Some item → Keeps old new →
      ((origin : ℕ) → told item origin → Contains new origin) → IsClosedUpTo n old →
      IsClosedUpTo (n + 1) new
  closed_on old new n item at kept has before k other origin below here t =
      let within = slice_get_within old n item at in
      let was = was_at old new kept k (omega (arith, below, within)) other here in
      elim (last_or_before k n below) [
        | inl last ↦ has origin (subst (λ (i : ℕ). told i origin)
            (same_Some other item (sym was ∙ (ap (λ (i : ℕ). slice_get old i) last ∙ at))) t)
        | inr earlier ↦ still _ _ kept origin (before k other origin earlier was t)
      ]

  -- nothing is left
  pub closed_ends : (numbers : List ℕ) (n : ℕ) → None ≡ slice_get numbers n →
      IsClosedUpTo n numbers → AreClosed told numbers
  closed_ends numbers n past before item origin t h =
      let p = place_of numbers item h in
      let within = p.1 in
      let all : (n < length numbers → ⊥) = λ l.
      let no : None ≡ Some (get_or numbers n item) = past ∙ slice_get-get_or numbers n item l in cc in
      before p.0 item origin (omega arith) p.2 t
