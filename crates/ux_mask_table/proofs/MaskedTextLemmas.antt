-- Ends that were found from another place.
use Rattle.std.proofs.Common.{arith, ◌≡◌, ℕ, Bool, true, false, eqb, not, ◌+◌, ◌-◌, ◌<◌, List, [], ◌∷◌, ◌++◌, ◌↔◌, refl, sym, ap, subst, ◌∙◌, length, get_or, map, take, append_assoc, append-nil}
use Rattle.std.specs.Prelude.{Contains, IsTrue}
use Rattle.std.specs.List.Sorted.{IsStrictlyIncreasing}
use Rattle.std.proofs.lemmas.Bool.{eqb-true, eqb-false}
use Rattle.std.proofs.lemmas.List.{nil_from_length, get_or-map, get_or_default, length-map, map-append, take_more}
use Rattle.ux_base.proofs.FirstsLemmas.{Contains-none}
use Rattle.ux_base.proofs.JoinedLists.{contains_mapped}
use Rattle.ux_mask_table.specs.MaskTables.{TellsEnds}
use Rattle.ux_mask_table.specs.MaskedTexts.{AddsEnds}

-- an end that was found from another place
abbrev pub moved : (place from : ℕ) → ℕ → ℕ
moved place from end = place + (end - from)

-- one end more
pub moved_more : (place from : ℕ) (old now new ends : List ℕ) (i : ℕ) → i < length ends →
    now ≡ old ++ map (moved place from) (take i ends) →
    new ≡ now ++ moved place from (get_or ends i 0) ∷ [] →
    new ≡ old ++ map (moved place from) (take (i + 1) ends)
moved_more place from old now new ends i inside now_is new_is =
    let f = moved place from in
    let front : List ℕ = map f (take i ends) in
    let more : map f (take (i + 1) ends) ≡ front ++ f (get_or ends i 0) ∷ [] =
    ap (map f) (take_more ends i 0 inside) ∙ map-append f (take i ends) (get_or ends i 0 ∷ []) in
    new_is ∙ (ap (λ (l : List ℕ). l ++ f (get_or ends i 0) ∷ []) now_is
    ∙ (append_assoc old front (f (get_or ends i 0) ∷ []) ∙ ap (λ (l : List ℕ). old ++ l) (sym more)))

module _ (Takes : ℕ → ℕ → Type 0) (place : ℕ) (ahead : (k : ℕ) → Takes place k → place < k) where
  module _ (from : ℕ) (ends : List ℕ) (told : TellsEnds Takes place from ends) where
    has_at : (i : ℕ) → i < length ends → Contains ends (get_or ends i 0)
    has_at i low = (i, low, get_or_default ends i (get_or ends i 0) 0 low)

    taken : (end : ℕ) → Contains ends end → Takes place (moved place from end)
    taken end has =
        let behind = told.behind end has in
        let e : end ≡ from + (end - from) = omega (arith, behind) in
        (told.exactly (end - from)).0 (subst (λ n. Contains ends n) e has)

    found : (k : ℕ) → Takes place k → Contains ends (from + (k - place))
    found k takes =
        let low = ahead k takes in
        let e : k ≡ place + (k - place) = omega (arith, low) in
        (told.exactly (k - place)).1 (subst (λ n. Takes place n) e takes)

    -- an end is behind, and is taken
    pub told_at : (i : ℕ) → i < length ends →
        (from < get_or ends i 0) × Takes place (moved place from (get_or ends i 0))
    told_at i low =
        let has = has_at i low in
        (told.behind (get_or ends i 0) has, taken (get_or ends i 0) has)

    moved_exactly : (k : ℕ) → Contains (map (moved place from) ends) k ↔ Takes place k
    moved_exactly k = (λ has. there has, λ takes. back takes)
      where
        there : Contains (map (moved place from) ends) k → Takes place k
        there (i, inside, is) =
            let low : i < length ends =
            subst (λ n. i < n) (length-map ends (moved place from)) inside in
            let at : moved place from (get_or ends i 0) ≡ k =
            sym (get_or-map (moved place from) ends i 0 k low) ∙ is in
            subst (λ n. Takes place n) at (taken (get_or ends i 0) (has_at i low))

        back : Takes place k → Contains (map (moved place from) ends) k
        back takes =
            let low = ahead k takes in
            let e : moved place from (from + (k - place)) ≡ k = omega (arith, low) in
            subst (λ n. Contains (map (moved place from) ends) n) e
            (contains_mapped (moved place from) ends (from + (k - place)) (found k takes))

    moved_rises : IsStrictlyIncreasing (map (moved place from) ends)
    moved_rises = λ k inside.
        let len = length-map ends (moved place from) in
        let low : k < length ends = omega (arith, len, inside) in
        let next : k + 1 < length ends = omega (arith, len, inside) in
        let one = get_or-map (moved place from) ends k 0 0 low in
        let other = get_or-map (moved place from) ends (k + 1) 0 0 next in
        let up = told.ascending k next in
        let behind = told.behind (get_or ends k 0) (has_at k low) in
        omega (arith, one, other, up, behind)

    -- all of them are added
    pub moved_all : (old new : List ℕ) → new ≡ old ++ map (moved place from) ends →
        AddsEnds (Takes place) old new
    moved_all old new is = record {
      more = map (moved place from) ends;
      added = is;
      exactly = moved_exactly;
      ascending = moved_rises;
    }

    -- whether there are some
    pub some_there : (ends ≡ [] → ⊥) ↔ ((k : ℕ) × Takes place k)
    some_there = (λ some. there some, λ one none. back one none)
      where
        there : (ends ≡ [] → ⊥) → (k : ℕ) × Takes place k
        there some = first ends refl
          where
            first : (l : List ℕ) → ends ≡ l → (k : ℕ) × Takes place k
            first [] is = absurd (some is)
            first (end ∷ rest) is =
                let low : 0 < length ends = subst (λ (l : List ℕ). 0 < length l) (sym is) (omega arith) in
                (moved place from (get_or ends 0 0), taken (get_or ends 0 0) (has_at 0 low))

        back : (k : ℕ) × Takes place k → ends ≡ [] → ⊥
        back (k, takes) none =
            Contains-none (from + (k - place))
            (subst (λ (l : List ℕ). Contains l (from + (k - place))) none (found k takes))

    -- the same, by the test of their list
    pub some_test : (none : Bool) → none ≡ eqb (length ends) 0 →
        IsTrue (not none) ↔ ((k : ℕ) × Takes place k)
    some_test true is = (
      λ t. cc,
      λ some. absurd (some_there.1 some
          (nil_from_length ends (eqb-true (length ends) 0 (sym is)))),
    )
    some_test false is = (
      λ t. some_there.0 (λ none. absurd (eqb-false (length ends) 0 (sym is) (ap length none))),
      λ some. refl,
    )

  -- nothing is taken there
  pub adds_none : ((k : ℕ) → Takes place k → ⊥) → (old : List ℕ) → AddsEnds (Takes place) old old
  adds_none never old = record {
    more = [];
    added = sym (append-nil old);
    exactly = λ k. (λ has. absurd (Contains-none k has), λ takes. absurd (never k takes));
    ascending = λ k inside. absurd (omega (arith, inside));
  }
