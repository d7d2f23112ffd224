-- Rows of spans: how they are looked up, and how they grow.
use Rattle.std.proofs.Common.{arith, ◌≡◌, ℕ, ◌+◌, ◌-◌, ◌<◌, ◌≤◌, List, [], ◌∷◌, ◌++◌, ◌⊎◌, ◌↔◌, inl, inr, refl, sym, ap, subst, ◌∙◌, length, get_or, map, take, drop, append_assoc, length-append, length-drop}
use Rattle.std.specs.Prelude.{Contains, slice_index, slice_range}
use Rattle.std.specs.List.Sorted.{IsNonDecreasing, IsStrictlyIncreasing}
use Rattle.std.proofs.lemmas.List.{take_more, map-append, get_or-take, get_or-drop, get_or-map, get_or_append_left, get_or-append-add, get_or_default, length-take-le, length-map}
use Rattle.std.proofs.lemmas.List.Kept.{AllPairs-from_increasing}
use Rattle.std.proofs.lemmas.List.Sorted.{IsNonDecreasingBy-from_default}
use Rattle.ux_base.proofs.Lists.{less_or}
use Rattle.ux_mask_table.specs.declared.spans.Stretch.{Stretch}
use Rattle.ux_mask_table.specs.declared.spans.Spans.{Spans}
use Rattle.ux_mask_table.specs.Spans.{number_at, end_at, ArePaired, StandsBefore, IsOrdered, HasEnd, IsRow, AreKept}

-- an element of a stretch
cut_at : (xs : List ℕ) (from to i : ℕ) → from + i < to →
    get_or (slice_range xs from to) i 0 ≡ get_or xs (from + i) 0
cut_at xs from to i low =
    get_or-take (to - from) (drop from xs) i 0 (omega arith) ∙ get_or-drop from xs i 0

pub cut_len : (xs : List ℕ) (from to : ℕ) → from ≤ to → to ≤ length xs →
    length (slice_range xs from to) ≡ to - from
cut_len xs from to le inside =
    let d = length-drop from xs in
    length-take-le (to - from) (drop from xs) (omega (arith, d))

-- a list that contains a number has it at some place
at_zero : (xs : List ℕ) (k : ℕ) → Contains xs k →
    (i : ℕ) × (i < length xs) × (get_or xs i 0 ≡ k)
at_zero xs k (i, inside, is) = (i, inside, sym (get_or_default xs i k 0 inside) ∙ is)

holds_at : (xs : List ℕ) (k i : ℕ) → i < length xs → get_or xs i 0 ≡ k → Contains xs k
holds_at xs k i inside is = (i, inside, get_or_default xs i k 0 inside ∙ is)

-- so many numbers of a row are below a number, and so many aren't above it
pub record IsBetween (items : List ℕ) (row : Stretch) (number first last : ℕ) : Type 0 where
  pub few : first ≤ length (slice_range items row.from row.to)
  pub some : last ≤ length (slice_range items row.from row.to)
  pub before : (k : ℕ) → k < first → slice_index (slice_range items row.from row.to) k < number
  pub after : (k : ℕ) → first ≤ k → k < length (slice_range items row.from row.to) →
      number ≤ slice_index (slice_range items row.from row.to) k
  pub up_to : (k : ℕ) → k < last → slice_index (slice_range items row.from row.to) k ≤ number
  pub past : (k : ℕ) → last ≤ k → k < length (slice_range items row.from row.to) →
      number < slice_index (slice_range items row.from row.to) k

module _ (spans : Spans) (row : Stretch) (o : IsOrdered spans row) where
  never_falls : (i j : ℕ) → row.from ≤ i → i ≤ j → j < row.to →
      number_at spans i ≤ number_at spans j
  never_falls i j from le to = elim (less_or i j) [
    | inl l ↦ elim (o.ascends i j from l to) [
      | inl below ↦ omega arith
      | inr same ↦ let e = same.0 in omega (arith, e)
    ]
    | inr m ↦
        let e : i ≡ j = omega arith in
        let same = ap (λ n. number_at spans n) e in
        omega (arith, same)
  ]

  abbrev numbers : List ℕ
  numbers = slice_range spans.numbers.items row.from row.to

  pub numbers_len : length numbers ≡ row.to - row.from
  numbers_len = cut_len spans.numbers.items row.from row.to o.from o.to

  pub numbers_rise : IsNonDecreasing numbers
  numbers_rise = IsNonDecreasingBy-from_default (λ n. n) numbers 0 (λ i j le inside.
      let len = numbers_len in
      let a = cut_at spans.numbers.items row.from row.to i (omega (arith, len)) in
      let b = cut_at spans.numbers.items row.from row.to j (omega (arith, len)) in
      let up = never_falls (row.from + i) (row.from + j) (omega arith) (omega arith)
      (omega (arith, len)) in
      omega (arith, a, b, up))

  module _ (number first last : ℕ) (b : IsBetween spans.numbers.items row number first last) where
    pub first_last : first ≤ last
    first_last = elim (less_or last first) [
      | inl l ↦
          let few = b.few in
          let low = b.before last l in
          let high = b.past last (omega arith) (omega arith) in
          absurd (omega (arith, low, high))
      | inr m ↦ m
    ]

    abbrev found : List ℕ
    found = slice_range spans.ends.items (row.from + first) (row.from + last)

    pub last_inside : row.from + last ≤ length spans.ends.items
    last_inside =
        let len = numbers_len in
        let some = b.some in
        let pair = o.paired in
        let to = o.to in
        let from = o.from in
        omega (arith, len, some, pair, to, from)

    found_len : length found ≡ last - first
    found_len =
        let fl = first_last in
        let len = cut_len spans.ends.items (row.from + first) (row.from + last) (omega (arith, fl))
        last_inside in
        omega (arith, len)

    found_at : (i : ℕ) → first + i < last →
        get_or found i 0 ≡ end_at spans (row.from + (first + i))
    found_at i low =
        cut_at spans.ends.items (row.from + first) (row.from + last) i (omega arith)
        ∙ ap (λ n. end_at spans n) (omega arith)

    number_is : (i : ℕ) → first + i < last → number_at spans (row.from + (first + i)) ≡ number
    number_is i low =
        let len = numbers_len in
        let some = b.some in
        let is = cut_at spans.numbers.items row.from row.to (first + i) (omega (arith, len)) in
        let a = b.after (first + i) (omega arith) (omega arith) in
        let u = b.up_to (first + i) low in
        omega (arith, is, a, u)

    pub found_exactly : (k : ℕ) → Contains found k ↔ HasEnd spans row number k
    found_exactly k = (λ h. there h, λ h. back h)
      where
        there : Contains found k → HasEnd spans row number k
        there h =
            let here = at_zero found k h in
            let i = here.0 in
            let fl = found_len in
            let low : first + i < last = omega (arith, fl, here.1) in
            let len = numbers_len in
            let some = b.some in
            record {
              place = row.from + (first + i);
              from = omega arith;
              to = omega (arith, len);
              number_is = number_is i low;
              end_is = sym (found_at i low) ∙ here.2;
            }

        back : HasEnd spans row number k → Contains found k
        back h =
            let from = h.from in
            let to = h.to in
            let n = h.place - row.from in
            let e : row.from + n ≡ h.place = omega arith in
            let len = numbers_len in
            let at = cut_at spans.numbers.items row.from row.to n (omega (arith, e)) in
            let same = ap (λ m. number_at spans m) e in
            let num = h.number_is in
            let is : get_or numbers n 0 ≡ number = at ∙ (same ∙ num) in
            let high : first ≤ n = elim (less_or n first) [
              | inl l ↦ let a = b.before n l in absurd (omega (arith, a, is))
              | inr m ↦ m
            ] in
            let low : n < last = elim (less_or n last) [
              | inl l ↦ l
              | inr m ↦ let p = b.past n m (omega (arith, len, e)) in absurd (omega (arith, p, is))
            ] in
            let f : first + (n - first) ≡ n = omega arith in
            let fl = found_len in
            holds_at found k (n - first) (omega (arith, fl))
            (found_at (n - first) (omega arith)
            ∙ (ap (λ m. end_at spans (row.from + m)) f
            ∙ (ap (λ m. end_at spans m) e ∙ h.end_is)))

    pub found_rises : IsStrictlyIncreasing found
    found_rises = λ k inside.
        let fl = found_len in
        let low : first + k < last = omega (arith, fl) in
        let next : first + (k + 1) < last = omega (arith, fl) in
        let some = b.some in
        let x = found_at k low in
        let y = found_at (k + 1) next in
        let m = number_is k low in
        let n = number_is (k + 1) next in
        let len = numbers_len in
        elim (o.ascends (row.from + (first + k)) (row.from + (first + (k + 1))) (omega arith)
        (omega arith) (omega (arith, len))) [
          | inl below ↦ absurd (omega (arith, m, n, below))
          | inr same ↦ let up = same.1 in omega (arith, x, y, up)
        ]

-- what is kept
pub kept_same : (spans : Spans) → AreKept spans spans
kept_same spans = record { len = omega arith; numbers = λ i low. refl; ends = λ i low. refl }

pub kept_both : (old mid new : Spans) → AreKept old mid → AreKept mid new → AreKept old new
kept_both old mid new a b = record {
  len = let p = a.len in let q = b.len in omega arith;
  numbers = λ i low. let p = a.len in b.numbers i (omega arith) ∙ a.numbers i low;
  ends = λ i low. let p = a.len in b.ends i (omega arith) ∙ a.ends i low;
}

module _ (old new : Spans) (kept : AreKept old new) (paired : ArePaired new) where
  before_kept : (i j : ℕ) → i < length old.numbers.items → j < length old.numbers.items →
      StandsBefore old i j → StandsBefore new i j
  before_kept i j a b (inl below) =
      let p = kept.numbers i a in let q = kept.numbers j b in inl (omega (arith, p, q))
  before_kept i j a b (inr (same, below)) =
      let p = kept.numbers i a in
      let q = kept.numbers j b in
      let r = kept.ends i a in
      let s = kept.ends j b in
      inr (omega (arith, p, q, same), omega (arith, r, s))

  has_kept : (row : Stretch) (number k : ℕ) → row.to ≤ length old.numbers.items →
      HasEnd old row number k ↔ HasEnd new row number k
  has_kept row number k inside = (
    λ h. let to = h.to in record {
      place = h.place;
      from = h.from;
      to = to;
      number_is = kept.numbers h.place (omega arith) ∙ h.number_is;
      end_is = kept.ends h.place (omega arith) ∙ h.end_is;
    },
    λ h. let to = h.to in record {
      place = h.place;
      from = h.from;
      to = to;
      number_is = sym (kept.numbers h.place (omega arith)) ∙ h.number_is;
      end_is = sym (kept.ends h.place (omega arith)) ∙ h.end_is;
    },
  )

  -- a row that is over
  pub row_kept : (IsEnd : ℕ → ℕ → Type 0) (row : Stretch) (bound : ℕ) →
      IsRow old IsEnd row bound → IsRow new IsEnd row bound
  row_kept IsEnd row bound r =
      let o = r.ordered in
      let inside = o.to in
      record {
        ordered = record {
          from = o.from;
          to = let len = kept.len in omega arith;
          paired = paired;
          ascends = λ i j from lt to.
              before_kept i j (omega arith) (omega arith) (o.ascends i j from lt to);
        };
        below = λ place from to.
            let b = r.below place from to in
            let same = kept.numbers place (omega arith) in
            omega (arith, same);
        exactly = λ number k low.
            let h = has_kept row number k inside in
            let e = r.exactly number k low in
            (λ x. e.0 (h.1 x), λ x. h.0 (e.1 x));
      }

-- a row without spans
pub row_none : (IsEnd : ℕ → ℕ → Type 0) (spans : Spans) (row : Stretch) → ArePaired spans →
    row.from ≡ length spans.numbers.items → row.to ≡ length spans.numbers.items →
    (bound : ℕ) → ((number k : ℕ) → number < bound → IsEnd number k → ⊥) →
    IsRow spans IsEnd row bound
row_none IsEnd spans row paired from_is to_is bound never = record {
  ordered = record {
    from = omega arith;
    to = omega arith;
    paired = paired;
    ascends = λ i j from lt to. absurd (omega arith);
  };
  below = λ place from to. absurd (omega arith);
  exactly = λ number k low. (
    λ h. let from = h.from in let to = h.to in absurd (omega (arith, from, to, from_is, to_is)),
    λ e. absurd (never number k low e),
  );
}

-- a number is put once for each end
pub put_more : (old now new ends : List ℕ) (number i : ℕ) → i < length ends →
    now ≡ old ++ map (λ k. number) (take i ends) → new ≡ now ++ number ∷ [] →
    new ≡ old ++ map (λ k. number) (take (i + 1) ends)
put_more old now new ends number i inside now_is new_is =
    let front : List ℕ = map (λ k. number) (take i ends) in
    let more : map (λ k. number) (take (i + 1) ends) ≡ front ++ number ∷ [] =
    ap (map (λ k. number)) (take_more ends i 0 inside)
    ∙ map-append (λ k. number) (take i ends) (get_or ends i 0 ∷ []) in
    new_is ∙ (ap (λ (l : List ℕ). l ++ number ∷ []) now_is
    ∙ (append_assoc old front (number ∷ []) ∙ ap (λ (l : List ℕ). old ++ l) (sym more)))

-- the ends of one mask more
module _ (old new : Spans) (number : ℕ) (ends : List ℕ) (paired : ArePaired old)
    (put : new.numbers.items ≡ old.numbers.items ++ map (λ k. number) ends)
    (told : new.ends.items ≡ old.ends.items ++ ends) where
  numbers_long : length new.numbers.items ≡ length old.numbers.items + length ends
  numbers_long =
      ap length put ∙ (length-append old.numbers.items (map (λ k. number) ends)
      ∙ ap (λ n. length old.numbers.items + n) (length-map ends (λ k. number)))

  pub paired_more : ArePaired new
  paired_more =
      let a = numbers_long in
      let b = ap length told in
      let c = length-append old.ends.items ends in
      omega (arith, a, b, c, paired)

  pub kept_more : AreKept old new
  kept_more = record {
    len = let a = numbers_long in omega (arith, a);
    numbers = λ i low.
        ap (λ (l : List ℕ). get_or l i 0) put
        ∙ get_or_append_left old.numbers.items (map (λ k. number) ends) 0 i low;
    ends = λ i low.
        ap (λ (l : List ℕ). get_or l i 0) told
        ∙ get_or_append_left old.ends.items ends 0 i (omega (arith, paired, low));
  }

  new_number : (i : ℕ) → i < length ends → number_at new (length old.numbers.items + i) ≡ number
  new_number i low =
      ap (λ (l : List ℕ). get_or l (length old.numbers.items + i) 0) put
      ∙ (get_or-append-add old.numbers.items (map (λ k. number) ends) i 0
      ∙ get_or-map (λ k. number) ends i 0 0 low)

  new_end : (i : ℕ) → end_at new (length old.numbers.items + i) ≡ get_or ends i 0
  new_end i =
      ap (λ (l : List ℕ). get_or l (length old.numbers.items + i) 0) told
      ∙ (ap (λ n. get_or (old.ends.items ++ ends) (n + i) 0) paired
      ∙ get_or-append-add old.ends.items ends i 0)

  module _ (IsEnd : ℕ → ℕ → Type 0) (from : ℕ) (exact : (k : ℕ) → Contains ends k ↔ IsEnd number k)
      (rise : IsStrictlyIncreasing ends) where
    abbrev before : Stretch
    before = record { from = from; to = length old.numbers.items }

    abbrev now : Stretch
    now = record { from = from; to = length new.numbers.items }

    -- a place is old, or one of the new ones
    abbrev IsNew : ℕ → Type 0
    IsNew place = (i : ℕ) × (i < length ends) × (length old.numbers.items + i ≡ place)

    where_is : (place : ℕ) → place < length new.numbers.items →
        (place < length old.numbers.items) ⊎ IsNew place
    where_is place inside = elim (less_or place (length old.numbers.items)) [
      | inl l ↦ inl l
      | inr m ↦
          let long = numbers_long in
          inr (place - length old.numbers.items, omega (arith, long), omega arith)
    ]

    number_new : (place : ℕ) → IsNew place → number_at new place ≡ number
    number_new place (i, low, is) = ap (λ n. number_at new n) (sym is) ∙ new_number i low

    end_new : (place : ℕ) (n : IsNew place) → end_at new place ≡ get_or ends n.0 0
    end_new place (i, low, is) = ap (λ n. end_at new n) (sym is) ∙ new_end i

    in_order : IsRow old IsEnd before number → (i j : ℕ) → from ≤ i → i < j →
        j < length new.numbers.items → StandsBefore new i j
    in_order r i j low lt inside = elim (where_is j inside) [
      | inl b ↦
          before_kept old new kept_more paired_more i j (omega arith) b
          (r.ordered.ascends i j low lt b)
      | inr b ↦ elim (where_is i (omega arith)) [
        | inl a ↦
            let up = r.below i low a in
            let p = kept_more.numbers i a in
            let q = number_new j b in
            inl (omega (arith, up, p, q))
        | inr a ↦
            let p = number_new i a in
            let q = number_new j b in
            let x = end_new i a in
            let y = end_new j b in
            let u = a.2 in
            let v = b.2 in
            let up = AllPairs-from_increasing ends rise a.0 b.0 0 (omega (arith, u, v, lt)) b.1 in
            inr (omega (arith, p, q), omega (arith, x, y, up))
      ]
    ]

    -- the ends of this number are the new ones
    its_ends : IsRow old IsEnd before number → (k : ℕ) → HasEnd new now number k ↔ IsEnd number k
    its_ends r k = (λ h. there h, λ e. back (at_zero ends k ((exact k).1 e)))
      where
        there : HasEnd new now number k → IsEnd number k
        there h = elim (where_is h.place h.to) [
          | inl o ↦
              let up = r.below h.place h.from o in
              let p = kept_more.numbers h.place o in
              let q = h.number_is in
              absurd (omega (arith, up, p, q))
          | inr n ↦
              (exact k).0 (holds_at ends k n.0 n.1 (sym (end_new h.place n) ∙ h.end_is))
        ]

        back : (i : ℕ) × (i < length ends) × (get_or ends i 0 ≡ k) → HasEnd new now number k
        back (i, low, is) =
            let long = numbers_long in
            let within = r.ordered.from in
            record {
              place = length old.numbers.items + i;
              from = omega arith;
              to = omega (arith, long, low);
              number_is = new_number i low;
              end_is = new_end i ∙ is;
            }

    -- those of the numbers before stay
    other_ends : (other k : ℕ) → other < number →
        HasEnd old before other k ↔ HasEnd new now other k
    other_ends other k low = (
      λ h.
          let to = h.to in
          let len = kept_more.len in
          record {
            place = h.place;
            from = h.from;
            to = omega arith;
            number_is = kept_more.numbers h.place to ∙ h.number_is;
            end_is = kept_more.ends h.place to ∙ h.end_is;
          },
      λ h. elim (where_is h.place h.to) [
        | inl o ↦ record {
          place = h.place;
          from = h.from;
          to = o;
          number_is = sym (kept_more.numbers h.place o) ∙ h.number_is;
          end_is = sym (kept_more.ends h.place o) ∙ h.end_is;
        }
        | inr n ↦
            let p = number_new h.place n in
            let q = h.number_is in
            absurd (omega (arith, p, q, low))
      ],
    )

    pub row_more : IsRow old IsEnd before number → IsRow new IsEnd now (number + 1)
    row_more r = record {
      ordered = record {
        from = let w = r.ordered.from in let len = kept_more.len in omega arith;
        to = omega arith;
        paired = paired_more;
        ascends = λ i j low lt inside. in_order r i j low lt inside;
      };
      below = λ place low inside. elim (where_is place inside) [
        | inl o ↦
            let up = r.below place low o in
            let p = kept_more.numbers place o in
            omega (arith, up, p)
        | inr n ↦ let p = number_new place n in omega (arith, p)
      ];
      exactly = λ other k low. elim (less_or other number) [
        | inl l ↦
            let h = other_ends other k l in
            let e = r.exactly other k l in
            (λ x. e.0 (h.1 x), λ x. h.0 (e.1 x))
        | inr m ↦
            let e : number ≡ other = omega arith in
            subst (λ n. HasEnd new now n k ↔ IsEnd n k) e (its_ends r k)
      ];
    }
