-- The table of masks: which row tells of a place, and what is looked up.
use Rattle.std.proofs.Common.{arith, ◌≡◌, ℕ, zero, suc, ◌+◌, ◌*◌, ◌<◌, ◌≤◌, Bool, true, List, Option, [], ◌∷◌, ◌++◌, ◌⊎◌, ◌↔◌, Some, None, inl, inr, refl, sym, ap, subst, ◌∙◌, length, get_or, map, set, Bor}
use Rattle.std.specs.Prelude.{Contains, IsSomeAnd, slice_get, position}
use Rattle.std.specs.List.{list_any}
use Rattle.std.specs.List.Sorted.{IsStrictlyIncreasing}
use Rattle.std.specs.Option.{option_map}
use Rattle.std.proofs.lemmas.List.{length-map}
use Rattle.std.proofs.Math.ListN.{get_or-map}
use Rattle.std.proofs.lemmas.List.Folds.{list_any_at}
use Rattle.std.proofs.lemmas.List.Quantifiers.{position-Some}
use Rattle.std.proofs.lemmas.Option.{same_Some, slice_get_within, slice_get-get_or, slice_get-map}
use Rattle.std.proofs.Math.Nat.{mul-suc, mul-le-mul_left}
use Rattle.std.proofs.Math.Numerals.{add-one}
use Rattle.ux_alphabet.specs.Letters.{Letters}
use Rattle.ux_tokens.specs.declared.kind.Kind.{Kind}
use Rattle.ux_tokens.specs.Tokens.{Token}
use Rattle.ux_tokens.specs.Numbers.{different_texts}
use Rattle.ux_masks.specs.declared.mask.Mask.{Mask}
use Rattle.ux_masks.specs.Equal.{mask_eq, mask_eq-Decides}
use Rattle.ux_base.proofs.OrderedLists.{slice_get-append_left}
use Rattle.ux_base.proofs.FirstsLemmas.{AreFirsts-unique, Contains-none}
use Rattle.ux_lexical_tables.specs.Accepting.{Accepts, IsAlone}
use Rattle.ux_lexical_tables.specs.Belonging.{Belongs}
use Rattle.ux_lexical_tables.specs.Tables.{Tables}
use Rattle.ux_lexical_tables.proofs.OneTokenLaws.{accepts_alike, accepts_forward}
use Rattle.ux_base.proofs.Lists.{less_or}
use Rattle.ux_net.specs.declared.net_graph.NetGraph.{NetGraph}
use Rattle.ux_net.specs.Masks.{AreMasksOf, IsMaskCount, masks_in, masks_of}
use Rattle.ux_mask_table.specs.declared.mask_table.MaskTable.{MaskTable}
use Rattle.ux_mask_table.specs.declared.rows.Row.{Row}
use Rattle.ux_mask_table.specs.declared.spans.Spans.{Spans}
use Rattle.ux_mask_table.specs.NetMasks.{AreNetMasks}
use Rattle.ux_mask_table.specs.Spans.{HasEnd, IsRow}
use Rattle.ux_mask_table.specs.MaskTables.{AddsRow, AreAlike, AreKnown, AreTold, Grows, IsEndOf, IsFirst, IsLike, IsMaskTable, IsNumbered, TellsEnds}
use Rattle.ux_mask_table.proofs.RowsLemmas.{accepts_iff}

-- each row takes at most so many steps
pub steps_more : (count rows start here next : ℕ) → here ≤ start + count * rows →
    next ≤ here + count → next ≤ start + count * (rows + 1)
steps_more count rows start here next below more =
    let e : count * (rows + 1) ≡ count * rows + count =
    ap (λ n. count * n) (add-one rows) ∙ mul-suc count rows in
    omega (arith, e, below, more)

pub steps_all : (count rows all start here : ℕ) → here ≤ start + count * rows → rows ≤ all →
    here ≤ start + count * all
steps_all count rows all start here below few =
    let up = mul-le-mul_left count few in omega (arith, up, below)

-- the number of the masks of a net
pub one_count : (net : List NetGraph) (masks : List Mask) (count : ℕ) → AreMasksOf net masks →
    IsMaskCount net count → length masks ≡ count
one_count net masks count are (others, those, is) =
    ap length (AreFirsts-unique (masks_of net) masks others are those) ∙ is

-- elements of lists
slice_get-last : {X : Type 0} (xs : List X) (x : X) → slice_get (xs ++ x ∷ []) (length xs) ≡ Some x
slice_get-last [] x = refl
slice_get-last (y ∷ xs) x = slice_get-last xs x

slice_get-set_cases : {X : Type 0} (xs : List X) (i : ℕ) (w : X) (k : ℕ) (x : X) →
    slice_get (set xs i w) k ≡ Some x →
    ((k ≡ i) × (w ≡ x)) ⊎ (slice_get xs k ≡ Some x)
slice_get-set_cases [] i w k x at = inr at
slice_get-set_cases (y ∷ xs) zero w zero x at = inl (refl, same_Some w x at)
slice_get-set_cases (y ∷ xs) zero w (suc k) x at = inr at
slice_get-set_cases (y ∷ xs) (suc i) w zero x at = inr at
slice_get-set_cases (y ∷ xs) (suc i) w (suc k) x at = elim (slice_get-set_cases xs i w k x at) [
  | inl here ↦ inl (ap suc here.0, here.1)
  | inr old ↦ inr old
]

-- the number of a token
pub numbered_at : (tokens : List Token) (place number : ℕ) → IsSomeAnd (slice_get tokens place)
    (λ token. slice_get (different_texts tokens) number ≡ Some token.text) →
    IsNumbered tokens place number
numbered_at tokens place number is = go (slice_get tokens place) refl is
  where
    go : (o : Option Token) → slice_get tokens place ≡ o → IsSomeAnd o
        (λ token. slice_get (different_texts tokens) number ≡ Some token.text) →
        IsNumbered tokens place number
    go None at h = absurd h
    go (Some token) at h = (token, at, h)

-- rows that were added keep those before
pub grown : (old new : List Row) (n : ℕ) (row : Row) → Grows old new → slice_get old n ≡ Some row →
    slice_get new n ≡ Some row
grown old new n row (more, is) at =
    ap (λ (l : List Row). slice_get l n) is
    ∙ (slice_get-append_left old more n (slice_get_within old n row at) ∙ at)

pub adds_grows : (old new : List Row) (place : ℕ) → AddsRow old new place → Grows old new
adds_grows old new place (row, is, at) = (row ∷ [], is)

pub added_row : (old new : List Row) (place : ℕ) (added : AddsRow old new place) →
    slice_get new (length old) ≡ Some added.0
added_row old new place (row, is, at) =
    ap (λ (l : List Row). slice_get l (length old)) is ∙ slice_get-last old row

module _ (tokens : List Token) (tables : Tables) where
  pub known_grown : (old new : List Row) (known : List (Option ℕ)) → Grows old new →
      AreKnown tokens tables old known → AreKnown tokens tables new known
  known_grown old new known grows are token number at =
      let first = are token number at in
      record {
        row = first.row;
        found = grown old new number first.row grows first.found;
        numbered = first.numbered;
        alone = first.alone;
      }

  -- the row that was added is the first of its token
  pub first_added : (old new : List Row) (place token : ℕ) → AddsRow old new place →
      IsNumbered tokens place token → IsAlone tokens tables place →
      IsFirst tokens tables new token (length old)
  first_added old new place token added numbered alone = record {
    row = added.0;
    found = added_row old new place added;
    numbered = subst (λ p. IsNumbered tokens p token) (sym added.2) numbered;
    alone = subst (λ p. IsAlone tokens tables p) (sym added.2) alone;
  }

  -- a token more is known
  pub known_more : (rows : List Row) (known : List (Option ℕ)) (token number : ℕ) →
      IsFirst tokens tables rows token number → AreKnown tokens tables rows known →
      AreKnown tokens tables rows (set known token (Some number))
  known_more rows known token number first are other found at =
      elim (slice_get-set_cases known token (Some number) other (Some found) at) [
        | inl same ↦
            subst (λ n. IsFirst tokens tables rows n found) (sym same.0)
            (subst (λ n. IsFirst tokens tables rows token n)
            (same_Some number found same.1) first)
        | inr old ↦ are other found old
      ]

-- the kind of a token
pub token_at : (tokens : List Token) (place : ℕ) (kind : Kind) →
    IsSomeAnd (slice_get tokens place) (λ token. kind ≡ token.kind) →
    (token : Token) × (slice_get tokens place ≡ Some token) × (kind ≡ token.kind)
token_at tokens place kind is = go (slice_get tokens place) refl is
  where
    go : (o : Option Token) → slice_get tokens place ≡ o → IsSomeAnd o (λ token. kind ≡ token.kind) →
        (token : Token) × (slice_get tokens place ≡ Some token) × (kind ≡ token.kind)
    go None at h = absurd h
    go (Some token) at h = (token, at, h)

module _ (alphabet : Letters) (tokens : List Token) (tables : Tables) where
  -- a net without masks has the table without rows
  pub table_of_none : (net : List NetGraph) (table : MaskTable) → AreNetMasks net table.masks.now →
      masks_in table.masks.now.set ≡ [] → table.rows.list.items ≡ [] →
      IsMaskTable alphabet tokens tables net table
  table_of_none net table are none empty = record {
    masks = are;
    rows = λ n row at.
        let inside = slice_get_within [] n row
        (subst (λ (l : List Row). slice_get l n ≡ Some row) empty at) in
        absurd (omega (arith, inside));
    told = λ mask has. absurd (Contains-none mask
        (subst (λ (l : List Mask). Contains l mask) none ((are.same mask).1 has)));
  }

  pub like_grown : (old new : List Row) (number place : ℕ) → Grows old new →
      IsLike alphabet tokens tables old number place →
      IsLike alphabet tokens tables new number place
  like_grown old new number place grows like = record {
    row = like.row;
    found = grown old new number like.row grows like.found;
    alike = like.alike;
  }

  -- a place is like itself
  pub like_own : (old new : List Row) (place : ℕ) → AddsRow old new place →
      IsLike alphabet tokens tables new (length old) place
  like_own old new place added = record {
    row = added.0;
    found = added_row old new place added;
    alike = subst (λ p. AreAlike alphabet tokens tables added.0.place p) added.2
        (λ mask n. (λ a. a, λ a. a));
  }

  -- and like each other one where an equal token stands alone
  pub like_first : Belongs alphabet tokens tables → (i j : ℕ) (token : Token) →
      IsAlone tokens tables i → IsAlone tokens tables j → slice_get tokens i ≡ Some token →
      slice_get tokens j ≡ Some token → AreAlike alphabet tokens tables i j
  like_first belongs i j token alone other at there mask n = (
    go i j alone other at there,
    go j i other alone there at,
  )
    where
      go : (i j : ℕ) → IsAlone tokens tables i → IsAlone tokens tables j →
          slice_get tokens i ≡ Some token → slice_get tokens j ≡ Some token →
          Accepts alphabet tokens tables mask i (i + n) →
          Accepts alphabet tokens tables mask j (j + n)
      go i j alone other at there accepts =
          let alike = accepts_alike alphabet tokens tables belongs i j token alone other at there mask
          (i + n) accepts in
          let end = alike.0 in
          subst (λ k. Accepts alphabet tokens tables mask j (j + k)) (omega (arith, end)) alike.1

  -- the row of an equal token
  pub like_known : Belongs alphabet tokens tables → (rows : List Row) (token number place : ℕ)
      (row : Row) (here there : Token) → IsFirst tokens tables rows token number →
      slice_get rows number ≡ Some row → slice_get tokens row.place ≡ Some here →
      slice_get tokens place ≡ Some there → here.kind ≡ there.kind →
      IsNumbered tokens place token → IsAlone tokens tables place →
      IsLike alphabet tokens tables rows number place
  like_known belongs rows token number place row here there first found at at_place kinds numbered
      alone =
      let is : first.row ≡ row = same_Some first.row row (sym first.found ∙ found) in
      let is_place = ap (λ (r : Row). r.place) is in
      let first_is : first.numbered.0 ≡ here =
      same_Some first.numbered.0 here (sym (first.numbered.1)
      ∙ (ap (λ p. slice_get tokens p) is_place ∙ at)) in
      let place_is : numbered.0 ≡ there = same_Some numbered.0 there (sym numbered.1 ∙ at_place) in
      let texts : here.text ≡ there.text =
      ap (λ (t : Token). t.text) (sym first_is)
      ∙ (same_Some first.numbered.0.text numbered.0.text (sym first.numbered.2 ∙ numbered.2)
      ∙ ap (λ (t : Token). t.text) place_is) in
      let same : here ≡ there = same_token here there kinds texts in
      record {
        row = row;
        found = found;
        alike = like_first belongs row.place place there
            (subst (λ p. IsAlone tokens tables p) is_place first.alone) alone
            (at ∙ ap (λ (t : Token). Some t) same) at_place;
      }
    where
      same_token : (a b : Token) → a.kind ≡ b.kind → a.text ≡ b.text → a ≡ b
      same_token a b kinds texts = λ k. record { kind = kinds k; text = texts k }

  -- a place more has its row
  pub told_more : (old new : List Row) (numbers more : List ℕ) (number bound : ℕ) →
      Grows old new → length numbers ≡ bound → more ≡ numbers ++ number ∷ [] →
      IsLike alphabet tokens tables new number bound →
      AreTold alphabet tokens tables old numbers bound →
      AreTold alphabet tokens tables new more (bound + 1)
  told_more old new numbers more number bound grows long is like told place inside =
      elim (below_or_at place bound inside) [
        | inl low ↦
            let found = told place low in (
              found.0,
              ap (λ (l : List ℕ). slice_get l place) is
                  ∙ (slice_get-append_left numbers (number ∷ []) place (omega (arith, long, low)) ∙ found.1),
              like_grown old new found.0 place grows found.2,
            )
        | inr here ↦ (
          number,
          ap (λ (l : List ℕ). slice_get l place) is
              ∙ (ap (λ n. slice_get (numbers ++ number ∷ []) n) (here ∙ sym long)
              ∙ slice_get-last numbers number),
          subst (λ n. IsLike alphabet tokens tables new number n) (sym here) like,
        )
      ]
    where
      below_or_at : (a b : ℕ) → a < b + 1 → (a < b) ⊎ (a ≡ b)
      below_or_at a b low = elim (less_or a b) [
        | inl l ↦ inl l
        | inr m ↦ inr (omega arith)
      ]

  -- what a row tells of a mask, from the place itself
  pub tells_ends : Belongs alphabet tokens tables → (masks : List Mask) (spans : Spans) (row : Row)
      (mask : Mask) (number place : ℕ) (found : List ℕ) → slice_get masks number ≡ Some mask →
      IsRow spans (IsEndOf alphabet tokens tables masks row.place) row.spans (length masks) →
      AreAlike alphabet tokens tables row.place place →
      ((k : ℕ) → Contains found k ↔ HasEnd spans row.spans number k) → IsStrictlyIncreasing found →
      TellsEnds (Accepts alphabet tokens tables mask) place row.place found
  tells_ends belongs masks spans row mask number place found at right alike exact rises = record {
    behind = λ k has.
        (accepts_forward alphabet tokens tables belongs mask row.place k ((accepts k).0 has)).0;
    exactly = λ n. (
      λ has. (alike mask n).0 ((accepts (row.place + n)).0 has),
      λ is. (accepts (row.place + n)).1 ((alike mask n).1 is),
    );
    ascending = rises;
  }
    where
      accepts : (k : ℕ) → Contains found k ↔ Accepts alphabet tokens tables mask row.place k
      accepts k =
          let inside = slice_get_within masks number mask at in
          let a = exact k in
          let b = right.exactly number k inside in
          let d = accepts_iff alphabet tokens tables masks mask number row.place k at in
          (λ h. d.1 (b.0 (a.0 h)), λ h. a.1 (b.1 (d.0 h)))

-- the number of a mask that stands in a set
module _ (slots : List (Bor Mask)) (mask : Bor Mask) where
  abbrev lent : List Mask
  lent = map (λ (s : Bor Mask). s.now) slots

  abbrev is_mask : Bor Mask → Bool
  is_mask slot = mask_eq mask.now slot.now

  pub number_at : (n : ℕ) → position is_mask slots ≡ Some n → slice_get lent n ≡ Some mask.now
  number_at n found =
      let at = position-Some is_mask slots n mask found in
      slice_get-map (λ (s : Bor Mask). s.now) slots n
      ∙ ap (option_map (λ (s : Bor Mask). s.now)) (slice_get-get_or slots n mask at.0)
      ∙ ap Some (sym ((mask_eq-Decides mask.now (get_or slots n mask).now).0 at.1))

  pub number_there : Contains lent mask.now → list_any is_mask slots ≡ true
  number_there (n, within, at) =
      let inside : n < length slots =
      subst (λ m. n < m) (length-map slots (λ (s : Bor Mask). s.now)) within in
      let here : (get_or slots n mask).now ≡ mask.now =
      sym (get_or-map (λ (s : Bor Mask). s.now) slots n mask) ∙ at in
      list_any_at is_mask slots n mask inside
      ((mask_eq-Decides mask.now (get_or slots n mask).now).1 (sym here))
