-- Rows: what masks accept from a place, and how a row is added.
use Rattle.std.proofs.Common.{◌≡◌, ℕ, ◌+◌, ◌<◌, List, [], ◌∷◌, ◌++◌, ◌↔◌, Some, inl, inr, sym, ap, subst, ◌∙◌, length, get_or, map, Bor}
use Rattle.std.specs.Prelude.{Contains, slice_get}
use Rattle.std.specs.Option.{option_map}
use Rattle.std.specs.List.Sorted.{IsStrictlyIncreasing}
use Rattle.std.proofs.lemmas.Option.{same_Some, slice_get-get_or, slice_get-map}
use Rattle.ux_alphabet.specs.Letters.{Letters}
use Rattle.ux_tokens.specs.Tokens.{Token}
use Rattle.ux_tokens.proofs.CutLemmas.{slice_get-push_cases}
use Rattle.ux_masks.specs.declared.mask.Mask.{Mask}
use Rattle.ux_lexical_tables.specs.Accepting.{Accepts}
use Rattle.ux_lexical_tables.specs.Tables.{Tables}
use Rattle.ux_mask_table.specs.declared.rows.Row.{Row}
use Rattle.ux_mask_table.specs.declared.spans.Spans.{Spans}
use Rattle.ux_mask_table.specs.Spans.{AreKept, ArePaired, IsRow}
use Rattle.ux_mask_table.specs.MaskTables.{AreRows, IsEndOf}
use Rattle.ux_mask_table.proofs.SpansLemmas.{row_kept, row_more}

module _ (alphabet : Letters) (tokens : List Token) (tables : Tables) (masks : List Mask) where
  -- a row more
  pub rows_more : (old new : Spans) (rows more : List Row) (row : Row) → AreKept old new →
      ArePaired new → more ≡ rows ++ row ∷ [] → AreRows alphabet tokens tables masks old rows →
      IsRow new (IsEndOf alphabet tokens tables masks row.place) row.spans (length masks) →
      AreRows alphabet tokens tables masks new more
  rows_more old new rows more row kept paired is all right n found there =
      elim (slice_get-push_cases rows row n found
      (subst (λ (l : List Row). slice_get l n ≡ Some found) is there)) [
        | inl o ↦
            row_kept old new kept paired (IsEndOf alphabet tokens tables masks found.place)
            found.spans (length masks) (all n found o.1)
        | inr e ↦
            subst (λ (r : Row). IsRow new (IsEndOf alphabet tokens tables masks r.place) r.spans
            (length masks)) e.1 right
      ]

  -- what the mask of a number accepts
  pub accepts_iff : (mask : Mask) (number place k : ℕ) → slice_get masks number ≡ Some mask →
      Accepts alphabet tokens tables mask place k ↔ IsEndOf alphabet tokens tables masks place number k
  accepts_iff mask number place k at = (
    λ a. record { mask = mask; found = at; accepts = a },
    λ e. subst (λ (m : Mask). Accepts alphabet tokens tables m place k)
        (same_Some e.mask mask (sym e.found ∙ at)) e.accepts,
  )

  pub ends_iff : (mask : Mask) (number place : ℕ) (ends : List ℕ) →
      slice_get masks number ≡ Some mask →
      ((k : ℕ) → Contains ends k ↔ Accepts alphabet tokens tables mask place k) →
      (k : ℕ) → Contains ends k ↔ IsEndOf alphabet tokens tables masks place number k
  ends_iff mask number place ends at exact k =
      let a = exact k in
      let b = accepts_iff mask number place k at in
      (λ h. b.0 (a.0 h), λ e. a.1 (b.1 e))

  -- one mask more is tried
  pub tried_more : (old new : Spans) (from place number i : ℕ) (mask : Mask) (ends shown : List ℕ) →
      ArePaired old → number ≡ i → shown ≡ ends →
      new.numbers.items ≡ old.numbers.items ++ map (λ k. number) shown →
      new.ends.items ≡ old.ends.items ++ shown → slice_get masks i ≡ Some mask →
      ((k : ℕ) → Contains ends k ↔ Accepts alphabet tokens tables mask place k) →
      IsStrictlyIncreasing ends →
      IsRow old (IsEndOf alphabet tokens tables masks place)
      (record { from = from; to = length old.numbers.items }) i →
      IsRow new (IsEndOf alphabet tokens tables masks place)
      (record { from = from; to = length new.numbers.items }) (i + 1)
  tried_more old new from place number i mask ends shown paired count is put told at exact rise r =
      row_more old new i ends paired
      (subst (λ n. new.numbers.items ≡ old.numbers.items ++ map (λ k. n) ends) count
      (subst (λ (l : List ℕ). new.numbers.items ≡ old.numbers.items ++ map (λ k. number) l) is put))
      (subst (λ (l : List ℕ). new.ends.items ≡ old.ends.items ++ l) is told)
      (IsEndOf alphabet tokens tables masks place) from (ends_iff mask i place ends at exact) rise r

-- an element of a set of masks
pub slot_at : (slots shown : List (Bor Mask)) (i : ℕ) (slot : Bor Mask) → shown ≡ slots →
    i < length shown → slot ≡ get_or shown i slot →
    slice_get (map (λ (s : Bor Mask). s.now) slots) i ≡ Some slot.now
slot_at slots shown i slot is inside at =
    slice_get-map (λ (s : Bor Mask). s.now) slots i
    ∙ ap (option_map (λ (s : Bor Mask). s.now))
    (subst (λ (l : List (Bor Mask)). slice_get l i ≡ Some slot) is
    (slice_get-get_or shown i slot inside ∙ ap Some (sym at)))
