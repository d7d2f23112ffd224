-- Rows of compound entries, of which only those with an entry are kept.
use Rattle.std.proofs.Common.{arith, below_more, ◌≡◌, ◌≢◌, ℕ, zero, suc, ◌+◌, ◌≤◌, List, [], ◌∷◌, ◌++◌, length, map, take, sym, ◌∙◌, ap, subst}
use Rattle.std.specs.Prelude.{All, Some, Vec, slice_get}
use Rattle.std.specs.BTreeMap.{BTreeMap, is_at}
use Rattle.std.specs.Map.{lookup}
use Rattle.std.specs.Ordering.{nat_cmp}
use Rattle.std.specs.List.{AllZip}
use Rattle.std.proofs.lemmas.Option.{get_or_from_slice_get}
use Rattle.ux_alphabet.specs.Letters.{Letters}
use Rattle.std.proofs.lemmas.List.Elements.{All-append, All-map}
use Rattle.ux_dela.specs.Sound.{IsSound}
use Rattle.ux_dela.specs.declared.entry.Entry.{Entry}
use Rattle.ux_tokens.specs.Tokens.{Token}
use Rattle.ux_lexical_tables.proofs.TableLemmas.{length-table, some-at, table-row}
use Rattle.ux_lexical_tables.specs.Kept.{items_in, row_of, table_of}
use Rattle.ux_apply.specs.declared.priority.Priority.{Priority}
use Rattle.ux_apply.specs.Applied.{IsCompoundRow, AreCompounds}
use Rattle.ux_apply.specs.Kept.{AreRowsUpTo, AreSoundMembers}
use Rattle.ux_apply.proofs.ZipLemmas.{zip-more}

module _ {X Z : Type 0} (IsRow : ℕ → List X → Type 0) where
  -- no row is kept at first
  pub rows-start : (rows : BTreeMap ℕ (Vec X Z)) → rows.entries ≡ [] → AreRowsUpTo IsRow 0 rows
  rows-start rows none = record {
    each = λ first lt. absurd (omega arith);
    others = λ first past. ap (λ (es : List (ℕ × Vec X Z)).
        items_in (lookup (is_at (nat_cmp first)) es)) none;
  }

  -- one row more
  pub rows-more : (place : ℕ) (old new : BTreeMap ℕ (Vec X Z)) (row : List X) →
      AreRowsUpTo IsRow place old → IsRow place row →
      (row_of old place ≡ [] → row_of new place ≡ row) →
      ((other : ℕ) → other ≢ place → row_of new other ≡ row_of old other) →
      AreRowsUpTo IsRow (place + 1) new
  rows-more place old new row before is here others =
      let own : row_of new place ≡ row = here (before.others place (omega arith)) in record {
        each = below_more (λ first. IsRow first (row_of new first)) place
            (λ first lt.
            let other : first ≢ place = omega (arith, lt) in
            subst (IsRow first) (sym (others first other))
            (before.each first lt))
            (subst (IsRow place) (sym own) is);
        others = λ first past.
            let other : first ≢ place = omega (arith, past) in
            others first other ∙ before.others first (omega (arith, past));
      }

-- the table of all of them
pub rows-whole : {Z : Type 0} (alphabet : Letters) (dics : List (Priority × List Entry))
    (tokens : List Token) (rows : BTreeMap ℕ (Vec (ℕ × Entry) Z)) (end : ℕ) →
    end ≡ length tokens →
    AreRowsUpTo (IsCompoundRow alphabet dics tokens) (length tokens) rows →
    AreCompounds alphabet dics tokens (table_of (row_of rows) end)
rows-whole alphabet dics tokens rows end long all = record {
  each_token = length-table (row_of rows) end ∙ long;
  each = λ first row is.
      let at = table-row (row_of rows) end first row is in
      subst (IsCompoundRow alphabet dics tokens first) (sym at.1)
      (all.each first (omega (arith, at.0, long)));
}

-- sound entries behind sound ones
pub sound-more : (last : ℕ) (row : List (ℕ × Entry)) (entries : List Entry) → AreSoundMembers row →
    All IsSound entries → AreSoundMembers (row ++ map (λ entry. (last, entry)) entries)
sound-more last row entries before sound =
    let mark : Entry → ℕ × Entry = λ e. (last, e) in
    let IsSoundMember : ℕ × Entry → Type 0 = λ m. IsSound m.1 in
    All-append IsSoundMember row (map mark entries) before
    (All-map IsSoundMember mark entries sound)

-- a table whose rows belong to the members of a list
pub zip-table : {A B : Type 0} (R : A → B → Type 0) (xs : List A) (at : ℕ → B) (end : ℕ) →
    end ≤ length xs → ((i : ℕ) (x : A) → slice_get xs i ≡ Some x → R x (at i)) →
    AllZip R (take end xs) (table_of at end)
zip-table R xs at zero within each = tt
zip-table R xs at (suc end) within each =
    let x = some-at xs end (omega (arith, within)) in
    let next : end + 1 ≡ suc end = omega arith in
    subst (λ (k : ℕ). AllZip R (take k xs) (table_of at end ++ at end ∷ [])) next
    (zip-more R xs (table_of at end) end x.0 (at end) (omega (arith, within))
    (get_or_from_slice_get xs end x.0 x.0 x.1)
    (zip-table R xs at end (omega (arith, within)) each) (each end x.0 x.1))
