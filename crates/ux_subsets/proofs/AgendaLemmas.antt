-- Rows of what is filed.
use Rattle.std.proofs.Common.{◌≡◌, ◌≢◌, ℕ, zero, suc, ◌+◌, ◌<◌, List, [], ◌∷◌, ◌++◌, ◌∙◌, refl, sym, ap, subst, length, get_or, map, set, arith}
use Rattle.std.specs.Prelude.{Vec}
use Rattle.std.proofs.lemmas.List.{map-set, get_or-map, get_or-set_same, get_or-set_other, length-map}
use Rattle.ux_subsets.specs.declared.sets.Waiting.{Waiting}
use Rattle.ux_subsets.specs.Agenda.{IsFiled, IsTaken, row_from}
use Rattle.ux_subsets.specs.Rows.{row_at}

module _ {T Z : Type 0} where
  -- an empty row behind the others
  pub row_pushed : (rows : List (Vec T Z)) (row : Vec T Z) → row.items ≡ [] → (k : ℕ) → row_at (rows ++ row ∷ []) k ≡ row_at rows k
  row_pushed [] row none zero = none
  row_pushed [] row none (suc k) = refl
  row_pushed (r ∷ rows) row none zero = refl
  row_pushed (r ∷ rows) row none (suc k) = row_pushed rows row none k

  -- a row that is replaced, and the others
  pub row_set : (rows : List (Vec T Z)) (p : ℕ) (row : Vec T Z) → p < length rows → row_at (set rows p row) p ≡ row.items
  row_set rows p row inside =
      ap (λ (ls : List (List T)). get_or ls p []) (map-set (λ (r : Vec T Z). r.items) rows p row)
      ∙ get_or-set_same (map (λ (r : Vec T Z). r.items) rows) p row.items [] (subst (λ (n : ℕ). p < n) (sym (length-map rows (λ (r : Vec T Z). r.items))) inside)

  pub row_kept : (rows : List (Vec T Z)) (p : ℕ) (row : Vec T Z) (k : ℕ) → k ≢ p → row_at (set rows p row) k ≡ row_at rows k
  row_kept rows p row k differ =
      ap (λ (ls : List (List T)). get_or ls k []) (map-set (λ (r : Vec T Z). r.items) rows p row)
      ∙ get_or-set_other (map (λ (r : Vec T Z). r.items) rows) p k row.items [] differ

  pub row_is : (rows : List (Vec T Z)) (p : ℕ) (d : Vec T Z) → p < length rows → row_at rows p ≡ (get_or rows p d).items
  row_is rows p d inside = get_or-map (λ (r : Vec T Z). r.items) rows p d [] inside

module _ {Z : Type 0} where
  -- the row at a place is that of the state so far behind the one that is due
  pub row_behind : (due : ℕ) (rows : List (Vec Waiting Z)) (p k : ℕ) → k ≡ due + p → row_from due rows k ≡ row_at rows p
  row_behind zero rows p k at = let here : k ≡ p = omega (arith, at) in ap (λ n. row_at rows n) here
  row_behind (suc due) rows p zero at = absurd (omega (arith, at))
  row_behind (suc due) rows p (suc k) at = row_behind due rows p k (omega (arith, at))

  -- nothing is filed for a state that was due before, nor where there are no rows
  pub none_before : (due : ℕ) (rows : List (Vec Waiting Z)) (k : ℕ) → k < due → row_from due rows k ≡ []
  none_before zero rows k before = absurd (omega (arith, before))
  none_before (suc due) rows zero before = refl
  none_before (suc due) rows (suc k) before = none_before due rows k (omega (arith, before))

  pub no_rows : (due : ℕ) (rows : List (Vec Waiting Z)) → rows ≡ [] → (k : ℕ) → row_from due rows k ≡ []
  no_rows zero rows none k = ap (λ (rs : List (Vec Waiting Z)). row_at rs k) none
  no_rows (suc due) rows none zero = refl
  no_rows (suc due) rows none (suc k) = no_rows due rows none k

  -- an empty row behind the others changes nothing
  pub row_added : (due : ℕ) (rows : List (Vec Waiting Z)) (row : Vec Waiting Z) → row.items ≡ [] → (k : ℕ) → row_from due (rows ++ row ∷ []) k ≡ row_from due rows k
  row_added zero rows row none k = row_pushed rows row none k
  row_added (suc due) rows row none zero = refl
  row_added (suc due) rows row none (suc k) = row_added due rows row none k

  -- a row that is replaced is that of one state
  pub others_kept : (due : ℕ) (rows : List (Vec Waiting Z)) (p : ℕ) (row : Vec Waiting Z) (k at : ℕ) → at ≡ due + p → k ≢ at →
      row_from due (set rows p row) k ≡ row_from due rows k
  others_kept zero rows p row k at is differ = row_kept rows p row k (λ same. let here : p ≡ at = omega (arith, is) in differ (same ∙ here))
  others_kept (suc due) rows p row zero at is differ = refl
  others_kept (suc due) rows p row (suc k) zero is differ = absurd (omega (arith, is))
  others_kept (suc due) rows p row (suc k) (suc at) is differ = others_kept due rows p row k at (omega (arith, is)) (λ same. differ (ap suc same))

  -- where the first row goes, and the next state is due, the other states keep theirs
  pub rest_left : (due : ℕ) (row : Vec Waiting Z) (rows : List (Vec Waiting Z)) (k : ℕ) → k ≢ due → row_from (suc due) rows k ≡ row_from due (row ∷ rows) k
  rest_left zero row rows zero differ = absurd (differ refl)
  rest_left zero row rows (suc k) differ = refl
  rest_left (suc due) row rows zero differ = refl
  rest_left (suc due) row rows (suc k) differ = rest_left due row rows k (λ same. differ (ap suc same))

-- the first row is taken
pub taken : {Z : Type 0} (due now : ℕ) (old : List (Vec Waiting Z)) (row : Vec Waiting Z) (rows : List (Vec Waiting Z)) → old ≡ row ∷ rows → now ≡ due + 1 →
    IsTaken (row_from due old) (row_from now rows) due row.items
taken {Z} due now old row rows is next =
    let at : suc due ≡ now = omega (arith, next) in
    subst (λ (n : ℕ). IsTaken (row_from due old) (row_from n rows) due row.items) at
    (subst (λ (rs : List (Vec Waiting Z)). IsTaken (row_from due rs) (row_from (suc due) rows) due row.items) (sym is) (record {
      is = sym (row_behind due (row ∷ rows) 0 due (omega arith));
      gone = none_before (suc due) rows due (omega arith);
      rest = λ k differ. rest_left due row rows k differ;
    }))

-- a list without length
pub nothing_in : {X : Type 0} (xs : List X) → length xs ≡ 0 → xs ≡ []
nothing_in [] none = refl
nothing_in (x ∷ xs) none = absurd (omega (arith, none))

-- there is none
pub none_taken : {Z : Type 0} (due now : ℕ) (old rows : List (Vec Waiting Z)) (found : List Waiting) → old ≡ [] → rows ≡ [] → found ≡ [] →
    IsTaken (row_from due old) (row_from now rows) due found
none_taken due now old rows found none left nothing = record {
  is = nothing ∙ sym (no_rows due old none due);
  gone = no_rows now rows left due;
  rest = λ k differ. no_rows now rows left k ∙ sym (no_rows due old none k);
}

-- what is filed, in a row that is there
pub filed : {Z : Type 0} (due : ℕ) (old : ℕ → List Waiting) (rows : List (Vec Waiting Z)) (p : ℕ) (row d : Vec Waiting Z) (one : Waiting) → one.set.first ≡ due + p →
    p < length rows → ((k : ℕ) → row_from due rows k ≡ old k) → row.items ≡ (get_or rows p d).items ++ one ∷ [] →
    IsFiled old (row_from due (set rows p row)) one
filed due old rows p row d one at inside same pushed = record {
  is = row_behind due (set rows p row) p one.set.first at
      ∙ (row_set rows p row inside ∙ (pushed ∙ ap (λ (xs : List Waiting). xs ++ one ∷ []) (sym (row_is rows p d inside) ∙ (sym (row_behind due rows p one.set.first at) ∙ same one.set.first))));
  rest = λ k differ. others_kept due rows p row k one.set.first at differ ∙ same k;
}
