-- Rows that are filled, part by part and position by position.
use Rattle.std.proofs.Common.{arith, ◌≡◌, ℕ, zero, suc, ◌+◌, ◌-◌, ◌<◌, ◌≤◌, List, [], ◌∷◌, ◌++◌, ◌⊎◌, inl, inr, refl, sym, ap, subst, ◌∙◌, length, get_or, length-append}
use Rattle.std.specs.Prelude.{Contains, Some, None, slice_get}
use Rattle.std.specs.List.Sorted.{IsStrictlyIncreasing}
use Rattle.std.proofs.lemmas.Option.{same_Some, slice_get_within, slice_get_cases, none-some}
use Rattle.ux_net.specs.declared.net_graph.NetGraph.{NetGraph}
use Rattle.ux_base.proofs.Lists.{nothing_in, less_or}
use Rattle.ux_meaning.specs.Inputs.{Input}
use Rattle.ux_parts.specs.declared.part.Part.{Part}
use Rattle.ux_parts.specs.declared.parts.Parts.{Parts}
use Rattle.ux_parts.specs.Ordered.{GoesAhead}
use Rattle.ux_chart.specs.declared.chart.Begun.{Begun}
use Rattle.ux_chart.specs.declared.chart.Chart.{Chart}
use Rattle.ux_chart.specs.declared.table.Stretch.{Stretch}
use Rattle.ux_chart.specs.declared.table.Answer.{Answer}
use Rattle.ux_chart.specs.declared.table.Table.{Table}
use Rattle.ux_chart.specs.Tables.{IsTable, HasAnswer, IsPut, stretch_of}
use Rattle.ux_chart.specs.Rows.{IsAnswer, IsRow, IsWholeRow, AreRows, AreBegun, IsFilled, IsChart, begun_at}
use Rattle.ux_chart.specs.Likely.{ReachesSome, AreLikely}
use Rattle.ux_chart.proofs.Cuts.{cut_none}
use Rattle.ux_chart.proofs.Growing.{pushed_table, rows_stay, row_grows}
use Rattle.ux_chart.proofs.Rising.{rises, none_between}

-- a list with one more
old_or_new : {A : Type 0} (xs : List A) (y : A) (u : ℕ) (z : A) →
    slice_get (xs ++ y ∷ []) u ≡ Some z →
    (slice_get xs u ≡ Some z) ⊎ ((u ≡ length xs) × (y ≡ z))
old_or_new [] y zero z h = inr (refl, same_Some y z h)
old_or_new [] y (suc u) z h = absurd (let w = slice_get_within [] u z h in omega (arith, w))
old_or_new (x ∷ xs) y zero z h = inl h
old_or_new (x ∷ xs) y (suc u) z h = elim (old_or_new xs y u z h) [
  | inl o ↦ inl o
  | inr n ↦ inr (ap suc n.0, n.1)
]

-- where nothing stands the list is over
pub past_end : {A : Type 0} (xs : List A) (k : ℕ) → None ≡ slice_get xs k → length xs ≤ k
past_end xs k is = elim (slice_get_cases xs k).1 [
  | inl s ↦ absurd (none-some s.0 (is ∙ s.2))
  | inr s ↦ s.0
]

empty_rises : IsStrictlyIncreasing []
empty_rises = λ k h. absurd (omega arith)

module _ (input : Input) (net : List NetGraph) (parts : Parts) where
  -- a part that reaches nothing
  pub nothing_answers : (part : Part) (i : ℕ) → (ReachesSome input net parts part i → ⊥) →
      IsAnswer input net parts part.graph part.first i [] []
  nothing_answers part i never = record {
    ends = λ j. (λ h. absurd (nothing_in h), λ e. absurd (never (inl (j, e))));
    closers = λ c. (λ h. absurd (nothing_in h), λ e. absurd (never (inr (c, e))));
    ends_ascend = empty_rises;
    closers_ascend = empty_rises;
  }

  -- parts that reach nothing are done
  pub row_skips : (table : Table) (row : Stretch) (i low high : ℕ) → low ≤ high →
      ((number : ℕ) (part : Part) → low ≤ number → number < high →
      slice_get parts.list number ≡ Some part →
      IsAnswer input net parts part.graph part.first i [] []) →
      IsRow input net parts table row i low → IsRow input net parts table row i high
  row_skips table row i low high le none r = record {
    sorted = r.sorted;
    below = λ number answer h. let b = r.below number answer h in omega arith;
    right = λ number part js cs lt found t. elim (less_or number low) [
      | inl l ↦ r.right number part js cs l found t
      | inr m ↦
          let no = λ (answer : Answer) (h : HasAnswer table row number answer).
          let b = r.below number answer h in absurd (omega (arith, b)) in
          subst (λ (l : List ℕ). IsAnswer input net parts part.graph part.first i l cs)
          (sym (t.no_ends no))
          (subst (λ (l : List ℕ). IsAnswer input net parts part.graph part.first i [] l)
          (sym (t.no_closers no)) (none number part m lt found))
    ];
  }

  -- a row that begins
  pub row_begins : (table : Table) (i n : ℕ) → n ≡ length table.answers.items →
      IsRow input net parts table (record { from = n; to = n }) i 0
  row_begins table i n at_end = record {
    sorted = record {
      within = record { from = omega arith; to = omega arith };
      ascends = λ j k d lt h.
          let none = ap length (cut_none table.answers.items n) in absurd (omega (arith, none));
    };
    below = λ number answer h. absurd (nothing_in
        (subst (λ (l : List Answer). Contains l answer) (cut_none table.answers.items n) h.inside));
    right = λ number part js cs lt. absurd (omega arith);
  }

  -- the part whose turn it was isn't there
  pub filled_past : (chart : Chart) (begun : Begun) → length parts.list ≤ begun.number →
      begun.row.to ≡ length chart.table.answers.items → IsFilled input net parts chart begun →
      IsFilled input net parts chart (begun_at begun.at (begun.number + 1) begun.row.from
      (length chart.table.answers.items))
  filled_past chart begun past end f = record {
    count = f.count;
    table_is = f.table_is;
    done = f.done;
    begun_is = subst
        (λ t. IsRow input net parts chart.table (record { from = begun.row.from; to = t }) begun.at
        (begun.number + 1)) end
        (row_skips chart.table begun.row begun.at begun.number (begun.number + 1) (omega arith)
        (λ number part low high found.
        absurd (let w = slice_get_within parts.list number part found in omega arith))
        f.begun_is);
  }

  -- its answer was added, unless it is empty
  pub filled_more : (old new : Chart) (begun : Begun) (part : Part) (js cs : List ℕ) →
      slice_get parts.list begun.number ≡ Some part →
      IsAnswer input net parts part.graph part.first begun.at js cs →
      begun.row.to ≡ length old.table.answers.items → new.last ≡ old.last →
      new.rows.items ≡ old.rows.items → IsPut old.table begun.number js cs new.table →
      IsFilled input net parts old begun →
      IsFilled input net parts new (begun_at begun.at (begun.number + 1) begun.row.from
      (length new.table.answers.items))
  filled_more old new begun part js cs found answers end last rows put f = elim put [
    | inl e ↦
        let same = e.2 in
        let empty : IsAnswer input net parts part.graph part.first begun.at [] [] =
        subst (λ (l : List ℕ). IsAnswer input net parts part.graph part.first begun.at l [])
        e.0
        (subst (λ (l : List ℕ). IsAnswer input net parts part.graph part.first begun.at js l)
        e.1 answers) in
        let row = row_skips old.table begun.row begun.at begun.number (begun.number + 1)
        (omega arith)
        (λ number p low high there.
        let e : begun.number ≡ number = omega arith in
        subst (λ (q : Part). IsAnswer input net parts q.graph q.first begun.at [] [])
        (same_Some part p (sym found ∙ (ap (λ k. slice_get parts.list k) e ∙ there))) empty)
        f.begun_is in
        record {
          count = count;
          table_is = subst IsTable (sym same) f.table_is;
          done = moved old.table new.table
              (subst (λ (t : Table). AreRows input net parts old.last old.rows.items t) (sym same)
              f.done);
          begun_is = subst
              (λ (t : Table). IsRow input net parts t
              (record { from = begun.row.from; to = length t.answers.items }) begun.at
              (begun.number + 1)) (sym same)
              (subst
              (λ t. IsRow input net parts old.table (record { from = begun.row.from; to = t })
              begun.at (begun.number + 1)) end row);
        }
    | inr p ↦ record {
      count = count;
      table_is = pushed_table old.table new.table begun.number js cs p f.table_is;
      done = moved old.table new.table (rows_stay old.table new.table begun.number js cs p
          f.table_is input net parts old.last old.rows.items f.done);
      begun_is = row_grows old.table new.table begun.number js cs p f.table_is input net parts
          begun.row.from begun.at part found answers
          (subst
          (λ t. IsRow input net parts old.table (record { from = begun.row.from; to = t }) begun.at
          begun.number) end f.begun_is);
    }
  ]
    where
      count : length new.rows.items + begun.at ≡ new.last
      count = let c = f.count in let r = ap length rows in omega (arith, c, r, last)

      moved : (before now : Table) → AreRows input net parts old.last old.rows.items now →
          AreRows input net parts new.last new.rows.items now
      moved before now done =
          subst (λ n. AreRows input net parts n new.rows.items now) (sym last)
          (subst (λ (l : List Stretch). AreRows input net parts old.last l now) (sym rows) done)

  -- How far a row is filled at place n of the list of likely parts: the parts below a number are done,
  -- and those that are listed before are below it.
  pub record IsBegun (chart : Chart) (at from n : ℕ) (likely : List ℕ) : Type 0 where
    pub bound : ℕ
    pub filled : IsFilled input net parts chart
        (begun_at at bound from (length chart.table.answers.items))
    pub before : (m : ℕ) → m < n → m < length likely → get_or likely m 0 < bound
    pub after : (m : ℕ) → n ≤ m → m < length likely → bound ≤ get_or likely m 0

  pub begins : (chart : Chart) (at : ℕ) (likely : List ℕ) → AreBegun input net parts chart →
      length chart.rows.items + at ≡ chart.last →
      IsBegun chart at (length chart.table.answers.items) 0 likely
  begins chart at likely b count = record {
    bound = 0;
    filled = record {
      count = count;
      table_is = b.table_is;
      done = b.done;
      begun_is = row_begins chart.table at (length chart.table.answers.items) refl;
    };
    before = λ m h. absurd (omega arith);
    after = λ m h i. omega arith;
  }

  module _ (at : ℕ) (likely : List ℕ) (are : AreLikely input net parts at likely) where
    -- up to the next listed part all are done
    pub next_turn : (chart : Chart) (from n : ℕ) → n < length likely →
        IsBegun chart at from n likely →
        IsFilled input net parts chart (begun_at at (get_or likely n 0) from
        (length chart.table.answers.items))
    next_turn chart from n lt b =
        let f = b.filled in
        record {
          count = f.count;
          table_is = f.table_is;
          done = f.done;
          begun_is = row_skips chart.table
              (record { from = from; to = length chart.table.answers.items }) at b.bound
              (get_or likely n 0) (b.after n (omega arith) lt)
              (λ number part low high found. nothing_answers part at (λ some.
              none_between likely are.ascends n b.bound number b.before low
              (λ h. high) (are.whole number part found some)))
              f.begun_is;
        }

    -- the same, for the number and the row that the search is given
    pub turn : (chart : Chart) (from n number : ℕ) (row : Stretch) →
        n < length likely → number ≡ get_or likely n 0 →
        row ≡ stretch_of from (length chart.table.answers.items) →
        IsBegun chart at from n likely →
        IsFilled input net parts chart (record { at = at; number = number; row = row })
    turn chart from n number row lt number_is row_is b =
        let filled = next_turn chart from n lt b in
        subst (λ (r : Stretch). IsFilled input net parts chart
        (record { at = at; number = number; row = r })) (sym row_is)
        (subst (λ k. IsFilled input net parts chart
        (begun_at at k from (length chart.table.answers.items))) (sym number_is) filled)

    -- the listed part is done
    pub turn_over : (old new : Chart) (from n number : ℕ) → n < length likely →
        number ≡ get_or likely n 0 → IsBegun old at from n likely →
        IsFilled input net parts new
        (begun_at at (number + 1) from (length new.table.answers.items)) →
        IsBegun new at from (n + 1) likely
    turn_over old new from n number lt is b f = record {
      bound = number + 1;
      filled = f;
      before = λ m h i. elim (less_or m n) [
        | inl l ↦
            let x = b.before m l i in
            let y = b.after n (omega arith) lt in
            omega (arith, x, y, is)
        | inr k ↦
            let e : m ≡ n = omega arith in
            let same = ap (λ j. get_or likely j 0) e in
            omega (arith, same, is)
      ];
      after = λ m h i.
          let r = rises likely are.ascends n m (omega arith) i in
          omega (arith, r, is);
    }

    -- the list is over
    pub row_over : (chart : Chart) (from n : ℕ) → length likely ≤ n →
        IsBegun chart at from n likely →
        IsWholeRow input net parts chart.table
        (record { from = from; to = length chart.table.answers.items }) at
    row_over chart from n past b = (
      b.bound + length parts.list,
      omega arith,
      row_skips chart.table (record { from = from; to = length chart.table.answers.items }) at
          b.bound (b.bound + length parts.list) (omega arith)
          (λ number part low high found. nothing_answers part at (λ some.
          none_between likely are.ascends n b.bound number b.before low
          (λ h. absurd (omega arith)) (are.whole number part found some)))
          b.filled.begun_is,
    )

  -- between two rows
  pub between : (chart : Chart) (at from n : ℕ) (likely : List ℕ) →
      IsBegun chart at from n likely → AreBegun input net parts chart
  between chart at from n likely b = record {
    few = let c = b.filled.count in omega arith;
    table_is = b.filled.table_is;
    done = b.filled.done;
  }

  pub none_begun : (chart : Chart) → chart.rows.items ≡ [] → chart.table.answers.items ≡ [] →
      AreBegun input net parts chart
  none_begun chart rows table = record {
    few = let e = ap length rows in omega arith;
    table_is = record {
      ends = λ a h. absurd (nothing_in (subst (λ (l : List Answer). Contains l a) table h));
      closers = λ a h. absurd (nothing_in (subst (λ (l : List Answer). Contains l a) table h));
    };
    done = λ place row found.
        absurd (let w = slice_get_within chart.rows.items place row found in
        let e = ap length rows in omega arith);
  }

  -- a row more
  pub rows_more : (old new : Chart) (at : ℕ) (row : Stretch) →
      length old.rows.items + at ≡ old.last → new.last ≡ old.last → new.table ≡ old.table →
      new.rows.items ≡ old.rows.items ++ row ∷ [] → IsWholeRow input net parts old.table row at →
      AreBegun input net parts old → AreBegun input net parts new
  rows_more old new at row count last table rows whole b = record {
    few = let e = ap length rows in let l = length-append old.rows.items (row ∷ []) in
        omega (arith, e, l);
    table_is = subst IsTable (sym table) b.table_is;
    done = subst (λ (t : Table). AreRows input net parts new.last new.rows.items t) (sym table)
        (λ place found there. elim (old_or_new old.rows.items row place found
        (subst (λ (l : List Stretch). slice_get l place ≡ Some found) rows there)) [
          | inl o ↦ subst (λ n. IsWholeRow input net parts old.table found (n - place)) (sym last)
              (b.done place found o)
          | inr n ↦
              let place_is = n.0 in
              let here : at ≡ new.last - place = omega arith in
              subst (λ (r : Stretch). IsWholeRow input net parts old.table r (new.last - place)) n.1
              (subst (λ p. IsWholeRow input net parts old.table row p) here whole)
        ]);
  }

  pub all_filled : (chart : Chart) (last : ℕ) → GoesAhead input last → chart.last ≡ last →
      chart.last < length chart.rows.items → AreBegun input net parts chart →
      IsChart input net parts last chart
  all_filled chart last ahead last_is all b = record {
    ahead = ahead;
    last_is = last_is;
    count = let few = b.few in omega arith;
    table_is = b.table_is;
    done = subst (λ n. AreRows input net parts n chart.rows.items chart.table) last_is b.done;
  }
