-- Rows of a table that grows at its end: what an old row tells, it tells still.
use Rattle.std.proofs.Common.{arith, ◌≡◌, ℕ, ◌+◌, ◌-◌, ◌<◌, ◌≤◌, List, [], ◌∷◌, ◌++◌, ◌⊎◌, ◌↔◌, inl, inr, refl, sym, ap, subst, ◌∙◌, length, get_or, length-append}
use Rattle.std.specs.Prelude.{Contains, Some, slice_get}
use Rattle.std.proofs.lemmas.List.Elements.{Contains-append_left, Contains-get_or, Contains-push, Contains-push_cases}
use Rattle.std.proofs.lemmas.List.Quantifiers.{all_pairs_push}
use Rattle.std.proofs.lemmas.Option.{same_Some}
use Rattle.ux_net.specs.declared.net_graph.NetGraph.{NetGraph}
use Rattle.ux_base.proofs.Lists.{less_or}
use Rattle.ux_meaning.specs.Inputs.{Input}
use Rattle.ux_parts.specs.declared.part.Part.{Part}
use Rattle.ux_parts.specs.declared.parts.Parts.{Parts}
use Rattle.ux_chart.specs.declared.table.Stretch.{Stretch}
use Rattle.ux_chart.specs.declared.table.Answer.{Answer}
use Rattle.ux_chart.specs.declared.table.Table.{Table}
use Rattle.ux_chart.specs.Tables.{cut, IsStretchOf, AscendByPart, IsTable, HasAnswer, Tells, IsPushed}
use Rattle.ux_chart.specs.Rows.{IsAnswer, IsRow, AreRows}
use Rattle.ux_chart.proofs.Cuts.{cut_old, cut_new, cut_more, cut_contains}

-- Two rows have the same answers of a part, made of the same lists: what the one tells, the other does.
pub tells_back : (old new : Table) (row now : Stretch) (part : ℕ) →
    ((answer : Answer) → HasAnswer old row part answer ↔ HasAnswer new now part answer) →
    ((answer : Answer) → HasAnswer old row part answer →
    cut new.ends.items answer.ends ≡ cut old.ends.items answer.ends) →
    ((answer : Answer) → HasAnswer old row part answer →
    cut new.closers.items answer.closers ≡ cut old.closers.items answer.closers) →
    (js cs : List ℕ) → Tells new now part js cs → Tells old row part js cs
tells_back old new row now part same ends closers js cs t = record {
  told_ends = λ a h. t.told_ends a ((same a).0 h) ∙ ends a h;
  told_closers = λ a h. t.told_closers a ((same a).0 h) ∙ closers a h;
  no_ends = λ none. t.no_ends (λ a h. none a ((same a).1 h));
  no_closers = λ none. t.no_closers (λ a h. none a ((same a).1 h));
}

module _ (old new : Table) (number : ℕ) (js cs : List ℕ) (pushed : IsPushed old number js cs new)
    (table : IsTable old) where
  abbrev pub answer : Answer
  answer = record {
    part = number;
    ends = record { from = length old.ends.items; to = length old.ends.items + length js };
    closers = record { from = length old.closers.items; to = length old.closers.items + length cs };
  }

  ends_stay : (a : Answer) → Contains old.answers.items a →
      cut new.ends.items a.ends ≡ cut old.ends.items a.ends
  ends_stay a h = cut_old old.ends.items js new.ends.items a.ends pushed.ends (table.ends a h)

  closers_stay : (a : Answer) → Contains old.answers.items a →
      cut new.closers.items a.closers ≡ cut old.closers.items a.closers
  closers_stay a h =
      cut_old old.closers.items cs new.closers.items a.closers pushed.closers (table.closers a h)

  pub pushed_table : IsTable new
  pushed_table = record {
    ends = λ a h. elim (Contains-push_cases old.answers.items answer a
        (subst (λ (l : List Answer). Contains l a) pushed.answers h)) [
          | inl o ↦
              let w = table.ends a o in
              let to = w.to in
              let len = ap length pushed.ends in
              let long = length-append old.ends.items js in
              record { from = w.from; to = omega arith }
          | inr e ↦ subst (λ (x : Answer). IsStretchOf (length new.ends.items) x.ends) e
              (let len = ap length pushed.ends in
              let long = length-append old.ends.items js in
              record { from = omega arith; to = omega arith })
        ];
    closers = λ a h. elim (Contains-push_cases old.answers.items answer a
        (subst (λ (l : List Answer). Contains l a) pushed.answers h)) [
          | inl o ↦
              let w = table.closers a o in
              let to = w.to in
              let len = ap length pushed.closers in
              let long = length-append old.closers.items cs in
              record { from = w.from; to = omega arith }
          | inr e ↦ subst (λ (x : Answer). IsStretchOf (length new.closers.items) x.closers) e
              (let len = ap length pushed.closers in
              let long = length-append old.closers.items cs in
              record { from = omega arith; to = omega arith })
        ];
  }

  -- a row that is over
  same_row : (row : Stretch) → IsStretchOf (length old.answers.items) row →
      cut new.answers.items row ≡ cut old.answers.items row
  same_row row within =
      cut_old old.answers.items (answer ∷ []) new.answers.items row pushed.answers within

  same_answers : (row : Stretch) → IsStretchOf (length old.answers.items) row → (part : ℕ)
      (a : Answer) → HasAnswer old row part a ↔ HasAnswer new row part a
  same_answers row within part a = (
    λ h. record {
      inside = subst (λ (l : List Answer). Contains l a) (sym (same_row row within)) h.inside;
      part_is = h.part_is;
    },
    λ h. record {
      inside = subst (λ (l : List Answer). Contains l a) (same_row row within) h.inside;
      part_is = h.part_is;
    },
  )

  module _ (input : Input) (net : List NetGraph) (parts : Parts) where
    pub row_stays : (row : Stretch) (i bound : ℕ) → IsRow input net parts old row i bound →
        IsRow input net parts new row i bound
    row_stays row i bound r =
        let within = r.sorted.within in
        let to = within.to in
        let len = ap length pushed.answers in
        let long = length-append old.answers.items (answer ∷ []) in
        record {
          sorted = record {
            within = record { from = within.from; to = omega arith };
            ascends = subst AscendByPart (sym (same_row row within)) r.sorted.ascends;
          };
          below = λ part a h. r.below part a ((same_answers row within part a).1 h);
          right = λ part p ends closers low found t.
              r.right part p ends closers low found
              (tells_back old new row row part (same_answers row within part)
              (λ a h. ends_stay a (cut_contains old.answers.items row a h.inside))
              (λ a h. closers_stay a (cut_contains old.answers.items row a h.inside))
              ends closers t);
        }

    pub rows_stay : (last : ℕ) (rows : List Stretch) → AreRows input net parts last rows old →
        AreRows input net parts last rows new
    rows_stay last rows done place row found =
        let d = done place row found in (d.0, d.1, row_stays row (last - place) d.0 d.2)

    -- the row at the end, with one answer more
    module _ (from i : ℕ) where
      abbrev before : Stretch
      before = record { from = from; to = length old.answers.items }

      abbrev now : Stretch
      now = record { from = from; to = length new.answers.items }

      more : from ≤ length old.answers.items →
          cut new.answers.items now ≡ cut old.answers.items before ++ answer ∷ []
      more inside = cut_more old.answers.items answer new.answers.items from pushed.answers inside

      pub row_grows : (part : Part) → slice_get parts.list number ≡ Some part →
          IsAnswer input net parts part.graph part.first i js cs →
          IsRow input net parts old before i number →
          IsRow input net parts new now i (number + 1)
      row_grows part found answers r =
          let within = r.sorted.within in
          let from_le = within.from in
          let len = ap length pushed.answers in
          let long = length-append old.answers.items (answer ∷ []) in
          let is_more = more from_le in
          record {
            sorted = record {
              within = record { from = omega arith; to = omega arith };
              ascends = subst AscendByPart (sym is_more)
                  (all_pairs_push (λ (x y : Answer). x.part < y.part)
                  (cut old.answers.items before) answer r.sorted.ascends
                  (λ k d lt. r.below (get_or (cut old.answers.items before) k d).part
                  (get_or (cut old.answers.items before) k d)
                  (record {
                    inside = Contains-get_or (cut old.answers.items before) k d lt;
                    part_is = refl;
                  })));
            };
            below = λ u a h. elim (cases a h.inside is_more) [
              | inl o ↦
                  let b = r.below u a (record { inside = o; part_is = h.part_is }) in omega arith
              | inr e ↦
                  let p = ap (λ (x : Answer). x.part) e in
                  let q = h.part_is in
                  omega (arith, p, q)
            ];
            right = λ u p ends closers low there t. elim (less_or u number) [
              | inl l ↦ r.right u p ends closers l there
                  (tells_back old new before now u (same_before u l is_more)
                  (λ a h. ends_stay a (cut_contains old.answers.items before a h.inside))
                  (λ a h. closers_stay a (cut_contains old.answers.items before a h.inside))
                  ends closers t)
              | inr m ↦
                  let e : number ≡ u = omega arith in
                  let here : HasAnswer new now u answer = record {
                    inside = subst (λ (l : List Answer). Contains l answer) (sym is_more)
                        (Contains-push (cut old.answers.items before) answer);
                    part_is = e;
                  } in
                  let same : part ≡ p = same_Some part p
                  (sym found ∙ (ap (λ k. slice_get parts.list k) e ∙ there)) in
                  let is_js = t.told_ends answer here
                  ∙ cut_new old.ends.items js new.ends.items pushed.ends in
                  let is_cs = t.told_closers answer here
                  ∙ cut_new old.closers.items cs new.closers.items pushed.closers in
                  subst (λ (q : Part). IsAnswer input net parts q.graph q.first i ends closers) same
                  (subst
                  (λ (l : List ℕ). IsAnswer input net parts part.graph part.first i l closers)
                  (sym is_js)
                  (subst (λ (l : List ℕ). IsAnswer input net parts part.graph part.first i js l)
                  (sym is_cs) answers))
            ];
          }
        where
          cases : (a : Answer) → Contains (cut new.answers.items now) a →
              cut new.answers.items now ≡ cut old.answers.items before ++ answer ∷ [] →
              Contains (cut old.answers.items before) a ⊎ (answer ≡ a)
          cases a h is = Contains-push_cases (cut old.answers.items before) answer a
              (subst (λ (l : List Answer). Contains l a) is h)

          same_before : (u : ℕ) → u < number →
              cut new.answers.items now ≡ cut old.answers.items before ++ answer ∷ [] →
              (a : Answer) → HasAnswer old before u a ↔ HasAnswer new now u a
          same_before u low is a = (
            λ h. record {
              inside = subst (λ (l : List Answer). Contains l a) (sym is)
                  (Contains-append_left (cut old.answers.items before) (answer ∷ []) a h.inside);
              part_is = h.part_is;
            },
            λ h. elim (cases a h.inside is) [
              | inl o ↦ record { inside = o; part_is = h.part_is }
              | inr e ↦
                  let p = ap (λ (x : Answer). x.part) e in
                  let q = h.part_is in
                  absurd (omega (arith, p, q))
            ],
          )
