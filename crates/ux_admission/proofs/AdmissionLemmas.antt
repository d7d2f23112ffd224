-- The numbers of an admissible grammar, cut into rows, are ranks of its places.
use Rattle.std.proofs.Common.{arith, ◌≡◌, ℕ, zero, suc, ◌<◌, ◌≤◌, List, [], length, refl, ap, subst, sym, ◌∙◌, inl, inr, get_or, Bool, true, false}
use Rattle.std.specs.Prelude.{All}
use Rattle.std.proofs.lemmas.List.{get_or_past}
use Rattle.ux_base.proofs.Lists.{less_or}
use Rattle.ux_boxes.specs.declared.place.Place.{Place}
use Rattle.ux_net.specs.Words.{Step, stop, letters}
use Rattle.ux_boxes.specs.Places.{places_of, place_grammar, IsPlaceStep}
use Rattle.ux_boxes.specs.Fit.{IsFit}
use Rattle.ux_net.specs.Nullable.{IsFree, none}
use Rattle.ux_admission.specs.Admissible.{MovesFreely, along_step, over_context, EntersAt, by_call, by_opening, IsOnEmptyLoop, IsLeftRecursive}
use Rattle.ux_boxes.specs.Numbers.{number_of, all_places}
use Rattle.ux_admission.specs.Ways.{AreFreeMarks, EndsFreely}
use Rattle.ux_admission.specs.Cycles.{AreNumbered, AreLoopsMet}
use Rattle.ux_boxes.specs.Rows.{cut}
use Rattle.ux_admission.specs.Admission.{place_rank, is_place_free, AreRows, IsLowerPlace, ArePlaceRanks}
use Rattle.ux_boxes.proofs.NumbersLemmas.{places_at, before_more, before_rises}
use Rattle.ux_admission.proofs.FreeLemmas.{silent_free, nullable_call}
use Rattle.ux_boxes.proofs.StepsLemmas.{step_inside, start_inside, target_from}
use Rattle.ux_admission.proofs.UnitsLemmas.{move_inside, entered_inside}
use Rattle.ux_admission.proofs.MarksLemmas.{ends_nullable, moved_ends}
use Rattle.ux_admission.proofs.CyclesLemmas.{free_edge, numbers_fall}
use Rattle.ux_boxes.proofs.CutLemmas.{length-cut, entry_is, entry_below, row_length}

rank_is : (graphs : List (List Place)) (numbers : List ℕ) (g n : ℕ) →
    n < length (places_of graphs g) →
    place_rank (cut graphs numbers) g n ≡ get_or numbers (number_of graphs g n) 0
rank_is graphs numbers zero n h = absurd (omega (arith, h))
rank_is graphs numbers (suc k) n h = entry_is graphs numbers k n 0 h

free_is : (graphs : List (List Place)) (marks : List Bool) (g n : ℕ) →
    n < length (places_of graphs g) →
    is_place_free (cut graphs marks) g n ≡ get_or marks (number_of graphs g n) false
free_is graphs marks zero n h = absurd (omega (arith, h))
free_is graphs marks (suc k) n h = entry_is graphs marks k n false h

-- a list with an entry for each place has rows with one
rows_are : {A : Type 0} (graphs : List (List Place)) (items : List A) →
    length items ≡ all_places graphs → AreRows graphs (cut graphs items)
rows_are graphs items len = record {
  len = length-cut graphs items;
  row = λ k h.
      let next = before_more graphs k in
      let most = before_rises graphs (suc k) (length graphs) h in
      row_length graphs items k (omega arith)
      ∙ ap (λ (places : List Place). length places) (places_at graphs k [] h);
}

module _ (graphs : List (List Place)) (fit : All (IsFit (length graphs)) graphs)
    (marks : List Bool) (marked : AreFreeMarks graphs marks) (numbers : List ℕ)
    (numbered : AreNumbered graphs numbers)
    (met : AreLoopsMet graphs)
    (no_loop : (g node : ℕ) → IsOnEmptyLoop (place_grammar graphs) g node → ⊥)
    (no_recursion : (g node : ℕ) → IsLeftRecursive (place_grammar graphs) g node → ⊥) where
  -- a place that leads freely to an end is marked
  ends_marked : (g a : ℕ) → a < length (places_of graphs g) → EndsFreely graphs g a →
      is_place_free (cut graphs marks) g a ≡ true
  ends_marked g a h e = free_is graphs marks g a h ∙ (marked.marked g a h).1 e

  marked_ends : (g a : ℕ) → a < length (places_of graphs g) →
      is_place_free (cut graphs marks) g a ≡ true → EndsFreely graphs g a
  marked_ends g a h e = (marked.marked g a h).0 (sym (free_is graphs marks g a h) ∙ e)

  -- a move leads lower
  lower : (g : ℕ) {a b : ℕ} → MovesFreely (place_grammar graphs) g a b →
      IsLowerPlace (cut graphs numbers) (cut graphs marks) g a b
  lower g {a = a} {b = b} m =
      let inside = move_inside graphs g m in
      let from = rank_is graphs numbers g a inside.0 in
      let to = rank_is graphs numbers g b inside.1 in
      let fall = numbers_fall graphs fit numbered.edges numbered.all numbers numbered.components
      met no_loop no_recursion (number_of graphs g a) (number_of graphs g b)
      (inl (free_edge graphs g m)) in
      record {
        falls = omega arith;
        marked = λ e. ends_marked g a inside.0
            (moved_ends graphs fit g m (marked_ends g b inside.1 e));
      }

  -- a step leads lower to the first place of a unit that it enters
  enters_lower : (g : ℕ) (s : Step) → IsPlaceStep (places_of graphs g) s → {h v : ℕ} →
      EntersAt (place_grammar graphs) g s h v →
      place_rank (cut graphs numbers) h v < place_rank (cut graphs numbers) g s.from
  enters_lower g s i {h = h} {v = v} e =
      let inside = step_inside (places_of graphs g) s i in
      let start = entered_inside graphs fit g s i e in
      let from = rank_is graphs numbers g s.from inside.0 in
      let to = rank_is graphs numbers h v start in
      let fall = numbers_fall graphs fit numbered.edges numbered.all numbers numbered.components
      met no_loop no_recursion (number_of graphs g s.from) (number_of graphs h v)
      (inr (record {
        graph = g;
        step = s;
        of_graph = i;
        entered = h;
        first = v;
        enters = e;
        from = refl;
        to = refl;
      })) in
      omega arith

  numbers_below : (u : ℕ) → get_or numbers u 0 ≤ all_places graphs
  numbers_below u =
      let len = numbered.all.len in
      let same = numbered.components.len in
      elim (less_or u (length numbered.edges)) [
        | inl l ↦ let b = numbered.components.below u l in omega arith
        | inr p ↦ let b = get_or_past numbers u 0 (omega arith) in omega arith
      ]

  ranks_below : (g n : ℕ) → place_rank (cut graphs numbers) g n ≤ all_places graphs
  ranks_below zero n = omega arith
  ranks_below (suc k) n = entry_below graphs numbers (all_places graphs) numbers_below k n

  pub ranks_are : ArePlaceRanks graphs (cut graphs numbers) (cut graphs marks)
  ranks_are = record {
    ranked = rows_are graphs numbers (numbered.components.len ∙ numbered.all.len);
    marked = rows_are graphs marks marked.len;
    below = ranks_below;
    silent = λ g s i st.
        lower g (along_step s i (silent_free (place_grammar graphs) s.labels st));
    calls = λ g h s i c. (
      enters_lower g s i (by_call [] [] c none),
      λ m.
          let start = start_inside graphs fit g h s i c in
          let e = marked_ends h 0 start m in
          lower g (along_step s i
          (subst (λ l. IsFree (place_grammar graphs) (letters l)) (sym c)
          (nullable_call (place_grammar graphs) h (ends_nullable graphs fit h e)))),
    );
    opens = λ g s sign i m. (
      enters_lower g s i (by_opening sign m),
      λ c closes. lower g (over_context sign s i m closes),
    );
    ends = λ g a e. ends_marked g a (target_from (places_of graphs g) a 1 e.1) (record {
      last = a;
      word = [];
      ends = e;
      run = stop;
      free = none;
    });
  }
