-- The closers of all graphs are those of each.
use Rattle.std.proofs.Common.{arith, ◌≡◌, ℕ, zero, suc, ◌+◌, ◌<◌, ◌≤◌, List, [], ◌∷◌, ◌++◌, length, length-append, refl, ap, subst, sym, ◌∙◌, inl, inr, ◌↔◌, get_or}
use Rattle.std.specs.Prelude.{Contains}
use Rattle.std.proofs.lemmas.List.{get_or_append_left, get_or-append-add}
use Rattle.ux_base.proofs.Lists.{same_or}
use Rattle.ux_boxes.specs.declared.place.Place.{Place}
use Rattle.ux_net.specs.Closers.{ClosesInto}
use Rattle.ux_admission.specs.Closers.{AreClosers}
use Rattle.ux_admission.specs.Finding.{AddsClosers}
use Rattle.ux_admission.specs.Leading.{IsLeading}
use Rattle.ux_boxes.specs.Numbers.{places_before, number_of}
use Rattle.ux_boxes.specs.Places.{places_of, place_grammar}
use Rattle.ux_admission.proofs.LeadingLemmas.{closes_exactly}
use Rattle.ux_boxes.proofs.NumbersLemmas.{before_more, before_rises, places_at, graph_inside}

-- a row for each place of the first graphs
pub record AreClosersBelow (graphs : List (List Place)) (count : ℕ) (rows : List (List ℕ)) :
    Type 0 where
  pub len : length rows ≡ places_before graphs (suc count)
  pub row : (g a c : ℕ) → g ≤ count → a < length (places_of graphs g) →
      Contains (get_or rows (number_of graphs g a) []) c ↔ ClosesInto (place_grammar graphs) g a c

-- a row that stands behind the others
row_last : (rows more after : List (List ℕ)) (n a : ℕ) → after ≡ rows ++ more →
    n ≡ length rows → get_or after (n + a) [] ≡ get_or more a []
row_last rows more after n a behind e =
    ap (λ (rs : List (List ℕ)). get_or rs (n + a) []) behind
    ∙ (ap (λ m. get_or (rows ++ more) (m + a) []) e ∙ get_or-append-add rows more a [])

module _ (graphs : List (List Place)) where
  -- of no graph
  pub closers_none : AreClosersBelow graphs 0 []
  closers_none = record { len = nothing graphs; row = none }
    where
      nothing : (graphs : List (List Place)) → 0 ≡ places_before graphs 1
      nothing [] = refl
      nothing (places ∷ graphs) = refl

      none : (g a c : ℕ) → g ≤ 0 → a < length (places_of graphs g) →
          Contains (get_or [] (number_of graphs g a) []) c
          ↔ ClosesInto (place_grammar graphs) g a c
      none g a c l h =
          let inside = graph_inside graphs g a h in
          let low = inside.0 in
          absurd (omega (arith, low, l))

  before_of : (g a count : ℕ) → a < length (places_of graphs g) → g ≤ count →
      number_of graphs g a < places_before graphs (suc count)
  before_of zero a count inside l = absurd (omega (arith, inside))
  before_of (suc g) a count inside l =
      let more = before_more graphs g in
      let rises = before_rises graphs (suc g) count l in
      omega (arith, more, rises, inside)

  -- of one graph more
  pub closers_more : (count : ℕ) (places : List Place) (rows after : List (List ℕ)) →
      count < length graphs → places ≡ get_or graphs count [] → AddsClosers places rows after →
      AreClosersBelow graphs count rows → AreClosersBelow graphs (count + 1) after
  closers_more count places rows after h at adds old =
      let next : suc count ≡ count + 1 = omega arith in
      let here : places ≡ places_of graphs (suc count) = at ∙ sym (places_at graphs count [] h) in
      let is : IsLeading (places_of graphs (suc count)) adds.leading =
      subst (λ (ps : List Place). IsLeading ps adds.leading) here adds.of_places in
      let total = before_more graphs count in
      let len = old.len in
      let more_len : length adds.more ≡ length (places_of graphs (suc count)) =
      adds.closers.len ∙ is.sources_len in
      let whole : length after ≡ length rows + length adds.more =
      ap (λ (rs : List (List ℕ)). length rs) adds.behind ∙ length-append rows adds.more in
      let made : AreClosersBelow graphs (suc count) after = record {
        len = omega (arith, total, len, more_len, whole);
        row = λ g a c l inside. elim (same_or g (suc count)) [
          | inl e ↦
              let row = row_last rows adds.more after (places_before graphs (suc count)) a
              adds.behind (sym len) in
              let exactly = closes_exactly graphs (suc count) adds.leading is a c in
              let found = adds.closers.row a c in
              subst (λ n. Contains (get_or after (number_of graphs n a) []) c
              ↔ ClosesInto (place_grammar graphs) n a c) (sym e)
              (subst (λ (r : List ℕ). Contains r c
              ↔ ClosesInto (place_grammar graphs) (suc count) a c) (sym row)
              (λ x. exactly.0 (found.0 x), λ x. found.1 (exactly.1 x)))
          | inr n ↦
              let before = before_of g a count inside (omega arith) in
              let row : get_or after (number_of graphs g a) [] ≡
              get_or rows (number_of graphs g a) [] =
              ap (λ (rs : List (List ℕ)). get_or rs (number_of graphs g a) []) adds.behind
              ∙ get_or_append_left rows adds.more [] (number_of graphs g a)
              (omega (arith, before, len)) in
              subst (λ (r : List ℕ). Contains r c ↔ ClosesInto (place_grammar graphs) g a c)
              (sym row) (old.row g a c (omega arith) inside)
        ];
      } in
      subst (λ n. AreClosersBelow graphs n after) next made

  -- of all graphs
  pub closers_all : (count : ℕ) (rows : List (List ℕ)) → length graphs ≤ count →
      count ≤ length graphs → AreClosersBelow graphs count rows → AreClosers graphs rows
  closers_all count rows least most are =
      let e : count ≡ length graphs = omega arith in
      record {
        len = are.len ∙ ap (λ n. places_before graphs (suc n)) e;
        row = λ g a c inside.
            let there = graph_inside graphs g a inside in
            let high = there.1 in
            are.row g a c (omega arith) inside;
      }
