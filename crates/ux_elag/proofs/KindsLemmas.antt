-- Kinds of readings, one by one, as the rows of a table.
use Rattle.std.proofs.Common.{arith, ◌≡◌, ℕ, ◌+◌, ◌<◌, List, [], ◌∷◌, ◌++◌, inl, inr, refl, sym, ◌∙◌, ap, subst, length, length-append, get_or}
use Rattle.std.specs.Prelude.{All}
use Rattle.std.proofs.lemmas.List.{get_or_append_left, get_or_push, get_or-map, length-map}
use Rattle.std.proofs.lemmas.List.Elements.{All-nil, All-push}
use Rattle.ux_base.proofs.Lists.{same_or, less_or}
use Rattle.ux_sentence.specs.declared.sentence.Reading.{Reading}
use Rattle.ux_rules.specs.declared.step.Step.{Step}
use Rattle.ux_monitor.specs.Monitors.{AreMore, kind_at, tests_of}
use Rattle.ux_elag.specs.Numbers.{reading_at}
use Rattle.ux_elag.specs.Ready.{AreKinds, ArePassed, IsKindFor, IsTable, tests_at}

-- the tests of a reading are those of its kind
pub row-at : (kinds : List (List ℕ)) (numbers : List ℕ) (place : ℕ) → place < length numbers →
    tests_at (tests_of kinds numbers) place ≡ kind_at kinds (get_or numbers place 0)
row-at kinds numbers place lt = get_or-map (kind_at kinds) numbers place 0 [] lt

-- a kind stays when more come
kind-stays : (old new : List (List ℕ)) (number : ℕ) → AreMore old new → number < length old →
    kind_at new number ≡ kind_at old number
kind-stays old new number more lt =
    ap (λ (ks : List (List ℕ)). get_or ks number []) more.1
    ∙ get_or_append_left old more.0 [] number lt

pub kinds-grow : (old new : List (List ℕ)) (number : ℕ) → AreMore old new → number < length old →
    number < length new
kinds-grow old new number more lt =
    let e = ap length more.1 ∙ length-append old more.0 in omega (arith, lt, e)

module _ (steps : List Step) (IsSaid : ℕ → Reading → Type 0) where
  pub kinds-none : (kinds : List (List ℕ)) → AreKinds steps IsSaid 0 kinds []
  kinds-none kinds = record {
    counted = refl;
    inside = All-nil (λ (n : ℕ). n < length kinds);
    rows = λ place reading lt said. absurd (omega arith);
  }

  pub kinds-more : (count : ℕ) (old new : List (List ℕ)) (numbers more : List ℕ) (number : ℕ)
      (reading : Reading) → AreKinds steps IsSaid count old numbers → AreMore old new →
      more ≡ numbers ++ number ∷ [] → IsKindFor steps reading new number →
      ((other : Reading) → IsSaid count other → other ≡ reading) →
      AreKinds steps IsSaid (count + 1) new more
  kinds-more count old new numbers more number reading are grown is kind alone =
      let long : length more ≡ length numbers + 1 = ap length is ∙
      length-append numbers (number ∷ []) in
      let counted = are.counted in record {
        counted = omega (arith, long, counted);
        inside = subst (All (λ (n : ℕ). n < length new)) (sym is)
            (All-push (λ (n : ℕ). n < length new) numbers number
            (λ k d lt. kinds-grow old new (get_or numbers k d) grown (are.inside k d lt))
            kind.inside);
        rows = λ place other lt said. elim (same_or place count) [
          | inl here ↦
              let at : get_or more place 0 ≡ number =
              ap (λ (ns : List ℕ). get_or ns place 0) is
              ∙ get_or_push numbers number 0 place (counted ∙ sym here) in
              let row : tests_at (tests_of new more) place ≡ kind_at new number =
              row-at new more place (omega (arith, lt, long, counted)) ∙ ap (kind_at new) at in
              let same : other ≡ reading = alone other (subst (λ (n : ℕ). IsSaid n other) here
              said) in
              subst (λ (r : Reading). ArePassed steps r (tests_at (tests_of new more) place))
              (sym same)
              (subst (ArePassed steps reading) (sym row) kind.passed)
          | inr not ↦
              let less : place < count = elim (less_or place count) [
                | inl below ↦ below
                | inr past ↦ absurd (not (omega arith))
              ] in
              let inside : place < length numbers = omega (arith, less, counted) in
              let at : get_or more place 0 ≡ get_or numbers place 0 =
              ap (λ (ns : List ℕ). get_or ns place 0) is
              ∙ get_or_append_left numbers (number ∷ []) 0 place inside in
              let row : tests_at (tests_of new more) place ≡ tests_at (tests_of old numbers) place =
              row-at new more place (omega (arith, lt, long, counted))
              ∙ (ap (kind_at new) at
              ∙ (kind-stays old new (get_or numbers place 0) grown (are.inside place 0 inside)
              ∙ sym (row-at old numbers place inside))) in
              subst (ArePassed steps other) (sym row) (are.rows place other less said)
        ];
      }

  -- rows for a list of readings
  pub kinds-table : (readings : List Reading) (kinds : List (List ℕ)) (numbers : List ℕ) →
      AreKinds steps IsSaid (length readings) kinds numbers →
      ((place : ℕ) → place < length readings → IsSaid place (reading_at readings place)) →
      IsTable steps readings (tests_of kinds numbers)
  kinds-table readings kinds numbers are said = record {
    count = length-map numbers (kind_at kinds) ∙ are.counted;
    rows = λ place test lt. are.rows place (reading_at readings place) lt (said place lt) test;
  }

-- the reading is the one with the number
abbrev pub IsNumber : List Reading → ℕ → Reading → Type 0
IsNumber readings number reading = reading ≡ reading_at readings number
