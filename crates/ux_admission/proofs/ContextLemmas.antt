-- The contexts that are refused by where steps lead are those that are refused.
use Rattle.std.proofs.Common.{arith, ◌≡◌, ℕ, ◌<◌, ◌≤◌, List, [], ◌∷◌, ◌++◌, length, refl, ap, subst, sym, ◌∙◌, inl, inr, ◌↔◌, suc, ◌+◌, get_or, take, drop}
use Rattle.std.specs.Prelude.{Contains, None}
use Rattle.std.proofs.lemmas.List.{get_or-take, get_or-drop, length-take-le}
use Rattle.ux_base.proofs.Lists.{same_or}
use Rattle.ux_admission.specs.declared.leading.Leading.{Leading}
use Rattle.ux_boxes.specs.declared.place.Place.{Place}
use Rattle.ux_boxes.specs.Refusing.{IsFirst}
use Rattle.ux_admission.specs.BadContexts.{Ends, stops, follows, passes, IsBad}
use Rattle.ux_net.specs.Closers.{OpensInto}
use Rattle.ux_admission.specs.Closers.{AreClosers}
use Rattle.ux_admission.specs.ContextClose.{IsBadContext}
use Rattle.ux_admission.specs.Leading.{IsLeading, Leads, AreClosersIn}
use Rattle.ux_boxes.specs.Numbers.{places_before}
use Rattle.ux_boxes.specs.Places.{places_of, place_graph, place_grammar, IsPlaceStep, IsEndPlace}
use Rattle.ux_admission.specs.Spots.{FindsFirst}
use Rattle.ux_net.specs.Words.{Sign, negative, ordinary, opens, Letter, context, letters, put_by, Step, Run, stop, along, across, IsBody}
use Rattle.ux_boxes.proofs.CutLemmas.{split_fits}
use Rattle.ux_admission.proofs.FindingLemmas.{row_inside, closes_inside}
use Rattle.ux_admission.proofs.LeadingLemmas.{leading_inside, step_of, leads_of, closes_into, into_closes, run_closes, closes_exactly}
use Rattle.ux_boxes.proofs.NumbersLemmas.{graph_inside, places_at}
use Rattle.ux_boxes.proofs.StepsLemmas.{step_inside}

module _ (graphs : List (List Place)) (g : ℕ) where
  step_there : (s : Step) → IsPlaceStep (places_of graphs g) s →
      (1 ≤ g) × (g ≤ length graphs)
  step_there s i = graph_inside graphs g s.from (step_inside (places_of graphs g) s i).0

  -- a graph in which a context is refused is there
  pub bad_there : (n : ℕ) → IsBadContext (place_grammar graphs) g n →
      (1 ≤ g) × (g ≤ length graphs)
  bad_there n (inl (inl x)) = step_there x.opening.step x.opening.of_graph
  bad_there n (inl (inr x)) = step_there x.opening.step x.opening.of_graph
  bad_there n (inr (inl x)) = step_there x.opening.step x.opening.of_graph
  bad_there n (inr (inr x)) =
      let body : IsBody g (place_graph (places_of graphs g)) 0 n x.0 = x.1 in
      step_there body.step body.inside

  opening_inside : (sign : Sign) (n : ℕ) → OpensInto (place_grammar graphs) g sign n →
      n < length (places_of graphs g)
  opening_inside sign n o = subst (λ m. m < length (places_of graphs g)) o.to
      (step_inside (places_of graphs g) o.step o.of_graph).1

  -- and so is the place
  pub bad_inside : (n : ℕ) → IsBadContext (place_grammar graphs) g n →
      n < length (places_of graphs g)
  bad_inside n (inl (inl x)) = opening_inside x.sign n x.opening
  bad_inside n (inl (inr x)) = opening_inside x.sign n x.opening
  bad_inside n (inr (inl x)) = opening_inside negative n x.opening
  bad_inside n (inr (inr x)) =
      let body : IsBody g (place_graph (places_of graphs g)) 0 n x.0 = x.1 in
      subst (λ m. m < length (places_of graphs g)) body.after
      (step_inside (places_of graphs g) body.step body.inside).1

module _ (graphs : List (List Place)) (g : ℕ) (leading : Leading)
    (is : IsLeading (places_of graphs g) leading) where
  -- a place that reaches an end has a run to one
  ends_run : {a : ℕ} → Ends leading a →
      (last : ℕ) × IsEndPlace (places_of graphs g) last
      × ((word : List Letter) × Run g (place_graph (places_of graphs g)) a last word)
  ends_run (stops {a = a} h) = (a, (is.source a 1).0 h, ([], stop))
  ends_run (follows {a = a} {b = b} l r) =
      let graph = place_graph (places_of graphs g) in
      let s = step_of graphs g leading is ordinary a b l in
      let rest = ends_run r in
      let word = (put_by s.0 ++ letters s.0.labels) ++ rest.2.0 in (
        rest.0,
        rest.1,
        (
          word,
          subst (λ n. Run g graph n rest.0 word) s.2 (along s.0 s.1 s.4
              (subst (λ n. Run g graph n rest.0 rest.2.0) (sym s.3) rest.2.1)),
        ),
      )
  ends_run (passes {a = a} {o = o} {d = d} q p r) =
      let graph = place_graph (places_of graphs g) in
      let s = step_of graphs g leading is (opens q.0) a o q.1 in
      let first = closes_into graphs g leading is p in
      let inner : IsBody g graph o d first.0 = first.1 in
      let rest = ends_run r in
      let word = put_by s.0 ++ context q.0 g s.0.to inner.step.to ∷ rest.2.0 in (
        rest.0,
        rest.1,
        (
          word,
          subst (λ n. Run g graph n rest.0 word) s.2 (across q.0 s.0 inner.step s.1 s.4
              (subst (λ n. Run g graph n inner.step.from first.0) (sym s.3) inner.run)
              inner.inside inner.closed
              (subst (λ n. Run g graph n rest.0 rest.2.0) (sym inner.after) rest.2.1)),
        ),
      )

  -- a run to an end reaches it
  run_ends : {a b : ℕ} {word : List Letter} →
      Run g (place_graph (places_of graphs g)) a b word →
      IsEndPlace (places_of graphs g) b → Ends leading a
  run_ends {b = b} stop h = stops ((is.source b 1).1 h)
  run_ends (along s j n r) h =
      follows (leads_of graphs g leading is ordinary s j n) (run_ends r h)
  run_ends (across sign s u j n inner k o r) h =
      passes (sign, leads_of graphs g leading is (opens sign) s j n)
      (run_closes graphs g leading is inner u k o refl) (run_ends r h)

  opens_into : (sign : Sign) (a n : ℕ) → Leads leading (opens sign) a n →
      OpensInto (place_grammar graphs) g sign n
  opens_into sign a n l =
      let s = step_of graphs g leading is (opens sign) a n l in
      record { step = s.0; of_graph = s.1; to = s.3; opens = s.4 }

  into_opens : (sign : Sign) (n : ℕ) → OpensInto (place_grammar graphs) g sign n →
      (a : ℕ) × Leads leading (opens sign) a n
  into_opens sign n o = (
    o.step.from,
    subst (λ m. Leads leading (opens sign) o.step.from m) o.to
        (leads_of graphs g leading is (opens sign) o.step o.of_graph o.opens),
  )

  bad_is : (n : ℕ) → IsBad leading n → IsBadContext (place_grammar graphs) g n
  bad_is n (inl (inl x)) =
      let opening = opens_into x.0.1.0 x.0.0 n x.0.1.1 in
      elim x.1 [
        | inl never ↦ inl (inl (record {
          sign = x.0.1.0;
          opening = opening;
          never = λ c h. never c (into_closes graphs g leading is n c h);
        }))
        | inr ends ↦
            let run = ends_run ends in
            inl (inr (record {
              sign = x.0.1.0;
              opening = opening;
              last = run.0;
              ends = run.1;
              word = run.2.0;
              run = run.2.1;
            }))
      ]
  bad_is n (inl (inr x)) = inr (inl (record {
    opening = opens_into negative x.0.0 n x.0.1;
    first = x.1.0;
    second = x.1.1;
    apart = x.1.2;
    into_first = closes_into graphs g leading is x.1.3;
    into_second = closes_into graphs g leading is x.1.4;
  }))
  bad_is n (inr c) = inr (inr (closes_into graphs g leading is c))

  is_bad : (n : ℕ) → IsBadContext (place_grammar graphs) g n → IsBad leading n
  is_bad n (inl (inl x)) =
      let o = into_opens x.sign n x.opening in
      inl (inl ((o.0, (x.sign, o.1)), inl (λ c h. x.never c (closes_into graphs g leading is h))))
  is_bad n (inl (inr x)) =
      let o = into_opens x.sign n x.opening in
      inl (inl ((o.0, (x.sign, o.1)), inr (run_ends x.run x.ends)))
  is_bad n (inr (inl x)) = inl (inr (
    into_opens negative n x.opening,
    (
      x.first,
      x.second,
      x.apart,
      into_closes graphs g leading is n x.first x.into_first,
      into_closes graphs g leading is n x.second x.into_second,
    ),
  ))
  is_bad n (inr (inr x)) = inr (into_closes graphs g leading is 0 n x)

  pub bad_exactly : (n : ℕ) → IsBad leading n ↔ IsBadContext (place_grammar graphs) g n
  bad_exactly n = (bad_is n, is_bad n)

module _ (graphs : List (List Place)) where
  -- no context is refused in the first graphs
  abbrev pub AreGood : ℕ → Type 0
  AreGood count = (g n : ℕ) → g ≤ count → IsBadContext (place_grammar graphs) g n → ⊥

  pub good_none : AreGood 0
  good_none = λ g n l bad.
      let low = (bad_there graphs g n bad).0 in
      omega (arith, low, l)

  module _ (count : ℕ) (places : List Place) (leading : Leading) (below : count < length graphs)
      (at : places ≡ get_or graphs count []) (is : IsLeading places leading) where
    leading_at : IsLeading (places_of graphs (suc count)) leading
    leading_at = subst (λ (ps : List Place). IsLeading ps leading)
        (at ∙ sym (places_at graphs count [] below)) is

    -- nor in one more
    pub good_more : ((n : ℕ) → IsBad leading n → ⊥) → AreGood count → AreGood (count + 1)
    good_more none before = λ g n l bad. elim (same_or g (suc count)) [
      | inl e ↦
          let here : IsBadContext (place_grammar graphs) (suc count) n =
          subst (λ h. IsBadContext (place_grammar graphs) h n) e bad in
          none n ((bad_exactly graphs (suc count) leading leading_at n).1 here)
      | inr apart ↦ before g n (omega arith) bad
    ]

    -- the least in the next graph is the first
    pub bad_first : (n : ℕ) → IsBad leading n → ((m : ℕ) → m < n → IsBad leading m → ⊥) →
        AreGood count → IsFirst (IsBadContext (place_grammar graphs)) (count + 1) n
    bad_first n bad least before =
        let next : suc count ≡ count + 1 = omega arith in
        let made : IsFirst (IsBadContext (place_grammar graphs)) (suc count) n = record {
          here = (bad_exactly graphs (suc count) leading leading_at n).0 bad;
          first = λ h m l worse. before h m (omega arith) worse;
          least = λ m l worse.
              least m l ((bad_exactly graphs (suc count) leading leading_at m).1 worse);
        } in
        subst (λ h. IsFirst (IsBadContext (place_grammar graphs)) h n) next made

  -- nor in all
  pub good_all : (count : ℕ) → length graphs ≤ count → AreGood count →
      FindsFirst (IsBadContext (place_grammar graphs)) None
  good_all count past good = λ g n bad.
      let high = (bad_there graphs g n bad).1 in
      good g n (omega arith) bad

  -- the rows of a graph, cut from those of all
  pub rows_of_graph : (closers : List (List ℕ)) → AreClosers graphs closers → (count : ℕ)
      (places : List Place) (leading : Leading) (rest rows : List (List ℕ)) →
      count < length graphs → places ≡ get_or graphs count [] → IsLeading places leading →
      rest ≡ drop (places_before graphs (suc count)) closers →
      rows ≡ take (length places) rest → AreClosersIn leading rows
  rows_of_graph closers are count places leading rest rows below at is cut front =
      let here : places ≡ places_of graphs (suc count) =
      at ∙ sym (places_at graphs count [] below) in
      let same = ap (λ (ps : List Place). length ps) here in
      let of_graph : IsLeading (places_of graphs (suc count)) leading =
      subst (λ (ps : List Place). IsLeading ps leading) here is in
      let inside = leading_inside places leading is in
      let fits = split_fits graphs closers rest count places are.len below at cut in
      let len : length rows ≡ length places =
      ap (λ (rs : List (List ℕ)). length rs) front ∙ length-take-le (length places) rest fits in
      let sources = is.sources_len in
      record {
        len = len ∙ sym sources;
        row = λ a c.
            let exactly = closes_exactly graphs (suc count) leading of_graph a c in (
              λ h.
                  let there = row_inside rows a c h in
                  let row = row_is rest rows closers (places_before graphs (suc count)) a
                  (length places) cut front (omega (arith, there, len)) in
                  exactly.1 ((are.row (suc count) a c (omega (arith, there, len, same))).0
                  (subst (λ (r : List ℕ). Contains r c) row h)),
              λ closed.
                  let there = (closes_inside leading inside closed).0 in
                  let row = row_is rest rows closers (places_before graphs (suc count)) a
                  (length places) cut front (omega (arith, there, sources)) in
                  subst (λ (r : List ℕ). Contains r c) (sym row)
                  ((are.row (suc count) a c (omega (arith, there, sources, same))).1
                  (exactly.0 closed)),
            );
      }
    where
      row_is : (rest rows closers : List (List ℕ)) (base a count : ℕ) → rest ≡ drop base closers →
          rows ≡ take count rest → a < count → get_or rows a [] ≡ get_or closers (base + a) []
      row_is rest rows closers base a count cut front l =
          ap (λ (rs : List (List ℕ)). get_or rs a []) front
          ∙ (get_or-take count rest a [] l
          ∙ (ap (λ (rs : List (List ℕ)). get_or rs a []) cut ∙ get_or-drop base closers a []))
