-- The links that the code adds along a line are those of its step.
use Rattle.std.proofs.Common.{arith, ◌≡◌, ◌≢◌, ℕ, ◌+◌, ◌-◌, ◌<◌, ◌≤◌, List, [], ◌∷◌, ◌++◌, length, refl, ap, subst, sym, ◌∙◌, ◌⊎◌, inl, inr, ◌↔◌, get_or, Bool, false}
use Rattle.std.specs.Prelude.{Contains, All}
use Rattle.std.proofs.lemmas.List.Elements.{All-contains, All-contains_itself, All-weaker, Contains-push, Contains-push_cases}
use Rattle.ux_base.proofs.Lists.{nothing_in}
use Rattle.ux_net.specs.declared.label.Label.{Label}
use Rattle.ux_net.specs.declared.label.Label.TheVariants.{Call}
use Rattle.ux_boxes.specs.declared.place.Place.{Place}
use Rattle.ux_admission.specs.declared.uses.Link.{Link}
use Rattle.ux_net.specs.Words.{Mark, ordinary, opens, closes, mark_of, Step}
use Rattle.ux_boxes.specs.Places.{places_of, place_targets, label_lines, IsPlaceStep}
use Rattle.ux_boxes.specs.Fit.{is_call, IsFitLine}
use Rattle.ux_admission.specs.Closers.{AreClosers}
use Rattle.ux_admission.specs.Gains.{Gains, SoBelow, SoOfOne}
use Rattle.ux_boxes.specs.Numbers.{number_of, AreOffsets}
use Rattle.ux_admission.specs.Uses.{refuses, IsLineLink, IsLinkOf, onward, calling, opening, over, link_from, step_along, IsLinkAlong, IsLinkFrom, IsLinkIn, IsLink}
use Rattle.ux_admission.proofs.GainsLemmas.{gains_one, gains_as}
use Rattle.ux_boxes.proofs.NumbersLemmas.{graph_inside}
use Rattle.ux_boxes.proofs.StepsLemmas.{step_inside, fit_cases, call_inside}
use Rattle.ux_admission.proofs.WaysExact.{gains_elements, number_at, number_small}

-- one is added
pub gains_own : {A : Type 0} (before after : List A) (y : A) → after ≡ before ++ y ∷ [] →
    Gains before after (λ x. y ≡ x)
gains_own before after y is = gains_one before after y (λ x. y ≡ x) is refl (λ x e. e)

-- a fit line in which a call stands is that call
pub lone_call : (count : ℕ) (line : List Label) (h : ℕ) → IsFitLine count line →
    Contains line (Call h) → line ≡ Call h ∷ []
lone_call count line h fit stands = elim (fit_cases count line fit) [
  | inl c ↦
      let there = subst (λ (l : List Label). Contains l (Call h)) c.1 stands in
      let same : Call c.0 ≡ Call h = elim (Contains-push_cases [] (Call c.0) (Call h) there) [
        | inl a ↦ absurd (nothing_in a)
        | inr e ↦ e
      ] in
      c.1 ∙ ap (λ (x : Label). x ∷ []) same
  | inr n ↦
      let no = All-contains (λ (x : Label). is_call x ≡ false) line (Call h) n stands in
      absurd (cc)
]

-- links are one where their numbers are
same_link : (g from to : ℕ) (into : Bool) (later next : ℕ) → from ≡ later → to ≡ next →
    ◌≡◌ {A = Link} (record { graph = g; from = from; to = to; is_negative = into })
    (record { graph = g; from = later; to = next; is_negative = into })
same_link g from to into later next f t =
    ap (λ n. record { graph = g; from = n; to = to; is_negative = into }) f
    ∙ ap (λ n. record { graph = g; from = later; to = n; is_negative = into }) t

module _ (graphs : List (List Place)) (offsets : List ℕ) (are : AreOffsets graphs offsets)
    (closers : List (List ℕ)) (closed : AreClosers graphs closers) (g a b : ℕ)
    (inside : b < length (places_of graphs g)) (line : List Label)
    (fit : IsFitLine (length graphs) line) (base : ℕ)
    (based : (n : ℕ) → base + n ≡ number_of graphs g n) (row : List ℕ)
    (is_row : row ≡ get_or closers (number_of graphs g b) []) where
  -- the link of the step, as the code makes it
  abbrev made : (to : ℕ) → Bool → Link
  made to into = record { graph = g; from = base + a; to = to; is_negative = into }

  made_is : (from to : ℕ) (into : Bool) → from ≡ to →
      link_from graphs g a to into ≡ made from into
  made_is from to into e = same_link g (number_of graphs g a) to into (base + a) from
      (sym (based a)) (sym e)

  started : (h : ℕ) → line ≡ Call h ∷ [] → get_or offsets (h - 1) 0 ≡ number_of graphs h 0
  started h e =
      let there = call_inside (length graphs) line h fit e in
      omega (arith, number_at graphs offsets are h 0 there.0 there.1)

  line_forth : (mark : Mark) → mark_of line ≡ mark → (link : Link) →
      IsLineLink offsets base (made (base + b) false) line row mark link →
      IsLinkAlong graphs g a b line link
  line_forth ordinary m link (inl s) =
      subst (IsLinkAlong graphs g a b line)
      (made_is (base + b) (number_of graphs g b) false (based b) ∙ s) (onward m)
  line_forth ordinary m link (inr c) =
      subst (IsLinkAlong graphs g a b line)
      (made_is (get_or offsets (c.0 - 1) 0) (number_of graphs c.0 0) false (started c.0 c.1) ∙ c.2)
      (calling c.0 (subst (λ (l : List Label). Contains l (Call c.0)) (sym c.1)
      (Contains-push [] (Call c.0))))
  line_forth (opens sign) m link (inl s) =
      subst (IsLinkAlong graphs g a b line)
      (made_is (base + b) (number_of graphs g b) (refuses sign) (based b) ∙ s) (opening sign m)
  line_forth (opens sign) m link (inr j) =
      subst (IsLinkAlong graphs g a b line)
      (made_is (base + j.0) (number_of graphs g j.0) false (based j.0) ∙ j.2)
      (over sign j.0 m ((closed.row g b j.0 inside).0
      (subst (λ (r : List ℕ). Contains r j.0) is_row j.1)))
  line_forth closes m link l = absurd l

  line_back : {link : Link} → IsLinkAlong graphs g a b line link →
      IsLineLink offsets base (made (base + b) false) line row (mark_of line) link
  line_back {link = link} (onward m) =
      subst (λ mark. IsLineLink offsets base (made (base + b) false) line row mark link) (sym m)
      (inl (sym (made_is (base + b) (number_of graphs g b) false (based b))))
  line_back {link = link} (calling h stands) =
      let alone = lone_call (length graphs) line h fit stands in
      let m : mark_of line ≡ ordinary =
      subst (λ (l : List Label). mark_of l ≡ ordinary) (sym alone) refl in
      subst (λ mark. IsLineLink offsets base (made (base + b) false) line row mark link) (sym m)
      (inr (
        h,
        alone,
        sym (made_is (get_or offsets (h - 1) 0) (number_of graphs h 0) false (started h alone)),
      ))
  line_back {link = link} (opening sign m) =
      subst (λ mark. IsLineLink offsets base (made (base + b) false) line row mark link) (sym m)
      (inl (sym (made_is (base + b) (number_of graphs g b) (refuses sign) (based b))))
  line_back {link = link} (over sign c m closes_into) =
      subst (λ mark. IsLineLink offsets base (made (base + b) false) line row mark link) (sym m)
      (inr (
        c,
        subst (λ (r : List ℕ). Contains r c) (sym is_row)
            ((closed.row g b c inside).1 closes_into),
        sym (made_is (base + c) (number_of graphs g c) false (based c)),
      ))

  -- the links that are added along a line are those of the step
  pub gains_line : (before after : List Link) →
      Gains before after
      (IsLineLink offsets base (made (base + b) false) line row (mark_of line)) →
      Gains before after (IsLinkAlong graphs g a b line)
  gains_line before after gains =
      gains_as before after
      (IsLineLink offsets base (made (base + b) false) line row (mark_of line))
      (IsLinkAlong graphs g a b line) (λ link. (
        λ l. line_forth (mark_of line) refl link l,
        λ l. line_back l,
      )) gains

module _ (graphs : List (List Place)) (offsets : List ℕ) (are : AreOffsets graphs offsets)
    (closers : List (List ℕ)) (closed : AreClosers graphs closers) (g b : ℕ) (from : 1 ≤ g)
    (to : g ≤ length graphs) (inside : b < length (places_of graphs g)) where
  -- the row at the number of a place is its own
  pub row_is : (row : List ℕ) → row ≡ get_or closers (get_or offsets (g - 1) 0 + b) [] →
      row ≡ get_or closers (number_of graphs g b) []
  row_is row is =
      is ∙ ap (λ n. get_or closers n []) (number_at graphs offsets are g b from to)

  -- the places in a row have numbers
  pub row_room : (row : List ℕ) → row ≡ get_or closers (number_of graphs g b) [] →
      All (λ place. get_or offsets (g - 1) 0 + place < 18446744073709551616) row
  row_room row is = All-weaker (Contains row)
      (λ place. get_or offsets (g - 1) 0 + place < 18446744073709551616) (λ place h.
      let closes_into = (closed.row g b place inside).0
      (subst (λ (r : List ℕ). Contains r place) is h) in
      let body = closes_into.1 in
      let there : place < length (places_of graphs g) =
      subst (λ n. n < length (places_of graphs g)) body.after
      (step_inside (places_of graphs g) body.step body.inside).1 in
      number_small graphs offsets are g place from to there) row (All-contains_itself row)

module _ (graphs : List (List Place)) where
  -- the links from a place to one of its targets
  abbrev pub IsLinkTo : (g a b : ℕ) → Link → Type 0
  IsLinkTo g a b link =
      SoOfOne (label_lines (places_of graphs g) b) (IsLinkAlong graphs g a b) link

  -- the links from a place are those to each target
  pub gains_from : (before after : List Link) (g a : ℕ) → a ≢ 1 →
      Gains before after (SoBelow (length (place_targets (places_of graphs g) a))
      (λ k. IsLinkTo g a (get_or (place_targets (places_of graphs g) a) k 0))) →
      Gains before after (IsLinkFrom graphs g a)
  gains_from before after g a apart gains =
      let targets = place_targets (places_of graphs g) a in
      gains_as before after (SoOfOne targets (IsLinkTo g a)) (IsLinkFrom graphs g a)
      (λ link. (λ s. (apart, s), λ s. s.1))
      (gains_elements before after targets 0 (IsLinkTo g a) gains)

  link_graph : (g : ℕ) (s : Step) {link : Link} → IsLinkOf graphs g s link → link.graph ≡ g
  link_graph g s (onward m) = refl
  link_graph g s (calling h stands) = refl
  link_graph g s (opening sign m) = refl
  link_graph g s (over sign c m closes_into) = refl

  -- a link of one of the graphs is that of a step
  link_forth : (link : Link) → SoBelow (length graphs) (λ k. IsLinkIn graphs (k + 1)) link →
      IsLink graphs link
  link_forth link s =
      let g = s.0 + 1 in
      let a = s.2.0 in
      let targets = s.2.2.1 in
      let b = targets.0 in
      let line : List Label = targets.2.0 in
      let of_step : IsLinkAlong graphs g a b line link = targets.2.2 in
      let here = link_graph g (step_along graphs g a b line) of_step in
      let step : IsPlaceStep (places_of graphs g) (step_along graphs g a b line) = record {
        before_end = s.2.2.0;
        leads = targets.1;
        line = targets.2.1;
        puts = refl;
      } in record {
        step = step_along graphs g a b line;
        of_graph = subst (λ n. IsPlaceStep (places_of graphs n) (step_along graphs g a b line))
            (sym here) step;
        of_step = subst (λ n. IsLinkOf graphs n (step_along graphs g a b line) link) (sym here)
            of_step;
      }

  -- the link of a step is one of its graph
  link_back : (link : Link) → IsLink graphs link →
      SoBelow (length graphs) (λ k. IsLinkIn graphs (k + 1)) link
  link_back link l =
      let s = l.step in
      let g = link.graph in
      let start = (step_inside (places_of graphs g) s l.of_graph).0 in
      let there = graph_inside graphs g s.from start in
      let low = there.0 in
      let high = there.1 in
      let same : g ≡ g - 1 + 1 = omega (arith, low) in
      let of_step : IsLinkAlong graphs g s.from s.to s.labels link =
      subst (λ (o : List _). IsLinkOf graphs g
      (record { from = s.from; to = s.to; output = o; labels = s.labels }) link)
      l.of_graph.puts l.of_step in
      let here : IsLinkIn graphs g link = (
        s.from,
        start,
        (
          l.of_graph.before_end,
          (s.to, l.of_graph.leads, (s.labels, l.of_graph.line, of_step)),
        ),
      ) in
      (g - 1, omega (arith, low, high), subst (λ n. IsLinkIn graphs n link) same here)

  -- the links of all graphs are those of all steps
  pub links_all : (links : List Link) →
      Gains [] links (SoBelow (length graphs) (λ k. IsLinkIn graphs (k + 1))) →
      (link : Link) → Contains links link ↔ IsLink graphs link
  links_all links gains link = (
    λ h. elim ((gains link).0 h) [
      | inl a ↦ absurd (nothing_in a)
      | inr s ↦ link_forth link s
    ],
    λ l. (gains link).1 (inr (link_back link l)),
  )
