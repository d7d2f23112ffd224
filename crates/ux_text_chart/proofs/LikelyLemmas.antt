-- A part that reaches something begins: its first state is final, or an edge of that leads on. Where it
-- begins it is tried. And rows of the parts that begin.
use Rattle.std.proofs.Common.{arith, ◌≡◌, ℕ, zero, suc, ◌+◌, ◌-◌, ◌<◌, ◌≤◌, ◌↔◌, Bool, false, List, [], ◌∷◌, ◌++◌, ◌⊎◌, Some, inl, inr, refl, sym, ap, subst, ◌∙◌, length, get_or, length-append}
use Rattle.std.specs.Prelude.{Contains, IsTrue, MatchResult, None, Option, Result, Ok, Err, slice_get}
use Rattle.std.specs.Ordering.{nat_cmp}
use Rattle.std.specs.List.Sorted.{IsBinarySearchResult}
use Rattle.std.proofs.lemmas.List.Sorted.{searched}
use Rattle.std.proofs.lemmas.List.Kept.{AllPairs-from_increasing}
use Rattle.std.specs.List.Sorted.{IsStrictlyIncreasing}
use Rattle.std.proofs.lemmas.List.Elements.{Contains-append_left, Contains-push, Contains-push_cases}
use Rattle.std.proofs.lemmas.List.{get_or_append_left, get_or_default, get_or_push}
use Rattle.std.proofs.lemmas.List.Elements.{Contains-get_or}
use Rattle.std.proofs.lemmas.Option.{same_Some, none-some, slice_get_within, slice_get-get_or}
use Rattle.std.proofs.lemmas.Bool.{false≢true}
use Rattle.ux_net.specs.declared.label.Label.{Label}
use Rattle.ux_net.specs.declared.label.Label.TheVariants as label
use Rattle.ux_net.specs.declared.net_graph.NetGraph.{NetGraph}
use Rattle.ux_net.specs.declared.state.Edge.{Edge}
use Rattle.ux_net.specs.declared.state.State.{State}
use Rattle.ux_net.specs.Nets.{net_grammar, states_of}
use Rattle.ux_net.specs.Words.{Step, mark_of, closes}
use Rattle.ux_base.proofs.Lists.{less_or}
use Rattle.ux_meaning.specs.Inputs.{Input}
use Rattle.ux_meaning.specs.Texts.{Folds}
use Rattle.ux_parts.specs.declared.part.Part.{Part}
use Rattle.ux_parts.specs.declared.parts.Parts.{Parts}
use Rattle.ux_parts.specs.Ordered.{GoesAhead, NeverRises}
use Rattle.ux_parts.specs.Parts.{ArePartsOf}
use Rattle.ux_parts.specs.Runs.{Ends, NextBy}
use Rattle.ux_parts.proofs.Running.{whole}
use Rattle.ux_alphabet.specs.Letters.{Letters}
use Rattle.ux_tokens.specs.Tokens.{Token}
use Rattle.ux_lexical_tables.specs.Tables.{Tables}
use Rattle.ux_walk.specs.Literals.{IsFitted, IsLiteral}
use Rattle.ux_walk.specs.Settings.{applied_text}
use Rattle.ux_chart.specs.Likely.{AreLikely, ReachesSome}
use Rattle.ux_chart.proofs.Entering.{single}
use Rattle.ux_text_chart.specs.Leading.{MayLead}
use Rattle.ux_text_chart.specs.Likely.{IsLikelyRow, MayBegin, MayLeadTo, SomeLeads}
use Rattle.ux_text_chart.specs.NetTables.{IsTokenAt}
use Rattle.ux_text_chart.specs.declared.net_tables.TokenAt.{TokenAt}
use Rattle.ux_text_chart.specs.declared.net_tables.TokenAt.TheVariants.{Number, Unknown, End}
use Rattle.ux_text_chart.specs.PartIndexes.{IsNoLater, IsPartIndex, IsTried, begins_at}
use Rattle.ux_text_chart.specs.declared.part_index.PartIndex.{PartIndex}

-- nothing more is asked of a label that closes a context
closing_leads : (input : Input) (parts : Parts) (row : List ℕ) (x : Label) (i : ℕ) →
    mark_of (x ∷ []) ≡ closes → MayLeadTo input parts row x i
closing_leads input parts row (label.CaseFolded text) i e = cc
closing_leads input parts row (label.CaseExact text) i e = cc
closing_leads input parts row (label.Mask mask) i e = cc
closing_leads input parts row (label.Brace text) i e = cc
closing_leads input parts row label.Space i e = cc
closing_leads input parts row (label.Call h) i e = cc
closing_leads input parts row x i e = tt

module _ (input : Input) (last : ℕ) (ahead : GoesAhead input last) (net : List NetGraph)
    (parts : Parts) (are : ArePartsOf net parts) where
  -- the parts before one that reach something from a position stand in the row
  module _ (number : ℕ) (part : Part) (at : slice_get parts.list number ≡ Some part) (i : ℕ)
      (row : List ℕ) (before : (v : ℕ) (other : Part) → v < number →
      slice_get parts.list v ≡ Some other → ReachesSome input net parts other i → Contains row v) where
    -- a step from the first state along a label is one that the label may lead
    step_leads : (x : Label) (to b k : ℕ) →
        NeverRises (net_grammar net) are.rank part.graph part.first to x →
        NextBy input (net_grammar net) parts.levels part.graph x to i b k →
        MayLeadTo input parts row x i
    step_leads (label.CaseFolded text) to b k falls (same, inl t) = (k, t)
    step_leads (label.CaseFolded text) to b k falls (same, inr s) = absurd s.2
    step_leads (label.CaseExact text) to b k falls (same, inl t) = (k, t)
    step_leads (label.CaseExact text) to b k falls (same, inr s) = absurd s.2
    step_leads (label.Mask mask) to b k falls (same, inl t) = (k, t)
    step_leads (label.Mask mask) to b k falls (same, inr s) = absurd s.2
    step_leads (label.Brace text) to b k falls (same, inl t) = (k, t)
    step_leads (label.Brace text) to b k falls (same, inr s) = absurd s.2
    step_leads label.Space to b k falls (same, inl t) = (k, t)
    step_leads label.Space to b k falls (same, inr s) = absurd s.2
    step_leads (label.Call h) to b k falls (same, ends) = λ v is.
        let there = are.numbers h 0 v is in
        let lower = subst (λ g. are.rank g there.part.first < are.rank part.graph part.first)
        (sym there.graph)
        (subst (λ n. are.rank h n < are.rank part.graph part.first) (sym there.first) falls.0) in
        before v there.part (are.sorted v number there.part part there.found at lower) there.found
        (inl (
          k,
          subst (λ g. Ends input (net_grammar net) parts.levels g there.part.first i k)
              (sym there.graph)
              (subst (λ n. Ends input (net_grammar net) parts.levels h n i k) (sym there.first) ends),
        ))
    step_leads x to b k falls next = tt

    -- an edge of the first state leads on
    record Leads : Type 0 where
      pub state : State
      pub found : slice_get (states_of net part.graph) part.first ≡ Some state
      pub edge : Edge
      pub inside : Contains state.edges edge
      pub leads : MayLeadTo input parts row edge.label i

    -- at the start, or behind such an edge
    abbrev Has : (a j : ℕ) → Type 0
    Has a j = ((a ≡ part.first) × (j ≡ i)) ⊎ Leads

    closed : (s : Step) (x : Label) → ((net_grammar net).graph part.graph).IsStep s →
        s.labels ≡ x ∷ [] → (j b k : ℕ) → Has s.from j →
        NextBy input (net_grammar net) parts.levels part.graph x s.to j b k → Has b k
    closed s x inside named j b k (inr leads) next = inr leads
    closed s x inside named j b k (inl (from, here)) next =
        let same : x ∷ [] ≡ inside.edge.label ∷ [] = sym named ∙ inside.label in
        let is : x ≡ inside.edge.label = cc in
        let falls = subst (λ a. NeverRises (net_grammar net) are.rank part.graph a s.to x) from
        (are.ordered.falls part.graph s x inside named) in
        inr (record {
          state = inside.state;
          found = ap (λ a. slice_get (states_of net part.graph) a) (sym from) ∙ inside.found;
          edge = inside.edge;
          inside = inside.inside;
          leads = subst (λ (y : Label). MayLeadTo input parts row y i) is
              (step_leads x s.to b k falls
              (subst (λ n. NextBy input (net_grammar net) parts.levels part.graph x s.to n b k) here
              next));
        })

    begun : Leads → MayBegin input net parts row part i
    begun l = record {
      state = l.state;
      found = l.found;
      so = inr (l.edge, l.inside, l.leads);
    }

    -- a part that reaches something begins
    pub may_begin : ReachesSome input net parts part i → MayBegin input net parts row part i
    may_begin (inl (j, e)) =
        elim (whole input last ahead (net_grammar net) (single net) parts.levels part.graph
        Has closed e.from.run i j e.from.events e.from.seq (inl (refl, refl))) [
          | inl here ↦ record {
            state = e.ends.state;
            found = ap (λ a. slice_get (states_of net part.graph) a) (sym here.0) ∙ e.ends.found;
            so = inl e.ends.final;
          }
          | inr l ↦ begun l
        ]
    may_begin (inr (c, e)) =
        elim (whole input last ahead (net_grammar net) (single net) parts.levels part.graph
        Has closed e.from.run i e.at e.from.events e.from.seq (inl (refl, refl))) [
          | inl here ↦ record {
            state = e.inside.state;
            found = ap (λ a. slice_get (states_of net part.graph) a) (sym here.0)
                ∙ e.inside.found;
            so = inr (
              e.inside.edge,
              e.inside.inside,
              closing_leads input parts row e.inside.edge.label i
                  (ap mark_of (sym e.inside.label) ∙ e.closed),
            );
          }
          | inr l ↦ begun l
        ]

-- no edge so far leads on, and the next one doesn't
pub none_more : (input : Input) (parts : Parts) (row : List ℕ) (edges : List Edge) (at i : ℕ) (item : Edge) (b : Bool) →
    i < length edges → item ≡ get_or edges i item →
    (IsTrue b ↔ MayLeadTo input parts row item.label at) → b ≡ false →
    ((n : ℕ) (edge : Edge) → n < i → slice_get edges n ≡ Some edge →
    MayLeadTo input parts row edge.label at → ⊥) →
    (n : ℕ) (edge : Edge) → n < i + 1 → slice_get edges n ≡ Some edge →
    MayLeadTo input parts row edge.label at → ⊥
none_more input parts row edges at i item b inside is told never before n edge low found may =
    elim (less_or n i) [
      | inl l ↦ before n edge l found may
      | inr m ↦
          let e : n ≡ i = omega (arith, m, low) in
          let here : slice_get edges i ≡ Some item =
          slice_get-get_or edges i item inside ∙ ap Some (sym is) in
          let same = same_Some edge item
          (sym found ∙ (ap (λ k. slice_get edges k) e ∙ here)) in
          let yes = told.1 (subst (λ (x : Edge). MayLeadTo input parts row x.label at) same may) in
          absurd (false≢true (sym never ∙ yes))
    ]

pub none_leads : (input : Input) (parts : Parts) (row : List ℕ) (edges : List Edge) (at i : ℕ) → length edges ≤ i →
    ((n : ℕ) (edge : Edge) → n < i → slice_get edges n ≡ Some edge →
    MayLeadTo input parts row edge.label at → ⊥) →
    SomeLeads input parts row edges at → ⊥
none_leads input parts row edges at i all before (edge, (n, inside, is), may) =
    before n edge (omega (arith, all, inside)) (slice_get-get_or edges n edge inside ∙ ap Some is)
    may

-- what a search by halving finds
pub among : (row : List ℕ) (x : ℕ) (r : Result ℕ ℕ) →
    IsBinarySearchResult (λ y. nat_cmp y x) row r → IsStrictlyIncreasing row →
    MatchResult r (λ i. Contains row x) (λ i. Contains row x → ⊥)
among row x r found up = by r (searched row x r found rises)
  where
    rises : (i j : ℕ) → i ≤ j → j < length row → get_or row i 0 ≤ get_or row j 0
    rises i j le inside = elim (less_or i j) [
      | inl l ↦ let u = AllPairs-from_increasing row up i j 0 l inside in omega arith
      | inr m ↦
          let e : i ≡ j = omega (arith, le, m) in
          let same = ap (λ n. get_or row n 0) e in
          omega (arith, same)
    ]

    by : (t : Result ℕ ℕ) → MatchResult t (λ i. (i < length row) × (get_or row i 0 ≡ x))
        (λ i. (i ≤ length row) × ((k : ℕ) → k < i → get_or row k 0 < x)
        × ((k : ℕ) → i ≤ k → k < length row → x < get_or row k 0)) →
        MatchResult t (λ i. Contains row x) (λ i. Contains row x → ⊥)
    by (Ok i) s = (i, s.0, get_or_default row i x 0 s.0 ∙ s.1)
    by (Err i) s = λ (n, inside, is).
        let here : get_or row n 0 ≡ x = sym (get_or_default row n x 0 inside) ∙ is in
        elim (less_or n i) [
          | inl l ↦ let u = s.1 n l in omega (arith, here, u)
          | inr m ↦ let u = s.2 n m inside in omega (arith, here, u)
        ]

-- any label but a call leads on by itself
pub leads_alone : (input : Input) (parts : Parts) (row : List ℕ) (x : Label) (i : ℕ) →
    ((h : ℕ) → x ≡ label.Call h → ⊥) → MayLead input x i ↔ MayLeadTo input parts row x i
leads_alone input parts row (label.Call h) i never = absurd (never h refl)
leads_alone input parts row x i never = (λ m. m, λ m. m)

-- a larger number goes last
rises_more : (xs : List ℕ) (y : ℕ) → IsStrictlyIncreasing xs →
    ((x : ℕ) → Contains xs x → x < y) → IsStrictlyIncreasing (xs ++ y ∷ [])
rises_more xs y up below = λ k inside.
    let long = length-append xs (y ∷ []) in
    let a = get_or_append_left xs (y ∷ []) 0 k (omega (arith, long)) in
    elim (less_or (k + 1) (length xs)) [
      | inl l ↦
          let b = get_or_append_left xs (y ∷ []) 0 (k + 1) l in
          let u = up k l in
          omega (arith, a, b, u)
      | inr m ↦
          let e : length xs ≡ k + 1 = omega (arith, long) in
          let b = get_or_push xs y 0 (k + 1) e in
          let u = below _ (Contains-get_or xs k 0 (omega (arith, e))) in
          omega (arith, a, b, u)
    ]

module _ (input : Input) (net : List NetGraph) (parts : Parts) where
  -- no part is asked about yet
  pub likely_none : (row : List ℕ) (i : ℕ) → row ≡ [] → IsLikelyRow input net parts row i 0
  likely_none row i none = subst (λ (l : List ℕ). IsLikelyRow input net parts l i 0) (sym none)
      (record {
        ascends = λ k inside. absurd (omega (arith, inside));
        below = λ number h. absurd (let inside = h.1 in omega (arith, inside));
        whole = λ number part low. absurd (omega (arith, low));
      })

  -- a part that begins goes last
  pub likely_more : (row new : List ℕ) (i number : ℕ) → new ≡ row ++ number ∷ [] →
      IsLikelyRow input net parts row i number → IsLikelyRow input net parts new i (number + 1)
  likely_more row new i number is r =
      subst (λ (l : List ℕ). IsLikelyRow input net parts l i (number + 1)) (sym is) (record {
        ascends = rises_more row number r.ascends r.below;
        below = λ other h. elim (Contains-push_cases row number other h) [
          | inl o ↦ let b = r.below other o in omega (arith, b)
          | inr e ↦ omega (arith, e)
        ];
        whole = λ other part below found some. elim (less_or other number) [
          | inl l ↦ Contains-append_left row (number ∷ []) other (r.whole other part l found some)
          | inr m ↦
              let e : number ≡ other = omega (arith, m, below) in
              subst (λ n. Contains (row ++ number ∷ []) n) e (Contains-push row number)
        ];
      })

  -- a part that doesn't is passed over
  pub likely_same : (row : List ℕ) (i number : ℕ) →
      ((part : Part) × (slice_get parts.list number ≡ Some part)
      × ReachesSome input net parts part i → ⊥) →
      IsLikelyRow input net parts row i number → IsLikelyRow input net parts row i (number + 1)
  likely_same row i number never r = record {
    ascends = r.ascends;
    below = λ other h. let b = r.below other h in omega (arith, b);
    whole = λ other part below found some. elim (less_or other number) [
      | inl l ↦ r.whole other part l found some
      | inr m ↦
          let e : other ≡ number = omega (arith, m, below) in
          absurd (never (part, ap (λ n. slice_get parts.list n) (sym e) ∙ found, some))
    ];
  }

  module _ (last : ℕ) (ahead : GoesAhead input last) (are : ArePartsOf net parts) (i : ℕ)
      (row : List ℕ) where
    -- parts that don't begin are passed over
    pub likely_upto : (from count : ℕ) → ((number : ℕ) (part : Part) → from ≤ number →
        number < from + count → slice_get parts.list number ≡ Some part →
        MayBegin input net parts row part i → ⊥) →
        IsLikelyRow input net parts row i from →
        IsLikelyRow input net parts row i (from + count)
    likely_upto from zero never r = subst (λ n. IsLikelyRow input net parts row i n)
        (omega arith) r
    likely_upto from (suc count) never r =
        let before = likely_upto from count
        (λ number part low high. never number part low (omega (arith, high))) r in
        subst (λ n. IsLikelyRow input net parts row i n) (omega arith)
        (likely_same row i (from + count)
        (λ (part, found, some). never (from + count) part (omega arith) (omega arith) found
        (may_begin input last ahead net parts are (from + count) part found i row before.whole
        some)) before)

    -- as far as the next one
    pub likely_next : (from to : ℕ) → from ≤ to → ((number : ℕ) (part : Part) → from ≤ number →
        number < to → slice_get parts.list number ≡ Some part →
        MayBegin input net parts row part i → ⊥) →
        IsLikelyRow input net parts row i from → IsLikelyRow input net parts row i to
    likely_next from to le never r =
        let e : from + (to - from) ≡ to = omega (arith, le) in
        subst (λ n. IsLikelyRow input net parts row i n) e
        (likely_upto from (to - from)
        (λ number part low high. never number part low (omega (arith, high, e))) r)

    -- or to the end
    pub likely_whole : (from : ℕ) → ((number : ℕ) (part : Part) → from ≤ number →
        slice_get parts.list number ≡ Some part → MayBegin input net parts row part i → ⊥) →
        IsLikelyRow input net parts row i from → AreLikely input net parts i row
    likely_whole from never r =
        let all = likely_upto from (length parts.list)
        (λ number part low high. never number part low) r in
        record {
          ascends = all.ascends;
          whole = λ number part found some.
              let inside = slice_get_within parts.list number part found in
              all.whole number part (omega (arith, inside)) found some;
        }

-- a part that begins at a position is tried there
module _ (alphabet : Letters) (texts : List (List ℕ)) (tokens : List Token) (tables : Tables)
    (net : List NetGraph) (parts : Parts) (index : PartIndex)
    (is : IsPartIndex alphabet texts net parts index) (p : ℕ) where
  -- a literal of its first state takes the token, so there is one, and it is listed with its number
  literal_tried : (x : Label) (row : List ℕ) (number : ℕ) → IsLiteral x →
      ((n : ℕ) → IsFitted alphabet texts x n →
      Contains index.beginnings.items (begins_at n number)) →
      MayLeadTo (applied_text alphabet tokens tables) parts row x p → (token : TokenAt) →
      IsTokenAt texts tokens p token → number < index.count → IsTried index token number
  literal_tried (label.CaseFolded text) row number literal listed (k, (t, at, (stands, fits), end))
      (Number n) (there, here, told) low =
      inr (listed n (
        there.text,
        told,
        subst (λ (u : Token). Folds alphabet text u.text)
            (same_Some t there (sym at ∙ here)) fits,
      ))
  literal_tried (label.CaseExact text) row number literal listed (k, (t, at, (stands, fits), end))
      (Number n) (there, here, told) low =
      inr (listed n (
        there.text,
        told,
        subst (λ (u : Token). u.text ≡ text)
            (same_Some t there (sym at ∙ here)) fits,
      ))
  literal_tried (label.CaseFolded text) row number literal listed (k, (t, at, fits, end)) End none low =
      absurd (none-some t (sym none ∙ at))
  literal_tried (label.CaseExact text) row number literal listed (k, (t, at, fits, end)) End none low =
      absurd (none-some t (sym none ∙ at))
  literal_tried x row number literal listed leads Unknown there low = low
  literal_tried x row number literal listed leads token there low = absurd literal

  pub tried : (row : List ℕ) (number : ℕ) (part : Part) →
      slice_get parts.list number ≡ Some part →
      MayBegin (applied_text alphabet tokens tables) net parts row part p → (token : TokenAt) →
      IsTokenAt texts tokens p token → IsTried index token number
  tried row number part found may token there = elim (is.each number part may.state found may.found) [
    | inl everywhere ↦ all token everywhere
    | inr (literals, listed) ↦ elim may.so [
      | inl final ↦ absurd (literals.not_final final)
      | inr (edge, inside, leads) ↦ literal_tried edge.label row number
          (literals.literals edge inside) (listed edge inside) leads token there low
    ]
  ]
    where
      low : number < index.count
      low = subst (λ n. number < n) (sym is.count) (slice_get_within parts.list number part found)

      all : (seen : TokenAt) → Contains index.everywhere.items number → IsTried index seen number
      all (Number n) everywhere = inl everywhere
      all Unknown everywhere = low
      all End everywhere = everywhere

-- no part before the next one is tried
pub none_earlier : (next : Option ℕ) (number found : ℕ) → next ≡ Some found → number < found →
    IsNoLater next number → ⊥
none_earlier None number found is low h = h
none_earlier (Some other) number found is low h =
    let same = same_Some other found is in omega (arith, same, low, h)

pub none_later : (next : Option ℕ) (number : ℕ) → next ≡ None → IsNoLater next number → ⊥
none_later None number is h = h
none_later (Some other) number is h = absurd (none-some other (sym is))
