-- The theorem by which exactly the negative states follow by the rules.
use Rattle.std.proofs.Common.{arith, ◌≡◌, ◌↔◌, inl, inr, ℕ, zero, suc, ◌+◌, ◌*◌, ◌<◌, List, [], ◌∷◌, ◌++◌, Some, refl, sym, subst, ap, ◌∙◌, length, get_or, slice_get}
use Rattle.std.specs.Prelude.{None, Contains}
use Rattle.std.specs.List.{range_with_len}
use Rattle.std.proofs.lemmas.List.Elements.{Contains-append_left, Contains-append_right, Contains-append_cases}
use Rattle.std.proofs.lemmas.Option.{slice_get_within}
use Rattle.ux_base.proofs.JoinedLists.{contains_joined, contained_joined, contains_mapped, contained_mapped, contains_range, contained_range}
use Rattle.ux_base.proofs.Lists.{contains_first, contains_later, first_or_later, nothing_in}
use Rattle.ux_base.proofs.OrderedLists.{Contains-at, place_of}
use Rattle.ux_digraph.specs.declared.closing.Rule.{Rule}
use Rattle.ux_digraph.specs.Rules.{AreRulesInside, Derived, fact, by}
use Rattle.ux_net.specs.declared.label.Label.{Label}
use Rattle.ux_net.specs.declared.label.Label.TheVariants as label
use Rattle.ux_net.specs.declared.state.Edge.{Edge}
use Rattle.ux_net.specs.declared.state.State.{State}
use Rattle.ux_net.specs.Closers.{ClosesInto, OpensInto}
use Rattle.ux_net.specs.declared.state_graph.StateGraph.{StateGraph}
use Rattle.ux_net.specs.Nets.{IsNetStep, net_graph}
use Rattle.ux_net.specs.StateGraphs.{state_grammar, told_states}
use Rattle.ux_net.specs.Words.{Sign, positive, negative, Mark, ordinary, opens, closes, mark_of, Letter, Step, Grammar, Run, stop, along, across}
use Rattle.ux_net.proofs.RunLemmas.{run_joined, one_step, over_step}
use Rattle.ux_flatten.specs.Cuts.{IsNegativeUnit, of_negative, within}
use Rattle.ux_flatten.specs.Negative.{IsNegativeAt, StandInside, follows, opened_by, opened_in, opened_of_edge, opened_of_state, rules_by, rules_from, rules_at, rules_in, rules_of_edge, rules_of_places, rules_of_state, rules_over}

-- an edge of a state, by number
pub record EdgeAt (states : List State) : Type 0 where
  pub a : ℕ
  pub state : State
  pub found : slice_get states a ≡ Some state
  pub edge : Edge
  pub inside : Contains state.edges edge

-- the step along an edge
abbrev pub step_of : {states : List State} → EdgeAt states → Step
step_of e = record {
  from = e.a;
  to = e.edge.target;
  output = e.edge.output;
  labels = e.edge.label ∷ [];
}

abbrev pub is_step : {states : List State} (e : EdgeAt states) → IsNetStep states (step_of e)
is_step e = record {
  state = e.state;
  found = e.found;
  edge = e.edge;
  inside = e.inside;
  to = refl;
  label = refl;
  puts = refl;
}

module _ (count : ℕ) where
  -- the rules are those of the edges
  rule_in : (states : List State) (a n : ℕ) (state : State) (edge : Edge) (rule : Rule) →
      slice_get states n ≡ Some state → Contains state.edges edge →
      Contains (rules_of_edge count (a + n) edge) rule → Contains (rules_from count a states) rule
  rule_in [] a n state edge rule found inside there = (let none : None ≡ Some state = found in cc)
  rule_in (one ∷ states) a zero state edge rule found inside there =
      let same : one ≡ state = cc in
      let here : Contains (rules_of_edge count a edge) rule =
      subst (λ n. Contains (rules_of_edge count n edge) rule)
      (let e : a + zero ≡ a = omega arith in e) there in
      Contains-append_left (rules_of_state count a one) (rules_from count (a + 1) states) rule
      (contains_joined (rules_of_edge count a) one.edges edge rule
      (subst (λ (s : State). Contains s.edges edge) (sym same) inside) here)
  rule_in (one ∷ states) a (suc n) state edge rule found inside there =
      Contains-append_right (rules_of_state count a one) (rules_from count (a + 1) states) rule
      (rule_in states (a + 1) n state edge rule found inside
      (subst (λ m. Contains (rules_of_edge count m edge) rule)
      (let e : a + suc n ≡ a + 1 + n = omega arith in e) there))

  pub record OfEdge (states : List State) (a : ℕ) (rule : Rule) : Type 0 where
    pub at : EdgeAt states
    pub there : Contains (rules_of_edge count (a + at.a) at.edge) rule

  rule_of : (states : List State) (a : ℕ) (rule : Rule) → Contains (rules_from count a states) rule →
      OfEdge states a rule
  rule_of [] a rule there = absurd (nothing_in there)
  rule_of (one ∷ states) a rule there =
      elim (Contains-append_cases (rules_of_state count a one) (rules_from count (a + 1) states) rule
      there) [
        | inl own ↦
            let e = contained_joined (rules_of_edge count a) one.edges rule own in
            record {
              at = record { a = 0; state = one; found = refl; edge = e.0; inside = e.1 };
              there = subst (λ n. Contains (rules_of_edge count n e.0) rule)
                  (let same : a ≡ a + 0 = omega arith in same) e.2;
            }
        | inr later ↦
            let it = rule_of states (a + 1) rule later in
            record {
              at = record {
                a = suc it.at.a;
                state = it.at.state;
                found = it.at.found;
                edge = it.at.edge;
                inside = it.at.inside;
              };
              there = subst (λ n. Contains (rules_of_edge count n it.at.edge) rule)
                  (let same : a + 1 + it.at.a ≡ a + suc it.at.a = omega arith in same) it.there;
            }
      ]

-- what the rows of places tell of contexts
pub record TellsOver (grammar : Grammar) (g : ℕ) (stands : List ℕ) (rows : List (List ℕ))
    (before : ℕ) : Type 0 where
  pub sound : (p q : ℕ) → p < length stands → Contains (get_or rows (before + p) []) q →
      ClosesInto grammar g (get_or stands p 0) (get_or stands q 0)
  pub whole : (sign : Sign) (o c : ℕ) → OpensInto grammar g sign o → ClosesInto grammar g o c →
      (p : ℕ) × (q : ℕ) × (p < length stands) × Contains (get_or rows (before + p) []) q
      × (get_or stands p 0 ≡ o) × (get_or stands q 0 ≡ c)

-- The sign of a label that opens a context, and one that does nothing to contexts.
data Kind (x : Label) : Type 0 where
  does_nothing : mark_of (x ∷ []) ≡ ordinary →
      ((count a target : ℕ) → rules_by count a target x ≡ follows a target ∷ []) → Kind x
  does_open : (sign : Sign) → mark_of (x ∷ []) ≡ opens sign →
      ((count a target : ℕ) → rules_by count a target x
      ≡ follows a (count + target) ∷ follows (count + target) target ∷ []) → Kind x
  does_close : mark_of (x ∷ []) ≡ closes → ((count a target : ℕ) → rules_by count a target x ≡ []) →
      Kind x

kind_of : (x : Label) → Kind x
kind_of label.Positive = does_open positive refl (λ count a target. refl)
kind_of label.Negative = does_open negative refl (λ count a target. refl)
kind_of label.ContextEnd = does_close refl (λ count a target. refl)
kind_of label.Empty = does_nothing refl (λ count a target. refl)
kind_of (label.CaseFolded text) = does_nothing refl (λ count a target. refl)
kind_of (label.CaseExact text) = does_nothing refl (λ count a target. refl)
kind_of (label.Mask mask) = does_nothing refl (λ count a target. refl)
kind_of (label.Brace text) = does_nothing refl (λ count a target. refl)
kind_of label.Space = does_nothing refl (λ count a target. refl)
kind_of label.NoSpace = does_nothing refl (λ count a target. refl)
kind_of (label.Begin name) = does_nothing refl (λ count a target. refl)
kind_of (label.End name) = does_nothing refl (λ count a target. refl)
kind_of label.Cut = does_nothing refl (λ count a target. refl)
kind_of (label.Call h) = does_nothing refl (λ count a target. refl)

-- what opens a negative context is such a label
opened_is : (x : Label) (target n : ℕ) → Contains (opened_by target x) n →
    (mark_of (x ∷ []) ≡ opens negative) × (target ≡ n)
opened_is label.Negative target n there = (
  refl,
  elim (first_or_later target [] n there) [
    | inl e ↦ e
    | inr later ↦ absurd (nothing_in later)
  ],
)
opened_is x target n there = absurd (nothing_in there)

opens_there : (x : Label) (target : ℕ) → mark_of (x ∷ []) ≡ opens negative →
    Contains (opened_by target x) target
opens_there label.Negative target e = contains_first target []
opens_there x target e = cc

module _ (graphs : List StateGraph) (g : ℕ) (stands : List ℕ) (rows : List (List ℕ)) (before : ℕ)
    (over : TellsOver (state_grammar graphs) g stands rows before)
    (inside : (e : EdgeAt (told_states graphs g)) → e.edge.target < length (told_states graphs g)) where
  abbrev grammar : Grammar
  grammar = state_grammar graphs

  abbrev states : List State
  states = told_states graphs g

  abbrev count : ℕ
  count = length states

  abbrev all_rules : List Rule
  all_rules = rules_in states stands rows before

  abbrev all_facts : List ℕ
  all_facts = opened_in states

  abbrev IsNegative : ℕ → Type 0
  IsNegative = IsNegativeAt grammar g

  abbrev Follows : ℕ → Type 0
  Follows = Derived all_rules all_facts

  -- a context opens into the state from a negative one
  pub record Opened (o : ℕ) : Type 0 where
    pub s : Step
    pub is : IsNetStep states s
    pub sign : Sign
    pub opening : mark_of s.labels ≡ opens sign
    pub to : s.to ≡ o
    pub from : IsNegative s.from

  pub record Holds (x : ℕ) : Type 0 where
    pub state : x < count → IsNegative x
    pub opened : (o : ℕ) → x ≡ count + o → Opened o

  state_holds : (x : ℕ) → x < count → IsNegative x → Holds x
  state_holds x lt n = record {
    state = λ lt. n;
    opened = λ o e. absurd (omega (arith, lt, e));
  }

  opened_holds : (o : ℕ) → Opened o → Holds (count + o)
  opened_holds o op = record {
    state = λ lt. absurd (omega (arith, lt));
    opened = λ other e. subst Opened (omega (arith, e)) op;
  }

  -- a negative state goes on
  goes_on : {a b : ℕ} {word : List Letter} → IsNegative a → Run g (net_graph states) a b word →
      IsNegative b
  goes_on {word = more} n run = record {
    first = n.first;
    unit = n.unit;
    word = n.word ++ more;
    run = run_joined g (net_graph states) n.run run;
  }

  opened_negative : (o : ℕ) → Opened o → IsNegative o
  opened_negative o op = subst IsNegative op.to (record {
    first = op.s.to;
    unit = within op.sign op.s op.from.unit op.from.run op.is op.opening;
    word = [];
    run = stop;
  })

  by_edge : (e : EdgeAt states) (rule : Rule) →
      Contains (rules_by count e.a e.edge.target e.edge.label) rule → Holds rule.first →
      Holds rule.place
  by_edge e rule there first = by_kind (kind_of e.edge.label)
    where
      below : e.a < count
      below = slice_get_within states e.a e.state e.found

      by_kind : Kind e.edge.label → Holds rule.place
      by_kind (does_nothing mark rules) =
          elim (first_or_later (follows e.a e.edge.target) [] rule
          (subst (λ (l : List Rule). Contains l rule) (rules count e.a e.edge.target) there)) [
            | inl same ↦ subst (λ (r : Rule). Holds r.first → Holds r.place) same
                (λ h. state_holds e.edge.target (inside e)
                (goes_on (h.state below) (one_step g (net_graph states) (step_of e) (is_step e) mark)))
                first
            | inr none ↦ absurd (nothing_in none)
          ]
      by_kind (does_open sign mark rules) =
          elim (first_or_later (follows e.a (count + e.edge.target)) (follows (count + e.edge.target) e.edge.target ∷ [])
          rule (subst (λ (l : List Rule). Contains l rule) (rules count e.a e.edge.target) there)) [
            | inl same ↦ subst (λ (r : Rule). Holds r.first → Holds r.place) same
                (λ h. opened_holds e.edge.target (record {
                  s = step_of e;
                  is = is_step e;
                  sign = sign;
                  opening = mark;
                  to = refl;
                  from = h.state below;
                })) first
            | inr later ↦
                elim (first_or_later (follows (count + e.edge.target) e.edge.target) [] rule later) [
                  | inl same ↦ subst (λ (r : Rule). Holds r.first → Holds r.place) same
                      (λ h. state_holds e.edge.target (inside e) (opened_negative e.edge.target (h.opened e.edge.target refl)))
                      first
                  | inr none ↦ absurd (nothing_in none)
                ]
          ]
      by_kind (does_close mark rules) = absurd (nothing_in
          (subst (λ (l : List Rule). Contains l rule) (rules count e.a e.edge.target) there))

  -- where a body is closed there is a state
  closed_below : (o c : ℕ) → ClosesInto grammar g o c → c < count
  closed_below o c into =
      let i = into.1.inside in
      let below = inside (record {
        a = into.1.step.from;
        state = i.state;
        found = i.found;
        edge = i.edge;
        inside = i.inside;
      }) in
      subst (λ n. n < count) (sym i.to ∙ into.1.after) below

  by_place : (p : ℕ) → p < length stands → (rule : Rule) →
      Contains (rules_over count stands p (get_or rows (before + p) [])) rule → Holds rule.first →
      Holds rule.place
  by_place p lt rule there first =
      let row = get_or rows (before + p) [] in
      let at = contained_mapped (λ (q : ℕ). follows (count + get_or stands p 0) (get_or stands q 0)) row
      rule there in
      let o = get_or stands p 0 in
      let c = get_or stands at.0 0 in
      let into = over.sound p at.0 lt at.1 in
      subst (λ (r : Rule). Holds r.first → Holds r.place) at.2
      (λ h.
      let op = h.opened o refl in
      let closing : ClosesInto grammar g op.s.to c =
      subst (λ n. ClosesInto grammar g n c) (sym op.to) into in
      state_holds c (closed_below o c into)
      (goes_on op.from (over_step g (net_graph states) op.sign op.s op.is op.opening closing.1))) first

  by_rule : (rule : Rule) → Contains all_rules rule → Holds rule.first → Holds rule.place
  by_rule rule there first =
      elim (Contains-append_cases (rules_from count 0 states) (rules_of_places count stands rows before)
      rule there) [
        | inl own ↦
            let it = rule_of count states 0 rule own in
            by_edge it.at rule (subst (λ n. Contains (rules_of_edge count n it.at.edge) rule)
            (let e : 0 + it.at.a ≡ it.at.a = omega arith in e) it.there) first
        | inr later ↦
            let at = contained_joined
            (rules_at count stands rows before)
            (range_with_len 0 (length stands)) rule later in
            by_place at.0 (contained_range (length stands) at.0 at.1) rule at.2 first
      ]

  by_fact : (x : ℕ) → Contains all_facts x → Holds x
  by_fact x there =
      let of_state = contained_joined opened_of_state states x there in
      let at = place_of states of_state.0 of_state.1 in
      let of_edge = contained_joined opened_of_edge of_state.0.edges x of_state.2 in
      let e : EdgeAt states = record {
        a = at.0;
        state = of_state.0;
        found = at.1;
        edge = of_edge.0;
        inside = of_edge.1;
      } in
      let is = opened_is of_edge.0.label of_edge.0.target x of_edge.2 in
      subst Holds is.1 (state_holds e.edge.target (inside e) (record {
        first = e.edge.target;
        unit = of_negative (step_of e) (is_step e) is.0;
        word = [];
        run = stop;
      }))

  sound : {x : ℕ} → Follows x → Holds x
  sound (fact there) = by_fact _ there
  sound (by rule there first second) = by_rule rule there (sound first)

  edge_rule : (s : Step) (i : IsNetStep states s) (rule : Rule) →
      Contains (rules_by count s.from s.to i.edge.label) rule → Contains all_rules rule
  edge_rule s i rule there =
      Contains-append_left (rules_from count 0 states) (rules_of_places count stands rows before) rule
      (rule_in count states 0 s.from i.state i.edge rule i.found i.inside
      (subst (λ n. Contains (rules_by count n i.edge.target i.edge.label) rule)
      (let e : s.from ≡ 0 + s.from = omega arith in e)
      (subst (λ n. Contains (rules_by count s.from n i.edge.label) rule) i.to there)))

  applies : (premise place : ℕ) → Contains all_rules (follows premise place) → Follows premise →
      Follows place
  applies premise place there f = by (follows premise place) there f f

  mark_told : (s : Step) (i : IsNetStep states s) (m : Mark) → mark_of s.labels ≡ m →
      mark_of (i.edge.label ∷ []) ≡ m
  mark_told s i m e = ap mark_of (sym i.label) ∙ e

  ordinary_follows : (s : Step) (i : IsNetStep states s) → mark_of s.labels ≡ ordinary →
      Follows s.from → Follows s.to
  ordinary_follows s i mark f = by_kind (kind_of i.edge.label)
    where
      told : mark_of (i.edge.label ∷ []) ≡ ordinary
      told = mark_told s i ordinary mark

      by_kind : Kind i.edge.label → Follows s.to
      by_kind (does_nothing m rules) = applies s.from s.to
          (edge_rule s i (follows s.from s.to)
          (subst (λ (l : List Rule). Contains l (follows s.from s.to)) (sym (rules count s.from s.to))
          (contains_first (follows s.from s.to) []))) f
      by_kind (does_open sign m rules) =
          absurd (let both : opens sign ≡ ordinary = sym m ∙ told in cc)
      by_kind (does_close m rules) =
          absurd (let both : closes ≡ ordinary = sym m ∙ told in cc)

  pub record Both (s : Step) : Type 0 where
    pub opened : Follows (count + s.to)
    pub into : Follows s.to

  opening_follows : (s : Step) (i : IsNetStep states s) (sign : Sign) →
      mark_of s.labels ≡ opens sign → Follows s.from → Both s
  opening_follows s i sign mark f = by_kind (kind_of i.edge.label)
    where
      told : mark_of (i.edge.label ∷ []) ≡ opens sign
      told = mark_told s i (opens sign) mark

      by_kind : Kind i.edge.label → Both s
      by_kind (does_open other m rules) =
          let one = follows s.from (count + s.to) in
          let two = follows (count + s.to) s.to in
          let first = applies s.from (count + s.to) (edge_rule s i one
          (subst (λ (l : List Rule). Contains l one) (sym (rules count s.from s.to))
          (contains_first one (two ∷ [])))) f in
          record {
            opened = first;
            into = applies (count + s.to) s.to (edge_rule s i two
                (subst (λ (l : List Rule). Contains l two) (sym (rules count s.from s.to))
                (contains_later one (two ∷ []) two (contains_first two [])))) first;
          }
      by_kind (does_nothing m rules) =
          absurd (let both : ordinary ≡ opens sign = sym m ∙ told in cc)
      by_kind (does_close m rules) =
          absurd (let both : closes ≡ opens sign = sym m ∙ told in cc)

  over_follows : (sign : Sign) (o c : ℕ) → OpensInto grammar g sign o → ClosesInto grammar g o c →
      Follows (count + o) → Follows c
  over_follows sign o c opening into f =
      let at = over.whole sign o c opening into in
      let p = at.0 in
      let q = at.1 in
      let row = get_or rows (before + p) [] in
      let rule = follows (count + get_or stands p 0) (get_or stands q 0) in
      let there : Contains (rules_over count stands p row) rule =
      contains_mapped (λ (q : ℕ). follows (count + get_or stands p 0) (get_or stands q 0)) row q at.3 in
      let in_all = Contains-append_right (rules_from count 0 states)
      (rules_of_places count stands rows before) rule
      (contains_joined (rules_at count stands rows before)
      (range_with_len 0 (length stands)) p rule (contains_range (length stands) p at.2) there) in
      subst Follows at.5 (applies (count + get_or stands p 0) (get_or stands q 0) in_all
      (subst (λ n. Follows (count + n)) (sym at.4) f))

  run_follows : {a b : ℕ} {word : List Letter} → Run g (net_graph states) a b word → Follows a →
      Follows b
  run_follows stop f = f
  run_follows (along s i mark run) f = run_follows run (ordinary_follows s i mark f)
  run_follows (across {body = body} sign s t i opening inner j closing run) f =
      run_follows run (over_follows sign s.to t.to
      (record { step = s; of_graph = i; to = refl; opens = opening })
      (body, record { step = t; inside = j; closed = closing; after = refl; run = inner })
      (opening_follows s i sign opening f).opened)

  unit_follows : {first : ℕ} → IsNegativeUnit grammar g first → Follows first
  unit_follows (of_negative s i mark) =
      fact (subst (λ n. Contains all_facts n) (sym i.to)
      (contains_joined opened_of_state states i.state i.edge.target
      (Contains-at states i.state s.from i.found)
      (contains_joined opened_of_edge i.state.edges i.edge i.edge.target i.inside
      (opens_there i.edge.label i.edge.target (mark_told s i (opens negative) mark)))))
  unit_follows (within sign s unit run i mark) =
      (opening_follows s i sign mark (run_follows run (unit_follows unit))).into

  -- the law
  pub exactly_negative : (a : ℕ) → a < count → Follows a ↔ IsNegative a
  exactly_negative a lt = (λ f. (sound f).state lt, λ n. run_follows n.run (unit_follows n.unit))

-- The rules speak of the numbers of states and of those behind them.
module _ (states : List State) (stands : List ℕ) (rows : List (List ℕ)) (before : ℕ)
    (inside : (e : EdgeAt states) → e.edge.target < length states) (stand : StandInside stands states)
  where
    abbrev states_count : ℕ
    states_count = length states

    abbrev IsBelow : Rule → Type 0
    IsBelow rule = (rule.place < 2 * states_count) × (rule.first < 2 * states_count)
        × (rule.second < 2 * states_count)

    one_below : (premise place : ℕ) (rule : Rule) → premise < 2 * states_count →
        place < 2 * states_count → follows premise place ≡ rule → IsBelow rule
    one_below premise place rule first last same = subst IsBelow same (last, first, first)

    edge_below : (e : EdgeAt states) (rule : Rule) →
        Contains (rules_by states_count e.a e.edge.target e.edge.label) rule → IsBelow rule
    edge_below e rule there = by_kind (kind_of e.edge.label)
      where
        from_below : e.a < states_count
        from_below = slice_get_within states e.a e.state e.found

        by_kind : Kind e.edge.label → IsBelow rule
        by_kind (does_nothing mark rules) =
            elim (first_or_later (follows e.a e.edge.target) [] rule
            (subst (λ (l : List Rule). Contains l rule) (rules states_count e.a e.edge.target) there)) [
              | inl same ↦ one_below e.a e.edge.target rule (omega (arith, from_below))
                  (omega (arith, inside e)) same
              | inr none ↦ absurd (nothing_in none)
            ]
        by_kind (does_open sign mark rules) =
            let two = follows (states_count + e.edge.target) e.edge.target in
            elim (first_or_later (follows e.a (states_count + e.edge.target)) (two ∷ []) rule
            (subst (λ (l : List Rule). Contains l rule) (rules states_count e.a e.edge.target) there)) [
              | inl same ↦ one_below e.a (states_count + e.edge.target) rule (omega (arith, from_below))
                  (omega (arith, inside e)) same
              | inr later ↦ elim (first_or_later two [] rule later) [
                | inl same ↦ one_below (states_count + e.edge.target) e.edge.target rule
                    (omega (arith, inside e)) (omega (arith, inside e)) same
                | inr none ↦ absurd (nothing_in none)
              ]
            ]
        by_kind (does_close mark rules) = absurd (nothing_in
            (subst (λ (l : List Rule). Contains l rule) (rules states_count e.a e.edge.target) there))

    place_below : (p : ℕ) (row : List ℕ) (rule : Rule) →
        Contains (rules_over states_count stands p row) rule → IsBelow rule
    place_below p row rule there =
        let at = contained_mapped
        (λ (q : ℕ). follows (states_count + get_or stands p 0) (get_or stands q 0)) row rule there in
        one_below (states_count + get_or stands p 0) (get_or stands at.0 0) rule
        (omega (arith, stand p)) (omega (arith, stand at.0)) at.2

    rule_below : (rule : Rule) → Contains (rules_in states stands rows before) rule → IsBelow rule
    rule_below rule there =
        elim (Contains-append_cases (rules_from states_count 0 states)
        (rules_of_places states_count stands rows before) rule there) [
          | inl own ↦
              let it = rule_of states_count states 0 rule own in
              edge_below it.at rule (subst (λ n. Contains (rules_of_edge states_count n it.at.edge) rule)
              (let e : 0 + it.at.a ≡ it.at.a = omega arith in e) it.there)
          | inr later ↦
              let at = contained_joined
              (rules_at states_count stands rows before)
              (range_with_len 0 (length stands)) rule later in
              place_below at.0 (get_or rows (before + at.0) []) rule at.2
        ]

    fact_below : (x : ℕ) → Contains (opened_in states) x → x < 2 * states_count
    fact_below x there =
        let of_state = contained_joined opened_of_state states x there in
        let at = place_of states of_state.0 of_state.1 in
        let of_edge = contained_joined opened_of_edge of_state.0.edges x of_state.2 in
        let below = inside (record {
          a = at.0;
          state = of_state.0;
          found = at.1;
          edge = of_edge.0;
          inside = of_edge.1;
        }) in
        let is = opened_is of_edge.0.label of_edge.0.target x of_edge.2 in
        omega (arith, below, is.1)

    pub all_inside : AreRulesInside (2 * states_count) (rules_in states stands rows before)
        (opened_in states)
    all_inside = record { rule = rule_below; start = fact_below }
