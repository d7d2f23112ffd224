-- What a chart tells, in the words of the meaning.
use Rattle.std.proofs.Common.{arith, ◌≡◌, ℕ, ◌-◌, ◌≤◌, List, [], ◌∷◌, ◌⊎◌, ◌↔◌, inl, inr, sym, ap, subst, length}
use Rattle.std.specs.Prelude.{Contains, Some, slice_get}
use Rattle.std.specs.List.Sorted.{IsStrictlyIncreasing}
use Rattle.ux_net.specs.declared.label.Label.{Label}
use Rattle.ux_net.specs.declared.label.Label.TheVariants as label
use Rattle.ux_net.specs.declared.state.Edge.{Edge}
use Rattle.ux_net.specs.declared.net_graph.NetGraph.{NetGraph}
use Rattle.ux_net.specs.Nets.{net_grammar}
use Rattle.ux_outputs.specs.declared.event.Event.{Event}
use Rattle.ux_meaning.specs.Inputs.{Input}
use Rattle.ux_meaning.specs.Contexts.{IsOpening, Holds, Applies}
use Rattle.ux_meaning.specs.Meaning.{Der}
use Rattle.ux_meaning.proofs.Levels.{refuses_iff, in_the_end}
use Rattle.ux_parts.specs.declared.parts.Parts.{Parts}
use Rattle.ux_parts.specs.Parts.{closing_of, Begins, TellsClosing, ArePartsOf}
use Rattle.ux_parts.specs.Runs.{Closes, IsRefused}
use Rattle.ux_parts.specs.Ordered.{GoesAhead}
use Rattle.ux_parts.proofs.Running.{is_opener, closes_of_body, body_of_closes}
use Rattle.ux_chart.specs.declared.chart.Chart.{Chart}
use Rattle.ux_chart.specs.declared.table.Stretch.{Stretch}
use Rattle.ux_chart.specs.Rows.{IsAnswer, IsWholeRow, IsChart, AreTold}
use Rattle.ux_chart.specs.Search.{refused_in}
use Rattle.ux_chart.proofs.Entering.{single, opens, told_whole, IsEdge}
use Rattle.ux_chart.proofs.FollowingLemmas.{refused_here}

module _ (input : Input) (net : List NetGraph) (parts : Parts) (are : ArePartsOf net parts)
    (last : ℕ) where
  -- what a filled chart tells of the part that begins at a state
  pub chart_answer : (chart : Chart) → IsChart input net parts last chart → (g a i : ℕ) →
      Begins parts g a → i ≤ last → (row : Stretch) →
      slice_get chart.rows.items (chart.last - i) ≡ Some row → (js cs : List ℕ) →
      AreTold parts chart.table row g a js cs → IsAnswer input net parts g a i js cs
  chart_answer chart is g a i begins to row found js cs tells =
      let same = is.last_is in
      let place : last - (chart.last - i) ≡ i = omega arith in
      told_whole input net parts are i chart row g a begins.0 js cs
      (subst (λ p. IsWholeRow input net parts chart.table row p) place
      (is.done (chart.last - i) row found)) begins.1 tells

  pub derives : (g i : ℕ) (js cs : List ℕ) → IsAnswer input net parts g 0 i js cs →
      (j : ℕ) → Contains js j ↔ ((events : List Event) × Der input (net_grammar net) g i j events)
  derives g i js cs answer j = (
    λ h.
        let e = (answer.ends j).0 h in (
          e.from.events,
          (in_the_end input (net_grammar net) are.level parts.levels are.levels g i j
              e.from.events).0 (record {
                word = e.from.word;
                of_graph = record { last = e.last; ends = e.ends; run = e.from.run };
                seq = e.from.seq;
              }),
        ),
    λ d.
        let by = (in_the_end input (net_grammar net) are.level parts.levels are.levels g i j
        d.0).1 d.1 in
        (answer.ends j).1 (record {
          last = by.of_graph.last;
          ends = by.of_graph.ends;
          from = record { word = by.word; run = by.of_graph.run; events = d.0; seq = by.seq };
        }),
  )

  module _ (ahead : GoesAhead input last) (g o i : ℕ) where
    holds_iff : (c : ℕ) →
        Closes input (net_grammar net) parts.levels g o i c
        ↔ Holds input (net_grammar net) parts.levels g o c i
    holds_iff c = (
      λ h. record {
        word = h.from.word;
        body = body_of_closes input last ahead (net_grammar net) (single net) parts.levels g o c i h;
        end = h.at;
        events = h.from.events;
        seq = h.from.seq;
      },
      λ h. closes_of_body input last ahead (net_grammar net) (single net) parts.levels g o c i
          h.end h.word h.events h.body h.seq,
    )

    refused_iff : (c : ℕ) →
        IsRefused input (net_grammar net) parts.levels g o i c
        ↔ Applies input (net_grammar net) parts.levels g label.Negative o i c
    refused_iff c =
        let iff = refuses_iff input (net_grammar net) are.level parts.levels are.levels g o c i in (
          λ r. (
            (r.word, r.body),
            λ h. iff.0 r.refused h.word h.end h.events h.body h.seq,
          ),
          λ a. record {
            word = a.0.0;
            body = a.0.1;
            refused = iff.1 (λ w k es body s. a.1
                (record { word = w; body = body; end = k; events = es; seq = s }));
          },
        )

    pub tells_positive : (x : Label) → x ≡ label.Positive → (js cs : List ℕ) →
        IsAnswer input net parts g o i js cs → (c : ℕ) →
        Contains cs c ↔ Applies input (net_grammar net) parts.levels g x o i c
    tells_positive x named js cs answer c =
        subst (λ y. Contains cs c ↔ Applies input (net_grammar net) parts.levels g y o i c)
        (sym named) (
          λ h. (holds_iff c).0 ((answer.closers c).0 h),
          λ h. (answer.closers c).1 ((holds_iff c).1 h),
        )

    pub tells_negative : (x : Label) → x ≡ label.Negative → (closing : List ℕ) →
        TellsClosing net g o closing → (js cs : List ℕ) →
        IsAnswer input net parts g o i js cs → (into : List ℕ) → into ≡ refused_in closing cs →
        (c : ℕ) → Contains into c ↔ Applies input (net_grammar net) parts.levels g x o i c
    tells_negative x named closing closed js cs answer into same c =
        let here = refused_here input last ahead net parts are g o i closing closed js cs answer
        c in
        subst (λ y. Contains into c ↔ Applies input (net_grammar net) parts.levels g y o i c)
        (sym named) (
          λ h. (refused_iff c).0 (here.0 (subst (λ l. Contains l c) same h)),
          λ h. subst (λ l. Contains l c) (sym same) (here.1 ((refused_iff c).1 h)),
        )

  -- what an opening edge opens is a part
  pub opened : (g : ℕ) (edge : Edge) → IsOpening net g edge →
      ((edge.label ≡ label.Positive) × Begins parts g edge.target)
      ⊎ ((edge.label ≡ label.Negative) × (Begins parts g edge.target
      × TellsClosing net g edge.target (closing_of parts g edge.target)))
  opened g edge op =
      let inside : IsEdge net g op.from edge = (op.state, op.found, op.inside) in
      elim (is_opener edge.label op.sign op.is) [
        | inl e ↦ inl (e.0, opens net parts are g op.from edge inside label.Positive e.0)
        | inr e ↦ inr (e.0, opens net parts are g op.from edge inside label.Negative e.0)
      ]

  pub opened_part : (g : ℕ) (edge : Edge) → IsOpening net g edge → Begins parts g edge.target
  opened_part g edge op = elim (opened g edge op) [ inl e ↦ e.1 | inr e ↦ e.1.0 ]

  pub opened_negative : (g : ℕ) (edge : Edge) → IsOpening net g edge →
      edge.label ≡ label.Negative →
      TellsClosing net g edge.target (closing_of parts g edge.target)
  opened_negative g edge op named = elim (opened g edge op) [
    | inl e ↦ absurd (let f = e.0 in let never : ⊥ = cc in never)
    | inr e ↦ e.1.1
  ]

  pub opened_positive : (g : ℕ) (edge : Edge) → IsOpening net g edge →
      (edge.label ≡ label.Negative → ⊥) → edge.label ≡ label.Positive
  opened_positive g edge op never = elim (opened g edge op) [
    | inl e ↦ e.0
    | inr e ↦ absurd (never e.0)
  ]

short_ascends : (xs : List ℕ) → length xs ≤ 1 → IsStrictlyIncreasing xs
short_ascends xs short = λ k h. absurd (omega arith)

refused_short : (closing closers : List ℕ) → length closing ≤ 1 →
    length (refused_in closing closers) ≤ 1
refused_short closing [] h = h
refused_short closing (c ∷ cs) h = omega arith

pub refused_ascends : (net : List NetGraph) (g o : ℕ) (closing closers into : List ℕ) →
    TellsClosing net g o closing → into ≡ refused_in closing closers →
    IsStrictlyIncreasing into
refused_ascends net g o closing closers into closed same =
    let one = ap length closed.told in
    let short = refused_short closing closers (omega (arith, one)) in
    let l = ap length same in
    short_ascends into (omega (arith, l, short))
