-- From positions that are alike the parts of an unspaced net reach the same. A run that takes nothing
-- stays at either position; where it takes something first, that leads to the same position from both.
use Rattle.std.proofs.Common.{arith, ◌≡◌, ℕ, zero, suc, ◌≤◌, List, [], ◌∷◌, ◌++◌, ◌⊎◌, inl, inr, refl, sym, ap, subst, ◌∙◌, append_assoc}
use Rattle.std.specs.Prelude.{Contains, Some, slice_get, map}
use Rattle.std.specs.List.Sorted.{IsStrictlyIncreasing}
use Rattle.std.proofs.lemmas.List.{get_or_default}
use Rattle.ux_grf.specs.declared.item.Piece.{Piece}
use Rattle.ux_grf.specs.declared.item.Piece.TheVariants.{Chars, Value}
use Rattle.ux_net.specs.declared.label.Label.{Label}
use Rattle.ux_net.specs.declared.label.Label.TheVariants as label
use Rattle.ux_net.specs.declared.net_graph.NetGraph.{NetGraph}
use Rattle.ux_net.specs.Words.{Letter, plain, piece, context, letters, put_by, Step, Grammar, Run, stop, along, across}
use Rattle.ux_net.specs.Nets.{net_grammar, states_of, IsNetStep}
use Rattle.ux_base.proofs.Lists.{nothing_in, first_or_later, contains_first}
use Rattle.ux_outputs.specs.declared.event.Event.{Event}
use Rattle.ux_meaning.specs.Inputs.{Input}
use Rattle.ux_meaning.specs.Meaning.{Stays, Seq, done, takes, stays, calls, holds, refused, RefusesBy}
use Rattle.ux_parts.specs.declared.part.Part.{Part}
use Rattle.ux_parts.specs.declared.parts.Parts.{Parts}
use Rattle.ux_parts.specs.Ordered.{GoesAhead}
use Rattle.ux_parts.specs.Runs.{From, Ends, Closes}
use Rattle.ux_parts.proofs.Ahead.{forward}
use Rattle.ux_chart.specs.declared.table.Answer.{Answer}
use Rattle.ux_chart.specs.declared.table.Stretch.{Stretch}
use Rattle.ux_chart.specs.declared.table.Table.{Table}
use Rattle.ux_chart.specs.Alike.{AreAlike, IsUnspaced, IsUnspacedNet}
use Rattle.ux_chart.specs.Rows.{IsAnswer, IsWholeRow}
use Rattle.ux_chart.specs.Tables.{HasAnswer, NoneEndsFrom, Tells}
use Rattle.ux_chart.proofs.Rising.{rises}

-- positions are alike in both orders
turned : (input : Input) (i k : ℕ) → AreAlike input i k → AreAlike input k i
turned input i k alike = λ x unspaced j. ((alike x unspaced j).1, (alike x unspaced j).0)

-- no label of the word asks for spaces
abbrev Unspaced : List Letter → Type 0
Unspaced [] = Unit {0}
Unspaced (plain x ∷ word) = IsUnspaced x × Unspaced word
Unspaced (piece part ∷ word) = Unspaced word
Unspaced (context sign g opening closing ∷ word) = Unspaced word

-- outputs ask for no space
unspaced_put : (ps : List Piece) (word : List Letter) → Unspaced word →
    Unspaced (map piece ps ++ word)
unspaced_put [] word u = u
unspaced_put (p ∷ ps) word u = unspaced_put ps word u

-- nor does a label that asks for none
unspaced_label : (x : Label) (word : List Letter) → IsUnspaced x → Unspaced word →
    Unspaced (letters (x ∷ []) ++ word)
unspaced_label label.Empty word unspaced u = u
unspaced_label x word unspaced u = (unspaced, u)

-- nor does what follows
unspaced_rest : (x : Letter) (word : List Letter) → Unspaced (x ∷ word) → Unspaced word
unspaced_rest (plain x) word u = u.1
unspaced_rest (piece part) word u = u
unspaced_rest (context sign g opening closing) word u = u

-- what stays at a position stays at another, unless it asks for spaces
stays_elsewhere : (input : Input) (x : Letter) (word : List Letter) → Unspaced (x ∷ word) →
    (p q : ℕ) (here : List Event) → Stays input x p here → Stays input x q here
stays_elsewhere input (plain label.NoSpace) word u p q here s = absurd (u.0 tt)
stays_elsewhere input (piece (Chars text)) word u p q here s = s
stays_elsewhere input (piece (Value name)) word u p q here s = s
stays_elsewhere input x word u p q here s = s

module _ (input : Input) (net : List NetGraph) (free : IsUnspacedNet net) where
  abbrev grammar : Grammar
  grammar = net_grammar net

  step_unspaced : (g : ℕ) (s : Step) (word : List Letter) → IsNetStep (states_of net g) s →
      Unspaced word → Unspaced ((put_by s ++ letters s.labels) ++ word)
  step_unspaced g s word inside u =
      subst Unspaced (sym (append_assoc (put_by s) (letters s.labels) word))
      (unspaced_put s.output (letters s.labels ++ word)
      (subst (λ (l : List Label). Unspaced (letters l ++ word)) (sym inside.label)
      (unspaced_label inside.edge.label word
      (free g s.from inside.state inside.found inside.edge inside.inside) u)))

  -- the words of the net are so
  run_unspaced : {g a b : ℕ} {word : List Letter} → Run g (grammar.graph g) a b word →
      Unspaced word
  run_unspaced stop = tt
  run_unspaced {g = g} (along {word = v} s inside mark run) =
      step_unspaced g s v inside (run_unspaced run)
  run_unspaced (across sign s t inside mark run tin tmark rest) =
      unspaced_put s.output _ (run_unspaced rest)

  module _ (R : ℕ → ℕ → ℕ → ℕ → Type 0) (i k : ℕ) (alike : AreAlike input i k)
      (refuses : (g opening closing : ℕ) → R g opening closing i → R g opening closing k) where
    -- from position k the word leads to the same position, or it stays at either
    abbrev Led : List Letter → (j : ℕ) → Type 0
    Led word j =
        ((j ≡ i) × (events : List Event) × Seq input grammar R word k k events)
        ⊎ ((events : List Event) × Seq input grammar R word k j events)

    moves : {word : List Letter} {p j : ℕ} {events : List Event} →
        Seq input grammar R word p j events → p ≡ i → Unspaced word → Led word j
    moves done at u = inl (at, [], done)
    moves (takes {x = x} {k = m} t s) at u =
        inr (_, takes ((alike x u.0 m).0 (subst (λ q. input.Takes x q m) at t)) s)
    moves (stays {x = x} {word = word} {p = p} here t s) at u =
        let there = stays_elsewhere input x word u p k here t in
        elim (moves s at (unspaced_rest x word u)) [
          | inl l ↦ inl (l.0, _, stays here there l.2)
          | inr r ↦ inr (_, stays here there r.1)
        ]
    moves (calls w inside s) at u = elim (moves inside at (run_unspaced w.run)) [
      | inl l ↦ elim (moves s l.0 u.1) [
        | inl t ↦ inl (t.0, _, calls w l.2 t.2)
        | inr t ↦ inr (_, calls w l.2 t.1)
      ]
      | inr r ↦ inr (_, calls w r.1 s)
    ]
    moves (holds {body = body} b inside s) at u =
        let there : (m : ℕ) × (events : List Event) × Seq input grammar R body k m events =
        elim (moves inside at (run_unspaced b.run)) [
          | inl l ↦ (k, l.1, l.2)
          | inr r ↦ (_, r.0, r.1)
        ] in
        elim (moves s at u) [
          | inl l ↦ inl (l.0, _, holds b there.2 l.2)
          | inr r ↦ inr (_, holds b there.2 r.1)
        ]
    moves (refused {g = g} {opening = o} {closing = c} r s) at u =
        let there = refuses g o c (subst (R g o c) at r) in
        elim (moves s at u) [
          | inl l ↦ inl (l.0, _, refused there l.2)
          | inr r ↦ inr (_, refused there r.1)
        ]

  -- what is refused at the one position is refused at the other
  refuses_moves : (n i k : ℕ) → AreAlike input i k → (g opening closing : ℕ) →
      RefusesBy input grammar n g opening closing i → RefusesBy input grammar n g opening closing k
  refuses_moves zero i k alike g opening closing r = r
  refuses_moves (suc n) i k alike g opening closing r = λ word j events body seq.
      elim (moves (RefusesBy input grammar n) k i (turned input i k alike)
      (refuses_moves n k i (turned input i k alike)) seq refl (run_unspaced body.run)) [
        | inl l ↦ r word i l.1 body l.2
        | inr l ↦ r word j l.0 body l.1
      ]

  module _ (levels i k : ℕ) (alike : AreAlike input i k) (g state : ℕ) where
    ends_move : (j : ℕ) → Ends input grammar levels g state i j →
        ((j ≡ i) × Ends input grammar levels g state k k) ⊎ Ends input grammar levels g state k j
    ends_move j e = elim (moves (RefusesBy input grammar levels) i k alike
        (refuses_moves levels i k alike) e.from.seq refl (run_unspaced e.from.run)) [
          | inl l ↦ inl (
            l.0,
            record {
              last = e.last;
              ends = e.ends;
              from = record { word = e.from.word; run = e.from.run; events = l.1; seq = l.2 };
            },
          )
          | inr l ↦ inr (record {
            last = e.last;
            ends = e.ends;
            from = record { word = e.from.word; run = e.from.run; events = l.0; seq = l.1 };
          })
        ]

    closes_move : (c : ℕ) → Closes input grammar levels g state i c →
        Closes input grammar levels g state k c
    closes_move c h =
        let there : (m : ℕ) × From input grammar levels g state k h.step.from m =
        elim (moves (RefusesBy input grammar levels) i k alike (refuses_moves levels i k alike)
        h.from.seq refl (run_unspaced h.from.run)) [
          | inl l ↦
              (k, record { word = h.from.word; run = h.from.run; events = l.1; seq = l.2 })
          | inr l ↦
              (h.at, record { word = h.from.word; run = h.from.run; events = l.0; seq = l.1 })
        ] in
        record {
          step = h.step;
          inside = h.inside;
          closed = h.closed;
          after = h.after;
          at = there.0;
          from = there.1;
        }

-- the least of positions that ascend stands first
first_one : (js : List ℕ) (k : ℕ) → IsStrictlyIncreasing js →
    ((j : ℕ) → Contains js j → k ≤ j) → Contains js k → slice_get js 0 ≡ Some k
first_one [] k ascends least has = absurd (nothing_in has)
first_one (x ∷ xs) k ascends least has = elim (first_or_later x xs k has) [
  | inl e ↦ ap Some e
  | inr later ↦
      let low = least x (contains_first x xs) in
      let up = rises (x ∷ xs) ascends 0 (suc later.0) (omega arith) (omega (arith, later.1)) in
      let at = sym (get_or_default xs later.0 k 0 later.1) ∙ later.2 in
      absurd (omega (arith, low, up, at))
]

module _ (input : Input) (last : ℕ) (ahead : GoesAhead input last) (net : List NetGraph)
    (free : IsUnspacedNet net) (parts : Parts) (table : Table) (row : Stretch) (i k : ℕ)
    (alike : AreAlike input i k) (never : NoneEndsFrom table row k) where
  -- no part stays at the position
  none_stays : (number : ℕ) (part : Part) (js cs : List ℕ) → Tells table row number js cs →
      IsAnswer input net parts part.graph part.first k js cs → Contains js k → ⊥
  none_stays number part js cs tells answer has =
      nothing_in (subst (λ (l : List ℕ). Contains l k) (tells.no_ends none) has)
    where
      least : (j : ℕ) → Contains js j → k ≤ j
      least j c = forward input last ahead (net_grammar net)
          (RefusesBy input (net_grammar net) parts.levels) ((answer.ends j).0 c).from.seq

      none : (told : Answer) → HasAnswer table row number told → ⊥
      none told h = never told h.inside
          (subst (λ (l : List ℕ). slice_get l 0 ≡ Some k) (tells.told_ends told h)
          (first_one js k answer.ends_ascend least has))

  -- so the row of the one position tells of the other
  pub shared : IsWholeRow input net parts table row k → IsWholeRow input net parts table row i
  shared whole = (
    whole.0,
    whole.1,
    record {
      sorted = whole.2.sorted;
      below = whole.2.below;
      right = λ number part js cs lt found tells.
          let answer = whole.2.right number part js cs lt found tells in
          let stays = none_stays number part js cs tells answer in
          let back = turned input i k alike in
          record {
            ends = λ j. (
              λ c. elim (ends_move input net free parts.levels k i back part.graph part.first j
                  ((answer.ends j).0 c)) [
                    | inl l ↦ absurd (stays (subst (λ p. Contains js p) l.0 c))
                    | inr e ↦ e
                  ],
              λ e. elim (ends_move input net free parts.levels i k alike part.graph part.first j e) [
                | inl l ↦ absurd (stays ((answer.ends k).1 l.1))
                | inr m ↦ (answer.ends j).1 m
              ],
            );
            closers = λ c. (
              λ h. closes_move input net free parts.levels k i back part.graph part.first c
                  ((answer.closers c).0 h),
              λ e. (answer.closers c).1
                  (closes_move input net free parts.levels i k alike part.graph part.first c e),
            );
            ends_ascend = answer.ends_ascend;
            closers_ascend = answer.closers_ascend;
          };
    },
  )
