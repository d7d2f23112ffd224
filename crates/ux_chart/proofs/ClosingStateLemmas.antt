-- The states from which edges close contexts have their marks.
use Rattle.std.proofs.Common.{arith, ◌≡◌, ℕ, zero, suc, ◌+◌, ◌<◌, ◌≤◌, List, [], ◌∷◌, ◌++◌, ◌⊎◌, ◌↔◌, inl, inr, refl, sym, ap, subst, ◌∙◌, length, length-append, get_or, Bool, true, false}
use Rattle.std.specs.Prelude.{Contains, IsSomeAnd, IsTrue, Option, Some, slice_get}
use Rattle.std.proofs.lemmas.Bool.{false≢true}
use Rattle.std.proofs.lemmas.Option.{same_Some, slice_get_within, slice_get_past, slice_get-get_or}
use Rattle.std.proofs.Math.ListN.{get_or-append}
use Rattle.std.proofs.Math.Seq.{get_or-append_seam}
use Rattle.ux_base.proofs.DistinctLemmas.{slice_get-append}
use Rattle.ux_net.specs.declared.label.Label.TheVariants.{ContextEnd}
use Rattle.ux_net.specs.declared.net_graph.NetGraph.{NetGraph}
use Rattle.ux_net.specs.declared.state.Edge.{Edge}
use Rattle.ux_net.specs.declared.state.State.{State}
use Rattle.ux_net.specs.Nets.{states_in, states_of}
use Rattle.ux_base.proofs.Lists.{less_or}
use Rattle.ux_chart.specs.ClosingStates.{AreMarks, SomeCloses, marks_at}
use Rattle.ux_chart.specs.Search.{ClosesInto}
use Rattle.ux_chart.specs.declared.config.Config.{Config}

-- from a state without a mark no edge closes a context
pub unmarked : (net : List NetGraph) (g : ℕ) (marks : List Bool) → AreMarks net g marks →
    (here : Config) (old : List ℕ) (marked : Bool) → marked ≡ false →
    (slice_get marks here.state ≡ Some true → IsTrue marked) →
    (c : ℕ) → Contains old c ↔ (Contains old c ⊎ ClosesInto net g here c)
unmarked net g marks are here old marked never told c = (
  λ h. inl h,
  λ h. elim h [
    | inl o ↦ o
    | inr t ↦ absurd (false≢true (sym never
        ∙ told (are here.state t.state t.found (t.edge, t.inside, t.label))))
  ],
)

-- none of the first edges closes a context
abbrev pub NoneCloses : List Edge → (bound : ℕ) → Type 0
NoneCloses edges bound = (n : ℕ) (edge : Edge) → n < bound → slice_get edges n ≡ Some edge →
    edge.label ≡ ContextEnd → ⊥

pub none_closes_more : (edges : List Edge) (i : ℕ) (item : Edge) (b : Bool) → i < length edges →
    item ≡ get_or edges i item → (item.label ≡ ContextEnd → IsTrue b) → b ≡ false →
    NoneCloses edges i → NoneCloses edges (i + 1)
none_closes_more edges i item b inside is told never before n edge low found closes =
    elim (less_or n i) [
      | inl l ↦ before n edge l found closes
      | inr m ↦
          let e : n ≡ i = omega (arith, m, low) in
          let here : slice_get edges i ≡ Some item =
          slice_get-get_or edges i item inside ∙ ap Some (sym is) in
          let same = same_Some edge item (sym found ∙ (ap (λ k. slice_get edges k) e ∙ here)) in
          absurd (false≢true (sym never
          ∙ told (subst (λ (x : Edge). x.label ≡ ContextEnd) same closes)))
    ]

pub none_closes : (edges : List Edge) (i : ℕ) → length edges ≤ i → NoneCloses edges i →
    SomeCloses edges → ⊥
none_closes edges i all before (edge, (n, inside, is), closes) =
    before n edge (omega (arith, all, inside)) (slice_get-get_or edges n edge inside ∙ ap Some is)
    closes

-- what is put behind a list
seam : {X : Type 0} (xs : List X) (y : X) → slice_get (xs ++ y ∷ []) (length xs) ≡ Some y
seam [] y = refl
seam (x ∷ xs) y = seam xs y

module _ (net : List NetGraph) (g : ℕ) where
  -- the first states of the graph have their marks
  pub record AreMarksBelow (marks : List Bool) (bound : ℕ) : Type 0 where
    pub len : length marks ≡ bound
    pub each : (n : ℕ) (state : State) → n < bound → slice_get (states_of net g) n ≡ Some state →
        SomeCloses state.edges → slice_get marks n ≡ Some true

  pub no_marks : (marks : List Bool) → marks ≡ [] → AreMarksBelow marks 0
  no_marks marks none = record {
    len = ap length none;
    each = λ n state low. absurd (omega (arith, low));
  }

  -- one state more
  pub marks_more : (i : ℕ) (marks new : List Bool) (mark : Bool) (edges : List Edge) →
      new ≡ marks ++ mark ∷ [] →
      IsSomeAnd (slice_get (states_of net g) i) (λ state. edges ≡ state.edges) →
      (SomeCloses edges → mark ≡ true) → AreMarksBelow marks i → AreMarksBelow new (i + 1)
  marks_more i marks new mark edges put read told before = record {
    len = ap length put ∙ one_longer marks ∙ ap (λ n. n + 1) before.len;
    each = λ n state low found closes.
        subst (λ (l : List Bool). slice_get l n ≡ Some true) (sym put) (elim (less_or n i) [
          | inl l ↦ slice_get-append marks (mark ∷ []) n true (before.each n state l found closes)
          | inr m ↦
              let e : n ≡ i = omega (arith, m, low) in
              let here : slice_get (states_of net g) i ≡ Some state =
              ap (λ k. slice_get (states_of net g) k) (sym e) ∙ found in
              let same = subst (λ (o : Option State). IsSomeAnd o (λ s. edges ≡ s.edges)) here read
              in
              let yes = told (subst SomeCloses (sym same) closes) in
              ap (λ k. slice_get (marks ++ mark ∷ []) k) (e ∙ sym before.len)
              ∙ (seam marks mark ∙ ap Some yes)
        ]);
  }
    where
      one_longer : (l : List Bool) → length (l ++ mark ∷ []) ≡ length l + 1
      one_longer l = grind (arith, length-append)

  -- all of them
  pub marks_all : (i : ℕ) (marks : List Bool) → length (states_of net g) ≤ i →
      AreMarksBelow marks i → AreMarks net g marks
  marks_all i marks all before = λ n state found closes.
      let inside = slice_get_within (states_of net g) n state found in
      before.each n state (omega (arith, all, inside)) found closes

-- a graph that isn't there has no states
no_graph : (net : List NetGraph) (g : ℕ) (marks : List Bool) → states_of net g ≡ [] →
    AreMarks net g marks
no_graph net g marks none = λ n state found closes.
    let inside = slice_get_within [] n state
    (subst (λ (l : List State). slice_get l n ≡ Some state) none found) in
    absurd (omega (arith, inside))

module _ (net : List NetGraph) where
  -- the first graphs have their rows
  pub record AreRowsUpTo (rows : List (List Bool)) (bound : ℕ) : Type 0 where
    pub len : length rows ≡ bound
    pub each : (g : ℕ) → g ≤ bound → AreMarks net g (marks_at rows g)

  pub no_rows : (rows : List (List Bool)) → rows ≡ [] → AreRowsUpTo rows 0
  no_rows rows none = record { len = ap length none; each = each }
    where
      each : (g : ℕ) → g ≤ 0 → AreMarks net g (marks_at rows g)
      each zero low = no_graph net 0 [] refl
      each (suc k) low = absurd (omega (arith, low))

  -- one graph more
  pub rows_more : (i : ℕ) (rows new : List (List Bool)) (row : List Bool) →
      new ≡ rows ++ row ∷ [] → AreMarks net (i + 1) row → AreRowsUpTo rows i →
      AreRowsUpTo new (i + 1)
  rows_more i rows new row put is before = record {
    len = ap length put ∙ one_longer rows ∙ ap (λ n. n + 1) before.len;
    each = λ g low. subst (λ (l : List (List Bool)). AreMarks net g (marks_at l g)) (sym put)
        (each g low);
  }
    where
      one_longer : (l : List (List Bool)) → length (l ++ row ∷ []) ≡ length l + 1
      one_longer l = grind (arith, length-append)

      each : (g : ℕ) → g ≤ i + 1 → AreMarks net g (marks_at (rows ++ row ∷ []) g)
      each zero low = no_graph net 0 [] refl
      each (suc k) low = elim (less_or k i) [
        | inl l ↦
            let inside : k < length rows = subst (λ n. k < n) (sym before.len) l in
            subst (λ (l : List Bool). AreMarks net (suc k) l)
            (sym (get_or-append rows (row ∷ []) [] k inside))
            (before.each (suc k) (omega (arith, l)))
        | inr m ↦
            let e : k ≡ i = omega (arith, m, low) in
            let at : k ≡ length rows = e ∙ sym before.len in
            let next : i + 1 ≡ suc k = omega (arith, e) in
            subst (λ (l : List Bool). AreMarks net (suc k) l)
            (sym (ap (λ n. get_or (rows ++ row ∷ []) n []) at ∙ get_or-append_seam rows row [] []))
            (subst (λ n. AreMarks net n row) next is)
      ]

  -- all of them
  pub rows_all : (i : ℕ) (rows : List (List Bool)) → length net ≤ i → AreRowsUpTo rows i →
      (g : ℕ) → AreMarks net g (marks_at rows g)
  rows_all i rows all before g = elim (less_or i g) [
    | inl past ↦ beyond g past
    | inr low ↦ before.each g low
  ]
    where
      beyond : (g : ℕ) → i < g → AreMarks net g (marks_at rows g)
      beyond zero past = absurd (omega (arith, past))
      beyond (suc k) past = no_graph net (suc k) (marks_at rows (suc k))
          (ap states_in (slice_get_past net k (omega (arith, past, all))))
