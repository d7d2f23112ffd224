-- The states that are made of places say the same as the places, and their edges stay inside.
use Rattle.std.proofs.Common.{arith, ◌≡◌, ◌≢◌, ℕ, zero, suc, ◌+◌, ◌-◌, ◌<◌, ◌≤◌, List, [], ◌∷◌, ◌++◌, refl, sym, ◌∙◌, ap, subst, ◌⊎◌, inl, inr, length, append_assoc, append-nil, get_or, drop, drop-cons, Bool, true, false, cond, add-one, rules}
use Rattle.std.specs.Prelude.{Some, slice_get, Contains, ltb, nat_eq, ◌||◌, map}
use Rattle.std.specs.List.{range_with_len, list_any, flat_map}
use Rattle.std.proofs.lemmas.Option.{same_Some, slice_get_within, slice_get-get_or}
use Rattle.std.proofs.lemmas.Bool.{eqb-true}
use Rattle.std.proofs.lemmas.List.Elements.{Contains-get_or}
use Rattle.ux_grf.specs.declared.item.Piece.{Piece}
use Rattle.ux_net.specs.declared.label.Label.{Label}
use Rattle.ux_net.specs.declared.label.Label.TheVariants.{Empty}
use Rattle.ux_boxes.specs.declared.place.Place.{Place}
use Rattle.ux_net.specs.declared.state.Edge.{Edge}
use Rattle.ux_net.specs.declared.state.State.{State}
use Rattle.ux_net.specs.Words.{Step, StepGraph, Letter, piece, ordinary, mark_of, letter_of, letters, put_by, Run, stop, along, IsBody}
use Rattle.ux_net.specs.Closers.{ClosesInto}
use Rattle.ux_boxes.specs.Places.{label_lines, place_output, place_targets, is_reached, places_of, IsPlaceStep, IsEndPlace, place_grammar}
use Rattle.ux_net.specs.Nets.{IsNetStep, IsNetEnd, net_graph}
use Rattle.ux_compile.specs.Construct.{labels_in, has_state, number, line_at, called_at, labels_at, chain_len, first_chain, target_of, output_before, edge_of, edges_to, place_state, chain_state, at_place, along_lines, by_state, states_of, AreFit, AreTargetsInside}
use Rattle.ux_boxes.specs.Fit.{IsLine}
use Rattle.ux_base.proofs.Lists.{less_or, nothing_in, first_or_later, contains_first, contains_later, drop_whole}
use Rattle.ux_base.proofs.JoinedLists.{contains_joined, contained_joined, contains_mapped, contained_mapped, contains_range, contained_range}
use Rattle.ux_compile.proofs.EdgeLabelsLemmas.{same_letters, each_label, ordinary_labels, several_edges, first_edge, one_edge}
use Rattle.ux_net.proofs.RefineLemmas.{letters_along, IsSame, IsNumbered, Refines, body_forth, body_back, refined_same}
use Rattle.ux_compile.proofs.StatesLemmas.{total, total_few, line_there, line_some, place_inside, get_place, get_chain, length_by_state, Stands, of_a_place, of_a_line, stands}

-- tests
pub lt_then : {A : Type 0} (i n : ℕ) (x y : A) → i < n → cond (ltb i n) x y ≡ x
lt_then i n x y h = let e : ltb i n ≡ true = search (rules, arith) in rw e refl

-- past the end a choice takes the other
pub lt_else : {A : Type 0} (i n : ℕ) (x y : A) → n ≤ i → cond (ltb i n) x y ≡ y
lt_else i n x y h = let e : ltb i n ≡ false = search (rules, arith) in rw e refl

-- a list with 1 passes the test for it
has_one : (xs : List ℕ) → Contains xs 1 → list_any (λ x. nat_eq x 1) xs ≡ true
has_one [] h = absurd (nothing_in h)
has_one (x ∷ xs) h = elim (first_or_later x xs 1 h) [
  | inl e ↦ rw e refl
  | inr l ↦ let r = has_one xs l in rw r (go (nat_eq x 1))
]
  where
    go : (b : Bool) → (b || true) ≡ true
    go true = refl
    go false = refl

-- and one that passes has it
pub one_in : (xs : List ℕ) → list_any (λ x. nat_eq x 1) xs ≡ true → Contains xs 1
one_in [] h = cc
one_in (x ∷ xs) h = go (nat_eq x 1) refl h (λ later. one_in xs later)
  where
    go : (b : Bool) → nat_eq x 1 ≡ b → (b || list_any (λ y. nat_eq y 1) xs) ≡ true →
        (list_any (λ y. nat_eq y 1) xs ≡ true → Contains xs 1) → Contains (x ∷ xs) 1
    go true is h later =
        subst (λ y. Contains (y ∷ xs) 1) (sym (eqb-true x 1 is)) (contains_first 1 xs)
    go false is h later = contains_later x xs 1 (later h)

-- letters of the rest of a line
letters_more : (line : List Label) (k : ℕ) → k < length line →
    letters (drop k line) ≡ letter_of (get_or line k Empty) ++ letters (drop (k + 1) line)
letters_more line k h = let e = add-one k in rw e (ap letters (drop-cons line k Empty h))

-- a line by its number
line_number : (places : List Place) (b : ℕ) (line : List Label) →
    Contains (label_lines places b) line →
    (l : ℕ) × (l < length (label_lines places b)) × (line_at places b l ≡ line)
line_number places b line h =
    let found = slice_get-get_or (label_lines places b) h.0 line h.1 in
    (h.0, h.1, ap labels_in found ∙ h.2)

module _ (places : List Place) (fit : AreFit places) where
  abbrev new : StepGraph
  new = net_graph (states_of places)

  abbrev lines_of : ℕ → List (List Label)
  lines_of b = label_lines places b

  abbrev label : ℕ → ℕ → ℕ → Label
  label b l k = get_or (labels_at places b l) k Empty

  -- a line that is there is one
  pub line_is : (b l : ℕ) → l < length (lines_of b) → IsLine (line_at places b l)
  line_is b l at = fit.lines b (line_at places b l) (line_there places b l at)

  -- the labels of the edges of an ordinary line are ordinary
  label_ordinary : (b l k : ℕ) → l < length (lines_of b) → mark_of (line_at places b l) ≡ ordinary →
      k < length (labels_at places b l) → mark_of (label b l k ∷ []) ≡ ordinary
  label_ordinary b l k at mark lt =
      each_label (λ (x : Label). mark_of (x ∷ []) ≡ ordinary) (called_at places b l)
      (line_at places b l) refl (ordinary_labels (line_at places b l) (line_is b l at) mark)
      (label b l k) (Contains-get_or (labels_at places b l) k Empty lt)

  -- the first edge of a line does to contexts what the line does
  pub first_mark : (b l : ℕ) → l < length (lines_of b) →
      mark_of (label b l 0 ∷ []) ≡ mark_of (line_at places b l)
  first_mark b l at = first_edge (place_output places b) (line_at places b l) (line_is b l at)

  -- the later ones do nothing to them
  pub later_mark : (b l k : ℕ) → l < length (lines_of b) → k + 1 < length (labels_at places b l) →
      mark_of (label b l (k + 1) ∷ []) ≡ ordinary
  later_mark b l k at lt = label_ordinary b l (k + 1) at
      (several_edges (place_output places b) (line_at places b l) (line_is b l at) (omega arith)) lt

  -- a line that opens or closes a context leads to its place at once
  pub lone_target : (b l : ℕ) → l < length (lines_of b) →
      (mark_of (line_at places b l) ≡ ordinary → ⊥) → target_of places b l 0 ≡ number places b
  lone_target b l at marked =
      let one = one_edge (place_output places b) (line_at places b l) (line_is b l at) marked in
      lt_else (0 + 1) (length (labels_at places b l)) (first_chain places b l + 0)
      (number places b) (omega (arith, one))

  -- a place with a line has a state
  pub has_line : (b l : ℕ) → l < length (lines_of b) → has_state places b ≡ true
  has_line b l at = go (has_state places b) refl
    where
      go : (t : Bool) → has_state places b ≡ t → t ≡ true
      go true is = refl
      go false is =
          absurd (let e = ap (length {A = List Label}) (fit.stateless b is) in omega arith)

  -- a place with a state is not the end
  pub not_end : (a : ℕ) → has_state places a ≡ true → a ≢ 1
  not_end a has e = go a e has
    where
      go : (a : ℕ) → a ≡ 1 → has_state places a ≡ true → ⊥
      go a e h =
          let f : has_state places 1 ≡ true = subst (λ n. has_state places n ≡ true) e h in cc

  -- place 0 has state 0
  pub starts : has_state places 0 ≡ true
  starts = fit.start

  -- where a chain state stands, and the letters from there to its place
  pub record InChain (n b : ℕ) (u : List Letter) : Type 0 where
    pub line : ℕ
    pub inside : line < length (lines_of b)
    pub k : ℕ
    pub more : k < chain_len places b line
    pub at : n ≡ first_chain places b line + k
    pub rest : u ≡ letters (drop (k + 1) (labels_at places b line))

  abbrev pub Ahead : ℕ → ℕ → List Letter → Type 0
  Ahead n b u = (has_state places b ≡ true) × (((n ≡ number places b) × (u ≡ [])) ⊎ InChain n b u)

  -- behind a label of a line the letters of its later labels lie ahead
  behind : (b l k : ℕ) → l < length (lines_of b) → k < length (labels_at places b l) →
      Ahead (target_of places b l k) b (letters (drop (k + 1) (labels_at places b l)))
  behind b l k at lt = elim (less_or (k + 1) (length (labels_at places b l))) [
    | inl more ↦ (
      has_line b l at,
      inr (record {
        line = l;
        inside = at;
        k = k;
        more = omega arith;
        at = lt_then (k + 1) (length (labels_at places b l)) (first_chain places b l + k)
            (number places b) more;
        rest = refl;
      }),
    )
    | inr last ↦ (
      has_line b l at,
      inl (
        lt_else (k + 1) (length (labels_at places b l)) (first_chain places b l + k)
            (number places b) last,
        ap letters (drop_whole (labels_at places b l) (k + 1) last),
      ),
    )
  ]

  -- a step along label k of a line
  record AlongLabel (t : Step) (b l k : ℕ) : Type 0 where
    to : t.to ≡ target_of places b l k
    output : t.output ≡ output_before places b k
    labels : t.labels ≡ label b l k ∷ []

  -- the letters of a line from label k on, with what is put out before that label
  abbrev letters_from : (b l k : ℕ) → List Letter
  letters_from b l k =
      map piece (output_before places b k) ++ letters (drop k (labels_at places b l))

  -- nothing is put out before a later label
  later_letters : (b l k : ℕ) →
      letters_from b l (k + 1) ≡ letters (drop (k + 1) (labels_at places b l))
  later_letters b l k =
      ap (λ n. map piece (output_before places b n)
      ++ letters (drop (k + 1) (labels_at places b l))) (add-one k)

  -- the letters from a label on are those of its step and those behind
  step_letters : (t : Step) (b l k : ℕ) → AlongLabel t b l k → k < length (labels_at places b l) →
      letters_from b l k ≡ letters_along t ++ letters (drop (k + 1) (labels_at places b l))
  step_letters t b l k step lt =
      let later = letters (drop (k + 1) (labels_at places b l)) in
      let line : letters (drop k (labels_at places b l)) ≡ letters t.labels ++ later =
      letters_more (labels_at places b l) k lt
      ∙ ap (λ x. x ++ later)
      (sym (ap letters step.labels ∙ append-nil (letter_of (label b l k)))) in
      ap (λ x. map piece (output_before places b k) ++ x) line
      ∙ (ap (λ (o : List Piece). map piece o ++ (letters t.labels ++ later)) (sym step.output)
      ∙ sym (append_assoc (put_by t) (letters t.labels) later))

  -- behind a step come the letters of the labels that follow
  step_behind : (t : Step) (b l k : ℕ) → AlongLabel t b l k → l < length (lines_of b) →
      k < length (labels_at places b l) →
      Ahead t.to b (letters (drop (k + 1) (labels_at places b l)))
  step_behind t b l k step at lt =
      subst (λ n. Ahead n b (letters (drop (k + 1) (labels_at places b l)))) (sym step.to)
      (behind b l k at lt)

  -- a step along the edge of a label
  along_edge : (t : Step) (b l k : ℕ) (edge : Edge) → edge_of places b l k ≡ edge →
      t.to ≡ edge.target → t.output ≡ edge.output → t.labels ≡ edge.label ∷ [] →
      AlongLabel t b l k
  along_edge t b l k edge is to output labels = record {
    to = to ∙ ap (λ (e : Edge). e.target) (sym is);
    output = output ∙ ap (λ (e : Edge). e.output) (sym is);
    labels = labels ∙ ap (λ (e : Edge). e.label ∷ []) (sym is);
  }

  -- an edge of a place's state is that of the first label of a line of a target
  pub of_target : (a : ℕ) (edge : Edge) → Contains (place_state places a).edges edge →
      (b : ℕ) × Contains (place_targets places a) b × (l : ℕ) × (l < length (lines_of b))
      × (edge_of places b l 0 ≡ edge)
  of_target a edge h =
      let c = contained_joined (edges_to places) (place_targets places a) edge h in
      let m = contained_mapped (λ l. edge_of places c.0 l 0)
      (range_with_len 0 (length (lines_of c.0))) edge c.2 in
      (c.0, c.1, m.0, contained_range (length (lines_of c.0)) m.0 m.1, m.2)

  -- a place has the edge of the first label of each line of a target
  pub to_target : (a b l : ℕ) → Contains (place_targets places a) b → l < length (lines_of b) →
      Contains (place_state places a).edges (edge_of places b l 0)
  to_target a b l leads at =
      contains_joined (edges_to places) (place_targets places a) b (edge_of places b l 0) leads
      (contains_mapped (λ l. edge_of places b l 0) (range_with_len 0 (length (lines_of b))) l
      (contains_range (length (lines_of b)) l at))

  -- the edge of a chain state is its only one
  pub only_edge : (edge other : Edge) → Contains (edge ∷ []) other → edge ≡ other
  only_edge edge other h =
      elim (first_or_later edge [] other h) [ inl e ↦ e | inr n ↦ absurd (nothing_in n) ]

  -- the state of this number is that of the place
  pub place_is : (a n : ℕ) (state : State) → has_state places a ≡ true → n ≡ number places a →
      slice_get (states_of places) n ≡ Some state → state ≡ place_state places a
  place_is a n state has at found =
      same_Some state (place_state places a) (sym found ∙ (ap (slice_get (states_of places)) at
      ∙ get_place places (place_state places) (chain_state places) a has))

  -- and this one the chain state
  pub chain_is : (b l k n : ℕ) (state : State) → l < length (lines_of b) →
      k < chain_len places b l → n ≡ first_chain places b l + k →
      slice_get (states_of places) n ≡ Some state → state ≡ chain_state places b l k
  chain_is b l k n state at lt is found =
      same_Some state (chain_state places b l k) (sym found
      ∙ (ap (slice_get (states_of places)) is
      ∙ get_chain places (place_state places) (chain_state places) b l k
      (place_inside places b (has_line b l at)) at lt))

  -- the step along label k of a line, from a state
  abbrev step_at : (b l k n : ℕ) → Step
  step_at b l k n = record {
    from = n;
    to = target_of places b l k;
    output = output_before places b k;
    labels = label b l k ∷ [];
  }

  -- from where the edge of label k begins, the letters from there lead to the place
  edge_run : (g m b l k n : ℕ) (state : State) → l < length (lines_of b) →
      k + 1 + m ≡ length (labels_at places b l) → slice_get (states_of places) n ≡ Some state →
      Contains state.edges (edge_of places b l k) → mark_of (line_at places b l) ≡ ordinary →
      Run g new n (number places b) (letters_from b l k)
  edge_run g zero b l k n state at e found inside mark_line =
      let t : Step = step_at b l k n in
      let along_label : AlongLabel t b l k =
      record { to = refl; output = refl; labels = refl } in
      let step : IsNetStep (states_of places) t = record {
        state = state;
        found = found;
        edge = edge_of places b l k;
        inside = inside;
        to = refl;
        label = refl;
        puts = refl;
      } in
      let mark = label_ordinary b l k at mark_line (omega arith) in
      let to : target_of places b l k ≡ number places b =
      lt_else (k + 1) (length (labels_at places b l)) (first_chain places b l + k)
      (number places b) (omega arith) in
      let none : letters (drop (k + 1) (labels_at places b l)) ≡ [] =
      ap letters (drop_whole (labels_at places b l) (k + 1) (omega arith)) in
      let word : letters_along t ++ [] ≡ letters_from b l k =
      ap (λ x. letters_along t ++ x) (sym none)
      ∙ sym (step_letters t b l k along_label (omega arith)) in
      subst (λ w. Run g new n (number places b) w) word
      (along t step mark (subst (λ m. Run g new m (number places b) []) (sym to) stop))
  edge_run g (suc m) b l k n state at e found inside mark_line =
      let t : Step = step_at b l k n in
      let along_label : AlongLabel t b l k =
      record { to = refl; output = refl; labels = refl } in
      let step : IsNetStep (states_of places) t = record {
        state = state;
        found = found;
        edge = edge_of places b l k;
        inside = inside;
        to = refl;
        label = refl;
        puts = refl;
      } in
      let mark = label_ordinary b l k at mark_line (omega arith) in
      let to : target_of places b l k ≡ first_chain places b l + k =
      lt_then (k + 1) (length (labels_at places b l)) (first_chain places b l + k)
      (number places b) (omega arith) in
      let there = get_chain places (place_state places) (chain_state places) b l k
      (place_inside places b (has_line b l at)) at (omega arith) in
      let later : Run g new (first_chain places b l + k) (number places b)
      (letters (drop (k + 1) (labels_at places b l))) =
      subst (λ w. Run g new (first_chain places b l + k) (number places b) w)
      (later_letters b l k)
      (edge_run g m b l (k + 1) (first_chain places b l + k) (chain_state places b l k) at
      (omega arith) there (contains_first (edge_of places b l (k + 1)) []) mark_line) in
      subst (λ w. Run g new n (number places b) w)
      (sym (step_letters t b l k along_label (omega arith)))
      (along t step mark (subst (λ i. Run g new i (number places b)
      (letters (drop (k + 1) (labels_at places b l)))) (sym to) later))

  -- an ordinary step of the places is a run of the states
  forth : (g : ℕ) (s : Step) → has_state places s.from ≡ true → IsPlaceStep places s →
      mark_of s.labels ≡ ordinary →
      Run g new (number places s.from) (number places s.to) (letters_along s)
  forth g s has step mark =
      let l = line_number places s.to s.labels step.line in
      let some = line_some places fit s.to l.0 l.1 in
      subst (λ w. Run g new (number places s.from) (number places s.to) w)
      (ap (λ (word : List Letter). map piece (place_output places s.to) ++ word)
      (same_letters (called_at places s.to l.0) (line_at places s.to l.0))
      ∙ ap (λ (line : List Label). map piece (place_output places s.to) ++ letters line) l.2
      ∙ ap (λ (o : List Piece). map piece o ++ letters s.labels) (sym step.puts))
      (edge_run g (length (labels_at places s.to l.0) - 1) s.to l.0 0 (number places s.from)
      (place_state places s.from) l.1 (omega arith)
      (get_place places (place_state places) (chain_state places) s.from has)
      (to_target s.from s.to l.0 step.leads l.1) (ap mark_of l.2 ∙ mark))

  abbrev Back : Step → ℕ → List Letter → Type 0
  Back t b u = ((v : List Letter) × Ahead t.to b v × (u ≡ letters_along t ++ v))
      ⊎ ((u ≡ []) × (s : Step) × IsPlaceStep places s × (mark_of s.labels ≡ ordinary)
      × (s.from ≡ b) × (v : List Letter) × Ahead t.to s.to v
      × (letters_along s ≡ letters_along t ++ v))

  -- a step from the state of a place is along the first label of a line of a target
  record AlongLine (t : Step) (a : ℕ) : Type 0 where
    target : ℕ
    leads : Contains (place_targets places a) target
    line : ℕ
    inside : line < length (lines_of target)
    label : AlongLabel t target line 0

  -- a step from the state of a place is along the first label of a line
  from_place : (t : Step) (a : ℕ) → has_state places a ≡ true → IsNetStep (states_of places) t →
      t.from ≡ number places a → AlongLine t a
  from_place t a has step from =
      let same = place_is a t.from step.state has from step.found in
      let e = of_target a step.edge
      (subst (λ (x : State). Contains x.edges step.edge) same step.inside) in
      record {
        target = e.0;
        leads = e.1;
        line = e.2;
        inside = e.3;
        label = along_edge t e.0 e.2 0 step.edge e.4 step.to step.puts step.label;
      }

  -- the step of the places along that line
  abbrev pub old_step : ℕ → ℕ → ℕ → Step
  old_step a b l = record {
    from = a;
    to = b;
    output = place_output places b;
    labels = line_at places b l;
  }

  -- a line of a target is a step of the places
  pub old_is_step : (a b l : ℕ) → has_state places a ≡ true → Contains (place_targets places a) b →
      l < length (lines_of b) → IsPlaceStep places (old_step a b l)
  old_is_step a b l has leads at = record {
    before_end = not_end a has;
    leads = leads;
    line = line_there places b l at;
    puts = refl;
  }

  -- it does to contexts what its line does
  old_mark : (t : Step) (a : ℕ) (e : AlongLine t a) →
      mark_of t.labels ≡ mark_of (line_at places e.target e.line)
  old_mark t a e = ap mark_of e.label.labels ∙ first_mark e.target e.line e.inside

  -- a step from the state of a place is the beginning of one of the places
  back_place : (t : Step) (a : ℕ) (u : List Letter) → has_state places a ≡ true →
      IsNetStep (states_of places) t → mark_of t.labels ≡ ordinary → t.from ≡ number places a →
      u ≡ [] → Back t a u
  back_place t a u has step mark from none =
      let e = from_place t a has step from in
      let b = e.target in
      let l = e.line in
      let some = line_some places fit b l e.inside in
      inr (
        none,
        old_step a b l,
        old_is_step a b l has e.leads e.inside,
        sym (old_mark t a e) ∙ mark,
        refl,
        letters (drop (0 + 1) (labels_at places b l)),
        step_behind t b l 0 e.label e.inside some,
        ap (λ (word : List Letter). map piece (place_output places b) ++ word)
            (sym (same_letters (called_at places b l) (line_at places b l)))
            ∙ step_letters t b l 0 e.label some,
      )

  -- a step from a chain state is along a later label of its line
  from_chain : (t : Step) (b : ℕ) (u : List Letter) → IsNetStep (states_of places) t →
      (c : InChain t.from b u) → AlongLabel t b c.line (c.k + 1)
  from_chain t b u step c =
      let same = chain_is b c.line c.k t.from step.state c.inside c.more c.at step.found in
      let is = only_edge (edge_of places b c.line (c.k + 1)) step.edge
      (subst (λ (x : State). Contains x.edges step.edge) same step.inside) in
      along_edge t b c.line (c.k + 1) step.edge is step.to step.puts step.label

  -- and so it is ordinary
  chain_ordinary : (t : Step) (b : ℕ) (u : List Letter) → IsNetStep (states_of places) t →
      InChain t.from b u → mark_of t.labels ≡ ordinary
  chain_ordinary t b u step c =
      ap mark_of (from_chain t b u step c).labels
      ∙ later_mark b c.line c.k c.inside (let m = c.more in omega arith)

  -- and one from a chain state goes on in it
  back_chain : (t : Step) (b : ℕ) (u : List Letter) → IsNetStep (states_of places) t →
      InChain t.from b u → Back t b u
  back_chain t b u step c =
      let label = from_chain t b u step c in
      let lt : c.k + 1 < length (labels_at places b c.line) = let m = c.more in omega arith in
      inl (
        letters (drop ((c.k + 1) + 1) (labels_at places b c.line)),
        step_behind t b c.line (c.k + 1) label c.inside lt,
        c.rest ∙ (sym (later_letters b c.line c.k) ∙ step_letters t b c.line (c.k + 1) label lt),
      )

  -- a run ends where one of the places does
  ending : (n b : ℕ) (u : List Letter) → Ahead n b u → IsNetEnd (states_of places) n →
      (u ≡ []) × IsEndPlace places b
  ending n b u ahead e = elim ahead.1 [
    | inl here ↦
        let same = place_is b n e.state ahead.0 here.0 e.found in
        let final = subst (λ (x : State). x.is_final ≡ true) same e.final in
        (here.1, (not_end b ahead.0, one_in (place_targets places b) final))
    | inr c ↦
        let same = chain_is b c.line c.k n e.state c.inside c.more c.at e.found in
        absurd (let f : false ≡ true = subst (λ (x : State). x.is_final ≡ true) same e.final in cc)
  ]

  -- the list that the code makes in two parts
  pub built : (states front : List State) →
      states ≡ front ++ flat_map (along_lines places (chain_state places))
      (range_with_len 0 (length places)) →
      front ≡ flat_map (at_place places (place_state places)) (range_with_len 0 (length places)) →
      states ≡ states_of places
  built states front is first =
      is ∙ ap (λ (xs : List State). xs ++ flat_map (along_lines places (chain_state places))
      (range_with_len 0 (length places))) first

  -- there are as many states as are counted
  pub states_length : length (states_of places) ≡ total places
  states_length = length_by_state places (place_state places) (chain_state places)

  -- there is a state
  pub states_some : 0 < length (states_of places)
  states_some = slice_get_within (states_of places) 0 (place_state places 0)
      (get_place places (place_state places) (chain_state places) 0 starts)

  -- and 32 bits number them
  pub states_few : length (states_of places) < 4294967296
  states_few = let t = total_few places fit in let e = states_length in omega arith

  -- a label leads to a state that is there
  target_inside : (b l k : ℕ) → l < length (lines_of b) → k < length (labels_at places b l) →
      target_of places b l k < length (states_of places)
  target_inside b l k at lt = elim (behind b l k at lt).1 [
    | inl here ↦ slice_get_within (states_of places) (target_of places b l k) (place_state places b)
        (ap (slice_get (states_of places)) here.0
        ∙ get_place places (place_state places) (chain_state places) b (has_line b l at))
    | inr c ↦ slice_get_within (states_of places) (target_of places b l k)
        (chain_state places b c.line c.k)
        (ap (slice_get (states_of places)) c.at
        ∙ get_chain places (place_state places) (chain_state places) b c.line c.k
        (place_inside places b (has_line b l at)) c.inside c.more)
  ]

  -- the edge of a label leads to a state that is there
  edge_inside : (b l k : ℕ) (edge : Edge) → l < length (lines_of b) →
      k < length (labels_at places b l) → edge_of places b l k ≡ edge →
      edge.target < length (states_of places)
  edge_inside b l k edge at lt is =
      subst (λ (e : Edge). e.target < length (states_of places)) is (target_inside b l k at lt)

  -- an edge of a state is that of a label of a line, the first one where the state is of a place
  pub record OfLabel (n : ℕ) (edge : Edge) : Type 0 where
    pub place : ℕ
    pub line : ℕ
    pub inside : line < length (lines_of place)
    pub k : ℕ
    pub below : k < length (labels_at places place line)
    pub is : edge_of places place line k ≡ edge
    pub from : ((a : ℕ) × (has_state places a ≡ true) × (n ≡ number places a) × (k ≡ 0)
        × Contains (place_targets places a) place)
        ⊎ ((i : ℕ) × (i < chain_len places place line) × (k ≡ i + 1)
        × (n ≡ first_chain places place line + i))

  -- each edge is that of a label
  pub of_label : (n : ℕ) (state : State) (edge : Edge) →
      slice_get (states_of places) n ≡ Some state → Contains state.edges edge → OfLabel n edge
  of_label n state edge found inside =
      go (stands places n (let w = slice_get_within (states_of places) n state found in
      let e = states_length in omega arith))
    where
      go : Stands places n → OfLabel n edge
      go (of_a_place a has at) =
          let same = place_is a n state has at found in
          let e = of_target a edge (subst (λ (x : State). Contains x.edges edge) same inside) in
          record {
            place = e.0;
            line = e.2;
            inside = e.3;
            k = 0;
            below = line_some places fit e.0 e.2 e.3;
            is = e.4;
            from = inl (a, has, at, refl, e.1);
          }
      go (of_a_line b l k inside' at lt is) =
          let same = chain_is b l k n state at lt is found in
          record {
            place = b;
            line = l;
            inside = at;
            k = k + 1;
            below = omega arith;
            is = only_edge (edge_of places b l (k + 1)) edge
                (subst (λ (x : State). Contains x.edges edge) same inside);
            from = inr (k, lt, refl, is);
          }

  -- an edge that opens or closes a context is a step of the places
  pub record IsDrawn (n : ℕ) (edge : Edge) (b l : ℕ) : Type 0 where
    pub from : ℕ
    pub has : has_state places from ≡ true
    pub at : n ≡ number places from
    pub step : IsPlaceStep places (old_step from b l)
    pub mark : mark_of (line_at places b l) ≡ mark_of (edge.label ∷ [])
    pub leads : edge.target ≡ number places b

  module _ (n : ℕ) (edge : Edge) (o : OfLabel n edge) where
    label_is : label o.place o.line o.k ≡ edge.label
    label_is = ap (λ (e : Edge). e.label) o.is

    -- the first edge of a line does to contexts what the line does
    pub line_mark : o.k ≡ 0 → mark_of (line_at places o.place o.line) ≡ mark_of (edge.label ∷ [])
    line_mark none =
        sym (first_mark o.place o.line o.inside)
        ∙ (ap (λ k. mark_of (label o.place o.line k ∷ [])) (sym none)
        ∙ ap (λ (x : Label). mark_of (x ∷ [])) label_is)

    -- and a later one is ordinary
    pub later_plain : (i : ℕ) → o.k ≡ i + 1 → mark_of (edge.label ∷ []) ≡ ordinary
    later_plain i e =
        ap (λ (x : Label). mark_of (x ∷ [])) (sym label_is)
        ∙ (ap (λ k. mark_of (label o.place o.line k ∷ [])) e
        ∙ later_mark o.place o.line i o.inside (let lt = o.below in omega (arith, lt, e)))

    pub drawn : (mark_of (edge.label ∷ []) ≡ ordinary → ⊥) → IsDrawn n edge o.place o.line
    drawn marked = elim o.from [
      | inl first ↦
          let mark = line_mark first.3 in
          record {
            from = first.0;
            has = first.1;
            at = first.2;
            step = old_is_step first.0 o.place o.line first.1 first.4 o.inside;
            mark = mark;
            leads =
                sym (ap (λ (e : Edge). e.target) o.is)
                ∙ (ap (target_of places o.place o.line) first.3
                ∙ lone_target o.place o.line o.inside (λ plain. marked (sym mark ∙ plain)));
          }
      | inr later ↦ absurd (marked (later_plain later.0 later.2))
    ]

  -- so each edge leads to a state that is there
  pub targets_inside : AreTargetsInside (states_of places)
  targets_inside n state edge found inside =
      let o = of_label n state edge found inside in
      edge_inside o.place o.line o.k edge o.inside o.below o.is

  -- the places other than the end that are reached are those with a state
  stateful : (a : ℕ) → (a ≢ 1) × (is_reached places a ≡ true) → has_state places a ≡ true
  stateful a p = go (nat_eq a 1) refl
    where
      go : (t : Bool) → nat_eq a 1 ≡ t → has_state places a ≡ true
      go true is = absurd (p.0 (eqb-true a 1 is))
      go false is = ap (λ (t : Bool). cond t false (is_reached places a)) is ∙ p.1

  placed : (a : ℕ) → has_state places a ≡ true → (a ≢ 1) × (is_reached places a ≡ true)
  placed a has = (not_end a has, go (nat_eq a 1) refl)
    where
      go : (t : Bool) → nat_eq a 1 ≡ t → is_reached places a ≡ true
      go true is = absurd (not_end a has (eqb-true a 1 is))
      go false is = sym (ap (λ (t : Bool). cond t false (is_reached places a)) is) ∙ has

  -- two places with a state have one number only if they are the same
  number_once : (a b : ℕ) → has_state places a ≡ true → has_state places b ≡ true →
      number places a ≡ number places b → a ≡ b
  number_once a b has_a has_b same =
      let itself : ℕ → ℕ = λ n. n in
      let nothing : ℕ → ℕ → ℕ → ℕ = λ b l k. 0 in
      same_Some a b (sym (get_place places itself nothing a has_a)
      ∙ (ap (slice_get (by_state places itself nothing)) same
      ∙ get_place places itself nothing b has_b))

-- the number of a place is that of its state
abbrev pub number_in : List (List Place) → (g place : ℕ) → ℕ
number_in graphs g a = number (places_of graphs g) a

module _ (graphs : List (List Place)) (g : ℕ) (fit : AreFit (places_of graphs g)) where
  abbrev here : List Place
  here = places_of graphs g

  abbrev SameStep : Step → Step → Type 0
  SameStep s t = IsNumbered (place_grammar graphs) (number_in graphs) g s t

  -- a step that opens or closes a context is one edge
  forth_marked : (s : Step) → has_state here s.from ≡ true → IsPlaceStep here s →
      (mark_of s.labels ≡ ordinary → ⊥) →
      (t : Step) × IsNetStep (states_of here) t × SameStep s t
  forth_marked s has step marked =
      let l = line_number here s.to s.labels step.line in (
        step_at here fit s.to l.0 0 (number here s.from),
        record {
          state = place_state here s.from;
          found = get_place here (place_state here) (chain_state here) s.from has;
          edge = edge_of here s.to l.0 0;
          inside = to_target here fit s.from s.to l.0 step.leads l.1;
          to = refl;
          label = refl;
          puts = refl;
        },
        record {
          from = refl;
          to = lone_target here fit s.to l.0 l.1 (λ o. marked (ap mark_of (sym l.2) ∙ o));
          output = sym step.puts;
          mark = first_mark here fit s.to l.0 l.1 ∙ ap mark_of l.2;
        },
      )

  -- such an edge is a step that does
  back_marked : (t : Step) (b : ℕ) (u : List Letter) → IsNetStep (states_of here) t →
      (mark_of t.labels ≡ ordinary → ⊥) → Ahead here fit t.from b u →
      (u ≡ []) × (s : Step) × IsPlaceStep here s × (s.from ≡ b) × SameStep s t
  back_marked t b u step marked ahead = elim ahead.1 [
    | inl at ↦
        let e = from_place here fit t b ahead.0 step at.0 in
        let mark = old_mark here fit t b e in (
          at.1,
          old_step here fit b e.target e.line,
          old_is_step here fit b e.target e.line ahead.0 e.leads e.inside,
          refl,
          record {
            from = at.0;
            to =
                e.label.to
                ∙ lone_target here fit e.target e.line e.inside (λ o. marked (mark ∙ o));
            output = e.label.output;
            mark = mark;
          },
        )
    | inr c ↦ absurd (marked (chain_ordinary here fit t b u step c))
  ]

  -- the states refine the places
  pub refines : Refines (place_grammar graphs) (number_in graphs) g (Ahead here fit)
      (net_graph (states_of here))
  refines = record {
    start = placed here fit 0 (starts here fit);
    keeps = λ s at step.
        let l = line_number here s.to s.labels step.line in
        placed here fit s.to (has_line here fit s.to l.0 l.1);
    apart = λ a b at_a at_b same.
        number_once here fit a b (stateful here fit a at_a) (stateful here fit b at_b) same;
    here = λ a at. (stateful here fit a at, inl (refl, refl));
    place = λ n b u ahead. placed here fit b ahead.0;
    starts = refl;
    ends = λ a at e. record {
      state = place_state here a;
      found = get_place here (place_state here) (chain_state here) a (stateful here fit a at);
      final = has_one (place_targets here a) e.1;
    };
    ends_back = λ n b u ahead e. ending here fit n b u ahead e;
    forth = λ s at step mark. forth here fit g s (stateful here fit s.from at) step mark;
    forth_opens = λ s sign at step mark.
        forth_marked s (stateful here fit s.from at) step (λ o. absurd cc);
    forth_closes = λ s at step mark.
        forth_marked s (stateful here fit s.from at) step (λ o. absurd cc);
    back = λ t b u step mark ahead. elim ahead.1 [
      | inl there ↦ back_place here fit t b u ahead.0 step mark there.0 there.1
      | inr c ↦ back_chain here fit t b u step c
    ];
    back_opens = λ t sign b u step mark ahead. back_marked t b u step (λ o. absurd cc) ahead;
    back_closes = λ t b u step mark ahead. back_marked t b u step (λ o. absurd cc) ahead;
  }

  -- the law: the states say the same as the places
  pub construction_same : IsSame (place_grammar graphs) (number_in graphs) g
      (net_graph (states_of here))
  construction_same =
      refined_same (place_grammar graphs) (number_in graphs) g (Ahead here fit)
      (net_graph (states_of here)) refines

  -- where a body from a place is closed, one from its state is
  pub closes_forth : (a c : ℕ) → has_state here a ≡ true →
      ClosesInto (place_grammar graphs) g a c →
      (has_state here c ≡ true)
      × (word : List Letter)
      × IsBody g (net_graph (states_of here)) (number here a) (number here c) word
  closes_forth a c has into =
      let r = body_forth (place_grammar graphs) (number_in graphs) g (Ahead here fit)
      (net_graph (states_of here)) refines a c (placed here fit a has) into.0 into.1 in
      (stateful here fit c r.0, r.1, r.3)

  -- and conversely
  pub closes_back : (a n : ℕ) → has_state here a ≡ true → (word : List Letter) →
      IsBody g (net_graph (states_of here)) (number here a) n word →
      (c : ℕ) × (has_state here c ≡ true) × (n ≡ number here c)
      × ClosesInto (place_grammar graphs) g a c
  closes_back a n has word body =
      let r = body_back (place_grammar graphs) (number_in graphs) g (Ahead here fit)
      (net_graph (states_of here)) refines a n (placed here fit a has) word body in
      (r.0, stateful here fit r.0 r.1, r.2, (r.3, r.5))
