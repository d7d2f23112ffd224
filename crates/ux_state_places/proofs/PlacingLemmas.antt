-- Rows that are made one graph after another are those of all graphs.
use Rattle.std.proofs.Common.{arith, ◌≡◌, ℕ, zero, suc, ◌+◌, ◌<◌, ◌≤◌, List, [], ◌∷◌, ◌++◌, length, refl, sym, ap, subst, ◌∙◌, get_or, inl, inr, false, Bool, take, drop}
use Rattle.std.specs.Prelude.{All, Contains, Some, slice_get}
use Rattle.std.proofs.lemmas.List.Elements.{All-weaker, All-contains_itself}
use Rattle.std.proofs.lemmas.List.{length_push, get_or_append_left, get_or_default, get_or_push, get_or-take, get_or-drop}
use Rattle.std.proofs.lemmas.Option.{slice_get_read, slice_get_within}
use Rattle.ux_base.proofs.Lists.{less_or}
use Rattle.ux_net.specs.declared.label.Label.TheVariants.{Empty}
use Rattle.ux_net.specs.declared.state.Edge.{Edge}
use Rattle.ux_net.specs.declared.state.State.{State}
use Rattle.ux_net.specs.declared.state_graph.StateGraph.{StateGraph}
use Rattle.ux_net.specs.Closers.{OpensInto}
use Rattle.ux_net.specs.StateGraphs.{told_at, told_states, AreInsideStates}
use Rattle.ux_net.specs.Words.{ordinary, opens, mark_of}
use Rattle.ux_boxes.specs.declared.place.Place.{Place}
use Rattle.ux_boxes.specs.Fit.{IsFitLine, IsFit}
use Rattle.ux_boxes.specs.Numbers.{places_before, number_of, all_places}
use Rattle.ux_boxes.specs.Places.{places_of, place_grammar, label_lines, place_targets}
use Rattle.ux_boxes.proofs.CutLemmas.{split_fits, rest_next}
use Rattle.ux_boxes.proofs.NumbersLemmas.{graph_inside, places_at}
use Rattle.ux_boxes.proofs.StepsLemmas.{line_from}
use Rattle.ux_admission.specs.Admission.{row_at}
use Rattle.ux_state_places.specs.declared.arrival.Arrival.{Arrival}
use Rattle.ux_state_places.specs.declared.arrival.Kind.{Kind}
use Rattle.ux_state_places.specs.Arrivals.{label_of, hub_arrival, edge_arrival, arrival_at, HaveInsideTargets, AreKept, ArePlaced}
use Rattle.ux_state_places.specs.Meeting.{AreMetMarks, AreOpenedInto}
use Rattle.ux_state_places.specs.Placing.{AreRawRows, AreRawTo, marks_of, AreKeptRows}
use Rattle.ux_state_places.proofs.ArrivalLemmas.{arrival_place, arrival_among, place_once, arrivals_some, line_arrival, way_place, edge_leads, target_inside}
use Rattle.ux_state_places.proofs.PlacedLaw.{raw_line_fit}

-- the places of a graph stay where those of one more graph are pushed
pub places_stay : (rows : List (List Place)) (row : List Place) (k : ℕ) → k < length rows →
    places_of (rows ++ row ∷ []) (suc k) ≡ places_of rows (suc k)
places_stay [] row k low = absurd (omega (arith, low))
places_stay (first ∷ rows) row zero low = refl
places_stay (first ∷ rows) row (suc k) low = places_stay rows row k (omega (arith, low))

-- the places that are pushed are those of the last graph
pub places_last : (rows : List (List Place)) (row : List Place) (k : ℕ) → length rows ≡ k →
    places_of (rows ++ row ∷ []) (suc k) ≡ row
places_last [] row zero len = refl
places_last [] row (suc k) len = absurd (omega (arith, len))
places_last (first ∷ rows) row zero len = absurd (omega (arith, len))
places_last (first ∷ rows) row (suc k) len = places_last rows row k (omega (arith, len))

-- one more graph has its rows
pub raw_next : (graphs : List StateGraph) (n : ℕ) (raws : List (List Place))
    (stands hubs : List (List ℕ)) → AreRawTo graphs n raws stands hubs → (places : List Place)
    (stand hub : List ℕ) → AreRawRows (told_states graphs (suc n)) places stand hub →
    AreRawTo graphs (n + 1) (raws ++ places ∷ []) (stands ++ stand ∷ []) (hubs ++ hub ∷ [])
raw_next graphs n raws stands hubs so places stand hub rows = record {
  count = length_push raws places ∙ ap (λ m. m + 1) so.count;
  stands_count = length_push stands stand ∙ ap (λ m. m + 1) so.stands_count;
  hubs_count = length_push hubs hub ∙ ap (λ m. m + 1) so.hubs_count;
  each = each;
}
  where
    each : (g : ℕ) → 1 ≤ g → g ≤ n + 1 → AreRawRows (told_states graphs g)
        (places_of (raws ++ places ∷ []) g) (row_at (stands ++ stand ∷ []) g)
        (row_at (hubs ++ hub ∷ []) g)
    each zero from to = absurd (omega (arith, from))
    each (suc k) from to = elim (less_or k n) [
      | inl low ↦
          let count = so.count in
          let stands_count = so.stands_count in
          let hubs_count = so.hubs_count in
          subst (λ (ps : List Place). AreRawRows (told_states graphs (suc k)) ps
          (row_at (stands ++ stand ∷ []) (suc k)) (row_at (hubs ++ hub ∷ []) (suc k)))
          (sym (places_stay raws places k (omega (arith, low, count))))
          (subst (λ (ss : List ℕ). AreRawRows (told_states graphs (suc k)) (places_of raws (suc k))
          ss (row_at (hubs ++ hub ∷ []) (suc k)))
          (sym (get_or_append_left stands (stand ∷ []) [] k (omega (arith, low, stands_count))))
          (subst (λ (hs : List ℕ). AreRawRows (told_states graphs (suc k)) (places_of raws (suc k))
          (row_at stands (suc k)) hs)
          (sym (get_or_append_left hubs (hub ∷ []) [] k (omega (arith, low, hubs_count))))
          (so.each (suc k) from (omega (arith, low)))))
      | inr past ↦
          let is : k ≡ n = omega (arith, past, to) in
          subst (λ (m : ℕ). AreRawRows (told_states graphs (suc m))
          (places_of (raws ++ places ∷ []) (suc m)) (row_at (stands ++ stand ∷ []) (suc m))
          (row_at (hubs ++ hub ∷ []) (suc m))) (sym is)
          (subst (λ (ps : List Place). AreRawRows (told_states graphs (suc n)) ps
          (row_at (stands ++ stand ∷ []) (suc n)) (row_at (hubs ++ hub ∷ []) (suc n)))
          (sym (places_last raws places n so.count))
          (subst (λ (ss : List ℕ). AreRawRows (told_states graphs (suc n)) places
          ss (row_at (hubs ++ hub ∷ []) (suc n)))
          (sym (get_or_push stands stand [] n so.stands_count))
          (subst (λ (hs : List ℕ). AreRawRows (told_states graphs (suc n)) places stand hs)
          (sym (get_or_push hubs hub [] n so.hubs_count)) rows)))
    ]

-- the same for what is pushed
pub raw_pushed : (graphs : List StateGraph) (n : ℕ) (raws more_raws : List (List Place))
    (stands more_stands hubs more_hubs : List (List ℕ)) → AreRawTo graphs n raws stands hubs →
    (places p : List Place) (stand s hub h : List ℕ) →
    AreRawRows (told_states graphs (suc n)) places stand hub → p ≡ places → s ≡ stand → h ≡ hub →
    more_raws ≡ raws ++ p ∷ [] → more_stands ≡ stands ++ s ∷ [] → more_hubs ≡ hubs ++ h ∷ [] →
    AreRawTo graphs (n + 1) more_raws more_stands more_hubs
raw_pushed graphs n raws more_raws stands more_stands hubs more_hubs so places p stand s hub h rows
    p_is s_is h_is raws_are stands_are hubs_are =
    subst (λ (l : List (List Place)). AreRawTo graphs (n + 1) l more_stands more_hubs)
    (sym (raws_are ∙ ap (λ (ps : List Place). raws ++ ps ∷ []) p_is))
    (subst (λ (l : List (List ℕ)). AreRawTo graphs (n + 1) (raws ++ places ∷ []) l more_hubs)
    (sym (stands_are ∙ ap (λ (ss : List ℕ). stands ++ ss ∷ []) s_is))
    (subst (λ (l : List (List ℕ)). AreRawTo graphs (n + 1) (raws ++ places ∷ [])
    (stands ++ stand ∷ []) l) (sym (hubs_are ∙ ap (λ (hs : List ℕ). hubs ++ hs ∷ []) h_is))
    (raw_next graphs n raws stands hubs so places stand hub rows)))

-- the graph that a slice has is the one of the number after it
pub told_here : (graphs : List StateGraph) (k : ℕ) (graph : StateGraph) → k < length graphs →
    graph ≡ get_or graphs k graph → told_at graphs (suc k) ≡ Some graph
told_here graphs k graph low is = slice_get_read graphs (length graphs) k graph refl low is

-- edges of a graph lead to its states
pub edges_inside : (graphs : List StateGraph) → AreInsideStates graphs → (g : ℕ) →
    HaveInsideTargets (told_states graphs g)
edges_inside graphs inside g n state edge found has = (inside.edges g n state edge found has).target

-- one more graph has its places kept, with the marks that stand next
pub kept_row : (raws : List (List Place)) (marks rest row : List Bool) (n : ℕ)
    (kept : List (List Place)) → n < length raws → AreKeptRows raws marks n kept →
    (places new : List Place) → places ≡ get_or raws n places →
    rest ≡ drop (places_before raws (suc n)) marks → row ≡ take (length places) rest →
    AreKept row places new → AreKeptRows raws marks (n + 1) (kept ++ new ∷ [])
kept_row raws marks rest row n kept low so places new is behind front are = record {
  count = length_push kept new ∙ ap (λ m. m + 1) so.count;
  each = each;
}
  where
    same : places ≡ places_of raws (suc n)
    same = is ∙ sym (places_at raws n places low)

    here : row ≡ marks_of raws marks (suc n)
    here = front ∙ (ap (λ (ps : List Place). take (length ps) rest) same
        ∙ ap (λ (l : List Bool). take (length (places_of raws (suc n))) l) behind)

    each : (g : ℕ) → 1 ≤ g → g ≤ n + 1 →
        AreKept (marks_of raws marks g) (places_of raws g) (places_of (kept ++ new ∷ []) g)
    each zero from to = absurd (omega (arith, from))
    each (suc k) from to = elim (less_or k n) [
      | inl less ↦
          let count = so.count in
          subst (λ (ps : List Place). AreKept (marks_of raws marks (suc k)) (places_of raws (suc k)) ps)
          (sym (places_stay kept new k (omega (arith, less, count))))
          (so.each (suc k) from (omega (arith, less)))
      | inr past ↦
          let at : k ≡ n = omega (arith, past, to) in
          subst (λ (m : ℕ). AreKept (marks_of raws marks (suc m)) (places_of raws (suc m))
          (places_of (kept ++ new ∷ []) (suc m))) (sym at)
          (subst (λ (ps : List Place). AreKept (marks_of raws marks (suc n))
          (places_of raws (suc n)) ps) (sym (places_last kept new n so.count))
          (subst (λ (l : List Bool). AreKept l (places_of raws (suc n)) new) here
          (subst (λ (ps : List Place). AreKept row ps new) same are)))
    ]

-- the mark of a place
mark_at : (raws : List (List Place)) (marks : List Bool) (g p : ℕ) →
    p < length (places_of raws g) →
    get_or (marks_of raws marks g) p false ≡ get_or marks (number_of raws g p) false
mark_at raws marks g p low =
    get_or-take (length (places_of raws g)) (drop (places_before raws g) marks) p false low
    ∙ get_or-drop (places_before raws g) marks p false

module _ (graphs : List StateGraph) (raws : List (List Place)) (stands hubs : List (List ℕ))
    (are : AreRawTo graphs (length graphs) raws stands hubs) where
  -- what is kept of the raw places are the places of the graphs
  pub placed_are : (marks : List Bool) (places : List (List Place)) → AreMetMarks raws marks →
      AreKeptRows raws marks (length raws) places → ArePlaced graphs places stands hubs
  placed_are marks places met kept = record {
    raws = raws;
    count = kept.count ∙ are.count;
    raw_count = are.count;
    stands_count = are.stands_count;
    hubs_count = are.hubs_count;
    each = λ g from to.
        let count = are.count in
        let rows = are.each g from to in
        record {
          kinds = rows.kinds;
          arrivals = rows.arrivals;
          are = rows.are;
          raw = rows.raw;
          marks = marks_of raws marks g;
          marked = λ p low. (
            λ e. (met g p low).0 (sym (mark_at raws marks g p low) ∙ e),
            λ m. mark_at raws marks g p low ∙ (met g p low).1 m,
          );
          kept = kept.each g from (omega (arith, to, count));
          standing = rows.standing;
          have_hubs = rows.have_hubs;
        };
  }

  -- the raw places of a graph are fit
  graph_fit : AreInsideStates graphs → (g : ℕ) → 1 ≤ g → g ≤ length graphs →
      IsFit (length graphs) (places_of raws g)
  graph_fit inside g from to = record {
    two = let len = rows.raw.len in let some = some_arrivals in omega (arith, len, some);
    start = rows.raw.lines 0 (hub_arrival rows.kinds 0) rows.are.start
        ∙ ap (λ (k : Kind). (label_of k ∷ []) ∷ []) rows.are.first;
    lines = λ n. All-weaker (Contains (label_lines raw n)) (IsFitLine (length graphs))
        (λ line h. raw_line_fit graphs inside g rows.kinds rows.arrivals rows.are raw rows.raw n
        line h)
        (label_lines raw n)
        (All-contains_itself (label_lines raw n));
    inside = λ a b h. target_inside states rows.kinds rows.arrivals rows.are raw rows.raw a b h;
  }
    where
      states : List State
      states = told_states graphs g

      raw : List Place
      raw = places_of raws g

      rows : AreRawRows states raw (row_at stands g) (row_at hubs g)
      rows = are.each g from to

      some_arrivals : 0 < length rows.arrivals
      some_arrivals = arrivals_some states rows.kinds rows.arrivals rows.are raw rows.raw

  -- the raw places are fit
  pub raw_fit : AreInsideStates graphs → All (IsFit (length raws)) raws
  raw_fit inside n d low =
      let count = are.count in
      subst (IsFit (length raws)) (places_at raws n d low)
      (subst (λ k. IsFit k (places_of raws (suc n))) (sym count)
      (graph_fit inside (suc n) (omega arith) (omega (arith, low, count))))

  -- an edge leads into each raw place with a line that opens a context
  pub raw_opened : AreOpenedInto raws
  raw_opened g p (line, sign, has, m) = (sign, into there.0 (omega (arith, to, count)))
    where
      there : (1 ≤ g) × (g ≤ length raws)
      there = graph_inside raws g p (line_from (places_of raws g) p line has)

      to : g ≤ length raws
      to = there.1

      count : length raws ≡ length graphs
      count = are.count

      states : List State
      states = told_states graphs g

      raw : List Place
      raw = places_of raws g

      into : 1 ≤ g → g ≤ length graphs → OpensInto (place_grammar raws) g sign p
      into from to = by (arrival_among rows.arrivals p x.0 x.1)
        where
          rows : AreRawRows states raw (row_at stands g) (row_at hubs g)
          rows = are.each g from to

          x : (x : Arrival) × (arrival_at rows.arrivals p ≡ Some x) × (line ≡ label_of x.kind ∷ [])
          x = line_arrival states rows.kinds rows.arrivals rows.are raw rows.raw p line has

          from_hub : (n : ℕ) (state : State) (edge : Edge) → slice_get states n ≡ Some state →
              Contains state.edges edge → x.0 ≡ edge_arrival edge →
              OpensInto (place_grammar raws) g sign p
          from_hub n state edge found inside is =
              let hub = way_place states rows.kinds rows.arrivals rows.are raw rows.raw
              (hub_arrival rows.kinds n)
              (rows.are.hubs n (slice_get_within states n state found)) in
              let q = edge_leads states rows.kinds rows.arrivals rows.are raw rows.raw hub.0 n state
              edge hub.1 found inside in
              let same : q.0 ≡ p = place_once states rows.kinds rows.arrivals rows.are q.0 p
              (edge_arrival edge) q.1 (x.1 ∙ ap (λ (y : Arrival). Some y) is) in
              record {
                step = record { from = hub.0; to = p; output = []; labels = line };
                of_graph = record {
                  before_end =
                      (arrival_place rows.arrivals hub.0 (hub_arrival rows.kinds n) hub.1).1;
                  leads = subst (λ k. Contains (place_targets raw hub.0) k) same q.2;
                  line = has;
                  puts = sym (rows.raw.quiet p);
                };
                to = refl;
                opens = m;
              }

          by : (i : ℕ) × (slice_get rows.arrivals i ≡ Some x.0) →
              OpensInto (place_grammar raws) g sign p
          by (i, e) = elim (rows.are.made i x.0 e) [
            | inl is ↦ absurd (
                let plain : line ≡ Empty ∷ [] =
                x.2 ∙ ap (λ (k : Kind). label_of k ∷ []) is in
                let both : opens sign ≡ ordinary = sym m ∙ ap mark_of plain in cc)
            | inr (n, state, edge, found, inside, is) ↦ from_hub n state edge found inside is
          ]

-- the marks of one more graph are left
pub marks_fit : (raws : List (List Place)) (marks rest : List Bool) (n : ℕ)
    (places seen : List Place) → length marks ≡ all_places raws →
    (n < length raws) × (places ≡ get_or raws n places) → seen ≡ places →
    rest ≡ drop (places_before raws (suc n)) marks → length seen ≤ length rest
marks_fit raws marks rest n places seen whole (low, is) same behind =
    split_fits raws marks rest n seen whole low
    (same ∙ (is ∙ get_or_default raws n places [] low)) behind

-- the marks behind those of one more graph
pub marks_behind : (raws : List (List Place)) (marks rest after : List Bool) (n m : ℕ)
    (places seen : List Place) → (n < length raws) × (places ≡ get_or raws n places) →
    seen ≡ places → m ≡ n + 1 → rest ≡ drop (places_before raws (suc n)) marks →
    after ≡ drop (length seen) rest → after ≡ drop (places_before raws (suc m)) marks
marks_behind raws marks rest after n m places seen (low, is) same more behind cut_off =
    rest_next raws marks rest after n seen low (same ∙ (is ∙ get_or_default raws n places [] low))
    behind cut_off
    ∙ ap (λ k. drop (places_before raws (suc k)) marks) (sym more)

-- the same for what is pushed, where the marks are split off
pub kept_pushed : (raws : List (List Place)) (marks rest row : List Bool) (n m : ℕ)
    (kept more : List (List Place)) (places seen new p : List Place) →
    (n < length raws) × (places ≡ get_or raws n places) → AreKeptRows raws marks n kept →
    seen ≡ places → m ≡ n + 1 → rest ≡ drop (places_before raws (suc n)) marks →
    row ≡ take (length seen) rest → AreKept row places new → p ≡ new → more ≡ kept ++ p ∷ [] →
    AreKeptRows raws marks m more
kept_pushed raws marks rest row n m kept more places seen new p (low, is) so same next behind front
    are p_is more_is =
    subst (λ k. AreKeptRows raws marks k more) (sym next)
    (subst (λ (l : List (List Place)). AreKeptRows raws marks (n + 1) l)
    (sym (more_is ∙ ap (λ (ps : List Place). kept ++ ps ∷ []) p_is))
    (kept_row raws marks rest row n kept low so places new is behind
    (front ∙ ap (λ (ps : List Place). take (length ps) rest) same) are))
