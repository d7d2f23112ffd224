-- Runs of the states are runs of the places between hubs, and runs of the places are runs of the
-- states for which they stand.
use Rattle.std.proofs.Common.{◌≡◌, ◌≢◌, inl, inr, ℕ, ◌<◌, List, [], ◌∷◌, ◌++◌, length, map, refl, sym, ap, subst, ◌∙◌, true, append-nil}
use Rattle.std.specs.Prelude.{Contains}
use Rattle.std.proofs.lemmas.Option.{slice_get_within}
use Rattle.ux_base.proofs.Lists.{nothing_in}
use Rattle.ux_grf.specs.declared.item.Piece.{Piece}
use Rattle.ux_net.specs.declared.label.Label.{Label}
use Rattle.ux_net.specs.declared.state_graph.StateGraph.{StateGraph}
use Rattle.ux_net.specs.Nets.{net_graph, IsNetStep}
use Rattle.ux_net.specs.StateGraphs.{told_states}
use Rattle.ux_net.specs.Words.{Sign, Step, Letter, piece, context, ordinary, opens, closes, mark_of, letters, put_by, Run, stop, along, across}
use Rattle.ux_boxes.specs.declared.place.Place.{Place}
use Rattle.ux_boxes.specs.Places.{places_of, place_graph, label_lines, is_reached, IsPlaceStep}
use Rattle.ux_net.proofs.RunLemmas.{run_joined, one_step}
use Rattle.ux_boxes.proofs.StepsLemmas.{step_inside}
use Rattle.ux_state_places.specs.Kinds.{kind_of}
use Rattle.ux_state_places.specs.Standing.{Stand, IsSameStep, IsToHub, hub_of, state_for}
use Rattle.ux_state_places.proofs.KindLemmas.{over, mark_kind}
use Rattle.ux_state_places.proofs.WordKinds.{AreKinds, no_letters, kept, kinds_append, kinds_pieces, kinds_label}

-- labels that are one label do to contexts what their kinds do
pub line_mark : (line : List Label) (x : Label) → line ≡ x ∷ [] →
    mark_of (map kind_of line) ≡ mark_of line
line_mark line x e =
    ap (λ (l : List Label). mark_of (map kind_of l)) e ∙ (mark_kind x ∙ ap mark_of (sym e))

-- and have the letters of their kinds
pub line_kinds : (line : List Label) (x : Label) → line ≡ x ∷ [] → mark_of line ≡ ordinary →
    AreKinds (letters line) (letters (map kind_of line))
line_kinds line x e m =
    subst (λ (l : List Label). AreKinds (letters l) (letters (map kind_of l))) (sym e)
    (kinds_label x (ap mark_of (sym e) ∙ m))

module _ (graphs : List StateGraph) (places : List (List Place)) (stands hubs : List (List ℕ))
    (stand : Stand graphs places stands hubs) (g : ℕ) where
  abbrev pub hub : ℕ → ℕ
  hub n = hub_of graphs places stands hubs g n

  abbrev pub state : ℕ → ℕ
  state p = state_for graphs places stands hubs g p

  abbrev pub Same : Step → Step → Type 0
  Same s t = IsSameStep graphs places stands hubs g s t

  abbrev pub ToHub : Step → Type 0
  ToHub s = IsToHub graphs places stands hubs g s

  abbrev pub PlaceRun : ℕ → ℕ → List Letter → Type 0
  PlaceRun p q word = Run g (place_graph (places_of places g)) p q word

  abbrev pub StateRun : ℕ → ℕ → List Letter → Type 0
  StateRun a b word = Run g (net_graph (told_states graphs g)) a b word

  -- a state to whose hub a run leads
  pub record IsMetState (n : ℕ) : Type 0 where
    pub inside : n < length (told_states graphs g)
    pub reached : is_reached (places_of places g) (hub n) ≡ true

  -- a place to which a run leads
  pub record IsMetPlace (p : ℕ) : Type 0 where
    pub inside : p < length (places_of places g)
    pub other : p ≢ 1
    pub reached : is_reached (places_of places g) p ≡ true

  -- the end has no line
  pub not_end : (p : ℕ) (line : List Label) → Contains (label_lines (places_of places g) p) line →
      p ≢ 1
  not_end p line h e = nothing_in {x = line}
      (subst (λ (l : List (List Label)). Contains l line) (stand.bare g)
      (subst (λ n. Contains (label_lines (places_of places g) n) line) e h))

  -- where a run leads on from a place to which one leads, one leads to its end
  pub met_on : {p q : ℕ} {word : List Letter} → IsMetPlace p → PlaceRun p q word →
      q < length (places_of places g) → q ≢ 1 → IsMetPlace q
  met_on {q = q} m r inside other =
      let from = (stand.met g _ m.inside m.other).0 m.reached in
      record {
        inside = inside;
        other = other;
        reached = (stand.met g q inside other).1 (record {
          first = from.first;
          unit = from.unit;
          word = from.word ++ _;
          run = run_joined g (place_graph (places_of places g)) from.run r;
        });
      }

  pub hub_place : {n : ℕ} → IsMetState n → IsMetPlace (hub n)
  hub_place {n = n} m =
      let h = stand.hub g n m.inside in
      record { inside = h.0; other = h.1; reached = m.reached }

  -- nothing is put out along a step
  pub put_nothing : (s : Step) → IsPlaceStep (places_of places g) s → put_by s ≡ []
  put_nothing s i = ap (λ (l : List Piece). map piece l) (i.puts ∙ stand.quiet g s.to)

  -- a step to a hub takes nothing
  pub hub_run : (s : Step) → ToHub s → PlaceRun s.from (hub (state s.from)) []
  hub_run s t =
      let graph = place_graph (places_of places g) in
      let word : put_by s ++ letters s.labels ≡ [] =
      ap (λ (w : List Letter). w ++ letters s.labels) (put_nothing s t.of_places)
      ∙ ap letters t.silent in
      subst (λ n. PlaceRun s.from n []) t.to
      (subst (λ w. PlaceRun s.from s.to w) word
      (one_step g graph s t.of_places (ap mark_of t.silent)))

  -- a place to which a run leads goes on to its hub
  pub arrives : (p : ℕ) → IsMetPlace p → PlaceRun p (hub (state p)) []
  arrives p m = elim (stand.enters g p m.other m.reached) [
    | inl e ↦ subst (λ n. PlaceRun p n []) e stop
    | inr (s, t, e) ↦ subst (λ n. PlaceRun n (hub (state n)) []) e (hub_run s t)
  ]

  -- so a run leads to its state
  pub met_state : (p : ℕ) → IsMetPlace p → IsMetState (state p)
  met_state p m =
      let inside = stand.inside g p m.inside in
      let h = stand.hub g (state p) inside in
      record {
        inside = inside;
        reached = (met_on m (arrives p m) h.0 h.1).reached;
      }

  pub from_inside : (t : Step) → IsNetStep (told_states graphs g) t →
      t.from < length (told_states graphs g)
  from_inside t i = slice_get_within (told_states graphs g) t.from i.state i.found

  -- the two steps do the same to contexts
  pub same_mark : (s t : Step) → Same s t → mark_of s.labels ≡ mark_of t.labels
  same_mark s t same = ap mark_of same.kind ∙ line_mark t.labels _ same.of_states.label

  -- the target of a step of the places is one, and not the end
  pub target_place : (s : Step) → IsPlaceStep (places_of places g) s →
      (s.to < length (places_of places g)) × (s.to ≢ 1)
  target_place s i = ((step_inside (places_of places g) s i).1, not_end s.to s.labels i.line)

  -- a step of the states to which a run leads, as a step of the places
  pub lifted : (t : Step) → IsNetStep (told_states graphs g) t → IsMetState t.from →
      (s : Step) × Same s t
  lifted t i m = stand.lifts g t i (inr m.reached)

  -- an ordinary step from the hub of a state to that of another
  pub record Hop (t : Step) : Type 0 where
    pub run : PlaceRun (hub t.from) (hub t.to) (letters (map kind_of t.labels))
    pub met : IsMetState t.to

  pub hop : (t : Step) → IsNetStep (told_states graphs g) t → mark_of t.labels ≡ ordinary →
      IsMetState t.from → Hop t
  hop t i m met =
      let graph = place_graph (places_of places g) in
      let l = lifted t i met in
      let s = l.0 in
      let same = l.1 in
      let to = target_place s same.of_places in
      let word : put_by s ++ letters s.labels ≡ letters (map kind_of t.labels) =
      ap (λ (w : List Letter). w ++ letters s.labels) (put_nothing s same.of_places)
      ∙ ap letters same.kind in
      let first : PlaceRun (hub t.from) s.to (letters (map kind_of t.labels)) =
      subst (λ n. PlaceRun n s.to (letters (map kind_of t.labels))) same.from
      (subst (λ w. PlaceRun s.from s.to w) word
      (one_step g graph s same.of_places (same_mark s t same ∙ m))) in
      let there = met_on (hub_place met) first to.0 to.1 in
      let second = arrives s.to there in
      let state_met = met_state s.to there in
      record {
        run = subst (λ n. PlaceRun (hub t.from) (hub n) (letters (map kind_of t.labels))) same.to
            (subst (λ w. PlaceRun (hub t.from) (hub (state s.to)) w)
            (append-nil (letters (map kind_of t.labels))) (run_joined g graph first second));
        met = subst IsMetState same.to state_met;
      }

  -- a run of the states as one of the places
  pub record Lifted (a b : ℕ) (v : List Letter) : Type 0 where
    pub word : List Letter
    pub kinds : AreKinds v word
    pub run : PlaceRun (hub a) (hub b) word
    pub met : IsMetState b

  -- the step that opens a context, and the place into which it does
  pub record Opened (t : Step) : Type 0 where
    pub step : Step
    pub same : Same step t
    pub place : IsMetPlace step.to
    pub enters : PlaceRun step.to (hub t.to) []
    pub met : IsMetState t.to

  pub opened_place : (t : Step) (sign : Sign) → IsNetStep (told_states graphs g) t →
      mark_of t.labels ≡ opens sign → Opened t
  opened_place t sign i m =
      let l = stand.lifts g t i (inl (sign, m)) in
      let s = l.0 in
      let same = l.1 in
      let to = target_place s same.of_places in
      let there : IsMetPlace s.to = record {
        inside = to.0;
        other = to.1;
        reached = (stand.met g s.to to.0 to.1).1 (record {
          first = s.to;
          unit = inr (
            sign,
            record {
              step = s;
              of_graph = same.of_places;
              to = refl;
              opens = same_mark s t same ∙ m;
            },
          );
          word = [];
          run = stop;
        });
      } in
      record {
        step = s;
        same = same;
        place = there;
        enters = subst (λ n. PlaceRun s.to (hub n) []) same.to (arrives s.to there);
        met = subst IsMetState same.to (met_state s.to there);
      }

  -- a run across a context, from the hub of a state to the place into which the context is closed
  pub record Across (sign : Sign) (s t : Step) (body : List Letter) : Type 0 where
    pub opening : ℕ
    pub closing : ℕ
    pub run : PlaceRun (hub s.from) (hub t.to) (context sign g opening closing ∷ [])
    pub met : IsMetState t.to

  crossed : (sign : Sign) (s t : Step) → IsNetStep (told_states graphs g) s →
      mark_of s.labels ≡ opens sign → IsNetStep (told_states graphs g) t →
      mark_of t.labels ≡ closes → IsMetState s.from → (body : List Letter) →
      (inner : Lifted s.to t.from body) → Across sign s t body
  crossed sign s t i m j n met body inner =
      let graph = place_graph (places_of places g) in
      let o = opened_place s sign i m in
      let l = lifted t j inner.met in
      let u = l.0 in
      let same = l.1 in
      let inside : PlaceRun o.step.to u.from inner.word =
      subst (λ n. PlaceRun o.step.to n inner.word) (sym same.from)
      (run_joined g graph o.enters inner.run) in
      let over_it : PlaceRun o.step.from u.to (put_by o.step ++ context sign g o.step.to u.to ∷ []) =
      across sign o.step u o.same.of_places (same_mark o.step s o.same ∙ m) inside same.of_places
      (same_mark u t same ∙ n) stop in
      let from_hub : PlaceRun (hub s.from) u.to (put_by o.step ++ context sign g o.step.to u.to ∷ []) =
      subst (λ p. PlaceRun p u.to (put_by o.step ++ context sign g o.step.to u.to ∷ [])) o.same.from
      over_it in
      let to = target_place u same.of_places in
      let there = met_on (hub_place met) from_hub to.0 to.1 in
      let puts : put_by o.step ++ context sign g o.step.to u.to ∷ []
      ≡ context sign g o.step.to u.to ∷ [] =
      ap (λ (w : List Letter). w ++ context sign g o.step.to u.to ∷ [])
      (put_nothing o.step o.same.of_places) in
      record {
        opening = o.step.to;
        closing = u.to;
        run = subst (λ n. PlaceRun (hub s.from) (hub n) (context sign g o.step.to u.to ∷ [])) same.to
            (run_joined g graph (subst (λ w. PlaceRun (hub s.from) u.to w) puts from_hub)
            (arrives u.to there));
        met = subst IsMetState same.to (met_state u.to there);
      }

  -- a run from a state to which one leads is a run of the places between the hubs
  pub run_lifts : {a b : ℕ} {v : List Letter} → StateRun a b v → IsMetState a → Lifted a b v
  run_lifts stop met = record { word = []; kinds = no_letters; run = stop; met = met }
  run_lifts (along {word = v} s i m r) met =
      let h = hop s i m met in
      let later = run_lifts r h.met in
      record {
        word = letters (map kind_of s.labels) ++ later.word;
        kinds = kinds_append (kinds_append (kinds_pieces s.output)
            (line_kinds s.labels _ i.label m)) later.kinds;
        run = run_joined g (place_graph (places_of places g)) h.run later.run;
        met = later.met;
      }
  run_lifts (across {body = body} {word = v} sign s t i m inner j n r) met =
      let inside = run_lifts inner (opened_place s sign i m).met in
      let x = crossed sign s t i m j n met body inside in
      let later = run_lifts r x.met in
      record {
        word = context sign g x.opening x.closing ∷ later.word;
        kinds = kinds_append (kinds_pieces s.output) (kept over later.kinds);
        run = run_joined g (place_graph (places_of places g)) x.run later.run;
        met = later.met;
      }
