-- The walks of a search are the whole words of a net whose edges read, call or do nothing: each word
-- is walked, and each walk that returns from all frames is a word.
use Rattle.std.proofs.Common.{◌≡◌, ℕ, List, [], ◌∷◌, ◌++◌, refl, sym, ◌∙◌, ap, subst, append_assoc, append-nil, map, inl, inr, Bool, true, false, Some, None}
use Rattle.std.specs.Prelude.{Contains, Option, slice_get}
use Rattle.std.proofs.lemmas.List.Elements.{Contains-append_left, Contains-append_right, Contains-append_cases}
use Rattle.ux_base.proofs.JoinedLists.{joined_append, contains_mapped, contained_mapped}
use Rattle.ux_base.proofs.Lists.{contains_first, first_or_later, nothing_in}
use Rattle.ux_net.specs.declared.label.Label.{Label}
use Rattle.ux_net.specs.declared.label.Label.TheVariants as label
use Rattle.ux_net.specs.declared.net_graph.NetGraph.{NetGraph}
use Rattle.ux_net.specs.declared.state.Edge.{Edge}
use Rattle.ux_net.specs.declared.state.State.{State}
use Rattle.ux_net.specs.Nets.{states_of, net_grammar, IsNetStep, IsNetEnd}
use Rattle.ux_grf.specs.declared.item.Piece.{Piece}
use Rattle.ux_net.specs.Words.{Letter, piece, Step, ordinary, mark_of, letters, put_by, letter_of}
use Rattle.ux_inflect.specs.declared.config.Frame.{Frame}
use Rattle.ux_inflect.specs.declared.stroke.Detail.{Detail}
use Rattle.ux_inflect.specs.Places.{Place, next, along_edge, returning, from_state, from_frames, entered, text_of}
use Rattle.ux_inflect.specs.Searches.{Walk, here, step}
use Rattle.ux_inflect.specs.Whole.{IsReading, IsWholeFrom, ends, along, called, input_by, input_of}
use Rattle.ux_inflect.specs.Refusing.{IsBadLabel}
use Rattle.ux_inflect.proofs.PlacesLemmas.{after, after_both, after_none, word_by, label_word, edge_reads, edge_after}

abbrev pub frame_of : (g s : ℕ) → Frame
frame_of g s = record { graph = g; state = s }

module _ (detail : Detail) (net : List NetGraph) where
  -- each edge that a search follows reads, calls or does nothing
  abbrev pub AreGood : Type 0
  AreGood = (g n : ℕ) (state : State) (edge : Edge) → slice_get (states_of net g) n ≡ Some state →
      Contains state.edges edge → IsBadLabel edge.label → ⊥

  -- a step along an edge is among the next ones
  pub next_along : (g s : ℕ) (below : List Frame) (p : Place) → p.frames ≡ frame_of g s ∷ below →
      (state : State) → slice_get (states_of net g) s ≡ Some state → (edge : Edge) →
      Contains state.edges edge → Contains (next detail net p) (along_edge detail g below p edge)
  next_along g s below p at state found edge inside =
      subst (λ (frames : List Frame). Contains (from_frames detail net p frames)
      (along_edge detail g below p edge)) (sym at)
      (subst (λ (o : Option State). Contains (from_state detail g below p o)
      (along_edge detail g below p edge)) (sym found)
      (Contains-append_right (returning below p state.is_final)
      (map (along_edge detail g below p) state.edges) (along_edge detail g below p edge)
      (contains_mapped (along_edge detail g below p) state.edges edge inside)))

  -- and so is the one back from a final state
  pub next_back : (g s : ℕ) (below : List Frame) (p : Place) → p.frames ≡ frame_of g s ∷ below →
      IsNetEnd (states_of net g) s → Contains (next detail net p) ([], record p { frames = below })
  next_back g s below p at end =
      subst (λ (frames : List Frame). Contains (from_frames detail net p frames)
      ([], record p { frames = below })) (sym at)
      (subst (λ (o : Option State). Contains (from_state detail g below p o)
      ([], record p { frames = below })) (sym end.found)
      (Contains-append_left (returning below p end.state.is_final)
      (map (along_edge detail g below p) end.state.edges) ([], record p { frames = below })
      (subst (λ (b : Bool). Contains (returning below p b) ([], record p { frames = below }))
      (sym end.final) (contains_first ([], record p { frames = below }) []))))

  -- walks from the same place with the same text
  along_texts : {p q : Place} {u v : List ℕ} → u ≡ v → Walk detail net p u q → Walk detail net p v q
  along_texts {p = p} {q = q} e w = subst (λ (u : List ℕ). Walk detail net p u q) e w

  from_places : {p r q : Place} {u : List ℕ} → p ≡ r → Walk detail net p u q → Walk detail net r u q
  from_places {q = q} {u = u} e w = subst (λ (p : Place). Walk detail net p u q) e w

  input_both : (u v : List Letter) (text : List ℕ) →
      input_of u ++ (input_of v ++ text) ≡ input_of (u ++ v) ++ text
  input_both u v text = sym (append_assoc (input_of u) (input_of v) text)
      ∙ ap (λ i. i ++ text) (sym (joined_append input_by u v))

  -- a step along an edge, and then a walk
  step_along : (g s : ℕ) (below : List Frame) (p : Place) → p.frames ≡ frame_of g s ∷ below →
      (state : State) → slice_get (states_of net g) s ≡ Some state → (edge : Edge) →
      Contains state.edges edge → (text : List ℕ) (q : Place) →
      Walk detail net (after detail (entered edge.label g edge.target below) p (word_by edge)) text q →
      Walk detail net p (input_of (word_by edge) ++ text) q
  step_along g s below p at state found edge inside text q walk =
      along_texts (ap (λ i. i ++ text) (sym (edge_reads edge)))
      (step (next_along g s below p at state found edge inside)
      (from_places (sym (edge_after detail g below p edge)) walk))

  -- a label that is lacks call
  abbrev pub IsNoCall : Label → Type 0
  IsNoCall x = (h : ℕ) → x ≡ label.Call h → ⊥

  label_is_letter : (x : Label) → IsNoCall x → label_word x ≡ letter_of x
  label_is_letter label.Empty lacks = refl
  label_is_letter (label.CaseFolded text) lacks = refl
  label_is_letter (label.CaseExact text) lacks = refl
  label_is_letter (label.Mask mask) lacks = refl
  label_is_letter (label.Brace text) lacks = refl
  label_is_letter label.Space lacks = refl
  label_is_letter label.NoSpace lacks = refl
  label_is_letter (label.Begin name) lacks = refl
  label_is_letter (label.End name) lacks = refl
  label_is_letter label.Positive lacks = refl
  label_is_letter label.Negative lacks = refl
  label_is_letter label.ContextEnd lacks = refl
  label_is_letter label.Cut lacks = refl
  label_is_letter (label.Call h) lacks = absurd (lacks h refl)

  entered_plain : (x : Label) (g t : ℕ) (below : List Frame) → IsNoCall x →
      entered x g t below ≡ frame_of g t ∷ below
  entered_plain label.Empty g t below lacks = refl
  entered_plain (label.CaseFolded text) g t below lacks = refl
  entered_plain (label.CaseExact text) g t below lacks = refl
  entered_plain (label.Mask mask) g t below lacks = refl
  entered_plain (label.Brace text) g t below lacks = refl
  entered_plain label.Space g t below lacks = refl
  entered_plain label.NoSpace g t below lacks = refl
  entered_plain (label.Begin name) g t below lacks = refl
  entered_plain (label.End name) g t below lacks = refl
  entered_plain label.Positive g t below lacks = refl
  entered_plain label.Negative g t below lacks = refl
  entered_plain label.ContextEnd g t below lacks = refl
  entered_plain label.Cut g t below lacks = refl
  entered_plain (label.Call h) g t below lacks = absurd (lacks h refl)

  -- the letters along a step that reads are those of its edge
  reading_word : (s : Step) (edge : Edge) → IsReading s → s.labels ≡ edge.label ∷ [] →
      s.output ≡ edge.output → (put_by s ++ letters s.labels) ≡ word_by edge
  reading_word s edge reads labels output =
      ap (λ (o : List Piece). map piece o ++ letters s.labels) output
      ∙ ap (λ (l : List Letter). map piece edge.output ++ l) (ap letters labels
      ∙ (append-nil (letter_of edge.label)
      ∙ sym (label_is_letter edge.label
      (λ h e. reads.no_call h (labels ∙ ap (λ (y : Label). y ∷ []) e)))))

  -- and along a step that calls its output alone
  calling_word : (s : Step) (edge : Edge) (h : ℕ) → edge.label ≡ label.Call h →
      s.output ≡ edge.output → put_by s ≡ word_by edge
  calling_word s edge h is output =
      ap (λ (o : List Piece). map piece o) output
      ∙ (sym (append-nil (map piece edge.output))
      ∙ ap (λ (x : Label). map piece edge.output ++ label_word x) (sym is))

  -- a whole word from the innermost frame, and then a walk from what it leaves
  pub walked : {g s : ℕ} {w : List Letter} → IsWholeFrom (net_grammar net) g s w →
      (below : List Frame) (p : Place) → p.frames ≡ frame_of g s ∷ below →
      (text : List ℕ) (q : Place) → Walk detail net (after detail below p w) text q →
      Walk detail net p (input_of w ++ text) q
  walked (ends {g = g} {a = a} end) below p at text q walk =
      step (next_back g a below p at end) (from_places (after_none detail below p) walk)
  walked (along {g = g} {rest = rest} s is reads tail) below p at text q walk =
      let edge = is.edge in
      let lacks : IsNoCall edge.label =
      λ h e. reads.no_call h (is.label ∙ ap (λ (y : Label). y ∷ []) e) in
      let frames = entered edge.label g edge.target below in
      let behind = after detail frames p (word_by edge) in
      let there : frames ≡ frame_of g s.to ∷ below =
      entered_plain edge.label g edge.target below lacks
      ∙ ap (λ t. frame_of g t ∷ below) (sym is.to) in
      let same : ((put_by s ++ letters s.labels) ++ rest) ≡ (word_by edge ++ rest) =
      ap (λ (u : List Letter). u ++ rest) (reading_word s edge reads is.label is.puts) in
      let last : Walk detail net (after detail below behind rest) text q = from_places
      (ap (λ (u : List Letter). after detail below p u) same
      ∙ sym (after_both detail frames below p (word_by edge) rest)) walk in
      along_texts (input_both (word_by edge) rest text
      ∙ ap (λ (u : List Letter). input_of u ++ text) (sym same))
      (step_along g s.from below p at is.state is.found edge is.inside (input_of rest ++ text) q
      (walked tail below behind there text q last))
  walked (called {g = g} {h = h} {inner = inner} {rest = rest} s is calls first tail) below p at text q walk =
      let edge = is.edge in
      let call : edge.label ≡ label.Call h = cc (is.label, calls) in
      let frames = entered edge.label g edge.target below in
      let behind = after detail frames p (word_by edge) in
      let outer = frame_of g s.to ∷ below in
      let there : frames ≡ frame_of h 0 ∷ outer =
      ap (λ (x : Label). entered x g edge.target below) call
      ∙ ap (λ t. frame_of h 0 ∷ frame_of g t ∷ below) (sym is.to) in
      let same : (put_by s ++ (inner ++ rest)) ≡ (word_by edge ++ (inner ++ rest)) =
      ap (λ (u : List Letter). u ++ (inner ++ rest)) (calling_word s edge h call is.puts) in
      let last : Walk detail net (after detail below (after detail outer behind inner) rest) text q =
      from_places (ap (λ (u : List Letter). after detail below p u) same
      ∙ (sym (after_both detail frames below p (word_by edge) (inner ++ rest))
      ∙ sym (after_both detail outer below behind inner rest))) walk in
      along_texts (ap (λ (u : List ℕ). input_of (word_by edge) ++ u) (input_both inner rest text)
      ∙ (input_both (word_by edge) (inner ++ rest) text
      ∙ ap (λ (u : List Letter). input_of u ++ text) (sym same)))
      (step_along g s.from below p at is.state is.found edge is.inside
      (input_of inner ++ (input_of rest ++ text)) q
      (walked first outer behind there (input_of rest ++ text) q
      (walked tail below (after detail outer behind inner) refl text q last)))

  -- whole words from all frames, the innermost first
  abbrev pub Rests : List Frame → List Letter → Type 0
  Rests [] w = w ≡ []
  Rests (frame ∷ below) w = (x : List Letter) × (y : List Letter) × (w ≡ x ++ y)
      × IsWholeFrom (net_grammar net) frame.graph frame.state x × Rests below y

  -- a word from these frames that reads the text and leaves the place
  pub record Worded (frames : List Frame) (p : Place) (text : List ℕ) (q : Place) : Type 0 where
    pub word : List Letter
    pub rests : Rests frames word
    pub reads : text ≡ input_of word
    pub place : q ≡ after detail [] p word

  -- the first of some labels
  abbrev head : Label → List Label → Label
  head x [] = x
  head x (y ∷ ys) = y

  abbrev pub step_of_edge : (s : ℕ) → Edge → Step
  step_of_edge s edge = record {
    from = s;
    to = edge.target;
    output = edge.output;
    labels = edge.label ∷ [];
  }

  edge_step : (g s : ℕ) (state : State) → slice_get (states_of net g) s ≡ Some state →
      (edge : Edge) → Contains state.edges edge → IsNetStep (states_of net g) (step_of_edge s edge)
  edge_step g s state found edge inside = record {
    state = state;
    found = found;
    edge = edge;
    inside = inside;
    to = refl;
    label = refl;
    puts = refl;
  }

  -- the word behind an edge that reads, with that of the edge before it
  plain_rests : (g s : ℕ) (below : List Frame) (state : State) →
      slice_get (states_of net g) s ≡ Some state → (edge : Edge) → Contains state.edges edge →
      (w : List Letter) → Rests (entered edge.label g edge.target below) w → IsNoCall edge.label →
      mark_of (edge.label ∷ []) ≡ ordinary → Rests (frame_of g s ∷ below) (word_by edge ++ w)
  plain_rests g s below state found edge inside w rests none mark =
      let it = step_of_edge s edge in
      let first = put_by it ++ letters it.labels in
      let reads : IsReading it = record {
        ordinary = mark;
        no_call = λ h e. none h (ap (λ (l : List Label). head edge.label l) e);
      } in
      let r : Rests (frame_of g edge.target ∷ below) w =
      subst (λ (frames : List Frame). Rests frames w)
      (entered_plain edge.label g edge.target below none) rests in (
        first ++ r.0,
        r.1,
        ap (λ (u : List Letter). u ++ w) (sym (reading_word it edge reads refl refl))
            ∙ (ap (λ (u : List Letter). first ++ u) r.2 ∙ sym (append_assoc first r.0 r.1)),
        along it (edge_step g s state found edge inside) reads r.3,
        r.4,
      )

  -- the same of an edge that calls
  call_rests : (g s : ℕ) (below : List Frame) (state : State) →
      slice_get (states_of net g) s ≡ Some state → (edge : Edge) → Contains state.edges edge →
      (w : List Letter) → Rests (entered edge.label g edge.target below) w → (h : ℕ) →
      edge.label ≡ label.Call h → Rests (frame_of g s ∷ below) (word_by edge ++ w)
  call_rests g s below state found edge inside w rests h call =
      let it = step_of_edge s edge in
      let put = put_by it in
      let r : Rests (frame_of h 0 ∷ frame_of g edge.target ∷ below) w =
      subst (λ (x : Label). Rests (entered x g edge.target below) w) call rests in
      let t = r.4 in (
        put ++ (r.0 ++ t.0),
        t.1,
        ap (λ (u : List Letter). u ++ w) (sym (calling_word it edge h call refl))
            ∙ (ap (λ (u : List Letter). put ++ u) (r.2 ∙ (ap (λ (u : List Letter). r.0 ++ u) t.2
            ∙ sym (append_assoc r.0 t.0 t.1)))
            ∙ sym (append_assoc put (r.0 ++ t.0) t.1)),
        called it (edge_step g s state found edge inside) (ap (λ (x : Label). x ∷ []) call) r.3 t.3,
        t.4,
      )

  -- the word behind an edge, with that of the edge before it
  edge_rests : AreGood → (g s : ℕ) (below : List Frame) (state : State) →
      slice_get (states_of net g) s ≡ Some state → (edge : Edge) → Contains state.edges edge →
      (w : List Letter) → Rests (entered edge.label g edge.target below) w →
      Rests (frame_of g s ∷ below) (word_by edge ++ w)
  edge_rests good g s below state found edge inside w rests =
      by edge.label refl (good g s state edge found inside)
    where
      reads : IsNoCall edge.label → mark_of (edge.label ∷ []) ≡ ordinary →
          Rests (frame_of g s ∷ below) (word_by edge ++ w)
      reads none mark = plain_rests g s below state found edge inside w rests none mark

      by : (x : Label) → edge.label ≡ x → (IsBadLabel edge.label → ⊥) →
          Rests (frame_of g s ∷ below) (word_by edge ++ w)
      by label.Empty e good = reads (λ h f. cc) (ap (λ (x : Label). mark_of (x ∷ [])) e)
      by (label.CaseFolded text) e good =
          reads (λ h f. cc) (ap (λ (x : Label). mark_of (x ∷ [])) e)
      by (label.CaseExact text) e good =
          reads (λ h f. cc) (ap (λ (x : Label). mark_of (x ∷ [])) e)
      by (label.Call h) e good = call_rests g s below state found edge inside w rests h e
      by (label.Mask mask) e good = absurd (good (subst IsBadLabel (sym e) tt))
      by (label.Brace text) e good = absurd (good (subst IsBadLabel (sym e) tt))
      by label.Space e good = absurd (good (subst IsBadLabel (sym e) tt))
      by label.NoSpace e good = absurd (good (subst IsBadLabel (sym e) tt))
      by (label.Begin name) e good = absurd (good (subst IsBadLabel (sym e) tt))
      by (label.End name) e good = absurd (good (subst IsBadLabel (sym e) tt))
      by label.Positive e good = absurd (good (subst IsBadLabel (sym e) tt))
      by label.Negative e good = absurd (good (subst IsBadLabel (sym e) tt))
      by label.ContextEnd e good = absurd (good (subst IsBadLabel (sym e) tt))
      by label.Cut e good = absurd (good (subst IsBadLabel (sym e) tt))

  -- the word of a walk behind a step back
  back_worded : (g s : ℕ) (below : List Frame) (p : Place) (state : State) →
      slice_get (states_of net g) s ≡ Some state → (text : List ℕ) (q : Place) →
      Contains (returning below p state.is_final) (text, q) → (rest : List ℕ) (r : Place) →
      ((frames : List Frame) → q.frames ≡ frames → Worded frames q rest r) →
      Worded (frame_of g s ∷ below) p (text ++ rest) r
  back_worded g s below p state found text q c rest r more = by state.is_final refl c
    where
      by : (b : Bool) → state.is_final ≡ b → Contains (returning below p b) (text, q) →
          Worded (frame_of g s ∷ below) p (text ++ rest) r
      by false e c = absurd (nothing_in c)
      by true e c = elim (first_or_later ([], record p { frames = below }) [] (text, q) c) [
        | inl same ↦
            let t : text ≡ [] = sym (ap (λ (x : List ℕ × Place). x.0) same) in
            let at : q ≡ record p { frames = below } = sym (ap (λ (x : List ℕ × Place). x.1) same) in
            let w = more below (ap (λ (x : Place). x.frames) at) in
            record {
              word = w.word;
              rests = (
                [],
                w.word,
                refl,
                ends (record { state = state; found = found; final = e }),
                w.rests,
              );
              reads = ap (λ (u : List ℕ). u ++ rest) t ∙ w.reads;
              place = w.place ∙ ap (λ (x : Place). after detail [] x w.word) at;
            }
        | inr l ↦ absurd (nothing_in l)
      ]

  -- the word of a walk behind a step along an edge
  edge_worded : AreGood → (g s : ℕ) (below : List Frame) (p : Place) (state : State) →
      slice_get (states_of net g) s ≡ Some state → (text : List ℕ) (q : Place) →
      Contains (map (along_edge detail g below p) state.edges) (text, q) →
      (rest : List ℕ) (r : Place) →
      ((frames : List Frame) → q.frames ≡ frames → Worded frames q rest r) →
      Worded (frame_of g s ∷ below) p (text ++ rest) r
  edge_worded good g s below p state found text q c rest r more =
      let m = contained_mapped (along_edge detail g below p) state.edges (text, q) c in
      let edge = m.0 in
      let t : text ≡ text_of edge.label = sym (ap (λ (x : List ℕ × Place). x.0) m.2) in
      let at : q ≡ (along_edge detail g below p edge).1 =
      sym (ap (λ (x : List ℕ × Place). x.1) m.2) in
      let w = more (entered edge.label g edge.target below) (ap (λ (x : Place). x.frames) at) in
      record {
        word = word_by edge ++ w.word;
        rests = edge_rests good g s below state found edge m.1 w.word w.rests;
        reads = ap (λ (u : List ℕ). u ++ rest) (t ∙ sym (edge_reads edge))
            ∙ (ap (λ (u : List ℕ). input_of (word_by edge) ++ u) w.reads
            ∙ sym (joined_append input_by (word_by edge) w.word));
        place = w.place ∙ (ap (λ (x : Place). after detail [] x w.word)
            (at ∙ edge_after detail g below p edge)
            ∙ after_both detail (entered edge.label g edge.target below) [] p (word_by edge) w.word);
      }

  -- the word of a walk that begins with a step
  step_worded : AreGood → (p q r : Place) (text rest : List ℕ) →
      ((f : List Frame) → q.frames ≡ f → Worded f q rest r) → (frames : List Frame) →
      Contains (from_frames detail net p frames) (text, q) → Worded frames p (text ++ rest) r
  step_worded good p q r text rest more [] c = absurd (nothing_in c)
  step_worded good p q r text rest more (frame ∷ below) c =
      in_state (slice_get (states_of net frame.graph) frame.state) refl c
    where
      in_state : (o : Option State) → slice_get (states_of net frame.graph) frame.state ≡ o →
          Contains (from_state detail frame.graph below p o) (text, q) →
          Worded (frame_of frame.graph frame.state ∷ below) p (text ++ rest) r
      in_state None found c = absurd (nothing_in c)
      in_state (Some state) found c = elim (Contains-append_cases
          (returning below p state.is_final)
          (map (along_edge detail frame.graph below p) state.edges) (text, q) c) [
            | inl back ↦ back_worded frame.graph frame.state below p state found text q back rest r more
            | inr edge ↦
                edge_worded good frame.graph frame.state below p state found text q edge rest r more
          ]

  -- a walk that returns from all frames is a word
  pub worded : AreGood → {p q : Place} {text : List ℕ} → Walk detail net p text q → q.frames ≡ [] →
      (frames : List Frame) → p.frames ≡ frames → Worded frames p text q
  worded good (here {p = p}) none frames at = record {
    word = [];
    rests = subst (λ (f : List Frame). Rests f []) (sym none ∙ at) refl;
    reads = refl;
    place = ap (λ (f : List Frame). record p { frames = f }) none ∙ sym (after_none detail [] p);
  }
  worded good (step {p = p} {q = q} {r = r} {text = text} {rest = rest} c walk) none frames at =
      step_worded good p q r text rest (λ f there. worded good walk none f there) frames
      (subst (λ (f : List Frame). Contains (from_frames detail net p f) (text, q)) at c)
