-- The graph is made of the boxes of its file, each with the content that it writes.
use Rattle.std.proofs.Common.{arith, ◌≡◌, ℕ, ◌+◌, ◌<◌, List, [], ◌∷◌, ◌++◌, refl, sym, ◌∙◌, ap, subst, ◌↔◌, Bool, true, length, ltb}
use Rattle.std.specs.Prelude.{Contains}
use borrow.Author.Count.{below_more}
use Rattle.std.proofs.lemmas.List.{get_or_append_left, get_or_push}
use Rattle.std.proofs.lemmas.Bool.{ltb-true, lt-ltb}
use Rattle.ux_digraph.specs.Paths.{Reaches, here, step}
use Rattle.ux_digraph.specs.Rules.{is_marked_at}
use Rattle.ux_grf.specs.declared.graph.GraphKind.{GraphKind}
use Rattle.ux_grf.specs.declared.error.GrfError.{GrfError}
use Rattle.ux_grf.specs.declared.error.GrfError.TheVariants.{NoHeader, BadCount, BadBoxLine, BadTarget, BadContent, NoMemory}
use Rattle.ux_grf.specs.declared.graph.Graph.{Graph}
use Rattle.ux_grf.specs.declared.graph.GrfBox.{GrfBox}
use Rattle.ux_grf.specs.BoxLine.{BoxText}
use Rattle.ux_grf.specs.Boxes.{text_at}
use Rattle.ux_grf.specs.Reached.{row_of, Reached, start}
use Rattle.ux_grf.specs.Content.{content_of, is_read, IsBadAt, IsMade, RefusesRead}
use Rattle.ux_grf.specs.File.{ways_in, Draws, IsReadBox, RefusesTexts, box_in, AreMade, IsBadMarked, RefusesMarked}
use Rattle.ux_grf.proofs.NumbersLemmas.{and_left, and_right}

module _ (ways : List (List ℕ)) where
  -- one step more at the end of a path
  one_more : {u v w : ℕ} → Reaches ways u v → Contains (row_of ways v) w → Reaches ways u w
  one_more here c = step c here
  one_more (step d r) c = step d (one_more r c)

  goes_on : {u v : ℕ} → Reached ways u → Reaches ways u v → Reached ways v
  goes_on r here = r
  goes_on r (step c p) = goes_on (Reached.step r c) p

  -- what is reached is what paths from box 0 lead to
  pub Reached-Reaches : (v : ℕ) → Reached ways v ↔ Reaches ways 0 v
  Reached-Reaches v = (leads, λ p. goes_on start p)
    where
      leads : {u : ℕ} → Reached ways u → Reaches ways 0 u
      leads start = here
      leads (Reached.step r c) = one_more (leads r) c

-- one more box is made
pub made_more : {kind : GraphKind} (texts : List BoxText) (marks : List Bool) (boxes now : List GrfBox) (node : ℕ)
    (b : GrfBox) →
    length boxes ≡ node → AreMade kind texts marks boxes node →
    IsMade kind (text_at texts node) node (is_marked_at marks node) b → now ≡ boxes ++ b ∷ [] →
    AreMade kind texts marks now (node + 1)
made_more {kind} texts marks boxes now node b len made is put =
    subst (λ (bs : List GrfBox). AreMade kind texts marks bs (node + 1)) (sym put)
    (below_more (λ m. IsMade kind (text_at texts m) m (is_marked_at marks m) (box_in (boxes ++ b ∷ []) m))
    node
    (λ m lt. subst (IsMade kind (text_at texts m) m (is_marked_at marks m))
    (sym (get_or_append_left boxes (b ∷ []) _ m (omega (arith, lt, len)))) (made m lt))
    (subst (IsMade kind (text_at texts node) node (is_marked_at marks node))
    (sym (get_or_push boxes b _ node len)) is))

-- a box that can't be made is the first bad one
pub bad_marked : {kind : GraphKind} (texts : List BoxText) (marks : List Bool) (boxes : List GrfBox) (node : ℕ)
    (text : BoxText) (e : GrfError) →
    node < length texts → text ≡ text_at texts node → AreMade kind texts marks boxes node →
    RefusesRead kind text node (is_marked_at marks node) e → RefusesMarked kind texts marks e
bad_marked texts marks boxes node text NoHeader lt is made h = h
bad_marked texts marks boxes node text BadCount lt is made h = h
bad_marked texts marks boxes node text (BadBoxLine n) lt is made h = h
bad_marked texts marks boxes node text (BadTarget n) lt is made h = h
bad_marked {kind} texts marks boxes node text (BadContent n place) lt is made h =
    subst (λ m. IsBadMarked kind texts marks m place) (sym h.0)
    (record {
      inside = lt;
      read = h.1;
      bad = subst (λ t. IsBadAt kind (content_of t) place) is h.2;
      first = λ m less reads.
          let at = made m less in (
            record { lines = (box_in boxes m).lines; output = (box_in boxes m).output },
            at.box.read (subst (λ r. is_read m r ≡ true) (sym at.marked) reads),
          );
    })
bad_marked texts marks boxes node text NoMemory lt is made h = tt

module _ (texts : List BoxText) (marks : List Bool)
    (reached : (node : ℕ) → (is_marked_at marks node ≡ true) ↔ Reached (ways_in texts) node) where
  read_is : (node : ℕ) → node < length texts → is_read node (is_marked_at marks node) ≡ true →
      IsReadBox texts node
  read_is node lt is = record {
    inside = lt;
    reached = (reached node).0 (and_left (is_marked_at marks node) (ltb 1 node) is);
    inner = ltb-true 1 node (and_right (is_marked_at marks node) (ltb 1 node) is);
  }

  is_read_by : (node : ℕ) → IsReadBox texts node → is_read node (is_marked_at marks node) ≡ true
  is_read_by node box =
      let mark = (reached node).1 box.reached in
      let inner = lt-ltb 1 node box.inner in
      rw (mark, inner) refl

  -- what refuses the boxes refuses the graph
  pub marked_refuses : (kind : GraphKind) (e : GrfError) → RefusesMarked kind texts marks e → RefusesTexts kind texts e
  marked_refuses kind NoHeader h = h
  marked_refuses kind BadCount h = h
  marked_refuses kind (BadBoxLine n) h = h
  marked_refuses kind (BadTarget n) h = h
  marked_refuses kind (BadContent node place) h = record {
    box = read_is node h.inside h.read;
    bad = h.bad;
    first = λ m less box. h.first m less (is_read_by m box);
  }
  marked_refuses kind NoMemory h = tt

  -- the graph of the boxes that were made is the one drawn
  pub draws : {kind : GraphKind} (graph : Graph) (boxes : List GrfBox) (count : ℕ) → graph.boxes ≡ boxes →
      count ≡ length texts → length boxes ≡ count → AreMade kind texts marks boxes count →
      Draws kind texts graph
  draws {kind} graph boxes count is all len made =
      let at = subst (λ (bs : List GrfBox). AreMade kind texts marks bs (length texts)) (sym is)
      (subst (AreMade kind texts marks boxes) all made) in
      record {
        len = ap (λ (bs : List GrfBox). length bs) is ∙ (len ∙ all);
        reached = λ node lt. subst (λ m. (m ≡ true) ↔ Reached (ways_in texts) node)
            (sym (at node lt).marked) (reached node);
        boxes = λ node lt. (at node lt).box;
      }

-- the search marks the boxes that are reached
pub marks_reached : (ways rows : List (List ℕ)) (marks : List Bool) → ways ≡ rows →
    ((node : ℕ) → (is_marked_at marks node ≡ true) ↔ Reaches ways 0 node) →
    (same : List Bool) → same ≡ marks →
    (node : ℕ) → (is_marked_at same node ≡ true) ↔ Reached rows node
marks_reached ways rows marks is met same at node =
    let m = met node in
    let r = Reached-Reaches ways node in
    subst (λ (ms : List Bool). (is_marked_at ms node ≡ true) ↔ Reached rows node) (sym at)
    (subst (λ ws. (is_marked_at marks node ≡ true) ↔ Reached ws node) is
    ((λ e. r.1 (m.0 e)), (λ h. m.1 (r.0 h))))
