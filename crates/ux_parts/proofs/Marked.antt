-- Marks of edges tell of runs: a net whose marks hold along its edges is ordered, and has levels.
use Rattle.std.proofs.Common.{◌≡◌, ◌≤◌, ℕ, List, [], ◌∷◌, ◌++◌, sym, ap, subst, ◌∙◌, true}
use Rattle.std.specs.Prelude.{Contains, map}
use Rattle.ux_grf.specs.declared.item.Piece.{Piece}
use Rattle.ux_net.specs.declared.label.Label.{Label}
use Rattle.ux_net.specs.declared.label.Label.TheVariants as label
use Rattle.ux_net.specs.declared.net_graph.NetGraph.{NetGraph}
use Rattle.ux_net.specs.Words.{Sign, positive, negative, Letter, plain, piece, context, ordinary, opens, closes, mark_of, letters, Step, put_by, Grammar, Run, stop, along, across, IsBody}
use Rattle.ux_net.specs.Nets.{states_of, net_grammar, IsNetStep, IsNetEnd}
use Rattle.ux_net.specs.Levels.{LetterLevel, WordLevel, HasLevels}
use Rattle.ux_net.proofs.LabelLaws.{closing_label}
use Rattle.ux_meaning.specs.Inputs.{Input}
use Rattle.ux_meaning.proofs.Levels.{word_above}
use Rattle.ux_parts.specs.Ordered.{NeverRises, IsOrdered}
use Rattle.ux_net.specs.Nullable.{IsSilent, IsFree, none, silent, call, IsNullable}
use Rattle.ux_net.specs.Marked.{Marks, Keeps, Stands, HoldAlong, AreMarksOf}

-- an input that no label takes: levels speak of no input
abbrev nothing : Input
nothing = record { Takes = λ x p k. ⊥; IsSpaceAt = λ p. ⊥ }

module _ (net : List NetGraph) (top : ℕ) (marks : Marks) (are : AreMarksOf net top marks) where
  abbrev grammar : Grammar
  grammar = net_grammar net

  abbrev IsRun : (g a b : ℕ) → List Letter → Type 0
  IsRun g a b w = Run g (grammar.graph g) a b w

  abbrev At : (g a b : ℕ) → Label → Type 0
  At g a b x = HoldAlong marks g a b x

  abbrev HasLevel : (g a : ℕ) → List Letter → Type 0
  HasLevel g a w = WordLevel grammar marks.level (marks.level g a) w

  -- a step has the marks of its edge
  marks_of : (g : ℕ) (s : Step) → IsNetStep (states_of net g) s →
      (x : Label) × (s.labels ≡ x ∷ []) × At g s.from s.to x
  marks_of g s step = (
    step.edge.label,
    step.label,
    subst (λ b. At g s.from b step.edge.label) (sym step.to)
        (are.edges g s.from step.state step.edge step.found step.inside),
  )

  -- along an ordinary step closers, levels and free states are kept
  ordinary_keeps : (g a b : ℕ) (x : Label) → mark_of (x ∷ []) ≡ ordinary → At g a b x →
      Keeps marks g a b
  ordinary_keeps g a b label.Empty mark m = m.keeps
  ordinary_keeps g a b label.NoSpace mark m = m.keeps
  ordinary_keeps g a b (label.Begin name) mark m = m.keeps
  ordinary_keeps g a b (label.End name) mark m = m.keeps
  ordinary_keeps g a b label.Cut mark m = m.keeps
  ordinary_keeps g a b (label.Call h) mark m = m.0
  ordinary_keeps g a b label.Positive mark m = cc
  ordinary_keeps g a b label.Negative mark m = cc
  ordinary_keeps g a b label.ContextEnd mark m = cc
  ordinary_keeps g a b x mark m = m

  -- a step that opens a context has what stands over it
  jumps : (g a o : ℕ) (x : Label) (sign : Sign) → mark_of (x ∷ []) ≡ opens sign → At g a o x →
      (c : ℕ) → Contains (marks.closers g o) c → Stands marks g a c
  jumps g a o label.Positive sign mark m = m.2
  jumps g a o label.Negative sign mark m = m.2
  jumps g a o x sign mark m = cc

  -- a step that closes a context closes into its end
  closing : (g : ℕ) (t : Step) → IsNetStep (states_of net g) t → mark_of t.labels ≡ closes →
      Contains (marks.closers g t.from) t.to
  closing g t step mark =
      let m = marks_of g t step in
      subst (At g t.from t.to) (closing_label m.0 (ap mark_of (sym m.1) ∙ mark)) m.2

  -- what closes behind the end of a run is told at its beginning
  keeps_run : (g : ℕ) {a b : ℕ} {w : List Letter} → IsRun g a b w →
      (c : ℕ) → Contains (marks.closers g b) c → Contains (marks.closers g a) c
  keeps_run g stop c h = h
  keeps_run g (along s inside mark run) c h =
      let m = marks_of g s inside in
      (ordinary_keeps g s.from s.to m.0 (ap mark_of (sym m.1) ∙ mark) m.2).closers c
      (keeps_run g run c h)
  keeps_run g (across sign s t inside mark body tin tmark run) c h =
      let m = marks_of g s inside in
      let in_body = keeps_run g body t.to (closing g t tin tmark) in
      let behind = jumps g s.from s.to m.0 sign (ap mark_of (sym m.1) ∙ mark) m.2 t.to in_body in
      behind.keeps.closers c (keeps_run g run c h)

  -- where a body is closed is told at its first state
  pub body_closers : (g o c : ℕ) (w : List Letter) → IsBody g (grammar.graph g) o c w →
      Contains (marks.closers g o) c
  body_closers g o c w body =
      subst (λ p. Contains (marks.closers g o) p) body.after
      (keeps_run g body.run body.step.to (closing g body.step body.inside body.closed))

  -- levels
  level_append : (n : ℕ) (v w : List Letter) → WordLevel grammar marks.level n v →
      WordLevel grammar marks.level n w → WordLevel grammar marks.level n (v ++ w)
  level_append n [] w a b = b
  level_append n (x ∷ v) w a b = (a.0, level_append n v w a.1 b)

  -- an output is at each level
  level_put : (n : ℕ) (ps : List Piece) → WordLevel grammar marks.level n (map piece ps)
  level_put n [] = tt
  level_put n (p ∷ ps) = (tt, level_put n ps)

  -- the letters of an ordinary label are at the level of its state
  level_letters : (g a b : ℕ) (x : Label) → mark_of (x ∷ []) ≡ ordinary → At g a b x →
      HasLevel g a (letters (x ∷ []))
  level_letters g a b label.Empty mark m = tt
  level_letters g a b (label.Call h) mark m = (m.1, tt)
  level_letters g a b x mark m = (tt, tt)

  -- and so is a context
  level_context : (g a o c : ℕ) (x : Label) (sign : Sign) → mark_of (x ∷ []) ≡ opens sign →
      At g a o x → LetterLevel grammar marks.level (marks.level g a) (context sign g o c)
  level_context g a o c label.Positive positive mark m = m.0
  level_context g a o c label.Negative negative mark m = m.0
  level_context g a o c x sign mark m = cc

  -- a lower level's word has the higher level
  raised : (low high : ℕ) → low ≤ high → (w : List Letter) → WordLevel grammar marks.level low w →
      WordLevel grammar marks.level high w
  raised = word_above nothing grammar marks.level

  -- and so is the word of a run
  level_run : (g : ℕ) {a b : ℕ} {w : List Letter} → IsRun g a b w → HasLevel g a w
  level_run g stop = tt
  level_run g (along {word = v} s inside mark run) =
      let m = marks_of g s inside in
      let named = ap mark_of (sym m.1) ∙ mark in
      let n = marks.level g s.from in
      let here = subst (λ (l : List Label). WordLevel grammar marks.level n (letters l))
      (sym m.1) (level_letters g s.from s.to m.0 named m.2) in
      level_append n (put_by s ++ letters s.labels) v
      (level_append n (put_by s) (letters s.labels) (level_put n s.output) here)
      (raised (marks.level g s.to) n (ordinary_keeps g s.from s.to m.0 named m.2).level v
      (level_run g run))
  level_run g (across {word = v} sign s t inside mark body tin tmark run) =
      let m = marks_of g s inside in
      let named = ap mark_of (sym m.1) ∙ mark in
      let n = marks.level g s.from in
      let in_body = keeps_run g body t.to (closing g t tin tmark) in
      let low = (jumps g s.from s.to m.0 sign named m.2 t.to in_body).keeps.level in
      level_append n (put_by s) (context sign g s.to t.to ∷ v) (level_put n s.output) (
        level_context g s.from s.to t.to m.0 sign named m.2,
        raised (marks.level g t.to) n low v (level_run g run),
      )

  -- the levels of the states are levels of the grammar
  pub has_levels : HasLevels grammar marks.level top
  has_levels = record {
    of_graphs = λ h w word. level_run h word.run;
    of_bodies = λ g o c w body. level_run g body.run;
    below = are.below;
  }

  -- words that may take nothing
  abbrev LetterFree : Letter → Type 0
  LetterFree (plain (label.Call h)) = marks.free h 0 ≡ true
  LetterFree x = IsSilent x

  abbrev WordFree : List Letter → Type 0
  WordFree [] = Unit {0}
  WordFree (x ∷ w) = LetterFree x × WordFree w

  -- the rear of a free word is free
  free_later : (v w : List Letter) → WordFree (v ++ w) → WordFree w
  free_later [] w f = f
  free_later (x ∷ v) w f = free_later v w f.1

  -- and so is its front
  free_front : (v w : List Letter) → WordFree (v ++ w) → WordFree v
  free_front [] w f = tt
  free_front (x ∷ v) w f = (f.0, free_front v w f.1)

  -- before a free step to a free state the state is free
  step_free : (g a b : ℕ) (x : Label) → mark_of (x ∷ []) ≡ ordinary → At g a b x →
      WordFree (letters (x ∷ [])) → marks.free g b ≡ true → marks.free g a ≡ true
  step_free g a b label.Empty mark m f h = m.free h
  step_free g a b label.NoSpace mark m f h = m.free h
  step_free g a b (label.Begin name) mark m f h = m.free h
  step_free g a b (label.End name) mark m f h = m.free h
  step_free g a b label.Cut mark m f h = m.free h
  step_free g a b (label.Call k) mark m f h = (m.3 f.0).free h
  step_free g a b label.Positive mark m f h = cc
  step_free g a b label.Negative mark m f h = cc
  step_free g a b label.ContextEnd mark m f h = cc
  step_free g a b x mark m f h = let e = f.0 in cc

  -- a run to an end whose letters may take nothing begins at a marked state
  run_free : (g : ℕ) {a last : ℕ} {w : List Letter} → IsRun g a last w →
      IsNetEnd (states_of net g) last → WordFree w → marks.free g a ≡ true
  run_free g {a} stop end f = are.ends g a end.state end.found end.final
  run_free g (along {word = v} s inside mark run) end f =
      let m = marks_of g s inside in
      let all = free_front (put_by s ++ letters s.labels) v f in
      let front = free_later (put_by s) (letters s.labels) all in
      step_free g s.from s.to m.0 (ap mark_of (sym m.1) ∙ mark) m.2
      (subst (λ (l : List Label). WordFree (letters l)) m.1 front)
      (run_free g run end (free_later (put_by s ++ letters s.labels) v f))
  run_free g (across {word = v} sign s t inside mark body tin tmark run) end f =
      let m = marks_of g s inside in
      let in_body = keeps_run g body t.to (closing g t tin tmark) in
      (jumps g s.from s.to m.0 sign (ap mark_of (sym m.1) ∙ mark) m.2 t.to in_body).free
      (run_free g run end (free_later (put_by s) (context sign g s.to t.to ∷ v) f).1)

  -- a silent letter is free
  letter_free : (x : Letter) → IsSilent x → LetterFree x
  letter_free (plain (label.Call h)) m = cc
  letter_free x m = m

  -- a word that may take nothing is free
  word_free : {w : List Letter} → IsFree grammar w → WordFree w
  word_free none = tt
  word_free (silent {letter = x} m f) = (letter_free x m, word_free f)
  word_free (call {h = h} word inside later) =
      (run_free h word.run word.ends (word_free inside), word_free later)

  -- the start of a nullable graph is free
  nullable_free : (h : ℕ) → IsNullable grammar h → marks.free h 0 ≡ true
  nullable_free h n = run_free h n.of_graph.run n.of_graph.ends (word_free n.free)

  -- along each edge the rank does not rise where it may not
  never_rises : (g a b : ℕ) (x : Label) → At g a b x → NeverRises grammar marks.rank g a b x
  never_rises g a b label.Empty m = m.rank
  never_rises g a b label.NoSpace m = m.rank
  never_rises g a b (label.Begin name) m = m.rank
  never_rises g a b (label.End name) m = m.rank
  never_rises g a b label.Cut m = m.rank
  never_rises g a b (label.Call h) m = (m.2, λ n. (m.3 (nullable_free h n)).rank)
  never_rises g a b label.Positive m =
      (m.1, λ c w body. (m.2 c (body_closers g b c w body)).rank)
  never_rises g a b label.Negative m =
      (m.1, λ c w body. (m.2 c (body_closers g b c w body)).rank)
  never_rises g a b x m = tt

  -- the ranks of the states are an order
  pub is_ordered : IsOrdered grammar marks.rank
  is_ordered = record {
    falls = λ g s x inside named.
        let m = marks_of g s inside in
        let e = sym m.1 ∙ named in
        let same : m.0 ≡ x = cc in
        never_rises g s.from s.to x (subst (At g s.from s.to) same m.2);
  }
