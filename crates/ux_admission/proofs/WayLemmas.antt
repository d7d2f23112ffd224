-- The ways of a step along one line.
use Rattle.std.proofs.Common.{arith, ◌≡◌, ℕ, zero, suc, ◌+◌, ◌-◌, ◌≤◌, List, [], ◌∷◌, ◌++◌, length, refl, ap, subst, sym, ◌∙◌, ◌⊎◌, inl, inr, ◌↔◌, get_or, true, false}
use Rattle.std.specs.Prelude.{Contains}
use Rattle.ux_net.specs.declared.label.Label.{Label}
use Rattle.ux_net.specs.declared.label.Label.TheVariants.{Call}
use Rattle.ux_boxes.specs.declared.place.Place.{Place}
use Rattle.ux_admission.specs.declared.way.Way.{Way}
use Rattle.ux_admission.specs.declared.way.Passage.{Passage}
use Rattle.ux_admission.specs.declared.way.Passage.TheVariants.{Silent, Calls, Opens, Jumps}
use Rattle.ux_net.specs.Words.{Sign, Mark, ordinary, opens, mark_of}
use Rattle.ux_net.specs.Silent.{are_silent}
use Rattle.ux_boxes.specs.Places.{place_grammar}
use Rattle.ux_net.specs.Closers.{ClosesInto}
use Rattle.ux_boxes.specs.Fit.{IsFitLine}
use Rattle.ux_admission.specs.Gains.{Gains, SoOfOne}
use Rattle.ux_boxes.specs.Numbers.{number_of, AreOffsets}
use Rattle.ux_admission.specs.Ways.{IsOpening, IsOpeningWay, IsJump, jump_to, IsWayAlong, Passes}
use Rattle.ux_admission.proofs.FreeLemmas.{silent_free, free_ordinary}
use Rattle.ux_admission.proofs.GainsLemmas.{gains_one, gains_as}
use Rattle.ux_boxes.proofs.StepsLemmas.{call_inside, same_call}

no_silent_call : (line : List Label) (h : ℕ) → line ≡ Call h ∷ [] → are_silent line ≡ true → ⊥
no_silent_call line h e s =
    let is : false ≡ true = subst (λ (l : List Label). are_silent l ≡ true) e s in cc

-- a line that opens a context is not ordinary
ordinary_opens_not : (mark : Mark) → mark ≡ ordinary → (sign : Sign) → mark ≡ opens sign → ⊥
ordinary_opens_not mark m sign e = let no : ordinary ≡ opens sign = sym m ∙ e in cc

-- such a line takes something, and is no call
pub silent_opens_not : (graphs : List (List Place)) (line : List Label) → are_silent line ≡ true →
    IsOpening line → ⊥
silent_opens_not graphs line s o = ordinary_opens_not (mark_of line)
    (free_ordinary (place_grammar graphs) line (silent_free (place_grammar graphs) line s)) o.0 o.1

pub call_opens_not : (line : List Label) (h : ℕ) → line ≡ Call h ∷ [] → IsOpening line → ⊥
call_opens_not line h e o =
    ordinary_opens_not (mark_of line) (ap (λ (l : List Label). mark_of l) e) o.0 o.1

-- a way is what its parts are
pub way_same : (step way : Way) (passage : Passage) → step.graph ≡ way.graph →
    step.source ≡ way.source → step.target ≡ way.target → step.from ≡ way.from →
    step.to ≡ way.to → passage ≡ way.passage →
    ◌≡◌ {A = Way} (record step { passage = passage }) way
way_same step way passage g a b f t p =
    ap (λ n. record step { graph = n; passage = passage }) g
    ∙ (ap (λ n. record step { graph = way.graph; source = n; passage = passage }) a
    ∙ (ap (λ n. record way { target = n; from = step.from; to = step.to; passage = passage }) b
    ∙ (ap (λ n. record way { from = n; to = step.to; passage = passage }) f
    ∙ (ap (λ n. record way { to = n; passage = passage }) t
    ∙ ap (λ q. record way { passage = q }) p))))

-- the start of a graph, as the table has it
call_offset : (graphs : List (List Place)) (offsets : List ℕ) → AreOffsets graphs offsets →
    (h : ℕ) → 1 ≤ h → h ≤ length graphs → get_or offsets (h - 1) 0 ≡ number_of graphs h 0
call_offset graphs offsets are zero from to = absurd (omega (arith, from))
call_offset graphs offsets are (suc m) from to =
    let e : suc m - 1 ≡ m = omega arith in
    let at = are.offset m (omega arith) in
    rw e (omega arith)

module _ (before after : List Way) (step : Way) (line : List Label) (graphs : List (List Place))
    (from : step.from ≡ number_of graphs step.graph step.source)
    (to : step.to ≡ number_of graphs step.graph step.target) where
  abbrev Along : Way → Type 0
  Along way = IsWayAlong graphs step.graph step.source step.target line way

  -- the way that leads to the step's target, by this passage
  same_as : (passage : Passage) (way : Way) → Along way → way.target ≡ step.target →
      passage ≡ way.passage → ◌≡◌ {A = Way} (record step { passage = passage }) way
  same_as passage way along e p = way_same step way passage (sym along.graph) (sym along.source)
      (sym e) (from ∙ sym along.from)
      (to ∙ (ap (λ n. number_of graphs step.graph n) (sym e) ∙ sym along.to)) p

  abbrev By : Way → Passage → Type 0
  By way passage = Passes graphs step.graph step.target line way.target passage

  -- a call has one way
  pub gains_call : (offsets : List ℕ) → AreOffsets graphs offsets →
      IsFitLine (length offsets - 1) line → (h : ℕ) →
      after ≡ before ++ record step { passage = Calls (get_or offsets (h - 1) 0) } ∷ [] →
      line ≡ Call h ∷ [] → Gains before after Along
  gains_call offsets are fit h is e =
      gains_one before after (record step { passage = Calls (get_or offsets (h - 1) 0) }) Along is
      (record {
        graph = refl;
        source = refl;
        from = from;
        to = to;
        passes = (refl, (h, e, offset));
      })
      (λ way along. by way along way.passage refl along.passes)
    where
      offset : get_or offsets (h - 1) 0 ≡ number_of graphs h 0
      offset =
          let inside = call_inside (length offsets - 1) line h fit e in
          let low = inside.0 in
          let high = inside.1 in
          let len = are.len in
          call_offset graphs offsets are h low (omega (arith, high, len))

      by : (way : Way) → Along way → (passage : Passage) → passage ≡ way.passage →
          By way passage →
          ◌≡◌ {A = Way} (record step { passage = Calls (get_or offsets (h - 1) 0) }) way
      by way along Silent p q = absurd (no_silent_call line h e q.1)
      by way along (Calls start) p q =
          let same = same_call h q.1.0 (sym e ∙ q.1.1) in
          same_as (Calls (get_or offsets (h - 1) 0)) way along q.0
          (ap (λ n. Calls n) (offset ∙ (ap (λ k. number_of graphs k 0) same ∙ sym q.1.2)) ∙ p)
      by way along Opens p q = absurd (call_opens_not line h e q.1)
      by way along (Jumps opening) p q = absurd (call_opens_not line h e q.1)

  -- a line that opens a context has a way into it, and one over it to each place where it is closed
  pub gains_context : (closers : List ℕ) → IsOpening line →
      ((c : ℕ) → Contains closers c ↔
      ClosesInto (place_grammar graphs) step.graph step.target c) →
      Gains before after (λ way. IsOpeningWay step way ⊎ SoOfOne closers (IsJump step) way) →
      Gains before after Along
  gains_context closers o exact gains =
      gains_as before after (λ way. IsOpeningWay step way ⊎ SoOfOne closers (IsJump step) way)
      Along (λ way. (
        λ old. elim old [
          | inl e ↦ subst Along e (record {
            graph = refl;
            source = refl;
            from = from;
            to = to;
            passes = (refl, o);
          })
          | inr j ↦ subst Along j.2 (record {
            graph = refl;
            source = refl;
            from = from;
            to = based j.0;
            passes = (refl, o, (exact j.0).0 j.1);
          })
        ],
        λ along. by way along way.passage refl along.passes,
      )) gains
    where
      based : (c : ℕ) → (step.to - step.target) + c ≡ number_of graphs step.graph c
      based c = omega (arith, to)

      by : (way : Way) → Along way → (passage : Passage) → passage ≡ way.passage →
          By way passage → IsOpeningWay step way ⊎ SoOfOne closers (IsJump step) way
      by way along Silent p q = absurd (silent_opens_not graphs line q.1 o)
      by way along (Calls start) p q = absurd (call_opens_not line q.1.0 q.1.1 o)
      by way along Opens p q = inl (same_as Opens way along q.0 p)
      by way along (Jumps opening) p q = inr (
        way.target,
        (exact way.target).1 q.2,
        way_same (jump_to step (step.to - step.target) way.target) way (Jumps step.target)
            (sym along.graph) (sym along.source) refl (from ∙ sym along.from)
            (based way.target ∙ sym along.to) (ap (λ n. Jumps n) (sym q.0) ∙ p),
      )
