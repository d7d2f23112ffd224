-- A grammar of which each step takes a token, or calls a graph and leads from no start: it has no
-- context, no empty loop and no left recursion.
use Rattle.std.proofs.Common.{◌≡◌, ◌≢◌, ◌∙◌, inl, inr, ℕ, List, [], ◌∷◌, ◌++◌, true, false, ap, refl, subst, sym}
use Rattle.ux_masks.specs.declared.mask.Mask as masks
use Rattle.ux_net.specs.declared.label.Label.{Label}
use Rattle.ux_net.specs.declared.label.Label.TheVariants.{Call, Mask}
use Rattle.ux_net.specs.Nullable.{IsFree, IsSilent, call, none, silent}
use Rattle.ux_admission.specs.Admissible.{EntersAt, Enters, IsAdmissible, IsOnMove, IsUnit, MovesFreely, along_step, at_opening, by_call, by_opening, in_front, over_context}
use Rattle.ux_admission.specs.ContextClose.{AreClosed}
use Rattle.ux_admission.specs.NegativeRecursion.{HasNoNegativeRecursion}
use Rattle.ux_net.specs.Words.{Grammar, IsWord, Letter, Run, Sign, Step, across, along, closes, letters, mark_of, negative, opens, ordinary, plain, put_by, stop}
use Rattle.ux_admission.proofs.FreeLemmas.{free_parts}

-- the step takes a token, or calls a graph and doesn't lead from this place
pub data Takes (start : ℕ) (step : Step) : Type 0 where
  by_mask : (mask : masks.Mask) → step.labels ≡ Mask mask ∷ [] → Takes start step
  later_call : (h : ℕ) → step.labels ≡ Call h ∷ [] → step.from ≢ start → Takes start step

-- each step of each graph does, and no graph ends where it starts
pub record AreTaking (grammar : Grammar) : Type 0 where
  pub takes : (g : ℕ) (step : Step) → (grammar.graph g).IsStep step →
      Takes (grammar.graph g).start step
  pub starts : (g : ℕ) → (grammar.graph g).IsEnd (grammar.graph g).start → ⊥

-- no step opens or closes a context
takes_ordinary : (start : ℕ) (step : Step) → Takes start step → mark_of step.labels ≡ ordinary
takes_ordinary start step (by_mask mask is) = ap mark_of is
takes_ordinary start step (later_call h is later) = ap mark_of is

module _ (grammar : Grammar) where
  -- a word that begins with a mask takes a token
  mask_first : {word : List Letter} → IsFree grammar word → (mask : masks.Mask)
      (rest : List Letter) → word ≡ plain (Mask mask) ∷ rest → ⊥
  mask_first none mask rest is = cc
  mask_first (silent {letter = letter} {word = word} free later) mask rest is =
      let same : letter ≡ plain (Mask mask) = cc in
      let no : false ≡ true = subst IsSilent same free in cc
  mask_first (call word called later) mask rest is = cc

  -- from a start one step alone calls nothing
  taken_first : (start : ℕ) (step : Step) → Takes start step → step.from ≡ start →
      IsFree grammar (letters step.labels) → ⊥
  taken_first start step (by_mask mask is) from free =
      mask_first free mask [] (ap letters is)
  taken_first start step (later_call h is later) from free = later from

module _ (grammar : Grammar) (taking : AreTaking grammar) where
  ordinary_step : (g : ℕ) (step : Step) → (grammar.graph g).IsStep step →
      mark_of step.labels ≡ ordinary
  ordinary_step g step is =
      takes_ordinary (grammar.graph g).start step (taking.takes g step is)

  never_opens : (g : ℕ) (sign : Sign) (step : Step) → (grammar.graph g).IsStep step →
      mark_of step.labels ≡ opens sign → ⊥
  never_opens g sign step is opened =
      let no : ordinary ≡ opens sign = sym (ordinary_step g step is) ∙ opened in cc

  never_closes : (g : ℕ) (step : Step) → (grammar.graph g).IsStep step →
      mark_of step.labels ≡ closes → ⊥
  never_closes g step is closed =
      let no : ordinary ≡ closes = sym (ordinary_step g step is) ∙ closed in cc

  -- the labels of a step that begins a free run are free
  step_free : (step : Step) (word : List Letter) →
      IsFree grammar ((put_by step ++ letters step.labels) ++ word) →
      IsFree grammar (letters step.labels)
  step_free step word free =
      (free_parts grammar (put_by step) (letters step.labels)
      (free_parts grammar (put_by step ++ letters step.labels) word free).0).1

  -- a run from a start to an end takes a token
  run_takes : (g a b : ℕ) (word : List Letter) → Run g (grammar.graph g) a b word →
      a ≡ (grammar.graph g).start → (grammar.graph g).IsEnd b → IsFree grammar word → ⊥
  run_takes g a b word stop from ends free =
      taking.starts g (subst (grammar.graph g).IsEnd from ends)
  run_takes g a b word (along {word = later} step is mark run) from ends free =
      taken_first grammar (grammar.graph g).start step (taking.takes g step is) from
      (step_free step later free)
  run_takes g a b word (across sign opening closing is opened body also closed run) from ends free =
      never_opens g sign opening is opened

  word_takes : (g : ℕ) (word : List Letter) → IsWord g (grammar.graph g) word →
      IsFree grammar word → ⊥
  word_takes g word is free =
      run_takes g (grammar.graph g).start is.last word is.run refl is.ends free

  -- so a call takes one, and so does every step
  call_first : {word : List Letter} → IsFree grammar word → (h : ℕ)
      (rest : List Letter) → word ≡ plain (Call h) ∷ rest → ⊥
  call_first none h rest is = cc
  call_first (silent {letter = letter} {word = word} free later) h rest is =
      let same : letter ≡ plain (Call h) = cc in
      let no : false ≡ true = subst IsSilent same free in cc
  call_first (call {h = k} {called = called} word free later) h rest is =
      word_takes k called word free

  step_takes : (start : ℕ) (step : Step) → Takes start step →
      IsFree grammar (letters step.labels) → ⊥
  step_takes start step (by_mask mask is) free = mask_first grammar free mask [] (ap letters is)
  step_takes start step (later_call h is later) free = call_first free h [] (ap letters is)

  no_step_free : (g : ℕ) (step : Step) → (grammar.graph g).IsStep step →
      IsFree grammar (letters step.labels) → ⊥
  no_step_free g step is = step_takes (grammar.graph g).start step (taking.takes g step is)

  -- no loop takes nothing
  no_move : {g from to : ℕ} → MovesFreely grammar g from to → ⊥
  no_move {g = g} (along_step step is free) = no_step_free g step is free
  no_move {g = g} (over_context sign step is opened body) = never_opens g sign step is opened

  on_no_move : {g node from to : ℕ} → IsOnMove grammar g node from to → ⊥
  on_no_move (in_front moves) = no_move moves
  on_no_move {g = g} (at_opening sign step is opened body) = never_opens g sign step is opened

  -- a run that takes nothing stays where it begins
  stays : (g a b : ℕ) (word : List Letter) → Run g (grammar.graph g) a b word →
      IsFree grammar word → a ≡ b
  stays g a b word stop free = refl
  stays g a b word (along {word = later} step is mark run) free =
      absurd (no_step_free g step is (step_free step later free))
  stays g a b word (across sign opening closing is opened body also closed run) free =
      absurd (never_opens g sign opening is opened)

  -- a unit is a graph
  unit_start : (g first : ℕ) → IsUnit grammar g first → first ≡ (grammar.graph g).start
  unit_start g first (inl is) = is
  unit_start g first (inr opened) =
      absurd (never_opens g opened.0 opened.1.step opened.1.of_graph opened.1.opens)

  -- and enters none before it takes a token
  call_behind : (mask : masks.Mask) (h : ℕ) (front back : List Label) →
      Mask mask ∷ [] ≡ front ++ Call h ∷ back → ⊥
  call_behind mask h [] back is = cc
  call_behind mask h (label ∷ []) back is = cc
  call_behind mask h (label ∷ (other ∷ front)) back is = cc

  no_entry : (start : ℕ) (step : Step) → Takes start step → step.from ≡ start →
      (g h v : ℕ) → (grammar.graph g).IsStep step → EntersAt grammar g step h v → ⊥
  no_entry start step (by_mask mask is) from g h v of_graph
      (by_call {h = k} front back labels free) =
      call_behind mask k front back (sym is ∙ labels)
  no_entry start step (by_mask mask is) from g h v of_graph (by_opening sign opened) =
      never_opens g sign step of_graph opened
  no_entry start step (later_call k is later) from g h v of_graph enters = later from

  enters_none : (g first h v node : ℕ) → first ≡ (grammar.graph g).start →
      Enters grammar g first h v node → ⊥
  enters_none g first h v node starts e =
      let stayed = stays g first e.step.from e.leads.0 e.leads.1 e.leads.2 in
      no_entry (grammar.graph g).start e.step (taking.takes g e.step e.of_graph)
      (sym stayed ∙ starts) g h v e.of_graph e.enters

  pub taking_admissible : IsAdmissible grammar
  taking_admissible = record {
    no_empty_loop = λ g node loop. on_no_move loop.moves;
    no_left_recursion = λ g node r.
        enters_none g r.first r.entered_graph r.entered_first node (unit_start g r.first r.unit)
        r.enters;
  }

  -- no context is refused, as there is none
  pub taking_closed : AreClosed grammar
  taking_closed g node (inl (inl never)) =
      never_opens g never.sign never.opening.step never.opening.of_graph never.opening.opens
  taking_closed g node (inl (inr open_long)) =
      never_opens g open_long.sign open_long.opening.step open_long.opening.of_graph
      open_long.opening.opens
  taking_closed g node (inr (inl twice)) =
      never_opens g negative twice.opening.step twice.opening.of_graph twice.opening.opens
  taking_closed g node (inr (inr never)) =
      never_closes g never.1.step never.1.inside never.1.closed

  pub taking_no_recursion : HasNoNegativeRecursion grammar
  taking_no_recursion g r =
      never_opens g negative r.has.step r.has.leads.of_graph r.has.refuses
