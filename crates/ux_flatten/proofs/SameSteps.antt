-- Grammars whose graphs have the same steps and ends mean the same, whatever their places are.
use Rattle.std.proofs.Common.{◌≡◌, ℕ, zero, suc, List, ◌↔◌, subst}
use Rattle.ux_outputs.specs.declared.event.Event.{Event}
use Rattle.ux_net.specs.Words.{Step, StepGraph, Grammar, Letter, Run, stop, along, across, IsWord, IsBody}
use Rattle.ux_meaning.specs.Inputs.{Input}
use Rattle.ux_meaning.specs.Meaning.{Seq, done, takes, stays, calls, holds, refused, RefusesBy, DerBy, Der}

-- the second graph starts where the first does, and has its ends and steps
pub record HasSteps (old new : StepGraph) : Type 0 where
  pub start : old.start ≡ new.start
  pub ends : (n : ℕ) → old.IsEnd n → new.IsEnd n
  pub steps : (s : Step) → old.IsStep s → new.IsStep s

-- each graph of the second grammar has what that of the first has
abbrev pub HaveSteps : Grammar → Grammar → Type 0
HaveSteps old new = (g : ℕ) → HasSteps (old.graph g) (new.graph g)

module _ (g : ℕ) (old new : StepGraph) (has : HasSteps old new) where
  run_too : {a b : ℕ} {word : List Letter} → Run g old a b word → Run g new a b word
  run_too stop = stop
  run_too (along s is mark run) = along s (has.steps s is) mark (run_too run)
  run_too (across sign s t is mark body is' mark' run) =
      across sign s t (has.steps s is) mark (run_too body) (has.steps t is') mark' (run_too run)

  word_too : {word : List Letter} → IsWord g old word → IsWord g new word
  word_too {word = word} w = record {
    last = w.last;
    ends = has.ends w.last w.ends;
    run = subst (λ a. Run g new a w.last word) has.start (run_too w.run);
  }

  body_too : {opening closing : ℕ} {word : List Letter} → IsBody g old opening closing word →
      IsBody g new opening closing word
  body_too body = record {
    step = body.step;
    inside = has.steps body.step body.inside;
    closed = body.closed;
    after = body.after;
    run = run_too body.run;
  }

module _ (input : Input) (old new : Grammar) (have : HaveSteps old new)
    (Old New : (g opening closing p : ℕ) → Type 0)
    (told : (g opening closing p : ℕ) → Old g opening closing p → New g opening closing p) where
  seq_too : {word : List Letter} {i j : ℕ} {events : List Event} →
      Seq input old Old word i j events →
      Seq input new New word i j events
  seq_too done = done
  seq_too (takes t s) = takes t (seq_too s)
  seq_too (stays now t s) = stays now t (seq_too s)
  seq_too (calls {h = h} is inside s) =
      calls (word_too h (old.graph h) (new.graph h) (have h) is) (seq_too inside) (seq_too s)
  seq_too (holds {g = g} is inside s) =
      holds (body_too g (old.graph g) (new.graph g) (have g) is) (seq_too inside) (seq_too s)
  seq_too (refused {g = g} {opening = o} {closing = c} {p = p} t s) =
      refused (told g o c p t) (seq_too s)

module _ (input : Input) where
  refuses_too : (n : ℕ) (old new : Grammar) → HaveSteps old new → HaveSteps new old →
      (g opening closing p : ℕ) → RefusesBy input old n g opening closing p →
      RefusesBy input new n g opening closing p
  refuses_too zero old new have back g o c p r = r
  refuses_too (suc n) old new have back g o c p r = λ word k events body s.
      r word k events (body_too g (new.graph g) (old.graph g) (back g) body)
      (seq_too input new old back (RefusesBy input new n) (RefusesBy input old n)
      (refuses_too n new old back have) s)

  der_too : (old new : Grammar) → HaveSteps old new → HaveSteps new old → (n g i j : ℕ)
      (events : List Event) → DerBy input old n g i j events → DerBy input new n g i j events
  der_too old new have back n g i j events d = record {
    word = d.word;
    of_graph = word_too g (old.graph g) (new.graph g) (have g) d.of_graph;
    seq = seq_too input old new have (RefusesBy input old n) (RefusesBy input new n)
        (refuses_too n old new have back) d.seq;
  }

  -- the law
  pub same_steps_same : (old new : Grammar) → HaveSteps old new → HaveSteps new old →
      (g i j : ℕ) (events : List Event) → Der input old g i j events ↔ Der input new g i j events
  same_steps_same old new have back g i j events = (
    λ d. (d.0, λ m le. der_too old new have back m g i j events (d.1 m le)),
    λ d. (d.0, λ m le. der_too new old back have m g i j events (d.1 m le)),
  )
