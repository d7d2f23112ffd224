-- Where each graph of a grammar has all steps and ends of that of another, it has the same words.
use Rattle.std.proofs.Common.{◌≡◌, ℕ, List, subst}
use Rattle.ux_net.specs.Words.{Step, StepGraph, Grammar, Letter, Run, stop, along, across, IsWord, IsBody, IsRenumbered, same_plain, same_piece, same_context, AreRenumbered, SayTheSame}

-- the second graph starts where the first does, and has its places, ends and steps
pub record IsWithin (old new : StepGraph) : Type 0 where
  pub start : old.start ≡ new.start
  pub places : (n : ℕ) → old.IsPlace n → new.IsPlace n
  pub ends : (n : ℕ) → old.IsEnd n → new.IsEnd n
  pub steps : (s : Step) → old.IsStep s → new.IsStep s

module _ (g : ℕ) (old new : StepGraph) (steps : (s : Step) → old.IsStep s → new.IsStep s) where
  -- a run of a graph is one of another that has its steps
  pub run_steps : {a b : ℕ} {word : List Letter} → Run g old a b word → Run g new a b word
  run_steps stop = stop
  run_steps (along s is mark run) = along s (steps s is) mark (run_steps run)
  run_steps (across sign s t is mark body is' mark' run) =
      across sign s t (steps s is) mark (run_steps body) (steps t is') mark' (run_steps run)

  -- and so is a body
  pub body_steps : (opening closing : ℕ) (word : List Letter) →
      IsBody g old opening closing word → IsBody g new opening closing word
  body_steps opening closing word body = record {
    step = body.step;
    inside = steps body.step body.inside;
    closed = body.closed;
    after = body.after;
    run = run_steps body.run;
  }

module _ (g : ℕ) (old new : StepGraph) (within : IsWithin old new) where
  -- runs of a graph that is within another
  pub run_within : {a b : ℕ} {word : List Letter} → Run g old a b word → Run g new a b word
  run_within run = run_steps g old new within.steps run

  -- its words
  pub word_within : (word : List Letter) → IsWord g old word → IsWord g new word
  word_within word w = record {
    last = w.last;
    ends = within.ends w.last w.ends;
    run = subst (λ a. Run g new a w.last word) within.start (run_within w.run);
  }

  -- and its bodies
  pub body_within : (opening closing : ℕ) (word : List Letter) →
      IsBody g old opening closing word → IsBody g new opening closing word
  body_within opening closing word body =
      body_steps g old new within.steps opening closing word body

-- Two grammars of which each is within the other: what says the same as one does so as the other.
module _ (old mid new : Grammar) (forth : (g : ℕ) → IsWithin (old.graph g) (mid.graph g))
    (back : (g : ℕ) → IsWithin (mid.graph g) (old.graph g)) where
  -- a letter that is the same but for places stays so where the places are
  one_within : (number : (g place : ℕ) → ℕ) {x y : Letter} → IsRenumbered mid number x y →
      IsRenumbered old number x y
  one_within number same_plain = same_plain
  one_within number same_piece = same_piece
  one_within number (same_context {g = g} {opening = opening} {closing = closing} a b) =
      same_context ((back g).places opening a) ((back g).places closing b)

  -- and so does a word
  word_numbered : (number : (g place : ℕ) → ℕ) {v w : List Letter} →
      AreRenumbered mid number v w → AreRenumbered old number v w
  word_numbered number AreRenumbered.none = AreRenumbered.none
  word_numbered number (AreRenumbered.more one rest) =
      AreRenumbered.more (one_within number one) (word_numbered number rest)

  -- what says the same as the one grammar says the same as the other
  pub say_within : SayTheSame mid new → SayTheSame old new
  say_within same = record {
    number = same.number;
    words = λ g v w.
        let r = same.words g v (word_within g (old.graph g) (mid.graph g) (forth g) v w) in
        (r.0, word_numbered same.number r.1, r.2);
    words_back = λ g w is.
        let r = same.words_back g w is in (
          r.0,
          word_numbered same.number r.1,
          word_within g (mid.graph g) (old.graph g) (back g) r.0 r.2,
        );
    bodies = λ g opening closing a b v body.
        let r = same.bodies g opening closing ((forth g).places opening a)
        ((forth g).places closing b) v
        (body_within g (old.graph g) (mid.graph g) (forth g) opening closing v body) in
        (r.0, word_numbered same.number r.1, r.2);
    bodies_back = λ g opening closing a b w body.
        let r = same.bodies_back g opening closing ((forth g).places opening a)
        ((forth g).places closing b) w body in (
          r.0,
          word_numbered same.number r.1,
          body_within g (mid.graph g) (old.graph g) (back g) opening closing r.0 r.2,
        );
  }
