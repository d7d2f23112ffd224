-- Where hits are told by one relation as by another, so is what a cascade comes to.
use Rattle.std.proofs.Common.{ℕ, zero, suc, List, [], ◌∷◌, length}
use Rattle.ux_alphabet.specs.Letters.{Letters}
use Rattle.ux_tokens.specs.Tokens.{Token}
use Rattle.ux_outputs.specs.declared.hit.Hit.{Hit}
use Rattle.ux_cascade.specs.declared.outcome.Outcome.{Outcome}
use Rattle.ux_cascade.specs.declared.outcome.Round.{Round}
use Rattle.ux_cascade.specs.Cascades.{AreRounds, AreSteps, IsCascade, IsRound, RoundResult, left_by}
use Rattle.ux_cascade.specs.Refusing.{LeavesTooMany}

module _ (alphabet : Letters) (Old New : (step : ℕ) → List Token → List Hit → Type 0)
    (told : (step : ℕ) (tokens : List Token) (hits : List Hit) → Old step tokens hits →
    New step tokens hits) where
  round_alike : (step : ℕ) (before : List Token) (spans : ℕ) (after : List Token) →
      IsRound alphabet Old step before spans after → IsRound alphabet New step before spans after
  round_alike step before spans after round = record {
    hits = round.hits;
    found = told step before round.hits round.found;
    counts = round.counts;
    anew = round.anew;
  }

  rounds_alike : (step : ℕ) (before : List Token) (rounds : List RoundResult) →
      AreRounds alphabet Old step before rounds → AreRounds alphabet New step before rounds
  rounds_alike step before [] none = tt
  rounds_alike step before (round ∷ rounds) (first, rest) = (
    round_alike step before round.spans round.tokens first,
    rounds_alike step round.tokens rounds rest,
  )

  steps_alike : (times : List ℕ) (begin : List Token) (count : ℕ) (rounds : List Round)
      (after : List Token) → AreSteps alphabet Old times begin count rounds after →
      AreSteps alphabet New times begin count rounds after
  steps_alike times begin zero rounds after steps = steps
  steps_alike times begin (suc step) rounds after (earlier, before, steps, taken) = (
    earlier,
    before,
    steps_alike times begin step earlier before steps,
    record {
      taken = taken.taken;
      are = rounds_alike step before taken.taken taken.are;
      many = taken.many;
      listed = taken.listed;
      left = taken.left;
    },
  )

  -- what a cascade comes to
  pub cascade_alike : (times : List ℕ) (begin : List Token) (outcome : Outcome) →
      IsCascade alphabet Old times begin outcome → IsCascade alphabet New times begin outcome
  cascade_alike times begin outcome is = record {
    after = is.after;
    steps = steps_alike times begin (length times) outcome.rounds is.after is.steps;
    text_is = is.text_is;
  }

  -- and that a round leaves too many tokens
  pub long_alike : (times : List ℕ) (begin : List Token) → LeavesTooMany alphabet Old times begin →
      LeavesTooMany alphabet New times begin
  long_alike times begin long = record {
    step = long.step;
    within = long.within;
    rounds = long.rounds;
    before = long.before;
    steps = steps_alike times begin long.step long.rounds long.before long.steps;
    long = record {
      earlier = long.long.earlier;
      are = rounds_alike long.step long.before long.long.earlier long.long.are;
      within = long.long.within;
      long = (
        long.long.long.0,
        told long.step (left_by long.before long.long.earlier) long.long.long.0 long.long.long.1,
        long.long.long.2,
      );
    };
  }
