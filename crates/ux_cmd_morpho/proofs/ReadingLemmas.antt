-- Tests of what was read, as they stop a plan.
use Rattle.std.proofs.Common.{arith, ◌≡◌, ◌∙◌, ◌⊎◌, inl, inr, ℕ, ◌+◌, ◌<◌, ◌≤◌, true, List, ap, length, refl, subst}
use Rattle.std.proofs.lemmas.Option.{slice_get_within}
use Rattle.ux_base.proofs.Lists.{less_or}
use Rattle.ux_alphabet.specs.File.{AreLines}
use Rattle.ux_alphabet.specs.declared.line.Line.{Line}
use Rattle.ux_alphabet.proofs.FileLemmas.{lines_are_unique}
use Rattle.ux_alphabet.specs.Letters.{Letters}
use Rattle.ux_boxes.specs.Boxes.{Drawn}
use Rattle.ux_grammars.specs.Reading.{AreStatesOfBoxes}
use Rattle.ux_marks.specs.Marks.{KeepsMarks}
use Rattle.ux_net.specs.declared.net_graph.NetGraph.{NetGraph}
use Rattle.ux_plan.specs.declared.stop.Stop.{Stop}
use Rattle.ux_plan.specs.declared.stop.Stop.TheVariants.{Absent, NoMemory, ReadFault, Refused, TooLarge}
use Rattle.ux_plan.specs.Plans.{StopsTest, refusing}
use Rattle.ux_reasons.specs.declared.reason.Reason.{Reason}
use Rattle.ux_tokens.specs.Reading.{HasTooManyTokens}
use Rattle.ux_tokens.specs.Tokens.{Token}
use Rattle.ux_cmd_morpho.specs.Answering.{IsWordAt}
use Rattle.ux_cmd_morpho.specs.Reading.{HasGoodMarks, HasLongWord, RefusesMarks, RefusesNetMarks, StopsLong, single_of}

module _ (letters : Letters) (graphs : List Drawn) (net : List NetGraph)
    (states : AreStatesOfBoxes letters graphs net) where
  pub good_marks : KeepsMarks net → HasGoodMarks letters graphs
  good_marks keeps = record { net = net; states = states; keeps = keeps }

  pub marks_stop : (word : List ℕ) (stop : Stop Reason) →
      StopsTest (refusing (RefusesNetMarks word net)) stop →
      StopsTest (refusing (RefusesMarks word letters graphs)) stop
  marks_stop word (Absent name) stops = stops
  marks_stop word (ReadFault name) stops = stops
  marks_stop word (TooLarge name) stops = stops
  marks_stop word (Refused name reason) stops =
      record { net = net; states = states; refuses = stops }
  marks_stop word NoMemory stops = tt

-- a long word makes the text too large
pub long_stops : (text : List ℕ) (letters : Letters) (tokens : List Token) (stop : Stop Reason) →
    HasLongWord letters tokens → (stop ≡ TooLarge text) ⊎ (stop ≡ NoMemory) →
    StopsTest (StopsLong text letters tokens) stop
long_stops text letters tokens stop long (inl is) = rw is (refl, long)
long_stops text letters tokens stop long (inr is) = rw is tt

single_with : List Line → Letters
single_with lines = record { lines = lines; single = true }

-- two readings of one text have the same letters
pub one_single : (text : List ℕ) (letters words made : Letters) →
    made ≡ record { lines = letters.lines; single = true } → AreLines text letters.lines →
    AreLines text words.lines → made ≡ single_of words
unfolding single_with
one_single text letters words made is a b =
    is ∙ ap (λ (l : List Line). single_with l)
    (lines_are_unique text letters.lines words.lines a b)

module _ (tokens : List Token) (letters : Letters) (place : ℕ)
    (known : (k : ℕ) (word : List ℕ) → k < place → IsWordAt tokens k word →
    HasTooManyTokens letters word → ⊥) where
  -- nor at the next place
  pub short_next : ((word : List ℕ) → IsWordAt tokens place word → HasTooManyTokens letters word → ⊥) →
      (k : ℕ) (word : List ℕ) → k < place + 1 → IsWordAt tokens k word →
      HasTooManyTokens letters word → ⊥
  short_next here k word low at many = elim (less_or k place) [
    | inl early ↦ known k word early at many
    | inr late ↦ here word (subst (λ (n : ℕ). IsWordAt tokens n word)
        (let same : k ≡ place = omega (arith, low, late) in same) at) many
  ]

  -- so nowhere
  pub short_all : length tokens ≤ place → HasLongWord letters tokens → ⊥
  short_all past (word, (k, at), many) =
      let within = slice_get_within tokens k at.token at.at in
      known k word (omega (arith, within, past)) at many
