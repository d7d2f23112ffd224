-- What a cascade comes to: the fold of its single rounds, each on the text that the one before left.
-- The manual, on cascades of graphs; which rounds are listed is this program's own. Public: the crate's
-- public contracts speak of it.
use Rattle.std.specs.Prelude.{◌≡◌, ℕ, zero, suc, ◌+◌, ◌≤◌, Bool, if◌then◌else◌, List, [], ◌∷◌, ◌++◌, length, slice_index}
use Rattle.std.specs.Str.{bytes_eq}
use Rattle.ux_alphabet.specs.Letters.{Letters}
use Rattle.ux_tokens.specs.Tokens.{AreTokens, Token, joined}
use Rattle.ux_tokens.specs.declared.cutting.TheConstants.{MAX_TOKENS}
use Rattle.ux_outputs.specs.declared.hit.Hit.{Hit}
use Rattle.ux_cascade.specs.declared.outcome.Outcome.{Outcome}
use Rattle.ux_cascade.specs.declared.outcome.Round.{Round}
use Rattle.ux_cascade.specs.Rewriting.{rewritten}

-- the tokens are those of some text
abbrev pub AreOfSomeText : Letters → List Token → Type 0
AreOfSomeText alphabet tokens = (text : List ℕ) × AreTokens alphabet text tokens

-- the text has these tokens, and not too many
pub record HasTokens (alphabet : Letters) (text : List ℕ) (tokens : List Token) : Type 0 where
  pub are : AreTokens alphabet text tokens
  pub few : length tokens ≤ MAX_TOKENS

-- the tokens of both texts are the same when joined
abbrev pub reads_alike : List Token → List Token → Bool
reads_alike tokens other = bytes_eq (joined tokens) (joined other)

-- what a round came to: how many hits it rewrote, and the tokens that it left
pub record RoundResult : Type 0 where
  pub spans : ℕ
  pub tokens : List Token

-- the tokens that the last of the rounds left, or those before where there is none
abbrev pub left_by : (before : List Token) → List RoundResult → List Token
left_by before [] = before
left_by before (round ∷ rounds) = left_by round.tokens rounds

-- the rounds up to the first that left the joined tokens as they were, that one with them
abbrev pub until_alike : (before : List Token) → List RoundResult → List RoundResult
until_alike before [] = []
until_alike before (round ∷ rounds) =
    round ∷ (if reads_alike before round.tokens then [] else until_alike round.tokens rounds)

-- the rounds of a step as they are listed, numbered from this number on
abbrev pub as_listed : (step number : ℕ) → List RoundResult → List Round
as_listed step number [] = []
as_listed step number (round ∷ rounds) =
    record { step = step; round = number; spans = round.spans }
    ∷ as_listed step (number + 1) rounds

-- The hits of a step in a text are told by a relation.
module _ (alphabet : Letters) (Finds : (step : ℕ) → List Token → List Hit → Type 0) where
  -- a round: the hits of the step are rewritten, and what that gives is cut into tokens anew
  pub record IsRound (step : ℕ) (before : List Token) (spans : ℕ) (after : List Token) : Type 0 where
    pub hits : List Hit
    pub found : Finds step before hits
    pub counts : spans ≡ (rewritten before hits).spans
    pub anew : HasTokens alphabet (rewritten before hits).text after

  -- rounds of a step, each on the text that the one before left
  abbrev pub AreRounds : (step : ℕ) → (before : List Token) → List RoundResult → Type 0
  AreRounds step before [] = Unit {0}
  AreRounds step before (round ∷ rounds) =
      IsRound step before round.spans round.tokens × AreRounds step round.tokens rounds

  -- So many rounds of a step. Those up to the first that left the joined tokens as they were are
  -- listed behind earlier ones.
  pub record TakesRounds (step times : ℕ) (before : List Token) (earlier rounds : List Round)
      (after : List Token) : Type 0 where
    pub taken : List RoundResult
    pub are : AreRounds step before taken
    pub many : length taken ≡ times
    pub listed : rounds ≡ earlier ++ as_listed step 1 (until_alike before taken)
    pub left : after ≡ left_by before taken

  -- the first steps, so many of them, each on the text that the one before left
  abbrev pub AreSteps : (times : List ℕ) → (begin : List Token) → (count : ℕ) → List Round →
      (after : List Token) → Type 0
  AreSteps times begin zero rounds after = (rounds ≡ []) × (after ≡ begin)
  AreSteps times begin (suc step) rounds after =
      (earlier : List Round) × (before : List Token) × AreSteps times begin step earlier before
      × TakesRounds step (slice_index times step) before earlier rounds after

  -- all steps, each as often as its number says
  pub record IsCascade (times : List ℕ) (begin : List Token) (outcome : Outcome) : Type 0 where
    pub after : List Token
    pub steps : AreSteps times begin (length times) outcome.rounds after
    pub text_is : outcome.text ≡ joined after

  -- the same, of a text
  pub record IsCascadeOf (times text : List ℕ) (outcome : Outcome) : Type 0 where
    pub begin : List Token
    pub has : HasTokens alphabet text begin
    pub is : IsCascade times begin outcome
