-- Where each step has one list of hits in a text, a cascade comes to one thing: one text with one list
-- of rounds, or too many tokens.
use Rattle.std.proofs.Common.{arith, ◌≡◌, ℕ, zero, suc, ◌<◌, List, [], ◌∷◌, ◌++◌, refl, sym, ap, subst, ◌∙◌, length, inl, inr}
use Rattle.std.specs.Prelude.{◌⊎◌, slice_index}
use Rattle.ux_alphabet.specs.Letters.{Letters}
use Rattle.ux_tokens.specs.Tokens.{AreTokens, Token, joined}
use Rattle.ux_tokens.specs.Reading.{HasTooManyTokens}
use Rattle.ux_tokens.proofs.UniqueLemmas.{tokens_unique}
use Rattle.ux_outputs.specs.declared.hit.Hit.{Hit}
use Rattle.ux_cascade.specs.declared.outcome.Outcome.{Outcome}
use Rattle.ux_cascade.specs.declared.outcome.Round.{Round}
use Rattle.ux_cascade.specs.Rewriting.{rewritten}
use Rattle.ux_cascade.specs.Cascades.{AreRounds, AreSteps, HasTokens, IsCascade, IsRound, RoundResult, as_listed, left_by, until_alike}
use Rattle.ux_cascade.specs.Refusing.{IsStepTooLong, LeavesTooMany}

-- no text has few tokens and too many
few_or_many : (alphabet : Letters) (text : List ℕ) (tokens : List Token) →
    HasTokens alphabet text tokens → HasTooManyTokens alphabet text → ⊥
few_or_many alphabet text tokens has many =
    let same = ap length (tokens_unique alphabet text tokens many.0 has.are many.1) in
    omega (arith, same, has.few, many.2)

last_or_earlier : (count n : ℕ) → n < suc count → (n ≡ count) ⊎ (n < count)
last_or_earlier count n lt = grind arith

-- what a round came to
abbrev result : ℕ → List Token → RoundResult
result spans tokens = record { spans = spans; tokens = tokens }

-- a text with these rounds
abbrev pub made : List ℕ → List Round → Outcome
made text rounds = record { text = text; rounds = rounds }

outcome_same : (outcome other : Outcome) → outcome.text ≡ other.text →
    outcome.rounds ≡ other.rounds → outcome ≡ other
outcome_same outcome other texts rounds =
    ap (λ (t : List ℕ). made t outcome.rounds) texts
    ∙ ap (λ (l : List Round). made other.text l) rounds

module _ (alphabet : Letters) (Finds : (step : ℕ) → List Token → List Hit → Type 0)
    (one_list : (step : ℕ) (tokens : List Token) (one other : List Hit) → Finds step tokens one →
    Finds step tokens other → one ≡ other) where
  module _ (step : ℕ) where
    -- a round leaves one text, by one number of hits
    one_round : (before : List Token) (spans spans' : ℕ) (after after' : List Token) →
        IsRound alphabet Finds step before spans after →
        IsRound alphabet Finds step before spans' after' → (spans ≡ spans') × (after ≡ after')
    one_round before spans spans' after after' a b =
        let same = one_list step before a.hits b.hits a.found b.found in (
          a.counts ∙ (ap (λ (l : List Hit). (rewritten before l).spans) same ∙ sym b.counts),
          tokens_unique alphabet (rewritten before b.hits).text after after'
              (subst (λ (l : List Hit). AreTokens alphabet (rewritten before l).text after) same a.anew.are)
              b.anew.are,
        )

    same_first : (before : List Token) (one other : RoundResult) →
        IsRound alphabet Finds step before one.spans one.tokens →
        IsRound alphabet Finds step before other.spans other.tokens → one ≡ other
    same_first before one other a b =
        let same = one_round before one.spans other.spans one.tokens other.tokens a b in
        ap (λ n. result n one.tokens) same.0 ∙ ap (λ (l : List Token). result other.spans l) same.1

    -- and so do any number of them
    one_list_of : (before : List Token) (one other : List RoundResult) →
        AreRounds alphabet Finds step before one → AreRounds alphabet Finds step before other →
        length one ≡ length other → one ≡ other
    one_list_of before [] [] a b same = refl
    one_list_of before [] (y ∷ other) a b same = absurd (omega (arith, same))
    one_list_of before (x ∷ one) [] a b same = absurd (omega (arith, same))
    one_list_of before (x ∷ one) (y ∷ other) (a, rest) (b, bs) same =
        let first = same_first before x y a b in
        ap (λ (r : RoundResult). r ∷ one) first
        ∙ ap (λ (l : List RoundResult). y ∷ l)
        (one_list_of y.tokens one other
        (subst (λ (r : RoundResult). AreRounds alphabet Finds step r.tokens one) first rest) bs
        (omega (arith, same)))

    -- after fewer rounds another one is taken
    another : (before : List Token) (all taken : List RoundResult) →
        AreRounds alphabet Finds step before all → AreRounds alphabet Finds step before taken →
        length taken < length all →
        (round : RoundResult)
        × IsRound alphabet Finds step (left_by before taken) round.spans round.tokens
    another before [] taken are fewer lt = absurd (omega (arith, lt))
    another before (x ∷ all) [] (a, rest) fewer lt = (x, a)
    another before (x ∷ all) (y ∷ taken) (a, rest) (b, bs) lt =
        another y.tokens all taken
        (subst (λ (r : RoundResult). AreRounds alphabet Finds step r.tokens all)
        (same_first before x y a b) rest) bs (omega (arith, lt))

    -- no step's rounds leave few tokens and too many
    few_rounds : (before : List Token) (times : ℕ) (all : List RoundResult) →
        AreRounds alphabet Finds step before all → length all ≡ times →
        IsStepTooLong alphabet Finds step times before → ⊥
    few_rounds before times all are many long =
        let within = long.within in
        let next = another before all long.earlier are long.are (omega (arith, within, many)) in
        let tokens = left_by before long.earlier in
        let round = next.1 in
        let hits = one_list step tokens round.hits long.long.0 round.found long.long.1 in
        few_or_many alphabet (rewritten tokens long.long.0).text next.0.tokens
        (subst (λ (l : List Hit). HasTokens alphabet (rewritten tokens l).text next.0.tokens) hits
        round.anew) long.long.2

  module _ (times : List ℕ) (begin : List Token) where
    -- the first steps leave one text, and list one list of rounds
    one_reached : (count : ℕ) (rounds rounds' : List Round) (after after' : List Token) →
        AreSteps alphabet Finds times begin count rounds after →
        AreSteps alphabet Finds times begin count rounds' after' →
        (rounds ≡ rounds') × (after ≡ after')
    one_reached zero rounds rounds' after after' a b = (a.0 ∙ sym b.0, a.1 ∙ sym b.1)
    one_reached (suc step) rounds rounds' after after' (earlier, before, steps, taken)
        (earlier', before', steps', taken') =
        let same = one_reached step earlier earlier' before before' steps steps' in
        let all = one_list_of step before' taken.taken taken'.taken
        (subst (λ (l : List Token). AreRounds alphabet Finds step l taken.taken) same.1 taken.are)
        taken'.are (taken.many ∙ sym taken'.many) in (
          taken.listed
              ∙ (ap (λ (l : List Round). l ++ as_listed step 1 (until_alike before taken.taken)) same.0
              ∙ (ap (λ (l : List Token). earlier' ++ as_listed step 1 (until_alike l taken.taken))
              same.1
              ∙ (ap (λ (l : List RoundResult). earlier' ++ as_listed step 1 (until_alike before' l))
              all
              ∙ sym taken'.listed))),
          taken.left ∙ (ap (λ (l : List Token). left_by l taken.taken) same.1
              ∙ (ap (λ (l : List RoundResult). left_by before' l) all ∙ sym taken'.left)),
        )

    -- of so many steps an earlier one
    pub record HasStep (step : ℕ) : Type 0 where
      pub rounds : List Round
      pub before : List Token
      pub steps : AreSteps alphabet Finds times begin step rounds before
      pub taken : List RoundResult
      pub are : AreRounds alphabet Finds step before taken
      pub many : length taken ≡ slice_index times step

    step_at : (count step : ℕ) (rounds : List Round) (after : List Token) → step < count →
        AreSteps alphabet Finds times begin count rounds after → HasStep step
    step_at zero step rounds after lt steps = absurd (omega (arith, lt))
    step_at (suc count) step rounds after lt (earlier, before, steps, taken) =
        elim (last_or_earlier count step lt) [
          | inl last ↦ subst HasStep (sym last) (record {
            rounds = earlier;
            before = before;
            steps = steps;
            taken = taken.taken;
            are = taken.are;
            many = taken.many;
          })
          | inr lower ↦ step_at count step earlier before lower steps
        ]

    -- no cascade leaves few tokens in each round, and too many in one
    pub few_left : (outcome : Outcome) → IsCascade alphabet Finds times begin outcome →
        LeavesTooMany alphabet Finds times begin → ⊥
    few_left outcome is long =
        let at = step_at (length times) long.step outcome.rounds is.after long.within is.steps in
        let same = one_reached long.step at.rounds long.rounds at.before long.before at.steps long.steps
        in
        few_rounds long.step long.before (slice_index times long.step) at.taken
        (subst (λ (l : List Token). AreRounds alphabet Finds long.step l at.taken) same.1 at.are)
        at.many long.long

    -- and it comes to one thing
    pub one_outcome : (outcome other : Outcome) → IsCascade alphabet Finds times begin outcome →
        IsCascade alphabet Finds times begin other → outcome ≡ other
    one_outcome outcome other a b =
        let same = one_reached (length times) outcome.rounds other.rounds a.after b.after a.steps b.steps
        in
        outcome_same outcome other (a.text_is ∙ (ap joined same.1 ∙ sym b.text_is)) same.0
