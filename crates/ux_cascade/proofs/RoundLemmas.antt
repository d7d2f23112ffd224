-- The rounds of a step, one more each time, until one leaves the text as it was.
use Rattle.std.proofs.Common.{arith, ◌≡◌, ℕ, zero, suc, ◌+◌, ◌-◌, ◌<◌, true, false, Bool, List, [], ◌∷◌, ◌++◌, refl, sym, ap, subst, ◌∙◌, length, add-one, append_assoc, append-nil, length-append}
use Rattle.std.specs.Prelude.{slice_index, if◌then◌else◌}
use Rattle.std.proofs.lemmas.Slice.Eq.{bytes_eq-Decides}
use Rattle.ux_alphabet.specs.Letters.{Letters}
use Rattle.ux_tokens.specs.Tokens.{AreCutAtMarks, AreTokens, Token, joined}
use Rattle.ux_tokens.proofs.UniqueLemmas.{tokens_unique}
use Rattle.ux_outputs.specs.declared.hit.Hit.{Hit}
use Rattle.ux_cascade.specs.declared.outcome.Round.{Round}
use Rattle.ux_cascade.specs.Rewriting.{rewritten}
use Rattle.ux_cascade.specs.Cascades.{AreOfSomeText, AreRounds, AreSteps, IsRound, RoundResult, TakesRounds, as_listed, left_by, reads_alike, until_alike}
use Rattle.ux_cascade.specs.Refusing.{IsRoundTooLong, IsStepTooLong}

-- a text that reads as the tokens before has these tokens
pub same_tokens : (alphabet : Letters) (text : List ℕ) (before after : List Token) →
    AreOfSomeText alphabet before → AreTokens alphabet text after → reads_alike before after ≡ true →
    after ≡ before
same_tokens alphabet text before after cut are alike =
    let same = (bytes_eq-Decides (joined before) (joined after)).0 alike in
    let spaced = sym cut.1.cut.whole ∙ (same ∙ are.cut.whole) in
    tokens_unique alphabet text after before are
    (subst (λ (t : List ℕ). AreCutAtMarks alphabet t before) spaced cut.1)

-- what rounds that follow others leave
left_behind : (before : List Token) (rounds others : List RoundResult) →
    left_by before (rounds ++ others) ≡ left_by (left_by before rounds) others
left_behind before [] others = refl
left_behind before (round ∷ rounds) others = left_behind round.tokens rounds others

-- they are listed behind these
listed_behind : (step number next : ℕ) (rounds others : List RoundResult) →
    next ≡ number + length rounds →
    as_listed step number (rounds ++ others)
    ≡ as_listed step number rounds ++ as_listed step next others
listed_behind step number next [] others is =
    let same : number ≡ next = omega (arith, is) in
    ap (λ n. as_listed step n others) same
listed_behind step number next (round ∷ rounds) others is =
    ap (λ (l : List Round). record { step = step; round = number; spans = round.spans } ∷ l)
    (listed_behind step (number + 1) next rounds others (omega (arith, is)))

-- each of the rounds changed the joined tokens
abbrev pub AllChange : (before : List Token) → List RoundResult → Type 0
AllChange before [] = Unit {0}
AllChange before (round ∷ rounds) =
    (reads_alike before round.tokens ≡ false) × AllChange round.tokens rounds

change_behind : (before : List Token) (rounds : List RoundResult) (one : RoundResult) →
    AllChange before rounds → reads_alike (left_by before rounds) one.tokens ≡ false →
    AllChange before (rounds ++ one ∷ [])
change_behind before [] one none changed = (changed, tt)
change_behind before (round ∷ rounds) one (first, rest) changed =
    (first, change_behind round.tokens rounds one rest changed)

-- where each of them did, the first that didn't is among those that follow
until_behind : (before : List Token) (rounds others : List RoundResult) → AllChange before rounds →
    until_alike before (rounds ++ others)
    ≡ rounds ++ until_alike (left_by before rounds) others
until_behind before [] others none = refl
until_behind before (round ∷ rounds) others (first, rest) =
    ap (λ (b : Bool).
    round ∷ (if b then [] else until_alike round.tokens (rounds ++ others))) first
    ∙ ap (λ (l : List RoundResult). round ∷ l) (until_behind round.tokens rounds others rest)

-- the last round left the joined tokens as they were, and no earlier one
until_last : (before : List Token) (rounds others : List RoundResult) (one : RoundResult) →
    AllChange before rounds → reads_alike (left_by before rounds) one.tokens ≡ true →
    until_alike before (rounds ++ one ∷ others) ≡ rounds ++ one ∷ []
until_last before rounds others one changed alike =
    until_behind before rounds (one ∷ others) changed
    ∙ ap (λ (b : Bool).
    rounds ++ one ∷ (if b then [] else until_alike one.tokens others)) alike

-- none did
until_all : (before : List Token) (rounds : List RoundResult) → AllChange before rounds →
    until_alike before rounds ≡ rounds
until_all before [] none = refl
until_all before (round ∷ rounds) (first, rest) =
    ap (λ (b : Bool). round ∷ (if b then [] else until_alike round.tokens rounds)) first
    ∙ ap (λ (l : List RoundResult). round ∷ l) (until_all round.tokens rounds rest)

-- so many rounds that do the same
abbrev again : ℕ → RoundResult → List RoundResult
again zero one = []
again (suc more) one = one ∷ again more one

again_many : (more : ℕ) (one : RoundResult) → length (again more one) ≡ more
again_many zero one = refl
again_many (suc more) one = ap suc (again_many more one)

left_again : (more : ℕ) (one : RoundResult) → left_by one.tokens (again more one) ≡ one.tokens
left_again zero one = refl
left_again (suc more) one = left_again more one

module _ (alphabet : Letters) (Finds : (step : ℕ) → List Token → List Hit → Type 0) (step : ℕ) where
  rounds_behind : (before : List Token) (rounds others : List RoundResult) →
      AreRounds alphabet Finds step before rounds →
      AreRounds alphabet Finds step (left_by before rounds) others →
      AreRounds alphabet Finds step before (rounds ++ others)
  rounds_behind before [] others none are = are
  rounds_behind before (round ∷ rounds) others (first, rest) are =
      (first, rounds_behind round.tokens rounds others rest are)

  rounds_again : (more : ℕ) (one : RoundResult) →
      IsRound alphabet Finds step one.tokens one.spans one.tokens →
      AreRounds alphabet Finds step one.tokens (again more one)
  rounds_again zero one round = tt
  rounds_again (suc more) one round = (round, rounds_again more one round)

  module _ (before : List Token) where
    -- so many rounds were taken, of which each changed the text, and all are listed behind earlier
    -- ones
    pub record IsUnderWay (count : ℕ) (earlier rounds : List Round) (tokens : List Token) : Type 0 where
      pub taken : List RoundResult
      pub are : AreRounds alphabet Finds step before taken
      pub changed : AllChange before taken
      pub many : length taken ≡ count
      pub listed : rounds ≡ earlier ++ as_listed step 1 taken
      pub left : tokens ≡ left_by before taken
      pub cut : AreOfSomeText alphabet tokens

    -- none is taken yet
    pub under_way_begun : (earlier : List Round) → AreOfSomeText alphabet before →
        IsUnderWay 0 earlier earlier before
    under_way_begun earlier cut = record {
      taken = [];
      are = tt;
      changed = tt;
      many = refl;
      listed = sym (append-nil earlier);
      left = refl;
      cut = cut;
    }

    -- all are taken
    pub under_way_over : (count times : ℕ) (earlier rounds : List Round) (tokens : List Token) →
        count ≡ times → IsUnderWay count earlier rounds tokens →
        TakesRounds alphabet Finds step times before earlier rounds tokens
    under_way_over count times earlier rounds tokens over under_way = record {
      taken = under_way.taken;
      are = under_way.are;
      many = under_way.many ∙ over;
      listed =
          under_way.listed
          ∙ ap (λ (l : List RoundResult). earlier ++ as_listed step 1 l)
          (sym (until_all before under_way.taken under_way.changed));
      left = under_way.left;
    }

    module _ (count spans : ℕ) (earlier rounds : List Round) (tokens after : List Token)
        (under_way : IsUnderWay count earlier rounds tokens) where
      abbrev this_round : List Round
      this_round = record { step = step; round = count + 1; spans = spans } ∷ []

      abbrev this : RoundResult
      this = record { spans = spans; tokens = after }

      here : (Is : List Token → Type 0) → Is tokens → Is (left_by before under_way.taken)
      here Is is = subst Is under_way.left is

      listed_now : rounds ++ this_round
          ≡ earlier ++ as_listed step 1 (under_way.taken ++ this ∷ [])
      listed_now =
          let many = under_way.many in
          ap (λ (l : List Round). l ++ this_round) under_way.listed
          ∙ (append_assoc earlier (as_listed step 1 under_way.taken) this_round
          ∙ ap (λ (l : List Round). earlier ++ l)
          (sym (listed_behind step 1 (count + 1) under_way.taken (this ∷ []) (omega (arith, many)))))

      -- a round that changes the text is listed, and more follow
      pub under_way_more : IsRound alphabet Finds step tokens spans after →
          reads_alike tokens after ≡ false →
          IsUnderWay (count + 1) earlier (rounds ++ this_round) after
      under_way_more round changed =
          let len = length-append under_way.taken (this ∷ []) in
          let many = under_way.many in
          record {
            taken = under_way.taken ++ this ∷ [];
            are = rounds_behind before under_way.taken (this ∷ []) under_way.are
                (here (λ (t : List Token). IsRound alphabet Finds step t spans after) round, tt);
            changed = change_behind before under_way.taken this under_way.changed
                (here (λ (t : List Token). reads_alike t after ≡ false) changed);
            many = omega (arith, len, many);
            listed = listed_now;
            left = sym (left_behind before under_way.taken (this ∷ []));
            cut = ((rewritten tokens round.hits).text, round.anew.are);
          }

      -- one that leaves it as it was is the last that is listed
      pub under_way_settled : (times : ℕ) → count < times →
          IsRound alphabet Finds step tokens spans after → reads_alike tokens after ≡ true →
          TakesRounds alphabet Finds step times before earlier (rounds ++ this_round) after
      under_way_settled times within round alike =
          let taken = under_way.taken in
          let same = same_tokens alphabet (rewritten tokens round.hits).text tokens after under_way.cut
          round.anew.are alike in
          let repeated : IsRound alphabet Finds step after spans after =
          subst (λ (t : List Token). IsRound alphabet Finds step t spans after) (sym same) round in
          let more = times - (count + 1) in
          let others = again more this in
          let len = length-append taken (this ∷ others) in
          let many = under_way.many in
          let rest = again_many more this in
          record {
            taken = taken ++ this ∷ others;
            are = rounds_behind before taken (this ∷ others) under_way.are (
              here (λ (t : List Token). IsRound alphabet Finds step t spans after) round,
              rounds_again more this repeated,
            );
            many = omega (arith, len, many, rest, within);
            listed =
                listed_now
                ∙ ap (λ (l : List RoundResult). earlier ++ as_listed step 1 l)
                (sym (until_last before taken others this under_way.changed
                (here (λ (t : List Token). reads_alike t after ≡ true) alike)));
            left = sym (left_behind before taken (this ∷ others) ∙ left_again more this);
          }

    -- a round that leaves too many tokens
    pub under_way_long : (count times : ℕ) (earlier rounds : List Round) (tokens : List Token) →
        count < times → IsUnderWay count earlier rounds tokens →
        IsRoundTooLong alphabet Finds step tokens → IsStepTooLong alphabet Finds step times before
    under_way_long count times earlier rounds tokens within under_way long =
        let many = under_way.many in
        record {
          earlier = under_way.taken;
          are = under_way.are;
          within = omega (arith, many, within);
          long = subst (λ (t : List Token). IsRoundTooLong alphabet Finds step t) under_way.left long;
        }

-- one more step
pub steps_more : (alphabet : Letters) (Finds : (step : ℕ) → List Token → List Hit → Type 0)
    (times : List ℕ) (begin : List Token) (step count : ℕ) (earlier rounds : List Round)
    (before after : List Token) → count ≡ slice_index times step →
    AreSteps alphabet Finds times begin step earlier before →
    TakesRounds alphabet Finds step count before earlier rounds after →
    AreSteps alphabet Finds times begin (step + 1) rounds after
steps_more alphabet Finds times begin step count earlier rounds before after is steps taken =
    subst (λ n. AreSteps alphabet Finds times begin n rounds after) (sym (add-one step)) (
      earlier,
      before,
      steps,
      subst (λ n. TakesRounds alphabet Finds step n before earlier rounds after) is taken,
    )
