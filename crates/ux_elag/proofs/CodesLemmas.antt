-- Readings of entries with the same codes are of one kind for rules that ask for codes alone.
use Rattle.std.proofs.Common.{arith, ◌≡◌, ℕ, ◌<◌, ◌⊎◌, List, [], ◌∷◌, Some, append-nil, inl, inr, sym, ◌∙◌, ap, subst, length, get_or}
use Rattle.std.specs.Prelude.{All, Contains, slice_get}
use Rattle.std.specs.List.{AllZip}
use Rattle.std.proofs.lemmas.List.Elements.{All-head, All-tail}
use Rattle.std.proofs.lemmas.Option.{get_or_from_slice_get, slice_get_within}
use Rattle.ux_dela.specs.declared.entry.Codes.{Codes}
use Rattle.ux_dela.specs.declared.entry.Entry.{Entry}
use Rattle.ux_masks.specs.Meets.{HasCharacters, Meets, MeetsParts}
use Rattle.ux_masks.specs.declared.lexical.Parts.{Parts}
use Rattle.ux_masks.specs.declared.mask.Mask.{Mask}
use Rattle.ux_masks.specs.declared.mask.Mask.TheVariants.{Lexical as LexicalMask, NotLexical}
use Rattle.ux_monitor.specs.Monitors.{kind_at}
use Rattle.ux_reading_table.specs.Alike.{HasCodesAt, codes_in}
use Rattle.ux_rules.specs.declared.step.Sign.{Sign}
use Rattle.ux_rules.specs.declared.step.Sign.TheVariants.{Free, If, Then, Read}
use Rattle.ux_rules.specs.declared.step.Step.{Step}
use Rattle.ux_rules.specs.declared.test.Test.{Test}
use Rattle.ux_rules.specs.declared.test.Test.TheVariants.{Form, Lexical, Known, Unknown, Any}
use Rattle.ux_rules.specs.Rules.{RuleSteps}
use Rattle.ux_rules.specs.Tests.{Passes}
use Rattle.ux_sentence.specs.declared.sentence.Reading.{Reading}
use Rattle.ux_sentence.specs.declared.sentence.Reading.TheVariants.{Word}
use Rattle.ux_elag.specs.declared.prepared_rule.PreparedRule.{PreparedRule}
use Rattle.ux_elag.specs.Codes.{AllAskCodes, AreUsable, AskCodes, AsksCodes, AsksNoText, MaskAsksCodes, NotesAgain, TestAsksCodes}
use Rattle.ux_elag.specs.Prepared.{HasText, IsPreparedFor, Notes}
use Rattle.ux_elag.specs.Ready.{ArePassed, IsKindFor, IsPassedBy, PassesTest}
use Rattle.ux_elag.proofs.KindsLemmas.{row-at}
use Rattle.ux_elag.proofs.PreparedLemmas.{rules_of}

module _ (one other : Entry) (same : codes_in one ≡ codes_in other) where
  -- an entry with the same codes meets parts that ask for codes alone
  parts-same : (parts : Parts) → AsksNoText parts → MeetsParts parts one → MeetsParts parts other
  parts-same parts none meets = record {
    form = rw none.0 tt;
    lemma = rw none.1 tt;
    need = subst (λ (c : Codes). All (λ (code : List ℕ). (c.gram ≡ code) ⊎ Contains c.sem code)
        parts.need) same meets.need;
    forbid = subst (λ (c : Codes). All (λ (code : List ℕ). ((c.gram ≡ code)
        ⊎ Contains c.sem code) → ⊥) parts.forbid) same meets.forbid;
    infl = subst (λ (c : Codes). (parts.infl ≡ []) ⊎ ((alternative : List ℕ)
        × Contains parts.infl alternative × ((code : List ℕ) × Contains c.infl code
        × HasCharacters code alternative))) same meets.infl;
  }

-- and so a mask
mask-same : (one other : Entry) → codes_in one ≡ codes_in other → (mask : Mask) →
    MaskAsksCodes mask → Meets mask one → Meets mask other
mask-same one other same (LexicalMask parts) asks meets = parts-same one other same parts asks meets
mask-same one other same (NotLexical parts) asks meets =
    λ met. meets (parts-same other one (sym same) parts asks met)
mask-same one other same mask asks meets = absurd asks

-- it passes the same tests
test-same : (one other : Entry) → codes_in one ≡ codes_in other → (test : Test) →
    TestAsksCodes test → Passes test (Word one) → Passes test (Word other)
test-same one other same (Form text) asks passes = absurd asks
test-same one other same (Lexical mask) asks passes = mask-same one other same mask asks passes
test-same one other same Known asks passes = passes
test-same one other same Unknown asks passes = passes
test-same one other same Any asks passes = passes

sign-same : (one other : Entry) → codes_in one ≡ codes_in other → (sign : Sign) →
    AsksCodes sign → IsPassedBy (Word one) sign → IsPassedBy (Word other) sign
sign-same one other same Free asks passes = passes
sign-same one other same If asks passes = passes
sign-same one other same Then asks passes = passes
sign-same one other same (Read test) asks passes = test-same one other same test asks passes

step-same : (steps : List Step) → AskCodes steps → (one other : Entry) →
    codes_in one ≡ codes_in other → (test : ℕ) → PassesTest steps test (Word one) →
    PassesTest steps test (Word other)
step-same steps ask one other same test (step, at, passes) =
    let asks : AsksCodes step.sign = subst (λ (s : Step). AsksCodes s.sign)
    (get_or_from_slice_get steps test step step at)
    (ask test step (slice_get_within steps test step at)) in
    (step, at, sign-same one other same step.sign asks passes)

-- the tests that the one passes are those that the other passes
passed-same : (steps : List Step) → AskCodes steps → (one other : Entry) →
    codes_in one ≡ codes_in other → (tests : List ℕ) → ArePassed steps (Word one) tests →
    ArePassed steps (Word other) tests
passed-same steps ask one other same tests are test = (
  λ has. step-same steps ask one other same test ((are test).0 has),
  λ passes. (are test).1 (step-same steps ask other one (sym same) test passes),
)

-- the text at the place is that of the entry
entry-at : (texts : List (List ℕ)) (codes : Codes) (place : ℕ) →
    (has : HasCodesAt texts codes place) → HasText texts place (Word has.2.entry)
entry-at texts codes place has = record {
  spellable = has.2.sound;
  text = has.1 ∙ ap Some has.2.text_is;
}

-- a rule that has noted the kind of a reading like this one has noted its kind
one-again : (texts : List (List ℕ)) (count like : ℕ) (codes : Codes) →
    (here : HasCodesAt texts codes count) → (there : HasCodesAt texts codes like) → like < count →
    (old new : PreparedRule) → AskCodes old.rule.steps → IsPreparedFor texts count old →
    NotesAgain like old new → Notes (Word here.2.entry) old new
one-again texts count like codes here there less old new ask is notes =
    let number = get_or old.kinds.items like 0 in
    let inside : like < length old.kinds.items =
    let counted = is.kinds.counted in omega (arith, counted, less) in
    let there_passed = is.kinds.rows like (Word there.2.entry) less
    (entry-at texts codes like there) in
    let of_kind = subst (ArePassed old.rule.steps (Word there.2.entry))
    (row-at old.monitor.kinds old.kinds.items like inside) there_passed in
    let kind : IsKindFor old.rule.steps (Word here.2.entry) old.monitor.kinds number = record {
      inside = is.kinds.inside like 0 inside;
      passed = passed-same old.rule.steps ask there.2.entry here.2.entry
          (there.2.codes_are ∙ sym here.2.codes_are)
          (kind_at old.monitor.kinds number) of_kind;
    } in
    record {
      rule = notes.rule;
      watched = ap (λ m. m.rule) notes.monitor;
      more = ([], ap (λ m. m.kinds) notes.monitor ∙ sym (append-nil old.monitor.kinds));
      number = number;
      grown = notes.grown;
      kind = subst (λ m. IsKindFor new.rule.steps (Word here.2.entry) m.kinds number)
          (sym notes.monitor)
          (subst (λ (r : RuleSteps). IsKindFor r.steps (Word here.2.entry) old.monitor.kinds number)
          (sym notes.rule) kind);
    }

-- and so have all
all-again : (texts : List (List ℕ)) (count like : ℕ) (codes : Codes) →
    (here : HasCodesAt texts codes count) → (there : HasCodesAt texts codes like) → like < count →
    (old new : List PreparedRule) → AllAskCodes (rules_of old) →
    All (IsPreparedFor texts count) old → AllZip (NotesAgain like) old new →
    AllZip (Notes (Word here.2.entry)) old new
all-again texts count like codes here there less [] [] ask each notes = tt
all-again texts count like codes here there less [] (y ∷ new) ask each notes = absurd notes
all-again texts count like codes here there less (x ∷ old) [] ask each notes = absurd notes
all-again texts count like codes here there less (x ∷ old) (y ∷ new) ask each notes =
    let asks = λ (rule : RuleSteps). AskCodes rule.steps in (
      one-again texts count like codes here there less x y
          (All-head asks x.rule (rules_of old) ask)
          (All-head (IsPreparedFor texts count) x old each) notes.0,
      all-again texts count like codes here there less old new
          (All-tail asks x.rule (rules_of old) ask)
          (All-tail (IsPreparedFor texts count) x old each) notes.1,
    )

-- a reading that is like an earlier one is noted
pub noted-again : (texts : List (List ℕ)) (count like : ℕ) (likes : List ℕ)
    (old new : List PreparedRule) → AreUsable texts (rules_of old) likes →
    slice_get likes count ≡ Some like → like < count → All (IsPreparedFor texts count) old →
    AllZip (NotesAgain like) old new →
    (reading : Reading) × HasText texts count reading × AllZip (Notes reading) old new
noted-again texts count like likes old new usable at less each notes =
    let found = usable count like at in
    elim found.0 [
      | inl same ↦ absurd (omega (arith, same, less))
      | inr both ↦ (
        Word both.1.2.entry,
        entry-at texts both.0 count both.1,
        all-again texts count like both.0 both.1 both.2 less old new found.1 each notes,
      )
    ]

-- each rule has a kind for the earlier reading
pub kinds-long : (texts : List (List ℕ)) (count like : ℕ) (rules : List PreparedRule) →
    like < count → All (IsPreparedFor texts count) rules →
    All (λ (rule : PreparedRule). like < length rule.kinds.items) rules
kinds-long texts count like rules less each k d lt =
    let counted = (each k d lt).kinds.counted in omega (arith, counted, less)
