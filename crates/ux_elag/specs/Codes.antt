-- Rules that ask entries for their codes alone. Inner: the crate's own functions alone speak of it.
use Rattle.std.specs.Prelude.{◌≡◌, ℕ, List, [], ◌∷◌, ◌++◌, All, None, Some, get_or, slice_get}
use Rattle.ux_masks.specs.declared.lexical.Parts.{Parts}
use Rattle.ux_masks.specs.declared.mask.Mask.{Mask}
use Rattle.ux_masks.specs.declared.mask.Mask.TheVariants.{Lexical as LexicalMask, NotLexical}
use Rattle.ux_reading_table.specs.Alike.{IsAlike}
use Rattle.ux_rules.specs.declared.step.Sign.{Sign}
use Rattle.ux_rules.specs.declared.step.Sign.TheVariants.{Read}
use Rattle.ux_rules.specs.declared.step.Step.{Step}
use Rattle.ux_rules.specs.declared.test.Test.{Test}
use Rattle.ux_rules.specs.declared.test.Test.TheVariants.{Form, Lexical}
use Rattle.ux_rules.specs.Rules.{RuleSteps}
use Rattle.ux_elag.specs.declared.prepared_rule.PreparedRule.{PreparedRule}

-- neither form nor lemma is told
abbrev pub AsksNoText : Parts → Type 0
AsksNoText parts = (parts.form ≡ None) × (parts.lemma ≡ None)

-- the mask is a lexical one that tells neither
abbrev pub MaskAsksCodes : Mask → Type 0
MaskAsksCodes (LexicalMask parts) = AsksNoText parts
MaskAsksCodes (NotLexical parts) = AsksNoText parts
MaskAsksCodes other = ⊥

-- the test asks an entry for its codes alone
abbrev pub TestAsksCodes : Test → Type 0
TestAsksCodes (Form text) = ⊥
TestAsksCodes (Lexical mask) = MaskAsksCodes mask
TestAsksCodes other = Unit {0}

abbrev pub AsksCodes : Sign → Type 0
AsksCodes (Read test) = TestAsksCodes test
AsksCodes other = Unit {0}

-- each of the steps does so
abbrev pub AskCodes : List Step → Type 0
AskCodes steps = All (λ (step : Step). AsksCodes step.sign) steps

-- each of the rules does so
abbrev pub AllAskCodes : List RuleSteps → Type 0
AllAskCodes rules = All (λ (rule : RuleSteps). AskCodes rule.steps) rules

-- where a reading is told beside another, they are alike, and the rules ask for nothing else
abbrev pub AreUsable : (texts : List (List ℕ)) → List RuleSteps → (likes : List ℕ) → Type 0
AreUsable texts rules likes = (place like : ℕ) → slice_get likes place ≡ Some like →
    IsAlike texts place like × AllAskCodes rules

-- the rule is the same, and has one more kind, which is that of an earlier reading
pub record NotesAgain (like : ℕ) (old new : PreparedRule) : Type 0 where
  pub rule : new.rule ≡ old.rule
  pub monitor : new.monitor ≡ old.monitor
  pub grown : new.kinds.items ≡ old.kinds.items ++ get_or old.kinds.items like 0 ∷ []
