-- Masks that ask for more than a form, and those that don't.
use Rattle.std.proofs.Common.{◌≡◌, ◌↔◌, Bool, List, ℕ, None, Some, refl, sym, subst}
use Rattle.std.specs.Prelude.{IsTrue}
use Rattle.std.proofs.lemmas.Option.{none-some}
use Rattle.ux_alphabet.specs.Letters.{Letters}
use Rattle.ux_dela.specs.declared.entry.Entry.{Entry}
use Rattle.ux_masks.specs.Equal.{parts_in}
use Rattle.ux_masks.specs.Meets.{Meets}
use Rattle.ux_masks.specs.declared.lexical.Parts.{Parts}
use Rattle.ux_masks.specs.declared.mask.Mask.{Mask}
use Rattle.ux_masks.specs.declared.mask.Mask.TheVariants as mask
use Rattle.ux_reading_match.specs.Matching.{AcceptsEntry, AcceptsForm}

module _ (letters : Letters) (entry : Entry) (b : Bool) where
  -- a mask that asks for codes accepts what meets it
  pub by_meeting : (m : Mask) (parts : Parts) → parts_in m ≡ Some parts → IsTrue b ↔ Meets m entry →
      IsTrue b ↔ AcceptsEntry letters m entry
  by_meeting (mask.Lexical asked) parts is same = same
  by_meeting (mask.NotLexical asked) parts is same = same
  by_meeting mask.Word parts is same = absurd (none-some parts is)
  by_meeting mask.NotWord parts is same = absurd (none-some parts is)
  by_meeting mask.Lower parts is same = absurd (none-some parts is)
  by_meeting mask.NotLower parts is same = absurd (none-some parts is)
  by_meeting mask.Upper parts is same = absurd (none-some parts is)
  by_meeting mask.NotUpper parts is same = absurd (none-some parts is)
  by_meeting mask.First parts is same = absurd (none-some parts is)
  by_meeting mask.NotFirst parts is same = absurd (none-some parts is)
  by_meeting mask.Dic parts is same = absurd (none-some parts is)
  by_meeting mask.NotDic parts is same = absurd (none-some parts is)
  by_meeting mask.SDic parts is same = absurd (none-some parts is)
  by_meeting mask.NotSDic parts is same = absurd (none-some parts is)
  by_meeting mask.CDic parts is same = absurd (none-some parts is)
  by_meeting mask.TDic parts is same = absurd (none-some parts is)
  by_meeting mask.Nb parts is same = absurd (none-some parts is)
  by_meeting mask.Token parts is same = absurd (none-some parts is)

  -- another mask looks at the form alone
  pub by_form : (m : Mask) → parts_in m ≡ None → IsTrue b ↔ AcceptsForm letters m entry.form →
      IsTrue b ↔ AcceptsEntry letters m entry
  by_form (mask.Lexical asked) is same = absurd (none-some asked (sym is))
  by_form (mask.NotLexical asked) is same = absurd (none-some asked (sym is))
  by_form mask.Word is same = same
  by_form mask.NotWord is same = same
  by_form mask.Lower is same = same
  by_form mask.NotLower is same = same
  by_form mask.Upper is same = same
  by_form mask.NotUpper is same = same
  by_form mask.First is same = same
  by_form mask.NotFirst is same = same
  by_form mask.Dic is same = same
  by_form mask.NotDic is same = same
  by_form mask.SDic is same = same
  by_form mask.NotSDic is same = same
  by_form mask.CDic is same = same
  by_form mask.TDic is same = same
  by_form mask.Nb is same = same
  by_form mask.Token is same = same
