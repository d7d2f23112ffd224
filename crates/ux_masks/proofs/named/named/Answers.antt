use Rattle.std.proofs.Common.{◌≡◌, ℕ, List, inl, inr, sym, subst}
use Rattle.std.specs.Prelude.{codes}
use Rattle.ux_masks.specs.declared.mask.Mask.{Mask}
use Rattle.ux_masks.specs.declared.mask.Mask.TheVariants.{Word, NotWord, Lower, NotLower, Upper, NotUpper, First, NotFirst, Dic, NotDic, SDic, NotSDic, CDic, TDic, Nb, Token}
use Rattle.ux_masks.specs.Texts.{Names, word, mot, lower, min, upper, maj, first, pre, dic, sdic, not_word, not_mot, not_lower, not_min, not_upper, not_maj, not_first, not_pre, not_dic, not_sdic, cdic, tdic, nb, token}
use Rattle.ux_masks.proofs.named.named.Goals as goal

told : (text name : List ℕ) (mask : Mask) → text ≡ name → Names name mask → Names text mask
told text name mask e is = subst (λ (t : List ℕ). Names t mask) (sym e) is

pub returns-in-WORD : goal.returns-in-WORD
returns-in-WORD c =
    elim c.in-WORD.is [
      | inl e ↦ told c.args.text.now (codes "WORD") Word e word
      | inr e ↦ told c.args.text.now (codes "MOT") Word e mot
    ]

pub returns-in-LOWER : goal.returns-in-LOWER
returns-in-LOWER c =
    elim c.in-LOWER.is [
      | inl e ↦ told c.args.text.now (codes "LOWER") Lower e lower
      | inr e ↦ told c.args.text.now (codes "MIN") Lower e min
    ]

pub returns-in-UPPER : goal.returns-in-UPPER
returns-in-UPPER c =
    elim c.in-UPPER.is [
      | inl e ↦ told c.args.text.now (codes "UPPER") Upper e upper
      | inr e ↦ told c.args.text.now (codes "MAJ") Upper e maj
    ]

pub returns-in-FIRST : goal.returns-in-FIRST
returns-in-FIRST c =
    elim c.in-FIRST.is [
      | inl e ↦ told c.args.text.now (codes "FIRST") First e first
      | inr e ↦ told c.args.text.now (codes "PRE") First e pre
    ]

pub returns-in-DIC : goal.returns-in-DIC
returns-in-DIC c = told c.args.text.now (codes "DIC") Dic c.in-DIC.is dic

pub returns-in-SDIC : goal.returns-in-SDIC
returns-in-SDIC c = told c.args.text.now (codes "SDIC") SDic c.in-SDIC.is sdic

pub returns-in-text : goal.returns-in-text
returns-in-text c =
    elim c.in-text.is [
      | inl e ↦ told c.args.text.now (codes "!WORD") NotWord e not_word
      | inr e ↦ told c.args.text.now (codes "!MOT") NotWord e not_mot
    ]

pub returns-in-text-2 : goal.returns-in-text-2
returns-in-text-2 c =
    elim c.in-text-2.is [
      | inl e ↦ told c.args.text.now (codes "!LOWER") NotLower e not_lower
      | inr e ↦ told c.args.text.now (codes "!MIN") NotLower e not_min
    ]

pub returns-in-text-3 : goal.returns-in-text-3
returns-in-text-3 c =
    elim c.in-text-3.is [
      | inl e ↦ told c.args.text.now (codes "!UPPER") NotUpper e not_upper
      | inr e ↦ told c.args.text.now (codes "!MAJ") NotUpper e not_maj
    ]

pub returns-in-text-4 : goal.returns-in-text-4
returns-in-text-4 c =
    elim c.in-text-4.is [
      | inl e ↦ told c.args.text.now (codes "!FIRST") NotFirst e not_first
      | inr e ↦ told c.args.text.now (codes "!PRE") NotFirst e not_pre
    ]

pub returns-in-text-5 : goal.returns-in-text-5
returns-in-text-5 c = told c.args.text.now (codes "!DIC") NotDic c.in-text-5.is not_dic

pub returns-in-text-6 : goal.returns-in-text-6
returns-in-text-6 c = told c.args.text.now (codes "!SDIC") NotSDic c.in-text-6.is not_sdic

pub returns-in-CDIC : goal.returns-in-CDIC
returns-in-CDIC c = told c.args.text.now (codes "CDIC") CDic c.in-CDIC.is cdic

pub returns-in-TDIC : goal.returns-in-TDIC
returns-in-TDIC c = told c.args.text.now (codes "TDIC") TDic c.in-TDIC.is tdic

pub returns-in-NB : goal.returns-in-NB
returns-in-NB c = told c.args.text.now (codes "NB") Nb c.in-NB.is nb

pub returns-in-TOKEN : goal.returns-in-TOKEN
returns-in-TOKEN c = told c.args.text.now (codes "TOKEN") Token c.in-TOKEN.is token
