-- Each name has one meaning.
use Rattle.std.proofs.Common.{◌≡◌, ℕ, List, refl, sym, ◌∙◌, Option, None, Some}
use Rattle.std.specs.Prelude.{codes, if◌then◌else◌}
use Rattle.std.specs.Str.{bytes_eq}
use Rattle.ux_masks.specs.declared.mask.Mask.{Mask}
use Rattle.ux_masks.specs.declared.mask.Mask.TheVariants.{Word, NotWord, Lower, NotLower, Upper, NotUpper, First, NotFirst, Dic, NotDic, SDic, NotSDic, CDic, TDic, Nb, Token}
use Rattle.ux_masks.specs.Texts.{Names, word, mot, lower, min, upper, maj, first, pre, dic, sdic, not_word, not_mot, not_lower, not_min, not_upper, not_maj, not_first, not_pre, not_dic, not_sdic, cdic, tdic, nb, token}

-- what the text means, if it is a name
abbrev pub meaning : List ℕ → Option Mask
meaning text =
    if bytes_eq text (codes "WORD") then Some Word else (
    if bytes_eq text (codes "MOT") then Some Word else (
    if bytes_eq text (codes "LOWER") then Some Lower else (
    if bytes_eq text (codes "MIN") then Some Lower else (
    if bytes_eq text (codes "UPPER") then Some Upper else (
    if bytes_eq text (codes "MAJ") then Some Upper else (
    if bytes_eq text (codes "FIRST") then Some First else (
    if bytes_eq text (codes "PRE") then Some First else (
    if bytes_eq text (codes "DIC") then Some Dic else (
    if bytes_eq text (codes "SDIC") then Some SDic else (
    if bytes_eq text (codes "!WORD") then Some NotWord else (
    if bytes_eq text (codes "!MOT") then Some NotWord else (
    if bytes_eq text (codes "!LOWER") then Some NotLower else (
    if bytes_eq text (codes "!MIN") then Some NotLower else (
    if bytes_eq text (codes "!UPPER") then Some NotUpper else (
    if bytes_eq text (codes "!MAJ") then Some NotUpper else (
    if bytes_eq text (codes "!FIRST") then Some NotFirst else (
    if bytes_eq text (codes "!PRE") then Some NotFirst else (
    if bytes_eq text (codes "!DIC") then Some NotDic else (
    if bytes_eq text (codes "!SDIC") then Some NotSDic else (
    if bytes_eq text (codes "CDIC") then Some CDic else (
    if bytes_eq text (codes "TDIC") then Some TDic else (
    if bytes_eq text (codes "NB") then Some Nb else (
    if bytes_eq text (codes "TOKEN") then Some Token else (
    None))))))))))))))))))))))))

pub names_mean : (text : List ℕ) (mask : Mask) → Names text mask → meaning text ≡ Some mask
names_mean text mask word = refl
names_mean text mask mot = refl
names_mean text mask lower = refl
names_mean text mask min = refl
names_mean text mask upper = refl
names_mean text mask maj = refl
names_mean text mask first = refl
names_mean text mask pre = refl
names_mean text mask dic = refl
names_mean text mask sdic = refl
names_mean text mask not_word = refl
names_mean text mask not_mot = refl
names_mean text mask not_lower = refl
names_mean text mask not_min = refl
names_mean text mask not_upper = refl
names_mean text mask not_maj = refl
names_mean text mask not_first = refl
names_mean text mask not_pre = refl
names_mean text mask not_dic = refl
names_mean text mask not_sdic = refl
names_mean text mask cdic = refl
names_mean text mask tdic = refl
names_mean text mask nb = refl
names_mean text mask token = refl

-- a name has one meaning
pub one_name : (text : List ℕ) (a b : Mask) → Names text a → Names text b → a ≡ b
one_name text a b p q =
    let both : Some a ≡ Some b = sym (names_mean text a p) ∙ names_mean text b q in
    cc
