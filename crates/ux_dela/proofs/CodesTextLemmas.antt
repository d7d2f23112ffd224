-- Which texts are printed codes.
use Rattle.std.proofs.Common.{◌≡◌, ℕ, List, [], ◌∷◌, ◌++◌, refl, sym, ◌∙◌, ap, subst, length}
use Rattle.std.specs.Prelude.{◌==◌, Option, None, Some, MatchOption}
use Rattle.std.proofs.lemmas.Bool.{or_right, both_ways}
use Rattle.std.proofs.lemmas.List.{append-nil}
use Rattle.ux_dela.specs.Signs.{BACKSLASH, is_slash, is_printed_code_sign}
use Rattle.ux_dela.specs.Written.{Written, bare, protected, written, IsPart, is_end, meant, all_meant}
use Rattle.ux_dela.specs.Codes.{EndsCode, IsCodeList, IsEmptyAt}
use Rattle.ux_dela.specs.Sound.{HasNoFeed, AreSoundCodes}
use Rattle.ux_dela.specs.Printed.{shielded, all_shielded, shielded_codes, printed_list, IsCodesText}
use Rattle.ux_dela.specs.Reading.{characters, IsSplit, IsListed, MayBeCodes}
use Rattle.ux_dela.specs.declared.entry.Codes.{Codes}
use Rattle.ux_dela.specs.declared.part.Stop.TheVariants.{Slash}
use Rattle.ux_dela.proofs.CharactersLemmas.{written-characters, characters_part}
use Rattle.ux_dela.proofs.CutLemmas.{no_text}
use Rattle.ux_dela.proofs.RunLemmas.{ends_code}
use Rattle.ux_dela.proofs.ListLemmas.{behind_gram}
use Rattle.ux_dela.proofs.CodesLemmas.{one_list, none_is_empty}
use Rattle.ux_dela.proofs.SoundLemmas.{sound_list}
use Rattle.ux_dela.proofs.PrintLemmas.{shielded_meant, all_shielded_meant, printed_are_list, printed_part, printed_no_feed}

-- a text of which nothing is left is a part
pub whole_part : (text front rest : List ℕ) → IsSplit is_slash text front rest → length rest ≡ 0 →
    IsPart is_slash (characters text)
whole_part text front rest split none =
    let same : front ≡ text =
    sym (append-nil front) ∙ ap (λ t. front ++ t) (sym (no_text rest none)) ∙ sym split.whole in
    subst (λ (t : List ℕ). IsPart is_slash (characters t)) same split.part

-- a part doesn't begin where one ends
none_left : (w : List Written) → EndsCode is_slash w → IsPart is_slash w → w ≡ []
none_left [] ends part = refl
none_left (bare b ∷ w) ends part =
    absurd (both_ways (is_end is_slash b) part.0 (or_right (b == BACKSLASH) (is_slash b) ends))
none_left (protected b ∷ w) ends part = absurd ends

pub part_whole : (text front rest : List ℕ) → IsSplit is_slash text front rest →
    IsPart is_slash (characters text) → rest ≡ []
part_whole text front rest split part =
    let closed = behind_gram text front rest is_slash part split in
    sym (written-characters rest)
    ∙ ap written (none_left (characters rest) (ends_code Slash rest closed split.ends) closed)

-- printed codes are read as they were printed
printed_read : (text : List ℕ) (codes : Codes) → IsCodesText text codes →
    characters text ≡ shielded_codes codes.gram codes.sem codes.infl
printed_read text codes is =
    ap characters is.printed
    ∙ characters_part is_slash (shielded_codes codes.gram codes.sem codes.infl)
    (printed_part codes.gram codes.sem codes.infl)

printed_list_read : (text : List ℕ) (codes : Codes) → IsCodesText text codes →
    IsCodeList (characters text) (shielded is_printed_code_sign codes.gram)
    (all_shielded is_printed_code_sign codes.sem) (all_shielded is_printed_code_sign codes.infl)
printed_list_read text codes is =
    subst (λ (w : List Written). IsCodeList w (shielded is_printed_code_sign codes.gram)
    (all_shielded is_printed_code_sign codes.sem) (all_shielded is_printed_code_sign codes.infl))
    (sym (printed_read text codes is))
    (printed_are_list codes.gram codes.sem codes.infl is.sound)

-- a text of printed codes lists them
pub printed_listed : (text : List ℕ) (codes : Codes) → IsCodesText text codes → IsListed text codes
printed_listed text codes is = record {
  gram = shielded is_printed_code_sign codes.gram;
  sem = all_shielded is_printed_code_sign codes.sem;
  infl = all_shielded is_printed_code_sign codes.infl;
  list = printed_list_read text codes is;
  is_gram = sym (shielded_meant is_printed_code_sign codes.gram);
  is_sem = sym (all_shielded_meant is_printed_code_sign codes.sem);
  is_infl = sym (all_shielded_meant is_printed_code_sign codes.infl);
}

-- a text of printed codes may be one
pub codes_may_be : (text : List ℕ) (codes : Codes) → IsCodesText text codes → MayBeCodes text
codes_may_be text codes is = (
  subst (λ (t : List ℕ). HasNoFeed t) (sym is.printed)
      (printed_no_feed codes.gram codes.sem codes.infl is.sound),
  subst (λ (w : List Written). IsPart is_slash w) (sym (printed_read text codes is))
      (printed_part codes.gram codes.sem codes.infl),
)

-- none of its codes is empty
pub codes_not_empty : (text : List ℕ) (place : ℕ) (codes : Codes) →
    IsEmptyAt (characters text) place → IsCodesText text codes → ⊥
codes_not_empty text place codes empty is =
    none_is_empty (characters text) (shielded is_printed_code_sign codes.gram)
    (all_shielded is_printed_code_sign codes.sem) (all_shielded is_printed_code_sign codes.infl)
    place empty (printed_list_read text codes is)

-- the codes that were read are those that were printed
pub codes_same : (text : List ℕ) (read codes : Codes) → IsListed text read →
    IsCodesText text codes → text ≡ printed_list read.gram read.sem read.infl
codes_same text read codes l is =
    let same = one_list (characters text) l.gram (shielded is_printed_code_sign codes.gram) l.sem
    l.infl (all_shielded is_printed_code_sign codes.sem)
    (all_shielded is_printed_code_sign codes.infl) l.list (printed_list_read text codes is) in
    let gram : codes.gram ≡ read.gram =
    sym (l.is_gram ∙ ap meant same.0 ∙ shielded_meant is_printed_code_sign codes.gram) in
    let sem : codes.sem ≡ read.sem =
    sym (l.is_sem ∙ ap all_meant same.1 ∙ all_shielded_meant is_printed_code_sign codes.sem) in
    let infl : codes.infl ≡ read.infl =
    sym (l.is_infl ∙ ap all_meant same.2 ∙ all_shielded_meant is_printed_code_sign codes.infl) in
    is.printed ∙ ap (λ g. printed_list g codes.sem codes.infl) gram
    ∙ ap (λ s. printed_list read.gram s codes.infl) sem
    ∙ ap (λ i. printed_list read.gram read.sem i) infl

-- codes that are printed as the text they were read from are sound
pub codes_sound : (text : List ℕ) (read : Codes) → MayBeCodes text → IsListed text read →
    text ≡ printed_list read.gram read.sem read.infl → IsCodesText text read
codes_sound text read may l e =
    let sound = sound_list (characters text) l.gram l.sem l.infl l.list
    (subst (λ (t : List ℕ). HasNoFeed t) (sym (written-characters text)) may.0) in
    record {
      printed = e;
      sound = subst (λ (i : List (List ℕ)). AreSoundCodes read.gram read.sem i) (sym l.is_infl)
          (subst (λ (s : List (List ℕ)). AreSoundCodes read.gram s (all_meant l.infl))
          (sym l.is_sem)
          (subst (λ (g : List ℕ). AreSoundCodes g (all_meant l.sem) (all_meant l.infl))
          (sym l.is_gram) sound));
    }

-- what is found by printing the codes again is exact
pub codes_found : (text : List ℕ) (read : Codes) → MayBeCodes text → IsListed text read →
    (found : Option Codes) →
    MatchOption found (text ≡ printed_list read.gram read.sem read.infl → ⊥)
    (λ given. (given ≡ read) × (text ≡ printed_list read.gram read.sem read.infl)) →
    MatchOption found ((codes : Codes) → IsCodesText text codes → ⊥) (IsCodesText text)
codes_found text read may l None other = λ codes is. other (codes_same text read codes l is)
codes_found text read may l (Some given) is =
    subst (λ (g : Codes). IsCodesText text g) (sym is.0) (codes_sound text read may l is.1)
