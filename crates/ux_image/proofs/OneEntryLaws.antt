-- A code makes one entry of a form: printed codes are read in one way.
use Rattle.std.proofs.Common.{◌≡◌, ℕ, List, sym, ◌∙◌, ap, subst}
use Rattle.ux_dela.specs.Codes.{IsCodeList}
use Rattle.ux_dela.specs.Printed.{shielded, all_shielded, shielded_codes, IsCodesText}
use Rattle.ux_dela.specs.Reading.{characters}
use Rattle.ux_dela.specs.Signs.{is_slash, is_printed_code_sign}
use Rattle.ux_dela.specs.Written.{Written, meant, all_meant}
use Rattle.ux_dela.specs.declared.entry.Codes.{Codes}
use Rattle.ux_dela.specs.declared.entry.Entry.{Entry}
use Rattle.ux_dela.proofs.CharactersLemmas.{characters_part}
use Rattle.ux_dela.proofs.CodesLemmas.{one_list}
use Rattle.ux_dela.proofs.PrintLemmas.{printed_are_list, printed_part, shielded_meant, all_shielded_meant}
use Rattle.ux_image.specs.Codes.{Rebuilds}
use Rattle.ux_image.specs.declared.code.Code.{Code}

-- the characters of printed codes
read_again : (text : List ℕ) (codes : Codes) → IsCodesText text codes →
    characters text ≡ shielded_codes codes.gram codes.sem codes.infl
read_again text codes is =
    ap characters is.printed
    ∙ characters_part is_slash (shielded_codes codes.gram codes.sem codes.infl)
    (printed_part codes.gram codes.sem codes.infl)

list_again : (text : List ℕ) (codes : Codes) → IsCodesText text codes →
    IsCodeList (characters text) (shielded is_printed_code_sign codes.gram)
    (all_shielded is_printed_code_sign codes.sem) (all_shielded is_printed_code_sign codes.infl)
list_again text codes is =
    subst (λ (w : List Written). IsCodeList w (shielded is_printed_code_sign codes.gram)
    (all_shielded is_printed_code_sign codes.sem)
    (all_shielded is_printed_code_sign codes.infl)) (sym (read_again text codes is))
    (printed_are_list codes.gram codes.sem codes.infl is.sound)

-- a text is printed for one list of codes
pub one_codes : (text : List ℕ) (a b : Codes) → IsCodesText text a → IsCodesText text b → a ≡ b
one_codes text a b first second =
    let signs = is_printed_code_sign in
    let same = one_list (characters text) (shielded signs a.gram) (shielded signs b.gram)
    (all_shielded signs a.sem) (all_shielded signs a.infl) (all_shielded signs b.sem)
    (all_shielded signs b.infl) (list_again text a first) (list_again text b second) in
    let gram = sym (shielded_meant signs a.gram) ∙ ap meant same.0 ∙ shielded_meant signs b.gram in
    let sem =
    sym (all_shielded_meant signs a.sem) ∙ ap all_meant same.1 ∙ all_shielded_meant signs b.sem in
    let infl =
    sym (all_shielded_meant signs a.infl) ∙ ap all_meant same.2 ∙ all_shielded_meant signs b.infl in
    λ j. record { gram = gram j; sem = sem j; infl = infl j }

pub one_entry : (form : List ℕ) (code : Code) (a b : Entry) → Rebuilds form code a →
    Rebuilds form code b → a ≡ b
one_entry form code a b first second =
    let codes = one_codes code.codes
    (record { gram = a.gram; sem = a.sem; infl = a.infl })
    (record { gram = b.gram; sem = b.sem; infl = b.infl }) first.are_codes second.are_codes in
    let same_form = first.is_form ∙ sym second.is_form in
    let lemma = first.is_lemma ∙ sym second.is_lemma in
    λ j. record {
      form = same_form j;
      lemma = lemma j;
      gram = (codes j).gram;
      sem = (codes j).sem;
      infl = (codes j).infl;
    }
