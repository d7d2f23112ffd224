-- What a line of forms says, once it is cut and its codes are read.
use Rattle.std.proofs.Common.{arith, ◌≡◌, ℕ, ◌-◌, List, [], ◌∷◌, ◌++◌, refl, sym, ◌∙◌, ap, length, length-append}
use Rattle.std.specs.Prelude.{if◌then◌else◌}
use Rattle.std.proofs.lemmas.List.{append-nil}
use Rattle.ux_dela.specs.Signs.{COMMA, DOT, SPACE, HYPHEN, EQUALS}
use Rattle.ux_dela.specs.Written.{bare, written, meant_as, all_meant}
use Rattle.ux_dela.specs.Codes.{IsEmptyAt}
use Rattle.ux_dela.specs.Delaf.{IsSkipped, DelafParts, IsDelafLine, DelafSays, entries, entries_of, entry_as, has_mark, lemma_of, HasEmptyCode}
use Rattle.ux_dela.specs.Delaf as delaf
use Rattle.ux_dela.specs.Reading.{characters, IsCutOf, IsListed, entry_in, entries_in, has_mark_in, AddsSaid, HasList, SaysSoMany}
use Rattle.ux_dela.specs.declared.entry.Entry.{Entry}
use Rattle.ux_dela.specs.declared.entry.Codes.{Codes}
use Rattle.ux_dela.specs.declared.delaf.Cut.{Cut}
use Rattle.ux_dela.proofs.CutLemmas.{joined}

-- the place of an empty code
pub empty_code : (line : List ℕ) (cut : Cut) (front rest : List ℕ) → IsCutOf line cut →
    cut.codes.now ≡ front ++ rest → IsEmptyAt (characters cut.codes.now) (length front) →
    HasEmptyCode line (length line - length cut.comment.now - length rest)
empty_code line cut front rest is e empty =
    let form = cut.form.now in
    let lemma = cut.lemma.now in
    let comment = cut.comment.now in
    let before : written
    (characters form ++ bare COMMA ∷ (characters lemma ++ bare DOT ∷ []))
    ≡ form ++ COMMA ∷ (lemma ++ DOT ∷ []) =
    joined form (lemma ++ DOT ∷ []) COMMA (characters lemma ++ bare DOT ∷ [])
    (joined lemma [] DOT [] refl) in
    let all = ap length is.bytes in
    let a = length-append form (COMMA ∷ (lemma ++ DOT ∷ (cut.codes.now ++ comment))) in
    let b = length-append lemma (DOT ∷ (cut.codes.now ++ comment)) in
    let d = length-append cut.codes.now comment in
    let f = ap length e ∙ length-append front rest in
    let g = ap length before ∙ length-append form (COMMA ∷ (lemma ++ DOT ∷ [])) in
    let h = length-append lemma (DOT ∷ []) in
    record {
      form = characters form;
      lemma = characters lemma;
      codes = characters cut.codes.now;
      comment = comment;
      cut = is.is_cut;
      some_form = is.some_form;
      behind = length front;
      empty = empty;
      is_place = omega (arith, all, a, b, d, f, g, h);
    }

-- the parts of a line that is cut and of which the codes are listed
pub parts_of : (cut : Cut) (codes : Codes) → IsListed cut.codes.now codes → DelafParts
parts_of cut codes l = record {
  form = characters cut.form.now;
  lemma = characters cut.lemma.now;
  gram = l.gram;
  sem = l.sem;
  infl = l.infl;
  codes = characters cut.codes.now;
  comment = cut.comment.now;
}

pub parts_are : (line : List ℕ) (cut : Cut) (codes : Codes) (l : IsListed cut.codes.now codes) →
    IsCutOf line cut → (IsSkipped line → ⊥) → IsDelafLine line (parts_of cut codes l)
unfolding parts_of
parts_are line cut codes l is counts = record {
  counts = counts;
  cut = is.is_cut;
  some_form = is.some_form;
  list = l.list;
}

entry_same : (sign : ℕ) (cut : Cut) (codes : Codes) (l : IsListed cut.codes.now codes) →
    entry_as sign (parts_of cut codes l) ≡ entry_in sign cut codes
unfolding parts_of
entry_same sign cut codes l =
    let make = λ (gram : List ℕ) (sem infl : List (List ℕ)).
    (let e : Entry = record {
      form = meant_as sign (characters cut.form.now);
      lemma = meant_as sign (lemma_of (characters cut.form.now) (characters cut.lemma.now));
      gram = gram;
      sem = sem;
      infl = infl;
    } in e) in
    ap (λ g. make g (all_meant l.sem) (all_meant l.infl)) (sym l.is_gram)
    ∙ ap (λ s. make codes.gram s (all_meant l.infl)) (sym l.is_sem)
    ∙ ap (λ i. make codes.gram codes.sem i) (sym l.is_infl)

pub entries_same : (cut : Cut) (codes : Codes) (l : IsListed cut.codes.now codes) →
    entries_of (parts_of cut codes l) ≡ entries_in cut codes
unfolding parts_of
entries_same cut codes l =
    let chosen = λ (s h e : Entry). if has_mark_in cut then s ∷ (h ∷ []) else e ∷ [] in
    let hyphened = entry_as HYPHEN (parts_of cut codes l) in
    let plain = entry_as EQUALS (parts_of cut codes l) in
    ap (λ s. chosen s hyphened plain) (entry_same SPACE cut codes l)
    ∙ ap (λ h. chosen (entry_in SPACE cut codes) h plain) (entry_same HYPHEN cut codes l)
    ∙ ap (λ e. chosen (entry_in SPACE cut codes) (entry_in HYPHEN cut codes) e)
    (entry_same EQUALS cut codes l)

-- what the line says is put behind the others
pub adds_entries : (line : List ℕ) (cut : Cut) (codes : Codes) (old new : List Entry) →
    IsCutOf line cut → IsListed cut.codes.now codes → (IsSkipped line → ⊥) →
    new ≡ old ++ entries_in cut codes → AddsSaid line old new
adds_entries line cut codes old new is l counts e = record {
  said = entries_of (parts_of cut codes l);
  says = entries line (parts_of cut codes l) (parts_are line cut codes l is counts);
  added = e ∙ ap (λ t. old ++ t) (sym (entries_same cut codes l));
}

pub adds_nothing : (line : List ℕ) (old : List Entry) → IsSkipped line → AddsSaid line old old
adds_nothing line old is = record {
  said = [];
  says = delaf.skipped line is;
  added = sym (append-nil old);
}

-- how many entries the line says, whatever its codes mean
pub says_many : (line : List ℕ) (cut : Cut) (count : ℕ) → IsCutOf line cut → HasList cut.codes.now →
    (IsSkipped line → ⊥) → ((codes : Codes) → count ≡ length (entries_in cut codes)) →
    SaysSoMany line count
says_many line cut count is has counts many =
    let codes = has.0 in
    let adds = adds_entries line cut codes [] (entries_in cut codes) is has.1 counts refl in
    (adds.said, adds.says, many codes ∙ ap length adds.added)

pub says_none : (line : List ℕ) → IsSkipped line → SaysSoMany line 0
says_none line is = ([], delaf.skipped line is, refl)

pub parts_comment : (cut : Cut) (codes : Codes) (l : IsListed cut.codes.now codes) →
    (parts_of cut codes l).comment ≡ cut.comment.now
unfolding parts_of
parts_comment cut codes l = refl
