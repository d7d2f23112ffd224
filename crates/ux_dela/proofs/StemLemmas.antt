-- A line of lemmas that was cut into its parts, or can't be, and what it says.
use Rattle.std.proofs.Common.{arith, ◌≡◌, ℕ, ◌+◌, ◌-◌, List, [], ◌∷◌, ◌++◌, refl, sym, ◌∙◌, ap, subst, append_assoc, length, length-append}
use Rattle.std.proofs.lemmas.List.{append-nil}
use Rattle.ux_dela.specs.Signs.{COMMA, BACKSLASH, is_comma, is_slash}
use Rattle.ux_dela.specs.Written.{bare, written, IsPart, meant}
use Rattle.ux_dela.specs.Delaf.{IsSkipped}
use Rattle.ux_dela.specs.Delas.{IsStemCut, StemEndsInBackslash, in_lemma, in_codes, HasEmptyLemma, IsStemEmptyAt, HasEmptyStemCode, HasBadClass, IsClass, IsDelasLine, DelasSays}
use Rattle.ux_dela.specs.Delas as delas
use Rattle.ux_dela.specs.Reading.{characters, IsSplit, IsStemCutOf, IsStemListed, HasStemList, SaysStem, SaysSoManyStems, AddsStem}
use Rattle.ux_dela.specs.declared.entry.Stem.{Stem}
use Rattle.ux_dela.specs.declared.delas.StemCut.{StemCut}
use Rattle.ux_dela.specs.declared.codes.StemCodes.{StemCodes}
use Rattle.ux_dela.proofs.CharactersLemmas.{written-characters}
use Rattle.ux_dela.proofs.CutLemmas.{joined, is_comment, no_text}

-- a backslash ends the lemma
pub open_stem : (line front : List ℕ) → line ≡ front ++ BACKSLASH ∷ [] →
    IsPart is_comma (characters front) → StemEndsInBackslash line
open_stem line front e p =
    subst (λ (t : List ℕ). StemEndsInBackslash t)
    (ap (λ t. t ++ BACKSLASH ∷ []) (written-characters front) ∙ sym e)
    (in_lemma (characters front) p)

-- a backslash ends the codes
pub open_stem_codes : (line lemma behind codes rest : List ℕ) → line ≡ lemma ++ COMMA ∷ behind →
    IsPart is_comma (characters lemma) → IsSplit is_slash behind codes rest →
    rest ≡ BACKSLASH ∷ [] → StemEndsInBackslash line
open_stem_codes line lemma behind codes rest e p split is =
    subst (λ (t : List ℕ). StemEndsInBackslash t)
    (ap (λ t. t ++ BACKSLASH ∷ [])
    (joined lemma codes COMMA (characters codes) (written-characters codes))
    ∙ append_assoc lemma (COMMA ∷ codes) (BACKSLASH ∷ [])
    ∙ ap (λ t. lemma ++ COMMA ∷ t) (ap (λ t. codes ++ t) (sym is) ∙ sym split.whole) ∙ sym e)
    (in_codes (characters lemma) (characters codes) p split.part)

-- the line is its lemma, codes and comment
pub bytes_of_stem : (line lemma behind codes rest : List ℕ) → line ≡ lemma ++ COMMA ∷ behind →
    IsSplit is_slash behind codes rest → line ≡ lemma ++ COMMA ∷ (codes ++ rest)
bytes_of_stem line lemma behind codes rest e split =
    e ∙ ap (λ t. lemma ++ COMMA ∷ t) split.whole

-- the line is cut
pub stem_is_cut : (line lemma behind codes rest : List ℕ) → line ≡ lemma ++ COMMA ∷ behind →
    IsPart is_comma (characters lemma) → IsSplit is_slash behind codes rest →
    (rest ≡ BACKSLASH ∷ [] → ⊥) →
    IsStemCut line (characters lemma) (characters codes) rest
stem_is_cut line lemma behind codes rest e p split other = record {
  whole = bytes_of_stem line lemma behind codes rest e split
      ∙ sym (append_assoc lemma (COMMA ∷ codes) rest)
      ∙ sym (ap (λ t. t ++ rest)
      (joined lemma codes COMMA (characters codes) (written-characters codes)));
  is_lemma = p;
  are_codes = split.part;
  is_comment = is_comment rest split.ends other;
}

pub stem_empty : (line lemma behind codes rest : List ℕ) → line ≡ lemma ++ COMMA ∷ behind →
    IsPart is_comma (characters lemma) → IsSplit is_slash behind codes rest →
    (rest ≡ BACKSLASH ∷ [] → ⊥) → length lemma ≡ 0 → HasEmptyLemma line
stem_empty line lemma behind codes rest e p split other none = record {
  codes = characters codes;
  comment = rest;
  cut = subst (λ (t : List ℕ). IsStemCut line (characters t) (characters codes) rest)
      (no_text lemma none) (stem_is_cut line lemma behind codes rest e p split other);
}

-- the place of an empty code
pub empty_stem_code : (line : List ℕ) (cut : StemCut) (front rest : List ℕ) → IsStemCutOf line cut →
    cut.codes.now ≡ front ++ rest → IsStemEmptyAt (characters cut.codes.now) (length front) →
    HasEmptyStemCode line (length line - length cut.comment.now - length rest)
empty_stem_code line cut front rest is e empty =
    let lemma = cut.lemma.now in
    let comment = cut.comment.now in
    let before : written (characters lemma ++ bare COMMA ∷ []) ≡ lemma ++ COMMA ∷ [] =
    joined lemma [] COMMA [] refl in
    let all = ap length is.bytes in
    let a = length-append lemma (COMMA ∷ (cut.codes.now ++ comment)) in
    let d = length-append cut.codes.now comment in
    let f = ap length e ∙ length-append front rest in
    let g = ap length before ∙ length-append lemma (COMMA ∷ []) in
    record {
      lemma = characters lemma;
      codes = characters cut.codes.now;
      comment = comment;
      cut = is.is_cut;
      some_lemma = is.some_lemma;
      behind = length front;
      empty = empty;
      is_place = omega (arith, all, a, d, f, g);
    }

-- the place of a bad class
pub bad_class : (line : List ℕ) (cut : StemCut) (codes : StemCodes) → IsStemCutOf line cut →
    IsStemListed cut.codes.now codes →
    ((letters : List ℕ) → IsClass codes.class letters → ⊥) →
    HasBadClass line (length cut.lemma.now + 1)
bad_class line cut codes is l none =
    let lemma = cut.lemma.now in
    let before : written (characters lemma ++ bare COMMA ∷ []) ≡ lemma ++ COMMA ∷ [] =
    joined lemma [] COMMA [] refl in
    record {
      lemma = characters lemma;
      codes = characters cut.codes.now;
      class = l.class;
      sem = l.sem;
      comment = cut.comment.now;
      cut = is.is_cut;
      some_lemma = is.some_lemma;
      list = l.list;
      no_class = λ letters h.
          none letters (subst (λ (t : List ℕ). IsClass t letters) (sym l.is_class) h);
      is_place = omega (arith, ap length before ∙ length-append lemma (COMMA ∷ []));
    }

-- what the line says
pub stem_says : (line : List ℕ) (cut : StemCut) (codes : StemCodes) (stem : Stem) →
    IsStemCutOf line cut → IsStemListed cut.codes.now codes → IsClass codes.class stem.gram →
    stem.lemma ≡ meant (characters cut.lemma.now) → stem.class ≡ codes.class →
    stem.sem ≡ codes.sem → SaysStem line stem
stem_says line cut codes stem is l class lemma code sem = λ counts. record {
  lemma = characters cut.lemma.now;
  codes = characters cut.codes.now;
  class = l.class;
  sem = l.sem;
  comment = cut.comment.now;
  counts = counts;
  cut = is.is_cut;
  some_lemma = is.some_lemma;
  list = l.list;
  is_class = subst (λ (t : List ℕ). IsClass t stem.gram) l.is_class class;
  is_lemma = lemma;
  is_code = code ∙ l.is_class;
  is_sem = sem ∙ l.is_sem;
}

-- the line says a stem, whatever its semantic codes mean
pub stem_there : (line : List ℕ) (cut : StemCut) (class letters : List ℕ) → IsStemCutOf line cut →
    HasStemList cut.codes.now class → IsClass class letters → (stem : Stem) × SaysStem line stem
stem_there line cut class letters is has class_is =
    let codes = has.0 in
    let stem : Stem = record {
      lemma = meant (characters cut.lemma.now);
      class = codes.class;
      gram = letters;
      sem = codes.sem;
    } in (
      stem,
      stem_says line cut codes stem is has.1
          (subst (λ (t : List ℕ). IsClass t letters) (sym has.2) class_is) refl refl refl,
    )

pub adds_stem : (line : List ℕ) (stem : Stem) (old new : List Stem) → SaysStem line stem →
    (IsSkipped line → ⊥) → new ≡ old ++ stem ∷ [] → AddsStem line old new
adds_stem line stem old new says counts e = record {
  said = stem ∷ [];
  says = delas.stem line stem (says counts);
  added = e;
}

pub adds_no_stem : (line : List ℕ) (old : List Stem) → IsSkipped line → AddsStem line old old
adds_no_stem line old is = record {
  said = [];
  says = delas.skipped line is;
  added = sym (append-nil old);
}

-- the line says one stem, or none
pub says_one : (line : List ℕ) (stem : Stem) → SaysStem line stem → (IsSkipped line → ⊥) →
    SaysSoManyStems line 1
says_one line stem says counts = (stem ∷ [], delas.stem line stem (says counts), refl)

pub says_no_stem : (line : List ℕ) → IsSkipped line → SaysSoManyStems line 0
says_no_stem line is = ([], delas.skipped line is, refl)
