-- A line of which form and lemma mean what is written says the entry of its parts.
use Rattle.std.proofs.Common.{arith, ◌≡◌, ℕ, List, [], ◌∷◌, ◌++◌, Bool, false, refl, sym, ◌∙◌, ap, subst, length}
use Rattle.std.specs.Prelude.{◌==◌, ◌||◌}
use Rattle.std.specs.List.{list_any}
use Rattle.std.proofs.lemmas.Bool.{or_parts, or_from, cond-false}
use Rattle.ux_dela.specs.Signs.{BACKSLASH, COMMA, DOT, SPACE, HYPHEN, EQUALS, is_slash, is_equals}
use Rattle.ux_dela.specs.Written.{Written, written, meant, IsPart, is_end, has_bare}
use Rattle.ux_dela.specs.Delaf.{IsComment, DelafSays, lemma_of}
use Rattle.ux_dela.specs.Printed.{shielded, IsCodesText}
use Rattle.ux_dela.specs.Reading.{characters, IsPartEnd, IsCutOf, entry_in, entries_in, has_mark_in, is_bare_end, IsBare, IsBareCut}
use Rattle.ux_dela.specs.declared.delaf.Cut.{Cut}
use Rattle.ux_dela.specs.declared.entry.Codes.{Codes}
use Rattle.ux_dela.specs.declared.entry.Entry.{Entry}
use Rattle.ux_dela.proofs.CharactersLemmas.{characters_part, written-characters}
use Rattle.ux_dela.proofs.CodesTextLemmas.{codes_may_be, printed_listed}
use Rattle.ux_dela.proofs.CutLemmas.{is_cut, characters_some}
use Rattle.ux_dela.proofs.LineLemmas.{adds_entries}
use Rattle.ux_dela.proofs.PrintLemmas.{shielded_part, shielded_meant}
use Rattle.ux_dela.proofs.ShieldLemmas.{shown, shown_other}
use Rattle.ux_dela.proofs.TagLemmas.{none_bare}

-- a text without such signs is shown as it is
plain_shown : (signs : ℕ → Bool) (text : List ℕ) → list_any signs text ≡ false →
    shown signs text ≡ text
plain_shown signs [] none = refl
plain_shown signs (b ∷ text) none =
    let parts = or_parts (signs b) (list_any signs text) none in
    shown_other signs b text parts.0 ∙ ap (λ t. b ∷ t) (plain_shown signs text parts.1)

-- a byte with which the part goes on doesn't end it, and is no mark
goes_on : (sign b : ℕ) → is_bare_end sign b ≡ false → is_end (λ (c : ℕ). c == sign) b ≡ false
goes_on sign b e =
    let a = or_parts (b == sign) (is_equals b || b == BACKSLASH) e in
    or_from (b == BACKSLASH) (b == sign) (or_parts (is_equals b) (b == BACKSLASH) a.1).1 a.0

no_mark : (sign b : ℕ) → is_bare_end sign b ≡ false → is_end is_equals b ≡ false
no_mark sign b e =
    let a = or_parts (b == sign) (is_equals b || b == BACKSLASH) e in
    let d = or_parts (is_equals b) (b == BACKSLASH) a.1 in
    or_from (b == BACKSLASH) (is_equals b) d.1 d.0

module _ (sign : ℕ) (part : List ℕ) (bare : IsBare sign part) where
  -- each character of such a part is bare
  pub bare_read : characters part ≡ shielded (is_bare_end sign) part
  bare_read =
      ap characters (sym (plain_shown (is_bare_end sign) part bare))
      ∙ characters_part (λ (c : ℕ). c == sign) (shielded (is_bare_end sign) part)
      (shielded_part (λ (c : ℕ). c == sign) (is_bare_end sign) (goes_on sign) part)

  pub bare_is_part : IsPart (λ (c : ℕ). c == sign) (characters part)
  bare_is_part =
      subst (λ (w : List Written). IsPart (λ (c : ℕ). c == sign) w) (sym bare_read)
      (shielded_part (λ (c : ℕ). c == sign) (is_bare_end sign) (goes_on sign) part)

  pub bare_no_mark : has_bare is_equals (characters part) ≡ false
  bare_no_mark =
      ap (has_bare is_equals) bare_read
      ∙ none_bare is_equals (shielded (is_bare_end sign) part)
      (shielded_part is_equals (is_bare_end sign) (no_mark sign) part)

  -- and it means what is written
  pub bare_meant : meant (characters part) ≡ part
  bare_meant = ap meant bare_read ∙ shielded_meant (is_bare_end sign) part

-- the codes end before a comment
comment_ends : (rest : List ℕ) → IsComment rest → IsPartEnd is_slash rest
comment_ends [] is = tt
comment_ends (b ∷ []) is = ap (is_end is_slash) is
comment_ends (b ∷ (c ∷ rest)) is = ap is_slash is

first_of : List ℕ → ℕ
first_of [] = 0
first_of (b ∷ rest) = b

comment_other : (rest : List ℕ) → IsComment rest → rest ≡ BACKSLASH ∷ [] → ⊥
unfolding first_of
comment_other [] is e = omega (arith, ap length e)
comment_other (b ∷ rest) is e = let same = ap first_of e in omega (arith, is, same)

-- a line of bare parts is cut
bare_is_cut : (line : List ℕ) (cut : Cut) → IsBareCut line cut →
    IsPart is_slash (characters cut.codes.now) → IsCutOf line cut
bare_is_cut line cut is part =
    let form = cut.form.now in
    let lemma = cut.lemma.now in
    record {
      is_cut = is_cut line form lemma (cut.codes.now ++ cut.comment.now) cut.codes.now
          cut.comment.now is.bytes (bare_is_part COMMA form is.form) (bare_is_part DOT lemma is.lemma)
          (record { whole = refl; part = part; ends = comment_ends cut.comment.now is.comment })
          (comment_other cut.comment.now is.comment);
      some_form = characters_some form is.some_form;
      bytes = is.bytes;
    }

-- the lemma means what is written, whichever it is
either_meant : (form lemma : List Written) → meant form ≡ written form →
    meant lemma ≡ written lemma → meant (lemma_of form lemma) ≡ written (lemma_of form lemma)
either_meant form [] p q = p
either_meant form (character ∷ lemma) p q = q

lemma_meant : (line lemma : List ℕ) (cut : Cut) → IsBareCut line cut →
    characters lemma ≡ lemma_of (characters cut.form.now) (characters cut.lemma.now) →
    meant (lemma_of (characters cut.form.now) (characters cut.lemma.now)) ≡ lemma
lemma_meant line lemma cut is e =
    let form = cut.form.now in
    either_meant (characters form) (characters cut.lemma.now)
    (bare_meant COMMA form is.form ∙ sym (written-characters form))
    (bare_meant DOT cut.lemma.now is.lemma ∙ sym (written-characters cut.lemma.now))
    ∙ ap written (sym e) ∙ written-characters lemma

module _ (line lemma : List ℕ) (cut : Cut) (is : IsBareCut line cut)
    (e : characters lemma ≡ lemma_of (characters cut.form.now) (characters cut.lemma.now))
    (codes : Codes) where
  -- the entry of the parts as they are written
  made : (form lemma : List ℕ) → Entry
  made form lemma = record {
    form = form;
    lemma = lemma;
    gram = codes.gram;
    sem = codes.sem;
    infl = codes.infl;
  }

  entry_same : entry_in EQUALS cut codes ≡ made cut.form.now lemma
  unfolding made
  entry_same =
      let other = meant (lemma_of (characters cut.form.now) (characters cut.lemma.now)) in
      ap (λ f. made f other) (bare_meant COMMA cut.form.now is.form)
      ∙ ap (λ l. made cut.form.now l) (lemma_meant line lemma cut is e)

  alone : entries_in cut codes ≡ made cut.form.now lemma ∷ []
  alone =
      let none : has_mark_in cut ≡ false =
      or_from (has_bare is_equals (characters cut.form.now))
      (has_bare is_equals (characters cut.lemma.now)) (bare_no_mark COMMA cut.form.now is.form)
      (bare_no_mark DOT cut.lemma.now is.lemma) in
      cond-false (has_mark_in cut) (entry_in SPACE cut codes ∷ (entry_in HYPHEN cut codes ∷ []))
      (entry_in EQUALS cut codes ∷ []) none
      ∙ ap (λ t. t ∷ []) entry_same

  -- the line says it alone
  pub bare_says : IsCodesText cut.codes.now codes →
      DelafSays line ((let entry : Entry = record {
        form = cut.form.now;
        lemma = lemma;
        gram = codes.gram;
        sem = codes.sem;
        infl = codes.infl;
      } in entry) ∷ [])
  unfolding made
  bare_says text =
      let may = codes_may_be cut.codes.now codes text in
      let adds = adds_entries line cut codes [] (entries_in cut codes)
      (bare_is_cut line cut is may.1) (printed_listed cut.codes.now codes text) is.counts refl in
      subst (λ (t : List Entry). DelafSays line t) (sym adds.added ∙ alone) adds.says
