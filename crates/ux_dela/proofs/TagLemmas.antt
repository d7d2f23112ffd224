-- Which bodies of tags are entries: a body is cut in one way.
use Rattle.std.proofs.Common.{arith, ◌≡◌, ℕ, List, [], ◌∷◌, ◌++◌, Bool, false, refl, sym, ◌∙◌, ap, subst, length}
use Rattle.std.specs.Prelude.{◌==◌, ◌||◌, All, Option, None, Some, MatchOption, IfSome}
use Rattle.std.proofs.lemmas.Bool.{or_parts, or_from, cond-true, cond-false, false_from_ne_true}
use Rattle.std.proofs.lemmas.List.Elements.{All-head}
use Rattle.ux_dela.specs.Signs.{BACKSLASH, SPACE, HYPHEN, EQUALS, is_brace, is_comma, is_dot, is_slash, is_equals}
use Rattle.ux_dela.specs.Written.{Written, bare, protected, IsPart, has_bare, meant, all_meant}
use Rattle.ux_dela.specs.Codes.{IsCodeList, IsEmptyAt}
use Rattle.ux_dela.specs.Delaf.{DelafParts, entries_of, entry_as, has_mark, HasFault}
use Rattle.ux_dela.specs.Sound.{IsSound}
use Rattle.ux_dela.specs.Tag.{IsTagBody}
use Rattle.ux_dela.specs.Reading.{characters, IsCutOf, IsListed, has_mark_in, entry_in, MayBeTag, TagSays}
use Rattle.ux_dela.specs.declared.entry.Entry.{Entry}
use Rattle.ux_dela.specs.declared.entry.Codes.{Codes}
use Rattle.ux_dela.specs.declared.error.DelaError.{DelaError}
use Rattle.ux_dela.specs.declared.delaf.Cut.{Cut}
use Rattle.ux_dela.proofs.CharactersLemmas.{written-characters, characters_part, IsPart-append}
use Rattle.ux_dela.proofs.RunLemmas.{is_none_stop, IsClosed, closed_part}
use Rattle.ux_dela.proofs.CodesLemmas.{none_is_empty}
use Rattle.ux_dela.proofs.LineLemmas.{parts_of, parts_are, parts_comment, entries_same}
use Rattle.ux_dela.proofs.ExclusionLemmas.{cut_read, one_cut, fault_excluded}
use Rattle.ux_dela.proofs.SoundLemmas.{sound_entries}

-- a part has no bare sign at which it ends
pub none_bare : (stops : ℕ → Bool) (w : List Written) → IsPart stops w → has_bare stops w ≡ false
none_bare stops [] p = refl
none_bare stops (bare b ∷ w) p =
    or_from (stops b) (has_bare stops w) (or_parts (b == BACKSLASH) (stops b) p.0).1
    (none_bare stops w p.1)
none_bare stops (protected b ∷ w) p = none_bare stops w p

-- and what has none is a part, if it is closed
part_without : (stops : ℕ → Bool) (w : List Written) → IsClosed w → has_bare stops w ≡ false →
    IsPart stops w
part_without stops [] closed none = tt
part_without stops (bare b ∷ w) closed none =
    let parts = or_parts (stops b) (has_bare stops w) none in (
      or_from (b == BACKSLASH) (stops b) (or_parts (b == BACKSLASH) false closed.0).0 parts.0,
      part_without stops w closed.1 parts.1,
    )
part_without stops (protected b ∷ w) closed none = part_without stops w closed none

-- the body of a tag may be one
pub tag_may_be : (body : List ℕ) (entry : Entry) → IsTagBody body entry → MayBeTag body
tag_may_be body entry is =
    let read : characters body ≡ is.characters =
    ap characters is.whole ∙ characters_part is_brace is.characters is.no_brace in (
      is.line.counts,
      is.no_feed,
      ap (has_bare is_brace) read ∙ none_bare is_brace is.characters is.no_brace,
    )

-- a body with a fault is no tag's
pub tag_no_fault : (body : List ℕ) (number : ℕ) (error : DelaError) (entry : Entry) →
    HasFault body number error → IsTagBody body entry → ⊥
tag_no_fault body number error entry fault is =
    fault_excluded body number is.parts error fault is.line

-- one entry comes of parts without a mark
one_entry : (p : DelafParts) (entry : Entry) → entries_of p ≡ entry ∷ [] → has_mark p ≡ false
one_entry p entry e =
    false_from_ne_true (has_mark p)
    (λ mark.
    (let two : entries_of p ≡ entry_as SPACE p ∷ (entry_as HYPHEN p ∷ []) =
    cond-true (has_mark p) (entry_as SPACE p ∷ (entry_as HYPHEN p ∷ [])) (entry_as EQUALS p ∷ [])
    mark in
    omega (arith, ap length (sym two ∙ e))))

-- a body for which nothing is said is no tag's
pub tag_not_said : (body : List ℕ) (cut : Cut) (entry : Entry) → IsCutOf body cut →
    TagSays cut None → IsTagBody body entry → ⊥
tag_not_said body cut entry at none is =
    let p = is.parts in
    let same = one_cut body p.form p.lemma p.codes p.comment is.line.cut (characters cut.form.now)
    (characters cut.lemma.now) (characters cut.codes.now) cut.comment.now at.is_cut in
    let codes : Codes =
    record { gram = meant p.gram; sem = all_meant p.sem; infl = all_meant p.infl } in
    let listed : IsListed cut.codes.now codes = record {
      gram = p.gram;
      sem = p.sem;
      infl = p.infl;
      list = subst (λ (w : List Written). IsCodeList w p.gram p.sem p.infl) same.2 is.line.list;
      is_gram = refl;
      is_sem = refl;
      is_infl = refl;
    } in
    none codes listed (sym same.3 ∙ is.no_comment)
    (sym (ap (λ f. has_bare is_equals f || has_bare is_equals p.lemma) same.0
    ∙ ap (λ l. has_bare is_equals (characters cut.form.now) || has_bare is_equals l) same.1)
    ∙ one_entry p entry is.alone)

-- a body that is cut has no open end before its comment
cut_closed : (body : List ℕ) (cut : Cut) → IsCutOf body cut → cut.comment.now ≡ [] →
    IsClosed (characters body)
cut_closed body cut at none =
    let form = characters cut.form.now in
    let lemma = characters cut.lemma.now in
    let codes = characters cut.codes.now in
    let comment : IsClosed (characters cut.comment.now) =
    subst (λ (t : List ℕ). IsClosed (characters t)) (sym none) tt in
    subst (λ (w : List Written). IsClosed w)
    (sym (cut_read body form lemma codes cut.comment.now at.is_cut))
    (IsPart-append is_none_stop form _ (closed_part is_comma form at.is_cut.is_form) (
      refl,
      IsPart-append is_none_stop lemma _ (closed_part is_dot lemma at.is_cut.is_lemma) (
        refl,
        IsPart-append is_none_stop codes _ (closed_part is_slash codes at.is_cut.are_codes)
            comment,
      ),
    ))

-- a body for which an entry is said is that entry's
pub tag_said : (body : List ℕ) (cut : Cut) (entry : Entry) → MayBeTag body → IsCutOf body cut →
    TagSays cut (Some entry) → IsTagBody body entry
tag_said body cut entry may at said =
    let codes = said.0 in
    let l = said.1 in
    let p = parts_of cut codes l in
    record {
      parts = p;
      line = parts_are body cut codes l at may.0;
      alone = entries_same cut codes l
          ∙ cond-false (has_mark_in cut)
          (entry_in SPACE cut codes ∷ (entry_in HYPHEN cut codes ∷ []))
          (entry_in EQUALS cut codes ∷ []) said.3
          ∙ ap (λ e. e ∷ []) (sym said.4);
      no_comment = parts_comment cut codes l ∙ said.2;
      characters = characters body;
      whole = sym (written-characters body);
      no_brace = part_without is_brace (characters body) (cut_closed body cut at said.2) may.2;
      no_feed = may.1;
    }

-- the entry of a tag is sound
pub tag_sound : (body : List ℕ) (entry : Entry) → IsTagBody body entry → IsSound entry
tag_sound body entry is =
    All-head IsSound entry []
    (subst (λ (es : List Entry). All IsSound es) is.alone
    (sound_entries body is.parts is.no_feed is.line))

-- no entry where a code is empty
pub tag_stops : (cut : Cut) (rest : List ℕ) (codes : Codes) →
    ((front : List ℕ) × (cut.codes.now ≡ front ++ rest)
    × IsEmptyAt (characters cut.codes.now) (length front)) → IsListed cut.codes.now codes → ⊥
tag_stops cut rest codes stops l =
    none_is_empty (characters cut.codes.now) l.gram l.sem l.infl (length stops.0) stops.2 l.list

-- what is said of a body that is cut is exact
pub tag_found : (body : List ℕ) (cut : Cut) → MayBeTag body → IsCutOf body cut →
    (found : Option Entry) → TagSays cut found →
    MatchOption found ((entry : Entry) → IsTagBody body entry → ⊥) (λ entry. IsTagBody body entry)
tag_found body cut may at None says = λ entry is. tag_not_said body cut entry at says is
tag_found body cut may at (Some entry) says = tag_said body cut entry may at says

pub tag_found_sound : (body : List ℕ) (cut : Cut) → MayBeTag body → IsCutOf body cut →
    (found : Option Entry) → TagSays cut found → IfSome found IsSound
tag_found_sound body cut may at None says = tt
tag_found_sound body cut may at (Some entry) says =
    tag_sound body entry (tag_said body cut entry may at says)
