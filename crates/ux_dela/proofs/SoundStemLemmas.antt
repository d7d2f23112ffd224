-- Each stem that a file says is sound: its lines have no line feed, and no part is empty.
use Rattle.std.proofs.Common.{List, [], ◌∷◌, ◌++◌, ℕ, refl, sym, subst}
use Rattle.std.specs.Prelude.{All}
use Rattle.std.proofs.lemmas.List.Elements.{All-nil, All-cons}
use Rattle.ux_base.specs.Lines.{lines_of}
use Rattle.ux_base.specs.EachLine.{AreSaid}
use Rattle.ux_dela.specs.Signs.{COMMA, PLUS, EQUALS}
use Rattle.ux_dela.specs.Written.{Written, bare, written, meant, all_meant, all_behind}
use Rattle.ux_dela.specs.Delas.{IsClass, IsDelasLine, DelasSays, skipped}
use Rattle.ux_dela.specs.Delas as delas
use Rattle.ux_dela.specs.Sound.{HasNoFeed, IsSoundText, AreSoundTexts, IsSoundStem}
use Rattle.ux_dela.specs.declared.entry.Stem.{Stem}
use Rattle.ux_dela.proofs.SoundLemmas.{no_feed-front, sound_part, sound_codes, written_front, written_rest, written_tail, good_file, lines_of-no_feed}

-- the letters of a sound class are sound
sound_letters : (class letters : List ℕ) → IsClass class letters → IsSoundText class →
    IsSoundText letters
sound_letters class letters is sound = record {
  some = is.some;
  no_feed = no_feed-front letters is.digits
      (subst (λ (t : List ℕ). HasNoFeed t) is.whole sound.no_feed);
}

-- a stem of a line without a line feed is sound
sound_stem : (line : List ℕ) (stem : Stem) → HasNoFeed line → IsDelasLine line stem →
    IsSoundStem stem
sound_stem line stem none is =
    let whole : HasNoFeed (written (is.lemma ++ bare COMMA ∷ is.codes)) =
    no_feed-front (written (is.lemma ++ bare COMMA ∷ is.codes)) is.comment
    (subst (λ (t : List ℕ). HasNoFeed t) is.cut.whole none) in
    let codes = written_tail COMMA is.codes (written_rest is.lemma (bare COMMA ∷ is.codes) whole) in
    let listed : HasNoFeed (written (is.class ++ all_behind PLUS is.sem)) =
    subst (λ (t : List Written). HasNoFeed (written t)) is.list.whole codes in
    let class : IsSoundText (meant is.class) =
    sound_part EQUALS is.class refl is.list.is_class.some
    (written_front is.class (all_behind PLUS is.sem) listed) in
    let lemma : IsSoundText (meant is.lemma) =
    sound_part EQUALS is.lemma refl is.some_lemma
    (written_front is.lemma (bare COMMA ∷ is.codes) whole) in
    let sem : AreSoundTexts (all_meant is.sem) =
    sound_codes _ PLUS is.sem is.list.are_sem
    (written_rest is.class (all_behind PLUS is.sem) listed) in
    record {
      lemma = subst (λ (t : List ℕ). IsSoundText t) (sym is.is_lemma) lemma;
      class = subst (λ (t : List ℕ). IsSoundText t) (sym is.is_code) class;
      gram = sound_letters (meant is.class) stem.gram is.is_class class;
      sem = subst (λ (t : List (List ℕ)). AreSoundTexts t) (sym is.is_sem) sem;
    }

sound_stems_said : (line : List ℕ) (said : List Stem) → HasNoFeed line → DelasSays line said →
    All IsSoundStem said
sound_stems_said line said none (skipped line' is) = All-nil IsSoundStem
sound_stems_said line said none (delas.stem line' stem is) =
    All-cons IsSoundStem stem [] (sound_stem line stem none is) (All-nil IsSoundStem)

pub sound_stems : (text : List ℕ) (said : List Stem) → AreSaid DelasSays (lines_of text) said →
    All IsSoundStem said
sound_stems text said are =
    good_file DelasSays IsSoundStem sound_stems_said (lines_of text) said (lines_of-no_feed text) are
