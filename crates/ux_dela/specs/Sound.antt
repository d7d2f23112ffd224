-- Which entries and stems dictionary lines can say. Public: the crate's public contracts speak of it.
use Rattle.std.specs.Prelude.{◌≡◌, ◌≢◌, ℕ, ◌==◌, Bool, false, List, [], ◌∷◌}
use Rattle.std.specs.List.{list_any}
use Rattle.ux_dela.specs.Signs.{LINE_FEED}
use Rattle.ux_dela.specs.declared.entry.Entry.{Entry}
use Rattle.ux_dela.specs.declared.entry.Stem.{Stem}

-- the byte is a line feed
abbrev pub is_feed : ℕ → Bool
is_feed b = b == LINE_FEED

-- no line feed stands in the text
abbrev pub HasNoFeed : List ℕ → Type 0
HasNoFeed text = list_any is_feed text ≡ false

-- the text isn't empty and has no line feed
pub record IsSoundText (text : List ℕ) : Type 0 where
  pub some : text ≢ []
  pub no_feed : HasNoFeed text

-- each text is sound
abbrev pub AreSoundTexts : List (List ℕ) → Type 0
AreSoundTexts [] = Unit {0}
AreSoundTexts (text ∷ texts) = IsSoundText text × AreSoundTexts texts

-- each code is sound
pub record AreSoundCodes (gram : List ℕ) (sem infl : List (List ℕ)) : Type 0 where
  pub sound_gram : IsSoundText gram
  pub sound_sem : AreSoundTexts sem
  pub sound_infl : AreSoundTexts infl

-- each part of the entry is sound
pub record IsSound (entry : Entry) : Type 0 where
  pub form : IsSoundText entry.form
  pub lemma : IsSoundText entry.lemma
  pub codes : AreSoundCodes entry.gram entry.sem entry.infl

-- each part of the stem is sound
pub record IsSoundStem (stem : Stem) : Type 0 where
  pub lemma : IsSoundText stem.lemma
  pub class : IsSoundText stem.class
  pub gram : IsSoundText stem.gram
  pub sem : AreSoundTexts stem.sem
