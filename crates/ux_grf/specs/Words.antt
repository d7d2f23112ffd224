-- The words of a text: its longest runs of bytes that are no gaps. Public, through `File` and
-- `Content`.
use Rattle.std.specs.Prelude.{ℕ, ◌≡◌, ◌<◌, true, false, length, slice_index, ◌==◌, Bool, ◌||◌, List, [], ◌∷◌, filter, if◌then◌else◌}
use Rattle.ux_grf.specs.declared.words.Gap.{Gap}
use Rattle.ux_grf.specs.declared.words.Gap.TheVariants.{Spaces, Blanks}

abbrev pub SPACE : ℕ
SPACE = 32

abbrev pub TAB : ℕ
TAB = 9

-- what stands between words: spaces alone, or tabs too
abbrev pub is_gap : Gap → ℕ → Bool
is_gap Spaces b = b == SPACE
is_gap Blanks b = b == SPACE || b == TAB

-- the runs with this byte before the first of them
abbrev pub with_byte : ℕ → List (List ℕ) → List (List ℕ)
with_byte b [] = (b ∷ []) ∷ []
with_byte b (run ∷ runs) = (b ∷ run) ∷ runs

-- what stands before the first gap, between each two gaps and after the last one
abbrev pub runs_of : Gap → List ℕ → List (List ℕ)
runs_of gap [] = [] ∷ []
runs_of gap (b ∷ text) =
    if is_gap gap b then [] ∷ runs_of gap text else with_byte b (runs_of gap text)

abbrev pub has_byte : List ℕ → Bool
has_byte [] = false
has_byte (b ∷ run) = true

-- the words are the runs that aren't empty
abbrev pub words_of : Gap → List ℕ → List (List ℕ)
words_of gap text = filter has_byte (runs_of gap text)

-- no byte before this place is a gap
abbrev pub HasNoGapBefore : Gap → List ℕ → ℕ → Type 0
HasNoGapBefore gap text end = (k : ℕ) → k < end → is_gap gap (slice_index text k) ≡ false

-- the place of the first gap
pub record IsFirstGap (gap : Gap) (text : List ℕ) (end : ℕ) : Type 0 where
  pub inside : end < length text
  pub none : HasNoGapBefore gap text end
  pub here : is_gap gap (slice_index text end) ≡ true
