-- The words of a text are its longest runs of bytes that are no gaps, in order, and no other list is.
use Rattle.std.proofs.Common.{◌≡◌, ℕ, List, [], ◌∷◌, ◌++◌, refl, sym, ◌∙◌, ap, subst, Bool, true, false}
use Rattle.std.specs.List.{filter}
use Rattle.ux_grf.specs.declared.words.Gap.{Gap}
use Rattle.ux_grf.specs.Words.{is_gap, with_byte, runs_of, has_byte, words_of}
use Rattle.ux_grf.proofs.WordsLemmas.{runs_of-cut, runs_of-passed}

-- none of the bytes is a gap
abbrev pub HasNoGap : Gap → List ℕ → Type 0
HasNoGap gap [] = Unit {0}
HasNoGap gap (b ∷ run) = (is_gap gap b ≡ false) × HasNoGap gap run

-- nothing stands there, or a gap
abbrev pub EndsRun : Gap → List ℕ → Type 0
EndsRun gap [] = Unit {0}
EndsRun gap (b ∷ rest) = is_gap gap b ≡ true

-- a gap is passed over, and a word has a byte and no gap, and ends at a gap or with the text
pub data AreLongestRuns (gap : Gap) : List ℕ → List (List ℕ) → Type 0 where
  no_byte : AreLongestRuns gap [] []
  gap_then : (b : ℕ) (text : List ℕ) (words : List (List ℕ)) → is_gap gap b ≡ true →
      AreLongestRuns gap text words → AreLongestRuns gap (b ∷ text) words
  word_then : (word rest : List ℕ) (words : List (List ℕ)) → has_byte word ≡ true →
      HasNoGap gap word → EndsRun gap rest → AreLongestRuns gap rest words →
      AreLongestRuns gap (word ++ rest) (word ∷ words)

module _ (gap : Gap) where
  -- the runs of a text that a run begins
  run_then : (run rest : List ℕ) (runs : List (List ℕ)) → HasNoGap gap run →
      runs_of gap rest ≡ [] ∷ runs → runs_of gap (run ++ rest) ≡ run ∷ runs
  run_then [] rest runs none is = is
  run_then (b ∷ run) rest runs none is =
      runs_of-passed gap b (run ++ rest) none.0
      ∙ ap (with_byte b) (run_then run rest runs none.1 is)

  -- after a run the first run is empty
  runs_after : (rest : List ℕ) → EndsRun gap rest →
      (runs : List (List ℕ)) × (runs_of gap rest ≡ [] ∷ runs)
  runs_after [] ends = ([], refl)
  runs_after (b ∷ rest) ends = (runs_of gap rest, runs_of-cut gap b rest ends)

  word_first : (word rest : List ℕ) → has_byte word ≡ true → HasNoGap gap word →
      EndsRun gap rest → words_of gap (word ++ rest) ≡ word ∷ words_of gap rest
  word_first [] rest some none ends = let no : false ≡ true = some in cc
  word_first (b ∷ word) rest some none ends =
      let after = runs_after rest ends in
      ap (filter has_byte) (run_then (b ∷ word) rest after.0 none after.1)
      ∙ ap (λ (ws : List (List ℕ)). (b ∷ word) ∷ ws) (sym (ap (filter has_byte) after.1))

  -- the longest runs are the words
  pub AreLongestRuns-are : (text : List ℕ) (words : List (List ℕ)) →
      AreLongestRuns gap text words → words_of gap text ≡ words
  AreLongestRuns-are _ _ no_byte = refl
  AreLongestRuns-are _ _ (gap_then b text words is later) =
      ap (filter has_byte) (runs_of-cut gap b text is) ∙ AreLongestRuns-are text words later
  AreLongestRuns-are _ _ (word_then word rest words some none ends later) =
      word_first word rest some none ends
      ∙ ap (λ (ws : List (List ℕ)). word ∷ ws) (AreLongestRuns-are rest words later)

  pub AreLongestRuns-once : (text : List ℕ) (words others : List (List ℕ)) →
      AreLongestRuns gap text words → AreLongestRuns gap text others → words ≡ others
  AreLongestRuns-once text words others one other =
      sym (AreLongestRuns-are text words one) ∙ AreLongestRuns-are text others other

  -- a text is its first run and what follows it
  record Begun (text : List ℕ) : Type 0 where
    run : List ℕ
    rest : List ℕ
    runs : List (List ℕ)
    whole : text ≡ run ++ rest
    are : runs_of gap text ≡ run ∷ runs
    none : HasNoGap gap run
    ends : EndsRun gap rest
    later : AreLongestRuns gap rest (filter has_byte runs)

  joined : (text : List ℕ) → Begun text → AreLongestRuns gap text (words_of gap text)
  joined text begun =
      subst (λ (ws : List (List ℕ)). AreLongestRuns gap text ws)
      (sym (ap (filter has_byte) begun.are))
      (subst (λ (t : List ℕ). AreLongestRuns gap t (filter has_byte (begun.run ∷ begun.runs)))
      (sym begun.whole) (by begun.run begun.none))
    where
      by : (run : List ℕ) → HasNoGap gap run →
          AreLongestRuns gap (run ++ begun.rest) (filter has_byte (run ∷ begun.runs))
      by [] none = begun.later
      by (b ∷ run) none =
          word_then (b ∷ run) begun.rest (filter has_byte begun.runs) refl none begun.ends
          begun.later

  begun : (text : List ℕ) → Begun text
  begun [] = record {
    run = [];
    rest = [];
    runs = [];
    whole = refl;
    are = refl;
    none = tt;
    ends = tt;
    later = no_byte;
  }
  begun (b ∷ text) = by (begun text) (is_gap gap b) refl
    where
      by : Begun text → (is : Bool) → is_gap gap b ≡ is → Begun (b ∷ text)
      by later true is = record {
        run = [];
        rest = b ∷ text;
        runs = runs_of gap text;
        whole = refl;
        are = runs_of-cut gap b text is;
        none = tt;
        ends = is;
        later = gap_then b text (words_of gap text) is (joined text later);
      }
      by later false is = record {
        run = b ∷ later.run;
        rest = later.rest;
        runs = later.runs;
        whole = ap (λ (t : List ℕ). b ∷ t) later.whole;
        are = runs_of-passed gap b text is ∙ ap (with_byte b) later.are;
        none = (is, later.none);
        ends = later.ends;
        later = later.later;
      }

  pub words_of-AreLongestRuns : (text : List ℕ) → AreLongestRuns gap text (words_of gap text)
  words_of-AreLongestRuns text = joined text (begun text)
