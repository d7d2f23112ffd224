-- The code of an entry: how the lemma is made of the form, and the codes as they are printed. The
-- manual, on compressing dictionaries. Public: the crate's public contracts speak of it.
use Rattle.std.specs.Prelude.{◌≡◌, ℕ, ◌-◌, List, [], ◌∷◌, ◌++◌, if◌then◌else◌, nat_eq, length, take, drop, map, zip}
use Rattle.std.specs.List.{common_prefix_len}
use Rattle.std.specs.Str.{bytes_eq, chars, encode_utf8_all}
use Rattle.ux_dela.specs.Printed.{printed_codes, IsCodesText}
use Rattle.ux_dela.specs.declared.entry.Entry.{Entry}
use Rattle.ux_image.specs.Pieces.{pieces, separators, joined}
use Rattle.ux_image.specs.declared.code.Pair.{Pair}
use Rattle.ux_image.specs.declared.code.Code.{Code}

-- how many characters two texts have in common at the front
abbrev pub shared_len : (form lemma : List ℕ) → ℕ
shared_len form lemma = common_prefix_len nat_eq (chars form) (chars lemma)

-- the characters of the text behind its first n
abbrev pub behind_chars : ℕ → List ℕ → List ℕ
behind_chars n text = drop n (chars text)

-- the text's first n characters
abbrev pub front_chars : ℕ → List ℕ → List ℕ
front_chars n text = encode_utf8_all (take n (chars text))

-- how many characters of the form's part are to be taken off, and what is to be added, so that the
-- lemma's part is made of it
abbrev pub pair_between : (form lemma : List ℕ) → Pair
pair_between form lemma = record {
  taken = length (behind_chars (shared_len form lemma) form);
  added = encode_utf8_all (behind_chars (shared_len form lemma) lemma);
}

-- the pair of each piece of the form with that of the lemma
abbrev pub pairs_of_pieces : (form lemma : List ℕ) → List Pair
pairs_of_pieces form lemma = map (λ p. pair_between p.0 p.1) (zip (pieces form) (pieces lemma))

-- the pairs of the pieces where form and lemma have the same separators, else one pair of the whole
abbrev pub pairs_between : (form lemma : List ℕ) → List Pair
pairs_between form lemma =
    if bytes_eq (separators form) (separators lemma) then pairs_of_pieces form lemma
    else pair_between form lemma ∷ []

-- the code of an entry
abbrev pub entry_code : Entry → Code
entry_code entry = record {
  pairs = pairs_between entry.form entry.lemma;
  codes = printed_codes entry;
}

-- the piece with the pair's characters taken off its end, or all where it has fewer, and the pair's
-- text added there
abbrev pub changed : Pair → List ℕ → List ℕ
changed pair piece =
    front_chars (length (chars piece) - pair.taken) piece ++ pair.added

-- each piece as the pair of its place changes it
abbrev pub all_changed : List Pair → List (List ℕ) → List (List ℕ)
all_changed [] texts = texts
all_changed (pair ∷ pairs) [] = []
all_changed (pair ∷ pairs) (piece ∷ later) = changed pair piece ∷ all_changed pairs later

-- the form with its pieces changed
abbrev pub made_of_pieces : List Pair → List ℕ → List ℕ
made_of_pieces pairs form = joined (all_changed pairs (pieces form)) (separators form)

-- what the pairs make of a form; a pair that is alone changes the whole
abbrev pub made_of : List Pair → List ℕ → List ℕ
made_of [] form = made_of_pieces [] form
made_of (pair ∷ []) form = changed pair form
made_of (pair ∷ (next ∷ pairs)) form = made_of_pieces (pair ∷ (next ∷ pairs)) form

-- the lemma that was made, or the form where it is empty
abbrev pub or_form : (made form : List ℕ) → List ℕ
or_form [] form = form
or_form (b ∷ made) form = b ∷ made

-- the lemma that the pairs make of a form
abbrev pub rebuilt_lemma : List Pair → List ℕ → List ℕ
rebuilt_lemma pairs form = or_form (made_of pairs form) form

-- the entry that a code makes of a form
pub record Rebuilds (form : List ℕ) (code : Code) (entry : Entry) : Type 0 where
  pub is_form : entry.form ≡ form
  pub is_lemma : entry.lemma ≡ rebuilt_lemma code.pairs form
  pub are_codes : IsCodesText code.codes
      (record { gram = entry.gram; sem = entry.sem; infl = entry.infl })
