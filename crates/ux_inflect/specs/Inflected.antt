-- The entries of a stem: one for each word of its class's graph. The manual, on inflection. Public:
-- the crate's public contracts speak of it.
use Rattle.std.specs.Prelude.{◌≡◌, ◌≢◌, ◌↔◌, ℕ, List, [], ◌∷◌, ◌++◌, Option, Some, Contains, All, AllPairs, encode_utf8_all, false, reverse}
use Rattle.std.specs.Ordering.{nat_cmp, is_gt}
use Rattle.std.specs.Cmp.Lexicographic.{slice_cmp}
use Rattle.ux_dela.specs.declared.entry.Entry.{Entry}
use Rattle.ux_dela.specs.declared.entry.Stem.{Stem}
use Rattle.ux_dela.specs.Printed.{printed}
use Rattle.ux_dela.specs.Signs.{COLON}
use Rattle.ux_net.specs.declared.net_graph.NetGraph.{NetGraph}
use Rattle.ux_net.specs.Words.{Letter}
use Rattle.ux_inflect.specs.Strokes.{Cursor, all_stroked, at_end}
use Rattle.ux_inflect.specs.Whole.{IsWhole, output_of, strokes_of}

-- the codes, with a colon before each
abbrev pub behind_colons : List (List ℕ) → List ℕ
behind_colons [] = []
behind_colons (code ∷ codes) = COLON ∷ (code ++ behind_colons codes)

-- the text isn't empty and has no colon
pub record IsCode (code : List ℕ) : Type 0 where
  pub some : code ≢ []
  pub no_colon : Contains code COLON → ⊥

-- the output has these codes, with a colon before each
pub record HasCodes (output : List ℕ) (codes : List (List ℕ)) : Type 0 where
  pub joined : output ≡ behind_colons codes
  pub each : All IsCode codes

-- the form with its cursor at the end of a word; none, where a character of it can't be done
abbrev pub end_of : Stem → List Letter → Option Cursor
end_of stem whole = all_stroked (strokes_of whole) (Some (at_end stem.lemma))

-- the entry that a word of the class's graph gives
pub record IsEntryOf (stem : Stem) (whole : List Letter) (entry : Entry) : Type 0 where
  pub cursor : Cursor
  pub ends : end_of stem whole ≡ Some cursor
  pub form : entry.form ≡ encode_utf8_all (reverse cursor.left)
  pub lemma : entry.lemma ≡ stem.lemma
  pub gram : entry.gram ≡ stem.gram
  pub sem : entry.sem ≡ stem.sem
  pub infl : HasCodes (output_of whole) entry.infl

-- the entry is that of some word
pub record Inflects (stem : Stem) (net : List NetGraph) (entry : Entry) : Type 0 where
  pub whole : List Letter
  pub is_whole : IsWhole net whole
  pub is_entry : IsEntryOf stem whole entry

-- by bytes, the first text isn't after the second
abbrev pub IsNotAfter : (text other : List ℕ) → Type 0
IsNotAfter text other = is_gt (slice_cmp nat_cmp text other) ≡ false

-- the entries of all words, each once, in the order of their lines
pub record AreInflected (stem : Stem) (net : List NetGraph) (entries : List Entry) : Type 0 where
  pub same : (entry : Entry) → Contains entries entry ↔ Inflects stem net entry
  pub once : AllPairs (λ a b. a ≢ b) entries
  pub in_order : AllPairs (λ a b. IsNotAfter (printed a) (printed b)) entries
