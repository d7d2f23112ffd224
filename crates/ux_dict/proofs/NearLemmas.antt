-- The entries whose keys lie in a range hold all whose forms go on with some bytes.
use Rattle.std.proofs.Common.{◌≡◌, ℕ, ◌<◌, List, ◌++◌, true, length, take, drop, get_or, sym, ◌∙◌, ap, arith}
use Rattle.std.specs.Prelude.{◌==◌, bytes_eq, filter}
use Rattle.std.proofs.lemmas.List.{append_assoc, take_at, take-append-drop}
use Rattle.std.proofs.lemmas.List.Elements.{All-drop}
use lib.Pointwise.{bytes_decides}
use lib.Utf8.{encodes}
use Rattle.ux_dela.specs.declared.entry.Entry.{Entry}
use Rattle.ux_dict.specs.declared.parts.Part.{Part}
use Rattle.ux_dict.specs.Keys.{low_key, high_key, key_of, key_rank, is_between}
use Rattle.ux_dict.specs.Parts.{goes_on, IsPart, IsSifted, IsNarrowed}
use Rattle.ux_dict.proofs.CutLemmas.{filter_within}
use Rattle.ux_dict.proofs.KeyLemmas.{AreBytes-utf8, key_between, key_itself}
use Rattle.ux_dict.proofs.PartLemmas.{form_is, bytes_behind, IsPart-sifted}

-- the first bytes of a form of a part are those of the front
pub front_bytes : (front : List ℕ) (part : Part) (is : IsPart front part) (k : ℕ) (d : Entry) →
    k < length part.entries.now →
    take part.len (get_or part.entries.now k d).form ≡ encodes front
front_bytes front part is k d lt =
    let entry = get_or part.entries.now k d in
    let begins = is.shared k d lt in
    ap (take part.len) (form_is entry.form front begins.0 (is.utf8 k d lt) begins.1)
    ∙ take_at (encodes front) (encodes begins.0) part.len is.long

module _ (front : List ℕ) (bytes : List ℕ) (part : Part) (is : IsPart front part) where
  -- a form that goes on with bytes has its key between those of the front with these bytes
  going_between : (k : ℕ) (d : Entry) → k < length part.entries.now →
      goes_on part.len bytes (get_or part.entries.now k d) ≡ true →
      is_between (low_key (encodes front ++ bytes)) (high_key (encodes front ++ bytes))
      (get_or part.entries.now k d) ≡ true
  going_between k d lt goes =
      let entry = get_or part.entries.now k d in
      let rest = drop (length bytes) (drop part.len entry.form) in
      let small = All-drop (λ b. b < 256) (length bytes) (drop part.len entry.form)
      (All-drop (λ b. b < 256) part.len entry.form
      (AreBytes-utf8 entry.form (is.utf8 k d lt))) in
      let whole : entry.form ≡ (encodes front ++ bytes) ++ rest =
      sym (take-append-drop part.len entry.form)
      ∙ ap (λ (l : List ℕ). l ++ drop part.len entry.form) (front_bytes front part is k d lt)
      ∙ ap (λ (l : List ℕ). encodes front ++ l) (bytes_behind part.len bytes entry goes)
      ∙ sym (append_assoc (encodes front) bytes rest) in
      ap (λ m. m == 1) (key_between entry.form (encodes front ++ bytes) rest small whole)

  -- so none of them is lost
  pub IsNarrowed-between : (few : Part) (low high : ℕ) →
      (0 < length part.entries.now → (low ≡ low_key (encodes front ++ bytes))
      × (high ≡ high_key (encodes front ++ bytes))) →
      IsSifted (is_between low high) part few →
      IsNarrowed front (goes_on part.len bytes) part few
  IsNarrowed-between few low high keys sift =
      let entries = part.entries.now in
      record {
        is = IsPart-sifted front (is_between low high) part few is sift;
        same = ap (filter (goes_on part.len bytes)) sift.entries
            ∙ filter_within (goes_on part.len bytes) (is_between low high) entries
            (λ k d lt goes.
            let some : 0 < length entries = omega (arith, lt) in
            let both = keys some in
            let key = key_of (get_or entries k d) in
            ap (λ l. key_rank l high key == 1) both.0
            ∙ ap (λ h. key_rank (low_key (encodes front ++ bytes)) h key == 1) both.1
            ∙ going_between k d lt goes);
      }

-- and none of the entries of a form, whose keys are all one
pub filter-form : (form : List ℕ) (key : ℕ) (entries : List Entry) → key ≡ low_key form →
    filter (λ (e : Entry). bytes_eq e.form form) (filter (is_between key key) entries)
    ≡ filter (λ (e : Entry). bytes_eq e.form form) entries
filter-form form key entries is =
    filter_within (λ (e : Entry). bytes_eq e.form form) (is_between key key) entries
    (λ k d lt same.
    let entry = get_or entries k d in
    let own = ap low_key ((bytes_decides entry.form form).0 same) ∙ sym is in
    ap (λ m. m == 1) (ap (key_rank key key) own ∙ key_itself key))

-- what goes on among them is what goes on among all
pub IsSifted-narrowed : (front bytes : List ℕ) (part few sifted : Part) → IsPart front part →
    IsNarrowed front (goes_on part.len bytes) part few →
    IsSifted (goes_on few.len bytes) few sifted → IsSifted (goes_on part.len bytes) part sifted
IsSifted-narrowed front bytes part few sifted is narrowed sift =
    let len : few.len ≡ part.len = sym narrowed.is.long ∙ is.long in
    record {
      entries = sift.entries ∙ ap (λ m. filter (goes_on m bytes) few.entries.now) len
          ∙ narrowed.same;
      keyed = sift.keyed;
      len = sift.len ∙ len;
    }
