-- The dictionary that is made up has a content: its entries in order of form.
use Rattle.std.proofs.Common.{arith, ◌≡◌, ◌≢◌, ◌∙◌, inl, Bool, true, false, ◌&&◌, List, [], ◌∷◌, ap, refl, subst, sym}
use Rattle.std.specs.Prelude.{AllPairs, Contains, codes}
use Rattle.std.specs.List.{list_all, list_any}
use Rattle.std.specs.Cmp.Lexicographic.{slice_cmp}
use Rattle.std.specs.Ordering.{is_eq, is_lt, nat_cmp}
use Rattle.std.specs.declared.cmp.Ordering.{Ordering}
use Rattle.std.specs.declared.cmp.Ordering.TheVariants.{Equal, Greater, Less}
use Rattle.std.proofs.lemmas.Bool.{and_parts}
use Rattle.std.proofs.lemmas.List.Elements.{All-contains, All-weaker}
use Rattle.std.proofs.lemmas.List.Kept.{AllPairs-cons}
use Rattle.std.proofs.lemmas.List.Sums.{AllPass-from_list_all}
use Rattle.std.proofs.lemmas.Map.Text.{is_eq-slice_cmp}
use Rattle.std.proofs.lemmas.Slice.Eq.{bytes_eq-Decides}
use Rattle.std.proofs.lemmas.Map.Views.{Contains-from_any}
use Rattle.ux_dela.specs.declared.entry.Entry.{Entry}
use Rattle.ux_dict.specs.Content.{IsBelow, IsContent}
use Rattle.ux_dict.specs.Equal.{entry_eq, entry_eq-Decides}
use Rattle.ux_dict.specs.FileContent.{IsFileContent}
use Rattle.ux_cmd_bench.specs.Bench.{DICTIONARY}
use Rattle.ux_cmd_bench.proofs.EntriesSaid.{ENTRIES, alone, entries_said, entry_with}

-- the entries in order of form
abbrev pub CONTENT : List Entry
CONTENT = alone (codes "a") (codes "DET") [] ∷ alone (codes "cat") (codes "N") (codes "s" ∷ [])
    ∷ alone (codes "dog") (codes "N") (codes "s" ∷ []) ∷ alone (codes "old") (codes "A") []
    ∷ entry_with (codes "sees") (codes "see") (codes "V") (codes "P3s" ∷ [])
    ∷ entry_with (codes "sleeps") (codes "sleep") (codes "V") (codes "P3s" ∷ [])
    ∷ alone (codes "small") (codes "A") [] ∷ alone (codes "the") (codes "DET") [] ∷ []

-- each of the entries stands among the others
stand_in : (some others : List Entry) → list_all (λ e. list_any (entry_eq e) others) some ≡ true →
    (entry : Entry) → Contains some entry → Contains others entry
stand_in some others all entry has =
    Contains-from_any (λ x y. (entry_eq-Decides x y).0) entry others
    (All-contains (λ e. list_any (entry_eq e) others ≡ true) some entry
    (AllPass-from_list_all (λ e. list_any (entry_eq e) others) some all) has)

less : (order : Ordering) → is_lt order ≡ true → order ≡ Less
less Less is = refl
less Equal is = cc
less Greater is = cc

abbrev is_before : (entry later : Entry) → Bool
is_before entry later = is_lt (slice_cmp nat_cmp entry.form later.form)

-- each form is below those that come later
abbrev is_rising : List Entry → Bool
is_rising [] = true
is_rising (entry ∷ content) = list_all (is_before entry) content && is_rising content

rising_pairs : (content : List Entry) → is_rising content ≡ true →
    AllPairs (λ x y. IsBelow x.form y.form) content
rising_pairs [] is = λ i j d lt inside. absurd (omega (arith, inside))
rising_pairs (entry ∷ content) is =
    let parts = and_parts (list_all (is_before entry) content) (is_rising content) is in
    AllPairs-cons (λ x y. IsBelow x.form y.form) entry content
    (All-weaker (λ later. is_before entry later ≡ true) (λ later. IsBelow entry.form later.form)
    (λ later before. less (slice_cmp nat_cmp entry.form later.form) before) content
    (AllPass-from_list_all (is_before entry) content parts.0)) (rising_pairs content parts.1)

-- and so is another entry's
below_apart : (entry other : Entry) → IsBelow entry.form other.form → entry ≢ other
below_apart entry other below same =
    let itself : IsBelow entry.form entry.form =
    subst (λ (e : Entry). IsBelow entry.form e.form) (sym same) below in
    let no : false ≡ true = ap is_eq (sym itself) ∙ is_eq-slice_cmp entry.form entry.form
    ∙ (bytes_eq-Decides entry.form entry.form).1 refl in
    cc

pub entries_in_order : IsContent ENTRIES CONTENT
entries_in_order = record {
  members = λ entry. (stand_in CONTENT ENTRIES refl entry, stand_in ENTRIES CONTENT refl entry);
  once = λ i j d lt inside. below_apart _ _ (rising_pairs CONTENT refl i j d lt inside);
  ordered = λ i j d lt inside. inl (rising_pairs CONTENT refl i j d lt inside);
}

pub content_said : IsFileContent DICTIONARY CONTENT
content_said = record { entries = ENTRIES; are = entries_said; is = entries_in_order }
