-- Texts in a set, and what is noted of them.
use lib.Pointwise.{bytes_decides, pointwise}
use Rattle.std.proofs.Common.{arith, ◌≡◌, ℕ, zero, suc, ◌<◌, ◌+◌, ◌||◌, not, Bool, true, false, cond, List, [], ◌∷◌, ◌++◌, Bor, map, length, get_or, Option, None, Some, inl, inr, refl, sym, ◌∙◌, ap, subst}
use Rattle.std.specs.Prelude.{Contains, IfNone, IfSome, nat_eq, slice_get, position}
use Rattle.std.specs.List.{AllZip, IsDistinct, list_any, position_or_len}
use Rattle.std.specs.Str.{bytes_eq}
use Rattle.std.specs.Cmp.Lexicographic.{same_text}
use Rattle.std.specs.Option.{option_map}
use Rattle.std.proofs.lemmas.Slice.Eq.{bytes_eq-Decides}
use Rattle.std.proofs.lemmas.List.{length-map, map-append}
use Rattle.std.proofs.Math.ListN.{get_or-map}
use Rattle.std.proofs.lemmas.List.Folds.{list_any_at, Any-from_list_any}
use Rattle.std.proofs.lemmas.Slice.Zip.{all_zipped_more}
use Rattle.std.proofs.lemmas.List.Elements.{Contains-push, Contains-push_cases, Contains-append_left}
use Rattle.std.proofs.lemmas.List.Quantifiers.{position-Some}
use Rattle.std.proofs.lemmas.Bool.{false≢true, lt-ltb}
use Rattle.std.proofs.lemmas.Map.Keys.{apart_from_distinct}
use Rattle.std.proofs.lemmas.Option.{get_or_from_slice_get, slice_get-map, slice_get-get_or, slice_get_within}
use Rattle.ux_base.proofs.Lists.{less_or}
use Rattle.ux_base.proofs.JoinedLists.{contains_mapped}
use Rattle.indexmap.specs.IndexSet.{insert_key}
use Rattle.ux_sentence.specs.Written.{reading_text}
use Rattle.ux_reading_table.specs.Noting.{AddsSpelling, AddsText, IsNumbered, IsSpelling, KeepsPlaces, NotesText}
use Rattle.ux_reading_table.specs.Numbered.{AreDifferent, IsPlaceOfText}

-- the texts of slices
abbrev pub texts_of : List (Bor (List ℕ)) → List (List ℕ)
texts_of slices = map (λ (s : Bor (List ℕ)). s.now) slices

-- whether a slice is the text
abbrev pub is_text : List ℕ → Bor (List ℕ) → Bool
is_text text s = bytes_eq text s.now

-- the index of a text that is found
pub found_text : (slices : List (Bor (List ℕ))) (text : Bor (List ℕ)) (i : ℕ) →
    position (is_text text.now) slices ≡ Some i → slice_get (texts_of slices) i ≡ Some text.now
found_text slices text i found =
    let at = position-Some (is_text text.now) slices i text found in
    slice_get-map (λ (s : Bor (List ℕ)). s.now) slices i
    ∙ ap (option_map (λ (s : Bor (List ℕ)). s.now)) (slice_get-get_or slices i text at.0)
    ∙ ap Some (sym (same_text text.now (get_or slices i text).now (sym at.1)))

-- a text that passes the test of a set is there
pub text_there : (slices : List (Bor (List ℕ))) (text : List ℕ) →
    list_any (is_text text) slices ≡ true → Contains (texts_of slices) text
text_there slices text any =
    let (k, s, within, at, passes) = Any-from_list_any (is_text text) slices any in
    let same : text ≡ s.now = (bytes_eq-Decides text s.now).0 passes in
    subst (Contains (texts_of slices)) (sym same)
    (contains_mapped (λ (s : Bor (List ℕ)). s.now) slices s (k, within, at))

-- and one that is there passes
pub there_text : (slices : List (Bor (List ℕ))) (text : Bor (List ℕ)) →
    Contains (texts_of slices) text.now → list_any (is_text text.now) slices ≡ true
there_text slices text (i, within, at) =
    let inside : i < length slices =
    subst (λ n. i < n) (length-map slices (λ (s : Bor (List ℕ)). s.now)) within in
    let here : (get_or slices i text).now ≡ text.now =
    sym (get_or-map (λ (s : Bor (List ℕ)). s.now) slices i text) ∙ at in
    list_any_at (is_text text.now) slices i text inside
    ((bytes_eq-Decides text.now (get_or slices i text).now).1 (sym here))

-- a text that wasn't there comes last
pub adds_spelling : (slices new : List (Bor (List ℕ))) (text : Bor (List ℕ)) (is_new : Bool) →
    new ≡ insert_key (λ x y. bytes_eq x.now y.now) slices text →
    is_new ≡ not (list_any (is_text text.now) slices) →
    AddsSpelling is_new (texts_of slices) text.now (texts_of new)
adds_spelling slices new text is_new inserted is = by (list_any (is_text text.now) slices) refl
  where
    by : (b : Bool) → list_any (is_text text.now) slices ≡ b →
        AddsSpelling is_new (texts_of slices) text.now (texts_of new)
    by true there =
        subst (λ (b : Bool). AddsSpelling b (texts_of slices) text.now (texts_of new))
        (sym (is ∙ ap not there)) (
          text_there slices text.now there,
          ap texts_of (inserted ∙ ap (λ (b : Bool). cond b slices (slices ++ text ∷ [])) there),
        )
    by false none =
        subst (λ (b : Bool). AddsSpelling b (texts_of slices) text.now (texts_of new))
        (sym (is ∙ ap not none))
        (ap texts_of inserted
        ∙ (ap (λ (b : Bool). texts_of (cond b slices (slices ++ text ∷ []))) none
        ∙ map-append (λ (s : Bor (List ℕ)). s.now) slices (text ∷ [])))

-- a text with a place is there
placed_there : (texts : List (List ℕ)) (text : List ℕ) (place : ℕ) →
    IsPlaceOfText texts text place → Contains texts text
placed_there texts text place at = (
  place,
  slice_get_within texts place text at,
  get_or_from_slice_get texts place text text at,
)

-- a text that was noted says a reading, whose printed text has the number beside it
pub noted_reading : (texts spelled : List (List ℕ)) (numbers : List ℕ) (place : ℕ) (text : List ℕ)
    (d : ℕ) → AllZip (IsNumbered texts) spelled numbers → slice_get spelled place ≡ Some text →
    (place < length numbers) × IsNumbered texts text (get_or numbers place d)
noted_reading texts [] numbers place text d are at = cc
noted_reading texts (x ∷ spelled) [] place text d are at = absurd are
noted_reading texts (x ∷ spelled) (number ∷ numbers) zero text d are at =
    let same : x ≡ text = cc in
    (omega arith, subst (λ (t : List ℕ). IsNumbered texts t number) same are.0)
noted_reading texts (x ∷ spelled) (number ∷ numbers) (suc place) text d are at =
    let later = noted_reading texts spelled numbers place text d are.1 at in
    (omega (arith, later.0), later.1)

-- nothing is added where the text was there
pub AddsText-there : (texts : List (List ℕ)) (text : List ℕ) → Contains texts text →
    AddsText texts text texts
AddsText-there texts text there one = (
  λ has. inl has,
  λ either. elim either [
    | inl has ↦ has
    | inr is ↦ subst (Contains texts) (sym is) there
  ],
)

pub AddsText-push : (texts : List (List ℕ)) (text : List ℕ) →
    AddsText texts text (texts ++ text ∷ [])
AddsText-push texts text one = (
  λ has. elim (Contains-push_cases texts text one has) [
    | inl old ↦ inl old
    | inr is ↦ inr (sym is)
  ],
  λ either. elim either [
    | inl has ↦ Contains-append_left texts (text ∷ []) one has
    | inr is ↦ subst (Contains (texts ++ text ∷ [])) (sym is) (Contains-push texts text)
  ],
)

-- a text that was noted
pub notes_known : (texts spelled new : List (List ℕ)) (numbers : List ℕ) (place : ℕ)
    (text : List ℕ) (number : ℕ) → AllZip (IsNumbered texts) spelled numbers → new ≡ spelled →
    slice_get new place ≡ Some text → number ≡ get_or numbers place number →
    NotesText (Some number) texts text texts
notes_known texts spelled new numbers place text number are same at is =
    let found = (noted_reading texts spelled numbers place text number are
    (subst (λ (s : List (List ℕ)). slice_get s place ≡ Some text) same at)).1 in
    let there : IsPlaceOfText texts (reading_text found.0) number =
    subst (λ (n : ℕ). IsPlaceOfText texts (reading_text found.0) n) (sym is) found.2 in (
      found.0,
      found.1,
      AddsText-there texts (reading_text found.0)
          (placed_there texts (reading_text found.0) number there),
      there,
    )

-- a new text
pub notes_new : (texts new : List (List ℕ)) (text shown : List ℕ) (number : ℕ) →
    IsSpelling text shown → AddsText texts shown new → IsPlaceOfText new shown number →
    NotesText (Some number) texts text new
notes_new texts new text shown number (reading, is, same) added at = (
  reading,
  is,
  subst (λ (t : List ℕ). AddsText texts t new) same added,
  subst (λ (t : List ℕ). IsPlaceOfText new t number) same at,
)

-- readings that were numbered are so still
numbered_still : (texts new spelled : List (List ℕ)) (numbers : List ℕ) → KeepsPlaces texts new →
    AllZip (IsNumbered texts) spelled numbers → AllZip (IsNumbered new) spelled numbers
numbered_still texts new [] [] kept are = tt
numbered_still texts new [] (number ∷ numbers) kept are = absurd are
numbered_still texts new (x ∷ spelled) [] kept are = absurd are
numbered_still texts new (x ∷ spelled) (number ∷ numbers) kept are =
    let (reading, is, at) = are.0 in (
      (reading, is, kept number (reading_text reading) at),
      numbered_still texts new spelled numbers kept are.1,
    )

-- and the reading of one more text
pub numbered_more : (texts new spelled more : List (List ℕ)) (numbers longer : List ℕ)
    (text shown : List ℕ) (number : ℕ) → AllZip (IsNumbered texts) spelled numbers →
    KeepsPlaces texts new → IsSpelling text shown → IsPlaceOfText new shown number →
    more ≡ spelled ++ text ∷ [] → longer ≡ numbers ++ number ∷ [] →
    AllZip (IsNumbered new) more longer
numbered_more texts new spelled more numbers longer text shown number are kept (reading, is, same)
    at added grown =
    rw (added, grown)
    (all_zipped_more (IsNumbered new) spelled numbers text number
    (numbered_still texts new spelled numbers kept are)
    (reading, is, subst (λ (t : List ℕ). IsPlaceOfText new t number) same at))

-- places stay where one more text comes
KeepsPlaces-push : (texts : List (List ℕ)) (text : List ℕ) → KeepsPlaces texts (texts ++ text ∷ [])
KeepsPlaces-push [] text place one at = cc
KeepsPlaces-push (x ∷ texts) text zero one at = at
KeepsPlaces-push (x ∷ texts) text (suc place) one at = KeepsPlaces-push texts text place one at

-- a text that is inserted is added, and places stay
pub inserted : (texts new : List (List ℕ)) (text : List ℕ) →
    new ≡ insert_key (pointwise nat_eq) texts text →
    AddsText texts text new × KeepsPlaces texts new
inserted texts new text is = by (list_any (pointwise nat_eq text) texts) refl
  where
    by : (b : Bool) → list_any (pointwise nat_eq text) texts ≡ b →
        AddsText texts text new × KeepsPlaces texts new
    by true any =
        let (k, one, within, at, passes) = Any-from_list_any (pointwise nat_eq text) texts any in
        let there : Contains texts text =
        subst (Contains texts) (sym ((bytes_decides text one).0 passes)) (k, within, at) in
        let same : new ≡ texts =
        is ∙ ap (λ (b : Bool). cond b texts (texts ++ text ∷ [])) any in (
          subst (AddsText texts text) (sym same) (AddsText-there texts text there),
          subst (KeepsPlaces texts) (sym same) (λ place one at. at),
        )
    by false none =
        let more : new ≡ texts ++ text ∷ [] =
        is ∙ ap (λ (b : Bool). cond b texts (texts ++ text ∷ [])) none in (
          subst (AddsText texts text) (sym more) (AddsText-push texts text),
          subst (KeepsPlaces texts) (sym more) (KeepsPlaces-push texts text),
        )

-- where it is stored, it has its place
pub stored_at : (texts : List (List ℕ)) (text one : List ℕ) (place : ℕ) →
    slice_get texts place ≡ Some one → pointwise nat_eq text one ≡ true →
    IsPlaceOfText texts text place
stored_at texts text one place at same = at ∙ ap Some (sym ((bytes_decides text one).0 same))

-- no two texts of a set are the same
pub different_texts : (texts : List (List ℕ)) → IsDistinct (pointwise nat_eq) texts →
    AreDifferent texts
different_texts texts distinct place other lp lo same = elim (less_or place other) [
  | inl below ↦ absurd (false≢true
      (sym (apart_from_distinct (pointwise nat_eq) texts place other [] distinct below lo)
      ∙ (bytes_decides (get_or texts place []) (get_or texts other [])).1 same))
  | inr at_least ↦ elim (less_or other place) [
    | inl below ↦ absurd (false≢true
        (sym (apart_from_distinct (pointwise nat_eq) texts other place [] distinct below lp)
        ∙ (bytes_decides (get_or texts other []) (get_or texts place [])).1 (sym same)))
    | inr at_most ↦ omega arith
  ]
]

-- the place of a text that is found
pub placed_if_found : (texts : List (List ℕ)) (text : List ℕ) (place : ℕ) →
    position (pointwise nat_eq text) texts ≡ Some place → IsPlaceOfText texts text place
placed_if_found texts text place found =
    let at = position-Some (pointwise nat_eq text) texts place text found in
    slice_get-get_or texts place text at.0
    ∙ ap Some (sym ((bytes_decides text (get_or texts place text)).0 at.1))

-- a text that isn't found isn't there
pub not_there : (texts : List (List ℕ)) (text : List ℕ) →
    list_any (pointwise nat_eq text) texts ≡ false → Contains texts text → ⊥
not_there texts text none (place, within, is) =
    false≢true (sym none ∙ list_any_at (pointwise nat_eq text) texts place text within
    ((bytes_decides text (get_or texts place text)).1 (sym is)))

pub found_if_some : (slices : List (Bor (List ℕ))) (text : Bor (List ℕ)) (found : Option ℕ) →
    found ≡ position (is_text text.now) slices →
    IfSome found (λ i. slice_get (texts_of slices) i ≡ Some text.now)
found_if_some slices text None is = tt
found_if_some slices text (Some i) is = found_text slices text i (sym is)

-- a text that stands at a place is there
pub text_at : (text : List ℕ) (texts : List (List ℕ)) (place : ℕ) →
    slice_get texts place ≡ Some text → Contains texts text
text_at text texts place at =
    (place, slice_get_within texts place text at, get_or_from_slice_get texts place text text at)

-- a slice that is stored at a place has its text there
pub spelled_at : (slices : List (Bor (List ℕ))) (text one : Bor (List ℕ)) (place : ℕ) →
    slice_get slices place ≡ Some one → bytes_eq text.now one.now ≡ true →
    slice_get (texts_of slices) place ≡ Some text.now
spelled_at slices text one place at same =
    slice_get-map (λ (s : Bor (List ℕ)). s.now) slices place
    ∙ (ap (option_map (λ (s : Bor (List ℕ)). s.now)) at
    ∙ ap Some (sym ((bytes_eq-Decides text.now one.now).0 same)))

-- the text of a slice that stands at a place
pub slice_at : (slices : List (Bor (List ℕ))) (place : ℕ) (slice : Bor (List ℕ)) →
    slice_get slices place ≡ Some slice → slice_get (texts_of slices) place ≡ Some slice.now
slice_at slices place slice at =
    slice_get-map (λ (s : Bor (List ℕ)). s.now) slices place
    ∙ ap (option_map (λ (s : Bor (List ℕ)). s.now)) at

-- where one passes, the first one that does stands before the end
passes_within : {X : Type 0} (p : X → Bool) (xs : List X) → list_any p xs ≡ true →
    position_or_len p xs < length xs
passes_within p [] any = absurd (false≢true any)
passes_within p (x ∷ xs) any = by (p x) refl (λ later. passes_within p xs later)
  where
    by : (b : Bool) → p x ≡ b → (list_any p xs ≡ true → position_or_len p xs < length xs) →
        position_or_len p (x ∷ xs) < length (x ∷ xs)
    by true is below = subst (λ (n : ℕ). n < length (x ∷ xs)) (sym (ap (λ (b : Bool). cond (not b) (1 + position_or_len p xs) zero) is)) (omega arith)
    by false is below =
        let later : list_any p xs ≡ true = sym (ap (λ (b : Bool). b || list_any p xs) is) ∙ any in
        let rest = below later in
        subst (λ (n : ℕ). n < length (x ∷ xs)) (sym (ap (λ (b : Bool). cond (not b) (1 + position_or_len p xs) zero) is)) (omega (arith, rest))

-- a text that isn't found isn't there
pub none_if_not_found : (slices : List (Bor (List ℕ))) (text : Bor (List ℕ)) (found : Option ℕ) →
    found ≡ position (is_text text.now) slices →
    IfNone found (Contains (texts_of slices) text.now → ⊥)
none_if_not_found slices text None is = λ there.
    let within = passes_within (is_text text.now) slices (there_text slices text there) in
    none_some (is ∙ ap (λ (b : Bool). cond b (Some (position_or_len (is_text text.now) slices)) None) (lt-ltb (position_or_len (is_text text.now) slices) (length slices) within))
  where
    none_some : {n : ℕ} → None ≡ Some n → ⊥
    none_some e = cc
none_if_not_found slices text (Some i) is = tt
