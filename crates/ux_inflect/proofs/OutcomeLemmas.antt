-- Sets of lines, lines in order, and their entries.
use Rattle.std.proofs.Common.{arith, ◌≡◌, ◌↔◌, ℕ, zero, suc, ◌+◌, ◌<◌, Bool, true, false, cond, List, [], ◌∷◌, ◌++◌, length, length-append, append-nil, append_assoc, encode_utf8, get_or, take, refl, sym, ◌∙◌, ap, subst, inl, inr}
use Rattle.std.specs.Prelude.{Contains, Some, encode_utf8_all, reverse, slice_get}
use Rattle.std.specs.List.{IsDistinct, dedup, dedup_from, list_any}
use Rattle.std.proofs.lemmas.Option.{same_Some}
use Rattle.std.proofs.lemmas.List.Elements.{Contains-append_left, Contains-push, Contains-push_cases}
use Rattle.ux_base.proofs.Lists.{take_more}
use Rattle.indexmap.specs.IndexSet.{insert_key}
use Rattle.indexmap.proofs.CallerLemmas.{Contains-list_any}
use Rattle.ux_dela.specs.declared.entry.Entry.{Entry}
use Rattle.ux_dela.specs.declared.entry.Stem.{Stem}
use Rattle.ux_inflect.specs.declared.config.Config.{Config}
use Rattle.ux_inflect.specs.declared.outcomes.Line.{Line}
use Rattle.ux_dela.specs.Printed.{printed}
use Rattle.ux_inflect.specs.Inflected.{HasCodes}
use Rattle.ux_inflect.specs.Outcomes.{AreEntriesFor, HasMoreLines, IsCodedAt, IsEntryFor, IsLineOf, IsLineOfSome, entry_with}
use Rattle.ux_inflect.specs.Places.{Place, place_of}
use Rattle.ux_inflect.specs.Strokes.{Cursor}

-- a line is what its parts are
pub same_line : (a b : Line) → a.text ≡ b.text → a.form ≡ b.form → a.output ≡ b.output → a ≡ b
same_line a b text form output =
    λ i. record { text = text i; form = form i; output = output i }

-- the line of a place at which a word ends is the one of its form and its output
pub only_line : (stem : Stem) (place : Place) (cursor : Cursor) (line : Line) → place.frames ≡ [] →
    place.cursor ≡ Some cursor → IsCodedAt place →
    line.form ≡ encode_utf8_all (reverse cursor.left) → line.output ≡ place.output →
    ((codes : List (List ℕ)) → HasCodes place.output codes →
    line.text ≡ printed (entry_with stem line.form codes)) →
    (other : Line) → IsLineOf stem place other ↔ (other ≡ line)
only_line stem place cursor line over at coded form output text other = (
  λ is.
      let one = same_Some is.cursor cursor (sym is.at ∙ at) in
      let same = is.form ∙ (ap (λ (c : Cursor). encode_utf8_all (reverse c.left)) one ∙ sym form) in
      same_line other line
      (is.text ∙ (ap (λ (f : List ℕ). printed (entry_with stem f is.codes)) same
      ∙ sym (text is.codes is.has)))
      same (is.output ∙ sym output),
  λ same. subst (λ (l : Line). IsLineOf stem place l) (sym same) (
      let codes = coded over in
      record {
        over = over;
        cursor = cursor;
        at = at;
        codes = codes.0;
        has = codes.1;
        form = form;
        output = output;
        text = text codes.0 codes.1;
      }),
)

-- more lines of another property that says the same, and none of one that no line has
pub more_alike : {Is Also : Line → Type 0} (old new : List Line) →
    ((line : Line) → Also line ↔ Is line) → HasMoreLines old Is new → HasMoreLines old Also new
more_alike old new alike more line = (
  λ has. elim ((more line).0 has) [
    | inl was ↦ inl was
    | inr is ↦ inr ((alike line).1 is)
  ],
  λ one. (more line).1 (elim one [
    | inl was ↦ inl was
    | inr is ↦ inr ((alike line).0 is)
  ]),
)

pub more_none : {Is : Line → Type 0} (old : List Line) → ((line : Line) → Is line → ⊥) →
    HasMoreLines old Is old
more_none old none line = (
  λ has. inl has,
  λ one. elim one [
    | inl was ↦ was
    | inr is ↦ absurd (none line is)
  ],
)

-- a set with one line more
pub more_insert : (eq : Line → Line → Bool) → ((x y : Line) → eq x y ≡ true → x ≡ y) →
    (old new : List Line) (line : Line) → new ≡ insert_key eq old line →
    HasMoreLines old (λ (other : Line). other ≡ line) new
more_insert eq exact old new line made = by (list_any (eq line) old) refl
  where
    by : (there : Bool) → list_any (eq line) old ≡ there →
        HasMoreLines old (λ (other : Line). other ≡ line) new
    by true found =
        let same : new ≡ old = made ∙ ap (λ (c : Bool). cond c old (old ++ line ∷ [])) found in
        subst (λ (l : List Line). HasMoreLines old (λ (other : Line). other ≡ line) l) (sym same)
        (λ other. (
          λ has. inl has,
          λ one. elim one [
            | inl has ↦ has
            | inr is ↦ subst (λ (l : Line). Contains old l) (sym is)
                (Contains-list_any eq exact old line found)
          ],
        ))
    by false missed =
        let grown : new ≡ old ++ line ∷ [] =
        made ∙ ap (λ (c : Bool). cond c old (old ++ line ∷ [])) missed in
        subst (λ (l : List Line). HasMoreLines old (λ (other : Line). other ≡ line) l) (sym grown)
        (λ other. (
          λ has. elim (Contains-push_cases old line other has) [
            | inl was ↦ inl was
            | inr is ↦ inr (sym is)
          ],
          λ one. elim one [
            | inl was ↦ Contains-append_left old (line ∷ []) other was
            | inr is ↦ subst (λ (l : Line). Contains (old ++ line ∷ []) l) (sym is)
                (Contains-push old line)
          ],
        ))

-- a list in which no item stands twice is as it was after `dedup`
module _ {X : Type 0} (same : X → X → Bool) (flips : (x y : X) → same x y ≡ same y x) where
  dedup_from-distinct : (x : X) (xs : List X) → IsDistinct same (x ∷ xs) →
      dedup_from same x xs ≡ x ∷ xs
  unfolding IsDistinct
  dedup_from-distinct x [] once = refl
  dedup_from-distinct x (y ∷ ys) once =
      let differ : same y x ≡ false = flips y x ∙ once.0.0 in
      ap (λ c. cond c (dedup_from same x ys) (x ∷ dedup_from same y ys)) differ
      ∙ ap (λ (l : List X). x ∷ l) (dedup_from-distinct y ys once.1)

  pub dedup-distinct : (xs : List X) → IsDistinct same xs → dedup same xs ≡ xs
  dedup-distinct [] once = refl
  dedup-distinct (x ∷ xs) once = dedup_from-distinct x xs once

-- the bytes of one more character
pub encode_more : (characters : List ℕ) (i d : ℕ) → i < length characters →
    encode_utf8_all (take (i + 1) characters)
    ≡ encode_utf8_all (take i characters) ++ encode_utf8 (get_or characters i d)
encode_more [] i d inside = absurd (omega arith)
encode_more (c ∷ characters) zero d inside = append-nil (encode_utf8 c)
encode_more (c ∷ characters) (suc i) d inside =
    let next : suc i + 1 ≡ suc (i + 1) = omega arith in
    rw next
    (ap (λ (bytes : List ℕ). encode_utf8 c ++ bytes) (encode_more characters i d (omega arith))
    ∙ sym (append_assoc (encode_utf8 c) (encode_utf8_all (take i characters))
    (encode_utf8 (get_or characters i d))))

-- the line of the next configuration is put
pub lines_more : (stem : Stem) (configs : List Config) (i : ℕ) (config : Config) → i < length configs →
    config ≡ get_or configs i config → (old new : List Line) →
    ((line : Line) → Contains old line ↔ IsLineOfSome stem (take i configs) line) →
    HasMoreLines old (IsLineOf stem (place_of config)) new →
    (line : Line) → Contains new line ↔ IsLineOfSome stem (take (i + 1) configs) line
lines_more stem configs i config inside is old new known more line = (
  λ has. elim ((more line).0 has) [
    | inl was ↦
        let some = (known line).0 was in
        (some.0, grown some.0 (Contains-append_left (take i configs) (config ∷ []) some.0 some.1), some.2)
    | inr of ↦ (config, grown config (Contains-push (take i configs) config), of)
  ],
  λ some. (more line).1 (elim (Contains-push_cases (take i configs) config some.0
      (subst (λ (l : List Config). Contains l some.0) next some.1)) [
        | inl was ↦ inl ((known line).1 (some.0, was, some.2))
        | inr same ↦ inr (subst (λ (c : Config). IsLineOf stem (place_of c) line) (sym same) some.2)
      ]),
)
  where
    next : take (i + 1) configs ≡ take i configs ++ config ∷ []
    next = take_more configs i config inside
        ∙ ap (λ (c : Config). take i configs ++ c ∷ []) (sym is)

    grown : (c : Config) → Contains (take i configs ++ config ∷ []) c → Contains (take (i + 1) configs) c
    grown c has = subst (λ (l : List Config). Contains l c) (sym next) has

-- the entry of the next line is put
pub entries_more : (stem : Stem) (lines : List Line) (i : ℕ) (line : Line) → i < length lines →
    line ≡ get_or lines i line → (entries : List Entry) (entry : Entry) →
    AreEntriesFor stem (take i lines) entries → IsEntryFor stem line entry →
    AreEntriesFor stem (take (i + 1) lines) (entries ++ entry ∷ [])
entries_more stem lines i line inside is entries entry are new =
    subst (λ (l : List Line). AreEntriesFor stem l (entries ++ entry ∷ [])) (sym next) (record {
      len = (
          let e = length-append entries (entry ∷ []) in
          let l = length-append (take i lines) (line ∷ []) in
          let n = are.len in
          omega (arith, e, l, n));
      each = each (take i lines) entries are.len are.each;
    })
  where
    next : take (i + 1) lines ≡ take i lines ++ line ∷ []
    next = take_more lines i line inside ∙ ap (λ (x : Line). take i lines ++ x ∷ []) (sym is)

    Each : List Line → List Entry → Type 0
    Each lines entries = (n : ℕ) (x : Line) → slice_get lines n ≡ Some x →
        (e : Entry) × (slice_get entries n ≡ Some e) × IsEntryFor stem x e

    each : (lines : List Line) (entries : List Entry) → length entries ≡ length lines →
        Each lines entries → Each (lines ++ line ∷ []) (entries ++ entry ∷ [])
    each [] [] len known zero x found =
        (entry, refl, subst (λ (x : Line). IsEntryFor stem x entry) (same_Some line x found) new)
    each [] [] len known (suc n) x found = cc
    each [] (e ∷ entries) len known n x found = absurd (omega (arith, len))
    each (y ∷ lines) [] len known n x found = absurd (omega (arith, len))
    each (y ∷ lines) (e ∷ entries) len known zero x found = known zero x found
    each (y ∷ lines) (e ∷ entries) len known (suc n) x found =
        each lines entries (omega (arith, len)) (λ m z at. known (suc m) z at) n x found
