-- Two lists are one where their first items are, and then the rests. So pairs are compared, and
-- codes.
use Rattle.std.proofs.Common.{◌≡◌, ◌≢◌, ℕ, ◌+◌, ◌<◌, ◌==◌, List, [], ◌∷◌, Bool, true, false, cond, ◌↔◌, refl, sym, ◌∙◌, ap, length, map, drop, get_or}
use Rattle.std.specs.Prelude.{IsTrue, Option, None, Some, MatchOption}
use Rattle.std.specs.Option.{is_some}
use Rattle.std.specs.Str.{bytes_eq}
use Rattle.std.proofs.lemmas.Bool.{false≢true}
use Rattle.std.proofs.lemmas.Bool.Decides.{Decides-eqb}
use Rattle.std.proofs.lemmas.List.{drop_more, nil_from_length}
use Rattle.std.proofs.lemmas.Slice.Eq.{bytes_eq-Decides}
use Rattle.ux_dela.specs.declared.entry.Entry.{Entry}
use Rattle.ux_image.specs.Codes.{entry_code, pairs_between, pairs_of_pieces, pair_between}
use Rattle.ux_image.specs.Cutting.{HasNoSeparator, IsCutOf}
use Rattle.ux_image.specs.Pieces.{separators}
use Rattle.ux_image.specs.declared.pieces.Cut.{Cut}
use Rattle.ux_image.proofs.CutLemmas.{separators_none, none_from_separators}
use Rattle.ux_image.proofs.MadeLemmas.{pairs_none}

-- the lists agree so far, and the one that is left begins with this item
module _ {X : Type 0} (P : Type 0) (item : X) (left other rest : List X)
    (is : other ≡ item ∷ rest) (so_far : P ↔ (left ≡ other)) where
  -- where the first one has it too, the rests are compared
  pub goes_on : (later : List X) → left ≡ item ∷ later → P ↔ (later ≡ rest)
  goes_on later cut = (
    λ p.
        let same : item ∷ later ≡ item ∷ rest = sym cut ∙ so_far.0 p ∙ is in
        cc,
    λ same. so_far.1 (cut ∙ ap (λ (items : List X). item ∷ items) same ∙ sym is),
  )

  -- where it hasn't, they differ
  pub differ : ((later : List X) → left ≢ item ∷ later) → P → ⊥
  differ none p = none rest (so_far.0 p ∙ is)

-- and at the end the comparison of what is left is that of the whole
pub compared : {X : Type 0} (P : Type 0) (same : Bool) (left other last : List X) →
    other ≡ last → (P ↔ (left ≡ other)) → (IsTrue same ↔ (left ≡ last)) → IsTrue same ↔ P
compared P same left other last is so_far at_end = (
  λ h. so_far.1 (at_end.0 h ∙ sym is),
  λ p. at_end.1 (so_far.0 p ∙ is),
)

-- a list is empty where its length is 0
pub is_empty : {X : Type 0} (items : List X) (empty : Bool) → empty ≡ (length items == 0) →
    IsTrue empty ↔ (items ≡ [])
is_empty {X} items empty is =
    let decides = Decides-eqb (length items) 0 in (
      λ h. nil_from_length items (decides.0 (sym is ∙ h)),
      λ none. is ∙ decides.1 (ap (length {A = X}) none),
    )

-- the codes from an entry on
pub codes_from : (entries : List Entry) (i : ℕ) (entry : Entry) → i < length entries →
    entry ≡ get_or entries i entry →
    map entry_code (drop i entries) ≡ entry_code entry ∷ map entry_code (drop (i + 1) entries)
codes_from entries i entry inside is =
    ap (map entry_code) (drop_more entries i entry inside)
    ∙ ap (λ (e : Entry). entry_code e ∷ map entry_code (drop (i + 1) entries)) (sym is)

-- a text that wasn't cut has no separator
pub none_found : (text : List ℕ) (found : Option Cut) (some : Bool) →
    MatchOption found (HasNoSeparator text) (IsCutOf text) → some ≡ is_some found →
    some ≡ false → HasNoSeparator text
none_found text None some at is missed = at
none_found text (Some cut) some at is missed = absurd (false≢true (sym missed ∙ is))

-- a form without separators, or with others than the lemma, has one pair
pub pairs_whole : (form lemma : List ℕ) →
    (separators form ≡ separators lemma → HasNoSeparator form) →
    pairs_between form lemma ≡ pair_between form lemma ∷ []
pairs_whole form lemma none = by (bytes_eq (separators form) (separators lemma)) refl
  where
    by : (same : Bool) → bytes_eq (separators form) (separators lemma) ≡ same →
        pairs_between form lemma ≡ pair_between form lemma ∷ []
    by true is =
        let same = (bytes_eq-Decides (separators form) (separators lemma)).0 is in
        let in_form = none same in
        ap (λ b. cond b (pairs_of_pieces form lemma) (pair_between form lemma ∷ [])) is
        ∙ pairs_none form lemma in_form
        (none_from_separators lemma (sym same ∙ separators_none form in_form))
    by false is =
        ap (λ b. cond b (pairs_of_pieces form lemma) (pair_between form lemma ∷ [])) is
