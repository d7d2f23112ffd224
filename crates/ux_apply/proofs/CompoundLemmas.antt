-- The compound entries of a token: its own, and those of one span more.
use Rattle.std.proofs.Common.{arith, ◌≡◌, ◌⊎◌, ℕ, zero, suc, ◌+◌, List, [], ◌∷◌, ◌++◌, append_assoc, append-nil, length, map, refl, sym, ◌∙◌, ap, subst, inl, inr}
use Rattle.std.specs.Prelude.{IsSomeAnd, Some, slice_get}
use Rattle.std.proofs.lemmas.List.{length_push}
use Rattle.std.proofs.lemmas.Option.{none-some, same_Some}
use Rattle.ux_alphabet.specs.Letters.{Letters}
use Rattle.ux_dela.specs.declared.entry.Entry.{Entry}
use Rattle.ux_tokens.specs.Tokens.{Token}
use Rattle.ux_lexical_tables.specs.Tables.{AreOwnCompound, with_lasts}
use Rattle.ux_apply.specs.declared.priority.Priority.{Priority}
use Rattle.ux_apply.specs.Applied.{AreCompoundUpTo, AreOfSpan}

-- what stands in a list with one item more stands in the list, or is that item
pushed_cases : {X : Type 0} (xs : List X) (x : X) (i : ℕ) (y : X) →
    slice_get (xs ++ x ∷ []) i ≡ Some y →
    (slice_get xs i ≡ Some y) ⊎ ((i ≡ length xs) × (x ≡ y))
pushed_cases [] x zero y at = inr (refl, same_Some x y at)
pushed_cases [] x (suc i) y at = absurd (none-some y at)
pushed_cases (z ∷ xs) x zero y at = inl at
pushed_cases (z ∷ xs) x (suc i) y at = elim (pushed_cases xs x i y at) [
  | inl there ↦ inl there
  | inr is ↦ inr (omega (arith, is.0), is.1)
]

-- the entries of a span with its last token
abbrev pub marked : (last : ℕ) → List Entry → List (ℕ × Entry)
marked last entries = map (λ entry. (last, entry)) entries

-- the entries of one span more stand behind
with_lasts-push : (from last : ℕ) (spans : List (List Entry)) (entries : List Entry) →
    from + length spans ≡ last → with_lasts from (spans ++ entries ∷ [])
    ≡ with_lasts from spans ++ marked last entries
with_lasts-push from last [] entries at =
    let same : from ≡ last = omega (arith, at) in
    append-nil (marked from entries) ∙ ap (λ (n : ℕ). marked n entries) same
with_lasts-push from last (here ∷ spans) entries at =
    ap (λ (l : List (ℕ × Entry)). marked from here ++ l)
    (with_lasts-push (from + 1) last spans entries (omega (arith, at)))
    ∙ sym (append_assoc (marked from here) (with_lasts (from + 1) spans) (marked last entries))

-- where no span has an entry, there is nothing
pub with_lasts-none : (last : ℕ) (spans : List (List Entry)) →
    ((i : ℕ) (entries : List Entry) → slice_get spans i ≡ Some entries → entries ≡ []) →
    with_lasts last spans ≡ []
with_lasts-none last [] none = refl
with_lasts-none last (entries ∷ spans) none =
    ap (λ (l : List Entry). marked last l ++ with_lasts (last + 1) spans) (none 0 entries refl)
    ∙ with_lasts-none (last + 1) spans (λ i found at. none (suc i) found at)

module _ (alphabet : Letters) (dics : List (Priority × List Entry)) (tokens : List Token)
    (first : ℕ) where
  -- the own entry of a token
  pub row-own : (row : List (ℕ × Entry)) → IsSomeAnd (slice_get tokens first)
      (λ token. AreOwnCompound alphabet token.kind token.text first row) →
      AreCompoundUpTo alphabet dics tokens first (first + 1) row
  row-own row own = record {
    own = row;
    spans = [];
    of_token = own;
    of_spans = λ i entries at. absurd (none-some entries at);
    up_to = omega arith;
    row_is = sym (append-nil row);
  }

  -- and those of one span more
  pub row-more : (last : ℕ) (row : List (ℕ × Entry)) (entries : List Entry) →
      AreCompoundUpTo alphabet dics tokens first last row →
      AreOfSpan alphabet dics tokens first last entries →
      AreCompoundUpTo alphabet dics tokens first (last + 1) (row ++ marked last entries)
  row-more last row entries before of =
      let long = length_push before.spans entries in record {
        own = before.own;
        spans = before.spans ++ entries ∷ [];
        of_token = before.of_token;
        of_spans = λ i found at. elim (pushed_cases before.spans entries i found at) [
          | inl there ↦ before.of_spans i found there
          | inr is ↦
              let here : last ≡ first + 1 + i = omega (arith, is.0, before.up_to) in
              subst (λ (n : ℕ). AreOfSpan alphabet dics tokens first n found) here
              (subst (AreOfSpan alphabet dics tokens first last) is.1 of)
        ];
        up_to = omega (arith, long, before.up_to);
        row_is = ap (λ (l : List (ℕ × Entry)). l ++ marked last entries) before.row_is
            ∙ (append_assoc before.own (with_lasts (first + 1) before.spans) (marked last entries)
            ∙ ap (λ (l : List (ℕ × Entry)). before.own ++ l)
            (sym (with_lasts-push (first + 1) last before.spans entries before.up_to)));
      }
