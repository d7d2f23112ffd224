-- Tables in which each value is that of its own key, and of codes by their text.
use Rattle.std.proofs.Common.{◌≡◌, ℕ, Bool, true, false, List, [], ◌∷◌, Some, String, Global, cond, refl, sym, ◌∙◌, ap, subst, string_bytes}
use Rattle.std.specs.Prelude.{All, bytes_eq}
use Rattle.std.specs.Bool.{Decides}
use Rattle.std.specs.Map.{lookup}
use Rattle.std.specs.declared.rc.Rc.{Rc}
use Rattle.std.proofs.lemmas.Option.{none-some, same_Some}
use Rattle.std.proofs.lemmas.List.Elements.{All-cons, All-head, All-tail}
use Rattle.std.proofs.lemmas.Slice.Eq.{bytes_eq-Decides}
use Rattle.indexmap.specs.IndexMap.{insert_entry}
use Rattle.ux_dela.specs.Printed.{IsCodesText}
use Rattle.ux_dict.specs.declared.codes_table.SharedCodes.{SharedCodes}

module _ {K V : Type 0} (eq : K → K → Bool) (decides : (x y : K) → Decides (eq x y) (x ≡ y))
    (value : V → K) where
  abbrev pub IsOwn : K × V → Type 0
  IsOwn entry = value entry.1 ≡ entry.0

  -- what is found at a key is the key's
  pub own_found : (k : K) (v : V) (entries : List (K × V)) → All IsOwn entries →
      lookup (eq k) entries ≡ Some v → value v ≡ k
  own_found k v [] own is = absurd (none-some v is)
  own_found k v (entry ∷ entries) own is =
      by (eq k entry.0) refl (own_found k v entries (All-tail IsOwn entry entries own)) is
    where
      by : (b : Bool) → eq k entry.0 ≡ b → (lookup (eq k) entries ≡ Some v → value v ≡ k) →
          cond b (Some entry.1) (lookup (eq k) entries) ≡ Some v → value v ≡ k
      by true same later is =
          ap value (sym (same_Some entry.1 v is)) ∙ All-head IsOwn entry entries own
          ∙ sym ((decides k entry.0).0 same)
      by false other later is = later is

  -- one more entry, whose value is that of its key
  pub own_more : (k : K) (v : V) → value v ≡ k → (entries : List (K × V)) → All IsOwn entries →
      All IsOwn (insert_entry eq entries k v)
  own_more k v is [] own = All-cons IsOwn (k, v) [] is own
  own_more k v is (entry ∷ entries) own =
      by (eq k entry.0) refl (own_more k v is entries (All-tail IsOwn entry entries own))
    where
      by : (b : Bool) → eq k entry.0 ≡ b → All IsOwn (insert_entry eq entries k v) →
          All IsOwn (cond b ((entry.0, v) ∷ entries) (entry ∷ insert_entry eq entries k v))
      by true same later =
          All-cons IsOwn (entry.0, v) entries (is ∙ (decides k entry.0).0 same)
          (All-tail IsOwn entry entries own)
      by false other later =
          All-cons IsOwn entry (insert_entry eq entries k v) (All-head IsOwn entry entries own)
          later

-- the codes are those of the text
abbrev pub IsOfText : String Global × Rc SharedCodes Global → Type 0
IsOfText entry = IsCodesText (string_bytes entry.0) entry.1.value

-- equal texts have the same codes
same_codes : (text other : List ℕ) (shared : Rc SharedCodes Global) → bytes_eq text other ≡ true →
    IsCodesText text shared.value → IsCodesText other shared.value
same_codes text other shared same is =
    subst (λ (t : List ℕ). IsCodesText t shared.value) ((bytes_eq-Decides text other).0 same) is

-- what is found at a text are its codes
pub text_found : (text : List ℕ) (shared : Rc SharedCodes Global)
    (entries : List (String Global × Rc SharedCodes Global)) → All IsOfText entries →
    lookup (λ key. bytes_eq text (string_bytes key)) entries ≡ Some shared →
    IsCodesText text shared.value
text_found text shared [] of_text is = absurd (none-some shared is)
text_found text shared (entry ∷ entries) of_text is =
    by (bytes_eq text (string_bytes entry.0)) refl
    (text_found text shared entries (All-tail IsOfText entry entries of_text)) is
  where
    here : text ≡ string_bytes entry.0 → IsCodesText text entry.1.value
    here same = subst (λ (t : List ℕ). IsCodesText t entry.1.value) (sym same)
        (All-head IsOfText entry entries of_text)

    by : (b : Bool) → bytes_eq text (string_bytes entry.0) ≡ b →
        (lookup (λ key. bytes_eq text (string_bytes key)) entries ≡ Some shared →
        IsCodesText text shared.value) →
        cond b (Some entry.1) (lookup (λ key. bytes_eq text (string_bytes key)) entries)
        ≡ Some shared → IsCodesText text shared.value
    by true same later is =
        subst (λ (rc : Rc SharedCodes Global). IsCodesText text rc.value)
        (same_Some entry.1 shared is)
        (here ((bytes_eq-Decides text (string_bytes entry.0)).0 same))
    by false other later is = later is

-- one more text, with its codes
pub text_more : (key : String Global) (shared : Rc SharedCodes Global) →
    IsCodesText (string_bytes key) shared.value →
    (entries : List (String Global × Rc SharedCodes Global)) → All IsOfText entries →
    All IsOfText (insert_entry (λ key other. bytes_eq (string_bytes key) (string_bytes other)) entries
    key shared)
text_more key shared is [] of_text = All-cons IsOfText (key, shared) [] is of_text
text_more key shared is (entry ∷ entries) of_text =
    by (bytes_eq (string_bytes key) (string_bytes entry.0)) refl
    (text_more key shared is entries (All-tail IsOfText entry entries of_text))
  where
    more : List (String Global × Rc SharedCodes Global)
    more = insert_entry (λ key other. bytes_eq (string_bytes key) (string_bytes other)) entries key
        shared

    by : (b : Bool) → bytes_eq (string_bytes key) (string_bytes entry.0) ≡ b → All IsOfText more →
        All IsOfText (cond b ((entry.0, shared) ∷ entries) (entry ∷ more))
    by true same later =
        All-cons IsOfText (entry.0, shared) entries
        (same_codes (string_bytes key) (string_bytes entry.0) shared same is)
        (All-tail IsOfText entry entries of_text)
    by false other later =
        All-cons IsOfText entry more (All-head IsOfText entry entries of_text) later
