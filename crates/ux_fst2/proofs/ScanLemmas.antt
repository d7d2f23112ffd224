-- A text with a backslash before each of some signs, as the reader of the box language goes over it:
-- it finds nothing free in it, and takes the backslashes off again.
use Rattle.std.proofs.Common.{◌≡◌, ℕ, suc, List, [], ◌∷◌, ◌++◌, Bool, true, false, refl, sym, ◌∙◌, ap, length, Option, Some, None, inl, inr}
use Rattle.std.specs.Prelude.{◌==◌, ◌&&◌, ◌⊎◌, not, if◌then◌else◌}
use Rattle.std.specs.Option.{option_map}
use Rattle.std.proofs.lemmas.Bool.{eqb-true, false≢true}
use Rattle.ux_dela.specs.Printed.{shield, shielded}
use Rattle.ux_dela.specs.Written.{written}
use Rattle.ux_dela.proofs.ShieldLemmas.{shown, shown_other}
use Rattle.ux_grf.specs.Lines.{DOLLAR}
use Rattle.ux_grf.specs.Output.{first_value, names_value}
use Rattle.ux_grf.specs.Protection.{BACKSLASH, ends_open, first_free, is_stop, resolved}
use Rattle.ux_grf.specs.declared.protection.Stop.{Stop}
use Rattle.ux_grf.specs.declared.protection.Stop.TheVariants.{Mark, Greater, CloseBrace, LiteralEnd}
use Rattle.ux_grf.specs.declared.protection.Layer.TheVariants.{Language}

-- a sign gets its backslash
pub shown_sign : (signs : ℕ → Bool) (b : ℕ) (rest : List ℕ) → signs b ≡ true →
    shown signs (b ∷ rest) ≡ BACKSLASH ∷ (b ∷ shown signs rest)
shown_sign signs b rest e = ap (λ t. written (shield t b ∷ shielded signs rest)) e

-- behind a backslash a byte stands for itself
resolved_after : (b : ℕ) (text : List ℕ) →
    resolved Language true (b ∷ text) ≡ b ∷ resolved Language false text
resolved_after b text = by (b == BACKSLASH)
  where
    by : (q : Bool) → (if q && not true && true then resolved Language true text
        else b ∷ resolved Language false text) ≡ b ∷ resolved Language false text
    by true = refl
    by false = refl

resolved_plain : (b : ℕ) (text : List ℕ) → (b == BACKSLASH) ≡ false →
    resolved Language false (b ∷ text) ≡ b ∷ resolved Language false text
resolved_plain b text other =
    ap (λ (q : Bool). if q && not false && true then resolved Language true text
    else b ∷ resolved Language false text) other

-- it is neither a sign at which a part ends nor a backslash that protects
pub free_after : (stop : Stop) (b : ℕ) (text : List ℕ) →
    first_free stop true (b ∷ text) ≡ option_map suc (first_free stop false text)
free_after stop b text = by (is_stop stop b) (b == BACKSLASH)
  where
    by : (p q : Bool) → (if p && not true then Some 0
        else option_map suc (first_free stop (q && not true) text))
        ≡ option_map suc (first_free stop false text)
    by true true = refl
    by true false = refl
    by false true = refl
    by false false = refl

pub free_slash : (stop : Stop) (text : List ℕ) →
    first_free stop false (BACKSLASH ∷ text) ≡ option_map suc (first_free stop true text)
free_slash Mark text = refl
free_slash Greater text = refl
free_slash CloseBrace text = refl
free_slash LiteralEnd text = refl

pub free_plain : (stop : Stop) (b : ℕ) (text : List ℕ) → is_stop stop b ≡ false →
    (b == BACKSLASH) ≡ false →
    first_free stop false (b ∷ text) ≡ option_map suc (first_free stop false text)
free_plain stop b text goes other =
    ap (λ (p : Bool). if p && not false then Some 0
    else option_map suc (first_free stop (b == BACKSLASH && not false) text)) goes
    ∙ ap (λ (q : Bool). option_map suc (first_free stop (q && not false) text)) other

open_after : (b : ℕ) (text : List ℕ) → ends_open true (b ∷ text) ≡ ends_open false text
open_after b text = by (b == BACKSLASH)
  where
    by : (q : Bool) → ends_open (q && not true) text ≡ ends_open false text
    by true = refl
    by false = refl

pub open_plain : (b : ℕ) (text : List ℕ) → (b == BACKSLASH) ≡ false →
    ends_open false (b ∷ text) ≡ ends_open false text
open_plain b text other = ap (λ (q : Bool). ends_open (q && not false) text) other

-- nor does it begin a value
value_after : (b : ℕ) (text : List ℕ) →
    first_value true (b ∷ text) ≡ option_map suc (first_value false text)
value_after b text = by (b == DOLLAR) (names_value text) (b == BACKSLASH)
  where
    by : (p r q : Bool) → (if p && not true && r then Some 0
        else option_map suc (first_value (q && not true) text))
        ≡ option_map suc (first_value false text)
    by true true true = refl
    by true true false = refl
    by true false true = refl
    by true false false = refl
    by false true true = refl
    by false true false = refl
    by false false true = refl
    by false false false = refl

value_plain : (b : ℕ) (text : List ℕ) → (b == DOLLAR) ≡ false → (b == BACKSLASH) ≡ false →
    first_value false (b ∷ text) ≡ option_map suc (first_value false text)
value_plain b text goes other =
    ap (λ (p : Bool). if p && not false && names_value text then Some 0
    else option_map suc (first_value (b == BACKSLASH && not false) text)) goes
    ∙ ap (λ (q : Bool). option_map suc (first_value (q && not false) text)) other

module _ (signs : ℕ → Bool) (slash : signs BACKSLASH ≡ true) where
  -- a byte that gets no backslash is none
  not_slash : (b : ℕ) → signs b ≡ false → (b == BACKSLASH) ≡ false
  not_slash b other = by (b == BACKSLASH) refl
    where
      by : (t : Bool) → (b == BACKSLASH) ≡ t → (b == BACKSLASH) ≡ false
      by true is = absurd (false≢true (sym other ∙ (ap signs (eqb-true b BACKSLASH is) ∙ slash)))
      by false is = is

  -- the backslashes are taken off again
  pub resolved_shown : (text : List ℕ) → resolved Language false (shown signs text) ≡ text
  resolved_shown [] = refl
  resolved_shown (b ∷ text) = by (signs b) refl (resolved_shown text)
    where
      by : (t : Bool) → signs b ≡ t → resolved Language false (shown signs text) ≡ text →
          resolved Language false (shown signs (b ∷ text)) ≡ b ∷ text
      by true is later =
          ap (resolved Language false) (shown_sign signs b text is)
          ∙ resolved_after b (shown signs text) ∙ ap (λ (t : List ℕ). b ∷ t) later
      by false is later =
          ap (resolved Language false) (shown_other signs b text is)
          ∙ resolved_plain b (shown signs text) (not_slash b is) ∙ ap (λ (t : List ℕ). b ∷ t) later

  -- no backslash is left open
  pub open_shown : (text after : List ℕ) →
      ends_open false (shown signs text ++ after) ≡ ends_open false after
  open_shown [] after = refl
  open_shown (b ∷ text) after = by (signs b) refl (open_shown text after)
    where
      rest : List ℕ
      rest = shown signs text ++ after

      by : (t : Bool) → signs b ≡ t → ends_open false rest ≡ ends_open false after →
          ends_open false (shown signs (b ∷ text) ++ after) ≡ ends_open false after
      by true is later =
          ap (λ (t : List ℕ). ends_open false (t ++ after)) (shown_sign signs b text is)
          ∙ open_after b rest ∙ later
      by false is later =
          ap (λ (t : List ℕ). ends_open false (t ++ after)) (shown_other signs b text is)
          ∙ open_plain b rest (not_slash b is) ∙ later

  module _ (stop : Stop) (stops : (b : ℕ) → signs b ≡ false → is_stop stop b ≡ false) where
    free_on : (b : ℕ) (text after : List ℕ) (n : Option ℕ) →
        first_free stop false (shown signs text ++ after) ≡ n →
        (first_free stop false (shown signs (b ∷ text) ++ after)
        ≡ option_map suc (option_map suc n)) × (signs b ≡ true)
        ⊎ (first_free stop false (shown signs (b ∷ text) ++ after) ≡ option_map suc n)
        × (signs b ≡ false)
    free_on b text after n later = by (signs b) refl
      where
        rest : List ℕ
        rest = shown signs text ++ after

        by : (t : Bool) → signs b ≡ t →
            (first_free stop false (shown signs (b ∷ text) ++ after)
            ≡ option_map suc (option_map suc n)) × (signs b ≡ true)
            ⊎ (first_free stop false (shown signs (b ∷ text) ++ after) ≡ option_map suc n)
            × (signs b ≡ false)
        by true is = inl (
          ap (λ (t : List ℕ). first_free stop false (t ++ after)) (shown_sign signs b text is)
              ∙ free_slash stop (b ∷ rest) ∙ ap (option_map suc) (free_after stop b rest)
              ∙ ap (λ (o : Option ℕ). option_map suc (option_map suc o)) later,
          is,
        )
        by false is = inr (
          ap (λ (t : List ℕ). first_free stop false (t ++ after)) (shown_other signs b text is)
              ∙ free_plain stop b rest (stops b is) (not_slash b is)
              ∙ ap (option_map suc) later,
          is,
        )

    -- no sign at which a part ends stands free in it, and so none where none stands behind it
    pub free_none : (text after : List ℕ) → first_free stop false after ≡ None →
        first_free stop false (shown signs text ++ after) ≡ None
    free_none [] after none = none
    free_none (b ∷ text) after none =
        elim (free_on b text after None (free_none text after none)) [
          | inl l ↦ l.0
          | inr r ↦ r.0
        ]

    -- or the one that stands right behind it is the first
    pub free_some : (text after : List ℕ) → first_free stop false after ≡ Some 0 →
        first_free stop false (shown signs text ++ after) ≡ Some (length (shown signs text))
    free_some [] after here = here
    free_some (b ∷ text) after here =
        elim (free_on b text after (Some (length (shown signs text))) (free_some text after here)) [
          | inl l ↦ l.0 ∙ sym (ap (λ (t : List ℕ). Some (length t)) (shown_sign signs b text l.1))
          | inr r ↦ r.0 ∙ sym (ap (λ (t : List ℕ). Some (length t)) (shown_other signs b text r.1))
        ]

  module _ (dollar : (b : ℕ) → signs b ≡ false → (b == DOLLAR) ≡ false) where
    value_on : (b : ℕ) (text after : List ℕ) (n : Option ℕ) →
        first_value false (shown signs text ++ after) ≡ n →
        (first_value false (shown signs (b ∷ text) ++ after)
        ≡ option_map suc (option_map suc n)) × (signs b ≡ true)
        ⊎ (first_value false (shown signs (b ∷ text) ++ after) ≡ option_map suc n)
        × (signs b ≡ false)
    value_on b text after n later = by (signs b) refl
      where
        rest : List ℕ
        rest = shown signs text ++ after

        by : (t : Bool) → signs b ≡ t →
            (first_value false (shown signs (b ∷ text) ++ after)
            ≡ option_map suc (option_map suc n)) × (signs b ≡ true)
            ⊎ (first_value false (shown signs (b ∷ text) ++ after) ≡ option_map suc n)
            × (signs b ≡ false)
        by true is = inl (
          ap (λ (t : List ℕ). first_value false (t ++ after)) (shown_sign signs b text is)
              ∙ ap (option_map suc) (value_after b rest)
              ∙ ap (λ (o : Option ℕ). option_map suc (option_map suc o)) later,
          is,
        )
        by false is = inr (
          ap (λ (t : List ℕ). first_value false (t ++ after)) (shown_other signs b text is)
              ∙ value_plain b rest (dollar b is) (not_slash b is)
              ∙ ap (option_map suc) later,
          is,
        )

    -- the same of values
    pub value_none : (text after : List ℕ) → first_value false after ≡ None →
        first_value false (shown signs text ++ after) ≡ None
    value_none [] after none = none
    value_none (b ∷ text) after none =
        elim (value_on b text after None (value_none text after none)) [
          | inl l ↦ l.0
          | inr r ↦ r.0
        ]

    pub value_some : (text after : List ℕ) → first_value false after ≡ Some 0 →
        first_value false (shown signs text ++ after) ≡ Some (length (shown signs text))
    value_some [] after here = here
    value_some (b ∷ text) after here =
        elim (value_on b text after (Some (length (shown signs text))) (value_some text after here)) [
          | inl l ↦ l.0 ∙ sym (ap (λ (t : List ℕ). Some (length t)) (shown_sign signs b text l.1))
          | inr r ↦ r.0 ∙ sym (ap (λ (t : List ℕ). Some (length t)) (shown_other signs b text r.1))
        ]
