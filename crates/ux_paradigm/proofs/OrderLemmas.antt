-- The order of the lines of a stem is decided by their forms, and where these are equal by their own
-- codes: so what the forms begin with doesn't change it.
use Rattle.std.proofs.Common.{◌≡◌, ◌⊎◌, ℕ, List, [], ◌∷◌, ◌++◌, Bool, true, false, refl, sym, ◌∙◌, ap, inl, inr}
use Rattle.std.specs.Ordering.{nat_cmp, ordering_then}
use Rattle.std.specs.declared.cmp.Ordering.{Ordering}
use Rattle.std.specs.declared.cmp.Ordering.TheVariants.{Less, Equal, Greater}
use Rattle.std.specs.Cmp.Lexicographic.{slice_cmp}
use Rattle.std.specs.FinMap.{nat_cmp-IsAntisymmetric}
use Rattle.std.proofs.lemmas.Bool.{false≢true}
use Rattle.ux_dela.specs.Printed.{shield, shielded}
use Rattle.ux_dela.specs.Signs.{BACKSLASH, COMMA, is_form_sign}
use Rattle.ux_dela.specs.Written.{written}

abbrev cmp : List ℕ → List ℕ → Ordering
cmp a b = slice_cmp nat_cmp a b

-- a text with its backslashes
abbrev pub shown : List ℕ → List ℕ
shown text = written (shielded is_form_sign text)

-- of two texts with a comma behind them, what follows decides nothing
abbrev pub AreDecided : (text other : List ℕ) → Type 0
AreDecided text other = (x y v w : List ℕ) →
    cmp (text ++ COMMA ∷ x) (other ++ COMMA ∷ y) ≡ cmp (text ++ COMMA ∷ v) (other ++ COMMA ∷ w)

-- different numbers decide
first_decides : (m n : ℕ) → (nat_cmp m n ≡ Equal → ⊥) → (r s : Ordering) →
    ordering_then (nat_cmp m n) r ≡ ordering_then (nat_cmp m n) s
first_decides m n differ r s = by (nat_cmp m n) refl
  where
    by : (o : Ordering) → nat_cmp m n ≡ o → ordering_then o r ≡ ordering_then o s
    by Less is = refl
    by Equal is = absurd (differ is)
    by Greater is = refl

-- a sign isn't equal to what is no sign
sign_differs : (m n : ℕ) → is_form_sign m ≡ true → is_form_sign n ≡ false → nat_cmp m n ≡ Equal → ⊥
sign_differs m n sign other is =
    false≢true (sym other ∙ (ap is_form_sign (sym (nat_cmp-IsAntisymmetric m n is)) ∙ sign))

other_differs : (m n : ℕ) → is_form_sign m ≡ false → is_form_sign n ≡ true → nat_cmp m n ≡ Equal → ⊥
other_differs m n other sign is =
    false≢true (sym other ∙ (ap is_form_sign (nat_cmp-IsAntisymmetric m n is) ∙ sign))

-- texts that differ at their first byte
decided_first : (m n : ℕ) (a b : List ℕ) → (nat_cmp m n ≡ Equal → ⊥) → AreDecided (m ∷ a) (n ∷ b)
decided_first m n a b differ = λ x y v w. first_decides m n differ
    (cmp (a ++ COMMA ∷ x) (b ++ COMMA ∷ y)) (cmp (a ++ COMMA ∷ v) (b ++ COMMA ∷ w))

-- texts that are decided behind their first bytes, or there
decided_later : (m n : ℕ) (a b : List ℕ) → AreDecided a b → AreDecided (m ∷ a) (n ∷ b)
decided_later m n a b later = λ x y v w. ap (ordering_then (nat_cmp m n)) (later x y v w)

-- of two forms that are printed, either both are one, or what follows their commas decides nothing
pub decided : (a b : List ℕ) → (a ≡ b) ⊎ AreDecided (shown a) (shown b)
decided [] [] = inl refl
decided [] (d ∷ b) = inr (by (is_form_sign d) refl)
  where
    by : (t : Bool) → is_form_sign d ≡ t →
        AreDecided [] (written (shield t d ∷ shielded is_form_sign b))
    by true sign = λ x y v w. refl
    by false other = λ x y v w. first_decides COMMA d (sign_differs COMMA d refl other)
        (cmp x (shown b ++ COMMA ∷ y)) (cmp v (shown b ++ COMMA ∷ w))
decided (c ∷ a) [] = inr (by (is_form_sign c) refl)
  where
    by : (t : Bool) → is_form_sign c ≡ t →
        AreDecided (written (shield t c ∷ shielded is_form_sign a)) []
    by true sign = λ x y v w. refl
    by false other = λ x y v w. first_decides c COMMA (other_differs c COMMA other refl)
        (cmp (shown a ++ COMMA ∷ x) y) (cmp (shown a ++ COMMA ∷ v) w)
decided (c ∷ a) (d ∷ b) =
    by (nat_cmp c d) refl (is_form_sign c) refl (is_form_sign d) refl (decided a b)
  where
    Is : (s t : Bool) → Type 0
    Is s t = (c ∷ a ≡ d ∷ b) ⊎ AreDecided (written (shield s c ∷ shielded is_form_sign a))
        (written (shield t d ∷ shielded is_form_sign b))

    differ : (o : Ordering) → nat_cmp c d ≡ o → (o ≡ Equal → ⊥) → nat_cmp c d ≡ Equal → ⊥
    differ o is other equal = other (sym is ∙ equal)

    apart : (nat_cmp c d ≡ Equal → ⊥) → (s : Bool) → is_form_sign c ≡ s → (t : Bool) →
        is_form_sign d ≡ t → Is s t
    apart unlike true sign true also = inr (decided_later BACKSLASH BACKSLASH (c ∷ shown a) (d ∷ shown b)
        (decided_first c d (shown a) (shown b) unlike))
    apart unlike true sign false other = inr (decided_first BACKSLASH d (c ∷ shown a) (shown b)
        (sign_differs BACKSLASH d refl other))
    apart unlike false other true sign = inr (decided_first c BACKSLASH (shown a) (d ∷ shown b)
        (other_differs c BACKSLASH other refl))
    apart unlike false other false also = inr (decided_first c d (shown a) (shown b) unlike)

    together : AreDecided (shown a) (shown b) → (s : Bool) → is_form_sign c ≡ s → (t : Bool) →
        is_form_sign d ≡ t → Is s t
    together rest true sign true also =
        inr (decided_later BACKSLASH BACKSLASH (c ∷ shown a) (d ∷ shown b)
        (decided_later c d (shown a) (shown b) rest))
    together rest true sign false other = inr (decided_first BACKSLASH d (c ∷ shown a) (shown b)
        (sign_differs BACKSLASH d refl other))
    together rest false other true sign = inr (decided_first c BACKSLASH (shown a) (d ∷ shown b)
        (other_differs c BACKSLASH other refl))
    together rest false other false also = inr (decided_later c d (shown a) (shown b) rest)

    by : (o : Ordering) → nat_cmp c d ≡ o → (s : Bool) → is_form_sign c ≡ s → (t : Bool) →
        is_form_sign d ≡ t → (a ≡ b) ⊎ AreDecided (shown a) (shown b) → Is s t
    by Less is s c_is t d_is rest = apart (differ Less is (λ equal. cc)) s c_is t d_is
    by Greater is s c_is t d_is rest = apart (differ Greater is (λ equal. cc)) s c_is t d_is
    by Equal is s c_is t d_is (inl same) =
        inl (ap (λ (n : ℕ). n ∷ a) (nat_cmp-IsAntisymmetric c d is)
        ∙ ap (λ (l : List ℕ). d ∷ l) same)
    by Equal is s c_is t d_is (inr rest) = together rest s c_is t d_is
