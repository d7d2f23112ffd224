-- The order of texts by bytes, and the least text of several sets.
use Rattle.std.proofs.Common.{◌≡◌, ℕ, List, [], ◌∷◌, ◌++◌, refl, sym, ◌∙◌, ap, subst, ◌⊎◌, inl, inr, Bool, true, false, cond, Some, None}
use Rattle.std.specs.Prelude.{Option, option_map}
use Rattle.std.specs.Ordering.{nat_cmp, is_gt, is_lt, ordering_reverse, ordering_then}
use Rattle.std.specs.declared.cmp.Ordering.{Ordering}
use Rattle.std.specs.declared.cmp.Ordering.TheVariants.{Less, Equal, Greater}
use Rattle.std.specs.Cmp.{IsTotalOrder, nat_cmp_total}
use Rattle.std.specs.Cmp.Lexicographic.{slice_cmp, nat_list_cmp_total}
use Rattle.std.proofs.lemmas.Bool.{false≢true}
use Rattle.ux_inflect.specs.Inflected.{IsNotAfter}
use Rattle.ux_inflect.specs.Ways.{lesser_of, lesser_option, IsLeastOf}

abbrev cmp : List ℕ → List ℕ → Ordering
cmp a b = slice_cmp nat_cmp a b

self_equal : (o : Ordering) → o ≡ ordering_reverse o → o ≡ Equal
self_equal Less h = cc
self_equal Equal h = refl
self_equal Greater h = cc

nat_cmp_self : (n : ℕ) → nat_cmp n n ≡ Equal
nat_cmp_self n = self_equal (nat_cmp n n) (nat_cmp_total.antisymm n n)

pub not_after_self : (a : List ℕ) → IsNotAfter a a
not_after_self a = ap is_gt (self_equal (cmp a a) (nat_list_cmp_total.antisymm a a))

pub not_after_then : (a b c : List ℕ) → IsNotAfter a b → IsNotAfter b c → IsNotAfter a c
not_after_then a b c h k = by (cmp a b) refl (cmp b c) refl h k
  where
    total : IsTotalOrder cmp
    total = nat_list_cmp_total

    by : (o : Ordering) → cmp a b ≡ o → (r : Ordering) → cmp b c ≡ r → is_gt o ≡ false →
        is_gt r ≡ false → IsNotAfter a c
    by Equal e r f h k = ap is_gt (total.congr a b c e ∙ f) ∙ k
    by Less e Less f h k = ap is_gt (total.trans a b c e f)
    by Less e Equal f h k =
        let back : cmp c b ≡ Equal = total.antisymm c b ∙ ap ordering_reverse f in
        let ca : cmp c a ≡ Greater =
        total.congr c b a back ∙ (total.antisymm b a ∙ ap ordering_reverse e) in
        ap is_gt (total.antisymm a c ∙ ap ordering_reverse ca)
    by Less e Greater f h k = absurd (false≢true (sym k))
    by Greater e r f h k = absurd (false≢true (sym h))

-- two texts with one beginning are ordered as their ends are
pub cmp_behind : (x a b : List ℕ) → cmp (x ++ a) (x ++ b) ≡ cmp a b
cmp_behind [] a b = refl
cmp_behind (n ∷ x) a b =
    ap (λ (o : Ordering). ordering_then o (cmp (x ++ a) (x ++ b))) (nat_cmp_self n)
    ∙ cmp_behind x a b

pub not_after_behind : (x a b : List ℕ) → IsNotAfter a b → IsNotAfter (x ++ a) (x ++ b)
not_after_behind x a b h = ap is_gt (cmp_behind x a b) ∙ h

pub nothing_first : (a : List ℕ) → IsNotAfter [] a
nothing_first [] = refl
nothing_first (n ∷ a) = refl

pub lesser_first : (text other : List ℕ) → IsNotAfter (lesser_of text other) text
lesser_first text other = by (cmp other text) refl
  where
    by : (o : Ordering) → cmp other text ≡ o → IsNotAfter (cond (is_lt o) other text) text
    by Less e = ap is_gt e
    by Equal e = not_after_self text
    by Greater e = not_after_self text

pub lesser_second : (text other : List ℕ) → IsNotAfter (lesser_of text other) other
lesser_second text other = by (cmp other text) refl
  where
    back : (o : Ordering) → cmp other text ≡ o → cmp text other ≡ ordering_reverse o
    back o e = nat_list_cmp_total.antisymm text other ∙ ap ordering_reverse e

    by : (o : Ordering) → cmp other text ≡ o → IsNotAfter (cond (is_lt o) other text) other
    by Less e = not_after_self other
    by Equal e = ap is_gt (back Equal e)
    by Greater e = ap is_gt (back Greater e)

pub lesser_either : (text other : List ℕ) →
    (lesser_of text other ≡ text) ⊎ (lesser_of text other ≡ other)
lesser_either text other = by (is_lt (cmp other text))
  where
    by : (b : Bool) → (cond b other text ≡ text) ⊎ (cond b other text ≡ other)
    by true = inr refl
    by false = inl refl

-- of two sets together
pub least_both : (S T : List ℕ → Type 0) (a b : Option (List ℕ)) → IsLeastOf S a → IsLeastOf T b →
    IsLeastOf (λ text. S text ⊎ T text) (lesser_option a b)
least_both S T None None s t = λ text h. elim h [ inl x ↦ s text x | inr y ↦ t text y ]
least_both S T None (Some b) s t =
    (inr t.0, λ text h. elim h [ inl x ↦ absurd (s text x) | inr y ↦ t.1 text y ])
least_both S T (Some a) None s t =
    (inl s.0, λ text h. elim h [ inl x ↦ s.1 text x | inr y ↦ absurd (t text y) ])
least_both S T (Some a) (Some b) s t = (
  elim (lesser_either a b) [
    | inl e ↦ inl (subst S (sym e) s.0)
    | inr e ↦ inr (subst T (sym e) t.0)
  ],
  λ text h. elim h [
    | inl x ↦ not_after_then (lesser_of a b) a text (lesser_first a b) (s.1 text x)
    | inr y ↦ not_after_then (lesser_of a b) b text (lesser_second a b) (t.1 text y)
  ],
)

-- and behind one beginning
pub least_behind : (S : List ℕ → Type 0) (x : List ℕ) (a : Option (List ℕ)) → IsLeastOf S a →
    IsLeastOf (λ text. (rest : List ℕ) × (text ≡ x ++ rest) × S rest)
    (option_map (λ rest. x ++ rest) a)
least_behind S x None s = λ text h. s h.0 h.2
least_behind S x (Some a) s = (
  (a, refl, s.0),
  λ text h. subst (λ (other : List ℕ). IsNotAfter (x ++ a) other) (sym h.1)
      (not_after_behind x a h.0 (s.1 h.0 h.2)),
)

-- sets with the same texts
pub least_same : (S T : List ℕ → Type 0) (a : Option (List ℕ)) →
    ((text : List ℕ) → S text → T text) → ((text : List ℕ) → T text → S text) →
    IsLeastOf S a → IsLeastOf T a
least_same S T None f g s = λ text h. s text (g text h)
least_same S T (Some a) f g s = (f a s.0, λ text h. s.1 text (g text h))
