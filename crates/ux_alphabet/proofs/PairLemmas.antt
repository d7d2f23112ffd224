-- Sets of pairs of characters.
use Rattle.std.proofs.Common.{◌≡◌, ℕ, ◌<◌, ◌+◌, List, [], ◌∷◌, ◌++◌, refl, sym, ◌∙◌, ap, subst, ◌⊎◌, inl, inr, Bool, true, false, cond, ◌↔◌, take, length, get_or}
use Rattle.std.specs.Prelude.{Contains}
use Rattle.std.specs.Ordering.{nat_cmp, ordering_then, is_eq}
use Rattle.std.specs.declared.cmp.Ordering.{Ordering}
use Rattle.std.specs.declared.cmp.Ordering.TheVariants.{Less, Equal, Greater}
use Rattle.std.specs.Cmp.{IsTotalOrder, nat_cmp_total, on_total}
use Rattle.std.specs.BTreeMap.{is_at}
use Rattle.std.specs.BTreeSet.{BTreeSet, contains, Updates}
use Rattle.std.proofs.lemmas.Cmp.{then_total}
use Rattle.std.proofs.lemmas.Map.Lookups.{CmpEqualImpliesEq, exact_unsigned, exact_pairs}
use Rattle.std.proofs.lemmas.Map.Views.{btree_set_contains_iff}
use Rattle.std.proofs.lemmas.List.{take_more}
use Rattle.std.proofs.lemmas.List.Elements.{Contains-push_cases, Contains-push, Contains-append_left}
use Rattle.ux_alphabet.specs.Tables.{ArePairsOf}
use Rattle.ux_alphabet.specs.declared.line.Line.{Line}
use Rattle.ux_alphabet.specs.declared.line.Line.TheVariants.{Single, Pair, Range}

-- the order of pairs: by the first part, and then by the second
abbrev pub pair_cmp : ℕ × ℕ → ℕ × ℕ → Ordering
pair_cmp a b = ordering_then (nat_cmp a.0 b.0) (nat_cmp a.1 b.1)

exact : CmpEqualImpliesEq pair_cmp
exact = exact_pairs nat_cmp nat_cmp exact_unsigned exact_unsigned

total : IsTotalOrder pair_cmp
total = then_total
    (on_total (λ (p : ℕ × ℕ). p.0) nat_cmp_total) (on_total (λ (p : ℕ × ℕ). p.1) nat_cmp_total)

either : (b c : Bool) → cond b true c ≡ true → (b ≡ true) ⊎ (c ≡ true)
either true c h = inl refl
either false c h = inr h

both : (b : Bool) → cond b true true ≡ true
both true = refl
both false = refl

equal_from_test : (o : Ordering) → is_eq o ≡ true → o ≡ Equal
equal_from_test Less h = cc
equal_from_test Equal h = refl
equal_from_test Greater h = cc

-- a look-up finds exactly the set's pairs
pub reads : (s : BTreeSet (ℕ × ℕ)) (q : ℕ × ℕ) → (contains pair_cmp s q ≡ true) ↔ Contains s.keys q
reads s q = let h = btree_set_contains_iff total exact s q in h

-- the set finds a pair that was there before, and the new one
found_before : (s n : BTreeSet (ℕ × ℕ)) (at e : ℕ × ℕ) → Updates pair_cmp s n at true →
    Contains s.keys e → Contains n.keys e
found_before s n at e u old =
    let was = (reads s e).1 old in
    let kept = ap (λ c. cond (is_at (pair_cmp at) e) true c) was ∙ both (is_at (pair_cmp at) e) in
    (reads n e).0 (u.0 e ∙ kept)

-- a set after one more pair
Contains-insert : (s n : BTreeSet (ℕ × ℕ)) (at : ℕ × ℕ) → Updates pair_cmp s n at true →
    (e : ℕ × ℕ) → Contains n.keys e ↔ (Contains s.keys e ⊎ (e ≡ at))
Contains-insert s n at u e = (
  λ h.
      let found = sym (u.0 e) ∙ (reads n e).1 h in
      elim (either (is_at (pair_cmp at) e) (contains pair_cmp s e) found) [
        | inl t ↦ inr (sym (exact at e (equal_from_test (pair_cmp at e) t)))
        | inr t ↦ inl ((reads s e).0 t)
      ],
  λ h. elim h [
    | inl old ↦ found_before s n at e u old
    | inr same ↦ subst (λ q. Contains n.keys q) (sym same) ((reads n at).0 u.1)
  ],
)

-- the parts of a line that is a pair
parts : Line → ℕ × ℕ
parts (Pair upper lower) = (upper, lower)
parts (Single letter) = (0, 0)
parts (Range first last) = (0, 0)

pub pair_put : (s n : BTreeSet (ℕ × ℕ)) (upper lower : ℕ) →
    Updates pair_cmp s n (upper, lower) true →
    (u l : ℕ) → Contains n.keys (u, l) ↔ (Contains s.keys (u, l) ⊎ (Pair upper lower ≡ Pair u l))
unfolding parts
pair_put s n upper lower update u l =
    let put = Contains-insert s n (upper, lower) update (u, l) in (
      λ h. elim (put.0 h) [
        | inl old ↦ inl old
        | inr same ↦ inr (ap (λ (p : ℕ × ℕ). Pair p.0 p.1) (sym same))
      ],
      λ h. put.1 (elim h [ inl old ↦ inl old | inr same ↦ inr (ap parts (sym same)) ]),
    )

-- a pair is among the lines so far and the next one
pair_more : (front : List Line) (line : Line) (old now : List (ℕ × ℕ)) (upper lower : ℕ) →
    (Contains now (upper, lower) ↔ (Contains old (upper, lower) ⊎ (line ≡ Pair upper lower))) →
    (Contains old (upper, lower) ↔ Contains front (Pair upper lower)) →
    Contains now (upper, lower) ↔ Contains (front ++ line ∷ []) (Pair upper lower)
pair_more front line old now upper lower put before =
    let pair = Pair upper lower in
    let last = Contains-push front line in (
      λ h. elim (put.0 h) [
        | inl earlier ↦ Contains-append_left front (line ∷ []) pair (before.0 earlier)
        | inr here ↦ subst (λ (l : Line). Contains (front ++ line ∷ []) l) here last
      ],
      λ h. put.1 (
          elim (Contains-push_cases front line pair h) [
            | inl earlier ↦ inl (before.1 earlier)
            | inr here ↦ inr here
          ]),
    )

-- the pairs of one more line
pub ArePairsOf-more : (lines : List Line) (i : ℕ) (d : Line) (old now : List (ℕ × ℕ)) →
    i < length lines →
    ((upper lower : ℕ) → Contains now (upper, lower)
    ↔ (Contains old (upper, lower) ⊎ (get_or lines i d ≡ Pair upper lower))) →
    ArePairsOf (take i lines) old → ArePairsOf (take (i + 1) lines) now
ArePairsOf-more lines i d old now lt put before upper lower =
    let pair = Pair upper lower in
    let one = pair_more (take i lines) (get_or lines i d) old now upper lower
    (put upper lower) (before upper lower) in
    subst (λ (ls : List Line). Contains now (upper, lower) ↔ Contains ls pair)
    (sym (take_more lines i d lt)) one
