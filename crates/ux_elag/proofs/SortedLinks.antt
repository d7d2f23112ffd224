-- Links between numbers in order, and when two are the same.
use Rattle.std.proofs.Common.{◌≡◌, ℕ, ◌<◌, ◌↔◌, List, ◌⊎◌, inl, inr, refl, sym, ◌∙◌, ap, subst, get_or, true, Bool, false}
use Rattle.std.specs.Prelude.{All, AllPairs, Contains, ◌&&◌, nat_eq}
use Rattle.std.specs.Cmp.{IsEquivalence, IsTotalOrder}
use Rattle.std.specs.Cmp.Lexicographic.{slice_cmp}
use Rattle.std.specs.List.Sorted.{IsStrictlySortedBy}
use Rattle.std.specs.Ordering.{is_eq, is_lt, nat_cmp, ordering_then}
use Rattle.std.specs.declared.cmp.Ordering.{Ordering}
use Rattle.std.specs.declared.cmp.Ordering.TheVariants.{Less, Equal, Greater}
use Rattle.std.proofs.lemmas.Bool.{eq-eqb, eqb-true, false≢true}
use Rattle.std.proofs.lemmas.Cmp.{and_equiv, nat_cmp_total, nat_eq_equiv, nat_list_cmp_total, on_equiv, on_total, ranked, then_total, tied_itself}
use Rattle.std.proofs.lemmas.Map.Keys.{Less-from_sorted}
use Rattle.std.proofs.lemmas.List.Elements.{All-contains}
use Rattle.ux_subsets.specs.declared.automaton.Link as placed
use Rattle.ux_elag.specs.Numbers.{ComesBefore, link_cmp, text_with}
use Rattle.ux_elag.proofs.Leaving.{all-of}
use Rattle.ux_elag.proofs.NumberedLemmas.{text-from_cmp}

then-less : (o p : Ordering) → ordering_then o p ≡ Less → (o ≡ Less) ⊎ ((o ≡ Equal) × (p ≡ Less))
then-less Less p e = inl refl
then-less Equal p e = inr (refl, e)
then-less Greater p e = cc

pub nat-less : (a b : ℕ) → nat_cmp a b ≡ Less → a < b
nat-less a b e = ranked a b Less (sym e)

pub nat-equal : (a b : ℕ) → nat_cmp a b ≡ Equal → a ≡ b
nat-equal a b e = ranked a b Equal (sym e)

both-true : (a b : Bool) → (a && b) ≡ true → (a ≡ true) × (b ≡ true)
both-true true b e = (refl, e)
both-true false b e = cc

abbrev joined : (from reading to : ℕ) → placed.Link
joined from reading to = record { from = from; reading = reading; to = to }

-- two links with the same parts are the same
pub link-from_eq : (x y : placed.Link) →
    (nat_eq x.from y.from && (nat_eq x.reading y.reading && nat_eq x.to y.to)) ≡ true → x ≡ y
link-from_eq x y e =
    let first = both-true (nat_eq x.from y.from) (nat_eq x.reading y.reading && nat_eq x.to y.to) e in
    let rest = both-true (nat_eq x.reading y.reading) (nat_eq x.to y.to) first.1 in
    ap (λ (a : ℕ). joined a x.reading x.to) (eqb-true x.from y.from first.0)
    ∙ (ap (λ (a : ℕ). joined y.from a x.to) (eqb-true x.reading y.reading rest.0)
    ∙ ap (joined y.from y.reading) (eqb-true x.to y.to rest.1))

true-both : (a b : Bool) → a ≡ true → b ≡ true → (a && b) ≡ true
true-both true b e f = f
true-both false b e f = cc

then-equal : (o p : Ordering) → ordering_then o p ≡ Equal → (o ≡ Equal) × (p ≡ Equal)
then-equal Less p e = cc
then-equal Equal p e = (refl, e)
then-equal Greater p e = cc

not-equal : (o : Ordering) → (o ≡ Equal → ⊥) → is_eq o ≡ false
not-equal Less apart = refl
not-equal Equal apart = absurd (apart refl)
not-equal Greater apart = refl

-- having the same parts is an equivalence
pub link-equivalence : IsEquivalence (λ (x y : placed.Link).
    nat_eq x.from y.from && (nat_eq x.reading y.reading && nat_eq x.to y.to))
link-equivalence = and_equiv (on_equiv (λ (link : placed.Link). link.from) nat_eq_equiv)
    (and_equiv (on_equiv (λ (link : placed.Link). link.reading) nat_eq_equiv)
    (on_equiv (λ (link : placed.Link). link.to) nat_eq_equiv))

module _ (texts : List (List ℕ)) where
  abbrev texts-cmp : (x y : placed.Link) → Ordering
  texts-cmp x y = slice_cmp nat_cmp (text_with texts x.reading) (text_with texts y.reading)

  abbrev readings-cmp : (x y : placed.Link) → Ordering
  readings-cmp x y = ordering_then (texts-cmp x y) (nat_cmp x.reading y.reading)

  abbrev ends-cmp : (x y : placed.Link) → Ordering
  ends-cmp x y = ordering_then (nat_cmp x.to y.to) (readings-cmp x y)

  -- a link that is less comes before
  pub comes-before : (x y : placed.Link) → link_cmp texts x y ≡ Less → ComesBefore texts x y
  comes-before x y e = elim (then-less (nat_cmp x.from y.from) (ends-cmp x y) e) [
    | inl less ↦ inl (nat-less x.from y.from less)
    | inr tied ↦ inr (
      nat-equal x.from y.from tied.0,
      elim (then-less (nat_cmp x.to y.to) (readings-cmp x y) tied.1) [
        | inl less ↦ inl (nat-less x.to y.to less)
        | inr level ↦ inr (
          nat-equal x.to y.to level.0,
          elim (then-less (texts-cmp x y) (nat_cmp x.reading y.reading) level.1) [
            | inl less ↦ inl less
            | inr alike ↦ inr (
              text-from_cmp (text_with texts x.reading) (text_with texts y.reading) alike.0,
              nat-less x.reading y.reading alike.1,
            )
          ],
        )
      ],
    )
  ]

  -- the order of links is total
  pub link-total : IsTotalOrder (link_cmp texts)
  link-total = then_total (on_total (λ (link : placed.Link). link.from) nat_cmp_total)
      (then_total (on_total (λ (link : placed.Link). link.to) nat_cmp_total)
      (then_total
      (on_total (λ (link : placed.Link). text_with texts link.reading) nat_list_cmp_total)
      (on_total (λ (link : placed.Link). link.reading) nat_cmp_total)))

  -- links that are level have the same parts
  level-same : (x y : placed.Link) → link_cmp texts x y ≡ Equal →
      (nat_eq x.from y.from && (nat_eq x.reading y.reading && nat_eq x.to y.to)) ≡ true
  level-same x y e =
      let first = then-equal (nat_cmp x.from y.from) (ends-cmp x y) e in
      let second = then-equal (nat_cmp x.to y.to) (readings-cmp x y) first.1 in
      let third = then-equal (texts-cmp x y) (nat_cmp x.reading y.reading) second.1 in
      true-both (nat_eq x.from y.from) (nat_eq x.reading y.reading && nat_eq x.to y.to)
      (eq-eqb x.from y.from (nat-equal x.from y.from first.0))
      (true-both (nat_eq x.reading y.reading) (nat_eq x.to y.to)
      (eq-eqb x.reading y.reading (nat-equal x.reading y.reading third.1))
      (eq-eqb x.to y.to (nat-equal x.to y.to second.0)))

  -- just the same links are level
  pub link-ties : (x y : placed.Link) →
      (nat_eq x.from y.from && (nat_eq x.reading y.reading && nat_eq x.to y.to))
      ≡ is_eq (link_cmp texts x y)
  link-ties x y = by (nat_eq x.from y.from && (nat_eq x.reading y.reading && nat_eq x.to y.to)) refl
    where
      by : (b : Bool) →
          (nat_eq x.from y.from && (nat_eq x.reading y.reading && nat_eq x.to y.to)) ≡ b →
          (nat_eq x.from y.from && (nat_eq x.reading y.reading && nat_eq x.to y.to))
          ≡ is_eq (link_cmp texts x y)
      by true e =
          let tied : link_cmp texts x y ≡ Equal =
          subst (λ (z : placed.Link). link_cmp texts x z ≡ Equal) (link-from_eq x y e)
          (tied_itself link-total x) in
          e ∙ sym (ap is_eq tied)
      by false e =
          e ∙ sym (not-equal (link_cmp texts x y)
          (λ level. false≢true (sym e ∙ level-same x y level)))

  -- links that are in order strictly come one before the other
  pub all-rising : (sorted : List placed.Link) → IsStrictlySortedBy (link_cmp texts) sorted →
      AllPairs (ComesBefore texts) sorted
  all-rising sorted strict i j d lt lj = comes-before (get_or sorted i d) (get_or sorted j d)
      (Less-from_sorted (link_cmp texts) sorted i j d strict lt lj)

-- what a comparison answers tells which belongs before the other
pub compared : (texts : List (List ℕ)) (x y : placed.Link) (answer : Ordering) (Same : Type 0) →
    (answer ≡ link_cmp texts x y) × Same → (is_lt answer ≡ is_lt (link_cmp texts x y)) × Same
compared texts x y answer Same is = (ap is_lt is.0, is.1)

-- what is so of all is so of those in order
pub all-in-order : (P : placed.Link → Type 0) (links sorted : List placed.Link) →
    ((link : placed.Link) → Contains sorted link ↔ Contains links link) → All P links → All P sorted
all-in-order P links sorted same all = all-of P sorted
    (λ link has. All-contains P links link all ((same link).0 has))
