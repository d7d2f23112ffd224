-- The ones that a policy keeps of those that begin together, as one more comes.
use Rattle.std.proofs.Common.{arith, ◌≡◌, ℕ, List, [], ◌∷◌, ◌++◌, refl, sym, subst, inl, inr}
use Rattle.std.specs.Prelude.{◌↔◌, ◌⊎◌, Contains}
use Rattle.std.proofs.lemmas.List.Elements.{Contains-append_left, Contains-push, Contains-push_cases}
use Rattle.ux_base.specs.declared.settings.Policy.{Policy}
use Rattle.ux_base.specs.declared.settings.Policy.TheVariants.{Shortest, Longest, All}
use Rattle.ux_locate.specs.Keeping.{AreBest, IsApartKeeping, IsAsGood, Prefers}

-- each last token is as good as itself
pub good_itself : (policy : Policy) (a : ℕ) → IsAsGood policy a a
good_itself All a = tt
good_itself Longest a = omega arith
good_itself Shortest a = omega arith

pub good_through : (policy : Policy) (a b c : ℕ) → IsAsGood policy a b → IsAsGood policy b c →
    IsAsGood policy a c
good_through All a b c first second = tt
good_through Longest a b c first second = omega (arith, first, second)
good_through Shortest a b c first second = omega (arith, first, second)

-- what is preferred is as good
pub preferred_good : (policy : Policy) (a b : ℕ) → Prefers policy a b → IsAsGood policy a b
preferred_good All a b p = absurd p
preferred_good Longest a b p = omega (arith, p)
preferred_good Shortest a b p = omega (arith, p)

-- and the other one isn't
pub preferred_only : (policy : Policy) (a b : ℕ) → Prefers policy a b → IsAsGood policy b a → ⊥
preferred_only All a b p good = absurd p
preferred_only Longest a b p good = absurd (omega (arith, p, good))
preferred_only Shortest a b p good = absurd (omega (arith, p, good))

-- where the policy lets none overlap, those that are as good as each other end together
pub good_same : (policy : Policy) (a b : ℕ) → IsApartKeeping policy → IsAsGood policy a b →
    IsAsGood policy b a → a ≡ b
good_same All a b apart first second = absurd apart
good_same Longest a b apart first second = omega (arith, first, second)
good_same Shortest a b apart first second = omega (arith, first, second)

nothing : {X : Type 0} (x : X) → let none : List X = [] in Contains none x → ⊥
nothing x c = absurd (omega (arith, c.1))

alone : {X : Type 0} (x y : X) → Contains (y ∷ []) x → y ≡ x
alone x y c = elim (Contains-push_cases [] y x c) [ inl o ↦ absurd (nothing x o) | inr same ↦ same ]

-- a list with one more has the old ones and that one
pub seen_more : {X : Type 0} (seen : List X) (hit x : X) →
    Contains (seen ++ hit ∷ []) x ↔ (Contains seen x ⊎ (hit ≡ x))
seen_more seen hit x = (
  λ c. Contains-push_cases seen hit x c,
  λ f. elim f [
    | inl old ↦ Contains-append_left seen (hit ∷ []) x old
    | inr same ↦ subst (Contains (seen ++ hit ∷ [])) same (Contains-push seen hit)
  ],
)

module _ {X : Type 0} (policy : Policy) (last : X → ℕ) where
  abbrev Good : X → X → Type 0
  Good x y = IsAsGood policy (last x) (last y)

  -- a set that has the same is served by the same
  pub best_same : (Is Other : X → Type 0) → ((x : X) → Is x ↔ Other x) → (best : List X) →
      AreBest policy last Is best → AreBest policy last Other best
  best_same Is Other same best are = record {
    exactly = λ x. (
      λ c. let f = (are.exactly x).0 c in
          ((same x).0 f.0, λ other o. f.1 other ((same other).1 o)),
      λ f. (are.exactly x).1 ((same x).1 f.0, λ other o. f.1 other ((same other).0 o)),
    );
    some = λ x o. are.some x ((same x).1 o);
  }

  -- of nothing
  pub best_none : (Is : X → Type 0) → ((x : X) → Is x → ⊥) → AreBest policy last Is []
  best_none Is none = record {
    exactly = λ x. (λ c. absurd (nothing x c), λ f. absurd (none x f.0));
    some = λ x i. absurd (none x i);
  }

  module _ (Is More : X → Type 0) (hit : X) (splits : (x : X) → More x ↔ (Is x ⊎ (hit ≡ x)))
      (best : List X) (are : AreBest policy last Is best) where
    is_more : (x : X) → Is x → More x
    is_more x i = (splits x).1 (inl i)

    hit_more : More hit
    hit_more = (splits hit).1 (inr refl)

    of_best : (x : X) → Contains best x → Is x
    of_best x c = ((are.exactly x).0 c).0

    -- a best one is as good as each one before
    best_good : (x : X) → Contains best x → (other : X) → Is other → Good x other
    best_good x c = ((are.exactly x).0 c).1

    -- the policy prefers a best one: the hit doesn't come in
    pub best_stays : (y : X) → Contains best y → Prefers policy (last y) (last hit) →
        AreBest policy last More best
    best_stays y c p = record {
      exactly = λ x. (
        λ in'. (
          is_more x (of_best x in'),
          λ other o. elim ((splits other).0 o) [
            | inl i ↦ best_good x in' other i
            | inr same ↦ subst (λ (z : X). Good x z) same
                (good_through policy (last x) (last y) (last hit)
                (best_good x in' y (of_best y c))
                (preferred_good policy (last y) (last hit) p))
          ],
        ),
        λ f. elim ((splits x).0 f.0) [
          | inl i ↦ (are.exactly x).1 (i, λ other o. f.1 other (is_more other o))
          | inr same ↦ absurd (preferred_only policy (last y) (last hit) p
              (subst (λ (z : X). Good z y) (sym same) (f.1 y (is_more y (of_best y c)))))
        ],
      );
      some = λ x o. (y, c);
    }

    -- the policy prefers the hit to a best one: it comes in the place of all
    pub best_anew : (y : X) → Contains best y → Prefers policy (last hit) (last y) →
        AreBest policy last More (hit ∷ [])
    best_anew y c p = record {
      exactly = λ x. (
        λ in'. subst (λ (z : X). More z × ((other : X) → More other → Good z other))
            (alone x hit in') (
              hit_more,
              λ other o. elim ((splits other).0 o) [
                | inl i ↦ good_through policy (last hit) (last y) (last other)
                    (preferred_good policy (last hit) (last y) p) (best_good y c other i)
                | inr same ↦ subst (λ (z : X). Good hit z) same (good_itself policy (last hit))
              ],
            ),
        λ f. elim ((splits x).0 f.0) [
          | inl i ↦ absurd (preferred_only policy (last hit) (last y) p
              (good_through policy (last y) (last x) (last hit) (best_good y c x i)
              (f.1 hit hit_more)))
          | inr same ↦ subst (Contains (hit ∷ [])) same (Contains-push [] hit)
        ],
      );
      some = λ x o. (hit, Contains-push [] hit);
    }

    -- the hit is as good as the best ones, if there are any: it comes in beside them
    pub best_more : ((y : X) → Contains best y → Good hit y × Good y hit) →
        AreBest policy last More (best ++ hit ∷ [])
    best_more even = record {
      exactly = λ x. (
        λ in'. elim (Contains-push_cases best hit x in') [
          | inl before ↦ (
            is_more x (of_best x before),
            λ other o. elim ((splits other).0 o) [
              | inl i ↦ best_good x before other i
              | inr same ↦ subst (λ (z : X). Good x z) same (even x before).1
            ],
          )
          | inr is ↦ subst (λ (z : X). More z × ((other : X) → More other → Good z other)) is (
            hit_more,
            λ other o. elim ((splits other).0 o) [
              | inl i ↦
                  let y = are.some other i in
                  good_through policy (last hit) (last y.0) (last other) (even y.0 y.1).0
                  (best_good y.0 y.1 other i)
              | inr same ↦ subst (λ (z : X). Good hit z) same (good_itself policy (last hit))
            ],
          )
        ],
        λ f. elim ((splits x).0 f.0) [
          | inl i ↦ Contains-append_left best (hit ∷ []) x
              ((are.exactly x).1 (i, λ other o. f.1 other (is_more other o)))
          | inr same ↦ subst (Contains (best ++ hit ∷ [])) same (Contains-push best hit)
        ],
      );
      some = λ x o. (hit, Contains-push best hit);
    }

    -- the same, where the hit is as good as one of the best
    pub best_even : (y : X) → Contains best y → Good hit y → Good y hit →
        AreBest policy last More (best ++ hit ∷ [])
    best_even y c here there = best_more (λ x in'. (
      good_through policy (last hit) (last y) (last x) here (best_good y c x (of_best x in')),
      good_through policy (last x) (last y) (last hit) (best_good x in' y (of_best y c)) there,
    ))
