-- Groups stay listed as a value is added.
use Rattle.std.proofs.Common.{arith, ◌≡◌, ℕ, zero, suc, List, [], ◌∷◌, ◌++◌, ◌⊎◌, ◌↔◌, inl, inr, refl, sym, ◌∙◌, ap, subst, Bool, true, false, not, get_or, reverse}
use Rattle.std.specs.Prelude.{Contains}
use Rattle.std.proofs.lemmas.List.Elements.{Contains-append_left, Contains-append_right, Contains-append_cases, Contains-push, Contains-push_cases}
use Rattle.std.proofs.lemmas.List.{reverse-append}
use Rattle.std.proofs.lemmas.Option.{slice_get_within}
use Rattle.ux_walk.specs.declared.groups.Groups.{Groups}
use Rattle.ux_walk.specs.declared.groups.Member.{Member}
use Rattle.ux_walk.specs.declared.lists.Link.{Link}
use Rattle.ux_walk.specs.Links.{AreBelow, IsConsed, Names}
use Rattle.ux_walk.specs.Groups.{AreGrouped, IsAdded, IsIn, IsListed, IsMore, IsPutIn, links_of, list_of}
use Rattle.ux_walk.proofs.LinksLemmas.{names_kept, consed_extends, consed_names, consed_below}

-- one more 0 at the end is as none
pub zero_pushed : (xs : List ℕ) (n : ℕ) → get_or (xs ++ 0 ∷ []) n 0 ≡ get_or xs n 0
zero_pushed [] zero = refl
zero_pushed [] (suc n) = refl
zero_pushed (x ∷ xs) zero = refl
zero_pushed (x ∷ xs) (suc n) = zero_pushed xs n

pub is_false : (b : Bool) → not b ≡ true → b ≡ false
is_false false on = refl
is_false true on = let never : false ≡ true = on in cc

same_or : (n m : ℕ) → (n ≡ m) ⊎ (n ≡ m → ⊥)
same_or zero zero = inl refl
same_or zero (suc m) = inr (λ e. omega (arith, e))
same_or (suc n) zero = inr (λ e. omega (arith, e))
same_or (suc n) (suc m) = elim (same_or n m) [
  | inl e ↦ inl (ap suc e)
  | inr never ↦ inr (λ e. never (omega (arith, e)))
]

module _ {A : Type 0} where
  pub nothing_in : (x : A) → let none : List A = [] in Contains none x → ⊥
  nothing_in x h = absurd (omega (arith, h.1))

  pub first_or_later : (x : A) (xs : List A) (y : A) → Contains (x ∷ xs) y →
      (x ≡ y) ⊎ Contains xs y
  first_or_later x xs y h = elim (Contains-append_cases (x ∷ []) xs y h) [
    | inl a ↦ elim (Contains-push_cases [] x y a) [
      | inl b ↦ absurd (nothing_in y b)
      | inr e ↦ inl e
    ]
    | inr b ↦ inr b
  ]

  pub contains_first : (x : A) (xs : List A) → Contains (x ∷ xs) x
  contains_first x xs = Contains-append_left (x ∷ []) xs x (Contains-push [] x)

  pub contains_later : (x : A) (xs : List A) (y : A) → Contains xs y → Contains (x ∷ xs) y
  contains_later x xs y h = Contains-append_right (x ∷ []) xs y h

  -- a list backwards has the same elements
  pub reversed_in : (xs : List A) (y : A) → Contains (reverse xs) y ↔ Contains xs y
  reversed_in [] y = (λ h. h, λ h. h)
  reversed_in (x ∷ xs) y =
      let is : reverse (x ∷ xs) ≡ reverse xs ++ x ∷ [] = reverse-append (x ∷ []) xs in (
        λ h. elim (Contains-push_cases (reverse xs) x y
            (subst (λ (l : List A). Contains l y) is h)) [
              | inl a ↦ contains_later x xs y ((reversed_in xs y).0 a)
              | inr e ↦ subst (λ (z : A). Contains (x ∷ xs) z) e (contains_first x xs)
            ],
        λ h. subst (λ (l : List A). Contains l y) (sym is) (elim (first_or_later x xs y h) [
          | inl e ↦ subst (λ (z : A). Contains (reverse xs ++ x ∷ []) z) e
              (Contains-push (reverse xs) x)
          | inr later ↦ Contains-append_left (reverse xs) (x ∷ []) y ((reversed_in xs y).1 later)
        ]),
      )

module _ {T : Type 0} (old new : Groups T) (group : ℕ) (value : T) where
  abbrev member : ℕ → T → Member T
  member n v = record { group = n; value = v }

  -- the value was there
  pub same_in : (is_new : Bool) → is_new ≡ false →
      IsAdded old.members.keys new.members.keys (member group value) is_new →
      new.lists.links.keys ≡ old.lists.links.keys → new.latest.items ≡ old.latest.items →
      AreGrouped old → IsMore old new group value false
  same_in is_new off added links latest grouped = record {
    grouped = record {
      below = subst (λ (l : List (Link T)). AreBelow l) (sym links) grouped.below;
      listed = λ n. let was = grouped.listed n in record {
        values = was.values;
        names = subst (λ (l : List (Link T)). Names l (list_of new n) was.values) (sym links)
            (subst (λ (l : List ℕ). Names (links_of old) (get_or l n 0) was.values) (sym latest)
            was.names);
        exact = λ v. (
          λ h. (added.exact (member n v)).1 (inl ((was.exact v).0 h)),
          λ h. (was.exact v).1 (elim ((added.exact (member n v)).0 h) [
            | inl there ↦ there
            | inr e ↦ subst (λ (m : Member T). Contains old.members.keys m) (sym e)
                (added.known off)
          ]),
        );
      };
    };
    exact = λ n v. (
      λ h. elim ((added.exact (member n v)).0 h) [
        | inl there ↦ inl there
        | inr e ↦ inr (
          ap (λ (m : Member T). m.group) e,
          ap (λ (m : Member T). m.value) e,
        )
      ],
      λ h. elim h [
        | inl there ↦ (added.exact (member n v)).1 (inl there)
        | inr e ↦ (added.exact (member n v)).1 (inr
            (ap (λ k. member k v) e.0 ∙ ap (λ (x : T). member group x) e.1))
      ],
    );
    known = λ same. added.known off;
  }

  -- the value is new
  pub more_in : (is_new : Bool) (tail number : ℕ) →
      IsAdded old.members.keys new.members.keys (member group value) is_new →
      tail ≡ list_of old group → IsConsed (links_of old) (links_of new) value tail number →
      IsPutIn old.latest.items new.latest.items group number → AreGrouped old →
      IsMore old new group value true
  more_in is_new tail number added is_tail was_consed put grouped = record {
    grouped = record {
      below = let was = grouped.listed group in
          consed_below (links_of old) (links_of new) value (list_of old group) number consed
          grouped.below was.values was.names;
      listed = λ n. elim (same_or n group) [ inl e ↦ here n e | inr never ↦ other n never ];
    };
    exact = exact;
    known = λ off. let no : true ≡ false = off in cc;
  }
    where
      consed : IsConsed (links_of old) (links_of new) value (list_of old group) number
      consed = subst (λ k. IsConsed (links_of old) (links_of new) value k number) is_tail was_consed

      exact : (n : ℕ) (v : T) →
          IsIn new n v ↔ (IsIn old n v ⊎ ((n ≡ group) × (v ≡ value)))
      exact n v = (
        λ h. elim ((added.exact (member n v)).0 h) [
          | inl there ↦ inl there
          | inr e ↦ inr (
            ap (λ (m : Member T). m.group) e,
            ap (λ (m : Member T). m.value) e,
          )
        ],
        λ h. elim h [
          | inl there ↦ (added.exact (member n v)).1 (inl there)
          | inr e ↦ (added.exact (member n v)).1 (inr
              (ap (λ k. member k v) e.0 ∙ ap (λ (x : T). member group x) e.1))
        ],
      )

      here : (n : ℕ) → n ≡ group → IsListed new n
      here n e =
          let was = grouped.listed group in record {
            values = value ∷ was.values;
            names = subst (λ k. Names (links_of new) k (value ∷ was.values))
                (sym (ap (λ k. list_of new k) e ∙ put.here))
                (consed_names (links_of old) (links_of new) value (list_of old group) number consed
                was.values was.names);
            exact = λ v. (
              λ h. (exact n v).1 (elim (first_or_later value was.values v h) [
                | inl first ↦ inr (e, sym first)
                | inr later ↦ inl (subst (λ k. IsIn old k v) (sym e) ((was.exact v).0 later))
              ]),
              λ h. elim ((exact n v).0 h) [
                | inl there ↦ contains_later value was.values v
                    ((was.exact v).1 (subst (λ k. IsIn old k v) e there))
                | inr it ↦ subst (λ (x : T). Contains (value ∷ was.values) x) (sym it.1)
                    (contains_first value was.values)
              ],
            );
          }

      other : (n : ℕ) → (n ≡ group → ⊥) → IsListed new n
      other n never =
          let was = grouped.listed n in record {
            values = was.values;
            names = subst (λ k. Names (links_of new) k was.values) (sym (put.others n never))
                (names_kept (links_of old) (links_of new)
                (consed_extends (links_of old) (links_of new) value (list_of old group) number
                consed) (list_of old n) was.values was.names);
            exact = λ v. (
              λ h. (exact n v).1 (inl ((was.exact v).0 h)),
              λ h. elim ((exact n v).0 h) [
                | inl there ↦ (was.exact v).1 there
                | inr it ↦ absurd (never it.0)
              ],
            );
          }

-- of an empty list nothing is below
pub nothing_below : (A : Type 0) → let no : List (Link A) = [] in AreBelow no
nothing_below A i link at = absurd (let w = slice_get_within [] i link at in omega (arith, w))

-- nothing is grouped
pub none_grouped : {T : Type 0} (g : Groups T) → g.members.keys ≡ [] → links_of g ≡ [] →
    g.latest.items ≡ [] → AreGrouped g
none_grouped {T} g members links latest = record {
  below = subst (λ (l : List (Link T)). AreBelow l) (sym links)
      (nothing_below T);
  listed = λ n. record {
    values = [];
    names = subst (λ (l : List ℕ). get_or l n 0 ≡ 0) (sym latest) refl;
    exact = λ v. (
      λ h. absurd (nothing_in v h),
      λ h. absurd (nothing_in (record { group = n; value = v })
          (subst (λ (l : List (Member T)). Contains l (record { group = n; value = v })) members
          h)),
    );
  };
}
