-- Groups stay listed as a value is added.
use Rattle.std.proofs.Common.{arith, ◌≡◌, ℕ, zero, suc, List, [], ◌∷◌, ◌++◌, ◌⊎◌, ◌↔◌, inl, inr, refl, sym, ◌∙◌, ap, subst, get_or}
use Rattle.std.specs.Prelude.{Option, Some, None, Contains, slice_get}
use Rattle.std.proofs.lemmas.List.Elements.{Contains-append_left, Contains-push, Contains-push_cases}
use Rattle.std.proofs.lemmas.Option.{same_Some, none-some, slice_get_within}
use Rattle.ux_folds.specs.declared.lists.Link.{Link}
use Rattle.ux_folds.specs.Lists.{AreBelow, AreOnce, AreSound, Keeps, Spells}
use Rattle.ux_folds.specs.Lists as lists
use Rattle.ux_folds.specs.ListNumbers.{spells_one}
use Rattle.ux_folds.proofs.ListsLemmas.{spells_kept}
use Rattle.ux_listing.specs.declared.groups.Groups.{Groups}
use Rattle.ux_listing.specs.declared.groups.Keyed.{Keyed}
use Rattle.ux_listing.specs.Groups.{AreGrouped, AreKeyed, IsAt, IsIn, IsMore, IsMoreAt, IsPutIn, links_of, list_of}
use Rattle.ux_listing.specs.Sets.{IsAdded}
use Rattle.ux_listing.proofs.SetsLemmas.{nothing_in}

-- one more 0 at the end is as none
pub zero_pushed : (xs : List ℕ) (n : ℕ) → get_or (xs ++ 0 ∷ []) n 0 ≡ get_or xs n 0
zero_pushed [] zero = refl
zero_pushed [] (suc n) = refl
zero_pushed (x ∷ xs) zero = refl
zero_pushed (x ∷ xs) (suc n) = zero_pushed xs n

same_or : (n m : ℕ) → (n ≡ m) ⊎ (n ≡ m → ⊥)
same_or zero zero = inl refl
same_or zero (suc m) = inr (λ e. omega (arith, e))
same_or (suc n) zero = inr (λ e. omega (arith, e))
same_or (suc n) (suc m) = elim (same_or n m) [
  | inl e ↦ inl (ap suc e)
  | inr never ↦ inr (λ e. never (omega (arith, e)))
]

module _ {T : Type 0} where
  -- no link, no group
  pub none_grouped : (g : Groups T) → links_of g ≡ [] → g.latest.items ≡ [] → AreGrouped g
  none_grouped g links latest = record {
    sound = subst (λ (l : List (Link T)). AreSound l) (sym links) nothing;
    listed = λ group. ([], subst (λ (l : List ℕ). get_or l group 0 ≡ 0) (sym latest) refl);
  }
    where
      nothing : let no : List (Link T) = [] in AreSound no
      nothing = record {
        once = λ i j x at. absurd (let w = slice_get_within [] i x at in omega (arith, w));
        below = λ i link at. absurd (let w = slice_get_within [] i link at in omega (arith, w));
      }

  pub none_in : (g : Groups T) → links_of g ≡ [] → g.latest.items ≡ [] → (n : ℕ) (v : T) →
      IsIn g n v → ⊥
  none_in g links latest n v i =
      let none : i.values ≡ [] = spells_one (links_of g) (list_of g n) i.values [] i.spells
      (subst (λ (l : List ℕ). get_or l n 0 ≡ 0) (sym latest) refl) in
      nothing_in (subst (λ (l : List T). Contains l v) none i.inside)

  module _ (old new : Groups T) (group longer : ℕ) (value : T)
      (pushed : lists.IsMore (links_of old) (links_of new) (list_of old group) (value ∷ []) longer)
      (put : IsPutIn old.latest.items new.latest.items group longer) (grouped : AreGrouped old)
    where
      abbrev values : List T
      values = (grouped.listed group).0

      abbrev more : AreSound (links_of new) × Keeps (links_of old) (links_of new)
          × Spells (links_of new) longer (values ++ value ∷ [])
      more = pushed values grouped.sound (grouped.listed group).1

      -- the list of the group is longer by the value, and the others are the same
      here : (n : ℕ) → n ≡ group → Spells (links_of new) (list_of new n) (values ++ value ∷ [])
      here n e = subst (λ (k : ℕ). Spells (links_of new) k (values ++ value ∷ []))
          (sym (ap (λ (k : ℕ). list_of new k) e ∙ put.here)) more.2

      other : (n : ℕ) → (n ≡ group → ⊥) → (xs : List T) → Spells (links_of old) (list_of old n) xs →
          Spells (links_of new) (list_of new n) xs
      other n never xs spells = subst (λ (k : ℕ). Spells (links_of new) k xs)
          (sym (put.others n never))
          (spells_kept (links_of old) (links_of new) more.1 (list_of old n) xs spells)

      in_here : (n : ℕ) → n ≡ group → (v : T) → Contains values v → IsIn old n v
      in_here n e v h = record {
        values = values;
        spells = subst (λ (k : ℕ). Spells (links_of old) (list_of old k) values) (sym e)
            (grouped.listed group).1;
        inside = h;
      }

      forth : (n : ℕ) (v : T) → IsIn new n v → IsIn old n v ⊎ ((n ≡ group) × (v ≡ value))
      forth n v i = elim (same_or n group) [
        | inl e ↦
            let same : i.values ≡ values ++ value ∷ [] = spells_one (links_of new) (list_of new n)
            i.values (values ++ value ∷ []) i.spells (here n e) in
            elim (Contains-push_cases values value v
            (subst (λ (l : List T). Contains l v) same i.inside)) [
              | inl o ↦ inl (in_here n e v o)
              | inr is ↦ inr (e, sym is)
            ]
        | inr never ↦
            let was = grouped.listed n in
            let same : i.values ≡ was.0 = spells_one (links_of new) (list_of new n) i.values was.0
            i.spells (other n never was.0 was.1) in
            inl (record {
              values = was.0;
              spells = was.1;
              inside = subst (λ (l : List T). Contains l v) same i.inside;
            })
      ]

      still_in : (n : ℕ) (v : T) → IsIn old n v → IsIn new n v
      still_in n v i = elim (same_or n group) [
        | inl e ↦
            let same : i.values ≡ values = spells_one (links_of old) (list_of old n) i.values values
            i.spells (subst (λ (k : ℕ). Spells (links_of old) (list_of old k) values) (sym e)
            (grouped.listed group).1) in
            record {
              values = values ++ value ∷ [];
              spells = here n e;
              inside = Contains-append_left values (value ∷ []) v
                  (subst (λ (l : List T). Contains l v) same i.inside);
            }
        | inr never ↦ record {
          values = i.values;
          spells = other n never i.values i.spells;
          inside = i.inside;
        }
      ]

      pub group_more : IsMore old new group value
      group_more = record {
        grouped = record {
          sound = more.0;
          listed = λ n. elim (same_or n group) [
            | inl e ↦ (values ++ value ∷ [], here n e)
            | inr never ↦ ((grouped.listed n).0, other n never (grouped.listed n).0 (grouped.listed n).1)
          ];
        };
        exact = λ n v. (
          forth n v,
          λ h. elim h [
            | inl o ↦ still_in n v o
            | inr e ↦ record {
              values = values ++ value ∷ [];
              spells = here n e.0;
              inside = subst (λ (x : T). Contains (values ++ value ∷ []) x) (sym e.1)
                  (Contains-push values value);
            }
          ],
        );
      }

  -- the values of a group, by its list
  pub listed_in : (g : Groups T) (group : ℕ) (items : List T) → AreGrouped g →
      ((xs : List T) → AreSound (links_of g) → Spells (links_of g) (list_of g group) xs →
      items ≡ xs) → (v : T) → Contains items v ↔ IsIn g group v
  listed_in g group items grouped read v =
      let was = grouped.listed group in (
        λ h. record {
          values = was.0;
          spells = was.1;
          inside = subst (λ (l : List T). Contains l v) (read was.0 grouped.sound was.1) h;
        },
        λ i. subst (λ (l : List T). Contains l v) (sym (read i.values grouped.sound i.spells)) i.inside,
      )

module _ {K T : Type 0} where
  -- no value is in a group of which no key was given
  pub none_keyed : (g : Keyed K T) → g.keys.keys ≡ [] → AreGrouped g.groups →
      ((n : ℕ) (v : T) → IsIn g.groups n v → ⊥) → AreKeyed g
  none_keyed g none grouped nothing = record {
    once = λ i j x at. absurd
        (let here : (let no : List K = [] in slice_get no i ≡ Some x) =
        subst (λ (l : List K). slice_get l i ≡ Some x) none at in
        let w = slice_get_within [] i x here in omega (arith, w));
    grouped = grouped;
    few = λ n v i. absurd (nothing n v i);
  }

  module _ (old new : Keyed K T) (key : K) (value : T) (group : ℕ)
      (added : IsAdded old.keys.keys new.keys.keys key)
      (at : slice_get new.keys.keys group ≡ Some key) (once : AreOnce new.keys.keys)
      (more : AreGrouped old.groups → IsMore old.groups new.groups group value)
      (keyed : AreKeyed old) where
    abbrev told : IsMore old.groups new.groups group value
    told = more keyed.grouped

    pub keyed_more : IsMoreAt old new key value
    keyed_more = record {
      keyed = record {
        once = once;
        grouped = told.grouped;
        few = λ n v i. elim ((told.exact n v).0 i) [
          | inl o ↦ let k = keyed.few n v o in (k.0, added.adds.kept n k.0 k.1)
          | inr e ↦ (key, ap (λ (m : ℕ). slice_get new.keys.keys m) e.0 ∙ at)
        ];
      };
      exact = λ k v. (
        λ i. elim ((told.exact i.number v).0 i.within) [
          | inl o ↦
              let was = keyed.few i.number v o in
              let same : was.0 ≡ k = same_Some was.0 k
              (sym (added.adds.kept i.number was.0 was.1) ∙ i.keyed) in
              inl (record {
                number = i.number;
                keyed = was.1 ∙ ap (λ (x : K). Some x) same;
                within = o;
              })
          | inr e ↦ inr (
            same_Some k key (sym i.keyed ∙ (ap (λ (m : ℕ). slice_get new.keys.keys m) e.0 ∙ at)),
            e.1,
          )
        ],
        λ h. elim h [
          | inl i ↦ record {
            number = i.number;
            keyed = added.adds.kept i.number k i.keyed;
            within = (told.exact i.number v).1 (inl i.within);
          }
          | inr e ↦ record {
            number = group;
            keyed = at ∙ ap (λ (x : K). Some x) (sym e.0);
            within = (told.exact group v).1 (inr (refl, e.1));
          }
        ],
      );
    }

  -- the values of a key, by its number
  pub keyed_some : (g : Keyed K T) (key : K) (group : ℕ) (found : Option ℕ) (items : List T) →
      found ≡ Some group →
      ((n : ℕ) → (found ≡ Some n) ↔ (slice_get g.keys.keys n ≡ Some key)) →
      ((v : T) → Contains items v ↔ IsIn g.groups group v) → (v : T) →
      Contains items v ↔ IsAt g key v
  keyed_some g key group found items is are listed v = (
    λ h. record {
      number = group;
      keyed = (are group).0 is;
      within = (listed v).0 h;
    },
    λ i. (listed v).1 (subst (λ (n : ℕ). IsIn g.groups n v)
        (same_Some i.number group (sym ((are i.number).1 i.keyed) ∙ is)) i.within),
  )

  -- a key without a number has none
  pub keyed_none : (g : Keyed K T) (key : K) (found : Option ℕ) (items : List T) → None ≡ found →
      items ≡ [] → ((n : ℕ) → (found ≡ Some n) ↔ (slice_get g.keys.keys n ≡ Some key)) → (v : T) →
      Contains items v ↔ IsAt g key v
  keyed_none g key found items is none are v = (
    λ h. absurd (nothing_in (subst (λ (l : List T). Contains l v) none h)),
    λ i. absurd (none-some i.number (is ∙ (are i.number).1 i.keyed)),
  )
