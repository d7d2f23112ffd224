-- Callers that go on behind derivations, one pair after another.
use Rattle.std.proofs.Common.{◌≡◌, ℕ, ◌+◌, ◌<◌, List, [], ◌∷◌, ◌++◌, ◌⊎◌, ◌↔◌, inl, inr, refl, sym, ◌∙◌, ap, subst, Bool, take, length, get_or, append-nil, append_assoc}
use Rattle.std.specs.Prelude.{Contains}
use Rattle.std.proofs.lemmas.List.Elements.{Contains-append_left}
use Rattle.ux_walk.specs.declared.config.Config.{Config}
use Rattle.ux_walk.specs.declared.config.Found.{Found}
use Rattle.ux_walk.specs.declared.config.Return.{Return}
use Rattle.ux_walk.specs.declared.lists.Link.{Link}
use Rattle.ux_walk.specs.declared.noted.Noted.{Noted}
use Rattle.ux_walk.specs.Groups.{Grows, IsAdded}
use Rattle.ux_walk.specs.Joins.{AreListed, IsJoin, Joins, OfBoth}
use Rattle.ux_walk.specs.Links.{AreBelow, Extends, IsAppended, Names}
use Rattle.ux_walk.proofs.AppendLemmas.{extends_more, extends_same}
use Rattle.ux_walk.proofs.Collecting.{seen_before, seen_itself, seen_next}
use Rattle.ux_walk.proofs.GroupsLemmas.{contains_first, first_or_later, nothing_in}
use Rattle.ux_walk.proofs.LinksLemmas.{names_kept}

module _ {A : Type 0} where
  pub grows_same : (xs : List A) → Grows xs xs
  grows_same xs = ([], sym (append-nil xs))

  pub grows_alike : (old new : List A) → new ≡ old → Grows old new
  grows_alike old new same = ([], same ∙ sym (append-nil old))

  pub grows_more : (old mid new : List A) → Grows old mid → Grows mid new → Grows old new
  grows_more old mid new first second = (
    first.0 ++ second.0,
    second.1 ∙ (ap (λ (l : List A). l ++ second.0) first.1
        ∙ append_assoc old first.0 second.0),
  )

  pub grown_in : (old new : List A) → Grows old new → (x : A) → Contains old x → Contains new x
  grown_in old new grows x h = subst (λ (l : List A). Contains l x) (sym grows.1)
      (Contains-append_left old grows.0 x h)

abbrev Links : Type 0
Links = List (Link Noted)

pub join_kept : (old new : Links) → Extends old new → (w : Return) (f : Found) (c : Config) →
    IsJoin old w f c → IsJoin new w f c
join_kept old new extends w f c j = record {
  visit = j.visit;
  here = j.here;
  at = j.at;
  before = j.before;
  inside = j.inside;
  earlier = names_kept old new extends w.events j.before j.earlier;
  later = names_kept old new extends f.events j.inside j.later;
  all = names_kept old new extends c.events (j.inside ++ j.before) j.all;
}

pub listed_kept : (old new : Links) (returns : List Return) (derived : List Found) →
    Extends old new → AreBelow new → AreListed old returns derived → AreListed new returns derived
listed_kept old new returns derived extends below l = record {
  below = below;
  waiting = λ w h. let n = l.waiting w h in (n.0, names_kept old new extends w.events n.0 n.1);
  ends = λ f h. let n = l.ends f h in (n.0, names_kept old new extends f.events n.0 n.1);
}

pub only_one : {A : Type 0} (x y : A) → Contains (x ∷ []) y → x ≡ y
only_one x y h = elim (first_or_later x [] y h) [
  | inl e ↦ e
  | inr later ↦ absurd (nothing_in y later)
]

pub listed_return : (links : Links) (returns : List Return) (derived : List Found) (w : Return) →
    Contains returns w → AreListed links returns derived → AreListed links (w ∷ []) derived
listed_return links returns derived w inside l = record {
  below = l.below;
  waiting = λ x h. l.waiting x (subst (λ (y : Return). Contains returns y) (only_one w x h) inside);
  ends = l.ends;
}

pub listed_found : (links : Links) (returns : List Return) (derived : List Found) (f : Found) →
    Contains derived f → AreListed links returns derived → AreListed links returns (f ∷ [])
listed_found links returns derived f inside l = record {
  below = l.below;
  waiting = l.waiting;
  ends = λ x h. l.ends x (subst (λ (y : Found). Contains derived y) (only_one f x h) inside);
}

pub joins_none : (Pair : Return → Found → Type 0) (links : Links) (configs : List Config) →
    AreBelow links → ((w : Return) (f : Found) → Pair w f → ⊥) →
    Joins Pair links links configs configs
joins_none Pair links configs below never = record {
  below = below;
  events = extends_same links;
  grows = grows_same configs;
  has = λ w f p. absurd (never w f p);
  only = λ c h. inl h;
}

-- one step after another
pub joins_then : (First Second Told : Return → Found → Type 0) (old mid new : Links)
    (before between after : List Config) → Joins First old mid before between →
    Joins Second mid new between after →
    ((w : Return) (f : Found) → Told w f ↔ (First w f ⊎ Second w f)) →
    Joins Told old new before after
joins_then First Second Told old mid new before between after one two told = record {
  below = two.below;
  events = extends_more old mid new one.events two.events;
  grows = grows_more before between after one.grows two.grows;
  has = λ w f p. elim ((told w f).0 p) [
    | inl a ↦
        let h = one.has w f a in
        (h.0, grown_in between after two.grows h.0 h.1, join_kept mid new two.events w f h.0 h.2)
    | inr b ↦ two.has w f b
  ];
  only = λ c h. elim (two.only c h) [
    | inl m ↦ elim (one.only c m) [
      | inl o ↦ inl o
      | inr t ↦ inr (
        t.0,
        t.1,
        (told t.0 t.1).1 (inl t.2),
        join_kept mid new two.events t.0 t.1 c t.3,
      )
    ]
    | inr t ↦ inr (t.0, t.1, (told t.0 t.1).1 (inr t.2), t.3)
  ];
}

-- one pair
pub join_one : (w : Return) (f : Found) (c : Config) (old new : Links)
    (before after : List Config) (number : ℕ) (is_new : Bool) →
    c ≡ record { visit = w.visit; here = w.here; at = f.end; events = number } →
    IsAppended old new w.events f.events number → IsAdded before after c is_new →
    AreListed old (w ∷ []) (f ∷ []) →
    Joins (λ x y. (x ≡ w) × (y ≡ f)) old new before after
join_one w f c old new before after number is_new is appended added listed =
    let xs = listed.waiting w (contains_first w []) in
    let ys = listed.ends f (contains_first f []) in
    let put = appended xs.0 ys.0 xs.1 ys.1 in
    let joined : IsJoin new w f c = record {
      visit = ap (λ (x : Config). x.visit) is;
      here = ap (λ (x : Config). x.here) is;
      at = ap (λ (x : Config). x.at) is;
      before = xs.0;
      inside = ys.0;
      earlier = names_kept old new put.0 w.events xs.0 xs.1;
      later = names_kept old new put.0 f.events ys.0 ys.1;
      all = subst (λ (x : Config). Names new x.events (ys.0 ++ xs.0)) (sym is) put.2;
    } in
    record {
      below = put.1;
      events = put.0;
      grows = added.grows;
      has = λ x y p. (
        c,
        (added.exact c).1 (inr refl),
        subst (λ (z : Return). IsJoin new z y c) (sym p.0)
            (subst (λ (z : Found). IsJoin new w z c) (sym p.1) joined),
      );
      only = λ x h. elim ((added.exact x).0 h) [
        | inl o ↦ inl o
        | inr e ↦ inr (
          w,
          f,
          (refl, refl),
          subst (λ (z : Config). IsJoin new w f z) (sym e) joined,
        )
      ];
    }

module _ (old now new : Links) (before between after : List Config) where
  -- one derivation more
  pub joins_found : (w : Return) (all : List Found) (i : ℕ) (f : Found) → i < length all →
      f ≡ get_or all i f →
      Joins (λ x y. (x ≡ w) × Contains (take i all) y) old now before between →
      Joins (λ x y. (x ≡ w) × (y ≡ f)) now new between after →
      Joins (λ x y. (x ≡ w) × Contains (take (i + 1) all) y) old new before after
  joins_found w all i f lt is one two =
      joins_then (λ x y. (x ≡ w) × Contains (take i all) y) (λ x y. (x ≡ w) × (y ≡ f))
      (λ x y. (x ≡ w) × Contains (take (i + 1) all) y) old now new before between after one two
      (λ x y. (
        λ p. elim (seen_next all i f y lt is p.1) [
          | inl a ↦ inl (p.0, a)
          | inr e ↦ inr (p.0, sym e)
        ],
        λ p. elim p [
          | inl a ↦ (a.0, seen_before all i f y lt is a.1)
          | inr b ↦ (
            b.0,
            subst (λ (z : Found). Contains (take (i + 1) all) z) (sym b.1)
                (seen_itself all i f lt is),
          )
        ],
      ))

  -- one caller more
  pub joins_return : (all : List Return) (derived : List Found) (i : ℕ) (w : Return) →
      i < length all → w ≡ get_or all i w →
      Joins (OfBoth (take i all) derived) old now before between →
      Joins (λ x y. (x ≡ w) × Contains derived y) now new between after →
      Joins (OfBoth (take (i + 1) all) derived) old new before after
  joins_return all derived i w lt is one two =
      joins_then (OfBoth (take i all) derived) (λ x y. (x ≡ w) × Contains derived y)
      (OfBoth (take (i + 1) all) derived) old now new before between after one two
      (λ x y. (
        λ p. elim (seen_next all i w x lt is p.0) [
          | inl a ↦ inl (a, p.1)
          | inr e ↦ inr (sym e, p.1)
        ],
        λ p. elim p [
          | inl a ↦ (seen_before all i w x lt is a.0, a.1)
          | inr b ↦ (
            subst (λ (z : Return). Contains (take (i + 1) all) z) (sym b.0)
                (seen_itself all i w lt is),
            b.1,
          )
        ],
      ))
