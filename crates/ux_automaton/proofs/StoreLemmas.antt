-- Each number of a front names stands, each stand a stack, and what is added to a store keeps them.
use Rattle.std.proofs.Common.{arith, ◌≡◌, ℕ, zero, suc, ◌<◌, ◌≤◌, List, [], ◌∷◌, ◌++◌, ◌⊎◌, ◌↔◌, inl, inr, sym, ◌∙◌, ap, subst, refl, length, length-append, append-nil, append_assoc, reverse}
use Rattle.std.specs.Prelude.{Contains, Some, slice_get}
use Rattle.std.proofs.lemmas.Option.{slice_get_cases, none-some}
use Rattle.std.proofs.lemmas.List.Sorted.{Contains-permutation, IsPermutation-reverse, IsPermutation-sym}
use Rattle.ux_closure.specs.declared.stand.Stand.{Stand}
use Rattle.ux_closure.specs.Holding.{IsStack}
use Rattle.ux_walk.specs.declared.config.Frame.{Frame}
use Rattle.ux_walk.specs.declared.lists.Link.{Link}
use Rattle.ux_walk.specs.Leads.{Stack, main_stack}
use Rattle.ux_walk.specs.Links.{AreBelow, Extends, Names}
use Rattle.ux_walk.proofs.LinksLemmas.{names_kept, one_list, number_within}
use Rattle.ux_automaton.specs.Fronts.{Store, HasStand, HoldsIn, IsFrontIn, NamesStack}
use Rattle.ux_automaton.specs.Kept.{Grows, IsFirst, IsSound, IsStand}
use Rattle.ux_automaton.proofs.AddingLemmas.{contains_first, first_or_later, nothing_in}

module _ {A : Type 0} where
  link_there : (links : List (Link A)) (n : ℕ) → n < length links →
      (link : Link A) × (slice_get links n ≡ Some link)
  link_there links n within = elim (slice_get_cases links n).1 [
    | inl there ↦ (there.0, there.2)
    | inr past ↦ absurd (let p = past.0 in omega (arith, p, within))
  ]

  -- a number up to that of the links names a list
  pub named : (links : List (Link A)) → AreBelow links → (n : ℕ) → n ≤ length links →
      (xs : List A) × Names links n xs
  named links below n within = go n n (omega arith) within
    where
      go : (most n : ℕ) → n ≤ most → n ≤ length links → (xs : List A) × Names links n xs
      go most zero few in_links = ([], refl)
      go zero (suc n) few in_links = absurd (omega (arith, few))
      go (suc most) (suc n) few in_links =
          let link = link_there links n (omega (arith, in_links)) in
          let tail = below n link.0 link.1 in
          let rest = go most link.0.tail (omega (arith, tail, few)) (omega (arith, tail, in_links)) in
          (link.0.head ∷ rest.0, (link.0.tail, link.1, rest.1))

  -- what is so of each head is so of each element
  pub each_named : (links : List (Link A)) (IsSo : A → Type 0) →
      ((i : ℕ) (link : Link A) → slice_get links i ≡ Some link → IsSo link.head) →
      (n : ℕ) (xs : List A) → Names links n xs → (x : A) → Contains xs x → IsSo x
  each_named links IsSo each n [] names x inside = absurd (nothing_in inside)
  each_named links IsSo each zero (y ∷ ys) names x inside = absurd (none-some _ names.1)
  each_named links IsSo each (suc n) (y ∷ ys) names x inside =
      elim (first_or_later y ys x inside) [
        | inl e ↦ subst IsSo (sym e) (each n (record { head = y; tail = names.0 }) names.1)
        | inr later ↦ each_named links IsSo each names.0 ys names.2 x later
      ]

  pub longer : (old new : List (Link A)) → Extends old new → length old ≤ length new
  longer old new extends =
      let is = ap (λ (l : List (Link A)). length l) extends.1 in
      let sum = length-append old extends.0 in
      omega (arith, is, sum)

-- a stand of a front returns to a list that is there
pub has_stand : (store : Store) → IsSound store → (front : ℕ) (stand : Stand) →
    HasStand store front stand → IsStand store stand
has_stand store sound front stand has =
    each_named store.fronts (IsStand store) sound.stands front has.0 has.1 stand has.2

-- front 0 has no stack
pub nothing_held : (store : Store) (stack : Stack) → HoldsIn store 0 stack → ⊥
nothing_held store stack (stand, has, is) = go has.0 has.1 has.2
  where
    go : (xs : List Stand) → Names store.fronts 0 xs → Contains xs stand → ⊥
    go [] names inside = nothing_in inside
    go (x ∷ xs) names inside = none-some _ names.1

pub as_names : {A B : Stand → Type 0} (stacks : List (Link Frame)) →
    ((stand : Stand) → A stand → B stand) → (stack : Stack) →
    NamesStack stacks A stack → NamesStack stacks B stack
as_names stacks f stack (stand, has, is) = (stand, f stand has, is)

module _ (old new : Store) (sound : IsSound old) (grows : Grows old new) where
  pub front_kept : (front : ℕ) → IsFrontIn old front → IsFrontIn new front
  front_kept front there =
      let more = longer old.fronts new.fronts grows.fronts in omega (arith, more, there)

  pub stand_kept : (stand : Stand) → IsStand old stand → IsStand new stand
  stand_kept stand there =
      let more = longer old.stacks new.stacks grows.stacks in omega (arith, more, there)

  pub has_kept : (front : ℕ) → IsFrontIn old front → (stand : Stand) →
      HasStand old front stand ↔ HasStand new front stand
  has_kept front there stand = (
    λ h. (h.0, names_kept old.fronts new.fronts grows.fronts front h.0 h.1, h.2),
    λ h.
        let known = named old.fronts sound.fronts_below front there in
        let same = one_list new.fronts front h.0 known.0 h.1
        (names_kept old.fronts new.fronts grows.fronts front known.0 known.1) in
        (known.0, known.1, subst (λ (l : List Stand). Contains l stand) same h.2),
  )

  pub stack_kept : (stand : Stand) → IsStand old stand → (stack : Stack) →
      IsStack old.stacks stand stack ↔ IsStack new.stacks stand stack
  stack_kept stand there [] = (λ h. h, λ h. h)
  stack_kept stand there (f ∷ fs) = (
    λ h. (h.0, names_kept old.stacks new.stacks grows.stacks stand.back fs h.1),
    λ h.
        let known = named old.stacks sound.stacks_below stand.back there in
        let same = one_list new.stacks stand.back fs known.0 h.1
        (names_kept old.stacks new.stacks grows.stacks stand.back known.0 known.1) in
        (h.0, subst (λ (l : List Frame). Names old.stacks stand.back l) (sym same) known.1),
  )

  -- stands that were there name the same stacks
  pub names_same : (IsThere : Stand → Type 0) →
      ((stand : Stand) → IsThere stand → IsStand old stand) → (stack : Stack) →
      NamesStack old.stacks IsThere stack ↔ NamesStack new.stacks IsThere stack
  names_same IsThere there stack = (
    λ h. (h.0, h.1, (stack_kept h.0 (there h.0 h.1) stack).0 h.2),
    λ h. (h.0, h.1, (stack_kept h.0 (there h.0 h.1) stack).1 h.2),
  )

  -- a front keeps its stacks
  pub holds_kept : (front : ℕ) → IsFrontIn old front → (stack : Stack) →
      HoldsIn old front stack ↔ HoldsIn new front stack
  holds_kept front there stack = (
    λ h. (
      h.0,
      (has_kept front there h.0).0 h.1,
      (stack_kept h.0 (has_stand old sound front h.0 h.1) stack).0 h.2,
    ),
    λ h.
        let has = (has_kept front there h.0).1 h.1 in
        (h.0, has, (stack_kept h.0 (has_stand old sound front h.0 has) stack).1 h.2),
  )

extends_itself : {A : Type 0} (links : List (Link A)) → Extends links links
extends_itself links = ([], sym (append-nil links))

extends_on : {A : Type 0} (one two three : List (Link A)) → Extends one two → Extends two three →
    Extends one three
extends_on one two three a b = (
  a.0 ++ b.0,
  b.1 ∙ (ap (λ (l : List (Link _)). l ++ b.0) a.1 ∙ append_assoc one a.0 b.0),
)

pub grows_not : (store : Store) → IsSound store → Grows store store
grows_not store sound = record {
  stacks = extends_itself store.stacks;
  fronts = extends_itself store.fronts;
  sound = sound;
}

pub grows_on : (one two three : Store) → Grows one two → Grows two three → Grows one three
grows_on one two three a b = record {
  stacks = extends_on one.stacks two.stacks three.stacks a.stacks b.stacks;
  fronts = extends_on one.fronts two.fronts three.fronts a.fronts b.fronts;
  sound = b.sound;
}

-- a list that was read from its end has the stands of the front
pub spelled : (store : Store) → IsSound store → (front : ℕ) → IsFrontIn store front →
    (items : List Stand) →
    ((xs : List Stand) → Names store.fronts front xs → items ≡ reverse xs) → (stand : Stand) →
    Contains items stand ↔ HasStand store front stand
spelled store sound front there items is stand =
    let known = named store.fronts sound.fronts_below front there in
    let same = is known.0 known.1 in (
      λ h. (
        known.0,
        known.1,
        Contains-permutation (reverse known.0) known.0 stand
            (IsPermutation-sym known.0 (reverse known.0) (IsPermutation-reverse known.0))
            (subst (λ (l : List Stand). Contains l stand) same h),
      ),
      λ h. subst (λ (l : List Stand). Contains l stand) (sym same)
          (Contains-permutation known.0 (reverse known.0) stand (IsPermutation-reverse known.0)
          (subst (λ (l : List Stand). Contains l stand)
          (one_list store.fronts front h.0 known.0 h.1 known.1) h.2)),
    )

-- more frames alone
pub stacks_grown : (old : Store) (stacks : List (Link Frame)) → IsSound old →
    Extends old.stacks stacks → AreBelow stacks →
    Grows old (record { stacks = stacks; fronts = old.fronts })
stacks_grown old stacks sound extends below = record {
  stacks = extends;
  fronts = extends_itself old.fronts;
  sound = record {
    stacks_below = below;
    fronts_below = sound.fronts_below;
    stands = λ i link at.
        let there = sound.stands i link at in
        let more = longer old.stacks stacks extends in
        omega (arith, there, more);
  };
}

-- a front of the stands of both has the stacks of both
pub joined : (old new : Store) → IsSound old → Grows old new → (one other front : ℕ) →
    ((stand : Stand) → HasStand new front stand
    ↔ (HasStand old one stand ⊎ HasStand old other stand)) → (stack : Stack) →
    HoldsIn new front stack ↔ (HoldsIn old one stack ⊎ HoldsIn old other stack)
joined old new sound grows one other front both stack = (
  λ h. elim ((both h.0).0 h.1) [
    | inl a ↦ inl (
      h.0,
      a,
      (stack_kept old new sound grows h.0 (has_stand old sound one h.0 a) stack).1 h.2,
    )
    | inr b ↦ inr (
      h.0,
      b,
      (stack_kept old new sound grows h.0 (has_stand old sound other h.0 b) stack).1 h.2,
    )
  ],
  λ h. elim h [
    | inl a ↦ (
      a.0,
      (both a.0).1 (inl a.1),
      (stack_kept old new sound grows a.0 (has_stand old sound one a.0 a.1) stack).0 a.2,
    )
    | inr b ↦ (
      b.0,
      (both b.0).1 (inr b.1),
      (stack_kept old new sound grows b.0 (has_stand old sound other b.0 b.1) stack).0 b.2,
    )
  ],
)

-- stands that name stacks return to lists that are there
pub named_stand : (stacks : List (Link Frame)) (fronts : List (Link Stand)) (stand : Stand) →
    (fs : Stack) × Names stacks stand.back fs →
    IsStand (record { stacks = stacks; fronts = fronts }) stand
named_stand stacks fronts stand (fs, names) = number_within stacks stand.back fs names

names_none : (links : List (Link Frame)) (fs : Stack) → Names links 0 fs → fs ≡ []
names_none links [] names = refl
names_none links (f ∷ fs) names = absurd (none-some _ names.1)

-- the stand in which walks begin
abbrev pub main_stand : Stand
main_stand = record { here = record { graph = 1; state = 0 }; back = 0 }

pub first_right : (store : Store) (front : ℕ) → IsFrontIn store front →
    ((stand : Stand) → HasStand store front stand ↔ Contains (main_stand ∷ []) stand) →
    IsFirst store front
first_right store front there only = record {
  there = there;
  main = λ stack. (
    λ h. forth stack h.0 (elim (first_or_later main_stand [] h.0 ((only h.0).0 h.1)) [
      | inl e ↦ e
      | inr nowhere ↦ absurd (nothing_in nowhere)
    ]) h.2,
    λ e. (
      main_stand,
      (only main_stand).1 (contains_first main_stand []),
      subst (IsStack store.stacks main_stand) (sym e) (refl, refl),
    ),
  );
}
  where
    forth : (stack : Stack) (stand : Stand) → stand ≡ main_stand → IsStack store.stacks stand stack →
        stack ≡ main_stack
    forth [] stand is held = absurd held
    forth (f ∷ fs) stand is held =
        let here : f ≡ record { graph = 1; state = 0 } =
        sym held.0 ∙ ap (λ (s : Stand). s.here) is in
        let none : fs ≡ [] = names_none store.stacks fs
        (subst (λ n. Names store.stacks n fs) (ap (λ (s : Stand). s.back) is) held.1) in
        ap (λ (x : Frame). x ∷ fs) here
        ∙ ap (λ (l : Stack). record { graph = 1; state = 0 } ∷ l) none
