-- The derivations that are spelled out are those that were found, each once.
use Rattle.std.proofs.Common.{arith, ◌≡◌, ℕ, zero, suc, ◌+◌, ◌<◌, ◌≤◌, List, [], ◌∷◌, ◌++◌, refl, sym, ◌∙◌, ap, subst, ◌↔◌, ◌⊎◌, inl, inr, length, take, get_or, reverse}
use Rattle.std.specs.Prelude.{Some, slice_get, Contains}
use Rattle.std.specs.List.{AllZip}
use Rattle.std.proofs.lemmas.List.{take_more, take_all, reverse-append, reverse-reverse}
use Rattle.std.proofs.lemmas.Option.{same_Some, slice_get-get_or, slice_get_within}
use Rattle.ux_outputs.specs.declared.event.Event.{Event}
use Rattle.ux_base.proofs.FirstsLemmas.{Contains-from_place}
use Rattle.ux_walk.specs.declared.config.Found.{Found}
use Rattle.ux_walk.specs.declared.noted.Noted.{Noted}
use Rattle.ux_walk.specs.declared.reached.Reached.{Reached}
use Rattle.ux_base.specs.Distinct.{StandOnce}
use Rattle.ux_walk.specs.Links.{AreOnce}
use Rattle.ux_walk.specs.Noted.{StandsFor}
use Rattle.ux_walk.specs.declared.config.Visit.{Visit}
use Rattle.ux_walk.specs.Courses.{Course}
use Rattle.ux_walk.specs.Groups.{IsIn}
use Rattle.ux_walk.specs.Configurations.{IsFound, IsFoundAs, IsSound, IsVisit, NamesEventsIn, ended, events_of, texts_of}
use Rattle.ux_walk.proofs.Collecting.{seen_before, seen_itself, seen_next}
use Rattle.ux_walk.proofs.GroupsLemmas.{nothing_in}
use Rattle.ux_walk.proofs.NotedLemmas.{one_teller}

pub at_of : {A : Type 0} (xs : List A) (x : A) → Contains xs x → (k : ℕ) × (slice_get xs k ≡ Some x)
at_of xs x c = (c.0, slice_get-get_or xs c.0 x c.1 ∙ ap Some c.2)

module _ {A B : Type 0} (R : A → B → Type 0) where
  zip_push : (xs : List A) (ys : List B) (x : A) (y : B) → AllZip R xs ys → R x y →
      AllZip R (xs ++ x ∷ []) (ys ++ y ∷ [])
  zip_push [] [] x y zip r = (r, tt)
  zip_push [] (b ∷ ys) x y zip r = absurd zip
  zip_push (a ∷ xs) [] x y zip r = absurd zip
  zip_push (a ∷ xs) (b ∷ ys) x y zip r = (zip.0, zip_push xs ys x y zip.1 r)

  zip_right : (xs : List A) (ys : List B) (k : ℕ) (y : B) → AllZip R xs ys →
      slice_get ys k ≡ Some y → (x : A) × (slice_get xs k ≡ Some x) × R x y
  zip_right [] [] k y zip at = absurd (let w = slice_get_within [] k y at in omega (arith, w))
  zip_right [] (b ∷ ys) k y zip at = absurd zip
  zip_right (a ∷ xs) [] k y zip at = absurd zip
  zip_right (a ∷ xs) (b ∷ ys) zero y zip at =
      (a, refl, subst (λ (z : B). R a z) (same_Some b y at) zip.0)
  zip_right (a ∷ xs) (b ∷ ys) (suc k) y zip at = zip_right xs ys k y zip.1 at

  zip_left : (xs : List A) (ys : List B) (k : ℕ) (x : A) → AllZip R xs ys →
      slice_get xs k ≡ Some x → (y : B) × (slice_get ys k ≡ Some y) × R x y
  zip_left [] [] k x zip at = absurd (let w = slice_get_within [] k x at in omega (arith, w))
  zip_left [] (b ∷ ys) k x zip at = absurd zip
  zip_left (a ∷ xs) [] k x zip at = absurd zip
  zip_left (a ∷ xs) (b ∷ ys) zero x zip at =
      (b, refl, subst (λ (z : A). R z b) (same_Some a x at) zip.0)
  zip_left (a ∷ xs) (b ∷ ys) (suc k) x zip at = zip_left xs ys k x zip.1 at

-- so far a set has what a list has
pub set_none : {A : Type 0} (keys all : List A) → keys ≡ [] → (x : A) →
    Contains keys x ↔ Contains (take 0 all) x
set_none {A} keys all none x = (
  λ h. absurd (nothing_in x (subst (λ (l : List A). Contains l x) none h)),
  λ h. absurd (nothing_in x h),
)

pub set_more : {A : Type 0} (all old new : List A) (i : ℕ) (y : A) → i < length all →
    y ≡ get_or all i y → ((x : A) → Contains old x ↔ Contains (take i all) x) →
    ((x : A) → Contains new x ↔ (Contains old x ⊎ (x ≡ y))) → (x : A) →
    Contains new x ↔ Contains (take (i + 1) all) x
set_more {A} all old new i y lt is same put x = (
  λ h. elim ((put x).0 h) [
    | inl o ↦ seen_before all i y x lt is ((same x).0 o)
    | inr e ↦ subst (λ (z : A). Contains (take (i + 1) all) z) (sym e) (seen_itself all i y lt is)
  ],
  λ h. elim (seen_next all i y x lt is h) [
    | inl o ↦ (put x).1 (inl ((same x).1 o))
    | inr e ↦ (put x).1 (inr (sym e))
  ],
)

module _ (r : Reached) where
  -- the derivation has the end, and the events of the list in order
  pub record IsSpelled (f : Found) (d : ℕ × List Event) : Type 0 where
    pub end : d.0 ≡ f.end
    pub events : (before : List Event) → NamesEventsIn r f.events before → d.1 ≡ reverse before

  pub spelled_none : (all : List Found) → AllZip IsSpelled (take 0 all) []
  spelled_none all = tt

  pub spelled_more : (all : List Found) (i : ℕ) (f : Found) (ds : List (ℕ × List Event))
      (d : ℕ × List Event) → i < length all → f ≡ get_or all i f →
      AllZip IsSpelled (take i all) ds → IsSpelled f d →
      AllZip IsSpelled (take (i + 1) all) (ds ++ d ∷ [])
  spelled_more all i f ds d lt is zip one =
      let more : take (i + 1) all ≡ take i all ++ f ∷ [] = take_more all i f lt
      ∙ ap (λ y. take i all ++ y ∷ []) (sym is) in
      subst (λ (l : List Found). AllZip IsSpelled l (ds ++ d ∷ [])) (sym more)
      (zip_push IsSpelled (take i all) ds f d zip one)

  pub spelled_all : (all : List Found) (i : ℕ) (ds : List (ℕ × List Event)) → length all ≤ i →
      AllZip IsSpelled (take i all) ds → AllZip IsSpelled all ds
  spelled_all all i ds past zip =
      subst (λ (l : List Found). AllZip IsSpelled l ds) (take_all i all past) zip

  module _ (sound : IsSound r) (number : ℕ) (all : List Found)
      (are : (f : Found) → Contains all f ↔ IsIn r.found number f) (ds : List (ℕ × List Event))
      (zip : AllZip IsSpelled all ds) where
    -- what was found names some events
    named_in : (k : ℕ) (f : Found) → slice_get all k ≡ Some f →
        (before : List Event) × NamesEventsIn r f.events before
    named_in k f at =
        let s = sound.found number f ((are f).0 (Contains-from_place all k f at)) in
        (s.2.before, s.2.events)

    pub derived_exactly : (v : Visit) → IsVisit r number v → AreOnce r.visits.keys → (end : ℕ)
        (events : List Event) →
        Contains ds (end, events) ↔ IsFoundAs r v end events
    derived_exactly v visit once end events = (
      λ c.
          let at = at_of ds (end, events) c in
          let f = zip_right IsSpelled all ds at.0 (end, events) zip at.1 in
          let n = named_in at.0 f.0 f.1 in
          record {
            before = n.0;
            has = (
              number,
              f.0,
              (are f.0).0 (Contains-from_place all at.0 f.0 f.1),
              record {
                before = n.0;
                visit = visit;
                events = n.1;
                is = ap (λ k. ended k n.0) f.2.end;
              },
            );
            is = f.2.events n.0 n.1;
          },
      λ d. by d.before d.is d.has.0 d.has.1 d.has.2 d.has.3,
    )
      where
        by : (before : List Event) → events ≡ reverse before → (n : ℕ) (f : Found) →
            IsIn r.found n f → IsFound r n f v (ended end before) → Contains ds (end, events)
        by before is n f inside found =
            let same : n ≡ number = once n number v found.visit visit in
            let here : Contains all f = (are f).1 (subst (λ k. IsIn r.found k f) same inside) in
            let at = at_of all f here in
            let d = zip_left IsSpelled all ds at.0 f zip at.1 in
            let end_is : d.0.0 ≡ end = d.2.end
            ∙ ap (λ (x : Course). x.at) (sym found.is) in
            let before_is : found.before ≡ before = ap (λ (x : Course). x.before) (sym found.is) in
            let events_is : d.0.1 ≡ events = d.2.events found.before found.events
            ∙ (ap (λ (l : List Event). reverse l) before_is ∙ sym is) in
            let whole : d.0 ≡ (end, events) = ap (λ (k : ℕ). (k, d.0.1)) end_is
            ∙ ap (λ (l : List Event). (end, l)) events_is in
            subst (λ (x : ℕ × List Event). Contains ds x) whole (Contains-from_place ds at.0 d.0 d.1)

    pub derived_once : AreOnce all → AreOnce (events_of r) → StandOnce (texts_of r) → AreOnce ds
    derived_once found links texts i j d at there =
        let f = zip_right IsSpelled all ds i d zip at in
        let g = zip_right IsSpelled all ds j d zip there in
        let v = named_in i f.0 f.1 in
        let w = named_in j g.0 g.1 in
        let reversed : reverse v.0 ≡ reverse w.0 =
        sym (f.2.events v.0 v.1) ∙ g.2.events w.0 w.1 in
        let lists : v.0 ≡ w.0 = sym (reverse-reverse v.0)
        ∙ (ap (λ (l : List Event). reverse l) reversed ∙ reverse-reverse w.0) in
        let numbers : f.0.events ≡ g.0.events = one_teller (texts_of r) texts (events_of r) links
        f.0.events g.0.events w.0
        (subst (λ (l : List Event). NamesEventsIn r f.0.events l) lists v.1) w.1 in
        let ends : f.0.end ≡ g.0.end = sym f.2.end ∙ g.2.end in
        let same : f.0 ≡ g.0 = ap (λ n. record { end = n; events = f.0.events }) ends
        ∙ ap (λ n. record { end = g.0.end; events = n }) numbers in
        found i j g.0 (subst (λ (x : Found). slice_get all i ≡ Some x) same f.1) g.1

-- so far each noted event is spelled as an event that it stands for is
module _ (texts : List (List ℕ)) where
  abbrev pub Means : Noted → Event → Type 0
  Means n e = (wanted : Event) → StandsFor texts n wanted → e ≡ wanted

  pub means_none : (all : List Noted) → AllZip Means (take 0 all) []
  means_none all = tt

  pub means_more : (all : List Noted) (i : ℕ) (n : Noted) (es : List Event) (e : Event) →
      i < length all → n ≡ get_or all i n → AllZip Means (take i all) es → Means n e →
      AllZip Means (take (i + 1) all) (es ++ e ∷ [])
  means_more all i n es e lt is zip one =
      let more : take (i + 1) all ≡ take i all ++ n ∷ [] = take_more all i n lt
      ∙ ap (λ y. take i all ++ y ∷ []) (sym is) in
      subst (λ (l : List Noted). AllZip Means l (es ++ e ∷ [])) (sym more)
      (zip_push Means (take i all) es n e zip one)

  means_same : (ns : List Noted) (es wanted : List Event) → AllZip Means ns es →
      AllZip (StandsFor texts) ns wanted → es ≡ wanted
  means_same [] [] [] means stands = refl
  means_same [] (e ∷ es) wanted means stands = absurd means
  means_same [] [] (w ∷ ws) means stands = absurd stands
  means_same (n ∷ ns) [] wanted means stands = absurd means
  means_same (n ∷ ns) (e ∷ es) [] means stands = absurd stands
  means_same (n ∷ ns) (e ∷ es) (w ∷ ws) means stands =
      ap (λ (x : Event). x ∷ es) (means.0 w stands.0)
      ∙ ap (λ (l : List Event). w ∷ l) (means_same ns es ws means.1 stands.1)

  zip_reverse : (ns : List Noted) (es : List Event) → AllZip (StandsFor texts) ns es →
      AllZip (StandsFor texts) (reverse ns) (reverse es)
  zip_reverse [] [] zip = tt
  zip_reverse [] (e ∷ es) zip = absurd zip
  zip_reverse (n ∷ ns) [] zip = absurd zip
  zip_reverse (n ∷ ns) (e ∷ es) zip =
      subst (λ (l : List Noted). AllZip (StandsFor texts) l (reverse (e ∷ es)))
      (sym (reverse-append (n ∷ []) ns))
      (subst (λ (l : List Event). AllZip (StandsFor texts) (reverse ns ++ n ∷ []) l)
      (sym (reverse-append (e ∷ []) es))
      (zip_push (StandsFor texts) (reverse ns) (reverse es) n e (zip_reverse ns es zip.1) zip.0))

  -- all are spelled, in order
  pub means_all : (all listed : List Noted) (i : ℕ) (es before : List Event) → length all ≤ i →
      all ≡ reverse listed → AllZip Means (take i all) es →
      AllZip (StandsFor texts) listed before → es ≡ reverse before
  means_all all listed i es before past is zip each =
      means_same (reverse listed) es (reverse before)
      (subst (λ (l : List Noted). AllZip Means l es) (take_all i all past ∙ is) zip)
      (zip_reverse listed before each)
