-- What is added to what was met, one step after another.
use Rattle.std.proofs.Common.{arith, ◌≡◌, ℕ, List, [], ◌∷◌, ◌++◌, ◌⊎◌, ◌↔◌, inl, inr, refl, sym, ◌∙◌, ap, subst, append-nil, append_assoc, Bool}
use Rattle.std.specs.Prelude.{Contains, IsTrue}
use Rattle.std.proofs.lemmas.List.Elements.{Contains-append_cases, Contains-push_cases}
use Rattle.ux_walk.specs.declared.lists.Link.{Link}
use Rattle.ux_walk.specs.declared.config.Frame.{Frame}
use Rattle.ux_walk.specs.Leads.{Stack}
use Rattle.ux_walk.specs.Links.{Names, AreBelow, IsConsed}
use Rattle.ux_walk.proofs.LinksLemmas.{names_kept, one_list, consed_extends, consed_below}
use Rattle.ux_closure.specs.declared.stand.Stand.{Stand}
use Rattle.ux_closure.specs.Holding.{IsStack, IsNamed, Grows}
use Rattle.ux_closure.specs.Meeting.{Known, Meets, IsSound, Adds, IsPut}
use Rattle.ux_closure.proofs.PutLemmas.{put_has}

pub nothing_in : {A : Type 0} (x : A) → let none : List A = [] in Contains none x → ⊥
nothing_in x h = absurd (omega (arith, h.1))

-- links that stay grow, and grow on
pub grows_same : (links : List (Link Frame)) → AreBelow links → Grows links links
grows_same links below = record { extends = ([], sym (append-nil links)); below = below }

pub grows_more : (old mid new : List (Link Frame)) → Grows old mid → Grows mid new → Grows old new
grows_more old mid new first second = record {
  extends = (
    first.extends.0 ++ second.extends.0,
    second.extends.1 ∙ (ap (λ (l : List (Link Frame)). l ++ second.extends.0) first.extends.1
        ∙ append_assoc old first.extends.0 second.extends.0),
  );
  below = second.below;
}

-- where the links stay as they were, nothing is lost
pub grows_kept : (old mid new : List (Link Frame)) → Grows old mid → new ≡ mid → Grows old new
grows_kept old mid new grows is = subst (λ (l : List (Link Frame)). Grows old l) (sym is) grows

-- one link more
pub grows_consed : (old new : List (Link Frame)) (f : Frame) (tail n : ℕ) → AreBelow old →
    IsConsed old new f tail n → (fs : Stack) → Names old tail fs → Grows old new
grows_consed old new f tail n below consed fs named = record {
  extends = consed_extends old new f tail n consed;
  below = consed_below old new f tail n consed below fs named;
}

module _ (old new : List (Link Frame)) (grows : Grows old new) where
  -- more links keep what a stand names
  pub stack_kept : (stand : Stand) (stack : Stack) → IsStack old stand stack →
      IsStack new stand stack
  stack_kept stand [] is = absurd is
  stack_kept stand (f ∷ fs) is =
      (is.0, names_kept old new grows.extends stand.back fs is.1)

  pub named_kept : (stand : Stand) → IsNamed old stand → IsNamed new stand
  named_kept stand named =
      (named.0, names_kept old new grows.extends stand.back named.0 named.1)

  -- and a stand that named one names no other
  pub stack_was : (stand : Stand) (stack : Stack) → IsNamed old stand → IsStack new stand stack →
      IsStack old stand stack
  stack_was stand [] named is = absurd is
  stack_was stand (f ∷ fs) named is =
      let same : named.0 ≡ fs = one_list new stand.back named.0 fs
      (names_kept old new grows.extends stand.back named.0 named.1) is.1 in
      (is.0, subst (λ (l : Stack). Names old stand.back l) same named.1)

-- a stand names one stack
pub one_stack : (links : List (Link Frame)) (stand : Stand) (s t : Stack) →
    IsStack links stand s → IsStack links stand t → s ≡ t
one_stack links stand [] t a b = absurd a
one_stack links stand (f ∷ fs) [] a b = absurd b
one_stack links stand (f ∷ fs) (g ∷ gs) a b =
    let heads : f ≡ g = sym a.0 ∙ b.0 in
    let tails : fs ≡ gs = one_list links stand.back fs gs a.1 b.1 in
    ap (λ (h : Frame). h ∷ fs) heads ∙ ap (λ (l : Stack). g ∷ l) tails

-- the stack's stand names a list
pub stack_named : (links : List (Link Frame)) (stand : Stand) (stack : Stack) →
    IsStack links stand stack → IsNamed links stand
stack_named links stand [] is = absurd is
stack_named links stand (f ∷ fs) is = (fs, is.1)

-- no stack
abbrev pub NoStack : Stack → Type 0
NoStack stack = ⊥

-- nothing was added
pub adds_nothing : (Told : Stack → Type 0) (k : Known) → AreBelow k.links →
    ((stack : Stack) → Told stack → ⊥) → Adds Told k k
adds_nothing Told k below never = record {
  grows = grows_same k.links below;
  more = [];
  behind = sym (append-nil k.stands);
  told = λ stand h. absurd (nothing_in stand h);
  has = λ s. (λ h. inl h, λ h. elim h [ inl o ↦ o | inr t ↦ absurd (never s t) ]);
}

-- one step after another
pub adds_then : (First Second Told : Stack → Type 0) (old mid new : Known) →
    Adds First old mid → Adds Second mid new →
    ((s : Stack) → Told s ↔ (First s ⊎ Second s)) → Adds Told old new
adds_then First Second Told old mid new first second told = record {
  grows = grows_more old.links mid.links new.links first.grows second.grows;
  more = first.more ++ second.more;
  behind = second.behind ∙ (ap (λ (l : List Stand). l ++ second.more) first.behind
      ∙ append_assoc old.stands first.more second.more);
  told = λ stand h. elim (Contains-append_cases first.more second.more stand h) [
    | inl a ↦ let t = first.told stand a in (
      t.0,
      stack_kept mid.links new.links second.grows stand t.0 t.1,
      (told t.0).1 (inl t.2),
    )
    | inr b ↦ let t = second.told stand b in (t.0, t.1, (told t.0).1 (inr t.2))
  ];
  has = λ s. (
    λ h. elim ((second.has s).0 h) [
      | inl m ↦ elim ((first.has s).0 m) [
        | inl o ↦ inl o
        | inr t ↦ inr ((told s).1 (inl t))
      ]
      | inr t ↦ inr ((told s).1 (inr t))
    ],
    λ h. elim h [
      | inl o ↦ (second.has s).1 (inl ((first.has s).1 (inl o)))
      | inr t ↦ elim ((told s).0 t) [
        | inl a ↦ (second.has s).1 (inl ((first.has s).1 (inr a)))
        | inr b ↦ (second.has s).1 (inr b)
      ]
    ],
  );
}

-- the same in other words
pub adds_alike : (Told Wanted : Stack → Type 0) (old new : Known) → Adds Told old new →
    ((s : Stack) → Told s ↔ Wanted s) → Adds Wanted old new
adds_alike Told Wanted old new adds same = record {
  grows = adds.grows;
  more = adds.more;
  behind = adds.behind;
  told = λ stand h. let t = adds.told stand h in (t.0, t.1, (same t.0).0 t.2);
  has = λ s. (
    λ h. elim ((adds.has s).0 h) [ inl o ↦ inl o | inr t ↦ inr ((same s).0 t) ],
    λ h. elim h [ inl o ↦ (adds.has s).1 (inl o) | inr t ↦ (adds.has s).1 (inr ((same s).1 t)) ],
  );
}

-- and all is sound then
pub adds_sound : (Told : Stack → Type 0) (old new : Known) → IsSound old → Adds Told old new →
    IsSound new
adds_sound Told old new sound adds = record {
  below = adds.grows.below;
  named = λ stand h. elim (Contains-append_cases old.stands adds.more stand
      (subst (λ (l : List Stand). Contains l stand) adds.behind h)) [
        | inl o ↦ named_kept old.links new.links adds.grows stand (sound.named stand o)
        | inr m ↦ let t = adds.told stand m in stack_named new.links stand t.0 t.1
      ];
}

-- a stand was put behind those that were met, or was there
module _ (old new : Known) (below : AreBelow old.links) (links : new.links ≡ old.links)
    (ends : new.ends ≡ old.ends) (stand : Stand) (put : IsPut old.stands new.stands stand)
    (stack : Stack) (is : IsStack old.links stand stack) where
  grown : Grows old.links new.links
  grown = grows_kept old.links old.links new.links (grows_same old.links below) links

  is_now : IsStack new.links stand stack
  is_now = stack_kept old.links new.links grown stand stack is

  was : (x : Stand) (s : Stack) → IsStack new.links x s → IsStack old.links x s
  was x s h = subst (λ (l : List (Link Frame)). IsStack l x s) links h

  there : (x : Stand) → Contains new.stands x ↔ (Contains old.stands x ⊎ (x ≡ stand))
  there = put_has old.stands new.stands stand put

  put_forth : (s : Stack) → Meets new s → Meets old s ⊎ (s ≡ stack)
  put_forth [] h = inl (subst (λ (b : Bool). IsTrue b) ends h)
  put_forth (f ∷ fs) h = elim ((there h.0).0 h.1) [
    | inl o ↦ inl (h.0, o, was h.0 (f ∷ fs) h.2)
    | inr e ↦ inr (one_stack old.links stand (f ∷ fs) stack
        (subst (λ (x : Stand). IsStack old.links x (f ∷ fs)) e (was h.0 (f ∷ fs) h.2)) is)
  ]

  put_old : (s : Stack) → Meets old s → Meets new s
  put_old [] h = subst (λ (b : Bool). IsTrue b) (sym ends) h
  put_old (f ∷ fs) h =
      (h.0, (there h.0).1 (inl h.1), stack_kept old.links new.links grown h.0 (f ∷ fs) h.2)

  put_new : (s : Stack) → IsStack new.links stand s → Meets new s
  put_new [] named = absurd named
  put_new (f ∷ fs) named = (stand, (there stand).1 (inr refl), named)

  more_of : (more : List Stand) × (new.stands ≡ old.stands ++ more)
      × ((x : Stand) → Contains more x → x ≡ stand)
  more_of = elim put [
    | inl o ↦ ([], o.0 ∙ sym (append-nil old.stands), λ x h. absurd (nothing_in x h))
    | inr n ↦ (
      stand ∷ [],
      n,
      λ x h. elim (Contains-push_cases [] stand x h) [
        | inl none ↦ absurd (nothing_in x none)
        | inr e ↦ sym e
      ],
    )
  ]

  pub adds_put : Adds (λ s. s ≡ stack) old new
  adds_put = record {
    grows = grown;
    more = more_of.0;
    behind = more_of.1;
    told = λ x h. (
      stack,
      subst (λ (y : Stand). IsStack new.links y stack) (sym (more_of.2 x h)) is_now,
      refl,
    );
    has = λ s. (
      put_forth s,
      λ h. elim h [
        | inl o ↦ put_old s o
        | inr e ↦ put_new s (subst (λ (t : Stack). IsStack new.links stand t) (sym e) is_now)
      ],
    );
  }

-- the empty stack was met
module _ (old new : Known) (below : AreBelow old.links) (links : new.links ≡ old.links)
    (stands : new.stands ≡ old.stands) (ends : IsTrue new.ends) where
  grown_too : Grows old.links new.links
  grown_too = grows_kept old.links old.links new.links (grows_same old.links below) links

  end_forth : (s : Stack) → Meets new s → Meets old s ⊎ (s ≡ [])
  end_forth [] h = inr refl
  end_forth (f ∷ fs) h = inl (
    h.0,
    subst (λ (l : List Stand). Contains l h.0) stands h.1,
    subst (λ (l : List (Link Frame)). IsStack l h.0 (f ∷ fs)) links h.2,
  )

  end_old : (s : Stack) → Meets old s → Meets new s
  end_old [] h = ends
  end_old (f ∷ fs) h = (
    h.0,
    subst (λ (l : List Stand). Contains l h.0) (sym stands) h.1,
    stack_kept old.links new.links grown_too h.0 (f ∷ fs) h.2,
  )

  pub adds_end : Adds (λ s. s ≡ []) old new
  adds_end = record {
    grows = grown_too;
    more = [];
    behind = stands ∙ sym (append-nil old.stands);
    told = λ x h. absurd (nothing_in x h);
    has = λ s. (
      end_forth s,
      λ h. elim h [
        | inl o ↦ end_old s o
        | inr e ↦ subst (λ (t : Stack). Meets new t) (sym e) ends
      ],
    );
  }

-- links alone were added
module _ (old new : Known) (sound : IsSound old) (grows : Grows old.links new.links)
    (stands : new.stands ≡ old.stands) (ends : new.ends ≡ old.ends) where
  links_forth : (s : Stack) → Meets new s → Meets old s
  links_forth [] h = subst (λ (b : Bool). IsTrue b) ends h
  links_forth (f ∷ fs) h =
      let there = subst (λ (l : List Stand). Contains l h.0) stands h.1 in (
        h.0,
        there,
        stack_was old.links new.links grows h.0 (f ∷ fs) (sound.named h.0 there) h.2,
      )

  links_back : (s : Stack) → Meets old s → Meets new s
  links_back [] h = subst (λ (b : Bool). IsTrue b) (sym ends) h
  links_back (f ∷ fs) h = (
    h.0,
    subst (λ (l : List Stand). Contains l h.0) (sym stands) h.1,
    stack_kept old.links new.links grows h.0 (f ∷ fs) h.2,
  )

  pub adds_links : Adds NoStack old new
  adds_links = record {
    grows = grows;
    more = [];
    behind = stands ∙ sym (append-nil old.stands);
    told = λ x h. absurd (nothing_in x h);
    has = λ s. (
      λ h. inl (links_forth s h),
      λ h. elim h [ inl o ↦ links_back s o | inr none ↦ absurd none ],
    );
  }

-- links are added, and then more
pub adds_behind : (Told : Stack → Type 0) (old mid new : Known) → Adds NoStack old mid →
    Adds Told mid new → Adds Told old new
adds_behind Told old mid new first second =
    adds_then NoStack Told Told old mid new first second
    (λ s. (λ h. inr h, λ h. elim h [ inl none ↦ absurd none | inr t ↦ t ]))
