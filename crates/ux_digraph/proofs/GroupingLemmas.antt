-- Following an edge to a new, an open or a done node keeps the state of the search.
use Rattle.std.proofs.Common.{arith, ◌≡◌, ℕ, ◌+◌, ◌-◌, ◌<◌, ◌≤◌, List, [], ◌∷◌, ◌++◌, refl, sym, ◌∙◌, ap, subst, ◌⊎◌, inl, inr, length, length-append, get_or, set}
use Rattle.std.specs.Prelude.{Contains}
use Rattle.std.proofs.lemmas.List.{get_or_push, get_or_append_left, get_or-append-add, get_or-append_right, get_or-set_same}
use Rattle.std.proofs.lemmas.Grind.{get_or_default_zero}
use Rattle.std.proofs.lemmas.List.Elements.{Contains-get_or, Contains-append_left, Contains-push, Contains-push_cases}
use Rattle.ux_base.proofs.Lists.{less_or}
use Rattle.ux_digraph.proofs.PathsLemmas.{reaches_joined, reaches_then}
use Rattle.ux_digraph.proofs.GroupsLemmas.{rises_push, last_is_latest}
use Rattle.ux_digraph.proofs.MarksLemmas.{set_marks, same_place, opened_done, opened_open}
use Rattle.ux_digraph.specs.declared.grouping.Mark.{Mark}
use Rattle.ux_digraph.specs.declared.grouping.Mark.TheVariants.{New, Open}
use Rattle.ux_digraph.specs.declared.grouping.Group.{Group}
use Rattle.ux_digraph.specs.Paths.{row_of, Reaches, here, IsInside}
use Rattle.ux_digraph.specs.Grouping.{mark_at, IsDone, IsLevel, IsBeside, IsBehind, IsAhead, Opened, AreJoined}

module _ (edges : List (List ℕ)) (marks : List Mark) (trail : List ℕ) where
  -- the last target is taken: it alone is missed
  module _ (now ahead : List ℕ) (gs : List Group) (g : Group) (target : ℕ)
      (is : now ≡ ahead ++ target ∷ []) (some : g.ahead ≤ length ahead)
      (opened : Opened edges marks trail now (gs ++ g ∷ []) (λ v. ⊥)) where
    o : Opened edges marks trail (ahead ++ target ∷ []) (gs ++ g ∷ []) (λ v. ⊥)
    o = subst (λ (xs : List ℕ). Opened edges marks trail xs (gs ++ g ∷ []) (λ v. ⊥)) is opened

    len : length (ahead ++ target ∷ []) ≡ length ahead + 1
    len = length-append ahead (target ∷ [])

    pub target_taken : Opened edges marks trail ahead (gs ++ g ∷ []) (λ v. target ≡ v)
    target_taken = record {
      places = o.places;
      leads = o.leads;
      children = λ i h v e. elim (o.children i h v e) [
        | inl x ↦ elim x [
          | inl b ↦ inl (inl b)
          | inr a ↦ elim (less_or a.0 (length ahead)) [
            | inl l ↦ inl (inr (
              a.0,
              l,
              sym (get_or_append_left ahead (target ∷ []) 0 a.0 l) ∙ a.2,
              a.3,
            ))
            | inr l ↦
                let most = a.1 in
                let last : length ahead ≡ a.0 = omega (arith, len) in
                inr (sym (get_or_push ahead target 0 a.0 last) ∙ a.2)
          ]
        ]
        | inr never ↦ absurd never
      ];
      source = λ t l. let s = o.source t (omega (arith, len)) in (
        s.0,
        s.1,
        subst (λ x. Contains (row_of edges (get_or trail s.0 0)) x)
            (get_or_append_left ahead (target ∷ []) 0 t l) s.2,
        s.3,
      );
      rises = o.rises;
      bounded = λ h c.
          let l = (last_is_latest gs g o.rises h c).1 in ((o.bounded h c).0, omega arith);
      bottom = o.bottom;
    }

    -- all open nodes lead to it, since all lead to those of the last group
    pub all_lead : (i : ℕ) → i < length trail → Reaches edges (get_or trail i 0) target
    all_lead i h =
        let s = o.source (length ahead) (omega (arith, len)) in
        reaches_then edges (o.leads i s.0 h s.1 (λ h c low.
        let l = (last_is_latest gs g o.rises h c).1 in (s.3 h c).1 (omega (arith, len))))
        (subst (λ x. Contains (row_of edges (get_or trail s.0 0)) x)
        (get_or_push ahead target 0 (length ahead) refl) s.2)

    pub target_inside : IsInside edges → target < length edges
    target_inside inside =
        let s = o.source (length ahead) (omega (arith, len)) in
        inside.inside (get_or trail s.0 0) target
        (subst (λ x. Contains (row_of edges (get_or trail s.0 0)) x)
        (get_or_push ahead target 0 (length ahead) refl) s.2)

  module _ (ahead : List ℕ) (groups : List Group) (target : ℕ)
      (o : Opened edges marks trail ahead groups (λ v. target ≡ v)) where
    -- a done node was taken
    pub target_done : IsDone marks target → Opened edges marks trail ahead groups (λ v. ⊥)
    target_done d = record {
      places = o.places;
      leads = o.leads;
      children = λ i h v e. elim (o.children i h v e) [
        | inl x ↦ inl x
        | inr is ↦ inl (inl (inl (subst (λ n. IsDone marks n) is d)))
      ];
      source = o.source;
      rises = o.rises;
      bounded = o.bounded;
      bottom = o.bottom;
    }

    -- an open node was taken, and the groups from its own on were joined
    pub target_open : (rest : List Group) (place : ℕ) → AreJoined groups place rest →
        mark_at marks target ≡ Open place →
        ((i : ℕ) → i < length trail → Reaches edges (get_or trail i 0) target) →
        Opened edges marks trail ahead rest (λ v. ⊥)
    target_open rest place joined is lead = record {
      places = o.places;
      leads = λ i j hi hj level. elim (less_or i place) [
        | inl l ↦ o.leads i j hi hj (λ g c low. level g (joined.left g c (omega arith)) low)
        | inr l ↦
            let at = o.places.listed target place is in
            reaches_joined edges
            (subst (λ n. Reaches edges (get_or trail i 0) n) (sym at.1) (lead i hi))
            (o.leads place j at.0 hj (λ g c low. level g (joined.left g c low) (omega arith)))
      ];
      children = λ i h v e. elim (o.children i h v e) [
        | inl x ↦ elim x [
          | inl b ↦ elim b [
            | inl d ↦ inl (inl (inl d))
            | inr a ↦ inl (inl (inr (a.0, a.1, λ g c low. a.2 g (joined.kept g c) low)))
          ]
          | inr a ↦ inl (inr (a.0, a.1, a.2, λ g c. a.3 g (joined.kept g c)))
        ]
        | inr e ↦ inl (inl (inr (
          place,
          ap (mark_at marks) (sym e) ∙ is,
          λ g c low. joined.low g c,
        )))
      ];
      source = λ t l. let s = o.source t l in
          (s.0, s.1, s.2, λ g c. s.3 g (joined.kept g c));
      rises = joined.rises;
      bounded = λ g c. o.bounded g (joined.kept g c);
      bottom = λ some. let b = o.bottom some in let zero = b.2 in
          (b.0, joined.left b.0 b.1 (omega arith), b.2);
    }

    -- a new node was taken, and opened in a group of its own
    module _ (inside : target < length marks) (fresh : mark_at marks target ≡ New)
        (lead : (i : ℕ) → i < length trail → Reaches edges (get_or trail i 0) target) where
      abbrev place : ℕ
      place = length trail

      abbrev group : Group
      group = record { first = length trail; ahead = length ahead }

      abbrev new : List Mark
      new = set marks target (Open (length trail))

      abbrev row : List ℕ
      row = row_of edges target

      longer : length (trail ++ target ∷ []) ≡ place + 1
      longer = length-append trail (target ∷ [])

      further : length (ahead ++ row) ≡ length ahead + length row
      further = length-append ahead row

      at : (i : ℕ) → i < place → get_or (trail ++ target ∷ []) i 0 ≡ get_or trail i 0
      at i l = get_or_append_left trail (target ∷ []) 0 i l

      at_last : (i : ℕ) → place ≡ i → get_or (trail ++ target ∷ []) i 0 ≡ target
      at_last i e = get_or_push trail target 0 i e

      now_open : mark_at new target ≡ Open place
      now_open = get_or-set_same marks target (Open place) New inside

      -- the new group is the last: nothing older is beside it
      older_level : (i j : ℕ) → i < place → IsLevel groups i j → IsLevel (groups ++ group ∷ []) i j
      older_level i j l level g c low = elim (Contains-push_cases groups group g c) [
        | inl h ↦ level g h low
        | inr e ↦ let same : place ≡ g.first = ap (λ (z : Group). z.first) e in absurd (omega arith)
      ]

      older_beside : (i t : ℕ) → i < place → t < length ahead → IsBeside groups i t →
          IsBeside (groups ++ group ∷ []) i t
      older_beside i t l m beside g c = elim (Contains-push_cases groups group g c) [
        | inl h ↦ beside g h
        | inr e ↦
            let same : place ≡ g.first = ap (λ (z : Group). z.first) e in
            let too : length ahead ≡ g.ahead = ap (λ (z : Group). z.ahead) e in
            (λ low. absurd (omega arith), λ low. absurd (omega arith))
      ]

      newer_level : (i : ℕ) → IsLevel (groups ++ group ∷ []) i place
      newer_level i g c low = elim (Contains-push_cases groups group g c) [
        | inl h ↦ let b = (o.bounded g h).0 in omega arith
        | inr e ↦ let same : place ≡ g.first = ap (λ (z : Group). z.first) e in omega arith
      ]

      newer_beside : (i t : ℕ) → i ≡ place → length ahead ≤ t → IsBeside (groups ++ group ∷ []) i t
      newer_beside i t is m g c = elim (Contains-push_cases groups group g c) [
        | inl h ↦
            let b = (o.bounded g h).0 in
            let d = (o.bounded g h).1 in
            (λ low. omega arith, λ low. omega arith)
        | inr e ↦
            let same : place ≡ g.first = ap (λ (z : Group). z.first) e in
            let too : length ahead ≡ g.ahead = ap (λ (z : Group). z.ahead) e in
            (λ low. omega arith, λ low. omega arith)
      ]

      placed : (i : ℕ) → i < length (trail ++ target ∷ []) →
          mark_at new (get_or (trail ++ target ∷ []) i 0) ≡ Open i
      placed i h = elim (less_or i place) [
        | inl l ↦ ap (mark_at new) (at i l)
            ∙ opened_open marks target place inside fresh (get_or trail i 0) i (o.places.placed i l)
        | inr l ↦
            let e : place ≡ i = omega (arith, longer, further) in
            ap (mark_at new) (at_last i e) ∙ (now_open ∙ ap (λ n. Open n) e)
      ]

      listed : (u i : ℕ) → mark_at new u ≡ Open i → (i < length (trail ++ target ∷ []))
          × (get_or (trail ++ target ∷ []) i 0 ≡ u)
      listed u i e = elim (set_marks marks target (Open place) inside u) [
        | inl s ↦
            let same : place ≡ i = same_place (sym s.1 ∙ e) in
            (omega (arith, longer, further), at_last i same ∙ sym s.0)
        | inr s ↦
            let old = o.places.listed u i (sym s.1 ∙ e) in
            let l = old.0 in
            (omega (arith, longer, further), at i l ∙ old.1)
      ]

      leads : (i j : ℕ) → i < length (trail ++ target ∷ []) → j < length (trail ++ target ∷ []) →
          IsLevel (groups ++ group ∷ []) i j →
          Reaches edges (get_or (trail ++ target ∷ []) i 0) (get_or (trail ++ target ∷ []) j 0)
      leads i j hi hj level = elim (less_or i place) [
        | inl li ↦ subst (λ n. Reaches edges n (get_or (trail ++ target ∷ []) j 0)) (sym (at i li))
            (elim (less_or j place) [
              | inl lj ↦ subst (λ n. Reaches edges (get_or trail i 0) n) (sym (at j lj))
                  (o.leads i j li lj (λ g c low. level g
                  (Contains-append_left groups (group ∷ []) g c) low))
              | inr lj ↦ subst (λ n. Reaches edges (get_or trail i 0) n)
                  (sym (at_last j (omega (arith, longer, further)))) (lead i li)
            ])
        | inr li ↦ elim (less_or j place) [
          | inl lj ↦
              let high = level group (Contains-push groups group) li in
              absurd (omega (arith, longer, further))
          | inr lj ↦ subst (λ n. Reaches edges n (get_or (trail ++ target ∷ []) j 0))
              (sym (at_last i (omega (arith, longer, further))))
              (subst (λ n. Reaches edges target n)
              (sym (at_last j (omega (arith, longer, further)))) here)
        ]
      ]

      children : (i : ℕ) → i < length (trail ++ target ∷ []) → (v : ℕ) →
          Contains (row_of edges (get_or (trail ++ target ∷ []) i 0)) v →
          (IsBehind new (groups ++ group ∷ []) i v
          ⊎ IsAhead (ahead ++ row) (groups ++ group ∷ []) i v)
          ⊎ ⊥
      children i h v e = elim (less_or i place) [
        | inl l ↦ elim (o.children i l v (subst (λ n. Contains (row_of edges n) v) (at i l) e)) [
          | inl x ↦ elim x [
            | inl b ↦ elim b [
              | inl d ↦ inl (inl (inl
                  (d.0, opened_done marks target place inside fresh v d.0 d.1)))
              | inr a ↦ inl (inl (inr (
                a.0,
                opened_open marks target place inside fresh v a.0 a.1,
                older_level i a.0 l a.2,
              )))
            ]
            | inr a ↦ let t = a.1 in inl (inr (
              a.0,
              omega (arith, longer, further),
              get_or_append_left ahead row 0 a.0 a.1 ∙ a.2,
              older_beside i a.0 l a.1 a.3,
            ))
          ]
          | inr is ↦ inl (inl (inr (
            place,
            ap (mark_at new) (sym is) ∙ now_open,
            newer_level i,
          )))
        ]
        | inr l ↦
            let last : place ≡ i = omega (arith, longer, further) in
            let k = subst (λ n. Contains (row_of edges n) v) (at_last i last) e in
            let less = k.1 in
            inl (inr (
              length ahead + k.0,
              omega (arith, longer, further),
              get_or-append-add ahead row k.0 0
                  ∙ (sym (get_or_default_zero row k.0 v k.1) ∙ k.2),
              newer_beside i (length ahead + k.0) (sym last) (omega (arith, longer, further)),
            ))
      ]

      source : (t : ℕ) → t < length (ahead ++ row) → (i : ℕ)
          × (i < length (trail ++ target ∷ []))
          × Contains (row_of edges (get_or (trail ++ target ∷ []) i 0)) (get_or (ahead ++ row) t 0)
          × IsBeside (groups ++ group ∷ []) i t
      source t h = elim (less_or t (length ahead)) [
        | inl l ↦
            let s = o.source t l in
            let m = s.1 in (
              s.0,
              omega (arith, longer, further),
              subst (λ n. Contains (row_of edges n) (get_or (ahead ++ row) t 0)) (sym (at s.0 m))
                  (subst (λ n. Contains (row_of edges (get_or trail s.0 0)) n)
                  (sym (get_or_append_left ahead row 0 t l)) s.2),
              older_beside s.0 t m l s.3,
            )
        | inr l ↦ (
          place,
          omega (arith, longer, further),
          subst (λ n. Contains (row_of edges n) (get_or (ahead ++ row) t 0))
              (sym (at_last place refl))
              (subst (λ n. Contains row n)
              (sym (get_or-append_right ahead row (length ahead) t 0 refl l))
              (Contains-get_or row (t - length ahead) 0 (omega (arith, longer, further)))),
          newer_beside place t refl l,
        )
      ]

      pub target_opened : Opened edges new (trail ++ target ∷ []) (ahead ++ row)
          (groups ++ group ∷ []) (λ v. ⊥)
      target_opened = record {
        places = record { placed = placed; listed = listed };
        leads = leads;
        children = children;
        source = source;
        rises = rises_push groups group o.rises o.bounded;
        bounded = λ g c. elim (Contains-push_cases groups group g c) [
          | inl h ↦
              let b = (o.bounded g h).0 in
              let d = (o.bounded g h).1 in
              (omega (arith, longer, further), omega (arith, longer, further))
          | inr e ↦
              let same : place ≡ g.first = ap (λ (z : Group). z.first) e in
              let too : length ahead ≡ g.ahead = ap (λ (z : Group). z.ahead) e in
              (omega (arith, longer, further), omega (arith, longer, further))
        ];
        bottom = λ some. elim (less_or 0 place) [
          | inl l ↦ let b = o.bottom l in
              (b.0, Contains-append_left groups (group ∷ []) b.0 b.1, b.2)
          | inr l ↦ (group, Contains-push groups group, omega (arith, longer, further))
        ];
      }
