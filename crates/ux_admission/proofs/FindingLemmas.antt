-- A search that looks at each pair once finds those that follow, and no others.
use Rattle.std.proofs.Common.{arith, ◌≡◌, ℕ, zero, suc, ◌+◌, ◌<◌, ◌≤◌, List, [], ◌∷◌, ◌++◌, length, refl, ap, subst, sym, ◌∙◌, ◌⊎◌, inl, inr, ◌↔◌, get_or, set, true}
use Rattle.std.specs.Prelude.{Contains, Some, slice_get, Result, Ok, Err, OnOk}
use Rattle.std.proofs.lemmas.List.{get_or_default, get_or-set_same, get_or-set_other}
use Rattle.std.proofs.lemmas.List.Elements.{Contains-get_or, Contains-append_left, Contains-append_right, Contains-push, Contains-push_cases}
use Rattle.std.proofs.lemmas.Option.{slice_get-get_or, slice_get_within, get_or_from_slice_get}
use Rattle.ux_digraph.specs.Paths.{row_of}
use Rattle.ux_base.proofs.Lists.{nothing_in, contains_first, contains_later, same_or}
use Rattle.ux_admission.specs.declared.closers.Pair.{Pair}
use Rattle.ux_admission.specs.declared.leading.Leading.{Leading}
use Rattle.ux_admission.specs.Finding.{Finds, pair_of, AreRowsOf, AreJumps, Jumps, IsLooked, IsFinding}
use Rattle.ux_admission.specs.Gains.{SoBelow}
use Rattle.ux_admission.specs.Leading.{is_noted, no_marks, IsLeadingInside, Leads, Opens, Closes, closed, goes_on, jumps, AreClosersIn}
use Rattle.ux_net.specs.Words.{Sign, Mark, ordinary, opens, closes}
use Rattle.ux_admission.proofs.FindsLemmas.{finds_as, finds_old, finds_so}

-- what stands in a list stands at a place of it
at_place : (pairs : List Pair) (p : Pair) → Contains pairs p →
    (k : ℕ) × (k < length pairs) × (slice_get pairs k ≡ Some p)
at_place pairs p h = (h.0, h.1, slice_get-get_or pairs h.0 p h.1 ∙ ap Some h.2)

-- what stands at a place of a list stands in it
among : (pairs : List Pair) (k : ℕ) (p : Pair) → slice_get pairs k ≡ Some p → Contains pairs p
among pairs k p h = (k, slice_get_within pairs k p h, get_or_from_slice_get pairs k p p h)

-- one more item at the end of a row
row_put : (rows : List (List ℕ)) (u v : ℕ) → u < length rows → (a c : ℕ) →
    Contains (row_of (set rows u (row_of rows u ++ v ∷ [])) a) c ↔
    (Contains (row_of rows a) c ⊎ ((a ≡ u) × (c ≡ v)))
row_put rows u v inside a c = elim (same_or a u) [
  | inl e ↦
      let row : row_of (set rows u (row_of rows u ++ v ∷ [])) a ≡ row_of rows u ++ v ∷ [] =
      ap (λ n. row_of (set rows u (row_of rows u ++ v ∷ [])) n) e
      ∙ get_or-set_same rows u (row_of rows u ++ v ∷ []) [] inside in (
        λ h. elim (Contains-push_cases (row_of rows u) v c
            (subst (λ (r : List ℕ). Contains r c) row h)) [
              | inl o ↦ inl (subst (λ n. Contains (row_of rows n) c) (sym e) o)
              | inr s ↦ inr (e, sym s)
            ],
        λ h. subst (λ (r : List ℕ). Contains r c) (sym row) (elim h [
          | inl o ↦ Contains-append_left (row_of rows u) (v ∷ []) c
              (subst (λ n. Contains (row_of rows n) c) e o)
          | inr s ↦ subst (λ n. Contains (row_of rows u ++ v ∷ []) n) (sym s.1)
              (Contains-push (row_of rows u) v)
        ]),
      )
  | inr n ↦
      let row : row_of (set rows u (row_of rows u ++ v ∷ [])) a ≡ row_of rows a =
      get_or-set_other rows u a (row_of rows u ++ v ∷ []) [] n in (
        λ h. inl (subst (λ (r : List ℕ). Contains r c) row h),
        λ h. subst (λ (r : List ℕ). Contains r c) (sym row) (elim h [
          | inl o ↦ o
          | inr s ↦ absurd (n s.0)
        ]),
      )
]

-- the rows of pairs that were there and one more
pub rows_added : (pairs more : List Pair) (rows after : List (List ℕ)) (p : Pair) →
    p.place < length rows → more ≡ pairs ++ p ∷ [] →
    after ≡ set rows p.place (row_of rows p.place ++ p.closer ∷ []) →
    AreRowsOf pairs rows → AreRowsOf more after
rows_added pairs more rows after p inside grown is old = λ a c.
    let put = row_put rows p.place p.closer inside a c in (
      λ h. subst (λ (ps : List Pair). Contains ps (pair_of a c)) (sym grown)
          (elim (put.0 (subst (λ (rs : List (List ℕ)). Contains (row_of rs a) c) is h)) [
            | inl o ↦ Contains-append_left pairs (p ∷ []) (pair_of a c) ((old a c).0 o)
            | inr s ↦ subst (λ (q : Pair). Contains (pairs ++ p ∷ []) q)
                (ap (λ n. pair_of n p.closer) (sym s.0) ∙ ap (λ n. pair_of a n) (sym s.1))
                (Contains-push pairs p)
          ]),
      λ h. subst (λ (rs : List (List ℕ)). Contains (row_of rs a) c) (sym is) (put.1
          (elim (Contains-push_cases pairs p (pair_of a c)
          (subst (λ (ps : List Pair). Contains ps (pair_of a c)) grown h)) [
            | inl o ↦ inl ((old a c).1 o)
            | inr e ↦ inr (
              sym (ap (λ (q : Pair). q.place) e),
              sym (ap (λ (q : Pair). q.closer) e),
            )
          ])),
    )

-- the rows of the same pairs
pub rows_same : (pairs more : List Pair) (rows : List (List ℕ)) → more ≡ pairs →
    AreRowsOf pairs rows → AreRowsOf more rows
rows_same pairs more rows is old =
    subst (λ (ps : List Pair). AreRowsOf ps rows) (sym is) old

-- one more source jumps to the place
pub jumps_put : (old now after : List (List ℕ)) (to source : ℕ) (sources : List ℕ) (k : ℕ) →
    to < length now → after ≡ set now to (row_of now to ++ source ∷ []) →
    ((a c : ℕ) → Contains (row_of now c) a ↔
    (Contains (row_of old c) a ⊎ ((c ≡ to) × SoBelow k (λ j x. get_or sources j 0 ≡ x) a))) →
    source ≡ get_or sources k 0 → (a c : ℕ) → Contains (row_of after c) a ↔
    (Contains (row_of old c) a ⊎ ((c ≡ to) × SoBelow (k + 1) (λ j x. get_or sources j 0 ≡ x) a))
jumps_put old now after to source sources k inside is before e a c =
    let put = row_put now to source inside c a in (
      λ h. elim (put.0 (subst (λ (rs : List (List ℕ)). Contains (row_of rs c) a) is h)) [
        | inl o ↦ elim ((before a c).0 o) [
          | inl p ↦ inl p
          | inr s ↦ let l = s.1.1 in inr (s.0, (s.1.0, omega arith, s.1.2))
        ]
        | inr s ↦ inr (s.0, (k, omega arith, sym e ∙ sym s.1))
      ],
      λ h. subst (λ (rs : List (List ℕ)). Contains (row_of rs c) a) (sym is) (put.1 (elim h [
        | inl p ↦ inl ((before a c).1 (inl p))
        | inr s ↦ elim (same_or s.1.0 k) [
          | inl same ↦ inr (
            s.0,
            sym s.1.2 ∙ (ap (λ n. get_or sources n 0) same ∙ sym e),
          )
          | inr n ↦ let l = s.1.1 in
              inl ((before a c).1 (inr (s.0, (s.1.0, omega arith, s.1.2))))
        ]
      ])),
    )

-- all sources do
pub jumps_done : (old after : List (List ℕ)) (to : ℕ) (sources : List ℕ) (k : ℕ) →
    k ≤ length sources → length sources ≤ k →
    ((a c : ℕ) → Contains (row_of after c) a ↔
    (Contains (row_of old c) a ⊎ ((c ≡ to) × SoBelow k (λ j x. get_or sources j 0 ≡ x) a))) →
    AreJumps old after to sources
jumps_done old after to sources k most least before = λ a c. (
  λ h. elim ((before a c).0 h) [
    | inl p ↦ inl p
    | inr s ↦ let l = s.1.1 in inr (
      s.0,
      subst (λ x. Contains sources x) s.1.2 (Contains-get_or sources s.1.0 0 (omega arith)),
    )
  ],
  λ h. elim h [
    | inl p ↦ (before a c).1 (inl p)
    | inr s ↦ let l = s.1.1 in (before a c).1 (inr (
      s.0,
      (s.1.0, omega arith, get_or_default sources s.1.0 0 a s.1.1 ∙ s.1.2),
    ))
  ],
)

-- the pairs of each source with the closer
pub finds_each : (old new : List Pair) (sources : List ℕ) (closer k : ℕ) → k ≤ length sources →
    length sources ≤ k →
    Finds old new (SoBelow k (λ j p. pair_of (get_or sources j 0) closer ≡ p)) →
    Finds old new (λ p. Contains sources p.place × (p.closer ≡ closer))
finds_each old new sources closer k most least finds =
    finds_as old new (SoBelow k (λ j p. pair_of (get_or sources j 0) closer ≡ p))
    (λ p. Contains sources p.place × (p.closer ≡ closer)) (λ p. (
      λ s. let l = s.1 in (
        subst (λ x. Contains sources x) (ap (λ (q : Pair). q.place) s.2)
            (Contains-get_or sources s.0 0 (omega arith)),
        sym (ap (λ (q : Pair). q.closer) s.2),
      ),
      λ s. let l = s.0.1 in (
        s.0.0,
        omega arith,
        ap (λ n. pair_of n closer)
            (get_or_default sources s.0.0 0 p.place s.0.1 ∙ s.0.2)
            ∙ ap (λ n. pair_of p.place n) (sym s.1),
      ),
    )) finds

-- the pairs of each source with each closer
pub finds_all : (old new : List Pair) (sources closers : List ℕ) (k : ℕ) → k ≤ length closers →
    length closers ≤ k →
    Finds old new
    (SoBelow k (λ j p. Contains sources p.place × (p.closer ≡ get_or closers j 0))) →
    Finds old new (λ p. Contains sources p.place × Contains closers p.closer)
finds_all old new sources closers k most least finds =
    finds_as old new
    (SoBelow k (λ j p. Contains sources p.place × (p.closer ≡ get_or closers j 0)))
    (λ p. Contains sources p.place × Contains closers p.closer) (λ p. (
      λ s. let l = s.1 in (
        s.2.0,
        subst (λ x. Contains closers x) (sym s.2.1)
            (Contains-get_or closers s.0 0 (omega arith)),
      ),
      λ s. let l = s.1.1 in (
        s.1.0,
        omega arith,
        (s.0, sym (get_or_default closers s.1.0 0 p.closer s.1.1 ∙ s.1.2)),
      ),
    )) finds

-- the pairs of each source with those of which a place is one
pub finds_over : (old new : List Pair) (rows : List (List ℕ)) (sources closers : List ℕ)
    (to : ℕ) → AreRowsOf old rows → closers ≡ row_of rows to →
    Finds old new (λ p. Contains sources p.place × Contains closers p.closer) →
    Finds old new (λ p. Contains sources p.place × Contains old (pair_of to p.closer))
finds_over old new rows sources closers to are is finds =
    finds_as old new (λ p. Contains sources p.place × Contains closers p.closer)
    (λ p. Contains sources p.place × Contains old (pair_of to p.closer)) (λ p. (
      λ s. (
        s.0,
        (are to p.closer).0 (subst (λ (row : List ℕ). Contains row p.closer) is s.1),
      ),
      λ s. (
        s.0,
        subst (λ (row : List ℕ). Contains row p.closer) (sym is) ((are to p.closer).1 s.1),
      ),
    )) finds

-- no rows have the pairs of none
pub rows_none : (pairs : List Pair) (rows : List (List ℕ)) → ((p : Pair) → Contains pairs p → ⊥) →
    ((a : ℕ) → row_of rows a ≡ []) → AreRowsOf pairs rows
rows_none pairs rows none empty = λ a c. (
  λ h. absurd (nothing_in {x = c} (subst (λ (row : List ℕ). Contains row c) (empty a) h)),
  λ h. absurd (none (pair_of a c) h),
)

-- an item of a row stands in a row that is there
pub row_inside : (rows : List (List ℕ)) (u v : ℕ) → Contains (row_of rows u) v → u < length rows
row_inside [] u v h = absurd (nothing_in {x = v} h)
row_inside (row ∷ rows) zero v h = omega arith
row_inside (row ∷ rows) (suc u) v h =
    let l = row_inside rows u v h in omega arith

module _ (leading : Leading) where
  -- the pairs of the sources of a place that has such a line
  pub finds_led : (mark : Mark) (old new : List Pair) (sources : List ℕ) (n closer : ℕ) →
      sources ≡ row_of leading.sources.items n →
      is_noted mark (get_or leading.marks.items n no_marks) ≡ true →
      Finds old new (λ p. Contains sources p.place × (p.closer ≡ closer)) →
      Finds old new (λ p. Leads leading mark p.place n × (p.closer ≡ closer))
  finds_led mark old new sources n closer is noted finds =
      finds_as old new (λ p. Contains sources p.place × (p.closer ≡ closer))
      (λ p. Leads leading mark p.place n × (p.closer ≡ closer)) (λ p. (
        λ s. ((subst (λ (row : List ℕ). Contains row p.place) is s.0, noted), s.1),
        λ s. (subst (λ (row : List ℕ). Contains row p.place) (sym is) s.0.0, s.1),
      )) finds

  -- the steps that close, of all places
  pub finds_closing : (old new : List Pair) (k : ℕ) → length leading.sources.items ≤ k →
      Finds old new (SoBelow k (λ c p. Leads leading closes p.place c × (p.closer ≡ c))) →
      Finds old new (λ p. Leads leading closes p.place p.closer)
  finds_closing old new k least finds =
      finds_as old new (SoBelow k (λ c p. Leads leading closes p.place c × (p.closer ≡ c)))
      (λ p. Leads leading closes p.place p.closer) (λ p. (
        λ s. subst (λ n. Leads leading closes p.place n) (sym s.2.1) s.2.0,
        λ s.
            let inside = row_inside leading.sources.items p.closer p.place s.0 in
            (p.closer, omega arith, (s, refl)),
      )) finds

  -- the pairs of the sources of a place that has an opening line
  pub finds_opened : (old new : List Pair) (sources : List ℕ) (n to : ℕ) →
      sources ≡ row_of leading.sources.items n →
      ((sign : Sign) × (is_noted (opens sign) (get_or leading.marks.items n no_marks) ≡ true)) →
      Finds old new (λ p. Contains sources p.place × Contains old (pair_of to p.closer)) →
      Finds old new (λ p. Opens leading p.place n × Contains old (pair_of to p.closer))
  finds_opened old new sources n to is noted finds =
      finds_as old new (λ p. Contains sources p.place × Contains old (pair_of to p.closer))
      (λ p. Opens leading p.place n × Contains old (pair_of to p.closer)) (λ p. (
        λ s. (
          (noted.0, (subst (λ (row : List ℕ). Contains row p.place) is s.0, noted.1)),
          s.1,
        ),
        λ s. (subst (λ (row : List ℕ). Contains row p.place) (sym is) s.0.1.0, s.1),
      )) finds

  -- and their jumps
  pub jumps_opened : (old new : List (List ℕ)) (sources : List ℕ) (n to : ℕ) →
      sources ≡ row_of leading.sources.items n →
      ((sign : Sign) × (is_noted (opens sign) (get_or leading.marks.items n no_marks) ≡ true)) →
      AreJumps old new to sources → (a d : ℕ) → Contains (row_of new d) a ↔
      (Contains (row_of old d) a ⊎ ((d ≡ to) × Opens leading a n))
  jumps_opened old new sources n to is noted are a d = (
    λ h. elim ((are a d).0 h) [
      | inl o ↦ inl o
      | inr s ↦ inr (
        s.0,
        (noted.0, (subst (λ (row : List ℕ). Contains row a) is s.1, noted.1)),
      )
    ],
    λ h. elim h [
      | inl o ↦ (are a d).1 (inl o)
      | inr s ↦ (are a d).1 (inr (
        s.0,
        subst (λ (row : List ℕ). Contains row a) (sym is) s.1.1.0,
      ))
    ],
  )

  -- what closes is inside
  pub closes_inside : IsLeadingInside leading → {a c : ℕ} → Closes leading a c →
      (a < length leading.sources.items) × (c < length leading.sources.items)
  closes_inside inside (closed {a = a} {c = c} l) =
      (inside.source a c l.0, row_inside leading.sources.items c a l.0)
  closes_inside inside (goes_on {a = a} {b = b} l r) =
      (inside.source a b l.0, (closes_inside inside r).1)
  closes_inside inside (jumps {a = a} {o = o} q p r) =
      (inside.source a o q.1.0, (closes_inside inside r).1)

  -- before the first pair is looked at
  pub finding_begins : (pairs begun : List Pair) (rows jumping : List (List ℕ)) →
      ((p : Pair) → Contains pairs p → ⊥) →
      Finds pairs begun (λ p. Leads leading closes p.place p.closer) →
      AreRowsOf begun rows → ((d : ℕ) → row_of jumping d ≡ []) →
      length rows ≡ length leading.sources.items → length jumping ≡ length leading.sources.items →
      IsFinding leading begun rows jumping 0
  finding_begins pairs begun rows jumping none finds are empty rows_len jumps_len = record {
    rows_len = rows_len;
    jumps_len = jumps_len;
    are_rows = are;
    sound = record {
      of_pairs = λ p h. elim ((finds.gains p).0 h) [
        | inl o ↦ absurd (none p o)
        | inr l ↦ closed l
      ];
      of_jumps = λ a d h. absurd (nothing_in {x = a}
          (subst (λ (row : List ℕ). Contains row a) (empty d) h));
    };
    begun = finds_so pairs begun (λ p. Leads leading closes p.place p.closer) finds;
    looked = λ k p l h. absurd (omega (arith, l));
  }

  module _ (pairs stepped joined done : List Pair) (rows jumping : List (List ℕ))
      (after jumped : List (List ℕ)) (next : ℕ) (here : Pair)
      (at : slice_get pairs next ≡ Some here) (old : IsFinding leading pairs rows jumping next)
      (first : Finds pairs stepped
      (λ p. Leads leading ordinary p.place here.place × (p.closer ≡ here.closer)))
      (second : Finds stepped joined
      (λ p. Opens leading p.place here.place × Contains stepped (pair_of here.closer p.closer)))
      (noted : (a d : ℕ) → Contains (row_of jumped d) a ↔
      (Contains (row_of jumping d) a ⊎ ((d ≡ here.closer) × Opens leading a here.place)))
      (third : Finds joined done
      (λ p. Contains (row_of jumped here.place) p.place × (p.closer ≡ here.closer))) where
    kept_joined : (p : Pair) → Contains stepped p → Contains joined p
    kept_joined p h = finds_old stepped joined
        (λ p. Opens leading p.place here.place × Contains stepped (pair_of here.closer p.closer))
        second p h

    kept_done : (p : Pair) → Contains joined p → Contains done p
    kept_done p h = finds_old joined done
        (λ p. Contains (row_of jumped here.place) p.place × (p.closer ≡ here.closer)) third p h

    kept_stepped : (p : Pair) → Contains pairs p → Contains stepped p
    kept_stepped p h = finds_old pairs stepped
        (λ p. Leads leading ordinary p.place here.place × (p.closer ≡ here.closer)) first p h

    kept : (p : Pair) → Contains pairs p → Contains done p
    kept p h = kept_done p (kept_joined p (kept_stepped p h))

    here_closes : Closes leading here.place here.closer
    here_closes = old.sound.of_pairs here (among pairs next here at)

    stepped_sound : (p : Pair) → Contains stepped p → Closes leading p.place p.closer
    stepped_sound p h = elim ((first.gains p).0 h) [
      | inl o ↦ old.sound.of_pairs p o
      | inr s ↦ goes_on s.0 (subst (λ n. Closes leading here.place n) (sym s.1) here_closes)
    ]

    joined_sound : (p : Pair) → Contains joined p → Closes leading p.place p.closer
    joined_sound p h = elim ((second.gains p).0 h) [
      | inl o ↦ stepped_sound p o
      | inr s ↦ jumps s.0 here_closes (stepped_sound (pair_of here.closer p.closer) s.1)
    ]

    jumped_sound : (a d : ℕ) → Contains (row_of jumped d) a → Jumps leading a d
    jumped_sound a d h = elim ((noted a d).0 h) [
      | inl o ↦ old.sound.of_jumps a d o
      | inr s ↦
          (here.place, s.1, subst (λ n. Closes leading here.place n) (sym s.0) here_closes)
    ]

    done_sound : (p : Pair) → Contains done p → Closes leading p.place p.closer
    done_sound p h = elim ((third.gains p).0 h) [
      | inl o ↦ joined_sound p o
      | inr s ↦
          let j = jumped_sound p.place here.place s.0 in
          jumps j.1 j.2 (subst (λ n. Closes leading here.place n) (sym s.1) here_closes)
    ]

    -- what was looked at before, with the new jumps
    looked_before : (p : Pair) → Contains pairs p → IsLooked leading pairs jumping p →
        IsLooked leading done jumped p
    looked_before p there l = record {
      steps = λ a q. kept (pair_of a p.closer) (l.steps a q);
      opens = λ a q. (noted a p.closer).1 (inl (l.opens a q));
      jumped = λ a q. elim ((noted a p.place).0 q) [
        | inl o ↦ kept (pair_of a p.closer) (l.jumped a o)
        | inr s ↦ kept_done (pair_of a p.closer)
            (finds_so stepped joined
            (λ p. Opens leading p.place here.place
            × Contains stepped (pair_of here.closer p.closer)) second (pair_of a p.closer) (
              s.1,
              subst (λ n. Contains stepped (pair_of n p.closer)) s.0 (kept_stepped p there),
            ))
      ];
    }

    -- what is looked at now
    looked_here : IsLooked leading done jumped here
    looked_here = record {
      steps = λ a q. kept_done (pair_of a here.closer) (kept_joined (pair_of a here.closer)
          (finds_so pairs stepped
          (λ p. Leads leading ordinary p.place here.place × (p.closer ≡ here.closer)) first
          (pair_of a here.closer) (q, refl)));
      opens = λ a q. (noted a here.closer).1 (inr (refl, q));
      jumped = λ a q. finds_so joined done
          (λ p. Contains (row_of jumped here.place) p.place × (p.closer ≡ here.closer)) third
          (pair_of a here.closer) (q, refl);
    }

    kept_at : (k : ℕ) (p : Pair) → slice_get pairs k ≡ Some p → slice_get done k ≡ Some p
    kept_at k p h = third.kept k p (second.kept k p (first.kept k p h))

    same_at : (k : ℕ) (p q : Pair) → slice_get pairs k ≡ Some q → slice_get done k ≡ Some p → q ≡ p
    same_at k p q h l =
        let both : Some q ≡ Some p = sym (kept_at k q h) ∙ l in cc

    before : (k : ℕ) (p : Pair) → k < next → slice_get done k ≡ Some p →
        IsLooked leading done jumped p
    before k p l h =
        let within = slice_get_within pairs next here at in
        let q = get_or pairs k p in
        let there : slice_get pairs k ≡ Some q = slice_get-get_or pairs k p (omega arith) in
        subst (λ (x : Pair). IsLooked leading done jumped x) (same_at k p q there h)
        (looked_before q (among pairs k q there) (old.looked k q l there))

    pub finding_goes_on : AreRowsOf done after → length after ≡ length rows →
        length jumped ≡ length jumping → IsFinding leading done after jumped (next + 1)
    finding_goes_on are rows_len jumps_len = record {
      rows_len = rows_len ∙ old.rows_len;
      jumps_len = jumps_len ∙ old.jumps_len;
      are_rows = are;
      sound = record { of_pairs = done_sound; of_jumps = jumped_sound };
      begun = λ p l. kept p (old.begun p l);
      looked = λ k p l h. elim (same_or k next) [
        | inl e ↦ subst (λ (x : Pair). IsLooked leading done jumped x)
            (same_at next p here at (subst (λ n. slice_get done n ≡ Some p) e h)) looked_here
        | inr n ↦ before k p (omega arith) h
      ];
    }

  -- each pair that follows is there
  all_found : (pairs : List Pair) (rows jumping : List (List ℕ)) (next : ℕ) →
      IsFinding leading pairs rows jumping next → length pairs ≤ next → {a c : ℕ} →
      Closes leading a c → Contains pairs (pair_of a c)
  all_found pairs rows jumping next f past (closed {a = a} {c = c} l) = f.begun (pair_of a c) l
  all_found pairs rows jumping next f past (goes_on {a = a} {b = b} {c = c} l r) =
      let p = at_place pairs (pair_of b c) (all_found pairs rows jumping next f past r) in
      let within = p.1 in
      (f.looked p.0 (pair_of b c) (omega arith) p.2).steps a l
  all_found pairs rows jumping next f past (jumps {a = a} {o = o} {d = d} {c = c} q i r) =
      let p = at_place pairs (pair_of o d) (all_found pairs rows jumping next f past i) in
      let within = p.1 in
      let t = at_place pairs (pair_of d c) (all_found pairs rows jumping next f past r) in
      let there = t.1 in
      (f.looked t.0 (pair_of d c) (omega arith) t.2).jumped a
      ((f.looked p.0 (pair_of o d) (omega arith) p.2).opens a q)

  -- when all pairs were looked at, their rows are the closers
  pub finding_ends : (pairs : List Pair) (rows jumping : List (List ℕ)) (next : ℕ) →
      IsFinding leading pairs rows jumping next → length pairs ≤ next →
      AreClosersIn leading rows
  finding_ends pairs rows jumping next f past = record {
    len = f.rows_len;
    row = λ a c. (
      λ h. f.sound.of_pairs (pair_of a c) ((f.are_rows a c).0 h),
      λ l. (f.are_rows a c).1 (all_found pairs rows jumping next f past l),
    );
  }

-- all pairs of places below n
abbrev row : ℕ → ℕ → List Pair
row a zero = []
row a (suc n) = pair_of a n ∷ row a n

abbrev pub box : (count n : ℕ) → List Pair
box zero n = []
box (suc count) n = row count n ++ box count n

in_row : (a n c : ℕ) → c < n → Contains (row a n) (pair_of a c)
in_row a zero c h = absurd (omega (arith, h))
in_row a (suc n) c h = elim (same_or c n) [
  | inl e ↦ subst (λ m. Contains (row a (suc n)) (pair_of a m)) (sym e)
      (contains_first (pair_of a n) (row a n))
  | inr apart ↦ contains_later (pair_of a n) (row a n) (pair_of a c) (in_row a n c (omega arith))
]

-- each pair of places that are there is among all pairs
pub in_box : (count n : ℕ) (p : Pair) → p.place < count → p.closer < n → Contains (box count n) p
in_box zero n p h l = absurd (omega (arith, h))
in_box (suc count) n p h l = elim (same_or p.place count) [
  | inl e ↦ Contains-append_left (row count n) (box count n) p
      (subst (λ a. Contains (row a n) p) e (in_row p.place n p.closer l))
  | inr apart ↦ Contains-append_right (row count n) (box count n) p
      (in_box count n p (omega arith) l)
]

module _ (leading : Leading) (inside : IsLeadingInside leading) (pairs seen : List Pair)
    (rows jumping : List (List ℕ)) (next : ℕ) (same : seen ≡ pairs) (below : next < length pairs)
    (finding : IsFinding leading pairs rows jumping next) where
  -- the pair that is looked at
  abbrev pub pair_at : Pair
  pair_at = get_or seen next (pair_of 0 0)

  pub pair_there : slice_get pairs next ≡ Some pair_at
  pair_there = subst (λ (ps : List Pair). slice_get pairs next ≡ Some (get_or ps next (pair_of 0 0)))
      (sym same) (slice_get-get_or pairs next (pair_of 0 0) below)

  -- is one of two places that are there
  pub pair_inside : (pair_at.place < length leading.sources.items)
      × (pair_at.closer < length leading.sources.items)
  pair_inside = closes_inside leading inside
      (finding.sound.of_pairs pair_at (among pairs next pair_at pair_there))

  -- the places that jump to it are there
  pub jumps_inside : (jumped : List (List ℕ)) →
      ((a d : ℕ) → Contains (row_of jumped d) a ↔
      (Contains (row_of jumping d) a ⊎ ((d ≡ pair_at.closer) × Opens leading a pair_at.place))) →
      (a : ℕ) → Contains (row_of jumped pair_at.place) a → a < length leading.sources.items
  jumps_inside jumped noted a h = elim ((noted a pair_at.place).0 h) [
    | inl o ↦
        let j = finding.sound.of_jumps a pair_at.place o in
        inside.source a j.0 j.1.1.0
    | inr s ↦ inside.source a pair_at.place s.1.1.0
  ]

-- three facts where there is a value
pub on_ok_three : {T E P Q R S : Type 0} (r : Result T E) → (P → Q → R → S) → OnOk r P →
    OnOk r Q → OnOk r R → OnOk r S
on_ok_three (Ok x) f p q s = f p q s
on_ok_three (Err e) f p q s = tt

-- each pair is of two places that are there
pub all_inside : (leading : Leading) → IsLeadingInside leading → (pairs : List Pair)
    (rows jumping : List (List ℕ)) (next : ℕ) → IsFinding leading pairs rows jumping next →
    (p : Pair) → Contains pairs p → (p.place < length leading.sources.items)
    × (p.closer < length leading.sources.items)
all_inside leading inside pairs rows jumping next finding p h =
    closes_inside leading inside (finding.sound.of_pairs p h)
