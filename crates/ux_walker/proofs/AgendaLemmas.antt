-- Visits that stand by position still do where the least is taken out, or where a front is put at a
-- position.
use Rattle.std.proofs.Common.{arith, ◌≡◌, ℕ, zero, suc, ◌+◌, ◌<◌, ◌≤◌, true, false, List, [], ◌∷◌, ◌++◌, ◌⊎◌, inl, inr, refl, sym, ◌∙◌, ap, subst, length, get_or, take, drop, ltb, set, add-one}
use Rattle.std.proofs.lemmas.Option.{slice_get_within, slice_get-get_or, get_or_from_slice_get}
use Rattle.std.specs.Prelude.{◌↔◌, IfSome, Option, Some, None, Contains, slice_get}
use Rattle.std.specs.Option.{option_to_list}
use Rattle.std.specs.List.{insert}
use Rattle.std.specs.List.{AllWithin}
use Rattle.std.specs.List.Sorted.{IsPartitionedBy}
use Rattle.std.proofs.lemmas.Bool.{ltb-true, ltb-false, lt-ltb}
use Rattle.std.proofs.lemmas.Bool.Decides.{leb_tells}
use Rattle.std.proofs.lemmas.List.Elements.{Contains-get_or, Contains-append_left, Contains-append_right, Contains-append_cases}
use Rattle.std.proofs.lemmas.List.{take-append-drop, set_split, drop_more, drop_all, length-take-le, length-drop, get_or-take, get_or-drop}
use Rattle.ux_walker.specs.declared.agenda.Visit.{Visit}
use Rattle.ux_walker.specs.Agendas.{IsAt, IsFalling, IsFree, IsPlaceOf, Waits, visit_of}

module _ {A : Type 0} where
  pub contains_first : (x : A) (xs : List A) → Contains (x ∷ xs) x
  contains_first x xs = (0, omega arith, refl)

  pub contains_later : (x : A) (xs : List A) (y : A) → Contains xs y → Contains (x ∷ xs) y
  contains_later x xs y (k, lt, is) = (suc k, omega (arith, lt), is)

  pub first_or_later : (x : A) (xs : List A) (y : A) → Contains (x ∷ xs) y → (y ≡ x) ⊎ Contains xs y
  first_or_later x xs y (zero, lt, is) = inl (sym is)
  first_or_later x xs y (suc k, lt, is) = inr (k, omega (arith, lt), is)

  pub nothing_in : {P : Type 0} (y : A) → Contains [] y → P
  nothing_in y (k, lt, is) = absurd (omega (arith, lt))

  -- an element between others
  pub contains_between : (xs : List A) (x : A) (ys : List A) (y : A) →
      Contains (xs ++ x ∷ ys) y ↔ ((y ≡ x) ⊎ Contains (xs ++ ys) y)
  contains_between xs x ys y = (
    λ h. elim (Contains-append_cases xs (x ∷ ys) y h) [
      | inl left ↦ inr (Contains-append_left xs ys y left)
      | inr right ↦ elim (first_or_later x ys y right) [
        | inl same ↦ inl same
        | inr later ↦ inr (Contains-append_right xs ys y later)
      ]
    ],
    λ h. elim h [
      | inl same ↦ Contains-append_right xs (x ∷ ys) y
          (subst (λ (z : A). Contains (x ∷ ys) z) (sym same) (contains_first x ys))
      | inr old ↦ elim (Contains-append_cases xs ys y old) [
        | inl left ↦ Contains-append_left xs (x ∷ ys) y left
        | inr right ↦ Contains-append_right xs (x ∷ ys) y (contains_later x ys y right)
      ]
    ],
  )

-- the parts of visits that stand by position do so
pub falling_left : (xs ys : List Visit) → IsFalling (xs ++ ys) → IsFalling xs
falling_left [] ys falls = tt
falling_left (x ∷ xs) ys falls = (
  λ other h. falls.0 other (Contains-append_left xs ys other h),
  falling_left xs ys falls.1,
)

pub falling_right : (xs ys : List Visit) → IsFalling (xs ++ ys) → IsFalling ys
falling_right [] ys falls = falls
falling_right (x ∷ xs) ys falls = falling_right xs ys falls.1

-- and the first part comes after the second
pub falling_across : (xs ys : List Visit) → IsFalling (xs ++ ys) → (x y : Visit) → Contains xs x →
    Contains ys y → y.at < x.at
falling_across [] ys falls x y left right = nothing_in x left
falling_across (z ∷ xs) ys falls x y left right = elim (first_or_later z xs x left) [
  | inl same ↦ subst (λ (v : Visit). y.at < v.at) (sym same)
      (falls.0 y (Contains-append_right xs ys y right))
  | inr later ↦ falling_across xs ys falls.1 x y later right
]

-- two parts, of which the first comes after the second
falling_both : (xs ys : List Visit) → IsFalling xs → IsFalling ys →
    ((x y : Visit) → Contains xs x → Contains ys y → y.at < x.at) → IsFalling (xs ++ ys)
falling_both [] ys left right across = right
falling_both (x ∷ xs) ys left right across = (
  λ other h. elim (Contains-append_cases xs ys other h) [
    | inl early ↦ left.0 other early
    | inr late ↦ across x other (contains_first x xs) late
  ],
  falling_both xs ys left.1 right
      (λ y z early late. across y z (contains_later x xs y early) late),
)

-- a visit between those after its position and those before it
pub falling_between : (xs : List Visit) (visit : Visit) (ys : List Visit) → IsFalling xs →
    IsFalling ys → ((x : Visit) → Contains xs x → visit.at < x.at) →
    ((y : Visit) → Contains ys y → y.at < visit.at) → IsFalling (xs ++ visit ∷ ys)
falling_between xs visit ys left right after before =
    falling_both xs (visit ∷ ys) left (before, right) (λ x y early late.
    elim (first_or_later visit ys y late) [
      | inl same ↦ subst (λ (v : Visit). v.at < x.at) (sym same) (after x early)
      | inr later ↦ let a = after x early in let b = before y later in omega (arith, a, b)
    ])

-- those after a position stand before the others
falls_at : (visits : List Visit) (i j : ℕ) (d : Visit) → IsFalling visits → i < j →
    j < length visits → (get_or visits j d).at < (get_or visits i d).at
falls_at [] i j d falls lt within = absurd (omega (arith, within))
falls_at (visit ∷ visits) zero (suc j) d falls lt within =
    falls.0 (get_or visits j d) (Contains-get_or visits j d (omega (arith, within)))
falls_at (visit ∷ visits) (suc i) (suc j) d falls lt within =
    falls_at visits i j d falls.1 (omega (arith, lt)) (omega (arith, within))
falls_at (visit ∷ visits) i zero d falls lt within = absurd (omega (arith, lt))

pub partitioned : (visits : List Visit) (at : ℕ) → IsFalling visits →
    IsPartitionedBy (λ (visit : Visit). ltb at visit.at) visits
partitioned visits at falls i j d le within later = elim (lt_or_same i j le) [
  | inl lt ↦ let down = falls_at visits i j d falls lt within in
      let h = ltb-true at (get_or visits j d).at later in
      lt-ltb at (get_or visits i d).at (omega (arith, down, h))
  | inr same ↦ subst (λ (n : ℕ). ltb at (get_or visits n d).at ≡ true) (sym same) later
]
  where
    lt_or_same : (i j : ℕ) → i ≤ j → (i < j) ⊎ (i ≡ j)
    lt_or_same i j le = elim (leb_tells j i) [ inl a ↦ inr (omega (arith, le, a.1)) | inr b ↦ inl b.1 ]

module _ (visits : List Visit) (place at : ℕ) where
  pub in_front : AllWithin (λ (visit : Visit). ltb at visit.at ≡ true) visits 0 place →
      place ≤ length visits → (visit : Visit) → Contains (take place visits) visit → at < visit.at
  in_front all within visit (k, lt, is) =
      let few = length-take-le place visits within in
      let low : k < place = omega (arith, lt, few) in
      ltb-true at visit.at (subst (λ (v : Visit). ltb at v.at ≡ true)
      (sym (get_or-take place visits k visit low) ∙ is) (all k visit (omega arith) low))

  pub in_rest : AllWithin (λ (visit : Visit). ltb at visit.at ≡ false) visits place (length visits) →
      (visit : Visit) → Contains (drop place visits) visit → visit.at ≤ at
  in_rest all visit (k, lt, is) =
      let rest = length-drop place visits in
      let high : place + k < length visits = omega (arith, lt, rest) in
      ltb-false at visit.at (subst (λ (v : Visit). ltb at v.at ≡ false)
      (sym (get_or-drop place visits k visit) ∙ is) (all (place + k) visit (omega arith) high))

-- one visit put between those after its position and the others
module _ (visits : List Visit) (place at : ℕ) (falls : IsFalling visits)
    (found : IsPlaceOf visits at place) where
  parted : IsFalling (take place visits ++ drop place visits)
  parted = subst IsFalling (sym (take-append-drop place visits)) falls

  of_parts : (visit : Visit) → Contains visits visit →
      Contains (take place visits) visit ⊎ Contains (drop place visits) visit
  of_parts visit h = Contains-append_cases (take place visits) (drop place visits) visit
      (subst (λ (l : List Visit). Contains l visit) (sym (take-append-drop place visits)) h)

  from_parts : (visit : Visit) →
      Contains (take place visits) visit ⊎ Contains (drop place visits) visit → Contains visits visit
  from_parts visit h = subst (λ (l : List Visit). Contains l visit) (take-append-drop place visits)
      (elim h [
        | inl early ↦ Contains-append_left (take place visits) (drop place visits) visit early
        | inr late ↦ Contains-append_right (take place visits) (drop place visits) visit late
      ])

  not_early : (visit : Visit) → Contains (take place visits) visit → visit.at ≡ at → ⊥
  not_early visit early same = let lt = found.after visit early in absurd (omega (arith, lt, same))

  -- the visit of the position stands at the place, if anywhere
  module _ (not : IsAt visits place at → ⊥) where
    free_late : (visit : Visit) → Contains (drop place visits) visit → visit.at ≡ at → ⊥
    free_late visit late same = elim (leb_tells (length visits) place) [
      | inl past ↦ nothing_in visit
          (subst (λ (l : List Visit). Contains l visit) (drop_all place visits past.1) late)
      | inr within ↦
          let first = get_or visits place visit in
          let begins = drop_more visits place visit within.1 in
          let low : first.at ≤ at = found.rest first
          (subst (λ (l : List Visit). Contains l first) (sym begins)
          (contains_first first (drop (place + 1) visits))) in
          elim (first_or_later first (drop (place + 1) visits) visit
          (subst (λ (l : List Visit). Contains l visit) begins late)) [
            | inl is ↦ not (
              visit,
              subst (λ (v : Visit). slice_get visits place ≡ Some v) (sym is)
                  (slice_get-get_or visits place visit within.1),
              same,
            )
            | inr later ↦
                let down = (subst IsFalling begins (falling_right (take place visits)
                (drop place visits) parted)).0 visit later in
                absurd (omega (arith, down, low, same))
          ]
    ]

    pub free : IsFree visits at
    free visit h = elim (of_parts visit h) [
      | inl early ↦ not_early visit early
      | inr late ↦ free_late visit late
    ]

    pub falling_inserted : (front : ℕ) → IsFalling (insert visits place (visit_of at front))
    falling_inserted front = falling_between (take place visits) (visit_of at front)
        (drop place visits) (falling_left (take place visits) (drop place visits) parted)
        (falling_right (take place visits) (drop place visits) parted) found.after
        (λ y late. let low = found.rest y late in
        elim (leb_tells at y.at) [
          | inl reached ↦
              absurd (free_late y late (let up = reached.1 in omega (arith, low, up)))
          | inr less ↦ less.1
        ])

    pub holds_inserted : (front : ℕ) (visit : Visit) →
        Contains (insert visits place (visit_of at front)) visit
        ↔ ((visit ≡ visit_of at front) ⊎ (Contains visits visit × (visit.at ≡ at → ⊥)))
    holds_inserted front visit =
        let between = contains_between (take place visits) (visit_of at front) (drop place visits)
        visit in (
          λ h. elim (between.0 h) [
            | inl same ↦ inl same
            | inr old ↦
                let there = subst (λ (l : List Visit). Contains l visit)
                (take-append-drop place visits) old in
                inr (there, free visit there)
          ],
          λ h. between.1 (elim h [
            | inl same ↦ inl same
            | inr old ↦ inr (subst (λ (l : List Visit). Contains l visit)
                (sym (take-append-drop place visits)) old.0)
          ]),
        )

  -- in place of the visit of the position
  module _ (here : IsAt visits place at) where
    within : place < length visits
    within = slice_get_within visits place here.0 here.1

    began : drop place visits ≡ here.0 ∷ drop (place + 1) visits
    began = drop_more visits place here.0 within
        ∙ ap (λ (v : Visit). v ∷ drop (place + 1) visits)
        (get_or_from_slice_get visits place here.0 here.0 here.1)

    later_falls : IsFalling (here.0 ∷ drop (place + 1) visits)
    later_falls = subst IsFalling began (falling_right (take place visits) (drop place visits) parted)

    below : (visit : Visit) → Contains (drop (place + 1) visits) visit → visit.at < at
    below visit late = let down = later_falls.0 visit late in
        let same = here.2 in omega (arith, down, same)

    replaced : (front : ℕ) → set visits place (visit_of at front)
        ≡ take place visits ++ visit_of at front ∷ drop (place + 1) visits
    replaced front = set_split visits place (visit_of at front) within
        ∙ ap (λ n. take place visits ++ visit_of at front ∷ drop n visits) (sym (add-one place))

    pub falling_replaced : (front : ℕ) → IsFalling (set visits place (visit_of at front))
    falling_replaced front = subst IsFalling (sym (replaced front))
        (falling_between (take place visits) (visit_of at front) (drop (place + 1) visits)
        (falling_left (take place visits) (drop place visits) parted) later_falls.1 found.after below)

    pub holds_replaced : (front : ℕ) (visit : Visit) →
        Contains (set visits place (visit_of at front)) visit
        ↔ ((visit ≡ visit_of at front) ⊎ (Contains visits visit × (visit.at ≡ at → ⊥)))
    holds_replaced front visit =
        let between = contains_between (take place visits) (visit_of at front)
        (drop (place + 1) visits) visit in (
          λ h. elim (between.0 (subst (λ (l : List Visit). Contains l visit) (replaced front) h)) [
            | inl same ↦ inl same
            | inr old ↦ inr (elim (Contains-append_cases (take place visits)
                (drop (place + 1) visits) visit old) [
                  | inl early ↦ (from_parts visit (inl early), not_early visit early)
                  | inr late ↦ (
                    from_parts visit (inr (subst (λ (l : List Visit). Contains l visit) (sym began)
                        (contains_later here.0 (drop (place + 1) visits) visit late))),
                    λ same. let lt = below visit late in omega (arith, lt, same),
                  )
                ])
          ],
          λ h. subst (λ (l : List Visit). Contains l visit) (sym (replaced front))
              (between.1 (elim h [
                | inl same ↦ inl same
                | inr old ↦ inr (elim (of_parts visit old.0) [
                  | inl early ↦ Contains-append_left (take place visits) (drop (place + 1) visits) visit early
                  | inr late ↦ Contains-append_right (take place visits) (drop (place + 1) visits) visit
                      (elim (first_or_later here.0 (drop (place + 1) visits) visit
                      (subst (λ (l : List Visit). Contains l visit) began late)) [
                        | inl same ↦ absurd (old.1 (ap (λ (v : Visit). v.at) same ∙ here.2))
                        | inr later ↦ later
                      ])
                ])
              ])),
        )

-- visits at one position are one
one_at : (visits : List Visit) → IsFalling visits → (a b : Visit) → Contains visits a →
    Contains visits b → a.at ≡ b.at → a ≡ b
one_at [] falls a b first second same = nothing_in a first
one_at (visit ∷ visits) falls a b first second same = elim (first_or_later visit visits a first) [
  | inl is ↦ elim (first_or_later visit visits b second) [
    | inl too ↦ is ∙ sym too
    | inr later ↦
        let lt = falls.0 b later in
        let at : a.at ≡ visit.at = ap (λ (v : Visit). v.at) is in
        absurd (omega (arith, lt, at, same))
  ]
  | inr early ↦ elim (first_or_later visit visits b second) [
    | inl is ↦
        let lt = falls.0 a early in
        let at : b.at ≡ visit.at = ap (λ (v : Visit). v.at) is in
        absurd (omega (arith, lt, at, same))
    | inr later ↦ one_at visits falls.1 a b early later same
  ]
]

-- the front of the visit at a place waits at its position
pub waits_at : (visits : List Visit) (place at : ℕ) (seen : Visit) → IsFalling visits →
    IsAt visits place at → seen ≡ get_or visits place seen → Waits visits at seen.front
waits_at visits place at seen falls (visit, found, same) read =
    let is : seen ≡ visit = read ∙ get_or_from_slice_get visits place visit seen found in
    let here : visit_of at seen.front ≡ visit =
    ap (λ (n : ℕ). visit_of n seen.front) (sym same) ∙ ap (λ (v : Visit). visit_of visit.at v.front) is
    in
    let within = slice_get_within visits place visit found in
    let there : Contains visits visit = (place, within, get_or_from_slice_get visits place visit visit found) in
    record {
      there = subst (λ (v : Visit). Contains visits v) (sym here) there;
      only = λ other inside at_it.
          one_at visits falls other visit inside there (at_it ∙ sym same) ∙ sym here;
    }

-- the last visit is the least
pub taken_least : (visits rest : List Visit) (taken : Option Visit) → IsFalling visits →
    visits ≡ rest ++ option_to_list taken →
    IfSome taken (λ (visit : Visit). (other : Visit) → Contains rest other → visit.at < other.at)
taken_least visits rest None falls is = tt
taken_least visits rest (Some visit) falls is = λ other inside.
    falling_across rest (visit ∷ []) (subst IsFalling is falls) other visit inside
    (contains_first visit [])
