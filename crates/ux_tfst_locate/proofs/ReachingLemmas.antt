-- Marks of positions, set one after another.
use Rattle.std.proofs.Common.{arith, ◌≡◌, ℕ, ◌+◌, ◌<◌, ◌≤◌, ◌↔◌, ◌⊎◌, List, [], ◌∷◌, ◌++◌, Bool, true, false, inl, inr, refl, sym, ◌∙◌, ap, subst, length, length-append, get_or, set, take}
use Rattle.std.specs.Prelude.{Contains, IsTrue, Some, slice_get}
use Rattle.std.proofs.lemmas.Bool.{false≢true}
use Rattle.std.proofs.lemmas.List.{length-set, get_or-set_other, get_or-set_same, get_or_append_left, get_or_past, get_or_push}
use Rattle.std.proofs.lemmas.List.Elements.{Contains-append_left, Contains-push, Contains-push_cases}
use Rattle.std.proofs.lemmas.Option.{same_Some, slice_get_within, slice_get_read}
use Rattle.ux_base.proofs.Lists.{less_or, nothing_in, same_or, take_more, take_whole}
use Rattle.ux_tfst_locate.specs.declared.lattice.Arc.{Arc}
use Rattle.ux_tfst_locate.specs.declared.lattice.Place.{Place}
use Rattle.ux_tfst_locate.specs.Lattices.{Rows, row_at}
use Rattle.ux_tfst_locate.specs.Reaching.{AreAhead, IsFirst, IsLast, IsLeading, IsReached, IsSoAt, is_marked}

abbrev pub Marked : List Bool → ℕ → Type 0
Marked marks i = IsTrue (is_marked marks i)

-- the marks of the places so far
pub record AreMarkedTo (P : Place → Type 0) (places : List Place) (marks : List Bool) (k : ℕ) :
    Type 0 where
  pub count : length marks ≡ k
  pub each : (i : ℕ) → i < k → Marked marks i ↔ IsSoAt P places i

module _ (P : Place → Type 0) (places : List Place) where
  pub marked_none : AreMarkedTo P places [] 0
  marked_none = record { count = refl; each = λ i less. absurd (omega (arith, less)) }

  pub marked_more : (marks new : List Bool) (k : ℕ) (place : Place) (b : Bool) → k < length places →
      place ≡ get_or places k place → new ≡ marks ++ b ∷ [] → IsTrue b ↔ P place →
      AreMarkedTo P places marks k → AreMarkedTo P places new (k + 1)
  marked_more marks new k place b inside is put tells are =
      subst (λ (ms : List Bool). AreMarkedTo P places ms (k + 1)) (sym put) (record {
        count =
            let long = length-append marks (b ∷ []) in
            let count = are.count in
            omega (arith, long, count);
        each = λ i less. elim (less_or i k) [
          | inl before ↦
              let count = are.count in
              let same : is_marked (marks ++ b ∷ []) i ≡ is_marked marks i =
              get_or_append_left marks (b ∷ []) false i (omega (arith, count, before)) in
              subst (λ (t : Bool). IsTrue t ↔ IsSoAt P places i) (sym same) (are.each i before)
          | inr past ↦
              let e : i ≡ k = omega (arith, past, less) in
              let here : is_marked (marks ++ b ∷ []) i ≡ b =
              get_or_push marks b false i (are.count ∙ sym e) in
              let at : slice_get places i ≡ Some place =
              subst (λ n. slice_get places n ≡ Some place) (sym e)
              (slice_get_read places (length places) k place refl inside is) in
              subst (λ (t : Bool). IsTrue t ↔ IsSoAt P places i) (sym here) (
                λ t. (place, at, tells.0 t),
                λ so. tells.1 (subst P (same_Some so.0 place (sym so.1 ∙ at)) so.2),
              )
        ];
      })

  pub marked_all : (marks : List Bool) (k : ℕ) → length places ≤ k →
      AreMarkedTo P places marks k → (i : ℕ) → Marked marks i ↔ IsSoAt P places i
  marked_all marks k over are i = elim (less_or i k) [
    | inl inside ↦ are.each i inside
    | inr past ↦
        let count = are.count in
        let none : is_marked marks i ≡ false = get_or_past marks i false (omega (arith, count, past)) in (
          λ t. absurd (false≢true (sym none ∙ t)),
          λ so.
              let inside = slice_get_within places i so.0 so.1 in
              absurd (omega (arith, inside, past, over)),
        )
  ]

-- one more position is marked
pub set_mark : (marks : List Bool) (k : ℕ) → k < length marks → (i : ℕ) →
    Marked (set marks k true) i ↔ (Marked marks i ⊎ (k ≡ i))
set_mark marks k inside i = elim (same_or i k) [
  | inl e ↦ (
    λ t. inr (sym e),
    λ h. ap (is_marked (set marks k true)) e ∙ get_or-set_same marks k true false inside,
  )
  | inr other ↦
      let same = get_or-set_other marks k i true false other in (
        λ t. inl (sym same ∙ t),
        λ h. elim h [
          | inl old ↦ same ∙ old
          | inr e ↦ absurd (other (sym e))
        ],
      )
]

-- an arc of the row leads to the position
abbrev pub IsTarget : List Arc → ℕ → Type 0
IsTarget row i = (arc : Arc) × Contains row arc × (arc.to ≡ i)

module _ (row : List Arc) (old : List Bool) where
  -- the targets of the first arcs are marked
  pub record HasMarked (k : ℕ) (marks : List Bool) : Type 0 where
    pub count : length marks ≡ length old
    pub each : (i : ℕ) → Marked marks i ↔ (Marked old i ⊎ IsTarget (take k row) i)

  pub has_none : HasMarked 0 old
  has_none = record {
    count = refl;
    each = λ i. (
      λ t. inl t,
      λ h. elim h [
        | inl t ↦ t
        | inr target ↦ absurd (nothing_in target.1)
      ],
    );
  }

  pub has_more : (k : ℕ) (arc : Arc) (marks new : List Bool) → k < length row →
      arc ≡ get_or row k arc → arc.to < length marks → new ≡ set marks arc.to true →
      HasMarked k marks → HasMarked (k + 1) new
  has_more k arc marks new inside is bound put has =
      let more : take (k + 1) row ≡ take k row ++ arc ∷ [] =
      take_more row k arc inside ∙ ap (λ (a : Arc). take k row ++ a ∷ []) (sym is) in
      subst (HasMarked (k + 1)) (sym put) (record {
        count =
            length-set marks arc.to true ∙ has.count;
        each = λ i.
            let one = set_mark marks arc.to bound i in
            let before = has.each i in
            subst (λ (arcs : List Arc). Marked (set marks arc.to true) i ↔ (Marked old i ⊎ IsTarget arcs i))
            (sym more) (
              λ t. elim (one.0 t) [
                | inl was ↦ elim (before.0 was) [
                  | inl t ↦ inl t
                  | inr target ↦ inr (
                    target.0,
                    Contains-append_left (take k row) (arc ∷ []) target.0 target.1,
                    target.2,
                  )
                ]
                | inr e ↦ inr (arc, Contains-push (take k row) arc, e)
              ],
              λ h. elim h [
                | inl t ↦ one.1 (inl (before.1 (inl t)))
                | inr target ↦ elim (Contains-push_cases (take k row) arc target.0 target.1) [
                  | inl there ↦ one.1 (inl (before.1 (inr (target.0, there, target.2))))
                  | inr same ↦ one.1 (inr (ap (λ (a : Arc). a.to) same ∙ target.2))
                ]
              ],
            );
      })

  pub has_all : (k : ℕ) (marks : List Bool) → length row ≤ k → HasMarked k marks →
      (i : ℕ) → Marked marks i ↔ (Marked old i ⊎ IsTarget row i)
  has_all k marks over has i =
      subst (λ (arcs : List Arc). Marked marks i ↔ (Marked old i ⊎ IsTarget arcs i))
      (take_whole row k over) (has.each i)

module _ (places : List Place) (rows : Rows) where
  -- the positions before this one are marked where they are reached, and so are those to which they
  -- lead
  pub record AreReachedTo (marks : List Bool) (at : ℕ) : Type 0 where
    pub count : length marks ≡ length places
    pub sound : (j : ℕ) → Marked marks j → IsReached places rows j
    pub starts : (j : ℕ) → IsSoAt IsFirst places j → Marked marks j
    pub done : (j : ℕ) → j < at → IsReached places rows j → Marked marks j
    pub passed : (j : ℕ) (arc : Arc) → j < at → Contains (row_at rows j) arc → Marked marks j →
        Marked marks arc.to

  -- the last positions, so many, are marked where they lead to a last state
  pub record AreLeadingFrom (marks : List Bool) (done : ℕ) : Type 0 where
    pub count : length marks ≡ length places
    pub sound : (j : ℕ) → Marked marks j → IsLeading places rows j
    pub lasts : (j : ℕ) → IsSoAt IsLast places j → Marked marks j
    pub behind : (j : ℕ) → length places ≤ j + done → IsLeading places rows j → Marked marks j

-- an arc of the row leads to a marked position
abbrev pub LeadsToMarked : List Arc → List Bool → Type 0
LeadsToMarked row marks = (arc : Arc) × Contains row arc × Marked marks arc.to

module _ (places : List Place) (rows : Rows) (ahead : AreAhead (length places) rows) where
  pub reached_none : (marks : List Bool) → length marks ≡ length places →
      ((j : ℕ) → Marked marks j ↔ IsSoAt IsFirst places j) → AreReachedTo places rows marks 0
  reached_none marks count first = record {
    count = count;
    sound = λ j t. IsReached.begins ((first j).0 t);
    starts = λ j so. (first j).1 so;
    done = λ j less r. absurd (omega (arith, less));
    passed = λ j arc less has t. absurd (omega (arith, less));
  }

  -- what is reached is marked when its turn comes
  now_marked : (marks : List Bool) (at : ℕ) → AreReachedTo places rows marks at → (j : ℕ) → j ≡ at →
      IsReached places rows j → Marked marks j
  now_marked marks at are j e (IsReached.begins so) = are.starts j so
  now_marked marks at are j e (IsReached.goes_on {i} arc has before) =
      let on = (ahead i arc has).0 in
      let less : i < at = omega (arith, on, e) in
      are.passed i arc less has (are.done i less before)

  pub reached_past : (marks : List Bool) (at : ℕ) → AreReachedTo places rows marks at →
      (Marked marks at → ⊥) → AreReachedTo places rows marks (at + 1)
  reached_past marks at are never = record {
    count = are.count;
    sound = are.sound;
    starts = are.starts;
    done = λ j less r. elim (less_or j at) [
      | inl before ↦ are.done j before r
      | inr past ↦ now_marked marks at are j (omega (arith, less, past)) r
    ];
    passed = λ j arc less has t. elim (less_or j at) [
      | inl before ↦ are.passed j arc before has t
      | inr past ↦
          let e : j ≡ at = omega (arith, less, past) in
          absurd (never (subst (Marked marks) e t))
    ];
  }

  pub reached_more : (marks new : List Bool) (at : ℕ) → AreReachedTo places rows marks at → Marked marks at →
      length new ≡ length marks →
      ((i : ℕ) → Marked new i ↔ (Marked marks i ⊎ IsTarget (row_at rows at) i)) →
      AreReachedTo places rows new (at + 1)
  reached_more marks new at are here count marked = record {
    count = count ∙ are.count;
    sound = λ j t. elim ((marked j).0 t) [
      | inl was ↦ are.sound j was
      | inr target ↦ subst (IsReached places rows) target.2
          (IsReached.goes_on target.0 target.1 (are.sound at here))
    ];
    starts = λ j so. (marked j).1 (inl (are.starts j so));
    done = λ j less r. elim (less_or j at) [
      | inl before ↦ (marked j).1 (inl (are.done j before r))
      | inr past ↦ (marked j).1 (inl (now_marked marks at are j (omega (arith, less, past)) r))
    ];
    passed = λ j arc less has t. elim (less_or j at) [
      | inl before ↦
          let was : Marked marks j = elim ((marked j).0 t) [
            | inl was ↦ was
            | inr target ↦
                let on = (ahead at target.0 target.1).0 in
                let to = target.2 in
                absurd (omega (arith, on, to, before))
          ] in
          (marked arc.to).1 (inl (are.passed j arc before has was))
      | inr past ↦
          let e : j ≡ at = omega (arith, less, past) in
          (marked arc.to).1 (inr (arc, subst (λ n. Contains (row_at rows n) arc) e has, refl))
    ];
  }

  inside_reached : (j : ℕ) → IsReached places rows j → j < length places
  inside_reached j (IsReached.begins so) = slice_get_within places j so.0 so.1
  inside_reached j (IsReached.goes_on {i} arc has before) = (ahead i arc has).1

  pub reached_all : (marks : List Bool) (at : ℕ) → length places ≤ at → AreReachedTo places rows marks at →
      (j : ℕ) → Marked marks j ↔ IsReached places rows j
  reached_all marks at over are j = (
    are.sound j,
    λ r. let inside = inside_reached j r in are.done j (omega (arith, inside, over)) r,
  )

  inside_leading : (j : ℕ) → IsLeading places rows j → j < length places
  inside_leading j (IsLeading.ends so) = slice_get_within places j so.0 so.1
  inside_leading j (IsLeading.leads_on arc has later) =
      let on = ahead j arc has in omega (arith, on.0, on.1)

  pub leading_none : (marks : List Bool) → length marks ≡ length places →
      ((j : ℕ) → Marked marks j ↔ IsSoAt IsLast places j) → AreLeadingFrom places rows marks 0
  leading_none marks count last = record {
    count = count;
    sound = λ j t. IsLeading.ends ((last j).0 t);
    lasts = λ j so. (last j).1 so;
    behind = λ j past leads. let inside = inside_leading j leads in absurd (omega (arith, past, inside));
  }

  now_leading : (marks : List Bool) (done at : ℕ) → length places ≡ at + done + 1 →
      AreLeadingFrom places rows marks done → (j : ℕ) → j ≡ at → IsLeading places rows j →
      Marked marks j ⊎ LeadsToMarked (row_at rows at) marks
  now_leading marks done at count are j e (IsLeading.ends so) = inl (are.lasts j so)
  now_leading marks done at count are j e (IsLeading.leads_on arc has later) =
      let on = (ahead j arc has).0 in
      inr (
        arc,
        subst (λ n. Contains (row_at rows n) arc) e has,
        are.behind arc.to (omega (arith, on, e, count)) later,
      )

  pub leading_past : (marks : List Bool) (done at : ℕ) → length places ≡ at + done + 1 →
      AreLeadingFrom places rows marks done → (LeadsToMarked (row_at rows at) marks → ⊥) →
      AreLeadingFrom places rows marks (done + 1)
  leading_past marks done at count are never = record {
    count = are.count;
    sound = are.sound;
    lasts = are.lasts;
    behind = λ j past leads. elim (same_or j at) [
      | inl e ↦ elim (now_leading marks done at count are j e leads) [
        | inl t ↦ t
        | inr some ↦ absurd (never some)
      ]
      | inr other ↦ elim (less_or j at) [
        | inl less ↦ absurd (omega (arith, less, past, count))
        | inr at_least ↦ elim (less_or at j) [
          | inl more ↦ are.behind j (omega (arith, more, count)) leads
          | inr at_most ↦ absurd (other (omega (arith, at_least, at_most)))
        ]
      ]
    ];
  }

  pub leading_more : (marks new : List Bool) (done at : ℕ) → length places ≡ at + done + 1 →
      AreLeadingFrom places rows marks done → LeadsToMarked (row_at rows at) marks → new ≡ set marks at true →
      AreLeadingFrom places rows new (done + 1)
  leading_more marks new done at count are some put =
      let len = are.count in
      let one = set_mark marks at (omega (arith, len, count)) in
      subst (λ (ms : List Bool). AreLeadingFrom places rows ms (done + 1)) (sym put) (record {
        count =
            length-set marks at true ∙ are.count;
        sound = λ j t. elim ((one j).0 t) [
          | inl was ↦ are.sound j was
          | inr e ↦ subst (IsLeading places rows) e
              (IsLeading.leads_on some.0 some.1 (are.sound some.0.to some.2))
        ];
        lasts = λ j so. (one j).1 (inl (are.lasts j so));
        behind = λ j past leads. elim (same_or at j) [
          | inl e ↦ (one j).1 (inr e)
          | inr other ↦ elim (less_or j at) [
            | inl less ↦ absurd (omega (arith, less, past, count))
            | inr at_least ↦ elim (less_or at j) [
              | inl more ↦ (one j).1 (inl (are.behind j (omega (arith, more, count)) leads))
              | inr at_most ↦ absurd (other (omega (arith, at_least, at_most)))
            ]
          ]
        ];
      })

  pub leading_all : (marks : List Bool) (done : ℕ) → length places ≤ done → AreLeadingFrom places rows marks done →
      (j : ℕ) → Marked marks j ↔ IsLeading places rows j
  leading_all marks done over are j = (are.sound j, are.behind j (omega (arith, over)))
