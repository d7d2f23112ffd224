-- What one reading adds.
use Rattle.std.proofs.Common.{arith, ◌≡◌, ◌≢◌, ℕ, zero, suc, ◌+◌, ◌<◌, ◌↔◌, ◌⊎◌, inl, inr, List, [], ◌∷◌, ◌++◌, refl, sym, ap, subst, ◌∙◌, length, get_or, append_assoc}
use Rattle.std.specs.Prelude.{Contains}
use Rattle.std.specs.List.Sorted.{IsStrictlyIncreasing}
use Rattle.std.proofs.lemmas.List.{append-nil}
use Rattle.std.proofs.lemmas.List.Elements.{Contains-append_left, Contains-append_right, Contains-append_cases, Contains-push, Contains-push_cases}
use Rattle.ux_subsets.specs.declared.automaton.Link.{Link}
use Rattle.ux_subsets.specs.declared.sets.Over.{Over}
use Rattle.ux_subsets.specs.declared.sets.Waiting.{Waiting}
use Rattle.ux_subsets.specs.Machines.{Grows}
use Rattle.ux_subsets.specs.Building.{states_of, LeadsFrom, NextFrom, AreNew, IsExpansion, over_at, Unlike, AreUnlike}
use Rattle.ux_subsets.proofs.ElementsLemmas.{nothing_in, first_or_later, contains_first, contains_later}

same_over : (o : Over) (n r : ℕ) → o.from ≡ n → o.reading ≡ r → over_at n r ≡ o
same_over o n r e f = back (sym e) (sym f)
  where
    back : {a b c d : ℕ} → a ≡ c → b ≡ d → over_at a b ≡ over_at c d
    back p q = cc

pub over_noted : (overs overs' : List Over) (n r : ℕ) (L : Type 0) → L → overs' ≡ overs ++ over_at n r ∷ [] →
    (o : Over) → Contains overs' o ↔ (Contains overs o ⊎ ((o.from ≡ n) × (o.reading ≡ r) × L))
over_noted overs overs' n r L holds pushed o = subst (λ (os : List Over). Contains os o ↔ (Contains overs o ⊎ ((o.from ≡ n) × (o.reading ≡ r) × L))) (sym pushed) (
  λ h. elim (Contains-push_cases overs (over_at n r) o h) [
    | inl old ↦ inl old
    | inr e ↦ inr (ap (λ (x : Over). x.from) (sym e), ap (λ (x : Over). x.reading) (sym e), holds)
  ],
  λ h. elim h [
    | inl old ↦ Contains-append_left overs (over_at n r ∷ []) o old
    | inr new ↦ subst (λ (x : Over). Contains (overs ++ over_at n r ∷ []) x) (same_over o n r new.0 new.1) (Contains-push overs (over_at n r))
  ],
)

pub over_not_noted : (overs : List Over) (n r : ℕ) (L : Type 0) → (L → ⊥) →
    (o : Over) → Contains overs o ↔ (Contains overs o ⊎ ((o.from ≡ n) × (o.reading ≡ r) × L))
over_not_noted overs n r L never o = (λ h. inl h, λ h. elim h [ inl old ↦ old | inr new ↦ absurd (never new.2) ])

module _ (Goes : ℕ → Type 0) (n r next : ℕ) where
  pub one_new : (w : Waiting) → w.from ≡ n → w.reading ≡ r → ((t : ℕ) → Contains (states_of w.set) t ↔ Goes t) →
      (t : ℕ) → Contains (states_of w.set) t → w.set.seen ≡ next → IsStrictlyIncreasing (states_of w.set) → AreNew Goes n r next (w ∷ [])
  one_new w from reading set t some seen sorted = record {
    from = λ x h. subst (λ (y : Waiting). y.from ≡ n) (only x h) from;
    reading = λ x h. subst (λ (y : Waiting). y.reading ≡ r) (only x h) reading;
    set = λ x h. subst (λ (y : Waiting). (t : ℕ) → Contains (states_of y.set) t ↔ Goes t) (only x h) set;
    some = λ x h. subst (λ (y : Waiting). (t : ℕ) × Contains (states_of y.set) t) (only x h) (t, some);
    each = λ t nx. (w, contains_first w []);
    seen = λ x h. subst (λ (y : Waiting). y.set.seen ≡ next) (only x h) seen;
    sorted = λ x h. subst (λ (y : Waiting). IsStrictlyIncreasing (states_of y.set)) (only x h) sorted;
    unlike = (λ y h. absurd (nothing_in h), tt);
  }
    where
      only : (x : Waiting) → Contains (w ∷ []) x → w ≡ x
      only x h = elim (first_or_later w [] x h) [ inl e ↦ e | inr none ↦ absurd (nothing_in none) ]

  pub none_new : ((t : ℕ) → Goes t → ⊥) → AreNew Goes n r next []
  none_new none = record {
    from = λ x h. absurd (nothing_in h);
    reading = λ x h. absurd (nothing_in h);
    set = λ x h. absurd (nothing_in h);
    some = λ x h. absurd (nothing_in h);
    each = λ t nx. absurd (none t nx);
    seen = λ x h. absurd (nothing_in h);
    sorted = λ x h. absurd (nothing_in h);
    unlike = tt;
  }

-- the paths that are over after one reading more were noted
pub kept_more : (overs overs' : List Over) (n : ℕ) (readings : List ℕ) (r : ℕ) (Ends : ℕ → Type 0) (L V : Type 0) →
    ((o : Over) → Contains overs' o ↔ (Contains overs o ⊎ ((o.from ≡ n) × (o.reading ≡ r) × L × V))) → (Ends r → L × V) →
    ((q : ℕ) → Contains readings q → Ends q → Contains overs (over_at n q)) → (q : ℕ) → Contains (readings ++ r ∷ []) q → Ends q → Contains overs' (over_at n q)
kept_more overs overs' n readings r Ends L V over last kept q h ends = elim (Contains-push_cases readings r q h) [
  | inl old ↦ (over (over_at n q)).1 (inl (kept q old ends))
  | inr is ↦ let l = last (subst Ends (sym is) ends) in (over (over_at n q)).1 (inr (refl, sym is, l.0, l.1))
]

-- the same waits, told in other words
pub new_for : (P Q : ℕ → Type 0) (n r next : ℕ) (new : List Waiting) → ((t : ℕ) → P t ↔ Q t) → AreNew P n r next new → AreNew Q n r next new
new_for P Q n r next new same a = record {
  from = a.from;
  reading = a.reading;
  set = λ w h t. (λ c. (same t).0 ((a.set w h t).0 c), λ q. (a.set w h t).1 ((same t).1 q));
  some = a.some;
  each = λ t q. a.each t ((same t).1 q);
  seen = a.seen;
  sorted = a.sorted;
  unlike = a.unlike;
}

-- what is over, told in other words
pub over_for : (overs overs' : List Over) (n r : ℕ) (L L' V : Type 0) → L ↔ L' →
    ((o : Over) → Contains overs' o ↔ (Contains overs o ⊎ ((o.from ≡ n) × (o.reading ≡ r) × L × V))) →
    (o : Over) → Contains overs' o ↔ (Contains overs o ⊎ ((o.from ≡ n) × (o.reading ≡ r) × L' × V))
over_for overs overs' n r L L' V same over o = (
  λ h. elim ((over o).0 h) [ inl x ↦ inl x | inr x ↦ inr (x.0, x.1, same.0 x.2, x.3) ],
  λ h. (over o).1 (elim h [ inl x ↦ inl x | inr x ↦ inr (x.0, x.1, same.1 x.2, x.3) ]),
)

pub going_for : (last : ℕ) (L L' : ℕ → Type 0) → ((t : ℕ) → L t ↔ L' t) → (t : ℕ) → ((t ≢ last) × L t) ↔ ((t ≢ last) × L' t)
going_for last L L' same t = (λ h. (h.0, (same t).0 h.1), λ h. (h.0, (same t).1 h.1))

pub some_element : (xs : List ℕ) → (xs ≡ [] → ⊥) → (t : ℕ) × Contains xs t
some_element [] not_empty = absurd (not_empty refl)
some_element (x ∷ xs) not_empty = (x, contains_first x xs)

pub unlike_append : (xs ys : List Waiting) → AreUnlike xs → AreUnlike ys → ((x y : Waiting) → Contains xs x → Contains ys y → Unlike x y) → AreUnlike (xs ++ ys)
unlike_append [] ys u v across = v
unlike_append (x ∷ xs) ys u v across = (
  λ y h. elim (Contains-append_cases xs ys y h) [ inl a ↦ u.0 y a | inr b ↦ across x y (contains_first x xs) b ],
  unlike_append xs ys u.1 v (λ a b h k. across a b (contains_later x xs a h) k),
)

module _ (last : ℕ) (source : List Link) (states : List ℕ) (n : ℕ) where
  pub no_expansion : (Stands : ℕ → List ℕ → Type 0) (Satisfies : List ℕ → Type 0) (seen : ℕ) (readings : List ℕ) (waiting : List Waiting) (overs : List Over) → readings ≡ [] →
      IsExpansion last source states n Stands Stands Satisfies seen readings waiting waiting overs overs
  no_expansion Stands Satisfies seen readings waiting overs none = subst (λ (rs : List ℕ). IsExpansion last source states n Stands Stands Satisfies seen rs waiting waiting overs overs) (sym none) (record {
    over = λ before stands o. (λ h. inl h, λ h. elim h [ inl old ↦ old | inr new ↦ absurd (nothing_in new.1) ]);
    new = [];
    appended = sym (append-nil waiting);
    from = λ w h. absurd (nothing_in h);
    reading = λ w h. absurd (nothing_in h);
    set = λ w h. absurd (nothing_in h);
    some = λ w h. absurd (nothing_in h);
    each = λ r t h nx. absurd (nothing_in h);
    sees = λ w h. absurd (nothing_in h);
    sorted = λ w h. absurd (nothing_in h);
    unlike = tt;
  })

  -- the machine's verdict tells whether it satisfies
  pub over_told : (Stands0 Stands1 Stands2 : ℕ → List ℕ → Type 0) (Satisfies0 Satisfies1 Satisfies2 : List ℕ → Type 0) (seen next r : ℕ) (V : Type 0) (overs1 overs2 : List Over) →
      Grows Stands0 Stands1 Satisfies0 Satisfies1 → Grows Stands1 Stands2 Satisfies1 Satisfies2 →
      ((before : List ℕ) → Stands1 seen before → Stands2 next (before ++ r ∷ [])) → ((w : List ℕ) → Stands2 next w → V ↔ Satisfies2 w) →
      ((o : Over) → Contains overs2 o ↔ (Contains overs1 o ⊎ ((o.from ≡ n) × (o.reading ≡ r) × LeadsFrom last source states 0 r last × V))) →
      (before : List ℕ) → Stands0 seen before → (o : Over) → Contains overs2 o ↔
      (Contains overs1 o ⊎ ((o.from ≡ n) × (o.reading ≡ r) × LeadsFrom last source states 0 r last × Satisfies0 (before ++ r ∷ [])))
  over_told Stands0 Stands1 Stands2 Satisfies0 Satisfies1 Satisfies2 seen next r V overs1 overs2 g h stepped verdict over before stands o =
      let v = verdict (before ++ r ∷ []) (stepped before (g.kept seen before stands)) in
      let m = g.meant (before ++ r ∷ []) in
      let m' = h.meant (before ++ r ∷ []) in (
        λ c. elim ((over o).0 c) [ inl old ↦ inl old | inr x ↦ inr (x.0, x.1, x.2, m.1 (m'.1 (v.0 x.3))) ],
        λ c. elim c [ inl old ↦ (over o).1 (inl old) | inr x ↦ (over o).1 (inr (x.0, x.1, x.2, v.1 (m'.0 (m.0 x.3)))) ],
      )

  pub expansion_more : (Stands0 Stands1 Stands2 : ℕ → List ℕ → Type 0) (Satisfies0 Satisfies1 Satisfies2 : List ℕ → Type 0) (seen next : ℕ) →
      Grows Stands0 Stands1 Satisfies0 Satisfies1 → Grows Stands1 Stands2 Satisfies1 Satisfies2 →
      (readings readings' : List ℕ) (r : ℕ) (waiting now then : List Waiting) (overs overs1 overs2 : List Over) →
      readings' ≡ readings ++ r ∷ [] → (Contains readings r → ⊥) → IsExpansion last source states n Stands0 Stands1 Satisfies0 seen readings waiting now overs overs1 →
      ((before : List ℕ) → Stands1 seen before → Stands2 next (before ++ r ∷ [])) →
      ((before : List ℕ) → Stands0 seen before → (o : Over) → Contains overs2 o ↔
      (Contains overs1 o ⊎ ((o.from ≡ n) × (o.reading ≡ r) × LeadsFrom last source states 0 r last × Satisfies0 (before ++ r ∷ [])))) →
      (new : List Waiting) → then ≡ now ++ new → AreNew (NextFrom last source states n r) n r next new →
      IsExpansion last source states n Stands0 Stands2 Satisfies0 seen readings' waiting then overs overs2
  expansion_more Stands0 Stands1 Stands2 Satisfies0 Satisfies1 Satisfies2 seen next g h' readings readings' r waiting now then overs overs1 overs2 grown fresh e stepped over new made a =
      subst (λ (rs : List ℕ). IsExpansion last source states n Stands0 Stands2 Satisfies0 seen rs waiting then overs overs2) (sym grown) (record {
        over = λ before stands o. (
          λ h. elim ((over before stands o).0 h) [
            | inl old ↦ elim ((e.over before stands o).0 old) [
              | inl older ↦ inl older
              | inr x ↦ inr (x.0, Contains-append_left readings (r ∷ []) o.reading x.1, x.2, x.3)
            ]
            | inr x ↦ inr (
              x.0,
              subst (λ (q : ℕ). Contains (readings ++ r ∷ []) q) (sym x.1) (Contains-push readings r),
              subst (λ (q : ℕ). LeadsFrom last source states n q last) (sym x.1) x.2,
              subst (λ (q : ℕ). Satisfies0 (before ++ q ∷ [])) (sym x.1) x.3,
            )
          ],
          λ h. elim h [
            | inl older ↦ (over before stands o).1 (inl ((e.over before stands o).1 (inl older)))
            | inr x ↦ elim (Contains-push_cases readings r o.reading x.1) [
              | inl met ↦ (over before stands o).1 (inl ((e.over before stands o).1 (inr (x.0, met, x.2, x.3))))
              | inr is ↦ (over before stands o).1 (inr (
                x.0,
                sym is,
                subst (λ (q : ℕ). LeadsFrom last source states n q last) (sym is) x.2,
                subst (λ (q : ℕ). Satisfies0 (before ++ q ∷ [])) (sym is) x.3,
              ))
            ]
          ],
        );
        new = e.new ++ new;
        appended = made ∙ (ap (λ (ws : List Waiting). ws ++ new) e.appended ∙ append_assoc waiting e.new new);
        from = λ w h. elim (Contains-append_cases e.new new w h) [ inl x ↦ e.from w x | inr x ↦ a.from w x ];
        reading = λ w h. elim (Contains-append_cases e.new new w h) [
          | inl x ↦ Contains-append_left readings (r ∷ []) w.reading (e.reading w x)
          | inr x ↦ subst (λ (q : ℕ). Contains (readings ++ r ∷ []) q) (sym (a.reading w x)) (Contains-push readings r)
        ];
        set = λ w h. elim (Contains-append_cases e.new new w h) [
          | inl x ↦ e.set w x
          | inr x ↦ subst (λ (q : ℕ). (t : ℕ) → Contains (states_of w.set) t ↔ NextFrom last source states n q t) (sym (a.reading w x)) (a.set w x)
        ];
        some = λ w h. elim (Contains-append_cases e.new new w h) [ inl x ↦ e.some w x | inr x ↦ a.some w x ];
        each = λ q t h nx. elim (Contains-push_cases readings r q h) [
          | inl met ↦ let w = e.each q t met nx in (w.0, Contains-append_left e.new new w.0 w.1, w.2)
          | inr is ↦ let w = a.each t (subst (λ (x : ℕ). NextFrom last source states n x t) (sym is) nx) in
              (w.0, Contains-append_right e.new new w.0 w.1, a.reading w.0 w.1 ∙ is)
        ];
        sees = λ w h before stands. elim (Contains-append_cases e.new new w h) [
          | inl x ↦ h'.kept w.set.seen (before ++ w.reading ∷ []) (e.sees w x before stands)
          | inr x ↦ subst (λ (s : ℕ). Stands2 s (before ++ w.reading ∷ [])) (sym (a.seen w x))
              (subst (λ (q : ℕ). Stands2 next (before ++ q ∷ [])) (sym (a.reading w x)) (stepped before (g.kept seen before stands)))
        ];
        sorted = λ w h. elim (Contains-append_cases e.new new w h) [ inl x ↦ e.sorted w x | inr x ↦ a.sorted w x ];
        unlike = unlike_append e.new new e.unlike a.unlike (λ x y h k from reading.
            fresh (subst (λ (q : ℕ). Contains readings q) (reading ∙ a.reading y k) (e.reading x h)));
      })

-- an ascending list's element isn't among those before it
pub rises : (xs : List ℕ) → IsStrictlyIncreasing xs → (k d : ℕ) → k + d + 1 < length xs → get_or xs k 0 < get_or xs (k + d + 1) 0
rises xs up k zero lt = let e : k + zero + 1 ≡ k + 1 = omega arith in
    subst (λ (i : ℕ). get_or xs k 0 < get_or xs i 0) (sym e) (up k (omega arith))
rises xs up k (suc d) lt =
    let before = rises xs up k d (omega arith) in
    let step = up (k + d + 1) (omega arith) in
    let e : k + suc d + 1 ≡ k + d + 1 + 1 = omega arith in
    subst (λ (i : ℕ). get_or xs k 0 < get_or xs i 0) (sym e) (omega (arith, before, step))
