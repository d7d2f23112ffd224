-- Where the numbers of states follow the least words that lead to them, a visit from the root leaves
-- the states in the order of their numbers.
use Rattle.std.proofs.Common.{arith, ◌≡◌, ℕ, zero, suc, ◌+◌, ◌-◌, ◌<◌, ◌≤◌, ◌↔◌, List, [], ◌∷◌, ◌++◌, ◌⊎◌, inl, inr, refl, sym, ◌∙◌, ap, subst, length, get_or}
use Rattle.std.specs.Prelude.{Contains, Some, slice_get}
use Rattle.std.specs.Cmp.Lexicographic.{slice_cmp}
use Rattle.std.specs.Ordering.{nat_cmp}
use Rattle.std.specs.declared.cmp.Ordering.TheVariants.{Less}
use Rattle.std.proofs.lemmas.Bool.{cases_lt}
use Rattle.std.proofs.lemmas.List.{append_assoc, append-nil}
use Rattle.std.proofs.lemmas.List.Elements.{Contains-append_cases, Contains-append_left, Contains-push}
use Rattle.std.proofs.lemmas.Option.{get_or_from_slice_get, same_Some, slice_get-get_or}
use Rattle.ux_dawg.specs.Building.{bare}
use Rattle.ux_dawg.specs.Order.{ComesBefore, IsNumbered}
use Rattle.ux_dawg.specs.Paths.{edge, AreAscending, AreStates, Leads}
use Rattle.ux_dawg.specs.declared.state.Edge.{Edge}
use Rattle.ux_dawg.specs.declared.state.State.{State}
use Rattle.ux_dawg.proofs.PathLemmas.{behind as later, in_front, of_cons}
use Rattle.ux_image_reader.specs.Visit.{edges_at, left_after, visit_of}
use Rattle.ux_image_reader.specs.Visiting.{below, left_behind}
use Rattle.ux_image_reader.proofs.VisitLemmas.{below-push, below_known, below_new, edges_at-is, left_after-known, left_after-new}
use Rattle.ux_image_content.proofs.WayLemmas.{leads_on, leads_one, leads_split, no_round}
use Rattle.ux_image_content.proofs.WordLemmas.{before_cases, left_at, left_less, left_on, left_push, less_cases, less_on, not_left_of_itself, not_less_itself, not_longer, GoesOnBy, IsLeft}

module _ (states : List State) (fit : AreStates states) where
  module _ (root : ℕ) (first : ℕ → List ℕ)
      (leads : (k : ℕ) → k < length states → Leads states root (first k) k)
      (least : (k : ℕ) (v : List ℕ) → k < length states → Leads states root v k →
      (first k ≡ v) ⊎ (slice_cmp nat_cmp (first k) v ≡ Less))
      (order : (i j : ℕ) → i < j → j < length states → ComesBefore (first i) (first j)) where
    most : ℕ
    most = length states

    -- the states below n are those whose first words are left of the word
    abbrev Before : List ℕ → ℕ → Type 0
    Before u n = (k : ℕ) → k < length states → (k < n) ↔ IsLeft (first k) u

    -- or are this word, or go on from it
    abbrev After : List ℕ → ℕ → Type 0
    After u n = (k : ℕ) → k < length states →
        (k < n) ↔ (IsLeft (first k) u ⊎ ((w : List ℕ) × (first k ≡ u ++ w)))

    -- or go on from it by one of the edges
    abbrev BehindSome : List Edge → List ℕ → List ℕ → Type 0
    BehindSome edges x u = (e : Edge) × Contains edges e × GoesOnBy x u e.letter

    abbrev Amid : List ℕ → List Edge → ℕ → Type 0
    Amid u edges n = (k : ℕ) → k < length states →
        (k < n) ↔ (IsLeft (first k) u ⊎ BehindSome edges (first k) u)

    -- what a visit of the state leaves
    record Visits (u : List ℕ) (i n : ℕ) : Type 0 where
      next : ℕ
      left : left_after (length states) states (below n) i ≡ below next
      after : After u next
      new : n ≤ i → next ≡ i + 1

    -- a state that was left has no first word from here on
    left_before : (u : List ℕ) (i n : ℕ) → i < length states → Leads states root u i →
        Before u n → i < n → After u n
    left_before u i n inside way before done k less = (
      λ low. inl ((before k less).0 low),
      λ h. elim h [
        | inl left ↦ (before k less).1 left
        | inr on ↦ absurd (none on.0 on.1)
      ],
    )
      where
        none : (w : List ℕ) → first k ≡ u ++ w → ⊥
        none w is =
            let rest = leads_split states fit root u i w k way
            (subst (λ (l : List ℕ). Leads states root l k) is (leads k less)) in
            let other = leads_on states root (first i) i w k (leads i inside) rest in
            let left = left_less (first i) u w w ((before i inside).0 done) in
            let under : slice_cmp nat_cmp (first i ++ w) (first k) ≡ Less =
            subst (λ (l : List ℕ). slice_cmp nat_cmp (first i ++ w) l ≡ Less) (sym is) left in
            elim (least k (first i ++ w) less other) [
              | inl same ↦ not_less_itself (first k)
                  (subst (λ (l : List ℕ). slice_cmp nat_cmp l (first k) ≡ Less) (sym same) under)
              | inr low ↦ not_less_itself (first k)
                  (less_on (first k) (first i ++ w) (first k) low under)
            ]

    -- the word on which a state is left is its first one
    is_first : (u : List ℕ) (i n : ℕ) → i < length states → Leads states root u i → Before u n →
        n ≤ i → first i ≡ u
    is_first u i n inside way before new = elim (least i u inside way) [
      | inl same ↦ same
      | inr less ↦ elim (less_cases (first i) u less) [
        | inl left ↦
            let low = (before i inside).1 left in absurd (omega (arith, low, new))
        | inr longer ↦
            absurd (no_round states fit i longer.0 longer.1
            (leads_split states fit root (first i) i (longer.0 ∷ longer.1) i (leads i inside)
            (subst (λ (l : List ℕ). Leads states root l i) longer.2 way)))
      ]
    ]

    -- the way goes on by an edge
    on_by : (u : List ℕ) (i : ℕ) (e : Edge) → Leads states root u i →
        (s : State) → slice_get states i ≡ Some s → Contains s.edges e →
        Leads states root (u ++ e.letter ∷ []) e.target
    on_by u i e way s at has =
        leads_on states root u i (e.letter ∷ []) e.target way (e.target, s, at, has, refl)

    module _ (u : List ℕ) (i : ℕ) (inside : i < length states) (way : Leads states root u i)
        (s : State) (at : slice_get states i ≡ Some s) where
      -- what goes on from the word does so by an edge
      by_edge : (k : ℕ) → k < length states → (c : ℕ) → GoesOnBy (first k) u c →
          (e : Edge) × Contains s.edges e × (e.letter ≡ c)
      by_edge k less c on =
          let rest = leads_split states fit root u i (c ∷ on.0) k way
          (subst (λ (l : List ℕ). Leads states root l k) on.1 (leads k less)) in
          let same : rest.1 ≡ s = same_Some rest.1 s (sym rest.2 ∙ at) in (
            edge c rest.0,
            subst (λ (t : State). Contains t.edges (edge c rest.0)) same rest.3,
            refl,
          )

      -- before the next edge
      before_edge : (done : List Edge) (e : Edge) (rest : List Edge) →
          s.edges ≡ done ++ e ∷ rest → (n : ℕ) → Amid u done n → Before (u ++ e.letter ∷ []) n
      before_edge done e rest split n amid k less = (
        λ low. elim ((amid k less).0 low) [
          | inl left ↦ left_on (first k) u (e.letter ∷ []) left
          | inr on ↦
              let d = on.0 in
              subst (λ (l : List ℕ). IsLeft l (u ++ e.letter ∷ [])) (sym on.2.1)
              (left_at u d.letter e.letter on.2.0 (earlier done d on.1 split))
        ],
        λ left. elim (left_push (first k) u e.letter left) [
          | inl still ↦ (amid k less).1 (inl still)
          | inr on ↦
              let c = on.0 in
              let goes : GoesOnBy (first k) u c = on.2 in
              let by = by_edge k less c goes in
              let here = among by.0 (subst (λ (l : List Edge). Contains l by.0) split by.1)
              (let low = on.1 in let same = by.2 in omega (arith, low, same)) in
              (amid k less).1 (inr (
                by.0,
                here,
                subst (λ x. GoesOnBy (first k) u x) (sym by.2) goes,
              ))
        ],
      )
        where
          ascending : AreAscending s.edges
          ascending = (fit i s at).ascending

          earlier : (front : List Edge) (d : Edge) → Contains front d →
              s.edges ≡ front ++ e ∷ rest → d.letter < e.letter
          earlier front d has is = low front (subst AreAscending is ascending) has
            where
              low : (front : List Edge) → AreAscending (front ++ e ∷ rest) → Contains front d →
                  d.letter < e.letter
              low [] up has = absurd (let k = has.0 in let l = has.1 in omega (arith, l))
              low (x ∷ front) up has = elim (of_cons x front d has) [
                | inl same ↦ subst (λ (y : Edge). y.letter < e.letter) same
                    (up.0 e (behind_front front))
                | inr there ↦ low front up.1 there
              ]
                where
                  behind_front : (front : List Edge) → Contains (front ++ e ∷ rest) e
                  behind_front [] = in_front e rest
                  behind_front (y ∷ front) = later y (front ++ e ∷ rest) e (behind_front front)

          among : (d : Edge) → Contains (done ++ e ∷ rest) d → d.letter < e.letter →
              Contains done d
          among d has low = elim (Contains-append_cases done (e ∷ rest) d has) [
            | inl here ↦ here
            | inr there ↦ elim (of_cons e rest d there) [
              | inl same ↦
                  let equal = ap (λ (x : Edge). x.letter) same in absurd (omega (arith, equal, low))
              | inr behind ↦
                  let high = above done (subst AreAscending split ascending) behind in
                  absurd (omega (arith, high, low))
            ]
          ]
            where
              above : (front : List Edge) → AreAscending (front ++ e ∷ rest) → Contains rest d →
                  e.letter < d.letter
              above [] up has = up.0 d has
              above (x ∷ front) up has = above front up.1 has

      -- and behind it
      behind_edge : (done : List Edge) (e : Edge) (n m : ℕ) → Amid u done n →
          Before (u ++ e.letter ∷ []) n → After (u ++ e.letter ∷ []) m → Amid u (done ++ e ∷ []) m
      behind_edge done e n m amid before after k less = (
        λ low. elim ((after k less).0 low) [
          | inl left ↦ elim ((amid k less).0 ((before k less).1 left)) [
            | inl still ↦ inl still
            | inr on ↦
                inr (on.0, Contains-append_left done (e ∷ []) on.0 on.1, on.2)
          ]
          | inr on ↦ inr (
            e,
            Contains-push done e,
            (
              on.0,
              on.1 ∙ append_assoc u (e.letter ∷ []) on.0,
            ),
          )
        ],
        λ h. elim h [
          | inl left ↦ (after k less).1 (inl (left_on (first k) u (e.letter ∷ []) left))
          | inr on ↦ elim (Contains-append_cases done (e ∷ []) on.0 on.1) [
            | inl here ↦
                (after k less).1 (inl ((before k less).0 ((amid k less).1 (inr (on.0, here, on.2)))))
            | inr there ↦ (after k less).1 (inr (goes on.0 there on.2))
          ]
        ],
      )
        where
          goes : (d : Edge) → Contains (e ∷ []) d → GoesOnBy (first k) u d.letter →
              (w : List ℕ) × (first k ≡ (u ++ e.letter ∷ []) ++ w)
          goes d has on = elim (of_cons e [] d has) [
            | inl same ↦ (
              on.0,
              on.1 ∙ ap (λ (x : Edge). u ++ x.letter ∷ on.0) (sym same)
                  ∙ sym (append_assoc u (e.letter ∷ []) on.0),
            )
            | inr none ↦ absurd (let l = none.1 in omega (arith, l))
          ]

      -- the edges in turn
      record Takes (rest : List Edge) (n : ℕ) : Type 0 where
        next : ℕ
        left : left_behind states rest (below n) ≡ below next
        amid : Amid u s.edges next

      take_edges : ((t : ℕ) → t < i → (v : List ℕ) → Leads states root v t → (n : ℕ) →
          Before v n → Visits v t n) → (done rest : List Edge) → s.edges ≡ done ++ rest → (n : ℕ) →
          Amid u done n → Takes rest n
      take_edges each done [] split n amid = record {
        next = n;
        left = refl;
        amid = subst (λ (l : List Edge). Amid u l n) (sym (split ∙ append-nil done)) amid;
      }
      take_edges each done (e ∷ rest) split n amid =
          let has = subst (λ (l : List Edge). Contains l e) (sym split) (stands done) in
          let before = before_edge done e rest split n amid in
          let visit = each e.target ((fit i s at).within e has) (u ++ e.letter ∷ [])
          (on_by u i e way s at has) n before in
          let more = take_edges each (done ++ e ∷ []) rest
          (split ∙ sym (append_assoc done (e ∷ []) rest)) visit.next
          (behind_edge done e n visit.next amid before visit.after) in
          record {
            next = more.next;
            left = ap (left_behind states rest) visit.left ∙ more.left;
            amid = more.amid;
          }
        where
          stands : (front : List Edge) → Contains (front ++ e ∷ rest) e
          stands [] = in_front e rest
          stands (x ∷ front) = later x (front ++ e ∷ rest) e (stands front)

      -- then the state itself
      leave : (n : ℕ) → Before u n → n ≤ i → Takes s.edges n → Visits u i n
      leave n before new takes =
          let m = takes.next in
          let mine = is_first u i n inside way before new in
          let at_most : m ≤ i = elim (cases_lt i m) [
            | inl low ↦ absurd (not_mine mine ((takes.amid i inside).0 low))
            | inr high ↦ high
          ] in
          let at_least : i ≤ m = elim (cases_lt m i) [
            | inl low ↦ absurd (none_between mine m refl low (order m i low inside))
            | inr high ↦ high
          ] in
          let same : m ≡ i = omega (arith, at_most, at_least) in
          let all = edges_are in
          record {
            next = i + 1;
            left = left_after-new states fit i (below n) inside (below_new n i new)
                ∙ ap (λ (l : List Edge). left_behind states l (below n) ++ i ∷ []) all
                ∙ ap (λ (l : List ℕ). l ++ i ∷ []) (takes.left ∙ ap below same)
                ∙ sym (below-push i);
            after = λ k less. (
              λ low. elim (cases_lt k i) [
                | inl under ↦ elim ((takes.amid k less).0 (omega (arith, under, same))) [
                  | inl left ↦ inl left
                  | inr on ↦ inr (on.0.letter ∷ on.2.0, on.2.1)
                ]
                | inr over ↦
                    let itself : k ≡ i = omega (arith, low, over) in
                    inr ([], ap first itself ∙ mine ∙ sym (append-nil u))
              ],
              λ h. elim h [
                | inl left ↦
                    let low = (takes.amid k less).1 (inl left) in omega (arith, low, same)
                | inr on ↦ under k less same on.0 on.1
              ],
            );
            new = λ _. refl;
          }
        where
          not_mine : first i ≡ u → IsLeft (first i) u ⊎ BehindSome s.edges (first i) u → ⊥
          not_mine mine (inl left) =
              not_left_of_itself u (subst (λ (l : List ℕ). IsLeft l u) mine left)
          not_mine mine (inr on) = not_longer u on.0.letter on.2.0 (sym mine ∙ on.2.1)

          none_between : first i ≡ u → (k : ℕ) → takes.next ≡ k → k < i →
              ComesBefore (first k) (first i) → ⊥
          none_between mine k is low before =
              let less : k < length states = omega (arith, low, inside) in
              elim (before_cases (first k) u
              (subst (λ (l : List ℕ). ComesBefore (first k) l) mine before)) [
                | inl left ↦
                    let under = (takes.amid k less).1 (inl left) in omega (arith, under, is)
                | inr longer ↦
                    let goes : GoesOnBy (first k) u longer.0 = (longer.1, longer.2) in
                    let by = by_edge k less longer.0 goes in
                    let under = (takes.amid k less).1 (inr (
                      by.0,
                      by.1,
                      subst (λ x. GoesOnBy (first k) u x) (sym by.2) goes,
                    )) in
                    omega (arith, under, is)
              ]

          edges_are : edges_at states i ≡ s.edges
          edges_are = edges_at-is states i s inside
              (sym (get_or_from_slice_get states i s s at))

          under : (k : ℕ) → k < length states → takes.next ≡ i → (w : List ℕ) →
              first k ≡ u ++ w → k < i + 1
          under k less same [] is =
              let itself = leads_one states fit root u k i
              (subst (λ (l : List ℕ). Leads states root l k) (is ∙ append-nil u) (leads k less)) way in
              omega (arith, itself)
          under k less same (c ∷ w) is =
              let by = by_edge k less c (w, is) in
              let low = (takes.amid k less).1 (inr (
                by.0,
                by.1,
                subst (λ x. GoesOnBy (first k) u x) (sym by.2) (w, is),
              )) in
              omega (arith, low, same)

    visit : (depth i : ℕ) → i < depth → i < length states → (u : List ℕ) →
        Leads states root u i → (n : ℕ) → Before u n → Visits u i n
    visit zero i low inside u way n before = absurd (omega (arith, low))
    visit (suc depth) i low inside u way n before = elim (cases_lt i n) [
      | inl done ↦ record {
        next = n;
        left = left_after-known (length states) states i (below n) (below_known n i done);
        after = left_before u i n inside way before done;
        new = λ new. absurd (omega (arith, new, done));
      }
      | inr new ↦
          let s = get_or states i bare in
          let at = slice_get-get_or states i bare inside in
          leave u i inside way s at n before new
          (take_edges u i inside way s at (λ t less v ways m is.
          visit depth t (omega (arith, less, low)) (omega (arith, less, inside)) v ways m is) []
          s.edges refl n (λ k less. (
            λ under. inl ((before k less).0 under),
            λ h. elim h [
              | inl left ↦ (before k less).1 left
              | inr on ↦ absurd (let l = on.1.1 in omega (arith, l))
            ],
          )))
    ]

    -- so a visit from the root leaves the states by their numbers
    by_number : length states ≡ root + 1 → visit_of states ≡ below (length states)
    by_number last =
        let inside : root < length states = omega (arith, last) in
        let all = visit (length states) root inside inside [] refl 0 (λ k less. (
          λ none. absurd (omega (arith, none)),
          λ left. absurd (nothing (first k) left),
        )) in
        let is = all.new (omega arith) in
        let same : length states - 1 ≡ root = omega (arith, last) in
        ap (λ i. left_after (length states) states [] i) same
        ∙ all.left
        ∙ ap below (let e : all.next ≡ length states = omega (arith, is, last) in e)
      where
        nothing : (x : List ℕ) → IsLeft x [] → ⊥
        nothing [] h = h
        nothing (c ∷ x) h = h

-- numbered states are left by their numbers
pub visit_by_number : (states : List State) (root : ℕ) → AreStates states →
    IsNumbered states root → length states ≡ root + 1 → visit_of states ≡ below (length states)
visit_by_number states root fit numbered last =
    let many = numbered.many in
    let first : ℕ → List ℕ = λ k. get_or numbered.firsts k [] in
    let stands : (k : ℕ) → k < length states → slice_get numbered.firsts k ≡ Some (first k) =
    λ k less. slice_get-get_or numbered.firsts k [] (omega (arith, less, many)) in
    by_number states fit root first
    (λ k less. numbered.leads k (first k) (stands k less))
    (λ k v less way. numbered.least k (first k) v (stands k less) way)
    (λ i j low less. numbered.order i j (first i) (first j)
    (stands i (omega (arith, low, less))) (stands j less) low) last
