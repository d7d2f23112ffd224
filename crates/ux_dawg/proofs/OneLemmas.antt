-- There is one automaton of a list of forms: the forms decide its states and their numbers.
use Rattle.std.proofs.Common.{arith, ◌≡◌, ℕ, zero, suc, ◌<◌, ◌∙◌, List, [], ◌∷◌, ◌++◌, ◌⊎◌, ◌↔◌, inl, inr, refl, sym, ap, subst, length}
use Rattle.std.specs.Prelude.{Option, Some, None, slice_get, Contains}
use Rattle.std.specs.Cmp.Lexicographic.{slice_cmp}
use Rattle.std.specs.Ordering.{nat_cmp}
use Rattle.std.specs.declared.cmp.Ordering.TheVariants.{Less, Equal}
use Rattle.std.proofs.lemmas.Cmp.{nat_list_cmp_total, tied_itself}
use Rattle.std.proofs.lemmas.Option.{same_Some, none-some, slice_get_within}
use Rattle.ux_dawg.specs.declared.state.State.{State}
use Rattle.ux_dawg.specs.declared.state.Edge.{Edge}
use Rattle.ux_dawg.specs.declared.state.Form.{Form}
use Rattle.ux_dawg.specs.Paths.{edge, IsPath, Leads, IsFit}
use Rattle.ux_dawg.specs.Order.{ComesBefore}
use Rattle.ux_dawg.specs.Building.{bare}
use Rattle.ux_dawg.specs.Automaton.{IsAutomaton}
use Rattle.ux_dawg.proofs.PathLemmas.{got, is_some_of, in_front}
use Rattle.ux_dawg.proofs.MinimalLemmas.{one_edge, same_edges, same_code}
use Rattle.ux_dawg.proofs.OrderLemmas.{falls}

-- of two words one comes first
one_way : (u v : List ℕ) → ComesBefore u v → ComesBefore v u → ⊥
one_way [] v h k = h
one_way (a ∷ u) [] h k = k
one_way (a ∷ u) (b ∷ v) h k = elim h [
  | inl less ↦ elim k [ inl more ↦ absurd (omega (arith, less, more)) | inr p ↦ absurd (let e = p.0 in omega (arith, less, e)) ]
  | inr p ↦ elim k [ inl more ↦ absurd (let e = p.0 in omega (arith, more, e)) | inr q ↦ one_way u v p.1 q.1 ]
]

AreOrdered : List (List ℕ) → Type 0
AreOrdered xs = (i j : ℕ) (u v : List ℕ) → slice_get xs i ≡ Some u → slice_get xs j ≡ Some v → i < j → ComesBefore u v

Stands : List (List ℕ) → List ℕ → Type 0
Stands xs u = (i : ℕ) × (slice_get xs i ≡ Some u)

-- ordered words are told by which they are
same_words : (xs ys : List (List ℕ)) → AreOrdered xs → AreOrdered ys → ((u : List ℕ) → Stands xs u → Stands ys u) → ((u : List ℕ) → Stands ys u → Stands xs u) → xs ≡ ys
unfolding AreOrdered Stands
same_words [] [] ox oy to back = refl
same_words [] (y ∷ ys) ox oy to back = absurd (none-some y (back y (0, refl)).1)
same_words (x ∷ xs) [] ox oy to back = absurd (none-some x (to x (0, refl)).1)
same_words (x ∷ xs) (y ∷ ys) ox oy to back =
    let heads : x ≡ y = first (to x (0, refl)) (back y (0, refl)) in
    let tails = same_words xs ys
    (λ i j u v a b less. ox (suc i) (suc j) u v a b (omega (arith, less)))
    (λ i j u v a b less. oy (suc i) (suc j) u v a b (omega (arith, less)))
    (λ u s. into heads u s (to u (suc s.0, s.1)))
    (λ u s. onto heads u s (back u (suc s.0, s.1))) in
    ap (λ (z : List ℕ). z ∷ xs) heads ∙ ap (λ (zs : List (List ℕ)). y ∷ zs) tails
  where
    first : (i : ℕ) × (slice_get (y ∷ ys) i ≡ Some x) → (i : ℕ) × (slice_get (x ∷ xs) i ≡ Some y) → x ≡ y
    first (zero, a) s = sym (same_Some y x a)
    first (suc i, a) (zero, b) = same_Some x y b
    first (suc i, a) (suc j, b) = absurd (one_way x y (ox 0 (suc j) x y refl b (omega arith)) (oy 0 (suc i) y x refl a (omega arith)))

    into : x ≡ y → (u : List ℕ) → (i : ℕ) × (slice_get xs i ≡ Some u) → (i : ℕ) × (slice_get (y ∷ ys) i ≡ Some u) → (i : ℕ) × (slice_get ys i ≡ Some u)
    into heads u s (zero, a) = absurd (let h = ox 0 (suc s.0) x u refl s.1 (omega arith) in let k = subst (ComesBefore x) (sym (heads ∙ same_Some y u a)) h in one_way x x k k)
    into heads u s (suc i, a) = (i, a)

    onto : x ≡ y → (u : List ℕ) → (i : ℕ) × (slice_get ys i ≡ Some u) → (i : ℕ) × (slice_get (x ∷ xs) i ≡ Some u) → (i : ℕ) × (slice_get xs i ≡ Some u)
    onto heads u s (zero, a) = absurd (let h = oy 0 (suc s.0) y u refl s.1 (omega arith) in let k = subst (ComesBefore y) (sym (sym heads ∙ same_Some x u a)) h in one_way y y k k)
    onto heads u s (suc i, a) = (i, a)

module _ (states : List State) where
  joined : (u : List ℕ) (i j : ℕ) (w : List ℕ) (c : ℕ) → Leads states i u j → IsPath states j w c → IsPath states i (u ++ w) c
  joined [] i j w c h p = subst (λ n. IsPath states n w c) (sym h) p
  joined (a ∷ u) i j w c h p = let r = joined u h.0 j w c h.4 p in (h.1, h.2, (h.0, r.0, h.3, r.1, r.2))

  parted : (u : List ℕ) (i : ℕ) (w : List ℕ) (c : ℕ) → IsPath states i (u ++ w) c → (j : ℕ) × Leads states i u j × IsPath states j w c
  parted [] i w c p = (i, refl, p)
  parted (a ∷ u) i w c p = let q = p.2 in let r = parted u q.0 w c (q.1, q.3, q.4) in (r.0, (q.0, p.0, p.1, q.2, r.1), r.2)

  module _ (fit : (i : ℕ) (s : State) → slice_get states i ≡ Some s → IsFit i s) where
    -- a word leads to one state
    one_end : (u : List ℕ) (n i j : ℕ) → Leads states n u i → Leads states n u j → i ≡ j
    one_end [] n i j h k = sym h ∙ k
    one_end (a ∷ u) n i j h k =
        let same : k.1 ≡ h.1 = same_Some k.1 h.1 (sym k.2 ∙ h.2) in
        let one = one_edge h.1.edges (fit n h.1 h.2).ascending (edge a k.0) (edge a h.0) (subst (λ (s : State). Contains s.edges (edge a k.0)) same k.3) h.3 refl in
        let targets : k.0 ≡ h.0 = ap (λ (e : Edge). e.target) one in
        one_end u h.0 i j h.4 (subst (λ m. Leads states m u j) targets k.4)

-- what follows a word
module _ (forms : List Form) (some : 0 < length forms) where
  Follows : List ℕ → List ℕ → ℕ → Type 0
  Follows u w c = Contains forms (record { letters = u ++ w; code = c })

  rights : (A : List State) (r : ℕ) → IsAutomaton forms A r → (u : List ℕ) (i : ℕ) → Leads A r u i → (w : List ℕ) (c : ℕ) → IsPath A i w c ↔ Contains forms (record { letters = u ++ w; code = c })
  rights A r au u i led w c = (
    λ p. (au.exact (u ++ w) c).0 (joined A u r i w c led p),
    λ h. let q = parted A u r w c ((au.exact (u ++ w) c).1 h) in subst (λ n. IsPath A n w c) (one_end A au.fit u r q.0 i q.1 led) q.2,
  )

  -- a state of one by its word in the other
  across : (A : List State) (r : ℕ) → IsAutomaton forms A r → (B : List State) (q : ℕ) → IsAutomaton forms B q → (u : List ℕ) (i : ℕ) → Leads A r u i →
      (j : ℕ) × Leads B q u j × ((w : List ℕ) (c : ℕ) → IsPath A i w c ↔ IsPath B j w c)
  across A r au B q bu u i led =
      let low = falls A au.fit r u i led in
      let last = au.last in
      let p = au.paths some i (omega (arith, low, last)) in
      let there = parted B u q p.0 p.1 ((bu.exact (u ++ p.0) p.1).1 ((rights A r au u i led p.0 p.1).0 p.2)) in (
        there.0,
        there.1,
        λ w c. (
          λ x. (rights B q bu u there.0 there.1 w c).1 ((rights A r au u i led w c).0 x),
          λ x. (rights A r au u i led w c).1 ((rights B q bu u there.0 there.1 w c).0 x),
        ),
      )

  ends_within : (A : List State) (r : ℕ) → IsAutomaton forms A r → (u : List ℕ) (i : ℕ) → Leads A r u i → i < length A
  ends_within A r au u i led = let low = falls A au.fit r u i led in let last = au.last in omega (arith, low, last)

  no_two : (u v : List ℕ) → (u ≡ v) ⊎ (slice_cmp nat_cmp u v ≡ Less) → (v ≡ u) ⊎ (slice_cmp nat_cmp v u ≡ Less) → u ≡ v
  no_two u v (inl same) k = same
  no_two u v (inr less) (inl same) = sym same
  no_two u v (inr less) (inr more) = absurd (let o = nat_list_cmp_total in let t = o.trans u v u less more in let e = tied_itself o u in let f : Equal ≡ Less = sym e ∙ t in cc)

  -- the least word of a state is a least word of the other automaton
  first_too : (A : List State) (r : ℕ) (au : IsAutomaton forms A r) (B : List State) (q : ℕ) (bu : IsAutomaton forms B q) → (u : List ℕ) (i : ℕ) → slice_get au.numbered.firsts i ≡ Some u → (j : ℕ) × (slice_get bu.numbered.firsts j ≡ Some u)
  first_too A r au B q bu u i at =
      let led = au.numbered.leads i u at in
      let there = across A r au B q bu u i led in
      let in' = ends_within B q bu u there.0 there.1 in
      let many = bu.numbered.many in
      let v = got bu.numbered.firsts there.0 (omega (arith, in', many)) in
      let back = across B q bu A r au v.0 there.0 (bu.numbered.leads there.0 v.0 v.1) in
      let same = au.minimal.apart i back.0 (ends_within A r au u i led) (ends_within A r au v.0 back.0 back.1)
      (λ w c. (λ x. (back.2 w c).0 ((there.2 w c).0 x), λ x. (there.2 w c).1 ((back.2 w c).1 x))) in
      let words = no_two u v.0 (au.numbered.least i u v.0 at (subst (Leads A r v.0) (sym same) back.1)) (bu.numbered.least there.0 v.0 u v.1 there.1) in
      (there.0, v.1 ∙ ap Some (sym words))

  module _ (A : List State) (r : ℕ) (au : IsAutomaton forms A r) (B : List State) (q : ℕ) (bu : IsAutomaton forms B q) where
    same_firsts : au.numbered.firsts ≡ bu.numbered.firsts
    unfolding AreOrdered Stands
    same_firsts = same_words au.numbered.firsts bu.numbered.firsts au.numbered.order bu.numbered.order
        (λ u s. first_too A r au B q bu u s.0 s.1) (λ u s. first_too B q bu A r au u s.0 s.1)

    same_rights : (i : ℕ) → i < length A → (w : List ℕ) (c : ℕ) → IsPath A i w c ↔ IsPath B i w c
    same_rights i less =
        let many = au.numbered.many in
        let u = got au.numbered.firsts i (omega (arith, less, many)) in
        let there = across A r au B q bu u.0 i (au.numbered.leads i u.0 u.1) in
        let here = bu.numbered.leads i u.0 (subst (λ (l : List (List ℕ)). slice_get l i ≡ Some u.0) same_firsts u.1) in
        let same : there.0 ≡ i = one_end B bu.fit u.0 q there.0 i there.1 here in
        λ w c. (λ x. subst (λ n. IsPath B n w c) same ((there.2 w c).0 x), λ x. (there.2 w c).1 (subst (λ n. IsPath B n w c) (sym same) x))

    many_same : length A ≡ length B
    many_same = sym au.numbered.many ∙ (ap (length {A = List ℕ}) same_firsts ∙ bu.numbered.many)

-- a path goes on behind a step
path_edge : (states : List State) → ((i : ℕ) (s : State) → slice_get states i ≡ Some s → IsFit i s) → (i : ℕ) (s : State) → slice_get states i ≡ Some s → (e : Edge) → Contains s.edges e → (w : List ℕ) (c : ℕ) →
    IsPath states e.target w c ↔ IsPath states i (e.letter ∷ w) c
path_edge states fit i s at e has w c = (
  λ h. (s, at, (e.target, h.0, has, h.1, h.2)),
  λ h.
      let p = h.2 in
      let same : h.0 ≡ s = same_Some h.0 s (sym h.1 ∙ at) in
      let one = one_edge s.edges (fit i s at).ascending (edge e.letter p.0) e (subst (λ (x : State). Contains x.edges (edge e.letter p.0)) same p.2) has refl in
      let targets : p.0 ≡ e.target = ap (λ (d : Edge). d.target) one in
      (p.1, subst (λ n. slice_get states n ≡ Some p.1) targets p.3, p.4),
)

-- a step of one stands in the other
edge_too : (forms : List Form) → 0 < length forms → (A : List State) (r : ℕ) → IsAutomaton forms A r → (B : List State) (q : ℕ) → IsAutomaton forms B q → length A ≡ length B →
    ((i : ℕ) → i < length A → (w : List ℕ) (c : ℕ) → IsPath A i w c ↔ IsPath B i w c) →
    (i : ℕ) (s t : State) → slice_get A i ≡ Some s → slice_get B i ≡ Some t → (e : Edge) → Contains s.edges e → Contains t.edges e
edge_too forms some A r au B q bu long same i s t at there e has =
    let low = (au.fit i s at).within e has in
    let in' = slice_get_within A i s at in
    let p = au.paths some e.target (omega (arith, low, in')) in
    let x = (same i in' (e.letter ∷ p.0) p.1).0 ((path_edge A au.fit i s at e has p.0 p.1).0 p.2) in
    let y = x.2 in
    let is : x.0 ≡ t = same_Some x.0 t (sym x.1 ∙ there) in
    let has' = subst (λ (z : State). Contains z.edges (edge e.letter y.0)) is y.2 in
    let numbers : y.0 ≡ e.target = bu.minimal.apart y.0 e.target (slice_get_within B y.0 y.1 y.3) (omega (arith, low, in', long)) (λ w c. (
      λ h. (same e.target (omega (arith, low, in')) w c).0 ((path_edge A au.fit i s at e has w c).1 ((same i in' (e.letter ∷ w) c).1 ((path_edge B bu.fit i t there (edge e.letter y.0) has' w c).0 h))),
      λ h. (path_edge B bu.fit i t there (edge e.letter y.0) has' w c).1 ((same i in' (e.letter ∷ w) c).0 ((path_edge A au.fit i s at e has w c).0 ((same e.target (omega (arith, low, in')) w c).1 h))),
    )) in
    subst (λ n. Contains t.edges (edge e.letter n)) numbers has'

same_lists : (xs ys : List State) → length xs ≡ length ys → ((i : ℕ) (x y : State) → slice_get xs i ≡ Some x → slice_get ys i ≡ Some y → x ≡ y) → xs ≡ ys
same_lists [] [] long each = refl
same_lists [] (y ∷ ys) long each = absurd (omega (arith, long))
same_lists (x ∷ xs) [] long each = absurd (omega (arith, long))
same_lists (x ∷ xs) (y ∷ ys) long each =
    ap (λ (z : State). z ∷ xs) (each 0 x y refl refl) ∙ ap (λ (zs : List State). y ∷ zs) (same_lists xs ys (omega (arith, long)) (λ i a b h k. each (suc i) a b h k))

-- the forms decide the automaton
pub one_automaton : (forms : List Form) → 0 < length forms → (A : List State) (r : ℕ) → IsAutomaton forms A r → (B : List State) (q : ℕ) → IsAutomaton forms B q → A ≡ B
one_automaton forms some A r au B q bu =
    let long = many_same forms some A r au B q bu in
    let same = same_rights forms some A r au B q bu in
    let back : (i : ℕ) → i < length B → (w : List ℕ) (c : ℕ) → IsPath B i w c ↔ IsPath A i w c = λ i less w c. let m = same i (omega (arith, less, long)) w c in (m.1, m.0) in
    same_lists A B long (λ i s t at there.
    let codes = same_code s.code t.code (λ c. let m = same i (slice_get_within A i s at) [] c in (
      λ h. let x = m.0 (s, at, h) in subst (λ (z : State). z.code ≡ Some c) (same_Some x.0 t (sym x.1 ∙ there)) x.2,
      λ h. let x = m.1 (t, there, h) in subst (λ (z : State). z.code ≡ Some c) (same_Some x.0 s (sym x.1 ∙ at)) x.2,
    )) in
    let edges = same_edges s.edges t.edges (au.fit i s at).ascending (bu.fit i t there).ascending
    (edge_too forms some A r au B q bu long same i s t at there) (edge_too forms some B q bu A r au (sym long) back i t s there at) in
    λ j. record { code = codes j; edges = edges j })

-- the automaton of no form is one state
bare_alone : (A : List State) (r : ℕ) → IsAutomaton [] A r → A ≡ bare ∷ []
bare_alone A r au = by A (λ i less w c p. none i less w c p) au.fit (let l = au.last in let e = root_is in omega (arith, l, e))
  where
    none : (i : ℕ) → i < length A → (w : List ℕ) (c : ℕ) → IsPath A i w c → ⊥
    none i less w c p =
        let u = au.minimal.reached i less in
        let h = (au.exact (u.0 ++ w) c).0 (joined A u.0 r i w c u.1 p) in
        none-some (record { letters = u.0 ++ w; code = c }) (is_some_of [] (record { letters = u.0 ++ w; code = c }) h).1

    root_is : r ≡ 0
    root_is = let l = au.last in au.minimal.apart r 0 (omega (arith, l)) (omega (arith, l)) (λ w c. (
      λ p. absurd (none r (omega (arith, l)) w c p),
      λ p. absurd (none 0 (omega (arith, l)) w c p),
    ))

    by : (A : List State) → ((i : ℕ) → i < length A → (w : List ℕ) (c : ℕ) → IsPath A i w c → ⊥) → ((i : ℕ) (s : State) → slice_get A i ≡ Some s → IsFit i s) → length A ≡ 1 → A ≡ bare ∷ []
    by [] none fit long = absurd (omega (arith, long))
    by (s ∷ t ∷ A) none fit long = absurd (omega (arith, long))
    by (s ∷ []) none fit long =
        let code : s.code ≡ None = no_code s.code refl in
        let edges : s.edges ≡ [] = no_edges s.edges refl in
        λ j. record { code = code j; edges = edges j } ∷ []
      where
        no_code : (o : Option ℕ) → s.code ≡ o → s.code ≡ None
        no_code None is = is
        no_code (Some c) is = absurd (none 0 (omega arith) [] c (s, refl, is))

        no_edges : (es : List Edge) → s.edges ≡ es → s.edges ≡ []
        no_edges [] is = is
        no_edges (e ∷ es) is = absurd (let l = (fit 0 s refl).within e (subst (λ (l : List Edge). Contains l e) (sym is) (in_front e es)) in omega (arith, l))

-- the forms, also none, decide the automaton
pub one : (forms : List Form) (A : List State) (r : ℕ) → IsAutomaton forms A r → (B : List State) (q : ℕ) → IsAutomaton forms B q → A ≡ B
one [] A r au B q bu = bare_alone A r au ∙ sym (bare_alone B q bu)
one (f ∷ forms) A r au B q bu = one_automaton (f ∷ forms) (omega arith) A r au B q bu
