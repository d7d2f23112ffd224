-- The numbers of states follow the least words that lead to them.
use Rattle.std.proofs.Common.{arith, ◌≡◌, ℕ, suc, ◌<◌, ◌+◌, ◌≤◌, ◌∙◌, List, [], ◌∷◌, ◌++◌, ◌⊎◌, ◌↔◌, inl, inr, refl, sym, ap, subst, length, length-append, cond}
use Rattle.std.specs.Prelude.{Some, slice_get, Contains, nat_eq}
use Rattle.std.specs.Cmp.Lexicographic.{slice_cmp}
use Rattle.std.specs.Ordering.{nat_cmp, ordering_then}
use Rattle.std.specs.declared.cmp.Ordering.TheVariants.{Less, Equal, Greater}
use Rattle.std.proofs.lemmas.Cmp.{tied_itself, nat_cmp_total}
use Rattle.std.proofs.lemmas.Bool.{lt-ltb}
use Rattle.std.proofs.lemmas.Option.{same_Some, none-some, slice_get_within}
use Rattle.std.proofs.lemmas.List.Elements.{Contains-append_left, Contains-push_cases, Contains-push}
use Rattle.ux_dawg.specs.declared.state.State.{State}
use Rattle.ux_dawg.specs.declared.state.Edge.{Edge}
use Rattle.ux_dawg.specs.declared.pending.Frame.{Frame}
use Rattle.ux_dawg.specs.Register.{IsKept}
use Rattle.ux_dawg.specs.Paths.{edge, Leads, IsFit}
use Rattle.ux_dawg.specs.Order.{ComesBefore, IsNumbered, LeadsFrom, Way, IsOrdered}
use Rattle.ux_dawg.specs.Building.{letters}
use Rattle.ux_dawg.proofs.PathLemmas.{got, get_pushed, is_some_of, in_front, behind, kept_at}
use Rattle.ux_dawg.proofs.MinimalLemmas.{one_edge}

-- what comes before a word comes before what the word begins with
before_front : (u q r : List ℕ) → ComesBefore u (q ++ r) → ComesBefore u q
before_front [] q r h = h
before_front (a ∷ u) [] r h = tt
before_front (a ∷ u) (b ∷ q) r h = elim h [ inl less ↦ inl less | inr p ↦ inr (p.0, before_front u q r p.1) ]

before_longer : (q : List ℕ) (a : ℕ) → ComesBefore (q ++ a ∷ []) q
before_longer [] a = tt
before_longer (b ∷ q) a = inr (refl, before_longer q a)

-- by a state's number, or by its steps
leads_split : (states : List State) (n : ℕ) (top : State) → slice_get states n ≡ Some top → (v : List ℕ) (i : ℕ) →
    Leads states n v i ↔ (((v ≡ []) × (n ≡ i)) ⊎ LeadsFrom states top.edges v i)
leads_split states n top at [] i = (λ h. inl (refl, h), λ h. elim h [ inl p ↦ p.1 | inr none ↦ absurd none ])
leads_split states n top at (c ∷ v) i = (
  λ h. inr (h.0, subst (λ (s : State). Contains s.edges (edge c h.0)) (same_Some h.1 top (sym h.2 ∙ at)) h.3, h.4),
  λ h. elim h [ inl p ↦ absurd (let e = p.0 in cc) | inr p ↦ (p.0, top, at, p.1, p.2) ],
)

way_open : (states : List State) (fs : List Frame) (top : State) (a : ℕ) (u : List ℕ) (i : ℕ) →
    Way states (fs ++ record { state = top; letter = a } ∷ []) [] u i ↔ Way states fs top.edges u i
way_open states [] top a [] i = (λ h. h, λ h. h)
way_open states [] top a (b ∷ u) i = (
  λ h. elim h [ inl p ↦ p | inr p ↦ absurd (nothing u p.1) ],
  λ h. inl h,
)
  where
    nothing : (u : List ℕ) → LeadsFrom states [] u i → ⊥
    nothing [] h = h
    nothing (c ∷ u) h = none-some (edge c h.0) (is_some_of [] (edge c h.0) h.1).1
way_open states (f ∷ fs) top a [] i = (λ h. h, λ h. h)
way_open states (f ∷ fs) top a (b ∷ u) i = let r = way_open states fs top a u i in (
  λ h. elim h [ inl p ↦ inl p | inr p ↦ inr (p.0, r.0 p.1) ],
  λ h. elim h [ inl p ↦ inl p | inr p ↦ inr (p.0, r.1 p.1) ],
)

way_close : (states : List State) (fs : List Frame) (f : Frame) (top : State) (n : ℕ) → slice_get states n ≡ Some top → (u : List ℕ) (i : ℕ) →
    Way states fs (f.state.edges ++ edge f.letter n ∷ []) u i ↔ (Way states (fs ++ f ∷ []) top.edges u i ⊎ ((u ≡ letters (fs ++ f ∷ [])) × (n ≡ i)))
way_close states [] f top n at [] i = (λ h. inl h, λ h. elim h [ inl p ↦ p | inr p ↦ absurd (let e = p.0 in cc) ])
way_close states [] f top n at (b ∷ u) i = let split = leads_split states n top at u i in (
  λ h. elim (Contains-push_cases f.state.edges (edge f.letter n) (edge b h.0) h.1) [
    | inl old ↦ inl (inl (h.0, old, h.2))
    | inr new ↦
        let letter : f.letter ≡ b = ap (λ (e : Edge). e.letter) new in
        let number : n ≡ h.0 = ap (λ (e : Edge). e.target) new in
        elim (split.0 (subst (λ m. Leads states m u i) (sym number) h.2)) [
          | inl p ↦ inr (ap (λ x. x ∷ u) (sym letter) ∙ ap (λ l. f.letter ∷ l) p.0, p.1)
          | inr p ↦ inl (inr (letter, p))
        ]
  ],
  λ h. elim h [
    | inl old ↦ elim old [
      | inl p ↦ (p.0, Contains-append_left f.state.edges (edge f.letter n ∷ []) (edge b p.0) p.1, p.2)
      | inr p ↦ (n, subst (λ x. Contains (f.state.edges ++ edge f.letter n ∷ []) (edge x n)) p.0 (Contains-push f.state.edges (edge f.letter n)), split.1 (inr p.1))
    ]
    | inr p ↦
        let letter : f.letter ≡ b = let e = p.0 in cc in
        let none : u ≡ [] = let e = p.0 in cc in
        (n, subst (λ x. Contains (f.state.edges ++ edge f.letter n ∷ []) (edge x n)) letter (Contains-push f.state.edges (edge f.letter n)), split.1 (inl (none, p.1)))
  ],
)
way_close states (g ∷ fs) f top n at [] i = (λ h. absurd h, λ h. elim h [ inl p ↦ p | inr p ↦ absurd (let e = p.0 in cc) ])
way_close states (g ∷ fs) f top n at (b ∷ u) i = let r = way_close states fs f top n at u i in (
  λ h. elim h [
    | inl p ↦ inl (inl p)
    | inr p ↦ elim (r.0 p.1) [
      | inl old ↦ inl (inr (p.0, old))
      | inr new ↦ inr (ap (λ x. x ∷ u) (sym p.0) ∙ ap (λ l. g.letter ∷ l) new.0, new.1)
    ]
  ],
  λ h. elim h [
    | inl old ↦ elim old [ inl p ↦ inl p | inr p ↦ inr (p.0, r.1 (inl p.1)) ]
    | inr new ↦ inr (let e = new.0 in cc, r.1 (inr (let e = new.0 in cc, new.1)))
  ],
)

module _ (old new : List State)
    (stay : (i : ℕ) (s : State) → slice_get old i ≡ Some s → slice_get new i ≡ Some s)
    (fit : (i : ℕ) (s : State) → slice_get old i ≡ Some s → IsFit i s) where
  leads_stays : (n : ℕ) (u : List ℕ) (i : ℕ) → Leads old n u i → Leads new n u i
  leads_stays n [] i h = h
  leads_stays n (a ∷ u) i h = (h.0, h.1, stay n h.1 h.2, h.3, leads_stays h.0 u i h.4)

  -- back, and the state that is led to is an old one
  leads_back : (n : ℕ) (u : List ℕ) (i : ℕ) → n < length old → Leads new n u i → Leads old n u i × (i < length old)
  leads_back n [] i less h = (h, subst (λ m. m < length old) h less)
  leads_back n (a ∷ u) i less h =
      let s = got old n less in
      let same : h.1 ≡ s.0 = same_Some h.1 s.0 (sym h.2 ∙ stay n s.0 s.1) in
      let has = subst (λ (x : State). Contains x.edges (edge a h.0)) same h.3 in
      let low = (fit n s.0 s.1).within (edge a h.0) has in
      let rest = leads_back h.0 u i (omega (arith, low, less)) h.4 in
      ((h.0, s.0, s.1, has, rest.0), rest.1)

  from_stays : (es : List Edge) (u : List ℕ) (i : ℕ) → LeadsFrom old es u i → LeadsFrom new es u i
  from_stays es [] i h = h
  from_stays es (a ∷ u) i h = (h.0, h.1, leads_stays h.0 u i h.2)

  from_back : (es : List Edge) → ((e : Edge) → Contains es e → e.target < length old) → (u : List ℕ) (i : ℕ) → LeadsFrom new es u i → LeadsFrom old es u i × (i < length old)
  from_back es low [] i h = absurd h
  from_back es low (a ∷ u) i h = let r = leads_back h.0 u i (low (edge a h.0) h.1) h.2 in ((h.0, h.1, r.0), r.1)

  way_stays : (fs : List Frame) (es : List Edge) (u : List ℕ) (i : ℕ) → Way old fs es u i → Way new fs es u i
  way_stays [] es u i h = from_stays es u i h
  way_stays (f ∷ fs) es [] i h = h
  way_stays (f ∷ fs) es (a ∷ u) i h = elim h [ inl p ↦ inl (from_stays f.state.edges (a ∷ u) i p) | inr p ↦ inr (p.0, way_stays fs es u i p.1) ]

  way_back : (fs : List Frame) (es : List Edge) → ((f : Frame) → Contains fs f → IsFit (length old) f.state) → ((e : Edge) → Contains es e → e.target < length old) → (u : List ℕ) (i : ℕ) →
      Way new fs es u i → Way old fs es u i × (i < length old)
  way_back [] es fits low u i h = from_back es low u i h
  way_back (f ∷ fs) es fits low [] i h = absurd h
  way_back (f ∷ fs) es fits low (a ∷ u) i h = elim h [
    | inl p ↦ let r = from_back f.state.edges (fits f (in_front f fs)).within (a ∷ u) i p in (inl r.0, r.1)
    | inr p ↦ let r = way_back fs es (λ g has. fits g (behind f fs g has)) low u i p.1 in (inr (p.0, r.0), r.1)
  ]

-- a new letter comes after the steps that are there
past_open : (states : List State) (fs : List Frame) (es : List Edge) (a : ℕ) → ((f : Frame) → Contains fs f → (e : Edge) → Contains f.state.edges e → e.letter < f.letter) → ((e : Edge) → Contains es e → e.letter < a) →
    (u : List ℕ) (i : ℕ) → ComesBefore u (letters fs) → Way states fs es u i → ComesBefore u (letters fs ++ a ∷ [])
past_open states fs es a gaps under [] i before way = absurd before
past_open states [] es a gaps under (b ∷ u) i before way = inl (under (edge b way.0) way.1)
past_open states (f ∷ fs) es a gaps under (b ∷ u) i before way = elim before [
  | inl less ↦ inl less
  | inr p ↦ elim way [
    | inl q ↦ inl (gaps f (in_front f fs) (edge b q.0) q.1)
    | inr q ↦ inr (p.0, past_open states fs es a (λ g has. gaps g (behind f fs g has)) under u i p.1 q.1)
  ]
]

letters-push : (fs : List Frame) (f : Frame) → letters (fs ++ f ∷ []) ≡ letters fs ++ f.letter ∷ []
letters-push [] f = refl
letters-push (g ∷ fs) f = ap (λ l. g.letter ∷ l) (letters-push fs f)

pub ordered_start : IsOrdered [] [] [] (letters [])
ordered_start = record {
  firsts = [];
  many = refl;
  leads = λ i u at. absurd (none-some u at);
  least = λ i u v at. absurd (none-some u at);
  order = λ i j u v at. absurd (none-some u at);
  past = λ i u at. absurd (none-some u at);
}

pub ordered_open : (states : List State) (above : List Frame) (top : State) (a : ℕ) → IsOrdered states above top.edges (letters above) →
    ((f : Frame) → Contains above f → (e : Edge) → Contains f.state.edges e → e.letter < f.letter) → ((e : Edge) → Contains top.edges e → e.letter < a) →
    IsOrdered states (above ++ record { state = top; letter = a } ∷ []) [] (letters (above ++ record { state = top; letter = a } ∷ []))
ordered_open states above top a o gaps under = record {
  firsts = o.firsts;
  many = o.many;
  leads = λ i u at. (way_open states above top a u i).1 (o.leads i u at);
  least = λ i u v at way. o.least i u v at ((way_open states above top a v i).0 way);
  order = o.order;
  past = λ i u at. subst (ComesBefore u) (sym (letters-push above (record { state = top; letter = a })))
      (past_open states above top.edges a gaps under u i (o.past i u at) (o.leads i u at));
}

module _ (states : List State) (above : List Frame) (f : Frame) (top : State)
    (o : IsOrdered states (above ++ f ∷ []) top.edges (letters (above ++ f ∷ [])))
    (fit : (i : ℕ) (s : State) → slice_get states i ≡ Some s → IsFit i s)
    (fits : (g : Frame) → Contains (above ++ f ∷ []) g → IsFit (length states) g.state)
    (low : (e : Edge) → Contains top.edges e → e.target < length states) where
  -- all that is named comes before the finished state's word, and before the word above it
  past_close : (i : ℕ) (u : List ℕ) → slice_get o.firsts i ≡ Some u → ComesBefore u (letters above)
  past_close i u at = before_front u (letters above) (f.letter ∷ []) (subst (ComesBefore u) (letters-push above f) (o.past i u at))

  -- the finished state was there
  close_old : (n : ℕ) → slice_get states n ≡ Some top → IsOrdered states above (f.state.edges ++ edge f.letter n ∷ []) (letters above)
  close_old n at = record {
    firsts = o.firsts;
    many = o.many;
    leads = λ i u here. (way_close states above f top n at u i).1 (inl (o.leads i u here));
    least = λ i u v here way. elim ((way_close states above f top n at v i).0 way) [
      | inl old ↦ o.least i u v here old
      | inr new ↦ inr (subst (ComesBefore u) (sym new.0) (o.past i u here))
    ];
    order = o.order;
    past = past_close;
  }

  -- the finished state is new
  close_new : (states' : List State) (n : ℕ) → states' ≡ states ++ top ∷ [] → n ≡ length states → slice_get states' n ≡ Some top →
      ((i : ℕ) (s : State) → slice_get states i ≡ Some s → slice_get states' i ≡ Some s) →
      IsOrdered states' above (f.state.edges ++ edge f.letter n ∷ []) (letters above)
  close_new states' n grown number at stay =
      let p = letters (above ++ f ∷ []) in
      let many = o.many in
      record {
        firsts = o.firsts ++ p ∷ [];
        many = length-append o.firsts (p ∷ []) ∙ (ap (λ m. m + 1) many ∙ sym (ap (length {A = State}) grown ∙ length-append states (top ∷ [])));
        leads = λ i u here. elim (get_pushed o.firsts p i u here) [
          | inl old ↦ (way_close states' above f top n at u i).1 (inl (way_stays states states' stay fit (above ++ f ∷ []) top.edges u i (o.leads i u old)))
          | inr new ↦ (way_close states' above f top n at u i).1 (inr (new.1, number ∙ (sym many ∙ sym new.0)))
        ];
        least = λ i u v here way. elim ((way_close states' above f top n at v i).0 way) [
          | inl old ↦
              let back = way_back states states' stay fit (above ++ f ∷ []) top.edges fits low v i old in
              elim (get_pushed o.firsts p i u here) [
                | inl there ↦ o.least i u v there back.0
                | inr new ↦ absurd (let l = back.1 in omega (arith, l, new.0, many))
              ]
          | inr led ↦ elim (get_pushed o.firsts p i u here) [
            | inl there ↦ absurd (let w = slice_get_within o.firsts i u there in omega (arith, w, led.1, number, many))
            | inr new ↦ inl (new.1 ∙ sym led.0)
          ]
        ];
        order = λ i j u v here there less. elim (get_pushed o.firsts p i u here) [
          | inl x ↦ elim (get_pushed o.firsts p j v there) [
            | inl y ↦ o.order i j u v x y less
            | inr y ↦ subst (ComesBefore u) (sym y.1) (o.past i u x)
          ]
          | inr x ↦ elim (get_pushed o.firsts p j v there) [
            | inl y ↦ absurd (let w = slice_get_within o.firsts j v y in omega (arith, w, x.0, less))
            | inr y ↦ absurd (omega (arith, x.0, y.0, less))
          ]
        ];
        past = λ i u here. elim (get_pushed o.firsts p i u here) [
          | inl old ↦ past_close i u old
          | inr new ↦ subst (λ (w : List ℕ). ComesBefore w (letters above)) (sym (new.1 ∙ letters-push above f)) (before_longer (letters above) f.letter)
        ];
      }

  pub ordered_close : (states' : List State) (n : ℕ) → IsKept states states' top n → IsOrdered states' above (f.state.edges ++ edge f.letter n ∷ []) (letters above)
  ordered_close states' n kept = elim kept.grown [
    | inl same ↦ subst (λ (l : List State). IsOrdered l above (f.state.edges ++ edge f.letter n ∷ []) (letters above)) (sym same)
        (close_old n (subst (λ (l : List State). slice_get l n ≡ Some top) same kept.stored))
    | inr new ↦ close_new states' n new.0 new.1 kept.stored (kept_at states states' top n kept)
  ]

-- in the order of letters, or longer
less_or_longer : (u v : List ℕ) → ComesBefore u v → (slice_cmp nat_cmp u v ≡ Less) ⊎ ((b : ℕ) × (w : List ℕ) × (u ≡ v ++ b ∷ w))
less_or_longer [] v h = absurd h
less_or_longer (a ∷ u) [] h = inr (a, u, refl)
less_or_longer (a ∷ u) (b ∷ v) h = elim h [
  | inl less ↦ inl (ap (λ o. ordering_then o (slice_cmp nat_cmp u v)) (ap (λ c. cond c Less (cond (nat_eq a b) Equal Greater)) (lt-ltb a b less)))
  | inr p ↦ elim (less_or_longer u v p.1) [
    | inl rest ↦ inl (ap (λ o. ordering_then o (slice_cmp nat_cmp u v)) (ap (nat_cmp a) (sym p.0) ∙ tied_itself nat_cmp_total a) ∙ rest)
    | inr q ↦ inr (q.0, q.1, ap (λ x. x ∷ u) p.0 ∙ ap (λ l. b ∷ l) q.2)
  ]
]

module _ (states : List State) (fit : (i : ℕ) (s : State) → slice_get states i ≡ Some s → IsFit i s) where
  pub falls : (i : ℕ) (u : List ℕ) (j : ℕ) → Leads states i u j → j ≤ i
  falls i [] j h = omega (arith, h)
  falls i (a ∷ u) j h = let l = (fit i h.1 h.2).within (edge a h.0) h.3 in let r = falls h.0 u j h.4 in omega (arith, l, r)

  -- no word that leads to a state begins with another that leads there
  no_longer : (v : List ℕ) (n i b : ℕ) (w : List ℕ) → Leads states n v i → Leads states n (v ++ b ∷ w) i → ⊥
  no_longer [] n i b w h k = absurd (let l = (fit n k.1 k.2).within (edge b k.0) k.3 in let r = falls k.0 w i k.4 in omega (arith, l, r, h))
  no_longer (a ∷ v) n i b w h k =
      let same : k.1 ≡ h.1 = same_Some k.1 h.1 (sym k.2 ∙ h.2) in
      let one = one_edge h.1.edges (fit n h.1 h.2).ascending (edge a h.0) (edge a k.0) h.3 (subst (λ (s : State). Contains s.edges (edge a k.0)) same k.3) refl in
      let targets : h.0 ≡ k.0 = ap (λ (e : Edge). e.target) one in
      no_longer v k.0 i b w (subst (λ m. Leads states m v i) targets h.4) k.4

-- the root is numbered last
pub numbered : (s : List State) (t : State) (s₂ : List State) (r : ℕ) → IsOrdered s [] t.edges [] →
    ((i : ℕ) (x : State) → slice_get s i ≡ Some x → IsFit i x) → ((i : ℕ) (x : State) → slice_get s₂ i ≡ Some x → IsFit i x) →
    ((e : Edge) → Contains t.edges e → e.target < length s) →
    ((i : ℕ) (x : State) → slice_get s i ≡ Some x → slice_get s₂ i ≡ Some x) → length s₂ ≡ suc r → r ≡ length s → slice_get s₂ r ≡ Some t → IsNumbered s₂ r
numbered s t s₂ r o fit fit₂ low stay long number at = let many = o.many in record {
  firsts = o.firsts ++ [] ∷ [];
  many = omega (arith, length-append o.firsts ([] ∷ []), many, long, number);
  leads = leads;
  least = λ i u v here led. elim (before i u v here led) [
    | inl same ↦ inl same
    | inr less ↦ elim (less_or_longer u v less) [
      | inl first ↦ inr first
      | inr more ↦ absurd (no_longer s₂ fit₂ v r i more.0 more.1 led (subst (λ (w : List ℕ). Leads s₂ r w i) more.2 (leads i u here)))
    ]
  ];
  order = λ i j u v here there less. elim (get_pushed o.firsts [] i u here) [
    | inl x ↦ elim (get_pushed o.firsts [] j v there) [
      | inl y ↦ o.order i j u v x y less
      | inr y ↦ subst (ComesBefore u) (sym y.1) (o.past i u x)
    ]
    | inr x ↦ elim (get_pushed o.firsts [] j v there) [
      | inl y ↦ absurd (let w = slice_get_within o.firsts j v y in omega (arith, w, x.0, less))
      | inr y ↦ absurd (omega (arith, x.0, y.0, less))
    ]
  ];
}
  where
    leads : (i : ℕ) (u : List ℕ) → slice_get (o.firsts ++ [] ∷ []) i ≡ Some u → Leads s₂ r u i
    leads i u here = elim (get_pushed o.firsts [] i u here) [
      | inl old ↦ (leads_split s₂ r t at u i).1 (inr (from_stays s s₂ stay fit t.edges u i (o.leads i u old)))
      | inr new ↦ (leads_split s₂ r t at u i).1 (inl (new.1, let m = o.many in omega (arith, new.0, m, number)))
    ]

    before : (i : ℕ) (u v : List ℕ) → slice_get (o.firsts ++ [] ∷ []) i ≡ Some u → Leads s₂ r v i → (u ≡ v) ⊎ ComesBefore u v
    before i u v here led = elim ((leads_split s₂ r t at v i).0 led) [
      | inl none ↦ elim (get_pushed o.firsts [] i u here) [
        | inl old ↦ inr (subst (ComesBefore u) (sym none.0) (o.past i u old))
        | inr new ↦ inl (new.1 ∙ sym none.0)
      ]
      | inr way ↦
          let back = from_back s s₂ stay fit t.edges low v i way in
          elim (get_pushed o.firsts [] i u here) [
            | inl old ↦ o.least i u v old back.0
            | inr new ↦ absurd (let l = back.1 in let m = o.many in omega (arith, l, new.0, m))
          ]
    ]
