-- The shortest ways to the states, as the edges are followed from the root down.
use Rattle.std.proofs.Common.{arith, ◌≡◌, ◌≢◌, ℕ, ◌+◌, ◌<◌, ◌≤◌, min, List, [], ◌∷◌, ◌++◌, ◌⊎◌, inl, inr, refl, sym, ◌∙◌, ap, subst, length, take, set, get_or, get_or-set_same, get_or-set_other, length-set, replicate, drop}
use Rattle.std.specs.Prelude.{Contains, Some, slice_get}
use Rattle.std.proofs.lemmas.Bool.{cases_eq, cases_lt}
use Rattle.std.proofs.lemmas.List.{append-nil, get_or-replicate, length-replicate, length_push, take_all, take_more}
use Rattle.std.proofs.lemmas.List.Elements.{Contains-append_left, Contains-get_or, Contains-push, Contains-push_cases}
use Rattle.std.proofs.lemmas.Option.{same_Some, slice_get_read, slice_get_within}
use Rattle.std.proofs.Math.ListN.{drop_of_length-le}
use Rattle.ux_base.proofs.FirstsLemmas.{Contains-none}
use Rattle.ux_dawg.specs.Paths.{edge, AreStates, IsStep, Leads}
use Rattle.ux_dawg.specs.declared.state.Edge.{Edge}
use Rattle.ux_dawg.specs.declared.state.State.{State}
use Rattle.ux_image_lists.specs.Depths.{AreDepths, AreLowered}
use Rattle.ux_image_lists.specs.declared.shortest.TheConstants.{UNREACHED}

-- a number that was lowered at a place
module _ (old new : List ℕ) (place number : ℕ) (within : place < length old)
    (is : new ≡ set old place (min (get_or old place 0) number)) where
  pub lowered_long : length new ≡ length old
  lowered_long = ap (length {A = ℕ}) is ∙ length-set old place (min (get_or old place 0) number)

  pub lowered_here : get_or new place 0 ≡ min (get_or old place 0) number
  lowered_here = ap (λ (l : List ℕ). get_or l place 0) is
      ∙ get_or-set_same old place (min (get_or old place 0) number) 0 within

  pub lowered_there : (t : ℕ) → t ≢ place → get_or new t 0 ≡ get_or old t 0
  lowered_there t other = ap (λ (l : List ℕ). get_or l t 0) is
      ∙ get_or-set_other old place t (min (get_or old place 0) number) 0 other

  pub lowered_low : (t : ℕ) → get_or new t 0 ≤ get_or old t 0
  lowered_low t = elim (cases_eq t place) [
    | inl same ↦ subst (λ k. get_or new k 0 ≤ get_or old k 0) (sym same)
        (let h = lowered_here in omega (arith, h))
    | inr other ↦ let h = lowered_there t other in omega (arith, h)
  ]

-- no edge lowers nothing
pub lowered_none : (edges : List Edge) (depth : ℕ) (old : List ℕ) →
    AreLowered (take 0 edges) depth old old
lowered_none edges depth old = record {
  long = refl;
  low = λ t. omega arith;
  targets = λ e has. absurd (Contains-none e has);
  from = λ t. inl refl;
}

-- the target of one more edge
pub lowered_more : (edges : List Edge) (i depth : ℕ) (e : Edge) (old mid new : List ℕ) →
    AreLowered (take i edges) depth old mid → i < length edges →
    ((d : Edge) → get_or edges i d ≡ e) → e.target < length mid →
    new ≡ set mid e.target (min (get_or mid e.target 0) depth) →
    AreLowered (take (i + 1) edges) depth old new
lowered_more edges i depth e old mid new so_far less at within is =
    subst (λ (l : List Edge). AreLowered l depth old new) (sym taken) (record {
      long = lowered_long mid new e.target depth within is ∙ so_far.long;
      low = λ t. let one = lowered_low mid new e.target depth within is t in
          let two = so_far.low t in omega (arith, one, two);
      targets = λ f has. elim (Contains-push_cases (take i edges) e f has) [
        | inl before ↦ let one = lowered_low mid new e.target depth within is f.target in
            let two = so_far.targets f before in omega (arith, one, two)
        | inr same ↦ subst (λ (d : Edge). get_or new d.target 0 ≤ depth) same
            (let h = lowered_here mid new e.target depth within is in omega (arith, h))
      ];
      from = λ t. elim (cases_eq t e.target) [
        | inl same ↦ here t same
        | inr other ↦ there t (lowered_there mid new e.target depth within is t other)
      ];
    })
  where
    taken : take (i + 1) edges ≡ take i edges ++ e ∷ []
    taken = take_more edges i e less ∙ ap (λ (d : Edge). take i edges ++ d ∷ []) (at e)

    there : (t : ℕ) → get_or new t 0 ≡ get_or mid t 0 →
        (get_or new t 0 ≡ get_or old t 0)
        ⊎ ((a : ℕ) × Contains (take i edges ++ e ∷ []) (edge a t) × (get_or new t 0 ≡ depth))
    there t same = elim (so_far.from t) [
      | inl stays ↦ inl (same ∙ stays)
      | inr lowered ↦ inr (
        lowered.0,
        Contains-append_left (take i edges) (e ∷ []) (edge lowered.0 t) lowered.1,
        same ∙ lowered.2,
      )
    ]

    here : (t : ℕ) → t ≡ e.target →
        (get_or new t 0 ≡ get_or old t 0)
        ⊎ ((a : ℕ) × Contains (take i edges ++ e ∷ []) (edge a t) × (get_or new t 0 ≡ depth))
    here t same =
        let h : get_or new t 0 ≡ min (get_or mid t 0) depth =
        subst (λ k. get_or new k 0 ≡ min (get_or mid k 0) depth) (sym same)
        (lowered_here mid new e.target depth within is) in
        elim (cases_lt depth (get_or mid t 0)) [
          | inl lower ↦ inr (
            e.letter,
            subst (λ k. Contains (take i edges ++ e ∷ []) (edge e.letter k)) (sym same)
                (Contains-push (take i edges) e),
            omega (arith, h, lower),
          )
          | inr most ↦ there t (omega (arith, h, most))
        ]

-- one more step of a way
pub leads_push : (states : List State) (way : List ℕ) (i m a t : ℕ) → Leads states i way m →
    IsStep states m a t → Leads states i (way ++ a ∷ []) t
leads_push states [] i m a t leads step = (
  t,
  step.0,
  subst (λ n. slice_get states n ≡ Some step.0) (sym leads) step.1,
  step.2,
  refl,
)
leads_push states (b ∷ way) i m a t leads step =
    (leads.0, leads.1, leads.2, leads.3, leads_push states way leads.0 m a t leads.4 step)

-- a way is empty, or ends in a step
pub leads_last : (states : List State) (way : List ℕ) (i t : ℕ) → Leads states i way t →
    ((i ≡ t) × (way ≡ []))
    ⊎ ((front : List ℕ) × (a m : ℕ) × (way ≡ front ++ a ∷ []) × Leads states i front m
    × IsStep states m a t)
leads_last states [] i t leads = inl (leads, refl)
leads_last states (b ∷ way) i t leads = elim (leads_last states way leads.0 t leads.4) [
  | inl last ↦ inr (
    [],
    b,
    i,
    ap (λ (l : List ℕ). b ∷ l) last.1,
    refl,
    (
      leads.1,
      leads.2,
      subst (λ k. Contains leads.1.edges (edge b k)) last.0 leads.3,
    ),
  )
  | inr more ↦ inr (
    b ∷ more.0,
    more.1,
    more.2,
    ap (λ (l : List ℕ). b ∷ l) more.3,
    (leads.0, leads.1, leads.2, leads.3, more.4),
    more.5,
  )
]

module _ (states : List State) (fit : AreStates states) (root : ℕ) where
  -- a state above which all edges were followed is as near as its number says
  pub nearest : (done : ℕ) (depths : List ℕ) → AreDepths states root done depths → (i : ℕ) →
      length states ≤ i + 1 + done → (way : List ℕ) → Leads states root way i →
      get_or depths i 0 ≤ length way
  nearest done depths are i above way leads = elim (leads_last states way root i leads) [
    | inl none ↦
        let start = are.start in
        let same = none.0 in
        let here : get_or depths i 0 ≡ 0 = subst (λ k. get_or depths k 0 ≡ 0) same start in
        omega (arith, here)
    | inr last ↦
        let step = last.5 in
        let under = (fit last.2 step.0 step.1).within (edge last.1 i) step.2 in
        let low = are.low last.2 last.0 last.1 i (omega (arith, under, above)) last.4 step in
        let long = ap (length {A = ℕ}) last.3 in
        let one = length_push last.0 last.1 in
        omega (arith, low, long, one)
  ]

  -- the edges of the next state are followed
  pub depths_more : (done number depth : ℕ) (s : State) (depths new : List ℕ) →
      AreDepths states root done depths → length states ≡ root + 1 → number + done ≡ root →
      slice_get states number ≡ Some s → depth ≡ min (get_or depths number 0 + 1) UNREACHED →
      AreLowered s.edges depth depths new → AreDepths states root (done + 1) new
  depths_more done number depth s depths new are last at stands depth_is lowered = record {
    long = lowered.long ∙ are.long;
    found = λ i less found. elim (lowered.from i) [
      | inl same ↦
          let old = are.found i less (omega (arith, same, found)) in
          record { way = old.way; leads = old.leads; is = old.is ∙ sym same }
      | inr through ↦
          let is = through.2 in
          let here : number < length states = omega (arith, last, at) in
          let old = are.found number here (omega (arith, is, found, depth_is)) in
          let old_is = old.is in
          let long = length_push old.way through.0 in
          record {
            way = old.way ++ through.0 ∷ [];
            leads = leads_push states old.way root number through.0 i old.leads
                (s, stands, through.1);
            is = omega (arith, is, found, depth_is, old_is, long);
          }
    ];
    start = let low = lowered.low root in let start = are.start in omega (arith, low, start);
    low = λ m way a t above leads step. elim (cases_lt (m + done) (length states)) [
      | inl here ↦
          let same : m ≡ number = omega (arith, here, above, last, at) in
          let way_to = subst (λ k. Leads states root way k) same leads in
          let near = nearest done depths are number (omega (arith, last, at)) way way_to in
          let is = same_Some step.0 s
          (sym step.1 ∙ ap (λ k. slice_get states k) same ∙ stands) in
          let target = lowered.targets (edge a t)
          (subst (λ (x : State). Contains x.edges (edge a t)) is step.2) in
          omega (arith, near, target, depth_is)
      | inr before ↦
          let old = are.low m way a t before leads step in
          let low = lowered.low t in
          omega (arith, old, low)
    ];
  }

-- before any edge was followed, the root alone is found
pub depths_start : (states : List State) (root : ℕ) (far depths : List ℕ) →
    length states ≡ root + 1 → far ≡ replicate (length states) UNREACHED →
    depths ≡ set far root 0 → AreDepths states root 0 depths
depths_start states root far depths last far_is is = record {
  long = ap (length {A = ℕ}) is ∙ length-set far root 0 ∙ long;
  found = λ i less found. elim (cases_eq i root) [
    | inl same ↦ record {
      way = [];
      leads = sym same;
      is = sym (ap (λ n. get_or depths n 0) same ∙ here);
    }
    | inr other ↦
        let there : get_or depths i 0 ≡ get_or far i 0 =
        ap (λ (l : List ℕ). get_or l i 0) is ∙ get_or-set_other far root i 0 0 other in
        let none = each i (omega (arith, less, long)) in
        absurd (omega (arith, found, there, none))
  ];
  start = here;
  low = λ m way a t above leads step.
      let inside = slice_get_within states m step.0 step.1 in
      absurd (omega (arith, inside, above));
}
  where
    long : length far ≡ length states
    long = ap (length {A = ℕ}) far_is ∙ length-replicate (length states) UNREACHED

    each : (i : ℕ) → i < length far → get_or far i 0 ≡ UNREACHED
    each i less = ap (λ (l : List ℕ). get_or l i 0) far_is
        ∙ get_or-replicate (length states) i UNREACHED 0 (omega (arith, less, long))

    here : get_or depths root 0 ≡ 0
    here = ap (λ (l : List ℕ). get_or l root 0) is
        ∙ get_or-set_same far root 0 0 (omega (arith, last, long))

-- the targets of a state's edges are states
pub targets_within : (states : List State) → AreStates states → (number : ℕ) (s : State)
    (edges : List Edge) (depths : List ℕ) → number < length states → s ≡ get_or states number s →
    edges ≡ s.edges → length depths ≡ length states → (k : ℕ) (d : Edge) → k < length edges →
    (get_or edges k d).target < length depths
targets_within states fit number s edges depths less is same long k d within =
    let stands = slice_get_read states (length states) number s refl less is in
    let low = (fit number s stands).within (get_or edges k d)
    (subst (λ (l : List Edge). Contains l (get_or edges k d)) same
    (Contains-get_or edges k d within)) in
    omega (arith, low, less, long)

-- a slice of all items that was written takes their place
pub refill : (n : ℕ) (new old : List ℕ) → length new ≡ length old → n ≡ length old →
    take n (new ++ drop (length new) old) ≡ new
refill n new old same all =
    ap (λ (l : List ℕ). take n (new ++ l)) (drop_of_length-le old {i = length new} (omega (arith, same)))
    ∙ ap (λ (l : List ℕ). take n l) (append-nil new) ∙ take_all n new (omega (arith, same, all))
