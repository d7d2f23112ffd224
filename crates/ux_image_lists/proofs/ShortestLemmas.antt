-- The shortest form with each list is the nearest state that has it.
use Rattle.std.proofs.Common.{arith, ◌≡◌, ℕ, ◌+◌, ◌-◌, ◌^◌, ◌<◌, ◌≤◌, min, List, [], ◌∷◌, ◌⊎◌, inl, inr, refl, sym, ◌∙◌, ap, subst, length, get_or, replicate}
use Rattle.std.specs.Prelude.{IfSome, Option, None, Some, slice_get}
use Rattle.std.proofs.lemmas.Bool.{cases_eq, cases_lt}
use Rattle.std.proofs.lemmas.List.{get_or-replicate, length-replicate}
use Rattle.std.proofs.lemmas.Option.{none-some, same_Some, slice_get_within}
use Rattle.ux_dawg.specs.Paths.{edge, AreStates, Leads}
use Rattle.ux_dawg.specs.declared.state.State.{State}
use Rattle.ux_dawg.proofs.PathLemmas.{got}
use Rattle.ux_image_reader.specs.Fronts.{AreAccepted}
use Rattle.ux_image_reader.specs.Layout.{final_number}
use Rattle.ux_image_reader.proofs.StatesLemmas.{final_number-le}
use Rattle.ux_image_lists.specs.Depths.{lowered_at, AreDepths, AreLeast}
use Rattle.ux_image_lists.specs.Shortest.{AreShortest, IsShortest}
use Rattle.ux_image_lists.specs.declared.shortest.TheConstants.{UNREACHED}
use Rattle.ux_image_lists.proofs.DepthLemmas.{lowered_here, lowered_long, lowered_low, lowered_there, nearest}
use Rattle.ux_image_lists.proofs.ReachedLemmas.{all_reached, leads_right, list_used, right_leads}

-- a way takes a step down for each letter
way_falls : (states : List State) → AreStates states → (way : List ℕ) (i j : ℕ) →
    Leads states i way j → length way + j ≤ i
way_falls states fit [] i j leads = omega (arith, leads)
way_falls states fit (a ∷ way) i j leads =
    let low = (fit i leads.1 leads.2).within (edge a leads.0) leads.3 in
    let rest = way_falls states fit way leads.0 j leads.4 in
    omega (arith, low, rest)

-- where the number of a list is from
abbrev IsFrom : List State → (depths shortest : List ℕ) → ℕ → Type 0
IsFrom states depths shortest list = (get_or shortest list 0 ≡ UNREACHED)
    ⊎ ((i : ℕ) × (s : State) × (slice_get states i ≡ Some s) × (s.code ≡ Some list)
    × (get_or shortest list 0 ≡ get_or depths i 0))

-- before any state no list has a number
pub least_none : (states : List State) (depths : List ℕ) (lists : ℕ) (far : List ℕ) →
    far ≡ replicate lists UNREACHED → AreLeast states depths 0 lists far
least_none states depths lists far is = record {
  long = ap (length {A = ℕ}) is ∙ length-replicate lists UNREACHED;
  low = λ i list s less at code. absurd (omega (arith, less));
  from = λ list less. inl (ap (λ (l : List ℕ). get_or l list 0) is
      ∙ get_or-replicate lists list UNREACHED 0 less);
}

-- a list of a state is one of all
pub list_within : (lists : ℕ) (states : List State) → AreAccepted lists states → (i list : ℕ)
    (s : State) → i < length states → s ≡ get_or states i s → s.code ≡ Some list → list < lists
list_within lists states accepted i list s less is code =
    let low = final_number-le states i s less is in
    let number = ap final_number code in
    let used = accepted.used in
    omega (arith, low, number, used)

-- so it has a place among those of all lists
pub some_within : (code : Option ℕ) (lists long : ℕ) →
    ((list : ℕ) → code ≡ Some list → list < lists) → long ≡ lists →
    IfSome code (λ list. list < long)
some_within None lists long each same = tt
some_within (Some k) lists long each same = let low = each k refl in omega (arith, low, same)

-- the list of one more state
pub least_more : (states : List State) (depths : List ℕ) (done lists : ℕ) (s : State)
    (shortest new : List ℕ) → AreLeast states depths done lists shortest →
    slice_get states done ≡ Some s → ((list : ℕ) → s.code ≡ Some list → list < lists) →
    new ≡ lowered_at shortest s.code (get_or depths done 0) →
    AreLeast states depths (done + 1) lists new
least_more states depths done lists s shortest new are stands within is = by s.code refl is
  where
    here : (i : ℕ) (t : State) → (i < done → ⊥) → i < done + 1 → slice_get states i ≡ Some t →
        (i ≡ done) × (t ≡ s)
    here i t high low at =
        let same : i ≡ done = omega (arith, high, low) in
        (same, same_Some t s (sym at ∙ ap (λ n. slice_get states n) same ∙ stands))

    by : (code : Option ℕ) → s.code ≡ code → new ≡ lowered_at shortest code (get_or depths done 0) →
        AreLeast states depths (done + 1) lists new
    by None none is = record {
      long = ap (length {A = ℕ}) is ∙ are.long;
      low = λ i list t less at code. elim (cases_lt i done) [
        | inl before ↦ subst (λ (l : List ℕ). get_or l list 0 ≤ get_or depths i 0) (sym is)
            (are.low i list t before at code)
        | inr high ↦
            let same = here i t (λ l. omega (arith, l, high)) less at in
            absurd (none-some list (sym none ∙ ap (λ (x : State). x.code) (sym same.1) ∙ code))
      ];
      from = λ list less.
          subst (λ (l : List ℕ). IsFrom states depths l list) (sym is) (are.from list less);
    }
    by (Some k) some is =
        let inside : k < length shortest =
        (let low = within k some in let long = are.long in omega (arith, low, long)) in
        record {
          long = lowered_long shortest new k (get_or depths done 0) inside is ∙ are.long;
          low = λ i list t less at code. elim (cases_lt i done) [
            | inl before ↦
                let one = lowered_low shortest new k (get_or depths done 0) inside is list in
                let two = are.low i list t before at code in
                omega (arith, one, two)
            | inr high ↦
                let same = here i t (λ l. omega (arith, l, high)) less at in
                let list_is : list ≡ k = same_Some list k
                (sym code ∙ ap (λ (x : State). x.code) same.1 ∙ some) in
                let h = lowered_here shortest new k (get_or depths done 0) inside is in
                let at_list : get_or new list 0 ≡ get_or new k 0 =
                ap (λ n. get_or new n 0) list_is in
                let at_i : get_or depths i 0 ≡ get_or depths done 0 =
                ap (λ n. get_or depths n 0) same.0 in
                omega (arith, h, at_list, at_i)
          ];
          from = λ list less. elim (cases_eq list k) [
            | inl same ↦ from_here list same
                (subst (λ n. get_or new n 0 ≡ min (get_or shortest n 0) (get_or depths done 0))
                (sym same) (lowered_here shortest new k (get_or depths done 0) inside is))
                (are.from list less)
            | inr other ↦ from_there list
                (lowered_there shortest new k (get_or depths done 0) inside is list other)
                (are.from list less)
          ];
        }
      where
        from_there : (list : ℕ) → get_or new list 0 ≡ get_or shortest list 0 →
            IsFrom states depths shortest list → IsFrom states depths new list
        from_there list same (inl none) = inl (same ∙ none)
        from_there list same (inr some) = inr (some.0, some.1, some.2, some.3, same ∙ some.4)

        from_here : (list : ℕ) → list ≡ k →
            get_or new list 0 ≡ min (get_or shortest list 0) (get_or depths done 0) →
            IsFrom states depths shortest list → IsFrom states depths new list
        from_here list same h before = elim (cases_lt (get_or depths done 0) (get_or shortest list 0)) [
          | inl lower ↦ inr (
            done,
            s,
            stands,
            some ∙ ap Some (sym same),
            omega (arith, h, lower),
          )
          | inr most ↦ from_there list (omega (arith, h, most)) before
        ]

-- the least of all states' numbers
pub shortest_are : (states : List State) (lists : ℕ) (depths shortest : List ℕ) →
    AreAccepted lists states → AreStates states → length states < 2 ^ 32 →
    AreDepths states (length states - 1) (length states) depths →
    AreLeast states depths (length states) lists shortest → AreShortest states lists shortest
shortest_are states lists depths shortest accepted fit few are least = record {
  many = least.long;
  each = λ list less.
      let used = list_used lists states accepted list less in
      let inside = slice_get_within states used.0 used.1 used.2 in
      let way = all_reached lists states accepted used.0 inside in
      let near = nearest states fit (length states - 1) (length states) depths are used.0
      (omega arith) way.0 way.1 in
      let falls = way_falls states fit way.0 (length states - 1) used.0 way.1 in
      let low = least.low used.0 list used.1 inside used.2 used.3 in
      by list (omega (arith, near, falls, low, few)) (least.from list less);
}
  where
    by : (list : ℕ) → get_or shortest list 0 < UNREACHED → IsFrom states depths shortest list →
        IsShortest states list (get_or shortest list 0)
    by list low (inl none) = absurd (omega (arith, low, none))
    by list low (inr from) =
        let is = from.4 in
        let inside = slice_get_within states from.0 from.1 from.2 in
        let found = are.found from.0 inside (omega (arith, low, is)) in
        let some = accepted.some in
        let top = got states (length states - 1) (omega (arith, some)) in
        record {
          form = found.way;
          accepted = (
            length states - 1,
            (let e : length states ≡ length states - 1 + 1 = omega (arith, some) in e),
            (
              top.0,
              top.1,
              leads_right states found.way (length states - 1) from.0 list top.0 from.1 top.1 from.2
                  found.leads from.3,
            ),
          );
          is = found.is ∙ sym is;
          least = λ other accepts.
              let path = accepts.2 in
              let last = accepts.1 in
              let way = right_leads states other accepts.0 list path.0 path.1 path.2 in
              let inside = slice_get_within states way.0 way.1 way.2 in
              let root_is : accepts.0 ≡ length states - 1 = omega (arith, last) in
              let near = nearest states fit (length states - 1) (length states) depths are way.0
              (omega arith) other (subst (λ r. Leads states r other way.0) root_is way.3) in
              let low = least.low way.0 list way.1 inside way.2 way.4 in
              omega (arith, near, low);
        }
