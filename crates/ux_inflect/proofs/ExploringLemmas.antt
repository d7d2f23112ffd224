-- One turn of a search keeps what is known, and leaves less work.
use Rattle.std.proofs.Common.{arith, ◌≡◌, ℕ, zero, suc, ◌+◌, ◌*◌, ◌^◌, ◌<◌, ◌≤◌, List, [], ◌∷◌, ◌++◌, refl, sym, ◌∙◌, ap, subst, map, length, drop, ◌⊎◌, inl, inr, Bool, true, false, Some, None, append_assoc, append-nil, length-append}
use Rattle.std.specs.Prelude.{Contains, Option, slice_get}
use Rattle.std.proofs.Math.Nat.{mul-le-mul_left, mul-le-mul_right, pow-suc}
use Rattle.std.proofs.lemmas.Option.{slice_get_within}
use Rattle.ux_base.proofs.Lists.{contains_first, contains_later, less_or}
use Rattle.ux_base.proofs.OrderedLists.{slice_get-append_left}
use Rattle.ux_base.proofs.DistinctLemmas.{slice_get-append}
use Rattle.ux_net.specs.declared.net_graph.NetGraph.{NetGraph}
use Rattle.ux_net.specs.declared.state.State.{State}
use Rattle.ux_net.specs.Nets.{states_of}
use Rattle.ux_inflect.specs.declared.classes.Ranks.{Ranks}
use Rattle.ux_inflect.specs.declared.config.Config.{Config}
use Rattle.ux_inflect.specs.declared.config.Frame.{Frame}
use Rattle.ux_inflect.specs.declared.exploring.Link.{Link}
use Rattle.ux_inflect.specs.declared.stroke.Detail.{Detail}
use Rattle.ux_inflect.specs.Endings.{AreRanks}
use Rattle.ux_inflect.specs.Places.{Place, next, along_edge, returning, from_state, from_frames, place_of}
use Rattle.ux_inflect.specs.Searches.{Walk, here, step, AreMet, IsAt, AreLinks, IsLinked, IsExploring, IsExplored, IsNoted}
use Rattle.ux_inflect.specs.Weights.{total, weight, fan_of, work_from, work_left}
use Rattle.ux_inflect.proofs.WeightLemmas.{lower_step, power_some, power_more}

total_append : {A : Type 0} (f : A → ℕ) (xs ys : List A) → total f (xs ++ ys) ≡ total f xs + total f ys
total_append f [] ys = omega arith
total_append f (x ∷ xs) ys = let r = total_append f xs ys in omega (arith, r)

total_below : {A : Type 0} (f : A → ℕ) (m : ℕ) (xs : List A) → ((x : A) → Contains xs x → f x ≤ m) →
    total f xs ≤ length xs * m
total_below f m [] h = omega arith
total_below f m (x ∷ xs) h =
    let first = h x (contains_first x xs) in
    let rest = total_below f m xs (λ y c. h y (contains_later x xs y c)) in
    omega (arith, first, rest)

member_below : {A : Type 0} (f : A → ℕ) (xs : List A) (n : ℕ) (x : A) → slice_get xs n ≡ Some x →
    f x ≤ total f xs
member_below f [] n x h = cc
member_below f (y ∷ xs) zero x h = let e : y ≡ x = cc in subst (λ (z : _). f z ≤ f y + total f xs) e (omega arith)
member_below f (y ∷ xs) (suc n) x h = let r = member_below f xs n x h in omega (arith, r)

length_mapped : {A B : Type 0} (f : A → B) (xs : List A) → length (map f xs) ≡ length xs
length_mapped f [] = refl
length_mapped f (x ∷ xs) = ap suc (length_mapped f xs)

edges_below : (net : List NetGraph) (g s : ℕ) (state : State) →
    slice_get (states_of net g) s ≡ Some state → 2 + length state.edges ≤ fan_of net
edges_below net zero s state found = cc
edges_below [] (suc g) s state found = cc
edges_below (graph ∷ net) (suc zero) s state found =
    let m = member_below (λ (x : State). length x.edges) graph.states s state found in
    omega (arith, m)
edges_below (graph ∷ net) (suc (suc g)) s state found =
    let m = edges_below net (suc g) s state found in omega (arith, m)

module _ (detail : Detail) (net : List NetGraph) where
  -- there are fewer steps than the fan says
  steps_few : (p : Place) → 1 + length (next detail net p) ≤ fan_of net
  steps_few p = by p.frames
    where
      returns : (below : List Frame) (b : Bool) → length (returning below p b) ≤ 1
      returns below true = omega arith
      returns below false = omega arith

      in_state : (g s : ℕ) (below : List Frame) (o : Option State) → slice_get (states_of net g) s ≡ o →
          1 + length (from_state detail g below p o) ≤ fan_of net
      in_state g s below None found = omega arith
      in_state g s below (Some state) found =
          let r = returns below state.is_final in
          let l = length-append (returning below p state.is_final)
          (map (along_edge detail g below p) state.edges) in
          let m = length_mapped (along_edge detail g below p) state.edges in
          let e = edges_below net g s state found in
          omega (arith, r, l, m, e)

      by : (frames : List Frame) → 1 + length (from_frames detail net p frames) ≤ fan_of net
      by [] = omega arith
      by (frame ∷ below) = in_state frame.graph frame.state below
          (slice_get (states_of net frame.graph) frame.state) refl

  module _ (ranks : Ranks) (are : AreRanks net ranks) where
    abbrev work : List ℕ × Place → ℕ
    work s = work_from net ranks s.1.frames

    fan_some : 0 < fan_of net
    fan_some = omega arith

    -- what all steps leave to do is less than what is left before them
    steps_light : (p : Place) → AreMet net p.frames →
        total work (next detail net p) < work_from net ranks p.frames
    steps_light p met = by (weight ranks p.frames) refl
      where
        lower : (s : List ℕ × Place) → Contains (next detail net p) s →
            weight ranks s.1.frames < weight ranks p.frames
        lower s c = (lower_step detail net ranks are p s.0 s.1 met c).1

        by : (w : ℕ) → weight ranks p.frames ≡ w →
            total work (next detail net p) < work_from net ranks p.frames
        by zero is =
            let t = total_below work 0 (next detail net p) (λ s c. absurd
            (let l = lower s c in omega (arith, l, is))) in
            let some = power_some (fan_of net) (weight ranks p.frames) fan_some in
            omega (arith, t, some)
        by (suc k) is =
            let each : (s : List ℕ × Place) → Contains (next detail net p) s → work s ≤ fan_of net ^ k =
            λ s c. grow (weight ranks s.1.frames) k (let l = lower s c in omega (arith, l, is)) in
            let t = total_below work (fan_of net ^ k) (next detail net p) each in
            let some = power_some (fan_of net) k fan_some in
            let few : suc (length (next detail net p)) ≤ fan_of net =
            (let f = steps_few p in omega (arith, f)) in
            let m = mul-le-mul_right {m = suc (length (next detail net p))} {n = fan_of net}
            (fan_of net ^ k) few in
            subst (λ n. total work (next detail net p) < fan_of net ^ n) (sym is)
            (subst (λ n. total work (next detail net p) < n) (sym (pow-suc (fan_of net) k))
            (omega (arith, t, some, m)))
          where
            grow : (j k : ℕ) → j ≤ k → fan_of net ^ j ≤ fan_of net ^ k
            grow j k h = elim (less_or j k) [
              | inl less ↦
                  let m = power_more (fan_of net) j k fan_some less in
                  let n = mul-le-mul_left {m = 1} {n = fan_of net} (fan_of net ^ j) fan_some in
                  omega (arith, m, n)
              | inr more ↦
                  let e : j ≡ k = omega arith in
                  subst (λ n. fan_of net ^ j ≤ fan_of net ^ n) e (omega arith)
            ]

  -- a walk and then a step
  walk_then : {p q : Place} {u : List ℕ} → Walk detail net p u q → (text : List ℕ) (r : Place) →
      Contains (next detail net q) (text, r) → Walk detail net p (u ++ text) r
  walk_then (here {p = p}) text r c = subst (λ (t : List ℕ). Walk detail net p t r)
      (append-nil text) (step c here)
  walk_then (step {p = p} {text = t} {rest = rest} d walk) text r c =
      subst (λ (u : List ℕ). Walk detail net p u r) (sym (append_assoc t rest text))
      (step d (walk_then walk text r c))

  -- what stands in a list that grew: it was there, or is new
  at_cases : (old more : List Config) (n : ℕ) (config : Config) →
      slice_get (old ++ more) n ≡ Some config →
      (slice_get old n ≡ Some config) ⊎ Contains more config
  at_cases [] more n config h = inr (contained more n config h)
    where
      contained : (xs : List Config) (n : ℕ) (x : Config) → slice_get xs n ≡ Some x → Contains xs x
      contained [] n x h = cc
      contained (y ∷ ys) zero x h =
          let e : y ≡ x = cc in subst (λ (z : Config). Contains (y ∷ ys) z) e (contains_first y ys)
      contained (y ∷ ys) (suc n) x h = contains_later y ys x (contained ys n x h)
  at_cases (y ∷ old) more zero config h = inl h
  at_cases (y ∷ old) more (suc n) config h = at_cases old more n config h

  at_kept : (old more : List Config) (n : ℕ) (q : Place) → IsAt old n q → IsAt (old ++ more) n q
  at_kept old more n q at = (at.0, slice_get-append old more n at.0 at.1, at.2)

  links_kept : (old more : List Config) (row : List Link) (steps : List (List ℕ × Place)) →
      AreLinks old row steps → AreLinks (old ++ more) row steps
  links_kept old more row steps are = record {
    whole = λ text q c. let w = are.whole text q c in
        (w.0, w.1, w.2, at_kept old more w.0.to q w.3);
    only = λ link c. let o = are.only link c in (o.0, o.1, at_kept old more link.to o.0 o.2);
  }

  last_row : (links : List (List Link)) (row : List Link) →
      slice_get (links ++ row ∷ []) (length links) ≡ Some row
  last_row [] row = refl
  last_row (l ∷ links) row = last_row links row

  -- one turn keeps what is known
  pub turn_kept : (ranks : Ranks) → AreRanks net ranks → (start : Place) (keys : List Config)
      (links : List (List Link)) (config : Config) (new : List Config) (row : List Link) →
      IsExploring detail net start keys links → slice_get keys (length links) ≡ Some config →
      IsNoted keys (next detail net (place_of config)) new row →
      IsExploring detail net start new (links ++ row ∷ [])
  turn_kept ranks are start keys links config new row known at noted =
      subst (λ (k : List Config). IsExploring detail net start k (links ++ row ∷ []))
      (sym noted.grown) (record {
        first = at_kept keys noted.more 0 start known.first;
        below = (
            let a = length-append keys noted.more in
            let b = length-append links (row ∷ []) in
            let c = slice_get_within keys (length links) config at in
            omega (arith, a, b, c));
        linked = linked;
        reached = reached;
        met = met;
      })
    where
      grown : List Config
      grown = keys ++ noted.more

      old_linked : (n : ℕ) (other : Config) → n < length links → slice_get grown n ≡ Some other →
          IsLinked detail net grown (links ++ row ∷ []) n other
      old_linked n other less h =
          let within = slice_get_within keys (length links) config at in
          let there : slice_get keys n ≡ Some other =
          sym (slice_get-append_left keys noted.more n (omega (arith, within, less))) ∙ h in
          let l = known.linked n other less there in
          record {
            row = l.row;
            found = slice_get-append links (row ∷ []) n l.row l.found;
            are = links_kept keys noted.more l.row (next detail net (place_of other)) l.are;
          }

      new_linked : (other : Config) → slice_get grown (length links) ≡ Some other →
          IsLinked detail net grown (links ++ row ∷ []) (length links) other
      new_linked other h =
          let same : config ≡ other =
          cc (slice_get-append keys noted.more (length links) config at, h) in
          subst (λ (x : Config). IsLinked detail net grown (links ++ row ∷ []) (length links) x) same
          (record {
            row = row;
            found = last_row links row;
            are = subst (λ (k : List Config). AreLinks k row (next detail net (place_of config)))
                noted.grown noted.links;
          })

      linked : (n : ℕ) (other : Config) → n < length (links ++ row ∷ []) →
          slice_get grown n ≡ Some other → IsLinked detail net grown (links ++ row ∷ []) n other
      linked n other less h = elim (less_or n (length links)) [
        | inl before ↦ old_linked n other before h
        | inr after ↦
            let len = length-append links (row ∷ []) in
            let e : n ≡ length links = omega (arith, len, less, after) in
            subst (λ m. IsLinked detail net grown (links ++ row ∷ []) m other) (sym e)
            (new_linked other (subst (λ m. slice_get grown m ≡ Some other) e h))
      ]

      reached : (n : ℕ) (other : Config) → slice_get grown n ≡ Some other →
          (text : List ℕ) × Walk detail net start text (place_of other)
      reached n other h = elim (at_cases keys noted.more n other h) [
        | inl there ↦ known.reached n other there
        | inr c ↦
            let from = noted.from other c in
            let w = known.reached (length links) config at in
            (w.0 ++ from.0, walk_then w.1 from.0 (place_of other) from.1)
      ]

      met : (n : ℕ) (other : Config) → slice_get grown n ≡ Some other →
          AreMet net (place_of other).frames
      met n other h = elim (at_cases keys noted.more n other h) [
        | inl there ↦ known.met n other there
        | inr c ↦
            let from = noted.from other c in
            (lower_step detail net ranks are (place_of config) from.0 (place_of other)
            (known.met (length links) config at) from.1).0
      ]

  dropped : (keys : List Config) (n : ℕ) (config : Config) → slice_get keys n ≡ Some config →
      drop n keys ≡ config ∷ drop (suc n) keys
  dropped [] n config h = cc
  dropped (y ∷ keys) zero config h =
      let e : y ≡ config = cc in ap (λ (x : Config). x ∷ keys) e
  dropped (y ∷ keys) (suc n) config h = dropped keys n config h

  drop_joined : (keys more : List Config) (n : ℕ) → n ≤ length keys →
      drop n (keys ++ more) ≡ drop n keys ++ more
  drop_joined keys more zero h = refl
  drop_joined [] more (suc n) h = absurd (omega arith)
  drop_joined (y ∷ keys) more (suc n) h = drop_joined keys more n (omega arith)

  -- and leaves less work
  pub turn_less : (ranks : Ranks) → AreRanks net ranks → (keys : List Config) (n : ℕ)
      (config : Config) (new : List Config) (row : List Link) →
      AreMet net (place_of config).frames → slice_get keys n ≡ Some config →
      IsNoted keys (next detail net (place_of config)) new row →
      work_left net ranks (drop (suc n) new) < work_left net ranks (drop n keys)
  turn_less ranks are keys n config new row met at noted =
      let weigh : Place → ℕ = λ p. work_from net ranks p.frames in
      let of_config : Config → ℕ = λ c. weigh (place_of c) in
      let within = slice_get_within keys n config at in
      let split : drop (suc n) new ≡ drop (suc n) keys ++ noted.more =
      ap (drop (suc n)) noted.grown
      ∙ drop_joined keys noted.more (suc n) (omega (arith, within)) in
      let a : total of_config (drop (suc n) new)
      ≡ total of_config (drop (suc n) keys) + total of_config noted.more =
      ap (total of_config) split ∙ total_append of_config (drop (suc n) keys) noted.more in
      let b : total of_config (drop n keys) ≡ of_config config + total of_config (drop (suc n) keys) =
      ap (total of_config) (dropped keys n config at) in
      let light = noted.light weigh in
      let less = steps_light ranks are (place_of config) met in
      omega (arith, a, b, light, less)

  -- a search that is over
  pub explored : (start : Place) (keys : List Config) (links : List (List Link)) →
      IsExploring detail net start keys links → length keys ≤ length links →
      IsExplored detail net start keys links
  explored start keys links known over = record {
    first = known.first;
    len = (let b = known.below in omega (arith, b, over));
    linked = λ n config h. known.linked n config
        (let w = slice_get_within keys n config h in omega (arith, w, over)) h;
    reached = known.reached;
    met = known.met;
  }

  -- before the first turn
  pub exploring_start : (keys : List Config) (config : Config) → keys ≡ config ∷ [] →
      AreMet net (place_of config).frames → IsExploring detail net (place_of config) keys []
  exploring_start keys config is met = subst
      (λ (k : List Config). IsExploring detail net (place_of config) k []) (sym is) (record {
        first = (config, refl, refl);
        below = omega arith;
        linked = λ n other less h. absurd (omega (arith, less));
        reached = λ n other h. (
          [],
          subst (λ (x : Config). Walk detail net (place_of config) [] (place_of x))
              (only n other h) here,
        );
        met = λ n other h. subst (λ (x : Config). AreMet net (place_of x).frames) (only n other h) met;
      })
    where
      only : (n : ℕ) (other : Config) → slice_get (config ∷ []) n ≡ Some other → config ≡ other
      only zero other h = cc
      only (suc n) other h = cc
