-- What the forms come to that begin in a state: its own, and those of its edges.
use Rattle.std.proofs.Common.{arith, ◌≡◌, ℕ, zero, suc, ◌+◌, ◌-◌, ◌*◌, ◌^◌, ◌<◌, ◌≤◌, min, List, [], ◌∷◌, ◌++◌, inl, inr, refl, sym, ◌∙◌, ap, subst, length, map, take, get_or, zero-add}
use Rattle.std.specs.Prelude.{Contains, Option, None, Some, flat_map, slice_get, sum_by}
use Rattle.std.proofs.lemmas.List.{append-nil, length_push}
use Rattle.std.proofs.lemmas.List.Sums.{sum_by-append, sum_by-cons, sum_by_more}
use Rattle.std.proofs.lemmas.List.Elements.{Contains-get_or}
use Rattle.std.proofs.lemmas.Option.{get_or_from_slice_get, slice_get-get_or, slice_get_read, slice_get_within}
use Rattle.ux_dawg.specs.Building.{bare}
use Rattle.ux_dawg.specs.Listed.{behind, ending, forms_from}
use Rattle.ux_dawg.specs.Paths.{AreStates, IsFit}
use Rattle.ux_dawg.specs.declared.state.Edge.{Edge}
use Rattle.ux_dawg.specs.declared.state.Form.{Form}
use Rattle.ux_dawg.specs.declared.state.State.{State}
use Rattle.ux_dawg.proofs.PathLemmas.{behind as later, get_pushed, in_front}
use Rattle.ux_image.specs.declared.code.CodeList.{CodeList}
use Rattle.ux_image_lists.specs.Sizes.{codes_at, codes_told, forms_of, letters_told, MOST}
use Rattle.ux_image_lists.specs.Summing.{codes_behind, ending_codes, letters_behind, nothing, AreSums, IsSumOf, TellsForms}
use Rattle.ux_image_lists.specs.declared.sizes.Sums.{Sums}

-- the forms of the state to which an edge leads
abbrev forms_behind : List State → ℕ → Edge → List Form
forms_behind states n e = map (behind e.letter) (forms_from n states (get_or states e.target bare))

-- forms are listed the same at any depth below which their state stands
no_edges : (s : State) → IsFit 0 s → s.edges ≡ []
no_edges s fit = by s.edges refl
  where
    by : (edges : List Edge) → s.edges ≡ edges → s.edges ≡ []
    by [] is = is
    by (e ∷ edges) is =
        let low = fit.within e (subst (λ (l : List Edge). Contains l e) (sym is) (in_front e edges))
        in absurd (omega (arith, low))

flat_map_same : (f g : Edge → List Form) (edges : List Edge) →
    ((e : Edge) → Contains edges e → f e ≡ g e) → flat_map f edges ≡ flat_map g edges
flat_map_same f g [] same = refl
flat_map_same f g (e ∷ edges) same =
    ap (λ (l : List Form). l ++ flat_map f edges) (same e (in_front e edges))
    ∙ ap (λ (l : List Form). g e ++ l)
    (flat_map_same f g edges (λ d has. same d (later e edges d has)))

fit_at : (states : List State) → AreStates states → (t : ℕ) → t < length states →
    IsFit t (get_or states t bare)
fit_at states fit t less = fit t (get_or states t bare) (slice_get-get_or states t bare less)

module _ (states : List State) (fit : AreStates states) where
  pub from_depth : (n m i : ℕ) (s : State) → IsFit i s → i ≤ length states → i ≤ n → i ≤ m →
      forms_from n states s ≡ forms_from m states s
  from_depth zero zero i s fits inside low high = refl
  from_depth zero (suc m) i s fits inside low high =
      let none = no_edges s (subst (λ k. IsFit k s) (let e : i ≡ 0 = omega (arith, low) in e) fits)
      in sym (ap (λ (l : List Edge). ending s.code ++ flat_map (forms_behind states m) l) none
      ∙ append-nil (ending s.code))
  from_depth (suc n) zero i s fits inside low high =
      let none = no_edges s (subst (λ k. IsFit k s) (let e : i ≡ 0 = omega (arith, high) in e) fits)
      in ap (λ (l : List Edge). ending s.code ++ flat_map (forms_behind states n) l) none
      ∙ append-nil (ending s.code)
  from_depth (suc n) (suc m) i s fits inside low high =
      ap (λ (l : List Form). ending s.code ++ l)
      (flat_map_same (forms_behind states n) (forms_behind states m) s.edges
      (λ e has.
      let under = fits.within e has in
      ap (map (behind e.letter)) (from_depth n m e.target (get_or states e.target bare)
      (fit_at states fit e.target (omega (arith, under, inside)))
      (omega (arith, under, inside)) (omega (arith, under, low)) (omega (arith, under, high)))))

module _ (lists : List CodeList) where
  codes-behind : (a : ℕ) (forms : List Form) →
      codes_told lists (map (behind a) forms) ≡ codes_told lists forms
  codes-behind a [] = refl
  codes-behind a (f ∷ forms) =
      sum_by-cons (λ (g : Form). codes_at lists g.code) (behind a f) (map (behind a) forms)
      ∙ ap (λ n. codes_at lists f.code + n) (codes-behind a forms)
      ∙ sym (sum_by-cons (λ (g : Form). codes_at lists g.code) f forms)

  letters-behind : (a : ℕ) (forms : List Form) →
      letters_told lists (map (behind a) forms) ≡ letters_told lists forms + codes_told lists forms
  letters-behind a [] = refl
  letters-behind a (f ∷ forms) =
      let more = letters-behind a forms in
      let one = sum_by-cons (λ (g : Form). length g.letters * codes_at lists g.code) (behind a f)
      (map (behind a) forms) in
      let two = sum_by-cons (λ (g : Form). length g.letters * codes_at lists g.code) f forms in
      let three = sum_by-cons (λ (g : Form). codes_at lists g.code) f forms in
      omega (arith, more, one, two, three)

  codes-flat : (g : Edge → List Form) (edges : List Edge) →
      codes_told lists (flat_map g edges) ≡ sum_by (λ e. codes_told lists (g e)) edges
  codes-flat g [] = refl
  codes-flat g (e ∷ edges) =
      sum_by-append (λ (f : Form). codes_at lists f.code) (g e) (flat_map g edges)
      ∙ ap (λ n. codes_told lists (g e) + n) (codes-flat g edges)
      ∙ sym (sum_by-cons (λ (d : Edge). codes_told lists (g d)) e edges)

  letters-flat : (g : Edge → List Form) (edges : List Edge) →
      letters_told lists (flat_map g edges) ≡ sum_by (λ e. letters_told lists (g e)) edges
  letters-flat g [] = refl
  letters-flat g (e ∷ edges) =
      sum_by-append (λ (f : Form). length f.letters * codes_at lists f.code) (g e) (flat_map g edges)
      ∙ ap (λ n. letters_told lists (g e) + n) (letters-flat g edges)
      ∙ sym (sum_by-cons (λ (d : Edge). letters_told lists (g d)) e edges)

  letters-ending : (code : Option ℕ) → letters_told lists (ending code) ≡ 0
  letters-ending None = refl
  letters-ending (Some c) = omega arith

-- the sum before any edge
pub sum_start : (own : ℕ) (edges : List Edge) (sums : List Sums) → own < 2 ^ 64 →
    IsSumOf own (take 0 edges) sums (record { codes = own; letters = 0 })
sum_start own edges sums fits = record { codes = omega (arith, fits); letters = omega arith }

-- the sum with one more edge
pub sum_step : (own i : ℕ) (edges : List Edge) (e : Edge) (sums : List Sums) (sum there new : Sums) →
    IsSumOf own (take i edges) sums sum → i < length edges → ((d : Edge) → get_or edges i d ≡ e) →
    ((d : Sums) → get_or sums e.target d ≡ there) →
    new.codes ≡ min (sum.codes + there.codes) MOST →
    new.letters ≡ min (sum.letters + (there.letters + there.codes)) MOST →
    IsSumOf own (take (i + 1) edges) sums new
sum_step own i edges e sums sum there new is less at lies codes letters =
    let more = sum_by_more (codes_behind sums) edges i e less in
    let more_letters = sum_by_more (λ (d : Edge). letters_behind sums d + codes_behind sums d) edges i
    e less in
    let here = ap (codes_behind sums) (at e) in
    let here_letters = ap (letters_behind sums) (at e) in
    let behind_codes = ap (λ (x : Sums). x.codes) (lies nothing) in
    let behind_letters = ap (λ (x : Sums). x.letters) (lies nothing) in
    let old = is.codes in
    let old_letters = is.letters in
    record {
      codes = omega (arith, more, here, behind_codes, old, codes);
      letters = omega (
        arith,
        more_letters,
        here,
        here_letters,
        behind_codes,
        behind_letters,
        old_letters,
        letters,
      );
    }

-- the targets of a state's edges have sums already
pub targets_summed : (states : List State) → AreStates states → (lists : List CodeList) (n : ℕ)
    (s : State) (edges : List Edge) (sums : List Sums) → AreSums states lists n sums →
    slice_get states n ≡ Some s → edges ≡ s.edges → (k : ℕ) (d : Edge) → k < length edges →
    (get_or edges k d).target < length sums
targets_summed states fit lists n s edges sums are stands same k d within =
    let low = (fit n s stands).within (get_or edges k d)
    (subst (λ (l : List Edge). Contains l (get_or edges k d)) same
    (Contains-get_or edges k d within)) in
    let long = are.long in
    omega (arith, low, long)

-- where parts of a sum stay at the greatest number, the sum does
sums_same : (f g : Edge → ℕ) (edges : List Edge) (own : ℕ) →
    ((e : Edge) → Contains edges e → min (f e) MOST ≡ min (g e) MOST) →
    min (own + sum_by f edges) MOST ≡ min (own + sum_by g edges) MOST
sums_same f g [] own same = refl
sums_same f g (e ∷ edges) own same =
    let here = same e (in_front e edges) in
    let more = sums_same f g edges (own + f e) (λ d has. same d (later e edges d has)) in
    one own (f e) (g e) (sum_by f edges) (sum_by g edges) (sum_by f (e ∷ edges))
    (sum_by g (e ∷ edges)) (sum_by-cons f e edges) (sum_by-cons g e edges) here more
  where
    one : (own a b x y ax by : ℕ) → ax ≡ a + x → by ≡ b + y → min a MOST ≡ min b MOST →
        min (own + a + x) MOST ≡ min (own + a + y) MOST →
        min (own + ax) MOST ≡ min (own + by) MOST
    one own a b x y ax by is_ax is_by here more = omega (arith, is_ax, is_by, here, more)

-- the forms that begin in the state of a number
abbrev at_depth : List State → ℕ → List Form
at_depth states k = forms_from (length states) states (get_or states k bare)

-- so the sum of a state tells of the forms that begin in it
module _ (states : List State) (fit : AreStates states) (lists : List CodeList) where
  pub sums_more : (n : ℕ) (s : State) (sum : Sums) (sums more : List Sums) →
      AreSums states lists n sums → slice_get states n ≡ Some s →
      IsSumOf (ending_codes lists s.code) s.edges sums sum → more ≡ sums ++ sum ∷ [] →
      AreSums states lists (n + 1) more
  sums_more n s sum sums more are stands is grown =
      subst (AreSums states lists (n + 1)) (sym grown) (record {
        long = let long = length_push sums sum in let l = are.long in omega (arith, long, l);
        each = λ i t at. elim (get_pushed sums sum i t at) [
          | inl before ↦ are.each i t before
          | inr new ↦ subst (λ (x : Sums). TellsForms lists (at_depth states i) x) (sym new.1)
              (subst (λ k. TellsForms lists (at_depth states k) sum)
              (let long = are.long in let last = new.0 in
              let e : n ≡ i = omega (arith, long, last) in e) here)
        ];
      })
    where
      inside : n < length states
      inside = slice_get_within states n s stands

      fits : IsFit n s
      fits = fit n s stands

      -- the sum behind an edge
      behind_is : (e : Edge) → Contains s.edges e →
          TellsForms lists (forms_from n states (get_or states e.target bare))
          (get_or sums e.target nothing)
      behind_is e has =
          let under = fits.within e has in
          let long = are.long in
          subst (λ (l : List Form). TellsForms lists l (get_or sums e.target nothing))
          (from_depth states fit (length states) n e.target (get_or states e.target bare)
          (fit_at states fit e.target (omega (arith, under, inside)))
          (omega (arith, under, inside)) (omega (arith, under, inside)) (omega (arith, under)))
          (are.each e.target (get_or sums e.target nothing)
          (slice_get-get_or sums e.target nothing (omega (arith, under, long))))

      codes_is : min (codes_told lists (forms_from (suc n) states s)) MOST ≡ sum.codes
      codes_is =
          ap (λ k. min k MOST) (sum_by-append (λ (f : Form). codes_at lists f.code) (ending s.code)
          (flat_map (forms_behind states n) s.edges)
          ∙ ap (λ k. codes_told lists (ending s.code) + k)
          (codes-flat lists (forms_behind states n) s.edges))
          ∙ sums_same (λ e. codes_told lists (forms_behind states n e)) (codes_behind sums) s.edges
          (ending_codes lists s.code)
          (λ e has.
          let told = (behind_is e has).codes in
          let same = codes-behind lists e.letter
          (forms_from n states (get_or states e.target bare)) in
          omega (arith, told, same))
          ∙ sym is.codes

      letters_is : min (letters_told lists (forms_from (suc n) states s)) MOST ≡ sum.letters
      letters_is =
          ap (λ k. min k MOST)
          (sum_by-append (λ (f : Form). length f.letters * codes_at lists f.code) (ending s.code)
          (flat_map (forms_behind states n) s.edges)
          ∙ ap (λ k. k + letters_told lists (flat_map (forms_behind states n) s.edges))
          (letters-ending lists s.code)
          ∙ ap (λ k. 0 + k) (letters-flat lists (forms_behind states n) s.edges))
          ∙ sums_same (λ e. letters_told lists (forms_behind states n e))
          (λ e. letters_behind sums e + codes_behind sums e) s.edges 0
          (λ e has.
          let told = (behind_is e has).letters in
          let told_codes = (behind_is e has).codes in
          let same = letters-behind lists e.letter
          (forms_from n states (get_or states e.target bare)) in
          omega (arith, told, told_codes, same))
          ∙ ap (λ k. min k MOST) (zero-add
          (sum_by (λ (e : Edge). letters_behind sums e + codes_behind sums e) s.edges))
          ∙ sym is.letters

      here : TellsForms lists (at_depth states n) sum
      here =
          let same : get_or states n bare ≡ s = get_or_from_slice_get states n s bare stands in
          subst (λ (x : State). TellsForms lists (forms_from (length states) states x) sum)
          (sym same)
          (subst (λ (l : List Form). TellsForms lists l sum)
          (from_depth states fit (suc n) (length states) n s fits (omega (arith, inside))
          (omega arith) (omega (arith, inside)))
          (record { codes = sym codes_is; letters = sym letters_is }))

-- the sum of the root tells of all forms
pub root_sum : (states : List State) (lists : List CodeList) (sums : List Sums) (sum : Sums) →
    0 < length states → AreSums states lists (length states) sums →
    sum ≡ get_or sums (length states - 1) sum →
    sum.letters ≡ min (letters_told lists (forms_of states)) MOST
root_sum states lists sums sum some are is =
    let long = are.long in
    (are.each (length states - 1) sum (slice_get_read sums (length sums) (length states - 1) sum refl
    (omega (arith, long, some)) is)).letters
