-- What the tests of states tell: edges that rise from each to the next ascend.
use Rattle.std.proofs.Common.{arith, ◌≡◌, ℕ, zero, suc, ◌<◌, ◌+◌, ◌↔◌, ◌⊎◌, List, [], ◌∷◌, Bool, true, false, inl, inr, refl, sym, ◌∙◌, subst, length, get_or}
use Rattle.std.specs.Prelude.{All, Contains, IsTrue, nat_lt}
use Rattle.std.specs.List.{IsAllAdjacentAnswer}
use Rattle.std.proofs.lemmas.Bool.{ltb-true, lt-ltb}
use Rattle.std.proofs.lemmas.Option.{none-some}
use Rattle.std.proofs.lemmas.List.Elements.{All-contains, Contains-get_or}
use Rattle.ux_dawg.specs.declared.state.State.{State}
use Rattle.ux_dawg.specs.declared.state.Edge.{Edge}
use Rattle.ux_dawg.specs.Paths.{edge, AreAscending, IsFit}
use Rattle.ux_dawg.proofs.PathLemmas.{of_cons, is_some_of}

-- each letter is lower than the next one
abbrev pub RiseEach : List Edge → Type 0
RiseEach es = (k : ℕ) (d : Edge) → k + 1 < length es →
    (get_or es k d).letter < (get_or es (k + 1) d).letter

pub ascending_from_each : (es : List Edge) → RiseEach es → AreAscending es
ascending_from_each [] each = tt
ascending_from_each (e ∷ []) each = (λ d has. absurd (none-some d (is_some_of [] d has).1), tt)
ascending_from_each (e ∷ (f ∷ es)) each =
    let low : e.letter < f.letter = each 0 e (omega arith) in
    let rest = ascending_from_each (f ∷ es)
    (λ k d less.
    let next : suc k + 1 ≡ suc (k + 1) = omega arith in
    subst (λ n. (get_or (f ∷ es) k d).letter < (get_or (e ∷ (f ∷ es)) n d).letter) next
    (each (suc k) d (omega (arith, less)))) in
    (λ d has. above d low rest (of_cons f es d has), rest)
  where
    above : (d : Edge) → e.letter < f.letter → AreAscending (f ∷ es) → (f ≡ d) ⊎ Contains es d →
        e.letter < d.letter
    above d low rest (inl same) = subst (λ (x : Edge). e.letter < x.letter) same low
    above d low rest (inr later) = let more = rest.0 d later in omega (arith, low, more)

pub each_from_ascending : (es : List Edge) → AreAscending es → RiseEach es
each_from_ascending [] up k d less = absurd (omega (arith, less))
each_from_ascending (e ∷ es) up zero d less =
    up.0 (get_or es 0 d) (Contains-get_or es 0 d (omega (arith, less)))
each_from_ascending (e ∷ es) up (suc k) d less =
    let here = each_from_ascending es up.1 k d (omega (arith, less)) in
    let next : suc (k + 1) ≡ suc k + 1 = omega arith in
    subst (λ n. (get_or es k d).letter < (get_or (e ∷ es) n d).letter) next here

-- so the answer of a test of neighbours tells whether they ascend
pub ascending_tells : (es : List Edge) (r : Bool) →
    IsAllAdjacentAnswer (λ (x : Edge) (y : Edge) b. b ≡ nat_lt x.letter y.letter) es r →
    IsTrue r ↔ AreAscending es
ascending_tells es true all = (
  λ yes. ascending_from_each es (λ k d less. ltb-true _ _ (sym (all k d less))),
  λ up. refl,
)
ascending_tells es false some = (
  λ no. let e : false ≡ true = no in cc,
  λ up.
      let k = some.0 in
      let d = edge 0 0 in
      let low = each_from_ascending es up k d some.1 in
      let e : false ≡ true = some.2 d ∙ lt-ltb _ _ low in
      cc,
)

-- edges that ascend make a state fit, where they lead below its number
pub fit_tells : (n : ℕ) (s : State) (es : List Edge) → es ≡ s.edges → AreAscending es →
    All (λ (e : Edge). e.target < n) es ↔ IsFit n s
fit_tells n s es is up = (
  λ low. record {
    ascending = subst AreAscending is up;
    within = λ e has. All-contains (λ (d : Edge). d.target < n) es e low
        (subst (λ (l : List Edge). Contains l e) (sym is) has);
  },
  λ fit. λ k d less. fit.within (get_or es k d)
      (subst (λ (l : List Edge). Contains l (get_or es k d)) is (Contains-get_or es k d less)),
)
