-- The steps along a word, and the number at its end.
use Rattle.std.proofs.Common.{arith, ◌≡◌, ℕ, suc, ◌<◌, ◌≤◌, ◌+◌, ◌↔◌, ◌∙◌, List, [], ◌∷◌, sym, ap, subst, length, drop, get_or, drop-cons, length-drop}
use Rattle.std.specs.Prelude.{Option, Some, None, Contains}
use Rattle.std.proofs.lemmas.Option.{same_Some, none-some}
use Rattle.std.proofs.lemmas.List.{nil_from_length}
use Rattle.ux_dawg.specs.declared.state.State.{State}
use Rattle.ux_dawg.specs.declared.state.Form.{Form}
use Rattle.ux_dawg.specs.Forms.{form_of}
use Rattle.ux_dawg.specs.Paths.{IsPath, IsStep, Accepts}
use Rattle.ux_dawg.specs.Automaton.{IsMinimalOf}

-- a root is the last state, and so is any other
same_root : (states : List State) (i j : ℕ) → length states ≡ i + 1 → length states ≡ j + 1 → i ≡ j
same_root states i j first second = omega (arith, first, second)

pub accepted : (states : List State) (root : ℕ) → length states ≡ root + 1 → (w : List ℕ) (c : ℕ) →
    IsPath states root w c ↔ Accepts states w c
accepted states root last w c = (
  λ path. (root, last, path),
  λ h. subst (λ i. IsPath states i w c) (same_root states h.0 root h.1 last) h.2,
)

-- the words of the minimal automaton of some forms are these
pub accepts_forms : (forms : List Form) (states : List State) → IsMinimalOf forms states →
    (w : List ℕ) (c : ℕ) → Accepts states w c ↔ Contains forms (form_of w c)
accepts_forms forms states minimal w c =
    let exact = minimal.1.exact w c in
    let root = accepted states minimal.0 minimal.1.last w c in
    (λ h. exact.0 (root.1 h), λ has. root.0 (exact.1 has))

-- where the steps of a letter are told
module _ (states : List State) (i a : ℕ) (o : Option ℕ)
    (tells : (t : ℕ) → (o ≡ Some t) ↔ IsStep states i a t) where
  -- a word goes on behind its one step
  pub stepped : (t : ℕ) → o ≡ Some t → (w : List ℕ) (c : ℕ) →
      IsPath states t w c ↔ IsPath states i (a ∷ w) c
  stepped t is w c = (
    λ path. let s = (tells t).0 is in (s.0, s.1, (t, path.0, s.2, path.1, path.2)),
    λ path.
        let r = path.2 in
        let same : r.0 ≡ t = same_Some r.0 t (sym ((tells r.0).1 (path.0, path.1, r.2)) ∙ is) in
        subst (λ n. IsPath states n w c) same (r.1, r.3, r.4),
  )

  -- and without a step there is no word
  pub stuck : o ≡ None → (w : List ℕ) (c : ℕ) → IsPath states i (a ∷ w) c → ⊥
  stuck is w c path =
      let r = path.2 in none-some r.0 (sym is ∙ (tells r.0).1 (path.0, path.1, r.2))

rest_here : (word : List ℕ) (k a : ℕ) → k < length word → a ≡ get_or word k a →
    drop k word ≡ a ∷ drop (k + 1) word
rest_here word k a less is =
    let next : suc k ≡ k + 1 = omega arith in
    drop-cons word k a less ∙ (ap (λ x. x ∷ drop (suc k) word) (sym is)
    ∙ ap (λ n. a ∷ drop n word) next)

-- the letters from k on lead on from here as all of them do from the root
module _ (states : List State) (word : List ℕ) (here k : ℕ)
    (so_far : (c : ℕ) → IsPath states here (drop k word) c ↔ Accepts states word c) where
  -- so do those from the next one on, behind its step
  module _ (a : ℕ) (o : Option ℕ) (less : k < length word) (is : a ≡ get_or word k a)
      (tells : (t : ℕ) → (o ≡ Some t) ↔ IsStep states here a t) where
    from_here : (c : ℕ) → IsPath states here (a ∷ drop (k + 1) word) c ↔ Accepts states word c
    from_here c = subst (λ l. IsPath states here l c ↔ Accepts states word c)
        (rest_here word k a less is) (so_far c)

    pub on : (t : ℕ) → o ≡ Some t → (c : ℕ) →
        IsPath states t (drop (k + 1) word) c ↔ Accepts states word c
    on t step c =
        let next = stepped states here a o tells t step (drop (k + 1) word) c in
        let first = from_here c in
        (λ path. first.0 (next.0 path), λ h. next.1 (first.1 h))

    -- and without a step the word has no number
    pub out : o ≡ None → (r : Option ℕ) → r ≡ None → (c : ℕ) → (r ≡ Some c) ↔ Accepts states word c
    out step r is_none c = (
      λ some. absurd (none-some c (sym is_none ∙ some)),
      λ h. absurd (stuck states here a o tells step (drop (k + 1) word) c ((from_here c).1 h)),
    )

  -- at the end the state has the number of the word
  pub at_end : length word ≤ k → (r : Option ℕ) →
      ((c : ℕ) → (r ≡ Some c) ↔ IsPath states here [] c) → (c : ℕ) →
      (r ≡ Some c) ↔ Accepts states word c
  at_end past r tells c =
      let end = tells c in
      let whole = so_far c in
      let none : drop k word ≡ [] =
      nil_from_length (drop k word) (omega (arith, length-drop k word, past)) in (
        λ some. whole.0 (subst (λ l. IsPath states here l c) (sym none) (end.0 some)),
        λ h. end.1 (subst (λ l. IsPath states here l c) none (whole.1 h)),
      )

-- a number of the word is that of a form
pub told_forms : (states : List State) (word : List ℕ) (r : Option ℕ) →
    ((c : ℕ) → (r ≡ Some c) ↔ Accepts states word c) → (forms : List Form) →
    IsMinimalOf forms states → (c : ℕ) → (r ≡ Some c) ↔ Contains forms (form_of word c)
told_forms states word r tells forms minimal c =
    let told = tells c in
    let accepts = accepts_forms forms states minimal word c in
    (λ some. accepts.0 (told.0 some), λ has. told.1 (accepts.1 has))
