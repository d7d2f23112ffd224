use Rattle.std.proofs.Common.{arith, rules, ◌∙◌, ℕ, List, [], ◌∷◌, ◌++◌, ap, append_assoc, append-nil, length, length-drop, refl, subst, sym, lit<}
use Rattle.ux_dela.specs.Signs.{COLON}
use Rattle.ux_inflect.specs.Inflected.{HasCodes}
use Rattle.ux_inflect.proofs.SplitLemmas.{split_first, split_last}
use Rattle.ux_inflect.proofs.codes.put_codes.Goals as goal

pub loop-code-init : goal.loop-code-init
loop-code-init c = (
  c.utf8.text,
  λ code more has.
      ([], code, more, refl, sym (append-nil c.args.codes.now), has),
)

pub loop-code-preserved : goal.loop-code-preserved
loop-code-preserved c = (
  search rules,
  λ code more has.
      let old = c.args.codes.now in
      let k = c.loop-code.invariant.1 code more has in
      let split = c.in-Some.ensures.byte (lit< tt) (λ w o f. f) in
      let s = split_first c.loop-code.rest.now k.1 k.2 k.5 split.2 in (
        k.0 ++ k.1 ∷ [],
        s.0,
        s.1,
        k.3 ∙ (ap (λ (l : List (List ℕ)). k.0 ++ k.1 ∷ l) s.2
            ∙ sym (append_assoc k.0 (k.1 ∷ []) (s.0 ∷ s.1))),
        c.in_ok-push.ensures ∙ (ap (λ (l : List (List ℕ)). l ++ c.in-Some.code.now ∷ []) k.4
            ∙ (append_assoc old k.0 (c.in-Some.code.now ∷ [])
            ∙ ap (λ (t : List ℕ). old ++ (k.0 ++ t ∷ [])) (split.0 ∙ sym s.3))),
        subst (λ (t : List ℕ). HasCodes (COLON ∷ t) (s.0 ∷ s.1)) (sym split.1) s.4,
      ),
)

pub loop-code-smaller : goal.loop-code-smaller
loop-code-smaller c =
    let rest = c.loop-code.rest.now in
    let split = c.in-Some.ensures.byte (lit< tt) (λ w o f. f) in
    let e = ap (λ (l : List ℕ). length l) split.1 in
    let inside = split.2 in
    omega (arith, e, inside, length-drop {A = ℕ})

pub returns : goal.returns
returns c = λ more code has.
    let old = c.args.codes.now in
    let rest = c.loop-code.rest.now in
    let k = c.loop-code.invariant.1 code more has in
    let s = split_last rest k.1 k.2 k.5 (c.in_default.ensures.byte (lit< tt) (λ w o f. f)) in
    c.in_ok-push-2.ensures ∙ (ap (λ (l : List (List ℕ)). l ++ rest ∷ []) k.4
    ∙ (append_assoc old k.0 (rest ∷ [])
    ∙ ap (λ (l : List (List ℕ)). old ++ l) (ap (λ (t : List ℕ). k.0 ++ t ∷ []) s.1
    ∙ sym (k.3 ∙ ap (λ (l : List (List ℕ)). k.0 ++ k.1 ∷ l) s.0))))
