use Rattle.std.proofs.Common.{◌∙◌, ℕ, List, ◌∷◌, ◌++◌, ap, subst, sym, lit<}
use Rattle.ux_dela.specs.Signs.{COLON}
use Rattle.ux_inflect.specs.Inflected.{HasCodes}
use Rattle.ux_inflect.proofs.SplitLemmas.{none_codes, some_codes}
use Rattle.ux_inflect.proofs.codes.all_codes.Goals as goal

pub returns-in-None : goal.returns-in-None
returns-in-None c = λ codes has. c.new-codes.ensures
    ∙ sym (none_codes c.args.output.now codes has (c.in-None.ensures.byte (lit< tt) (λ w o f. f)))

pub returns-in_ok-put_codes-in-Some : goal.returns-in_ok-put_codes-in-Some
returns-in_ok-put_codes-in-Some c = λ codes has.
    let split = c.in-Some.ensures.byte (lit< tt) (λ w o f. f) in
    let s = some_codes c.args.output.now codes has split.2 in
    c.in_ok-put_codes-in-Some.ensures s.1 s.0
    (subst (λ (t : List ℕ). HasCodes (COLON ∷ t) (s.0 ∷ s.1)) (sym split.1) s.3)
    ∙ (ap (λ (l : List (List ℕ)). l ++ s.0 ∷ s.1) c.new-codes.ensures ∙ sym s.2)
