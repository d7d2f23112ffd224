use Rattle.std.proofs.Common.{[], ◌∷◌, length, subst, sym}
use Rattle.std.proofs.lemmas.Bool.{eqb-true}
use Rattle.std.proofs.lemmas.List.{nil_from_length}
use Rattle.std.proofs.lemmas.Result.{IfOk-weaker}
use Rattle.ux_dict.specs.Parts.{AreCandidates}
use Rattle.ux_dict.proofs.FittingLemmas.{GoOn-none}
use Rattle.ux_dict.proofs.continuing.next_parts.Goals as goal

pub returns-then-is_empty : goal.returns-then-is_empty
returns-then-is_empty c =
    GoOn-none c.args.alphabet.now c.args.letters.now (c.args.c ∷ []) c.args.parts.now c.new.result.items
    (nil_from_length c.args.parts.now
    (eqb-true (length c.args.parts.now) 0 (sym c.if-is_empty.ensures))) c.new.ensures.items

pub returns : goal.returns
returns c =
    let are = subst (AreCandidates c.args.alphabet.now c.args.letters.now c.args.c)
    (sym c.deref.ensures.value) c.in_ok-fitting.ensures in
    IfOk-weaker c.continued.result _ _
    (λ next goes. goes c.args.alphabet.now c.args.letters.now c.args.c are) c.continued.ensures
