use Rattle.std.proofs.Common.{string_bytes}
use Rattle.std.proofs.lemmas.Result.{IfErr-weaker, on_ok_weaker}
use Rattle.ux_cascade.proofs.RefusingLemmas.{cascade_refused, not_too_long}
use Rattle.ux_cascade.proofs.cascading.cascade.Goals as goal

pub returns-clause-exact : goal.returns-clause-exact
returns-clause-exact g c =
    on_ok_weaker c.apply_steps.result (λ left. not_too_long c.args.alphabet.now
    (g.F.Finder.finds c.args.finder.now) c.args.times.now (string_bytes c.args.text) c.in_ok-text.text
    (record { are = c.in_ok-text.ensures.tokens; few = c.in_ok-text.ensures.few })
    c.in_ok-text.ensures.not_too_many left) c.apply_steps.ensures.exact

pub returns-clause-err : goal.returns-clause-err
returns-clause-err g c =
    IfErr-weaker c.apply_steps.result _ _ (λ error refused. cascade_refused c.args.alphabet.now
    (g.F.Finder.finds c.args.finder.now) c.args.times.now (string_bytes c.args.text) c.in_ok-text.text
    error (record { are = c.in_ok-text.ensures.tokens; few = c.in_ok-text.ensures.few }) refused)
    c.apply_steps.ensures.err
