use Rattle.std.proofs.Common.{◌≡◌, ◌+◌, [], get_or, ◌∙◌}
use Rattle.std.proofs.lemmas.Result.{IfOk-weaker}
use Rattle.ux_compile.specs.Construct.{number, table_of}
use Rattle.ux_compile.proofs.ClosingsLemmas.{same_closings}
use Rattle.ux_compile.proofs.StatesLemmas.{table_at}
use Rattle.ux_compile.proofs.closings.closings.Goals as goal

-- the table has the number of each place
pub returns : goal.returns
returns c =
    let places = c.args.places.now in
    let table : c.deref.result.now ≡ table_of places (number places) =
    c.deref.ensures.value ∙ c.in_ok-numbers.ensures in
    IfOk-weaker c.closings.result _ _ (λ list told. told
    ∙ same_closings (λ p. get_or c.deref.result.now p 0) (number places) places
    (λ b. get_or c.args.closers.now (c.args.before + b) [])
    (λ a inside. table_at places (number places) c.deref.result.now a table inside)
    c.requires.inside) c.closings.ensures
