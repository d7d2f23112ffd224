use Rattle.std.proofs.Common.{ℕ, List, subst}
use Rattle.std.specs.Prelude.{◌↔◌, Contains}
use Rattle.std.proofs.lemmas.Result.{IfOk-weaker}
use Rattle.ux_walk.specs.Settings.{Setting}
use Rattle.ux_morpho.specs.Putting.{PutsIn}
use Rattle.ux_morpho.proofs.PuttingLemmas.{over_setting, over_tables}
use Rattle.ux_morpho.proofs.outputs.counted_outputs.Goals as goal

pub masked_outputs-requires-clause-tables : goal.masked_outputs-requires-clause-tables
masked_outputs-requires-clause-tables g c =
    over_tables c.args.net.now c.args.letters.now c.args.alphabet.now c.args.applied.now
    c.in_ok-masked.masked c.in_ok-masked.ensures.over c.args.tables.now c.requires.tables

pub returns : goal.returns
returns g c =
    let masked = c.in_ok-masked.masked in
    let same = over_setting c.args.net.now c.args.letters.now c.args.alphabet.now c.args.applied.now
    masked c.in_ok-masked.ensures.over in
    IfOk-weaker c.masked_outputs.result _ _
    (λ outputs are. subst (λ (s : Setting). (output : List ℕ) → Contains outputs.items output
    ↔ PutsIn s output) same are) c.masked_outputs.ensures
