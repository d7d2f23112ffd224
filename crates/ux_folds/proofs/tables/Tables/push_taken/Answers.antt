use Rattle.std.proofs.Common.{subst, sym}
use Rattle.std.specs.Str.{IsUtf8}
use Rattle.std.proofs.lemmas.Str.{IsUtf8-nil}
use Rattle.ux_base.specs.declared.settings.Mode.{Mode}
use Rattle.ux_outputs.specs.Rendering.{text_taken}
use Rattle.ux_folds.specs.Tables.{IsPushed}
use Rattle.ux_folds.proofs.TablesLemmas.{nothing_pushed}
use Rattle.ux_folds.proofs.tables.Tables.push_taken.Goals as goal

pub returns-in-Replace-clause-pushed : goal.returns-in-Replace-clause-pushed
returns-in-Replace-clause-pushed c =
    subst (λ (mode : Mode). IsPushed c.args.self.now c.args.self.now c.args.front
    (text_taken mode c.args.text.now c.args.begin c.args.to) c.args.front) (sym c.in-Replace.is)
    (nothing_pushed c.args.self.now c.args.front)

pub returns-in-Replace-clause-utf8 : goal.returns-in-Replace-clause-utf8
returns-in-Replace-clause-utf8 c =
    subst (λ (mode : Mode). IsUtf8 (text_taken mode c.args.text.now c.args.begin c.args.to))
    (sym c.in-Replace.is) IsUtf8-nil
