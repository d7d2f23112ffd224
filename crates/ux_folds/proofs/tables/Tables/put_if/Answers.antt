use Rattle.std.proofs.Common.{refl, subst, sym}
use Rattle.std.specs.Prelude.{Some}
use Rattle.ux_base.specs.declared.settings.Mode.{Mode}
use Rattle.ux_outputs.specs.declared.event.Event.TheVariants.{Put}
use Rattle.ux_base.specs.declared.settings.Mode.TheVariants.{Ignore}
use Rattle.ux_folds.specs.Following.{IsFollowed}
use Rattle.ux_folds.proofs.FollowingLemmas.{followed, puts_out, stays}
use Rattle.ux_folds.proofs.tables.Tables.put_if.Goals as goal

pub returns-in-Ignore : goal.returns-in-Ignore
returns-in-Ignore c = λ tokens novar names. subst (λ (mode : Mode). IsFollowed tokens mode novar names
    c.args.self.now c.args.self.now c.args.kept (Put c.args.put.now) (Some c.args.kept))
    (sym c.in-Ignore.is)
    (followed tokens Ignore novar names c.args.self.now c.args.self.now c.args.kept c.args.kept
    (Put c.args.put.now) (λ state. state) (λ state. refl) (λ state same. tt)
    (stays tokens Ignore novar names c.args.self.now c.args.kept))

pub returns-in_ok-put_text-in-Merge : goal.returns-in_ok-put_text-in-Merge
returns-in_ok-put_text-in-Merge c = λ tokens novar names. puts_out tokens novar names
    c.args.self.now c.put_text.new.self c.args.kept c.args.mode c.in_ok-put_text-in-Merge.field-0
    c.args.put.now c.in-Merge.is (c.in_ok-put_text-in-Merge.ensures tokens names)
