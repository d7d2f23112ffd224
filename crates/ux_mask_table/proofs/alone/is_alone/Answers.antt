use Rattle.std.proofs.Common.{refl}
use Rattle.ux_tokens.specs.declared.kind.Kind.TheVariants.{Tag}
use Rattle.ux_mask_table.proofs.AloneLemmas.{tag_singly}
use Rattle.ux_mask_table.proofs.alone.is_alone.Goals as goal

pub returns-in-Tag : goal.returns-in-Tag
returns-in-Tag c = λ on alphabet belongs. tag_singly alphabet c.args.text.now c.args.applied.now belongs
    c.args.place Tag refl c.in-Tag.ensures
