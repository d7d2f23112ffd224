use Rattle.std.proofs.Common.{refl}
use Rattle.ux_image_reader.specs.declared.front.Version.TheVariants.{One, Two}
use Rattle.ux_image_reader.specs.Fronts.{in_magic}
use Rattle.ux_image_reader.specs.Layout.{magic_of}
use Rattle.ux_image_reader.proofs.FrontLemmas.{begins_from, begins_neither, few_bytes}
use Rattle.ux_image_reader.proofs.front.read_version.Goals as goal
use Rattle.ux_image_reader.proofs.front.read_version.Goals.{then-starts_with, else-starts_with+then-starts_with-2}

pub returns-else-starts_with-2-clause-err : goal.returns-else-starts_with-2-clause-err
returns-else-starts_with-2-clause-err c =
    begins_neither c.args.bytes.now _ c.min.result c.min.ensures refl
    c.if-starts_with.ensures.value c.if-starts_with-2.ensures.value

pub returns-then-front-lt8-clause-err : goal.returns-then-front-lt8-clause-err
returns-then-front-lt8-clause-err c =
    let short = few_bytes c.args.bytes.now _ c.min.result c.min.ensures refl c.if-front-lt8.true in
    elim c.if-starts_with.branch [
      | then-starts_with w ↦ in_magic (
        One,
        begins_from c.args.bytes.now _ c.min.result c.min.ensures refl (magic_of One) refl
            w.if-starts_with.ensures.value,
      ) short
      | else-starts_with+then-starts_with-2 w ↦ in_magic (
        Two,
        begins_from c.args.bytes.now _ c.min.result c.min.ensures refl (magic_of Two) refl
            w.if-starts_with-2.ensures.value,
      ) short
    ]
