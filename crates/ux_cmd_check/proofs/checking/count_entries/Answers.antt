use Rattle.std.proofs.Common.{◌≡◌, true, false, sym, ◌∙◌}
use Rattle.ux_cmd_check.specs.Counting.{IsCountOf, text_format}
use Rattle.ux_image_files.specs.ImageFiles.{image_format, is_image, made}
use Rattle.ux_image_files.proofs.ByteSteps.{image_err, image_ok, other_err, other_ok}
use Rattle.ux_cmd_check.proofs.checking.count_entries.Goals as goal

pub returns-then-is_image-clause-ok : goal.returns-then-is_image-clause-ok
returns-then-is_image-clause-ok g c =
    let is : is_image c.args.name.now ≡ true = sym c.is_image.ensures ∙ c.if-is_image.true in
    image_ok (made image_format IsCountOf) text_format (λ count. count)
    c.args.name.now c.count_imaged.result (is_image c.args.name.now) is
    (g.F.Folder.seen c.args.folder.now).files c.count_imaged.ensures.ok

pub returns-then-is_image-clause-err : goal.returns-then-is_image-clause-err
returns-then-is_image-clause-err g c =
    let seen = g.F.Folder.seen in
    let is : is_image c.args.name.now ≡ true = sym c.is_image.ensures ∙ c.if-is_image.true in
    image_err (made image_format IsCountOf) text_format (λ count. count)
    c.args.name.now c.count_imaged.result (is_image c.args.name.now) is
    (seen c.args.folder.now) (seen c.count_imaged.new.folder) c.count_imaged.ensures.err

pub returns-else-is_image-clause-ok : goal.returns-else-is_image-clause-ok
returns-else-is_image-clause-ok g c =
    let is : is_image c.args.name.now ≡ false = sym c.is_image.ensures ∙ c.if-is_image.false in
    other_ok (made image_format IsCountOf) text_format (λ count. count)
    c.args.name.now c.count_forms.result (is_image c.args.name.now) is
    (g.F.Folder.seen c.args.folder.now).files c.count_forms.ensures.ok

pub returns-else-is_image-clause-err : goal.returns-else-is_image-clause-err
returns-else-is_image-clause-err g c =
    let seen = g.F.Folder.seen in
    let is : is_image c.args.name.now ≡ false = sym c.is_image.ensures ∙ c.if-is_image.false in
    other_err (made image_format IsCountOf) text_format (λ count. count)
    c.args.name.now c.count_forms.result (is_image c.args.name.now) is
    (seen c.args.folder.now) (seen c.count_forms.new.folder) c.count_forms.ensures.err
