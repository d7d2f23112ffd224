use Rattle.std.proofs.Common.{◌≡◌, ◌⊎◌, List, ℕ, subst}
use Rattle.ux_image_content.specs.Files.{RefusesImage}
use Rattle.ux_image_files.proofs.ByteSteps.{image_refused}
use Rattle.ux_image_reader.specs.declared.error.ImageError.TheVariants.{NoMemory}
use Rattle.ux_image_files.proofs.images.read_image.Goals as goal

-- the image is refused
pub returns-clause-err : goal.returns-clause-err
returns-clause-err g c =
    let seen = g.F.Folder.seen in
    let file = c.in_ok-bytes.bytes.items in
    let error = c.in-Err.error in
    let why = subst (λ (f : List ℕ). (error ≡ NoMemory) ⊎ RefusesImage f error)
    c.deref.ensures.value c.in-Err.ensures.err in
    image_refused c.args.name.now (seen c.args.folder.now)
    (seen c.read_bytes.new.folder) file error c.stop_of.result c.in_ok-bytes.ensures.ok why
    c.stop_of.ensures
