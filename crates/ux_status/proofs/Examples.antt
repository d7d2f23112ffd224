-- The lines and numbers of statuses at small values.
use Rattle.std.proofs.Common.{◌≡◌, codes, refl}
use Rattle.std.specs.Fmt.{digits}
use Rattle.ux_dela.specs.declared.error.DelaError.TheVariants as dela_error
use Rattle.ux_grf.specs.declared.error.GrfError.TheVariants as grf_error
use Rattle.ux_image_reader.specs.declared.error.ImageError.TheVariants as image_error
use Rattle.ux_status.specs.declared.status.Status.TheVariants.{Absent, Refused}
use Rattle.ux_reasons.specs.declared.reason.Reason.TheVariants.{Dela, Grf, Image}
use Rattle.ux_status.specs.Statuses.{line_of, number_of}

-- the line of a graph that is refused
refused_line :
    line_of (Refused (codes "g.grf") (Grf grf_error.NoHeader)) ≡ codes "refused: g.grf: NoHeader\n"
refused_line = refl

-- the line of a dictionary that is refused
refused_dictionary :
    line_of (Refused (codes "d.dic") (Dela (dela_error.NoComma 1 3)))
    ≡ codes "refused: d.dic: NoComma line=1 place=3\n"
unfolding digits
refused_dictionary = refl

-- the line of an image that is refused
refused_image :
    line_of (Refused (codes "d.udi") (Image (image_error.BadCode 0)))
    ≡ codes "refused: d.udi: BadCode n=0\n"
unfolding digits
refused_image = refl

absent_line : line_of (Absent (codes "t.txt")) ≡ codes "absent: t.txt\n"
absent_line = refl

number : number_of (Absent (codes "t.txt")) ≡ 2
number = refl
