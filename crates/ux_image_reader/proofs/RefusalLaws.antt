-- No file has a front and is refused, and none is refused in two ways.
use Rattle.std.proofs.Common.{◌≡◌, ℕ, List}
use Rattle.ux_image_reader.specs.declared.error.ImageError.{ImageError}
use Rattle.ux_image_reader.specs.declared.front.Front.{Front}
use Rattle.ux_image_reader.specs.Fronts.{IsFrontOf, RefusesFront}
use Rattle.ux_image_reader.proofs.RefusalLemmas.{by_bytes, no_error, one_error}

-- no file that has a front is refused
pub front_excluded : (bytes : List ℕ) (front : Front) (error : ImageError) →
    IsFrontOf bytes front → RefusesFront bytes error → ⊥
front_excluded bytes front error is refuses =
    no_error bytes front error is (by_bytes bytes error refuses)

-- no file is refused in two ways
pub refused_once : (bytes : List ℕ) (one other : ImageError) →
    RefusesFront bytes one → RefusesFront bytes other → one ≡ other
refused_once bytes one other r s =
    one_error bytes one other (by_bytes bytes one r) (by_bytes bytes other s)
