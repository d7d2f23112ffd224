-- What a table knows after a variable was set.
use Rattle.std.specs.Prelude.{◌≡◌, Bool, true, false, List, ℕ, Option, Some, refl, cond, unwrap_or}
use Rattle.std.specs.Borrow.{Bor}
use Rattle.std.specs.HashMap.{HashMap, UpdatesBy, get_by}
use Rattle.std.specs.Str.{bytes_eq}
use Rattle.std.proofs.Common.{◌∙◌, ap}
use Rattle.std.proofs.lemmas.Map.Text.{hash_map_updates_str}
use Rattle.ux_outputs.specs.declared.known.Known.{Known}
use Rattle.ux_outputs.specs.Kept.{NOTHING_KNOWN, known_in}

unwrap-cond : (b : Bool) (known : Known) (o : Option Known) →
    unwrap_or (cond b (Some known) o) NOTHING_KNOWN ≡ cond b known (unwrap_or o NOTHING_KNOWN)
unwrap-cond true known o = refl
unwrap-cond false known o = refl

pub known_in-set : {S : Type 0} (name : List ℕ) (old new : HashMap (Bor (List ℕ)) Known S)
    (known : Known) →
    UpdatesBy (λ x y. bytes_eq x.now y.now) (λ key. bytes_eq name key.now) old new (Some known) →
    (other : List ℕ) →
    known_in new other ≡ cond (bytes_eq name other) known (known_in old other)
known_in-set name old new known updates other =
    ap (λ (o : Option Known). unwrap_or o NOTHING_KNOWN)
    (hash_map_updates_str name old new (Some known) updates other)
    ∙ unwrap-cond (bytes_eq name other) known (get_by (λ key. bytes_eq other key.now) old)
