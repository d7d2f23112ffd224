-- What clap found, as it is taken.
use Rattle.std.proofs.Common.{◌≡◌, refl, ℕ, Bool, true, false, List, Option, Some, None, is_some, option_map, option_and_then, find, bytes_eq, slice_get, map, [], Bor, unwrap_or, if◌then◌else◌}
use Rattle.clap.specs.Walk.{Row, first_of}
use Rattle.ux_command_line.specs.Matching.{first_in, found_in, is_set, value_by}

-- clap's first value
pub first_of-found : (id : List ℕ) (rows : List Row) →
    first_of id rows ≡ first_in id (found_in rows)
first_of-found id rows = by_case (find (λ r. bytes_eq r.id id) rows)
  where
    by_case : (row : Option Row) → option_and_then (λ r. slice_get r.values 0) row
        ≡ option_and_then (λ values. slice_get values 0) (option_map (λ r. r.values) row)
    by_case None = refl
    by_case (Some row) = refl

-- a flag is given where clap found `true`
pub given_if_set : (first : Option (List ℕ)) → is_set first ≡ is_some (value_by true first)
given_if_set first = by_case (is_set first)
  where
    by_case : (b : Bool) → b ≡ is_some {T = List ℕ} (if b then Some [] else None)
    by_case true = refl
    by_case false = refl

-- the names that are found, or none
pub names_found : (given : Option (Bor (List (Bor (List ℕ))))) (none : Bor (List (Bor (List ℕ))))
    (found : Option (List (List ℕ))) →
    option_map (λ names. map (λ name. name.now) names.now) given ≡ found → none.now ≡ [] →
    map (λ name. name.now) (unwrap_or given none).now ≡ unwrap_or found []
names_found None none found is empty = rw (← is, empty) refl
names_found (Some names) none found is empty = rw (← is) refl
