-- What is found in the rows after one more use.
use Rattle.std.proofs.Common.{◌≡◌, ◌∙◌, refl, sym, ap, Bool, true, false, cond, ◌||◌, List, [], ◌∷◌, ◌++◌, Some, is_some, option_map, find, bytes_eq, if◌then◌else◌}
use Rattle.std.specs.Prelude.{unwrap_or}
use Rattle.std.proofs.lemmas.Slice.Eq.{bytes_eq-Decides}
use Rattle.clap.specs.Walk.{Row, Text, all_of, has_row, with_values, without}
use Rattle.clap.specs.declared.builder.value_parser.Reading.{Reading}
use Rattle.clap.specs.declared.parser.matches.ValueSource.{ValueSource}
use Rattle.ux_command_line.specs.Matching.{Found, found_in}
use Rattle.ux_command_line.proofs.BoolLemmas.{differ}

-- more values under an id
abbrev pub put : Text → List Text → Found → Found
put id values found other =
    if bytes_eq id other then Some (unwrap_or (found other) [] ++ values) else found other

module _ (id : Text) (how : Reading) (source : ValueSource) (values : List Text)
    (other : Text) where
  here : (row : Row) (rows : List Row) → bytes_eq row.id id ≡ true → (b : Bool) →
      bytes_eq id other ≡ b →
      all_of other (with_values id how source values (row ∷ rows))
      ≡ put id values (found_in (row ∷ rows)) other
  here row rows same b e =
      let ids = (bytes_eq-Decides row.id id).0 same in
      let alike : bytes_eq row.id other ≡ b = ap (λ x. bytes_eq x other) ids ∙ e in
      by_case b e alike
    where
      by_case : (b : Bool) → bytes_eq id other ≡ b → bytes_eq row.id other ≡ b →
          all_of other (with_values id how source values (row ∷ rows))
          ≡ put id values (found_in (row ∷ rows)) other
      by_case true e alike = rw same (rw (e, alike) refl)
      by_case false e alike = rw same (rw (e, alike) refl)

  there : (row : Row) (rows : List Row) → bytes_eq row.id id ≡ false →
      all_of other (with_values id how source values rows) ≡ put id values (found_in rows) other →
      (b : Bool) → bytes_eq row.id other ≡ b →
      all_of other (with_values id how source values (row ∷ rows))
      ≡ put id values (found_in (row ∷ rows)) other
  there row rows differs later false e = rw differs (rw e later)
  there row rows differs later true e = by_case (bytes_eq id other) refl
    where
      by_case : (b : Bool) → bytes_eq id other ≡ b →
          all_of other (with_values id how source values (row ∷ rows))
          ≡ put id values (found_in (row ∷ rows)) other
      by_case false apart = rw differs (rw (e, apart) refl)
      by_case true same =
          let ids = (bytes_eq-Decides row.id other).0 e
          ∙ sym ((bytes_eq-Decides id other).0 same) in
          absurd (differ _ ((bytes_eq-Decides row.id id).1 ids) differs)

  found-with_values : (rows : List Row) →
      all_of other (with_values id how source values rows) ≡ put id values (found_in rows) other
  found-with_values [] = by_case (bytes_eq id other) refl
    where
      by_case : (b : Bool) → bytes_eq id other ≡ b →
          all_of other (with_values id how source values [])
          ≡ put id values (found_in []) other
      by_case true e = rw e refl
      by_case false e = rw e refl
  found-with_values (row ∷ rows) = by_case (bytes_eq row.id id) refl (found-with_values rows)
    where
      by_case : (b : Bool) → bytes_eq row.id id ≡ b →
          all_of other (with_values id how source values rows)
          ≡ put id values (found_in rows) other →
          all_of other (with_values id how source values (row ∷ rows))
          ≡ put id values (found_in (row ∷ rows)) other
      by_case true e later = here row rows e (bytes_eq id other) refl
      by_case false e later = there row rows e later (bytes_eq row.id other) refl

-- an id has a row where something is found under it
pub has_row-found : (id : Text) (rows : List Row) →
    has_row id rows ≡ is_some (found_in rows id)
has_row-found id [] = refl
has_row-found id (row ∷ rows) = by_case (bytes_eq row.id id) (has_row-found id rows)
  where
    by_case : (b : Bool) → has_row id rows ≡ is_some (found_in rows id) →
        (b || has_row id rows)
        ≡ is_some (option_map (λ r. r.values)
        (cond b (Some row) (find (λ r. bytes_eq r.id id) rows)))
    by_case true later = refl
    by_case false later = later

pub without-none : (id : Text) (rows : List Row) → has_row id rows ≡ false →
    without id rows ≡ rows
without-none id [] none = refl
without-none id (row ∷ rows) none = by_case (bytes_eq row.id id) refl (without-none id rows)
  where
    by_case : (b : Bool) → bytes_eq row.id id ≡ b →
        (has_row id rows ≡ false → without id rows ≡ rows) → without id (row ∷ rows) ≡ row ∷ rows
    by_case true e later = let wrong : true ≡ false = rw e at none in cc
    by_case false e later = rw e (ap (λ l. row ∷ l) (later (rw e at none)))

-- the values of one more use
pub found-used : (id : Text) (how : Reading) (source : ValueSource) (values : List Text)
    (rows : List Row) → found_in (with_values id how source values rows)
    ≡ put id values (found_in rows)
found-used id how source values rows =
    λ i other. found-with_values id how source values other rows i
