-- A list with an entry for each place of all graphs, cut into rows. Inner: the crates that make
-- nets alone speak of it.
use Rattle.std.specs.Prelude.{List, [], ◌∷◌, length, take, drop}
use Rattle.ux_boxes.specs.declared.place.Place.{Place}

-- a row for each graph, as long as the list of its places
abbrev pub cut : {A : Type 0} → List (List Place) → List A → List (List A)
cut [] items = []
cut (places ∷ graphs) items =
    take (length places) items ∷ cut graphs (drop (length places) items)
