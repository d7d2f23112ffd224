-- The table of names: a name's place in it is the number of its graph.
use Rattle.std.proofs.Common.{◌≡◌, ℕ, ◌<◌, Bool, true, List, Bor, map, length, get_or, Some, sym, ◌∙◌, ap, subst}
use Rattle.std.specs.Prelude.{Contains, slice_get, position}
use Rattle.std.specs.List.{list_any}
use Rattle.std.specs.Str.{bytes_eq}
use Rattle.std.specs.Cmp.Lexicographic.{same_text}
use Rattle.std.proofs.lemmas.Slice.Eq.{bytes_eq-Decides}
use Rattle.std.proofs.lemmas.List.{length-map}
use Rattle.std.proofs.Math.ListN.{get_or-map}
use Rattle.std.proofs.lemmas.List.Folds.{list_any_at}
use Rattle.std.proofs.lemmas.List.Quantifiers.{position-Some}
use Rattle.std.proofs.lemmas.Option.{slice_get-map, slice_get-get_or}
use Rattle.std.specs.Option.{option_map}

-- whether a slice is the name
abbrev is_name : Bor (List ℕ) → Bor (List ℕ) → Bool
is_name name s = bytes_eq name.now s.now

-- what a search for the name finds is the name
pub named_at : (slices : List (Bor (List ℕ))) (name : Bor (List ℕ)) (i : ℕ) →
    position (is_name name) slices ≡ Some i →
    slice_get (map (λ (s : Bor (List ℕ)). s.now) slices) i ≡ Some name.now
named_at slices name i found =
    let at = position-Some (is_name name) slices i name found in
    slice_get-map (λ (s : Bor (List ℕ)). s.now) slices i
    ∙ ap (option_map (λ (s : Bor (List ℕ)). s.now)) (slice_get-get_or slices i name at.0)
    ∙ ap Some (sym (same_text name.now (get_or slices i name).now (sym at.1)))

-- a name of the table is found
pub named_there : (slices : List (Bor (List ℕ))) (name : Bor (List ℕ)) →
    Contains (map (λ (s : Bor (List ℕ)). s.now) slices) name.now →
    list_any (is_name name) slices ≡ true
named_there slices name (i, within, at) =
    let inside : i < length slices =
    subst (λ n. i < n) (length-map slices (λ (s : Bor (List ℕ)). s.now)) within in
    let here : (get_or slices i name).now ≡ name.now =
    sym (get_or-map (λ (s : Bor (List ℕ)). s.now) slices i name) ∙ at in
    list_any_at (is_name name) slices i name inside
    ((bytes_eq-Decides name.now (get_or slices i name).now).1 (sym here))
