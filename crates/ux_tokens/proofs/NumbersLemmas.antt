-- A table of numbers that grows by one text at a time has the different texts of the tokens so far.
use Rattle.std.proofs.Common.{◌≡◌, ℕ, Bool, true, false, ◌||◌, List, [], ◌∷◌, map, length, refl, sym, ◌∙◌, ap, arith, Bor}
use Rattle.std.specs.List.{list_any}
use Rattle.std.specs.Str.{bytes_eq}
use Rattle.std.proofs.lemmas.List.{map-append, drop_all, length-map}
use Rattle.indexmap.specs.IndexSet.{IndexSet, insert_key}
use Rattle.ux_base.specs.Distinct.{with_text}
use Rattle.ux_tokens.specs.Numbers.{texts_in}

-- a table has as many texts as keys
pub length-texts_in : {S : Type 0} (numbers : IndexSet (Bor (List ℕ)) S) →
    length (texts_in numbers) ≡ length numbers.keys
length-texts_in numbers = length-map numbers.keys (λ (s : Bor (List ℕ)). s.now)

-- an empty one has none
pub no_texts : {S : Type 0} (numbers : IndexSet (Bor (List ℕ)) S) → length numbers.keys ≡ 0 →
    texts_in numbers ≡ []
no_texts numbers none =
    let empty : numbers.keys ≡ [] = drop_all 0 numbers.keys (omega (arith, none)) in
    ap (λ (keys : List (Bor (List ℕ))). map (λ (s : Bor (List ℕ)). s.now) keys) empty

-- the same test on slices of a text and on their bytes
list_any-slices : (text : List ℕ) (slices : List (Bor (List ℕ))) →
    list_any (λ (s : Bor (List ℕ)). bytes_eq text s.now) slices
    ≡ list_any (bytes_eq text) (map (λ (s : Bor (List ℕ)). s.now) slices)
list_any-slices text [] = refl
list_any-slices text (s ∷ slices) =
    ap (λ (b : Bool). bytes_eq text s.now || b) (list_any-slices text slices)

pub texts-insert : (slices : List (Bor (List ℕ))) (text : Bor (List ℕ)) →
    map (λ (s : Bor (List ℕ)). s.now) (insert_key (λ x y. bytes_eq x.now y.now) slices text)
    ≡ with_text (map (λ (s : Bor (List ℕ)). s.now) slices) text.now
texts-insert slices text =
    by (list_any (λ (s : Bor (List ℕ)). bytes_eq text.now s.now) slices) refl
  where
    by : (b : Bool) → list_any (λ (s : Bor (List ℕ)). bytes_eq text.now s.now) slices ≡ b →
        map (λ (s : Bor (List ℕ)). s.now) (insert_key (λ x y. bytes_eq x.now y.now) slices text)
        ≡ with_text (map (λ (s : Bor (List ℕ)). s.now) slices) text.now
    by true is =
        let there : list_any (bytes_eq text.now) (map (λ (s : Bor (List ℕ)). s.now) slices) ≡ true =
        sym (list_any-slices text.now slices) ∙ is in
        rw (is, there) refl
    by false is =
        let there : list_any (bytes_eq text.now) (map (λ (s : Bor (List ℕ)). s.now) slices) ≡ false
        =
        sym (list_any-slices text.now slices) ∙ is in
        rw (is, there) (map-append (λ (s : Bor (List ℕ)). s.now) slices (text ∷ []))
