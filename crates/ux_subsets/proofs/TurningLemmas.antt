-- A list whose elements are changed in place, one after the other.
use Rattle.std.proofs.Common.{arith, ◌≡◌, ℕ, ◌+◌, ◌<◌, List, [], ◌∷◌, ◌++◌, sym, ap, ◌∙◌, length, take, drop, get_or, set, map}
use Rattle.std.proofs.lemmas.List.{append_assoc, take_more, drop_more, map-append, length-map, length-take-le, set_at, get_or_at}

-- one element more is changed
pub changed_more : {A : Type 0} (change : A → A) (old now new : List A) (i : ℕ) (d : A) → i < length old → now ≡ map change (take i old) ++ drop i old →
    new ≡ set now i (change (get_or now i d)) → new ≡ map change (take (i + 1) old) ++ drop (i + 1) old
changed_more {A} change old now new i d lt was is =
    let x = get_or old i d in
    let front = map change (take i old) in
    let rest = drop (i + 1) old in
    let len : length front ≡ i = length-map (take i old) change ∙ length-take-le i old (omega (arith, lt)) in
    let split : now ≡ front ++ x ∷ rest = was ∙ ap (λ (xs : List A). front ++ xs) (drop_more old i d lt) in
    let at : get_or now i d ≡ x = ap (λ (xs : List A). get_or xs i d) split ∙ get_or_at front x rest d i len in
    let put : new ≡ front ++ change x ∷ rest =
    is ∙ (ap (λ (y : A). set now i (change y)) at ∙ (ap (λ (xs : List A). set xs i (change x)) split ∙ set_at front x rest (change x) i len)) in
    let more : map change (take (i + 1) old) ≡ front ++ change x ∷ [] = ap (map change) (take_more old i d lt) ∙ map-append change (take i old) (x ∷ []) in
    put ∙ (sym (append_assoc front (change x ∷ []) rest) ∙ ap (λ (xs : List A). xs ++ rest) (sym more))
