-- The last dot of a name cuts off its extension.
use Rattle.std.proofs.Common.{arith, ◌≡◌, ◌≢◌, ℕ, ◌+◌, ◌<◌, List, ◌∷◌, ◌++◌, length, get_or, take, drop, sym, ◌∙◌, ap, inl}
use Rattle.std.specs.Prelude.{Option, None, Some, MatchOption, Contains}
use Rattle.std.proofs.lemmas.List.{take-append-drop, drop_more, get_or_default, get_or-drop, length-drop}
use Rattle.ux_apply.specs.Names.{DOT, IsLastDot, IsStem}

-- what is found from behind is the last dot
pub last_dot_is : (name : List ℕ) (found : Option ℕ) →
    MatchOption found ((i : ℕ) → i < length name → get_or name i 0 ≢ DOT)
    (λ k. (k < length name) × (get_or name k 0 ≡ DOT)
    × ((i : ℕ) → k < i → i < length name → get_or name i 0 ≢ DOT)) →
    MatchOption found (Contains name DOT → ⊥) (IsLastDot name)
last_dot_is name None lacks =
    λ has. lacks has.0 has.1 (get_or_default name has.0 0 DOT has.1 ∙ has.2)
last_dot_is name (Some k) is = record { within = is.0; dot = is.1; last = is.2 }

-- the name in front of the last dot is its stem
pub stem_before : (name : List ℕ) (place : ℕ) → IsLastDot name place →
    IsStem name (take place name)
stem_before name place is =
    let rest : drop place name ≡ DOT ∷ drop (place + 1) name =
    drop_more name place 0 is.within ∙ ap (λ (b : ℕ). b ∷ drop (place + 1) name) is.dot in
    inl (
      drop (place + 1) name,
      sym (take-append-drop place name) ∙ ap (λ (l : List ℕ). take place name ++ l) rest,
      λ has.
          let at = get_or-drop (place + 1) name has.0 DOT in
          let long = length-drop (place + 1) name in
          let within : (place + 1) + has.0 < length name = omega (arith, has.1, long) in
          is.last ((place + 1) + has.0) (omega arith) within
          (get_or_default name ((place + 1) + has.0) 0 DOT within ∙ (sym at ∙ has.2)),
    )
