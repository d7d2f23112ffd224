-- Tests.
use Rattle.std.proofs.Common.{arith, ◌≡◌, ◌∙◌, sym, refl, ℕ, suc, Bool, true, false, ◌==◌, Option, Some, None, is_some, if◌then◌else◌, ◌&&◌, not}
use Rattle.std.proofs.lemmas.Bool.Decides.{nat_tests}

pub and_left : (a b : Bool) → (a && b) ≡ true → a ≡ true
and_left true b e = refl
and_left false b e = e

pub and_right : (a b : Bool) → (a && b) ≡ true → b ≡ true
and_right true b e = e
and_right false b e = let wrong : false ≡ true = e in cc

-- what a test refuses is none
pub none_unless : {T : Type 0} (test : Bool) (x : Option T) → (test ≡ true → ⊥) →
    (if test then x else None) ≡ None
none_unless true x fails = absurd (fails refl)
none_unless false x fails = refl

pub differ : (test : Bool) → test ≡ true → test ≡ false → ⊥
differ test holds fails = let wrong : true ≡ false = sym holds ∙ fails in cc

pub and_false : (b : Bool) → (b && false) ≡ false
and_false true = refl
and_false false = refl

pub not_empty : (n : ℕ) → (suc n == 0) ≡ false
not_empty n = grind (arith, nat_tests)

-- what isn't some is none
pub not_some : {T : Type 0} (x : Option T) → is_some x ≡ false → x ≡ None
not_some None e = refl
not_some (Some x) e = let wrong : true ≡ false = e in cc

pub not_false : (b : Bool) → not b ≡ true → b ≡ false
not_false true e = let wrong : false ≡ true = e in cc
not_false false e = refl
