-- A line has one parse: the first part, and the codes behind signs, are found in one way.
use Rattle.std.proofs.Common.{◌≡◌, ℕ, List, [], ◌∷◌, ◌++◌, Bool, true, refl, sym, ◌∙◌, ap, subst, append_assoc}
use Rattle.std.specs.Prelude.{◌==◌}
use Rattle.std.proofs.lemmas.Bool.{both_ways, or_right}
use Rattle.ux_dela.specs.Signs.{BACKSLASH}
use Rattle.ux_dela.specs.Written.{Written, bare, protected, IsPart, is_end, all_behind}
use Rattle.ux_dela.specs.Codes.{IsCode, AreCodes, EndsCode}

-- a part doesn't go on there
abbrev pub Stopped : (ℕ → Bool) → List Written → Type 0
Stopped stops [] = Unit {0}
Stopped stops (bare b ∷ w) = is_end stops b ≡ true
Stopped stops (protected b ∷ w) = ⊥

pub IsPart-tail : (stops : ℕ → Bool) (x : Written) (w : List Written) → IsPart stops (x ∷ w) →
    IsPart stops w
IsPart-tail stops (bare b) w p = p.1
IsPart-tail stops (protected b) w p = p

-- a part goes on where it doesn't stop
not_stopped : (stops : ℕ → Bool) (x : Written) (v w : List Written) → IsPart stops (x ∷ v) →
    Stopped stops (x ∷ w) → ⊥
not_stopped stops (bare b) v w p s = both_ways (is_end stops b) p.0 s
not_stopped stops (protected b) v w p s = s

pub one_front : (stops : ℕ → Bool) (v w r s : List Written) → IsPart stops v → IsPart stops w →
    Stopped stops r → Stopped stops s → v ++ r ≡ w ++ s → (v ≡ w) × (r ≡ s)
one_front stops [] [] r s p q h k e = (refl, e)
one_front stops [] (y ∷ w) r s p q h k e =
    absurd (not_stopped stops y w (w ++ s) q (subst (λ (t : List Written). Stopped stops t) e h))
one_front stops (x ∷ v) [] r s p q h k e =
    absurd (not_stopped stops x v (v ++ r) p
    (subst (λ (t : List Written). Stopped stops t) (sym e) k))
one_front stops (x ∷ v) (y ∷ w) r s p q h k e =
    let head : x ≡ y = cc in
    let tail : v ++ r ≡ w ++ s = cc in
    let rest = one_front stops v w r s (IsPart-tail stops x v p) (IsPart-tail stops y w q) h k
    tail in
    (ap (λ z. z ∷ v) head ∙ ap (λ t. y ∷ t) rest.0, rest.1)

-- codes of this sign are over
pub record IsOver (sign : ℕ) (stops : ℕ → Bool) (w : List Written) : Type 0 where
  pub stopped : Stopped stops w
  pub other : (behind : List Written) → w ≡ bare sign ∷ behind → ⊥

-- a sign ends a code
pub sign_stops : (stops : ℕ → Bool) (sign : ℕ) → stops sign ≡ true → is_end stops sign ≡ true
sign_stops stops sign is = or_right (sign == BACKSLASH) (stops sign) is

-- what stands behind a code of a list that is over
run_stopped : (sign : ℕ) (stops : ℕ → Bool) (codes : List (List Written)) (w : List Written) →
    stops sign ≡ true → Stopped stops w → Stopped stops (all_behind sign codes ++ w)
run_stopped sign stops [] w is s = s
run_stopped sign stops (code ∷ codes) w is s = sign_stops stops sign is

-- the codes of a list are found in one way
pub one_run : (sign : ℕ) (stops : ℕ → Bool) (codes others : List (List Written))
    (v w : List Written) → stops sign ≡ true → AreCodes stops codes → AreCodes stops others →
    IsOver sign stops v → IsOver sign stops w →
    all_behind sign codes ++ v ≡ all_behind sign others ++ w → (codes ≡ others) × (v ≡ w)
one_run sign stops [] [] v w is a b h k e = (refl, e)
one_run sign stops [] (o ∷ others) v w is a b h k e =
    absurd (h.other ((o ++ all_behind sign others) ++ w) e)
one_run sign stops (c ∷ codes) [] v w is a b h k e =
    absurd (k.other ((c ++ all_behind sign codes) ++ v) (sym e))
one_run sign stops (c ∷ codes) (o ∷ others) v w is a b h k e =
    let inner : (c ++ all_behind sign codes) ++ v ≡ (o ++ all_behind sign others) ++ w = cc in
    let cut : c ++ (all_behind sign codes ++ v) ≡ o ++ (all_behind sign others ++ w) =
    sym (append_assoc c (all_behind sign codes) v) ∙ inner
    ∙ append_assoc o (all_behind sign others) w in
    let first = one_front stops c o (all_behind sign codes ++ v) (all_behind sign others ++ w)
    a.0.part b.0.part (run_stopped sign stops codes v is h.stopped)
    (run_stopped sign stops others w is k.stopped) cut in
    let rest = one_run sign stops codes others v w is a.1 b.1 h k first.1 in
    (ap (λ z. z ∷ codes) first.0 ∙ ap (λ t. o ∷ t) rest.0, rest.1)

-- no code is there
pub no_code : (stops : ℕ → Bool) (code w behind : List Written) → IsCode stops code →
    EndsCode stops behind → code ++ w ≡ behind → ⊥
no_code stops [] w behind is ends e = is.some refl
no_code stops (bare b ∷ code) w behind is ends e =
    both_ways (is_end stops b) is.part.0
    (or_right (b == BACKSLASH) (stops b)
    (subst (λ (t : List Written). EndsCode stops t) (sym e) ends))
no_code stops (protected b ∷ code) w behind is ends e =
    subst (λ (t : List Written). EndsCode stops t) (sym e) ends

-- no code of a list is empty
pub none_empty : (sign : ℕ) (stops : ℕ → Bool) (codes others : List (List Written))
    (v behind : List Written) → stops sign ≡ true → AreCodes stops codes → AreCodes stops others →
    IsOver sign stops v → EndsCode stops behind →
    all_behind sign codes ++ v ≡ all_behind sign others ++ bare sign ∷ behind → ⊥
none_empty sign stops [] [] v behind is a b h ends e = h.other behind e
none_empty sign stops [] (o ∷ others) v behind is a b h ends e =
    h.other ((o ++ all_behind sign others) ++ bare sign ∷ behind) e
none_empty sign stops (c ∷ codes) [] v behind is a b h ends e =
    let inner : (c ++ all_behind sign codes) ++ v ≡ behind = cc in
    no_code stops c (all_behind sign codes ++ v) behind a.0 ends
    (sym (append_assoc c (all_behind sign codes) v) ∙ inner)
none_empty sign stops (c ∷ codes) (o ∷ others) v behind is a b h ends e =
    let inner : (c ++ all_behind sign codes) ++ v
    ≡ (o ++ all_behind sign others) ++ bare sign ∷ behind = cc in
    let cut : c ++ (all_behind sign codes ++ v)
    ≡ o ++ (all_behind sign others ++ bare sign ∷ behind) =
    sym (append_assoc c (all_behind sign codes) v) ∙ inner
    ∙ append_assoc o (all_behind sign others) (bare sign ∷ behind) in
    let first = one_front stops c o (all_behind sign codes ++ v)
    (all_behind sign others ++ bare sign ∷ behind) a.0.part b.0.part
    (run_stopped sign stops codes v is h.stopped)
    (run_stopped sign stops others (bare sign ∷ behind) is (sign_stops stops sign is)) cut in
    none_empty sign stops codes others v behind is a.1 b.1 h ends first.1
