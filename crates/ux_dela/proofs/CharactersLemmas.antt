-- A text is its characters as they are written, and a part is read back from its text.
use Rattle.std.proofs.Common.{◌≡◌, ℕ, List, [], ◌∷◌, ◌++◌, Bool, true, false, refl, sym, ◌∙◌, ap}
use Rattle.std.specs.Prelude.{◌==◌}
use Rattle.std.proofs.lemmas.Bool.{cond-false, cond_both, or_parts, eqb-true}
use Rattle.std.proofs.lemmas.List.{append-nil}
use Rattle.ux_dela.specs.Signs.{BACKSLASH}
use Rattle.ux_dela.specs.Written.{Written, bare, protected, written, IsPart, is_end}
use Rattle.ux_dela.specs.Reading.{characters, characters_from}

pub written-append : (v w : List Written) → written (v ++ w) ≡ written v ++ written w
written-append [] w = refl
written-append (bare b ∷ v) w = ap (λ t. b ∷ t) (written-append v w)
written-append (protected b ∷ v) w = ap (λ t. BACKSLASH ∷ (b ∷ t)) (written-append v w)

pub IsPart-append : (stops : ℕ → Bool) (v w : List Written) → IsPart stops v → IsPart stops w →
    IsPart stops (v ++ w)
IsPart-append stops [] w p q = q
IsPart-append stops (bare b ∷ v) w p q = (p.0, IsPart-append stops v w p.1 q)
IsPart-append stops (protected b ∷ v) w p q = IsPart-append stops v w p q

pub IsPart-front : (stops : ℕ → Bool) (v w : List Written) → IsPart stops (v ++ w) → IsPart stops v
IsPart-front stops [] w p = tt
IsPart-front stops (bare b ∷ v) w p = (p.0, IsPart-front stops v w p.1)
IsPart-front stops (protected b ∷ v) w p = IsPart-front stops v w p

pub IsPart-rest : (stops : ℕ → Bool) (v w : List Written) → IsPart stops (v ++ w) → IsPart stops w
IsPart-rest stops [] w p = p
IsPart-rest stops (bare b ∷ v) w p = IsPart-rest stops v w p.1
IsPart-rest stops (protected b ∷ v) w p = IsPart-rest stops v w p

-- a part that ends at some signs ends at fewer ones too
pub IsPart-weaker : (stops other : ℕ → Bool) →
    ((b : ℕ) → is_end stops b ≡ false → is_end other b ≡ false) →
    (v : List Written) → IsPart stops v → IsPart other v
IsPart-weaker stops other fewer [] p = tt
IsPart-weaker stops other fewer (bare b ∷ v) p =
    (fewer b p.0, IsPart-weaker stops other fewer v p.1)
IsPart-weaker stops other fewer (protected b ∷ v) p = IsPart-weaker stops other fewer v p

-- a bare byte is read as one, unless it is a backslash
pub characters_bare : (b : ℕ) (rest : List ℕ) → (b == BACKSLASH) ≡ false →
    characters (b ∷ rest) ≡ bare b ∷ characters rest
characters_bare b rest other =
    cond-false (b == BACKSLASH) (characters_from true rest) (bare b ∷ characters rest) other

-- what is written for a part is read as that part
pub characters-written : (stops : ℕ → Bool) (part : List Written) (rest : List ℕ) →
    IsPart stops part → characters (written part ++ rest) ≡ part ++ characters rest
characters-written stops [] rest p = refl
characters-written stops (bare b ∷ part) rest p =
    let other : (b == BACKSLASH) ≡ false = (or_parts (b == BACKSLASH) (stops b) p.0).0 in
    characters_bare b (written part ++ rest) other
    ∙ ap (λ t. bare b ∷ t) (characters-written stops part rest p.1)
characters-written stops (protected b ∷ part) rest p =
    ap (λ t. protected b ∷ t) (characters-written stops part rest p)

pub characters_part : (stops : ℕ → Bool) (part : List Written) →
    IsPart stops part → characters (written part) ≡ part
characters_part stops part p =
    ap characters (sym (append-nil (written part))) ∙ characters-written stops part [] p
    ∙ append-nil part

-- the text behind a backslash, where there is one
behind_backslash : Bool → List ℕ → List ℕ
behind_backslash true text = BACKSLASH ∷ text
behind_backslash false text = text

written-characters_from : (p : Bool) (text : List ℕ) →
    written (characters_from p text) ≡ behind_backslash p text
unfolding behind_backslash
written-characters_from true [] = refl
written-characters_from false [] = refl
written-characters_from true (b ∷ text) =
    ap (λ t. BACKSLASH ∷ (b ∷ t)) (written-characters_from false text)
written-characters_from false (b ∷ text) =
    cond_both (b == BACKSLASH) (characters_from true text) (bare b ∷ characters_from false text)
    (λ w. written w ≡ b ∷ text)
    (λ e. written-characters_from true text ∙ ap (λ c. c ∷ text) (sym (eqb-true b BACKSLASH e)))
    (λ e. ap (λ t. b ∷ t) (written-characters_from false text))

-- the characters of a text write that text
pub written-characters : (text : List ℕ) → written (characters text) ≡ text
unfolding behind_backslash
written-characters text = written-characters_from false text

-- behind a part the characters of the rest follow
pub characters-append : (stops : ℕ → Bool) (front rest : List ℕ) → IsPart stops (characters front) →
    characters (front ++ rest) ≡ characters front ++ characters rest
characters-append stops front rest p =
    ap (λ f. characters (f ++ rest)) (sym (written-characters front))
    ∙ characters-written stops (characters front) rest p
