use Rattle.std.proofs.Common.{◌≡◌, ◌∷◌, ◌++◌, ℕ, List, length}
use denote.Text.{Utf8}
use denote.Shadow.{shadow}
use Rattle.ux_dela.specs.Signs.{COLON}
use Rattle.ux_inflect.specs.Inflected.{HasCodes}
use Rattle.ux_inflect.proofs.codes.put_codes.Given as goal

-- the codes so far are there, and the rest has the others
abbrev pub invariant-loop-code : goal.invariant-loop-code
invariant-loop-code l = shadow (Utf8 l.rest) × ((code : List ℕ) (more : List (List ℕ)) →
    HasCodes (COLON ∷ l.fn.text) (code ∷ more) →
    (before : List (List ℕ)) × (next : List ℕ) × (later : List (List ℕ))
    × (code ∷ more ≡ before ++ next ∷ later) × (l.codes ≡ l.fn.codes ++ before)
    × HasCodes (COLON ∷ l.rest) (next ∷ later))

abbrev pub decreases-loop-code : goal.decreases-loop-code
decreases-loop-code l = length l.rest
