-- A word as `-x` has a character after its hyphen.
use Rattle.std.proofs.Common.{◌≡◌, ◌∙◌, refl, ap, subst, ℕ, suc, Bool, true, false, ◌==◌, List, [], ◌∷◌, Some, None, slice_get, chars, IsUtf8, encode_utf8_all, length}
use Rattle.std.specs.Char.{encode_utf8}
use Rattle.std.proofs.lemmas.Str.{IsUtf8-past_char, encodes-chars}
use Rattle.std.proofs.lemmas.Bool.Decides.{nat_tests}
use Rattle.clap.specs.Lexer.{short_of, short_of_rest}
use Rattle.std.proofs.Common.{arith}

-- the flags of a word: their first character, and how many bytes they have
pub record AreFlags (flags : List ℕ) : Type 0 where
  pub first : ℕ
  pub is_first : slice_get (chars flags) 0 ≡ Some first
  pub further : ℕ
  pub bytes : length flags ≡ suc further

flags_of : (flags : List ℕ) (x : ℕ) (xs : List ℕ) → flags ≡ x ∷ xs → (characters : List ℕ) →
    chars flags ≡ characters → encode_utf8_all characters ≡ flags → AreFlags flags
flags_of flags x xs is [] e spelt = let wrong : [] ≡ x ∷ xs = spelt ∙ is in cc
flags_of flags x xs is (first ∷ rest) e spelt = record {
  first = first;
  is_first = rw e refl;
  further = length xs;
  bytes = rw is refl;
}

behind_hyphen : (text rest : List ℕ) → IsUtf8 text → text ≡ 45 ∷ rest → IsUtf8 rest
unfolding encode_utf8
behind_hyphen text rest utf8 is = IsUtf8-past_char text rest 45 utf8 is

flags_in : (rest flags : List ℕ) → IsUtf8 rest → short_of_rest rest ≡ Some flags → AreFlags flags
flags_in [] flags utf8 is = let wrong : None ≡ Some flags = is in cc
flags_in (x ∷ xs) flags utf8 is = by_case (x == 45) refl
  where
    by_case : (b : Bool) → (x == 45) ≡ b → AreFlags flags
    by_case true e = let wrong : None ≡ Some flags = rw e at is in cc
    by_case false e =
        let found : Some (x ∷ xs) ≡ Some flags = rw e at is in
        let same : x ∷ xs ≡ flags = cc in
        subst AreFlags same (flags_of (x ∷ xs) x xs refl (chars (x ∷ xs)) refl
        (encodes-chars (x ∷ xs) utf8))

pub short_flags : (text flags : List ℕ) → IsUtf8 text → short_of text ≡ Some flags →
    AreFlags flags
short_flags [] flags utf8 is = let wrong : None ≡ Some flags = is in cc
short_flags (first ∷ rest) flags utf8 is = by_case (first == 45) refl
  where
    by_case : (b : Bool) → (first == 45) ≡ b → AreFlags flags
    by_case true e =
        let hyphen : first ≡ 45 = grind (arith, nat_tests) in
        let found : short_of_rest rest ≡ Some flags = rw e at is in
        flags_in rest flags (behind_hyphen (first ∷ rest) rest utf8 (ap (λ b. b ∷ rest) hyphen))
        found
    by_case false e = let wrong : None ≡ Some flags = rw e at is in cc
