-- An alphabet file has one list of lines, or one refusal, and never both.
use Rattle.std.proofs.Common.{arith, ◌≡◌, ℕ, List, [], ◌∷◌, refl, sym, ◌∙◌, ap, get_or, length}
use Rattle.ux_base.specs.Lines.{lines_of}
use Rattle.ux_base.proofs.EachLineLemmas.{not_refused, said_once, refused_in_one_way}
use Rattle.ux_alphabet.specs.File.{characters_of, LineSays, nothing, single, pair, range, IsBadLine, IsEmptyRange, RefusesLine, AreLines, Refuses}
use Rattle.ux_alphabet.specs.declared.line.Line.{Line}
use Rattle.ux_alphabet.specs.declared.line.Line.TheVariants.{Single, Pair, Range}
use Rattle.ux_alphabet.specs.declared.error.AlphabetError.{AlphabetError}
use Rattle.ux_alphabet.specs.declared.error.AlphabetError.TheVariants.{BadLine, EmptyRange, NoMemory}

module _ (text : List ℕ) where
  -- the characters of a line are as many in one telling as in another
  as_many : (some other : List ℕ) → characters_of text ≡ some → characters_of text ≡ other →
      length some ≡ length other
  as_many some other is also = ap length (sym is ∙ also)

  -- and each stands at its place
  same_at : (place : ℕ) (some other : List ℕ) → characters_of text ≡ some →
      characters_of text ≡ other → get_or some place 0 ≡ get_or other place 0
  same_at place some other is also = ap (λ (cs : List ℕ). get_or cs place 0) (sym is ∙ also)

-- a line says one thing only
pub says_once : (text : List ℕ) (said other : List Line) → LineSays text said →
    LineSays text other → said ≡ other
says_once text said other (nothing t is) (nothing u also) = refl
says_once text said other (nothing t is) (single u letter also) =
    absurd (omega (arith, as_many text _ _ is also))
says_once text said other (nothing t is) (pair u upper lower also) =
    absurd (omega (arith, as_many text _ _ is also))
says_once text said other (nothing t is) (range u first last also le) =
    absurd (omega (arith, as_many text _ _ is also))
says_once text said other (single t letter is) (nothing u also) =
    absurd (omega (arith, as_many text _ _ is also))
says_once text said other (single t letter is) (single u same also) =
    ap (λ c. Single c ∷ []) (same_at text 0 _ _ is also)
says_once text said other (single t letter is) (pair u upper lower also) =
    absurd (omega (arith, as_many text _ _ is also))
says_once text said other (single t letter is) (range u first last also le) =
    absurd (omega (arith, as_many text _ _ is also))
says_once text said other (pair t upper lower is) (nothing u also) =
    absurd (omega (arith, as_many text _ _ is also))
says_once text said other (pair t upper lower is) (single u letter also) =
    absurd (omega (arith, as_many text _ _ is also))
says_once text said other (pair t upper lower is) (pair u high low also) =
    ap (λ c. Pair c lower ∷ []) (same_at text 0 _ _ is also)
    ∙ ap (λ c. Pair high c ∷ []) (same_at text 1 _ _ is also)
says_once text said other (pair t upper lower is) (range u first last also le) =
    absurd (omega (arith, as_many text _ _ is also))
says_once text said other (range t first last is le) (nothing u also) =
    absurd (omega (arith, as_many text _ _ is also))
says_once text said other (range t first last is le) (single u letter also) =
    absurd (omega (arith, as_many text _ _ is also))
says_once text said other (range t first last is le) (pair u upper lower also) =
    absurd (omega (arith, as_many text _ _ is also))
says_once text said other (range t first last is le) (range u from to also less) =
    ap (λ c. Range c last ∷ []) (same_at text 1 _ _ is also)
    ∙ ap (λ c. Range from c ∷ []) (same_at text 2 _ _ is also)

-- a line that says something is not refused
bad_excluded : (text : List ℕ) (said : List Line) → LineSays text said → IsBadLine text → ⊥
bad_excluded text said (nothing t is) bad = omega (arith, ap length is, bad.many)
bad_excluded text said (single t letter is) bad = omega (arith, ap length is, bad.many)
bad_excluded text said (pair t upper lower is) bad = omega (arith, ap length is, bad.many)
bad_excluded text said (range t first last is le) bad = bad.no_range first last is

empty_excluded : (text : List ℕ) (said : List Line) → LineSays text said → IsEmptyRange text → ⊥
empty_excluded text said (nothing t is) empty = omega (arith, as_many text _ _ is empty.2)
empty_excluded text said (single t letter is) empty = omega (arith, as_many text _ _ is empty.2)
empty_excluded text said (pair t upper lower is) empty = omega (arith, as_many text _ _ is empty.2)
empty_excluded text said (range t first last is le) empty =
    omega (arith, le, empty.3, same_at text 1 _ _ is empty.2, same_at text 2 _ _ is empty.2)

pub says_excluded : (text : List ℕ) (number : ℕ) (said : List Line) (error : AlphabetError) →
    LineSays text said → RefusesLine text number error → ⊥
says_excluded text number said (BadLine line) says refuses =
    bad_excluded text said says refuses.1
says_excluded text number said (EmptyRange line) says refuses =
    empty_excluded text said says refuses.1
says_excluded text number said NoMemory says refuses = refuses

-- a line is refused in one way only
pub line_refused_once : (text : List ℕ) (number : ℕ) (one other : AlphabetError) →
    RefusesLine text number one → RefusesLine text number other → one ≡ other
line_refused_once text number (BadLine n) (BadLine m) r s = ap BadLine (r.0 ∙ sym s.0)
line_refused_once text number (BadLine n) (EmptyRange m) r s =
    absurd (r.1.no_range s.1.0 s.1.1 s.1.2)
line_refused_once text number (BadLine n) NoMemory r s = absurd s
line_refused_once text number (EmptyRange n) (BadLine m) r s =
    absurd (s.1.no_range r.1.0 r.1.1 r.1.2)
line_refused_once text number (EmptyRange n) (EmptyRange m) r s = ap EmptyRange (r.0 ∙ sym s.0)
line_refused_once text number (EmptyRange n) NoMemory r s = absurd s
line_refused_once text number NoMemory other r s = absurd r

-- a file has one list of lines
pub lines_are_unique : (text : List ℕ) (lines other : List Line) → AreLines text lines →
    AreLines text other → lines ≡ other
lines_are_unique text lines other are also =
    said_once LineSays RefusesLine says_once (lines_of text) lines other are also

-- a file that has lines is not refused
pub lines_not_refused : (text : List ℕ) (lines : List Line) (error : AlphabetError) →
    AreLines text lines → Refuses text error → ⊥
lines_not_refused text lines error are refuses =
    not_refused LineSays RefusesLine says_excluded (lines_of text) 1 lines error are refuses

-- no file is refused in two ways
pub refused_once : (text : List ℕ) (one other : AlphabetError) → Refuses text one →
    Refuses text other → one ≡ other
refused_once text one other r s =
    refused_in_one_way LineSays RefusesLine says_excluded line_refused_once (lines_of text) 1
    one other r s
