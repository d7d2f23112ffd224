-- Ends that two texts have, and how the texts compare without them.
use Rattle.std.proofs.Common.{arith, ◌≡◌, ℕ, zero, suc, ◌+◌, ◌-◌, ◌<◌, List, [], ◌∷◌, ◌++◌, refl, sym, ap, ◌∙◌, subst, length, true, get_or, take, drop, reverse, IsUtf8}
use Rattle.std.specs.Char.{is_ascii}
use Rattle.std.specs.Str.{chars, IsAscii}
use Rattle.std.specs.Ordering.{nat_cmp}
use Rattle.std.specs.List.{slice_range}
use Rattle.std.specs.Cmp.Lexicographic.{slice_cmp}
use Rattle.std.proofs.lemmas.List.{drop_more, drop_all, get_or-drop, take-append-drop, reverse-append}
use Rattle.std.proofs.lemmas.Str.{chars-append, chars-IsAscii}
use Rattle.ux_concordance.specs.Ends.{IsSharedEnd}
use Rattle.ux_concordance.proofs.CharactersLemmas.{cmp-eq}

ascii_more : (byte : ℕ) (end : List ℕ) → byte < 128 → IsAscii end → IsAscii (byte ∷ end)
ascii_more byte end low ascii zero = low
ascii_more byte end low ascii (suc i) = ascii i

-- one byte more
longer : (text end : List ℕ) (shared : ℕ) → shared < length text →
    drop (length text - shared) text ≡ end →
    drop (length text - (shared + 1)) text ≡ get_or text (length text - 1 - shared) 0 ∷ end
longer text end shared lt is =
    let at : length text - (shared + 1) ≡ length text - 1 - shared = omega arith in
    let next : length text - 1 - shared + 1 ≡ length text - shared = omega (arith, lt) in
    ap (λ (n : ℕ). drop n text) at
    ∙ drop_more text (length text - 1 - shared) 0 (omega (arith, lt))
    ∙ ap (λ (n : ℕ). get_or text (length text - 1 - shared) 0 ∷ drop n text) next
    ∙ ap (λ (l : List ℕ). get_or text (length text - 1 - shared) 0 ∷ l) is

pub no_end : (text other : List ℕ) → IsSharedEnd text other 0
no_end text other = record {
  end = [];
  within = omega arith;
  within_other = omega arith;
  of_text = drop_all (length text - 0) text (omega arith);
  of_other = drop_all (length other - 0) other (omega arith);
  ascii = λ i. omega arith;
}

pub one_more : (text other : List ℕ) (shared : ℕ) → IsSharedEnd text other shared →
    shared < length text → shared < length other →
    get_or text (length text - 1 - shared) 0 < 128 →
    get_or text (length text - 1 - shared) 0 ≡ get_or other (length other - 1 - shared) 0 →
    IsSharedEnd text other (shared + 1)
one_more text other shared so_far lt lt_other low same = record {
  end = get_or text (length text - 1 - shared) 0 ∷ so_far.end;
  within = omega (arith, lt);
  within_other = omega (arith, lt_other);
  of_text = longer text so_far.end shared lt so_far.of_text;
  of_other = longer other so_far.end shared lt_other so_far.of_other
      ∙ ap (λ (b : ℕ). b ∷ so_far.end) (sym same);
  ascii = ascii_more _ _ low so_far.ascii;
}

fronted : (front xs ys : List ℕ) →
    slice_cmp nat_cmp (front ++ xs) (front ++ ys) ≡ slice_cmp nat_cmp xs ys
fronted [] xs ys = refl
fronted (x ∷ front) xs ys =
    cmp-eq (x ∷ front ++ xs) (x ∷ front ++ ys) (front ++ xs) x x refl (front ++ ys) refl (grind arith)
    ∙ fronted front xs ys

-- a byte that is ASCII
pub low_byte : (b : ℕ) → is_ascii b ≡ true → b < 128
low_byte b is = grind (arith, is)

-- the same of the texts that the bytes are
pub shared : {a b text other : List ℕ} {n : ℕ} → a ≡ text → b ≡ other → IsSharedEnd a b n →
    IsSharedEnd text other n
shared {b = b} {text = text} {n = n} a_is b_is so =
    subst (λ (l : List ℕ). IsSharedEnd text l n) b_is (subst (λ (l : List ℕ). IsSharedEnd l b n) a_is so)

-- a text may be cut before its end
pub cut_bounds : (text other : List ℕ) (shared : ℕ) (so : IsSharedEnd text other shared) →
    length text - shared < length text → get_or text (length text - shared) 0 < 128
cut_bounds text other shared so lt =
    let n = length text - shared in
    subst (λ (b : ℕ). b < 128)
    (ap (λ (l : List ℕ). get_or l 0 0) (sym so.of_text) ∙ get_or-drop n text 0 0
    ∙ ap (λ (i : ℕ). get_or text i 0) (omega arith))
    (so.ascii 0)

pub flipped : {text other : List ℕ} {shared : ℕ} → IsSharedEnd text other shared →
    IsSharedEnd other text shared
flipped so = record {
  end = so.end;
  within = so.within_other;
  within_other = so.within;
  of_text = so.of_other;
  of_other = so.of_text;
  ascii = so.ascii;
}

-- the characters from the last on are those of the end, and then of what stands before it
backwards : (text front end : List ℕ) → text ≡ front ++ end → IsUtf8 front → IsAscii end →
    reverse (chars text) ≡ reverse end ++ reverse (chars front)
backwards text front end is whole ascii =
    ap (λ (l : List ℕ). reverse (chars l)) is
    ∙ ap reverse (chars-append front end whole)
    ∙ ap (λ (l : List ℕ). reverse (chars front ++ l)) (chars-IsAscii end ascii)
    ∙ reverse-append (chars front) end

cut_at : (text end : List ℕ) (n : ℕ) → drop n text ≡ end → text ≡ take n text ++ end
cut_at text end n is = sym (take-append-drop n text) ∙ ap (λ (l : List ℕ). take n text ++ l) is

pub from_start : (text : List ℕ) (n : ℕ) → slice_range text 0 n ≡ take n text
from_start text n = ap (λ (m : ℕ). take m text) (omega arith)

-- without the end the texts compare as with it
pub compared : (text other front front_other : List ℕ) (n : ℕ) → IsSharedEnd text other n →
    front ≡ take (length text - n) text → front_other ≡ take (length other - n) other →
    IsUtf8 front → IsUtf8 front_other →
    slice_cmp nat_cmp (reverse (chars front)) (reverse (chars front_other))
    ≡ slice_cmp nat_cmp (reverse (chars text)) (reverse (chars other))
compared text other front front_other n so is is_other whole whole_other =
    let cut = cut_at text so.end (length text - n) so.of_text
    ∙ ap (λ (l : List ℕ). l ++ so.end) (sym is) in
    let cut_other = cut_at other so.end (length other - n) so.of_other
    ∙ ap (λ (l : List ℕ). l ++ so.end) (sym is_other) in
    let a = backwards text front so.end cut whole so.ascii in
    let b = backwards other front_other so.end cut_other whole_other so.ascii in
    sym (ap (λ (l : List ℕ). slice_cmp nat_cmp l (reverse (chars other))) a
    ∙ ap (slice_cmp nat_cmp (reverse so.end ++ reverse (chars front))) b
    ∙ fronted (reverse so.end) (reverse (chars front)) (reverse (chars front_other)))
