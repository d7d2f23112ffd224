-- What two texts have in common at the front, a character at a time.
use Rattle.std.proofs.Common.{arith, ◌≡◌, ℕ, suc, ◌≤◌, ◌+◌, ◌-◌, List, [], ◌∷◌, ◌++◌, Bool, true, false, cond, refl, sym, ◌∙◌, ap, subst, length, length-append, take, drop, nat_eq}
use Rattle.std.specs.Prelude.{IsUtf8}
use Rattle.std.specs.List.{common_prefix_len}
use Rattle.std.specs.Str.{chars, encode_utf8_all, IsCharBoundary}
use Rattle.std.proofs.lemmas.Bool.Decides.{Decides-eqb}
use Rattle.std.proofs.lemmas.List.{take-append-drop, take_at, drop_all, length-drop, drop-drop}
use Rattle.std.proofs.lemmas.Str.{encodes-chars, encodes-append, length-le-encodes, IsCharBoundary-at_seam}
use Rattle.ux_image.specs.Codes.{shared_len, behind_chars, front_chars}

-- texts of which one is empty have nothing in common
pub shared_left : (form lemma : List ℕ) → chars form ≡ [] → shared_len form lemma ≡ 0
shared_left form lemma none = ap (λ cs. common_prefix_len nat_eq cs (chars lemma)) none

none_right : (cs : List ℕ) → common_prefix_len nat_eq cs [] ≡ 0
none_right [] = refl
none_right (c ∷ cs) = refl

pub shared_right : (form lemma : List ℕ) → chars lemma ≡ [] → shared_len form lemma ≡ 0
shared_right form lemma none =
    ap (λ ds. common_prefix_len nat_eq (chars form) ds) none ∙ none_right (chars form)

is_false : (b : Bool) → (b ≡ true → ⊥) → b ≡ false
is_false true h = absurd (h refl)
is_false false h = refl

-- nor have texts that begin with two characters
pub shared_differ : (form lemma : List ℕ) (c d : ℕ) (cs ds : List ℕ) → chars form ≡ c ∷ cs →
    chars lemma ≡ d ∷ ds → (c ≡ d → ⊥) → shared_len form lemma ≡ 0
shared_differ form lemma c d cs ds f l other =
    ap (λ xs. common_prefix_len nat_eq xs (chars lemma)) f
    ∙ ap (λ ys. common_prefix_len nat_eq (c ∷ cs) ys) l
    ∙ ap (λ b. cond b (1 + common_prefix_len nat_eq cs ds) 0)
    (is_false (nat_eq c d) (λ same. other ((Decides-eqb c d).0 same)))

-- one character in common, and then what the rests have
module _ (form lemma form_rest lemma_rest : List ℕ) (c : ℕ) (f : chars form ≡ c ∷ chars form_rest)
    (l : chars lemma ≡ c ∷ chars lemma_rest) where
  shared_more : shared_len form lemma ≡ suc (shared_len form_rest lemma_rest)
  shared_more =
      ap (λ xs. common_prefix_len nat_eq xs (chars lemma)) f
      ∙ ap (λ ys. common_prefix_len nat_eq (c ∷ chars form_rest) ys) l
      ∙ ap (λ b. cond b (1 + shared_len form_rest lemma_rest) 0) ((Decides-eqb c c).1 refl)
      ∙ omega arith

  pub behind_more : behind_chars (shared_len form_rest lemma_rest) form_rest
      ≡ behind_chars (shared_len form lemma) form
  behind_more =
      sym (ap (λ n. drop n (chars form)) shared_more
      ∙ ap (λ (cs : List ℕ). drop (suc (shared_len form_rest lemma_rest)) cs) f)

  pub behind_more_right : behind_chars (shared_len form_rest lemma_rest) lemma_rest
      ≡ behind_chars (shared_len form lemma) lemma
  behind_more_right =
      sym (ap (λ n. drop n (chars lemma)) shared_more
      ∙ ap (λ (cs : List ℕ). drop (suc (shared_len form_rest lemma_rest)) cs) l)

-- a text has all of its characters in common with itself, so that none is left
shared_itself : (cs : List ℕ) → common_prefix_len nat_eq cs cs ≡ length cs
shared_itself [] = refl
shared_itself (c ∷ cs) =
    ap (λ b. cond b (1 + common_prefix_len nat_eq cs cs) 0) ((Decides-eqb c c).1 refl)
    ∙ omega (arith, shared_itself cs)

pub behind_itself : (text : List ℕ) → behind_chars (shared_len text text) text ≡ []
behind_itself text =
    ap (λ n. drop n (chars text)) (shared_itself (chars text))
    ∙ drop_all (length (chars text)) (chars text) (omega arith)

-- nothing in common is left
pub behind_end : (form lemma text : List ℕ) → shared_len form lemma ≡ 0 →
    chars text ≡ behind_chars (shared_len form lemma) text
behind_end form lemma text none = sym (ap (λ n. drop n (chars text)) none)

-- so what is left of the lemma is what is to be added
pub added_end : (form lemma form_rest lemma_rest : List ℕ) → IsUtf8 lemma_rest →
    shared_len form_rest lemma_rest ≡ 0 →
    behind_chars (shared_len form_rest lemma_rest) lemma_rest
    ≡ behind_chars (shared_len form lemma) lemma →
    lemma_rest ≡ encode_utf8_all (behind_chars (shared_len form lemma) lemma)
added_end form lemma form_rest lemma_rest utf8 none is =
    sym (encodes-chars lemma_rest utf8)
    ∙ ap encode_utf8_all (behind_end form_rest lemma_rest lemma_rest none ∙ is)

-- a text is no longer in characters than in bytes
pub chars_few : (text : List ℕ) → IsUtf8 text → length (chars text) ≤ length text
chars_few text utf8 =
    subst (λ (t : List ℕ). length (chars text) ≤ length t) (encodes-chars text utf8)
    (length-le-encodes (chars text))

-- nor is the end of one
pub behind_few : (n : ℕ) (text : List ℕ) → IsUtf8 text → length (behind_chars n text) ≤ length text
behind_few n text utf8 = omega (arith, length-drop n (chars text), chars_few text utf8)

-- a text is its first characters and what stands behind them
module _ (n : ℕ) (text rest : List ℕ) (utf8 : IsUtf8 text) (rest_utf8 : IsUtf8 rest)
    (is : chars rest ≡ behind_chars n text) where
  pub whole : text ≡ front_chars n text ++ rest
  whole =
      sym (encodes-chars text utf8)
      ∙ ap encode_utf8_all (sym (take-append-drop n (chars text)))
      ∙ encodes-append (take n (chars text)) (drop n (chars text))
      ∙ ap (λ (t : List ℕ). front_chars n text ++ t)
      (ap encode_utf8_all (sym is) ∙ encodes-chars rest rest_utf8)

  front_length : length (front_chars n text) ≡ length text - length rest
  front_length = omega (arith, ap (length {A = ℕ}) whole, length-append (front_chars n text) rest)

  pub front_is : take (length text - length rest) text ≡ front_chars n text
  front_is =
      ap (λ (t : List ℕ). take (length text - length rest) t) whole
      ∙ take_at (front_chars n text) rest (length text - length rest) front_length

  pub front_boundary : IsCharBoundary text (length text - length rest)
  front_boundary =
      subst (λ m. IsCharBoundary text m) front_length
      (IsCharBoundary-at_seam text (front_chars n text) rest whole rest_utf8)

-- the characters behind one more
pub behind_one : (n : ℕ) (text rest next : List ℕ) → chars rest ≡ behind_chars n text →
    chars next ≡ behind_chars 1 rest → chars next ≡ behind_chars (n + 1) text
behind_one n text rest next is more =
    more ∙ ap (λ (cs : List ℕ). drop 1 cs) is ∙ drop-drop 1 n (chars text)
