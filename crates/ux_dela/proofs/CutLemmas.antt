-- A line that was cut into its parts, or can't be.
use Rattle.std.proofs.Common.{arith, ◌≡◌, ◌≢◌, ℕ, ◌<◌, ◌+◌, ◌-◌, List, [], ◌∷◌, ◌++◌, Bool, true, false, inl, inr, refl, sym, ◌∙◌, ap, subst, append_assoc, length, length-append}
use Rattle.std.specs.Prelude.{◌==◌}
use Rattle.std.proofs.lemmas.Bool.{or_cases, eqb-true, eqb-false}
use Rattle.ux_dela.specs.Signs.{COMMA, DOT, SLASH, BACKSLASH, is_comma, is_dot, is_slash}
use Rattle.ux_dela.specs.Written.{Written, bare, written, IsPart}
use Rattle.ux_dela.specs.Delaf.{IsComment, IsCut, EndsInBackslash, in_form, in_lemma, in_codes, HasNoComma, HasNoDot, HasEmptyForm, without_dot, with_dot}
use Rattle.ux_dela.specs.Reading.{characters, IsPartEnd, IsSplit}
use Rattle.ux_dela.proofs.CharactersLemmas.{written-append, written-characters}

-- a part, a sign and what was written behind it
pub joined : (front rest : List ℕ) (sign : ℕ) (w : List Written) → written w ≡ rest →
    written (characters front ++ bare sign ∷ w) ≡ front ++ sign ∷ rest
joined front rest sign w e =
    written-append (characters front) (bare sign ∷ w)
    ∙ ap (λ t. t ++ sign ∷ written w) (written-characters front)
    ∙ ap (λ t. front ++ sign ∷ t) e

-- the same at the end of a line
pub whole_of : (line front behind part : List ℕ) (sign : ℕ) → line ≡ front ++ sign ∷ behind →
    behind ≡ part → line ≡ written (characters front ++ bare sign ∷ characters part)
whole_of line front behind part sign e f =
    e ∙ ap (λ t. front ++ sign ∷ t) f
    ∙ sym (joined front part sign (characters part) (written-characters part))

pub characters_some : (text : List ℕ) → 0 < length text → characters text ≢ []
characters_some text some none =
    let empty : text ≡ [] = sym (written-characters text) ∙ ap written none in
    omega (arith, ap length empty)

pub no_text : (text : List ℕ) → length text ≡ 0 → text ≡ []
no_text [] e = refl
no_text (b ∷ text) e = absurd (omega (arith, e))

-- a line without a comma
pub no_comma : (line part : List ℕ) → line ≡ part → IsPart is_comma (characters part) →
    HasNoComma line
no_comma line part e p = record {
  form = characters part;
  whole = e ∙ sym (written-characters part);
  is_form = p;
}

-- a line without a dot
pub no_dot : (line form behind part : List ℕ) → line ≡ form ++ COMMA ∷ behind →
    IsPart is_comma (characters form) → behind ≡ part → IsPart is_dot (characters part) →
    HasNoDot line (characters form)
no_dot line form behind part e p f q = record {
  lemma = characters part;
  whole = whole_of line form behind part COMMA e f;
  is_form = p;
  is_lemma = q;
}

pub empty_no_dot : (line form behind part : List ℕ) → line ≡ form ++ COMMA ∷ behind →
    IsPart is_comma (characters form) → behind ≡ part → IsPart is_dot (characters part) →
    length form ≡ 0 → HasEmptyForm line
empty_no_dot line form behind part e p f q none =
    without_dot
    (subst (λ (t : List ℕ). HasNoDot line (characters t)) (no_text form none)
    (no_dot line form behind part e p f q))

-- a backslash ends the form
pub open_form : (line front : List ℕ) → line ≡ front ++ BACKSLASH ∷ [] →
    IsPart is_comma (characters front) → EndsInBackslash line
open_form line front e p =
    subst (λ (t : List ℕ). EndsInBackslash t)
    (ap (λ t. t ++ BACKSLASH ∷ []) (written-characters front) ∙ sym e)
    (in_form (characters front) p)

-- what stands before the backslash, as it is written
before_backslash : (line form behind front : List ℕ) (w : List Written) →
    line ≡ form ++ COMMA ∷ behind → behind ≡ front ++ BACKSLASH ∷ [] → written w ≡ front →
    written (characters form ++ bare COMMA ∷ w) ++ BACKSLASH ∷ [] ≡ line
before_backslash line form behind front w e f is =
    ap (λ t. t ++ BACKSLASH ∷ []) (joined form front COMMA w is)
    ∙ append_assoc form (COMMA ∷ front) (BACKSLASH ∷ [])
    ∙ ap (λ t. form ++ COMMA ∷ t) (sym f) ∙ sym e

-- a backslash ends the lemma
pub open_lemma : (line form behind front : List ℕ) → line ≡ form ++ COMMA ∷ behind →
    IsPart is_comma (characters form) → behind ≡ front ++ BACKSLASH ∷ [] →
    IsPart is_dot (characters front) → EndsInBackslash line
open_lemma line form behind front e p f q =
    subst (λ (t : List ℕ). EndsInBackslash t)
    (before_backslash line form behind front (characters front) e f (written-characters front))
    (in_lemma (characters form) (characters front) p q)

-- a backslash ends the codes
pub open_codes : (line form lemma behind codes rest : List ℕ) →
    line ≡ form ++ COMMA ∷ (lemma ++ DOT ∷ behind) → IsPart is_comma (characters form) →
    IsPart is_dot (characters lemma) → IsSplit is_slash behind codes rest →
    rest ≡ BACKSLASH ∷ [] → EndsInBackslash line
open_codes line form lemma behind codes rest e p q split is =
    let cut : lemma ++ DOT ∷ behind ≡ (lemma ++ DOT ∷ codes) ++ BACKSLASH ∷ [] =
    ap (λ t. lemma ++ DOT ∷ t) (split.whole ∙ ap (λ t. codes ++ t) is)
    ∙ sym (append_assoc lemma (DOT ∷ codes) (BACKSLASH ∷ [])) in
    subst (λ (t : List ℕ). EndsInBackslash t)
    (before_backslash line form (lemma ++ DOT ∷ behind) (lemma ++ DOT ∷ codes)
    (characters lemma ++ bare DOT ∷ characters codes) e cut
    (joined lemma codes DOT (characters codes) (written-characters codes)))
    (in_codes (characters form) (characters lemma) (characters codes) p q split.part)

-- behind the codes a comment stands, or nothing
pub is_comment : (rest : List ℕ) → IsPartEnd is_slash rest → (rest ≡ BACKSLASH ∷ [] → ⊥) →
    IsComment rest
is_comment [] ends other = tt
is_comment (b ∷ []) ends other =
    elim (or_cases (b == BACKSLASH) (is_slash b) ends) [
      | inl l ↦ absurd (other (ap (λ t. t ∷ []) (eqb-true b BACKSLASH l)))
      | inr r ↦ eqb-true b SLASH r
    ]
is_comment (b ∷ (c ∷ rest)) ends other = eqb-true b SLASH ends

-- the line is its form, lemma, codes and comment
pub bytes_of_cut : (line form lemma behind codes rest : List ℕ) →
    line ≡ form ++ COMMA ∷ (lemma ++ DOT ∷ behind) → IsSplit is_slash behind codes rest →
    line ≡ form ++ COMMA ∷ (lemma ++ DOT ∷ (codes ++ rest))
bytes_of_cut line form lemma behind codes rest e split =
    e ∙ ap (λ t. form ++ COMMA ∷ (lemma ++ DOT ∷ t)) split.whole

-- the line is cut
pub is_cut : (line form lemma behind codes rest : List ℕ) →
    line ≡ form ++ COMMA ∷ (lemma ++ DOT ∷ behind) → IsPart is_comma (characters form) →
    IsPart is_dot (characters lemma) → IsSplit is_slash behind codes rest →
    (rest ≡ BACKSLASH ∷ [] → ⊥) →
    IsCut line (characters form) (characters lemma) (characters codes) rest
is_cut line form lemma behind codes rest e p q split other =
    let inner : written (characters lemma ++ bare DOT ∷ characters codes) ≡ lemma ++ DOT ∷ codes =
    joined lemma codes DOT (characters codes) (written-characters codes) in
    let outer : written
    (characters form ++ bare COMMA ∷ (characters lemma ++ bare DOT ∷ characters codes))
    ≡ form ++ COMMA ∷ (lemma ++ DOT ∷ codes) =
    joined form (lemma ++ DOT ∷ codes) COMMA
    (characters lemma ++ bare DOT ∷ characters codes) inner in
    record {
      whole = bytes_of_cut line form lemma behind codes rest e split
          ∙ sym (ap (λ t. form ++ COMMA ∷ t) (append_assoc lemma (DOT ∷ codes) rest))
          ∙ sym (append_assoc form (COMMA ∷ (lemma ++ DOT ∷ codes)) rest)
          ∙ sym (ap (λ t. t ++ rest) outer);
      is_form = p;
      is_lemma = q;
      are_codes = split.part;
      is_comment = is_comment rest split.ends other;
    }

pub empty_with_dot : (line form lemma behind codes rest : List ℕ) →
    line ≡ form ++ COMMA ∷ (lemma ++ DOT ∷ behind) → IsPart is_comma (characters form) →
    IsPart is_dot (characters lemma) → IsSplit is_slash behind codes rest →
    (rest ≡ BACKSLASH ∷ [] → ⊥) → length form ≡ 0 → HasEmptyForm line
empty_with_dot line form lemma behind codes rest e p q split other none =
    with_dot (characters lemma) (characters codes) rest
    (subst (λ (t : List ℕ). IsCut line (characters t) (characters lemma) (characters codes) rest)
    (no_text form none) (is_cut line form lemma behind codes rest e p q split other))

-- a line with a sign isn't empty
pub last_place : (line front behind : List ℕ) (sign : ℕ) → line ≡ front ++ sign ∷ behind →
    length line - 1 + 1 ≡ length line
last_place line front behind sign e =
    omega (arith, ap length e, length-append front (sign ∷ behind))

-- what a test for an empty text tells
pub is_none : (t : Bool) (text : List ℕ) → t ≡ (length text == 0) → t ≡ true → length text ≡ 0
is_none t text e is = eqb-true (length text) 0 (sym e ∙ is)

pub is_some_text : (t : Bool) (text : List ℕ) → t ≡ (length text == 0) → t ≡ false →
    0 < length text
is_some_text t text e other =
    let some = eqb-false (length text) 0 (sym e ∙ other) in omega (arith, some)
