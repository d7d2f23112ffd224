-- Texts of lexical masks are bodies, behind an exclamation mark where they are negated.
use Rattle.std.proofs.Common.{◌≡◌, ℕ, List, [], ◌∷◌, ◌++◌, inl, inr, refl, sym, ◌∙◌, ap, subst}
use Rattle.ux_dela.specs.Written.{written}
use Rattle.ux_masks.specs.declared.lexical.Parts.{Parts}
use Rattle.ux_masks.specs.declared.mask.Mask.{Mask}
use Rattle.ux_masks.specs.declared.mask.Mask.TheVariants.{Lexical, NotLexical}
use Rattle.ux_masks.specs.declared.reader.Fault.{Fault}
use Rattle.ux_masks.specs.declared.reader.Fault.TheVariants.{At, NoRoom}
use Rattle.ux_masks.specs.Signs.{EXCLAMATION}
use Rattle.ux_masks.specs.Texts.{Body, IsBody, body_text, parts_of, IsLexicalText, plain, negated}
use Rattle.ux_masks.specs.Reading.{IsBodyText, BeginsBody, IsStuckBody, IsStuckLexical, StopsBody, StopsLexical, FailsBody, FailsLexical}
use Rattle.ux_masks.proofs.ClosedLemmas.{no_exclamation}

pub lexical_plain : (text : List ℕ) (parts : Parts) → IsBodyText text parts →
    IsLexicalText text (Lexical parts)
lexical_plain text parts b =
    subst (λ (p : Parts). IsLexicalText text (Lexical p)) (sym b.asks) (plain b.body b.is b.whole)

pub lexical_negated : (text rest : List ℕ) (parts : Parts) → text ≡ EXCLAMATION ∷ rest →
    IsBodyText rest parts → IsLexicalText text (NotLexical parts)
lexical_negated text rest parts e b =
    subst (λ (p : Parts). IsLexicalText text (NotLexical p)) (sym b.asks)
    (negated b.body b.is (e ∙ ap (λ t. EXCLAMATION ∷ t) b.whole))

body_of : (text : List ℕ) (body : Body) → IsBody body → text ≡ written (body_text body) →
    IsBodyText text (parts_of body)
body_of text body is e = record { body = body; is = is; whole = e; asks = refl }

tail_same : (a b : ℕ) (v w : List ℕ) → a ∷ v ≡ b ∷ w → v ≡ w
tail_same a b v w e = cc

-- a text begins with the first byte of its front
first_byte : (front : List ℕ) (b : ℕ) (rest later left : List ℕ) →
    (front ++ b ∷ []) ++ rest ≡ EXCLAMATION ∷ later →
    (z : List ℕ) × (front ++ b ∷ left ≡ EXCLAMATION ∷ z)
first_byte [] b rest later left e =
    let same : b ≡ EXCLAMATION = cc in (left, ap (λ x. x ∷ left) same)
first_byte (f ∷ front) b rest later left e =
    let same : f ≡ EXCLAMATION = cc in
    (front ++ b ∷ left, ap (λ x. x ∷ (front ++ b ∷ left)) same)

module _ (text left : List ℕ) (other : (rest : List ℕ) → text ≡ EXCLAMATION ∷ rest → ⊥) where
  plain_none : ((parts : Parts) → IsBodyText text parts → ⊥) → (mask : Mask) →
      IsLexicalText text mask → ⊥
  plain_none none mask (plain body is e) = none (parts_of body) (body_of text body is e)
  plain_none none mask (negated body is e) = other (written (body_text body)) e

  plain_stuck : (front : List ℕ) (b : ℕ) (behind : List ℕ) → text ≡ front ++ b ∷ behind →
      (BeginsBody (front ++ b ∷ []) → ⊥) → (rest : List ℕ) (mask : Mask) →
      IsLexicalText ((front ++ b ∷ []) ++ rest) mask → ⊥
  plain_stuck front b behind whole stuck rest mask (plain body is e) =
      stuck (rest, parts_of body, body_of ((front ++ b ∷ []) ++ rest) body is e)
  plain_stuck front b behind whole stuck rest mask (negated body is e) =
      let first = first_byte front b rest (written (body_text body)) behind e in
      other first.0 (whole ∙ first.1)

-- where no exclamation mark comes first
plain_goes : (text left : List ℕ) → ((rest : List ℕ) → text ≡ EXCLAMATION ∷ rest → ⊥) →
    (front : List ℕ) → text ≡ front ++ left → IsStuckBody front left → IsStuckLexical front left
plain_goes text [] other front whole stuck = stuck
plain_goes text (b ∷ left) other front whole stuck = (
  stuck.0,
  λ begun. plain_stuck text (b ∷ left) other front b left whole stuck.1 begun.0 begun.1 begun.2,
)

pub stops_plain : (text left : List ℕ) → ((rest : List ℕ) → text ≡ EXCLAMATION ∷ rest → ⊥) →
    StopsBody text left → StopsLexical text left
stops_plain text left other s = record {
  front = s.front;
  whole = s.whole;
  begins = (
    s.begins.0,
    Lexical s.begins.1,
    lexical_plain (s.front ++ s.begins.0) s.begins.1 s.begins.2,
  );
  none = plain_none text left other s.none;
  stuck = elim s.stuck [
    | inl none ↦ inl none
    | inr stuck ↦ inr (plain_goes text left other s.front s.whole stuck)
  ];
}

module _ (text rest : List ℕ) (e : text ≡ EXCLAMATION ∷ rest) where
  negated_none : ((parts : Parts) → IsBodyText rest parts → ⊥) → (mask : Mask) →
      IsLexicalText text mask → ⊥
  negated_none none mask (plain body is f) = no_exclamation body rest is (sym f ∙ e)
  negated_none none mask (negated body is f) =
      none (parts_of body)
      (body_of rest body is
      (tail_same EXCLAMATION EXCLAMATION rest (written (body_text body)) (sym e ∙ f)))

negated_stuck : (front : List ℕ) (b : ℕ) → (BeginsBody (front ++ b ∷ []) → ⊥) →
    (rest : List ℕ) (mask : Mask) →
    IsLexicalText (EXCLAMATION ∷ ((front ++ b ∷ []) ++ rest)) mask → ⊥
negated_stuck front b stuck rest mask (plain body is f) =
    no_exclamation body ((front ++ b ∷ []) ++ rest) is (sym f)
negated_stuck front b stuck rest mask (negated body is f) =
    stuck (
      rest,
      parts_of body,
      body_of ((front ++ b ∷ []) ++ rest) body is
          (tail_same EXCLAMATION EXCLAMATION ((front ++ b ∷ []) ++ rest) (written (body_text body)) f),
    )

negated_goes : (front left : List ℕ) → IsStuckBody front left →
    IsStuckLexical (EXCLAMATION ∷ front) left
negated_goes front [] stuck = stuck
negated_goes front (b ∷ left) stuck =
    (stuck.0, λ begun. negated_stuck front b stuck.1 begun.0 begun.1 begun.2)

-- behind an exclamation mark
pub stops_negated : (text rest left : List ℕ) → text ≡ EXCLAMATION ∷ rest → StopsBody rest left →
    StopsLexical text left
stops_negated text rest left e s = record {
  front = EXCLAMATION ∷ s.front;
  whole = e ∙ ap (λ t. EXCLAMATION ∷ t) s.whole;
  begins = (
    s.begins.0,
    NotLexical s.begins.1,
    lexical_negated (EXCLAMATION ∷ (s.front ++ s.begins.0)) (s.front ++ s.begins.0) s.begins.1 refl
        s.begins.2,
  );
  none = negated_none text rest e s.none;
  stuck = elim s.stuck [
    | inl none ↦ inl none
    | inr stuck ↦ inr (negated_goes s.front left stuck)
  ];
}

pub fails_plain : (text : List ℕ) (fault : Fault) →
    ((rest : List ℕ) → text ≡ EXCLAMATION ∷ rest → ⊥) → FailsBody text fault →
    FailsLexical text fault
fails_plain text (At left) other s = stops_plain text left.now other s
fails_plain text NoRoom other s = tt

pub fails_negated : (text rest : List ℕ) (fault : Fault) → text ≡ EXCLAMATION ∷ rest →
    FailsBody rest fault → FailsLexical text fault
fails_negated text rest (At left) e s = stops_negated text rest left.now e s
fails_negated text rest NoRoom e s = tt
