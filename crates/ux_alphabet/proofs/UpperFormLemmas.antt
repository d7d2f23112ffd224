-- A table of the upper-case forms of others, marked line by line.
use Rattle.std.proofs.Common.{◌≡◌, ◌↔◌, ℕ, ◌+◌, ◌<◌, List, [], ◌∷◌, ◌++◌, Bool, true, false, not, length, take, get_or, set, inl, inr, refl, sym, ◌∙◌, subst}
use Rattle.std.specs.Prelude.{IsTrue}
use Rattle.std.specs.List.{All, Any, Contains}
use Rattle.std.proofs.lemmas.Bool.{cases_eq}
use Rattle.std.proofs.lemmas.List.{get_or-set_same, get_or-set_other, length-set, take_more}
use Rattle.ux_alphabet.specs.Letters.{letters_of, FitsAlone}
use Rattle.ux_alphabet.specs.Tables.{NamesUpperForm, AreUpperForms}
use Rattle.ux_alphabet.specs.declared.line.Line.{Line}
use Rattle.ux_alphabet.specs.declared.line.Line.TheVariants.{Single, Pair, Range}
use Rattle.ux_alphabet.proofs.AnyLemmas.{Any-append_left, Any-last, Any-push_cases}

-- one more line that names the upper-case form
pushed : (front : List Line) (line : Line) (table : List Bool) (upper : ℕ) → upper < length table →
    ((c : ℕ) → NamesUpperForm line c ↔ (c ≡ upper)) → AreUpperForms front table →
    AreUpperForms (front ++ line ∷ []) (set table upper true)
pushed front line table upper lt names before c =
    let P = λ (l : Line). NamesUpperForm l c in
    elim (cases_eq c upper) [
      | inl same ↦ (
          let marked = get_or-set_same table upper true false lt in
          let here = subst (λ i. IsTrue (get_or (set table upper true) i false)) (sym same) marked in
          (λ _. Any-last P front line ((names c).1 same), λ _. here))
      | inr other ↦ (
          let read = get_or-set_other table upper c true false other in (
            λ t. Any-append_left P front (line ∷ []) ((before c).0 (sym read ∙ t)),
            λ some. elim (Any-push_cases P front line some) [
              | inl old ↦ read ∙ (before c).1 old
              | inr here ↦ absurd (other ((names c).0 here))
            ],
          ))
    ]

-- one more line that names none
passed : (front : List Line) (line : Line) (table : List Bool) →
    ((c : ℕ) → NamesUpperForm line c → ⊥) → AreUpperForms front table →
    AreUpperForms (front ++ line ∷ []) table
passed front line table none before c =
    let P = λ (l : Line). NamesUpperForm l c in (
      λ t. Any-append_left P front (line ∷ []) ((before c).0 t),
      λ some. elim (Any-push_cases P front line some) [
        | inl old ↦ (before c).1 old
        | inr here ↦ absurd (none c here)
      ],
    )

-- the table has room for every form that a line names, and marks those of the first few lines
pub record IsMarkedUpTo (lines : List Line) (few : ℕ) (table : List Bool) : Type 0 where
  pub room : All (λ line. (c : ℕ) → NamesUpperForm line c → c < length table) lines
  pub marked : AreUpperForms (take few lines) table

pub IsMarkedUpTo-more : (lines : List Line) (i : ℕ) (table : List Bool) (upper : ℕ) →
    i < length lines →
    ((c : ℕ) → NamesUpperForm (get_or lines i (Single 0)) c ↔ (c ≡ upper)) →
    IsMarkedUpTo lines i table → IsMarkedUpTo lines (i + 1) (set table upper true)
IsMarkedUpTo-more lines i table upper lt names before =
    let line = get_or lines i (Single 0) in
    let inside = before.room i (Single 0) lt upper ((names upper).1 refl) in
    let one = pushed (take i lines) line table upper inside names before.marked in
    record {
      room = subst (λ (n : ℕ). All (λ line. (c : ℕ) → NamesUpperForm line c → c < n) lines)
          (sym (length-set table upper true)) before.room;
      marked = subst (λ (ls : List Line). AreUpperForms ls (set table upper true))
          (sym (take_more lines i (Single 0) lt)) one;
    }

pub IsMarkedUpTo-same : (lines : List Line) (i : ℕ) (table : List Bool) →
    i < length lines →
    ((c : ℕ) → NamesUpperForm (get_or lines i (Single 0)) c → ⊥) →
    IsMarkedUpTo lines i table → IsMarkedUpTo lines (i + 1) table
IsMarkedUpTo-same lines i table lt none before =
    let line = get_or lines i (Single 0) in
    let one = passed (take i lines) line table none before.marked in
    record {
      room = before.room;
      marked = subst (λ (ls : List Line). AreUpperForms ls table)
          (sym (take_more lines i (Single 0) lt)) one;
    }

-- a character that is no upper-case form of another one is fitted by itself alone, and no other is
fitted_alone : (lines : List Line) (c : ℕ) → (Any (λ line. NamesUpperForm line c) lines → ⊥) →
    FitsAlone (letters_of lines) c
fitted_alone lines c none entry (inl same) = same
fitted_alone lines c none entry (inr (k, lt, is)) =
    elim (cases_eq entry c) [
      | inl same ↦ same
      | inr other ↦ absurd (none (k, Pair c entry, lt, is, (refl, other)))
    ]

-- the line as one of the list
other_of : (lines : List Line) (c : ℕ) (line : Line) → Contains lines line →
    NamesUpperForm line c → FitsAlone (letters_of lines) c → ⊥
other_of lines c (Single letter) within names alone = names
other_of lines c (Range first last) within names alone = names
other_of lines c (Pair upper lower) within names alone =
    let pair = subst (λ (u : ℕ). Contains lines (Pair u lower)) (sym names.0) within in
    names.1 (alone lower (inr pair))

fitted_by_other : (lines : List Line) (c : ℕ) → Any (λ line. NamesUpperForm line c) lines →
    FitsAlone (letters_of lines) c → ⊥
fitted_by_other lines c (k, line, lt, is, names) = other_of lines c line (k, lt, is) names

unmarked : (marked : Bool) (some alone : Type 0) → IsTrue marked ↔ some → (some → alone → ⊥) →
    ((some → ⊥) → alone) → IsTrue (not marked) ↔ alone
unmarked true some alone mark other none =
    (λ h. cc, λ a. absurd (other (mark.0 refl) a))
unmarked false some alone mark other none = (λ _. none (λ s. cc (mark.1 s)), λ _. refl)

pub FitsAlone-unmarked : (lines : List Line) (table : List Bool) (c : ℕ) (marked : Bool) →
    marked ≡ get_or table c false → AreUpperForms lines table →
    IsTrue (not marked) ↔ FitsAlone (letters_of lines) c
FitsAlone-unmarked lines table c marked read are =
    let some = Any (λ line. NamesUpperForm line c) lines in
    let mark = subst (λ (b : Bool). IsTrue b ↔ some) (sym read) (are c) in
    unmarked marked some (FitsAlone (letters_of lines) c) mark (fitted_by_other lines c) (fitted_alone lines c)
