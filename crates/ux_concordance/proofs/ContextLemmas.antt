-- How a text is walked, and why the walk ends at the longest part that is within the columns.
use Rattle.std.proofs.Common.{arith, ◌≡◌, ℕ, ◌+◌, ◌-◌, ◌<◌, ◌≤◌, List, [], ◌++◌, refl, sym, ap, ◌∙◌, subst, encode_utf8, IsUtf8, length, append-nil, append_assoc, inl, inr}
use Rattle.std.specs.Str.{IsCharBoundary}
use Rattle.std.proofs.lemmas.Bool.Decides.{leb_tells}
use Rattle.std.proofs.lemmas.List.{length-append}
use Rattle.std.proofs.lemmas.Str.{IsCharBoundary-at_seam, IsUtf8-append, IsUtf8-nil}
use Rattle.ux_concordance.specs.Contexts.{IsLeftContext, IsRightContext, IsWithin}
use Rattle.ux_concordance.specs.Widths.{columns_of, width}
use Rattle.ux_concordance.proofs.SplitLemmas.{split}
use Rattle.ux_concordance.proofs.WidthLemmas.{whole-end, whole-front, wide-first, wide-last, width-append, width-nil, width-one}

-- the begin of the text was walked, and takes what is gone of the columns
pub record IsWalked (columns room : ℕ) (behind rest : List ℕ) : Type 0 where
  pub front : List ℕ
  pub begins : behind ≡ front ++ rest
  pub whole : IsUtf8 front
  pub taken : width front + room ≡ columns

pub IsWalked-none : (columns : ℕ) (behind : List ℕ) → IsWalked columns columns behind behind
IsWalked-none columns behind = record {
  front = [];
  begins = refl;
  whole = IsUtf8-nil;
  taken = omega (arith, width-nil);
}

module _ (columns room : ℕ) (behind rest : List ℕ) (walked : IsWalked columns room behind rest)
  where
    -- the part that was walked is within the columns
    within : IsWithin columns walked.front
    within = record { whole = walked.whole; narrow = omega (arith, walked.taken) }

    -- where all was walked, all is the context
    pub all-walked : rest ≡ [] → IsRightContext columns behind walked.front
    all-walked none = record {
      rest = rest;
      begins = walked.begins;
      within = within;
      longest = λ other end is w.
          let here = length-append walked.front rest in
          let there = length-append other end in
          let a = ap length walked.begins in
          let b = ap length is in
          let empty = ap length none in
          omega (arith, here, there, a, b, empty);
    }

    module _ (first taken : ℕ) (later : List ℕ) (is : rest ≡ encode_utf8 first ++ later)
        (text : IsUtf8 rest) (after : IsUtf8 later) (takes : taken ≡ columns_of first) where
      -- a character more is walked
      pub IsWalked-more : taken ≤ room → IsWalked columns (room - taken) behind later
      IsWalked-more fits =
          let one = whole-front rest (encode_utf8 first) later is text after in
          let wide = width-append walked.front (encode_utf8 first) walked.whole in
          let column = width-one first one in
          record {
            front = walked.front ++ encode_utf8 first;
            begins = walked.begins ∙ ap (λ (l : List ℕ). walked.front ++ l) is
                ∙ sym (append_assoc walked.front (encode_utf8 first) later);
            whole = IsUtf8-append walked.front (encode_utf8 first) walked.whole one;
            taken = omega (arith, wide, column, walked.taken, fits, takes);
          }

      -- where the next character doesn't fit, no longer part is within the columns
      pub walked-on : room < taken → IsRightContext columns behind walked.front
      walked-on full = record {
        rest = rest;
        begins = walked.begins;
        within = within;
        longest = λ other end same w. elim (leb_tells (length other) (length walked.front)) [
          | inl short ↦ short.1
          | inr long ↦
              let cut = split walked.front rest other end (sym walked.begins ∙ same)
              (omega (arith, long.1)) in
              let len = ap length cut.1 ∙ length-append walked.front cut.0 in
              let more = whole-end other walked.front cut.0 cut.1 w.whole walked.whole in
              let wide = wide-first cut.0 end later first (subst IsUtf8 cut.2 text) more
              (omega (arith, len, long.1)) (sym cut.2 ∙ is) in
              let sum = ap width cut.1 ∙ width-append walked.front cut.0 walked.whole in
              absurd (omega (arith, wide, sum, w.narrow, walked.taken, full, takes))
        ];
      }

-- the end of the text was walked, and takes what is gone of the columns
pub record IsWalkedBack (columns room : ℕ) (before rest : List ℕ) : Type 0 where
  pub end : List ℕ
  pub ends : before ≡ rest ++ end
  pub whole : IsUtf8 end
  pub taken : width end + room ≡ columns

pub IsWalkedBack-none : (columns : ℕ) (before : List ℕ) → IsWalkedBack columns columns before before
IsWalkedBack-none columns before = record {
  end = [];
  ends = sym (append-nil before);
  whole = IsUtf8-nil;
  taken = omega (arith, width-nil);
}

module _ (columns room : ℕ) (before rest : List ℕ) (walked : IsWalkedBack columns room before rest)
  where
    within-back : IsWithin columns walked.end
    within-back = record { whole = walked.whole; narrow = omega (arith, walked.taken) }

    -- where all was walked, all is the context
    pub all-walked-back : rest ≡ [] → IsLeftContext columns before walked.end
    all-walked-back none = record {
      rest = rest;
      ends = walked.ends;
      within = within-back;
      longest = λ other begin is w.
          let here = length-append rest walked.end in
          let there = length-append begin other in
          let a = ap length walked.ends in
          let b = ap length is in
          let empty = ap length none in
          omega (arith, here, there, a, b, empty);
    }

    module _ (last taken : ℕ) (earlier : List ℕ) (is : rest ≡ earlier ++ encode_utf8 last)
        (text : IsUtf8 rest) (front : IsUtf8 earlier) (takes : taken ≡ columns_of last) where
      -- a character more is walked
      pub IsWalkedBack-more : taken ≤ room → IsWalkedBack columns (room - taken) before earlier
      IsWalkedBack-more fits =
          let one = whole-end rest earlier (encode_utf8 last) is text front in
          let wide = width-append (encode_utf8 last) walked.end one in
          let column = width-one last one in
          record {
            end = encode_utf8 last ++ walked.end;
            ends = walked.ends ∙ ap (λ (l : List ℕ). l ++ walked.end) is
                ∙ append_assoc earlier (encode_utf8 last) walked.end;
            whole = IsUtf8-append (encode_utf8 last) walked.end one walked.whole;
            taken = omega (arith, wide, column, walked.taken, fits, takes);
          }

      -- where the next character doesn't fit, no longer part is within the columns
      pub walked-back-on : room < taken → IsLeftContext columns before walked.end
      walked-back-on full = record {
        rest = rest;
        ends = walked.ends;
        within = within-back;
        longest = λ other begin same w. elim (leb_tells (length other) (length walked.end)) [
          | inl short ↦ short.1
          | inr long ↦
              let here = ap length (sym walked.ends ∙ same) in
              let l = length-append rest walked.end in
              let r = length-append begin other in
              let cut = split begin other rest walked.end (sym same ∙ walked.ends)
              (omega (arith, here, l, r, long.1)) in
              let len = ap length cut.2 ∙ length-append cut.0 walked.end in
              let more = whole-front other cut.0 walked.end cut.2 w.whole walked.whole in
              let first = whole-front rest begin cut.0 cut.1 text more in
              let one = whole-end rest earlier (encode_utf8 last) is text front in
              let wide =
              wide-last begin cut.0 earlier last first more (omega (arith, len, long.1)) front
              one (sym cut.1 ∙ is) in
              let sum = ap width cut.2 ∙ width-append cut.0 walked.end more in
              absurd (omega (arith, wide, sum, w.narrow, walked.taken, full, takes))
        ];
      }

-- the text may be cut where the walk ends
pub walked-end : (columns room : ℕ) (behind rest : List ℕ) →
    IsWalked columns room behind rest → IsUtf8 rest →
    IsCharBoundary behind (length behind - length rest)
walked-end columns room behind rest walked text =
    let len = length-append walked.front rest in
    let long = ap length walked.begins in
    let at : length walked.front ≡ length behind - length rest = omega (arith, len, long) in
    subst (IsCharBoundary behind) at
    (IsCharBoundary-at_seam behind walked.front rest walked.begins text)

pub walked-back-end : (columns room : ℕ) (before rest : List ℕ) →
    IsWalkedBack columns room before rest → IsCharBoundary before (length rest)
walked-back-end columns room before rest walked =
    IsCharBoundary-at_seam before rest walked.end walked.ends walked.whole
