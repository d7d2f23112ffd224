-- What is printed for a graph and for a tag stands on lines.
use Rattle.std.proofs.Common.{arith, ◌≡◌, ◌≢◌, ℕ, zero, suc, ◌<◌, ◌≤◌, ◌-◌, ◌+◌, List, [], ◌∷◌, ◌++◌, true, false, refl, sym, ◌∙◌, ap, subst, append_assoc, append-nil, ne_eqb, get_or, length, length-append, map, decimal}
use Rattle.std.specs.Prelude.{◌==◌, All}
use Rattle.std.specs.List.{list_any}
use Rattle.std.proofs.lemmas.Bool.{or_from, false≢true}
use Rattle.ux_base.specs.Lines.{LINE_FEED, CARRIAGE_RETURN}
use Rattle.ux_fst2_file.specs.Fields.{SPACE, MOST, begins_with_field}
use Rattle.ux_fst2_file.specs.Lines.{MINUS, END}
use Rattle.ux_fst2_file.specs.Printed.{state_text, head_text, graphs_lines, IsLineText, IsName, IsSpellableState, IsSpellableGraph, IsSpellableTag}
use Rattle.ux_fst2_file.specs.declared.file.Fst2State.{Fst2State}
use Rattle.ux_fst2_file.specs.declared.file.Fst2Graph.{Fst2Graph}
use Rattle.ux_fst2_file.proofs.PrintedFields.{ArePlain, plain_from_solid, plain-append, solid_decimal}
use Rattle.ux_fst2_file.proofs.PrintedStates.{state_plain}

-- lines
abbrev pub AreLineTexts : List (List ℕ) → Type 0
AreLineTexts [] = Unit {0}
AreLineTexts (line ∷ lines) = IsLineText line × AreLineTexts lines

pub each_line : (lines : List (List ℕ)) → AreLineTexts lines → All IsLineText lines
each_line [] h k d lt = absurd (omega (arith, lt))
each_line (line ∷ lines) h zero d lt = h.0
each_line (line ∷ lines) h (suc k) d lt = each_line lines h.1 k d (omega (arith, lt))

pub lines-append : (xs ys : List (List ℕ)) → AreLineTexts xs → AreLineTexts ys →
    AreLineTexts (xs ++ ys)
lines-append [] ys h k = k
lines-append (x ∷ xs) ys h k = (h.0, lines-append xs ys h.1 k)

no_feed-append : (xs ys : List ℕ) → ArePlain xs → list_any (λ b. b == LINE_FEED) ys ≡ false →
    list_any (λ b. b == LINE_FEED) (xs ++ ys) ≡ false
no_feed-append [] ys h k = k
no_feed-append (b ∷ xs) ys h k =
    or_from (b == LINE_FEED) (list_any (λ c. c == LINE_FEED) (xs ++ ys)) (ne_eqb b LINE_FEED h.0.0)
    (no_feed-append xs ys h.1 k)

plain_at : (text : List ℕ) (k : ℕ) → ArePlain text → get_or text k 0 ≢ CARRIAGE_RETURN
plain_at [] k h e = omega (arith, e)
plain_at (b ∷ text) zero h e = h.0.1 e
plain_at (b ∷ text) (suc k) h e = plain_at text k h.1 e

pub plain_line : (text : List ℕ) → ArePlain text → IsLineText text
plain_line text h = record {
  no_feed = ap (list_any (λ b. b == LINE_FEED)) (sym (append-nil text))
      ∙ no_feed-append text [] h refl;
  no_return = plain_at text (length text - 1) h;
}

last-append : (xs ys : List ℕ) → 0 < length ys →
    get_or (xs ++ ys) (length (xs ++ ys) - 1) 0 ≡ get_or ys (length ys - 1) 0
last-append [] ys some = refl
last-append (b ∷ xs) ys some =
    let at : length (b ∷ (xs ++ ys)) - 1 ≡ suc (length (xs ++ ys) - 1) =
    omega (arith, some, length-append xs ys) in
    ap (λ k. get_or (b ∷ (xs ++ ys)) k 0) at ∙ last-append xs ys some

pub head_line : (number : ℕ) (name : List ℕ) → number ≤ MOST → IsName name →
    IsLineText (head_text number name)
head_line number name small is =
    let front = MINUS ∷ (decimal number ++ SPACE ∷ []) in
    let plain : ArePlain front = (
      (λ e. omega (arith, e), λ e. omega (arith, e)),
      plain-append (decimal number) (SPACE ∷ [])
          (plain_from_solid (decimal number) (solid_decimal number small))
          ((λ e. omega (arith, e), λ e. omega (arith, e)), tt),
    ) in
    let shape : front ++ name ≡ head_text number name =
    ap (λ (t : List ℕ). MINUS ∷ t) (append_assoc (decimal number) (SPACE ∷ []) name) in
    subst IsLineText shape (record {
      no_feed = no_feed-append front name plain is.line.no_feed;
      no_return = λ e. is.line.no_return (sym (last-append front name (some name is.front)) ∙ e);
    })
  where
    some : (name : List ℕ) → begins_with_field name ≡ true → 0 < length name
    some [] e = absurd (false≢true e)
    some (b ∷ name) e = omega arith

states_lines : (states : List Fst2State) → All IsSpellableState states →
    AreLineTexts (map state_text states)
states_lines [] all = tt
states_lines (s ∷ states) all = (
  plain_line (state_text s) (state_plain s (all 0 s (omega arith))),
  states_lines states (λ k d lt. all (suc k) d (omega (arith, lt))),
)

pub graphs_are_lines : (number : ℕ) (graphs : List Fst2Graph) → number + length graphs ≤ 65536 →
    All IsSpellableGraph graphs → AreLineTexts (graphs_lines number graphs)
graphs_are_lines number [] fit spelled = tt
graphs_are_lines number (g ∷ graphs) fit spelled =
    let here = spelled 0 g (omega arith) in (
      head_line number g.name (omega (arith, fit)) here.name,
      lines-append (map state_text g.states ++ (END ++ SPACE ∷ []) ∷ [])
          (graphs_lines (number + 1) graphs)
          (lines-append (map state_text g.states) ((END ++ SPACE ∷ []) ∷ [])
          (states_lines g.states here.states) (
            plain_line (END ++ SPACE ∷ []) (
              (λ e. omega (arith, e), λ e. omega (arith, e)),
              ((λ e. omega (arith, e), λ e. omega (arith, e)), tt),
            ),
            tt,
          ))
          (graphs_are_lines (number + 1) graphs (omega (arith, fit))
          (λ k d lt. spelled (suc k) d (omega (arith, lt)))),
    )

pub tags_are_lines : (tags : List (List ℕ)) → All IsSpellableTag tags → AreLineTexts tags
tags_are_lines [] spelled = tt
tags_are_lines (tag ∷ tags) spelled = (
  (spelled 0 tag (omega arith)).line,
  tags_are_lines tags (λ k d lt. spelled (suc k) d (omega (arith, lt))),
)
