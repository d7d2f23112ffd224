-- A text in braces that was read is a line of this text.
use Rattle.std.proofs.Common.{arith, ◌≡◌, ℕ, suc, ◌+◌, ◌<◌, List, [], ◌∷◌, ◌++◌, Bool, true, false, length, take, drop, refl, sym, ◌∙◌, ap, subst, Option, Some, None}
use Rattle.std.specs.Prelude.{◌==◌, ◌&&◌, if◌then◌else◌, not}
use Rattle.std.specs.Option.{option_map}
use Rattle.std.proofs.lemmas.Bool.{or_from}
use Rattle.std.proofs.lemmas.List.{drop_at, length-take-le, take_at}
use Rattle.std.proofs.lemmas.Option.{none-some, same_Some}
use Rattle.ux_grf.specs.declared.graph.GraphKind.TheVariants.{Plain}
use Rattle.ux_grf.specs.declared.item.Item.TheVariants.{Brace}
use Rattle.ux_grf.specs.declared.protection.Stop.{Stop}
use Rattle.ux_grf.specs.declared.protection.Stop.TheVariants.{CloseBrace}
use Rattle.ux_grf.specs.declared.start.Sign.{Sign}
use Rattle.ux_grf.specs.declared.start.Sign.TheVariants.{OpenBrace}
use Rattle.ux_grf.specs.declared.words.Gap.TheVariants.{Blanks}
use Rattle.ux_grf.specs.Items.{part, begin_at, begin_of, brace_begin, sign_of}
use Rattle.ux_grf.specs.Lines.{COLON, DOLLAR, IsLine, is_marked, without_front}
use Rattle.ux_grf.specs.Protection.{BACKSLASH, first_free, is_stop}
use Rattle.ux_grf.specs.Words.{SPACE, TAB, is_gap}
use Rattle.ux_grf.proofs.PartsLemmas.{IsInside, first_free-inside}
use Rattle.ux_fst2.proofs.ItemLines.{IsTail, one_item, unlike}

-- a text in braces, as it is read: the brace, and what stands in it up to the first that closes
pub record IsBraceText (text : List ℕ) : Type 0 where
  pub first : ℕ
  pub inside : List ℕ
  pub end : ℕ
  pub is : text ≡ first ∷ inside
  pub sign : sign_of first ≡ OpenBrace
  pub free : (after : List ℕ) → first_free CloseBrace false (inside ++ after) ≡ Some end
  pub long : length inside ≡ end + 1

map_suc : (o : Option ℕ) (k : ℕ) → option_map suc o ≡ Some k → (j : ℕ) × (o ≡ Some j) × (k ≡ suc j)
map_suc None k is = absurd (none-some k is)
map_suc (Some j) k is = (j, refl, sym (same_Some (suc j) k is))

-- the first free sign stays the first, whatever stands behind it
free_kept : (stop : Stop) (protected : Bool) (text after : List ℕ) (k : ℕ) →
    first_free stop protected text ≡ Some k →
    first_free stop protected (take (k + 1) text ++ after) ≡ Some k
free_kept stop protected [] after k is = absurd (none-some k is)
free_kept stop protected (b ∷ text) after k is =
    by (is_stop stop b && not protected) refl (free_kept stop next text after)
  where
    next : Bool
    next = b == BACKSLASH && not protected

    by : (q : Bool) → (is_stop stop b && not protected) ≡ q →
        ((j : ℕ) → first_free stop next text ≡ Some j →
        first_free stop next (take (j + 1) text ++ after) ≡ Some j) →
        first_free stop protected (take (k + 1) (b ∷ text) ++ after) ≡ Some k
    by true here later =
        let at : Some 0 ≡ Some k =
        sym (ap (λ (q : Bool). if q then Some 0 else option_map suc (first_free stop next text)) here)
        ∙ is in
        let zero : 0 ≡ k = same_Some 0 k at in
        subst (λ (n : ℕ). first_free stop protected (take (n + 1) (b ∷ text) ++ after) ≡ Some n) zero
        (ap (λ (q : Bool). if q then Some 0 else option_map suc (first_free stop next after)) here)
    by false here later =
        let at : option_map suc (first_free stop next text) ≡ Some k =
        sym (ap (λ (q : Bool). if q then Some 0 else option_map suc (first_free stop next text)) here)
        ∙ is in
        let place = map_suc (first_free stop next text) k at in
        let j = place.0 in
        let more : suc (j + 1) ≡ k + 1 = omega (arith, place.2) in
        ap (λ (n : ℕ). first_free stop protected (take n (b ∷ text) ++ after)) (sym more)
        ∙ ap (λ (q : Bool). if q then Some 0
        else option_map suc (first_free stop next (take (j + 1) text ++ after))) here
        ∙ ap (option_map suc) (later j place.1) ∙ ap Some (sym place.2)

-- so a text in braces is read again
pub brace_read : (b : ℕ) (text : List ℕ) (k : ℕ) → sign_of b ≡ OpenBrace →
    first_free CloseBrace false text ≡ Some k → IsBraceText (take (k + 2) (b ∷ text))
brace_read b text k sign at =
    let more : k + 2 ≡ suc (k + 1) = omega arith in
    let within : k < length text =
    subst (λ (o : Option ℕ). IsInside o (length text)) at
    (first_free-inside CloseBrace false text) in
    record {
      first = b;
      inside = take (k + 1) text;
      end = k;
      is = ap (λ (n : ℕ). take n (b ∷ text)) more;
      sign = sign;
      free = λ after. free_kept CloseBrace false text after k at;
      long = length-take-le (k + 1) text (omega (arith, within));
    }

brace_is : (text after : List ℕ) → (is : IsBraceText text) →
    begin_of ((is.first ∷ is.inside) ++ after)
    ≡ part (Some (Brace (is.first ∷ is.inside))) after
brace_is text after is =
    let b = is.first in
    let inside = is.inside in
    let k = is.end in
    let whole = b ∷ (inside ++ after) in
    let left = drop (k + 1) (inside ++ after) in
    let more : k + 2 ≡ suc (k + 1) = omega arith in
    ap (λ (s : Sign). begin_at s whole) is.sign
    ∙ ap (brace_begin whole) (is.free after)
    ∙ ap (λ (n : ℕ). part (Some (Brace (take n whole))) left) more
    ∙ ap (λ (t : List ℕ). part (Some (Brace (b ∷ t))) left) (take_at inside after (k + 1) is.long)
    ∙ ap (part (Some (Brace (b ∷ inside)))) (drop_at inside after (k + 1) is.long)

-- a sign that begins a text in braces is no gap, and marks no line
brace_unlike : (b c : ℕ) → sign_of b ≡ OpenBrace → (sign_of c ≡ OpenBrace → ⊥) → (b == c) ≡ false
brace_unlike b c is other = unlike sign_of OpenBrace b c is other

brace_unmarked : (b : ℕ) (text : List ℕ) → sign_of b ≡ OpenBrace →
    is_marked (without_front (b ∷ text)) ≡ false
brace_unmarked b text is =
    let gap : is_gap Blanks b ≡ false =
    or_from (b == SPACE) (b == TAB) (brace_unlike b SPACE is (λ e. cc))
    (brace_unlike b TAB is (λ e. cc)) in
    ap (λ (q : Bool). is_marked (if q then without_front text else b ∷ text)) gap
    ∙ or_from (b == COLON) (b == DOLLAR) (brace_unlike b COLON is (λ e. cc))
    (brace_unlike b DOLLAR is (λ e. cc))

pub brace_line : (text after : List ℕ) → IsBraceText text → IsTail after →
    IsLine Plain (text ++ after) (Brace text ∷ []) after
brace_line text after is tail =
    subst (λ (t : List ℕ). IsLine Plain (t ++ after) (Brace t ∷ []) after) (sym is.is)
    (one_item ((is.first ∷ is.inside) ++ after) after (Brace (is.first ∷ is.inside)) tail
    (brace_unmarked is.first (is.inside ++ after) is.sign) (brace_is text after is))
