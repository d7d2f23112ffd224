-- Where no text of a label or an output has a line feed or a carriage return, their tag stands on a
-- line.
use Rattle.std.proofs.Common.{arith, ◌≡◌, ◌≢◌, ℕ, zero, suc, ◌-◌, List, [], ◌∷◌, ◌++◌, Bool, true, false, length, map, get_or, refl, sym, ◌∙◌, ap, Option, Some, None}
use Rattle.std.specs.Prelude.{◌==◌, ◌||◌, codes}
use Rattle.std.specs.List.{flat_map, list_any}
use Rattle.std.specs.Str.{bytes_eq}
use Rattle.std.proofs.lemmas.Bool.{both_ways, cond_both, or_from, or_parts}
use Rattle.std.proofs.lemmas.List.Folds.{list_any-append}
use Rattle.ux_base.specs.Lines.{LINE_FEED, CARRIAGE_RETURN}
use Rattle.ux_dela.specs.Printed.{shield, shielded}
use Rattle.ux_dela.specs.Written.{Written, written}
use Rattle.ux_dela.proofs.ShieldLemmas.{shown}
use Rattle.ux_fst2_file.specs.Printed.{IsLineText}
use Rattle.ux_grf.specs.Lines.{DOLLAR}
use Rattle.ux_grf.specs.declared.item.Piece.{Piece}
use Rattle.ux_grf.specs.declared.item.Piece.TheVariants.{Chars, Value}
use Rattle.ux_masks.specs.Signs.{COMMA, DOT, PLUS, TILDE, COLON}
use Rattle.ux_masks.specs.declared.lexical.Parts.{Parts}
use Rattle.ux_masks.specs.declared.mask.Mask as masks
use Rattle.ux_masks.specs.declared.mask.Mask.TheVariants.{Word, NotWord, Lower, NotLower, Upper, NotUpper, First, NotFirst, Dic, NotDic, SDic, NotSDic, CDic, TDic, Nb, Token, Lexical, NotLexical}
use Rattle.ux_net.specs.declared.label.Label.{Label}
use Rattle.ux_net.specs.declared.label.Label.TheVariants.{Empty, CaseFolded, CaseExact, Mask, Brace, Space, NoSpace, Begin, End, Positive, Negative, ContextEnd, Cut, Call}
use Rattle.ux_fst2.specs.Masks.{behind_sign, code_text, codes_text, is_code_alone, is_name_sign, lemma_text, lexical_text, mask_text, name_text, target_text}
use Rattle.ux_fst2.specs.Spelling.{IsUnbroken, has_break, if_told, text_of_piece, texts_of_label, texts_of_mask, texts_of_parts}
use Rattle.ux_fst2.specs.Tags.{is_text_sign, is_output_sign, item_text, mark_of, output_text, piece_text, tag_text}

-- a byte that ends a line
abbrev is_break : ℕ → Bool
is_break b = b == LINE_FEED || b == CARRIAGE_RETURN

abbrev IsWhole : List ℕ → Type 0
IsWhole text = has_break text ≡ false

abbrev AreWhole : List (List ℕ) → Type 0
AreWhole texts = list_any has_break texts ≡ false

-- a text of two parts
joined : (front back : List ℕ) → IsWhole front → IsWhole back → IsWhole (front ++ back)
joined front back one other =
    list_any-append is_break front back ∙ or_from (has_break front) (has_break back) one other

-- the texts of two lists
parted : (front back : List (List ℕ)) → AreWhole (front ++ back) → AreWhole front × AreWhole back
parted front back are =
    or_parts (list_any has_break front) (list_any has_break back)
    (sym (list_any-append has_break front back) ∙ are)

first_of : (text : List ℕ) (texts : List (List ℕ)) → AreWhole (text ∷ texts) →
    IsWhole text × AreWhole texts
first_of text texts are = or_parts (has_break text) (list_any has_break texts) are

-- backslashes end no line
shield_whole : (t : Bool) (b : ℕ) (w : List Written) → is_break b ≡ false → IsWhole (written w) →
    IsWhole (written (shield t b ∷ w))
shield_whole true b w other rest = or_from (is_break b) (has_break (written w)) other rest
shield_whole false b w other rest = or_from (is_break b) (has_break (written w)) other rest

shown_whole : (signs : ℕ → Bool) (text : List ℕ) → IsWhole text → IsWhole (shown signs text)
shown_whole signs [] is = refl
shown_whole signs (b ∷ text) is =
    let both = or_parts (is_break b) (has_break text) is in
    shield_whole (signs b) b (shielded signs text) both.0 (shown_whole signs text both.1)

-- MASKS

names_whole : (sign : ℕ) (names : List (List ℕ)) → is_break sign ≡ false → AreWhole names →
    IsWhole (flat_map (behind_sign sign) names)
names_whole sign [] other are = refl
names_whole sign (name ∷ names) other are =
    let both = first_of name names are in
    joined (behind_sign sign name) (flat_map (behind_sign sign) names)
    (or_from (is_break sign) (has_break (name_text name)) other
    (shown_whole is_name_sign name both.0))
    (names_whole sign names other both.1)

code_whole : (alone : Bool) (code : List ℕ) → IsWhole code → IsWhole (code_text alone code)
code_whole true code is = is
code_whole false code is = shown_whole is_name_sign code is

codes_whole : (alone : Bool) (need : List (List ℕ)) → AreWhole need → IsWhole (codes_text alone need)
codes_whole alone [] are = refl
codes_whole alone (code ∷ later) are =
    let both = first_of code later are in
    joined (code_text alone code) (flat_map (behind_sign PLUS) later)
    (code_whole alone code both.0) (names_whole PLUS later refl both.1)

lemma_whole : (form lemma : List ℕ) → IsWhole lemma → IsWhole (lemma_text form lemma)
lemma_whole form lemma is =
    cond_both (bytes_eq lemma form) [] (name_text lemma) IsWhole (λ e. refl)
    (λ e. shown_whole is_name_sign lemma is)

target_whole : (form lemma : Option (List ℕ)) → AreWhole (if_told form) → AreWhole (if_told lemma) →
    IsWhole (target_text form lemma)
target_whole None None one other = refl
target_whole None (Some lemma) one other =
    joined (name_text lemma) (DOT ∷ []) (shown_whole is_name_sign lemma (first_of lemma [] other).0)
    refl
target_whole (Some form) None one other =
    joined (name_text form) (COMMA ∷ (DOT ∷ []))
    (shown_whole is_name_sign form (first_of form [] one).0) refl
target_whole (Some form) (Some lemma) one other =
    joined (name_text form) (COMMA ∷ (lemma_text form lemma ++ DOT ∷ []))
    (shown_whole is_name_sign form (first_of form [] one).0)
    (joined (lemma_text form lemma) (DOT ∷ [])
    (lemma_whole form lemma (first_of lemma [] other).0) refl)

lexical_whole : (parts : Parts) → AreWhole (texts_of_parts parts) → IsWhole (lexical_text parts)
lexical_whole parts are =
    let a = parted (if_told parts.form) _ are in
    let b = parted (if_told parts.lemma) _ a.1 in
    let c = parted parts.need (parts.forbid ++ parts.infl) b.1 in
    let d = parted parts.forbid parts.infl c.1 in
    let alone = is_code_alone parts.form parts.lemma in
    let forbid = flat_map (behind_sign TILDE) parts.forbid in
    let infl = flat_map (behind_sign COLON) parts.infl in
    joined (target_text parts.form parts.lemma) (codes_text alone parts.need ++ (forbid ++ infl))
    (target_whole parts.form parts.lemma a.0 b.0)
    (joined (codes_text alone parts.need) (forbid ++ infl) (codes_whole alone parts.need c.0)
    (joined forbid infl (names_whole TILDE parts.forbid refl d.0)
    (names_whole COLON parts.infl refl d.1)))

mask_whole : (mask : masks.Mask) → AreWhole (texts_of_mask mask) → IsWhole (mask_text mask)
mask_whole Word are = refl
mask_whole NotWord are = refl
mask_whole Lower are = refl
mask_whole NotLower are = refl
mask_whole Upper are = refl
mask_whole NotUpper are = refl
mask_whole First are = refl
mask_whole NotFirst are = refl
mask_whole Dic are = refl
mask_whole NotDic are = refl
mask_whole SDic are = refl
mask_whole NotSDic are = refl
mask_whole CDic are = refl
mask_whole TDic are = refl
mask_whole Nb are = refl
mask_whole Token are = refl
mask_whole (Lexical parts) are = lexical_whole parts are
mask_whole (NotLexical parts) are = lexical_whole parts are

-- LABELS AND OUTPUTS

bound_whole : (name : List ℕ) (sign : List ℕ) → IsWhole sign → IsWhole name →
    IsWhole (codes "$" ++ (name ++ sign))
bound_whole name sign other is = joined name sign is other

item_whole : (label : Label) → AreWhole (texts_of_label label) → IsWhole (item_text label)
item_whole Empty are = refl
item_whole (CaseFolded text) are = shown_whole is_text_sign text (first_of text [] are).0
item_whole (CaseExact text) are = shown_whole is_text_sign text (first_of text [] are).0
item_whole (Mask mask) are = joined (mask_text mask) (codes ">") (mask_whole mask are) refl
item_whole (Brace text) are = (first_of text [] are).0
item_whole Space are = refl
item_whole NoSpace are = refl
item_whole (Begin name) are = bound_whole name (codes "(") refl (first_of name [] are).0
item_whole (End name) are = bound_whole name (codes ")") refl (first_of name [] are).0
item_whole Positive are = refl
item_whole Negative are = refl
item_whole ContextEnd are = refl
item_whole Cut are = refl
item_whole (Call graph) are = refl

piece_whole : (piece : Piece) → IsWhole (text_of_piece piece) → IsWhole (piece_text piece)
piece_whole (Chars text) is = shown_whole is_output_sign text is
piece_whole (Value name) is = joined name (DOLLAR ∷ []) is refl

pieces_whole : (pieces : List Piece) → AreWhole (map text_of_piece pieces) →
    IsWhole (flat_map piece_text pieces)
pieces_whole [] are = refl
pieces_whole (piece ∷ pieces) are =
    let both = first_of (text_of_piece piece) (map text_of_piece pieces) are in
    joined (piece_text piece) (flat_map piece_text pieces) (piece_whole piece both.0)
    (pieces_whole pieces both.1)

output_whole : (output : List Piece) → AreWhole (map text_of_piece output) →
    IsWhole (output_text output)
output_whole [] are = refl
output_whole (piece ∷ pieces) are = pieces_whole (piece ∷ pieces) are

mark_whole : (label : Label) → is_break (mark_of label) ≡ false
mark_whole Empty = refl
mark_whole (CaseFolded text) = refl
mark_whole (CaseExact text) = refl
mark_whole (Mask mask) = refl
mark_whole (Brace text) = refl
mark_whole Space = refl
mark_whole NoSpace = refl
mark_whole (Begin name) = refl
mark_whole (End name) = refl
mark_whole Positive = refl
mark_whole Negative = refl
mark_whole ContextEnd = refl
mark_whole Cut = refl
mark_whole (Call graph) = refl

-- A TEXT WITHOUT BREAKS

no_feed : (text : List ℕ) → IsWhole text → list_any (λ b. b == LINE_FEED) text ≡ false
no_feed [] is = refl
no_feed (b ∷ text) is =
    let both = or_parts (is_break b) (has_break text) is in
    or_from (b == LINE_FEED) (list_any (λ c. c == LINE_FEED) text)
    (or_parts (b == LINE_FEED) (b == CARRIAGE_RETURN) both.0).0 (no_feed text both.1)

no_return : (text : List ℕ) (k : ℕ) → IsWhole text → get_or text k 0 ≢ CARRIAGE_RETURN
no_return [] k is same = omega (arith, same)
no_return (b ∷ text) zero is same =
    let both = or_parts (is_break b) (has_break text) is in
    both_ways (b == CARRIAGE_RETURN) (or_parts (b == LINE_FEED) (b == CARRIAGE_RETURN) both.0).1
    (ap (λ c. c == CARRIAGE_RETURN) same)
no_return (b ∷ text) (suc k) is same =
    no_return text k (or_parts (is_break b) (has_break text) is).1 same

-- the tag of texts without breaks stands on a line
pub unbroken_line : (label : Label) (output : List Piece) → IsUnbroken label output →
    IsLineText (tag_text label output)
unbroken_line label output is =
    let both = parted (texts_of_label label) (map text_of_piece output) is in
    let inside = joined (item_text label) (output_text output) (item_whole label both.0)
    (output_whole output both.1) in
    let whole : IsWhole (tag_text label output) =
    or_from (is_break (mark_of label)) (has_break (item_text label ++ output_text output))
    (mark_whole label) inside in
    record {
      no_feed = no_feed (tag_text label output) whole;
      no_return = no_return (tag_text label output) (length (tag_text label output) - 1) whole;
    }
