-- A content has one reading or one first fault, and never both.
use Rattle.std.proofs.Common.{◌≡◌, ℕ, ◌+◌, List, [], ◌∷◌, ◌++◌, refl, sym, ◌∙◌, ap, subst, false, inl, inr, length, take, drop, Option, None, Some}
use Rattle.std.specs.Str.{chars}
use Rattle.std.proofs.lemmas.Bool.{false≢true}
use Rattle.std.proofs.lemmas.List.{append_cancel_right}
use Rattle.ux_grf.specs.declared.graph.GraphKind.{GraphKind}
use Rattle.ux_grf.specs.declared.content.Content.{Content}
use Rattle.ux_grf.specs.declared.item.Item.{Item}
use Rattle.ux_grf.specs.declared.item.Piece.{Piece}
use Rattle.ux_grf.specs.declared.item.Piece.TheVariants.{Value}
use Rattle.ux_grf.specs.Protection.{ends_open}
use Rattle.ux_grf.specs.Items.{PLUS, SLASH, no_more, part, fault, with_first, Reads, line_over, item_then, Fails, fault_here, fault_later}
use Rattle.ux_grf.specs.Lines.{IsLine, of_items, of_mark, IsBadLine, in_items, at_mark, AreLines, last_line, line_with_output, line_then, IsBadIn, in_first, in_rest, or_empty}
use Rattle.ux_grf.specs.Output.{ArePieces, chars_only, value_then, IsOutput, nothing_put, pieces_put, chars_in, value_len}
use Rattle.ux_grf.specs.Content.{IsContent, IsFault, IsBadAt}

-- the items of a line
pub Reads-once : {text e f : List ℕ} {xs ys : List Item} → Reads text xs e → Reads text ys f →
    (xs ≡ ys) × (e ≡ f)
Reads-once (line_over is) (line_over also) = (refl, refl)
Reads-once {text} (line_over is) (item_then {rest = rest} {item = item} also s) =
    let no : no_more ≡ part item rest = sym is ∙ also in cc
Reads-once {text} (item_then {rest = rest} {item = item} is r) (line_over also) =
    let no : no_more ≡ part item rest = sym also ∙ is in cc
Reads-once {text} {e} {f} (item_then {rest = rest} {item = item} {items = xs} is r) (item_then
    {rest = next} {item = other} {items = ys} also s) =
    let same : part item rest ≡ part other next = sym is ∙ also in
    let rests : rest ≡ next = cc in
    let items : item ≡ other = cc in
    let later = Reads-once r (subst (λ (t : List ℕ). Reads t ys f) (sym rests) s) in
    (ap (λ (i : Option Item). with_first i xs) items ∙ ap (with_first other) later.0, later.1)

pub Reads-Fails : {text e left : List ℕ} {xs : List Item} → Reads text xs e → Fails text left → ⊥
Reads-Fails {text} {e} {left} (line_over is) (fault_here also) =
    let no : no_more ≡ fault left = sym is ∙ also in cc
Reads-Fails (line_over is) (fault_later {rest = rest} {item = item} also g) =
    let no : no_more ≡ part item rest = sym is ∙ also in cc
Reads-Fails {text} {e} {left} (item_then {rest = rest} {item = item} is r) (fault_here also) =
    let no : fault left ≡ part item rest = sym also ∙ is in cc
Reads-Fails {text} {e} {left} (item_then {rest = rest} {item = item} is r) (fault_later
    {rest = next} {item = other} also g) =
    let same : part item rest ≡ part other next = sym is ∙ also in
    let rests : rest ≡ next = cc in
    Reads-Fails r (subst (λ (t : List ℕ). Fails t left) (sym rests) g)

pub Fails-once : {text left other : List ℕ} → Fails text left → Fails text other → left ≡ other
Fails-once {text} {left} {other} (fault_here is) (fault_here also) =
    let same : fault left ≡ fault other = sym is ∙ also in cc
Fails-once {text} {left} {other} (fault_here is) (fault_later {rest = rest} {item = item} also g) =
    let no : fault left ≡ part item rest = sym is ∙ also in cc
Fails-once {text} {left} {other} (fault_later {rest = rest} {item = item} is f) (fault_here also) =
    let no : fault other ≡ part item rest = sym also ∙ is in cc
Fails-once {text} {left} {other} (fault_later {rest = rest} {item = item} is f) (fault_later
    {rest = next} {item = also_item} also g) =
    let same : part item rest ≡ part also_item next = sym is ∙ also in
    let rests : rest ≡ next = cc in
    Fails-once f (subst (λ (t : List ℕ). Fails t other) (sym rests) g)

-- a line
pub IsLine-once : {kind : GraphKind} {text e f : List ℕ} {xs ys : List Item} → IsLine kind text xs e → IsLine kind text ys f →
    (xs ≡ ys) × (e ≡ f)
IsLine-once (of_items mark r) (of_items also s) =
    let both = Reads-once r s in
    (ap or_empty both.0, both.1)
IsLine-once (of_items mark r) (of_mark also is) = absurd (false≢true (sym mark ∙ also))
IsLine-once (of_mark mark is) (of_items also s) = absurd (false≢true (sym also ∙ mark))
IsLine-once (of_mark {item = item} mark is) (of_mark {item = other} also at) =
    let same : Some item ≡ Some other = sym is ∙ at in
    let items : item ≡ other = cc in
    (ap (λ (i : Item). i ∷ []) items, refl)

pub IsLine-IsBadLine : {kind : GraphKind} {text e left : List ℕ} {xs : List Item} → IsLine kind text xs e →
    IsBadLine kind text left → ⊥
IsLine-IsBadLine (of_items mark r) (in_items also f) = Reads-Fails r f
IsLine-IsBadLine (of_items mark r) (at_mark also none) = false≢true (sym mark ∙ also)
IsLine-IsBadLine (of_mark mark is) (in_items also f) = false≢true (sym also ∙ mark)
IsLine-IsBadLine (of_mark {item = item} mark is) (at_mark also none) =
    let no : Some item ≡ None = sym is ∙ none in cc

pub IsBadLine-once : {kind : GraphKind} {text left other : List ℕ} → IsBadLine kind text left → IsBadLine kind text other →
    left ≡ other
IsBadLine-once (in_items mark f) (in_items also g) = Fails-once f g
IsBadLine-once (in_items mark f) (at_mark also none) = absurd (false≢true (sym mark ∙ also))
IsBadLine-once (at_mark mark none) (in_items also g) = absurd (false≢true (sym also ∙ mark))
IsBadLine-once (at_mark mark none) (at_mark also no_item) = refl

-- what can stand after a line
no_plus : (rest : List ℕ) → let none : List ℕ = [] in none ≡ PLUS ∷ rest → ⊥
no_plus rest e = cc

no_slash : (rest : List ℕ) → let none : List ℕ = [] in none ≡ SLASH ∷ rest → ⊥
no_slash rest e = cc

apart : (rest output : List ℕ) → PLUS ∷ rest ≡ SLASH ∷ output → ⊥
apart rest output e = let no : PLUS ≡ SLASH = cc in cc

tails : (b : ℕ) (rest next : List ℕ) → b ∷ rest ≡ b ∷ next → rest ≡ next
tails b rest next e = cc

-- the lines of a content
pub AreLines-once : {kind : GraphKind} {text e f : List ℕ} {xs ys : List (List Item)} → AreLines kind text xs e →
    AreLines kind text ys f → (xs ≡ ys) × (e ≡ f)
AreLines-once (last_line is) (last_line also) =
    (ap (λ (l : List Item). l ∷ []) (IsLine-once is also).0, refl)
AreLines-once (last_line is) (line_with_output {output = output} also) =
    absurd (no_slash output (IsLine-once is also).1)
AreLines-once (last_line is) (line_then {rest = rest} also ls) =
    absurd (no_plus rest (IsLine-once is also).1)
AreLines-once (line_with_output {output = output} is) (last_line also) =
    absurd (no_slash output (sym (IsLine-once is also).1))
AreLines-once (line_with_output {output = output} is) (line_with_output {output = other} also) =
    let one = IsLine-once is also in
    (ap (λ (l : List Item). l ∷ []) one.0, tails SLASH output other one.1)
AreLines-once (line_with_output {output = output} is) (line_then {rest = rest} also ls) =
    absurd (apart rest output (sym (IsLine-once is also).1))
AreLines-once (line_then {rest = rest} is ks) (last_line also) =
    absurd (no_plus rest (sym (IsLine-once is also).1))
AreLines-once (line_then {rest = rest} is ks) (line_with_output {output = output} also) =
    absurd (apart rest output (IsLine-once is also).1)
AreLines-once {kind} {text} {e} {f} (line_then {rest = rest} {line = line} {lines = xs} is ks) (line_then
    {rest = next} {line = other} {lines = ys} also ls) =
    let one = IsLine-once is also in
    let rests = tails PLUS rest next one.1 in
    let later = AreLines-once ks (subst (λ (t : List ℕ). AreLines kind t ys f) (sym rests) ls) in (
      ap (λ (l : List Item). l ∷ xs) one.0 ∙ ap (λ (l : List (List Item)). other ∷ l) later.0,
      later.1,
    )

pub AreLines-IsBadIn : {kind : GraphKind} {text e left : List ℕ} {xs : List (List Item)} → AreLines kind text xs e →
    IsBadIn kind text left → ⊥
AreLines-IsBadIn (last_line is) (in_first bad) = IsLine-IsBadLine is bad
AreLines-IsBadIn (last_line is) (in_rest {rest = rest} also bad) =
    no_plus rest (IsLine-once is also).1
AreLines-IsBadIn (line_with_output is) (in_first bad) = IsLine-IsBadLine is bad
AreLines-IsBadIn (line_with_output {output = output} is) (in_rest {rest = rest} also bad) =
    apart rest output (sym (IsLine-once is also).1)
AreLines-IsBadIn (line_then is ls) (in_first bad) = IsLine-IsBadLine is bad
AreLines-IsBadIn {kind} {text} {e} {left} (line_then {rest = rest} is ls) (in_rest {rest = next} also
    bad) =
    let rests = tails PLUS rest next (IsLine-once is also).1 in
    AreLines-IsBadIn ls (subst (λ (t : List ℕ). IsBadIn kind t left) (sym rests) bad)

pub IsBadIn-once : {kind : GraphKind} {text left other : List ℕ} → IsBadIn kind text left → IsBadIn kind text other →
    left ≡ other
IsBadIn-once (in_first bad) (in_first worse) = IsBadLine-once bad worse
IsBadIn-once (in_first bad) (in_rest also worse) = absurd (IsLine-IsBadLine also bad)
IsBadIn-once (in_rest is bad) (in_first worse) = absurd (IsLine-IsBadLine is worse)
IsBadIn-once {kind} {text} {left} {other} (in_rest {rest = rest} is bad) (in_rest {rest = next} also
    worse) =
    let rests = tails PLUS rest next (IsLine-once is also).1 in
    IsBadIn-once bad (subst (λ (t : List ℕ). IsBadIn kind t other) (sym rests) worse)

-- an output
abbrev after_at : List ℕ → ℕ → List ℕ
after_at text k = drop (value_len (drop (k + 1) text) + 1) (drop (k + 1) text)

abbrev pieces_at : List ℕ → ℕ → List Piece → List Piece
pieces_at text k later = chars_in (take k text)
    ++ Value (take (value_len (drop (k + 1) text)) (drop (k + 1) text)) ∷ later

pub ArePieces-once : {text : List ℕ} {xs ys : List Piece} → ArePieces text xs → ArePieces text ys →
    xs ≡ ys
ArePieces-once (chars_only none) (chars_only also) = refl
ArePieces-once (chars_only none) (value_then {k = k} also ps) =
    let no : None ≡ Some k = sym none ∙ also in cc
ArePieces-once (value_then {k = k} is ps) (chars_only none) =
    let no : None ≡ Some k = sym none ∙ is in cc
ArePieces-once {text} (value_then {k = k} {pieces = xs} is ps) (value_then {k = j} {pieces = ys}
    also qs) =
    let places : Some k ≡ Some j = sym is ∙ also in
    let here : k ≡ j = cc in
    let later = ArePieces-once ps (subst (λ i. ArePieces (after_at text i) ys) (sym here) qs) in
    ap (λ (p : List Piece). pieces_at text k p) later ∙ ap (λ i. pieces_at text i ys) here

pub IsOutput-once : {text : List ℕ} {xs ys : List Piece} → IsOutput text xs → IsOutput text ys →
    xs ≡ ys
IsOutput-once (nothing_put is) (nothing_put also) = refl
IsOutput-once (nothing_put is) (pieces_put also ps) = absurd (false≢true (sym also ∙ is))
IsOutput-once (pieces_put is ps) (nothing_put also) = absurd (false≢true (sym is ∙ also))
IsOutput-once (pieces_put is ps) (pieces_put also qs) = ArePieces-once ps qs

-- a content has one reading
pub IsContent-once : {kind : GraphKind} (content : List ℕ) (read other : Content) → IsContent kind content read →
    IsContent kind content other → (read.lines ≡ other.lines) × (read.output ≡ other.output)
IsContent-once content read other is also =
    let lines = AreLines-once is.lines also.lines in (
      lines.0,
      IsOutput-once is.output (subst (λ (t : List ℕ). IsOutput t other.output)
          (sym lines.1) also.output),
    )

-- it has none where it is refused
pub IsContent-IsFault : {kind : GraphKind} (content left : List ℕ) (read : Content) → IsContent kind content read →
    IsFault kind content left → ⊥
IsContent-IsFault content left read is (inl bad) = AreLines-IsBadIn is.lines bad
IsContent-IsFault content left read is (inr opened) =
    let lines = AreLines-once is.lines opened.good in
    false≢true (sym is.closed ∙ (ap (λ (t : List ℕ). ends_open false t) lines.1 ∙ opened.opened))

-- and it has one first fault
pub IsFault-once : {kind : GraphKind} (content left other : List ℕ) → IsFault kind content left → IsFault kind content other →
    left ≡ other
IsFault-once content left other (inl bad) (inl worse) = IsBadIn-once bad worse
IsFault-once content left other (inl bad) (inr opened) =
    absurd (AreLines-IsBadIn opened.good bad)
IsFault-once content left other (inr opened) (inl bad) =
    absurd (AreLines-IsBadIn opened.good bad)
IsFault-once content left other (inr opened) (inr also) = opened.here ∙ sym also.here

-- so a content that is refused is refused at one place
pub IsBadAt-once : {kind : GraphKind} (content : List ℕ) (place other : ℕ) → IsBadAt kind content place →
    IsBadAt kind content other → place ≡ other
IsBadAt-once content place other bad worse =
    let lefts = IsFault-once content bad.left worse.left bad.fault worse.fault in
    let fronts = append_cancel_right bad.front worse.front worse.left
    (ap (λ (l : List ℕ). bad.front ++ l) (sym lefts) ∙ (sym bad.whole ∙ worse.whole)) in
    bad.count ∙ (ap (λ (f : List ℕ). length (chars f)) fronts ∙ sym worse.count)
