-- The reader of lines goes on after each part and after each line.
use Rattle.std.proofs.Common.{arith, ◌≡◌, ℕ, ◌≤◌, List, [], ◌∷◌, ◌++◌, sym, ◌∙◌, ap, subst, cond, Bool, true, false, inl, inr, length, append-nil, append_assoc, Option, None, Some}
use Rattle.ux_grf.specs.declared.graph.GraphKind.{GraphKind}
use Rattle.ux_grf.specs.declared.item.Item.{Item}
use Rattle.ux_grf.specs.declared.line.Fault.{Fault}
use Rattle.ux_grf.specs.declared.line.Fault.TheVariants.{At, NoRoom}
use Rattle.ux_grf.specs.declared.words.Gap.TheVariants.{Blanks}
use Rattle.ux_grf.specs.Words.{is_gap}
use Rattle.ux_grf.specs.Items.{PLUS, begin_of, no_more, part, with_first, Reads, line_over, item_then}
use Rattle.ux_grf.specs.Lines.{without_front, is_marked, marked_item, own_text, after_line, or_empty, IsLine, of_items, of_mark, IsMarkedLine, IsBadLine, in_items, at_mark, AreLines, last_line, line_with_output, line_then, IsBadIn, in_first, in_rest, IsLastRest}
use Rattle.ux_grf.specs.Content.{StopsItems, StopsMark, StopsLine, StopsLines}

-- an item in front of the later ones
put_first : (items : List Item) (item : Option Item) (rest : List Item) →
    items ++ with_first item rest ≡ (items ++ with_first item []) ++ rest
put_first items None rest = ap (λ is. is ++ rest) (sym (append-nil items))
put_first items (Some item) rest = sym (append_assoc items (item ∷ []) rest)

module _ (text : List ℕ) (items : List Item) (rest : List ℕ)
    (before : (more : List Item) (end : List ℕ) → Reads rest more end →
    Reads text (items ++ more) end) where
  -- reading goes on after a part
  pub reads_more : (item : Option Item) (next : List ℕ) (now : List Item) →
      begin_of rest ≡ part item next → now ≡ items ++ with_first item [] →
      (more : List Item) (end : List ℕ) → Reads next more end → Reads text (now ++ more) end
  reads_more item next now is put more end r =
      subst (λ (is : List Item). Reads text is end)
      (put_first items item more ∙ ap (λ is. is ++ more) (sym put))
      (before (with_first item more) end (item_then is r))

  -- the line is over
  pub reads_all : begin_of rest ≡ no_more → Reads text items rest
  reads_all is =
      subst (λ (is : List Item). Reads text is rest) (append-nil items)
      (before [] rest (line_over is))

-- what is left without spaces in front is no longer
pub without_front-length : (text : List ℕ) → length (without_front text) ≤ length text
without_front-length [] = omega arith
without_front-length (b ∷ text) = by (without_front-length text) (is_gap Blanks b)
  where
    by : length (without_front text) ≤ length text → (t : Bool) →
        length (cond t (without_front text) (b ∷ text)) ≤ length (b ∷ text)
    by le true = omega arith
    by le false = omega arith

module _ (kind : GraphKind) (text front : List ℕ) (is : front ≡ without_front text) where
  -- a line of one item
  pub marked_line : (items : List Item) (end : List ℕ) → is_marked front ≡ true →
      IsMarkedLine kind front items end → IsLine kind text items end
  marked_line items end mark line =
      subst (λ (e : List ℕ). IsLine kind text items e) (sym (line.rest ∙ ap after_line is))
      (subst (λ (i : List Item). IsLine kind text i (after_line (without_front text))) (sym line.alone)
      (of_mark (subst (λ f. is_marked f ≡ true) is mark)
      (subst (λ f. marked_item kind (own_text f) ≡ Some line.item) is line.is)))

  pub stops_mark : (e : Fault) → is_marked front ≡ true → StopsMark kind front e → StopsLine kind text e
  stops_mark (At left) mark h =
      subst (λ l. IsBadLine kind text l) (sym (h.0 ∙ is))
      (at_mark (subst (λ f. is_marked f ≡ true) is mark)
      (subst (λ f. marked_item kind (own_text f) ≡ None) is h.1))
  stops_mark NoRoom mark h = tt

  -- a line of items
  pub items_line : (items filled : List Item) (end : List ℕ) → is_marked front ≡ false →
      Reads text items end → filled ≡ or_empty items → IsLine kind text filled end
  items_line items filled end mark r fill =
      subst (λ (i : List Item). IsLine kind text i end) (sym fill)
      (of_items (subst (λ f. is_marked f ≡ false) is mark) r)

  pub stops_items : (e : Fault) → is_marked front ≡ false → StopsItems text e → StopsLine kind text e
  stops_items (At left) mark h = in_items (subst (λ f. is_marked f ≡ false) is mark) h
  stops_items NoRoom mark h = tt

module _ {kind : GraphKind} (text rest : List ℕ) (lines : List (List Item))
    (before : (later : List (List Item)) (output : List ℕ) → AreLines kind rest later output →
    AreLines kind text (lines ++ later) output)
    (line : List Item) (end : List ℕ) (is : IsLine kind rest line end) where
  -- reading goes on after a line
  pub lines_more : (next : List ℕ) (now : List (List Item)) → end ≡ PLUS ∷ next →
      now ≡ lines ++ line ∷ [] →
      (later : List (List Item)) (output : List ℕ) → AreLines kind next later output →
      AreLines kind text (now ++ later) output
  lines_more next now plus put later output ls =
      subst (λ (l : List (List Item)). AreLines kind text l output)
      (sym (append_assoc lines (line ∷ []) later) ∙ ap (λ l. l ++ later) (sym put))
      (before (line ∷ later) output (line_then (subst (λ e. IsLine kind rest line e) plus is) ls))

  -- the line is the last
  pub lines_all : (written : List ℕ) (now : List (List Item)) → IsLastRest end written →
      now ≡ lines ++ line ∷ [] → AreLines kind text now written
  lines_all written now (inl slash) put =
      subst (λ (l : List (List Item)). AreLines kind text l written) (sym put)
      (before (line ∷ []) written (line_with_output (subst (λ e. IsLine kind rest line e) slash is)))
  lines_all written now (inr none) put =
      subst (λ (l : List (List Item)). AreLines kind text l written) (sym put)
      (subst (λ w. AreLines kind text (lines ++ line ∷ []) w) (sym none.1)
      (before (line ∷ []) [] (last_line (subst (λ e. IsLine kind rest line e) none.0 is))))

-- a fault of the rest is the text's first
pub bad_more : {kind : GraphKind} (text rest : List ℕ) (line : List Item) (end next : List ℕ) →
    ((left : List ℕ) → IsBadIn kind rest left → IsBadIn kind text left) →
    IsLine kind rest line end → end ≡ PLUS ∷ next →
    (left : List ℕ) → IsBadIn kind next left → IsBadIn kind text left
bad_more {kind} text rest line end next before is plus left h =
    before left (in_rest (subst (λ e. IsLine kind rest line e) plus is) h)

pub stops_line : {kind : GraphKind} (text rest : List ℕ) (e : Fault) →
    ((left : List ℕ) → IsBadIn kind rest left → IsBadIn kind text left) →
    StopsLine kind rest e → StopsLines kind text e
stops_line text rest (At left) before h = before left.now (in_first h)
stops_line text rest NoRoom before h = tt
