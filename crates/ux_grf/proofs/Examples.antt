-- Worked examples of the definitions.
use Rattle.std.proofs.Common.{◌≡◌, [], ◌∷◌, ◌++◌, refl, Some, None, true, false}
use Rattle.std.specs.Prelude.{codes}
use Rattle.ux_grf.specs.declared.graph.GraphKind.TheVariants.{Plain, Morphological}
use Rattle.ux_grf.specs.declared.item.Item.TheVariants.{Literal, Mask, Empty, Call, Begin, End}
use Rattle.ux_grf.specs.declared.item.Piece.TheVariants.{Chars, Value}
use Rattle.ux_grf.specs.declared.words.Gap.TheVariants.{Spaces}
use Rattle.ux_grf.specs.Words.{words_of}
use Rattle.ux_grf.specs.Numbers.{is_number, is_coordinate}
use Rattle.ux_grf.specs.Header.{is_mark, count_of, after_header}
use Rattle.ux_grf.specs.declared.protection.Stop.TheVariants.{Mark}
use Rattle.ux_grf.specs.declared.protection.Layer.TheVariants.{File}
use Rattle.ux_grf.specs.Protection.{first_free, resolved}
use Rattle.ux_grf.specs.BoxLine.{box_of}
use Rattle.ux_grf.specs.Items.{part, fault, begin_of}
use Rattle.ux_grf.specs.Lines.{marked_item, AreLines, last_line, line_with_output, line_then, of_items, of_mark}
use Rattle.ux_grf.specs.Items.{line_over, item_then}
use Rattle.ux_grf.specs.Output.{ArePieces, chars_only, value_then}
use Rattle.ux_grf.specs.Reached.{ways_of, Reached, start, step}
use Rattle.ux_base.proofs.FirstsLemmas.{Contains-first}

two_words : words_of Spaces (codes " the  cat ") ≡ codes "the" ∷ codes "cat" ∷ []
two_words = refl

a_coordinate : is_coordinate (codes "-84") ≡ true
a_coordinate = refl

ten_digits : is_number (codes "1234567890") ≡ false
ten_digits = refl

a_mark : is_mark (codes "#") (codes "#  ") ≡ true
a_mark = refl

a_header : after_header (codes "#Unigraph" ∷ codes "SIZE 1188 840" ∷ codes "#" ∷ codes "4" ∷ [])
    ≡ Some (codes "4" ∷ [])
a_header = refl

four_boxes : count_of (codes "004 ") ≡ Some 4
four_boxes = refl

one_box : count_of (codes "1") ≡ None
one_box = refl

-- the quotation mark after a backslash is part of the content
a_protected_mark : first_free Mark false (97 ∷ 92 ∷ 34 ∷ 34 ∷ []) ≡ Some 3
a_protected_mark = refl

-- the file's `\\+\"` is the content's `\+"`
a_protected_text : resolved File false (92 ∷ 92 ∷ 43 ∷ 92 ∷ 34 ∷ []) ≡ 92 ∷ 43 ∷ 34 ∷ []
a_protected_text = refl

-- "the cat" 170 248 1 1
a_box_line : box_of (34 ∷ codes "the cat" ++ 34 ∷ codes " 170 248 1 1 ")
    ≡ Some (record { content = codes "the cat"; targets = 1 ∷ [] })
a_box_line = refl

a_mask : begin_of (codes "<N:p>x") ≡ part (Some (Mask (codes "N:p"))) (codes "x")
a_mask = refl

an_empty_mask : begin_of (codes "<>x") ≡ fault (codes "<>x")
an_empty_mask = refl

a_call : marked_item Plain (codes ": np.grf ") ≡ Some (Call (codes "np"))
a_call = refl

a_variable : marked_item Plain (codes "$x( ") ≡ Some (Begin (codes "x"))
a_variable = refl

an_output_ends : marked_item Plain (codes "$|x)") ≡ Some (End (codes "|x"))
an_output_ends = refl

a_bar_alone : marked_item Plain (codes "$|(") ≡ None
a_bar_alone = refl

no_form : marked_item Plain (codes "$x") ≡ None
no_form = refl

-- the part inside a word begins in graphs of the morphological mode alone
a_word_begins : marked_item Morphological (codes "$<") ≡ Some (Begin (codes "<"))
a_word_begins = refl

a_word_ends : marked_item Morphological (codes "$> ") ≡ Some (End (codes "<"))
a_word_ends = refl

no_word : marked_item Plain (codes "$<") ≡ None
no_word = refl

-- `$</x` is such a line with an output, `$<+$>` are two
a_word_with_output : AreLines Morphological (codes "$</x") ((Begin (codes "<") ∷ []) ∷ [])
    (codes "x")
a_word_with_output = line_with_output (of_mark refl refl)

two_of_them : AreLines Morphological (codes "$<+$>")
    ((Begin (codes "<") ∷ []) ∷ (End (codes "<") ∷ []) ∷ []) []
two_of_them = line_then (of_mark refl refl) (last_line (of_mark refl refl))

-- `a +:np/[N]` has two lines and an output
two_lines : AreLines Plain (codes "a +:np/[N]")
    ((Literal (codes "a") ∷ []) ∷ (Call (codes "np") ∷ []) ∷ []) (codes "[N]")
two_lines =
    line_then (of_items refl (item_then refl (item_then refl (line_over refl))))
    (line_with_output (of_mark refl refl))

-- the end of a line without items
no_items : AreLines Plain (codes " ") ((Empty ∷ []) ∷ []) []
no_items = last_line (of_items refl (item_then refl (line_over refl)))

-- `[$x$]`
a_value : ArePieces (codes "[$x$]")
    (Chars (codes "[") ∷ Value (codes "x") ∷ Chars (codes "]") ∷ [])
a_value = value_then refl (chars_only refl)

-- `$x.UNSET$`
a_test : ArePieces (codes "$x.UNSET$") (Value (codes "x.UNSET") ∷ [])
a_test = value_then refl (chars_only refl)

-- `$x.SET`
no_test : ArePieces (codes "$x.SET") (Chars (codes "$x.SET") ∷ [])
no_test = chars_only refl

-- from box 0 by box 2 to box 1
the_end_is_reached : Reached (ways_of ((2 ∷ []) ∷ [] ∷ (1 ∷ []) ∷ [])) 1
the_end_is_reached = step (step start (Contains-first 2 [])) (Contains-first 1 [])
