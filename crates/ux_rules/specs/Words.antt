-- The words of a rule's graph: what stands along its paths. The manual, on ELAG and on graphs.
-- Public: the crate's public contracts speak of it.
use Rattle.std.specs.Prelude.{◌≡◌, ◌≢◌, ℕ, zero, suc, List, [], ◌∷◌, ◌++◌, Option, Some, None, Contains, codes, if◌then◌else◌}
use Rattle.std.specs.Str.{bytes_eq}
use Rattle.ux_grf.specs.declared.graph.Graph.{Graph}
use Rattle.ux_grf.specs.declared.item.Item.{Item}
use Rattle.ux_grf.specs.declared.item.Item.TheVariants as item
use Rattle.ux_grf.specs.WellFormed.{box_of_graph}
use Rattle.ux_masks.specs.declared.mask.Mask as masks
use Rattle.ux_masks.specs.declared.mask.Mask.TheVariants as mask
use Rattle.ux_masks.specs.Texts.{IsMaskText}
use Rattle.ux_rules.specs.declared.test.Test.{Test}
use Rattle.ux_rules.specs.declared.test.Test.TheVariants.{Form, Lexical, Known, Unknown, Any}
use Rattle.ux_rules.specs.declared.step.Sign.{Sign}
use Rattle.ux_rules.specs.declared.step.Sign.TheVariants.{If, Then, Read}
use Rattle.ux_rules.specs.Runs.{pair_word}

-- the test of a mask, if it is lexical or one of `<DIC>`, `<!DIC>` and `<TOKEN>`
abbrev pub test_of : masks.Mask → Option Test
test_of (mask.Lexical parts) = Some (Lexical (mask.Lexical parts))
test_of (mask.NotLexical parts) = Some (Lexical (mask.NotLexical parts))
test_of mask.Dic = Some Known
test_of mask.NotDic = Some Unknown
test_of mask.Token = Some Any
test_of other = None

-- the item asks of one reading to pass the test
abbrev pub IsTest : Item → Test → Type 0
IsTest (item.Literal text) test = test ≡ Form text
IsTest (item.Quoted text) test = test ≡ Form text
IsTest (item.Mask text) test = (m : masks.Mask) × IsMaskText text m × (test_of m ≡ Some test)
IsTest other test = ⊥

-- the signs of an item: none of `<E>`, and otherwise that of its test
abbrev pub IsSaid : Item → List Sign → Type 0
IsSaid item.Empty signs = signs ≡ []
IsSaid other signs = (test : Test) × IsTest other test × (signs ≡ Read test ∷ [])

-- the signs of the items one after the other
abbrev pub AreSaid : List Item → List Sign → Type 0
AreSaid [] signs = signs ≡ []
AreSaid (item ∷ items) signs = (front back : List Sign) × IsSaid item front × AreSaid items back
    × (signs ≡ front ++ back)

-- the mark that stands alone in a line, if one does
abbrev pub mark_of : List Item → Option Sign
mark_of (item.Mask text ∷ []) = if bytes_eq text (codes "!") then Some If
    else (if bytes_eq text (codes "=") then Some Then else None)
mark_of line = None

-- the signs of a line, which has this mark or none
abbrev pub IsSpelledBy : Option Sign → List Item → List Sign → Type 0
IsSpelledBy None line signs = AreSaid line signs
IsSpelledBy (Some mark) line signs = signs ≡ mark ∷ []

-- the signs of a line: its mark, or those of its items
abbrev pub IsSpelled : List Item → List Sign → Type 0
IsSpelled line signs = IsSpelledBy (mark_of line) line signs

-- the lines of a box: box 0 counts as one empty line
abbrev pub lines_of : Graph → ℕ → List (List Item)
lines_of graph zero = (item.Empty ∷ []) ∷ []
lines_of graph (suc node) = (box_of_graph graph (suc node)).lines

abbrev pub targets_of : Graph → ℕ → List ℕ
targets_of graph node = (box_of_graph graph node).targets

-- a path goes on through the box, which isn't the end, by a line with these signs
pub record IsThrough (graph : Graph) (node : ℕ) (signs : List Sign) : Type 0 where
  pub before_end : node ≢ 1
  pub line : List Item
  pub of_box : Contains (lines_of graph node) line
  pub spelled : IsSpelled line signs

-- a path of boxes leads from box 0 to before the box; the word has the signs along it, of one line
-- chosen for each box that it went through
pub data Leads (graph : Graph) : ℕ → List Sign → Type 0 where
  start : Leads graph 0 []
  on : {a b : ℕ} {before signs : List Sign} → Leads graph a before → IsThrough graph a signs →
      Contains (targets_of graph a) b → Leads graph b (before ++ signs)

-- the graph has the pair of words under the mark: a path from box 0 to box 1 spells it
abbrev pub IsPairOf : Graph → (mark : Sign) → (left right : List Test) → Type 0
IsPairOf graph mark left right = Leads graph 1 (pair_word mark left right)
