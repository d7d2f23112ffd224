-- What stands in a box: the lines and the output that its content writes, and where a content is
-- refused. Public: the crate's public contracts speak of it.
use Rattle.std.specs.Prelude.{◌≡◌, ℕ, ◌++◌, Bool, true, false, ◌&&◌, ◌⊎◌, nat_lt, List, [], ◌∷◌, length, None}
use Rattle.std.specs.Str.{chars}
use Rattle.ux_grf.specs.declared.graph.GraphKind.{GraphKind}
use Rattle.ux_grf.specs.declared.item.Item.{Item}
use Rattle.ux_grf.specs.declared.content.Content.{Content}
use Rattle.ux_grf.specs.declared.line.Fault.{Fault}
use Rattle.ux_grf.specs.declared.line.Fault.TheVariants.{At, NoRoom}
use Rattle.ux_grf.specs.declared.error.GrfError.{GrfError}
use Rattle.ux_grf.specs.declared.error.GrfError.TheVariants.{NoHeader, BadCount, BadBoxLine, BadTarget, BadContent, NoMemory}
use Rattle.ux_grf.specs.declared.graph.GrfBox.{GrfBox}
use Rattle.ux_grf.specs.declared.protection.Layer.TheVariants.{File}
use Rattle.ux_grf.specs.Protection.{BACKSLASH, ends_open, resolved}
use Rattle.ux_grf.specs.BoxLine.{BoxText}
use Rattle.ux_grf.specs.Items.{Fails}
use Rattle.ux_grf.specs.Lines.{marked_item, own_text, IsBadLine, AreLines, IsBadIn}
use Rattle.ux_grf.specs.Output.{IsOutput}

-- the content writes these lines, and after its first free `/` this output
pub record IsContent (kind : GraphKind) (content : List ℕ) (read : Content) : Type 0 where
  pub written : List ℕ
  pub lines : AreLines kind content read.lines written
  pub closed : ends_open false written ≡ false
  pub output : IsOutput written read.output

-- the lines are good, and a backslash ends the output
pub record HasOpenOutput (kind : GraphKind) (content left : List ℕ) : Type 0 where
  pub lines : List (List Item)
  pub written : List ℕ
  pub good : AreLines kind content lines written
  pub opened : ends_open false written ≡ true
  pub here : left ≡ BACKSLASH ∷ []

-- what stands from the first fault of a content on
abbrev pub IsFault : GraphKind → (content left : List ℕ) → Type 0
IsFault kind content left = IsBadIn kind content left ⊎ HasOpenOutput kind content left

-- a content has its first fault here: after so many characters
pub record IsBadAt (kind : GraphKind) (content : List ℕ) (place : ℕ) : Type 0 where
  pub front : List ℕ
  pub left : List ℕ
  pub whole : content ≡ front ++ left
  pub fault : IsFault kind content left
  pub count : place ≡ length (chars front)

-- the content has no other reading, and no fault
pub record IsOnly (kind : GraphKind) (content : List ℕ) (read : Content) : Type 0 where
  pub one : (other : Content) → IsContent kind content other →
      (read.lines ≡ other.lines) × (read.output ≡ other.output)
  pub good : (left : List ℕ) → IsFault kind content left → ⊥

-- this stands at the content's end
abbrev pub IsEndOf : (content left : List ℕ) → Type 0
IsEndOf content left = (front : List ℕ) × (content ≡ front ++ left)

-- why the content of a box is refused
abbrev pub RefusesContent : GraphKind → ℕ → List ℕ → GrfError → Type 0
RefusesContent kind node content NoHeader = ⊥
RefusesContent kind node content BadCount = ⊥
RefusesContent kind node content (BadBoxLine n) = ⊥
RefusesContent kind node content (BadTarget n) = ⊥
RefusesContent kind node content (BadContent n place) = (n ≡ node) × IsBadAt kind content place
RefusesContent kind node content NoMemory = Unit {0}

-- why reading ends early: at the items of a line, at a line, at the lines and at the content
abbrev pub StopsItems : List ℕ → Fault → Type 0
StopsItems text (At left) = Fails text left.now
StopsItems text NoRoom = Unit {0}

abbrev pub StopsMark : GraphKind → List ℕ → Fault → Type 0
StopsMark kind text (At left) = (left.now ≡ text) × (marked_item kind (own_text text) ≡ None)
StopsMark kind text NoRoom = Unit {0}

abbrev pub StopsLine : GraphKind → List ℕ → Fault → Type 0
StopsLine kind text (At left) = IsBadLine kind text left.now
StopsLine kind text NoRoom = Unit {0}

abbrev pub StopsLines : GraphKind → List ℕ → Fault → Type 0
StopsLines kind text (At left) = IsBadIn kind text left.now
StopsLines kind text NoRoom = Unit {0}

abbrev pub StopsContent : GraphKind → List ℕ → Fault → Type 0
StopsContent kind text (At left) = IsFault kind text left.now
StopsContent kind text NoRoom = Unit {0}

-- the content of a box, without the backslashes that the file needs
abbrev pub content_of : BoxText → List ℕ
content_of text = resolved File false text.content

-- the contents of the start, of the end and of boxes that aren't reached are not read
abbrev pub is_read : ℕ → Bool → Bool
is_read node reached = reached && nat_lt 1 node

-- what the text of a box draws: its targets, and where its content is read, the lines and the output
-- that this writes
pub record IsBoxOf (kind : GraphKind) (text : BoxText) (node : ℕ) (b : GrfBox) : Type 0 where
  pub targets : b.targets ≡ text.targets
  pub read : is_read node b.reached ≡ true →
      IsContent kind (content_of text) (record { lines = b.lines; output = b.output })
  pub bare : is_read node b.reached ≡ false → (b.lines ≡ []) × (b.output ≡ [])

-- the box is made of its text and the mark that tells whether it is reached
pub record IsMade (kind : GraphKind) (text : BoxText) (node : ℕ) (mark : Bool) (b : GrfBox) :
    Type 0 where
  pub marked : b.reached ≡ mark
  pub box : IsBoxOf kind text node b

-- why no box is made of its text
abbrev pub RefusesRead : GraphKind → BoxText → ℕ → Bool → GrfError → Type 0
RefusesRead kind text node mark NoHeader = ⊥
RefusesRead kind text node mark BadCount = ⊥
RefusesRead kind text node mark (BadBoxLine n) = ⊥
RefusesRead kind text node mark (BadTarget n) = ⊥
RefusesRead kind text node mark (BadContent n place) =
    (n ≡ node) × (is_read node mark ≡ true) × IsBadAt kind (content_of text) place
RefusesRead kind text node mark NoMemory = Unit {0}
