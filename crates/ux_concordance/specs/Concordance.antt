-- The concordance of hits: a line for each hit, with what stands around it, in an order. The manual, on
-- concordances; the layout is this program's own. Public: the crate's public contracts speak of it.
use Rattle.std.specs.Prelude.{◌≡◌, ℕ, ◌+◌, ◌-◌, ◌<◌, List, [], ◌++◌, All, Some, codes, length, map, replicate, reverse, chars, take, drop, slice_get}
use Rattle.std.specs.List.{flat_map}
use Rattle.std.specs.List.Sorted.{IsPermutation}
use Rattle.std.specs.Ordering.{nat_cmp, ordering_then}
use Rattle.std.specs.Cmp.Lexicographic.{slice_cmp}
use Rattle.std.specs.declared.cmp.Ordering.{Ordering}
use Rattle.std.specs.declared.cmp.Ordering.TheVariants.{Less}
use Rattle.ux_base.specs.declared.settings.Sort.{Sort}
use Rattle.ux_base.specs.declared.settings.Sort.TheVariants.{TO, LC, LR, CL, CR, RL, RC}
use Rattle.ux_tokens.specs.Tokens.{Token, SPACE, joined}
use Rattle.ux_outputs.specs.declared.hit.Hit.{Hit}
use Rattle.ux_concordance.specs.Contexts.{IsLeftContext, IsRightContext}
use Rattle.ux_concordance.specs.Widths.{width}

-- the hit's tokens are tokens of the text
pub record LiesIn (tokens : List Token) (hit : Hit) : Type 0 where
  pub first : hit.first < length tokens
  pub last : hit.last < length tokens

-- a hit and what stands around it
pub record Line : Type 0 where
  pub hit : Hit
  pub left : List ℕ
  pub right : List ℕ

-- what stands around the hit is the text before its first token and behind its last, as far as the
-- columns go
pub record IsInContext (tokens : List Token) (left_columns right_columns : ℕ) (line : Line) : Type 0
  where
    pub left : IsLeftContext left_columns (joined (take line.hit.first tokens)) line.left
    pub right : IsRightContext right_columns (joined (drop (line.hit.last + 1) tokens)) line.right

-- L: the characters of the left context, from the last to the first
abbrev pub left_key : Line → List ℕ
left_key line = reverse (chars line.left)

-- C: the characters of the hit's text
abbrev pub text_key : Line → List ℕ
text_key line = chars line.hit.text

-- R: the characters of the right context
abbrev pub right_key : Line → List ℕ
right_key line = chars line.right

-- by what lines are sorted first, and then; by nothing where they go by place alone
abbrev pub keys : Sort → Line → List ℕ × List ℕ
keys TO line = ([], [])
keys LC line = (left_key line, text_key line)
keys LR line = (left_key line, right_key line)
keys CL line = (text_key line, left_key line)
keys CR line = (text_key line, right_key line)
keys RL line = (right_key line, left_key line)
keys RC line = (right_key line, text_key line)

-- hits by place: by first token, then by last token, then by the bytes of the text
abbrev pub place_cmp : Hit → Hit → Ordering
place_cmp a b = ordering_then (nat_cmp a.first b.first)
    (ordering_then (nat_cmp a.last b.last) (slice_cmp nat_cmp a.text b.text))

-- lines by their keys, each by code points, and where both are equal by place
abbrev pub line_cmp : Sort → Line → Line → Ordering
line_cmp sort a b = ordering_then (slice_cmp nat_cmp (keys sort a).0 (keys sort b).0)
    (ordering_then (slice_cmp nat_cmp (keys sort a).1 (keys sort b).1) (place_cmp a.hit b.hit))

-- a line as it is written: spaces that fill the left columns, the left context, the hit's text, the
-- right context, with tabs between
abbrev pub written : (left_columns : ℕ) → Line → List ℕ
written left_columns line =
    replicate (left_columns - width line.left) SPACE ++ line.left ++ codes "\t" ++ line.hit.text
    ++ codes "\t" ++ line.right ++ codes "\n"

-- The text is the concordance of the hits: a line for each, in context and in order. Hits of which
-- neither stands before the other are equal.
pub record IsConcordance (tokens : List Token) (left_columns right_columns : ℕ) (sort : Sort)
    (hits : List Hit) (text : List ℕ) : Type 0 where
  pub lines : List Line
  pub each : IsPermutation hits (map (λ line. line.hit) lines)
  pub contexts : All (IsInContext tokens left_columns right_columns) lines
  pub ordered : (k : ℕ) (a b : Line) → slice_get lines k ≡ Some a →
      slice_get lines (k + 1) ≡ Some b → line_cmp sort b a ≡ Less → ⊥
  pub is : text ≡ flat_map (written left_columns) lines
