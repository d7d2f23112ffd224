-- What is printed for the bounds of variables and contexts, and for a cut, is a line of its item.
use Rattle.std.proofs.Common.{arith, ◌≡◌, ℕ, suc, ◌-◌, List, [], ◌∷◌, ◌++◌, Bool, true, false, length, length-append, take, drop, refl, sym, ◌∙◌, ap, subst, Some, None}
use Rattle.std.specs.Prelude.{◌==◌, ◌||◌, if◌then◌else◌, nat_eq, nat_lt, not, slice_index, codes}
use Rattle.std.specs.List.{list_all}
use Rattle.std.proofs.lemmas.Bool.{and_parts, false≢true, or_from, or_left, or_right}
use Rattle.std.proofs.Math.Seq.{get_or-append_seam, take-append_seam}
use Rattle.std.proofs.lemmas.List.{drop_at}
use Rattle.ux_grf.specs.declared.graph.GraphKind.TheVariants.{Plain}
use Rattle.ux_grf.specs.declared.item.Item.{Item}
use Rattle.ux_grf.specs.declared.item.Item.TheVariants.{Begin, End, Positive, Negative, ContextEnd, Cut}
use Rattle.ux_grf.specs.declared.words.Gap.TheVariants.{Blanks}
use Rattle.ux_grf.specs.Items.{PLUS, SLASH}
use Rattle.ux_grf.specs.Lines.{BAR, DOLLAR, IsLine, after_line, bound_item, bound_of, dollar_item, is_bound_name, is_name, is_name_byte, line_end, marked_item, of_mark, own_text, put_front, without_back}
use Rattle.ux_grf.specs.Words.{is_gap}
use Rattle.ux_fst2.proofs.ItemLines.{IsTail, an_output, nothing, unlike}

-- no `+` and no `/` stands in a text, nor at its end
line_end-tail : (text after : List ℕ) → IsTail after → line_end text ≡ length text →
    line_end (text ++ after) ≡ length text
line_end-tail [] after nothing is = refl
line_end-tail [] after (an_output output) is = refl
line_end-tail (b ∷ text) after tail is =
    by (b == PLUS || b == SLASH) refl (line_end-tail text after tail)
  where
    by : (q : Bool) → (b == PLUS || b == SLASH) ≡ q →
        (line_end text ≡ length text → line_end (text ++ after) ≡ length text) →
        line_end (b ∷ (text ++ after)) ≡ suc (length text)
    by true here later =
        let none : 0 ≡ suc (length text) =
        sym (ap (λ (q : Bool). if q then 0 else suc (line_end text)) here) ∙ is in
        omega (arith, none)
    by false here later =
        let more : suc (line_end text) ≡ suc (length text) =
        sym (ap (λ (q : Bool). if q then 0 else suc (line_end text)) here) ∙ is in
        let same : line_end text ≡ length text = omega (arith, more) in
        ap (λ (q : Bool). if q then 0 else suc (line_end (text ++ after))) here
        ∙ ap suc (later same)

-- the one item of a line that a dollar marks
dollar_line : (text after : List ℕ) (item : Item) → IsTail after → line_end text ≡ length text →
    dollar_item Plain (without_back text) ≡ Some item →
    IsLine Plain (DOLLAR ∷ (text ++ after)) (item ∷ []) after
dollar_line text after item tail within is =
    let whole = DOLLAR ∷ (text ++ after) in
    let end = line_end-tail text after tail within in
    let own : own_text whole ≡ DOLLAR ∷ text =
    ap (λ (n : ℕ). DOLLAR ∷ take n (text ++ after)) end
    ∙ ap (λ (t : List ℕ). DOLLAR ∷ t) (take-append_seam text after) in
    let left : after_line whole ≡ after =
    ap (λ (n : ℕ). drop n (text ++ after)) end ∙ drop_at text after (length text) refl in
    subst (λ (t : List ℕ). IsLine Plain whole (item ∷ []) t) left
    (of_mark {text = whole} refl (ap (marked_item Plain) own ∙ is))

pub positive_line : (after : List ℕ) → IsTail after →
    IsLine Plain (codes "$[" ++ after) (Positive ∷ []) after
positive_line after tail = dollar_line (codes "[") after Positive tail refl refl

pub negative_line : (after : List ℕ) → IsTail after →
    IsLine Plain (codes "$![" ++ after) (Negative ∷ []) after
negative_line after tail = dollar_line (codes "![") after Negative tail refl refl

pub context_end_line : (after : List ℕ) → IsTail after →
    IsLine Plain (codes "$]" ++ after) (ContextEnd ∷ []) after
context_end_line after tail = dollar_line (codes "]") after ContextEnd tail refl refl

pub cut_line : (after : List ℕ) → IsTail after →
    IsLine Plain (codes "$*" ++ after) (Cut ∷ []) after
cut_line after tail = dollar_line (codes "*") after Cut tail refl refl

-- a byte with which the name of a bound may begin
abbrev begins_bound : ℕ → Bool
begins_bound b = is_name_byte b || b == BAR

-- the name of a bound begins so, and names alone follow
record IsBound (name : List ℕ) : Type 0 where
  first : ℕ
  rest : List ℕ
  is : name ≡ first ∷ rest
  begins : begins_bound first ≡ true
  follow : list_all is_name_byte rest ≡ true

bound_is : (name : List ℕ) → is_bound_name name ≡ true → IsBound name
bound_is [] is = absurd (false≢true is)
bound_is (b ∷ name) is = by (b == BAR) refl
  where
    by : (q : Bool) → (b == BAR) ≡ q → IsBound (b ∷ name)
    by true bar =
        let named : is_name name ≡ true =
        sym (ap (λ (q : Bool). is_name (if q then name else b ∷ name)) bar) ∙ is in
        record {
          first = b;
          rest = name;
          is = refl;
          begins = or_right (is_name_byte b) (b == BAR) bar;
          follow = (and_parts (nat_lt 0 (length name)) (list_all is_name_byte name) named).1;
        }
    by false bar =
        let named : is_name (b ∷ name) ≡ true =
        sym (ap (λ (q : Bool). is_name (if q then name else b ∷ name)) bar) ∙ is in
        let all = (and_parts (nat_lt 0 (length (b ∷ name))) (list_all is_name_byte (b ∷ name)) named).1 in
        let both = and_parts (is_name_byte b) (list_all is_name_byte name) all in
        record {
          first = b;
          rest = name;
          is = refl;
          begins = or_left (is_name_byte b) (b == BAR) both.0;
          follow = both.1;
        }

-- the sign behind the name of a bound: `(` or `)`
record IsBoundSign (sign : ℕ) : Type 0 where
  plus : (sign == PLUS || sign == SLASH) ≡ false
  gap : is_gap Blanks sign ≡ false

-- no `+` and no `/` is in it
names_end : (name : List ℕ) (sign : ℕ) → IsBoundSign sign → list_all is_name_byte name ≡ true →
    line_end (name ++ sign ∷ []) ≡ length (name ++ sign ∷ [])
names_end [] sign is all = ap (λ (q : Bool). if q then 0 else 1) is.plus
names_end (b ∷ name) sign is all =
    let both = and_parts (is_name_byte b) (list_all is_name_byte name) all in
    let other : (b == PLUS || b == SLASH) ≡ false =
    or_from (b == PLUS) (b == SLASH)
    (unlike is_name_byte true b PLUS both.0 (λ e. false≢true e))
    (unlike is_name_byte true b SLASH both.0 (λ e. false≢true e)) in
    ap (λ (q : Bool). if q then 0 else suc (line_end (name ++ sign ∷ []))) other
    ∙ ap suc (names_end name sign is both.1)

bound_unlike : (b c : ℕ) → begins_bound b ≡ true → begins_bound c ≡ false → (b == c) ≡ false
bound_unlike b c is other =
    unlike begins_bound true b c is (λ e. false≢true (sym other ∙ e))

-- nothing is taken off its end
back_kept : (text : List ℕ) (sign : ℕ) → is_gap Blanks sign ≡ false →
    without_back (text ++ sign ∷ []) ≡ text ++ sign ∷ []
back_kept [] sign solid = ap (λ (q : Bool). if q then [] else sign ∷ []) solid
back_kept (b ∷ text) sign solid =
    ap (put_front b) (back_kept text sign solid) ∙ kept text
  where
    kept : (text : List ℕ) → put_front b (text ++ sign ∷ []) ≡ b ∷ (text ++ sign ∷ [])
    kept [] = refl
    kept (c ∷ text) = refl

module _ (name : List ℕ) (sign : ℕ) (is : is_bound_name name ≡ true) (ends : IsBoundSign sign) where
  abbrev Bound : List ℕ
  Bound = name ++ sign ∷ []

  bound_end : line_end Bound ≡ length Bound
  bound_end =
      let bound = bound_is name is in
      let other : (bound.first == PLUS || bound.first == SLASH) ≡ false =
      or_from (bound.first == PLUS) (bound.first == SLASH)
      (bound_unlike bound.first PLUS bound.begins refl)
      (bound_unlike bound.first SLASH bound.begins refl) in
      let text = bound.rest ++ sign ∷ [] in
      subst (λ (t : List ℕ). line_end (t ++ sign ∷ []) ≡ length (t ++ sign ∷ [])) (sym bound.is)
      (ap (λ (q : Bool). if q then 0 else suc (line_end text)) other
      ∙ ap suc (names_end bound.rest sign ends bound.follow))

  bound_first : (b : ℕ) (rest : List ℕ) → begins_bound b ≡ true →
      dollar_item Plain (b ∷ rest) ≡ bound_item Plain (b ∷ rest)
  bound_first b rest begins =
      let off : (c : ℕ) → begins_bound c ≡ false → nat_eq b c ≡ false =
      λ c other. bound_unlike b c begins other in
      rw (off 91 refl, off 33 refl, off 93 refl, off 42 refl) refl

  bound_whole : bound_item Plain Bound ≡ bound_of name sign
  bound_whole =
      let many : length Bound - 1 ≡ length name =
      omega (arith, length-append name (sign ∷ [])) in
      ap (λ (n : ℕ). bound_of (take n Bound) (slice_index Bound n)) many
      ∙ ap (λ (t : List ℕ). bound_of t (slice_index Bound (length name)))
      (take-append_seam name (sign ∷ []))
      ∙ ap (bound_of name) (get_or-append_seam name sign [] 0)

  bound_dollar : dollar_item Plain Bound ≡ bound_of name sign
  bound_dollar =
      let bound = bound_is name is in
      subst (λ (t : List ℕ). dollar_item Plain (t ++ sign ∷ []) ≡ bound_item Plain (t ++ sign ∷ []))
      (sym bound.is) (bound_first bound.first (bound.rest ++ sign ∷ []) bound.begins)
      ∙ bound_whole

  bound_line : (after : List ℕ) (item : Item) → IsTail after → bound_of name sign ≡ Some item →
      IsLine Plain (DOLLAR ∷ (Bound ++ after)) (item ∷ []) after
  bound_line after item tail says =
      dollar_line Bound after item tail bound_end
      (ap (dollar_item Plain) (back_kept name sign ends.gap) ∙ bound_dollar ∙ says)

pub begin_line : (name after : List ℕ) → IsTail after → is_bound_name name ≡ true →
    IsLine Plain ((codes "$" ++ (name ++ codes "(")) ++ after) (Begin name ∷ []) after
begin_line name after tail is =
    bound_line name 40 is (record { plus = refl; gap = refl }) after (Begin name) tail
    (ap (λ (q : Bool). if not q then None else Some (Begin name)) is)

pub end_line : (name after : List ℕ) → IsTail after → is_bound_name name ≡ true →
    IsLine Plain ((codes "$" ++ (name ++ codes ")")) ++ after) (End name ∷ []) after
end_line name after tail is =
    bound_line name 41 is (record { plus = refl; gap = refl }) after (End name) tail
    (ap (λ (q : Bool). if not q then None else Some (End name)) is)
