-- The definitions tried on small rules, by hand.
use Rattle.std.proofs.Common.{arith, ◌≡◌, ℕ, List, [], ◌∷◌, inl, refl, sym, append-nil, subst, true}
use Rattle.std.specs.Prelude.{codes}
use Rattle.ux_grf.specs.declared.graph.Graph.{Graph}
use Rattle.ux_grf.specs.declared.graph.GrfBox.{GrfBox}
use Rattle.ux_grf.specs.declared.item.Item.{Item}
use Rattle.ux_grf.specs.declared.item.Item.TheVariants as item
use Rattle.ux_sentence.specs.declared.sentence.Reading.{Reading}
use Rattle.ux_rules.specs.declared.step.Sign.TheVariants.{If, Read}
use Rattle.ux_rules.specs.declared.test.Test.{Test}
use Rattle.ux_rules.specs.declared.test.Test.TheVariants.{Form, Any}
use Rattle.ux_rules.specs.Marks.{IsBadBox}
use Rattle.ux_rules.specs.Runs.{pair_word, Matches, Satisfies}
use Rattle.ux_rules.specs.Words.{IsThrough, Leads, start, on, IsPairOf}

abbrev a_box : List (List Item) → List ℕ → GrfBox
a_box lines targets = record { reached = true; lines = lines; output = []; targets = targets }

abbrev if_line : List Item
if_line = item.Mask (codes "!") ∷ []

-- a left and a right word may be empty
empty_sides : pair_word If [] [] ≡ If ∷ If ∷ If ∷ []
empty_sides = refl

-- `<!>`, then any number of `a`, then `<!>` and `<!>`
abbrev looped : Graph
looped = record {
  boxes =
      a_box [] (2 ∷ [])
      ∷ a_box [] []
      ∷ a_box (if_line ∷ []) (3 ∷ 4 ∷ [])
      ∷ a_box ((item.Literal (codes "a") ∷ []) ∷ []) (3 ∷ 4 ∷ [])
      ∷ a_box (if_line ∷ []) (5 ∷ [])
      ∷ a_box (if_line ∷ []) (1 ∷ []) ∷ [];
}

abbrev an_a : Test
an_a = Form (codes "a")

at_start : (graph : Graph) → IsThrough graph 0 []
at_start graph = record {
  before_end = λ e. absurd (omega (arith, e));
  line = item.Empty ∷ [];
  of_box = (0, omega arith, refl);
  spelled = ([], [], refl, refl, refl);
}

at_mark : IsThrough looped 2 (If ∷ [])
at_mark = record {
  before_end = λ e. absurd (omega (arith, e));
  line = if_line;
  of_box = (0, omega arith, refl);
  spelled = refl;
}

at_a : IsThrough looped 3 (Read an_a ∷ [])
at_a = record {
  before_end = λ e. absurd (omega (arith, e));
  line = item.Literal (codes "a") ∷ [];
  of_box = (0, omega arith, refl);
  spelled = (Read an_a ∷ [], [], (an_a, refl, refl), refl, refl);
}

at_second : IsThrough looped 4 (If ∷ [])
at_second = record {
  before_end = λ e. absurd (omega (arith, e));
  line = if_line;
  of_box = (0, omega arith, refl);
  spelled = refl;
}

at_third : IsThrough looped 5 (If ∷ [])
at_third = record {
  before_end = λ e. absurd (omega (arith, e));
  line = if_line;
  of_box = (0, omega arith, refl);
  spelled = refl;
}

before_mark : Leads looped 2 []
before_mark = on start (at_start looped) (0, omega arith, refl)

-- without an `a`
no_a : IsPairOf looped If [] []
no_a = on (on (on before_mark at_mark (1, omega arith, refl)) at_second (0, omega arith, refl))
    at_third (0, omega arith, refl)

-- with two
two_a : IsPairOf looped If (an_a ∷ an_a ∷ []) []
two_a = on (on (on (on (on before_mark at_mark (0, omega arith, refl)) at_a (0, omega arith, refl))
    at_a (1, omega arith, refl)) at_second (0, omega arith, refl)) at_third (0, omega arith, refl)

-- `a` alone
abbrev unmarked : Graph
unmarked = record {
  boxes =
      a_box [] (2 ∷ []) ∷ a_box [] [] ∷ a_box ((item.Literal (codes "a") ∷ []) ∷ []) (1 ∷ []) ∷ [];
}

-- the end is met before a third mark, and the item before the first
end_is_bad : IsBadBox unmarked 1
end_is_bad = record {
  before = Read an_a ∷ [];
  leads = on (on start (at_start unmarked) (0, omega arith, refl)) (record {
    before_end = λ e. absurd (omega (arith, e));
    line = item.Literal (codes "a") ∷ [];
    of_box = (0, omega arith, refl);
    spelled = (Read an_a ∷ [], [], (an_a, refl, refl), refl, refl);
  }) (0, omega arith, refl);
  bad = inl (refl, omega arith);
}

abbrev IfBefore : Test → List Test → List Test → Type 0
IfBefore test left right = (left ≡ test ∷ []) × (right ≡ Any ∷ [])

abbrev ThenBefore : List Test → List Test → Type 0
ThenBefore left right = (left ≡ []) × (right ≡ Any ∷ [])

-- `<!> <N> <!> <TOKEN> <!>` or `<=> <=> <TOKEN> <=>` removes nothing, whatever `<N>` asks: where a
-- reading follows, one follows
removes_nothing : (test : Test) (readings : List Reading) →
    Satisfies (IfBefore test) ThenBefore readings
removes_nothing test readings before after is found = record {
  left = [];
  right = Any ∷ [];
  pair = (refl, refl);
  head = before;
  here = [];
  ends_here = sym (append-nil before);
  matches_left = tt;
  there = found.there;
  tail = found.tail;
  begins_here = found.begins_here;
  matches_right = subst (λ (tests : List Test). Matches tests found.there) found.pair.1
      found.matches_right;
}
