-- Where no box is bad, each word of the graph is a pair's.
use Rattle.std.proofs.Common.{arith, ◌≡◌, ℕ, inl, inr, List, [], ◌∷◌, ◌++◌, Bool, true, false, refl, sym, ap, ◌∙◌, append-nil, append_assoc, subst, map, Some, None}
use Rattle.std.specs.Prelude.{Contains, Option, codes}
use Rattle.std.specs.Str.{bytes_eq}
use Rattle.std.proofs.lemmas.List.{map-append}
use Rattle.std.proofs.lemmas.Option.{same_Some}
use Rattle.ux_base.proofs.Lists.{contains_first}
use Rattle.ux_grf.specs.declared.graph.Graph.{Graph}
use Rattle.ux_grf.specs.declared.item.Item.{Item}
use Rattle.ux_grf.specs.declared.item.Item.TheVariants as item
use Rattle.ux_rules.specs.declared.step.Sign.{Sign}
use Rattle.ux_rules.specs.declared.step.Sign.TheVariants.{Free, If, Then, Read}
use Rattle.ux_rules.specs.declared.test.Test.{Test}
use Rattle.ux_rules.specs.Drafts.{said_by}
use Rattle.ux_rules.specs.Marks.{marks, IsBadMark, IsBadBehind, IsBadBox}
use Rattle.ux_rules.specs.Phases.{phase_of}
use Rattle.ux_rules.specs.Refusing.{HasIf, IsNowhere}
use Rattle.ux_rules.specs.Runs.{pair_word}
use Rattle.ux_rules.specs.Words.{IsSaid, AreSaid, IsSpelledBy, IsThrough, Leads, start, on, mark_of}
use Rattle.ux_rules.proofs.PhaseLemmas.{marks_append}

-- a mark
pub data IsMark : Sign → Type 0 where
  an_if : IsMark If
  a_then : IsMark Then

mark_in_text : (text : List ℕ) (first second : Bool) (sign : Sign) →
    first ≡ bytes_eq text (codes "!") → second ≡ bytes_eq text (codes "=") →
    mark_of (item.Mask text ∷ []) ≡ Some sign → IsMark sign
mark_in_text text true second sign is_first is_second e =
    subst IsMark (same_Some If sign (rw (← is_first) at e)) an_if
mark_in_text text false true sign is_first is_second e =
    subst IsMark (same_Some Then sign (rw (← is_first, ← is_second) at e)) a_then
mark_in_text text false false sign is_first is_second e =
    absurd (let none : None ≡ Some sign = rw (← is_first, ← is_second) at e in cc)

-- what stands alone as a mark is one
pub mark_is : (line : List Item) (sign : Sign) → mark_of line ≡ Some sign → IsMark sign
mark_is [] sign e = cc
mark_is (item.Mask text ∷ []) sign e =
    mark_in_text text (bytes_eq text (codes "!")) (bytes_eq text (codes "=")) sign refl refl e
mark_is (item.Mask text ∷ y ∷ line) sign e = cc
mark_is (item.Literal text ∷ line) sign e = cc
mark_is (item.Quoted text ∷ line) sign e = cc
mark_is (item.Brace text ∷ line) sign e = cc
mark_is (item.NoSpace ∷ line) sign e = cc
mark_is (item.Empty ∷ line) sign e = cc
mark_is (item.Call text ∷ line) sign e = cc
mark_is (item.Begin text ∷ line) sign e = cc
mark_is (item.End text ∷ line) sign e = cc
mark_is (item.Positive ∷ line) sign e = cc
mark_is (item.Negative ∷ line) sign e = cc
mark_is (item.ContextEnd ∷ line) sign e = cc
mark_is (item.Cut ∷ line) sign e = cc

-- the signs of an item are tests
item_reads : (it : Item) (signs : List Sign) → IsSaid it signs →
    (tests : List Test) × (signs ≡ map Read tests)
item_reads item.Empty signs e = ([], e)
item_reads (item.Literal text) signs (test, is, e) = (test ∷ [], e)
item_reads (item.Quoted text) signs (test, is, e) = (test ∷ [], e)
item_reads (item.Mask text) signs (test, is, e) = (test ∷ [], e)
item_reads (item.Brace text) signs (test, is, e) = absurd is
item_reads item.NoSpace signs (test, is, e) = absurd is
item_reads (item.Call text) signs (test, is, e) = absurd is
item_reads (item.Begin text) signs (test, is, e) = absurd is
item_reads (item.End text) signs (test, is, e) = absurd is
item_reads item.Positive signs (test, is, e) = absurd is
item_reads item.Negative signs (test, is, e) = absurd is
item_reads item.ContextEnd signs (test, is, e) = absurd is
item_reads item.Cut signs (test, is, e) = absurd is

-- those of items too
pub items_read : (items : List Item) (signs : List Sign) → AreSaid items signs →
    (tests : List Test) × (signs ≡ map Read tests)
items_read [] signs e = ([], e)
items_read (it ∷ items) signs (front, back, first, rest, e) =
    let a = item_reads it front first in
    let b = items_read items back rest in (
      a.0 ++ b.0,
      e ∙ (ap (λ (x : List Sign). x ++ back) a.1
          ∙ (ap (λ (x : List Sign). map Read a.0 ++ x) b.1 ∙ sym (map-append Read a.0 b.0))),
    )

-- a path goes through a box by a mark or by tests
pub data IsPassed : List Sign → Type 0 where
  by_mark : {mark : Sign} → IsMark mark → IsPassed (mark ∷ [])
  by_tests : (tests : List Test) → IsPassed (map Read tests)

spelled_passed : (line : List Item) (signs : List Sign) (mark : Option Sign) →
    mark_of line ≡ mark → IsSpelledBy mark line signs → IsPassed signs
spelled_passed line signs None is says =
    let r = items_read line signs says in subst IsPassed (sym r.1) (by_tests r.0)
spelled_passed line signs (Some mark) is says =
    subst IsPassed (sym says) (by_mark (mark_is line mark is))

pub through_passed : (graph : Graph) (node : ℕ) (signs : List Sign) → IsThrough graph node signs →
    IsPassed signs
through_passed graph node signs through =
    spelled_passed through.line signs (mark_of through.line) refl through.spelled

-- the marks that are met, and the word that has them
pub data IsShape : List Sign → List Sign → Type 0 where
  no_word : IsShape [] []
  left_word : (mark : Sign) → IsMark mark → (left : List Test) →
      IsShape (mark ∷ []) (mark ∷ map Read left)
  both_words : (mark : Sign) → IsMark mark → (left right : List Test) →
      IsShape (mark ∷ mark ∷ []) ((mark ∷ map Read left) ++ mark ∷ map Read right)
  whole_word : (mark : Sign) → IsMark mark → (left right : List Test) →
      IsShape (mark ∷ mark ∷ mark ∷ []) (pair_word mark left right)

-- the mark is the first, where another is bad
same_mark : (first mark : Sign) → IsMark first → IsMark mark → (met : List Sign) →
    (IsBadMark (first ∷ met) mark → ⊥) → first ≡ mark
same_mark If If an_if an_if met good = refl
same_mark If Then an_if a_then met good = absurd (good (inr (If, refl, λ e. cc)))
same_mark Then If a_then an_if met good = absurd (good (inr (Then, refl, λ e. cc)))
same_mark Then Then a_then a_then met good = refl
same_mark Free mark is_first is met good = elim is_first [ ]
same_mark If Free is_first is met good = elim is [ ]
same_mark If (Read t) is_first is met good = elim is [ ]
same_mark Then Free is_first is met good = elim is [ ]
same_mark Then (Read t) is_first is met good = elim is [ ]
same_mark (Read t) mark is_first is met good = elim is_first [ ]

mark_bad : (met : List Sign) (mark : Sign) → IsMark mark → IsBadMark met mark →
    IsBadBehind met mark
mark_bad met If an_if bad = bad
mark_bad met Then a_then bad = bad
mark_bad met Free is bad = elim is [ ]
mark_bad met (Read t) is bad = elim is [ ]

-- one mark more
shape_mark : (met word : List Sign) (mark : Sign) → IsShape met word → IsMark mark →
    (IsBadMark met mark → ⊥) → IsShape (met ++ mark ∷ []) (word ++ mark ∷ [])
shape_mark [] [] mark no_word is good = left_word mark is []
shape_mark met word mark (left_word first is_first left) is good =
    subst (λ (m : Sign). IsShape (first ∷ m ∷ []) ((first ∷ map Read left) ++ m ∷ []))
    (same_mark first mark is_first is [] good) (both_words first is_first left [])
shape_mark met word mark (both_words first is_first left right) is good =
    subst (λ (m : Sign). IsShape (first ∷ first ∷ m ∷ [])
    (((first ∷ map Read left) ++ first ∷ map Read right) ++ m ∷ []))
    (same_mark first mark is_first is (first ∷ []) good)
    (subst (λ (w : List Sign). IsShape (first ∷ first ∷ first ∷ []) w)
    (sym (append_assoc (first ∷ map Read left) (first ∷ map Read right) (first ∷ [])))
    (whole_word first is_first left right))
shape_mark met word mark (whole_word first is_first left right) is good = absurd (good (inl refl))

-- more tests
shape_tests : (met word : List Sign) (tests : List Test) → IsShape met word →
    ((test : Test) → Contains (map Read tests) (Read test) → IsBadBehind met (Read test) → ⊥) →
    IsShape met (word ++ map Read tests)
shape_tests met word [] shape good =
    subst (λ (w : List Sign). IsShape met w) (sym (append-nil word)) shape
shape_tests [] [] (test ∷ tests) no_word good =
    absurd (good test (contains_first (Read test) (map Read tests)) (inl refl))
shape_tests met word (test ∷ tests) (left_word mark is left) good =
    subst (λ (w : List Sign). IsShape (mark ∷ []) (mark ∷ w))
    (map-append Read left (test ∷ tests)) (left_word mark is (left ++ test ∷ tests))
shape_tests met word (test ∷ tests) (both_words mark is left right) good =
    subst (λ (w : List Sign). IsShape (mark ∷ mark ∷ []) w)
    (ap (λ (w : List Sign). (mark ∷ map Read left) ++ mark ∷ w)
    (map-append Read right (test ∷ tests))
    ∙ sym (append_assoc (mark ∷ map Read left) (mark ∷ map Read right) (map Read (test ∷ tests))))
    (both_words mark is left (right ++ test ∷ tests))
shape_tests met word (test ∷ tests) (whole_word mark is left right) good =
    absurd (good test (contains_first (Read test) (map Read tests)) (inr (omega arith)))

-- tests have no marks
pub no_marks : (tests : List Test) → marks (map Read tests) ≡ []
no_marks [] = refl
no_marks (test ∷ tests) = no_marks tests

pub one_mark : (mark : Sign) → IsMark mark → (word : List Sign) →
    marks (mark ∷ word) ≡ mark ∷ marks word
one_mark If an_if word = refl
one_mark Then a_then word = refl
one_mark Free is word = elim is [ ]
one_mark (Read t) is word = elim is [ ]

-- a mark says itself
pub mark_said : (mark : Sign) → IsMark mark → said_by mark ≡ mark ∷ []
mark_said If an_if = refl
mark_said Then a_then = refl
mark_said Free is = elim is [ ]
mark_said (Read t) is = elim is [ ]

-- what a path goes through
shape_more : (word signs : List Sign) → IsPassed signs → IsShape (marks word) word →
    ((sign : Sign) → Contains signs sign → IsBadBehind (marks word) sign → ⊥) →
    IsShape (marks (word ++ signs)) (word ++ signs)
shape_more word signs (by_mark {mark = mark} is) shape good =
    subst (λ (m : List Sign). IsShape m (word ++ mark ∷ []))
    (sym (marks_append word (mark ∷ [])
    ∙ ap (λ (x : List Sign). marks word ++ x) (one_mark mark is [])))
    (shape_mark (marks word) word mark shape is
    (λ bad. good mark (contains_first mark []) (mark_bad (marks word) mark is bad)))
shape_more word signs (by_tests tests) shape good =
    subst (λ (m : List Sign). IsShape m (word ++ map Read tests))
    (sym (marks_append word (map Read tests)
    ∙ (ap (λ (x : List Sign). marks word ++ x) (no_marks tests) ∙ append-nil (marks word))))
    (shape_tests (marks word) word tests shape (λ test. good (Read test)))

-- where no box is bad, each word that leads somewhere has a shape
pub leads_shape : (graph : Graph) → IsNowhere (IsBadBox graph) → {node : ℕ} {word : List Sign} →
    Leads graph node word → IsShape (marks word) word
leads_shape graph none start = no_word
leads_shape graph none (on {a = a} {before = front} {signs = signs} leads through here) =
    shape_more front signs (through_passed graph a signs through) (leads_shape graph none leads)
    (λ sign within bad. none a (record {
      before = front;
      leads = leads;
      bad = inr (signs, through, (sign, within, bad));
    }))

whole_if : (graph : Graph) (met word : List Sign) → IsShape met word → phase_of met ≡ 3 →
    Leads graph 1 word → HasIf graph
whole_if graph met word no_word e leads = absurd (omega arith)
whole_if graph met word (left_word If an_if left) e leads = absurd (omega arith)
whole_if graph met word (left_word Then a_then left) e leads = absurd (omega arith)
whole_if graph met word (both_words If an_if left right) e leads = absurd (omega arith)
whole_if graph met word (both_words Then a_then left right) e leads = absurd (omega arith)
whole_if graph met word (whole_word If an_if left right) e leads = (left, right, leads)
whole_if graph met word (whole_word Then a_then left right) e leads = absurd (omega arith)
whole_if graph met word (left_word Free is left) e leads = elim is [ ]
whole_if graph met word (left_word (Read t) is left) e leads = elim is [ ]
whole_if graph met word (both_words Free is left right) e leads = elim is [ ]
whole_if graph met word (both_words (Read t) is left right) e leads = elim is [ ]
whole_if graph met word (whole_word Free is left right) e leads = elim is [ ]
whole_if graph met word (whole_word (Read t) is left right) e leads = elim is [ ]

-- a word to the end with three marks, of which the first is `<!>`, is an if-pair's
pub phase_if_pair : (graph : Graph) → IsNowhere (IsBadBox graph) → (word : List Sign) →
    Leads graph 1 word → phase_of (marks word) ≡ 3 → HasIf graph
phase_if_pair graph none word leads e =
    whole_if graph (marks word) word (leads_shape graph none leads) e leads

-- the word of a pair has three marks
pub pair_phase : (left right : List Test) → phase_of (marks (pair_word If left right)) ≡ 3
pair_phase left right =
    ap phase_of (marks_append (If ∷ map Read left) (If ∷ (map Read right ++ If ∷ []))
    ∙ (ap (λ (x : List Sign). (If ∷ x) ++ If ∷ marks (map Read right ++ If ∷ [])) (no_marks left)
    ∙ ap (λ (x : List Sign). If ∷ If ∷ x) (marks_append (map Read right) (If ∷ [])
    ∙ ap (λ (x : List Sign). x ++ If ∷ []) (no_marks right))))
