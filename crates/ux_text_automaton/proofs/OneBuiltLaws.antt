-- A text has one list of sentences, and a sentence one list of links. Public: crates above may cite it.
use Rattle.std.proofs.Common.{arith, ◌≡◌, ◌<◌, List, ◌∙◌, ap}
use Rattle.std.specs.Ordering.{ordering_reverse}
use Rattle.std.specs.declared.cmp.Ordering.TheVariants.{Less, Greater}
use Rattle.ux_base.proofs.OrderedLists.{same_members}
use Rattle.ux_tokens.specs.Tokens.{Token}
use Rattle.ux_lexical_tables.specs.Tables.{Tables}
use Rattle.ux_sentence.specs.declared.sentence.Link.{Link}
use Rattle.ux_text_automaton.specs.declared.run.Run.{Run}
use Rattle.ux_text_automaton.specs.Built.{AreLinks, IsLink}
use Rattle.ux_text_automaton.specs.Order.{link_cmp}
use Rattle.ux_text_automaton.specs.Runs.{AreRuns, IsRun}
use Rattle.ux_text_automaton.proofs.OrderLemmas.{link_total}

pub one_runs : (tokens : List Token) (runs other : List Run) → AreRuns tokens runs →
    AreRuns tokens other → runs ≡ other
one_runs tokens runs other are also =
    same_members (λ (run later : Run). run.end < later.first) (IsRun tokens) strict runs other
    (λ run. (
      λ member. (also.exact run).1 ((are.exact run).0 member),
      λ member. (are.exact run).1 ((also.exact run).0 member),
    ))
    (λ run member. (are.exact run).0 member) are.in_order also.in_order
  where
    strict : (x y : Run) → IsRun tokens x → IsRun tokens y → x.end < y.first → y.end < x.first → ⊥
    strict x y one two up down =
        let a = one.some.1 in
        let b = one.some.2 in
        let c = two.some.1 in
        let d = two.some.2 in
        absurd (omega (arith, up, down, a, b, c, d))

pub one_links : (tokens : List Token) (tables : Tables) (run : Run) (links other : List Link) →
    AreLinks tokens tables run links → AreLinks tokens tables run other → links ≡ other
one_links tokens tables run links other are also =
    same_members (λ a b. link_cmp a b ≡ Less) (IsLink tokens tables run) strict links other
    (λ link. (
      λ member. (also.exact link).1 ((are.exact link).0 member),
      λ member. (are.exact link).1 ((also.exact link).0 member),
    ))
    (λ link member. (are.exact link).0 member) are.in_order also.in_order
  where
    strict : (x y : Link) → IsLink tokens tables run x → IsLink tokens tables run y →
        link_cmp x y ≡ Less → link_cmp y x ≡ Less → ⊥
    strict x y one two up down =
        let back : link_cmp x y ≡ Greater =
        link_total.antisymm x y ∙ ap ordering_reverse down in
        cc
