use Rattle.std.proofs.Common.{ℕ, List, ◌≡◌, ◌<◌, ◌∙◌, ap, sym, subst, length}
use Rattle.std.specs.Prelude.{All}
use Rattle.std.proofs.lemmas.Result.{IfOk-weaker}
use Rattle.ux_elag.specs.Left.{SatisfiesEach}
use Rattle.ux_elag.specs.Prepared.{Prepared}
use Rattle.ux_reading_table.proofs.CallerLemmas.{numbers_within}
use Rattle.ux_reading_table.specs.Numbered.{IsNumberedBy}
use Rattle.ux_reading_table.specs.declared.numbered.NumberedLink.{NumberedLink}
use Rattle.ux_cmd_elag.proofs.RulingLemmas.{left_has_path}
use Rattle.ux_cmd_elag.proofs.ruling.print_left.Goals as goal

pub print_numbered-requires : goal.print_numbered-requires
print_numbered-requires c =
    let texts = c.args.rules.now.texts in
    let same : c.texts.result.now ≡ texts =
    c.texts.ensures ∙ ap (λ (p : Prepared). p.texts) c.in_ok-left.ensures.same in
    let stands = c.requires.1 in
    let leaves = c.in_ok-left.ensures.left c.requires.0 stands.is_numbered stands.writable.readings
    in
    subst (λ (ts : List (List ℕ)). All (λ (link : NumberedLink). link.reading < length ts)
    c.in_ok-left.left.links.items) (sym same)
    (numbers_within texts leaves.left c.in_ok-left.left leaves.is_numbered)

pub returns-clause-printed : goal.returns-clause-printed
returns-clause-printed c =
    let new = c.in_ok-left.left in
    let texts = c.args.rules.now.texts in
    let same : c.texts.result.now ≡ texts =
    c.texts.ensures ∙ ap (λ (p : Prepared). p.texts) c.in_ok-left.ensures.same in
    IfOk-weaker c.print_numbered.result _ _ (λ done tells old stands.
    let leaves = c.in_ok-left.ensures.left old stands.is_numbered stands.writable.readings in
    let printed = tells leaves.left
    (subst (λ (ts : List (List ℕ)). IsNumberedBy ts leaves.left new) (sym same) leaves.is_numbered)
    (λ some. left_has_path (SatisfiesEach c.args.rules.now.rules) old leaves.left leaves.are_left
    (subst (λ (n : ℕ). 0 < n) leaves.is_numbered.states some)) in
    record {
      left = leaves.left;
      are_left = leaves.are_left;
      more = printed.0;
      printed = printed.1;
      is = printed.2;
    }) c.print_numbered.ensures
