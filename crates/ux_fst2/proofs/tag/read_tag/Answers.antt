use Rattle.ux_fst2.proofs.TagLemmas.{at_only, at_tag, percent_only, percent_tag, said_lift, unmarked}
use Rattle.ux_fst2.proofs.tag.read_tag.Goals as goal

pub returns-in-Some : goal.returns-in-Some
returns-in-Some c =
    let text = c.args.text.now in
    let content = c.in-Some.content.now in
    said_lift c.read_behind.result _ _ _ _
    (λ none label output.
    percent_only text content label output c.in-Some.ensures (none label output))
    (λ tag. percent_tag text content tag.label tag.output c.in-Some.ensures) c.read_behind.ensures

pub returns-in-Some-behind_at : goal.returns-in-Some-behind_at
returns-in-Some-behind_at c =
    let text = c.args.text.now in
    let content = c.in-Some-behind_at.content.now in
    said_lift c.read_behind-in-Some-behind_at.result _ _ _ _
    (λ none label output.
    at_only text content label output c.in-Some-behind_at.ensures (none label output))
    (λ tag. at_tag text content tag.label tag.output c.in-Some-behind_at.ensures)
    c.read_behind-in-Some-behind_at.ensures

pub returns : goal.returns
returns c =
    λ label output. unmarked c.args.text.now label output c.in_default.ensures
    c.in_default-behind_at.ensures
