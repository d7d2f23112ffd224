use Rattle.ux_alphabet.proofs.LineLemmas.{says_nothing, says_single, says_pair, says_range}
use Rattle.ux_alphabet.proofs.reading.read_line.Goals as goal

pub returns-in_default-clause-ok : goal.returns-in_default-clause-ok
returns-in_default-clause-ok c =
    says_nothing c.args.text.now c.trimmed.result.now c.trimmed.ensures c.in_default.ensures

pub returns-in_default-split_first_char-clause-ok :
    goal.returns-in_default-split_first_char-clause-ok
returns-in_default-split_first_char-clause-ok c =
    says_single c.args.text.now c.trimmed.result.now c.trimmed.ensures c.in-Some.first
    c.in-Some.rest.now c.in-Some.ensures c.in_default-split_first_char.ensures

pub returns-in_default-split_first_char-2-clause-ok :
    goal.returns-in_default-split_first_char-2-clause-ok
returns-in_default-split_first_char-2-clause-ok c =
    says_pair c.args.text.now c.trimmed.result.now c.trimmed.ensures c.in-Some.first
    c.in-Some.rest.now c.in-Some.ensures c.in-Some-split_first_char.second
    c.in-Some-split_first_char.rest.now c.in-Some-split_first_char.ensures
    c.in_default-split_first_char-2.ensures

pub returns-in_ok-read_range-in-None-clause-ok : goal.returns-in_ok-read_range-in-None-clause-ok
returns-in_ok-read_range-in-None-clause-ok c =
    let range = c.in_ok-read_range-in-None.ensures.ok in
    says_range c.args.text.now c.trimmed.result.now c.trimmed.ensures c.in-Some.first
    c.in-Some.rest.now c.in-Some.ensures c.in-Some-split_first_char.second
    c.in-Some-split_first_char.rest.now c.in-Some-split_first_char.ensures
    c.in-Some-split_first_char-2.third c.in-Some-split_first_char-2.rest.now
    c.in_ok-read_range-in-None.field-0 c.in-Some-split_first_char-2.ensures c.in-None.ensures
    c.if-first-eq35.true range.0 range.1
