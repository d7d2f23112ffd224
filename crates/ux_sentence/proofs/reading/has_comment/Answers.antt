use Rattle.std.proofs.Common.{◌∙◌, Vec, Global}
use Rattle.ux_dela.specs.declared.entry.Entry.{Entry}
use Rattle.ux_sentence.proofs.EntryLemmas.{comment_told}
use Rattle.ux_sentence.proofs.reading.has_comment.Goals as goal

pub returns : goal.returns
returns c = λ parts whole.
    rw c.is_some.ensures
    (comment_told (λ (v : Vec Entry Global). v.items) c.args.line.now c.as_str.result.now
    c.in_ok-said.said (c.as_str.ensures.value ∙ c.in_ok-open.ensures.ok) c.in_ok-said.ensures
    parts whole)
