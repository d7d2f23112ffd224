use Rattle.ux_tokens.specs.Columns.{pieces_of}
use Rattle.ux_tokens.proofs.EntriesLemmas.{no_tags}
use Rattle.ux_tokens.proofs.entries.tag_entries.Goals as goal

pub returns : goal.returns
returns c =
    no_tags c.args.text.now (pieces_of c.args.cut.now.pieces) c.requires.0
    c.requires.1.tokens.cut.each
    (λ has. let t = c.has_brace.ensures.1 has in let f = c.if-has_brace.false in cc)
    c.new.result c.new.ensures.empty
