use Rattle.std.proofs.Common.{◌∙◌}
use Rattle.std.proofs.lemmas.Slice.Zip.{all_zipped_more}
use Rattle.ux_dela.specs.Printed.{IsCodesText}
use Rattle.ux_reading_table.specs.Noting.{spellings}
use Rattle.ux_reading_table.proofs.LikesLemmas.{codes_last, codes_still}
use Rattle.ux_reading_table.proofs.codes.note_codes.Goals as goal

-- the codes stand beside their text
pub returns-in_ok-push-clause-known : goal.returns-in_ok-push-clause-known
returns-in_ok-push-clause-known c =
    let more = rw c.if-is_new.true at c.in_ok-_place.ensures.added in
    rw (more, c.in_ok-push.ensures.items)
    (all_zipped_more IsCodesText (spellings c.args.known.now.texts) c.args.known.now.codes.items
    c.args.text.now c.args.codes c.requires.known c.requires.codes)

pub returns-in_ok-push-clause-kept : goal.returns-in_ok-push-clause-kept
returns-in_ok-push-clause-kept c =
    codes_still c.args.known.now.codes.items c.push.new.self.items c.args.codes
    c.in_ok-push.ensures.items

pub returns-in_ok-push-clause-placed : goal.returns-in_ok-push-clause-placed
returns-in_ok-push-clause-placed c =
    codes_last c.args.known.now.codes.items c.push.new.self.items c.args.codes c.args.text.now
    c.len-place.result
    (c.len-place.ensures ∙ c.args.known.now.codes.ok.0) c.in_ok-push.ensures.items c.requires.codes
