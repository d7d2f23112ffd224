use Rattle.std.proofs.Common.{false, refl}
use Rattle.std.proofs.lemmas.Bool.{both_ways}
use Rattle.ux_fst2_file.proofs.ReadLemmas.{tags_end, tags_more, tags_open}
use Rattle.ux_fst2_file.proofs.reading.read_tags.Goals as goal

pub returns-then-is_end : goal.returns-then-is_end
returns-then-is_end c =
    tags_end c.args.cursor.now.lines c.loop-line.cursor.lines c.loop-line.tags.items
    c.loop-line.invariant c.in-Some.line.now c.next_line.new.self.lines c.in-Some.ensures.0
    (c.if-is_end.ensures.0 refl)

pub loop-line-preserved : goal.loop-line-preserved
loop-line-preserved c =
    let items = c.loop-line.tags.items in
    tags_more c.args.cursor.now.lines c.loop-line.cursor.lines items c.loop-line.invariant
    c.in-Some.line.now c.next_line.new.self.lines c.in-Some.ensures.0 c.push.new.self.items
    (λ h. both_ways false refl (c.if-is_end.ensures.1 h))
    (rw c.in_ok-from_str.ensures at c.in_ok-push.ensures.items)

pub returns : goal.returns
returns c =
    tags_open c.args.cursor.now.lines c.loop-line.cursor.lines c.loop-line.tags.items
    c.loop-line.invariant c.in_default.ensures.0
