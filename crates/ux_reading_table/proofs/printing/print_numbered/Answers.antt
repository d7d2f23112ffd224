use Rattle.std.proofs.Common.{arith, ◌≤◌, ◌<◌, ◌++◌, length, take, ap, string_bytes}
use Rattle.ux_sentence.specs.Written.{ended, sentence_line}
use Rattle.ux_reading_table.proofs.PrintedLemmas.{lines_next, numbered_lines, printed_lines}
use Rattle.ux_reading_table.proofs.printing.print_numbered.Goals as goal

pub loop-link-preserved : goal.loop-link-preserved
loop-link-preserved c =
    let s = c.args.sentence.now in
    lines_next c.args.texts.now s.links.items c.deref-link-items.result.now c.loop-link.link-index
    _ c.index-texts-link.result c.as_str.result.now (string_bytes c.args.file.now)
    (string_bytes c.loop-link.file) (string_bytes c.push_link.new.file)
    (ended (sentence_line s.number s.states (length s.links.items)))
    c.deref-link-items.ensures.value c.loop-link-test.true c.requires c.index-texts-link.is
    c.as_str.ensures c.loop-link.invariant c.in_ok-push_link.ensures

pub returns : goal.returns
returns c = λ old is path.
    let s = c.args.sentence.now in
    let all : length s.links.items ≤ c.loop-link.link-index =
    omega (arith, ap length c.deref-link-items.ensures.value, c.loop-link-test.false) in
    let some : 0 < s.states = omega (arith, c.if-sentence-eq0.false) in (
      ended (sentence_line s.number s.states (length s.links.items))
          ++ numbered_lines c.args.texts.now (take c.loop-link.link-index s.links.items),
      printed_lines c.args.texts.now s old c.loop-link.link-index all is (path some),
      c.loop-link.invariant,
    )
