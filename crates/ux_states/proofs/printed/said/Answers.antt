use Rattle.ux_states.proofs.NotRefused.{said_memory}
use Rattle.ux_states.proofs.printed.said.Goals as goal

-- a text that says graphs is refused for want of memory alone
pub unreachable-requires : goal.unreachable-requires
unreachable-requires c =
    let none = said_memory c.args.text.now c.requires.0 c.in-Err-BadCount.field-0 c.requires.1
    c.in-Err-BadCount.ensures.err in
    let is = c.in-Err-BadCount.field-0-is in
    cc

pub unreachable-requires-in-Err-BadLine : goal.unreachable-requires-in-Err-BadLine
unreachable-requires-in-Err-BadLine c =
    let none = said_memory c.args.text.now c.requires.0 c.in-Err-BadLine.field-0 c.requires.1
    c.in-Err-BadLine.ensures.err in
    let is = c.in-Err-BadLine.field-0-is in
    cc

pub unreachable-requires-in-Err-BadTag : goal.unreachable-requires-in-Err-BadTag
unreachable-requires-in-Err-BadTag c =
    let none = said_memory c.args.text.now c.requires.0 c.in-Err-BadTag.field-0 c.requires.1
    c.in-Err-BadTag.ensures.err in
    let is = c.in-Err-BadTag.field-0-is in
    cc

pub unreachable-requires-in-Err-BadLabel : goal.unreachable-requires-in-Err-BadLabel
unreachable-requires-in-Err-BadLabel c =
    let none = said_memory c.args.text.now c.requires.0 c.in-Err-BadLabel.field-0 c.requires.1
    c.in-Err-BadLabel.ensures.err in
    let is = c.in-Err-BadLabel.field-0-is in
    cc
