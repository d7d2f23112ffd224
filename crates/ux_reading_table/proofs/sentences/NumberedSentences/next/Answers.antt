use Rattle.std.proofs.Common.{inl, inr}
use Rattle.ux_reading_table.proofs.NextLemmas.{never_stops, next_read}
use Rattle.ux_reading_table.proofs.sentences.NumberedSentences.next.Goals as goal

-- the file isn't refused
pub unreachable-requires : goal.unreachable-requires
unreachable-requires c =
    let (text, table, at) = c.requires in
    elim c.in-Err.ensures.err [
      | inl memory ↦ c.in_default.not-NoMemory memory
      | inr stops ↦ never_stops text c.args.table.now c.args.self.now table at c.in-Err.error stops
    ]

pub returns-in-Ok : goal.returns-in-Ok
returns-in-Ok c =
    let (text, table, at) = c.requires in
    next_read text c.args.table.now c.args.self.now table at c.numbered.new.self c.in-Ok.found
    c.in-Ok.ensures.ok
