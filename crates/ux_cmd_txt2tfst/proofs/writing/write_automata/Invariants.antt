use Rattle.std.proofs.Common.{string_bytes}
use Rattle.ux_cmd_txt2tfst.proofs.WritingLemmas.{HasWritten}
use Rattle.ux_cmd_txt2tfst.proofs.writing.write_automata.Given as goal

-- the automata of the runs so far are written
abbrev pub invariant-loop-place : goal.invariant-loop-place
invariant-loop-place l = record {
  written : HasWritten l.text l.tables l.runs.items l.place (string_bytes l.answer);
}
