use Rattle.std.proofs.Common.{arith, string_bytes, sym, ◌∙◌, ap}
use Rattle.std.specs.Prelude.{Some}
use Rattle.std.proofs.lemmas.Option.{slice_get-get_or}
use Rattle.ux_cmd_txt2tfst.proofs.WritingLemmas.{written_more}
use Rattle.ux_cmd_txt2tfst.proofs.writing.write_automata.Goals as goal

pub write_sentence-requires-clause-run : goal.write_sentence-requires-clause-run
write_sentence-requires-clause-run c =
    (c.in_ok-runs.ensures.runs.exact c.index.result.now).0
    (c.loop-place.place, omega arith, sym c.index.ensures)

-- the automaton of one more run is written
pub loop-place-preserved : goal.loop-place-preserved
loop-place-preserved c =
    let runs = c.in_ok-runs.runs.items in
    let place = c.loop-place.place in
    let run = c.index.result.now in
    let made = c.in_ok-write_sentence.ensures in
    record {
      written = written_more c.args.text.now c.args.tables.now runs place
          (string_bytes c.loop-place.answer) (string_bytes c.write_sentence.new.answer) run made.0
          made.2.0 c.loop-place.invariant.written
          (slice_get-get_or runs place run (omega arith) ∙ ap Some (sym c.index.ensures))
          made.1 made.2.1 made.2.2;
    }
