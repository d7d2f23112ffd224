use Rattle.ux_fst2_file.proofs.FieldLemmas.{trimmed_front}
use Rattle.ux_fst2_file.proofs.fields.skip_spaces.Goals as goal

pub returns : goal.returns
returns c =
    trimmed_front c.args.text.now c.trim_start_matches.result.now
    c.trim_start_matches.ensures.matches
