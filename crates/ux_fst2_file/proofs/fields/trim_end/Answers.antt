use Rattle.ux_fst2_file.proofs.FieldLemmas.{trimmed_end}
use Rattle.ux_fst2_file.proofs.fields.trim_end.Goals as goal

pub returns : goal.returns
returns c =
    trimmed_end c.args.text.now c.trim_end_matches.result.now c.trim_end_matches.ensures.matches
