use Rattle.std.proofs.Common.{sym, ◌∙◌}
use Rattle.ux_net.proofs.NamesLemmas.{named_there}
use Rattle.ux_boxes.proofs.MissingLemmas.{found_there}
use Rattle.ux_boxes.proofs.missing.has_name.Goals as goal

pub returns-clause-there : goal.returns-clause-there
returns-clause-there c =
    λ yes. found_there c.args.names.now.keys c.args.name (sym c.contains.ensures ∙ yes)

pub returns-clause-missing : goal.returns-clause-missing
returns-clause-missing c = λ no there.
    let found = named_there c.args.names.now.keys c.args.name there in
    let both = sym no ∙ (c.contains.ensures ∙ found) in
    cc
