use Rattle.std.proofs.Common.{rules}
use Rattle.std.proofs.lemmas.Nat.{le_bytes_4}
use Rattle.ux_image_lists.proofs.rest.number_of.Goals as goal

pub returns-clause-bytes : goal.returns-clause-bytes
returns-clause-bytes c =
    le_bytes_4 c.args.four _ (search rules) (search rules) c.from_le_bytes.ensures
