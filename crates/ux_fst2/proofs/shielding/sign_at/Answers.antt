use Rattle.std.proofs.lemmas.Str.{IsCharBoundary-after_ascii}
use Rattle.ux_fst2.proofs.shielding.sign_at.Goals as goal

pub range-requires-clause-end_boundary : goal.range-requires-clause-end_boundary
range-requires-clause-end_boundary c =
    IsCharBoundary-after_ascii c.args.text.now c.args.place c.utf8.text c.requires.inside
    c.requires.ascii
