use Rattle.std.proofs.Common.{sym, refl}
use Rattle.ux_dict.proofs.parts.sifted.Goals as goal

pub returns-then-all_go_on : goal.returns-then-all_go_on
returns-then-all_go_on c rises keyed = record {
  entries = sym (c.if-all_go_on.ensures refl rises);
  keyed = keyed;
  len = refl;
}
