use Rattle.std.proofs.Common.{refl}
use Rattle.ux_cmd_cascade.proofs.files.read_step.Goals as goal

pub returns-clause-ok : goal.returns-clause-ok
returns-clause-ok g c =
    let net = rw c.as_str.ensures at c.in_ok-net.ensures.ok in
    record {
      source = net.source;
      comes = net.comes;
      is = record { compiles = net.compiles; mode = refl };
    }
