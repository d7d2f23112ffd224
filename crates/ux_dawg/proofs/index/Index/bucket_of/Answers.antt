use Rattle.std.proofs.Common.{arith, ◌≡◌, ◌-◌, ap, length}
use Rattle.std.specs.Prelude.{bit_and}
use Rattle.ux_dawg.specs.Indexed.{bucket_in}
use Rattle.ux_dawg.proofs.index.Index.bucket_of.Goals as goal

pub returns-clause-bucket : goal.returns-clause-bucket
unfolding bucket_in
returns-clause-bucket c =
    let long = c.len.ensures in
    let all = c.args.self.now.newest.ok.0 in
    let many : c.len.result ≡ length c.args.self.now.newest.items = omega (arith, long, all) in
    ap (λ m. bit_and c.args.hash (m - 1)) many
