use Rattle.ux_closure.proofs.PutLemmas.{inserts_put}
use Rattle.ux_closure.proofs.met.put_last.Goals as goal

pub returns : goal.returns
returns g = λ c. inserts_put _ c.requires c.args.set.now.keys c.insert.new.self.keys c.args.item
    c.in_ok-insert.ensures.keys
