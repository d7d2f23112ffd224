use Rattle.ux_image.proofs.KeepLemmas.{kept_list, lists_decide}
use Rattle.ux_image.proofs.register.keep_list.Goals as goal

pub returns : goal.returns
returns c =
    let s = c.in_ok-number.ensures.stored in
    kept_list _ lists_decide c.args.lists.now.keys c.insert_full.new.self.keys c.args.list
    c.in_ok-number.number c.in_ok-number.ensures.keys s.0 s.1 s.2
