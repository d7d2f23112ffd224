use Rattle.std.proofs.Common.{◌∷◌, refl}
use Rattle.ux_closure.specs.Meeting.{Known, known}
use Rattle.ux_closure.proofs.Results.{on_ok}
use Rattle.ux_closure.proofs.Adding.{adds_links, adds_behind, adds_put, grows_consed}
use Rattle.ux_walk.proofs.LinksLemmas.{consed_names}
use Rattle.ux_closure.proofs.passing.enter.Goals as goal

pub returns-clause-grows : goal.returns-clause-grows
returns-clause-grows c = grows_consed c.args.stacks.now.links.keys c.add.new.self.links.keys
    c.args.here c.args.stand.back c.in_ok-back.back c.requires.sound.below
    c.in_ok-back.ensures.consed c.requires.named.0 c.requires.named.1

pub returns-clause-adds : goal.returns-clause-adds
returns-clause-adds c = on_ok c.put.result _ _ (λ put fs named.
    let links = c.args.stacks.now.links.keys in
    let more = c.add.new.self.links.keys in
    let old = known links c.args.met.now in
    let mid : Known = known more c.args.met.now in
    let new = known more c.put.new.self in
    let consed = c.in_ok-back.ensures.consed in
    let grows = grows_consed links more c.args.here c.args.stand.back c.in_ok-back.back
    c.requires.sound.below consed fs named in
    let first = adds_links old mid c.requires.sound grows refl refl in
    adds_behind _ old mid new first
    (adds_put mid new grows.below refl c.put.ensures.ends (record {
      here = record { graph = c.args.graph; state = 0 };
      back = c.in_ok-back.back;
    }) put (record { graph = c.args.graph; state = 0 } ∷ c.args.here ∷ fs) (
      refl,
      consed_names links more c.args.here c.args.stand.back c.in_ok-back.back consed fs
          named,
    ))) c.put.ensures.put
