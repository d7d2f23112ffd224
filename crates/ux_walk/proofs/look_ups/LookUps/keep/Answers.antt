use Rattle.std.proofs.Common.{refl, subst}
use Rattle.std.specs.Prelude.{Option, IfSome}
use Rattle.ux_walk.specs.declared.edge_index.EdgeIndex.{EdgeIndex}
use Rattle.ux_walk.specs.EdgeIndexes.{IsIndexOf}
use Rattle.ux_walk.proofs.LookUpsLemmas.{sound_more}
use Rattle.ux_walk.proofs.look_ups.LookUps.keep.Goals as goal

pub returns : goal.returns
returns c net there alphabet texts found is sound =
    let all = sound_more alphabet net texts c.args.state there found c.in-Some.index
    (subst (λ (o : Option EdgeIndex). IfSome o (IsIndexOf alphabet texts there.edges))
    c.in-Some.is is)
    c.args.self.now (record {
      words = c.args.self.now.words;
      indexes = c.put_at.new.map;
      texts = c.args.self.now.texts;
      compared = c.args.self.now.compared;
      kept = 0;
    }) refl c.put_at.ensures.only sound in
    record { ready = all.ready; indexes = all.indexes }
