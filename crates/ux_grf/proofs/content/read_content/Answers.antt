use Rattle.std.proofs.lemmas.Result.{IfOk-weaker}
use Rattle.ux_grf.specs.declared.graph.GraphKind.TheVariants.{Plain}
use Rattle.ux_grf.specs.Content.{IsContent, IsOnly}
use Rattle.ux_grf.proofs.UniqueLemmas.{IsContent-once, IsContent-IsFault}
use Rattle.ux_grf.proofs.content.read_content.Goals as goal

pub returns-clause-only : goal.returns-clause-only
returns-clause-only c =
    IfOk-weaker c.read_in_box.result (IsContent Plain c.args.content.now) (IsOnly Plain c.args.content.now)
    (λ read is. record {
      one = λ other also. IsContent-once c.args.content.now read other is also;
      good = λ left bad. IsContent-IsFault c.args.content.now left read is bad;
    })
    c.read_in_box.ensures.ok
