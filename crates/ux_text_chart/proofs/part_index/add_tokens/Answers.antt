use Rattle.std.proofs.Common.{List, [], ◌∷◌, get_or, subst, sym}
use Rattle.std.specs.Prelude.{Contains}
use Rattle.std.proofs.lemmas.List.{get_or_default}
use Rattle.std.proofs.lemmas.List.Elements.{Contains-append_left, Contains-push}
use Rattle.ux_text_chart.specs.PartIndexes.{begins_at}
use Rattle.ux_text_chart.specs.declared.part_index.Beginning.{Beginning}
use Rattle.ux_walk.proofs.EachLemmas.{each_all, each_next}
use Rattle.ux_text_chart.proofs.part_index.add_tokens.Goals as goal

pub loop-token-preserved : goal.loop-token-preserved
loop-token-preserved c =
    let tokens = c.args.tokens.now in
    let i = c.loop-token.token-index in
    let token = get_or tokens i 0 in
    let old = c.loop-token.beginnings.items in
    let new = c.push.new.self.items in
    let one = begins_at token c.args.part in
    let is = c.in_ok-push.ensures.items in
    let more = λ (b : Beginning) (h : Contains old b). subst (λ (l : List Beginning). Contains l b)
    (sym is) (Contains-append_left old (one ∷ []) b h) in
    record {
      kept = λ b h. more b (c.loop-token.invariant.kept b h);
      listed = each_next (λ t. Contains new (begins_at t c.args.part)) tokens i token
          c.loop-token-test.true (get_or_default tokens i 0 token c.loop-token-test.true)
          (λ t h. more (begins_at t c.args.part) (c.loop-token.invariant.listed t h))
          (subst (λ (l : List Beginning). Contains l one) (sym is) (Contains-push old one));
    }

pub returns-clause-listed : goal.returns-clause-listed
returns-clause-listed c = each_all
    (λ t. Contains c.loop-token.beginnings.items (begins_at t c.args.part)) c.args.tokens.now
    c.loop-token.token-index c.loop-token-test.false c.loop-token.invariant.listed
