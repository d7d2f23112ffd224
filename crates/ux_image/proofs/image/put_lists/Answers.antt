use Rattle.std.proofs.Common.{arith, ◌∷◌, [], ◌++◌, Bor, take, sym, ap, ◌∙◌}
use Rattle.std.proofs.lemmas.Grind.{common_steps}
use Rattle.std.proofs.lemmas.List.{map_more}
use Rattle.std.proofs.lemmas.List.Elements.{All-push, All-same}
use Rattle.ux_image.specs.Layout.{ListFits}
use Rattle.ux_image.specs.Lent.{lent}
use Rattle.ux_image.specs.declared.code.CodeList.{CodeList}
use Rattle.ux_image.proofs.image.put_lists.Goals as goal

pub loop-list-preserved : goal.loop-list-preserved
loop-list-preserved c =
    let i = c.loop-list.list-index in
    let before = lent (take i c.args.lists.now) in
    record {
      bytes = grind (arith, common_steps);
      fits = All-same ListFits _ _
          (map_more (λ (list : Bor CodeList). list.now) c.args.lists.now i c.list-item.result
          (omega arith)
          ∙ ap (λ (list : Bor CodeList). before ++ list.now ∷ []) (sym c.list-item.is))
          (All-push ListFits before c.list-item.result.now c.loop-list.invariant.fits
          c.in_ok-put_list.ensures.fits);
    }
