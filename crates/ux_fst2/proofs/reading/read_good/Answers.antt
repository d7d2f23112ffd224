use Rattle.std.proofs.Common.{arith, ◌≡◌, ℕ, List, [], subst, sym, ◌∙◌}
use Rattle.ux_grf.specs.declared.item.Piece.{Piece}
use Rattle.ux_net.specs.declared.label.Label.TheVariants.{Empty}
use Rattle.ux_fst2.specs.Tags.{EMPTY_TAG, IsTag}
use Rattle.ux_fst2.specs.Reading.{IsGoodTag}
use Rattle.ux_fst2.proofs.TagLemmas.{empty_tag_says}
use Rattle.ux_fst2.proofs.reading.read_good.Goals as goal

pub returns : goal.returns
returns c =
    let is : c.args.text.now ≡ EMPTY_TAG = c.is_empty_tag.ensures.0 c.if-not-is_empty_tag.false in
    let zero : c.args.n ≡ 0 = omega (arith, c.if-n-gt0.false) in
    let nothing : c.new-2.result ≡ [] = c.new-2.ensures ∙ c.new.ensures.items in (
      subst (λ (n : ℕ). IsGoodTag n c.args.text.now) (sym zero) is,
      subst (λ (output : List Piece). IsTag c.args.text.now Empty output) (sym nothing)
          (empty_tag_says c.args.text.now is),
    )
