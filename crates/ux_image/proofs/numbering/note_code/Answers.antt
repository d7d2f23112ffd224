use Rattle.std.proofs.Common.{ℕ, sym, subst}
use Rattle.std.specs.Prelude.{Option, nat_eq}
use Rattle.std.specs.Option.{option_to_list}
use Rattle.std.proofs.lemmas.Bool.Decides.{Decides-eqb}
use Rattle.ux_base.specs.Distinct.{GrowsBy}
use Rattle.ux_image.proofs.KeepLemmas.{set_grows}
use Rattle.ux_image.proofs.numbering.note_code.Goals as goal

pub returns-in_ok-insert_full : goal.returns-in_ok-insert_full
returns-in_ok-insert_full c =
    subst (λ (code : Option ℕ). GrowsBy (option_to_list code) c.args.order.now.keys
    c.insert_full.new.self.keys) (sym c.in-Some.is)
    (set_grows nat_eq Decides-eqb c.args.order.now.keys c.insert_full.new.self.keys c.in-Some.code
    c.in_ok-insert_full.ensures.keys)
