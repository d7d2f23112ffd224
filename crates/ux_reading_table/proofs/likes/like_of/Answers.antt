use Rattle.std.proofs.Common.{arith, ℕ, Option, inl, refl, subst}
use Rattle.std.specs.Prelude.{IfSome}
use Rattle.ux_reading_table.specs.Liking.{HasCodesOf}
use Rattle.ux_reading_table.proofs.LikesLemmas.{firsts_more}
use Rattle.ux_reading_table.proofs.likes.like_of.Goals as goal

pub returns-in_ok-push : goal.returns-in_ok-push
returns-in_ok-push c = λ texts are has.
    let here : HasCodesOf texts c.args.codes.now c.in-Some.place c.args.number =
    subst (λ (p : Option ℕ). IfSome p (λ place. HasCodesOf texts c.args.codes.now place
    c.args.number)) c.in-Some.is has in (
      firsts_more texts c.args.codes.now c.args.firsts.now.items c.push.new.self.items
          c.in-Some.place c.args.number (omega arith) (omega arith) c.in_ok-push.ensures.items
          are here,
      inl refl,
    )
