use Rattle.std.proofs.Common.{◌≡◌, ◌-◌, ◌<◌, ℕ, suc, drop, length, subst, arith}
use Rattle.ux_tokens.specs.Regions.{AreRest, IsFirstPlace}
use Rattle.ux_tokens.proofs.RegionLemmas.{rest_more, first_here, first_later}
use Rattle.ux_tokens.proofs.tags.first_place.Goals.{then-begins_tag, else-begins_tag}
use Rattle.ux_tokens.proofs.tags.first_place.Goals as goal

pub loop-place-preserved : goal.loop-place-preserved
loop-place-preserved c =
    let bytes = c.args.region.now in
    let from = c.loop-place.place - 1 in
    let inv = c.loop-place.invariant in
    let within = inv.within in
    let some = c.loop-place-test.true in
    let inside : from < length bytes = omega (arith, within, some) in
    let next : c.loop-place.place ≡ suc from = omega (arith, some) in
    let rest : AreRest c.loop-place.rest (drop (suc from) bytes) =
    subst (λ (k : ℕ). AreRest c.loop-place.rest (drop k bytes)) next inv.rest in
    let first : IsFirstPlace bytes (suc from) c.loop-place.first =
    subst (λ (k : ℕ). IsFirstPlace bytes k c.loop-place.first) next inv.first in
    record {
      within = omega (arith, within);
      rest = rest_more bytes from inside c.loop-place.rest c.with-rest.result rest
          c.with-rest.ensures;
      first = elim c.if-begins_tag.branch [
        | then-begins_tag w ↦
            (let begins = c.begins_tag.ensures.0 w.if-begins_tag.true in
            rw w.first-is
            (first_here bytes from inside c.loop-place.rest rest begins.0 begins.1))
        | else-begins_tag w ↦
            (let never = c.begins_tag.ensures.1 in
            rw w.first-is
            (first_later bytes from inside c.loop-place.rest c.loop-place.first rest
            (λ brace tail. let t = never (brace, tail) in let f = w.if-begins_tag.false in cc) first))
      ];
    }
