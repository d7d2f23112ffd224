use Rattle.std.proofs.Common.{◌++◌, arith, List, ◌∙◌, sym, ap, reverse}
use Rattle.std.proofs.lemmas.List.{reverse-reverse}
use Rattle.ux_folds.proofs.ListsLemmas.{reads_on, reads_all, front_before}
use Rattle.ux_folds.proofs.lists.Lists.items.Goals as goal

pub loop-link-preserved : goal.loop-link-preserved
loop-link-preserved g c = λ xs named.
    let links = c.args.self.now.links.keys in
    let on = reads_on links xs c.loop-link.items.items c.loop-link.rest c.in-Some.link.now
    (sym c.in-Some.ensures) (c.loop-link.invariant xs named) in
    (on.0, on.1, on.2 ∙ ap (λ (l : List _). l ++ on.0) (sym c.in_ok-push.ensures.items))

pub loop-link-smaller : goal.loop-link-smaller
loop-link-smaller g c = omega arith

pub returns : goal.returns
returns g c = λ xs sound named.
    c.reverse.ensures.items ∙ (ap (λ (l : List _). reverse l)
    (sym (reads_all c.args.self.now.links.keys (reverse xs) c.loop-link.items.items c.loop-link.rest
    (sym c.in_default.ensures) (c.loop-link.invariant (reverse xs) named))) ∙ reverse-reverse xs)

pub returns-then-rest-link : goal.returns-then-rest-link
returns-then-rest-link g c = λ xs sound named.
    let links = c.args.self.now.links.keys in
    let before = front_before links sound.below c.loop-link.rest c.in-Some.link.now
    (sym c.in-Some.ensures) in
    absurd (omega (arith, before))
