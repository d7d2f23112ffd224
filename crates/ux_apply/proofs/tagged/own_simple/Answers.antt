use Rattle.std.proofs.Common.{List, subst, sym}
use Rattle.ux_dela.specs.declared.entry.Entry.{Entry}
use Rattle.ux_apply.specs.Kept.{IsOwnRow}
use Rattle.ux_apply.proofs.OwnLemmas.{own-nothing, own-simple}
use Rattle.ux_apply.proofs.tagged.own_simple.Goals as goal

pub returns-in-Some : goal.returns-in-Some
returns-in-Some c =
    own-simple c.args.alphabet.now c.args.text.now c.args.place c.in-Some.entry.now
    c.in-Some.ensures.entry c.if_simple.result c.if_simple.ensures.letters
    c.if_simple.ensures.others

pub returns-in-None : goal.returns-in-None
returns-in-None c =
    subst (λ (l : List Entry). IsOwnRow c.args.alphabet.now c.args.text.now c.args.place l)
    (sym c.new.ensures.items)
    (own-nothing c.args.alphabet.now c.args.text.now c.args.place c.in-None.ensures.entry)
