use Rattle.std.proofs.Common.{◌∙◌, ℕ, List, ap, map, subst, sym}
use Rattle.ux_inflect.specs.declared.exploring.Link.{Link}
use Rattle.ux_inflect.specs.declared.stepping.Successor.{Successor}
use Rattle.ux_inflect.specs.Places.{Place, step_of}
use Rattle.ux_inflect.specs.Searches.{IsNoting}
use Rattle.ux_base.proofs.Lists.{emptied}
use Rattle.ux_inflect.proofs.NumberLemmas.{steps_pushed, noting_none, noting_next, noting_over}
use Rattle.ux_inflect.proofs.exploring.note_all.Goals as goal

pub loop-successor-init : goal.loop-successor-init
loop-successor-init c =
    let old = c.args.configs.now.keys in
    let steps = map step_of c.args.found.items in
    subst (λ (row : List Link). IsNoting old steps steps old row) (sym c.in_ok-row.ensures.items)
    (noting_none old steps)

pub loop-successor-preserved : goal.loop-successor-preserved
loop-successor-preserved c =
    let old = c.args.configs.now.keys in
    let steps = map step_of c.args.found.items in
    let left = c.pop.new.self.items in
    let successor = c.in-Some.successor in
    let mid = c.loop-successor.configs.keys in
    let row = c.loop-successor.row.items in
    let known = subst (λ (l : List (List ℕ × Place)). IsNoting old steps l mid row)
    (ap (λ (l : List Successor). map step_of l) c.in-Some.ensures.items
    ∙ steps_pushed left successor) c.loop-successor.invariant in
    subst (λ (r : List Link). IsNoting old steps (map step_of left) c.note.new.configs.keys r)
    (sym c.in_ok-push.ensures.items)
    (noting_next old steps (map step_of left) successor.config successor.text mid
    c.note.new.configs.keys row c.in_ok-link.link known c.in_ok-link.ensures.text
    c.in_ok-link.ensures.number)

pub returns : goal.returns
returns c =
    let old = c.args.configs.now.keys in
    let steps = map step_of c.args.found.items in
    let none = emptied c.loop-successor.found.items c.pop.new.self.items _ c.in_default.ensures.items
    c.in_default.ensures.rest c.in_default.ensures.cases.0 in
    noting_over old steps c.loop-successor.configs.keys c.loop-successor.row.items
    (subst (λ (l : List Successor). IsNoting old steps (map step_of l)
    c.loop-successor.configs.keys c.loop-successor.row.items) none c.loop-successor.invariant)
