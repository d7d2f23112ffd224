use Rattle.std.proofs.Common.{arith, ◌≡◌, ◌∙◌, ℕ, suc, ◌<◌, ◌≤◌, List, ap, drop, length, subst, sym, Some}
use Rattle.std.specs.Prelude.{Vec, slice_get}
use Rattle.ux_inflect.specs.declared.config.Config.{Config}
use Rattle.ux_inflect.specs.declared.exploring.Link.{Link}
use Rattle.ux_inflect.specs.Places.{Place, place_of}
use Rattle.ux_inflect.specs.Searches.{IsExploring, IsNoted}
use Rattle.ux_inflect.specs.Ways.{lists_of}
use Rattle.ux_inflect.specs.Weights.{work_left}
use Rattle.ux_inflect.proofs.ExploringLemmas.{exploring_start, explored, turn_kept, turn_less}
use Rattle.ux_inflect.proofs.ListLemmas.{map_push, there}
use Rattle.ux_inflect.proofs.TurnsLemmas.{length_lists}
use Rattle.ux_inflect.proofs.exploring.explore.Goals as goal

pub loop-alloc-init : goal.loop-alloc-init
loop-alloc-init c =
    subst (λ (links : List _). IsExploring c.args.detail c.args.net.now (place_of c.args.start)
    c.in_ok-configs.configs.keys (lists_of links)) (sym c.new-links.ensures.items)
    (exploring_start c.args.detail c.args.net.now c.in_ok-configs.configs.keys c.args.start
    c.in_ok-configs.ensures c.requires.met)

pub loop-alloc-preserved : goal.loop-alloc-preserved
loop-alloc-preserved c =
    let d = c.args.detail in
    let net = c.args.net.now in
    let keys = c.loop-alloc.configs.keys in
    let rows = c.loop-alloc.links.items in
    let links = lists_of rows in
    let len = length_lists rows in
    let ok = c.loop-alloc.links.ok.0 in
    let few : c.len.result < length keys =
    subst (λ (k : List Config). c.len.result < length k) c.as_slice.ensures.keys
    c.loop-alloc-test.true in
    let at = there keys (length links) (let l = c.len.ensures in omega (arith, len, ok, l, few)) in
    let number : c.len-in-loop-alloc.result ≡ length links =
    (let l = c.len-in-loop-alloc.ensures in omega (arith, len, ok, l)) in
    let steps = c.in_ok-found.ensures at.0
    (subst (λ n. slice_get keys n ≡ Some at.0) (sym number) at.1) in
    let noted = subst (λ (s : List (List ℕ × Place)). IsNoted keys s c.note_all.new.configs.keys
    c.in_ok-row.row.items) steps c.in_ok-row.ensures in
    subst (λ (l : List (List Link)). IsExploring d net (place_of c.args.start)
    c.note_all.new.configs.keys l)
    (sym (map_push (λ (row : Vec Link _). row.items) rows c.in_ok-row.row)
    ∙ ap lists_of (sym c.in_ok-push.ensures.items))
    (turn_kept d net c.args.ranks.now c.requires.ranks (place_of c.args.start) keys links at.0
    c.note_all.new.configs.keys c.in_ok-row.row.items c.loop-alloc.invariant at.1 noted)

pub loop-alloc-smaller : goal.loop-alloc-smaller
loop-alloc-smaller c =
    let d = c.args.detail in
    let net = c.args.net.now in
    let ranks = c.args.ranks.now in
    let keys = c.loop-alloc.configs.keys in
    let n = c.loop-alloc.links.len in
    let few : c.len.result < length keys =
    subst (λ (k : List Config). c.len.result < length k) c.as_slice.ensures.keys
    c.loop-alloc-test.true in
    let at = there keys n (let l = c.len.ensures in omega (arith, l, few)) in
    let steps = c.in_ok-found.ensures at.0 (subst (λ m. slice_get keys m ≡ Some at.0)
    (sym c.len-in-loop-alloc.ensures) at.1) in
    let noted = subst (λ (s : List (List ℕ × Place)). IsNoted keys s c.note_all.new.configs.keys
    c.in_ok-row.row.items) steps c.in_ok-row.ensures in
    let more : c.push.new.self.len ≡ suc n = (let l = c.in_ok-push.ensures.len in omega (arith, l)) in
    subst (λ m. work_left net ranks (drop m c.note_all.new.configs.keys)
    < work_left net ranks (drop n keys)) (sym more)
    (turn_less d net ranks c.requires.ranks keys n at.0 c.note_all.new.configs.keys
    c.in_ok-row.row.items (c.loop-alloc.invariant.met n at.0 at.1) at.1 noted)

pub returns : goal.returns
returns c = explored c.args.detail c.args.net.now (place_of c.args.start) c.loop-alloc.configs.keys
    (lists_of c.loop-alloc.links.items) c.loop-alloc.invariant
    (let len = length_lists c.loop-alloc.links.items in
    let ok = c.loop-alloc.links.ok.0 in
    let l = c.len.ensures in
    let few : length c.loop-alloc.configs.keys ≤ c.len.result =
    subst (λ (k : List Config). length k ≤ c.len.result) c.as_slice.ensures.keys
    c.loop-alloc-test.false in
    omega (arith, len, ok, l, few))
