use Rattle.std.proofs.Common.{arith, rules, ℕ, ◌+◌, ◌-◌, ◌≡◌, ◌∙◌, ◌↔◌, ap, sym, subst, length, List, Bool, Vec, Global, refl, true, set}
use Rattle.std.specs.Prelude.{Contains, IsTrue}
use Rattle.std.proofs.lemmas.Bool.{false≢true}
use Rattle.ux_tfst_locate.specs.declared.lattice.Arc.{Arc}
use Rattle.ux_tfst_locate.specs.declared.lattice.Place.{Place}
use Rattle.ux_tfst_locate.specs.Lattices.{rows_of, row_at}
use Rattle.ux_tfst_locate.specs.Reaching.{IsLast, IsSoAt}
use Rattle.ux_tfst_locate.proofs.ReachingLemmas.{AreLeadingFrom, LeadsToMarked, Marked, leading_all, leading_more, leading_none, leading_past}
use Rattle.ux_tfst_locate.proofs.reaching.leading.Goals as goal
use Rattle.ux_tfst_locate.proofs.reaching.leading.Goals.{then-some_marked, else-some_marked}

pub loop-done-init : goal.loop-done-init
loop-done-init c =
    let marks = c.in_ok-marks.marks.items in
    leading_none c.args.lattice.now.places.items (rows_of c.args.lattice.now) c.requires.ahead marks
    (c.in_ok-marks.ensures.count ∙ ap (λ (ps : List Place). length ps) c.as_slice.ensures.value)
    (subst (λ (ps : List Place). (j : ℕ) → Marked marks j ↔ IsSoAt IsLast ps j)
    c.as_slice.ensures.value c.in_ok-marks.ensures.marks)

pub some_marked-requires : goal.some_marked-requires
some_marked-requires c = λ arc has.
    let on = c.requires.ahead (c.len-count.result - 1 - c.loop-done.done) arc
    (subst (λ (row : List Arc). Contains row arc) c.row.ensures has) in
    let count = c.loop-done.invariant.count in
    let same = ap (λ (ms : List Bool). length ms) c.deref.ensures.value in
    omega (arith, on.1, count, same)

pub loop-done-preserved : goal.loop-done-preserved
loop-done-preserved c =
    let places = c.args.lattice.now.places.items in
    let rows = rows_of c.args.lattice.now in
    let marks = c.loop-done.marks.items in
    let done = c.loop-done.done in
    let at = c.len-count.result - 1 - done in
    let inv = c.loop-done.invariant in
    let len : c.len-count.result ≡ length places = search rules in
    let placed : length places ≡ at + done + 1 = omega (arith, c.loop-done-test.true, len) in
    let told : IsTrue c.some_marked.result ↔ LeadsToMarked (row_at rows at) marks =
    subst (λ (row : List Arc). IsTrue c.some_marked.result ↔ LeadsToMarked row marks) c.row.ensures
    (subst (λ (ms : List Bool). IsTrue c.some_marked.result ↔ LeadsToMarked c.row.result.now ms)
    c.deref.ensures.value c.some_marked.ensures) in
    elim c.if-some_marked.branch [
      | then-some_marked w ↦
          subst (λ (ms : Vec Bool Global). AreLeadingFrom places rows ms.items (done + 1))
          (sym w.marks-is)
          (leading_more places rows c.requires.ahead marks (set marks at true) done at placed inv
          (told.0 w.if-some_marked.true) refl)
      | else-some_marked w ↦
          subst (λ (ms : Vec Bool Global). AreLeadingFrom places rows ms.items (done + 1))
          (sym w.marks-is)
          (leading_past places rows c.requires.ahead marks done at placed inv
          (λ some. false≢true (sym w.if-some_marked.false ∙ told.1 some)))
    ]

pub returns : goal.returns
returns c =
    let len : c.len-count.result ≡ length c.args.lattice.now.places.items = search rules in
    leading_all c.args.lattice.now.places.items (rows_of c.args.lattice.now) c.requires.ahead
    c.loop-done.marks.items c.loop-done.done (omega (arith, c.loop-done-test.false, len))
    c.loop-done.invariant
