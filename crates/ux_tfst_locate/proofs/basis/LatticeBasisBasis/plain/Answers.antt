use Rattle.std.proofs.Common.{◌∙◌, inl, inr, sym}
use Rattle.std.proofs.lemmas.Bool.{false≢true}
use Rattle.std.proofs.lemmas.Result.{IfOk-weaker}
use Rattle.ux_parts.specs.Runs.{Plain}
use Rattle.ux_tfst_locate.specs.Bases.{input_of}
use Rattle.ux_tfst_locate.specs.Lattices.{rows_of}
use Rattle.ux_tfst_locate.proofs.BasisLemmas.{plain_stays, plain_takes, pushed}
use Rattle.ux_tfst_locate.proofs.basis.LatticeBasisBasis.plain.Goals as goal

pub returns-then-stays_put : goal.returns-then-stays_put
returns-then-stays_put c =
    let basis = c.args.self.now in
    pushed c.args.positions.now.items c.push.new.self.items c.args.at
    (Plain (input_of basis) c.args.label.now c.args.at) c.in_ok-push.ensures.items
    (plain_stays basis.alphabet.now basis.readings.now (rows_of basis.lattice.now) c.args.label.now
    (c.stays_put.ensures.0 c.if-stays_put.true) c.args.at)

pub returns : goal.returns
returns c =
    let basis = c.args.self.now in
    let same = plain_takes basis.alphabet.now basis.readings.now (rows_of basis.lattice.now)
    c.args.label.now
    (λ s. false≢true (sym c.if-stays_put.false ∙ c.stays_put.ensures.1 s)) c.args.at in
    IfOk-weaker c.add_ends.result _ _ (λ done told k. (
      λ has. elim ((told k).0 has) [
        | inl was ↦ inl was
        | inr t ↦ inr ((same k).0 t)
      ],
      λ h. (told k).1 (elim h [
        | inl was ↦ inl was
        | inr p ↦ inr ((same k).1 p)
      ]),
    )) c.add_ends.ensures
