use Rattle.std.proofs.Common.{List, ℕ, ◌<◌, length, sym, subst}
use Rattle.std.specs.Prelude.{All}
use Rattle.ux_admission.proofs.LeadingLemmas.{pairs_inside, rows_source}
use Rattle.ux_admission.proofs.leading.leading_of.Goals as goal

pub rows_of-requires : goal.rows_of-requires
rows_of-requires c = record {
  inside = subst (λ (pairs : List (ℕ × ℕ)).
      All (λ (p : ℕ × ℕ). p.0 < length c.args.places.now) pairs) (sym c.deref.ensures.value)
      (pairs_inside c.args.places.now c.requires.inside c.in_ok-pairs.pairs.items c.in_ok-pairs.ensures);
}

pub returns : goal.returns
returns c = record {
  sources_len = c.in_ok-sources.ensures.len;
  marks_len = c.in_ok-marks.ensures.len;
  source = rows_source c.args.places.now c.in_ok-pairs.pairs.items c.deref.result.now
      c.in_ok-sources.sources.items c.in_ok-pairs.ensures c.deref.ensures.value
      c.in_ok-sources.ensures.rows;
  marked = c.in_ok-marks.ensures.marks;
}
