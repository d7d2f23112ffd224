use Rattle.std.proofs.Common.{refl, ◌≡◌, ◌∷◌, []}
use Rattle.ux_dela.specs.Signs.{COMMA, BACKSLASH}
use Rattle.ux_dela.proofs.CutLemmas.{last_place, characters_some, is_none, is_some_text}
use Rattle.ux_dela.proofs.StemLemmas.{open_stem_codes, stem_empty, stem_is_cut, bytes_of_stem}
use Rattle.ux_dela.proofs.delas.cut_behind_lemma.Goals as goal

pub returns-then-is_backslash-clause-err : goal.returns-then-is_backslash-clause-err
returns-then-is_backslash-clause-err c =
    let line = c.args.line.now in
    let lemma = c.args.lemma.now in
    let behind = c.args.behind.now in (
      refl,
      open_stem_codes line lemma behind c.split_part.result.0.now c.split_part.result.1.now
          c.requires.whole c.requires.lemma c.split_part.ensures.split
          (c.if-is_backslash.ensures.0 refl),
      last_place line lemma behind COMMA c.requires.whole,
    )

pub returns-then-is_empty-clause-err : goal.returns-then-is_empty-clause-err
returns-then-is_empty-clause-err c =
    let none =
    is_none c.is_empty.result c.args.lemma.now c.is_empty.ensures c.if-is_empty.true in
    let other : c.split_part.result.1.now ≡ BACKSLASH ∷ [] → ⊥ =
    λ e. (let t = c.is_backslash.ensures.1 e in cc) in (
      refl,
      stem_empty c.args.line.now c.args.lemma.now c.args.behind.now
          c.split_part.result.0.now c.split_part.result.1.now c.requires.whole c.requires.lemma
          c.split_part.ensures.split other none,
      refl,
    )

pub returns-clause-ok : goal.returns-clause-ok
returns-clause-ok c =
    let some =
    is_some_text c.is_empty.result c.args.lemma.now c.is_empty.ensures c.if-is_empty.false in
    let other : c.split_part.result.1.now ≡ BACKSLASH ∷ [] → ⊥ =
    λ e. (let t = c.is_backslash.ensures.1 e in cc) in
    record {
      is_cut = stem_is_cut c.args.line.now c.args.lemma.now c.args.behind.now
          c.split_part.result.0.now c.split_part.result.1.now c.requires.whole c.requires.lemma
          c.split_part.ensures.split other;
      some_lemma = characters_some c.args.lemma.now some;
      bytes = bytes_of_stem c.args.line.now c.args.lemma.now c.args.behind.now
          c.split_part.result.0.now c.split_part.result.1.now c.requires.whole
          c.split_part.ensures.split;
    }
