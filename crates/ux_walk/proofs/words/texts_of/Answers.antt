use Rattle.std.proofs.Common.{◌≡◌, ◌<◌, ◌≤◌, ◌∙◌, ◌+◌, Bor, List, ℕ, ap, arith, length, subst, sym}
use Rattle.std.proofs.lemmas.List.{length-map, take_all}
use Rattle.ux_base.specs.Distinct.{with_text}
use Rattle.ux_tokens.specs.Numbers.{different_texts, texts_in}
use Rattle.ux_walk.proofs.WordsLemmas.{IsTable, table_more, table_same}
use Rattle.ux_walk.proofs.words.texts_of.Goals as goal
use Rattle.ux_walk.proofs.words.texts_of.Goals.{then-len-number+in_ok-number_of, else-len-number}

pub loop-i-preserved : goal.loop-i-preserved
loop-i-preserved c =
    let tokens = c.args.text.now in
    let i = c.loop-i.i in
    let texts = texts_in c.loop-i.texts in
    let n = c.number-number.result in
    let long : length texts ≡ length c.loop-i.texts.keys =
    length-map c.loop-i.texts.keys (λ (s : Bor (List ℕ)). s.now) in
    elim c.if-len-number.branch [
      | then-len-number+in_ok-number_of w ↦
          let more = texts_in c.if-len-number.texts in
          let text = w.token.result.now in
          let is : more ≡ with_text texts text =
          ap texts_in w.texts-is ∙ w.in_ok-number_of.ensures.texts in
          let room : length texts < 4294967296 = omega (arith, c.len.ensures.len) in
          table_more tokens i texts c.loop-i.invariant more text is room w.token.utf8
          w.token.ensures
      | else-len-number w ↦
          let below : n < length texts = omega (arith, c.len.ensures.len) in
          subst (IsTable tokens (i + 1)) (ap texts_in (sym w.texts-is))
          (table_same tokens i texts c.loop-i.invariant n below c.number-number.ensures.place)
    ]

pub returns-clause-texts : goal.returns-clause-texts
returns-clause-texts c =
    let past : length c.args.text.now ≤ c.loop-i.i = omega arith in
    c.loop-i.invariant.texts_are ∙ ap different_texts (take_all c.loop-i.i c.args.text.now past)
