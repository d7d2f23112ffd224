use Rattle.std.proofs.Common.{List, ℕ, arith, subst, sym}
use Rattle.std.specs.Prelude.{All, Vec}
use Rattle.std.proofs.lemmas.List.Elements.{All-push}
use Rattle.ux_dela.specs.Sound.{IsSound}
use Rattle.ux_dela.specs.declared.entry.Entry.{Entry}
use Rattle.ux_tokens.specs.Numbers.{different_texts}
use Rattle.ux_apply.specs.Applying.{AreApplying, contents}
use Rattle.ux_apply.specs.Kept.{IsStart}
use Rattle.ux_apply.proofs.FirstLemmas.{numbered-end, numbered-more, place-within}
use Rattle.ux_apply.proofs.numbered.ask_each.Goals as goal

pub token-requires : goal.token-requires
token-requires g c =
    place-within c.args.text.now (different_texts c.args.text.now) c.args.places.now c.requires
    c.loop-place.place-index (omega arith)

pub loop-place-preserved : goal.loop-place-preserved
loop-place-preserved g c = record {
  applying = numbered-more
      (λ (text : List ℕ) (row : Vec Entry _). AreApplying c.args.alphabet.now
      (contents g.L.Lexicon.content c.args.dics.now) text row.items)
      c.args.text.now (different_texts c.args.text.now) c.args.places.now c.requires
      c.loop-place.place-index (omega arith) c.token.result.now c.token.ensures
      c.loop-place.entries.items c.push.new.self.items c.in_ok-answer.answer.entries
      c.loop-place.invariant.applying c.in_ok-answer.ensures.applying c.in_ok-push.ensures.items;
  sound = subst (λ (l : List (Vec Entry _)). All (λ row. All IsSound row.items) l)
      (sym c.in_ok-push.ensures.items)
      (All-push (λ row. All IsSound row.items) c.loop-place.entries.items
      c.in_ok-answer.answer.entries c.loop-place.invariant.sound c.in_ok-answer.ensures.sound);
  starts = numbered-more
      (IsStart c.args.alphabet.now (contents g.L.Lexicon.content c.args.dics.now))
      c.args.text.now (different_texts c.args.text.now) c.args.places.now c.requires
      c.loop-place.place-index (omega arith) c.token.result.now c.token.ensures
      c.loop-place.starts.items c.push-in-loop-place.new.self.items c.in_ok-answer.answer.start
      c.loop-place.invariant.starts c.in_ok-answer.ensures.start c.in_ok-push-2.ensures.items;
}

pub returns : goal.returns
returns g c = record {
  applying = numbered-end
      (λ (text : List ℕ) (row : Vec Entry _). AreApplying c.args.alphabet.now
      (contents g.L.Lexicon.content c.args.dics.now) text row.items)
      c.args.text.now (different_texts c.args.text.now) c.args.places.now c.requires
      c.loop-place.place-index (omega arith) c.loop-place.entries.items
      c.loop-place.invariant.applying;
  sound = c.loop-place.invariant.sound;
  starts = numbered-end
      (IsStart c.args.alphabet.now (contents g.L.Lexicon.content c.args.dics.now))
      c.args.text.now (different_texts c.args.text.now) c.args.places.now c.requires
      c.loop-place.place-index (omega arith) c.loop-place.starts.items
      c.loop-place.invariant.starts;
}
