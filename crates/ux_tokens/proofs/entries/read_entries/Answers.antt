use Rattle.std.proofs.Common.{ℕ, List, sym, subst}
use Rattle.ux_tokens.specs.Tokens.{IsTag}
use Rattle.ux_tokens.specs.Columns.{pieces_of}
use Rattle.ux_tokens.specs.Entries.{IsPutEntry}
use Rattle.ux_tokens.proofs.EntriesLemmas.{piece_text, text_at, tag_at, right_more, all_more, all_later}
use Rattle.ux_tokens.proofs.entries.read_entries.Goals.{then-is_tag+in_ok-put_entry, else-is_tag}
use Rattle.ux_tokens.proofs.entries.read_entries.Goals as goal

pub put_entry-requires : goal.put_entry-requires
put_entry-requires c =
    let text = c.args.text.now in
    let pieces = pieces_of c.args.cut.now.pieces in
    let i = c.loop-i.i in
    let piece = c.at-piece.result in
    let tag = tag_at text pieces c.requires.0 c.requires.1.tokens.cut.each i piece c.at-piece.ensures
    (c.is_tag.ensures.0 c.if-is_tag.true) in
    let bytes = piece_text text pieces i piece c.part-tag.result.now c.at-piece.ensures
    c.part-tag.ensures in
    (tag.0, subst (λ (t : List ℕ). IsTag t tag.0) (sym bytes) tag.1)

pub loop-i-preserved : goal.loop-i-preserved
loop-i-preserved c =
    let text = c.args.text.now in
    let pieces = pieces_of c.args.cut.now.pieces in
    let i = c.loop-i.i in
    let piece = c.at-piece.result in
    let at = c.at-piece.ensures in
    let inv = c.loop-i.invariant in
    elim c.if-is_tag.branch [
      | then-is_tag+in_ok-put_entry w ↦
          (let bytes = piece_text text pieces i piece w.part-tag.result.now at w.part-tag.ensures in
          let put : IsPutEntry c.loop-i.entries w.put_entry.new.entries piece.number
          (text_at text pieces i piece.end) =
          subst (λ (t : List ℕ).
          IsPutEntry c.loop-i.entries w.put_entry.new.entries piece.number t) bytes
          w.in_ok-put_entry.ensures in
          rw w.entries-is
          (record {
            right = right_more text pieces c.requires.1.pieces i piece c.loop-i.entries
                w.put_entry.new.entries at put inv.right;
            all = all_more text pieces i piece c.loop-i.entries w.put_entry.new.entries at put
                inv.all;
          }))
      | else-is_tag w ↦
          rw w.entries-is
          (record {
            right = inv.right;
            all = all_later text pieces i piece c.loop-i.entries at
                (λ tag. let t = c.is_tag.ensures.1 tag in let f = w.if-is_tag.false in cc) inv.all;
          })
    ]
