use Rattle.std.proofs.Common.{arith, ◌≡◌, ◌+◌, ◌∷◌, ◌++◌, ◌∙◌, ℕ, suc, List, [], add-one, ap, length, map, subst, subst₂, sym}
use Rattle.std.proofs.lemmas.List.{length_push}
use Rattle.ux_flatten.specs.Making.{IsSizeRow, size_at, size_from, word_at}
use Rattle.ux_flatten.proofs.SizesLaw.{own_row, row_above, rows_more}
use Rattle.ux_flatten.proofs.sizes.sizes_to.Goals as goal

pub loop-alloc-init : goal.loop-alloc-init
loop-alloc-init c =
    let graphs = c.args.graphs.now in
    let words = word_at c.args.words.now in
    let none : length c.new-rows.result.items ≡ 0 = ap length c.new-rows.ensures.items in
    record {
      few = omega (arith, none);
      each = λ d lt. absurd (omega (arith, lt, none));
      next = subst (λ (n : ℕ). IsSizeRow graphs words n c.in_ok-row.row.items) (sym none)
          (subst (λ (l : List ℕ). IsSizeRow graphs words 0 l) (sym c.in_ok-row.ensures)
          (own_row graphs words));
    }

pub loop-alloc-preserved : goal.loop-alloc-preserved
loop-alloc-preserved c =
    let graphs = c.args.graphs.now in
    let words = word_at c.args.words.now in
    let rows : List (List ℕ) = c.loop-alloc.rows.items in
    let row : List ℕ = c.loop-alloc.row.items in
    let grown : c.push.new.self.items ≡ rows ++ row ∷ [] =
    c.in_ok-push.ensures.items ∙ ap (λ (r : List ℕ). rows ++ r ∷ []) c.new.ensures in
    let longer : length c.push.new.self.items ≡ length rows + 1 =
    ap length grown ∙ length_push rows row in
    let next : suc (length rows) ≡ length c.push.new.self.items = sym (add-one (length rows)) ∙ sym longer in
    let above : map (size_from words (size_at row)) graphs ≡ c.in_ok-above.above.items =
    ap (λ (r : List ℕ). map (size_from words (size_at r)) graphs) (sym c.deref.ensures.value)
    ∙ sym c.in_ok-above.ensures in
    record {
      few = omega (
        arith,
        longer,
        c.len.ensures,
        c.loop-alloc-test.true,
        c.loop-alloc.rows.ok.0,
      );
      each = rows_more graphs words rows c.push.new.self.items row grown c.loop-alloc.invariant.each
          c.loop-alloc.invariant.next;
      next = subst₂ (λ (n : ℕ) (l : List ℕ). IsSizeRow graphs words n l) next above
          (row_above graphs words c.requires (length rows) row c.loop-alloc.invariant.next);
    }

pub returns : goal.returns
returns c =
    let graphs = c.args.graphs.now in
    let words = word_at c.args.words.now in
    let rows : List (List ℕ) = c.loop-alloc.rows.items in
    let row : List ℕ = c.loop-alloc.row.items in
    let grown : c.push-2.new.self.items ≡ rows ++ row ∷ [] =
    c.in_ok-push-2.ensures.items ∙ ap (λ (r : List ℕ). rows ++ r ∷ []) c.new-2.ensures in
    let longer : length c.push-2.new.self.items ≡ length rows + 1 =
    ap length grown ∙ length_push rows row in
    let all : length rows ≡ c.args.depth = omega (
      arith,
      c.loop-alloc.invariant.few,
      c.len.ensures,
      c.loop-alloc-test.false,
      c.loop-alloc.rows.ok.0,
    ) in
    record {
      count = omega (arith, longer, all);
      row = λ d le. rows_more graphs words rows c.push-2.new.self.items row grown
          c.loop-alloc.invariant.each c.loop-alloc.invariant.next d
          (omega (arith, le, longer, all));
    }
