-- Runs in parts.
use Rattle.std.proofs.Common.{◌≡◌, ℕ, List, [], ◌∷◌, ◌++◌, inl, inr, refl, sym, ap, subst, map}
use Rattle.std.specs.Prelude.{Contains}
use Rattle.ux_monitor.specs.declared.rule.Sign.{Sign}
use Rattle.ux_monitor.specs.declared.rule.Sign.TheVariants.{Read}
use Rattle.ux_monitor.specs.declared.rule.Step.{Step}
use Rattle.ux_monitor.specs.Rules.{Run, stop, free, along, Matches, IsFound}
use Rattle.ux_monitor.specs.Monitor.{Closes, Left, Right}

module _ (steps : List Step) where
  pub run_append : {a b c : ℕ} {v w : List Sign} → Run steps a b v → Run steps b c w → Run steps a c (v ++ w)
  run_append stop k = k
  run_append (free s here is h) k = free s here is (run_append h k)
  run_append (along s here is h) k = along s here is (run_append h k)

  pub run_split : {a c : ℕ} {whole : List Sign} → Run steps a c whole → (v w : List Sign) → whole ≡ v ++ w →
      (b : ℕ) × Run steps a b v × Run steps b c w
  run_split {a = a} stop [] w e = (a, stop, subst (λ (x : List Sign). Run steps a a x) e stop)
  run_split stop (x ∷ v) w e = cc
  run_split (free s here is h) v w e = let r = run_split h v w e in (r.0, free s here is r.1, r.2)
  run_split (along {b = b} s here is h) [] w e = (s.from, stop, subst (λ (x : List Sign). Run steps s.from b x) e (along s here is h))
  run_split (along {word = word} s here is h) (x ∷ v) w e =
      let rest : word ≡ v ++ w = cc in
      let sign : s.sign ≡ x = cc in
      let r = run_split h v w rest in
      (r.0, subst (λ (y : Sign). Run steps s.from r.0 (y ∷ v)) sign (along s here is r.1), r.2)

module _ (steps : List Step) (ends : List ℕ) (Passes : ℕ → ℕ → Type 0) where
  -- a right word, and the last mark, from a place
  pub right_of : (mark : Sign) (tests there tail : List ℕ) (p end : ℕ) → Contains ends end → Run steps p end (map Read tests ++ mark ∷ []) →
      Matches steps ends Passes tests there → Right steps ends Passes mark p (there ++ tail)
  right_of mark [] [] [] p end is run m = (end, is, run)
  right_of mark [] [] (x ∷ tail) p end is run m = inl (end, is, run)
  right_of mark [] (x ∷ there) tail p end is run m = absurd m
  right_of mark (t ∷ tests) [] tail p end is run m = absurd m
  right_of mark (t ∷ tests) (r ∷ there) tail p end is run m =
      let s = run_split steps run (Read t ∷ []) (map Read tests ++ mark ∷ []) refl in
      inr (s.0, (t, m.0, s.1), right_of mark tests there tail s.0 end is s.2 m.1)

  pub record RightWord (mark : Sign) (p : ℕ) (after : List ℕ) : Type 0 where
    pub tests : List ℕ
    pub there : List ℕ
    pub tail : List ℕ
    pub begins_here : after ≡ there ++ tail
    pub matches : Matches steps ends Passes tests there
    pub end : ℕ
    pub is_end : Contains ends end
    pub run : Run steps p end (map Read tests ++ mark ∷ [])

  at_once : (mark : Sign) (p : ℕ) (after : List ℕ) → Closes steps ends Passes mark p → RightWord mark p after
  at_once mark p after c = record {
    tests = [];
    there = [];
    tail = after;
    begins_here = refl;
    matches = tt;
    end = c.0;
    is_end = c.1;
    run = c.2;
  }

  pub right_word : (mark : Sign) (after : List ℕ) (p : ℕ) → Right steps ends Passes mark p after → RightWord mark p after
  right_word mark [] p h = at_once mark p [] h
  right_word mark (r ∷ after) p (inl c) = at_once mark p (r ∷ after) c
  right_word mark (r ∷ after) p (inr h) =
      let w = right_word mark after h.0 h.2 in record {
        tests = h.1.0 ∷ w.tests;
        there = r ∷ w.there;
        tail = w.tail;
        begins_here = ap (λ (xs : List ℕ). r ∷ xs) w.begins_here;
        matches = (h.1.1, w.matches);
        end = w.end;
        is_end = w.is_end;
        run = run_append steps h.1.2 w.run;
      }

  -- a pair is found where a left place leads over the middle mark to a right place
  pub record Meeting (mark : Sign) (before after : List ℕ) : Type 0 where
    pub from : ℕ
    pub to : ℕ
    pub left : Left steps ends Passes mark before from
    pub middle : Run steps from to (mark ∷ [])
    pub right : Right steps ends Passes mark to after

  pub found_meets : (mark : Sign) (before after : List ℕ) → IsFound steps ends Passes mark before after → Meeting mark before after
  found_meets mark before after f =
      let s = run_split steps f.pair.2 (mark ∷ map Read f.left) (mark ∷ (map Read f.right ++ mark ∷ [])) refl in
      let t = run_split steps s.2 (mark ∷ []) (map Read f.right ++ mark ∷ []) refl in
      record {
        from = s.0;
        to = t.0;
        left = record { tests = f.left; run = s.1; head = f.head; here = f.here; ends_here = f.ends_here; matches = f.matches_left };
        middle = t.1;
        right = subst (λ (xs : List ℕ). Right steps ends Passes mark t.0 xs) (sym f.begins_here)
            (right_of mark f.right f.there f.tail t.0 f.pair.0 f.pair.1 t.2 f.matches_right);
      }

  pub meeting_found : (mark : Sign) (before after : List ℕ) → Meeting mark before after → IsFound steps ends Passes mark before after
  meeting_found mark before after m =
      let w = right_word mark after m.to m.right in record {
        left = m.left.tests;
        right = w.tests;
        pair = (w.end, w.is_end, run_append steps m.left.run (run_append steps m.middle w.run));
        head = m.left.head;
        here = m.left.here;
        ends_here = m.left.ends_here;
        matches_left = m.left.matches;
        there = w.there;
        tail = w.tail;
        begins_here = w.begins_here;
        matches_right = w.matches;
      }
