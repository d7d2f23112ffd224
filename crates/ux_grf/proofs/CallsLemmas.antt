-- A set that grows by one name at a time has the names so far, each at its first place.
use Rattle.std.proofs.Common.{◌≡◌, ℕ, ◌↔◌, Bool, true, false, ◌||◌, inl, inr, List, [], ◌∷◌, map, refl, sym, ◌∙◌, ap, subst, Bor}
use Rattle.std.specs.Prelude.{Contains}
use Rattle.std.specs.List.{flat_map, list_any}
use Rattle.std.specs.Str.{bytes_eq}
use Rattle.std.proofs.lemmas.List.{map-append}
use Rattle.std.proofs.lemmas.List.Elements.{Contains-append_left, Contains-append_right, Contains-append_cases}
use Rattle.indexmap.specs.IndexSet.{insert_key}
use Rattle.ux_base.specs.Distinct.{with_text}
use Rattle.ux_base.proofs.FirstsLemmas.{Contains-first, Contains-after, Contains-cases, Contains-none}
use Rattle.ux_grf.specs.declared.graph.Graph.{Graph}
use Rattle.ux_grf.specs.declared.graph.GrfBox.{GrfBox}
use Rattle.ux_grf.specs.declared.item.Item.{Item}
use Rattle.ux_grf.specs.declared.item.Item.TheVariants.{Literal, Quoted, Mask, Brace, NoSpace, Empty, Call, Begin, End, Positive, Negative, ContextEnd, Cut}
use Rattle.ux_grf.specs.Needs.{calls_of_item, calls_of_line, calls_of_box, calls_of}

-- the same test on names of a set and on their bytes
list_any-slices : (text : List ℕ) (slices : List (Bor (List ℕ))) →
    list_any (λ (s : Bor (List ℕ)). bytes_eq text s.now) slices
    ≡ list_any (bytes_eq text) (map (λ (s : Bor (List ℕ)). s.now) slices)
list_any-slices text [] = refl
list_any-slices text (s ∷ slices) =
    ap (λ (b : Bool). bytes_eq text s.now || b) (list_any-slices text slices)

pub names-insert : (slices : List (Bor (List ℕ))) (text : Bor (List ℕ)) →
    map (λ (s : Bor (List ℕ)). s.now) (insert_key (λ x y. bytes_eq x.now y.now) slices text)
    ≡ with_text (map (λ (s : Bor (List ℕ)). s.now) slices) text.now
names-insert slices text =
    by (list_any (λ (s : Bor (List ℕ)). bytes_eq text.now s.now) slices) refl
  where
    by : (b : Bool) → list_any (λ (s : Bor (List ℕ)). bytes_eq text.now s.now) slices ≡ b →
        map (λ (s : Bor (List ℕ)). s.now) (insert_key (λ x y. bytes_eq x.now y.now) slices text)
        ≡ with_text (map (λ (s : Bor (List ℕ)). s.now) slices) text.now
    by true is =
        let there : list_any (bytes_eq text.now) (map (λ (s : Bor (List ℕ)). s.now) slices) ≡ true =
        sym (list_any-slices text.now slices) ∙ is in
        rw (is, there) refl
    by false is =
        let there : list_any (bytes_eq text.now) (map (λ (s : Bor (List ℕ)). s.now) slices) ≡ false
        =
        sym (list_any-slices text.now slices) ∙ is in
        rw (is, there) (map-append (λ (s : Bor (List ℕ)). s.now) slices (text ∷ []))

-- what is joined is contained in a part
flat_map-Contains : {X Y : Type 0} (f : X → List Y) (xs : List X) (y : Y) →
    Contains (flat_map f xs) y ↔ ((x : X) × Contains xs x × Contains (f x) y)
flat_map-Contains f [] y =
    ((λ h. absurd (Contains-none y h)), (λ (x, here, there). absurd (Contains-none x here)))
flat_map-Contains f (x ∷ xs) y =
    let rest = flat_map-Contains f xs y in (
      (λ h. elim (Contains-append_cases (f x) (flat_map f xs) y h) [
        | inl h ↦ (x, Contains-first x xs, h)
        | inr h ↦
            let found = rest.0 h in
            (found.0, Contains-after x found.0 xs found.1, found.2)
      ]),
      (λ (z, here, there). elim (Contains-cases x z xs here) [
        | inl e ↦
            Contains-append_left (f x) (flat_map f xs) y
            (subst (λ w. Contains (f w) y) (sym e) there)
        | inr h ↦ Contains-append_right (f x) (flat_map f xs) y (rest.1 (z, h, there))
      ]),
    )

-- only a call calls, and it calls one name
calls_only : (item : Item) (name : List ℕ) → Contains (calls_of_item item) name →
    item ≡ Call name
calls_only (Literal text) name h = absurd (Contains-none name h)
calls_only (Quoted text) name h = absurd (Contains-none name h)
calls_only (Mask text) name h = absurd (Contains-none name h)
calls_only (Brace text) name h = absurd (Contains-none name h)
calls_only NoSpace name h = absurd (Contains-none name h)
calls_only Empty name h = absurd (Contains-none name h)
calls_only (Call other) name h = elim (Contains-cases other name [] h) [
  | inl e ↦ ap Call e
  | inr h ↦ absurd (Contains-none name h)
]
calls_only (Begin text) name h = absurd (Contains-none name h)
calls_only (End text) name h = absurd (Contains-none name h)
calls_only Positive name h = absurd (Contains-none name h)
calls_only Negative name h = absurd (Contains-none name h)
calls_only ContextEnd name h = absurd (Contains-none name h)
calls_only Cut name h = absurd (Contains-none name h)

-- the names are those that some line of some box calls
pub calls_of-Contains : (graph : Graph) (name : List ℕ) →
    Contains (calls_of graph) name
    ↔ ((b : GrfBox) × (line : List Item) × Contains graph.boxes b × Contains b.lines line
    × Contains line (Call name))
calls_of-Contains graph name = (
  (λ h.
      let box = (flat_map-Contains calls_of_box graph.boxes name).0 h in
      let line = (flat_map-Contains calls_of_line box.0.lines name).0 box.2 in
      let item = (flat_map-Contains calls_of_item line.0 name).0 line.2 in (
        box.0,
        line.0,
        box.1,
        line.1,
        subst (λ (x : Item). Contains line.0 x) (calls_only item.0 name item.2) item.1,
      )),
  (λ (b, line, in_graph, in_box, in_line).
      (flat_map-Contains calls_of_box graph.boxes name).1 (
        b,
        in_graph,
        (flat_map-Contains calls_of_line b.lines name).1 (
          line,
          in_box,
          (flat_map-Contains calls_of_item line name).1 (Call name, in_line, Contains-first name []),
        ),
      )),
)
