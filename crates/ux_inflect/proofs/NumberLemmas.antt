-- A configuration that is put into a set has a number there.
use Rattle.std.proofs.Common.{arith, ◌≡◌, ℕ, ◌+◌, ◌≤◌, List, [], ◌∷◌, ◌++◌, refl, sym, ◌∙◌, ap, subst, inl, inr, Bool, true, false, cond, Some, None, map, append_assoc, append-nil}
use Rattle.std.specs.Prelude.{◌&&◌, Contains, Option, option_map, reverse, slice_get, string_bytes}
use Rattle.std.specs.List.{list_any}
use Rattle.std.proofs.lemmas.Bool.{cases_Bool, false≢true, eqb-true}
use lib.Dec.{eqb}
use lib.Pointwise.{pointwise}
use Rattle.std.specs.Option.{option_eq}
use Rattle.std.proofs.lemmas.List.Elements.{Contains-append_left, Contains-append_right, Contains-append_cases}
use Rattle.indexmap.specs.IndexSet.{insert_key}
use Rattle.ux_base.proofs.DistinctLemmas.{slice_get-append}
use Rattle.ux_base.proofs.Lists.{nothing_in, first_or_later, contains_first}
use Rattle.ux_inflect.specs.declared.config.Config.{Config}
use Rattle.ux_inflect.specs.declared.config.Frame.{Frame}
use Rattle.ux_inflect.specs.declared.exploring.Link.{Link}
use Rattle.ux_inflect.specs.declared.form.Form.{Form}
use Rattle.ux_inflect.specs.declared.stepping.Successor.{Successor}
use Rattle.ux_inflect.specs.Places.{Place, cursor_of, place_of, step_of}
use Rattle.ux_inflect.specs.Searches.{IsAt, IsNumbered, IsNoted, IsNoting}
use Rattle.ux_inflect.specs.Strokes.{Cursor}
use Rattle.ux_inflect.specs.Weights.{total}

-- the number of what was put in, where what stands there has its place
pub numbered : (eq : Config → Config → Bool) (old new : List Config) (config : Config) (n : ℕ)
    (stored : Config) → new ≡ insert_key eq old config → slice_get new n ≡ Some stored →
    place_of config ≡ place_of stored → IsNumbered old config new n
numbered eq old new config n stored is found same = record {
  at = (stored, found, sym same);
  grown = elim (cases_Bool (list_any (eq config) old)) [
    | inl e ↦ inl (is ∙ ap (λ (b : Bool). cond b old (old ++ config ∷ [])) e)
    | inr e ↦ inr (is ∙ ap (λ (b : Bool). cond b old (old ++ config ∷ [])) e)
  ];
}

-- two tests that both pass
pub both : (b c : Bool) → (b && c) ≡ true → (b ≡ true) × (c ≡ true)
both true c h = (refl, h)
both false c h = absurd (false≢true h)

pub same_frame : (a b : Frame) → (eqb a.graph b.graph && eqb a.state b.state) ≡ true → a ≡ b
same_frame a b h =
    let e = both (eqb a.graph b.graph) (eqb a.state b.state) h in
    let g = eqb-true a.graph b.graph e.0 in
    let s = eqb-true a.state b.state e.1 in
    λ i. record { graph = g i; state = s i }

pub same_frames : (E : Frame → Frame → Bool) → ((a b : Frame) → E a b ≡ true → a ≡ b) →
    (xs ys : List Frame) → pointwise E xs ys ≡ true → xs ≡ ys
same_frames E tells [] [] h = refl
same_frames E tells [] (y ∷ ys) h = absurd (false≢true h)
same_frames E tells (x ∷ xs) [] h = absurd (false≢true h)
same_frames E tells (x ∷ xs) (y ∷ ys) h =
    let e = both (E x y) (pointwise E xs ys) h in
    let f = tells x y e.0 in
    let g = same_frames E tells xs ys e.1 in
    λ i. f i ∷ g i

pub same_forms : (E : Form → Form → Bool) →
    ((a b : Form) → E a b ≡ true → cursor_of a ≡ cursor_of b) → (o p : Option Form) →
    option_eq E o p ≡ true → option_map cursor_of o ≡ option_map cursor_of p
same_forms E tells None None h = refl
same_forms E tells None (Some y) h = absurd (false≢true h)
same_forms E tells (Some x) None h = absurd (false≢true h)
same_forms E tells (Some x) (Some y) h = ap (λ (c : Cursor). Some c) (tells x y h)

pub same_cursor : (a b : Form) → a.left.items ≡ b.left.items → a.right.items ≡ b.right.items →
    cursor_of a ≡ cursor_of b
same_cursor a b l r = λ i. record { left = reverse (l i); right = reverse (r i) }

pub same_config : (a b : Config) → a.frames.items ≡ b.frames.items →
    option_map cursor_of a.form ≡ option_map cursor_of b.form →
    string_bytes a.output ≡ string_bytes b.output → a.codes ≡ b.codes → place_of a ≡ place_of b
same_config a b f c o k =
    λ i. record { frames = reverse (f i); cursor = c i; output = o i; codes = k i }

total_append : {A : Type 0} (f : A → ℕ) (xs ys : List A) → total f (xs ++ ys) ≡ total f xs + total f ys
total_append f [] ys = omega arith
total_append f (x ∷ xs) ys = let r = total_append f xs ys in omega (arith, r)

pub steps_pushed : (xs : List Successor) (x : Successor) →
    map step_of (xs ++ x ∷ []) ≡ map step_of xs ++ step_of x ∷ []
steps_pushed [] x = refl
steps_pushed (y ∷ xs) x = ap (λ (l : List (List ℕ × Place)). step_of y ∷ l) (steps_pushed xs x)

at_grown : (old config_list : List Config) (n : ℕ) (q : Place) → IsAt old n q →
    IsAt (old ++ config_list) n q
at_grown old more n q at = (at.0, slice_get-append old more n at.0 at.1, at.2)

pub noting_none : (old : List Config) (steps : List (List ℕ × Place)) → IsNoting old steps steps old []
noting_none old steps = record {
  more = [];
  grown = sym (append-nil old);
  whole = λ text q c. inl c;
  only = λ link c. absurd (nothing_in c);
  of_steps = λ s c. c;
  light = λ weigh. omega arith;
  from = λ config c. absurd (nothing_in c);
}

-- one step more has its link
module _ (old : List Config) (steps left : List (List ℕ × Place)) (config : Config) (text : List ℕ)
    (mid new : List Config) (row : List Link) (link : Link) where
  abbrev the_step : List ℕ × Place
  the_step = (text, place_of config)

  pub noting_next : IsNoting old steps (left ++ the_step ∷ []) mid row → link.text ≡ text →
      IsNumbered mid config new link.to → IsNoting old steps left new (row ++ link ∷ [])
  noting_next known same numbered = elim numbered.grown [
    | inl e ↦ by [] (e ∙ (known.grown ∙ ap (λ (l : List Config). old ++ l) (sym (append-nil known.more))))
        (λ n q at. subst (λ (k : List Config). IsAt k n q) (sym e) at)
        (λ weigh. omega arith) (λ c h. absurd (nothing_in h))
    | inr e ↦ by (config ∷ []) (e ∙ (ap (λ (l : List Config). l ++ config ∷ []) known.grown
        ∙ append_assoc old known.more (config ∷ [])))
        (λ n q at. subst (λ (k : List Config). IsAt k n q) (sym e) (at_grown mid (config ∷ []) n q at))
        (λ weigh. omega arith)
        (λ c h. elim (first_or_later config [] c h) [
          | inl f ↦ sym f
          | inr l ↦ absurd (nothing_in l)
        ])
  ]
    where
      there : Contains steps the_step
      there = known.of_steps the_step (Contains-append_right left (the_step ∷ []) the_step
          (contains_first the_step []))

      by : (one : List Config) → new ≡ old ++ (known.more ++ one) →
          ((n : ℕ) (q : Place) → IsAt mid n q → IsAt new n q) →
          ((weigh : Place → ℕ) → total (λ (c : Config). weigh (place_of c)) one ≤ weigh (place_of config)) →
          ((c : Config) → Contains one c → c ≡ config) →
          IsNoting old steps left new (row ++ link ∷ [])
      by one grown kept light is = record {
        more = known.more ++ one;
        grown = grown;
        whole = λ t q c. elim (known.whole t q c) [
          | inl l ↦ elim (Contains-append_cases left (the_step ∷ []) (t, q) l) [
            | inl before ↦ inl before
            | inr last ↦ elim (first_or_later the_step [] (t, q) last) [
              | inl f ↦ inr (
                link,
                Contains-append_right row (link ∷ []) link (contains_first link []),
                same ∙ ap (λ (s : List ℕ × Place). s.0) f,
                subst (λ (p : Place). IsAt new link.to p) (ap (λ (s : List ℕ × Place). s.1) f)
                    numbered.at,
              )
              | inr none ↦ absurd (nothing_in none)
            ]
          ]
          | inr l ↦ inr (l.0, Contains-append_left row (link ∷ []) l.0 l.1, l.2, kept l.0.to q l.3)
        ];
        only = λ l c. elim (Contains-append_cases row (link ∷ []) l c) [
          | inl before ↦ (let o = known.only l before in (o.0, o.1, kept l.to o.0 o.2))
          | inr last ↦ elim (first_or_later link [] l last) [
            | inl f ↦ subst (λ (l : Link). (q : Place) × Contains steps (l.text, q) × IsAt new l.to q) f (
              place_of config,
              subst (λ (t : List ℕ). Contains steps (t, place_of config)) (sym same) there,
              numbered.at,
            )
            | inr none ↦ absurd (nothing_in none)
          ]
        ];
        of_steps = λ s c. known.of_steps s (Contains-append_left left (the_step ∷ []) s c);
        light = λ weigh.
            let k = known.light weigh in
            let a = total_append (λ (c : Config). weigh (place_of c)) known.more one in
            let b = total_append (λ (s : List ℕ × Place). weigh s.1) left (the_step ∷ []) in
            let l = light weigh in
            omega (arith, k, a, b, l);
        from = λ c h. elim (Contains-append_cases known.more one c h) [
          | inl before ↦ known.from c before
          | inr last ↦ subst (λ (x : Config). (t : List ℕ) × Contains steps (t, place_of x))
              (sym (is c last)) (text, there)
        ];
      }

-- when no step is left
pub noting_over : (old : List Config) (steps : List (List ℕ × Place)) (new : List Config)
    (row : List Link) → IsNoting old steps [] new row → IsNoted old steps new row
noting_over old steps new row known = record {
  more = known.more;
  grown = known.grown;
  links = record {
    whole = λ text q c. elim (known.whole text q c) [
      | inl none ↦ absurd (nothing_in none)
      | inr l ↦ l
    ];
    only = known.only;
  };
  light = λ weigh. let k = known.light weigh in omega (arith, k);
  from = known.from;
}
