-- The rest of a plan, and lists of files that grow while they are read.
use Rattle.std.proofs.Common.{arith, ◌≡◌, inl, inr, ℕ, zero, suc, ◌+◌, ◌-◌, ◌<◌, List, [], ◌∷◌, ◌++◌, length, Option, Some, None, refl, sym, ap, ◌∙◌, subst, length-append}
use Rattle.std.specs.Prelude.{slice_get}
use Rattle.std.proofs.lemmas.Option.{slice_get_past, slice_get_within}
use Rattle.ux_base.specs.Outside.{Files, Seen, IsLater}
use Rattle.ux_plan.specs.declared.stop.Stop.{Stop}
use Rattle.ux_plan.specs.Plans.{Comes, Format, Halts, Plan, Reads, ReadsNext, StopsFile, StopsNext, asks, each, gives, grows, reads}
use Rattle.ux_plan.proofs.PlanLaws.{earlier}

-- what is to come of the rest is what is to come of the whole: so far all was read
pub record IsRest {R A : Type 0} (told : Option Files) (rest whole : Plan R A) : Type 0 where
  pub comes : (a : A) → Comes rest told a → Comes whole told a
  pub halts : (old new : Seen) (stop : Stop R) → old.files ≡ told → Halts rest old new stop →
      Halts whole old new stop

pub rest_same : {R A : Type 0} (told : Option Files) (plan : Plan R A) → IsRest told plan plan
rest_same told plan =
    record { comes = λ a given. given; halts = λ old new stop is stops. stops }

pub rest_along : {R A : Type 0} (told : Option Files) (late mid whole : Plan R A) →
    IsRest told late mid → IsRest told mid whole → IsRest told late whole
rest_along told late mid whole second first = record {
  comes = λ a given. first.comes a (second.comes a given);
  halts = λ old new stop is stops. first.halts old new stop is (second.halts old new stop is stops);
}

pub halts_earlier : {R A : Type 0} (plan : Plan R A) (old mid new : Seen) (stop : Stop R) →
    IsLater old mid → Halts plan mid new stop → Halts plan old new stop
unfolding Halts
halts_earlier plan old mid new stop later stops = earlier plan old mid new stop later stops

module _ {R V N : Type 0} (next : List V → Option N) (file : ℕ → N → List ℕ)
    (format : ℕ → N → Format R V) where
  -- what a growing list reads next, where it is this
  abbrev grows_on : ℕ → List V → Option N → Plan R (List V)
  grows_on most read asked =
      asks asked (gives read) (λ name.
      reads (file (length read) name) (format (length read) name) (λ v.
      grows next file format most (read ++ v ∷ [])))

  -- the next of a growing list was read
  pub grows_more : (told : Option Files) (most : ℕ) (read more : List V) →
      ReadsNext next file format told read more →
      IsRest told (grows next file format most more) (grows next file format (suc most) read)
  unfolding grows Comes Halts
  grows_more told most read more reads_next =
      let name = reads_next.name in
      let v = reads_next.value in
      let whole = grows_on most read (Some name) in
      let rest = grows next file format most (read ++ v ∷ []) in
      let one : IsRest told rest whole = record {
        comes = λ a given. (v, reads_next.has, given);
        halts = λ old new stop is stops.
            inr (
              v,
              subst (λ (t : Option Files). Reads (format (length read) name)
                  (file (length read) name) t v) (sym is) reads_next.has,
              stops,
            );
      } in
      subst (λ (l : List V). IsRest told (grows next file format most l)
      (grows next file format (suc most) read)) (sym reads_next.grown)
      (subst (λ (o : Option N). IsRest told rest (grows_on most read o)) (sym reads_next.asked) one)

  -- the next stops it
  pub grows_stops : (most : ℕ) (read : List V) (old new : Seen) (stop : Stop R) →
      StopsNext next file format read old new stop →
      Halts (grows next file format (suc most) read) old new stop
  unfolding grows Halts
  grows_stops most read old new stop stops =
      subst (λ (o : Option N). Halts (grows_on most read o) old new stop) (sym stops.asked)
      (inl stops.stops)

  -- there is no more
  pub grows_ends : (most : ℕ) (read : List V) (told : Option Files) → next read ≡ None →
      Comes (grows next file format most read) told read
  unfolding grows Comes
  grows_ends zero read told at = refl
  grows_ends (suc most) read told at =
      subst (λ (o : Option N). Comes (grows_on most read o) told read) (sym at) refl

  -- A loop that reads a growing list of less files than the limit, `whole` from its start on.
  module _ (limit : ℕ) (whole : Plan R (List V)) (start mid : Seen) (later : IsLater start mid)
      (read : List V) (few : length read < limit)
      (rest : IsRest start.files (grows next file format (limit - length read) read) whole) where
    one_less : suc (limit - (length read + 1)) ≡ limit - length read
    one_less = omega (arith, few)

    pub loop_more : (more : List V) → ReadsNext next file format mid.files read more →
        IsRest start.files (grows next file format (limit - length more) more) whole
    loop_more more step =
        let left = limit - (length read + 1) in
        let count : length more ≡ length read + 1 =
        ap length step.grown ∙ length-append read (step.value ∷ []) in
        let here = subst (λ (t : Option Files). IsRest t (grows next file format left more)
        (grows next file format (suc left) read)) later.kept
        (grows_more mid.files left read more step) in
        let before = subst (λ (n : ℕ). IsRest start.files (grows next file format n read) whole)
        (sym one_less) rest in
        subst (λ (n : ℕ). IsRest start.files (grows next file format (limit - n) more) whole)
        (sym count) (rest_along start.files (grows next file format left more)
        (grows next file format (suc left) read) whole here before)

    pub loop_stops : (new : Seen) (stop : Stop R) → StopsNext next file format read mid new stop →
        Halts whole start new stop
    loop_stops new stop step =
        let left = limit - (length read + 1) in
        let before = subst (λ (n : ℕ). IsRest start.files (grows next file format n read) whole)
        (sym one_less) rest in
        before.halts start new stop refl (halts_earlier (grows next file format (suc left) read)
        start mid new stop later (grows_stops left read mid new stop step))

    pub loop_ends : next read ≡ None → Comes whole start.files read
    loop_ends none = rest.comes read (grows_ends (limit - length read) read start.files none)

-- A loop over a known list of files.
module _ {R V : Type 0} (format : List ℕ → Format R V) (names : List (List ℕ)) where
  -- what is read after the files of the first names
  abbrev pub each_from : List V → Plan R (List V)
  each_from read =
      grows (λ read. slice_get names (length read)) (λ place name. name)
      (λ place name. format name) (length names - length read) read

  module _ (start mid : Seen) (later : IsLater start mid) (read : List V)
      (rest : IsRest start.files (each_from read) (each format names)) (name : List ℕ)
      (at : slice_get names (length read) ≡ Some name) where
    pub each_more : (v : V) (more : List V) → more ≡ read ++ v ∷ [] →
        Reads (format name) name mid.files v →
        IsRest start.files (each_from more) (each format names)
    each_more v more grown has =
        loop_more (λ read. slice_get names (length read)) (λ place name. name)
        (λ place name. format name) (length names) (each format names) start mid later read
        (slice_get_within names (length read) name at) rest more
        (record { name = name; asked = at; value = v; has = has; grown = grown })

    pub each_stops : (new : Seen) (stop : Stop R) → StopsFile (format name) name mid new stop →
        Halts (each format names) start new stop
    each_stops new stop stops =
        loop_stops (λ read. slice_get names (length read)) (λ place name. name)
        (λ place name. format name) (length names) (each format names) start mid later read
        (slice_get_within names (length read) name at) rest new stop
        (record { name = name; asked = at; stops = stops })

  pub each_ends : (told : Option Files) (read : List V) → length read ≡ length names →
      IsRest told (each_from read) (each format names) → Comes (each format names) told read
  each_ends told read all rest =
      rest.comes read (grows_ends (λ read. slice_get names (length read)) (λ place name. name)
      (λ place name. format name) (length names - length read) read told
      (slice_get_past names (length read) (omega (arith, all))))
