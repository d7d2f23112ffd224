-- A folder's files stop a plan in one way: memory and faults aside, whatever stops its reading is the
-- first file in its order that isn't accepted, for the one reason that this file gives.
use Rattle.std.proofs.Common.{arith, ◌≡◌, ◌⊎◌, inl, inr, ℕ, ◌<◌, List, length, Option, Some, None, refl, sym, ◌∙◌, ap, subst}
use Rattle.std.specs.Prelude.{IsSomeAnd, IfSome}
use Rattle.std.proofs.lemmas.Option.{none-some, same_Some}
use Rattle.ux_base.specs.Outside.{Files, Seen, file_named, MAX, Rose}
use Rattle.ux_plan.specs.declared.stop.Stop.{Stop}
use Rattle.ux_plan.specs.declared.stop.Stop.TheVariants.{Absent, ReadFault, TooLarge, Refused, NoMemory}
use Rattle.ux_plan.specs.Laws.{IsSound, Laws}
use Rattle.ux_plan.specs.Plans.{Format, Plan, gives, reads, tests, HasFile, Reads, IsLong, StopsFile, StopsTest, IsMemory, Comes, Halts}
use Rattle.ux_plan.specs.Stopping.{IsOverlong, Stopped, StoppedFile}

-- ONE FILE

module _ {R V : Type 0} (format : Format R V) (sound : IsSound format) (name : List ℕ)
    (files : Files) where
  -- a name has one file
  one_file : (file other : List ℕ) → HasFile (Some files) name file →
      HasFile (Some files) name other → other ≡ file
  one_file file other has also = same_Some other file (sym also.bytes ∙ has.bytes)

  not_absent : (file : List ℕ) → file_named name files ≡ None → HasFile (Some files) name file → ⊥
  not_absent file none has = absurd (none-some file (sym none ∙ has.bytes))

  overlong_there : IsOverlong format name files →
      (file : List ℕ) × (file_named name files ≡ Some file)
  overlong_there (inl (file, at, long)) = (file, at)
  overlong_there (inr (file, has, large)) = (file, has.bytes)

  -- a file that is short enough is overlong for its reader alone
  overlong_large : (file : List ℕ) → HasFile (Some files) name file → IsOverlong format name files →
      format.IsTooLarge file
  overlong_large file has (inl (other, at, long)) =
      let same : other ≡ file = same_Some other file (sym at ∙ has.bytes) in
      let more : MAX < length file = subst (λ (t : List ℕ). MAX < length t) same long in
      absurd (omega (arith, more, has.short))
  overlong_large file has (inr (other, also, large)) =
      subst format.IsTooLarge (one_file file other has also) large

  -- a file that is accepted stops nothing
  accepted : (v : V) → Reads format name (Some files) v → (stop : Stop R) →
      StoppedFile format name files stop → ⊥
  accepted v is (Absent named) stops = not_absent is.file stops.1 is.has
  accepted v is (ReadFault named) stops = stops
  accepted v is (TooLarge named) stops =
      sound.small is.file v is.is (overlong_large is.file is.has stops.1)
  accepted v is (Refused named reason) stops =
      sound.excluded is.file v reason is.is (subst (λ (t : List ℕ). format.Refuses t reason)
      (one_file is.file stops.1.0 is.has stops.1.1) stops.1.2)
  accepted v is NoMemory stops = stops

  one_value : (v w : V) → Reads format name (Some files) v → Reads format name (Some files) w →
      w ≡ v
  one_value v w is other =
      sound.one is.file w v (subst (λ (t : List ℕ). format.Is t w)
      (one_file is.file other.file is.has other.has) other.is) is.is

  absent_there : (file : List ℕ) → file_named name files ≡ None →
      file_named name files ≡ Some file → ⊥
  absent_there file none at = absurd (none-some file (sym none ∙ at))

  refused_small : (file : List ℕ) (reason : R) → HasFile (Some files) name file →
      format.Refuses file reason → IsOverlong format name files → ⊥
  refused_small file reason has refused long =
      sound.refused_small file reason refused (overlong_large file has long)

  one_reason : (file other : List ℕ) (reason also : R) → HasFile (Some files) name file →
      HasFile (Some files) name other → format.Refuses file reason → format.Refuses other also →
      reason ≡ also
  one_reason file other reason also has too refused again =
      sound.one_reason file reason also refused (subst (λ (t : List ℕ). format.Refuses t also)
      (one_file file other has too) again)

  -- a file stops a plan in one way
  stops_once : (stop other : Stop R) → StoppedFile format name files stop →
      StoppedFile format name files other → stop ≡ other
  stops_once (Absent a) (Absent b) s t = ap Absent (s.0 ∙ sym t.0)
  stops_once (Absent a) (ReadFault b) s t = absurd t
  stops_once (Absent a) (TooLarge b) s t =
      let there = overlong_there t.1 in absurd (absent_there there.0 s.1 there.1)
  stops_once (Absent a) (Refused b reason) s t = absurd (not_absent t.1.0 s.1 t.1.1)
  stops_once (Absent a) NoMemory s t = absurd t
  stops_once (ReadFault a) other s t = absurd s
  stops_once (TooLarge a) (Absent b) s t =
      let there = overlong_there s.1 in absurd (absent_there there.0 t.1 there.1)
  stops_once (TooLarge a) (ReadFault b) s t = absurd t
  stops_once (TooLarge a) (TooLarge b) s t = ap TooLarge (s.0 ∙ sym t.0)
  stops_once (TooLarge a) (Refused b reason) s t =
      absurd (refused_small t.1.0 reason t.1.1 t.1.2 s.1)
  stops_once (TooLarge a) NoMemory s t = absurd t
  stops_once (Refused a reason) (Absent b) s t = absurd (not_absent s.1.0 t.1 s.1.1)
  stops_once (Refused a reason) (ReadFault b) s t = absurd t
  stops_once (Refused a reason) (TooLarge b) s t =
      absurd (refused_small s.1.0 reason s.1.1 s.1.2 t.1)
  stops_once (Refused a reason) (Refused b also) s t =
      ap (λ (n : List ℕ). Refused n reason) (s.0 ∙ sym t.0)
      ∙ ap (Refused b) (one_reason s.1.0 t.1.0 reason also s.1.1 t.1.1 s.1.2 t.1.2)
  stops_once (Refused a reason) NoMemory s t = absurd t
  stops_once NoMemory other s t = absurd s

-- PLANS

module _ (files : Files) where
  -- files that give a value stop nothing
  pub never_stopped : {R A : Type 0} (plan : Plan R A) (a : A) (stop : Stop R) → Laws plan →
      Comes plan (Some files) a → Stopped plan files stop → ⊥
  unfolding Comes Stopped
  never_stopped (gives x) a stop laws comes stopped = stopped
  never_stopped (reads name format rest) a stop laws (v, has, comes) (inl stops) =
      accepted format laws.0 name files v has stop stops
  never_stopped {R} {A} (reads {V} name format rest) a stop laws (v, has, comes)
      (inr (w, other, stops)) =
      never_stopped (rest v) a stop (laws.1 v) comes
      (subst (λ (u : V). Stopped (rest u) files stop)
      (one_value format laws.0 name files v w has other) stops)
  never_stopped (tests Holds Stops rest) a stop laws (holds, comes) (inl stops) =
      laws.0.excluded stop holds stops
  never_stopped (tests Holds Stops rest) a stop laws (holds, comes) (inr (also, stops)) =
      never_stopped rest a stop laws.1 comes stops

  -- and those that stop it do so in one way
  pub stopped_once : {R A : Type 0} (plan : Plan R A) (stop other : Stop R) → Laws plan →
      Stopped plan files stop → Stopped plan files other → stop ≡ other
  unfolding Stopped
  stopped_once (gives x) stop other laws s t = absurd s
  stopped_once (reads name format rest) stop other laws (inl s) (inl t) =
      stops_once format laws.0 name files stop other s t
  stopped_once (reads name format rest) stop other laws (inl s) (inr (v, has, t)) =
      absurd (accepted format laws.0 name files v has stop s)
  stopped_once (reads name format rest) stop other laws (inr (v, has, s)) (inl t) =
      absurd (accepted format laws.0 name files v has other t)
  stopped_once {R} {A} (reads {V} name format rest) stop other laws (inr (v, has, s))
      (inr (w, also, t)) =
      stopped_once (rest v) stop other (laws.1 v) s
      (subst (λ (u : V). Stopped (rest u) files other)
      (one_value format laws.0 name files v w has also) t)
  stopped_once (tests Holds Stops rest) stop other laws (inl s) (inl t) =
      laws.0.one_stop stop other s t
  stopped_once (tests Holds Stops rest) stop other laws (inl s) (inr (holds, t)) =
      absurd (laws.0.excluded stop holds s)
  stopped_once (tests Holds Stops rest) stop other laws (inr (holds, s)) (inl t) =
      absurd (laws.0.excluded other holds t)
  stopped_once (tests Holds Stops rest) stop other laws (inr (holds, s)) (inr (also, t)) =
      stopped_once rest stop other laws.1 s t

  -- they give one value
  pub one_read : {R A : Type 0} (plan : Plan R A) (a b : A) → Laws plan →
      Comes plan (Some files) a → Comes plan (Some files) b → a ≡ b
  unfolding Comes
  one_read (gives x) a b laws first second = first ∙ sym second
  one_read {R} {A} (reads {V} name format rest) a b laws (v, has, first) (w, other, second) =
      one_read (rest v) a b (laws.1 v) first (subst (λ (u : V). Comes (rest u) (Some files) b)
      (one_value format laws.0 name files v w has other) second)
  one_read (tests Holds Stops rest) a b laws first second =
      one_read rest a b laws.1 first.1 second.1

  -- READING

  -- What stops a reading stops it by the files, where no read failed and memory didn't run out.
  module _ (old new : Seen) (tells : old.files ≡ Some files)
      (unfaulted : Rose old.faults new.faults → ⊥) where
    has_file : (name file : List ℕ) → HasFile old.files name file → HasFile (Some files) name file
    has_file name file has = subst (λ (t : Option Files). HasFile t name file) tells has

    long_found : {R V : Type 0} (format : Format R V) (name : List ℕ)
        (found : Option (List ℕ)) → file_named name files ≡ found →
        IsSomeAnd found (λ file. MAX < length file) → IsOverlong format name files
    long_found format name None at is = absurd is
    long_found format name (Some file) at is = inl (file, at, is)

    long_file : {R V : Type 0} (format : Format R V) (name : List ℕ) →
        IsLong format name old new → IsOverlong format name files
    long_file format name (inl long) =
        long_found format name (file_named name files) refl
        (subst (λ (t : Option Files). IfSome t (λ fs. IsSomeAnd (file_named name fs)
        (λ file. MAX < length file))) tells long.1)
    long_file format name (inr (file, has, large)) = inr (file, has_file name file has, large)

    file_stopped : {R V : Type 0} (format : Format R V) (name : List ℕ) (by : Stop R) →
        StopsFile format name old new by → (by ≡ NoMemory) ⊎ StoppedFile format name files by
    file_stopped format name (Absent named) stops = inr (
      stops.0,
      subst (λ (t : Option Files). IfSome t (λ fs. file_named name fs ≡ None)) tells stops.2,
    )
    file_stopped format name (ReadFault named) stops = absurd (unfaulted stops.1)
    file_stopped format name (TooLarge named) stops =
        inr (stops.0, long_file format name stops.1)
    file_stopped format name (Refused named reason) stops =
        inr (stops.0, (stops.1.0, has_file name stops.1.0 stops.1.1, stops.1.2))
    file_stopped format name NoMemory stops = inl refl

    test_stopped : {R : Type 0} (Stops : Stop R → Type 0) (by : Stop R) → StopsTest Stops by →
        (by ≡ NoMemory) ⊎ Stops by
    test_stopped Stops (Absent named) stops = inr stops
    test_stopped Stops (ReadFault named) stops = inr stops
    test_stopped Stops (TooLarge named) stops = inr stops
    test_stopped Stops (Refused named reason) stops = inr stops
    test_stopped Stops NoMemory stops = inl refl

    memory_only : {R : Type 0} (by : Stop R) → IsMemory by → by ≡ NoMemory
    memory_only (Absent named) is = absurd is
    memory_only (ReadFault named) is = absurd is
    memory_only (TooLarge named) is = absurd is
    memory_only (Refused named reason) is = absurd is
    memory_only NoMemory is = refl

    halts_stopped : {R A : Type 0} (plan : Plan R A) (by : Stop R) → Halts plan old new by →
        (by ≡ NoMemory) ⊎ Stopped plan files by
    unfolding Halts Stopped
    halts_stopped (gives x) by stops = inl (memory_only by stops)
    halts_stopped (reads name format rest) by (inl stops) =
        elim (file_stopped format name by stops) [
          | inl memory ↦ inl memory
          | inr stopped ↦ inr (inl stopped)
        ]
    halts_stopped (reads {V} name format rest) by (inr (v, has, stops)) =
        let there : Reads format name (Some files) v =
        subst (λ (t : Option Files). Reads format name t v) tells has in
        elim (halts_stopped (rest v) by stops) [
          | inl memory ↦ inl memory
          | inr stopped ↦ inr (inr (v, there, stopped))
        ]
    halts_stopped (tests Holds Stops rest) by (inl stops) =
        elim (test_stopped Stops by stops) [
          | inl memory ↦ inl memory
          | inr stopped ↦ inr (inl stopped)
        ]
    halts_stopped (tests Holds Stops rest) by (inr (holds, stops)) =
        elim (halts_stopped rest by stops) [
          | inl memory ↦ inl memory
          | inr stopped ↦ inr (inr (holds, stopped))
        ]

    -- where files give a value, memory alone halts the plan
    pub never_both : {R A : Type 0} (plan : Plan R A) (a : A) (by : Stop R) → Laws plan →
        Comes plan old.files a → Halts plan old new by → by ≡ NoMemory
    never_both plan a by laws comes halts = elim (halts_stopped plan by halts) [
      | inl memory ↦ memory
      | inr stopped ↦ absurd (never_stopped plan a by laws
          (subst (λ (t : Option Files). Comes plan t a) tells comes) stopped)
    ]

    -- what halts a plan is what its files stop it by
    pub one_stop : {R A : Type 0} (plan : Plan R A) (by stop : Stop R) → Laws plan →
        Halts plan old new by → Stopped plan files stop → (by ≡ NoMemory) ⊎ (by ≡ stop)
    one_stop plan by stop laws halts stopped = elim (halts_stopped plan by halts) [
      | inl memory ↦ inl memory
      | inr also ↦ inr (stopped_once plan by stop laws also stopped)
    ]
