-- The laws of plans, each proved once for all of them.
use Rattle.std.proofs.Common.{arith, ◌≡◌, ◌⊎◌, inl, inr, ℕ, zero, suc, ◌<◌, ◌≤◌, List, [], ◌∷◌, ◌++◌, length, Option, Some, None, sym, ap, ◌∙◌, subst}
use Rattle.std.specs.Prelude.{IsSomeAnd, IfSome, slice_get}
use Rattle.ux_base.specs.Outside.{Files, Seen, IsLater, file_named, MAX, Rose}
use Rattle.ux_plan.specs.declared.stop.Stop.{Stop}
use Rattle.ux_plan.specs.declared.stop.Stop.TheVariants.{Absent, ReadFault, TooLarge, Refused, NoMemory}
use Rattle.ux_decode.specs.Decoding.{IsTextOf}
use Rattle.ux_decode.specs.declared.error.DecodeError.{DecodeError}
use Rattle.ux_decode.proofs.UniqueLemmas.{no_refusal, one_refusal, one_text}
use Rattle.ux_plan.specs.Laws.{IsSound, IsSoundTest, Laws}
use Rattle.ux_plan.specs.Plans.{refusing, Format, Plan, gives, reads, tests, then, all, asks, decoded, grows, each, said_as, Tells, IsNoText, HasFile, Reads, IsLong, StopsFile, IsMemory, Comes, Halts}

-- MEMORY

-- memory may run out in any plan
pub memory : {R A : Type 0} (plan : Plan R A) (old new : Seen) → Halts plan old new NoMemory
unfolding Comes Halts
memory (gives a) old new = tt
memory (reads name format rest) old new = inl tt
memory (tests Holds Stops rest) old new = inl tt

-- COUNTS

rose_earlier : (old mid new : ℕ) → old ≤ mid → Rose mid new → Rose old new
rose_earlier old mid new later rose = omega arith

pub later_both : (old mid new : Seen) → IsLater old mid → IsLater mid new → IsLater old new
later_both old mid new first second = record {
  kept = second.kept ∙ first.kept;
  faults = omega (arith, first.faults, second.faults);
  misses = omega (arith, first.misses, second.misses);
  overlong = omega (arith, first.overlong, second.overlong);
}

module _ {R V : Type 0} (format : Format R V) (name : List ℕ) (old mid new : Seen)
    (later : IsLater old mid) where
  bytes_earlier : (file : List ℕ) → HasFile mid.files name file → HasFile old.files name file
  bytes_earlier file has = subst (λ (t : Option Files). HasFile t name file) later.kept has

  pub reads_earlier : (v : V) → Reads format name mid.files v → Reads format name old.files v
  reads_earlier v has = subst (λ (t : Option Files). Reads format name t v) later.kept has

  long_earlier : IsLong format name mid new → IsLong format name old new
  long_earlier (inl long) = inl (
    rose_earlier old.overlong mid.overlong new.overlong later.overlong long.0,
    subst (λ (t : Option Files). IfSome t (λ files. IsSomeAnd (file_named name files)
        (λ file. MAX < length file))) later.kept long.1,
  )
  long_earlier (inr more) = inr (more.0, bytes_earlier more.0 more.1, more.2)

  pub file_earlier : (stop : Stop R) → StopsFile format name mid new stop →
      StopsFile format name old new stop
  file_earlier (Absent named) stops = (
    stops.0,
    rose_earlier old.misses mid.misses new.misses later.misses stops.1,
    subst (λ (t : Option Files). IfSome t (λ files. file_named name files ≡ None)) later.kept
        stops.2,
  )
  file_earlier (ReadFault named) stops =
      (stops.0, rose_earlier old.faults mid.faults new.faults later.faults stops.1)
  file_earlier (TooLarge named) stops = (stops.0, long_earlier stops.1)
  file_earlier (Refused named reason) stops =
      (stops.0, (stops.1.0, bytes_earlier stops.1.0 stops.1.1, stops.1.2))
  file_earlier NoMemory stops = tt

-- what stops a plan stops it from the start on, where the folder is later
pub earlier : {R A : Type 0} (plan : Plan R A) (old mid new : Seen) (stop : Stop R) →
    IsLater old mid → Halts plan mid new stop → Halts plan old new stop
unfolding Comes Halts
earlier (gives a) old mid new stop later stops = stops
earlier (reads name format rest) old mid new stop later (inl stops) =
    inl (file_earlier format name old mid new later stop stops)
earlier (reads name format rest) old mid new stop later (inr (v, has, stops)) =
    inr (
      v,
      reads_earlier format name old mid new later v has,
      earlier (rest v) old mid new stop later stops,
    )
earlier (tests Holds Stops rest) old mid new stop later (inl stops) = inl stops
earlier (tests Holds Stops rest) old mid new stop later (inr (holds, stops)) =
    inr (holds, earlier rest old mid new stop later stops)

-- ONE PLAN AND THEN ANOTHER

module _ {R A B : Type 0} (rest : A → Plan R B) where
  pub gives_then : (plan : Plan R A) (told : Option Files) (a : A) (b : B) → Comes plan told a →
      Comes (rest a) told b → Comes (then plan rest) told b
  unfolding Comes Halts
  gives_then (gives x) told a b first second =
      subst (λ (y : A). Comes (rest y) told b) first second
  gives_then (reads name format later) told a b (v, has, first) second =
      (v, has, gives_then (later v) told a b first second)
  gives_then (tests Holds Stops later) told a b (holds, first) second =
      (holds, gives_then later told a b first second)

  only_memory_stops : (x : A) (old new : Seen) (stop : Stop R) → IsMemory stop →
      Halts (rest x) old new stop
  unfolding Comes Halts
  only_memory_stops x old new NoMemory is = memory (rest x) old new
  only_memory_stops x old new (Absent name) is = absurd is
  only_memory_stops x old new (ReadFault name) is = absurd is
  only_memory_stops x old new (TooLarge name) is = absurd is
  only_memory_stops x old new (Refused name reason) is = absurd is

  pub stops_first : (plan : Plan R A) (old new : Seen) (stop : Stop R) → Halts plan old new stop →
      Halts (then plan rest) old new stop
  unfolding Comes Halts
  stops_first (gives x) old new stop stops = only_memory_stops x old new stop stops
  stops_first (reads name format later) old new stop (inl stops) = inl stops
  stops_first (reads name format later) old new stop (inr (v, has, stops)) =
      inr (v, has, stops_first (later v) old new stop stops)
  stops_first (tests Holds Stops later) old new stop (inl stops) = inl stops
  stops_first (tests Holds Stops later) old new stop (inr (holds, stops)) =
      inr (holds, stops_first later old new stop stops)

  pub stops_then : (plan : Plan R A) (a : A) (old new : Seen) (stop : Stop R) →
      Comes plan old.files a → Halts (rest a) old new stop → Halts (then plan rest) old new stop
  unfolding Comes Halts
  stops_then (gives x) a old new stop first stops =
      subst (λ (y : A). Halts (rest y) old new stop) first stops
  stops_then (reads name format later) a old new stop (v, has, first) stops =
      inr (v, has, stops_then (later v) a old new stop first stops)
  stops_then (tests Holds Stops later) a old new stop (holds, first) stops =
      inr (holds, stops_then later a old new stop first stops)

  -- after a plan that was carried out, what stops the next stops the whole
  pub stops_second : (plan : Plan R A) (a : A) (old mid new : Seen) (stop : Stop R) →
      Comes plan old.files a → IsLater old mid → Halts (rest a) mid new stop →
      Halts (then plan rest) old new stop
  unfolding Comes Halts
  stops_second plan a old mid new stop first later stops =
      stops_then plan a old new stop first (earlier (rest a) old mid new stop later stops)

-- EXITS

-- after a file that was read, what stops the rest stops the whole
pub stops_after : {R A V : Type 0} (format : Format R V) (name : List ℕ) (rest : V → Plan R A)
    (old mid new : Seen) (stop : Stop R) (v : V) → Reads format name old.files v →
    IsLater old mid → Halts (rest v) mid new stop → Halts (reads name format rest) old new stop
unfolding Comes Halts
stops_after format name rest old mid new stop v has later stops =
    inr (v, has, earlier (rest v) old mid new stop later stops)

-- LAWS

-- the laws of plans that are put together
module _ {R A B : Type 0} (rest : A → Plan R B) (after : (a : A) → Laws (rest a)) where
  pub laws_then : (plan : Plan R A) → Laws plan → Laws (then plan rest)
  laws_then (gives a) laws = after a
  laws_then (reads name format later) laws = (laws.0, λ v. laws_then (later v) (laws.1 v))
  laws_then (tests Holds Stops later) laws = (laws.0, laws_then later laws.1)

laws_asks : {R A N : Type 0} (asked : Option N) (none : Plan R A) (more : N → Plan R A) →
    Laws none → ((name : N) → Laws (more name)) → Laws (asks asked none more)
laws_asks None none more first second = first
laws_asks (Some name) none more first second = second name

module _ {R V N : Type 0} (next : List V → Option N) (file : ℕ → N → List ℕ)
    (format : ℕ → N → Format R V) (sound : (n : ℕ) (name : N) → IsSound (format n name)) where
  pub laws_grows : (most : ℕ) (read : List V) → Laws (grows next file format most read)
  unfolding grows
  laws_grows zero read = tt
  laws_grows (suc most) read =
      laws_asks (next read) (gives read) (λ name.
      reads (file (length read) name) (format (length read) name)
      (λ v. grows next file format most (read ++ v ∷ [])))
      tt (λ name. (sound (length read) name, λ v. laws_grows most (read ++ v ∷ [])))

pub laws_each : {R V : Type 0} (format : List ℕ → Format R V) →
    ((name : List ℕ) → IsSound (format name)) → (names : List (List ℕ)) → Laws (each format names)
laws_each format sound names =
    laws_grows (λ read. slice_get names (length read)) (λ place name. name)
    (λ place name. format name) (λ place name. sound name) (length names) []

pub laws_all : {R V N : Type 0} (plan : N → Plan R V) → ((name : N) → Laws (plan name)) →
    (names : List N) → Laws (all plan names)
unfolding all
laws_all plan laws [] = tt
laws_all plan laws (one ∷ others) =
    laws_then (λ v. then (all plan others) (λ values. gives (v ∷ values)))
    (λ v. laws_then (λ values. gives (v ∷ values)) (λ values. tt) (all plan others)
    (laws_all plan laws others)) (plan one) (laws one)

-- TESTS

-- a test that refuses one file for one reason, and that only where what was read doesn't hold together
module _ {R : Type 0} (Holds : Type 0) (Refuses : List ℕ → R → Type 0)
    (never : (file : List ℕ) (reason : R) → Holds → Refuses file reason → ⊥)
    (once : (file other : List ℕ) (reason also : R) → Refuses file reason → Refuses other also →
    (file ≡ other) × (reason ≡ also)) where
  never_refuses : (stop : Stop R) → Holds → refusing Refuses stop → ⊥
  never_refuses (Absent named) holds is = is
  never_refuses (ReadFault named) holds is = is
  never_refuses (TooLarge named) holds is = is
  never_refuses (Refused named reason) holds is = never named reason holds is
  never_refuses NoMemory holds is = is

  refuses_once : (stop other : Stop R) → refusing Refuses stop → refusing Refuses other →
      stop ≡ other
  refuses_once (Absent named) other a b = absurd a
  refuses_once (ReadFault named) other a b = absurd a
  refuses_once (TooLarge named) other a b = absurd a
  refuses_once NoMemory other a b = absurd a
  refuses_once (Refused named reason) (Absent also) a b = absurd b
  refuses_once (Refused named reason) (ReadFault also) a b = absurd b
  refuses_once (Refused named reason) (TooLarge also) a b = absurd b
  refuses_once (Refused named reason) NoMemory a b = absurd b
  refuses_once (Refused named reason) (Refused also why) a b =
      let same = once named also reason why a b in
      ap (λ (n : List ℕ). Refused n reason) same.0 ∙ ap (Refused also) same.1

  pub refusing_sound : IsSoundTest Holds (refusing Refuses)
  refusing_sound = record {
    excluded = λ stop holds is. never_refuses stop holds is;
    one_stop = λ stop other a b. refuses_once stop other a b;
  }

-- FORMATS OF TEXTS

-- what says one value, and isn't refused then, and is refused by one error
pub said_sound : {R E V : Type 0} (told_as : E → R) (Says : List ℕ → V → Type 0)
    (Refuses : List ℕ → E → Type 0) →
    ((text : List ℕ) (v : V) (error : E) → Says text v → Refuses text error → ⊥) →
    ((text : List ℕ) (v w : V) → Says text v → Says text w → v ≡ w) →
    ((text : List ℕ) (error other : E) → Refuses text error → Refuses text other →
    error ≡ other) →
    IsSound (said_as told_as Says Refuses)
said_sound told_as Says Refuses excluded one once = record {
  excluded = λ text v reason is refused. excluded text v refused.error is refused.refuses;
  small = λ text v is large. large;
  refused_small = λ text reason refused large. large;
  one = one;
  one_reason = λ text reason other a b.
      a.is ∙ (ap told_as (once text a.error b.error a.refuses b.refuses) ∙ sym b.is);
}

-- a sound format of texts is one of files
pub decoded_sound : {R V : Type 0} (decode_as : DecodeError → R) (format : Format R V) →
    IsSound format → IsSound (decoded decode_as format)
decoded_sound {R} {V} decode_as format sound = record {
  excluded = λ file v reason is refused. apart file v reason is refused;
  small = λ file v is large.
      sound.small is.0 v is.2 (subst format.IsTooLarge (one_text file large.0 is.0 large.1 is.1)
      large.2);
  refused_small = λ file reason refused large. not_large file reason refused large;
  one = λ file v w a b.
      sound.one a.0 v w a.2 (subst (λ (t : List ℕ). format.Is t w)
      (one_text file b.0 a.0 b.1 a.1) b.2);
  one_reason = λ file reason other a b. same file reason other a b;
}
  where
    Refused : List ℕ → R → Type 0
    Refused file reason = Tells decode_as (IsNoText file) reason
        ⊎ ((text : List ℕ) × IsTextOf file text × format.Refuses text reason)

    apart : (file : List ℕ) (v : V) (reason : R) →
        ((text : List ℕ) × IsTextOf file text × format.Is text v) →
        (Tells decode_as (IsNoText file) reason
        ⊎ ((text : List ℕ) × IsTextOf file text × format.Refuses text reason)) → ⊥
    apart file v reason is (inl none) =
        none.refuses.not_memory (no_refusal file is.0 none.error is.1 none.refuses.refuses)
    apart file v reason is (inr refused) =
        sound.excluded is.0 v reason is.2 (subst (λ (t : List ℕ). format.Refuses t reason)
        (one_text file refused.0 is.0 refused.1 is.1) refused.2)

    not_large : (file : List ℕ) (reason : R) → Refused file reason →
        ((text : List ℕ) × IsTextOf file text × format.IsTooLarge text) → ⊥
    not_large file reason (inl none) large =
        none.refuses.not_memory (no_refusal file large.0 none.error large.1 none.refuses.refuses)
    not_large file reason (inr refused) large =
        sound.refused_small refused.0 reason refused.2 (subst format.IsTooLarge
        (one_text file large.0 refused.0 large.1 refused.1) large.2)

    same : (file : List ℕ) (reason other : R) → Refused file reason → Refused file other →
        reason ≡ other
    same file reason other (inl a) (inl b) =
        a.is ∙ (ap decode_as (one_refusal file a.error b.error a.refuses.not_memory
        b.refuses.not_memory a.refuses.refuses b.refuses.refuses) ∙ sym b.is)
    same file reason other (inl a) (inr b) =
        absurd (a.refuses.not_memory (no_refusal file b.0 a.error b.1 a.refuses.refuses))
    same file reason other (inr a) (inl b) =
        absurd (b.refuses.not_memory (no_refusal file a.0 b.error a.1 b.refuses.refuses))
    same file reason other (inr a) (inr b) =
        sound.one_reason a.0 reason other a.2 (subst (λ (t : List ℕ). format.Refuses t other)
        (one_text file b.0 a.0 b.1 a.1) b.2)
