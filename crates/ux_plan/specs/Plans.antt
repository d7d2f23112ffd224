-- Plans: which files are read in which order, what each must be, what comes of them, and what stops
-- it. This file carries the crate's public meaning.
use Rattle.std.specs.Prelude.{◌≡◌, ◌≢◌, ◌⊎◌, ⊤, ℕ, zero, suc, ◌<◌, ◌≤◌, List, [], ◌∷◌, ◌++◌, length, Option, Some, None, IfSome, IsSomeAnd, slice_get}
use Rattle.ux_base.specs.Outside.{Files, Seen, file_named, MAX, Rose}
use Rattle.ux_decode.specs.Decoding.{IsTextOf, Refuses}
use Rattle.ux_decode.specs.declared.error.DecodeError.{DecodeError}
use Rattle.ux_decode.specs.declared.error.DecodeError.TheVariants as decode_error
use Rattle.ux_plan.specs.declared.stop.Stop.{Stop}
use Rattle.ux_plan.specs.declared.stop.Stop.TheVariants.{Absent, ReadFault, TooLarge, Refused, NoMemory}

-- FORMATS

-- what the reader of a kind of files gives: which value, by which reason it refuses, and what is too
-- large for it
pub record Format (R V : Type 0) : Type 1 where
  pub Is : List ℕ → V → Type 0
  pub Refuses : List ℕ → R → Type 0
  pub IsTooLarge : List ℕ → Type 0

-- the reason tells an error by which something is refused
pub record Tells {E R : Type 0} (told_as : E → R) (Refuses : E → Type 0) (reason : R) : Type 0 where
  pub error : E
  pub refuses : Refuses error
  pub is : reason ≡ told_as error

-- any bytes
abbrev pub bytes_format : {R : Type 0} → Format R (List ℕ)
bytes_format = record {
  Is = λ file value. value ≡ file;
  Refuses = λ file reason. ⊥;
  IsTooLarge = λ file. ⊥;
}

-- texts that say a value, or are refused by an error, which is told so
abbrev pub said_as : {R E V : Type 0} → (E → R) → (Says : List ℕ → V → Type 0) →
    (Refuses : List ℕ → E → Type 0) → Format R V
said_as told_as Says Refuses = record {
  Is = Says;
  Refuses = λ text reason. Tells told_as (Refuses text) reason;
  IsTooLarge = λ text. ⊥;
}

-- the file has no text in the encoding that its mark names
pub record IsNoText (file : List ℕ) (error : DecodeError) : Type 0 where
  pub refuses : Refuses file error
  pub not_memory : error ≢ decode_error.NoMemory

-- files whose text is of a format: a file may have no text, for an error that is told so
abbrev pub decoded : {R V : Type 0} → (DecodeError → R) → Format R V → Format R V
decoded decode_as format = record {
  Is = λ file v. (text : List ℕ) × IsTextOf file text × format.Is text v;
  Refuses = λ file reason. Tells decode_as (IsNoText file) reason
      ⊎ ((text : List ℕ) × IsTextOf file text × format.Refuses text reason);
  IsTooLarge = λ file. (text : List ℕ) × IsTextOf file text × format.IsTooLarge text;
}

-- PLANS

-- what is read, and what it comes to
pub data Plan (R A : Type 0) : Type 1 where
  -- this value
  gives : A → Plan R A
  -- the value of the file of this name, and what is then read
  reads : {V : Type 0} → (name : List ℕ) → Format R V → (V → Plan R A) → Plan R A
  -- what was read holds together, or else this stops it
  tests : (Holds : Type 0) → (Stops : Stop R → Type 0) → Plan R A → Plan R A

-- one plan, and then another
abbrev pub then : {R A B : Type 0} → Plan R A → (A → Plan R B) → Plan R B
then (gives a) rest = rest a
then (reads name format later) rest = reads name format (λ v. then (later v) rest)
then (tests Holds Stops later) rest = tests Holds Stops (then later rest)

-- these plans in their order, and the list of what they come to
unfoldable pub all : {R V N : Type 0} → (N → Plan R V) → List N → Plan R (List V)
all plan [] = gives []
all plan (one ∷ others) =
    then (plan one) (λ v.
    then (all plan others) (λ values.
    gives (v ∷ values)))

-- this plan where nothing is asked for, and else that of what is
abbrev pub asks : {R A N : Type 0} → Option N → Plan R A → (N → Plan R A) → Plan R A
asks None none more = none
asks (Some name) none more = more name

-- A list of files that grows while it is read: after those that were read, the next is read as this
-- format at their count, until none is asked for, or so many more were read.
module _ {R V N : Type 0} (next : List V → Option N) (file : ℕ → N → List ℕ)
    (format : ℕ → N → Format R V) where
  unfoldable pub grows : ℕ → List V → Plan R (List V)
  grows zero read = gives read
  grows (suc most) read =
      asks (next read) (gives read) (λ name.
      reads (file (length read) name) (format (length read) name) (λ v.
      grows most (read ++ v ∷ [])))

-- the files of these names, in their order
abbrev pub each : {R V : Type 0} → (List ℕ → Format R V) → List (List ℕ) → Plan R (List V)
each format names =
    grows (λ read. slice_get names (length read)) (λ place name. name) (λ place name. format name)
    (length names) []

-- ONE FILE

-- the file of this name has these bytes, where the files are told
abbrev pub HasBytes : Option Files → List ℕ → List ℕ → Type 0
HasBytes told name bytes = IfSome told (λ files. file_named name files ≡ Some bytes)

-- and it is no longer than a file may be
pub record HasFile (told : Option Files) (name file : List ℕ) : Type 0 where
  pub bytes : HasBytes told name file
  pub short : length file ≤ MAX

-- the file of this name is accepted as this value
pub record Reads {R V : Type 0} (format : Format R V) (name : List ℕ) (told : Option Files)
    (value : V) : Type 0 where
  pub file : List ℕ
  pub has : HasFile told name file
  pub is : format.Is file value

-- the file of this name is too long for the folder, or too large for the reader
abbrev pub IsLong : {R V : Type 0} → Format R V → List ℕ → Seen → Seen → Type 0
IsLong format name old new =
    (Rose old.overlong new.overlong
    × IfSome old.files (λ files. IsSomeAnd (file_named name files) (λ file. MAX < length file)))
    ⊎ ((file : List ℕ) × HasFile old.files name file × format.IsTooLarge file)

-- Why the file of this name is not read. Where the files are told, they show it; a count of the
-- folder shows what the folder itself answered.
abbrev pub StopsFile : {R V : Type 0} → Format R V → List ℕ → Seen → Seen →
    Stop R → Type 0
StopsFile format name old new (Absent named) =
    (named ≡ name) × Rose old.misses new.misses
    × IfSome old.files (λ files. file_named name files ≡ None)
StopsFile format name old new (ReadFault named) = (named ≡ name) × Rose old.faults new.faults
StopsFile format name old new (TooLarge named) =
    (named ≡ name) × IsLong format name old new
StopsFile format name old new (Refused named reason) =
    (named ≡ name) × ((file : List ℕ) × HasFile old.files name file × format.Refuses file reason)
StopsFile format name old new NoMemory = ⊤

-- a file is refused for a reason
abbrev pub refusing : {R : Type 0} → (List ℕ → R → Type 0) → Stop R → Type 0
refusing Refuses (Refused name reason) = Refuses name reason
refusing Refuses stop = ⊥

-- why a test stops: by what it says, or since memory ran out
abbrev pub StopsTest : {R : Type 0} → (Stop R → Type 0) → Stop R → Type 0
StopsTest Stops NoMemory = ⊤
StopsTest Stops stop = Stops stop

-- after the last file memory alone may run out
abbrev pub IsMemory : {R : Type 0} → Stop R → Type 0
IsMemory NoMemory = ⊤
IsMemory stop = ⊥

-- WHAT A PLAN COMES TO, AND WHAT STOPS IT

-- each file of the plan is accepted, and this comes of them
unfoldable pub Comes : {R A : Type 0} → Plan R A → Option Files → A → Type 0
Comes (gives a) told answer = answer ≡ a
Comes (reads {V} name format rest) told answer =
    (v : V) × Reads format name told v × Comes (rest v) told answer
Comes (tests Holds Stops rest) told answer = Holds × Comes rest told answer

-- the first file in the order of the plan that is not accepted stops it, by this cause
unfoldable pub Halts : {R A : Type 0} → Plan R A → Seen → Seen → Stop R → Type 0
Halts (gives a) old new stop = IsMemory stop
Halts (reads {V} name format rest) old new stop =
    StopsFile format name old new stop
    ⊎ ((v : V) × Reads format name old.files v × Halts (rest v) old new stop)
Halts (tests Holds Stops rest) old new stop =
    StopsTest Stops stop ⊎ (Holds × Halts rest old new stop)

-- A growing list of files, and what it asks for next.
module _ {R V N : Type 0} (next : List V → Option N) (file : ℕ → N → List ℕ)
    (format : ℕ → N → Format R V) where
  -- the next was read
  pub record ReadsNext (told : Option Files) (read more : List V) : Type 0 where
    pub name : N
    pub asked : next read ≡ Some name
    pub value : V
    pub has : Reads (format (length read) name) (file (length read) name) told value
    pub grown : more ≡ read ++ value ∷ []

  -- the next stops the reading
  pub record StopsNext (read : List V) (old new : Seen) (stop : Stop R) : Type 0 where
    pub name : N
    pub asked : next read ≡ Some name
    pub stops : StopsFile (format (length read) name) (file (length read) name) old new stop
