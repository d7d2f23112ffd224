-- A run that is not answered ends by what stops the plan of its command, and where all files of it are
-- accepted, since memory ran out.
use Rattle.std.proofs.Common.{arith, ◌≡◌, ◌⊎◌, inl, inr, ℕ, List, Option, Some, None, Result, Ok, Err, Vec, IfOk, IfErr, length, refl, sym, ap, ◌∙◌, ◌++◌, subst}
use Rattle.std.specs.declared.alloc.Global.{Global}
use Rattle.std.proofs.lemmas.List.{take_all}
use Rattle.ux_base.specs.Outside.{Appended, AppendedFront, Files, Rose, Seen}
use Rattle.ux_plan.specs.declared.stop.Stop.{Stop}
use Rattle.ux_plan.specs.declared.stop.Stop.TheVariants as stop
use Rattle.ux_plan.specs.Commands as plan
use Rattle.ux_plan.specs.Commands.{Command}
use Rattle.ux_plan.specs.Plans.{Comes, Halts}
use Rattle.ux_plan.proofs.OneStop.{never_both, never_stopped, one_stop}
use Rattle.ux_plan.proofs.PlanSteps.{comes_gives, halts_memory}
use Rattle.ux_reasons.specs.declared.reason.Reason.{Reason}
use Rattle.ux_status.specs.declared.status.Status.{Status}
use Rattle.ux_status.specs.declared.status.Status.TheVariants.{Done, Usage, Absent, Refused, ReadFault, WriteFault, TooLarge, NoMemory}
use Rattle.ux_status.specs.Statuses.{line_of}
use Rattle.ux_run.specs.Running.{Asked, Denies, EndsBy, IsAnswer, IsAnswerable, IsAsked, IsStopped, asks, nothing, status_of, told_of, unread_command}

-- WHAT A COMMAND ANSWERS

module _ (command : Command Reason) (answer : Result (Vec ℕ Global) (Stop Reason))
    (result : Result (Vec ℕ Global) Status) (told : result ≡ told_of answer) where
  -- an answer stays
  pub told_answers : (files : Option Files) →
      IfOk answer (λ a. plan.Answers command files a.items) →
      IfOk result (λ a. IsAnswer (asks command) files a.items)
  told_answers files answers =
      subst (λ (r : Result (Vec ℕ Global) Status).
      IfOk r (λ a. IsAnswer (asks command) files a.items)) (sym told) (by answer answers)
    where
      by : (a : Result (Vec ℕ Global) (Stop Reason)) → IfOk a (λ v. plan.Answers command files v.items) →
          IfOk (told_of a) (λ v. IsAnswer (asks command) files v.items)
      by (Ok v) answers = answers
      by (Err s) answers = tt

  -- and what stops the plan is told
  pub told_denies : (old new : Seen) → IfErr answer (Halts command.plan old new) →
      IfErr result (Denies (asks command) old new)
  told_denies old new halts =
      subst (λ (r : Result (Vec ℕ Global) Status).
      IfErr r (Denies (asks command) old new)) (sym told) (by answer halts)
    where
      by : (a : Result (Vec ℕ Global) (Stop Reason)) → IfErr a (Halts command.plan old new) →
          IfErr (told_of a) (Denies (asks command) old new)
      by (Ok v) halts = tt
      by (Err s) halts = record { by = s; halts = halts; is = refl }

-- memory may run out before anything is answered
pub memory_denies : (asked : Asked) (old new : Seen) → Denies asked old new NoMemory
memory_denies nothing old new = inr refl
memory_denies (asks command) old new =
    record { by = stop.NoMemory; halts = halts_memory command.plan old new; is = refl }

-- a command that reads nothing
module _ (IsSo : List ℕ → Type 0) (result : Result (Vec ℕ Global) Status) where
  -- is answered by what is so
  pub unread_answers : (told : Option Files) → IfOk result (λ a. IsSo a.items) →
      IfOk result (λ a. IsAnswer (asks (unread_command IsSo)) told a.items)
  unread_answers told = by result
    where
      by : (r : Result (Vec ℕ Global) Status) → IfOk r (λ a. IsSo a.items) →
          IfOk r (λ a. IsAnswer (asks (unread_command IsSo)) told a.items)
      by (Ok answer) is = record { read = tt; comes = comes_gives Reason tt told; answers = is }
      by (Err status) is = tt

  -- and memory alone runs out before
  pub unread_denies : (old new : Seen) → IfErr result (λ status. status ≡ NoMemory) →
      IfErr result (Denies (asks (unread_command IsSo)) old new)
  unread_denies old new = by result
    where
      by : (r : Result (Vec ℕ Global) Status) → IfErr r (λ status. status ≡ NoMemory) →
          IfErr r (Denies (asks (unread_command IsSo)) old new)
      by (Ok answer) is = tt
      by (Err status) is =
          subst (Denies (asks (unread_command IsSo)) old new) (sym is)
          (memory_denies (asks (unread_command IsSo)) old new)

-- HOW A RUN ENDS

not_done : (s : Stop Reason) → Done ≡ status_of s → ⊥
not_done (stop.Absent name) is = cc
not_done (stop.ReadFault name) is = cc
not_done (stop.TooLarge name) is = cc
not_done (stop.Refused name why) is = cc
not_done stop.NoMemory is = cc

not_usage : (s : Stop Reason) → Usage ≡ status_of s → ⊥
not_usage (stop.Absent name) is = cc
not_usage (stop.ReadFault name) is = cc
not_usage (stop.TooLarge name) is = cc
not_usage (stop.Refused name why) is = cc
not_usage stop.NoMemory is = cc

not_write : (s : Stop Reason) → WriteFault ≡ status_of s → ⊥
not_write (stop.Absent name) is = cc
not_write (stop.ReadFault name) is = cc
not_write (stop.TooLarge name) is = cc
not_write (stop.Refused name why) is = cc
not_write stop.NoMemory is = cc

module _ (asked : Asked) (old new : Seen) where
  -- what denies an answer is no end of a run that is done or that fails to write
  pub never_done : Denies asked old new Done → ⊥
  never_done = by asked
    where
      by : (a : Asked) → Denies a old new Done → ⊥
      by nothing (inl is) = cc
      by nothing (inr is) = cc
      by (asks command) why = not_done why.by why.is

  pub not_done_denied : (status : Status) → Denies asked old new status → status ≡ Done → ⊥
  not_done_denied status denies is =
      never_done (subst (λ (s : Status). Denies asked old new s) is denies)

  never_write : Denies asked old new WriteFault → ⊥
  never_write = by asked
    where
      by : (a : Asked) → Denies a old new WriteFault → ⊥
      by nothing (inl is) = cc
      by nothing (inr is) = cc
      by (asks command) why = not_write why.by why.is

  only_usage : Denies asked old new Usage → IsAsked asked → ⊥
  only_usage = by asked
    where
      by : (a : Asked) → Denies a old new Usage → IsAsked a → ⊥
      by nothing denies is = is
      by (asks command) why is = not_usage why.by why.is

  pub denied_ends : (faults : Type 0) (status : Status) → Denies asked old new status →
      EndsBy asked old new faults status
  denied_ends faults Done denies = absurd (never_done denies)
  denied_ends faults Usage denies = only_usage denies
  denied_ends faults (Absent name) denies = denies
  denied_ends faults (Refused file reason) denies = denies
  denied_ends faults (ReadFault name) denies = denies
  denied_ends faults WriteFault denies = absurd (never_write denies)
  denied_ends faults (TooLarge file) denies = denies
  denied_ends faults NoMemory denies = denies

  -- where nothing is asked for, the words or memory are the cause
  pub denied_usage : (status : Status) → Denies asked old new status → (IsAsked asked → ⊥) →
      (status ≡ Usage) ⊎ (status ≡ NoMemory)
  denied_usage status = by asked
    where
      by : (a : Asked) → Denies a old new status → (IsAsked a → ⊥) →
          (status ≡ Usage) ⊎ (status ≡ NoMemory)
      by nothing denies none = denies
      by (asks command) why none = absurd (none tt)

  -- where all files are accepted, memory ran out
  pub denied_memory : (status : Status) → Denies asked old new status → IsAnswerable asked old →
      (Rose old.faults new.faults → ⊥) → status ≡ NoMemory
  denied_memory = by asked
    where
      by : (a : Asked) → (status : Status) → Denies a old new status → IsAnswerable a old →
          (Rose old.faults new.faults → ⊥) → status ≡ NoMemory
      by nothing status denies ready unfaulted = absurd ready
      by (asks command) status why ready unfaulted =
          why.is ∙ ap status_of (never_both ready.files old new ready.tells unfaulted command.plan
          ready.read why.by command.laws ready.comes why.halts)

  -- where a file isn't accepted, the first of these is told, or memory ran out
  pub denied_stop : (status : Status) (stop : Stop Reason) → Denies asked old new status →
      IsStopped asked old stop → (Rose old.faults new.faults → ⊥) →
      (status ≡ status_of stop) ⊎ (status ≡ NoMemory)
  denied_stop = by asked
    where
      by : (a : Asked) (status : Status) (stop : Stop Reason) → Denies a old new status →
          IsStopped a old stop → (Rose old.faults new.faults → ⊥) →
          (status ≡ status_of stop) ⊎ (status ≡ NoMemory)
      by nothing status stop denies stopped unfaulted = absurd stopped
      by (asks command) status stop why stopped unfaulted = elim
          (one_stop stopped.files old new stopped.tells unfaulted command.plan why.by stop
          command.laws why.halts stopped.stopped) [
            | inl memory ↦ inr (why.is ∙ ap status_of memory)
            | inr same ↦ inl (why.is ∙ ap status_of same)
          ]

-- what is stopped by its files isn't answered
pub never_answered : (asked : Asked) (old : Seen) (stop : Stop Reason) (answer : List ℕ) →
    IsStopped asked old stop → IsAnswer asked old.files answer → ⊥
never_answered nothing old stop answer stopped is = absurd is
never_answered (asks command) old stop answer stopped is =
    never_stopped stopped.files command.plan is.read stop command.laws
    (subst (λ (t : Option Files). Comes command.plan t is.read) stopped.tells is.comes)
    stopped.stopped

-- LINES

-- a status with its line, or a fault that cut it
abbrev pub IsTold : (result status : Status) → (Line Fault Front : Type 0) → Type 0
IsTold result status Line Fault Front =
    ((result ≡ status) × Line) ⊎ ((result ≡ WriteFault) × Fault × Front)

-- a line that is written whole is a prefix of itself
front_whole : (old new : Option (List ℕ)) (text : List ℕ) → Appended old new text →
    AppendedFront old new text
front_whole None new text whole = tt
front_whole (Some old) new text whole = (
  length text,
  whole
      ∙ ap (λ (l : List ℕ). Some (old ++ l)) (sym (take_all (length text) text (omega arith))),
)

module _ (old new : Option (List ℕ)) (result status : Status) (Fault : Type 0)
    (told : IsTold result status (Appended old new (line_of status)) Fault
    (AppendedFront old new (line_of status))) where
  pub whole_line : (Fault → ⊥) → Appended old new (line_of result)
  whole_line = by told
    where
      by : IsTold result status (Appended old new (line_of status)) Fault
          (AppendedFront old new (line_of status)) →
          (Fault → ⊥) → Appended old new (line_of result)
      by (inl is) sound = subst (λ (s : Status). Appended old new (line_of s)) (sym is.0) is.1
      by (inr cut) sound = absurd (sound cut.1)

  pub front_line : AppendedFront old new (line_of status)
  front_line = by told
    where
      by : IsTold result status (Appended old new (line_of status)) Fault
          (AppendedFront old new (line_of status)) → AppendedFront old new (line_of status)
      by (inl is) = front_whole old new (line_of status) is.1
      by (inr cut) = cut.2

-- A status that denies an answer, where its line was told or could not be written.
module _ (asked : Asked) (old new : Seen) (status result : Status)
    {Line Fault Front : Type 0} (denies : Denies asked old new status)
    (told : IsTold result status Line Fault Front) where
  pub ended_by : (Out : Type 0) → EndsBy asked old new (Out ⊎ Fault) result
  ended_by Out = by told
    where
      by : IsTold result status Line Fault Front → EndsBy asked old new (Out ⊎ Fault) result
      by (inl same) =
          subst (λ (s : Status). EndsBy asked old new (Out ⊎ Fault) s) (sym same.0)
          (denied_ends asked old new (Out ⊎ Fault) status denies)
      by (inr cut) =
          subst (λ (s : Status). EndsBy asked old new (Out ⊎ Fault) s) (sym cut.0) (inr cut.1)

  pub ended_usage : (IsAsked asked → ⊥) →
      (result ≡ Usage) ⊎ (result ≡ NoMemory) ⊎ ((result ≡ WriteFault) × Fault)
  ended_usage none = by told (denied_usage asked old new status denies none)
    where
      by : IsTold result status Line Fault Front → (status ≡ Usage) ⊎ (status ≡ NoMemory) →
          (result ≡ Usage) ⊎ (result ≡ NoMemory) ⊎ ((result ≡ WriteFault) × Fault)
      by (inl same) (inl is) = inl (same.0 ∙ is)
      by (inl same) (inr is) = inr (inl (same.0 ∙ is))
      by (inr cut) is = inr (inr (cut.0, cut.1))

  pub ended_memory : IsAnswerable asked old → (Rose old.faults new.faults → ⊥) →
      (Fault → ⊥) → (result ≡ Done) ⊎ (result ≡ NoMemory)
  ended_memory ready unfaulted wrote = by told
    where
      by : IsTold result status Line Fault Front → (result ≡ Done) ⊎ (result ≡ NoMemory)
      by (inl same) =
          inr (same.0 ∙ denied_memory asked old new status denies ready unfaulted)
      by (inr cut) = absurd (wrote cut.1)

  pub ended_stop : (stop : Stop Reason) → IsStopped asked old stop →
      (Rose old.faults new.faults → ⊥) → (Fault → ⊥) →
      (result ≡ status_of stop) ⊎ (result ≡ NoMemory)
  ended_stop stop stopped unfaulted wrote = by told
    where
      by : IsTold result status Line Fault Front →
          (result ≡ status_of stop) ⊎ (result ≡ NoMemory)
      by (inl same) = elim (denied_stop asked old new status stop denies stopped unfaulted) [
        | inl is ↦ inl (same.0 ∙ is)
        | inr is ↦ inr (same.0 ∙ is)
      ]
      by (inr cut) = absurd (wrote cut.1)

pub ruleset telling = (told_answers, told_denies)

pub ruleset endings = (ended_by, ended_usage, ended_memory, ended_stop, whole_line, front_line)
