-- What is known of the progress for which a client stands.
use Rattle.std.proofs.Common.{◌≡◌, ℕ, ◌<◌, ◌⊎◌, List, length, refl, ap}
use Rattle.nb_defs.specs.Records.{In, start, frame, tick, off, IsPartial, IsBroken}
use Rattle.nb_record.specs.Outside.{Outside, IsAtEnd}
use Rattle.nb_machine.specs.Courses.{Progress}
use Rattle.nb_client.specs.Snapshots.{Snapshot, StandsForProgress, at_ready, at_running, at_waiting, at_reaching, at_yielded, at_returning, at_handing, at_left, at_handed_off, at_stopped}
use Rattle.nb_client.specs.Progressing.{IsFinal, IsAtWork, AwaitsRecord, RunEndsWith, CanUse}
use Rattle.nb_client.specs.declared.stage.Stage.{Stage}
use Rattle.nb_runner.specs.StatusNumber.{status_number}
use Rattle.nb_runner.specs.declared.status.Status.{Status}
use Rattle.nb_runner.specs.declared.status.Status.TheVariants as status
use Rattle.nb_boot.specs.InTurn.{MayGoOn}
use Rattle.nb_boot.specs.Shown.{CommandWaits, IsOther, IsFirst, BeginsWith, NoneMayCome, EndsWhere, was_left, was_handed, was_stopped}
use Rattle.nb_boot.specs.Following.{StepGoesOn}
use Rattle.nb_boot.specs.Going.{IsClosing}

-- it used as many records
pub stands_used : (c : Snapshot) (m : Progress) → StandsForProgress c m → m.used ≡ c.used
stands_used c m (at_ready n w y) = refl
stands_used c m (at_running n w y r live are) = refl
stands_used c m (at_waiting n w y r e live are) = refl
stands_used c m (at_reaching n w y r k live next are same) = refl
stands_used c m (at_yielded n w y r live are) = refl
stands_used c m (at_returning n w y r cause live are) = refl
stands_used c m (at_handing n w y x s left1 none empty is) = refl
stands_used c m (at_left n w y cause live are) = refl
stands_used c m (at_handed_off n w y s none empty) = refl
stands_used c m (at_stopped n w y s none empty) = refl

-- where a client waits for the next record, the machine does
pub stands_awaits : (c : Snapshot) (m : Progress) → StandsForProgress c m → AwaitsRecord c.stage → CommandWaits m.standing
stands_awaits c m (at_ready n w y) h = absurd h
stands_awaits c m (at_running n w y r live are) h = absurd h
stands_awaits c m (at_waiting n w y r e live are) h = tt
stands_awaits c m (at_reaching n w y r k live next are same) h = absurd h
stands_awaits c m (at_yielded n w y r live are) h = tt
stands_awaits c m (at_returning n w y r cause live are) h = absurd h
stands_awaits c m (at_handing n w y x s left1 none empty is) h = absurd h
stands_awaits c m (at_left n w y cause live are) h = absurd h
stands_awaits c m (at_handed_off n w y s none empty) h = absurd h
stands_awaits c m (at_stopped n w y s none empty) h = absurd h

pub stands_between : (c : Snapshot) (m : Progress) → StandsForProgress c m → AwaitsRecord c.stage → MayGoOn m.standing
stands_between c m (at_ready n w y) h = absurd h
stands_between c m (at_running n w y r live are) h = absurd h
stands_between c m (at_waiting n w y r e live are) h = tt
stands_between c m (at_reaching n w y r k live next are same) h = absurd h
stands_between c m (at_yielded n w y r live are) h = tt
stands_between c m (at_returning n w y r cause live are) h = absurd h
stands_between c m (at_handing n w y x s left1 none empty is) h = absurd h
stands_between c m (at_left n w y cause live are) h = absurd h
stands_between c m (at_handed_off n w y s none empty) h = absurd h
stands_between c m (at_stopped n w y s none empty) h = absurd h

-- a client at work stands for a step that goes on
pub stands_at_work : (c : Snapshot) (m : Progress) → StandsForProgress c m → IsAtWork c.stage → StepGoesOn m.standing
stands_at_work c m (at_ready n w y) h = absurd h
stands_at_work c m (at_running n w y r live are) h = tt
stands_at_work c m (at_waiting n w y r e live are) h = absurd h
stands_at_work c m (at_reaching n w y r k live next are same) h = tt
stands_at_work c m (at_yielded n w y r live are) h = absurd h
stands_at_work c m (at_returning n w y r cause live are) h = tt
stands_at_work c m (at_handing n w y x s left1 none empty is) h = tt
stands_at_work c m (at_left n w y cause live are) h = absurd h
stands_at_work c m (at_handed_off n w y s none empty) h = absurd h
stands_at_work c m (at_stopped n w y s none empty) h = absurd h

-- no record may come where the next is waited for
pub stands_bad : (c : Snapshot) (m : Progress) (rest : List ℕ) (o : Outside) → StandsForProgress c m → AwaitsRecord c.stage →
    IsBroken rest ⊎ (BeginsWith rest IsFirst ⊎ (IsPartial rest × (0 < length rest) × IsAtEnd o)) → NoneMayCome m.standing rest o
stands_bad c m rest o (at_ready n w y) h b = absurd h
stands_bad c m rest o (at_running n w y r live are) h b = absurd h
stands_bad c m rest o (at_waiting n w y r e live are) h b = b
stands_bad c m rest o (at_reaching n w y r k live next are same) h b = absurd h
stands_bad c m rest o (at_yielded n w y r live are) h b = b
stands_bad c m rest o (at_returning n w y r cause live are) h b = absurd h
stands_bad c m rest o (at_handing n w y x s left1 none empty is) h b = absurd h
stands_bad c m rest o (at_left n w y cause live are) h b = absurd h
stands_bad c m rest o (at_handed_off n w y s none empty) h b = absurd h
stands_bad c m rest o (at_stopped n w y s none empty) h b = absurd h

-- a client whose run is over stands for a machine whose run is
pub over_ends : (s : Status) (c : Snapshot) (m : Progress) (rest : List ℕ) (o : Outside) → StandsForProgress c m → RunEndsWith c.stage s → EndsWhere m rest o (status_number s)
over_ends status1 c m rest o (at_ready n w y) h = absurd h
over_ends status1 c m rest o (at_running n w y r live are) h = absurd h
over_ends status1 c m rest o (at_waiting n w y r e live are) h = absurd h
over_ends status1 c m rest o (at_reaching n w y r k live next are same) h = absurd h
over_ends status1 c m rest o (at_yielded n w y r live are) h = absurd h
over_ends status1 c m rest o (at_returning n w y r cause live are) h = absurd h
over_ends status1 c m rest o (at_handing n w y x s left1 none empty is) h = absurd h
over_ends status1 c m rest o (at_left n w y cause live are) h = was_left _ cause refl h
over_ends status1 c m rest o (at_handed_off n w y s none empty) h = was_handed s refl (ap status_number h)
over_ends status1 c m rest o (at_stopped n w y s none empty) h = was_stopped s refl (ap status_number h)

-- DONE tells the end of a client
pub end_closes : (s : Status) → IsFinal s → IsClosing s
end_closes status.HandedOff e = tt
end_closes status.Ended e = tt
end_closes status.ScriptFailed e = tt
end_closes status.Unfinished e = tt
end_closes status.BadWords e = absurd e
end_closes status.BadRecord e = absurd e
end_closes status.ReadFault e = absurd e
end_closes status.WriteFault e = absurd e
end_closes status.NoMemory e = absurd e
end_closes status.AttachFault e = absurd e
end_closes status.TooManyRecords e = absurd e

-- where a command waits, each record but START may be used
pub may_use : (r : In) (st : Stage) → IsOther r → AwaitsRecord st → CanUse r st
may_use (start s) st o w = absurd o
may_use (frame bytes) st o w = w
may_use (tick ms) st o w = w
may_use off st o w = w
