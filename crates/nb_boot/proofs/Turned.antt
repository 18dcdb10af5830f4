-- From a turn of the client to the run that it belongs to.
use Rattle.std.proofs.Common.{◌≡◌, ℕ, List, [], ◌++◌, refl, sym, subst, append-nil}
use Rattle.nb_defs.specs.Records.{In, in_texts}
use Rattle.nb_record.specs.Outside.{Outside}
use Rattle.nb_record.specs.Logged.{Logged}
use Rattle.nb_client.specs.Snapshots.{Snapshot}
use Rattle.nb_client.specs.Progressing.{Advances, AwaitsRecord, CommandRests, IsAtWork, IsFinal, RunEndsWith, ScriptRests, TurnsBy}
use Rattle.nb_client.specs.declared.stage.Stage.{Stage}
use Rattle.nb_client.specs.declared.stage.Stage.TheVariants as stage
use Rattle.nb_client.specs.declared.client.Turn.TheVariants as turn
use Rattle.nb_runner.specs.declared.status.Status.{Status}
use Rattle.nb_runner.specs.declared.status.Status.TheVariants as status
use Rattle.nb_boot.specs.Going.{Goes, KeepsRun, CutsAll, LeadsOn, Stops, StepsTo, IsStatusOf, HasNumber, flaw_status}
use Rattle.nb_boot.specs.declared.output.Flaw.{Flaw}
use Rattle.nb_boot.specs.declared.play.StepEnd.{StepEnd}
use Rattle.nb_boot.specs.declared.play.StepEnd.TheVariants as ending
use Rattle.nb_boot.proofs.Goings.{IsBusy, going_grows}
use Rattle.nb_boot.proofs.Cuttings.{memory_shows}

-- where a command waits, or a script has yielded, the next record is waited for
pub waits_rests : (st : Stage) → CommandRests st → AwaitsRecord st
waits_rests (stage.Waiting s e) h = tt
waits_rests (stage.Yielded s) h = absurd h
waits_rests stage.Ready h = absurd h
waits_rests (stage.Reaching s k) h = absurd h
waits_rests (stage.Running s) h = absurd h
waits_rests (stage.Returning s cause) h = absurd h
waits_rests (stage.HandingOff h1) h = absurd h
waits_rests (stage.Left cause) h = absurd h
waits_rests stage.HandedOff h = absurd h
waits_rests stage.Stopped h = absurd h

pub yields_rests : (st : Stage) → ScriptRests st → AwaitsRecord st
yields_rests (stage.Yielded s) h = tt
yields_rests (stage.Waiting s e) h = absurd h
yields_rests stage.Ready h = absurd h
yields_rests (stage.Reaching s k) h = absurd h
yields_rests (stage.Running s) h = absurd h
yields_rests (stage.Returning s cause) h = absurd h
yields_rests (stage.HandingOff h1) h = absurd h
yields_rests (stage.Left cause) h = absurd h
yields_rests stage.HandedOff h = absurd h
yields_rests stage.Stopped h = absurd h

-- whatever run of a client went on before goes on afterwards, by no record
abbrev pub Keeps : Outside → Outside → Logged → Logged → Snapshot → Snapshot → Type 0
Keeps before now old new c c' = (ins : List In) (held : List ℕ) (first : Outside) → Goes ins held first before old c → Goes ins held first now new c'

-- a log that was written out keeps a run
pub keeps_log : (before now : Outside) (old new : Logged) (c : Snapshot) → ((held : List ℕ) → KeepsRun held held before now old new) → Keeps before now old new c c
keeps_log before now old new c h = λ ins held first g.
    record { progress = g.progress; holdings = g.holdings; stands = g.stands; fits = g.fits; going = h held ins first g.progress g.holdings g.going }

-- one after the other
pub keeps_then : (a b d : Outside) (old mid new : Logged) (c c1 c' : Snapshot) → Keeps a b old mid c c1 → Keeps b d mid new c1 c' → Keeps a d old new c c'
keeps_then a b d old mid new c c1 c' k l = λ ins held first g. l ins held first (k ins held first g)

-- a growth by no record keeps the records used
pub grow_keeps : (now : Outside) (old new : Logged) (c c' : Snapshot) → Advances [] c c' old new → IsAtWork c.stage → Keeps now now old new c c'
grow_keeps now old new c c' g busy = λ ins held first r. subst (λ xs. Goes xs held first now new c') (append-nil ins) (going_grows [] ins held first now old new c c' g busy tt r)

-- a run that was kept, and then led on
pub keeps_leads : (used : List In) (before now : Outside) (old mid new : Logged) (c c1 c' : Snapshot) → Keeps before now old mid c c1 → Advances used c1 c' mid new → IsBusy used c1 → HasNumber used c1.used →
    LeadsOn used before now old new c c'
keeps_leads used before now old mid new c c1 c' k g busy number = λ ins rest first r. going_grows used ins rest first now mid new c1 c' g busy number (k ins (in_texts used ++ rest) first r)

-- a turn that ended the run, memory aside
over_acts : (s : Status) (used : List In) (c c' : Snapshot) (old new : Logged) → (s ≡ status.NoMemory → ⊥) → TurnsBy (turn.Over s) used c c' old new →
    IsFinal s × Advances used c c' old new × RunEndsWith c'.stage s
over_acts status.NoMemory used c c' old new ne a = absurd (ne refl)
over_acts status.HandedOff used c c' old new ne a = a
over_acts status.BadWords used c c' old new ne a = a
over_acts status.Ended used c c' old new ne a = a
over_acts status.ScriptFailed used c c' old new ne a = a
over_acts status.Unfinished used c c' old new ne a = a
over_acts status.BadRecord used c c' old new ne a = a
over_acts status.ReadFault used c c' old new ne a = a
over_acts status.WriteFault used c c' old new ne a = a
over_acts status.AttachFault used c c' old new ne a = a
over_acts status.TooManyRecords used c c' old new ne a = a

-- the run is over, or memory ran out, after one that went on
pub over_steps : (e : StepEnd) (s : Status) (used : List In) (before now : Outside) (old mid new : Logged) (c c1 c' : Snapshot) → Keeps before now old mid c c1 →
    TurnsBy (turn.Over s) used c1 c' mid new → IsBusy used c1 → HasNumber used c1.used → IsStatusOf s e → StepsTo e used before now old new c c'
over_steps ending.Waits s used before now old mid new c c1 c' k a busy number e = absurd e
over_steps (ending.Over t) s used before now old mid new c c1 c' k a busy number e =
    let d = over_acts s used c1 c' mid new e.1 a in
    let P : Status → Type 0 = λ x. IsFinal x × RunEndsWith c'.stage x × LeadsOn used before now old new c c' in
    subst P (sym e.0) (d.0, d.2, keeps_leads used before now old mid new c c1 c' k d.1 busy number)
over_steps (ending.Cut f) s used before now old mid new c c1 c' k a busy number e =
    let P : Flaw → Type 0 = λ x. Stops (flaw_status x) used before now old c in
    subst P (sym e.1) (λ ins rest first r.
    let g = k ins (in_texts used ++ rest) first r in memory_shows ins (in_texts used ++ rest) first now mid g.progress g.holdings g.going)

-- the log couldn't be written out, after a run that went on
pub cut_stops : (s : Status) (used : List In) (before mid now : Outside) (old log : Logged) (c c1 : Snapshot) → Keeps before mid old log c c1 → CutsAll s mid now log →
    Stops s used before now old c
cut_stops s used before mid now old log c c1 k x = λ ins rest first r.
    let g = k ins (in_texts used ++ rest) first r in x (in_texts used ++ rest) ins first g.progress g.holdings g.going

-- a run that goes on where it went on
pub keeps_nothing : (now : Outside) (log : Logged) (c : Snapshot) → Keeps now now log log c c
keeps_nothing now log c = λ ins held first r. r

-- the step goes on after the record that was used
pub after_steps : (e : StepEnd) (used : List In) (before mid now : Outside) (old log new : Logged) (c c1 c' : Snapshot) → LeadsOn used before mid old log c c1 →
    StepsTo e [] mid now log new c1 c' → StepsTo e used before now old new c c'
after_steps ending.Waits used before mid now old log new c c1 c' l s =
    (s.0, λ ins rest first r. subst (λ xs. Goes xs rest first now new c') (append-nil (ins ++ used)) (s.1 (ins ++ used) rest first (l ins rest first r)))
after_steps (ending.Over t) used before mid now old log new c c1 c' l s =
    (s.0, s.1, λ ins rest first r. subst (λ xs. Goes xs rest first now new c') (append-nil (ins ++ used)) (s.2 (ins ++ used) rest first (l ins rest first r)))
after_steps (ending.Cut f) used before mid now old log new c c1 c' l s = λ ins rest first r. s (ins ++ used) rest first (l ins rest first r)
