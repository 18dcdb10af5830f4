-- A record comes to the opens that live, and what comes of the one that a command waits for.
use Rattle.std.specs.Prelude.{◌≡◌, ◌<◌, ◌≤◌, ◌+◌, ◌*◌, ℕ, ◌==◌, Bool, true, false, List, [], ◌∷◌, ◌++◌, find, Option, Some, None, if◌then◌else◌}
use Rattle.std.specs.List.{list_any}
use Rattle.nb_terms.specs.declared.cause.Cause.{Cause}
use Rattle.nb_defs.specs.Causes.{ok}
use Rattle.nb_defs.specs.Records.{In, Out, out_texts, result}
use Rattle.nb_record.specs.Logged.{Logged, Puts}
use Rattle.nb_traced.specs.Plain.{without_graph}
use Rattle.nb_runner.specs.declared.world.World.{World}
use Rattle.nb_runner.specs.World.{IsLinkOfState, world_with_drives}
use Rattle.nb_stack.specs.Client.{Client}
use Rattle.nb_drivecmd.specs.declared.outcome.AfterHook.{AfterHook}
use Rattle.nb_drivecmd.specs.declared.outcome.AfterHook.TheVariants as after_hook
use Rattle.nb_machine.specs.Courses.{LeadsTo, Standing, stands}
use Rattle.nb_machine.specs.Lives.{Live}
use Rattle.nb_machine.specs.Running.{Running, anew, with_result}
use Rattle.nb_machine.specs.Scripts.{Job, Answer, answer_of_over, block_of_over, by_end, by_drive, concluded_by, has_number, upshot_records}
use Rattle.nb_machine.specs.States.{State}
use Rattle.nb_machine.specs.Takings.{Over}
use Rattle.nb_traced.specs.Holdings.{Holdings}
use Rattle.nb_traced.specs.Outputs.{Arrived, Traced}
use Rattle.nb_network.specs.Many.{AreOpensOf, AreSound, FitsHoldings, IsStateOf, Many}
use Rattle.nb_network.specs.Ones.{HasDrive}
use Rattle.nb_network.specs.Takes.{IsEndOf, TakesRecord}
use Rattle.nb_network.specs.declared.living.Living.{Living as TheOpen}
use Rattle.nb_open.specs.Exchanges.{IsLeaseMessage}
use Rattle.nb_network.specs.declared.over.HasEnded.{HasEnded}
use Rattle.nb_client.specs.Asked.{job_asked, pieces_beside}
use Rattle.nb_client.specs.Progressing.{TracesTo}
use Rattle.nb_client.specs.Snapshots.{Snapshot, StandsForProgress, state_of_world}
use Rattle.nb_client.specs.Soundness.{HasReadAs, HasRoomFor, IsDriveAnswered, IsPendingWell, IsSound, IsSoundBut, WasStarted, asks_block, kept_drives, snapshot_at}
use Rattle.nb_client.specs.declared.asked.Asked.{Asked}
use Rattle.nb_client.specs.declared.asked.Asked.TheVariants.{File, Query as Exchange, Disk, Block}
use Rattle.nb_client.specs.declared.pending.Answer.{Answer as TheAnswer}
use Rattle.nb_client.specs.declared.pending.Answer.TheVariants.{End, Drive as Lives}
use Rattle.nb_client.specs.declared.pending.Pending.{Pending}
use Rattle.nb_client.specs.declared.pending.Expected.TheVariants.{Open, Moment}
use Rattle.nb_client.specs.declared.site.Site.{Site}
use Rattle.nb_client.specs.declared.stage.Stage.{Stage}
use Rattle.nb_client.specs.declared.stage.Stage.TheVariants as stage

-- the world with this link, at this time
abbrev pub world_at : World → Client → ℕ → World
world_at w net time = record { w = w.w; machine = w.machine; time = time; net = net; opens = w.opens; state = w.state; outer = w.outer }

-- and with the drives whose open lives
abbrev pub world_after : World → Client → ℕ → Many → World
world_after w net time m = world_with_drives (world_at w net time) (kept_drives m.list w.state.drives)

-- A record was used, and what comes of it at the opens that live was put; where the awaited one has ended, that is answered.
pub record Serves (r : In) (awaited : Option ℕ) (answer : Option HasEnded) (before after : Site) (old new : Logged) : Type 0 where
  pub takes : (s : State) → IsStateOf before.opens before.world.net before.world.time s →
      TakesRecord before.opens before.world.net before.world.time before.world.opens (before.used + 1) r after.opens after.world.net after.world.time awaited answer old new s
  pub hooked : kept_drives before.opens.list before.world.state.drives ≡ before.world.state.drives
  pub used : after.used ≡ before.used + 1
  pub world : after.world ≡ world_after before.world after.world.net after.world.time after.opens
  pub time : after.world.time ≤ 60000 * after.used
  pub opens : AreSound after.world.w after.world.opens after.world.net after.opens
  pub linked : IsLinkOfState after.world

-- A command got what it waited for: what comes of it in this state, the records put for that, and where the run stands then.
pub record ComesIn (s : State) (inner : Running) (outer : List Running) (job : Job) (x : Answer) (put : List Out) (n : ℕ) (after : Snapshot) : Type 0 where
  pub more : List Out
  pub to : Standing
  pub is_put : put ≡ upshot_records (concluded_by s inner.depth job x) ++ more
  pub leads : LeadsTo s inner outer (concluded_by s inner.depth job x) more to
  pub stands_so : StandsForProgress after (stands n to)

abbrev pub EndsIn : State → Running → List Running → Job → Over → List Out → ℕ → Snapshot → Type 0
EndsIn s inner outer job o put n after = ComesIn s inner outer job (by_end o) put n after

-- what the machine's command gets of a disk's open that has ended so; where the disk is to be booted it has to live on
abbrev pub disk_over : AfterHook → Over → Answer
disk_over after_hook.Keep o = answer_of_over o
disk_over (after_hook.Boot keep) o = by_end o

-- so of what it has asked for
abbrev pub answer_over : Asked → Over → Answer
answer_over (File w) o = by_end o
answer_over (Exchange q) o = by_end o
answer_over (Disk disk) o = disk_over disk.hooking.after o
answer_over (Block d) o = block_of_over o

-- what a command of the machine's gets among these opens, where the code's gets this
abbrev pub IsAnswerOf : TheAnswer → Asked → ℕ → List Live → Answer → Type 0
IsAnswerOf (End e) asked number live x = (o : Over) × IsEndOf e o × (o.live.number ≡ number) × (x ≡ answer_over asked o)
IsAnswerOf Lives (Disk disk) number live x = (l : Live) × (find (has_number number) live ≡ Some l) × (x ≡ by_drive l)
IsAnswerOf Lives (Block d) number live x = (l : Live) × (find (has_number number) live ≡ Some l) × (x ≡ by_drive l)
IsAnswerOf Lives (File w) number live x = ⊥
IsAnswerOf Lives (Exchange q) number live x = ⊥

-- A command got what it waited for among these opens: these records were put after those of the opens.
pub record ConcludesIn (p : Pending) (answer : TheAnswer) (inner : Running) (before : Site) (after : Snapshot) (old new : Logged) (live : List Live) : Type 0 where
  pub rest : List Out
  pub puts : Puts old new (out_texts rest)
  pub comes : (x : Answer) → IsAnswerOf answer p.asked p.number live x →
      ComesIn (state_of_world before.world live) inner before.world.outer (job_asked p.asked) x (without_graph rest) before.used after
  pub traces : (outs : List Out) (h : Holdings) (so_far : List Arrived) → Traced outs h so_far → FitsHoldings before.opens before.world.opens (pieces_beside (Open p)) h →
      TracesTo after (outs ++ rest) so_far

-- So it is whatever state these opens are.
pub record Concludes (p : Pending) (answer : TheAnswer) (inner : Running) (before : Site) (after : Snapshot) (old new : Logged) : Type 0 where
  pub ends : (live : List Live) → AreOpensOf before.opens.graph before.opens.list live → ConcludesIn p answer inner before after old new live
  pub sound : IsSound after.used after.world after.many after.stage
  pub under_way : WasStarted after.stage

-- So it is where its open has ended, that is no drive's.
pub record ConcludesEnd (p : Pending) (e : HasEnded) (inner : Running) (before : Site) (after : Snapshot) (old new : Logged) : Type 0 where
  pub rest : List Out
  pub puts : Puts old new (out_texts rest)
  pub comes : (live : List Live) → AreOpensOf before.opens.graph before.opens.list live → (o : Over) → IsEndOf e o →
      EndsIn (state_of_world before.world live) inner before.world.outer (job_asked p.asked) o (without_graph rest) before.used after
  pub traces : (outs : List Out) (h : Holdings) (so_far : List Arrived) → Traced outs h so_far → FitsHoldings before.opens before.world.opens (pieces_beside (Open p)) h →
      TracesTo after (outs ++ rest) so_far
  pub sound : IsSound after.used after.world after.many after.stage
  pub under_way : WasStarted after.stage

-- the message of an open that has ended may be a lease's, and none of its number lives; one that lives on is a disk's, which has answered or
-- read its block
abbrev pub FitsAnswer : TheAnswer → Asked → ℕ → Many → Type 0
FitsAnswer (End e) asked number m = IsLeaseMessage e.bytes × (list_any (λ (o : TheOpen). o.speaker.number == number) m.list ≡ false)
FitsAnswer Lives (Disk disk) number m = HasDrive number m.list
FitsAnswer Lives (Block d) number m = HasReadAs true number m
FitsAnswer Lives (File w) number m = ⊥
FitsAnswer Lives (Exchange q) number m = ⊥

-- what a command has asked for and got fits
pub record IsFittingAnswer (answer : TheAnswer) (p : Pending) (c : Site) : Type 0 where
  pub asked : IsPendingWell p None c.opens
  pub room : HasRoomFor p.asked c.world.state.drives
  pub fits : FitsAnswer answer p.asked p.number c.opens

-- the open that was asked for a block, and lives on
abbrev pub asks_still : TheAnswer → Asked → ℕ → Option ℕ
asks_still (End e) asked number = None
asks_still Lives asked number = asks_block asked number

-- it is sound, where a command waits on, or where it got what it waited for
abbrev pub IsSoundAfter : Option TheAnswer → Site → Running → Pending → Type 0
IsSoundAfter None c s p = IsSound c.used c.world c.opens (stage.Waiting s (Open p))
IsSoundAfter (Some x) c s p = IsSoundBut (asks_still x p.asked p.number) c.used c.world c.opens × IsFittingAnswer x p c

-- the command waits on, and nothing more is put, or it got what it waited for
abbrev pub WaitsOrEnds : Option TheAnswer → Pending → Running → Site → Snapshot → Logged → Logged → Type 0
WaitsOrEnds None p s before after old new = (after ≡ snapshot_at before (stage.Waiting (anew s) (Open p))) × (new ≡ old)
WaitsOrEnds (Some x) p s before after old new = Concludes p x (anew s) before after old new

-- what a command gets that has asked for this open, where that has ended so or lives on
abbrev pub IsAnswerBy : Pending → Option HasEnded → Many → Option TheAnswer → Type 0
IsAnswerBy p (Some e) m x = x ≡ Some (End e)
IsAnswerBy p None m (Some (End e)) = ⊥
IsAnswerBy p None m (Some Lives) = IsDriveAnswered p.asked p.number m true
IsAnswerBy p None m None = IsDriveAnswered p.asked p.number m false

-- the same by where the run stands
abbrev pub IsAnswerAt : Stage → Option HasEnded → Many → Option TheAnswer → Type 0
IsAnswerAt (stage.Waiting s (Open p)) ended m x = IsAnswerBy p ended m x
IsAnswerAt _ ended m x = ⊥

-- a command waits for an open
abbrev pub IsWaitingFor : Stage → Type 0
IsWaitingFor (stage.Waiting s (Open p)) = Unit {0}
IsWaitingFor _ = ⊥

-- why a disk isn't hooked that has answered so; where it is, nothing
abbrev pub hook_failure : AfterHook → TheAnswer → Option Cause
hook_failure after Lives = None
hook_failure after_hook.Keep (End e) = if e.answered then None else Some e.cause
hook_failure (after_hook.Boot keep) (End e) = Some e.cause

-- where a run stands after a step in which its command has waited on
abbrev pub rested : Stage → Stage
rested (stage.Waiting s e) = stage.Waiting (anew s) e
rested st = st

-- what the command of this stage waits for has come, and it can be answered
abbrev pub IsAnswerable : Stage → TheAnswer → Site → Type 0
IsAnswerable (stage.Waiting s (Open p)) x c = IsSoundAfter (Some x) c s p
IsAnswerable _ x c = ⊥

-- it was answered
abbrev pub ConcludesAt : Stage → TheAnswer → Site → Snapshot → Logged → Logged → Type 0
ConcludesAt (stage.Waiting s (Open p)) x before after old new = Concludes p x (anew s) before after old new
ConcludesAt _ x before after old new = ⊥

-- The command sleeps on, or wakes.
pub data WakesBy (until now : ℕ) (s : Running) (st : Stage) (old new : Logged) : Type 0 where
  sleeps_still : now < until → st ≡ stage.Waiting (anew s) (Moment until) → new ≡ old → WakesBy until now s st old new
  wakes_now : until ≤ now → st ≡ stage.Running (with_result (anew s) ok) → Puts old new (out_texts (result ok ∷ [])) → WakesBy until now s st old new
