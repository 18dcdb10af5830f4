-- An image is handed off: what comes of a file says so, by the history.
use Rattle.std.proofs.Common.{◌≡◌, ℕ, List, [], ◌∷◌, ◌++◌, Option, Some, None, Result, Ok, Err, refl, sym, ◌∙◌, ap, subst, inl, inr}
use Rattle.std.specs.Option.{option_map_or}
use Rattle.nb_terms.specs.declared.cause.Cause.{Cause}
use Rattle.nb_defs.specs.Records.{In, Out, step}
use Rattle.nb_image.specs.Images.{ImageList}
use Rattle.nb_machine.specs.Conclusions.{Conclusion, boots, conclusion, fails}
use Rattle.nb_machine.specs.Errands.{Onward, hooks_then, Wanted}
use Rattle.nb_machine.specs.Findings.{Settlement}
use Rattle.nb_machine.specs.Kinds.{fetched, read_last, answered}
use Rattle.nb_machine.specs.Queries.{Query, for_lease, for_echo, for_host, for_address}
use Rattle.nb_machine.specs.Running.{Running, anew}
use Rattle.nb_machine.specs.Lives.{Live}
use Rattle.nb_machine.specs.States.{State}
use Rattle.nb_machine.specs.Takings.{Over}
use Rattle.nb_machine.specs.Network.{Network}
use Rattle.nb_imagecmd.specs.Moving.{moved_file}
use Rattle.nb_machine.specs.Effects.{next_moved}
use Rattle.nb_machine.specs.Scripts.{Job, job_for, sleep, Answer, by_end, by_time, answer_in, next_of, concludes, settles, goes_onward, Waiting, place_moved_to, upshot_moved, upshot_fetched, concluded_by, upshot_hooked, upshot_read, reads_drive, boots_drive_by, by_drive, hooks_drive, hooked_drive, hooks, boots as reads_job, Upshot}
use Rattle.nb_machine.specs.Courses as course
use Rattle.nb_laws.specs.Events.{Event}
use Rattle.nb_laws.specs.Moves.{MovedOpen}
use Rattle.nb_laws.proofs.Tellings.{told}
use Rattle.nb_openlaws.specs.Standings.{AgreesState}
use Rattle.nb_openlaws.proofs.Networks.{network_agrees}
use Rattle.nb_lawful.specs.ScriptAgreement.{ScriptsAgree}
use Rattle.nb_lawful.proofs.Opened.{Purpose, for_file, for_query, for_disk_host, for_disk, for_boot}
use Rattle.nb_lawful.proofs.CommandEnds.{ended_so, HasEnded}
use Rattle.nb_lawful.proofs.Leading.{Concluding, BootsBy, boots_by}
use Rattle.nb_lawful.proofs.Concluded.{concluding_file}
use Rattle.nb_lawful.proofs.Coming.{Comes, its_time, its_end, comes_so, its_drive, its_disk, its_boot_end, its_block, its_hooked, its_lost}
use Rattle.nb_lawful.proofs.Scripted.{AnswersIn, TellsIn, network_steps}
use Rattle.nb_drivecmd.specs.declared.drive.Drive.{Drive}
use Rattle.nb_drivecmd.specs.declared.outcome.Hooking.{Hooking}
use Rattle.nb_machine.specs.Courses.{AsksBlock}
use Rattle.nb_lawful.proofs.DiskHanded.{BlockTells}
use Rattle.nb_lawful.proofs.DriveSessions.{DueHere}
use Rattle.nb_lawful.proofs.DriveSteps.{AfterRecord, due_for, all_out, all_gone}
use Rattle.nb_openlaws.specs.Sessions.{SessionsAgree}
use Rattle.nb_lawful.proofs.Hooked.{block_tells}
use Rattle.nb_lawful.proofs.Booted.{hooked_tells}

settles_none : (x : Settlement) (c : Conclusion) → settles x ≡ concludes c → ⊥
settles_none x c e = absurd (cc)

host_none : (x : Option Onward) (y : Settlement) (c : Conclusion) → option_map_or goes_onward x (settles y) ≡ concludes c → ⊥
host_none None y c e = absurd (cc)
host_none (Some next) y c e = absurd (cc)

query_none : (s : State) (depth : ℕ) (query : Query) (l : Live) (cause : Cause) (c : Conclusion) → concluded_by s depth (job_for query) (by_end (ended_so l cause)) ≡ concludes c → ⊥
query_none s depth for_lease l cause c e = settles_none _ c e
query_none s depth (for_echo server) l cause c e = settles_none _ c e
query_none s depth (for_address setting name by) l cause c e = settles_none _ c e
query_none s depth (for_host errand name by) l cause c e = host_none (next_of errand (ended_so l cause)) _ c e

-- a file that was moved boots nothing
moved_none : (r : Result Onward Cause) (list : ImageList) (kernel : ℕ) → upshot_moved r ≡ concludes (boots list kernel) → ⊥
moved_none (Ok next) list kernel e = absurd (cc)
moved_none (Err cause) list kernel e = absurd (cc)

same_conclusion : (c d : Conclusion) → concludes c ≡ concludes d → c ≡ d
same_conclusion c d e = cc e

-- an open has ended, of whose file the command boots the image
ended_boots : (es : List Event) (outs : List Out) (s : State) (inner : Running) (outer : List Running) (moved : List MovedOpen) (l : Live) (cause : Cause) (job : Job) (list : ImageList) (kernel : ℕ) → HasEnded es outs s inner outer moved l cause → Purpose es s.drives moved l job →
    concluded_by s inner.depth job (by_end (ended_so l cause)) ≡ concludes (boots list kernel) → BootsBy es s list kernel
ended_boots es outs s inner outer moved l cause job list kernel h (for_query query is a) e =
    absurd (query_none s inner.depth query l cause (boots list kernel) (sym (ap (λ z. concluded_by s inner.depth z (by_end (ended_so l cause))) is) ∙ e))
ended_boots es outs s inner outer moved l cause job list kernel h (for_disk_host hooking is a gone) e =
    absurd (host_none (next_of (hooks_then hooking) (ended_so l cause)) _ (boots list kernel) (sym (ap (λ z. concluded_by s inner.depth z (by_end (ended_so l cause))) is) ∙ e))
ended_boots es outs s inner outer moved l cause job list kernel h (for_disk hooking is keeps a early gone) e =
    absurd (let no : concludes (fails cause) ≡ concludes (boots list kernel) = sym (ap (λ z. concluded_by s inner.depth z (by_end (ended_so l cause))) is) ∙ e in cc no)
ended_boots es outs s inner outer moved l cause job list kernel h (for_boot hooking keep is boots_it a asks unasked early gone) e =
    absurd (let no : concludes (fails cause) ≡ concludes (boots list kernel) = sym (ap (λ z. concluded_by s inner.depth z (by_end (ended_so l cause))) is) ∙ e in cc no)
ended_boots es outs s inner outer moved l cause job list kernel h (for_file wanted is f) e =
    by (place_moved_to (ended_so l cause)) refl (sym (ap (λ z. concluded_by s inner.depth z (by_end (ended_so l cause))) is) ∙ e)
  where
    by : (x : Option (List ℕ)) → place_moved_to (ended_so l cause) ≡ x → upshot_fetched s inner.depth wanted (ended_so l cause) x ≡ concludes (boots list kernel) → BootsBy es s list kernel
    by None stays at =
        let c = conclusion cause wanted.asking (fetched l) inner.depth s.images in
        boots_by es outs s inner outer list kernel (subst (Concluding es outs s inner outer) (same_conclusion c (boots list kernel) at) (concluding_file es outs s inner outer moved l cause wanted h f stays))
    by (Some place) goes at = absurd (moved_none (next_moved s.opens s.table (moved_file wanted.asking place)) list kernel at)

-- at the step in which it has come
pub step_boots : (es : List Event) (outs : List Out) (s s' : State) (w : Waiting) (n : ℕ) (r : In) (put : List Out) (over : List Over) (x : Answer) (list : ImageList) (kernel : ℕ) (net : Network s n r put s' over) (a : AgreesState es s) →
    AnswersIn es s → TellsIn es s w →
    answer_in s' r over w.awaited ≡ Some x → concluded_by s' w.script.depth w.job x ≡ concludes (boots list kernel) → ScriptsAgree es outs (course.waiting s w) → BootsBy ((es ++ (network_agrees es s n r put s' over net a).event ∷ []) ++ told put) s' list kernel
step_boots es outs s s' w n r put over x list kernel net a answers told_so given is h =
    let u = network_agrees es s n r put s' over net a in
    let es2 = (es ++ u.event ∷ []) ++ told put in
    let t = told_so n r put s' over net a in
    by es2 (comes_so es es2 outs s s' w r n u.event put over x (network_steps es outs s s' w n r put over net a h) u.agrees u.ended u.agrees.each t.tells t.told_over t.now (answers n r put s' over net a) given h.4)
  where
    hooks_so : (l : Live) (hooking : Hooking) → x ≡ by_drive l → w.job ≡ hooks hooking → concluded_by s' w.script.depth w.job x ≡ upshot_hooked hooking.after (hooked_drive hooking l)
    hooks_so l hooking at job = ap (λ z. concluded_by s' w.script.depth z x) job ∙ ap (concluded_by s' w.script.depth (hooks hooking)) at

    block_so : (l : Live) (d : Option Drive) (bytes : List ℕ) → x ≡ by_drive l → w.job ≡ reads_job d → read_last l ≡ Some bytes → concluded_by s' w.script.depth w.job x ≡ boots_drive_by d bytes
    block_so l d bytes at job read = ap (λ z. concluded_by s' w.script.depth z x) job ∙ ap (concluded_by s' w.script.depth (reads_job d)) at ∙ ap (upshot_read s' d) read

    by : (es2 : List Event) → Comes es2 outs s s' w n put x → BootsBy es2 s' list kernel
    by es2 (its_time until at job slept out) =
        absurd (let impossible : concluded_by s' w.script.depth sleep by_time ≡ concludes (boots list kernel) = sym (ap (λ z. concluded_by s' w.script.depth z x) job ∙ ap (concluded_by s' w.script.depth sleep) at) ∙ is in cc impossible)
    by es2 (its_drive moved l hooking at job keeps answered out) =
        absurd (let no : hooks_drive (hooked_drive hooking l) ≡ concludes (boots list kernel) = sym (hooks_so l hooking at job ∙ ap (λ z. upshot_hooked z (hooked_drive hooking l)) keeps) ∙ is in cc no)
    by es2 (its_disk l hooking keep at job boots_it sized out there) =
        absurd (let no : reads_drive (hooked_drive hooking l) ≡ concludes (boots list kernel) = sym (hooks_so l hooking at job ∙ ap (λ z. upshot_hooked z (hooked_drive hooking l)) boots_it) ∙ is in cc no)
    by es2 (its_boot_end moved l cause hooking keep at (inl job) boots_it ended names unread gone) =
        absurd (let no : concludes (fails cause) ≡ concludes (boots list kernel) = sym (ap (λ z. concluded_by s' w.script.depth z x) job ∙ ap (concluded_by s' w.script.depth (hooks hooking)) at) ∙ is in cc no)
    by es2 (its_boot_end moved l cause hooking keep at (inr job) boots_it ended names unread gone) =
        absurd (let no : concludes (fails cause) ≡ concludes (boots list kernel) = sym (ap (λ z. concluded_by s' w.script.depth z x) job ∙ ap (concluded_by s' w.script.depth (reads_job (Some (hooked_drive hooking l)))) at) ∙ is in cc no)
    by es2 (its_block moved l hooking keep bytes at job boots_it hooked read has settled base) =
        absurd (let no : boots_drive_by (Some (hooked_drive hooking l)) bytes ≡ concludes (boots list kernel) = sym (block_so l (Some (hooked_drive hooking l)) bytes at job read) ∙ is in cc no)
    by es2 (its_hooked l d bytes at job booted read has settled base) =
        absurd (let no : boots_drive_by None bytes ≡ concludes (boots list kernel) = sym (block_so l None bytes at job read) ∙ is in cc no)
    by es2 (its_lost l d cause at job booted ended unread gone) =
        absurd (let no : concludes (fails cause) ≡ concludes (boots list kernel) = sym (ap (λ z. concluded_by s' w.script.depth z x) job ∙ ap (concluded_by s' w.script.depth (reads_job None)) at) ∙ is in cc no)
    by es2 (its_end moved l cause at ended purpose out) = ended_boots es2 _ s' _ w.outer moved l cause w.job list kernel ended purpose (sym (ap (concluded_by s' w.script.depth w.job) at) ∙ is)

-- WHAT IS KNOWN WHERE IT LEADS

-- no drive is due, but the one that is asked
abbrev pub UpshotTells : List Event → State → Upshot → Type 0
UpshotTells es s (concludes c) = SessionsAgree es s.live
UpshotTells es s (settles x) = SessionsAgree es s.live
UpshotTells es s (hooks_drive d) = SessionsAgree es s.live
UpshotTells es s (reads_drive d) = (l : Live) × DueHere es s l × (d.open_number ≡ l.number)
UpshotTells es s (boots_drive_by d bytes) = BlockTells es s d bytes
UpshotTells es s (goes_onward next) = SessionsAgree es s.live

-- it neither asks a disk nor boots one
abbrev LeavesDisks : Upshot → Type 0
LeavesDisks (concludes c) = Unit {0}
LeavesDisks (settles x) = Unit {0}
LeavesDisks (hooks_drive d) = Unit {0}
LeavesDisks (reads_drive d) = ⊥
LeavesDisks (boots_drive_by d bytes) = ⊥
LeavesDisks (goes_onward next) = Unit {0}

leaves_tells : (es : List Event) (s : State) (u : Upshot) → LeavesDisks u → SessionsAgree es s.live → UpshotTells es s u
leaves_tells es s (concludes c) h all = all
leaves_tells es s (settles x) h all = all
leaves_tells es s (hooks_drive d) h all = all
leaves_tells es s (reads_drive d) h all = absurd h
leaves_tells es s (boots_drive_by d bytes) h all = absurd h
leaves_tells es s (goes_onward next) h all = all

host_leaves : (x : Option Onward) (y : Settlement) → LeavesDisks (option_map_or goes_onward x (settles y))
host_leaves None y = tt
host_leaves (Some next) y = tt

query_leaves : (s : State) (depth : ℕ) (query : Query) (l : Live) (cause : Cause) → LeavesDisks (concluded_by s depth (job_for query) (by_end (ended_so l cause)))
query_leaves s depth for_lease l cause = tt
query_leaves s depth (for_echo server) l cause = tt
query_leaves s depth (for_address setting name by) l cause = tt
query_leaves s depth (for_host errand name by) l cause = host_leaves (next_of errand (ended_so l cause)) _

moved_leaves : (r : Result Onward Cause) → LeavesDisks (upshot_moved r)
moved_leaves (Ok next) = tt
moved_leaves (Err cause) = tt

fetched_leaves : (s : State) (depth : ℕ) (wanted : Wanted) (o : Over) (x : Option (List ℕ)) → LeavesDisks (upshot_fetched s depth wanted o x)
fetched_leaves s depth wanted o None = tt
fetched_leaves s depth wanted o (Some place) = moved_leaves (next_moved s.opens s.table (moved_file wanted.asking place))

ended_leaves : (es : List Event) (s : State) (depth : ℕ) (moved : List MovedOpen) (l : Live) (cause : Cause) (job : Job) → Purpose es s.drives moved l job → LeavesDisks (concluded_by s depth job (by_end (ended_so l cause)))
ended_leaves es s depth moved l cause job (for_query query is a) = subst (λ z. LeavesDisks (concluded_by s depth z (by_end (ended_so l cause)))) (sym is) (query_leaves s depth query l cause)
ended_leaves es s depth moved l cause job (for_disk_host hooking is a gone) = subst (λ z. LeavesDisks (concluded_by s depth z (by_end (ended_so l cause)))) (sym is) (host_leaves (next_of (hooks_then hooking) (ended_so l cause)) _)
ended_leaves es s depth moved l cause job (for_disk hooking is keeps a early gone) = subst (λ z. LeavesDisks (concluded_by s depth z (by_end (ended_so l cause)))) (sym is) tt
ended_leaves es s depth moved l cause job (for_boot hooking keep is boots_it a asks unasked early gone) = subst (λ z. LeavesDisks (concluded_by s depth z (by_end (ended_so l cause)))) (sym is) tt
ended_leaves es s depth moved l cause job (for_file wanted is f) = subst (λ z. LeavesDisks (concluded_by s depth z (by_end (ended_so l cause)))) (sym is) (fetched_leaves s depth wanted (ended_so l cause) (place_moved_to (ended_so l cause)))

pub step_tells : (es2 : List Event) (outs : List Out) (s s' : State) (w : Waiting) (n : ℕ) (put : List Out) (over : List Over) (x : Answer) → AfterRecord es2 s' w over → Comes es2 outs s s' w n put x → UpshotTells es2 s' (concluded_by s' w.script.depth w.job x)
step_tells es2 outs s s' w n put over x t (its_time until at job slept out) =
    subst (UpshotTells es2 s') (sym (ap (λ z. concluded_by s' w.script.depth z x) job ∙ ap (concluded_by s' w.script.depth sleep) at)) (all_out es2 s' w out t.sized)
step_tells es2 outs s s' w n put over x t (its_end moved l cause at ended purpose out) =
    subst (UpshotTells es2 s') (sym (ap (concluded_by s' w.script.depth w.job) at))
    (leaves_tells es2 s' (concluded_by s' w.script.depth w.job (by_end (ended_so l cause))) (ended_leaves es2 s' w.script.depth moved l cause w.job purpose) (all_out es2 s' w out t.sized))
step_tells es2 outs s s' w n put over x t (its_drive moved l hooking at job keeps answered_so out) =
    subst (UpshotTells es2 s') (sym (ap (λ z. concluded_by s' w.script.depth z x) job ∙ ap (concluded_by s' w.script.depth (hooks hooking)) at ∙ ap (λ z. upshot_hooked z (hooked_drive hooking l)) keeps)) (all_out es2 s' w out t.sized)
step_tells es2 outs s s' w n put over x t (its_disk l hooking keep at job boots_it sized out there) =
    subst (UpshotTells es2 s') (sym (ap (λ z. concluded_by s' w.script.depth z x) job ∙ ap (concluded_by s' w.script.depth (hooks hooking)) at ∙ ap (λ z. upshot_hooked z (hooked_drive hooking l)) boots_it))
    (l, due_for es2 s' w t.base t.sized t.fresh l there.0 there.1 sized.known, refl)
step_tells es2 outs s s' w n put over x t (its_boot_end moved l cause hooking keep at (inl job) boots_it ended names unread gone) =
    subst (UpshotTells es2 s') (sym (ap (λ z. concluded_by s' w.script.depth z x) job ∙ ap (concluded_by s' w.script.depth (hooks hooking)) at)) (all_gone es2 s' w t.base gone t.sized)
step_tells es2 outs s s' w n put over x t (its_boot_end moved l cause hooking keep at (inr job) boots_it ended names unread gone) =
    subst (UpshotTells es2 s') (sym (ap (λ z. concluded_by s' w.script.depth z x) job ∙ ap (concluded_by s' w.script.depth (reads_job (Some (hooked_drive hooking l)))) at)) (all_gone es2 s' w t.base gone t.sized)
step_tells es2 outs s s' w n put over x t (its_block moved l hooking keep bytes at job boots_it hooked read has settled base) =
    subst (UpshotTells es2 s') (sym (ap (λ z. concluded_by s' w.script.depth z x) job ∙ ap (concluded_by s' w.script.depth (reads_job (Some (hooked_drive hooking l)))) at ∙ ap (upshot_read s' (Some (hooked_drive hooking l))) read))
    (block_tells es2 (outs ++ step n ∷ put) s' (anew w.script) w.outer moved l hooking keep bytes boots_it hooked has settled)
step_tells es2 outs s s' w n put over x t (its_hooked l d bytes at job booted read has settled base) =
    subst (UpshotTells es2 s') (sym (ap (λ z. concluded_by s' w.script.depth z x) job ∙ ap (concluded_by s' w.script.depth (reads_job None)) at ∙ ap (upshot_read s' None) read))
    (hooked_tells es2 (outs ++ step n ∷ put) s' (anew w.script) w.outer d bytes booted has settled)
step_tells es2 outs s s' w n put over x t (its_lost l d cause at job booted ended unread gone) =
    subst (UpshotTells es2 s') (sym (ap (λ z. concluded_by s' w.script.depth z x) job ∙ ap (concluded_by s' w.script.depth (reads_job None)) at)) (all_gone es2 s' w t.base gone t.sized)
