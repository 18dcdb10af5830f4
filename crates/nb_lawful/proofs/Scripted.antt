-- A course goes on by one step or one move: the scripts' side of its history.
use Rattle.std.proofs.Common.{◌≡◌, inl, inr, IsSome, ℕ, ◌+◌, ◌≤◌, length, Bool, true, false, List, [], ◌∷◌, ◌++◌, Some, None, refl, sym, ◌∙◌, ap, subst, append_assoc, add-zero, arith, ne_eqb}
use Rattle.std.specs.List.{AllByRecursion}
use Rattle.std.proofs.lemmas.List.{map-append}
use Rattle.nb_terms.specs.declared.cause.Cause.{Cause}
use Rattle.nb_defs.specs.Records.{Start, In, Out, step, sent, command, result, script, opened, done, enter, leave}
use Rattle.nb_laws.specs.Endings.{MayStandBehind}
use Rattle.nb_defs.specs.ScriptLines.{Line, script}
use Rattle.nb_defs.specs.Causes.{ok}
use Rattle.nb_machine.specs.FirstText.{first_text, first_reading, lines_of}
use Rattle.nb_machine.specs.StartTable.{start_table}
use Rattle.nb_machine.specs.Starting.{is_up}
use Rattle.nb_machine.specs.Running.{Running, first_script, anew}
use Rattle.nb_machine.specs.CommandRecords.{stopped_cause, command_record}
use Rattle.nb_streams.proofs.FlowLaws.{all_append}
use Rattle.nb_machine.specs.Lives.{close, Live}
use Rattle.nb_machine.specs.States.{State, state_at_start, with_live, still_hooked}
use Rattle.nb_machine.specs.Takings.{Over, AllTake}
use Rattle.nb_machine.specs.Network.{Network}
use Rattle.nb_machine.specs.Scripts.{sleep, Answer, by_end, by_time, answer_in, disk, has_number, Waiting, waiting_anew, Upshot, concludes, reads_drive, boots_drive_by, upshot_records, upshot_hooked, upshot_read, concluded_by, hooks, boots, boots_one, doing, hooks_drive, hooked_drive}
use Rattle.nb_machine.specs.Conclusions.{fails}
use Rattle.nb_machine.specs.Kinds.{answered}
use Rattle.nb_drivecmd.specs.declared.drive.Drive.{Drive}
use Rattle.nb_drivecmd.specs.declared.outcome.Hooking.{Hooking}
use Rattle.nb_drivecmd.specs.HookedDrives.{drive_numbered}
use Rattle.std.specs.Prelude.{find}
use Rattle.nb_laws.proofs.SessionOpenings.{no_session_unopened}
use Rattle.nb_machine.specs.Courses as course
use Rattle.nb_machine.specs.Courses.{Standing, Progress, LeadsTo, StepBegins, Proceeds, DropsDrive}
use Rattle.nb_machine.specs.Effects.{shown_words}
use Rattle.nb_laws.specs.Events.{Event, starts, stops, puts, EachEvent}
use Rattle.nb_laws.specs.Lists.{made, ms_of}
use Rattle.nb_laws.specs.CommandsSoFar.{CommandsSoFar, so_far, no_commands, script_so_far}
use Rattle.nb_laws.specs.Frames.{enters_first}
use Rattle.nb_laws.specs.Progress.{NoneOversleeps}
use Rattle.nb_laws.specs.Silence.{IsSilent}
use Rattle.nb_laws.specs.Agreement.{AgreesScript, IsStill}
use Rattle.nb_laws.proofs.Histories.{time_more}
use Rattle.nb_laws.proofs.Tellings.{told, made_more}
use Rattle.nb_laws.proofs.Commands.{told_begun, begun_more}
use Rattle.nb_laws.proofs.HandOffs.{parts_more}
use Rattle.nb_laws.proofs.SoFar.{so_far_more, silent_so_far, starts_so_far}
use Rattle.nb_laws.proofs.Settling.{over_rests}
use Rattle.nb_openlaws.specs.Standings.{AreLive, AgreesState, AgreesStanding}
use Rattle.nb_openlaws.proofs.Networks.{network_agrees}
use Rattle.nb_openlaws.proofs.OpenStates as states
use Rattle.nb_openlaws.proofs.Courses.{step_event, step_more}
use Rattle.nb_openlaws.proofs.Puts.{close_ends}
use Rattle.nb_openlaws.proofs.LiveStates.{drop_agrees}
use Rattle.nb_openlaws.proofs.OpenStates.{still_state}
use Rattle.nb_laws.specs.CommandOpens.{command_open}
use Rattle.nb_laws.specs.CommandOpens.{end_of}
use Rattle.nb_laws.specs.Hookings.{NoneIsHooked, HasRead}
use Rattle.nb_lawful.specs.Results.{HasEndedOpens, CommandsSo}
use Rattle.nb_lawful.specs.ScriptAgreement.{HandsEither, SettingsAre, IsAnother, HasImages, NoneLeft, ScriptsAgree, HasDrives, WasHooked}
use Rattle.nb_lawful.proofs.Quiet.{silent_stands, quiet_commands, quiet_made, command_open_more, ends_quiet}
use Rattle.nb_lawful.proofs.Begun.{told_two, stand_then}
use Rattle.nb_lawful.proofs.AtOnce.{Goes, goes_nowhere, passes_goes, left_goes, hands_back_goes, does_goes, leaves_goes, jumps_goes, no_label_goes, shuts_goes, sleeps_goes}
use Rattle.nb_lawful.proofs.Opening.{Based, opens_goes, no_route_goes}
use Rattle.nb_lawful.proofs.There.{there_goes}
use Rattle.nb_lawful.proofs.Onward.{onward_goes, no_way_goes, full_goes}
use Rattle.nb_lawful.proofs.Stepping.{network_leaves, told_time, comes}
use Rattle.nb_lawful.proofs.Answered.{job_goes, slept_goes, boot_fails}
use Rattle.nb_lawful.proofs.Resting.{waiting_rests, rests_on}
use Rattle.nb_lawful.proofs.Waiting.{Steps, waits_so}
use Rattle.nb_lawful.proofs.Coming.{AnswersSo, SettledNow, HasBooted, IsBooting, Comes, its_time, its_end, comes_so, its_drive, its_disk, its_boot_end, its_block, its_hooked, its_lost}
use Rattle.nb_lawful.proofs.Asked.{AsksWell, sized_goes}
use Rattle.nb_lawful.proofs.Booted.{lost_goes, hooked_goes, boots_goes}
use Rattle.nb_lawful.proofs.DriveAnswers.{TellsSession, says_all}
use Rattle.nb_lawful.proofs.Plain.{PlainAt}
use Rattle.nb_openlaws.specs.Sessions.{SessionsStand}
use Rattle.nb_lawful.proofs.HookedLives.{lives_so, none_keeps}
use Rattle.nb_lawful.proofs.Hooking.{hooks_goes, hooks_none_goes, unhooks_goes}
use Rattle.nb_lawful.proofs.Hooked.{drive_goes, block_goes}
use Rattle.nb_lawful.proofs.Unhooked.{off_unhooked, waiting_unhooked, over_unhooked}

-- WHAT THE BASE SAYS

others_fewer : (es : List Event) (k : ℕ) (ls : List Live) → made es ≤ k → AreLive es ls → AllByRecursion (IsAnother k) ls
others_fewer es k [] more h = tt
others_fewer es k (l ∷ ls) more h = (ne_eqb l.number k (λ is. omega (arith, is, more, h.0.made_so)), others_fewer es k ls more h.1)

pub based : (es : List Event) (s : State) → AgreesState es s → Based es s
based es s a = record {
  opens = a.opens;
  hardware_is = sym (states.hardware_now es s a);
  offset_is = a.offset;
  fewer = others_fewer es s.opens s.live (omega (arith, a.opens)) a.each;
  silent = (a.unstreamed (made es) (omega arith)).0;
  none_yet = no_session_unopened s.opens es (a.unopened s.opens (omega (arith, a.opens)));
}

-- A STEP

-- an event that is used, and the records put in its step, have their places; and the history agrees with where the scripts stand then
pub record StepGoes (es : List Event) (outs : List Out) (e : Event) (n : ℕ) (more : List Out) (p : Standing) : Type 0 where
  pub stands : EachEvent CommandsSo (es ++ e ∷ []) (told more)
  pub agrees : ScriptsAgree ((es ++ e ∷ []) ++ told more) (outs ++ step n ∷ more) p

-- records that stand after the network's
step_then : (es : List Event) (outs : List Out) (e : Event) (n : ℕ) (put more : List Out) (p : Standing) → EachEvent CommandsSo (es ++ e ∷ []) (told put) → Goes ((es ++ e ∷ []) ++ told put) (outs ++ step n ∷ put) more p → StepGoes es outs e n (put ++ more) p
step_then es outs e n put more p stands g = record {
  stands = stand_then (es ++ e ∷ []) put more stands g.stands;
  agrees = subst (λ z. ScriptsAgree z (outs ++ step n ∷ (put ++ more)) p) (sym (told_two (es ++ e ∷ []) put more))
      (subst (λ z. ScriptsAgree (((es ++ e ∷ []) ++ told put) ++ told more) z p) (append_assoc outs (step n ∷ put) more) g.agrees);
}

step_as : (es : List Event) (outs : List Out) (e : Event) (n : ℕ) (a b : List Out) (p : Standing) → a ≡ b → StepGoes es outs e n a p → StepGoes es outs e n b p
step_as es outs e n a b p same g = subst (λ z. StepGoes es outs e n z p) same g

-- the network's part of a step
pub network_steps : (es : List Event) (outs : List Out) (s s' : State) (w : Waiting) (n : ℕ) (r : In) (put : List Out) (over : List Over) (net : Network s n r put s' over) (a : AgreesState es s) → ScriptsAgree es outs (course.waiting s w) →
    Steps es ((es ++ (network_agrees es s n r put s' over net a).event ∷ []) ++ told put) outs s s' w r n (network_agrees es s n r put s' over net a).event put over
network_steps es outs s s' w n r put over net a h =
    let u = network_agrees es s n r put s' over net a in
    let leaves = network_leaves s s' n r put over net in
    record { at = refl; used = u.used; made_is = a.opens; came = comes es outs s s' w.script w.outer true n u.event put u.used u.further leaves (now_is es s s' u.event put a u.agrees) h.0 h.1 h.2 h.3; leaves = leaves; net = net }
  where
    now_is : (es : List Event) (s s' : State) (e : Event) (put : List Out) → AgreesState es s → AgreesState ((es ++ e ∷ []) ++ told put) s' → s'.now ≡ s.now + ms_of e
    now_is es s s' e put a b = sym b.time ∙ told_time (es ++ e ∷ []) put ∙ time_more es e ∙ ap (λ z. z + ms_of e) a.time

-- what the history says of the drives' sessions after the network's part of a step; and where the disk that is awaited has answered, of the opens
-- after it is asked for its first block
pub record StepTells (es2 : List Event) (s2 : State) (w : Waiting) (over : List Over) : Type 0 where
  pub tells : AllByRecursion (TellsSession es2) s2.live
  pub told_over : AllByRecursion (λ o. TellsSession es2 o.live) over
  pub now : SettledNow es2 s2 w
  pub asks : (l : Live) → w.awaited ≡ disk l.number → find (has_number l.number) s2.live ≡ Some l → IsSome (answered l) → AsksWell es2 s2 l.number

abbrev pub TellsIn : List Event → State → Waiting → Type 0
TellsIn es s w = (n : ℕ) (r : In) (put : List Out) (s' : State) (over : List Over) (net : Network s n r put s' over) (a : AgreesState es s) → StepTells ((es ++ (network_agrees es s n r put s' over net a).event ∷ []) ++ told put) s' w over

-- the answers of opens that end in the next step are as their ends say
abbrev pub AnswersIn : List Event → State → Type 0
AnswersIn es s = (n : ℕ) (r : In) (put : List Out) (s' : State) (over : List Over) (net : Network s n r put s' over) (a : AgreesState es s) → AllByRecursion (AnswersSo ((es ++ (network_agrees es s n r put s' over net a).event ∷ []) ++ told put)) over

-- a command waits on
waits_step : (es : List Event) (outs : List Out) (s s' : State) (w : Waiting) (n : ℕ) (r : In) (put : List Out) (over : List Over) (net : Network s n r put s' over) (a : AgreesState es s) → answer_in s' r over w.awaited ≡ None →
    ScriptsAgree es outs (course.waiting s w) → StepGoes es outs (network_agrees es s n r put s' over net a).event n put (course.waiting s' (waiting_anew w))
waits_step es outs s s' w n r put over net a unanswered h =
    let u = network_agrees es s n r put s' over net a in
    let es2 = (es ++ u.event ∷ []) ++ told put in
    let k = network_steps es outs s s' w n r put over net a h in
    record {
      stands = quiet_commands (es ++ u.event ∷ []) put k.leaves.quiet;
      agrees = (k.came.script, k.came.settings, k.came.images, k.came.none_left, waits_so es es2 outs s s' w r n u.event put over k unanswered h.4);
    }

-- what it waits for has come
answered_step : (es : List Event) (outs : List Out) (s s' : State) (w : Waiting) (n : ℕ) (r : In) (put more : List Out) (over : List Over) (x : Answer) (p : Standing) (net : Network s n r put s' over) (a : AgreesState es s) → AnswersIn es s → TellsIn es s w →
    answer_in s' r over w.awaited ≡ Some x → LeadsTo s' (anew w.script) w.outer (concluded_by s' w.script.depth w.job x) more p → ScriptsAgree es outs (course.waiting s w) →
    StepGoes es outs (network_agrees es s n r put s' over net a).event n (put ++ (upshot_records (concluded_by s' w.script.depth w.job x) ++ more)) p
answered_step es outs s s' w n r put more over x p net a answers told_so given leads h =
    let u = network_agrees es s n r put s' over net a in
    let es2 = (es ++ u.event ∷ []) ++ told put in
    let k = network_steps es outs s s' w n r put over net a h in
    let t = told_so n r put s' over net a in
    step_then es outs u.event n put (upshot_records (concluded_by s' w.script.depth w.job x) ++ more) p (quiet_commands (es ++ u.event ∷ []) put k.leaves.quiet)
    (by es2 u.agrees.opens t.asks (comes_so es es2 outs s s' w r n u.event put over x k u.agrees u.ended u.agrees.each t.tells t.told_over t.now (answers n r put s' over net a) given h.4))
  where
    d : ℕ
    d = w.script.depth

    outs2 : List Out
    outs2 = outs ++ step n ∷ put

    by_upshot : (es2 : List Event) (u : Upshot) → concluded_by s' d w.job x ≡ u → (LeadsTo s' (anew w.script) w.outer u more p → Goes es2 outs2 (upshot_records u ++ more) p) → Goes es2 outs2 (upshot_records (concluded_by s' d w.job x) ++ more) p
    by_upshot es2 u at goes = subst (λ z. Goes es2 outs2 (upshot_records z ++ more) p) (sym at) (goes (subst (λ z. LeadsTo s' (anew w.script) w.outer z more p) at leads))

    by_booting : (l : Live) (cause : Cause) (hooking : Hooking) → x ≡ by_end (record { live = l; cause = cause }) → IsBooting w hooking l → concluded_by s' d w.job x ≡ concludes (fails cause)
    by_booting l cause hooking is (inl job) = ap (λ z. concluded_by s' d z x) job ∙ ap (concluded_by s' d (hooks hooking)) is
    by_booting l cause hooking is (inr job) = ap (λ z. concluded_by s' d z x) job ∙ ap (concluded_by s' d (boots (Some (hooked_drive hooking l)))) is

    by_lost : (es2 : List Event) (one : Drive) (cause : Cause) → HasBooted es2 outs2 s' (anew w.script) w.outer one → end_of one.open_number es2 ≡ Some cause → ((bytes : List ℕ) → HasRead one.open_number es2 bytes → ⊥) →
        LeadsTo s' (anew w.script) w.outer (concludes (fails cause)) more p → Goes es2 outs2 (result cause ∷ more) p
    by_lost es2 one cause booted ended unread (none, is) =
        subst (λ z. Goes es2 outs2 (result cause ∷ z) p) (sym none) (subst (λ z. Goes es2 outs2 (result cause ∷ []) z) (sym is) (lost_goes es2 outs2 s' (anew w.script) w.outer one cause booted ended unread))

    by : (es2 : List Event) → made es2 ≡ s'.opens → ((l : Live) → w.awaited ≡ disk l.number → find (has_number l.number) s'.live ≡ Some l → IsSome (answered l) → AsksWell es2 s' l.number) → Comes es2 outs s s' w n put x →
        Goes es2 outs2 (upshot_records (concluded_by s' d w.job x) ++ more) p
    by es2 opens asks (its_time until is job slept out) =
        by_upshot es2 (concluded_by s' d sleep by_time) (ap (λ z. concluded_by s' d z x) job ∙ ap (concluded_by s' d sleep) is) (slept_goes es2 outs2 s' s (anew w.script) w.outer until more p slept)
    by es2 opens asks (its_end moved l cause is over purpose out) =
        by_upshot es2 (concluded_by s' d w.job (by_end (record { live = l; cause = cause }))) (ap (concluded_by s' d w.job) is) (job_goes es2 outs2 s' (anew w.script) w.outer moved l cause w.job more p over purpose)
    by es2 opens asks (its_drive moved l hooking is job keeps hooked out) =
        by_upshot es2 (hooks_drive (hooked_drive hooking l)) (ap (λ z. concluded_by s' d z x) job ∙ ap (concluded_by s' d (hooks hooking)) is ∙ ap (λ z. upshot_hooked z (hooked_drive hooking l)) keeps)
        (drive_goes es2 outs2 s' (anew w.script) w.outer moved l hooking more p keeps hooked)
    by es2 opens asks (its_disk l hooking keep is job boots_it sized out there) =
        by_upshot es2 (reads_drive (hooked_drive hooking l)) (ap (λ z. concluded_by s' d z x) job ∙ ap (concluded_by s' d (hooks hooking)) is ∙ ap (λ z. upshot_hooked z (hooked_drive hooking l)) boots_it)
        (sized_goes es2 outs2 s' (waiting_anew w) l hooking keep more p sized boots_it opens (asks l there.0 there.1 sized.known))
    by es2 opens asks (its_boot_end moved l cause hooking keep is booting boots_it over names unread gone) =
        by_upshot es2 (concludes (fails cause)) (by_booting l cause hooking is booting) (boot_fails es2 outs2 s' (anew w.script) w.outer moved l cause hooking keep more p over names boots_it unread)
    by es2 opens asks (its_block moved l hooking keep bytes is job boots_it hooked read has settled base) =
        by_upshot es2 (boots_drive_by (Some (hooked_drive hooking l)) bytes)
        (ap (λ z. concluded_by s' d z x) job ∙ ap (concluded_by s' d (boots (Some (hooked_drive hooking l)))) is ∙ ap (upshot_read s' (Some (hooked_drive hooking l))) read)
        (block_goes es2 outs2 s' (anew w.script) w.outer moved l hooking keep bytes more p boots_it hooked has settled base)
    by es2 opens asks (its_hooked l one bytes is job booted read has settled base) =
        by_upshot es2 (boots_drive_by None bytes) (ap (λ z. concluded_by s' d z x) job ∙ ap (concluded_by s' d (boots None)) is ∙ ap (upshot_read s' None) read) (hooked_goes es2 outs2 s' (anew w.script) w.outer one bytes more p booted has settled base)
    by es2 opens asks (its_lost l one cause is job booted ended unread gone) =
        by_upshot es2 (concludes (fails cause)) (ap (λ z. concluded_by s' d z x) job ∙ ap (concluded_by s' d (boots None)) is) (by_lost es2 one cause booted ended unread)

-- a script goes on
resumes_step : (es : List Event) (outs : List Out) (s s' : State) (inner : Running) (outer : List Running) (n : ℕ) (r : In) (put : List Out) (over : List Over) (net : Network s n r put s' over) (a : AgreesState es s) →
    ScriptsAgree es outs (course.yielded s inner outer) → StepGoes es outs (network_agrees es s n r put s' over net a).event n put (course.running s' (anew inner) outer)
resumes_step es outs s s' inner outer n r put over net a h =
    let u = network_agrees es s n r put s' over net a in
    let leaves = network_leaves s s' n r put over net in
    let now : s'.now ≡ s.now + ms_of u.event = sym u.agrees.time ∙ told_time (es ++ u.event ∷ []) put ∙ time_more es u.event ∙ ap (λ z. z + ms_of u.event) a.time in
    let c = comes es outs s s' inner outer false n u.event put u.used u.further leaves now h.0 h.1 h.2 h.3 in
    record { stands = quiet_commands (es ++ u.event ∷ []) put leaves.quiet; agrees = (c.script, c.settings, c.images, c.none_left) }

-- the power is switched off
off_step : (es : List Event) (outs : List Out) (s : State) (inner : Running) (outer : List Running) (still : Bool) (n : ℕ) (put : List Out) (over : List Over) → AllTake s.devices (close stopped_cause) s.live put [] over → AgreesScript es inner outer → SettingsAre (so_far es) s still →
    HasImages es outs s → NoneLeft es → NoneOversleeps es → NoneIsHooked es → StepGoes es outs (stops n) n put (course.stopped (with_live s []))
off_step es outs s inner outer still n put over all lines settings images none_left rests unhooked =
    let closing = close_ends s.devices stopped_cause s.live put [] over all in
    let quiet = ends_quiet stopped_cause put closing in
    let c = comes es outs s (with_live s []) inner outer still n (stops n) put tt tt (record { table = refl; up = refl; images = refl; opens = refl; quiet = quiet; some = λ m h. none_keeps s }) (sym (add-zero s.now)) lines settings images none_left in
    let made_is : made ((es ++ stops n ∷ []) ++ told put) ≡ made es = quiet_made (es ++ stops n ∷ []) put quiet ∙ made_more es (stops n) ∙ add-zero (made es) in
    record { stands = quiet_commands (es ++ stops n ∷ []) put quiet; agrees = (rests_on es ((es ++ stops n ∷ []) ++ told put) c.same made_is rests, c.images.none, off_unhooked stopped_cause es n put closing unhooked) }

-- START: nothing was hooked
none_at_start : (s : Start) (m : CommandsSoFar) → m.hooked ≡ [] → HasDrives m (state_at_start s)
none_at_start s m none = record { are = ap (still_hooked []) (sym none); were = subst (AllByRecursion (WasHooked (state_at_start s))) (sym none) tt }

starts_agrees : (es : List Event) (outs : List Out) (s : Start) (n : ℕ) → ScriptsAgree es outs course.ready →
    ScriptsAgree ((es ++ starts n s ∷ []) ++ told (enter 1 ∷ [])) (outs ++ step n ∷ enter 1 ∷ []) (course.running (state_at_start s) (first_script (lines_of (first_reading s.script))) [])
starts_agrees es outs s n h =
    let es1 = es ++ starts n s ∷ [] in
    let b = enter 1 ∷ [] in
    let is : so_far (es1 ++ told b) ≡ record no_commands { table = start_table s; up = is_up s; scripts = script_so_far (first_text s.script) None ∷ [] } = so_far_more es1 (puts (enter 1)) ∙ starts_so_far es n s h.0 in (
      record { scripts = record { same = ap (λ (m : CommandsSoFar). m.scripts) is; depths = ((refl, tt), omega arith) }; begun = told_begun es1 b ∙ begun_more es (starts n s) },
      subst (λ m. SettingsAre m (state_at_start s) false) (sym is) (record { table = refl; up = refl; now = refl; is_open = refl }),
      record { list = ap (λ (m : CommandsSoFar). m.images) is; drives = none_at_start s (so_far (es1 ++ told b)) (ap (λ (m : CommandsSoFar). m.hooked) is); none = parts_more outs (step n ∷ b) h.1 (tt, (tt, tt)) },
      ap (λ (m : CommandsSoFar). m.left) is,
    )

nothing_opened : (es : List Event) → es ≡ [] → command_open es ≡ None
unfolding command_open
nothing_opened es e = ap command_open e

none_opened : (es : List Event) (n : ℕ) (s : Start) → es ≡ [] → command_open (es ++ starts n s ∷ []) ≡ None
none_opened es n s e = command_open_more es (starts n s) ∙ nothing_opened es e

enter_stands : (es : List Event) (outs : List Out) (s : Start) (n : ℕ) → ScriptsAgree es outs course.ready → EachEvent CommandsSo (es ++ starts n s ∷ []) (told (enter 1 ∷ []))
enter_stands es outs s n h =
    let is = starts_so_far es n s h.0 in (
      record {
        stands = enters_first (ap (λ (m : CommandsSoFar). m.is_open) is) (ap (λ (m : CommandsSoFar). length m.scripts) is);
        ended = λ enters. subst HasEndedOpens (sym (none_opened es n s h.0)) tt;
      },
      tt,
    )

starts_step : (es : List Event) (outs : List Out) (s : Start) (n : ℕ) (code : List Line) → first_reading s.script ≡ script code → ScriptsAgree es outs course.ready →
    StepGoes es outs (starts n s) n (enter 1 ∷ []) (course.running (state_at_start s) (first_script code) [])
starts_step es outs s n code reads h = record {
  stands = enter_stands es outs s n h;
  agrees = subst (λ z. ScriptsAgree ((es ++ starts n s ∷ []) ++ told (enter 1 ∷ [])) (outs ++ step n ∷ enter 1 ∷ []) (course.running (state_at_start s) (first_script z) [])) (ap lines_of reads) (starts_agrees es outs s n h);
}

refused_step : (es : List Event) (outs : List Out) (s : Start) (n : ℕ) (cause : Cause) → ScriptsAgree es outs course.ready → StepGoes es outs (starts n s) n (enter 1 ∷ leave 1 cause ∷ []) (course.left (state_at_start s) [] cause)
refused_step es outs s n cause h =
    step_then es outs (starts n s) n (enter 1 ∷ []) (leave 1 cause ∷ []) (course.left (state_at_start s) [] cause) (enter_stands es outs s n h)
    (left_goes ((es ++ starts n s ∷ []) ++ told (enter 1 ∷ [])) (outs ++ step n ∷ enter 1 ∷ []) (state_at_start s) (first_script (lines_of (first_reading s.script))) [] cause (starts_agrees es outs s n h))

-- what a step needs to know of the opens that end in it
abbrev pub AnswersAt : List Event → Standing → Type 0
AnswersAt es (course.waiting s w) = AnswersIn es s × TellsIn es s w
AnswersAt es course.ready = Unit {0}
AnswersAt es (course.running s inner outer) = Unit {0}
AnswersAt es (course.reaching s inner outer next) = Unit {0}
AnswersAt es (course.yielded s inner outer) = Unit {0}
AnswersAt es (course.handing s rest) = Unit {0}
AnswersAt es (course.left s outer cause) = Unit {0}
AnswersAt es (course.handed_off s) = Unit {0}
AnswersAt es (course.stopped s) = Unit {0}

-- of each step, over the events that the base tells
pub step_scripts : (es : List Event) (outs : List Out) (m : Progress) (r : In) (added : List Out) (m2 : Progress) (begins : StepBegins m r added m2) (a : AgreesStanding es m.standing) → AnswersAt es m.standing →
    SessionsStand es m.standing → ScriptsAgree es outs m.standing →
    StepGoes es outs (step_event es m r added m2 begins a) m2.used (step_more m r added m2 begins) m2.standing
step_scripts es outs m r added m2 (course.runs n s code valid reads) a answers t h = starts_step es outs s (n + 1) code reads h
step_scripts es outs m r added m2 (course.refuses n s cause valid refuses) a answers t h = refused_step es outs s (n + 1) cause h
step_scripts es outs m r added m2 (course.waits_on n s s2 w r0 put over valid net none) a answers t h = waits_step es outs s s2 w (n + 1) r put over net a none h
step_scripts es outs m r added m2 (course.is_answered n s s2 w r0 put more over x p valid net some leads) a answers t h =
    let u = network_agrees es s (n + 1) r put s2 over net a in
    step_as es outs u.event (n + 1) (put ++ (upshot_records (concluded_by s2 w.script.depth w.job x) ++ more)) (put ++ upshot_records (concluded_by s2 w.script.depth w.job x) ++ more) p (sym (append_assoc put (upshot_records (concluded_by s2 w.script.depth w.job x)) more))
    (answered_step es outs s s2 w (n + 1) r put more over x p net a answers.0 answers.1 some leads h)
step_scripts es outs m r added m2 (course.switches_off n s w put over all) a answers t h =
    off_step es outs s w.script w.outer true (n + 1) put over all h.0 h.1 h.2 h.3 (waiting_rests es s w a.opens h.1.now h.4) (waiting_unhooked es s w a (says_all es s.live t) h.4)
step_scripts es outs m r added m2 (course.resumes n s s2 inner outer r0 put over valid net) a answers t h = resumes_step es outs s s2 inner outer (n + 1) r put over net a h
step_scripts es outs m r added m2 (course.goes_off n s inner outer put over all) a answers t h =
    off_step es outs s inner outer false (n + 1) put over all h.0 h.1 h.2 h.3 (over_rests es h.1.is_open) (over_unhooked es h.1.is_open)

-- A MOVE

silent_behind : (o : Out) → IsSilent o → MayStandBehind o
silent_behind (sent bytes) h = absurd h
silent_behind (command depth line place expanded words) h = absurd h
silent_behind (result cause) h = absurd h
silent_behind (script what depth cause) h = absurd h
silent_behind (opened number kind server port own target) h = absurd h
silent_behind (done status) h = absurd h
silent_behind (step number) h = tt
silent_behind _ h = tt

hands_goes : (es : List Event) (outs : List Out) (s : State) (r : Out) (rest : List Out) → IsStill r → ScriptsAgree es outs (course.handing s (r ∷ rest)) → Goes es outs (r ∷ []) (course.handing s rest)
hands_goes es outs s r rest still (silent, over, hands) = record {
  stands = (silent_stands es r still silent.0, tt);
  agrees = (silent.1, ap (λ (m : CommandsSoFar). m.is_open) (so_far_more es (puts r) ∙ silent_so_far es (so_far es) r silent.0) ∙ over, by hands);
}
  where
    one_more : (before : List Event) (since : List Out) → es ≡ before ++ puts (result ok) ∷ told since → es ++ puts r ∷ [] ≡ before ++ puts (result ok) ∷ told (since ++ r ∷ [])
    one_more before since ends =
        ap (λ z. z ++ puts r ∷ []) ends ∙ append_assoc before (puts (result ok) ∷ told since) (puts r ∷ []) ∙ ap (λ z. before ++ puts (result ok) ∷ z) (sym (map-append puts since (r ∷ [])))

    still_behind : (since : List Out) → AllByRecursion MayStandBehind since → AllByRecursion MayStandBehind (since ++ r ∷ [])
    still_behind since behind = all_append MayStandBehind since (r ∷ []) behind (silent_behind r silent.0, tt)

    by : HandsEither es outs (r ∷ rest) → HandsEither (es ++ puts r ∷ []) (outs ++ r ∷ []) rest
    by (inl h) = inl (record {
      booted = record {
        before = h.booted.before;
        since = h.booted.since ++ r ∷ [];
        ends = one_more h.booted.before h.booted.since h.booted.ends;
        behind = still_behind h.booted.since h.booted.behind;
        list = h.booted.list;
        kernel = h.booted.kernel;
        boots = h.booted.boots;
      };
      place = h.place;
      list_is = h.list_is ∙ sym (ap (λ (m : CommandsSoFar). m.images) (so_far_more es (puts r) ∙ silent_so_far es (so_far es) r silent.0));
      before = h.before;
      none = h.none;
      ends = append_assoc outs (r ∷ []) rest ∙ h.ends;
    })
    by (inr h) = inr (record {
      booted = record {
        before = h.booted.before;
        since = h.booted.since ++ r ∷ [];
        ends = one_more h.booted.before h.booted.since h.booted.ends;
        behind = still_behind h.booted.since h.booted.behind;
        number = h.booted.number;
        boots = h.booted.boots;
        block = h.booted.block;
        read = h.booted.read;
      };
      before = h.before;
      none = h.none;
      ends = append_assoc outs (r ∷ []) rest ∙ h.ends;
    })

-- COMMAND, and the close of a drive
dropped_state : (es : List Event) (s s2 : State) (inner : Running) (ws : List (List ℕ)) (number : ℕ) (put : List Out) → AgreesState es s → DropsDrive s number put s2 → AgreesState (es ++ told (command_record inner (shown_words s.table ws) ∷ put)) s2
dropped_state es s s2 inner ws number put a drops =
    let b = command_record inner (shown_words s.table ws) ∷ [] in
    subst (λ z. AgreesState z s2) (sym (told_two es b put)) (drop_agrees (es ++ told b) s s2 number put (still_state es b s (tt, tt) a) drops)

-- where a hooked drive is booted, what the history says of the opens after it is asked for its first block
abbrev pub MayBoot : List Event → Standing → Type 0
MayBoot es course.ready = Unit {0}
MayBoot es (course.running s inner outer) = (ws : List (List ℕ)) (number : ℕ) (d : Drive) → doing s inner ws ≡ boots_one number → drive_numbered number s.drives ≡ Some d → AsksWell (es ++ puts (command_record inner (shown_words s.table ws)) ∷ []) s d.open_number
MayBoot es (course.waiting s w) = Unit {0}
MayBoot es (course.reaching s inner outer next) = Unit {0}
MayBoot es (course.yielded s inner outer) = Unit {0}
MayBoot es (course.handing s rest) = Unit {0}
MayBoot es (course.left s outer cause) = Unit {0}
MayBoot es (course.handed_off s) = Unit {0}
MayBoot es (course.stopped s) = Unit {0}

-- what a move needs to know of the drives' sessions
pub record MoveTells (es : List Event) (p : Standing) : Type 0 where
  pub tells : SessionsStand es p
  pub plain : PlainAt es p
  pub boots : MayBoot es p

-- of each move
pub move_scripts : (es : List Event) (outs : List Out) (m : Progress) (added : List Out) (m2 : Progress) → Proceeds m added m2 → MoveTells es m.standing → AgreesStanding es m.standing → AgreesStanding (es ++ told added) m2.standing →
    ScriptsAgree es outs m.standing →
    Goes es outs added m2.standing
move_scripts es outs m added m2 (course.passes n s inner next outer comes) t a b h = passes_goes es outs s inner next outer comes h
move_scripts es outs m added m2 (course.is_left n s inner outer cause comes) t a b h = left_goes es outs s inner outer cause h
move_scripts es outs m added m2 (course.hands_back n s inner outer cause) t a b h = hands_back_goes es outs s inner outer cause h
move_scripts es outs m added m2 (course.concludes_there n s inner outer c cs x put p comes few is leads) t a b h = there_goes es outs s inner outer (c ∷ cs) x put p a t.tells a.opens (lives_so es s a h.2.drives) few is leads h
move_scripts es outs m added m2 (course.yields n s inner outer c cs comes full) t a b h = goes_nowhere es outs (course.yielded s inner outer) (h.0, h.1, h.2, h.3, full)
move_scripts es outs m added m2 (course.does n s s2 inner outer c cs x comes few is stays) t a b h = does_goes es outs s s2 inner outer (c ∷ cs) x a.opens (lives_so es s a h.2.drives) few is h
move_scripts es outs m added m2 (course.closes_device n s s2 inner outer c cs put over comes few is all) t a b h = shuts_goes es outs s s2 inner outer (c ∷ cs) put over a.opens (lives_so es s a h.2.drives) few is all h
move_scripts es outs m added m2 (course.goes_to_hook n s s2 inner outer c cs hooking put next comes few is drops next_asked) t a b h =
    hooks_goes es outs s s2 inner outer (c ∷ cs) hooking put next a.opens (lives_so es s a h.2.drives) (dropped_state es s s2 inner (c ∷ cs) hooking.number put a drops) few is drops next_asked h
move_scripts es outs m added m2 (course.hooks_none n s s2 inner outer c cs hooking put cause comes few is drops next_asked) t a b h =
    hooks_none_goes es outs s s2 inner outer (c ∷ cs) hooking put cause a.opens (lives_so es s a h.2.drives) (dropped_state es s s2 inner (c ∷ cs) hooking.number put a drops) few is drops next_asked h
move_scripts es outs m added m2 (course.unhooks n s s2 inner outer c cs number put cause comes few is drops) t a b h =
    unhooks_goes es outs s s2 inner outer (c ∷ cs) number put cause a.opens (lives_so es s a h.2.drives) few is drops h
move_scripts es outs m added m2 (course.boots_hooked n s inner outer c cs number d put p comes few is got reads) t a b h =
    boots_goes es outs s inner outer (c ∷ cs) number d put p a t.plain (lives_so es s a h.2.drives) few is got reads (t.boots (c ∷ cs) number d is got) h
move_scripts es outs m added m2 (course.leaves n s s2 inner outer c cs x comes few is away) t a b h = leaves_goes es outs s s2 inner outer (c ∷ cs) x a.opens (lives_so es s a h.2.drives) few is h
move_scripts es outs m added m2 (course.jumps n s inner outer c cs name line comes few is there) t a b h = jumps_goes es outs s inner outer (c ∷ cs) name line a.opens (lives_so es s a h.2.drives) few is there h
move_scripts es outs m added m2 (course.finds_no_label n s inner outer c cs name comes few is none) t a b h = no_label_goes es outs s inner outer (c ∷ cs) name a.opens (lives_so es s a h.2.drives) few is none h
move_scripts es outs m added m2 (course.falls_asleep n s inner outer c cs until comes few is) t a b h = sleeps_goes es outs s inner outer (c ∷ cs) until a.opens (lives_so es s a h.2.drives) few is h
move_scripts es outs m added m2 (course.opens_one n s s2 inner outer c cs l job link put comes few is got first) t a b h = opens_goes es outs s s2 inner outer (c ∷ cs) l job link put (based es s a) (lives_so es s a h.2.drives) few is first h
move_scripts es outs m added m2 (course.finds_no_route n s s2 inner outer c cs l job link comes few is got none) t a b h = no_route_goes es outs s s2 inner outer (c ∷ cs) l job (based es s a) (lives_so es s a h.2.drives) few is h
move_scripts es outs m added m2 (course.opens_onward n s inner outer next link put few got first) t a b h = onward_goes es outs s inner outer next link put (based es s a) (lives_so es s a h.2.drives) few first h
move_scripts es outs m added m2 (course.finds_no_way n s inner outer next link few got none) t a b h = no_way_goes es outs s inner outer next (based es s a) h
move_scripts es outs m added m2 (course.opens_no_more n s inner outer next full) t a b h = full_goes es outs s inner outer next (based es s a) full h
move_scripts es outs m added m2 (course.hands n s r rest) t a b h = hands_goes es outs s r rest a.1.0 h
move_scripts es outs m added m2 (course.has_handed n s) t a b h = goes_nowhere es outs (course.handed_off s) (h.1, h.2)
