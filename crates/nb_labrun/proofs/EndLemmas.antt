-- How a run in a lab ends, and what it shows.
use Rattle.std.proofs.Common.{◌≡◌, ◌<◌, ◌≤◌, ℕ, Bool, true, false, cond, inr, List, [], ◌∷◌, ◌++◌, length, refl, sym, ap, subst, ◌∙◌, append-nil, arith}
use Rattle.nb_defs.specs.Causes.{is_ok_cause}
use Rattle.nb_defs.specs.Records.{In, in_text, in_texts, Out, out_texts, done}
use Rattle.nb_defs.proofs.RecordLaws.{length-in_text}
use Rattle.nb_record.specs.Outside.{Outside, Passes}
use Rattle.nb_record.specs.Logged.{Logged}
use Rattle.nb_runner.specs.StatusNumber.{status_number}
use Rattle.nb_runner.specs.declared.status.Status.{Status}
use Rattle.nb_runner.specs.declared.status.Status.TheVariants as status
use Rattle.nb_machine.specs.Courses.{Progress}
use Rattle.nb_client.specs.Snapshots.{Snapshot, StandsForProgress, at_ready, at_running, at_waiting, at_reaching, at_yielded, at_returning, at_handing, at_left, at_handed_off, at_stopped}
use Rattle.nb_client.specs.Progressing.{FinishesBy, RunEndsWith}
use Rattle.nb_client.specs.declared.stage.Stage.{Stage}
use Rattle.nb_boot.specs.Shown.{EndsWhere, was_full, ClosedBy, has_ended}
use Rattle.nb_boot.specs.Run.{Run, Says}
use Rattle.nb_boot.specs.Going.{IsClosing, Stopped, Wrote}
use Rattle.nb_boot.proofs.Following.{follows_counts}
use Rattle.nb_boot.proofs.Last.{ClosesAll, client_closes, closes_some}
use Rattle.nb_boot.proofs.Closings.{over_says}
use Rattle.nb_boot.proofs.Showing.{shown_by, said}
use Rattle.nb_boot.proofs.Standing.{over_ends, stands_awaits}
use Rattle.nb_lab.specs.Labs.{LabState, next_record}
use Rattle.nb_lab.specs.Summaries.{summary}
use Rattle.nb_lab.specs.Tallies.{Tally, Counts}
use Rattle.nb_labrun.specs.Delivering.{AreDelivered}
use Rattle.nb_labrun.specs.Playing.{HasPlayed, PlayIsOver, IsCleared, StepLeaves}
use Rattle.nb_labrun.specs.Keeping.{StandsInLab}
use Rattle.nb_labrun.specs.declared.run.StepEnd.TheVariants as ending
use Rattle.nb_labrun.specs.Shows.{outside_before, line_after, LabRun, EndsLab, ShowsLab, WritesPart}
use Rattle.nb_labrun.proofs.PlayLemmas.{in_lab_more}

-- the record that comes next stands after those used
abbrev pub after_all : LabState → List ℕ
after_all l = in_text (next_record l.transit.waiting)

some_after : (l : LabState) → 0 < length (after_all l)
some_after l = omega (arith, length-in_text (next_record l.transit.waiting))

-- why the run is over
play_ends : (s : Status) (used : ℕ) (c : Snapshot) (m : Progress) (rest : List ℕ) (o : Outside) → StandsForProgress c m → m.used ≡ used → 0 < length rest → PlayIsOver s used c.stage → EndsWhere m rest o (status_number s)
play_ends status.Ended used c m rest o stands counted some over = over_ends status.Ended c m rest o stands over
play_ends status.ScriptFailed used c m rest o stands counted some over = over_ends status.ScriptFailed c m rest o stands over
play_ends status.Unfinished used c m rest o stands counted some over = over_ends status.Unfinished c m rest o stands over
play_ends status.TooManyRecords used c m rest o stands counted some over = was_full (counted ∙ over.0) (stands_awaits c m stands over.1) some refl
play_ends status.HandedOff used c m rest o stands counted some over = over_ends status.HandedOff c m rest o stands over
play_ends status.BadWords used c m rest o stands counted some over = absurd over
play_ends status.BadRecord used c m rest o stands counted some over = absurd over
play_ends status.ReadFault used c m rest o stands counted some over = absurd over
play_ends status.WriteFault used c m rest o stands counted some over = absurd over
play_ends status.NoMemory used c m rest o stands counted some over = absurd over
play_ends status.AttachFault used c m rest o stands counted some over = absurd over

-- a step with which the run has ended
pub step_over : (s : Status) (used : ℕ) (st : Stage) → StepLeaves (ending.Over s) st → PlayIsOver s used st
step_over status.HandedOff used st h = h.1
step_over status.Ended used st h = h.1
step_over status.ScriptFailed used st h = h.1
step_over status.Unfinished used st h = h.1
step_over status.TooManyRecords used st h = absurd h.0
step_over status.BadWords used st h = absurd h.0
step_over status.BadRecord used st h = absurd h.0
step_over status.ReadFault used st h = absurd h.0
step_over status.WriteFault used st h = absurd h.0
step_over status.NoMemory used st h = absurd h.0
step_over status.AttachFault used st h = absurd h.0

play_closes : (s : Status) (used : ℕ) (st : Stage) → PlayIsOver s used st → IsClosing s
play_closes status.Ended used st over = tt
play_closes status.ScriptFailed used st over = tt
play_closes status.Unfinished used st over = tt
play_closes status.TooManyRecords used st over = tt
play_closes status.HandedOff used st over = tt
play_closes status.BadWords used st over = absurd over
play_closes status.BadRecord used st over = absurd over
play_closes status.ReadFault used st over = absurd over
play_closes status.WriteFault used st over = absurd over
play_closes status.NoMemory used st over = absurd over
play_closes status.AttachFault used st over = absurd over

no_five : (t : Bool) → ◌≡◌ {A = ℕ} 5 (cond t 3 4) → ⊥
no_five true e = cc
no_five false e = cc

-- a client in a lab doesn't end as one that was switched off
never_off : (c : Snapshot) (m : Progress) → StandsForProgress c m → StandsInLab m.standing → RunEndsWith c.stage status.Unfinished → ⊥
never_off c m (at_ready n w y) on ends = ends
never_off c m (at_running n w y r live are) on ends = ends
never_off c m (at_waiting n w y r e live are) on ends = ends
never_off c m (at_reaching n w y r k live next are same) on ends = ends
never_off c m (at_yielded n w y r live are) on ends = ends
never_off c m (at_returning n w y r cause live are) on ends = ends
never_off c m (at_handing n w y x s left1 none empty is) on ends = ends
never_off c m (at_left n w y cause live are) on ends = no_five (is_ok_cause cause) ends
never_off c m (at_handed_off n w y s none empty) on ends = on
never_off c m (at_stopped n w y s none empty) on ends = on

no_zero : (t : Bool) → ◌≡◌ {A = ℕ} 0 (cond t 3 4) → ⊥
no_zero true e = cc
no_zero false e = cc

-- nor as one that hands off
never_handed : (c : Snapshot) (m : Progress) → StandsForProgress c m → StandsInLab m.standing → RunEndsWith c.stage status.HandedOff → ⊥
never_handed c m (at_ready n w y) on ends = ends
never_handed c m (at_running n w y r live are) on ends = ends
never_handed c m (at_waiting n w y r e live are) on ends = ends
never_handed c m (at_reaching n w y r k live next are same) on ends = ends
never_handed c m (at_yielded n w y r live are) on ends = ends
never_handed c m (at_returning n w y r cause live are) on ends = ends
never_handed c m (at_handing n w y x s left1 none empty is) on ends = ends
never_handed c m (at_left n w y cause live are) on ends = no_zero (is_ok_cause cause) ends
never_handed c m (at_handed_off n w y s none empty) on ends = on
never_handed c m (at_stopped n w y s none empty) on ends = on

lab_ends : (s : Status) (used : ℕ) (c : Snapshot) (m : Progress) → StandsForProgress c m → StandsInLab m.standing → PlayIsOver s used c.stage → EndsLab s
lab_ends status.Ended used c m stands on over = tt
lab_ends status.ScriptFailed used c m stands on over = tt
lab_ends status.Unfinished used c m stands on over = never_off c m stands on over
lab_ends status.TooManyRecords used c m stands on over = tt
lab_ends status.HandedOff used c m stands on over = never_handed c m stands on over
lab_ends status.BadWords used c m stands on over = absurd over
lab_ends status.BadRecord used c m stands on over = absurd over
lab_ends status.ReadFault used c m stands on over = absurd over
lab_ends status.WriteFault used c m stands on over = absurd over
lab_ends status.NoMemory used c m stands on over = absurd over
lab_ends status.AttachFault used c m stands on over = absurd over

played_ends : (s : Status) (images : ℕ) (l : LabState) (t : Tally) (c : Snapshot) → HasPlayed s images l t c → EndsLab s
played_ends s images l t c h = lab_ends s h.used c h.plays.led.progress h.plays.led.stands h.plays.led.in_lab h.over

-- all input was read, and all output was taken
all_passes : (input output : List ℕ) → Passes (outside_before input) (line_after output) input output
all_passes input output = record {
  gave = sym (append-nil input);
  took = refl;
  counts = record { attach_count = omega arith; read_count = omega arith; write_count = omega arith };
}

-- the run that has ended so
abbrev ended_run : (s : Status) (images : ℕ) (l : LabState) (t : Tally) (c : Snapshot) (closers : List Out) (h : HasPlayed s images l t c) → ClosesAll h.plays.led.progress h.plays.led.holdings (status_number s) closers →
    EndsWhere h.plays.led.progress (after_all l) (line_after (out_texts (h.plays.outs ++ closers))) (status_number s) →
    Run (outside_before (in_texts h.plays.ins ++ after_all l)) (line_after (out_texts (h.plays.outs ++ closers)))
ended_run s images l t c closers h q ends =
    let p = h.plays in
    let e = q.traces p.outs p.led.came p.led.traced in
    record {
      ins = p.ins;
      outs = p.outs;
      progress = p.led.progress;
      came = p.led.came;
      rest = after_all l;
      closing = closers;
      read = in_texts p.ins ++ after_all l;
      written = out_texts (p.outs ++ closers);
      lost = [];
      passes = all_passes (in_texts p.ins ++ after_all l) (out_texts (p.outs ++ closers));
      spelled = refl;
      follows = p.led.follows;
      closed = subst (λ xs. ClosedBy p.led.progress (after_all l) (line_after (out_texts (p.outs ++ closers))) xs) (sym q.plain) (has_ended (status_number s) q.put ends q.shuts);
      alone = closes_some q;
      shuts = inr q.shown_first;
      holdings = p.led.holdings;
      traced = p.led.traced;
      at_end = e.holdings;
      traced_all = e.traced;
      few = subst (λ n. n ≤ 4294967295) (sym p.counted) h.few;
      in_turn = tt;
      texts = sym (append-nil (out_texts (p.outs ++ closers)));
    }

-- what the run's status says of it
ended_says : (s : Status) (images : ℕ) (l : LabState) (t : Tally) (c : Snapshot) (closers : List Out) (h : HasPlayed s images l t c) (q : ClosesAll h.plays.led.progress h.plays.led.holdings (status_number s) closers)
    (ends : EndsWhere h.plays.led.progress (after_all l) (line_after (out_texts (h.plays.outs ++ closers))) (status_number s)) →
    Says s (outside_before (in_texts h.plays.ins ++ after_all l)) (line_after (out_texts (h.plays.outs ++ closers))) (ended_run s images l t c closers h q ends)
ended_says s images l t c closers h q ends =
    let p = h.plays in
    let e = q.traces p.outs p.led.came p.led.traced in
    over_says s (outside_before (in_texts p.ins ++ after_all l)) (line_after (out_texts (p.outs ++ closers))) (ended_run s images l t c closers h q ends) (play_closes s h.used c.stage h.over) (record {
      ends = ends;
      put = q.put;
      shuts = q.shuts;
      closing = q.plain;
      front = q.front;
      last = q.last;
      none_live = e.none_live;
      none_wait = e.none_wait;
      all = refl;
    })

-- the run is over, and its end was delivered and counted: this is its summary
pub run_is_summed : (s : Status) (images : ℕ) (l l' : LabState) (t t' : Tally) (c : Snapshot) (old new : Logged) (text : List ℕ) → HasPlayed s images l t c → IsCleared old → FinishesBy (status_number s) c old new → new.is_short ≡ false →
    ((outs : List Out) → new.bytes ≡ out_texts outs → AreDelivered outs l t l' t') → ((ins : List In) (outs : List Out) → Counts t' ins outs → text ≡ summary t'.images ins outs (status_number s)) → LabRun images s text
run_is_summed s images l l' t t' c old new text h clear f whole delivered sums =
    let p = h.plays in
    let m = p.led.progress in
    let number = status_number s in
    let closers = f.closing ++ (done number ∷ []) in
    let d = delivered closers ((f.puts.whole whole).1 ∙ ap (λ xs. xs ++ out_texts closers) clear.none) in
    let q = client_closes c m p.led.holdings number old new p.led.stands p.led.fits f in
    let output = out_texts (p.outs ++ closers) in
    let input = in_texts p.ins ++ after_all l in
    let counted : m.used ≡ h.used = follows_counts p.ins p.outs m p.led.came p.led.follows ∙ p.counted in
    let ends = play_ends s h.used c m (after_all l) (line_after output) p.led.stands counted (some_after l) h.over in
    let run = ended_run s images l t c closers h q ends in
    record {
      input = input;
      output = output;
      run = shown_by (outside_before input) (line_after output) run;
      said = said s (outside_before input) (line_after output) run (ended_says s images l t c closers h q ends);
      ends = played_ends s images l t c h;
      lab = l';
      in_lab = in_lab_more images p.ins p.outs l closers l' p.in_lab d.delivers;
      spelled = sums p.ins (p.outs ++ closers) (d.counts p.ins p.outs p.counts)
          ∙ ap (λ n. summary n p.ins (p.outs ++ closers) number) (d.images ∙ p.are_images);
    }

-- what is shown where it was written, and where a write failed
pub shows_whole : (images : ℕ) (s : Status) (text : List ℕ) (before after : Outside) → LabRun images s text → Wrote before after text → ShowsLab images s before after
shows_whole images s text before after run w = by_status s run
  where
    by_status : (s1 : Status) → LabRun images s1 text → ShowsLab images s1 before after
    by_status status.Ended r = record { text = text; run = r; wrote = w }
    by_status status.ScriptFailed r = record { text = text; run = r; wrote = w }
    by_status status.TooManyRecords r = record { text = text; run = r; wrote = w }
    by_status status.HandedOff r = absurd r.ends
    by_status status.Unfinished r = absurd r.ends
    by_status status.BadWords r = absurd r.ends
    by_status status.BadRecord r = absurd r.ends
    by_status status.ReadFault r = absurd r.ends
    by_status status.WriteFault r = absurd r.ends
    by_status status.NoMemory r = absurd r.ends
    by_status status.AttachFault r = absurd r.ends

pub shows_part : (images : ℕ) (s : Status) (text : List ℕ) (before after : Outside) → LabRun images s text → Stopped before after text → WritesPart images before after
shows_part images s text before after run w =
    record { status = s; text = text; run = run; stopped = w }
