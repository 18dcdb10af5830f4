-- What comes of a disk that has answered, or of which the open has ended before that.
use Rattle.std.proofs.lemmas.Bool.{eqb-true}
use Rattle.std.proofs.Common.{◌≡◌, ℕ, Bool, true, false, cond, List, [], ◌∷◌, ◌++◌, Some, None, refl, sym, ◌∙◌, ap, subst}
use Rattle.nb_terms.specs.declared.cause.Cause.{Cause}
use Rattle.nb_defs.specs.Causes.{ok}
use Rattle.nb_defs.specs.Records.{Out, out_texts, result}
use Rattle.nb_record.specs.Logged.{Logged, Puts}
use Rattle.nb_drivecmd.specs.declared.drive.Drive.{Drive}
use Rattle.nb_drivecmd.specs.HookedDrives.{with_hooked}
use Rattle.nb_drivecmd.specs.declared.outcome.AfterHook.{AfterHook}
use Rattle.nb_drivecmd.specs.declared.outcome.AfterHook.TheVariants as after_hook
use Rattle.nb_machine.specs.Conclusions.{fails}
use Rattle.nb_machine.specs.Courses.{LeadsTo, ReadsBlock, running}
use Rattle.nb_machine.specs.Lives.{Live}
use Rattle.nb_machine.specs.Running.{Running, with_result}
use Rattle.nb_machine.specs.Scripts.{Answer, Upshot, answer_of_over, by_drive, by_end, concluded_by, concludes, has_number, hooked_drive, hooks, hooks_drive, reads_drive, upshot_hooked, upshot_records}
use Rattle.nb_machine.specs.States.{State, still_hooked, with_drive}
use Rattle.nb_machine.specs.Takings.{Over}
use Rattle.nb_network.specs.Many.{AreOpensOf, FitsHoldings, Many}
use Rattle.nb_network.specs.Ones.{HasDrive}
use Rattle.nb_network.specs.Takes.{IsEndOf}
use Rattle.nb_network.specs.declared.over.HasEnded.{HasEnded}
use Rattle.nb_runner.specs.World.{world_with_drives}
use Rattle.nb_runner.specs.declared.world.World.{World}
use Rattle.nb_traced.specs.Plain.{without_graph}
use Rattle.nb_traced.specs.Holdings.{Holdings}
use Rattle.nb_traced.specs.Outputs.{Arrived, Traced, apart}
use Rattle.nb_client.specs.Asked.{job_asked, pieces_beside}
use Rattle.nb_client.specs.Booting.{AsksFirst}
use Rattle.nb_client.specs.Drives.{drive_hooked_by}
use Rattle.nb_client.specs.Progressing.{TracesTo}
use Rattle.nb_client.specs.Serving.{ComesIn, Concludes, ConcludesEnd, FitsAnswer, IsAnswerOf, answer_over, disk_over, hook_failure}
use Rattle.nb_client.specs.Snapshots.{Snapshot, at_running, snapshot, state_of_world}
use Rattle.nb_client.specs.Soundness.{IsDriveAt, IsSound, IsSoundBut, kept_drives, snapshot_at}
use Rattle.nb_client.specs.declared.asked.Asked.{Asked}
use Rattle.nb_client.specs.declared.asked.Asked.TheVariants.{Disk}
use Rattle.nb_client.specs.declared.asked.AskedDisk.{AskedDisk}
use Rattle.nb_client.specs.declared.pending.Answer.{Answer as TheAnswer}
use Rattle.nb_client.specs.declared.pending.Answer.TheVariants.{End, Drive as Lives}
use Rattle.nb_client.specs.declared.pending.Expected.TheVariants.{Open}
use Rattle.nb_client.specs.declared.pending.Pending.{Pending}
use Rattle.nb_client.specs.declared.site.Site.{Site}
use Rattle.nb_client.specs.declared.stage.Stage.TheVariants as stage
use Rattle.nb_client.proofs.DriveKinds.{drive_kinds, none_has, none_kind}
use Rattle.nb_client.proofs.DriveLists.{kept_same}
use Rattle.nb_client.proofs.DriveWaits.{find_passes}
use Rattle.nb_client.proofs.HookedDrives.{one_hooked}

-- a disk that isn't hooked has ended, for the command too
failed_end : (after : AfterHook) (e : HasEnded) (o : Over) (cause : Cause) → IsEndOf e o → hook_failure after (End e) ≡ Some cause → (disk_over after o ≡ by_end o) × (cause ≡ e.cause)
failed_end after_hook.Keep e o cause is why = by e.answered refl why
  where
    by : (b : Bool) → e.answered ≡ b → cond b None (Some e.cause) ≡ Some cause → (answer_of_over o ≡ by_end o) × (cause ≡ e.cause)
    by true spoke same = absurd (let bad : None ≡ Some cause = same in cc)
    by false silent same = (ap (λ b. cond b (by_drive o.live) (by_end o)) (is.answered ∙ silent), sym (let one : e.cause ≡ cause = cc in one))
failed_end (after_hook.Boot keep) e o cause is why = (refl, sym (let one : e.cause ≡ cause = cc in one))

-- one that is has answered, and is to be kept
hooked_end : (after : AfterHook) (e : HasEnded) (o : Over) → IsEndOf e o → hook_failure after (End e) ≡ None → disk_over after o ≡ by_drive o.live
hooked_end after_hook.Keep e o is fine = by e.answered refl fine
  where
    by : (b : Bool) → e.answered ≡ b → cond b None (Some e.cause) ≡ None → answer_of_over o ≡ by_drive o.live
    by true spoke same = ap (λ b. cond b (by_drive o.live) (by_end o)) (is.answered ∙ spoke)
    by false silent same = absurd (let bad : Some e.cause ≡ None = same in cc)
hooked_end (after_hook.Boot keep) e o is fine = absurd (let bad : Some e.cause ≡ None = fine in cc)

-- a script's command goes on that got what it waited for
pub runs_sound : {n : ℕ} {w : World} {m : Many} (s : Running) → IsSoundBut None n w m → IsSound n w m (stage.Running s)
runs_sound s x = record { time = x.time; opens = x.opens; serials = x.serials; tied = x.tied; well = tt; short = x.short; named = x.named; linked = x.linked; hooked = x.hooked }

pub but_running : {n : ℕ} {w : World} {m : Many} {s : Running} → IsSound n w m (stage.Running s) → IsSoundBut None n w m
but_running x = record { time = x.time; opens = x.opens; serials = x.serials; tied = x.tied; short = x.short; named = x.named; linked = x.linked; hooked = x.hooked }

pub alone_pieces : (p : Pending) → p.waits ≡ None → pieces_beside (Open p) ≡ []
alone_pieces p none = rw none refl

-- what comes of an open that has ended and is no drive's
pub ended_concludes : {before : Site} {s : Running} {after : Snapshot} {old new : Logged} (p : Pending) (e : HasEnded) → ((o : Over) → answer_over p.asked o ≡ by_end o) → ConcludesEnd p e s before after old new → Concludes p (End e) s before after old new
ended_concludes {before} {s} {after} p e ends k = record {
  ends = λ live are. record {
    rest = k.rest;
    puts = k.puts;
    comes = λ x is. subst (λ (a : Answer). ComesIn (state_of_world before.world live) s before.world.outer (job_asked p.asked) a (without_graph k.rest) before.used after) (sym (is.3 ∙ ends is.0)) (k.comes live are is.0 is.1);
    traces = k.traces;
  };
  sound = k.sound;
  under_way = k.under_way;
}

-- WHERE NOTHING HAS WAITED

module _ (before : Site) (s : Running) (p : Pending) (none : p.waits ≡ None) (sound : IsSoundBut None before.used before.world before.opens) where
  abbrev at_now : World
  at_now = before.world

  traces_result : (cause : Cause) (now : World) → now.opens ≡ at_now.opens → (outs : List Out) (h : Holdings) (so_far : List Arrived) → Traced outs h so_far → FitsHoldings before.opens at_now.opens (pieces_beside (Open p)) h →
      TracesTo (snapshot before.used now before.opens (stage.Running (with_result s cause))) (outs ++ (result cause ∷ [])) so_far
  traces_result cause now same outs h so_far t fits = record {
    holdings = h;
    traced = apart outs (result cause ∷ []) h so_far t (tt, tt);
    fits = record { state = fits.state; living = fits.living; waiting = fits.waiting ∙ alone_pieces p none; numbered = rw same fits.numbered };
  }

  -- its open has ended, and the command has its cause
  pub fails_concludes : {old new : Logged} (e : HasEnded) (cause : Cause) → ((o : Over) → IsEndOf e o → (answer_over p.asked o ≡ by_end o) × (cause ≡ e.cause)) → ((t : State) (o : Over) → concluded_by t s.depth (job_asked p.asked) (by_end o) ≡ concludes (fails o.cause)) →
      Puts old new (out_texts (result cause ∷ [])) → Concludes p (End e) s before (snapshot_at before (stage.Running (with_result s cause))) old new
  fails_concludes {old} {new} e cause ends job puts = record {
    ends = λ live are. record {
      rest = result cause ∷ [];
      puts = puts;
      comes = λ x is.
          let o = is.0 in
          let t = state_of_world at_now live in
          let end = ends o is.1 in
          let same : o.cause ≡ cause = is.1.cause ∙ sym end.1 in
          let to = running t (with_result s o.cause) at_now.outer in
          subst (λ (a : Answer). ComesIn t s at_now.outer (job_asked p.asked) a (result cause ∷ []) before.used (snapshot_at before (stage.Running (with_result s cause)))) (sym (is.3 ∙ end.0)) (record {
            more = [];
            to = to;
            is_put = ap (λ (c : Cause). result c ∷ []) (sym same) ∙ sym (ap (λ (u : Upshot). upshot_records u ++ []) (job t o));
            leads = subst (λ (u : Upshot). LeadsTo t s at_now.outer u [] to) (sym (job t o)) (refl, refl);
            stands_so = rw same (at_running before.used at_now before.opens (with_result s cause) live are);
          });
      traces = traces_result cause at_now refl;
    };
    sound = runs_sound (with_result s cause) sound;
    under_way = tt;
  }

module _ (before : Site) (s : Running) (d : AskedDisk) (p : Pending) (asks : p.asked ≡ Disk d) (none : p.waits ≡ None) (sound : IsSound before.used before.world before.opens (stage.Running s)) where
  abbrev w : World
  w = before.world

  -- why it isn't hooked
  pub fails_for : {old new : Logged} (answer : TheAnswer) (cause : Cause) → hook_failure d.hooking.after answer ≡ Some cause → Puts old new (out_texts (result cause ∷ [])) →
      Concludes p answer s before (snapshot_at before (stage.Running (with_result s cause))) old new
  fails_for Lives cause why puts = absurd (let bad : None ≡ Some cause = why in cc)
  fails_for {old} {new} (End e) cause why puts = fails_concludes before s p none (but_running sound) e cause
      (λ o is. let f = failed_end d.hooking.after e o cause is why in (ap (λ (a : Asked). answer_over a o) asks ∙ f.0, f.1))
      (λ t o. ap (λ (a : Asked). concluded_by t s.depth (job_asked a) (by_end o)) asks) puts

  -- by which drive it has answered
  answered_by : (answer : TheAnswer) (live : List Live) (x : Answer) → hook_failure d.hooking.after answer ≡ None → IsAnswerOf answer p.asked p.number live x → (l : Live) × (l.number ≡ p.number) × (x ≡ by_drive l)
  answered_by answer live x fine is = by answer fine (subst (λ (a : Asked). IsAnswerOf answer a p.number live x) asks is)
    where
      by : (a : TheAnswer) → hook_failure d.hooking.after a ≡ None → IsAnswerOf a (Disk d) p.number live x → (l : Live) × (l.number ≡ p.number) × (x ≡ by_drive l)
      by Lives fine at = (at.0, eqb-true at.0.number p.number (find_passes (has_number p.number) live at.0 at.1), at.2)
      by (End e) fine at = (at.0.live, at.2, at.3 ∙ hooked_end d.hooking.after e at.0 at.1 fine)

  -- the world in which it is hooked
  abbrev hooked_world : World
  hooked_world = world_with_drives w (kept_drives before.opens.list (with_hooked (drive_hooked_by d.hooking p.number) w.state.drives))

  hooked_comes : (live : List Live) → AreOpensOf before.opens.graph before.opens.list live → (l : Live) → l.number ≡ p.number → d.hooking.after ≡ after_hook.Keep →
      ComesIn (state_of_world w live) s w.outer (hooks d.hooking) (by_drive l) (result ok ∷ []) before.used (snapshot before.used hooked_world before.opens (stage.Running (with_result s ok)))
  hooked_comes live are l number keeps =
      let t = state_of_world w live in
      let one : hooked_drive d.hooking l ≡ drive_hooked_by d.hooking p.number = ap (drive_hooked_by d.hooking) number in
      let same : state_of_world hooked_world live ≡ with_drive t (hooked_drive d.hooking l) =
      ap (λ (xs : List Drive). record t { drives = xs })
      (kept_same before.opens.graph before.opens.list live are (with_hooked (drive_hooked_by d.hooking p.number) w.state.drives) ∙ ap (λ (x : Drive). still_hooked live (with_hooked x w.state.drives)) (sym one)) in
      let upshot : upshot_hooked d.hooking.after (hooked_drive d.hooking l) ≡ hooks_drive (hooked_drive d.hooking l) = ap (λ (a : AfterHook). upshot_hooked a (hooked_drive d.hooking l)) keeps in
      let to = running (with_drive t (hooked_drive d.hooking l)) (with_result s ok) w.outer in
      record {
        more = [];
        to = to;
        is_put = sym (ap (λ (u : Upshot). upshot_records u ++ []) upshot);
        leads = subst (λ (u : Upshot). LeadsTo t s w.outer u [] to) (sym upshot) (refl, refl);
        stands_so = rw (← same) (at_running before.used hooked_world before.opens (with_result s ok) live are);
      }

  -- its open is a drive's, if it lives
  kind_at : (answer : TheAnswer) (live : List Live) → AreOpensOf before.opens.graph before.opens.list live → FitsAnswer answer (Disk d) p.number before.opens → IsDriveAt p.number live
  kind_at Lives live are fits = drive_kinds before.opens.graph before.opens.list live p.number are fits.drive
  kind_at (End e) live are fits = none_kind p.number live (sym (none_has before.opens.graph before.opens.list live p.number are) ∙ fits.1)

  -- it has answered, and is kept
  pub hooks_concludes : {old new : Logged} (answer : TheAnswer) (after : Site) → hook_failure d.hooking.after answer ≡ None → FitsAnswer answer (Disk d) p.number before.opens → d.hooking.after ≡ after_hook.Keep →
      after.used ≡ before.used → after.opens ≡ before.opens → after.world ≡ hooked_world → Puts old new (out_texts (result ok ∷ [])) →
      Concludes p answer s before (snapshot_at after (stage.Running (with_result s ok))) old new
  hooks_concludes answer after well fits keeps used opens world puts = rw (used, opens, world) (record {
    ends = λ live are. record {
      rest = result ok ∷ [];
      puts = puts;
      comes = λ x is.
          let a = answered_by answer live x well is in
          rw (asks, a.2) (hooked_comes live are a.0 a.1 keeps);
      traces = traces_result before s p none (but_running sound) ok hooked_world refl;
    };
    sound = record { time = sound.time; opens = sound.opens; serials = sound.serials; tied = sound.tied; well = tt; short = sound.short; named = sound.named; linked = record { address = sound.linked.address; up = sound.linked.up }; hooked = one_hooked None before.opens (drive_hooked_by d.hooking p.number) w.state.drives sound.hooked (kind_at answer sound.hooked.live sound.hooked.are fits) };
    under_way = tt;
  })

  -- it has answered, and its drive was asked for its first block
  pub asks_concludes : {old new : Logged} (answer : TheAnswer) (after : Snapshot) (keep : Bool) → hook_failure d.hooking.after answer ≡ None → d.hooking.after ≡ after_hook.Boot keep → AsksFirst s p.number (Some (drive_hooked_by d.hooking p.number)) before after old new →
      Concludes p answer s before after old new
  asks_concludes answer after keep well boots k = record {
    ends = λ live are.
        let g = k.asks live are in
        let rest = without_graph g.rest in
        let r = g.there in
        let t = state_of_world w live in
        record {
          rest = g.rest;
          puts = g.puts;
          comes = λ x is.
              let a = answered_by answer live x well is in
              let l = a.0 in
              let drive = hooked_drive d.hooking l in
              let upshot : upshot_hooked d.hooking.after drive ≡ reads_drive drive = ap (λ (z : AfterHook). upshot_hooked z drive) boots in
              let reads : ReadsBlock t s w.outer l.number (Some drive) rest r.to = subst (λ (n : ℕ). ReadsBlock t s w.outer n (Some (drive_hooked_by d.hooking n)) rest r.to) (sym a.1) r.reads in
              rw (asks, a.2) (record {
                more = rest;
                to = r.to;
                is_put = sym (ap (λ (u : Upshot). upshot_records u ++ rest) upshot);
                leads = subst (λ (u : Upshot). LeadsTo t s w.outer u rest r.to) (sym upshot) reads;
                stands_so = r.stands_so;
              });
          traces = λ outs h so_far z fits. g.traces outs h so_far z (record { state = fits.state; living = fits.living; waiting = fits.waiting ∙ alone_pieces p none; numbered = fits.numbered });
        };
    sound = k.sound;
    under_way = k.under_way;
  }

  -- one that is to be booted lives on
  pub lives_to_boot : (answer : TheAnswer) (keep : Bool) → hook_failure d.hooking.after answer ≡ None → d.hooking.after ≡ after_hook.Boot keep → FitsAnswer answer (Disk d) p.number before.opens → HasDrive p.number before.opens.list
  lives_to_boot answer keep well boots fits = by answer (subst (λ (a : AfterHook). hook_failure a answer ≡ None) boots well) fits
    where
      by : (a : TheAnswer) → hook_failure (after_hook.Boot keep) a ≡ None → FitsAnswer a (Disk d) p.number before.opens → HasDrive p.number before.opens.list
      by Lives fine at = at
      by (End e) fine at = absurd (let bad : Some e.cause ≡ None = fine in cc)
