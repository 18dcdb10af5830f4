-- What comes of a disk's first block: the disk is handed off, or its open has ended before that.
use Rattle.std.proofs.Common.{◌≡◌, ℕ, ◌≤◌, Bool, true, false, cond, List, [], ◌∷◌, ◌++◌, length, Option, Some, None, refl, sym, ◌∙◌, ap, subst, append-nil, append_assoc}
use Rattle.std.specs.Prelude.{find}
use Rattle.std.specs.Option.{is_some, option_and_then}
use Rattle.nb_terms.specs.declared.cause.Cause.{Cause}
use Rattle.nb_defs.specs.Causes.{ok}
use Rattle.nb_defs.specs.Records.{Out, out_texts, result}
use Rattle.nb_record.specs.Logged.{Logged, Puts}
use Rattle.nb_traced.specs.Plain.{without_graph}
use Rattle.nb_drivecmd.specs.declared.drive.Drive.{Drive}
use Rattle.nb_drivecmd.specs.HookedDrives.{with_hooked}
use Rattle.nb_machine.specs.BootTables.{boot_table}
use Rattle.nb_machine.specs.Conclusions.{disk_records, fails}
use Rattle.nb_machine.specs.Courses.{LeadsTo, handing, with_booted}
use Rattle.nb_machine.specs.Kinds.{read_last}
use Rattle.nb_machine.specs.CommandRecords.{stopped_cause}
use Rattle.nb_machine.specs.Lives.{Live, close}
use Rattle.nb_machine.specs.Running.{Running, with_result}
use Rattle.nb_machine.specs.Scripts.{Answer, Upshot, block_of_over, boots, boots_drive_by, by_drive, by_end, concluded_by, concludes, has_number, upshot_read, upshot_records}
use Rattle.nb_machine.specs.States.{State, bare, with_live}
use Rattle.nb_machine.specs.Takings.{AllTake, Over}
use Rattle.nb_runner.specs.declared.handing.Booted.TheVariants as booted
use Rattle.nb_runner.specs.declared.world.World.{World}
use Rattle.nb_network.specs.Many.{AreOpensOf, FitsHoldings, Many}
use Rattle.nb_network.specs.Takes.{IsEndOf}
use Rattle.nb_network.specs.declared.over.HasEnded.{HasEnded}
use Rattle.nb_traced.specs.Outputs.{Traced, apart}
use Rattle.nb_client.specs.Asked.{job_asked}
use Rattle.nb_client.specs.Booting.{HasCome, booted_drives, booted_world}
use Rattle.nb_client.specs.Closings.{ShutsAll}
use Rattle.nb_client.specs.Concluding.{IsBootTable, handing_of}
use Rattle.nb_client.specs.Serving.{ComesIn, Concludes, FitsAnswer, IsAnswerOf, answer_over, asks_still}
use Rattle.nb_client.specs.Snapshots.{Snapshot, at_handing, snapshot, state_of_world}
use Rattle.nb_client.specs.Soundness.{IsSoundBut, kept_drives, snapshot_at}
use Rattle.nb_client.specs.declared.asked.Asked.{Asked}
use Rattle.nb_client.specs.declared.asked.Asked.TheVariants.{Block}
use Rattle.nb_client.specs.declared.booting.FirstBlock.TheVariants.{Read, Lost}
use Rattle.nb_client.specs.declared.pending.Answer.{Answer as TheAnswer}
use Rattle.nb_client.specs.declared.pending.Answer.TheVariants.{End, Drive as Lives}
use Rattle.nb_client.specs.declared.pending.Pending.{Pending}
use Rattle.nb_client.specs.declared.site.Site.{Site}
use Rattle.nb_client.specs.declared.stage.Stage.TheVariants as stage
use Rattle.nb_client.proofs.Conclude.{handing_sound, handing_traces}
use Rattle.nb_client.proofs.DriveConcludes.{alone_pieces, fails_concludes}
use Rattle.nb_client.proofs.DriveLists.{kept_same}
use Rattle.nb_client.proofs.Served.{state_is}

-- what the machine's command gets of an open that has ended
over_read : (o : Over) (e : HasEnded) (read : Option (List ℕ)) → IsEndOf e o → e.read ≡ read → block_of_over o ≡ cond (is_some read) (by_drive o.live) (by_end o)
over_read o e read is same = ap (λ r. cond (is_some r) (by_drive o.live) (by_end o)) (is.read ∙ same)

same_some : (l m : Live) → Some l ≡ Some m → l ≡ m
same_some l m e = cc

module _ (before : Site) (s : Running) (d : Option Drive) (p : Pending) (asks : p.asked ≡ Block d) (none : p.waits ≡ None) where
  abbrev w : World
  w = before.world

  -- it has ended before that
  pub lost_concludes : {old new : Logged} (answer : TheAnswer) (cause : Cause) → HasCome (Lost cause) answer p.number before.opens → IsSoundBut None before.used w before.opens → Puts old new (out_texts (result cause ∷ [])) →
      Concludes p answer s before (snapshot_at before (stage.Running (with_result s cause))) old new
  lost_concludes Lives cause come sound puts = absurd come
  lost_concludes (End e) cause come sound puts = fails_concludes before s p none sound e cause
      (λ o is. (ap (λ (a : Asked). answer_over a o) asks ∙ over_read o e None is come.0, come.1))
      (λ t o. ap (λ (a : Asked). concluded_by t s.depth (job_asked a) (by_end o)) asks) puts

  -- the block has come of this open
  read_by : (answer : TheAnswer) (block : List ℕ) (live : List Live) (x : Answer) → HasCome (Read block) answer p.number before.opens → AreOpensOf before.opens.graph before.opens.list live → IsAnswerOf answer p.asked p.number live x →
      (l : Live) × (x ≡ by_drive l) × (read_last l ≡ Some block)
  read_by answer block live x come are is = by answer come (subst (λ (a : Asked). IsAnswerOf answer a p.number live x) asks is)
    where
      by : (a : TheAnswer) → HasCome (Read block) a p.number before.opens → IsAnswerOf a (Block d) p.number live x → (l : Live) × (x ≡ by_drive l) × (read_last l ≡ Some block)
      by Lives came at = (at.0, at.2, ap (option_and_then read_last) (sym at.1) ∙ came.0 live are)
      by (End e) came at = (at.0.live, at.3 ∙ over_read at.0 e (Some block) at.1 came.0, at.1.read ∙ came.0)

  -- the state with the disk that is booted
  booted_state : (live : List Live) → AreOpensOf before.opens.graph before.opens.list live → state_of_world (booted_world before.opens.list d w) live ≡ with_booted (state_of_world w live) d
  booted_state live are = by d
    where
      by : (x : Option Drive) → state_of_world (booted_world before.opens.list x w) live ≡ with_booted (state_of_world w live) x
      by None = refl
      by (Some z) = ap (λ (xs : List Drive). record (state_of_world w live) { drives = xs }) (kept_same before.opens.graph before.opens.list live are (with_hooked z w.state.drives))

  -- the block has come, and the disk is handed off
  pub boots_concludes : {old new : Logged} {asked : Option ℕ} (answer : TheAnswer) (block : List ℕ) (mid after : Site) (table : Option (List ℕ)) → HasCome (Read block) answer p.number before.opens → length block ≤ 268435456 → IsSoundBut asked before.used w before.opens →
      mid.used ≡ before.used → mid.opens ≡ before.opens → mid.world ≡ booted_world before.opens.list d w → IsBootTable mid table → after.used ≡ mid.used → ShutsAll [] (result ok ∷ []) mid after old new →
      Concludes p answer s before (snapshot_at after (stage.HandingOff (handing_of (booted.Disk block) table))) old new
  boots_concludes {old} {new} {asked} answer block mid after table come short sound used opens world told same shut =
      let images = w.state.images in
      let all : after.used ≡ before.used = same ∙ used in
      record {
        ends = λ live are.
            let t = state_of_world w live in
            let hooked : state_of_world mid.world live ≡ with_booted t d = ap (λ (v : World). state_of_world v live) world ∙ booted_state live are in
            let here : AreOpensOf mid.opens.graph mid.opens.list live = rw opens are in
            let z = shut.closes (state_of_world mid.world live) (state_is mid.world mid.opens live here) in
            let table_is : boot_table (with_booted t d) ≡ table = ap boot_table (sym hooked) ∙ told.of_state live here in
            let closes : AllTake (bare w.net ∷ []) (close stopped_cause) live (without_graph shut.records) [] z.0 = subst (λ (v : World). AllTake (bare v.net ∷ []) (close stopped_cause) live (without_graph shut.records) [] z.0) world z.1 in
            let to = handing (with_live (with_booted t d) []) (disk_records block (boot_table (with_booted t d))) in
            record {
              rest = result ok ∷ shut.records;
              puts = shut.puts;
              comes = λ x is.
                  let r = read_by answer block live x come are is in
                  let upshot : upshot_read t d (read_last r.0) ≡ boots_drive_by d block = ap (upshot_read t d) r.2 in
                  rw (asks, r.1) (record {
                    more = without_graph shut.records;
                    to = to;
                    is_put = sym (ap (λ (u : Upshot). upshot_records u ++ without_graph shut.records) upshot);
                    leads = subst (λ (u : Upshot). LeadsTo t s w.outer u (without_graph shut.records) to) (sym upshot) (z.0, closes, refl);
                    stands_so = rw (← all) (at_handing after.used after.world after.opens (handing_of (booted.Disk block) table) (with_live (with_booted t d) []) (disk_records block (boot_table (with_booted t d))) (no_live t d) shut.none (ap (disk_records block) table_is));
                  });
              traces = λ outs h so_far traced fits.
                  handing_traces mid after (handing_of (booted.Disk block) table) shut outs h so_far traced (rw (opens, world) (record { state = fits.state; living = fits.living; waiting = fits.waiting ∙ alone_pieces p none; numbered = fits.numbered }));
            };
        sound = handing_sound {asked = asked} w before.opens (booted_drives before.opens.list d w.state.drives) mid after (booted.Disk block) table short told.short (rw used sound) opens world same shut;
        under_way = tt;
      }
    where
      no_live : (t : State) (x : Option Drive) → (with_live (with_booted t x) []).live ≡ []
      no_live t None = refl
      no_live t (Some z) = refl

-- it doesn't matter which drive is hooked then
pub fits_any : (answer : TheAnswer) (d : Option Drive) (k : ℕ) (m : Many) → FitsAnswer answer (Block d) k m → FitsAnswer answer (Block None) k m
fits_any Lives d k m fits = fits
fits_any (End e) d k m fits = fits

-- where no block has come, the open has ended
pub lost_sound : {used : ℕ} {w : World} {m : Many} (answer : TheAnswer) (cause : Cause) (d : Option Drive) (k : ℕ) (n : Many) → HasCome (Lost cause) answer k n → IsSoundBut (asks_still answer (Block d) k) used w m → IsSoundBut None used w m
lost_sound Lives cause d k n come sound = absurd come
lost_sound (End e) cause d k n come sound = sound

pub short_read : (answer : TheAnswer) (block : List ℕ) (k : ℕ) (m : Many) → HasCome (Read block) answer k m → length block ≤ 268435456
short_read Lives block k m come = come.1
short_read (End e) block k m come = come.1
