-- A command that boots a hooked drive makes a move.
use Rattle.std.proofs.Common.{◌≡◌, ℕ, ◌+◌, ◌<◌, true, false, List, [], ◌∷◌, ◌++◌, Some, None, refl, sym, ◌∙◌, ap, subst, arith, append-nil, append_assoc}
use Rattle.nb_defs.specs.Records.{out_texts}
use Rattle.nb_record.specs.Logged.{Logged, Puts}
use Rattle.nb_runner.proofs.Puts.{Puts-outs}
use Rattle.nb_drivecmd.specs.declared.drive.Drive.{Drive}
use Rattle.nb_drivecmd.specs.HookedDrives.{drive_numbered}
use Rattle.nb_machine.specs.CommandRecords.{command_record}
use Rattle.nb_machine.specs.Courses.{Proceeds, ReadsBlock, boots_hooked, running, stands}
use Rattle.nb_machine.specs.Effects.{boots_drive, shown_as, table_after, up_after}
use Rattle.nb_machine.specs.Running.{Running, entered, further}
use Rattle.nb_machine.specs.Scripts.{doing_by}
use Rattle.nb_machine.proofs.Words.{keeps_table_in, keeps_up_in}
use Rattle.nb_network.specs.Many.{FitsHoldings}
use Rattle.nb_runner.proofs.CommandLaws.{world_stays}
use Rattle.nb_runner.proofs.Measures.{further_nearer}
use Rattle.nb_runner.specs.Steps.{moves_in, moves_outside}
use Rattle.nb_runner.specs.declared.intent.Intent.TheVariants as intent
use Rattle.nb_runner.specs.declared.world.World.{World}
use Rattle.nb_traced.specs.Plain.{without_graph}
use Rattle.nb_traced.specs.Outputs.{Traced, commands}
use Rattle.nb_client.specs.Booting.{AsksFirst}
use Rattle.nb_client.specs.Openings.{Intends}
use Rattle.nb_client.specs.Progressing.{ProceedsTo, TracesTo, most_moves}
use Rattle.nb_client.specs.Snapshots.{Snapshot, snapshot, state_of_world}
use Rattle.nb_client.specs.Soundness.{IsClean}
use Rattle.nb_client.specs.Turning.{MovesOn, found_by_script}
use Rattle.nb_client.specs.declared.site.Site.{Site}
use Rattle.nb_client.specs.declared.stage.Stage.TheVariants as stage
use Rattle.nb_client.proofs.Moves.{one_move}
use Rattle.nb_client.proofs.Standing.{stands_at}
use Rattle.nb_client.proofs.Waits.{gathered_puts}

-- it changes neither the settings nor the device
boots_stay : {w now : World} {s : Running} {ws : List (List ℕ)} (number : ℕ) → Intends w (intent.Boots number) s ws now → now ≡ w
boots_stay {w} {now} {s} number x =
    let vs = x.name ∷ x.args in
    x.world_is ∙ world_stays w _ _ x.was_linked (keeps_table_in (found_by_script w s) (boots_drive number) vs x.intends_so) (keeps_up_in (found_by_script w s) (boots_drive number) w.state.up vs x.intends_so)

-- COMMAND was put, and the drive asked for its first block
pub boots_goes : {before : Site} {g0 l0 l1 old new : Logged} (w : World) (number : ℕ) (d : Drive) (s runs : Running) (ws : List (List ℕ)) (after : Snapshot) → runs ≡ entered s → s.begun < 4096 → Intends w (intent.Boots number) s ws before.world →
    drive_numbered number before.world.state.drives ≡ Some d → AsksFirst runs d.open_number None before after l0 l1 → Puts g0 l0 (out_texts (command_record s (shown_as true ws) ∷ [])) → IsClean g0 → l1.is_short ≡ false → Puts old new l1.bytes →
    MovesOn (snapshot before.used w before.opens (stage.Running s)) after old new
boots_goes {before} {g0} {l0} {l1} {old} {new} w number d s runs ws after begun early x some asks command clean whole gathered =
    let same = boots_stay number x in
    let k : AsksFirst (entered s) d.open_number None before after l0 l1 = subst (λ (t : Running). AsksFirst t d.open_number None before after l0 l1) begun asks in
    let vs = x.name ∷ x.args in
    let front = command_record s (shown_as true ws) ∷ [] in
    let same_outer : before.world.outer ≡ w.outer = ap (λ (v : World). v.outer) same in
    record {
      goes = record {
        advances = λ p is_for.
            let at = stands_at (snapshot before.used w before.opens (stage.Running s)) p is_for in
            let live = at.0 in
            let g = k.asks live at.1 in
            let t = state_of_world w live in
            let from = stands before.used (running t s w.outer) in
            let to = stands before.used g.there.to in
            let rest = without_graph g.rest in
            let reads : ReadsBlock t (entered s) w.outer d.open_number None rest g.there.to =
            subst (λ (v : World). ReadsBlock (state_of_world v live) (entered s) v.outer d.open_number None rest g.there.to) same g.there.reads in
            let move : Proceeds from (command_record s (shown_as true ws) ∷ rest) to =
            subst (λ z. Proceeds from (command_record s z ∷ rest) to) x.shows
            (boots_hooked before.used t s w.outer x.name x.args number d rest g.there.to x.comes early (ap (doing_by t (table_after w.state.table vs) (up_after w.state.table w.state.up vs)) x.intends_so)
            (subst (λ (v : World). drive_numbered number v.state.drives ≡ Some d) same some) reads) in
            record {
              added = front ++ g.rest;
              came = [];
              puts = gathered_puts (out_texts (front ++ g.rest)) clean whole (Puts-outs front g.rest command g.puts) gathered;
              leads = record {
                progress = to;
                steps = subst (λ y. ProceedsTo y (command_record s (shown_as true ws) ∷ rest) to) (sym at.2) (one_move from to (command_record s (shown_as true ws) ∷ rest) move);
                stands = g.there.stands_so;
              };
              begins = refl;
              traces = λ outs h so_far z fits.
                  let same_opens : w.opens ≡ before.world.opens = sym (ap (λ (v : World). v.opens) same) in
                  let put : Traced (outs ++ front) h so_far = commands outs s.depth s.passed s.place true ws h so_far z fits.waiting in
                  let on = g.traces (outs ++ front) h so_far put (subst (λ n. FitsHoldings before.opens n [] h) same_opens fits) in
                  subst (λ y. TracesTo after (outs ++ (front ++ g.rest)) y) (sym (append-nil so_far)) (subst (λ xs. TracesTo after xs so_far) (append_assoc outs front g.rest) on);
            };
        sound = k.sound;
        under_way = k.under_way;
      };
      nearer = λ at_work.
          let same = k.same_script at_work in
          let less : moves_in (further s same.0) + moves_outside after.world.outer < moves_in s + moves_outside w.outer =
          rw (same.2, same_outer) (omega (arith, further_nearer s same.0 early)) in
          subst (λ st. most_moves st after < moves_in s + moves_outside w.outer) (sym same.1) less;
    }
