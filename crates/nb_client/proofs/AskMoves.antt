-- A command that asks for something makes a move.
use Rattle.std.proofs.Common.{◌≡◌, ℕ, ◌+◌, ◌<◌, true, List, [], ◌∷◌, ◌++◌, Some, refl, sym, ◌∙◌, ap, subst, arith, append-nil, append_assoc}
use Rattle.nb_defs.specs.Records.{Out, result}
use Rattle.nb_machine.specs.CommandRecords.{command_record, no_route}
use Rattle.nb_machine.specs.Courses.{Proceeds, opens_one, finds_no_route, running, stands, waiting}
use Rattle.nb_machine.specs.Effects.{asks, shown_as, table_after, up_after}
use Rattle.nb_machine.specs.Lives.{Live, end_record, open_record}
use Rattle.nb_machine.specs.Running.{Running, entered, further}
use Rattle.nb_machine.specs.Scripts.{Awaited, Doing, answer, doing, doing_by, opens}
use Rattle.nb_machine.specs.States.{State, with_one_made, with_opened}
use Rattle.nb_network.specs.Many.{FitsHoldings}
use Rattle.nb_traced.specs.Plain.{without_graph}
use Rattle.nb_record.specs.Logged.{Logged}
use Rattle.nb_machine.proofs.Words.{keeps_table_in, keeps_up_in}
use Rattle.nb_runner.proofs.CommandLaws.{world_stays}
use Rattle.nb_runner.proofs.Measures.{further_nearer}
use Rattle.nb_runner.specs.CommandWords.{wanted_of}
use Rattle.nb_runner.specs.Steps.{moves_in, moves_outside}
use Rattle.nb_runner.specs.declared.world.World.{World}
use Rattle.nb_traced.specs.Outputs.{Traced, commands}
use Rattle.nb_client.specs.Asked.{awaited_asked, job_asked, live_asked}
use Rattle.nb_client.specs.Openings.{AsksFor, IsNoDisk, IsOpenedIn, Opened, sets_out, turns_back}
use Rattle.nb_client.specs.Progressing.{LeadsToSnapshot, TracesTo, most_moves}
use Rattle.nb_client.specs.Snapshots.{Snapshot, snapshot, state_of_world}
use Rattle.nb_client.specs.Turning.{MovesOn, found_by_script, world_left_by}
use Rattle.nb_client.specs.declared.asked.Asked.{Asked}
use Rattle.nb_client.specs.declared.asked.Asked.TheVariants.{File, Query as Exchange, Disk, Block}
use Rattle.nb_runner.specs.declared.query.Query.TheVariants as query
use Rattle.nb_client.specs.declared.site.Site.{Site}
use Rattle.nb_client.specs.declared.stage.Stage.TheVariants as stage
use Rattle.nb_client.proofs.Moves.{one_move}
use Rattle.nb_client.proofs.Standing.{stands_at}

abbrev opens_in : World → List Live → Asked → Doing
opens_in w live a = opens (state_of_world w live) (live_asked (state_of_world w live) a) (job_asked a)

doing_asked : (w now : World) (live : List Live) (a : Asked) (s : Running) (ws : List (List ℕ)) (x : AsksFor w a s ws now) → doing (state_of_world w live) s (x.name ∷ x.args) ≡ opens_in now live a
doing_asked w now live (File wanted) s ws x =
    let vs = x.name ∷ x.args in
    let stays : world_left_by w vs ≡ w = world_stays w _ _ x.was_linked (keeps_table_in (found_by_script w s) (asks (wanted_of wanted)) vs x.asks_so) (keeps_up_in (found_by_script w s) (asks (wanted_of wanted)) w.state.up vs x.asks_so) in
    ap (doing_by (state_of_world w live) (table_after w.state.table vs) (up_after w.state.table w.state.up vs)) x.asks_so ∙ ap (λ v. opens_in v live (File wanted)) (sym (x.world_is ∙ stays))
doing_asked w now live (Exchange q) s ws x =
    let vs = x.name ∷ x.args in
    ap (doing_by (state_of_world w live) (table_after w.state.table vs) (up_after w.state.table w.state.up vs)) x.asks_so ∙ ap (λ v. opens_in v live (Exchange q)) (sym x.world_is)
doing_asked w now live (Disk disk) s ws x = absurd x.no_disk
doing_asked w now live (Block d) s ws x = absurd x.no_disk

-- its open has the next number, and its end is awaited
awaited_plain : (t : State) (a : Asked) → IsNoDisk a → awaited_asked a t.opens ≡ answer (live_asked t a).number
awaited_plain t (File wanted) none = refl
awaited_plain t (Exchange query.Lease) none = refl
awaited_plain t (Exchange (query.Echo server)) none = refl
awaited_plain t (Exchange (query.Address setting name by)) none = refl
awaited_plain t (Exchange (query.Host errand name by)) none = refl
awaited_plain t (Disk disk) none = absurd none
awaited_plain t (Block d) none = absurd none

leads_asked : (n : ℕ) (w now : World) (live : List Live) (a : Asked) (s : Running) (ws : List (List ℕ)) (put : List Out) (after : Snapshot) → s.begun < 4096 → AsksFor w a s ws now →
    IsOpenedIn (state_of_world now live) (live_asked (state_of_world now live) a) (answer (live_asked (state_of_world now live) a).number) (job_asked a) (entered s) w.outer n put after →
    LeadsToSnapshot [] (stands n (running (state_of_world w live) s w.outer)) (command_record s (shown_as true ws) ∷ put) after
leads_asked n w now live a s ws put after early x (sets_out link more to dev first stood) =
    let from = stands n (running (state_of_world w live) s w.outer) in
    let l = live_asked (state_of_world now live) a in
    let q = stands n (waiting (with_opened (state_of_world now live) l) (record { script = entered s; outer = w.outer; awaited = answer l.number; job = job_asked a })) in
    let rest = open_record l ∷ more in
    record {
      progress = q;
      steps = one_move from q (command_record s (shown_as true ws) ∷ rest) (subst (λ t. Proceeds from (command_record s t ∷ rest) q) x.shows
          (opens_one n (state_of_world w live) (state_of_world now live) s w.outer x.name x.args l (job_asked a) link more x.comes early (doing_asked w now live a s ws x) dev first));
      stands = stood;
    }
leads_asked n w now live a s ws put after early x (turns_back link to dev first stood) =
    let from = stands n (running (state_of_world w live) s w.outer) in
    let l = live_asked (state_of_world now live) a in
    let q = stands n (running (with_one_made (state_of_world now live)) (further s (no_route l.server)) w.outer) in
    let rest = open_record l ∷ end_record l (no_route l.server) ∷ result (no_route l.server) ∷ [] in
    record {
      progress = q;
      steps = one_move from q (command_record s (shown_as true ws) ∷ rest) (subst (λ t. Proceeds from (command_record s t ∷ rest) q) x.shows
          (finds_no_route n (state_of_world w live) (state_of_world now live) s w.outer x.name x.args l (job_asked a) link x.comes early (doing_asked w now live a s ws x) dev first));
      stands = stood;
    }

-- a command asks for something
pub asks_goes : {old new : Logged} (w : World) (a : Asked) (s : Running) (ws : List (List ℕ)) (before : Site) (after : Snapshot) → s.begun < 4096 → AsksFor w a s ws before.world →
    Opened a [] (Some ws) s before after old new → MovesOn (snapshot before.used w before.opens (stage.Running s)) after old new
asks_goes {old} {new} w a s ws before after early x o =
    let same_outer : before.world.outer ≡ w.outer = ap (λ (v : World). v.outer) x.world_is in
    record {
      goes = record {
        advances = λ p is_for.
            let at = stands_at (snapshot before.used w before.opens (stage.Running s)) p is_for in
            let front = command_record s (shown_as true ws) ∷ [] in
            record {
              added = front ++ o.rest;
              came = [];
              puts = o.puts;
              leads = subst (λ y. LeadsToSnapshot [] y (command_record s (shown_as true ws) ∷ without_graph o.rest) after) (sym at.2)
                  (leads_asked before.used w before.world at.0 a s ws (without_graph o.rest) after early x
                  (subst (λ (k : Awaited). IsOpenedIn (state_of_world before.world at.0) (live_asked (state_of_world before.world at.0) a) k (job_asked a) (entered s) w.outer before.used (without_graph o.rest) after) (awaited_plain (state_of_world before.world at.0) a x.no_disk)
                  (subst (λ k. IsOpenedIn (state_of_world before.world at.0) (live_asked (state_of_world before.world at.0) a) (awaited_asked a before.world.opens) (job_asked a) (entered s) k before.used (without_graph o.rest) after) same_outer (o.opens at.0 at.1))));
              begins = refl;
              traces = λ outs h so_far t fits.
                  let opens_same : w.opens ≡ before.world.opens = sym (ap (λ (v : World). v.opens) x.world_is) in
                  let begun : Traced (outs ++ front) h so_far = commands outs s.depth s.passed s.place true ws h so_far t fits.waiting in
                  let on = o.traces (outs ++ front) h so_far begun (subst (λ k. FitsHoldings before.opens k [] h) opens_same fits) in
                  subst (λ y. TracesTo after (outs ++ (front ++ o.rest)) y) (sym (append-nil so_far))
                  (subst (λ xs. TracesTo after xs so_far) (append_assoc outs front o.rest) on);
            };
        sound = o.sound;
        under_way = o.under_way;
      };
      nearer = λ at_work.
          let same = o.same_script at_work in
          let less : moves_in (further s same.0) + moves_outside after.world.outer < moves_in s + moves_outside w.outer =
          rw (same.2, same_outer) (omega (arith, further_nearer s same.0 early)) in
          subst (λ st. most_moves st after < moves_in s + moves_outside w.outer) (sym same.1) less;
    }
