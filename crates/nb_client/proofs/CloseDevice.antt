-- `ifclose`, as a move of the machine: the device is down, and all that lives is closed.
use Rattle.std.proofs.Common.{◌≡◌, ℕ, ◌≤◌, ◌<◌, true, List, [], ◌∷◌, ◌++◌, refl, sym, ◌∙◌, ap, subst, append-nil, append_assoc, arith}
use Rattle.nb_defs.specs.Causes.{ok}
use Rattle.nb_defs.specs.Records.{Out, out_texts, result}
use Rattle.nb_record.specs.Logged.{Logged, Puts}
use Rattle.nb_traced.specs.Plain.{without_graph}
use Rattle.nb_traced.proofs.Plain.{plain_append}
use Rattle.nb_machine.specs.CommandRecords.{command_record}
use Rattle.nb_drivecmd.specs.declared.drive.Drive.{Drive}
use Rattle.nb_machine.specs.Courses.{Progress, stands, running, Proceeds, closes_device, down_cause, drives_first}
use Rattle.nb_machine.specs.Effects.{shown_as, table_after, up_after}
use Rattle.nb_machine.specs.Lives.{Live, close}
use Rattle.nb_machine.specs.Running.{Running, further}
use Rattle.nb_machine.specs.Scripts.{doing_by}
use Rattle.nb_machine.specs.States.{State, bare, with_live}
use Rattle.nb_machine.specs.Takings.{AllTake, Over}
use Rattle.nb_runner.proofs.Measures.{further_nearer}
use Rattle.nb_runner.specs.declared.command.Deed.TheVariants as deed
use Rattle.nb_runner.specs.declared.world.World.{World}
use Rattle.nb_traced.specs.Holdings.{Holdings}
use Rattle.nb_traced.specs.Outputs.{Arrived, Traced}
use Rattle.nb_network.specs.Many.{AreOpensOf, FitsHoldings}
use Rattle.nb_client.specs.Closings.{ClosesDown}
use Rattle.nb_client.specs.Progressing.{ProceedsTo, TracesTo}
use Rattle.nb_client.specs.Snapshots.{at_running, snapshot, state_of_world}
use Rattle.nb_client.specs.Soundness.{IsSound}
use Rattle.nb_client.specs.Turning.{IsCarriedOutBy, MovesOn, world_left_by}
use Rattle.nb_client.specs.declared.site.Site.{Site}
use Rattle.nb_client.specs.declared.stage.Stage.TheVariants as stage
use Rattle.nb_client.proofs.CloseGoes.{closed_sound}
use Rattle.nb_client.proofs.DriveFirsts.{none_hooked}
use Rattle.nb_client.proofs.Moves.{one_move}
use Rattle.nb_client.proofs.Served.{state_is}
use Rattle.nb_client.proofs.Standing.{stands_at}
use Rattle.nb_client.proofs.Traces.{trace_apart, trace_command}

-- what is put: the command, what closing puts, and the command's result
abbrev pub down_records : Running → List (List ℕ) → List Out → List Out
down_records s ws records = command_record s (shown_as true ws) ∷ (records ++ (result ok ∷ []))

plain_down : (s : Running) (ws : List (List ℕ)) (records : List Out) → without_graph (down_records s ws records) ≡ down_records s ws (without_graph records)
plain_down s ws records = ap (λ x. command_record s (shown_as true ws) ∷ x) (plain_append records (result ok ∷ []))

trace_down : {before after : Site} {l0 l1 : Logged} (s s' : Running) (ws : List (List ℕ)) (n : ℕ) (k : ClosesDown before after l0 l1) (outs : List Out) (h : Holdings) (so_far : List Arrived) → Traced outs h so_far →
    FitsHoldings before.opens before.world.opens [] h → TracesTo (snapshot n after.world after.opens (stage.Running s')) (outs ++ down_records s ws k.records) (so_far ++ [])
trace_down {before} {after} {l0} {l1} s s' ws n k outs h so_far tr fits =
    let cmd = command_record s (shown_as true ws) in
    let begun : Traced (outs ++ (cmd ∷ [])) h (so_far ++ []) = trace_command outs [] s (shown_as true ws) h so_far tr fits.waiting tt in
    let t = k.traces (outs ++ (cmd ∷ [])) h (so_far ++ []) begun fits in
    let closed : Traced ((outs ++ (cmd ∷ [])) ++ k.records) t.after (so_far ++ []) = subst (λ x. Traced ((outs ++ (cmd ∷ [])) ++ k.records) t.after x) (append-nil (so_far ++ [])) t.traced in
    let over : Traced (((outs ++ (cmd ∷ [])) ++ k.records) ++ (result ok ∷ [])) t.after (so_far ++ []) =
    subst (λ x. Traced (((outs ++ (cmd ∷ [])) ++ k.records) ++ (result ok ∷ [])) t.after x) (append-nil (so_far ++ []))
    (trace_apart ((outs ++ (cmd ∷ [])) ++ k.records) (result ok ∷ []) t.after (so_far ++ []) closed (tt, tt)) in
    let same : ((outs ++ (cmd ∷ [])) ++ k.records) ++ (result ok ∷ []) ≡ outs ++ down_records s ws k.records =
    append_assoc (outs ++ (cmd ∷ [])) k.records (result ok ∷ []) ∙ append_assoc outs (cmd ∷ []) (k.records ++ (result ok ∷ [])) in
    record {
      holdings = t.after;
      traced = subst (λ x. Traced x t.after (so_far ++ [])) same over;
      fits = record {
        state = t.fits.state;
        living = t.fits.living;
        waiting = t.fits.waiting;
        numbered = subst (λ x. t.after.begun ≤ x) (sym (ap (λ (w : World). w.opens) k.world)) t.fits.numbered;
      };
    }

-- the machine's move
down_move : {before after : Site} {l0 l1 : Logged} (n : ℕ) (w : World) (s : Running) (ws : List (List ℕ)) (live : List Live) (k : ClosesDown before after l0 l1) → s.begun < 4096 →
    IsCarriedOutBy w deed.Shuts s ws before.world → AreOpensOf before.opens.graph before.opens.list live →
    Proceeds (stands n (running (state_of_world w live) s w.outer)) (down_records s ws (without_graph k.records)) (stands n (running (state_of_world after.world []) (further s ok) after.world.outer))
down_move {before} {after} n w s ws live k early d are =
    let words = d.name ∷ d.args in
    let from : State = state_of_world w live in
    let down : State = state_of_world (world_left_by w words) live in
    let all = subst (λ (v : World). (overs : List Over) × AllTake (bare v.net ∷ []) (close down_cause) (drives_first v.state.drives live) (without_graph k.records) [] overs) d.world_is
    (k.closes (state_of_world before.world live) (state_is before.world before.opens live are)) in
    let to : stands n (running (with_live down []) (further s ok) w.outer) ≡ stands n (running (state_of_world after.world []) (further s ok) after.world.outer) =
    ap (λ (ds : List Drive). stands n (running (record (state_of_world (world_left_by w words) []) { drives = ds }) (further s ok) w.outer)) (none_hooked w.state.drives)
    ∙ ap (λ (v : World). stands n (running (record (state_of_world v []) { drives = [] }) (further s ok) v.outer)) (sym d.world_is)
    ∙ ap (λ (v : World). stands n (running (state_of_world v []) (further s ok) v.outer)) (sym k.world) in
    subst (λ p. Proceeds (stands n (running from s w.outer)) (down_records s ws (without_graph k.records)) p) to
    (subst (λ x. Proceeds (stands n (running from s w.outer)) (command_record s x ∷ (without_graph k.records ++ (result ok ∷ []))) (stands n (running (with_live down []) (further s ok) w.outer))) d.shows
    (closes_device n from down s w.outer d.name d.args (without_graph k.records) all.0 d.comes early
    (ap (doing_by from (table_after w.state.table words) (up_after w.state.table w.state.up words)) d.deed_is) all.1))

pub down_goes : {before after : Site} {l0 l1 old new : Logged} (n : ℕ) (w : World) (s : Running) (ws : List (List ℕ)) → IsSound n before.world before.opens (stage.Running s) → s.begun < 4096 →
    IsCarriedOutBy w deed.Shuts s ws before.world → (k : ClosesDown before after l0 l1) → Puts old new (out_texts (down_records s ws k.records)) →
    MovesOn (snapshot n w before.opens (stage.Running s)) (snapshot n after.world after.opens (stage.Running (further s ok))) old new
down_goes {before} {after} {l0} {l1} {old} {new} n w s ws sound early d k puts =
    let c = closed_sound n (stage.Running s) sound k (omega arith) in
    let next = further s ok in
    let to : Progress = stands n (running (state_of_world after.world []) next after.world.outer) in
    let same : before.world.opens ≡ w.opens = ap (λ (v : World). v.opens) d.world_is in
    record {
      goes = record {
        advances = λ p is_for.
            let at = stands_at (snapshot n w before.opens (stage.Running s)) p is_for in
            record {
              added = down_records s ws k.records;
              came = [];
              puts = puts;
              leads = record {
                progress = to;
                steps = subst (λ x. ProceedsTo p x to) (sym (plain_down s ws k.records))
                    (subst (λ x. ProceedsTo x (down_records s ws (without_graph k.records)) to) (sym at.2) (one_move _ to _ (down_move n w s ws at.0 k early d at.1)));
                stands = at_running n after.world after.opens next [] (subst (λ os. AreOpensOf after.opens.graph os []) (sym k.none) tt);
              };
              begins = refl;
              traces = λ outs h so_far tr fits. trace_down s next ws n k outs h so_far tr
                  (record { state = fits.state; living = fits.living; waiting = fits.waiting; numbered = subst (λ x. h.begun ≤ x) (sym same) fits.numbered });
            };
        sound = record { time = c.time; opens = c.opens; serials = c.serials; tied = c.tied; well = tt; short = c.short; named = c.named; linked = c.linked; hooked = c.hooked };
        under_way = tt;
      };
      nearer = λ _.
          let same_outer : after.world.outer ≡ w.outer = ap (λ (v : World). v.outer) k.world ∙ ap (λ (v : World). v.outer) d.world_is in
          rw same_outer (omega (arith, further_nearer s ok early));
    }
