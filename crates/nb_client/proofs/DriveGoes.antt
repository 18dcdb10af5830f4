-- A command that hooks a disk or lets a drive go makes a move.
use Rattle.std.proofs.Common.{◌≡◌, ℕ, ◌+◌, ◌<◌, true, false, List, [], ◌∷◌, ◌++◌, None, Ok, Err, refl, sym, ◌∙◌, ap, subst, arith, append-nil, append_assoc}
use Rattle.nb_terms.specs.declared.cause.Cause.{Cause}
use Rattle.nb_defs.specs.Records.{Out, out_texts, result}
use Rattle.nb_record.specs.Logged.{Logged, Puts}
use Rattle.nb_drivecmd.specs.declared.outcome.Hooking.{Hooking}
use Rattle.nb_machine.specs.CommandRecords.{command_record}
use Rattle.nb_machine.specs.Courses.{DropsDrive, Proceeds, goes_to_hook, hooks_none, unhooks, reaching, running, stands}
use Rattle.nb_machine.specs.Effects.{hooks_disk, next_at_target, shown_as, table_after, unhooks_drive, up_after}
use Rattle.nb_machine.specs.Lives.{Live}
use Rattle.nb_machine.specs.Running.{Running, entered, further, with_result}
use Rattle.nb_machine.specs.Scripts.{doing_by}
use Rattle.nb_machine.proofs.Words.{keeps_table_in, keeps_up_in}
use Rattle.nb_network.specs.Many.{AreOpensOf, FitsHoldings}
use Rattle.nb_runner.proofs.CommandLaws.{world_stays}
use Rattle.nb_runner.proofs.Measures.{further_nearer}
use Rattle.nb_runner.specs.CommandWords.{onward_of, FitsOnward}
use Rattle.nb_runner.specs.Steps.{moves_in}
use Rattle.nb_runner.specs.declared.intent.Intent.TheVariants as intent
use Rattle.nb_runner.specs.declared.world.World.{World}
use Rattle.nb_traced.specs.Plain.{without_graph}
use Rattle.nb_traced.proofs.Plain.{plain_append}
use Rattle.nb_traced.specs.Holdings.{Holdings}
use Rattle.nb_traced.specs.Outputs.{Arrived, Traced, commands}
use Rattle.nb_client.specs.Asked.{onward_kind}
use Rattle.nb_client.specs.Drives.{BeginsDrop, DropsOne, ReachesDisk, fails_there, reaches_there}
use Rattle.nb_client.specs.Openings.{Intends}
use Rattle.nb_client.specs.Progressing.{ProceedsTo}
use Rattle.nb_client.specs.Snapshots.{StandsForProgress, at_reaching, at_running, snapshot, state_of_world}
use Rattle.nb_client.specs.Soundness.{HasRoomOnward, IsClean, IsSound}
use Rattle.nb_client.specs.Turning.{MovesOn, found_by_script}
use Rattle.nb_client.specs.declared.pending.Next.{Next}
use Rattle.nb_client.specs.declared.site.Site.{Site}
use Rattle.nb_client.specs.declared.stage.Stage.{Stage}
use Rattle.nb_client.specs.declared.stage.Stage.TheVariants as stage
use Rattle.nb_client.proofs.Concluded.{entered_near}
use Rattle.nb_client.proofs.Moves.{one_move}
use Rattle.nb_client.proofs.OpenWaits.{nothing_waits}
use Rattle.nb_client.proofs.Standing.{stands_at}
use Rattle.nb_client.proofs.Traces.{trace_apart}
use Rattle.nb_client.proofs.Waits.{gathered_puts}
use Rattle.nb_runner.proofs.Puts.{Puts-outs}

-- neither changes the settings or the device
hooks_stay : {w now : World} {s : Running} {ws : List (List ℕ)} (hooking : Hooking) → Intends w (intent.Hooks hooking) s ws now → now ≡ w
hooks_stay {w} {now} {s} hooking x =
    let vs = x.name ∷ x.args in
    x.world_is ∙ world_stays w _ _ x.was_linked (keeps_table_in (found_by_script w s) (hooks_disk hooking) vs x.intends_so) (keeps_up_in (found_by_script w s) (hooks_disk hooking) w.state.up vs x.intends_so)

lets_stay : {w now : World} {s : Running} {ws : List (List ℕ)} (number : ℕ) (cause : Cause) → Intends w (intent.LetsGo number cause) s ws now → now ≡ w
lets_stay {w} {now} {s} number cause x =
    let vs = x.name ∷ x.args in
    x.world_is ∙ world_stays w _ _ x.was_linked (keeps_table_in (found_by_script w s) (unhooks_drive number cause) vs x.intends_so) (keeps_up_in (found_by_script w s) (unhooks_drive number cause) w.state.up vs x.intends_so)

-- COMMAND, what is put of the drive, and what comes after
abbrev pub drop_records : Running → List (List ℕ) → List Out → List Out → List Out
drop_records s ws records more = command_record s (shown_as true ws) ∷ (records ++ more)

plain_drop : (s : Running) (ws : List (List ℕ)) (records more : List Out) → without_graph more ≡ more → without_graph (drop_records s ws records more) ≡ drop_records s ws (without_graph records) more
plain_drop s ws records more plain = ap (λ x. command_record s (shown_as true ws) ∷ x) (plain_append records more ∙ ap (λ z. without_graph records ++ z) plain)

-- the output goes on with them
trace_drop : {before mid : Site} {l0 l1 : Logged} (number : ℕ) (s : Running) (ws : List (List ℕ)) (st : Stage) (k : DropsOne number before mid l0 l1) → (outs : List Out) (h : Holdings) (so_far : List Arrived) → Traced outs h so_far →
    FitsHoldings before.opens before.world.opens [] h →
    (t : Holdings) × Traced ((outs ++ (command_record s (shown_as true ws) ∷ [])) ++ k.records) t so_far × FitsHoldings mid.opens mid.world.opens [] t
trace_drop {before} {mid} number s ws st k outs h so_far tr fits =
    let front = outs ++ (command_record s (shown_as true ws) ∷ []) in
    let begun : Traced front h so_far = commands outs s.depth s.passed s.place true ws h so_far tr fits.waiting in
    let on = k.traces [] front h so_far begun fits in
    let opens : mid.world.opens ≡ before.world.opens = ap (λ (w : World). w.opens) k.world in (
      on.after,
      subst (λ z. Traced (front ++ k.records) on.after z) (append-nil so_far) on.traced,
      subst (λ (n : ℕ). FitsHoldings mid.opens n [] on.after) (sym opens) on.fits,
    )

-- the command is over with this cause
module _ {before mid : Site} {l0 l1 : Logged} (w : World) (s : Running) (ws : List (List ℕ)) (number : ℕ) (cause : Cause) (k : DropsOne number before mid l0 l1) (same : before.world ≡ w) where
  abbrev over_records : List Out
  over_records = drop_records s ws k.records (result cause ∷ [])

  -- where the machine proceeds so
  pub over_goes : {old new : Logged} → IsSound before.used before.world before.opens (stage.Running s) → s.begun < 4096 → Puts old new (out_texts over_records) →
      ((live left : List Live) → DropsDrive (state_of_world w live) number (without_graph k.records) (state_of_world mid.world left) →
      Proceeds (stands before.used (running (state_of_world w live) s w.outer)) (drop_records s ws (without_graph k.records) (result cause ∷ [])) (stands before.used (running (state_of_world mid.world left) (further s cause) w.outer))) →
      MovesOn (snapshot before.used w before.opens (stage.Running s)) (snapshot mid.used mid.world mid.opens (stage.Running (with_result (entered s) cause))) old new
  over_goes {old} {new} sound early puts proceeds =
      let after = snapshot mid.used mid.world mid.opens (stage.Running (further s cause)) in
      let outer : mid.world.outer ≡ w.outer = ap (λ (v : World). v.outer) k.world ∙ ap (λ (v : World). v.outer) same in
      let stays = k.sound s sound in
      record {
        goes = record {
          advances = λ p is_for.
              let at = stands_at (snapshot before.used w before.opens (stage.Running s)) p is_for in
              let drops = subst (λ (v : World). (left : List Live) × AreOpensOf mid.opens.graph mid.opens.list left × DropsDrive (state_of_world v at.0) number (without_graph k.records) (state_of_world mid.world left)) same (k.drops at.0 at.1) in
              let to = stands before.used (running (state_of_world mid.world drops.0) (further s cause) w.outer) in
              record {
                added = over_records;
                came = [];
                puts = puts;
                leads = record {
                  progress = to;
                  steps = subst (λ x. ProceedsTo p x to) (sym (plain_drop s ws k.records (result cause ∷ []) refl))
                      (subst (λ x. ProceedsTo x (drop_records s ws (without_graph k.records) (result cause ∷ [])) to) (sym at.2) (one_move _ to _ (proceeds at.0 drops.0 drops.2)));
                  stands = subst (λ (n : ℕ). StandsForProgress after (stands n (running (state_of_world mid.world drops.0) (further s cause) w.outer))) k.used
                      (subst (λ (o : List Running). StandsForProgress after (stands mid.used (running (state_of_world mid.world drops.0) (further s cause) o))) outer (at_running mid.used mid.world mid.opens (further s cause) drops.0 drops.1));
                };
                begins = refl;
                traces = λ outs h so_far tr fits.
                    let same_opens : w.opens ≡ before.world.opens = sym (ap (λ (v : World). v.opens) same) in
                    let t = trace_drop number s ws (stage.Running s) k outs h so_far tr (subst (λ (n : ℕ). FitsHoldings before.opens n [] h) same_opens fits) in
                    let front = outs ++ (command_record s (shown_as true ws) ∷ []) in
                    let last = trace_apart (front ++ k.records) (result cause ∷ []) t.0 so_far t.1 (tt, tt) in
                    record {
                      holdings = t.0;
                      traced = subst (λ z. Traced z t.0 (so_far ++ [])) (append_assoc front k.records (result cause ∷ []) ∙ append_assoc outs (command_record s (shown_as true ws) ∷ []) (k.records ++ (result cause ∷ []))) last;
                      fits = t.2;
                    };
              };
          sound = record { time = stays.time; opens = stays.opens; serials = stays.serials; tied = stays.tied; well = tt; short = stays.short; named = stays.named; linked = stays.linked; hooked = stays.hooked };
          under_way = tt;
        };
        nearer = λ _. rw outer (omega (arith, further_nearer s cause early));
      }

-- the drive of a number was let go
pub lets_goes : {before mid : Site} {l0 l1 old new : Logged} (w : World) (s : Running) (ws : List (List ℕ)) (number : ℕ) (cause : Cause) (k : DropsOne number before mid l0 l1) → Intends w (intent.LetsGo number cause) s ws before.world →
    IsSound before.used before.world before.opens (stage.Running s) → s.begun < 4096 → Puts old new (out_texts (drop_records s ws k.records (result cause ∷ []))) →
    MovesOn (snapshot before.used w before.opens (stage.Running s)) (snapshot mid.used mid.world mid.opens (stage.Running (with_result (entered s) cause))) old new
lets_goes {before} {mid} w s ws number cause k x sound early puts =
    over_goes w s ws number cause k (lets_stay number cause x) sound early puts (λ live left drops.
    let from = state_of_world w live in
    let vs = x.name ∷ x.args in
    subst (λ t. Proceeds (stands before.used (running from s w.outer)) (command_record s t ∷ (without_graph k.records ++ (result cause ∷ []))) (stands before.used (running (state_of_world mid.world left) (further s cause) w.outer))) x.shows
    (unhooks before.used from (state_of_world mid.world left) s w.outer x.name x.args number (without_graph k.records) cause x.comes early
    (ap (doing_by from (table_after w.state.table vs) (up_after w.state.table w.state.up vs)) x.intends_so) drops))

-- a disk isn't hooked: nothing may be opened
pub none_goes : {before mid : Site} {l0 l1 old new : Logged} (w : World) (s : Running) (ws : List (List ℕ)) (hooking : Hooking) (cause : Cause) (k : DropsOne hooking.number before mid l0 l1) → Intends w (intent.Hooks hooking) s ws before.world →
    next_at_target mid.world.opens mid.world.state.table mid.world.state.drives hooking ≡ Err cause →
    IsSound before.used before.world before.opens (stage.Running s) → s.begun < 4096 → Puts old new (out_texts (drop_records s ws k.records (result cause ∷ []))) →
    MovesOn (snapshot before.used w before.opens (stage.Running s)) (snapshot mid.used mid.world mid.opens (stage.Running (with_result (entered s) cause))) old new
none_goes {before} {mid} w s ws hooking cause k x fails sound early puts =
    over_goes w s ws hooking.number cause k (hooks_stay hooking x) sound early puts (λ live left drops.
    let from = state_of_world w live in
    let vs = x.name ∷ x.args in
    subst (λ t. Proceeds (stands before.used (running from s w.outer)) (command_record s t ∷ (without_graph k.records ++ (result cause ∷ []))) (stands before.used (running (state_of_world mid.world left) (further s cause) w.outer))) x.shows
    (hooks_none before.used from (state_of_world mid.world left) s w.outer x.name x.args hooking (without_graph k.records) cause x.comes early
    (ap (doing_by from (table_after w.state.table vs) (up_after w.state.table w.state.up vs)) x.intends_so) drops fails))

-- the disk's open, or the look-up of its server, is next
pub hook_goes : {before mid : Site} {l0 l1 old new : Logged} (w : World) (s : Running) (ws : List (List ℕ)) (hooking : Hooking) (next : Next) (k : DropsOne hooking.number before mid l0 l1) → Intends w (intent.Hooks hooking) s ws before.world →
    next_at_target mid.world.opens mid.world.state.table mid.world.state.drives hooking ≡ Ok (onward_of next.onward) → next.waits ≡ None → FitsOnward next.onward → HasRoomOnward next.onward mid.world.state.drives →
    IsSound before.used before.world before.opens (stage.Running s) → s.begun < 4096 → Puts old new (out_texts (drop_records s ws k.records [])) →
    MovesOn (snapshot before.used w before.opens (stage.Running s)) (snapshot mid.used mid.world mid.opens (stage.Reaching (entered s) next)) old new
hook_goes {before} {mid} {l0} {l1} {old} {new} w s ws hooking next k x follows alone fits room sound early puts =
    let same = hooks_stay hooking x in
    let vs = x.name ∷ x.args in
    let leads_on = onward_of next.onward in
    let after = snapshot mid.used mid.world mid.opens (stage.Reaching (entered s) next) in
    let outer : mid.world.outer ≡ w.outer = ap (λ (v : World). v.outer) k.world ∙ ap (λ (v : World). v.outer) same in
    let stays = k.sound s sound in
    record {
      goes = record {
        advances = λ p is_for.
            let at = stands_at (snapshot before.used w before.opens (stage.Running s)) p is_for in
            let from = state_of_world w at.0 in
            let drops = subst (λ (v : World). (left : List Live) × AreOpensOf mid.opens.graph mid.opens.list left × DropsDrive (state_of_world v at.0) hooking.number (without_graph k.records) (state_of_world mid.world left)) same (k.drops at.0 at.1) in
            let to = stands before.used (reaching (state_of_world mid.world drops.0) (entered s) w.outer leads_on) in
            let records = command_record s (shown_as true ws) ∷ k.records in
            let move : Proceeds (stands before.used (running from s w.outer)) (command_record s (shown_as true ws) ∷ without_graph k.records) to =
            subst (λ t. Proceeds (stands before.used (running from s w.outer)) (command_record s t ∷ without_graph k.records) to) x.shows
            (goes_to_hook before.used from (state_of_world mid.world drops.0) s w.outer x.name x.args hooking (without_graph k.records) leads_on x.comes early
            (ap (doing_by from (table_after w.state.table vs) (up_after w.state.table w.state.up vs)) x.intends_so) drops.2 follows) in
            record {
              added = records;
              came = [];
              puts = subst (λ z. Puts old new (out_texts (command_record s (shown_as true ws) ∷ z))) (append-nil k.records) puts;
              leads = record {
                progress = to;
                steps = subst (λ y. ProceedsTo y (command_record s (shown_as true ws) ∷ without_graph k.records) to) (sym at.2) (one_move _ to _ move);
                stands = subst (λ (n : ℕ). StandsForProgress after (stands n (reaching (state_of_world mid.world drops.0) (entered s) w.outer leads_on))) k.used
                    (subst (λ (o : List Running). StandsForProgress after (stands mid.used (reaching (state_of_world mid.world drops.0) (entered s) o leads_on))) outer (at_reaching mid.used mid.world mid.opens (entered s) next drops.0 leads_on drops.1 refl));
              };
              begins = refl;
              traces = λ outs h so_far tr fits_so.
                  let same_opens : w.opens ≡ before.world.opens = sym (ap (λ (v : World). v.opens) same) in
                  let t = trace_drop hooking.number s ws (stage.Running s) k outs h so_far tr (subst (λ (n : ℕ). FitsHoldings before.opens n [] h) same_opens fits_so) in
                  record {
                    holdings = t.0;
                    traced = subst (λ z. Traced (outs ++ records) t.0 z) (sym (append-nil so_far)) (subst (λ z. Traced z t.0 so_far) (append_assoc outs (command_record s (shown_as true ws) ∷ []) k.records) t.1);
                    fits = rw alone t.2;
                  };
            };
        sound = record {
          time = stays.time;
          opens = stays.opens;
          serials = stays.serials;
          tied = stays.tied;
          well = (fits, room, record { waiting = rw alone (nothing_waits (onward_kind next.onward) None mid.opens); lone = λ c backed. alone });
          short = stays.short;
          named = stays.named;
          linked = stays.linked;
          hooked = stays.hooked;
        };
        under_way = tt;
      };
      nearer = λ _. rw outer (omega (arith, hooked_near s early));
    }
  where
    hooked_near : (t : Running) → t.begun < 4096 → moves_in (entered t) + 1 < moves_in t
    hooked_near t early = omega (arith, entered_near t early)

-- COMMAND was put and the drive of the disk's number closed, and then its open is next, or the command is over
pub hooking_goes : {before mid : Site} {l0 l1 l2 old new : Logged} (w : World) (s : Running) (ws : List (List ℕ)) (hooking : Hooking) (runs : Running) (st : Stage) → (b : BeginsDrop s ws hooking.number before runs mid l0 l1) →
    ReachesDisk runs hooking mid.world st l1 l2 → IsClean l0 → l2.is_short ≡ false → Puts old new l2.bytes → Intends w (intent.Hooks hooking) s ws before.world → IsSound before.used before.world before.opens (stage.Running s) → s.begun < 4096 →
    MovesOn (snapshot before.used w before.opens (stage.Running s)) (snapshot mid.used mid.world mid.opens st) old new
hooking_goes {before} {mid} {l0} {l1} {l2} {old} {new} w s ws hooking runs st b (fails_there cause fails there puts) clean whole gathered x sound early =
    let k = b.drops in
    let all = Puts-outs (command_record s (shown_as true ws) ∷ []) (k.records ++ (result cause ∷ [])) b.command (Puts-outs k.records (result cause ∷ []) k.puts puts) in
    rw (there, b.script) (none_goes w s ws hooking cause k x fails sound early (gathered_puts (out_texts (drop_records s ws k.records (result cause ∷ []))) clean whole all gathered))
hooking_goes {before} {mid} {l0} {l1} {l2} {old} {new} w s ws hooking runs st b (reaches_there next follows alone fits room there same) clean whole gathered x sound early =
    let k = b.drops in
    let all = Puts-outs (command_record s (shown_as true ws) ∷ []) k.records b.command k.puts in
    let some : Puts l0 l1 (out_texts (drop_records s ws k.records [])) = subst (λ z. Puts l0 l1 (out_texts (command_record s (shown_as true ws) ∷ z))) (sym (append-nil k.records)) all in
    let last : Puts l0 l2 (out_texts (drop_records s ws k.records [])) = subst (λ (l : Logged). Puts l0 l (out_texts (drop_records s ws k.records []))) (sym same) some in
    rw (there, b.script) (hook_goes w s ws hooking next k x follows alone fits room sound early (gathered_puts (out_texts (drop_records s ws k.records [])) clean whole last gathered))
