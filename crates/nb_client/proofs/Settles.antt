-- What comes of a lease, an echo or an address whose open has ended.
use Rattle.std.proofs.Common.{◌≡◌, List, [], ◌∷◌, ◌++◌, Option, None, Some, refl, sym, ◌∙◌, ap, subst, append-nil, append_assoc}
use Rattle.nb_defs.specs.Records.{Out, result}
use Rattle.nb_record.specs.Logged.{Logged}
use Rattle.nb_traced.specs.Plain.{without_graph}
use Rattle.nb_ledger.specs.declared.event.GraphEvent.{GraphEvent}
use Rattle.nb_wire.specs.declared.address.Ip4.{Ip4}
use Rattle.nb_machine.specs.Courses.{LeadsTo, reaching, running}
use Rattle.nb_machine.specs.Errands.{onward}
use Rattle.nb_machine.specs.Running.{Running, with_result}
use Rattle.nb_machine.specs.Scripts.{by_end, concluded_by, goes_onward, settles, upshot_records}
use Rattle.nb_machine.specs.States.{with_settings}
use Rattle.nb_chains.specs.declared.chain.Chain.{Chain}
use Rattle.nb_chains.specs.declared.kind.ChainKind.{ChainKind}
use Rattle.nb_wire.specs.declared.text.Text.{Text}
use Rattle.nb_runner.specs.CommandWords.{errand_of, onward_of}
use Rattle.nb_runner.specs.declared.errand.Errand.{Errand as Named}
use Rattle.nb_runner.specs.Intents.{query_of}
use Rattle.nb_runner.specs.declared.query.Query.{Query as Asking}
use Rattle.nb_runner.specs.declared.query.Query.TheVariants as asked
use Rattle.nb_runner.proofs.Puts.{Puts-nothing}
use Rattle.nb_traced.specs.Outputs.{Traced, apart}
use Rattle.nb_traced.specs.Pieces.{event_records}
use Rattle.nb_open.specs.Begins.{waiting_pieces}
use Rattle.nb_network.specs.Many.{IsStateOf, Many}
use Rattle.nb_runner.specs.World.{world_with}
use Rattle.nb_network.specs.declared.over.HasEnded.{HasEnded}
use Rattle.nb_client.specs.Asked.{beside_kind, errand_kind, job_asked, onward_kind, pieces_beside}
use Rattle.nb_client.specs.Concluding.{FindsServer, ReachesAt, SettlesAt, next_found, settled_so}
use Rattle.nb_client.specs.Serving.{ConcludesEnd}
use Rattle.nb_client.specs.Snapshots.{at_reaching, at_running, state_of_world}
use Rattle.nb_client.specs.Soundness.{HasRoomFor, HasRoomIf, HasWaiting, IsBacked, IsSound, snapshot_at}
use Rattle.nb_client.specs.declared.asked.Asked.TheVariants.{Query as Exchange}
use Rattle.nb_client.specs.declared.pending.Expected.TheVariants.{Open}
use Rattle.nb_client.specs.declared.pending.Pending.{Pending}
use Rattle.nb_client.specs.declared.site.Site.{Site}
use Rattle.nb_client.specs.declared.stage.Stage.{Stage}
use Rattle.nb_client.specs.declared.stage.Stage.TheVariants as stage
use Rattle.nb_client.proofs.HookedDrives.{same_hooked}
use Rattle.nb_client.proofs.Served.{state_is}
use Rattle.nb_client.proofs.Settle.{kinds_agree, next_lone, next_same, settles_so}

-- records of the graph alone, and others after them
pub only_graph : (es : List GraphEvent) (outs : List Out) → without_graph (event_records es ++ outs) ≡ without_graph outs
only_graph [] outs = refl
only_graph (e ∷ es) outs = only_graph es outs

module _ (before : Site) (s : Running) (e : HasEnded) (p : Pending) (waits : Option Chain) where
  -- the server's own open is next: of the look-up of its name
  reaches_host : (errand : Named) (name : Text) (by : Ip4) (server : Ip4) (c : Chain) (st : Stage) (old : Logged) →
      p.asked ≡ Exchange (asked.Host errand name by) → p.waits ≡ waits → waits ≡ Some c → FindsServer (Some server) e (query_of (asked.Host errand name by)) →
      ReachesAt s (asked.Host errand name by) server c st → HasWaiting (errand_kind errand) waits None before.opens → HasRoomFor (Exchange (asked.Host errand name by)) before.world.state.drives → IsSound before.used before.world before.opens (stage.Running s) →
      ConcludesEnd p e s before (snapshot_at before st) old old
  reaches_host errand name by server c st old asks same some finds reaches waiting room sound =
      let w = before.world in
      let next = reaches.next in
      let leads_on = onward (errand_of errand) server.0 in
      let next_is : onward_of next.onward ≡ leads_on = reaches.asks (errand_of errand) refl in
      let kind_is : onward_kind next.onward ≡ errand_kind errand = kinds_agree errand next.onward server.0 next_is in
      rw reaches.there (record {
        rest = [];
        puts = Puts-nothing;
        comes = λ live are o is.
            let upshot : concluded_by (state_of_world w live) s.depth (job_asked p.asked) (by_end o) ≡ goes_onward leads_on = rw (asks, next_same (errand_of errand) e o is, host_found errand name by server finds) refl in
            record {
              more = [];
              to = reaching (state_of_world w live) s w.outer leads_on;
              is_put = sym (ap (λ u. upshot_records u ++ []) upshot);
              leads = subst (λ u. LeadsTo (state_of_world w live) s w.outer u [] (reaching (state_of_world w live) s w.outer leads_on)) (sym upshot) (refl, refl);
              stands_so = at_reaching before.used w before.opens s next live leads_on are next_is;
            };
        traces = λ outs h so_far traced fits. record {
          holdings = h;
          traced = subst (λ z. Traced z h so_far) (sym (append-nil outs)) traced;
          fits = record {
            state = fits.state;
            living = fits.living;
            waiting = fits.waiting ∙ waiting_is next.waits reaches.waits kind_is;
            numbered = fits.numbered;
          };
        };
        sound = record { time = sound.time; opens = sound.opens; serials = sound.serials; tied = sound.tied; well = (reaches.fits, subst (λ b. HasRoomIf b w.state.drives) (sym reaches.hooks) room, record { waiting = subst (λ k. HasWaiting k next.waits None before.opens) (sym kind_is) (subst (λ x. HasWaiting (errand_kind errand) x None before.opens) (some ∙ sym reaches.waits) waiting); lone = next_lone errand next.onward next.waits server.0 next_is w }); short = sound.short; named = sound.named; linked = sound.linked; hooked = sound.hooked };
        under_way = tt;
      })
    where
      host_found : (errand : Named) (name : Text) (by server : Ip4) → FindsServer (Some server) e (query_of (asked.Host errand name by)) → next_found (errand_of errand) e ≡ Some (onward (errand_of errand) server.0)
      host_found errand name by server finds = subst (λ z. next_found (errand_of errand) e ≡ Some (onward z server.0)) (sym finds.1) finds.2

      waiting_is : (d : Option Chain) → d ≡ Some c → onward_kind reaches.next.onward ≡ errand_kind errand → pieces_beside (Open p) ≡ waiting_pieces (onward_kind reaches.next.onward) d
      waiting_is d i k = rw (asks, same, some, k, i) refl

  -- the command was settled
  pub settled_goes : (q : Asking) (kind : ChainKind) (after : Site) (st : Stage) (old new : Logged) → p.asked ≡ Exchange q → p.waits ≡ waits → kind ≡ beside_kind (Exchange q) → FindsServer None e (query_of q) →
      SettlesAt s kind waits (settled_so e (query_of q) before.world.state.table) before after st old new → IsSound before.used before.world before.opens (stage.Running s) →
      ConcludesEnd p e s before (snapshot_at after st) old new
  settled_goes q kind after st old new asks same kind_is finds l sound =
      let w = before.world in
      let x = settled_so e (query_of q) w.state.table in
      let lets = l.lets in
      rw l.there (record {
        rest = event_records lets.events ++ (result x.cause ∷ []);
        puts = lets.puts;
        comes = λ live are o is.
            let t = state_of_world w live in
            let upshot : concluded_by t s.depth (job_asked p.asked) (by_end o) ≡ settles x = rw asks (settles_so (query_of q) s.depth e o t is finds) in
            let on = lets.state w.net w.time t (subst (λ m. IsStateOf m w.net w.time t) (sym l.same_opens) (state_is w before.opens live are)) in
            record {
              more = [];
              to = running (with_settings t x.table w.state.up) (with_result s x.cause) w.outer;
              is_put = only_graph lets.events (result x.cause ∷ []) ∙ sym (ap (λ u. upshot_records u ++ []) upshot);
              leads = subst (λ u. LeadsTo t s w.outer u [] (running (with_settings t x.table w.state.up) (with_result s x.cause) w.outer)) (sym upshot) (refl, refl);
              stands_so = rw (l.used, l.same_world, l.world) (at_running before.used (world_with w x.table w.state.up) after.opens (with_result s x.cause) live on.live);
            };
        traces = λ outs h so_far traced fits.
            let u = lets.traces outs h so_far traced (record { state = rw l.same_opens fits.state; living = rw l.same_opens fits.living; waiting = fits.waiting ∙ waiting_is; numbered = fits.numbered }) in
            record {
              holdings = u.after;
              traced = subst (λ z. Traced z u.after so_far) (append_assoc outs (event_records lets.events) (result x.cause ∷ []))
                  (apart (outs ++ event_records lets.events) (result x.cause ∷ []) u.after so_far (subst (λ z. Traced (outs ++ event_records lets.events) u.after z) (append-nil so_far) u.traced) (tt, tt));
              fits = rw (l.same_world, l.world) u.fits;
            };
        sound = rw (l.used, l.same_world, l.world) (record {
          time = sound.time;
          opens = rw l.world at lets.sound;
          serials = rw (lets.serials, l.same_opens) sound.serials;
          tied = rw (lets.same_list, l.same_opens) sound.tied;
          well = tt;
          short = sound.short;
          named = sound.named;
          linked = record { address = refl; up = refl };
          hooked = same_hooked None before.opens after.opens w.state.drives (lets.same_list ∙ ap (λ (m : Many). m.list) l.same_opens)
              (λ live are. (lets.state w.net w.time (state_of_world w live) (subst (λ m. IsStateOf m w.net w.time (state_of_world w live)) (sym l.same_opens) (state_is w before.opens live are))).live) sound.hooked;
        });
        under_way = tt;
      })
    where
      waiting_is : pieces_beside (Open p) ≡ waiting_pieces kind waits
      waiting_is = rw (asks, same, kind_is) refl

  -- the server was found that the command has named
  pub found_goes : (q : Asking) (kind : ChainKind) (server : Ip4) (st : Stage) (old : Logged) → p.asked ≡ Exchange q → p.waits ≡ waits → kind ≡ beside_kind (Exchange q) → FindsServer (Some server) e (query_of q) →
      ((c : Chain) → waits ≡ Some c → ReachesAt s q server c st) → IsBacked (Exchange q) waits → HasWaiting kind waits None before.opens → HasRoomFor (Exchange q) before.world.state.drives → IsSound before.used before.world before.opens (stage.Running s) →
      ConcludesEnd p e s before (snapshot_at before st) old old
  found_goes (asked.Host errand name by) kind server st old asks same kind_is finds reaches backed waiting room sound =
      reaches_host errand name by server backed.0 st old asks same backed.1 finds (reaches backed.0 backed.1) (subst (λ k. HasWaiting k waits None before.opens) kind_is waiting) room sound
  found_goes asked.Lease kind server st old asks same kind_is finds reaches backed waiting room sound = absurd finds.1
  found_goes (asked.Echo host) kind server st old asks same kind_is finds reaches backed waiting room sound = absurd finds.1
  found_goes (asked.Address setting name by) kind server st old asks same kind_is finds reaches backed waiting room sound = absurd finds.1
