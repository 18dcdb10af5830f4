-- The open that is next makes a move, or no more may be made.
use Rattle.std.proofs.Common.{◌≡◌, ℕ, ◌+◌, ◌*◌, ◌<◌, ◌≤◌, List, [], ◌∷◌, ◌++◌, None, refl, sym, ◌∙◌, ap, subst, append-nil, append_assoc, arith}
use Rattle.std.specs.List.{AllByRecursion}
use Rattle.nb_terms.specs.declared.cause.Cause.{Cause}
use Rattle.nb_defs.specs.Records.{Out, result}
use Rattle.nb_machine.specs.Courses.{opens_onward, finds_no_way, opens_no_more, reaching, running, stands, waiting}
use Rattle.nb_machine.specs.Effects.{full_opens}
use Rattle.nb_machine.specs.Errands.{Onward as Next-onward}
use Rattle.nb_machine.specs.Lives.{Live}
use Rattle.nb_machine.specs.Scripts.{Awaited, awaited_onward, job_onward, live_onward}
use Rattle.nb_machine.specs.Running.{Running, with_result}
use Rattle.nb_network.specs.Many.{IsUntied}
use Rattle.nb_traced.specs.Plain.{without_graph}
use Rattle.nb_traced.proofs.Plain.{plain_behind}
use Rattle.nb_record.specs.Logged.{Logged}
use Rattle.nb_runner.specs.CommandWords.{onward_of}
use Rattle.nb_runner.specs.Steps.{moves_in, moves_outside}
use Rattle.nb_runner.specs.declared.errand.Onward.{Onward}
use Rattle.nb_runner.specs.declared.errand.Onward.TheVariants as onward
use Rattle.nb_runner.specs.declared.world.World.{World}
use Rattle.nb_traced.specs.Outputs.{Traced, apart}
use Rattle.nb_traced.specs.Pieces.{event_records}
use Rattle.nb_client.specs.Asked.{asked_onward, awaited_asked, job_asked, live_asked}
use Rattle.nb_client.specs.Openings.{IsOpenedIn, OpensNext, opens_it, opens_none, sets_out, turns_back}
use Rattle.nb_client.specs.Progressing.{LeadsToSnapshot, TracesTo, most_moves}
use Rattle.nb_client.specs.Snapshots.{Snapshot, at_running, snapshot, state_of_world}
use Rattle.nb_client.specs.Soundness.{IsSound}
use Rattle.nb_client.specs.Turning.{MovesOn}
use Rattle.nb_client.specs.declared.pending.Next.{Next}
use Rattle.nb_client.specs.declared.site.Site.{Site}
use Rattle.nb_client.specs.declared.stage.Stage.TheVariants as stage
use Rattle.nb_client.proofs.HookedDrives.{same_hooked}
use Rattle.nb_client.proofs.Moves.{one_move}
use Rattle.nb_client.proofs.Standing.{stands_at}

-- what is opened next is the machine's, and so is what is done with what comes of it
live_same : (w : World) (live : List Live) (x : Onward) → live_asked (state_of_world w live) (asked_onward w x) ≡ live_onward (state_of_world w live) (onward_of x)
live_same w live (onward.File wanted) = refl
live_same w live (onward.Echo server) = refl
live_same w live (onward.Disk hooking server) = refl
live_same w live (onward.Name errand name by) = refl

job_same : (w : World) (x : Onward) → job_asked (asked_onward w x) ≡ job_onward (onward_of x)
job_same w (onward.File wanted) = refl
job_same w (onward.Echo server) = refl
job_same w (onward.Disk hooking server) = refl
job_same w (onward.Name errand name by) = refl

awaited_same : (w : World) (live : List Live) (x : Onward) → awaited_asked (asked_onward w x) w.opens ≡ awaited_onward (onward_of x) (live_onward (state_of_world w live) (onward_of x)).number
awaited_same w live (onward.File wanted) = refl
awaited_same w live (onward.Echo server) = refl
awaited_same w live (onward.Disk hooking server) = refl
awaited_same w live (onward.Name errand name by) = refl

leads_opened : (n : ℕ) (w : World) (live : List Live) (s : Running) (next : Next-onward) (put : List Out) (after : Snapshot) → w.opens < 16384 →
    IsOpenedIn (state_of_world w live) (live_onward (state_of_world w live) next) (awaited_onward next (live_onward (state_of_world w live) next).number) (job_onward next) s w.outer n put after →
    LeadsToSnapshot [] (stands n (reaching (state_of_world w live) s w.outer next)) put after
leads_opened n w live s next put after few (sets_out link more to dev first stood) = record {
  progress = stands n (waiting _ _);
  steps = one_move _ _ _ (opens_onward n (state_of_world w live) s w.outer next link more few dev first);
  stands = stood;
}
leads_opened n w live s next put after few (turns_back link to dev first stood) = record {
  progress = stands n (running _ _ w.outer);
  steps = one_move _ _ _ (finds_no_way n (state_of_world w live) s w.outer next link few dev first);
  stands = stood;
}

leads_next : (n : ℕ) (w : World) (live : List Live) (s : Running) (x : Onward) (put : List Out) (after : Snapshot) → w.opens < 16384 →
    IsOpenedIn (state_of_world w live) (live_asked (state_of_world w live) (asked_onward w x)) (awaited_asked (asked_onward w x) w.opens) (job_asked (asked_onward w x)) s w.outer n put after →
    LeadsToSnapshot [] (stands n (reaching (state_of_world w live) s w.outer (onward_of x))) put after
leads_next n w live s x put after few o =
    let t = state_of_world w live in
    let a = asked_onward w x in
    let for_job : IsOpenedIn t (live_asked t a) (awaited_asked a w.opens) (job_onward (onward_of x)) s w.outer n put after = subst (λ j. IsOpenedIn t (live_asked t a) (awaited_asked a w.opens) j s w.outer n put after) (job_same w x) o in
    let for_open : IsOpenedIn t (live_onward t (onward_of x)) (awaited_asked a w.opens) (job_onward (onward_of x)) s w.outer n put after = subst (λ l. IsOpenedIn t l (awaited_asked a w.opens) (job_onward (onward_of x)) s w.outer n put after) (live_same w live x) for_job in
    leads_opened n w live s (onward_of x) put after few
    (subst (λ (k : Awaited). IsOpenedIn t (live_onward t (onward_of x)) k (job_onward (onward_of x)) s w.outer n put after) (awaited_same w live x) for_open)

with_result_near : (s : Running) (cause : Cause) → moves_in (with_result s cause) < moves_in s + 1
with_result_near s cause = omega arith

pub next_goes : {old new : Logged} (s : Running) (k : Next) (before : Site) (after : Snapshot) → IsSound before.used before.world before.opens (stage.Reaching s k) →
    OpensNext s k before after old new → MovesOn (snapshot before.used before.world before.opens (stage.Reaching s k)) after old new
next_goes {old} {new} s k before after sound (opens_it few o) = record {
  goes = record {
    advances = λ p is_for.
        let at = stands_at (snapshot before.used before.world before.opens (stage.Reaching s k)) p is_for in
        record {
          added = o.rest;
          came = [];
          puts = o.puts;
          leads = subst (λ y. LeadsToSnapshot [] y (without_graph o.rest) after) (sym at.2)
              (leads_next before.used before.world at.0 s k.onward (without_graph o.rest) after few (o.opens at.0 at.1));
          begins = refl;
          traces = λ outs h so_far t fits. subst (λ y. TracesTo after (outs ++ o.rest) y) (sym (append-nil so_far)) (o.traces outs h so_far t fits);
        };
    sound = o.sound;
    under_way = o.under_way;
  };
  nearer = λ at_work.
      let same = o.same_script at_work in
      let less : moves_in (with_result s same.0) + moves_outside after.world.outer < moves_in s + moves_outside before.world.outer + 1 =
      rw same.2 (omega (arith, with_result_near s same.0)) in
      subst (λ st. most_moves st after < moves_in s + moves_outside before.world.outer + 1) (sym same.1) less;
}
next_goes {old} {new} s k before after sound (opens_none now full used world is lets) =
    let s' = with_result s full_opens in
    let w = before.world in
    let then_at = snapshot before.used w now.opens (stage.Running s') in
    let same : after ≡ then_at = is ∙ (ap (λ n. snapshot n now.world now.opens (stage.Running s')) used ∙ ap (λ v. snapshot before.used v now.opens (stage.Running s')) world) in
    let freed = event_records lets.events in
    let records = freed ++ (result full_opens ∷ []) in
    let plain : without_graph records ≡ result full_opens ∷ [] = plain_behind lets.events (result full_opens ∷ []) in
    subst (λ y. MovesOn (snapshot before.used w before.opens (stage.Reaching s k)) y old new) (sym same) (record {
      goes = record {
        advances = λ p is_for.
            let at = stands_at (snapshot before.used w before.opens (stage.Reaching s k)) p is_for in
            let live = at.0 in
            record {
              added = records;
              came = [];
              puts = lets.puts;
              leads = subst (λ y. LeadsToSnapshot [] y (without_graph records) then_at) (sym at.2)
                  (subst (λ xs. LeadsToSnapshot [] (stands before.used (reaching (state_of_world w live) s w.outer (onward_of k.onward))) xs then_at) (sym plain) (record {
                    progress = stands before.used (running (state_of_world w live) s' w.outer);
                    steps = one_move _ _ _ (opens_no_more before.used (state_of_world w live) s w.outer (onward_of k.onward) full);
                    stands = at_running before.used w now.opens s' live (lets.state w.net w.time (state_of_world w live) (record { devices = refl; time = refl; live = at.1 })).live;
                  }));
              begins = refl;
              traces = λ outs h so_far t fits.
                  let on = lets.traces outs h so_far t fits in
                  record {
                    holdings = on.after;
                    traced = subst (λ xs. Traced xs on.after (so_far ++ [])) (append_assoc outs freed (result full_opens ∷ [])) (apart (outs ++ freed) (result full_opens ∷ []) on.after (so_far ++ []) on.traced (tt, tt));
                    fits = on.fits;
                  };
            };
        sound = record {
          time = sound.time;
          opens = lets.sound;
          serials = subst (λ x. x ≤ 4 * w.opens) (sym lets.serials) sound.serials;
          tied = subst (AllByRecursion IsUntied) (sym lets.same_list) sound.tied;
          well = tt;
          short = sound.short;
          named = sound.named;
          linked = sound.linked;
          hooked = same_hooked None before.opens now.opens w.state.drives lets.same_list (λ live are. (lets.state w.net w.time (state_of_world w live) (record { devices = refl; time = refl; live = are })).live) sound.hooked;
        };
        under_way = tt;
      };
      nearer = λ x. omega (arith, with_result_near s full_opens);
    })
