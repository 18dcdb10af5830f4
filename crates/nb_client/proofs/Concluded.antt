-- A command on images that waits for nothing makes a move.
use Rattle.std.proofs.Common.{◌≡◌, ℕ, ◌+◌, ◌-◌, ◌*◌, ◌<◌, ◌≤◌, true, List, [], ◌∷◌, ◌++◌, refl, sym, ◌∙◌, ap, subst, arith, append-nil, append_assoc, length-drop}
use Rattle.nb_defs.specs.Records.{out_texts}
use Rattle.nb_record.specs.Logged.{Logged, Puts}
use Rattle.nb_traced.specs.Plain.{without_graph}
use Rattle.nb_image.specs.Images.{ImageList}
use Rattle.nb_machine.specs.CommandRecords.{command_record}
use Rattle.nb_machine.specs.Conclusions.{conclusion_records}
use Rattle.nb_machine.specs.Courses.{ConclusionLeads, Proceeds, concludes_there, running, stands}
use Rattle.nb_machine.specs.Effects.{concludes_at_once, shown_as}
use Rattle.nb_machine.specs.Running.{Running, entered}
use Rattle.nb_network.specs.Many.{FitsHoldings, Many}
use Rattle.nb_runner.specs.ImageDeeds.{IsConcludedWell, IsDeedWell, MayFollow, conclusion_of}
use Rattle.nb_runner.specs.Intents.{IsAskable}
use Rattle.nb_runner.specs.declared.images.ImageDeed.{ImageDeed}
use Rattle.nb_runner.specs.declared.images.ImageDeed.TheVariants.{Intends, Concludes}
use Rattle.nb_runner.specs.declared.intent.Intent.{Intent}
use Rattle.nb_runner.specs.Steps.{moves_between, moves_in, moves_outside}
use Rattle.nb_runner.specs.World.{world_with_images}
use Rattle.nb_runner.specs.declared.images.Conclusion.{Conclusion}
use Rattle.nb_runner.specs.declared.images.Conclusion.TheVariants as concluded
use Rattle.nb_runner.specs.declared.world.World.{World}
use Rattle.nb_traced.specs.Outputs.{Traced, commands}
use Rattle.nb_client.specs.Leading.{ConcludesNow, LeadsOnBy}
use Rattle.nb_client.specs.Progressing.{ProceedsTo, TracesTo}
use Rattle.nb_client.specs.Snapshots.{Snapshot, snapshot, state_of_world}
use Rattle.nb_client.specs.Soundness.{IsSound}
use Rattle.nb_client.specs.Turning.{MovesOn}
use Rattle.nb_client.specs.declared.site.Site.{Site}
use Rattle.nb_client.specs.declared.stage.Stage.TheVariants as stage
use Rattle.nb_client.proofs.Conclude.{leads_before}
use Rattle.nb_client.proofs.Moves.{effect_doing, one_move}
use Rattle.nb_client.proofs.Standing.{stands_at}

-- the images that a conclusion leaves have short texts
pub follows : (c : Conclusion) (depth : ℕ) (before after : ImageList) → MayFollow before → IsConcludedWell c depth before after → MayFollow after
follows concluded.Keeps depth before after may well = well
follows (concluded.Tells lines) depth before after may well = well.0
follows (concluded.Fails cause) depth before after may well = subst MayFollow (sym well) may
follows (concluded.Boots kernel) depth before after may well = well.0
follows (concluded.Runs script replace) depth before after may well = well.0

-- the client stays sound with other images
pub images_sound : (n : ℕ) (w : World) (m : Many) (s : Running) (images : ImageList) → MayFollow images → IsSound n w m (stage.Running s) → IsSound n (world_with_images w images) m (stage.Running s)
images_sound n w m s images may x =
    record { time = x.time; opens = x.opens; serials = x.serials; tied = x.tied; well = tt; short = may.short; named = may.named; linked = record { address = x.linked.address; up = x.linked.up }; hooked = x.hooked }

-- a command that has begun leaves so many moves fewer
pub entered_near : (s : Running) → s.begun < 4096 → moves_in (entered s) + moves_between ≤ moves_in s
entered_near s early =
    let one : 4096 - s.begun ≡ (4096 - (s.begun + 1)) + 1 = omega (arith, early) in
    let less : (4096 - s.begun) * moves_between ≡ (4096 - (s.begun + 1)) * moves_between + moves_between = ap (λ k. k * moves_between) one ∙ omega arith in
    omega (arith, less, length-drop 1 s.rest)

pub concludes_goes : {old new from to : Logged} (w : World) (c : Conclusion) (s : Running) (ws : List (List ℕ)) (before : Site) (after : Snapshot) → s.begun < 4096 → ConcludesNow w c s ws before.world →
    (l : LeadsOnBy (entered s) c before after from to) → Puts old new (out_texts (command_record s (shown_as true ws) ∷ l.rest)) → MovesOn (snapshot before.used w before.opens (stage.Running s)) after old new
concludes_goes {old} {new} {from} {to} w c s ws before after early x l puts =
    let now = before.world in
    let list = now.state.images in
    let n = before.used in
    let front = command_record s (shown_as true ws) ∷ [] in
    let same_opens : w.opens ≡ now.opens = sym (ap (λ (v : World). v.opens) x.world_is) in
    let same_outer : now.outer ≡ w.outer = ap (λ (v : World). v.outer) x.world_is in
    record {
      goes = record {
        advances = λ p is_for.
            let at = stands_at (snapshot n w before.opens (stage.Running s)) p is_for in
            let live = at.0 in
            let there = l.comes live at.1 in
            let start = stands n (running (state_of_world w live) s w.outer) in
            let leads : ConclusionLeads (state_of_world w live) (entered s) w.outer (conclusion_of c list) there.more there.to =
            leads_before (state_of_world w live) list s.depth (entered s) w.outer c there.more there.to x.well
            (subst (λ (v : World). ConclusionLeads (state_of_world v live) (entered s) v.outer (conclusion_of c list) there.more there.to) x.world_is there.leads) in
            let move : Proceeds start (command_record s (shown_as true ws) ∷ (conclusion_records (conclusion_of c list) ++ there.more)) (stands n there.to) =
            subst (λ t. Proceeds start (command_record s t ∷ (conclusion_records (conclusion_of c list) ++ there.more)) (stands n there.to)) x.shows
            (concludes_there n (state_of_world w live) s w.outer x.name x.args (conclusion_of c list) there.more there.to x.comes early (effect_doing w s live (x.name ∷ x.args) (concludes_at_once (conclusion_of c list)) x.concludes_so) leads) in
            record {
              added = front ++ l.rest;
              came = [];
              puts = puts;
              leads = record {
                progress = stands n there.to;
                steps = subst (λ y. ProceedsTo y (command_record s (shown_as true ws) ∷ without_graph l.rest) (stands n there.to)) (sym at.2)
                    (one_move start (stands n there.to) (command_record s (shown_as true ws) ∷ without_graph l.rest)
                    (subst (λ y. Proceeds start (command_record s (shown_as true ws) ∷ y) (stands n there.to)) (sym there.is_put) move));
                stands = there.stands_so;
              };
              begins = refl;
              traces = λ outs h so_far t fits.
                  let begun : Traced (outs ++ front) h so_far = commands outs s.depth s.passed s.place true ws h so_far t fits.waiting in
                  let on = l.traces (outs ++ front) h so_far begun (subst (λ k. FitsHoldings before.opens k [] h) same_opens fits) in
                  subst (λ y. TracesTo after (outs ++ (front ++ l.rest)) y) (sym (append-nil so_far)) (subst (λ xs. TracesTo after xs so_far) (append_assoc outs front l.rest) on);
            };
        sound = l.sound;
        under_way = l.under_way;
      };
      nearer = λ at_work. let less = l.nearer at_work in let outside : moves_outside now.outer ≡ moves_outside w.outer = ap moves_outside same_outer in omega (arith, less, outside, entered_near s early);
    }

-- what is known of a deed that asks for its file or is refused, and of one that waits for nothing
pub deed_intends : (d : ImageDeed) (i : Intent) (depth opens : ℕ) (before after : ImageList) → d ≡ Intends i → IsDeedWell d depth opens before after → IsAskable opens i × (after ≡ before)
deed_intends d i depth opens before after is h = subst (λ (x : ImageDeed). IsDeedWell x depth opens before after) is h

pub deed_concludes : (d : ImageDeed) (c : Conclusion) (depth opens : ℕ) (before after : ImageList) → d ≡ Concludes c → IsDeedWell d depth opens before after → IsConcludedWell c depth before after
deed_concludes d c depth opens before after is h = subst (λ (x : ImageDeed). IsDeedWell x depth opens before after) is h
