-- START is used: the first script is entered, or left at once.
use Rattle.std.proofs.Common.{◌≡◌, ◌+◌, ◌≤◌, List, [], ◌∷◌, refl, sym, ◌∙◌, ap, subst, arith, None}
use Rattle.std.specs.List.{AllByRecursion}
use Rattle.std.proofs.lemmas.List.Elements.{All-nil}
use Rattle.nb_imagecmd.specs.Promises.{IsShortName}
use Rattle.nb_defs.specs.Records.{IsStart, Out, Start, out_texts, start, step}
use Rattle.nb_record.specs.Logged.{Logged, Puts}
use Rattle.nb_traced.specs.Plain.{without_graph}
use Rattle.nb_runner.specs.World.{world_of}
use Rattle.nb_machine.specs.Courses.{Standing, ready, stands, StepBegins}
use Rattle.nb_machine.specs.Running.{first_script}
use Rattle.nb_traced.specs.Pieces.{IsApart}
use Rattle.nb_network.specs.Many.{AreOpensOf}
use Rattle.nb_network.proofs.Sound.{sound_none}
use Rattle.nb_client.specs.Progressing.{AdvancesFrom}
use Rattle.nb_client.specs.Snapshots.{StandsForProgress, snapshot}
use Rattle.nb_client.specs.Soundness.{IsSound, snapshot_at}
use Rattle.nb_client.specs.Turning.{GoesOnBy}
use Rattle.nb_client.specs.declared.site.Site.{Site}
use Rattle.nb_client.specs.declared.stage.Stage.{Stage}
use Rattle.nb_client.specs.declared.stage.Stage.TheVariants as stage
use Rattle.nb_client.proofs.HookedDrives.{none_hooked}
use Rattle.nb_client.proofs.Moves.{IsQuiet, none_waits, quiet_sound, quiet_under_way}
use Rattle.nb_client.proofs.Standing.{stands_at}
use Rattle.nb_client.proofs.Traces.{plain_apart, trace_apart}

-- the step of START, which leads here
pub start_goes : {old new : Logged} (s : Start) (before after : Site) (st : Stage) (rest : List Out) (to : Standing) → IsStart s → IsSound before.used before.world before.opens stage.Ready →
    after.used ≡ before.used + 1 → after.world ≡ world_of s → after.opens ≡ before.opens → IsQuiet st → AllByRecursion IsApart rest → Puts old new (out_texts (step (before.used + 1) ∷ rest)) →
    StepBegins (stands before.used ready) (start s) (step (before.used + 1) ∷ rest) (stands (before.used + 1) to) →
    (AreOpensOf before.opens.graph before.opens.list [] → StandsForProgress (snapshot (before.used + 1) (world_of s) before.opens st) (stands (before.used + 1) to)) →
    GoesOnBy (start s ∷ []) (snapshot_at before stage.Ready) (snapshot_at after st) old new
start_goes {old} {new} s before after st rest to valid sound used world opens quiet apart puts begins stands_so =
    let m = before.opens in
    let n = before.used + 1 in
    let none = sound.well.0 in
    let end = snapshot n (world_of s) m st in
    let serials_none : m.graph.book.made ≤ 0 = omega (arith, sound.serials, sound.well.1) in
    let running_sound : IsSound n (world_of s) m (stage.Running (first_script [])) = record {
      time = omega arith;
      opens = sound_none (world_of s).w (world_of s).net m (omega (arith, valid.w_fits)) refl none sound.opens.room;
      serials = omega (arith, serials_none);
      tied = sound.tied;
      well = tt;
      short = tt;
      named = All-nil IsShortName;
      linked = record { address = refl; up = refl };
      hooked = none_hooked None m [] none refl;
    } in
    let plain : without_graph (step n ∷ rest) ≡ step n ∷ rest = plain_apart (step n ∷ rest) (tt, apart) in
    let goes : GoesOnBy (start s ∷ []) (snapshot_at before stage.Ready) end old new = record {
      advances = λ p is_for.
          let here : AdvancesFrom (start s ∷ []) (stands before.used ready) (snapshot_at before stage.Ready) end old new = record {
            added = step n ∷ rest;
            came = [];
            puts = puts;
            leads = record {
              progress = stands n to;
              steps = subst (λ x. StepBegins (stands before.used ready) (start s) x (stands n to)) (sym plain) begins;
              stands = stands_so (subst (λ xs. AreOpensOf m.graph xs []) (sym none) tt);
            };
            begins = (rest, refl, plain_apart rest apart, refl);
            traces = λ outs h so_far t fits. record {
              holdings = h;
              traced = trace_apart outs (step n ∷ rest) h so_far t (tt, apart);
              fits = record {
                state = fits.state;
                living = fits.living;
                waiting = fits.waiting ∙ sym (none_waits st quiet);
                numbered = subst (λ k. h.begun ≤ k) sound.well.1 fits.numbered;
              };
            };
          } in
          subst (λ x. AdvancesFrom (start s ∷ []) x (snapshot_at before stage.Ready) end old new) (sym (stands_at (snapshot_at before stage.Ready) p is_for)) here;
      sound = quiet_sound st quiet running_sound;
      under_way = quiet_under_way st quiet;
    } in
    let end_is : end ≡ snapshot_at after st = ap (λ u. snapshot u (world_of s) m st) (sym used) ∙ (ap (λ w. snapshot after.used w m st) (sym world) ∙ ap (λ x. snapshot after.used after.world x st) (sym opens)) in
    subst (λ x. GoesOnBy (start s ∷ []) (snapshot_at before stage.Ready) x old new) end_is goes
