-- A run that is ended, or whose power is switched off: all that lives is closed.
use Rattle.std.proofs.Common.{map, ◌≡◌, ℕ, ◌+◌, ◌≤◌, List, [], ◌∷◌, ◌++◌, Result, Ok, Err, OnOk, refl, sym, ◌∙◌, ap, subst, append-nil, append_assoc, arith, None}
use Rattle.nb_terms.specs.declared.cause.Cause.{Cause}
use Rattle.nb_defs.specs.Records.{off, Out, out_texts, step, done}
use Rattle.nb_record.specs.Logged.{Logged, Puts}
use Rattle.nb_traced.specs.Plain.{without_graph}
use Rattle.nb_machine.specs.Courses.{Progress, stands, stopped, StepBegins, switches_off, goes_off}
use Rattle.nb_machine.specs.Lives.{Live}
use Rattle.nb_machine.specs.States.{State, with_live}
use Rattle.nb_runner.specs.declared.world.World.{World}
use Rattle.nb_traced.specs.Holdings.{GraphObject}
use Rattle.nb_traced.specs.Outputs.{Traced}
use Rattle.nb_network.specs.Many.{FitsHoldings, kin_of}
use Rattle.nb_client.specs.Closings.{ClosesBy, ShutsAll}
use Rattle.nb_client.specs.Progressing.{AwaitsRecord, FinishesBy}
use Rattle.nb_client.specs.Snapshots.{Snapshot, StandsForProgress, at_stopped, at_waiting, at_yielded, pieces_waiting, snapshot, state_of_world, waiting_for}
use Rattle.nb_client.specs.Soundness.{IsSound}
use Rattle.nb_client.specs.Turning.{GoesOnBy}
use Rattle.nb_client.specs.declared.site.Site.{Site}
use Rattle.nb_client.specs.declared.stage.Stage.{Stage}
use Rattle.nb_client.specs.declared.stage.Stage.TheVariants as stage
use Rattle.nb_client.proofs.CloseStanding.{ShutsMany, shuts_at, shuts_first}
use Rattle.nb_client.proofs.HookedDrives.{none_hooked}
use Rattle.nb_client.proofs.Served.{state_is}
use Rattle.nb_client.proofs.Traces.{trace_apart}

-- the client is sound where nothing lives
pub closed_sound : {order : List Live → List Live} {cause : Cause} {first : List GraphObject} {front : List Out} {before after : Site} {old new : Logged} {used : ℕ} (n : ℕ) (at : Stage) → IsSound used before.world before.opens at → ClosesBy order cause first front before after old new →
    used ≤ n → IsSound n after.world after.opens stage.Stopped
closed_sound {order} {cause} {first} {front} {before} {after} {old} {new} {used} n at sound k more = record {
  time = let same : after.world.time ≡ before.world.time = ap (λ (w : World). w.time) k.world in omega (arith, same, sound.time, more);
  opens = rw (ap (λ (w : World). w.w) k.world, ap (λ (w : World). w.opens) k.world) k.sound;
  serials = let same : after.world.opens ≡ before.world.opens = ap (λ (w : World). w.opens) k.world in omega (arith, same, sound.serials, k.serials);
  tied = rw k.none tt;
  well = k.none;
  short = rw k.world sound.short;
  named = rw k.world sound.named;
  linked = rw k.world (record { address = sound.linked.address; up = sound.linked.up });
  hooked = none_hooked None after.opens after.world.state.drives k.none (ap (λ (w : World). w.state.drives) k.world);
}

pub shuts_many : {first : List GraphObject} {front : List Out} {before after : Site} {old new : Logged} (k : ShutsAll first front before after old new) → ShutsMany before.world before.opens k.records
shuts_many k = record { closes = k.closes; closes_first = k.closes_first }

-- a run ends, and its number is put
pub end_finishes : {first : List GraphObject} {before after : Site} {l0 l1 old new : Logged} (used number : ℕ) (at : Stage) → IsSound used before.world before.opens at → first ≡ pieces_waiting at →
    (k : ShutsAll first [] before after l0 l1) → Puts old new (out_texts (k.records ++ (done number ∷ []))) → FinishesBy number (snapshot used before.world before.opens at) old new
end_finishes {first} {before} {after} {l0} {l1} {old} {new} used number at sound waits k puts = record {
  closing = k.records;
  puts = puts;
  shuts = λ p is_for. shuts_at (snapshot used before.world before.opens at) p k.records is_for sound.well (shuts_many k);
  first = λ p is_for. shuts_first (snapshot used before.world before.opens at) p k.records is_for (shuts_many k);
  traces = λ outs h so_far tr fits.
      let t = k.traces outs h so_far tr (subst (λ x. FitsHoldings before.opens before.world.opens x h) (sym waits) fits) in
      record {
        holdings = t.after;
        traced = subst (λ x. Traced (outs ++ k.records) t.after x) (append-nil so_far) t.traced;
        none_live = t.fits.living ∙ ap (map kin_of) k.none;
        none_wait = t.fits.waiting;
      };
}

-- the step of OFF, wherever a record is waited for
pub record GoesOff (c : Snapshot) (p : Progress) (put : List Out) : Type 0 where
  pub state : State
  pub begins : StepBegins p off (step (p.used + 1) ∷ put) (stands (p.used + 1) (stopped (with_live state [])))
  pub same_used : p.used ≡ c.used

goes_off_at : (c : Snapshot) (p : Progress) (closing : List Out) → StandsForProgress c p → AwaitsRecord c.stage → ShutsMany c.world c.many closing → GoesOff c p (without_graph closing)
goes_off_at c p closing (at_waiting n w m s e live are) awaits k =
    let all = k.closes (state_of_world w live) (state_is w m live are) in
    record { state = state_of_world w live; begins = switches_off n (state_of_world w live) (waiting_for w s e) (without_graph closing) all.0 all.1; same_used = refl }
goes_off_at c p closing (at_yielded n w m s live are) awaits k =
    let all = k.closes (state_of_world w live) (state_is w m live are) in
    record { state = state_of_world w live; begins = goes_off n (state_of_world w live) s w.outer (without_graph closing) all.0 all.1; same_used = refl }
goes_off_at c p closing _ awaits k = absurd awaits

pub off_goes : {first : List GraphObject} {before after : Site} {l0 l1 old new : Logged} (used n : ℕ) (at : Stage) → IsSound used before.world before.opens at → AwaitsRecord at → first ≡ pieces_waiting at → n ≡ used + 1 →
    (k : ShutsAll first [] before after l0 l1) → Puts old new (out_texts (step n ∷ k.records)) → GoesOnBy (off ∷ []) (snapshot used before.world before.opens at) (snapshot n after.world after.opens stage.Stopped) old new
off_goes {first} {before} {after} {l0} {l1} {old} {new} used n at sound awaits waits next k puts =
    let c = snapshot used before.world before.opens at in
    let to = snapshot n after.world after.opens stage.Stopped in
    record {
      advances = λ p is_for.
          let g = goes_off_at c p k.records is_for awaits (shuts_many k) in
          let same : p.used + 1 ≡ n = ap (λ x. x + 1) g.same_used ∙ sym next in
          record {
            added = step n ∷ k.records;
            came = [];
            puts = puts;
            leads = record {
              progress = stands n (stopped (with_live g.state []));
              steps = subst (λ x. StepBegins p off (step x ∷ without_graph k.records) (stands x (stopped (with_live g.state [])))) same g.begins;
              stands = at_stopped n after.world after.opens (with_live g.state []) refl k.none;
            };
            begins = (k.records, ap (λ x. step x ∷ k.records) (sym same), shuts_first c p k.records is_for (shuts_many k), refl);
            traces = λ outs h so_far tr fits.
                let stepped = trace_apart outs (step n ∷ []) h so_far tr (tt, tt) in
                let t = k.traces (outs ++ (step n ∷ [])) h (so_far ++ []) stepped (subst (λ x. FitsHoldings before.opens before.world.opens x h) (sym waits) fits) in
                record {
                  holdings = t.after;
                  traced = subst (λ x. Traced x t.after (so_far ++ [])) (append_assoc outs (step n ∷ []) k.records) (subst (λ x. Traced ((outs ++ (step n ∷ [])) ++ k.records) t.after x) (append-nil (so_far ++ [])) t.traced);
                  fits = record {
                    state = t.fits.state;
                    living = t.fits.living;
                    waiting = t.fits.waiting;
                    numbered = subst (λ x. t.after.begun ≤ x) (sym (ap (λ (w : World). w.opens) k.world)) t.fits.numbered;
                  };
                };
          };
      sound = closed_sound n at sound k (omega (arith, next));
      under_way = tt;
    }

-- what two facts of a call that succeeds lead to
pub on_ok_both : {A E B C D : Type 0} (r : Result A E) → (B → C → D) → OnOk r B → OnOk r C → OnOk r D
on_ok_both (Ok x) f b c = f b c
on_ok_both (Err e) f b c = tt
