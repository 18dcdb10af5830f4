-- What comes of a file that its server has moved: it is asked for at its new place, or its command is over.
use Rattle.std.proofs.Common.{◌≡◌, ℕ, false, List, [], ◌∷◌, ◌++◌, Some, None, Result, Ok, Err, refl, sym, ◌∙◌, ap, subst, append-nil}
use Rattle.nb_terms.specs.declared.cause.Cause.{Cause}
use Rattle.nb_defs.specs.Records.{out_texts, result}
use Rattle.nb_record.specs.Logged.{Logged, Puts}
use Rattle.nb_imagecmd.specs.Moving.{moved_file}
use Rattle.nb_machine.specs.Courses.{LeadsTo, reaching}
use Rattle.nb_machine.specs.Effects.{next_moved}
use Rattle.nb_machine.specs.Errands.{Onward}
use Rattle.nb_machine.specs.Lives.{Live}
use Rattle.nb_machine.specs.Running.{Running, with_result}
use Rattle.nb_machine.specs.Scripts.{Upshot, by_end, concluded_by, goes_onward, upshot_fetched, upshot_moved, upshot_records}
use Rattle.nb_machine.specs.Takings.{Over}
use Rattle.nb_runner.specs.CommandWords.{FitsOnward, onward_hooks, onward_of, wanted_of}
use Rattle.nb_runner.specs.declared.errand.Wanted.{Wanted}
use Rattle.nb_runner.specs.declared.images.Conclusion.TheVariants as concluded
use Rattle.nb_runner.specs.declared.world.World.{World}
use Rattle.nb_runner.proofs.Puts.{Puts-nothing}
use Rattle.nb_traced.specs.Outputs.{Traced}
use Rattle.nb_network.specs.Takes.{IsEndOf}
use Rattle.nb_network.specs.declared.over.HasEnded.{HasEnded}
use Rattle.nb_client.specs.Asked.{job_asked, onward_kind}
use Rattle.nb_client.specs.Concluding.{moved_place}
use Rattle.nb_client.specs.Serving.{ConcludesEnd}
use Rattle.nb_client.specs.Snapshots.{at_reaching, state_of_world}
use Rattle.nb_client.specs.Soundness.{HasRoomIf, IsSound, snapshot_at}
use Rattle.nb_client.specs.declared.asked.Asked.TheVariants.{File}
use Rattle.nb_client.specs.declared.pending.Next.{Next}
use Rattle.nb_client.specs.declared.pending.Pending.{Pending}
use Rattle.nb_client.specs.declared.site.Site.{Site}
use Rattle.nb_client.specs.declared.stage.Stage.TheVariants as stage
use Rattle.nb_client.proofs.Conclude.{led_concludes, place_same}
use Rattle.nb_client.proofs.Nested.{fails_leads}
use Rattle.nb_client.proofs.OpenWaits.{nothing_waits}

module _ (before : Site) (s : Running) (wanted : Wanted) (text : List ℕ) (p : Pending) (e : HasEnded) (asks : p.asked ≡ File wanted) (none : p.waits ≡ None) (moves : moved_place e ≡ Some text) where
  abbrev w : World
  w = before.world

  -- what is asked for next
  abbrev next_place : Result Onward Cause
  next_place = next_moved w.opens w.state.table (moved_file wanted.asking text)

  upshot_is : (live : List Live) (o : Over) → IsEndOf e o → concluded_by (state_of_world w live) s.depth (job_asked p.asked) (by_end o) ≡ upshot_moved next_place
  upshot_is live o is = rw asks (ap (upshot_fetched (state_of_world w live) s.depth (wanted_of wanted) o) (place_same e o is ∙ moves))

  -- nothing is: the command is over
  pub over_concludes : (cause : Cause) (old new : Logged) → next_place ≡ Err cause → IsSound before.used w before.opens (stage.Running s) → Puts old new (out_texts (result cause ∷ [])) →
      ConcludesEnd p e s before (snapshot_at before (stage.Running (with_result s cause))) old new
  over_concludes cause old new fails sound puts =
      led_concludes before s wanted p e w.state.images asks none (concluded.Fails cause) _ old new (λ live o is. upshot_is live o is ∙ ap upshot_moved fails) refl
      (fails_leads before s sound cause before refl refl refl puts)

  -- it is asked for, which nothing has waited for
  pub next_concludes : (next : Next) (log : Logged) → next_place ≡ Ok (onward_of next.onward) → next.waits ≡ None → FitsOnward next.onward → onward_hooks next.onward ≡ false → IsSound before.used w before.opens (stage.Running s) →
      ConcludesEnd p e s before (snapshot_at before (stage.Reaching s next)) log log
  next_concludes next log follows alone fits hooks sound =
      let leads_on = onward_of next.onward in
      record {
        rest = [];
        puts = Puts-nothing;
        comes = λ live are o is.
            let t = state_of_world w live in
            let to = reaching t s w.outer leads_on in
            let upshot : concluded_by t s.depth (job_asked p.asked) (by_end o) ≡ goes_onward leads_on = upshot_is live o is ∙ ap upshot_moved follows in
            record {
              more = [];
              to = to;
              is_put = sym (ap (λ (u : Upshot). upshot_records u ++ []) upshot);
              leads = subst (λ (u : Upshot). LeadsTo t s w.outer u [] to) (sym upshot) (refl, refl);
              stands_so = at_reaching before.used w before.opens s next live leads_on are refl;
            };
        traces = λ outs h so_far traced fits_so. record {
          holdings = h;
          traced = subst (λ z. Traced z h so_far) (sym (append-nil outs)) traced;
          fits = record { state = fits_so.state; living = fits_so.living; waiting = rw alone (rw none at fits_so.waiting); numbered = fits_so.numbered };
        };
        sound = record {
          time = sound.time;
          opens = sound.opens;
          serials = sound.serials;
          tied = sound.tied;
          well = (fits, subst (λ b. HasRoomIf b w.state.drives) (sym hooks) tt, record { waiting = rw alone (nothing_waits (onward_kind next.onward) None before.opens); lone = λ c backed. alone });
          short = sound.short;
          named = sound.named;
          linked = sound.linked;
          hooked = sound.hooked;
        };
        under_way = tt;
      }
