-- What comes of a file whose open has ended.
use Rattle.std.proofs.Common.{◌≡◌, ℕ, ◌<◌, ◌≤◌, Bool, true, false, List, [], ◌∷◌, ◌++◌, length, Option, None, refl, sym, ◌∙◌, ap, subst, arith, append-nil, append_assoc}
use Rattle.std.specs.Prelude.{unwrap_or, Result, Ok, Err, IfOk, OnOk}
use Rattle.nb_terms.specs.declared.cause.Cause.{Cause}
use Rattle.nb_defs.specs.Causes.{is_ok_cause, ok}
use Rattle.nb_defs.specs.Records.{Out, result}
use Rattle.nb_record.specs.Logged.{Logged}
use Rattle.nb_traced.specs.Plain.{without_graph}
use Rattle.nb_image.specs.Images.{ImageList}
use Rattle.nb_drivecmd.specs.declared.drive.Drive.{Drive}
use Rattle.nb_imagecmd.specs.declared.asking.Asking.{Asking}
use Rattle.nb_machine.specs.BootTables.{boot_table}
use Rattle.nb_machine.specs.Conclusions.{conclusion, handoff_records}
use Rattle.nb_machine.specs.Courses.{ConclusionLeads, LeadsTo, Standing, handing}
use Rattle.nb_machine.specs.Kinds.{fetched}
use Rattle.nb_machine.specs.Lives.{Live}
use Rattle.nb_machine.specs.Running.{Running}
use Rattle.nb_machine.specs.Scripts.{Upshot, by_end, concluded_by, concludes, place_moved_to, upshot_fetched, upshot_records}
use Rattle.nb_machine.specs.States.{State, with_images, with_live}
use Rattle.nb_machine.specs.Takings.{Over}
use Rattle.nb_runner.specs.CommandWords.{wanted_of}
use Rattle.nb_runner.specs.ImageDeeds.{IsConcludedWell, conclusion_of}
use Rattle.nb_runner.specs.Handings.{FitsBooted, IsShortTable}
use Rattle.nb_runner.specs.World.{with_net, world_with_drives, world_with_images}
use Rattle.nb_runner.specs.declared.handing.Booted.{Booted}
use Rattle.nb_runner.specs.declared.handing.Booted.TheVariants as booted
use Rattle.nb_runner.specs.declared.handing.Handing.{Handing}
use Rattle.nb_client.specs.Asked.{job_asked}
use Rattle.nb_runner.specs.declared.errand.Wanted.{Wanted}
use Rattle.nb_runner.specs.declared.images.Conclusion.{Conclusion}
use Rattle.nb_runner.specs.declared.images.Conclusion.TheVariants as concluded
use Rattle.nb_runner.specs.declared.world.World.{World}
use Rattle.nb_traced.specs.Holdings.{Holdings}
use Rattle.nb_traced.specs.Outputs.{Arrived, Traced, apart}
use Rattle.nb_network.specs.Many.{AreSound, FitsHoldings, Many}
use Rattle.nb_network.specs.Takes.{IsEndOf}
use Rattle.nb_network.specs.declared.over.HasEnded.{HasEnded}
use Rattle.nb_client.specs.Concluding.{IsBootTable, handing_of, moved_place}
use Rattle.nb_client.specs.Closings.{ShutsAll}
use Rattle.nb_client.specs.Leading.{LeadsOnBy}
use Rattle.nb_runner.proofs.HandingLemmas.{begins_at, handoff_few, image_few}
use Rattle.nb_client.proofs.DriveConcludes.{but_running}
use Rattle.nb_client.proofs.HookedDrives.{none_hooked}
use Rattle.nb_client.proofs.Served.{state_is}
use Rattle.nb_client.specs.Serving.{ConcludesEnd}
use Rattle.nb_client.specs.Snapshots.{Snapshot, at_handing, state_of_world}
use Rattle.nb_client.specs.Progressing.{TracesTo}
use Rattle.nb_client.specs.Soundness.{IsSound, IsSoundBut, snapshot_at}
use Rattle.nb_client.specs.declared.asked.Asked.TheVariants.{File}
use Rattle.nb_client.specs.declared.pending.Pending.{Pending}
use Rattle.nb_client.specs.declared.site.Site.{Site}
use Rattle.nb_client.specs.declared.stage.Stage.TheVariants as stage

-- what holds of a call that succeeds
pub if_all : {A E : Type 0} {P S : A → Type 0} {Q R : Type 0} (r : Result A E) → ((x : A) → P x → Q → R → S x) → IfOk r P → OnOk r Q → OnOk r R → IfOk r S
if_all (Ok x) f p q r = f x p q r
if_all (Err e) f p q r = tt

-- WHAT THE MACHINE CONCLUDES

-- a failure doesn't depend on the file
conclusion_same : (cause : Cause) (asking : Asking) (x y : List ℕ) (depth : ℕ) (list : ImageList) → (is_ok_cause cause ≡ true → x ≡ y) → conclusion cause asking x depth list ≡ conclusion cause asking y depth list
conclusion_same cause asking x y depth list same = by (is_ok_cause cause) refl
  where
    by : (t : Bool) → is_ok_cause cause ≡ t → conclusion cause asking x depth list ≡ conclusion cause asking y depth list
    by true e = ap (λ b. conclusion cause asking b depth list) (same e)
    by false e = rw e refl

-- the place to which the file was moved is the one that was handed out
pub place_same : (e : HasEnded) (o : Over) → IsEndOf e o → place_moved_to o ≡ moved_place e
place_same e o is = by (is_ok_cause e.cause) refl
  where
    by : (t : Bool) → is_ok_cause e.cause ≡ t → place_moved_to o ≡ moved_place e
    by true fine = rw (is.cause, fine, is.moved fine) refl
    by false bad = rw (is.cause, bad) refl

-- what the machine concludes of the open is what was concluded of what it handed out, where it wasn't moved
concluded_same : (asking : Asking) (e : HasEnded) (o : Over) (depth : ℕ) (list : ImageList) → moved_place e ≡ None → IsEndOf e o →
    conclusion o.cause asking (fetched o.live) depth list ≡ conclusion e.cause asking (unwrap_or e.body []) depth list
concluded_same asking e o depth list stays is =
    ap (λ c. conclusion c asking (fetched o.live) depth list) is.cause ∙ conclusion_same e.cause asking _ _ depth list (λ fine. is.body fine (rw fine at stays))

-- the boot table says nothing of images
table_stays : (t : State) (list : ImageList) → boot_table (with_images t list) ≡ boot_table t
unfolding boot_table
table_stays t list = refl

-- where it leads doesn't depend on the images before
pub leads_before : (t : State) (list : ImageList) (depth : ℕ) (s : Running) (outer : List Running) (c : Conclusion) (more : List Out) (to : Standing) → IsConcludedWell c depth t.images list →
    ConclusionLeads (with_images t list) s outer (conclusion_of c list) more to → ConclusionLeads t s outer (conclusion_of c list) more to
leads_before t list depth s outer concluded.Keeps more to well leads = leads
leads_before t list depth s outer (concluded.Tells lines) more to well leads = leads
leads_before t list depth s outer (concluded.Fails cause) more to well leads = subst (λ (l : ImageList). ConclusionLeads (with_images t l) s outer (conclusion_of (concluded.Fails cause) list) more to) well leads
leads_before t list depth s outer (concluded.Boots kernel) more to well leads =
    (leads.0, leads.1, leads.2 ∙ ap (λ b. handing (with_live (with_images t list) []) (handoff_records kernel list.images b)) (table_stays t list))
leads_before t list depth s outer (concluded.Runs script true) more to well leads = leads
leads_before t list depth s outer (concluded.Runs script false) more to well leads = leads

module _ (before : Site) (s : Running) (wanted : Wanted) (p : Pending) (e : HasEnded) (images : ImageList) (asks : p.asked ≡ File wanted) (none : p.waits ≡ None) where
  abbrev w : World
  w = before.world

  abbrev mid : Site
  mid = record before { world = world_with_images w images }

  -- what the machine concludes is what was concluded, and that was carried on
  pub led_concludes : (c : Conclusion) (after : Snapshot) (old new : Logged) →
      ((live : List Live) (o : Over) → IsEndOf e o → concluded_by (state_of_world w live) s.depth (job_asked p.asked) (by_end o) ≡ concludes (conclusion_of c images)) →
      IsConcludedWell c s.depth w.state.images images → LeadsOnBy s c mid after old new → ConcludesEnd p e s before after old new
  led_concludes c after old new same well l = record {
    rest = l.rest;
    puts = l.puts;
    comes = λ live are o is.
        let t = state_of_world w live in
        let there = l.comes live are in
        let upshot = same live o is in
        record {
          more = there.more;
          to = there.to;
          is_put = there.is_put ∙ sym (ap (λ (u : Upshot). upshot_records u ++ there.more) upshot);
          leads = subst (λ (u : Upshot). LeadsTo t s w.outer u there.more there.to) (sym upshot) (leads_before t images s.depth s w.outer c there.more there.to well there.leads);
          stands_so = there.stands_so;
        };
    traces = λ outs h so_far traced fits. l.traces outs h so_far traced (record { state = fits.state; living = fits.living; waiting = rw none at fits.waiting; numbered = fits.numbered });
    sound = l.sound;
    under_way = l.under_way;
  }

  -- a file was concluded
  pub file_concludes : (c : Conclusion) (after : Snapshot) (old new : Logged) → moved_place e ≡ None → conclusion e.cause wanted.asking (unwrap_or e.body []) s.depth w.state.images ≡ conclusion_of c images →
      IsConcludedWell c s.depth w.state.images images → LeadsOnBy s c mid after old new → ConcludesEnd p e s before after old new
  file_concludes c after old new stays same = led_concludes c after old new (λ live o is.
      let t = state_of_world w live in
      rw asks (ap (upshot_fetched t s.depth (wanted_of wanted) o) (place_same e o is ∙ stays) ∙ ap concludes (concluded_same wanted.asking e o s.depth w.state.images stays is ∙ same)))

-- WHAT IS HANDED OFF

-- all that lives was closed, after which this is handed off: the client is sound
pub handing_sound : {old new : Logged} {asked : Option ℕ} (w : World) (m : Many) (drives : List Drive) (mid after : Site) (b : Booted) (table : Option (List ℕ)) → FitsBooted w.state.images.images b → IsShortTable table → IsSoundBut asked mid.used w m →
    mid.opens ≡ m → mid.world ≡ world_with_drives w drives → after.used ≡ mid.used → ShutsAll [] (result ok ∷ []) mid after old new → IsSound after.used after.world after.opens (stage.HandingOff (handing_of b table))
handing_sound w m drives mid after b table fits short sound opens world same shut =
    let there : after.world ≡ world_with_drives (with_net w (record w.net { ports = [] })) [] = shut.world ∙ ap (λ (v : World). world_with_drives (with_net v (record v.net { ports = [] })) []) world in
    record {
      time = rw (there, same) sound.time;
      opens = subst (λ (v : World). AreSound v.w v.opens after.world.net after.opens) (sym shut.world) shut.sound;
      serials = rw (shut.serials, opens, there) sound.serials;
      tied = rw shut.none tt;
      well = (rw there (begins_at w.state.images b table fits sound.short short), shut.none);
      short = rw there sound.short;
      named = rw there sound.named;
      linked = rw there (record { address = sound.linked.address; up = sound.linked.up });
      hooked = none_hooked None after.opens after.world.state.drives shut.none (ap (λ (v : World). v.state.drives) there);
    }

-- and the output has come so far
pub handing_traces : {old new : Logged} (mid after : Site) (h : Handing) → (shut : ShutsAll [] (result ok ∷ []) mid after old new) → (outs : List Out) (hold : Holdings) (so_far : List Arrived) → Traced outs hold so_far → FitsHoldings mid.opens mid.world.opens [] hold →
    TracesTo (snapshot_at after (stage.HandingOff h)) (outs ++ (result ok ∷ shut.records)) so_far
handing_traces mid after h shut outs hold so_far traced fits =
    let t = apart outs (result ok ∷ []) hold so_far traced (tt, tt) in
    let u = shut.traces (outs ++ (result ok ∷ [])) hold so_far t fits in
    record {
      holdings = u.after;
      traced = subst (λ z. Traced z u.after so_far) (append_assoc outs (result ok ∷ []) shut.records) (subst (λ z. Traced ((outs ++ (result ok ∷ [])) ++ shut.records) u.after z) (append-nil so_far) u.traced);
      fits = rw shut.world u.fits;
    }

-- an image is
pub boots_leads : {old new : Logged} (before after : Site) (s : Running) (kernel : ℕ) (table : Option (List ℕ)) → IsBootTable before table → IsSound before.used before.world before.opens (stage.Running s) → kernel < length before.world.state.images.images → length before.world.state.images.images ≤ 32 →
    after.used ≡ before.used → ShutsAll [] (result ok ∷ []) before after old new → LeadsOnBy s (concluded.Boots kernel) before (snapshot_at after (stage.HandingOff (handing_of (booted.Image kernel) table))) old new
boots_leads {old} {new} before after s kernel table told sound within few same shut =
    let w = before.world in
    let images = w.state.images in
    let h = handing_of (booted.Image kernel) table in
    record {
      rest = result ok ∷ shut.records;
      puts = shut.puts;
      comes = λ live are.
          let st = state_of_world w live in
          let z = shut.closes st (state_is w before.opens live are) in
          record {
            more = without_graph shut.records;
            to = handing (with_live (with_images st images) []) (handoff_records kernel images.images (boot_table st));
            is_put = refl;
            leads = (z.0, z.1, refl);
            stands_so = rw (sym same) (at_handing after.used after.world after.opens h (with_live (with_images st images) []) (handoff_records kernel images.images (boot_table st)) refl shut.none
                (rw shut.world (ap (handoff_records kernel images.images) (told.of_state live are))));
          };
      traces = handing_traces before after h shut;
      sound = handing_sound w before.opens w.state.drives before after (booted.Image kernel) table within told.short (but_running sound) refl refl same shut;
      under_way = tt;
      nearer = λ _. rw shut.world (omega (arith, handoff_few images.images h within sound.short told.short (image_few images.images kernel within few)));
    }

-- what is known of an image that boots
pub boots_well : (c : Conclusion) (kernel depth : ℕ) (before after : ImageList) → c ≡ concluded.Boots kernel → IsConcludedWell c depth before after → (kernel < length after.images) × (length after.images ≤ 32)
boots_well c kernel depth before after is h = let k = subst (λ (x : Conclusion). IsConcludedWell x depth before after) is h in (k.1, k.2)
