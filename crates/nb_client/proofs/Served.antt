-- A record comes to the opens that live, in a step of the machine.
use Rattle.std.proofs.Common.{◌≡◌, ℕ, ◌+◌, List, [], ◌∷◌, ◌++◌, Option, refl, sym, ◌∙◌, ap, subst, append_assoc, arith}
use Rattle.std.specs.List.{AllByRecursion}
use Rattle.nb_defs.specs.Records.{In, start, frame, tick, off, Out, out_texts, step}
use Rattle.nb_record.specs.Logged.{Logged, Puts}
use Rattle.nb_traced.specs.Plain.{without_graph}
use Rattle.nb_traced.proofs.Plain.{plain_append}
use Rattle.nb_stack.specs.Client.{Client}
use Rattle.nb_runner.specs.declared.world.World.{World}
use Rattle.nb_imagecmd.specs.Promises.{HasShortNames}
use Rattle.nb_runner.specs.Handings.{AreShortImages}
use Rattle.nb_machine.specs.Courses.{Progress, Standing, stands, waiting, yielded, StepBegins}
use Rattle.nb_machine.specs.Lives.{Live}
use Rattle.nb_machine.specs.Network.{Network, passes_by, brings, brings_reply, brings_segment, passes_time}
use Rattle.nb_machine.specs.Running.{Running}
use Rattle.nb_machine.specs.Scripts.{Waiting}
use Rattle.nb_machine.specs.States.{State, bare, still_hooked}
use Rattle.nb_drivecmd.specs.declared.drive.Drive.{Drive}
use Rattle.nb_machine.specs.Takings.{Over}
use Rattle.nb_traced.specs.Holdings.{Holdings}
use Rattle.nb_traced.specs.Outputs.{Arrived, Traced}
use Rattle.nb_network.specs.Many.{AreOpensOf, AreSound, FitsHoldings, HasNoneTied, HasTiedOnlyOf, IsStateOf, Many}
use Rattle.nb_network.specs.Takes.{AnswersBy, ArrivesAt, BeginsWithEntry, TakesRecord, Traces, awaited_over}
use Rattle.nb_network.specs.declared.over.HasEnded.{HasEnded}
use Rattle.nb_network.proofs.Sound.{some_live}
use Rattle.nb_client.specs.Progressing.{AdvancesFrom, BringsTo, StandsFirst, TracesTo}
use Rattle.nb_client.specs.Serving.{Serves, world_after}
use Rattle.nb_client.specs.Snapshots.{Snapshot, StandsForProgress, pieces_waiting, state_of_world}
use Rattle.nb_client.specs.Soundness.{AreHooked, IsDriveAt, IsDriveKind, IsSound, IsSoundBut, IsUnaskedBut, WasStarted, StandsWell, awaited_at, has_its_open, reads_at, snapshot_at}
use Rattle.nb_client.specs.Turning.{GoesOnBy, IsServed}
use Rattle.nb_client.specs.declared.site.Site.{Site}
use Rattle.nb_client.specs.declared.stage.Stage.{Stage}
use Rattle.nb_client.proofs.DriveKinds.{kind_stays, kinds_all, network_all, unasked_stays}
use Rattle.nb_client.proofs.DriveLists.{all_filter, kept_same, kept_twice}

-- the state that they are
pub state_is : (w : World) (m : Many) (live : List Live) → AreOpensOf m.graph m.list live → IsStateOf m w.net w.time (state_of_world w live)
state_is w m live are = record { devices = refl; time = refl; live = are }

-- a record leaves all but the time, the devices and the opens
network_keeps : (s : State) (n : ℕ) (r : In) (put : List Out) (s' : State) (over : List Over) → still_hooked s.live s.drives ≡ s.drives → Network s n r put s' over →
    s' ≡ record s { now = s'.now; devices = s'.devices; live = s'.live; drives = still_hooked s'.live s.drives }
network_keeps s n r put s' over hooked (passes_by _ device bytes link m on get brought none) = ap (λ (ds : List Drive). record s' { drives = ds }) (sym hooked)
network_keeps s n r put s' over hooked (brings _ device bytes link p d before behind after l _ _ on get brought live is no_before no_behind take) = refl
network_keeps s n r put s' over hooked (brings_reply _ device bytes link p e before behind after l _ _ on get brought live is no_before no_behind take) = refl
network_keeps s n r put s' over hooked (brings_segment _ device bytes link from p g before behind after l _ _ on get brought live is no_before no_behind take) = refl
network_keeps s n r put s' over hooked (passes_time ms after _ _ take) = refl

after_state : (w : World) (live : List Live) (net : Client) (now : ℕ) (m : Many) (s : State) → s ≡ record (state_of_world w live) { now = s.now; devices = s.devices; live = s.live; drives = still_hooked s.live w.state.drives } →
    s.devices ≡ bare net ∷ [] → s.now ≡ now → AreOpensOf m.graph m.list s.live → s ≡ state_of_world (world_after w net now m) s.live
after_state w live net now m s e d t are =
    e ∙ (ap (λ x. record (state_of_world w live) { now = s.now; devices = x; live = s.live; drives = still_hooked s.live w.state.drives }) d
    ∙ (ap (λ x. record (state_of_world w live) { now = x; devices = bare net ∷ []; live = s.live; drives = still_hooked s.live w.state.drives }) t
    ∙ ap (λ (x : List Drive). record (state_of_world w live) { now = now; devices = bare net ∷ []; live = s.live; drives = x }) (sym (kept_same m.graph m.list s.live are w.state.drives))))

-- What a record has done, where these opens lived.
pub record HasServed (r : In) (awaited : Option ℕ) (answer : Option HasEnded) (before mid : Site) (old new : Logged) (live : List Live) : Type 0 where
  pub after : List Live
  pub are : AreOpensOf mid.opens.graph mid.opens.list after
  pub records : List Out
  pub came : List Arrived
  pub puts : Puts old new (out_texts (step (before.used + 1) ∷ records))
  pub overs : List Over
  pub network : Network (state_of_world before.world live) (before.used + 1) r (without_graph records) (state_of_world mid.world after) overs
  pub answers : AnswersBy answer (awaited_over awaited overs)
  pub arrives : ArrivesAt (state_of_world before.world live) (before.used + 1) r came
  pub traces : Traces before.opens before.world.opens (step (before.used + 1) ∷ records) came mid.opens before.world.opens
  pub first : BeginsWithEntry came records

pub served : {r : In} {awaited : Option ℕ} {answer : Option HasEnded} {before mid : Site} {old new : Logged} (live : List Live) → Serves r awaited answer before mid old new →
    AreOpensOf before.opens.graph before.opens.list live → HasServed r awaited answer before mid old new live
served {r} {awaited} {answer} {before} {mid} {old} {new} live v are =
    let s = state_of_world before.world live in
    let t = v.takes s (state_is before.world before.opens live are) in
    let does = t.does in
    let same : does.after ≡ state_of_world mid.world does.after.live =
    after_state before.world live mid.world.net mid.world.time mid.opens does.after
    (network_keeps s (before.used + 1) r (without_graph t.records) does.after does.overs (sym (kept_same before.opens.graph before.opens.list live are before.world.state.drives) ∙ v.hooked) does.network)
    does.is_state.devices does.is_state.time does.is_state.live
    ∙ ap (λ (w : World). state_of_world w does.after.live) (sym v.world) in
    record {
      after = does.after.live;
      are = does.is_state.live;
      records = t.records;
      came = t.came;
      puts = t.puts;
      overs = does.overs;
      network = subst (λ x. Network s (before.used + 1) r (without_graph t.records) x does.overs) same does.network;
      answers = does.answers;
      arrives = does.arrives;
      traces = t.traces;
      first = t.first;
    }

-- some state's records of it
pub record TakesSome (r : In) (awaited : Option ℕ) (answer : Option HasEnded) (before mid : Site) (old new : Logged) : Type 0 where
  pub state : State
  pub takes : TakesRecord before.opens before.world.net before.world.time before.world.opens (before.used + 1) r mid.opens mid.world.net mid.world.time awaited answer old new state

pub takes_some : {r : In} {awaited : Option ℕ} {answer : Option HasEnded} {before mid : Site} {old new : Logged} → AreSound before.world.w before.world.opens before.world.net before.opens →
    Serves r awaited answer before mid old new → TakesSome r awaited answer before mid old new
takes_some {r} {awaited} {answer} {before} {mid} sound v =
    let lives = some_live before.opens.graph before.opens.list sound.lives in
    record { state = state_of_world before.world lives.0; takes = v.takes _ (state_is before.world before.opens lives.0 lives.1) }

-- that only this open was asked for a block, is known after it of that one
abbrev pub AsksOn : Option ℕ → Option ℕ → In → Option ℕ → Option HasEnded → Site → Site → Logged → Logged → Type 0
AsksOn asked asked' r awaited answer before mid old new =
    (live : List Live) → AreOpensOf before.opens.graph before.opens.list live → (h : HasServed r awaited answer before mid old new live) → AllByRecursion (IsUnaskedBut asked) h.after → AllByRecursion (IsUnaskedBut asked') h.after

-- the same one
pub asks_on : {r : In} {awaited : Option ℕ} {answer : Option HasEnded} {before mid : Site} {old new : Logged} (asked : Option ℕ) → AsksOn asked asked r awaited answer before mid old new
asks_on asked live are h u = u

-- the drives are hooked whose opens live
served_hooked : {r : In} {awaited : Option ℕ} {answer : Option HasEnded} {before mid : Site} {old new : Logged} (asked asked' : Option ℕ) → AreHooked asked before.opens before.world.state.drives →
    Serves r awaited answer before mid old new → AsksOn asked asked' r awaited answer before mid old new → AreHooked asked' mid.opens mid.world.state.drives
served_hooked {r} {awaited} {answer} {before} {mid} {old} {new} asked asked' x v on =
    let ds = before.world.state.drives in
    let h = served x.live v x.are in
    let s = state_of_world before.world x.live in
    let s' = state_of_world mid.world h.after in
    let n = before.used + 1 in
    let put = without_graph h.records in
    let all = network_all (IsUnaskedBut asked) s n r put s' h.overs (unasked_stays asked) h.network x.unasked in
    let kinds = kinds_all x.live h.after (λ k z. network_all (λ l. l.number ≡ k → IsDriveKind l.kind) s n r put s' h.overs (λ came is. kind_stays k came) h.network z) ds x.kinds in
    subst (λ (w : World). AreHooked asked' mid.opens w.state.drives) (sym v.world) (record {
      kept = kept_twice mid.opens.list ds;
      live = h.after;
      are = h.are;
      unasked = on x.live x.are h all;
      kinds = all_filter (λ (d : Drive). IsDriveAt d.open_number h.after) (has_its_open mid.opens.list) ds kinds;
    })

-- the client is sound after it
pub served_but : {r : In} {awaited : Option ℕ} {answer : Option HasEnded} {before mid : Site} {old new : Logged} (at : Stage) (asked : Option ℕ) → IsSound before.used before.world before.opens at →
    Serves r awaited answer before mid old new → HasNoneTied mid.opens → AsksOn (reads_at at) asked r awaited answer before mid old new → IsSoundBut asked mid.used mid.world mid.opens
served_but {r} {awaited} {answer} {before} {mid} at asked sound v leases on =
    let t = takes_some sound.opens v in
    let same : mid.world.opens ≡ before.world.opens = ap (λ (w : World). w.opens) v.world in
    record {
      time = v.time;
      opens = v.opens;
      serials = omega (arith, t.takes.same_made, same, sound.serials);
      tied = leases;
      short = subst (λ (w : World). AreShortImages w.state.images.images) (sym v.world) sound.short;
      named = subst (λ (w : World). HasShortNames w.state.images) (sym v.world) sound.named;
      linked = v.linked;
      hooked = served_hooked (reads_at at) asked sound.hooked v on;
    }

pub served_sound : {r : In} {awaited : Option ℕ} {answer : Option HasEnded} {before mid : Site} {old new : Logged} (at st : Stage) → IsSound before.used before.world before.opens at →
    Serves r awaited answer before mid old new → HasTiedOnlyOf (awaited_at st) mid.opens → StandsWell st mid.world mid.opens → AsksOn (reads_at at) (reads_at st) r awaited answer before mid old new → IsSound mid.used mid.world mid.opens st
served_sound {r} {awaited} {answer} {before} {mid} at st sound v leases well on =
    let t = takes_some sound.opens v in
    let same : mid.world.opens ≡ before.world.opens = ap (λ (w : World). w.opens) v.world in
    record {
      time = v.time;
      opens = v.opens;
      serials = omega (arith, t.takes.same_made, same, sound.serials);
      tied = leases;
      well = well;
      short = subst (λ (w : World). AreShortImages w.state.images.images) (sym v.world) sound.short;
      named = subst (λ (w : World). HasShortNames w.state.images) (sym v.world) sound.named;
      linked = v.linked;
      hooked = served_hooked (reads_at at) (reads_at st) sound.hooked v on;
    }

pub brings_waiting : (r : In) (n : ℕ) (s : State) (w : Waiting) (came : List Arrived) → IsServed r → ArrivesAt s n r came → BringsTo r n (waiting s w) came
brings_waiting (start x) n s w came is a = absurd is
brings_waiting (frame bytes) n s w came is a = a
brings_waiting (tick ms) n s w came is a = a
brings_waiting off n s w came is a = absurd is

pub brings_yielded : (r : In) (n : ℕ) (s : State) (inner : Running) (outer : List Running) (came : List Arrived) → IsServed r → ArrivesAt s n r came → BringsTo r n (yielded s inner outer) came
brings_yielded (start x) n s w outer came is a = absurd is
brings_yielded (frame bytes) n s w outer came is a = a
brings_yielded (tick ms) n s w outer came is a = a
brings_yielded off n s w outer came is a = absurd is

entry_append : (came : List Arrived) (xs ys : List Out) → (came ≡ [] → without_graph ys ≡ ys) → BeginsWithEntry came xs → BeginsWithEntry came (xs ++ ys)
entry_append [] xs ys plain b = plain_append xs ys ∙ (ap (λ z. z ++ without_graph ys) b ∙ ap (λ z. xs ++ z) (plain refl))
entry_append (a ∷ came) xs ys plain b = (b.0, b.1 ++ ys, ap (λ z. z ++ ys) b.2)

stands_first : (r : In) (p : Standing) (came : List Arrived) (more : List Out) → IsServed r → BeginsWithEntry came more → StandsFirst r p came more
stands_first (start x) p came more is b = absurd is
stands_first (frame bytes) p came more is b = b
stands_first (tick ms) p came more is b = b
stands_first off p came more is b = absurd is

-- How the step of a record leads on from where opens live so.
abbrev pub StepsOn : In → ℕ → Standing → List Out → List Out → Snapshot → Type 0
StepsOn r n from put rest after = (q : Standing) × StepBegins (stands n from) r (step (n + 1) ∷ (put ++ rest)) (stands (n + 1) q) × StandsForProgress after (stands (n + 1) q)

-- where a client stands before a record, by the opens that live
pub record Place (before : Site) (at : Stage) (r : In) : Type 0 where
  pub standing : List Live → Standing
  pub is_served : IsServed r
  pub picks : (p : Progress) → StandsForProgress (snapshot_at before at) p → (live : List Live) × AreOpensOf before.opens.graph before.opens.list live × (p ≡ stands before.used (standing live))
  pub brings_so : (live : List Live) (came : List Arrived) → ArrivesAt (state_of_world before.world live) (before.used + 1) r came → BringsTo r (before.used + 1) (standing live) came

-- What is put after that, where these opens lived.
pub record PutsOn (r : In) (awaited : Option ℕ) (answer : Option HasEnded) (before mid : Site) (l0 l1 old new : Logged) (at : Stage) (from : Standing) (after : Snapshot) (live : List Live) (h : HasServed r awaited answer before mid l0 l1 live) : Type 0 where
  pub rest : List Out
  pub puts : Puts old new (out_texts ((step (before.used + 1) ∷ h.records) ++ rest))
  pub steps : StepsOn r before.used from (without_graph h.records) (without_graph rest) after
  pub traces : (outs : List Out) (hold : Holdings) (so_far : List Arrived) → Traced outs hold so_far → FitsHoldings mid.opens before.world.opens (pieces_waiting at) hold → TracesTo after (outs ++ rest) so_far
  pub quiet : h.came ≡ [] → without_graph rest ≡ rest

-- A record is used: what it does is put, and then the records of what comes of that.
pub step_goes_so : {r : In} {awaited : Option ℕ} {answer : Option HasEnded} {before mid : Site} {l0 l1 old new : Logged} (at : Stage) (place : Place before at r) (after : Snapshot) → Serves r awaited answer before mid l0 l1 →
    ((live : List Live) → AreOpensOf before.opens.graph before.opens.list live → (h : HasServed r awaited answer before mid l0 l1 live) → PutsOn r awaited answer before mid l0 l1 old new at (place.standing live) after live h) →
    IsSound after.used after.world after.many after.stage → WasStarted after.stage → GoesOnBy (r ∷ []) (snapshot_at before at) after old new
step_goes_so {r} {awaited} {answer} {before} {mid} {l0} {l1} {old} {new} at place after v more sound under_way =
    let n = before.used + 1 in
    let at_place : (live : List Live) → AreOpensOf before.opens.graph before.opens.list live → AdvancesFrom (r ∷ []) (stands before.used (place.standing live)) (snapshot_at before at) after old new =
    λ live are.
    let h = served live v are in
    let k = more live are h in
    let rest = k.rest in
    let led = k.steps in
    let plain : without_graph ((step n ∷ h.records) ++ rest) ≡ step n ∷ (without_graph h.records ++ without_graph rest) = plain_append (step n ∷ h.records) rest in
    record {
      added = (step n ∷ h.records) ++ rest;
      came = h.came;
      puts = k.puts;
      leads = record { progress = stands n led.0; steps = subst (λ x. StepBegins (stands before.used (place.standing live)) r x (stands n led.0)) (sym plain) led.1; stands = led.2 };
      begins = (h.records ++ rest, refl, stands_first r (place.standing live) h.came (h.records ++ rest) place.is_served (entry_append h.came h.records rest k.quiet h.first), place.brings_so live h.came h.arrives);
      traces = λ outs hold so_far t fits.
          let on = h.traces (pieces_waiting at) outs hold so_far t fits in
          subst (λ x. TracesTo after x (so_far ++ h.came)) (append_assoc outs (step n ∷ h.records) rest)
          (k.traces (outs ++ (step n ∷ h.records)) on.after (so_far ++ h.came) on.traced on.fits);
    } in
    record {
      advances = λ p is_for.
          let here = place.picks p is_for in
          subst (λ x. AdvancesFrom (r ∷ []) x (snapshot_at before at) after old new) (sym here.2) (at_place here.0 here.1);
      sound = sound;
      under_way = under_way;
    }

-- these records, whatever opens lived, of which none is the graph's
pub step_goes : {r : In} {awaited : Option ℕ} {answer : Option HasEnded} {before mid : Site} {l0 l1 old new : Logged} (at : Stage) (place : Place before at r) (after : Snapshot) (rest : List Out) →
    Serves r awaited answer before mid l0 l1 →
    ((records : List Out) → Puts l0 l1 (out_texts (step (before.used + 1) ∷ records)) → Puts old new (out_texts ((step (before.used + 1) ∷ records) ++ rest))) →
    ((live : List Live) (h : HasServed r awaited answer before mid l0 l1 live) → StepsOn r before.used (place.standing live) (without_graph h.records) (without_graph rest) after) →
    ((outs : List Out) (h : Holdings) (so_far : List Arrived) → Traced outs h so_far → FitsHoldings mid.opens before.world.opens (pieces_waiting at) h → TracesTo after (outs ++ rest) so_far) →
    without_graph rest ≡ rest →
    IsSound after.used after.world after.many after.stage → WasStarted after.stage → GoesOnBy (r ∷ []) (snapshot_at before at) after old new
step_goes at place after rest v puts steps traces plain sound under_way =
    step_goes_so at place after v (λ live are h. record { rest = rest; puts = puts h.records h.puts; steps = steps live h; traces = traces; quiet = λ none. plain }) sound under_way
