-- The drive of a number is closed, if one is hooked.
use Rattle.std.proofs.Common.{◌≡◌, ℕ, suc, ◌<◌, ◌==◌, ◌||◌, Bool, true, false, not, cond, List, [], ◌∷◌, filter, Some, None, All, refl, sym, ◌∙◌, ap, subst, arith, eq-eqb}
use Rattle.std.specs.Prelude.{find, slice_get}
use Rattle.std.specs.List.{AllByRecursion, list_any}
use Rattle.std.proofs.lemmas.Bool.{eqb-true}
use Rattle.std.proofs.lemmas.List.Elements.{All-head, All-tail}
use Rattle.nb_terms.specs.declared.cause.Cause.{Cause}
use Rattle.nb_record.specs.Logged.{Logged}
use Rattle.nb_runner.proofs.Puts.{Puts-nothing}
use Rattle.nb_stack.specs.Client.{Client}
use Rattle.nb_drivecmd.specs.declared.drive.Drive.{Drive}
use Rattle.nb_drivecmd.specs.HookedDrives.{AreRisingDrives as DrivesRise, drive_numbered, is_drive}
use Rattle.nb_machine.specs.CommandRecords.{stopped_cause}
use Rattle.nb_machine.specs.Courses.{is_drives_own}
use Rattle.nb_machine.specs.Lives.{Live, close}
use Rattle.nb_machine.specs.Running.{Running}
use Rattle.nb_machine.specs.Scripts.{has_number}
use Rattle.nb_machine.specs.States.{bare, with_live}
use Rattle.nb_machine.specs.Takings.{AllTake, all_have}
use Rattle.nb_runner.specs.declared.world.World.{World}
use Rattle.nb_runner.specs.World.{with_net, world_with_drives}
use Rattle.nb_network.specs.Many.{AreOpensOf, AreSound, Many}
use Rattle.nb_network.specs.Ones.{ClosesOne, HasOpen}
use Rattle.nb_network.specs.declared.living.Living.{Living as Open}
use Rattle.nb_network.specs.Takes.{Traces}
use Rattle.nb_network.proofs.Sound.{some_live}
use Rattle.nb_client.specs.Drives.{ClosesLowest, ClosesNumber, DropsOne}
use Rattle.nb_client.specs.Snapshots.{state_of_world}
use Rattle.nb_client.specs.Soundness.{IsSound, has_its_open, kept_drives}
use Rattle.nb_client.specs.declared.site.Site.{Site}
use Rattle.nb_client.specs.declared.stage.Stage.TheVariants as stage
use Rattle.nb_client.proofs.DriveCloses.{one_closes, same_device, traces_nothing}
use Rattle.nb_client.proofs.DriveFirsts.{others_than}
use Rattle.nb_client.proofs.DriveLists.{each_passes, filter_same, has_open_at, kept_same}
use Rattle.nb_client.proofs.HookedDrives.{fewer_hooked}

-- AN OPEN IS CLOSED

pub number_closed : {old new : Logged} (number : ℕ) (cause : Cause) (before after : Site) (net : Client) (m : Many) (s : Running) (k : ClosesOne number cause before.opens before.world.net before.world.time before.world.opens m net old new) →
    IsSound before.used before.world before.opens (stage.Running s) → net ≡ record before.world.net { ports = net.ports } → after.used ≡ before.used → after.opens ≡ m →
    after.world ≡ world_with_drives (with_net before.world net) (kept_drives m.list before.world.state.drives) → AreSound before.world.w before.world.opens net m → m.graph.book.made ≡ before.opens.graph.book.made →
    ClosesNumber number cause before after old new
number_closed {old} {new} number cause before after net m s k sound same used opens world well made =
    let w = before.world in
    let ds = w.state.drives in
    let lives = some_live before.opens.graph before.opens.list sound.opens.lives in
    let device : bare w.net ≡ bare net = same_device (bare w.net) (bare net) (one_closes w before.opens m net w.opens number cause lives.0 k lives.1 sound.opens.rising).2 in
    record {
      records = k.records;
      puts = k.puts;
      closes = λ live are.
          let x = one_closes w before.opens m net w.opens number cause live k are sound.opens.rising in
          (x.0.0, x.0.1, subst (λ (z : Many). AreOpensOf z.graph z.list (others_than number live)) (sym opens) x.1);
      closes_first = k.closes_first;
      traces = subst (λ (z : Many). Traces before.opens w.opens k.records [] z w.opens) (sym opens) k.traces;
      used = used;
      world = rw (opens, world) refl;
      device = rw world (sym device);
      serials = ap (λ (z : Many). z.graph.book.made) opens ∙ made;
      sound = λ t good. rw (used, opens, world) (record {
        time = good.time;
        opens = well;
        serials = rw made good.serials;
        tied = k.tied good.tied;
        well = tt;
        short = good.short;
        named = good.named;
        linked = record { address = ap (λ (c : Client). c.address) same ∙ good.linked.address; up = ap (λ (c : Client). c.up) same ∙ good.linked.up };
        hooked = fewer_hooked before.opens m ds (λ l. not (has_number number l)) good.hooked (one_closes w before.opens m net w.opens number cause good.hooked.live k good.hooked.are good.opens.rising).1;
      });
    }

-- THE OPEN OF A DRIVE LIVES

some_same : (x y : Drive) → Some x ≡ Some y → x ≡ y
some_same x y e = cc

found_passes : (f : Drive → Bool) (ds : List Drive) (n : ℕ) (d : Drive) → AllByRecursion (λ x. f x ≡ true) ds → drive_numbered n ds ≡ Some d → f d ≡ true
found_passes f [] n d all e = absurd (let bad : None ≡ Some d = e in cc)
found_passes f (x ∷ xs) n d all e = by (x.number == n) e (λ is. found_passes f xs n d all.1 is)
  where
    by : (b : Bool) → cond b (Some x) (find (is_drive n) xs) ≡ Some d → (drive_numbered n xs ≡ Some d → f d ≡ true) → f d ≡ true
    by true is rest = subst (λ (y : Drive). f y ≡ true) (some_same x d is) all.0
    by false is rest = rest is

-- of the drive of a number
pub found_lives : (list : List Open) (ds : List Drive) (n : ℕ) (d : Drive) → kept_drives list ds ≡ ds → drive_numbered n ds ≡ Some d → HasOpen d.open_number list
found_lives list ds n d kept some = has_open_at list d.open_number (found_passes (has_its_open list) ds n d (each_passes (has_its_open list) ds kept) some)

-- of the drive of the lowest number, which is the first
pub lowest_is : (ds : List Drive) (d : Drive) → slice_get ds 0 ≡ Some d → (rest : List Drive) × (ds ≡ d ∷ rest)
lowest_is [] d e = absurd (let bad : None ≡ Some d = e in cc)
lowest_is (x ∷ xs) d e = (xs, ap (λ (y : Drive). y ∷ xs) (some_same x d e))

pub none_lowest : (ds : List Drive) → slice_get ds 0 ≡ None → ds ≡ []
none_lowest [] e = refl
none_lowest (x ∷ xs) e = absurd (let bad : Some x ≡ None = e in cc)

pub lowest_lives : (list : List Open) (ds : List Drive) (d : Drive) → kept_drives list ds ≡ ds → slice_get ds 0 ≡ Some d → HasOpen d.open_number list
lowest_lives list ds d kept some =
    let first = lowest_is ds d some in
    let all = subst (λ xs. AllByRecursion (λ x. has_its_open list x ≡ true) xs) first.1 (each_passes (has_its_open list) ds kept) in
    has_open_at list d.open_number all.0

pub lowest_none : (ds : List Drive) (cause : Cause) (site : Site) (log : Logged) → slice_get ds 0 ≡ None → ClosesLowest ds cause site site log log
lowest_none ds cause site log none = rw (none_lowest ds none) (refl, refl)

pub lowest_closes : {old new : Logged} (ds : List Drive) (d : Drive) (cause : Cause) (before after : Site) → slice_get ds 0 ≡ Some d → ClosesNumber d.open_number cause before after old new → ClosesLowest ds cause before after old new
lowest_closes ds d cause before after some k = rw (lowest_is ds d some).1 k

-- THE DRIVE OF A NUMBER

none_pass : (n : ℕ) (ds : List Drive) → All (λ d. n < d.number) ds → filter (is_drive n) ds ≡ []
none_pass n [] h = refl
none_pass n (d ∷ ds) h = by (d.number == n) refl (none_pass n ds (All-tail (λ (y : Drive). n < y.number) d ds h))
  where
    by : (b : Bool) → (d.number == n) ≡ b → filter (is_drive n) ds ≡ [] → cond b (d ∷ filter (is_drive n) ds) (filter (is_drive n) ds) ≡ []
    by true is rest = absurd (let number : d.number ≡ n = eqb-true d.number n is in omega (arith, number, All-head (λ (y : Drive). n < y.number) d ds h))
    by false is rest = rest

none_numbered : (n : ℕ) (ds : List Drive) → drive_numbered n ds ≡ None → filter (is_drive n) ds ≡ []
none_numbered n [] e = refl
none_numbered n (d ∷ ds) e = by (d.number == n) e (λ is. none_numbered n ds is)
  where
    by : (b : Bool) → cond b (Some d) (find (is_drive n) ds) ≡ None → (drive_numbered n ds ≡ None → filter (is_drive n) ds ≡ []) → cond b (d ∷ filter (is_drive n) ds) (filter (is_drive n) ds) ≡ []
    by true is rest = absurd (cc)
    by false is rest = rest is

one_numbered : (n : ℕ) (ds : List Drive) (d : Drive) → DrivesRise ds → drive_numbered n ds ≡ Some d → filter (is_drive n) ds ≡ d ∷ []
one_numbered n [] d rise e = absurd (let bad : None ≡ Some d = e in cc)
one_numbered n (x ∷ xs) d rise e =
    by (x.number == n) refl e (λ is. one_numbered n xs d (λ i j z less within. rise (suc i) (suc j) z (omega (arith, less)) (omega (arith, within))) is)
  where
    later : All (λ y. x.number < y.number) xs
    later k z within = rise 0 (suc k) z (omega arith) (omega (arith, within))

    by : (b : Bool) → (x.number == n) ≡ b → cond b (Some x) (find (is_drive n) xs) ≡ Some d → (drive_numbered n xs ≡ Some d → filter (is_drive n) xs ≡ d ∷ []) → cond b (x ∷ filter (is_drive n) xs) (filter (is_drive n) xs) ≡ d ∷ []
    by true same is rest =
        let number : x.number ≡ n = eqb-true x.number n same in
        ap (λ ys. x ∷ ys) (none_pass n xs (subst (λ k. All (λ y. k < y.number) xs) number later)) ∙ ap (λ y. y ∷ []) (some_same x d is)
    by false same is rest = rest is

-- its open is the one of its number
eqb_swap : (a b : ℕ) → (a == b) ≡ (b == a)
eqb_swap a b = by (a == b) (b == a) refl refl
  where
    by : (x y : Bool) → (a == b) ≡ x → (b == a) ≡ y → x ≡ y
    by true true e f = refl
    by false false e f = refl
    by true false e f = let same : b ≡ a = sym (eqb-true a b e) in sym (eq-eqb b a same) ∙ f
    by false true e f = let same : a ≡ b = sym (eqb-true b a f) in sym e ∙ eq-eqb a b same

or_false : (b : Bool) → (b || false) ≡ b
or_false true = refl
or_false false = refl

own_same : (d : Drive) (l : Live) → is_drives_own (d ∷ []) l ≡ has_number d.open_number l
own_same d l = or_false (d.open_number == l.number) ∙ eqb_swap d.open_number l.number

none_own : (live : List Live) → filter (is_drives_own []) live ≡ []
none_own [] = refl
none_own (l ∷ live) = none_own live

all_others : (live : List Live) → filter (λ l. not (is_drives_own [] l)) live ≡ live
all_others [] = refl
all_others (l ∷ live) = ap (λ ls. l ∷ ls) (all_others live)

-- no drive of this number is hooked
pub drops_nothing : (number : ℕ) (site : Site) (log : Logged) → drive_numbered number site.world.state.drives ≡ None → kept_drives site.opens.list site.world.state.drives ≡ site.world.state.drives → DropsOne number site site log log
drops_nothing number site log none hooked =
    let w = site.world in
    let ds = w.state.drives in
    let no_own : filter (is_drive number) ds ≡ [] = none_numbered number ds none in
    record {
      records = [];
      puts = Puts-nothing;
      drops = λ live are.
          let s = state_of_world w live in
          let stays : with_live s live ≡ s = ap (λ (xs : List Drive). record s { drives = xs }) (sym (kept_same site.opens.graph site.opens.list live are ds) ∙ hooked) in (
            live,
            are,
            record {
              over = [];
              closes = subst (λ own. AllTake s.devices (close stopped_cause) (filter (is_drives_own own) live) [] [] []) (sym no_own) (subst (λ z. AllTake s.devices (close stopped_cause) z [] [] []) (sym (none_own live)) all_have);
              leaves = sym (ap (λ own. with_live s (filter (λ l. not (is_drives_own own l)) live)) no_own ∙ (ap (with_live s) (all_others live) ∙ stays));
            },
          );
      traces = traces_nothing site.opens w.opens;
      used = refl;
      world = refl;
      sound = λ s sound. sound;
    }

-- its open is closed
pub drops_it : {old new : Logged} (number : ℕ) (d : Drive) (before after : Site) → DrivesRise before.world.state.drives → drive_numbered number before.world.state.drives ≡ Some d → ClosesNumber d.open_number stopped_cause before after old new →
    DropsOne number before after old new
drops_it number d before after rise some k =
    let w = before.world in
    let ds = w.state.drives in
    let own : filter (is_drive number) ds ≡ d ∷ [] = one_numbered number ds d rise some in
    record {
      records = k.records;
      puts = k.puts;
      drops = λ live are.
          let s = state_of_world w live in
          let x = k.closes live are in
          let left = others_than d.open_number live in
          let taken : filter (is_drives_own (filter (is_drive number) ds)) live ≡ filter (has_number d.open_number) live =
          ap (λ own. filter (is_drives_own own) live) own ∙ filter_same (is_drives_own (d ∷ [])) (has_number d.open_number) (own_same d) live in
          let others : filter (λ l. not (is_drives_own (filter (is_drive number) ds) l)) live ≡ left =
          ap (λ own. filter (λ l. not (is_drives_own own l)) live) own ∙ filter_same (λ l. not (is_drives_own (d ∷ []) l)) (λ l. not (has_number d.open_number l)) (λ l. ap not (own_same d l)) live in
          let at : state_of_world after.world left ≡ with_live s left =
          ap (λ (v : World). state_of_world v left) k.world
          ∙ (ap (λ (c : Client). record (state_of_world (world_with_drives w (kept_drives after.opens.list ds)) left) { devices = c ∷ [] }) k.device
          ∙ ap (λ (xs : List Drive). record s { live = left; drives = xs }) (kept_same after.opens.graph after.opens.list left x.2 ds)) in (
            left,
            x.2,
            record {
              over = x.0;
              closes = rw taken x.1;
              leaves = at ∙ ap (with_live s) (sym others);
            },
          );
      traces = k.traces;
      used = k.used;
      world = k.world ∙ ap (λ (xs : List Drive). world_with_drives (with_net w after.world.net) xs) (sym (ap (λ (v : World). v.state.drives) k.world));
      sound = k.sound;
    }
