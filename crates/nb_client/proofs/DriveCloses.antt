-- An open is closed, and the drives that it hooked are forgotten; and what is closed one after another.
use Rattle.std.proofs.Common.{◌≡◌, ◌⊎◌, inl, inr, ℕ, ◌+◌, ◌≤◌, List, [], ◌∷◌, ◌++◌, length, filter, refl, sym, ◌∙◌, ap, subst, arith, append-nil, append_assoc}
use Rattle.nb_terms.specs.declared.cause.Cause.{Cause}
use Rattle.nb_defs.specs.Records.{Out, out_texts}
use Rattle.nb_record.specs.Logged.{Logged, Puts}
use Rattle.nb_runner.proofs.Puts.{Puts-nothing, Puts-outs}
use Rattle.nb_traced.specs.Plain.{without_graph}
use Rattle.nb_traced.proofs.Plain.{plain_append}
use Rattle.nb_traced.specs.Outputs.{Traced}
use Rattle.nb_stack.specs.Client.{Client}
use Rattle.nb_drivecmd.specs.declared.drive.Drive.{Drive}
use Rattle.nb_machine.specs.Courses.{down_cause, drives_first}
use Rattle.nb_machine.specs.Lives.{Live, close}
use Rattle.nb_machine.specs.Scripts.{has_number}
use Rattle.nb_machine.specs.States.{bare, has_open, still_hooked}
use Rattle.nb_machine.specs.Takings.{AllTake, Over, all_have}
use Rattle.nb_runner.specs.declared.world.World.{World}
use Rattle.nb_runner.specs.World.{with_net, world_with_drives}
use Rattle.nb_network.specs.Closings.{ClosesMany}
use Rattle.nb_network.specs.Many.{AreOpensOf, AreRising, AreSound, FitsHoldings, Many}
use Rattle.nb_network.specs.Ones.{ClosesOne}
use Rattle.nb_network.specs.Takes.{ClosesFirst, Traces}
use Rattle.nb_network.proofs.Timing.{takes_both}
use Rattle.nb_client.specs.Closings.{ClosesDown}
use Rattle.nb_client.specs.Drives.{ClosesDrives, ClosesLowest, ClosesNumber, StaysSound}
use Rattle.nb_client.specs.Snapshots.{state_of_world}
use Rattle.nb_client.specs.Soundness.{kept_drives}
use Rattle.nb_client.specs.declared.site.Site.{Site}
use Rattle.nb_client.proofs.DriveFirsts.{first_dropped, first_next, others_than, split_one}
use Rattle.nb_client.proofs.DriveLists.{filter_fewer, kept_same}
use Rattle.nb_client.proofs.Served.{state_is}

-- ONE OPEN

-- what was closed of the opens that live, and what lives on
pub one_closes : {old new : Logged} (w : World) (m m' : Many) (net' : Client) (opens number : ℕ) (cause : Cause) (live : List Live) (k : ClosesOne number cause m w.net w.time opens m' net' old new) →
    AreOpensOf m.graph m.list live → AreRising 0 opens m.list →
    ((overs : List Over) × AllTake (bare w.net ∷ []) (close cause) (filter (has_number number) live) (without_graph k.records) [] overs)
    × AreOpensOf m'.graph m'.list (others_than number live) × (bare w.net ∷ [] ≡ bare net' ∷ [])
one_closes w m m' net' opens number cause live k are rising =
    let s = state_of_world w live in
    let state = state_is w m live are in
    let d = k.does s state in
    let gone : d.after ≡ [] = k.gone s state in
    let parts = split_one m.graph m.list opens number live d.front d.back d.own are rising d.all d.number_is in
    let left : d.front ++ (d.after ++ d.back) ≡ others_than number live = ap (λ z. d.front ++ (z ++ d.back)) gone ∙ sym parts.1 in (
      (
        d.over,
        subst (λ z. AllTake (bare w.net ∷ []) (close cause) z (without_graph k.records) [] d.over) (sym parts.0)
            (subst (λ z. AllTake (bare w.net ∷ []) (close cause) (d.own ∷ []) (without_graph k.records) z d.over) gone d.takes),
      ),
      subst (λ z. AreOpensOf m'.graph m'.list z) left d.state.live,
      d.state.devices,
    )

pub same_device : (a b : Client) → a ∷ [] ≡ b ∷ [] → a ≡ b
same_device a b e = cc

-- ONE AFTER ANOTHER

-- What was closed so far of all that is to be closed, the drives first: this, and the rest is to come.
pub record ClosedSoFar (cause : Cause) (before mid : Site) (old between : Logged) : Type 0 where
  pub records : List Out
  pub puts : Puts old between (out_texts records)
  pub closes : (live : List Live) → AreOpensOf before.opens.graph before.opens.list live → (taken : List Live) × (left : List Live) × (overs : List Over)
      × AllTake (bare before.world.net ∷ []) (close cause) taken (without_graph records) [] overs × AreOpensOf mid.opens.graph mid.opens.list left
      × (drives_first before.world.state.drives live ≡ taken ++ drives_first mid.world.state.drives left)
  pub first : (records ≡ []) × (mid.opens ≡ before.opens) ⊎ ClosesFirst cause records
  pub traces : Traces before.opens before.world.opens records [] mid.opens before.world.opens
  pub used : mid.used ≡ before.used
  pub world : mid.world ≡ world_with_drives (with_net before.world mid.world.net) mid.world.state.drives
  pub device : bare mid.world.net ≡ bare before.world.net
  pub serials : mid.opens.graph.book.made ≡ before.opens.graph.book.made
  pub sound : StaysSound before mid

pub traces_nothing : (m : Many) (opens : ℕ) → Traces m opens [] [] m opens
traces_nothing m opens waits outs h so_far t fits = record {
  after = h;
  traced = subst (λ z. Traced (outs ++ []) h z) (sym (append-nil so_far)) (subst (λ z. Traced z h so_far) (sym (append-nil outs)) t);
  fits = fits;
}

pub traces_then : (a b c : Many) (opens : ℕ) (rs ss : List Out) → Traces a opens rs [] b opens → Traces b opens ss [] c opens → Traces a opens (rs ++ ss) [] c opens
traces_then a b c opens rs ss f g waits outs h so_far t fits =
    let x = f waits outs h so_far t fits in
    let y = g waits (outs ++ rs) x.after (so_far ++ []) x.traced x.fits in
    record {
      after = y.after;
      traced = subst (λ z. Traced (outs ++ (rs ++ ss)) y.after z) (append-nil (so_far ++ [])) (subst (λ z. Traced z y.after ((so_far ++ []) ++ [])) (append_assoc outs rs ss) y.traced);
      fits = y.fits;
    }

-- nothing
pub closed_nothing : (cause : Cause) (site : Site) (log : Logged) → ClosedSoFar cause site site log log
closed_nothing cause site log = record {
  records = [];
  puts = Puts-nothing;
  closes = λ live are. ([], live, [], all_have, are, refl);
  first = inl (refl, refl);
  traces = traces_nothing site.opens site.world.opens;
  used = refl;
  world = refl;
  device = refl;
  serials = refl;
  sound = λ s sound. sound;
}

-- the open of the drive of the lowest number
pub closed_lowest : {old new : Logged} (cause : Cause) (before mid : Site) (d : Drive) (ds : List Drive) → before.world.state.drives ≡ d ∷ ds → ClosesNumber d.open_number cause before mid old new → ClosedSoFar cause before mid old new
closed_lowest {old} {new} cause before mid d ds is k = record {
  records = k.records;
  puts = k.puts;
  closes = λ live are.
      let x = k.closes live are in
      let left = others_than d.open_number live in
      let hooked : mid.world.state.drives ≡ still_hooked left (d ∷ ds) =
      ap (λ (w : World). w.state.drives) k.world ∙ (ap (λ (xs : List Drive). kept_drives mid.opens.list xs) is ∙ kept_same mid.opens.graph mid.opens.list left x.2 (d ∷ ds)) in (
        filter (has_number d.open_number) live,
        left,
        x.0,
        x.1,
        x.2,
        ap (λ (xs : List Drive). drives_first xs live) is
            ∙ (first_next d ds live ∙ ap (λ (xs : List Drive). filter (has_number d.open_number) live ++ drives_first xs left) (sym hooked)),
      );
  first = inr k.closes_first;
  traces = k.traces;
  used = k.used;
  world = k.world ∙ ap (λ (xs : List Drive). world_with_drives (with_net before.world mid.world.net) xs) (sym (ap (λ (w : World). w.state.drives) k.world));
  device = k.device;
  serials = k.serials;
  sound = k.sound;
}

pub closed_one : {old new : Logged} (cause : Cause) (before mid : Site) (ds : List Drive) → before.world.state.drives ≡ ds → ClosesLowest ds cause before mid old new → ClosedSoFar cause before mid old new
closed_one {old} {new} cause before mid [] is x =
    subst (λ (s : Site). ClosedSoFar cause before s old new) (sym x.0) (subst (λ (l : Logged). ClosedSoFar cause before before old l) (sym x.1) (closed_nothing cause before old))
closed_one cause before mid (d ∷ ds) is x = closed_lowest cause before mid d ds is x

-- and then more
closes_front : (cause : Cause) (rs ss : List Out) → ClosesFirst cause rs → ClosesFirst cause (rs ++ ss)
closes_front cause rs ss c = (c.0, c.1 ++ ss, ap (λ z. z ++ ss) c.2)

pub closed_then : {old between new : Logged} (cause : Cause) (before mid after : Site) → ClosedSoFar cause before mid old between → ClosedSoFar cause mid after between new → ClosedSoFar cause before after old new
closed_then {old} {between} {new} cause before mid after a b = record {
  records = a.records ++ b.records;
  puts = Puts-outs a.records b.records a.puts b.puts;
  closes = λ live are.
      let x = a.closes live are in
      let y = b.closes x.1 x.4 in (
        x.0 ++ y.0,
        y.1,
        x.2 ++ y.2,
        subst (λ z. AllTake (bare before.world.net ∷ []) (close cause) (x.0 ++ y.0) z [] (x.2 ++ y.2)) (sym (plain_append a.records b.records))
            (takes_both (bare before.world.net ∷ []) (close cause) x.0 (without_graph a.records) [] x.2 x.3 y.0 (without_graph b.records) [] y.2
            (subst (λ (c : Client). AllTake (c ∷ []) (close cause) y.0 (without_graph b.records) [] y.2) a.device y.3)),
        y.4,
        x.5 ∙ (ap (λ z. x.0 ++ z) y.5 ∙ sym (append_assoc x.0 y.0 (drives_first after.world.state.drives y.1))),
      );
  first = by a.first b.first;
  traces = traces_then before.opens mid.opens after.opens before.world.opens a.records b.records a.traces
      (subst (λ (n : ℕ). Traces mid.opens n b.records [] after.opens n) (ap (λ (w : World). w.opens) a.world) b.traces);
  used = b.used ∙ a.used;
  world = b.world ∙ ap (λ (w : World). world_with_drives (with_net w after.world.net) after.world.state.drives) a.world;
  device = b.device ∙ a.device;
  serials = b.serials ∙ a.serials;
  sound = λ s sound. b.sound s (a.sound s sound);
}
  where
    by : ((a.records ≡ []) × (mid.opens ≡ before.opens) ⊎ ClosesFirst cause a.records) → ((b.records ≡ []) × (after.opens ≡ mid.opens) ⊎ ClosesFirst cause b.records) →
        (a.records ++ b.records ≡ []) × (after.opens ≡ before.opens) ⊎ ClosesFirst cause (a.records ++ b.records)
    by (inl x) (inl y) = inl (ap (λ z. z ++ b.records) x.0 ∙ y.0, y.1 ∙ x.1)
    by (inl x) (inr y) = inr (subst (λ z. ClosesFirst cause (z ++ b.records)) (sym x.0) y)
    by (inr x) y = inr (closes_front cause a.records b.records x)

-- the drives
pub drives_closed : {old new : Logged} (cause : Cause) (before after : Site) → ClosesDrives cause before after old new → ClosedSoFar cause before after old new
drives_closed cause before after k =
    closed_then cause before k.middle after (closed_one cause before k.middle before.world.state.drives refl k.first) (closed_one cause k.middle after k.middle.world.state.drives refl k.second)

-- each of the two leaves one drive fewer
fewer_left : (old new : Logged) (cause : Cause) (before mid : Site) (ds : List Drive) (n : ℕ) → (live : List Live) → AreOpensOf before.opens.graph before.opens.list live → before.world.state.drives ≡ ds → length ds ≤ n + 1 → ClosesLowest ds cause before mid old new →
    length mid.world.state.drives ≤ n
fewer_left old new cause before mid [] n live are is few x = rw (ap (λ (s : Site). s.world.state.drives) x.0 ∙ is) (omega arith)
fewer_left old new cause before mid (d ∷ ds) n live are is few x =
    let left = others_than d.open_number live in
    let hooked : mid.world.state.drives ≡ still_hooked left ds =
    ap (λ (w : World). w.state.drives) x.world
    ∙ (ap (λ (xs : List Drive). kept_drives mid.opens.list xs) is ∙ (kept_same mid.opens.graph mid.opens.list left (x.closes live are).2 (d ∷ ds) ∙ first_dropped d ds live)) in
    rw hooked (omega (arith, few, filter_fewer (has_open left) ds))

none_of : (ds : List Drive) → length ds ≤ 0 → ds ≡ []
none_of [] few = refl
none_of (d ∷ ds) few = absurd (omega (arith, few))

-- of two drives none is left
pub drives_gone : {old new : Logged} (cause : Cause) (before after : Site) (live : List Live) → AreOpensOf before.opens.graph before.opens.list live → (k : ClosesDrives cause before after old new) → after.world.state.drives ≡ []
drives_gone cause before after live are k =
    let a = closed_one cause before k.middle before.world.state.drives refl k.first in
    let x = a.closes live are in
    let one = fewer_left _ _ cause before k.middle before.world.state.drives 1 live are refl k.few k.first in
    none_of after.world.state.drives (fewer_left _ _ cause k.middle after k.middle.world.state.drives 0 x.1 x.4 refl one k.second)

-- ALL THAT LIVES

-- the drives, and then all others
pub all_closed : {old between new : Logged} (before mid after : Site) → ((live : List Live) → AreOpensOf before.opens.graph before.opens.list live → mid.world.state.drives ≡ []) → ClosedSoFar down_cause before mid old between →
    ClosesMany mid.opens mid.world.net mid.world.time mid.world.opens down_cause [] [] after.opens between new →
    after.world ≡ world_with_drives (with_net mid.world (record mid.world.net { ports = [] })) [] → AreSound before.world.w before.world.opens after.world.net after.opens → after.opens.graph.book.made ≡ before.opens.graph.book.made →
    ClosesDown before after old new
all_closed {old} {between} {new} before mid after gone a k world sound made = record {
  records = a.records ++ k.records;
  puts = Puts-outs a.records k.records a.puts k.puts;
  none = k.none;
  closes = λ s state.
      let x = a.closes s.live state.live in
      let t = state_of_world mid.world x.1 in
      let y = k.closes t (state_is mid.world mid.opens x.1 x.4) in
      let order : drives_first before.world.state.drives s.live ≡ x.0 ++ x.1 = x.5 ∙ ap (λ (xs : List Drive). x.0 ++ drives_first xs x.1) (gone s.live state.live) in (
        x.2 ++ y.0,
        subst (λ z. AllTake z (close down_cause) (drives_first before.world.state.drives s.live) (without_graph (a.records ++ k.records)) [] (x.2 ++ y.0)) (sym state.devices)
            (subst (λ z. AllTake (bare before.world.net ∷ []) (close down_cause) z (without_graph (a.records ++ k.records)) [] (x.2 ++ y.0)) (sym order)
            (subst (λ z. AllTake (bare before.world.net ∷ []) (close down_cause) (x.0 ++ x.1) z [] (x.2 ++ y.0)) (sym (plain_append a.records k.records))
            (takes_both (bare before.world.net ∷ []) (close down_cause) x.0 (without_graph a.records) [] x.2 x.3 x.1 (without_graph k.records) [] y.0
            (subst (λ (c : Client). AllTake (c ∷ []) (close down_cause) x.1 (without_graph k.records) [] y.0) a.device y.1)))),
      );
  closes_first = λ some. by a.first some;
  traces = λ outs h so_far t fits.
      let x = a.traces [] outs h so_far t fits in
      let y = k.traces (outs ++ a.records) x.after (so_far ++ []) x.traced (subst (λ (n : ℕ). FitsHoldings mid.opens n [] x.after) (sym (ap (λ (w : World). w.opens) a.world)) x.fits) in
      let opens : mid.world.opens ≡ before.world.opens = ap (λ (w : World). w.opens) a.world in
      record {
        after = y.after;
        traced = subst (λ z. Traced (outs ++ (a.records ++ k.records)) y.after z) (append-nil (so_far ++ [])) (subst (λ z. Traced z y.after ((so_far ++ []) ++ [])) (append_assoc outs a.records k.records) y.traced);
        fits = subst (λ (n : ℕ). FitsHoldings after.opens n [] y.after) opens y.fits;
      };
  world = world ∙ ap (λ (w : World). world_with_drives (with_net w (record mid.world.net { ports = [] })) []) a.world ∙ ap (λ (c : Client). world_with_drives (with_net before.world c) []) a.device;
  sound = sound;
  serials = made;
}
  where
    by : ((a.records ≡ []) × (mid.opens ≡ before.opens) ⊎ ClosesFirst down_cause a.records) → (before.opens.list ≡ [] → ⊥) → ClosesFirst down_cause (a.records ++ k.records)
    by (inl x) some = subst (λ z. ClosesFirst down_cause (z ++ k.records)) (sym x.0) (k.closes_first (λ none. some (ap (λ (m : Many). m.list) (sym x.1) ∙ none)))
    by (inr x) some = closes_front down_cause a.records k.records x
