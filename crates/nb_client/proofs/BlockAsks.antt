-- A drive is asked for its first block: the command waits for that, or the drive's open has ended.
use Rattle.std.proofs.Common.{◌≡◌, ℕ, ◌+◌, ◌*◌, ◌<◌, ◌≤◌, ◌==◌, Bool, true, false, cond, List, [], ◌∷◌, ◌++◌, Option, Some, None, refl, sym, ◌∙◌, ap, subst, append-nil, append_assoc, arith, eq-eqb}
use Rattle.std.specs.Prelude.{find}
use Rattle.std.specs.List.{AllByRecursion}
use Rattle.std.specs.Option.{is_some}
use Rattle.nb_chains.specs.declared.kind.ChainKind.TheVariants as chain
use Rattle.nb_terms.specs.declared.cause.Cause.{Cause}
use Rattle.nb_defs.specs.Records.{Out, out_texts, result}
use Rattle.nb_record.specs.Logged.{Logged, Puts}
use Rattle.nb_runner.proofs.Puts.{Puts-outs}
use Rattle.nb_traced.specs.Plain.{without_graph}
use Rattle.nb_traced.proofs.Plain.{plain_append}
use Rattle.nb_traced.specs.Holdings.{Holdings}
use Rattle.nb_traced.specs.Outputs.{Arrived, Traced, apart}
use Rattle.nb_stack.specs.Client.{Client}
use Rattle.nb_drivecmd.specs.declared.drive.Drive.{Drive}
use Rattle.nb_machine.specs.Courses.{ReadsBlock, block_lost, block_standing, running, stands, waiting}
use Rattle.nb_machine.specs.Drives.{first_block_read}
use Rattle.nb_machine.specs.Kinds.{read_last}
use Rattle.nb_machine.specs.Lives.{Live, continued, exchange, task}
use Rattle.nb_machine.specs.Running.{Running, with_result}
use Rattle.nb_machine.specs.Scripts.{is_number}
use Rattle.nb_machine.specs.States.{State, bare, still_hooked, with_live}
use Rattle.nb_machine.specs.Takings.{AllTake, Over, all_have, is_over, lives_on}
use Rattle.nb_runner.specs.World.{IsLinkOfState, with_net, world_with_drives}
use Rattle.nb_runner.specs.declared.world.World.{World}
use Rattle.nb_network.specs.Many.{AreOpensOf, AreSound, FitsHoldings, HasTiedOnlyOf, IsUntied, IsUntiedBut, Many}
use Rattle.nb_network.specs.Ones.{AsksOne}
use Rattle.nb_network.specs.Takes.{AnswersBy, awaited_over, still_awaited}
use Rattle.nb_network.specs.declared.over.HasEnded.{HasEnded}
use Rattle.nb_network.specs.declared.living.Living.{Living as TheOpen}
use Rattle.nb_network.proofs.Lists.{all_append, all_back, all_front}
use Rattle.nb_client.specs.Booting.{AsksFirstBlock, AsksFirst, block_pending}
use Rattle.nb_client.specs.Snapshots.{Snapshot, StandsForProgress, at_running, at_waiting, snapshot, state_of_world, waiting_for}
use Rattle.nb_client.specs.Soundness.{AreHooked, HasRoomIf, IsDriveAt, IsDriveKind, IsSound, IsAskedNoTask, IsUnaskedBut, has_its_open, kept_drives}
use Rattle.nb_client.specs.declared.pending.Expected.TheVariants.{Open}
use Rattle.nb_client.specs.declared.site.Site.{Site}
use Rattle.nb_client.specs.declared.stage.Stage.TheVariants as stage
use Rattle.nb_client.proofs.DriveKinds.{all_take, among, kind_stays, kinds_all, one_gone}
use Rattle.nb_client.proofs.DriveLists.{all_filter, all_weaker, kept_same, kept_twice}
use Rattle.nb_client.proofs.DriveWaits.{room_if_kept}
use Rattle.nb_client.proofs.OpenWaits.{nothing_waits}
use Rattle.nb_client.proofs.Served.{state_is}
use Rattle.nb_client.proofs.Silent.{silent_asked}
use Rattle.nb_client.proofs.Unasked.{unread, unread_first}
use Rattle.nb_client.proofs.Waits.{none_found, some_found}

-- of one open that took something, that lives on where it hasn't ended
one_lives : {devices : List Client} {put : List Out} {after : List Live} {over : List Over} {now : ℕ} (k : ℕ) (l : Live) → l.number ≡ k → AllTake devices (task first_block_read now) (l ∷ []) put after over → find (is_number k) over ≡ None → over ≡ []
one_lives k l is (lives_on _ _ _ link put more _ dev keeps none all_have) e = refl
one_lives {devices} {put} {after} {over} {now} k l is (is_over _ _ _ link x more _ cause dev keeps ends all_have) e =
    absurd (let found : Some (record { live = continued l (exchange (task first_block_read now) link x); cause = cause }) ≡ None = sym (ap (λ b. cond b (Some (record { live = continued l (exchange (task first_block_read now) link x); cause = cause })) None) (eq-eqb l.number k is)) ∙ e in cc)

one_ended : {devices : List Client} {put : List Out} {after : List Live} {over : List Over} {now : ℕ} (k : ℕ) (l : Live) (o : Over) → AllTake devices (task first_block_read now) (l ∷ []) put after over → find (is_number k) over ≡ Some o → over ≡ o ∷ []
one_ended k l o (lives_on _ _ _ link put more _ dev keeps none all_have) e = absurd (let no : None ≡ Some o = e in cc)
one_ended {devices} {put} {after} {over} {now} k l o (is_over _ _ _ link x more _ cause dev keeps ends all_have) e =
    by (l.number == k) e
  where
    by : (b : Bool) → cond b (Some (record { live = continued l (exchange (task first_block_read now) link x); cause = cause })) None ≡ Some o → record { live = continued l (exchange (task first_block_read now) link x); cause = cause } ∷ [] ≡ o ∷ []
    by true same = ap (λ (z : Over). z ∷ []) (let one : record { live = continued l (exchange (task first_block_read now) link x); cause = cause } ≡ o = cc in one)
    by false same = absurd (let no : None ≡ Some o = same in cc)

-- none is tied, but for one
untied_weaker : (k : ℕ) (os : List TheOpen) → AllByRecursion IsUntied os → AllByRecursion (IsUntiedBut k) os
untied_weaker k os h = all_weaker IsUntied (IsUntiedBut k) (λ o u other. u) os h

module _ (s : Running) (number : ℕ) (d : Option Drive) (before after : Site) (net : Client) (m : Many) (answer : Option HasEnded) (l0 l1 : Logged)
    (asks : (live : List Live) → AreOpensOf before.opens.graph before.opens.list live → AsksOne first_block_read number before.opens before.world.net before.world.time before.world.opens (Some number) answer m net l0 l1 (state_of_world before.world live))
    (sound : IsSound before.used before.world before.opens (stage.Running s)) (goes_on : AreSound before.world.w before.world.opens net m) (linked : IsLinkOfState (with_net before.world net))
    (used : after.used ≡ before.used) (opens : after.opens ≡ m) (world : after.world ≡ world_with_drives (with_net before.world net) (kept_drives m.list before.world.state.drives)) where
  abbrev w : World
  w = before.world

  abbrev ds : List Drive
  ds = w.state.drives

  abbrev w' : World
  w' = world_with_drives (with_net w net) (kept_drives m.list ds)

  -- among these opens
  module _ (live : List Live) (are : AreOpensOf before.opens.graph before.opens.list live) where
    abbrev t : State
    t = state_of_world w live

    x : AsksOne first_block_read number before.opens w.net w.time w.opens (Some number) answer m net l0 l1 t
    x = asks live are

    abbrev left : List Live
    left = x.does.front ++ (x.does.after ++ x.does.back)

    left_are : AreOpensOf m.graph m.list left
    left_are = x.does.state.live

    left_state : with_live t left ≡ state_of_world w' left
    left_state =
        ap (λ (cs : List Client). record (with_live t left) { devices = cs }) x.does.state.devices
        ∙ ap (λ (xs : List Drive). record t { devices = bare net ∷ []; live = left; drives = xs }) (sym (kept_same m.graph m.list left left_are ds))

    reads : ReadsBlock t s w.outer number d (without_graph x.records ++ block_lost x.does.over) (block_standing (with_live t left) s w.outer number d x.does.over)
    reads = record {
      asked = without_graph x.records;
      next = with_live t left;
      over = x.does.over;
      asks = record { before = x.does.front; behind = x.does.back; after = x.does.after; l = x.does.own; parted = x.does.all; its = x.does.number_is; takes = x.does.takes; leaves = ap (with_live t) (sym (append_assoc x.does.front x.does.after x.does.back)) };
      all = refl;
      stands_so = refl;
    }

    traced : (outs : List Out) (h : Holdings) (so_far : List Arrived) → Traced outs h so_far → FitsHoldings before.opens w.opens [] h → (g : Holdings) × Traced (outs ++ x.records) g so_far × FitsHoldings m w.opens [] g
    traced outs h so_far z fits =
        let on = x.traces [] outs h so_far z fits in
        (on.after, subst (λ y. Traced (outs ++ x.records) on.after y) (append-nil so_far) on.traced, on.fits)

    -- the command waits
    waits_at : answer ≡ None → AsksFirstBlock s number d before (snapshot before.used w' m (stage.Waiting s (Open (block_pending number d)))) l0 l1 live
    waits_at none =
        let over : x.does.over ≡ [] = one_lives number x.does.own x.does.number_is x.does.takes (none_found number x.does.over (subst (λ a. AnswersBy a (awaited_over (Some number) x.does.over)) none x.answers)) in
        let after_it = snapshot before.used w' m (stage.Waiting s (Open (block_pending number d))) in
        let to = block_standing (with_live t left) s w.outer number d x.does.over in
        let there : to ≡ waiting (state_of_world w' left) (waiting_for w' s (Open (block_pending number d))) =
        ap (block_standing (with_live t left) s w.outer number d) over ∙ ap (λ z. block_standing z s w.outer number d []) left_state in
        record {
          rest = x.records;
          puts = x.puts;
          there = record {
            to = to;
            reads = subst (λ z. ReadsBlock t s w.outer number d z to) (ap (λ o. without_graph x.records ++ block_lost o) over ∙ append-nil (without_graph x.records)) reads;
            stands_so = subst (λ z. StandsForProgress after_it (stands before.used z)) (sym there) (at_waiting before.used w' m s (Open (block_pending number d)) left left_are);
          };
          traces = λ outs h so_far z fits. let g = traced outs h so_far z fits in record { holdings = g.0; traced = g.1; fits = g.2 };
        }

    -- or it has ended
    ends_at : (e : HasEnded) (new : Logged) → answer ≡ Some e → Puts l1 new (out_texts (result e.cause ∷ [])) → AsksFirstBlock s number d before (snapshot before.used w' m (stage.Running (with_result s e.cause))) l0 new live
    ends_at e new some puts =
        let f = some_found number x.does.over e (subst (λ a. AnswersBy a (awaited_over (Some number) x.does.over)) some x.answers) in
        let over : x.does.over ≡ f.0 ∷ [] = one_ended number x.does.own f.0 x.does.takes f.1 in
        let cause : f.0.cause ≡ e.cause = f.2.cause in
        let after_it = snapshot before.used w' m (stage.Running (with_result s e.cause)) in
        let to = block_standing (with_live t left) s w.outer number d x.does.over in
        let last = result e.cause ∷ [] in
        let there : to ≡ running (state_of_world w' left) (with_result s e.cause) w.outer =
        ap (block_standing (with_live t left) s w.outer number d) over ∙ (ap (λ (k : Cause). running (with_live t left) (with_result s k) w.outer) cause ∙ ap (λ z. running z (with_result s e.cause) w.outer) left_state) in
        record {
          rest = x.records ++ last;
          puts = Puts-outs x.records last x.puts puts;
          there = record {
            to = to;
            reads = subst (λ z. ReadsBlock t s w.outer number d z to)
                (ap (λ o. without_graph x.records ++ block_lost o) over ∙ (ap (λ (k : Cause). without_graph x.records ++ (result k ∷ [])) cause ∙ sym (plain_append x.records last))) reads;
            stands_so = subst (λ z. StandsForProgress after_it (stands before.used z)) (sym there) (at_running before.used w' m (with_result s e.cause) left left_are);
          };
          traces = λ outs h so_far z fits.
              let g = traced outs h so_far z fits in
              record { holdings = g.0; traced = subst (λ y. Traced y g.0 so_far) (append_assoc outs x.records last) (apart (outs ++ x.records) last g.0 so_far g.1 (tt, tt)); fits = g.2 };
        }

  -- WHAT HOLDS THEN, of the opens of which the client knows

  abbrev known : AreHooked None before.opens ds
  known = sound.hooked

  abbrev y : AsksOne first_block_read number before.opens w.net w.time w.opens (Some number) answer m net l0 l1 (state_of_world w known.live)
  y = x known.live known.are

  around : AllByRecursion IsAskedNoTask (y.does.front ++ (y.does.own ∷ y.does.back))
  around = subst (AllByRecursion IsAskedNoTask) y.does.all known.unasked

  front_unasked : AllByRecursion IsAskedNoTask y.does.front
  front_unasked = all_front IsAskedNoTask y.does.front (y.does.own ∷ y.does.back) around

  back_unasked : AllByRecursion IsAskedNoTask (y.does.own ∷ y.does.back)
  back_unasked = all_back IsAskedNoTask y.does.front (y.does.own ∷ y.does.back) around

  kinds_left : AllByRecursion (λ (z : Drive). IsDriveAt z.open_number (left known.live known.are)) (kept_drives m.list ds)
  kinds_left = all_filter (λ (z : Drive). IsDriveAt z.open_number (left known.live known.are)) (has_its_open m.list) ds
      (kinds_all known.live (left known.live known.are)
      (λ k h. subst (IsDriveAt k) (append_assoc y.does.front y.does.after y.does.back)
      (among (λ l. l.number ≡ k → IsDriveKind l.kind) y.does.front y.does.back y.does.after y.does.own (kind_stays k (task first_block_read w.time)) y.does.all y.does.takes h)) ds known.kinds)

  hooked_left : (asked : Option ℕ) → AllByRecursion (IsUnaskedBut asked) (left known.live known.are) → AreHooked asked m (kept_drives m.list ds)
  hooked_left asked unasked = record {
    kept = kept_twice m.list ds;
    live = left known.live known.are;
    are = left_are known.live known.are;
    unasked = unasked;
    kinds = kinds_left;
  }

  made_less : m.graph.book.made ≤ 4 * w.opens
  made_less = omega (arith, y.same_made, sound.serials)

  -- the command waits
  pub waits_first : HasRoomIf (is_some d) ds → answer ≡ None → AsksFirst s number d before (snapshot after.used after.world after.opens (stage.Waiting s (Open (block_pending number d)))) l0 l1
  waits_first room none = rw (used, opens, world) (record {
    asks = λ live are. waits_at live are none;
    sound = record {
      time = sound.time;
      opens = goes_on;
      serials = made_less;
      tied = subst (λ a. HasTiedOnlyOf (still_awaited (Some number) a) m) none (y.tied.1 (untied_weaker number before.opens.list sound.tied));
      well = record {
        asked = record { fits = tt; backed = refl; waiting = nothing_waits chain.File (Some number) m };
        room = room_if_kept (is_some d) (has_its_open m.list) ds room;
        silent = silent_asked m number (left known.live known.are) (left_are known.live known.are) unread_left;
      };
      short = sound.short;
      named = sound.named;
      linked = record { address = linked.address; up = linked.up };
      hooked = hooked_left (Some number) unasked_left;
    };
    under_way = tt;
    same_script = λ at_work. absurd at_work;
  })
    where
      unread_all : (ls : List Live) → AllByRecursion IsAskedNoTask ls → AllByRecursion (λ l. read_last l ≡ None) ls
      unread_all ls h = all_weaker IsAskedNoTask (λ l. read_last l ≡ None) unread ls h

      unread_left : AllByRecursion (λ l. read_last l ≡ None) (left known.live known.are)
      unread_left = all_append (λ l. read_last l ≡ None) y.does.front (y.does.after ++ y.does.back) (unread_all y.does.front front_unasked)
          (all_append (λ l. read_last l ≡ None) y.does.after y.does.back (unread_first y.does.own back_unasked.0 y.does.takes) (unread_all y.does.back back_unasked.1))

      numbered : AllByRecursion (λ (l : Live). l.number ≡ number) y.does.after
      numbered = all_take (λ (l : Live). l.number ≡ number) (λ l link put h. h) y.does.takes (y.does.number_is, tt)

      unasked_left : AllByRecursion (IsUnaskedBut (Some number)) (left known.live known.are)
      unasked_left = all_append (IsUnaskedBut (Some number)) y.does.front (y.does.after ++ y.does.back) (all_weaker IsAskedNoTask (IsUnaskedBut (Some number)) (λ l u other. u) y.does.front front_unasked)
          (all_append (IsUnaskedBut (Some number)) y.does.after y.does.back (all_weaker (λ (l : Live). l.number ≡ number) (IsUnaskedBut (Some number)) (λ l same other. absurd (other same)) y.does.after numbered)
          (all_weaker IsAskedNoTask (IsUnaskedBut (Some number)) (λ l u other. u) y.does.back back_unasked.1))

  -- it has ended
  pub ends_first : (e : HasEnded) (new : Logged) → answer ≡ Some e → Puts l1 new (out_texts (result e.cause ∷ [])) → AsksFirst s number d before (snapshot after.used after.world after.opens (stage.Running (with_result s e.cause))) l0 new
  ends_first e new some puts = rw (used, opens, world) (record {
    asks = λ live are. ends_at live are e new some puts;
    sound = record {
      time = sound.time;
      opens = goes_on;
      serials = made_less;
      tied = y.tied.0 sound.tied;
      well = tt;
      short = sound.short;
      named = sound.named;
      linked = record { address = linked.address; up = linked.up };
      hooked = hooked_left None (subst (λ z. AllByRecursion IsAskedNoTask (y.does.front ++ (z ++ y.does.back))) (sym none_left) (all_append IsAskedNoTask y.does.front y.does.back front_unasked back_unasked.1));
    };
    under_way = tt;
    same_script = λ at_work. (e.cause, refl, refl);
  })
    where
      none_left : y.does.after ≡ []
      none_left = (one_gone number y.does.own (some_found number y.does.over e (subst (λ a. AnswersBy a (awaited_over (Some number) y.does.over)) some y.answers)).0 y.does.takes
          (some_found number y.does.over e (subst (λ a. AnswersBy a (awaited_over (Some number) y.does.over)) some y.answers)).1).0
