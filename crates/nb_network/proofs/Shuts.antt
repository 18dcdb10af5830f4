-- The run ends: one open is closed with all its ports, and what waits with it, or else waits on.
use Rattle.std.proofs.Common.{◌≡◌, ℕ, ◌≤◌, ◌||◌, ◌==◌, Bool, true, false, List, [], ◌∷◌, ◌++◌, map, Option, Some, None, refl, sym, ◌∙◌, ap, subst, append_assoc, append-nil, arith}
use Rattle.std.specs.List.{AllByRecursion, sum_by}
use Rattle.nb_terms.specs.declared.cause.Cause.{Cause}
use Rattle.nb_defs.specs.Records.{Out, out_texts, ended}
use Rattle.nb_frames.specs.Frames.{is_one_of}
use Rattle.nb_ledger.specs.Ledger.{run_state}
use Rattle.nb_traced.specs.Plain.{without_graph}
use Rattle.nb_traced.proofs.Plain.{plain_behind}
use Rattle.nb_record.specs.Logged.{Logged, Puts}
use Rattle.nb_runner.proofs.Puts.{Puts-outs}
use Rattle.nb_stack.specs.Bound.{without}
use Rattle.nb_stack.specs.Client.{Client}
use Rattle.nb_machine.specs.Lives.{Live, close}
use Rattle.nb_machine.specs.States.{State, bare, with_live}
use Rattle.nb_machine.specs.Takings.{AllTake}
use Rattle.nb_chains.specs.declared.chain.Chain.{Chain}
use Rattle.nb_chains.specs.declared.kind.ChainKind.{ChainKind}
use Rattle.nb_chains.specs.Chains.{chain_ids}
use Rattle.nb_teller.specs.Speakers.{carrier_number}
use Rattle.nb_traced.specs.Holdings.{Holdings, lowest_of, serials}
use Rattle.nb_traced.specs.Outputs.{Arrived, Traced, last_step, own_serials, ends_with_all}
use Rattle.nb_traced.specs.Pieces.{IsCallOn, event_records}
use Rattle.nb_network.specs.declared.living.Living.{Living}
use Rattle.nb_open.specs.Begins.{waiting_pieces}
use Rattle.nb_open.specs.Ends.{MayWaitBeside, ShutsWith, chain_ids_of}
use Rattle.nb_open.specs.declared.objects.OpenObjects.{OpenObjects}
use Rattle.nb_open.specs.declared.objects.OpenObjects.TheVariants as objects
use Rattle.nb_open.specs.Objects.{objects_ids}
use Rattle.nb_open.specs.Open.{pieces_of}
use Rattle.nb_network.specs.Closings.{ClosesMany, closes_with}
use Rattle.nb_network.specs.Many.{AreApart, AreOpensOf, AreRising, AreSound, FitsHoldings, HasOwnPort, IsApartFrom, IsLivingOf, IsStateOf, IsLivingOfSome, Many, WaitsBeside, bound_port, kin_of, lease_count_of, bare_open}
use Rattle.nb_network.specs.Shutting.{LetsWaitingGo, ShutsFirst, ends_beside, parted_by}
use Rattle.nb_network.specs.Takes.{TracesOn}
use Rattle.nb_network.proofs.Closes.{closes_before, closes_none, no_close}
use Rattle.nb_network.proofs.Lists.{AreAround, apart_around, count_without, opens_move, rising_without}
use Rattle.nb_network.proofs.Ports.{either_test, freed_port, stands_alone}
use Rattle.nb_network.proofs.Staying.{open_stays, waits_on}
use Rattle.nb_network.proofs.Stepping.{same_ports, texts_more, top_apart}
use Rattle.nb_network.proofs.Traces.{own_are, serials_are, traces_end}
use Rattle.nb_network.proofs.Hearing.{bare_is}

one_of_both : (xs ys : List ℕ) (x : ℕ) → is_one_of xs x ≡ false → is_one_of ys x ≡ false → is_one_of (xs ++ ys) x ≡ false
one_of_both [] ys x a b = b
one_of_both (z ∷ xs) ys x a b =
    either_test (x == z)
    (λ e. absurd (let no : true ≡ false = sym (ap (λ t. t || is_one_of xs x) e) ∙ a in cc))
    (λ e. ap (λ t. t || is_one_of (xs ++ ys) x) e ∙ one_of_both xs ys x (sym (ap (λ t. t || is_one_of xs x) e) ∙ a) b)

-- no object of it is one of these
abbrev pub IsFar : List ℕ → Living → Type 0
IsFar ids p = (x : ℕ) → is_one_of (objects_ids p.objects) x ≡ true → is_one_of ids x ≡ false

far_of : (o : Living) (with : Option Chain) (p : Living) → IsApartFrom (objects_ids o.objects) p → ((c : Chain) → with ≡ Some c → IsApartFrom (chain_ids c) p) → IsFar (objects_ids o.objects ++ chain_ids_of with) p
far_of o None p a f x own = one_of_both (objects_ids o.objects) [] x (a x own) refl
far_of o (Some c) p a f x own = one_of_both (objects_ids o.objects) (chain_ids c) x (a x own) (f c refl x own)

far_all : (o : Living) (with : Option Chain) (os : List Living) → AllByRecursion (IsApartFrom (objects_ids o.objects)) os → ((c : Chain) → with ≡ Some c → AllByRecursion (IsApartFrom (chain_ids c)) os) → AllByRecursion (IsFar (objects_ids o.objects ++ chain_ids_of with)) os
far_all o with [] a f = tt
far_all o with (p ∷ os) a f = (far_of o with p a.0 (λ c e. (f c e).0), far_all o with os a.1 (λ c e. (f c e).1))

with_is : (now : Bool) (waits : Option Chain) (c : Chain) → (parted_by now waits).0 ≡ Some c → waits ≡ Some c
with_is true waits c e = e
with_is false waits c e = absurd (cc)

left_is : (now : Bool) (waits : Option Chain) (c : Chain) → (parted_by now waits).1 ≡ Some c → (waits ≡ Some c) × ((parted_by now waits).0 ≡ None)
left_is true waits c e = absurd (cc)
left_is false waits c e = (e, refl)

-- beside a connection nothing ends with it
pub may_beside : (os : OpenObjects) (same : Bool) (waits : Option Chain) → MayWaitBeside (parted_by (ends_beside os same) waits).0 os
may_beside (objects.Chain kind chain) same waits = tt
may_beside (objects.Web port own chain) same waits = refl
may_beside (objects.Drive port own chain) same waits = refl

module _ (kind : ChainKind) (m : Many) (net : Client) (w opens now : ℕ) (cause : Cause) (o : Living) (rest : List Living) (waits left : Option Chain) (m1 : Many) (net1 : Client) (old mid : Logged) (is : m.list ≡ o ∷ rest) (sound : AreSound w opens net m) (beside : (c : Chain) → waits ≡ Some c → WaitsBeside kind c m)
    (x : ShutsFirst kind m net o rest cause waits left m1 net1 old mid) where
  abbrev pub with_it : Option Chain
  with_it = (parted_by x.now waits).0

  around : AreAround [] o rest
  around = apart_around [] o rest (subst AreApart is sound.apart)

  far : AllByRecursion (IsFar (objects_ids o.objects ++ chain_ids_of with_it)) rest
  far = far_all o with_it rest around.back (λ c e. (subst (AllByRecursion (IsApartFrom (chain_ids c))) is (beside c (with_is x.now waits c e)).apart).1)

  later : m.graph.book.made ≤ m1.graph.book.made
  later = let e = x.shuts.others.same_made in omega (arith, e)

  stay : (p : Living) (l : Live) → IsFar (objects_ids o.objects ++ chain_ids_of with_it) p → IsLivingOf m.graph p l → IsLivingOf m1.graph p l
  stay p l a i = open_stays m.graph m1.graph p l x.noded (λ y own. x.shuts.others.others y (i.chained.given y own) (a y own)) later i

  all_live : (os : List Living) → AllByRecursion (IsFar (objects_ids o.objects ++ chain_ids_of with_it)) os → AllByRecursion (IsLivingOfSome m.graph) os → AllByRecursion (IsLivingOfSome m1.graph) os
  all_live [] a i = tt
  all_live (p ∷ os) a i = ((i.0.0, stay p i.0.0 a.0 i.0.1), all_live os a.1 i.1)

  pub shut_net : net1 ≡ record net { ports = net1.ports }
  shut_net = same_ports net net1 (without (carrier_number o.speaker.carrier) o.speaker.own_port net.ports) x.net_is

  pub shut_sound : AreSound w opens net1 m1
  shut_sound =
      let rising = subst (AreRising 0 opens) is sound.rising in
      let own = subst (AllByRecursion (HasOwnPort w)) is sound.own in
      let one = subst (λ os. sum_by lease_count_of os ≤ 1) is sound.one_lease in
      let alone = stands_alone w opens [] o rest sound.opens_fit rising own one in
      record {
        w_fits = sound.w_fits;
        opens_fit = sound.opens_fit;
        ports = ap (λ (c : Client). c.ports) x.net_is ∙ ap (without (carrier_number o.speaker.carrier) o.speaker.own_port) (sound.ports ∙ ap (map bound_port) is) ∙ freed_port [] o rest tt alone.back ∙ ap (map bound_port) (sym x.list);
        rising = subst (AreRising 0 opens) (sym x.list) (rising_without 0 opens [] o rest rising);
        own = subst (AllByRecursion (HasOwnPort w)) (sym x.list) own.1;
        one_lease = subst (λ os. sum_by lease_count_of os ≤ 1) (sym x.list) (count_without lease_count_of [] o rest 1 one);
        lives = subst (AllByRecursion (IsLivingOfSome m1.graph)) (sym x.list) (all_live rest far (subst (AllByRecursion (IsLivingOfSome m.graph)) is sound.lives).1);
        apart = subst AreApart (sym x.list) around.rest;
        room = x.shuts.same_room ∙ sound.room;
      }

  -- what waits on
  pub left_beside : (c : Chain) → left ≡ Some c → WaitsBeside kind c m1
  left_beside c e =
      let l = left_is x.now waits c (sym x.parts ∙ e) in
      let b = beside c l.0 in
      let apart = subst (AllByRecursion (IsApartFrom (chain_ids c))) is b.apart in
      let no : is_one_of (objects_ids o.objects ++ chain_ids_of with_it) c.top.0 ≡ false = one_of_both (objects_ids o.objects) (chain_ids_of with_it) c.top.0 (top_apart c o apart.0) (ap (λ z. is_one_of (chain_ids_of z) c.top.0) l.1) in
      record {
        waits = waits_on kind c m.graph m1.graph (x.shuts.others.others c.top.0 b.waits.fresh.given no) later b.waits;
        apart = subst (AllByRecursion (IsApartFrom (chain_ids c))) (sym x.list) apart.1;
      }

  abbrev pub first_put : List Out
  first_put = x.shuts.records ++ ended o.speaker.number cause ∷ []

  -- where it ends alone
  alone_traces : (with : Option Chain) → ShutsWith kind (bare_open o) with cause net m.graph m1.graph x.told → with ≡ None → (outs : List Out) (h : Holdings) (so_far : List Arrived) → Traced outs h so_far → (waits : Option Chain) → FitsHoldings m opens (waiting_pieces kind waits) h →
      (s : ShutsWith kind (bare_open o) with cause net m.graph m1.graph x.told) → TracesOn m opens (waiting_pieces kind waits) (s.records ++ ended o.speaker.number cause ∷ []) [] m1 opens (waiting_pieces kind waits) outs h so_far
  alone_traces (Some c) z e outs h so_far traced waits fits s = absurd (cc)
  alone_traces None z e outs h so_far traced waits fits s =
      (traces_end (last_step outs) m opens [] o rest None s.records cause m1 is x.list
      (subst (λ ids. IsCallOn o.speaker.number ids (lowest_of (own_serials (kin_of o))) None s.records (run_state m.graph.book []) (run_state m1.graph.book [])) (append-nil (own_serials (kin_of o))) s.call) s.close
      (λ y own. s.gone y (subst (λ ids. is_one_of ids y ≡ true) (sym (append-nil (objects_ids o.objects))) own)) (waiting_pieces kind waits) outs h so_far refl traced fits).0

  -- where what waits ends with it
  both_traces : (c : Chain) (s : ShutsWith kind (bare_open o) (Some c) cause net m.graph m1.graph x.told) (outs : List Out) (h : Holdings) (so_far : List Arrived) → Traced outs h so_far → FitsHoldings m opens (pieces_of kind c) h →
      TracesOn m opens (pieces_of kind c) (s.records ++ ended o.speaker.number cause ∷ []) [] m1 opens [] outs h so_far
  both_traces c s outs h so_far traced fits =
      let t = run_state m1.graph.book [] in
      let living : h.living ≡ kin_of o ∷ map kin_of rest = fits.living ∙ ap (map kin_of) is in
      let ids : own_serials (kin_of o) ++ serials h.waits ≡ objects_ids o.objects ++ chain_ids c = ap (λ z. z ++ serials h.waits) (own_are o) ∙ ap (λ z. objects_ids o.objects ++ serials z) fits.waiting ∙ ap (λ z. objects_ids o.objects ++ z) (serials_are kind c) in
      let h2 : Holdings = record { state = t; living = map kin_of rest; waits = []; begun = h.begun } in
      record {
        after = h2;
        traced = subst (λ z. Traced (outs ++ (s.records ++ (ended o.speaker.number cause ∷ []))) h2 z) (sym (append-nil so_far))
            (ends_with_all outs s.records h so_far [] (map kin_of rest) (kin_of o) t cause traced living
            (subst (λ z. IsCallOn o.speaker.number (own_serials (kin_of o) ++ serials z) (lowest_of (own_serials (kin_of o))) None s.records h.state t) (sym fits.waiting)
            (subst (λ z. IsCallOn o.speaker.number (own_serials (kin_of o) ++ serials (pieces_of kind c)) (lowest_of (own_serials (kin_of o))) None s.records z t) (sym fits.state) s.call)) s.close
            (λ y own. s.gone y (subst (λ z. is_one_of z y ≡ true) ids own)));
        fits = record { state = refl; living = ap (map kin_of) (sym x.list); waiting = refl; numbered = fits.numbered };
      }

  first_traces_by : (b : Bool) (z : Option Chain) (s : ShutsWith kind (bare_open o) (parted_by b z).0 cause net m.graph m1.graph x.told) (outs : List Out) (h : Holdings) (so_far : List Arrived) → Traced outs h so_far → FitsHoldings m opens (waiting_pieces kind z) h →
      TracesOn m opens (waiting_pieces kind z) (s.records ++ ended o.speaker.number cause ∷ []) [] m1 opens (waiting_pieces kind (parted_by b z).1) outs h so_far
  first_traces_by true None s outs h so_far traced fits = alone_traces None s refl outs h so_far traced None fits s
  first_traces_by true (Some c) s outs h so_far traced fits = both_traces c s outs h so_far traced fits
  first_traces_by false z s outs h so_far traced fits = alone_traces None s refl outs h so_far traced z fits s

  module _ (m2 : Many) (new : Logged) (y : ClosesMany m1 net1 now opens cause (waiting_pieces kind left) [] m2 mid new) where
    shuts_live : (s : State) (ls : List Live) → IsStateOf m net now (with_live s ls) → closes_with (with_live s ls) cause (without_graph (first_put ++ y.records))
    shuts_live s [] state = absurd (subst (λ os. AreOpensOf m.graph os []) is state.live)
    shuts_live s (l ∷ ls) state =
        let i : AreOpensOf m.graph (o ∷ rest) (l ∷ ls) = subst (λ os. AreOpensOf m.graph os (l ∷ ls)) is state.live in
        closes_before s net l ls cause o.speaker.number x.shuts.records y.records state.devices i.0.called.device i.0.called.number (x.shuts.keeps l (bare_is i.0)) (x.shuts.its_end l.number)
        (y.closes (with_live s ls) (record {
          devices = state.devices ∙ ap (λ c. bare c ∷ []) (sym shut_net);
          time = state.time;
          live = subst (λ os. AreOpensOf m1.graph os ls) (sym x.list) (opens_move m.graph m1.graph (IsFar (objects_ids o.objects ++ chain_ids_of with_it)) stay rest ls far i.1);
        }))

    pub shuts_more : ClosesMany m net now opens cause (waiting_pieces kind waits) [] m2 old new
    shuts_more = record {
      records = first_put ++ y.records;
      puts = Puts-outs first_put y.records (subst (Puts old mid) (ap (λ z. z ++ out_texts (ended o.speaker.number cause ∷ [])) x.shuts.text ∙ sym (texts_more x.shuts.records (ended o.speaker.number cause ∷ []))) x.puts) y.puts;
      none = y.none;
      closes_first = λ some. let f = x.shuts.closes_first in (f.0, (f.1 ++ ended o.speaker.number cause ∷ []) ++ y.records, ap (λ z. (z ++ ended o.speaker.number cause ∷ []) ++ y.records) f.2);
      closes = λ s state. shuts_live s s.live (record { devices = state.devices; time = state.time; live = state.live });
      traces = λ outs h so_far traced fits.
          let a : TracesOn m opens (waiting_pieces kind waits) first_put [] m1 opens (waiting_pieces kind left) outs h so_far =
          subst (λ z. TracesOn m opens (waiting_pieces kind waits) first_put [] m1 opens (waiting_pieces kind z) outs h so_far) (sym x.parts) (first_traces_by x.now waits x.shuts outs h so_far traced fits) in
          let b = y.traces (outs ++ first_put) a.after (so_far ++ []) a.traced a.fits in
          record {
            after = b.after;
            traced = subst (λ z. Traced (outs ++ (first_put ++ y.records)) b.after z) (ap (λ z. z ++ []) (append-nil so_far)) (subst (λ z. Traced z b.after ((so_far ++ []) ++ [])) (append_assoc outs first_put y.records) b.traced);
            fits = b.fits;
          };
    }

-- NONE LIVES

pub shuts_none : (kind : ChainKind) (waits : Option Chain) (m : Many) (net : Client) (w opens now : ℕ) (cause : Cause) (m' : Many) (old new : Logged) → m.list ≡ [] → AreSound w opens net m → LetsWaitingGo kind waits m net m' old new → ClosesMany m net now opens cause (waiting_pieces kind waits) [] m' old new
shuts_none kind None m net w opens now cause m' old new is sound x =
    subst (λ z. ClosesMany m net now opens cause [] [] z old new) (sym x.0) (subst (λ z. ClosesMany m net now opens cause [] [] m old z) (sym x.1) (closes_none m net now opens cause old is))
shuts_none kind (Some c) m net w opens now cause m' old new is sound x =
    let g = (x.2 w opens sound).0 in
    record {
      records = event_records g.events;
      puts = subst (Puts old new) g.text_is x.1;
      none = g.same_list ∙ is;
      closes_first = λ f. absurd (f is);
      closes = λ s state. let n = no_close m.graph s.devices cause s.live (subst (λ os. AreOpensOf m.graph os s.live) is state.live) in
          (n.0, subst (λ z. AllTake s.devices (close cause) s.live z [] n.0) (sym (ap without_graph (sym (append-nil (event_records g.events))) ∙ plain_behind g.events [])) n.1);
      traces = g.traces;
    }

pub let_sound : (kind : ChainKind) (waits : Option Chain) (m : Many) (net : Client) (w opens : ℕ) (m' : Many) (old new : Logged) → AreSound w opens net m → LetsWaitingGo kind waits m net m' old new → AreSound w opens net m'
let_sound kind None m net w opens m' old new sound x = subst (AreSound w opens net) (sym x.0) sound
let_sound kind (Some c) m net w opens m' old new sound x = (x.2 w opens sound).1
