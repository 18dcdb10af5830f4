-- Something comes to one of the opens that live: what it is to the machine, to the output, and to all others.
use Rattle.std.proofs.Common.{◌≡◌, ℕ, ◌≤◌, ◌==◌, ◌||◌, true, false, cond, List, [], ◌∷◌, ◌++◌, map, Option, Some, None, refl, sym, ◌∙◌, ap, subst, append-nil, arith, eq-eqb}
use Rattle.std.specs.Prelude.{slice_get}
use Rattle.std.specs.List.{AllByRecursion, sum_by}
use Rattle.std.proofs.lemmas.Grind.{flat_map-append}
use Rattle.nb_defs.specs.Records.{Out, out_text, out_texts, ended}
use Rattle.nb_defs.specs.Causes.{is_ok_cause}
use Rattle.nb_frames.specs.Frames.{KeepsOthers, is_one_of}
use Rattle.nb_graph.specs.Noded.{AreNoded}
use Rattle.nb_graph.specs.Whole.{Objects}
use Rattle.nb_ledger.specs.Ledger.{run_state}
use Rattle.nb_ledger.specs.declared.event.Way.{Way}
use Rattle.nb_nodes.specs.declared.obj.Obj.{Obj}
use Rattle.nb_nodes.specs.Objects.{rank_of_obj}
use Rattle.nb_traced.specs.Plain.{without_graph}
use Rattle.nb_traced.proofs.Plain.{plain_append}
use Rattle.nb_record.specs.Logged.{Logged, Puts}
use Rattle.nb_stack.specs.Bound.{without}
use Rattle.nb_stack.specs.Client.{Client}
use Rattle.nb_stack.specs.declared.ports.Port.{Port}
use Rattle.nb_machine.specs.Lives.{OpenInput, Live, exchange, continued}
use Rattle.nb_machine.specs.States.{bare, net0}
use Rattle.nb_machine.specs.Takings.{Over, AllTake, all_have, lives_on, is_over}
use Rattle.nb_chains.specs.declared.chain.Chain.{Chain}
use Rattle.nb_chains.specs.declared.kind.ChainKind.{ChainKind}
use Rattle.nb_chains.specs.Chains.{below_ids, chain_ids}
use Rattle.nb_teller.specs.Speakers.{carrier_number}
use Rattle.nb_teller.specs.Spelling.{Spelling}
use Rattle.nb_traced.specs.Holdings.{lowest_of}
use Rattle.nb_traced.specs.Outputs.{Arrived, CallsOpen, own_serials}
use Rattle.nb_open.specs.declared.ended.Ended.{Ended}
use Rattle.nb_network.specs.declared.living.Living.{Living}
use Rattle.nb_open.specs.Objects.{objects_ids}
use Rattle.nb_open.specs.DriveAnswers.{found_bytes}
use Rattle.nb_open.specs.Exchanges.{Exchanges, HandsOut, IsLeaseMessage, last_put, with_exchange}
use Rattle.nb_network.specs.declared.over.HasEnded.{HasEnded}
use Rattle.nb_network.specs.Many.{AreApart, AreOpensOf, AreRising, AreSound, HasOwnPort, HasTiedOnlyOf, IsApartFrom, IsNewestBut, IsLivingOf, IsLivingOfSome, Many, WaitsBeside, bound_port, kin_of, lease_count_of, bare_open}
use Rattle.nb_network.specs.Steps.{ComesAt, GoesOnSo, EndIsSettled, TracesAt, answer_for, freed_of, left_by, step_records}
use Rattle.nb_network.specs.Takes.{AnswersBy, BeginsWithEntry, IsEndOf, KeepsWaiting, awaited_over}
use Rattle.nb_network.proofs.Awaiting.{tied_ends, tied_stay, lived, newest_ends, newest_stays}
use Rattle.nb_network.proofs.BareExchanges.{exchanges_bare}
use Rattle.nb_network.proofs.Lists.{HasOtherNumber, all_append, all_at, all_back, all_but, all_front, AreAround, apart_around, count_without, opens_move, rising_without}
use Rattle.nb_network.proofs.Ports.{either_test, freed_port, stands_alone}
use Rattle.nb_network.proofs.Staying.{open_stays, waits_on}
use Rattle.nb_network.proofs.Traces.{begins_entry, came_by, traces_end, traces_on}
use Rattle.nb_network.specs.Drives.{DriveNews, has_answered, news_by, noted, last_read_by}
use Rattle.nb_network.proofs.Hearing.{IsLastOf, known_last, noted_is}
use Rattle.nb_network.proofs.Noting.{all_noted, apart_noted, leases_noted, map_noted, port_noted, rising_noted}

-- WHAT IT GIVES

-- where the call is by an entry from outside, its records begin with that
abbrev pub BeginsBySome : List Arrived → List Out → Type 0
BeginsBySome [] records = Unit {0}
BeginsBySome (a ∷ more) records = BeginsWithEntry (a ∷ more) records

begins_some : (n : ℕ) (o : Living) (way : Option Way) (records : List Out) (g h : Objects Obj) → CallsOpen (kin_of o) way records (run_state g.book []) (run_state h.book []) → (more : List Out) → BeginsBySome (came_by n o.speaker.number way) (records ++ more)
begins_some n o None records g h call more = tt
begins_some n o (Some way) records g h call more = begins_entry o.speaker.number (own_serials (kin_of o)) (lowest_of (own_serials (kin_of o))) way records (run_state g.book []) (run_state h.book []) call more

-- of this open of the machine
pub record OneGives (m : Many) (net : Client) (opens : ℕ) (before : List Living) (o : Living) (behind : List Living) (l : Live) (came : OpenInput) (way : Option Way) (begun : Option ℕ) (awaited : Option ℕ) (end : Option Ended) (heard : DriveNews) (answer : Option HasEnded) (m' : Many) (old new : Logged) : Type 0 where
  pub records : List Out
  pub puts : Puts old new (out_texts (step_records begun ++ records))
  pub after : List Live
  pub over : List Over
  pub takes : AllTake (bare net ∷ []) came (l ∷ []) (without_graph records) after over
  pub list : m'.list ≡ before ++ (left_by end heard o ++ behind)
  pub lives : AreOpensOf m'.graph (left_by end heard o) after
  pub answers : AnswersBy answer (awaited_over awaited over)
  pub traces : (n : ℕ) → TracesAt n m opens records (came_by n o.speaker.number way) m' opens
  pub first : (n : ℕ) → BeginsBySome (came_by n o.speaker.number way) records

answer_none : (awaited : Option ℕ) → awaited_over awaited [] ≡ None
answer_none None = refl
answer_none (Some k) = refl

pub answers_none : (awaited : Option ℕ) (answer : Option HasEnded) → answer ≡ None → AnswersBy answer (awaited_over awaited [])
answers_none awaited answer e = subst (λ z. AnswersBy z (awaited_over awaited [])) (sym e) (subst (AnswersBy None) (sym (answer_none awaited)) tt)

pub is_end : (o : Living) (l : Live) (e : Ended) (s : Spelling) → l.number ≡ o.speaker.number → (is_ok_cause e.cause ≡ true → HandsOut (bare_open o) l e s) → IsLeaseMessage (found_bytes o.objects s.bytes) → IsLastOf l o.drive →
    IsEndOf (record { number = o.speaker.number; cause = e.cause; body = e.body; moved = e.moved; bytes = found_bytes o.objects s.bytes; address = s.address; answered = has_answered o; read = last_read_by o }) (record { live = l; cause = e.cause })
is_end o l e s same hands message answers = record {
  number = same;
  cause = refl;
  body = λ ok. (hands ok).body;
  moved = λ ok. (hands ok).moved;
  bytes = λ ok. (hands ok).bytes;
  address = λ ok. (hands ok).address;
  message = message;
  answered = answers.0;
  read = answers.1;
}

answers_one : (awaited : Option ℕ) (o : Living) (l : Live) (e : Ended) (s : Spelling) → l.number ≡ o.speaker.number → (is_ok_cause e.cause ≡ true → HandsOut (bare_open o) l e s) → IsLeaseMessage (found_bytes o.objects s.bytes) → IsLastOf l o.drive →
    AnswersBy (answer_for awaited o e s) (awaited_over awaited (record { live = l; cause = e.cause } ∷ []))
answers_one None o l e s same hands message answers = tt
answers_one (Some k) o l e s same hands message answers =
    let number = o.speaker.number in
    let over : Over = record { live = l; cause = e.cause } in
    let found : HasEnded = record { number = number; cause = e.cause; body = e.body; moved = e.moved; bytes = found_bytes o.objects s.bytes; address = s.address; answered = has_answered o; read = last_read_by o } in
    subst (λ b. AnswersBy (answer_for (Some k) o e s) (cond b (Some over) None)) (sym (ap (λ z. z == k) same))
    (either_test {P = AnswersBy (cond (number == k) (Some found) None) (cond (number == k) (Some over) None)} (number == k)
    (λ t. subst (λ b. AnswersBy (cond b (Some found) None) (cond b (Some over) None)) (sym t) (is_end o l e s same hands message answers))
    (λ f. subst (λ b. AnswersBy (cond b (Some found) None) (cond b (Some over) None)) (sym f) tt))

pub its_link : (net : Client) (device : ℕ) → device ≡ net0 → slice_get (bare net ∷ []) device ≡ Some (bare net)
its_link net device e = ap (slice_get (bare net ∷ [])) e

pub texts_more : (xs ys : List Out) → out_texts (xs ++ ys) ≡ out_texts xs ++ out_texts ys
texts_more xs ys = flat_map-append out_text xs ys

module _ (suits : Live → Type 0) (came : OpenInput) (way : Option Way) (begun : Option ℕ) (m : Many) (net : Client) (opens : ℕ) (before : List Living) (o : Living) (behind : List Living) (awaited : Option ℕ) (m' : Many) (old new : Logged) (is : m.list ≡ before ++ o ∷ behind) where
  gives_on : (told : Spelling) (heard : DriveNews) (answer : Option HasEnded) (net' : Client) → heard ≡ news_by came told → EndIsSettled None before o behind net begun awaited heard told m'.list net' answer old new →
      (l : Live) → IsLivingOf m.graph o l → Exchanges (bare_open o) l came (bare net) way m.graph m'.graph told None → OneGives m net opens before o behind l came way begun awaited None heard answer m' old new
  gives_on told heard answer net' hears s l i x =
      let put = without_graph x.records in
      let lives : IsLivingOf m'.graph (noted (news_by came told) o) (continued l (exchange came (bare net) put)) = noted_is m.graph l came (bare net) put told o i m'.graph x.does.lives (x.answers (bare net) put) in
      record {
        records = x.records;
        puts = subst (Puts old new) (ap (λ z. out_texts (step_records begun) ++ z) x.text ∙ sym (texts_more (step_records begun) x.records)) s.3;
        after = continued l (exchange came (bare net) put) ∷ [];
        over = [];
        takes = subst (λ z. AllTake (bare net ∷ []) came (l ∷ []) z (continued l (exchange came (bare net) put) ∷ []) []) (append-nil put)
            (lives_on l [] [] (bare net) put [] [] (its_link net l.device i.called.device) x.does.keeps x.does.no_end all_have);
        list = s.0;
        lives = (subst (λ z. IsLivingOf m'.graph (noted z o) (continued l (exchange came (bare net) put))) (sym hears) lives, tt);
        answers = answers_none awaited answer s.2;
        traces = λ n. traces_on heard n m opens before o behind way x.records m' is s.0 x.does.call x.does.no_close;
        first = λ n. subst (BeginsBySome (came_by n o.speaker.number way)) (append-nil x.records) (begins_some n o way x.records m.graph m'.graph x.does.call []);
      }

  gives_last : (e : Ended) (told : Spelling) (heard : DriveNews) (answer : Option HasEnded) (net' : Client) → heard ≡ news_by came told → EndIsSettled (Some e) before o behind net begun awaited heard told m'.list net' answer old new →
      (l : Live) → IsLivingOf m.graph o l → Exchanges (bare_open o) l came (bare net) way m.graph m'.graph told (Some e) → OneGives m net opens before o behind l came way begun awaited (Some e) heard answer m' old new
  gives_last e told heard answer net' hears s l i x =
      let k = o.speaker.number in
      let all = x.records ++ ended k e.cause ∷ [] in
      let put = last_put l x.records e.cause in
      let same : put ≡ without_graph all = ap (λ z. without_graph x.records ++ (ended z e.cause ∷ [])) i.called.number ∙ sym (plain_append x.records (ended k e.cause ∷ [])) in
      let after = continued l (exchange came (bare net) put) in
      let over : Over = record { live = after; cause = e.cause } in
      let known : IsLastOf after (noted heard o).drive = subst (λ z. IsLastOf after (noted z o).drive) (sym hears) (known_last m.graph l came (bare net) put told o i (x.answers (bare net) put)) in
      record {
        records = all;
        puts = subst (Puts old new) (ap (λ z. out_texts (step_records begun) ++ (z ++ out_texts (ended k e.cause ∷ []))) x.text
            ∙ ap (λ z. out_texts (step_records begun) ++ z) (sym (texts_more x.records (ended k e.cause ∷ []))) ∙ sym (texts_more (step_records begun) all)) s.3;
        after = [];
        over = over ∷ [];
        takes = subst (λ z. AllTake (bare net ∷ []) came (l ∷ []) z [] (over ∷ [])) (append-nil put ∙ same)
            (is_over l [] [] (bare net) put [] [] e.cause (its_link net l.device i.called.device) x.does.keeps x.does.its_end all_have);
        list = s.0;
        lives = tt;
        answers = subst (λ z. AnswersBy z (awaited_over awaited (over ∷ []))) (sym s.2) (answers_one awaited (noted heard o) after e told i.called.number x.does.hands x.does.message known);
        traces = λ n. traces_end n m opens before o behind way x.records e.cause m' is s.0 x.does.call x.does.close x.does.released.gone;
        first = λ n. begins_some n o way x.records m.graph m'.graph x.does.call (ended k e.cause ∷ []);
      }

  gives_by : (end : Option Ended) (told : Spelling) (heard : DriveNews) (answer : Option HasEnded) (net' : Client) → heard ≡ news_by came told → EndIsSettled end before o behind net begun awaited heard told m'.list net' answer old new →
      (l : Live) → IsLivingOf m.graph o l → Exchanges (bare_open o) l came (bare net) way m.graph m'.graph told end → OneGives m net opens before o behind l came way begun awaited end heard answer m' old new
  gives_by None told heard answer net' hears s l i x = gives_on told heard answer net' hears s l i x
  gives_by (Some e) told heard answer net' hears s l i x = gives_last e told heard answer net' hears s l i x

  pub one_gives : (end : Option Ended) (answer : Option HasEnded) (net' : Client) → (c : ComesAt suits came way begun m net before o behind awaited end answer m' net' old new) →
      (l : Live) → IsLivingOf m.graph o l → suits l → OneGives m net opens before o behind l came way begun awaited end c.heard answer m' old new
  one_gives end answer net' c l i fit = gives_by end c.told c.heard answer net' (c.heard_is l fit) c.settles l i (exchanges_bare (bare_open o) l came net way m.graph m'.graph c.told end (c.does l i fit))

-- WHAT IT LEAVES

-- all else is as it was
pub record LeavesAll (m : Many) (net : Client) (w opens : ℕ) (o : Living) (m' : Many) (net' : Client) : Type 0 where
  pub sound : AreSound w opens net' m'
  pub waiting : KeepsWaiting m m'
  pub others : (os : List Living) (ls : List Live) → AllByRecursion (IsApartFrom (objects_ids o.objects)) os → AreOpensOf m.graph os ls → AreOpensOf m'.graph os ls
  pub same_net : net' ≡ record net { ports = net'.ports }

pub top_first : (c : Chain) → is_one_of (chain_ids c) c.top.0 ≡ true
top_first c = ap (λ b. b || is_one_of (below_ids c.below) c.top.0) (eq-eqb c.top.0 c.top.0 refl)

pub top_apart : (c : Chain) (o : Living) → IsApartFrom (chain_ids c) o → is_one_of (objects_ids o.objects) c.top.0 ≡ false
top_apart c o far =
    either_test (is_one_of (objects_ids o.objects) c.top.0) (λ t. absurd (let no : true ≡ false = sym (top_first c) ∙ far c.top.0 t in cc)) (λ f. f)

module _ (g h : Objects Obj) (o : Living) (noded : AreNoded rank_of_obj h) (kept : KeepsOthers (is_one_of (objects_ids o.objects)) g h) where
  pub other_open : (p : Living) (l : Live) → IsApartFrom (objects_ids o.objects) p → IsLivingOf g p l → IsLivingOf h p l
  other_open p l far i = open_stays g h p l noded (λ x own. kept.others x (i.chained.given x own) (far x own)) (let e = kept.same_made in omega (arith, e)) i

  pub other_opens : (os : List Living) (ls : List Live) → AllByRecursion (IsApartFrom (objects_ids o.objects)) os → AreOpensOf g os ls → AreOpensOf h os ls
  other_opens os ls far i = opens_move g h (IsApartFrom (objects_ids o.objects)) other_open os ls far i

  pub other_lives : (os : List Living) → AllByRecursion (IsApartFrom (objects_ids o.objects)) os → AllByRecursion (IsLivingOfSome g) os → AllByRecursion (IsLivingOfSome h) os
  other_lives [] far i = tt
  other_lives (p ∷ os) far i = ((i.0.0, other_open p i.0.0 far.0 i.0.1), other_lives os far.1 i.1)

  -- what waits is apart from it
  pub other_waits : (kind : ChainKind) (c : Chain) (list list' : List Living) → AllByRecursion (IsApartFrom (chain_ids c)) list' → IsApartFrom (chain_ids c) o → WaitsBeside kind c (record { graph = g; list = list }) →
      WaitsBeside kind c (record { graph = h; list = list' })
  other_waits kind c list list' apart far w = record {
    waits = waits_on kind c g h (kept.others c.top.0 w.waits.fresh.given (top_apart c o far)) (let e = kept.same_made in omega (arith, e)) w.waits;
    apart = apart;
  }

pub same_ports : (net net' : Client) (ports : List Port) → net' ≡ record net { ports = ports } → net' ≡ record net { ports = net'.ports }
same_ports net net' ports e = e ∙ ap (λ z. record net { ports = z }) (sym (ap (λ (c : Client). c.ports) e))

module _ (m : Many) (net : Client) (w opens : ℕ) (before : List Living) (o : Living) (behind : List Living) (m' : Many) (net' : Client) (is : m.list ≡ before ++ o ∷ behind) (noded : AreNoded rank_of_obj m'.graph) (kept : KeepsOthers (is_one_of (objects_ids o.objects)) m.graph m'.graph) (room : m'.graph.book.room ≡ m.graph.book.room) (sound : AreSound w opens net m) where
  around : AreAround before o behind
  around = apart_around before o behind (subst AreApart is sound.apart)

  lives_as : AllByRecursion (IsLivingOfSome m.graph) (before ++ o ∷ behind)
  lives_as = subst (AllByRecursion (IsLivingOfSome m.graph)) is sound.lives

  pub leaves_on : (heard : DriveNews) → m'.list ≡ before ++ noted heard o ∷ behind → net' ≡ net → IsLivingOfSome m'.graph (noted heard o) → LeavesAll m net w opens o m' net'
  leaves_on heard new same lives =
      record {
        sound = record {
          w_fits = sound.w_fits;
          opens_fit = sound.opens_fit;
          ports = ap (λ (c : Client). c.ports) same ∙ sound.ports ∙ ap (map bound_port) is ∙ map_noted heard bound_port before o behind refl ∙ ap (map bound_port) (sym new);
          rising = subst (AreRising 0 opens) (sym new) (rising_noted heard 0 opens before o behind (subst (AreRising 0 opens) is sound.rising));
          own = subst (AllByRecursion (HasOwnPort w)) (sym new) (all_noted heard (HasOwnPort w) before o behind (port_noted heard w o) (subst (AllByRecursion (HasOwnPort w)) is sound.own));
          one_lease = subst (λ os. sum_by lease_count_of os ≤ 1) (sym new) (leases_noted heard before o behind (subst (λ os. sum_by lease_count_of os ≤ 1) is sound.one_lease));
          lives = subst (AllByRecursion (IsLivingOfSome m'.graph)) (sym new) (all_append (IsLivingOfSome m'.graph) before (noted heard o ∷ behind)
              (other_lives m.graph m'.graph o noded kept before around.front (all_front (IsLivingOfSome m.graph) before (o ∷ behind) lives_as))
              (lives, other_lives m.graph m'.graph o noded kept behind around.back (all_back (IsLivingOfSome m.graph) before (o ∷ behind) lives_as).1));
          apart = subst AreApart (sym new) (apart_noted heard before o behind (subst AreApart is sound.apart));
          room = room ∙ sound.room;
        };
        waiting = λ kind c wait. let far = subst (AllByRecursion (IsApartFrom (chain_ids c))) is wait.apart in
            other_waits m.graph m'.graph o noded kept kind c m.list m'.list (subst (AllByRecursion (IsApartFrom (chain_ids c))) (sym new) (all_noted heard (IsApartFrom (chain_ids c)) before o behind (λ a. a) far)) (all_at (IsApartFrom (chain_ids c)) before o behind far) wait;
        others = λ os ls far i. other_opens m.graph m'.graph o noded kept os ls far i;
        same_net = same_ports net net' net.ports same;
      }

  pub leaves_last : m'.list ≡ before ++ behind → net' ≡ freed_of net o → LeavesAll m net w opens o m' net'
  leaves_last new freed =
      let rising = subst (AreRising 0 opens) is sound.rising in
      let own = subst (AllByRecursion (HasOwnPort w)) is sound.own in
      let one = subst (λ os. sum_by lease_count_of os ≤ 1) is sound.one_lease in
      let alone = stands_alone w opens before o behind sound.opens_fit rising own one in
      record {
        sound = record {
          w_fits = sound.w_fits;
          opens_fit = sound.opens_fit;
          ports = ap (λ (c : Client). c.ports) freed ∙ ap (without (carrier_number o.speaker.carrier) o.speaker.own_port) (sound.ports ∙ ap (map bound_port) is)
              ∙ freed_port before o behind alone.front alone.back ∙ ap (map bound_port) (sym new);
          rising = subst (AreRising 0 opens) (sym new) (rising_without 0 opens before o behind rising);
          own = subst (AllByRecursion (HasOwnPort w)) (sym new) (all_but (HasOwnPort w) before o behind own);
          one_lease = subst (λ os. sum_by lease_count_of os ≤ 1) (sym new) (count_without lease_count_of before o behind 1 one);
          lives = subst (AllByRecursion (IsLivingOfSome m'.graph)) (sym new) (all_append (IsLivingOfSome m'.graph) before behind
              (other_lives m.graph m'.graph o noded kept before around.front (all_front (IsLivingOfSome m.graph) before (o ∷ behind) lives_as))
              (other_lives m.graph m'.graph o noded kept behind around.back (all_back (IsLivingOfSome m.graph) before (o ∷ behind) lives_as).1));
          apart = subst AreApart (sym new) around.rest;
          room = room ∙ sound.room;
        };
        waiting = λ kind c wait. let far = subst (AllByRecursion (IsApartFrom (chain_ids c))) is wait.apart in
            other_waits m.graph m'.graph o noded kept kind c m.list m'.list (subst (AllByRecursion (IsApartFrom (chain_ids c))) (sym new) (all_but (IsApartFrom (chain_ids c)) before o behind far)) (all_at (IsApartFrom (chain_ids c)) before o behind far) wait;
        others = λ os ls far i. other_opens m.graph m'.graph o noded kept os ls far i;
        same_net = same_ports net net' (without (carrier_number o.speaker.carrier) o.speaker.own_port net.ports) freed;
      }

module _ (suits : Live → Type 0) (came : OpenInput) (way : Option Way) (begun : Option ℕ) (m : Many) (net : Client) (w opens : ℕ) (before : List Living) (o : Living) (behind : List Living) (awaited : Option ℕ) (m' : Many) (net' : Client) (old new : Logged) (is : m.list ≡ before ++ o ∷ behind) (noded : AreNoded rank_of_obj m'.graph) (sound : AreSound w opens net m) where
  leaves_by : (end : Option Ended) (told : Spelling) (heard : DriveNews) (answer : Option HasEnded) → heard ≡ news_by came told → EndIsSettled end before o behind net begun awaited heard told m'.list net' answer old new →
      (l : Live) → IsLivingOf m.graph o l → Exchanges (bare_open o) l came net way m.graph m'.graph told end → LeavesAll m net w opens o m' net'
  leaves_by None told heard answer hears s l i x =
      let put = without_graph x.records in
      let lives : IsLivingOf m'.graph (noted (news_by came told) o) (with_exchange l came net put) = noted_is m.graph l came net put told o i m'.graph x.does.lives (x.answers net put) in
      leaves_on m net w opens before o behind m' net' is noded x.does.others.others x.does.others.same_room sound heard s.0 s.1
      (with_exchange l came net put, subst (λ z. IsLivingOf m'.graph (noted z o) (with_exchange l came net put)) (sym hears) lives)
  leaves_by (Some e) told heard answer hears s l i x = leaves_last m net w opens before o behind m' net' is noded x.does.released.others x.does.released.same_room sound s.0 s.1

  pub one_leaves : (end : Option Ended) (answer : Option HasEnded) → ComesAt suits came way begun m net before o behind awaited end answer m' net' old new → ((l : Live) → IsLivingOf m.graph o l → suits l) → LeavesAll m net w opens o m' net'
  one_leaves end answer c fit =
      let some = all_at (IsLivingOfSome m.graph) before o behind (subst (AllByRecursion (IsLivingOfSome m.graph)) is sound.lives) in
      leaves_by end c.told c.heard answer (c.heard_is some.0 (fit some.0 some.1)) c.settles some.0 some.1 (c.does some.0 some.1 (fit some.0 some.1))

-- WHAT IS AWAITED

pub record AwaitsOn (m : Many) (awaited : Option ℕ) (answer : Option HasEnded) (m' : Many) : Type 0 where
  pub same_made : m'.graph.book.made ≡ m.graph.book.made
  pub tied : GoesOnSo HasTiedOnlyOf awaited answer m m'
  pub newest : (c : Chain) → GoesOnSo (λ k z. IsNewestBut k c z) awaited answer m m'

module _ (suits : Live → Type 0) (came : OpenInput) (way : Option Way) (begun : Option ℕ) (m : Many) (net : Client) (w opens : ℕ) (before : List Living) (o : Living) (behind : List Living) (awaited : Option ℕ) (m' : Many) (net' : Client) (old new : Logged) (is : m.list ≡ before ++ o ∷ behind) (sound : AreSound w opens net m) where
  awaits_by : (end : Option Ended) (told : Spelling) (heard : DriveNews) (answer : Option HasEnded) → EndIsSettled end before o behind net begun awaited heard told m'.list net' answer old new →
      (l : Live) → IsLivingOf m.graph o l → Exchanges (bare_open o) l came net way m.graph m'.graph told end → AwaitsOn m awaited answer m'
  awaits_by None told heard answer s l i x =
      let back = lived o way x.records (lowest_of (own_serials (kin_of o))) m.graph m'.graph x.does.call i.chained in
      record {
        same_made = x.does.others.others.same_made;
        tied = subst (λ z. GoesOnSo HasTiedOnlyOf awaited z m m') (sym s.2) (tied_stay m.graph m'.graph m.list m'.list before o behind heard is s.0 back awaited);
        newest = λ c. subst (λ z. GoesOnSo (λ k y. IsNewestBut k c y) awaited z m m') (sym s.2) (newest_stays m.graph m'.graph m.list m'.list before o behind heard is s.0 back awaited c);
      }
  awaits_by (Some e) told heard answer s l i x =
      let back = lived o way x.records (lowest_of (own_serials (kin_of o))) m.graph m'.graph x.does.call i.chained in
      let alone = stands_alone w opens before o behind sound.opens_fit (subst (AreRising 0 opens) is sound.rising) (subst (AllByRecursion (HasOwnPort w)) is sound.own) (subst (λ os. sum_by lease_count_of os ≤ 1) is sound.one_lease) in
      let differ = all_append (HasOtherNumber o) before behind alone.fronts alone.backs in
      record {
        same_made = x.does.released.others.same_made;
        tied = subst (λ z. GoesOnSo HasTiedOnlyOf awaited z m m') (sym s.2) (tied_ends m.graph m'.graph m.list m'.list before o behind is s.0 back x.does.released.gone differ awaited heard e told);
        newest = λ c. subst (λ z. GoesOnSo (λ k y. IsNewestBut k c y) awaited z m m') (sym s.2) (newest_ends m.graph m'.graph m.list m'.list before o behind is s.0 back x.does.released.gone differ awaited heard c e told);
      }

  pub one_awaits : (end : Option Ended) (answer : Option HasEnded) → ComesAt suits came way begun m net before o behind awaited end answer m' net' old new → ((l : Live) → IsLivingOf m.graph o l → suits l) → AwaitsOn m awaited answer m'
  one_awaits end answer c fit =
      let some = all_at (IsLivingOfSome m.graph) before o behind (subst (AllByRecursion (IsLivingOfSome m.graph)) is sound.lives) in
      awaits_by end c.told c.heard answer c.settles some.0 some.1 (c.does some.0 some.1 (fit some.0 some.1))
