-- Something comes to opens that live, one after another: all that they put has its reasons.
use Rattle.std.proofs.Common.{◌≡◌, ℕ, ◌==◌, true, false, List, [], ◌∷◌, ◌++◌, Some, sym, ◌∙◌, ap, subst, append_assoc, append-nil, map}
use Rattle.std.specs.Prelude.{slice_get}
use Rattle.std.specs.List.{flat_map, AllByRecursion}
use Rattle.std.proofs.lemmas.List.{map-append}
use Rattle.std.proofs.lemmas.List.Concat.{flat_map-append}
use Rattle.std.proofs.lemmas.List.Folds.{flat_map-map}
use Rattle.nb_defs.specs.Causes.{is_ok_cause}
use Rattle.nb_defs.specs.Records.{Out}
use Rattle.nb_stack.specs.Client.{Client}
use Rattle.nb_tftp.specs.History.{Entry, got, received_by}
use Rattle.nb_laws.specs.Cores.{has_its_answer}
use Rattle.nb_laws.specs.Webs.{opens_web, stream_place_by}
use Rattle.nb_laws.specs.Events.{Event, puts}
use Rattle.nb_laws.specs.Histories.{client}
use Rattle.nb_laws.specs.Lists as lists
use Rattle.nb_laws.specs.Lists.{hardware, blocks_where, Opening, openings, calls, last_place}
use Rattle.nb_laws.specs.Progress.{file_place, IsAdvanced}
use Rattle.nb_laws.proofs.Tellings.{told}
use Rattle.nb_login.specs.declared.info.LoginInfo.{LoginInfo}
use Rattle.nb_machine.specs.Lives.{iscsi, OpenInput, time as time_came, exchange, Live, continued}
use Rattle.nb_machine.specs.Kinds.{Keeps}
use Rattle.nb_machine.specs.States.{net0}
use Rattle.nb_machine.specs.Takings.{Over, AllTake, all_have, lives_on, is_over}
use Rattle.nb_openlaws.specs.Standings.{live_opening, heard_call, heard_calls, streamed, HaveOwnNumbers}
use Rattle.nb_laws.specs.Endings.{HadWay}
use Rattle.nb_openlaws.specs.OpenReasons.{HaveWays, OpenReasons}
use Rattle.nb_streams.proofs.FlowLaws.{all_append}
use Rattle.nb_openlaws.proofs.OpenRecords.{AreLater, left, of_later, kept_puts}
use Rattle.nb_openlaws.proofs.Takings.{HasCome, AllCome, tail_come, way_stays, grown}
use Rattle.nb_openlaws.proofs.NetworkDevices.{client_some, some_of}
use Rattle.nb_openlaws.proofs.Sendings.{no_reasons, reasons_then}
use Rattle.nb_openlaws.proofs.KindFacts.{ByDatagrams, no_connection, opening_as}
use Rattle.nb_openlaws.proofs.StreamPlaces.{time_stream, stream_so}
use Rattle.nb_talks.specs.Talking.{by_time}
use Rattle.nb_openlaws.proofs.SessionsDue.{SessionBrought, ComesBy, AllSessionsCome, others_come}
use Rattle.nb_openlaws.proofs.SessionStands.{time_place}
use Rattle.nb_openlaws.proofs.ExchangeReasons.{place_so, answer_same, IsTaken, ExchangeSo}
use Rattle.nb_openlaws.proofs.WebExchanges.{exchange_so}

-- what an open asks for has come, or not, whatever is written
pub answer_on : (es : List Event) (outs : List Out) (k : ℕ) (o : Opening) → AreLater outs → has_its_answer k o (es ++ told outs) ≡ has_its_answer k o es
answer_on es outs k o later =
    let f = left es outs later in
    answer_same k o es (es ++ told outs) f.hardware_is (ap (λ c. flat_map received_by c) (f.calls_is k)) (f.came_is k)

-- each end is Ok exactly where what its open asks for has come
abbrev pub AreAnswered : List Event → List Over → Type 0
AreAnswered es over = AllByRecursion (λ o. is_ok_cause o.cause ≡ has_its_answer o.live.number (live_opening o.live) es) over

pub record TakenSo (es : List Event) (put : List Out) (over : List Over) : Type 0 where
  pub reasons : OpenReasons es put
  pub answers : AreAnswered (es ++ told put) over

pub take_later : (devices : List Client) (input : OpenInput) (ls : List Live) (put : List Out) (after : List Live) (over : List Over) → AllTake devices input ls put after over → AreLater put
take_later devices input ls put after over all_have = tt
take_later devices input ls0 put0 after0 over0 (lives_on l ls after link put more over got_it keeps none rest) =
    all_append _ put more (of_later l.number put (kept_puts l (exchange input link put) keeps).of) (take_later devices input ls more after over rest)
take_later devices input ls0 put0 after0 over0 (is_over l ls after link put more over cause got_it keeps some rest) =
    all_append _ put more (of_later l.number put (kept_puts l (exchange input link put) keeps).of) (take_later devices input ls more after over rest)

-- the one device is the client
pub link_of : (es : List Event) (devices : List Client) (l : Live) (link : Client) → devices ≡ client es ∷ [] → l.device ≡ net0 → slice_get devices l.device ≡ Some link → client es ≡ link
link_of es devices l link d at got_it = let both : Some (client es) ≡ Some link = sym (ap (λ z. slice_get z l.device) d ∙ ap (λ n. slice_get (client es ∷ []) n) at) ∙ got_it in cc

-- ONE EXCHANGE

-- what was brought before, where its last ADVANCE stands
pub record IsPlaced (es : List Event) (input : OpenInput) (l : Live) : Type 0 where
  pub placed : ByDatagrams l.kind → (h : List Entry) → heard_calls l.kind l.exchanges ≡ map (λ e. e.call) h → last_place l.number es ≡ blocks_where ((live_opening l).kind == 1) (got h)
  pub streamed_to : opens_web (live_opening l) ≡ true → last_place l.number es ≡ stream_place_by (hardware es) l.number (streamed l.exchanges) (live_opening l)
  pub session_to : (isn : ℕ) (i : LoginInfo) → l.kind ≡ iscsi isn i → SessionBrought es input l isn i
  pub others : (j : ℕ) → (l.number == j) ≡ false → last_place j es ≡ file_place j es

pub one_exchange : (es : List Event) (devices : List Client) (input : OpenInput) (l : Live) (link : Client) (put : List Out) → IsTaken input → devices ≡ client es ∷ [] → slice_get devices l.device ≡ Some link → HasCome es input l → Keeps l → Keeps (continued l (exchange input link put)) →
    HadWay l.number es (live_opening l) → IsPlaced es input l → ExchangeSo l.kind es l (exchange input link put)
one_exchange es devices input l link put taken d got_it c before keeps way p =
    exchange_so l.kind es l (exchange input link put) taken (record {
      client_is = link_of es devices l link d c.on_net0 got_it;
      kind_is = c.kind_is;
      login = c.login;
      opening = c.opening;
      lives = c.lives;
      received = c.received;
      tells = c.tells;
      now = c.now;
      due = c.due;
      had_way = way;
      streams = c.streams;
      tries_stand = c.tries_stand;
      placed = p.placed;
      streamed_to = p.streamed_to;
      session_to = p.session_to;
      others = p.others;
    }) before keeps c.goes_on c.own

-- ALL OF THEM

-- a time brings no block
time_placed : (es : List Event) (now : ℕ) (l : Live) → HasCome es (time_came now) l → ComesBy es l.kind l (by_time now) → IsAdvanced es → IsPlaced es (time_came now) l
time_placed es now l c w a = record {
  placed = λ d h is.
      let k = l.number in
      let received : lists.datagrams_of k es ≡ got h =
      ap (λ z. flat_map received_by z) c.received ∙ flat_map-append received_by (heard_calls l.kind l.exchanges) (heard_call l.kind (time_came now))
      ∙ append-nil (flat_map received_by (heard_calls l.kind l.exchanges))
      ∙ ap (λ z. flat_map received_by z) is ∙ flat_map-map received_by (λ (e : Entry). e.call) h in
      a k ∙ place_so k es (live_opening l) c.opening (no_connection l.kind l d) ∙ ap (blocks_where ((live_opening l).kind == 1)) received;
  streamed_to = λ is. a l.number ∙ stream_so l.number es (live_opening l) c.opening is
      ∙ ap (λ z. stream_place_by (hardware es) l.number z (live_opening l)) c.streams ∙ time_stream (hardware es) l.number (live_opening l) (streamed l.exchanges) now;
  session_to = λ isn i is.
      let comes = subst (λ z. ComesBy es z l (by_time now)) is w in
      record { comes = comes; placed = a l.number ∙ time_place es l isn i now comes (c.opening ∙ ap (λ z. opening_as z l ∷ []) is) };
  others = λ j other. a j;
}

ways_on : (es : List Event) (put : List Out) (ls : List Live) → HaveWays es ls → HaveWays (es ++ told put) ls
ways_on es put [] w = tt
ways_on es put (l ∷ ls) w = (way_stays l.number es (es ++ told put) (live_opening l) (grown es (told put)) w.0, ways_on es put ls w.1)

pub taken_more : (es : List Event) (put more : List Out) (over : List Over) → OpenReasons es put → TakenSo (es ++ told put) more over → TakenSo es (put ++ more) over
taken_more es put more over r t = record {
  reasons = reasons_then es put more r t.reasons;
  answers = subst (λ z. AreAnswered z over) (append_assoc es (told put) (told more) ∙ ap (λ z. es ++ z) (sym (map-append puts put more))) t.answers;
}

-- time comes to all
pub all_reasons : (devices : List Client) (now : ℕ) (ls : List Live) (put : List Out) (after : List Live) (over : List Over) → AllTake devices (time_came now) ls put after over → (es : List Event) → devices ≡ client es ∷ [] → AllCome es (time_came now) ls → HaveOwnNumbers ls →
    AllByRecursion Keeps ls → HaveWays es ls → IsAdvanced es → AllSessionsCome es (by_time now) ls → TakenSo es put over
all_reasons devices now ls put after over all_have es d come apart kept ways a w = record { reasons = no_reasons es a; answers = tt }
all_reasons devices now ls0 put0 after0 over0 (lives_on l ls after link put more over got_it keeps none rest) es d come apart kept ways a w =
    let k = l.number in
    let of = (kept_puts l (exchange (time_came now) link put) keeps).of in
    let x = one_exchange es devices (time_came now) l link put tt d got_it come.0 kept.0 keeps ways.0 (time_placed es now l come.0 w.0 a) in
    taken_more es put more over x.reasons
    (all_reasons devices now ls more after over rest (es ++ told put) (d ∙ ap (λ c. c ∷ []) (sym (client_some es put (some_of k put of)))) (tail_come es put (time_came now) k ls of apart.0 come.1) apart.1 kept.1 (ways_on es put ls ways.1) x.reasons.after (others_come k es put ls (by_time now) of apart.0 w.1))
all_reasons devices now ls0 put0 after0 over0 (is_over l ls after link put more over cause got_it keeps some rest) es d come apart kept ways a w =
    let k = l.number in
    let of = (kept_puts l (exchange (time_came now) link put) keeps).of in
    let x = one_exchange es devices (time_came now) l link put tt d got_it come.0 kept.0 keeps ways.0 (time_placed es now l come.0 w.0 a) in
    let t = taken_more es put more over x.reasons
    (all_reasons devices now ls more after over rest (es ++ told put) (d ∙ ap (λ c. c ∷ []) (sym (client_some es put (some_of k put of)))) (tail_come es put (time_came now) k ls of apart.0 come.1) apart.1 kept.1 (ways_on es put ls ways.1) x.reasons.after (others_come k es put ls (by_time now) of apart.0 w.1)) in
    record {
      reasons = t.reasons;
      answers = (x.answers cause some ∙ sym (answer_on es (put ++ more) k (live_opening l) (all_append _ put more (of_later k put of) (take_later devices (time_came now) ls more after over rest))), t.answers);
    }

-- a message comes to one alone
pub one_reasons : (devices : List Client) (input : OpenInput) (l : Live) (put : List Out) (after : List Live) (over : List Over) → AllTake devices input (l ∷ []) put after over → (es : List Event) → IsTaken input → devices ≡ client es ∷ [] → HasCome es input l →
    Keeps l → HadWay l.number es (live_opening l) → IsPlaced es input l → TakenSo es put over
one_reasons devices input l put0 after0 over0 (lives_on l0 ls after link put more over got_it keeps none all_have) es taken d come kept way p =
    let x = one_exchange es devices input l link put taken d got_it come kept keeps way p in
    taken_more es put [] [] x.reasons (record { reasons = no_reasons (es ++ told put) x.reasons.after; answers = tt })
one_reasons devices input l put0 after0 over0 (is_over l0 ls after link put more over cause got_it keeps some all_have) es taken d come kept way p =
    let k = l.number in
    let of = (kept_puts l (exchange input link put) keeps).of in
    let x = one_exchange es devices input l link put taken d got_it come kept keeps way p in
    let t = taken_more es put [] [] x.reasons (record { reasons = no_reasons (es ++ told put) x.reasons.after; answers = tt }) in
    record { reasons = t.reasons; answers = (x.answers cause some ∙ sym (answer_on es (put ++ []) k (live_opening l) (all_append _ put [] (of_later k put of) tt)), tt) }
