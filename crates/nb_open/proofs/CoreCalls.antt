-- What a call of an open's one core does to the open.
use Rattle.std.proofs.Common.{◌≡◌, ℕ, true, false, cond, List, [], ◌∷◌, ◌++◌, map, Option, Some, None, unwrap_or, refl, sym, ◌∙◌, ap, subst, append-nil}
use Rattle.std.specs.List.{AllByRecursion}
use Rattle.nb_terms.specs.declared.acts.Acts.{Acts}
use Rattle.nb_terms.specs.declared.cause.Cause.{Cause}
use Rattle.nb_defs.specs.Records.{Out}
use Rattle.nb_ledger.specs.declared.event.GraphEvent.TheVariants.{Left, Entered}
use Rattle.nb_ledger.specs.declared.event.Way.{Way}
use Rattle.nb_ledger.specs.declared.port.Port.{Port}
use Rattle.nb_ledger.specs.Flat.{Notice}
use Rattle.nb_graph.specs.Trace.{Said}
use Rattle.nb_graph.specs.Whole.{Objects, port_at}
use Rattle.nb_nodes.specs.declared.obj.Obj.{Obj}
use Rattle.nb_nodes.specs.Carried.{downs_of}
use Rattle.nb_nodes.specs.Exchanges.{Service}
use Rattle.nb_opens.specs.AloneNotices.{alone_call, alone_end}
use Rattle.nb_opens.specs.Alones.{AsksMore, asks_on, comes_to_end, runs_out}
use Rattle.nb_opens.specs.Notices.{first_close, sent_from, tells}
use Rattle.nb_stack.specs.Client.{Client}
use Rattle.nb_machine.specs.CommandRecords.{no_route}
use Rattle.nb_machine.specs.Cores.{CoreExchanged, KeepsCore, core_end, core_records}
use Rattle.nb_machine.specs.Kinds.{Keeps, fetched, granted, moved as place_moved, resolved}
use Rattle.nb_machine.specs.Lives.{Live, OpenInput, exchange}
use Rattle.nb_machine.specs.Sendings.{acts_records}
use Rattle.nb_machine.specs.Transfers.{earlier_end, end_records, finds_none}
use Rattle.nb_chains.specs.declared.chain.Chain.{Chain}
use Rattle.nb_chains.specs.declared.kind.ChainKind.{ChainKind}
use Rattle.nb_chains.specs.Calls.{IsOpenBy, IsOpenChain}
use Rattle.nb_chains.specs.Chains.{IsShutBy, own_graph}
use Rattle.nb_chains.specs.Shapes.{IsTagUp}
use Rattle.nb_teller.specs.declared.speaker.Speaker.{Speaker}
use Rattle.nb_teller.specs.Deliveries.{delivered_bytes, delivered_address}
use Rattle.nb_teller.specs.Tellings.{any_lacks_route}
use Rattle.nb_open.specs.declared.open.Open.{Open}
use Rattle.nb_open.specs.Exchanges.{IsLeaseMessage, with_exchange}
use Rattle.nb_open.specs.Open.{IsAskingCore, IsSpeakerOf, IsUnderWay}
use Rattle.nb_open.proofs.Delivering.{no_bytes_echoed}
use Rattle.nb_open.proofs.Doings.{Did, chain_hushed, fails, goes, last_by, on_chain, overs, put_by}
use Rattle.nb_open.proofs.Downs.{AreSendsBy, downs_lack, downs_others}
use Rattle.nb_open.proofs.Quiet.{AreQuiet, lacks_within, others_within, quiet_append, quiet_ups}

-- FIRST CLOSES

-- what leaves closes nothing
pub messages_close : (p : Port) (ms : List Said) (ns : List Notice) → first_close (map (sent_from p) ms ++ ns) ≡ first_close ns
messages_close p [] ns = refl
messages_close p (m ∷ ms) ns = messages_close p ms ns

-- the first close of a call is the core's end
pub alone_closes : (x : ℕ) (p : Port) (by : Way) (rec : ℕ) (acts : Acts) (given : List Said) → first_close (alone_call x p by rec acts given) ≡ acts.over
alone_closes x p by rec acts given =
    messages_close (port_at x 1) (downs_of rec acts) (map (sent_from (port_at x 0)) given ++ (alone_end x acts.over ++ (tells (Left p) ∷ [])))
    ∙ messages_close (port_at x 0) given (alone_end x acts.over ++ (tells (Left p) ∷ [])) ∙ over acts.over
  where
    over : (c : Option Cause) → first_close (alone_end x c ++ (tells (Left p) ∷ [])) ≡ c
    over None = refl
    over (Some c) = refl

-- ITS RECORDS

module _ (link : Client) (o : Open) (x : ℕ) (p : Port) (by : Way) (rec : ℕ) (acts : Acts) (given : List Said) (up : AllByRecursion (λ (m : Said). IsTagUp m.tag) given) (sends : AreSendsBy o.speaker acts.sends.items) where
  quiet_end : (over : Option Cause) → AreQuiet (alone_end x over ++ (tells (Left p) ∷ []))
  quiet_end None = (tt, tt)
  quiet_end (Some c) = (tt, (tt, (tt, tt)))

  quiet_back : AreQuiet (map (sent_from (port_at x 0)) given ++ (alone_end x acts.over ++ (tells (Left p) ∷ [])))
  quiet_back = quiet_append (map (sent_from (port_at x 0)) given) (alone_end x acts.over ++ (tells (Left p) ∷ [])) (quiet_ups (port_at x 0) given up) (quiet_end acts.over)

  pub alone_others : put_by o link (alone_call x p by rec acts given) ≡ acts_records link o.speaker.number acts
  alone_others =
      others_within link o.speaker (tells (Entered p by) ∷ []) (map (sent_from (port_at x 1)) (downs_of rec acts)) (map (sent_from (port_at x 0)) given ++ (alone_end x acts.over ++ (tells (Left p) ∷ []))) (tt, tt) quiet_back
      ∙ downs_others link o.speaker (port_at x 1) rec acts sends

  pub alone_lacks : any_lacks_route link o.speaker (alone_call x p by rec acts given) ≡ finds_none link acts
  alone_lacks =
      lacks_within link o.speaker (tells (Entered p by) ∷ []) (map (sent_from (port_at x 1)) (downs_of rec acts)) (map (sent_from (port_at x 0)) given ++ (alone_end x acts.over ++ (tells (Left p) ∷ []))) (tt, tt) quiet_back
      ∙ downs_lack link o.speaker (port_at x 1) rec acts sends

-- HOW IT ENDS

module _ (number server : ℕ) (link : Client) (acts : Acts) where
  end_by : (over : Option Cause) (lacks : _) → acts.over ≡ over → finds_none link acts ≡ lacks → core_end server link acts ≡ earlier_end over (cond lacks (Some (no_route server)) None)
  end_by over lacks e f = ap (λ z. earlier_end z (cond (finds_none link acts) (Some (no_route server)) None)) e ∙ ap (λ z. earlier_end over (cond z (Some (no_route server)) None)) f

  pub goes_records : acts.over ≡ None → finds_none link acts ≡ false → acts_records link number acts ≡ core_records number server link acts
  goes_records e f = sym (ap (λ z. acts_records link number acts ++ end_records number z) (end_by None false e f) ∙ append-nil (acts_records link number acts))

  pub stuck_records : acts.over ≡ None → finds_none link acts ≡ true → acts_records link number acts ++ end_records number (Some (no_route server)) ≡ core_records number server link acts
  stuck_records e f = sym (ap (λ z. acts_records link number acts ++ end_records number z) (end_by None true e f))

  pub end_records_are : (c : Cause) → acts.over ≡ Some c → acts_records link number acts ++ end_records number (Some c) ≡ core_records number server link acts
  end_records_are c e = sym (ap (λ z. acts_records link number acts ++ end_records number z) (end_by (Some c) (finds_none link acts) e refl))

-- what such an object gives up is for the user
abbrev pub GivesUser : {S B C : Type 0} → Service S B C → Type 0
GivesUser {S} {B} {C} s = (rec : ℕ) (b : B) (calls : List C) (given : List Said) → s.gives rec b calls given → AllByRecursion (λ (m : Said). IsTagUp m.tag) given

-- what was found by such an open is what was delivered
pub record Finds (l : Live) (ns : List Notice) : Type 0 where
  pub body : fetched l ≡ []
  pub moved : place_moved l ≡ None
  pub bytes : granted l ≡ delivered_bytes ns
  pub address : resolved l ≡ delivered_address ns
  pub message : IsLeaseMessage (delivered_bytes ns)

module _ {S B C : Type 0} (s : Service S B C) (mark : ℕ) (b : B) (who : Speaker) (kind : ChainKind) (own : Chain) (l : Live) (came : OpenInput) (link : Client) (new : Objects Obj) (calls : List C) (call : Acts → C) (p : Port) (by : Way) (rec : ℕ) where
  abbrev o : Open
  o = on_chain who kind own

  -- what is known of an open whose core this is
  pub record CoreCall : Type 0 where
    pub alone : own.below ≡ None
    pub called : IsSpeakerOf o l
    pub more : (put : List Out) (acts : Acts) → put ≡ core_records l.number l.server link acts → CoreExchanged s l.number l.server (calls ++ call acts ∷ []) (l.exchanges ++ exchange came link put ∷ [])
    pub sends : (acts : Acts) → s.meets b l.since (calls ++ call acts ∷ []) → AreSendsBy who acts.sends.items
    pub gives : GivesUser s
    pub under_way : (put : List Out) → IsAskingCore s mark b own new (with_exchange l came link put) → IsUnderWay l.kind own new (with_exchange l came link put)
    pub keeps : (put : List Out) → KeepsCore s b (with_exchange l came link put) → Keeps (with_exchange l came link put)
    pub finds : (put : List Out) (acts : Acts) (given : List Said) → CoreExchanged s l.number l.server (calls ++ call acts ∷ []) (l.exchanges ++ exchange came link put ∷ []) → s.gives rec b (calls ++ call acts ∷ []) given →
        Finds (with_exchange l came link put) (alone_call own.top.0 p by rec acts given)

  module _ (k : CoreCall) (ns : List Notice) where
    put_is : (acts : Acts) (given : List Said) → AllByRecursion (λ (m : Said). IsTagUp m.tag) given → s.meets b l.since (calls ++ call acts ∷ []) → ns ≡ alone_call own.top.0 p by rec acts given → put_by o link ns ≡ acts_records link l.number acts
    put_is acts given up meets same =
        ap (put_by o link) same ∙ (alone_others link o own.top.0 p by rec acts given up (k.sends acts meets) ∙ ap (λ n. acts_records link n acts) (sym k.called.number))

    lacks_is : (acts : Acts) (given : List Said) → AllByRecursion (λ (m : Said). IsTagUp m.tag) given → s.meets b l.since (calls ++ call acts ∷ []) → ns ≡ alone_call own.top.0 p by rec acts given → any_lacks_route link who ns ≡ finds_none link acts
    lacks_is acts given up meets same = ap (any_lacks_route link who) same ∙ alone_lacks link o own.top.0 p by rec acts given up (k.sends acts meets)

    called_still : (put : List Out) → IsSpeakerOf o (with_exchange l came link put)
    called_still put = record { number = k.called.number; server = k.called.server; own = k.called.own; device = k.called.device; kind = k.called.kind; carrier = k.called.carrier; asks = k.called.asks }

    pub core_did : AsksMore s mark (own_graph own new) own.top.0 b l.since calls p by rec call ns → Did o l came link new ns
    core_did (asks_on acts meets over same talks) =
        let put = put_is acts [] tt meets same in
        let lack = lacks_is acts [] tt meets same in
        let unshut : IsOpenChain own new = subst (λ z. IsOpenBy z own.top.0 (own_graph own new)) (sym k.alone) talks.lone in
        goes (record {
          none = ap first_close same ∙ (alone_closes own.top.0 p by rec acts [] ∙ over);
          unshut = unshut;
          lives = λ no chained. record {
            chained = chained;
            called = called_still (put_by o link ns);
            under_way = k.under_way (put_by o link ns) (record {
              below = k.alone;
              calls = calls ++ call acts ∷ [];
              talks = talks;
              exchanged = k.more (put_by o link ns) acts (put ∙ goes_records l.number l.server link acts over (sym lack ∙ no));
            });
          };
          stuck = λ yes. k.keeps (last_by o l link ns (no_route l.server)) (record {
            calls = calls ++ call acts ∷ [];
            exchanged = k.more (last_by o l link ns (no_route l.server)) acts (ap (λ z. z ++ end_records l.number (Some (no_route l.server))) put ∙ stuck_records l.number l.server link acts over (sym lack ∙ yes));
            meets = meets;
          });
          silent = ap delivered_bytes same ∙ no_bytes_echoed own.top.0 p by rec acts [] refl;
          answers = λ any put. tt;
          up = tt;
          kinds = tt;
          hushed = λ yes after m n cause closes. chain_hushed link who own new after m n cause unshut closes;
        })
    core_did (comes_to_end acts c given meets over gives same shut) =
        let up = k.gives rec b (calls ++ call acts ∷ []) given gives in
        let put = put_is acts given up meets same in
        let last = last_by o l link ns c in
        let exchanged = k.more last acts (ap (λ z. z ++ end_records l.number (Some c)) put ∙ end_records_are l.number l.server link acts c over) in
        let found = k.finds last acts given exchanged gives in
        overs c (record {
          closes = ap first_close same ∙ (alone_closes own.top.0 p by rec acts given ∙ over);
          shut = subst (λ z. IsShutBy z own.top.0 (own_graph own new)) (sym k.alone) shut;
          kept = k.keeps last (record { calls = calls ++ call acts ∷ []; exchanged = exchanged; meets = meets });
          brings = λ well. record {
            body = λ b hands still. found.body ∙ sym (ap (λ z. unwrap_or z []) (hands.0.one k.alone));
            moved = λ b hands. found.moved ∙ sym hands.1;
          };
          bytes = found.bytes ∙ ap delivered_bytes (sym same);
          address = found.address ∙ ap delivered_address (sym same);
          message = subst (λ z. IsLeaseMessage (delivered_bytes z)) (sym same) found.message;
          answers = λ any put. tt;
          up = tt;
        })
    core_did (runs_out memory) = fails memory
