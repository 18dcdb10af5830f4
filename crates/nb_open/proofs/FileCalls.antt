-- What a call of an open's transfer does to the open.
use Rattle.std.proofs.Common.{◌≡◌, ℕ, ◌<◌, ◌≤◌, true, false, cond, inr, List, [], ◌∷◌, ◌++◌, length, Option, Some, None, unwrap_or, refl, sym, ◌∙◌, ap, subst, arith, append-nil, flat_map}
use Rattle.std.proofs.lemmas.Bool.Decides.{nat_tests}
use Rattle.std.proofs.lemmas.List.Concat.{flat_map-append}
use Rattle.nb_terms.specs.declared.acts.Acts.{Acts}
use Rattle.nb_terms.specs.declared.cause.Cause.{Cause}
use Rattle.nb_defs.specs.Causes.{is_ok_cause}
use Rattle.nb_defs.specs.Records.{Out}
use Rattle.nb_ledger.specs.declared.event.Way.{Way}
use Rattle.nb_ledger.specs.declared.port.Port.{Port}
use Rattle.nb_ledger.specs.Flat.{Notice}
use Rattle.nb_graph.specs.Whole.{Objects}
use Rattle.nb_nodes.specs.declared.obj.Obj.{Obj}
use Rattle.nb_nodes.specs.Fetches.{body_too_large}
use Rattle.nb_opens.specs.Pairs.{CallDoes, Downloads, HasHandedOut, body_at_end, goes_on, is_over, is_too_large, fails as call_fails}
use Rattle.nb_stack.specs.Client.{Client}
use Rattle.nb_tftp.specs.Asks.{Begun}
use Rattle.nb_tftp.specs.Blocks.{file}
use Rattle.nb_tftp.specs.History.{Call, Entry, came, entry, given_of, got, received_by, ticked}
use Rattle.nb_tftp.specs.Sentences.{Meets}
use Rattle.nb_tftp.proofs.HistoryLemmas.{given-append}
use Rattle.nb_machine.specs.CommandRecords.{no_route}
use Rattle.nb_machine.specs.Kinds.{Keeps, KeepsBy, fetched_by, granted_of, moved_by, resolved_of}
use Rattle.nb_machine.specs.Lives.{Exchange, Live, exchange, tftp}
use Rattle.nb_machine.specs.Sendings.{acts_records, end_with_body, is_over_limit, too_large_image}
use Rattle.nb_machine.specs.Transfers.{Exchanged, at_first, takes, closes, arrival_of, datagram_in, earlier_end, end_records, finds_none, transfer_of, transfer_end, transfer_records}
use Rattle.nb_chains.specs.declared.chain.Chain.{Chain}
use Rattle.nb_chains.specs.declared.kind.ChainKind.{ChainKind}
use Rattle.nb_chains.specs.Calls.{IsOpenBy, IsOpenChain}
use Rattle.nb_chains.specs.Chains.{IsShutBy, own_graph}
use Rattle.nb_teller.specs.declared.speaker.Speaker.{Speaker}
use Rattle.nb_teller.specs.Deliveries.{delivered_bytes}
use Rattle.nb_teller.proofs.TellingLemmas.{SpeaksFor}
use Rattle.nb_open.specs.declared.open.Open.{Open}
use Rattle.nb_open.specs.Exchanges.{IsLeaseMessage, with_exchange}
use Rattle.nb_open.specs.Open.{IsSpeakerOf, IsFetching, IsUnderWay, carrier_for}
use Rattle.nb_open.proofs.Doings.{Did, chain_hushed, fails, goes, last_by, on_chain, overs, put_by}
use Rattle.nb_open.proofs.Downs.{AreSendsBy, sends_by}
use Rattle.nb_open.proofs.FileNotices.{CallNotices, call_so, large_so, meets_sends, notices_address, notices_bytes, notices_close, notices_lack, notices_others}

-- ITS FILE

came_in : (call : Call) → datagram_in (arrival_of call) ≡ received_by call
came_in (came m now) = refl
came_in (ticked now) = refl

one_more : (es : List Entry) (xs : List Exchange) (call : Call) (acts : Acts) (link : Client) (put : List Out) → flat_map (λ (x : Exchange). datagram_in x.came) xs ≡ got es →
    flat_map (λ (x : Exchange). datagram_in x.came) (xs ++ exchange (arrival_of call) link put ∷ []) ≡ got (es ++ entry call acts ∷ [])
one_more es xs call acts link put h =
    flat_map-append (λ (x : Exchange). datagram_in x.came) xs (exchange (arrival_of call) link put ∷ [])
    ∙ ap (λ z. z ++ (datagram_in (arrival_of call) ++ [])) h
    ∙ ap (λ z. got es ++ (z ++ [])) (came_in call)
    ∙ sym (flat_map-append (λ (e : Entry). received_by e.call) es (entry call acts ∷ []))

-- what came to an open is what its transfer received
all_came : (k server : ℕ) (es : List Entry) (xs : List Exchange) → Exchanged k server es xs → flat_map (λ (x : Exchange). datagram_in x.came) xs ≡ got es
all_came k server es xs at_first = refl
all_came k server es xs (takes es0 xs0 link call acts h) = one_more es0 xs0 call acts link _ (all_came k server es0 xs0 h)
all_came k server es xs (closes es0 xs0 link cause h) =
    flat_map-append (λ (x : Exchange). datagram_in x.came) xs0 _ ∙ append-nil _ ∙ all_came k server es0 xs0 h

body_now : (b : Begun) (start : ℕ) (es : List Entry) (call : Call) (acts : Acts) → Meets b start es → Meets b start (es ++ entry call acts ∷ []) → file (got es) ++ given_of call acts.give ≡ file (got (es ++ entry call acts ∷ []))
body_now b start es call acts before now = ap (λ t. t ++ given_of call acts.give) (sym before.bytes) ∙ sym (given-append es (entry call acts)) ∙ now.bytes

within_limit : (body : List ℕ) → length body ≤ 268435456 → is_over_limit body ≡ false
within_limit body h = grind (arith, nat_tests)

beyond_limit : (body : List ℕ) → 268435456 < length body → is_over_limit body ≡ true
beyond_limit body h = grind (arith, nat_tests)

end_within : (body : List ℕ) (acts : Acts) → length body ≤ 268435456 → end_with_body body acts ≡ acts.over
end_within body acts h = ap (λ b. cond b (Some too_large_image) acts.over) (within_limit body h)

end_beyond : (body : List ℕ) (acts : Acts) → 268435456 < length body → end_with_body body acts ≡ Some body_too_large
end_beyond body acts h = ap (λ b. cond b (Some too_large_image) acts.over) (beyond_limit body h)

-- HOW IT ENDS

module _ (number server : ℕ) (link : Client) (body : List ℕ) (acts : Acts) where
  end_by : (end : Option Cause) (lacks : _) → end_with_body body acts ≡ end → finds_none link acts ≡ lacks → transfer_end server link body acts ≡ earlier_end end (cond lacks (Some (no_route server)) None)
  end_by end lacks e g = ap (λ z. earlier_end z (cond (finds_none link acts) (Some (no_route server)) None)) e ∙ ap (λ z. earlier_end end (cond z (Some (no_route server)) None)) g

  goes_records : end_with_body body acts ≡ None → finds_none link acts ≡ false → acts_records link number acts ≡ transfer_records number server link body acts
  goes_records e g = sym (ap (λ z. acts_records link number acts ++ end_records number z) (end_by None false e g) ∙ append-nil (acts_records link number acts))

  stuck_records : end_with_body body acts ≡ None → finds_none link acts ≡ true → acts_records link number acts ++ end_records number (Some (no_route server)) ≡ transfer_records number server link body acts
  stuck_records e g = sym (ap (λ z. acts_records link number acts ++ end_records number z) (end_by None true e g))

  over_records : (c : Cause) → end_with_body body acts ≡ Some c → acts_records link number acts ++ end_records number (Some c) ≡ transfer_records number server link body acts
  over_records c e = sym (ap (λ z. acts_records link number acts ++ end_records number z) (end_by (Some c) (finds_none link acts) e refl))

none_message : (found : Option (List ℕ)) → found ≡ None → IsLeaseMessage found
none_message found none bytes some = absurd (let no : Some bytes ≡ None = sym some ∙ none in cc)

-- A CALL

module _ (who : Speaker) (kind : ChainKind) (own : Chain) (l : Live) (old new : Objects Obj) (link : Client) (call : Call) (p : Port) (by : Way) (rec : ℕ) (ns : List Notice) (e : l.kind ≡ tftp) (called : IsSpeakerOf (on_chain who kind own) l) (k : IsFetching own old l) where
  abbrev o : Open
  o = on_chain who kind own

  speaks : SpeaksFor who (transfer_of l)
  speaks = record { carrier = called.carrier ∙ ap carrier_for e; server = ap (λ (n : ℕ). record { 0 = n }) (sym called.server); own_port = sym called.own }

  called_still : (put : List Out) → IsSpeakerOf o (with_exchange l (arrival_of call) link put)
  called_still put = record { number = called.number; server = called.server; own = called.own; device = called.device; kind = called.kind; carrier = called.carrier; asks = called.asks }

  more : (put : List Out) (acts : Acts) → put ≡ transfer_records l.number l.server link (file (got (k.entries ++ entry call acts ∷ []))) acts →
      Exchanged l.number l.server (k.entries ++ entry call acts ∷ []) (l.exchanges ++ exchange (arrival_of call) link put ∷ [])
  more put acts is =
      subst (λ z. Exchanged l.number l.server (k.entries ++ entry call acts ∷ []) (l.exchanges ++ exchange (arrival_of call) link z ∷ [])) (sym is) (takes k.entries l.exchanges link call acts k.exchanged)

  keeps : (put : List Out) (acts : Acts) → Meets (transfer_of l) l.since (k.entries ++ entry call acts ∷ []) → Exchanged l.number l.server (k.entries ++ entry call acts ∷ []) (l.exchanges ++ exchange (arrival_of call) link put ∷ []) →
      Keeps (with_exchange l (arrival_of call) link put)
  keeps put acts meets exchanged =
      subst (λ z. KeepsBy z (with_exchange l (arrival_of call) link put)) (sym e) (record { entries = k.entries ++ entry call acts ∷ []; exchanged = exchanged; meets = meets })

  sends : (acts : Acts) → Meets (transfer_of l) l.since (k.entries ++ entry call acts ∷ []) → AreSendsBy who acts.sends.items
  sends acts meets = sends_by who (transfer_of l) acts.sends.items speaks (meets_sends (transfer_of l) l.since k.entries call acts k.short meets)

  put_is : (acts : Acts) (end : Option Cause) → Meets (transfer_of l) l.since (k.entries ++ entry call acts ∷ []) → CallNotices own.top.0 k.tftp.0 p by rec acts end ns → put_by o link ns ≡ acts_records link l.number acts
  put_is acts end meets n = notices_others link o own.top.0 k.tftp.0 p by rec acts end ns n (sends acts meets) ∙ ap (λ z. acts_records link z acts) (sym called.number)

  -- it ended with this cause, and its objects have this body to hand out
  over_by : (acts : Acts) (c : Cause) (body : Option (List ℕ)) → Meets (transfer_of l) l.since (k.entries ++ entry call acts ∷ []) → end_with_body (file (got (k.entries ++ entry call acts ∷ []))) acts ≡ Some c →
      CallNotices own.top.0 k.tftp.0 p by rec acts (Some c) ns → HasHandedOut (own_graph own new) own.top.0 k.tftp.0 body → (is_ok_cause c ≡ true → body ≡ Some (file (got (k.entries ++ entry call acts ∷ [])))) →
      Did o l (arrival_of call) link new ns
  over_by acts c body meets ends n has whole =
      let last = last_by o l link ns c in
      let l' = with_exchange l (arrival_of call) link last in
      let exchanged = more last acts (ap (λ z. z ++ end_records l.number (Some c)) (put_is acts (Some c) meets n) ∙ over_records l.number l.server link (file (got (k.entries ++ entry call acts ∷ []))) acts c ends) in
      let nothing = notices_bytes link o own.top.0 k.tftp.0 p by rec acts (Some c) ns n in
      overs c (record {
        closes = notices_close link o own.top.0 k.tftp.0 p by rec acts (Some c) ns n;
        shut = subst (λ z. IsShutBy z own.top.0 (own_graph own new)) (sym k.below) has.shut;
        kept = keeps last acts meets exchanged;
        brings = λ well. record {
          body = λ b hands still. ap (λ z. fetched_by z l') e
              ∙ (ap file (all_came l.number l.server (k.entries ++ entry call acts ∷ []) l'.exchanges exchanged)
              ∙ sym (ap (λ z. unwrap_or z []) (hands.0.two k.tftp body k.below has ∙ whole well)));
          moved = λ b hands. ap (λ z. moved_by z l') e ∙ sym hands.1;
        };
        bytes = ap (λ z. granted_of z l'.exchanges) e ∙ sym nothing;
        address = ap (λ z. resolved_of z l') e ∙ sym (notices_address link o own.top.0 k.tftp.0 p by rec acts (Some c) ns n);
        message = none_message (delivered_bytes ns) nothing;
        answers = λ any put. tt;
        up = tt;
      })

  whole_at_end : (c : Cause) (whole : List ℕ) → is_ok_cause c ≡ true → body_at_end c whole ≡ Some whole
  whole_at_end c whole ok = ap (λ b. cond b (Some whole) None) ok

  pub file_did : CallDoes (own_graph own new) own.top.0 k.tftp.0 (transfer_of l) l.since k.entries (file (got k.entries)) p by rec call ns → Did o l (arrival_of call) link new ns
  file_did (goes_on acts meets over fits same downloads) =
      let n = call_so own.top.0 k.tftp.0 p by rec acts ns same in
      let body = body_now (transfer_of l) l.since k.entries call acts k.downloads.meets meets in
      let whole = file (got (k.entries ++ entry call acts ∷ [])) in
      let ends : end_with_body whole acts ≡ None = end_within whole acts (subst (λ b. length b ≤ 268435456) body fits) ∙ over in
      let put = put_is acts acts.over meets n in
      let lack = notices_lack link o own.top.0 k.tftp.0 p by rec acts acts.over ns n (sends acts meets) in
      let downloads' = subst (λ z. Downloads (own_graph own new) own.top.0 k.tftp.0 (transfer_of l) l.since (k.entries ++ entry call acts ∷ []) z) body downloads in
      let unshut : IsOpenChain own new = subst (λ z. IsOpenBy z own.top.0 (own_graph own new)) (sym k.below) (inr (transfer_of l, l.since, k.entries ++ entry call acts ∷ [], whole, downloads')) in
      goes (record {
        none = notices_close link o own.top.0 k.tftp.0 p by rec acts acts.over ns n ∙ over;
        unshut = unshut;
        lives = λ no chained. record {
          chained = chained;
          called = called_still (put_by o link ns);
          under_way = subst (λ z. IsUnderWay z own new (with_exchange l (arrival_of call) link (put_by o link ns))) (sym e) (record {
            tftp = k.tftp;
            below = k.below;
            entries = k.entries ++ entry call acts ∷ [];
            downloads = downloads';
            exchanged = more (put_by o link ns) acts (put ∙ goes_records l.number l.server link whole acts ends (sym lack ∙ no));
            short = k.short;
          });
        };
        stuck = λ yes. keeps (last_by o l link ns (no_route l.server)) acts meets
            (more (last_by o l link ns (no_route l.server)) acts (ap (λ z. z ++ end_records l.number (Some (no_route l.server))) put ∙ stuck_records l.number l.server link whole acts ends (sym lack ∙ yes)));
        silent = notices_bytes link o own.top.0 k.tftp.0 p by rec acts acts.over ns n;
        answers = λ any put. tt;
        up = tt;
        kinds = tt;
        hushed = λ yes after m n cause closes. chain_hushed link who own new after m n cause unshut closes;
      })
  file_did (is_over acts c meets over fits same has) =
      let n = subst (λ z. CallNotices own.top.0 k.tftp.0 p by rec acts z ns) over (call_so own.top.0 k.tftp.0 p by rec acts ns same) in
      let body = body_now (transfer_of l) l.since k.entries call acts k.downloads.meets meets in
      let whole = file (got (k.entries ++ entry call acts ∷ [])) in
      let ends : end_with_body whole acts ≡ Some c = end_within whole acts (subst (λ b. length b ≤ 268435456) body fits) ∙ over in
      over_by acts c (body_at_end c whole) meets ends n (subst (λ z. HasHandedOut (own_graph own new) own.top.0 k.tftp.0 (body_at_end c z)) body has) (whole_at_end c whole)
  file_did (is_too_large acts meets long same has) =
      let n = large_so own.top.0 k.tftp.0 p by rec acts ns same in
      let body = body_now (transfer_of l) l.since k.entries call acts k.downloads.meets meets in
      let whole = file (got (k.entries ++ entry call acts ∷ [])) in
      let ends : end_with_body whole acts ≡ Some body_too_large = end_beyond whole acts (subst (λ b. 268435456 < length b) body long) in
      over_by acts body_too_large None meets ends n has (λ ok. absurd (let no : false ≡ true = ok in cc))
  file_did (call_fails memory) = fails memory
