-- What a call of an open's transfer tells: what goes down to its server, and events after it.
use Rattle.std.proofs.Common.{◌≡◌, ℕ, ◌≤◌, true, List, [], ◌∷◌, ◌++◌, length, Option, Some, None, refl, sym, ◌∙◌, ap, subst, arith}
use Rattle.std.specs.List.{AllByRecursion}
use Rattle.nb_terms.specs.declared.acts.Acts.{Acts}
use Rattle.nb_terms.specs.declared.acts.SendTo.{SendTo}
use Rattle.nb_terms.specs.declared.cause.Cause.{Cause}
use Rattle.nb_wire.specs.declared.address.Ip4.{Ip4}
use Rattle.nb_ledger.specs.declared.event.GraphEvent.TheVariants.{Left, Entered}
use Rattle.nb_ledger.specs.declared.event.Way.{Way}
use Rattle.nb_ledger.specs.declared.port.Port.{Port}
use Rattle.nb_ledger.specs.Flat.{Notice}
use Rattle.nb_graph.specs.Whole.{port_at}
use Rattle.nb_nodes.specs.Carried.{downs_of}
use Rattle.nb_nodes.specs.Fetches.{body_too_large}
use Rattle.nb_opens.specs.Notices.{call_notices, closed_late, down_notices, end_notices, first_close, large_notices, parted_notices, passed_on, tells, too_many_notices, up_notices}
use Rattle.nb_stack.specs.Client.{Client}
use Rattle.nb_tftp.specs.Asks.{Begun, datagram}
use Rattle.nb_tftp.specs.History.{Call, Entry, entry}
use Rattle.nb_tftp.specs.Plain.{IsToServer}
use Rattle.nb_tftp.specs.Sentences.{Meets}
use Rattle.nb_tftp.proofs.PlainLaws.{asks_plainly}
use Rattle.nb_machine.specs.Sendings.{acts_records}
use Rattle.nb_machine.specs.Transfers.{finds_none}
use Rattle.nb_teller.specs.Deliveries.{delivered_bytes, delivered_address}
use Rattle.nb_teller.specs.Tellings.{any_lacks_route}
use Rattle.nb_teller.proofs.TellingLemmas.{AreSendsOf, none as no_send, one as one_send}
use Rattle.nb_open.specs.declared.open.Open.{Open}
use Rattle.nb_open.proofs.CoreCalls.{messages_close}
use Rattle.nb_open.proofs.Delivering.{AreEvents, downs_address, downs_bytes, event_address, event_bytes, no_address, no_bytes}
use Rattle.nb_open.proofs.Doings.{put_by}
use Rattle.nb_open.proofs.Downs.{AreSendsBy, downs_lack, downs_others}
use Rattle.nb_open.proofs.Quiet.{AreQuiet, lacks_within, others_within}

-- WHAT A TRANSFER SENDS

datagram_is : (b : Begun) (m : SendTo) → IsToServer b m → datagram b m.to_port m.body.items ≡ m
datagram_is b m is =
    let at : ℕ → Ip4 → ℕ → SendTo = λ proto to own. record { proto = proto; to = to; to_port = m.to_port; own_port = own; body = record { items = m.body.items } } in
    ap (λ x. at 17 x b.own_port) (sym is.server) ∙ ap (λ x. at 17 m.to x) (sym is.own_port) ∙ ap (λ x. at x m.to m.own_port) (sym is.udp)

plain_sends : (b : Begun) (sends : List SendTo) → length sends ≤ 1 → AllByRecursion (IsToServer b) sends → AreSendsOf b sends
plain_sends b [] few all = no_send
plain_sends b (m ∷ []) few all = subst (λ x. AreSendsOf b (x ∷ [])) (datagram_is b m all.0) (one_send m.to_port m.body.items)
plain_sends b (m ∷ n ∷ ms) few all = absurd (omega (arith, few))

-- what a transfer that keeps its promises sends goes to its server
pub meets_sends : (b : Begun) (start : ℕ) (es : List Entry) (call : Call) (acts : Acts) → length b.request ≤ 1480 → Meets b start (es ++ entry call acts ∷ []) → AreSendsOf b acts.sends.items
meets_sends b start es call acts fits meets =
    let plain = asks_plainly true b start es (entry call acts) fits meets in
    plain_sends b acts.sends.items plain.few plain.sent

-- THE NOTICES OF ITS CALLS

abbrev up_back : ℕ → ℕ → Port → Acts → List Notice
up_back f t p acts = up_notices f acts.give ++ (end_notices f t acts.over ++ (tells (Left p) ∷ []))

abbrev large_rest : ℕ → ℕ → Port → Acts → List Notice
large_rest f t p acts = too_many_notices f t ++ (passed_on t acts.over ++ (parted_notices f t ++ (closed_late t acts.over ++ (tells (Left p) ∷ []))))

module _ (f t : ℕ) (p : Port) where
  call_events : (give : Option (ℕ × ℕ)) (over : Option Cause) → AreEvents (up_notices f give ++ (end_notices f t over ++ (tells (Left p) ∷ [])))
  call_events None None = (tt, tt)
  call_events None (Some c) = (tt, (tt, (tt, (tt, (tt, (tt, (tt, (tt, tt))))))))
  call_events (Some r) None = (tt, (tt, (tt, tt)))
  call_events (Some r) (Some c) = (tt, (tt, (tt, (tt, (tt, (tt, (tt, (tt, (tt, (tt, tt))))))))))

  large_events : (over : Option Cause) → AreEvents (too_many_notices f t ++ (passed_on t over ++ (parted_notices f t ++ (closed_late t over ++ (tells (Left p) ∷ [])))))
  large_events None = (tt, (tt, (tt, (tt, (tt, (tt, (tt, (tt, (tt, (tt, (tt, tt)))))))))))
  large_events (Some c) = (tt, (tt, (tt, (tt, (tt, (tt, (tt, (tt, (tt, (tt, (tt, tt)))))))))))

  call_quiet : (give : Option (ℕ × ℕ)) (over : Option Cause) → AreQuiet (up_notices f give ++ (end_notices f t over ++ (tells (Left p) ∷ [])))
  call_quiet None None = (tt, tt)
  call_quiet None (Some c) = (tt, (tt, (tt, (tt, (tt, (tt, (tt, (tt, tt))))))))
  call_quiet (Some r) None = (tt, (tt, (tt, tt)))
  call_quiet (Some r) (Some c) = (tt, (tt, (tt, (tt, (tt, (tt, (tt, (tt, (tt, (tt, tt))))))))))

  large_quiet : (over : Option Cause) → AreQuiet (too_many_notices f t ++ (passed_on t over ++ (parted_notices f t ++ (closed_late t over ++ (tells (Left p) ∷ [])))))
  large_quiet None = (tt, (tt, (tt, (tt, (tt, (tt, (tt, (tt, (tt, (tt, (tt, tt)))))))))))
  large_quiet (Some c) = (tt, (tt, (tt, (tt, (tt, (tt, (tt, (tt, (tt, (tt, (tt, tt)))))))))))

  call_ends : (give : Option (ℕ × ℕ)) (over : Option Cause) → first_close (up_notices f give ++ (end_notices f t over ++ (tells (Left p) ∷ []))) ≡ over
  call_ends None None = refl
  call_ends None (Some c) = refl
  call_ends (Some r) None = refl
  call_ends (Some r) (Some c) = refl

-- one call of a transfer: what goes down, and events after it
pub record CallNotices (f t : ℕ) (p : Port) (by : Way) (rec : ℕ) (acts : Acts) (end : Option Cause) (ns : List Notice) : Type 0 where
  pub rest : List Notice
  pub all : ns ≡ (tells (Entered p by) ∷ []) ++ (down_notices t rec acts ++ rest)
  pub events : AreEvents rest
  pub quiet : AreQuiet rest
  pub closes : first_close rest ≡ end

pub call_so : (f t : ℕ) (p : Port) (by : Way) (rec : ℕ) (acts : Acts) (ns : List Notice) → ns ≡ call_notices f t p by rec acts → CallNotices f t p by rec acts acts.over ns
call_so f t p by rec acts ns same = record { rest = up_back f t p acts; all = same; events = call_events f t p acts.give acts.over; quiet = call_quiet f t p acts.give acts.over; closes = call_ends f t p acts.give acts.over }

pub large_so : (f t : ℕ) (p : Port) (by : Way) (rec : ℕ) (acts : Acts) (ns : List Notice) → ns ≡ large_notices f t p by rec acts → CallNotices f t p by rec acts (Some body_too_large) ns
large_so f t p by rec acts ns same = record { rest = large_rest f t p acts; all = same; events = large_events f t p acts.over; quiet = large_quiet f t p acts.over; closes = refl }

module _ (link : Client) (o : Open) (f t : ℕ) (p : Port) (by : Way) (rec : ℕ) (acts : Acts) (end : Option Cause) (ns : List Notice) (n : CallNotices f t p by rec acts end ns) where
  pub notices_close : first_close ns ≡ end
  notices_close = ap first_close n.all ∙ (messages_close (port_at t 1) (downs_of rec acts) n.rest ∙ n.closes)

  pub notices_others : AreSendsBy o.speaker acts.sends.items → put_by o link ns ≡ acts_records link o.speaker.number acts
  notices_others sends =
      ap (put_by o link) n.all ∙ (others_within link o.speaker (tells (Entered p by) ∷ []) (down_notices t rec acts) n.rest (tt, tt) n.quiet ∙ downs_others link o.speaker (port_at t 1) rec acts sends)

  pub notices_lack : AreSendsBy o.speaker acts.sends.items → any_lacks_route link o.speaker ns ≡ finds_none link acts
  notices_lack sends =
      ap (any_lacks_route link o.speaker) n.all ∙ (lacks_within link o.speaker (tells (Entered p by) ∷ []) (down_notices t rec acts) n.rest (tt, tt) n.quiet ∙ downs_lack link o.speaker (port_at t 1) rec acts sends)

  pub notices_bytes : delivered_bytes ns ≡ None
  notices_bytes = ap delivered_bytes n.all ∙ (event_bytes _ (down_notices t rec acts ++ n.rest) ∙ (downs_bytes (port_at t 1) rec acts n.rest ∙ no_bytes n.rest n.events))

  pub notices_address : delivered_address ns ≡ None
  notices_address = ap delivered_address n.all ∙ (event_address _ (down_notices t rec acts ++ n.rest) ∙ (downs_address (port_at t 1) rec acts n.rest ∙ no_address n.rest n.events))
