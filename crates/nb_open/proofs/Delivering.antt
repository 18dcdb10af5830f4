-- What a call of an open's objects delivers.
use Rattle.std.proofs.Common.{◌≡◌, ℕ, ◌==◌, false, cond, List, [], ◌∷◌, ◌++◌, map, Option, Some, None, refl, ◌∙◌, ap}
use Rattle.std.specs.List.{AllByRecursion}
use Rattle.nb_terms.specs.declared.cause.Cause.{Cause}
use Rattle.nb_terms.specs.declared.event.Event.{Event}
use Rattle.nb_terms.specs.declared.acts.Acts.{Acts}
use Rattle.nb_terms.specs.declared.acts.SendTo.{SendTo}
use Rattle.nb_wire.specs.declared.address.Ip4.{Ip4}
use Rattle.nb_ledger.specs.Flat.{Notice, event, message}
use Rattle.nb_ledger.specs.declared.port.Port.{Port}
use Rattle.nb_ledger.specs.declared.event.Way.{Way}
use Rattle.nb_ledger.specs.declared.event.GraphEvent.TheVariants.{Left}
use Rattle.nb_graph.specs.Trace.{Said}
use Rattle.nb_graph.specs.Whole.{port_at}
use Rattle.nb_nodes.specs.Carried.{advance_said, datagram_said, downs_of}
use Rattle.nb_nodes.specs.Tags.{tag_number}
use Rattle.nb_nodes.specs.declared.tag.Tag.TheVariants.{Bytes, Address}
use Rattle.nb_nodes.specs.LookupExchanges.{address_said}
use Rattle.nb_nodes.specs.LeaseExchanges.{lease_said}
use Rattle.nb_opens.specs.AloneNotices.{alone_call, alone_end}
use Rattle.nb_opens.specs.Notices.{tells, sent_from}
use Rattle.std.specs.Option.{option_or}
use Rattle.nb_drivechains.specs.DriveCalls.{drive_answer_in}
use Rattle.nb_drivenodes.specs.DriveTags.{drive_tag_number}
use Rattle.nb_drivenodes.specs.declared.drive_tag.DriveTag.TheVariants.{Answered}
use Rattle.nb_teller.specs.Deliveries.{delivered_address, delivered_answer, delivered_blocks, delivered_bytes}

-- a message that delivers nothing
abbrev pub DeliversNone : Said → Type 0
DeliversNone m = ((m.tag == tag_number Bytes) ≡ false) × ((m.tag == tag_number Address) ≡ false) × ((m.tag == drive_tag_number Answered) ≡ false)

-- what goes down delivers nothing
sends_none : (rec : ℕ) (try : Option ℕ) (sends : List SendTo) → AllByRecursion DeliversNone (map (datagram_said rec try) sends)
sends_none rec try [] = tt
sends_none rec None (s ∷ sends) = ((refl, refl, refl), sends_none rec None sends)
sends_none rec (Some n) (s ∷ sends) = ((refl, refl, refl), sends_none rec (Some n) sends)

downs_none : (rec : ℕ) (acts : Acts) → AllByRecursion DeliversNone (downs_of rec acts)
downs_none rec acts = by acts.advance
  where
    by : (advance : Option ℕ) → AllByRecursion DeliversNone (advance_said rec advance ++ map (datagram_said rec acts.tried) acts.sends.items)
    by None = sends_none rec acts.tried acts.sends.items
    by (Some place) = ((refl, refl, refl), sends_none rec acts.tried acts.sends.items)

bytes_behind : (p : Port) (ms : List Said) (ns : List Notice) → AllByRecursion DeliversNone ms → delivered_bytes (map (sent_from p) ms ++ ns) ≡ delivered_bytes ns
unfolding delivered_bytes
bytes_behind p [] ns all = refl
bytes_behind p (m ∷ ms) ns all = ap (λ b. cond b (Some m.bytes) (delivered_bytes (map (sent_from p) ms ++ ns))) all.0.0 ∙ bytes_behind p ms ns all.1

address_behind : (p : Port) (ms : List Said) (ns : List Notice) → AllByRecursion DeliversNone ms → delivered_address (map (sent_from p) ms ++ ns) ≡ delivered_address ns
unfolding delivered_address
address_behind p [] ns all = refl
address_behind p (m ∷ ms) ns all =
    ap (λ b. cond b (Some (record { 0 = m.a })) (delivered_address (map (sent_from p) ms ++ ns))) all.0.1 ∙ address_behind p ms ns all.1

end_bytes : (x : ℕ) (p : Port) (over : Option Cause) → delivered_bytes (alone_end x over ++ (tells (Left p) ∷ [])) ≡ None
unfolding delivered_bytes
end_bytes x p None = refl
end_bytes x p (Some c) = refl

end_address : (x : ℕ) (p : Port) (over : Option Cause) → delivered_address (alone_end x over ++ (tells (Left p) ∷ [])) ≡ None
unfolding delivered_address
end_address x p None = refl
end_address x p (Some c) = refl

-- what goes up at the end is delivered
lease_delivered : (rec : ℕ) (p : Port) (ack : Option (List ℕ)) (ns : List Notice) → delivered_bytes ns ≡ None → delivered_bytes (map (sent_from p) (lease_said rec ack) ++ ns) ≡ ack
unfolding delivered_bytes
lease_delivered rec p None ns none = none
lease_delivered rec p (Some bytes) ns none = refl

address_delivered : (rec : ℕ) (p : Port) (found : Option Ip4) (ns : List Notice) → delivered_address ns ≡ None → delivered_address (map (sent_from p) (address_said rec found) ++ ns) ≡ found
unfolding delivered_address
address_delivered rec p None ns none = none
address_delivered rec p (Some address) ns none = refl

no_bytes_up : (rec : ℕ) (p : Port) (found : Option Ip4) (ns : List Notice) → delivered_bytes ns ≡ None → delivered_bytes (map (sent_from p) (address_said rec found) ++ ns) ≡ None
unfolding delivered_bytes
no_bytes_up rec p None ns none = none
no_bytes_up rec p (Some address) ns none = none

call_bytes : (x : ℕ) (p : Port) (by : Way) (rec : ℕ) (acts : Acts) (given : List Said) →
    delivered_bytes (alone_call x p by rec acts given) ≡ delivered_bytes (map (sent_from (port_at x 0)) given ++ (alone_end x acts.over ++ (tells (Left p) ∷ [])))
unfolding delivered_bytes
call_bytes x p by rec acts given = bytes_behind (port_at x 1) (downs_of rec acts) (map (sent_from (port_at x 0)) given ++ (alone_end x acts.over ++ (tells (Left p) ∷ []))) (downs_none rec acts)

call_address : (x : ℕ) (p : Port) (by : Way) (rec : ℕ) (acts : Acts) (given : List Said) →
    delivered_address (alone_call x p by rec acts given) ≡ delivered_address (map (sent_from (port_at x 0)) given ++ (alone_end x acts.over ++ (tells (Left p) ∷ [])))
unfolding delivered_address
call_address x p by rec acts given = address_behind (port_at x 1) (downs_of rec acts) (map (sent_from (port_at x 0)) given ++ (alone_end x acts.over ++ (tells (Left p) ∷ []))) (downs_none rec acts)

-- a lease's end delivers its acknowledgement
pub delivers_ack : (x : ℕ) (p : Port) (by : Way) (rec : ℕ) (acts : Acts) (given : List Said) (ack : Option (List ℕ)) → given ≡ lease_said rec ack → delivered_bytes (alone_call x p by rec acts given) ≡ ack
delivers_ack x p by rec acts given ack same =
    let end = alone_end x acts.over ++ (tells (Left p) ∷ []) in
    call_bytes x p by rec acts given ∙ ap (λ g. delivered_bytes (map (sent_from (port_at x 0)) g ++ end)) same
    ∙ lease_delivered rec (port_at x 0) ack end (end_bytes x p acts.over)

-- a look-up's end its address, and no bytes
pub delivers_address : (x : ℕ) (p : Port) (by : Way) (rec : ℕ) (acts : Acts) (given : List Said) (found : Option Ip4) → given ≡ address_said rec found → delivered_address (alone_call x p by rec acts given) ≡ found
delivers_address x p by rec acts given found same =
    let end = alone_end x acts.over ++ (tells (Left p) ∷ []) in
    call_address x p by rec acts given ∙ ap (λ g. delivered_address (map (sent_from (port_at x 0)) g ++ end)) same
    ∙ address_delivered rec (port_at x 0) found end (end_address x p acts.over)

pub no_bytes_looked_up : (x : ℕ) (p : Port) (by : Way) (rec : ℕ) (acts : Acts) (given : List Said) (found : Option Ip4) → given ≡ address_said rec found → delivered_bytes (alone_call x p by rec acts given) ≡ None
no_bytes_looked_up x p by rec acts given found same =
    let end = alone_end x acts.over ++ (tells (Left p) ∷ []) in
    call_bytes x p by rec acts given ∙ ap (λ g. delivered_bytes (map (sent_from (port_at x 0)) g ++ end)) same
    ∙ no_bytes_up rec (port_at x 0) found end (end_bytes x p acts.over)

pub no_bytes_echoed : (x : ℕ) (p : Port) (by : Way) (rec : ℕ) (acts : Acts) (given : List Said) → given ≡ [] → delivered_bytes (alone_call x p by rec acts given) ≡ None
no_bytes_echoed x p by rec acts given same =
    let end = alone_end x acts.over ++ (tells (Left p) ∷ []) in
    call_bytes x p by rec acts given ∙ ap (λ g. delivered_bytes (map (sent_from (port_at x 0)) g ++ end)) same ∙ end_bytes x p acts.over

no_address_up : (rec : ℕ) (p : Port) (ack : Option (List ℕ)) (ns : List Notice) → delivered_address ns ≡ None → delivered_address (map (sent_from p) (lease_said rec ack) ++ ns) ≡ None
unfolding delivered_address
no_address_up rec p None ns none = none
no_address_up rec p (Some bytes) ns none = none

-- and neither a lease's end nor an echo's an address
pub no_address_leased : (x : ℕ) (p : Port) (by : Way) (rec : ℕ) (acts : Acts) (given : List Said) (ack : Option (List ℕ)) → given ≡ lease_said rec ack → delivered_address (alone_call x p by rec acts given) ≡ None
no_address_leased x p by rec acts given ack same =
    let end = alone_end x acts.over ++ (tells (Left p) ∷ []) in
    call_address x p by rec acts given ∙ ap (λ g. delivered_address (map (sent_from (port_at x 0)) g ++ end)) same
    ∙ no_address_up rec (port_at x 0) ack end (end_address x p acts.over)

pub no_address_echoed : (x : ℕ) (p : Port) (by : Way) (rec : ℕ) (acts : Acts) (given : List Said) → given ≡ [] → delivered_address (alone_call x p by rec acts given) ≡ None
no_address_echoed x p by rec acts given same =
    let end = alone_end x acts.over ++ (tells (Left p) ∷ []) in
    call_address x p by rec acts given ∙ ap (λ g. delivered_address (map (sent_from (port_at x 0)) g ++ end)) same ∙ end_address x p acts.over

-- what goes down delivers nothing, and events don't
pub downs_bytes : (p : Port) (rec : ℕ) (acts : Acts) (ns : List Notice) → delivered_bytes (map (sent_from p) (downs_of rec acts) ++ ns) ≡ delivered_bytes ns
downs_bytes p rec acts ns = bytes_behind p (downs_of rec acts) ns (downs_none rec acts)

pub downs_address : (p : Port) (rec : ℕ) (acts : Acts) (ns : List Notice) → delivered_address (map (sent_from p) (downs_of rec acts) ++ ns) ≡ delivered_address ns
downs_address p rec acts ns = address_behind p (downs_of rec acts) ns (downs_none rec acts)

pub event_bytes : (e : Event) (ns : List Notice) → delivered_bytes (event e ∷ ns) ≡ delivered_bytes ns
unfolding delivered_bytes
event_bytes e ns = refl

pub event_address : (e : Event) (ns : List Notice) → delivered_address (event e ∷ ns) ≡ delivered_address ns
unfolding delivered_address
event_address e ns = refl

-- an event alone
abbrev pub IsEvent : Notice → Type 0
IsEvent (event e) = Unit {0}
IsEvent (message from tag rec a b bytes) = ⊥

abbrev pub AreEvents : List Notice → Type 0
AreEvents ns = AllByRecursion IsEvent ns

pub no_bytes : (ns : List Notice) → AreEvents ns → delivered_bytes ns ≡ None
unfolding delivered_bytes
no_bytes [] h = refl
no_bytes (event e ∷ ns) h = no_bytes ns h.1
no_bytes (message from tag rec a b bytes ∷ ns) h = absurd h.0

pub no_address : (ns : List Notice) → AreEvents ns → delivered_address ns ≡ None
unfolding delivered_address
no_address [] h = refl
no_address (event e ∷ ns) h = no_address ns h.1
no_address (message from tag rec a b bytes ∷ ns) h = absurd h.0

pub no_blocks : (ns : List Notice) → AreEvents ns → delivered_blocks ns ≡ []
unfolding delivered_blocks
no_blocks [] h = refl
no_blocks (event e ∷ ns) h = no_blocks ns h.1
no_blocks (message from tag rec a b bytes ∷ ns) h = absurd h.0

pub no_answer : (ns : List Notice) → AreEvents ns → delivered_answer ns ≡ None
unfolding delivered_answer
no_answer [] h = refl
no_answer (event e ∷ ns) h = no_answer ns h.1
no_answer (message from tag rec a b bytes ∷ ns) h = absurd h.0

-- what delivers nothing may be told after it
pub bytes_then : (ns more : List Notice) → delivered_bytes more ≡ None → delivered_bytes (ns ++ more) ≡ delivered_bytes ns
unfolding delivered_bytes
bytes_then [] more h = h
bytes_then (event e ∷ ns) more h = bytes_then ns more h
bytes_then (message from tag rec a b bytes ∷ ns) more h = ap (λ o. cond (tag == tag_number Bytes) (Some bytes) o) (bytes_then ns more h)

pub address_then : (ns more : List Notice) → delivered_address more ≡ None → delivered_address (ns ++ more) ≡ delivered_address ns
unfolding delivered_address
address_then [] more h = h
address_then (event e ∷ ns) more h = address_then ns more h
address_then (message from tag rec a b bytes ∷ ns) more h = ap (λ o. cond (tag == tag_number Address) (Some (record { 0 = a })) o) (address_then ns more h)

pub blocks_then : (ns more : List Notice) → delivered_blocks more ≡ [] → delivered_blocks (ns ++ more) ≡ delivered_blocks ns
unfolding delivered_blocks
blocks_then [] more h = h
blocks_then (event e ∷ ns) more h = blocks_then ns more h
blocks_then (message from tag rec a b bytes ∷ ns) more h = ap (λ o. cond (tag == tag_number Bytes) (bytes ++ o) o) (blocks_then ns more h)

pub answer_then : (ns more : List Notice) → delivered_answer more ≡ None → delivered_answer (ns ++ more) ≡ delivered_answer ns
unfolding delivered_answer
answer_then [] more h = h
answer_then (event e ∷ ns) more h = answer_then ns more h
answer_then (message from tag rec a b bytes ∷ ns) more h = ap (option_or (drive_answer_in tag a b)) (answer_then ns more h)
