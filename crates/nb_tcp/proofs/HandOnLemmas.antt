-- A connection goes on to stand for its calls when a segment's body is handed on.
use Rattle.std.proofs.Common.{◌≡◌, ◌≤◌, ◌<◌, ℕ, ◌+◌, ◌-◌, ◌^◌, ◌&&◌, ◌||◌, nat_lt, nat_le, List, [], ◌∷◌, ◌++◌, length, take, drop, get_or, Option, Some, None, Bool, true, false, refl, ap, ◌∙◌, sym, subst, arith, append_assoc}
use Rattle.std.specs.Prelude.{MatchBool}
use Rattle.std.specs.Option.{option_or, unwrap_or, is_some}
use Rattle.std.proofs.lemmas.Bool.{le-ltb, false≢true}
use Rattle.std.proofs.lemmas.Bool.Decides.{nat_tests}
use Rattle.std.proofs.lemmas.List.{append-nil, ext_get_or, length-drop, take-append-drop, take_all}
use Rattle.std.proofs.lemmas.Option.{slice_get-get_or}
use Rattle.nb_terms.specs.declared.acts.Acts.{Acts}
use Rattle.nb_streams.specs.Segments.{Incoming, Arrival}
use Rattle.nb_streams.specs.Streams.{HeldBytes, front, next, has_ended, is_stop}
use Rattle.nb_streams.specs.Flows.{segment_came, conn_phase, held_in, is_taken, held_after}
use Rattle.nb_streams.specs.Sending.{is_reset, is_answered_by_ack}
use Rattle.nb_streams.specs.Trying.{timer_after}
use Rattle.nb_reasm.specs.declared.held.Held.{Held}
use Rattle.nb_reasm.specs.HeldWindows.{window}
use Rattle.nb_reasm.specs.Windows.{HeldWindow, NextIsLeast, window_byte}
use Rattle.nb_reasm.proofs.PassLemmas.{none_past}
use Rattle.nb_reasm.proofs.PutLemmas.{byte_if}
use Rattle.nb_tcp.specs.declared.link.Link.{Link}
use Rattle.nb_tcp.specs.declared.conn.Conn.{Conn}
use Rattle.nb_tcp.specs.declared.conn.ConnState.{ConnState}
use Rattle.nb_tcp.specs.declared.variables.Variables.{Variables}
use Rattle.nb_tcp.specs.declared.variables.Verdict.{Verdict}
use Rattle.nb_tcp.specs.declared.variables.Verdict.TheVariants as verdict
use Rattle.nb_tcp.specs.InOrder.{ComesInOrder}
use Rattle.nb_tcp.specs.Numbers.{flow_of, with_stop, with_next, piece_place}
use Rattle.nb_tcp.specs.Receiving.{PutInto, PassesOver, IsBareAt, WindowMovesOn}
use Rattle.nb_tcp.specs.Replies.{only_ready, has_finished, has_come_all}
use Rattle.nb_tcp.specs.SegmentSteps.{HandsBodyOn}
use Rattle.nb_tcp.specs.ConnHistory.{ConnCall, calls_in, lends_out, comes_back, ConnEntry, conn_entry, tcp_calls_of, tcp_calls, delivered, is_lent_after, ends_by, has_ended_after}
use Rattle.nb_tcp.specs.ConnPromises.{IsAskedSo, AsksAsPromised}
use Rattle.nb_tcp.specs.ConnStanding.{WindowStands, waits_in, IsDelivered, HoldsRest, GoesUp, FlowsSo, StateStands, TimerStandsFor, ConnStands}
use Rattle.nb_tcp.proofs.WindowStandsLemmas.{PutsSegment, held_then, put_stands}
use Rattle.nb_tcp.proofs.DeliveryLemmas.{next_then, delivered_then}
use Rattle.nb_tcp.proofs.InOrderLemmas.{IsNext, next_is, next_taken, at_next, kept_is, then_next, TakesBut, takes_but}
use Rattle.nb_tcp.proofs.TakenLemmas.{Means, verdict_means}
use Rattle.nb_tcp.proofs.TakenStandsLemmas.{LeavesBut, taken_but}
use Rattle.nb_tcp.proofs.LendStandsLemmas.{goes_up, passed_stands, same_calls}
use Rattle.nb_tcp.proofs.ConnHistoryLemmas.{delivered-append, advanced-append, waiting-append, lent-append, ended-append, EachConnEntry-append}
use Rattle.nb_tcp.proofs.GoesOnLemmas.{phase_of, phase_then, StandsBut, goes_on_but}

-- a window that holds nothing, and bytes that fit into it
record HasRoom (w : HeldWindow) (bytes : List ℕ) : Type 0 where
  front : w.base ≡ w.next
  none : (p : ℕ) → w.next ≤ p → w.at p ≡ None
  fits : length bytes ≤ w.size

-- the window with the bytes put into it
abbrev with_bytes : HeldWindow → List ℕ → HeldWindow
with_bytes w bytes = record { base = w.base; next = w.next + length bytes; size = w.size; at = λ p. option_or (w.at p) (window_byte w w.next bytes p) }

test_in : (base top pos p : ℕ) → base ≤ p → p < top → pos ≤ p → (nat_le base p && nat_lt p top) && nat_le pos p ≡ true
test_in base top pos p a b c = grind (arith, nat_tests)

module _ (w : HeldWindow) (bytes : List ℕ) (is : HasRoom w bytes) where
  with_byte : (p : ℕ) → w.next ≤ p → p < w.next + length bytes → (with_bytes w bytes).at p ≡ Some (get_or bytes (p - w.next) 0)
  with_byte p h l =
      ap (λ (o : Option ℕ). option_or o (window_byte w w.next bytes p)) (is.none p h)
      ∙ byte_if w w.next bytes p true (test_in w.base (w.base + w.size) w.next p (omega (arith, h, is.front)) (omega (arith, l, is.fits, is.front)) h)
      ∙ slice_get-get_or bytes (p - w.next) 0 (omega (arith, h, l))

  with_none : (p : ℕ) → w.next + length bytes ≤ p → (with_bytes w bytes).at p ≡ None
  with_none p h =
      ap (λ (o : Option ℕ). option_or o (window_byte w w.next bytes p)) (is.none p (omega (arith, h)))
      ∙ none_past w w.next bytes p h

  with_least : NextIsLeast (with_bytes w bytes)
  with_least = (
    omega (arith, is.front),
    omega (arith, is.front, is.fits),
    with_none (w.next + length bytes) (omega arith),
    λ p h l. ap (λ (o : Option ℕ). is_some o) (with_byte p (omega (arith, h, is.front)) l),
  )

  with_put : PutInto w w.next bytes (with_bytes w bytes)
  with_put = record { base = refl; size = refl; at = λ p. refl; least = with_least }

  moves_over : (new : HeldWindow) → WindowMovesOn w (length bytes) new → PassesOver (with_bytes w bytes) new
  moves_over new m = record {
    base = omega (arith, m.base, is.front);
    next = m.next;
    size = m.size;
    at = λ p h. m.none p ∙ sym (with_none p (omega (arith, h, m.base, is.front)));
  }

-- a segment whose bytes come next in a window that holds nothing
record Hands (v : Variables) (h : HeldBytes) (s : Incoming) (w : HeldWindow) : Type 0 where
  comes : ComesInOrder v s
  short : length s.body < 2 ^ 16
  same : v.next ≡ next h
  stop : v.stop ≡ h.stop
  stands : WindowStands w h
  front : w.base ≡ w.next
  bare : IsBareAt w v.next

module _ (v : Variables) (h : HeldBytes) (s : Incoming) (w : HeldWindow) (is : Hands v h s w) where
  room : HasRoom w s.body
  room = record { front = is.front; none = is.bare.none; fits = omega (arith, is.short, is.stands.size) }

  puts : PutsSegment v h s w (with_bytes w s.body)
  puts = record {
    short = is.short;
    small = omega (arith, is.bare.next, is.stands.most);
    same = is.same;
    stop = is.stop;
    stands = is.stands;
    here = is.front;
    put = subst (λ (xs : List ℕ). PutInto w (piece_place v s) xs (with_bytes w s.body)) (sym (kept_is v s is.comes))
        (subst (λ (p : ℕ). PutInto w p s.body (with_bytes w s.body)) (is.bare.next ∙ sym (at_next v s is.comes)) (with_put w s.body room));
  }

  mid_stands : WindowStands (with_bytes w s.body) (held_then v h s)
  mid_stands = put_stands v h s w (with_bytes w s.body) puts

  left_stands : (new : HeldWindow) → WindowMovesOn w (length s.body) new → WindowStands new (held_then v h s)
  left_stands new m = passed_stands (with_bytes w s.body) new (held_then v h s) mid_stands (moves_over w s.body room new m)

  then_is : (with_next (with_stop v s) (v.next + length s.body)).next ≡ next (held_then v h s)
  then_is =
      ap (λ (n : ℕ). (with_next (with_stop v s) (n + length s.body)).next) (sym is.bare.next)
      ∙ next_then v h s w (with_bytes w s.body) puts

  next_is_then : next (held_then v h s) ≡ v.next + length s.body
  next_is_then = sym then_is ∙ ap (λ (u : Variables). u.next) (then_next v s is.comes (v.next + length s.body))

  -- the rest of the front is the body
  rest_is : drop w.base (front (held_then v h s)) ≡ s.body
  rest_is = ext_get_or 0 (drop w.base (front (held_then v h s))) s.body long (λ k l. each k l)
    where
      long : length (drop w.base (front (held_then v h s))) ≡ length s.body
      long = length-drop w.base (front (held_then v h s)) ∙ omega (arith, next_is_then, is.front, is.bare.next)

      up : GoesUp (with_bytes w s.body) (next (held_then v h s)) (drop w.base (front (held_then v h s)))
      up = goes_up (with_bytes w s.body) (held_then v h s) mid_stands

      back : (a b k : ℕ) → a ≡ b → (a + k) - b ≡ k
      back a b k e = omega (arith, e)

      each : (k : ℕ) → k < length (drop w.base (front (held_then v h s))) → get_or (drop w.base (front (held_then v h s))) k 0 ≡ get_or s.body k 0
      each k l = ap (λ (o : Option ℕ). unwrap_or o 0)
          (sym (up.each k l)
          ∙ with_byte w s.body room (w.base + k) (omega (arith, is.front)) (omega (arith, is.front, l, long))
          ∙ ap (λ (n : ℕ). Some (get_or s.body n 0)) (back w.base w.next k is.front))

  -- all that has come was delivered with it
  front_is : (bytes : List ℕ) → bytes ≡ take w.base (front h) → bytes ++ s.body ≡ front (held_then v h s)
  front_is bytes e =
      ap (λ (xs : List ℕ). xs ++ s.body) (e ∙ sym (delivered_then v h s w (with_bytes w s.body) puts))
      ∙ ap (λ (xs : List ℕ). take w.base (front (held_then v h s)) ++ xs) (sym rest_is)
      ∙ take-append-drop w.base (front (held_then v h s))

or_off : (a b : Bool) → b ≡ false → (a || b) ≡ a
or_off true b e = refl
or_off false b e = e

-- a call that brings nothing and leaves the connection
stands_on : (l : Link) (start : ℕ) (c : Conn) (h : List ConnEntry) (call : ConnCall) → StandsBut l start c h → tcp_calls_of call ≡ [] → IsAskedSo l start h (conn_entry call (only_ready false)) call → ends_by (conn_entry call (only_ready false)) ≡ false
    → StandsBut l start c (h ++ conn_entry call (only_ready false) ∷ [])
stands_on l start c h call was nothing asks going =
    let calls : tcp_calls (h ++ conn_entry call (only_ready false) ∷ []) ≡ tcp_calls h = same_calls h (conn_entry call (only_ready false)) nothing in
    let phase : phase_of l (h ++ conn_entry call (only_ready false) ∷ []) ≡ phase_of l h = ap (λ cs. conn_phase l.isn cs) calls in
    record {
      keeps = record {
        advance = advanced-append h (conn_entry call (only_ready false)) ∙ was.keeps.advance ∙ ap (λ p. next (held_in p)) (sym phase);
        each = EachConnEntry-append (AsksAsPromised l start) [] h (conn_entry call (only_ready false)) was.keeps.each asks;
      };
      link = was.link;
      over = was.over ∙ sym (or_off (has_ended_after h) (ends_by (conn_entry call (only_ready false))) going) ∙ sym (ended-append h (conn_entry call (only_ready false)));
      at_end = was.at_end ∙ ap (λ p. has_ended (held_in p)) (sym phase);
      state = subst (λ p. StateStands c.state c.given c.unacked.items p) (sym phase) was.state;
      timer = λ running. subst (λ cs. TimerStandsFor c.retry (timer_after l.isn start cs)) (sym calls) (was.timer running);
    }

left_even : (w x : HeldWindow) (n : ℕ) → w.base ≡ w.next → WindowMovesOn w n x → x.base ≡ x.next
left_even w x n e m = omega (arith, e, m.base, m.next)

module _ (l : Link) (start : ℕ) (old new : Conn) (h : List ConnEntry) (m : Arrival) (now : ℕ) (acts : Acts) (was : ConnStands l start old h) (here : IsDelivered old.held) (short : length m.segment.body < 2 ^ 16) (k : HandsBodyOn old m.segment now new acts) where
  abbrev first : List ConnEntry
  first = h ++ conn_entry (calls_in (segment_came m now)) acts ∷ []

  flows : FlowsSo k.variables old.given old.unacked.items (phase_of l h)
  flows = subst (λ (st : ConnState). StateStands st old.given old.unacked.items (phase_of l h)) k.state_was was.state

  said : IsNext k.variables old.given m.segment
  said = next_is k.variables old.given m.segment k.next

  even : (window k.was).base ≡ (window k.was).next
  even = subst IsDelivered k.held_was here

  held_was : HoldsRest (Some k.was) flows.held (delivered h) (is_lent_after h)
  held_was = subst (λ p. HoldsRest (Some k.was) (held_in p) (delivered h) (is_lent_after h)) flows.phase
      (subst (λ o. HoldsRest o (held_in (phase_of l h)) (delivered h) (is_lent_after h)) k.held_was was.held)

  hands : Hands k.variables flows.held m.segment (window k.was)
  hands = record {
    comes = said.comes;
    short = short;
    same = flows.stands.next;
    stop = flows.stands.stop;
    stands = held_was.1;
    front = even;
    bare = k.bare;
  }

  running : has_finished old.state ≡ false
  running = ap has_finished k.state_was

  pub alive : has_ended_after h ≡ false
  alive = sym was.over ∙ running

  means : Means (is_taken (flow_of k.variables flows.held flows.text) m.segment) (is_reset (flow_of k.variables flows.held flows.text) m.segment) (is_answered_by_ack (flow_of k.variables flows.held flows.text) m.segment) verdict.Taken
  means = subst (λ (d : Verdict). Means (is_taken (flow_of k.variables flows.held flows.text) m.segment) (is_reset (flow_of k.variables flows.held flows.text) m.segment) (is_answered_by_ack (flow_of k.variables flows.held flows.text) m.segment) d)
      (next_taken k.variables old.given m.segment said) (verdict_means k.variables flows.held flows.text m.segment flows.stands.next)

  abbrev received : Variables
  received = record k.variables { next = k.variables.next + length m.segment.body }

  takes : TakesBut old k.variables m.rec m.segment now new acts received
  takes = takes_but old new k.variables received m.rec m.segment now acts k.next (omega (arith, said.acked, said.given_is, k.low)) refl k.unacked k.acts_are k.state k.retry k.link k.given

  leaves : LeavesBut l start new h m now acts k.variables flows.held (k.variables.next + length m.segment.body)
  leaves = taken_but l start old new h m now acts k.variables received (record {
    was = was;
    running = running;
    short = short;
    takes = takes;
    flows = flows;
    taken = means.0;
    reset = means.1;
    small = omega (arith, k.bare.next, held_was.1.most);
    upto = k.variables.next + length m.segment.body;
    received_is = sym (then_next k.variables m.segment said.comes (k.variables.next + length m.segment.body));
    next_is = then_is k.variables flows.held m.segment (window k.was) hands;
  })

  segment_but : StandsBut l start new first
  segment_but = goes_on_but l start old new h (segment_came m now) acts was alive leaves.goes

  first_held : held_in (phase_of l first) ≡ held_then k.variables flows.held m.segment
  first_held = ap (λ p. held_in p) (phase_then l h (segment_came m now) acts) ∙ leaves.then_held

  first_delivered : delivered first ≡ delivered h
  first_delivered = delivered-append h (conn_entry (calls_in (segment_came m now)) acts) ∙ append-nil (delivered h)

  whole : delivered h ++ m.segment.body ≡ front (held_then k.variables flows.held m.segment)
  whole = front_is k.variables flows.held m.segment (window k.was) hands (delivered h) held_was.2

  abbrev second : List ConnEntry
  second = first ++ conn_entry (lends_out m.segment.body) (only_ready false) ∷ []

  lend_but : StandsBut l start new second
  lend_but = stands_on l start new first (lends_out m.segment.body) segment_but refl
      (ap (λ xs. xs ++ m.segment.body) first_delivered ∙ whole ∙ ap front (sym first_held)) refl

  abbrev third : List ConnEntry
  third = second ++ conn_entry comes_back (only_ready false) ∷ []

  back_but : StandsBut l start new third
  back_but = stands_on l start new second comes_back lend_but refl tt refl

  third_held : held_in (phase_of l third) ≡ held_then k.variables flows.held m.segment
  third_held = ap (λ cs. held_in (conn_phase l.isn cs)) (same_calls second (conn_entry comes_back (only_ready false)) refl ∙ same_calls first (conn_entry (lends_out m.segment.body) (only_ready false)) refl) ∙ first_held

  third_delivered : delivered third ≡ front (held_then k.variables flows.held m.segment)
  third_delivered = delivered-append second (conn_entry comes_back (only_ready false)) ∙ append-nil (delivered second)
      ∙ delivered-append first (conn_entry (lends_out m.segment.body) (only_ready false)) ∙ ap (λ xs. xs ++ m.segment.body) first_delivered ∙ whole

  left_window : WindowStands (window k.left) (held_then k.variables flows.held m.segment)
  left_window = left_stands k.variables flows.held m.segment (window k.was) hands (window k.left) k.moves

  left_rest : HoldsRest (Some k.left) (held_then k.variables flows.held m.segment) (front (held_then k.variables flows.held m.segment)) false
  left_rest = (
    refl,
    left_window,
    sym (take_all (window k.left).base (front (held_then k.variables flows.held m.segment)) (omega (arith, k.moves.base, even, k.bare.next, next_is_then k.variables flows.held m.segment (window k.was) hands))),
  )

  all_three : ConnStands l start new third
  all_three = record {
    keeps = back_but.keeps;
    link = back_but.link;
    over = back_but.over;
    at_end = back_but.at_end;
    held = subst (λ o. HoldsRest o (held_in (phase_of l third)) (delivered third) (is_lent_after third)) (sym k.held)
        (subst (λ x. HoldsRest (Some k.left) x (delivered third) (is_lent_after third)) (sym third_held)
        (subst (λ xs. HoldsRest (Some k.left) (held_then k.variables flows.held m.segment) xs (is_lent_after third)) (sym third_delivered)
        (subst (λ b. HoldsRest (Some k.left) (held_then k.variables flows.held m.segment) (front (held_then k.variables flows.held m.segment)) b) (sym (lent-append second (conn_entry comes_back (only_ready false)))) left_rest)));
    waits = ap waits_in k.held ∙ le-ltb (window k.left).base (window k.left).next (omega (arith, left_even (window k.was) (window k.left) (length m.segment.body) even k.moves)) ∙ sym (waiting-append second (conn_entry comes_back (only_ready false)));
    state = back_but.state;
    timer = back_but.timer;
  }

  -- the segment, the delivery of its body and the window's return
  pub hand_on_stands : ConnStands l start new ((h ++ conn_entry (calls_in (segment_came m now)) acts ∷ []) ++ conn_entry (lends_out m.segment.body) (only_ready false) ∷ conn_entry comes_back (only_ready false) ∷ [])
  hand_on_stands = subst (λ (es : List ConnEntry). ConnStands l start new es) (append_assoc first (conn_entry (lends_out m.segment.body) (only_ready false) ∷ []) (conn_entry comes_back (only_ready false) ∷ [])) all_three

  open_end : is_stop k.variables.stop k.variables.next ≡ false
  open_end = ap (λ o. is_stop o k.variables.next) said.comes.no_stop

  pub goes_so : (has_ended_after h ≡ false) × (has_ended (held_after l.isn (tcp_calls h)) ≡ false) × (has_ended (held_after l.isn (tcp_calls (h ++ conn_entry (calls_in (segment_came m now)) acts ∷ []))) ≡ false)
  goes_so = (
    alive,
    sym was.at_end ∙ ap has_come_all k.state_was ∙ open_end,
    sym segment_but.at_end ∙ ap has_come_all k.state ∙ ap (λ o. is_stop o (k.variables.next + length m.segment.body)) said.comes.no_stop,
  )

pub as_before : (c : Conn) (st : ConnState) (o : Option Held) → c.state ≡ st → c.held ≡ o → record c { state = st; held = o } ≡ c
as_before c st o state held = ap (λ (x : ConnState). record c { state = x; held = o }) (sym state) ∙ ap (λ (x : Option Held). record c { held = x }) (sym held)

pub on_true : (b : Bool) {A B : Type 0} (C : Type 0) → (A → B) → MatchBool b A C → MatchBool b B C
on_true true C f a = f a
on_true false C f c = c

pub when_true : (b : Bool) {A : Type 0} (C : Type 0) → b ≡ true → MatchBool b A C → A
when_true true C e a = a
when_true false C e c = absurd (false≢true e)
