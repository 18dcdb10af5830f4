-- The variables stand for the connection's flow, also once the text goes on, and what they send is what it sends.
use Rattle.std.proofs.Common.{◌≡◌, ◌≤◌, ℕ, ◌+◌, ◌-◌, ◌%◌, ◌^◌, ◌==◌, ◌&&◌, ◌||◌, List, [], length, take, drop, Option, None, Bool, cond, refl, ap, ◌∙◌, sym, arith, ltb, min, max}
use Rattle.nb_streams.specs.Streams.{HeldBytes, next, is_stop}
use Rattle.nb_streams.specs.Flows.{full_window, is_sending, going_on, sends_next}
use Rattle.nb_streams.specs.Sending.{Outgoing, segment_at, pure_ack, text_segment, rst_ack, fin_ack, probe, wrapped}
use Rattle.nb_streams.proofs.StreamLaws.{either}
use Rattle.nb_tcp.specs.declared.variables.Variables.{Variables}
use Rattle.nb_tcp.specs.Numbers.{flow_of, sends_more, segment_size, next_sending, outgoing_at, probe_at}
use Rattle.nb_tcp.specs.Replies.{went_on, unacked_text, ack_of_variables, conn_reset}
use Rattle.nb_tcp.specs.ConnStanding.{FlowStands}

pub same_out : (flags width : ℕ) (bytes : List ℕ) (place : ℕ) (v : Variables) (h : HeldBytes) (text : List ℕ) → v.next ≡ next h → v.stop ≡ h.stop
    → segment_at flags width bytes place (flow_of v h text) ≡ outgoing_at flags width bytes place v
same_out flags width bytes place v h text next stop =
    let made : (n : ℕ) (o : Option ℕ) → Outgoing = λ n o. record { number = wrapped (v.iss + 1 + place); acknowledges = wrapped ((v.irs + 1) + (n + (cond (is_stop o n) 1 0))); flags = flags; window = width; mss = None; body = bytes } in
    ap (λ n. made n h.stop) (sym next) ∙ ap (λ o. made v.next o) (sym stop)

pub ack_out : (v : Variables) (h : HeldBytes) (text : List ℕ) → v.next ≡ next h → v.stop ≡ h.stop → pure_ack (flow_of v h text) ≡ ack_of_variables v
ack_out v h text next stop = same_out 16 full_window [] v.sent v h text next stop

pub reset_out : (v : Variables) (h : HeldBytes) (text : List ℕ) → v.next ≡ next h → v.stop ≡ h.stop → rst_ack (flow_of v h text) ≡ conn_reset v
reset_out v h text next stop =
    let made : ℕ → Outgoing = λ n. record { number = wrapped (v.iss + 1 + v.sent); acknowledges = wrapped ((v.irs + 1) + n); flags = 20; window = 0; mss = None; body = [] } in
    ap made (sym next)

pub fin_out : (v : Variables) (h : HeldBytes) (text : List ℕ) → v.next ≡ next h → v.stop ≡ h.stop → fin_ack (flow_of v h text) ≡ outgoing_at 17 full_window [] v.sent v
fin_out v h text next stop = same_out 17 full_window [] v.sent v h text next stop

pub probe_out : (v : Variables) (h : HeldBytes) (text : List ℕ) → v.next ≡ next h → v.stop ≡ h.stop → probe (flow_of v h text) ≡ probe_at v
probe_out v h text next stop = ap (λ (o : Outgoing). record o { number = ((v.iss + 1) + v.sent + (2 ^ 32 - 1)) % 2 ^ 32 }) (same_out 16 full_window [] v.sent v h text next stop)

pub text_out : (v : Variables) (h : HeldBytes) (text : List ℕ) (given : ℕ) (unacked : List ℕ) → FlowStands v h text given unacked → text_segment (flow_of v h text) ≡ unacked_text v unacked
text_out v h text given unacked c =
    same_out 24 full_window (take (v.upto - v.acked) (drop v.acked text)) v.acked v h text c.next c.stop
    ∙ ap (λ xs. outgoing_at 24 full_window (take (v.upto - v.acked) xs) v.acked v) (sym c.rest)
    ∙ ap (λ k. outgoing_at 24 full_window (take k unacked) v.acked v) (few v.upto v.acked c.few)
  where
    few : (a b : ℕ) → a ≤ b + 1460 → a - b ≡ min (a - b) 1460
    few a b l = omega (arith, l)

pub sending_same : (advanced : Bool) (v : Variables) (h : HeldBytes) (text : List ℕ) (given : ℕ) → given ≡ length text → is_sending advanced (flow_of v h text) ≡ sends_more advanced given v
sending_same advanced v h text given e = ap (λ k. (advanced && ltb v.acked v.sent) || (v.acked == v.sent && ltb v.acked k)) (sym e)

pub next_same : (v : Variables) (h : HeldBytes) (text : List ℕ) (given : ℕ) → given ≡ length text → sends_next (flow_of v h text) ≡ flow_of (next_sending given v) h text
next_same v h text given e = ap (λ k. flow_of (record v { upto = min (v.acked + segment_size v) k; sent = max v.sent (min (v.acked + segment_size v) k) }) h text) (sym e)

pub next_stands : (v : Variables) (h : HeldBytes) (text : List ℕ) (given : ℕ) (unacked : List ℕ) → FlowStands v h text given unacked → FlowStands (next_sending given v) h text given unacked
next_stands v h text given unacked c = record {
  next = c.next;
  stop = c.stop;
  in_all = c.in_all;
  small = c.small;
  rest = c.rest;
  few = most v.acked (min (max v.mss 1) (max v.room 1)) given;
}
  where
    most : (a b k : ℕ) → min (a + min b 1460) k ≤ a + 1460
    most a b k = omega arith

pub going_same : (advanced : Bool) (v : Variables) (h : HeldBytes) (text : List ℕ) (given : ℕ) → given ≡ length text → going_on advanced (flow_of v h text) ≡ flow_of (went_on advanced given v) h text
going_same advanced v h text given e = either (sends_more advanced given v)
    (λ t. rw (sending_same advanced v h text given e, t) (next_same v h text given e))
    (λ f. rw (sending_same advanced v h text given e, f) refl)

pub went_stands : (advanced : Bool) (v : Variables) (h : HeldBytes) (text : List ℕ) (given : ℕ) (unacked : List ℕ) → FlowStands v h text given unacked → FlowStands (went_on advanced given v) h text given unacked
went_stands advanced v h text given unacked c = either (sends_more advanced given v)
    (λ t. rw t (next_stands v h text given unacked c))
    (λ f. rw f c)
