-- Where a connection's window is after a call: lent or not, delivered or waiting.
use Rattle.std.proofs.Common.{◌≡◌, ◌≤◌, ◌<◌, ℕ, ◌^◌, List, [], ◌∷◌, ◌++◌, length, Option, Some, None, Bool, true, false, refl, ap, ◌∙◌, sym, subst, arith, ltb}
use Rattle.std.specs.Prelude.{Result, Ok, Err, OnOk, OnErr, MatchBool}
use Rattle.std.specs.Option.{is_some}
use Rattle.std.proofs.lemmas.Bool.{false≢true, ltb-true, ltb-false, le-ltb}
use Rattle.nb_terms.specs.declared.acts.Acts.{Acts}
use Rattle.nb_reasm.specs.declared.held.Held.{Held}
use Rattle.nb_reasm.specs.HeldWindows.{window}
use Rattle.nb_streams.specs.Segments.{Incoming, Arrival}
use Rattle.nb_streams.specs.Streams.{HeldBytes}
use Rattle.nb_streams.specs.Flows.{segment_came, held_after}
use Rattle.nb_streams.proofs.StreamLaws.{either}
use Rattle.nb_tcp.specs.declared.link.Link.{Link}
use Rattle.nb_tcp.specs.declared.conn.Conn.{Conn}
use Rattle.nb_tcp.specs.declared.conn.ConnState.{ConnState}
use Rattle.nb_tcp.specs.declared.conn.ConnState.TheVariants.{SynSent, Established, Ended}
use Rattle.nb_tcp.specs.declared.variables.Variables.{Variables}
use Rattle.nb_tcp.specs.declared.variables.Verdict.{Verdict}
use Rattle.nb_tcp.specs.declared.variables.Verdict.TheVariants as verdict
use Rattle.nb_tcp.specs.Numbers.{judged}
use Rattle.nb_tcp.specs.Receiving.{Receives}
use Rattle.nb_tcp.specs.Replies.{only_ready, has_finished}
use Rattle.nb_tcp.specs.SegmentSteps.{FollowsVerdict, FollowsState}
use Rattle.nb_tcp.specs.OtherSteps.{ticked_conn, SameConn, FollowsGiven}
use Rattle.nb_tcp.specs.ConnHistory.{ConnEntry, conn_entry, calls_in, tcp_calls, delivered, is_waiting_after, is_lent_after, has_ended_after}
use Rattle.nb_tcp.specs.ConnStanding.{waits_in, IsDelivered, HoldsRest, ConnStands, HasDelivered, has_window, KeepsWindow}
use Rattle.nb_tcp.proofs.ConnHistoryLemmas.{waiting-append}
use Rattle.nb_tcp.proofs.SegmentStandsLemmas.{segment_stands, segment_ignored}

-- what was delivered isn't lent, and doesn't wait
is_here : (o : Option Held) → IsDelivered o → is_some o ≡ true
is_here None d = absurd d
is_here (Some w) d = refl

delivered_waits : (o : Option Held) → IsDelivered o → waits_in o ≡ false
delivered_waits None d = absurd d
delivered_waits (Some w) d = le-ltb (window w).base (window w).next (omega (arith, d))

-- a segment lends nothing
received_here : (v a : Variables) (s : Incoming) (old new : Option Held) → Receives v s old new a → is_some new ≡ is_some old
received_here v a s None new r = ap is_some r.0
received_here v a s (Some old) None r = absurd r
received_here v a s (Some old) (Some new) r = refl

module _ (old new : Conn) (rec : ℕ) (s : Incoming) (now : ℕ) (acts : Acts) where
  by_verdict : (v : Variables) (d : Verdict) → FollowsVerdict old v rec s now d new acts → has_window new ≡ has_window old
  by_verdict v verdict.Reset f = ap has_window f.0
  by_verdict v verdict.Taken f = received_here v f.received s old.held new.held f.receives
  by_verdict v verdict.Answered f = ap has_window f.0
  by_verdict v verdict.Dropped f = ap has_window f.0

  stays_here : (st : ConnState) → FollowsState old st rec s now new acts → has_window new ≡ has_window old
  stays_here SynSent f = ap has_window f.0
  stays_here (Established v) f = by_verdict v (judged v s) f
  stays_here (Ended at_end) f = ap has_window f.0

pub window_here : (old new : Conn) (rec : ℕ) (s : Incoming) (now : ℕ) (acts : Acts) → HasDelivered old → FollowsState old old.state rec s now new acts → has_window new ≡ true
window_here old new rec s now acts here follows = stays_here old new rec s now acts old.state follows ∙ is_here old.held here

-- what is here and waits wasn't delivered, and else it was
waits_so : (o : Option Held) (hb : HeldBytes) (bytes : List ℕ) (lent : Bool) → HoldsRest o hb bytes lent → is_some o ≡ true → (ready : Bool) → waits_in o ≡ ready → MatchBool ready (IsDelivered o → ⊥) (IsDelivered o)
waits_so None hb bytes lent k is ready w = absurd (false≢true is)
waits_so (Some x) hb bytes lent k is true w = λ d. omega (arith, ltb-true (window x).base (window x).next w, d)
waits_so (Some x) hb bytes lent k is false w = omega (arith, k.1.least.0, ltb-false (window x).base (window x).next w)

-- after a segment
pub waits_after_segment : (l : Link) (start : ℕ) (old new : Conn) (h : List ConnEntry) (m : Arrival) (now : ℕ) (acts : Acts) → HasDelivered old → length m.segment.body < 2 ^ 16 → FollowsState old old.state m.rec m.segment now new acts → ConnStands l start old h
    → MatchBool acts.ready (HasDelivered new → ⊥) (HasDelivered new)
waits_after_segment l start old new h m now acts here short follows was = either (has_ended_after h)
    (λ over. let same : ConnStands l start new h × (acts ≡ only_ready false) = segment_ignored l start old new h m now acts was over follows in
    by_rest h same.0 (same.0.waits ∙ sym was.waits ∙ delivered_waits old.held here ∙ ap (λ (a : Acts). a.ready) (sym same.1)))
    (λ alive. let after : ConnStands l start new (h ++ conn_entry (calls_in (segment_came m now)) acts ∷ []) = segment_stands l start old new h m now acts was alive here short follows in
    by_rest (h ++ conn_entry (calls_in (segment_came m now)) acts ∷ []) after (after.waits ∙ waiting-append h (conn_entry (calls_in (segment_came m now)) acts)))
  where
    by_rest : (g : List ConnEntry) → ConnStands l start new g → waits_in new.held ≡ acts.ready → MatchBool acts.ready (HasDelivered new → ⊥) (HasDelivered new)
    by_rest g stands w = waits_so new.held (held_after l.isn (tcp_calls g)) (delivered g) (is_lent_after g) stands.held (window_here old new m.rec m.segment now acts here follows) acts.ready w

-- calls that bring nothing
pub keeps_by : (old new : Conn) → new.held ≡ old.held → KeepsWindow old new
keeps_by old new e = record { window = ap is_some e; delivered = λ d. subst IsDelivered (sym e) d }

pub ticked_held : (c : Conn) (now : ℕ) → (ticked_conn c now).held ≡ c.held
ticked_held c now = either (has_finished c.state) (λ t. rw t refl) (λ f. rw f refl)

follows_held : (finished : Bool) (old new : Conn) (bytes : List ℕ) (now : ℕ) (acts : Acts) → FollowsGiven finished old bytes now new acts → new.held ≡ old.held
follows_held true old new bytes now acts f = f.0.held
follows_held false old new bytes now acts f = f.held

pub given_held : {A E : Type 0} (r : Result A E) (old new : Conn) (bytes : List ℕ) (now : ℕ) (acts : Acts) → OnOk r (FollowsGiven (has_finished old.state) old bytes now new acts)
    → OnErr r (SameConn old new × (acts ≡ only_ready (waits_in old.held))) → new.held ≡ old.held
given_held (Ok x) old new bytes now acts f same = follows_held (has_finished old.state) old new bytes now acts f
given_held (Err e) old new bytes now acts f same = same.0.held
