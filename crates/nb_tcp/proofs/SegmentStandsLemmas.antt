-- A connection goes on to stand for its calls when a segment comes, however far it is.
use Rattle.std.proofs.Common.{◌≡◌, ◌<◌, ℕ, ◌^◌, ◌==◌, not, List, [], ◌∷◌, ◌++◌, length, Option, Some, None, Bool, true, false, cond, refl, ap, ◌∙◌, sym, subst, arith}
use Rattle.std.proofs.lemmas.Bool.{eq-eqb, false≢true, ltb-false}
use Rattle.nb_terms.specs.declared.acts.Acts.{Acts}
use Rattle.nb_terms.specs.declared.cause.Cause.{Cause}
use Rattle.nb_reasm.specs.declared.held.Held.{Held}
use Rattle.nb_reasm.specs.HeldWindows.{window}
use Rattle.nb_streams.specs.Segments.{Arrival}
use Rattle.nb_streams.specs.Flows.{segment_came, held_after, is_taken}
use Rattle.nb_streams.specs.Sending.{Outgoing, is_reset, is_answered_by_ack, without_try}
use Rattle.nb_tcp.specs.declared.link.Link.{Link}
use Rattle.nb_tcp.specs.declared.conn.Conn.{Conn}
use Rattle.nb_tcp.specs.declared.conn.ConnState.{ConnState}
use Rattle.nb_tcp.specs.declared.conn.ConnState.TheVariants.{SynSent, Established, Ended}
use Rattle.nb_tcp.specs.declared.variables.Variables.{Variables}
use Rattle.nb_tcp.specs.declared.variables.Verdict.{Verdict}
use Rattle.nb_tcp.specs.declared.variables.Verdict.TheVariants as verdict
use Rattle.nb_tcp.specs.Numbers.{flow_of, judged}
use Rattle.nb_tcp.specs.Replies.{only_ready, also_sending, refused_in, ack_of_variables, syn_answered, syn_answer_acts, syn_answer_state, syn_answer_retry, has_finished}
use Rattle.nb_tcp.specs.SegmentSteps.{FollowsVerdict, FollowsState}
use Rattle.nb_tcp.specs.ConnHistory.{ConnEntry, conn_entry, calls_in, tcp_calls, delivered, is_waiting_after, is_lent_after, has_ended_after}
use Rattle.nb_tcp.specs.ConnStanding.{waits_in, IsDelivered, HoldsRest, FlowsSo, StateStands, ConnStands}
use Rattle.nb_tcp.proofs.TakenLemmas.{Means, verdict_means}
use Rattle.nb_tcp.proofs.AnswerLemmas.{acts_by}
use Rattle.nb_tcp.proofs.TakenStandsLemmas.{taken_goes_on}
use Rattle.nb_tcp.proofs.UntakenStandsLemmas.{untaken_goes_on}
use Rattle.nb_tcp.proofs.AskedStandsLemmas.{asked_goes_on}
use Rattle.nb_tcp.proofs.GoesOnLemmas.{phase_of, GoesOn, goes_on}

-- what stays is what stood there
same_place : (l : Link) (xs : List (Outgoing × Option ℕ)) (n : ℕ) (o : Option Cause) → acts_by l xs n n o ≡ acts_by l xs 0 0 o
same_place l xs n o = by_test (n == n) (eq-eqb n n refl)
  where
    by_test : (b : Bool) → b ≡ true → record (acts_by l xs 0 0 o) { ready = not b; advance = cond b None (Some n) } ≡ acts_by l xs 0 0 o
    by_test true e = refl
    by_test false e = absurd (false≢true e)

as_it_was : (old : Conn) (st : ConnState) → old.state ≡ st → old ≡ record old { state = st }
as_it_was old st e = ap (λ x. record old { state = x }) e

module _ (l : Link) (start : ℕ) (old new : Conn) (h : List ConnEntry) (m : Arrival) (now : ℕ) (acts : Acts) where
  pub segment_goes_on : ConnStands l start old h → has_ended_after h ≡ false → IsDelivered old.held → length m.segment.body < 2 ^ 16 → FollowsState old old.state m.rec m.segment now new acts → GoesOn l start h (segment_came m now) acts new
  segment_goes_on was alive here short follows = by_state old.state refl was.state follows
    where
      running : has_finished old.state ≡ false
      running = was.over ∙ alive

      not_reset : (v : Variables) (flows : FlowsSo v old.given old.unacked.items (phase_of l h)) → Means (is_taken (flow_of v flows.held flows.text) m.segment) (is_reset (flow_of v flows.held flows.text) m.segment) (is_answered_by_ack (flow_of v flows.held flows.text) m.segment) (judged v m.segment)
      not_reset v flows = verdict_means v flows.held flows.text m.segment flows.stands.next

      by_verdict : (v : Variables) (flows : FlowsSo v old.given old.unacked.items (phase_of l h)) → old.state ≡ Established v → (d : Verdict) → Means (is_taken (flow_of v flows.held flows.text) m.segment) (is_reset (flow_of v flows.held flows.text) m.segment) (is_answered_by_ack (flow_of v flows.held flows.text) m.segment) d
          → FollowsVerdict old v m.rec m.segment now d new acts → GoesOn l start h (segment_came m now) acts new
      by_verdict v flows e verdict.Taken means f = taken_goes_on l start old new h m now acts v (record { was = was; alive = alive; running = running; here = here; short = short; takes = f; flows = flows; taken = means.0; reset = means.1 })
      by_verdict v flows e verdict.Reset means f = untaken_goes_on l start old new h m now acts v false true (record {
        was = was;
        running = running;
        here = here;
        state_was = e;
        flows = flows;
        taken = means.0;
        reset_is = means.1;
        answered_is = means.2;
        new_is = f.0;
        acts_are = f.1 ∙ sym (same_place l [] v.next (Some (refused_in m.rec)));
      })
      by_verdict v flows e verdict.Answered means f = untaken_goes_on l start old new h m now acts v true false (record {
        was = was;
        running = running;
        here = here;
        state_was = e;
        flows = flows;
        taken = means.0;
        reset_is = means.1;
        answered_is = means.2;
        new_is = f.0 ∙ as_it_was old (Established v) e;
        acts_are = f.1 ∙ ap (λ x. also_sending x (ack_of_variables v) (only_ready false)) was.link ∙ sym (same_place l (without_try (ack_of_variables v) ∷ []) v.next None);
      })
      by_verdict v flows e verdict.Dropped means f = untaken_goes_on l start old new h m now acts v false false (record {
        was = was;
        running = running;
        here = here;
        state_was = e;
        flows = flows;
        taken = means.0;
        reset_is = means.1;
        answered_is = means.2;
        new_is = f.0 ∙ as_it_was old (Established v) e;
        acts_are = f.1 ∙ sym (same_place l [] v.next None);
      })

      by_state : (st : ConnState) → old.state ≡ st → StateStands st old.given old.unacked.items (phase_of l h) → FollowsState old st m.rec m.segment now new acts → GoesOn l start h (segment_came m now) acts new
      by_state SynSent e stands f = asked_goes_on l start old new h m now acts (record {
        was = was;
        state_was = e;
        here = here;
        asks = stands;
        new_is = f.0 ∙ ap (λ x. record old { state = syn_answer_state x old.given m.segment (syn_answered x.isn m.segment); retry = syn_answer_retry x old.given m.segment now (syn_answered x.isn m.segment) old.retry }) was.link;
        acts_are = f.1 ∙ ap (λ x. syn_answer_acts x old.given old.unacked.items m.rec m.segment (syn_answered x.isn m.segment)) was.link;
      })
      by_state (Established v) e stands f = by_verdict v stands e (judged v m.segment) (not_reset v stands) f
      by_state (Ended at_end) e stands f = absurd (false≢true (sym running ∙ ap has_finished e))

  pub segment_stands : ConnStands l start old h → has_ended_after h ≡ false → IsDelivered old.held → length m.segment.body < 2 ^ 16 → FollowsState old old.state m.rec m.segment now new acts
      → ConnStands l start new (h ++ conn_entry (calls_in (segment_came m now)) acts ∷ [])
  segment_stands was alive here short follows = goes_on l start old new h (segment_came m now) acts was alive (segment_goes_on was alive here short follows)

  -- what has ended ignores it
  pub segment_ignored : ConnStands l start old h → has_ended_after h ≡ true → FollowsState old old.state m.rec m.segment now new acts → ConnStands l start new h × (acts ≡ only_ready false)
  segment_ignored was over follows = by_state old.state refl follows
    where
      finished : has_finished old.state ≡ true
      finished = was.over ∙ over

      by_state : (st : ConnState) → old.state ≡ st → FollowsState old st m.rec m.segment now new acts → ConnStands l start new h × (acts ≡ only_ready false)
      by_state SynSent e f = absurd (false≢true (ap has_finished (sym e) ∙ finished))
      by_state (Established v) e f = absurd (false≢true (ap has_finished (sym e) ∙ finished))
      by_state (Ended at_end) e f = (subst (λ c. ConnStands l start c h) (sym f.0) was, f.1)

-- where nothing is lent or waits, all was delivered
pub nothing_waits : (l : Link) (start : ℕ) (c : Conn) (h : List ConnEntry) → ConnStands l start c h → is_lent_after h ≡ false → is_waiting_after h ≡ false → IsDelivered c.held
nothing_waits l start c h was lent waits = by_held c.held was.held (was.waits ∙ waits)
  where
    by_held : (o : Option Held) → HoldsRest o (held_after l.isn (tcp_calls h)) (delivered h) (is_lent_after h) → waits_in o ≡ false → IsDelivered o
    by_held None k e = absurd (false≢true (sym lent ∙ k.0))
    by_held (Some w) k e = omega (arith, k.1.least.0, ltb-false (window w).base (window w).next e)
