-- What a drive's session puts: the segments may be sent after what has come, or after what was said then; a try is what the connection would try
-- again; and a place is further than the one before.
use Rattle.std.proofs.Common.{◌≡◌, ℕ, ◌≤◌, List, [], ◌∷◌, ◌++◌, Option, Some, None, sym, ◌∙◌, ap, subst, append_assoc, append-nil}
use Rattle.nb_terms.specs.declared.cause.Cause.{Cause}
use Rattle.std.specs.List.{AllByRecursion}
use Rattle.nb_streams.specs.Streams.{next, grown}
use Rattle.nb_streams.specs.Flows.{TcpCall, segment_came, time_came, conn_phase, held_in, held_after}
use Rattle.nb_streams.specs.Sending.{Outgoing, MaySend, calls_for}
use Rattle.nb_streams.specs.Endings.{segment_end}
use Rattle.nb_talks.specs.Talking.{Came, by_segment, by_time, by_task, unsaid, text_to_send, text_calls, receives, talks_on, talk_after}
use Rattle.nb_talks.specs.TalkPromises.{Sends, Put, PutsSo, said_sends, texts_sent, unless_ended, closes_by, talker_end, due_sends}
use Rattle.nb_streams.proofs.FlowLaws.{all_append}
use Rattle.nb_streams.proofs.SendLaws.{all_may_be_sent}
use Rattle.nb_streams.proofs.OtherSendLaws.{phase_append}
use Rattle.nb_talks.proofs.TalkLaws.{held_with_texts}
use Rattle.nb_login.specs.declared.info.LoginInfo.{LoginInfo}
use Rattle.nb_sans.specs.Sessions.{ReadTask, session_talker}
use Rattle.nb_openlaws.proofs.SessionTexts.{text_may, texts_may, text_tried, texts_tried}
use Rattle.nb_openlaws.proofs.WebPuts.{TriedSo, calls_tried, close_tried, close_may, not_back, same_grown, time_phase, due_may, due_tried}
use Rattle.nb_openlaws.proofs.SessionTalks.{said_at, time_calls}

-- what texts call for, where the segment that brought them leaves the connection
unless_each : (P : Outgoing × Option ℕ → Type 0) (over : Option Cause) (sends : Sends) → AllByRecursion P sends → AllByRecursion P (unless_ended over sends)
unless_each P None sends all = all
unless_each P (Some cause) sends all = tt

-- ALL THAT AN EXCHANGE PUTS

-- first what is called for after these calls of its connection, then what is after those
pub record SessionWell (isn : ℕ) (before heard after : List TcpCall) (put : Put) : Type 0 where
  pub first : Sends
  pub second : Sends
  pub all : put.sends ≡ first ++ second
  pub first_may : AllByRecursion (λ s. MaySend isn heard s.0) first
  pub first_tried : AllByRecursion (TriedSo isn (conn_phase isn heard)) first
  pub second_may : AllByRecursion (λ s. MaySend isn after s.0) second
  pub second_tried : AllByRecursion (TriedSo isn (conn_phase isn after)) second
  pub place : put.advance ≡ grown (next (held_after isn before)) (next (held_after isn after))
  pub further : next (held_after isn before) ≤ next (held_after isn after)

pub session_well : (i : LoginInfo) (isn start : ℕ) (came : List (Came ReadTask)) (c : Came ReadTask) (put : Put) → PutsSo (session_talker i) isn start (talk_after (session_talker i) isn start came) c put →
    SessionWell isn (talk_after (session_talker i) isn start came).calls (receives isn (talk_after (session_talker i) isn start came) c).calls (talks_on (session_talker i) isn (talk_after (session_talker i) isn start came) c).calls put
session_well i isn start came (by_segment m now) put puts =
    let t = session_talker i in
    let d = talk_after t isn start came in
    let heard = d.calls ++ segment_came m now ∷ [] in
    let texts = said_at i isn d (by_segment m now) in
    let after = heard ++ text_calls texts now in
    let ends = talker_end t isn m.rec (receives isn d (by_segment m now)) in
    let other = segment_end isn (conn_phase isn d.calls) m in
    let first = calls_for isn (conn_phase isn d.calls) m.segment in
    let sent = texts_sent isn heard texts now in
    let said = unless_ended other sent in
    let closes = closes_by ends other isn (conn_phase isn after) in
    record {
      first = first;
      second = said ++ closes;
      all = ap (λ (p : Put). p.sends) puts ∙ append_assoc first said closes;
      first_may = all_may_be_sent isn d.calls m now;
      first_tried = subst (λ p. AllByRecursion (TriedSo isn p) first) (sym (phase_append isn d.calls (segment_came m now))) (calls_tried isn (conn_phase isn d.calls) m now);
      second_may = all_append (λ (s : Outgoing × Option ℕ). MaySend isn after s.0) said closes (unless_each (λ s. MaySend isn after s.0) other sent (texts_may isn heard texts now)) (close_may isn after ends other);
      second_tried = all_append (TriedSo isn (conn_phase isn after)) said closes (unless_each (TriedSo isn (conn_phase isn after)) other sent (texts_tried isn heard texts now))
          (close_tried isn (conn_phase isn after) (conn_phase isn after) ends other);
      place = ap (λ (p : Put). p.advance) puts ∙ ap (λ h. grown (next (held_after isn d.calls)) (next h)) (sym (held_with_texts isn heard texts now));
      further = subst (λ h. next (held_after isn d.calls) ≤ next h) (sym (held_with_texts isn heard texts now)) (not_back isn d.calls (segment_came m now ∷ []));
    }
session_well i isn start came (by_time now) put puts =
    let d = talk_after (session_talker i) isn start came in
    let heard = d.calls ++ time_came now ∷ [] in
    let after = (talks_on (session_talker i) isn d (by_time now)).calls in
    let same : after ≡ heard = time_calls i isn d now in
    let held : held_after isn d.calls ≡ held_after isn after = ap held_in (sym (time_phase isn d.calls now)) ∙ ap (held_after isn) (sym same) in
    record {
      first = due_sends isn (conn_phase isn d.calls) puts.due;
      second = [];
      all = ap (λ (p : Put). p.sends) puts.is ∙ sym (append-nil (due_sends isn (conn_phase isn d.calls) puts.due));
      first_may = due_may isn d.calls now puts.due;
      first_tried = subst (λ p. AllByRecursion (TriedSo isn p) (due_sends isn (conn_phase isn d.calls) puts.due)) (sym (time_phase isn d.calls now)) (due_tried isn (conn_phase isn d.calls) puts.due);
      second_may = tt;
      second_tried = tt;
      place = ap (λ (p : Put). p.advance) puts.is ∙ same_grown (next (held_after isn d.calls)) (next (held_after isn after)) (ap next held);
      further = subst (λ cs. next (held_after isn d.calls) ≤ next (held_after isn cs)) (sym same) (not_back isn d.calls (time_came now ∷ []));
    }
session_well i isn start came (by_task task now) put puts =
    let d = talk_after (session_talker i) isn start came in
    let text = unsaid (session_talker i) isn (receives isn d (by_task task now)) in
    let still = held_with_texts isn d.calls (text ∷ []) now in
    let one : d.calls ++ text_to_send text now ≡ d.calls ++ text_calls (text ∷ []) now = ap (λ z. d.calls ++ z) (sym (append-nil (text_to_send text now))) in
    record {
      first = [];
      second = said_sends (conn_phase isn d.calls) text;
      all = ap (λ (p : Put). p.sends) puts;
      first_may = tt;
      first_tried = tt;
      second_may = subst (λ z. AllByRecursion (λ (s : Outgoing × Option ℕ). MaySend isn z s.0) (said_sends (conn_phase isn d.calls) text)) one (text_may isn d.calls text now);
      second_tried = subst (λ z. AllByRecursion (TriedSo isn (conn_phase isn z)) (said_sends (conn_phase isn d.calls) text)) one (text_tried isn d.calls text now);
      place = ap (λ (p : Put). p.advance) puts ∙ same_grown (next (held_after isn d.calls)) (next (held_after isn (d.calls ++ text_calls (text ∷ []) now))) (ap next (sym still));
      further = not_back isn d.calls (text_calls (text ∷ []) now);
    }
