-- What has come leaves one answer, and what is put may be sent.
use Rattle.std.proofs.Common.{◌≡◌, inl, inr, ℕ, List, [], ◌∷◌, ◌++◌, Option, Some, None, refl, ap, ◌∙◌, sym, subst, append-nil, append_assoc}
use Rattle.std.specs.List.{AllByRecursion}
use Rattle.std.proofs.lemmas.List.{append_cancel_left}
use Rattle.nb_terms.specs.declared.cause.Cause.{Cause}
use Rattle.nb_retry.specs.declared.retry.Due.{Due}
use Rattle.nb_retry.specs.declared.retry.Due.TheVariants.{Not, Again, Over}
use Rattle.nb_retry.specs.Plans.{Asked}
use Rattle.nb_streams.specs.Segments.{Arrival}
use Rattle.nb_streams.specs.Flows.{TcpCall, segment_came, ConnPhase, conn_phase}
use Rattle.nb_streams.specs.Sending.{Outgoing, MaySend, calls_for}
use Rattle.nb_streams.specs.Trying.{timer_after, fired, due_fired}
use Rattle.nb_talks.specs.Talking.{Came, by_segment, by_time, by_task, Talker, Talk, unsaid, text_to_send, texts_for, text_calls, receives, talks_on}
use Rattle.nb_talks.specs.TalkPromises.{Sends, Put, phase_of, said_sends, texts_sent, unless_ended, closes_by, talker_end, segment_put, due_sends, time_put, PutsAtTime, PutsSo, MaySendBy}
use Rattle.nb_streams.specs.Endings.{segment_end}
use Rattle.nb_streams.proofs.FlowLaws.{all_append}
use Rattle.nb_streams.proofs.OtherSendLaws.{again_may, closing_may, SaysText, said_may, text_is_said, more_says}
use Rattle.nb_streams.proofs.SendLaws.{all_in_order, all_may_be_sent}

-- what is due, by what fires
first_due : List Asked → Due
first_due [] = Not
first_due (a ∷ rest) = a.said

due_back : (now : ℕ) (due : Due) → first_due (due_fired now due) ≡ due
unfolding first_due
due_back now Not = refl
due_back now (Again n) = refl
due_back now Over = refl

same_time : {T : Type 0} (isn start : ℕ) (d : Talk T) (now : ℕ) (a b : Put) → PutsAtTime isn start d now a → PutsAtTime isn start d now b → a ≡ b
same_time isn start d now a b x y =
    let before : List Asked = fired (timer_after isn start d.calls) in
    let fires : due_fired now x.due ≡ due_fired now y.due = append_cancel_left (fired (timer_after isn start d.calls)) (due_fired now x.due) (due_fired now y.due) (sym x.fires ∙ y.fires) in
    let same : x.due ≡ y.due = sym (due_back now x.due) ∙ ap first_due fires ∙ due_back now y.due in
    x.is ∙ ap (time_put isn (phase_of isn d) (timer_after isn start d.calls).plan) same ∙ sym y.is

pub one_answer : {T : Type 0} (t : Talker T) (isn start : ℕ) (d : Talk T) (c : Came T) (a b : Put) → PutsSo t isn start d c a → PutsSo t isn start d c b → a ≡ b
one_answer t isn start d (by_segment m now) a b x y = x ∙ sym y
one_answer t isn start d (by_time now) a b x y = same_time isn start d now a b x y
one_answer t isn start d (by_task task now) a b x y = x ∙ sym y

-- each of a list, by a weaker fact
all_weaker : (P Q : Outgoing → Type 0) (sends : Sends) → ((o : Outgoing) → P o → Q o) → AllByRecursion (λ s. P s.0) sends → AllByRecursion (λ s. Q s.0) sends
all_weaker P Q [] weaker all = tt
all_weaker P Q (s ∷ sends) weaker all = (weaker s.0 all.0, all_weaker P Q sends weaker all.1)

-- text that is said still is where more is given later
all_say_more : (isn : ℕ) (cs : List TcpCall) (text : List ℕ) (now : ℕ) (sends : Sends) → AllByRecursion (λ s. SaysText isn cs s.0) sends → AllByRecursion (λ s. SaysText isn (cs ++ text_to_send text now) s.0) sends
all_say_more isn cs text now [] all = tt
all_say_more isn cs [] now (s ∷ sends) all = subst (λ x. AllByRecursion (λ (z : Outgoing × Option ℕ). SaysText isn x z.0) (s ∷ sends)) (sym (append-nil cs)) all
all_say_more isn cs (b ∷ bytes) now (s ∷ sends) all = (more_says isn cs s.0 (b ∷ bytes) now all.0, all_say_more isn cs (b ∷ bytes) now sends all.1)

all_say_texts : (isn : ℕ) (cs : List TcpCall) (texts : List (List ℕ)) (now : ℕ) (sends : Sends) → AllByRecursion (λ s. SaysText isn cs s.0) sends → AllByRecursion (λ s. SaysText isn (cs ++ text_calls texts now) s.0) sends
all_say_texts isn cs [] now sends all = subst (λ x. AllByRecursion (λ (z : Outgoing × Option ℕ). SaysText isn x z.0) sends) (sym (append-nil cs)) all
all_say_texts isn cs (x ∷ xs) now sends all =
    subst (λ z. AllByRecursion (λ (s : Outgoing × Option ℕ). SaysText isn z s.0) sends) (append_assoc cs (text_to_send x now) (text_calls xs now))
    (all_say_texts isn (cs ++ text_to_send x now) xs now sends (all_say_more isn cs x now sends all))

text_says : (isn : ℕ) (cs : List TcpCall) (text : List ℕ) (now : ℕ) → AllByRecursion (λ s. SaysText isn (cs ++ text_to_send text now) s.0) (said_sends (conn_phase isn cs) text)
text_says isn cs [] now = tt
text_says isn cs (b ∷ bytes) now = text_is_said isn cs (b ∷ bytes) now

-- so what texts call for that are given in turn may be sent after all of them
texts_say : (isn : ℕ) (cs : List TcpCall) (texts : List (List ℕ)) (now : ℕ) → AllByRecursion (λ s. SaysText isn (cs ++ text_calls texts now) s.0) (texts_sent isn cs texts now)
texts_say isn cs [] now = tt
texts_say isn cs (x ∷ xs) now =
    let P = λ (z : List TcpCall) (sends : Sends). AllByRecursion (λ s. SaysText isn z s.0) sends in
    let whole = append_assoc cs (text_to_send x now) (text_calls xs now) in
    all_append (λ (s : Outgoing × Option ℕ). SaysText isn (cs ++ text_calls (x ∷ xs) now) s.0) (said_sends (conn_phase isn cs) x) (texts_sent isn (cs ++ text_to_send x now) xs now)
    (subst (λ z. P z (said_sends (conn_phase isn cs) x)) whole (all_say_texts isn (cs ++ text_to_send x now) xs now (said_sends (conn_phase isn cs) x) (text_says isn cs x now)))
    (subst (λ z. P z (texts_sent isn (cs ++ text_to_send x now) xs now)) whole (texts_say isn (cs ++ text_to_send x now) xs now))

all_may : (isn : ℕ) (cs : List TcpCall) (sends : Sends) → AllByRecursion (λ s. SaysText isn cs s.0) sends → AllByRecursion (λ s. MaySend isn cs s.0) sends
all_may isn cs [] all = tt
all_may isn cs (s ∷ sends) all = (said_may isn cs s.0 all.0, all_may isn cs sends all.1)

text_may : (isn : ℕ) (cs : List TcpCall) (texts : List (List ℕ)) (now : ℕ) → AllByRecursion (λ s. MaySend isn (cs ++ text_calls texts now) s.0) (texts_sent isn cs texts now)
text_may isn cs texts now = all_may isn (cs ++ text_calls texts now) (texts_sent isn cs texts now) (texts_say isn cs texts now)

unless_may : (P : Outgoing → Type 0) (over : Option Cause) (sends : Sends) → AllByRecursion (λ s. P s.0) sends → AllByRecursion (λ s. P s.0) (unless_ended over sends)
unless_may P None sends all = all
unless_may P (Some cause) sends all = tt

closes_may : (isn : ℕ) (cs : List TcpCall) (ends other : Option Cause) → AllByRecursion (λ s. MaySend isn cs s.0) (closes_by ends other isn (conn_phase isn cs))
closes_may isn cs None other = tt
closes_may isn cs (Some cause) None = (closing_may isn cs (conn_phase isn cs) refl, tt)
closes_may isn cs (Some cause) (Some other) = tt

due_may : (isn : ℕ) (cs : List TcpCall) (due : Due) → AllByRecursion (λ s. MaySend isn cs s.0) (due_sends isn (conn_phase isn cs) due)
due_may isn cs Not = tt
due_may isn cs (Again n) = (again_may isn cs (conn_phase isn cs) (all_in_order isn cs) refl, tt)
due_may isn cs Over = tt

segment_may : {T : Type 0} (t : Talker T) (isn : ℕ) (d : Talk T) (m : Arrival) (now : ℕ) → AllByRecursion (λ s. MaySendBy t isn d (by_segment m now) s.0) (segment_put t isn d m now).sends
segment_may t isn d m now =
    let heard = receives isn d (by_segment m now) in
    let after = talks_on t isn d (by_segment m now) in
    let Q = λ (o : Outgoing). MaySendBy t isn d (by_segment m now) o in
    let calls = calls_for isn (phase_of isn d) m.segment in
    let texts = texts_for t isn d (by_segment m now) in
    let sent = texts_sent isn heard.calls texts now in
    let over = segment_end isn (phase_of isn d) m in
    let text = unless_ended over sent in
    let closes = closes_by (talker_end t isn m.rec heard) over isn (phase_of isn after) in
    all_append (λ (s : Outgoing × Option ℕ). Q s.0) (calls ++ text) closes
    (all_append (λ (s : Outgoing × Option ℕ). Q s.0) calls text
    (all_weaker (MaySend isn (d.calls ++ segment_came m now ∷ [])) Q calls (λ o may. inr (inl may)) (all_may_be_sent isn d.calls m now))
    (unless_may Q over sent (all_weaker (MaySend isn after.calls) Q sent (λ o may. inr (inr may)) (text_may isn heard.calls texts now))))
    (all_weaker (MaySend isn after.calls) Q closes (λ o may. inr (inr may)) (closes_may isn after.calls (talker_end t isn m.rec heard) over))

pub puts_what_may_be : {T : Type 0} (t : Talker T) (isn start : ℕ) (d : Talk T) (c : Came T) (put : Put) → PutsSo t isn start d c put → AllByRecursion (λ s. MaySendBy t isn d c s.0) put.sends
puts_what_may_be t isn start d (by_segment m now) put is =
    subst (λ (p : Put). AllByRecursion (λ s. MaySendBy t isn d (by_segment m now) s.0) p.sends) (sym is) (segment_may t isn d m now)
puts_what_may_be t isn start d (by_time now) put x =
    let Q = λ (o : Outgoing). MaySendBy t isn d (by_time now) o in
    subst (λ (p : Put). AllByRecursion (λ s. MaySendBy t isn d (by_time now) s.0) p.sends) (sym x.is)
    (all_weaker (MaySend isn d.calls) Q (due_sends isn (phase_of isn d) x.due) (λ o may. inl may) (due_may isn d.calls x.due))
puts_what_may_be t isn start d (by_task task now) put is =
    let heard = receives isn d (by_task task now) in
    let Q = λ (o : Outgoing). MaySendBy t isn d (by_task task now) o in
    subst (λ (p : Put). AllByRecursion (λ s. MaySendBy t isn d (by_task task now) s.0) p.sends) (sym is)
    (all_weaker (MaySend isn (talks_on t isn d (by_task task now)).calls) Q (said_sends (phase_of isn heard) (unsaid t isn heard)) (λ o may. inr (inr may))
    (subst (λ x. AllByRecursion (λ (s : Outgoing × Option ℕ). MaySend isn (heard.calls ++ x) s.0) (said_sends (phase_of isn heard) (unsaid t isn heard))) (sym (append-nil (text_to_send (unsaid t isn heard) now)))
    (all_may isn (heard.calls ++ text_to_send (unsaid t isn heard) now) (said_sends (phase_of isn heard) (unsaid t isn heard)) (text_says isn heard.calls (unsaid t isn heard) now))))
