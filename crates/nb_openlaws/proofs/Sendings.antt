-- Records of opens that have their reasons: each FRAME, ADVANCE, TRY and ENDED.
use Rattle.std.proofs.Common.{◌≡◌, ℕ, ◌+◌, ◌==◌, Bool, true, false, cond, List, [], ◌∷◌, ◌++◌, Option, Some, None, refl, sym, ◌∙◌, ap, subst, append_assoc, append-nil, arith}
use Rattle.std.specs.Prelude.{unwrap_or}
use Rattle.std.specs.List.{flat_map}
use Rattle.std.proofs.lemmas.List.{map-append}
use Rattle.std.proofs.lemmas.Bool.{eqb-true}
use Rattle.nb_terms.specs.declared.acts.Acts.{Acts}
use Rattle.nb_terms.specs.declared.acts.SendTo.{SendTo}
use Rattle.nb_defs.specs.Records.{Out, sent, tried, advanced}
use Rattle.nb_stack.specs.Client.{Client}
use Rattle.nb_stack.specs.Sends.{put_on, way_of}
use Rattle.nb_tftp.specs.Asks.{Begun, last_message}
use Rattle.nb_tftp.specs.Asked.{IsAsked}
use Rattle.nb_tftp.specs.Blocks.{count}
use Rattle.nb_tftp.specs.Received.{Received, fixed_port}
use Rattle.nb_tftp.specs.History.{received_by}
use Rattle.nb_tftp.proofs.TryLaws.{Sends, sends_none, sends_one}
use Rattle.nb_tftp.proofs.AskedLaws.{AreAsked}
use Rattle.nb_machine.specs.Sendings.{has_route, acts_records, advance_records, sends_records, send_records, try_records}
use Rattle.nb_laws.specs.Events.{Event, puts, EachEvent, EachThen}
use Rattle.nb_laws.specs.Histories.{client}
use Rattle.nb_laws.specs.Progress.{file_place, IsFurther, IsAdvanced, AdvancesSo}
use Rattle.nb_laws.specs.Webs.{brought_to}
use Rattle.nb_laws.specs.Lists as lists
use Rattle.nb_laws.specs.Lists.{hardware, Opening, openings, open_has_ended, calls, last_place}
use Rattle.nb_laws.specs.Frames.{TriesSo, MayAskFor, by_transfer, IsSent, as_received, IsMessageTried, IsDue, stays_due, by_open, begun_by}
use Rattle.nb_laws.specs.Agreement.{AreAside, IsStill}
use Rattle.nb_laws.proofs.Histories.{each_append, each_then_append, client_put}
use Rattle.nb_laws.proofs.Tellings.{told, tries_later, still_advanced, advanced_more, hardware_stays, place_same, came_more, place_more, kept, openings_more, calls_more, same_number, session_stays}
use Rattle.nb_laws.proofs.Asides.{aside_try}
use Rattle.nb_laws.proofs.CoreAsks.{CoreAsks, asks_none, asks_one}
use Rattle.nb_openlaws.specs.OpenEndings.{OpensEndSo, by_reason, FramesSo}
use Rattle.nb_openlaws.specs.OpenReasons.{OpenReasons}
use Rattle.nb_openlaws.proofs.Takings.{due_told}
use Rattle.nb_openlaws.proofs.UsedEvents.{live_one}

pub told_more : (a b : List Out) → told (a ++ b) ≡ told a ++ told b
told_more a b = map-append puts a b

pub no_reasons : (es : List Event) → IsAdvanced es → OpenReasons es []
no_reasons es a = record { ends = tt; frames = tt; advances = tt; tries = tt; after = subst IsAdvanced (sym (append-nil es)) a }

pub reasons_then : (es : List Event) (a b : List Out) → OpenReasons es a → OpenReasons (es ++ told a) b → OpenReasons es (a ++ b)
reasons_then es a b p q = record {
  ends = subst (λ z. EachEvent OpensEndSo es z) (sym (told_more a b)) (each_append OpensEndSo es (told a) (told b) p.ends q.ends);
  frames = subst (λ z. EachEvent FramesSo es z) (sym (told_more a b)) (each_append FramesSo es (told a) (told b) p.frames q.frames);
  advances = subst (λ z. EachEvent AdvancesSo es z) (sym (told_more a b)) (each_append AdvancesSo es (told a) (told b) p.advances q.advances);
  tries = subst (λ z. EachThen TriesSo es z) (sym (told_more a b)) (each_then_append TriesSo es (told a) (told b) tries_later p.tries q.tries);
  after = subst IsAdvanced (append_assoc es (told a) (told b) ∙ ap (λ z. es ++ z) (sym (told_more a b))) q.after;
}

-- the message tried, where this was received
abbrev pub NewestBy : Opening → List Received → SendTo → Type 0
NewestBy o gs send = o.kind ≡ 1 → send ≡ last_message (begun_by o) (fixed_port gs) (count gs)

-- what of the client an open needs: the try before the FRAME leaves it
pub client_try : (es : List Event) (k : ℕ) (try : Option ℕ) → client (es ++ told (try_records k try)) ≡ client es
client_try es k None = ap (λ z. client z) (append-nil es)
client_try es k (Some n) = client_put es (tried k n) refl

pub client_advance : (es : List Event) (k : ℕ) (place : Option ℕ) → client (es ++ told (advance_records k place)) ≡ client es
client_advance es k None = ap (λ z. client z) (append-nil es)
client_advance es k (Some n) = client_put es (advanced k n) refl

pub aside_advance : (k : ℕ) (place : Option ℕ) → AreAside (advance_records k place)
aside_advance k None = tt
aside_advance k (Some n) = (tt, tt)

-- what the history says of an open that sends
pub record MaySend (es : List Event) (link : Client) (k : ℕ) (o : Opening) (gs : List Received) : Type 0 where
  pub client_is : client es ≡ link
  pub opening : openings k es ≡ o ∷ []
  pub lives : open_has_ended k es ≡ false
  pub received : lists.datagrams_of k es ≡ gs
  pub due : IsDue k es
  pub no_stream : o.kind ≡ 2 → ⊥
  pub no_session : o.kind ≡ 3 → ⊥

-- it stays so while records are written that tell no open
pub may_send_on : (es : List Event) (quiet : List Out) (link : Client) (k : ℕ) (o : Opening) (gs : List Received) → AreAside quiet → client (es ++ told quiet) ≡ client es → MaySend es link k o gs → MaySend (es ++ told quiet) link k o gs
may_send_on es quiet link k o gs aside same m =
    let left = kept es quiet aside in
    record {
      client_is = same ∙ m.client_is;
      opening = left.openings_is k ∙ m.opening;
      lives = left.over_is k ∙ m.lives;
      received = ap (λ z. flat_map received_by z) (left.calls_is k) ∙ m.received;
      due = due_told k es quiet m.due;
      no_stream = m.no_stream;
      no_session = m.no_session;
    }

-- a message of an open that lives
one_sent : (es : List Event) (link : Client) (k : ℕ) (o : Opening) (send : SendTo) (gs : List Received) → MaySend es link k o gs → MayAskFor (hardware es) k o gs send →
    (s : IsSent k es (put_on link send (way_of link send))) × (NewestBy o gs send → IsMessageTried k es s.opening s.send)
one_sent es link k o send gs m asked = (
  record {
    opening = o;
    lives = live_one k es o m.opening m.lives;
    send = send;
    asked = as_received (subst (λ g. MayAskFor (hardware es) k o g send) (sym m.received) asked);
    spelled = ap (λ (c : Client). put_on c send (way_of c send)) (sym m.client_is);
  },
  λ newest. record { of_transfer = subst (λ g. NewestBy o g send) (sym m.received) newest; of_connection = λ is. absurd (m.no_stream is); of_session = λ is. absurd (m.no_session is) },
)

sent_after : (es : List Event) (o : Out) → IsStill o → IsAdvanced es → IsAdvanced (es ++ puts o ∷ [])
sent_after es o h a = still_advanced es (o ∷ []) (h, tt) a

try_after : (es : List Event) (k n : ℕ) → IsAdvanced es → IsAdvanced (es ++ puts (tried k n) ∷ [])
try_after es k n a = advanced_more es (puts (tried k n)) tt (λ j. refl) (λ j. refl) (λ j. refl) (λ j. refl) a

pub frame_reasons : (es : List Event) (k : ℕ) (try : Option ℕ) (bytes : List ℕ) (s : IsSent k (es ++ told (try_records k try)) bytes) →
    ((n : ℕ) → try ≡ Some n → IsMessageTried k (es ++ told (try_records k try)) s.opening s.send) → IsDue k es → IsAdvanced es → OpenReasons es (try_records k try ++ (sent bytes ∷ []))
frame_reasons es k None bytes s newest d a = record {
  ends = (tt, tt);
  frames = (by_reason (by_open k (subst (λ z. IsSent k z bytes) (append-nil es) s) d), tt);
  advances = (a, tt);
  tries = (tt, tt);
  after = sent_after es (sent bytes) tt a;
}
frame_reasons es k (Some n) bytes s newest d a = record {
  ends = (tt, (tt, tt));
  frames = (tt, (by_reason (by_open k s (stays_due es (tried k n) d)), tt));
  advances = (a, (try_after es k n a, tt));
  tries = (record { bytes = bytes; rest = []; next = refl; sends = s; newest = newest n refl }, (tt, tt));
  after = subst IsAdvanced (append_assoc es (puts (tried k n) ∷ []) (puts (sent bytes) ∷ [])) (sent_after (es ++ puts (tried k n) ∷ []) (sent bytes) tt (try_after es k n a));
}

pub either_reasons : (es : List Event) (b : Bool) (outs : List Out) → OpenReasons es outs → IsAdvanced es → OpenReasons es (cond b outs [])
either_reasons es true outs p a = p
either_reasons es false outs p a = no_reasons es a

-- a message, with its TRY
pub send_reasons : (es : List Event) (link : Client) (k : ℕ) (o : Opening) (try : Option ℕ) (send : SendTo) (gs : List Received) → IsAdvanced es → MaySend es link k o gs → MayAskFor (hardware es) k o gs send →
    ((n : ℕ) → try ≡ Some n → NewestBy o gs send) → OpenReasons es (send_records link k try send)
send_reasons es link k o try send gs a m asked newest =
    let left = kept es (try_records k try) (aside_try k try) in
    let one = one_sent (es ++ told (try_records k try)) link k o send gs (may_send_on es (try_records k try) link k o gs (aside_try k try) (client_try es k try) m) (subst (λ h. MayAskFor h k o gs send) (sym left.hardware_is) asked) in
    either_reasons es (has_route link send) (try_records k try ++ (sent (put_on link send (way_of link send)) ∷ []))
    (frame_reasons es k try (put_on link send (way_of link send)) one.0 (λ n tries. one.1 (newest n tries)) m.due a) a

-- for each number: a fact of this one, and of all others
pub each_open : (P : ℕ → Type 0) (k : ℕ) → P k → ((j : ℕ) → (k == j) ≡ false → P j) → (j : ℕ) → P j
each_open P k here others j = by (k == j) refl
  where
    by : (b : Bool) → (k == j) ≡ b → P j
    by true e = subst P (eqb-true k j e) here
    by false e = others j e

-- ADVANCE, where its file has grown
pub advance_reasons : (es : List Event) (k p : ℕ) (a : Option ℕ) → last_place k es ≡ p → unwrap_or a p ≡ file_place k es → ((n : ℕ) → a ≡ Some n → IsFurther k es n) →
    ((j : ℕ) → (k == j) ≡ false → last_place j es ≡ file_place j es) → OpenReasons es (advance_records k a)
advance_reasons es k p None here now next others = no_reasons es (each_open (λ j. last_place j es ≡ file_place j es) k (here ∙ now) others)
advance_reasons es k p (Some n) here now next others =
    let e = puts (advanced k n) in
    let same : (j : ℕ) → file_place j (es ++ e ∷ []) ≡ file_place j es = λ j.
    place_same j (es ++ e ∷ []) es (hardware_stays es e tt) (openings_more j es e ∙ append-nil (openings j es)) (ap (λ z. flat_map received_by z) (calls_more j es e ∙ append-nil (calls j es))) (came_more j es e ∙ append-nil (brought_to j es)) (session_stays j es e tt refl refl) in
    record {
      ends = (tt, tt);
      frames = (tt, tt);
      advances = ((now, next n refl), tt);
      tries = (tt, tt);
      after = each_open (λ j. last_place j (es ++ e ∷ []) ≡ file_place j (es ++ e ∷ [])) k
          (place_more k es e ∙ ap (λ b. cond b n (last_place k es)) (same_number k) ∙ now ∙ sym (same k))
          (λ j other. place_more j es e ∙ ap (λ b. cond b n (last_place j es)) other ∙ others j other ∙ sym (same j));
    }

-- what a core of one object asks
pub core_reasons : (es : List Event) (link : Client) (k : ℕ) (o : Opening) (first : SendTo) (acts : Acts) (gs : List Received) → MaySend es link k o gs → CoreAsks (MayAskFor (hardware es) k o gs) first acts → (o.kind ≡ 1 → ⊥) → IsAdvanced es →
    OpenReasons es (acts_records link k acts)
unfolding acts_records sends_records
core_reasons es link k o first acts gs m (asks_none advance items untried) other a =
    subst (λ x. OpenReasons es (advance_records k x ++ sends_records link k acts.tried acts.sends.items)) (sym advance)
    (subst (λ z. OpenReasons es (sends_records link k acts.tried z)) (sym items) (no_reasons es a))
core_reasons es link k o first acts gs m (asks_one send advance items goes may) other a =
    subst (λ x. OpenReasons es (advance_records k x ++ sends_records link k acts.tried acts.sends.items)) (sym advance)
    (subst (λ z. OpenReasons es (sends_records link k acts.tried z)) (sym items) (send_reasons es link k o acts.tried send gs a m may (λ n tries file. absurd (other file))))

-- what a transfer asks after its ADVANCE
transfer_sends : (es : List Event) (link : Client) (k : ℕ) (o : Opening) (b : Begun) (acts : Acts) (gs : List Received) → MaySend es link k o gs → o.kind ≡ 1 → b ≡ begun_by o → Sends b acts → AreAsked true b gs acts.sends.items →
    ((n : ℕ) (send : SendTo) → acts.tried ≡ Some n → acts.sends.items ≡ send ∷ [] → IsAsked b gs send → send ≡ last_message b (fixed_port gs) (count gs)) → IsAdvanced es → OpenReasons es (sends_records link k acts.tried acts.sends.items)
unfolding sends_records
transfer_sends es link k o b acts gs m is begins (sends_none items try) asked newest a =
    subst (λ z. OpenReasons es (sends_records link k acts.tried z)) (sym items) (no_reasons es a)
transfer_sends es link k o b acts gs m is begins (sends_one send items to own udp) asked newest a =
    let all : AreAsked true b gs (send ∷ []) = subst (λ z. AreAsked true b gs z) items asked in
    subst (λ z. OpenReasons es (sends_records link k acts.tried z)) (sym items)
    (send_reasons es link k o acts.tried send gs a m (by_transfer is (subst (λ x. IsAsked x gs send) begins all.0))
    (λ n tries file. newest n send tries items all.0 ∙ ap (λ x. last_message x (fixed_port gs) (count gs)) begins))

-- all that it asks
pub transfer_reasons : (es : List Event) (link : Client) (k p : ℕ) (o : Opening) (b : Begun) (acts : Acts) (gs : List Received) → MaySend es link k o gs → o.kind ≡ 1 → b ≡ begun_by o → Sends b acts → AreAsked true b gs acts.sends.items →
    ((n : ℕ) (send : SendTo) → acts.tried ≡ Some n → acts.sends.items ≡ send ∷ [] → IsAsked b gs send → send ≡ last_message b (fixed_port gs) (count gs)) →
    last_place k es ≡ p → unwrap_or acts.advance p ≡ file_place k es → ((n : ℕ) → acts.advance ≡ Some n → n ≡ p + 1) → ((j : ℕ) → (k == j) ≡ false → last_place j es ≡ file_place j es) → OpenReasons es (acts_records link k acts)
unfolding acts_records
transfer_reasons es link k p o b acts gs m is begins sends asked newest here now next others =
    let quiet = advance_records k acts.advance in
    let first = advance_reasons es k p acts.advance here now (λ n is. further_by n (next n is)) others in
    reasons_then es quiet (sends_records link k acts.tried acts.sends.items) first
    (transfer_sends (es ++ told quiet) link k o b acts gs (may_send_on es quiet link k o gs (aside_advance k acts.advance) (client_advance es k acts.advance) m) is begins sends asked newest first.after)
  where
    further_by : (n : ℕ) → n ≡ p + 1 → IsFurther k es n
    further_by n is = record { grown = omega (arith, is, here); next_block = λ file. is ∙ ap (λ z. z + 1) (sym here) }
