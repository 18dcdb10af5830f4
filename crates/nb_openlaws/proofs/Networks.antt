-- A record is used: what the history says of the opens that live then, however many they are.
use Rattle.std.proofs.Common.{◌≡◌, ℕ, ◌+◌, ◌≤◌, ◌==◌, ◌&&◌, true, false, cond, ◌||◌, List, [], ◌∷◌, ◌++◌, Some, refl, sym, ◌∙◌, ap, subst, append_assoc, add-zero, arith, ne_eqb}
use Rattle.std.specs.List.{AllByRecursion}
use Rattle.std.specs.Prelude.{slice_get}
use Rattle.std.proofs.lemmas.List.Folds.{list_any-append}
use Rattle.std.proofs.lemmas.Bool.{eqb-true}
use Rattle.nb_defs.specs.Records.{In, Out, step}
use Rattle.nb_ipv4.specs.PacketText.{PacketParts}
use Rattle.nb_ipv4.specs.UdpText.{UdpParts}
use Rattle.nb_ipv4.specs.EchoText.{EchoParts}
use Rattle.nb_tcpseg.specs.SegmentText.{SegmentParts}
use Rattle.nb_wire.specs.declared.address.Mac.{Mac}
use Rattle.nb_talks.specs.Talking.{by_segment}
use Rattle.nb_machine.specs.Connections.{arrived_segment}
use Rattle.nb_laws.specs.Webs.{came_at}
use Rattle.nb_stack.specs.Client.{Client}
use Rattle.nb_stack.specs.Brings.{Brought, nothing, arp_message, datagram, echo_request, echo_reply, segment}
use Rattle.nb_stack.specs.Takes.{client_after}
use Rattle.nb_tftp.proofs.BlockLemmas.{either_way}
use Rattle.nb_tftp.specs.Received.{received}
use Rattle.nb_tftp.specs.History.{came}
use Rattle.nb_machine.specs.Courses.{AsksBlock}
use Rattle.nb_machine.specs.Drives.{first_block_read}
use Rattle.nb_machine.specs.Lives.{OpenInput, message, tcp_segment, time as time_came, task, exchange, Live, continued}
use Rattle.nb_machine.specs.CommandRecords.{reply_records}
use Rattle.nb_machine.specs.Kinds.{takes_from, is_for, is_ping, is_reply_for, is_segment_for, reply_beside}
use Rattle.nb_machine.specs.States.{State, net0, with_live}
use Rattle.nb_machine.specs.Takings.{Over, AllTake, all_have, lives_on, is_over}
use Rattle.nb_machine.specs.Network.{on_net0, Network, passes_by, brings, brings_reply, brings_segment, passes_time}
use Rattle.nb_laws.specs.Events.{Event, hears, waits, used_by, written_by}
use Rattle.nb_laws.specs.Lists.{time, ms_of, made, Hardware, hardware, call_at}
use Rattle.nb_openlaws.specs.Standings.{AgreesLive, AreLive, has_live_number, lives_among, HaveOwnNumbers, AgreesState, told_tries}
use Rattle.nb_laws.proofs.Histories.{time_more}
use Rattle.nb_laws.specs.Frames.{by_call, by_stream}
use Rattle.nb_machine.specs.Scripts.{net0_mac}
use Rattle.nb_laws.proofs.Tellings.{told, try_marks_by, live_same}
use Rattle.nb_streams.proofs.FlowLaws.{all_append}
use Rattle.nb_openlaws.proofs.OpenRecords.{AreLater, ends_in}
use Rattle.nb_openlaws.proofs.Takings.{SameAt, then_same, Grows, grown, grows_on, HasCome, AreOver, or_first, or_second, both_false, flip_other, all_taken}
use Rattle.std.proofs.Common.{take, drop}
use Rattle.nb_openlaws.proofs.UsedEvents.{IsUsed, IsFurther, BringsNone, live_ended, no_call, made_used, used_same, offset_used, hardware_used, has_come}
use Rattle.nb_openlaws.proofs.HeardFrames.{for_as_told, reply_as_told, heard_by, streamed_by, segment_as_told, own_of_segment, none_segment, one_heard, own_of_datagram, one_echoed, own_of_reply, both_true, none_datagram, none_reply, none_for, found, none_at}
use Rattle.nb_openlaws.proofs.LiveStates.{all_same, nothing_came, as_state, quiet_state, task_comes, times_come, time_agrees}

-- SOMETHING COMES TO ONE OF THEM

pub front_of : (es : List Event) (xs ys : List Live) → AreLive es (xs ++ ys) → AreLive es xs
front_of es [] ys h = tt
front_of es (x ∷ xs) ys h = (h.0, front_of es xs ys h.1)

pub back_of : (es : List Event) (xs ys : List Live) → AreLive es (xs ++ ys) → AreLive es ys
back_of es [] ys h = h
back_of es (x ∷ xs) ys h = back_of es xs ys h.1

pub among_more : (j : ℕ) (xs ys : List Live) → lives_among j (xs ++ ys) ≡ (lives_among j xs || lives_among j ys)
among_more j xs ys = list_any-append (has_live_number j) xs ys

pub apart_front : (before : List Live) (l : Live) (behind : List Live) → HaveOwnNumbers (before ++ l ∷ behind) → lives_among l.number before ≡ false
apart_front [] l behind h = refl
apart_front (x ∷ before) l behind h =
    both_false (x.number == l.number) (lives_among l.number before)
    (flip_other l.number x.number (or_first (l.number == x.number) (lives_among x.number behind) (or_second (lives_among x.number before) (lives_among x.number (l ∷ behind)) (sym (among_more x.number before (l ∷ behind)) ∙ h.0))))
    (apart_front before l behind h.1)

pub apart_back : (before : List Live) (l : Live) (behind : List Live) → HaveOwnNumbers (before ++ l ∷ behind) → lives_among l.number behind ≡ false
apart_back [] l behind h = h.0
apart_back (x ∷ before) l behind h = apart_back before l behind h.1

apart_kept : (before : List Live) (l m : Live) (behind : List Live) → m.number ≡ l.number → HaveOwnNumbers (before ++ l ∷ behind) → HaveOwnNumbers (before ++ m ∷ behind)
apart_kept [] l m behind e h = (ap (λ k. lives_among k behind) e ∙ h.0, h.1)
apart_kept (x ∷ before) l m behind e h = (
  among_more x.number before (m ∷ behind) ∙ ap (λ k. lives_among x.number before || ((k == x.number) || lives_among x.number behind)) e ∙ sym (among_more x.number before (l ∷ behind)) ∙ h.0,
  apart_kept before l m behind e h.1,
)

apart_without : (before : List Live) (l : Live) (behind : List Live) → HaveOwnNumbers (before ++ l ∷ behind) → HaveOwnNumbers (before ++ behind)
apart_without [] l behind h = h.1
apart_without (x ∷ before) l behind h =
    let both : (lives_among x.number before || lives_among x.number (l ∷ behind)) ≡ false = sym (among_more x.number before (l ∷ behind)) ∙ h.0 in (
      among_more x.number before behind
          ∙ both_false (lives_among x.number before) (lives_among x.number behind) (or_first (lives_among x.number before) (lives_among x.number (l ∷ behind)) both)
          (or_second (l.number == x.number) (lives_among x.number behind) (or_second (lives_among x.number before) (lives_among x.number (l ∷ behind)) both)),
      apart_without before l behind h.1,
    )

apart_after : (devices : List Client) (input : OpenInput) (l : Live) (before behind : List Live) (put : List Out) (after : List Live) (over : List Over) → AllTake devices input (l ∷ []) put after over →
    HaveOwnNumbers (before ++ l ∷ behind) → HaveOwnNumbers (before ++ (after ++ behind))
apart_after devices input l before behind put after over (lives_on l0 ls0 after0 link put0 more over0 got keeps none all_have) h = apart_kept before l (continued l (exchange input link put0)) behind refl h
apart_after devices input l before behind put after over (is_over l0 ls0 after0 link put0 more over0 cause got keeps some all_have) h = apart_without before l behind h

one_agrees : (es : List Event) (e : Event) (s : State) (input : OpenInput) (before : List Live) (l : Live) (behind : List Live) (put : List Out) (after : List Live) (over : List Over) → IsUsed e → IsFurther e → ms_of e ≡ 0 → AgreesState es s →
    s.live ≡ before ++ l ∷ behind → HasCome (es ++ e ∷ []) input l → AllByRecursion (λ x. BringsNone x.number es e) before → AllByRecursion (λ x. BringsNone x.number es e) behind →
    AllTake s.devices input (l ∷ []) put after over → AgreesState ((es ++ e ∷ []) ++ told put) (with_live s (before ++ (after ++ behind)))
one_agrees es e s input before l behind put after over u further still a lives come front back all =
    let es1 = es ++ e ∷ [] in
    let es2 = es1 ++ told put in
    let k = l.number in
    let each0 : AreLive es (before ++ l ∷ behind) = subst (AreLive es) lives a.each in
    let apart0 : HaveOwnNumbers (before ++ l ∷ behind) = subst HaveOwnNumbers lives a.apart in
    let own = back_of es before (l ∷ behind) each0 in
    let t = all_taken s.devices input (l ∷ []) put after over all es1 (come, tt) (refl, tt) in
    let none_else : (j : ℕ) → (k == j) ≡ false → BringsNone j es e = λ j other.
    either_way (lives_among j before) (λ some. found (λ z. BringsNone z es e) j before front some)
    (λ no. either_way (lives_among j behind) (λ some. found (λ z. BringsNone z es e) j behind back some)
    (λ none. no_call j es e u (a.others j (ap (lives_among j) lives ∙ among_more j before (l ∷ behind) ∙ both_false (lives_among j before) (lives_among j (l ∷ behind)) no (both_false (k == j) (lives_among j behind) other none))))) in
    let other_same : (j : ℕ) → (k == j) ≡ false → SameAt j es es2 = λ j other. then_same j es es1 es2 (used_same j es e u (none_else j other)) (t.still j (both_false (k == j) false other refl)) in
    let made_is : made es2 ≡ made es = t.made_is ∙ made_used es e u in
    let hard : hardware es2 ≡ hardware es = t.hardware_is ∙ hardware_used es e u further in
    let grows : Grows es es2 = grows_on es es1 es2 (grown es (e ∷ [])) (grown es1 (told put)) in
    let not_here : (j : ℕ) (ls : List Live) → lives_among k ls ≡ false → lives_among j ls ≡ true → (k == j) ≡ false = λ j ls none some.
    either_way (k == j) (λ here. absurd (let no : true ≡ false = sym some ∙ subst (λ z. lives_among z ls ≡ false) (eqb-true k j here) none in cc)) (λ other. other) in
    let later : (j : ℕ) → made es2 ≤ j → (k == j) ≡ false = λ j more. ne_eqb k j (λ same. omega (arith, same, own.0.made_so, subst (λ z. z ≤ j) made_is more)) in
    record {
      time = t.time_is ∙ time_more es e ∙ ap (λ z. time es + z) still ∙ add-zero (time es) ∙ a.time;
      opens = made_is ∙ a.opens;
      offset = t.offset_is ∙ offset_used es e u further ∙ a.offset;
      mac_is = ap (λ (h : Hardware). h.mac) hard ∙ a.mac_is;
      identity_is = ap (λ (h : Hardware). h.identity) hard ∙ a.identity_is;
      each = all_append (AgreesLive es2) before (after ++ behind) (all_same es es2 before grows made_is hard (λ j some. other_same j (not_here j before (apart_front before l behind apart0) some)) (front_of es before (l ∷ behind) each0))
          (all_append (AgreesLive es2) after behind t.each (all_same es es2 behind grows made_is hard (λ j some. other_same j (not_here j behind (apart_back before l behind apart0) some)) own.1));
      apart = apart_after s.devices input l before behind put after over all apart0;
      others = λ j away.
          let parts : (lives_among j before || lives_among j (after ++ behind)) ≡ false = sym (among_more j before (after ++ behind)) ∙ away in
          let rest : (lives_among j after || lives_among j behind) ≡ false = sym (among_more j after behind) ∙ or_second (lives_among j before) (lives_among j (after ++ behind)) parts in
          either_way (k == j) (λ here. live_ended j es2 (t.gone j (ap (λ b. b || false) here) (or_first (lives_among j after) (lives_among j behind) rest)))
          (λ other. live_same j es2 es (other_same j other).openings_are (other_same j other).over_are
          ∙ a.others j (ap (lives_among j) lives ∙ among_more j before (l ∷ behind)
          ∙ both_false (lives_among j before) (lives_among j (l ∷ behind)) (or_first (lives_among j before) (lives_among j (after ++ behind)) parts) (both_false (k == j) (lives_among j behind) other (or_second (lives_among j after) (lives_among j behind) rest))));
      unopened = λ j more. (other_same j (later j more)).openings_are ∙ a.unopened j (subst (λ z. z ≤ j) made_is more);
      unended = λ j more. (other_same j (later j more)).over_are ∙ a.unended j (subst (λ z. z ≤ j) made_is more);
      untold = λ j more. let x = a.untold j (subst (λ z. z ≤ j) made_is more) in ((other_same j (later j more)).calls_are ∙ x.0, (other_same j (later j more)).marks_are ∙ x.1);
      unstreamed = λ j more. let x = a.unstreamed j (subst (λ z. z ≤ j) made_is more) in ((other_same j (later j more)).came_are ∙ x.0, (other_same j (later j more)).try_marks_are ∙ x.1);
    }

-- the same of what a command asks, which no record brings
one_told : (es : List Event) (s : State) (input : OpenInput) (before : List Live) (l : Live) (behind : List Live) (put : List Out) (after : List Live) (over : List Over) → AgreesState es s → s.live ≡ before ++ l ∷ behind → HasCome es input l →
    AllTake s.devices input (l ∷ []) put after over → AgreesState (es ++ told put) (with_live s (before ++ (after ++ behind)))
one_told es s input before l behind put after over a lives come all =
    let es2 = es ++ told put in
    let k = l.number in
    let each0 : AreLive es (before ++ l ∷ behind) = subst (AreLive es) lives a.each in
    let apart0 : HaveOwnNumbers (before ++ l ∷ behind) = subst HaveOwnNumbers lives a.apart in
    let own = back_of es before (l ∷ behind) each0 in
    let t = all_taken s.devices input (l ∷ []) put after over all es (come, tt) (refl, tt) in
    let other_same : (j : ℕ) → (k == j) ≡ false → SameAt j es es2 = λ j other. t.still j (both_false (k == j) false other refl) in
    let grows : Grows es es2 = grown es (told put) in
    let not_here : (j : ℕ) (ls : List Live) → lives_among k ls ≡ false → lives_among j ls ≡ true → (k == j) ≡ false = λ j ls none some.
    either_way (k == j) (λ here. absurd (let no : true ≡ false = sym some ∙ subst (λ z. lives_among z ls ≡ false) (eqb-true k j here) none in cc)) (λ other. other) in
    let later : (j : ℕ) → made es2 ≤ j → (k == j) ≡ false = λ j more. ne_eqb k j (λ same. omega (arith, same, own.0.made_so, subst (λ z. z ≤ j) t.made_is more)) in
    record {
      time = t.time_is ∙ a.time;
      opens = t.made_is ∙ a.opens;
      offset = t.offset_is ∙ a.offset;
      mac_is = ap (λ (h : Hardware). h.mac) t.hardware_is ∙ a.mac_is;
      identity_is = ap (λ (h : Hardware). h.identity) t.hardware_is ∙ a.identity_is;
      each = all_append (AgreesLive es2) before (after ++ behind) (all_same es es2 before grows t.made_is t.hardware_is (λ j some. other_same j (not_here j before (apart_front before l behind apart0) some)) (front_of es before (l ∷ behind) each0))
          (all_append (AgreesLive es2) after behind t.each (all_same es es2 behind grows t.made_is t.hardware_is (λ j some. other_same j (not_here j behind (apart_back before l behind apart0) some)) own.1));
      apart = apart_after s.devices input l before behind put after over all apart0;
      others = λ j away.
          let parts : (lives_among j before || lives_among j (after ++ behind)) ≡ false = sym (among_more j before (after ++ behind)) ∙ away in
          let rest : (lives_among j after || lives_among j behind) ≡ false = sym (among_more j after behind) ∙ or_second (lives_among j before) (lives_among j (after ++ behind)) parts in
          either_way (k == j) (λ here. live_ended j es2 (t.gone j (ap (λ b. b || false) here) (or_first (lives_among j after) (lives_among j behind) rest)))
          (λ other. live_same j es2 es (other_same j other).openings_are (other_same j other).over_are
          ∙ a.others j (ap (lives_among j) lives ∙ among_more j before (l ∷ behind)
          ∙ both_false (lives_among j before) (lives_among j (l ∷ behind)) (or_first (lives_among j before) (lives_among j (after ++ behind)) parts) (both_false (k == j) (lives_among j behind) other (or_second (lives_among j after) (lives_among j behind) rest))));
      unopened = λ j more. (other_same j (later j more)).openings_are ∙ a.unopened j (subst (λ z. z ≤ j) t.made_is more);
      unended = λ j more. (other_same j (later j more)).over_are ∙ a.unended j (subst (λ z. z ≤ j) t.made_is more);
      untold = λ j more. let x = a.untold j (subst (λ z. z ≤ j) t.made_is more) in ((other_same j (later j more)).calls_are ∙ x.0, (other_same j (later j more)).marks_are ∙ x.1);
      unstreamed = λ j more. let x = a.unstreamed j (subst (λ z. z ≤ j) t.made_is more) in ((other_same j (later j more)).came_are ∙ x.0, (other_same j (later j more)).try_marks_are ∙ x.1);
    }

-- a drive is asked for its first block
pub asks_agrees : (es : List Event) (s s' : State) (number : ℕ) (put : List Out) (over : List Over) → AsksBlock s number put s' over → AgreesState es s → AgreesState (es ++ told put) s'
asks_agrees es s s' number put over q a =
    let own = back_of es q.before (q.l ∷ q.behind) (subst (AreLive es) q.parted a.each) in
    subst (AgreesState (es ++ told put)) (ap (with_live s) (sym (append_assoc q.before q.after q.behind)) ∙ sym q.leaves)
    (one_told es s (task first_block_read s.now) q.before q.l q.behind put q.after over a q.parted (task_comes es first_block_read s.now q.l a.time own.0) q.takes)

pub asks_over : (es : List Event) (s s' : State) (number : ℕ) (put : List Out) (over : List Over) → AsksBlock s number put s' over → AgreesState es s → AreOver (es ++ told put) over
asks_over es s s' number put over q a =
    let own = back_of es q.before (q.l ∷ q.behind) (subst (AreLive es) q.parted a.each) in
    (all_taken s.devices (task first_block_read s.now) (q.l ∷ []) put q.after over q.takes es (task_comes es first_block_read s.now q.l a.time own.0, tt) (refl, tt)).ended

reply_later : (bytes : List ℕ) → AreLater (reply_records bytes)
reply_later [] = tt
reply_later (b ∷ bytes) = (tt, tt)

reply_ends : (j : ℕ) (bytes : List ℕ) → ends_in j (reply_records bytes) ≡ false
reply_ends j [] = refl
reply_ends j (b ∷ bytes) = refl

reply_tries : (j now : ℕ) (bytes : List ℕ) → told_tries j now (reply_records bytes) ≡ []
reply_tries j now [] = refl
reply_tries j now (b ∷ bytes) = refl

reply_try_marks : (j now : ℕ) (bytes : List ℕ) → try_marks_by j now (reply_records bytes) ≡ []
reply_try_marks j now [] = refl
reply_try_marks j now (b ∷ bytes) = refl

-- the record brings this message for that open alone
pub one_comes : (es : List Event) (s : State) (n : ℕ) (b : List ℕ) (p : PacketParts) (d : UdpParts) (l : Live) → AgreesState es s → AgreesLive es l → is_for net0 p d l ≡ true →
    HasCome (es ++ hears n b (datagram p d) ∷ []) (message n d.src_port d.body s.now) l
one_comes es s n b p d l a own here =
    let e = hears n b (datagram p d) in
    let takes = (both_true ((l.device == net0) && (l.own == d.dst_port)) (takes_from l.kind l p d) here).1 in
    let heard : call_at l.number es e ≡ came (received n d.src_port d.body) s.now ∷ [] =
    heard_by es n b (datagram p d) l own ∙ ap (λ z. cond z (came (received n d.src_port d.body) (time es) ∷ []) []) (for_as_told l p d own.on_net0 ∙ here) ∙ ap (λ now. came (received n d.src_port d.body) now ∷ []) a.time in
    has_come es e (message n d.src_port d.body s.now) l tt tt own (heard ∙ one_heard l.kind l p d n s.now takes) (streamed_by es n b (datagram p d) l own) (time_more es e ∙ add-zero (time es) ∙ a.time) (own_of_datagram l.kind l p d n s.now takes)
    (by_call es e (came (received n d.src_port d.body) s.now) heard)

pub one_replies : (es : List Event) (s : State) (n : ℕ) (b : List ℕ) (p : PacketParts) (x : EchoParts) (l : Live) → AgreesState es s → AgreesLive es l → is_reply_for net0 p x l ≡ true →
    HasCome (es ++ hears n b (echo_reply p x) ∷ []) (message n x.ident x.body s.now) l
one_replies es s n b p x l a own here =
    let e = hears n b (echo_reply p x) in
    let rest = both_true ((is_ping l.kind && (l.device == net0)) && (l.own == x.ident)) (p.src.0 == l.server) here in
    let more = both_true (is_ping l.kind && (l.device == net0)) (l.own == x.ident) rest.0 in
    let pinging = (both_true (is_ping l.kind) (l.device == net0) more.0).0 in
    let heard : call_at l.number es e ≡ came (received n 0 x.body) s.now ∷ [] =
    heard_by es n b (echo_reply p x) l own ∙ ap (λ z. cond z (came (received n 0 x.body) (time es) ∷ []) []) (reply_as_told l p x own.on_net0 ∙ here) ∙ ap (λ now. came (received n 0 x.body) now ∷ []) a.time in
    has_come es e (message n x.ident x.body s.now) l tt tt own (heard ∙ one_echoed l.kind n x.ident s.now x.body pinging) (streamed_by es n b (echo_reply p x) l own) (time_more es e ∙ add-zero (time es) ∙ a.time)
    (own_of_reply l.kind l.own n x.ident s.now x.body (eqb-true l.own x.ident more.1)) (by_call es e (came (received n 0 x.body) s.now) heard)

pub segment_comes : (es : List Event) (s : State) (n : ℕ) (b : List ℕ) (from : Mac) (p : PacketParts) (g : SegmentParts) (l : Live) → AgreesState es s → AgreesLive es l → is_segment_for net0 p g l ≡ true →
    came_at l.number es (hears n b (segment from p g)) ≡ by_segment (arrived_segment n g) s.now ∷ []
segment_comes es s n b from p g l a own here =
    streamed_by es n b (segment from p g) l own ∙ ap (λ z. cond z (by_segment (arrived_segment n g) (time es) ∷ []) []) (segment_as_told l p g own.on_net0 ∙ here) ∙ ap (λ now. by_segment (arrived_segment n g) now ∷ []) a.time

pub one_segment : (es : List Event) (s : State) (n : ℕ) (b : List ℕ) (from : Mac) (p : PacketParts) (g : SegmentParts) (l : Live) → AgreesState es s → AgreesLive es l → is_segment_for net0 p g l ≡ true →
    HasCome (es ++ hears n b (segment from p g) ∷ []) (tcp_segment n g s.now) l
one_segment es s n b from p g l a own here =
    let e = hears n b (segment from p g) in
    let comes = segment_comes es s n b from p g l a own here in
    has_come es e (tcp_segment n g s.now) l tt tt own (heard_by es n b (segment from p g) l own) comes (time_more es e ∙ add-zero (time es) ∙ a.time) (own_of_segment l.kind l.own n s.now g)
    (by_stream es e (by_segment (arrived_segment n g) s.now) comes)

-- the event that a record is
abbrev pub network_event : (s : State) (n : ℕ) (r : In) (put : List Out) (s2 : State) (over : List Over) → Network s n r put s2 over → Event
network_event s n r put s2 over (passes_by r0 device bytes link m (on_net0 b) got is none) = hears n b m
network_event s n r put s2 over (brings r0 device bytes link p d before behind after l put0 over0 (on_net0 b) got is lives here front back all) = hears n b (datagram p d)
network_event s n r put s2 over (brings_reply r0 device bytes link p x before behind after l put0 over0 (on_net0 b) got is lives here front back all) = hears n b (echo_reply p x)
network_event s n r put s2 over (brings_segment r0 device bytes link from p g before behind after l put0 over0 (on_net0 b) got is lives here front back all) = hears n b (segment from p g)
network_event s n r put s2 over (passes_time ms after put0 over0 all) = waits n ms

-- the event that a record is, of which the machine's network says this
pub record Used (es : List Event) (r : In) (n : ℕ) (put : List Out) (s2 : State) (over : List Over) : Type 0 where
  pub event : Event
  pub used : IsUsed event
  pub further : IsFurther event
  pub is_record : used_by event ≡ r ∷ []
  pub is_step : written_by event ≡ step n
  pub agrees : AgreesState ((es ++ event ∷ []) ++ told put) s2
  pub ended : AreOver ((es ++ event ∷ []) ++ told put) over

-- something comes to one open alone
one_used : (es : List Event) (e : Event) (s : State) (n : ℕ) (r : In) (input : OpenInput) (before : List Live) (l : Live) (behind : List Live) (put : List Out) (after : List Live) (over : List Over) → IsUsed e → IsFurther e → ms_of e ≡ 0 →
    used_by e ≡ r ∷ [] → written_by e ≡ step n → AgreesState es s → s.live ≡ before ++ l ∷ behind → HasCome (es ++ e ∷ []) input l → AllByRecursion (λ x. BringsNone x.number es e) before → AllByRecursion (λ x. BringsNone x.number es e) behind →
    AllTake s.devices input (l ∷ []) put after over → Used es r n put (with_live s (before ++ after ++ behind)) over
one_used es e s n r input before l behind put after over u further still is_record is_step a lives come front back all = record {
  event = e;
  used = u;
  further = further;
  is_record = is_record;
  is_step = is_step;
  agrees = subst (λ z. AgreesState ((es ++ e ∷ []) ++ told put) (with_live s z)) (sym (append_assoc before after behind)) (one_agrees es e s input before l behind put after over u further still a lives come front back all);
  ended = (all_taken s.devices input (l ∷ []) put after over all (es ++ e ∷ []) (come, tt) (refl, tt)).ended;
}

mac_after : (link : Client) (m : Brought) → (client_after link m).mac ≡ link.mac
mac_after link nothing = refl
mac_after link (arp_message from arp) = refl
mac_after link (datagram p d) = refl
mac_after link (echo_request from p e) = refl
mac_after link (echo_reply p e) = refl
mac_after link (segment from p s) = refl

pub mac_passed : (devices : List Client) (link : Client) (m : Brought) → slice_get devices net0 ≡ Some link → net0_mac (take net0 devices ++ client_after link m ∷ drop (net0 + 1) devices) ≡ net0_mac devices
mac_passed [] link m got = absurd (cc)
mac_passed (x ∷ xs) link m got = let same : x ≡ link = cc in mac_after link m ∙ ap (λ (c : Client). c.mac) (sym same)

-- What the network does with a record, the history says: of every open that lives, however many there are.
pub network_agrees : (es : List Event) (s : State) (n : ℕ) (r : In) (put : List Out) (s2 : State) (over : List Over) → Network s n r put s2 over → AgreesState es s → Used es r n put s2 over
network_agrees es s n r put s2 over (passes_by r0 device bytes link m (on_net0 b) got is none) a =
    let e = hears n b m in
    let reply = reply_beside net0 s.live link m in
    let outs = reply_records reply in
    record {
      event = e;
      used = tt;
      further = tt;
      is_record = refl;
      is_step = refl;
      agrees = as_state ((es ++ e ∷ []) ++ told outs) s s2 (record { now = refl; opens = refl; offset = refl; mac = mac_passed s.devices link m got; identity = refl }) refl
          (quiet_state (es ++ e ∷ []) outs s (reply_later reply) (λ j. reply_ends j reply) (λ j now. reply_tries j now reply) (λ j now. reply_try_marks j now reply)
          (nothing_came es e s tt tt a (none_at es e s tt a (none_for es n b m s.live a.each none)) refl));
      ended = tt;
    }
network_agrees es s n r put s2 over (brings r0 device bytes link p d before behind after l put0 over0 (on_net0 b) got is lives here front back all) a =
    let each0 : AreLive es (before ++ l ∷ behind) = subst (AreLive es) lives a.each in
    let own = back_of es before (l ∷ behind) each0 in
    one_used es (hears n b (datagram p d)) s n r (message n d.src_port d.body s.now) before l behind put after over tt tt refl refl refl a lives (one_comes es s n b p d l a own.0 here)
    (none_datagram es n b p d before (front_of es before (l ∷ behind) each0) front) (none_datagram es n b p d behind own.1 back) all
network_agrees es s n r put s2 over (brings_reply r0 device bytes link p x before behind after l put0 over0 (on_net0 b) got is lives here front back all) a =
    let each0 : AreLive es (before ++ l ∷ behind) = subst (AreLive es) lives a.each in
    let own = back_of es before (l ∷ behind) each0 in
    one_used es (hears n b (echo_reply p x)) s n r (message n x.ident x.body s.now) before l behind put after over tt tt refl refl refl a lives (one_replies es s n b p x l a own.0 here)
    (none_reply es n b p x before (front_of es before (l ∷ behind) each0) front) (none_reply es n b p x behind own.1 back) all
network_agrees es s n r put s2 over (brings_segment r0 device bytes link from p g before behind after l put0 over0 (on_net0 b) got is lives here front back all) a =
    let each0 : AreLive es (before ++ l ∷ behind) = subst (AreLive es) lives a.each in
    let own = back_of es before (l ∷ behind) each0 in
    one_used es (hears n b (segment from p g)) s n r (tcp_segment n g s.now) before l behind put after over tt tt refl refl refl a lives (one_segment es s n b from p g l a own.0 here)
    (none_segment es n b from p g before (front_of es before (l ∷ behind) each0) front) (none_segment es n b from p g behind own.1 back) all
network_agrees es s n r put s2 over (passes_time ms after put0 over0 all) a =
    record {
      event = waits n ms;
      used = tt;
      further = tt;
      is_record = refl;
      is_step = refl;
      agrees = time_agrees es n ms s put after over a all;
      ended = (all_taken s.devices (time_came (s.now + ms)) s.live put after over all (es ++ waits n ms ∷ []) (times_come es n ms s s.live a.time a.each) a.apart).ended;
    }

pub event_is : (es : List Event) (s : State) (n : ℕ) (r : In) (put : List Out) (s2 : State) (over : List Over) (net : Network s n r put s2 over) (a : AgreesState es s) → (network_agrees es s n r put s2 over net a).event ≡ network_event s n r put s2 over net
unfolding network_agrees one_used
event_is es s n r put s2 over (passes_by r0 device bytes link m (on_net0 b) got is none) a = refl
event_is es s n r put s2 over (brings r0 device bytes link p d before behind after l put0 over0 (on_net0 b) got is lives here front back all) a = refl
event_is es s n r put s2 over (brings_reply r0 device bytes link p x before behind after l put0 over0 (on_net0 b) got is lives here front back all) a = refl
event_is es s n r put s2 over (brings_segment r0 device bytes link from p g before behind after l put0 over0 (on_net0 b) got is lives here front back all) a = refl
event_is es s n r put s2 over (passes_time ms after put0 over0 all) a = refl
