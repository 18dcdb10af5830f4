-- A segment puts what its promise says and hands up what it has brought, and the three go on, or have ended.
use Rattle.std.proofs.Common.{◌≡◌, ℕ, suc, ◌<◌, ◌^◌, ◌&&◌, true, false, not, List, [], ◌∷◌, ◌++◌, length, Option, Some, None, refl, sym, ap, ◌∙◌, subst, append_assoc, append-nil, arith}
use Rattle.std.proofs.lemmas.List.{drop_all, drop_at}
use Rattle.std.proofs.lemmas.List.Concat.{flat_map-append}
use Rattle.std.proofs.lemmas.Option.{none-some}
use Rattle.nb_terms.specs.declared.acts.Acts.{Acts}
use Rattle.nb_terms.specs.declared.cause.Cause.{Cause}
use Rattle.nb_graph.specs.Deeds.{Offers, told_of}
use Rattle.nb_graph.specs.Trace.{Said}
use Rattle.nb_graph.specs.Whole.{Objects, port_at}
use Rattle.nb_ledger.specs.Flat.{Notice}
use Rattle.nb_iscsipdu.specs.Streams.{cut, is_refused}
use Rattle.nb_streams.specs.Endings.{segment_end}
use Rattle.nb_streams.specs.Flows.{TcpCall, ConnPhase, conn_phase, held_after, segment_came}
use Rattle.nb_streams.specs.Segments.{Arrival}
use Rattle.nb_streams.specs.Sending.{calls_for, closing_segment, without_try}
use Rattle.nb_streams.specs.Streams.{front, has_ended}
use Rattle.nb_tcp.specs.ConnHistory.{ConnEntry, EachConnEntry, calls_in, closes_from_above, conn_entry, delivered, delivered_by, tcp_calls, tcp_calls_of}
use Rattle.nb_tcp.specs.ConnPromises.{AsksAsPromised, ConnKeeps, segment_asks}
use Rattle.nb_tcp.proofs.ConnHistoryLemmas.{calls-append}
use Rattle.nb_tcpseg.specs.SegmentText.{IsLaidOut, SegmentParts}
use Rattle.nb_conns.specs.declared.conn_load.Lent.{Lent}
use Rattle.nb_conns.specs.ConnAsks.{link_of}
use Rattle.nb_conns.specs.ConnEffects.{downs_for, place_says}
use Rattle.nb_conns.specs.Dialogues.{ConversesTo, Dialogue, IsConnAt, arriving, comes_from_peer, comes_to_end, is_talking, talked_on, talking, unopened, with_segment_call}
use Rattle.nb_drivechains.specs.declared.drive_chain.DriveChain.{DriveChain}
use Rattle.nb_drivechains.specs.DriveChains.{three_of}
use Rattle.nb_drivenodes.specs.DriveAsks.{DriveAskParts}
use Rattle.nb_drivenodes.specs.SessionTalks.{SessionTalk, SessionTalksTo, session_unasked}
use Rattle.nb_drivenodes.specs.UnitTalks.{UnitTalk, UnitTalksTo, unit_unasked}
use Rattle.nb_nodes.specs.declared.obj.Obj.{Obj}
use Rattle.nb_nodes.specs.Carriers.{conn_carrier, text_carrier}
use Rattle.nb_opens.specs.Entries.{entries_of}
use Rattle.nb_opens.specs.Notices.{first_close}
use Rattle.nb_sans.specs.Sessions.{ReadTask, session_come, session_end, session_says, session_talker}
use Rattle.nb_sans.specs.SessionSteps.{AreAskedBy}
use Rattle.nb_sans.proofs.SessionGrowth.{opened_ended, stays_open}
use Rattle.nb_talks.specs.Talking.{Talk, by_segment, come_of, ended_of, more_of, receives, talk_held, talks_on, text_calls, text_to_send, texts_by, texts_for}
use Rattle.nb_talks.specs.TalkPromises.{closes_by, earlier, said_sends, segment_put, talker_end}
use Rattle.nb_talks.proofs.TalkLaws.{held_with_texts}
use Rattle.nb_webchains.specs.WebChains.{IsInOrder}
use Rattle.nb_webtalks.specs.Comings.{sends_say}
use Rattle.nb_webtalks.specs.Tellings.{messages_of}
use Rattle.nb_webtalks.proofs.Begins.{home_at, nothing_owed}
use Rattle.nb_webtalks.proofs.Coming.{each_at, kept_at}
use Rattle.nb_webtalks.proofs.Lowers.{asked_at, had, lent_of}
use Rattle.nb_webtalks.proofs.Rising.{ClosingOf, told_a_close, told_none}
use Rattle.nb_webtalks.proofs.Segments.{asked_then, ended_then, had_then, over_then}
use Rattle.nb_webtalks.proofs.Upward.{LetsUp, lets_gave, lets_silent}
use Rattle.nb_drivetalks.specs.Comings.{AddsParts, DriveSegmentComes, handed_up, say_unless, segment_comes_so, segment_lacks_memory, session_calls, session_segment_says, texts_say}
use Rattle.nb_drivetalks.specs.SessionStands.{StandsForSession}
use Rattle.nb_drivetalks.specs.Tellings.{told_above, told_below}
use Rattle.nb_drivetalks.proofs.Cames.{Reads, asked_later, texts_in}
use Rattle.nb_drivetalks.proofs.Entering.{SegmentDid, segment_does, segment_fails, segment_walk}
use Rattle.nb_drivetalks.proofs.Handing.{HandsOn, handed_all, handed_first}
use Rattle.nb_drivetalks.proofs.Reading.{reads_on}
use Rattle.nb_drivetalks.proofs.Rising.{CallDid, did_break, did_end, did_fail, did_go}
use Rattle.nb_drivetalks.proofs.Segmented.{asks_so, calls_with, comes_so, ends_so, gave_with, says_so}
use Rattle.nb_drivetalks.proofs.Spoken.{each_before, each_behind, texts_so}
use Rattle.nb_drivetalks.proofs.Standing.{Goes, Parted, failed_closes, no_break, parted, stands_then}
use Rattle.nb_drivetalks.proofs.Starting.{Started, call_of}
use Rattle.nb_drivetalks.proofs.Steps.{walked}
use Rattle.nb_drivetalks.proofs.Talks.{Speaks, silent_told}
use Rattle.nb_drivetalks.proofs.Turning.{calls_append}
use Rattle.nb_tcp.specs.declared.link.Link.{Link}

-- an empty text last says nothing
says_last : (l : Link) (rec now : ℕ) (xs : List (List ℕ)) (calls : List TcpCall) → texts_say l rec calls (xs ++ [] ∷ []) now ≡ texts_say l rec calls xs now
says_last l rec now [] calls = refl
says_last l rec now (x ∷ xs) calls = ap (λ z. sends_say l rec (said_sends (conn_phase l.isn calls) x) ++ z) (says_last l rec now xs (calls ++ text_to_send x now))

module _ (c : DriveChain) (order : IsInOrder (three_of c)) (g h : Objects Obj) (now : ℕ) (ns : List Notice) (a : DriveAskParts) (start : ℕ) (d : Talk ReadTask) (s : StandsForSession a start d c g) (msg : Said) (sp : SegmentParts)
    (comes : comes_from_peer a.conn 1 msg ≡ true) (is : IsLaidOut msg.bytes sp) (short : length msg.bytes < 2 ^ 32) (st : Started c order h now (Offers (port_at c.conn.0 1) msg ∷ []) ns s.above s.between s.below) where
  abbrev m : Arrival
  m = arriving msg.rec sp

  abbrev come : List ℕ
  come = come_of a.conn.isn d

  abbrev link : Link
  link = link_of a.conn

  abbrev phase_at : ConnPhase
  phase_at = conn_phase a.conn.isn d.calls

  -- what has come with it, and what is said then
  abbrev heard : Talk ReadTask
  heard = receives a.conn.isn d (by_segment m now)

  abbrev after : Talk ReadTask
  after = talks_on (session_talker a.info) a.conn.isn d (by_segment m now)

  abbrev texts_to : List ℕ → List (List ℕ)
  texts_to later = texts_in a d.tasks come (more_of come later)

  abbrev calls_by : List ℕ → List TcpCall
  calls_by later = (d.calls ++ segment_came m now ∷ []) ++ text_calls (texts_to later) now

  parts : (u : UnitTalk) (r : SessionTalk) (p : Dialogue) → UnitTalksTo text_carrier unit_unasked (s.above ++ entries_of c.unit.0 st.deeds) u → SessionTalksTo text_carrier session_unasked (s.between ++ entries_of c.session.0 st.deeds) r
      → ConversesTo conn_carrier unopened (s.below ++ entries_of c.conn.0 st.deeds) p
      → Parted a start d (entries_of c.unit.0 st.deeds) (entries_of c.session.0 st.deeds) (entries_of c.conn.0 st.deeds) u r p
  parts u r p works talks converses = parted s (entries_of c.unit.0 st.deeds) (entries_of c.session.0 st.deeds) (entries_of c.conn.0 st.deeds) u r p works talks converses

  did_by : (u : UnitTalk) (r : SessionTalk) (p : Dialogue) (y : Parted a start d (entries_of c.unit.0 st.deeds) (entries_of c.session.0 st.deeds) (entries_of c.conn.0 st.deeds) u r p)
      → SegmentDid (call_of c order h now u r p) (suc (length st.deeds)) st.deeds a.conn start y.entries a d.tasks come msg sp
  did_by u r p y =
      segment_walk (call_of c order h now u r p) (suc (length st.deeds)) st.deeds a d.tasks s.lun come s.whole s.asked a.conn start y.entries y.unit y.session y.reads msg sp comes is short
      (st.walk y.unit u y.session r (talking a.conn start y.entries None) p y.works y.talks y.converses)

  told_close : first_close (told_of st.deeds) ≡ first_close ns
  told_close = ap first_close st.told

  -- where nothing was closed all go on
  every : first_close ns ≡ None → (u : UnitTalk) (r : SessionTalk) (p : Dialogue) → UnitTalksTo text_carrier unit_unasked (s.above ++ entries_of c.unit.0 st.deeds) u
      → SessionTalksTo text_carrier session_unasked (s.between ++ entries_of c.session.0 st.deeds) r
      → ConversesTo conn_carrier unopened (s.below ++ entries_of c.conn.0 st.deeds) p → Goes a start d.tasks calls_by u r p
  every none u r p works talks converses = let y = parts u r p works talks converses in by y (did_by u r p y)
    where
      by : (y : Parted a start d (entries_of c.unit.0 st.deeds) (entries_of c.session.0 st.deeds) (entries_of c.conn.0 st.deeds) u r p)
          → SegmentDid (call_of c order h now u r p) (suc (length st.deeds)) st.deeds a.conn start y.entries a d.tasks come msg sp → Goes a start d.tasks calls_by u r p
      by y (segment_fails f) = absurd (failed_closes (call_of c order h now u r p) st.deeds f (told_close ∙ none))
      by y (segment_does acts es behind bytes out parts_are lets (did_fail f)) = absurd (failed_closes (call_of c order h now u r p) st.deeds f (told_close ∙ none))
      by y (segment_does acts es behind bytes out parts_are lets (did_end x u2 r2 p2 q net said told more v ends sps hands closing w)) = absurd (none-some x (sym (told_close ∙ none) ∙ (walked w).2))
      by y (segment_does acts es behind bytes out parts_are lets (did_break x u2 r2 p2 said more over off reads whole sps hands w)) = absurd (none-some x (sym (told_close ∙ none) ∙ (walked w).2))
      by y (segment_does acts es behind bytes out parts_are lets (did_go u2 r2 p2 said more over off reads whole sps hands owes w)) =
          let t = walked w in
          let left : talked_on a.conn start es out acts.over ≡ talking a.conn start es out = ap (talked_on a.conn start es out) over in
          let on : is_talking p2 ≡ true = sps.talks ∙ ap is_talking left in
          let at = home_at a.conn start p2 (sps.asked ∙ ap asked_at left) on (nothing_owed (lent_of p2) (owes on)) in
          let grows : had p2 ≡ es ++ sps.more = sps.grows ∙ ap (λ z. had z ++ sps.more) left in
          let later = come ++ bytes in
          record {
            come = later;
            reads = subst (λ z. Reads a d.tasks later z r) t.3 (subst (λ z. Reads a d.tasks later u2 z) t.4 reads);
            after = had p2;
            conn = sym t.5 ∙ at;
            called = ap tcp_calls grows ∙ flat_map-append (λ (x : ConnEntry). tcp_calls_of x.call) es sps.more ∙ ap (λ z. tcp_calls es ++ z) (sps.calls (ap is_talking left))
                ∙ ap (λ z. z ++ text_calls (texts_in a d.tasks come bytes) now) (calls_with y.entries behind es (segment_came m now) acts parts_are (lets_silent acts.ready behind bytes lets) ∙ ap (λ z. z ++ segment_came m now ∷ []) y.called)
                ∙ ap (λ z. (d.calls ++ segment_came m now ∷ []) ++ text_calls (texts_in a d.tasks come z) now) (sym (drop_at come bytes (length come) refl));
            gave = ap delivered grows ∙ flat_map-append (λ (x : ConnEntry). delivered_by x.call) es sps.more ∙ ap (λ z. delivered es ++ z) sps.holds ∙ append-nil (delivered es)
                ∙ gave_with y.entries behind es (segment_came m now) acts parts_are bytes (lets_gave acts.ready behind bytes lets) ∙ ap (λ z. z ++ bytes) y.gave;
          }

  -- WHAT IT SAYS

  texts_are : texts_for (session_talker a.info) a.conn.isn d (by_segment m now) ≡ texts_to (come_of a.conn.isn heard) ++ [] ∷ []
  texts_are =
      let later = come_of a.conn.isn heard in
      let all = session_says a.info later false d.tasks in
      ap (λ z. texts_by (session_talker a.info) z d.tasks come (more_of come later) ++ more_of all all ∷ []) s.unended ∙ ap (λ z. texts_to later ++ z ∷ []) (drop_all (length all) all (omega arith))

  text_calls_are : text_calls (texts_for (session_talker a.info) a.conn.isn d (by_segment m now)) now ≡ text_calls (texts_to (come_of a.conn.isn heard)) now
  text_calls_are =
      let xs = texts_to (come_of a.conn.isn heard) in
      ap (λ z. text_calls z now) texts_are ∙ calls_append xs ([] ∷ []) now ∙ append-nil (text_calls xs now)

  held_then : talk_held a.conn.isn after ≡ talk_held a.conn.isn heard
  held_then = held_with_texts a.conn.isn heard.calls (texts_for (session_talker a.info) a.conn.isn d (by_segment m now)) now

  -- where nothing was closed, they stand for the talk that goes on
  goes_on : (later : List ℕ) → come ++ later ≡ come_of a.conn.isn heard → is_refused (cut (come ++ later)).rest ≡ false → ended_of a.conn.isn heard ≡ false → first_close ns ≡ None → StandsForSession a start after c h
  goes_on later all whole off none =
      let here : come ++ later ≡ come_of a.conn.isn after = all ∙ ap front (sym held_then) in
      stands_then c order h now (Offers (port_at c.conn.0 1) msg ∷ []) ns s.above s.between s.below st a start after calls_by (every none)
      (λ x. ap front (held_with_texts a.conn.isn heard.calls (texts_to x) now ∙ sym held_then))
      (ap calls_by (ap front held_then) ∙ ap (λ z. heard.calls ++ z) (sym text_calls_are))
      (ap has_ended held_then ∙ off) (subst (λ z. is_refused (cut z).rest ≡ false) here whole) (subst (λ z. AreAskedBy z d.tasks) here (asked_later come later d.tasks s.asked)) s.lun

  module _ (lives : session_end 0 a.info come false d.tasks ≡ None) (entries : List ConnEntry) (called : tcp_calls entries ≡ d.calls) (gave : delivered entries ≡ come) (acts : Acts)
      (es behind : List ConnEntry) (bytes : List ℕ) (out : Option Lent) (parts_are : es ≡ entries ++ conn_entry (calls_in (segment_came m now)) acts ∷ behind) (lets : LetsUp acts.ready behind bytes) where
    abbrev left_at : Dialogue
    left_at = talked_on a.conn start es out acts.over

    -- what is known where the call left the connection so
    record Knows (f : Dialogue) : Type 0 where
      keeps : ConnKeeps link start (had f)
      asked : acts ≡ segment_asks link phase_at m now
      all : come ++ bytes ≡ come_of a.conn.isn heard

    knows : (f : Dialogue) (rest : List ConnEntry) → f ≡ st.dialogue → asked_at f ≡ Some (a.conn, start) → had f ≡ es ++ rest → Knows f
    knows f rest at asked had_is =
        let keeps = kept_at st.state f a.conn start (subst (IsConnAt st.state) (sym at) st.is_conn) asked in
        let so = asks_so a.conn start d.calls entries called gave m now acts (had f) (behind ++ rest) (had_is ∙ ap (λ z. z ++ rest) parts_are ∙ append_assoc entries (conn_entry (calls_in (segment_came m now)) acts ∷ behind) rest) keeps in
        record { keeps = keeps; asked = so; all = comes_so a.conn start d.calls entries called gave m now acts so (had f) behind rest bytes lets (had_is ∙ ap (λ z. z ++ rest) parts_are) keeps }

    called_to : tcp_calls es ≡ heard.calls
    called_to = calls_with entries behind es (segment_came m now) acts parts_are (lets_silent acts.ready behind bytes lets) ∙ ap (λ z. z ++ segment_came m now ∷ []) called

    -- whether the stream has ended then
    ends_then : comes_to_end a.conn entries (with_segment_call entries msg.rec sp now acts) ≡ ended_of a.conn.isn heard
    ends_then =
        let e : ConnEntry = conn_entry (calls_in (segment_came m now)) acts in
        let was : has_ended (held_after a.conn.isn (tcp_calls entries)) ≡ false = ap (λ z. has_ended (held_after a.conn.isn z)) called ∙ s.unended in
        sym (ap (λ z. has_ended (held_after a.conn.isn z)) (ap (λ z. z ++ segment_came m now ∷ []) (sym called) ∙ sym (calls-append entries e))
        ∙ ap (λ z. not z && has_ended (held_after a.conn.isn (tcp_calls (with_segment_call entries msg.rec sp now acts)))) (sym was))

    -- texts that came to it then are those of the stream
    texts_came : (come_later : come ++ bytes ≡ come_of a.conn.isn heard) → texts_in a d.tasks come bytes ≡ texts_to (come_of a.conn.isn heard)
    texts_came all = ap (texts_in a d.tasks come) (sym (drop_at come bytes (length come) refl)) ∙ ap texts_to all

    said_so : (f p : Dialogue) (said : List Said) (rest : List ConnEntry) (sps : Speaks msg.rec (text_calls (texts_in a d.tasks come bytes) now) left_at p said) → had f ≡ es ++ (sps.more ++ rest) → Knows f
        → said ≡ say_unless (segment_end a.conn.isn phase_at m) (texts_say link msg.rec heard.calls (texts_for (session_talker a.info) a.conn.isn d (by_segment m now)) now)
    said_so f p said rest sps had_is k = by acts.over refl ∙ ap (λ z. say_unless z says) (ends_so a.conn start d.calls entries called gave m now acts k.asked)
      where
        says : List Said
        says = texts_say link msg.rec heard.calls (texts_for (session_talker a.info) a.conn.isn d (by_segment m now)) now

        each : EachConnEntry (AsksAsPromised link start) es sps.more
        each = each_before (AsksAsPromised link start) es sps.more rest (each_behind (AsksAsPromised link start) [] es (sps.more ++ rest) (subst (EachConnEntry (AsksAsPromised link start) []) had_is k.keeps.each))

        by : (o : Option Cause) → acts.over ≡ o → said ≡ say_unless acts.over says
        by None is_so =
            let is_calls = sps.calls (ap (λ z. is_talking (talked_on a.conn start es out z)) is_so) ∙ ap (λ z. text_calls z now) (texts_came k.all) in
            sps.says ∙ texts_so link start msg.rec now es sps.more heard.calls (texts_to (come_of a.conn.isn heard)) each called_to is_calls
            ∙ sym (ap (λ z. texts_say link msg.rec heard.calls z now) texts_are ∙ says_last link msg.rec now (texts_to (come_of a.conn.isn heard)) heard.calls) ∙ ap (λ z. say_unless z says) (sym is_so)
        by (Some y) is_so =
            sps.says ∙ silent_told msg.rec sps.more (sps.silent (ap (λ z. is_talking (talked_on a.conn start es out z)) is_so)) ∙ ap (λ z. say_unless z says) (sym is_so)

    abbrev close_says : Option Cause → Option Cause → List Said
    close_says ends other = sends_say link 0 (closes_by ends other a.conn.isn (conn_phase a.conn.isn after.calls))

    -- its messages, with those of its texts and of the close
    all_says : (said told : List Said) → messages_of (told_below c.unit.0 (told_of st.deeds)) ≡ (downs_for msg.rec acts ++ said) ++ told → acts ≡ segment_asks link phase_at m now
        → said ≡ say_unless (segment_end a.conn.isn phase_at m) (texts_say link msg.rec heard.calls (texts_for (session_talker a.info) a.conn.isn d (by_segment m now)) now)
        → (ends : Option Cause) → talker_end (session_talker a.info) a.conn.isn msg.rec heard ≡ ends → told ≡ close_says ends acts.over → messages_of (told_below c.unit.0 ns) ≡ session_segment_says a d m now
    all_says said told says asked saids ends is_so closes =
        let place = place_says msg.rec (segment_put (session_talker a.info) a.conn.isn d m now).advance in
        let sends = sends_say link msg.rec (calls_for a.conn.isn phase_at m.segment) in
        ap (λ z. messages_of (told_below c.unit.0 z)) (sym st.told) ∙ says ∙ ap (λ z. (z ++ said) ++ told) (says_so a.conn start d.calls entries called gave m now acts asked)
        ∙ append_assoc (place ++ sends) said told ∙ append_assoc place sends (said ++ told) ∙ ap (λ z. place ++ (sends ++ (z ++ told))) saids
        ∙ ap (λ z. place ++ (sends ++ (say_unless (segment_end a.conn.isn phase_at m) (texts_say link msg.rec heard.calls (texts_for (session_talker a.info) a.conn.isn d (by_segment m now)) now) ++ z)))
        (closes ∙ ap (close_says ends) (ends_so a.conn start d.calls entries called gave m now acts asked) ∙ ap (λ z. close_says z (segment_end a.conn.isn phase_at m)) (sym is_so))

    -- what is handed up
    all_hands : (more : List Said) → HandsOn msg.rec a.info d.tasks come (come ++ bytes) [] more → come ++ bytes ≡ come_of a.conn.isn heard → told_above c.unit.0 (told_of st.deeds) ≡ more
        → told_above c.unit.0 ns ≡ handed_up msg.rec a.info come (come_of a.conn.isn heard) d.tasks
    all_hands more hands all is_so =
        ap (told_above c.unit.0) (sym st.told) ∙ is_so ∙ handed_all msg.rec a.info d.tasks come (come ++ bytes) more (hands come (handed_first msg.rec a.info d.tasks come)) ∙ ap (λ z. handed_up msg.rec a.info come z d.tasks) all

    -- and the calls of the drive that this adds
    all_adds : (more : List Said) → HandsOn msg.rec a.info d.tasks come (come ++ bytes) [] more → come ++ bytes ≡ come_of a.conn.isn heard → AddsParts a.info come (come_of a.conn.isn heard) d.tasks
    all_adds more hands all =
        let h = hands come (handed_first msg.rec a.info d.tasks come) in
        record {
          lives = lives;
          stays = λ s is. ap (session_come 0 a.info) (sym all) ∙ stays_open 0 a.info come bytes (opened_ended 0 a.info come s is) ∙ is;
          new = h.new;
          grown = ap (λ z. session_calls a.info z d.tasks) (sym all) ∙ h.grown;
          each = h.each;
        }

    -- where it reads on, the session ends nothing
    none_ends : (u : UnitTalk) (r : SessionTalk) → Reads a d.tasks (come ++ bytes) u r → is_refused (cut (come ++ bytes)).rest ≡ false → come ++ bytes ≡ come_of a.conn.isn heard
        → comes_to_end a.conn entries (with_segment_call entries msg.rec sp now acts) ≡ false → talker_end (session_talker a.info) a.conn.isn msg.rec heard ≡ None
    none_ends u r reads whole all off =
        ap (λ z. session_end msg.rec a.info (come_of a.conn.isn heard) z d.tasks) (sym ends_then ∙ off) ∙ ap (λ z. session_end msg.rec a.info z false d.tasks) (sym all) ∙ reads_on msg.rec a d.tasks (come ++ bytes) u r reads whole

    -- what went on, or was ended by the connection
    went : (u : UnitTalk) (r : SessionTalk) (p : Dialogue) (said more : List Said) → Reads a d.tasks (come ++ bytes) u r → is_refused (cut (come ++ bytes)).rest ≡ false
        → comes_to_end a.conn entries (with_segment_call entries msg.rec sp now acts) ≡ false
        → Speaks msg.rec (text_calls (texts_in a d.tasks come bytes) now) left_at p said → HandsOn msg.rec a.info d.tasks come (come ++ bytes) [] more → p ≡ st.dialogue
        → messages_of (told_below c.unit.0 (told_of st.deeds)) ≡ downs_for msg.rec acts ++ said → told_above c.unit.0 (told_of st.deeds) ≡ more → first_close ns ≡ acts.over → DriveSegmentComes a start d c h m now ns
    went u r p said more reads whole off sps hands at says above close =
        let had_is : had p ≡ es ++ sps.more = sps.grows ∙ ap (λ z. z ++ sps.more) (had_then a.conn start es out acts.over) in
        let k = knows p sps.more at (sps.asked ∙ asked_then a.conn start es out acts.over) had_is in
        let ends = none_ends u r reads whole k.all off in
        segment_comes_so
        (all_says said [] (says ∙ sym (append-nil (downs_for msg.rec acts ++ said))) k.asked (said_so p p said [] sps (had_is ∙ ap (λ z. es ++ z) (sym (append-nil sps.more))) k) None ends refl)
        (all_hands more hands k.all above) (all_adds more hands k.all)
        (close ∙ ends_so a.conn start d.calls entries called gave m now acts k.asked ∙ ap (λ z. earlier z (segment_end a.conn.isn phase_at m)) (sym ends))
        (goes_on bytes k.all whole (sym ends_then ∙ off))

    came_of : CallDid (call_of c order h now st.work st.talk st.dialogue) (suc (length st.deeds)) st.deeds left_at acts.over (downs_for msg.rec acts) [] a msg.rec d.tasks come bytes (comes_to_end a.conn entries (with_segment_call entries msg.rec sp now acts))
        → DriveSegmentComes a start d c h m now ns
    came_of (did_fail f) = segment_lacks_memory (sym told_close ∙ no_break st st.work st.talk f)
    came_of (did_go u r p said more over off reads whole sps hands owes w) = let t = walked w in went u r p said more reads whole off sps hands t.5 t.0 t.1 (sym told_close ∙ t.2 ∙ sym over)
    came_of (did_break x u r p said more over off reads whole sps hands w) = let t = walked w in went u r p said more reads whole off sps hands t.5 t.0 t.1 (sym told_close ∙ t.2 ∙ sym over)
    came_of (did_end x u r p q net said told more v ends sps hands closing w) = by closing
      where
        t : (messages_of (told_below c.unit.0 (told_of st.deeds)) ≡ told) × (told_above c.unit.0 (told_of st.deeds) ≡ more) × (first_close (told_of st.deeds) ≡ Some x) × (u ≡ st.work) × (r ≡ st.talk) × (q ≡ st.dialogue)
        t = walked w

        had_p : had p ≡ es ++ sps.more
        had_p = sps.grows ∙ ap (λ z. z ++ sps.more) (had_then a.conn start es out acts.over)

        ended : (rest : List ConnEntry) (k : Knows q) → had q ≡ es ++ (sps.more ++ rest) → (closed : List Said) → told ≡ (downs_for msg.rec acts ++ said) ++ closed → closed ≡ close_says (Some x) acts.over → DriveSegmentComes a start d c h m now ns
        ended rest k had_is closed told_is closes =
            let over : talker_end (session_talker a.info) a.conn.isn msg.rec heard ≡ Some x =
            ap (λ z. session_end msg.rec a.info (come_of a.conn.isn heard) z d.tasks) (sym ends_then) ∙ ap (λ z. session_end msg.rec a.info z (comes_to_end a.conn entries (with_segment_call entries msg.rec sp now acts)) d.tasks) (sym k.all) ∙ ends in
            segment_comes_so
            (all_says said closed (t.0 ∙ told_is) k.asked (said_so q p said rest sps had_is k) (Some x) over closes)
            (all_hands more hands k.all t.1) (all_adds more hands k.all)
            (sym told_close ∙ t.2 ∙ ap (λ z. earlier z (segment_end a.conn.isn phase_at m)) (sym over))
            (λ none. absurd (none-some x (sym none ∙ sym told_close ∙ t.2)))

        by : ClosingOf p q net (downs_for msg.rec acts ++ said) told → DriveSegmentComes a start d c h m now ns
        by (told_none off r0 _ told_is) =
            let had_is : had q ≡ es ++ (sps.more ++ r0.more) = r0.grows ∙ ap (λ z. z ++ r0.more) had_p ∙ append_assoc es sps.more r0.more in
            let k = knows q (sps.more ++ r0.more) t.5 (r0.asked ∙ sps.asked ∙ asked_then a.conn start es out acts.over) had_is in
            let y = ended_then a.conn start es out acts.over (sym sps.talks ∙ off) in
            ended r0.more k had_is [] (told_is ∙ sym (append-nil (downs_for msg.rec acts ++ said))) (sym (ap (close_says (Some x)) y.1))
        by (told_a_close closing before behind_it on asked grows none nothing off _ told_is) =
            let close : ConnEntry = conn_entry closes_from_above closing in
            let had_is : had q ≡ ((es ++ sps.more) ++ before) ++ close ∷ behind_it = grows ∙ ap (λ z. (z ++ before) ++ close ∷ behind_it) had_p in
            let had_so : had q ≡ es ++ (sps.more ++ (before ++ close ∷ behind_it)) =
            had_is ∙ append_assoc (es ++ sps.more) before (close ∷ behind_it) ∙ append_assoc es sps.more (before ++ close ∷ behind_it) in
            let k = knows q (sps.more ++ (before ++ close ∷ behind_it)) t.5 (asked ∙ sps.asked ∙ asked_then a.conn start es out acts.over) had_so in
            let over = over_then a.conn start es out acts.over (sym sps.talks ∙ on) in
            let kept = each_at (AsksAsPromised link start) [] ((es ++ sps.more) ++ before) close behind_it (subst (EachConnEntry (AsksAsPromised link start) []) had_is k.keeps.each) in
            let calls_of : tcp_calls ((es ++ sps.more) ++ before) ≡ after.calls =
            flat_map-append (λ (z : ConnEntry). tcp_calls_of z.call) (es ++ sps.more) before ∙ ap (λ z. tcp_calls (es ++ sps.more) ++ z) none ∙ append-nil (tcp_calls (es ++ sps.more))
            ∙ flat_map-append (λ (z : ConnEntry). tcp_calls_of z.call) es sps.more ∙ ap (λ z. z ++ tcp_calls sps.more) called_to
            ∙ ap (λ z. heard.calls ++ z) (sps.calls (sym sps.talks ∙ on) ∙ ap (λ z. text_calls z now) (texts_came k.all) ∙ sym text_calls_are) in
            ended (before ++ close ∷ behind_it) k had_so (downs_for 0 closing) told_is
            (ap (downs_for 0) kept ∙ ap (λ z. sends_say link 0 (without_try (closing_segment a.conn.isn (conn_phase a.conn.isn z)) ∷ [])) calls_of ∙ sym (ap (close_says (Some x)) over))

  pub segment_comes : DriveSegmentComes a start d c h m now ns
  segment_comes = let y = parts st.work st.talk st.dialogue st.worked st.talked st.conversed in by y (did_by st.work st.talk st.dialogue y)
    where
      by : (y : Parted a start d (entries_of c.unit.0 st.deeds) (entries_of c.session.0 st.deeds) (entries_of c.conn.0 st.deeds) st.work st.talk st.dialogue)
          → SegmentDid (call_of c order h now st.work st.talk st.dialogue) (suc (length st.deeds)) st.deeds a.conn start y.entries a d.tasks come msg sp
          → DriveSegmentComes a start d c h m now ns
      by y (segment_fails f) = segment_lacks_memory (sym told_close ∙ no_break st st.work st.talk f)
      by y (segment_does acts es behind bytes out parts_are lets did) = came_of (reads_on 0 a d.tasks come y.unit y.session y.reads s.whole) y.entries y.called y.gave acts es behind bytes out parts_are lets did
