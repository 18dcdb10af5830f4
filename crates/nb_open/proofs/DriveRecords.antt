-- What a segment brings a drive to say, as the records of its promise.
use Rattle.std.proofs.Common.{◌≡◌, ℕ, ◌||◌, not, Bool, List, [], ◌∷◌, ◌++◌, Option, Some, None, refl, sym, append_assoc, ◌∙◌, ap}
use Rattle.std.specs.List.{flat_map, list_any}
use Rattle.std.proofs.lemmas.List.Concat.{flat_map-append}
use Rattle.std.proofs.lemmas.List.Folds.{list_any-append}
use Rattle.nb_terms.specs.declared.cause.Cause.{Cause}
use Rattle.nb_defs.specs.Records.{Out}
use Rattle.nb_conns.specs.ConnAsks.{link_of}
use Rattle.nb_conns.specs.ConnEffects.{place_says}
use Rattle.nb_drivenodes.specs.DriveAsks.{DriveAskParts}
use Rattle.nb_drivetalks.specs.Comings.{say_unless, session_segment_says, texts_say}
use Rattle.nb_graph.specs.Trace.{Said}
use Rattle.nb_sans.specs.Sessions.{ReadTask, session_talker}
use Rattle.nb_stack.specs.Client.{Client}
use Rattle.nb_streams.specs.Endings.{segment_end}
use Rattle.nb_streams.specs.Flows.{ConnPhase, TcpCall, asking, conn_phase, flowing}
use Rattle.nb_streams.specs.Segments.{Arrival}
use Rattle.nb_streams.specs.Sending.{Outgoing, calls_for}
use Rattle.nb_talks.specs.Talking.{Talk, by_segment, receives, talks_on, text_to_send, texts_for}
use Rattle.nb_talks.specs.TalkPromises.{Sends, closes_by, phase_of, said_sends, segment_put, talker_end, texts_sent, unless_ended}
use Rattle.nb_tcp.specs.Messages.{outgoing_message}
use Rattle.nb_machine.specs.Connections.{Connection, loses_way, segment_records}
use Rattle.nb_machine.specs.Sendings.{advance_records, has_route, send_records}
use Rattle.nb_teller.specs.declared.speaker.Carrier.TheVariants.{Tcp}
use Rattle.nb_teller.specs.declared.speaker.Speaker.{Speaker}
use Rattle.nb_webtalks.specs.Comings.{sends_say}
use Rattle.nb_open.proofs.WebPuts.{said_lacks, said_records}
use Rattle.nb_open.proofs.WebRecords.{AreFew, few_calls, few_closes, few_if, few_lack, few_records, none_sent, place_lacks, place_records}

-- each text is one segment, or none
pub few_said : (p : ConnPhase) (text : List ℕ) → AreFew (said_sends p text)
few_said p [] = none_sent
few_said (asking all) (b ∷ bytes) = none_sent
few_said (flowing f) (b ∷ bytes) = few_if _ _

module _ (net : Client) (who : Speaker) (c : Connection) (number : who.number ≡ c.number) (carrier : who.carrier ≡ Tcp) (server : who.server ≡ c.link.peer) (own : who.own_port ≡ c.link.own_port) where
  texts_records : (rec : ℕ) (calls : List TcpCall) (xs : List (List ℕ)) (now : ℕ) → flat_map (said_records net who) (texts_say c.link rec calls xs now) ≡ segment_records c net (texts_sent c.link.isn calls xs now)
  texts_records rec calls [] now = refl
  texts_records rec calls (x ∷ xs) now =
      let one = said_sends (conn_phase c.link.isn calls) x in
      let more = texts_sent c.link.isn (calls ++ text_to_send x now) xs now in
      let rest = texts_say c.link rec (calls ++ text_to_send x now) xs now in
      flat_map-append (said_records net who) (sends_say c.link rec one) rest
      ∙ ap (λ z. z ++ flat_map (said_records net who) rest) (few_records net who c number carrier server own rec one (few_said (conn_phase c.link.isn calls) x))
      ∙ ap (λ z. segment_records c net one ++ z) (texts_records rec (calls ++ text_to_send x now) xs now)
      ∙ sym (flat_map-append (λ (s : Outgoing × Option ℕ). send_records net c.number s.1 (outgoing_message c.link s.0)) one more)

  texts_lack : (rec : ℕ) (calls : List TcpCall) (xs : List (List ℕ)) (now : ℕ) → list_any (said_lacks net who) (texts_say c.link rec calls xs now) ≡ loses_way c net (texts_sent c.link.isn calls xs now)
  texts_lack rec calls [] now = refl
  texts_lack rec calls (x ∷ xs) now =
      let one = said_sends (conn_phase c.link.isn calls) x in
      let more = texts_sent c.link.isn (calls ++ text_to_send x now) xs now in
      let rest = texts_say c.link rec (calls ++ text_to_send x now) xs now in
      list_any-append (said_lacks net who) (sends_say c.link rec one) rest
      ∙ ap (λ z. z || list_any (said_lacks net who) rest) (few_lack net who c number carrier server own rec one (few_said (conn_phase c.link.isn calls) x))
      ∙ ap (λ z. loses_way c net one || z) (texts_lack rec (calls ++ text_to_send x now) xs now)
      ∙ sym (list_any-append (λ (s : Outgoing × Option ℕ). not (has_route net (outgoing_message c.link s.0))) one more)

  -- none where the segment itself ends the connection
  unless_records : (rec : ℕ) (by_connection : Option Cause) (calls : List TcpCall) (xs : List (List ℕ)) (now : ℕ) →
      flat_map (said_records net who) (say_unless by_connection (texts_say c.link rec calls xs now)) ≡ segment_records c net (unless_ended by_connection (texts_sent c.link.isn calls xs now))
  unless_records rec None calls xs now = texts_records rec calls xs now
  unless_records rec (Some cause) calls xs now = refl

  unless_lack : (rec : ℕ) (by_connection : Option Cause) (calls : List TcpCall) (xs : List (List ℕ)) (now : ℕ) →
      list_any (said_lacks net who) (say_unless by_connection (texts_say c.link rec calls xs now)) ≡ loses_way c net (unless_ended by_connection (texts_sent c.link.isn calls xs now))
  unless_lack rec None calls xs now = texts_lack rec calls xs now
  unless_lack rec (Some cause) calls xs now = refl

  module _ (a : DriveAskParts) (is : link_of a.conn ≡ c.link) (d : Talk ReadTask) (m : Arrival) (now : ℕ) where
    abbrev heard : Talk ReadTask
    heard = receives a.conn.isn d (by_segment m now)

    abbrev by_connection : Option Cause
    by_connection = segment_end a.conn.isn (phase_of a.conn.isn d) m

    abbrev texts : List (List ℕ)
    texts = texts_for (session_talker a.info) a.conn.isn d (by_segment m now)

    abbrev called : Sends
    called = calls_for a.conn.isn (phase_of a.conn.isn d) m.segment

    abbrev text_sends : Sends
    text_sends = unless_ended by_connection (texts_sent a.conn.isn heard.calls texts now)

    abbrev closing : Sends
    closing = closes_by (talker_end (session_talker a.info) a.conn.isn m.rec heard) by_connection a.conn.isn (phase_of a.conn.isn (talks_on (session_talker a.info) a.conn.isn d (by_segment m now)))

    few_called : AreFew called
    few_called = few_calls a.conn.isn (phase_of a.conn.isn d) m.segment

    few_closing : AreFew closing
    few_closing = few_closes (talker_end (session_talker a.info) a.conn.isn m.rec heard) by_connection a.conn.isn (phase_of a.conn.isn (talks_on (session_talker a.info) a.conn.isn d (by_segment m now)))

    abbrev advance : Option ℕ
    advance = (segment_put (session_talker a.info) a.conn.isn d m now).advance

    abbrev place : List Said
    place = place_says m.rec advance

    abbrev one : List Said
    one = sends_say (link_of a.conn) m.rec called

    abbrev two : List Said
    two = say_unless by_connection (texts_say (link_of a.conn) m.rec heard.calls texts now)

    abbrev three : List Said
    three = sends_say (link_of a.conn) 0 closing

    says_are : session_segment_says a d m now ≡ place ++ (one ++ (two ++ three))
    says_are = refl

    sends_are : called ++ (text_sends ++ closing) ≡ (segment_put (session_talker a.info) a.conn.isn d m now).sends
    sends_are = sym (append_assoc called text_sends closing)

    -- the parts as records
    abbrev puts : List Said → List Out
    puts says = flat_map (said_records net who) says

    abbrev records : Sends → List Out
    records sends = segment_records c net sends

    abbrev as_records : Outgoing × Option ℕ → List Out
    as_records s = send_records net c.number s.1 (outgoing_message c.link s.0)

    one_records : puts one ≡ records called
    one_records = ap (λ l. puts (sends_say l m.rec called)) is ∙ few_records net who c number carrier server own m.rec called few_called

    two_records : puts two ≡ records text_sends
    two_records =
        ap (λ l. puts (say_unless by_connection (texts_say l m.rec heard.calls texts now))) is
        ∙ (unless_records m.rec by_connection heard.calls texts now ∙ ap (λ l. records (unless_ended by_connection (texts_sent l.isn heard.calls texts now))) (sym is))

    three_records : puts three ≡ records closing
    three_records = ap (λ l. puts (sends_say l 0 closing)) is ∙ few_records net who c number carrier server own 0 closing few_closing

    all_records : puts (place ++ (one ++ (two ++ three))) ≡ advance_records c.number advance ++ records (called ++ (text_sends ++ closing))
    all_records =
        flat_map-append (said_records net who) place (one ++ (two ++ three))
        ∙ (ap (λ z. z ++ puts (one ++ (two ++ three))) (place_records net who c number carrier server own m.rec advance)
        ∙ ap (λ z. advance_records c.number advance ++ z)
        (flat_map-append (said_records net who) one (two ++ three)
        ∙ (ap (λ z. puts one ++ z) (flat_map-append (said_records net who) two three)
        ∙ (ap (λ z. z ++ (puts two ++ puts three)) one_records
        ∙ (ap (λ z. records called ++ (z ++ puts three)) two_records
        ∙ (ap (λ z. records called ++ (records text_sends ++ z)) three_records
        ∙ (ap (λ z. records called ++ z) (sym (flat_map-append as_records text_sends closing)) ∙ sym (flat_map-append as_records called (text_sends ++ closing)))))))))

    -- what a segment puts, but its end
    pub drive_puts : flat_map (said_records net who) (session_segment_says a d m now) ≡ advance_records c.number advance ++ segment_records c net (segment_put (session_talker a.info) a.conn.isn d m now).sends
    drive_puts = ap puts says_are ∙ (all_records ∙ ap (λ z. advance_records c.number advance ++ records z) sends_are)

    -- and whether it finds a way
    abbrev lost : List Said → Bool
    lost says = list_any (said_lacks net who) says

    abbrev losing : Sends → Bool
    losing sends = loses_way c net sends

    abbrev is_lost : Outgoing × Option ℕ → Bool
    is_lost s = not (has_route net (outgoing_message c.link s.0))

    one_lost : lost one ≡ losing called
    one_lost = ap (λ l. lost (sends_say l m.rec called)) is ∙ few_lack net who c number carrier server own m.rec called few_called

    two_lost : lost two ≡ losing text_sends
    two_lost =
        ap (λ l. lost (say_unless by_connection (texts_say l m.rec heard.calls texts now))) is
        ∙ (unless_lack m.rec by_connection heard.calls texts now ∙ ap (λ l. losing (unless_ended by_connection (texts_sent l.isn heard.calls texts now))) (sym is))

    three_lost : lost three ≡ losing closing
    three_lost = ap (λ l. lost (sends_say l 0 closing)) is ∙ few_lack net who c number carrier server own 0 closing few_closing

    all_lost : lost (place ++ (one ++ (two ++ three))) ≡ losing (called ++ (text_sends ++ closing))
    all_lost =
        list_any-append (said_lacks net who) place (one ++ (two ++ three))
        ∙ (ap (λ z. z || lost (one ++ (two ++ three))) (place_lacks net who c number carrier server own m.rec advance)
        ∙ (list_any-append (said_lacks net who) one (two ++ three)
        ∙ (ap (λ z. lost one || z) (list_any-append (said_lacks net who) two three)
        ∙ (ap (λ z. z || (lost two || lost three)) one_lost
        ∙ (ap (λ z. losing called || (z || lost three)) two_lost
        ∙ (ap (λ z. losing called || (losing text_sends || z)) three_lost
        ∙ (ap (λ z. losing called || z) (sym (list_any-append is_lost text_sends closing)) ∙ sym (list_any-append is_lost called (text_sends ++ closing)))))))))

    pub drive_lacks : list_any (said_lacks net who) (session_segment_says a d m now) ≡ loses_way c net (segment_put (session_talker a.info) a.conn.isn d m now).sends
    drive_lacks = ap lost says_are ∙ (all_lost ∙ ap losing sends_are)
