-- A begin sends the SYN, and the three stand for a talk that was given its login's first request.
use Rattle.std.proofs.Common.{◌≡◌, ℕ, suc, ◌<◌, Bool, true, false, List, [], ◌∷◌, ◌++◌, length, take, drop, nat_le, Option, Some, None, option_and_then, if◌then◌else◌, refl, sym, ap, ◌∙◌, subst, append-nil, arith}
use Rattle.std.proofs.lemmas.Bool.{leb-true}
use Rattle.std.proofs.lemmas.List.{length-drop, length-take-le}
use Rattle.std.proofs.lemmas.Option.{none-some, same_Some}
use Rattle.nb_graph.specs.Deeds.{Offers, told_of}
use Rattle.nb_graph.specs.Whole.{Objects, port_at}
use Rattle.nb_ledger.specs.Flat.{Notice}
use Rattle.nb_iscsipdu.specs.Streams.{cut, is_refused}
use Rattle.nb_login.specs.declared.info.LoginInfo.{LoginInfo}
use Rattle.nb_login.specs.Logins.{login_said}
use Rattle.nb_streams.specs.Flows.{after_tcp_call, asking, conn_phase, held_after, held_in, text_came}
use Rattle.nb_streams.specs.Streams.{HeldBytes, front, has_ended, nothing_held}
use Rattle.nb_tcp.specs.declared.link.Link.{Link}
use Rattle.nb_tcp.specs.ConnHistory.{EachConnEntry, delivered, tcp_calls}
use Rattle.nb_tcp.specs.ConnPromises.{AsksAsPromised, ConnKeeps, starting_acts}
use Rattle.nb_tcp.proofs.ConnHistoryLemmas.{phase-append}
use Rattle.nb_conns.specs.declared.conn_ask.ConnAsk.{ConnAsk}
use Rattle.nb_conns.specs.ConnAsks.{conn_ask_in, link_of}
use Rattle.nb_conns.specs.ConnEffects.{downs_for}
use Rattle.nb_conns.specs.Dialogues.{ConversesTo, Dialogue, IsConnAt, is_talking, unopened}
use Rattle.nb_drivechains.specs.declared.drive_chain.DriveChain.{DriveChain}
use Rattle.nb_drivechains.specs.DriveChains.{three_of}
use Rattle.nb_drivenodes.specs.DriveAsks.{DriveAskParts, drive_ask_by, drive_ask_in, info_by, names_in, words_of}
use Rattle.nb_drivenodes.specs.SessionTalks.{SessionTalk, SessionTalksTo, session_unasked}
use Rattle.nb_drivenodes.specs.UnitTalks.{UnitTalk, UnitTalksTo, unit_unasked, unit_waits}
use Rattle.nb_nodes.specs.declared.obj.Obj.{Obj}
use Rattle.nb_nodes.specs.Carriers.{conn_carrier, text_carrier}
use Rattle.nb_opens.specs.Entries.{entries_of}
use Rattle.nb_opens.specs.Notices.{first_close}
use Rattle.nb_sans.specs.Sessions.{ReadTask, session_says, session_talker}
use Rattle.nb_talks.specs.Talking.{Talk, begun_talk, text_calls, text_to_send}
use Rattle.nb_talks.specs.TalkPromises.{said_sends}
use Rattle.nb_webchains.specs.WebCalls.{begin_said}
use Rattle.nb_webchains.specs.WebChains.{IsInOrder}
use Rattle.nb_webtalks.specs.Comings.{sends_say}
use Rattle.nb_webtalks.specs.Tellings.{messages_of}
use Rattle.nb_webtalks.proofs.Begins.{home_at, nothing_owed}
use Rattle.nb_webtalks.proofs.Coming.{kept_at}
use Rattle.nb_webtalks.proofs.Lowers.{had, lent_of}
use Rattle.nb_drivetalks.specs.Comings.{DriveBeginComes, begin_comes_so, begin_is_refused, begin_lacks_memory}
use Rattle.nb_drivetalks.specs.SessionStands.{StandsForSession}
use Rattle.nb_drivetalks.specs.Tellings.{told_above, told_below}
use Rattle.nb_drivetalks.proofs.Cames.{Reads, in_login}
use Rattle.nb_drivetalks.proofs.Chunks.{text_is}
use Rattle.nb_drivetalks.proofs.Opened.{BeginDid, begin_fails, begin_goes, begin_refused, begin_walk}
use Rattle.nb_drivetalks.proofs.Spelled.{login_some}
use Rattle.nb_drivetalks.proofs.Spoken.{texts_so}
use Rattle.nb_drivetalks.proofs.Standing.{Goes, failed_closes, no_break, stands_then}
use Rattle.nb_drivetalks.proofs.Starting.{Started, call_of}
use Rattle.nb_drivetalks.proofs.Steps.{walked}

-- WHAT IS ASKED FOR

ask_by : (o : Option ConnAsk) (i : Option LoginInfo) (q : DriveAskParts) → drive_ask_by o i ≡ Some q → (o ≡ Some q.conn) × (i ≡ Some q.info)
ask_by None i q e = absurd (none-some q e)
ask_by (Some conn) None q e = absurd (none-some q e)
ask_by (Some conn) (Some info) q e =
    let same = same_Some (record { conn = conn; info = info }) q e in
    (ap (λ (z : DriveAskParts). Some z.conn) same, ap (λ (z : DriveAskParts). Some z.info) same)

lun_by : (lun words : List ℕ) (names : List (List ℕ)) (i : LoginInfo) → info_by lun words names ≡ Some i → i.lun ≡ lun
lun_by lun words [] i e = absurd (none-some i e)
lun_by lun words (a ∷ []) i e = absurd (none-some i e)
lun_by lun words (a ∷ (b ∷ [])) i e = absurd (none-some i e)
lun_by lun words (a ∷ (b ∷ (c ∷ []))) i e = absurd (none-some i e)
lun_by lun words (a ∷ (b ∷ (c ∷ (d ∷ [])))) i e = absurd (none-some i e)
lun_by lun words (a ∷ (b ∷ (c ∷ (d ∷ (x ∷ []))))) i e = absurd (none-some i e)
lun_by lun words (a ∷ (b ∷ (c ∷ (d ∷ (x ∷ (y ∷ [])))))) i e = ap (λ (z : LoginInfo). z.lun) (sym (same_Some _ i e))
lun_by lun words (a ∷ (b ∷ (c ∷ (d ∷ (x ∷ (y ∷ (z ∷ names))))))) i e = absurd (none-some i e)

lun_of : (lun words : List ℕ) (o : Option (List (List ℕ))) (i : LoginInfo) → option_and_then (info_by lun words) o ≡ Some i → i.lun ≡ lun
lun_of lun words None i e = absurd (none-some i e)
lun_of lun words (Some names) i e = lun_by lun words names i e

asks_so : (bytes : List ℕ) (q : DriveAskParts) → drive_ask_in bytes ≡ Some q → (conn_ask_in (take 16 bytes) ≡ Some q.conn) × (length q.info.lun ≡ 8)
asks_so bytes q e = by (nat_le 56 (length bytes)) refl e
  where
    by : (b : Bool) → nat_le 56 (length bytes) ≡ b
        → (if b then drive_ask_by (conn_ask_in (take 16 bytes)) (option_and_then (info_by (take 8 (drop 16 bytes)) (words_of (take 32 (drop 24 bytes)))) (names_in 6 (drop 56 bytes))) else None) ≡ Some q
        → (conn_ask_in (take 16 bytes) ≡ Some q.conn) × (length q.info.lun ≡ 8)
    by false long h = absurd (none-some q h)
    by true long h =
        let y = ask_by (conn_ask_in (take 16 bytes)) (option_and_then (info_by (take 8 (drop 16 bytes)) (words_of (take 32 (drop 24 bytes)))) (names_in 6 (drop 56 bytes))) q h in
        let l = leb-true 56 (length bytes) long in
        let lun = lun_of (take 8 (drop 16 bytes)) (words_of (take 32 (drop 24 bytes))) (names_in 6 (drop 56 bytes)) q.info y.1 in
        (y.0, ap length lun ∙ length-take-le 8 (drop 16 bytes) (let z = length-drop 16 bytes in omega (arith, z, l)))

-- NOTHING HAS COME YET

phase_nothing : (isn : ℕ) → conn_phase isn [] ≡ asking []
unfolding conn_phase
phase_nothing isn = refl

held_begun : (isn : ℕ) (bytes : List ℕ) (now : ℕ) → held_after isn (text_came bytes now ∷ []) ≡ nothing_held
held_begun isn bytes now = ap held_in (phase-append isn [] (text_came bytes now) ∙ ap (λ p. after_tcp_call isn p (text_came bytes now)) (phase_nothing isn))

-- a connection that asks sends no text yet
none_asking : (isn : ℕ) (bytes : List ℕ) → said_sends (conn_phase isn []) bytes ≡ []
none_asking isn bytes = ap (λ z. said_sends z bytes) (phase_nothing isn) ∙ by bytes
  where
    by : (xs : List ℕ) → said_sends (asking []) xs ≡ []
    by [] = refl
    by (b ∷ xs) = refl

-- it has bytes
some_still : (xs : List ℕ) → 0 < length xs → 0 < length (xs ++ [])
some_still xs some = subst (λ z. 0 < length z) (sym (append-nil xs)) some

first_some : (i : LoginInfo) → 0 < length (login_said i [])
first_some i = some_still _ (login_some i _ 0)

-- the first request is all that is to be said
first_said : (i : LoginInfo) (isn now : ℕ) → (begun_talk (session_talker i) isn now).calls ≡ text_to_send (login_said i []) now
first_said i isn now =
    ap (λ (z : HeldBytes). text_to_send (session_says i (front z) false []) now) (ap held_in (phase_nothing isn)) ∙ ap (λ z. text_to_send z now) (append-nil (login_said i []))

module _ (c : DriveChain) (order : IsInOrder (three_of c)) (h : Objects Obj) (now rec : ℕ) (bytes : List ℕ) (ns : List Notice) (q : DriveAskParts) (found : drive_ask_in bytes ≡ Some q)
    (st : Started c order h now (Offers (port_at c.unit.0 0) (begin_said rec 0 bytes) ∷ []) ns [] [] []) where
  abbrev request : List ℕ
  request = login_said q.info []

  abbrev begun : Talk ReadTask
  begun = begun_talk (session_talker q.info) q.conn.isn now

  did_by : (u : UnitTalk) (r : SessionTalk) (p : Dialogue) → UnitTalksTo text_carrier unit_unasked (entries_of c.unit.0 st.deeds) u → SessionTalksTo text_carrier session_unasked (entries_of c.session.0 st.deeds) r
      → ConversesTo conn_carrier unopened (entries_of c.conn.0 st.deeds) p
      → BeginDid (call_of c order h now u r p) (suc (length st.deeds)) st.deeds q rec
  did_by u r p works talks converses = begin_walk (call_of c order h now u r p) (suc (length st.deeds)) st.deeds q rec bytes found (asks_so bytes q found).0 (st.walk unit_unasked u session_unasked r unopened p works talks converses)

  told_close : first_close (told_of st.deeds) ≡ first_close ns
  told_close = ap first_close st.told

  calls_are : begun.calls ≡ text_came request now ∷ []
  calls_are = first_said q.info q.conn.isn now ∙ text_is request now (first_some q.info)

  -- where nothing was closed all go on
  every : first_close ns ≡ None → (u : UnitTalk) (r : SessionTalk) (p : Dialogue) → UnitTalksTo text_carrier unit_unasked (entries_of c.unit.0 st.deeds) u → SessionTalksTo text_carrier session_unasked (entries_of c.session.0 st.deeds) r
      → ConversesTo conn_carrier unopened (entries_of c.conn.0 st.deeds) p
      → Goes q now [] (λ x. begun.calls) u r p
  every none u r p works talks converses = by (did_by u r p works talks converses)
    where
      by : BeginDid (call_of c order h now u r p) (suc (length st.deeds)) st.deeds q rec → Goes q now [] (λ x. begun.calls) u r p
      by (begin_fails f) = absurd (failed_closes (call_of c order h now u r p) st.deeds f (told_close ∙ none))
      by (begin_refused name u2 r2 p2 v zero w) = absurd (none-some _ (sym (told_close ∙ none) ∙ (walked w).2))
      by (begin_goes p2 told zero s owes w) =
          let t = walked w in
          let on : is_talking p2 ≡ true = s.talks in
          let at = home_at q.conn now p2 s.asked on (nothing_owed (lent_of p2) (owes on)) in
          record {
            come = [];
            reads = subst (λ z. Reads q [] [] z r) t.3 (subst (λ z. Reads q [] [] unit_waits z) t.4 (in_login [] refl refl));
            after = had p2;
            conn = sym t.5 ∙ at;
            called = ap tcp_calls s.grows ∙ s.calls refl ∙ sym calls_are;
            gave = ap delivered s.grows ∙ s.holds;
          }

  held_then : held_after q.conn.isn begun.calls ≡ nothing_held
  held_then = ap (held_after q.conn.isn) calls_are ∙ held_begun q.conn.isn request now

  goes_on : first_close ns ≡ None → StandsForSession q now begun c h
  goes_on none =
      stands_then c order h now (Offers (port_at c.unit.0 0) (begin_said rec 0 bytes) ∷ []) ns [] [] [] st q now begun (λ x. begun.calls) (every none) (λ x. refl) refl
      (ap has_ended held_then) (ap (λ z. is_refused (cut (front z)).rest) held_then) tt (asks_so bytes q found).1

  pub begin_comes : DriveBeginComes q c h rec now ns
  begin_comes = by (did_by st.work st.talk st.dialogue st.worked st.talked st.conversed)
    where
      by : BeginDid (call_of c order h now st.work st.talk st.dialogue) (suc (length st.deeds)) st.deeds q rec → DriveBeginComes q c h rec now ns
      by (begin_fails f) = begin_lacks_memory (sym told_close ∙ no_break st st.work st.talk f)
      by (begin_refused name u r p v zero w) =
          let t = walked w in
          begin_is_refused name zero (ap (λ z. messages_of (told_below c.unit.0 z)) (sym st.told) ∙ t.0) (ap (told_above c.unit.0) (sym st.told) ∙ t.1) (sym told_close ∙ t.2)
      by (begin_goes p told zero s owes w) =
          let t = walked w in
          let link : Link = link_of q.conn in
          let first = downs_for rec (starting_acts link) in
          let keeps : ConnKeeps link now (had p) = kept_at st.state p q.conn now (subst (IsConnAt st.state) (sym t.5) st.is_conn) s.asked in
          let is_calls : tcp_calls s.more ≡ text_calls (request ∷ []) now = s.calls refl ∙ sym (text_is request now (first_some q.info)) ∙ sym (append-nil (text_to_send request now)) in
          let silent : told ≡ [] =
          s.says ∙ texts_so link now rec now [] s.more [] (request ∷ []) (subst (EachConnEntry (AsksAsPromised link now) []) s.grows keeps.each) refl is_calls
          ∙ append-nil (sends_say link rec (said_sends (conn_phase q.conn.isn []) request)) ∙ ap (sends_say link rec) (none_asking q.conn.isn request) in
          let none : first_close ns ≡ None = sym told_close ∙ t.2 in
          begin_comes_so zero (ap (λ z. messages_of (told_below c.unit.0 z)) (sym st.told) ∙ t.0 ∙ ap (λ z. first ++ z) silent ∙ append-nil first) (ap (told_above c.unit.0) (sym st.told) ∙ t.1) none (goes_on none)
