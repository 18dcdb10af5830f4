-- A time puts what the plan fires that runs; the three go on, or have ended.
use Rattle.std.proofs.Common.{◌≡◌, ℕ, suc, Bool, true, false, List, [], ◌∷◌, ◌++◌, length, Some, None, refl, sym, ap, ◌∙◌, subst, append_assoc, append-nil}
use Rattle.std.proofs.lemmas.List.Concat.{flat_map-append}
use Rattle.std.proofs.lemmas.Option.{none-some}
use Rattle.nb_terms.specs.declared.acts.Acts.{Acts}
use Rattle.nb_graph.specs.Deeds.{Ticks, told_of}
use Rattle.nb_graph.specs.Trace.{Said}
use Rattle.nb_graph.specs.Whole.{Objects}
use Rattle.nb_ledger.specs.Flat.{Notice}
use Rattle.nb_retry.specs.declared.plan.Plan.{Plan}
use Rattle.nb_retry.specs.declared.retry.Due.{Due}
use Rattle.nb_retry.specs.declared.retry.Due.TheVariants.{Not, Again, Over}
use Rattle.nb_iscsipdu.specs.Streams.{cut, is_refused}
use Rattle.nb_streams.specs.Endings.{due_end}
use Rattle.nb_streams.specs.Flows.{TcpCall, ConnPhase, conn_phase, held_after, time_came}
use Rattle.nb_streams.specs.Streams.{front, has_ended}
use Rattle.nb_streams.specs.Trying.{due_fired, fired, timer_after}
use Rattle.nb_tcp.specs.declared.link.Link.{Link}
use Rattle.nb_tcp.specs.ConnHistory.{ConnEntry, EachConnEntry, calls_in, conn_entry, delivered, delivered_by, due_said, is_waiting_after, tcp_calls, tcp_calls_of}
use Rattle.nb_tcp.specs.ConnPromises.{AsksAsPromised, ConnKeeps, due_asks}
use Rattle.nb_tcp.proofs.ConnHistoryLemmas.{calls-append, delivered-append}
use Rattle.nb_tcp.proofs.ConnLaws.{held_stays}
use Rattle.nb_conns.specs.ConnAsks.{link_of}
use Rattle.nb_conns.specs.ConnEffects.{downs_for}
use Rattle.nb_conns.specs.Dialogues.{ConversesTo, Dialogue, IsConnAt, is_talking, talked_on, talking, unopened}
use Rattle.nb_drivechains.specs.declared.drive_chain.DriveChain.{DriveChain}
use Rattle.nb_drivechains.specs.DriveChains.{three_of}
use Rattle.nb_drivenodes.specs.DriveAsks.{DriveAskParts}
use Rattle.nb_drivenodes.specs.SessionTalks.{SessionTalk, SessionTalksTo, session_unasked}
use Rattle.nb_drivenodes.specs.UnitTalks.{UnitTalk, UnitTalksTo, unit_unasked}
use Rattle.nb_nodes.specs.declared.obj.Obj.{Obj}
use Rattle.nb_nodes.specs.Carriers.{conn_carrier, text_carrier}
use Rattle.nb_opens.specs.Entries.{entries_of}
use Rattle.nb_opens.specs.Notices.{first_close}
use Rattle.nb_sans.specs.Sessions.{ReadTask, session_end, session_talker}
use Rattle.nb_sans.specs.SessionSteps.{AreAskedBy}
use Rattle.nb_talks.specs.Talking.{Talk, by_time, come_of, talks_on}
use Rattle.nb_talks.specs.TalkPromises.{due_sends}
use Rattle.nb_webchains.specs.WebChains.{IsInOrder}
use Rattle.nb_webtalks.specs.Comings.{sends_say}
use Rattle.nb_webtalks.specs.Tellings.{messages_of}
use Rattle.nb_webtalks.proofs.Begins.{home_at, nothing_owed}
use Rattle.nb_webtalks.proofs.Coming.{each_at, kept_at}
use Rattle.nb_webtalks.proofs.Lowers.{asked_at, had, lent_of}
use Rattle.nb_webtalks.proofs.Segments.{asked_then, had_then}
use Rattle.nb_drivetalks.specs.Comings.{DriveTimeComes, handed_up, time_comes_so, time_lacks_memory}
use Rattle.nb_drivetalks.specs.SessionStands.{StandsForSession}
use Rattle.nb_drivetalks.specs.Tellings.{told_above, told_below}
use Rattle.nb_drivetalks.proofs.Cames.{Reads}
use Rattle.nb_drivetalks.proofs.Entering.{TimeDid, time_does, time_fails, time_walk}
use Rattle.nb_drivetalks.proofs.Handing.{HandsOn, handed_all, handed_first, handed_none}
use Rattle.nb_drivetalks.proofs.Reading.{reads_on}
use Rattle.nb_drivetalks.proofs.Rising.{CallDid, did_break, did_end, did_fail, did_go}
use Rattle.nb_drivetalks.proofs.Standing.{Goes, Parted, failed_closes, no_break, parted, stands_then}
use Rattle.nb_drivetalks.proofs.Starting.{Started, call_of}
use Rattle.nb_drivetalks.proofs.Steps.{walked}
use Rattle.nb_drivetalks.proofs.Talks.{Speaks, silent_told}

-- what is due asks
due_says : (l : Link) (p : ConnPhase) (waits : Bool) (plan : Plan) (due : Due) → downs_for 0 (due_asks l p waits plan due) ≡ sends_say l 0 (due_sends l.isn p due)
due_says l p waits plan Not = refl
due_says l p waits plan (Again n) = refl
due_says l p waits plan Over = refl

due_overs : (l : Link) (p : ConnPhase) (waits : Bool) (plan : Plan) (due : Due) → (due_asks l p waits plan due).over ≡ due_end plan due
due_overs l p waits plan Not = refl
due_overs l p waits plan (Again n) = refl
due_overs l p waits plan Over = refl

-- nothing came besides
quiet_told : (rec : ℕ) (d q : Dialogue) (told : List Said) (s : Speaks rec [] d q told) → (tcp_calls s.more ≡ []) × (told ≡ [])
quiet_told rec d q told s = let none = by (is_talking d) refl in (none, s.says ∙ silent_told rec s.more none)
  where
    by : (b : Bool) → is_talking d ≡ b → tcp_calls s.more ≡ []
    by true on = s.calls on
    by false off = s.silent off

module _ (c : DriveChain) (order : IsInOrder (three_of c)) (g h : Objects Obj) (now : ℕ) (ns : List Notice) (a : DriveAskParts) (start : ℕ) (d : Talk ReadTask) (s : StandsForSession a start d c g)
    (st : Started c order h now (Ticks c.conn.0 ∷ []) ns s.above s.between s.below) where
  parts : (u : UnitTalk) (r : SessionTalk) (p : Dialogue) → UnitTalksTo text_carrier unit_unasked (s.above ++ entries_of c.unit.0 st.deeds) u → SessionTalksTo text_carrier session_unasked (s.between ++ entries_of c.session.0 st.deeds) r
      → ConversesTo conn_carrier unopened (s.below ++ entries_of c.conn.0 st.deeds) p
      → Parted a start d (entries_of c.unit.0 st.deeds) (entries_of c.session.0 st.deeds) (entries_of c.conn.0 st.deeds) u r p
  parts u r p works talks converses = parted s (entries_of c.unit.0 st.deeds) (entries_of c.session.0 st.deeds) (entries_of c.conn.0 st.deeds) u r p works talks converses

  did_by : (u : UnitTalk) (r : SessionTalk) (p : Dialogue) (y : Parted a start d (entries_of c.unit.0 st.deeds) (entries_of c.session.0 st.deeds) (entries_of c.conn.0 st.deeds) u r p)
      → TimeDid (call_of c order h now u r p) (suc (length st.deeds)) st.deeds a.conn start y.entries a d.tasks (come_of a.conn.isn d)
  did_by u r p y =
      let there : Dialogue = talking a.conn start y.entries None in
      time_walk (call_of c order h now u r p) (suc (length st.deeds)) st.deeds a d.tasks s.lun (come_of a.conn.isn d) s.whole s.asked a.conn start y.entries y.unit y.session y.reads
      (st.walk y.unit u y.session r there p y.works y.talks y.converses) (st.lives y.unit u y.session r there p y.works y.talks y.converses)

  told_close : first_close (told_of st.deeds) ≡ first_close ns
  told_close = ap first_close st.told

  -- where nothing was closed all go on
  every : first_close ns ≡ None → (u : UnitTalk) (r : SessionTalk) (p : Dialogue) → UnitTalksTo text_carrier unit_unasked (s.above ++ entries_of c.unit.0 st.deeds) u
      → SessionTalksTo text_carrier session_unasked (s.between ++ entries_of c.session.0 st.deeds) r
      → ConversesTo conn_carrier unopened (s.below ++ entries_of c.conn.0 st.deeds) p → Goes a start d.tasks (λ _. (d.calls ++ time_came now ∷ []) ++ []) u r p
  every none u r p works talks converses = let y = parts u r p works talks converses in by y (did_by u r p y)
    where
      by : (y : Parted a start d (entries_of c.unit.0 st.deeds) (entries_of c.session.0 st.deeds) (entries_of c.conn.0 st.deeds) u r p)
          → TimeDid (call_of c order h now u r p) (suc (length st.deeds)) st.deeds a.conn start y.entries a d.tasks (come_of a.conn.isn d)
          → Goes a start d.tasks (λ _. (d.calls ++ time_came now ∷ []) ++ []) u r p
      by y (time_fails f) = absurd (failed_closes (call_of c order h now u r p) st.deeds f (told_close ∙ none))
      by y (time_does acts (did_fail f)) = absurd (failed_closes (call_of c order h now u r p) st.deeds f (told_close ∙ none))
      by y (time_does acts (did_end x u2 r2 p2 q net said told more v ends sp hands closing w)) = absurd (none-some x (sym (told_close ∙ none) ∙ (walked w).2))
      by y (time_does acts (did_break x u2 r2 p2 said more over off reads whole sp hands w)) = absurd (none-some x (sym (told_close ∙ none) ∙ (walked w).2))
      by y (time_does acts (did_go u2 r2 p2 said more over off reads whole sp hands owes w)) =
          let t = walked w in
          let e : ConnEntry = conn_entry (calls_in (time_came now)) acts in
          let here = y.entries ++ e ∷ [] in
          let left : talked_on a.conn start here None acts.over ≡ talking a.conn start here None = ap (talked_on a.conn start here None) over in
          let on : is_talking p2 ≡ true = sp.talks ∙ ap is_talking left in
          let at = home_at a.conn start p2 (sp.asked ∙ ap asked_at left) on (nothing_owed (lent_of p2) (owes on)) in
          let grows : had p2 ≡ here ++ sp.more = sp.grows ∙ ap (λ z. had z ++ sp.more) left in
          let quiet = quiet_told 0 (talked_on a.conn start here None acts.over) p2 said sp in
          record {
            come = come_of a.conn.isn d;
            reads = subst (λ z. Reads a d.tasks z u r) (append-nil (come_of a.conn.isn d)) (subst (λ z. Reads a d.tasks (come_of a.conn.isn d ++ []) z r) t.3 (subst (λ z. Reads a d.tasks (come_of a.conn.isn d ++ []) u2 z) t.4 reads));
            after = had p2;
            conn = sym t.5 ∙ at;
            called = ap tcp_calls grows ∙ flat_map-append (λ (x : ConnEntry). tcp_calls_of x.call) here sp.more ∙ ap (λ z. tcp_calls here ++ z) quiet.0 ∙ ap (λ z. z ++ []) (calls-append y.entries e ∙ ap (λ z. z ++ time_came now ∷ []) y.called);
            gave = ap delivered grows ∙ flat_map-append (λ (x : ConnEntry). delivered_by x.call) here sp.more ∙ ap (λ z. delivered here ++ z) sp.holds ∙ append-nil (delivered here) ∙ delivered-append y.entries e ∙ append-nil (delivered y.entries) ∙ y.gave;
          }

  module _ (entries : List ConnEntry) (called : tcp_calls entries ≡ d.calls) (acts : Acts) where
    -- the stream is as it was
    held_same : held_after a.conn.isn ((d.calls ++ time_came now ∷ []) ++ []) ≡ held_after a.conn.isn d.calls
    held_same =
        let e : ConnEntry = conn_entry (calls_in (time_came now)) acts in
        ap (held_after a.conn.isn) (append-nil (d.calls ++ time_came now ∷ []) ∙ ap (λ z. z ++ time_came now ∷ []) (sym called) ∙ sym (calls-append entries e))
        ∙ held_stays (link_of a.conn) entries (calls_in (time_came now)) acts (λ m other e. absurd (let z = e in cc)) ∙ ap (held_after a.conn.isn) called

    goes_on : first_close ns ≡ None → StandsForSession a start (talks_on (session_talker a.info) a.conn.isn d (by_time now)) c h
    goes_on none =
        stands_then c order h now (Ticks c.conn.0 ∷ []) ns s.above s.between s.below st a start (talks_on (session_talker a.info) a.conn.isn d (by_time now)) (λ _. (d.calls ++ time_came now ∷ []) ++ []) (every none) (λ come. refl) refl
        (ap has_ended held_same ∙ s.unended) (ap (λ z. is_refused (cut (front z)).rest) held_same ∙ s.whole) (subst (λ z. AreAskedBy (front z) d.tasks) (sym held_same) s.asked) s.lun

    -- what it asked is what is due
    time_so : (p : Dialogue) (more : List ConnEntry) → p ≡ st.dialogue → asked_at p ≡ Some (a.conn, start) → had p ≡ (entries ++ conn_entry (calls_in (time_came now)) acts ∷ []) ++ more
        → messages_of (told_below c.unit.0 (told_of st.deeds)) ≡ downs_for 0 acts → told_above c.unit.0 (told_of st.deeds) ≡ [] → first_close ns ≡ acts.over
        → DriveTimeComes a start d c h now ns
    time_so p more at asked had_is says hands close =
        let entry : ConnEntry = conn_entry (calls_in (time_came now)) acts in
        let keeps : ConnKeeps (link_of a.conn) start (had p) = kept_at st.state p a.conn start (subst (IsConnAt st.state) (sym at) st.is_conn) asked in
        let y = each_at (AsksAsPromised (link_of a.conn) start) [] entries entry more (subst (EachConnEntry (AsksAsPromised (link_of a.conn) start) []) (had_is ∙ append_assoc entries (entry ∷ []) more) keeps.each) in
        let due : Due = due_said acts in
        let plan : List TcpCall → Plan = λ z. (timer_after a.conn.isn start z).plan in
        let so : acts ≡ due_asks (link_of a.conn) (conn_phase a.conn.isn d.calls) (is_waiting_after entries) (plan d.calls) due = y.0 ∙ ap (λ z. due_asks (link_of a.conn) (conn_phase a.conn.isn z) (is_waiting_after entries) (plan z) due) called in
        time_comes_so due
        (ap (λ z. fired (timer_after a.conn.isn start (z ++ time_came now ∷ []))) (sym called) ∙ y.1 ∙ ap (λ z. fired (timer_after a.conn.isn start z) ++ due_fired now due) called)
        (ap (λ z. messages_of (told_below c.unit.0 z)) (sym st.told) ∙ says ∙ ap (downs_for 0) so ∙ due_says (link_of a.conn) (conn_phase a.conn.isn d.calls) (is_waiting_after entries) (plan d.calls) due)
        (ap (told_above c.unit.0) (sym st.told) ∙ hands)
        (close ∙ ap (λ (z : Acts). z.over) so ∙ due_overs (link_of a.conn) (conn_phase a.conn.isn d.calls) (is_waiting_after entries) (plan d.calls) due)
        goes_on

    -- what the calls of the drive that this adds hand up is nothing
    hands_nothing : (more : List Said) → HandsOn 0 a.info d.tasks (come_of a.conn.isn d) (come_of a.conn.isn d ++ []) [] more → more ≡ []
    hands_nothing more hands =
        let come = come_of a.conn.isn d in
        handed_all 0 a.info d.tasks come (come ++ []) more (hands come (handed_first 0 a.info d.tasks come)) ∙ ap (λ z. handed_up 0 a.info come z d.tasks) (append-nil come) ∙ handed_none 0 a.info d.tasks come

    came_of : (y : Parted a start d (entries_of c.unit.0 st.deeds) (entries_of c.session.0 st.deeds) (entries_of c.conn.0 st.deeds) st.work st.talk st.dialogue)
        → CallDid (call_of c order h now st.work st.talk st.dialogue) (suc (length st.deeds)) st.deeds (talked_on a.conn start (entries ++ conn_entry (calls_in (time_came now)) acts ∷ []) None acts.over) acts.over (downs_for 0 acts) [] a 0 d.tasks (come_of a.conn.isn d) [] false
        → DriveTimeComes a start d c h now ns
    came_of y (did_fail f) = time_lacks_memory (sym told_close ∙ no_break st st.work st.talk f)
    came_of y (did_end x u2 r2 p2 q net said told more v ends sp hands closing w) =
        absurd (none-some x (sym (ap (λ z. session_end 0 a.info z false d.tasks) (append-nil (come_of a.conn.isn d)) ∙ reads_on 0 a d.tasks (come_of a.conn.isn d) y.unit y.session y.reads s.whole) ∙ ends))
    came_of y (did_go u2 r2 p2 said more over off reads whole sp hands owes w) =
        let t = walked w in
        let here = entries ++ conn_entry (calls_in (time_came now)) acts ∷ [] in
        let quiet = quiet_told 0 (talked_on a.conn start here None acts.over) p2 said sp in
        time_so p2 sp.more t.5 (sp.asked ∙ asked_then a.conn start here None acts.over) (sp.grows ∙ ap (λ z. z ++ sp.more) (had_then a.conn start here None acts.over)) (t.0 ∙ ap (λ z. downs_for 0 acts ++ z) quiet.1 ∙ append-nil (downs_for 0 acts)) (t.1 ∙ hands_nothing more hands) (sym told_close ∙ t.2 ∙ sym over)
    came_of y (did_break x u2 r2 p2 said more over off reads whole sp hands w) =
        let t = walked w in
        let here = entries ++ conn_entry (calls_in (time_came now)) acts ∷ [] in
        let quiet = quiet_told 0 (talked_on a.conn start here None acts.over) p2 said sp in
        time_so p2 sp.more t.5 (sp.asked ∙ asked_then a.conn start here None acts.over) (sp.grows ∙ ap (λ z. z ++ sp.more) (had_then a.conn start here None acts.over)) (t.0 ∙ ap (λ z. downs_for 0 acts ++ z) quiet.1 ∙ append-nil (downs_for 0 acts)) (t.1 ∙ hands_nothing more hands) (sym told_close ∙ t.2 ∙ sym over)

  pub time_comes : DriveTimeComes a start d c h now ns
  time_comes = let y = parts st.work st.talk st.dialogue st.worked st.talked st.conversed in by y (did_by st.work st.talk st.dialogue y)
    where
      by : (y : Parted a start d (entries_of c.unit.0 st.deeds) (entries_of c.session.0 st.deeds) (entries_of c.conn.0 st.deeds) st.work st.talk st.dialogue)
          → TimeDid (call_of c order h now st.work st.talk st.dialogue) (suc (length st.deeds)) st.deeds a.conn start y.entries a d.tasks (come_of a.conn.isn d)
          → DriveTimeComes a start d c h now ns
      by y (time_fails f) = time_lacks_memory (sym told_close ∙ no_break st st.work st.talk f)
      by y (time_does acts did) = came_of y.entries y.called acts y did
