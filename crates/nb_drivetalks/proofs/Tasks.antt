-- A task puts what its promise says, and the three go on.
use Rattle.std.proofs.Common.{◌≡◌, ℕ, suc, Bool, true, List, [], ◌∷◌, ◌++◌, length, drop, None, refl, sym, ap, ◌∙◌, subst, append-nil, arith}
use Rattle.std.proofs.lemmas.List.{drop_at}
use Rattle.std.proofs.lemmas.List.Concat.{flat_map-append}
use Rattle.nb_graph.specs.Deeds.{Offers, told_of}
use Rattle.nb_graph.specs.Whole.{Objects, port_at}
use Rattle.nb_ledger.specs.Flat.{Notice}
use Rattle.nb_iscsipdu.specs.Streams.{cut, is_refused}
use Rattle.nb_streams.specs.Flows.{TcpCall}
use Rattle.nb_streams.specs.Streams.{front, has_ended}
use Rattle.nb_tcp.specs.declared.link.Link.{Link}
use Rattle.nb_tcp.specs.ConnHistory.{ConnEntry, EachConnEntry, delivered, delivered_by, tcp_calls, tcp_calls_of}
use Rattle.nb_tcp.specs.ConnPromises.{AsksAsPromised, ConnKeeps}
use Rattle.nb_conns.specs.ConnAsks.{link_of}
use Rattle.nb_conns.specs.Dialogues.{ConversesTo, Dialogue, IsConnAt, is_talking, talking, unopened}
use Rattle.nb_drivechains.specs.declared.drive_chain.DriveChain.{DriveChain}
use Rattle.nb_drivechains.specs.DriveCalls.{read_said}
use Rattle.nb_drivechains.specs.DriveChains.{three_of}
use Rattle.nb_drivenodes.specs.DriveAsks.{DriveAskParts}
use Rattle.nb_drivenodes.specs.SessionTalks.{SessionTalk, SessionTalksTo, session_unasked}
use Rattle.nb_drivenodes.specs.UnitTalks.{UnitTalk, UnitTalksTo, unit_unasked}
use Rattle.nb_nodes.specs.declared.obj.Obj.{Obj}
use Rattle.nb_nodes.specs.Carriers.{conn_carrier, text_carrier}
use Rattle.nb_opens.specs.Entries.{entries_of}
use Rattle.nb_opens.specs.Notices.{first_close}
use Rattle.nb_sans.specs.Sessions.{ReadTask, session_says, session_talker}
use Rattle.nb_sans.specs.SessionSteps.{AreAskedBy}
use Rattle.nb_talks.specs.Talking.{Talk, by_task, come_of, ended_of, receives, said_in_all, talk_held, talks_on, text_calls, text_to_send, to_say, unsaid}
use Rattle.nb_talks.specs.TalkPromises.{phase_of, said_sends}
use Rattle.nb_talks.proofs.TalkLaws.{held_with_texts}
use Rattle.nb_webchains.specs.WebChains.{IsInOrder}
use Rattle.nb_webtalks.specs.Comings.{sends_say}
use Rattle.nb_webtalks.specs.Tellings.{messages_of}
use Rattle.nb_webtalks.proofs.Begins.{home_at, nothing_owed}
use Rattle.nb_webtalks.proofs.Coming.{kept_at}
use Rattle.nb_webtalks.proofs.Lowers.{had, lent_of}
use Rattle.nb_drivetalks.specs.Comings.{DriveTaskComes, task_comes_so, task_lacks_memory}
use Rattle.nb_drivetalks.specs.SessionStands.{StandsForSession}
use Rattle.nb_drivetalks.specs.Tellings.{told_above, told_below}
use Rattle.nb_drivetalks.proofs.Cames.{Reads}
use Rattle.nb_drivetalks.proofs.Spoken.{each_behind, texts_so}
use Rattle.nb_drivetalks.proofs.Standing.{Goes, Parted, failed_closes, no_break, parted, stands_then}
use Rattle.nb_drivetalks.proofs.Starting.{Started, call_of}
use Rattle.nb_drivetalks.proofs.Steps.{walked}
use Rattle.nb_drivetalks.proofs.Tasking.{TaskDid, task_does, task_fails, task_walk, with_task}

-- a task that is asked after all that has come
asked_more : (come : List ℕ) (tasks : List (ReadTask × ℕ)) (task : ReadTask) → AreAskedBy come tasks → AreAskedBy come (with_task tasks task come)
asked_more come [] task by = (omega arith, tt)
asked_more come (t ∷ tasks) task by = (by.0, asked_more come tasks task by.1)

module _ (c : DriveChain) (order : IsInOrder (three_of c)) (g h : Objects Obj) (now : ℕ) (ns : List Notice) (a : DriveAskParts) (start : ℕ) (d : Talk ReadTask) (s : StandsForSession a start d c g) (rec block count : ℕ)
    (so : said_in_all d.calls ≡ to_say (session_talker a.info) a.conn.isn d)
    (st : Started c order h now (Offers (port_at c.unit.0 0) (read_said rec block count) ∷ []) ns s.above s.between s.below) where
  abbrev task : ReadTask
  task = record { lba = block; blocks = count }

  abbrev come : List ℕ
  come = come_of a.conn.isn d

  abbrev heard : Talk ReadTask
  heard = receives a.conn.isn d (by_task task now)

  abbrev after : Talk ReadTask
  after = talks_on (session_talker a.info) a.conn.isn d (by_task task now)

  abbrev text_due : List ℕ
  text_due = unsaid (session_talker a.info) a.conn.isn heard

  abbrev calls_by : List ℕ → List TcpCall
  calls_by x = d.calls ++ text_calls (text_due ∷ []) now

  -- what it brings to be said
  unsaid_is : (text : List ℕ) → ((ended : Bool) → session_says a.info come ended (with_task d.tasks task come) ≡ session_says a.info come ended d.tasks ++ text) → text_due ≡ text
  unsaid_is text says =
      let before : List ℕ = to_say (session_talker a.info) a.conn.isn d in
      ap (λ z. drop (length z) (to_say (session_talker a.info) a.conn.isn heard)) so ∙ ap (drop (length before)) (says (ended_of a.conn.isn d)) ∙ drop_at before text (length before) refl

  text_calls_are : (text : List ℕ) → ((ended : Bool) → session_says a.info come ended (with_task d.tasks task come) ≡ session_says a.info come ended d.tasks ++ text) → text_to_send text now ≡ text_calls (text_due ∷ []) now
  text_calls_are text says = sym (append-nil (text_to_send text now)) ∙ ap (λ z. text_calls (z ∷ []) now) (sym (unsaid_is text says))

  parts : (u : UnitTalk) (r : SessionTalk) (p : Dialogue) → UnitTalksTo text_carrier unit_unasked (s.above ++ entries_of c.unit.0 st.deeds) u → SessionTalksTo text_carrier session_unasked (s.between ++ entries_of c.session.0 st.deeds) r
      → ConversesTo conn_carrier unopened (s.below ++ entries_of c.conn.0 st.deeds) p
      → Parted a start d (entries_of c.unit.0 st.deeds) (entries_of c.session.0 st.deeds) (entries_of c.conn.0 st.deeds) u r p
  parts u r p works talks converses = parted s (entries_of c.unit.0 st.deeds) (entries_of c.session.0 st.deeds) (entries_of c.conn.0 st.deeds) u r p works talks converses

  did_by : (u : UnitTalk) (r : SessionTalk) (p : Dialogue) (y : Parted a start d (entries_of c.unit.0 st.deeds) (entries_of c.session.0 st.deeds) (entries_of c.conn.0 st.deeds) u r p)
      → TaskDid (call_of c order h now u r p) (suc (length st.deeds)) st.deeds (talking a.conn start y.entries None) a d.tasks come task rec
  did_by u r p y =
      task_walk (call_of c order h now u r p) (suc (length st.deeds)) st.deeds (talking a.conn start y.entries None) a d.tasks come s.asked rec block count tt (λ on. refl) y.unit y.session y.reads
      (st.walk y.unit u y.session r (talking a.conn start y.entries None) p y.works y.talks y.converses)

  told_close : first_close (told_of st.deeds) ≡ first_close ns
  told_close = ap first_close st.told

  -- where nothing was closed all go on
  every : first_close ns ≡ None → (u : UnitTalk) (r : SessionTalk) (p : Dialogue) → UnitTalksTo text_carrier unit_unasked (s.above ++ entries_of c.unit.0 st.deeds) u
      → SessionTalksTo text_carrier session_unasked (s.between ++ entries_of c.session.0 st.deeds) r
      → ConversesTo conn_carrier unopened (s.below ++ entries_of c.conn.0 st.deeds) p → Goes a start after.tasks calls_by u r p
  every none u r p works talks converses = let y = parts u r p works talks converses in by y (did_by u r p y)
    where
      by : (y : Parted a start d (entries_of c.unit.0 st.deeds) (entries_of c.session.0 st.deeds) (entries_of c.conn.0 st.deeds) u r p)
          → TaskDid (call_of c order h now u r p) (suc (length st.deeds)) st.deeds (talking a.conn start y.entries None) a d.tasks come task rec
          → Goes a start after.tasks calls_by u r p
      by y (task_fails f) = absurd (failed_closes (call_of c order h now u r p) st.deeds f (told_close ∙ none))
      by y (task_does u2 r2 p2 told text reads says sp owes w) =
          let t = walked w in
          let on : is_talking p2 ≡ true = sp.talks in
          let at = home_at a.conn start p2 sp.asked on (nothing_owed (lent_of p2) (owes on)) in
          record {
            come = come;
            reads = subst (λ z. Reads a after.tasks come z r) t.3 (subst (λ z. Reads a after.tasks come u2 z) t.4 reads);
            after = had p2;
            conn = sym t.5 ∙ at;
            called = ap tcp_calls sp.grows ∙ flat_map-append (λ (x : ConnEntry). tcp_calls_of x.call) y.entries sp.more ∙ ap (λ z. tcp_calls y.entries ++ z) (sp.calls refl ∙ text_calls_are text says) ∙ ap (λ z. z ++ text_calls (text_due ∷ []) now) y.called;
            gave = ap delivered sp.grows ∙ flat_map-append (λ (x : ConnEntry). delivered_by x.call) y.entries sp.more ∙ ap (λ z. delivered y.entries ++ z) sp.holds ∙ append-nil (delivered y.entries) ∙ y.gave;
          }

  held_then : talk_held a.conn.isn after ≡ talk_held a.conn.isn d
  held_then = held_with_texts a.conn.isn d.calls (text_due ∷ []) now

  goes_on : first_close ns ≡ None → StandsForSession a start after c h
  goes_on none =
      stands_then c order h now (Offers (port_at c.unit.0 0) (read_said rec block count) ∷ []) ns s.above s.between s.below st a start after calls_by (every none) (λ x. refl) refl
      (ap has_ended held_then ∙ s.unended) (ap (λ z. is_refused (cut (front z)).rest) held_then ∙ s.whole) (subst (λ z. AreAskedBy (front z) after.tasks) (sym held_then) (asked_more come d.tasks task s.asked)) s.lun

  pub task_comes : DriveTaskComes a start d c h task rec now ns
  task_comes = let y = parts st.work st.talk st.dialogue st.worked st.talked st.conversed in by y (did_by st.work st.talk st.dialogue y)
    where
      by : (y : Parted a start d (entries_of c.unit.0 st.deeds) (entries_of c.session.0 st.deeds) (entries_of c.conn.0 st.deeds) st.work st.talk st.dialogue)
          → TaskDid (call_of c order h now st.work st.talk st.dialogue) (suc (length st.deeds)) st.deeds (talking a.conn start y.entries None) a d.tasks come task rec → DriveTaskComes a start d c h task rec now ns
      by y (task_fails f) = task_lacks_memory (sym told_close ∙ no_break st st.work st.talk f)
      by y (task_does u r p told text reads says sp owes w) =
          let t = walked w in
          let link : Link = link_of a.conn in
          let keeps : ConnKeeps link start (had p) = kept_at st.state p a.conn start (subst (IsConnAt st.state) (sym t.5) st.is_conn) sp.asked in
          let each = each_behind (AsksAsPromised link start) [] y.entries sp.more (subst (EachConnEntry (AsksAsPromised link start) []) sp.grows keeps.each) in
          let none : first_close ns ≡ None = sym told_close ∙ t.2 in
          task_comes_so
          (ap (λ z. messages_of (told_below c.unit.0 z)) (sym st.told) ∙ t.0 ∙ sp.says ∙ texts_so link start rec now y.entries sp.more d.calls (text_due ∷ []) each y.called (sp.calls refl ∙ text_calls_are text says)
          ∙ append-nil (sends_say link rec (said_sends (phase_of a.conn.isn heard) text_due)))
          (ap (told_above c.unit.0) (sym st.told) ∙ t.1) none (goes_on none)
