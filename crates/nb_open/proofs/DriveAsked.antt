-- A read that is asked of a drive is at work then, where the drive takes it; else nothing has changed.
use Rattle.std.proofs.Common.{◌≡◌, ◌≤◌, ℕ, ◌+◌, ◌*◌, ◌&&◌, Bool, true, false, not, cond, nat_lt, nat_le, List, [], ◌∷◌, ◌++◌, length, Option, Some, None, refl, sym, ap, ◌∙◌, subst, append-nil, arith}
use Rattle.std.specs.Option.{is_some, option_map}
use Rattle.nb_chains.specs.Chains.{AreChained}
use Rattle.nb_disk.specs.DiskAnswers.{session_has_ended as drive_has_ended, opened_of}
use Rattle.nb_disk.specs.DiskStands.{IsIdleDisk, IsReadingDisk, is_out_of}
use Rattle.nb_disk.specs.Histories.{DiskCall, DiskReading, SessionNumbers, after_call, asked, at_work, capacity_read, nothing_read, reading}
use Rattle.nb_disk.proofs.WorkLemmas.{at-idle, at-reading, at-sizing, at-testing, size-ready, size-sized, size-testing}
use Rattle.nb_drivechains.specs.declared.drive_chain.DriveChain.{DriveChain}
use Rattle.nb_drivechains.specs.DriveChains.{drive_ids, three_of}
use Rattle.nb_drivenodes.specs.declared.logical_unit.LogicalUnit.{LogicalUnit}
use Rattle.nb_drivenodes.specs.UnitTalks.{UnitStands, UnitTalk, unit_cut, unit_over, unit_unasked, unit_waits, unit_works}
use Rattle.nb_drivetalks.specs.SessionStands.{HasWorked}
use Rattle.nb_drivetalks.proofs.DriveParts.{HasHad, lives_by}
use Rattle.nb_frames.proofs.OwnCallLemmas.{node_own}
use Rattle.nb_frames.proofs.OwnLemmas.{are_there}
use Rattle.nb_graph.specs.Trace.{NodeEntry}
use Rattle.nb_graph.specs.Whole.{Objects, node_at}
use Rattle.nb_iscsipdu.specs.declared.command.Command.{Command}
use Rattle.nb_iscsipdu.specs.declared.command.Command.TheVariants.{TestUnitReady, ReadCapacity, Read}
use Rattle.nb_login.specs.declared.info.LoginInfo.{LoginInfo}
use Rattle.nb_login.specs.declared.session.Session.{Session}
use Rattle.nb_nodes.specs.declared.load.Load.{Load}
use Rattle.nb_nodes.specs.declared.obj.Obj.{Obj}
use Rattle.nb_nodes.specs.declared.obj.Obj.TheVariants as obj
use Rattle.nb_nodes.specs.Carriers.{text_carrier}
use Rattle.nb_nodes.specs.Objects.{is_handed, mark_of_obj}
use Rattle.nb_nodes.specs.Standing.{ObjStands}
use Rattle.nb_sans.specs.Sessions.{ReadTask, TaskAnswer, drive_calls, drive_comes, read_by, session_come, session_reading, session_talker, takes_read}
use Rattle.nb_sans.proofs.SessionSteps.{task_call}
use Rattle.nb_streams.specs.Streams.{front}
use Rattle.nb_talks.specs.Talking.{Talk, by_task, come_of, talk_held, talks_on, texts_for}
use Rattle.nb_talks.proofs.TalkLaws.{held_with_texts}
use Rattle.nb_webchains.specs.WebChains.{web_graph}
use Rattle.nb_webchains.proofs.Three.{fetch_in}
use Rattle.nb_wire.specs.declared.address.Ip4.{Ip4}
use Rattle.nb_machine.specs.Drives.{DriveAnswer, input_to_session, drive_answer, session_answer, session_of}
use Rattle.nb_machine.specs.Kinds.{answered, answered_by}
use Rattle.nb_machine.specs.Lives.{Exchange, Live, continued, iscsi}
use Rattle.nb_open.specs.DriveAnswers.{AsksAfter, bytes_by, bytes_of_read, bytes_so_far, is_read, is_reading, reads_by, takes_task, with_none_last, would_take}
use Rattle.nb_open.specs.Open.{IsTalkingDrive, session_ask}
use Rattle.nb_open.proofs.DiskAnswering.{Phase, asked_reads, bytes_of, is_idle, is_reading as phase_reading, is_sizing, is_testing, last_of, phase_first, reads_of, unread_yet}
use Rattle.nb_open.proofs.DriveAsides.{session_more}
use Rattle.nb_open.proofs.DriveReading.{lives_over}
use Rattle.nb_open.proofs.UnitAnswering.{reading_more}
use Rattle.nb_open.proofs.UnitEnding.{idle_takes, phase_taken}

-- THE UNIT

low_mark : (handed : Bool) (k : ℕ) → cond handed 1 0 ≡ k → 2 ≤ k → ⊥
low_mark true k e two = omega (arith, e, two)
low_mark false k e two = omega (arith, e, two)

unit_node : (n : Obj) (t : List (NodeEntry Obj Load)) → mark_of_obj n ≡ 9 → ObjStands n t → (p : LogicalUnit) × UnitStands text_carrier p t
unit_node (obj.Fetch f) t m s = absurd (low_mark (is_handed f) 9 m (omega arith))
unit_node (obj.Tftp p) t m s = absurd (omega (arith, m))
unit_node (obj.Resolver p) t m s = absurd (omega (arith, m))
unit_node (obj.Dhcp p) t m s = absurd (omega (arith, m))
unit_node (obj.Ping p) t m s = absurd (omega (arith, m))
unit_node (obj.Http p) t m s = absurd (omega (arith, m))
unit_node (obj.Tcp p) t m s = absurd (omega (arith, m))
unit_node (obj.Iscsi p) t m s = absurd (omega (arith, m))
unit_node (obj.Disk p) t m s = (p.value, s)

-- no session is open, or one is whose drive goes on
data IsAlive (i : LoginInfo) (come : List ℕ) (tasks : List (ReadTask × ℕ)) : Type 0 where
  no_session : session_come 0 i come ≡ None → IsAlive i come tasks
  in_session : (s : Session) → session_come 0 i come ≡ Some s → drive_has_ended (opened_of s) (drive_calls 0 i come tasks s) ≡ false → IsAlive i come tasks

-- WHAT A DRIVE TAKES

and_false : (b : Bool) → (b && false) ≡ false
and_false true = refl
and_false false = refl

abbrev takes_by : Option Command → Option ℕ → ReadTask → Bool
takes_by w size t = (nat_lt 0 t.blocks && nat_le t.blocks 64) && (not (is_out_of size t.lba t.blocks) && not (is_some w))

-- before its capacity is known it takes nothing
none_taken : (w : Command) (t : ReadTask) → takes_by (Some w) None t ≡ false
none_taken w t = and_false (nat_lt 0 t.blocks && nat_le t.blocks 64)

taking : (t : ReadTask) (r : DiskReading) (w : Option Command) (size : Option ℕ) → at_work r ≡ w → capacity_read r ≡ size → takes_by w size t ≡ would_take (is_read w) t size → takes_read r t.lba t.blocks ≡ would_take (reads_of r) t (capacity_read r)
taking t r w size at known same =
    ap (λ z. takes_by z (capacity_read r) t) at ∙ (ap (λ z. takes_by w z t) known ∙ (same ∙ (sym (ap (λ z. would_take (is_read z) t size) at) ∙ sym (ap (λ z. would_take (reads_of r) t z) known))))

takes_same : (t : ReadTask) (r : DiskReading) → Phase r → takes_read r t.lba t.blocks ≡ would_take (reads_of r) t (capacity_read r)
takes_same t r (is_testing checks is) = taking t r (Some TestUnitReady) None (at-testing r checks is) (size-testing r checks is) (none_taken TestUnitReady t)
takes_same t r (is_sizing size is) = taking t r (Some ReadCapacity) None (at-sizing r size is) (size-ready r [] is.ready) (none_taken ReadCapacity t)
takes_same t r (is_idle capacity is) = taking t r None (Some capacity) (at-idle r capacity is) (size-sized r capacity is.done is.sized) refl
takes_same t r (phase_reading capacity wanted got is) = taking t r (Some (Read is.last.0 is.last.1)) (Some capacity) (at-reading r capacity wanted got is) (size-sized r capacity is.done is.sized) refl

-- what it has read once it has taken one
record Taken (r q : DiskReading) : Type 0 where
  size : capacity_read q ≡ capacity_read r
  last : last_of q ≡ None
  bytes : bytes_of q ≡ []
  reads : reads_of q ≡ true

taken_idle : (o : SessionNumbers) (r : DiskReading) (lba n capacity : ℕ) → IsIdleDisk r capacity → Taken r (after_call o r (asked lba n))
taken_idle o r lba n capacity is =
    let q = after_call o r (asked lba n) in
    let then : IsReadingDisk q capacity (512 * n) 0 = asked_reads o r lba n capacity is in
    let at = at-reading q capacity (512 * n) 0 then in
    record { size = refl; last = unread_yet q capacity (512 * n) 0 then; bytes = ap (bytes_of_read q) at ∙ is.none; reads = ap is_read at }

taken_reads : (o : SessionNumbers) (r : DiskReading) (lba n : ℕ) → Phase r → at_work r ≡ None → Taken r (after_call o r (asked lba n))
taken_reads o r lba n (is_testing checks is) none = absurd (let z : None ≡ Some TestUnitReady = sym none ∙ at-testing r checks is in cc)
taken_reads o r lba n (is_sizing size is) none = absurd (let z : None ≡ Some ReadCapacity = sym none ∙ at-sizing r size is in cc)
taken_reads o r lba n (is_idle capacity is) none = taken_idle o r lba n capacity is
taken_reads o r lba n (phase_reading capacity wanted got is) none = absurd (let z : None ≡ Some (Read is.last.0 is.last.1) = sym none ∙ at-reading r capacity wanted got is in cc)

-- WHAT IT HAS ANSWERED

-- by what had been read before and what has been then
module _ (t : ReadTask) (l after : Live) (chap : Option ℕ) (r q : DiskReading) (was : answered l ≡ drive_answer l.server chap (capacity_read r) (last_of r)) (is : answered after ≡ drive_answer l.server chap (capacity_read q) (last_of q))
    (had : bytes_so_far l ≡ bytes_of r) (has : bytes_so_far after ≡ bytes_of q) (held : is_reading l ≡ reads_of r) (holds : is_reading after ≡ reads_of q) where
  not_taken : q ≡ r → takes_task t l ≡ false → AsksAfter t l after
  not_taken same off = record {
    answer = (is ∙ (ap (λ (z : DiskReading). drive_answer l.server chap (capacity_read z) (last_of z)) same ∙ sym was)) ∙ sym (ap (λ b. cond b (option_map with_none_last (answered l)) (answered l)) off);
    bytes = (has ∙ (ap bytes_of same ∙ sym had)) ∙ sym (ap (λ b. cond b [] (bytes_so_far l)) off);
    reading = (holds ∙ (ap reads_of same ∙ sym held)) ∙ sym (ap (λ b. cond b true (is_reading l)) off);
  }

  none_last_of : (size : Option ℕ) (last : Option TaskAnswer) → drive_answer l.server chap size None ≡ option_map with_none_last (drive_answer l.server chap size last)
  none_last_of size last = by chap size
    where
      by : (c size : Option ℕ) → drive_answer l.server c size None ≡ option_map with_none_last (drive_answer l.server c size last)
      by None size = refl
      by (Some n) None = refl
      by (Some n) (Some k) = refl

  now_taken : Taken r q → takes_task t l ≡ true → AsksAfter t l after
  now_taken k on = record {
    answer = (is ∙ (ap (λ z. drive_answer l.server chap z (last_of q)) k.size ∙ (ap (drive_answer l.server chap (capacity_read r)) k.last ∙ (none_last_of (capacity_read r) (last_of r) ∙ ap (option_map with_none_last) (sym was)))))
        ∙ sym (ap (λ b. cond b (option_map with_none_last (answered l)) (answered l)) on);
    bytes = (has ∙ k.bytes) ∙ sym (ap (λ b. cond b [] (bytes_so_far l)) on);
    reading = (holds ∙ k.reads) ∙ sym (ap (λ b. cond b true (is_reading l)) on);
  }

  -- what it would take, by what it has read
  size_of : (n : ℕ) → chap ≡ Some n → option_map (λ (a : DriveAnswer). a.capacity) (answered l) ≡ capacity_read r
  size_of n e = ap (option_map (λ (a : DriveAnswer). a.capacity)) (was ∙ ap (λ z. drive_answer l.server z (capacity_read r) (last_of r)) e) ∙ by (capacity_read r)
    where
      by : (size : Option ℕ) → option_map (λ (a : DriveAnswer). a.capacity) (drive_answer l.server (Some n) size (last_of r)) ≡ size
      by None = refl
      by (Some k) = refl

  takes_as : (n : ℕ) → chap ≡ Some n → Phase r → takes_task t l ≡ takes_read r t.lba t.blocks
  takes_as n e phase =
      ap (λ z. would_take z t (option_map (λ (a : DriveAnswer). a.capacity) (answered l))) held ∙ (ap (would_take (reads_of r) t) (size_of n e) ∙ sym (takes_same t r phase))

-- THE TASK

module _ (c : DriveChain) (l : Live) (isn : ℕ) (i : LoginInfo) (of : l.kind ≡ iscsi isn i) (own : Ip4) (g : Objects Obj) (k : IsTalkingDrive isn i own c g l) (chained : AreChained g (drive_ids c)) (t : ReadTask) (now : ℕ) (x : Exchange)
    (is : input_to_session x.came ≡ by_task t now ∷ []) where
  abbrev after : Live
  after = continued l x

  abbrev talk : Talk ReadTask
  talk = session_of isn i l

  abbrev come : List ℕ
  come = come_of isn talk

  abbrev tasks : List (ReadTask × ℕ)
  tasks = talk.tasks

  abbrev later : List (ReadTask × ℕ)
  later = tasks ++ (t, length come) ∷ []

  abbrev then_talk : Talk ReadTask
  then_talk = talks_on (session_talker i) isn talk (by_task t now)

  -- the unit goes on
  unit_at : (n : Obj) × (node_at g c.unit.0 ≡ Some n)
  unit_at = k.hosted c.unit.0 (fetch_in (three_of c))

  unit_stands : (p : LogicalUnit) × UnitStands text_carrier p k.stands.above
  unit_stands =
      let n = unit_at in
      let own_one : node_at (web_graph (three_of c) g) c.unit.0 ≡ Some n.0 = node_own (drive_ids c) g (are_there (drive_ids c) g chained.lives k.hosted) c.unit.0 (fetch_in (three_of c)) ∙ n.1 in
      unit_node n.0 k.stands.above (k.kinds.unit n.0 n.1) (k.stands.unit n.0 own_one).0

  alive_by : (f : UnitTalk) → HasWorked (session_ask isn own i l) come tasks f → IsAlive i come tasks
  alive_by unit_unasked h = absurd h
  alive_by unit_waits h = no_session h
  alive_by (unit_works o chap calls) h =
      let s : Session = h.0 in
      let had : HasHad i come tasks s calls = record { opens = h.1; same = h.4; lives = subst (λ z. drive_has_ended z calls ≡ false) h.2 h.5 } in
      in_session s h.1 (lives_by i come tasks s calls had 0)
  alive_by (unit_over o chap calls over) h = absurd h
  alive_by unit_cut h = absurd h

  alive : IsAlive i come tasks
  alive = let u = unit_stands in alive_by u.1.talk (k.stands.worked u.1.talk u.1.run)

  -- the talk
  goes_on : session_of isn i after ≡ then_talk
  goes_on = session_more isn i l x (by_task t now) is

  same_held : talk_held isn then_talk ≡ talk_held isn talk
  same_held = held_with_texts isn talk.calls (texts_for (session_talker i) isn talk (by_task t now)) now

  answered_then : answered after ≡ session_answer l.server i come later
  answered_then =
      ap (λ z. answered_by z after) of
      ∙ (ap (λ (d : Talk ReadTask). session_answer l.server i (front (talk_held isn d)) d.tasks) goes_on ∙ ap (λ h. session_answer l.server i (front h) later) same_held)

  bytes_then : bytes_so_far after ≡ bytes_of (session_reading i come later)
  bytes_then =
      ap (λ z. bytes_by z after) of
      ∙ (ap (λ (d : Talk ReadTask). bytes_of (session_reading i (front (talk_held isn d)) d.tasks)) goes_on ∙ ap (λ h. bytes_of (session_reading i (front h) later)) same_held)

  reading_then : is_reading after ≡ reads_of (session_reading i come later)
  reading_then =
      ap (λ z. reads_by z after) of
      ∙ (ap (λ (d : Talk ReadTask). reads_of (session_reading i (front (talk_held isn d)) d.tasks)) goes_on ∙ ap (λ h. reads_of (session_reading i (front h) later)) same_held)

  module _ (w : Option Session) (e : session_come 0 i come ≡ w) where
    abbrev chap : Option ℕ
    chap = option_map (λ (s : Session). s.chap) w

    abbrev r : DiskReading
    r = read_by i come tasks w

    abbrev q : DiskReading
    q = read_by i come later w

    answer_for : (ts : List (ReadTask × ℕ)) → session_answer l.server i come ts ≡ drive_answer l.server chap (capacity_read (read_by i come ts w)) (last_of (read_by i come ts w))
    answer_for ts = ap (λ (z : Option Session). drive_answer l.server (option_map (λ (s : Session). s.chap) z) (capacity_read (read_by i come ts z)) (last_of (read_by i come ts z))) e

    was : answered l ≡ drive_answer l.server chap (capacity_read r) (last_of r)
    was = ap (λ z. answered_by z l) of ∙ answer_for tasks

    now_is : answered after ≡ drive_answer l.server chap (capacity_read q) (last_of q)
    now_is = answered_then ∙ answer_for later

    had : bytes_so_far l ≡ bytes_of r
    had = ap (λ z. bytes_by z l) of ∙ ap (λ (z : Option Session). bytes_of (read_by i come tasks z)) e

    has : bytes_so_far after ≡ bytes_of q
    has = bytes_then ∙ ap (λ (z : Option Session). bytes_of (read_by i come later z)) e

    held : is_reading l ≡ reads_of r
    held = ap (λ z. reads_by z l) of ∙ ap (λ (z : Option Session). reads_of (read_by i come tasks z)) e

    holds : is_reading after ≡ reads_of q
    holds = reading_then ∙ ap (λ (z : Option Session). reads_of (read_by i come later z)) e

  unopened : session_come 0 i come ≡ None → AsksAfter t l after
  unopened e =
      let none : answered l ≡ None = was None e in
      not_taken t l after None nothing_read nothing_read (was None e) (now_is None e) (had None e) (has None e) (held None e) (holds None e) refl
      (ap (λ (z : Option DriveAnswer). would_take (is_reading l) t (option_map (λ (a : DriveAnswer). a.capacity) z)) none)

  module _ (s : Session) (e : session_come 0 i come ≡ Some s) (lives : drive_has_ended (opened_of s) (drive_calls 0 i come tasks s) ≡ false) where
    abbrev o : SessionNumbers
    o = opened_of s

    abbrev calls : List DiskCall
    calls = drive_calls 0 i come tasks s

    calls_then : drive_calls 0 i come later s ≡ calls ++ cond (takes_read (reading o calls) t.lba t.blocks) (asked t.lba t.blocks ∷ []) []
    calls_then = task_call 0 i come tasks s t k.stands.asked e lives

    phase : Phase (reading o calls)
    phase = phase_taken o nothing_read (drive_comes 0 i come tasks) phase_first (lives_over o nothing_read calls lives)

    takes_is : takes_task t l ≡ takes_read (reading o calls) t.lba t.blocks
    takes_is = takes_as t l after (Some s.chap) (reading o calls) (read_by i come later (Some s)) (was (Some s) e) (now_is (Some s) e) (had (Some s) e) (has (Some s) e) (held (Some s) e) (holds (Some s) e) s.chap refl phase

    opened : (b : Bool) → takes_read (reading o calls) t.lba t.blocks ≡ b → AsksAfter t l after
    opened true on =
        let then : read_by i come later (Some s) ≡ after_call o (reading o calls) (asked t.lba t.blocks) =
        ap (reading o) (calls_then ∙ ap (λ b. calls ++ cond b (asked t.lba t.blocks ∷ []) []) on) ∙ reading_more o calls (asked t.lba t.blocks) in
        now_taken t l after (Some s.chap) (reading o calls) (read_by i come later (Some s)) (was (Some s) e) (now_is (Some s) e) (had (Some s) e) (has (Some s) e) (held (Some s) e) (holds (Some s) e)
        (subst (Taken (reading o calls)) (sym then) (taken_reads o (reading o calls) t.lba t.blocks phase (idle_takes (reading o calls) t.lba t.blocks on))) (takes_is ∙ on)
    opened false off =
        let then : read_by i come later (Some s) ≡ reading o calls =
        ap (reading o) ((calls_then ∙ ap (λ b. calls ++ cond b (asked t.lba t.blocks ∷ []) []) off) ∙ append-nil calls) in
        not_taken t l after (Some s.chap) (reading o calls) (read_by i come later (Some s)) (was (Some s) e) (now_is (Some s) e) (had (Some s) e) (has (Some s) e) (held (Some s) e) (holds (Some s) e) then (takes_is ∙ off)

  asks_by : IsAlive i come tasks → AsksAfter t l after
  asks_by (no_session e) = unopened e
  asks_by (in_session s e lives) = opened s e lives (takes_read (reading (opened_of s) (drive_calls 0 i come tasks s)) t.lba t.blocks) refl

  pub asks_after : AsksAfter t l after
  asks_after = asks_by alive
