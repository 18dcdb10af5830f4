-- What a segment brings a drive to answer.
use Rattle.std.proofs.Common.{◌≡◌, inl, inr, ℕ, ◌||◌, Bool, true, false, cond, List, [], ◌∷◌, ◌++◌, length, drop, fold, Option, Some, None, refl, sym, ◌∙◌, ap, subst}
use Rattle.std.specs.Option.{is_some, option_and_then, option_map, option_or}
use Rattle.std.specs.List.{AllByRecursion}
use Rattle.std.proofs.lemmas.List.{drop_at}
use Rattle.nb_terms.specs.declared.cause.Cause.{Cause}
use Rattle.nb_conns.specs.ConnEffects.{received_says}
use Rattle.nb_disk.specs.DiskAnswers.{data_range, disk_answer, ended_from, session_has_ended as drive_has_ended, opened_of}
use Rattle.nb_disk.specs.Histories.{DiskCall, DiskReading, SessionNumbers, after_call, capacity_read, nothing_read, reading}
use Rattle.nb_drivenodes.specs.UnitAnswers.{unit_answered_by}
use Rattle.nb_drivenodes.specs.UnitTalks.{answered_says, blocks_says}
use Rattle.nb_ledger.specs.Flat.{Notice}
use Rattle.nb_login.specs.declared.info.LoginInfo.{LoginInfo}
use Rattle.nb_login.specs.declared.session.Session.{Session}
use Rattle.nb_sans.specs.Sessions.{ReadTask, TaskAnswer, blocks_read, read_refused, read_short, drive_calls, drive_comes, over_from, over_or_short, read_by, session_come, session_end, session_end_by, session_reading, session_talker}
use Rattle.nb_sans.proofs.RecordLaws.{records_show}
use Rattle.nb_streams.specs.Endings.{segment_end}
use Rattle.nb_streams.specs.Segments.{Arrival}
use Rattle.nb_streams.specs.Streams.{front, has_ended}
use Rattle.nb_talks.specs.Talking.{Talk, by_segment, come_of, receives, talk_held, talks_on, texts_for}
use Rattle.nb_talks.specs.TalkPromises.{earlier, phase_of, segment_put, talker_end}
use Rattle.nb_talks.proofs.TalkLaws.{held_with_texts}
use Rattle.nb_machine.specs.Drives.{DriveAnswer, bytes_read, input_to_session, last_read, drive_answer, session_answer, session_of}
use Rattle.nb_machine.specs.Kinds.{answered, answered_by as answered_for}
use Rattle.nb_machine.specs.Lives.{Exchange, Live, continued, iscsi}
use Rattle.nb_teller.specs.Deliveries.{delivered_answer, delivered_blocks}
use Rattle.nb_drivechains.specs.declared.drive_answer.DriveAnswer.{DriveAnswer as Told}
use Rattle.nb_drivechains.specs.declared.drive_chain.DriveChain.{DriveChain}
use Rattle.nb_drivetalks.specs.Comings.{AddsParts, calls_by, drive_hands, handed_up, session_calls, unit_says, units_say}
use Rattle.nb_drivetalks.specs.Tellings.{told_above, told_below}
use Rattle.nb_webtalks.specs.Tellings.{messages_of}
use Rattle.nb_open.specs.DriveAnswers.{AnswersAfter, AnswersAtEnd, IsNotRead, IsRefused, bytes_by, bytes_so_far, is_read, is_reading, read_answer, reads_by}
use Rattle.nb_open.proofs.Callings.{each_append}
use Rattle.nb_open.proofs.Delivering.{DeliversNone}
use Rattle.nb_open.proofs.DiskAnswering.{GoesTo, Phase, bytes_of, last_of, phase_first, read_last, reads_of}
use Rattle.nb_open.proofs.DriveAsides.{session_more}
use Rattle.nb_open.proofs.DrivePuts.{AreHandedUp, IsHandedUp, answer_among, answer_up as answer_told, blocks_among, blocks_up as blocks_told}
use Rattle.nb_open.proofs.UnitAnswering.{all_handed, or_none, told_by}
use Rattle.nb_open.proofs.UnitEnding.{EndsLast, GoesLast, all_handed_last, last_after, phase_taken, taken_last}

-- BYTES OF BLOCKS AND ANSWERS ALONE GO UP

blocks_up : (rec : ℕ) (given : List ℕ) → AreHandedUp (blocks_says rec given)
blocks_up rec given = by (is_some (data_range (length given)))
  where
    by : (b : Bool) → AreHandedUp (cond b (received_says rec given ∷ []) [])
    by true = (inl refl, tt)
    by false = tt

answer_up : (rec chap : ℕ) (capacity : Option ℕ) → AreHandedUp (answered_says rec chap capacity)
answer_up rec chap None = tt
answer_up rec chap (Some capacity) = (inr refl, tt)

units_up : (rec chap : ℕ) (o : SessionNumbers) (before calls : List DiskCall) → AreHandedUp (units_say rec chap o before calls)
units_up rec chap o before [] = tt
units_up rec chap o before (call ∷ calls) =
    let given = (disk_answer o (reading o before) call).give in
    let capacity = unit_answered_by o before call in
    each_append IsHandedUp (unit_says rec chap o before call) (units_say rec chap o (before ++ call ∷ []) calls)
    (each_append IsHandedUp (blocks_says rec given) (answered_says rec chap capacity) (blocks_up rec given) (answer_up rec chap capacity)) (units_up rec chap o (before ++ call ∷ []) calls)

handed_by_up : (rec : ℕ) (before after : List DiskCall) (s : Option Session) → AreHandedUp (drive_hands rec before after s)
handed_by_up rec before after None = tt
handed_by_up rec before after (Some s) = units_up rec s.chap (opened_of s) before (drop (length before) after)

pub are_handed_up : (rec : ℕ) (i : LoginInfo) (come later : List ℕ) (tasks : List (ReadTask × ℕ)) → AreHandedUp (handed_up rec i come later tasks)
are_handed_up rec i come later tasks = handed_by_up rec (session_calls i come tasks) (session_calls i later tasks) (session_come 0 i later)

-- WHAT IT HAS ANSWERED

-- what is answered where an open goes on may be where it ends
pub at_end : (l after : Live) (answer : Option Told) (blocks : List ℕ) → AnswersAfter l after answer blocks → AnswersAtEnd l after answer blocks
at_end l after None blocks h = (inl h.0, ap (option_and_then last_read) h.0)
at_end l after (Some a) blocks h = h

-- of an open session, by what had been read before and what has been then
module _ (l after : Live) (chap : ℕ) (r q : DiskReading) (was : answered l ≡ drive_answer l.server (Some chap) (capacity_read r) (last_of r))
    (is : answered after ≡ drive_answer l.server (Some chap) (capacity_read q) (last_of q)) (had : bytes_so_far l ≡ bytes_of r) (has : bytes_so_far after ≡ bytes_of q)
    (held : is_reading l ≡ reads_of r) (holds : is_reading after ≡ reads_of q) where
  size_is : (size : Option ℕ) → capacity_read q ≡ size → answered after ≡ drive_answer l.server (Some chap) size (last_of q)
  size_is size e = is ∙ ap (λ (z : Option ℕ). drive_answer l.server (Some chap) z (last_of q)) e

  same_answer : capacity_read q ≡ capacity_read r → last_of q ≡ last_of r → answered after ≡ answered l
  same_answer size last = size_is (capacity_read r) size ∙ (ap (λ (z : Option TaskAnswer). drive_answer l.server (Some chap) (capacity_read r) z) last ∙ sym was)

  read_before : (size : Option ℕ) (last : Option TaskAnswer) (bytes : List ℕ) → read_last size bytes ≡ read_answer (drive_answer l.server (Some chap) size last) bytes
  read_before None last bytes = refl
  read_before (Some n) last bytes = refl

  last_is : (bytes : List ℕ) → read_last (capacity_read r) (bytes_of r ++ bytes) ≡ read_answer (answered l) (bytes_so_far l ++ bytes)
  last_is bytes =
      read_before (capacity_read r) (last_of r) (bytes_of r ++ bytes)
      ∙ (ap (λ (z : Option DriveAnswer). read_answer z (bytes_of r ++ bytes)) (sym was) ∙ ap (λ z. read_answer (answered l) (z ++ bytes)) (sym had))

  -- it has answered where its capacity was read
  size_known : (size : Option ℕ) (last : Option TaskAnswer) → is_some (drive_answer l.server (Some chap) size last) ≡ is_some size
  size_known None last = refl
  size_known (Some n) last = refl

  goes_by : (answer : Option ℕ) (bytes : List ℕ) → GoesTo r q answer bytes → AnswersAfter l after (told_by chap answer) bytes
  goes_by None bytes goes = (same_answer goes.0 goes.1, has ∙ (goes.2 ∙ ap (λ z. z ++ bytes) (sym had)), holds ∙ (goes.3 ∙ sym held))
  goes_by (Some n) bytes goes = (
    size_is (Some n) goes.0 ∙ ap (λ (z : Option TaskAnswer). drive_answer l.server (Some chap) (Some n) z) (goes.1 ∙ last_is bytes),
    has ∙ goes.2,
    holds ∙ ap is_read goes.3,
    held ∙ (goes.4 ∙ sym (ap is_some was ∙ size_known (capacity_read r) (last_of r))),
  )

  -- nothing was read last where a read was at work, nor where it has failed
  none_read : (size : Option ℕ) (last : Option TaskAnswer) → last ≡ None → option_and_then last_read (drive_answer l.server (Some chap) size last) ≡ None
  none_read None last e = refl
  none_read (Some n) last e = ap (option_and_then bytes_read) e

  not_read : (last : Option TaskAnswer) → IsNotRead last → option_and_then bytes_read last ≡ None
  not_read None bad = absurd bad
  not_read (Some (blocks_read bytes)) bad = absurd bad
  not_read (Some (read_refused status)) bad = refl
  not_read (Some read_short) bad = refl

  ends_by : (answer : Option ℕ) (bytes : List ℕ) → GoesLast r q answer bytes → AnswersAtEnd l after (told_by chap answer) bytes
  ends_by None bytes (inl same) = let e = same_answer same.0 same.1 in (inl e, ap (option_and_then last_read) e)
  ends_by None bytes (inr (n, had_size, size, bad, none)) = (
    inr (ap is_some (was ∙ ap (λ (z : Option ℕ). drive_answer l.server (Some chap) z (last_of r)) had_size), subst IsRefused (sym (size_is (Some n) size)) bad),
    ap (option_and_then last_read) (size_is (Some n) size) ∙ (not_read (last_of q) bad ∙ sym (ap (option_and_then last_read) was ∙ none_read (capacity_read r) (last_of r) none)),
  )
  ends_by (Some n) bytes goes = goes_by (Some n) bytes goes

-- CALLS THAT END NOTHING

over_lives : (o : SessionNumbers) (r : DiskReading) (calls : List DiskCall) → over_from o r calls ≡ None → ended_from o r calls ≡ false
over_lives o r [] e = refl
over_lives o r (call ∷ calls) e =
    let two = or_none (disk_answer o r call).over (over_from o (after_call o r call) calls) e in
    ap (λ (z : Option Cause). is_some z || ended_from o (after_call o r call) calls) two.0 ∙ over_lives o (after_call o r call) calls two.1

pub lives_over : (o : SessionNumbers) (r : DiskReading) (calls : List DiskCall) → ended_from o r calls ≡ false → over_from o r calls ≡ None
lives_over o r [] e = refl
lives_over o r (call ∷ calls) e = by (lives_over o (after_call o r call) calls) (disk_answer o r call).over e
  where
    by : (ended_from o (after_call o r call) calls ≡ false → over_from o (after_call o r call) calls ≡ None) → (over : Option Cause) → (is_some over || ended_from o (after_call o r call) calls) ≡ false
        → option_or over (over_from o (after_call o r call) calls) ≡ None
    by more None f = more f
    by more (Some x) f = absurd (let z = f in cc)

over_after : (o : SessionNumbers) (r : DiskReading) (xs ys : List DiskCall) → over_from o r (xs ++ ys) ≡ None → over_from o (fold (after_call o) r xs) ys ≡ None
over_after o r [] ys e = e
over_after o r (x ∷ xs) ys e = over_after o (after_call o r x) xs ys (or_none (disk_answer o r x).over (over_from o (after_call o r x) (xs ++ ys)) e).1

first_none : (a b : Option Cause) → earlier a b ≡ None → a ≡ None
first_none None b e = refl
first_none (Some x) b e = absurd (let z = e in cc)

-- A SEGMENT

module _ (c : DriveChain) (l : Live) (x : Exchange) (ns : List Notice) (isn : ℕ) (i : LoginInfo) (of : l.kind ≡ iscsi isn i) (m : Arrival) (now : ℕ) (is : input_to_session x.came ≡ by_segment m now ∷ [])
    (above : told_above c.unit.0 ns ≡ handed_up m.rec i (come_of isn (session_of isn i l)) (come_of isn (receives isn (session_of isn i l) (by_segment m now))) (session_of isn i l).tasks) (none : AllByRecursion DeliversNone (messages_of (told_below c.unit.0 ns)))
    (adds : AddsParts i (come_of isn (session_of isn i l)) (come_of isn (receives isn (session_of isn i l) (by_segment m now))) (session_of isn i l).tasks) where
  abbrev after : Live
  after = continued l x

  abbrev talk : Talk ReadTask
  talk = session_of isn i l

  abbrev heard : Talk ReadTask
  heard = receives isn talk (by_segment m now)

  abbrev come : List ℕ
  come = come_of isn talk

  abbrev later : List ℕ
  later = come_of isn heard

  abbrev tasks : List (ReadTask × ℕ)
  tasks = talk.tasks

  -- its calls before
  abbrev before : List DiskCall
  before = session_calls i come tasks

  goes_on : session_of isn i after ≡ talks_on (session_talker i) isn talk (by_segment m now)
  goes_on = session_more isn i l x (by_segment m now) is

  held_then : talk_held isn (talks_on (session_talker i) isn talk (by_segment m now)) ≡ talk_held isn heard
  held_then = held_with_texts isn heard.calls (texts_for (session_talker i) isn talk (by_segment m now)) now

  answered_then : answered after ≡ session_answer l.server i later tasks
  answered_then =
      ap (λ z. answered_for z after) of
      ∙ (ap (λ (d : Talk ReadTask). session_answer l.server i (front (talk_held isn d)) d.tasks) goes_on ∙ ap (λ h. session_answer l.server i (front h) tasks) held_then)

  bytes_then : bytes_so_far after ≡ bytes_of (session_reading i later tasks)
  bytes_then =
      ap (λ z. bytes_by z after) of
      ∙ (ap (λ (d : Talk ReadTask). bytes_of (session_reading i (front (talk_held isn d)) d.tasks)) goes_on ∙ ap (λ h. bytes_of (session_reading i (front h) tasks)) held_then)

  reading_then : is_reading after ≡ reads_of (session_reading i later tasks)
  reading_then =
      ap (λ z. reads_by z after) of
      ∙ (ap (λ (d : Talk ReadTask). reads_of (session_reading i (front (talk_held isn d)) d.tasks)) goes_on ∙ ap (λ h. reads_of (session_reading i (front h) tasks)) held_then)

  -- the answer, the bytes and what is at work by the session that a stream has opened
  answer_for : (stream : List ℕ) (w : Option Session) → session_come 0 i stream ≡ w
      → session_answer l.server i stream tasks ≡ drive_answer l.server (option_map (λ (s : Session). s.chap) w) (capacity_read (read_by i stream tasks w)) (last_of (read_by i stream tasks w))
  answer_for stream w e = ap (λ (z : Option Session). drive_answer l.server (option_map (λ (s : Session). s.chap) z) (capacity_read (read_by i stream tasks z)) (last_of (read_by i stream tasks z))) e

  bytes_for : (stream : List ℕ) (w : Option Session) → session_come 0 i stream ≡ w → bytes_of (session_reading i stream tasks) ≡ bytes_of (read_by i stream tasks w)
  bytes_for stream w e = ap (λ (z : Option Session). bytes_of (read_by i stream tasks z)) e

  reading_for : (stream : List ℕ) (w : Option Session) → session_come 0 i stream ≡ w → reads_of (session_reading i stream tasks) ≡ reads_of (read_by i stream tasks w)
  reading_for stream w e = ap (λ (z : Option Session). reads_of (read_by i stream tasks z)) e

  answered_at : (w : Option Session) → session_come 0 i come ≡ w → answered l ≡ drive_answer l.server (option_map (λ (s : Session). s.chap) w) (capacity_read (read_by i come tasks w)) (last_of (read_by i come tasks w))
  answered_at w e = ap (λ z. answered_for z l) of ∙ answer_for come w e

  bytes_at : (w : Option Session) → session_come 0 i come ≡ w → bytes_so_far l ≡ bytes_of (read_by i come tasks w)
  bytes_at w e = ap (λ z. bytes_by z l) of ∙ bytes_for come w e

  reading_at : (w : Option Session) → session_come 0 i come ≡ w → is_reading l ≡ reads_of (read_by i come tasks w)
  reading_at w e = ap (λ z. reads_by z l) of ∙ reading_for come w e

  -- what was delivered
  module _ (answer : Option Told) (blocks : List ℕ) (says : answer_among (handed_up m.rec i come later tasks) ≡ answer) (gives : blocks_among (handed_up m.rec i come later tasks) ≡ blocks) where
    told_answer : delivered_answer ns ≡ answer
    told_answer = answer_told c.unit.0 ns none ∙ (ap answer_among above ∙ says)

    told_blocks : delivered_blocks ns ≡ blocks
    told_blocks = blocks_told c.unit.0 ns none ∙ (ap blocks_among above ∙ gives)

    then_after : AnswersAfter l after answer blocks → AnswersAfter l after (delivered_answer ns) (delivered_blocks ns)
    then_after h = subst (λ z. AnswersAfter l after z (delivered_blocks ns)) (sym told_answer) (subst (AnswersAfter l after answer) (sym told_blocks) h)

    then_at_end : AnswersAtEnd l after answer blocks → AnswersAtEnd l after (delivered_answer ns) (delivered_blocks ns)
    then_at_end h = subst (λ z. AnswersAtEnd l after z (delivered_blocks ns)) (sym told_answer) (subst (AnswersAtEnd l after answer) (sym told_blocks) h)

  -- NO SESSION IS OPEN

  none_before : session_come 0 i later ≡ None → session_come 0 i come ≡ None
  none_before e = by (session_come 0 i come) refl
    where
      by : (w : Option Session) → session_come 0 i come ≡ w → w ≡ None
      by None f = refl
      by (Some s) f = absurd (let z : Some s ≡ None = sym (adds.stays s f) ∙ e in cc)

  unopened : session_come 0 i later ≡ None → AnswersAfter l after (delivered_answer ns) (delivered_blocks ns)
  unopened e =
      let was = none_before e in
      let hands : handed_up m.rec i come later tasks ≡ [] = ap (drive_hands m.rec before (session_calls i later tasks)) e in
      then_after None [] (ap answer_among hands) (ap blocks_among hands)
      (answered_then ∙ (answer_for later None e ∙ sym (answered_at None was)), bytes_then ∙ (bytes_for later None e ∙ sym (ap (λ z. z ++ []) (bytes_at None was))), reading_then ∙ (reading_for later None e ∙ sym (reading_at None was)))

  -- A SESSION IS OPEN

  module _ (s : Session) (opens : session_come 0 i later ≡ Some s) where
    abbrev o : SessionNumbers
    o = opened_of s

    all_calls : drive_calls 0 i later tasks s ≡ before ++ adds.new
    all_calls = sym (ap (calls_by i later tasks) opens) ∙ adds.grown

    ends_last : EndsLast o (reading o before) adds.new
    ends_last = last_after o nothing_read before adds.new (subst (EndsLast o nothing_read) all_calls (taken_last o nothing_read (drive_comes 0 i later tasks)))

    -- where it stood
    record Stood : Type 0 where
      answer : answered l ≡ drive_answer l.server (Some s.chap) (capacity_read (reading o before)) (last_of (reading o before))
      bytes : bytes_so_far l ≡ bytes_of (reading o before)
      at_work : is_reading l ≡ reads_of (reading o before)
      phase : Phase (reading o before)

    stood_at : (calls : List DiskCall) → before ≡ calls → answered l ≡ drive_answer l.server (Some s.chap) (capacity_read (reading o calls)) (last_of (reading o calls)) → bytes_so_far l ≡ bytes_of (reading o calls)
        → is_reading l ≡ reads_of (reading o calls) → Phase (reading o calls) → Stood
    stood_at calls same answer bytes at_work phase = record {
      answer = subst (λ (z : List DiskCall). answered l ≡ drive_answer l.server (Some s.chap) (capacity_read (reading o z)) (last_of (reading o z))) (sym same) answer;
      bytes = subst (λ (z : List DiskCall). bytes_so_far l ≡ bytes_of (reading o z)) (sym same) bytes;
      at_work = subst (λ (z : List DiskCall). is_reading l ≡ reads_of (reading o z)) (sym same) at_work;
      phase = subst (λ (z : List DiskCall). Phase (reading o z)) (sym same) phase;
    }

    stood_open : session_come 0 i come ≡ Some s → Stood
    stood_open here =
        let calls = drive_calls 0 i come tasks s in
        let over = (or_none (over_from o nothing_read calls) None (sym (ap (session_end_by 0 i come false tasks) here) ∙ adds.lives)).0 in
        stood_at calls (ap (calls_by i come tasks) here) (answered_at (Some s) here) (bytes_at (Some s) here) (reading_at (Some s) here) (phase_taken o nothing_read (drive_comes 0 i come tasks) phase_first over)

    stood_by : (w : Option Session) → session_come 0 i come ≡ w → Stood
    stood_by None e = stood_at [] (ap (calls_by i come tasks) e) (answered_at None e) (bytes_at None e) (reading_at None e) phase_first
    stood_by (Some t) e = let same : Some t ≡ Some s = sym (adds.stays t e) ∙ opens in stood_open (e ∙ same)

    stood : Stood
    stood = stood_by (session_come 0 i come) refl

    -- where it stands
    answered_now : answered after ≡ drive_answer l.server (Some s.chap) (capacity_read (reading o (before ++ adds.new))) (last_of (reading o (before ++ adds.new)))
    answered_now = answered_then ∙ (answer_for later (Some s) opens ∙ ap (λ (z : List DiskCall). drive_answer l.server (Some s.chap) (capacity_read (reading o z)) (last_of (reading o z))) all_calls)

    bytes_now : bytes_so_far after ≡ bytes_of (reading o (before ++ adds.new))
    bytes_now = bytes_then ∙ (bytes_for later (Some s) opens ∙ ap (λ (z : List DiskCall). bytes_of (reading o z)) all_calls)

    reading_now : is_reading after ≡ reads_of (reading o (before ++ adds.new))
    reading_now = reading_then ∙ (reading_for later (Some s) opens ∙ ap (λ (z : List DiskCall). reads_of (reading o z)) all_calls)

    hands_new : handed_up m.rec i come later tasks ≡ units_say m.rec s.chap o before adds.new
    hands_new =
        ap (drive_hands m.rec before (session_calls i later tasks)) opens
        ∙ ap (units_say m.rec s.chap o before) (ap (drop (length before)) adds.grown ∙ drop_at before adds.new (length before) refl)

    went_on : over_from o (reading o before) adds.new ≡ None → AnswersAfter l after (delivered_answer ns) (delivered_blocks ns)
    went_on over =
        let st = stood in
        let h = all_handed m.rec s.chap o before adds.new st.phase adds.each over in
        then_after (told_by s.chap h.answer) h.bytes (ap answer_among hands_new ∙ h.says_answer) (ap blocks_among hands_new ∙ h.says_blocks)
        (goes_by l after s.chap (reading o before) (reading o (before ++ adds.new)) st.answer answered_now st.bytes bytes_now st.at_work reading_now h.answer h.bytes h.goes)

    has_gone : (y : Cause) → over_from o (reading o before) adds.new ≡ Some y → AnswersAtEnd l after (delivered_answer ns) (delivered_blocks ns)
    has_gone y over =
        let st = stood in
        let h = all_handed_last m.rec s.chap o before adds.new y st.phase adds.each ends_last over in
        then_at_end (told_by s.chap h.answer) h.bytes (ap answer_among hands_new ∙ h.says_answer) (ap blocks_among hands_new ∙ h.says_blocks)
        (ends_by l after s.chap (reading o before) (reading o (before ++ adds.new)) st.answer answered_now st.bytes bytes_now st.at_work reading_now h.answer h.bytes h.goes)

    at_last : (v : Option Cause) → over_from o (reading o before) adds.new ≡ v → AnswersAtEnd l after (delivered_answer ns) (delivered_blocks ns)
    at_last None e = at_end l after (delivered_answer ns) (delivered_blocks ns) (went_on e)
    at_last (Some y) e = has_gone y e

    -- where the session ends nothing its drive doesn't
    none_over : (ended : Bool) → session_end m.rec i later ended tasks ≡ None → over_from o (reading o before) adds.new ≡ None
    none_over ended e =
        let short : Option Cause = over_or_short m.rec ended None in
        let by_rec = drive_calls m.rec i later tasks s in
        let over : over_from o nothing_read by_rec ≡ None =
        (or_none (over_from o nothing_read by_rec) short (sym (ap (session_end_by m.rec i later ended tasks) (records_show.session m.rec i later ∙ opens)) ∙ e)).0 in
        let first : drive_has_ended o (drive_calls 0 i later tasks s) ≡ false =
        sym (records_show.ended o m.rec (drive_calls 0 i later tasks s)) ∙ (sym (ap (drive_has_ended o) (records_show.calls m.rec i later tasks s)) ∙ over_lives o nothing_read by_rec over) in
        let lives : ended_from o nothing_read (before ++ adds.new) ≡ false = subst (λ (z : List DiskCall). ended_from o nothing_read z ≡ false) all_calls first in
        over_after o nothing_read before adds.new (lives_over o nothing_read (before ++ adds.new) lives)

  pub segment_answers : (segment_put (session_talker i) isn (session_of isn i l) m now).over ≡ None → AnswersAfter l after (delivered_answer ns) (delivered_blocks ns)
  segment_answers over = by (session_come 0 i later) refl
    where
      by : (w : Option Session) → session_come 0 i later ≡ w → AnswersAfter l after (delivered_answer ns) (delivered_blocks ns)
      by None e = unopened e
      by (Some s) e = went_on s e (none_over s e (has_ended (talk_held isn heard)) (first_none (talker_end (session_talker i) isn m.rec heard) (segment_end isn (phase_of isn talk) m) over))

  pub segment_answers_last : AnswersAtEnd l after (delivered_answer ns) (delivered_blocks ns)
  segment_answers_last = by (session_come 0 i later) refl
    where
      by : (w : Option Session) → session_come 0 i later ≡ w → AnswersAtEnd l after (delivered_answer ns) (delivered_blocks ns)
      by None e = at_end l after (delivered_answer ns) (delivered_blocks ns) (unopened e)
      by (Some s) e = at_last s e (over_from (opened_of s) (reading (opened_of s) before) adds.new) refl
