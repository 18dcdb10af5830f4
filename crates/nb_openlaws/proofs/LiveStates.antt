-- The state after records that tell no open, after a time, and where all is closed.
use Rattle.std.proofs.Common.{◌≡◌, ℕ, ◌+◌, ◌≤◌, ◌==◌, Bool, true, false, ◌||◌, List, [], ◌∷◌, ◌++◌, refl, sym, ◌∙◌, ap, subst, append-nil, add-zero, arith, eq-eqb, ne_eqb, not}
use Rattle.std.specs.List.{flat_map}
use Rattle.std.proofs.Math.Bool.{or-false}
use Rattle.std.specs.Prelude.{filter}
use Rattle.nb_terms.specs.declared.cause.Cause.{Cause}
use Rattle.nb_defs.specs.Records.{Out}
use Rattle.nb_tftp.proofs.BlockLemmas.{either_way}
use Rattle.nb_tftp.specs.History.{ticked}
use Rattle.nb_machine.specs.Lives.{OpenKind, tftp, http, iscsi, dns, dhcp, ping, time as time_came, task, close, Live}
use Rattle.nb_machine.specs.States.{State, with_live, later_by}
use Rattle.nb_machine.specs.Takings.{Over, AllTake}
use Rattle.nb_laws.specs.Events.{Event, waits}
use Rattle.nb_laws.specs.Lists.{time, ms_of, made, Hardware, hardware, Opening, open_has_ended, tries, marks}
use Rattle.nb_laws.specs.Webs.{try_marks_of}
use Rattle.nb_talks.specs.Talking.{by_time}
use Rattle.nb_streams.specs.Trying.{tries_at}
use Rattle.nb_sans.specs.Sessions.{ReadTask}
use Rattle.nb_openlaws.specs.Standings.{heard_calls, heard_marks, streamed, streamed_marks, live_opening, ComesToOwnPort, AreLive, lives_among, HaveOwnNumbers, AgreesState, told_tries, AgreesLive}
use Rattle.nb_laws.proofs.Histories.{time_more}
use Rattle.nb_laws.specs.Frames.{by_call}
use Rattle.nb_machine.specs.Scripts.{net0_mac}
use Rattle.nb_machine.specs.CommandRecords.{stopped_cause}
use Rattle.nb_machine.specs.Courses.{is_drives_own, drives_first, DropsDrive}
use Rattle.nb_laws.proofs.Tellings.{told, try_marks_by, no_more, live_same}
use Rattle.nb_openlaws.proofs.OpenRecords.{AreLater, ends_in, left}
use Rattle.nb_openlaws.proofs.Takings.{SameAt, then_same, Grows, grown, HasCome, AllCome, live_on, both_false, all_taken}
use Rattle.nb_openlaws.proofs.UsedEvents.{IsUsed, IsFurther, BringsNone, live_ended, live_one, no_call, made_used, used_same, offset_used, hardware_used, has_come}
use Rattle.nb_openlaws.proofs.LiveParts.{all_filter, left_by_test, among_both, not_taken, own_taken, parts_apart, all_first, among_first, own_first}
use Rattle.nb_drivecmd.specs.declared.drive.Drive.{Drive}
use Rattle.nb_drivecmd.specs.HookedDrives.{is_drive}

-- THE STATE

pub all_same : (a b : List Event) (ls : List Live) → Grows a b → made b ≡ made a → hardware b ≡ hardware a → ((j : ℕ) → lives_among j ls ≡ true → SameAt j a b) → AreLive a ls → AreLive b ls
all_same a b [] g m w same h = tt
all_same a b (l ∷ ls) g m w same h = (
  live_on a b l g m w (same l.number (ap (λ z. z || lives_among l.number ls) (eq-eqb l.number l.number refl))) h.0,
  all_same a b ls g m w (λ j some. same j (or_right (l.number == j) (lives_among j ls) some)) h.1,
)
  where
    or_right : (x y : Bool) → y ≡ true → (x || y) ≡ true
    or_right true y e = refl
    or_right false y e = e

-- a record came that brings no open anything
pub nothing_came : (es : List Event) (e : Event) (s : State) → IsUsed e → IsFurther e → AgreesState es s → ((j : ℕ) → BringsNone j es e) → ms_of e ≡ 0 → AgreesState (es ++ e ∷ []) s
nothing_came es e s u further a none still =
    let es1 = es ++ e ∷ [] in
    let same : (j : ℕ) → SameAt j es es1 = λ j. used_same j es e u (none j) in
    let made_is = made_used es e u in
    record {
      time = time_more es e ∙ ap (λ z. time es + z) still ∙ add-zero (time es) ∙ a.time;
      opens = made_is ∙ a.opens;
      offset = offset_used es e u further ∙ a.offset;
      mac_is = ap (λ (h : Hardware). h.mac) (hardware_used es e u further) ∙ a.mac_is;
      identity_is = ap (λ (h : Hardware). h.identity) (hardware_used es e u further) ∙ a.identity_is;
      each = all_same es es1 s.live (grown es (e ∷ [])) made_is (hardware_used es e u further) (λ j some. same j) a.each;
      apart = a.apart;
      others = λ j away. live_same j es1 es (same j).openings_are (same j).over_are ∙ a.others j away;
      unopened = λ j more. (same j).openings_are ∙ a.unopened j (subst (λ z. z ≤ j) made_is more);
      unended = λ j more. (same j).over_are ∙ a.unended j (subst (λ z. z ≤ j) made_is more);
      untold = λ j more. let t = a.untold j (subst (λ z. z ≤ j) made_is more) in ((same j).calls_are ∙ t.0, (same j).marks_are ∙ t.1);
      unstreamed = λ j more. let t = a.unstreamed j (subst (λ z. z ≤ j) made_is more) in ((same j).came_are ∙ t.0, (same j).try_marks_are ∙ t.1);
    }

-- the numbers that START gave, and what stays beside the settings
pub record SameStart (s t : State) : Type 0 where
  pub now : t.now ≡ s.now
  pub opens : t.opens ≡ s.opens
  pub offset : t.w ≡ s.w
  pub mac : net0_mac t.devices ≡ net0_mac s.devices
  pub identity : t.machine ≡ s.machine

pub as_state : (es : List Event) (s t : State) → SameStart s t → t.live ≡ s.live → AgreesState es s → AgreesState es t
as_state es s t same lives a = record {
  time = a.time ∙ sym same.now;
  opens = a.opens ∙ sym same.opens;
  offset = a.offset ∙ sym same.offset;
  mac_is = a.mac_is ∙ sym same.mac;
  identity_is = a.identity_is ∙ sym same.identity;
  each = subst (AreLive es) (sym lives) a.each;
  apart = subst HaveOwnNumbers (sym lives) a.apart;
  others = λ k away. a.others k (ap (lives_among k) (sym lives) ∙ away);
  unopened = a.unopened;
  unended = a.unended;
  untold = a.untold;
  unstreamed = a.unstreamed;
}

-- records that tell no open, no end and no try
pub quiet_state : (es : List Event) (outs : List Out) (s : State) → AreLater outs → ((j : ℕ) → ends_in j outs ≡ false) → ((j now : ℕ) → told_tries j now outs ≡ []) → ((j now : ℕ) → try_marks_by j now outs ≡ []) → AgreesState es s → AgreesState (es ++ told outs) s
quiet_state es outs s later no_ends no_tries no_marks a =
    let f = left es outs later in
    let es1 = es ++ told outs in
    let same : (j : ℕ) → SameAt j es es1 = λ j. record {
      openings_are = f.openings_is j;
      sessions_are = f.sessions_is j;
      over_are = f.over_is j ∙ ap (λ b. open_has_ended j es || b) (no_ends j) ∙ or-false (open_has_ended j es);
      calls_are = f.calls_is j;
      marks_are = f.marks_is j ∙ no_more (marks j es) _ (no_tries j (time es));
      came_are = f.came_is j;
      try_marks_are = f.try_marks_is j ∙ no_more (try_marks_of j es) _ (no_marks j (time es));
    } in
    record {
      time = f.time_is ∙ a.time;
      opens = f.made_is ∙ a.opens;
      offset = f.offset_is ∙ a.offset;
      mac_is = ap (λ (h : Hardware). h.mac) f.hardware_is ∙ a.mac_is;
      identity_is = ap (λ (h : Hardware). h.identity) f.hardware_is ∙ a.identity_is;
      each = all_same es es1 s.live (grown es (told outs)) f.made_is f.hardware_is (λ j some. same j) a.each;
      apart = a.apart;
      others = λ j away. live_same j es1 es (same j).openings_are (same j).over_are ∙ a.others j away;
      unopened = λ j more. (same j).openings_are ∙ a.unopened j (subst (λ z. z ≤ j) f.made_is more);
      unended = λ j more. (same j).over_are ∙ a.unended j (subst (λ z. z ≤ j) f.made_is more);
      untold = λ j more. let t = a.untold j (subst (λ z. z ≤ j) f.made_is more) in ((same j).calls_are ∙ t.0, (same j).marks_are ∙ t.1);
      unstreamed = λ j more. let t = a.unstreamed j (subst (λ z. z ≤ j) f.made_is more) in ((same j).came_are ∙ t.0, (same j).try_marks_are ∙ t.1);
    }

-- no open that lives has a number that is still to come
pub not_among : (es : List Event) (j : ℕ) (ls : List Live) → AreLive es ls → made es ≤ j → lives_among j ls ≡ false
not_among es j [] h more = refl
not_among es j (l ∷ ls) h more = both_false (l.number == j) (lives_among j ls) (ne_eqb l.number j (λ same. omega (arith, same, h.0.made_so, more))) (not_among es j ls h.1 more)

-- TIME COMES TO ALL

own_at_time : (kind : OpenKind) (own now : ℕ) → ComesToOwnPort kind own (time_came now)
own_at_time tftp own now = tt
own_at_time (http isn) own now = tt
own_at_time (iscsi isn i) own now = tt
own_at_time (dns id) own now = tt
own_at_time (dhcp a) own now = tt
own_at_time ping own now = tt

own_at_close : (kind : OpenKind) (own : ℕ) (cause : Cause) → ComesToOwnPort kind own (close cause)
own_at_close tftp own cause = tt
own_at_close (http isn) own cause = tt
own_at_close (iscsi isn i) own cause = tt
own_at_close (dns id) own cause = tt
own_at_close (dhcp a) own cause = tt
own_at_close ping own cause = tt

pub times_come : (es : List Event) (n ms : ℕ) (s : State) (ls : List Live) → time es ≡ s.now → AreLive es ls → AllCome (es ++ waits n ms ∷ []) (time_came (s.now + ms)) ls
times_come es n ms s [] now h = tt
times_come es n ms s (l ∷ ls) now h = (
  has_come es (waits n ms) (time_came (s.now + ms)) l tt tt h.0
      (ap (λ (os : List Opening). flat_map (λ x. ticked (time es + ms) ∷ []) os) (live_one l.number es (live_opening l) h.0.opening h.0.lives) ∙ ap (λ z. ticked (z + ms) ∷ []) now)
      (ap (λ (os : List Opening). flat_map (λ x. by_time (time es + ms) ∷ []) os) (live_one l.number es (live_opening l) h.0.opening h.0.lives) ∙ ap (λ z. by_time (z + ms) ∷ []) now)
      (time_more es (waits n ms) ∙ ap (λ z. z + ms) now) (own_at_time l.kind l.own (s.now + ms))
      (by_call es (waits n ms) (ticked (s.now + ms)) (ap (λ (os : List Opening). flat_map (λ x. ticked (time es + ms) ∷ []) os) (live_one l.number es (live_opening l) h.0.opening h.0.lives) ∙ ap (λ z. ticked (z + ms) ∷ []) now)),
  times_come es n ms s ls now h.1,
)

pub time_agrees : (es : List Event) (n ms : ℕ) (s : State) (put : List Out) (after : List Live) (over : List Over) → AgreesState es s → AllTake s.devices (time_came (s.now + ms)) s.live put after over →
    AgreesState ((es ++ waits n ms ∷ []) ++ told put) (with_live (later_by s ms) after)
time_agrees es n ms s put after over a all =
    let e = waits n ms in
    let es1 = es ++ e ∷ [] in
    let es2 = es1 ++ told put in
    let t = all_taken s.devices (time_came (s.now + ms)) s.live put after over all es1 (times_come es n ms s s.live a.time a.each) a.apart in
    let away_same : (j : ℕ) → lives_among j s.live ≡ false → SameAt j es es2 = λ j away. then_same j es es1 es2 (used_same j es e tt (no_call j es e tt (a.others j away))) (t.still j away) in
    let made_is : made es2 ≡ made es = t.made_is ∙ made_used es e tt in
    let few : (j : ℕ) → made es2 ≤ j → lives_among j s.live ≡ false = λ j more. not_among es j s.live a.each (subst (λ z. z ≤ j) made_is more) in
    record {
      time = t.time_is ∙ time_more es e ∙ ap (λ z. z + ms) a.time;
      opens = made_is ∙ a.opens;
      offset = t.offset_is ∙ offset_used es e tt tt ∙ a.offset;
      mac_is = ap (λ (h : Hardware). h.mac) (t.hardware_is ∙ hardware_used es e tt tt) ∙ a.mac_is;
      identity_is = ap (λ (h : Hardware). h.identity) (t.hardware_is ∙ hardware_used es e tt tt) ∙ a.identity_is;
      each = t.each;
      apart = t.apart;
      others = λ j away. either_way (lives_among j s.live) (λ some. live_ended j es2 (t.gone j some away))
          (λ none. live_same j es2 es (away_same j none).openings_are (away_same j none).over_are ∙ a.others j none);
      unopened = λ j more. (away_same j (few j more)).openings_are ∙ a.unopened j (subst (λ z. z ≤ j) made_is more);
      unended = λ j more. (away_same j (few j more)).over_are ∙ a.unended j (subst (λ z. z ≤ j) made_is more);
      untold = λ j more. let u = a.untold j (subst (λ z. z ≤ j) made_is more) in ((away_same j (few j more)).calls_are ∙ u.0, (away_same j (few j more)).marks_are ∙ u.1);
      unstreamed = λ j more. let u = a.unstreamed j (subst (λ z. z ≤ j) made_is more) in ((away_same j (few j more)).came_are ∙ u.0, (away_same j (few j more)).try_marks_are ∙ u.1);
    }

own_at_task : (kind : OpenKind) (own now : ℕ) (t : ReadTask) → ComesToOwnPort kind own (task t now)
own_at_task tftp own now t = tt
own_at_task (http isn) own now t = tt
own_at_task (iscsi isn i) own now t = tt
own_at_task (dns id) own now t = tt
own_at_task (dhcp a) own now t = tt
own_at_task ping own now t = tt

-- a task is no event of the history
pub task_comes : (es : List Event) (t : ReadTask) (now : ℕ) (l : Live) → time es ≡ now → AgreesLive es l → HasCome es (task t now) l
task_comes es t now l at h = record {
  made_so = h.made_so;
  on_net0 = h.on_net0;
  kind_is = h.kind_is;
  login = h.login;
  opening = h.opening;
  lives = h.lives;
  received = h.received ∙ sym (append-nil (heard_calls l.kind l.exchanges));
  tells = h.tells ∙ sym (append-nil (tries 1 l.since ∷ heard_marks l.kind l.number l.exchanges));
  streams = h.streams ∙ sym (append-nil (streamed l.exchanges));
  tries_stand = h.tries_stand ∙ sym (append-nil (tries_at 1 l.since ∷ streamed_marks l.number l.exchanges));
  goes_on = h.goes_on;
  now = at;
  own = own_at_task l.kind l.own now t;
  due = tt;
}

pub closes_come : (es : List Event) (cause : Cause) (ls : List Live) → AreLive es ls → AllCome es (close cause) ls
closes_come es cause [] h = tt
closes_come es cause (l ∷ ls) h = (
  record {
    made_so = h.0.made_so;
    on_net0 = h.0.on_net0;
    kind_is = h.0.kind_is;
    login = h.0.login;
    opening = h.0.opening;
    lives = h.0.lives;
    received = h.0.received ∙ sym (append-nil (heard_calls l.kind l.exchanges));
    tells = h.0.tells ∙ sym (append-nil (tries 1 l.since ∷ heard_marks l.kind l.number l.exchanges));
    streams = h.0.streams ∙ sym (append-nil (streamed l.exchanges));
    tries_stand = h.0.tries_stand ∙ sym (append-nil (tries_at 1 l.since ∷ streamed_marks l.number l.exchanges));
    goes_on = h.0.goes_on;
    now = tt;
    own = own_at_close l.kind l.own cause;
    due = tt;
  },
  closes_come es cause ls h.1,
)

-- some of the opens that live, whose numbers are their own, and the others
pub record Splits (es : List Event) (live some others : List Live) : Type 0 where
  pub each : AreLive es some
  pub own : HaveOwnNumbers some
  pub rest_each : AreLive es others
  pub rest_own : HaveOwnNumbers others
  pub apart : (j : ℕ) → lives_among j some ≡ true → lives_among j others ≡ false
  pub away : (j : ℕ) → lives_among j live ≡ false → lives_among j some ≡ false
  pub rest : (j : ℕ) → lives_among j some ≡ false → lives_among j others ≡ false → lives_among j live ≡ false

-- these are closed, and the others live on
pub some_close : (es : List Event) (s : State) (cause : Cause) (put : List Out) (some others : List Live) (over : List Over) → AgreesState es s → Splits es s.live some others → AllTake s.devices (close cause) some put [] over →
    AgreesState (es ++ told put) (with_live s others)
some_close es s cause put some others over a p all =
    let es2 = es ++ told put in
    let t = all_taken s.devices (close cause) some put [] over all es (closes_come es cause some p.each) p.own in
    let none : (j : ℕ) → made es2 ≤ j → lives_among j some ≡ false = λ j more. not_among es j some p.each (subst (λ z. z ≤ j) t.made_is more) in
    let still : (j : ℕ) → lives_among j others ≡ true → SameAt j es es2 =
    λ j lives. either_way (lives_among j some) (λ mine. absurd (let no : false ≡ true = sym (p.apart j mine) ∙ lives in cc no)) (λ other. t.still j other) in
    record {
      time = t.time_is ∙ a.time;
      opens = t.made_is ∙ a.opens;
      offset = t.offset_is ∙ a.offset;
      mac_is = ap (λ (h : Hardware). h.mac) t.hardware_is ∙ a.mac_is;
      identity_is = ap (λ (h : Hardware). h.identity) t.hardware_is ∙ a.identity_is;
      each = all_same es es2 others (grown es (told put)) t.made_is t.hardware_is still p.rest_each;
      apart = p.rest_own;
      others = λ j gone. either_way (lives_among j some) (λ mine. live_ended j es2 (t.gone j mine refl))
          (λ other. live_same j es2 es (t.still j other).openings_are (t.still j other).over_are ∙ a.others j (p.rest j other gone));
      unopened = λ j more. (t.still j (none j more)).openings_are ∙ a.unopened j (subst (λ z. z ≤ j) t.made_is more);
      unended = λ j more. (t.still j (none j more)).over_are ∙ a.unended j (subst (λ z. z ≤ j) t.made_is more);
      untold = λ j more. let u = a.untold j (subst (λ z. z ≤ j) t.made_is more) in ((t.still j (none j more)).calls_are ∙ u.0, (t.still j (none j more)).marks_are ∙ u.1);
      unstreamed = λ j more. let u = a.unstreamed j (subst (λ z. z ≤ j) t.made_is more) in ((t.still j (none j more)).came_are ∙ u.0, (t.still j (none j more)).try_marks_are ∙ u.1);
    }

either_one : (b c : Bool) → b ≡ false → c ≡ false → (b || c) ≡ false
either_one true c e f = absurd (let no : true ≡ false = e in cc no)
either_one false c e f = f

-- those that a test takes
pub splits_by : (es : List Event) (s : State) (f : Live → Bool) → AgreesState es s → Splits es s.live (filter f s.live) (filter (λ l. not (f l)) s.live)
splits_by es s f a = record {
  each = all_filter (AgreesLive es) f s.live a.each;
  own = own_taken f s.live a.apart;
  rest_each = all_filter (AgreesLive es) (λ l. not (f l)) s.live a.each;
  rest_own = own_taken (λ l. not (f l)) s.live a.apart;
  apart = λ j mine. parts_apart j f s.live a.apart mine;
  away = λ j none. not_taken j f s.live none;
  rest = λ j none more. among_both j f s.live ∙ either_one (lives_among j (filter f s.live)) (lives_among j (left_by_test f s.live)) none more;
}

-- all that lives, the drives first
pub splits_first : (es : List Event) (s : State) (drives : List Drive) → AgreesState es s → Splits es s.live (drives_first drives s.live) []
splits_first es s drives a = record {
  each = all_first (AgreesLive es) drives s.live a.each;
  own = own_first drives s.live a.apart;
  rest_each = tt;
  rest_own = tt;
  apart = λ j mine. refl;
  away = λ j none. among_first j drives s.live ∙ none;
  rest = λ j none more. sym (among_first j drives s.live) ∙ none;
}

-- the drive of a number is closed
pub drop_agrees : (es : List Event) (s s' : State) (number : ℕ) (put : List Out) → AgreesState es s → DropsDrive s number put s' → AgreesState (es ++ told put) s'
drop_agrees es s s' number put a d =
    subst (AgreesState (es ++ told put)) (sym d.leaves)
    (some_close es s stopped_cause put _ _ d.over a (splits_by es s (is_drives_own (filter (is_drive number) s.drives)) a) d.closes)

-- all that lives is closed, and nothing lives
pub close_agrees : (es : List Event) (s : State) (cause : Cause) (put : List Out) (after : List Live) (over : List Over) → AgreesState es s → AllTake s.devices (close cause) s.live put after over →
    AgreesState (es ++ told put) (with_live s after)
close_agrees es s cause put after over a all =
    let es2 = es ++ told put in
    let t = all_taken s.devices (close cause) s.live put after over all es (closes_come es cause s.live a.each) a.apart in
    let few : (j : ℕ) → made es2 ≤ j → lives_among j s.live ≡ false = λ j more. not_among es j s.live a.each (subst (λ z. z ≤ j) t.made_is more) in
    record {
      time = t.time_is ∙ a.time;
      opens = t.made_is ∙ a.opens;
      offset = t.offset_is ∙ a.offset;
      mac_is = ap (λ (h : Hardware). h.mac) t.hardware_is ∙ a.mac_is;
      identity_is = ap (λ (h : Hardware). h.identity) t.hardware_is ∙ a.identity_is;
      each = t.each;
      apart = t.apart;
      others = λ j away. either_way (lives_among j s.live) (λ some. live_ended j es2 (t.gone j some away))
          (λ none. live_same j es2 es (t.still j none).openings_are (t.still j none).over_are ∙ a.others j none);
      unopened = λ j more. (t.still j (few j more)).openings_are ∙ a.unopened j (subst (λ z. z ≤ j) t.made_is more);
      unended = λ j more. (t.still j (few j more)).over_are ∙ a.unended j (subst (λ z. z ≤ j) t.made_is more);
      untold = λ j more. let u = a.untold j (subst (λ z. z ≤ j) t.made_is more) in ((t.still j (few j more)).calls_are ∙ u.0, (t.still j (few j more)).marks_are ∙ u.1);
      unstreamed = λ j more. let u = a.unstreamed j (subst (λ z. z ≤ j) t.made_is more) in ((t.still j (few j more)).came_are ∙ u.0, (t.still j (few j more)).try_marks_are ∙ u.1);
    }
