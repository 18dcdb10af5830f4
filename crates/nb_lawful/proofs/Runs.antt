-- Each course has a history, and it keeps the laws.
use Rattle.std.proofs.Common.{◌≡◌, inl, inr, ℕ, List, [], ◌∷◌, ◌++◌, length, refl, sym, ◌∙◌, ap, subst}
use Rattle.std.proofs.lemmas.Option.{none-some}
use Rattle.nb_defs.specs.Records.{In, Out, step}
use Rattle.std.specs.List.{AllByRecursion}
use Rattle.nb_machine.specs.Lives.{Live}
use Rattle.nb_machine.specs.States.{State}
use Rattle.nb_machine.specs.Scripts.{Waiting}
use Rattle.nb_machine.specs.Courses as course
use Rattle.nb_machine.specs.Courses.{Standing, Progress, StepBegins, Proceeds, Course}
use Rattle.nb_laws.specs.Events.{Event, puts, inputs, outputs, used_by, written_by, EachEvent, EachThen}
use Rattle.nb_laws.specs.Histories.{IsRead, IsHistory}
use Rattle.nb_laws.specs.Lists.{last_place, calls, openings, gathered}
use Rattle.nb_laws.specs.Drives.{sessions}
use Rattle.nb_laws.specs.Frames.{TriesSo}
use Rattle.nb_laws.specs.Progress.{StepsSo, AdvancesSo, IsAdvanced, NoneOversleeps}
use Rattle.nb_laws.proofs.Histories.{each_append, each_then_append, one_history}
use Rattle.nb_laws.proofs.SoFar.{nothing_so_far}
use Rattle.nb_laws.proofs.Settling.{over_rests}
use Rattle.nb_laws.proofs.Tellings.{told, tries_later}
use Rattle.nb_laws.specs.CommandsSoFar.{CommandsSoFar}
use Rattle.nb_laws.specs.Hookings.{NoneIsHooked}
use Rattle.nb_openlaws.specs.Standings.{live_opening, AreLive, AgreesStanding}
use Rattle.nb_openlaws.specs.OpenEndings.{OpensEndSo, FramesSo}
use Rattle.nb_openlaws.specs.OpenReasons.{OpenReasons}
use Rattle.nb_openlaws.proofs.UsedEvents.{IsUsed, live_one}
use Rattle.nb_openlaws.proofs.Courses.{step_told, step_event, step_more, step_event_is, step_more_is, move_told, writes_more, uses_none, uses_one, writes_one}
use Rattle.nb_openlaws.proofs.KeptOpens.{KeptAt, course_kept}
use Rattle.nb_openlaws.proofs.CourseEvents.{standing_unanswered}
use Rattle.nb_openlaws.proofs.NextOpens.{MayHook}
use Rattle.nb_lawful.specs.StateByLists.{IsLiveBy, IsStateBy}
use Rattle.nb_lawful.specs.Results.{CommandsSo}
use Rattle.nb_lawful.specs.ScriptAgreement.{HandsEither, HandsWhatCame, ScriptsAgree}
use Rattle.nb_lawful.specs.Lawful.{KeepsLaws}
use Rattle.nb_lawful.proofs.Stepping.{used_stands}
use Rattle.nb_lawful.proofs.Scripted.{AnswersAt, step_scripts, move_scripts, MayBoot}
use Rattle.nb_lawful.proofs.Onward.{reached_asks, next_rightly}
use Rattle.nb_lawful.proofs.Resting.{asking_rests, waiting_rests}
use Rattle.nb_lawful.proofs.StepReasons.{course_counts, step_stands}
use Rattle.nb_lawful.proofs.OpenWays.{WaysAt, step_ways, move_ways}
use Rattle.nb_lawful.proofs.Devices.{DeviceAgrees, told_read, move_device}
use Rattle.nb_lawful.proofs.DeviceSteps.{step_device}
use Rattle.nb_lawful.proofs.Unhooked.{over_unhooked, left_unhooked, reached_unhooked, waiting_unhooked}
use Rattle.nb_lawful.proofs.DriveAnswers.{says_all}
use Rattle.nb_openlaws.specs.Sessions.{SessionsStand}
use Rattle.nb_lawful.proofs.Plain.{PlainAt, move_plain}
use Rattle.nb_lawful.proofs.StepPlain.{step_plain}

-- what the history says of where a course stands, and of each of its events
pub record Story (ins : List In) (outs : List Out) (es : List Event) (p : Standing) : Type 0 where
  pub used : ins ≡ inputs es
  pub written : outs ≡ outputs es
  pub base : AgreesStanding es p
  pub sessions : SessionsStand es p
  pub plain : PlainAt es p
  pub scripts : ScriptsAgree es outs p
  pub device : DeviceAgrees es p
  pub ways : WaysAt es p
  pub read : EachEvent IsRead [] es
  pub commands : EachEvent CommandsSo [] es
  pub steps : EachEvent StepsSo [] es
  pub ends : EachEvent OpensEndSo [] es
  pub frames : EachEvent FramesSo [] es
  pub tries : EachThen TriesSo [] es
  pub advances : EachEvent AdvancesSo [] es
  pub advanced : IsAdvanced es

-- WHERE A COURSE STANDS

pub standing_rests : (es : List Event) (outs : List Out) (p : Standing) → AgreesStanding es p → ScriptsAgree es outs p → NoneOversleeps es
standing_rests es outs course.ready a h = over_rests es (ap (λ (x : CommandsSoFar). x.is_open) (nothing_so_far es h.0))
standing_rests es outs (course.running s inner outer) a h = over_rests es h.1.is_open
standing_rests es outs (course.waiting s w) a h = waiting_rests es s w a.opens h.1.now h.4
standing_rests es outs (course.reaching s inner outer next) a h = let r = reached_asks es next h.4 in asking_rests es r.opens r.shown r.said r.asks
standing_rests es outs (course.yielded s inner outer) a h = over_rests es h.1.is_open
standing_rests es outs (course.handing s rest) a h = over_rests es h.1
standing_rests es outs (course.left s [] cause) a h = over_rests es h.2.0
standing_rests es outs (course.left s (inner ∷ outer) cause) a h = λ seconds still comes. absurd (let (shown, said, sleeps_so) = comes in none-some shown (sym h.2.2 ∙ said))
standing_rests es outs (course.handed_off s) a h = over_rests es h.0
standing_rests es outs (course.stopped s) a h = h.0

-- no disk that a command hooks has answered
pub standing_unhooked : (es : List Event) (outs : List Out) (p : Standing) → AgreesStanding es p → SessionsStand es p → ScriptsAgree es outs p → NoneIsHooked es
standing_unhooked es outs course.ready a t h = over_unhooked es (ap (λ (x : CommandsSoFar). x.is_open) (nothing_so_far es h.0))
standing_unhooked es outs (course.running s inner outer) a t h = over_unhooked es h.1.is_open
standing_unhooked es outs (course.waiting s w) a t h = waiting_unhooked es s w a (says_all es s.live t) h.4
standing_unhooked es outs (course.reaching s inner outer next) a t h = reached_unhooked es next h.4
standing_unhooked es outs (course.yielded s inner outer) a t h = over_unhooked es h.1.is_open
standing_unhooked es outs (course.handing s rest) a t h = over_unhooked es h.1
standing_unhooked es outs (course.left s [] cause) a t h = over_unhooked es h.2.0
standing_unhooked es outs (course.left s (inner ∷ outer) cause) a t h = left_unhooked es cause h.2.1
standing_unhooked es outs (course.handed_off s) a t h = over_unhooked es h.0
standing_unhooked es outs (course.stopped s) a t h = h.2

pub standing_hands : (es : List Event) (outs : List Out) (p : Standing) → ScriptsAgree es outs p → HandsWhatCame es outs
standing_hands es outs course.ready h = inl h.1
standing_hands es outs (course.running s inner outer) h = inl h.2.none
standing_hands es outs (course.waiting s w) h = inl h.2.none
standing_hands es outs (course.reaching s inner outer next) h = inl h.2.none
standing_hands es outs (course.yielded s inner outer) h = inl h.2.none
standing_hands es outs (course.handing s rest) h = inr (rest, h.2)
standing_hands es outs (course.left s outer cause) h = inl h.4.none
standing_hands es outs (course.handed_off s) h = inr ([], h.1)
standing_hands es outs (course.stopped s) h = inl h.1

-- WHAT THE OPENS GIVE

-- the reasons of the records of opens, at each step and at each move
pub record OpensGive : Type 0 where
  pub answers : (ins : List In) (outs : List Out) (es : List Event) (m : Progress) → Story ins outs es m.standing → KeptAt m.standing → AnswersAt es m.standing
  -- where a hooked drive is booted, and what each step and each move leaves of the drives' sessions
  pub may_boot : (ins : List In) (outs : List Out) (es : List Event) (m : Progress) → Story ins outs es m.standing → KeptAt m.standing → MayBoot es m.standing
  pub step_sessions : (ins : List In) (outs : List Out) (es : List Event) (m : Progress) (r : In) (added : List Out) (m2 : Progress) (begins : StepBegins m r added m2) (t : Story ins outs es m.standing) → KeptAt m.standing →
      SessionsStand ((es ++ step_event es m r added m2 begins t.base ∷ []) ++ told (step_more m r added m2 begins)) m2.standing
  pub move_sessions : (ins : List In) (outs : List Out) (es : List Event) (m : Progress) (added : List Out) (m2 : Progress) → Proceeds m added m2 → Story ins outs es m.standing → KeptAt m.standing → SessionsStand (es ++ told added) m2.standing
  pub at_step : (ins : List In) (outs : List Out) (es : List Event) (m : Progress) (r : In) (added : List Out) (m2 : Progress) (begins : StepBegins m r added m2) (t : Story ins outs es m.standing) → KeptAt m.standing →
      AdvancesSo es (step_event es m r added m2 begins t.base) × OpensEndSo es (step_event es m r added m2 begins t.base) × FramesSo es (step_event es m r added m2 begins t.base)
      × TriesSo es (step_event es m r added m2 begins t.base) [] × OpenReasons (es ++ step_event es m r added m2 begins t.base ∷ []) (step_more m r added m2 begins)
  pub at_move : (ins : List In) (outs : List Out) (es : List Event) (m : Progress) (added : List Out) (m2 : Progress) → Proceeds m added m2 → Story ins outs es m.standing → KeptAt m.standing → OpenReasons es added

each_one : (P : List Event → Event → Type 0) (es : List Event) (e : Event) (more : List Out) → EachEvent P [] es → P es e → EachEvent P (es ++ e ∷ []) (told more) → EachEvent P [] ((es ++ e ∷ []) ++ told more)
each_one P es e more before one after = each_append P [] (es ++ e ∷ []) (told more) (each_append P [] es (e ∷ []) before (one, tt)) after

-- THE EMPTY COURSE

advanced_at_start : IsAdvanced []
unfolding last_place calls openings gathered sessions
advanced_at_start = λ k. refl

story_first : Story [] [] [] course.ready
story_first = record { used = refl; written = refl; base = refl; sessions = tt; plain = tt; scripts = (refl, tt); device = tt; ways = tt; read = tt; commands = tt; steps = tt; ends = tt; frames = tt; tries = tt; advances = tt; advanced = advanced_at_start }

-- A STEP

-- how the base tells it, over the event and the records that it has
step_base : (es : List Event) (m : Progress) (r : In) (added : List Out) (m2 : Progress) (begins : StepBegins m r added m2) (a : AgreesStanding es m.standing) →
    (used_by (step_event es m r added m2 begins a) ≡ r ∷ []) × (added ≡ written_by (step_event es m r added m2 begins a) ∷ step_more m r added m2 begins)
    × AgreesStanding ((es ++ step_event es m r added m2 begins a ∷ []) ++ told (step_more m r added m2 begins)) m2.standing
step_base es m r added m2 begins a =
    let b = step_told es m r added m2 begins a in
    let e = step_event_is es m r added m2 begins a in
    let more = step_more_is es m r added m2 begins a in (
      subst (λ z. used_by z ≡ r ∷ []) e b.is_record,
      subst (λ z. added ≡ written_by z ∷ step_more m r added m2 begins) e (subst (λ z. added ≡ written_by b.event ∷ z) more b.puts_so),
      subst (λ z. AgreesStanding ((es ++ z ∷ []) ++ told (step_more m r added m2 begins)) m2.standing) e (subst (λ z. AgreesStanding ((es ++ b.event ∷ []) ++ told z) m2.standing) more b.agrees),
    )

-- its event is used, and has its place among those that tell of commands
step_used : (es : List Event) (m : Progress) (r : In) (added : List Out) (m2 : Progress) (begins : StepBegins m r added m2) (a : AgreesStanding es m.standing) → IsUsed (step_event es m r added m2 begins a)
step_used es m r added m2 begins a = let b = step_told es m r added m2 begins a in subst IsUsed (step_event_is es m r added m2 begins a) b.used

-- records that are written are no steps of their own
told_steps : (es : List Event) (outs : List Out) → EachEvent StepsSo es (told outs)
told_steps es [] = tt
told_steps es (o ∷ outs) = (tt, told_steps (es ++ puts o ∷ []) outs)

step_story : OpensGive → (ins : List In) (outs : List Out) (es : List Event) (m : Progress) (r : In) (added : List Out) (m2 : Progress) (begins : StepBegins m r added m2) (t : Story ins outs es m.standing) → KeptAt m.standing → m.used ≡ length ins →
    added ≡ step m2.used ∷ step_more m r added m2 begins → Story (ins ++ r ∷ []) (outs ++ added) ((es ++ step_event es m r added m2 begins t.base ∷ []) ++ told (step_more m r added m2 begins)) m2.standing
step_story give ins outs es m r added m2 begins t kept counted is =
    let e = step_event es m r added m2 begins t.base in
    let more = step_more m r added m2 begins in
    let b = step_base es m r added m2 begins t.base in
    let answers = give.answers ins outs es m t kept in
    let g = step_scripts es outs m r added m2 begins t.base answers t.sessions t.scripts in
    let x = give.at_step ins outs es m r added m2 begins t kept in
    let scripts : ScriptsAgree ((es ++ e ∷ []) ++ told more) (outs ++ added) m2.standing = subst (λ z. ScriptsAgree ((es ++ e ∷ []) ++ told more) (outs ++ z) m2.standing) (sym is) g.agrees in
    let d = step_device es outs (outs ++ added) m r added m2 begins t.base t.device t.scripts scripts in
    record {
      used = uses_none (ins ++ r ∷ []) (es ++ e ∷ []) more (uses_one ins es e r t.used b.0);
      written = writes_one outs es e added more t.written b.1;
      base = b.2;
      sessions = give.step_sessions ins outs es m r added m2 begins t kept;
      plain = step_plain es outs m r added m2 begins t.base answers t.scripts t.plain;
      scripts = scripts;
      device = d.device;
      ways = step_ways es m r added m2 begins t.base t.ways;
      read = each_one IsRead es e more t.read d.read (told_read (es ++ e ∷ []) more g.stands);
      commands = each_one CommandsSo es e more t.commands (used_stands es e (step_used es m r added m2 begins t.base)) g.stands;
      steps = each_one StepsSo es e more t.steps (step_stands es outs m r added m2 begins t.base (counted ∙ ap length t.used) (standing_unanswered es m.standing t.base kept) (standing_unhooked es outs m.standing t.base t.sessions t.scripts) t.scripts) (told_steps (es ++ e ∷ []) more);
      ends = each_one OpensEndSo es e more t.ends x.1 x.4.ends;
      frames = each_one FramesSo es e more t.frames x.2 x.4.frames;
      tries = each_then_append TriesSo [] (es ++ e ∷ []) (told more) tries_later (each_then_append TriesSo [] es (e ∷ []) tries_later t.tries (x.3, tt)) x.4.tries;
      advances = each_one AdvancesSo es e more t.advances x.0 x.4.advances;
      advanced = x.4.after;
    }

-- STEP has the count of the records used
step_numbered : (m : Progress) (r : In) (added : List Out) (m2 : Progress) (begins : StepBegins m r added m2) → added ≡ step m2.used ∷ step_more m r added m2 begins
step_numbered m r added m2 (course.runs n s code valid reads) = refl
step_numbered m r added m2 (course.refuses n s cause valid refuses) = refl
step_numbered m r added m2 (course.waits_on n s s2 w r0 put over valid net none) = refl
step_numbered m r added m2 (course.is_answered n s s2 w r0 put more over x p valid net some leads) = refl
step_numbered m r added m2 (course.switches_off n s w put over all) = refl
step_numbered m r added m2 (course.resumes n s s2 inner outer r0 put over valid net) = refl
step_numbered m r added m2 (course.goes_off n s inner outer put over all) = refl

-- A MOVE

-- where a drive's open is next, its login is what the history says
pub may_hook : (es : List Event) (outs : List Out) (p : Standing) → ScriptsAgree es outs p → MayHook es p
may_hook es outs course.ready h = tt
may_hook es outs (course.running s inner outer) h = tt
may_hook es outs (course.waiting s w) h = tt
may_hook es outs (course.reaching s inner outer next) h = next_rightly es s next h.1.table h.4
may_hook es outs (course.yielded s inner outer) h = tt
may_hook es outs (course.handing s rest) h = tt
may_hook es outs (course.left s outer cause) h = tt
may_hook es outs (course.handed_off s) h = tt
may_hook es outs (course.stopped s) h = tt

move_story : OpensGive → (ins : List In) (outs : List Out) (es : List Event) (m : Progress) (added : List Out) (m2 : Progress) → Proceeds m added m2 → Story ins outs es m.standing → KeptAt m.standing → Story ins (outs ++ added) (es ++ told added) m2.standing
move_story give ins outs es m added m2 moves t kept =
    let base = move_told es m added m2 moves t.base (may_hook es outs m.standing t.scripts) in
    let g = move_scripts es outs m added m2 moves (record { tells = t.sessions; plain = t.plain; boots = give.may_boot ins outs es m t kept }) t.base base t.scripts in
    let x = give.at_move ins outs es m added m2 moves t kept in
    let device = move_device es outs m added m2 moves t.device t.scripts g.agrees in
    record {
      used = uses_none ins es added t.used;
      written = writes_more outs es added t.written;
      base = base;
      sessions = give.move_sessions ins outs es m added m2 moves t kept;
      plain = move_plain es outs m added m2 moves t.base t.scripts t.plain;
      scripts = g.agrees;
      device = device;
      ways = move_ways es m added m2 moves t.ways base device;
      read = each_append IsRead [] es (told added) t.read (told_read es added g.stands);
      commands = each_append CommandsSo [] es (told added) t.commands g.stands;
      steps = each_append StepsSo [] es (told added) t.steps (told_steps es added);
      ends = each_append OpensEndSo [] es (told added) t.ends x.ends;
      frames = each_append FramesSo [] es (told added) t.frames x.frames;
      tries = each_then_append TriesSo [] es (told added) tries_later t.tries x.tries;
      advances = each_append AdvancesSo [] es (told added) t.advances x.advances;
      advanced = x.after;
    }

-- THE COURSE

pub course_story : OpensGive → (ins : List In) (outs : List Out) (p : Progress) → Course ins outs p → (es : List Event) × Story ins outs es p.standing
course_story give ins outs p course.begins = ([], story_first)
course_story give ins outs p (course.uses ins0 outs0 m0 r added m1 c begins) =
    let (es, t) = course_story give ins0 outs0 m0 c in
    ((es ++ step_event es m0 r added m1 begins t.base ∷ []) ++ told (step_more m0 r added m1 begins), step_story give ins0 outs0 es m0 r added m1 begins t (course_kept ins0 outs0 m0 c) (course_counts ins0 outs0 m0 c) (step_numbered m0 r added m1 begins))
course_story give ins outs p (course.goes_on ins0 outs0 m0 added m1 c moves) =
    let (es, t) = course_story give ins0 outs0 m0 c in
    (es ++ told added, move_story give ins0 outs0 es m0 added m1 moves t (course_kept ins0 outs0 m0 c))

-- it has a history, which keeps the laws
pub lawful_course : OpensGive → (ins : List In) (outs : List Out) (p : Progress) → Course ins outs p → (es : List Event) × IsHistory ins outs es × KeepsLaws es × AgreesStanding es p.standing × ScriptsAgree es outs p.standing
lawful_course give ins outs p c =
    let (es, t) = course_story give ins outs p c in (
      es,
      record { used = t.used; written = t.written; read = t.read },
      record {
        steps = t.steps;
        ends = t.ends;
        commands = t.commands;
        frames = t.frames;
        tries = t.tries;
        advances = t.advances;
        advanced = t.advanced;
        unfinished = standing_unanswered es p.standing t.base (course_kept ins outs p c);
        unhooked = standing_unhooked es outs p.standing t.base t.sessions t.scripts;
        rested = standing_rests es outs p.standing t.base t.scripts;
        parts = subst (λ z. HandsWhatCame es z) t.written (standing_hands es outs p.standing t.scripts);
      },
      t.base,
      t.scripts,
    )

-- each history of its records keeps them
pub lawful_history : OpensGive → (ins : List In) (outs : List Out) (p : Progress) (es : List Event) → Course ins outs p → IsHistory ins outs es → KeepsLaws es
lawful_history give ins outs p es c h = let t = lawful_course give ins outs p c in subst KeepsLaws (one_history ins outs t.0 es t.1 h) t.2

-- where all was handed off, it is what commands have brought
pub handed_off_all : OpensGive → (ins : List In) (outs : List Out) (n : ℕ) (s : State) (es : List Event) → Course ins outs (course.stands n (course.handed_off s)) → IsHistory ins outs es → HandsEither es outs []
handed_off_all give ins outs n s es c h =
    let t = lawful_course give ins outs (course.stands n (course.handed_off s)) c in subst (λ z. HandsEither z outs []) (one_history ins outs t.0 es t.1 h) t.4.1

-- THE STATE BY THE LISTS

each_by : (es : List Event) (ls : List Live) → AreLive es ls → AllByRecursion (IsLiveBy es) ls
each_by es [] h = tt
each_by es (l ∷ ls) h = (record { is_opening = h.0.opening; is_received = h.0.received; is_kind = h.0.kind_is; lives = live_one l.number es (live_opening l) h.0.opening h.0.lives }, each_by es ls h.1)

-- where a command waits, the lists say the state
pub waiting_state : OpensGive → (ins : List In) (outs : List Out) (n : ℕ) (s : State) (w : Waiting) (es : List Event) → Course ins outs (course.stands n (course.waiting s w)) → IsHistory ins outs es → IsStateBy es s
waiting_state give ins outs n s w es c h =
    let (found, t) = course_story give ins outs (course.stands n (course.waiting s w)) c in
    subst (λ z. IsStateBy z s) (one_history ins outs found es (record { used = t.used; written = t.written; read = t.read }) h) (record {
      is_time = t.base.time;
      is_device = t.device;
      is_table = t.scripts.1.table;
      is_up = t.scripts.1.up;
      is_offset = t.base.offset;
      is_made = t.base.opens;
      each = each_by found s.live t.base.each;
    })
