-- From a run of the client to what the top call shows.
use Rattle.std.proofs.Common.{◌≡◌, ◌⊎◌, inl, inr, ℕ, Bool, true, false, cond, List, [], ◌++◌, subst, sym}
use Rattle.std.specs.List.{AllByRecursion}
use Rattle.nb_defs.specs.Causes.{is_ok_cause}
use Rattle.nb_defs.specs.Records.{In, Out}
use Rattle.nb_record.specs.Outside.{Outside}
use Rattle.nb_runner.specs.declared.status.Status.{Status}
use Rattle.nb_runner.specs.declared.status.Status.TheVariants as status
use Rattle.nb_traced.specs.Plain.{without_graph}
use Rattle.nb_machine.specs.States.{State}
use Rattle.nb_machine.specs.Courses.{Standing, handed_off, stands, Progress, Course}
use Rattle.nb_laws.specs.Events.{Event}
use Rattle.nb_image.specs.Images.{ImageList}
use Rattle.nb_laws.specs.HandOff.{HandsOff, HandsDiskOff, IsFileOf}
use Rattle.nb_laws.specs.Histories.{IsHistory}
use Rattle.nb_laws.specs.Lawful.{HandsAsBrought}
use Rattle.nb_laws.proofs.FirstBlocks.{hands_their_block}
use Rattle.nb_laws.proofs.Theirs.{brings_theirs}
use Rattle.nb_openlaws.specs.Standings.{AgreesStanding}
use Rattle.nb_lawful.proofs.CourseLaws.{has_one, hands_off, keeps_todays, stands_so}
use Rattle.nb_traced.specs.Holdings.{Holdings}
use Rattle.nb_traced.specs.Outputs.{Arrived, Traced}
use Rattle.nb_traced.proofs.Leading.{has_led}
use Rattle.nb_traced.proofs.Aside.{others_stand_outside}
use Rattle.nb_traced.proofs.Following.{opens_have_pieces, numbers_rise, leaves_theirs, rests, ends_are_theirs, commands_leave_none, none_is_left, frames_stand, tries_stand, advances_stand, lowest_are_own, lowest_are_theirs}
use Rattle.nb_client.specs.Progressing.{ShutsStanding}
use Rattle.nb_boot.specs.Stepped.{ShutsLive}
use Rattle.nb_boot.specs.Run.{Run, IsOver, Says, Shows}
use Rattle.nb_boot.specs.Shown.{EndsWhere, was_left, was_handed, was_stopped, ran_out, was_bad, was_full, SaysOfGraph, LeadsToNone, Shown, RunHasEnded, HandsTrueFiles, HandsTrueBlock, IsSaid, ShowsCourse}
use Rattle.nb_boot.proofs.Booted.{boots_silently, boots_disk_silently}
use Rattle.nb_boot.proofs.EntryAlone.{course_known}
use Rattle.nb_boot.proofs.EntryArrivals.{shuts_live}
use Rattle.nb_boot.proofs.EntrySteps.{run_agrees}
use Rattle.nb_boot.proofs.Following.{follows_course}
use Rattle.nb_boot.proofs.Sectors.{sectors_are_booted}
use Rattle.nb_traced.proofs.WhoseEvents.{events_are_theirs, opens_take_all, puts_follow}
use Rattle.nb_traced.proofs.WhoseMades.{mades_are_theirs}

-- what a traced output says of the graph
pub says_of_graph : (outs : List Out) (h : Holdings) (came : List Arrived) → Traced outs h came → SaysOfGraph outs
says_of_graph outs h came t = record {
  state = h.state;
  legal = has_led outs h came t;
  leaves = leaves_theirs outs h came t;
  still = rests outs h came t;
  opens = opens_have_pieces outs h came t;
  rising = numbers_rise outs h came t;
  ends = ends_are_theirs outs h came t;
  commands = commands_leave_none outs h came t;
  lowest = lowest_are_theirs outs h came t;
  own = lowest_are_own outs h came t;
  frames = frames_stand outs h came t;
  tries = tries_stand outs h came t;
  advances = advances_stand outs h came t;
  others = others_stand_outside outs h came t;
  holdings = h;
  came = came;
  traced = t;
  makes = mades_are_theirs outs h came t;
  takes = opens_take_all outs h came t;
  events = events_are_theirs outs h came t;
  puts = puts_follow outs h came t;
}

leads_to_none : (outs : List Out) (h : Holdings) (came : List Arrived) → Traced outs h came → h.living ≡ [] → h.waits ≡ [] → LeadsToNone outs
leads_to_none outs h came t living waits = record { state = h.state; led = has_led outs h came t; none = none_is_left outs h came t living waits }

pub either_shuts : (es : List Event) (p : Standing) (closing : List Out) → AgreesStanding es p → (closing ≡ []) ⊎ ShutsStanding p closing → (closing ≡ []) ⊎ ShutsLive es closing
either_shuts es p closing a (inl none) = inl none
either_shuts es p closing a (inr shuts) = inr (shuts_live es p closing a shuts)

-- its PARTs are of a hand-off
pub handed_so : (ins : List In) (outs : List Out) (p : Progress) (es : List Event) → Course ins outs p → IsHistory ins outs es → HandsAsBrought es outs
handed_so ins outs p es c h = subst (HandsAsBrought es) (sym h.written) (keeps_todays ins outs p es c h).parts

-- the history of a run
abbrev pub history_of : (before after : Outside) (r : Run before after) → (es : List Event) × IsHistory r.ins (without_graph r.outs) es × ((other : List Event) → IsHistory r.ins (without_graph r.outs) other → other ≡ es)
history_of before after r = has_one r.ins (without_graph r.outs) r.progress (follows_course r.ins r.outs r.progress r.came r.follows)

abbrev pub shown_by : (before after : Outside) (r : Run before after) → Shown before after
shown_by before after r =
    let course = follows_course r.ins r.outs r.progress r.came r.follows in
    let es = (history_of before after r).0 in
    let is = (history_of before after r).1 in
    record {
      ins = r.ins;
      outs = r.outs;
      progress = r.progress;
      rest = r.rest;
      closing = r.closing;
      read = r.read;
      written = r.written;
      lost = r.lost;
      passes = r.passes;
      spelled = r.spelled;
      course = course;
      closed = r.closed;
      alone = r.alone;
      texts = r.texts;
      few = r.few;
      traced = says_of_graph (r.outs ++ r.closing) r.at_end r.came r.traced_all;
      history = es;
      is_history = is;
      is_lawful = keeps_todays r.ins (without_graph r.outs) r.progress es course is;
      brings = brings_theirs es;
      in_turn = r.in_turn;
      stepped = (run_agrees r.ins r.outs r.closing r.progress r.came r.holdings r.at_end es r.follows r.traced r.traced_all is).0;
      shuts = either_shuts es r.progress.standing r.closing (stands_so r.ins (without_graph r.outs) r.progress es course is).0 r.shuts;
      contents = (run_agrees r.ins r.outs r.closing r.progress r.came r.holdings r.at_end es r.follows r.traced r.traced_all is).1;
      silent = boots_silently es (course_known r.ins (without_graph r.outs) r.progress es course is);
      silent_disk = boots_disk_silently es (course_known r.ins (without_graph r.outs) r.progress es course is);
      sectors = sectors_are_booted es (without_graph r.outs) (handed_so r.ins (without_graph r.outs) r.progress es course is);
      blocks = λ rest hands. hands_their_block es (without_graph r.outs) rest hands;
    }

ended_by : (before after : Outside) (r : Run before after) (number : ℕ) → IsOver before after r number → RunHasEnded before after (shown_by before after r) number
ended_by before after r number h = record {
  ends = h.ends;
  put = h.put;
  shuts = h.shuts;
  closing = h.closing;
  front = h.front;
  last = h.last;
  none = leads_to_none (r.outs ++ r.closing) r.at_end r.came r.traced_all h.none_live h.none_wait;
  all = h.all;
}

-- a run of the status zero has handed off
no_zero : (t : Bool) → ◌≡◌ {A = ℕ} 0 (cond t 3 4) → ⊥
no_zero true e = cc
no_zero false e = cc

has_handed_off : (p : Progress) (rest : List ℕ) (o : Outside) → EndsWhere p rest o 0 → (s : State) × (p.standing ≡ handed_off s)
has_handed_off p rest o (was_left s cause at e) = absurd (no_zero (is_ok_cause cause) e)
has_handed_off p rest o (was_handed s at e) = (s, at)
has_handed_off p rest o (was_stopped s at e) = absurd (let no : ◌≡◌ {A = ℕ} 0 5 = e in cc)
has_handed_off p rest o (ran_out waits none at e) = absurd (let no : ◌≡◌ {A = ℕ} 0 5 = e in cc)
has_handed_off p rest o (was_bad few bad e) = absurd (let no : ◌≡◌ {A = ℕ} 0 6 = e in cc)
has_handed_off p rest o (was_full full waits more e) = absurd (let no : ◌≡◌ {A = ℕ} 0 11 = e in cc)

-- what is handed off was brought, and is the servers'
hands_all : (ins : List In) (outs : List Out) (p : Progress) (es : List Event) (s : State) → p.standing ≡ handed_off s → Course ins outs p → IsHistory ins outs es → HandsOff es outs [] ⊎ HandsDiskOff es outs []
hands_all ins outs p es s at c h = hands_off ins outs p.used s es (subst (λ z. Course ins outs (stands p.used z)) at c) h

either_theirs : (before after : Outside) (r : Run before after) → HandsOff (history_of before after r).0 (without_graph r.outs) [] ⊎ HandsDiskOff (history_of before after r).0 (without_graph r.outs) [] →
    HandsTrueFiles before after (shown_by before after r) ⊎ HandsTrueBlock before after (shown_by before after r)
either_theirs before after r (inl hands) =
    let es = (history_of before after r).0 in
    inl (hands, λ store honest. subst (λ (z : ImageList). AllByRecursion (IsFileOf store es) z.images) (sym hands.list_is) (brings_theirs es store honest))
either_theirs before after r (inr hands) = inr (hands, hands_their_block (history_of before after r).0 (without_graph r.outs) [] hands)

theirs : (before after : Outside) (r : Run before after) → EndsWhere r.progress r.rest after 0 → HandsTrueFiles before after (shown_by before after r) ⊎ HandsTrueBlock before after (shown_by before after r)
theirs before after r e =
    let (s, at) = has_handed_off r.progress r.rest after e in
    let t = history_of before after r in
    either_theirs before after r (hands_all r.ins (without_graph r.outs) r.progress t.0 s at (follows_course r.ins r.outs r.progress r.came r.follows) t.1)

pub said : (s : Status) (before after : Outside) (r : Run before after) → Says s before after r → IsSaid s before after (shown_by before after r)
said status.HandedOff before after r h = (ended_by before after r 0 h, theirs before after r h.ends)
said status.Ended before after r h = ended_by before after r 3 h
said status.ScriptFailed before after r h = ended_by before after r 4 h
said status.Unfinished before after r h = ended_by before after r 5 h
said status.BadRecord before after r h = ended_by before after r 6 h
said status.TooManyRecords before after r h = ended_by before after r 11 h
said status.ReadFault before after r h = record { between = h.between; partial = h.partial; closing = h.closing; all = h.all; rose = h.rose }
said status.WriteFault before after r h = h
said status.NoMemory before after r h = h
said status.AttachFault before after r h = h
said status.BadWords before after r h = absurd h

pub shows_course : (s : Status) (before after : Outside) → Shows s before after → ShowsCourse s before after
shows_course s before after shows = (shown_by before after shows.0, said s before after shows.0 shows.1)
