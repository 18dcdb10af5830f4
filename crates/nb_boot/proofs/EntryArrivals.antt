-- What comes to the opens with an event, by the history as by the machine, and what stands first in its step.
use Rattle.std.proofs.Common.{◌≡◌, inl, inr, ℕ, ◌+◌, ◌||◌, false, cond, List, [], ◌∷◌, ◌++◌, map, refl, sym, ◌∙◌, ap, subst, append-nil, ne_eqb, eq-eqb}
use Rattle.std.specs.List.{flat_map, AllByRecursion}
use Rattle.std.proofs.lemmas.Bool.{cases_eq}
use Rattle.nb_defs.specs.Records.{In, Start, start, frame, tick, off, Out, step}
use Rattle.nb_ledger.specs.declared.event.Way.TheVariants as way
use Rattle.nb_stack.specs.Brings.{Brought}
use Rattle.nb_tftp.specs.History.{ticked}
use Rattle.nb_tftp.proofs.BlockLemmas.{either_way}
use Rattle.nb_machine.specs.Lives.{Live}
use Rattle.nb_machine.specs.Network.{on_net0}
use Rattle.nb_machine.specs.States.{State}
use Rattle.nb_machine.specs.Courses as course
use Rattle.nb_machine.specs.Courses.{Standing}
use Rattle.nb_laws.specs.Events.{Event, starts, hears, waits, stops, puts, used_by, written_by}
use Rattle.nb_laws.specs.Histories.{IsRead}
use Rattle.nb_laws.specs.Lists.{Opening, openings, open_has_ended, gathered, live, call_at, time}
use Rattle.nb_openlaws.specs.Standings.{AgreesStanding, AgreesState, HaveOwnNumbers, AreLive, lives_among, live_opening}
use Rattle.nb_lawful.proofs.Devices.{DeviceAgrees}
use Rattle.nb_openlaws.proofs.HeardFrames.{found}
use Rattle.nb_openlaws.proofs.UsedEvents.{IsUsed, no_call}
use Rattle.nb_traced.specs.Entries.{came_to}
use Rattle.nb_traced.specs.Outputs.{Arrived}
use Rattle.nb_network.specs.Takes.{ArrivesAt, at_all, at_connection, at_echo, at_none, at_port, arrival, BeginsWithEntry}
use Rattle.nb_client.specs.Progressing.{BringsTo, ShutsStanding, StandsFirst}
use Rattle.nb_boot.specs.Entries.{way_of_call, segment_arrival, arrival_at}
use Rattle.nb_talks.specs.Talking.{by_time}
use Rattle.nb_boot.specs.Stepped.{EntersWith, ShutsLive}
use Rattle.nb_boot.proofs.EntryFrames.{StepComes, none_arrives, enters_none, frame_comes, lives_there, none_some, one_open}

-- A TIME

pub time_comes_to : (k : ℕ) (es : List Event) (n ms : ℕ) (o : Opening) → live k es ≡ o ∷ [] → call_at k es (waits n ms) ≡ ticked (time es + ms) ∷ []
time_comes_to k es n ms o lives = ap (λ (os : List Opening). flat_map (λ x. ticked (time es + ms) ∷ []) os) lives

times_to : (k n : ℕ) (ls : List Live) → HaveOwnNumbers ls → came_to k (map (λ l. arrival l.number way.Time n) ls) ≡ cond (lives_among k ls) (record { number = n; way = 3 } ∷ []) []
times_to k n [] apart = refl
times_to k n (l ∷ ls) apart = elim (cases_eq l.number k) [
  | inl same ↦
      ap (λ b. cond b (record { number = n; way = 3 } ∷ []) [] ++ came_to k (map (λ x. arrival x.number way.Time n) ls)) (eq-eqb l.number k same)
      ∙ ap (λ z. record { number = n; way = 3 } ∷ z) (times_to k n ls apart.1 ∙ ap (λ b. cond b (record { number = n; way = 3 } ∷ []) []) (subst (λ z. lives_among z ls ≡ false) same apart.0))
      ∙ sym (ap (λ b. cond (b || lives_among k ls) (record { number = n; way = 3 } ∷ []) []) (eq-eqb l.number k same))
  | inr other ↦
      ap (λ b. cond b (record { number = n; way = 3 } ∷ []) [] ++ came_to k (map (λ x. arrival x.number way.Time n) ls)) (ne_eqb l.number k other)
      ∙ times_to k n ls apart.1
      ∙ sym (ap (λ b. cond (b || lives_among k ls) (record { number = n; way = 3 } ∷ []) []) (ne_eqb l.number k other))
]

all_live : (es : List Event) (ls : List Live) → AreLive es ls → AllByRecursion (λ l. (o : Opening) × (live l.number es ≡ o ∷ [])) ls
all_live es [] h = tt
all_live es (l ∷ ls) h = ((live_opening l, lives_there es l h.0), all_live es ls h.1)

-- a time brings no segment
no_segments : (e : Event) (t : ℕ) (os : List Opening) → flat_map (segment_arrival e) (flat_map (λ o. by_time t ∷ []) os) ≡ []
no_segments e t [] = refl
no_segments e t (o ∷ os) = no_segments e t os

pub time_arrives : (k : ℕ) (es : List Event) (n ms : ℕ) → arrival_at k es (waits n ms) ≡ map (λ c. record { number = n; way = way_of_call c }) (call_at k es (waits n ms))
time_arrives k es n ms =
    ap (λ z. map (λ c. record { number = n; way = way_of_call c }) (call_at k es (waits n ms)) ++ z) (no_segments (waits n ms) (time es + ms) (live k es)) ∙ append-nil (map (λ c. record { number = n; way = way_of_call c }) (call_at k es (waits n ms)))

time_counted : (es : List Event) (s : State) (n ms k : ℕ) → AgreesState es s → came_to k (map (λ l. arrival l.number way.Time n) s.live) ≡ arrival_at k es (waits n ms)
time_counted es s n ms k a =
    times_to k n s.live a.apart
    ∙ either_way (lives_among k s.live)
    (λ some. let l = found (λ z. (o : Opening) × (live z es ≡ o ∷ [])) k s.live (all_live es s.live a.each) some in
    ap (λ b. cond b (record { number = n; way = 3 } ∷ []) []) some ∙ sym (ap (λ cs. map (λ c. record { number = n; way = way_of_call c }) cs) (time_comes_to k es n ms l.0 l.1)))
    (λ away. ap (λ b. cond b (record { number = n; way = 3 } ∷ []) []) away
    ∙ sym (ap (λ cs. map (λ c. record { number = n; way = way_of_call c }) cs) (no_call k es (waits n ms) tt (a.others k away)).0))
    ∙ sym (time_arrives k es n ms)

-- where something comes, an open lives, and the step begins with its time
time_enters : (es : List Event) (n ms : ℕ) (ls : List Live) (more : List Out) → AreLive es ls → ((k : ℕ) → lives_among k ls ≡ false → live k es ≡ []) → BeginsWithEntry (map (λ l. arrival l.number way.Time n) ls) more →
    EntersWith way.Time (λ k. arrival_at k es (waits n ms)) more
time_enters es n ms [] more h others first = enters_none way.Time (λ k. arrival_at k es (waits n ms)) more (λ k. none_arrives k es (waits n ms) (no_call k es (waits n ms) tt (others k refl))) first
time_enters es n ms (l ∷ ls) more h others first = record {
  enters = λ k c rest is. record { port = first.0; more = first.1; all = first.2 };
  still = λ none. absurd (none_some (record { number = n; way = 3 }) [] (arrival_at l.number es (waits n ms)) (none l.number)
      (time_arrives l.number es n ms ∙ ap (λ cs. map (λ c. record { number = n; way = way_of_call c }) cs) (time_comes_to l.number es n ms (live_opening l) (lives_there es l h.0))));
}

time_comes : (es : List Event) (s : State) (n : ℕ) (r : In) (ms : ℕ) (came : List Arrived) (more : List Out) → tick ms ≡ r → AgreesState es s → ArrivesAt s n r came → BeginsWithEntry came more → StepComes es (waits n ms) came more
time_comes es s n r ms came more same a (at_none r0 where0 b0 link m0 (on_net0 b) got is none) first = absurd (let no : tick ms ≡ frame b = same in cc)
time_comes es s n r ms came more same a (at_port r0 where0 b0 link p d before behind l (on_net0 b) got is lives here front back) first = absurd (let no : tick ms ≡ frame b = same in cc)
time_comes es s n r ms came more same a (at_echo r0 where0 b0 link p x before behind l (on_net0 b) got is lives here front back) first = absurd (let no : tick ms ≡ frame b = same in cc)
time_comes es s n r ms came more same a (at_connection r0 where0 b0 link from p g before behind l (on_net0 b) got is lives here front back) first = absurd (let no : tick ms ≡ frame b = same in cc)
time_comes es s n r ms came more same a (at_all ms0) first = record {
  counted = λ k. time_counted es s n ms k a;
  starts_so = time_enters es n ms s.live more a.each a.others first;
  silent = λ i bytes m is. absurd (let no : waits n ms ≡ hears i bytes m = is in cc);
}

-- THE END

pub none_first : (k : ℕ) → live k [] ≡ []
unfolding live openings open_has_ended gathered
none_first k = refl

some_live : (es : List Event) (s : State) (k : ℕ) (o : Opening) → AgreesState es s → live k es ≡ o ∷ [] → s.live ≡ [] → ⊥
some_live es s k o a lives none = one_open o (live k es) (a.others k (ap (lives_among k) none)) lives

-- what closes all that lives where a run stands, by the history
pub shuts_live : (es : List Event) (p : Standing) (outs : List Out) → AgreesStanding es p → ShutsStanding p outs → ShutsLive es outs
shuts_live es course.ready outs a h = λ k o lives. absurd (one_open o (live k []) (none_first k) (subst (λ z. live k z ≡ o ∷ []) a lives))
shuts_live es (course.running s inner outer) outs a h = λ k o lives. h (some_live es s k o a lives)
shuts_live es (course.waiting s w) outs a h = λ k o lives. h (some_live es s k o a lives)
shuts_live es (course.reaching s inner outer next) outs a h = λ k o lives. h (some_live es s k o a lives)
shuts_live es (course.yielded s inner outer) outs a h = λ k o lives. h (some_live es s k o a lives)
shuts_live es (course.handing s rest) outs a h = λ k o lives. h (some_live es s k o a.0 lives)
shuts_live es (course.left s outer cause) outs a h = λ k o lives. h (some_live es s k o a lives)
shuts_live es (course.handed_off s) outs a h = λ k o lives. h (some_live es s k o a lives)
shuts_live es (course.stopped s) outs a h = λ k o lives. h (some_live es s k o a lives)

-- EACH RECORD

frame_standing : (es : List Event) (p : Standing) (n : ℕ) (bytes : List ℕ) (m : Brought) (came : List Arrived) (more : List Out) → AgreesStanding es p → DeviceAgrees es p → IsRead es (hears n bytes m) →
    BringsTo (frame bytes) n p came → BeginsWithEntry came more → StepComes es (hears n bytes m) came more
frame_standing es (course.waiting s w) n bytes m came more agrees device read at first = frame_comes es s n (frame bytes) bytes m came more refl agrees device read at first
frame_standing es (course.yielded s inner outer) n bytes m came more agrees device read at first = frame_comes es s n (frame bytes) bytes m came more refl agrees device read at first
frame_standing es course.ready n bytes m came more agrees device read at first = absurd at
frame_standing es (course.running s inner outer) n bytes m came more agrees device read at first = absurd at
frame_standing es (course.reaching s inner outer next) n bytes m came more agrees device read at first = absurd at
frame_standing es (course.handing s rest) n bytes m came more agrees device read at first = absurd at
frame_standing es (course.left s outer cause) n bytes m came more agrees device read at first = absurd at
frame_standing es (course.handed_off s) n bytes m came more agrees device read at first = absurd at
frame_standing es (course.stopped s) n bytes m came more agrees device read at first = absurd at

time_standing : (es : List Event) (p : Standing) (n ms : ℕ) (came : List Arrived) (more : List Out) → AgreesStanding es p → BringsTo (tick ms) n p came → BeginsWithEntry came more → StepComes es (waits n ms) came more
time_standing es (course.waiting s w) n ms came more agrees at first = time_comes es s n (tick ms) ms came more refl agrees at first
time_standing es (course.yielded s inner outer) n ms came more agrees at first = time_comes es s n (tick ms) ms came more refl agrees at first
time_standing es course.ready n ms came more agrees at first = absurd at
time_standing es (course.running s inner outer) n ms came more agrees at first = absurd at
time_standing es (course.reaching s inner outer next) n ms came more agrees at first = absurd at
time_standing es (course.handing s rest) n ms came more agrees at first = absurd at
time_standing es (course.left s outer cause) n ms came more agrees at first = absurd at
time_standing es (course.handed_off s) n ms came more agrees at first = absurd at
time_standing es (course.stopped s) n ms came more agrees at first = absurd at

first_comes : (es : List Event) (n : ℕ) (s : Start) (came : List Arrived) (more : List Out) → came ≡ [] → BeginsWithEntry came more → StepComes es (starts n s) came more
first_comes es n s came more none first = subst (λ z. StepComes es (starts n s) z more) (sym none) (record {
  counted = λ k. refl;
  starts_so = subst (λ z. BeginsWithEntry z more) none first;
  silent = λ i bytes m is. absurd (let no : starts n s ≡ hears i bytes m = is in cc);
})

off_comes : (es : List Event) (p : Standing) (n : ℕ) (came : List Arrived) (more : List Out) → AgreesStanding es p → came ≡ [] → ShutsStanding p more → StepComes es (stops n) came more
off_comes es p n came more agrees none first = subst (λ z. StepComes es (stops n) z more) (sym none) (record {
  counted = λ k. refl;
  starts_so = shuts_live es p more agrees first;
  silent = λ i bytes m is. absurd (let no : stops n ≡ hears i bytes m = is in cc);
})

-- a record is used
pub step_comes : (es : List Event) (p : Standing) (r : In) (n : ℕ) (came : List Arrived) (more : List Out) (e : Event) → AgreesStanding es p → DeviceAgrees es p → IsUsed e → used_by e ≡ r ∷ [] →
    written_by e ≡ step n → IsRead es e → StandsFirst r p came more → BringsTo r n p came → StepComes es e came more
step_comes es p r n came more (puts o) agrees device used is number read first at = absurd used
step_comes es p r n came more (starts k s) agrees device used is number read first at =
    let same : start s ≡ r = cc in
    first_comes es k s came more (subst (λ z. BringsTo z n p came) (sym same) at) (subst (λ z. StandsFirst z p came more) (sym same) first)
step_comes es p r n came more (hears k bytes m) agrees device used is number read first at =
    let same : frame bytes ≡ r = cc in
    let it : n ≡ k = cc in
    frame_standing es p k bytes m came more agrees device read (subst (λ z. BringsTo (frame bytes) z p came) it (subst (λ z. BringsTo z n p came) (sym same) at)) (subst (λ z. StandsFirst z p came more) (sym same) first)
step_comes es p r n came more (waits k ms) agrees device used is number read first at =
    let same : tick ms ≡ r = cc in
    let it : n ≡ k = cc in
    time_standing es p k ms came more agrees (subst (λ z. BringsTo (tick ms) z p came) it (subst (λ z. BringsTo z n p came) (sym same) at)) (subst (λ z. StandsFirst z p came more) (sym same) first)
step_comes es p r n came more (stops k) agrees device used is number read first at =
    let same : off ≡ r = cc in
    off_comes es p k came more agrees (subst (λ z. BringsTo z n p came) (sym same) at) (subst (λ z. StandsFirst z p came more) (sym same) first)
