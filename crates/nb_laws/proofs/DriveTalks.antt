-- What comes to a drive's session, one after another, and the task of a disk's first block, which is asked of one that boots.
use Rattle.std.proofs.Common.{◌≡◌, ℕ, ◌==◌, ◌&&◌, not, Bool, true, false, cond, List, [], ◌∷◌, ◌++◌, map, fold, Option, Some, None, refl, ◌∙◌, ap}
use Rattle.std.specs.List.{AllByRecursion}
use Rattle.std.specs.Option.{is_some}
use Rattle.std.proofs.lemmas.List.Sums.{fold-append}
use Rattle.nb_defs.specs.Records.{Out, step, command}
use Rattle.nb_drivecmd.specs.declared.drive.Drive.{Drive}
use Rattle.nb_streams.specs.Flows.{held_in, time_came}
use Rattle.nb_streams.proofs.FlowLaws.{all_append}
use Rattle.nb_streams.proofs.OtherSendLaws.{phase_append}
use Rattle.nb_sans.specs.Sessions.{ReadTask, session_talker}
use Rattle.nb_talks.specs.Talking.{Came, by_segment, by_time, by_task, time_of, Talker, Talk, talk_held, texts_for, receives, talks_on, begun_talk}
use Rattle.nb_talks.specs.TalkPromises.{talker_end}
use Rattle.nb_talks.proofs.TalkLaws.{held_with_texts}
use Rattle.nb_webs.specs.Webs.{NoTask}
use Rattle.nb_machine.specs.Drives.{first_block_read}
use Rattle.nb_machine.specs.Findings.{first_word}
use Rattle.nb_laws.specs.CommandsSoFar.{so_far, so_far_by, booted_drive}
use Rattle.nb_laws.specs.Drives.{SessionOpening, to_session, asked_of, asked_by, came_to_session_at, session_answered_by, is_sized_by, talk_with, session_by}
use Rattle.nb_laws.specs.Events.{Event, starts, hears, waits, stops, puts}
use Rattle.nb_laws.specs.Lists.{Hardware, time}
use Rattle.nb_laws.specs.Webs.{came_at}

-- TASKS

-- it is a task
abbrev pub IsTask : Came ReadTask → Type 0
IsTask (by_segment m now) = ⊥
IsTask (by_time now) = ⊥
IsTask (by_task task now) = Unit {0}

-- the task of a first block, if it is one
abbrev pub AsksFirst : Came ReadTask → Type 0
AsksFirst (by_segment m now) = Unit {0}
AsksFirst (by_time now) = Unit {0}
AsksFirst (by_task task now) = task ≡ first_block_read

asked_tasks : (k now : ℕ) (d : Option Drive) → AllByRecursion IsTask (asked_of k now d)
asked_tasks k now None = tt
asked_tasks k now (Some d) = by (d.open_number == k)
  where
    by : (b : Bool) → AllByRecursion IsTask (cond b (by_task first_block_read now ∷ []) [])
    by true = (tt, tt)
    by false = tt

-- a command asks tasks alone
pub tasks_asked : (k : ℕ) (before : List Event) (o : Out) → AllByRecursion IsTask (asked_by k before o)
tasks_asked k before (command depth line place expanded words) =
    asked_tasks k (time before) (booted_drive (so_far_by before (so_far before) (puts (command depth line place expanded words))))
tasks_asked k before (step number) = tt
tasks_asked k before _ = tt

first_of : (k now : ℕ) (d : Option Drive) → AllByRecursion AsksFirst (asked_of k now d)
first_of k now None = tt
first_of k now (Some d) = by (d.open_number == k)
  where
    by : (b : Bool) → AllByRecursion AsksFirst (cond b (by_task first_block_read now ∷ []) [])
    by true = (refl, tt)
    by false = tt

-- that of a first block
firsts_asked : (k : ℕ) (before : List Event) (o : Out) → AllByRecursion AsksFirst (asked_by k before o)
firsts_asked k before (command depth line place expanded words) =
    first_of k (time before) (booted_drive (so_far_by before (so_far before) (puts (command depth line place expanded words))))
firsts_asked k before (step number) = tt
firsts_asked k before _ = tt

untasked : (cs : List (Came NoTask)) → AllByRecursion AsksFirst (map to_session cs)
untasked [] = tt
untasked (by_segment m now ∷ cs) = (tt, untasked cs)
untasked (by_time now ∷ cs) = (tt, untasked cs)
untasked (by_task task now ∷ cs) = (tt, untasked cs)

-- each task that comes to a session is that of its first block
pub firsts_come : (k : ℕ) (before : List Event) (e : Event) → AllByRecursion AsksFirst (came_to_session_at k before e)
firsts_come k before (puts o) = firsts_asked k before o
firsts_come k before (hears n bytes m) = untasked (came_at k before (hears n bytes m))
firsts_come k before (waits n ms) = untasked (came_at k before (waits n ms))
firsts_come k before (starts n s) = tt
firsts_come k before (stops n) = tt

-- an event that brings the open nothing brings its session tasks at most
pub tasks_come : (k : ℕ) (before : List Event) (e : Event) → came_at k before e ≡ [] → AllByRecursion IsTask (came_to_session_at k before e)
tasks_come k before (puts o) none = tasks_asked k before o
tasks_come k before (hears n bytes m) none = by (came_at k before (hears n bytes m)) none
  where
    by : (cs : List (Came NoTask)) → cs ≡ [] → AllByRecursion IsTask (map to_session cs)
    by [] is = tt
    by (c ∷ cs) is = absurd cc
tasks_come k before (waits n ms) none = by (came_at k before (waits n ms)) none
  where
    by : (cs : List (Came NoTask)) → cs ≡ [] → AllByRecursion IsTask (map to_session cs)
    by [] is = tt
    by (c ∷ cs) is = absurd cc
tasks_come k before (starts n s) none = tt
tasks_come k before (stops n) none = tt

-- no COMMAND
abbrev pub IsNoCommand : Out → Type 0
IsNoCommand (command depth line place expanded words) = ⊥
IsNoCommand (step number) = Unit {0}
IsNoCommand _ = Unit {0}

-- any other record asks nothing
pub asks_none : (k : ℕ) (before : List Event) (o : Out) → IsNoCommand o → asked_by k before o ≡ []
asks_none k before (command depth line place expanded words) h = absurd h
asks_none k before (step number) h = refl
asks_none k before _ h = refl

-- a command that boots no hooked drive asks nothing
pub command_asks_none : (k : ℕ) (before : List Event) (depth line place : ℕ) (expanded : Bool) (words : List (List ℕ)) →
    booted_drive (so_far_by before (so_far before) (puts (command depth line place expanded words))) ≡ None → asked_by k before (command depth line place expanded words) ≡ []
command_asks_none k before depth line place expanded words none = ap (asked_of k (time before)) none

-- one that boots a hooked drive asks its open for the first block
pub command_asks : (k : ℕ) (before : List Event) (depth line place : ℕ) (expanded : Bool) (words : List (List ℕ)) (d : Drive) →
    booted_drive (so_far_by before (so_far before) (puts (command depth line place expanded words))) ≡ Some d → (d.open_number == k) ≡ true →
    asked_by k before (command depth line place expanded words) ≡ by_task first_block_read (time before) ∷ []
command_asks k before depth line place expanded words d some its =
    ap (asked_of k (time before)) some ∙ ap (λ b. cond b (by_task first_block_read (time before) ∷ []) []) its

-- and no other open
pub command_asks_other : (k : ℕ) (before : List Event) (depth line place : ℕ) (expanded : Bool) (words : List (List ℕ)) (d : Drive) →
    booted_drive (so_far_by before (so_far before) (puts (command depth line place expanded words))) ≡ Some d → (d.open_number == k) ≡ false →
    asked_by k before (command depth line place expanded words) ≡ []
command_asks_other k before depth line place expanded words d some other =
    ap (asked_of k (time before)) some ∙ ap (λ b. cond b (by_task first_block_read (time before) ∷ []) []) other

-- WHAT IS HELD OF ITS STREAM

-- what is said changes nothing of it
pub held_on : {T : Type 0} (t : Talker T) (isn : ℕ) (d : Talk T) (c : Came T) → talk_held isn (talks_on t isn d c) ≡ talk_held isn (receives isn d c)
held_on t isn d c = held_with_texts isn (receives isn d c).calls (texts_for t isn d c) (time_of c)

-- nor does a task
pub held_asked : {T : Type 0} (t : Talker T) (isn : ℕ) (d : Talk T) (task : T) (now : ℕ) → talk_held isn (talks_on t isn d (by_task task now)) ≡ talk_held isn d
held_asked t isn d task now = held_on t isn d (by_task task now)

-- nor a time
pub held_waited : {T : Type 0} (t : Talker T) (isn : ℕ) (d : Talk T) (now : ℕ) → talk_held isn (talks_on t isn d (by_time now)) ≡ talk_held isn d
held_waited t isn d now = held_on t isn d (by_time now) ∙ ap held_in (phase_append isn d.calls (time_came now))

-- ONE MORE

pub session_more : (h : Hardware) (k : ℕ) (s : SessionOpening) (came more : List (Came ReadTask)) → session_by h k s (came ++ more) ≡ fold (talk_with h k s) (session_by h k s came) more
session_more h k s came more = fold-append (talk_with h k s) (begun_talk (session_talker s.login) (first_word h.identity k) s.opening.since) came more

pub session_one : (h : Hardware) (k : ℕ) (s : SessionOpening) (came : List (Came ReadTask)) (c : Came ReadTask) → session_by h k s (came ++ c ∷ []) ≡ talk_with h k s (session_by h k s came) c
session_one h k s came c = session_more h k s came (c ∷ [])

-- the talk that goes on by this, with the task of a first block where the session is to be asked for it then
abbrev talks_so : Hardware → ℕ → SessionOpening → Talk ReadTask → Came ReadTask → Bool → Talk ReadTask
talks_so h k s d c b =
    fold (talks_on (session_talker s.login) (first_word h.identity k)) d (c ∷ cond b (by_task first_block_read (time_of c) ∷ []) [])

abbrev pub heard_by : Hardware → ℕ → SessionOpening → Talk ReadTask → Came ReadTask → Talk ReadTask
heard_by h k s d c = talks_on (session_talker s.login) (first_word h.identity k) d c

-- where its capacity doesn't become known by this, it goes on alone
pub unsized_with : (h : Hardware) (k : ℕ) (s : SessionOpening) (d : Talk ReadTask) (c : Came ReadTask) → is_sized_by h k s d (heard_by h k s d c) ≡ false → talk_with h k s d c ≡ heard_by h k s d c
unsized_with h k s d c not_so = ap (talks_so h k s d c) not_so

-- where it does, the first block is asked for then
pub sized_with : (h : Hardware) (k : ℕ) (s : SessionOpening) (d : Talk ReadTask) (c : Came ReadTask) → is_sized_by h k s d (heard_by h k s d c) ≡ true →
    talk_with h k s d c ≡ heard_by h k s (heard_by h k s d c) (by_task first_block_read (time_of c))
sized_with h k s d c so = ap (talks_so h k s d c) so

-- so it goes on alone of a session whose command doesn't boot its disk
pub plain_sized : (h : Hardware) (k : ℕ) (s : SessionOpening) (d heard : Talk ReadTask) → s.boots ≡ false → is_sized_by h k s d heard ≡ false
plain_sized h k s d heard plain =
    ap (λ b. b && not (is_some (session_answered_by h k s d)) && is_some (session_answered_by h k s heard) && not (is_some (talker_end (session_talker s.login) (first_word h.identity k) 0 heard))) plain

pub plain_with : (h : Hardware) (k : ℕ) (s : SessionOpening) (d : Talk ReadTask) (c : Came ReadTask) → s.boots ≡ false → talk_with h k s d c ≡ heard_by h k s d c
plain_with h k s d c plain = unsized_with h k s d c (plain_sized h k s d (heard_by h k s d c) plain)

-- or of one whose capacity was known before
pub answered_sized : (h : Hardware) (k : ℕ) (s : SessionOpening) (d heard : Talk ReadTask) → is_some (session_answered_by h k s d) ≡ true → is_sized_by h k s d heard ≡ false
answered_sized h k s d heard known =
    ap (λ b. s.boots && not b && is_some (session_answered_by h k s heard) && not (is_some (talker_end (session_talker s.login) (first_word h.identity k) 0 heard))) known ∙ by s.boots
  where
    by : (b : Bool) → (b && false && is_some (session_answered_by h k s heard) && not (is_some (talker_end (session_talker s.login) (first_word h.identity k) 0 heard))) ≡ false
    by true = refl
    by false = refl

pub answered_with : (h : Hardware) (k : ℕ) (s : SessionOpening) (d : Talk ReadTask) (c : Came ReadTask) → is_some (session_answered_by h k s d) ≡ true → talk_with h k s d c ≡ heard_by h k s d c
answered_with h k s d c known = unsized_with h k s d c (answered_sized h k s d (heard_by h k s d c) known)

-- or isn't known after it
pub unanswered_sized : (h : Hardware) (k : ℕ) (s : SessionOpening) (d heard : Talk ReadTask) → is_some (session_answered_by h k s heard) ≡ false → is_sized_by h k s d heard ≡ false
unanswered_sized h k s d heard unknown =
    ap (λ b. s.boots && not (is_some (session_answered_by h k s d)) && b && not (is_some (talker_end (session_talker s.login) (first_word h.identity k) 0 heard))) unknown
    ∙ by s.boots (not (is_some (session_answered_by h k s d)))
  where
    by : (b known : Bool) → (b && known && false && not (is_some (talker_end (session_talker s.login) (first_word h.identity k) 0 heard))) ≡ false
    by true true = refl
    by true false = refl
    by false known = refl

-- what has come of its stream goes on by what comes alone
pub held_with : (h : Hardware) (k : ℕ) (s : SessionOpening) (d : Talk ReadTask) (c : Came ReadTask) →
    talk_held (first_word h.identity k) (talk_with h k s d c) ≡ talk_held (first_word h.identity k) (receives (first_word h.identity k) d c)
held_with h k s d c = by (is_sized_by h k s d (heard_by h k s d c))
  where
    isn : ℕ
    isn = first_word h.identity k

    by : (b : Bool) → talk_held isn (talks_so h k s d c b) ≡ talk_held isn (receives isn d c)
    by true = held_asked (session_talker s.login) isn (heard_by h k s d c) first_block_read (time_of c) ∙ held_on (session_talker s.login) isn d c
    by false = held_on (session_talker s.login) isn d c

-- by tasks it doesn't
pub held_tasks : (h : Hardware) (k : ℕ) (s : SessionOpening) (d : Talk ReadTask) (cs : List (Came ReadTask)) → AllByRecursion IsTask cs →
    talk_held (first_word h.identity k) (fold (talk_with h k s) d cs) ≡ talk_held (first_word h.identity k) d
held_tasks h k s d [] are = refl
held_tasks h k s d (by_segment m now ∷ cs) are = absurd are.0
held_tasks h k s d (by_time now ∷ cs) are = absurd are.0
held_tasks h k s d (by_task task now ∷ cs) are = held_tasks h k s (talk_with h k s d (by_task task now)) cs are.1 ∙ held_with h k s d (by_task task now)

-- THE TASKS THAT IT WAS ASKED

-- it is that of a first block
abbrev pub IsFirstTask : ReadTask × ℕ → Type 0
IsFirstTask t = t.0 ≡ first_block_read

tasks_on : (t : Talker ReadTask) (isn : ℕ) (d : Talk ReadTask) (c : Came ReadTask) → AsksFirst c → AllByRecursion IsFirstTask d.tasks → AllByRecursion IsFirstTask (talks_on t isn d c).tasks
tasks_on t isn d (by_segment m now) first are = are
tasks_on t isn d (by_time now) first are = are
tasks_on t isn d (by_task task now) first are = all_append IsFirstTask d.tasks _ are (first, tt)

tasks_with : (h : Hardware) (k : ℕ) (s : SessionOpening) (d : Talk ReadTask) (c : Came ReadTask) → AsksFirst c → AllByRecursion IsFirstTask d.tasks → AllByRecursion IsFirstTask (talk_with h k s d c).tasks
tasks_with h k s d c first are = by (is_sized_by h k s d (heard_by h k s d c))
  where
    heard : AllByRecursion IsFirstTask (heard_by h k s d c).tasks
    heard = tasks_on (session_talker s.login) (first_word h.identity k) d c first are

    by : (b : Bool) → AllByRecursion IsFirstTask (talks_so h k s d c b).tasks
    by true = tasks_on (session_talker s.login) (first_word h.identity k) (heard_by h k s d c) (by_task first_block_read (time_of c)) refl heard
    by false = heard

tasks_all : (h : Hardware) (k : ℕ) (s : SessionOpening) (d : Talk ReadTask) (cs : List (Came ReadTask)) → AllByRecursion AsksFirst cs → AllByRecursion IsFirstTask d.tasks → AllByRecursion IsFirstTask (fold (talk_with h k s) d cs).tasks
tasks_all h k s d [] firsts are = are
tasks_all h k s d (c ∷ cs) firsts are = tasks_all h k s (talk_with h k s d c) cs firsts.1 (tasks_with h k s d c firsts.0 are)

-- each is
pub session_firsts : (h : Hardware) (k : ℕ) (s : SessionOpening) (came : List (Came ReadTask)) → AllByRecursion AsksFirst came → AllByRecursion IsFirstTask (session_by h k s came).tasks
session_firsts h k s came firsts = tasks_all h k s (begun_talk (session_talker s.login) (first_word h.identity k) s.opening.since) came firsts tt
