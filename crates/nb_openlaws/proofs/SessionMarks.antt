-- What concerns the tries of a drive's session, by the history: the marks of its connection, with what it says as each thing comes.
use Rattle.std.proofs.Common.{◌≡◌, ℕ, ◌==◌, Bool, true, false, cond, List, [], ◌∷◌, ◌++◌, map, refl, sym, ◌∙◌, ap, append_assoc, append-nil}
use Rattle.std.specs.List.{flat_map, fold}
use Rattle.std.proofs.lemmas.List.Concat.{flat_map-append}
use Rattle.nb_defs.specs.Records.{Out, step, tried}
use Rattle.nb_streams.specs.Flows.{TcpCall, segment_came, time_came}
use Rattle.nb_streams.specs.Trying.{TryMark, comes_in, tries_at, mark_calls}
use Rattle.nb_talks.specs.Talking.{Came, by_segment, by_time, by_task, Talker, Talk, texts_for, text_calls, talks_on, begun_talk}
use Rattle.nb_sans.specs.Sessions.{ReadTask, session_talker}
use Rattle.nb_machine.specs.Findings.{first_word}
use Rattle.nb_laws.specs.Drives.{SessionOpening, came_to_session_at, came_to_session, comes_with, talk_with, session_so_far, SessionMark, comes_so, tries_so, told_session_mark, session_mark_at, session_marks_of, calls_with, all_calls, said_marks, session_marks}
use Rattle.nb_laws.specs.Events.{Event, starts, hears, waits, stops, puts, EachEvent}
use Rattle.nb_laws.specs.Lists.{Hardware, hardware, gathered, time}
use Rattle.nb_laws.specs.Webs.{told_try_mark}
use Rattle.nb_laws.proofs.DriveEvents.{BringsNothing, came_told, session_tries_by, marks_told, talk_same}
use Rattle.nb_laws.proofs.Tellings.{told, try_marks_by, KeepsHardware, hardware_stays, session_marks_more}

-- THE TALK BY ITS MARKS

talk_marked : Hardware → ℕ → SessionOpening → Talk ReadTask → List SessionMark → Talk ReadTask
talk_marked h k s d [] = d
talk_marked h k s d (comes_so c ∷ marks) = talk_marked h k s (talk_with h k s d c) marks
talk_marked h k s d (tries_so count now ∷ marks) = talk_marked h k s d marks

abbrev came_in : SessionMark → List (Came ReadTask)
came_in (comes_so c) = c ∷ []
came_in (tries_so count now) = []

marked_is : (h : Hardware) (k : ℕ) (s : SessionOpening) (d : Talk ReadTask) (marks : List SessionMark) → talk_marked h k s d marks ≡ fold (talk_with h k s) d (flat_map came_in marks)
unfolding talk_marked
marked_is h k s d [] = refl
marked_is h k s d (comes_so c ∷ marks) = marked_is h k s (talk_with h k s d c) marks
marked_is h k s d (tries_so count now ∷ marks) = marked_is h k s d marks

came_back : (cs : List (Came ReadTask)) → flat_map came_in (map comes_so cs) ≡ cs
came_back [] = refl
came_back (c ∷ cs) = ap (λ z. c ∷ z) (came_back cs)

-- a record that is written tells tries alone
told_none : (k now : ℕ) (o : Out) → flat_map came_in (told_session_mark k now o) ≡ []
told_none k now (tried number count) = by (number == k)
  where
    by : (b : Bool) → flat_map came_in (cond b (tries_so count now ∷ []) []) ≡ []
    by true = refl
    by false = refl
told_none k now (step number) = refl
told_none k now _ = refl

mark_came : (k : ℕ) (before : List Event) (e : Event) → flat_map came_in (session_mark_at k before e) ≡ came_to_session_at k before e
mark_came k before (puts o) =
    flat_map-append came_in (map comes_so (came_to_session_at k before (puts o))) (told_session_mark k (time before) o)
    ∙ ap (λ z. flat_map came_in (map comes_so (came_to_session_at k before (puts o))) ++ z) (told_none k (time before) o)
    ∙ append-nil (flat_map came_in (map comes_so (came_to_session_at k before (puts o)))) ∙ came_back (came_to_session_at k before (puts o))
mark_came k before (hears n bytes m) = came_back (came_to_session_at k before (hears n bytes m))
mark_came k before (waits n ms) = came_back (came_to_session_at k before (waits n ms))
mark_came k before (starts n s) = refl
mark_came k before (stops n) = refl

marks_gathered : (k : ℕ) (before es : List Event) → flat_map came_in (gathered (session_mark_at k) before es) ≡ gathered (came_to_session_at k) before es
unfolding gathered
marks_gathered k before [] = refl
marks_gathered k before (e ∷ es) =
    flat_map-append came_in (session_mark_at k before e) (gathered (session_mark_at k) (before ++ e ∷ []) es)
    ∙ ap (λ z. z ++ flat_map came_in (gathered (session_mark_at k) (before ++ e ∷ []) es)) (mark_came k before e)
    ∙ ap (λ z. came_to_session_at k before e ++ z) (marks_gathered k (before ++ e ∷ []) es)

-- what came is among the marks, in its order
marks_came : (k : ℕ) (es : List Event) → flat_map came_in (session_marks_of k es) ≡ came_to_session k es
unfolding session_marks_of came_to_session
marks_came k es = marks_gathered k [] es

abbrev begun_with : Hardware → ℕ → SessionOpening → Talk ReadTask
begun_with h k s = begun_talk (session_talker s.login) (first_word h.identity k) s.opening.since

marked_so_far : (k : ℕ) (s : SessionOpening) (es : List Event) → talk_marked (hardware es) k s (begun_with (hardware es) k s) (session_marks_of k es) ≡ session_so_far k s es
marked_so_far k s es =
    marked_is (hardware es) k s (begun_with (hardware es) k s) (session_marks_of k es) ∙ ap (fold (talk_with (hardware es) k s) (begun_with (hardware es) k s)) (marks_came k es)

-- MORE MARKS

said_append : (h : Hardware) (k : ℕ) (s : SessionOpening) (d : Talk ReadTask) (a b : List SessionMark) → said_marks h k s d (a ++ b) ≡ said_marks h k s d a ++ said_marks h k s (talk_marked h k s d a) b
unfolding talk_marked
said_append h k s d [] b = refl
said_append h k s d (comes_so c ∷ a) b =
    let next = talk_with h k s d c in
    let words = map comes_in (all_calls (session_talker s.login) (first_word h.identity k) d (comes_with h k s d c)) in
    ap (λ z. words ++ z) (said_append h k s next a b) ∙ sym (append_assoc words (said_marks h k s next a) (said_marks h k s (talk_marked h k s next a) b))
said_append h k s d (tries_so count now ∷ a) b = ap (λ z. tries_at count now ∷ z) (said_append h k s d a b)

-- the marks of a session, by those of the history
abbrev pub marks_by : Hardware → ℕ → SessionOpening → List SessionMark → List TryMark
marks_by h k s marks = map comes_in (begun_with h k s).calls ++ said_marks h k s (begun_with h k s) marks

more_marks : (k : ℕ) (s : SessionOpening) (es : List Event) (more : List SessionMark) → marks_by (hardware es) k s (session_marks_of k es ++ more) ≡ session_marks k s es ++ said_marks (hardware es) k s (session_so_far k s es) more
more_marks k s es more =
    let h = hardware es in
    let d = begun_with h k s in
    ap (λ z. map comes_in d.calls ++ z) (said_append h k s d (session_marks_of k es) more)
    ∙ sym (append_assoc (map comes_in d.calls) (said_marks h k s d (session_marks_of k es)) (said_marks h k s (talk_marked h k s d (session_marks_of k es)) more))
    ∙ ap (λ z. session_marks k s es ++ said_marks h k s z more) (marked_so_far k s es)

-- as one thing comes
pub marks_comes : (k : ℕ) (s : SessionOpening) (es : List Event) (e : Event) (c : Came ReadTask) → KeepsHardware e → session_mark_at k es e ≡ comes_so c ∷ [] →
    session_marks k s (es ++ e ∷ []) ≡ session_marks k s es ++ map comes_in (all_calls (session_talker s.login) (first_word (hardware es).identity k) (session_so_far k s es) (comes_with (hardware es) k s (session_so_far k s es) c))
marks_comes k s es e c keeps one =
    let words = map comes_in (all_calls (session_talker s.login) (first_word (hardware es).identity k) (session_so_far k s es) (comes_with (hardware es) k s (session_so_far k s es) c)) in
    ap (λ h. marks_by h k s (session_marks_of k (es ++ e ∷ []))) (hardware_stays es e keeps)
    ∙ ap (marks_by (hardware es) k s) (session_marks_more k es e ∙ ap (λ z. session_marks_of k es ++ z) one)
    ∙ more_marks k s es (comes_so c ∷ []) ∙ ap (λ z. session_marks k s es ++ z) (append-nil words)

-- TRIES ALONE

said_told : (h : Hardware) (k : ℕ) (s : SessionOpening) (d : Talk ReadTask) (now : ℕ) (o : Out) (more : List SessionMark) → said_marks h k s d (told_session_mark k now o ++ more) ≡ told_try_mark k now o ++ said_marks h k s d more
said_told h k s d now (tried number count) more = by (number == k)
  where
    by : (b : Bool) → said_marks h k s d (cond b (tries_so count now ∷ []) [] ++ more) ≡ cond b (tries_at count now ∷ []) [] ++ said_marks h k s d more
    by true = refl
    by false = refl
said_told h k s d now (step number) more = refl
said_told h k s d now _ more = refl

all_told : (h : Hardware) (k : ℕ) (s : SessionOpening) (d : Talk ReadTask) (now : ℕ) (outs : List Out) → said_marks h k s d (session_tries_by k now outs) ≡ try_marks_by k now outs
all_told h k s d now [] = refl
all_told h k s d now (o ∷ outs) = said_told h k s d now o (session_tries_by k now outs) ∙ ap (λ z. told_try_mark k now o ++ z) (all_told h k s d now outs)

-- records that ask nothing add the tries that they tell
pub marks_put : (k : ℕ) (s : SessionOpening) (es : List Event) (outs : List Out) → hardware (es ++ told outs) ≡ hardware es → EachEvent BringsNothing es (told outs) →
    session_marks k s (es ++ told outs) ≡ session_marks k s es ++ try_marks_by k (time es) outs
marks_put k s es outs same none =
    ap (λ h. marks_by h k s (session_marks_of k (es ++ told outs))) same ∙ ap (marks_by (hardware es) k s) (marks_told k es outs none)
    ∙ more_marks k s es (session_tries_by k (time es) outs) ∙ ap (λ z. session_marks k s es ++ z) (all_told (hardware es) k s (session_so_far k s es) (time es) outs)

-- and leave its talk
pub talk_put : (k : ℕ) (s : SessionOpening) (es : List Event) (outs : List Out) → hardware (es ++ told outs) ≡ hardware es → EachEvent BringsNothing es (told outs) → session_so_far k s (es ++ told outs) ≡ session_so_far k s es
talk_put k s es outs same none = talk_same k s (es ++ told outs) es same (came_told k es outs none)

-- THEIR CALLS

calls_in : (cs : List TcpCall) → flat_map mark_calls (map comes_in cs) ≡ cs
calls_in [] = refl
calls_in (c ∷ cs) = ap (λ z. c ∷ z) (calls_in cs)

calls_one : (t : Talker ReadTask) (isn : ℕ) (d : Talk ReadTask) (c : Came ReadTask) → (talks_on t isn d c).calls ≡ d.calls ++ calls_with t isn d c
calls_one t isn d (by_segment m now) = append_assoc d.calls (segment_came m now ∷ []) (text_calls (texts_for t isn d (by_segment m now)) now)
calls_one t isn d (by_time now) = append_assoc d.calls (time_came now ∷ []) (text_calls (texts_for t isn d (by_time now)) now)
calls_one t isn d (by_task task now) = refl

pub calls_all : (t : Talker ReadTask) (isn : ℕ) (d : Talk ReadTask) (cs : List (Came ReadTask)) → (fold (talks_on t isn) d cs).calls ≡ d.calls ++ all_calls t isn d cs
calls_all t isn d [] = sym (append-nil d.calls)
calls_all t isn d (c ∷ cs) =
    let next = talks_on t isn d c in
    calls_all t isn next cs ∙ ap (λ z. z ++ all_calls t isn next cs) (calls_one t isn d c) ∙ append_assoc d.calls (calls_with t isn d c) (all_calls t isn next cs)

said_calls : (h : Hardware) (k : ℕ) (s : SessionOpening) (d : Talk ReadTask) (marks : List SessionMark) → d.calls ++ flat_map mark_calls (said_marks h k s d marks) ≡ (talk_marked h k s d marks).calls
unfolding talk_marked
said_calls h k s d [] = append-nil d.calls
said_calls h k s d (comes_so c ∷ marks) =
    let t = session_talker s.login in
    let isn = first_word h.identity k in
    let next = talk_with h k s d c in
    let calls = all_calls t isn d (comes_with h k s d c) in
    let rest = said_marks h k s next marks in
    ap (λ z. d.calls ++ z) (flat_map-append mark_calls (map comes_in calls) rest ∙ ap (λ z. z ++ flat_map mark_calls rest) (calls_in calls))
    ∙ sym (append_assoc d.calls calls (flat_map mark_calls rest))
    ∙ ap (λ z. z ++ flat_map mark_calls rest) (sym (calls_all t isn d (comes_with h k s d c)))
    ∙ said_calls h k s next marks
said_calls h k s d (tries_so count now ∷ marks) = said_calls h k s d marks

-- are those of its talk
pub marks_calls : (k : ℕ) (s : SessionOpening) (es : List Event) → flat_map mark_calls (session_marks k s es) ≡ (session_so_far k s es).calls
marks_calls k s es =
    let h = hardware es in
    let d = begun_with h k s in
    flat_map-append mark_calls (map comes_in d.calls) (said_marks h k s d (session_marks_of k es))
    ∙ ap (λ z. z ++ flat_map mark_calls (said_marks h k s d (session_marks_of k es))) (calls_in d.calls)
    ∙ said_calls h k s d (session_marks_of k es) ∙ ap (λ (z : Talk ReadTask). z.calls) (marked_so_far k s es)
