-- What has come to a drive's session, what it has answered and read, and how opens have ended, after one more event.
use Rattle.std.proofs.Common.{◌≡◌, ℕ, ◌==◌, ◌||◌, Bool, true, false, cond, List, [], ◌∷◌, ◌++◌, map, Option, Some, None, refl, sym, ◌∙◌, ap, append_assoc, append-nil, arith}
use Rattle.std.specs.List.{AllByRecursion, fold, list_any}
use Rattle.std.specs.Option.{is_some, option_and_then}
use Rattle.std.proofs.Math.Bool.{or-false}
use Rattle.std.proofs.lemmas.List.Sums.{fold-append}
use Rattle.nb_terms.specs.declared.cause.Cause.{Cause}
use Rattle.nb_defs.specs.Records.{Out, step, ended}
use Rattle.nb_sans.specs.Sessions.{ReadTask}
use Rattle.nb_streams.proofs.FlowLaws.{all_append}
use Rattle.nb_stack.specs.Brings.{Brought}
use Rattle.nb_talks.specs.Talking.{Came}
use Rattle.nb_webs.specs.Webs.{NoTask}
use Rattle.nb_machine.specs.Drives.{last_read}
use Rattle.nb_laws.specs.CommandOpens.{end_by, end_of}
use Rattle.nb_laws.specs.Drives.{SessionOpening, sessions, to_session, asked_by, came_to_session_at, came_to_session, session_answered_by, talk_with, session_by, session_so_far, answered_so_far, SessionMark, comes_so, told_session_mark, session_mark_at, session_marks_of}
use Rattle.nb_laws.specs.Events.{Event, hears, waits, puts, EachEvent}
use Rattle.nb_laws.specs.Hookings.{HasRead}
use Rattle.nb_laws.specs.Lists.{gathered, hardware, opening_at, is_end_of, open_has_ended, time}
use Rattle.nb_laws.specs.Webs.{came_at}
use Rattle.nb_laws.proofs.DriveTalks.{AsksFirst, firsts_come, IsNoCommand, asks_none, session_one}
use Rattle.nb_laws.proofs.Histories.{time_more}
use Rattle.nb_laws.proofs.Tellings.{told, no_more, sessions_stay, KeepsHardware, hardware_stays, came_session_more, session_marks_more}

-- WHAT COMES TO A SESSION

-- the event asks no drive for anything, and brings none anything
abbrev pub BringsNothing : List Event → Event → Type 0
BringsNothing before e = (k : ℕ) → came_to_session_at k before e ≡ []

-- a record that is no COMMAND does
pub puts_nothing : (before : List Event) (o : Out) → IsNoCommand o → BringsNothing before (puts o)
puts_nothing before o h = λ k. asks_none k before o h

-- so do many of them
pub told_nothing : (a : List Event) (outs : List Out) → AllByRecursion IsNoCommand outs → EachEvent BringsNothing a (told outs)
told_nothing a [] h = tt
told_nothing a (o ∷ outs) h = (puts_nothing a o h.0, told_nothing (a ++ puts o ∷ []) outs h.1)

-- a record that is used brings a session what it brings its connection
pub hears_session : (k : ℕ) (before : List Event) (n : ℕ) (bytes : List ℕ) (m : Brought) (c : List (Came NoTask)) → came_at k before (hears n bytes m) ≡ c → came_to_session_at k before (hears n bytes m) ≡ map to_session c
hears_session k before n bytes m c is = ap (map to_session) is

pub waits_session : (k : ℕ) (before : List Event) (n ms : ℕ) (c : List (Came NoTask)) → came_at k before (waits n ms) ≡ c → came_to_session_at k before (waits n ms) ≡ map to_session c
waits_session k before n ms c is = ap (map to_session) is

pub came_stays : (k : ℕ) (es : List Event) (e : Event) → came_to_session_at k es e ≡ [] → came_to_session k (es ++ e ∷ []) ≡ came_to_session k es
came_stays k es e none = came_session_more k es e ∙ no_more (came_to_session k es) (came_to_session_at k es e) none

pub came_told : (k : ℕ) (a : List Event) (outs : List Out) → EachEvent BringsNothing a (told outs) → came_to_session k (a ++ told outs) ≡ came_to_session k a
came_told k a [] none = ap (came_to_session k) (append-nil a)
came_told k a (o ∷ outs) none =
    ap (came_to_session k) (sym (append_assoc a (puts o ∷ []) (told outs))) ∙ came_told k (a ++ puts o ∷ []) outs none.1 ∙ came_stays k a (puts o) (none.0 k)

firsts_gathered : (k : ℕ) (before es : List Event) → AllByRecursion AsksFirst (gathered (came_to_session_at k) before es)
unfolding gathered
firsts_gathered k before [] = tt
firsts_gathered k before (e ∷ es) =
    all_append AsksFirst (came_to_session_at k before e) (gathered (came_to_session_at k) (before ++ e ∷ []) es) (firsts_come k before e) (firsts_gathered k (before ++ e ∷ []) es)

-- all tasks among it are those of first blocks
pub firsts_came : (k : ℕ) (es : List Event) → AllByRecursion AsksFirst (came_to_session k es)
unfolding came_to_session
firsts_came k es = firsts_gathered k [] es

-- WHAT CONCERNS ITS TRIES

-- the try that a record of this time tells
abbrev pub session_tries_by : (k now : ℕ) → List Out → List SessionMark
session_tries_by k now [] = []
session_tries_by k now (o ∷ outs) = told_session_mark k now o ++ session_tries_by k now outs

-- a record that asks nothing marks its try
pub mark_put : (k : ℕ) (es : List Event) (o : Out) → asked_by k es o ≡ [] → session_mark_at k es (puts o) ≡ told_session_mark k (time es) o
mark_put k es o none = ap (λ cs. map comes_so cs ++ told_session_mark k (time es) o) none

time_put : (es : List Event) (o : Out) → time (es ++ puts o ∷ []) ≡ time es
time_put es o = time_more es (puts o) ∙ omega arith

pub marks_told : (k : ℕ) (a : List Event) (outs : List Out) → EachEvent BringsNothing a (told outs) → session_marks_of k (a ++ told outs) ≡ session_marks_of k a ++ session_tries_by k (time a) outs
marks_told k a [] none = ap (session_marks_of k) (append-nil a) ∙ sym (append-nil (session_marks_of k a))
marks_told k a (o ∷ outs) none =
    let b : List Event = a ++ puts o ∷ [] in
    ap (session_marks_of k) (sym (append_assoc a (puts o ∷ []) (told outs))) ∙ marks_told k b outs none.1
    ∙ ap (λ z. session_marks_of k b ++ session_tries_by k z outs) (time_put a o)
    ∙ ap (λ z. z ++ session_tries_by k (time a) outs) (session_marks_more k a (puts o) ∙ ap (λ z. session_marks_of k a ++ z) (mark_put k a o (none.0 k)))
    ∙ append_assoc (session_marks_of k a) (told_session_mark k (time a) o) (session_tries_by k (time a) outs)

-- ITS TALK

pub talk_same : (k : ℕ) (s : SessionOpening) (a b : List Event) → hardware a ≡ hardware b → came_to_session k a ≡ came_to_session k b → session_so_far k s a ≡ session_so_far k s b
talk_same k s a b hw cs = ap (λ h. session_by h k s (came_to_session k a)) hw ∙ ap (session_by (hardware b) k s) cs

-- it goes on by what comes
pub talk_comes : (k : ℕ) (s : SessionOpening) (es : List Event) (e : Event) (c : Came ReadTask) → KeepsHardware e → came_to_session_at k es e ≡ c ∷ [] → session_so_far k s (es ++ e ∷ []) ≡ talk_with (hardware es) k s (session_so_far k s es) c
talk_comes k s es e c keeps is =
    ap (λ h. session_by h k s (came_to_session k (es ++ e ∷ []))) (hardware_stays es e keeps)
    ∙ ap (session_by (hardware es) k s) (came_session_more k es e ∙ ap (λ z. came_to_session k es ++ z) is)
    ∙ session_one (hardware es) k s (came_to_session k es) c

-- else it stays
pub talk_stays : (k : ℕ) (s : SessionOpening) (es : List Event) (e : Event) → KeepsHardware e → came_to_session_at k es e ≡ [] → session_so_far k s (es ++ e ∷ []) ≡ session_so_far k s es
talk_stays k s es e keeps none = talk_same k s (es ++ e ∷ []) es (hardware_stays es e keeps) (came_stays k es e none)

-- so does what it has answered
pub answered_same : (k : ℕ) (s : SessionOpening) (a b : List Event) → hardware a ≡ hardware b → came_to_session k a ≡ came_to_session k b → answered_so_far k s a ≡ answered_so_far k s b
answered_same k s a b hw cs = ap (λ h. session_answered_by h k s (session_so_far k s a)) hw ∙ ap (session_answered_by (hardware b) k s) (talk_same k s a b hw cs)

pub answered_stays : (k : ℕ) (s : SessionOpening) (es : List Event) (e : Event) → KeepsHardware e → came_to_session_at k es e ≡ [] → answered_so_far k s (es ++ e ∷ []) ≡ answered_so_far k s es
answered_stays k s es e keeps none = answered_same k s (es ++ e ∷ []) es (hardware_stays es e keeps) (came_stays k es e none)

-- and what it has read
pub read_same : (k : ℕ) (bytes : List ℕ) (a b : List Event) → hardware a ≡ hardware b → sessions k a ≡ sessions k b → came_to_session k a ≡ came_to_session k b → HasRead k a bytes → HasRead k b bytes
read_same k bytes a b hw ss cs h =
    record { session = h.session; is = sym ss ∙ h.is; read = ap (option_and_then last_read) (sym (answered_same k h.session a b hw cs)) ∙ h.read }

-- where an event that is no START or OPEN brings it nothing, it has read what it had
pub read_stays : (k : ℕ) (bytes : List ℕ) (es : List Event) (e : Event) → KeepsHardware e → opening_at k es e ≡ [] → came_to_session_at k es e ≡ [] → HasRead k es bytes → HasRead k (es ++ e ∷ []) bytes
read_stays k bytes es e keeps unopened none h =
    read_same k bytes es (es ++ e ∷ []) (sym (hardware_stays es e keeps)) (sym (sessions_stay k es e unopened)) (sym (came_stays k es e none)) h

-- and it had read what it has
pub read_before : (k : ℕ) (bytes : List ℕ) (es : List Event) (e : Event) → KeepsHardware e → opening_at k es e ≡ [] → came_to_session_at k es e ≡ [] → HasRead k (es ++ e ∷ []) bytes → HasRead k es bytes
read_before k bytes es e keeps unopened none h =
    read_same k bytes (es ++ e ∷ []) es (hardware_stays es e keeps) (sessions_stay k es e unopened) (came_stays k es e none) h

-- it has read one thing
pub read_one : (k : ℕ) (es : List Event) (bytes other : List ℕ) → HasRead k es bytes → HasRead k es other → bytes ≡ other
read_one k es bytes other p q =
    let one : p.session ∷ [] ≡ q.session ∷ [] = sym p.is ∙ q.is in
    let same : p.session ≡ q.session = cc in
    let both : Some bytes ≡ Some other = sym p.read ∙ ap (λ s. option_and_then last_read (answered_so_far k s es)) same ∙ q.read in
    cc

-- HOW OPENS HAVE ENDED

pub end_more : (k : ℕ) (es : List Event) (e : Event) → end_of k (es ++ e ∷ []) ≡ end_by k (end_of k es) e
unfolding end_of
end_more k es e = fold-append (end_by k) None es (e ∷ [])

-- no ENDED
abbrev pub IsNoEnd : Out → Type 0
IsNoEnd (ended number cause) = ⊥
IsNoEnd (step number) = Unit {0}
IsNoEnd _ = Unit {0}

end_put : (k : ℕ) (last : Option Cause) (o : Out) → IsNoEnd o → end_by k last (puts o) ≡ last
end_put k last (ended number cause) h = absurd h
end_put k last (step number) h = refl
end_put k last _ h = refl

-- any other record ends none
pub end_stays : (k : ℕ) (es : List Event) (o : Out) → IsNoEnd o → end_of k (es ++ puts o ∷ []) ≡ end_of k es
end_stays k es o h = end_more k es (puts o) ∙ end_put k (end_of k es) o h

pub end_told : (k : ℕ) (a : List Event) (outs : List Out) → AllByRecursion IsNoEnd outs → end_of k (a ++ told outs) ≡ end_of k a
end_told k a [] h = ap (end_of k) (append-nil a)
end_told k a (o ∷ outs) h = ap (end_of k) (sym (append_assoc a (puts o ∷ []) (told outs))) ∙ end_told k (a ++ puts o ∷ []) outs h.1 ∙ end_stays k a o h.0

-- ENDED gives its open its cause
pub end_given : (k : ℕ) (es : List Event) (number : ℕ) (cause : Cause) → (number == k) ≡ true → end_of k (es ++ puts (ended number cause) ∷ []) ≡ Some cause
end_given k es number cause its = end_more k es (puts (ended number cause)) ∙ ap (λ b. cond b (Some cause) (end_of k es)) its

-- and no other
pub end_other : (k : ℕ) (es : List Event) (number : ℕ) (cause : Cause) → (number == k) ≡ false → end_of k (es ++ puts (ended number cause) ∷ []) ≡ end_of k es
end_other k es number cause other = end_more k es (puts (ended number cause)) ∙ ap (λ b. cond b (Some cause) (end_of k es)) other

end_one : (k : ℕ) (last : Option Cause) (e : Event) → is_some (end_by k last e) ≡ (is_some last || is_end_of k e)
end_one k last (puts (ended number cause)) = by (number == k) (is_some last) refl
  where
    by : (b c : Bool) → is_some last ≡ c → is_some (cond b (Some cause) last) ≡ (c || b)
    by true true is = refl
    by true false is = refl
    by false true is = is
    by false false is = is
end_one k last (puts (step number)) = sym (or-false (is_some last))
end_one k last _ = sym (or-false (is_some last))

either_more : (a b c : Bool) → ((a || b) || c) ≡ (a || (b || c))
either_more true b c = refl
either_more false b c = refl

ended_by : (k : ℕ) (last : Option Cause) (es : List Event) → is_some (fold (end_by k) last es) ≡ (is_some last || list_any (is_end_of k) es)
ended_by k last [] = sym (or-false (is_some last))
ended_by k last (e ∷ es) =
    ended_by k (end_by k last e) es ∙ ap (λ c. c || list_any (is_end_of k) es) (end_one k last e) ∙ either_more (is_some last) (is_end_of k e) (list_any (is_end_of k) es)

-- it has a cause where it has ended
pub has_end : (k : ℕ) (es : List Event) → is_some (end_of k es) ≡ open_has_ended k es
unfolding end_of open_has_ended
has_end k es = ended_by k None es
