-- A ping goes on to stand for its calls.
use Rattle.std.proofs.Common.{◌≡◌, ℕ, ◌^◌, ◌<◌, List, [], ◌∷◌, ◌++◌, None, Bool, true, false, cond, ◌||◌, refl, ap, ◌∙◌, sym, subst}
use Rattle.std.specs.Prelude.{map, filter}
use Rattle.std.specs.Option.{is_some}
use Rattle.std.proofs.lemmas.Bool.{false≢true}
use Rattle.std.proofs.lemmas.List.{append-nil}
use Rattle.nb_retry.specs.declared.plan.Plan.TheVariants.{Common}
use Rattle.nb_retry.specs.declared.retry.Due.{Due}
use Rattle.nb_retry.specs.declared.retry.Due.TheVariants.{Not, Again, Over}
use Rattle.nb_retry.specs.Calls.{fires, TimerStands}
use Rattle.nb_retry.specs.Plans.{Asked, asked_at, firings, waits}
use Rattle.nb_retry.specs.Timer.{started, due_at, after}
use Rattle.nb_retry.proofs.PlanLemmas.{Stands-append as TimerStands-append, follows_plan, after-since}
use Rattle.nb_terms.specs.declared.acts.Acts.{Acts}
use Rattle.nb_ping.specs.declared.state.State.{State}
use Rattle.nb_ping.specs.declared.state.PingPhase.TheVariants.{Waiting, Ended}
use Rattle.nb_ping.specs.Pings.{Pinged, asks_nothing, asks_end, ping_ok, ping_asks}
use Rattle.nb_ping.specs.PingCalls.{EchoReply, echoed, waited, PingEntry, ping_entry, echo_replies, ping_times, ping_said, ping_ended, answers_ping, is_answered}
use Rattle.nb_ping.specs.PingPromises.{PingMeets, PingAsksInTurn}
use Rattle.nb_ping.specs.PingStands.{ping_has_ended, pinged_of, PingStands}
use Rattle.nb_ping.specs.PingSteps.{acts_on_echo, after_echo, after_wait, acts_on_clock, after_waiting}
use Rattle.nb_ping.proofs.PingCallsLemmas.{echo_replies-append, ping_times-append, ping_ended-append, is_answered-append, each-append}

or_none : (a : Bool) → (a || false) ≡ a
or_none true = refl
or_none false = refl

or_some : (a : Bool) → (a || true) ≡ true
or_some true = refl
or_some false = refl

abbrev TimesFollow : ℕ → List Asked → Type 0
TimesFollow start times = filter (λ call. fires call.said) times ≡ firings start (waits Common) (map (λ call. call.at) times)

-- an echo reply changes no time
times_same : (h : List PingEntry) (r : EchoReply) (now : ℕ) (acts : Acts) → ping_times (h ++ ping_entry (echoed r now) acts ∷ []) ≡ ping_times h
times_same h r now acts = ping_times-append h (ping_entry (echoed r now) acts) ∙ append-nil (ping_times h)

-- an end changes what has ended, and nothing else does
ends_not : (h : List PingEntry) (e : PingEntry) → e.acts.over ≡ None → ping_ended (h ++ e ∷ []) ≡ ping_ended h
ends_not h e none = ping_ended-append h e ∙ ap (λ o. ping_ended h || is_some o) none ∙ or_none (ping_ended h)

-- an echo reply, by whether it answers
echo_by : (p : Pinged) (start : ℕ) (s : State) (h : List PingEntry) (r : EchoReply) (now : ℕ) (b : Bool) → PingStands p start s h → ping_has_ended s.phase ≡ false → answers_ping p r ≡ b
    → PingStands p start (cond b (record s { phase = Ended }) s) (h ++ ping_entry (echoed r now) (cond b (asks_end ping_ok) asks_nothing) ∷ [])
echo_by p start s h r now true stands running is =
    let e : PingEntry = ping_entry (echoed r now) (asks_end ping_ok) in
    record {
      meets = record {
        asking = each-append (PingAsksInTurn p) [] h e stands.meets.asking (ap (λ b. cond b (asks_end ping_ok) asks_nothing) (sym is));
        tries = subst (λ (x : List Asked). TimesFollow start x) (sym (times_same h r now (asks_end ping_ok))) stands.meets.tries;
      };
      begun = stands.begun;
      over = sym (ping_ended-append h e ∙ or_some (ping_ended h));
      waiting = λ going. absurd (false≢true (sym going));
    }
echo_by p start s h r now false stands running is =
    let e : PingEntry = ping_entry (echoed r now) asks_nothing in
    let waiting = stands.waiting running in
    let times = times_same h r now asks_nothing in
    record {
      meets = record {
        asking = each-append (PingAsksInTurn p) [] h e stands.meets.asking (ap (λ b. cond b (asks_end ping_ok) asks_nothing) (sym is));
        tries = subst (λ (x : List Asked). TimesFollow start x) (sym times) stands.meets.tries;
      };
      begun = stands.begun;
      over = stands.over ∙ sym (ends_not h e refl);
      waiting = λ _. record {
        unanswered = ap (is_answered p) (echo_replies-append h e) ∙ is_answered-append p (echo_replies h) r ∙ ap (λ b. b || answers_ping p r) waiting.unanswered ∙ is;
        timer = subst (λ (x : List Asked). TimerStands s.retry x) (sym times) waiting.timer;
        since = waiting.since;
        plan = waiting.plan;
      };
    }

-- any echo reply
pub echo_stands : (p : Pinged) (start : ℕ) (s new : State) (h : List PingEntry) (r : EchoReply) (now : ℕ) (acts : Acts) → acts ≡ acts_on_echo s r → new ≡ after_echo s r → PingStands p start s h → ping_ended h ≡ false
    → PingStands p start new (h ++ ping_entry (echoed r now) acts ∷ [])
echo_stands p start s new h r now acts asks becomes stands going =
    let running : ping_has_ended s.phase ≡ false = stands.over ∙ going in
    let same : answers_ping (pinged_of s) r ≡ answers_ping p r = ap (λ (q : Pinged). answers_ping q r) stands.begun in
    let asks2 : acts ≡ cond (answers_ping p r) (asks_end ping_ok) asks_nothing =
    asks ∙ ap (λ t. cond t asks_nothing (cond (answers_ping (pinged_of s) r) (asks_end ping_ok) asks_nothing)) running ∙ ap (λ b. cond b (asks_end ping_ok) asks_nothing) same in
    let becomes2 : new ≡ cond (answers_ping p r) (record s { phase = Ended }) s =
    becomes ∙ ap (λ t. cond t s (cond (answers_ping (pinged_of s) r) (record s { phase = Ended }) s)) running ∙ ap (λ b. cond b (record s { phase = Ended }) s) same in
    subst (λ (y : State). PingStands p start y (h ++ ping_entry (echoed r now) acts ∷ [])) (sym becomes2)
    (subst (λ (y : Acts). PingStands p start (cond (answers_ping p r) (record s { phase = Ended }) s) (h ++ ping_entry (echoed r now) y ∷ [])) (sym asks2)
    (echo_by p start s h r now (answers_ping p r) stands running refl))

-- what has ended ignores an echo reply
pub echo_over : (p : Pinged) (start : ℕ) (s new : State) (h : List PingEntry) (r : EchoReply) (acts : Acts) → acts ≡ acts_on_echo s r → new ≡ after_echo s r → PingStands p start s h → ping_ended h ≡ true
    → PingStands p start new h × (acts ≡ asks_nothing)
echo_over p start s new h r acts asks becomes stands ended =
    let over : ping_has_ended s.phase ≡ true = stands.over ∙ ended in (
      subst (λ (y : State). PingStands p start y h) (sym (becomes ∙ ap (λ t. cond t s (cond (answers_ping (pinged_of s) r) (record s { phase = Ended }) s)) over)) stands,
      asks ∙ ap (λ t. cond t asks_nothing (cond (answers_ping (pinged_of s) r) (asks_end ping_ok) asks_nothing)) over,
    )

said_so : (p : Pinged) (due : Due) → ping_said (ping_asks p due) ≡ due
said_so p Not = refl
said_so p (Again n) = refl
said_so p Over = refl

-- the calls with one time more
record Clocked (p : Pinged) (start : ℕ) (s : State) (h : List PingEntry) (now : ℕ) (due : Due) : Type 0 where
  pub meets : PingMeets p start (h ++ ping_entry (waited now) (ping_asks p due) ∷ [])
  pub timer : TimerStands (after s.retry now) (ping_times (h ++ ping_entry (waited now) (ping_asks p due) ∷ []))
  pub since : (after s.retry now).since ≡ start
  pub plan : (after s.retry now).plan ≡ Common
  pub unanswered : is_answered p (echo_replies (h ++ ping_entry (waited now) (ping_asks p due) ∷ [])) ≡ false

clocked_so : (p : Pinged) (start : ℕ) (s : State) (h : List PingEntry) (now : ℕ) (due : Due) → PingStands p start s h → ping_has_ended s.phase ≡ false → now < 2 ^ 64 → due ≡ due_at s.retry now → Clocked p start s h now due
clocked_so p start s h now due stands running small is =
    let acts : Acts = ping_asks p due in
    let e : PingEntry = ping_entry (waited now) acts in
    let waiting = stands.waiting running in
    let said = said_so p due in
    let times : ping_times (h ++ e ∷ []) ≡ ping_times h ++ asked_at now due ∷ [] = ping_times-append h e ∙ ap (λ d. ping_times h ++ asked_at now d ∷ []) said in
    let all : List Asked = ping_times h ++ asked_at now due ∷ [] in
    let timer : TimerStands (after s.retry now) all = TimerStands-append s.retry (after s.retry now) (ping_times h) now due small is refl waiting.timer in
    let since = (after-since s.retry now).0 ∙ waiting.since in
    let plan = (after-since s.retry now).1 ∙ waiting.plan in
    let follows : TimesFollow start all = follows_plan (after s.retry now) all timer
    ∙ ap (λ x. firings x (waits (after s.retry now).plan) (map (λ call. call.at) all)) since
    ∙ ap (λ q. firings start (waits q) (map (λ call. call.at) all)) plan in
    record {
      meets = record {
        asking = each-append (PingAsksInTurn p) [] h e stands.meets.asking (ap (ping_asks p) (sym said), waiting.unanswered);
        tries = subst (λ (x : List Asked). TimesFollow start x) (sym times) follows;
      };
      timer = subst (λ (x : List Asked). TimerStands (after s.retry now) x) (sym times) timer;
      since = since;
      plan = plan;
      unanswered = ap (is_answered p) (echo_replies-append h e ∙ append-nil (echo_replies h)) ∙ waiting.unanswered;
    }

-- a time at which the ping goes on
going_on : (p : Pinged) (start : ℕ) (s : State) (h : List PingEntry) (now : ℕ) (due : Due) → PingStands p start s h → Clocked p start s h now due → (ping_asks p due).over ≡ None
    → PingStands p start (record s { retry = after s.retry now }) (h ++ ping_entry (waited now) (ping_asks p due) ∷ [])
going_on p start s h now due stands c goes = record {
  meets = c.meets;
  begun = stands.begun;
  over = stands.over ∙ sym (ends_not h (ping_entry (waited now) (ping_asks p due)) goes);
  waiting = λ _. record { unanswered = c.unanswered; timer = c.timer; since = c.since; plan = c.plan };
}

clock_by : (p : Pinged) (start : ℕ) (s : State) (h : List PingEntry) (now : ℕ) (due : Due) → PingStands p start s h → Clocked p start s h now due
    → PingStands p start (after_wait (record s { retry = after s.retry now }) due) (h ++ ping_entry (waited now) (ping_asks p due) ∷ [])
clock_by p start s h now Not stands c = going_on p start s h now Not stands c refl
clock_by p start s h now (Again n) stands c = going_on p start s h now (Again n) stands c refl
clock_by p start s h now Over stands c = record {
  meets = c.meets;
  begun = stands.begun;
  over = sym (ping_ended-append h (ping_entry (waited now) (ping_asks p Over)) ∙ or_some (ping_ended h));
  waiting = λ going. absurd (false≢true (sym going));
}

-- any time
pub clock_stands : (p : Pinged) (start : ℕ) (s new : State) (h : List PingEntry) (now : ℕ) (acts : Acts) → acts ≡ acts_on_clock s now → new ≡ after_waiting s now → now < 2 ^ 64 → PingStands p start s h → ping_ended h ≡ false
    → PingStands p start new (h ++ ping_entry (waited now) acts ∷ [])
clock_stands p start s new h now acts asks becomes small stands going =
    let running : ping_has_ended s.phase ≡ false = stands.over ∙ going in
    let due : Due = due_at s.retry now in
    let asks2 : acts ≡ ping_asks p due = asks ∙ ap (λ t. cond t asks_nothing (ping_asks (pinged_of s) due)) running ∙ ap (λ (q : Pinged). ping_asks q due) stands.begun in
    let becomes2 : new ≡ after_wait (record s { retry = after s.retry now }) due = becomes ∙ ap (λ t. cond t s (after_wait (record s { retry = after s.retry now }) due)) running in
    subst (λ (y : State). PingStands p start y (h ++ ping_entry (waited now) acts ∷ [])) (sym becomes2)
    (subst (λ (y : Acts). PingStands p start (after_wait (record s { retry = after s.retry now }) due) (h ++ ping_entry (waited now) y ∷ [])) (sym asks2)
    (clock_by p start s h now due stands (clocked_so p start s h now due stands running small refl)))

-- the ping that was just started
pub start_stands : (p : Pinged) (now : ℕ) → PingStands p now (record { host = p.host; ident = p.ident; phase = Waiting; retry = started now Common }) []
start_stands p now = record {
  meets = record { asking = tt; tries = refl };
  begun = refl;
  over = refl;
  waiting = λ _. record { unanswered = refl; timer = refl; since = refl; plan = refl };
}
