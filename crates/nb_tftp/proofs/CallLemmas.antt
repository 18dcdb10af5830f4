-- A transfer stands for one call more: any datagram, any time, and what has ended.
use Rattle.std.proofs.Common.{◌≡◌, ℕ, ◌^◌, ◌<◌, List, [], ◌∷◌, ◌++◌, Option, Some, None, true, false, cond, refl, ap, ◌∙◌, sym, subst, Bool}
use Rattle.std.specs.Prelude.{map}
use Rattle.std.specs.List.{list_any}
use Rattle.std.specs.Option.{option_map_or}
use Rattle.std.proofs.lemmas.Bool.{false≢true}
use Rattle.std.proofs.lemmas.List.{append-nil}
use Rattle.nb_retry.specs.Calls.{TimerStands}
use Rattle.nb_retry.specs.Plans.{firings, waits}
use Rattle.nb_retry.specs.declared.retry.Due.{Due}
use Rattle.nb_retry.specs.declared.retry.Due.TheVariants.{Not, Again as TryAgain, Over as PlanOver}
use Rattle.nb_retry.specs.Timer.{due_at, after}
use Rattle.nb_terms.specs.declared.acts.Acts.{Acts}
use Rattle.nb_tftpmsg.proofs.PacketLemmas.{IsBytes}
use Rattle.nb_tftp.specs.declared.answer.Answer.TheVariants.{Ignored}
use Rattle.nb_tftp.specs.declared.state.State.{State}
use Rattle.nb_tftp.specs.Asks.{Begun, acts_of, due_acts, nothing}
use Rattle.nb_tftp.specs.Decisions.{fixed_of, block_size_of, last_of, transfer_has_ended}
use Rattle.nb_tftp.specs.Steps.{begun_of, first_state, state_after_answer, after_bytes, bytes_acts, after_due, after_tick, tick_acts}
use Rattle.nb_tftp.specs.Received.{Received, packet_in, port_with, size_with}
use Rattle.nb_tftp.specs.Blocks.{blocks_with, count_with, whole_with}
use Rattle.nb_tftp.specs.History.{Entry, entry, came, ticked, got, is_ended, ends_ok, watched, Watch}
use Rattle.nb_tftp.specs.Sentences.{MeetsWith, answers_with, answer_to}
use Rattle.nb_tftp.specs.Stands.{StandsWith, UnderWay}
use Rattle.nb_tftp.proofs.ReceivedLemmas.{Waits}
use Rattle.nb_tftp.proofs.AnswerLemmas.{means}
use Rattle.nb_tftp.proofs.HistoryLemmas.{got-append, is_ended-append, watched-append}
use Rattle.std.proofs.Common.{lit≤}
use Rattle.nb_retry.specs.Plans.{Asked, asked_at}
use Rattle.nb_retry.proofs.PlanLemmas.{Stands-append as TimerStands-append, follows_plan, after-since}
use Rattle.nb_tftpmsg.specs.Packets.{Message}
use Rattle.nb_tftpmsg.specs.Reading.{packet_read}
use Rattle.nb_tftp.specs.Decisions.{packet_decided}
use Rattle.nb_tftp.specs.History.{due_of}
use Rattle.nb_tftp.specs.Steps.{packet_acts, after_packet}
use Rattle.nb_tftp.proofs.StandsLemmas.{keeps, or_none, or_some, PlanOf, came_by}

-- what a datagram asks and leaves, by its answer, while the transfer hasn't ended
acts_by : (state : State) (rec port : ℕ) (p : Option Message) → transfer_has_ended state.phase ≡ false → option_map_or (packet_acts state rec port) p nothing ≡ acts_of (begun_of state) port (option_map_or (packet_decided state.options (fixed_of state.phase) (block_size_of state.phase) (last_of state.phase) rec port) p Ignored)
acts_by state rec port None unended = refl
acts_by state rec port (Some p) unended = ap (λ t. cond t nothing (acts_of (begun_of state) port (packet_decided state.options (fixed_of state.phase) (block_size_of state.phase) (last_of state.phase) rec port p))) unended

after_by : (state : State) (rec port now : ℕ) (p : Option Message) → transfer_has_ended state.phase ≡ false → option_map_or (λ packet. after_packet state rec port packet now) p state ≡ state_after_answer state port (option_map_or (packet_decided state.options (fixed_of state.phase) (block_size_of state.phase) (last_of state.phase) rec port) p Ignored) now
after_by state rec port now None unended = refl
after_by state rec port now (Some p) unended = ap (λ t. cond t state (state_after_answer state port (packet_decided state.options (fixed_of state.phase) (block_size_of state.phase) (last_of state.phase) rec port p) now)) unended

answer_same : (opts : Bool) (state : State) (h : List Entry) (m : Received) → state.options ≡ opts → fixed_of state.phase ≡ port_with opts (got h) → block_size_of state.phase ≡ size_with opts (got h) → last_of state.phase ≡ count_with opts (got h)
    → answer_to state.options (fixed_of state.phase) (block_size_of state.phase) (last_of state.phase) m ≡ answer_to opts (port_with opts (got h)) (size_with opts (got h)) (count_with opts (got h)) m
answer_same opts state h m asked fixed size last =
    ap (λ o. answer_to o (fixed_of state.phase) (block_size_of state.phase) (last_of state.phase) m) asked
    ∙ ap (λ f. answer_to opts f (block_size_of state.phase) (last_of state.phase) m) fixed ∙ ap (λ s. answer_to opts (port_with opts (got h)) s (last_of state.phase) m) size
    ∙ ap (λ l. answer_to opts (port_with opts (got h)) (size_with opts (got h)) l m) last

-- any datagram
pub came_stands : (opts : Bool) (b : Begun) (start : ℕ) (state : State) (h : List Entry) (m : Received) (now : ℕ)
    → StandsWith opts b start state h → is_ended h ≡ false → IsBytes m.body
    → StandsWith opts b start (after_bytes state m.rec m.port m.body now) (h ++ entry (came m now) (bytes_acts state m.rec m.port m.body) ∷ [])
came_stands opts b start state h m now stands unended are =
    let running : transfer_has_ended state.phase ≡ false = stands.over ∙ unended in
    let live = stands.live running in
    let same = answer_same opts state h m live.asked live.fixed live.size live.last in
    let acts : bytes_acts state m.rec m.port m.body ≡ acts_of b m.port (answer_to opts (port_with opts (got h)) (size_with opts (got h)) (count_with opts (got h)) m) =
    acts_by state m.rec m.port (packet_in m) running ∙ ap (λ x. acts_of x m.port (answer_to state.options (fixed_of state.phase) (block_size_of state.phase) (last_of state.phase) m)) live.begun ∙ ap (acts_of b m.port) same in
    let after : after_bytes state m.rec m.port m.body now ≡ state_after_answer state m.port (answer_to opts (port_with opts (got h)) (size_with opts (got h)) (count_with opts (got h)) m) now =
    after_by state m.rec m.port now (packet_in m) running ∙ ap (λ a. state_after_answer state m.port a now) same in
    subst (λ (x : State). StandsWith opts b start x (h ++ entry (came m now) (bytes_acts state m.rec m.port m.body) ∷ [])) (sym after)
    (subst (λ (x : Acts). StandsWith opts b start (state_after_answer state m.port (answer_to opts (port_with opts (got h)) (size_with opts (got h)) (count_with opts (got h)) m) now) (h ++ entry (came m now) x ∷ [])) (sym acts)
    (came_by opts b start state h m now (answer_to opts (port_with opts (got h)) (size_with opts (got h)) (count_with opts (got h)) m) stands running are (means opts (port_with opts (got h)) (size_with opts (got h)) (count_with opts (got h)) m.rec m.port (packet_in m)) refl))

-- a time changes nothing of what was received
got_same : (h : List Entry) (now : ℕ) (acts : Acts) → got (h ++ entry (ticked now) acts ∷ []) ≡ got h
got_same h now acts = got-append h (entry (ticked now) acts) ∙ append-nil (got h)

timer_more : (opts : Bool) (b : Begun) (start : ℕ) (state : State) (h : List Entry) (now : ℕ) (due : Due) → UnderWay opts b start state h → now < 2 ^ 64 → due ≡ due_at state.retry now → TimerStands (after state.retry now) ((watched start h).times ++ asked_at now due ∷ [])
timer_more opts b start state h now due live small is = TimerStands-append state.retry (after state.retry now) (watched start h).times now due small is refl live.timer

plan_more : (opts : Bool) (b : Begun) (start : ℕ) (state : State) (h : List Entry) (now : ℕ) (due : Due) → UnderWay opts b start state h → now < 2 ^ 64 → due ≡ due_at state.retry now → PlanOf (record (watched start h) { times = (watched start h).times ++ asked_at now due ∷ [] })
plan_more opts b start state h now due live small is =
    let times : List Asked = (watched start h).times ++ asked_at now due ∷ [] in
    follows_plan (after state.retry now) times (timer_more opts b start state h now due live small is)
    ∙ ap (λ since. firings since (waits (after state.retry now).plan) (map (λ call. call.at) times)) ((after-since state.retry now).0 ∙ live.since)
    ∙ ap (λ plan. firings (watched start h).since (waits plan) (map (λ call. call.at) times)) ((after-since state.retry now).1 ∙ live.plan)

tick_meets : (opts : Bool) (b : Begun) (start : ℕ) (state : State) (h : List Entry) (now : ℕ) (due : Due) (acts : Acts)
    → MeetsWith opts b start h → UnderWay opts b start state h → now < 2 ^ 64 → due ≡ due_at state.retry now
    → acts.advance ≡ None → ends_ok acts ≡ false → due_of acts ≡ due → acts ≡ due_acts b (port_with opts (got h)) (count_with opts (got h)) due
    → MeetsWith opts b start (h ++ entry (ticked now) acts ∷ [])
tick_meets opts b start state h now due acts meets live small is no_place bad said asks =
    let e : Entry = entry (ticked now) acts in
    let same : blocks_with opts (got (h ++ e ∷ [])) ≡ blocks_with opts (got h) = ap (blocks_with opts) (got_same h now acts) in
    let watch : watched start (h ++ e ∷ []) ≡ record (watched start h) { times = (watched start h).times ++ asked_at now due ∷ [] } =
    watched-append start h e ∙ ap (λ d. record (watched start h) { times = (watched start h).times ++ asked_at now d ∷ [] }) said in
    keeps opts b start h e meets no_place refl same
    (bad ∙ sym (ap (whole_with opts) (got_same h now acts) ∙ live.unfinished))
    (asks ∙ ap (due_acts b (port_with opts (got h)) (count_with opts (got h))) (sym said))
    live.unanswered
    (subst PlanOf (sym watch) (plan_more opts b start state h now due live small is))

tick_live : (opts : Bool) (b : Begun) (start : ℕ) (state : State) (h : List Entry) (now : ℕ) (due : Due) (acts : Acts)
    → UnderWay opts b start state h → now < 2 ^ 64 → due ≡ due_at state.retry now → due_of acts ≡ due
    → UnderWay opts b start (record state { retry = after state.retry now }) (h ++ entry (ticked now) acts ∷ [])
tick_live opts b start state h now due acts live small is said =
    let e : Entry = entry (ticked now) acts in
    let same = got_same h now acts in
    let watch : watched start (h ++ e ∷ []) ≡ record (watched start h) { times = (watched start h).times ++ asked_at now due ∷ [] } =
    watched-append start h e ∙ ap (λ d. record (watched start h) { times = (watched start h).times ++ asked_at now d ∷ [] }) said in
    record {
      begun = live.begun;
      asked = live.asked;
      fixed = live.fixed ∙ sym (ap (port_with opts) same);
      size = live.size ∙ sym (ap (size_with opts) same);
      last = live.last ∙ sym (ap (count_with opts) same);
      waiting = subst (Waits opts) (sym same) live.waiting;
      unfinished = ap (whole_with opts) same ∙ live.unfinished;
      timer = subst (λ (w : Watch). TimerStands (after state.retry now) w.times) (sym watch) (timer_more opts b start state h now due live small is);
      since = (after-since state.retry now).0 ∙ live.since ∙ sym (ap (λ w. w.since) watch);
      plan = (after-since state.retry now).1 ∙ live.plan;
      unanswered =
          ap (λ g. list_any (answers_with opts (port_with opts g) (count_with opts g)) (watched start (h ++ e ∷ [])).heard) same
          ∙ ap (λ w. list_any (answers_with opts (port_with opts (got h)) (count_with opts (got h))) w.heard) watch
          ∙ live.unanswered;
    }

-- a time, by what the timer says
tick_by : (opts : Bool) (b : Begun) (start : ℕ) (state : State) (h : List Entry) (now : ℕ) (due : Due)
    → StandsWith opts b start state h → transfer_has_ended state.phase ≡ false → now < 2 ^ 64 → due ≡ due_at state.retry now
    → StandsWith opts b start (after_due (record state { retry = after state.retry now }) due) (h ++ entry (ticked now) (due_acts b (port_with opts (got h)) (count_with opts (got h)) due) ∷ [])
tick_by opts b start state h now Not stands unended small is =
    let acts : Acts = nothing in
    let live = stands.live unended in
    record {
      meets = tick_meets opts b start state h now Not acts stands.meets live small is refl refl refl refl;
      over = stands.over ∙ sym (is_ended-append h (entry (ticked now) acts) ∙ or_none (is_ended h));
      live = λ _. tick_live opts b start state h now Not acts live small is refl;
    }
tick_by opts b start state h now (TryAgain n) stands unended small is =
    let acts : Acts = due_acts b (port_with opts (got h)) (count_with opts (got h)) (TryAgain n) in
    let live = stands.live unended in
    record {
      meets = tick_meets opts b start state h now (TryAgain n) acts stands.meets live small is refl refl refl refl;
      over = stands.over ∙ sym (is_ended-append h (entry (ticked now) acts) ∙ or_none (is_ended h));
      live = λ _. tick_live opts b start state h now (TryAgain n) acts live small is refl;
    }
tick_by opts b start state h now PlanOver stands unended small is =
    let acts : Acts = due_acts b (port_with opts (got h)) (count_with opts (got h)) PlanOver in
    let live = stands.live unended in
    record {
      meets = tick_meets opts b start state h now PlanOver acts stands.meets live small is refl refl refl refl;
      over = sym (is_ended-append h (entry (ticked now) acts) ∙ or_some (is_ended h));
      live = λ over. absurd (false≢true (sym over));
    }

pub tick_stands : (opts : Bool) (b : Begun) (start : ℕ) (state : State) (h : List Entry) (now : ℕ)
    → StandsWith opts b start state h → is_ended h ≡ false → now < 2 ^ 64
    → StandsWith opts b start (after_tick state now) (h ++ entry (ticked now) (tick_acts state now) ∷ [])
tick_stands opts b start state h now stands unended small =
    let running : transfer_has_ended state.phase ≡ false = stands.over ∙ unended in
    let live = stands.live running in
    let due : Due = due_at state.retry now in
    let acts : tick_acts state now ≡ due_acts b (port_with opts (got h)) (count_with opts (got h)) due =
    ap (λ t. cond t nothing (due_acts (begun_of state) (fixed_of state.phase) (last_of state.phase) due)) running
    ∙ ap (λ x. due_acts x (fixed_of state.phase) (last_of state.phase) due) live.begun
    ∙ ap (λ f. due_acts b f (last_of state.phase) due) live.fixed
    ∙ ap (λ l. due_acts b (port_with opts (got h)) l due) live.last in
    let then : after_tick state now ≡ after_due (record state { retry = after state.retry now }) due =
    ap (λ t. cond t state (after_due (record state { retry = after state.retry now }) due)) running in
    subst (λ (x : State). StandsWith opts b start x (h ++ entry (ticked now) (tick_acts state now) ∷ [])) (sym then)
    (subst (λ (x : Acts). StandsWith opts b start (after_due (record state { retry = after state.retry now }) due) (h ++ entry (ticked now) x ∷ [])) (sym acts)
    (tick_by opts b start state h now due stands running small refl))

start_size : (opts : Bool) → size_with opts [] ≡ 512
start_size true = refl
start_size false = refl

-- the transfer that was just started
pub start_stands : (opts : Bool) (b : Begun) (now : ℕ) → StandsWith opts b now (first_state opts b now) []
start_stands opts b now = record {
  meets = record { advance = refl; bytes = refl; whole = tt; sending = tt; tries = refl; unanswered = tt };
  over = refl;
  live = λ _. record {
    begun = refl;
    asked = refl;
    fixed = refl;
    size = sym (start_size opts);
    last = refl;
    waiting = λ size port can. record { behind = ([], refl, refl); few = lit≤ tt; all = refl };
    unfinished = refl;
    timer = refl;
    since = refl;
    plan = refl;
    unanswered = refl;
  };
}

over_after : (state : State) (rec port now : ℕ) (p : Option Message) → transfer_has_ended state.phase ≡ true → option_map_or (λ packet. after_packet state rec port packet now) p state ≡ state
over_after state rec port now None over = refl
over_after state rec port now (Some p) over = ap (λ t. cond t state (state_after_answer state port (packet_decided state.options (fixed_of state.phase) (block_size_of state.phase) (last_of state.phase) rec port p) now)) over

over_acts : (state : State) (rec port : ℕ) (p : Option Message) → transfer_has_ended state.phase ≡ true → option_map_or (packet_acts state rec port) p nothing ≡ nothing
over_acts state rec port None over = refl
over_acts state rec port (Some p) over = ap (λ t. cond t nothing (acts_of (begun_of state) port (packet_decided state.options (fixed_of state.phase) (block_size_of state.phase) (last_of state.phase) rec port p))) over

-- what has ended ignores every call
pub came_over : (opts : Bool) (b : Begun) (start : ℕ) (state : State) (h : List Entry) (rec port : ℕ) (body : List ℕ) (now : ℕ)
    → StandsWith opts b start state h → is_ended h ≡ true
    → StandsWith opts b start (after_bytes state rec port body now) h × (bytes_acts state rec port body ≡ nothing)
came_over opts b start state h rec port body now stands ended =
    let over : transfer_has_ended state.phase ≡ true = stands.over ∙ ended in
    (subst (λ (x : State). StandsWith opts b start x h) (sym (over_after state rec port now (packet_read body) over)) stands, over_acts state rec port (packet_read body) over)

pub tick_over : (opts : Bool) (b : Begun) (start : ℕ) (state : State) (h : List Entry) (now : ℕ)
    → StandsWith opts b start state h → is_ended h ≡ true
    → StandsWith opts b start (after_tick state now) h × (tick_acts state now ≡ nothing)
tick_over opts b start state h now stands ended =
    let over : transfer_has_ended state.phase ≡ true = stands.over ∙ ended in (
      subst (λ (x : State). StandsWith opts b start x h) (sym (ap (λ t. cond t state (after_due (record state { retry = after state.retry now }) (due_at state.retry now))) over)) stands,
      ap (λ t. cond t nothing (due_acts (begun_of state) (fixed_of state.phase) (last_of state.phase) (due_at state.retry now))) over,
    )

-- the same for whatever a call left and asked, where it is what the definitions say
pub came_goes_on : (opts : Bool) (b : Begun) (start : ℕ) (state new : State) (h : List Entry) (m : Received) (now : ℕ) (acts : Acts)
    → acts ≡ bytes_acts state m.rec m.port m.body → new ≡ after_bytes state m.rec m.port m.body now → IsBytes m.body
    → StandsWith opts b start state h → is_ended h ≡ false
    → StandsWith opts b start new (h ++ entry (came m now) acts ∷ [])
came_goes_on opts b start state new h m now acts asks becomes are stands unended =
    subst (λ (x : State). StandsWith opts b start x (h ++ entry (came m now) acts ∷ [])) (sym becomes)
    (subst (λ (x : Acts). StandsWith opts b start (after_bytes state m.rec m.port m.body now) (h ++ entry (came m now) x ∷ [])) (sym asks) (came_stands opts b start state h m now stands unended are))

pub came_stays : (opts : Bool) (b : Begun) (start : ℕ) (state new : State) (h : List Entry) (rec port : ℕ) (body : List ℕ) (now : ℕ) (acts : Acts)
    → acts ≡ bytes_acts state rec port body → new ≡ after_bytes state rec port body now
    → StandsWith opts b start state h → is_ended h ≡ true
    → StandsWith opts b start new h × (acts ≡ nothing)
came_stays opts b start state new h rec port body now acts asks becomes stands ended =
    let done = came_over opts b start state h rec port body now stands ended in
    (subst (λ (x : State). StandsWith opts b start x h) (sym becomes) done.0, asks ∙ done.1)

pub tick_goes_on : (opts : Bool) (b : Begun) (start : ℕ) (state new : State) (h : List Entry) (now : ℕ) (acts : Acts)
    → acts ≡ tick_acts state now → new ≡ after_tick state now → now < 2 ^ 64
    → StandsWith opts b start state h → is_ended h ≡ false
    → StandsWith opts b start new (h ++ entry (ticked now) acts ∷ [])
tick_goes_on opts b start state new h now acts asks becomes small stands unended =
    subst (λ (x : State). StandsWith opts b start x (h ++ entry (ticked now) acts ∷ [])) (sym becomes)
    (subst (λ (x : Acts). StandsWith opts b start (after_tick state now) (h ++ entry (ticked now) x ∷ [])) (sym asks) (tick_stands opts b start state h now stands unended small))
