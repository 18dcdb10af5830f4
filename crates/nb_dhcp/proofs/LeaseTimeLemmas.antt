-- A core goes on to stand for its calls, one time later; and its first one.
use Rattle.std.proofs.Common.{◌≡◌, ℕ, ◌^◌, ◌<◌, List, [], ◌∷◌, ◌++◌, None, false, cond, refl, ap, ◌∙◌, sym, subst}
use Rattle.std.specs.Prelude.{map}
use Rattle.std.specs.List.{list_any}
use Rattle.std.specs.Option.{is_some}
use Rattle.std.proofs.lemmas.Bool.{false≢true}
use Rattle.std.proofs.lemmas.List.{append-nil}
use Rattle.nb_retry.specs.Calls.{TimerStands}
use Rattle.nb_retry.specs.Plans.{Asked, asked_at, firings, waits}
use Rattle.nb_retry.specs.declared.retry.Due.{Due}
use Rattle.nb_retry.specs.declared.retry.Due.TheVariants.{Not, Again, Over}
use Rattle.nb_retry.specs.Timer.{due_at, after}
use Rattle.nb_retry.proofs.PlanLemmas.{Stands-append, follows_plan, after-since}
use Rattle.nb_terms.specs.declared.acts.Acts.{Acts}
use Rattle.nb_dhcp.specs.declared.asker.Asker.{Asker}
use Rattle.nb_dhcp.specs.declared.state.State.{State}
use Rattle.nb_dhcp.specs.Acting.{no_acts, timer_acts}
use Rattle.nb_dhcp.specs.History.{Handed, LeaseEntry, lease_entry, elapsed, all_handed, offered, taken_offer, acknowledgement_in, is_done, is_done_ok, timer_said, LeaseWatch, lease_watch}
use Rattle.nb_dhcp.specs.Promises.{LeasePromises, KeepsPlan, answers_asker}
use Rattle.nb_dhcp.specs.LeaseSteps.{offer_at, is_over_at, after_said, after_time, acts_on_time}
use Rattle.nb_dhcp.specs.LeaseStands.{IsPending, IsAsking, LeaseStands}
use Rattle.nb_dhcp.proofs.LeaseHistoryLemmas.{all_handed-append, is_done-append, lease_watch-append, pending_none}
use Rattle.nb_dhcp.proofs.LeaseStandsLemmas.{or_none, or_some, promises_keep}

-- a time changes nothing of what was handed over
handed_same : (h : List LeaseEntry) (now : ℕ) (acts : Acts) → all_handed (h ++ lease_entry (elapsed now) acts ∷ []) ≡ all_handed h
handed_same h now acts = all_handed-append h (lease_entry (elapsed now) acts) ∙ append-nil (all_handed h)

timer_more : (a : Asker) (start : ℕ) (s : State) (h : List LeaseEntry) (now : ℕ) (due : Due) → IsAsking a start s h → now < 2 ^ 64 → due ≡ due_at s.retry now → TimerStands (after s.retry now) ((lease_watch start h).times ++ asked_at now due ∷ [])
timer_more a start s h now due live small is =
    subst (λ (d : Due). TimerStands (after s.retry now) ((lease_watch start h).times ++ asked_at now d ∷ [])) (sym is)
    (Stands-append s.retry (after s.retry now) (lease_watch start h).times now (due_at s.retry now) small refl refl live.timer)

watch_more : (start : ℕ) (h : List LeaseEntry) (now : ℕ) (due : Due) (acts : Acts) → timer_said acts ≡ due → lease_watch start (h ++ lease_entry (elapsed now) acts ∷ []) ≡ record (lease_watch start h) { times = (lease_watch start h).times ++ asked_at now due ∷ [] }
watch_more start h now due acts said =
    lease_watch-append start h (lease_entry (elapsed now) acts) ∙ ap (λ d. record (lease_watch start h) { times = (lease_watch start h).times ++ asked_at now d ∷ [] }) said

plan_more : (a : Asker) (start : ℕ) (s : State) (h : List LeaseEntry) (now : ℕ) (due : Due) → IsAsking a start s h → now < 2 ^ 64 → due ≡ due_at s.retry now → KeepsPlan (record (lease_watch start h) { times = (lease_watch start h).times ++ asked_at now due ∷ [] })
plan_more a start s h now due live small is =
    let times : List Asked = (lease_watch start h).times ++ asked_at now due ∷ [] in
    follows_plan (after s.retry now) times (timer_more a start s h now due live small is)
    ∙ ap (λ since. firings since (waits (after s.retry now).plan) (map (λ call. call.at) times)) ((after-since s.retry now).0 ∙ live.since)
    ∙ ap (λ plan. firings (lease_watch start h).since (waits plan) (map (λ call. call.at) times)) ((after-since s.retry now).1 ∙ live.plan)

time_meets : (a : Asker) (start : ℕ) (s : State) (h : List LeaseEntry) (now : ℕ) (due : Due) (acts : Acts)
    → LeasePromises a start h → IsAsking a start s h → now < 2 ^ 64 → due ≡ due_at s.retry now
    → is_done_ok acts ≡ false → timer_said acts ≡ due → acts ≡ timer_acts a (taken_offer a (all_handed h)) due
    → LeasePromises a start (h ++ lease_entry (elapsed now) acts ∷ [])
time_meets a start s h now due acts meets live small is bad said asks =
    let none : acknowledgement_in a (all_handed (h ++ lease_entry (elapsed now) acts ∷ [])) ≡ None = ap (acknowledgement_in a) (handed_same h now acts) ∙ pending_none a (offered a (all_handed h)) live.pending in
    promises_keep a start h (lease_entry (elapsed now) acts) meets
    (asks ∙ ap (timer_acts a (taken_offer a (all_handed h))) (sym said))
    (bad ∙ sym (ap is_some none)) live.unanswered
    (subst KeepsPlan (sym (watch_more start h now due acts said)) (plan_more a start s h now due live small is))

time_asks : (a : Asker) (start : ℕ) (s : State) (h : List LeaseEntry) (now : ℕ) (due : Due) (acts : Acts)
    → IsAsking a start s h → now < 2 ^ 64 → due ≡ due_at s.retry now → timer_said acts ≡ due
    → IsAsking a start (record s { retry = after s.retry now }) (h ++ lease_entry (elapsed now) acts ∷ [])
time_asks a start s h now due acts live small is said =
    let e : LeaseEntry = lease_entry (elapsed now) acts in
    let same = handed_same h now acts in
    let watch = watch_more start h now due acts said in
    record {
      taken = live.taken ∙ sym (ap (taken_offer a) same);
      pending = subst (λ (ms : List Handed). IsPending a (offered a ms)) (sym same) live.pending;
      timer = subst (λ (w : LeaseWatch). TimerStands (after s.retry now) w.times) (sym watch) (timer_more a start s h now due live small is);
      since = (after-since s.retry now).0 ∙ live.since ∙ sym (ap (λ w. w.since) watch);
      plan = (after-since s.retry now).1 ∙ live.plan;
      unanswered =
          ap (λ ms. list_any (answers_asker a (taken_offer a ms)) (lease_watch start (h ++ e ∷ [])).replies) same
          ∙ ap (λ w. list_any (answers_asker a (taken_offer a (all_handed h))) w.replies) watch
          ∙ live.unanswered;
    }

-- a time, by what the timer says
time_by : (a : Asker) (start : ℕ) (s : State) (h : List LeaseEntry) (now : ℕ) (due : Due)
    → LeaseStands a start s h → is_over_at s.phase ≡ false → now < 2 ^ 64 → due ≡ due_at s.retry now
    → LeaseStands a start (after_said (record s { retry = after s.retry now }) due) (h ++ lease_entry (elapsed now) (timer_acts a (taken_offer a (all_handed h)) due) ∷ [])
time_by a start s h now Not stands unended small is =
    let acts : Acts = no_acts in
    let live = stands.asks unended in
    record {
      meets = time_meets a start s h now Not acts stands.meets live small is refl refl refl;
      its = stands.its;
      over = stands.over ∙ sym (is_done-append h (lease_entry (elapsed now) acts) ∙ or_none (is_done h));
      kept = stands.kept ∙ sym (ap (acknowledgement_in a) (handed_same h now acts));
      asks = λ _. time_asks a start s h now Not acts live small is refl;
    }
time_by a start s h now (Again n) stands unended small is =
    let acts : Acts = timer_acts a (taken_offer a (all_handed h)) (Again n) in
    let live = stands.asks unended in
    record {
      meets = time_meets a start s h now (Again n) acts stands.meets live small is refl refl refl;
      its = stands.its;
      over = stands.over ∙ sym (is_done-append h (lease_entry (elapsed now) acts) ∙ or_none (is_done h));
      kept = stands.kept ∙ sym (ap (acknowledgement_in a) (handed_same h now acts));
      asks = λ _. time_asks a start s h now (Again n) acts live small is refl;
    }
time_by a start s h now Over stands unended small is =
    let acts : Acts = timer_acts a (taken_offer a (all_handed h)) Over in
    let live = stands.asks unended in
    record {
      meets = time_meets a start s h now Over acts stands.meets live small is refl refl refl;
      its = stands.its;
      over = sym (is_done-append h (lease_entry (elapsed now) acts) ∙ or_some (is_done h));
      kept = sym (ap (acknowledgement_in a) (handed_same h now acts) ∙ pending_none a (offered a (all_handed h)) live.pending);
      asks = λ over. absurd (false≢true (sym over));
    }

pub elapsed_stands : (a : Asker) (start : ℕ) (s : State) (h : List LeaseEntry) (now : ℕ)
    → LeaseStands a start s h → is_done h ≡ false → now < 2 ^ 64
    → LeaseStands a start (after_time s now) (h ++ lease_entry (elapsed now) (acts_on_time s now) ∷ [])
elapsed_stands a start s h now stands open_yet small =
    let unended : is_over_at s.phase ≡ false = stands.over ∙ open_yet in
    let live = stands.asks unended in
    let due : Due = due_at s.retry now in
    let acts : acts_on_time s now ≡ timer_acts a (taken_offer a (all_handed h)) due =
    ap (λ b. cond b no_acts (timer_acts s.asker (offer_at s.phase) due)) unended
    ∙ ap (λ x. timer_acts x (offer_at s.phase) due) stands.its
    ∙ ap (λ o. timer_acts a o due) live.taken in
    let then : after_time s now ≡ after_said (record s { retry = after s.retry now }) due =
    ap (λ b. cond b s (after_said (record s { retry = after s.retry now }) due)) unended in
    subst (λ (x : State). LeaseStands a start x (h ++ lease_entry (elapsed now) (acts_on_time s now) ∷ [])) (sym then)
    (subst (λ (x : Acts). LeaseStands a start (after_said (record s { retry = after s.retry now }) due) (h ++ lease_entry (elapsed now) x ∷ [])) (sym acts)
    (time_by a start s h now due stands unended small refl))

pub elapsed_goes_on : (a : Asker) (start : ℕ) (s t : State) (h : List LeaseEntry) (now : ℕ) (acts : Acts)
    → acts ≡ acts_on_time s now → t ≡ after_time s now → now < 2 ^ 64 → LeaseStands a start s h → is_done h ≡ false
    → LeaseStands a start t (h ++ lease_entry (elapsed now) acts ∷ [])
elapsed_goes_on a start s t h now acts asks becomes small stands open_yet =
    subst (λ (x : State). LeaseStands a start x (h ++ lease_entry (elapsed now) acts ∷ [])) (sym becomes)
    (subst (λ (x : Acts). LeaseStands a start (after_time s now) (h ++ lease_entry (elapsed now) x ∷ [])) (sym asks) (elapsed_stands a start s h now stands open_yet small))
