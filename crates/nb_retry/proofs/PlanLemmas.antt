-- A timer's answers over a whole run are the firings of its plan.
use Rattle.std.proofs.Common.{◌≡◌, ℕ, ◌+◌, ◌-◌, ◌^◌, ◌<◌, ◌≤◌, List, [], ◌∷◌, ◌++◌, None, true, false, refl, ap, ◌∙◌, sym, arith, leb, ltb, drop, length, map}
use Rattle.std.specs.List.{filter}
use Rattle.std.specs.Prelude.{slice_index}
use Rattle.std.proofs.Common.{subst, length-drop, get_or, suc, lit<, lit≤}
use Rattle.std.proofs.lemmas.List.{drop_more}
use Rattle.std.proofs.lemmas.Bool.{lt-leb, ltb-false, lt-ltb, le-ltb}
use Rattle.nb_retry.specs.declared.plan.Plan.{Plan}
use Rattle.nb_retry.specs.declared.plan.Plan.TheVariants.{Common, Dhcp, Probe}
use Rattle.nb_retry.specs.declared.retry.Due.{Due}
use Rattle.nb_retry.specs.declared.retry.Due.TheVariants.{Not, Again, Over}
use Rattle.nb_retry.specs.declared.retry.Retry.{Retry}
use Rattle.nb_retry.specs.Plans.{Asked, asked_at, Wait, wait, waits, delays, first_try, firings}
use Rattle.nb_retry.specs.Timer.{started, moment_after, is_due, goes_on, passed, due_at, after}
use Rattle.nb_retry.specs.Calls.{TimerSays, TimerStands, FollowsPlan, fires}
use Rattle.nb_retry.proofs.FiringLemmas.{ArePositive, either_way, firings-none, firings-early, firings-due}

-- the waits of a plan from a try on, made of its delays
abbrev pub numbered : ℕ → List ℕ → List Wait
numbered n [] = []
numbered n (d ∷ []) = wait d Over ∷ []
numbered n (d ∷ e ∷ ds) = wait d (Again (n + 1)) ∷ numbered (n + 1) (e ∷ ds)

-- the timer waits for the first of these delays, from the last firing on
pub record Waiting (retry : Retry) (last delay : ℕ) (more : List ℕ) : Type 0 where
  pub next : retry.next ≡ moment_after last delay
  pub rest : drop (retry.fired - first_try retry.plan) (delays retry.plan) ≡ delay ∷ more
  pub counted : first_try retry.plan ≤ retry.fired

-- one call more at the end
pub Says-append : (old : Retry) (calls : List Asked) (mid : Retry) (at : ℕ) → at < 2 ^ 64 → TimerSays old calls mid → TimerSays old (calls ++ asked_at at (due_at mid at) ∷ []) (after mid at)
Says-append old [] mid at fits says = (fits, ap (λ r. due_at r at) says, ap (λ r. after r at) says)
Says-append old (call ∷ calls) mid at fits says = (says.0, says.1, Says-append (after old call.at) calls mid at fits says.2)

is_due-later : (retry : Retry) (last delay time : ℕ) → retry.next ≡ moment_after last delay → time < 2 ^ 64 → is_due retry time ≡ leb (last + delay) time
is_due-later retry last delay time next fits =
    rw next (either_way (ltb (last + delay) (2 ^ 64))
    (λ small. rw small refl)
    (λ big. let large : 2 ^ 64 ≤ last + delay = ltb-false (last + delay) (2 ^ 64) big in
    rw big (sym (lt-leb (last + delay) time (omega arith)))))

not_due : (retry : Retry) (time : ℕ) → is_due retry time ≡ false → (due_at retry time ≡ Not) × (after retry time ≡ retry)
not_due retry time quiet = (rw quiet refl, rw quiet refl)

due_on : (retry : Retry) (time : ℕ) → is_due retry time ≡ true → goes_on retry ≡ true → (due_at retry time ≡ Again (retry.fired + 1)) × (after retry time ≡ record retry { fired = retry.fired + 1; next = moment_after time (slice_index (delays retry.plan) (passed retry)) })
due_on retry time due on = (rw due (rw on refl), rw due (rw on refl))

due_over : (retry : Retry) (time : ℕ) → is_due retry time ≡ true → goes_on retry ≡ false → (due_at retry time ≡ Over) × (after retry time ≡ record retry { next = None })
due_over retry time due last = (rw due (rw last refl), rw due (rw last refl))

filter-silent : (call : Asked) (calls : List Asked) → call.said ≡ Not → filter (λ c. fires c.said) (call ∷ calls) ≡ filter (λ c. fires c.said) calls
filter-silent call calls said = rw said refl

filter-fires : (at : ℕ) (said is : Due) (calls : List Asked) → said ≡ is → fires is ≡ true → filter (λ c. fires c.said) (asked_at at said ∷ calls) ≡ asked_at at is ∷ filter (λ c. fires c.said) calls
filter-fires at said is calls same firing =
    subst (λ (d : Due). filter (λ c. fires c.said) (asked_at at d ∷ calls) ≡ asked_at at is ∷ filter (λ c. fires c.said) calls) (sym same) (rw firing refl)

-- a stopped timer doesn't fire
pub stopped_is_silent : (old : Retry) (calls : List Asked) (new : Retry) → old.next ≡ None → TimerSays old calls new → filter (λ call. fires call.said) calls ≡ []
stopped_is_silent old [] new stopped says = refl
stopped_is_silent old (call ∷ calls) new stopped says =
    let quiet : is_due old call.at ≡ false = rw stopped refl in
    let step = not_due old call.at quiet in
    filter-silent call calls (says.1 ∙ step.0) ∙ stopped_is_silent old calls new stopped (subst (λ (r : Retry). TimerSays r calls new) step.1 says.2)

-- the timer goes on exactly where more delays follow
goes_on-last : (retry : Retry) (delay : ℕ) → drop (retry.fired - first_try retry.plan) (delays retry.plan) ≡ delay ∷ [] → goes_on retry ≡ false
goes_on-last retry delay rest =
    let one : length (drop (retry.fired - first_try retry.plan) (delays retry.plan)) ≡ 1 = ap length rest in
    le-ltb (passed retry) (length (delays retry.plan))
    (omega (arith, length-drop (retry.fired - first_try retry.plan) (delays retry.plan)))

goes_on-more : (retry : Retry) (delay next : ℕ) (more : List ℕ) → drop (retry.fired - first_try retry.plan) (delays retry.plan) ≡ delay ∷ next ∷ more → goes_on retry ≡ true
goes_on-more retry delay next more rest =
    let many : length (drop (retry.fired - first_try retry.plan) (delays retry.plan)) ≡ suc (suc (length more)) = ap length rest in
    lt-ltb (passed retry) (length (delays retry.plan))
    (omega (arith, length-drop (retry.fired - first_try retry.plan) (delays retry.plan)))

-- one element less in front
drop_one : (xs : List ℕ) (k x : ℕ) (rest : List ℕ) → drop k xs ≡ x ∷ rest → drop (k + 1) xs ≡ rest
drop_one xs k x rest is =
    let some : length (drop k xs) ≡ suc (length rest) = ap length is in
    let more : drop k xs ≡ get_or xs k 0 ∷ drop (k + 1) xs = drop_more xs k 0 (omega (arith, length-drop k xs)) in
    cc

front_of_drop : (xs : List ℕ) (k x : ℕ) (rest : List ℕ) → drop k xs ≡ x ∷ rest → get_or xs k 0 ≡ x
front_of_drop xs k x rest is =
    let some : length (drop k xs) ≡ suc (length rest) = ap length is in
    let more : drop k xs ≡ get_or xs k 0 ∷ drop (k + 1) xs = drop_more xs k 0 (omega (arith, length-drop k xs)) in
    cc

-- a timer that fired waits for the next delay
Waiting-again : (retry : Retry) (last delay next : ℕ) (more : List ℕ) (time : ℕ) → Waiting retry last delay (next ∷ more) → Waiting (record retry { fired = retry.fired + 1; next = moment_after time (slice_index (delays retry.plan) (passed retry)) }) time next more
Waiting-again retry last delay next more time waiting =
    let left : drop (passed retry) (delays retry.plan) ≡ next ∷ more = drop_one (delays retry.plan) (retry.fired - first_try retry.plan) delay (next ∷ more) waiting.rest in
    let counted : first_try retry.plan ≤ retry.fired = waiting.counted in
    let place : retry.fired + 1 - first_try retry.plan ≡ passed retry = omega arith in
    record {
      next = ap (λ d. moment_after time d) (front_of_drop (delays retry.plan) (passed retry) next more left);
      rest = ap (λ k. drop k (delays retry.plan)) place ∙ left;
      counted = omega arith;
    }

-- a timer that waits fires at the times of what is left of its plan
pub waiting_fires : (old : Retry) (calls : List Asked) (new : Retry) (last delay : ℕ) (more : List ℕ) → Waiting old last delay more → ArePositive (numbered old.fired (delay ∷ more)) → TimerSays old calls new → filter (λ call. fires call.said) calls ≡ firings last (numbered old.fired (delay ∷ more)) (map (λ call. call.at) calls)
waiting_fires old [] new last delay more waiting positive says = sym (firings-none last (numbered old.fired (delay ∷ more)))
waiting_fires old (call ∷ calls) new last delay [] waiting positive says =
    let same = is_due-later old last delay call.at waiting.next says.0 in
    either_way (leb (last + delay) call.at)
    (λ due.
    let step = due_over old call.at (same ∙ due) (goes_on-last old delay waiting.rest) in
    filter-fires call.at call.said Over calls (says.1 ∙ step.0) refl
    ∙ ap (λ cs. asked_at call.at Over ∷ cs) (stopped_is_silent (record old { next = None }) calls new refl (subst (λ (r : Retry). TimerSays r calls new) step.1 says.2))
    ∙ sym (firings-due last call.at (wait delay Over) [] (map (λ c. c.at) calls) tt due))
    (λ early.
    let step = not_due old call.at (same ∙ early) in
    filter-silent call calls (says.1 ∙ step.0)
    ∙ waiting_fires old calls new last delay [] waiting positive (subst (λ (r : Retry). TimerSays r calls new) step.1 says.2)
    ∙ sym (firings-early last call.at (wait delay Over) [] (map (λ c. c.at) calls) tt early))
waiting_fires old (call ∷ calls) new last delay (next ∷ more) waiting positive says =
    let same = is_due-later old last delay call.at waiting.next says.0 in
    either_way (leb (last + delay) call.at)
    (λ due.
    let step = due_on old call.at (same ∙ due) (goes_on-more old delay next more waiting.rest) in
    filter-fires call.at call.said (Again (old.fired + 1)) calls (says.1 ∙ step.0) refl
    ∙ ap (λ cs. asked_at call.at (Again (old.fired + 1)) ∷ cs)
    (waiting_fires (record old { fired = old.fired + 1; next = moment_after call.at (slice_index (delays old.plan) (passed old)) }) calls new call.at next more
    (Waiting-again old last delay next more call.at waiting) positive.1 (subst (λ (r : Retry). TimerSays r calls new) step.1 says.2))
    ∙ sym (firings-due last call.at (wait delay (Again (old.fired + 1))) (numbered (old.fired + 1) (next ∷ more)) (map (λ c. c.at) calls) positive.1 due))
    (λ early.
    let step = not_due old call.at (same ∙ early) in
    filter-silent call calls (says.1 ∙ step.0)
    ∙ waiting_fires old calls new last delay (next ∷ more) waiting positive (subst (λ (r : Retry). TimerSays r calls new) step.1 says.2)
    ∙ sym (firings-early last call.at (wait delay (Again (old.fired + 1))) (numbered (old.fired + 1) (next ∷ more)) (map (λ c. c.at) calls) positive.1 early))

-- a started timer waits for its plan's first delay
started_waits : (now : ℕ) (plan : Plan) → (delay : ℕ) × (more : List ℕ) × (numbered (first_try plan) (delay ∷ more) ≡ waits plan) × Waiting (started now plan) now delay more × ArePositive (numbered (first_try plan) (delay ∷ more))
started_waits now Common = (250, 500 ∷ 1000 ∷ 2000 ∷ 4000 ∷ 8000 ∷ [], refl, record { next = refl; rest = refl; counted = lit≤ tt }, (lit< tt, (lit< tt, (lit< tt, (lit< tt, (lit< tt, (lit< tt, tt)))))))
started_waits now Dhcp = (1000, 2000 ∷ 4000 ∷ 8000 ∷ [], refl, record { next = refl; rest = refl; counted = lit≤ tt }, (lit< tt, (lit< tt, (lit< tt, (lit< tt, tt)))))
started_waits now Probe = (15000, 15000 ∷ 15000 ∷ 15000 ∷ 15000 ∷ [], refl, record { next = refl; rest = refl; counted = lit≤ tt }, (lit< tt, (lit< tt, (lit< tt, (lit< tt, (lit< tt, tt))))))

-- the law of a whole run
pub follows_plan : (retry : Retry) (calls : List Asked) → TimerStands retry calls → FollowsPlan retry calls
follows_plan retry calls stands =
    let waiting = started_waits retry.since retry.plan in
    subst (λ (ws : List Wait). filter (λ call. fires call.said) calls ≡ firings retry.since ws (map (λ call. call.at) calls)) waiting.2
    (waiting_fires (started retry.since retry.plan) calls retry retry.since waiting.0 waiting.1 waiting.3 waiting.4 stands)

pub after-since : (retry : Retry) (now : ℕ) → ((after retry now).since ≡ retry.since) × ((after retry now).plan ≡ retry.plan)
after-since retry now =
    either_way (is_due retry now)
    (λ due. either_way (goes_on retry)
    (λ on. let e = (due_on retry now due on).1 in (ap (λ r. r.since) e, ap (λ r. r.plan) e))
    (λ last. let e = (due_over retry now due last).1 in (ap (λ r. r.since) e, ap (λ r. r.plan) e)))
    (λ quiet. let e = (not_due retry now quiet).1 in (ap (λ r. r.since) e, ap (λ r. r.plan) e))

-- a call is added to those that the timer stands for
pub Stands-append : (old new : Retry) (calls : List Asked) (now : ℕ) (said : Due) → now < 2 ^ 64 → said ≡ due_at old now → new ≡ after old now → TimerStands old calls → TimerStands new (calls ++ asked_at now said ∷ [])
Stands-append old new calls now said fits says becomes stands =
    rw (says, becomes, (after-since old now).0, (after-since old now).1)
    (Says-append (started old.since old.plan) calls old now fits stands)
