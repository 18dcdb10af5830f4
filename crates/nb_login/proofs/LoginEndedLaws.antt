-- Where a cause stands in what came and what had been asked, a login ends for it.
use Rattle.std.proofs.Common.{◌≡◌, ◌≤◌, ◌+◌, ◌*◌, ℕ, List, [], ◌∷◌, ◌++◌, Some, None, Bool, true, false, cond, not, ◌&&◌, ◌||◌, ◌==◌, ltb, eqb, refl, ap, ◌∙◌, sym, subst}
use Rattle.std.proofs.lemmas.Bool.{and_from, or_from, or_left, or_right, le-ltb, eq-eqb, ne_eqb, not_from_false, false≢true}
use Rattle.std.proofs.lemmas.Option.{none-some}
use Rattle.nb_terms.specs.declared.cause.Cause.{Cause}
use Rattle.nb_terms.specs.declared.reason.Plain.TheVariants as plain
use Rattle.nb_terms.specs.declared.reason.Reason.TheVariants as reason
use Rattle.nb_iscsipdu.specs.Answers.{AnswerParts, login, scsi, data_in, nop_in, other, LoginResponseParts, answer_read}
use Rattle.nb_login.specs.declared.info.LoginInfo.{LoginInfo}
use Rattle.nb_login.specs.declared.step.Chap.{Chap}
use Rattle.nb_login.specs.declared.step.LoginStep.{LoginStep}
use Rattle.nb_login.specs.declared.step.LoginStep.TheVariants as at
use Rattle.nb_login.specs.declared.step.Decision.{Decision}
use Rattle.nb_login.specs.declared.step.Decision.TheVariants.{Ask, Open, End}
use Rattle.nb_login.specs.declared.step.NextRequest.{NextRequest}
use Rattle.nb_login.specs.Infos.{has_secret, asks_back}
use Rattle.nb_login.specs.Asking.{step_of}
use Rattle.nb_login.specs.LoginVerdicts.{chooses_chap, names_method, has_digest, answers_back, goes_astray, broken_login, go_on, by_keys, by_response, decided}
use Rattle.nb_login.specs.LoginHistory.{LoginEntry, last_done, login_ended, repeats, expected, end_given, is_end, decided_after, decided_at, IsDecidedSo, LoginMeets}
use Rattle.nb_login.specs.LoginEndings.{waits_for, WaitsFor, IsSuccess, CallsForNothing, IsBreach, by_kind, by_stage, by_digest, by_method, by_challenge, by_response as by_own_response, by_patience, LoginEnding, by_parameters, by_status, by_no_secret, by_breach}
use Rattle.nb_login.specs.LoginStands.{session_after, session_opened}
use Rattle.nb_login.proofs.LoginHistoryLemmas.{last_done-append}
use Rattle.nb_login.proofs.LoginEndingLaws.{each_is_decided}

-- what is out where no end was given
abbrev IsOut : Decision → Type 0
IsOut d = (request : NextRequest) × (d ≡ Ask request)

is-out : (d : Decision) → is_end d ≡ false → IsOut d
is-out (Ask request) going = (request, refl)
is-out (Open chap) going = absurd (false≢true (sym going))
is-out (End reason) going = absurd (false≢true (sym going))

-- the decision on an answer, by the request that is out
decided-by : (i : LoginInfo) (h : List LoginEntry) (e : LoginEntry) (request : NextRequest) (a : AnswerParts) → last_done h ≡ Ask request → answer_read e.came.pdu ≡ a
    → decided_at i h e.came ≡ decided i (step_of request) e.came.rec (repeats h) a
decided-by i h e request a out reads =
    ap (λ (d : Decision). decided_after i (repeats h) e.came d) out
    ∙ ap (λ (x : AnswerParts). decided i (step_of request) e.came.rec (repeats h) x) reads

-- what a Login Response comes to whose status is success
abbrev on_success : LoginInfo → LoginStep → ℕ → ℕ → LoginResponseParts → Decision
on_success i step rec n r = cond (goes_astray step r || has_digest r.keys) (broken_login rec) (by_keys i step rec n r)

success-decides : (i : LoginInfo) (step : LoginStep) (rec n : ℕ) (r : LoginResponseParts) → r.class ≡ 0 → by_response i step rec n r ≡ on_success i step rec n r
unfolding by_response
success-decides i step rec n r ok = rw (eq-eqb r.class 0 ok) refl

decided-success : (i : LoginInfo) (h : List LoginEntry) (e : LoginEntry) (step : LoginStep) (r : LoginResponseParts) → IsOut (last_done h) → WaitsFor h step → IsSuccess e r
    → decided_at i h e.came ≡ on_success i step e.came.rec (repeats h) r
decided-success i h e step r out waits is =
    let same : step_of out.0 ≡ step = subst (λ (d : Decision). waits_for d step) out.1 waits in
    decided-by i h e out.0 (login r) out.1 is.reads
    ∙ success-decides i (step_of out.0) e.came.rec (repeats h) r is.class
    ∙ ap (λ (s : LoginStep). on_success i s e.came.rec (repeats h) r) same

-- it is broken whatever else is so
broken-anyway : (b : Bool) (rec : ℕ) (d : Decision) → d ≡ broken_login rec → cond b (broken_login rec) d ≡ broken_login rec
broken-anyway true rec d is = refl
broken-anyway false rec d is = is

stays-broken : (rec n : ℕ) (step : LoginStep) (chap : Chap) (r : LoginResponseParts) → r.transit ≡ false → 4 ≤ n → go_on rec n step chap r ≡ broken_login rec
stays-broken rec n step chap r stays many = rw (stays, le-ltb n 4 many) refl

patience-broken : (i : LoginInfo) (step : LoginStep) (rec n : ℕ) (r : LoginResponseParts) → CallsForNothing step r → r.transit ≡ false → 4 ≤ n → by_keys i step rec n r ≡ broken_login rec
patience-broken i at.Method rec n r nothing stays many =
    rw nothing (broken-anyway (asks_back i && (r.transit || names_method r.keys)) rec _ (stays-broken rec n at.Method _ r stays many))
patience-broken i at.Challenge rec n r nothing stays many = absurd nothing
patience-broken i at.Response rec n r nothing stays many =
    broken-anyway (asks_back i && not (answers_back i r.keys)) rec _ (stays-broken rec n at.Response _ r stays many)
patience-broken i at.Identified rec n r nothing stays many = stays-broken rec n at.Identified _ r stays many
patience-broken i (at.Parameters chap) rec n r nothing stays many = rw (stays, le-ltb n 4 many) refl

kind-broken : (i : LoginInfo) (step : LoginStep) (rec n : ℕ) (a : AnswerParts) → ((r : LoginResponseParts) → a ≡ login r → ⊥) → decided i step rec n a ≡ broken_login rec
kind-broken i step rec n (login r) other_kind = absurd (other_kind r refl)
kind-broken i step rec n (scsi s) other_kind = refl
kind-broken i step rec n (data_in d) other_kind = refl
kind-broken i step rec n (nop_in x) other_kind = refl
kind-broken i step rec n other other_kind = refl

breach-decides : (i : LoginInfo) (h : List LoginEntry) (e : LoginEntry) → IsOut (last_done h) → IsBreach i h e → decided_at i h e.came ≡ broken_login e.came.rec
breach-decides i h e out (by_kind other_kind) =
    decided-by i h e out.0 (answer_read e.came.pdu) out.1 refl ∙ kind-broken i (step_of out.0) e.came.rec (repeats h) (answer_read e.came.pdu) other_kind
breach-decides i h e out (by_stage step r waits is astray) =
    decided-success i h e step r out waits is ∙ rw (or_left (goes_astray step r) (has_digest r.keys) astray) refl
breach-decides i h e out (by_digest r is digest) =
    let waits : WaitsFor h (step_of out.0) = subst (λ (d : Decision). waits_for d (step_of out.0)) (sym out.1) refl in
    decided-success i h e (step_of out.0) r out waits is ∙ rw (or_right (goes_astray (step_of out.0) r) (has_digest r.keys) digest) refl
breach-decides i h e out (by_method r waits is back other_method goes) =
    decided-success i h e at.Method r out waits is
    ∙ broken-anyway (goes_astray at.Method r || has_digest r.keys) e.came.rec _ (rw (other_method, and_from (asks_back i) (r.transit || names_method r.keys) back goes) refl)
breach-decides i h e out (by_challenge r waits is none) =
    decided-success i h e at.Challenge r out waits is
    ∙ broken-anyway (goes_astray at.Challenge r || has_digest r.keys) e.came.rec _ (rw none refl)
breach-decides i h e out (by_own_response r waits is back wrong) =
    decided-success i h e at.Response r out waits is
    ∙ broken-anyway (goes_astray at.Response r || has_digest r.keys) e.came.rec _
    (rw (and_from (asks_back i) (not (answers_back i r.keys)) back (ap not wrong)) refl)
breach-decides i h e out (by_patience step r waits is nothing stays many) =
    decided-success i h e step r out waits is
    ∙ broken-anyway (goes_astray step r || has_digest r.keys) e.came.rec _ (patience-broken i step e.came.rec (repeats h) r nothing stays many)

status-decides : (i : LoginInfo) (step : LoginStep) (rec n : ℕ) (r : LoginResponseParts) → (r.class ≡ 0 → ⊥) → by_response i step rec n r ≡ End (reason.Refused rec (r.class * 256 + r.detail))
unfolding by_response
status-decides i step rec n r bad = rw (ne_eqb r.class 0 bad) refl

ended-so : (i : LoginInfo) (h : List LoginEntry) (e : LoginEntry) (cause : Cause) → IsOut (last_done h) → LoginEnding i h e cause → end_given (decided_at i h e.came) ≡ Some cause
ended-so i h e cause out (by_parameters chap r waits is on fits bare same) =
    let opens : decided_at i h e.came ≡ Open chap =
    decided-success i h e (at.Parameters chap) r out waits is ∙ rw (or_from (goes_astray (at.Parameters chap) r) (has_digest r.keys) fits bare, on) refl in
    ap end_given opens ∙ ap (λ (x : Cause). Some x) (sym same)
ended-so i h e cause out (by_status r reads bad same) =
    let refuses = decided-by i h e out.0 (login r) out.1 reads ∙ status-decides i (step_of out.0) e.came.rec (repeats h) r bad in
    ap end_given refuses ∙ ap (λ (x : Cause). Some x) (sym same)
ended-so i h e cause out (by_no_secret r waits is chooses fits bare none same) =
    let ends : decided_at i h e.came ≡ End (reason.Plain plain.NoSecret) =
    decided-success i h e at.Method r out waits is ∙ rw (or_from (goes_astray at.Method r) (has_digest r.keys) fits bare, chooses, none) refl in
    ap end_given ends ∙ ap (λ (x : Cause). Some x) (sym same)
ended-so i h e cause out (by_breach is same) =
    ap end_given (breach-decides i h e out is) ∙ ap (λ (x : Cause). Some x) (sym same)

pub cause_ends : (i : LoginInfo) (h : List LoginEntry) (e : LoginEntry) (later : List LoginEntry) (cause : Cause) → LoginMeets i (h ++ e ∷ later) → LoginEnding i h e cause → end_given e.does ≡ Some cause
cause_ends i h e later cause meets ending =
    let so = each_is_decided i h e later meets in
    ap end_given so.so ∙ ended-so i h e cause (is-out (last_done h) so.open_yet) ending

-- an answer that opens a session has opened it
not_open : (i : LoginInfo) (h : List LoginEntry) (e : LoginEntry) (chap : Chap) → e.does ≡ Open chap → cond (login_ended (h ++ e ∷ [])) (session_opened i (h ++ e ∷ [])) None ≡ None → ⊥
not_open i h e chap opens none =
    let last : last_done (h ++ e ∷ []) ≡ Open chap = last_done-append h e ∙ opens in
    none-some _ (sym none ∙ ap (λ (d : Decision). cond (is_end d) (session_after i (expected (h ++ e ∷ [])) d) None) last)

-- where no session is open, what ends a login isn't Ok
pub unopened_fails : (i : LoginInfo) (h : List LoginEntry) (e : LoginEntry) (cause : Cause) → LoginMeets i (h ++ e ∷ []) → LoginEnding i h e cause
    → cond (login_ended (h ++ e ∷ [])) (session_opened i (h ++ e ∷ [])) None ≡ None → (cause.code == 0) ≡ false
unopened_fails i h e cause meets (by_parameters chap r waits is on fits bare same) none =
    let so = each_is_decided i h e [] meets in
    let opens : decided_at i h e.came ≡ Open chap =
    decided-success i h e (at.Parameters chap) r (is-out (last_done h) so.open_yet) waits is ∙ rw (or_from (goes_astray (at.Parameters chap) r) (has_digest r.keys) fits bare, on) refl in
    absurd (not_open i h e chap (so.so ∙ opens) none)
unopened_fails i h e cause meets (by_status r reads bad same) none = ap (λ (c : Cause). c.code == 0) same
unopened_fails i h e cause meets (by_no_secret r waits is chooses fits bare unset same) none = ap (λ (c : Cause). c.code == 0) same
unopened_fails i h e cause meets (by_breach is same) none = ap (λ (c : Cause). c.code == 0) same
