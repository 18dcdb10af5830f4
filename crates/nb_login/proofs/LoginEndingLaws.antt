-- Each end of a login has its cause in what came and what had been asked.
use Rattle.std.proofs.Common.{◌≡◌, ◌+◌, ◌*◌, List, [], ◌∷◌, ◌++◌, Option, Some, None, false, cond, not, ◌&&◌, ◌||◌, ltb, eqb, refl, ap, ◌∙◌, sym, subst}
use Rattle.std.proofs.Math.Logic.{⊎_elim}
use Rattle.std.proofs.lemmas.Bool.{cond_both, and_parts, or_cases, or_parts, not-true, ltb-false, eqb-true, eqb-false, false≢true}
use Rattle.std.proofs.lemmas.Option.{none-some, same_Some}
use Rattle.nb_terms.specs.declared.cause.Cause.{Cause}
use Rattle.nb_terms.specs.Reasons.{as_cause}
use Rattle.nb_iscsipdu.specs.Answers.{AnswerParts, login, scsi, data_in, nop_in, other, LoginResponseParts, answer_read}
use Rattle.nb_login.specs.declared.info.LoginInfo.{LoginInfo}
use Rattle.nb_login.specs.declared.step.Chap.{Chap}
use Rattle.nb_login.specs.declared.step.Chap.TheVariants.{No}
use Rattle.nb_login.specs.declared.step.Challenge.{Challenge}
use Rattle.nb_login.specs.declared.step.LoginStep.{LoginStep}
use Rattle.nb_login.specs.declared.step.LoginStep.TheVariants as at
use Rattle.nb_login.specs.declared.step.Decision.{Decision}
use Rattle.nb_login.specs.declared.step.Decision.TheVariants.{Ask, Open, End}
use Rattle.nb_login.specs.declared.step.NextRequest.TheVariants as ask
use Rattle.nb_terms.specs.declared.reason.Plain.TheVariants as plain
use Rattle.nb_terms.specs.declared.reason.Reason.TheVariants as reason
use Rattle.nb_login.specs.Infos.{has_secret, asks_back}
use Rattle.nb_login.specs.Asking.{step_of}
use Rattle.nb_login.specs.LoginVerdicts.{chooses_chap, names_method, has_digest, challenge_in, answers_back, goes_astray, broken_login, chap_kind, ask_again, go_on, begin_chap, at_method, at_challenge, at_response, by_keys, by_response, decided}
use Rattle.nb_login.specs.LoginHistory.{LoginEntry, last_done, repeats, end_given, is_end, decided_after, decided_at, IsDecidedSo, LoginMeets}
use Rattle.nb_login.specs.LoginEndings.{login_ok, waits_for, WaitsFor, IsSuccess, CallsForNothing, IsBreach, by_kind, by_stage, by_digest, by_method, by_challenge, by_response as by_own_response, by_patience, LoginEnding, by_parameters, by_status, by_no_secret, by_breach}
use Rattle.nb_login.proofs.LoginHistoryLemmas.{EachAnswer-at}

-- where a decision is an end, its cause stands
abbrev Ends : LoginInfo → List LoginEntry → LoginEntry → Decision → Type 0
Ends i before e (Ask request) = Unit {0}
Ends i before e (Open chap) = LoginEnding i before e login_ok
Ends i before e (End reason) = LoginEnding i before e (as_cause reason)

breach : (i : LoginInfo) (before : List LoginEntry) (e : LoginEntry) → IsBreach i before e → Ends i before e (broken_login e.came.rec)
breach i before e is = by_breach is refl

again_ends : (i : LoginInfo) (before : List LoginEntry) (e : LoginEntry) (step : LoginStep) (r : LoginResponseParts) → WaitsFor before step → IsSuccess e r → CallsForNothing step r → r.transit ≡ false
    → Ends i before e (ask_again e.came.rec (repeats before) step)
again_ends i before e step r waits is nothing stays =
    cond_both (ltb (repeats before) 4) (Ask (ask.Again step (repeats before + 1))) (broken_login e.came.rec) (Ends i before e)
    (λ on. tt) (λ off. breach i before e (by_patience step r waits is nothing stays (ltb-false (repeats before) 4 off)))

onward_ends : (i : LoginInfo) (before : List LoginEntry) (e : LoginEntry) (step : LoginStep) (chap : Chap) (r : LoginResponseParts) → WaitsFor before step → IsSuccess e r → CallsForNothing step r
    → Ends i before e (go_on e.came.rec (repeats before) step chap r)
onward_ends i before e step chap r waits is nothing =
    cond_both r.transit (Ask (ask.Parameters chap)) (ask_again e.came.rec (repeats before) step) (Ends i before e)
    (λ on. tt) (λ off. again_ends i before e step r waits is nothing off)

method_ends : (i : LoginInfo) (before : List LoginEntry) (e : LoginEntry) (r : LoginResponseParts) → WaitsFor before at.Method → IsSuccess e r → goes_astray at.Method r ≡ false → has_digest r.keys ≡ false
    → Ends i before e (at_method i e.came.rec (repeats before) r)
method_ends i before e r waits is fits bare =
    cond_both (chooses_chap r.keys) (begin_chap i)
    (cond (asks_back i && (r.transit || names_method r.keys)) (broken_login e.came.rec) (go_on e.came.rec (repeats before) at.Method No r)) (Ends i before e)
    (λ chap. cond_both (has_secret i) (Ask ask.Algorithm) (End (reason.Plain plain.NoSecret)) (Ends i before e) (λ has. tt) (λ none. by_no_secret r waits is chap fits bare none refl))
    (λ other. cond_both (asks_back i && (r.transit || names_method r.keys)) (broken_login e.came.rec) (go_on e.came.rec (repeats before) at.Method No r) (Ends i before e)
    (λ bad. let parts = and_parts (asks_back i) (r.transit || names_method r.keys) bad in breach i before e (by_method r waits is parts.0 other parts.1))
    (λ good. onward_ends i before e at.Method No r waits is other))

challenge_ends : (i : LoginInfo) (before : List LoginEntry) (e : LoginEntry) (r : LoginResponseParts) (o : Option Challenge) → challenge_in r.keys ≡ o → WaitsFor before at.Challenge → IsSuccess e r → Ends i before e (at_challenge e.came.rec o)
challenge_ends i before e r (Some challenge) found waits is = tt
challenge_ends i before e r None none waits is = breach i before e (by_challenge r waits is none)

response_ends : (i : LoginInfo) (before : List LoginEntry) (e : LoginEntry) (r : LoginResponseParts) → WaitsFor before at.Response → IsSuccess e r → Ends i before e (at_response i e.came.rec (repeats before) r)
response_ends i before e r waits is =
    cond_both (asks_back i && not (answers_back i r.keys)) (broken_login e.came.rec) (go_on e.came.rec (repeats before) at.Response (chap_kind i) r) (Ends i before e)
    (λ bad. let parts = and_parts (asks_back i) (not (answers_back i r.keys)) bad in breach i before e (by_own_response r waits is parts.0 (not-true (answers_back i r.keys) parts.1)))
    (λ good. onward_ends i before e at.Response (chap_kind i) r waits is tt)

keys_end : (i : LoginInfo) (before : List LoginEntry) (e : LoginEntry) (step : LoginStep) (r : LoginResponseParts) → WaitsFor before step → IsSuccess e r
    → goes_astray step r ≡ false → has_digest r.keys ≡ false → Ends i before e (by_keys i step e.came.rec (repeats before) r)
keys_end i before e at.Method r waits is fits bare = method_ends i before e r waits is fits bare
keys_end i before e at.Challenge r waits is fits bare = challenge_ends i before e r (challenge_in r.keys) refl waits is
keys_end i before e at.Response r waits is fits bare = response_ends i before e r waits is
keys_end i before e at.Identified r waits is fits bare = onward_ends i before e at.Identified (chap_kind i) r waits is tt
keys_end i before e (at.Parameters chap) r waits is fits bare =
    cond_both r.transit (Open chap) (ask_again e.came.rec (repeats before) (at.Parameters chap)) (Ends i before e)
    (λ on. by_parameters chap r waits is on fits bare refl) (λ off. again_ends i before e (at.Parameters chap) r waits is tt off)

response_read_ends : (i : LoginInfo) (before : List LoginEntry) (e : LoginEntry) (step : LoginStep) (r : LoginResponseParts) → WaitsFor before step → answer_read e.came.pdu ≡ login r
    → Ends i before e (by_response i step e.came.rec (repeats before) r)
unfolding by_response
response_read_ends i before e step r waits reads =
    cond_both (eqb r.class 0)
    (cond (goes_astray step r || has_digest r.keys) (broken_login e.came.rec) (by_keys i step e.came.rec (repeats before) r))
    (End (reason.Refused e.came.rec (r.class * 256 + r.detail))) (Ends i before e)
    (λ ok.
    let is : IsSuccess e r = record { reads = reads; class = eqb-true r.class 0 ok } in
    cond_both (goes_astray step r || has_digest r.keys) (broken_login e.came.rec) (by_keys i step e.came.rec (repeats before) r) (Ends i before e)
    (λ bad. ⊎_elim (λ astray. breach i before e (by_stage step r waits is astray)) (λ digest. breach i before e (by_digest r is digest)) (or_cases (goes_astray step r) (has_digest r.keys) bad))
    (λ good. let parts = or_parts (goes_astray step r) (has_digest r.keys) good in keys_end i before e step r waits is parts.0 parts.1))
    (λ refused. by_status r reads (eqb-false r.class 0 refused) refl)

answer_ends : (i : LoginInfo) (before : List LoginEntry) (e : LoginEntry) (step : LoginStep) (a : AnswerParts) → answer_read e.came.pdu ≡ a → WaitsFor before step
    → Ends i before e (decided i step e.came.rec (repeats before) a)
answer_ends i before e step (login r) reads waits = response_read_ends i before e step r waits reads
answer_ends i before e step (scsi s) reads waits = breach i before e (by_kind (λ r is. let clash : scsi s ≡ login r = sym reads ∙ is in cc))
answer_ends i before e step (data_in d) reads waits = breach i before e (by_kind (λ r is. let clash : data_in d ≡ login r = sym reads ∙ is in cc))
answer_ends i before e step (nop_in n) reads waits = breach i before e (by_kind (λ r is. let clash : nop_in n ≡ login r = sym reads ∙ is in cc))
answer_ends i before e step other reads waits = breach i before e (by_kind (λ r is. let clash : other ≡ login r = sym reads ∙ is in cc))

decision_ends : (i : LoginInfo) (before : List LoginEntry) (e : LoginEntry) (d : Decision) → last_done before ≡ d → is_end d ≡ false
    → Ends i before e (decided_after i (repeats before) e.came d)
decision_ends i before e (Ask request) is open_yet =
    answer_ends i before e (step_of request) (answer_read e.came.pdu) refl (subst (λ (x : Decision). waits_for x (step_of request)) (sym is) refl)
decision_ends i before e (Open chap) is open_yet = absurd (false≢true (sym open_yet))
decision_ends i before e (End reason) is open_yet = absurd (false≢true (sym open_yet))

caused : (i : LoginInfo) (before : List LoginEntry) (e : LoginEntry) (cause : Cause) (d : Decision) → Ends i before e d → end_given d ≡ Some cause → LoginEnding i before e cause
caused i before e cause (Ask request) ends is = absurd (none-some cause is)
caused i before e cause (Open chap) ends is = subst (λ (x : Cause). LoginEnding i before e x) (same_Some login_ok cause is) ends
caused i before e cause (End reason) ends is = subst (λ (x : Cause). LoginEnding i before e x) (same_Some (as_cause reason) cause is) ends

pub each_is_decided : (i : LoginInfo) (h : List LoginEntry) (e : LoginEntry) (later : List LoginEntry) → LoginMeets i (h ++ e ∷ later) → IsDecidedSo i h e
each_is_decided i h e later meets = EachAnswer-at (IsDecidedSo i) [] h e later meets.answers

pub cause_stands : (i : LoginInfo) (h : List LoginEntry) (e : LoginEntry) (later : List LoginEntry) (cause : Cause) → LoginMeets i (h ++ e ∷ later) → end_given e.does ≡ Some cause → LoginEnding i h e cause
cause_stands i h e later cause meets is =
    let so = each_is_decided i h e later meets in
    caused i h e cause (decided_at i h e.came) (decision_ends i h e (last_done h) refl so.open_yet) (ap end_given (sym so.so) ∙ is)
