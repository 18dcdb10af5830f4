-- A session that was opened where the target is to answer our challenge has its response.
use Rattle.std.proofs.Common.{◌≡◌, ℕ, ◌+◌, ◌*◌, List, [], ◌∷◌, ◌++◌, Option, Some, None, Bool, true, false, cond, not, ◌&&◌, ◌||◌, ltb, eqb, refl, ap, ◌∙◌, sym, append_assoc}
use Rattle.std.proofs.Math.Logic.{⊎_elim}
use Rattle.std.proofs.lemmas.Bool.{cond_both, and_cases, or_parts, not-false, both_ways, eqb-true, false≢true}
use Rattle.std.proofs.lemmas.Option.{none-some}
use Rattle.nb_terms.specs.declared.reason.Plain.TheVariants as plain
use Rattle.nb_terms.specs.declared.reason.Reason.TheVariants as reason
use Rattle.nb_iscsipdu.specs.Answers.{AnswerParts, login, scsi, data_in, nop_in, other, LoginResponseParts, answer_read}
use Rattle.nb_login.specs.declared.info.LoginInfo.{LoginInfo}
use Rattle.nb_login.specs.declared.session.Session.{Session}
use Rattle.nb_login.specs.declared.step.Chap.{Chap}
use Rattle.nb_login.specs.declared.step.Chap.TheVariants.{No}
use Rattle.nb_login.specs.declared.step.Challenge.{Challenge}
use Rattle.nb_login.specs.declared.step.LoginStep.{LoginStep}
use Rattle.nb_login.specs.declared.step.LoginStep.TheVariants as at
use Rattle.nb_login.specs.declared.step.Decision.{Decision}
use Rattle.nb_login.specs.declared.step.Decision.TheVariants.{Ask, Open, End}
use Rattle.nb_login.specs.declared.step.NextRequest.{NextRequest}
use Rattle.nb_login.specs.declared.step.NextRequest.TheVariants as ask
use Rattle.nb_login.specs.Infos.{has_secret, asks_back}
use Rattle.nb_login.specs.Asking.{step_of, step_again}
use Rattle.nb_login.specs.LoginVerdicts.{chooses_chap, names_method, has_digest, challenge_in, answers_back, goes_astray, broken_login, chap_kind, ask_again, go_on, begin_chap, at_method, at_challenge, at_response, by_keys, by_response, decided}
use Rattle.nb_login.specs.LoginHistory.{LoginEntry, last_done, repeats, expected, is_end, decided_after, IsDecidedSo, LoginMeets}
use Rattle.nb_login.specs.LoginStands.{session_after, session_opened}
use Rattle.nb_login.specs.LoginEndings.{HasProof}
use Rattle.nb_login.proofs.LoginHistoryLemmas.{last_done-append, each_keeps}

-- the target's response has come, where it is to give one
abbrev is_past : LoginStep → Bool
is_past at.Method = false
is_past at.Challenge = false
is_past at.Response = false
is_past at.Identified = true
is_past (at.Parameters chap) = true

abbrev has_past : Decision → Bool
has_past (Ask request) = is_past (step_of request)
has_past (Open chap) = true
has_past (End reason) = false

-- it had come before, or is in this answer
data Past (i : LoginInfo) (step : LoginStep) (r : LoginResponseParts) : Type 0 where
  was : is_past step ≡ true → Past i step r
  now : step ≡ at.Response → answers_back i r.keys ≡ true → Past i step r

abbrev Passes : LoginInfo → LoginStep → LoginResponseParts → Decision → Type 0
Passes i step r d = has_past d ≡ true → Past i step r

again_passes : (i : LoginInfo) (step : LoginStep) (rec n : ℕ) (r : LoginResponseParts) → (is_past (step_again step) ≡ true → Past i step r) → Passes i step r (ask_again rec n step)
again_passes i step rec n r from =
    cond_both (ltb n 4) (Ask (ask.Again step (n + 1))) (broken_login rec) (Passes i step r) (λ on is. from is) (λ off is. absurd (false≢true is))

onward_passes : (i : LoginInfo) (step : LoginStep) (rec n : ℕ) (chap : Chap) (r : LoginResponseParts) → (r.transit ≡ true → Past i step r) → (is_past (step_again step) ≡ true → Past i step r)
    → Passes i step r (go_on rec n step chap r)
onward_passes i step rec n chap r on again =
    cond_both r.transit (Ask (ask.Parameters chap)) (ask_again rec n step) (Passes i step r) (λ goes is. on goes) (λ stays. again_passes i step rec n r again)

-- without CHAP the target doesn't go on
no_way : (a b c : Bool) → a ≡ true → b ≡ true → (a && (b || c)) ≡ false → ⊥
no_way a b c p q off = ⊎_elim (λ x. both_ways a x p) (λ x. both_ways b (or_parts b c x).0 q) (and_cases a (b || c) off)

method_passes : (i : LoginInfo) (rec n : ℕ) (r : LoginResponseParts) → asks_back i ≡ true → Passes i at.Method r (at_method i rec n r)
method_passes i rec n r back =
    cond_both (chooses_chap r.keys) (begin_chap i) (cond (asks_back i && (r.transit || names_method r.keys)) (broken_login rec) (go_on rec n at.Method No r)) (Passes i at.Method r)
    (λ chap. cond_both (has_secret i) (Ask ask.Algorithm) (End (reason.Plain plain.NoSecret)) (Passes i at.Method r) (λ has is. absurd (false≢true is)) (λ none is. absurd (false≢true is)))
    (λ other. cond_both (asks_back i && (r.transit || names_method r.keys)) (broken_login rec) (go_on rec n at.Method No r) (Passes i at.Method r)
    (λ bad is. absurd (false≢true is))
    (λ good. onward_passes i at.Method rec n No r (λ goes. absurd (no_way (asks_back i) r.transit (names_method r.keys) back goes good)) (λ is. absurd (false≢true is))))

challenge_passes : (i : LoginInfo) (rec : ℕ) (r : LoginResponseParts) (o : Option Challenge) → Passes i at.Challenge r (at_challenge rec o)
challenge_passes i rec r None = λ is. absurd (false≢true is)
challenge_passes i rec r (Some challenge) = λ is. absurd (false≢true is)

proven : (a b : Bool) → a ≡ true → (a && not b) ≡ false → b ≡ true
proven a b p off = ⊎_elim (λ x. absurd (both_ways a x p)) (λ x. not-false b x) (and_cases a (not b) off)

response_passes : (i : LoginInfo) (rec n : ℕ) (r : LoginResponseParts) → asks_back i ≡ true → Passes i at.Response r (at_response i rec n r)
response_passes i rec n r back =
    cond_both (asks_back i && not (answers_back i r.keys)) (broken_login rec) (go_on rec n at.Response (chap_kind i) r) (Passes i at.Response r)
    (λ bad is. absurd (false≢true is))
    (λ good.
    let right = proven (asks_back i) (answers_back i r.keys) back good in
    onward_passes i at.Response rec n (chap_kind i) r (λ goes. now refl right) (λ is. now refl right))

keys_pass : (i : LoginInfo) (step : LoginStep) (rec n : ℕ) (r : LoginResponseParts) → asks_back i ≡ true → Passes i step r (by_keys i step rec n r)
keys_pass i at.Method rec n r back = method_passes i rec n r back
keys_pass i at.Challenge rec n r back = challenge_passes i rec r (challenge_in r.keys)
keys_pass i at.Response rec n r back = response_passes i rec n r back
keys_pass i at.Identified rec n r back = λ is. was refl
keys_pass i (at.Parameters chap) rec n r back = λ is. was refl

-- of a Login Response with a status that is success
record Passed (i : LoginInfo) (step : LoginStep) (r : LoginResponseParts) : Type 0 where
  class : r.class ≡ 0
  past : Past i step r

abbrev PassesRead : LoginInfo → LoginStep → LoginResponseParts → Decision → Type 0
PassesRead i step r d = has_past d ≡ true → Passed i step r

response_read_passes : (i : LoginInfo) (step : LoginStep) (rec n : ℕ) (r : LoginResponseParts) → asks_back i ≡ true → PassesRead i step r (by_response i step rec n r)
unfolding by_response
response_read_passes i step rec n r back =
    cond_both (eqb r.class 0) (cond (goes_astray step r || has_digest r.keys) (broken_login rec) (by_keys i step rec n r)) (End (reason.Refused rec (r.class * 256 + r.detail))) (PassesRead i step r)
    (λ ok. cond_both (goes_astray step r || has_digest r.keys) (broken_login rec) (by_keys i step rec n r) (PassesRead i step r)
    (λ bad is. absurd (false≢true is))
    (λ good is. record { class = eqb-true r.class 0 ok; past = keys_pass i step rec n r back is }))
    (λ refused is. absurd (false≢true is))

-- a request that waits for what the target says to our response is that response
response_of : (request : NextRequest) → step_of request ≡ at.Response → (c : Challenge) × (request ≡ ask.Response c)
response_of ask.Names is = cc
response_of ask.Algorithm is = cc
response_of (ask.Response c) is = (c, refl)
response_of (ask.Parameters chap) is = cc
response_of (ask.Again at.Method n) is = cc
response_of (ask.Again at.Challenge n) is = cc
response_of (ask.Again at.Response n) is = cc
response_of (ask.Again at.Identified n) is = cc
response_of (ask.Again (at.Parameters chap) n) is = cc

abbrev IsProven : LoginInfo → List LoginEntry → Type 0
IsProven i h = has_past (last_done h) ≡ true → HasProof i h

longer : (i : LoginInfo) (h : List LoginEntry) (e : LoginEntry) → HasProof i h → HasProof i (h ++ e ∷ [])
longer i h e p = record {
  before = p.before;
  answer = p.answer;
  later = p.later ++ e ∷ [];
  in_order = ap (λ (x : List LoginEntry). x ++ e ∷ []) p.in_order ∙ append_assoc p.before (p.answer ∷ p.later) (e ∷ []);
  challenge = p.challenge;
  asked = p.asked;
  r = p.r;
  is = p.is;
  proves = p.proves;
}

by_past : (i : LoginInfo) (h : List LoginEntry) (e : LoginEntry) (request : NextRequest) (r : LoginResponseParts) → last_done h ≡ Ask request → answer_read e.came.pdu ≡ login r → r.class ≡ 0
    → IsProven i h → Past i (step_of request) r → HasProof i (h ++ e ∷ [])
by_past i h e request r out reads class before (was is) = longer i h e (before (ap has_past out ∙ is))
by_past i h e request r out reads class before (now is right) =
    let of = response_of request is in
    record {
      before = h;
      answer = e;
      later = [];
      in_order = refl;
      challenge = of.0;
      asked = out ∙ ap (λ (x : NextRequest). Ask x) of.1;
      r = r;
      is = record { reads = reads; class = class };
      proves = right;
    }

by_answer : (i : LoginInfo) (h : List LoginEntry) (e : LoginEntry) (request : NextRequest) (a : AnswerParts) → asks_back i ≡ true → last_done h ≡ Ask request → answer_read e.came.pdu ≡ a
    → IsProven i h → has_past (decided i (step_of request) e.came.rec (repeats h) a) ≡ true → HasProof i (h ++ e ∷ [])
by_answer i h e request (login r) back out reads before is =
    let passed = response_read_passes i (step_of request) e.came.rec (repeats h) r back is in
    by_past i h e request r out reads passed.class before passed.past
by_answer i h e request (scsi s) back out reads before is = absurd (false≢true is)
by_answer i h e request (data_in d) back out reads before is = absurd (false≢true is)
by_answer i h e request (nop_in n) back out reads before is = absurd (false≢true is)
by_answer i h e request other back out reads before is = absurd (false≢true is)

by_done : (i : LoginInfo) (h : List LoginEntry) (e : LoginEntry) (d : Decision) → asks_back i ≡ true → last_done h ≡ d → is_end d ≡ false → IsProven i h
    → has_past (decided_after i (repeats h) e.came d) ≡ true → HasProof i (h ++ e ∷ [])
by_done i h e (Ask request) back out open_yet before is = by_answer i h e request (answer_read e.came.pdu) back out refl before is
by_done i h e (Open chap) back out open_yet before is = absurd (false≢true (sym open_yet))
by_done i h e (End reason) back out open_yet before is = absurd (false≢true (sym open_yet))

keeps_proven : (i : LoginInfo) → asks_back i ≡ true → (h : List LoginEntry) (e : LoginEntry) → IsProven i h → IsDecidedSo i h e → IsProven i (h ++ e ∷ [])
keeps_proven i back h e before so = λ is.
    by_done i h e (last_done h) back refl so.open_yet before (ap has_past (sym so.so) ∙ ap has_past (sym (last_done-append h e)) ∙ is)

opened_past : (i : LoginInfo) (sn : ℕ) (s : Session) (d : Decision) → session_after i sn d ≡ Some s → has_past d ≡ true
opened_past i sn s (Ask request) is = absurd (none-some s is)
opened_past i sn s (Open chap) is = refl
opened_past i sn s (End reason) is = absurd (none-some s is)

pub opened_proven : (i : LoginInfo) (h : List LoginEntry) (s : Session) → LoginMeets i h → asks_back i ≡ true → session_opened i h ≡ Some s → HasProof i h
opened_proven i h s meets back is =
    each_keeps (IsProven i) (IsDecidedSo i) (keeps_proven i back) [] h (λ none. absurd (false≢true none)) meets.answers (opened_past i (expected h) s (last_done h) is)
