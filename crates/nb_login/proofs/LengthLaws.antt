-- A login has an end by its eighth answer.
use Rattle.std.proofs.Common.{◌≡◌, ◌≤◌, ℕ, ◌+◌, ◌*◌, List, [], ◌∷◌, ◌++◌, length, Option, Some, None, false, cond, not, ◌&&◌, ◌||◌, ltb, eqb, refl, sym, subst, arith, length-append}
use Rattle.std.proofs.lemmas.Bool.{cond_both, ltb-true, false≢true}
use Rattle.nb_terms.specs.declared.reason.Plain.TheVariants as plain
use Rattle.nb_terms.specs.declared.reason.Reason.TheVariants as reason
use Rattle.nb_iscsipdu.specs.Answers.{AnswerParts, login, scsi, data_in, nop_in, other, LoginResponseParts, answer_read}
use Rattle.nb_login.specs.declared.info.LoginInfo.{LoginInfo}
use Rattle.nb_login.specs.declared.step.Chap.{Chap}
use Rattle.nb_login.specs.declared.step.Chap.TheVariants.{No}
use Rattle.nb_login.specs.declared.step.Challenge.{Challenge}
use Rattle.nb_login.specs.declared.step.LoginStep.{LoginStep}
use Rattle.nb_login.specs.declared.step.LoginStep.TheVariants as at
use Rattle.nb_login.specs.declared.step.Decision.{Decision}
use Rattle.nb_login.specs.declared.step.Decision.TheVariants.{Ask, Open, End}
use Rattle.nb_login.specs.declared.step.NextRequest.TheVariants as ask
use Rattle.nb_login.specs.Infos.{has_secret, asks_back}
use Rattle.nb_login.specs.Asking.{step_of, step_again}
use Rattle.nb_login.specs.LoginVerdicts.{chooses_chap, names_method, has_digest, challenge_in, answers_back, goes_astray, broken_login, chap_kind, ask_again, go_on, begin_chap, at_challenge, by_keys, by_response, decided}
use Rattle.nb_login.specs.LoginHistory.{LoginEntry, last_done, counted_repeats, repeats, is_end, decided_after, IsDecidedSo, LoginMeets}
use Rattle.nb_login.proofs.LoginHistoryLemmas.{last_done-append, repeats-append, each_keeps}

-- how many requests with keys can stand before one that waits for this
abbrev rank : LoginStep → ℕ
rank at.Method = 0
rank at.Challenge = 1
rank at.Response = 2
rank at.Identified = 2
rank (at.Parameters chap) = 3

rank_again : (step : LoginStep) → rank (step_again step) ≡ rank step
rank_again at.Method = refl
rank_again at.Challenge = refl
rank_again at.Response = refl
rank_again at.Identified = refl
rank_again (at.Parameters chap) = refl

rank_most : (step : LoginStep) → rank step ≤ 3
rank_most at.Method = omega arith
rank_most at.Challenge = omega arith
rank_most at.Response = omega arith
rank_most at.Identified = omega arith
rank_most (at.Parameters chap) = omega arith

record Few (most n len : ℕ) : Type 0 where
  answers : len ≤ most + n
  again : n ≤ 4

abbrev IsShort : Decision → ℕ → ℕ → Type 0
IsShort (Ask request) n len = Few (rank (step_of request)) n len
IsShort (Open chap) n len = (len ≤ 8) × (n ≤ 4)
IsShort (End reason) n len = (len ≤ 8) × (n ≤ 4)

-- a decision with which one answer more is few enough
abbrev Shortens : ℕ → ℕ → Decision → Type 0
Shortens n len d = IsShort d (counted_repeats n d) (len + 1)

broken_short : (most n len rec : ℕ) → Few most n len → most ≤ 3 → Shortens n len (broken_login rec)
broken_short most n len rec few small = let a = few.answers in let b = few.again in (omega arith, b)

again_short : (step : LoginStep) (rec n len : ℕ) → Few (rank step) n len → Shortens n len (ask_again rec n step)
again_short step rec n len few =
    let a = few.answers in
    cond_both (ltb n 4) (Ask (ask.Again step (n + 1))) (broken_login rec) (Shortens n len)
    (λ on. let b = ltb-true n 4 on in let r = rank_again step in record { answers = omega arith; again = omega arith })
    (λ off. broken_short (rank step) n len rec few (rank_most step))

onward_short : (step : LoginStep) (rec n len : ℕ) (chap : Chap) (r : LoginResponseParts) → Few (rank step) n len → rank step ≤ 2 → Shortens n len (go_on rec n step chap r)
onward_short step rec n len chap r few small =
    let a = few.answers in
    cond_both r.transit (Ask (ask.Parameters chap)) (ask_again rec n step) (Shortens n len)
    (λ on. record { answers = omega arith; again = few.again }) (λ off. again_short step rec n len few)

challenge_short : (rec n len : ℕ) (o : Option Challenge) → Few 1 n len → Shortens n len (at_challenge rec o)
challenge_short rec n len None few = broken_short 1 n len rec few (omega arith)
challenge_short rec n len (Some challenge) few = let a = few.answers in record { answers = omega arith; again = few.again }

keys_short : (i : LoginInfo) (step : LoginStep) (rec n len : ℕ) (r : LoginResponseParts) → Few (rank step) n len → Shortens n len (by_keys i step rec n r)
keys_short i at.Method rec n len r few =
    let a = few.answers in
    cond_both (chooses_chap r.keys) (begin_chap i) (cond (asks_back i && (r.transit || names_method r.keys)) (broken_login rec) (go_on rec n at.Method No r)) (Shortens n len)
    (λ chap. cond_both (has_secret i) (Ask ask.Algorithm) (End (reason.Plain plain.NoSecret)) (Shortens n len)
    (λ has. record { answers = omega arith; again = few.again }) (λ none. let b = few.again in (omega arith, b)))
    (λ other. cond_both (asks_back i && (r.transit || names_method r.keys)) (broken_login rec) (go_on rec n at.Method No r) (Shortens n len)
    (λ bad. broken_short 0 n len rec few (omega arith)) (λ good. onward_short at.Method rec n len No r few (omega arith)))
keys_short i at.Challenge rec n len r few = challenge_short rec n len (challenge_in r.keys) few
keys_short i at.Response rec n len r few =
    cond_both (asks_back i && not (answers_back i r.keys)) (broken_login rec) (go_on rec n at.Response (chap_kind i) r) (Shortens n len)
    (λ bad. broken_short 2 n len rec few (omega arith)) (λ good. onward_short at.Response rec n len (chap_kind i) r few (omega arith))
keys_short i at.Identified rec n len r few = onward_short at.Identified rec n len (chap_kind i) r few (omega arith)
keys_short i (at.Parameters chap) rec n len r few =
    let a = few.answers in let b = few.again in
    cond_both r.transit (Open chap) (ask_again rec n (at.Parameters chap)) (Shortens n len) (λ on. (omega arith, b)) (λ off. again_short (at.Parameters chap) rec n len few)

response_short : (i : LoginInfo) (step : LoginStep) (rec n len : ℕ) (r : LoginResponseParts) → Few (rank step) n len → Shortens n len (by_response i step rec n r)
unfolding by_response
response_short i step rec n len r few =
    cond_both (eqb r.class 0) (cond (goes_astray step r || has_digest r.keys) (broken_login rec) (by_keys i step rec n r)) (End (reason.Refused rec (r.class * 256 + r.detail))) (Shortens n len)
    (λ ok. cond_both (goes_astray step r || has_digest r.keys) (broken_login rec) (by_keys i step rec n r) (Shortens n len)
    (λ bad. broken_short (rank step) n len rec few (rank_most step)) (λ good. keys_short i step rec n len r few))
    (λ refused. broken_short (rank step) n len rec few (rank_most step))

answer_short : (i : LoginInfo) (step : LoginStep) (rec n len : ℕ) (a : AnswerParts) → Few (rank step) n len → Shortens n len (decided i step rec n a)
answer_short i step rec n len (login r) few = response_short i step rec n len r few
answer_short i step rec n len (scsi s) few = broken_short (rank step) n len rec few (rank_most step)
answer_short i step rec n len (data_in d) few = broken_short (rank step) n len rec few (rank_most step)
answer_short i step rec n len (nop_in x) few = broken_short (rank step) n len rec few (rank_most step)
answer_short i step rec n len other few = broken_short (rank step) n len rec few (rank_most step)

abbrev IsFew : List LoginEntry → Type 0
IsFew h = IsShort (last_done h) (repeats h) (length h)

later_short : (i : LoginInfo) (h : List LoginEntry) (e : LoginEntry) (d : Decision) → is_end d ≡ false → IsShort d (repeats h) (length h) → Shortens (repeats h) (length h) (decided_after i (repeats h) e.came d)
later_short i h e (Ask request) open_yet few = answer_short i (step_of request) e.came.rec (repeats h) (length h) (answer_read e.came.pdu) few
later_short i h e (Open chap) open_yet few = absurd (false≢true (sym open_yet))
later_short i h e (End reason) open_yet few = absurd (false≢true (sym open_yet))

keeps_few : (i : LoginInfo) (h : List LoginEntry) (e : LoginEntry) → IsFew h → IsDecidedSo i h e → IsFew (h ++ e ∷ [])
keeps_few i h e few so =
    let shorter = subst (λ (d : Decision). Shortens (repeats h) (length h) d) (sym so.so) (later_short i h e (last_done h) so.open_yet few) in
    let count = subst (λ n. IsShort e.does n (length h + 1)) (sym (repeats-append h e)) shorter in
    let long = subst (λ len. IsShort e.does (repeats (h ++ e ∷ [])) len) (sym (length-append h (e ∷ []))) count in
    subst (λ (d : Decision). IsShort d (repeats (h ++ e ∷ [])) (length (h ++ e ∷ []))) (sym (last_done-append h e)) long

at_most : (d : Decision) (n len : ℕ) → IsShort d n len → (len ≤ 8) × (n ≤ 4)
at_most (Ask request) n len few = let a = few.answers in let b = few.again in let c = rank_most (step_of request) in (omega arith, b)
at_most (Open chap) n len few = few
at_most (End reason) n len few = few

pub is_few : (i : LoginInfo) (h : List LoginEntry) → LoginMeets i h → (length h ≤ 8) × (repeats h ≤ 4)
is_few i h meets =
    at_most (last_done h) (repeats h) (length h) (each_keeps IsFew (IsDecidedSo i) (keeps_few i) [] h (record { answers = omega arith; again = omega arith }) meets.answers)
