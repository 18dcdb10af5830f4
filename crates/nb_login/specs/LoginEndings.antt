-- RFC 7143, sections 6.3, 11.13 and 12.1: what stands after each end of a login, in what came and was asked
use Rattle.std.specs.Prelude.{◌≡◌, ◌≤◌, ◌||◌, ℕ, ◌+◌, ◌*◌, true, false, List, ◌∷◌, ◌++◌, None}
use Rattle.nb_terms.specs.declared.cause.Cause.{Cause}
use Rattle.nb_terms.specs.declared.reason.Plain.TheVariants as plain
use Rattle.nb_terms.specs.declared.reason.Reason.TheVariants as reason
use Rattle.nb_terms.specs.Reasons.{as_cause}
use Rattle.nb_iscsipdu.specs.Answers.{answer_read, login, LoginResponseParts}
use Rattle.nb_login.specs.declared.info.LoginInfo.{LoginInfo}
use Rattle.nb_login.specs.declared.step.Chap.{Chap}
use Rattle.nb_login.specs.declared.step.Challenge.{Challenge}
use Rattle.nb_login.specs.declared.step.LoginStep.{LoginStep}
use Rattle.nb_login.specs.declared.step.LoginStep.TheVariants as at
use Rattle.nb_login.specs.declared.step.Decision.{Decision}
use Rattle.nb_login.specs.declared.step.Decision.TheVariants.{Ask, Open, End}
use Rattle.nb_login.specs.declared.step.NextRequest.TheVariants as ask
use Rattle.nb_login.specs.Infos.{has_secret, asks_back}
use Rattle.nb_login.specs.Asking.{step_of}
use Rattle.nb_login.specs.LoginVerdicts.{chooses_chap, names_method, has_digest, challenge_in, answers_back, goes_astray}
use Rattle.nb_login.specs.LoginHistory.{LoginEntry, last_done, repeats}

abbrev pub login_ok : Cause
login_ok = as_cause (reason.Plain plain.Ok)

abbrev pub login_no_secret : Cause
login_no_secret = as_cause (reason.Plain plain.NoSecret)

-- the class of the status times 256, and the detail
abbrev pub login_refused : ℕ → LoginResponseParts → Cause
login_refused rec r = as_cause (reason.Refused rec (r.class * 256 + r.detail))

abbrev pub login_broken : ℕ → Cause
login_broken rec = as_cause (reason.Broken rec)

-- after these answers, the request that is out waits for this
abbrev pub waits_for : Decision → LoginStep → Type 0
waits_for (Ask request) step = step_of request ≡ step
waits_for (Open chap) step = ⊥
waits_for (End reason) step = ⊥

abbrev pub WaitsFor : List LoginEntry → LoginStep → Type 0
WaitsFor before step = waits_for (last_done before) step

-- the answer is this Login Response, of a status that is success
pub record IsSuccess (e : LoginEntry) (r : LoginResponseParts) : Type 0 where
  pub reads : answer_read e.came.pdu ≡ login r
  pub class : r.class ≡ 0

-- the answer's keys call for no request of their own: the choice of CHAP and a challenge do
abbrev pub CallsForNothing : LoginStep → LoginResponseParts → Type 0
CallsForNothing at.Method r = chooses_chap r.keys ≡ false
CallsForNothing at.Challenge r = ⊥
CallsForNothing at.Response r = Unit {0}
CallsForNothing at.Identified r = Unit {0}
CallsForNothing (at.Parameters chap) r = Unit {0}

-- the answer isn't allowed in its place
pub data IsBreach (i : LoginInfo) (before : List LoginEntry) (e : LoginEntry) : Type 0 where
  -- it is no Login Response
  by_kind : ((r : LoginResponseParts) → answer_read e.came.pdu ≡ login r → ⊥) → IsBreach i before e
  -- it goes on where that wasn't asked for, or to another stage
  by_stage : (step : LoginStep) (r : LoginResponseParts) → WaitsFor before step → IsSuccess e r → goes_astray step r ≡ true → IsBreach i before e
  -- it asks for a digest
  by_digest : (r : LoginResponseParts) → IsSuccess e r → has_digest r.keys ≡ true → IsBreach i before e
  -- it goes on without CHAP, or chooses another method, though the target is to answer our challenge
  by_method : (r : LoginResponseParts) → WaitsFor before at.Method → IsSuccess e r → asks_back i ≡ true
      → chooses_chap r.keys ≡ false → (r.transit || names_method r.keys) ≡ true → IsBreach i before e
  -- it has no challenge of the algorithm that was offered
  by_challenge : (r : LoginResponseParts) → WaitsFor before at.Challenge → IsSuccess e r → challenge_in r.keys ≡ None → IsBreach i before e
  -- it doesn't answer our challenge
  by_response : (r : LoginResponseParts) → WaitsFor before at.Response → IsSuccess e r → asks_back i ≡ true
      → answers_back i r.keys ≡ false → IsBreach i before e
  -- it neither goes on nor calls for a request of its own, as four answers before it
  by_patience : (step : LoginStep) (r : LoginResponseParts) → WaitsFor before step → IsSuccess e r → CallsForNothing step r
      → r.transit ≡ false → 4 ≤ repeats before → IsBreach i before e

-- Why an answer gave this end: each cause stands in what came and what had been asked, and there is no other. Where one
-- of them stands, that end is given.
pub data LoginEnding (i : LoginInfo) (before : List LoginEntry) (e : LoginEntry) (cause : Cause) : Type 0 where
  -- the target goes on from the parameters
  by_parameters : (chap : Chap) (r : LoginResponseParts) → WaitsFor before (at.Parameters chap) → IsSuccess e r → r.transit ≡ true
      → goes_astray (at.Parameters chap) r ≡ false → has_digest r.keys ≡ false → cause ≡ login_ok → LoginEnding i before e cause
  -- its status isn't success
  by_status : (r : LoginResponseParts) → answer_read e.came.pdu ≡ login r → (r.class ≡ 0 → ⊥)
      → cause ≡ login_refused e.came.rec r → LoginEnding i before e cause
  -- it chooses CHAP, and our name or secret isn't set
  by_no_secret : (r : LoginResponseParts) → WaitsFor before at.Method → IsSuccess e r → chooses_chap r.keys ≡ true
      → goes_astray at.Method r ≡ false → has_digest r.keys ≡ false → has_secret i ≡ false → cause ≡ login_no_secret → LoginEnding i before e cause
  by_breach : IsBreach i before e → cause ≡ login_broken e.came.rec → LoginEnding i before e cause

-- An answer of the target has the response to our challenge, under the name that was set for it; and it is the
-- answer to the request that has our challenge.
pub record HasProof (i : LoginInfo) (h : List LoginEntry) : Type 0 where
  pub before : List LoginEntry
  pub answer : LoginEntry
  pub later : List LoginEntry
  pub in_order : h ≡ before ++ answer ∷ later
  pub challenge : Challenge
  pub asked : last_done before ≡ Ask (ask.Response challenge)
  pub r : LoginResponseParts
  pub is : IsSuccess answer r
  pub proves : answers_back i r.keys ≡ true
