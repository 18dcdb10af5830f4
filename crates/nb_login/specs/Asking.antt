-- RFC 7143, sections 6.1, 11.12 and 13: what each request of a login asks
use Rattle.std.specs.Prelude.{ℕ, Bool, List, [], ◌∷◌, ◌++◌, length, nat_le, codes, Option, Some, None, if◌then◌else◌}
use Rattle.std.specs.Fmt.{decimal}
use Rattle.nb_chap.specs.Responses.{chap_response}
use Rattle.nb_chap.specs.Values.{binary_text}
use Rattle.nb_iscsipdu.specs.declared.stage.Stage.{Stage}
use Rattle.nb_iscsipdu.specs.declared.stage.Stage.TheVariants.{Security, Operational, FullFeature}
use Rattle.nb_iscsipdu.specs.PduTexts.{pdu_text}
use Rattle.nb_iscsipdu.specs.Requests.{LoginParts, login_pdu}
use Rattle.nb_login.specs.declared.info.LoginInfo.{LoginInfo}
use Rattle.nb_login.specs.declared.step.LoginStep.{LoginStep}
use Rattle.nb_login.specs.declared.step.LoginStep.TheVariants as at
use Rattle.nb_login.specs.declared.step.Challenge.{Challenge}
use Rattle.nb_login.specs.declared.step.NextRequest.{NextRequest}
use Rattle.nb_login.specs.declared.step.NextRequest.TheVariants as ask
use Rattle.nb_login.specs.Infos.{has_secret, asks_back, isid, own_identifier, own_challenge}

-- what a request without keys waits for
abbrev pub step_again : LoginStep → LoginStep
step_again at.Method = at.Method
step_again at.Challenge = at.Challenge
step_again at.Response = at.Identified
step_again at.Identified = at.Identified
step_again (at.Parameters chap) = at.Parameters chap

-- what a request waits for
abbrev pub step_of : NextRequest → LoginStep
step_of ask.Names = at.Method
step_of ask.Algorithm = at.Challenge
step_of (ask.Response challenge) = at.Response
step_of (ask.Parameters chap) = at.Parameters chap
step_of (ask.Again step number) = step_again step

-- the stage that a request is in
abbrev pub current_stage : LoginStep → Stage
current_stage at.Method = Security
current_stage at.Challenge = Security
current_stage at.Response = Security
current_stage at.Identified = Security
current_stage (at.Parameters chap) = Operational

-- the stage that it asks to go on to
abbrev pub next_stage : LoginStep → Option Stage
next_stage at.Method = Some Operational
next_stage at.Challenge = None
next_stage at.Response = Some Operational
next_stage at.Identified = Some Operational
next_stage (at.Parameters chap) = Some FullFeature

-- a name, `=`, a value and a zero byte
abbrev pub key_text : List ℕ → List ℕ → List ℕ
key_text name value = name ++ 61 ∷ [] ++ value ++ 0 ∷ []

-- the methods that are offered
abbrev pub method_names : Bool → List ℕ
method_names has_secret = if has_secret then codes "CHAP,None" else codes "None"

unfoldable pub names_keys : LoginInfo → List ℕ
names_keys i =
    key_text (codes "InitiatorName") i.initiator ++ key_text (codes "TargetName") i.target
    ++ key_text (codes "SessionType") (codes "Normal") ++ key_text (codes "AuthMethod") (method_names (has_secret i))

-- the algorithm is MD5
unfoldable pub algorithm_keys : List ℕ
algorithm_keys = key_text (codes "CHAP_A") (codes "5")

-- our challenge, where the target is to answer one
unfoldable pub back_keys : LoginInfo → List ℕ
back_keys i =
    if asks_back i then (key_text (codes "CHAP_I") (decimal (own_identifier i)) ++ key_text (codes "CHAP_C") (binary_text (own_challenge i))) else []

-- our name, and our response to the target's challenge: the one place where the secret is used
unfoldable pub response_keys : LoginInfo → Challenge → List ℕ
response_keys i c =
    key_text (codes "CHAP_N") i.user
    ++ key_text (codes "CHAP_R") (binary_text (chap_response c.identifier i.secret c.value))
    ++ back_keys i

unfoldable pub parameter_keys : List ℕ
parameter_keys =
    key_text (codes "HeaderDigest") (codes "None") ++ key_text (codes "DataDigest") (codes "None")
    ++ key_text (codes "MaxConnections") (codes "1") ++ key_text (codes "InitialR2T") (codes "Yes")
    ++ key_text (codes "ImmediateData") (codes "No") ++ key_text (codes "MaxRecvDataSegmentLength") (codes "8192")
    ++ key_text (codes "MaxBurstLength") (codes "262144") ++ key_text (codes "FirstBurstLength") (codes "65536")
    ++ key_text (codes "DefaultTime2Wait") (codes "0") ++ key_text (codes "DefaultTime2Retain") (codes "0")
    ++ key_text (codes "MaxOutstandingR2T") (codes "1") ++ key_text (codes "DataPDUInOrder") (codes "Yes")
    ++ key_text (codes "DataSequenceInOrder") (codes "Yes") ++ key_text (codes "ErrorRecoveryLevel") (codes "0")

abbrev pub request_keys : LoginInfo → NextRequest → List ℕ
request_keys i ask.Names = names_keys i
request_keys i ask.Algorithm = algorithm_keys
request_keys i (ask.Response challenge) = response_keys i challenge
request_keys i (ask.Parameters chap) = parameter_keys
request_keys i (ask.Again step number) = []

-- own: keys that no PDU can carry aren't sent
abbrev pub carried_keys : List ℕ → List ℕ
carried_keys keys = if nat_le (length keys) 8192 then keys else []

-- the request's fields: task 1 and CmdSN 1 in each
unfoldable pub request_parts : LoginInfo → NextRequest → ℕ → LoginParts
request_parts i request exp_stat_sn = record {
  current = current_stage (step_of request);
  next = next_stage (step_of request);
  isid = isid i;
  task_tag = 1;
  cmd_sn = 1;
  exp_stat_sn = exp_stat_sn;
  keys = carried_keys (request_keys i request);
}

-- the text of a request
unfoldable pub login_text : LoginInfo → NextRequest → ℕ → List ℕ
login_text i request exp_stat_sn = pdu_text (login_pdu (request_parts i request exp_stat_sn))
