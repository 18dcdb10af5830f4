-- RFC 7143, sections 6.1 and 13: the keys of each request, each as its text without the zero byte that ends it
use Rattle.std.specs.Prelude.{ℕ, List, [], ◌∷◌, ◌++◌, codes, if◌then◌else◌}
use Rattle.std.specs.Fmt.{decimal}
use Rattle.nb_chap.specs.Responses.{chap_response}
use Rattle.nb_chap.specs.Values.{binary_text}
use Rattle.nb_login.specs.declared.info.LoginInfo.{LoginInfo}
use Rattle.nb_login.specs.declared.step.Challenge.{Challenge}
use Rattle.nb_login.specs.declared.step.NextRequest.{NextRequest}
use Rattle.nb_login.specs.declared.step.NextRequest.TheVariants as ask
use Rattle.nb_login.specs.Infos.{has_secret, asks_back, own_identifier, own_challenge}
use Rattle.nb_login.specs.Asking.{method_names}

-- a name, `=` and a value
abbrev pub key_line : List ℕ → List ℕ → List ℕ
key_line name value = name ++ 61 ∷ value

abbrev pub names_lines : LoginInfo → List (List ℕ)
names_lines i =
    key_line (codes "InitiatorName") i.initiator ∷ key_line (codes "TargetName") i.target
    ∷ codes "SessionType=Normal" ∷ key_line (codes "AuthMethod") (method_names (has_secret i)) ∷ []

abbrev pub back_lines : LoginInfo → List (List ℕ)
back_lines i =
    if asks_back i then (key_line (codes "CHAP_I") (decimal (own_identifier i)) ∷ key_line (codes "CHAP_C") (binary_text (own_challenge i)) ∷ []) else []

abbrev pub response_lines : LoginInfo → Challenge → List (List ℕ)
response_lines i c =
    key_line (codes "CHAP_N") i.user ∷ key_line (codes "CHAP_R") (binary_text (chap_response c.identifier i.secret c.value)) ∷ back_lines i

abbrev pub parameter_lines : List (List ℕ)
parameter_lines =
    codes "HeaderDigest=None" ∷ codes "DataDigest=None" ∷ codes "MaxConnections=1" ∷ codes "InitialR2T=Yes" ∷ codes "ImmediateData=No"
    ∷ codes "MaxRecvDataSegmentLength=8192" ∷ codes "MaxBurstLength=262144" ∷ codes "FirstBurstLength=65536" ∷ codes "DefaultTime2Wait=0"
    ∷ codes "DefaultTime2Retain=0" ∷ codes "MaxOutstandingR2T=1" ∷ codes "DataPDUInOrder=Yes" ∷ codes "DataSequenceInOrder=Yes"
    ∷ codes "ErrorRecoveryLevel=0" ∷ []

abbrev pub request_lines : LoginInfo → NextRequest → List (List ℕ)
request_lines i ask.Names = names_lines i
request_lines i ask.Algorithm = codes "CHAP_A=5" ∷ []
request_lines i (ask.Response challenge) = response_lines i challenge
request_lines i (ask.Parameters chap) = parameter_lines
request_lines i (ask.Again step number) = []
