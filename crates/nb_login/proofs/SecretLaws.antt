-- Of the secrets, what is sent shows our responses alone.
use Rattle.std.proofs.Common.{◌≡◌, ℕ, List, ◌++◌, ◌&&◌, Bool, codes, refl, ap, ◌∙◌}
use Rattle.nb_chap.specs.Values.{binary_text}
use Rattle.nb_iscsipdu.specs.PduTexts.{pdu_text}
use Rattle.nb_iscsipdu.specs.Requests.{login_pdu}
use Rattle.nb_login.specs.declared.info.LoginInfo.{LoginInfo}
use Rattle.nb_login.specs.declared.step.NextRequest.{NextRequest}
use Rattle.nb_login.specs.declared.step.NextRequest.TheVariants as ask
use Rattle.nb_login.specs.Infos.{is_set, isid}
use Rattle.nb_login.specs.Asking.{step_of, current_stage, next_stage, key_text, method_names, names_keys, response_keys, back_keys, request_keys, carried_keys, request_parts, login_text}
use Rattle.nb_login.specs.Logins.{with_secret, with_reverse_secret, HasSameResponse}

keys_same : (i : LoginInfo) (secret : List ℕ) (request : NextRequest) → is_set secret ≡ is_set i.secret → HasSameResponse i secret request → request_keys (with_secret i secret) request ≡ request_keys i request
unfolding names_keys response_keys back_keys
keys_same i secret ask.Names set same =
    ap (λ (b : Bool). key_text (codes "InitiatorName") i.initiator ++ key_text (codes "TargetName") i.target ++ key_text (codes "SessionType") (codes "Normal") ++ key_text (codes "AuthMethod") (method_names (is_set i.user && b))) set
keys_same i secret ask.Algorithm set same = refl
keys_same i secret (ask.Response c) set same =
    ap (λ (r : List ℕ). key_text (codes "CHAP_N") i.user ++ key_text (codes "CHAP_R") (binary_text r) ++ back_keys i) same
keys_same i secret (ask.Parameters chap) set same = refl
keys_same i secret (ask.Again step number) set same = refl

text_same : (i j : LoginInfo) (request : NextRequest) (sn : ℕ) → isid i ≡ isid j → request_keys i request ≡ request_keys j request → login_text i request sn ≡ login_text j request sn
unfolding login_text request_parts
text_same i j request sn id keys =
    ap (λ (id : List ℕ). pdu_text (login_pdu (record { current = current_stage (step_of request); next = next_stage (step_of request); isid = id; task_tag = 1; cmd_sn = 1; exp_stat_sn = sn; keys = carried_keys (request_keys i request) }))) id
    ∙ ap (λ (keys : List ℕ). pdu_text (login_pdu (record { current = current_stage (step_of request); next = next_stage (step_of request); isid = isid j; task_tag = 1; cmd_sn = 1; exp_stat_sn = sn; keys = carried_keys keys }))) keys

pub secret_hidden : (i : LoginInfo) (secret : List ℕ) (request : NextRequest) (sn : ℕ) → is_set secret ≡ is_set i.secret → HasSameResponse i secret request → login_text (with_secret i secret) request sn ≡ login_text i request sn
secret_hidden i secret request sn set same = text_same (with_secret i secret) i request sn refl (keys_same i secret request set same)

reverse_keys : (i : LoginInfo) (secret : List ℕ) (request : NextRequest) → request_keys (with_reverse_secret i secret) request ≡ request_keys i request
unfolding names_keys response_keys back_keys
reverse_keys i secret ask.Names = refl
reverse_keys i secret ask.Algorithm = refl
reverse_keys i secret (ask.Response c) = refl
reverse_keys i secret (ask.Parameters chap) = refl
reverse_keys i secret (ask.Again step number) = refl

pub reverse_hidden : (i : LoginInfo) (secret : List ℕ) (request : NextRequest) (sn : ℕ) → login_text (with_reverse_secret i secret) request sn ≡ login_text i request sn
reverse_hidden i secret request sn = text_same (with_reverse_secret i secret) i request sn refl (reverse_keys i secret request)
