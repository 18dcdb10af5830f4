-- Each request is a PDU with the fields of an immediate Login Request, and carries all of its keys.
use Rattle.std.proofs.Common.{◌≤◌, ◌<◌, ℕ, ◌^◌, List, [], ◌∷◌, ◌++◌, length, replicate, leb, refl, lit≤}
use Rattle.std.proofs.lemmas.Bool.{cond_both, leb-true}
use Rattle.std.proofs.lemmas.Nat.{from_be_bytes-to_be_bytes_4}
use Rattle.nb_iscsipdu.specs.Heads.{word_at}
use Rattle.nb_iscsipdu.specs.PduTexts.{IsPdu}
use Rattle.nb_iscsipdu.specs.Requests.{head_of, login_flags, login_pdu}
use Rattle.nb_iscsipdu.proofs.HeadLemmas.{head_is}
use Rattle.nb_iscsipdu.proofs.PduLemmas.{pdu_text-reads}
use Rattle.nb_login.specs.declared.info.LoginInfo.{LoginInfo}
use Rattle.nb_login.specs.declared.step.NextRequest.{NextRequest}
use Rattle.nb_login.specs.Infos.{isid}
use Rattle.nb_login.specs.Asking.{step_of, current_stage, next_stage, request_keys, carried_keys, request_parts, login_text}
use Rattle.nb_login.specs.Logins.{IsLoginText}

few : (keys : List ℕ) → length (carried_keys keys) ≤ 8192
few keys = cond_both (leb (length keys) 8192) keys [] (λ x. length x ≤ 8192) (λ on. leb-true (length keys) 8192 on) (λ off. lit≤ tt)

is_pdu : (i : LoginInfo) (request : NextRequest) (sn : ℕ) → IsPdu (login_pdu (request_parts i request sn))
unfolding login_pdu request_parts
is_pdu i request sn =
    let keys = carried_keys (request_keys i request) in
    head_is 67 (login_flags (current_stage (step_of request)) (next_stage (step_of request))) (length keys) 1 0 1 sn (isid i ++ 0 ∷ 0 ∷ []) (replicate 16 0) keys refl refl refl (few (request_keys i request))

pub is_request : (i : LoginInfo) (request : NextRequest) (sn : ℕ) → sn < 2 ^ 32 → IsLoginText (login_text i request sn) sn (carried_keys (request_keys i request))
unfolding login_text login_pdu request_parts head_of word_at
is_request i request sn fits = record {
  pdu = login_pdu (request_parts i request sn);
  spelled = pdu_text-reads (login_pdu (request_parts i request sn)) (is_pdu i request sn);
  first = refl;
  task = refl;
  cmd_sn = refl;
  expected = from_be_bytes-to_be_bytes_4 sn fits;
  segment = refl;
}
