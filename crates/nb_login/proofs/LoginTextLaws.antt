-- All that a login says are Login Requests.
use Rattle.std.proofs.Common.{◌<◌, ◌^◌, ℕ, List, [], ◌∷◌, ◌++◌, refl, ap, ◌∙◌, sym, arith, append-nil}
use Rattle.std.specs.List.{AllByRecursion, flat_map}
use Rattle.std.specs.Option.{option_map_or}
use Rattle.std.proofs.lemmas.List.Concat.{flat_map-append}
use Rattle.nb_iscsipdu.specs.Answers.{AnswerParts, login, scsi, data_in, nop_in, other, answer_read}
use Rattle.nb_login.specs.declared.info.LoginInfo.{LoginInfo}
use Rattle.nb_login.specs.declared.step.NextRequest.{NextRequest}
use Rattle.nb_login.specs.declared.step.NextRequest.TheVariants as ask
use Rattle.nb_login.specs.declared.step.Decision.{Decision}
use Rattle.nb_login.specs.declared.step.Decision.TheVariants.{Ask, Open, End}
use Rattle.nb_login.specs.Asking.{request_keys, carried_keys, login_text}
use Rattle.nb_login.specs.LoginHistory.{PduCame, LoginEntry, expected_by, expected_of, text_put}
use Rattle.nb_login.specs.Logins.{login_history, text_of_entry, login_said}
use Rattle.nb_login.specs.LoginTexts.{IsOneRequestText, AreRequestTexts}
use Rattle.nb_login.proofs.RequestLaws.{is_request}

fits : (a : AnswerParts) → expected_by a < 2 ^ 32
fits (login r) = omega arith
fits (scsi r) = omega arith
fits (data_in d) = omega arith
fits (nop_in n) = omega arith
fits other = omega arith

one_request : (i : LoginInfo) (request : NextRequest) (sn : ℕ) → sn < 2 ^ 32 → IsOneRequestText (login_text i request sn)
one_request i request sn small = record { exp_stat_sn = sn; keys = carried_keys (request_keys i request); is = is_request i request sn small }

joined_with : (one two : List ℕ) → AreRequestTexts one → AreRequestTexts two → AreRequestTexts (one ++ two)
joined_with one two a b = record {
  texts = a.texts ++ b.texts;
  joined = ap (λ l. l ++ two) a.joined ∙ ap (λ l. flat_map (λ text. text) a.texts ++ l) b.joined ∙ sym (flat_map-append (λ (text : List ℕ). text) a.texts b.texts);
  each = all_both a.texts a.each b.each;
}
  where
    all_both : (texts : List (List ℕ)) → AllByRecursion IsOneRequestText texts → AllByRecursion IsOneRequestText b.texts → AllByRecursion IsOneRequestText (texts ++ b.texts)
    all_both [] here there = there
    all_both (text ∷ texts) here there = (here.0, all_both texts here.1 there)

none_said : AreRequestTexts []
none_said = record { texts = []; joined = refl; each = tt }

one_said : (i : LoginInfo) (request : NextRequest) (sn : ℕ) → sn < 2 ^ 32 → AreRequestTexts (login_text i request sn)
one_said i request sn small = record { texts = login_text i request sn ∷ []; joined = sym (append-nil (login_text i request sn)); each = (one_request i request sn small, tt) }

put_said : (i : LoginInfo) (sn : ℕ) (d : Decision) → sn < 2 ^ 32 → AreRequestTexts (option_map_or (λ (text : List ℕ). text) (text_put i sn d) [])
put_said i sn (Ask request) small = one_said i request sn small
put_said i sn (Open chap) small = none_said
put_said i sn (End reason) small = none_said

entries_said : (i : LoginInfo) (h : List LoginEntry) → AreRequestTexts (flat_map (text_of_entry i) h)
entries_said i [] = none_said
entries_said i (e ∷ h) =
    joined_with (text_of_entry i e) (flat_map (text_of_entry i) h) (put_said i (expected_of e.came) e.does (fits (answer_read e.came.pdu))) (entries_said i h)

pub only_requests : (i : LoginInfo) (ms : List PduCame) → AreRequestTexts (login_said i ms)
only_requests i ms =
    joined_with (login_text i ask.Names 0) (flat_map (text_of_entry i) (login_history i ms)) (one_said i ask.Names 0 (omega arith)) (entries_said i (login_history i ms))
