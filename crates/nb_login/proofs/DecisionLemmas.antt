-- What an answer comes to is a request or an end.
use Rattle.std.proofs.Common.{◌≡◌, ℕ, false, List, [], ◌∷◌, ◌++◌, Option, Some, refl, ap, ◌∙◌}
use Rattle.std.proofs.lemmas.Option.{none-some}
use Rattle.nb_login.specs.declared.info.LoginInfo.{LoginInfo}
use Rattle.nb_login.specs.declared.step.Decision.{Decision}
use Rattle.nb_login.specs.declared.step.Decision.TheVariants.{Ask, Open, End}
use Rattle.nb_login.specs.LoginHistory.{LoginEntry, text_put, is_end, login_ended}
use Rattle.nb_login.proofs.LoginHistoryLemmas.{last_done-append}

request-goes-on : (i : LoginInfo) (sn : ℕ) (text : List ℕ) (d : Decision) → text_put i sn d ≡ Some text → is_end d ≡ false
request-goes-on i sn text (Ask request) put = refl
request-goes-on i sn text (Open chap) put = absurd (none-some text put)
request-goes-on i sn text (End reason) put = absurd (none-some text put)

-- a login that puts a request hasn't ended
pub asks-on : (i : LoginInfo) (h : List LoginEntry) (e : LoginEntry) (sn : ℕ) (text : List ℕ) → text_put i sn e.does ≡ Some text → login_ended (h ++ e ∷ []) ≡ false
asks-on i h e sn text put = ap is_end (last_done-append h e) ∙ request-goes-on i sn text e.does put
