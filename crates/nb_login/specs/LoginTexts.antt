-- All that a login says are Login Requests
use Rattle.std.specs.Prelude.{◌≡◌, ℕ, List}
use Rattle.std.specs.List.{AllByRecursion, flat_map}
use Rattle.nb_login.specs.declared.info.LoginInfo.{LoginInfo}
use Rattle.nb_login.specs.LoginHistory.{PduCame}
use Rattle.nb_login.specs.Logins.{IsLoginText, login_said}

-- a text is a Login Request of a login
pub record IsOneRequestText (text : List ℕ) : Type 0 where
  pub exp_stat_sn : ℕ
  pub keys : List ℕ
  pub is : IsLoginText text exp_stat_sn keys

-- a text is such requests, one after the other
pub record AreRequestTexts (all : List ℕ) : Type 0 where
  pub texts : List (List ℕ)
  pub joined : all ≡ flat_map (λ text. text) texts
  pub each : AllByRecursion IsOneRequestText texts

abbrev pub LoginsSayOnlyRequests : Type 0
LoginsSayOnlyRequests = (i : LoginInfo) (ms : List PduCame) → AreRequestTexts (login_said i ms)
