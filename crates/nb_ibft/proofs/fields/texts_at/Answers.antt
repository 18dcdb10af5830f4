use Rattle.std.proofs.Common.{◌≡◌, ℕ, ◌+◌, ◌<◌, ◌≤◌, ◌^◌, List, [], ◌∷◌, length, ap, arith}
use Rattle.nb_ibft.specs.Infos.{Target, IsShortText}
use Rattle.nb_ibft.specs.Tables.{kept}
use Rattle.nb_ibft.specs.Places.{slots}
use Rattle.nb_ibft.proofs.TextLemmas.{kept_short}
use Rattle.nb_ibft.proofs.fields.texts_at.Goals as goal

pub returns-in_err-name-clause-complete : goal.returns-in_err-name-clause-complete
returns-in_err-name-clause-complete c = λ at t short stand most is. absurd (c.in_err-name.ensures.complete at t.name short.0 stand.0 (omega arith) (ap (λ l. slots l 2) is))

second : (at : ℕ) (t : Target) → IsShortText t.name → at ≤ 8023 → at + length (kept t.name) < 2 ^ 16
second at t h most = omega (arith, kept_short t.name h)

pub returns-in_err-user-clause-complete : goal.returns-in_err-user-clause-complete
returns-in_err-user-clause-complete c = λ at t short stand most is. absurd (c.in_err-user.ensures.complete (at + length (kept t.name)) t.user short.1.0 stand.1.0 (second at t short.0 most) (ap (λ l. slots l 6) is))

third : (at : ℕ) (t : Target) → IsShortText t.name → IsShortText t.user → at ≤ 8023 → at + length (kept t.name) + length (kept t.user) < 2 ^ 16
third at t h i most = omega (arith, kept_short t.name h, kept_short t.user i)

pub returns-in_err-secret-clause-complete : goal.returns-in_err-secret-clause-complete
returns-in_err-secret-clause-complete c = λ at t short stand most is. absurd (c.in_err-secret.ensures.complete (at + length (kept t.name) + length (kept t.user)) t.secret short.1.1.0 stand.1.1.0 (third at t short.0 short.1.0 most) (ap (λ l. slots l 10) is))

fourth : (at : ℕ) (t : Target) → IsShortText t.name → IsShortText t.user → IsShortText t.secret → at ≤ 8023 → at + length (kept t.name) + length (kept t.user) + length (kept t.secret) < 2 ^ 16
fourth at t h i j most = omega (arith, kept_short t.name h, kept_short t.user i, kept_short t.secret j)

pub returns-in_err-reverse_user-clause-complete : goal.returns-in_err-reverse_user-clause-complete
returns-in_err-reverse_user-clause-complete c = λ at t short stand most is. absurd (c.in_err-reverse_user.ensures.complete (at + length (kept t.name) + length (kept t.user) + length (kept t.secret)) t.reverse_user short.1.1.1.0 stand.1.1.1.0 (fourth at t short.0 short.1.0 short.1.1.0 most) (ap (λ l. slots l 14) is))

fifth : (at : ℕ) (t : Target) → IsShortText t.name → IsShortText t.user → IsShortText t.secret → IsShortText t.reverse_user → at ≤ 8023 → at + length (kept t.name) + length (kept t.user) + length (kept t.secret) + length (kept t.reverse_user) < 2 ^ 16
fifth at t h i j k most = omega (arith, kept_short t.name h, kept_short t.user i, kept_short t.secret j, kept_short t.reverse_user k)

pub returns-in_err-reverse_secret-clause-complete : goal.returns-in_err-reverse_secret-clause-complete
returns-in_err-reverse_secret-clause-complete c = λ at t short stand most is. absurd (c.in_err-reverse_secret.ensures.complete (at + length (kept t.name) + length (kept t.user) + length (kept t.secret) + length (kept t.reverse_user)) t.reverse_secret short.1.1.1.1.0 stand.1.1.1.1.0 (fifth at t short.0 short.1.0 short.1.1.0 short.1.1.1.0 most) (ap (λ l. slots l 18) is))

same : (a b c d e a' b' c' d' e' : List ℕ) → a ≡ a' → b ≡ b' → c ≡ c' → d ≡ d' → e ≡ e' → a ∷ b ∷ c ∷ d ∷ e ∷ [] ≡ a' ∷ b' ∷ c' ∷ d' ∷ e' ∷ []
same a b c d e a' b' c' d' e' p q r s t = cc

pub returns-clause-complete : goal.returns-clause-complete
returns-clause-complete c = λ at t short stand most is.
    same _ _ _ _ _ _ _ _ _ _
    (c.in_ok-name.ensures.complete at t.name short.0 stand.0 (omega arith) (ap (λ l. slots l 2) is))
    (c.in_ok-user.ensures.complete (at + length (kept t.name)) t.user short.1.0 stand.1.0 (second at t short.0 most) (ap (λ l. slots l 6) is))
    (c.in_ok-secret.ensures.complete (at + length (kept t.name) + length (kept t.user)) t.secret short.1.1.0 stand.1.1.0 (third at t short.0 short.1.0 most) (ap (λ l. slots l 10) is))
    (c.in_ok-reverse_user.ensures.complete (at + length (kept t.name) + length (kept t.user) + length (kept t.secret)) t.reverse_user short.1.1.1.0 stand.1.1.1.0 (fourth at t short.0 short.1.0 short.1.1.0 most) (ap (λ l. slots l 14) is))
    (c.in_ok-reverse_secret.ensures.complete (at + length (kept t.name) + length (kept t.user) + length (kept t.secret) + length (kept t.reverse_user)) t.reverse_secret short.1.1.1.1.0 stand.1.1.1.1.0 (fifth at t short.0 short.1.0 short.1.1.0 short.1.1.1.0 most) (ap (λ l. slots l 18) is))
