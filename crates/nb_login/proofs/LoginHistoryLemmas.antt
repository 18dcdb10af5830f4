-- What is read from the answers of a login, when one more comes.
use Rattle.std.proofs.Common.{◌≡◌, ℕ, List, [], ◌∷◌, ◌++◌, sym, subst, append_assoc}
use Rattle.std.proofs.lemmas.List.{append-nil}
use Rattle.std.proofs.lemmas.List.Sums.{fold-append}
use Rattle.nb_login.specs.declared.step.Decision.{Decision}
use Rattle.nb_login.specs.declared.step.Decision.TheVariants.{Ask}
use Rattle.nb_login.specs.declared.step.NextRequest.TheVariants as ask
use Rattle.nb_login.specs.LoginHistory.{LoginEntry, last_done, counted_repeats, repeats, expected_of, expected, EachAnswer}

pub last_done-append : (h : List LoginEntry) (e : LoginEntry) → last_done (h ++ e ∷ []) ≡ e.does
last_done-append h e = fold-append (λ (d : Decision) (x : LoginEntry). x.does) (Ask ask.Names) h (e ∷ [])

pub repeats-append : (h : List LoginEntry) (e : LoginEntry) → repeats (h ++ e ∷ []) ≡ counted_repeats (repeats h) e.does
repeats-append h e = fold-append (λ n (x : LoginEntry). counted_repeats n x.does) 0 h (e ∷ [])

pub expected-append : (h : List LoginEntry) (e : LoginEntry) → expected (h ++ e ∷ []) ≡ expected_of e.came
expected-append h e = fold-append (λ (n : ℕ) (x : LoginEntry). expected_of x.came) 0 h (e ∷ [])

pub EachAnswer-append : (P : List LoginEntry → LoginEntry → Type 0) (before es : List LoginEntry) (e : LoginEntry) → EachAnswer P before es → P (before ++ es) e → EachAnswer P before (es ++ e ∷ [])
EachAnswer-append P before [] e each last = (subst (λ (h : List LoginEntry). P h e) (append-nil before) last, tt)
EachAnswer-append P before (x ∷ es) e each last =
    (each.0, EachAnswer-append P (before ++ x ∷ []) es e each.1 (subst (λ (h : List LoginEntry). P h e) (sym (append_assoc before (x ∷ []) es)) last))

-- a fact of one entry, out of all of them
pub EachAnswer-at : (P : List LoginEntry → LoginEntry → Type 0) (before h : List LoginEntry) (e : LoginEntry) (later : List LoginEntry) → EachAnswer P before (h ++ e ∷ later) → P (before ++ h) e
EachAnswer-at P before [] e later each = subst (λ (h : List LoginEntry). P h e) (sym (append-nil before)) each.0
EachAnswer-at P before (x ∷ h) e later each = subst (λ (g : List LoginEntry). P g e) (append_assoc before (x ∷ []) h) (EachAnswer-at P (before ++ x ∷ []) h e later each.1)

-- what holds in the beginning, and goes on to hold with each answer, holds of all of them
pub each_keeps : (Q : List LoginEntry → Type 0) (P : List LoginEntry → LoginEntry → Type 0) → ((h : List LoginEntry) (e : LoginEntry) → Q h → P h e → Q (h ++ e ∷ [])) → (before es : List LoginEntry) → Q before → EachAnswer P before es → Q (before ++ es)
each_keeps Q P keeps before [] so each = subst Q (sym (append-nil before)) so
each_keeps Q P keeps before (e ∷ es) so each =
    subst Q (append_assoc before (e ∷ []) es) (each_keeps Q P keeps (before ++ e ∷ []) es (keeps before e so each.0) each.1)
