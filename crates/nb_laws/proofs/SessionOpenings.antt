-- The openings of drives' sessions are those of opens of that kind.
use Rattle.std.proofs.Common.{◌≡◌, ℕ, ◌==◌, Bool, true, false, cond, List, [], ◌∷◌, ◌++◌, refl, sym, ◌∙◌, ap, subst}
use Rattle.std.proofs.lemmas.Bool.{eqb-true}
use Rattle.std.specs.List.{AllByRecursion, flat_map}
use Rattle.nb_streams.proofs.FlowLaws.{all_append}
use Rattle.nb_laws.specs.Drives.{SessionOpening, session_with, session_opening, session_at, sessions}
use Rattle.nb_laws.specs.Events.{Event}
use Rattle.nb_laws.specs.Lists.{gathered, Opening, opening_at, openings}
use Rattle.nb_laws.specs.Webs.{opens_session}

all_front : {A : Type 0} (P : A → Type 0) (xs ys : List A) → AllByRecursion P (xs ++ ys) → AllByRecursion P xs
all_front P [] ys h = tt
all_front P (x ∷ xs) ys h = (h.0, all_front P xs ys h.1)

all_back : {A : Type 0} (P : A → Type 0) (xs ys : List A) → AllByRecursion P (xs ++ ys) → AllByRecursion P ys
all_back P [] ys h = h
all_back P (x ∷ xs) ys h = all_back P xs ys h.1

pub all_so : {A : Type 0} (P Q : A → Type 0) (xs : List A) → ((x : A) → P x → Q x) → AllByRecursion P xs → AllByRecursion Q xs
all_so P Q [] so h = tt
all_so P Q (x ∷ xs) so h = (so x h.0, all_so P Q xs so h.1)

-- what holds of each opening holds of each session's, which is of its kind
abbrev pub HoldsOfSession : (Opening → Type 0) → SessionOpening → Type 0
HoldsOfSession P s = P s.opening × (s.opening.kind ≡ 3)

of_opening : (P : Opening → Type 0) (k : ℕ) (before : List Event) (os : List Opening) → AllByRecursion P os → AllByRecursion (HoldsOfSession P) (flat_map (session_opening k before) os)
of_opening P k before [] h = tt
of_opening P k before (o ∷ os) h =
    all_append (HoldsOfSession P) (session_opening k before o) (flat_map (session_opening k before) os) (by (o.kind == 3) refl) (of_opening P k before os h.1)
  where
    by : (b : Bool) → (o.kind == 3) ≡ b → AllByRecursion (HoldsOfSession P) (cond b (session_with k before o ∷ []) [])
    by true is = ((h.0, eqb-true o.kind 3 is), tt)
    by false is = tt

sessions_so : (P : Opening → Type 0) (k : ℕ) (before es : List Event) → AllByRecursion P (gathered (opening_at k) before es) → AllByRecursion (HoldsOfSession P) (gathered (session_at k) before es)
unfolding gathered
sessions_so P k before [] h = tt
sessions_so P k before (e ∷ es) h =
    all_append (HoldsOfSession P) (session_at k before e) (gathered (session_at k) (before ++ e ∷ []) es)
    (of_opening P k before (opening_at k before e) (all_front P (opening_at k before e) (gathered (opening_at k) (before ++ e ∷ []) es) h))
    (sessions_so P k (before ++ e ∷ []) es (all_back P (opening_at k before e) (gathered (opening_at k) (before ++ e ∷ []) es) h))

pub each_session : (P : Opening → Type 0) (k : ℕ) (es : List Event) → AllByRecursion P (openings k es) → AllByRecursion (HoldsOfSession P) (sessions k es)
unfolding openings sessions
each_session P k es h = sessions_so P k [] es h

-- an open of another kind has no session
no_one : (ss : List SessionOpening) → AllByRecursion (HoldsOfSession (λ o. opens_session o ≡ false)) ss → ss ≡ []
no_one [] h = refl
no_one (s ∷ ss) h = absurd (let no : true ≡ false = sym (ap (λ n. n == 3) h.0.1) ∙ h.0.0 in cc)

pub no_session_of : (k : ℕ) (es : List Event) (o : Opening) → openings k es ≡ o ∷ [] → opens_session o ≡ false → sessions k es ≡ []
no_session_of k es o opening plain =
    no_one (sessions k es) (each_session (λ x. opens_session x ≡ false) k es (subst (AllByRecursion (λ x. opens_session x ≡ false)) (sym opening) (plain, tt)))

pub no_session_unopened : (k : ℕ) (es : List Event) → openings k es ≡ [] → sessions k es ≡ []
no_session_unopened k es none =
    no_one (sessions k es) (each_session (λ x. opens_session x ≡ false) k es (subst (AllByRecursion (λ x. opens_session x ≡ false)) (sym none) tt))
