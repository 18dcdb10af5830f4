-- What a drive's open has answered and read, by what the history says came to it.
use Rattle.std.proofs.Common.{◌≡◌, ℕ, ◌-◌, Bool, true, false, List, [], ◌∷◌, Option, Some, None, option_and_then, IsSome, refl, sym, ◌∙◌, ap, subst}
use Rattle.std.specs.Option.{is_some}
use Rattle.std.proofs.lemmas.Option.{none-some}
use Rattle.nb_login.specs.declared.info.LoginInfo.{LoginInfo}
use Rattle.nb_machine.specs.Drives.{DriveAnswer, last_read}
use Rattle.nb_machine.specs.Kinds.{answered, read_last}
use Rattle.nb_machine.specs.Lives.{iscsi, Live}
use Rattle.nb_laws.specs.Drives.{SessionOpening, sessions, answered_so_far}
use Rattle.nb_laws.specs.Events.{Event}
use Rattle.nb_laws.specs.Hookings.{HasDriveAnswer, HasRead}
use Rattle.nb_laws.specs.Lists.{made}
use Rattle.nb_openlaws.specs.Sessions.{session_of_live, SessionAgrees, AgreesBy, AgreesSession, SessionsAgree}
use Rattle.nb_openlaws.proofs.SessionAnswers.{session_answers}
use Rattle.std.specs.List.{AllByRecursion}

-- what the history says of an open that is a drive's session, even where it is to be asked for its first block
pub record SaysSession (es : List Event) (l : Live) : Type 0 where
  pub session : SessionOpening
  pub is : sessions l.number es ≡ session ∷ []
  pub answers : is_some (answered_so_far l.number session es) ≡ is_some (answered l)
  pub reads : option_and_then last_read (answered_so_far l.number session es) ≡ read_last l

abbrev pub TellsSession : List Event → Live → Type 0
TellsSession es l = (isn : ℕ) (i : LoginInfo) → l.kind ≡ iscsi isn i → SaysSession es l

-- the same of one that isn't to be asked
pub record SettledSession (es : List Event) (l : Live) (i : LoginInfo) : Type 0 where
  pub boots_it : Bool
  pub is : sessions l.number es ≡ session_of_live l i boots_it ∷ []
  pub same : answered_so_far l.number (session_of_live l i boots_it) es ≡ answered l

abbrev pub TellsSettled : List Event → Live → Type 0
TellsSettled es l = (isn : ℕ) (i : LoginInfo) → l.kind ≡ iscsi isn i → SettledSession es l i

pub settled_says : (es : List Event) (l : Live) → TellsSettled es l → TellsSession es l
settled_says es l tells = λ isn i kind. let s = tells isn i kind in record {
  session = session_of_live l i s.boots_it;
  is = s.is;
  answers = ap is_some s.same;
  reads = ap (option_and_then last_read) s.same;
}

-- so does each that lives
tells_one : (es : List Event) (l : Live) → AgreesSession es l → TellsSettled es l
tells_one es l a = λ isn i kind. let w : SessionAgrees es l isn i = subst (λ k. AgreesBy es k l) kind a in record { boots_it = w.boots; is = w.is; same = session_answers es l isn i w kind }

pub tells_all : (es : List Event) (ls : List Live) → SessionsAgree es ls → AllByRecursion (TellsSettled es) ls
tells_all es [] h = tt
tells_all es (l ∷ ls) h = (tells_one es l h.0, tells_all es ls h.1)

pub says_all : (es : List Event) (ls : List Live) → SessionsAgree es ls → AllByRecursion (TellsSession es) ls
says_all es [] h = tt
says_all es (l ∷ ls) h = (settled_says es l (tells_one es l h.0), says_all es ls h.1)

there_is : (x : Option DriveAnswer) → IsSome x → (a : DriveAnswer) × (x ≡ Some a)
there_is None some = absurd (let no : false ≡ true = some in cc no)
there_is (Some a) some = (a, refl)

-- it has answered, on the open made last
pub has_answered : (es : List Event) (l : Live) → SaysSession es l → made es - 1 ≡ l.number → IsSome (answered l) → HasDriveAnswer es
has_answered es l x number some =
    let a = there_is (answered_so_far l.number x.session es) (x.answers ∙ some) in
    record { session = x.session; is = ap (λ k. sessions k es) number ∙ x.is; answer = a.0; answered = ap (λ k. answered_so_far k x.session es) number ∙ a.1 }

same_session : (a b : SessionOpening) (xs : List SessionOpening) → xs ≡ a ∷ [] → xs ≡ b ∷ [] → a ≡ b
same_session a b xs p q = let both : a ∷ [] ≡ b ∷ [] = sym p ∙ q in cc both

-- or hasn't
pub none_answers : (es : List Event) (l : Live) → SaysSession es l → made es - 1 ≡ l.number → answered l ≡ None → HasDriveAnswer es → ⊥
none_answers es l x number is h =
    let same = same_session h.session x.session (sessions (made es - 1) es) h.is (ap (λ k. sessions k es) number ∙ x.is) in
    let found : is_some (answered_so_far (made es - 1) h.session es) ≡ true = ap is_some h.answered in
    let none : is_some (answered_so_far (made es - 1) h.session es) ≡ false =
    ap (λ s. is_some (answered_so_far (made es - 1) s es)) same ∙ ap (λ k. is_some (answered_so_far k x.session es)) number ∙ x.answers ∙ ap is_some is in
    let no : true ≡ false = sym found ∙ none in cc no

-- it has read a block
pub has_read : (es : List Event) (l : Live) (k : ℕ) (bytes : List ℕ) → SaysSession es l → k ≡ l.number → read_last l ≡ Some bytes → HasRead k es bytes
has_read es l k bytes x number is = record {
  session = x.session;
  is = ap (λ j. sessions j es) number ∙ x.is;
  read = ap (λ j. option_and_then last_read (answered_so_far j x.session es)) number ∙ x.reads ∙ is;
}

-- or hasn't
pub none_reads : (es : List Event) (l : Live) (k : ℕ) → SaysSession es l → k ≡ l.number → read_last l ≡ None → (bytes : List ℕ) → HasRead k es bytes → ⊥
none_reads es l k x number is bytes h =
    let same = same_session h.session x.session (sessions k es) h.is (ap (λ j. sessions j es) number ∙ x.is) in
    none-some bytes (sym (ap (λ s. option_and_then last_read (answered_so_far k s es)) same ∙ ap (λ j. option_and_then last_read (answered_so_far j x.session es)) number ∙ x.reads ∙ is) ∙ h.read)
