-- A drive has become known by the record used last, and is asked for its first block in that step: it is the one of which the history is ahead.
use Rattle.std.proofs.Common.{◌≡◌, ℕ, ◌==◌, ◌||◌, Bool, true, false, List, [], ◌∷◌, ◌++◌, Option, None, refl, sym, ◌∙◌, ap, subst, eq-eqb}
use Rattle.nb_defs.specs.Records.{Out}
use Rattle.nb_drivecmd.specs.declared.drive.Drive.{Drive}
use Rattle.nb_login.specs.declared.info.LoginInfo.{LoginInfo}
use Rattle.nb_machine.specs.Courses.{Standing, AsksBlock, ReadsBlock}
use Rattle.nb_machine.specs.Kinds.{answered, answered_by}
use Rattle.nb_machine.specs.Lives.{iscsi, Live}
use Rattle.nb_machine.specs.Running.{Running}
use Rattle.nb_machine.specs.States.{State}
use Rattle.nb_machine.specs.Takings.{Over}
use Rattle.nb_laws.specs.Events.{Event}
use Rattle.nb_laws.specs.Frames.{IsDue}
use Rattle.nb_laws.proofs.Tellings.{told}
use Rattle.nb_openlaws.specs.OpenReasons.{HaveWays}
use Rattle.nb_openlaws.specs.Sessions.{SessionAgrees, SessionsAgree, SessionsStand, IsUnaskedByCommands}
use Rattle.nb_openlaws.specs.Standings.{lives_among, HaveOwnNumbers, AgreesState, AgreesDevice}
use Rattle.nb_openlaws.proofs.AllReasons.{TakenSo}
use Rattle.nb_openlaws.proofs.SessionAnswers.{SessionsOver, unasked_tasks}
use Rattle.nb_openlaws.proofs.SessionAsks.{DueBy, asks_sessions, asks_reasons}
use Rattle.nb_openlaws.proofs.SessionMoves.{reads_sessions}
use Rattle.nb_openlaws.proofs.SessionsDue.{SessionDue}
use Rattle.nb_laws.specs.Progress.{IsAdvanced}

-- ONE OF A NUMBER

here_twice : (k : ℕ) (before behind : List Live) (l : Live) → l.number ≡ k → lives_among k (before ++ l ∷ behind) ≡ true
here_twice k [] behind l is = ap (λ b. b || lives_among k behind) (eq-eqb l.number k is)
here_twice k (x ∷ before) behind l is = or_last (x.number == k) (lives_among k (before ++ l ∷ behind)) (here_twice k before behind l is)
  where
    or_last : (a b : Bool) → b ≡ true → (a || b) ≡ true
    or_last true b e = refl
    or_last false b e = e

-- a list that is parted at the one open of a number is parted in one way
record SameParts (b1 b2 : List Live) (l1 l2 : Live) (h1 h2 : List Live) : Type 0 where
  before : b1 ≡ b2
  it : l1 ≡ l2
  behind : h1 ≡ h2

same_parts : (b1 b2 : List Live) (l1 l2 : Live) (h1 h2 : List Live) → HaveOwnNumbers (b1 ++ l1 ∷ h1) → b1 ++ l1 ∷ h1 ≡ b2 ++ l2 ∷ h2 → l1.number ≡ l2.number → SameParts b1 b2 l1 l2 h1 h2
same_parts [] [] l1 l2 h1 h2 own is same = record { before = refl; it = cc; behind = cc }
same_parts [] (x ∷ b2) l1 l2 h1 h2 own is same =
    let rest : h1 ≡ b2 ++ l2 ∷ h2 = cc in
    absurd (let never : false ≡ true = sym own.0 ∙ ap (lives_among l1.number) rest ∙ here_twice l1.number b2 h2 l2 (sym same) in cc)
same_parts (x ∷ b1) [] l1 l2 h1 h2 own is same =
    let first : x ≡ l2 = cc in
    absurd (let never : false ≡ true = sym own.0 ∙ here_twice x.number b1 h1 l1 (same ∙ sym (ap (λ (z : Live). z.number) first)) in cc)
same_parts (x ∷ b1) (y ∷ b2) l1 l2 h1 h2 own is same =
    let first : x ≡ y = cc in
    let rest : b1 ++ l1 ∷ h1 ≡ b2 ++ l2 ∷ h2 = cc in
    let p = same_parts b1 b2 l1 l2 h1 h2 own.1 rest same in
    record { before = ap (λ z. z ∷ b1) first ∙ ap (λ z. y ∷ z) p.before; it = p.it; behind = p.behind }

-- THE ONE THAT IS ASKED

-- what the history says of the drive that is asked, and of the others
pub record AskedSo (es : List Event) (s : State) (number : ℕ) (put : List Out) (s' : State) (over : List Over) (q : AsksBlock s number put s' over) (isn : ℕ) (i : LoginInfo) : Type 0 where
  pub kind : q.l.kind ≡ iscsi isn i
  pub before : SessionsAgree es q.before
  pub behind : SessionsAgree es q.behind
  pub due : SessionDue es q.l isn i s.now
  pub brought : IsDue q.l.number es

-- it is the one that has become known
pub sized_asked : (es : List Event) (s : State) (number : ℕ) (put : List Out) (s' : State) (over : List Over) (q : AsksBlock s number put s' over) (before behind : List Live) (l : Live) (isn : ℕ) (i : LoginInfo) → AgreesState es s →
    s.live ≡ before ++ l ∷ behind → l.number ≡ number → l.kind ≡ iscsi isn i →
    SessionsAgree es before → SessionDue es l isn i s.now → SessionsAgree es behind → IsDue l.number es → AskedSo es s number put s' over q isn i
sized_asked es s number put s' over q before behind l isn i a lives its is front due back brought =
    let p = same_parts before q.before l q.l behind q.behind (subst HaveOwnNumbers lives a.apart) (sym lives ∙ q.parted) (its ∙ sym q.its) in
    record {
      kind = sym (ap (λ (z : Live). z.kind) p.it) ∙ is;
      before = subst (SessionsAgree es) p.before front;
      behind = subst (SessionsAgree es) p.behind back;
      due = subst (λ z. SessionDue es z isn i s.now) p.it due;
      brought = subst (λ (z : Live). IsDue z.number es) p.it brought;
    }

due_by : (es : List Event) (l : Live) (now isn : ℕ) (i : LoginInfo) → l.kind ≡ iscsi isn i → SessionDue es l isn i now → DueBy es l.kind l now
due_by es l now isn i is due = subst (λ z. DueBy es z l now) (sym is) due

-- so nothing is outstanding when the command waits for the block, or has its cause
pub asked_stand : (es : List Event) (s : State) (inner : Running) (outer : List Running) (number : ℕ) (d : Option Drive) (put : List Out) (p : Standing) (r : ReadsBlock s inner outer number d put p) (isn : ℕ) (i : LoginInfo) → AgreesState es s →
    AskedSo es s number r.asked r.next r.over r.asks isn i → SessionsStand (es ++ told put) p
asked_stand es s inner outer number d put p r isn i a w = reads_sessions es s inner outer number d put p r a w.before w.behind (due_by es r.asks.l s.now isn i w.kind w.due)

pub asked_over : (es : List Event) (s : State) (number : ℕ) (put : List Out) (s' : State) (over : List Over) (q : AsksBlock s number put s' over) (isn : ℕ) (i : LoginInfo) → AgreesState es s → AskedSo es s number put s' over q isn i →
    SessionsOver (es ++ told put) over
asked_over es s number put s' over q isn i a w = (asks_sessions es s s' number put over q a w.before w.behind (due_by es q.l s.now isn i w.kind w.due)).1

-- and what is put has its reasons
pub asked_reasons : (es : List Event) (s : State) (number : ℕ) (put : List Out) (s' : State) (over : List Over) (q : AsksBlock s number put s' over) (isn : ℕ) (i : LoginInfo) → AgreesState es s → AgreesDevice es s → HaveWays es s.live →
    IsAdvanced es → AskedSo es s number put s' over q isn i → TakenSo es put over
asked_reasons es s number put s' over q isn i a device ways advanced w = asks_reasons es s s' number put over q isn i w.kind a device ways advanced w.brought w.due

-- one that agrees, boots and was asked nothing isn't known yet
pub unsized : (es : List Event) (l : Live) (isn : ℕ) (i : LoginInfo) (w : SessionAgrees es l isn i) → l.kind ≡ iscsi isn i → w.boots ≡ true → IsUnaskedByCommands l.exchanges → answered l ≡ None
unsized es l isn i w is booting unasked = ap (λ k. answered_by k l) is ∙ w.sized booting (unasked_tasks l isn i unasked)
