-- What an object of a drive leaves to be done: loads come back, and where memory ran out all is closed.
use Rattle.std.proofs.Common.{◌≡◌, ℕ, Bool, true, false, List, [], ◌∷◌, ◌++◌, Option, Some, None, subst, append_assoc}
use Rattle.nb_terms.specs.declared.cause.Cause.{Cause}
use Rattle.nb_effects.specs.declared.effects.Fx.{Fx}
use Rattle.nb_graph.specs.Trace.{Said, lent}
use Rattle.nb_graph.specs.Deeds.{Deed, Stage, all_closes, no_memory, returns_of, runs_of, told_of}
use Rattle.nb_conns.specs.Dialogues.{Dialogue}
use Rattle.nb_drivenodes.specs.SessionTalks.{SessionTalk}
use Rattle.nb_drivenodes.specs.UnitTalks.{UnitTalk}
use Rattle.nb_nodes.specs.declared.load.Load.{Load}
use Rattle.nb_nodes.specs.declared.obj.Obj.{Obj}
use Rattle.nb_nodes.specs.Objects.{obj_nature}
use Rattle.nb_opens.specs.Notices.{first_close}
use Rattle.nb_webtalks.proofs.Scenes.{View}
use Rattle.nb_drivetalks.proofs.Walking.{DriveCall, Walk, view}
use Rattle.nb_drivetalks.proofs.Steps.{close_lower_up, close_upper_up, close_user, conn_returns, some_more, session_returns, unit_returns}

-- memory ran out before anything was closed
abbrev pub RanOut : List (Deed Obj Load) → Type 0
RanOut ds = first_close (told_of ds) ≡ Some no_memory

module _ {c : DriveCall} {n : ℕ} {gs : List (Stage Obj Load)} {a : UnitTalk} {r : SessionTalk} {d : Dialogue} {ms us : List Said} {z : Option Cause} {ds : List (Deed Obj Load)} where
  -- what is asked for, in another form
  pub as_stages : {v : View} (hs : List (Stage Obj Load)) → gs ≡ hs → Walk c n v gs a r d ms us z ds → Walk c n v hs a r d ms us z ds
  as_stages {v = v} hs e k = subst (λ x. Walk c n v x a r d ms us z ds) e k

pub unit_all_returns : {c : DriveCall} {n : ℕ} {v : View} {gs : List (Stage Obj Load)} {a : UnitTalk} {r : SessionTalk} {d : Dialogue} {ms us : List Said} {z : Option Cause} {ds : List (Deed Obj Load)} (ls : List Load)
    → Walk c n v (returns_of c.unit ls ++ gs) a r d ms us z ds → Walk c n v gs a r d ms us z ds
unit_all_returns [] k = k
unit_all_returns (l ∷ ls) k = unit_all_returns ls (unit_returns k)

pub session_all_returns : {c : DriveCall} {n : ℕ} {v : View} {gs : List (Stage Obj Load)} {a : UnitTalk} {r : SessionTalk} {d : Dialogue} {ms us : List Said} {z : Option Cause} {ds : List (Deed Obj Load)} (ls : List Load)
    → Walk c n v (returns_of c.session ls ++ gs) a r d ms us z ds → Walk c n v gs a r d ms us z ds
session_all_returns [] k = k
session_all_returns (l ∷ ls) k = session_all_returns ls (session_returns k)

conn_some_returns : {c : DriveCall} {n : ℕ} {v : View} {gs : List (Stage Obj Load)} {a : UnitTalk} {r : SessionTalk} {ms us : List Said} {z : Option Cause} {ds : List (Deed Obj Load)} (ls : List Load) (d : Dialogue)
    → Walk c n v (returns_of c.conn ls ++ gs) a r d ms us z ds → (q : Dialogue) × Walk c n v gs a r q ms us z ds
conn_some_returns [] d k = (d, k)
conn_some_returns (l ∷ ls) d k = let y = conn_returns k in conn_some_returns ls y.0 y.2

module _ {c : DriveCall} {n : ℕ} (gs : List (Stage Obj Load)) {a : UnitTalk} {r : SessionTalk} {d : Dialogue} {ms us : List Said} {ds : List (Deed Obj Load)} (m : Said) (fx : Fx Obj Load) where
  -- MEMORY RUNS OUT

  pub unit_fails : {p l e : Bool} → Walk c n (view true p l e) (runs_of obj_nature c.unit m false fx ++ gs) a r d ms us None ds → RanOut ds
  unit_fails k =
      let y = unit_all_returns (lent fx) (as_stages (returns_of c.unit (lent fx) ++ (all_closes c.unit no_memory ++ gs)) (append_assoc (returns_of c.unit (lent fx)) (all_closes c.unit no_memory) gs) k) in
      (close_user y).told.closes

  pub session_fails : {u l e : Bool} → Walk c n (view u true l e) (runs_of obj_nature c.session m false fx ++ gs) a r d ms us None ds → RanOut ds
  session_fails k =
      let y = session_all_returns (lent fx) (as_stages (returns_of c.session (lent fx) ++ (all_closes c.session no_memory ++ gs)) (append_assoc (returns_of c.session (lent fx)) (all_closes c.session no_memory) gs) k) in
      let w = close_upper_up y in
      w.3.told.closes

  pub conn_fails : {u p e : Bool} → Walk c n (view u p true e) (runs_of obj_nature c.conn m false fx ++ gs) a r d ms us None ds → RanOut ds
  conn_fails k =
      let y = conn_some_returns (lent fx) d (as_stages (returns_of c.conn (lent fx) ++ (all_closes c.conn no_memory ++ gs)) (append_assoc (returns_of c.conn (lent fx)) (all_closes c.conn no_memory) gs) k) in
      let s = some_more y.1 in
      let w = close_lower_up s.0 s.1 y.1 in
      w.3.told.closes
