-- What a message from the session does to the unit: what it sends, what it hands up, and how it ends.
use Rattle.std.proofs.Common.{◌≡◌, ◌<◌, ◌^◌, ℕ, Bool, true, List, [], ◌∷◌, ◌++◌, length, map, min, Option, Some, None, refl, sym, ap, ◌∙◌, subst, append_assoc, append-nil, arith, if◌then◌else◌}
use Rattle.std.specs.List.{AllByRecursion}
use Rattle.std.proofs.lemmas.Bool.{le-ltb}
use Rattle.nb_terms.specs.declared.cause.Cause.{Cause}
use Rattle.nb_ledger.specs.declared.event.Way.TheVariants as way
use Rattle.nb_effects.specs.declared.effects.Emit.{Emit}
use Rattle.nb_effects.specs.declared.effects.Fx.{Fx}
use Rattle.nb_graph.specs.Whole.{port_at}
use Rattle.nb_graph.specs.Trace.{Said, in_list, left, said_behind}
use Rattle.nb_graph.specs.Deeds.{Deed, Stage, Holds, Closes, Sends, closes_of, returns_of, runs_of}
use Rattle.nb_streams.specs.Flows.{TcpCall, text_came}
use Rattle.nb_conns.specs.ConnEffects.{GoesAbove, GoesBelow, closes_for, emits_of}
use Rattle.nb_conns.specs.Dialogues.{Dialogue}
use Rattle.nb_login.specs.LoginHistory.{LoginEntry}
use Rattle.nb_drivenodes.specs.DriveAsks.{DriveAskParts}
use Rattle.nb_drivenodes.specs.DriveEffects.{DriveEffects, drive_says, sends_says}
use Rattle.nb_drivenodes.specs.SessionTalks.{SessionTalk, in_session, session_cut, session_lives}
use Rattle.nb_drivenodes.specs.UnitTalks.{UnitTalk}
use Rattle.nb_nodes.specs.declared.load.Load.{Load}
use Rattle.nb_nodes.specs.declared.obj.Obj.{Obj}
use Rattle.nb_nodes.specs.Carriers.{text_carrier}
use Rattle.nb_nodes.specs.Objects.{obj_nature}
use Rattle.nb_webtalks.proofs.Lowers.{IsBegun, OwesTo, regains_none}
use Rattle.nb_webtalks.proofs.Middle.{emits_stages}
use Rattle.nb_drivetalks.proofs.Endings.{Ended, ended_unit, unit_closes}
use Rattle.nb_drivetalks.proofs.Returning.{as_stages, unit_all_returns}
use Rattle.nb_drivetalks.proofs.Steps.{left_by, send_user, unit_settles}
use Rattle.nb_drivetalks.proofs.Talks.{Failed, Speaks, speaks_none}
use Rattle.nb_drivetalks.proofs.Texts.{Spoke, none_sent, one_sent, runs_all, sent, session_hears, spoke, spoke_not}
use Rattle.nb_drivetalks.proofs.Walking.{DriveCall, Walk, view}

-- all of a message was taken
pub none_left : (m : Said) (took : ℕ) → length m.bytes < 2 ^ 32 → took ≡ min (length m.bytes) 4294967295 → left took m ≡ None
none_left m took short is = ap (λ (z : Bool). if z then Some (said_behind took m) else None) (le-ltb took (length m.bytes) (omega (arith, is, short)))

-- the calls of the connection by a text, where there is one
abbrev pub text_calls_of : Option (List ℕ) → ℕ → List TcpCall
text_calls_of None now = []
text_calls_of (Some text) now = text_came text now ∷ []

-- It failed; or the connection was given these texts, and these messages were handed up; and it goes on, or has ended so.
pub data UnitWent (c : DriveCall) (n : ℕ) (gs : List (Stage Obj Load)) (a : UnitTalk) (r : SessionTalk) (d : Dialogue) (ms us : List Said) (ds : List (Deed Obj Load)) (others : List Load) (rec : ℕ) (texts : List TcpCall) (given : List Said)
    (over : Option Cause) : Type 0 where
  unit_failed : Failed c ds → UnitWent c n gs a r d ms us ds others rec texts given over
  unit_on : (p : Dialogue) (told : List Said) → over ≡ None → Speaks rec texts d p told → OwesTo others p → Walk c n (view true true true true) gs a r p (ms ++ told) (us ++ given) None ds → UnitWent c n gs a r d ms us ds others rec texts given over
  unit_off : (x : Cause) (p : Dialogue) (told : List Said) → over ≡ Some x → Speaks rec texts d p told → Ended c n gs a session_cut p (ms ++ told) (us ++ given) x ds → UnitWent c n gs a r d ms us ds others rec texts given over

module _ {c : DriveCall} {n : ℕ} (gs : List (Stage Obj Load)) {a : UnitTalk} {r : SessionTalk} {d : Dialogue} {ms : List Said} {ds : List (Deed Obj Load)} (m : Said) where
  -- messages are handed up, one after another
  pub hands_up : (es : List (Emit Load)) (us given : List Said) → map (drive_says text_carrier m) es ≡ given → AllByRecursion GoesAbove es → Walk c n (view true true true true) (emits_stages c.unit m es ++ gs) a r d ms us None ds
      → Walk c n (view true true true true) gs a r d ms (us ++ given) None ds
  hands_up [] us given is above k = subst (λ z. Walk c n (view true true true true) gs a r d ms z None ds) (sym (append-nil us) ∙ ap (λ z. us ++ z) is) k
  hands_up (e ∷ es) us given is above k =
      let told : Said = drive_says text_carrier m e in
      let hs : List (Stage Obj Load) = returns_of c.unit (in_list e.load) ++ (emits_stages c.unit m es ++ gs) in
      let one = unit_all_returns (in_list e.load) (send_user (as_stages (Sends (port_at c.unit 0) told ∷ hs) (one_sent c.unit 0 m e es told gs above.0 refl) k)) in
      let rest = hands_up es (us ++ told ∷ []) (map (drive_says text_carrier m) es) refl above.1 one in
      subst (λ z. Walk c n (view true true true true) gs a r d ms z None ds) (append_assoc us (told ∷ []) (map (drive_says text_carrier m) es) ∙ ap (λ z. us ++ z) is) rest

module _ {c : DriveCall} {n : ℕ} {gs : List (Stage Obj Load)} {a : UnitTalk} {r : SessionTalk} {d : Dialogue} {ms us : List Said} {ds : List (Deed Obj Load)} (others : List Load) (m : Said) (fx : Fx Obj Load) (texts : List TcpCall)
    (given : List Said) where
  -- what goes up, and the end, after what went down
  pub unit_then : (over : Option Cause) → session_lives r ≡ true → map (drive_says text_carrier m) (emits_of fx.ups) ≡ given → AllByRecursion GoesAbove (emits_of fx.ups) → IsBegun d
      → Spoke c n (emits_stages c.unit m (emits_of fx.ups) ++ (closes_of c.unit (closes_for over) ++ gs)) a r d ms us ds others m.rec texts → UnitWent c n gs a r d ms us ds others m.rec texts given over
  unit_then over lives is above b (spoke_not f) = unit_failed f
  unit_then None lives is above b (spoke p told s o k) = unit_on p told refl s o (hands_up gs m (emits_of fx.ups) us given is above k)
  unit_then (Some x) lives is above b (spoke p told s o k) =
      unit_off x p told refl s (unit_closes lives (s.begun b) (hands_up (Closes (port_at c.unit 0) x ∷ Closes (port_at c.unit 1) x ∷ gs) m (emits_of fx.ups) us given is above k))

  -- an entry that sends nothing down
  pub unit_silent : (over : Option Cause) → session_lives r ≡ true → DriveEffects text_carrier m [] given (closes_for over) fx → IsBegun d → OwesTo others d → texts ≡ []
      → Walk c n (view true true true true) (runs_of obj_nature c.unit m true fx ++ gs) a r d ms us None ds → UnitWent c n gs a r d ms us ds others m.rec texts given over
  unit_silent over lives effects b owes none k =
      let hs : List (Stage Obj Load) = emits_stages c.unit m (emits_of fx.ups) ++ (closes_of c.unit (closes_for over) ++ gs) in
      let w : Walk c n (view true true true true) hs a r d ms us None ds =
      as_stages hs (runs_all c.unit m fx (closes_for over) gs effects.no_make effects.closes ∙ ap (λ (z : List (Emit Load)). emits_stages c.unit m z ++ hs) (none_sent m (emits_of fx.downs) effects.downs)) k in
      unit_then over lives effects.ups effects.above b
      (spoke d [] (subst (λ z. Speaks m.rec z d d []) (sym none) (speaks_none m.rec (regains_none d))) owes (subst (λ z. Walk c n (view true true true true) hs a r d z us None ds) (sym (append-nil ms)) w))

module _ {c : DriveCall} {n : ℕ} {gs : List (Stage Obj Load)} {a : UnitTalk} {d : Dialogue} {ms us : List Said} {ds : List (Deed Obj Load)} (others : List Load) (m : Said) (fx : Fx Obj Load)
    (given : List Said) {q : DriveAskParts} {taken : List ℕ} {h : List LoginEntry} where
  -- any entry of a unit over an open session
  pub unit_entry : (text : Option (List ℕ)) (over : Option Cause) → DriveEffects text_carrier m (sends_says m.rec text) given (closes_for over) fx → IsBegun d → OwesTo others d
      → Walk c n (view true true true true) (runs_of obj_nature c.unit m true fx ++ gs) a (in_session q taken h) d ms us None ds → UnitWent c n gs a (in_session q taken h) d ms us ds others m.rec (text_calls_of text c.now) given over
  unit_entry None over effects b owes k = unit_silent others m fx [] given over refl effects b owes refl k
  unit_entry (Some text) over effects b owes k =
      unit_then others m fx (text_came text c.now ∷ []) given over refl effects.ups effects.above b
      (by (emits_of fx.downs) effects.downs effects.below (as_stages (emits_stages c.unit m (emits_of fx.downs) ++ hs) (runs_all c.unit m fx (closes_for over) gs effects.no_make effects.closes) k))
    where
      hs : List (Stage Obj Load)
      hs = emits_stages c.unit m (emits_of fx.ups) ++ (closes_of c.unit (closes_for over) ++ gs)

      after : (ls : List Load) → Spoke c n (returns_of c.unit ls ++ hs) a (in_session q taken h) d ms us ds others m.rec (text_came text c.now ∷ []) → Spoke c n hs a (in_session q taken h) d ms us ds others m.rec (text_came text c.now ∷ [])
      after ls (spoke_not f) = spoke_not f
      after ls (spoke p told s o w) = spoke p told s o (unit_all_returns ls w)

      by : (es : List (Emit Load)) → map (drive_says text_carrier m) es ≡ sends_says m.rec (Some text) → AllByRecursion GoesBelow es → Walk c n (view true true true true) (emits_stages c.unit m es ++ hs) a (in_session q taken h) d ms us None ds
          → Spoke c n hs a (in_session q taken h) d ms us ds others m.rec (text_came text c.now ∷ [])
      by [] says below w = absurd (let z = says in cc)
      by (e ∷ es) says below w =
          let one : drive_says text_carrier m e ≡ sent m.rec text = let z = says in cc in
          let rest : map (drive_says text_carrier m) es ≡ [] = let z = says in cc in
          after (in_list e.load) (session_hears others m.rec text b owes (as_stages (Sends (port_at c.unit 1) (sent m.rec text) ∷ (returns_of c.unit (in_list e.load) ++ hs))
          (one_sent c.unit 1 m e es (sent m.rec text) hs below.0 one ∙ ap (λ (z : List (Emit Load)). Sends (port_at c.unit 1) (sent m.rec text) ∷ (returns_of c.unit (in_list e.load) ++ (emits_stages c.unit m z ++ hs))) (none_sent m es rest)) w))

-- the entry is left
pub unit_left : {c : DriveCall} {n : ℕ} {gs : List (Stage Obj Load)} {a : UnitTalk} {r : SessionTalk} {d : Dialogue} {ms us : List Said} {ds : List (Deed Obj Load)} {others : List Load} {rec : ℕ} {texts : List TcpCall} {given : List Said} {over : Option Cause}
    → UnitWent c n (Holds (port_at c.unit 1) way.Up None ∷ gs) a r d ms us ds others rec texts given over → UnitWent c n gs a r d ms us ds others rec texts given over
unit_left (unit_failed f) = unit_failed f
unit_left (unit_on p told none s o k) = unit_on p told none s o (unit_settles (left_by k))
unit_left (unit_off x p told is s e) = unit_off x p told is s (ended_unit None e)
