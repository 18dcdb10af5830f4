-- What a begin does to the three, from the entry of the unit that begins it: the session asks for its connection, and gives it the login's
-- first request; or it refuses a name that has a zero byte.
use Rattle.std.proofs.Common.{◌≡◌, ℕ, suc, Bool, true, false, not, List, [], ◌∷◌, ◌++◌, map, take, Option, Some, None, refl, sym, ap, ◌∙◌, subst, append-nil, arith}
use Rattle.std.specs.List.{AllByRecursion}
use Rattle.std.specs.Option.{is_some}
use Rattle.std.proofs.lemmas.Bool.{false≢true}
use Rattle.std.proofs.lemmas.Option.{same_Some}
use Rattle.nb_terms.specs.declared.cause.Cause.{Cause}
use Rattle.nb_ledger.specs.declared.event.Way.TheVariants as way
use Rattle.nb_effects.specs.declared.effects.Emit.{Emit}
use Rattle.nb_effects.specs.declared.effects.Fx.{Fx}
use Rattle.nb_graph.specs.Whole.{port_at}
use Rattle.nb_graph.specs.Trace.{Said, closed, down, in_list, loads, silence}
use Rattle.nb_graph.specs.Deeds.{Closes, Deed, Holds, MustUnplug, Offers, Sends, Stage, few_of, returns_of, runs_of}
use Rattle.nb_login.specs.declared.refusal.LoginRefusal.TheVariants.{ZeroByte}
use Rattle.nb_login.specs.declared.refusal.SentName.{SentName}
use Rattle.nb_login.specs.Logins.{login_said}
use Rattle.nb_login.specs.Refusals.{refusal_cause, zero_name}
use Rattle.nb_streams.specs.Flows.{text_came}
use Rattle.nb_tcp.specs.ConnPromises.{starting_acts}
use Rattle.nb_conns.specs.declared.stream_tag.StreamTag.TheVariants as stream
use Rattle.nb_conns.specs.StreamTags.{stream_tag_number}
use Rattle.nb_conns.specs.ConnAsks.{conn_ask_in, link_of}
use Rattle.nb_conns.specs.ConnEffects.{GoesBelow, downs_for, emit_says, emits_of}
use Rattle.nb_conns.specs.Dialogues.{Converses, Dialogue, ends_short, given_up, is_asked, rests_still, talking, unopened}
use Rattle.nb_drivenodes.specs.DriveAsks.{DriveAskParts, drive_ask_in}
use Rattle.nb_drivenodes.specs.DriveEffects.{conn_says, drive_says}
use Rattle.nb_drivenodes.specs.SessionTalks.{SessionTalk, SessionTalks, logging_in, login_begins, login_refused, session_ends, session_rests, session_unasked}
use Rattle.nb_drivenodes.specs.UnitTalks.{UnitTalk, UnitTalks, asks_session, unit_begins, unit_cut, unit_ends, unit_rests, unit_unasked, unit_waits}
use Rattle.nb_nodes.specs.declared.load.Load.{Load}
use Rattle.nb_nodes.specs.declared.obj.Obj.{Obj}
use Rattle.nb_nodes.specs.Carriers.{conn_carrier, text_carrier}
use Rattle.nb_nodes.specs.Objects.{obj_nature}
use Rattle.nb_webchains.specs.WebCalls.{begin_said}
use Rattle.nb_webtalks.proofs.Lowers.{OwesTo, runs_down}
use Rattle.nb_webtalks.proofs.Middle.{emits_stages}
use Rattle.nb_webtalks.proofs.Rising.{few_loads, loads_in, none_up}
use Rattle.nb_webtalks.proofs.Uppers.{runs_silent}
use Rattle.nb_drivetalks.proofs.Endings.{session_shuts}
use Rattle.nb_drivetalks.proofs.Lowers.{few_below}
use Rattle.nb_drivetalks.proofs.Returning.{as_stages, conn_fails, session_all_returns, session_fails, unit_all_returns, unit_fails}
use Rattle.nb_drivetalks.proofs.Steps.{close_lower_down, close_network, conn_settles, left_by, offer_unit, send_down_lower, send_down_upper, session_settles, some_more, unit_settles, unplug_lower_down, weaker}
use Rattle.nb_drivetalks.proofs.Talks.{Failed, Speaks, ran_out, speaks_both, speaks_none}
use Rattle.nb_drivetalks.proofs.Texts.{Spoke, conn_hears, none_sent, one_sent, runs_all, runs_closing, sent, spoke, spoke_not}
use Rattle.nb_drivetalks.proofs.Walking.{DriveCall, Walk, view}

-- It failed; it was refused; or the connection was asked for, and given the login's first request.
pub data BeginDid (c : DriveCall) (n : ℕ) (ds : List (Deed Obj Load)) (q : DriveAskParts) (rec : ℕ) : Type 0 where
  begin_fails : Failed c ds → BeginDid c n ds q rec
  begin_refused : (name : SentName) (u : UnitTalk) (r : SessionTalk) (p : Dialogue) (v : _) → zero_name q.info ≡ Some name → Walk c n v [] u r p [] [] (Some (refusal_cause (ZeroByte name))) ds → BeginDid c n ds q rec
  begin_goes : (p : Dialogue) (told : List Said) → zero_name q.info ≡ None → Speaks rec (text_came (login_said q.info []) c.now ∷ []) (talking q.conn c.now [] None) p told → OwesTo [] p
      → Walk c n (view true true true true) [] unit_waits (logging_in q [] []) p (downs_for rec (starting_acts (link_of q.conn)) ++ told) [] None ds → BeginDid c n ds q rec

begin_less : {c : DriveCall} {n m : ℕ} {ds : List (Deed Obj Load)} {q : DriveAskParts} {rec : ℕ} → n ≡ suc m → BeginDid c m ds q rec → BeginDid c n ds q rec
begin_less size (begin_fails f) = begin_fails f
begin_less size (begin_refused name u r p v zero w) = begin_refused name u r p v zero (weaker (omega (arith, size)) w)
begin_less size (begin_goes p told zero s o w) = begin_goes p told zero s o (weaker (omega (arith, size)) w)

-- what is still to be left then
abbrev left_above : DriveCall → List Load → List (Stage Obj Load)
left_above c ls = Holds (port_at c.session 0) way.Down None ∷ (returns_of c.unit ls ++ Holds (port_at c.unit 0) way.Down None ∷ [])

leaves_above : {c : DriveCall} {n : ℕ} {ds : List (Deed Obj Load)} {v : _} {u : UnitTalk} {r : SessionTalk} {p : Dialogue} {ms us : List Said} {z : Option Cause} (ls : List Load) → Walk c n v (left_above c ls) u r p ms us z ds
    → Walk c n v [] u r p ms us z ds
leaves_above ls k = unit_settles (left_by (unit_all_returns ls (session_settles (left_by k))))

-- A NAME IS REFUSED

module _ (c : DriveCall) (n : ℕ) (ds : List (Deed Obj Load)) (gs : List (Stage Obj Load)) where
  unopened_shut : {u : UnitTalk} {r : SessionTalk} {ms us : List Said} {x y : Cause} → Walk c n (view false false true true) (Closes (port_at c.session 1) x ∷ gs) u r unopened ms us (Some y) ds
      → (p : Dialogue) × Walk c n (view false false false false) gs u r p ms us (Some y) ds
  unopened_shut {u = u} {r = r} {ms = ms} {us = us} {x = x} {y = y} k = let w = close_lower_down k in by w.0 w.1 w.2 w.3
    where
      hs : List (Stage Obj Load)
      hs = Holds (port_at c.conn 0) way.Close None ∷ MustUnplug (port_at c.session 1) (port_at c.conn 0) ∷ gs

      by : (fx : Fx Obj Load) (q : Dialogue) → Converses {N = Obj} conn_carrier unopened (closed 0 x c.now fx) q → Walk c n (view false false false true) (runs_of obj_nature c.conn silence true fx ++ hs) u r q ms us (Some y) ds
          → (p : Dialogue) × Walk c n (view false false false false) gs u r p ms us (Some y) ds
      by fx _ (ends_short _ _ cut hands) w =
          (given_up, unplug_lower_down (left_by (close_network (as_stages (Closes (port_at c.conn 1) x ∷ hs) (ap (λ (z : List (Stage Obj Load)). z ++ hs) (runs_silent c.conn silence fx ((1, x) ∷ []) hands.0 hands.1)) w))))
      by fx _ (rests_still _ _ quiet idle) w = absurd (let z = quiet in cc)

-- THE CONNECTION IS ASKED FOR

module _ (c : DriveCall) (n : ℕ) (ds : List (Deed Obj Load)) (q : DriveAskParts) (rec : ℕ) (bytes : List ℕ) (conn : conn_ask_in (take 16 bytes) ≡ Some q.conn) (zero : zero_name q.info ≡ None) where
  abbrev syn_said : Said
  syn_said = record { tag = stream_tag_number stream.Begin; rec = rec; a = 0; b = 0; bytes = take 16 bytes }

  abbrev text_said : Said
  text_said = sent rec (login_said q.info [])

  -- the text after it
  text_then : (ls : List Load) (e : Emit Load) (es : List (Emit Load)) (m : Said) (ups : List (Emit Load)) (p : Dialogue) (gs : List (Stage Obj Load)) → e.slot ≡ 1 → drive_says text_carrier m e ≡ text_said
      → map (drive_says text_carrier m) es ≡ [] → map (drive_says text_carrier m) ups ≡ []
      → Speaks rec [] (talking q.conn c.now [] None) p [] → OwesTo [] p
      → Walk c n (view true true true true) (returns_of c.session ls ++ (emits_stages c.session m (e ∷ es) ++ (emits_stages c.session m ups ++ gs))) unit_waits (logging_in q [] []) p (downs_for rec (starting_acts (link_of q.conn))) [] None ds
      → ((d : Dialogue) (told : List Said) → Walk c n (view true true true true) gs unit_waits (logging_in q [] []) d told [] None ds → Walk c n (view true true true true) [] unit_waits (logging_in q [] []) d told [] None ds) → BeginDid c n ds q rec
  text_then ls e es m ups p gs slot is none no_ups s owes k leaves =
      let hs : List (Stage Obj Load) = emits_stages c.session m ups ++ gs in
      by (conn_hears [] text_said refl (s.begun tt) owes
      (as_stages (Sends (port_at c.session 1) text_said ∷ (returns_of c.session (in_list e.load) ++ hs))
      (one_sent c.session 1 m e es text_said hs slot is ∙ ap (λ (z : List (Emit Load)). Sends (port_at c.session 1) text_said ∷ (returns_of c.session (in_list e.load) ++ (emits_stages c.session m z ++ hs))) (none_sent m es none))
      (session_all_returns ls k)))
    where
      by : Spoke c n (returns_of c.session (in_list e.load) ++ (emits_stages c.session m ups ++ gs)) unit_waits (logging_in q [] []) p (downs_for rec (starting_acts (link_of q.conn))) [] ds [] rec (text_came (login_said q.info []) c.now ∷ [])
          → BeginDid c n ds q rec
      by (spoke_not f) = begin_fails f
      by (spoke d told s2 o w) =
          begin_goes d told zero (speaks_both rec s s2) o
          (leaves d (downs_for rec (starting_acts (link_of q.conn)) ++ told) (as_stages gs (ap (λ (z : List (Emit Load)). emits_stages c.session m z ++ gs) (none_sent m ups no_ups)) (session_all_returns (in_list e.load) w)))

  -- the SYN is sent
  syn_by : (done : Bool) (fx : Fx Obj Load) (d : Dialogue) (gs : List (Stage Obj Load)) → Converses conn_carrier unopened (down syn_said c.now done fx) d
      → Walk c n (view true true true true) (runs_of obj_nature c.conn syn_said done fx ++ Holds (port_at c.conn 0) way.Down None ∷ gs) unit_waits (logging_in q [] []) d [] [] None ds
      → ((p : Dialogue) → Speaks rec [] (talking q.conn c.now [] None) p [] → OwesTo [] p → Walk c n (view true true true true) gs unit_waits (logging_in q [] []) p (downs_for rec (starting_acts (link_of q.conn))) [] None ds → BeginDid c n ds q rec) → BeginDid c n ds q rec
  syn_by false fx d gs did k go = begin_fails (ran_out (conn_fails (Holds (port_at c.conn 0) way.Down None ∷ gs) syn_said fx k))
  syn_by true fx d gs (ends_short _ _ cut hands) k go = absurd (let z = cut in cc)
  syn_by true fx d gs (rests_still _ _ quiet idle) k go = absurd (false≢true (sym (ap (λ z. not (is_some z)) conn) ∙ quiet))
  syn_by true fx _ gs (is_asked b _ _ _ tag found effects) k go =
      let hs : List (Stage Obj Load) = Holds (port_at c.conn 0) way.Down None ∷ gs in
      let no_loads : loads fx.ups ≡ [] = few_loads fx.ups ∙ ap loads_in (none_up syn_said (emits_of fx.ups) effects.ups) in
      let one = few_below syn_said (loads fx.ups) fx.downs effects.below (λ on. effects.windows)
      (as_stages (few_of obj_nature c.conn syn_said fx.downs ++ hs) (ap (λ z. z ++ hs) (runs_down (emit_says conn_carrier syn_said) c.conn syn_said fx [] effects.no_make effects.ups effects.closes ∙ append-nil (few_of obj_nature c.conn syn_said fx.downs))) k) in
      let same : b ≡ q.conn = same_Some b q.conn (sym found ∙ conn) in
      go one.now_at (subst (λ z. Speaks rec [] (talking z c.now [] None) one.now_at []) same (speaks_none rec one.regains)) (subst (λ z. OwesTo z one.now_at) no_loads one.owes)
      (subst (λ z. Walk c n (view true true true true) gs unit_waits (logging_in q [] []) one.now_at z [] None ds) (effects.downs ∙ ap (λ z. downs_for rec (starting_acts (link_of z))) same) (conn_settles (left_by one.walk)))

-- THE SESSION IS ASKED FOR

both_same : {A : Type 0} {x y : A} {xs ys : List A} → x ∷ xs ≡ y ∷ ys → (x ≡ y) × (xs ≡ ys)
both_same e = (cc, cc)

module _ (c : DriveCall) (n : ℕ) (ds : List (Deed Obj Load)) (q : DriveAskParts) (rec : ℕ) (bytes : List ℕ) (found : drive_ask_in bytes ≡ Some q) (conn : conn_ask_in (take 16 bytes) ≡ Some q.conn) where
  abbrev msg : Said
  msg = begin_said rec 0 bytes

  session_by : (ls : List Load) (done : Bool) (fx : Fx Obj Load) (r : SessionTalk) → SessionTalks text_carrier session_unasked (down msg c.now done fx) r
      → Walk c n (view true true true true) (runs_of obj_nature c.session msg done fx ++ left_above c ls) unit_waits r unopened [] [] None ds → BeginDid c n ds q rec
  session_by ls false fx r did k = begin_fails (ran_out (session_fails (left_above c ls) msg fx k))
  session_by ls true fx _ (session_ends _ _ cut hands) k = absurd (let z = cut in cc)
  session_by ls true fx _ (session_rests _ _ quiet idle) k = absurd (false≢true (sym (ap (λ z. not (is_some z)) found) ∙ quiet))
  session_by ls true fx _ (login_refused a name _ _ _ tag was zero effects) k =
      let x = refusal_cause (ZeroByte name) in
      let same : a ≡ q = same_Some a q (sym was ∙ found) in
      let w = session_shuts refl (as_stages (Closes (port_at c.session 0) x ∷ Closes (port_at c.session 1) x ∷ left_above c ls) (runs_closing c.session fx (left_above c ls) effects refl refl) k) in
      let y = unopened_shut c n ds (left_above c ls) w in
      begin_refused name unit_cut _ y.0 (view false false false false) (ap (λ (z : DriveAskParts). zero_name z.info) (sym same) ∙ zero) (leaves_above ls y.1)
  session_by ls true fx _ (login_begins a _ _ _ tag was zero effects) k =
      let same : a ≡ q = same_Some a q (sym was ∙ found) in
      by (ap (λ (z : DriveAskParts). zero_name z.info) (sym same) ∙ zero) (emits_of fx.downs) (effects.downs ∙ ap (λ (z : DriveAskParts). conn_says msg (login_said z.info [])) same) effects.below
      (subst (λ z. Walk c n (view true true true true) (emits_stages c.session msg (emits_of fx.downs) ++ (emits_stages c.session msg (emits_of fx.ups) ++ left_above c ls)) unit_waits (logging_in z [] []) unopened [] [] None ds) same
      (as_stages (emits_stages c.session msg (emits_of fx.downs) ++ (emits_stages c.session msg (emits_of fx.ups) ++ left_above c ls)) (runs_all c.session msg fx [] (left_above c ls) effects.no_make effects.closes) k))
    where
      by : zero_name q.info ≡ None → (es : List (Emit Load)) → map (drive_says text_carrier msg) es ≡ conn_says msg (login_said q.info []) → AllByRecursion GoesBelow es
          → Walk c n (view true true true true) (emits_stages c.session msg es ++ (emits_stages c.session msg (emits_of fx.ups) ++ left_above c ls)) unit_waits (logging_in q [] []) unopened [] [] None ds → BeginDid c n ds q rec
      by none [] says slots w = absurd (let z = says in cc)
      by none (e ∷ []) says slots w = absurd (let z = says in cc)
      by none (e ∷ (f ∷ es)) says slots w =
          let first : drive_says text_carrier msg e ≡ record { tag = stream_tag_number stream.Begin; rec = rec; a = 0; b = 0; bytes = take 16 bytes } = let z = says in cc in
          let second : drive_says text_carrier msg f ≡ sent rec (login_said q.info []) = let z = says in cc in
          let rest : map (drive_says text_carrier msg) es ≡ [] = let z = says in cc in
          let hs : List (Stage Obj Load) = emits_stages c.session msg (emits_of fx.ups) ++ left_above c ls in
          let gs : List (Stage Obj Load) = returns_of c.session (in_list e.load) ++ (emits_stages c.session msg (f ∷ es) ++ hs) in
          let y = send_down_lower (as_stages (Sends (port_at c.session 1) (record { tag = stream_tag_number stream.Begin; rec = rec; a = 0; b = 0; bytes = take 16 bytes }) ∷ gs) (one_sent c.session 1 msg e (f ∷ es) (record { tag = stream_tag_number stream.Begin; rec = rec; a = 0; b = 0; bytes = take 16 bytes }) hs slots.0 first) w) in
          syn_by c n ds q rec bytes conn none y.0 y.1 y.2 gs y.3 y.4
          (λ p s o k2. text_then c n ds q rec bytes conn none (in_list e.load) f es msg (emits_of fx.ups) p (left_above c ls) slots.1.0 second rest effects.ups s o k2 (λ d told k3. leaves_above ls k3))

module _ (c : DriveCall) (n : ℕ) (ds : List (Deed Obj Load)) (q : DriveAskParts) (rec : ℕ) (bytes : List ℕ) (found : drive_ask_in bytes ≡ Some q) (conn : conn_ask_in (take 16 bytes) ≡ Some q.conn) where
  unit_by : (done : Bool) (fx : Fx Obj Load) (u : UnitTalk) → UnitTalks text_carrier unit_unasked (down (begin_said rec 0 bytes) c.now done fx) u
      → Walk c n (view true true true true) (runs_of obj_nature c.unit (begin_said rec 0 bytes) done fx ++ Holds (port_at c.unit 0) way.Down None ∷ []) u session_unasked unopened [] [] None ds → BeginDid c n ds q rec
  unit_by false fx u did k = begin_fails (ran_out (unit_fails (Holds (port_at c.unit 0) way.Down None ∷ []) (begin_said rec 0 bytes) fx k))
  unit_by true fx _ (unit_ends _ _ cut hands) k = absurd (let z = cut in cc)
  unit_by true fx _ (unit_rests _ _ quiet idle) k = absurd (let z = quiet in cc)
  unit_by true fx _ (unit_begins _ _ _ tag effects) k =
      let gs : List (Stage Obj Load) = Holds (port_at c.unit 0) way.Down None ∷ [] in
      by (emits_of fx.downs) effects.downs effects.below
      (as_stages (emits_stages c.unit (begin_said rec 0 bytes) (emits_of fx.downs) ++ gs)
      (runs_all c.unit (begin_said rec 0 bytes) fx [] gs effects.no_make effects.closes ∙ ap (λ (z : List (Emit Load)). emits_stages c.unit (begin_said rec 0 bytes) (emits_of fx.downs) ++ (emits_stages c.unit (begin_said rec 0 bytes) z ++ gs)) (none_sent (begin_said rec 0 bytes) (emits_of fx.ups) effects.ups)) k)
    where
      by : (es : List (Emit Load)) → map (drive_says text_carrier (begin_said rec 0 bytes)) es ≡ asks_session (begin_said rec 0 bytes) → AllByRecursion GoesBelow es
          → Walk c n (view true true true true) (emits_stages c.unit (begin_said rec 0 bytes) es ++ Holds (port_at c.unit 0) way.Down None ∷ []) unit_waits session_unasked unopened [] [] None ds → BeginDid c n ds q rec
      by [] says slots w = absurd (let z = says in cc)
      by (e ∷ es) says slots w =
          let m : Said = begin_said rec 0 bytes in
          let first : drive_says text_carrier m e ≡ m = (both_same says).0 in
          let rest : map (drive_says text_carrier m) es ≡ [] = (both_same says).1 in
          let gs : List (Stage Obj Load) = Holds (port_at c.unit 0) way.Down None ∷ [] in
          let v = as_stages (Sends (port_at c.unit 1) m ∷ (returns_of c.unit (in_list e.load) ++ gs))
          (one_sent c.unit 1 m e es m gs slots.0 first ∙ ap (λ (z : List (Emit Load)). Sends (port_at c.unit 1) m ∷ (returns_of c.unit (in_list e.load) ++ (emits_stages c.unit m z ++ gs))) (none_sent m es rest)) w in
          let f = some_more v in
          let y = send_down_upper f.0 f.1 v in
          begin_less f.1 (session_by c f.0 ds q rec bytes found conn (in_list e.load) y.0 y.1 y.2 y.3 y.4)

  pub begin_walk : Walk c n (view true true true true) (Offers (port_at c.unit 0) (begin_said rec 0 bytes) ∷ []) unit_unasked session_unasked unopened [] [] None ds → BeginDid c n ds q rec
  begin_walk k = let w = offer_unit k in unit_by w.0 w.1 w.2 w.3 w.4
