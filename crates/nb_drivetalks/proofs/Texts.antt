-- A text goes down: from the unit over the session, or from the session, to the connection, which sends it or keeps it.
use Rattle.std.proofs.Common.{◌≡◌, ℕ, suc, ◌&&◌, Bool, true, false, not, List, [], ◌∷◌, ◌++◌, map, Option, Some, None, refl, sym, ap, ◌∙◌, subst, append_assoc, append-nil, arith}
use Rattle.std.specs.List.{AllByRecursion}
use Rattle.std.proofs.lemmas.Bool.{eq-eqb, false≢true}
use Rattle.std.proofs.lemmas.List.Concat.{flat_map-append}
use Rattle.nb_terms.specs.declared.acts.Acts.{Acts}
use Rattle.nb_terms.specs.declared.cause.Cause.{Cause}
use Rattle.nb_ledger.specs.declared.event.Way.TheVariants as way
use Rattle.nb_effects.specs.declared.effects.Emit.{Emit}
use Rattle.nb_effects.specs.declared.effects.Fx.{Fx}
use Rattle.nb_graph.specs.Whole.{port_at}
use Rattle.nb_graph.specs.Trace.{Said, carries, down, in_list, lent, loads}
use Rattle.nb_graph.specs.Deeds.{Deed, Stage, Holds, Closes, Sends, closes_of, emit_of, few_of, returns_of, runs_of, said_of}
use Rattle.nb_streams.specs.Flows.{TcpCall, text_came}
use Rattle.nb_tcp.specs.ConnHistory.{ConnEntry, calls_in, conn_entry}
use Rattle.nb_conns.specs.declared.conn_ask.ConnAsk.{ConnAsk}
use Rattle.nb_conns.specs.declared.conn_load.Lent.{Lent}
use Rattle.nb_conns.specs.declared.stream_tag.StreamTag.TheVariants as stream
use Rattle.nb_conns.specs.StreamTags.{stream_tag_number}
use Rattle.nb_conns.specs.ConnEffects.{ConnEffects, GoesBelow, closes_for, downs_for, emit_says, emits_of, few_say}
use Rattle.nb_conns.specs.ConnLoads.{windows_in, window_of_conn}
use Rattle.nb_conns.specs.Dialogues.{Converses, Dialogue, asks_below, talked_on, unopened, talking, closed_off, given_up, ends_short, is_asked, is_talking, rests_still, takes_text}
use Rattle.nb_login.specs.LoginHistory.{LoginEntry}
use Rattle.nb_drivenodes.specs.DriveAsks.{DriveAskParts}
use Rattle.nb_drivenodes.specs.DriveEffects.{DriveEffects, drive_says, sends_says, text_nature}
use Rattle.nb_drivenodes.specs.SessionTalks.{SessionTalk, SessionTalks, in_session, session_ends, session_rests, session_sends}
use Rattle.nb_drivenodes.specs.UnitTalks.{UnitTalk}
use Rattle.nb_nodes.specs.declared.load.Load.{Load}
use Rattle.nb_nodes.specs.declared.obj.Obj.{Obj}
use Rattle.nb_nodes.specs.Carriers.{conn_carrier, text_carrier}
use Rattle.nb_nodes.specs.Objects.{obj_nature}
use Rattle.nb_webtalks.proofs.Lowers.{IsBegun, OwesTo, Regains, had, owes_nothing, runs_down}
use Rattle.nb_webtalks.proofs.Middle.{emits_stages, few_stages}
use Rattle.nb_webtalks.proofs.Uppers.{runs_silent}
use Rattle.nb_drivetalks.proofs.Lowers.{few_below}
use Rattle.nb_drivetalks.proofs.Returning.{as_stages, conn_fails, session_all_returns, session_fails}
use Rattle.nb_drivetalks.proofs.Steps.{close_lower_up, conn_settles, left_by, send_down_lower, send_down_upper, session_settles, some_more, weaker}
use Rattle.nb_drivetalks.proofs.Talks.{Failed, Speaks, grew_all, ran_out, silent_told, text_broke}
use Rattle.nb_drivetalks.proofs.Walking.{DriveCall, Walk, view}

-- THE MESSAGES OF A DRIVE'S OBJECTS

carries_same : (bytes : List ℕ) (from to : ℕ) (o : Option Load) → carries obj_nature bytes from to o ≡ carries (text_nature text_carrier) bytes from to o
carries_same bytes from to None = refl
carries_same bytes from to (Some l) = refl

pub drive_same : (m : Said) (e : Emit Load) → said_of obj_nature m e ≡ drive_says text_carrier m e
drive_same m e = ap (λ z. record { tag = e.tag; rec = m.rec; a = e.a; b = e.b; bytes = z }) (carries_same m.bytes e.from e.to e.load)

pub none_sent : (m : Said) (es : List (Emit Load)) → map (drive_says text_carrier m) es ≡ [] → es ≡ []
none_sent m [] h = refl
none_sent m (e ∷ es) h = absurd (let z = h in cc)

-- one of them, by its slot
pub one_sent : (x slot : ℕ) (m : Said) (e : Emit Load) (es : List (Emit Load)) (told : Said) (gs : List (Stage Obj Load)) → e.slot ≡ slot → drive_says text_carrier m e ≡ told
    → emits_stages x m (e ∷ es) ++ gs ≡ Sends (port_at x slot) told ∷ (returns_of x (in_list e.load) ++ (emits_stages x m es ++ gs))
one_sent x slot m e es told gs at is =
    let hs : List (Stage Obj Load) = returns_of x (in_list e.load) ++ (emits_stages x m es ++ gs) in
    append_assoc (emit_of obj_nature x m (Some e)) (emits_stages x m es) gs ∙ ap (λ s. Sends (port_at x s) (said_of obj_nature m e) ∷ hs) at ∙ ap (λ z. Sends (port_at x slot) z ∷ hs) (drive_same m e ∙ is)

-- an entry's downs, ups and closes
pub runs_all : (x : ℕ) (m : Said) (fx : Fx Obj Load) (xs : List (ℕ × Cause)) (gs : List (Stage Obj Load)) → fx.makes ≡ None → fx.closes.items ≡ xs
    → runs_of obj_nature x m true fx ++ gs ≡ emits_stages x m (emits_of fx.downs) ++ (emits_stages x m (emits_of fx.ups) ++ (closes_of x xs ++ gs))
runs_all x m fx xs gs none closes =
    let downs = emits_stages x m (emits_of fx.downs) in
    let ups = emits_stages x m (emits_of fx.ups) in
    let all : runs_of obj_nature x m true fx ≡ downs ++ (ups ++ closes_of x xs) = rw (none, few_stages x m fx.downs, few_stages x m fx.ups, closes) refl in
    ap (λ z. z ++ gs) all ∙ append_assoc downs (ups ++ closes_of x xs) gs ∙ ap (λ z. downs ++ z) (append_assoc ups (closes_of x xs) gs)

-- one that sends nothing down or up
pub runs_closing : {m : Said} {asked given : List Said} {xs : List (ℕ × Cause)} (x : ℕ) (fx : Fx Obj Load) (gs : List (Stage Obj Load)) → DriveEffects text_carrier m asked given xs fx → asked ≡ [] → given ≡ []
    → runs_of obj_nature x m true fx ++ gs ≡ closes_of x xs ++ gs
runs_closing {m = m} {xs = xs} x fx gs effects no_down no_up =
    runs_all x m fx xs gs effects.no_make effects.closes
    ∙ ap (λ (z : List (Emit Load)). emits_stages x m z ++ (emits_stages x m (emits_of fx.ups) ++ (closes_of x xs ++ gs))) (none_sent m (emits_of fx.downs) (effects.downs ∙ no_down))
    ∙ ap (λ (z : List (Emit Load)). emits_stages x m z ++ (closes_of x xs ++ gs)) (none_sent m (emits_of fx.ups) (effects.ups ∙ no_up))

-- WHAT COMES OF A TEXT

-- it failed, or the connection was given these texts, of which these messages went down
pub data Spoke (c : DriveCall) (n : ℕ) (gs : List (Stage Obj Load)) (a : UnitTalk) (r : SessionTalk) (d : Dialogue) (ms us : List Said) (ds : List (Deed Obj Load)) (others : List Load) (rec : ℕ) (texts : List TcpCall) : Type 0 where
  spoke_not : Failed c ds → Spoke c n gs a r d ms us ds others rec texts
  spoke : (q : Dialogue) (told : List Said) → Speaks rec texts d q told → OwesTo others q → Walk c n (view true true true true) gs a r q (ms ++ told) us None ds → Spoke c n gs a r d ms us ds others rec texts

windows_both : (xs ys : List Load) → windows_in conn_carrier (xs ++ ys) ≡ windows_in conn_carrier xs ++ windows_in conn_carrier ys
windows_both xs ys = flat_map-append (λ (l : Load). window_of_conn (conn_carrier.as_conn l)) xs ys

first_none : {A : Type 0} (xs ys : List A) → xs ++ ys ≡ [] → xs ≡ []
first_none [] ys e = refl
first_none (x ∷ xs) ys e = absurd (let z = e in cc)

-- a text that is sent lends nothing
owes_still : (fx : Fx Obj Load) (others : List Load) (d : Dialogue) → windows_in conn_carrier (lent fx) ≡ [] → OwesTo others d → OwesTo (loads fx.downs ++ others) d
owes_still fx others d none owes = λ on.
    let mine : windows_in conn_carrier (loads fx.downs) ≡ [] = first_none _ (windows_in conn_carrier (loads fx.ups)) (sym (windows_both (loads fx.downs) (loads fx.ups)) ∙ none) in
    windows_both (loads fx.downs) others ∙ ap (λ z. z ++ windows_in conn_carrier others) mine ∙ owes on

-- the connection, after an entry by a text
text_speaks : (rec : ℕ) (b : ConnAsk) (start : ℕ) (calls : List ConnEntry) (out : Option Lent) (text : List ℕ) (now : ℕ) (acts : Acts) (q : Dialogue) (r : Regains (talking b start (calls ++ conn_entry (calls_in (text_came text now)) acts ∷ []) out) q)
    → Speaks rec (text_came text now ∷ []) (talking b start calls out) q (downs_for rec acts)
text_speaks rec b start calls out text now acts q r =
    let e : ConnEntry = conn_entry (calls_in (text_came text now)) acts in
    record {
      asked = r.asked;
      talks = r.talks;
      begun = λ x. r.begun tt;
      more = e ∷ r.more;
      grows = r.grows ∙ append_assoc calls (e ∷ []) r.more;
      calls = λ on. ap (λ z. text_came text now ∷ z) r.silent;
      silent = λ off. absurd (false≢true (sym off));
      holds = r.holds;
      says = sym (append-nil (downs_for rec acts)) ∙ ap (λ z. downs_for rec acts ++ z) (sym (silent_told rec r.more r.silent));
    }

-- one that has ended takes none
text_unheard : (rec : ℕ) (d : Dialogue) (text : TcpCall) → is_talking d ≡ false → Speaks rec (text ∷ []) d d []
text_unheard rec d text off = record {
  asked = refl;
  talks = refl;
  begun = λ x. x;
  more = [];
  grows = sym (append-nil (had d));
  calls = λ on. absurd (false≢true (sym off ∙ on));
  silent = λ _. refl;
  holds = refl;
  says = refl;
}

not_asked : (d : Dialogue) (m : Said) → IsBegun d → m.tag ≡ stream_tag_number stream.Send → (true && not (asks_below d m)) ≡ true → is_talking d ≡ false
not_asked unopened m b tag quiet = absurd b
not_asked (talking a start calls out) m b tag quiet = absurd (false≢true (sym (ap not (eq-eqb m.tag 7 tag)) ∙ quiet))
not_asked (closed_off a start calls) m b tag quiet = refl
not_asked given_up m b tag quiet = refl

-- the message that sends a text
abbrev pub sent : ℕ → List ℕ → Said
sent rec text = record { tag = stream_tag_number stream.Send; rec = rec; a = 0; b = 0; bytes = text }

-- an entry from above is left
abbrev below : ℕ → List (Stage Obj Load) → List (Stage Obj Load)
below x gs = Holds (port_at x 0) way.Down None ∷ gs

module _ {c : DriveCall} {n : ℕ} {gs : List (Stage Obj Load)} {a : UnitTalk} {r : SessionTalk} {ms us : List Said} {ds : List (Deed Obj Load)} (others : List Load) (m : Said) (tag : m.tag ≡ stream_tag_number stream.Send) where
  -- it is sent or kept, or it ends the connection
  text_sent : (b : ConnAsk) (start : ℕ) (calls : List ConnEntry) (out : Option Lent) (fx : Fx Obj Load) (acts : Acts) (over : Option Cause) → acts.over ≡ over → ConnEffects conn_carrier m acts [] (closes_for over) [] fx
      → OwesTo others (talking b start calls out)
      → Walk c n (view true true true true) (runs_of obj_nature c.conn m true fx ++ (below c.conn gs)) a r (talked_on b start (calls ++ conn_entry (calls_in (text_came m.bytes c.now)) acts ∷ []) out over) ms us None ds
      → Spoke c n gs a r (talking b start calls out) ms us ds others m.rec (text_came m.bytes c.now ∷ [])
  text_sent b start calls out fx acts None ends effects owes k =
      let e : ConnEntry = conn_entry (calls_in (text_came m.bytes c.now)) acts in
      let stages : runs_of obj_nature c.conn m true fx ++ (below c.conn gs) ≡ few_of obj_nature c.conn m fx.downs ++ (below c.conn gs) =
      ap (λ z. z ++ (below c.conn gs)) (runs_down (emit_says conn_carrier m) c.conn m fx [] effects.no_make effects.ups effects.closes ∙ append-nil (few_of obj_nature c.conn m fx.downs)) in
      let one = few_below m others fx.downs effects.below (owes_still fx others (talking b start (calls ++ e ∷ []) out) effects.windows owes) (as_stages (few_of obj_nature c.conn m fx.downs ++ (below c.conn gs)) stages k) in
      spoke one.now_at (few_say conn_carrier m fx.downs)
      (subst (Speaks m.rec (text_came m.bytes c.now ∷ []) (talking b start calls out) one.now_at) (sym effects.downs) (text_speaks m.rec b start calls out m.bytes c.now acts one.now_at one.regains))
      one.owes (conn_settles (left_by one.walk))
  text_sent b start calls out fx acts (Some y) ends effects owes k =
      let e : ConnEntry = conn_entry (calls_in (text_came m.bytes c.now)) acts in
      let q : Dialogue = closed_off b start (calls ++ e ∷ []) in
      let closing : List (Stage Obj Load) = Closes (port_at c.conn 0) y ∷ Closes (port_at c.conn 1) y ∷ (below c.conn gs) in
      let stages : runs_of obj_nature c.conn m true fx ++ (below c.conn gs) ≡ few_of obj_nature c.conn m fx.downs ++ closing =
      ap (λ z. z ++ (below c.conn gs)) (runs_down (emit_says conn_carrier m) c.conn m fx (closes_for (Some y)) effects.no_make effects.ups effects.closes) ∙ append_assoc (few_of obj_nature c.conn m fx.downs) (closes_of c.conn (closes_for (Some y))) (below c.conn gs) in
      let one = few_below m [] fx.downs effects.below (owes_nothing (loads fx.downs ++ []) q refl) (as_stages (few_of obj_nature c.conn m fx.downs ++ closing) stages k) in
      let s = some_more one.walk in
      let shut = close_lower_up s.0 s.1 one.walk in
      let grew = grew_all one.now_at c.conn_end _ (one.regains.begun tt) one.walk.told.tail.talks in
      spoke_not (text_broke b start calls (one.regains.more ++ grew.rest) m.bytes acts y (grew.asked ∙ one.regains.asked)
      (grew.grows ∙ ap (λ z. z ++ grew.rest) one.regains.grows ∙ append_assoc (calls ++ e ∷ []) one.regains.more grew.rest ∙ append_assoc calls (e ∷ []) (one.regains.more ++ grew.rest)) ends shut.3.told.closes)

  text_by : (done : Bool) (fx : Fx Obj Load) (d q : Dialogue) → IsBegun d → OwesTo others d → Converses conn_carrier d (down m c.now done fx) q
      → Walk c n (view true true true true) (runs_of obj_nature c.conn m done fx ++ (below c.conn gs)) a r q ms us None ds → Spoke c n gs a r d ms us ds others m.rec (text_came m.bytes c.now ∷ [])
  text_by false fx d q b owes did k = spoke_not (ran_out (conn_fails (below c.conn gs) m fx k))
  text_by true fx _ _ b owes (is_asked a0 _ now _ begins asks effects) k = absurd b
  text_by true fx _ _ b owes (takes_text a0 start calls out _ now _ acts sends effects) k = text_sent a0 start calls out fx acts acts.over refl effects owes k
  text_by true fx _ _ b owes (ends_short d _ cut hands) k = absurd (let z = cut in cc)
  text_by true fx _ _ b owes (rests_still d _ quiet idle) k =
      spoke d [] (text_unheard m.rec d (text_came m.bytes c.now) (not_asked d m b tag quiet)) owes
      (subst (λ z. Walk c n (view true true true true) gs a r d z us None ds) (sym (append-nil ms))
      (conn_settles (left_by (as_stages (below c.conn gs) (ap (λ (z : List (Stage Obj Load)). z ++ (below c.conn gs)) (runs_silent c.conn m fx [] idle.0 idle.1)) k))))

  -- from the session
  pub conn_hears : {d : Dialogue} → IsBegun d → OwesTo others d → Walk c n (view true true true true) (Sends (port_at c.session 1) m ∷ gs) a r d ms us None ds → Spoke c n gs a r d ms us ds others m.rec (text_came m.bytes c.now ∷ [])
  conn_hears {d = d} b owes k = let y = send_down_lower k in text_by y.0 y.1 d y.2 b owes y.3 y.4

module _ {c : DriveCall} {n : ℕ} (gs : List (Stage Obj Load)) {a : UnitTalk} {d : Dialogue} {ms us : List Said} {ds : List (Deed Obj Load)} (others : List Load) (rec : ℕ) (text : List ℕ) where
  -- an entry of the session that sends this text alone
  pub session_speaks : {m : Said} {r : SessionTalk} (fx : Fx Obj Load) (given : List Said) (xs : List (ℕ × Cause)) → m.rec ≡ rec → DriveEffects text_carrier m (sends_says m.rec (Some text)) given xs fx → IsBegun d → OwesTo others d
      → Walk c n (view true true true true) (runs_of obj_nature c.session m true fx ++ gs) a r d ms us None ds
      → Spoke c n (emits_stages c.session m (emits_of fx.ups) ++ (closes_of c.session xs ++ gs)) a r d ms us ds others rec (text_came text c.now ∷ [])
  session_speaks {m = m} {r = r} fx given xs same effects b owes k = by (emits_of fx.downs) effects.downs effects.below (as_stages (emits_stages c.session m (emits_of fx.downs) ++ hs) (runs_all c.session m fx xs gs effects.no_make effects.closes) k)
    where
      hs : List (Stage Obj Load)
      hs = emits_stages c.session m (emits_of fx.ups) ++ (closes_of c.session xs ++ gs)

      after : (ls : List Load) → Spoke c n (returns_of c.session ls ++ hs) a r d ms us ds others rec (text_came text c.now ∷ []) → Spoke c n hs a r d ms us ds others rec (text_came text c.now ∷ [])
      after ls (spoke_not f) = spoke_not f
      after ls (spoke q told s o w) = spoke q told s o (session_all_returns ls w)

      by : (es : List (Emit Load)) → map (drive_says text_carrier m) es ≡ sends_says m.rec (Some text) → AllByRecursion GoesBelow es → Walk c n (view true true true true) (emits_stages c.session m es ++ hs) a r d ms us None ds
          → Spoke c n hs a r d ms us ds others rec (text_came text c.now ∷ [])
      by [] says slots w = absurd (let z = says in cc)
      by (e ∷ es) says slots w =
          let one : drive_says text_carrier m e ≡ (sent rec text) = (let z = says in cc) ∙ ap (λ z. record { tag = stream_tag_number stream.Send; rec = z; a = 0; b = 0; bytes = text }) same in
          let rest : map (drive_says text_carrier m) es ≡ [] = let z = says in cc in
          let none = none_sent m es rest in
          after (in_list e.load) (conn_hears others (sent rec text) refl b owes (as_stages (Sends (port_at c.session 1) (sent rec text) ∷ (returns_of c.session (in_list e.load) ++ hs))
          (one_sent c.session 1 m e es (sent rec text) hs slots.0 one ∙ ap (λ (z : List (Emit Load)). Sends (port_at c.session 1) (sent rec text) ∷ (returns_of c.session (in_list e.load) ++ (emits_stages c.session m z ++ hs))) none) w))

module _ {c : DriveCall} {n : ℕ} {gs : List (Stage Obj Load)} {a : UnitTalk} {d : Dialogue} {ms us : List Said} {ds : List (Deed Obj Load)} (others : List Load) (rec : ℕ)
    (text : List ℕ) {q : DriveAskParts} {taken : List ℕ} {h : List LoginEntry} where
  passed_by : (done : Bool) (fx : Fx Obj Load) (r : SessionTalk) → IsBegun d → OwesTo others d → SessionTalks text_carrier (in_session q taken h) (down (sent rec text) c.now done fx) r
      → Walk c n (view true true true true) (runs_of obj_nature c.session (sent rec text) done fx ++ (below c.session gs)) a r d ms us None ds → Spoke c n gs a (in_session q taken h) d ms us ds others rec (text_came text c.now ∷ [])
  passed_by false fx r b owes did k = spoke_not (ran_out (session_fails (below c.session gs) (sent rec text) fx k))
  passed_by true fx _ b owes (session_sends _ _ _ _ _ _ tag effects) k = after (session_speaks (below c.session gs) others rec text fx [] [] refl effects b owes k)
    where
      after : Spoke c n (emits_stages c.session (sent rec text) (emits_of fx.ups) ++ (below c.session gs)) a (in_session q taken h) d ms us ds others rec (text_came text c.now ∷ [])
          → Spoke c n gs a (in_session q taken h) d ms us ds others rec (text_came text c.now ∷ [])
      after (spoke_not f) = spoke_not f
      after (spoke p told s o w) = spoke p told s o (session_settles (left_by (as_stages (below c.session gs) (ap (λ (z : List (Emit Load)). emits_stages c.session (sent rec text) z ++ (below c.session gs)) (none_sent (sent rec text) (emits_of fx.ups) effects.ups)) w)))
  passed_by true fx _ b owes (session_ends _ _ cut hands) k = absurd (let z = cut in cc)
  passed_by true fx _ b owes (session_rests _ _ quiet asks) k = absurd (let z = quiet in cc)

module _ {c : DriveCall} {n : ℕ} {gs : List (Stage Obj Load)} {a : UnitTalk} {d : Dialogue} {ms us : List Said} {ds : List (Deed Obj Load)} (others : List Load) (rec : ℕ)
    (text : List ℕ) {q : DriveAskParts} {taken : List ℕ} {h : List LoginEntry} where
  -- a text of the unit, over an open session
  pub session_hears : IsBegun d → OwesTo others d → Walk c n (view true true true true) (Sends (port_at c.unit 1) (sent rec text) ∷ gs) a (in_session q taken h) d ms us None ds
      → Spoke c n gs a (in_session q taken h) d ms us ds others rec (text_came text c.now ∷ [])
  session_hears b owes k = let s = some_more k in let y = send_down_upper s.0 s.1 k in less s.0 s.1 (passed_by others rec text y.0 y.1 y.2 b owes y.3 y.4)
    where
      less : (m : ℕ) → n ≡ suc m → Spoke c m gs a (in_session q taken h) d ms us ds others rec (text_came text c.now ∷ []) → Spoke c n gs a (in_session q taken h) d ms us ds others rec (text_came text c.now ∷ [])
      less m size (spoke_not f) = spoke_not f
      less m size (spoke p told s o w) = spoke p told s o (weaker (omega (arith, size)) w)
