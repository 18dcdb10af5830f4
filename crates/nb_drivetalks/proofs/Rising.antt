-- What the connection sends up in a call on a drive, and what comes of it.
use Rattle.std.proofs.Common.{◌≡◌, ℕ, Bool, true, false, List, [], ◌∷◌, ◌++◌, length, map, Option, Some, None, refl, sym, ap, ◌∙◌, subst, append_assoc, append-nil}
use Rattle.std.specs.List.{AllByRecursion}
use Rattle.nb_terms.specs.declared.acts.Acts.{Acts}
use Rattle.nb_terms.specs.declared.cause.Cause.{Cause}
use Rattle.nb_ledger.specs.declared.event.Way.{Way}
use Rattle.nb_effects.specs.declared.effects.Emit.{Emit}
use Rattle.nb_effects.specs.declared.effects.Fx.{Fx}
use Rattle.nb_graph.specs.Whole.{port_at}
use Rattle.nb_graph.specs.Trace.{Said, in_list, loads}
use Rattle.nb_graph.specs.Deeds.{Deed, Stage, Holds, Sends, Settles, closes_of, emit_of, few_of, returns_of, runs_of, said_of, settles_by}
use Rattle.nb_iscsipdu.specs.Streams.{cut, is_refused}
use Rattle.std.proofs.lemmas.List.Concat.{flat_map-append}
use Rattle.nb_tcp.specs.ConnHistory.{ConnEntry, closes_from_above, conn_entry, tcp_calls, tcp_calls_of}
use Rattle.nb_conns.specs.declared.conn_ask.ConnAsk.{ConnAsk}
use Rattle.nb_conns.specs.declared.conn_load.Lent.{Lent}
use Rattle.nb_conns.specs.ConnEffects.{ConnEffects, GoesAbove, closes_for, downs_for, emit_says, emits_of, received_says}
use Rattle.nb_conns.specs.ConnLoads.{windows_in}
use Rattle.nb_conns.specs.Dialogues.{Dialogue, closed_off, is_talking, talked_on}
use Rattle.nb_disk.specs.DiskAnswers.{broken}
use Rattle.nb_drivenodes.specs.DriveAsks.{DriveAskParts}
use Rattle.nb_drivenodes.specs.SessionTalks.{SessionTalk, session_cut}
use Rattle.nb_drivenodes.specs.UnitTalks.{UnitTalk, unit_cut}
use Rattle.nb_nodes.specs.declared.load.Load.{Load}
use Rattle.nb_nodes.specs.declared.obj.Obj.{Obj}
use Rattle.nb_nodes.specs.Carriers.{conn_carrier}
use Rattle.nb_nodes.specs.Objects.{obj_nature}
use Rattle.nb_sans.specs.Sessions.{ReadTask, session_end}
use Rattle.nb_sans.specs.SessionSteps.{AreAskedBy}
use Rattle.nb_talks.specs.Talking.{text_calls}
use Rattle.nb_webtalks.proofs.Lowers.{IsBegun, OwesTo, Regains, had, owes_nothing, regains_both, regains_none, said_same}
use Rattle.nb_webtalks.proofs.Middle.{emits_stages, few_stages}
use Rattle.nb_webtalks.proofs.Rising.{ClosingOf, few_loads, loads_in, none_up, told_a_close, told_none}
use Rattle.nb_webtalks.proofs.Upward.{says_up, sent_bytes}
use Rattle.nb_drivetalks.proofs.Cames.{Came, Reads, came_failed, came_off, came_on, texts_in}
use Rattle.nb_drivetalks.proofs.Endings.{conn_ends}
use Rattle.nb_drivetalks.proofs.Ends.{still_ends}
use Rattle.nb_drivetalks.proofs.Handing.{HandsOn}
use Rattle.nb_drivetalks.proofs.Lowers.{conn_all_returns, few_below}
use Rattle.nb_drivetalks.proofs.Reading.{EndCame, end_failed, end_off, reads_end, session_end_message, session_message, session_reads_on, unit_reads_on}
use Rattle.nb_drivetalks.proofs.Returning.{as_stages}
use Rattle.nb_drivetalks.proofs.Steps.{close_network, conn_settles, drop_conn_top, left_by, send_to_session, shut_conn_top, shut_network}
use Rattle.nb_drivetalks.proofs.Talks.{Failed, Speaks, speaks_as, speaks_both, speaks_none}
use Rattle.nb_drivetalks.proofs.Walking.{DriveCall, Walk, view}

closed_off_then : {d q : Dialogue} {net : Bool} {ms told : List Said} → ClosingOf d q net ms told → is_talking q ≡ false
closed_off_then (told_a_close acts before behind talks asked grows none nothing off net told) = off
closed_off_then (told_none off r net told) = r.talks ∙ off

-- something came back afterwards
closing_before : {d p q : Dialogue} {net : Bool} {ms told : List Said} → ClosingOf d p net ms told → Regains p q → ClosingOf d q net ms told
closing_before {d = d} (told_a_close acts before behind talks asked grows none nothing off net told) r =
    told_a_close acts before (behind ++ r.more) talks (r.asked ∙ asked)
    (r.grows ∙ ap (λ z. z ++ r.more) grows ∙ append_assoc (had d ++ before) (conn_entry closes_from_above acts ∷ behind) r.more)
    none (flat_map-append (λ (e : ConnEntry). tcp_calls_of e.call) behind r.more ∙ ap (λ z. z ++ tcp_calls r.more) nothing ∙ r.silent) (r.talks ∙ off) net told
closing_before (told_none off s net told) r = told_none off (regains_both s r) net told

-- What came of what was handed up: it failed; it goes on with these bytes more; or the drive has ended.
pub data Upped (c : DriveCall) (n : ℕ) (gs : List (Stage Obj Load)) (a : DriveAskParts) (rec : ℕ) (tasks : List (ReadTask × ℕ)) (come bytes : List ℕ) (ended : Bool) (d : Dialogue) (ms us : List Said) (ds : List (Deed Obj Load))
    (others : List Load) : Type 0 where
  up_failed : Failed c ds → Upped c n gs a rec tasks come bytes ended d ms us ds others
  up_on : (u : UnitTalk) (r : SessionTalk) (p : Dialogue) (told more : List Said) → ended ≡ false → Reads a tasks (come ++ bytes) u r → is_refused (cut (come ++ bytes)).rest ≡ false
      → Speaks rec (text_calls (texts_in a tasks come bytes) c.now) d p told → HandsOn rec a.info tasks come (come ++ bytes) us more → OwesTo others p
      → Walk c n (view true true true true) gs u r p (ms ++ told) more None ds → Upped c n gs a rec tasks come bytes ended d ms us ds others
  up_off : (x : Cause) (u : UnitTalk) (r : SessionTalk) (p q : Dialogue) (net : Bool) (said told more : List Said) → session_end rec a.info (come ++ bytes) ended tasks ≡ Some x
      → Speaks rec (text_calls (texts_in a tasks come bytes) c.now) d p said → HandsOn rec a.info tasks come (come ++ bytes) us more → ClosingOf p q net (ms ++ said) told
      → Walk c n (view false false false net) gs u r q told more (Some x) ds → Upped c n gs a rec tasks come bytes ended d ms us ds others

-- ONE MESSAGE AFTER THE OTHER

module _ {c : DriveCall} {n : ℕ} {u : UnitTalk} {r : SessionTalk} {d : Dialogue} {us : List Said} {ds : List (Deed Obj Load)} (m : Said) (gs : List (Stage Obj Load)) where
  emit_up : {v : _} {z : Option Cause} {told : List Said} (e : Emit Load) (es : List (Emit Load)) (says : Said) → e.slot ≡ 0 → emit_says conn_carrier m e ≡ says → Walk c n v (emits_stages c.conn m (e ∷ es) ++ gs) u r d told us z ds
      → Walk c n v (Sends (port_at c.conn 0) says ∷ (returns_of c.conn (in_list e.load) ++ (emits_stages c.conn m es ++ gs))) u r d told us z ds
  emit_up e es says slot is k =
      let hs : List (Stage Obj Load) = returns_of c.conn (in_list e.load) ++ (emits_stages c.conn m es ++ gs) in
      as_stages (Sends (port_at c.conn 0) says ∷ hs)
      (append_assoc (emit_of obj_nature c.conn m (Some e)) (emits_stages c.conn m es) gs ∙ ap (λ s. Sends (port_at c.conn s) (said_of obj_nature m e) ∷ hs) slot ∙ ap (λ x. Sends (port_at c.conn 0) x ∷ hs) (said_same m e ∙ is)) k

module _ (c : DriveCall) (n : ℕ) (gs : List (Stage Obj Load)) (a : DriveAskParts) (tasks : List (ReadTask × ℕ)) (ds : List (Deed Obj Load)) (lun : length a.info.lun ≡ 8) (come : List ℕ) (d : Dialogue) (ms us : List Said) (m : Said)
    (whole : is_refused (cut come).rest ≡ false) (asked : AreAskedBy come tasks) (begun : IsBegun d) where
  -- bytes go up first; the load comes back
  received_up : (others : List Load) (bytes : List ℕ) (e : Emit Load) (es : List (Emit Load)) → e.slot ≡ 0 → emit_says conn_carrier m e ≡ received_says m.rec bytes → OwesTo (in_list e.load ++ others) d → (u : UnitTalk) (r : SessionTalk)
      → Reads a tasks come u r
      → Walk c n (view true true true true) (emits_stages c.conn m (e ∷ es) ++ gs) u r d ms us None ds → Upped c n (emits_stages c.conn m es ++ gs) a m.rec tasks come bytes false d ms us ds others
  received_up others bytes e es slot is owes u r reads k =
      by (session_message c (returns_of c.conn (in_list e.load) ++ (emits_stages c.conn m es ++ gs)) a m.rec tasks ds (in_list e.load ++ others) lun n come u r d ms us (received_says m.rec bytes) refl refl reads whole asked begun owes
      (send_to_session (emit_up m gs e es (received_says m.rec bytes) slot is k)))
    where
      by : Came c n (returns_of c.conn (in_list e.load) ++ (emits_stages c.conn m es ++ gs)) a m.rec tasks come bytes (come ++ bytes) d ms us ds (in_list e.load ++ others)
          → Upped c n (emits_stages c.conn m es ++ gs) a m.rec tasks come bytes false d ms us ds others
      by (came_failed f) = up_failed f
      by (came_on v q p told more reads2 whole2 s hands ow w) =
          let y = conn_all_returns (in_list e.load) others p ow w in
          up_on v q y.0 told more refl reads2 whole2 (speaks_as m.rec (append-nil (text_calls (texts_in a tasks come bytes) c.now)) (subst (Speaks m.rec (text_calls (texts_in a tasks come bytes) c.now ++ []) d y.0) (append-nil told) (speaks_both m.rec s (speaks_none m.rec y.1)))) hands y.2 y.3
      by (came_off x v q p told more ends s hands w) =
          let y = conn_all_returns (in_list e.load) [] w.at (owes_nothing (in_list e.load ++ []) w.at (closed_off_then w.closing)) w.walk in
          up_off x v q p y.0 w.net told w.told more ends s hands (closing_before w.closing y.1) y.3

  -- the end of the stream does
  end_up_by : (e : Emit Load) → e.slot ≡ 0 → emit_says conn_carrier m e ≡ record { tag = 8; rec = m.rec; a = 0; b = 0; bytes = [] } → (others : List Load) → OwesTo (in_list e.load ++ others) d → (u : UnitTalk) (r : SessionTalk)
      → Reads a tasks come u r
      → Walk c n (view true true true true) (emits_stages c.conn m (e ∷ []) ++ gs) u r d ms us None ds → Upped c n gs a m.rec tasks come [] true d ms us ds others
  end_up_by e slot is others owes u r reads k =
      let told : Said = record { tag = 8; rec = m.rec; a = 0; b = 0; bytes = [] } in
      by (session_end_message c n (returns_of c.conn (in_list e.load) ++ gs) a tasks ds (in_list e.load ++ others) come d ms us told refl begun owes u r reads (send_to_session (emit_up m gs e [] told slot is k)))
    where
      by : EndCame c n (returns_of c.conn (in_list e.load) ++ gs) m.rec d ms us ds → Upped c n gs a m.rec tasks come [] true d ms us ds others
      by (end_failed f) = up_failed f
      by (end_off v q p said s w) =
          let y = conn_all_returns (in_list e.load) [] w.at (owes_nothing (in_list e.load ++ []) w.at (closed_off_then w.closing)) w.walk in
          up_off (broken m.rec) v q p y.0 w.net said w.told us (ap (λ z. session_end m.rec a.info z true tasks) (append-nil come) ∙ reads_end m.rec a tasks come u r reads whole) s
          (subst (λ z. HandsOn m.rec a.info tasks come z us us) (sym (append-nil come)) (λ first h. h)) (closing_before w.closing y.1) y.3

module _ (c : DriveCall) (n : ℕ) (gs : List (Stage Obj Load)) (a : DriveAskParts) (tasks : List (ReadTask × ℕ)) (ds : List (Deed Obj Load)) (lun : length a.info.lun ≡ 8) (come : List ℕ) (d : Dialogue) (ms us : List Said) (m : Said)
    (whole : is_refused (cut come).rest ≡ false) (asked : AreAskedBy come tasks) (begun : IsBegun d) where
  -- an end after the bytes
  then_end : (bytes : List ℕ) (e : Emit Load) → e.slot ≡ 0 → emit_says conn_carrier m e ≡ record { tag = 8; rec = m.rec; a = 0; b = 0; bytes = [] }
      → Upped c n (emits_stages c.conn m (e ∷ []) ++ gs) a m.rec tasks come bytes false d ms us ds (in_list e.load ++ [])
      → AreAskedBy (come ++ bytes) tasks → Upped c n gs a m.rec tasks come bytes true d ms us ds []
  then_end bytes e slot is (up_failed f) later = up_failed f
  then_end bytes e slot is (up_on u r p told more _ reads whole2 s hands owes k) later = by (end_up_by c n gs a tasks ds lun (come ++ bytes) p (ms ++ told) more m whole2 later (s.begun begun) e slot is [] owes u r reads k)
    where
      by : Upped c n gs a m.rec tasks (come ++ bytes) [] true p (ms ++ told) more ds [] → Upped c n gs a m.rec tasks come bytes true d ms us ds []
      by (up_failed f) = up_failed f
      by (up_on u2 r2 p2 told2 more2 off reads2 whole3 s2 hands2 ow w) = absurd (let z = off in cc)
      by (up_off x u2 r2 p2 q net said told2 more2 ends s2 hands2 closing w) =
          let texts = text_calls (texts_in a tasks come bytes) c.now in
          up_off x u2 r2 p2 q net (told ++ said) told2 more2 (ap (λ z. session_end m.rec a.info z true tasks) (sym (append-nil (come ++ bytes))) ∙ ends)
          (speaks_as m.rec (append-nil texts) (speaks_both m.rec s s2))
          (λ first h. subst (λ z. HandsOn m.rec a.info tasks (come ++ bytes) z more more2) (append-nil (come ++ bytes)) hands2 first (hands first h))
          (subst (λ z. ClosingOf p2 q net z told2) (append_assoc ms told said) closing) w
  then_end bytes e slot is (up_off x u r p q net said told more ends s hands closing k) later =
      let told_end : Said = record { tag = 8; rec = m.rec; a = 0; b = 0; bytes = [] } in
      let w = drop_conn_top (emit_up m gs e [] told_end slot is k) in
      let y = conn_all_returns (in_list e.load) [] q (owes_nothing (in_list e.load ++ []) q (closed_off_then closing)) w in
      up_off x u r p y.0 net said told more (ap (λ z. session_end m.rec a.info z true tasks) (sym (append-nil (come ++ bytes))) ∙ still_ends m.rec a.info (come ++ bytes) tasks x [] true ends) s hands (closing_before closing y.1) y.3

  pub ups_walk : (sent : Option (List ℕ)) (ended : Bool) (es : List (Emit Load)) → AreAskedBy (come ++ sent_bytes sent) tasks → map (emit_says conn_carrier m) es ≡ says_up m.rec sent ended → AllByRecursion GoesAbove es → OwesTo (loads_in es) d
      → (u : UnitTalk) (r : SessionTalk) → Reads a tasks come u r
      → Walk c n (view true true true true) (emits_stages c.conn m es ++ gs) u r d ms us None ds → Upped c n gs a m.rec tasks come (sent_bytes sent) ended d ms us ds []
  ups_walk None false es later says above owes u r reads k =
      let none = none_up m es says in
      up_on u r d [] us refl (subst (λ z. Reads a tasks z u r) (sym (append-nil come)) reads) (ap (λ z. is_refused (cut z).rest) (append-nil come) ∙ whole) (speaks_none m.rec (regains_none d))
      (subst (λ z. HandsOn m.rec a.info tasks come z us us) (sym (append-nil come)) (λ first h. h)) (subst (λ z. OwesTo (loads_in z) d) none owes)
      (subst (λ z. Walk c n (view true true true true) gs u r d z us None ds) (sym (append-nil ms)) (as_stages gs (ap (λ (z : List (Emit Load)). emits_stages c.conn m z ++ gs) none) k))
  ups_walk None true [] later says above owes u r reads k = absurd (let z = says in cc)
  ups_walk None true (e ∷ es) later says above owes u r reads k =
      let one : emit_says conn_carrier m e ≡ record { tag = 8; rec = m.rec; a = 0; b = 0; bytes = [] } = let z = says in cc in
      let others : map (emit_says conn_carrier m) es ≡ [] = let z = says in cc in
      let none = none_up m es others in
      end_up_by c n gs a tasks ds lun come d ms us m whole asked begun e above.0 one [] (subst (λ z. OwesTo (in_list e.load ++ loads_in z) d) none owes) u r reads (as_stages (emits_stages c.conn m (e ∷ []) ++ gs) (ap (λ (z : List (Emit Load)). emits_stages c.conn m (e ∷ z) ++ gs) none) k)
  ups_walk (Some bytes) false [] later says above owes u r reads k = absurd (let z = says in cc)
  ups_walk (Some bytes) false (e ∷ es) later says above owes u r reads k =
      let one : emit_says conn_carrier m e ≡ received_says m.rec bytes = let z = says in cc in
      let others : map (emit_says conn_carrier m) es ≡ [] = let z = says in cc in
      let none = none_up m es others in
      received_up c n gs a tasks ds lun come d ms us m whole asked begun [] bytes e [] above.0 one (subst (λ z. OwesTo (in_list e.load ++ loads_in z) d) none owes) u r reads (as_stages (emits_stages c.conn m (e ∷ []) ++ gs) (ap (λ (z : List (Emit Load)). emits_stages c.conn m (e ∷ z) ++ gs) none) k)
  ups_walk (Some bytes) true [] later says above owes u r reads k = absurd (let z = says in cc)
  ups_walk (Some bytes) true (e ∷ []) later says above owes u r reads k = absurd (let z = says in cc)
  ups_walk (Some bytes) true (e ∷ (f ∷ es)) later says above owes u r reads k =
      let one : emit_says conn_carrier m e ≡ received_says m.rec bytes = let z = says in cc in
      let two : emit_says conn_carrier m f ≡ record { tag = 8; rec = m.rec; a = 0; b = 0; bytes = [] } = let z = says in cc in
      let others : map (emit_says conn_carrier m) es ≡ [] = let z = says in cc in
      let none = none_up m es others in
      then_end bytes f above.1.0 two
      (received_up c n gs a tasks ds lun come d ms us m whole asked begun (in_list f.load ++ []) bytes e (f ∷ []) above.0 one (subst (λ z. OwesTo (in_list e.load ++ (in_list f.load ++ loads_in z)) d) none owes) u r reads
      (as_stages (emits_stages c.conn m (e ∷ (f ∷ [])) ++ gs) (ap (λ (z : List (Emit Load)). emits_stages c.conn m (e ∷ (f ∷ z)) ++ gs) none) k)) later

-- WHAT CAME OF A CALL

-- An entry of the connection left it so, and what it sent went down. It failed; all goes on; the drive has ended; or the connection ended by itself.
pub data CallDid (c : DriveCall) (n : ℕ) (ds : List (Deed Obj Load)) (d : Dialogue) (over : Option Cause) (ms us : List Said) (a : DriveAskParts) (rec : ℕ) (tasks : List (ReadTask × ℕ)) (come bytes : List ℕ) (ended : Bool) : Type 0 where
  did_fail : Failed c ds → CallDid c n ds d over ms us a rec tasks come bytes ended
  did_go : (u : UnitTalk) (r : SessionTalk) (p : Dialogue) (said more : List Said) → over ≡ None → ended ≡ false → Reads a tasks (come ++ bytes) u r → is_refused (cut (come ++ bytes)).rest ≡ false
      → Speaks rec (text_calls (texts_in a tasks come bytes) c.now) d p said → HandsOn rec a.info tasks come (come ++ bytes) us more → OwesTo [] p
      → Walk c n (view true true true true) [] u r p (ms ++ said) more None ds → CallDid c n ds d over ms us a rec tasks come bytes ended
  did_end : (x : Cause) (u : UnitTalk) (r : SessionTalk) (p q : Dialogue) (net : Bool) (said told more : List Said) (v : _) → session_end rec a.info (come ++ bytes) ended tasks ≡ Some x
      → Speaks rec (text_calls (texts_in a tasks come bytes) c.now) d p said → HandsOn rec a.info tasks come (come ++ bytes) us more → ClosingOf p q net (ms ++ said) told
      → Walk c n v [] u r q told more (Some x) ds → CallDid c n ds d over ms us a rec tasks come bytes ended
  did_break : (y : Cause) (u : UnitTalk) (r : SessionTalk) (p : Dialogue) (said more : List Said) → over ≡ Some y → ended ≡ false → Reads a tasks (come ++ bytes) u r → is_refused (cut (come ++ bytes)).rest ≡ false
      → Speaks rec (text_calls (texts_in a tasks come bytes) c.now) d p said → HandsOn rec a.info tasks come (come ++ bytes) us more
      → Walk c n (view false false false false) [] unit_cut session_cut p (ms ++ said) more (Some y) ds → CallDid c n ds d over ms us a rec tasks come bytes ended

-- the entry is left
leaves_conn : {c : DriveCall} {n : ℕ} {v : _} {u : UnitTalk} {r : SessionTalk} {d : Dialogue} {ms us : List Said} {z : Option Cause} {ds : List (Deed Obj Load)} (j : ℕ) (by : Way) → settles_by {N = Obj} {L = Load} by c.conn ≡ Settles c.conn ∷ []
    → Walk c n v (Holds (port_at c.conn j) by None ∷ []) u r d ms us z ds → Walk c n v [] u r d ms us z ds
leaves_conn j by is k = conn_settles (as_stages _ (ap (λ z. z ++ []) is) (left_by k))

module _ (c : DriveCall) (n : ℕ) (ds : List (Deed Obj Load)) (j : ℕ) (by : Way) (is : settles_by {N = Obj} {L = Load} by c.conn ≡ Settles c.conn ∷ []) where
  closes_last : {u : UnitTalk} {r : SessionTalk} {p : Dialogue} {told us : List Said} {x : Cause} (net : Bool) (over : Option Cause)
      → Walk c n (view false false false net) (closes_of c.conn (closes_for over) ++ Holds (port_at c.conn j) by None ∷ []) u r p told us (Some x) ds
      → (v : _) × Walk c n v [] u r p told us (Some x) ds
  closes_last net None k = (view false false false net, leaves_conn j by is k)
  closes_last true (Some y) k = (view false false false false, leaves_conn j by is (close_network (shut_conn_top k)))
  closes_last false (Some y) k = (view false false false false, leaves_conn j by is (shut_network (shut_conn_top k)))

  after_ups : {d : Dialogue} {ms us : List Said} {a : DriveAskParts} {rec : ℕ} {tasks : List (ReadTask × ℕ)} {come bytes : List ℕ} {ended : Bool} (over : Option Cause)
      → Upped c n (closes_of c.conn (closes_for over) ++ Holds (port_at c.conn j) by None ∷ []) a rec tasks come bytes ended d ms us ds []
      → CallDid c n ds d over ms us a rec tasks come bytes ended
  after_ups over (up_failed f) = did_fail f
  after_ups None (up_on u r p told more off reads whole s hands owes k) = did_go u r p told more refl off reads whole s hands owes (leaves_conn j by is k)
  after_ups {a = a} {tasks = tasks} {come = come} {bytes = bytes} (Some y) (up_on u r p told more off reads whole s hands owes k) =
      let w = conn_ends (unit_reads_on a tasks (come ++ bytes) u r reads) (session_reads_on a tasks (come ++ bytes) u r reads) k in
      did_break y u r p told more refl off reads whole s hands (leaves_conn j by is w)
  after_ups over (up_off x u r p q net said told more ends s hands closing k) = let w = closes_last net over k in did_end x u r p q net said told more w.0 ends s hands closing w.1

-- AN ENTRY OF THE CONNECTION

-- where the connection is after an entry, with what is lent then
owes_out : (b : ConnAsk) (start : ℕ) (calls : List ConnEntry) (out : Option Lent) (over : Option Cause) (ls : List Load) → windows_in conn_carrier ls ≡ in_list out → OwesTo ls (talked_on b start calls out over)
owes_out b start calls out None ls is = λ _. is
owes_out b start calls out (Some y) ls is = owes_nothing ls (closed_off b start calls) refl

begun_out : (b : ConnAsk) (start : ℕ) (calls : List ConnEntry) (out : Option Lent) (over : Option Cause) → IsBegun (talked_on b start calls out over)
begun_out b start calls out None = tt
begun_out b start calls out (Some y) = tt

-- an entry of the connection that sends down and up, and closes
runs_both : (x : ℕ) (m : Said) (fx : Fx Obj Load) (xs : List (ℕ × Cause)) (gs : List (Stage Obj Load)) → fx.makes ≡ None → fx.closes.items ≡ xs
    → runs_of obj_nature x m true fx ++ gs ≡ few_of obj_nature x m fx.downs ++ (emits_stages x m (emits_of fx.ups) ++ (closes_of x xs ++ gs))
runs_both x m fx xs gs none closes =
    let downs = few_of obj_nature x m fx.downs in
    let ups = emits_stages x m (emits_of fx.ups) in
    let all : runs_of obj_nature x m true fx ≡ downs ++ (ups ++ closes_of x xs) = rw (none, few_stages x m fx.ups, closes) refl in
    ap (λ z. z ++ gs) all ∙ append_assoc downs (ups ++ closes_of x xs) gs ∙ ap (λ z. downs ++ z) (append_assoc ups (closes_of x xs) gs)

module _ (c : DriveCall) (n : ℕ) (ds : List (Deed Obj Load)) (a : DriveAskParts) (tasks : List (ReadTask × ℕ)) (lun : length a.info.lun ≡ 8) (come : List ℕ) (whole : is_refused (cut come).rest ≡ false) (asked : AreAskedBy come tasks)
    (b : ConnAsk) (start : ℕ) (u : UnitTalk) (r : SessionTalk) (reads : Reads a tasks come u r) where
  -- its segments go down, what came goes up, and it ends or goes on
  pub entry_by : (j : ℕ) (by : Way) → settles_by {N = Obj} {L = Load} by c.conn ≡ Settles c.conn ∷ [] → (m : Said) (more : List ConnEntry) (acts : Acts) (out : Option Lent) (sent : Option (List ℕ)) (ended : Bool) (fx : Fx Obj Load)
      → AreAskedBy (come ++ sent_bytes sent) tasks
      → ConnEffects conn_carrier m acts (says_up m.rec sent ended) (closes_for acts.over) (in_list out) fx
      → Walk c n (view true true true true) (runs_of obj_nature c.conn m true fx ++ Holds (port_at c.conn j) by None ∷ []) u r (talked_on b start more out acts.over) [] [] None ds
      → CallDid c n ds (talked_on b start more out acts.over) acts.over (downs_for m.rec acts) [] a m.rec tasks come (sent_bytes sent) ended
  entry_by j by settles m more acts out sent ended fx later effects k =
      let d : Dialogue = talked_on b start more out acts.over in
      let hs : List (Stage Obj Load) = closes_of c.conn (closes_for acts.over) ++ Holds (port_at c.conn j) by None ∷ [] in
      let one = few_below m (loads fx.ups) fx.downs effects.below (owes_out b start more out acts.over (loads fx.downs ++ loads fx.ups) effects.windows)
      (as_stages (few_of obj_nature c.conn m fx.downs ++ (emits_stages c.conn m (emits_of fx.ups) ++ hs)) (runs_both c.conn m fx (closes_for acts.over) (Holds (port_at c.conn j) by None ∷ []) effects.no_make effects.closes) k) in
      let two = ups_walk c n hs a tasks ds lun come one.now_at _ [] m whole asked (one.regains.begun (begun_out b start more out acts.over)) sent ended (emits_of fx.ups) later effects.ups effects.above (subst (λ z. OwesTo z one.now_at) (few_loads fx.ups) one.owes) u r reads one.walk in
      subst (λ z. CallDid c n ds d acts.over z [] a m.rec tasks come (sent_bytes sent) ended) effects.downs (after_downs one.regains (after_ups c n ds j by settles acts.over two))
    where
      first : {d p : Dialogue} {texts : List _} {said : List Said} → Regains d p → {q : Dialogue} → Speaks m.rec texts p q said → Speaks m.rec texts d q said
      first r0 s = speaks_both m.rec (speaks_none m.rec r0) s

      after_downs : {d p : Dialogue} {over : Option Cause} {told us : List Said} {bytes : List ℕ} → Regains d p → CallDid c n ds p over told us a m.rec tasks come bytes ended → CallDid c n ds d over told us a m.rec tasks come bytes ended
      after_downs r0 (did_fail f) = did_fail f
      after_downs r0 (did_go u2 r2 p2 said more2 over off reads2 whole2 s hands owes w) = did_go u2 r2 p2 said more2 over off reads2 whole2 (first r0 s) hands owes w
      after_downs r0 (did_end x u2 r2 p2 q net said told more2 v ends s hands closing w) = did_end x u2 r2 p2 q net said told more2 v ends (first r0 s) hands closing w
      after_downs r0 (did_break y u2 r2 p2 said more2 over off reads2 whole2 s hands w) = did_break y u2 r2 p2 said more2 over off reads2 whole2 (first r0 s) hands w
