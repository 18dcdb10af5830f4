-- What a segment and a time do to a drive, from the entry of the connection that begins them.
use Rattle.std.proofs.Common.{◌≡◌, ◌<◌, ◌^◌, ℕ, Bool, true, false, not, List, [], ◌∷◌, ◌++◌, length, Option, Some, None, refl, sym, ap, ◌∙◌, subst, append_assoc}
use Rattle.std.proofs.lemmas.Bool.{false≢true}
use Rattle.nb_terms.specs.declared.acts.Acts.{Acts}
use Rattle.nb_ledger.specs.declared.event.Way.TheVariants as way
use Rattle.nb_effects.specs.declared.effects.Fx.{Fx}
use Rattle.nb_graph.specs.Whole.{port_at}
use Rattle.nb_graph.specs.Trace.{Said, silence, time, up}
use Rattle.nb_graph.specs.Deeds.{Deed, Holds, Offers, Ticks, rest, runs_of}
use Rattle.nb_iscsipdu.specs.Streams.{cut, is_refused}
use Rattle.nb_streams.specs.Flows.{segment_came, time_came}
use Rattle.nb_tcp.specs.ConnHistory.{ConnEntry, calls_in, conn_entry}
use Rattle.nb_tcpseg.specs.SegmentText.{SegmentParts, IsLaidOut}
use Rattle.nb_tcpseg.proofs.HeaderLemmas.{laid_one}
use Rattle.nb_conns.specs.declared.conn_ask.ConnAsk.{ConnAsk}
use Rattle.nb_conns.specs.declared.conn_load.Lent.{Lent}
use Rattle.nb_conns.specs.ConnEffects.{ConnEffects, TookAll, closes_for, downs_for, received_says}
use Rattle.nb_conns.specs.ConnLoads.{lent_bytes}
use Rattle.nb_conns.specs.Dialogues.{Converses, Dialogue, LendsSo, arriving, talking, comes_from_peer, comes_to_end, ends_short, hands_on, rests_still, takes_none, takes_segment, takes_tick, talked_on, with_lending, with_passing, with_segment_call}
use Rattle.nb_drivenodes.specs.DriveAsks.{DriveAskParts}
use Rattle.nb_drivenodes.specs.SessionTalks.{SessionTalk}
use Rattle.nb_drivenodes.specs.UnitTalks.{UnitTalk}
use Rattle.nb_nodes.specs.declared.load.Load.{Load}
use Rattle.nb_nodes.specs.declared.obj.Obj.{Obj}
use Rattle.nb_nodes.specs.Carriers.{conn_carrier}
use Rattle.nb_nodes.specs.Objects.{obj_nature}
use Rattle.nb_sans.specs.Sessions.{ReadTask}
use Rattle.nb_sans.specs.SessionSteps.{AreAskedBy}
use Rattle.nb_webtalks.proofs.Upward.{LetsUp, lets_all, lets_none}
use Rattle.nb_drivetalks.proofs.Cames.{Reads, asked_later}
use Rattle.nb_drivetalks.proofs.Returning.{as_stages, conn_fails}
use Rattle.nb_drivetalks.proofs.Rising.{CallDid, entry_by}
use Rattle.nb_drivetalks.proofs.Steps.{offer_conn, tick_conn}
use Rattle.nb_drivetalks.proofs.Talks.{Failed, ran_out}
use Rattle.nb_drivetalks.proofs.Units.{none_left}
use Rattle.nb_drivetalks.proofs.Walking.{DriveCall, Walk, view}

-- A segment came: it failed, or the connection has it, and so much of the stream rose.
pub data SegmentDid (c : DriveCall) (n : ℕ) (ds : List (Deed Obj Load)) (b : ConnAsk) (start : ℕ) (calls : List ConnEntry) (a : DriveAskParts) (tasks : List (ReadTask × ℕ)) (come : List ℕ) (m : Said) (s : SegmentParts) : Type 0 where
  segment_fails : Failed c ds → SegmentDid c n ds b start calls a tasks come m s
  segment_does : (acts : Acts) (es behind : List ConnEntry) (gave : List ℕ) (out : Option Lent) → es ≡ calls ++ conn_entry (calls_in (segment_came (arriving m.rec s) c.now)) acts ∷ behind → LetsUp acts.ready behind gave
      → CallDid c n ds (talked_on b start es out acts.over) acts.over (downs_for m.rec acts) [] a m.rec tasks come gave (comes_to_end b calls (with_segment_call calls m.rec s c.now acts))
      → SegmentDid c n ds b start calls a tasks come m s

-- A time came.
pub data TimeDid (c : DriveCall) (n : ℕ) (ds : List (Deed Obj Load)) (b : ConnAsk) (start : ℕ) (calls : List ConnEntry) (a : DriveAskParts) (tasks : List (ReadTask × ℕ)) (come : List ℕ) : Type 0 where
  time_fails : Failed c ds → TimeDid c n ds b start calls a tasks come
  time_does : (acts : Acts) → CallDid c n ds (talked_on b start (calls ++ conn_entry (calls_in (time_came c.now)) acts ∷ []) None acts.over) acts.over (downs_for 0 acts) [] a 0 tasks come [] false → TimeDid c n ds b start calls a tasks come

-- where nothing is lent, nothing waits
lends_none : (es : List ConnEntry) (b : Bool) → LendsSo es b None → b ≡ false
lends_none es false lends = refl
lends_none es true lends = absurd lends

module _ (c : DriveCall) (n : ℕ) (ds : List (Deed Obj Load)) (a : DriveAskParts) (tasks : List (ReadTask × ℕ)) (lun : length a.info.lun ≡ 8) (come : List ℕ) (whole : is_refused (cut come).rest ≡ false) (asked : AreAskedBy come tasks)
    (b : ConnAsk) (start : ℕ) (calls : List ConnEntry) (u : UnitTalk) (r : SessionTalk) (reads : Reads a tasks come u r) where
  -- all of the message was taken
  all_taken : {d : Dialogue} (m : Said) (fx : Fx Obj Load) → length m.bytes < 2 ^ 32 → TookAll m fx
      → Walk c n (view true true true true) (runs_of obj_nature c.conn m true fx ++ Holds (port_at c.conn 1) way.Up (rest m true fx) ∷ []) u r d [] [] None ds
      → Walk c n (view true true true true) (runs_of obj_nature c.conn m true fx ++ Holds (port_at c.conn 1) way.Up None ∷ []) u r d [] [] None ds
  all_taken m fx short all k =
      as_stages (runs_of obj_nature c.conn m true fx ++ Holds (port_at c.conn 1) way.Up None ∷ []) (ap (λ o. runs_of obj_nature c.conn m true fx ++ Holds (port_at c.conn 1) way.Up o ∷ []) (none_left m fx.took short all)) k

  segment_did : (m : Said) (s : SegmentParts) (done : Bool) (fx : Fx Obj Load) (d : Dialogue) → comes_from_peer b 1 m ≡ true → IsLaidOut m.bytes s → length m.bytes < 2 ^ 32 → Converses conn_carrier (talking b start calls None) (up 1 m c.now done fx) d
      → Walk c n (view true true true true) (runs_of obj_nature c.conn m done fx ++ Holds (port_at c.conn 1) way.Up (rest m done fx) ∷ []) u r d [] [] None ds → SegmentDid c n ds b start calls a tasks come m s
  segment_did m s false fx d comes is short by k = segment_fails (ran_out (conn_fails (Holds (port_at c.conn 1) way.Up None ∷ []) m fx k))
  segment_did m s true fx _ comes is short (takes_segment _ _ _ _ _ _ _ t acts None came text lends effects all) k =
      let es : List ConnEntry = with_segment_call calls m.rec t c.now acts in
      subst (λ z. SegmentDid c n ds b start calls a tasks come m z) (laid_one m.bytes t s text is)
      (segment_does acts es [] [] None refl (lets_none (lends_none es acts.ready lends))
      (entry_by c n ds a tasks lun come whole asked b start u r reads 1 way.Up refl m es acts None None (comes_to_end b calls es) fx (asked_later come [] tasks asked) effects (all_taken m fx short all k)))
  segment_did m s true fx _ comes is short (takes_segment _ _ _ _ _ _ _ t acts (Some l) came text lends effects all) k =
      let es : List ConnEntry = with_segment_call calls m.rec t c.now acts in
      let e : ConnEntry = conn_entry (calls_in (segment_came (arriving m.rec t) c.now)) acts in
      subst (λ z. SegmentDid c n ds b start calls a tasks come m z) (laid_one m.bytes t s text is)
      (segment_does acts (with_lending es (Some l)) _ (lent_bytes l) (Some l) (append_assoc calls (e ∷ []) _) (lets_all (lent_bytes l) [] refl refl)
      (entry_by c n ds a tasks lun come whole asked b start u r reads 1 way.Up refl m (with_lending es (Some l)) acts (Some l) (Some (lent_bytes l)) (comes_to_end b calls es) fx (asked_later come (lent_bytes l) tasks asked) effects
      (all_taken m fx short all k)))
  segment_did m s true fx _ comes is short (hands_on _ _ _ _ _ _ _ t acts came text alive ready lasts effects all) k =
      let es : List ConnEntry = with_segment_call calls m.rec t c.now acts in
      let e : ConnEntry = conn_entry (calls_in (segment_came (arriving m.rec t) c.now)) acts in
      let after : List ConnEntry = with_passing es t.body in
      let asks : ConnEffects conn_carrier m acts (received_says m.rec t.body ∷ []) (closes_for acts.over) [] fx = subst (λ o. ConnEffects conn_carrier m acts (received_says m.rec t.body ∷ []) (closes_for o) [] fx) (sym alive) effects in
      let w = subst (λ o. Walk c n (view true true true true) (runs_of obj_nature c.conn m true fx ++ Holds (port_at c.conn 1) way.Up None ∷ []) u r (talked_on b start after None o) [] [] None ds) (sym alive) (all_taken m fx short all k) in
      subst (λ z. SegmentDid c n ds b start calls a tasks come m z) (laid_one m.bytes t s text is)
      (segment_does acts after _ t.body None (append_assoc calls (e ∷ []) _) (lets_all t.body _ refl refl)
      (subst (λ z. CallDid c n ds (talked_on b start after None acts.over) acts.over (downs_for m.rec acts) [] a m.rec tasks come t.body z) (sym lasts)
      (entry_by c n ds a tasks lun come whole asked b start u r reads 1 way.Up refl m after acts None (Some t.body) false fx (asked_later come t.body tasks asked) asks w)))
  segment_did m s true fx _ comes is short (takes_none _ _ _ _ _ _ _ _ none says closes all) k = absurd (none s is)
  segment_did m s true fx d comes is short (ends_short _ _ cut hands) k = absurd (let z = cut in cc)
  segment_did m s true fx d comes is short (rests_still _ _ quiet asks) k = absurd (false≢true (sym (ap not comes) ∙ quiet))

  pub segment_walk : (m : Said) (s : SegmentParts) → comes_from_peer b 1 m ≡ true → IsLaidOut m.bytes s → length m.bytes < 2 ^ 32
      → Walk c n (view true true true true) (Offers (port_at c.conn 1) m ∷ []) u r (talking b start calls None) [] [] None ds → SegmentDid c n ds b start calls a tasks come m s
  segment_walk m s comes is short k = let w = offer_conn k in segment_did m s w.0 w.1 w.2 comes is short w.3 w.4

  time_did : (done : Bool) (fx : Fx Obj Load) (d : Dialogue) → Converses conn_carrier (talking b start calls None) (time c.now done fx) d
      → Walk c n (view true true true true) (runs_of obj_nature c.conn silence done fx ++ Holds (port_at c.conn 4) way.Time None ∷ []) u r d [] [] None ds → TimeDid c n ds b start calls a tasks come
  time_did false fx d by k = time_fails (ran_out (conn_fails (Holds (port_at c.conn 4) way.Time None ∷ []) silence fx k))
  time_did true fx _ (takes_tick _ _ _ _ _ _ acts effects) k =
      time_does acts (entry_by c n ds a tasks lun come whole asked b start u r reads 4 way.Time refl silence (calls ++ conn_entry (calls_in (time_came c.now)) acts ∷ []) acts None None false fx (asked_later come [] tasks asked) effects k)
  time_did true fx d (ends_short _ _ cut hands) k = absurd (let z = cut in cc)
  time_did true fx d (rests_still _ _ quiet asks) k = absurd (let z = quiet in cc)

  pub time_walk : (k : Walk c n (view true true true true) (Ticks c.conn ∷ []) u r (talking b start calls None) [] [] None ds) → k.scene.live c.conn ≡ true → TimeDid c n ds b start calls a tasks come
  time_walk k lives = let w = tick_conn k lives in time_did w.0 w.1 w.2 w.3 w.4
