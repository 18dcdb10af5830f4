-- What a segment and a time do to the three, from the entry of the connection that begins them.
use Rattle.std.proofs.Common.{◌≡◌, ℕ, ◌<◌, ◌^◌, Bool, true, false, not, List, [], ◌∷◌, ◌++◌, length, min, Option, Some, None, refl, sym, ap, ◌∙◌, subst, append_assoc, arith, if◌then◌else◌}
use Rattle.std.proofs.lemmas.Bool.{false≢true, le-ltb}
use Rattle.nb_terms.specs.declared.acts.Acts.{Acts}
use Rattle.nb_terms.specs.declared.cause.Cause.{Cause}
use Rattle.nb_ledger.specs.declared.event.Way.TheVariants as way
use Rattle.nb_effects.specs.declared.effects.Fx.{Fx}
use Rattle.nb_graph.specs.Whole.{port_at}
use Rattle.nb_graph.specs.Trace.{NodeEntry, Said, in_list, left, said_behind, silence, time, up}
use Rattle.nb_graph.specs.Deeds.{Deed, Holds, Offers, Ticks, rest, runs_of}
use Rattle.nb_streams.specs.Flows.{segment_came, time_came}
use Rattle.nb_tcp.specs.ConnHistory.{ConnEntry, calls_in, comes_back, conn_entry, lends_out}
use Rattle.nb_tcp.specs.Replies.{only_ready}
use Rattle.nb_tcpseg.specs.SegmentText.{SegmentParts, IsLaidOut}
use Rattle.nb_tcpseg.proofs.HeaderLemmas.{laid_one}
use Rattle.nb_conns.specs.declared.conn_ask.ConnAsk.{ConnAsk}
use Rattle.nb_conns.specs.declared.conn_load.Lent.{Lent}
use Rattle.nb_conns.specs.ConnEffects.{ConnEffects, TookAll, closes_for, downs_for}
use Rattle.nb_conns.specs.ConnLoads.{lent_bytes}
use Rattle.nb_conns.specs.Dialogues.{Converses, Dialogue, LendsSo, arriving, talking, comes_from_peer, comes_to_end, ends_short, hands_on, rests_still, takes_none, takes_segment, takes_tick, talked_on, with_lending, with_passing, with_segment_call}
use Rattle.nb_http.specs.Standing.{Core}
use Rattle.nb_nodes.specs.declared.load.Load.{Load}
use Rattle.nb_nodes.specs.declared.obj.Obj.{Obj}
use Rattle.nb_nodes.specs.Carriers.{conn_carrier}
use Rattle.nb_nodes.specs.Fetches.{gathers, taken_below}
use Rattle.nb_nodes.specs.Objects.{obj_nature}
use Rattle.nb_webnodes.specs.WebAsks.{AskParts}
use Rattle.nb_webnodes.specs.WebTalks.{ReadsOn, fetching}
use Rattle.nb_webtalks.proofs.Upward.{LetsUp, lets_all, lets_none, says_up, sent_bytes}
use Rattle.nb_webtalks.proofs.Walking.{WebCall, Walk, view}
use Rattle.nb_webtalks.proofs.Steps.{offer_conn, tick_conn}
use Rattle.nb_webtalks.proofs.Uppers.{RanOut, as_stages, conn_fails}
use Rattle.nb_webtalks.proofs.Calls.{CallDid, entry_by}

-- all of a message was taken
none_left : (m : Said) (took : ℕ) → length m.bytes < 2 ^ 32 → took ≡ min (length m.bytes) 4294967295 → left took m ≡ None
none_left m took short is = ap (λ (z : Bool). if z then Some (said_behind took m) else None) (le-ltb took (length m.bytes) (omega (arith, is, short)))

-- where nothing is lent nothing waits
waits_none : (es : List ConnEntry) (ready : Bool) → LendsSo es ready None → ready ≡ false
waits_none es true h = absurd h
waits_none es false h = refl

-- A segment came: memory ran out, or the connection took it.
pub data SegmentDid (c : WebCall) (n : ℕ) (ds : List (Deed Obj Load)) (b : ConnAsk) (start : ℕ) (calls : List ConnEntry) (q : AskParts) (stream : List ℕ) (m : Said) (s : SegmentParts) : Type 0 where
  segment_fails : RanOut ds → SegmentDid c n ds b start calls q stream m s
  segment_does : (acts : Acts) (es behind : List ConnEntry) (gave : List ℕ) (out : Option Lent) → es ≡ calls ++ conn_entry (calls_in (segment_came (arriving m.rec s) c.now)) acts ∷ behind → LetsUp acts.ready behind gave
      → CallDid c n ds (talked_on b start es out acts.over) acts.over (downs_for m.rec acts) q m.rec stream gave (comes_to_end b calls (with_segment_call calls m.rec s c.now acts))
      → SegmentDid c n ds b start calls q stream m s

-- A time came.
pub data TimeDid (c : WebCall) (n : ℕ) (ds : List (Deed Obj Load)) (b : ConnAsk) (start : ℕ) (calls : List ConnEntry) (q : AskParts) (stream : List ℕ) : Type 0 where
  time_fails : RanOut ds → TimeDid c n ds b start calls q stream
  time_does : (acts : Acts) → CallDid c n ds (talked_on b start (calls ++ conn_entry (calls_in (time_came c.now)) acts ∷ []) None acts.over) acts.over (downs_for 0 acts) q 0 stream [] false → TimeDid c n ds b start calls q stream

module _ {c : WebCall} {n : ℕ} {a : List (NodeEntry Obj Load)} {ds : List (Deed Obj Load)} {q : AskParts} {core : Core} {stream given : List ℕ} {b : ConnAsk} {start : ℕ} {calls : List ConnEntry} (reads : ReadsOn core stream given) (going : gathers a ≡ true) (taken : taken_below a ≡ given) where
  -- it has all of the message, with what follows it then
  took_it : (m : Said) (s : SegmentParts) (acts : Acts) (es behind : List ConnEntry) (out : Option Lent) (sent : Option (List ℕ)) (fx : Fx Obj Load) → length m.bytes < 2 ^ 32
      → es ≡ calls ++ conn_entry (calls_in (segment_came (arriving m.rec s) c.now)) acts ∷ behind → LetsUp acts.ready behind (sent_bytes sent)
      → ConnEffects conn_carrier m acts (says_up m.rec sent (comes_to_end b calls (with_segment_call calls m.rec s c.now acts))) (closes_for acts.over) (in_list out) fx → TookAll m fx
      → Walk c n (view true true true true) (runs_of obj_nature c.conn m true fx ++ Holds (port_at c.conn 1) way.Up (rest m true fx) ∷ []) a (fetching q core stream given) (talked_on b start es out acts.over) [] None ds
      → SegmentDid c n ds b start calls q stream m s
  took_it m s acts es behind out sent fx short is lets effects all k =
      segment_does acts es behind (sent_bytes sent) out is lets
      (entry_by b start reads going taken 1 way.Up refl m es acts out sent (comes_to_end b calls (with_segment_call calls m.rec s c.now acts)) fx effects
      (as_stages (runs_of obj_nature c.conn m true fx ++ Holds (port_at c.conn 1) way.Up None ∷ []) (ap (λ o. runs_of obj_nature c.conn m true fx ++ Holds (port_at c.conn 1) way.Up o ∷ []) (none_left m fx.took short all)) k))

  segment_did : (m : Said) (s : SegmentParts) (done : Bool) (fx : Fx Obj Load) (d : Dialogue) → comes_from_peer b 1 m ≡ true → IsLaidOut m.bytes s → length m.bytes < 2 ^ 32 → Converses conn_carrier (talking b start calls None) (up 1 m c.now done fx) d
      → Walk c n (view true true true true) (runs_of obj_nature c.conn m done fx ++ Holds (port_at c.conn 1) way.Up (rest m done fx) ∷ []) a (fetching q core stream given) d [] None ds → SegmentDid c n ds b start calls q stream m s
  segment_did m s false fx d comes is short by k = segment_fails (conn_fails (Holds (port_at c.conn 1) way.Up None ∷ []) m fx k)
  segment_did m s true fx _ comes is short (takes_segment _ _ _ _ _ _ _ t acts None came text lends effects all) k =
      subst (λ z. SegmentDid c n ds b start calls q stream m z) (laid_one m.bytes t s text is)
      (took_it m t acts (with_segment_call calls m.rec t c.now acts) [] None None fx short refl (lets_none (waits_none (with_segment_call calls m.rec t c.now acts) acts.ready lends)) effects all k)
  segment_did m s true fx _ comes is short (takes_segment _ _ _ _ _ _ _ t acts (Some l) came text lends effects all) k =
      let behind : List ConnEntry = conn_entry (lends_out (lent_bytes l)) (only_ready false) ∷ [] in
      let e : ConnEntry = conn_entry (calls_in (segment_came (arriving m.rec t) c.now)) acts in
      subst (λ z. SegmentDid c n ds b start calls q stream m z) (laid_one m.bytes t s text is)
      (took_it m t acts (with_lending (with_segment_call calls m.rec t c.now acts) (Some l)) behind (Some l) (Some (lent_bytes l)) fx short (append_assoc calls (e ∷ []) behind) (lets_all (lent_bytes l) [] refl refl) effects all k)
  segment_did m s true fx _ comes is short (hands_on _ _ _ _ _ _ _ t acts came text goes waits unended effects all) k =
      let back : List ConnEntry = conn_entry comes_back (only_ready false) ∷ [] in
      let behind : List ConnEntry = conn_entry (lends_out t.body) (only_ready false) ∷ back in
      let e : ConnEntry = conn_entry (calls_in (segment_came (arriving m.rec t) c.now)) acts in
      let es : List ConnEntry = with_passing (with_segment_call calls m.rec t c.now acts) t.body in
      let asks = subst (λ (z : Bool). ConnEffects conn_carrier m acts (says_up m.rec (Some t.body) z) [] [] fx) (sym unended) effects in
      subst (λ z. SegmentDid c n ds b start calls q stream m z) (laid_one m.bytes t s text is)
      (took_it m t acts es behind None (Some t.body) fx short (append_assoc calls (e ∷ []) behind) (lets_all t.body back refl refl)
      (subst (λ (z : Option Cause). ConnEffects conn_carrier m acts (says_up m.rec (Some t.body) (comes_to_end b calls (with_segment_call calls m.rec t c.now acts))) (closes_for z) [] fx) (sym goes) asks) all
      (subst (λ (z : Option Cause). Walk c n (view true true true true) (runs_of obj_nature c.conn m true fx ++ Holds (port_at c.conn 1) way.Up (rest m true fx) ∷ []) a (fetching q core stream given) (talked_on b start es None z) [] None ds) (sym goes) k))
  segment_did m s true fx _ comes is short (takes_none _ _ _ _ _ _ _ _ none says closes all) k = absurd (none s is)
  segment_did m s true fx d comes is short (ends_short _ _ cut hands) k = absurd (let z = cut in cc)
  segment_did m s true fx d comes is short (rests_still _ _ quiet asks) k = absurd (false≢true (sym (ap not comes) ∙ quiet))

  pub segment_walk : (m : Said) (s : SegmentParts) → comes_from_peer b 1 m ≡ true → IsLaidOut m.bytes s → length m.bytes < 2 ^ 32
      → Walk c n (view true true true true) (Offers (port_at c.conn 1) m ∷ []) a (fetching q core stream given) (talking b start calls None) [] None ds → SegmentDid c n ds b start calls q stream m s
  segment_walk m s comes is short k = let w = offer_conn k in segment_did m s w.0 w.1 w.2 comes is short w.3 w.4

  time_did : (done : Bool) (fx : Fx Obj Load) (d : Dialogue) → Converses conn_carrier (talking b start calls None) (time c.now done fx) d
      → Walk c n (view true true true true) (runs_of obj_nature c.conn silence done fx ++ Holds (port_at c.conn 4) way.Time None ∷ []) a (fetching q core stream given) d [] None ds → TimeDid c n ds b start calls q stream
  time_did false fx d by k = time_fails (conn_fails (Holds (port_at c.conn 4) way.Time None ∷ []) silence fx k)
  time_did true fx _ (takes_tick _ _ _ _ _ _ acts effects) k =
      time_does acts (entry_by b start reads going taken 4 way.Time refl silence (calls ++ conn_entry (calls_in (time_came c.now)) acts ∷ []) acts None None false fx effects k)
  time_did true fx d (ends_short _ _ cut hands) k = absurd (let z = cut in cc)
  time_did true fx d (rests_still _ _ quiet asks) k = absurd (let z = quiet in cc)

  pub time_walk : (k : Walk c n (view true true true true) (Ticks c.conn ∷ []) a (fetching q core stream given) (talking b start calls None) [] None ds) → k.scene.live c.conn ≡ true → TimeDid c n ds b start calls q stream
  time_walk k lives = let w = tick_conn k lives in time_did w.0 w.1 w.2 w.3 w.4
