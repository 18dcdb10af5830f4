-- What an entry of the connection does to the three, as a walk to their end.
use Rattle.std.proofs.Common.{◌≡◌, ℕ, Bool, true, false, List, [], ◌∷◌, ◌++◌, Option, Some, None, refl, ap, ◌∙◌, subst, append_assoc, arith}
use Rattle.nb_terms.specs.declared.acts.Acts.{Acts}
use Rattle.nb_terms.specs.declared.cause.Cause.{Cause}
use Rattle.nb_ledger.specs.declared.event.Way.{Way}
use Rattle.nb_ledger.specs.declared.event.Way.TheVariants as way
use Rattle.nb_effects.specs.declared.effects.Fx.{Fx}
use Rattle.nb_graph.specs.Whole.{port_at}
use Rattle.nb_graph.specs.Trace.{NodeEntry, Said, closed, in_list, loads, silence}
use Rattle.nb_graph.specs.Deeds.{Deed, Stage, Holds, Closes, MustUnplug, Settles, closes_of, few_of, runs_of, settles_by}
use Rattle.nb_tcp.specs.ConnHistory.{ConnEntry}
use Rattle.nb_conns.specs.declared.conn_ask.ConnAsk.{ConnAsk}
use Rattle.nb_conns.specs.declared.conn_load.Lent.{Lent}
use Rattle.nb_conns.specs.ConnEffects.{ConnEffects, SaysNothing, closes_for, downs_for, emits_of}
use Rattle.nb_conns.specs.ConnLoads.{windows_in}
use Rattle.nb_conns.specs.Dialogues.{Dialogue, closed_off, talked_on}
use Rattle.nb_http.specs.Standing.{Core}
use Rattle.nb_nodes.specs.declared.load.Load.{Load}
use Rattle.nb_nodes.specs.declared.obj.Obj.{Obj}
use Rattle.nb_nodes.specs.Carriers.{conn_carrier, web_carrier}
use Rattle.nb_nodes.specs.Fetches.{gathers, taken_below}
use Rattle.nb_nodes.specs.Objects.{obj_nature}
use Rattle.nb_webnodes.specs.WebAsks.{AskParts}
use Rattle.nb_webnodes.specs.WebTalks.{Fetched, ReadsOn, WebTalk, cut_short, ends_early, fetching, stays_idle, web_decided}
use Rattle.nb_webtalks.proofs.Upward.{says_up, sent_bytes}
use Rattle.nb_webtalks.proofs.Scenes.{View}
use Rattle.nb_webtalks.proofs.Walking.{WebCall, Walk, view}
use Rattle.nb_webtalks.proofs.Steps.{close_lower_up, close_network, conn_settles, left_by, shut_conn_top, shut_network, some_more, unplug_lower_up, weaker}
use Rattle.nb_webtalks.proofs.Uppers.{RanOut, as_stages, fetch_closed, runs_silent}
use Rattle.nb_webtalks.proofs.Lowers.{IsBegun, OwesTo, Regains, few_below, owes_nothing, regains_both}
use Rattle.nb_webtalks.proofs.Middle.{Answers, emits_stages, few_stages}
use Rattle.nb_webtalks.proofs.Rising.{ClosingOf, Upped, closing_after, few_loads, up_decided, up_failed, up_goes, ups_walk}

-- THE CONNECTION ENDS BY ITSELF

hears_end : {q : AskParts} {core : Core} {stream given : List ℕ} (p : WebTalk) (x : Cause) (now : ℕ) (fx : Fx Obj Load) → Fetched {L = Load} web_carrier (fetching q core stream given) (closed 1 x now fx) p → (p ≡ cut_short) × SaysNothing fx × (fx.closes.items ≡ (0, x) ∷ [])
hears_end _ x now fx (ends_early _ _ cut hands) = (refl, hands.0, hands.1)
hears_end _ x now fx (stays_idle _ _ quiet asks) = absurd (let z = quiet in cc)

-- all is closed with its cause
pub record Broke (c : WebCall) (n : ℕ) (gs : List (Stage Obj Load)) (d : Dialogue) (ms : List Said) (y : Cause) (ds : List (Deed Obj Load)) : Type 0 where
  pub above : List (NodeEntry Obj Load)
  pub walk : Walk c n (view false false false false) gs above cut_short d ms (Some y) ds

pub conn_ends : {c : WebCall} {n : ℕ} {gs : List (Stage Obj Load)} {a : List (NodeEntry Obj Load)} {d : Dialogue} {ms : List Said} {ds : List (Deed Obj Load)} {q : AskParts} {core : Core} {stream given : List ℕ} {y : Cause} → gathers a ≡ true
    → Walk c n (view true true true true) (Closes (port_at c.conn 0) y ∷ Closes (port_at c.conn 1) y ∷ gs) a (fetching q core stream given) d ms None ds → Broke c n gs d ms y ds
conn_ends {c = c} {n = n} {gs = gs} {a = a} {d = d} {ms = ms} {ds = ds} {y = y} going k =
    let s = some_more k in
    let w = close_lower_up s.0 s.1 k in
    let h = hears_end w.1 y c.now w.0 w.2 in
    let hs : List (Stage Obj Load) = Holds (port_at c.web 1) way.Close None ∷ MustUnplug (port_at c.conn 0) (port_at c.web 1) ∷ Closes (port_at c.conn 1) y ∷ gs in
    let one : Walk c s.0 (view true true false true) (runs_of obj_nature c.web silence true w.0 ++ hs) a cut_short d ms (Some y) ds =
    subst (λ z. Walk c s.0 (view true true false true) (runs_of obj_nature c.web silence true w.0 ++ hs) a z d ms (Some y) ds) h.0 w.3 in
    let two = fetch_closed going (as_stages (Closes (port_at c.web 0) y ∷ hs) (ap (λ (z : List (Stage Obj Load)). z ++ hs) (runs_silent c.web silence w.0 ((0, y) ∷ []) h.1 h.2)) one) in
    record { above = two.above; walk = weaker (let x = s.1 in omega (arith, x)) (close_network (unplug_lower_up (left_by two.walk))) }

-- WHAT CAME OF A CALL

-- An entry of the connection left it so, and what it sent went down. Memory ran out; all goes on; the response was decided; or the connection ended by itself.
pub data CallDid (c : WebCall) (n : ℕ) (ds : List (Deed Obj Load)) (d : Dialogue) (over : Option Cause) (ms : List Said) (q : AskParts) (rec : ℕ) (stream bytes : List ℕ) (ended : Bool) : Type 0 where
  did_fail : RanOut ds → CallDid c n ds d over ms q rec stream bytes ended
  did_go : (core : Core) (given : List ℕ) (a : List (NodeEntry Obj Load)) (p : Dialogue) → over ≡ None → ended ≡ false → ReadsOn core (stream ++ bytes) given → gathers a ≡ true → taken_below a ≡ given → Regains d p → OwesTo [] p
      → Walk c n (view true true true true) [] a (fetching q core (stream ++ bytes) given) p ms None ds → CallDid c n ds d over ms q rec stream bytes ended
  did_decide : (core : Core) (taken later given : List ℕ) (by_end : Bool) (x : Cause) (a : List (NodeEntry Obj Load)) (p : Dialogue) (net : Bool) (told : List Said) (v : View) → stream ++ bytes ≡ taken ++ later → (by_end ≡ true → (later ≡ []) × (ended ≡ true))
      → Answers a rec by_end core taken given x → ClosingOf d p net ms told → Walk c n v [] a (web_decided q core taken given (Some x)) p told (Some x) ds → CallDid c n ds d over ms q rec stream bytes ended
  did_break : (core : Core) (given : List ℕ) (y : Cause) (a : List (NodeEntry Obj Load)) (p : Dialogue) → over ≡ Some y → ended ≡ false → ReadsOn core (stream ++ bytes) given → Regains d p
      → Walk c n (view false false false false) [] a cut_short p ms (Some y) ds → CallDid c n ds d over ms q rec stream bytes ended

-- the entry is left
leaves_conn : {c : WebCall} {n : ℕ} {v : View} {a : List (NodeEntry Obj Load)} {r : WebTalk} {d : Dialogue} {ms : List Said} {z : Option Cause} {ds : List (Deed Obj Load)} (j : ℕ) (by : Way) → settles_by {N = Obj} {L = Load} by c.conn ≡ Settles c.conn ∷ []
    → Walk c n v (Holds (port_at c.conn j) by None ∷ []) a r d ms z ds → Walk c n v [] a r d ms z ds
leaves_conn j by is k = conn_settles (as_stages _ (ap (λ z. z ++ []) is) (left_by k))

module _ {c : WebCall} {n : ℕ} {ds : List (Deed Obj Load)} (j : ℕ) (by : Way) (is : settles_by {N = Obj} {L = Load} by c.conn ≡ Settles c.conn ∷ []) where
  closes_last : {a : List (NodeEntry Obj Load)} {r : WebTalk} {p : Dialogue} {told : List Said} {x : Cause} (net : Bool) (over : Option Cause) → Walk c n (view false false false net) (closes_of c.conn (closes_for over) ++ Holds (port_at c.conn j) by None ∷ []) a r p told (Some x) ds
      → (v : View) × Walk c n v [] a r p told (Some x) ds
  closes_last net None k = (view false false false net, leaves_conn j by is k)
  closes_last true (Some y) k = (view false false false false, leaves_conn j by is (close_network (shut_conn_top k)))
  closes_last false (Some y) k = (view false false false false, leaves_conn j by is (shut_network (shut_conn_top k)))

  after_ups : {d : Dialogue} {ms : List Said} {q : AskParts} {rec : ℕ} {stream bytes : List ℕ} {ended : Bool} (over : Option Cause) → Upped c n (closes_of c.conn (closes_for over) ++ Holds (port_at c.conn j) by None ∷ []) d ms ds q rec stream bytes ended [] → CallDid c n ds d over ms q rec stream bytes ended
  after_ups over (up_failed out) = did_fail out
  after_ups None (up_goes core given a p off reads going taken r owes k) = did_go core given a p refl off reads going taken r owes (leaves_conn j by is k)
  after_ups (Some y) (up_goes core given a p off reads going taken r owes k) = let w = conn_ends going k in did_break core given y w.above p refl off reads r (leaves_conn j by is w.walk)
  after_ups over (up_decided core taken later given by_end x a p net told cut whole answers closing k) = let w = closes_last net over k in did_decide core taken later given by_end x a p net told w.0 cut whole answers closing w.1

-- AN ENTRY OF THE CONNECTION

-- where the connection is after an entry, with what is lent then
owes_out : (b : ConnAsk) (start : ℕ) (calls : List ConnEntry) (out : Option Lent) (over : Option Cause) (ls : List Load) → windows_in conn_carrier ls ≡ in_list out → OwesTo ls (talked_on b start calls out over)
owes_out b start calls out None ls is = λ _. is
owes_out b start calls out (Some y) ls is = owes_nothing ls (closed_off b start calls) refl

begun_out : (b : ConnAsk) (start : ℕ) (calls : List ConnEntry) (out : Option Lent) (over : Option Cause) → IsBegun (talked_on b start calls out over)
begun_out b start calls out None = tt
begun_out b start calls out (Some y) = tt

-- an entry of the connection that sends down and up, and closes
runs_both : (x : ℕ) (m : Said) (fx : Fx Obj Load) (xs : List (ℕ × Cause)) (gs : List (Stage Obj Load)) → fx.makes ≡ None → fx.closes.items ≡ xs
    → runs_of obj_nature x m true fx ++ gs ≡ few_of obj_nature x m fx.downs ++ (emits_stages x m (emits_of fx.ups) ++ (closes_of x xs ++ gs))
runs_both x m fx xs gs none closes =
    let downs = few_of obj_nature x m fx.downs in
    let ups = emits_stages x m (emits_of fx.ups) in
    let all : runs_of obj_nature x m true fx ≡ downs ++ (ups ++ closes_of x xs) = rw (none, few_stages x m fx.ups, closes) refl in
    ap (λ z. z ++ gs) all ∙ append_assoc downs (ups ++ closes_of x xs) gs ∙ ap (λ z. downs ++ z) (append_assoc ups (closes_of x xs) gs)

module _ {c : WebCall} {n : ℕ} {a : List (NodeEntry Obj Load)} {ds : List (Deed Obj Load)} {q : AskParts} {core : Core} {stream given : List ℕ} (b : ConnAsk) (start : ℕ) (reads : ReadsOn core stream given) (going : gathers a ≡ true) (taken : taken_below a ≡ given) where
  -- its segments go down, bytes go up, and it ends or goes on
  pub entry_by : (j : ℕ) (by : Way) → settles_by {N = Obj} {L = Load} by c.conn ≡ Settles c.conn ∷ [] → (m : Said) (more : List ConnEntry) (acts : Acts) (out : Option Lent) (sent : Option (List ℕ)) (ended : Bool) (fx : Fx Obj Load)
      → ConnEffects conn_carrier m acts (says_up m.rec sent ended) (closes_for acts.over) (in_list out) fx
      → Walk c n (view true true true true) (runs_of obj_nature c.conn m true fx ++ Holds (port_at c.conn j) by None ∷ []) a (fetching q core stream given) (talked_on b start more out acts.over) [] None ds
      → CallDid c n ds (talked_on b start more out acts.over) acts.over (downs_for m.rec acts) q m.rec stream (sent_bytes sent) ended
  entry_by j by settles m more acts out sent ended fx effects k =
      let d : Dialogue = talked_on b start more out acts.over in
      let hs : List (Stage Obj Load) = closes_of c.conn (closes_for acts.over) ++ Holds (port_at c.conn j) by None ∷ [] in
      let one = few_below m (loads fx.ups) fx.downs effects.below (owes_out b start more out acts.over (loads fx.downs ++ loads fx.ups) effects.windows)
      (as_stages (few_of obj_nature c.conn m fx.downs ++ (emits_stages c.conn m (emits_of fx.ups) ++ hs)) (runs_both c.conn m fx (closes_for acts.over) (Holds (port_at c.conn j) by None ∷ []) effects.no_make effects.closes) k) in
      let two = ups_walk m hs reads going taken (one.regains.begun (begun_out b start more out acts.over)) sent ended (emits_of fx.ups) effects.ups effects.above (subst (λ z. OwesTo z one.now_at) (few_loads fx.ups) one.owes) one.walk in
      subst (λ z. CallDid c n ds d acts.over z q m.rec stream (sent_bytes sent) ended) effects.downs (after_downs one.regains (after_ups j by settles acts.over two))
    where
      after_downs : {d p : Dialogue} {over : Option Cause} {told : List Said} {bytes : List ℕ} → Regains d p → CallDid c n ds p over told q m.rec stream bytes ended → CallDid c n ds d over told q m.rec stream bytes ended
      after_downs r (did_fail out) = did_fail out
      after_downs r (did_go core2 given2 a2 p2 over off reads2 going2 taken2 r2 owes w) = did_go core2 given2 a2 p2 over off reads2 going2 taken2 (regains_both r r2) owes w
      after_downs r (did_decide core2 taken2 later given2 by_end x a2 p2 net told v cut whole answers closing w) = did_decide core2 taken2 later given2 by_end x a2 p2 net told v cut whole answers (closing_after r closing) w
      after_downs r (did_break core2 given2 y a2 p2 over off reads2 r2 w) = did_break core2 given2 y a2 p2 over off reads2 (regains_both r r2) w
