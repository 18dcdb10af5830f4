-- What a begin does to the three: the Fetch hands it down, the fetch asks for its connection and gives it the request.
use Rattle.std.proofs.Common.{◌≡◌, ℕ, ◌-◌, ◌<◌, ◌^◌, ◌==◌, ◌&&◌, Bool, true, false, not, List, [], ◌∷◌, ◌++◌, length, map, take, drop, nat_le, Option, Some, None, refl, sym, ap, ◌∙◌, subst, append_assoc, append-nil, arith, if◌then◌else◌}
use Rattle.std.specs.List.{AllByRecursion}
use Rattle.std.specs.Option.{is_some}
use Rattle.std.proofs.lemmas.Bool.{false≢true, lt-ltb}
use Rattle.std.proofs.Math.Seq.{take-length}
use Rattle.std.proofs.lemmas.Option.{same_Some}
use Rattle.nb_terms.specs.declared.acts.Acts.{Acts}
use Rattle.nb_terms.specs.declared.cause.Cause.{Cause}
use Rattle.nb_ledger.specs.declared.event.Way.TheVariants as way
use Rattle.nb_effects.specs.declared.effects.Emit.{Emit}
use Rattle.nb_effects.specs.declared.effects.Few.{Few}
use Rattle.nb_effects.specs.declared.effects.Fx.{Fx}
use Rattle.nb_graph.specs.Whole.{port_at}
use Rattle.nb_graph.specs.Trace.{NodeEntry, Said, bytes_between, down, in_list, loads}
use Rattle.nb_graph.specs.Deeds.{Deed, Stage, Holds, Offers, Sends, closes_of, emit_of, few_of, returns_of, runs_of, said_of}
use Rattle.nb_streams.specs.Flows.{text_came}
use Rattle.nb_responses.specs.Requests.{request_text}
use Rattle.nb_tcp.specs.ConnHistory.{ConnEntry, calls_in, conn_entry, delivered, tcp_calls}
use Rattle.nb_tcp.specs.ConnPromises.{starting_acts}
use Rattle.nb_conns.specs.declared.conn_ask.ConnAsk.{ConnAsk}
use Rattle.nb_conns.specs.declared.conn_load.Lent.{Lent}
use Rattle.nb_conns.specs.declared.stream_tag.StreamTag.TheVariants.{Begin, Send}
use Rattle.nb_conns.specs.StreamTags.{stream_tag_number}
use Rattle.nb_conns.specs.ConnAsks.{conn_ask_in, link_of}
use Rattle.nb_conns.specs.ConnEffects.{ConnEffects, GoesBelow, closes_for, downs_for, emit_says, emits_of}
use Rattle.nb_conns.specs.Dialogues.{Converses, Dialogue, unopened, talking, closed_off, given_up, ends_short, is_asked, is_talking, rests_still, takes_text, talked_on}
use Rattle.nb_http.specs.Runs.{started}
use Rattle.nb_http.specs.Standing.{Core}
use Rattle.nb_nodes.specs.declared.load.Load.{Load}
use Rattle.nb_nodes.specs.declared.obj.Obj.{Obj}
use Rattle.nb_nodes.specs.Carriers.{conn_carrier, web_carrier}
use Rattle.nb_nodes.specs.Fetches.{AsksHandDown, AsksOfFetch, gathers, same_down, taken_below}
use Rattle.nb_nodes.specs.Objects.{obj_nature}
use Rattle.nb_webchains.specs.WebCalls.{begin_said}
use Rattle.nb_webnodes.specs.WebAsks.{AskParts, web_ask_in, web_ask_of}
use Rattle.nb_webnodes.specs.WebEffects.{web_says}
use Rattle.nb_webnodes.specs.WebTalks.{Fetched, ReadsOn, WebTalk, cut_short, ends_early, fetching, is_begun, stays_idle, web_unasked}
use Rattle.nb_webtalks.proofs.Scenes.{View}
use Rattle.nb_webtalks.proofs.Walking.{WebCall, Walk, view}
use Rattle.nb_webtalks.proofs.Steps.{conn_settles, fetch_settles, left_by, offer_fetch, send_down_lower, send_down_upper, some_more, web_settles}
use Rattle.nb_webtalks.proofs.Uppers.{RanOut, as_stages, conn_fails, fetch_fails, web_all_returns, web_fails}
use Rattle.nb_webtalks.proofs.Lowers.{OwesTo, Regains, asked_at, few_below, had, lent_of, runs_down}
use Rattle.nb_webtalks.proofs.Middle.{emits_stages, few_stages, said_same}
use Rattle.nb_webtalks.proofs.Rising.{few_loads, loads_in, none_up}
use Rattle.nb_webtalks.proofs.Calls.{conn_ends}

-- THE CONNECTION IS ENTERED FROM ABOVE

-- it goes on, or ended by itself
data DownDid (c : WebCall) (n : ℕ) (gs : List (Stage Obj Load)) (a : List (NodeEntry Obj Load)) (q : AskParts) (core : Core) (stream given : List ℕ) (d : Dialogue) (over : Option Cause) (says : List Said) (ds : List (Deed Obj Load)) : Type 0 where
  goes_down : over ≡ None → (p : Dialogue) → Regains d p → OwesTo [] p → Walk c n (view true true true true) gs a (fetching q core stream given) p says None ds → DownDid c n gs a q core stream given d over says ds
  breaks_down : (y : Cause) → over ≡ Some y → (b : List (NodeEntry Obj Load)) (p : Dialogue) → Regains d p → Walk c n (view false false false false) gs b cut_short p says (Some y) ds → DownDid c n gs a q core stream given d over says ds

module _ {c : WebCall} {n : ℕ} {a : List (NodeEntry Obj Load)} {q : AskParts} {core : Core} {stream given : List ℕ} {ms : List Said} {ds : List (Deed Obj Load)} (gs : List (Stage Obj Load)) (going : gathers a ≡ true) where
  below_by : (m : Said) (d : Dialogue) (acts : Acts) (fx : Fx Obj Load) → lent_of d ≡ None → ConnEffects conn_carrier m acts [] (closes_for acts.over) [] fx
      → Walk c n (view true true true true) (runs_of obj_nature c.conn m true fx ++ Holds (port_at c.conn 0) way.Down None ∷ gs) a (fetching q core stream given) d ms None ds
      → DownDid c n gs a q core stream given d acts.over (ms ++ downs_for m.rec acts) ds
  below_by m d acts fx home effects k =
      let rest : List (Stage Obj Load) = Holds (port_at c.conn 0) way.Down None ∷ gs in
      let no_loads : loads fx.ups ≡ [] = few_loads fx.ups ∙ ap loads_in (none_up m (emits_of fx.ups) effects.ups) in
      let one = few_below m (loads fx.ups) fx.downs effects.below (λ on. effects.windows ∙ ap in_list (sym home))
      (as_stages (few_of obj_nature c.conn m fx.downs ++ (closes_of c.conn (closes_for acts.over) ++ rest))
      (ap (λ z. z ++ rest) (runs_down (emit_says conn_carrier m) c.conn m fx (closes_for acts.over) effects.no_make effects.ups effects.closes)
      ∙ append_assoc (few_of obj_nature c.conn m fx.downs) (closes_of c.conn (closes_for acts.over)) rest) k) in
      after acts.over one.now_at one.regains (subst (λ z. OwesTo z one.now_at) no_loads one.owes)
      (subst (λ z. Walk c n (view true true true true) (closes_of c.conn (closes_for acts.over) ++ rest) a (fetching q core stream given) one.now_at (ms ++ z) None ds) effects.downs one.walk)
    where
      after : (over : Option Cause) (p : Dialogue) → Regains d p → OwesTo [] p
          → Walk c n (view true true true true) (closes_of c.conn (closes_for over) ++ Holds (port_at c.conn 0) way.Down None ∷ gs) a (fetching q core stream given) p (ms ++ downs_for m.rec acts) None ds
          → DownDid c n gs a q core stream given d over (ms ++ downs_for m.rec acts) ds
      after None p r owes w = goes_down refl p r owes (conn_settles (left_by w))
      after (Some y) p r owes w = let b = conn_ends going w in breaks_down y refl b.above p r (conn_settles (left_by b.walk))

-- a connection that goes on, and of which nothing is lent
pub home_at : (b : ConnAsk) (start : ℕ) (p : Dialogue) → asked_at p ≡ Some (b, start) → is_talking p ≡ true → lent_of p ≡ None → p ≡ talking b start (had p) None
home_at b start unopened asked on home = absurd (let z = on in cc)
home_at b start (talking x since calls out) asked on home = let same = same_Some (x, since) (b, start) asked in let one : x ≡ b = ap (λ (z : ConnAsk × ℕ). z.0) same in let two : since ≡ start = ap (λ (z : ConnAsk × ℕ). z.1) same in ap (λ z. talking z since calls out) one ∙ ap (λ z. talking b z calls out) two ∙ ap (talking b start calls) home
home_at b start (closed_off x since calls) asked on home = absurd (let z = on in cc)
home_at b start given_up asked on home = absurd (let z = on in cc)

pub nothing_owed : (o : Option Lent) → [] ≡ in_list o → o ≡ None
nothing_owed None e = refl
nothing_owed (Some l) e = absurd (let z = e in cc)

-- THE FETCH ASKS

two_below : (x : ℕ) (m first second : Said) (f : Few (Emit Load)) → map (web_says web_carrier m) (emits_of f) ≡ first ∷ second ∷ [] → AllByRecursion GoesBelow (emits_of f)
    → (ls ms : List Load) × (few_of obj_nature x m f ≡ Sends (port_at x 1) first ∷ (returns_of x ls ++ Sends (port_at x 1) second ∷ returns_of x ms))
two_below x m first second f says below = let y = by (emits_of f) says below in (y.0, y.1, few_stages x m f ∙ y.2)
  where
    emitted : (e : Emit Load) (z : Said) → e.slot ≡ 1 → web_says web_carrier m e ≡ z → emit_of obj_nature x m (Some e) ≡ Sends (port_at x 1) z ∷ returns_of x (in_list e.load)
    emitted e z slot is = ap (λ s. Sends (port_at x s) (said_of obj_nature m e) ∷ returns_of x (in_list e.load)) slot ∙ ap (λ y. Sends (port_at x 1) y ∷ returns_of x (in_list e.load)) (said_same m e ∙ is)

    by : (es : List (Emit Load)) → map (web_says web_carrier m) es ≡ first ∷ second ∷ [] → AllByRecursion GoesBelow es → (ls ms : List Load) × (emits_stages x m es ≡ Sends (port_at x 1) first ∷ (returns_of x ls ++ Sends (port_at x 1) second ∷ returns_of x ms))
    by [] h b = absurd (let z = h in cc)
    by (e ∷ []) h b = absurd (let z = h in cc)
    by (e ∷ (g ∷ (y ∷ es))) h b = absurd (let z = h in cc)
    by (e ∷ (g ∷ [])) h b =
        let one : web_says web_carrier m e ≡ first = cc in
        let two : web_says web_carrier m g ≡ second = cc in (
          in_list e.load,
          in_list g.load,
          ap (λ z. z ++ (emit_of obj_nature x m (Some g) ++ [])) (emitted e first b.0 one) ∙ ap (λ z. Sends (port_at x 1) first ∷ (returns_of x (in_list e.load) ++ z)) (append-nil (emit_of obj_nature x m (Some g)) ∙ emitted g second b.1.0 two),
        )

asks_some : (b : Bool) (x : ConnAsk) (one two : List ℕ) (q : AskParts) → (if b then Some (record { conn = x; host = one; path = two }) else None) ≡ Some q → x ≡ q.conn
asks_some true x one two q e = ap (λ (z : AskParts). z.conn) (same_Some (record { conn = x; host = one; path = two }) q e)
asks_some false x one two q e = absurd (let z = e in cc)

pub asks_conn : (o : Option ConnAsk) (host : ℕ) (bytes : List ℕ) (q : AskParts) → web_ask_of o host bytes ≡ Some q → o ≡ Some q.conn
asks_conn None host bytes q e = absurd (let z = e in cc)
asks_conn (Some x) host bytes q e = ap Some (asks_some (nat_le host (length bytes)) x (take host bytes) (drop host bytes) q e)

-- THE FETCH HANDS IT DOWN

whole_bytes : (bytes : List ℕ) → bytes_between bytes 0 (length bytes) ≡ bytes
whole_bytes bytes = ap (λ k. take k bytes) (let z : length bytes - 0 ≡ length bytes = omega arith in z) ∙ take-length bytes

hands_down : (x rec host : ℕ) (bytes : List ℕ) (fx : Fx Obj Load) → length bytes < 2 ^ 32 → AsksHandDown true (begin_said rec host bytes) fx
    → runs_of obj_nature x (begin_said rec host bytes) true fx ≡ Sends (port_at x 1) (begin_said rec host bytes) ∷ []
hands_down x rec host bytes fx short asks =
    let m : Said = begin_said rec host bytes in
    let down : fx.downs.first ≡ Some (same_down m) = asks.down ∙ rw (lt-ltb (length bytes) (2 ^ 32) short) refl in
    let all : runs_of obj_nature x m true fx ≡ Sends (port_at x 1) (said_of obj_nature m (same_down m)) ∷ [] = rw (asks.no_make, down, asks.one, asks.no_up, asks.no_ups, asks.no_close) refl in
    all ∙ ap (λ z. Sends (port_at x 1) (record m { bytes = z }) ∷ []) (whole_bytes bytes)

-- WHAT CAME OF A BEGIN

-- memory ran out; it goes on; or the connection ended by itself
pub data BeginDid (c : WebCall) (n : ℕ) (ds : List (Deed Obj Load)) (q : AskParts) (rec : ℕ) : Type 0 where
  begin_fails : RanOut ds → BeginDid c n ds q rec
  begin_goes : (core : Core) (a : List (NodeEntry Obj Load)) (calls : List ConnEntry) (acts : Acts) (p : Dialogue) → ReadsOn core [] [] → gathers a ≡ true → taken_below a ≡ [] → tcp_calls calls ≡ [] → delivered calls ≡ [] → acts.over ≡ None
      → Regains (talked_on q.conn c.now (calls ++ conn_entry (calls_in (text_came (request_text q.host q.conn.peer_port q.path) c.now)) acts ∷ []) None acts.over) p → OwesTo [] p
      → Walk c n (view true true true true) [] a (fetching q core [] []) p (downs_for rec (starting_acts (link_of q.conn)) ++ downs_for rec acts) None ds → BeginDid c n ds q rec
  begin_breaks : (a : List (NodeEntry Obj Load)) (calls : List ConnEntry) (acts : Acts) (y : Cause) (p : Dialogue) → tcp_calls calls ≡ [] → acts.over ≡ Some y
      → Regains (talked_on q.conn c.now (calls ++ conn_entry (calls_in (text_came (request_text q.host q.conn.peer_port q.path) c.now)) acts ∷ []) None acts.over) p
      → Walk c n (view false false false false) [] a cut_short p (downs_for rec (starting_acts (link_of q.conn)) ++ downs_for rec acts) (Some y) ds → BeginDid c n ds q rec

-- what is still to happen above then
abbrev hs_after : WebCall → List Load → List (Stage Obj Load)
hs_after c ls = returns_of c.web ls ++ Holds (port_at c.web 0) way.Down None ∷ Holds (port_at c.fetch 0) way.Down None ∷ []

leaves_all : {c : WebCall} {n : ℕ} {ds : List (Deed Obj Load)} {v : View} {a : List (NodeEntry Obj Load)} {r : WebTalk} {p : Dialogue} {ms : List Said} {z : Option Cause} (ls : List Load) → Walk c n v (hs_after c ls) a r p ms z ds → Walk c n v [] a r p ms z ds
leaves_all ls k = fetch_settles (left_by (web_settles (left_by (web_all_returns ls k))))

module _ {c : WebCall} {n : ℕ} {a : List (NodeEntry Obj Load)} {ds : List (Deed Obj Load)} {q : AskParts} {core : Core} (rec : ℕ) (reads : ReadsOn core [] []) (going : gathers a ≡ true) (taken : taken_below a ≡ []) where
  -- THE REQUEST

  text_by : (ls : List Load) (m : Said) (calls : List ConnEntry) (done : Bool) (fx : Fx Obj Load) (d : Dialogue) (ms : List Said) → m.tag ≡ stream_tag_number Send → m.rec ≡ rec → m.bytes ≡ request_text q.host q.conn.peer_port q.path → tcp_calls calls ≡ [] → delivered calls ≡ []
      → ms ≡ downs_for rec (starting_acts (link_of q.conn)) → Converses conn_carrier (talking q.conn c.now calls None) (down m c.now done fx) d
      → Walk c n (view true true true true) (runs_of obj_nature c.conn m done fx ++ Holds (port_at c.conn 0) way.Down None ∷ hs_after c ls) a (fetching q core [] []) d ms None ds → BeginDid c n ds q rec
  text_by ls m calls false fx d ms tag same text none nothing told by k = begin_fails (conn_fails (Holds (port_at c.conn 0) way.Down None ∷ hs_after c ls) m fx k)
  text_by ls m calls true fx d ms tag same text none nothing told (ends_short _ _ cut hands) k = absurd (let z = cut in cc)
  text_by ls m calls true fx d ms tag same text none nothing told (rests_still _ _ quiet asks) k = absurd (false≢true (sym (ap (λ z. not (z == stream_tag_number Send)) tag) ∙ quiet))
  text_by ls m calls true fx _ ms tag same text none nothing told (takes_text _ _ _ _ _ _ _ acts was effects) k =
      let at : List ℕ → Dialogue = λ bytes. talked_on q.conn c.now (calls ++ conn_entry (calls_in (text_came bytes c.now)) acts ∷ []) None acts.over in
      ends acts (subst (λ z. DownDid c n (hs_after c ls) a q core [] [] (at z) acts.over (ms ++ downs_for m.rec acts) ds) text (below_by (hs_after c ls) going m (at m.bytes) acts fx (home acts.over m.bytes acts) effects k))
    where
      home : (over : Option Cause) (bytes : List ℕ) (acts : Acts) → lent_of (talked_on q.conn c.now (calls ++ conn_entry (calls_in (text_came bytes c.now)) acts ∷ []) None over) ≡ None
      home None bytes acts = refl
      home (Some y) bytes acts = refl

      said : (acts : Acts) → ms ++ downs_for m.rec acts ≡ downs_for rec (starting_acts (link_of q.conn)) ++ downs_for rec acts
      said acts = ap (λ z. z ++ downs_for m.rec acts) told ∙ ap (λ z. downs_for rec (starting_acts (link_of q.conn)) ++ downs_for z acts) same

      ends : (acts : Acts) → DownDid c n (hs_after c ls) a q core [] [] (talked_on q.conn c.now (calls ++ conn_entry (calls_in (text_came (request_text q.host q.conn.peer_port q.path) c.now)) acts ∷ []) None acts.over) acts.over (ms ++ downs_for m.rec acts) ds
          → BeginDid c n ds q rec
      ends acts (goes_down over p r owes w) = begin_goes core a calls acts p reads going taken none nothing over r owes (subst (λ z. Walk c n (view true true true true) [] a (fetching q core [] []) p z None ds) (said acts) (leaves_all ls w))
      ends acts (breaks_down y over b p r w) = begin_breaks b calls acts y p none over r (subst (λ z. Walk c n (view false false false false) [] b cut_short p z (Some y) ds) (said acts) (leaves_all ls w))

  text_walk : (ls : List Load) (m : Said) (p : Dialogue) (ms : List Said) → m.tag ≡ stream_tag_number Send → m.rec ≡ rec → m.bytes ≡ request_text q.host q.conn.peer_port q.path
      → ms ≡ downs_for rec (starting_acts (link_of q.conn)) → Regains (talking q.conn c.now [] None) p → OwesTo [] p
      → Walk c n (view true true true true) (Sends (port_at c.web 1) m ∷ hs_after c ls) a (fetching q core [] []) p ms None ds → BeginDid c n ds q rec
  text_walk ls m p ms tag same text told r owes k =
      let at = home_at q.conn c.now p r.asked r.talks (nothing_owed (lent_of p) (owes r.talks)) in
      let w = send_down_lower (subst (λ z. Walk c n (view true true true true) (Sends (port_at c.web 1) m ∷ hs_after c ls) a (fetching q core [] []) z ms None ds) at k) in
      text_by ls m (had p) w.0 w.1 w.2 ms tag same text (ap tcp_calls r.grows ∙ r.silent) (ap delivered r.grows ∙ r.holds) told w.3 w.4

  -- THE SYN

  syn_by : (ls ms2 : List Load) (m second : Said) (done : Bool) (fx : Fx Obj Load) (d : Dialogue) → m.tag ≡ stream_tag_number Begin → m.rec ≡ rec → conn_ask_in m.bytes ≡ Some q.conn → second.tag ≡ stream_tag_number Send → second.rec ≡ rec → second.bytes ≡ request_text q.host q.conn.peer_port q.path
      → Converses conn_carrier unopened (down m c.now done fx) d
      → Walk c n (view true true true true) (runs_of obj_nature c.conn m done fx ++ Holds (port_at c.conn 0) way.Down None ∷ (returns_of c.web ls ++ Sends (port_at c.web 1) second ∷ hs_after c ms2)) a (fetching q core [] []) d [] None ds → BeginDid c n ds q rec
  syn_by ls ms2 m second false fx d tag same asks tag2 same2 text by k = begin_fails (conn_fails (Holds (port_at c.conn 0) way.Down None ∷ (returns_of c.web ls ++ Sends (port_at c.web 1) second ∷ hs_after c ms2)) m fx k)
  syn_by ls ms2 m second true fx d tag same asks tag2 same2 text (ends_short _ _ cut hands) k = absurd (let z = cut in cc)
  syn_by ls ms2 m second true fx d tag same asks tag2 same2 text (rests_still _ _ quiet idle) k = absurd (false≢true (sym (ap (λ z. not ((z == stream_tag_number Begin) && is_some (conn_ask_in m.bytes))) tag ∙ ap (λ z. not (is_some z)) asks) ∙ quiet))
  syn_by ls ms2 m second true fx _ tag same asks tag2 same2 text (is_asked b _ _ _ was found effects) k =
      let one : b ≡ q.conn = same_Some b q.conn (sym found ∙ asks) in
      ends (subst (λ z. DownDid c n (returns_of c.web ls ++ Sends (port_at c.web 1) second ∷ hs_after c ms2) a q core [] [] (talking z c.now [] None) None (downs_for m.rec (starting_acts (link_of z))) ds) one
      (below_by (returns_of c.web ls ++ Sends (port_at c.web 1) second ∷ hs_after c ms2) going m (talking b c.now [] None) (starting_acts (link_of b)) fx refl effects k))
    where
      ends : DownDid c n (returns_of c.web ls ++ Sends (port_at c.web 1) second ∷ hs_after c ms2) a q core [] [] (talking q.conn c.now [] None) None (downs_for m.rec (starting_acts (link_of q.conn))) ds → BeginDid c n ds q rec
      ends (goes_down over p r owes w) = text_walk ms2 second p (downs_for m.rec (starting_acts (link_of q.conn))) tag2 same2 text (ap (λ z. downs_for z (starting_acts (link_of q.conn))) same) r owes (web_all_returns ls w)
      ends (breaks_down y over b p r w) = absurd (let z = over in cc)

module _ {c : WebCall} {n : ℕ} {ds : List (Deed Obj Load)} {q : AskParts} (rec host : ℕ) (bytes : List ℕ) (asked : web_ask_in host bytes ≡ Some q) (short : length bytes < 2 ^ 32) where
  web_by : (a : List (NodeEntry Obj Load)) → gathers a ≡ true → taken_below a ≡ [] → (done : Bool) (fx : Fx Obj Load) (r : WebTalk) → Fetched web_carrier web_unasked (down (begin_said rec host bytes) c.now done fx) r
      → Walk c n (view true true true true) (runs_of obj_nature c.web (begin_said rec host bytes) done fx ++ Holds (port_at c.web 0) way.Down None ∷ Holds (port_at c.fetch 0) way.Down None ∷ []) a r unopened [] None ds → BeginDid c n ds q rec
  web_by a going taken false fx r by k = begin_fails (web_fails (Holds (port_at c.web 0) way.Down None ∷ Holds (port_at c.fetch 0) way.Down None ∷ []) (begin_said rec host bytes) fx k)
  web_by a going taken true fx r (ends_early _ _ cut hands) k = absurd (let z = cut in cc)
  web_by a going taken true fx r (stays_idle _ _ quiet idle) k = absurd (false≢true (sym (ap (λ z. not (is_some z)) asked) ∙ quiet))
  web_by a going taken true fx _ (is_begun b core _ _ _ tag found has on effects) k =
      let m : Said = begin_said rec host bytes in
      let first : Said = record { tag = stream_tag_number Begin; rec = rec; a = 0; b = 0; bytes = take 16 bytes } in
      let second : AskParts → Said = λ x. record { tag = stream_tag_number Send; rec = rec; a = 0; b = 0; bytes = request_text x.host x.conn.peer_port x.path } in
      let one : b ≡ q = same_Some b q (sym found ∙ asked) in
      let gs : List (Stage Obj Load) = Holds (port_at c.web 0) way.Down None ∷ Holds (port_at c.fetch 0) way.Down None ∷ [] in
      let two = two_below c.web m first (second b) fx.downs effects.downs effects.below in
      let stages : runs_of obj_nature c.web m true fx ++ gs ≡ Sends (port_at c.web 1) first ∷ (returns_of c.web two.0 ++ Sends (port_at c.web 1) (second b) ∷ (returns_of c.web two.1 ++ gs)) =
      ap (λ z. z ++ gs) (runs_down (web_says web_carrier m) c.web m fx [] effects.no_make effects.ups effects.closes ∙ append-nil (few_of obj_nature c.web m fx.downs) ∙ two.2)
      ∙ ap (λ z. Sends (port_at c.web 1) first ∷ z) (append_assoc (returns_of c.web two.0) (Sends (port_at c.web 1) (second b) ∷ returns_of c.web two.1) gs) in
      let reads : ReadsOn core [] [] = record { rec = rec; ran = started rec core has on; stands = has; goes_on = on } in
      let w = send_down_lower
      (subst (λ z. Walk c n (view true true true true) (Sends (port_at c.web 1) first ∷ (returns_of c.web two.0 ++ Sends (port_at c.web 1) (second z) ∷ (returns_of c.web two.1 ++ gs))) a (fetching z core [] []) unopened [] None ds) one
      (as_stages (Sends (port_at c.web 1) first ∷ (returns_of c.web two.0 ++ Sends (port_at c.web 1) (second b) ∷ (returns_of c.web two.1 ++ gs))) stages k)) in
      syn_by rec reads going taken two.0 two.1 first (second q) w.0 w.1 w.2 refl refl (asks_conn (conn_ask_in (take 16 bytes)) host (drop 16 bytes) q asked) refl refl refl w.3 w.4

module _ {c : WebCall} {n : ℕ} {ds : List (Deed Obj Load)} {q : AskParts} (rec host : ℕ) (bytes : List ℕ) (asked : web_ask_in host bytes ≡ Some q) (short : length bytes < 2 ^ 32) where
  fetch_by : (done : Bool) (fx : Fx Obj Load) → AsksOfFetch [] (down (begin_said rec host bytes) c.now done fx)
      → Walk c n (view true true true true) (runs_of obj_nature c.fetch (begin_said rec host bytes) done fx ++ Holds (port_at c.fetch 0) way.Down None ∷ []) (down (begin_said rec host bytes) c.now done fx ∷ []) web_unasked unopened [] None ds → (m : ℕ) × BeginDid c m ds q rec
  fetch_by false fx asks k = (n, begin_fails (fetch_fails (Holds (port_at c.fetch 0) way.Down None ∷ []) (begin_said rec host bytes) fx k))
  fetch_by true fx asks k =
      let gs : List (Stage Obj Load) = Holds (port_at c.fetch 0) way.Down None ∷ [] in
      let w = as_stages (Sends (port_at c.fetch 1) (begin_said rec host bytes) ∷ gs) (ap (λ z. z ++ gs) (hands_down c.fetch rec host bytes fx short (asks refl))) k in
      let s = some_more w in
      let y = send_down_upper s.0 s.1 w in
      (s.0, web_by rec host bytes asked short (down (begin_said rec host bytes) c.now true fx ∷ []) refl refl y.0 y.1 y.2 y.3 y.4)

  pub begin_walk : Walk c n (view true true true true) (Offers (port_at c.fetch 0) (begin_said rec host bytes) ∷ []) [] web_unasked unopened [] None ds → (m : ℕ) × BeginDid c m ds q rec
  begin_walk k = let w = offer_fetch k in fetch_by w.0 w.1 w.2 w.3
