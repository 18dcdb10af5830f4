-- What the connection sends up in a call, and what comes of it.
use Rattle.std.proofs.Common.{◌≡◌, ℕ, Bool, true, false, List, [], ◌∷◌, ◌++◌, map, Option, Some, None, refl, sym, ap, ◌∙◌, subst, append_assoc, append-nil}
use Rattle.std.specs.List.{AllByRecursion}
use Rattle.std.proofs.lemmas.Bool.{false≢true}
use Rattle.std.proofs.lemmas.List.Concat.{flat_map-append}
use Rattle.nb_terms.specs.declared.acts.Acts.{Acts}
use Rattle.nb_terms.specs.declared.cause.Cause.{Cause}
use Rattle.nb_effects.specs.declared.effects.Emit.{Emit}
use Rattle.nb_effects.specs.declared.effects.Few.{Few}
use Rattle.nb_graph.specs.Whole.{port_at}
use Rattle.nb_graph.specs.Trace.{NodeEntry, Said, carried, in_list, loads}
use Rattle.nb_graph.specs.Deeds.{Deed, Stage, Sends, emit_of, returns_of, said_of}
use Rattle.nb_tcp.specs.ConnHistory.{ConnEntry, closes_from_above, conn_entry, tcp_calls, tcp_calls_of}
use Rattle.nb_conns.specs.ConnEffects.{GoesAbove, downs_for, emit_says, received_says}
use Rattle.nb_conns.specs.Dialogues.{Dialogue, is_talking}
use Rattle.nb_http.specs.Standing.{Core}
use Rattle.nb_nodes.specs.declared.load.Load.{Load}
use Rattle.nb_nodes.specs.declared.obj.Obj.{Obj}
use Rattle.nb_nodes.specs.Carriers.{conn_carrier}
use Rattle.nb_nodes.specs.Fetches.{gathers, taken_below}
use Rattle.nb_nodes.specs.Objects.{obj_nature}
use Rattle.nb_webnodes.specs.WebAsks.{AskParts}
use Rattle.nb_webnodes.specs.WebTalks.{ReadsOn, WebTalk, fetching, web_decided}
use Rattle.nb_webtalks.proofs.Upward.{says_up, sent_bytes}
use Rattle.nb_webtalks.proofs.Scenes.{View}
use Rattle.nb_webtalks.proofs.Walking.{WebCall, Walk, view}
use Rattle.nb_webtalks.proofs.Steps.{drop_conn_top, send_to_web}
use Rattle.nb_webtalks.proofs.Uppers.{RanOut, as_stages}
use Rattle.nb_webtalks.proofs.Lowers.{ClosedBelow, IsBegun, OwesTo, Regains, asked_at, closes_too, conn_all_returns, had, is_over_already, owes_nothing, regains_both, regains_none, said_same}
use Rattle.nb_webtalks.proofs.Middle.{Answers, Decided, EndDid, WebDid, emits_stages, end_decides, end_failed, is_decided_so, ran_out_then, web_end, web_ended, web_failed, web_goes, web_message}

-- How a close from above came to a connection: it sent what that calls for, or it had ended before.
pub data ClosingOf (d q : Dialogue) (net : Bool) (ms told : List Said) : Type 0 where
  told_a_close : (acts : Acts) (before behind : List ConnEntry) → is_talking d ≡ true → asked_at q ≡ asked_at d → had q ≡ (had d ++ before) ++ conn_entry closes_from_above acts ∷ behind → tcp_calls before ≡ [] → tcp_calls behind ≡ []
      → is_talking q ≡ false → net ≡ false → told ≡ ms ++ downs_for 0 acts → ClosingOf d q net ms told
  told_none : is_talking d ≡ false → Regains d q → net ≡ true → told ≡ ms → ClosingOf d q net ms told

-- something came back before, or afterwards
pub closing_after : {d p q : Dialogue} {net : Bool} {ms told : List Said} → Regains d p → ClosingOf p q net ms told → ClosingOf d q net ms told
closing_after {d = d} {p = p} r (told_a_close acts before behind talks asked grows none nothing off net told) =
    told_a_close acts (r.more ++ before) behind (sym r.talks ∙ talks) (asked ∙ r.asked)
    (grows ∙ ap (λ z. z ++ conn_entry closes_from_above acts ∷ behind) (ap (λ z. z ++ before) r.grows ∙ append_assoc (had d) r.more before))
    (flat_map-append (λ (e : ConnEntry). tcp_calls_of e.call) r.more before ∙ ap (λ z. z ++ tcp_calls before) r.silent ∙ none) nothing off net told
closing_after r (told_none off s net told) = told_none (sym r.talks ∙ off) (regains_both r s) net told

closing_before : {d p q : Dialogue} {net : Bool} {ms told : List Said} → ClosingOf d p net ms told → Regains p q → ClosingOf d q net ms told
closing_before {d = d} (told_a_close acts before behind talks asked grows none nothing off net told) r =
    told_a_close acts before (behind ++ r.more) talks (r.asked ∙ asked)
    (r.grows ∙ ap (λ z. z ++ r.more) grows ∙ append_assoc (had d ++ before) (conn_entry closes_from_above acts ∷ behind) r.more)
    none (flat_map-append (λ (e : ConnEntry). tcp_calls_of e.call) behind r.more ∙ ap (λ z. z ++ tcp_calls r.more) nothing ∙ r.silent) (r.talks ∙ off) net told
closing_before (told_none off s net told) r = told_none off (regains_both s r) net told

closing_off : {d q : Dialogue} {net : Bool} {ms told : List Said} → ClosingOf d q net ms told → is_talking q ≡ false
closing_off (told_a_close acts before behind talks asked grows none nothing off net told) = off
closing_off (told_none off r net told) = r.talks ∙ off

-- the loads of some emits
abbrev pub loads_in : List (Emit Load) → List Load
loads_in [] = []
loads_in (e ∷ es) = in_list e.load ++ loads_in es

pub few_loads : (f : Few (Emit Load)) → loads f ≡ loads_in (in_list f.first ++ in_list f.second)
few_loads f = by f.first f.second
  where
    by : (one two : Option (Emit Load)) → carried one ++ carried two ≡ loads_in (in_list one ++ in_list two)
    by None None = refl
    by None (Some e) = sym (append-nil (in_list e.load))
    by (Some e) None = refl
    by (Some e) (Some g) = ap (λ z. in_list e.load ++ z) (sym (append-nil (in_list g.load)))

-- What came of what was handed up: memory ran out; it goes on with these bytes more; or the response was decided.
pub data Upped (c : WebCall) (n : ℕ) (gs : List (Stage Obj Load)) (d : Dialogue) (ms : List Said) (ds : List (Deed Obj Load)) (q : AskParts) (rec : ℕ) (stream bytes : List ℕ) (ended : Bool) (others : List Load) : Type 0 where
  up_failed : RanOut ds → Upped c n gs d ms ds q rec stream bytes ended others
  up_goes : (core : Core) (given : List ℕ) (a : List (NodeEntry Obj Load)) (p : Dialogue) → ended ≡ false → ReadsOn core (stream ++ bytes) given → gathers a ≡ true → taken_below a ≡ given → Regains d p → OwesTo others p
      → Walk c n (view true true true true) gs a (fetching q core (stream ++ bytes) given) p ms None ds → Upped c n gs d ms ds q rec stream bytes ended others
  up_decided : (core : Core) (taken later given : List ℕ) (by_end : Bool) (x : Cause) (a : List (NodeEntry Obj Load)) (p : Dialogue) (net : Bool) (told : List Said) → stream ++ bytes ≡ taken ++ later → (by_end ≡ true → (later ≡ []) × (ended ≡ true))
      → Answers a rec by_end core taken given x → ClosingOf d p net ms told
      → Walk c n (view false false false net) gs a (web_decided q core taken given (Some x)) p told (Some x) ds → Upped c n gs d ms ds q rec stream bytes ended others

-- WHERE IT WAS CLOSED

-- what came to it, with what comes back to it then
record Heard (c : WebCall) (n : ℕ) (gs : List (Stage Obj Load)) (a : List (NodeEntry Obj Load)) (r : WebTalk) (d : Dialogue) (ms : List Said) (x : Cause) (ds : List (Deed Obj Load)) : Type 0 where
  at : Dialogue
  net : Bool
  told : List Said
  closing : ClosingOf d at net ms told
  walk : Walk c n (view false false false net) gs a r at told (Some x) ds

heard : {c : WebCall} {n : ℕ} {gs : List (Stage Obj Load)} {a : List (NodeEntry Obj Load)} {r : WebTalk} {d : Dialogue} {ms : List Said} {x : Cause} {ds : List (Deed Obj Load)} (ls : List Load) → ClosedBelow c n false false (returns_of c.conn ls ++ gs) a r d ms x ds → Heard c n gs a r d ms x ds
heard {d = d} {ms = ms} ls (closes_too q acts behind talks asked grows silent off k) =
    let y = conn_all_returns ls [] q (owes_nothing (ls ++ []) q off) k in
    record {
      at = y.0;
      net = false;
      told = ms ++ downs_for 0 acts;
      closing = closing_before (told_a_close acts [] behind talks asked (grows ∙ append_assoc (had d) (conn_entry closes_from_above acts ∷ []) behind ∙ ap (λ z. z ++ conn_entry closes_from_above acts ∷ behind) (sym (append-nil (had d)))) refl silent off refl refl) y.1;
      walk = y.3;
    }
heard {d = d} {ms = ms} ls (is_over_already off k) =
    let y = conn_all_returns ls [] d (owes_nothing (ls ++ []) d off) k in
    record { at = y.0; net = true; told = ms; closing = told_none off y.1 refl refl; walk = y.3 }

module _ {c : WebCall} {n : ℕ} {gs : List (Stage Obj Load)} {d : Dialogue} {ms : List Said} {ds : List (Deed Obj Load)} {q : AskParts} {rec : ℕ} (stream bytes : List ℕ) (ended by_end : Bool) (others ls : List Load) where
  decided_up : {core : Core} {taken given later : List ℕ} {x : Cause} → stream ++ bytes ≡ taken ++ later → (by_end ≡ true → (later ≡ []) × (ended ≡ true)) → Decided c n (returns_of c.conn ls ++ gs) d ms ds q rec by_end core taken given x
      → Upped c n gs d ms ds q rec stream bytes ended others
  decided_up is whole (ran_out_then out) = up_failed out
  decided_up {core = core} {taken = taken} {given = given} {later = later} {x = x} is whole (is_decided_so a answers k) =
      let h = heard ls k in
      up_decided core taken later given by_end x a h.at h.net h.told is whole answers h.closing h.walk

-- ONE MESSAGE AFTER THE OTHER

module _ {c : WebCall} {n : ℕ} {a : List (NodeEntry Obj Load)} {d : Dialogue} {ds : List (Deed Obj Load)} (m : Said) (gs : List (Stage Obj Load)) where
  emit_up : {v : View} {r : WebTalk} {z : Option Cause} {told : List Said} (e : Emit Load) (es : List (Emit Load)) (says : Said) → e.slot ≡ 0 → emit_says conn_carrier m e ≡ says → Walk c n v (emits_stages c.conn m (e ∷ es) ++ gs) a r d told z ds
      → Walk c n v (Sends (port_at c.conn 0) says ∷ (returns_of c.conn (in_list e.load) ++ (emits_stages c.conn m es ++ gs))) a r d told z ds
  emit_up e es says slot is k =
      let hs : List (Stage Obj Load) = returns_of c.conn (in_list e.load) ++ (emits_stages c.conn m es ++ gs) in
      as_stages (Sends (port_at c.conn 0) says ∷ hs)
      (append_assoc (emit_of obj_nature c.conn m (Some e)) (emits_stages c.conn m es) gs ∙ ap (λ s. Sends (port_at c.conn s) (said_of obj_nature m e) ∷ hs) slot ∙ ap (λ x. Sends (port_at c.conn 0) x ∷ hs) (said_same m e ∙ is)) k

module _ {c : WebCall} {n : ℕ} {a : List (NodeEntry Obj Load)} {d : Dialogue} {ms : List Said} {ds : List (Deed Obj Load)} {q : AskParts} {core : Core} {stream given : List ℕ} (m : Said) (gs : List (Stage Obj Load)) (others : List Load) (reads : ReadsOn core stream given) (going : gathers a ≡ true) (taken : taken_below a ≡ given) (begun : IsBegun d) where
  -- bytes go up first
  received_up : (ended : Bool) (bytes : List ℕ) (e : Emit Load) (es : List (Emit Load)) → e.slot ≡ 0 → emit_says conn_carrier m e ≡ received_says m.rec bytes → OwesTo (in_list e.load ++ others) d
      → Walk c n (view true true true true) (emits_stages c.conn m (e ∷ es) ++ gs) a (fetching q core stream given) d ms None ds → Upped c n (emits_stages c.conn m es ++ gs) d ms ds q m.rec stream bytes false others
  received_up ended bytes e es slot is owes k =
      by (web_message n (received_says m.rec bytes) refl reads going taken begun (send_to_web (emit_up m gs e es (received_says m.rec bytes) slot is k)))
    where
      by : WebDid c n (returns_of c.conn (in_list e.load) ++ (emits_stages c.conn m es ++ gs)) d ms ds q m.rec stream bytes → Upped c n (emits_stages c.conn m es ++ gs) d ms ds q m.rec stream bytes false others
      by (web_failed out) = up_failed out
      by (web_goes core2 given2 b reads2 going2 taken2 w) =
          let y = conn_all_returns (in_list e.load) others d owes w in
          up_goes core2 given2 b y.0 refl reads2 going2 taken2 y.1 y.2 y.3
      by (web_ended core2 part later given2 x cut w) =
          decided_up stream bytes false false others (in_list e.load) (ap (λ z. stream ++ z) cut ∙ sym (append_assoc stream part later)) (λ e. absurd (false≢true e)) w

  -- the end of the stream does
  end_up : (e : Emit Load) → e.slot ≡ 0 → emit_says conn_carrier m e ≡ record { tag = 8; rec = m.rec; a = 0; b = 0; bytes = [] } → OwesTo (in_list e.load ++ others) d
      → Walk c n (view true true true true) (emits_stages c.conn m (e ∷ []) ++ gs) a (fetching q core stream given) d ms None ds → Upped c n gs d ms ds q m.rec stream [] true others
  end_up e slot is owes k =
      let told : Said = record { tag = 8; rec = m.rec; a = 0; b = 0; bytes = [] } in
      by (web_end n told refl reads going taken begun (send_to_web (emit_up m gs e [] told slot is k)))
    where
      by : EndDid c n (returns_of c.conn (in_list e.load) ++ gs) d ms ds q m.rec stream → Upped c n gs d ms ds q m.rec stream [] true others
      by (end_failed out) = up_failed out
      by (end_decides core2 given2 x w) = decided_up stream [] true true others (in_list e.load) refl (λ _. (refl, refl)) w

pub none_up : (m : Said) (es : List (Emit Load)) → map (emit_says conn_carrier m) es ≡ [] → es ≡ []
none_up m [] h = refl
none_up m (e ∷ es) h = absurd (let z = h in cc)

module _ {c : WebCall} {n : ℕ} {d : Dialogue} {ms : List Said} {ds : List (Deed Obj Load)} {q : AskParts} {stream : List ℕ} (m : Said) (gs : List (Stage Obj Load)) where
  -- an end after the bytes
  then_end : {bytes : List ℕ} (e : Emit Load) → e.slot ≡ 0 → emit_says conn_carrier m e ≡ record { tag = 8; rec = m.rec; a = 0; b = 0; bytes = [] } → IsBegun d → Upped c n (emits_stages c.conn m (e ∷ []) ++ gs) d ms ds q m.rec stream bytes false (in_list e.load ++ [])
      → Upped c n gs d ms ds q m.rec stream bytes true []
  then_end e slot is begun (up_failed out) = up_failed out
  then_end {bytes = bytes} e slot is begun (up_goes core given a p _ reads going taken r owes k) = after (end_up m gs [] reads going taken (r.begun begun) e slot is owes k)
    where
      after : Upped c n gs p ms ds q m.rec (stream ++ bytes) [] true [] → Upped c n gs d ms ds q m.rec stream bytes true []
      after (up_failed out) = up_failed out
      after (up_goes core2 given2 b p2 off reads2 going2 taken2 r2 owes2 w) = absurd (let z = off in cc)
      after (up_decided core2 taken2 later given2 by_end x b p2 net told cut whole answers closing w) =
          up_decided core2 taken2 later given2 by_end x b p2 net told (sym (append-nil (stream ++ bytes)) ∙ cut) whole answers (closing_after r closing) w
  then_end e slot is begun (up_decided core taken later given by_end x a p net told cut whole answers closing k) =
      let told_end : Said = record { tag = 8; rec = m.rec; a = 0; b = 0; bytes = [] } in
      let w = drop_conn_top (emit_up m gs e [] told_end slot is k) in
      let y = conn_all_returns (in_list e.load) [] p (owes_nothing (in_list e.load ++ []) p (closing_off closing)) w in
      up_decided core taken later given by_end x a y.0 net told cut (λ b. let z = whole b in absurd (false≢true z.1)) answers (closing_before closing y.1) y.3

module _ {c : WebCall} {n : ℕ} {a : List (NodeEntry Obj Load)} {d : Dialogue} {ms : List Said} {ds : List (Deed Obj Load)} {q : AskParts} {core : Core} {stream given : List ℕ} (m : Said) (gs : List (Stage Obj Load)) (reads : ReadsOn core stream given) (going : gathers a ≡ true) (taken : taken_below a ≡ given) (begun : IsBegun d) where
  pub ups_walk : (sent : Option (List ℕ)) (ended : Bool) (es : List (Emit Load)) → map (emit_says conn_carrier m) es ≡ says_up m.rec sent ended → AllByRecursion GoesAbove es → OwesTo (loads_in es) d
      → Walk c n (view true true true true) (emits_stages c.conn m es ++ gs) a (fetching q core stream given) d ms None ds → Upped c n gs d ms ds q m.rec stream (sent_bytes sent) ended []
  ups_walk None false es says above owes k =
      let none = none_up m es says in
      up_goes core given a d refl (subst (λ z. ReadsOn core z given) (sym (append-nil stream)) reads) going taken (regains_none d) (subst (λ z. OwesTo (loads_in z) d) none owes)
      (subst (λ z. Walk c n (view true true true true) gs a (fetching q core z given) d ms None ds) (sym (append-nil stream)) (as_stages gs (ap (λ (z : List (Emit Load)). emits_stages c.conn m z ++ gs) none) k))
  ups_walk None true [] says above owes k = absurd (let z = says in cc)
  ups_walk None true (e ∷ es) says above owes k =
      let one : emit_says conn_carrier m e ≡ record { tag = 8; rec = m.rec; a = 0; b = 0; bytes = [] } = cc in
      let others : map (emit_says conn_carrier m) es ≡ [] = cc in
      let none = none_up m es others in
      end_up m gs [] reads going taken begun e above.0 one (subst (λ z. OwesTo (in_list e.load ++ loads_in z) d) none owes) (as_stages (emits_stages c.conn m (e ∷ []) ++ gs) (ap (λ (z : List (Emit Load)). emits_stages c.conn m (e ∷ z) ++ gs) none) k)
  ups_walk (Some bytes) false [] says above owes k = absurd (let z = says in cc)
  ups_walk (Some bytes) false (e ∷ es) says above owes k =
      let one : emit_says conn_carrier m e ≡ received_says m.rec bytes = cc in
      let others : map (emit_says conn_carrier m) es ≡ [] = cc in
      let none = none_up m es others in
      received_up m gs [] reads going taken begun false bytes e [] above.0 one (subst (λ z. OwesTo (in_list e.load ++ loads_in z) d) none owes) (as_stages (emits_stages c.conn m (e ∷ []) ++ gs) (ap (λ (z : List (Emit Load)). emits_stages c.conn m (e ∷ z) ++ gs) none) k)
  ups_walk (Some bytes) true [] says above owes k = absurd (let z = says in cc)
  ups_walk (Some bytes) true (e ∷ []) says above owes k = absurd (let z = says in cc)
  ups_walk (Some bytes) true (e ∷ (f ∷ es)) says above owes k =
      let one : emit_says conn_carrier m e ≡ received_says m.rec bytes = cc in
      let two : emit_says conn_carrier m f ≡ record { tag = 8; rec = m.rec; a = 0; b = 0; bytes = [] } = cc in
      let others : map (emit_says conn_carrier m) es ≡ [] = cc in
      let none = none_up m es others in
      then_end m gs f above.1.0 two begun
      (received_up m gs (in_list f.load ++ []) reads going taken begun true bytes e (f ∷ []) above.0 one (subst (λ z. OwesTo (in_list e.load ++ (in_list f.load ++ loads_in z)) d) none owes)
      (as_stages (emits_stages c.conn m (e ∷ (f ∷ [])) ++ gs) (ap (λ (z : List (Emit Load)). emits_stages c.conn m (e ∷ (f ∷ z)) ++ gs) none) k))
