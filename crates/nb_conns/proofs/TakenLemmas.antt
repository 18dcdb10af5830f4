-- What a connection stands for once it took a segment and lent what waits.
use Rattle.std.proofs.Common.{◌≡◌, ℕ, zero, suc, ◌+◌, ◌-◌, ◌≤◌, ◌==◌, ◌&&◌, ◌||◌, Bool, true, false, not, List, [], ◌∷◌, ◌++◌, length, take, Option, Some, None, is_some, append_assoc, refl, ap, sym, ◌∙◌, subst, arith, if◌then◌else◌}
use Rattle.std.specs.Prelude.{unwrap_or, MatchBool, IfSome}
use Rattle.std.proofs.lemmas.Bool.{false≢true}
use Rattle.nb_terms.specs.declared.acts.Acts.{Acts}
use Rattle.nb_reasm.specs.declared.held.Held.{Held}
use Rattle.nb_reasm.specs.HeldWindows.{window, front_first, front_second}
use Rattle.nb_reasm.specs.Windows.{HeldWindow, bytes_from}
use Rattle.nb_reasm.proofs.FrontLemmas.{bytes_are, front_whole}
use Rattle.nb_streams.specs.Streams.{has_ended, next, grown}
use Rattle.nb_streams.specs.Flows.{segment_came, ConnPhase, held_after, held_in, conn_phase, after_tcp_call}
use Rattle.nb_streams.proofs.StreamLaws.{either}
use Rattle.nb_tcpseg.specs.SegmentText.{SegmentParts}
use Rattle.nb_tcp.specs.declared.link.Link.{Link}
use Rattle.nb_tcp.specs.declared.conn.Conn.{Conn}
use Rattle.nb_tcp.specs.Numbers.{upto_stop}
use Rattle.nb_tcp.specs.Replies.{only_ready}
use Rattle.nb_tcp.specs.ConnHistory.{calls_in, lends_out, comes_back, ConnEntry, conn_entry, tcp_calls, advanced_to, is_waiting_after, is_lent_after, has_ended_after, ends_by}
use Rattle.nb_tcp.specs.ConnPromises.{AsksAsPromised, ConnKeeps}
use Rattle.nb_tcp.specs.ConnStanding.{WindowStands, GoesUp, ConnStands, HasDelivered, IsLent, has_window}
use Rattle.nb_tcp.proofs.ConnHistoryLemmas.{advanced-append, waiting-append, lent-append, ended-append}
use Rattle.nb_tcp.proofs.ConnLaws.{each_last, held_stays}
use Rattle.nb_conns.specs.declared.conn_ask.ConnAsk.{ConnAsk}
use Rattle.nb_conns.specs.declared.conn_load.Lent.{Lent}
use Rattle.nb_conns.specs.declared.stage.Running.{Running as Connected}
use Rattle.nb_conns.specs.ConnAsks.{link_of}
use Rattle.nb_conns.specs.ConnLoads.{lent_bytes}
use Rattle.nb_conns.specs.Dialogues.{arriving, with_segment_call, with_lending, with_passing, LendsSo, comes_to_end, IsLentOut, TalksSo, TookSegment, HandedOn, LentFrom, lent_out, lent_out_of}

bytes_from-take : (w : HeldWindow) (p n k : ℕ) → k ≤ n → take k (bytes_from w p n) ≡ bytes_from w p k
bytes_from-take w p n zero l = refl
bytes_from-take w p zero (suc k) l = absurd (omega (arith, l))
bytes_from-take w p (suc n) (suc k) l = ap (λ z. unwrap_or (w.at p) 0 ∷ z) (bytes_from-take w (p + 1) n k (omega (arith, l)))

take_parts : (n : ℕ) (xs ys : List ℕ) → take n xs ++ take (n - length xs) ys ≡ take n (xs ++ ys)
take_parts zero [] ys = ap (λ z. take z ys) (let e : 0 - 0 ≡ 0 = omega arith in e)
take_parts (suc n) [] ys = ap (λ z. take z ys) (let e : suc n - 0 ≡ suc n = omega arith in e)
take_parts zero (x ∷ xs) ys = ap (λ z. take z ys) (let e : 0 - suc (length xs) ≡ 0 = omega arith in e)
take_parts (suc n) (x ∷ xs) ys = ap (λ z. x ∷ z) (ap (λ z. take n xs ++ take z ys) (let e : suc n - suc (length xs) ≡ n - length xs = omega arith in e) ∙ take_parts n xs ys)

-- the bytes of a front below a place
pub lent_are : (h : Held) (l : Lent) (place : ℕ) (bytes : List ℕ) → l.held ≡ Some h → l.count ≡ place - (window h).base → place ≤ (window h).next → (window h).base ≤ (window h).next → GoesUp (window h) place bytes → lent_bytes l ≡ bytes
lent_are h l place bytes held count below from up =
    ap (λ z. held_bytes z l.count) held
    ∙ take_parts l.count (front_first h) (front_second h)
    ∙ ap (λ z. take l.count z) (front_whole h from)
    ∙ bytes_from-take (window h) (window h).base ((window h).next - (window h).base) l.count (omega (arith, count, below))
    ∙ ap (λ n. bytes_from (window h) (window h).base n) (count ∙ sym up.len)
    ∙ sym (bytes_are (window h) (window h).base bytes up.each)
  where
    held_bytes : Option Held → ℕ → List ℕ
    held_bytes o n = lent_bytes (record { held = o; count = n })

upto_most : (stop : Option ℕ) (k : ℕ) → upto_stop stop k ≤ k
upto_most None k = omega arith
upto_most (Some stop) k = omega arith

-- a segment's call that says that bytes wait tells the place
place_told : (l : Link) (start : ℕ) (h : List ConnEntry) (rec : ℕ) (s : SegmentParts) (now : ℕ) (acts : Acts) → ConnKeeps l start (with_segment_call h rec s now acts) → acts.ready ≡ true → advanced_to (with_segment_call h rec s now acts) ≡ unwrap_or acts.advance 0
place_told l start h rec s now acts keeps ready =
    advanced-append h (conn_entry (calls_in (segment_came (arriving rec s) now)) acts)
    ∙ told acts.advance (next (held_in p)) (next (held_in q)) (sym (ap (λ (a : Acts). a.ready) asked.0) ∙ ready) (ap (λ (a : Acts). a.advance) asked.0)
  where
    p : ConnPhase
    p = conn_phase l.isn (tcp_calls h)

    q : ConnPhase
    q = after_tcp_call l.isn p (segment_came (arriving rec s) now)

    asked : AsksAsPromised l start h (conn_entry (calls_in (segment_came (arriving rec s) now)) acts)
    asked = each_last (AsksAsPromised l start) [] h (conn_entry (calls_in (segment_came (arriving rec s) now)) acts) keeps.each

    by_same : (b : Bool) (o : Option ℕ) (m : ℕ) → not b ≡ true → o ≡ (if b then None else Some m) → unwrap_or o (advanced_to h) ≡ unwrap_or o 0
    by_same true o m n e = absurd (false≢true n)
    by_same false o m n e = ap (λ (z : Option ℕ). unwrap_or z (advanced_to h)) e ∙ sym (ap (λ (z : Option ℕ). unwrap_or z 0) e)

    told : (o : Option ℕ) (m n : ℕ) → not (m == n) ≡ true → o ≡ grown m n → unwrap_or o (advanced_to h) ≡ unwrap_or o 0
    told o m n more e = by_same (m == n) o n more e

or_nothing : (b : Bool) → (b || false) ≡ b
or_nothing true = refl
or_nothing false = refl

-- whether it has ended after one call more
pub ended_then : (h : List ConnEntry) (e : ConnEntry) → has_ended_after h ≡ false → has_ended_after (h ++ e ∷ []) ≡ ends_by e
ended_then h e alive = ended-append h e ∙ ap (λ z. z || ends_by e) alive

pub took : (old mid new : Connected) (a : ConnAsk) (start : ℕ) (calls : List ConnEntry) (acts : Acts) (l : Lent) (rec : ℕ) (s : SegmentParts) (now : ℕ) (had has : Bool)
    → TalksSo old a start calls None → mid.ask ≡ old.ask
    → ((k : Link) (st : ℕ) (h : List ConnEntry) → ConnStands k st old.conn h → has_ended_after h ≡ false → ConnStands k st mid.conn (h ++ conn_entry (calls_in (segment_came (arriving rec s) now)) acts ∷ []))
    → ((k : Link) (st : ℕ) (h : List ConnEntry) → ConnStands k st old.conn h → MatchBool acts.ready (HasDelivered mid.conn → ⊥) (HasDelivered mid.conn))
    → has_window mid.conn ≡ true → LentFrom mid new acts l
    → ((k : Link) (st : ℕ) (h : List ConnEntry) → ConnStands k st old.conn h → had ≡ has_ended (held_after k.isn (tcp_calls h)))
    → ((k : Link) (st : ℕ) (h : List ConnEntry) → ConnStands k st new.conn h → has ≡ has_ended (held_after k.isn (tcp_calls h)))
    → TookSegment a start calls (with_segment_call calls rec s now acts) acts l new (not had && has)
took old mid new a start calls acts l rec s now had has t same stands waits there lends at at_last =
    either acts.ready lent_case still_case
  where
    entry : ConnEntry
    entry = conn_entry (calls_in (segment_came (arriving rec s) now)) acts

    after : List ConnEntry
    after = calls ++ entry ∷ []

    goes : ConnStands (link_of a) start mid.conn after
    goes = stands (link_of a) start calls t.stands t.goes_on

    over : has_ended_after after ≡ is_some acts.over
    over = ended_then calls entry t.goes_on ∙ or_nothing (is_some acts.over)

    asked : new.ask ≡ a
    asked = lends.asked ∙ same ∙ t.asked

    ends_as : (h : List ConnEntry) → ConnStands (link_of a) start new.conn h → held_after a.isn (tcp_calls h) ≡ held_after a.isn (tcp_calls after) → (not had && has) ≡ comes_to_end a calls after
    ends_as h is e = ap (λ z. not z && has) (at (link_of a) start calls t.stands) ∙ ap (λ z. not (has_ended (held_after a.isn (tcp_calls calls))) && z) (at_last (link_of a) start h is ∙ ap has_ended e)

    still_case : acts.ready ≡ false → TookSegment a start calls after acts l new (not had && has)
    still_case ready =
        let still = lends.still ready in
        let none : lent_out l ≡ None = ap (λ z. lent_out_of l z) still.1 in
        let is : ConnStands (link_of a) start new.conn after = subst (λ (z : Conn). ConnStands (link_of a) start z after) (sym still.0) goes in
        let delivered : HasDelivered new.conn = subst (λ (z : Conn). HasDelivered z) (sym still.0) (subst (λ z. MatchBool z (HasDelivered mid.conn → ⊥) (HasDelivered mid.conn)) ready (waits (link_of a) start calls t.stands)) in
        record {
          asked = asked;
          lent_so = subst (λ z. LendsSo after z (lent_out l)) (sym ready) (subst (λ z. LendsSo after false z) (sym none) tt);
          stands = subst (λ z. ConnStands (link_of a) start new.conn (with_lending after z)) (sym none) is;
          none_waits = subst (λ z. is_waiting_after (with_lending after z) ≡ false) (sym none) (waiting-append calls entry ∙ ready);
          over = subst (λ z. has_ended_after (with_lending after z) ≡ is_some acts.over) (sym none) over;
          lends = subst (λ z. IsLentOut a (with_lending after z) new.conn z) (sym none) (delivered, lent-append calls entry ∙ t.lends.1);
          to_end = ends_as after is refl;
        }

    lent_case : acts.ready ≡ true → TookSegment a start calls after acts l new (not had && has)
    lent_case ready =
        let out = lends.lends ready there in
        let w : Held = out.0 in
        let is = out.3 (link_of a) start after goes in
        let place : advanced_to after ≡ unwrap_or acts.advance 0 = place_told (link_of a) start calls rec s now acts goes.keeps ready in
        let below : advanced_to after ≤ (window w).next = omega (arith, goes.keeps.advance, is.window_is.next, upto_most (held_after a.isn (tcp_calls after)).stop (window w).next) in
        let bytes : lent_bytes l ≡ is.bytes = lent_are w l (advanced_to after) is.bytes out.1 (out.2 ∙ ap (λ z. z - (window w).base) (sym place)) below is.window_is.least.0 is.up in
        let some : lent_out l ≡ Some l = ap (λ z. lent_out_of l z) out.1 in
        let lending = conn_entry (lends_out (lent_bytes l)) (only_ready false) in
        let whole : ConnStands (link_of a) start new.conn (after ++ lending ∷ []) = subst (λ z. ConnStands (link_of a) start new.conn (after ++ conn_entry (lends_out z) (only_ready false) ∷ [])) (sym bytes) is.stands in
        let held : held_after a.isn (tcp_calls (after ++ lending ∷ [])) ≡ held_after a.isn (tcp_calls after) = held_stays (link_of a) after (lends_out (lent_bytes l)) (only_ready false) (λ m n e. (let z = e in cc)) in
        record {
          asked = asked;
          lent_so = subst (λ z. LendsSo after z (lent_out l)) (sym ready) (subst (λ z. LendsSo after true z) (sym some) (w, out.1, subst (λ z. GoesUp (window w) (advanced_to after) z) (sym bytes) is.up));
          stands = subst (λ z. ConnStands (link_of a) start new.conn (with_lending after z)) (sym some) whole;
          none_waits = subst (λ z. is_waiting_after (with_lending after z) ≡ false) (sym some) (waiting-append after lending);
          over = subst (λ z. has_ended_after (with_lending after z) ≡ is_some acts.over) (sym some) (ended-append after lending ∙ or_nothing (has_ended_after after) ∙ over);
          lends = subst (λ z. IsLentOut a (with_lending after z) new.conn z) (sym some) (lent-append after lending, (w, out.1, subst (λ z. WindowStands (window w) z) (sym held) is.window_is));
          to_end = ends_as (after ++ lending ∷ []) whole held;
        }

-- what it stands for once it took a segment whose body goes up as it stands
pub handed : (old new : Connected) (a : ConnAsk) (start : ℕ) (calls : List ConnEntry) (acts : Acts) (rec : ℕ) (s : SegmentParts) (now : ℕ) → TalksSo old a start calls None → new.ask ≡ old.ask
    → ((k : Link) (st : ℕ) (h : List ConnEntry) → ConnStands k st old.conn h → ConnStands k st new.conn (with_passing (with_segment_call h rec s now acts) s.body))
    → acts.over ≡ None → acts.ready ≡ true
    → ((k : Link) (st : ℕ) (h : List ConnEntry) → ConnStands k st old.conn h → has_ended (held_after k.isn (tcp_calls (with_segment_call h rec s now acts))) ≡ false)
    → HasDelivered new.conn → HandedOn a start calls (with_segment_call calls rec s now acts) s.body acts new
handed old new a start calls acts rec s now t asked stands alive ready lasts delivered =
    record {
      talks = record {
        asked = asked ∙ t.asked;
        stands = stands (link_of a) start calls t.stands;
        goes_on = ap (λ z. has_ended_after z) by_two ∙ ended-append lending back ∙ or_nothing (has_ended_after lending) ∙ ended-append after lends ∙ or_nothing (has_ended_after after) ∙ ended_then calls entry t.goes_on ∙ or_nothing (is_some acts.over) ∙ ap (λ z. is_some z) alive;
        none_waits = ap (λ z. is_waiting_after z) by_two ∙ waiting-append lending back;
        lends = (delivered, ap (λ z. is_lent_after z) by_two ∙ lent-append lending back);
      };
      alive = alive;
      ready = ready;
      lasts = ap (λ z. not (has_ended (held_after a.isn (tcp_calls calls))) && z) (lasts (link_of a) start calls t.stands) ∙ and_off (not (has_ended (held_after a.isn (tcp_calls calls))));
    }
  where
    entry : ConnEntry
    entry = conn_entry (calls_in (segment_came (arriving rec s) now)) acts

    lends : ConnEntry
    lends = conn_entry (lends_out s.body) (only_ready false)

    back : ConnEntry
    back = conn_entry comes_back (only_ready false)

    after : List ConnEntry
    after = calls ++ entry ∷ []

    lending : List ConnEntry
    lending = after ++ lends ∷ []

    by_two : with_passing after s.body ≡ lending ++ back ∷ []
    by_two = sym (append_assoc after (lends ∷ []) (back ∷ []))

    and_off : (b : Bool) → (b && false) ≡ false
    and_off true = refl
    and_off false = refl

-- what waits is lent
pub lend_is : (old new : Connected) (acts : Acts) (l : Lent) (o : Option Held) → new.ask ≡ old.ask → acts.ready ≡ true → l.held ≡ o → is_some o ≡ has_window old.conn
    → ((k : Link) (start : ℕ) (h : List ConnEntry) → ConnStands k start old.conn h → IfSome o (λ w. IsLent k start h (window w) new.conn))
    → ((w : Held) → o ≡ Some w → l.count ≡ unwrap_or acts.advance 0 - (window w).base) → LentFrom old new acts l
lend_is old new acts l o asked ready held exact stands count =
    record { asked = asked; still = λ r. absurd (false≢true (sym r ∙ ready)); lends = λ r there. by_held o held (exact ∙ there) stands count }
  where
    by_held : (o : Option Held) → l.held ≡ o → is_some o ≡ true → ((k : Link) (start : ℕ) (h : List ConnEntry) → ConnStands k start old.conn h → IfSome o (λ w. IsLent k start h (window w) new.conn))
        → ((w : Held) → o ≡ Some w → l.count ≡ unwrap_or acts.advance 0 - (window w).base)
        → (w : Held) × (l.held ≡ Some w) × (l.count ≡ unwrap_or acts.advance 0 - (window w).base) × ((k : Link) (start : ℕ) (calls : List ConnEntry) → ConnStands k start old.conn calls → IsLent k start calls (window w) new.conn)
    by_held None held some stands count = absurd (false≢true some)
    by_held (Some w) held some stands count = (w, held, count w refl, stands)
