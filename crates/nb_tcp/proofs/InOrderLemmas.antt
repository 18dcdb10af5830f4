-- A segment whose bytes come next is taken, and leaves what it would by the long way.
use Rattle.std.proofs.Common.{◌≡◌, ◌≤◌, ◌<◌, ℕ, ◌+◌, ◌-◌, ◌%◌, ◌^◌, ◌==◌, ◌&&◌, ◌||◌, not, List, length, take, drop, Option, Some, None, Bool, true, false, cond, refl, ap, ◌∙◌, sym, subst, arith, ltb, leb, min}
use Rattle.std.specs.Option.{is_none, unwrap_or}
use Rattle.std.proofs.lemmas.Bool.{and_parts, eqb-true, eq-eqb, leb-true, false≢true, le-ltb}
use Rattle.std.proofs.lemmas.List.{take_all}
use Rattle.nb_retry.specs.declared.retry.Retry.{Retry}
use Rattle.nb_retry.specs.declared.plan.Plan.TheVariants.{Probe}
use Rattle.nb_retry.specs.Timer.{started}
use Rattle.nb_terms.specs.declared.acts.Acts.{Acts}
use Rattle.nb_streams.specs.Segments.{Incoming, ahead}
use Rattle.nb_streams.specs.Streams.{first_stop}
use Rattle.nb_streams.specs.Flows.{full_window, advance_of, is_beyond, is_other, advances}
use Rattle.nb_reasm.specs.declared.held.Held.{Held}
use Rattle.nb_reasm.specs.HeldWindows.{window}
use Rattle.nb_tcp.specs.declared.link.Link.{Link}
use Rattle.nb_tcp.specs.declared.conn.Conn.{Conn}
use Rattle.nb_tcp.specs.declared.conn.ConnState.{ConnState}
use Rattle.nb_tcp.specs.declared.conn.ConnState.TheVariants.{Established}
use Rattle.nb_tcp.specs.declared.variables.Variables.{Variables}
use Rattle.nb_tcp.specs.declared.variables.Verdict.{Verdict}
use Rattle.nb_tcp.specs.declared.variables.Verdict.TheVariants as verdict
use Rattle.nb_tcp.specs.declared.variables.Breach.TheVariants as breach
use Rattle.nb_tcp.specs.InOrder.{is_data, continues_by, has_said_all, is_next, is_next_of, ComesInOrder}
use Rattle.nb_tcp.specs.Numbers.{bare_flow, distance_of, judged, found_stop, with_stop, with_next, with_ack, piece_place, piece_bytes, counted_upto, kept_bytes, passes_limit, breached, sends_more, upto_stop}
use Rattle.nb_tcp.specs.Receiving.{PutInto, HoldsSegment, Receives}
use Rattle.nb_tcp.specs.Replies.{acknowledging, grown_acts, taken_acts, breach_state, breach_retry}
use Rattle.nb_tcp.specs.SegmentSteps.{TakesSegment, FollowsVerdict, FollowsState}

off : (b : Bool) → not b ≡ true → b ≡ false
off true e = absurd (false≢true e)
off false e = refl

none_of : (o : Option ℕ) → is_none o ≡ true → o ≡ None
none_of None e = refl
none_of (Some x) e = absurd (false≢true e)

pub record IsNext (v : Variables) (given : ℕ) (s : Incoming) : Type 0 where
  pub comes : ComesInOrder v s
  pub ack : s.ack ≡ true
  pub no_syn : s.syn ≡ false
  pub no_rst : s.rst ≡ false
  pub still : advance_of (bare_flow v) s ≡ 0
  pub acked : v.acked ≡ v.sent
  pub given_is : v.sent ≡ given

pub next_is : (v : Variables) (given : ℕ) (s : Incoming) → is_next v given s ≡ true → IsNext v given s
next_is v given s e =
    let a = and_parts (is_data s) (continues_by v s && has_said_all v given s) e in
    let b = and_parts (continues_by v s) (has_said_all v given s) a.1 in
    let d = and_parts s.ack (not s.syn && (not s.rst && not s.fin)) a.0 in
    let f = and_parts (not s.syn) (not s.rst && not s.fin) d.1 in
    let g = and_parts (not s.rst) (not s.fin) f.1 in
    let h = and_parts (is_none v.stop) (distance_of v s.number == 0 && leb (v.next + length s.body) (2 ^ 31 - 1)) b.0 in
    let i = and_parts (distance_of v s.number == 0) (leb (v.next + length s.body) (2 ^ 31 - 1)) h.1 in
    let j = and_parts (advance_of (bare_flow v) s == 0) (v.acked == v.sent && v.sent == given) b.1 in
    let k = and_parts (v.acked == v.sent) (v.sent == given) j.1 in
    record {
      comes = record {
        no_fin = off s.fin g.1;
        no_stop = none_of v.stop h.0;
        here = eqb-true (distance_of v s.number) 0 i.0;
        low = leb-true (v.next + length s.body) (2 ^ 31 - 1) i.1;
      };
      ack = d.0;
      no_syn = off s.syn f.0;
      no_rst = off s.rst g.0;
      still = eqb-true (advance_of (bare_flow v) s) 0 j.0;
      acked = eqb-true v.acked v.sent k.0;
      given_is = eqb-true v.sent given k.1;
    }

module _ (v : Variables) (s : Incoming) (is : ComesInOrder v s) where
  no_end : found_stop v s ≡ None
  no_end = rw is.no_fin refl

  pub still_open : with_stop v s ≡ v
  still_open =
      ap (λ (o : Option ℕ). record v { stop = first_stop v.stop o }) no_end
      ∙ ap (λ (o : Option ℕ). record v { stop = first_stop o None }) is.no_stop
      ∙ ap (λ (o : Option ℕ). record v { stop = o }) (sym is.no_stop)

  pub at_next : piece_place v s ≡ v.next
  at_next = ap (λ (d : ℕ). cond (ltb d full_window) (min (v.next + d) (2 ^ 32 - 1)) v.next) is.here ∙ omega (arith, is.low)

  all_bytes : piece_bytes v s ≡ s.body
  all_bytes = ap (λ (d : ℕ). cond (ltb d full_window) s.body (drop (2 ^ 32 - d) s.body)) is.here

  counted : counted_upto v ≡ 2 ^ 31 - 1
  counted = ap (λ (o : Option ℕ). min (unwrap_or o (2 ^ 31 - 1)) (2 ^ 31 - 1)) is.no_stop

  pub kept_is : kept_bytes (with_stop v s) (piece_place v s) (piece_bytes v s) ≡ s.body
  kept_is =
      ap (λ (u : Variables). kept_bytes u (piece_place v s) (piece_bytes v s)) still_open
      ∙ ap (λ (p : ℕ). kept_bytes v p (piece_bytes v s)) at_next
      ∙ ap (λ (xs : List ℕ). kept_bytes v v.next xs) all_bytes
      ∙ take_all (counted_upto v - v.next) s.body (omega (arith, counted, is.low))

  pub then_next : (n : ℕ) → with_next (with_stop v s) n ≡ record v { next = n }
  then_next n =
      ap (λ (u : Variables). with_next u n) still_open
      ∙ ap (λ (o : Option ℕ). record v { next = upto_stop o n }) is.no_stop

  pub holds_next : (old new : Held) (n : ℕ) → PutInto (window old) v.next s.body (window new) → n ≡ (window new).next → HoldsSegment v s old new (record v { next = n })
  holds_next old new n put here = record {
    put = subst (λ (xs : List ℕ). PutInto (window old) (piece_place v s) xs (window new)) (sym kept_is)
        (subst (λ (p : ℕ). PutInto (window old) p s.body (window new)) (sym at_next) put);
    after_is = ap (λ (k : ℕ). record v { next = k }) here ∙ sym (then_next (window new).next);
  }

  not_other : is_other v.stop (found_stop v s) ≡ false
  not_other = ap (λ (o : Option ℕ). is_other o (found_stop v s)) is.no_stop

  not_past : passes_limit v s ≡ false
  not_past =
      ap (λ (xs : List ℕ). ltb 0 (length xs) && ltb (2 ^ 31 - 1) (min (piece_place v s + length xs) (v.next + full_window))) all_bytes
      ∙ ap (λ (p : ℕ). ltb 0 (length s.body) && ltb (2 ^ 31 - 1) (min (p + length s.body) (v.next + full_window))) at_next
      ∙ low (ltb 0 (length s.body)) (le-ltb (2 ^ 31 - 1) (min (v.next + length s.body) (v.next + full_window)) (omega (arith, is.low)))
    where
      low : (b : Bool) {c : Bool} → c ≡ false → (b && c) ≡ false
      low true e = e
      low false e = refl

  by_next : (u : Variables) (n : ℕ) → u ≡ record v { next = n } → u ≡ record v { next = u.next }
  by_next u n e = e ∙ ap (λ (k : ℕ). record v { next = k }) (sym (ap (λ (x : Variables). x.next) e))

  -- only the next place is another
  pub received_is : (old new : Option Held) (u : Variables) → Receives v s old new u → u ≡ record v { next = u.next }
  received_is None new u got = by_next u v.next got.1
  received_is (Some old) None u got = absurd got
  received_is (Some old) (Some new) u got = by_next u (window new).next (got.after_is ∙ then_next (window new).next)

  pub no_breach : breached v s ≡ breach.None
  no_breach = rw not_past (rw not_other refl)

module _ (v : Variables) (given : ℕ) (s : Incoming) (is : IsNext v given s) where
  not_beyond : is_beyond (bare_flow v) s ≡ false
  not_beyond = rw is.still (le-ltb v.sent (v.acked + 0) (omega (arith, is.acked)))

  pub next_taken : judged v s ≡ verdict.Taken
  next_taken = rw is.no_rst (rw is.no_syn (rw is.ack (rw not_beyond refl)))

  no_advance : advances (bare_flow v) s ≡ false
  no_advance = rw is.still refl

  next_after : (n : ℕ) → v.acked < 2 ^ 32 → with_ack (record v { next = n }) s ≡ record v { next = n; room = s.window }
  next_after n small = rw is.still (ap (λ (a : ℕ). record v { next = n; acked = a; room = s.window }) same)
    where
      same : (v.acked + 0) % 2 ^ 32 ≡ v.acked
      same = omega (arith, small)

  all_said : (n : ℕ) → sends_more false given (record v { next = n; room = s.window }) ≡ false
  all_said n = rw (eq-eqb v.acked v.sent is.acked) (le-ltb v.acked given (omega (arith, is.acked, is.given_is)))

  pub next_acts : (l : Link) (n : ℕ) (unacked : List ℕ) (rec : ℕ) → taken_acts l v (record v { next = n; room = s.window }) given unacked rec s ≡ acknowledging l (record v { next = n; room = s.window }) s (grown_acts v.next n)
  next_acts l n unacked rec = rw (no_breach v s is.comes) (rw no_advance (rw (all_said n) refl))

  pub next_state : (n : ℕ) → breach_state v (record v { next = n; room = s.window }) given s (breached v s) ≡ Established (record v { next = n; room = s.window })
  next_state n = rw (no_breach v s is.comes) (rw no_advance (rw (all_said n) refl))

  pub next_retry : (n now : ℕ) (r : Retry) → breach_retry v (record v { next = n; room = s.window }) given s now (breached v s) r ≡ started now Probe
  next_retry n now r = rw (no_breach v s is.comes) (rw no_advance (rw (all_said n) (rw (eq-eqb v.acked v.sent is.acked) refl)))

none_ahead : (a : ℕ) → a < 2 ^ 32 → ahead a a ≡ 0
none_ahead a small = omega (arith, small)

-- what a taken segment leaves, but what is held
pub record TakesBut (old : Conn) (v : Variables) (rec : ℕ) (s : Incoming) (now : ℕ) (new : Conn) (acts : Acts) (received : Variables) : Type 0 where
  pub unacked : new.unacked.items ≡ drop (ahead v.acked (with_ack received s).acked) old.unacked.items
  pub acts_are : acts ≡ taken_acts old.link v (with_ack received s) old.given new.unacked.items rec s
  pub state : new.state ≡ breach_state v (with_ack received s) old.given s (breached v s)
  pub retry : new.retry ≡ breach_retry v (with_ack received s) old.given s now (breached v s) old.retry
  pub link : new.link ≡ old.link
  pub given : new.given ≡ old.given

pub takes_but : (old new : Conn) (v u : Variables) (rec : ℕ) (s : Incoming) (now : ℕ) (acts : Acts) → is_next v old.given s ≡ true → v.acked < 2 ^ 32 → u ≡ record v { next = u.next } → new.unacked.items ≡ old.unacked.items
    → acts ≡ acknowledging old.link (record u { room = s.window }) s (grown_acts v.next u.next) → new.state ≡ Established (record u { room = s.window }) → new.retry ≡ started now Probe → new.link ≡ old.link → new.given ≡ old.given
    → TakesBut old v rec s now new acts u
takes_but old new v u rec s now acts next small u_is unacked_is acts_is state_is retry_is link_is given_is =
    let is : IsNext v old.given s = next_is v old.given s next in
    let after_is : with_ack u s ≡ record v { next = u.next; room = s.window } = ap (λ (x : Variables). with_ack x s) u_is ∙ next_after v old.given s is u.next small in
    record {
      unacked = unacked_is
          ∙ sym (ap (λ (x : Variables). drop (ahead v.acked x.acked) old.unacked.items) after_is ∙ ap (λ (k : ℕ). drop k old.unacked.items) (none_ahead v.acked small));
      acts_are = acts_is
          ∙ ap (λ (x : Variables). acknowledging old.link (record x { room = s.window }) s (grown_acts v.next x.next)) u_is
          ∙ sym (next_acts v old.given s is old.link u.next new.unacked.items rec)
          ∙ ap (λ (x : Variables). taken_acts old.link v x old.given new.unacked.items rec s) (sym after_is);
      state = state_is
          ∙ ap (λ (x : Variables). Established (record x { room = s.window })) u_is
          ∙ sym (next_state v old.given s is u.next)
          ∙ ap (λ (x : Variables). breach_state v x old.given s (breached v s)) (sym after_is);
      retry = retry_is
          ∙ sym (next_retry v old.given s is u.next now old.retry)
          ∙ ap (λ (x : Variables). breach_retry v x old.given s now (breached v s) old.retry) (sym after_is);
      link = link_is;
      given = given_is;
    }

-- so the short way takes the segment
pub takes_next : (old new : Conn) (v u : Variables) (rec : ℕ) (s : Incoming) (now : ℕ) (acts : Acts) → is_next v old.given s ≡ true → v.acked < 2 ^ 32 → Receives v s old.held new.held u → new.unacked.items ≡ old.unacked.items
    → acts ≡ acknowledging old.link (record u { room = s.window }) s (grown_acts v.next u.next) → new.state ≡ Established (record u { room = s.window }) → new.retry ≡ started now Probe → new.link ≡ old.link → new.given ≡ old.given
    → TakesSegment old v rec s now new acts
takes_next old new v u rec s now acts next small got unacked_is acts_is state_is retry_is link_is given_is =
    let u_is : u ≡ record v { next = u.next } = received_is v s (next_is v old.given s next).comes old.held new.held u got in
    let but : TakesBut old v rec s now new acts u = takes_but old new v u rec s now acts next small u_is unacked_is acts_is state_is retry_is link_is given_is in
    record { received = u; receives = got; unacked = but.unacked; acts_are = but.acts_are; state = but.state; retry = but.retry; link = but.link; given = but.given }

-- so it does on an established connection
pub follows_next : (old new : Conn) (v u : Variables) (rec : ℕ) (s : Incoming) (now : ℕ) (acts : Acts) → old.state ≡ Established v → is_next_of old.state old.given s ≡ true → old.given < 2 ^ 32 → Receives v s old.held new.held u → new.unacked.items ≡ old.unacked.items
    → acts ≡ acknowledging old.link (record u { room = s.window }) s (grown_acts v.next u.next) → new.state ≡ Established (record u { room = s.window }) → new.retry ≡ started now Probe → new.link ≡ old.link → new.given ≡ old.given
    → FollowsState old old.state rec s now new acts
follows_next old new v u rec s now acts is next low got unacked_is acts_is state_is retry_is link_is given_is =
    let next_here : is_next v old.given s ≡ true = subst (λ (z : ConnState). is_next_of z old.given s ≡ true) is next in
    let said : IsNext v old.given s = next_is v old.given s next_here in
    let small : v.acked < 2 ^ 32 = omega (arith, said.acked, said.given_is, low) in
    subst (λ (z : ConnState). FollowsState old z rec s now new acts) (sym is)
    (subst (λ (k : Verdict). FollowsVerdict old v rec s now k new acts) (sym (next_taken v old.given s said))
    (takes_next old new v u rec s now acts next_here small got unacked_is acts_is state_is retry_is link_is given_is))
