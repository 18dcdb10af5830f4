-- An open whose one core asks and is answered, and that has ended none of its exchanges, has one answer to what comes next.
use Rattle.std.proofs.Common.{◌≡◌, ℕ, false, List, [], ◌∷◌, ◌++◌, None, refl, sym, ◌∙◌, ap, subst, append-nil}
use Rattle.std.specs.List.{AllByRecursion}
use Rattle.nb_terms.specs.declared.acts.Acts.{Acts}
use Rattle.nb_terms.specs.declared.cause.Cause.{Cause}
use Rattle.nb_defs.specs.Records.{Out, ended}
use Rattle.nb_stack.specs.Client.{Client}
use Rattle.nb_graph.specs.Trace.{Said}
use Rattle.nb_nodes.specs.Exchanges.{Service}
use Rattle.nb_command.specs.SettingAddresses.{host}
use Rattle.nb_machine.specs.Sendings.{acts_records}
use Rattle.nb_machine.specs.Saying.{datagram_from}
use Rattle.nb_machine.specs.Lives.{OpenInput, message, tcp_segment, time, task, close, Exchange, exchange, Live, continued}
use Rattle.nb_machine.specs.Transfers.{finds_none, end_records}
use Rattle.nb_machine.specs.Cores.{core_end, core_records, CoreExchanged, at_first, takes_message, takes_time, closes, KeepsCore}
use Rattle.nb_machine.specs.Takings.{end_among}
use Rattle.nb_onecourse.specs.Answers.{PutsNoEnd, IsUnended}
use Rattle.nb_onecourse.proofs.Ends.{snoc_same, snoc_some, all_init, no_end, not_closed, earlier_parts, cond_no, WentOn}

-- What a core's promises leave to each of its calls: `Prior` is what they say of the calls before the last. A message asks one
-- thing; so does the last of the times; and an earlier time asked what was put.
pub record AsksOne {S B C : Type 0} (s : Service S B C) (b : B) (k start : ℕ) (Prior : List C → Type 0) : Type 0 where
  pub prior : (cs : List C) → s.meets b start cs → Prior cs
  pub before : (cs : List C) (c : C) → Prior (cs ++ c ∷ []) → Prior cs
  pub by_message : (cs : List C) (m : Said) (now : ℕ) (a c : Acts) → Prior (cs ++ s.received m now a ∷ []) → Prior (cs ++ s.received m now c ∷ []) → a ≡ c
  pub by_records : (cs : List C) (now : ℕ) (link : Client) (a c : Acts) → Prior (cs ++ s.timed now a ∷ []) → Prior (cs ++ s.timed now c ∷ []) → acts_records link k a ≡ acts_records link k c →
      a.over ≡ None → c.over ≡ None → finds_none link a ≡ false → finds_none link c ≡ false → a ≡ c
  pub at_last : (cs : List C) (now : ℕ) (a c : Acts) → s.meets b start (cs ++ s.timed now a ∷ []) → s.meets b start (cs ++ s.timed now c ∷ []) → a ≡ c

-- the message that came, and when
said_in : ℕ → OpenInput → Said
said_in server (message rec port body now) = datagram_from rec port (host server) body
said_in server (tcp_segment rec g now) = datagram_from 0 0 (host server) []
said_in server (time now) = datagram_from 0 0 (host server) []
said_in server (task t now) = datagram_from 0 0 (host server) []
said_in server (close cause) = datagram_from 0 0 (host server) []

now_in : OpenInput → ℕ
now_in (message rec port body now) = now
now_in (tcp_segment rec g now) = now
now_in (time now) = now
now_in (task t now) = now
now_in (close cause) = 0

same_said : (server rec port now rec' port' now' : ℕ) (body body' : List ℕ) → message rec port body now ≡ message rec' port' body' now' → datagram_from rec port (host server) body ≡ datagram_from rec' port' (host server) body'
unfolding said_in
same_said server rec port now rec' port' now' body body' e = ap (said_in server) e

same_now : (rec port now rec' port' now' : ℕ) (body body' : List ℕ) → message rec port body now ≡ message rec' port' body' now' → now ≡ now'
same_now rec port now rec' port' now' body body' e = cc

same_time : (now now' : ℕ) → time now ≡ time now' → now ≡ now'
same_time now now' e = cc

one_cause : (x y : Cause) → close x ≡ close y → x ≡ y
one_cause x y e = cc

-- a message is no time, nor is either a close
no_time : (rec port now at : ℕ) (body : List ℕ) → message rec port body now ≡ time at → ⊥
no_time rec port now at body e = cc

no_close_message : (rec port now : ℕ) (body : List ℕ) (cause : Cause) → message rec port body now ≡ close cause → ⊥
no_close_message rec port now body cause e = cc

no_close_time : (now : ℕ) (cause : Cause) → time now ≡ close cause → ⊥
no_close_time now cause e = cc

-- where an exchange ended nothing
went_on : (k server : ℕ) (link : Client) (acts : Acts) → end_among k (core_records k server link acts) ≡ None → WentOn k link acts (core_records k server link acts)
went_on k server link acts e =
    let none = no_end k (acts_records link k acts) (core_end server link acts) e in
    let parts = earlier_parts acts.over _ none in
    record {
      records = ap (λ z. acts_records link k acts ++ end_records k z) none ∙ append-nil (acts_records link k acts);
      over = parts.0;
      ways = cond_no (finds_none link acts) _ parts.1;
    }

module _ {S B C : Type 0} (s : Service S B C) (b : B) (k start server : ℕ) (Prior : List C → Type 0) (one : AsksOne s b k start Prior) where
  -- the exchanges say the calls, and what was asked at each
  calls_one : (cs cs' : List C) (xs xs' : List Exchange) → CoreExchanged s k server cs xs → CoreExchanged s k server cs' xs' → xs ≡ xs' → AllByRecursion (PutsNoEnd k) xs → Prior cs → Prior cs' → cs ≡ cs'
  calls_one cs cs' xs xs' at_first at_first e n p q = refl
  calls_one cs cs' xs xs' at_first (takes_message cs1 xs1 link1 rec1 port1 body1 now1 acts1 h1) e n p q = absurd (snoc_some xs1 _ e)
  calls_one cs cs' xs xs' at_first (takes_time cs1 xs1 link1 now1 acts1 h1) e n p q = absurd (snoc_some xs1 _ e)
  calls_one cs cs' xs xs' at_first (closes cs1 xs1 link1 cause1 h1) e n p q = absurd (snoc_some xs1 _ e)
  calls_one cs cs' xs xs' (closes cs0 xs0 link cause h) g e n p q = absurd (not_closed k cause (all_init (PutsNoEnd k) xs0 _ n).1)
  calls_one cs cs' xs xs' (takes_message cs0 xs0 link rec port body now acts h) at_first e n p q = absurd (snoc_some xs0 _ (sym e))
  calls_one cs cs' xs xs' (takes_message cs0 xs0 link rec port body now acts h) (takes_time cs1 xs1 link1 now1 acts1 h1) e n p q =
      absurd (no_time rec port now now1 body (ap (λ (x : Exchange). x.came) (snoc_same xs0 xs1 _ _ e).1))
  calls_one cs cs' xs xs' (takes_message cs0 xs0 link rec port body now acts h) (closes cs1 xs1 link1 cause1 h1) e n p q =
      absurd (no_close_message rec port now body cause1 (ap (λ (x : Exchange). x.came) (snoc_same xs0 xs1 _ _ e).1))
  calls_one cs cs' xs xs' (takes_message cs0 xs0 link rec port body now acts h) (takes_message cs1 xs1 link1 rec1 port1 body1 now1 acts1 h1) e n p q =
      let cut = snoc_same xs0 xs1 _ _ e in
      let came = ap (λ (x : Exchange). x.came) cut.1 in
      let init = all_init (PutsNoEnd k) xs0 _ n in
      let front : cs0 ≡ cs1 = calls_one cs0 cs1 xs0 xs1 h h1 cut.0 init.0 (one.before cs0 _ p) (one.before cs1 _ q) in
      let said = same_said server rec port now rec1 port1 now1 body body1 came in
      let at = same_now rec port now rec1 port1 now1 body body1 came in
      let m1 = datagram_from rec1 port1 (host server) body1 in
      let q0 = subst (λ z. Prior (cs0 ++ s.received z now acts1 ∷ [])) (sym said) (subst (λ z. Prior (cs0 ++ s.received m1 z acts1 ∷ [])) (sym at) (subst (λ z. Prior (z ++ s.received m1 now1 acts1 ∷ [])) (sym front) q)) in
      let asked = one.by_message cs0 (datagram_from rec port (host server) body) now acts acts1 p q0 in
      ap (λ z. z ++ s.received (datagram_from rec port (host server) body) now acts ∷ []) front ∙ ap (λ z. cs1 ++ s.received z now acts ∷ []) said
      ∙ ap (λ z. cs1 ++ s.received m1 z acts ∷ []) at ∙ ap (λ z. cs1 ++ s.received m1 now1 z ∷ []) asked
  calls_one cs cs' xs xs' (takes_time cs0 xs0 link now acts h) at_first e n p q = absurd (snoc_some xs0 _ (sym e))
  calls_one cs cs' xs xs' (takes_time cs0 xs0 link now acts h) (takes_message cs1 xs1 link1 rec1 port1 body1 now1 acts1 h1) e n p q =
      absurd (no_time rec1 port1 now1 now body1 (sym (ap (λ (x : Exchange). x.came) (snoc_same xs0 xs1 _ _ e).1)))
  calls_one cs cs' xs xs' (takes_time cs0 xs0 link now acts h) (closes cs1 xs1 link1 cause1 h1) e n p q =
      absurd (no_close_time now cause1 (ap (λ (x : Exchange). x.came) (snoc_same xs0 xs1 _ _ e).1))
  calls_one cs cs' xs xs' (takes_time cs0 xs0 link now acts h) (takes_time cs1 xs1 link1 now1 acts1 h1) e n p q =
      let cut = snoc_same xs0 xs1 _ _ e in
      let init = all_init (PutsNoEnd k) xs0 _ n in
      let front : cs0 ≡ cs1 = calls_one cs0 cs1 xs0 xs1 h h1 cut.0 init.0 (one.before cs0 _ p) (one.before cs1 _ q) in
      let at = same_time now now1 (ap (λ (x : Exchange). x.came) cut.1) in
      let puts = ap (λ (x : Exchange). x.put) cut.1 ∙ ap (λ z. core_records k server z acts1) (sym (ap (λ (x : Exchange). x.link) cut.1)) in
      let wa = went_on k server link acts init.1 in
      let wc = went_on k server link acts1 (ap (end_among k) (sym puts) ∙ init.1) in
      let q0 = subst (λ z. Prior (cs0 ++ s.timed z acts1 ∷ [])) (sym at) (subst (λ z. Prior (z ++ s.timed now1 acts1 ∷ [])) (sym front) q) in
      let asked = one.by_records cs0 now link acts acts1 p q0 (sym wa.records ∙ puts ∙ wc.records) wa.over wc.over wa.ways wc.ways in
      ap (λ z. z ++ s.timed now acts ∷ []) front ∙ ap (λ z. cs1 ++ s.timed z acts ∷ []) at ∙ ap (λ z. cs1 ++ s.timed now1 z ∷ []) asked

  -- the last exchange
  data LastOne (cs : List C) (xs : List Exchange) (input : OpenInput) (link : Client) (put : List Out) : Type 0 where
    by_message : (cs0 : List C) (rec port : ℕ) (body : List ℕ) (now : ℕ) (acts : Acts) → CoreExchanged s k server cs0 xs → cs ≡ cs0 ++ s.received (datagram_from rec port (host server) body) now acts ∷ [] →
        input ≡ message rec port body now → put ≡ core_records k server link acts → LastOne cs xs input link put
    by_time : (cs0 : List C) (now : ℕ) (acts : Acts) → CoreExchanged s k server cs0 xs → cs ≡ cs0 ++ s.timed now acts ∷ [] → input ≡ time now → put ≡ core_records k server link acts → LastOne cs xs input link put
    by_close : (cause : Cause) → input ≡ close cause → put ≡ ended k cause ∷ [] → LastOne cs xs input link put

  last_of : (cs : List C) (all xs : List Exchange) (input : OpenInput) (link : Client) (put : List Out) → CoreExchanged s k server cs all → all ≡ xs ++ exchange input link put ∷ [] → LastOne cs xs input link put
  last_of cs all xs input link put at_first e = absurd (snoc_some xs _ e)
  last_of cs all xs input link put (takes_message cs0 xs0 link0 rec port body now acts h) e =
      let cut = snoc_same xs0 xs _ _ e in
      by_message cs0 rec port body now acts (subst (λ z. CoreExchanged s k server cs0 z) cut.0 h) refl (sym (ap (λ (x : Exchange). x.came) cut.1))
      (sym (ap (λ (x : Exchange). x.put) cut.1) ∙ ap (λ z. core_records k server z acts) (ap (λ (x : Exchange). x.link) cut.1))
  last_of cs all xs input link put (takes_time cs0 xs0 link0 now acts h) e =
      let cut = snoc_same xs0 xs _ _ e in
      by_time cs0 now acts (subst (λ z. CoreExchanged s k server cs0 z) cut.0 h) refl (sym (ap (λ (x : Exchange). x.came) cut.1))
      (sym (ap (λ (x : Exchange). x.put) cut.1) ∙ ap (λ z. core_records k server z acts) (ap (λ (x : Exchange). x.link) cut.1))
  last_of cs all xs input link put (closes cs0 xs0 link0 cause h) e =
      let cut = snoc_same xs0 xs _ _ e in
      by_close cause (sym (ap (λ (x : Exchange). x.came) cut.1)) (sym (ap (λ (x : Exchange). x.put) cut.1))

  last_same : (cs cs' : List C) (xs : List Exchange) (input : OpenInput) (link : Client) (put put' : List Out) → AllByRecursion (PutsNoEnd k) xs → LastOne cs xs input link put → LastOne cs' xs input link put' →
      s.meets b start cs → s.meets b start cs' → put ≡ put'
  last_same cs cs' xs input link put put' n (by_close cause c e) (by_close cause1 c1 e1) p q = e ∙ ap (λ z. ended k z ∷ []) (one_cause cause cause1 (sym c ∙ c1)) ∙ sym e1
  last_same cs cs' xs input link put put' n (by_close cause c e) (by_message cs1 rec1 port1 body1 now1 acts1 h1 s1 c1 e1) p q = absurd (no_close_message rec1 port1 now1 body1 cause (sym c1 ∙ c))
  last_same cs cs' xs input link put put' n (by_close cause c e) (by_time cs1 now1 acts1 h1 s1 c1 e1) p q = absurd (no_close_time now1 cause (sym c1 ∙ c))
  last_same cs cs' xs input link put put' n (by_message cs0 rec port body now acts h s0 c e) (by_close cause1 c1 e1) p q = absurd (no_close_message rec port now body cause1 (sym c ∙ c1))
  last_same cs cs' xs input link put put' n (by_time cs0 now acts h s0 c e) (by_close cause1 c1 e1) p q = absurd (no_close_time now cause1 (sym c ∙ c1))
  last_same cs cs' xs input link put put' n (by_message cs0 rec port body now acts h s0 c e) (by_time cs1 now1 acts1 h1 s1 c1 e1) p q = absurd (no_time rec port now now1 body (sym c ∙ c1))
  last_same cs cs' xs input link put put' n (by_time cs0 now acts h s0 c e) (by_message cs1 rec1 port1 body1 now1 acts1 h1 s1 c1 e1) p q = absurd (no_time rec1 port1 now1 now body1 (sym c1 ∙ c))
  last_same cs cs' xs input link put put' n (by_message cs0 rec port body now acts h s0 c e) (by_message cs1 rec1 port1 body1 now1 acts1 h1 s1 c1 e1) p q =
      let p0 = one.prior _ (subst (s.meets b start) s0 p) in
      let q1 = one.prior _ (subst (s.meets b start) s1 q) in
      let front : cs0 ≡ cs1 = calls_one cs0 cs1 xs xs h h1 refl n (one.before cs0 _ p0) (one.before cs1 _ q1) in
      let said = same_said server rec port now rec1 port1 now1 body body1 (sym c ∙ c1) in
      let at = same_now rec port now rec1 port1 now1 body body1 (sym c ∙ c1) in
      let m1 = datagram_from rec1 port1 (host server) body1 in
      let q0 = subst (λ z. Prior (cs0 ++ s.received z now acts1 ∷ [])) (sym said) (subst (λ z. Prior (cs0 ++ s.received m1 z acts1 ∷ [])) (sym at) (subst (λ z. Prior (z ++ s.received m1 now1 acts1 ∷ [])) (sym front) q1)) in
      e ∙ ap (core_records k server link) (one.by_message cs0 (datagram_from rec port (host server) body) now acts acts1 p0 q0) ∙ sym e1
  last_same cs cs' xs input link put put' n (by_time cs0 now acts h s0 c e) (by_time cs1 now1 acts1 h1 s1 c1 e1) p q =
      let p0 = subst (s.meets b start) s0 p in
      let q1 = subst (s.meets b start) s1 q in
      let front : cs0 ≡ cs1 = calls_one cs0 cs1 xs xs h h1 refl n (one.before cs0 _ (one.prior _ p0)) (one.before cs1 _ (one.prior _ q1)) in
      let at = same_time now now1 (sym c ∙ c1) in
      let q0 = subst (λ z. s.meets b start (cs0 ++ s.timed z acts1 ∷ [])) (sym at) (subst (λ z. s.meets b start (z ++ s.timed now1 acts1 ∷ [])) (sym front) q1) in
      e ∙ ap (core_records k server link) (one.at_last cs0 now acts acts1 p0 q0) ∙ sym e1

-- the answer of such an open is one
pub core_one : {S B C : Type 0} (s : Service S B C) (b : B) (l : Live) (Prior : List C → Type 0) → AsksOne s b l.number l.since Prior → (input : OpenInput) (link : Client) (put put' : List Out) → IsUnended l →
    KeepsCore s b (continued l (exchange input link put)) → KeepsCore s b (continued l (exchange input link put')) → put ≡ put'
core_one s b l Prior one input link put put' n a c =
    last_same s b l.number l.since l.server Prior one a.calls c.calls l.exchanges input link put put' n
    (last_of s b l.number l.since l.server Prior one a.calls (l.exchanges ++ exchange input link put ∷ []) l.exchanges input link put a.exchanged refl)
    (last_of s b l.number l.since l.server Prior one c.calls (l.exchanges ++ exchange input link put' ∷ []) l.exchanges input link put' c.exchanged refl) a.meets c.meets
