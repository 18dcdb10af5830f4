-- A transfer that has ended none of its exchanges has one answer to what comes next.
use Rattle.std.proofs.Common.{◌≡◌, ℕ, List, [], ◌∷◌, ◌++◌, Option, None, refl, sym, ◌∙◌, ap, subst, append-nil}
use Rattle.std.specs.List.{AllByRecursion}
use Rattle.nb_terms.specs.declared.acts.Acts.{Acts}
use Rattle.nb_terms.specs.declared.cause.Cause.{Cause}
use Rattle.nb_defs.specs.Records.{Out, ended}
use Rattle.nb_stack.specs.Client.{Client}
use Rattle.nb_tftp.specs.Asks.{Begun, due_acts, last_message}
use Rattle.nb_tftp.specs.Ends.{timed_out}
use Rattle.nb_tftp.specs.History.{Call, came, ticked, Entry, entry, got, due_of, EachEntry}
use Rattle.nb_tftp.specs.Received.{fixed_port}
use Rattle.nb_tftp.specs.Blocks.{count, file}
use Rattle.nb_tftp.specs.Sentences.{Meets, AsksSo}
use Rattle.nb_machine.specs.Sendings.{acts_records, end_with_body}
use Rattle.nb_machine.specs.Lives.{OpenInput, close, Exchange, exchange, Live, continued}
use Rattle.nb_machine.specs.Transfers.{transfer_of, arrival_of, finds_none, transfer_end, end_records, transfer_records, Exchanged, at_first, takes, closes, KeepsTransfer}
use Rattle.nb_machine.specs.Takings.{end_among}
use Rattle.nb_onecourse.specs.Answers.{PutsNoEnd, IsUnended}
use Rattle.nb_onecourse.proofs.Ends.{snoc_same, snoc_some, all_init, chosen_none, no_end, not_closed, earlier_parts, cond_no, WentOn}
use Rattle.nb_onecourse.proofs.Dues.{IsTimerAnswer, time_shown}
use Rattle.nb_onecourse.proofs.CoreAnswers.{each_last, one_answer}

-- what came says the call
pub call_one : (x y : Call) → arrival_of x ≡ arrival_of y → x ≡ y
call_one (came m now) (came n at) e =
    let r : m.rec ≡ n.rec = cc in
    let p : m.port ≡ n.port = cc in
    let b : m.body ≡ n.body = cc in
    let t : now ≡ at = cc in
    ap (λ z. came (record { rec = z; port = m.port; body = m.body }) now) r ∙ ap (λ z. came (record { rec = n.rec; port = z; body = m.body }) now) p
    ∙ ap (λ z. came (record { rec = n.rec; port = n.port; body = z }) now) b ∙ ap (λ z. came n z) t
call_one (came m now) (ticked at) e = absurd (cc)
call_one (ticked now) (came n at) e = absurd (cc)
call_one (ticked now) (ticked at) e = let t : now ≡ at = cc in ap ticked t

pub no_close : (x : Call) (cause : Cause) → arrival_of x ≡ close cause → ⊥
no_close (came m now) cause e = cc
no_close (ticked now) cause e = cc

-- facts of the entries before the last
pub each_init : (P : List Entry → Entry → Type 0) (before es : List Entry) (e : Entry) → EachEntry P before (es ++ e ∷ []) → EachEntry P before es
each_init P before [] e h = tt
each_init P before (x ∷ es) e h = (h.0, each_init P (before ++ x ∷ []) es e h.1)

timer_answers : (b : Begun) (fixed : Option ℕ) (last : ℕ) → IsTimerAnswer (due_acts b fixed last) (last_message b fixed last) timed_out
timer_answers b fixed last = record { rests = refl; tries = λ n. refl; ends = refl }

-- where an exchange ended nothing
went_on : (k server : ℕ) (link : Client) (body : List ℕ) (acts : Acts) → end_among k (transfer_records k server link body acts) ≡ None → WentOn k link acts (transfer_records k server link body acts)
went_on k server link body acts e =
    let none = no_end k (acts_records link k acts) (transfer_end server link body acts) e in
    let parts = earlier_parts (end_with_body body acts) _ none in
    record {
      records = ap (λ z. acts_records link k acts ++ end_records k z) none ∙ append-nil (acts_records link k acts);
      over = chosen_none _ _ acts.over parts.0;
      ways = cond_no (finds_none link acts) _ parts.1;
    }

-- an earlier call asked what its records say
asked_one : (k server : ℕ) (b : Begun) (es : List Entry) (call : Call) (link : Client) (body body' : List ℕ) (a c : Acts) → AsksSo b es (entry call a) → AsksSo b es (entry call c) →
    transfer_records k server link body a ≡ transfer_records k server link body' c → end_among k (transfer_records k server link body a) ≡ None → end_among k (transfer_records k server link body' c) ≡ None → a ≡ c
asked_one k server b es (came m now) link body body' a c p q same na nc = p ∙ sym q
asked_one k server b es (ticked now) link body body' a c p q same na nc =
    let wa = went_on k server link body a na in
    let wc = went_on k server link body' c nc in
    time_shown (due_acts b (fixed_port (got es)) (count (got es))) (last_message b (fixed_port (got es)) (count (got es))) timed_out (timer_answers b (fixed_port (got es)) (count (got es)))
    link k a c (due_of a) (due_of c) p q (sym wa.records ∙ same ∙ wc.records) wa.over wc.over wa.ways wc.ways

-- the exchanges of a transfer say its calls, and what it asked at each
entries_one : (k server : ℕ) (b : Begun) (es es' : List Entry) (xs xs' : List Exchange) → Exchanged k server es xs → Exchanged k server es' xs' → xs ≡ xs' → AllByRecursion (PutsNoEnd k) xs →
    EachEntry (AsksSo b) [] es → EachEntry (AsksSo b) [] es' → es ≡ es'
entries_one k server b es es' xs xs' at_first at_first e n p q = refl
entries_one k server b es es' xs xs' at_first (takes es1 xs1 link call acts h) e n p q = absurd (snoc_some xs1 _ e)
entries_one k server b es es' xs xs' at_first (closes es1 xs1 link cause h) e n p q = absurd (snoc_some xs1 _ e)
entries_one k server b es es' xs xs' (takes es0 xs0 link call acts h) at_first e n p q = absurd (snoc_some xs0 _ (sym e))
entries_one k server b es es' xs xs' (takes es0 xs0 link call acts h) (closes es1 xs1 link1 cause h1) e n p q =
    absurd (no_close call cause (ap (λ (x : Exchange). x.came) (snoc_same xs0 xs1 _ _ e).1))
entries_one k server b es es' xs xs' (closes es0 xs0 link cause h) g e n p q = absurd (not_closed k cause (all_init (PutsNoEnd k) xs0 _ n).1)
entries_one k server b es es' xs xs' (takes es0 xs0 link call acts h) (takes es1 xs1 link1 call1 acts1 h1) e n p q =
    let cut = snoc_same xs0 xs1 _ _ e in
    let init = all_init (PutsNoEnd k) xs0 _ n in
    let front : es0 ≡ es1 = entries_one k server b es0 es1 xs0 xs1 h h1 cut.0 init.0 (each_init (AsksSo b) [] es0 _ p) (each_init (AsksSo b) [] es1 _ q) in
    let calls : call ≡ call1 = call_one call call1 (ap (λ (x : Exchange). x.came) cut.1) in
    let links : link ≡ link1 = ap (λ (x : Exchange). x.link) cut.1 in
    let puts = ap (λ (x : Exchange). x.put) cut.1 in
    let body = file (got (es0 ++ entry call acts ∷ [])) in
    let body1 = file (got (es1 ++ entry call1 acts1 ∷ [])) in
    let back = ap (λ z. transfer_records k server z body1 acts1) (sym links) in
    let asked : acts ≡ acts1 =
    asked_one k server b es0 call link body body1 acts acts1 (each_last (AsksSo b) [] es0 _ p)
    (subst (λ z. AsksSo b es0 (entry z acts1)) (sym calls) (subst (λ z. AsksSo b z (entry call1 acts1)) (sym front) (each_last (AsksSo b) [] es1 _ q)))
    (puts ∙ back) init.1 (ap (end_among k) (sym (puts ∙ back)) ∙ init.1) in
    ap (λ z. z ++ entry call acts ∷ []) front ∙ ap (λ z. es1 ++ entry z acts ∷ []) calls ∙ ap (λ z. es1 ++ entry call1 z ∷ []) asked

-- the last exchange of a transfer
data LastOne (k server : ℕ) (es : List Entry) (xs : List Exchange) (input : OpenInput) (link : Client) (put : List Out) : Type 0 where
  was_taken : (es0 : List Entry) (call : Call) (acts : Acts) → Exchanged k server es0 xs → es ≡ es0 ++ entry call acts ∷ [] → input ≡ arrival_of call →
      put ≡ transfer_records k server link (file (got (es0 ++ entry call acts ∷ []))) acts → LastOne k server es xs input link put
  was_closed : (cause : Cause) → input ≡ close cause → put ≡ ended k cause ∷ [] → LastOne k server es xs input link put

last_one_of : (k server : ℕ) (es : List Entry) (all xs : List Exchange) (input : OpenInput) (link : Client) (put : List Out) → Exchanged k server es all → all ≡ xs ++ exchange input link put ∷ [] → LastOne k server es xs input link put
last_one_of k server es all xs input link put at_first e = absurd (snoc_some xs _ e)
last_one_of k server es all xs input link put (takes es0 xs0 link0 call acts h) e =
    let cut = snoc_same xs0 xs _ _ e in
    was_taken es0 call acts (subst (λ z. Exchanged k server es0 z) cut.0 h) refl (sym (ap (λ (x : Exchange). x.came) cut.1))
    (sym (ap (λ (x : Exchange). x.put) cut.1) ∙ ap (λ z. transfer_records k server z (file (got (es0 ++ entry call acts ∷ []))) acts) (ap (λ (x : Exchange). x.link) cut.1))
last_one_of k server es all xs input link put (closes es0 xs0 link0 cause h) e =
    let cut = snoc_same xs0 xs _ _ e in
    was_closed cause (sym (ap (λ (x : Exchange). x.came) cut.1)) (sym (ap (λ (x : Exchange). x.put) cut.1))

-- both ended so
one_cause : (x y : Cause) → close x ≡ close y → x ≡ y
one_cause x y e = cc

last_same : (k server start : ℕ) (b : Begun) (es es' : List Entry) (xs : List Exchange) (input : OpenInput) (link : Client) (put put' : List Out) → AllByRecursion (PutsNoEnd k) xs →
    LastOne k server es xs input link put → LastOne k server es' xs input link put' → Meets b start es → Meets b start es' → put ≡ put'
last_same k server start b es es' xs input link put put' n (was_closed cause c e) (was_closed cause' c' e') p q = e ∙ ap (λ z. ended k z ∷ []) (one_cause cause cause' (sym c ∙ c')) ∙ sym e'
last_same k server start b es es' xs input link put put' n (was_closed cause c e) (was_taken es1 call1 acts1 h1 s1 c1 e1) p q = absurd (no_close call1 cause (sym c1 ∙ c))
last_same k server start b es es' xs input link put put' n (was_taken es0 call acts h s c e) (was_closed cause c1 e1) p q = absurd (no_close call cause (sym c ∙ c1))
last_same k server start b es es' xs input link put put' n (was_taken es0 call acts h s c e) (was_taken es1 call1 acts1 h1 s1 c1 e1) p q =
    let p0 = subst (Meets b start) s p in
    let q0 = subst (Meets b start) s1 q in
    let front : es0 ≡ es1 = entries_one k server b es0 es1 xs xs h h1 refl n (each_init (AsksSo b) [] es0 _ p0.sending) (each_init (AsksSo b) [] es1 _ q0.sending) in
    let calls : call ≡ call1 = call_one call call1 (sym c ∙ c1) in
    let asked : acts ≡ acts1 =
    one_answer b start es0 call acts acts1 p0 (subst (λ z. Meets b start (es0 ++ entry z acts1 ∷ [])) (sym calls) (subst (λ z. Meets b start (z ++ entry call1 acts1 ∷ [])) (sym front) q0)) in
    e ∙ ap (λ z. transfer_records k server link (file (got (z ++ entry call acts ∷ []))) acts) front
    ∙ ap (λ z. transfer_records k server link (file (got (es1 ++ entry z acts ∷ []))) acts) calls ∙ ap (λ z. transfer_records k server link (file (got (es1 ++ entry call1 z ∷ []))) z) asked ∙ sym e1

pub transfer_one : (l : Live) (input : OpenInput) (link : Client) (put put' : List Out) → IsUnended l → KeepsTransfer (continued l (exchange input link put)) → KeepsTransfer (continued l (exchange input link put')) → put ≡ put'
transfer_one l input link put put' n a c =
    last_same l.number l.server l.since (transfer_of l) a.entries c.entries l.exchanges input link put put' n
    (last_one_of l.number l.server a.entries (l.exchanges ++ exchange input link put ∷ []) l.exchanges input link put a.exchanged refl)
    (last_one_of l.number l.server c.entries (l.exchanges ++ exchange input link put' ∷ []) l.exchanges input link put' c.exchanged refl) a.meets c.meets
