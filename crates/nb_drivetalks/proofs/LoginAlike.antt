-- Logins that were given the same PDUs decide alike on the next one, whichever records brought them: they ask the same, or both end.
use Rattle.std.proofs.Common.{◌≡◌, ℕ, Bool, true, false, List, [], ◌∷◌, ◌++◌, fold, Option, Some, None, refl, ap, ◌∙◌, sym, subst, arith}
use Rattle.std.specs.Option.{is_some, option_map_or}
use Rattle.nb_iscsipdu.specs.PduTexts.{PduParts}
use Rattle.nb_iscsipdu.specs.Answers.{AnswerParts, login, scsi, data_in, nop_in, other}
use Rattle.nb_login.specs.declared.info.LoginInfo.{LoginInfo}
use Rattle.nb_login.specs.LoginHistory.{PduCame, pdu_came, LoginEntry, login_entry, counted_repeats, decided_after, decided_at, end_given, expected_of, is_end, last_done, login_ended, repeats, text_put}
use Rattle.nb_login.specs.Logins.{after_came, login_history, text_of_entry}
use Rattle.nb_login.specs.LoginRecords.{pdus_alone}
use Rattle.nb_login.specs.LoginVerdicts.{by_keys, by_response, decided}
use Rattle.nb_login.proofs.LoginHistoryLemmas.{last_done-append, repeats-append}

-- ---- what a decision is

pub asks_on : (i : LoginInfo) (sn : ℕ) (e : LoginEntry) (text : List ℕ) → text_put i sn e.does ≡ Some text → is_end e.does ≡ false
asks_on i sn e text h = grind arith

pub says_none : (i : LoginInfo) (sn : ℕ) (e : LoginEntry) → is_end e.does ≡ true → text_put i sn e.does ≡ None
says_none i sn e h = grind arith

pub silent_ends : (i : LoginInfo) (sn : ℕ) (e : LoginEntry) → text_put i sn e.does ≡ None → is_some (end_given e.does) ≡ true
silent_ends i sn e h = grind arith

pub silent_ended : (i : LoginInfo) (sn : ℕ) (e : LoginEntry) → text_put i sn e.does ≡ None → is_end e.does ≡ true
silent_ended i sn e h = grind arith

-- ---- the record shows in ends alone

keys_end : (i : LoginInfo) (m n count : ℕ) (step r : _) → is_end (by_keys i step m count r) ≡ is_end (by_keys i step n count r)
keys_end i m n count step r = grind arith

keys_on : (i : LoginInfo) (m n count : ℕ) (step r : _) → is_end (by_keys i step m count r) ≡ false → by_keys i step m count r ≡ by_keys i step n count r
keys_on i m n count step r h = grind arith

response_end : (i : LoginInfo) (m n count : ℕ) (step r : _) → is_end (by_response i step m count r) ≡ is_end (by_response i step n count r)
unfolding by_response
response_end i m n count step r = grind arith

response_on : (i : LoginInfo) (m n count : ℕ) (step r : _) → is_end (by_response i step m count r) ≡ false → by_response i step m count r ≡ by_response i step n count r
unfolding by_response
response_on i m n count step r h = grind arith

answer_end : (i : LoginInfo) (m n count : ℕ) (step : _) (a : AnswerParts) → is_end (decided i step m count a) ≡ is_end (decided i step n count a)
answer_end i m n count step (login r) = response_end i m n count step r
answer_end i m n count step (scsi r) = refl
answer_end i m n count step (data_in d) = refl
answer_end i m n count step (nop_in x) = refl
answer_end i m n count step other = refl

answer_on : (i : LoginInfo) (m n count : ℕ) (step : _) (a : AnswerParts) → is_end (decided i step m count a) ≡ false → decided i step m count a ≡ decided i step n count a
answer_on i m n count step (login r) h = response_on i m n count step r h
answer_on i m n count step (scsi r) h = absurd (let z = h in cc)
answer_on i m n count step (data_in d) h = absurd (let z = h in cc)
answer_on i m n count step (nop_in x) h = absurd (let z = h in cc)
answer_on i m n count step other h = absurd (let z = h in cc)

after_end : (i : LoginInfo) (m n : ℕ) (p : PduParts) (count : ℕ) (d : _) → is_end (decided_after i count (pdu_came m p) d) ≡ is_end (decided_after i count (pdu_came n p) d)
after_end i m n p count d = grind (arith, answer_end)

after_on : (i : LoginInfo) (m n : ℕ) (p : PduParts) (count : ℕ) (d : _) → is_end d ≡ false → is_end (decided_after i count (pdu_came m p) d) ≡ false → decided_after i count (pdu_came m p) d ≡ decided_after i count (pdu_came n p) d
after_on i m n p count d on h = grind (arith, answer_on)

-- ---- histories

-- They have both ended, or ask the same, after as many requests without keys.
pub record AlikeSoFar (h k : List LoginEntry) : Type 0 where
  pub ended : login_ended h ≡ login_ended k
  pub last : login_ended h ≡ false → last_done h ≡ last_done k
  pub repeated : login_ended h ≡ false → repeats h ≡ repeats k

-- the same PDU comes to the same where the same record brings it, and to two ends or the same where others do
module _ (i : LoginInfo) (h k : List LoginEntry) (a : AlikeSoFar h k) (on : login_ended h ≡ false) where
  pub next_same : (m : PduCame) → decided_at i h m ≡ decided_at i k m
  next_same m = ap (λ c. decided_after i c m (last_done h)) (a.repeated on) ∙ ap (decided_after i (repeats k) m) (a.last on)

  module _ (m n : ℕ) (p : PduParts) where
    does_end : is_end (decided_at i h (pdu_came m p)) ≡ is_end (decided_at i k (pdu_came n p))
    does_end = after_end i m n p (repeats h) (last_done h) ∙ ap is_end (next_same (pdu_came n p))

    does_on : is_end (decided_at i h (pdu_came m p)) ≡ false → decided_at i h (pdu_came m p) ≡ decided_at i k (pdu_came n p)
    does_on f = after_on i m n p (repeats h) (last_done h) on f ∙ next_same (pdu_came n p)

    entry_of : LoginEntry
    entry_of = login_entry (pdu_came m p) (decided_at i h (pdu_came m p))

    other_of : LoginEntry
    other_of = login_entry (pdu_came n p) (decided_at i k (pdu_came n p))

    pub text_alike : text_of_entry i (login_entry (pdu_came m p) (decided_at i h (pdu_came m p))) ≡ text_of_entry i (login_entry (pdu_came n p) (decided_at i k (pdu_came n p)))
    unfolding entry_of other_of
    text_alike = by (is_end (decided_at i h (pdu_came m p))) refl
      where
        sn : ℕ
        sn = expected_of (pdu_came m p)

        by : (b : Bool) → is_end (decided_at i h (pdu_came m p)) ≡ b → text_of_entry i (login_entry (pdu_came m p) (decided_at i h (pdu_came m p))) ≡ text_of_entry i (login_entry (pdu_came n p) (decided_at i k (pdu_came n p)))
        by true e =
            ap (λ (t : Option (List ℕ)). option_map_or (λ (text : List ℕ). text) t [])
            (says_none i sn (login_entry (pdu_came m p) (decided_at i h (pdu_came m p))) e ∙ sym (says_none i sn (login_entry (pdu_came n p) (decided_at i k (pdu_came n p))) (sym does_end ∙ e)))
        by false e = ap (λ d. option_map_or (λ (text : List ℕ). text) (text_put i sn d) []) (does_on e)

    added : AlikeSoFar (h ++ entry_of ∷ []) (k ++ other_of ∷ [])
    unfolding entry_of other_of
    added = record {
      ended = ap is_end (last_done-append h entry_of) ∙ does_end ∙ sym (ap is_end (last_done-append k other_of));
      last = λ f. last_done-append h entry_of ∙ does_on (sym (ap is_end (last_done-append h entry_of)) ∙ f) ∙ sym (last_done-append k other_of);
      repeated = λ f. repeats-append h entry_of ∙ ap (λ c. counted_repeats c entry_of.does) (a.repeated on) ∙ ap (counted_repeats (repeats k)) (does_on (sym (ap is_end (last_done-append h entry_of)) ∙ f)) ∙ sym (repeats-append k other_of);
    }

both_on : (i : LoginInfo) (h k : List LoginEntry) (a : AlikeSoFar h k) (m n : ℕ) (p : PduParts) → AlikeSoFar (after_came i h (pdu_came m p)) (after_came i k (pdu_came n p))
unfolding entry_of other_of
both_on i h k a m n p = by (login_ended h) refl
  where
    by : (b : Bool) → login_ended h ≡ b → AlikeSoFar (after_came i h (pdu_came m p)) (after_came i k (pdu_came n p))
    by true e = rw (e, sym a.ended ∙ e) a
    by false e = rw (e, sym a.ended ∙ e) (added i h k a e m n p)

all_alike : (i : LoginInfo) (ms ns : List PduCame) (h k : List LoginEntry) → pdus_alone ms ≡ pdus_alone ns → AlikeSoFar h k → AlikeSoFar (fold (after_came i) h ms) (fold (after_came i) k ns)
all_alike i [] [] h k same a = a
all_alike i [] (n ∷ ns) h k same a = absurd cc
all_alike i (m ∷ ms) [] h k same a = absurd cc
all_alike i (m ∷ ms) (n ∷ ns) h k same a =
    let pdu : n.pdu ≡ m.pdu = let s = same in cc in
    all_alike i ms ns (after_came i h m) (after_came i k n) (let s = same in cc) (subst (λ q. AlikeSoFar (after_came i h m) (after_came i k (pdu_came n.rec q))) (sym pdu) (both_on i h k a m.rec n.rec m.pdu))

pub histories_alike : (i : LoginInfo) (ms ns : List PduCame) → pdus_alone ms ≡ pdus_alone ns → AlikeSoFar (login_history i ms) (login_history i ns)
histories_alike i ms ns same = all_alike i ms ns [] [] same (record { ended = refl; last = λ _. refl; repeated = λ _. refl })
