-- Which records brought the answers of a login shows in its ends alone.
use Rattle.std.proofs.Common.{◌≡◌, ◌&&◌, ◌||◌, ◌+◌, ℕ, Bool, true, false, not, List, [], ◌∷◌, ◌++◌, length, fold, cond, Option, Some, None, if◌then◌else◌, refl, ap, ◌∙◌, sym, subst, eqb, ltb}
use Rattle.std.specs.List.{flat_map}
use Rattle.std.specs.Option.{option_map_or}
use Rattle.std.proofs.lemmas.List.Concat.{flat_map-append}
use Rattle.std.proofs.lemmas.List.{length-append}
use Rattle.nb_terms.specs.declared.cause.Cause.{Cause}
use Rattle.nb_iscsipdu.specs.PduTexts.{PduParts}
use Rattle.nb_iscsipdu.specs.Answers.{AnswerParts, LoginResponseParts, login, scsi, data_in, nop_in, other, answer_read}
use Rattle.nb_login.specs.declared.info.LoginInfo.{LoginInfo}
use Rattle.nb_login.specs.declared.session.Session.{Session}
use Rattle.nb_login.specs.declared.step.Chap.{Chap}
use Rattle.nb_login.specs.declared.step.Chap.TheVariants.{No}
use Rattle.nb_login.specs.declared.step.Challenge.{Challenge}
use Rattle.nb_login.specs.declared.step.LoginStep.{LoginStep}
use Rattle.nb_login.specs.declared.step.LoginStep.TheVariants as at
use Rattle.nb_login.specs.declared.step.NextRequest.{NextRequest}
use Rattle.nb_login.specs.declared.step.NextRequest.TheVariants as ask
use Rattle.nb_login.specs.declared.step.Decision.{Decision}
use Rattle.nb_login.specs.declared.step.Decision.TheVariants.{Ask, Open, End}
use Rattle.nb_login.specs.Infos.{asks_back}
use Rattle.nb_login.specs.Asking.{step_of, login_text}
use Rattle.nb_login.specs.LoginVerdicts.{chooses_chap, names_method, has_digest, challenge_in, answers_back, goes_astray, broken_login, chap_kind, ask_again, go_on, begin_chap, at_method, at_challenge, at_response, by_keys, by_response, decided}
use Rattle.nb_login.specs.LoginHistory.{PduCame, LoginEntry, login_entry, last_done, counted_repeats, repeats, expected_by, expected, text_put, end_given, is_end, login_ended, decided_after, decided_at}
use Rattle.nb_login.specs.LoginStands.{session_after, session_opened}
use Rattle.nb_login.specs.Logins.{after_came, login_history, text_of_entry}
use Rattle.nb_login.specs.LoginRecords.{pdus_alone, AreAlikeLogins}
use Rattle.nb_login.proofs.LoginHistoryLemmas.{last_done-append, repeats-append, expected-append}

-- ---- decisions that differ at most in why they end

abbrev Alike : Decision → Decision → Type 0
Alike (Ask a) (Ask b) = a ≡ b
Alike (Ask a) (Open b) = ⊥
Alike (Ask a) (End b) = ⊥
Alike (Open a) (Ask b) = ⊥
Alike (Open a) (Open b) = a ≡ b
Alike (Open a) (End b) = ⊥
Alike (End a) (Ask b) = ⊥
Alike (End a) (Open b) = ⊥
Alike (End a) (End b) = Unit {0}

alike : (d : Decision) → Alike d d
alike (Ask a) = refl
alike (Open a) = refl
alike (End a) = tt

by_test : (b : Bool) (x y v w : Decision) → Alike x y → Alike v w → Alike (if b then x else v) (if b then y else w)
by_test true x y v w one two = one
by_test false x y v w one two = two

module _ (i : LoginInfo) (m n : ℕ) where
  again_alike : (count : ℕ) (step : LoginStep) → Alike (ask_again m count step) (ask_again n count step)
  again_alike count step = by_test (ltb count 4) _ _ _ _ (alike (Ask (ask.Again step (count + 1)))) tt

  onward_alike : (count : ℕ) (step : LoginStep) (chap : Chap) (r : LoginResponseParts) → Alike (go_on m count step chap r) (go_on n count step chap r)
  onward_alike count step chap r = by_test r.transit _ _ _ _ (alike (Ask (ask.Parameters chap))) (again_alike count step)

  method_alike : (count : ℕ) (r : LoginResponseParts) → Alike (at_method i m count r) (at_method i n count r)
  method_alike count r =
      by_test (chooses_chap r.keys) _ _ _ _ (alike (begin_chap i))
      (by_test (asks_back i && (r.transit || names_method r.keys)) (broken_login m) (broken_login n) (go_on m count at.Method No r) (go_on n count at.Method No r) tt (onward_alike count at.Method No r))

  challenge_alike : (c : Option Challenge) → Alike (at_challenge m c) (at_challenge n c)
  challenge_alike None = tt
  challenge_alike (Some c) = refl

  response_alike : (count : ℕ) (r : LoginResponseParts) → Alike (at_response i m count r) (at_response i n count r)
  response_alike count r =
      by_test (asks_back i && not (answers_back i r.keys)) (broken_login m) (broken_login n) (go_on m count at.Response (chap_kind i) r) (go_on n count at.Response (chap_kind i) r) tt (onward_alike count at.Response (chap_kind i) r)

  keys_alike : (step : LoginStep) (count : ℕ) (r : LoginResponseParts) → Alike (by_keys i step m count r) (by_keys i step n count r)
  keys_alike at.Method count r = method_alike count r
  keys_alike at.Challenge count r = challenge_alike (challenge_in r.keys)
  keys_alike at.Response count r = response_alike count r
  keys_alike at.Identified count r = onward_alike count at.Identified (chap_kind i) r
  keys_alike (at.Parameters chap) count r = by_test r.transit _ _ _ _ (alike (Open chap)) (again_alike count (at.Parameters chap))

  by_response_alike : (step : LoginStep) (count : ℕ) (r : LoginResponseParts) → Alike (by_response i step m count r) (by_response i step n count r)
  unfolding by_response
  by_response_alike step count r =
      by_test (eqb r.class 0) _ _ _ _ (by_test (goes_astray step r || has_digest r.keys) (broken_login m) (broken_login n) (by_keys i step m count r) (by_keys i step n count r) tt (keys_alike step count r)) tt

  decided_alike : (step : LoginStep) (count : ℕ) (a : AnswerParts) → Alike (decided i step m count a) (decided i step n count a)
  decided_alike step count (login r) = by_response_alike step count r
  decided_alike step count (scsi r) = tt
  decided_alike step count (data_in d) = tt
  decided_alike step count (nop_in x) = tt
  decided_alike step count other = tt

-- ---- what follows from them

same_end : (d e : Decision) → Alike d e → is_end d ≡ is_end e
same_end (Ask a) (Ask b) is = refl
same_end (Ask a) (Open b) is = absurd is
same_end (Ask a) (End b) is = absurd is
same_end (Open a) (Ask b) is = absurd is
same_end (Open a) (Open b) is = refl
same_end (Open a) (End b) is = absurd is
same_end (End a) (Ask b) is = absurd is
same_end (End a) (Open b) is = absurd is
same_end (End a) (End b) is = refl

same_count : (n : ℕ) (d e : Decision) → Alike d e → counted_repeats n d ≡ counted_repeats n e
same_count n (Ask a) (Ask b) is = ap (λ (x : NextRequest). counted_repeats n (Ask x)) is
same_count n (Ask a) (Open b) is = absurd is
same_count n (Ask a) (End b) is = absurd is
same_count n (Open a) (Ask b) is = absurd is
same_count n (Open a) (Open b) is = refl
same_count n (Open a) (End b) is = absurd is
same_count n (End a) (Ask b) is = absurd is
same_count n (End a) (Open b) is = absurd is
same_count n (End a) (End b) is = refl

same_text : (i : LoginInfo) (sn : ℕ) (d e : Decision) → Alike d e → text_put i sn d ≡ text_put i sn e
same_text i sn (Ask a) (Ask b) is = ap (λ (x : NextRequest). text_put i sn (Ask x)) is
same_text i sn (Ask a) (Open b) is = absurd is
same_text i sn (Ask a) (End b) is = absurd is
same_text i sn (Open a) (Ask b) is = absurd is
same_text i sn (Open a) (Open b) is = refl
same_text i sn (Open a) (End b) is = absurd is
same_text i sn (End a) (Ask b) is = absurd is
same_text i sn (End a) (Open b) is = absurd is
same_text i sn (End a) (End b) is = refl

same_session : (i : LoginInfo) (sn : ℕ) (d e : Decision) → Alike d e → session_after i sn d ≡ session_after i sn e
same_session i sn (Ask a) (Ask b) is = refl
same_session i sn (Ask a) (Open b) is = absurd is
same_session i sn (Ask a) (End b) is = absurd is
same_session i sn (Open a) (Ask b) is = absurd is
same_session i sn (Open a) (Open b) is = ap (λ (x : Chap). session_after i sn (Open x)) is
same_session i sn (Open a) (End b) is = absurd is
same_session i sn (End a) (Ask b) is = absurd is
same_session i sn (End a) (Open b) is = absurd is
same_session i sn (End a) (End b) is = refl

-- after them, the same PDU comes to alike ones
next_alike : (i : LoginInfo) (count : ℕ) (m n : PduCame) (d e : Decision) → m.pdu ≡ n.pdu → Alike d e → Alike (decided_after i count m d) (decided_after i count n e)
next_alike i count m n (Ask a) (Ask b) same is =
    subst (λ (x : NextRequest). Alike (decided i (step_of a) m.rec count (answer_read m.pdu)) (decided i (step_of x) n.rec count (answer_read n.pdu))) is
    (subst (λ (p : PduParts). Alike (decided i (step_of a) m.rec count (answer_read m.pdu)) (decided i (step_of a) n.rec count (answer_read p))) same
    (decided_alike i m.rec n.rec (step_of a) count (answer_read m.pdu)))
next_alike i count m n (Ask a) (Open b) same is = absurd is
next_alike i count m n (Ask a) (End b) same is = absurd is
next_alike i count m n (Open a) (Ask b) same is = absurd is
next_alike i count m n (Open a) (Open b) same is = is
next_alike i count m n (Open a) (End b) same is = absurd is
next_alike i count m n (End a) (Ask b) same is = absurd is
next_alike i count m n (End a) (Open b) same is = absurd is
next_alike i count m n (End a) (End b) same is = tt

-- ---- histories

record AlikeSoFar (i : LoginInfo) (h k : List LoginEntry) : Type 0 where
  texts : flat_map (text_of_entry i) h ≡ flat_map (text_of_entry i) k
  count : length h ≡ length k
  last : Alike (last_done h) (last_done k)
  repeated : repeats h ≡ repeats k
  expects : expected h ≡ expected k

module _ (i : LoginInfo) (h k : List LoginEntry) (a : AlikeSoFar i h k) (m n : PduCame) (same : m.pdu ≡ n.pdu) where
  does_alike : Alike (decided_at i h m) (decided_at i k n)
  does_alike =
      subst (λ c. Alike (decided_after i (repeats h) m (last_done h)) (decided_after i c n (last_done k))) a.repeated
      (next_alike i (repeats h) m n (last_done h) (last_done k) same a.last)

  text_alike : text_of_entry i (login_entry m (decided_at i h m)) ≡ text_of_entry i (login_entry n (decided_at i k n))
  text_alike =
      ap (λ (t : Option (List ℕ)). option_map_or (λ (text : List ℕ). text) t [])
      (ap (λ (p : PduParts). text_put i (expected_by (answer_read p)) (decided_at i h m)) same
      ∙ same_text i (expected_by (answer_read n.pdu)) (decided_at i h m) (decided_at i k n) does_alike)

  added : AlikeSoFar i (h ++ login_entry m (decided_at i h m) ∷ []) (k ++ login_entry n (decided_at i k n) ∷ [])
  added =
      let e : LoginEntry = login_entry m (decided_at i h m) in
      let f : LoginEntry = login_entry n (decided_at i k n) in
      record {
        texts = flat_map-append (text_of_entry i) h (e ∷ []) ∙ ap (λ (l : List ℕ). l ++ flat_map (text_of_entry i) (e ∷ [])) a.texts
            ∙ ap (λ (l : List ℕ). flat_map (text_of_entry i) k ++ (l ++ [])) text_alike ∙ sym (flat_map-append (text_of_entry i) k (f ∷ []));
        count = length-append h (e ∷ []) ∙ ap (λ c. c + 1) a.count ∙ sym (length-append k (f ∷ []));
        last = subst (λ (d : Decision). Alike d (last_done (k ++ login_entry n (decided_at i k n) ∷ []))) (sym (last_done-append h e))
            (subst (λ (d : Decision). Alike (decided_at i h m) d) (sym (last_done-append k f)) does_alike);
        repeated = repeats-append h e ∙ ap (λ c. counted_repeats c (decided_at i h m)) a.repeated ∙ same_count (repeats k) (decided_at i h m) (decided_at i k n) does_alike ∙ sym (repeats-append k f);
        expects = expected-append h e ∙ ap (λ (p : PduParts). expected_by (answer_read p)) same ∙ sym (expected-append k f);
      }

  on_by : (b : Bool) → AlikeSoFar i (cond b h (h ++ login_entry m (decided_at i h m) ∷ [])) (cond b k (k ++ login_entry n (decided_at i k n) ∷ []))
  on_by true = a
  on_by false = added

  on : AlikeSoFar i (after_came i h m) (after_came i k n)
  on =
      subst (λ b. AlikeSoFar i (after_came i h m) (cond b k (k ++ login_entry n (decided_at i k n) ∷ []))) (same_end (last_done h) (last_done k) a.last)
      (on_by (login_ended h))

all_alike : (i : LoginInfo) (ms ns : List PduCame) (h k : List LoginEntry) → pdus_alone ms ≡ pdus_alone ns → AlikeSoFar i h k → AlikeSoFar i (fold (after_came i) h ms) (fold (after_came i) k ns)
all_alike i [] [] h k same a = a
all_alike i [] (n ∷ ns) h k same a = absurd cc
all_alike i (m ∷ ms) [] h k same a = absurd cc
all_alike i (m ∷ ms) (n ∷ ns) h k same a =
    all_alike i ms ns (after_came i h m) (after_came i k n) (let s = same in cc) (on i h k a m n (let s = same in cc))

pub records_show : (i : LoginInfo) (ms ns : List PduCame) → pdus_alone ms ≡ pdus_alone ns → AreAlikeLogins i ms ns
records_show i ms ns same =
    let a = all_alike i ms ns [] [] same (record { texts = refl; count = refl; last = refl; repeated = refl; expects = refl }) in
    record {
      said = ap (λ l. login_text i ask.Names 0 ++ l) a.texts;
      count = a.count;
      ended = same_end (last_done (login_history i ms)) (last_done (login_history i ns)) a.last;
      session = ap (λ sn. session_after i sn (last_done (login_history i ms))) a.expects
          ∙ same_session i (expected (login_history i ns)) (last_done (login_history i ms)) (last_done (login_history i ns)) a.last;
    }

-- ---- ends

opens_end : (i : LoginInfo) (sn : ℕ) (d : Decision) (s : Session) → session_after i sn d ≡ Some s → is_end d ≡ true
opens_end i sn (Ask a) s is = absurd cc
opens_end i sn (Open a) s is = refl
opens_end i sn (End a) s is = refl

pub opened_ended : (i : LoginInfo) (h : List LoginEntry) (s : Session) → session_opened i h ≡ Some s → login_ended h ≡ true
opened_ended i h s is = opens_end i (expected h) (last_done h) s is

given_end : (d : Decision) (cause : Cause) → end_given d ≡ Some cause → is_end d ≡ true
given_end (Ask a) cause is = absurd cc
given_end (Open a) cause is = refl
given_end (End a) cause is = refl

pub given_ended : (h : List LoginEntry) (cause : Cause) → end_given (last_done h) ≡ Some cause → login_ended h ≡ true
given_ended h cause is = given_end (last_done h) cause is
