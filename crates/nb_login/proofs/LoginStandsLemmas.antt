-- A login goes on to stand for its answers, one answer later.
use Rattle.std.proofs.Common.{◌≡◌, ℕ, List, [], ◌∷◌, ◌++◌, Option, None, true, false, Result, Ok, Err, IfOk, OnOk, IsSome, refl, ap, ◌∙◌, sym}
use Rattle.std.proofs.lemmas.Bool.{false≢true}
use Rattle.std.proofs.lemmas.Option.{none-some}
use Rattle.nb_terms.specs.declared.acts.Acts.{Acts}
use Rattle.nb_login.specs.declared.info.LoginInfo.{LoginInfo}
use Rattle.nb_login.specs.declared.step.Decision.{Decision}
use Rattle.nb_login.specs.declared.step.Decision.TheVariants.{Ask, Open, End}
use Rattle.nb_login.specs.declared.state.State.{State}
use Rattle.nb_login.specs.declared.state.State.TheVariants.{Negotiating, Opened, Over}
use Rattle.nb_login.specs.declared.state.Negotiation.{Negotiation}
use Rattle.nb_login.specs.declared.state.Next.{Next}
use Rattle.nb_login.specs.Asking.{step_of}
use Rattle.nb_login.specs.LoginHistory.{PduCame, LoginEntry, login_entry, last_done, repeats, counted_repeats, expected, expected_of, text_put, end_given, login_ending, is_end, login_ended, decided_after, decided_at, IsDecidedSo}
use Rattle.nb_login.specs.LoginStands.{state_after, login_state_of, LoginStands, decided_by, TakesPdu, next_of_decision, state_by, text_by, end_by_next, FollowsFrom, is_negotiating, IsDone, session_after, session_opened, session_held, after_handing}
use Rattle.nb_login.proofs.LoginHistoryLemmas.{last_done-append, repeats-append, expected-append, EachAnswer-append}

-- what a call comes to that takes one answer more
pub record GoesOn (i : LoginInfo) (new : State) (h : List LoginEntry) (m : PduCame) (text : Option (List ℕ)) (acts : Acts) : Type 0 where
  pub stands : LoginStands i new (h ++ login_entry m (decided_at i h m) ∷ [])
  pub put : text ≡ text_put i (expected_of m) (decided_at i h m)
  pub ends : acts ≡ login_ending (end_given (decided_at i h m))

-- where one more answer leaves a login
state_later : (i : LoginInfo) (h : List LoginEntry) (m : PduCame) (does : Decision) → login_state_of i (h ++ login_entry m does ∷ []) ≡ state_after i (counted_repeats (repeats h) does) (expected_of m) does
state_later i h m does =
    let e = login_entry m does in
    ap (λ n. state_after i n (expected (h ++ e ∷ [])) (last_done (h ++ e ∷ []))) (repeats-append h e)
    ∙ ap (λ sn. state_after i (counted_repeats (repeats h) does) sn (last_done (h ++ e ∷ []))) (expected-append h e)
    ∙ ap (λ d. state_after i (counted_repeats (repeats h) does) (expected_of m) d) (last_done-append h e)

abbrev at_work : LoginInfo → List LoginEntry → Decision → Negotiation → Type 0
at_work i h (Ask request) n = n ≡ record { info = i; step = step_of request; repeats = repeats h }
at_work i h (Open chap) n = ⊥
at_work i h (End reason) n = ⊥

came_on : (i : LoginInfo) (s new : State) (h : List LoginEntry) (m : PduCame) (text : Option (List ℕ)) (acts : Acts) (n : Negotiation)
    → LoginStands i s h → login_ended h ≡ false → decided_at i h m ≡ decided_by n m → n.info ≡ i → n.repeats ≡ repeats h
    → TakesPdu n m (decided_by n m) new text acts → GoesOn i new h m text acts
came_on i s new h m text acts n stands open_yet same its count comes =
    let does = decided_at i h m in
    let put : text ≡ text_put n.info (expected_of m) does = comes.put ∙ ap (text_put n.info (expected_of m)) (sym same) in
    let left : new ≡ state_after n.info (counted_repeats n.repeats does) (expected_of m) does =
    comes.state ∙ ap (λ d. state_after n.info (counted_repeats n.repeats d) (expected_of m) d) (sym same) in
    record {
      stands = record {
        meets = record { answers = EachAnswer-append (IsDecidedSo i) [] h (login_entry m does) stands.meets.answers (record { open_yet = open_yet; so = refl }) };
        left = left ∙ ap (λ j. state_after j (counted_repeats n.repeats does) (expected_of m) does) its
            ∙ ap (λ k. state_after i (counted_repeats k does) (expected_of m) does) count ∙ sym (state_later i h m does);
      };
      put = put ∙ ap (λ j. text_put j (expected_of m) does) its;
      ends = comes.ends ∙ ap (λ d. login_ending (end_given d)) (sym same);
    }

went_on : {E : Type 0} (i : LoginInfo) (s new : State) (h : List LoginEntry) (m : PduCame) (r : Result (Option (List ℕ)) E) (acts : Acts) (d : Decision)
    → last_done h ≡ d → LoginStands i s h → login_ended h ≡ false
    → ((n : Negotiation) → s ≡ Negotiating n → IfOk r (λ text. TakesPdu n m (decided_by n m) new text acts))
    → IfOk r (λ text. GoesOn i new h m text acts)
went_on i s new h m (Ok text) acts (Ask request) is stands open_yet comes =
    let n : Negotiation = record { info = i; step = step_of request; repeats = repeats h } in
    let at : s ≡ Negotiating n = stands.left ∙ ap (state_after i (repeats h) (expected h)) is in
    came_on i s new h m text acts n stands open_yet (ap (decided_after i (repeats h) m) is) refl refl (comes n at)
went_on i s new h m (Ok text) acts (Open chap) is stands open_yet comes = absurd (false≢true (sym open_yet ∙ ap is_end is))
went_on i s new h m (Ok text) acts (End reason) is stands open_yet comes = absurd (false≢true (sym open_yet ∙ ap is_end is))
went_on i s new h m (Err e) acts d is stands open_yet comes = tt

pub goes_on : {E : Type 0} (i : LoginInfo) (s new : State) (h : List LoginEntry) (m : PduCame) (r : Result (Option (List ℕ)) E) (acts : Acts)
    → LoginStands i s h → login_ended h ≡ false
    → ((n : Negotiation) → s ≡ Negotiating n → IfOk r (λ text. TakesPdu n m (decided_by n m) new text acts))
    → IfOk r (λ text. GoesOn i new h m text acts)
goes_on i s new h m r acts stands open_yet comes = went_on i s new h m r acts (last_done h) refl stands open_yet comes

pub it_stands : {E : Type 0} (i : LoginInfo) (new : State) (h : List LoginEntry) (m : PduCame) (r : Result (Option (List ℕ)) E) (acts : Acts)
    → IfOk r (λ text. GoesOn i new h m text acts) → OnOk r (LoginStands i new (h ++ login_entry m (decided_at i h m) ∷ []))
it_stands i new h m (Ok text) acts on = on.stands
it_stands i new h m (Err e) acts on = tt

pub it_puts : {E : Type 0} (i : LoginInfo) (new : State) (h : List LoginEntry) (m : PduCame) (r : Result (Option (List ℕ)) E) (acts : Acts)
    → IfOk r (λ text. GoesOn i new h m text acts) → IfOk r (λ text. text ≡ text_put i (expected_of m) (decided_at i h m))
it_puts i new h m (Ok text) acts on = on.put
it_puts i new h m (Err e) acts on = tt

pub it_ends : {E : Type 0} (i : LoginInfo) (new : State) (h : List LoginEntry) (m : PduCame) (r : Result (Option (List ℕ)) E) (acts : Acts)
    → IfOk r (λ text. GoesOn i new h m text acts) → OnOk r (acts ≡ login_ending (end_given (decided_at i h m)))
it_ends i new h m (Ok text) acts on = on.ends
it_ends i new h m (Err e) acts on = tt

-- after an end there is no request out
none_out : (i : LoginInfo) (n sn : ℕ) (d : Decision) → is_end d ≡ true → is_negotiating (state_after i n sn d) ≡ false
none_out i n sn (Ask request) ended = absurd (false≢true ended)
none_out i n sn (Open chap) ended = refl
none_out i n sn (End reason) ended = refl

pub ended_quiet : (i : LoginInfo) (s : State) (h : List LoginEntry) → LoginStands i s h → login_ended h ≡ true → is_negotiating s ≡ false
ended_quiet i s h stands ended = ap is_negotiating stands.left ∙ none_out i (repeats h) (expected h) (last_done h) ended

-- the session that is kept
kept : (i : LoginInfo) (n sn : ℕ) (d : Decision) → session_held (state_after i n sn d) ≡ session_after i sn d
kept i n sn (Ask request) = refl
kept i n sn (Open chap) = refl
kept i n sn (End reason) = refl

pub holds_opened : (i : LoginInfo) (s : State) (h : List LoginEntry) → LoginStands i s h → session_held s ≡ session_opened i h
holds_opened i s h stands = ap session_held stands.left ∙ kept i (repeats h) (expected h) (last_done h)

pub handed_over : (s : State) → IsSome (session_held s) → IsDone (after_handing s)
handed_over (Negotiating n) none = absurd (false≢true none)
handed_over (Opened session) is = refl
handed_over Over none = absurd (false≢true none)

pub handed_none : (s : State) → session_held s ≡ None → after_handing s ≡ s
handed_none (Negotiating n) none = refl
handed_none (Opened session) none = absurd (none-some session (sym none))
handed_none Over none = refl

-- what was made ready and followed is what the answer comes to
pub follows : (n : Negotiation) (m : PduCame) (d : Decision) (x : Next) (new : State) (text : Option (List ℕ)) (acts : Acts)
    → x ≡ next_of_decision n (expected_of m) d → FollowsFrom n x new text acts → TakesPdu n m d new text acts
follows n m (Ask request) x new text acts is f = record { state = f.state ∙ ap (state_by n) is; put = f.put ∙ ap text_by is; ends = f.ends ∙ ap (λ y. login_ending (end_by_next y)) is }
follows n m (Open chap) x new text acts is f = record { state = f.state ∙ ap (state_by n) is; put = f.put ∙ ap text_by is; ends = f.ends ∙ ap (λ y. login_ending (end_by_next y)) is }
follows n m (End reason) x new text acts is f = record { state = f.state ∙ ap (state_by n) is; put = f.put ∙ ap text_by is; ends = f.ends ∙ ap (λ y. login_ending (end_by_next y)) is }
