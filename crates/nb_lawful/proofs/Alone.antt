-- So it is after each event of a history that keeps the laws.
use Rattle.std.proofs.Common.{◌≡◌, ◌⊎◌, inl, inr, ℕ, ◌+◌, ◌≤◌, ◌==◌, Bool, true, false, cond, ◌||◌, length, drop, List, [], ◌∷◌, ◌++◌, Option, Some, None, option_map, refl, sym, ◌∙◌, ap, subst, add-zero, arith, ne_eqb}
use Rattle.std.specs.List.{AllByRecursion}
use Rattle.std.proofs.lemmas.Bool.{eqb-true}
use Rattle.std.proofs.lemmas.Option.{none-some, same_Some}
use Rattle.nb_tftp.proofs.BlockLemmas.{either_way}
use Rattle.nb_terms.specs.declared.cause.Cause.{Cause}
use Rattle.nb_defs.specs.Causes.{is_ok_cause}
use Rattle.nb_defs.specs.Records.{Start, Out, step, sent, text, command, result, script, opened, tried, advanced, ended, graph, part, done}
use Rattle.nb_drivecmd.specs.declared.drive.Drive.{Drive}
use Rattle.nb_stack.specs.Brings.{Brought}
use Rattle.nb_laws.specs.Events.{Event, starts, hears, waits, stops, puts, followed}
use Rattle.nb_laws.specs.CommandsSoFar as commands
use Rattle.nb_laws.specs.CommandsSoFar.{CommandsSoFar, so_far, so_far_by, script_done, script_run, images_after, conclusion_so_far, replaced_so_far, hooking_in, hooking_so_far, hooked_after, hooked_then, comes_by}
use Rattle.nb_laws.specs.Frames.{ScriptStands, enters_first, enters, replaces, leaves}
use Rattle.nb_laws.specs.Lists.{made, Opening, gathered, opening_at, openings, open_has_ended, live, last_end, time}
use Rattle.nb_laws.specs.Progress.{StepsSo}
use Rattle.nb_laws.proofs.Histories.{gathered_append}
use Rattle.nb_laws.proofs.SoFar.{so_far_more, nothing_so_far}
use Rattle.nb_laws.proofs.Tellings.{made_more, openings_more, over_more, no_more, same_number}
use Rattle.nb_openlaws.specs.OpenEndings.{OpensEndSo}
use Rattle.nb_openlaws.proofs.UsedEvents.{live_ended}
use Rattle.nb_laws.specs.CommandOpens.{CommandOpen, command_open_ended, command_open}
use Rattle.nb_lawful.specs.Results.{ResultStands, HasEndedOpens, ScriptComes, CommandsSo, OpenStands}
use Rattle.nb_lawful.proofs.Quiet.{command_open_more}
use Rattle.nb_lawful.proofs.Awaited.{its}
use Rattle.nb_lawful.proofs.HookWords.{HookedOn}
use Rattle.nb_lawful.proofs.HookedThen.{kinds_by, result_lives}
use Rattle.nb_lawful.proofs.Solitude.{IsSettled, IsLastMade, HasAsked, IsDrives, OnlyHooked, IsRunning, Solitude, only_hooked, settled_opens, settled_for, asked_for, IsCalm, live_then, openings_then, kinds_then, stay_more, calm_then}

no_one : {A : Type 0} (x : A) → [] ≡ x ∷ [] → ⊥
no_one x e = let no : [] ≡ x ∷ [] = e in cc no

-- before any event
pub solitude_first : Solitude []
unfolding live openings open_has_ended gathered command_open so_far followed
solitude_first = record {
  opened = λ j. inl refl;
  unopened = λ j more. refl;
  last = tt;
  kinds = tt;
  none_left = λ off. refl;
  none_shown = λ cause some. refl;
  idle = λ off j o is. absurd (no_one o is);
  handed = λ cause some j o is. absurd (no_one o is);
  running = λ still none. absurd (let no : false ≡ true = still in cc no);
}

-- what an event of no open leaves
module _ (es : List Event) (e : Event) (unopens : (j : ℕ) → opening_at j es e ≡ []) (a : Solitude es) where
  opened_then : (j : ℕ) → (openings j (es ++ e ∷ []) ≡ []) ⊎ ((o : Opening) × (openings j (es ++ e ∷ []) ≡ o ∷ []))
  opened_then j = subst (λ z. (z ≡ []) ⊎ ((o : Opening) × (z ≡ o ∷ []))) (sym (openings_then es e j (unopens j))) (a.opened j)

  unopened_then : made (es ++ e ∷ []) ≡ made es → (j : ℕ) → made (es ++ e ∷ []) ≤ j → openings j (es ++ e ∷ []) ≡ []
  unopened_then same j more = openings_then es e j (unopens j) ∙ a.unopened j (subst (λ n. n ≤ j) same more)

-- COMMAND
command_calm : (es : List Event) (depth line place : ℕ) (expanded : Bool) (words : List (List ℕ)) → Solitude es → (so_far es).is_open ≡ false → Solitude (es ++ puts (command depth line place expanded words) ∷ [])
command_calm es depth line place expanded words a off =
    let e = puts (command depth line place expanded words) in
    let same : (j : ℕ) → live j (es ++ e ∷ []) ≡ live j es = λ j. live_then es e j refl refl in
    let opens : command_open (es ++ e ∷ []) ≡ None = command_open_more es e in
    let still : (so_far (es ++ e ∷ [])).is_open ≡ true = ap (λ (m : CommandsSoFar). m.is_open) (so_far_more es e) in
    let left : (so_far (es ++ e ∷ [])).left ≡ None = ap (λ (m : CommandsSoFar). m.left) (so_far_more es e) ∙ a.none_left off in
    let hooked : (so_far (es ++ e ∷ [])).hooked ≡ (so_far es).hooked = ap (λ (m : CommandsSoFar). m.hooked) (so_far_more es e) in
    record {
      opened = opened_then es e (λ j. refl) a;
      unopened = unopened_then es e (λ j. refl) a (made_more es e ∙ add-zero (made es));
      last = subst (λ z. IsLastMade z (made (es ++ e ∷ []))) (sym opens) tt;
      kinds = subst (AllByRecursion (IsDrives (es ++ e ∷ []))) (sym hooked) (kinds_then es e (so_far es).hooked (λ j. refl) a.kinds);
      none_left = λ off2. absurd (let no : true ≡ false = sym still ∙ off2 in cc no);
      none_shown = λ cause some. absurd (none-some cause (sym left ∙ some));
      idle = λ off2. absurd (let no : true ≡ false = sym still ∙ off2 in cc no);
      handed = λ cause some. absurd (none-some cause (sym left ∙ some));
      running = λ on none. record {
        own = λ j o is. inr (subst (HookedOn j) (sym hooked) (a.idle off j o (sym (same j) ∙ is)));
        asked = subst (λ z. HasAsked z (so_far (es ++ e ∷ []))) (sym opens) tt;
        stay = λ j o was before since is own split made_one. absurd (none-some _ (sym opens ∙ own));
      };
    }

-- RESULT
-- it is over, whose cause it ever is
pub result_over : (left : Option Cause) (before : List Event) (m : CommandsSoFar) → (commands.result_so_far left before m).is_open ≡ false
result_over (Some cause) before m = refl
result_over None before m = refl

result_left : (left : Option Cause) (before : List Event) (m : CommandsSoFar) → m.left ≡ left → (commands.result_so_far left before m).left ≡ None
result_left (Some cause) before m is = refl
result_left None before m is = is

result_calm : (es : List Event) (cause : Cause) → Solitude es → ResultStands es cause → Solitude (es ++ puts (result cause) ∷ [])
result_calm es cause a r =
    let e = puts (result cause) in
    let same : (j : ℕ) → live j (es ++ e ∷ []) ≡ live j es = λ j. live_then es e j refl refl in
    let opens : command_open (es ++ e ∷ []) ≡ command_open es = command_open_more es e in
    let still : (so_far (es ++ e ∷ [])).is_open ≡ false = ap (λ (m : CommandsSoFar). m.is_open) (so_far_more es e) ∙ result_over (so_far es).left es (so_far es) in
    let left : (so_far (es ++ e ∷ [])).left ≡ None = ap (λ (m : CommandsSoFar). m.left) (so_far_more es e) ∙ result_left (so_far es).left es (so_far es) refl in
    let hooked : (so_far (es ++ e ∷ [])).hooked ≡ hooked_then cause es (so_far es) = ap (λ (m : CommandsSoFar). m.hooked) (so_far_more es e) in
    let made_is : made (es ++ e ∷ []) ≡ made es = made_more es e ∙ add-zero (made es) in
    record {
      opened = opened_then es e (λ j. refl) a;
      unopened = unopened_then es e (λ j. refl) a made_is;
      last = subst (IsLastMade (command_open (es ++ e ∷ []))) (sym made_is) (subst (λ z. IsLastMade z (made es)) (sym opens) a.last);
      kinds = subst (AllByRecursion (IsDrives (es ++ e ∷ []))) (sym hooked)
          (kinds_then es e (hooked_then cause es (so_far es)) (λ j. refl) (kinds_by es cause a r (hooking_so_far (so_far es)) refl (is_ok_cause cause) refl (so_far es).left refl));
      none_left = λ off. left;
      none_shown = λ given some. absurd (none-some given (sym left ∙ some));
      idle = λ off j o is. subst (HookedOn j) (sym hooked) (result_lives es cause a r j o (sym (same j) ∙ is));
      handed = λ given some. absurd (none-some given (sym left ∙ some));
      running = λ on none. absurd (let no : false ≡ true = sym still ∙ on in cc no);
    }

-- OPEN
same_open : (k j : ℕ) → its k None ≡ its j None → k ≡ j
same_open k j e = ap (λ (o : CommandOpen). o.number) (same_Some (record { number = k; over = None }) (record { number = j; over = None }) e)

earlier_opening : (j : ℕ) (before since : List Event) → openings j (before ++ since) ≡ [] → (was : Opening) → openings j before ≡ was ∷ [] → ⊥
unfolding openings
earlier_opening j before since none was is = let both : (was ∷ []) ++ gathered (opening_at j) before since ≡ [] = sym (ap (λ z. z ++ gathered (opening_at j) before since) is) ∙ sym (gathered_append (opening_at j) [] before since) ∙ none in cc both

open_calm : (es : List Event) (number kind server port own : ℕ) (target : List ℕ) → Solitude es → OpenStands es number kind server port own target → Solitude (es ++ puts (opened number kind server port own target) ∷ [])
open_calm es number kind server port own target a r =
    let e = puts (opened number kind server port own target) in
    let settled = settled_for es number kind server port own target r.is_for in
    let run = a.running r.is_open r.none_left in
    let o : Opening = record { kind = kind; server = server; port = port; own = own; target = target; since = time es } in
    let unopened : openings number es ≡ [] = a.unopened number (omega (arith, r.next)) in
    let elsewhere : (j : ℕ) → (number == j) ≡ false → live j (es ++ e ∷ []) ≡ live j es = λ j other. live_then es e j (ap (λ b. cond b (o ∷ []) []) other) refl in
    let opens : command_open (es ++ e ∷ []) ≡ its number None = command_open_more es e in
    let still : (so_far (es ++ e ∷ [])) ≡ so_far es = so_far_more es e in
    let made_is : made (es ++ e ∷ []) ≡ made es + 1 = made_more es e in
    record {
      opened = λ j. either_way (number == j)
          (λ here. inr (o, openings_more j es e ∙ ap (λ z. z ++ opening_at j es e) (ap (λ k. openings k es) (sym (eqb-true number j here)) ∙ unopened) ∙ ap (λ b. cond b (o ∷ []) []) here))
          (λ other. subst (λ z. (z ≡ []) ⊎ ((x : Opening) × (z ≡ x ∷ []))) (sym (openings_then es e j (ap (λ b. cond b (o ∷ []) []) other))) (a.opened j));
      unopened = λ j more. later j more;
      last = subst (λ z. IsLastMade z (made (es ++ e ∷ []))) (sym opens) (omega (arith, r.next, made_is));
      kinds = subst (λ (m : CommandsSoFar). AllByRecursion (IsDrives (es ++ e ∷ [])) m.hooked) (sym still) (kinds_on (so_far es).hooked a.kinds);
      none_left = λ off. absurd (let no : true ≡ false = sym r.is_open ∙ sym (ap (λ (m : CommandsSoFar). m.is_open) still) ∙ off in cc no);
      none_shown = λ cause some. absurd (none-some cause (sym (ap (λ (m : CommandsSoFar). m.left) still ∙ r.none_left) ∙ some));
      idle = λ off. absurd (let no : true ≡ false = sym r.is_open ∙ sym (ap (λ (m : CommandsSoFar). m.is_open) still) ∙ off in cc no);
      handed = λ cause some. absurd (none-some cause (sym (ap (λ (m : CommandsSoFar). m.left) still ∙ r.none_left) ∙ some));
      running = λ on none. record {
        own = λ j x is. either_way (number == j) (λ here. inl (opens ∙ ap (λ k. its k None) (eqb-true number j here)))
            (λ other. inr (subst (λ (m : CommandsSoFar). HookedOn j m.hooked) (sym still) (only_hooked es run settled j x (sym (elsewhere j other) ∙ is))));
        asked = subst (λ z. HasAsked z (so_far (es ++ e ∷ []))) (sym opens) (subst (λ m. HasAsked (its number None) m) (sym still) (asked_for es number kind server port own target r.is_for));
        stay = stay_more es e run.stay (λ j x was before since is own split made_one.
            let here : j ≡ number = same_open j number (sym own ∙ opens) in
            absurd (earlier_opening j before since (ap (λ z. openings j z) (sym split) ∙ ap (λ k. openings k es) here ∙ unopened) was made_one));
      };
    }
  where
    later : (j : ℕ) → made (es ++ puts (opened number kind server port own target) ∷ []) ≤ j → openings j (es ++ puts (opened number kind server port own target) ∷ []) ≡ []
    later j more =
        let e = puts (opened number kind server port own target) in
        let o : Opening = record { kind = kind; server = server; port = port; own = own; target = target; since = time es } in
        let beyond : made es + 1 ≤ j = subst (λ n. n ≤ j) (made_more es e) more in
        let other : (number == j) ≡ false = ne_eqb number j (λ same. omega (arith, same, r.next, beyond)) in
        openings_more j es e ∙ no_more (openings j es) _ (ap (λ b. cond b (o ∷ []) []) other) ∙ a.unopened j (omega (arith, beyond))

    -- a drive's open was made before
    kinds_on : (ds : List Drive) → AllByRecursion (IsDrives es) ds → AllByRecursion (IsDrives (es ++ puts (opened number kind server port own target) ∷ [])) ds
    kinds_on [] h = tt
    kinds_on (d ∷ ds) h =
        let e = puts (opened number kind server port own target) in
        let o : Opening = record { kind = kind; server = server; port = port; own = own; target = target; since = time es } in
        let other : (number == d.open_number) ≡ false = ne_eqb number d.open_number (λ same. no_one h.0.opening (sym (a.unopened number (omega (arith, r.next))) ∙ ap (λ k. openings k es) same ∙ h.0.opened)) in
        (record { opening = h.0.opening; opened = openings_then es e d.open_number (ap (λ b. cond b (o ∷ []) []) other) ∙ h.0.opened; kind = h.0.kind }, kinds_on ds h.1)

-- ENDED
ended_asked : (k : ℕ) (cause : Cause) (x : Option CommandOpen) (m : CommandsSoFar) → HasAsked x m → HasAsked (option_map (command_open_ended k cause) x) m
ended_asked k cause None m h = tt
ended_asked k cause (Some o) m h = h

ended_last : (k : ℕ) (cause : Cause) (x : Option CommandOpen) (n : ℕ) → IsLastMade x n → IsLastMade (option_map (command_open_ended k cause) x) n
ended_last k cause None n h = tt
ended_last k cause (Some o) n h = by (k == o.number)
  where
    by : (b : Bool) → (cond b (record { number = o.number; over = Some cause }) o).number + 1 ≡ n
    by true = h
    by false = h

ended_own : (k j : ℕ) (cause : Cause) (x : Option CommandOpen) → option_map (command_open_ended k cause) x ≡ its j None → x ≡ its j None
ended_own k j cause None e = absurd (none-some _ e)
ended_own k j cause (Some o) e = by (k == o.number) e
  where
    by : (b : Bool) → Some (cond b (record { number = o.number; over = Some cause }) o) ≡ its j None → Some o ≡ its j None
    by true e = absurd (none-some cause (sym (ap (λ (z : CommandOpen). z.over) (same_Some _ _ e))))
    by false e = e

end_calm : (es : List Event) (k : ℕ) (cause : Cause) → Solitude es → Solitude (es ++ puts (ended k cause) ∷ [])
end_calm es k cause a =
    let e = puts (ended k cause) in
    let opens : command_open (es ++ e ∷ []) ≡ option_map (command_open_ended k cause) (command_open es) = command_open_more es e in
    let here : live k (es ++ e ∷ []) ≡ [] = live_ended k (es ++ e ∷ []) (over_more k es e ∙ ap (λ b. open_has_ended k es || b) (same_number k) ∙ or_true (open_has_ended k es)) in
    let still : so_far (es ++ e ∷ []) ≡ so_far es = so_far_more es e in
    let made_is : made (es ++ e ∷ []) ≡ made es = made_more es e ∙ add-zero (made es) in
    record {
      opened = opened_then es e (λ j. refl) a;
      unopened = unopened_then es e (λ j. refl) a made_is;
      last = subst (IsLastMade (command_open (es ++ e ∷ []))) (sym made_is) (subst (λ z. IsLastMade z (made es)) (sym opens) (ended_last k cause (command_open es) (made es) a.last));
      kinds = subst (λ (m : CommandsSoFar). AllByRecursion (IsDrives (es ++ e ∷ [])) m.hooked) (sym still) (kinds_then es e (so_far es).hooked (λ j. refl) a.kinds);
      none_left = subst (λ (m : CommandsSoFar). m.is_open ≡ false → m.left ≡ None) (sym still) a.none_left;
      none_shown = subst (λ (m : CommandsSoFar). (given : Cause) → m.left ≡ Some given → m.shown ≡ None) (sym still) a.none_shown;
      idle = λ off j o is. subst (λ (m : CommandsSoFar). HookedOn j m.hooked) (sym still) (a.idle (sym (ap (λ (m : CommandsSoFar). m.is_open) still) ∙ off) j o (lived here j o is));
      handed = λ given some j o is. subst (λ (m : CommandsSoFar). HookedOn j m.hooked) (sym still) (a.handed given (sym (ap (λ (m : CommandsSoFar). m.left) still) ∙ some) j o (lived here j o is));
      running = λ on none. runs here opens still (a.running (sym (ap (λ (m : CommandsSoFar). m.is_open) still) ∙ on) (sym (ap (λ (m : CommandsSoFar). m.left) still) ∙ none));
    }
  where
    or_true : (b : Bool) → (b || true) ≡ true
    or_true true = refl
    or_true false = refl

    -- one that lives then is another, and lived before
    is_other : live k (es ++ puts (ended k cause) ∷ []) ≡ [] → (j : ℕ) (o : Opening) → live j (es ++ puts (ended k cause) ∷ []) ≡ o ∷ [] → (k == j) ≡ false
    is_other here j o is = ne_eqb k j (λ same. no_one o (sym here ∙ ap (λ z. live z (es ++ puts (ended k cause) ∷ [])) same ∙ is))

    lived : live k (es ++ puts (ended k cause) ∷ []) ≡ [] → (j : ℕ) (o : Opening) → live j (es ++ puts (ended k cause) ∷ []) ≡ o ∷ [] → live j es ≡ o ∷ []
    lived here j o is = sym (live_then es (puts (ended k cause)) j refl (is_other here j o is)) ∙ is

    runs : live k (es ++ puts (ended k cause) ∷ []) ≡ [] → command_open (es ++ puts (ended k cause) ∷ []) ≡ option_map (command_open_ended k cause) (command_open es) → so_far (es ++ puts (ended k cause) ∷ []) ≡ so_far es → IsRunning es →
        IsRunning (es ++ puts (ended k cause) ∷ [])
    runs here opens still r = record {
      own = λ j o is. elim (r.own j o (lived here j o is)) [
        | inl own ↦ inl (opens ∙ ap (option_map (command_open_ended k cause)) own ∙ ap (λ b. Some (cond b (record { number = j; over = Some cause }) (record { number = j; over = None }))) (is_other here j o is))
        | inr hooked ↦ inr (subst (λ (m : CommandsSoFar). HookedOn j m.hooked) (sym still) hooked)
      ];
      asked = subst (λ z. HasAsked z (so_far (es ++ puts (ended k cause) ∷ []))) (sym opens)
          (subst (λ m. HasAsked (option_map (command_open_ended k cause) (command_open es)) m) (sym still) (ended_asked k cause (command_open es) (so_far es) r.asked));
      stay = stay_more es (puts (ended k cause)) r.stay (λ j o was before since is own split made_one.
          (lived here j o is, ended_own k j cause (command_open es) (sym opens ∙ own), ap (λ (m : CommandsSoFar). m.table) still, ap (λ (m : CommandsSoFar). m.up) still));
    }

-- START
first_live : (es : List Event) (j : ℕ) → es ≡ [] → live j es ≡ []
unfolding live openings open_has_ended gathered
first_live es j empty = rw empty refl

start_calm : (es : List Event) (n : ℕ) (s : Start) → Solitude es → es ≡ [] → Solitude (es ++ starts n s ∷ [])
start_calm es n s a empty =
    let e = starts n s in
    let none : (j : ℕ) → live j (es ++ e ∷ []) ≡ [] = λ j. live_then es e j refl refl ∙ first_live es j empty in
    let opens : command_open (es ++ e ∷ []) ≡ command_open es = command_open_more es e in
    let now : so_far (es ++ e ∷ []) ≡ so_far_by es commands.no_commands e = so_far_more es e ∙ ap (λ m. so_far_by es m e) (nothing_so_far es empty) in
    let is_open : (so_far (es ++ e ∷ [])).is_open ≡ false = ap (λ (m : CommandsSoFar). m.is_open) now in
    let left : (so_far (es ++ e ∷ [])).left ≡ None = ap (λ (m : CommandsSoFar). m.left) now in
    let hooked : (so_far (es ++ e ∷ [])).hooked ≡ [] = ap (λ (m : CommandsSoFar). m.hooked) now in
    let made_is : made (es ++ e ∷ []) ≡ made es = made_more es e ∙ add-zero (made es) in
    record {
      opened = opened_then es e (λ j. refl) a;
      unopened = unopened_then es e (λ j. refl) a made_is;
      last = subst (IsLastMade (command_open (es ++ e ∷ []))) (sym made_is) (subst (λ z. IsLastMade z (made es)) (sym opens) a.last);
      kinds = subst (AllByRecursion (IsDrives (es ++ e ∷ []))) (sym hooked) tt;
      none_left = λ off. left;
      none_shown = λ cause some. absurd (none-some cause (sym left ∙ some));
      idle = λ off j o is. absurd (no_one o (sym (none j) ∙ is));
      handed = λ cause some. absurd (none-some cause (sym left ∙ some));
      running = λ on no_left. absurd (let no : false ≡ true = sym is_open ∙ on in cc no);
    }

-- SCRIPT

-- where it stands, all that live are drives
script_lives : (es : List Event) (what depth : ℕ) (cause : Cause) → Solitude es → ScriptStands es what depth cause → (what ≡ 0 → HasEndedOpens (command_open es)) → OnlyHooked es
script_lives es what depth cause a (enters_first over first) over_so = a.idle over
script_lives es what depth cause a (enters list image on none said few) over_so = only_hooked es (a.running on none) (settled_opens (command_open es) (over_so refl))
script_lives es what depth cause a (replaces list image over said) over_so = a.idle over
script_lives es what depth cause a (leaves why over some) over_so = a.idle over

-- what it does to the settings, the device and the drives: nothing
script_keeps : (what depth : ℕ) (cause : Cause) (before : List Event) (m : CommandsSoFar) → (script_done what depth cause before m).hooked ≡ m.hooked
script_keeps what depth cause before m = by (what == 0) (what == 1) (depth == 1)
  where
    inside : CommandsSoFar
    inside = record m { images = images_after (conclusion_so_far (last_end before) before m) m.images; scripts = script_run (conclusion_so_far (last_end before) before m) ++ m.scripts; is_open = false }

    outside : CommandsSoFar
    outside = record m { scripts = drop 1 m.scripts; shown = None; is_open = true; left = Some cause }

    by : (x y z : Bool) → (cond x (cond z m inside) (cond y (cond z (record m { scripts = drop 1 m.scripts }) outside) (replaced_so_far m))).hooked ≡ m.hooked
    by true y true = refl
    by true y false = refl
    by false true true = refl
    by false true false = refl
    by false false z = refl

-- how it leaves the command that runs: over, or with a script's cause
data LeavesIt (es : List Event) (m : CommandsSoFar) : Type 0 where
  is_over : m.is_open ≡ false → m.left ≡ None → LeavesIt es m
  is_left : (cause : Cause) → m.is_open ≡ true → m.left ≡ Some cause → m.shown ≡ None → LeavesIt es m
  is_same : m ≡ so_far es → (so_far es).is_open ≡ true → (so_far es).left ≡ None → HasEndedOpens (command_open es) → LeavesIt es m

script_leaves : (es : List Event) (what depth : ℕ) (cause : Cause) → Solitude es → ScriptStands es what depth cause → (what ≡ 0 → HasEndedOpens (command_open es)) → LeavesIt es (script_done what depth cause es (so_far es))
script_leaves es what depth cause a (enters_first over first) over_so = is_over over (a.none_left over)
script_leaves es what depth cause a (enters list image on none said few) over_so = by (length (so_far es).scripts + 1 == 1)
  where
    inside : CommandsSoFar
    inside = record (so_far es) { images = images_after (conclusion_so_far (last_end es) es (so_far es)) (so_far es).images; scripts = script_run (conclusion_so_far (last_end es) es (so_far es)) ++ (so_far es).scripts; is_open = false }

    by : (b : Bool) → LeavesIt es (cond b (so_far es) inside)
    by true = is_same refl on none (over_so refl)
    by false = is_over refl none
script_leaves es what depth cause a (replaces list image over said) over_so = is_over over (a.none_left over)
script_leaves es what depth cause a (leaves why over some) over_so = by (length (so_far es).scripts == 1)
  where
    outside : CommandsSoFar
    outside = record (so_far es) { scripts = drop 1 (so_far es).scripts; shown = None; is_open = true; left = Some cause }

    by : (b : Bool) → LeavesIt es (cond b (record (so_far es) { scripts = drop 1 (so_far es).scripts }) outside)
    by true = is_over over (a.none_left over)
    by false = is_left cause refl refl refl

script_calm : (es : List Event) (what depth : ℕ) (cause : Cause) → Solitude es → ScriptComes es what depth cause → Solitude (es ++ puts (script what depth cause) ∷ [])
script_calm es what depth cause a c =
    let e = puts (script what depth cause) in
    let same : (j : ℕ) → live j (es ++ e ∷ []) ≡ live j es = λ j. live_then es e j refl refl in
    let opens : command_open (es ++ e ∷ []) ≡ command_open es = command_open_more es e in
    let now : so_far (es ++ e ∷ []) ≡ script_done what depth cause es (so_far es) = so_far_more es e in
    let hooked : (so_far (es ++ e ∷ [])).hooked ≡ (so_far es).hooked = ap (λ (m : CommandsSoFar). m.hooked) now ∙ script_keeps what depth cause es (so_far es) in
    let lives : OnlyHooked (es ++ e ∷ []) = λ j o is. subst (HookedOn j) (sym hooked) (script_lives es what depth cause a c.stands c.ended j o (sym (same j) ∙ is)) in
    let left : LeavesIt es (so_far (es ++ e ∷ [])) = subst (LeavesIt es) (sym now) (script_leaves es what depth cause a c.stands c.ended) in
    let made_is : made (es ++ e ∷ []) ≡ made es = made_more es e ∙ add-zero (made es) in
    record {
      opened = opened_then es e (λ j. refl) a;
      unopened = unopened_then es e (λ j. refl) a made_is;
      last = subst (IsLastMade (command_open (es ++ e ∷ []))) (sym made_is) (subst (λ z. IsLastMade z (made es)) (sym opens) a.last);
      kinds = subst (AllByRecursion (IsDrives (es ++ e ∷ []))) (sym hooked) (kinds_then es e (so_far es).hooked (λ j. refl) a.kinds);
      none_left = over_left left;
      none_shown = λ given some. left_shown left given some;
      idle = λ off. lives;
      handed = λ given some. lives;
      running = λ on none. runs left opens lives on none;
    }
  where
    over_left : {m : CommandsSoFar} → LeavesIt es m → m.is_open ≡ false → m.left ≡ None
    over_left (is_over off none) is = none
    over_left (is_left given on some none) is = absurd (let no : true ≡ false = sym on ∙ is in cc no)
    over_left (is_same at on none ended_so) is = ap (λ (x : CommandsSoFar). x.left) at ∙ none

    left_shown : {m : CommandsSoFar} → LeavesIt es m → (given : Cause) → m.left ≡ Some given → m.shown ≡ None
    left_shown (is_over off none) given some = absurd (none-some given (sym none ∙ some))
    left_shown (is_left other on is none) given some = none
    left_shown (is_same at on none ended_so) given some = absurd (none-some given (sym (ap (λ (x : CommandsSoFar). x.left) at ∙ none) ∙ some))

    not_own : (j : ℕ) → HasEndedOpens (command_open es) → command_open es ≡ its j None → ⊥
    not_own j ended_so own = subst IsSettled own (settled_opens (command_open es) ended_so)

    runs : LeavesIt es (so_far (es ++ puts (script what depth cause) ∷ [])) → command_open (es ++ puts (script what depth cause) ∷ []) ≡ command_open es → OnlyHooked (es ++ puts (script what depth cause) ∷ []) →
        (so_far (es ++ puts (script what depth cause) ∷ [])).is_open ≡ true → (so_far (es ++ puts (script what depth cause) ∷ [])).left ≡ None → IsRunning (es ++ puts (script what depth cause) ∷ [])
    runs (is_over off none) opens lives on no_left = absurd (let no : false ≡ true = sym off ∙ on in cc no)
    runs (is_left given still some none) opens lives on no_left = absurd (none-some given (sym no_left ∙ some))
    runs (is_same at still none ended_so) opens lives on no_left = record {
      own = λ j o is. inr (lives j o is);
      asked = subst (λ z. HasAsked z (so_far (es ++ puts (script what depth cause) ∷ []))) (sym opens) (subst (λ m. HasAsked (command_open es) m) (sym at) (a.running still none).asked);
      stay = λ j o was before since is own split made_one. absurd (not_own j ended_so (sym opens ∙ own));
    }

-- EACH EVENT

calm_frame : (es : List Event) (n : ℕ) (bytes : List ℕ) (m : Brought) → IsCalm es (hears n bytes m)
calm_frame es n bytes m = record { unopens = λ j. refl; unends = λ j. refl; opens = λ last. refl; none = refl; table = refl; up = refl; shown = refl; is_open = refl; left = refl; images = refl; scripts = refl; hooked = refl; drives = refl }

calm_tick : (es : List Event) (n ms : ℕ) → IsCalm es (waits n ms)
calm_tick es n ms = record { unopens = λ j. refl; unends = λ j. refl; opens = λ last. refl; none = refl; table = refl; up = refl; shown = refl; is_open = refl; left = refl; images = refl; scripts = refl; hooked = refl; drives = refl }

calm_off : (es : List Event) (n : ℕ) → IsCalm es (stops n)
calm_off es n = record { unopens = λ j. refl; unends = λ j. refl; opens = λ last. refl; none = refl; table = refl; up = refl; shown = refl; is_open = refl; left = refl; images = refl; scripts = refl; hooked = refl; drives = refl }

-- a record that tells no command and no open
abbrev IsMere : Out → Type 0
IsMere (sent bytes) = Unit {0}
IsMere (text bytes) = Unit {0}
IsMere (script what depth cause) = ⊥
IsMere (tried number count) = Unit {0}
IsMere (advanced number place) = Unit {0}
IsMere (graph happens) = Unit {0}
IsMere (part kind index offset bytes) = Unit {0}
IsMere (step number) = ⊥
IsMere (command depth line place expanded words) = ⊥
IsMere (result cause) = ⊥
IsMere (opened number kind server port own target) = ⊥
IsMere (ended number cause) = ⊥
IsMere (done status) = ⊥

calm_mere : (es : List Event) (o : Out) → IsMere o → IsCalm es (puts o)
calm_mere es (sent bytes) h = record { unopens = λ j. refl; unends = λ j. refl; opens = λ last. refl; none = refl; table = refl; up = refl; shown = refl; is_open = refl; left = refl; images = refl; scripts = refl; hooked = refl; drives = refl }
calm_mere es (text bytes) h = record { unopens = λ j. refl; unends = λ j. refl; opens = λ last. refl; none = refl; table = refl; up = refl; shown = refl; is_open = refl; left = refl; images = refl; scripts = refl; hooked = refl; drives = refl }
calm_mere es (tried number count) h =
    record { unopens = λ j. refl; unends = λ j. refl; opens = λ last. refl; none = refl; table = refl; up = refl; shown = refl; is_open = refl; left = refl; images = refl; scripts = refl; hooked = refl; drives = refl }
calm_mere es (advanced number place) h =
    record { unopens = λ j. refl; unends = λ j. refl; opens = λ last. refl; none = refl; table = refl; up = refl; shown = refl; is_open = refl; left = refl; images = refl; scripts = refl; hooked = refl; drives = refl }
calm_mere es (graph happens) h = record { unopens = λ j. refl; unends = λ j. refl; opens = λ last. refl; none = refl; table = refl; up = refl; shown = refl; is_open = refl; left = refl; images = refl; scripts = refl; hooked = refl; drives = refl }
calm_mere es (part kind index offset bytes) h =
    record { unopens = λ j. refl; unends = λ j. refl; opens = λ last. refl; none = refl; table = refl; up = refl; shown = refl; is_open = refl; left = refl; images = refl; scripts = refl; hooked = refl; drives = refl }
calm_mere es (step number) h = absurd h
calm_mere es (script what depth cause) h = absurd h
calm_mere es (command depth line place expanded words) h = absurd h
calm_mere es (result cause) h = absurd h
calm_mere es (opened number kind server port own target) h = absurd h
calm_mere es (ended number cause) h = absurd h
calm_mere es (done status) h = absurd h

-- by one more event that keeps the laws
pub solitude_then : (es : List Event) (e : Event) → StepsSo es e → CommandsSo es e → OpensEndSo es e → Solitude es → Solitude (es ++ e ∷ [])
solitude_then es (starts n s) steps commands ends a = start_calm es n s a steps.1
solitude_then es (hears n bytes m) steps commands ends a = calm_then es (hears n bytes m) (calm_frame es n bytes m) a
solitude_then es (waits n ms) steps commands ends a = calm_then es (waits n ms) (calm_tick es n ms) a
solitude_then es (stops n) steps commands ends a = calm_then es (stops n) (calm_off es n) a
solitude_then es (puts (command depth line place expanded words)) steps commands ends a = command_calm es depth line place expanded words a commands.over
solitude_then es (puts (result cause)) steps commands ends a = result_calm es cause a commands
solitude_then es (puts (opened number kind server port own target)) steps commands ends a = open_calm es number kind server port own target a commands
solitude_then es (puts (ended k cause)) steps commands ends a = end_calm es k cause a
solitude_then es (puts (step number)) steps commands ends a = absurd commands
solitude_then es (puts (done status)) steps commands ends a = absurd commands
solitude_then es (puts (sent bytes)) steps commands ends a = calm_then es (puts (sent bytes)) (calm_mere es (sent bytes) tt) a
solitude_then es (puts (text bytes)) steps commands ends a = calm_then es (puts (text bytes)) (calm_mere es (text bytes) tt) a
solitude_then es (puts (script what depth cause)) steps commands ends a = script_calm es what depth cause a commands
solitude_then es (puts (tried number count)) steps commands ends a = calm_then es (puts (tried number count)) (calm_mere es (tried number count) tt) a
solitude_then es (puts (advanced number place)) steps commands ends a = calm_then es (puts (advanced number place)) (calm_mere es (advanced number place) tt) a
solitude_then es (puts (graph happens)) steps commands ends a = calm_then es (puts (graph happens)) (calm_mere es (graph happens) tt) a
solitude_then es (puts (part kind index offset bytes)) steps commands ends a = calm_then es (puts (part kind index offset bytes)) (calm_mere es (part kind index offset bytes) tt) a
