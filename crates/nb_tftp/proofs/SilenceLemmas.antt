-- Where the last of the tries' firings is the end, all of them stand at the plan's times.
use Rattle.std.proofs.Common.{◌≡◌, ℕ, ◌+◌, List, [], ◌∷◌, ◌++◌, Option, Some, None, refl, ap, ◌∙◌, sym}
use Rattle.std.specs.Prelude.{filter, map}
use Rattle.std.specs.Option.{option_map_or}
use Rattle.std.proofs.lemmas.List.Elements.{filter-append}
use Rattle.std.proofs.lemmas.Option.{none-some, same_Some}
use Rattle.nb_retry.specs.declared.plan.Plan.TheVariants.{Common}
use Rattle.nb_retry.specs.declared.retry.Due.TheVariants.{Again, Over}
use Rattle.nb_retry.specs.Calls.{fires}
use Rattle.nb_retry.specs.Plans.{Asked, asked_at, wait, waits, firings, first_from}
use Rattle.nb_tftp.specs.History.{Watch}
use Rattle.nb_tftp.specs.Endings.{RanOut}

abbrev last_of : List Asked → Option Asked
last_of [] = None
last_of (a ∷ []) = Some a
last_of (a ∷ b ∷ cs) = last_of (b ∷ cs)

last_added : (calls : List Asked) (a : Asked) → last_of (calls ++ a ∷ []) ≡ Some a
last_added [] a = refl
last_added (x ∷ []) a = refl
last_added (x ∷ y ∷ calls) a = last_added (y ∷ calls) a

first_fires : {P : Type 0} (o : Option ℕ) (f : ℕ → List Asked) (end : Asked) → last_of (option_map_or f o []) ≡ Some end → ((t : ℕ) → o ≡ Some t → last_of (f t) ≡ Some end → P) → P
first_fires None f end is then = absurd (none-some end is)
first_fires (Some t) f end is then = then t refl is

no_end : (t n now : ℕ) → asked_at t (Again n) ≡ asked_at now Over → ⊥
no_end t n now is = let said : Again n ≡ Over = ap (λ (a : Asked). a.said) is in cc

-- after a try that isn't the end comes another firing
next_fires : {P : Type 0} (t n now : ℕ) (o : Option ℕ) (f : ℕ → List Asked) → last_of (asked_at t (Again n) ∷ option_map_or f o []) ≡ Some (asked_at now Over) → ((u : ℕ) → o ≡ Some u → last_of (asked_at t (Again n) ∷ f u) ≡ Some (asked_at now Over) → P) → P
next_fires t n now None f is then = absurd (no_end t n now (same_Some (asked_at t (Again n)) (asked_at now Over) is))
next_fires t n now (Some u) f is then = then u refl is

fires_so : (o : Option ℕ) (t : ℕ) (f : ℕ → List Asked) (rest : List Asked) → o ≡ Some t → f t ≡ rest → option_map_or f o [] ≡ rest
fires_so o t f rest at same = ap (λ x. option_map_or f x []) at ∙ same

abbrev over_on : List ℕ → ℕ → List Asked
over_on times t = asked_at t Over ∷ []

abbrev sixth_on : List ℕ → ℕ → List Asked
sixth_on times t = asked_at t (Again 6) ∷ firings t (wait 8000 Over ∷ []) times

abbrev fifth_on : List ℕ → ℕ → List Asked
fifth_on times t = asked_at t (Again 5) ∷ firings t (wait 4000 (Again 6) ∷ wait 8000 Over ∷ []) times

abbrev fourth_on : List ℕ → ℕ → List Asked
fourth_on times t = asked_at t (Again 4) ∷ firings t (wait 2000 (Again 5) ∷ wait 4000 (Again 6) ∷ wait 8000 Over ∷ []) times

abbrev third_on : List ℕ → ℕ → List Asked
third_on times t = asked_at t (Again 3) ∷ firings t (wait 1000 (Again 4) ∷ wait 2000 (Again 5) ∷ wait 4000 (Again 6) ∷ wait 8000 Over ∷ []) times

abbrev second_on : List ℕ → ℕ → List Asked
second_on times t = asked_at t (Again 2) ∷ firings t (wait 500 (Again 3) ∷ wait 1000 (Again 4) ∷ wait 2000 (Again 5) ∷ wait 4000 (Again 6) ∷ wait 8000 Over ∷ []) times

ran_out_by : (w : Watch) (now : ℕ) (times : List ℕ) → map (λ call. call.at) w.times ≡ times → last_of (firings w.since (waits Common) times) ≡ Some (asked_at now Over)
    → filter (λ call. fires call.said) w.times ≡ firings w.since (waits Common) times → RanOut w now
ran_out_by w now times moments is plan =
    first_fires (first_from (w.since + 250) times) (second_on times) (asked_at now Over) is (λ second e2 is2.
    next_fires second 2 now (first_from (second + 500) times) (third_on times) is2 (λ third e3 is3.
    next_fires third 3 now (first_from (third + 1000) times) (fourth_on times) is3 (λ fourth e4 is4.
    next_fires fourth 4 now (first_from (fourth + 2000) times) (fifth_on times) is4 (λ fifth e5 is5.
    next_fires fifth 5 now (first_from (fifth + 4000) times) (sixth_on times) is5 (λ sixth e6 is6.
    next_fires sixth 6 now (first_from (sixth + 8000) times) (over_on times) is6 (λ end e7 is7.
    let same : end ≡ now = ap (λ (a : Asked). a.at) (same_Some (asked_at end Over) (asked_at now Over) is7) in
    record {
      second = second;
      third = third;
      fourth = fourth;
      fifth = fifth;
      sixth = sixth;
      fired = plan
          ∙ fires_so (first_from (w.since + 250) times) second (second_on times) _ e2 (ap (λ l. asked_at second (Again 2) ∷ l)
          (fires_so (first_from (second + 500) times) third (third_on times) _ e3 (ap (λ l. asked_at third (Again 3) ∷ l)
          (fires_so (first_from (third + 1000) times) fourth (fourth_on times) _ e4 (ap (λ l. asked_at fourth (Again 4) ∷ l)
          (fires_so (first_from (fourth + 2000) times) fifth (fifth_on times) _ e5 (ap (λ l. asked_at fifth (Again 5) ∷ l)
          (fires_so (first_from (fifth + 4000) times) sixth (sixth_on times) _ e6 (ap (λ l. asked_at sixth (Again 6) ∷ l)
          (fires_so (first_from (sixth + 8000) times) end (over_on times) _ e7 (ap (λ t. asked_at t Over ∷ []) same)))))))))));
      second_due = ap (first_from (w.since + 250)) moments ∙ e2;
      third_due = ap (first_from (second + 500)) moments ∙ e3;
      fourth_due = ap (first_from (third + 1000)) moments ∙ e4;
      fifth_due = ap (first_from (fourth + 2000)) moments ∙ e5;
      sixth_due = ap (first_from (fifth + 4000)) moments ∙ e6;
      over_due = ap (first_from (sixth + 8000)) moments ∙ e7 ∙ ap (λ t. Some t) same;
    }))))))

-- the tries that follow the plan have run out where the last time is told the end
pub ran_out : (w : Watch) (before : List Asked) (now : ℕ) → w.times ≡ before ++ asked_at now Over ∷ []
    → filter (λ call. fires call.said) w.times ≡ firings w.since (waits Common) (map (λ call. call.at) w.times) → RanOut w now
ran_out w before now all plan =
    ran_out_by w now (map (λ call. call.at) w.times) refl
    (ap last_of (sym plan ∙ ap (λ (l : List Asked). filter (λ call. fires call.said) l) all ∙ filter-append (λ (call : Asked). fires call.said) before (asked_at now Over ∷ []))
    ∙ last_added (filter (λ call. fires call.said) before) (asked_at now Over))
    plan
