-- Frames come by their numbers.
use Rattle.std.proofs.Common.{◌≡◌, ◌==◌, ℕ, zero, suc, ◌+◌, ◌-◌, ◌%◌, ◌≤◌, ◌<◌, Bool, true, false, List, [], ◌∷◌, ◌++◌, length, slice_get, Option, Some, None, option_and_then, option_to_list, if◌then◌else◌, refl, sym, ap, subst, ◌∙◌, append_assoc, arith}
use Rattle.std.specs.Option.{option_map, option_map_or}
use Rattle.std.proofs.lemmas.List.{length-append, append-nil}
use Rattle.std.proofs.lemmas.Grind.{flat_map-append}
use Rattle.nb_lab.specs.declared.answer.Answer.{Answer}
use Rattle.nb_lab.specs.declared.delivery.Held.{Held}
use Rattle.nb_lab.specs.declared.fate.Fate.{Fate}
use Rattle.nb_lab.specs.declared.fate.Fate.TheVariants.{Lost, OnTime, Late}
use Rattle.nb_lab.specs.Fates.{fate, times, copies, comes_twice, late_after, frames_arrived}
use Rattle.nb_lab.proofs.FateLemmas.{late_by, coming_by, late_step, arrivals_step}
use Rattle.nb_lab.specs.Transits.{Transit, held_copies, sent_by_fate, next_frame_number, frame_numbered, those, held_of, LabDelivered, ComeByNumbers, GoInOrder, NothingHasCome}

-- numbers from 1 up to a greatest
Within : ℕ → List ℕ → Type 0
Within n [] = Unit {0}
Within n (k ∷ ks) = (1 ≤ k) × (k ≤ n) × Within n ks

IsWithin : ℕ → Option ℕ → Type 0
IsWithin n None = Unit {0}
IsWithin n (Some k) = (1 ≤ k) × (k ≤ n)

within_append : (n : ℕ) (xs ys : List ℕ) → Within n xs → Within n ys → Within n (xs ++ ys)
unfolding Within
within_append n [] ys hx hy = hy
within_append n (x ∷ xs) ys (low, high, rest) hy = (low, high, within_append n xs ys rest hy)

within_more : (n : ℕ) (xs : List ℕ) → Within n xs → Within (suc n) xs
unfolding Within
within_more n [] h = tt
within_more n (x ∷ xs) (low, high, rest) = (low, omega (arith, high), within_more n xs rest)

within_times : (n : ℕ) (twice : Bool) (k : ℕ) → 1 ≤ k → k ≤ n → Within n (times twice k)
unfolding Within
within_times n true k low high = (low, high, (low, high, tt))
within_times n false k low high = (low, high, tt)

within_copies : (n : ℕ) (o : Option ℕ) → IsWithin n o → Within (suc n) (option_map_or copies o [])
unfolding Within IsWithin
within_copies n None h = tt
within_copies n (Some k) (low, high) = within_times (suc n) (comes_twice k) k low (omega (arith, high))

within_coming : (f : Fate) (n : ℕ) (before : Option ℕ) → IsWithin n before → Within (suc n) (coming_by f (suc n) before)
unfolding Within
within_coming Lost n before h = tt
within_coming (OnTime twice) n before h =
    within_append (suc n) (copies (suc n)) (option_map_or copies before []) (within_times (suc n) (comes_twice (suc n)) (suc n) (omega arith) (omega arith)) (within_copies n before h)
within_coming (Late twice) n before h = within_copies n before h

late_within_by : (f : Fate) (n : ℕ) (before : Option ℕ) → IsWithin n before → IsWithin (suc n) (late_by f (suc n) before)
unfolding IsWithin
late_within_by Lost n None h = tt
late_within_by Lost n (Some k) (low, high) = (low, omega (arith, high))
late_within_by (OnTime twice) n before h = tt
late_within_by (Late twice) n before h = (omega arith, omega arith)

late_within : (n : ℕ) → IsWithin n (late_after n)
unfolding late_after IsWithin
late_within zero = tt
late_within (suc n) = subst (IsWithin (suc n)) (sym (late_step n)) (late_within_by (fate (suc n)) n (late_after n) (late_within n))

arrivals_within : (n : ℕ) → Within n (frames_arrived n)
unfolding frames_arrived Within
arrivals_within zero = tt
arrivals_within (suc n) =
    subst (Within (suc n)) (sym (arrivals_step n))
    (within_append (suc n) (frames_arrived n) (coming_by (fate (suc n)) (suc n) (late_after n)) (within_more n (frames_arrived n) (arrivals_within n)) (within_coming (fate (suc n)) n (late_after n) (late_within n)))

-- the frames before stay as they are when one is sent
get_before : (answers : List Answer) (a : Answer) (i : ℕ) → i < length answers → slice_get (answers ++ a ∷ []) i ≡ slice_get answers i
get_before [] a i h = absurd (omega (arith, h))
get_before (x ∷ answers) a zero h = refl
get_before (x ∷ answers) a (suc i) h = get_before answers a i (omega (arith, h))

get_last : (answers : List Answer) (a : Answer) → slice_get (answers ++ a ∷ []) (length answers) ≡ Some a
get_last [] a = refl
get_last (x ∷ answers) a = get_last answers a

numbered_before : (answers : List Answer) (a : Answer) (k : ℕ) → 1 ≤ k → k ≤ length answers → frame_numbered (answers ++ a ∷ []) k ≡ frame_numbered answers k
numbered_before answers a k low high = get_before answers a (k - 1) (omega arith)

numbered_last : (answers : List Answer) (a : Answer) → frame_numbered (answers ++ a ∷ []) (suc (length answers)) ≡ Some a
numbered_last answers a =
    let place : suc (length answers) - 1 ≡ length answers = omega arith in
    ap (slice_get (answers ++ a ∷ [])) place ∙ get_last answers a

those_before : (answers : List Answer) (a : Answer) (ks : List ℕ) → Within (length answers) ks → those (answers ++ a ∷ []) ks ≡ those answers ks
unfolding Within
those_before answers a [] h = refl
those_before answers a (k ∷ ks) (low, high, rest) =
    ap (λ (o : Option Answer). option_to_list o ++ those (answers ++ a ∷ []) ks) (numbered_before answers a k low high)
    ∙ ap (λ (x : List Answer). option_to_list (frame_numbered answers k) ++ x) (those_before answers a ks rest)

held_before : (answers : List Answer) (a : Answer) (o : Option ℕ) → IsWithin (length answers) o → option_and_then (held_of (answers ++ a ∷ [])) o ≡ option_and_then (held_of answers) o
unfolding IsWithin
held_before answers a None h = refl
held_before answers a (Some k) (low, high) =
    ap (option_map (λ (x : Answer). record { answer = x; twice = comes_twice k })) (numbered_before answers a k low high)

-- a frame as often as it comes
listed : (twice : Bool) (o : Option Answer) → (if twice then option_to_list o ++ (option_to_list o ++ []) else option_to_list o ++ []) ≡ option_map_or (times twice) o []
listed true None = refl
listed true (Some a) = refl
listed false None = refl
listed false (Some a) = refl

times_those : (answers : List Answer) (twice : Bool) (k : ℕ) → those answers (times twice k) ≡ option_map_or (times twice) (frame_numbered answers k) []
times_those answers true k = listed true (frame_numbered answers k)
times_those answers false k = listed false (frame_numbered answers k)

held_listed : (twice : Bool) (o : Option Answer) → option_map_or (times twice) o [] ≡ option_map_or held_copies (option_map (λ a. record { answer = a; twice = twice }) o) []
held_listed twice None = refl
held_listed twice (Some a) = refl

late_those : (answers : List Answer) (o : Option ℕ) → those answers (option_map_or copies o []) ≡ option_map_or held_copies (option_and_then (held_of answers) o) []
late_those answers None = refl
late_those answers (Some k) = times_those answers (comes_twice k) k ∙ held_listed (comes_twice k) (frame_numbered answers k)

-- a fate says whether the frame comes twice
on_time_by : (s t u b : Bool) → OnTime b ≡ (if s then Lost else (if t then Late u else OnTime u)) → b ≡ u
on_time_by true t u b h = cc
on_time_by false true u b h = cc
on_time_by false false u b h = cc

late_by_tests : (s t u b : Bool) → Late b ≡ (if s then Lost else (if t then Late u else OnTime u)) → b ≡ u
late_by_tests true t u b h = cc
late_by_tests false true u b h = cc
late_by_tests false false u b h = cc

on_time_twice : (n : ℕ) (b : Bool) → OnTime b ≡ fate n → b ≡ comes_twice n
unfolding fate
on_time_twice n b h = on_time_by (n % 7 == 0) (n % 13 == 0) (n % 11 == 0) b h

late_twice : (n : ℕ) (b : Bool) → Late b ≡ fate n → b ≡ comes_twice n
unfolding fate
late_twice n b h = late_by_tests (n % 7 == 0) (n % 13 == 0) (n % 11 == 0) b h

-- fates come again after 1001 numbers
fate_again : (n : ℕ) → fate (n % 1001) ≡ fate n
unfolding fate
fate_again n =
    let seven : n % 1001 % 7 ≡ n % 7 = omega arith in
    let eleven : n % 1001 % 11 ≡ n % 11 = omega arith in
    let thirteen : n % 1001 % 13 ≡ n % 13 = omega arith in
    let by : ℕ → ℕ → ℕ → Fate = λ a b c. if a == 0 then Lost else (if c == 0 then Late (b == 0) else OnTime (b == 0)) in
    ap (λ k. by k (n % 1001 % 11) (n % 1001 % 13)) seven ∙ ap (λ k. by (n % 7) k (n % 1001 % 13)) eleven ∙ ap (by (n % 7) (n % 11)) thirteen

module _ (t : Transit) (answers gone : List Answer) (a : Answer) (h : LabDelivered t answers gone) where
  len : length (answers ++ a ∷ []) ≡ suc (length answers)
  len = omega (arith, length-append answers (a ∷ []))

  late_is : (f : Fate) → f ≡ fate (suc (length answers)) → late_after (length (answers ++ a ∷ [])) ≡ late_by f (suc (length answers)) (late_after (length answers))
  late_is f is = ap late_after len ∙ late_step (length answers) ∙ ap (λ (g : Fate). late_by g (suc (length answers)) (late_after (length answers))) (sym is)

  arrivals_are : (f : Fate) → f ≡ fate (suc (length answers)) → frames_arrived (length (answers ++ a ∷ [])) ≡ frames_arrived (length answers) ++ coming_by f (suc (length answers)) (late_after (length answers))
  arrivals_are f is = ap frames_arrived len ∙ arrivals_step (length answers) ∙ ap (λ (g : Fate). frames_arrived (length answers) ++ coming_by g (suc (length answers)) (late_after (length answers))) (sym is)

  whole : (f : Fate) → f ≡ fate (suc (length answers)) → those (answers ++ a ∷ []) (frames_arrived (length (answers ++ a ∷ []))) ≡ (gone ++ t.waiting) ++ those (answers ++ a ∷ []) (coming_by f (suc (length answers)) (late_after (length answers)))
  whole f is =
      let coming = coming_by f (suc (length answers)) (late_after (length answers)) in
      let new = answers ++ a ∷ [] in
      ap (those new) (arrivals_are f is)
      ∙ flat_map-append (λ n. option_to_list (frame_numbered new n)) (frames_arrived (length answers)) coming
      ∙ ap (λ (x : List Answer). x ++ those new coming) (those_before answers a (frames_arrived (length answers)) (arrivals_within (length answers)) ∙ sym h.waiting)

  late_part : those (answers ++ a ∷ []) (option_map_or copies (late_after (length answers)) []) ≡ option_map_or held_copies t.late []
  late_part =
      late_those (answers ++ a ∷ []) (late_after (length answers))
      ∙ ap (λ (o : Option Held). option_map_or held_copies o []) (held_before answers a (late_after (length answers)) (late_within (length answers)) ∙ sym h.late)

  own_part : (twice : Bool) → twice ≡ comes_twice (suc (length answers)) → those (answers ++ a ∷ []) (copies (suc (length answers))) ≡ times twice a
  own_part twice is =
      let n = suc (length answers) in
      times_those (answers ++ a ∷ []) (comes_twice n) n
      ∙ ap (λ (o : Option Answer). option_map_or (times (comes_twice n)) o []) (numbered_last answers a)
      ∙ ap (λ (b : Bool). times b a) (sym is)

  by_fate : (f : Fate) (number : ℕ) → f ≡ fate (suc (length answers)) → number ≡ suc (length answers) % 1001 → LabDelivered (sent_by_fate f number a t) (answers ++ a ∷ []) gone
  by_fate Lost number is number_is = record {
    number = number_is ∙ ap (λ k. k % 1001) (sym len);
    late =
        h.late ∙ sym (held_before answers a (late_after (length answers)) (late_within (length answers)))
        ∙ ap (option_and_then (held_of (answers ++ a ∷ []))) (sym (late_is Lost is));
    waiting = sym (append-nil (gone ++ t.waiting)) ∙ sym (whole Lost is);
  }
  by_fate (OnTime twice) number is number_is = record {
    number = number_is ∙ ap (λ k. k % 1001) (sym len);
    late = ap (option_and_then (held_of (answers ++ a ∷ []))) (sym (late_is (OnTime twice) is));
    waiting =
        let n = suc (length answers) in
        let late = option_map_or copies (late_after (length answers)) [] in
        let new = answers ++ a ∷ [] in
        let own = own_part twice (on_time_twice n twice is) in
        let parts = flat_map-append (λ k. option_to_list (frame_numbered new k)) (copies n) late
        ∙ ap (λ (x : List Answer). x ++ those new late) own ∙ ap (λ (x : List Answer). times twice a ++ x) late_part in
        sym (append_assoc gone t.waiting (times twice a ++ option_map_or held_copies t.late []))
        ∙ ap (λ (x : List Answer). (gone ++ t.waiting) ++ x) (sym parts) ∙ sym (whole (OnTime twice) is);
  }
  by_fate (Late twice) number is number_is = record {
    number = number_is ∙ ap (λ k. k % 1001) (sym len);
    late =
        let n = suc (length answers) in
        let new = answers ++ a ∷ [] in
        ap (λ (b : Bool). Some (record { answer = a; twice = b })) (late_twice n twice is)
        ∙ sym (ap (option_map (λ (x : Answer). record { answer = x; twice = comes_twice n })) (numbered_last answers a))
        ∙ ap (option_and_then (held_of new)) (sym (late_is (Late twice) is));
    waiting =
        sym (append_assoc gone t.waiting (option_map_or held_copies t.late []))
        ∙ ap (λ (x : List Answer). (gone ++ t.waiting) ++ x) (sym late_part) ∙ sym (whole (Late twice) is);
  }

pub come_by_numbers : ComeByNumbers
come_by_numbers t answers gone answer h =
    let n = suc (length answers) in
    let number : next_frame_number t ≡ n % 1001 = omega (arith, h.number) in
    by_fate t answers gone answer h (fate (next_frame_number t)) (next_frame_number t) (ap fate number ∙ fate_again n) number

pub go_in_order : GoInOrder
go_in_order t answers gone rest answer first h = record {
  number = h.number;
  late = h.late;
  waiting = append_assoc gone (answer ∷ []) rest ∙ ap (λ (x : List Answer). gone ++ x) (sym first) ∙ h.waiting;
}

pub nothing_has_come : NothingHasCome
unfolding late_after frames_arrived
nothing_has_come = record { number = refl; late = refl; waiting = refl }
