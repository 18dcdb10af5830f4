-- What a unit hands up by the calls of its drive is what that has read.
use Rattle.std.proofs.Common.{◌≡◌, ℕ, ◌+◌, ◌==◌, ◌&&◌, Bool, false, not, cond, List, [], ◌∷◌, ◌++◌, length, Option, Some, None, refl, sym, ap, ◌∙◌, subst, append_assoc, append-nil, arith}
use Rattle.std.specs.Option.{is_some, option_map, option_or}
use Rattle.std.specs.List.{AllByRecursion}
use Rattle.std.proofs.lemmas.Bool.{ne_eqb}
use Rattle.std.proofs.lemmas.List.Sums.{fold-append}
use Rattle.nb_conns.specs.ConnEffects.{received_says}
use Rattle.nb_graph.specs.Trace.{Said}
use Rattle.nb_disk.specs.Histories.{DiskCall, DiskReading, SessionNumbers, nothing_read, after_call, at_work, capacity_read, reading}
use Rattle.nb_disk.specs.DiskAnswers.{disk_answer}
use Rattle.nb_drivechains.specs.declared.drive_answer.DriveAnswer.{DriveAnswer}
use Rattle.nb_drivenodes.specs.UnitAnswers.{unit_answered_by, answered_so}
use Rattle.nb_drivenodes.specs.UnitTalks.{answered_says, blocks_says}
use Rattle.nb_drivetalks.specs.Comings.{IsPart, units_say}
use Rattle.nb_sans.specs.Sessions.{over_from}
use Rattle.nb_open.proofs.DiskAnswering.{GoesTo, Phase, Stepped, answer_by, goes_both, idle_call, one_call}
use Rattle.nb_open.proofs.DrivePuts.{answer_among, blocks_among}

-- WHAT IS SAID

abbrev pub told_by : ℕ → Option ℕ → Option DriveAnswer
told_by chap answer = option_map (λ n. record { blocks = n; chap = chap }) answer

some_bytes : (x : ℕ) (xs : List ℕ) → (length (x ∷ xs) == 0) ≡ false
some_bytes x xs = ne_eqb (length (x ∷ xs)) 0 (λ e. absurd (omega (arith, e)))

abbrev range_by : Bool → ℕ → Option (ℕ × ℕ)
range_by none len = cond none None (Some (48, 48 + len))

-- of these bytes, where some are given
abbrev given_says : ℕ → List ℕ → Bool → List Said
given_says rec given none = cond (is_some (range_by none (length given))) (received_says rec given ∷ []) []

pub blocks_given : (rec : ℕ) (given : List ℕ) (ms : List Said) → blocks_among (blocks_says rec given ++ ms) ≡ given ++ blocks_among ms
blocks_given rec [] ms = refl
blocks_given rec (x ∷ xs) ms = ap (λ b. blocks_among (given_says rec (x ∷ xs) b ++ ms)) (some_bytes x xs)

pub none_given : (rec : ℕ) (given : List ℕ) (ms : List Said) → answer_among (blocks_says rec given ++ ms) ≡ answer_among ms
none_given rec [] ms = refl
none_given rec (x ∷ xs) ms = ap (λ b. answer_among (given_says rec (x ∷ xs) b ++ ms)) (some_bytes x xs)

blocks_answered : (rec chap : ℕ) (answer : Option ℕ) (ms : List Said) → blocks_among (answered_says rec chap answer ++ ms) ≡ blocks_among ms
blocks_answered rec chap None ms = refl
blocks_answered rec chap (Some n) ms = refl

answer_answered : (rec chap : ℕ) (answer : Option ℕ) (ms : List Said) → answer_among (answered_says rec chap answer ++ ms) ≡ option_or (told_by chap answer) (answer_among ms)
answer_answered rec chap None ms = refl
answer_answered rec chap (Some n) ms = refl

told_both : (chap : ℕ) (a b : Option ℕ) → option_or (told_by chap a) (told_by chap b) ≡ told_by chap (option_or a b)
told_both chap None b = refl
told_both chap (Some n) b = refl

-- CALLS

pub or_none : {A : Type 0} (a b : Option A) → option_or a b ≡ None → (a ≡ None) × (b ≡ None)
or_none None b e = (refl, e)
or_none (Some x) b e = absurd (cc)

pub reading_more : (o : SessionNumbers) (before : List DiskCall) (call : DiskCall) → reading o (before ++ call ∷ []) ≡ after_call o (reading o before) call
reading_more o before call = fold-append (after_call o) nothing_read before (call ∷ [])

-- what is handed up by calls is what these come to
pub record Handed (rec chap : ℕ) (o : SessionNumbers) (before calls : List DiskCall) : Type 0 where
  pub answer : Option ℕ
  pub bytes : List ℕ
  pub says_answer : answer_among (units_say rec chap o before calls) ≡ told_by chap answer
  pub says_blocks : blocks_among (units_say rec chap o before calls) ≡ bytes
  pub goes : GoesTo (reading o before) (reading o (before ++ calls)) answer bytes
  pub phase : Phase (reading o (before ++ calls))
  pub idle : at_work (reading o before) ≡ None → (answer ≡ None) × (bytes ≡ []) × (at_work (reading o (before ++ calls)) ≡ None)

module _ (rec chap : ℕ) (o : SessionNumbers) where
  no_more : (before : List DiskCall) → Phase (reading o before) → Handed rec chap o before []
  no_more before p = record {
    answer = None;
    bytes = [];
    says_answer = refl;
    says_blocks = refl;
    goes = subst (λ z. GoesTo (reading o before) (reading o z) None []) (sym (append-nil before)) (refl, refl, sym (append-nil _), refl);
    phase = subst (λ z. Phase (reading o z)) (sym (append-nil before)) p;
    idle = λ none. (refl, refl, ap (λ z. at_work (reading o z)) (append-nil before) ∙ none);
  }

  one_more : (before : List DiskCall) (call : DiskCall) (calls : List DiskCall) → Phase (reading o before) → IsPart call → (disk_answer o (reading o before) call).over ≡ None → Handed rec chap o (before ++ call ∷ []) calls → Handed rec chap o before (call ∷ calls)
  one_more before call calls p is over h =
      let r = reading o before in
      let q = after_call o r call in
      let a = disk_answer o r call in
      let step : Stepped r q a.give = one_call o r call is p over in
      let same : reading o (before ++ call ∷ []) ≡ q = reading_more o before call in
      let all : (before ++ call ∷ []) ++ calls ≡ before ++ (call ∷ calls) = append_assoc before (call ∷ []) calls in
      let later = units_say rec chap o (before ++ call ∷ []) calls in
      let told = unit_answered_by o before call in
      let answer : told ≡ answer_by r q =
      ap (λ b. answered_so b (is_some (at_work r)) (is_some (at_work (reading o (before ++ call ∷ [])))) (capacity_read (reading o (before ++ call ∷ [])))) (ap is_some over)
      ∙ ap (λ (z : DiskReading). answered_so false (is_some (at_work r)) (is_some (at_work z)) (capacity_read z)) same in
      let rest : at_work r ≡ None → (answer_by r q ≡ None) × (a.give ≡ []) × (at_work q ≡ None) = λ none.
      let z = idle_call o r call is none over in (ap (λ w. cond (is_some w && not (is_some (at_work q))) (capacity_read q) None) none, z.0, ap at_work z.1 ∙ none) in
      let then : at_work q ≡ None → (h.answer ≡ None) × (h.bytes ≡ []) × (at_work (reading o (before ++ (call ∷ calls))) ≡ None) = λ none.
      let z = h.idle (ap at_work same ∙ none) in (z.0, z.1, ap (λ w. at_work (reading o w)) (sym all) ∙ z.2) in
      record {
        answer = option_or (answer_by r q) h.answer;
        bytes = a.give ++ h.bytes;
        says_answer = ap answer_among (append_assoc (blocks_says rec a.give) (answered_says rec chap told) later)
            ∙ (none_given rec a.give (answered_says rec chap told ++ later) ∙ (answer_answered rec chap told later
            ∙ (ap (λ z. option_or (told_by chap z) (answer_among later)) answer ∙ (ap (option_or (told_by chap (answer_by r q))) h.says_answer ∙ told_both chap (answer_by r q) h.answer))));
        says_blocks = ap blocks_among (append_assoc (blocks_says rec a.give) (answered_says rec chap told) later)
            ∙ (blocks_given rec a.give (answered_says rec chap told ++ later) ∙ ap (λ z. a.give ++ z) (blocks_answered rec chap told later ∙ h.says_blocks));
        goes = goes_both r q (reading o (before ++ (call ∷ calls))) (answer_by r q) h.answer a.give h.bytes step.goes
            (subst (λ (z : DiskReading). GoesTo z (reading o (before ++ (call ∷ calls))) h.answer h.bytes) same (subst (λ w. GoesTo (reading o (before ++ call ∷ [])) (reading o w) h.answer h.bytes) all h.goes)) then;
        phase = subst (λ w. Phase (reading o w)) all h.phase;
        idle = λ none.
            let x = rest none in
            let y = then x.2 in
            (ap (λ z. option_or z h.answer) x.0 ∙ y.0, ap (λ z. z ++ h.bytes) x.1 ∙ y.1, y.2);
      }

  pub all_handed : (before calls : List DiskCall) → Phase (reading o before) → AllByRecursion IsPart calls → over_from o (reading o before) calls ≡ None → Handed rec chap o before calls
  all_handed before [] p came over = no_more before p
  all_handed before (call ∷ calls) p came over =
      let two = or_none (disk_answer o (reading o before) call).over (over_from o (after_call o (reading o before) call) calls) over in
      let same = reading_more o before call in
      one_more before call calls p came.0 two.0
      (all_handed (before ++ call ∷ []) calls (subst Phase (sym same) (one_call o (reading o before) call came.0 p two.0).phase) came.1 (ap (λ (z : DiskReading). over_from o z calls) same ∙ two.1))
