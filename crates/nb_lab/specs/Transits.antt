-- The frames of the servers on their way to the client
use Rattle.std.specs.Prelude.{◌≡◌, ℕ, ◌+◌, ◌-◌, ◌%◌, List, [], ◌∷◌, ◌++◌, length, slice_get, Option, Some, None, option_and_then, option_to_list}
use Rattle.std.specs.List.{flat_map}
use Rattle.std.specs.Option.{option_map, option_map_or}
use Rattle.nb_lab.specs.declared.answer.Answer.{Answer}
use Rattle.nb_lab.specs.declared.delivery.Held.{Held}
use Rattle.nb_lab.specs.declared.fate.Fate.{Fate}
use Rattle.nb_lab.specs.declared.fate.Fate.TheVariants.{Lost, OnTime, Late}
use Rattle.nb_lab.specs.Fates.{fate, times, comes_twice, late_after, frames_arrived}

-- the number of the frame that was sent last, modulo 1001, which is 7 times 11 times 13; the frame that is late; and those
-- that wait for the client
pub record Transit : Type 0 where
  pub number : ℕ
  pub late : Option Held
  pub waiting : List Answer

-- nothing was sent
abbrev pub nothing_sent : Transit
nothing_sent = record { number = 0; late = None; waiting = [] }

abbrev pub held_copies : Held → List Answer
held_copies held = times held.twice held.answer

-- once a frame of this fate and number is sent
abbrev pub sent_by_fate : Fate → ℕ → Answer → Transit → Transit
sent_by_fate Lost number answer t = record t { number = number }
sent_by_fate (OnTime twice) number answer t =
    record { number = number; late = None; waiting = t.waiting ++ (times twice answer ++ option_map_or held_copies t.late []) }
sent_by_fate (Late twice) number answer t = record {
  number = number;
  late = Some (record { answer = answer; twice = twice });
  waiting = t.waiting ++ option_map_or held_copies t.late [];
}

abbrev pub next_frame_number : Transit → ℕ
next_frame_number t = (t.number + 1) % 1001

-- once a frame is sent
abbrev pub sent : Transit → Answer → Transit
sent t answer = sent_by_fate (fate (next_frame_number t)) (next_frame_number t) answer t

-- once one is sent, or none
abbrev pub sent_if : Transit → Option Answer → Transit
sent_if t None = t
sent_if t (Some answer) = sent t answer

-- of these frames, counted from 1, the one of a number, and those of numbers
abbrev pub frame_numbered : List Answer → ℕ → Option Answer
frame_numbered answers n = slice_get answers (n - 1)

abbrev pub those : List Answer → List ℕ → List Answer
those answers numbers = flat_map (λ n. option_to_list (frame_numbered answers n)) numbers

abbrev pub held_of : List Answer → ℕ → Option Held
held_of answers n = option_map (λ a. record { answer = a; twice = comes_twice n }) (frame_numbered answers n)

-- The frames that were sent are these in this order, and those have gone to the client: which come, and in which order, is a
-- function of their numbers.
pub record LabDelivered (t : Transit) (answers gone : List Answer) : Type 0 where
  pub number : t.number ≡ length answers % 1001
  pub late : t.late ≡ option_and_then (held_of answers) (late_after (length answers))
  pub waiting : gone ++ t.waiting ≡ those answers (frames_arrived (length answers))

-- one frame more is sent
abbrev pub ComeByNumbers : Type 0
ComeByNumbers = (t : Transit) (answers gone : List Answer) (answer : Answer) → LabDelivered t answers gone
    → LabDelivered (sent t answer) (answers ++ answer ∷ []) gone

-- one frame more goes to the client
abbrev pub GoInOrder : Type 0
GoInOrder = (t : Transit) (answers gone rest : List Answer) (answer : Answer) → t.waiting ≡ answer ∷ rest → LabDelivered t answers gone
    → LabDelivered (record t { waiting = rest }) answers (gone ++ answer ∷ [])

-- at first
abbrev pub NothingHasCome : Type 0
NothingHasCome = LabDelivered nothing_sent [] []
