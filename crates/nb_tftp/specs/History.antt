-- All the calls of a transfer since its start, each with what it asked, and what can be read from them
use Rattle.std.specs.Prelude.{ℕ, ◌==◌, Bool, false, List, [], ◌∷◌, ◌++◌, Option, fold, slice_range, if◌then◌else◌, unwrap_or}
use Rattle.std.specs.List.{flat_map, list_any}
use Rattle.std.specs.Option.{option_map_or, is_some}
use Rattle.nb_retry.specs.Plans.{Asked, asked_at}
use Rattle.nb_retry.specs.declared.retry.Due.{Due}
use Rattle.nb_retry.specs.declared.retry.Due.TheVariants.{Not, Again, Over}
use Rattle.nb_terms.specs.declared.acts.Acts.{Acts}
use Rattle.nb_tftp.specs.Received.{Received}

-- a datagram at a time, or a time
pub data Call : Type 0 where
  came : (m : Received) (now : ℕ) → Call
  ticked : (now : ℕ) → Call

-- a call, and what it asked of the caller
pub record Entry : Type 0 where
  pub call : Call
  pub acts : Acts

abbrev pub entry : Call → Acts → Entry
entry call acts = record { call = call; acts = acts }

abbrev pub received_by : Call → List Received
received_by (came m now) = m ∷ []
received_by (ticked now) = []

-- the datagrams that were received, in order
abbrev pub got : List Entry → List Received
got entries = flat_map (λ e. received_by e.call) entries

-- the place that an `advance` gave last, 0 where none did
abbrev pub last_advance : List Entry → ℕ
last_advance entries = fold (λ last e. unwrap_or e.acts.advance last) 0 entries

abbrev pub given_of : Call → Option (ℕ × ℕ) → List ℕ
given_of (came m now) range = option_map_or (λ r. slice_range m.body r.0 r.1) range []
given_of (ticked now) range = []

-- the bytes that were delivered, in order
abbrev pub given : List Entry → List ℕ
given entries = flat_map (λ e. given_of e.call e.acts.give) entries

-- an end was told
abbrev pub is_ended : List Entry → Bool
is_ended entries = list_any (λ e. is_some e.acts.over) entries

-- the end that was told is Ok
abbrev pub ends_ok : Acts → Bool
ends_ok acts = option_map_or (λ cause. cause.code == 0) acts.over false

-- what a call's answer says of a timer: a try, or the plan's end
abbrev pub due_of : Acts → Due
due_of acts = option_map_or (λ n. Again n) acts.tried (if is_some acts.over then Over else Not)

-- the last first sending under a timer: its time, and from then on the times with what was said at
-- each, and the datagrams
pub record Watch : Type 0 where
  pub since : ℕ
  pub times : List Asked
  pub heard : List Received

abbrev pub watch_from : ℕ → Watch
watch_from now = record { since = now; times = []; heard = [] }

abbrev pub watched_call : Watch → Call → Acts → Watch
watched_call w (ticked now) acts = record w { times = w.times ++ asked_at now (due_of acts) ∷ [] }
watched_call w (came m now) acts = if is_some acts.tried then watch_from now else record w { heard = w.heard ++ m ∷ [] }

-- the watch of a transfer that was started at a time
abbrev pub watched : ℕ → List Entry → Watch
watched start entries = fold (λ w e. watched_call w e.call e.acts) (watch_from start) entries

-- a fact of each entry, with those before it
abbrev pub EachEntry : (List Entry → Entry → Type 0) → List Entry → List Entry → Type 0
EachEntry P before [] = Unit {0}
EachEntry P before (e ∷ es) = P before e × EachEntry P (before ++ e ∷ []) es
