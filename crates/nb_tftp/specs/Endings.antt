-- RFC 1350, sections 2, 4, 5 and 7, and RFC 2347: what stands after each end of a transfer, in what it received and when
use Rattle.std.specs.Prelude.{◌≡◌, ◌<◌, ℕ, ◌+◌, Bool, true, false, List, None, [], ◌∷◌, ◌++◌, length, Some, map, filter}
use Rattle.std.specs.Option.{IfSome}
use Rattle.nb_retry.specs.declared.retry.Due.TheVariants.{Again, Over}
use Rattle.nb_retry.specs.Calls.{fires}
use Rattle.nb_retry.specs.Plans.{asked_at, first_from}
use Rattle.nb_terms.specs.declared.cause.Cause.{Cause}
use Rattle.nb_tftpmsg.specs.Packets.{error}
use Rattle.nb_tftp.specs.Ends.{ok_cause, refused_by, timed_out, broken_block, too_many_blocks}
use Rattle.nb_tftp.specs.Received.{Received, packet_in, is_block, block_bytes, is_grant, size_in, port_with, size_with}
use Rattle.nb_tftp.specs.Blocks.{blocks_with, count_with, whole_with, last_block}
use Rattle.nb_tftp.specs.Decisions.{is_block_size}
use Rattle.nb_tftp.specs.History.{came, ticked, Entry, got, Watch, watched}
use Rattle.nb_tftp.specs.Sentences.{IsUnansweredWith}

-- it comes from the server: from the port that is agreed, or from any where none is yet
abbrev pub IsFromServer : Bool → List Received → Received → Type 0
IsFromServer options before m = IfSome (port_with options before) (λ port. m.port ≡ port)

-- the datagram is an ERROR packet of this number, from the server
pub record RefusesWith (options : Bool) (before : List Received) (m : Received) (number : ℕ) : Type 0 where
  pub text : List ℕ
  pub packet : packet_in m ≡ Some (error number text)
  pub server : IsFromServer options before m

-- the datagram is the DATA that would be the next block, from the server, and has more bytes than was agreed
pub record IsTooLongWith (options : Bool) (before : List Received) (m : Received) : Type 0 where
  pub next : is_block (count_with options before + 1) m ≡ true
  pub long : size_with options before < length (block_bytes m)
  pub server : IsFromServer options before m

-- the datagram is the first to grant the options that were asked for, and its size is none to agree on
pub record IsUnfitWith (options : Bool) (before : List Received) (m : Received) : Type 0 where
  pub asked : options ≡ true
  pub first : port_with options before ≡ None
  pub grant : is_grant m ≡ true
  pub unfit : is_block_size (size_in m) ≡ false

-- each block that can have a number has come, and the last one is full, so more of the file is left
pub record IsFullWith (options : Bool) (received : List Received) : Type 0 where
  pub all : count_with options received ≡ 65535
  pub last : List ℕ
  pub is_last : last_block (blocks_with options received) ≡ Some last
  pub full : length last ≡ size_with options received

-- the same where options were asked for
abbrev pub Refuses : List Received → Received → ℕ → Type 0
Refuses before m number = RefusesWith true before m number

abbrev pub IsTooLongBlock : List Received → Received → Type 0
IsTooLongBlock before m = IsTooLongWith true before m

abbrev pub IsFull : List Received → Type 0
IsFull received = IsFullWith true received

abbrev pub IsUnfitGrant : List Received → Received → Type 0
IsUnfitGrant before m = IsUnfitWith true before m

-- the moments of a watch
abbrev pub moments : Watch → List ℕ
moments w = map (λ call. call.at) w.times

-- The tries have run out at a time. Since the last first sending, which was the first try, the timer fired
-- for the second to the sixth and then for the end, and not else: each time at the first moment at which
-- its delay since the firing before had passed.
pub record RanOut (w : Watch) (now : ℕ) : Type 0 where
  pub second : ℕ
  pub third : ℕ
  pub fourth : ℕ
  pub fifth : ℕ
  pub sixth : ℕ
  pub fired : filter (λ call. fires call.said) w.times
      ≡ asked_at second (Again 2) ∷ asked_at third (Again 3) ∷ asked_at fourth (Again 4)
      ∷ asked_at fifth (Again 5) ∷ asked_at sixth (Again 6) ∷ asked_at now Over ∷ []
  pub second_due : first_from (w.since + 250) (moments w) ≡ Some second
  pub third_due : first_from (second + 500) (moments w) ≡ Some third
  pub fourth_due : first_from (third + 1000) (moments w) ≡ Some fourth
  pub fifth_due : first_from (fourth + 2000) (moments w) ≡ Some fifth
  pub sixth_due : first_from (fifth + 4000) (moments w) ≡ Some sixth
  pub over_due : first_from (sixth + 8000) (moments w) ≡ Some now

-- Why a call told this end: each cause stands in what was received and when, and there is no other.
pub data EndingWith (options : Bool) (start : ℕ) (before : List Entry) (e : Entry) (cause : Cause) : Type 0 where
  -- the file has become whole
  by_whole_file : cause ≡ ok_cause → whole_with options (got (before ++ e ∷ [])) ≡ true → EndingWith options start before e cause
  -- this datagram refuses
  by_refusal : (m : Received) (now number : ℕ) → e.call ≡ came m now → cause ≡ refused_by m.rec number
      → RefusesWith options (got before) m number → EndingWith options start before e cause
  -- this datagram's block is too long
  by_long_block : (m : Received) (now : ℕ) → e.call ≡ came m now → cause ≡ broken_block m.rec
      → IsTooLongWith options (got before) m → EndingWith options start before e cause
  -- this datagram grants a size that is none to agree on
  by_unfit_size : (m : Received) (now : ℕ) → e.call ≡ came m now → cause ≡ broken_block m.rec
      → IsUnfitWith options (got before) m → EndingWith options start before e cause
  -- no number is left for the next block
  by_last_number : cause ≡ too_many_blocks → IsFullWith options (got (before ++ e ∷ [])) → EndingWith options start before e cause
  -- the tries have run out, and no datagram since the last first sending has answered it
  by_silence : (now : ℕ) → e.call ≡ ticked now → cause ≡ timed_out
      → RanOut (watched start (before ++ e ∷ [])) now → IsUnansweredWith options start before → EndingWith options start before e cause

-- where options were asked for
abbrev pub Ending : ℕ → List Entry → Entry → Cause → Type 0
Ending start before e cause = EndingWith true start before e cause
