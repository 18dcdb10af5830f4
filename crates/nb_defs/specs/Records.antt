-- The records of an input and of an output, and the one spelling of each: a length of four bytes,
-- which counts what follows it, a type of one byte, and the body. Numbers are big-endian.
use Rattle.std.specs.Prelude.{◌≡◌, ℕ, ◌+◌, ◌<◌, ◌≤◌, ◌^◌, List, [], ◌∷◌, ◌++◌, length, Bool, if◌then◌else◌}
use Rattle.std.specs.List.{flat_map}
use Rattle.std.specs.Int.{w16, w32, w64, to_be_bytes}
use Rattle.nb_terms.specs.declared.cause.Cause.{Cause}
use Rattle.nb_terms.specs.declared.event.Event.{Event}

-- what a START record says
pub record Start : Type 0 where
  pub mac : List ℕ
  pub uuid : List ℕ
  pub key : List ℕ
  pub arch : ℕ
  pub w : ℕ
  pub ip : ℕ
  pub mask : ℕ
  pub gateway : ℕ
  pub dns : ℕ
  pub script : List ℕ

-- a record of the input
pub data In : Type 0 where
  -- the first record: who the client is, and its first script
  start : Start → In
  -- an Ethernet frame arrives, without its check sequence
  frame : (bytes : List ℕ) → In
  -- so many milliseconds pass
  tick : (ms : ℕ) → In
  -- the power is switched off
  off : In

-- what a START may say
pub record IsStart (s : Start) : Type 0 where
  pub mac_len : length s.mac ≡ 6
  pub uuid_len : length s.uuid ≡ 16
  pub key_len : length s.key ≡ 32
  pub arch_fits : s.arch < 2 ^ 16
  pub w_fits : s.w < 2 ^ 14
  pub ip_fits : s.ip < 2 ^ 32
  pub mask_fits : s.mask < 2 ^ 32
  pub gateway_fits : s.gateway < 2 ^ 32
  pub dns_fits : s.dns < 2 ^ 32
  pub script_fits : length s.script ≤ 130996

-- a frame has 14 to 1,522 bytes
pub record IsFrameRecord (bytes : List ℕ) : Type 0 where
  pub least : 14 ≤ length bytes
  pub most : length bytes ≤ 1522

-- a tick has 1 to 60,000 milliseconds
pub record IsTick (ms : ℕ) : Type 0 where
  pub least : 1 ≤ ms
  pub most : ms ≤ 60000

-- what has a spelling
abbrev pub IsIn : In → Type 0
IsIn (start s) = IsStart s
IsIn (frame bytes) = IsFrameRecord bytes
IsIn (tick ms) = IsTick ms
IsIn off = Unit {0}

-- a record: the length of type and body, the type, the body
unfoldable pub record_text : ℕ → List ℕ → List ℕ
record_text kind body = to_be_bytes w32 (length body + 1) ++ (kind ∷ body)

-- START's body, from its version 1 on
unfoldable pub start_body : Start → List ℕ
start_body s = (1 ∷ s.mac) ++ s.uuid ++ s.key ++ to_be_bytes w16 s.arch ++ to_be_bytes w16 s.w
    ++ to_be_bytes w32 s.ip ++ to_be_bytes w32 s.mask ++ to_be_bytes w32 s.gateway ++ to_be_bytes w32 s.dns ++ s.script

-- the one spelling of an input record
abbrev pub in_text : In → List ℕ
in_text (start s) = record_text 1 (start_body s)
in_text (frame bytes) = record_text 2 bytes
in_text (tick ms) = record_text 3 (to_be_bytes w16 ms)
in_text off = record_text 4 []

-- the spelling of a list of them
abbrev pub in_texts : List In → List ℕ
in_texts ins = flat_map in_text ins

-- bytes that are no whole record yet, and can become one
pub record IsPartial (bytes : List ℕ) : Type 0 where
  pub becomes : In
  pub valid : IsIn becomes
  pub more : List ℕ
  pub whole : bytes ++ more ≡ in_text becomes
  pub some : 0 < length more

-- bytes with which no record begins, whatever follows
abbrev pub IsBroken : List ℕ → Type 0
IsBroken bytes = (r : In) (more rest : List ℕ) → IsIn r → bytes ++ more ≡ in_text r ++ rest → ⊥

-- a record of the output
pub data Out : Type 0 where
  -- the output of the input record of this number begins
  step : (number : ℕ) → Out
  -- a frame is sent
  sent : (bytes : List ℕ) → Out
  -- what is printed
  text : (bytes : List ℕ) → Out
  -- a command begins: the depth of its script, its line from 1, its place in the list from 0, its words
  command : (depth line place : ℕ) (expanded : Bool) (words : List (List ℕ)) → Out
  -- the command's result
  result : (cause : Cause) → Out
  -- a script of this depth is entered (what is 0) or left with a cause (1)
  script : (what depth : ℕ) (cause : Cause) → Out
  -- an open begins: its number from 0, its kind, the server's address and port, the client's port, and what is asked for
  opened : (number kind server port own : ℕ) (target : List ℕ) → Out
  -- the open tries for this time, from 1
  tried : (number count : ℕ) → Out
  -- the open has come to this place: for TFTP the last block that was taken
  advanced : (number place : ℕ) → Out
  -- the open has ended with this cause
  ended : (number : ℕ) (cause : Cause) → Out
  -- what happens to an object of the graph
  graph : (happens : Event) → Out
  -- a piece of a part of the hand-off, which begins at an offset
  part : (kind index offset : ℕ) (bytes : List ℕ) → Out
  -- the run's status, the last record
  done : (status : ℕ) → Out

abbrev pub enter : ℕ → Out
enter depth = script 0 depth (record { code = 0; a = 0; b = 0 })

abbrev pub leave : ℕ → Cause → Out
leave depth cause = script 1 depth cause

-- a cause: code, and the two numbers
unfoldable pub cause_text : Cause → List ℕ
cause_text c = c.code ∷ (to_be_bytes w32 c.a ++ to_be_bytes w32 c.b)

-- an event of the graph: its number, the object and its slot, the other object and its slot, and a cause
unfoldable pub event_text : Event → List ℕ
event_text e =
    (e.event ∷ []) ++ to_be_bytes w64 e.object ++ (e.slot ∷ []) ++ to_be_bytes w64 e.other ++ (e.other_slot ∷ []) ++ cause_text e.cause

-- a word of a command: two bytes of length, and its bytes
unfoldable pub word_text : List ℕ → List ℕ
word_text w = to_be_bytes w16 (length w) ++ w

-- 1 where the words were expanded, 0 where they stand as written
abbrev pub flag_of : Bool → ℕ
flag_of b = if b then 1 else 0

-- the one spelling of an output record
unfoldable pub out_text : Out → List ℕ
out_text (step number) = record_text 0x81 (to_be_bytes w32 number)
out_text (sent bytes) = record_text 0x82 bytes
out_text (text bytes) = record_text 0x83 bytes
out_text (command depth line place expanded words) =
    record_text 0x84 ((depth ∷ []) ++ to_be_bytes w32 line ++ (place ∷ flag_of expanded ∷ length words ∷ []) ++ flat_map word_text words)
out_text (result cause) = record_text 0x85 (cause_text cause)
out_text (script what depth cause) = record_text 0x86 (what ∷ depth ∷ cause_text cause)
out_text (opened number kind server port own target) =
    record_text 0x87 (to_be_bytes w16 number ++ (kind ∷ []) ++ to_be_bytes w32 server ++ to_be_bytes w16 port ++ to_be_bytes w16 own
    ++ to_be_bytes w16 (length target) ++ target)
out_text (tried number count) = record_text 0x88 (to_be_bytes w16 number ++ (count ∷ []))
out_text (advanced number place) = record_text 0x89 (to_be_bytes w16 number ++ to_be_bytes w32 place)
out_text (ended number cause) = record_text 0x8a (to_be_bytes w16 number ++ cause_text cause)
out_text (graph happens) = record_text 0x8b (event_text happens)
out_text (part kind index offset bytes) =
    record_text 0x8c ((kind ∷ []) ++ to_be_bytes w16 index ++ to_be_bytes w32 offset ++ bytes)
out_text (done status) = record_text 0x8d (status ∷ [])

-- the spelling of a list of them
abbrev pub out_texts : List Out → List ℕ
out_texts outs = flat_map out_text outs

-- what may be put into an output: no body is longer than its record allows
abbrev pub IsOut : Out → Type 0
IsOut (step number) = Unit {0}
IsOut (sent bytes) = IsFrameRecord bytes
IsOut (text bytes) = length bytes ≤ 4160
IsOut (command depth line place expanded words) = (length words < 256) × (length (flat_map word_text words) ≤ 131063)
IsOut (result cause) = Unit {0}
IsOut (script what depth cause) = Unit {0}
IsOut (opened number kind server port own target) = length target ≤ 65535
IsOut (tried number count) = Unit {0}
IsOut (advanced number place) = Unit {0}
IsOut (ended number cause) = Unit {0}
IsOut (graph happens) = Unit {0}
IsOut (part kind index offset bytes) = length bytes ≤ 65536
IsOut (done status) = Unit {0}
