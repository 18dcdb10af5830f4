-- Traces, our own: what an object was called with, what it answered and asked for, and the loads that came back to it.
use Rattle.std.specs.Prelude.{◌≡◌, ℕ, Bool, List, [], ◌∷◌, ◌++◌, ◌-◌, length, take, drop, Option, Some, None, nat_lt, if◌then◌else◌}
use Rattle.nb_terms.specs.declared.cause.Cause.{Cause}
use Rattle.nb_ledger.specs.declared.message.Msg.{Msg}
use Rattle.nb_effects.specs.declared.effects.Emit.{Emit}
use Rattle.nb_effects.specs.declared.effects.Few.{Few}
use Rattle.nb_effects.specs.declared.effects.Fx.{Fx}

-- a message, with its bytes in one list
pub record Said : Type 0 where
  pub tag : ℕ
  pub rec : ℕ
  pub a : ℕ
  pub b : ℕ
  pub bytes : List ℕ

-- what a message says: its bytes are the first and then the second
abbrev pub said : Msg → Said
said m = record { tag = m.tag; rec = m.rec; a = m.a; b = m.b; bytes = m.first.now ++ m.second.now }

-- An entry of a trace: a call by a message from below or above, by the closing of a port, or by time, with the
-- time, whether it was done (false where it ran out of memory), and its effects; or a load that came back.
pub data NodeEntry (N L : Type 0) : Type 0 where
  up : (slot : ℕ) (msg : Said) (now : ℕ) (done : Bool) (fx : Fx N L) → NodeEntry N L
  down : (msg : Said) (now : ℕ) (done : Bool) (fx : Fx N L) → NodeEntry N L
  closed : (slot : ℕ) (cause : Cause) (now : ℕ) (fx : Fx N L) → NodeEntry N L
  time : (now : ℕ) (done : Bool) (fx : Fx N L) → NodeEntry N L
  regain : (load : L) → NodeEntry N L

-- one or none, as a list
abbrev pub in_list : {L : Type 0} → Option L → List L
in_list None = []
in_list (Some l) = l ∷ []

-- the load of a message that an entry asks for
abbrev pub carried : {L : Type 0} → Option (Emit L) → List L
carried None = []
carried (Some e) = in_list e.load

-- the loads of two of them
abbrev pub loads : {L : Type 0} → Few (Emit L) → List L
loads f = carried f.first ++ carried f.second

-- the loads that an entry lends: those of its downs and then of its ups
abbrev pub lent : {N L : Type 0} → Fx N L → List L
lent fx = loads fx.downs ++ loads fx.ups

-- the loads that are lent, before an entry and after it
abbrev pub Owes1 : {N L : Type 0} → List L → NodeEntry N L → List L → Type 0
Owes1 w (up slot msg now done fx) v = v ≡ w ++ lent fx
Owes1 w (down msg now done fx) v = v ≡ w ++ lent fx
Owes1 w (closed slot cause now fx) v = v ≡ w ++ lent fx
Owes1 w (time now done fx) v = v ≡ w ++ lent fx
Owes1 {N} {L} w (regain load) v = (us : List L) × (vs : List L) × (w ≡ us ++ load ∷ vs) × (v ≡ us ++ vs)

-- and before and after a trace
abbrev pub Owes : {N L : Type 0} → List L → List (NodeEntry N L) → List L → Type 0
Owes w [] v = w ≡ v
Owes {N} {L} w (e ∷ t) v = (u : List L) × Owes1 w e u × Owes u t v

-- all loads that the trace lent came back
abbrev pub IsSettled : {N L : Type 0} → List (NodeEntry N L) → Type 0
IsSettled t = Owes [] t []

-- the trace lent this load and hasn't had it back
abbrev pub LacksLoad : {N L : Type 0} → List (NodeEntry N L) → L → Type 0
LacksLoad {N} {L} t load = (us : List L) × (vs : List L) × Owes [] t (us ++ load ∷ vs)

-- a message without its first bytes
abbrev pub said_behind : ℕ → Said → Said
said_behind took m = record m { bytes = drop took m.bytes }

-- what is left of a message of which so many bytes were taken
abbrev pub left : ℕ → Said → Option Said
left took m = if nat_lt took (length m.bytes) then Some (said_behind took m) else None

-- the message of an entry that has none
abbrev pub silence : Said
silence = record { tag = 0; rec = 0; a = 0; b = 0; bytes = [] }

-- bytes `from` to `to` of some bytes
abbrev pub bytes_between : List ℕ → ℕ → ℕ → List ℕ
bytes_between bytes from to = take (to - from) (drop from bytes)

-- what is known of a type of nodes: the number of each one's kind, its mark, which no entry changes, and the bytes of
-- a load
pub record Nature (N L : Type 0) : Type 0 where
  pub kind : N → ℕ
  pub mark : N → ℕ
  pub bytes : L → List ℕ

-- a load's bytes are its two parts
abbrev pub nature : {N L : Type 0} → (N → ℕ) → (N → ℕ) → (L → List ℕ) → (L → List ℕ) → Nature N L
nature kind mark first second = record { kind = kind; mark = mark; bytes = λ load. first load ++ second load }

-- the bytes of a message that an entry asks for: its load's, or without one some of those of its own message
abbrev pub carries : {N L : Type 0} → Nature N L → List ℕ → ℕ → ℕ → Option L → List ℕ
carries known bytes from to None = bytes_between bytes from to
carries known bytes from to (Some load) = known.bytes load
