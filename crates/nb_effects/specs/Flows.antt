-- How bytes that were sent and not taken yet are brought to the other end of their link, call by call.
use Rattle.std.specs.Prelude.{◌≡◌, ℕ, ◌≤◌, ◌⊎◌, ◌==◌, Bool, true, false, List, [], ◌++◌, take, drop, Option, Some, None, if◌then◌else◌}
use Rattle.nb_ledger.specs.declared.port.Port.{Port}
use Rattle.nb_ledger.specs.declared.port.PortState.{PortState}
use Rattle.nb_ledger.specs.declared.port.PortState.TheVariants.{Linked}
use Rattle.nb_ledger.specs.Ledger.{Ledger, port, busy, open_count}
use Rattle.nb_effects.specs.declared.effects.Emit.{Emit}
use Rattle.nb_effects.specs.declared.effects.Fx.{Fx}
use Rattle.nb_effects.specs.Whole.{port_at}
use Rattle.nb_effects.specs.Accounts.{Account, fx_bytes}
use Rattle.nb_effects.specs.Trace.{Nature, carries}

-- y is reached from an object by links, the one of the port p left out
pub data Reaches (f : ℕ → ℕ → PortState) (p : Port) (y : ℕ) : ℕ → Type 0 where
  here : (x : ℕ) → x ≡ y → Reaches f p y x
  over : (x k : ℕ) (q : Port) → f x k ≡ Linked q → (port_at x k ≡ p → ⊥) → (q ≡ p → ⊥) → Reaches f p y q.obj.0 → Reaches f p y x

-- x may be entered while w is pending at p: p faces up, or nothing is pending, or p's object isn't reached
abbrev pub IsClear : Ledger → Port → ℕ → List ℕ → Type 0
IsClear l p x w = (p.slot ≡ 0) ⊎ ((w ≡ []) ⊎ (Reaches (port l) p p.obj.0 x → ⊥))

abbrev pub IsShut : Ledger → Port → Type 0
IsShut l p = open_count (port l p.obj.0 p.slot) ≡ 0

-- what is pending stays
abbrev pub Still : Port → Port → Account → List ℕ → List ℕ → Type 0
Still p q b w v = w ≡ v

-- ports of x are closed
abbrev pub Closing : Ledger → ℕ → Port → Port → Account → List ℕ → List ℕ → Type 0
Closing l x p q b w v = IsShut l p ⊎ ((w ≡ v) × ((p.obj.0 ≡ x) ⊎ IsClear l p x w))

-- all ports of x are closed
abbrev pub Failing : Ledger → ℕ → Port → Port → Account → List ℕ → List ℕ → Type 0
Failing l x p q b w v = IsShut l p ⊎ (((w ≡ v) ⊎ ((p.obj.0 ≡ x) ⊎ (q.obj.0 ≡ x))) × ((p.obj.0 ≡ x) ⊎ IsClear l p x w))

-- x's downs, m by each slot, go, and ports of x are closed
abbrev pub Downs : Ledger → ℕ → (ℕ → List ℕ) → Port → Port → Account → List ℕ → List ℕ → Type 0
Downs l x m p q b w v = IsShut l p ⊎ (((p.obj.0 ≡ x) × (1 ≤ p.slot) × (w ≡ m p.slot) × (v ≡ [])) ⊎ ((p.obj.0 ≡ x → p.slot ≡ 0) × (w ≡ v) × IsClear l p x w))

-- m leaves by the port `at`, downwards
abbrev pub Passing : Ledger → Port → List ℕ → Port → Port → Account → List ℕ → List ℕ → Type 0
Passing l at m p q b w v = IsShut l p ⊎ (((p ≡ at) × (w ≡ m ++ v)) ⊎ ((p ≡ at → ⊥) × (w ≡ v) × IsClear l p at.obj.0 w))

-- one of x's downs goes, if there is one
abbrev pub Emitting : {N L : Type 0} → Ledger → ℕ → Nature N L → List ℕ → Option (Emit L) → Port → Port → Account → List ℕ → List ℕ → Type 0
Emitting l x known bytes None p q b w v = IsShut l p ⊎ (w ≡ v)
Emitting l x known bytes (Some e) p q b w v = Passing l (port_at x e.slot) (carries known bytes e.from e.to e.load) p q b w v

-- nothing is pending
abbrev pub Empty : Port → Port → Account → List ℕ → List ℕ → Type 0
Empty p q b w v = (w ≡ []) × (v ≡ [])

-- m enters by the port `at` from above
abbrev pub Giving : Ledger → Port → List ℕ → Port → Port → Account → List ℕ → List ℕ → Type 0
Giving l at m p q b w v = IsShut l p ⊎ (IsClear l p at.obj.0 w × (((q ≡ at) × (w ≡ m ++ v)) ⊎ ((q ≡ at → ⊥) × (w ≡ v))))

-- an entry of x runs out of memory, or its downs go; before it ran out nothing of m was taken
abbrev pub Following : Ledger → Port → List ℕ → (ℕ → List ℕ) → Port → Port → Account → List ℕ → List ℕ → Type 0
Following l at m sent p q b w v =
    IsShut l p ⊎ (((p.obj.0 ≡ at.obj.0) × (1 ≤ p.slot) × (w ≡ sent p.slot) × (v ≡ [])) ⊎ ((p.obj.0 ≡ at.obj.0 → p.slot ≡ 0) × IsClear l p at.obj.0 w × (((q ≡ at) × (w ≡ m ++ v)) ⊎ ((q ≡ at → ⊥) × (w ≡ v)))))

-- what a call of the node of y sends and takes by the ends of a link
abbrev pub own : ℕ → (ℕ → List ℕ) → Port → List ℕ
own y sent p = if p.obj.0 == y then sent p.slot else []

abbrev pub counted_taken : ℕ → (ℕ → List ℕ) → Port → Account → List ℕ
counted_taken y taken q b = if q.obj.0 == y then (if b.entered then taken q.slot else []) else []

-- the node of y is called, and what it sends and takes changes what is pending
abbrev pub Asking : Ledger → ℕ → (ℕ → List ℕ) → (ℕ → List ℕ) → Port → Port → Account → List ℕ → List ℕ → Type 0
Asking l y sent taken p q b w v = (w ++ own y sent p ≡ counted_taken y taken q b ++ v) × (IsShut l q → counted_taken y taken q b ≡ [])

-- nothing by no slot
abbrev pub by_no_slot : ℕ → List ℕ
by_no_slot k = []

-- what an entry sends, and takes by its slot, if it didn't run out of memory
abbrev pub asked_sent : {N L : Type 0} → Nature N L → List ℕ → Bool → Fx N L → ℕ → List ℕ
asked_sent known bytes true fx k = fx_bytes known k bytes fx
asked_sent known bytes false fx k = []

abbrev pub asked_taken : {N L : Type 0} → ℕ → List ℕ → Bool → Fx N L → ℕ → List ℕ
asked_taken slot bytes true fx k = if k == slot then take fx.took bytes else []
asked_taken slot bytes false fx k = []

abbrev pub asked_whole : List ℕ → Bool → ℕ → List ℕ
asked_whole bytes true k = if k == 0 then bytes else []
asked_whole bytes false k = []

-- what an entry from above has left
abbrev pub asked_left : List ℕ → Bool → List ℕ
asked_left bytes true = []
asked_left bytes false = bytes

-- and one from below
abbrev pub asked_behind : {N L : Type 0} → List ℕ → Bool → Fx N L → List ℕ
asked_behind bytes true fx = drop fx.took bytes
asked_behind bytes false fx = bytes

-- nothing is pending at a port that faces down, nor at one of an object of which no entry runs
abbrev pub IsQuietAt : Ledger → Port → List ℕ → Type 0
IsQuietAt l p w = (p.slot ≡ 0 → busy l p.obj.0 ≡ false → w ≡ []) × (1 ≤ p.slot → w ≡ [])

-- a call that may make objects keeps what is pending
abbrev pub Keeping : Ledger → Port → Port → Account → List ℕ → List ℕ → Type 0
Keeping l p q b w v = IsQuietAt l p w × (w ≡ v)

-- m enters by the port `at` from below
abbrev pub Rising : Ledger → Port → List ℕ → Port → Port → Account → List ℕ → List ℕ → Type 0
Rising l at m p q b w v = IsQuietAt l p w × (((q ≡ at) × (w ≡ m ++ v)) ⊎ ((q ≡ at → ⊥) × (w ≡ v)))

-- m, or what is left of it, is given to the node of the port `at`; its object has sent `sent` before, by each slot
abbrev pub Delivering : Ledger → Port → List ℕ → (ℕ → List ℕ) → Port → Port → Account → List ℕ → List ℕ → Type 0
Delivering l at m sent p q b w v =
    ((p.obj.0 ≡ at.obj.0) × (w ≡ sent p.slot) × (v ≡ []))
    ⊎ ((p.obj.0 ≡ at.obj.0 → ⊥) × IsQuietAt l p w × (((q ≡ at) × (b.entered ≡ true) × (w ≡ m ++ v)) ⊎ (((q ≡ at) × (b.entered ≡ true) → ⊥) × (w ≡ v))))

-- the effects of x go
abbrev pub DoesEffects : Ledger → ℕ → (ℕ → List ℕ) → Port → Port → Account → List ℕ → List ℕ → Type 0
DoesEffects l x sent p q b w v = ((p.obj.0 ≡ x) × (w ≡ sent p.slot) × (v ≡ [])) ⊎ ((p.obj.0 ≡ x → ⊥) × IsQuietAt l p w × (w ≡ v))

-- m leaves by the port `at`, upwards
abbrev pub Leaves : Ledger → Port → List ℕ → Port → Port → Account → List ℕ → List ℕ → Type 0
Leaves l at m p q b w v = ((p ≡ at) × (busy l p.obj.0 ≡ true) × (w ≡ m ++ v)) ⊎ ((p ≡ at → ⊥) × IsQuietAt l p w × (w ≡ v))

-- what x asked to be made is made
abbrev pub Making : Ledger → ℕ → Port → Port → Account → List ℕ → List ℕ → Type 0
Making l x p q b w v = (w ≡ v) × ((p.obj.0 ≡ x) ⊎ IsQuietAt l p w)
