-- What the two ends of a link sent and took, counted from its Plugged: our own.
use Rattle.std.specs.Prelude.{◌≡◌, ℕ, ◌≤◌, ◌==◌, ◌&&◌, Bool, true, false, List, [], ◌∷◌, ◌++◌, take, Option, Some, None, if◌then◌else◌}
use Rattle.nb_ledger.specs.declared.port.Port.{Port}
use Rattle.nb_ledger.specs.declared.port.PortState.TheVariants.{Linked}
use Rattle.nb_ledger.specs.declared.event.Way.{Way}
use Rattle.nb_ledger.specs.declared.event.Way.TheVariants as way
use Rattle.nb_ledger.specs.declared.event.GraphEvent.{GraphEvent}
use Rattle.nb_ledger.specs.declared.event.GraphEvent.TheVariants.{Made, Held, LetGo, Plugged, Entered, Left, Dropped, Closed, Unplugged, Freed}
use Rattle.nb_ledger.specs.Ledger.{Ledger, port, open_count}
use Rattle.nb_effects.specs.declared.effects.Emit.{Emit}
use Rattle.nb_effects.specs.declared.effects.Few.{Few}
use Rattle.nb_effects.specs.declared.effects.Fx.{Fx}
use Rattle.nb_effects.specs.Trace.{Nature, NodeEntry, carries, up, down, closed, time, regain}
use Rattle.nb_effects.specs.Deeds.{Deed, writes, begins, calls, turns}

-- those of one that leaves by slot k
abbrev pub emit_bytes : {N L : Type 0} → Nature N L → ℕ → List ℕ → Option (Emit L) → List ℕ
emit_bytes known k bytes None = []
emit_bytes known k bytes (Some e) = if k == e.slot then carries known bytes e.from e.to e.load else []

abbrev pub few_bytes : {N L : Type 0} → Nature N L → ℕ → List ℕ → Few (Emit L) → List ℕ
few_bytes known k bytes f = emit_bytes known k bytes f.first ++ emit_bytes known k bytes f.second

-- what the effects of an entry with these bytes send by slot k
abbrev pub fx_bytes : {N L : Type 0} → Nature N L → ℕ → List ℕ → Fx N L → List ℕ
fx_bytes known k bytes fx = few_bytes known k bytes fx.downs ++ few_bytes known k bytes fx.ups

-- What an entry sends by slot k. One that ran out of memory sends nothing.
abbrev pub sent_by_entry : {N L : Type 0} → Nature N L → ℕ → NodeEntry N L → List ℕ
sent_by_entry known k (up slot msg now done fx) = if done then fx_bytes known k msg.bytes fx else []
sent_by_entry known k (down msg now done fx) = if done then fx_bytes known k msg.bytes fx else []
sent_by_entry known k (closed slot cause now fx) = fx_bytes known k [] fx
sent_by_entry known k (time now done fx) = if done then fx_bytes known k [] fx else []
sent_by_entry known k (regain load) = []

-- What an entry takes by slot k. One from above takes its whole message.
abbrev pub taken_by : {N L : Type 0} → ℕ → NodeEntry N L → List ℕ
taken_by k (up slot msg now done fx) = if done && (k == slot) then take fx.took msg.bytes else []
taken_by k (down msg now done fx) = if done && (k == 0) then msg.bytes else []
taken_by k (closed slot cause now fx) = []
taken_by k (time now done fx) = []
taken_by k (regain load) = []

-- One end of a link since its Plugged: the other end, what was sent and taken by it, whether a message entered by it
-- since then, and what an entry sends by it that was called directly before.
pub record Account : Type 0 where
  pub peer : Option Port
  pub sent : List ℕ
  pub taken : List ℕ
  pub entered : Bool
  pub asked : List ℕ

-- that of a port that wasn't plugged yet
abbrev pub unplugged : Account
unplugged = record { peer = None; sent = []; taken = []; entered = false; asked = [] }

-- p is q
abbrev pub is_same_port : Port → Port → Bool
is_same_port p q = (p.obj.0 == q.obj.0) && (p.slot == q.slot)

-- nothing was asked for directly before
abbrev pub rests : Account → Account
rests a = record a { asked = [] }

-- a link begins: what the entry that asked for it sends by its upper end counts
abbrev pub joins : Port → List ℕ → Account
joins q sent = record { peer = Some q; sent = sent; taken = []; entered = false; asked = [] }

-- a message enters by a port
abbrev pub enters : Way → Account → Account
enters way.Up a = record a { entered = true; asked = [] }
enters way.Down a = record a { entered = true; asked = [] }
enters way.Close a = rests a
enters way.Time a = rests a

abbrev pub after_note : Port → Account → GraphEvent → Account
after_note p a (Made x kind) = a
after_note p a (Held x) = rests a
after_note p a (LetGo x) = rests a
after_note p a (Plugged u l) = if is_same_port p u then joins l a.asked else (if is_same_port p l then joins u [] else rests a)
after_note p a (Entered q by) = if is_same_port p q then enters by a else rests a
after_note p a (Left q) = rests a
after_note p a (Dropped q) = rests a
after_note p a (Closed q cause) = rests a
after_note p a (Unplugged u l) = rests a
after_note p a (Freed x) = rests a

-- A call of its object. What it takes of a message that had entered before the link was plugged doesn't count.
abbrev pub account_after_call : {N L : Type 0} → Nature N L → Port → Account → NodeEntry N L → Account
account_after_call known p a e = record a { sent = a.sent ++ sent_by_entry known p.slot e; taken = a.taken ++ (if a.entered then taken_by p.slot e else []); asked = sent_by_entry known p.slot e }

-- the account of the port p, after what happens
abbrev pub account : {N L : Type 0} → Nature N L → Port → Account → List (Deed N L) → Account
account known p a [] = a
account known p a (writes e ∷ ds) = account known p (after_note p a e) ds
account known p a (begins x n ∷ ds) = account known p a ds
account known p a (turns u ∷ ds) = account known p a ds
account known p a (calls y e ∷ ds) = account known p (if p.obj.0 == y then account_after_call known p a e else rests a) ds

-- where p was plugged to q, q took the first of what p sent
abbrev pub Covers : Port → Account → Account → Type 0
Covers q a b = a.peer ≡ Some q → (rest : List ℕ) × (a.sent ≡ b.taken ++ rest)

-- in the middle of a call too, before and after each deed
abbrev pub Midway : {N L : Type 0} → Nature N L → Port → Port → Account → Account → List (Deed N L) → Type 0
Midway known p q a b [] = Covers q a b
Midway known p q a b (writes e ∷ ds) = Covers q a b × Midway known p q (after_note p a e) (after_note q b e) ds
Midway known p q a b (begins x n ∷ ds) = Midway known p q a b ds
Midway known p q a b (turns u ∷ ds) = Midway known p q a b ds
Midway known p q a b (calls y e ∷ ds) = Covers q a b × Midway known p q (if p.obj.0 == y then account_after_call known p a e else rests a) (if q.obj.0 == y then account_after_call known q b e else rests b) ds

-- Two ends of one link: p sent s, and q took t. While the link is open they are linked, and `due` is what p sent and
-- q has still to take. Where it is closed, q took the first of what p sent.
pub data JoinedEnds (l : Ledger) (p q : Port) (s t due : List ℕ) : Type 0 where
  joined : p.obj.0 ≤ l.made → q.obj.0 ≤ l.made → port l p.obj.0 p.slot ≡ Linked q → port l q.obj.0 q.slot ≡ Linked p → s ≡ t ++ due → JoinedEnds l p q s t due
  parted : p.obj.0 ≤ l.made → q.obj.0 ≤ l.made → open_count (port l p.obj.0 p.slot) ≡ 0 → open_count (port l q.obj.0 q.slot) ≡ 0 → (rest : List ℕ) → s ≡ t ++ rest → JoinedEnds l p q s t due

-- where p was plugged to q, q took all that p sent, or the first of it where the link is closed
abbrev pub Balanced : Ledger → Port → Port → Account → Account → Type 0
Balanced l p q a b = a.peer ≡ Some q → JoinedEnds l p q a.sent b.taken []

-- the accounts stay as balanced as they were
abbrev pub KeepsBalance : Ledger → Ledger → Type 0
KeepsBalance old new = (p q : Port) (a b : Account) → Balanced old p q a b → Balanced new p q a b

-- two ends are joined, and their accounts begin
abbrev pub PlugsBalance : Ledger → Ledger → Port → Port → Type 0
PlugsBalance old new upper lower = (p q : Port) (a b : Account) → Balanced old p q a b
    → Balanced new p q (after_note p (rests a) (Plugged upper lower)) (after_note q (rests b) (Plugged upper lower))
