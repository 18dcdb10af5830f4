-- What a call leaves of links, and of the bytes on them.
use Rattle.nb_effects.specs.Trace.{Nature}
use Rattle.std.specs.Prelude.{◌≡◌, ℕ, ◌≤◌, ◌==◌, true, false, List, [], Some, if◌then◌else◌}
use Rattle.nb_ledger.specs.declared.port.Port.{Port}
use Rattle.nb_ledger.specs.declared.port.PortState.TheVariants.{Linked}
use Rattle.nb_ledger.specs.Ledger.{Ledger, port, busy, open_count}
use Rattle.nb_effects.specs.Deeds.{Deed}
use Rattle.nb_effects.specs.Accounts.{Account, Midway, account, JoinedEnds}

-- links stay, and what is closed stays closed
pub record Mild (old new : Ledger) : Type 0 where
  pub same_made : new.made ≡ old.made
  pub links : (x k : ℕ) (q : Port) → port new x k ≡ Linked q → port old x k ≡ Linked q
  pub keeps : (x k : ℕ) (q : Port) → port old x k ≡ Linked q → port new x k ≡ Linked q
  pub shuts : (x k : ℕ) → open_count (port old x k) ≡ 0 → open_count (port new x k) ≡ 0

-- A calm call: links only go, and what was sent over one is pending or taken.
pub record Calms {N L : Type 0} (known : Nature N L) (old new : Ledger) (flow : Port → Port → Account → List ℕ → List ℕ → Type 0) (ds : List (Deed N L)) : Type 0 where
  pub same_made : new.made ≡ old.made
  pub links : (x k : ℕ) (q : Port) → port new x k ≡ Linked q → port old x k ≡ Linked q
  pub shuts : (x k : ℕ) → open_count (port old x k) ≡ 0 → open_count (port new x k) ≡ 0
  pub peers : (p : Port) (a : Account) → (account known p a ds).peer ≡ a.peer
  pub enters : (q : Port) (b : Account) → b.entered ≡ true → (account known q b ds).entered ≡ true
  pub quiet : (q : Port) (b : Account) → 1 ≤ q.slot → b.entered ≡ false → (account known q b ds).entered ≡ false
  pub joins : (p q : Port) (a b : Account) (w v : List ℕ) → flow p q b w v → JoinedEnds old p q a.sent b.taken w → JoinedEnds new p q (account known p a ds).sent (account known q b ds).taken v
  pub midway : (p q : Port) (a b : Account) (w v : List ℕ) → flow p q b w v → JoinedEnds old p q a.sent b.taken w → Midway known p q a b ds
  pub apart : (p q : Port) (a b : Account) → (a.peer ≡ Some q → ⊥) → Midway known p q a b ds

-- A call that may make objects: so for each link that there was; and over each new one what was sent is taken, but
-- for `due`.
pub record Livens {N L : Type 0} (known : Nature N L) (old new : Ledger) (ready : Port → Account → Type 0) (due : Port → Account → List ℕ) (flow : Port → Port → Account → List ℕ → List ℕ → Type 0) (ds : List (Deed N L)) : Type 0 where
  pub quiet : (q : Port) (b : Account) → 1 ≤ q.slot → busy old q.obj.0 ≡ true → b.entered ≡ false → (account known q b ds).entered ≡ false
  pub joins : (p q : Port) (a b : Account) (w v : List ℕ) → flow p q b w v → JoinedEnds old p q a.sent b.taken w → JoinedEnds new p q (account known p a ds).sent (account known q b ds).taken v × (b.entered ≡ true → (account known q b ds).entered ≡ true)
  pub midway : (p q : Port) (a b : Account) (w v : List ℕ) → flow p q b w v → JoinedEnds old p q a.sent b.taken w → Midway known p q a b ds
  pub newly : (p q : Port) (a b : Account) → ready p a → (a.peer ≡ Some q → ⊥) → Midway known p q a b ds
  pub news : (p q : Port) (a b : Account) → ready p a → (a.peer ≡ Some q → ⊥) → (account known p a ds).peer ≡ Some q → JoinedEnds new p q (account known p a ds).sent (account known q b ds).taken (due p a) × (p.slot ≡ 0 → busy old p.obj.0 ≡ false) × (1 ≤ q.slot → busy old q.obj.0 ≡ true → (account known q b ds).entered ≡ false)

-- nothing has to be known of what was asked for
abbrev pub always : Port → Account → Type 0
always p a = Unit {0}

abbrev pub none_due : Port → Account → List ℕ
none_due p a = []

-- x asked for this directly before
abbrev pub HasAsked : ℕ → (ℕ → List ℕ) → Port → Account → Type 0
HasAsked x sent p a = p.obj.0 ≡ x → a.asked ≡ sent p.slot

abbrev pub asked_due : ℕ → Port → Account → List ℕ
asked_due x p a = if p.obj.0 == x then a.asked else []

-- what happened asked for this directly before
abbrev pub Asks : {N L : Type 0} → Nature N L → ℕ → (ℕ → List ℕ) → List (Deed N L) → Type 0
Asks known x sent ds = (p : Port) (a : Account) → p.obj.0 ≡ x → (account known p a ds).asked ≡ sent p.slot
