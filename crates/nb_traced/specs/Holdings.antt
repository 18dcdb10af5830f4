-- Whose the objects of a graph are, where an output stands: those of each open that lives, and those that wait for their
-- open. For opens of any kind, and any number of them. Our own.
use Rattle.std.specs.Prelude.{◌≡◌, ℕ, ◌==◌, false, List, [], ◌∷◌, map, if◌then◌else◌}
use Rattle.nb_ledger.specs.declared.port.PortState.TheVariants.{Linked, Closed}
use Rattle.nb_ledger.specs.GraphRun.{GraphState}
use Rattle.nb_graph.specs.Whole.{port_at}

-- an object, by its serial and the number of its kind
pub record GraphObject : Type 0 where
  pub serial : ℕ
  pub kind : ℕ

-- the objects of an open that lives, the top one first; the last one talks to the network
pub record Kin : Type 0 where
  pub number : ℕ
  pub pieces : List GraphObject

-- The state to which a legal run has led; the objects of the opens that live; those that wait for their open, in the order in which
-- they were made; and the least number that the next open may have.
pub record Holdings : Type 0 where
  pub state : GraphState
  pub living : List Kin
  pub waits : List GraphObject
  pub begun : ℕ

-- no object was made yet
abbrev pub no_state : GraphState
no_state = record { made = 0; live = λ _. false; holds = λ _. 0; port = λ _ _. Closed; stack = [] }

abbrev pub no_holdings : Holdings
no_holdings = record { state = no_state; living = []; waits = []; begun = 0 }

abbrev pub serials : List GraphObject → List ℕ
serials ps = map (λ p. p.serial) ps

abbrev pub kinds : List GraphObject → List ℕ
kinds ps = map (λ p. p.kind) ps

-- the last of them, which talks to the network
abbrev pub lowest_of : List ℕ → ℕ
lowest_of [] = 0
lowest_of (x ∷ []) = x
lowest_of (x ∷ (y ∷ ys)) = lowest_of (y ∷ ys)

-- The objects of an open, by the kind in its OPEN, top first: of a file by TFTP a Fetch (1) and a Tftp (4), by HTTP a Fetch, an Http (2) and
-- a Tcp (3), of a drive a Disk (9), an Iscsi (8) and a Tcp, of a name a Resolver (5), of a lease a Dhcp (6), of an echo a Ping (7).
abbrev pub objects_for : ℕ → List ℕ
objects_for kind =
    if kind == 1 then 1 ∷ 4 ∷ []
    else if kind == 2 then 1 ∷ 2 ∷ 3 ∷ []
    else if kind == 3 then 9 ∷ 8 ∷ 3 ∷ []
    else if kind == 4 then 5 ∷ []
    else if kind == 5 then 6 ∷ []
    else if kind == 6 then 7 ∷ []
    else []

-- each is plugged to the next: its slot 1 to the slot 0 of that
abbrev pub AreJoined : GraphState → List ℕ → Type 0
AreJoined s [] = Unit {0}
AreJoined s (x ∷ []) = Unit {0}
AreJoined s (x ∷ (y ∷ ys)) = (s.port x 1 ≡ Linked (port_at y 0)) × (s.port y 0 ≡ Linked (port_at x 1)) × AreJoined s (y ∷ ys)
