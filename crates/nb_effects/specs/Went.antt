-- What happened in some calls, one after another: our own.
use Rattle.nb_ledger.specs.Flat.{Heard}
use Rattle.std.specs.Prelude.{◌≡◌, ℕ, List, [], ◌∷◌, ◌++◌, Option}
use Rattle.nb_ledger.specs.declared.port.Port.{Port}
use Rattle.nb_ledger.specs.declared.event.GraphEvent.{GraphEvent}
use Rattle.nb_effects.specs.Trace.{Nature, NodeEntry}
use Rattle.nb_effects.specs.Deeds.{Deed, Stage, events_of, told_of, trace_after}
use Rattle.nb_effects.specs.Scene.{Scene, scene_of}
use Rattle.nb_effects.specs.Follows.{UsesStack}
use Rattle.nb_ledger.specs.Flat.{Given}
use Rattle.nb_effects.specs.Accounts.{Account, Balanced, Midway, account, rests}
use Rattle.nb_effects.specs.Whole.{Ages, Objects, Runs, node_at}
use Rattle.nb_effects.specs.Hosts.{Hosts, Suited}
use Rattle.nb_effects.specs.Lived.{ObjectStands}

-- a call: its time, and what it asks for
pub record GraphCall (N L : Type 0) : Type 0 where
  pub now : ℕ
  pub asks : List (Stage N L)

-- what happens in each call uses up what it asks for
abbrev pub Each : {N L : Type 0} → Nature N L → Scene → List (GraphCall N L) → List (List (Deed N L)) → Scene → Type 0
Each known s [] [] t = s ≡ t
Each known s [] (ds ∷ dss) t = ⊥
Each known s (c ∷ cs) [] t = ⊥
Each {N} {L} known s (c ∷ cs) (ds ∷ dss) t = (mid : Scene) × UsesStack known c.now s c.asks ds mid × Each known mid cs dss t

-- of all calls
abbrev pub all_of : {N L : Type 0} → List (List (Deed N L)) → List (Deed N L)
all_of [] = []
all_of (ds ∷ dss) = ds ++ all_of dss

-- an account over calls
abbrev pub accounts : {N L : Type 0} → Nature N L → Port → Account → List (List (Deed N L)) → Account
accounts known p a [] = a
accounts known p a (ds ∷ dss) = accounts known p (account known p (rests a) ds) dss

-- at each moment of each call
abbrev pub Midways : {N L : Type 0} → Nature N L → Port → Port → Account → Account → List (List (Deed N L)) → Type 0
Midways known p q a b [] = Unit {0}
Midways known p q a b (ds ∷ dss) = Midway known p q (rests a) (rests b) ds × Midways known p q (account known p (rests a) ds) (account known q (rests b) ds) dss

-- What happened in these calls, one relation for one call and for many. The events were given and are a run. The
-- deeds of each call use up what it asks for, and the outside was told of them. Each object stands for its trace
-- continued by its entries and the loads that came back to it; one that was made starts from the empty trace. Each
-- entry, also of an object that is freed within the call, is one that the object's own node answered, and the node of
-- a made object is the one that was asked for. On each link one end took what the other sent, or the first of it where the link is closed; at each moment of a call
-- the first of it. Ranks stay.
pub record Went {N L : Type 0} (stands : N → List (NodeEntry N L) → Type 0) (known : Nature N L) (calls : List (GraphCall N L)) (old new : Objects N) (before after : Heard) : Type 0 where
  pub added : List GraphEvent
  pub runs : Runs old.book new.book before after added
  pub ages : Ages old.book new.book
  pub deeds : List (List (Deed N L))
  pub events : events_of (all_of deeds) ≡ added
  pub tells : Given before after (told_of (all_of deeds))
  pub each : Each known (scene_of old.book) calls deeds (scene_of new.book)
  pub keeps : (x : ℕ) (t : List (NodeEntry N L)) → ObjectStands stands old x t → ObjectStands stands new x (trace_after x t (all_of deeds))
  pub hosts : Hosts known stands (node_at old) (all_of deeds) (node_at new)
  pub suits : (x : ℕ) (t : List (NodeEntry N L)) → ObjectStands stands old x t → Suited x t (all_of deeds)
  pub midway : (p q : Port) (a b : Account) → Balanced old.book p q a b → Midways known p q a b deeds
  pub balances : (p q : Port) (a b : Account) → Balanced old.book p q a b → Balanced new.book p q (accounts known p a deeds) (accounts known q b deeds)

-- what happened in one call
abbrev pub WentOne : {N L : Type 0} → (N → List (NodeEntry N L) → Type 0) → Nature N L → ℕ → List (Stage N L) → Objects N → Objects N → Heard → Heard → Type 0
WentOne stands known now asks old new before after = Went stands known (record { now = now; asks = asks } ∷ []) old new before after
