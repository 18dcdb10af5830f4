-- What objects stand for, before a call and after it: our own.
use Rattle.nb_ledger.specs.Flat.{Heard}
use Rattle.std.specs.Prelude.{◌≡◌, ℕ, List, Option, Some}
use Rattle.nb_ledger.specs.declared.event.GraphEvent.{GraphEvent}
use Rattle.nb_effects.specs.Trace.{Nature, NodeEntry, IsSettled}
use Rattle.nb_effects.specs.Deeds.{Deed, Stage, events_of, told_of, trace_after}
use Rattle.nb_ledger.specs.declared.port.Port.{Port}
use Rattle.nb_effects.specs.Scene.{scene_of}
use Rattle.nb_effects.specs.Follows.{UsesStack}
use Rattle.nb_ledger.specs.Flat.{Given}
use Rattle.nb_effects.specs.Accounts.{Account, Balanced, Midway, account, rests}
use Rattle.nb_effects.specs.Whole.{Ages, Objects, Runs, node_at, node_of}
use Rattle.nb_effects.specs.Hosts.{Hosts, Suited}

-- the object x, if it lives, stands for this trace, and all loads that the trace lent came back
abbrev pub ObjectStands : {N L : Type 0} → (N → List (NodeEntry N L) → Type 0) → Objects N → ℕ → List (NodeEntry N L) → Type 0
ObjectStands {N} stands g x t = (n : N) → node_of g (record { 0 = x }) ≡ Some n → stands n t × IsSettled t

-- each object stands for what it stood for
abbrev pub KeepsTraces : {N L : Type 0} → (N → List (NodeEntry N L) → Type 0) → Objects N → Objects N → Type 0
KeepsTraces {N} {L} stands old new = (x : ℕ) (t : List (NodeEntry N L)) → ObjectStands stands old x t → ObjectStands stands new x t

-- What happened in a call: its events are these and are a run; each entry of an event is a call of its object's
-- node, with the rest of a message given again; and each object stands for its trace continued by its entries and
-- the loads that came back to it. One that was made starts from the empty trace. On each link one end took what the
-- other sent, or the first of it where the link is closed.
pub record Lived {N L : Type 0} (stands : N → List (NodeEntry N L) → Type 0) (known : Nature N L) (now : ℕ) (asked : List (Stage N L)) (old new : Objects N) (before after : Heard) : Type 0 where
  pub added : List GraphEvent
  pub runs : Runs old.book new.book before after added
  pub ages : Ages old.book new.book
  pub deeds : List (Deed N L)
  pub events : events_of deeds ≡ added
  pub tells : Given before after (told_of deeds)
  pub follows : UsesStack known now (scene_of old.book) asked deeds (scene_of new.book)
  pub keeps : (x : ℕ) (t : List (NodeEntry N L)) → ObjectStands stands old x t → ObjectStands stands new x (trace_after x t deeds)
  pub hosts : Hosts known stands (node_at old) deeds (node_at new)
  pub suits : (x : ℕ) (t : List (NodeEntry N L)) → ObjectStands stands old x t → Suited x t deeds
  pub midway : (p q : Port) (a b : Account) → Balanced old.book p q a b → Midway known p q (rests a) (rests b) deeds
  pub balances : (p q : Port) (a b : Account) → Balanced old.book p q a b → Balanced new.book p q (account known p (rests a) deeds) (account known q (rests b) deeds)
