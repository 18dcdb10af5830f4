-- What becomes of an open's objects after a call: they are let go where it has ended, or where a message found no route, at which the user
-- closes them.
use Rattle.std.specs.Prelude.{◌≡◌, true, false, Option, Some, None}
use Rattle.nb_terms.specs.declared.cause.Cause.{Cause}
use Rattle.nb_ledger.specs.Flat.{Heard}
use Rattle.nb_graph.specs.Whole.{Objects}
use Rattle.nb_nodes.specs.declared.obj.Obj.{Obj}
use Rattle.nb_machine.specs.CommandRecords.{no_route}
use Rattle.nb_teller.specs.declared.teller.Teller.{Teller}
use Rattle.nb_teller.specs.Spelling.{HasSpelled, Spelling, heard_by}
use Rattle.nb_open.specs.declared.objects.OpenObjects.{OpenObjects}
use Rattle.nb_open.specs.Objects.{AreObjectsOpen, AreObjectsShut, AreObjectsStill, ClosesObjects, HandsBrought, ReleasesObjects}
use Rattle.nb_open.specs.declared.open.Open.{Open}
use Rattle.nb_open.specs.declared.ended.Ended.{Ended}

-- what is known of what was told
abbrev pub told_so_far : Teller → Heard
told_so_far t = heard_by t.net.now t.who.now t.told.value

-- what it has brought is handed out, and its objects were let go
pub record LetsObjectsGo (o : OpenObjects) (e : Ended) (old new : Objects Obj) (before after : Heard) : Type 0 where
  pub mid : Objects Obj
  pub on : AreObjectsStill o old mid
  pub same_book : mid.book ≡ old.book
  pub hands : HandsBrought o old (record { body = e.body; moved = e.moved })
  pub releases : ReleasesObjects o mid new before after

-- where a port was closed the objects may be let go, and else the user may close them
pub record MaySettle (o : Open) (s : Spelling) (g : Objects Obj) : Type 0 where
  pub shut : (c : Cause) → HasSpelled s (Some c) → AreObjectsShut o.objects g
  pub unshut : HasSpelled s None → AreObjectsOpen o.objects g

-- The open goes on, has ended, or is turned back. The core's own end goes first.
pub data SettlesOpen (o : Open) (s : Spelling) (old new : Objects Obj) (before after : Heard) : Option Ended → Type 0 where
  stays_open : HasSpelled s None → s.is_stuck ≡ false → new ≡ old → after ≡ before → SettlesOpen o s old new before after None
  has_come_to_end : (e : Ended) → HasSpelled s (Some e.cause) → LetsObjectsGo o.objects e old new before after → SettlesOpen o s old new before after (Some e)
  is_turned_back : (e : Ended) (mid : Objects Obj) (told : Heard) → HasSpelled s None → s.is_stuck ≡ true → e.cause ≡ no_route o.speaker.server.0 → AreObjectsStill o.objects old mid →
      ClosesObjects o.objects old mid e.cause before told → LetsObjectsGo o.objects e mid new told after → SettlesOpen o s old new before after (Some e)
