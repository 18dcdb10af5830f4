-- The user asks for blocks of an open that is a drive: what its objects do, and the exchange.
use Rattle.std.proofs.Common.{◌≡◌, ℕ, inl, List, Option, None, refl, arith}
use Rattle.nb_graph.specs.Whole.{Objects, port_at}
use Rattle.nb_ledger.specs.Flat.{Heard, Notice}
use Rattle.nb_nodes.specs.declared.obj.Obj.{Obj}
use Rattle.nb_stack.specs.Client.{Client}
use Rattle.nb_machine.specs.Lives.{Live, task}
use Rattle.nb_drivechains.specs.DriveCalls.{read_said, reads_drive}
use Rattle.nb_webchains.specs.WebCalls.{AreShort, short_message}
use Rattle.nb_teller.specs.declared.speaker.Speaker.{Speaker}
use Rattle.nb_teller.specs.declared.teller.Teller.{Teller}
use Rattle.nb_teller.specs.Spelling.{IsBlank, IsWholeSpelling, Spelling}
use Rattle.nb_teller.proofs.Tellers.{told_is}
use Rattle.nb_open.specs.declared.ended.Ended.{Ended}
use Rattle.nb_open.specs.declared.objects.OpenObjects.{OpenObjects}
use Rattle.nb_open.specs.declared.objects.OpenObjects.TheVariants as objects
use Rattle.nb_open.specs.declared.open.Open.{Open}
use Rattle.nb_open.specs.Exchanges.{Exchanges}
use Rattle.nb_open.specs.Objects.{AreObjectsChained, AreObjectsStill, DoesRead}
use Rattle.nb_open.specs.Open.{AreUnderWay, IsOpenOf, LivesSome}
use Rattle.nb_open.specs.Settling.{MaySettle, SettlesOpen, told_so_far}
use Rattle.nb_open.proofs.Comings.{drive_comes, may_settle, spelled_by}
use Rattle.nb_open.proofs.Doings.{Did}
use Rattle.nb_drivetalks.specs.Orders.{by_user}
use Rattle.nb_open.proofs.DriveOrders.{drive_order, is_called}
use Rattle.nb_open.proofs.DriveTasks.{drive_asked}
use Rattle.nb_open.proofs.Exchanging.{exchanges}
use Rattle.nb_open.proofs.Receiving.{CallsObjects, drive_at, drive_under}

-- what is told then
abbrev pub read_told : (os : OpenObjects) (rec block count now : ℕ) (old new : Objects Obj) (m n : Heard) → DoesRead os rec block count now old new m n → List Notice
read_told (objects.Chain kind c) rec block count now old new m n k = absurd k
read_told (objects.Web port own c) rec block count now old new m n k = absurd k
read_told (objects.Drive port own c) rec block count now old new m n k = k.ns

read_call : (os : OpenObjects) (rec block count now : ℕ) (old new : Objects Obj) (m n : Heard) (l : Live) → AreObjectsChained old os → AreUnderWay os old l → (k : DoesRead os rec block count now old new m n) →
    CallsObjects os None old new m n (read_told os rec block count now old new m n k)
read_call (objects.Chain kind c) rec block count now old new m n l chained lives k = absurd k
read_call (objects.Web port own c) rec block count now old new m n l chained lives k = absurd k
read_call (objects.Drive port own c) rec block count now old new m n l chained lives k =
    let is = drive_under l.kind own c old l lives in
    let few : AreShort (reads_drive c rec block count) = short_message (port_at c.unit.0 0) (read_said rec block count) (omega arith) in
    record { gives = k.gives; order = λ up. inl (drive_order c old new m n now _ _ (is_called c old new m n now _ _ is.0 (drive_at l.kind own c old l chained lives) k) (by_user (read_said rec block count)) few k up); comes = drive_comes port own c new k.ns (k.comes is.0) }

read_did : (who : Speaker) (l : Live) (old new : Objects Obj) (link : Client) (m n : Heard) (os : OpenObjects) (rec block count now : ℕ) → IsOpenOf old (record { speaker = who; objects = os }) l → (k : DoesRead os rec block count now old new m n) →
    Did (record { speaker = who; objects = os }) l (task (record { lba = block; blocks = count }) now) link new (read_told os rec block count now old new m n k)
read_did who l old new link m n (objects.Chain kind c) rec block count now is k = absurd k
read_did who l old new link m n (objects.Web port own c) rec block count now is k = absurd k
read_did who l old new link m n (objects.Drive port own c) rec block count now is k = drive_asked who port own c l old new link m n rec block count now is k

module _ (o : Open) (old mid : Objects Obj) (net : Client) (before after : Teller) (same_net : before.net.now ≡ net) (same_who : before.who.now ≡ o.speaker) (blank : IsBlank before.told.value) (rec block count now : ℕ)
    (k : DoesRead o.objects rec block count now old mid (told_so_far before) (told_so_far after)) where
  abbrev ns : List Notice
  ns = read_told o.objects rec block count now old mid (told_so_far before) (told_so_far after) k

  pub ask_may : LivesSome old o → MaySettle o after.told.value mid
  ask_may (l, is) =
      let call = read_call o.objects rec block count now old mid (told_so_far before) (told_so_far after) l is.chained is.under_way k in
      may_settle o net mid after.told.value ns (spelled_by o net before after same_net same_who blank ns call.gives.given) call.comes

  pub asks_so : (new : Objects Obj) (last : Teller) (s' : Spelling) (settled : Option Ended) → AreObjectsStill o.objects old mid →
      SettlesOpen o after.told.value mid new (told_so_far after) (told_so_far last) settled → s' ≡ last.told.value → IsWholeSpelling s' →
      (l : Live) → IsOpenOf old o l → Exchanges o l (task (record { lba = block; blocks = count }) now) net None old new s' settled
  asks_so new last s' settled on settles same whole l is =
      let call = read_call o.objects rec block count now old mid (told_so_far before) (told_so_far after) l is.chained is.under_way k in
      exchanges o l (task (record { lba = block; blocks = count }) now) net None None old mid new (told_so_far before) (told_so_far after) (told_so_far last) after.told.value s' ns
      (record {
        did = read_did o.speaker l old mid net (told_so_far before) (told_so_far after) o.objects rec block count now is k;
        enters = refl;
        order = call.order;
        gives = call.gives;
        on = on;
        spelled = spelled_by o net before after same_net same_who blank ns call.gives.given;
        spells = λ all given. told_is net o.speaker before last s' all same_net same_who blank given same whole;
      }) settled is.called.server settles
