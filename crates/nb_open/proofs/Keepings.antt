-- An open that lives has kept its promises, also where it is closed from above, and stays what it is where its objects stay.
use Rattle.std.proofs.Common.{◌≡◌, ℕ, [], sym, subst, ap, ◌∙◌}
use Rattle.nb_terms.specs.declared.cause.Cause.{Cause}
use Rattle.nb_graph.specs.Whole.{Objects, node_at}
use Rattle.nb_ledger.specs.Ledger.{rank}
use Rattle.nb_frames.proofs.OwnLemmas.{AreThere, are_there}
use Rattle.nb_frames.proofs.OwnCallLemmas.{node_own, rank_own}
use Rattle.nb_nodes.specs.declared.obj.Obj.{Obj}
use Rattle.nb_nodes.specs.Exchanges.{Service}
use Rattle.nb_opens.specs.Alones.{Talks}
use Rattle.nb_opens.specs.Pairs.{Downloads}
use Rattle.nb_stack.specs.Client.{Client}
use Rattle.nb_tftp.specs.Blocks.{file}
use Rattle.nb_tftp.specs.History.{got}
use Rattle.nb_machine.specs.Cores.{KeepsCore, closes as core_closes}
use Rattle.nb_machine.specs.Kinds.{Keeps, KeepsBy}
use Rattle.nb_machine.specs.Lives.{OpenKind, tftp, http, iscsi, dns, dhcp, ping, Live}
use Rattle.nb_machine.specs.Transfers.{closes as transfer_closes, transfer_of}
use Rattle.nb_chains.specs.Chains.{AreChained, StaysChained, own_graph}
use Rattle.nb_chains.specs.declared.chain.Chain.{Chain}
use Rattle.nb_wire.specs.declared.address.Ip4.{Ip4}
use Rattle.nb_machine.specs.Connections.{connection_of, talk_of}
use Rattle.nb_machine.specs.Webs.{web_talking}
use Rattle.nb_webchains.specs.declared.web_chain.WebChain.{WebChain}
use Rattle.nb_webchains.specs.WebChains.{KeepKinds, web_ids}
use Rattle.nb_webtalks.proofs.Staying.{hosted_still, kinds_still, open_still}
use Rattle.nb_webtalks.proofs.TalkLemmas.{same_three}
use Rattle.nb_open.specs.declared.objects.OpenObjects.{OpenObjects}
use Rattle.nb_open.specs.declared.objects.OpenObjects.TheVariants as objects
use Rattle.nb_open.specs.Objects.{AreObjectsChained, objects_ids}
use Rattle.nb_open.specs.declared.open.Open.{Open}
use Rattle.nb_open.specs.Ends.{closed_open}
use Rattle.nb_drivechains.specs.declared.drive_chain.DriveChain.{DriveChain}
use Rattle.nb_drivechains.specs.DriveChains.{AreOfDrive, drive_ids, three_of}
use Rattle.nb_webchains.specs.WebChains.{web_graph}
use Rattle.nb_webtalks.specs.TalkStands.{AreHosted}
use Rattle.nb_drivechains.proofs.BesideDrives.{drive_kinds}
use Rattle.nb_machine.specs.Drives.{session_of}
use Rattle.nb_open.proofs.DriveLaws.{drives_still}
use Rattle.nb_open.specs.Open.{AreUnderWay, IsAskingCore, IsDriveUnderWay, IsFetching, IsOpenOf, IsUnderWay, IsWebUnderWay, ask_of, session_ask}

asking_keeps : {S B C : Type 0} (s : Service S B C) (kind : ℕ) (b : B) (c : Chain) (g : Objects Obj) (l : Live) → IsAskingCore s kind b c g l → KeepsCore s b l
asking_keeps s kind b c g l h = record { calls = h.calls; exchanged = h.exchanged; meets = h.talks.meets }

keeps_by : (k : OpenKind) (c : Chain) (g : Objects Obj) (l : Live) → IsUnderWay k c g l → KeepsBy k l
keeps_by tftp c g l h = record { entries = h.entries; exchanged = h.exchanged; meets = h.downloads.meets }
keeps_by (http isn) c g l h = absurd h
keeps_by (iscsi isn i) c g l h = absurd h
keeps_by (dns id) c g l h = asking_keeps _ _ _ c g l h
keeps_by (dhcp a) c g l h = asking_keeps _ _ _ c g l h
keeps_by ping c g l h = asking_keeps _ _ _ c g l h

web_keeps : (k : OpenKind) (own : Ip4) (c : WebChain) (g : Objects Obj) (l : Live) → IsWebUnderWay k own c g l → KeepsBy k l
web_keeps tftp own c g l h = absurd h
web_keeps (http isn) own c g l h = h.keeps
web_keeps (iscsi isn i) own c g l h = absurd h
web_keeps (dns id) own c g l h = absurd h
web_keeps (dhcp a) own c g l h = absurd h
web_keeps ping own c g l h = absurd h

drive_keeps : (k : OpenKind) (own : Ip4) (c : DriveChain) (g : Objects Obj) (l : Live) → IsDriveUnderWay k own c g l → KeepsBy k l
drive_keeps tftp own c g l h = absurd h
drive_keeps (http isn) own c g l h = absurd h
drive_keeps (iscsi isn i) own c g l h = h.keeps
drive_keeps (dns id) own c g l h = absurd h
drive_keeps (dhcp a) own c g l h = absurd h
drive_keeps ping own c g l h = absurd h

objects_keep : (o : OpenObjects) (g : Objects Obj) (l : Live) → AreUnderWay o g l → Keeps l
objects_keep (objects.Chain kind chain) g l h = keeps_by l.kind chain g l h
objects_keep (objects.Web port own chain) g l h = web_keeps l.kind own chain g l h
objects_keep (objects.Drive port own chain) g l h = drive_keeps l.kind own chain g l h

pub open_keeps : (g : Objects Obj) (o : Open) (l : Live) → IsOpenOf g o l → Keeps l
open_keeps g o l h = objects_keep o.objects g l h.under_way

core_keeps : {S B C : Type 0} (s : Service S B C) (b : B) (l : Live) (cause : Cause) (link : Client) → KeepsCore s b l → KeepsCore s b (closed_open l cause link [])
core_keeps s b l cause link h = record { calls = h.calls; exchanged = core_closes h.calls l.exchanges link cause h.exchanged; meets = h.meets }

closed_by_kind : (k : OpenKind) (c : Chain) (g : Objects Obj) (l : Live) (cause : Cause) (link : Client) → IsUnderWay k c g l → KeepsBy k (closed_open l cause link [])
closed_by_kind tftp c g l cause link h = record { entries = h.entries; exchanged = transfer_closes h.entries l.exchanges link cause h.exchanged; meets = h.downloads.meets }
closed_by_kind (http isn) c g l cause link h = absurd h
closed_by_kind (iscsi isn i) c g l cause link h = absurd h
closed_by_kind (dns id) c g l cause link h = core_keeps _ _ l cause link (keeps_by (dns id) c g l h)
closed_by_kind (dhcp a) c g l cause link h = core_keeps _ _ l cause link (keeps_by (dhcp a) c g l h)
closed_by_kind ping c g l cause link h = core_keeps _ _ l cause link (keeps_by ping c g l h)

-- a chain sends nothing where it is closed from above
pub closed_keeps : (c : Chain) (g : Objects Obj) (l : Live) (cause : Cause) (link : Client) → IsUnderWay l.kind c g l → Keeps (closed_open l cause link [])
closed_keeps c g l cause link h = closed_by_kind l.kind c g l cause link h

-- on the same graph of its objects
fetching_stays : (c : Chain) (g h : Objects Obj) (l : Live) → own_graph c h ≡ own_graph c g → IsFetching c g l → IsFetching c h l
fetching_stays c g h l same k = record { tftp = k.tftp; below = k.below; entries = k.entries; downloads = subst (λ z. Downloads z c.top.0 k.tftp.0 (transfer_of l) l.since k.entries (file (got k.entries))) (sym same) k.downloads; exchanged = k.exchanged; short = k.short }

asking_stays : {S B C : Type 0} (s : Service S B C) (kind : ℕ) (b : B) (c : Chain) (g h : Objects Obj) (l : Live) → own_graph c h ≡ own_graph c g → IsAskingCore s kind b c g l → IsAskingCore s kind b c h l
asking_stays s kind b c g h l same k = record { below = k.below; calls = k.calls; talks = subst (λ z. Talks s kind z c.top.0 b l.since k.calls) (sym same) k.talks; exchanged = k.exchanged }

stays_by : (k : OpenKind) (c : Chain) (g h : Objects Obj) (l : Live) → own_graph c h ≡ own_graph c g → IsUnderWay k c g l → IsUnderWay k c h l
stays_by tftp c g h l same k = fetching_stays c g h l same k
stays_by (http isn) c g h l same k = absurd k
stays_by (iscsi isn i) c g h l same k = absurd k
stays_by (dns id) c g h l same k = asking_stays _ _ _ c g h l same k
stays_by (dhcp a) c g h l same k = asking_stays _ _ _ c g h l same k
stays_by ping c g h l same k = asking_stays _ _ _ c g h l same k

web_stays : (k : OpenKind) (own : Ip4) (c : WebChain) (g h : Objects Obj) (l : Live) → AreChained g (web_ids c) → StaysChained (web_ids c) g h → IsWebUnderWay k own c g l → IsWebUnderWay k own c h l
web_stays tftp own c g h l was stays k = absurd k
web_stays (iscsi isn i) own c g h l was stays k = absurd k
web_stays (http isn) own c g h l was stays k = record {
  opened = open_still c g h was stays.chained stays.same_graph k.hosted k.opened;
  kinds = kinds_still c g h was stays.chained stays.same_graph k.hosted k.kinds;
  hosted = hosted_still c g h was stays.chained stays.same_graph k.hosted;
  stands = same_three (ask_of isn own l) l.since (talk_of (web_talking l.target) (connection_of isn l) l.exchanges).calls c g h stays.same_graph k.stands;
  keeps = k.keeps;
  asked = k.asked;
}
web_stays (dns id) own c g h l was stays k = absurd k
web_stays (dhcp a) own c g h l was stays k = absurd k
web_stays ping own c g h l was stays k = absurd k

-- three that stand as they stood have the kinds that they had
module _ (c : WebChain) (g h : Objects Obj) (was : AreChained g (web_ids c)) (is : AreChained h (web_ids c)) (same : web_graph c h ≡ web_graph c g) (hosted : AreHosted c g) where
  there : AreThere (web_ids c) g
  there = are_there (web_ids c) g was.lives hosted

  there_still : AreThere (web_ids c) h
  there_still = are_there (web_ids c) h is.lives (hosted_still c g h was is same hosted)

  kinds_keep : KeepKinds (web_ids c) g h
  kinds_keep = record {
    ranks = λ x o. sym (rank_own (web_ids c) h there_still x o) ∙ ap (λ (z : Objects Obj). rank z.book x) same ∙ rank_own (web_ids c) g there x o;
    marks = λ x mark o is_one n e. is_one n (sym (node_own (web_ids c) g there x o) ∙ (ap (λ (z : Objects Obj). node_at z x) (sym same) ∙ (node_own (web_ids c) h there_still x o ∙ e)));
  }

drive_kinds_still : (c : DriveChain) (g h : Objects Obj) → AreChained g (drive_ids c) → AreChained h (drive_ids c) → web_graph (three_of c) h ≡ web_graph (three_of c) g → AreHosted (three_of c) g → AreOfDrive c g → AreOfDrive c h
drive_kinds_still c g h was is same hosted k = drive_kinds c g h (kinds_keep (three_of c) g h was is same hosted) k

drive_stays : (k : OpenKind) (own : Ip4) (c : DriveChain) (g h : Objects Obj) (l : Live) → AreChained g (drive_ids c) → StaysChained (drive_ids c) g h → IsDriveUnderWay k own c g l → IsDriveUnderWay k own c h l
drive_stays tftp own c g h l was stays k = absurd k
drive_stays (http isn) own c g h l was stays k = absurd k
drive_stays (iscsi isn i) own c g h l was stays k = record {
  opened = open_still (three_of c) g h was stays.chained stays.same_graph k.hosted k.opened;
  kinds = drive_kinds_still c g h was stays.chained stays.same_graph k.hosted k.kinds;
  hosted = hosted_still (three_of c) g h was stays.chained stays.same_graph k.hosted;
  stands = drives_still (session_ask isn own i l) l.since (session_of isn i l) c g h stays.same_graph k.stands;
  keeps = k.keeps;
}
drive_stays (dns id) own c g h l was stays k = absurd k
drive_stays (dhcp a) own c g h l was stays k = absurd k
drive_stays ping own c g h l was stays k = absurd k

objects_stay : (o : OpenObjects) (g h : Objects Obj) (l : Live) → AreObjectsChained g o → StaysChained (objects_ids o) g h → AreUnderWay o g l → AreUnderWay o h l
objects_stay (objects.Chain kind chain) g h l was stays k = stays_by l.kind chain g h l stays.same_graph k
objects_stay (objects.Web port own chain) g h l was stays k = web_stays l.kind own chain g h l was stays k
objects_stay (objects.Drive port own chain) g h l was stays k = drive_stays l.kind own chain g h l was stays k

pub open_stays : (g h : Objects Obj) (o : Open) (l : Live) → StaysChained (objects_ids o.objects) g h → IsOpenOf g o l → IsOpenOf h o l
open_stays g h o l stays is = record { chained = stays.chained; called = is.called; under_way = objects_stay o.objects g h l is.chained stays is.under_way }
