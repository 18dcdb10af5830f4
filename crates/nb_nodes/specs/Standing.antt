-- What an object stands for, and what it hands out, by its kind: our own.
use Rattle.std.specs.Prelude.{◌≡◌, List, Option, None}
use Rattle.nb_graph.specs.Trace.{NodeEntry}
use Rattle.nb_conns.specs.Dialogues.{TcpStands}
use Rattle.nb_drivenodes.specs.SessionTalks.{IscsiStands}
use Rattle.nb_drivenodes.specs.UnitTalks.{UnitStands}
use Rattle.nb_webnodes.specs.WebTalks.{WebStands}
use Rattle.nb_nodes.specs.declared.fetch.Fetch.{Fetch}
use Rattle.nb_nodes.specs.declared.load.Load.{Load}
use Rattle.nb_nodes.specs.declared.obj.Obj.{Obj}
use Rattle.nb_nodes.specs.declared.obj.Obj.TheVariants as obj
use Rattle.nb_nodes.specs.Carriers.{conn_carrier, text_carrier, web_carrier}
use Rattle.nb_nodes.specs.Fetches.{FetchStands, FetchHarvests}
use Rattle.nb_nodes.specs.Conversations.{TftpStands}
use Rattle.nb_nodes.specs.Exchanges.{StandsBy}
use Rattle.nb_nodes.specs.LookupExchanges.{lookup_service}
use Rattle.nb_nodes.specs.LeaseExchanges.{lease_service}
use Rattle.nb_nodes.specs.EchoExchanges.{ping_service}

abbrev pub ObjStands : Obj → List (NodeEntry Obj Load) → Type 0
ObjStands (obj.Fetch f) t = FetchStands f t
ObjStands (obj.Tftp p) t = TftpStands p.value t
ObjStands (obj.Resolver r) t = StandsBy lookup_service r.value.stage t
ObjStands (obj.Dhcp d) t = StandsBy lease_service d.value.stage t
ObjStands (obj.Ping p) t = StandsBy ping_service p.value.stage t
ObjStands (obj.Http p) t = WebStands web_carrier p.value t
ObjStands (obj.Tcp p) t = TcpStands conn_carrier p.value t
ObjStands (obj.Iscsi p) t = IscsiStands text_carrier p.value t
ObjStands (obj.Disk p) t = UnitStands text_carrier p.value t

abbrev pub HarvestsAsFetch : Fetch → Option Load → Obj → Type 0
HarvestsAsFetch f r (obj.Fetch g) = FetchHarvests f r g
HarvestsAsFetch f r (obj.Tftp q) = ⊥
HarvestsAsFetch f r (obj.Resolver q) = ⊥
HarvestsAsFetch f r (obj.Dhcp q) = ⊥
HarvestsAsFetch f r (obj.Ping q) = ⊥
HarvestsAsFetch f r (obj.Http q) = ⊥
HarvestsAsFetch f r (obj.Tcp q) = ⊥
HarvestsAsFetch f r (obj.Iscsi q) = ⊥
HarvestsAsFetch f r (obj.Disk q) = ⊥

-- a Fetch hands out its whole body once, and the others nothing
abbrev pub ObjHarvests : Obj → Option Load → Obj → Type 0
ObjHarvests (obj.Fetch f) r new = HarvestsAsFetch f r new
ObjHarvests (obj.Tftp p) r new = (r ≡ None) × (new ≡ obj.Tftp p)
ObjHarvests (obj.Resolver q) r new = (r ≡ None) × (new ≡ obj.Resolver q)
ObjHarvests (obj.Dhcp d) r new = (r ≡ None) × (new ≡ obj.Dhcp d)
ObjHarvests (obj.Ping p) r new = (r ≡ None) × (new ≡ obj.Ping p)
ObjHarvests (obj.Http p) r new = (r ≡ None) × (new ≡ obj.Http p)
ObjHarvests (obj.Tcp p) r new = (r ≡ None) × (new ≡ obj.Tcp p)
ObjHarvests (obj.Iscsi p) r new = (r ≡ None) × (new ≡ obj.Iscsi p)
ObjHarvests (obj.Disk p) r new = (r ≡ None) × (new ≡ obj.Disk p)
