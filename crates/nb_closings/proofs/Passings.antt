-- Each object of an open closes both its ports or none.
use Rattle.std.proofs.Common.{refl, ◌≡◌, false, List, [], ◌∷◌, ◌++◌}
use Rattle.nb_graph.specs.Trace.{NodeEntry}
use Rattle.nb_nodes.specs.declared.load.Load.{Load}
use Rattle.nb_nodes.specs.declared.obj.Obj.{Obj}
use Rattle.nb_nodes.specs.declared.obj.Obj.TheVariants as obj
use Rattle.nb_nodes.specs.EchoExchanges.{ping_service}
use Rattle.nb_nodes.specs.LeaseExchanges.{lease_service}
use Rattle.nb_nodes.specs.LookupExchanges.{lookup_service}
use Rattle.nb_nodes.specs.Standing.{ObjStands}
use Rattle.nb_closings.specs.Passing.{object_has_ended, ObjectsPassOn, PassesEndOn}
use Rattle.nb_closings.proofs.FetchPassing.{fetch_passes}
use Rattle.nb_closings.proofs.CorePassing.{asker_passes, tftp_passes}
use Rattle.nb_closings.proofs.DrivePassing.{session_passes, unit_passes}
use Rattle.nb_closings.proofs.StreamPassing.{conn_passes, web_passes}

pub objects_pass_on : ObjectsPassOn
objects_pass_on (obj.Fetch f) t e s h = fetch_passes f t e s h
objects_pass_on (obj.Tftp p) t e s h = tftp_passes p.value t e s h
objects_pass_on (obj.Resolver r) t e s h = asker_passes lookup_service (λ l. refl) r.value.stage t e s h
objects_pass_on (obj.Dhcp d) t e s h = asker_passes lease_service (λ a. refl) d.value.stage t e s h
objects_pass_on (obj.Ping p) t e s h = asker_passes ping_service (λ q. refl) p.value.stage t e s h
objects_pass_on (obj.Http p) t e s h = web_passes _ p.value t e s h
objects_pass_on (obj.Tcp p) t e s h = conn_passes _ p.value t e s h
objects_pass_on (obj.Iscsi p) t e s h = session_passes _ p.value t e s h
objects_pass_on (obj.Disk p) t e s h = unit_passes _ p.value t e s h
