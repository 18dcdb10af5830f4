use Rattle.std.proofs.Common.{◌≡◌, subst, sym, true}
use Rattle.nb_nodes.specs.Asking.{is_path}
use Rattle.nb_client.specs.Beginnings.{IsConnectionBy}
use Rattle.nb_client.proofs.WebAsks.{asks_from, asks_its_url, no_disk_asked, path_asked, web_live}
use Rattle.nb_client.proofs.next_open.file_opening.Goals as goal

pub returns-in-Http-clause-live : goal.returns-in-Http-clause-live
returns-in-Http-clause-live c = λ live.
    let w = c.args.world.now in
    let a = c.web_opening.result in
    let conn = subst (IsConnectionBy w c.args.wanted.now.server c.in-Http.port) (sym c.web_opening.ensures.conn) c.connection_ask-conn.ensures in
    web_live c.args.wanted.now c.in-Http.host c.in-Http.path c.in-Http.whole c.in-Http.port c.in-Http.is w live a conn c.web_opening.ensures.url

pub returns-in-Http-clause-can : goal.returns-in-Http-clause-can
returns-in-Http-clause-can c = λ fits.
    let e = c.web_opening.ensures in
    let port = subst (IsConnectionBy c.args.world.now c.args.wanted.now.server c.in-Http.port) (sym e.conn) c.connection_ask-conn.ensures in
    asks_its_url c.args.wanted.now c.in-Http.host c.in-Http.path c.in-Http.whole c.in-Http.port c.in-Http.is c.web_opening.result fits e.host port.peer_port e.path e.url

pub returns-in-Http-clause-address : goal.returns-in-Http-clause-address
returns-in-Http-clause-address c =
    let w = c.args.world.now in
    let conn = subst (IsConnectionBy w c.args.wanted.now.server c.in-Http.port) (sym c.web_opening.ensures.conn) c.connection_ask-conn.ensures in
    asks_from c.args.wanted.now c.in-Http.host c.in-Http.path c.in-Http.whole c.in-Http.port c.in-Http.is w c.web_opening.result conn

pub returns-in-Tftp-clause-can : goal.returns-in-Tftp-clause-can
returns-in-Tftp-clause-can c = λ fits.
    subst (λ path. is_path path ≡ true) (sym c.path_ask.ensures.path) (path_asked c.args.wanted.now.asking _ _ _ _ c.in-Tftp.is fits)

pub returns-in-Iscsi-clause-can : goal.returns-in-Iscsi-clause-can
returns-in-Iscsi-clause-can c = λ fits. absurd (no_disk_asked c.args.wanted.now.asking _ _ _ _ _ c.in-Iscsi.is fits)
