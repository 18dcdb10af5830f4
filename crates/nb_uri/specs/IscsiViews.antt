-- Own: the name of an iSCSI disk, without where it lies in memory
use Rattle.nb_uri.specs.declared.iscsi.IscsiUri.{IscsiUri}
use Rattle.nb_uri.specs.IscsiNames.{IscsiTarget}

abbrev pub disk_of : IscsiUri → IscsiTarget
disk_of uri = record { server = uri.server.now; port = uri.port; lun = uri.lun; target = uri.target.now }
