-- How what connections, fetches by HTTP and drives carry is a load of an open's objects: our own.
use Rattle.std.specs.Prelude.{◌++◌, Option, Some, None, refl}
use Rattle.std.proofs.Common.{append-nil}
use Rattle.nb_conns.specs.declared.conn_load.ConnLoad.{ConnLoad}
use Rattle.nb_conns.specs.ConnLoads.{Carrier}
use Rattle.nb_drivenodes.specs.DriveEffects.{TextCarrier}
use Rattle.nb_webnodes.specs.WebEffects.{WebCarrier}
use Rattle.nb_nodes.specs.declared.load.Load.{Load}
use Rattle.nb_nodes.specs.declared.load.Load.TheVariants as load
use Rattle.nb_nodes.specs.Objects.{first_part, second_part}

-- what a connection carries by this load, if it does
abbrev pub conn_of_load : Load → Option ConnLoad
conn_of_load (load.Body body) = None
conn_of_load (load.Datagram acts) = None
conn_of_load (load.Conn c) = Some c
conn_of_load (load.Text text) = None

abbrev pub conn_carrier : Carrier Load
conn_carrier = record {
  as_load = λ c. load.Conn c;
  as_conn = conn_of_load;
  load_bytes = λ l. first_part l ++ second_part l;
  read_again = λ c. refl;
  same_bytes = λ c. refl;
}

abbrev pub web_carrier : WebCarrier Load
web_carrier = record { as_load = λ t. load.Text t; load_bytes = λ l. first_part l ++ second_part l; same_text = λ t. append-nil t }

abbrev pub text_carrier : TextCarrier Load
text_carrier = record { as_load = λ t. load.Text t; load_bytes = λ l. first_part l ++ second_part l; same_text = λ t. append-nil t }
