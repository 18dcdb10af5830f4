-- The records of the program, seen as the records of the definitions.
use Rattle.nb_defs.specs.Records as defs
use Rattle.nb_record.specs.declared.input.Start.{Start}
use Rattle.nb_record.specs.declared.input.InRec.{InRec}
use Rattle.nb_record.specs.declared.input.InRec.TheVariants as input
use Rattle.nb_record.specs.declared.output.OutRec.{OutRec}
use Rattle.nb_record.specs.declared.output.OutRec.TheVariants as output

abbrev pub start_of : Start → defs.Start
start_of s = record {
  mac = s.mac.0;
  uuid = s.uuid;
  key = s.key;
  arch = s.arch;
  w = s.w;
  ip = s.ip.0;
  mask = s.mask.0;
  gateway = s.gateway.0;
  dns = s.dns.0;
  script = s.script.now;
}

abbrev pub in_of : InRec → defs.In
in_of (input.Start s) = defs.start s
in_of (input.Frame bytes) = defs.frame bytes.now
in_of (input.Tick ms) = defs.tick ms
in_of input.Off = defs.off

abbrev pub out_of : OutRec → defs.Out
out_of (output.Step number) = defs.step number
out_of (output.Frame bytes) = defs.sent bytes.now
out_of (output.Text bytes) = defs.text bytes.now
out_of (output.Command depth line place expanded words) = defs.command depth line place expanded words.now
out_of (output.Result cause) = defs.result cause
out_of (output.Script what depth cause) = defs.script what depth cause
out_of (output.Opened number kind server port own target) = defs.opened number kind server.0 port own target.now
out_of (output.Try number n) = defs.tried number n
out_of (output.Advance number place) = defs.advanced number place
out_of (output.Over number cause) = defs.ended number cause
out_of (output.Graph happens) = defs.graph happens
out_of (output.Part kind index offset bytes) = defs.part kind index offset bytes.now
out_of (output.Done status) = defs.done status
