use Rattle.std.proofs.Common.{take, map}
use Rattle.nb_defs.specs.Records.{out_texts, text}
use Rattle.nb_record.specs.Logged.{Puts}
use Rattle.nb_client.proofs.concluding.put_lines.Given as goal

abbrev pub invariant-loop-line : goal.invariant-loop-line
invariant-loop-line l = Puts l.initial.out l.out (out_texts (map text (take l.line-index l.lines)))
