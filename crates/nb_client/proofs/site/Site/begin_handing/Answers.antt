use Rattle.std.proofs.Common.{◌∷◌, [], ap, subst}
use Rattle.nb_defs.specs.Causes.{ok}
use Rattle.nb_defs.specs.Records.{out_texts, result}
use Rattle.nb_record.specs.Logged.{Puts}
use Rattle.nb_runner.proofs.Puts.{Puts-outs}
use Rattle.nb_client.specs.declared.stage.Stage.TheVariants.{HandingOff}
use Rattle.nb_client.proofs.site.Site.begin_handing.Goals as goal

pub returns-clause-stage : goal.returns-clause-stage
returns-clause-stage c = (c.in_ok-table.table, ap HandingOff c.of.ensures, c.in_ok-table.ensures)

pub returns-clause-shuts : goal.returns-clause-shuts
returns-clause-shuts c =
    let s = c.in_ok-shut_down.ensures.shuts in
    let first : Puts c.args.out.now c.put_result.new.log (out_texts (result ok ∷ [])) = subst (λ z. Puts c.args.out.now c.put_result.new.log (out_texts (result z ∷ []))) c.cause.ensures c.put_result.ensures in
    record {
      records = s.records;
      puts = Puts-outs (result ok ∷ []) s.records first s.puts;
      none = s.none;
      closes = s.closes;
      closes_first = s.closes_first;
      traces = s.traces;
      world = s.world;
      sound = s.sound;
      serials = s.serials;
    }
