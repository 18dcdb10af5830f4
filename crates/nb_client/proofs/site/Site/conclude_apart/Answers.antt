use Rattle.std.proofs.Common.{refl, sym, subst}
use Rattle.nb_defs.specs.Records.{out_texts}
use Rattle.nb_client.specs.Serving.{Concludes}
use Rattle.nb_client.specs.Snapshots.{Snapshot}
use Rattle.nb_client.proofs.OpenSites.{same_snapshot}
use Rattle.nb_client.proofs.Waits.{gathered_puts}
use Rattle.nb_client.proofs.site.Site.conclude_apart.Goals as goal

pub returns-clause-concludes : goal.returns-clause-concludes
returns-clause-concludes c =
    let g = c.in_ok-put_gathered.ensures in
    let same = same_snapshot _ _ c.put_gathered.ensures.used c.put_gathered.ensures.world c.put_gathered.ensures.opens refl in
    let l = rw c.into_inner.ensures at c.in_ok-stage.ensures in
    subst (λ (x : Snapshot). Concludes c.args.pending c.args.answer c.args.script c.args.self.now x c.args.log.now c.put_gathered.new.log) (sym same)
    (record {
      ends = λ live are.
          let k = l.ends live are in
          record { rest = k.rest; puts = gathered_puts (out_texts k.rest) c.in_ok-out.ensures g.whole k.puts g.puts; comes = k.comes; traces = k.traces };
      sound = l.sound;
      under_way = l.under_way;
    })
