use Rattle.std.proofs.Common.{sym, subst}
use Rattle.std.specs.Option.{option_copied}
use Rattle.nb_defs.specs.Records.{out_texts}
use Rattle.nb_network.specs.Openings.{begun_records}
use Rattle.nb_open.specs.Opening.{live_by}
use Rattle.nb_record.specs.Logged.{Puts}
use Rattle.nb_runner.proofs.Puts.{Puts-nothing, Puts-outs}
use Rattle.nb_client.specs.Openings.{front_records}
use Rattle.nb_client.proofs.opening.put_opened.Goals as goal
use Rattle.nb_client.proofs.opening.put_opened.Goals.{in-Some, in_default}

pub returns : goal.returns
returns c = λ events told since made_is told_is.
    let log = c.args.log.now in
    let script = c.args.script.now in
    let front = front_records (option_copied c.args.shown) script in
    let shown : Puts log c.match-shown.log (out_texts front) = elim c.match-shown.branch [
      | in-Some w ↦ subst (λ l. Puts log l (out_texts front)) (sym w.log-is)
          (subst (λ o. Puts log w.put_begun.new.log (out_texts (front_records (option_copied o) script))) (sym w.in-Some.is) w.put_begun.ensures)
      | in_default w ↦ subst (λ l. Puts log l (out_texts front)) (sym w.log-is) (subst (λ o. Puts log log (out_texts (front_records (option_copied o) script))) (sym w.in_default.is) Puts-nothing)
    ] in
    Puts-outs front (begun_records events (live_by c.args.opening.now c.args.number since) told c.args.made.now.ended) shown (c.put_begun-2.ensures events told since made_is told_is)
