use Rattle.std.proofs.Common.{◌≡◌, true, [], ◌∷◌, ◌++◌, ◌∙◌, ap, subst}
use Rattle.nb_defs.specs.Causes.{ok}
use Rattle.nb_defs.specs.Records.{out_texts, result}
use Rattle.nb_record.specs.Logged.{Puts}
use Rattle.nb_machine.specs.CommandRecords.{command_record}
use Rattle.nb_machine.specs.Effects.{shown_as}
use Rattle.nb_machine.specs.Running.{entered, further, with_result}
use Rattle.nb_runner.proofs.Puts.{Puts-outs}
use Rattle.nb_client.proofs.CloseDevice.{down_goes, down_records}
use Rattle.nb_client.proofs.Waits.{gathered_puts}
use Rattle.nb_client.proofs.site.Site.close_device.Goals as goal

pub returns-clause-moves : goal.returns-clause-moves
returns-clause-moves c =
    let now = c.args.self.now in
    let s = c.args.script in
    let ws = c.args.words.now in
    let k = c.in_ok-close_all.ensures.closes in
    let last : Puts c.close_all.new.out c.put_result.new.log (out_texts (result ok ∷ [])) = subst (λ z. Puts c.close_all.new.out c.put_result.new.log (out_texts (result z ∷ []))) c.cause.ensures c.put_result.ensures in
    let all = Puts-outs (command_record s (shown_as true ws) ∷ []) (k.records ++ (result ok ∷ [])) c.put_begun.ensures (Puts-outs k.records (result ok ∷ []) k.puts last) in
    let g = c.in_ok-put_gathered.ensures in
    let puts = gathered_puts (out_texts (down_records s ws k.records)) c.in_ok-out.ensures g.whole all g.puts in
    let ends : c.end_with.new.self ≡ further s ok = c.end_with.ensures ∙ (ap (λ x. with_result x c.cause-2.result) c.enter.ensures ∙ ap (λ x. with_result (entered s) x) c.cause-2.ensures) in
    λ w carried. rw (g.used, c.in_ok-close_all.ensures.used, g.world, g.opens, ends) (down_goes now.used w s ws c.requires.sound c.requires.words.early carried k puts)
