use Rattle.std.proofs.Common.{[], ◌∷◌, sym, ◌∙◌, ap, subst}
use Rattle.nb_defs.specs.Records.{out_texts, result}
use Rattle.nb_machine.specs.Effects.{full_opens}
use Rattle.nb_network.specs.Many.{WaitsBeside}
use Rattle.nb_record.specs.Logged.{Puts}
use Rattle.nb_client.specs.Asked.{onward_kind}
use Rattle.nb_client.specs.Beginnings.{DropsWaiting}
use Rattle.nb_client.proofs.OpenWaits.{lets_result}
use Rattle.nb_client.proofs.site.Site.open_no_more.Goals as goal

pub let_go-requires-clause-waits : goal.let_go-requires-clause-waits
let_go-requires-clause-waits c = λ x e.
    subst (λ k. WaitsBeside k x c.args.self.now.opens) (sym (c.kind_onward.ensures ∙ ap onward_kind c.onward.ensures))
    (c.requires.sound.well.2.waiting.beside x (sym c.waits.ensures ∙ e))

pub returns-clause-lets : goal.returns-clause-lets
returns-clause-lets c =
    let now = c.args.self.now in
    let next = c.args.next.now in
    let after = c.let_go.new.self in
    let mid = c.let_go.new.out in
    let l = c.in_ok-let_go.ensures.lets in
    let gone : DropsWaiting c.kind_onward.result c.waits.result now.world.opens now after [] c.args.out.now mid =
    record { events = l.events; puts = l.puts; same_list = l.same_list; state = l.state; sound = l.sound; serials = l.serials; traces = l.traces } in
    let same_kind = c.kind_onward.ensures ∙ ap onward_kind c.onward.ensures in
    let there : DropsWaiting (onward_kind next.onward) next.waits now.world.opens now after [] c.args.out.now mid =
    subst (λ x. DropsWaiting (onward_kind next.onward) x now.world.opens now after [] c.args.out.now mid) c.waits.ensures
    (subst (λ k. DropsWaiting k c.waits.result now.world.opens now after [] c.args.out.now mid) same_kind gone) in
    lets_result (onward_kind next.onward) next.waits now.world.opens now after full_opens there
    (subst (λ x. Puts mid c.put_result.new.log (out_texts (result x ∷ []))) c.full_opens.ensures c.put_result.ensures)
