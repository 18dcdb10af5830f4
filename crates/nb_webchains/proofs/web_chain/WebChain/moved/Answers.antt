use Rattle.std.proofs.Common.{◌≡◌, ◌∙◌, sym, ap, subst}
use Rattle.std.specs.Prelude.{IfSome}
use Rattle.std.specs.Option.{option_copied}
use Rattle.nb_ledger.specs.Ledger.{rank}
use Rattle.nb_nodes.specs.Objects.{rank_of_obj}
use Rattle.nb_webchains.proofs.Collecting.{moves_so}
use Rattle.nb_webchains.proofs.web_chain.WebChain.moved.Goals as goal

pub returns-in-Some : goal.returns-in-Some
returns-in-Some c = λ are t stands lives.
    let is = sym c.node.ensures.node ∙ ap option_copied c.in-Some.is in
    let at = subst (λ r. IfSome r (λ n. rank_of_obj n.now ≡ rank c.args.graph.now.book c.args.self.fetch.0)) c.in-Some.is c.node.ensures.rank in
    c.text_of.ensures ∙ moves_so c.args.self c.args.graph.now are t stands c.in-Some.node.now is at
