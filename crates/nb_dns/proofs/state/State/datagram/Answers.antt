use Rattle.std.proofs.Common.{ℕ, List, Some, refl, sym, ◌∙◌, ap, subst}
use Rattle.nb_terms.specs.declared.acts.Acts.{Acts}
use Rattle.nb_dnsmsg.specs.Messages.{IsAnswer}
use Rattle.nb_dns.specs.declared.state.LookupPhase.{LookupPhase}
use Rattle.nb_dns.specs.Lookups.{asks_lookup_end}
use Rattle.nb_dns.specs.Steps.{no_reply, reply}
use Rattle.nb_dns.proofs.CallsLemmas.{same_address}
use Rattle.nb_dns.proofs.state.State.datagram.Goals as goal

pub returns-in-Some : goal.returns-in-Some
returns-in-Some c =
    let s = c.args.self.now in
    reply c.in-Some.answer (sym c.has_ended.ensures ∙ c.if-has_ended.false)
    (record {
      from_server = same_address c.args.src s.server c.ne.result c.ne.ensures c.if-ne.false;
      answers = subst (λ (x : List ℕ). IsAnswer c.args.body.now s.id x c.in-Some.answer) c.as_slice.ensures.value c.in-Some.ensures.sound;
    })
    (ap (λ (x : LookupPhase). record s { phase = x }) c.phase_with-self.ensures)
    (ap (λ (x : Acts). record x { over = Some c.cause_of.result }) c.requires ∙ ap (λ x. asks_lookup_end x) c.cause_of.ensures)

pub returns-in_default : goal.returns-in_default
returns-in_default c =
    no_reply (λ a r. c.in_default.ensures.complete a (subst (λ (x : List ℕ). IsAnswer c.args.body.now c.args.self.now.id x a) (sym c.as_slice.ensures.value) r.answers)) refl c.requires
