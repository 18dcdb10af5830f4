use Rattle.std.proofs.Common.{◌≡◌, ◌==◌, ◌++◌, ◌||◌, true, not, ℕ, List, [], ◌∷◌, length, refl, sym, ◌∙◌, ap, subst, append-nil, arith}
use Rattle.std.proofs.lemmas.Bool.{eqb-true}
use Rattle.nb_terms.specs.declared.acts.SendTo.{SendTo}
use Rattle.nb_machine.specs.Sendings.{has_route, send_records}
use Rattle.nb_teller.specs.Speakers.{datagram_of}
use Rattle.nb_teller.specs.Spelling.{SpellsMore}
use Rattle.nb_teller.specs.Tellings.{message_lacks_route, message_records}
use Rattle.nb_teller.proofs.SpellingLemmas.{no_delivery, or_none_there}
use Rattle.nb_teller.proofs.teller.send_datagram.Goals as goal

no_bytes : (xs : List ℕ) → (length xs == 0) ≡ true → xs ≡ []
no_bytes [] h = refl
no_bytes (x ∷ xs) h = absurd (let z = eqb-true (length (x ∷ xs)) 0 h in omega (arith, z))

pub returns-in-Ok : goal.returns-in-Ok
returns-in-Ok c =
    let net = c.args.net.now in
    let who = c.args.who.now in
    let msg = c.args.msg.now in
    let old = c.args.told.now in
    let bytes = msg.first.now ++ msg.second.now in
    let put = c.put_datagram.ensures in
    let none : msg.second.now ≡ [] = no_bytes msg.second.now (sym c.is_empty.ensures ∙ c.if-is_empty.true) in
    let is : datagram_of who c.in-Ok.port msg.first.now ≡ datagram_of who msg.b bytes =
    ap (λ p. datagram_of who p msg.first.now) c.in-Ok.ensures.1 ∙ ap (datagram_of who msg.b) (sym (ap (λ z. msg.first.now ++ z) none ∙ append-nil msg.first.now)) in
    let says : send_records net who.number c.args.tried (datagram_of who c.in-Ok.port msg.first.now) ≡ message_records net who msg.tag msg.a msg.b bytes = ap (send_records net who.number c.args.tried) is ∙ sym (c.requires.sends msg.b bytes) in
    let lacks : not (has_route net (datagram_of who c.in-Ok.port msg.first.now)) ≡ message_lacks_route net who msg.tag msg.b bytes = ap (λ (m : SendTo). not (has_route net m)) is ∙ sym (c.requires.lacks msg.b bytes) in (
      put.closed,
      subst (SpellsMore old c.put_datagram.new.self) says put.more,
      λ kept. (let no = no_delivery msg.tag c.requires.tag in (rw (no.0) put.found.0, rw (no.1) put.found.1, rw (no.0) put.found.2, rw (no.2) (put.found.3 ∙ sym (or_none_there old.answer)))),
      λ kept. put.stuck ∙ ap (λ z. old.is_stuck || z) lacks,
    )
