use Rattle.std.proofs.Common.{◌≡◌, true, List, ℕ, ◌++◌, take, ◌∙◌, ap}
use Rattle.std.proofs.lemmas.List.{take-append-drop}
use Rattle.nb_terms.specs.declared.acts.SendTo.{SendTo}
use Rattle.nb_stack.specs.declared.taken.Fate.{Fate}
use Rattle.nb_stack.specs.Envelope.{message_of}
use Rattle.nb_stack.specs.Sends.{put_on, way_of, fate_of}
use Rattle.nb_machine.specs.Sendings.{has_route}
use Rattle.nb_teller.specs.Speakers.{datagram_of}
use Rattle.nb_teller.proofs.Sendings.{on_its_way}
use Rattle.nb_teller.proofs.put.put_any.Goals as goal

pub returns-clause-records : goal.returns-clause-records
returns-clause-records c =
    let net = c.args.net.now in
    let body = c.args.body.now in
    let first = c.split_at.result.0.now in
    let second = c.split_at.result.1.now in
    let message = datagram_of c.args.who.now c.args.port body in
    let frame_by : SendTo → List ℕ = λ m. put_on net m (way_of net m) in
    let fate_by : SendTo → Fate = λ m. fate_of net (way_of net m) in
    let whole : first ++ second ≡ body =
    ap (λ z. z ++ second) c.split_at.ensures.front ∙ ap (λ z. take c.head_len.result body ++ z) c.split_at.ensures.back ∙ take-append-drop c.head_len.result body in
    let is : message_of c.envelope.result first second ≡ message = ap (λ e. message_of e first second) c.envelope.ensures ∙ ap (datagram_of c.args.who.now c.args.port) whole in
    let same : c.written.result.now ≡ frame_by message =
    c.written.ensures ∙ c.send_parts.ensures.put ∙ ap (λ t. t ++ frame_by (message_of c.envelope.result first second)) c.out-out.ensures.empty ∙ ap frame_by is in
    let goes : has_route net message ≡ true = on_its_way (fate_by message) (λ e. c.in_default.not-NoRoute (c.send_parts.ensures.fate ∙ ap fate_by is ∙ e)) in
    rw (goes, ← same) c.put_frame.ensures
