use Rattle.std.proofs.Common.{◌≡◌, ◌∙◌, List, ℕ, Some, true, refl, ap, sym, subst}
use Rattle.nb_iscsipdu.specs.Streams.{IsGatheredPdu, is_whole_pdu, pdu_of}
use Rattle.nb_iscsipdu.proofs.StreamLemmas.{whole-reads}
use Rattle.nb_iscsipdu.proofs.pdus.Pdus.pdu.Goals as goal

pub returns-then-is_whole : goal.returns-then-is_whole
returns-then-is_whole c =
    let bytes : List ℕ = c.as_slice.result.now in
    let same : bytes ≡ c.args.self.now = cc in
    let on : is_whole_pdu c.args.self.now ≡ true = cc in
    let whole : is_whole_pdu bytes ≡ true = ap is_whole_pdu same ∙ on in
    let gathered : IsGatheredPdu bytes = subst IsGatheredPdu (sym c.as_slice.ensures.value) c.self.invariant.1 in
    c.read.ensures.complete (pdu_of bytes) (whole-reads bytes gathered whole) ∙ ap (λ (x : List ℕ). Some (pdu_of x)) same ∙ rw on refl
