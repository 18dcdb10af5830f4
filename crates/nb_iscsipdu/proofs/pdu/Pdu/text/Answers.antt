use Rattle.std.proofs.Common.{◌≡◌, IfOk, [], ◌∙◌, ◌++◌, List, ℕ, ap, sym, subst}
use Rattle.nb_iscsipdu.specs.PduTexts.{pdu_parts}
use Rattle.nb_iscsipdu.proofs.PduLemmas.{pdu_text-reads, parts_put, head_alone, none_in}
use Rattle.nb_iscsipdu.proofs.pdu.Pdu.text.Goals as goal

pub returns-then-is_empty-clause-text : goal.returns-then-is_empty-clause-text
returns-then-is_empty-clause-text c =
    let none : c.args.self.now.seg.now ≡ [] = none_in c.args.self.now.seg.now c.is_empty.result c.is_empty.ensures c.if-is_empty.true in
    subst (λ (x : List ℕ). IfOk c.head_text.result (λ (text : List ℕ). text ≡ x)) (sym (head_alone (pdu_parts c.args.self.now) none)) c.head_text.ensures

pub returns-then-is_empty-clause-readable : goal.returns-then-is_empty-clause-readable
returns-then-is_empty-clause-readable c = pdu_text-reads (pdu_parts c.args.self.now) c.requires

pub returns-in_err-text-clause-readable : goal.returns-in_err-text-clause-readable
returns-in_err-text-clause-readable c = pdu_text-reads (pdu_parts c.args.self.now) c.requires

pub returns-clause-text : goal.returns-clause-text
returns-clause-text c =
    parts_put (pdu_parts c.args.self.now) [] c.extend_from_slice.new.self.items c.extend_from_slice-2.new.self.items c.from_vec.result c.padding_for-padding.result.now c.padding_for-padding.ensures (c.in_ok-extend_from_slice.ensures.items ∙ ap (λ (x : List ℕ). x ++ c.args.self.now.head) c.in_ok-text.ensures.items) c.in_ok-extend_from_slice-2.ensures.items (c.from_vec.ensures ∙ c.in_ok-extend_from_slice-3.ensures.items)

pub returns-clause-readable : goal.returns-clause-readable
returns-clause-readable c = pdu_text-reads (pdu_parts c.args.self.now) c.requires
