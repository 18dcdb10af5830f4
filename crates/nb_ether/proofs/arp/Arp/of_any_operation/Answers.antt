use Rattle.std.proofs.Common.{◌≡◌, [], ◌∷◌, Some, ap, arith, rules}
use Rattle.nb_wire.proofs.BytesLaws.{IsBytes}
use Rattle.nb_ether.specs.declared.arp.Arp.{Arp}
use Rattle.nb_ether.specs.ArpText.{HasForm}
use Rattle.nb_wire.proofs.BytesLaws.{Splits, splits_of}
use Rattle.nb_ether.proofs.ArpLaws.{form_read, form_one, form_long}
use Rattle.nb_ether.proofs.arp.Arp.of_any_operation.Goals as goal

pub returns-in_err-sha-clause-complete : goal.returns-in_err-sha-clause-complete
returns-in_err-sha-clause-complete c = λ a is. absurd (omega (arith, form_long _ a is, c.in_ok-kinds.ensures.cases.2, c.in_ok-op.ensures.cases.2, c.in_err-sha.ensures.cases))

pub returns-in_err-spa-clause-complete : goal.returns-in_err-spa-clause-complete
returns-in_err-spa-clause-complete c = λ a is. absurd (omega (arith, form_long _ a is, c.in_ok-kinds.ensures.cases.2, c.in_ok-op.ensures.cases.2, c.in_ok-sha.ensures.cases.2, c.in_err-spa.ensures.cases))

pub returns-in_err-tha-clause-complete : goal.returns-in_err-tha-clause-complete
returns-in_err-tha-clause-complete c = λ a is. absurd (omega (arith, form_long _ a is, c.in_ok-kinds.ensures.cases.2, c.in_ok-op.ensures.cases.2, c.in_ok-sha.ensures.cases.2, c.in_ok-spa.ensures.cases.2, c.in_err-tha.ensures.cases))

pub returns-in_err-tpa-clause-complete : goal.returns-in_err-tpa-clause-complete
returns-in_err-tpa-clause-complete c = λ a is. absurd (omega (arith, form_long _ a is, c.in_ok-kinds.ensures.cases.2, c.in_ok-op.ensures.cases.2, c.in_ok-sha.ensures.cases.2, c.in_ok-spa.ensures.cases.2, c.in_ok-tha.ensures.cases.2, c.in_err-tpa.ensures.cases))

has_form : (c : goal.After-from_be_bytes-3) → HasForm c.args.bytes.now (record { op = c.from_be_bytes.result; sha = record { 0 = c.in_ok-sha.sha.now }; spa = record { 0 = c.from_be_bytes-2.result }; tha = record { 0 = c.in_ok-tha.tha.now }; tpa = record { 0 = c.from_be_bytes-3.result } })
has_form c =
    let bytes : IsBytes c.args.bytes.now = λ i. omega (arith, c.type_inv.bytes i) in
    let kinds : Splits 6 c.args.bytes.now c.in_ok-kinds.kinds.now c.in_ok-kinds.rest.now = splits_of 6 _ _ _ c.in_ok-kinds.ensures.cases.0 c.in_ok-kinds.ensures.cases.1 c.in_ok-kinds.ensures.cases.2 in
    let op : Splits 2 c.in_ok-kinds.rest.now c.in_ok-op.op.now c.in_ok-op.rest.now = splits_of 2 _ _ _ c.in_ok-op.ensures.cases.0 c.in_ok-op.ensures.cases.1 c.in_ok-op.ensures.cases.2 in
    let sha : Splits 6 c.in_ok-op.rest.now c.in_ok-sha.sha.now c.in_ok-sha.rest.now = splits_of 6 _ _ _ c.in_ok-sha.ensures.cases.0 c.in_ok-sha.ensures.cases.1 c.in_ok-sha.ensures.cases.2 in
    let spa : Splits 4 c.in_ok-sha.rest.now c.in_ok-spa.spa.now c.in_ok-spa.rest.now = splits_of 4 _ _ _ c.in_ok-spa.ensures.cases.0 c.in_ok-spa.ensures.cases.1 c.in_ok-spa.ensures.cases.2 in
    let tha : Splits 6 c.in_ok-spa.rest.now c.in_ok-tha.tha.now c.in_ok-tha.rest.now = splits_of 6 _ _ _ c.in_ok-tha.ensures.cases.0 c.in_ok-tha.ensures.cases.1 c.in_ok-tha.ensures.cases.2 in
    let tpa : Splits 4 c.in_ok-tha.rest.now c.in_ok-tpa.tpa.now c.in_ok-tpa._padding.now = splits_of 4 _ _ _ c.in_ok-tpa.ensures.cases.0 c.in_ok-tpa.ensures.cases.1 c.in_ok-tpa.ensures.cases.2 in
    let kinds-is : c.in_ok-kinds.kinds.now ≡ 0 ∷ 1 ∷ 8 ∷ 0 ∷ 6 ∷ 4 ∷ [] = search rules in
    form_read _ _ _ _ _ _ _ _ _ _ _ _ _ c.from_be_bytes.result c.from_be_bytes-2.result c.from_be_bytes-3.result bytes kinds op sha spa tha tpa kinds-is c.from_be_bytes.ensures c.from_be_bytes-2.ensures c.from_be_bytes-3.ensures

pub returns-clause-sound : goal.returns-clause-sound
returns-clause-sound c = has_form c

pub returns-clause-complete : goal.returns-clause-complete
returns-clause-complete c = λ a form. ap (λ (x : Arp). Some x) (form_one _ _ a (has_form c) form)
