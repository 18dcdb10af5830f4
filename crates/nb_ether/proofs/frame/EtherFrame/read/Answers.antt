use Rattle.std.proofs.Common.{arith}
use Rattle.nb_wire.proofs.BytesLaws.{IsBytes}
use Rattle.nb_ether.specs.Frame.{IsFrame}
use Rattle.nb_wire.proofs.BytesLaws.{Splits, splits_of}
use Rattle.nb_ether.proofs.FrameLaws.{frame_read, frame_one}
use Rattle.nb_ether.proofs.frame.EtherFrame.read.Goals as goal

is_frame : (c : goal.After-from_be_bytes) → IsFrame c.args.bytes.now (record { dst = record { 0 = c.in_ok-dst.dst.now }; src = record { 0 = c.in_ok-src.src.now }; kind = c.from_be_bytes.result; body = c.in_ok-kind.body.now })
is_frame c =
    let bytes : IsBytes c.args.bytes.now = λ i. omega (arith, c.type_inv.bytes i) in
    let first : Splits 6 c.args.bytes.now c.in_ok-dst.dst.now c.in_ok-dst.rest.now = splits_of 6 _ _ _ c.in_ok-dst.ensures.cases.0 c.in_ok-dst.ensures.cases.1 c.in_ok-dst.ensures.cases.2 in
    let second : Splits 6 c.in_ok-dst.rest.now c.in_ok-src.src.now c.in_ok-src.rest.now = splits_of 6 _ _ _ c.in_ok-src.ensures.cases.0 c.in_ok-src.ensures.cases.1 c.in_ok-src.ensures.cases.2 in
    let third : Splits 2 c.in_ok-src.rest.now c.in_ok-kind.kind.now c.in_ok-kind.body.now = splits_of 2 _ _ _ c.in_ok-kind.ensures.cases.0 c.in_ok-kind.ensures.cases.1 c.in_ok-kind.ensures.cases.2 in
    frame_read _ _ _ _ _ _ _ c.from_be_bytes.result bytes c.from_be_bytes.ensures first second third

pub returns-clause-sound : goal.returns-clause-sound
returns-clause-sound c = is_frame c

pub returns-clause-complete : goal.returns-clause-complete
returns-clause-complete c = λ f is. frame_one _ _ _ (is_frame c) is
