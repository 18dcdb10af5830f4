use Rattle.std.proofs.Common.{ℕ, get_or, take, subst, refl, arith}
use Rattle.nb_wire.proofs.BytesLaws.{IsBytes, Splits, splits_of}
use Rattle.nb_ipv4.specs.EchoText.{IsEchoKind, IsEcho}
use Rattle.nb_ipv4.proofs.EchoLaws.{echo_placed, echo_made, echo_one, made}
use Rattle.nb_ipv4.proofs.echo.Echo.read.Goals as goal
use Rattle.nb_ipv4.proofs.echo.Echo.read.Goals.{then-not-is_echo-via-then-not-is_echo, then-not-is_echo-via-else-not-is_echo+then-not-is_intact}

pub returns-in_err-fixed-clause-complete : goal.returns-in_err-fixed-clause-complete
returns-in_err-fixed-clause-complete c = λ e is.
    let placed = echo_placed (take 8 c.args.bytes.now) c.args.bytes.now e refl is in
    absurd (omega (arith, placed.long, c.in_err-fixed.ensures.cases))

pub returns-then-not-is_echo-clause-complete : goal.returns-then-not-is_echo-clause-complete
returns-then-not-is_echo-clause-complete c = λ e is.
    let placed = echo_placed c.in_ok-fixed.fixed.now c.args.bytes.now e c.in_ok-fixed.ensures.cases.0 is in
    let P : ℕ → Type 0 = λ n. IsEchoKind n in
    elim c.then-not-is_echo.branch [
      | then-not-is_echo-via-then-not-is_echo w ↦ w.if-not-is_echo.ensures (subst P placed.kind is.kind) placed.code
      | then-not-is_echo-via-else-not-is_echo+then-not-is_intact w ↦ w.if-not-is_intact.ensures is.total is.checked
    ]

is_echo : (c : goal.After-from_be_bytes-2) → IsEcho c.args.bytes.now (made (get_or c.in_ok-fixed.fixed.now 0 0) c.from_be_bytes.result c.from_be_bytes-2.result c.in_ok-fixed.body.now)
is_echo c =
    let bytes : IsBytes c.args.bytes.now = λ i. omega (arith, c.type_inv.bytes i) in
    let split : Splits 8 c.args.bytes.now c.in_ok-fixed.fixed.now c.in_ok-fixed.body.now = splits_of 8 _ _ _ c.in_ok-fixed.ensures.cases.0 c.in_ok-fixed.ensures.cases.1 c.in_ok-fixed.ensures.cases.2 in
    let form = c.if-not-is_echo.ensures in
    let whole = c.if-not-is_intact.ensures in
    echo_made c.in_ok-fixed.fixed.now c.in_ok-fixed.body.now c.args.bytes.now c.from_be_bytes.result c.from_be_bytes-2.result bytes split form.0 form.1 (omega (arith, c.from_be_bytes.ensures)) (omega (arith, c.from_be_bytes-2.ensures)) whole.0 whole.1

pub returns-clause-sound : goal.returns-clause-sound
returns-clause-sound c = is_echo c

pub returns-clause-complete : goal.returns-clause-complete
returns-clause-complete c = λ e is. echo_one _ _ e (is_echo c) is
