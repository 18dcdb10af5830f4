use Rattle.std.proofs.Common.{refl, sym, ◌∙◌, arith}
use Rattle.nb_dhcpmsg.proofs.MessageLemmas.{Found, byte_found, begun_options, message_one, no_kind}
use Rattle.nb_dhcpmsg.proofs.ReadingLemmas.{message_is, no_message}
use Rattle.nb_dhcpmsg.proofs.message.DhcpMsg.read.Goals as goal
use Rattle.nb_dhcpmsg.proofs.message.DhcpMsg.read.Goals.{then-bytes-lt-OPTIONS-via-then-bytes-lt-OPTIONS, then-bytes-lt-OPTIONS-via-else-bytes-lt-OPTIONS+then-not-has_cookie}

pub returns-clause-sound : goal.returns-clause-sound
returns-clause-sound c =
    let f : Found 53 c.in-Some.kind c.of.result = byte_found c.only_byte.result 53 c.in-Some.kind c.of.result c.only_byte.ensures (sym c.byte.ensures ∙ c.in-Some.is) in
    record {
      long = omega (arith, c.if-bytes-lt-OPTIONS.false);
      cookie = grind (arith, c.has_cookie.ensures, c.if-not-has_cookie.false);
      op = refl;
      xid = c.number_at.ensures;
      yiaddr = c.number_at-2.ensures;
      siaddr = c.number_at-3.ensures;
      chaddr = c.hardware.ensures;
      options = f.options;
      has_options = begun_options c.of.result c.args.bytes.now f.options c.of.ensures f.left;
      kind = f.value;
    }

pub returns-clause-complete : goal.returns-clause-complete
returns-clause-complete c = λ m is. message_one c.args.bytes.now _ m (returns-clause-sound c) is

pub returns-in_default-clause-complete : goal.returns-in_default-clause-complete
returns-in_default-clause-complete c = λ m is. no_kind c.only_byte.result c.of.result c.args.bytes.now m c.only_byte.ensures (sym c.byte.ensures ∙ c.in_default.is) c.of.ensures is

pub returns-then-bytes-lt-OPTIONS-clause-value : goal.returns-then-bytes-lt-OPTIONS-clause-value
returns-then-bytes-lt-OPTIONS-clause-value c = sym (no_message c.args.bytes.now (λ m is. elim c.then-bytes-lt-OPTIONS.branch [
  | then-bytes-lt-OPTIONS-via-then-bytes-lt-OPTIONS w ↦ let long = is.long in omega arith
  | then-bytes-lt-OPTIONS-via-else-bytes-lt-OPTIONS+then-not-has_cookie w ↦ let cookie = is.cookie in grind (arith, w.has_cookie.ensures, w.if-not-has_cookie.true)
]))

pub returns-in_default-clause-value : goal.returns-in_default-clause-value
returns-in_default-clause-value c = sym (no_message c.args.bytes.now (λ m is. no_kind c.only_byte.result c.of.result c.args.bytes.now m c.only_byte.ensures (sym c.byte.ensures ∙ c.in_default.is) c.of.ensures is))

pub returns-clause-value : goal.returns-clause-value
returns-clause-value c = sym (message_is c.args.bytes.now _ (returns-clause-sound c))
