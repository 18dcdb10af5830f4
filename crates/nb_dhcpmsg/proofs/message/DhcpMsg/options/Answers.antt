use Rattle.std.proofs.Common.{◌≡◌, List, sym, ap, ◌∙◌, arith}
use Rattle.std.specs.Prelude.{IfOk, Result, Ok, Err}
use Rattle.nb_dhcpmsg.specs.Options.{TagValue}
use Rattle.nb_dhcpmsg.specs.Messages.{HasOptions}
use Rattle.nb_dhcpmsg.specs.Lefts.{IsLeft}
use Rattle.nb_dhcpmsg.specs.Collected.{tag_values}
use Rattle.nb_dhcpmsg.proofs.MessageLemmas.{short_none, begun_left}
use Rattle.nb_dhcpmsg.proofs.message.DhcpMsg.options.Goals as goal

pub returns-then-self-lt-OPTIONS : goal.returns-then-self-lt-OPTIONS
returns-then-self-lt-OPTIONS c = λ os h.
    ap tag_values c.new.ensures.items ∙ sym (short_none c.args.self.now.whole.now os (omega (arith, c.if-self-lt-OPTIONS.true)) h)

pub returns : goal.returns
returns c = by_ok c.options_left.result
    (λ all. (os : List TagValue) → IsLeft c.of.result os → tag_values all.items ≡ os)
    (λ all. (os : List TagValue) → HasOptions c.args.self.now.whole.now os → tag_values all.items ≡ os)
    (λ all h os has. h os (begun_left c.of.result c.args.self.now.whole.now os c.of.ensures has)) c.options_left.ensures
  where
    by_ok : {A E : Type 0} (r : Result A E) (P Q : A → Type 0) → ((a : A) → P a → Q a) → IfOk r P → IfOk r Q
    by_ok (Ok a) P Q f h = f a h
    by_ok (Err e) P Q f h = h
