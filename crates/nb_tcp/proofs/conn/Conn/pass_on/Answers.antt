use Rattle.std.proofs.Common.{◌+◌, length, refl, ap, ◌∙◌, sym, arith}
use Rattle.std.proofs.lemmas.Bool.Decides.{nat_tests}
use Rattle.nb_terms.specs.declared.acts.Acts.{Acts}
use Rattle.nb_tcp.specs.declared.variables.Variables.{Variables}
use Rattle.nb_tcp.specs.Arriving.{incoming}
use Rattle.nb_tcp.specs.Replies.{acknowledging}
use Rattle.nb_tcp.proofs.HandOnLemmas.{as_before}
use Rattle.nb_tcp.proofs.conn.Conn.pass_on.Goals as goal

pub returns-then-is_empty : goal.returns-then-is_empty
returns-then-is_empty c = as_before c.args.self.now _ _ c.in-Established.is c.in-Some.is

pub returns-then-not-is_next : goal.returns-then-not-is_next
returns-then-not-is_next c = as_before c.args.self.now _ _ c.in-Established.is c.in-Some.is

pub returns-then-not-is_bare_at : goal.returns-then-not-is_bare_at
returns-then-not-is_bare_at c = as_before c.args.self.now _ _ c.in-Established.is c.in-Some.is

pub returns : goal.returns
returns c =
    let after : Variables = record c.in-Established.variables { next = c.in-Established.variables.next + length c.args.segment.now.body.now; room = c.args.segment.now.window } in
    record {
      variables = c.in-Established.variables;
      state_was = c.in-Established.is;
      next = sym c.is_next.ensures.value ∙ c.if-not-is_next.false;
      low = c.is_next.ensures.low;
      some = grind (arith, nat_tests, c.is_empty.ensures, c.if-is_empty.false);
      was = c.in-Some.held;
      held_was = c.in-Some.is;
      bare = c.is_bare_at.ensures c.if-not-is_bare_at.false;
      left = c.pass.new.self;
      held = refl;
      moves = record { base = c.pass.ensures.base; next = c.pass.ensures.next; size = c.pass.ensures.size; none = c.pass.ensures.none };
      state = refl;
      unacked = refl;
      acts_are = c.acknowledge.ensures ∙ ap (λ (a : Acts). acknowledging c.args.self.now.link after (incoming c.args.segment.now) a) c.tell_growth.ensures;
      retry = c.start.ensures.value;
      link = refl;
      given = refl;
    }
