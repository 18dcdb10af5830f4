use Rattle.std.proofs.Common.{◌≡◌, ◌∷◌, ◌++◌, [], sym, subst, ◌∙◌, ap, arith, append_assoc}
use Rattle.nb_dhcpmsg.proofs.StreamLemmas.{one_more, no_more}
use Rattle.nb_dhcpmsg.specs.Streams.{HoldsOption}
use Rattle.nb_dhcpmsg.proofs.stream.Stream.put.Goals as goal

pub returns-in_default-2-clause-value : goal.returns-in_default-2-clause-value
returns-in_default-2-clause-value c = λ bytes h fits.
    let (done, here) = c.bytes.invariant.put bytes h fits in
    let less = no_more c.bytes._i bytes (c.in_default.ensures.value _ here) in
    absurd (omega (arith, c.bytes-test.true))

pub bytes-preserved : goal.bytes-preserved
bytes-preserved c =
    let less = c.in-Some.ensures.less in
    let before = c.bytes.invariant.less in
    record {
      put = λ bytes h fits.
          let (done, here) = c.bytes.invariant.put bytes h fits in
          let (rest, is, later) = c.in-Some.ensures.value _ here in
          let more = one_more c.bytes._i bytes rest _ is in
          let pushed : c.try_push.new.self.items ≡ c.bytes.to.items ++ c.in-Some.byte ∷ [] = grind (arith, c.try_push.ensures.ok, c.if-is_ok.true, c.is_ok.ensures.value) in (
            pushed ∙ ap (λ xs. xs ++ c.in-Some.byte ∷ []) done ∙ append_assoc c.args.to.now.items _ (c.in-Some.byte ∷ []) ∙ ap (λ xs. c.args.to.now.items ++ xs) (sym more.done),
            subst (λ b. HoldsOption c.byte.new.self b) (sym more.left) later,
          );
      room = λ _. grind (arith, c.try_push.ensures.variant, c.try_push.ensures.len, c.if-is_ok.true, c.is_ok.ensures.value);
      less = omega arith;
    }
