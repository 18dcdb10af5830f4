use Rattle.std.proofs.Common.{◌≡◌, ◌-◌, [], ◌∷◌, length, None, arith, ap, not, sym, ◌∙◌, subst, true, if◌then◌else◌}
use Rattle.std.specs.Option.{is_some}
use Rattle.nb_graph.specs.Trace.{up, in_list, bytes_between}
use Rattle.nb_tcpseg.specs.SegmentText.{segment_parts}
use Rattle.nb_conns.specs.declared.stage.ConnStage.{ConnStage}
use Rattle.nb_conns.specs.declared.stage.ConnStage.TheVariants.{Over}
use Rattle.nb_conns.specs.declared.stage.Running.{Running as Connected}
use Rattle.nb_conns.specs.ConnEffects.{boxed, ConnEffects, received_says, ups_for, closes_for}
use Rattle.nb_conns.specs.Dialogues.{CarriesOnHome, TalksSo, TookSegment, HandedOn, lent_out, with_segment_call}
use Rattle.nb_conns.proofs.BodyLemmas.{body_between}
use Rattle.nb_conns.proofs.DialogueLemmas.{cuts_on, at_home}
use Rattle.nb_conns.proofs.TalkLemmas.{here_in, segment_on, handed_on}
use Rattle.nb_conns.proofs.tcp.Tcp.take_segment.Goals as goal

pub returns-in_default-take-clause-leads : goal.returns-in_default-take-clause-leads
returns-in_default-take-clause-leads g c = λ slot m here r took len. at_home _ _ _ _ (cuts_on _ _ _ _ c.give_up.ensures.over (λ d at. ap not c.give_up.ensures.err) tt)

pub returns-then-not-has_delivered-clause-leads : goal.returns-then-not-has_delivered-clause-leads
returns-then-not-has_delivered-clause-leads g c = λ slot m here r took len. at_home _ _ _ _ (cuts_on _ _ _ _ c.give_up-then-not-has_delivered.ensures.over (λ d at. ap not c.give_up-then-not-has_delivered.ensures.err) tt)

pub returns-then-hand_on-clause-leads : goal.returns-then-hand_on-clause-leads
returns-then-hand_on-clause-leads g c = λ slot m here r all len.
    let acts = c.hand_on.new.acts in
    let parts = segment_parts c.args.segment.now in
    let talks = here_in c.args.self.now.stage c.in-Running.running slot m parts c.in-Running.is here in
    let body : bytes_between m.bytes (c.args.len - length parts.body) c.args.len ≡ parts.body = subst (λ n. bytes_between m.bytes (n - length parts.body) n ≡ parts.body) len (body_between m.bytes parts talks.1) in
    let effects : ConnEffects g.L.CarriesConn.carrier m acts (received_says m.rec parts.body ∷ []) [] [] c.pass_on.new.fx = subst (λ z. ConnEffects g.L.CarriesConn.carrier m acts (received_says m.rec z ∷ []) [] [] c.pass_on.new.fx) body (c.pass_on.ensures.effects m) in
    subst (λ (z : ConnStage). CarriesOnHome g.L.CarriesConn.carrier z c.pass_on.new.self.stage (up slot m c.args.now true c.pass_on.new.fx)) (sym c.in-Running.is)
    (handed_on g.L.CarriesConn.carrier slot m c.args.now c.pass_on.new.fx parts acts c.in-Running.running c.hand_on.new.self c.pass_on.new.self.stage talks effects (c.pass_on.ensures.took ∙ all)
    (λ a start calls t. subst (λ z. HandedOn a start calls (with_segment_call calls z parts c.args.now acts) parts.body acts c.hand_on.new.self) (sym r) (c.hand_on.ensures.on c.if-hand_on.true a start calls t)) c.pass_on.ensures.stage)

pub returns-in_default-take-2-clause-leads : goal.returns-in_default-take-2-clause-leads
returns-in_default-take-2-clause-leads g c = λ slot m here r took len. at_home _ _ _ _ (cuts_on _ _ _ _ c.give_up-in_default-take-2.ensures.over (λ d at. ap not c.give_up-in_default-take-2.ensures.err) tt)

pub returns-then-hand_on-clause-within : goal.returns-then-hand_on-clause-within
returns-then-hand_on-clause-within g c = c.pass_on.ensures.within c.args.len (omega (arith, c.requires.body, c.requires.short)) (omega (arith, c.requires.short))

pub returns-clause-within : goal.returns-clause-within
returns-clause-within g c = c.carry_out.ensures.within c.args.len

pub returns-clause-leads : goal.returns-clause-leads
returns-clause-leads g c = λ slot m here r all len.
    let acts = c.take-ends.new.acts in
    let lent = c.take-ends.new.lent in
    let parts = segment_parts c.args.segment.now in
    let window : boxed c.keep-window.result ≡ lent_out lent = c.keep-window.ensures.window in
    let effects : ConnEffects g.L.CarriesConn.carrier m acts (ups_for m.rec (lent_out lent) c.take-ends.result) (closes_for acts.over) (in_list (lent_out lent)) c.carry_out.new.fx = subst (λ z. ConnEffects g.L.CarriesConn.carrier m acts (ups_for m.rec z c.take-ends.result) (closes_for acts.over) (in_list z) c.carry_out.new.fx) window (c.carry_out.ensures.effects m) in
    let same : c.hand_on.new.self ≡ c.in-Running.running = c.hand_on.ensures.same c.if-hand_on.false in
    subst (λ (z : ConnStage). CarriesOnHome g.L.CarriesConn.carrier z c.carry_out.new.self.stage (up slot m c.args.now true c.carry_out.new.fx)) (sym c.in-Running.is)
    (segment_on g.L.CarriesConn.carrier slot m c.args.now c.carry_out.new.fx parts acts c.in-Running.running c.take-ends.new.self lent c.take-ends.result c.carry_out.new.self.stage
    (here_in c.args.self.now.stage c.in-Running.running slot m parts c.in-Running.is here) effects (c.carry_out.ensures.took ∙ all)
    (λ a start calls t. subst (λ z. TookSegment a start calls (with_segment_call calls z parts c.args.now acts) acts lent c.take-ends.new.self c.take-ends.result) (sym r) (c.take-ends.ensures a start calls (subst (λ (z : Connected). TalksSo z a start calls None) (sym same) t)))
    (c.carry_out.ensures.stage ∙ ap (λ (z : ConnStage). if is_some acts.over then Over else z) c.keep-window.ensures.stage))
