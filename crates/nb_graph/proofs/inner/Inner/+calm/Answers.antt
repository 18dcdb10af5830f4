use Rattle.nb_ledger.proofs.RunLemmas.{Given-none}
use Rattle.std.proofs.Common.{ℕ, ◌⊎◌, inl, inr, List, refl, sym, subst, ◌∙◌, arith, ap, rules, ◌≡◌, true, Some, None, append_assoc, [], ◌∷◌, ◌++◌}
use Rattle.std.specs.Vec.{vec_capacity}
use Rattle.nb_ledger.specs.Ledger.{Ledger, busy, place, port, open_count}
use Rattle.nb_effects.specs.Whole.{IsBookWhole, port_at}
use Rattle.nb_effects.specs.Calm.{IsSteady}
use Rattle.nb_ledger.specs.declared.port.PortState.TheVariants.{Leaving, Closed}
use Rattle.nb_ledger.specs.declared.event.Way.TheVariants.{Down}
use Rattle.nb_ledger.proofs.PortLemmas.{busy-live, open-live}
use Rattle.nb_effects.proofs.ShrinkLemmas.{ranks_fall}
use Rattle.nb_effects.proofs.CalmLemmas.{leaving-is, linked-apart, IsWhole-enter}
use Rattle.nb_effects.proofs.UnplugLemmas.{Starts-link, Starts-entry, Starts-one, Calm-link, Calm-entry, Calm-dropped, Calm-sent, Calm-alone, IsWhole-alone}
use Rattle.nb_effects.proofs.ShutLemmas.{shut-set, shut-link, shut-all, closes-none, closes-step, shut-still}
use Rattle.nb_effects.proofs.MannedLemmas.{IsManned-same}
use Rattle.nb_ledger.specs.declared.event.GraphEvent.TheVariants.{Closed as CloseEvent, Dropped, Entered}
use Rattle.nb_effects.specs.Trace.{Said, carried, down, in_list, silence, lent, loads, said, nature}
use Rattle.nb_effects.specs.Deeds.{MustUnplug as Unlinks, Closes, Gives, Sends, all_closes, arrives, closes_of, emit_of, few_of, goes_out, is_shut, no_memory, returns_of, runs_of, said_of}
use Rattle.nb_effects.proofs.ShutLemmas.{closes_of-none, closes_of-step}
use Rattle.nb_graph.specs.Lives.{CalmFor, Same, here}
use Rattle.nb_effects.specs.Scene.{scene_of, shut_of, with_ports}
use Rattle.nb_effects.specs.Follows.{closes_alone, closes_none, passes, leaves, drops, enters_down}
use Rattle.nb_ledger.specs.Ledger.{leaves as leaving_to}
use Rattle.nb_effects.proofs.SceneLemmas.{scene-busy, scene-port}
use Rattle.nb_ledger.specs.GraphRun.{port_but}
use Rattle.nb_effects.proofs.WholeLemmas.{but_other}
use Rattle.nb_graph.proofs.LivesLemmas.{Lives-above, Lives-turn, Lives-weaken}
use Rattle.nb_effects.specs.Accounts.{Account, account, few_bytes}
use Rattle.nb_graph.proofs.NodeLemmas.{nothing-there}
use Rattle.nb_ledger.specs.declared.port.Port.{Port as ThePort}
use Rattle.nb_effects.specs.Asked.{asked}
use Rattle.nb_graph.specs.Sending.{said_with}
use Rattle.nb_effects.specs.Flows.{Closing, Downs, IsShut, Passing, asked_left, asked_sent, asked_whole}
use Rattle.nb_effects.proofs.AccountLemmas.{Calms-idle, Calms-turn, Calms-plain, Mild-same}
use Rattle.nb_graph.proofs.MildLemmas.{Lives-plain, Mild-busy, Mild-port}
use Rattle.nb_effects.proofs.FlowLemmas.{Calms-fail, Closing-then, Downs-closing, Downs-few, Passing-giving, Passing-open, Passing-shut, asked-zero, below-bytes, below-zero, closing-idle, following-done, following-fail, whole-left, whole-only}
use Rattle.nb_effects.proofs.DownLemmas.{Calms-down}
use Rattle.nb_effects.proofs.PassLemmas.{Calms-enter, Calms-link}
use Rattle.nb_effects.proofs.CallLemmas.{half-gone, half-left}
use Rattle.nb_graph.proofs.OwingLemmas.{Back-none}
use Rattle.nb_effects.specs.Order.{alone}
use Rattle.nb_effects.proofs.OrderLemmas.{Shuts-link, order-object, order-port}
use Rattle.nb_graph.proofs.EndLemmas.{IsQuiet-shrinks}
use Rattle.nb_graph.proofs.SeatLemmas.{Loses-refl, Loses-same}
use Rattle.nb_graph.proofs.EntryLemmas.{Lives-closed, Lives-entry}
use Rattle.nb_graph.proofs.AliveLemmas.{runs-below, CalmFor-opened, CalmFor-turned, CalmFor-turn, CalmFor-back, CalmFor-first, CalmFor-last, CalmFor-refl, CalmFor-regain, CalmFor-same, CalmFor-weaken, lent-below}
use Rattle.nb_graph.proofs.inner.Inner.+calm.Goals as goal

pub calm_effects-returns-clause-lives : goal.calm_effects-returns-clause-lives
calm_effects-returns-clause-lives g t c =
    let k = c.run_downs-place.ensures.lives in
    rw (lent-below c.args.fx.now _ c.requires.asks) (CalmFor-opened (λ st. ap (λ z. z ++ st) (runs-below (nature g.N.Node.kind_of g.N.Node.mark_of g.N.Load.Parts.first g.N.Load.Parts.second) c.args.id.0 (said c.args.msg.now) c.args.fx.now _ c.requires.asks) ∙ append_assoc (few_of (nature g.N.Node.kind_of g.N.Node.mark_of g.N.Load.Parts.first g.N.Load.Parts.second) c.args.id.0 (said c.args.msg.now) c.args.fx.now.downs) (closes_of c.args.id.0 c.args.fx.now.closes.items) st ∙ ap (λ z. few_of (nature g.N.Node.kind_of g.N.Node.mark_of g.N.Load.Parts.first g.N.Load.Parts.second) c.args.id.0 (said c.args.msg.now) c.args.fx.now.downs ++ (closes_of c.args.id.0 z ++ st)) (sym c.as_slice.ensures.value)) (CalmFor-last (loads c.args.fx.now.downs) c.requires.runs k c.close_asked.ensures.lives (λ ds p q i j w v h t. let z = Downs-closing c.args.self.now.book c.run_downs-place.new.self.book k.lives.moved.links k.lives.moved.shuts c.args.id.0 (λ n. few_bytes (nature g.N.Node.kind_of g.N.Node.mark_of g.N.Load.Parts.first g.N.Load.Parts.second) n (said c.args.msg.now).bytes c.args.fx.now.downs) p q j j w v h in (z.0, z.1, λ _. z.2))))

pub close_all-returns-clause-lives : goal.close_all-returns-clause-lives
close_all-returns-clause-lives g t c =
    let a = c.close_port.ensures.lives in
    let b = c.close_port-2.ensures.lives in
    let d = c.close_port-3.ensures.lives in
    let x = c.args.id.0 in
    CalmFor-same {g = Closing c.close_port.new.self.book x} a (CalmFor-same {g = Closing c.close_port-2.new.self.book x} b (CalmFor-same d c.close_port-4.ensures.lives
    (λ ds p q i j w v h t. let z = Closing-then _ _ d.lives.moved.links d.lives.moved.shuts x p q j j w v h in (z.0, z.1, λ _. z.2)))
    (λ ds p q i j w v h t. let z = Closing-then _ _ b.lives.moved.links b.lives.moved.shuts x p q j j w v h in (z.0, z.1, λ _. z.2)))
    (λ ds p q i j w v h t. let z = Closing-then _ _ a.lives.moved.links a.lives.moved.shuts x p q j j w v h in (z.0, z.1, λ _. z.2))

pub close_link-ask_closed-requires-clause-lives : goal.close_link-ask_closed-requires-clause-lives
close_link-ask_closed-requires-clause-lives g t c =
    busy-live _ _ c.close_both-was.ensures.runs

pub close_link-unplug-requires-clause-first : goal.close_link-unplug-requires-clause-first
close_link-unplug-requires-clause-first g t c =
    let gone = half-gone c.requires.steady.whole.links c.requires.linked c.close_both-was.ensures.half in
    let k = rw c.ask_closed.ensures.book at c.calm_effects-place.ensures.lives in
    leaving-is _ c.args.peer (k.calm.shrinks.same_leaves c.args.at.obj.0 c.args.at.slot ∙ ap leaving_to gone)

pub close_link-unplug-requires-clause-other : goal.close_link-unplug-requires-clause-other
close_link-unplug-requires-clause-other g t c =
    let left = half-left c.args.self.now.book c.close_both-was.new.self.book c.close_both-was.ensures.half in
    let k = rw c.ask_closed.ensures.book at c.calm_effects-place.ensures.lives in
    leaving-is _ c.args.at (k.calm.shrinks.same_leaves c.args.peer.obj.0 c.args.peer.slot ∙ ap leaving_to left)

pub close_link-unplug-requires-clause-apart : goal.close_link-unplug-requires-clause-apart
close_link-unplug-requires-clause-apart g t c = linked-apart _ c.args.at c.args.peer c.requires.steady.whole.links c.requires.linked

pub close_link-returns-clause-lives : goal.close_link-returns-clause-lives
unfolding Calm-link
close_link-returns-clause-lives g t c =
    let b = c.close_both-was.ensures in
    let k = rw c.ask_closed.ensures.book at c.calm_effects-place.ensures.lives in
    let gone = half-gone c.requires.steady.whole.links c.requires.linked b.half in
    let left = half-left c.args.self.now.book c.close_both-was.new.self.book b.half in
    record {
      calm = Calm-link c.requires.steady.whole.links c.requires.linked b.told b.run b.was b.half k.calm c.unplug.ensures.ends.0.ends;
      lives = Lives-closed _ _ c.args.peer.obj.0 (lent c.ask_closed.new.fx) (λ st. runs_of (nature g.N.Node.kind_of g.N.Node.mark_of g.N.Load.Parts.first g.N.Load.Parts.second) c.args.peer.obj.0 silence true c.ask_closed.new.fx ++ st) (λ st. Closes c.args.at c.args.cause.now ∷ st) (λ x n. b.half.busy_set x ∙ but_other c.args.peer.obj.0 true (busy c.args.self.now.book) x n) (b.lives c.args.now) (Lives-above (λ st. Unlinks c.args.at c.args.peer ∷ st) (rw c.ask_closed.ensures.book at c.ask_closed.ensures.lives (g.O.Outside.events c.close_both-was.new.out))) k.lives (c.unplug.ensures.ends.0.lives c.args.now)
          (λ bs ds es gs h i j z. Calms-link c.args.at c.args.peer _ _ c.requires.steady.whole.links c.requires.linked gone left (λ n. below-bytes (nature g.N.Node.kind_of g.N.Node.mark_of g.N.Load.Parts.first g.N.Load.Parts.second) [] 0 c.ask_closed.new.fx c.ask_closed.ensures.asks n) (below-zero (nature g.N.Node.kind_of g.N.Node.mark_of g.N.Load.Parts.first g.N.Load.Parts.second) [] 0 c.ask_closed.new.fx c.ask_closed.ensures.asks) h i j z);
    }

pub close_port-returns-in-Open-clause-lives : goal.close_port-returns-in-Open-clause-lives
unfolding Calm-alone
close_port-returns-in-Open-clause-lives g t c = record {
  calm = Calm-alone (sym c.in-Open.ensures) c.close_alone.ensures.sets c.close_alone.ensures.told c.close_alone.ensures.step;
  lives = Lives-weaken (λ x w v k. k.1) (λ ds k. Calms-idle k closing-idle) (Lives-plain g.N.Node.stands c.args.now _ _ (λ st. Closes c.args.at c.args.cause.now ∷ st) here (CloseEvent c.args.at c.args.cause.now) (Loses-same c.args.self.now.nodes.items c.close_alone.ensures.sets.objects) (scene-port c.close_alone.ensures.sets ∙ ap (λ v. with_ports (port_but c.args.at (shut_of v) (port c.args.self.now.book)) (scene_of c.args.self.now.book)) c.in-Open.ensures) c.close_alone.ensures.given (λ st ds s k. ([], closes_alone c.args.at c.args.cause.now (sym c.in-Open.ensures), k)) (Calms-plain _ _ _ (CloseEvent c.args.at c.args.cause.now) (Mild-port c.close_alone.ensures.sets (λ q e. cc) (λ q e. absurd (let z = c.in-Open.ensures ∙ e in cc)) refl) (λ p a. refl)));
}

pub close_port-returns-in-Open-clause-steady : goal.close_port-returns-in-Open-clause-steady
close_port-returns-in-Open-clause-steady g t c = record {
  whole = IsWhole-alone (sym c.in-Open.ensures) c.close_alone.ensures.sets c.requires.steady.whole;
  manned = IsManned-same c.close_alone.ensures.sets.objects c.requires.steady.manned;
}

pub close_port-returns-in-Leaving-clause-lives : goal.close_port-returns-in-Leaving-clause-lives
close_port-returns-in-Leaving-clause-lives g t c = CalmFor-turn _ _ _ _ _ _ (λ st. Closes c.args.at c.args.cause.now ∷ st) (is_shut c.args.at) (Given-none _) (λ st ds s k. ([], closes_none c.args.at c.args.cause.now (ap open_count (sym c.in-Leaving.ensures)), k)) closing-idle

pub close_port-returns-in-Closed-clause-lives : goal.close_port-returns-in-Closed-clause-lives
close_port-returns-in-Closed-clause-lives g t c = CalmFor-turn _ _ _ _ _ _ (λ st. Closes c.args.at c.args.cause.now ∷ st) (is_shut c.args.at) (Given-none _) (λ st ds s k. ([], closes_none c.args.at c.args.cause.now (ap open_count (sym c.in-Closed.ensures)), k)) closing-idle

pub enter_down_with-enter_in-was-requires : goal.enter_down_with-enter_in-was-requires
enter_down_with-enter_in-was-requires g t c = record { lives = open-live _ _ _ c.requires.open; place = c.requires.place }

pub fail-take_back-requires-clause-lives : goal.fail-take_back-requires-clause-lives
fail-take_back-requires-clause-lives g t c = busy-live _ _ c.requires.runs

pub pass_down-returns-then-is_free_of_live-clause-lives : goal.pass_down-returns-then-is_free_of_live-clause-lives
unfolding Calm-sent
pass_down-returns-then-is_free_of_live-clause-lives g t c = record { calm = Calm-sent _ _ _ c.send_part.ensures.told; lives = Lives-weaken (λ x w v k. k.1) (λ ds k. k) (Lives-turn _ c.args.now _ _ (λ st. Sends c.args.at (said_with c.args.emit.now c.args.rec (c.args.first.now ++ c.args.second.now)) ∷ st) here (goes_out c.args.at (said_with c.args.emit.now c.args.rec (c.args.first.now ++ c.args.second.now))) c.send_part.ensures.given (λ st ds s k. ([], leaves c.args.at (said_with c.args.emit.now c.args.rec (c.args.first.now ++ c.args.second.now)) (c.is_free_of_live.ensures.0 c.if-is_free_of_live.true), k)) (Calms-idle (Calms-turn _ _ _) (λ p q x y w v i j. Passing-open c.args.self.now.book c.args.at _ (c.is_free_of_live.ensures.0 c.if-is_free_of_live.true) p q y x.sent y.taken w v j i))) }

pub hand_down-returns-in-Leaving-clause-lives : goal.hand_down-returns-in-Leaving-clause-lives
unfolding Calm-dropped
hand_down-returns-in-Leaving-clause-lives g t c = record {
  calm = Calm-dropped _ _ _ c.args.at (Leaving c.in-Leaving.field-0) (sym c.in-Leaving.ensures) tt (c.drop_message.ensures.told);
  lives = Lives-weaken (λ x w v k. k.1) (λ ds k. Calms-idle k (λ p q x y w v i j. Passing-shut c.args.self.now.book c.args.at _ (ap open_count (sym c.in-Leaving.ensures)) p q y w v i)) (Lives-plain g.N.Node.stands c.args.now _ _ (λ st. Sends c.args.at (said_with c.args.emit.now c.args.rec (c.args.first.now ++ c.args.second.now)) ∷ st) here (Dropped c.args.at) (Loses-refl _) refl (c.drop_message.ensures.given) (λ st ds s k. ([], drops c.args.at (said_with c.args.emit.now c.args.rec (c.args.first.now ++ c.args.second.now)) (ap open_count (sym c.in-Leaving.ensures)), k)) (Calms-plain _ _ _ (Dropped c.args.at) (Mild-same refl (λ x k. refl)) (λ p a. refl)));
}

pub hand_down-returns-in-Closed-clause-lives : goal.hand_down-returns-in-Closed-clause-lives
unfolding Calm-dropped
hand_down-returns-in-Closed-clause-lives g t c = record {
  calm = Calm-dropped _ _ _ c.args.at Closed (sym c.in-Closed.ensures) tt (c.drop_message-in-Closed.ensures.told);
  lives = Lives-weaken (λ x w v k. k.1) (λ ds k. Calms-idle k (λ p q x y w v i j. Passing-shut c.args.self.now.book c.args.at _ (ap open_count (sym c.in-Closed.ensures)) p q y w v i)) (Lives-plain g.N.Node.stands c.args.now _ _ (λ st. Sends c.args.at (said_with c.args.emit.now c.args.rec (c.args.first.now ++ c.args.second.now)) ∷ st) here (Dropped c.args.at) (Loses-refl _) refl (c.drop_message-in-Closed.ensures.given) (λ st ds s k. ([], drops c.args.at (said_with c.args.emit.now c.args.rec (c.args.first.now ++ c.args.second.now)) (ap open_count (sym c.in-Closed.ensures)), k)) (Calms-plain _ _ _ (Dropped c.args.at) (Mild-same refl (λ x k. refl)) (λ p a. refl)));
}

pub run_closes-returns-in_default-clause-lives : goal.run_closes-returns-in_default-clause-lives
run_closes-returns-in_default-clause-lives g t c = CalmFor-opened (λ st. ap (λ z. z ++ st) (closes_of-none c.args.id.0 c.args.closes.now c.in_default.len_below)) (CalmFor-refl _ _ _ _ _ _ closing-idle)

pub run_closes-returns-in-len1-up-clause-lives : goal.run_closes-returns-in-len1-up-clause-lives
run_closes-returns-in-len1-up-clause-lives g t c =
    let a = c.close_port.ensures.lives in
    CalmFor-opened (λ st. ap (λ z. z ++ st) (closes_of-step c.args.id.0 c.args.closes.now (0, record { code = 0; a = 0; b = 0 }) c.in-len1-up.len_at_least)) (CalmFor-same a c.run_closes.ensures.lives (λ ds p q i j w v h t. let z = Closing-then _ _ a.lives.moved.links a.lives.moved.shuts c.args.id.0 p q j j w v h in (z.0, z.1, λ _. z.2)))

pub run_down-returns-else-emit-clause-lives : goal.run_down-returns-else-emit-clause-lives
run_down-returns-else-emit-clause-lives g t c =
    let e : c.args.emit.now ≡ None = sym c.emit.view_is ∙ ap (λ z. asked z c.emit.inside.what) c.if-emit.false in
    rw e (CalmFor-weaken (Back-none _ _ c.requires.runs) (λ p q x y w v i j. i) (CalmFor-refl _ _ _ _ _ _ (λ p q x y w v i j. i)))

pub run_downs-returns-then-is_asked-clause-lives : goal.run_downs-returns-then-is_asked-clause-lives
run_downs-returns-then-is_asked-clause-lives g t c =
    let a = c.run_down-place.ensures.lives in
    let b = c.run_down.ensures.lives in
    CalmFor-opened (λ st. append_assoc (emit_of (nature g.N.Node.kind_of g.N.Node.mark_of g.N.Load.Parts.first g.N.Load.Parts.second) c.args.id.0 (said c.args.msg.now) c.args.downs.now.first) (emit_of (nature g.N.Node.kind_of g.N.Node.mark_of g.N.Load.Parts.first g.N.Load.Parts.second) c.args.id.0 (said c.args.msg.now) c.args.downs.now.second) st) (CalmFor-back (carried c.args.downs.now.first) (carried c.args.downs.now.second) a b
    (λ ds p q i j w v h t. let z = Downs-few (nature g.N.Node.kind_of g.N.Node.mark_of g.N.Load.Parts.first g.N.Load.Parts.second) _ _ _ a.lives.moved.links a.lives.moved.shuts c.args.id.0 _ c.args.downs.now c.requires.downs p q j (account (nature g.N.Node.kind_of g.N.Node.mark_of g.N.Load.Parts.first g.N.Load.Parts.second) q j ds) w v h in (z.0, z.1, λ _. z.2)))

-- where nothing goes down, what is pending stays
downs-nothing : (l : Ledger) (x : ℕ) (p q : ThePort) (y : Account) (w v : List ℕ) → Downs l x (λ k. []) p q y w v → IsShut l p ⊎ (w ≡ v)
downs-nothing l x p q y w v (inl i) = inl i
downs-nothing l x p q y w v (inr (inl i)) = inr (i.2 ∙ sym i.3)
downs-nothing l x p q y w v (inr (inr i)) = inr i.1

pub run_downs-returns-else-is_asked-clause-lives : goal.run_downs-returns-else-is_asked-clause-lives
run_downs-returns-else-is_asked-clause-lives g t c =
    let first = nothing-there c.args.downs.now.first (sym c.is_asked.ensures ∙ c.if-is_asked.false) in
    let second = c.requires.downs.0 first in
    rw (first, second) (CalmFor-weaken (Back-none _ _ c.requires.runs) (λ p q x y w v i j. i) (CalmFor-refl _ _ _ _ _ _ (λ p q x y w v i j. downs-nothing _ _ p q y w v i)))

pub send_down-take_load-requires-clause-lives : goal.send_down-take_load-requires-clause-lives
send_down-take_load-requires-clause-lives g t c = busy-live _ _ (c.pass_down-place.ensures.lives.calm.shrinks.same_busy c.args.id.0 ∙ c.requires.runs)

pub enter_down_with-ask_down-done-requires-clause-lives : goal.enter_down_with-ask_down-done-requires-clause-lives
enter_down_with-ask_down-done-requires-clause-lives g t c = busy-live _ _ c.enter_in-was.ensures.runs

pub enter_down_with-leave-requires-clause-lives : goal.enter_down_with-leave-requires-clause-lives
enter_down_with-leave-requires-clause-lives g t c =
    busy-live _ _ (c.after_down-place.ensures.lives.calm.shrinks.same_busy c.args.at.obj.0 ∙ rw c.ask_down-done.ensures.book c.enter_in-was.ensures.runs)

pub enter_down_with-returns-clause-lives : goal.enter_down_with-returns-clause-lives
unfolding Calm-entry
enter_down_with-returns-clause-lives g t c =
    let b = c.enter_in-was.ensures in
    let k = rw c.ask_down-done.ensures.book at c.after_down-place.ensures.lives in
    let e = c.leave.ensures.ends Down (λ e. cc) in
    let r = Lives-entry _ _ c.args.at.obj.0 (lent c.ask_down-done.new.fx) (λ st. runs_of (nature g.N.Node.kind_of g.N.Node.mark_of g.N.Load.Parts.first g.N.Load.Parts.second) c.args.at.obj.0 (said c.args.msg.now) c.ask_down-done.result c.ask_down-done.new.fx ++ st) (λ st. Gives c.args.at (said c.args.msg.now) ∷ st) (Entered c.args.at Down) (λ done fx. down (said c.args.msg.now) c.args.now done fx) (λ x n. b.sets.busy_set x ∙ but_other c.args.at.obj.0 true (busy c.args.self.now.book) x n) (Loses-same c.args.self.now.nodes.items b.sets.objects) (scene-busy b.sets) b.given (λ st ds s k. (_, enters_down c.args.at (said c.args.msg.now) c.requires.slot c.requires.open, k)) (rw (c.ask_down-done.ensures.book, sym c.requires.slot) at c.ask_down-done.ensures.lives (g.O.Outside.events c.enter_in-was.new.out)) k.lives (e.lives c.args.now)
    (λ ds es gs x y z. Calms-down c.args.at (asked_sent (nature g.N.Node.kind_of g.N.Node.mark_of g.N.Load.Parts.first g.N.Load.Parts.second) (said c.args.msg.now).bytes c.ask_down-done.result c.ask_down-done.new.fx) (asked_whole (said c.args.msg.now).bytes c.ask_down-done.result) (asked_left (said c.args.msg.now).bytes c.ask_down-done.result) (said c.args.msg.now).bytes c.requires.slot (rw (b.sets.same_port c.args.at.obj.0 c.args.at.slot) c.requires.open) (IsWhole-enter b.sets c.requires.steady.whole).links (asked-zero (nature g.N.Node.kind_of g.N.Node.mark_of g.N.Load.Parts.first g.N.Load.Parts.second) _ _ c.ask_down-done.result c.ask_down-done.new.fx c.ask_down-done.ensures.asks) (whole-only _ c.ask_down-done.result) (whole-left _ c.ask_down-done.result) (Calms-enter _ _ _ c.args.at c.requires.slot (Mild-busy b.sets)) x y z) in (
      record {
        calm = Calm-entry b.sets b.told b.step (λ st. (c.requires.slot, c.requires.open)) b.was k.calm e.ends;
        lives = r.0;
      },
      r.1,
    )

pub run_downs-run_down-requires : goal.run_downs-run_down-requires
run_downs-run_down-requires g t c =
    let k = c.run_down-place.ensures.lives.calm.shrinks in
    let lower = ranks_fall c.args.id.0 k in
    let fewer = k.opens_fall in
    let runs = k.same_busy c.args.id.0 ∙ c.requires.runs in
    search rules

pub enter_down_with-after_down-place-requires : goal.enter_down_with-after_down-place-requires
enter_down_with-after_down-place-requires g t c =
    let s = c.enter_in-was.ensures.sets in
    let r = s.objects.same_rank c.args.at.obj.0 in
    let o = s.same_opens in
    let book = c.ask_down-done.ensures.book in
    let runs : busy c.ask_down-done.new.self.book c.args.at.obj.0 ≡ true = rw book c.enter_in-was.ensures.runs in
    let whole : IsBookWhole c.ask_down-done.new.self.book = rw book (IsWhole-enter s c.requires.steady.whole) in
    let steady : IsSteady g.N.Node.rank_of c.ask_down-done.new.self.book c.ask_down-done.new.self.nodes.items (vec_capacity c.ask_down-done.new.self.nodes) = record { whole = whole; manned = c.ask_down-done.ensures.manned } in
    let stands : c.args.index ≡ place c.ask_down-done.new.self.book c.args.at.obj.0 = rw book (c.requires.place ∙ sym (s.objects.same_place c.args.at.obj.0)) in
    search rules

pub close_port-returns-in-Open-clause-shut : goal.close_port-returns-in-Open-clause-shut
close_port-returns-in-Open-clause-shut g t c = shut-set c.close_alone.ensures.sets refl

pub close_port-returns-in-Leaving-clause-shut : goal.close_port-returns-in-Leaving-clause-shut
close_port-returns-in-Leaving-clause-shut g t c = ap open_count (sym c.in-Leaving.ensures)

pub close_port-returns-in-Closed-clause-shut : goal.close_port-returns-in-Closed-clause-shut
close_port-returns-in-Closed-clause-shut g t c = ap open_count (sym c.in-Closed.ensures)

pub close_link-returns-clause-shut : goal.close_link-returns-clause-shut
close_link-returns-clause-shut g t c =
    shut-link c.close_both-was.ensures.half (rw c.ask_closed.ensures.book at c.calm_effects-place.ensures.lives.calm) c.unplug.ensures.ends.0.ends

pub close_all-returns-clause-shut : goal.close_all-returns-clause-shut
close_all-returns-clause-shut g t c =
    shut-all c.args.id.0 c.close_port.ensures.shut c.close_port-2.ensures.shut c.close_port-3.ensures.shut c.close_port-4.ensures.shut c.close_port-2.ensures.lives.calm.shrinks c.close_port-3.ensures.lives.calm.shrinks c.close_port-4.ensures.lives.calm.shrinks

pub run_closes-returns-in_default-clause-shut : goal.run_closes-returns-in_default-clause-shut
run_closes-returns-in_default-clause-shut g t c =
    closes-none c.args.closes.now (λ k. open_count (port c.args.self.now.book c.args.id.0 k) ≡ 0) c.in_default.len_below

pub run_closes-returns-in-len1-up-clause-shut : goal.run_closes-returns-in-len1-up-clause-shut
run_closes-returns-in-len1-up-clause-shut g t c =
    closes-step c.args.closes.now (0, record { code = 0; a = 0; b = 0 }) (λ k. open_count (port c.run_closes.new.self.book c.args.id.0 k) ≡ 0) c.in-len1-up.len_at_least (shut-still c.args.id.0 _ c.close_port.ensures.shut c.run_closes.ensures.lives.calm.shrinks) c.run_closes.ensures.shut

pub enter_down_with-ask_down-done-requires-clause-manned : goal.enter_down_with-ask_down-done-requires-clause-manned
enter_down_with-ask_down-done-requires-clause-manned g t c = IsManned-same c.enter_in-was.ensures.sets.objects c.requires.steady.manned

pub close_port-returns-in-Open-clause-starts : goal.close_port-returns-in-Open-clause-starts
unfolding Starts-one
close_port-returns-in-Open-clause-starts g t c = λ _. record { starts = Starts-one _ _ _ _ _ c.close_alone.ensures.told c.close_alone.ensures.step; one = alone refl }

pub close_port-returns-in-Open-clause-stays : goal.close_port-returns-in-Open-clause-stays
close_port-returns-in-Open-clause-stays g t c = λ h. absurd (let z = ap open_count c.in-Open.ensures in omega arith)

pub close_port-returns-in-Linked-clause-stays : goal.close_port-returns-in-Linked-clause-stays
close_port-returns-in-Linked-clause-stays g t c = λ h. absurd (let z = ap open_count c.in-Linked.ensures in omega arith)

pub close_port-returns-in-Leaving-clause-starts : goal.close_port-returns-in-Leaving-clause-starts
close_port-returns-in-Leaving-clause-starts g t c = λ h. absurd (let z = ap open_count c.in-Leaving.ensures in omega arith)

pub close_port-returns-in-Closed-clause-starts : goal.close_port-returns-in-Closed-clause-starts
close_port-returns-in-Closed-clause-starts g t c = λ h. absurd (let z = ap open_count c.in-Closed.ensures in omega arith)

pub close_link-returns-clause-starts : goal.close_link-returns-clause-starts
unfolding Starts-link
close_link-returns-clause-starts g t c =
    let b = c.close_both-was.ensures in
    let k = rw c.ask_closed.ensures.book at c.calm_effects-place.ensures.lives.calm in
    let e = c.unplug.ensures.ends in
    Shuts-link (Starts-link c.requires.steady.whole.links c.requires.linked b.told b.run b.was b.half k e.0.ends) k.added e.1 refl

pub close_all-returns-clause-order : goal.close_all-returns-clause-order
close_all-returns-clause-order g t c = λ q n d ps k.
    let x = c.args.id in
    let a = c.close_port.ensures in
    let b = c.close_port-2.ensures in
    let e = c.close_port-3.ensures in
    let f = c.close_port-4.ensures in
    let q1 = IsQuiet-shrinks a.lives.calm.shrinks q in
    let q2 = IsQuiet-shrinks b.lives.calm.shrinks q1 in
    let q3 = IsQuiet-shrinks e.lives.calm.shrinks q2 in
    let k3 = order-port c.args.cause.now (record { obj = x; slot = 3 }) _ _ n _ _ d q3 f.starts (λ h. let i = f.stays h in (ap (λ v. v.book) i.0, ap g.O.Outside.events i.1)) ps (order-object c.args.cause.now x.0 _ n _ d ps k) in
    let k2 = order-port c.args.cause.now (record { obj = x; slot = 2 }) _ _ n _ _ d q2 e.starts (λ h. let i = e.stays h in (ap (λ v. v.book) i.0, ap g.O.Outside.events i.1)) k3.0 k3.1 in
    let k1 = order-port c.args.cause.now (record { obj = x; slot = 1 }) _ _ n _ _ d q1 b.starts (λ h. let i = b.stays h in (ap (λ v. v.book) i.0, ap g.O.Outside.events i.1)) k2.0 k2.1 in
    order-port c.args.cause.now (record { obj = x; slot = 0 }) _ _ n _ _ d q a.starts (λ h. let i = a.stays h in (ap (λ v. v.book) i.0, ap g.O.Outside.events i.1)) k1.0 k1.1

pub enter_down_with-returns-clause-starts : goal.enter_down_with-returns-clause-starts
enter_down_with-returns-clause-starts g t c =
    let b = c.enter_in-was.ensures in
    Starts-entry b.sets b.told b.step (λ st. (c.requires.slot, c.requires.open)) b.was (rw c.ask_down-done.ensures.book at c.after_down-place.ensures.lives.calm) (c.leave.ensures.ends Down (λ e. cc)).ends

pub send_down-returns-clause-lives : goal.send_down-returns-clause-lives
send_down-returns-clause-lives g t c =
    let part : Said = record { tag = c.args.emit.now.tag; rec = c.args.msg.now.rec; a = c.args.emit.now.a; b = c.args.emit.now.b; bytes = c.bytes_of.result.0.now ++ c.bytes_of.result.1.now } in
    let e : part ≡ said_of (nature g.N.Node.kind_of g.N.Node.mark_of g.N.Load.Parts.first g.N.Load.Parts.second) (said c.args.msg.now) c.args.emit.now = ap (λ (z : List ℕ). record part { bytes = z }) c.bytes_of.ensures in
    CalmFor-regain (in_list c.args.emit.now.load) c.requires.runs (subst (λ m. CalmFor g.N.Node.stands (nature g.N.Node.kind_of g.N.Node.mark_of g.N.Load.Parts.first g.N.Load.Parts.second) c.args.now c.args.self.now.book c.pass_down-place.new.self.book c.args.self.now.nodes.items c.pass_down-place.new.self.nodes.items (Same (busy c.args.self.now.book)) (Passing c.args.self.now.book (port_at c.args.id.0 c.args.emit.now.slot) m.bytes) (λ st. Sends (port_at c.args.id.0 c.args.emit.now.slot) m ∷ st) (g.O.Outside.events c.args.out.now) (g.O.Outside.events c.pass_down-place.new.out)) e c.pass_down-place.ensures.lives) c.take_load.ensures.lives c.take_load.ensures.book

pub fail-returns-clause-lives : goal.fail-returns-clause-lives
fail-returns-clause-lives g t c =
    CalmFor-opened (λ st. append_assoc (returns_of c.args.id.0 (lent c.args.fx.now)) (all_closes c.args.id.0 no_memory) st) (CalmFor-first (λ l. Closing l c.args.id.0) (lent c.args.fx.now) c.requires.runs c.take_back.ensures.lives c.close_all.ensures.lives c.take_back.ensures.book (λ p q x y w v i. i) (λ ds k. Calms-fail c.close_all.ensures.shut k))

pub hand_down-returns-in-Linked-clause-lives : goal.hand_down-returns-in-Linked-clause-lives
hand_down-returns-in-Linked-clause-lives g t c =
    CalmFor-turned (λ st. Sends c.args.at (said_with c.args.emit.now c.args.rec (c.args.first.now ++ c.args.second.now)) ∷ st) (arrives c.args.at c.in-Linked.peer) (Given-none _) (λ st ds s k. (_, passes c.args.at c.in-Linked.peer (said_with c.args.emit.now c.args.rec (c.args.first.now ++ c.args.second.now)) (sym c.in-Linked.ensures), k)) (CalmFor-weaken (λ x w v i. i) (λ p q x y w v i j. Passing-giving c.args.self.now.book c.args.at c.in-Linked.peer _ c.requires.steady.whole.links c.requires.slot.0 (sym c.in-Linked.ensures) p q y x.sent y.taken w v j i) c.hand_down_to.ensures.lives)

pub after_down-returns-then-done-clause-lives : goal.after_down-returns-then-done-clause-lives
after_down-returns-then-done-clause-lives g t c =
    let bytes = (said c.args.msg.now).bytes in
    let asks = rw c.if-done.true at c.requires.asks in
    rw c.if-done.true (CalmFor-weaken (λ x w v i. i) (λ p q x y w v i j. following-done _ c.args.id.0 (asked_sent (nature g.N.Node.kind_of g.N.Node.mark_of g.N.Load.Parts.first g.N.Load.Parts.second) bytes true c.args.fx.now) (λ n. few_bytes (nature g.N.Node.kind_of g.N.Node.mark_of g.N.Load.Parts.first g.N.Load.Parts.second) n bytes c.args.fx.now.downs) (λ n. below-bytes (nature g.N.Node.kind_of g.N.Node.mark_of g.N.Load.Parts.first g.N.Load.Parts.second) bytes _ c.args.fx.now asks n) p q y w v i) c.calm_effects.ensures.lives)

pub after_down-returns-else-done-clause-lives : goal.after_down-returns-else-done-clause-lives
after_down-returns-else-done-clause-lives g t c =
    rw c.if-done.false (CalmFor-weaken (λ x w v i. i) (λ p q x y w v i j. following-fail _ c.args.id.0 _ p q y w v i) c.fail.ensures.lives)

pub run_down-returns-then-emit-clause-lives : goal.run_down-returns-then-emit-clause-lives
run_down-returns-then-emit-clause-lives g t c =
    let e : c.args.emit.now ≡ Some c.emit.inside.what = sym c.emit.view_is ∙ ap (λ z. asked z c.emit.inside.what) c.if-emit.true in
    rw e c.send_down.ensures.lives

pub close_asked-returns-in_default-clause-lives : goal.close_asked-returns-in_default-clause-lives
close_asked-returns-in_default-clause-lives g t c = CalmFor-opened (λ st. ap (λ z. z ++ st) (closes_of-none c.args.id.0 c.args.closes.now c.in_default.len_below)) (CalmFor-refl _ _ _ _ _ _ closing-idle)

pub close_asked-returns-in_default-clause-shut : goal.close_asked-returns-in_default-clause-shut
close_asked-returns-in_default-clause-shut g t c =
    closes-none c.args.closes.now (λ k. open_count (port c.args.self.now.book c.args.id.0 k) ≡ 0) c.in_default.len_below

pub send_down-pass_down-place-requires : goal.send_down-pass_down-place-requires
send_down-pass_down-place-requires g t c = let lives = busy-live _ _ c.requires.runs in search rules
