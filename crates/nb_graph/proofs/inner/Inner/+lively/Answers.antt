use Rattle.nb_ledger.proofs.RunLemmas.{Given-none}
use Rattle.std.proofs.Common.{◌≡◌, ℕ, List, ◌<◌, ◌≤◌, sym, ◌∙◌, arith, ap, subst, rules, refl, true, Some, None, [], ◌∷◌, append_assoc, ◌++◌, length-append}
use Rattle.std.specs.Vec.{vec_capacity}
use Rattle.nb_ledger.specs.declared.event.Way.TheVariants.{Up}
use Rattle.nb_ledger.specs.declared.port.PortState.TheVariants.{Linked, Leaving, Closed}
use Rattle.nb_ledger.specs.GraphRun.{IsOpen}
use Rattle.nb_ledger.specs.Ledger.{busy, port, rank, open_count}
use Rattle.nb_ledger.proofs.PortLemmas.{busy-live, open-live, live_by}
use Rattle.nb_effects.specs.Calm.{IsSteady}
use Rattle.nb_effects.specs.Follows.{passes, leaves, drops, enters_up}
use Rattle.nb_graph.proofs.NodeLemmas.{nothing-there}
use Rattle.nb_effects.proofs.SceneLemmas.{scene-busy}
use Rattle.nb_effects.proofs.CalmLemmas.{IsWhole-enter, linked-back}
use Rattle.nb_effects.proofs.MannedLemmas.{IsManned-same}
use Rattle.nb_effects.proofs.UnplugLemmas.{Calm-dropped, Calm-sent}
use Rattle.nb_graph.proofs.LivelyLemmas.{Grows-shrinks, Grows-trans, LivelyIn-trans, LivelyIn-calm, LivelyIn-lively, Lively-calm, Lively-entry, Starts-lively}
use Rattle.nb_ledger.specs.declared.event.GraphEvent.TheVariants.{Dropped, Entered}
use Rattle.nb_effects.specs.Trace.{Said, carried, in_list, left, lent, loads, said, up, nature}
use Rattle.nb_effects.specs.Deeds.{Gives, Holds, Sends, arrives, closes_of, emit_of, few_of, goes_out, makes_of, said_of}
use Rattle.nb_graph.specs.Lives.{IsUnder, LivelyFor, Same, here}
use Rattle.nb_effects.proofs.WholeLemmas.{but_other}
use Rattle.nb_graph.proofs.LivesLemmas.{Lives-above, Lives-turn, Lives-then, Lives-weaken}
use Rattle.nb_effects.specs.Whole.{port_at}
use Rattle.nb_graph.specs.Again.{Delivered}
use Rattle.nb_effects.specs.Asked.{asked}
use Rattle.nb_graph.specs.Sending.{said_with}
use Rattle.nb_effects.specs.Moves.{none_due}
use Rattle.nb_effects.specs.Accounts.{few_bytes, fx_bytes}
use Rattle.nb_effects.specs.Flows.{Delivering, DoesEffects, Leaves, Rising, asked_behind, asked_sent, asked_taken, by_no_slot}
use Rattle.nb_effects.proofs.AccountLemmas.{Calms-idle, Calms-turn, Calms-plain, Calms-weaken, Mild-same}
use Rattle.nb_effects.proofs.LivensLemmas.{Livens-calm}
use Rattle.nb_graph.proofs.MildLemmas.{Lives-plain, Mild-busy}
use Rattle.nb_effects.proofs.FlowLemmas.{emit-there}
use Rattle.nb_graph.proofs.AskLemmas.{Livens-ask, Livens-entry, up-notes}
use Rattle.nb_graph.proofs.EffectLemmas.{Livens-downs, Livens-effects, Livens-few, Livens-rest, Livens-ups, downs-bytes, ups-bytes}
use Rattle.nb_effects.proofs.RiseLemmas.{Leaves-open, Leaves-rising, Leaves-shut, leaves-at, leaves-nothing, rise-fail, rises-delivering, taken-all, taken-only}
use Rattle.nb_graph.proofs.OwingLemmas.{AllBack-back, AllBack-then, Back-none}
use Rattle.nb_graph.proofs.SeatLemmas.{Loses-refl, Loses-same}
use Rattle.nb_graph.proofs.EntryLemmas.{Calls-then, Lives-entry_up}
use Rattle.nb_graph.proofs.LivelyForLemmas.{runs-then, LivelyFor-opened, LivelyFor-turned, LivelyInFor-opened, IsBelow-enter, IsBelow-grows, LivelyFor-back, LivelyFor-calm, LivelyFor-refl, LivelyFor-regain, LivelyFor-weaken, LivelyInFor-effects, left-none, left-some, under-idle}
use Rattle.nb_graph.proofs.AgainLemmas.{less-then, open-then, GoesOn-left, Gives-goes, Gives-then}
use Rattle.std.proofs.Common.{length, ◌+◌}
use Rattle.nb_graph.proofs.inner.Inner.+lively.Goals as goal

pub effects-returns-clause-lives : goal.effects-returns-clause-lives
effects-returns-clause-lives g t c =
    let bytes = (said c.args.msg.now).bytes in
    let x = c.args.id.0 in
    let sent : ℕ → List ℕ = λ n. fx_bytes (nature g.N.Node.kind_of g.N.Node.mark_of g.N.Load.Parts.first g.N.Load.Parts.second) n bytes c.args.fx.now in
    let made = c.run_make-place.ensures.lives in
    let downs = c.run_downs-place.ensures.lives in
    let ups = c.run_ups-place.ensures.lives in
    let asks = c.requires.asks in
    LivelyInFor-opened (λ st. runs-then (nature g.N.Node.kind_of g.N.Node.mark_of g.N.Load.Parts.first g.N.Load.Parts.second) x (said c.args.msg.now) c.args.fx.now st ∙ ap (λ z. makes_of x c.args.fx.now.makes ++ (few_of (nature g.N.Node.kind_of g.N.Node.mark_of g.N.Load.Parts.first g.N.Load.Parts.second) x (said c.args.msg.now) c.args.fx.now.downs ++ (few_of (nature g.N.Node.kind_of g.N.Node.mark_of g.N.Load.Parts.first g.N.Load.Parts.second) x (said c.args.msg.now) c.args.fx.now.ups ++ (closes_of x z ++ st)))) (sym c.as_slice.ensures.value)) (LivelyInFor-effects (Leaves c.run_downs-place.new.self.book (port_at x 0) (few_bytes (nature g.N.Node.kind_of g.N.Node.mark_of g.N.Load.Parts.first g.N.Load.Parts.second) 0 bytes c.args.fx.now.ups)) (DoesEffects c.run_make-place.new.self.book x sent) (loads c.args.fx.now.downs) (loads c.args.fx.now.ups) c.requires.runs made downs ups c.close_asked.ensures.lives
    (λ ds es a z. Livens-ups x _ ups.lively.grows.same_busy a z)
    (λ ds es a z. Livens-downs x sent (λ n. few_bytes (nature g.N.Node.kind_of g.N.Node.mark_of g.N.Load.Parts.first g.N.Load.Parts.second) n bytes c.args.fx.now.downs) (few_bytes (nature g.N.Node.kind_of g.N.Node.mark_of g.N.Load.Parts.first g.N.Load.Parts.second) 0 bytes c.args.fx.now.ups) (made.lively.grows.same_busy x ∙ c.requires.runs) (λ n o. downs-bytes (nature g.N.Node.kind_of g.N.Node.mark_of g.N.Load.Parts.first g.N.Load.Parts.second) bytes _ c.args.fx.now asks.ups n o) (ups-bytes (nature g.N.Node.kind_of g.N.Node.mark_of g.N.Load.Parts.first g.N.Load.Parts.second) bytes _ c.args.fx.now asks.downs) downs.calm.shrinks.same_busy a z)
    (λ ds es a z. Livens-effects x sent made.lively.grows.same_busy a z))

pub enter_up_by-enter_in-was-requires : goal.enter_up_by-enter_in-was-requires
enter_up_by-enter_in-was-requires g t c = record { lives = open-live _ _ _ c.requires.open; place = c.requires.place }

pub enter_up_by-leave-requires-clause-lives : goal.enter_up_by-leave-requires-clause-lives
enter_up_by-leave-requires-clause-lives g t c =
    busy-live _ _ (c.deliver-place.ensures.lives.0.lively.grows.same_busy c.args.at.obj.0 ∙ c.enter_in-was.ensures.runs)

pub enter_up_by-returns-clause-lives : goal.enter_up_by-returns-clause-lives
unfolding Lively-entry
enter_up_by-returns-clause-lives g t c =
    let b = c.enter_in-was.ensures in
    let d = c.deliver-place.ensures.lives in
    let e = c.leave.ensures.ends Up (λ e. cc) in
    let y = c.args.at.obj.0 in
    let old = c.args.self.now.book in
    let r = Lives-entry_up (busy old) _ y (λ st. Gives c.args.at (said c.args.msg.now) ∷ st) (Entered c.args.at Up) (λ done fx. up c.args.at.slot (said c.args.msg.now) c.args.now done fx) (λ x n. b.sets.busy_set x ∙ but_other y true (busy old) x n) (under-idle old y c.requires.under) (Loses-same c.args.self.now.nodes.items b.sets.objects) (scene-busy b.sets) b.given (λ st ds s k. (_, enters_up c.args.at (said c.args.msg.now) c.requires.slot.0 c.requires.open, k)) (d.0.lives, d.1) (e.lives c.args.now) (λ ds es z k. Livens-entry {inner = Delivering c.enter_in-was.new.self c.args.at (said c.args.msg.now).bytes by_no_slot} {outer = Rising old c.args.at (said c.args.msg.now).bytes} y (Entered c.args.at Up) (under-idle old y c.requires.under) (λ x n. b.sets.busy_set x ∙ but_other y true (busy old) x n) (Mild-busy b.sets) (up-notes c.args.at) (λ p q a w v i. rises-delivering old c.enter_in-was.new.self c.args.at (said c.args.msg.now).bytes (under-idle old y c.requires.under) (λ x n. b.sets.busy_set x ∙ but_other y true (busy old) x n) p q a w v i) z k) in (
      record {
        lively = Lively-entry b.sets b.told b.step (λ st. (c.requires.slot.0, c.requires.slot.1, c.requires.open)) (sym (under-idle c.args.self.now.book c.args.at.obj.0 c.requires.under)) d.0.lively e.ends;
        lives = r.0;
      },
      r.1,
    )

pub enter_up_by-returns-clause-starts : goal.enter_up_by-returns-clause-starts
enter_up_by-returns-clause-starts g t c =
    let b = c.enter_in-was.ensures in
    Starts-lively b.sets b.told b.step (λ st. (c.requires.slot.0, c.requires.slot.1, c.requires.open)) (sym (under-idle c.args.self.now.book c.args.at.obj.0 c.requires.under)) c.deliver-place.ensures.lives.0.lively (c.leave.ensures.ends Up (λ e. cc)).ends

pub enter_up_by-deliver-place-requires : goal.enter_up_by-deliver-place-requires
enter_up_by-deliver-place-requires g t c =
    let s = c.enter_in-was.ensures.sets in
    let r = s.objects.same_rank c.args.at.obj.0 in
    let runs = c.enter_in-was.ensures.runs in
    let below = IsBelow-enter c.args.self.now.book c.enter_in-was.new.self c.args.at.obj.0 (λ x n. s.busy_set x ∙ but_other c.args.at.obj.0 true (busy c.args.self.now.book) x n) s.objects.same_rank c.requires.under in
    let place = c.requires.place ∙ sym (s.objects.same_place c.args.at.obj.0) in
    let steady : IsSteady g.N.Node.rank_of c.enter_in-was.new.self c.args.self.now.nodes.items (vec_capacity c.args.self.now.nodes) = record { whole = IsWhole-enter s c.requires.steady.whole; manned = IsManned-same s.objects c.requires.steady.manned } in
    search rules

pub effects-run_ups-place-requires : goal.effects-run_ups-place-requires
effects-run_ups-place-requires g t c =
    let x = c.args.id.0 in
    let m = c.run_make-place.ensures.lives.lively.grows in
    let k = c.run_downs-place.ensures.lives.calm.shrinks in
    let first = m.kept x c.requires.runs in
    let then = m.same_busy x ∙ c.requires.runs in
    let runs = k.same_busy x ∙ then in
    let second = (k.kept x (busy-live _ _ runs)).1 in
    let below = IsBelow-grows x (Grows-trans m (Grows-shrinks k)) c.requires.runs c.requires.below in
    search rules

pub hand_up-hand_up_to-requires : goal.hand_up-hand_up_to-requires
hand_up-hand_up_to-requires g t c =
    let b = c.args.self.now.book in
    let p = c.args.at in
    let q = c.in-Linked.peer in
    let w = c.requires.steady.whole in
    let here : port b p.obj.0 p.slot ≡ Linked q = sym c.in-Linked.ensures in
    let zero = c.requires.slot in
    let low : port b p.obj.0 0 ≡ Linked q = subst (λ k. port b p.obj.0 k ≡ Linked q) zero here in
    let one : 1 ≤ q.slot = w.links.upper p.obj.0 q low in
    let falls : rank b p.obj.0 < rank b q.obj.0 = w.links.falls p.obj.0 q low in
    let small = w.small q.obj.0 in
    let back : port b q.obj.0 q.slot ≡ Linked p = linked-back b p q w.links here in
    let open_there : IsOpen (port b q.obj.0 q.slot) = subst IsOpen (sym back) tt in
    let four = (live_by b q.obj.0 q.slot (Linked p) tt back).1 in
    let three : q.slot ≤ 3 = omega arith in
    let under : IsUnder (rank b q.obj.0) b = λ x h. let i = c.requires.below x h in omega arith in
    search rules

pub pass_up-returns-then-is_free_of_live-clause-lives : goal.pass_up-returns-then-is_free_of_live-clause-lives
unfolding Calm-sent
pass_up-returns-then-is_free_of_live-clause-lives g t c =
    LivelyFor-calm (record { calm = Calm-sent _ _ _ c.send_part.ensures.told; lives = Lives-weaken (λ x w v k. k.1) (λ ds k. k) (Lives-turn _ c.args.now _ _ (λ st. Sends c.args.at (said_with c.args.emit.now c.args.rec (c.args.first.now ++ c.args.second.now)) ∷ st) here (goes_out c.args.at (said_with c.args.emit.now c.args.rec (c.args.first.now ++ c.args.second.now))) c.send_part.ensures.given (λ st ds s k. ([], leaves c.args.at (said_with c.args.emit.now c.args.rec (c.args.first.now ++ c.args.second.now)) (c.is_free_of_live.ensures.0 c.if-is_free_of_live.true), k)) (Calms-idle (Calms-turn _ _ _) (λ p q x y w v i j. Leaves-open c.args.self.now.book c.args.at _ (c.is_free_of_live.ensures.0 c.if-is_free_of_live.true) p q y x.sent y.taken w v j i))) })

pub hand_up-returns-in-Leaving-clause-lives : goal.hand_up-returns-in-Leaving-clause-lives
unfolding Calm-dropped
hand_up-returns-in-Leaving-clause-lives g t c =
    LivelyFor-calm (record {
      calm = Calm-dropped _ _ _ c.args.at (Leaving c.in-Leaving.field-0) (sym c.in-Leaving.ensures) tt (c.drop_message.ensures.told);
      lives = Lives-weaken (λ x w v k. k.1) (λ ds k. Calms-idle k (λ p q x y w v i j. Leaves-shut c.args.self.now.book c.args.at _ (ap open_count (sym c.in-Leaving.ensures)) p q y w v i)) (Lives-plain g.N.Node.stands c.args.now _ _ (λ st. Sends c.args.at (said_with c.args.emit.now c.args.rec (c.args.first.now ++ c.args.second.now)) ∷ st) here (Dropped c.args.at) (Loses-refl _) refl (c.drop_message.ensures.given) (λ st ds s k. ([], drops c.args.at (said_with c.args.emit.now c.args.rec (c.args.first.now ++ c.args.second.now)) (ap open_count (sym c.in-Leaving.ensures)), k)) (Calms-plain _ _ _ (Dropped c.args.at) (Mild-same refl (λ x k. refl)) (λ p a. refl)));
    })

pub hand_up-returns-in-Closed-clause-lives : goal.hand_up-returns-in-Closed-clause-lives
unfolding Calm-dropped
hand_up-returns-in-Closed-clause-lives g t c =
    LivelyFor-calm (record {
      calm = Calm-dropped _ _ _ c.args.at Closed (sym c.in-Closed.ensures) tt (c.drop_message-in-Closed.ensures.told);
      lives = Lives-weaken (λ x w v k. k.1) (λ ds k. Calms-idle k (λ p q x y w v i j. Leaves-shut c.args.self.now.book c.args.at _ (ap open_count (sym c.in-Closed.ensures)) p q y w v i)) (Lives-plain g.N.Node.stands c.args.now _ _ (λ st. Sends c.args.at (said_with c.args.emit.now c.args.rec (c.args.first.now ++ c.args.second.now)) ∷ st) here (Dropped c.args.at) (Loses-refl _) refl (c.drop_message-in-Closed.ensures.given) (λ st ds s k. ([], drops c.args.at (said_with c.args.emit.now c.args.rec (c.args.first.now ++ c.args.second.now)) (ap open_count (sym c.in-Closed.ensures)), k)) (Calms-plain _ _ _ (Dropped c.args.at) (Mild-same refl (λ x k. refl)) (λ p a. refl)));
    })

pub run_ups-returns-then-is_asked-clause-lives : goal.run_ups-returns-then-is_asked-clause-lives
run_ups-returns-then-is_asked-clause-lives g t c =
    let k = c.run_up-place.ensures.lives in
    let l = c.run_late_up.ensures.lives in
    LivelyFor-opened (λ st. append_assoc (emit_of (nature g.N.Node.kind_of g.N.Node.mark_of g.N.Load.Parts.first g.N.Load.Parts.second) c.args.id.0 (said c.args.msg.now) c.args.ups.now.first) (emit_of (nature g.N.Node.kind_of g.N.Node.mark_of g.N.Load.Parts.first g.N.Load.Parts.second) c.args.id.0 (said c.args.msg.now) c.args.ups.now.second) st) (LivelyFor-back (carried c.args.ups.now.first) (carried c.args.ups.now.second) k l (λ ds es a z. Livens-few c.args.id.0 _ _ c.requires.runs k.lively.grows.same_busy a z))

pub send_up-take_load-requires-clause-lives : goal.send_up-take_load-requires-clause-lives
send_up-take_load-requires-clause-lives g t c = busy-live _ _ (c.pass_up-place.ensures.lives.lively.grows.same_busy c.args.id.0 ∙ c.requires.runs)

pub run_up-returns-else-emit-clause-lives : goal.run_up-returns-else-emit-clause-lives
run_up-returns-else-emit-clause-lives g t c =
    let e : c.args.emit.now ≡ None = sym c.emit.view_is ∙ ap (λ z. asked z c.emit.inside.what) c.if-emit.false in
    rw e (LivelyFor-weaken (Back-none _ _ c.requires.runs) (λ p q x y w v i j. i) (LivelyFor-refl _ _ _ _ _ _ (λ p q x y w v i j. leaves-nothing _ _ p q y w v i)))

pub run_late_up-returns-else-emit-clause-lives : goal.run_late_up-returns-else-emit-clause-lives
run_late_up-returns-else-emit-clause-lives g t c =
    let e : c.args.emit.now ≡ None = sym c.emit.view_is ∙ ap (λ z. asked z c.emit.inside.what) c.if-emit.false in
    rw e (LivelyFor-weaken (Back-none _ _ c.requires.runs) (λ p q x y w v i j. i) (LivelyFor-refl _ _ _ _ _ _ (λ p q x y w v i j. leaves-nothing _ _ p q y w v i)))

pub send_up-returns-clause-lives : goal.send_up-returns-clause-lives
send_up-returns-clause-lives g t c =
    let part : Said = record { tag = c.args.emit.now.tag; rec = c.args.msg.now.rec; a = c.args.emit.now.a; b = c.args.emit.now.b; bytes = c.bytes_of.result.0.now ++ c.bytes_of.result.1.now } in
    let e : part ≡ said_of (nature g.N.Node.kind_of g.N.Node.mark_of g.N.Load.Parts.first g.N.Load.Parts.second) (said c.args.msg.now) c.args.emit.now = ap (λ (z : List ℕ). record part { bytes = z }) c.bytes_of.ensures in
    let there = subst (λ k. LivelyFor g.N.Node.stands (nature g.N.Node.kind_of g.N.Node.mark_of g.N.Load.Parts.first g.N.Load.Parts.second) c.args.now c.args.self.now.book c.pass_up-place.new.self.book c.args.self.now.nodes.items c.pass_up-place.new.self.nodes.items (Same (busy c.args.self.now.book)) none_due (Leaves c.args.self.now.book (port_at c.args.id.0 k) part.bytes) (λ st. Sends (port_at c.args.id.0 k) part ∷ st) (g.O.Outside.events c.args.out.now) (g.O.Outside.events c.pass_up-place.new.out)) (sym c.requires.up.0) c.pass_up-place.ensures.lives in
    LivelyFor-regain (in_list c.args.emit.now.load) c.requires.runs (LivelyFor-weaken (λ x w v i. i) (λ p q x y w v i j. leaves-at c.args.self.now.book c.args.id c.args.emit.now.slot _ c.requires.up.0 p q y w v i) (subst (λ m. LivelyFor g.N.Node.stands (nature g.N.Node.kind_of g.N.Node.mark_of g.N.Load.Parts.first g.N.Load.Parts.second) c.args.now c.args.self.now.book c.pass_up-place.new.self.book c.args.self.now.nodes.items c.pass_up-place.new.self.nodes.items (Same (busy c.args.self.now.book)) none_due (Leaves c.args.self.now.book (port_at c.args.id.0 c.args.emit.now.slot) m.bytes) (λ st. Sends (port_at c.args.id.0 c.args.emit.now.slot) m ∷ st) (g.O.Outside.events c.args.out.now) (g.O.Outside.events c.pass_up-place.new.out)) e there)) c.take_load.ensures.lives c.take_load.ensures.book

pub run_ups-returns-else-is_asked-clause-lives : goal.run_ups-returns-else-is_asked-clause-lives
run_ups-returns-else-is_asked-clause-lives g t c =
    let first = nothing-there c.args.ups.now.first (sym c.is_asked.ensures ∙ c.if-is_asked.false) in
    let second = c.requires.ups.0 first in
    rw (first, second) (LivelyFor-weaken (Back-none _ _ c.requires.runs) (λ p q x y w v i j. i) (LivelyFor-refl _ _ _ _ _ _ (λ p q x y w v i j. leaves-nothing _ _ p q y w v i)))

pub run_ups-run_late_up-requires : goal.run_ups-run_late_up-requires
run_ups-run_late_up-requires g t c =
    let k = c.run_up-place.ensures.lives.lively.grows in
    let x = c.args.id.0 in
    let same = k.kept x c.requires.runs in
    let runs = k.same_busy x ∙ c.requires.runs in
    let below = IsBelow-grows x k c.requires.runs c.requires.below in
    search rules

pub hand_up-returns-in-Linked-clause-lives : goal.hand_up-returns-in-Linked-clause-lives
hand_up-returns-in-Linked-clause-lives g t c =
    LivelyFor-turned (λ st. Sends c.args.at (said_with c.args.emit.now c.args.rec (c.args.first.now ++ c.args.second.now)) ∷ st) (arrives c.args.at c.in-Linked.peer) (Given-none _) (λ st ds s k. (_, passes c.args.at c.in-Linked.peer (said_with c.args.emit.now c.args.rec (c.args.first.now ++ c.args.second.now)) (sym c.in-Linked.ensures), k)) (LivelyFor-weaken (λ x w v i. i) (λ p q x y w v i j. Leaves-rising c.args.self.now.book c.args.at c.in-Linked.peer _ c.requires.steady.whole.links c.requires.slot (sym c.in-Linked.ensures) p q y x.sent y.taken w v j i) c.hand_up_to.ensures.lives)

pub run_up-returns-then-emit-clause-lives : goal.run_up-returns-then-emit-clause-lives
run_up-returns-then-emit-clause-lives g t c =
    let e : c.args.emit.now ≡ Some c.emit.inside.what = sym c.emit.view_is ∙ ap (λ z. asked z c.emit.inside.what) c.if-emit.true in
    let up = rw e at c.requires.up in
    rw (e, emit-there (nature g.N.Node.kind_of g.N.Node.mark_of g.N.Load.Parts.first g.N.Load.Parts.second) (said c.args.msg.now).bytes 0 c.emit.inside.what (sym up.0)) c.send_up.ensures.lives

pub run_late_up-returns-then-emit-clause-lives : goal.run_late_up-returns-then-emit-clause-lives
run_late_up-returns-then-emit-clause-lives g t c =
    let e : c.args.emit.now ≡ Some c.emit.inside.what = sym c.emit.view_is ∙ ap (λ z. asked z c.emit.inside.what) c.if-emit.true in
    let up = rw e at c.requires.up in
    rw (e, emit-there (nature g.N.Node.kind_of g.N.Node.mark_of g.N.Load.Parts.first g.N.Load.Parts.second) (said c.args.msg.now).bytes 0 c.emit.inside.what (sym up.0)) c.send_late_up.ensures.lives

pub give-ask_up-done-requires-clause-lives : goal.give-ask_up-done-requires-clause-lives
give-ask_up-done-requires-clause-lives g t c = busy-live _ _ c.requires.runs

pub after_up-returns-else-done-clause-grows : goal.after_up-returns-else-done-clause-grows
after_up-returns-else-done-clause-grows g t c = Grows-shrinks c.fail-place.ensures.lives.calm.shrinks

pub after_up-returns-else-done-clause-goes : goal.after_up-returns-else-done-clause-goes
unfolding LivelyIn-calm LivelyIn-lively Lively-calm
after_up-returns-else-done-clause-goes g t c =
    let k = c.fail-place.ensures.lives in
    let all = length-append c.args.msg.now.first.now c.args.msg.now.second.now in
    rw c.if-done.false (rw (left-none c.length_of.result (said c.args.msg.now) (omega arith)) (record {
      lively = LivelyIn-calm k.calm;
      lives = Lives-weaken (AllBack-back _ c.args.at.obj.0 (lent c.args.fx.now)) (λ ds k. Livens-calm (Calms-weaken k (λ p q x y w v i j. rise-fail c.args.self.now.book c.args.at (said c.args.msg.now).bytes p q y w v i))) (Lives-above (λ st. Holds c.args.at Up None ∷ st) k.lives);
    }))

pub after_up-returns-then-done-clause-goes : goal.after_up-returns-then-done-clause-goes
unfolding LivelyIn-trans
after_up-returns-then-done-clause-goes g t c =
    let e = c.effects-place.ensures.lives in
    rw c.if-done.true (GoesOn-left g.N.Node.stands (nature g.N.Node.kind_of g.N.Node.mark_of g.N.Load.Parts.first g.N.Load.Parts.second) c.args.now c.args.at (said c.args.msg.now) c.args.self.now.book c.effects-place.new.self.book c.left_of.new.self.book c.args.self.now.nodes.items c.effects-place.new.self.nodes.items c.left_of.new.self.nodes.items _ _ _ c.args.fx.now.took true c.args.fx.now (λ d nd after k. record {
      lively = LivelyIn-trans e.lively k.lively;
      lives = Lives-then (Lives-above (λ st. Holds c.args.at Up (left c.args.fx.now.took (said c.args.msg.now)) ∷ st) e.lives) k.lives (AllBack-then _ _ c.args.at.obj.0 (lent c.args.fx.now) e.lively.grows.same_busy) (λ ds es x z. Livens-rest c.args.at _ _ c.requires.slot c.requires.runs e.lively.grows.same_busy x z);
    }) (left c.left_of.result (said c.args.msg.now)) (c.left_of.ensures.goes c.args.now))

pub give-returns-clause-gives : goal.give-returns-clause-gives
give-returns-clause-gives g t c =
    let bytes = (said c.args.msg.now).bytes in
    Gives-goes g.N.Node.stands (nature g.N.Node.kind_of g.N.Node.mark_of g.N.Load.Parts.first g.N.Load.Parts.second) c.args.now c.args.at (said c.args.msg.now) c.args.self.now.book c.args.self.now.book c.after_up.new.self.book c.args.self.now.nodes.items c.ask_up-done.new.self.nodes.items c.after_up.new.self.nodes.items _ _ _ c.ask_up-done.result c.ask_up-done.new.fx (λ d nd after k.
    let r = Calls-then (busy c.args.self.now.book) (busy c.args.self.now.book) c.args.at.obj.0 (lent c.ask_up-done.new.fx) (λ done fx. up c.args.at.slot (said c.args.msg.now) c.args.now done fx) (λ x. refl) (rw c.ask_up-done.ensures.book at c.ask_up-done.ensures.lives (g.O.Outside.events c.args.out.now)) k.lives (λ ds es a z. Livens-ask c.args.at (asked_sent (nature g.N.Node.kind_of g.N.Node.mark_of g.N.Load.Parts.first g.N.Load.Parts.second) bytes c.ask_up-done.result c.ask_up-done.new.fx) (asked_taken c.args.at.slot bytes c.ask_up-done.result c.ask_up-done.new.fx) (asked_taken c.args.at.slot bytes c.ask_up-done.result c.ask_up-done.new.fx c.args.at.slot) (asked_behind bytes c.ask_up-done.result c.ask_up-done.new.fx) bytes c.requires.slot c.requires.open c.requires.steady.whole.links refl (taken-only c.args.at.slot bytes c.ask_up-done.result c.ask_up-done.new.fx) (taken-all c.args.at.slot bytes c.ask_up-done.result c.ask_up-done.new.fx) a.0 a.1 z) in
    (record { lively = k.lively; lives = r.0 }, r.1)) (left c.after_up.result.took (said c.args.msg.now)) (rw c.ask_up-done.ensures.book at c.after_up.ensures.goes)

pub deliver_again-loop-rest-preserved : goal.deliver_again-loop-rest-preserved
deliver_again-loop-rest-preserved g t c =
    let i = c.loop-rest.invariant in
    let gives = rw c.in-Some.is at i.gives in
    let less = rw c.in-Some.is at i.less in
    let some = c.rest_of-rest.ensures.some in
    record {
      gives = rw c.rest_of-rest.ensures.said (Gives-then g.N.Node.stands (nature g.N.Node.kind_of g.N.Node.mark_of g.N.Load.Parts.first g.N.Load.Parts.second) c.args.now c.args.at (said c.args.msg.now) c.args.self.now.book c.loop-rest.self.book c.give-given.new.self.book c.args.self.now.nodes.items c.loop-rest.self.nodes.items c.give-given.new.self.nodes.items _ _ _ (said c.in-Some.part) gives _ c.give-given.ensures.gives);
      less = less-then c.rest_of-rest.result (length c.in-Some.part.first.now + length c.in-Some.part.second.now) c.give-given.result.took _ less some;
      opened = open-then c.rest_of-rest.result (length c.in-Some.part.first.now + length c.in-Some.part.second.now) c.give-given.result.took some c.give-given.ensures.more;
      grows = Grows-trans i.grows c.give-given.ensures.grows;
      steady = c.give-given.ensures.steady;
    }

pub deliver-returns-then-given-length_of-clause-lives : goal.deliver-returns-then-given-length_of-clause-lives
deliver-returns-then-given-length_of-clause-lives g t c =
    let all = length-append c.args.msg.now.first.now c.args.msg.now.second.now in
    let gives = rw (left-some c.give-given.result.took (said c.args.msg.now) (omega arith)) at c.give-given.ensures.gives in
    gives _ _ _ c.deliver_rest.ensures.lives

pub deliver-returns-else-given-length_of-clause-lives : goal.deliver-returns-else-given-length_of-clause-lives
deliver-returns-else-given-length_of-clause-lives g t c =
    let all = length-append c.args.msg.now.first.now c.args.msg.now.second.now in
    rw (left-none c.give-given.result.took (said c.args.msg.now) (omega arith)) at c.give-given.ensures.gives

pub deliver_rest-returns-clause-lives : goal.deliver_rest-returns-clause-lives
deliver_rest-returns-clause-lives g t c =
    subst (λ m. Delivered g.N.Node.stands (nature g.N.Node.kind_of g.N.Node.mark_of g.N.Load.Parts.first g.N.Load.Parts.second) c.args.now c.args.at m c.args.self.now.book c.deliver_again.new.self.book c.args.self.now.nodes.items c.deliver_again.new.self.nodes.items (g.O.Outside.events c.args.out.now) (g.O.Outside.events c.deliver_again.new.out)) c.behind.ensures.bytes c.deliver_again.ensures.lives

pub send_up-pass_up-place-requires : goal.send_up-pass_up-place-requires
send_up-pass_up-place-requires g t c = let lives = busy-live _ _ c.requires.runs in search rules
