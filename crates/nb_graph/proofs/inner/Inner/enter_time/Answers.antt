use Rattle.std.proofs.Common.{refl, sym, ◌∙◌, Bool, true, None, [], ◌∷◌}
use Rattle.std.proofs.lemmas.Bool.{false≢true}
use Rattle.nb_ledger.specs.declared.event.GraphEvent.TheVariants.{Entered}
use Rattle.nb_ledger.specs.Ledger.{busy}
use Rattle.nb_effects.specs.declared.effects.Fx.{Fx}
use Rattle.nb_effects.specs.Trace.{time, lent, nature}
use Rattle.nb_effects.specs.Deeds.{Ticks, Holds}
use Rattle.nb_effects.specs.Follows.{ticks}
use Rattle.nb_effects.proofs.SceneLemmas.{scene-busy}
use Rattle.nb_effects.specs.Whole.{port_at}
use Rattle.nb_effects.proofs.WholeLemmas.{but_other}
use Rattle.nb_graph.proofs.LivesLemmas.{Lives-above, Lives-weaken}
use Rattle.nb_effects.specs.Flows.{DoesEffects, Keeping, asked_sent, by_no_slot}
use Rattle.nb_graph.proofs.MildLemmas.{Mild-busy}
use Rattle.nb_graph.proofs.AskLemmas.{Livens-entry, Livens-time, time-notes}
use Rattle.nb_effects.proofs.RiseLemmas.{keeps-doing}
use Rattle.nb_graph.proofs.OwingLemmas.{AllBack-back}
use Rattle.nb_graph.proofs.SeatLemmas.{Loses-same}
use Rattle.nb_graph.proofs.EntryLemmas.{Calls-then, Lives-entry_up}
use Rattle.nb_graph.proofs.LivelyForLemmas.{IsBelow-enter}
use Rattle.nb_ledger.specs.declared.event.Way.TheVariants.{Time}
use Rattle.nb_ledger.proofs.PortLemmas.{busy-live}
use Rattle.nb_effects.proofs.CalmLemmas.{IsWhole-enter}
use Rattle.nb_effects.proofs.MannedLemmas.{IsManned-same}
use Rattle.nb_graph.proofs.LivelyLemmas.{Lively-entry, Starts-lively}
use Rattle.nb_graph.proofs.inner.Inner.enter_time.Goals as goal

pub ask_time-done-requires-clause-manned : goal.ask_time-done-requires-clause-manned
ask_time-done-requires-clause-manned g c = IsManned-same c.enter-was.ensures.sets.objects c.requires.steady.manned

pub after_time-place-requires-clause-steady : goal.after_time-place-requires-clause-steady
after_time-place-requires-clause-steady g c = record {
  whole = rw c.ask_time-done.ensures.book (IsWhole-enter c.enter-was.ensures.sets c.requires.steady.whole);
  manned = c.ask_time-done.ensures.manned;
}

pub leave-requires-clause-lives : goal.leave-requires-clause-lives
leave-requires-clause-lives g c =
    busy-live _ _ (c.after_time-place.ensures.lives.lively.grows.same_busy c.args.id.0 ∙ rw c.ask_time-done.ensures.book c.enter-was.ensures.runs)

pub after_time-place-requires-clause-below : goal.after_time-place-requires-clause-below
after_time-place-requires-clause-below g c =
    let s = c.enter-was.ensures.sets in
    let y = c.args.id.0 in
    let old = c.args.self.now.book in
    rw c.ask_time-done.ensures.book (IsBelow-enter old c.enter-was.new.self y (λ x n. s.busy_set x ∙ but_other y true (busy old) x n) s.objects.same_rank (λ x h. absurd (false≢true (sym (c.requires.idle x) ∙ h))))

pub returns-clause-lives : goal.returns-clause-lives
unfolding Lively-entry
returns-clause-lives g c =
    let b = c.enter-was.ensures in
    let k = rw c.ask_time-done.ensures.book at c.after_time-place.ensures.lives in
    let e = c.leave.ensures.ends Time (λ e. cc) in
    let y = c.args.id.0 in
    let old = c.args.self.now.book in
    let mid = c.enter-was.new.self in
    let entry = λ (done : Bool) (fx : Fx g.row.N.Denot g.row.N-Load.Denot). time c.args.now done fx in
    let d = Calls-then (busy mid) (busy mid) y (lent c.ask_time-done.new.fx) entry (λ x. refl) (rw c.ask_time-done.ensures.book at c.ask_time-done.ensures.lives (g.O.Outside.events c.enter-was.new.out)) (Lives-weaken (AllBack-back (busy mid) y (lent c.ask_time-done.new.fx)) (λ ds z. z) (Lives-above (λ st. Holds (port_at y 4) Time None ∷ st) k.lives)) (λ ds es a z. Livens-time y (asked_sent (nature g.N.Node.kind_of g.N.Node.mark_of g.N.Load.Parts.first g.N.Load.Parts.second) [] c.ask_time-done.result c.ask_time-done.new.fx) a.0 a.1 z) in
    let r = Lives-entry_up (busy old) (busy mid) y (λ st. Ticks y ∷ st) (Entered (port_at y 4) Time) entry (λ x n. b.sets.busy_set x ∙ but_other y true (busy old) x n) (c.requires.idle y) (Loses-same c.args.self.now.nodes.items b.sets.objects) (scene-busy b.sets) b.given (λ st ds s k. (_, ticks y c.requires.lives, k)) d (e.lives c.args.now) (λ ds es z k. Livens-entry {inner = DoesEffects mid y by_no_slot} {outer = Keeping old} y (Entered (port_at y 4) Time) (c.requires.idle y) (λ x n. b.sets.busy_set x ∙ but_other y true (busy old) x n) (Mild-busy b.sets) (time-notes (port_at y 4)) (λ p q a w v i. keeps-doing old mid y (c.requires.idle y) (λ x n. b.sets.busy_set x ∙ but_other y true (busy old) x n) p q a a w v i) z k) in (
      record {
        lively = Lively-entry b.sets b.told b.step (λ st. (refl, c.requires.lives)) b.was k.lively e.ends;
        lives = r.0;
      },
      r.1,
    )

pub returns-clause-starts : goal.returns-clause-starts
returns-clause-starts g c =
    let b = c.enter-was.ensures in
    Starts-lively b.sets b.told b.step (λ st. (refl, c.requires.lives)) b.was (rw c.ask_time-done.ensures.book at c.after_time-place.ensures.lives.lively) (c.leave.ensures.ends Time (λ e. cc)).ends
