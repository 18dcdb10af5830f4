use Rattle.std.proofs.Common.{◌≡◌, ◌+◌, [], ◌∷◌, Some, None, refl, sym, ◌∙◌, ap, subst}
use Rattle.std.specs.Option.{option_copied}
use Rattle.nb_defs.specs.Records.{result}
use Rattle.nb_machine.specs.Running.{Running, with_result}
use Rattle.nb_network.specs.Many.{WaitsBeside}
use Rattle.nb_open.specs.Begins.{waiting_pieces}
use Rattle.nb_runner.specs.World.{with_ended_open}
use Rattle.nb_runner.specs.declared.world.World.{World}
use Rattle.nb_client.specs.Asked.{beside_kind, live_asked}
use Rattle.nb_client.specs.Beginnings.{BeginsNext, DropsWaiting, asked_kind}
use Rattle.nb_client.specs.Openings.{Opened}
use Rattle.nb_client.specs.Snapshots.{state_of_world}
use Rattle.nb_client.specs.Soundness.{IsBacked, snapshot_at}
use Rattle.nb_client.specs.declared.pending.Expected.TheVariants as expected
use Rattle.nb_client.specs.declared.pending.Pending.{Pending}
use Rattle.nb_client.specs.declared.stage.Stage.TheVariants as stage
use Rattle.nb_client.proofs.Results.{if_ok_so}
use Rattle.nb_client.proofs.OpenSites.{IsOpeningFor, PutsBegun, has_begun, opened_back, opened_waits, pending_for, same_snapshot}
use Rattle.nb_client.proofs.site.Site.open.Goals as goal

pub turn_back-requires-clause-waits : goal.turn_back-requires-clause-waits
turn_back-requires-clause-waits c = λ x e.
    let same = ap (λ (p : Pending). beside_kind p.asked) (c.get-3.ensures ∙ sym c.get.ensures) in
    subst (λ k. WaitsBeside k x c.begin.new.self.opens) (same ∙ sym c.kind_beside-kind.ensures) (c.in_ok-made.ensures.begins.waiting.beside x e)

pub returns-in-None : goal.returns-in-None
returns-in-None c =
    let now = c.args.self.now in
    let w = now.world in
    let asked = c.args.asked in
    let shown = option_copied c.args.shown in
    let o = c.opening_of-opening.result in
    let made = c.in_ok-made.made in
    let begun = c.begin.new.self in
    let held = c.in_ok-pending.ensures in
    let second : c.get-2.result.now.asked ≡ asked = ap (λ (p : Pending). p.asked) (c.get-2.ensures ∙ held) in
    let third : c.get-3.result.now.asked ≡ asked = ap (λ (p : Pending). p.asked) (c.get-3.ensures ∙ held) in
    let b : BeginsNext o (beside_kind asked) c.args.waits now begun made = subst (λ a. BeginsNext o (beside_kind a) c.args.waits now begun made) third c.in_ok-made.ensures.begins in
    let is : IsOpeningFor asked o w = record {
      live = λ live. c.opening_of-opening.ensures.live live ∙ ap (live_asked (state_of_world w live)) second;
      kind = c.opening_of-opening.ensures.kind ∙ ap asked_kind second;
    } in
    let backed : IsBacked asked made.waits = subst (λ a. IsBacked a made.waits) third c.in_ok-made.ensures.backed in
    let puts : PutsBegun shown c.args.script o w None made.desk.made.value.text made.desk.told.value.text c.args.out.now c.put_opened.new.log =
    subst (λ e. PutsBegun shown c.args.script o w e made.desk.made.value.text made.desk.told.value.text c.args.out.now c.put_opened.new.log) c.in-None.is c.put_opened.ensures in
    let there = c.wait_for.ensures.stage
    ∙ (ap (λ (p : Pending). stage.Waiting c.entered-script.result (expected.Open (record p { waits = made.waits }))) held
    ∙ ap (λ (s : Running). stage.Waiting s (expected.Open (pending_for w asked made.waits))) c.entered-script.ensures) in
    subst (λ x. Opened asked (waiting_pieces (asked_kind asked) c.args.waits) shown c.args.script now x c.args.out.now c.put_opened.new.log)
    (sym (same_snapshot _ _ (c.wait_for.ensures.used ∙ b.used) (c.wait_for.ensures.world ∙ ap with_ended_open b.world) c.wait_for.ensures.opens there))
    (opened_waits asked o c.args.waits made.waits shown c.args.script now begun.world.net begun.opens c.requires.sound c.requires.fits c.requires.opens c.requires.room is backed (has_begun asked o c.args.waits now begun made None c.in-None.is b) puts)

pub returns-in-Some : goal.returns-in-Some
returns-in-Some c =
    let now = c.args.self.now in
    let w = now.world in
    let asked = c.args.asked in
    let shown = option_copied c.args.shown in
    let script = c.args.script in
    let o = c.opening_of-opening.result in
    let made = c.in_ok-made.made in
    let begun = c.begin.new.self in
    let cause = c.in-Some.cause in
    let held = c.in_ok-pending.ensures in
    let first = ap (λ (p : Pending). p.asked) (c.get.ensures ∙ held) in
    let second : c.get-2.result.now.asked ≡ asked = ap (λ (p : Pending). p.asked) (c.get-2.ensures ∙ held) in
    let third : c.get-3.result.now.asked ≡ asked = ap (λ (p : Pending). p.asked) (c.get-3.ensures ∙ held) in
    let b : BeginsNext o (beside_kind asked) c.args.waits now begun made = subst (λ a. BeginsNext o (beside_kind a) c.args.waits now begun made) third c.in_ok-made.ensures.begins in
    let is : IsOpeningFor asked o w = record {
      live = λ live. c.opening_of-opening.ensures.live live ∙ ap (live_asked (state_of_world w live)) second;
      kind = c.opening_of-opening.ensures.kind ∙ ap asked_kind second;
    } in
    let backed : IsBacked asked made.waits = subst (λ a. IsBacked a made.waits) third c.in_ok-made.ensures.backed in
    let puts : PutsBegun shown script o w (Some cause) made.desk.made.value.text made.desk.told.value.text c.args.out.now c.put_opened.new.log =
    subst (λ e. PutsBegun shown script o w e made.desk.made.value.text made.desk.told.value.text c.args.out.now c.put_opened.new.log) c.in-Some.is c.put_opened.ensures in
    let after = c.turn_back.new.self in
    let new = c.turn_back.new.out in
    if_ok_so {Q = λ st. Opened asked (waiting_pieces (asked_kind asked) c.args.waits) shown script now (snapshot_at after st) c.args.out.now new} c.turn_back.result
    (λ used world lets st there.
    let kept : DropsWaiting (beside_kind asked) made.waits (w.opens + 1) begun after (result cause ∷ []) c.put_opened.new.log new =
    subst (λ (v : World). DropsWaiting (beside_kind asked) made.waits (v.opens + 1) begun after (result cause ∷ []) c.put_opened.new.log new) b.world
    (subst (λ k. DropsWaiting k made.waits (begun.world.opens + 1) begun after (result cause ∷ []) c.put_opened.new.log new) (c.kind_beside-kind.ensures ∙ ap beside_kind first) lets) in
    subst (λ x. Opened asked (waiting_pieces (asked_kind asked) c.args.waits) shown script now x c.args.out.now new)
    (sym (same_snapshot _ _ (used ∙ b.used) (world ∙ ap with_ended_open b.world) refl (there ∙ ap (λ (s : Running). stage.Running (with_result s cause)) c.entered-script.ensures)))
    (opened_back asked o c.args.waits made.waits shown script now begun after cause c.requires.sound is backed b.world (has_begun asked o c.args.waits now begun made (Some cause) c.in-Some.is b) puts kept))
    c.turn_back.ensures.used c.turn_back.ensures.world c.turn_back.ensures.lets c.turn_back.ensures.stage
