use Rattle.std.proofs.Common.{◌≡◌, ◌<◌, arith, Some, None, refl, sym, ◌∙◌, ap, subst}
use Rattle.nb_runner.specs.CommandWords.{onward_hooks}
use Rattle.nb_runner.specs.declared.errand.Onward.{Onward}
use Rattle.nb_runner.specs.declared.world.World.{World}
use Rattle.nb_runner.specs.declared.errand.Onward.TheVariants as onward
use Rattle.nb_open.specs.Begins.{waiting_pieces}
use Rattle.nb_client.specs.Asked.{asked_onward, onward_kind}
use Rattle.nb_client.specs.Beginnings.{asked_kind}
use Rattle.nb_client.specs.Openings.{Opened, OpensNext, opens_it, opens_none}
use Rattle.nb_client.specs.Soundness.{HasRoomIf, HasRoomOnward, HasWaited, HasWaiting, IsBacked, asked_hooks, snapshot_at}
use Rattle.nb_client.specs.declared.pending.Next.{Next}
use Rattle.nb_client.proofs.Results.{if_ok, if_ok_so}
use Rattle.nb_client.proofs.site.Site.open_next.Goals as goal

pub returns-then-self-eq-MAX_OPENS : goal.returns-then-self-eq-MAX_OPENS
returns-then-self-eq-MAX_OPENS c =
    let now = c.open_no_more.new.self in
    if_ok_so {Q = λ st. OpensNext c.args.script c.args.next c.args.self.now (snapshot_at now st) c.args.out.now c.open_no_more.new.out} c.open_no_more.result
    (λ used world lets st there. opens_none now c.if-self-eq-MAX_OPENS.true used world (ap (snapshot_at now) there) lets)
    c.open_no_more.ensures.used c.open_no_more.ensures.world c.open_no_more.ensures.lets c.open_no_more.ensures.stage

-- the open that is next has the kind of what has waited for it
same_kind : (w : World) (o : Onward) → asked_kind (asked_onward w o) ≡ onward_kind o
same_kind w (onward.File x) = refl
same_kind w (onward.Echo server) = refl
same_kind w (onward.Disk hooking server) = refl
same_kind w (onward.Name errand name by) = refl

-- and a disk is hooked by both or by neither
same_hooks : (w : World) (o : Onward) → asked_hooks (asked_onward w o) ≡ onward_hooks o
same_hooks w (onward.File x) = refl
same_hooks w (onward.Echo server) = refl
same_hooks w (onward.Disk hooking server) = refl
same_hooks w (onward.Name errand name by) = refl

pub open-requires-clause-waiting : goal.open-requires-clause-waiting
open-requires-clause-waiting c =
    let m = c.args.self.now.opens in
    let next = c.into_inner-onward.result in
    let kind : asked_kind c.in_ok-asked.asked ≡ onward_kind next.onward = ap asked_kind c.in_ok-asked.ensures.asks ∙ same_kind c.args.self.now.world next.onward in
    let waits = subst (λ (n : Next). HasWaiting (onward_kind n.onward) n.waits None m) (sym c.into_inner-onward.ensures) c.requires.sound.well.2.waiting in
    subst (λ k. HasWaiting k next.waits None m) (sym kind) waits

pub open-requires-clause-lone : goal.open-requires-clause-lone
open-requires-clause-lone c = λ chain backed.
    let next = c.into_inner-onward.result in
    let lone = (subst (λ (n : Next). HasWaited c.args.self.now.world n.onward n.waits c.args.self.now.opens) (sym c.into_inner-onward.ensures) c.requires.sound.well.2).lone in
    lone chain (subst (λ a. IsBacked a (Some chain)) c.in_ok-asked.ensures.asks backed)

pub open-requires-clause-room : goal.open-requires-clause-room
open-requires-clause-room c =
    let w = c.args.self.now.world in
    let next = c.into_inner-onward.result in
    let room = subst (λ (n : Next). HasRoomOnward n.onward w.state.drives) (sym c.into_inner-onward.ensures) c.requires.sound.well.1 in
    subst (λ b. HasRoomIf b w.state.drives) (sym (ap asked_hooks c.in_ok-asked.ensures.asks ∙ same_hooks w next.onward)) room

pub returns : goal.returns
returns c =
    let now = c.args.self.now in
    let w = now.world in
    let s = c.args.script in
    let next = c.into_inner-onward.result in
    let few : w.opens < 16384 = omega (arith, c.requires.sound.opens.opens_fit, c.if-self-eq-MAX_OPENS.false) in
    if_ok c.open.result (λ st o.
    opens_it few
    (subst (λ (n : Next). Opened (asked_onward w n.onward) (waiting_pieces (onward_kind n.onward) n.waits) None s now (snapshot_at c.open.new.self st) c.args.out.now c.open.new.out) c.into_inner-onward.ensures
    (subst (λ k. Opened (asked_onward w next.onward) (waiting_pieces k next.waits) None s now (snapshot_at c.open.new.self st) c.args.out.now c.open.new.out) (same_kind w next.onward)
    (subst (λ a. Opened a (waiting_pieces (asked_kind a) next.waits) None s now (snapshot_at c.open.new.self st) c.args.out.now c.open.new.out) c.in_ok-asked.ensures.asks o))))
    c.open.ensures
