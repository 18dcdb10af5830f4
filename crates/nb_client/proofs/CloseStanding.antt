-- What closing all that lives means, by where the run stands.
use Rattle.std.proofs.Common.{◌≡◌, List, [], ◌∷◌, Some, None, refl, sym, ◌∙◌, ap, subst}
use Rattle.nb_defs.specs.Records.{Out}
use Rattle.nb_graph.specs.Whole.{Objects}
use Rattle.nb_nodes.specs.declared.obj.Obj.{Obj}
use Rattle.nb_traced.specs.Plain.{without_graph}
use Rattle.nb_stack.specs.Client.{Client}
use Rattle.nb_chains.specs.declared.chain.Chain.{Chain}
use Rattle.nb_machine.specs.CommandRecords.{stopped_cause}
use Rattle.nb_machine.specs.Closings.{AllClose, Shuts}
use Rattle.nb_machine.specs.Courses.{Progress}
use Rattle.nb_machine.specs.Lives.{Live, OpenInput, close}
use Rattle.nb_machine.specs.States.{State}
use Rattle.nb_machine.specs.Takings.{AllTake, Over, all_have, lives_on, is_over}
use Rattle.nb_runner.specs.declared.world.World.{World}
use Rattle.nb_open.specs.Begins.{waiting_pieces}
use Rattle.nb_network.specs.declared.living.Living.{Living as TheOpen}
use Rattle.nb_network.specs.Closings.{closes_with}
use Rattle.nb_network.specs.Many.{AreOpensOf, IsStateOf, Many, WaitsBeside}
use Rattle.nb_network.specs.Takes.{ClosesFirst}
use Rattle.nb_client.specs.Closings.{IsWaitingAt}
use Rattle.nb_client.specs.Progressing.{ShutsStanding}
use Rattle.nb_client.specs.Snapshots.{Snapshot, StandsForProgress, at_ready, at_running, at_waiting, at_reaching, at_yielded, at_handing, at_left, at_returning, at_handed_off, at_stopped, pieces_waiting, state_of_world}
use Rattle.nb_client.specs.Soundness.{StandsWell}
use Rattle.nb_client.specs.declared.closing.WaitingChain.{WaitingChain}
use Rattle.nb_client.specs.declared.pending.Expected.TheVariants.{Open, Moment}
use Rattle.nb_client.specs.declared.stage.Stage.{Stage}
use Rattle.nb_client.specs.declared.stage.Stage.TheVariants as stage
use Rattle.nb_client.proofs.Served.{state_is}

-- what waits, as its objects
abbrev pub no_pieces : (w : WaitingChain) → w.chain ≡ None → waiting_pieces w.kind w.chain ≡ []
no_pieces w none = ap (waiting_pieces w.kind) none

pub pieces_at : (st : Stage) (w : WaitingChain) → IsWaitingAt st w → waiting_pieces w.kind w.chain ≡ pieces_waiting st
pieces_at (stage.Waiting s (Open p)) w is = rw (is.0, is.1) refl
pieces_at (stage.Reaching s k) w is = rw (is.0, is.1) refl
pieces_at stage.Ready w none = no_pieces w none
pieces_at (stage.Running s) w none = no_pieces w none
pieces_at (stage.Waiting s (Moment time)) w none = no_pieces w none
pieces_at (stage.Yielded s) w none = no_pieces w none
pieces_at (stage.Returning s cause) w none = no_pieces w none
pieces_at (stage.HandingOff h) w none = no_pieces w none
pieces_at (stage.Left cause) w none = no_pieces w none
pieces_at stage.HandedOff w none = no_pieces w none
pieces_at stage.Stopped w none = no_pieces w none

none_waits : (w : WaitingChain) (m : Many) (c : Chain) → w.chain ≡ None → w.chain ≡ Some c → WaitsBeside w.kind c m
none_waits w m c none is = let no : Some c ≡ None = sym is ∙ none in cc

-- it waits beside the opens that live
pub beside_at : (st : Stage) (w : WaitingChain) (world : World) (m : Many) (c : Chain) → IsWaitingAt st w → StandsWell st world m → w.chain ≡ Some c → WaitsBeside w.kind c m
beside_at (stage.Waiting s (Open p)) w world m c at well is = subst (λ k. WaitsBeside k c m) (sym at.0) (well.asked.waiting.beside c (sym at.1 ∙ is))
beside_at (stage.Reaching s k) w world m c at well is = subst (λ x. WaitsBeside x c m) (sym at.0) (well.2.waiting.beside c (sym at.1 ∙ is))
beside_at stage.Ready w world m c at well is = none_waits w m c at is
beside_at (stage.Running s) w world m c at well is = none_waits w m c at is
beside_at (stage.Waiting s (Moment time)) w world m c at well is = none_waits w m c at is
beside_at (stage.Yielded s) w world m c at well is = none_waits w m c at is
beside_at (stage.Returning s cause) w world m c at well is = none_waits w m c at is
beside_at (stage.HandingOff h) w world m c at well is = none_waits w m c at is
beside_at (stage.Left cause) w world m c at well is = none_waits w m c at is
beside_at stage.HandedOff w world m c at well is = none_waits w m c at is
beside_at stage.Stopped w world m c at well is = none_waits w m c at is

-- where none of the machine's opens is missing, one lives here too
some_list : (g : Objects Obj) (os : List TheOpen) (ls : List Live) → AreOpensOf g os ls → (ls ≡ [] → ⊥) → os ≡ [] → ⊥
some_list g [] [] are some none = some refl
some_list g [] (l ∷ ls) are some none = absurd are
some_list g (o ∷ os) ls are some none = cc

none_taken : (ds : List Client) (i : OpenInput) (ls after : List Live) (put : List Out) (overs : List Over) → AllTake ds i ls put after overs → ls ≡ [] → put ≡ []
none_taken ds i ls after put overs all_have none = refl
none_taken ds i ls after put overs (lives_on l more behind link first rest over get keeps ends all) none = cc
none_taken ds i ls after put overs (is_over l more behind link first rest over cause get keeps ends all) none = cc

-- Which opens these records close, whatever state they are.
pub record ShutsMany (w : World) (m : Many) (closing : List Out) : Type 0 where
  pub closes : (s : State) → IsStateOf m w.net w.time s → closes_with s stopped_cause (without_graph closing)
  pub closes_first : (m.list ≡ [] → ⊥) → ClosesFirst stopped_cause closing

-- where none lives, nothing of them is put
none_put : (w : World) (m : Many) (closing : List Out) → m.list ≡ [] → ShutsMany w m closing → without_graph closing ≡ []
none_put w m closing none k =
    let s = state_of_world w [] in
    let all = k.closes s (state_is w m [] (subst (λ os. AreOpensOf m.graph os []) (sym none) tt)) in
    none_taken s.devices (close stopped_cause) [] [] (without_graph closing) all.0 all.1 refl

none_closed : (s : State) (put : List Out) → s.live ≡ [] → put ≡ [] → AllClose s put
none_closed s put none empty =
    ([], subst (λ ls. AllTake s.devices (close stopped_cause) ls put [] []) (sym none) (subst (λ x. AllTake s.devices (close stopped_cause) [] x [] []) (sym empty) all_have))

pub shuts_at : (c : Snapshot) (p : Progress) (closing : List Out) → StandsForProgress c p → StandsWell c.stage c.world c.many → ShutsMany c.world c.many closing → Shuts p.standing (without_graph closing)
shuts_at c p closing (at_ready n w m) well k = none_put w m closing well.0 k
shuts_at c p closing (at_running n w m s live are) well k = k.closes (state_of_world w live) (state_is w m live are)
shuts_at c p closing (at_waiting n w m s e live are) well k = k.closes (state_of_world w live) (state_is w m live are)
shuts_at c p closing (at_reaching n w m s x live next are is) well k = k.closes (state_of_world w live) (state_is w m live are)
shuts_at c p closing (at_yielded n w m s live are) well k = k.closes (state_of_world w live) (state_is w m live are)
shuts_at c p closing (at_handing n w m h s rest none list is) well k = none_closed s (without_graph closing) none (none_put w m closing list k)
shuts_at c p closing (at_left n w m cause live are) well k = k.closes (state_of_world w live) (state_is w m live are)
shuts_at c p closing (at_returning n w m s cause live are) well k = k.closes (state_of_world w live) (state_is w m live are)
shuts_at c p closing (at_handed_off n w m s none list) well k = none_closed s (without_graph closing) none (none_put w m closing list k)
shuts_at c p closing (at_stopped n w m s none list) well k = none_closed s (without_graph closing) none (none_put w m closing list k)

pub shuts_first : (c : Snapshot) (p : Progress) (closing : List Out) → StandsForProgress c p → ShutsMany c.world c.many closing → ShutsStanding p.standing closing
shuts_first c p closing (at_ready n w m) k = tt
shuts_first c p closing (at_running n w m s live are) k = λ some. k.closes_first (some_list m.graph m.list live are some)
shuts_first c p closing (at_waiting n w m s e live are) k = λ some. k.closes_first (some_list m.graph m.list live are some)
shuts_first c p closing (at_reaching n w m s x live next are is) k = λ some. k.closes_first (some_list m.graph m.list live are some)
shuts_first c p closing (at_yielded n w m s live are) k = λ some. k.closes_first (some_list m.graph m.list live are some)
shuts_first c p closing (at_handing n w m h s rest none list is) k = λ some. absurd (some none)
shuts_first c p closing (at_left n w m cause live are) k = λ some. k.closes_first (some_list m.graph m.list live are some)
shuts_first c p closing (at_returning n w m s cause live are) k = λ some. k.closes_first (some_list m.graph m.list live are some)
shuts_first c p closing (at_handed_off n w m s none list) k = λ some. absurd (some none)
shuts_first c p closing (at_stopped n w m s none list) k = λ some. absurd (some none)
