use Rattle.std.proofs.Common.{◌≡◌, ℕ, List, Bor, true, false, Some, None, sym, ◌∙◌, ap}
use Rattle.std.specs.Prelude.{find, option_map}
use Rattle.std.specs.Option.{is_some, option_and_then}
use Rattle.nb_machine.specs.Kinds.{read_last}
use Rattle.nb_machine.specs.Scripts.{has_number}
use Rattle.nb_network.proofs.Sound.{some_live}
use Rattle.nb_client.specs.Snapshots.{state_of_world}
use Rattle.nb_client.specs.Soundness.{HasReadAs}
use Rattle.nb_client.proofs.Results.{if_ok}
use Rattle.nb_client.proofs.Served.{state_is}
use Rattle.nb_client.proofs.site.Site.first_block.Goals as goal

pub unreachable-requires : goal.unreachable-requires
unreachable-requires c =
    let now = c.args.self.now in
    let w = now.world in
    let lives = some_live now.opens.graph now.opens.list c.requires.sound.lives in
    let spoke : HasReadAs true c.args.number now.opens = rw c.in-Drive.is at c.requires.fits in
    let none : option_and_then read_last (find (has_number c.args.number) lives.0) ≡ None =
    sym (c.read.ensures w.net w.time (state_of_world w lives.0) (state_is w now.opens lives.0 lives.1)) ∙ ap (option_map (λ (b : Bor (List ℕ)). b.now)) c.in-None.is in
    let bad : true ≡ false = spoke lives.0 lives.1 ∙ ap is_some none in cc

pub returns-in_ok-copy-in-Some : goal.returns-in_ok-copy-in-Some
returns-in_ok-copy-in-Some c =
    let now = c.args.self.now in
    let w = now.world in
    record {
      came = rw c.in-Drive.is (if_ok c.whole_block.result (λ b h. rw h.0 (
        (λ live are. sym (c.read.ensures w.net w.time (state_of_world w live) (state_is w now.opens live are))
            ∙ (ap (option_map (λ (b : Bor (List ℕ)). b.now)) c.in-Some.is ∙ ap Some (sym c.in_ok-copy-in-Some.ensures))),
        h.1,
      )) c.whole_block.ensures);
    }
