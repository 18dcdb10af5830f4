use Rattle.std.proofs.Common.{arith, refl, ◌∙◌}
use Rattle.nb_network.specs.Openings.{number_by}
use Rattle.nb_client.proofs.OpenWaits.{one_waits}
use Rattle.nb_client.proofs.site.Site.begin_beside.Goals as goal

pub returns-clause-begins : goal.returns-clause-begins
returns-clause-begins c =
    let now = c.args.self.now in
    record {
      opens = c.in_ok-chain.ensures.opens now.world.w c.requires.sound;
      used = refl;
      world = refl;
      sound = c.in_ok-chain.ensures.sound now.world.w c.requires.sound c.requires.few c.requires.own (λ _. c.requires.tied);
      serials = omega (arith, c.in_ok-chain.ensures.serials, c.requires.serials);
      linked = record { address = c.in_ok-chain.ensures.address ∙ c.requires.linked.address; up = c.in_ok-chain.ensures.up ∙ c.requires.linked.up };
      waiting = one_waits c.args.kind c.in_ok-chain.chain (number_by c.in_ok-chain.ended now.world.opens) c.begin_beside.new.self c.in_ok-chain.ensures.waits c.in_ok-chain.ensures.newest;
    }
