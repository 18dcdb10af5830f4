use Rattle.std.proofs.Common.{arith, refl, ◌∙◌}
use Rattle.nb_network.specs.Openings.{number_by}
use Rattle.nb_client.proofs.OpenWaits.{nothing_waits}
use Rattle.nb_client.proofs.site.Site.begin_alone.Goals as goal

pub returns-clause-begins : goal.returns-clause-begins
returns-clause-begins c = λ kind.
    let now = c.args.self.now in
    record {
      opens = c.in_ok-ended.ensures.opens now.world.w c.requires.sound;
      used = refl;
      world = refl;
      sound = c.in_ok-ended.ensures.sound now.world.w c.requires.sound c.requires.few c.requires.own (λ _. c.requires.tied);
      serials = omega (arith, c.in_ok-ended.ensures.serials, c.requires.serials);
      linked = record { address = c.in_ok-ended.ensures.address ∙ c.requires.linked.address; up = c.in_ok-ended.ensures.up ∙ c.requires.linked.up };
      waiting = nothing_waits kind (number_by c.in_ok-ended.ended now.world.opens) c.begin.new.self;
    }
