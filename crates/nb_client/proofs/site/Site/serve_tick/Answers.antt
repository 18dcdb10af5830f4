use Rattle.std.proofs.Common.{◌+◌, refl, ◌∙◌, ap, arith}
use Rattle.nb_client.proofs.site.Site.serve_tick.Goals as goal

pub returns-clause-serves : goal.returns-clause-serves
returns-clause-serves c =
    let w = c.args.self.now.world in
    let sound = c.requires.sound.1 in
    let e = c.in_ok-ended.ensures in
    let f = c.forget_ended.ensures in
    rw (f.used, f.opens, f.world) (record {
      takes = λ s is. e.takes w.w w.opens w.time (ap (λ x. w.time + x) c.from.ensures) sound.opens s is;
      hooked = sound.hooked.kept;
      used = refl;
      world = refl;
      time = omega (arith, sound.time, c.requires.valid, c.from.ensures);
      opens = e.sound w.w w.opens sound.opens;
      linked = record { address = e.address ∙ sound.linked.address; up = e.up ∙ sound.linked.up };
    })
