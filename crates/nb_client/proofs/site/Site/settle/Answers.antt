use Rattle.std.proofs.Common.{[], ◌∷◌, refl, sym, subst, append-nil}
use Rattle.nb_defs.specs.Records.{out_texts, result}
use Rattle.nb_record.specs.Logged.{Puts}
use Rattle.nb_traced.specs.Pieces.{event_records}
use Rattle.nb_runner.proofs.Puts.{Puts-outs}
use Rattle.nb_network.specs.Many.{AreSound}
use Rattle.nb_runner.specs.declared.world.World.{World}
use Rattle.nb_client.proofs.Moves.{settings_sound}
use Rattle.nb_client.proofs.site.Site.settle.Goals as goal

pub let_go-requires-clause-sound : goal.let_go-requires-clause-sound
let_go-requires-clause-sound c =
    let m = c.args.self.now.opens in
    subst (λ (w : World). AreSound w.w w.opens w.net m) (sym c.follow.ensures) (settings_sound _ _ c.requires.sound).opens

pub returns : goal.returns
returns c =
    let l = c.in_ok-let_go.ensures.lets in
    let first : Puts c.args.out.now c.let_go.new.out (out_texts (event_records l.events)) = subst (λ z. Puts c.args.out.now c.let_go.new.out (out_texts z)) (append-nil (event_records l.events)) l.puts in
    rw c.in_ok-cause.ensures.settles (record {
      between = record c.args.self.now { world = c.follow.new.self; desk = c.take.new.self };
      same_used = refl;
      same_opens = refl;
      world = c.follow.ensures;
      used = c.in_ok-let_go.ensures.used;
      same_world = c.in_ok-let_go.ensures.world;
      there = c.go_on_with.ensures.stage;
      lets = record {
        events = l.events;
        puts = Puts-outs (event_records l.events) (result c.in_ok-cause.cause ∷ []) first c.go_on_with.ensures.puts;
        same_list = l.same_list;
        state = l.state;
        sound = subst (λ (z : World). AreSound c.follow.new.self.w z.opens c.follow.new.self.net c.let_go.new.self.opens) c.follow.ensures l.sound;
        serials = l.serials;
        traces = rw c.follow.ensures at l.traces;
      };
    })
