-- How the records used and put lead the client on.
use Rattle.std.proofs.Common.{◌≡◌, List, [], ◌∷◌, ◌++◌, sym, subst, append-nil}
use Rattle.nb_defs.specs.Records.{In, Out}
use Rattle.nb_record.specs.Logged.{Logged}
use Rattle.nb_machine.specs.Courses.{nowhere}
use Rattle.nb_traced.specs.Holdings.{no_holdings}
use Rattle.nb_traced.specs.Outputs.{at_first}
use Rattle.nb_traced.specs.Plain.{without_graph}
use Rattle.nb_traced.proofs.Following.{rests as none_runs}
use Rattle.nb_client.specs.Snapshots.{Snapshot, snapshot, StandsForProgress, at_ready, FitsOutput}
use Rattle.nb_client.specs.Progressing.{AdvancesFrom, IsAtWork}
use Rattle.nb_client.specs.declared.stage.Stage.TheVariants as stage
use Rattle.nb_boot.specs.Following.{FollowsMachine, nothing, uses, goes_on}
use Rattle.nb_boot.proofs.Standing.{stands_at_work}
use Rattle.nb_labrun.specs.Playing.{HasLedClient}
use Rattle.nb_labrun.proofs.KeepingLemmas.{IsLabRecord, stays_in_lab, used_in_lab}

-- by moves
pub led_moves : (ins : List In) (outs : List Out) (old new : Logged) (c c' : Snapshot) (led : HasLedClient ins outs c) (g : AdvancesFrom [] led.progress c c' old new) → IsAtWork c.stage → HasLedClient ins (outs ++ g.added) c'
led_moves ins outs old new c c' led g busy =
    let l = g.leads in
    let o = g.traces outs led.holdings led.came led.traced led.fits in
    record {
      progress = l.progress;
      holdings = o.holdings;
      came = led.came ++ g.came;
      stands = l.stands;
      fits = o.fits;
      follows = subst (λ xs. FollowsMachine ins (outs ++ g.added) l.progress (led.came ++ xs)) (sym g.begins)
          (subst (λ xs. FollowsMachine ins (outs ++ g.added) l.progress xs) (sym (append-nil led.came))
          (goes_on ins outs led.progress led.came g.added l.progress led.follows (stands_at_work c led.progress led.stands busy) l.steps));
      traced = o.traced;
      in_lab = stays_in_lab led.progress (without_graph g.added) l.progress led.in_lab l.steps;
    }

-- by a record
pub led_uses : (r : In) (ins : List In) (outs : List Out) (old new : Logged) (c c' : Snapshot) (led : HasLedClient ins outs c) (g : AdvancesFrom (r ∷ []) led.progress c c' old new) → IsLabRecord r → HasLedClient (ins ++ r ∷ []) (outs ++ g.added) c'
led_uses r ins outs old new c c' led g is =
    let l = g.leads in
    let o = g.traces outs led.holdings led.came led.traced led.fits in
    record {
      progress = l.progress;
      holdings = o.holdings;
      came = led.came ++ g.came;
      stands = l.stands;
      fits = o.fits;
      follows = uses ins outs led.progress led.came r g.added l.progress g.came led.follows (none_runs outs led.holdings led.came led.traced) l.steps g.begins;
      traced = o.traced;
      in_lab = used_in_lab led.progress r (without_graph g.added) l.progress is led.in_lab l.steps;
    }

-- a client before any record
pub led_nowhere : (c : Snapshot) → c.used ≡ 0 → c.stage ≡ stage.Ready → FitsOutput c no_holdings → HasLedClient [] [] c
led_nowhere c none ready fits = record {
  progress = nowhere;
  holdings = no_holdings;
  came = [];
  stands = subst (λ n. StandsForProgress (snapshot n c.world c.many c.stage) nowhere) (sym none)
      (subst (λ st. StandsForProgress (snapshot 0 c.world c.many st) nowhere) (sym ready) (at_ready 0 c.world c.many));
  fits = fits;
  follows = nothing;
  traced = at_first;
  in_lab = tt;
}
