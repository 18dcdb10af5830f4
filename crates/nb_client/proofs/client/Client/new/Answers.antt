use Rattle.std.proofs.Common.{◌≡◌, [], refl, sym, ◌∙◌, ap, arith}
use Rattle.std.specs.Prelude.{map}
use Rattle.nb_ledger.specs.Ledger.{Ledger, holds, object_lives, port, run_state}
use Rattle.nb_traced.specs.Holdings.{no_state}
use Rattle.nb_network.specs.Many.{kin_of}
use Rattle.nb_client.proofs.client.Client.new.Goals as goal

none_run : (l : Ledger) → l.made ≡ 0 → l.objects ≡ [] → no_state ≡ run_state l []
unfolding object_lives holds port
none_run l m o = sym (ap (λ os. run_state (record l { objects = os }) []) o ∙ ap (λ k. run_state (record l { objects = []; made = k }) []) m)

pub returns-clause-fits : goal.returns-clause-fits
returns-clause-fits c =
    let e = c.in_ok-new.ensures in
    record {
      state = none_run c.in_ok-new.field-0.opens.graph.book e.made e.objects;
      living = sym (ap (map kin_of) e.list);
      waiting = refl;
      numbered = omega arith;
    }
