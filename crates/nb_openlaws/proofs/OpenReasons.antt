-- A record is used: what the network puts has its reasons, where the history agrees with the opens that live.
use Rattle.std.proofs.Common.{ℕ, List, [], ◌∷◌, ◌++◌, sym, subst}
use Rattle.nb_defs.specs.Records.{In, Out}
use Rattle.nb_machine.specs.States.{State}
use Rattle.nb_machine.specs.Takings.{Over}
use Rattle.nb_machine.specs.Network.{Network}
use Rattle.nb_laws.specs.Events.{Event}
use Rattle.nb_openlaws.specs.Standings.{AgreesState}
use Rattle.nb_openlaws.specs.OpenReasons.{OpensAgree, GivesReasons}
use Rattle.nb_openlaws.proofs.AllReasons.{TakenSo}
use Rattle.nb_openlaws.proofs.NetworkReasons.{network_reasons}
use Rattle.nb_openlaws.proofs.Networks.{network_agrees, event_is}

pub network_so : (es : List Event) (s s2 : State) (n : ℕ) (r : In) (put : List Out) (over : List Over) (net : Network s n r put s2 over) (o : OpensAgree es s) (a : AgreesState es s) → TakenSo (es ++ (network_agrees es s n r put s2 over net a).event ∷ []) put over
network_so es s s2 n r put over net o a =
    subst (λ e. TakenSo (es ++ e ∷ []) put over) (sym (event_is es s n r put s2 over net a)) (network_reasons es s n r put s2 over net o.base o.device o.kept o.ways o.advanced o.sessions)

pub gives_reasons : (es : List Event) (s s2 : State) (n : ℕ) (r : In) (put : List Out) (over : List Over) → OpensAgree es s → Network s n r put s2 over → GivesReasons es r put
gives_reasons es s s2 n r put over o net =
    let u = network_agrees es s n r put s2 over net o.base in
    record { event = u.event; is_record = u.is_record; reasons = (network_so es s s2 n r put over net o o.base).reasons }
