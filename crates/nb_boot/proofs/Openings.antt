-- How a run opens: from the bytes held to START and its step.
use Rattle.std.proofs.Common.{◌≡◌, ℕ, List, [], ◌∷◌, ◌++◌, refl, sym, subst}
use Rattle.std.specs.Prelude.{IfOk, IfErr, Result, Ok, Err}
use Rattle.nb_defs.specs.Records.{In, in_texts}
use Rattle.nb_record.specs.Outside.{Outside}
use Rattle.nb_record.specs.Logged.{Logged}
use Rattle.nb_machine.specs.Courses.{nowhere}
use Rattle.nb_traced.specs.Holdings.{no_holdings}
use Rattle.nb_client.specs.Snapshots.{Snapshot, snapshot, StandsForProgress, at_ready, FitsOutput}
use Rattle.nb_client.specs.Progressing.{AwaitsRecord}
use Rattle.nb_client.specs.declared.stage.Stage.TheVariants as stage
use Rattle.nb_runner.specs.declared.status.Status.{Status}
use Rattle.nb_boot.specs.Going.{WaitsOn, LeadsOn, Stops, Opens, RefusesRun}

-- a client before any record
fresh_stands : (c : Snapshot) → c.used ≡ 0 → c.stage ≡ stage.Ready → StandsForProgress c nowhere
fresh_stands c e h =
    subst (λ n. StandsForProgress (snapshot n c.world c.many c.stage) nowhere) (sym e)
    (subst (λ st. StandsForProgress (snapshot 0 c.world c.many st) nowhere) (sym h) (at_ready 0 c.world c.many))

-- START was used, and a command waits
pub opens_used : (r : In) (rest : List ℕ) (before now : Outside) (old new : Logged) (c c' : Snapshot) → c.used ≡ 0 → c.stage ≡ stage.Ready → FitsOutput c no_holdings →
    AwaitsRecord c'.stage × LeadsOn (r ∷ []) before now old new c c' → Opens (in_texts (r ∷ []) ++ rest) rest before now old new c'
opens_used r rest before now old new c c' e h fits (w, l) = (
  w,
  λ first g. record {
    ins = r ∷ [];
    counted = refl;
    goes = l [] rest first (record { progress = nowhere; holdings = no_holdings; stands = fresh_stands c e h; fits = fits; going = g });
  },
)

-- the run is over in START's step
pub refuses_used : (r : In) (rest : List ℕ) (s : Status) (before now : Outside) (old : Logged) (c : Snapshot) → c.used ≡ 0 → c.stage ≡ stage.Ready → FitsOutput c no_holdings →
    Stops s (r ∷ []) before now old c → RefusesRun s (in_texts (r ∷ []) ++ rest) before now old
refuses_used r rest s before now old c e h fits l = λ first g.
    l [] rest first (record { progress = nowhere; holdings = no_holdings; stands = fresh_stands c e h; fits = fits; going = g })

-- what was read before
pub opens_filled : (r : Result Snapshot Status) (a b d : List ℕ) (before mid now : Outside) (old log new : Logged) → WaitsOn a b before mid old log →
    IfOk r (λ c. Opens b d mid now log new c) → IfOk r (λ c. Opens a d before now old new c)
opens_filled (Ok c) a b d before mid now old log new h o = (o.0, λ first g. o.1 first (h [] first nowhere no_holdings tt g))
opens_filled (Err s) a b d before mid now old log new h o = tt

pub refuses_filled : (r : Result Snapshot Status) (a b : List ℕ) (before mid now : Outside) (old log : Logged) → WaitsOn a b before mid old log →
    IfErr r (λ s. RefusesRun s b mid now log) → IfErr r (λ s. RefusesRun s a before now old)
refuses_filled (Ok c) a b before mid now old log h o = tt
refuses_filled (Err s) a b before mid now old log h o = λ first g. o first (h [] first nowhere no_holdings tt g)
