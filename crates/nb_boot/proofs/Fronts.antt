-- From what stands at the start of what is held to the run that uses it.
use Rattle.std.proofs.Common.{◌≡◌, ℕ, ◌+◌, List, [], ◌∷◌, ◌++◌, drop, Option, Some, None, sym, ◌∙◌, ap, subst, append-nil, length-append}
use Rattle.nb_defs.specs.Records.{In, in_text, in_texts}
use Rattle.nb_record.specs.Outside.{Outside}
use Rattle.nb_record.specs.Logged.{Logged}
use Rattle.nb_record.specs.Held.{IsFront}
use Rattle.nb_client.specs.Snapshots.{Snapshot}
use Rattle.nb_client.specs.Progressing.{AwaitsRecord}
use Rattle.nb_runner.specs.declared.status.Status.{Status}
use Rattle.nb_boot.specs.Run.{Shows}
use Rattle.nb_boot.specs.Shown.{BeginsWith}
use Rattle.nb_boot.specs.Going.{Goes, Waits, WaitsOn, LeadsOn, Stops, UsesRecord, UsesNext}
use Rattle.nb_boot.proofs.Standing.{stands_between}

-- a record at the front, and what follows it
pub front_texts : (bytes : List ℕ) (r : In) (len : ℕ) → IsFront bytes r len → bytes ≡ in_texts (r ∷ []) ++ drop len bytes
front_texts bytes r len f = f.spelled ∙ ap (λ t. t ++ drop len bytes) (sym (append-nil (in_text r)))

pub front_begins : (bytes : List ℕ) (r : In) (len : ℕ) (Kind : In → Type 0) → IsFront bytes r len → Kind r → BeginsWith bytes Kind
front_begins bytes r len Kind f k = record { entry = r; valid = f.valid; kind = k; more = drop len bytes; spelled = f.spelled }

-- one record more was used
pub waits_next : (r : In) (n : ℕ) (held held' : List ℕ) (first before now : Outside) (old new : Logged) (c c' : Snapshot) → held ≡ in_texts (r ∷ []) ++ held' →
    LeadsOn (r ∷ []) before now old new c c' → Waits n held first before old c → Waits (n + 1) held' first now new c'
waits_next r n held held' first before now old new c c' e l w = record {
  ins = w.ins ++ r ∷ [];
  counted = length-append w.ins (r ∷ []) ∙ ap (λ k. k + 1) w.counted;
  goes = l w.ins held' first (subst (λ xs. Goes w.ins xs first before old c) e w.goes);
}

-- the run is over in the step of the record at the front
pub waits_stops : (r : In) (n : ℕ) (held held' : List ℕ) (s : Status) (first before now : Outside) (old : Logged) (c : Snapshot) → held ≡ in_texts (r ∷ []) ++ held' →
    Stops s (r ∷ []) before now old c → Waits n held first before old c → Shows s first now
waits_stops r n held held' s first before now old c e l w = l w.ins held' first (subst (λ xs. Goes w.ins xs first before old c) e w.goes)

-- more was read, and output was written
pub waits_filled : (n : ℕ) (held held' : List ℕ) (first before now : Outside) (old new : Logged) (c : Snapshot) → WaitsOn held held' before now old new → AwaitsRecord c.stage →
    Waits n held first before old c → Waits n held' first now new c
waits_filled n held held' first before now old new c h rests w = record {
  ins = w.ins;
  counted = w.counted;
  goes = record {
    progress = w.goes.progress;
    holdings = w.goes.holdings;
    stands = w.goes.stands;
    fits = w.goes.fits;
    going = h w.ins first w.goes.progress w.goes.holdings (stands_between c w.goes.progress w.goes.stands rests) w.goes.going;
  };
}

pub uses_filled : (r : Option Status) (a b d : List ℕ) (before mid now : Outside) (old log new : Logged) (c c' : Snapshot) → WaitsOn a b before mid old log → AwaitsRecord c.stage →
    UsesNext r b d mid now log new c c' → UsesNext r a d before now old new c c'
uses_filled None a b d before mid now old log new c c' h rests u = (u.0, λ n first w. u.1 n first (waits_filled n a b first before mid old log c h rests w))
uses_filled (Some s) a b d before mid now old log new c c' h rests u = λ n first w. u n first (waits_filled n a b first before mid old log c h rests w)

-- the same for a client that is the one before
pub waits_there : (n : ℕ) (held held' : List ℕ) (first before now : Outside) (old new : Logged) (c c' : Snapshot) → WaitsOn held held' before now old new → AwaitsRecord c'.stage → c' ≡ c →
    Waits n held first before old c → Waits n held' first now new c'
waits_there n held held' first before now old new c c' h rests same w =
    waits_filled n held held' first before now old new c' h rests (subst (λ x. Waits n held first before old x) (sym same) w)

pub uses_there : (r : Option Status) (a b d : List ℕ) (before mid now : Outside) (old log new : Logged) (c m c' : Snapshot) → WaitsOn a b before mid old log → AwaitsRecord c.stage → m ≡ c →
    UsesNext r b d mid now log new m c' → UsesNext r a d before now old new c c'
uses_there r a b d before mid now old log new c m c' h rests same u =
    uses_filled r a b d before mid now old log new c c' h rests (subst (λ x. UsesNext r b d mid now log new x c') same u)

-- the record at the front was used
pub uses_front : (r : Option Status) (e : In) (held held' : List ℕ) (before now : Outside) (old new : Logged) (c c' : Snapshot) → held ≡ in_texts (e ∷ []) ++ held' →
    UsesRecord r e before now old new c c' → UsesNext r held held' before now old new c c'
uses_front None e held held' before now old new c c' is u = (u.0, λ n first w. waits_next e n held held' first before now old new c c' is u.1 w)
uses_front (Some s) e held held' before now old new c c' is u = λ n first w. waits_stops e n held held' s first before now old c is u w
